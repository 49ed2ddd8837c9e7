-- Facts on layouts: each struct has the layout of its members, and the index of a struct bounds what it names.
use Rattle.std.proofs.Common.{◌≡◌, ℕ, zero, suc, ◌+◌, ◌*◌, ◌<◌, ◌≤◌, refl, sym, ap, ◌∙◌, List, [], ◌∷◌, length, Some, arith, ◌==◌, subst}
use Rattle.std.proofs.Common.{if◌then◌else◌}
use Rattle.std.proofs.Common.{map, option_map, zero-add, add-one, get_or, drop, drop-cons, ◌++◌, append_assoc}
use Rattle.std.proofs.lemmas.Bool.Decides.{nat_tests}
use Rattle.std.proofs.lemmas.Option.{slice_get-map, slice_get_read}
use Rattle.std.proofs.Common.{◌^◌, ◌/◌, lit≤}
use Rattle.std.proofs.Math.Nat.{mul-le-mul_right}
use Rattle.ec_fx.specs.declared.formats.FxKind.{FxKind}
use Rattle.ec_fx.specs.declared.formats.FxKind.TheVariants.{ShortFract, Fract, LongFract, ShortAccum, Accum, LongAccum, UnsignedShortFract}
use Rattle.ec_fx.specs.declared.formats.FxKind.TheVariants.{UnsignedFract, UnsignedLongFract, UnsignedShortAccum, UnsignedAccum}
use Rattle.ec_fx.specs.declared.formats.FxKind.TheVariants.{UnsignedLongAccum}
use Rattle.ec_fx.specs.Formats.{format_of}
use Rattle.ec_space.specs.declared.space.SpaceId.{SpaceId}
use Rattle.ec_space.specs.declared.space.SpaceId.TheVariants.{Flash, FarFlash, Data, Generic}
use Rattle.ec_space.specs.Spaces.{width}
use Rattle.ec_core.specs.declared.types.Member.{Member}
use Rattle.ec_core.specs.declared.types.StructDef.{StructDef}
use Rattle.ec_core.specs.Plain.{plain_struct, plain_member, plain_type}
use Rattle.std.specs.Prelude.{slice_get}
use Rattle.std.specs.List.{AllByRecursion}
use Rattle.ec_core.specs.Plain.{PlainType, void, integer, fixed, pointer, array, struct, PlainMember, PlainStruct}
use Rattle.ec_core.specs.Layout.{PlainLeaf, Layout, empty_layout, followed_by, repeated, type_layout, members_layout, layouts_from}
use Rattle.ec_core.specs.Layout.{struct_layouts, NamesBelow, IsElement, IsObjectType, NameEarlier, AreStructs, size_of_type}

-- ---- sizes

pub size-repeated : (n : ℕ) (a : Layout) → (repeated n a).size ≡ n * a.size
size-repeated zero a = omega arith
size-repeated (suc n) a = let h : (repeated n a).size ≡ n * a.size = size-repeated n a in omega (arith, h)

-- ---- a struct has the layout of its members

pub other : (i n : ℕ) (a b : Layout) → i < n → (if i == n then a else b) ≡ b
other i n a b h = grind (arith, nat_tests)

pub same : (n : ℕ) (a b : Layout) → (if n == n then a else b) ≡ a
same n a b = grind (arith, nat_tests)

-- the layouts below n stay as they are given
pub layouts_below : (earlier : ℕ → Layout) (n : ℕ) (ss : List PlainStruct) (i : ℕ) → i < n → layouts_from earlier n ss i ≡ earlier i
layouts_below earlier n [] i h = refl
layouts_below earlier n (s ∷ ss) i h =
    let new : Layout = members_layout earlier s.members in
    layouts_below (λ j. if j == n then new else earlier j) (n + 1) ss i (omega arith) ∙ other i n new (earlier i) h

-- types that name only structs below n have one layout, where those structs have
pub type_agrees : (n : ℕ) (f g : ℕ → Layout) → ((i : ℕ) → i < n → f i ≡ g i) → (ty : PlainType) → NamesBelow n ty
    → type_layout f ty ≡ type_layout g ty
type_agrees n f g same void h = refl
type_agrees n f g same (integer signed bytes) h = refl
type_agrees n f g same (fixed kind saturates) h = refl
type_agrees n f g same (pointer space const to) h = refl
type_agrees n f g same (array of len) h = ap (repeated len) (type_agrees n f g same of h)
type_agrees n f g same (struct index) h = same index h

pub members_agree : (n : ℕ) (f g : ℕ → Layout) → ((i : ℕ) → i < n → f i ≡ g i) → (ms : List PlainMember)
    → AllByRecursion (λ m. IsObjectType n m.ty) ms → members_layout f ms ≡ members_layout g ms
members_agree n f g same [] h = refl
members_agree n f g same (m ∷ ms) h =
    let first = type_agrees n f g same m.ty h.0.names in
    let rest = members_agree n f g same ms h.1 in
    λ i. followed_by (first i) (rest i)

pub struct_at : (earlier : ℕ → Layout) (n : ℕ) (ss : List PlainStruct) (k : ℕ) (s : PlainStruct) → NameEarlier n ss
    → slice_get ss k ≡ Some s → layouts_from earlier n ss (n + k) ≡ members_layout (layouts_from earlier n ss) s.members
struct_at earlier n [] k s h e = cc
struct_at earlier n (d ∷ ss) zero s h e =
    let new : Layout = members_layout earlier d.members in
    let next : ℕ → Layout = λ j. if j == n then new else earlier j in
    let all : ℕ → Layout = layouts_from next (n + 1) ss in
    let first : all n ≡ new = layouts_below next (n + 1) ss n (omega arith) ∙ same n new (earlier n) in
    let kept : (i : ℕ) → i < n → earlier i ≡ all i =
    λ i below. sym (layouts_below next (n + 1) ss i (omega arith) ∙ other i n new (earlier i) below) in
    let made : new ≡ members_layout all d.members = members_agree n earlier all kept d.members h.0 in
    let place : n + 0 ≡ n = omega arith in
    let is : d ≡ s = cc in
    ap all place ∙ first ∙ made ∙ ap (λ (x : PlainStruct). members_layout all x.members) is
struct_at earlier n (d ∷ ss) (suc k) s h e =
    let next : ℕ → Layout = λ j. if j == n then members_layout earlier d.members else earlier j in
    let place : n + suc k ≡ n + 1 + k = omega arith in
    ap (layouts_from next (n + 1) ss) place ∙ struct_at next (n + 1) ss k s h.1 e

-- the members of the struct with number k name only structs below k
pub named_earlier : (n : ℕ) (ss : List PlainStruct) (k : ℕ) (s : PlainStruct) → NameEarlier n ss → slice_get ss k ≡ Some s
    → AllByRecursion (λ m. IsObjectType (n + k) m.ty) s.members
named_earlier n [] k s h e = cc
named_earlier n (d ∷ ss) zero s h e =
    let is : d ≡ s = cc in
    let place : n ≡ n + 0 = omega arith in
    let P : ℕ × PlainStruct → Type 0 = λ p. AllByRecursion (λ m. IsObjectType p.0 m.ty) p.1.members in
    subst P (λ i. (place i, is i)) h.0
named_earlier n (d ∷ ss) (suc k) s h e =
    let place : n + 1 + k ≡ n + suc k = omega arith in
    let P : ℕ → Type 0 = λ j. AllByRecursion (λ m. IsObjectType j m.ty) s.members in
    subst P place (named_earlier (n + 1) ss k s h.1 e)

-- ---- what a type names bounds the index of its struct

-- how deep the look-up of a type's layout may go
abbrev pub type_weight : PlainType → ℕ
type_weight void = 0
type_weight (integer signed bytes) = 0
type_weight (fixed kind saturates) = 0
type_weight (pointer space const to) = 0
type_weight (array of len) = type_weight of
type_weight (struct index) = 4 * index + 4

pub weight_below : (n : ℕ) (ty : PlainType) → NamesBelow n ty → type_weight ty ≤ 4 * n
weight_below n void h = omega arith
weight_below n (integer signed bytes) h = omega arith
weight_below n (fixed kind saturates) h = omega arith
weight_below n (pointer space const to) h = omega arith
weight_below n (array of len) h = weight_below n of h
weight_below n (struct index) h = omega arith

pub names_more : (m n : ℕ) (ty : PlainType) → m ≤ n → NamesBelow m ty → NamesBelow n ty
names_more m n void le h = tt
names_more m n (integer signed bytes) le h = tt
names_more m n (fixed kind saturates) le h = tt
names_more m n (pointer space const to) le h = names_more m n to le h
names_more m n (array of len) le h = names_more m n of le h
names_more m n (struct index) le h = omega arith

pub object_more : (m n : ℕ) (ty : PlainType) → m ≤ n → IsObjectType m ty → IsObjectType n ty
object_more m n ty le h = record { names = names_more m n ty le h.names; form = h.form }

-- ---- a struct of a program

-- what is known of the struct with number i and its members
pub record IsStructAt (structs : List PlainStruct) (i : ℕ) (members : List PlainMember) : Type 0 where
  pub layout : struct_layouts structs i ≡ members_layout (struct_layouts structs) members
  pub earlier : AllByRecursion (λ m. IsObjectType i m.ty) members
  pub small : (members_layout (struct_layouts structs) members).size ≤ 32_767

pub struct_read : (structs : List StructDef) (i : ℕ) (d : StructDef) → AreStructs (map plain_struct structs) → i < length structs
    → d ≡ get_or structs i d → IsStructAt (map plain_struct structs) i (map plain_member d.members.items)
struct_read structs i d h below read =
    let all : List PlainStruct = map plain_struct structs in
    let found : slice_get all i ≡ Some (plain_struct d) =
    slice_get-map plain_struct structs i ∙ ap (option_map plain_struct) (slice_get_read structs (length structs) i d refl below read) in
    let layout : struct_layouts all i ≡ members_layout (struct_layouts all) (plain_struct d).members =
    ap (struct_layouts all) (sym (zero-add i)) ∙ struct_at (λ j. empty_layout) 0 all i (plain_struct d) h.earlier found in
    let P : ℕ → Type 0 = λ j. AllByRecursion (λ m. IsObjectType j m.ty) (plain_struct d).members in
    let size : (struct_layouts all i).size ≡ (members_layout (struct_layouts all) (plain_struct d).members).size =
    ap (λ (x : Layout). x.size) layout in
    let small : (struct_layouts all i).size ≤ 32_767 = h.small i in
    record {
      layout = layout;
      earlier = subst P (zero-add i) (named_earlier 0 all i (plain_struct d) h.earlier found);
      small = omega (arith, size, small);
    }

pub member_drop : (members : List Member) (k : ℕ) (m : Member) → k < length members → m ≡ get_or members k m
    → drop k members ≡ m ∷ drop (k + 1) members
member_drop members k m below read = rw add-one (drop-cons members k m below ∙ ap (λ (x : Member). x ∷ drop (suc k) members) (sym read))

-- the member at place k, where a fact holds of each member from there on
pub member_read : (P : PlainMember → Type 0) (members : List Member) (k : ℕ) (m : Member) → k < length members → m ≡ get_or members k m
    → AllByRecursion P (map plain_member (drop k members)) → P (plain_member m) × AllByRecursion P (map plain_member (drop (k + 1) members))
member_read P members k m below read h =
    let Q : List Member → Type 0 = λ ms. AllByRecursion P (map plain_member ms) in
    subst Q (member_drop members k m below read) h

-- the members from place k on are that member and the rest behind it
pub member_layout : (all : ℕ → Layout) (members : List Member) (k : ℕ) (m : Member) → k < length members
    → m ≡ get_or members k m → members_layout all (map plain_member (drop k members))
    ≡ followed_by (type_layout all (plain_type m.ty)) (members_layout all (map plain_member (drop (k + 1) members)))
member_layout all members k m below read =
    ap (λ (ms : List Member). members_layout all (map plain_member ms)) (member_drop members k m below read)

-- ---- leaves that were appended

pub repeated_step : (n at offset : ℕ) (a : Layout) (before done after : List PlainLeaf)
    → offset ≡ at + n * a.size → done ≡ before ++ (repeated n a).leaves_at at → after ≡ done ++ a.leaves_at offset
    → after ≡ before ++ (repeated (n + 1) a).leaves_at at
repeated_step n at offset a before done after o d e =
    let place : offset ≡ at + (repeated n a).size = o ∙ ap (λ (k : ℕ). at + k) (sym (size-repeated n a)) in
    rw (add-one n) (e ∙ ap (λ (xs : List PlainLeaf). xs ++ a.leaves_at offset) d ∙ append_assoc before ((repeated n a).leaves_at at)
    (a.leaves_at offset) ∙ ap (λ (k : ℕ). before ++ ((repeated n a).leaves_at at ++ a.leaves_at k)) place)

pub beside_step : (offset next : ℕ) (a b : Layout) (done after whole : List PlainLeaf) → next ≡ offset + a.size
    → done ++ (followed_by a b).leaves_at offset ≡ whole → after ≡ done ++ a.leaves_at offset → after ++ b.leaves_at next ≡ whole
beside_step offset next a b done after whole n d e =
    ap (λ (xs : List PlainLeaf). xs ++ b.leaves_at next) e ∙ append_assoc done (a.leaves_at offset) (b.leaves_at next)
    ∙ ap (λ (k : ℕ). done ++ (a.leaves_at offset ++ b.leaves_at k)) n ∙ d

-- ---- bounds

kind_bound : (kind : FxKind) → (format_of kind).bits / 8 ≤ 8
kind_bound ShortFract = lit≤ tt
kind_bound Fract = lit≤ tt
kind_bound LongFract = lit≤ tt
kind_bound ShortAccum = lit≤ tt
kind_bound Accum = lit≤ tt
kind_bound LongAccum = lit≤ tt
kind_bound UnsignedShortFract = lit≤ tt
kind_bound UnsignedFract = lit≤ tt
kind_bound UnsignedLongFract = lit≤ tt
kind_bound UnsignedShortAccum = lit≤ tt
kind_bound UnsignedAccum = lit≤ tt
kind_bound UnsignedLongAccum = lit≤ tt

width_bound : (space : SpaceId) → width space ≤ 3
width_bound Flash = lit≤ tt
width_bound FarFlash = lit≤ tt
width_bound Data = lit≤ tt
width_bound Generic = lit≤ tt

pub element_bound : (structs : List PlainStruct) (ty : PlainType) → AreStructs structs → IsElement ty → size_of_type structs ty ≤ 32_767
element_bound structs void h e = absurd e
element_bound structs (integer signed bytes) h e = omega arith
element_bound structs (fixed kind saturates) h e = let k : (format_of kind).bits / 8 ≤ 8 = kind_bound kind in omega arith
element_bound structs (pointer space const to) h e = let w : width space ≤ 3 = width_bound space in omega arith
element_bound structs (array of len) h e = absurd e
element_bound structs (struct index) h e = h.small index

pub object_bound : (structs : List PlainStruct) (n : ℕ) (ty : PlainType) → AreStructs structs → IsObjectType n ty
    → size_of_type structs ty < 2 ^ 32
object_bound structs n void h o = absurd o.form
object_bound structs n (integer signed bytes) h o =
    let b : bytes ≤ 32_767 = element_bound structs (integer signed bytes) h o.form in
    omega arith
object_bound structs n (fixed kind saturates) h o = let b = element_bound structs (fixed kind saturates) h o.form in omega (arith, b)
object_bound structs n (pointer space const to) h o = let b = element_bound structs (pointer space const to) h o.form in omega (arith, b)
object_bound structs n (array of len) h o =
    let b = element_bound structs of h o.form.0 in
    let size : ℕ = size_of_type structs of in
    let most : len * size ≤ 32_767 * size = mul-le-mul_right size o.form.1 in
    let e = size-repeated len (type_layout (struct_layouts structs) of) in
    omega (arith, b, most, e)
object_bound structs n (struct index) h o = let b = h.small index in omega (arith, b)
