-- The bytes of a watched number: whose they are, and which events write them.
use Rattle.std.proofs.Common.{◌≡◌, ℕ, zero, suc, ◌+◌, ◌-◌, ◌<◌, ◌≤◌, ◌⊎◌, inl, inr, Bool, true, false, ◌&&◌, List, [], ◌∷◌, ◌++◌}
use Rattle.std.proofs.Common.{Some, refl, sym, ap, ◌∙◌, subst, arith}
use Rattle.std.specs.Prelude.{◌==◌, slice_get}
use Rattle.std.specs.List.{AllByRecursion}
use Rattle.std.proofs.lemmas.Bool.{cases_Bool, and_parts, and_from, eqb-true, eq-eqb, ne_eqb}
use Rattle.ec_space.specs.Memory.{data_size}
use Rattle.ec_space.specs.declared.space.Bank.TheVariants.{Data as DataBank}
use Rattle.ec_space.specs.declared.space.Place.{Place}
use Rattle.ec_space.specs.declared.space.SpaceId.{SpaceId}
use Rattle.ec_avr.specs.declared.machine.Access.{Access}
use Rattle.ec_avr.specs.declared.machine.Access.TheVariants.{Write as ByteWrite}
use Rattle.ec_core.specs.declared.arithmetic_types.Arithmetic.{Arithmetic}
use Rattle.ec_core.specs.declared.programs.LeafInit.{LeafInit}
use Rattle.ec_core.specs.ArithmeticTypes.{arithmetic_of}
use Rattle.ec_core.specs.Layout.{PlainLeaf, scalar_size, leaves_of_type}
use Rattle.ec_core.specs.Plain.{PlainObject, PlainProgram}
use Rattle.ec_core.specs.State.{Event, In, Out, Read, Write}
use Rattle.ec_emu_watch.specs.declared.point.WatchPoint.{WatchPoint}
use Rattle.ec_emu_watch.specs.Points.{last_byte, writes_last}
use Rattle.ec_ir.specs.Temporaries.{low_bytes}
use Rattle.ec_map.specs.Regions.{end_of}
use Rattle.ec_map.specs.declared.map.Map.{Map}
use Rattle.ec_locate.specs.declared.placing.Located.{Located}
use Rattle.ec_select_functions.specs.Relation.{number_told, byte_accesses, event_accesses, accesses}
use Rattle.ec_build_laws.specs.Kinds.{place_of}
use Rattle.ec_build_laws.specs.Whole.{is_own_byte, IsHomeByte, IsForEvent, AreForEvents}
use Rattle.ec_watch_points.specs.Numbers.{is_signed}
use Rattle.ec_watch_laws.proofs.Points.{expand, IsSilent, IsPoint, Kind, point as a_point, other as no_point, HaveKinds}

-- an address is that of a byte of leaf k of object o
pub record IsIn (base size a : ℕ) : Type 0 where
  pub from_there : base ≤ a
  pub within : a < base + size

-- What is known of a point: it is a number of a type, in a leaf of an object of the data bank. Its bytes lie in the SRAM, none
-- is of scratch memory, of the work bytes or of the stack, and none is that of another leaf
pub record IsAlone (p : PlainProgram) (m : Map) (l : Located) (point : WatchPoint) : Type 0 where
  pub object : PlainObject
  pub leaf : PlainLeaf
  pub ty : Arithmetic
  pub is_object : slice_get p.objects point.object ≡ Some object
  pub is_leaf : slice_get (leaves_of_type p.structs object.ty) point.leaf ≡ Some leaf
  pub arithmetic : arithmetic_of leaf.ty ≡ Some ty
  pub place : point.place ≡ record { bank = DataBank; offset = place_of l point.object + leaf.at }
  pub signed : point.signed ≡ is_signed ty
  pub bytes : point.bytes ≡ scalar_size leaf.ty
  pub some : 1 ≤ scalar_size leaf.ty
  pub high : 256 ≤ place_of l point.object + leaf.at
  pub low : place_of l point.object + leaf.at + scalar_size leaf.ty ≤ data_size m.core
  pub own : (a : ℕ) → IsIn (place_of l point.object + leaf.at) (scalar_size leaf.ty) a → is_own_byte p m l a ≡ false
  pub alone : (o k a : ℕ) (space : SpaceId) → IsHomeByte p l o k space DataBank a
      → IsIn (place_of l point.object + leaf.at) (scalar_size leaf.ty) a → (o ≡ point.object) × (k ≡ point.leaf)
  pub off : (a : ℕ) → IsIn (place_of l point.object + leaf.at) (scalar_size leaf.ty) a → (a < m.stack.first) ⊎ (end_of m.stack ≤ a)

both_append : {A : Type 0} (P : A → Type 0) (xs ys : List A) → AllByRecursion P xs → AllByRecursion P ys → AllByRecursion P (xs ++ ys)
both_append P [] ys a b = b
both_append P (x ∷ xs) ys a b = (a.0, both_append P xs ys a.1 b)

all_map : {A : Type 0} (P Q : A → Type 0) (xs : List A) → ((x : A) → P x → Q x) → AllByRecursion P xs → AllByRecursion Q xs
all_map P Q [] f h = tt
all_map P Q (x ∷ xs) f h = (f x h.0, all_map P Q xs f h.1)

module _ (p : PlainProgram) (m : Map) (l : Located) (point : WatchPoint) (h : IsAlone p m l point) where
  abbrev pub base : ℕ
  base = place_of l point.object + h.leaf.at

  abbrev pub size : ℕ
  size = scalar_size h.leaf.ty

  abbrev pub bytes_of : Event → List Access
  bytes_of = event_accesses p (place_of l)

  abbrev pub watched : Access → Bool
  watched = writes_last point

  pub last_is : last_byte point ≡ base + size - 1
  last_is = ap (λ (z : Place). z.offset + point.bytes - 1) h.place ∙ ap (λ n. base + n - 1) h.bytes

  -- the number that stands for a value in the leaf
  abbrev pub number_in : LeafInit → ℕ
  number_in told = low_bytes size (number_told p (place_of l) size told)

  pub event_is : (space : SpaceId) (told : LeafInit)
      → bytes_of (Write point.object point.leaf space told) ≡ byte_accesses ByteWrite base (number_in told) size
  event_is space told = rw (h.is_object, h.is_leaf) refl

  -- ---- an event that writes the leaf is a point

  silent_bytes : (n k number : ℕ) → k ≤ n → last_byte point ≡ base + n → IsSilent bytes_of watched (byte_accesses ByteWrite base number k)
  silent_bytes n zero number less e = tt
  silent_bytes n (suc k) number less e =
      both_append (λ a. watched a ≡ false) (byte_accesses ByteWrite base number k) _ (silent_bytes n k number (omega (arith, less)) e)
      (ne_eqb (base + k) (last_byte point) (λ same. let no = same ∙ e in absurd (omega (arith, less, no))), tt)

  point_of : (n number : ℕ) (e : Event) → bytes_of e ≡ byte_accesses ByteWrite base number (suc n) → last_byte point ≡ base + n
      → IsPoint bytes_of watched e
  point_of n number e is last = record {
    front = byte_accesses ByteWrite base number n;
    last = ByteWrite (base + n) _;
    is = is;
    silent = silent_bytes n n number (omega arith) last;
    told = eq-eqb (base + n) (last_byte point) (sym last);
  }

  pub write_is_point : (space : SpaceId) (told : LeafInit) → IsPoint bytes_of watched (Write point.object point.leaf space told)
  write_is_point space told = by_size size refl
    where
      by_size : (n : ℕ) → size ≡ n → IsPoint bytes_of watched (Write point.object point.leaf space told)
      by_size zero e = let s = h.some in absurd (omega (arith, s, e))
      by_size (suc n) e =
          point_of n (number_in told) (Write point.object point.leaf space told)
          (event_is space told ∙ ap (byte_accesses ByteWrite base (number_in told)) e)
          (last_is ∙ (let q : base + size - 1 ≡ base + n = omega (arith, e) in q))

  -- ---- any other has no watched access

  -- a byte that is written last is one of the leaf
  pub last_in : (at : ℕ) → at ≡ last_byte point → IsIn base size at
  last_in at e =
      let s = h.some in
      let q = e ∙ last_is in
      record { from_there = omega (arith, s, q); within = omega (arith, s, q) }

  read_silent : (o k : ℕ) (space : SpaceId) (told : LeafInit) (a : Access) → IsForEvent p l (Read o k space told) a → watched a ≡ false
  read_silent o k space told a f = ap watched f.3

  write_silent : (o k : ℕ) (space : SpaceId) (told : LeafInit) → ((o ≡ point.object) × (k ≡ point.leaf) → ⊥) → (a : Access)
      → IsForEvent p l (Write o k space told) a → watched a ≡ false
  write_silent o k space told other a f =
      ap watched f.2 ∙ ne_eqb f.0 (last_byte point) (λ e. other (h.alone o k f.0 space f.3 (last_in f.0 e)))

  abbrev AreFor : Event → Type 0
  AreFor e = AllByRecursion (IsForEvent p l e) (bytes_of e)

  pub record WritesLeaf (e : Event) : Type 0 where
    pub space : SpaceId
    pub told : LeafInit
    pub is : e ≡ Write point.object point.leaf space told

  -- it writes the leaf, or has no watched access
  data Decided (e : Event) : Type 0 where
    writes_leaf : WritesLeaf e → Decided e
    is_silent : IsSilent bytes_of watched (bytes_of e) → Decided e

  decide : (e : Event) → AreFor e → Decided e
  decide (In port byte) f = is_silent (refl, tt)
  decide (Out port byte) f = is_silent (refl, tt)
  decide (Read o k space told) f =
      is_silent (all_map (IsForEvent p l (Read o k space told)) (λ a. watched a ≡ false) (bytes_of (Read o k space told))
      (read_silent o k space told) f)
  decide (Write o k space told) f = by_test (cases_Bool (o == point.object && k == point.leaf))
    where
      by_test : ((o == point.object && k == point.leaf) ≡ true) ⊎ ((o == point.object && k == point.leaf) ≡ false)
          → Decided (Write o k space told)
      by_test (inl t) =
          let q = and_parts (o == point.object) (k == point.leaf) t in
          let a : o ≡ point.object = eqb-true o point.object q.0 in
          let b : k ≡ point.leaf = eqb-true k point.leaf q.1 in
          writes_leaf (record {
            space = space;
            told = told;
            is = ap (λ (z : ℕ). Write z k space told) a ∙ ap (λ (z : ℕ). Write point.object z space told) b;
          })
      by_test (inr g) =
          is_silent (all_map (IsForEvent p l (Write o k space told)) (λ a. watched a ≡ false) (bytes_of (Write o k space told))
          (write_silent o k space told (λ same. different same.0 same.1)) f)
        where
          different : o ≡ point.object → k ≡ point.leaf → ⊥
          different a b =
              let no : true ≡ false =
              sym (and_from (o == point.object) (k == point.leaf) (eq-eqb o point.object a) (eq-eqb k point.leaf b)) ∙ g in cc

  kind_of : (e : Event) → Decided e → Kind bytes_of watched e
  kind_of e (writes_leaf w) = a_point (subst (IsPoint bytes_of watched) (sym w.is) (write_is_point w.space w.told))
  kind_of e (is_silent s) = no_point s

  pub have_kinds : (es : List Event) → AreForEvents p l es → HaveKinds bytes_of watched es
  have_kinds [] f = tt
  have_kinds (e ∷ es) f = (kind_of e (decide e f.0), have_kinds es f.1)

  -- an event with a watched access writes the leaf
  last_silent : (front : List Access) (a : Access) → IsSilent bytes_of watched (front ++ a ∷ []) → watched a ≡ false
  last_silent [] a s = s.0
  last_silent (x ∷ front) a s = last_silent front a s.1

  by_decision : (e : Event) → Decided e → IsPoint bytes_of watched e → WritesLeaf e
  by_decision e (writes_leaf w) i = w
  by_decision e (is_silent s) i =
      let quiet = last_silent i.front i.last (subst (IsSilent bytes_of watched) i.is s) in
      let no : true ≡ false = sym i.told ∙ quiet in cc

  pub point_writes : (e : Event) → AreFor e → IsPoint bytes_of watched e → WritesLeaf e
  point_writes e f i = by_decision e (decide e f) i

  -- the accesses of events are those one behind another
  pub expand_is : (es : List Event) → expand bytes_of watched es ≡ accesses p (place_of l) es
  expand_is [] = refl
  expand_is (e ∷ es) = ap (λ (z : List Access). bytes_of e ++ z) (expand_is es)
