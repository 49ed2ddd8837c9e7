-- The lists of a placed program have an item for each object and each function.
use Rattle.std.proofs.Common.{◌≡◌, ℕ, zero, suc, ◌+◌, ◌<◌, ◌≤◌, Bool, true, false, List, [], ◌∷◌, length, map, Option}
use Rattle.std.proofs.Common.{Some}
use Rattle.std.proofs.Common.{None, refl, sym, ap, ◌∙◌, subst, arith, ◌&&◌}
use Rattle.std.specs.Prelude.{slice_get, if◌then◌else◌}
use Rattle.std.specs.List.{AllByRecursion}
use Rattle.std.proofs.lemmas.Bool.{or_left, or_right, and_from}
use Rattle.ec_space.specs.declared.space.Home.{Home}
use Rattle.ec_space.specs.declared.space.Home.TheVariants.{Flash as FlashHome, Far as FarHome, Data as DataHome}
use Rattle.ec_space.specs.declared.space.Place.{Place}
use Rattle.ec_space.specs.Spaces.{bank_of}
use Rattle.ec_core.specs.Layout.{PlainLeaf, size_of_type}
use Rattle.ec_core.specs.Plain.{PlainStruct, PlainStorage, static, local, param, register, PlainObject, PlainProgram}
use Rattle.ec_core.specs.Valid.{EachFrom, IsStatic, IsInitialValue, AreInitialValues}
use Rattle.ec_core.specs.declared.programs.LeafInit.{LeafInit}
use Rattle.ec_map.specs.declared.map.Fixed1.{Fixed1}
use Rattle.ec_locate.specs.declared.entries.Kept.TheVariants.{Packed}
use Rattle.ec_locate.specs.Entries.{fixed_place, fixed_or_packed, kept_by, entry_of, flash_size, far_size, data_size}
use Rattle.ec_locate.specs.Entries.{initial_size}
use Rattle.ec_locate.specs.Layout.{in_region, place_by, places_from, initials_from, frames_from}
use Rattle.ec_select.specs.Program.{has_initial_bytes}
use Rattle.ec_build_laws.specs.Kinds.{is_byte_of, is_of_initials}
use Rattle.ec_build_laws.proofs.ByAddress.{byte_there}

pub all_at : {A : Type 0} (P : A → Type 0) (xs : List A) (i : ℕ) (x : A) → AllByRecursion P xs → slice_get xs i ≡ Some x → P x
all_at P [] i x h e = absurd cc
all_at P (y ∷ ys) zero x h e = let q : y ≡ x = cc in subst P q h.0
all_at P (y ∷ ys) (suc i) x h e = all_at P ys i x h.1 e

pub each_at : {A : Type 0} (P : ℕ → A → Type 0) (n : ℕ) (xs : List A) (i : ℕ) (x : A) → EachFrom n P xs → slice_get xs i ≡ Some x
    → P (n + i) x
each_at P n [] i x h e = absurd cc
each_at P n (y ∷ ys) zero x h e = let q : y ≡ x = cc in let z : n ≡ n + 0 = omega arith in subst (λ k. P k x) z (subst (λ w. P n w) q h.0)
each_at P n (y ∷ ys) (suc i) x h e =
    let r = each_at P (n + 1) ys i x h.1 e in let q : n + 1 + i ≡ n + suc i = omega arith in subst (λ k. P k x) q r

pub there_is : {A : Type 0} (xs : List A) (i : ℕ) → i < length xs → (x : A) × (slice_get xs i ≡ Some x)
there_is [] i less = absurd (omega arith)
there_is (x ∷ xs) zero less = (x, refl)
there_is (x ∷ xs) (suc i) less = there_is xs i (omega arith)

pub place_there : (structs : List PlainStruct) (fixed : List Fixed1) (os : List PlainObject) (flash far at : ℕ)
    (frame : ℕ → ℕ → ℕ) (k i : ℕ) (o : PlainObject) → slice_get os i ≡ Some o
    → (q : Place) × (slice_get (places_from flash far at frame k (map (entry_of structs fixed) os)) i ≡ Some q)
place_there structs fixed [] flash far at frame k i o h = absurd cc
place_there structs fixed (x ∷ os) flash far at frame k zero o h = (_, refl)
place_there structs fixed (x ∷ os) flash far at frame k (suc i) o h =
    place_there structs fixed os (flash + flash_size (entry_of structs fixed x)) (far + far_size (entry_of structs fixed x))
    (at + data_size (entry_of structs fixed x)) frame (k + 1) i o h

-- an object that is no named register is placed in its bank
region_bank : (home : Home) (flash far at : ℕ) → (in_region home flash far at).bank ≡ bank_of home
region_bank FlashHome flash far at = refl
region_bank FarHome flash far at = refl
region_bank DataHome flash far at = refl

kept_bank : (fixed : List Fixed1) (external : Bool) (name : List ℕ) (s : PlainStorage) (home : Home) (flash far at : ℕ)
    (frame : ℕ → ℕ) → IsStatic s → (place_by (kept_by fixed external name s) home flash far at frame).bank ≡ bank_of home
kept_bank fixed external name (static inits) home flash far at frame h = by_place external (fixed_place fixed name) where
  by_place : (b : Bool) (z : Option ℕ) → (place_by (if b then fixed_or_packed z else Packed) home flash far at frame).bank ≡ bank_of home
  by_place true None = region_bank home flash far at
  by_place true (Some there) = refl
  by_place false z = region_bank home flash far at
kept_bank fixed external name (local f) home flash far at frame h = absurd h
kept_bank fixed external name (param f) home flash far at frame h = absurd h
kept_bank fixed external name (register r) home flash far at frame h = absurd h

pub place_bank : (structs : List PlainStruct) (fixed : List Fixed1) (os : List PlainObject) (flash far at : ℕ)
    (frame : ℕ → ℕ → ℕ) (k i : ℕ) (o : PlainObject) (q : Place) → slice_get os i ≡ Some o
    → slice_get (places_from flash far at frame k (map (entry_of structs fixed) os)) i ≡ Some q → IsStatic o.storage
    → q.bank ≡ bank_of o.home
place_bank structs fixed [] flash far at frame k i o q h there is = absurd cc
place_bank structs fixed (x ∷ os) flash far at frame k zero o q h there is =
    let same : x ≡ o = cc in
    let placed : place_by (kept_by fixed x.external x.name x.storage) x.home flash far at (λ f. frame f k) ≡ q = cc in
    ap (λ z. z.bank) (sym placed)
    ∙ kept_bank fixed x.external x.name x.storage x.home flash far at (λ f. frame f k) (subst (λ z. IsStatic z.storage) (sym same) is)
    ∙ ap (λ z. bank_of z.home) same
place_bank structs fixed (x ∷ os) flash far at frame k (suc i) o q h there is =
    place_bank structs fixed os (flash + flash_size (entry_of structs fixed x)) (far + far_size (entry_of structs fixed x))
    (at + data_size (entry_of structs fixed x)) frame (k + 1) i o q h there is

pub initial_there : (structs : List PlainStruct) (fixed : List Fixed1) (os : List PlainObject) (first at i : ℕ) (o : PlainObject)
    → slice_get os i ≡ Some o
    → (n : ℕ) × (slice_get (initials_from first at (map (entry_of structs fixed) os)) i ≡ Some n)
initial_there structs fixed [] first at i o h = absurd cc
initial_there structs fixed (x ∷ os) first at zero o h = (_, refl)
initial_there structs fixed (x ∷ os) first at (suc i) o h =
    initial_there structs fixed os first (at + initial_size (entry_of structs fixed x)) i o h

pub frame_there : (area : ℕ) (begin : ℕ → ℕ) (k : ℕ) (frames : List ℕ) (f frame : ℕ) → slice_get frames f ≡ Some frame
    → (n : ℕ) × (slice_get (frames_from area begin k frames) f ≡ Some n)
frame_there area begin k [] f frame h = absurd cc
frame_there area begin k (x ∷ frames) zero frame h = (_, refl)
frame_there area begin k (x ∷ frames) (suc f) frame h = frame_there area begin (k + 1) frames f frame h

-- a byte of the initial bytes of an object is told to be one
pub initial_byte : (structs : List PlainStruct) (os : List PlainObject) (ats : List ℕ) (a i : ℕ) (o : PlainObject) (at : ℕ)
    → slice_get os i ≡ Some o
    → slice_get ats i ≡ Some at → has_initial_bytes o.storage o.home ≡ true → at ≤ a → a < at + size_of_type structs o.ty
    → is_of_initials structs os ats a ≡ true
initial_byte structs [] ats a i o at is there has from below = absurd cc
initial_byte structs (x ∷ os) [] a i o at is there has from below = absurd cc
initial_byte structs (x ∷ os) (y ∷ ats) a zero o at is there has from below =
    let s : x ≡ o = cc in
    let t : y ≡ at = cc in
    or_left (has_initial_bytes x.storage x.home && is_byte_of y (size_of_type structs x.ty) a) (is_of_initials structs os ats a)
    (and_from (has_initial_bytes x.storage x.home) (is_byte_of y (size_of_type structs x.ty) a)
    (subst (λ z. has_initial_bytes z.storage z.home ≡ true) (sym s) has)
    (byte_there y (size_of_type structs x.ty) a (omega (arith, t, from))
    (subst (λ n. a < n + size_of_type structs x.ty) (sym t) (subst (λ z. a < at + size_of_type structs z.ty) (sym s) below))))
initial_byte structs (x ∷ os) (y ∷ ats) a (suc i) o at is there has from below =
    or_right (has_initial_bytes x.storage x.home && is_byte_of y (size_of_type structs x.ty) a) (is_of_initials structs os ats a)
    (initial_byte structs os ats a i o at is there has from below)

-- the initial value of each leaf is one of its type
pub value_suits : (p : PlainProgram) (leaves : List PlainLeaf) (inits : List LeafInit) (k : ℕ) (leaf : PlainLeaf) (init : LeafInit)
    → AreInitialValues p leaves inits → slice_get leaves k ≡ Some leaf → slice_get inits k ≡ Some init → IsInitialValue p leaf.ty init
value_suits p [] inits k leaf init h is has = absurd cc
value_suits p (x ∷ leaves) [] k leaf init h is has = absurd cc
value_suits p (x ∷ leaves) (y ∷ inits) zero leaf init h is has =
    let s : x ≡ leaf = cc in
    let t : y ≡ init = cc in
    subst (λ z. IsInitialValue p z.ty init) s (subst (λ z. IsInitialValue p x.ty z) t h.0)
value_suits p (x ∷ leaves) (y ∷ inits) (suc k) leaf init h is has = value_suits p leaves inits k leaf init h.1 is has
