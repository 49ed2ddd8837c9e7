-- One more struct behind others.
use Rattle.std.proofs.Common.{◌≡◌, ◌+◌, ◌<◌, ◌≤◌, ℕ, zero, suc, refl, subst, Bool, true, false, ◌&&◌, nat_le, nat_lt, if◌then◌else◌, Option}
use Rattle.std.proofs.Common.{Some, None, List, [], ◌∷◌, ◌++◌, length, slice_get, arith}
use Rattle.std.specs.List.{AllByRecursion}
use Rattle.std.proofs.lemmas.Bool.{false≢true}
use Rattle.std.proofs.lemmas.Bool.Decides.{nat_tests}
use Rattle.ec_core.specs.Layout.{IsObjectType, AreStructs, members_layout, struct_layouts}
use Rattle.ec_core.specs.Plain.{PlainMember, PlainStruct}
use Rattle.ec_core.specs.TypeLaws.{StructsAreLaidOut}
use Rattle.ec_check_forms.specs.Accesses.{AreCounted}
use Rattle.ec_check_names.specs.Structs.{same_struct, place_from, struct_place}
use Rattle.ec_check_declarations.specs.ObjectTypes.{is_object_type}
use Rattle.ec_check_declarations.specs.Structures.{are_objects, size_together, is_within, may_follow}
use Rattle.ec_check_declarations.proofs.Types.{object_type_is}

both : (p q : Bool) → (p && q) ≡ true → (p ≡ true) × (q ≡ true)
both true q h = (refl, h)
both false q h = absurd (false≢true h)

each_object : (n : ℕ) (ms : List PlainMember) → are_objects n ms ≡ true → AllByRecursion (λ m. IsObjectType n m.ty) ms
each_object n [] h = tt
each_object n (m ∷ ms) h =
    let q = both (is_object_type n m.ty) (are_objects n ms) h in
    (object_type_is n m.ty q.0, each_object n ms q.1)

within_by : (b : Bool) (size : ℕ) → is_within (if b then Some size else None) ≡ true → (b ≡ true) × (size ≤ 32_767)
within_by true size h = (refl, grind (arith, nat_tests, h))
within_by false size h = absurd (false≢true h)

-- what a test of a struct says
pub record Follows (structs : List PlainStruct) (s : PlainStruct) : Type 0 where
  pub objects : AllByRecursion (λ m. IsObjectType (length structs) m.ty) s.members
  pub small : (members_layout (struct_layouts structs) s.members).size ≤ 32_767
  pub counted : length s.members ≤ 65_536
  pub few : length structs < 4_294_967_296

pub follows : (structs : List PlainStruct) (s : PlainStruct) → may_follow structs s.members ≡ true → Follows structs s
follows structs s h =
    let p =
    both (is_within (size_together structs s.members) && nat_le (length s.members) 65_536)
    (nat_lt (length structs) 4_294_967_296) h
    in
    let q = both (is_within (size_together structs s.members)) (nat_le (length s.members) 65_536) p.0 in
    let w =
    within_by (are_objects (length structs) s.members) (members_layout (struct_layouts structs) s.members).size q.0
    in
    let few = p.1 in
    let counted = q.1 in
    record {
      objects = each_object (length structs) s.members w.0;
      small = w.1;
      counted = grind (arith, nat_tests, counted);
      few = grind (arith, nat_tests, few);
    }

pub one_more : StructsAreLaidOut → (structs : List PlainStruct) (s : PlainStruct) → AreStructs structs → may_follow structs s.members ≡ true
    → AreStructs (structs ++ s ∷ [])
one_more law structs s h m =
    let f = follows structs s m in
    (law.more structs s h f.objects f.small).all

pub more_at : {X : Type 0} (P : X → Type 0) (xs : List X) (x : X) → ((i : ℕ) (t : X) → slice_get xs i ≡ Some t → P t) → P x
    → (i : ℕ) (t : X) → slice_get (xs ++ x ∷ []) i ≡ Some t → P t
more_at P [] x h p zero t e = let g : x ≡ t = cc in subst P g p
more_at P [] x h p (suc i) t e = cc
more_at P (y ∷ ys) x h p zero t e = h zero t e
more_at P (y ∷ ys) x h p (suc i) t e = more_at P ys x (λ j u q. h (suc j) u q) p i t e

pub counted_more : (structs : List PlainStruct) (s : PlainStruct) → AreCounted structs → may_follow structs s.members ≡ true
    → AreCounted (structs ++ s ∷ [])
counted_more structs s h m i t e =
    more_at (λ u. length u.members ≤ 65_536) structs s h (follows structs s m).counted i t e

place_by : (b : Bool) (i j n : ℕ) (later : Option ℕ) → (later ≡ Some j → j < i + 1 + n)
    → (if b then Some i else later) ≡ Some j → j < i + suc n
place_by true i j n later f e = let g : i ≡ j = cc in omega arith
place_by false i j n later f e = let h = f e in omega arith

pub place_below : (i : ℕ) (s : PlainStruct) (ts : List PlainStruct) (j : ℕ) → place_from i s ts ≡ Some j → j < i + length ts
place_below i s [] j e = cc
place_below i s (t ∷ ts) j e =
    place_by (same_struct s t) i j (length ts) (place_from (i + 1) s ts) (place_below (i + 1) s ts j) e

-- a struct that stands in the list has a number of 32 bits
pub place_fits : (structs : List PlainStruct) (s : PlainStruct) (j : ℕ) → may_follow structs s.members ≡ true
    → struct_place s structs ≡ Some j
    → j < 4_294_967_296
place_fits structs s j m e =
    let below = place_below 0 s structs j e in
    let few = (follows structs s m).few in
    omega arith
