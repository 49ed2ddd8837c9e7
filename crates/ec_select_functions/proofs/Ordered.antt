-- Pointers that are compared by their bytes, as the places that they point to.
use Rattle.std.proofs.Common.{◌≡◌, ℕ, ◌+◌, ◌%◌, ◌<◌, ◌≤◌, Bool, true, false, not, nat_lt, ◌&&◌, ◌⊎◌, inl, inr, Some, refl}
use Rattle.std.proofs.Common.{ap, sym, ◌∙◌, arith}
use Rattle.std.specs.Prelude.{◌==◌}
use Rattle.ec_space.specs.declared.Core.{Core}
use Rattle.ec_space.specs.declared.Core.TheVariants.{Small, Large}
use Rattle.ec_asm.specs.Pieces.{value}
use Rattle.ec_asm.proofs.Numbers.{value_mod}
use Rattle.ec_core.specs.declared.expressions.BinOp.{BinOp}
use Rattle.ec_core.specs.Plain.{PlainType, void, integer, fixed, pointer, array, struct}
use Rattle.ec_space.specs.declared.space.SpaceId.{SpaceId}
use Rattle.ec_select_fixed.specs.Types.{IsFixedType}
use Rattle.ec_select_operations.specs.declared.families.Family.{Family}
use Rattle.ec_select_operations.specs.declared.families.Told.{Told}
use Rattle.ec_select_order.specs.declared.relations.Relation.{Relation}
use Rattle.ec_select_order.specs.declared.relations.Relation.TheVariants.{Less, NotLess, Equal, NotEqual}
use Rattle.ec_select_order.specs.Relations.{stand_so}
use Rattle.ec_select_places.specs.Numbers.{Place, number_of, offset_of, IsPlace, places_stand}
use Rattle.ec_select_places.specs.FarLaws.{IsFarPlace, MayRelate}
use Rattle.ec_select_operations.specs.Code.{related_bytes, told_by}
use Rattle.ec_select_operations.specs.Needs.{moves_pointer}
use Rattle.ec_select_operations.specs.Pointers.{is_pointer}
use Rattle.ec_select_functions.proofs.Setting.{PointerLaws}
use Rattle.ec_select_functions.proofs.Taken.{no_pointer}

-- what is known of two places that a relation is of, by the core
abbrev pub ArePlaces : Core → Relation → (X Z : Place) → Type 0
ArePlaces Small r X Z = IsPlace X × IsPlace Z
ArePlaces Large r X Z = IsFarPlace X × IsFarPlace Z × MayRelate r X Z

-- the places that a relation of an operator is of
abbrev pub first_of : {A : Type 0} → (exchanged : Bool) → A → A → A
first_of true x z = z
first_of false x z = x

module _ (laws : PointerLaws) (bytes a b : ℕ) (f : ℕ → ℕ) (X Z : Place) (two : 2 ≤ bytes)
    (held_a : (j : ℕ) → j < bytes → f (a + j) < 256) (held_b : (j : ℕ) → j < bytes → f (b + j) < 256)
    (first : value f a bytes ≡ number_of X) (second : value f b bytes ≡ number_of Z) where
  low : (c : ℕ) (P : Place) → ((j : ℕ) → j < bytes → f (c + j) < 256) → value f c bytes ≡ number_of P → IsPlace P
      → value f c 2 ≡ offset_of P
  low c P held is at =
      let part : value f c bytes % 65536 ≡ value f c 2 = value_mod f c 2 bytes two held in
      sym part ∙ ap (λ (x : ℕ). x % 65536) is ∙ laws.low P at

  below : IsPlace X → IsPlace Z → nat_lt (value f a 2) (value f b 2) ≡ nat_lt (offset_of X) (offset_of Z)
  below x z = ap (λ (i : ℕ). nat_lt i (value f b 2)) (low a X held_a first x) ∙ ap (nat_lt (offset_of X)) (low b Z held_b second z)

  equal : (value f a bytes == value f b bytes) ≡ (number_of X == number_of Z)
  equal = ap (λ (i : ℕ). i == value f b bytes) first ∙ ap (λ (i : ℕ). number_of X == i) second

  ordered : nat_lt (value f a bytes) (value f b bytes) ≡ nat_lt (number_of X) (number_of Z)
  ordered = ap (λ (i : ℕ). nat_lt i (value f b bytes)) first ∙ ap (nat_lt (number_of X)) second

  pub bytes_stand : (core : Core) (r : Relation) → ArePlaces core r X Z
      → stand_so r false (related_bytes core r bytes) (value f a (related_bytes core r bytes)) (value f b (related_bytes core r bytes))
      ≡ places_stand r X Z
  bytes_stand Small Less p = below p.0 p.1
  bytes_stand Small NotLess p = ap not (below p.0 p.1)
  bytes_stand Small Equal p = equal ∙ laws.same X Z p.0 p.1
  bytes_stand Small NotEqual p = ap not (equal ∙ laws.same X Z p.0 p.1)
  bytes_stand Large Less p = ordered ∙ laws.far.ordered X Z p.0 p.1 p.2
  bytes_stand Large NotLess p = ap not (ordered ∙ laws.far.ordered X Z p.0 p.1 p.2)
  bytes_stand Large Equal p = equal ∙ laws.far.same X Z p.0 p.1
  bytes_stand Large NotEqual p = ap not (equal ∙ laws.far.same X Z p.0 p.1)

-- at least one byte is compared, and no more than there are
pub related_within : (core : Core) (r : Relation) (bytes : ℕ) → 2 ≤ bytes
    → (1 ≤ related_bytes core r bytes) × (related_bytes core r bytes ≤ bytes)
related_within Small Less bytes l = (omega arith, l)
related_within Small NotLess bytes l = (omega arith, l)
related_within Small Equal bytes l = (omega (arith, l), omega arith)
related_within Small NotEqual bytes l = (omega (arith, l), omega arith)
related_within Large r bytes l = (omega (arith, l), omega arith)

-- ---- types

pub record IsPointerType (x : PlainType) : Type 0 where
  pub space : SpaceId
  pub const : Bool
  pub to : PlainType
  pub is : x ≡ pointer space const to

pub pointer_type : (x : PlainType) → is_pointer x ≡ true → IsPointerType x
pointer_type (pointer space const to) q = record { space = space; const = const; to = to; is = refl }
pointer_type void q = absurd cc
pointer_type (integer signed bytes) q = absurd cc
pointer_type (fixed kind saturates) q = absurd cc
pointer_type (array z n) q = absurd cc
pointer_type (struct n) q = absurd cc

-- an operator apart that tells something has two pointers
pub told_pointers : (first second apart : Bool) (f : Family) (signed : Bool) (told : Told) → apart ≡ true
    → told_by (not (first && second) && apart) f signed ≡ Some told → (first ≡ true) × (second ≡ true)
told_pointers true true apart f signed told a q = (refl, refl)
told_pointers true false true f signed told a q = absurd cc
told_pointers false second true f signed told a q = absurd cc
told_pointers true false false f signed told a q = absurd cc
told_pointers false second false f signed told a q = absurd cc

-- and such an operator moves none
pub both_unmoved : (op : BinOp) (x z : PlainType) → is_pointer z ≡ true → moves_pointer op x z ≡ false
both_unmoved op x (pointer space const to) q = none (is_pointer x)
  where
    none : (y : Bool) → (y && false) ≡ false
    none true = refl
    none false = refl
both_unmoved op x void q = absurd cc
both_unmoved op x (integer signed bytes) q = absurd cc
both_unmoved op x (fixed kind saturates) q = absurd cc
both_unmoved op x (array z n) q = absurd cc
both_unmoved op x (struct n) q = absurd cc

-- where an operand is a fixed-point number, one is no pointer
pub no_two_pointers : (aty bty : PlainType) → IsFixedType aty ⊎ IsFixedType bty → (is_pointer aty && is_pointer bty) ≡ false
no_two_pointers aty bty (inl h) = ap (λ (x : Bool). x && is_pointer bty) (no_pointer aty h)
no_two_pointers aty bty (inr h) = ap (λ (x : Bool). is_pointer aty && x) (no_pointer bty h) ∙ none (is_pointer aty)
  where
    none : (x : Bool) → (x && false) ≡ false
    none true = refl
    none false = refl
