-- A type has one layout by the structs that are known and by those of the program, which go on behind them.
use Rattle.std.proofs.Common.{◌≡◌, ◌∙◌, ◌<◌, ◌≤◌, ℕ, zero, suc, List, [], ◌∷◌, length, refl, sym, ap, arith}
use Rattle.std.specs.Prelude.{Option, Some, None, slice_get}
use Rattle.std.specs.List.{AllByRecursion}
use Rattle.ec_core.specs.Layout.{Layout, followed_by, repeated, type_layout, members_layout, struct_layouts, size_of_type, leaves_of_type}
use Rattle.ec_core.specs.Layout.{NamesBelow, IsObjectType, AreStructs}
use Rattle.ec_core.specs.Plain.{PlainType, void, integer, fixed, pointer, array, struct, PlainMember, PlainStruct}
use Rattle.ec_core.specs.TypeLaws.{StructsAreLaidOut}
use Rattle.ec_check_statements.proofs.Choices.{stands_at}

module _ (law : StructsAreLaidOut) (some all : List PlainStruct) (h : AreStructs some) (g : AreStructs all)
    (same : (i : ℕ) (s : PlainStruct) → slice_get some i ≡ Some s → slice_get all i ≡ Some s) where
  abbrev AgreeBelow : ℕ → Type 0
  AgreeBelow n = (i : ℕ) → i < n → struct_layouts some i ≡ struct_layouts all i

  type_agrees : (n : ℕ) → AgreeBelow n → (ty : PlainType) → NamesBelow n ty
      → type_layout (struct_layouts some) ty ≡ type_layout (struct_layouts all) ty
  type_agrees n a void b = refl
  type_agrees n a (integer signed bytes) b = refl
  type_agrees n a (fixed kind saturates) b = refl
  type_agrees n a (pointer space const to) b = refl
  type_agrees n a (array of len) b = ap (repeated len) (type_agrees n a of b)
  type_agrees n a (struct index) b = a index b

  members_agree : (n : ℕ) → AgreeBelow n → (ms : List PlainMember) → AllByRecursion (λ m. IsObjectType n m.ty) ms
      → members_layout (struct_layouts some) ms ≡ members_layout (struct_layouts all) ms
  members_agree n a [] b = refl
  members_agree n a (m ∷ ms) b =
      ap (λ (x : Layout). followed_by x (members_layout (struct_layouts some) ms)) (type_agrees n a m.ty b.0.names)
      ∙ ap (followed_by (type_layout (struct_layouts all) m.ty)) (members_agree n a ms b.1)

  struct_agrees : (i : ℕ) → i < length some → AgreeBelow i → (o : Option PlainStruct) → slice_get some i ≡ o
      → struct_layouts some i ≡ struct_layouts all i
  struct_agrees i below a None e = absurd (stands_at some i below e)
  struct_agrees i below a (Some s) e =
      (law.each some i s h e).layout
      ∙ members_agree i a s.members (law.each some i s h e).earlier
      ∙ sym (law.each all i s g (same i s e)).layout

  agree_below : (n : ℕ) → n ≤ length some → AgreeBelow n
  agree_below zero le i below = absurd (omega (arith, below))
  agree_below (suc n) le i below =
      struct_agrees i (omega (arith, below, le)) (λ j b. agree_below n (omega (arith, le)) j (omega (arith, b, below)))
      (slice_get some i) refl

  layouts_agree : (ty : PlainType) → NamesBelow (length some) ty
      → type_layout (struct_layouts some) ty ≡ type_layout (struct_layouts all) ty
  layouts_agree ty b = type_agrees (length some) (agree_below (length some) (omega arith)) ty b

  pub sizes_agree : (ty : PlainType) → NamesBelow (length some) ty → size_of_type some ty ≡ size_of_type all ty
  sizes_agree ty b = ap (λ (a : Layout). a.size) (layouts_agree ty b)

  pub leaves_agree : (ty : PlainType) → NamesBelow (length some) ty → leaves_of_type some ty ≡ leaves_of_type all ty
  leaves_agree ty b = ap (λ (a : Layout). a.leaves_at 0) (layouts_agree ty b)
