-- Operations whose code may stand once have the routine of their shape.
use Rattle.std.proofs.Common.{◌≡◌, ℕ, true, List, [], ◌∷◌, refl}
use Rattle.std.proofs.lemmas.Bool.{false≢true}
use Rattle.ec_ir.specs.Operations.{PlainIr}
use Rattle.ec_ir.specs.Operations.{binary_op, unary_op, conversion}
use Rattle.ec_select_operations.specs.Routines.{routine_for}
use Rattle.ec_select.specs.Sharing.{has_some, is_shaped, shape_of, shape_routine}
use Rattle.ec_core_shapes.specs.Shapes.{Shape}
use Rattle.ec_ir_shapes.specs.Costs.{op_shapes}
use Rattle.ec_select.proofs.LinkedWords.{one_at_most}

pub same_routine : (l : ℕ) (i : PlainIr) → is_shaped i ≡ true → routine_for l i ≡ shape_routine l (shape_of i)
same_routine l (binary_op op ty mode to a aty b bty) h = refl
same_routine l (unary_op op ty mode to a) h = refl
same_routine l (conversion to ty mode a aty) h = refl
same_routine l i h = absurd (false≢true h)

-- such an operation has one shape
pub one_shape : (i : PlainIr) → is_shaped i ≡ true → (s : Shape) × (op_shapes i ≡ s ∷ [])
one_shape i h = by_list (op_shapes i) refl h
  where
    by_list : (ss : List Shape) → op_shapes i ≡ ss → has_some ss ≡ true → (s : Shape) × (op_shapes i ≡ s ∷ [])
    by_list [] e h = absurd (false≢true h)
    by_list (s ∷ []) e h = (s, e)
    by_list (s ∷ (t ∷ ss)) e h = absurd (one_at_most i s t ss e)
