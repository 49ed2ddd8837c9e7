-- The routines of operations: what a call of one computes is what the operation does.
use Rattle.std.specs.Prelude.{◌≡◌, ℕ, ◌-◌, ◌≤◌, ⊤, ◌||◌, Bool, true, false, List, [], ◌∷◌, Option, Some, None, IsSomeAnd}
use Rattle.ec_asm.specs.declared.items.AsmItem.{AsmItem}
use Rattle.ec_asm.specs.Change.{Env}
use Rattle.ec_core.specs.Layout.{scalar_size}
use Rattle.ec_ir.specs.Operations.{PlainIr, binary_op, unary_op, conversion}
use Rattle.ec_routines.specs.Routines.{routine_code}
use Rattle.ec_core_shapes.specs.Shapes.{Shape, same_shape}
use Rattle.ec_ir_shapes.specs.Costs.{op_shapes}
use Rattle.ec_select_fixed.specs.Types.{AreFixedOperands, IsFixedOperand, AreFixedConverted}
use Rattle.ec_select_routines.specs.Codes.{binary_body, unary_body, conversion_body, quotient_body}
use Rattle.ec_select_routines.specs.Laws.{HasRoutine}
use Rattle.ec_select_operations.specs.declared.families.Family.{Family}
use Rattle.ec_select_operations.specs.declared.families.Family.TheVariants.{Divided}
use Rattle.ec_select_operations.specs.Code.{family_of, is_signed}
use Rattle.ec_select_operations.specs.Emitted.{OfKind}
use Rattle.ec_select_operations.specs.Needs.{is_fixed}

abbrev pub body_by : Bool → (own others : Option (List AsmItem)) → Option (List AsmItem)
body_by true own others = own
body_by false own others = others

-- a quotient or a remainder of integers of n bytes
abbrev pub division_body : Family → (signed : Bool) → (n : ℕ) → Option (List AsmItem)
division_body (Divided r) signed n = Some (quotient_body r signed (n - 1))
division_body f signed n = None

-- what the routine of an operation does before it returns, if the operation can have one
abbrev pub routine_body : PlainIr → Option (List AsmItem)
routine_body (binary_op op ty mode to a aty b bty) =
    body_by (is_fixed aty || is_fixed bty) (Some (binary_body op ty aty bty mode))
    (division_body (family_of op) (is_signed aty) (scalar_size aty))
routine_body (unary_op op ty mode to a) = body_by (is_fixed ty) (Some (unary_body op ty mode)) None
routine_body (conversion to ty mode a aty) =
    body_by (is_fixed ty || is_fixed aty) (Some (conversion_body ty aty mode)) None
routine_body i = None

abbrev pub routine_with : (l : ℕ) → Option (List AsmItem) → List AsmItem
routine_with l None = []
routine_with l (Some body) = routine_code l body

-- the routine of an operation, with a label
abbrev pub routine_for : (l : ℕ) → PlainIr → List AsmItem
routine_for l i = routine_with l (routine_body i)

-- the routine of an operation stands, with this label
abbrev pub HasRoutineOf : Env → (l : ℕ) → PlainIr → Type 0
HasRoutineOf e l i = IsSomeAnd (routine_body i) (HasRoutine e l)

-- ---- what the emitter asks

abbrev pub CanBeDivided : Family → (n : ℕ) → Type 0
CanBeDivided (Divided r) n = (1 ≤ n) × (n ≤ 4)
CanBeDivided f n = ⊤

-- operands and result have types that suit the operation, and at most 8 bytes
abbrev pub CanBeRoutine : PlainIr → Type 0
CanBeRoutine (binary_op op ty mode to a aty b bty) =
    OfKind (is_fixed aty || is_fixed bty)
    (AreFixedOperands op ty aty bty × (scalar_size ty ≤ 8) × (scalar_size aty ≤ 8) × (scalar_size bty ≤ 8))
    (CanBeDivided (family_of op) (scalar_size aty))
CanBeRoutine (unary_op op ty mode to a) = OfKind (is_fixed ty) (IsFixedOperand op ty × (scalar_size ty ≤ 8)) ⊤
CanBeRoutine (conversion to ty mode a aty) =
    OfKind (is_fixed ty || is_fixed aty) (AreFixedConverted ty aty × (scalar_size ty ≤ 8) × (scalar_size aty ≤ 8)) ⊤
CanBeRoutine i = ⊤

-- ---- laws

-- operations of one shape have one routine
abbrev pub OneShapeHasOneRoutine : Type 0
OneShapeHasOneRoutine =
    (i j : PlainIr) (s t : Shape) → op_shapes i ≡ s ∷ [] → op_shapes j ≡ t ∷ [] → same_shape s t ≡ true
    → routine_body i ≡ routine_body j
