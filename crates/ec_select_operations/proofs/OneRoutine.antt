-- Operations of one shape have one routine.
use Rattle.std.proofs.Common.{◌≡◌, List, [], ◌∷◌, Option, Some, None, sym, ap, ◌∙◌}
use Rattle.std.specs.Prelude.{◌||◌}
use Rattle.ec_fx.specs.declared.numbers.Mode.{Mode}
use Rattle.ec_asm.specs.declared.items.AsmItem.{AsmItem}
use Rattle.ec_core.specs.Layout.{scalar_size}
use Rattle.ec_core.specs.Plain.{PlainType}
use Rattle.ec_ir.specs.Operations.{PlainIr, constant, copy, address, field, load_at, store_at, load_object}
use Rattle.ec_ir.specs.Operations.{store_object, binary_op, unary_op, conversion, label, jump, branch_zero}
use Rattle.ec_ir.specs.Operations.{call_function, return_from, port_in, port_out, load_cell, store_cell, cell_port}
use Rattle.ec_shapes.specs.Shapes.{IsTest}
use Rattle.ec_core_shapes.specs.Shapes.{Form, Shape, unary_form, binary_form, conversion_form, unary_shape, binary_shape}
use Rattle.ec_core_shapes.specs.Shapes.{conversion_shape, same_shape}
use Rattle.ec_ir_shapes.specs.Costs.{Code, in_line, callable, shape_code, shapes_with, op_shapes}
use Rattle.ec_select_routines.specs.Codes.{binary_body, unary_body, conversion_body}
use Rattle.ec_select_operations.specs.Code.{family_of, is_signed}
use Rattle.ec_select_operations.specs.Needs.{is_fixed}
use Rattle.ec_select_operations.specs.Routines.{body_by, division_body, routine_body, OneShapeHasOneRoutine}

-- the routine of the operations of a shape
abbrev body_of : Form → PlainType → (operands : List PlainType) → Mode → Option (List AsmItem)
body_of (binary_form op) ty (aty ∷ bty ∷ []) mode =
    body_by (is_fixed aty || is_fixed bty) (Some (binary_body op ty aty bty mode))
    (division_body (family_of op) (is_signed aty) (scalar_size aty))
body_of (unary_form op) ty operands mode = body_by (is_fixed ty) (Some (unary_body op ty mode)) None
body_of conversion_form ty (aty ∷ []) mode = body_by (is_fixed ty || is_fixed aty) (Some (conversion_body ty aty mode)) None
body_of form ty operands mode = None

abbrev shape_body : Shape → Option (List AsmItem)
shape_body s = body_of s.form s.ty s.operands s.mode

no_shape : (s : Shape) → [] ≡ s ∷ [] → ⊥
no_shape s q = cc

-- a shape that may stand once is that of the operation
only_shape : (c : Code) (s t : Shape) → shapes_with c s ≡ t ∷ [] → s ≡ t
only_shape (in_line own) s t q = absurd (no_shape t q)
only_shape (callable own call) s t q = cc

by_shape : (i : PlainIr) (s : Shape) → op_shapes i ≡ s ∷ [] → routine_body i ≡ shape_body s
by_shape (binary_op op ty mode to a aty b bty) s q =
    ap shape_body (only_shape (shape_code (binary_shape op ty mode aty bty)) (binary_shape op ty mode aty bty) s q)
by_shape (unary_op op ty mode to a) s q =
    ap shape_body (only_shape (shape_code (unary_shape op ty mode ty)) (unary_shape op ty mode ty) s q)
by_shape (conversion to ty mode a aty) s q =
    ap shape_body (only_shape (shape_code (conversion_shape ty mode aty)) (conversion_shape ty mode aty) s q)
by_shape (constant t n) s q = absurd (no_shape s q)
by_shape (copy to from) s q = absurd (no_shape s q)
by_shape (address t o offset) s q = absurd (no_shape s q)
by_shape (field ptr space offset) s q = absurd (no_shape s q)
by_shape (load_at to ptr space) s q = absurd (no_shape s q)
by_shape (store_at ptr space from) s q = absurd (no_shape s q)
by_shape (load_object t o offset) s q = absurd (no_shape s q)
by_shape (store_object o offset t) s q = absurd (no_shape s q)
by_shape (label l) s q = absurd (no_shape s q)
by_shape (jump l) s q = absurd (no_shape s q)
by_shape (branch_zero t l) s q = absurd (no_shape s q)
by_shape (call_function f to) s q = absurd (no_shape s q)
by_shape (return_from from) s q = absurd (no_shape s q)
by_shape (port_in to port index width) s q = absurd (no_shape s q)
by_shape (port_out from port index width) s q = absurd (no_shape s q)
by_shape (load_cell to cell) s q = absurd (no_shape s q)
by_shape (store_cell cell from) s q = absurd (no_shape s q)
by_shape (cell_port read t cell offset index width) s q = absurd (no_shape s q)

pub one_shape_has_one_routine : IsTest same_shape → OneShapeHasOneRoutine
one_shape_has_one_routine test i j s t p r same =
    by_shape i s p ∙ ap shape_body (test.one s t same) ∙ sym (by_shape j t r)
