-- Which operations of a program have code that stands once: those of one shape call a routine where that is shorter.
use Rattle.std.specs.Prelude.{ℕ, ◌+◌, Bool, true, false, if◌then◌else◌, List, [], ◌∷◌, ◌++◌, Option, Some, None}
use Rattle.std.specs.Prelude.{length, map}
use Rattle.ec_space.specs.declared.Core.{Core}
use Rattle.ec_fx.specs.declared.numbers.Mode.{Mode}
use Rattle.ec_asm.specs.declared.items.AsmItem.{AsmItem}
use Rattle.ec_asm.specs.Items.{code_words}
use Rattle.ec_core.specs.declared.expressions.UnOp.TheVariants.{Minus}
use Rattle.ec_core.specs.Plain.{PlainType, void, PlainProgram}
use Rattle.ec_core_shapes.specs.Shapes.{Form, unary_form, binary_form, conversion_form, Shape, unary_shape, binary_shape}
use Rattle.ec_core_shapes.specs.Shapes.{conversion_shape, same_shape}
use Rattle.ec_ir.specs.declared.operations.Temp.{Temp}
use Rattle.ec_ir.specs.Operations.{PlainIr, binary_op, unary_op, conversion, label, PlainIrFunction, PlainIrProgram, data_of}
use Rattle.ec_ir_known.specs.declared.known.RightNumber.{RightNumber}
use Rattle.ec_ir_known.specs.Known.{right_numbers}
use Rattle.ec_ir_shapes.specs.Costs.{op_shapes}
use Rattle.ec_select_operations.specs.declared.calls.Linking.{Linking}
use Rattle.ec_select_operations.specs.declared.homes.Homes.{Homes}
use Rattle.ec_select_operations.specs.Code.{operation_code, called_code, wanted_bytes}
use Rattle.ec_select_operations.specs.Emitted.{linkage}
use Rattle.ec_select_operations.specs.Homes.{home}
use Rattle.ec_select_operations.specs.Needs.{Need, nothing, facts_of, takes_count}
use Rattle.ec_select_operations.specs.Pointers.{has_tables}
use Rattle.ec_select_operations.specs.Routines.{routine_for}
use Rattle.ec_select_routines.specs.Sizes.{Sizes, is_shared}
use Rattle.ec_shapes.specs.Shapes.{has}
use Rattle.ec_select.specs.Labels.{homes_of, first_label}

-- ---- operations and shapes

abbrev pub has_some : List Shape → Bool
has_some [] = false
has_some (s ∷ ss) = true

-- the code of an operation may stand once
abbrev pub is_shaped : PlainIr → Bool
is_shaped i = has_some (op_shapes i)

-- the shape of such an operation
abbrev pub shape_of : PlainIr → Shape
shape_of (binary_op op ty mode to a aty b bty) = binary_shape op ty mode aty bty
shape_of (unary_op op ty mode to a) = unary_shape op ty mode ty
shape_of (conversion to ty mode a aty) = conversion_shape ty mode aty
shape_of i = unary_shape Minus void (record { saturate = false }) void

abbrev pub no_temp : Temp
no_temp = record { at = 0; bytes = 0 }

abbrev pub operation_in : Form → PlainType → Mode → (operands : List PlainType) → PlainIr
operation_in (unary_form op) ty mode operands = unary_op op ty mode no_temp no_temp
operation_in (binary_form op) ty mode (a ∷ b ∷ []) = binary_op op ty mode no_temp no_temp a no_temp b
operation_in conversion_form ty mode (a ∷ []) = conversion no_temp ty mode no_temp a
operation_in form ty mode operands = label 0

-- an operation of a shape, with no temporaries of any program
abbrev pub operation_of : Shape → PlainIr
operation_of s = operation_in s.form s.ty s.mode s.operands

-- the routine of a shape, with a label
abbrev pub shape_routine : (l : ℕ) → Shape → List AsmItem
shape_routine l s = routine_for l (operation_of s)

-- ---- uses

-- an operation where its code may stand once: the words of code of its own there, and where a routine stands
pub record Use : Type 0 where
  pub operation : PlainIr
  pub own : ℕ
  pub call : ℕ

-- a function by itself
abbrev pub alone : Core → Homes → Linking
alone core h = record { core = core; first_label = 0; first_entry = 1; homes = h; slots = 0; is_main = false }

-- where n bytes of its result are needed, and its second operand may be known to hold a number
abbrev pub own_items : Core → PlainProgram → Homes → (known : Option RightNumber) → (n : ℕ) → PlainIr → List AsmItem
own_items core p h known n i = operation_code p (home h) (linkage (alone core h)) None None known n nothing i

-- a call of the routine, but the same of a shift by a known count, which calls none
abbrev pub used_items : Core → PlainProgram → Homes → (known : Option RightNumber) → (n : ℕ) → PlainIr → List AsmItem
used_items core p h known n i = if takes_count known i then own_items core p h known n i else called_code (home h) 0 n i

abbrev pub use_of : Core → PlainProgram → Homes → (known : Option RightNumber) → (n : ℕ) → PlainIr → Use
use_of core p h known n i = record {
  operation = i;
  own = code_words (own_items core p h known n i);
  call = code_words (used_items core p h known n i);
}

abbrev pub uses_of : Core → PlainProgram → Homes → (known : Option RightNumber) → (n : ℕ) → PlainIr → List Use
uses_of core p h known n i = if is_shaped i then use_of core p h known n i ∷ [] else []

-- of several operations: `wanted` tells how many bytes are needed of each result, and `known` the number that each second
-- operand is known to hold
abbrev pub uses_in : Core → PlainProgram → Homes → (wanted : List ℕ) → (known : List (Option RightNumber)) → List PlainIr
    → List Use
uses_in core p h [] known code = []
uses_in core p h (n ∷ wanted) [] code = []
uses_in core p h (n ∷ wanted) (number ∷ known) [] = []
uses_in core p h (n ∷ wanted) (number ∷ known) (i ∷ code) =
    uses_of core p h number n i ++ uses_in core p h wanted known code

-- of the function with number f, where a table tells what is needed at its labels
abbrev pub function_uses : Core → PlainIrProgram → (ℕ → Need) → ℕ → PlainIrFunction → List Use
function_uses core p labels f g =
    let at = facts_of (has_tables (data_of p).objects) labels g.code in
    uses_in core (data_of p) (homes_of f g.code) (wanted_bytes at g.code) (right_numbers g.code) g.code

-- of functions that are numbered from f on
abbrev pub uses_from : Core → PlainIrProgram → (ℕ → ℕ → Need) → (f : ℕ) → List PlainIrFunction → List Use
uses_from core p tables f [] = []
uses_from core p tables f (g ∷ gs) = function_uses core p (tables f) f g ++ uses_from core p tables (f + 1) gs

abbrev pub program_uses : Core → PlainIrProgram → (ℕ → ℕ → Need) → List Use
program_uses core p tables = uses_from core p tables 0 p.functions

-- ---- which shapes stand once

abbrev pub sizes : Sizes Use Shape
sizes = record {
  shape = λ u. shape_of u.operation;
  own = λ u. u.own;
  call = λ u. u.call;
  routine = λ s. code_words (shape_routine 0 s);
}

-- a shape stands once where its routine and the calls of it are shorter than code at each use
abbrev pub stands_once : List Use → Shape → Bool
stands_once us s = is_shared same_shape sizes us s

-- one more shape, unless a list has it
abbrev pub with_shape : List Shape → Shape → List Shape
with_shape shapes s = if has same_shape shapes s then shapes else shapes ++ s ∷ []

-- the shapes of uses, each once, from that of the last use on
abbrev pub used_shapes : List Use → List Shape
used_shapes [] = []
used_shapes (u ∷ us) = with_shape (used_shapes us) (shape_of u.operation)

-- a shape, and whether it stands once
pub record Row : Type 0 where
  pub shape : Shape
  pub once : Bool

abbrev pub row_of : List Use → Shape → Row
row_of us s = record { shape = s; once = stands_once us s }

abbrev pub rows_of : List Use → List Row
rows_of us = map (row_of us) (used_shapes us)

-- ---- routines

abbrev pub label_where : (once : Bool) → ℕ → Option ℕ
label_where true l = Some l
label_where false l = None

-- the label of the routine of a shape, if it stands once: as far behind a first label as its row behind the first row
abbrev pub label_among : (first : ℕ) → List Row → Shape → Option ℕ
label_among first [] s = None
label_among first (r ∷ rows) s =
    if same_shape r.shape s then label_where r.once first else label_among (first + 1) rows s

-- so of an operation
abbrev pub routine_among : (first : ℕ) → List Row → PlainIr → Option ℕ
routine_among first rows i = if is_shaped i then label_among first rows (shape_of i) else None

-- the routines of the shapes that stand once
abbrev pub row_routine : (l : ℕ) → Row → List AsmItem
row_routine l r = if r.once then shape_routine l r.shape else []

abbrev pub routines_among : (first : ℕ) → List Row → List AsmItem
routines_among first [] = []
routines_among first (r ∷ rows) = row_routine first r ++ routines_among (first + 1) rows

-- ---- of a program

-- the labels of routines follow those of all functions
abbrev pub routines_begin : PlainIrProgram → ℕ
routines_begin p = first_label p.functions (length p.functions)

abbrev pub routine_of : Core → PlainIrProgram → (ℕ → ℕ → Need) → PlainIr → Option ℕ
routine_of core p tables i = routine_among (routines_begin p) (rows_of (program_uses core p tables)) i

abbrev pub routines_code : Core → PlainIrProgram → (ℕ → ℕ → Need) → List AsmItem
routines_code core p tables = routines_among (routines_begin p) (rows_of (program_uses core p tables))
