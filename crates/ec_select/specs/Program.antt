-- The code of a whole program for a core: the code before main, behind it that of each function, and the routines that they call.
use Rattle.std.specs.Prelude.{ℕ, ◌+◌, Bool, true, false, List, [], ◌∷◌, ◌++◌, Option, Some, None, length, slice_get}
use Rattle.std.specs.Prelude.{if◌then◌else◌, pos}
use Rattle.std.specs.List.{list_all}
use Rattle.std.specs.Ordering.{int_eq}
use Rattle.ec_space.specs.declared.Core.{Core}
use Rattle.ec_space.specs.declared.space.Home.{Home}
use Rattle.ec_space.specs.declared.space.Home.TheVariants.{Data as DataHome}
use Rattle.ec_asm.specs.declared.items.AsmItem.{AsmItem}
use Rattle.ec_asm.specs.declared.items.AsmItem.TheVariants.{Label}
use Rattle.ec_asm.specs.Items.{chain}
use Rattle.ec_core.specs.declared.programs.LeafInit.{LeafInit}
use Rattle.ec_core.specs.declared.programs.LeafInit.TheVariants.{Number, Null, Address}
use Rattle.ec_core.specs.Layout.{size_of_type}
use Rattle.ec_core.specs.Plain.{PlainStorage, static, PlainObject, PlainStruct}
use Rattle.ec_ir.specs.Operations.{PlainIr, PlainIrFunction, PlainIrProgram, data_of}
use Rattle.ec_select_operations.specs.Code.{function_code}
use Rattle.ec_select_functions.specs.Laws.{Made, linkage_of}
use Rattle.ec_select_operations.specs.Needs.{Need}
use Rattle.ec_select_startup.specs.Startup.{startup_code}
use Rattle.ec_select_startup.specs.declared.spans.Filling.{Filling}
use Rattle.ec_select_startup.specs.declared.spans.Filling.TheVariants.{Copied, Cleared}
use Rattle.ec_select_startup.specs.declared.spans.Span.{Span}
use Rattle.ec_select.specs.Labels.{homes_of, entry_label, function_label, first_label}
use Rattle.ec_select.specs.Sharing.{routine_of, routines_code}

-- ---- the code before main

-- a static object of the home data has initial bytes
abbrev pub has_initial_bytes : PlainStorage → Home → Bool
has_initial_bytes (static inits) DataHome = true
has_initial_bytes storage home = false

-- the bytes of an initial value are 0
abbrev pub is_zero : LeafInit → Bool
is_zero (Number n) = int_eq n (pos 0)
is_zero Null = true
is_zero (Address o offset) = false

-- an object is cleared where all its initial values are 0
abbrev pub filling_of : PlainStorage → Filling
filling_of (static inits) = if list_all is_zero inits then Cleared else Copied
filling_of storage = Copied

-- object o is cleared, or set from the initial bytes that have the number 2,048 + o
abbrev pub span_of : List PlainStruct → (o : ℕ) → PlainObject → List Span
span_of structs o d =
    if has_initial_bytes d.storage d.home
    then record { from = 2048 + o; to = o; bytes = size_of_type structs d.ty; filling = filling_of d.storage } ∷ [] else []

-- the spans of objects that are numbered from o on
abbrev pub spans_from : List PlainStruct → (o : ℕ) → List PlainObject → List Span
spans_from structs o [] = []
spans_from structs o (d ∷ ds) = span_of structs o d ++ spans_from structs (o + 1) ds

abbrev pub spans_of : PlainIrProgram → List Span
spans_of p = spans_from p.structs 0 p.objects

-- ---- functions

-- the function with number f, where a table tells what is needed at its labels, and routines stand for some operations
abbrev pub made_with : PlainIrProgram → (routines : PlainIr → Option ℕ) → (ℕ → Need) → ℕ → PlainIrFunction → Made
made_with p routines labels f g = record {
  homes = homes_of f g.code;
  label_of = λ l. first_label p.functions f + l;
  labels = labels;
  routine_of = routines;
}

abbrev pub code_of : Core → PlainIrProgram → (routines : PlainIr → Option ℕ) → (ℕ → Need) → ℕ → Option PlainIrFunction
    → List AsmItem
code_of core p routines labels f None = []
code_of core p routines labels f (Some g) =
    function_code (data_of p) (linkage_of core p function_label f g.slots (made_with p routines labels f g)) f labels g.code

-- the code of the first n functions, for each of which a table tells what is needed at its labels
abbrev pub functions_with : Core → PlainIrProgram → (routines : PlainIr → Option ℕ) → (ℕ → ℕ → Need) → ℕ → List AsmItem
functions_with core p routines tables n = chain (λ f. code_of core p routines (tables f) f (slice_get p.functions f)) n

abbrev pub functions_code : Core → PlainIrProgram → (ℕ → ℕ → Need) → ℕ → List AsmItem
functions_code core p tables n = functions_with core p (routine_of core p tables) tables n

-- ---- the program

-- the routines stand behind the functions
abbrev pub program_code : Core → PlainIrProgram → (ℕ → ℕ → Need) → List AsmItem
program_code core p tables =
    Label entry_label ∷ (startup_code (spans_of p) (function_label p.main)
    ++ (functions_code core p tables (length p.functions) ++ routines_code core p tables))
