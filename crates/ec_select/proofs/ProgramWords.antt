-- The words of a program's code.
use Rattle.std.proofs.Common.{◌≡◌, ℕ, ◌+◌, ◌*◌, ◌≤◌, Bool, true, false, List, [], ◌∷◌, ◌++◌}
use Rattle.std.proofs.Common.{arith, length, length-append}
use Rattle.std.specs.Prelude.{if◌then◌else◌, Some, slice_get}
use Rattle.std.specs.List.{AllByRecursion}
use Rattle.ec_space.specs.declared.Core.{Core}
use Rattle.ec_space.specs.declared.space.Home.{Home}
use Rattle.ec_space.specs.declared.space.Home.TheVariants.{Data as DataHome, Flash as FlashHome, Far as FarHome}
use Rattle.ec_asm.specs.declared.items.AsmItem.TheVariants.{Label}
use Rattle.ec_asm.specs.Items.{code_words}
use Rattle.ec_core.specs.Layout.{size_of_type}
use Rattle.ec_core.specs.Plain.{PlainStorage, static, local, param, register, PlainObject, PlainStruct}
use Rattle.ec_core.specs.Weight.{object_weight, objects_weight}
use Rattle.ec_core.specs.Words.{program_words}
use Rattle.ec_ir.specs.Costs.{functions_words}
use Rattle.ec_ir.specs.Operations.{PlainIr, PlainIrFunction, PlainIrProgram}
use Rattle.ec_ir_shapes.specs.Costs.{functions_words_by_shapes}
use Rattle.ec_core_shapes.specs.Shapes.{Shape}
use Rattle.ec_select_routines.proofs.Sizes.{sizes_decide}
use Rattle.ec_select_operations.specs.Needs.{Need}
use Rattle.ec_select_startup.specs.Laws.{StartupHasWords}
use Rattle.ec_select_startup.specs.Startup.{startup_code}
use Rattle.ec_select_startup.specs.declared.spans.Span.{Span}
use Rattle.ec_select.specs.InPlace.{IsInPlace, AreInPlace}
use Rattle.ec_select.specs.Labels.{entry_label, function_label}
use Rattle.ec_select.specs.Laws.{SelectionsHaveWords}
use Rattle.ec_select.specs.Program.{has_initial_bytes, filling_of, span_of, spans_from, spans_of}
use Rattle.ec_select.specs.Program.{functions_code}
use Rattle.ec_select.specs.Program.{program_code}
use Rattle.ec_select.specs.Selected.{ValidWithCells, HasCode}
use Rattle.ec_select.specs.Sharing.{Use, routines_code}
use Rattle.ec_select.proofs.Words.{joined_words}
use Rattle.ec_select.proofs.AlikeWords.{has_operand_types}
use Rattle.ec_select.proofs.LinkedWords.{RoutineLaws}
use Rattle.ec_select.proofs.OperationWords.{WordLaws}
use Rattle.ec_select.proofs.Setting.{all_at, function_valid}
use Rattle.ec_select.proofs.SharedProgram.{IsCounted, shared_few, shared_short}
use Rattle.ec_select.proofs.UseWords.{has_type_bytes}

-- ---- spans

weighed : (s : PlainStorage) (home : Home) → (if has_initial_bytes s home then 20 else 0) ≤ object_weight s home
weighed (static inits) DataHome = omega arith
weighed (static inits) FlashHome = omega arith
weighed (static inits) FarHome = omega arith
weighed (local f) home = omega arith
weighed (param f) home = omega arith
weighed (register r) home = omega arith

span_few : (structs : List PlainStruct) (o : ℕ) (d : PlainObject)
    → 20 * length (span_of structs o d) ≤ object_weight d.storage d.home
span_few structs o d = by_kind (has_initial_bytes d.storage d.home) (weighed d.storage d.home) where
  by_kind : (kept : Bool) → (if kept then 20 else 0) ≤ object_weight d.storage d.home
      → 20 * length {A = Span} (if kept
      then record { from = 2048 + o; to = o; bytes = size_of_type structs d.ty; filling = filling_of d.storage } ∷ [] else [])
      ≤ object_weight d.storage d.home
  by_kind true h = h
  by_kind false h = omega arith

spans_few : (structs : List PlainStruct) (o : ℕ) (ds : List PlainObject)
    → 20 * length (spans_from structs o ds) ≤ objects_weight ds
spans_few structs o [] = omega arith
spans_few structs o (d ∷ ds) =
    let a = span_few structs o d in let b = spans_few structs (o + 1) ds in
    omega (arith, length-append (span_of structs o d) (spans_from structs (o + 1) ds), a, b)

-- ---- operations

each_of : {P Q : PlainIr → Type 0} → ((i : PlainIr) → P i → Q i) → (code : List PlainIr) → AllByRecursion P code
    → AllByRecursion Q code
each_of h [] all = tt
each_of h (i ∷ code) all = (h i all.0, each_of h code all.1)

-- what is known of the operations of a function
counted : (p : PlainIrProgram) (valid : ValidWithCells p) (has : HasCode p) → AreInPlace p → (f : ℕ) (g : PlainIrFunction)
    → slice_get p.functions f ≡ Some g → IsCounted p has.results f g
counted p valid has in_place f g e =
    let v = (function_valid p valid f g e).code in
    record {
      covered = has.functions f g e;
      in_place = all_at (λ h. AllByRecursion IsInPlace h.code) p.functions f g in_place e;
      bytes = each_of (has_type_bytes valid.0 p valid.1.results f g.slots g.code) g.code v;
      types = each_of (has_operand_types valid.0 p valid.1.results f g.slots g.code) g.code v;
    }

-- what this rests on
pub record ProgramWordLaws : Type 0 where
  pub words : WordLaws
  pub routines : RoutineLaws
  pub startup : StartupHasWords

module _ (laws : ProgramWordLaws) (core : Core) (p : PlainIrProgram) (valid : ValidWithCells p) (has : HasCode p) (in_place : AreInPlace p)
    (tables : ℕ → ℕ → Need) where
  program_few : (most : ℕ) → code_words (functions_code core p tables (length p.functions) ++ routines_code core p tables) ≤ most
      → code_words (program_code core p tables) ≤ program_words + objects_weight p.objects + most
  program_few most few =
      let start = startup_code (spans_of p) (function_label p.main) in
      let rest = functions_code core p tables (length p.functions) ++ routines_code core p tables in
      let a = laws.startup (spans_of p) (function_label p.main) in
      let b = spans_few p.structs 0 p.objects in
      omega (arith, joined_words (Label entry_label ∷ []) (start ++ rest), joined_words start rest, a, b, few)

  pub few_by_shapes : code_words (program_code core p tables)
      ≤ program_words + objects_weight p.objects + functions_words_by_shapes p.functions
  few_by_shapes =
      program_few (functions_words_by_shapes p.functions)
      (shared_few laws.words laws.routines core p has.results (counted p valid has in_place) tables (sizes_decide Use Shape))

  pub few_alone : code_words (program_code core p tables) ≤ program_words + objects_weight p.objects + functions_words p.functions
  few_alone =
      program_few (functions_words p.functions)
      (shared_short laws.words laws.routines core p has.results (counted p valid has in_place) tables (sizes_decide Use Shape))

pub selections_have_words : ProgramWordLaws → SelectionsHaveWords
selections_have_words laws core p asm valid has in_place h = record {
  by_shapes = rw h.items (few_by_shapes laws core p valid has in_place h.tables);
  alone = rw h.items (few_alone laws core p valid has in_place h.tables);
}
