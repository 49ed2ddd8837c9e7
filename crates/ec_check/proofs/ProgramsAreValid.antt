-- A checked program is valid.
use Rattle.std.proofs.Common.{◌≡◌, ◌∙◌, ◌≤◌, ◌<◌, ℕ, true, ◌&&◌, List, [], ◌∷◌, length, map, refl, ap, subst, arith}
use Rattle.std.specs.Prelude.{nat_le, Option, Some, None, IsSomeAnd, option_map, slice_get}
use Rattle.std.specs.List.{AllByRecursion}
use Rattle.std.proofs.lemmas.Bool.{false≢true, and_parts}
use Rattle.std.proofs.lemmas.Slice.Eq.{bytes_eq-Decides}
use Rattle.ec_iohw.specs.declared.table.IoTable.{IoTable}
use Rattle.ec_iohw.specs.Valid.{ValidIo}
use Rattle.ec_core.specs.Plain.{PlainObject, PlainFunction, PlainProgram}
use Rattle.ec_core.specs.Typing.{int}
use Rattle.ec_core.specs.Valid.{Valid}
use Rattle.ec_check_names.specs.declared.linkage.Linkage.TheVariants.{External}
use Rattle.ec_check_names.specs.declared.numbering.Defined.{Defined}
use Rattle.ec_check_names.specs.declared.numbering.Defined.TheVariants.{Object, Register, Function as FunctionKind}
use Rattle.ec_check_names.specs.Definitions.{Definition, definitions, Numbering, nothing_numbered, numbered_from, same_kind}
use Rattle.ec_check_names.specs.Spellings.{is_main}
use Rattle.ec_check_file_scope.specs.FileNames.{FileKind, an_object, a_register, a_function}
use Rattle.ec_check_file_scope.specs.States.{State, nothing_declared}
use Rattle.ec_check_recursion.specs.Recursion.{NothingRecurs}
use Rattle.ec_check_statements.proofs.Choices.{if_both}
use Rattle.ec_check.specs.Agreement.{IsFileFunction, IsMade, IsDefined, Agrees}
use Rattle.ec_check.specs.Units.{main_of, after_units, program_by, program_of}
use Rattle.ec_check.specs.Validity.{ProgramsAreValid}
use Rattle.ec_check.proofs.Agreeing as agreeing
use Rattle.ec_check.proofs.Below.{Laws}
use Rattle.ec_check.proofs.Firsts.{all_containing}
use Rattle.ec_check.proofs.Growing.{AreValid}
use Rattle.ec_check.proofs.Meanings.{IsMainKind, IsPlacedName, ArePlaced, program_in}
use Rattle.ec_check.proofs.NamesAreOf.{find_number, meant_is_of}
use Rattle.ec_check.proofs.PlacedSteps.{placed_all}
use Rattle.ec_check.proofs.Programs.{units_agree, nothing_agrees}
use Rattle.ec_check.proofs.Steps.{Steps, IsClear, before_itself}
use Rattle.ec_check.proofs.Suiting.{IsFinished, have_members}
use Rattle.ec_check.proofs.ValidSteps.{valid_all}
use Rattle.ec_check.proofs.Walked.{units_steps}

-- ---- where the walk begins

nothing_clear : agreeing.Laws → (io : IoTable) → IsClear io nothing_declared
nothing_clear laws io = record {
  types = record { names = λ n. tt; tags = λ n. tt };
  closed = refl;
  sound = (nothing_agrees laws.laid_out io).sound;
}

nothing_placed : (all : _) (ds : List Definition) → ArePlaced all ds nothing_declared
nothing_placed all ds = record { tags = tt; members = tt; declared = tt; names = tt }

nothing_valid : (p : PlainProgram) (io : IoTable) → AreValid p io nothing_declared
nothing_valid p io = record {
  objects = tt;
  declared = tt;
  registers = λ i j d less below. absurd (omega (arith, below));
  externals = λ i j d less below. absurd (omega (arith, below));
  functions = tt;
}

-- ---- `main`

no_params : (objects : List PlainObject) (ns : List ℕ) → map (λ o. option_map (λ x. x.ty) (slice_get objects o)) ns ≡ [] → ns ≡ []
no_params objects [] e = refl
no_params objects (n ∷ ns) e = cc

module _ (s : State) (d : Definition) where
  main_by : (k : Defined) (x : FileKind) → same_kind true k ≡ true → IsMade s d k x → IsMainKind x
      → IsSomeAnd (slice_get s.functions d.number) (λ g. (g.params ≡ []) × (g.returns ≡ int))
  main_by Object x e m h = absurd (false≢true e)
  main_by Register x e m h = absurd (false≢true e)
  main_by FunctionKind (an_object ty konst space) e m h = absurd h
  main_by FunctionKind (a_register first ty konst) e m h = absurd h
  main_by FunctionKind (a_function (Some returns) count (Some params)) e m h = by (slice_get s.functions d.number) m where
    by : (o : Option PlainFunction) → IsSomeAnd o (IsFileFunction s.scope.objects d returns params)
        → IsSomeAnd o (λ g. (g.params ≡ []) × (g.returns ≡ int))
    by None m = absurd m
    by (Some g) m = (no_params s.scope.objects g.params (m.typed ∙ ap (λ ts. map Some ts) h.1), m.returned ∙ h.0)
  main_by FunctionKind (a_function (Some returns) count None) e m h = absurd m
  main_by FunctionKind (a_function None count params) e m h = absurd m

main_valid : (s : State) (ds : List Definition) → AllByRecursion (IsDefined s) ds → (m : ℕ) → main_of ds ≡ Some m
    → AllByRecursion (IsPlacedName s.structs) s.declared
    → IsSomeAnd (slice_get s.functions m) (λ g. (g.params ≡ []) × (g.returns ≡ int))
main_valid s ds made m e placed =
    let f = find_number s (109 ∷ 97 ∷ 105 ∷ 110 ∷ []) 0 External true ds made m e in
    let g = f.defined.1.1 in
    let fits = all_containing (IsPlacedName s.structs) s.declared f.defined.0 placed f.defined.1.0 in
    let named : is_main f.defined.0.name ≡ true = (bytes_eq-Decides f.defined.0.name (109 ∷ 97 ∷ 105 ∷ 110 ∷ [])).1 (g.name ∙ f.name) in
    subst (λ n. IsSomeAnd (slice_get s.functions n) (λ g. (g.params ≡ []) × (g.returns ≡ int))) f.numbered
    (main_by s f.d f.d.kind f.defined.0.kind f.kind g.made (fits.main named))

-- ---- the program

program_is : (o : Option ℕ) (s : State) (p : PlainProgram) → program_by o s ≡ Some p
    → (m : ℕ) × ((o ≡ Some m) × ((s.whole ≡ true) × (program_in s m ≡ p)))
program_is None s p e = cc
program_is (Some m) s p e =
    if_both (λ o. o ≡ Some p → (n : ℕ) × ((Some m ≡ Some n) × ((s.whole ≡ true) × (program_in s n ≡ p))))
    (s.whole && nat_le (length s.functions) 65_536)
    (Some (program_in s m)) None
    (λ q z. let same : program_in s m ≡ p = cc in (m, (refl, ((and_parts s.whole (nat_le (length s.functions) 65_536) q).0, same))))
    (λ q z. cc) e

-- what the walk over all units leaves, as a program
module _ (laws : Laws) (ds : List Definition) (io : IoTable) (s : State) (main unit : ℕ) (n : Numbering) (agrees : Agrees io unit n s)
    (same : n.definitions ≡ ds)
    (steps : Steps ds io nothing_declared s) where
  abbrev p : PlainProgram
  p = program_in s main

  placed : ArePlaced s.structs ds s
  placed =
      placed_all laws s.structs agrees.sound.structs ds io nothing_declared s steps (λ i x e. e)
      (nothing_placed s.structs ds)

  made : AllByRecursion (IsDefined s) ds
  made = subst (AllByRecursion (IsDefined s)) same agrees.made

  finished : IsFinished ds s.declared p
  finished = record {
    structs = agrees.sound.structs;
    members = have_members s.structs placed.members;
    names = λ f what h. meant_is_of s main ds made agrees.clear f what
        (λ e c. (all_containing (IsPlacedName s.structs) s.declared e placed.declared c).kind) h;
  }

  valid : length s.scope.objects < 65_536 → AreValid p io s
  valid few =
      valid_all laws ds io s main finished few agrees.whole nothing_declared s steps (before_itself s) (nothing_placed s.structs ds)
      (nothing_valid p io)

  whole_valid : ValidIo io → main_of ds ≡ Some main → length s.scope.objects ≤ 1_024 → length s.functions ≤ 256
      → NothingRecurs p → Valid p io
  whole_valid ports is_main few_objects few_functions recurs =
      let v = valid (omega (arith, few_objects)) in
      record {
        ports = ports;
        structs = agrees.sound.structs;
        objects = v.objects;
        registers = v.registers;
        externals = v.externals;
        functions = v.functions;
        main = main_valid s ds made main is_main placed.declared;
        no_recursion = recurs;
        object_count = few_objects;
        function_count = few_functions;
      }

no_program : (io : IoTable) (p : PlainProgram) → program_of [] io ≡ Some p → ⊥
no_program io p e = cc

pub programs_are_valid : agreeing.Laws → Laws → ProgramsAreValid
programs_are_valid walk laws [] io p ports limits small held short told typed recurs = absurd (no_program io p typed)
programs_are_valid walk laws (u ∷ us) io p ports limits small held short told typed recurs =
    let ds = definitions (u ∷ us) in
    let s = after_units ds io 0 (u ∷ us) nothing_declared in
    let n = numbered_from 0 (u ∷ us) nothing_numbered in
    let objects = limits.objects in
    let functions = limits.functions in
    let start = nothing_agrees walk.laid_out io in
    let a = units_agree walk ds io u us 0 nothing_numbered nothing_declared start (omega (arith, objects)) (omega (arith, functions))
    (omega (arith, small)) told in
    let steps = units_steps walk ds io (u ∷ us) 0 nothing_numbered nothing_declared (nothing_clear walk io) start (omega (arith, objects))
    (omega (arith, functions))
    (omega (arith, small)) told held short in
    let numbered = a.0.agrees.objects in
    let counted = a.0.counts.objects in
    let same = a.0.agrees.functions in
    let count = a.0.counts.functions in
    let program = program_is (main_of ds) s p typed in
    subst (λ (q : PlainProgram). NothingRecurs q → Valid q io) program.1.1.1
    (whole_valid laws ds io s program.0 _ n a.0.agrees refl steps ports program.1.0 (omega (arith, numbered, counted, objects))
    (omega (arith, same, count, functions)))
    recurs
