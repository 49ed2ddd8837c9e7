-- The code of operations is one, whichever least tables tell what is needed.
use Rattle.std.proofs.Common.{◌≡◌, ℕ, zero, suc, ◌+◌, ◌<◌, ◌≤◌, List, [], ◌∷◌, ◌++◌, length, map, Option, Some, None, refl, sym}
use Rattle.std.proofs.Common.{◌∙◌, ap, subst, arith, Bool}
use Rattle.std.specs.Prelude.{slice_get}
use Rattle.std.specs.List.{AllByRecursion}
use Rattle.std.proofs.lemmas.Bool.Decides.{nat_tests}
use Rattle.std.proofs.lemmas.Option.{slice_get_within}
use Rattle.ec_space.specs.declared.Core.{Core}
use Rattle.ec_asm.specs.Items.{chain}
use Rattle.ec_asm.specs.declared.items.AsmItem.{AsmItem}
use Rattle.ec_asm.specs.declared.items.AsmItem.TheVariants.{Label}
use Rattle.ec_asm.specs.declared.items.AsmProgram.{AsmProgram}
use Rattle.ec_ir.specs.Operations.{PlainIr}
use Rattle.ec_ir.specs.Operations.{label, jump, branch_zero}
use Rattle.ec_ir.specs.Operations.{PlainIrFunction, PlainIrProgram, data_of}
use Rattle.ec_ir.specs.Valid.{count, Results, ValidOperation, ValidIrFunction, ValidIr}
use Rattle.ec_ir_known.specs.Known.{right_numbers}
use Rattle.ec_select_operations.specs.Code.{wanted_bytes}
use Rattle.ec_select_operations.specs.Needs.{Need, IsLive, facts_of}
use Rattle.ec_select_operations.specs.Pointers.{has_tables}
use Rattle.ec_select_operations.specs.Written.{written_function, NeededFunctionsAreWritten}
use Rattle.ec_select_live.specs.Laws.{ValidOperationsHavePlaces}
use Rattle.ec_select_live.specs.Least.{IsLeast}
use Rattle.ec_select_live.specs.Tables.{AreSame}
use Rattle.ec_select_functions.specs.Laws.{linkage_of}
use Rattle.ec_select.specs.Labels.{entry_label, function_label, homes_of}
use Rattle.ec_select.specs.Program.{made_with, code_of, functions_code, spans_of}
use Rattle.ec_select.specs.Selected.{AreTables, IsSelection}
use Rattle.ec_select.specs.Sharing.{function_uses, uses_from, uses_in, program_uses, rows_of, routine_among, routine_of}
use Rattle.ec_select.specs.Sharing.{routines_among, routines_begin, routines_code}
use Rattle.ec_select_startup.specs.Startup.{startup_code}
use Rattle.ec_build.proofs.Viewed.{each_at}
use Rattle.ec_build.proofs.OneNeed.{TellSame, wanted_same, rows_same}

-- ---- labels

-- a label stands in operations as often as behind the first of them, or more often
count_more : (l : ℕ) (i : PlainIr) (code : List PlainIr) → count l code ≤ count l (i ∷ code)
count_more l (label k) code = omega arith
count_more l (jump k) code = omega arith
count_more l i code = omega arith

counted : (l : ℕ) (code : List PlainIr) → 1 ≤ count l (label l ∷ code)
counted l code = grind (arith, nat_tests)

module _ (s : ℕ) (in_flash : Bool) (here there : ℕ → Need) (all : List PlainIr) (here_live : IsLive in_flash here all)
    (there_live : IsLive in_flash there all) (here_least : IsLeast in_flash s here all) (there_least : IsLeast in_flash s there all) where
  label_same : (l : ℕ) → 1 ≤ count l all → AreSame s (here l) (there l)
  label_same l some place within =
      let a = here_least there there_live l some place within in
      let b = there_least here here_live l some place within in
      omega (arith, a, b)

  module _ (cells : ℕ) (p : PlainIrProgram) (results : Results) (f : ℕ) where
    tell_same : (i : PlainIr) (code : List PlainIr) → ((l : ℕ) → count l (i ∷ code) ≤ count l all)
        → ValidOperation cells p results f s all i → TellSame s here there i
    tell_same (label l) code m v = label_same l (let a = m l in let b = counted l code in omega (arith, a, b))
    tell_same (jump l) code m v = label_same l (omega (arith, v))
    tell_same (branch_zero t l) code m v = label_same l (let c = v.1 in omega (arith, c))
    tell_same i code m v = tt

    all_tell_same : (code : List PlainIr) → ((l : ℕ) → count l code ≤ count l all)
        → AllByRecursion (ValidOperation cells p results f s all) code → AllByRecursion (TellSame s here there) code
    all_tell_same [] m v = tt
    all_tell_same (i ∷ code) m v = (
      tell_same i code m v.0,
      all_tell_same code (λ l. let a = count_more l i code in let b = m l in omega (arith, a, b)) v.1,
    )

-- ---- functions

pub record Laws : Type 0 where
  pub places : ValidOperationsHavePlaces
  pub written : NeededFunctionsAreWritten

module _ (laws : Laws) (core : Core) (cells : ℕ) (p : PlainIrProgram) (results : ℕ → ℕ) (f : ℕ) (g : PlainIrFunction)
    (v : ValidIrFunction cells p results f g)
    (here there : ℕ → Need)
    (here_live : IsLive (has_tables (data_of p).objects) here g.code) (there_live : IsLive (has_tables (data_of p).objects) there g.code)
    (here_least : IsLeast (has_tables (data_of p).objects) g.slots here g.code)
    (there_least : IsLeast (has_tables (data_of p).objects) g.slots there g.code) where
  abbrev in_flash : Bool
  in_flash = has_tables (data_of p).objects

  tell : AllByRecursion (TellSame g.slots here there) g.code
  tell =
      all_tell_same g.slots in_flash here there g.code here_live there_live here_least there_least cells p results f g.code
      (λ l. omega arith) v.code

  -- what is needed of each result
  bytes_same : wanted_bytes (facts_of in_flash here g.code) g.code ≡ wanted_bytes (facts_of in_flash there g.code) g.code
  bytes_same = wanted_same g.slots in_flash here there g.code g.code (laws.places cells p results f g v) tell

  uses_same : function_uses core p here f g ≡ function_uses core p there f g
  uses_same = λ j. uses_in core (data_of p) (homes_of f g.code) (bytes_same j) (right_numbers g.code) g.code

  code_same : (routines : PlainIr → Option ℕ) → code_of core p routines here f (Some g) ≡ code_of core p routines there f (Some g)
  code_same routines =
      let k = linkage_of core p function_label f g.slots (made_with p routines here f g) in
      sym (laws.written (data_of p) k routines f here g.code)
      ∙ (λ j. written_function (data_of p) k f (bytes_same j)
      (rows_same g.slots in_flash here there g.code g.code (laws.places cells p results f g v) tell j) (right_numbers g.code)
      (map routines g.code) g.code)
      ∙ laws.written (data_of p) k routines f there g.code

chain_same : (a b : ℕ → List AsmItem) (n : ℕ) → ((k : ℕ) → k < n → a k ≡ b k) → chain a n ≡ chain b n
chain_same a b zero h = refl
chain_same a b (suc n) h =
    let last : n < suc n = omega arith in
    λ j. chain_same a b n (λ k l. h k (omega (arith, l))) j ++ h n last j

module _ (laws : Laws) (core : Core) (cells : ℕ) (p : PlainIrProgram) (valid : ValidIr cells p) (here there : ℕ → ℕ → Need)
    (here_are : AreTables p here (length p.functions)) (there_are : AreTables p there (length p.functions)) where
  valid_at : (f : ℕ) (g : PlainIrFunction) → slice_get p.functions f ≡ Some g → ValidIrFunction cells p valid.results f g
  valid_at f g e = each_at (ValidIrFunction cells p valid.results) 0 f f p.functions g (omega arith) valid.functions e

  -- ---- routines

  from_same : (f : ℕ) (gs : List PlainIrFunction)
      → ((j : ℕ) (g : PlainIrFunction) → slice_get gs j ≡ Some g → slice_get p.functions (f + j) ≡ Some g)
      → uses_from core p here f gs ≡ uses_from core p there f gs
  from_same f [] among = refl
  from_same f (g ∷ gs) among =
      let z : f + 0 ≡ f = omega arith in
      let e : slice_get p.functions f ≡ Some g = subst (λ k. slice_get p.functions k ≡ Some g) z (among 0 g refl) in
      let l = slice_get_within p.functions f g e in
      let first = uses_same laws core cells p valid.results f g (valid_at f g e) (here f) (there f)
      (here_are.live f g l e) (there_are.live f g l e) (here_are.least f g l e) (there_are.least f g l e) in
      let rest = from_same (f + 1) gs
      (λ j x q. let n : f + suc j ≡ f + 1 + j = omega arith in subst (λ k. slice_get p.functions k ≡ Some x) n (among (suc j) x q)) in
      λ j. first j ++ rest j

  all_uses_same : program_uses core p here ≡ program_uses core p there
  all_uses_same =
      from_same 0 p.functions (λ j g e. let q : j ≡ 0 + j = omega arith in subst (λ k. slice_get p.functions k ≡ Some g) q e)

  routines_same : routine_of core p here ≡ routine_of core p there
  routines_same = λ j. routine_among (routines_begin p) (rows_of (all_uses_same j))

  -- ---- functions

  function_same : (f : ℕ) → f < length p.functions → (o : Option PlainIrFunction) → slice_get p.functions f ≡ o
      → code_of core p (routine_of core p here) (here f) f o ≡ code_of core p (routine_of core p there) (there f) f o
  function_same f l None e = refl
  function_same f l (Some g) e =
      code_same laws core cells p valid.results f g (valid_at f g e) (here f) (there f) (here_are.live f g l e) (there_are.live f g l e)
      (here_are.least f g l e) (there_are.least f g l e)
      (routine_of core p here)
      ∙ ap (λ (r : PlainIr → Option ℕ). code_of core p r (there f) f (Some g)) routines_same

  functions_same : functions_code core p here (length p.functions) ≡ functions_code core p there (length p.functions)
  functions_same =
      chain_same (λ f. code_of core p (routine_of core p here) (here f) f (slice_get p.functions f))
      (λ f. code_of core p (routine_of core p there) (there f) f (slice_get p.functions f)) (length p.functions)
      (λ f l. function_same f l (slice_get p.functions f) refl)

  rest_same : functions_code core p here (length p.functions) ++ routines_code core p here
      ≡ functions_code core p there (length p.functions) ++ routines_code core p there
  rest_same = λ j. functions_same j ++ routines_among (routines_begin p) (rows_of (all_uses_same j))

-- ---- programs

pub items_same : Laws → (core : Core) (cells : ℕ) (p : PlainIrProgram) → ValidIr cells p → (a b : AsmProgram) → IsSelection core p a
    → IsSelection core p b → a.items.items ≡ b.items.items
items_same laws core cells p valid a b s t =
    s.items
    ∙ (λ j. Label entry_label ∷ (startup_code (spans_of p) (function_label p.main)
    ++ rest_same laws core cells p valid s.tables t.tables s.are_tables t.are_tables j))
    ∙ sym t.items
