-- There is a program where units keep the limits and break no rule.
use Rattle.std.proofs.Common.{◌≡◌, ◌≤◌, ◌+◌, ℕ, Bool, true, false, ◌&&◌, List, [], ◌∷◌, length, refl, sym, ap, subst, arith}
use Rattle.std.specs.Prelude.{is_none, nat_le, Option, Some, None}
use Rattle.std.proofs.lemmas.Bool.{and_from, true≢false}
use Rattle.std.proofs.lemmas.Bool.Decides.{nat_tests}
use Rattle.ec_check_operands.specs.declared.faults.Fault.{Fault}
use Rattle.ec_check_operands.specs.Faults.{rule}
use Rattle.ec_grammar.specs.Trees as t
use Rattle.ec_iohw.specs.declared.table.IoTable.{IoTable}
use Rattle.ec_core.specs.Plain.{PlainStruct, PlainProgram}
use Rattle.ec_core.specs.TypeLaws.{StructsAreLaidOut}
use Rattle.ec_check_names.specs.Counts.{objects_in_unit, objects_declared, functions_in_unit, functions_defined}
use Rattle.ec_check_names.specs.Definitions.{Definition, definitions, Numbering, nothing_numbered, unlinked, numbered_unit, numbered_from}
use Rattle.ec_check_names.specs.Linkage.{linkage_of}
use Rattle.ec_check_declarations.specs.Sites.{on}
use Rattle.ec_check_file_scope.specs.States.{State, nothing_declared, in_unit}
use Rattle.ec_check_statements.proofs.Unbroken.{kept_of}
use Rattle.ec_check.specs.Agreement.{IsDefined, Agrees}
use Rattle.ec_check.specs.Laws.{structs_in_unit, structs_defined, ProgramsExist}
use Rattle.ec_check.specs.Units.{main_of, after_unit, unit_fault, setting_of, after_units, UnitFault, or_later, first_fault, program_by}
use Rattle.ec_check.proofs.Agreeing.{Laws, same_grows, externals_go_on}
use Rattle.ec_check.proofs.Counted.{Counts}
use Rattle.ec_check.proofs.Grown.{defined_kept}
use Rattle.ec_check.proofs.Links.{no_link}
use Rattle.ec_check.proofs.Lists.{if_true, all_through}

-- ---- where a unit begins

pub unit_begins : (io : IoTable) (unit : ℕ) (n : Numbering) (s : State) → Agrees io unit n s → Agrees io (unit + 1) (unlinked n) (in_unit s)
unit_begins io unit n s h =
    let v = in_unit s in
    record {
      whole = h.whole;
      objects = h.objects;
      functions = h.functions;
      links = λ storage callable name. sym (ap (linkage_of storage callable) (no_link name unit s.declared h.units));
      registered = h.registered;
      made = all_through (IsDefined s) (IsDefined v) n.definitions (λ d. defined_kept s v (same_grows s v refl refl refl) d) h.made;
      clear = h.clear;
      units = all_through (λ e. e.unit ≤ unit) (λ e. e.unit ≤ unit + 1) s.declared (λ e le. omega (arith, le)) h.units;
      types = record { names = λ name. tt; tags = λ name. tt };
      closed = refl;
      sound = record { structs = h.sound.structs; counted = h.sound.counted; named = tt };
      filled = h.filled;
    }

nothing_there : (s : PlainStruct) → ◌≡◌ {A = Option PlainStruct} None (Some s) → ⊥
nothing_there s e = cc

pub nothing_agrees : StructsAreLaidOut → (io : IoTable) → Agrees io 0 (unlinked nothing_numbered) (in_unit nothing_declared)
nothing_agrees law io = record {
  whole = refl;
  objects = refl;
  functions = refl;
  links = λ storage callable name. refl;
  registered = λ name. refl;
  made = tt;
  clear = λ i j d below within. absurd (omega arith);
  units = tt;
  types = record { names = λ name. tt; tags = λ name. tt };
  closed = refl;
  sound = record { structs = law.none; counted = λ i s e. absurd (nothing_there s e); named = tt };
  filled = λ i below. absurd (omega arith);
}

-- ---- units

pub later_none : (unit : ℕ) (o : Option Fault) (later : Option UnitFault) → or_later unit o later ≡ None → (o ≡ None) × (later ≡ None)
later_none unit None later q = (refl, q)
later_none unit (Some f) later q = absurd (some_fault _ q)
  where
    some_fault : (f : UnitFault) → ◌≡◌ {A = Option UnitFault} (Some f) None → ⊥
    some_fault f q = cc

-- what units leave, the last of which has this number: what agrees, no more objects than they declare, and the functions that
-- they define
pub record UnitsAgree (io : IoTable) (unit : ℕ) (n m : Numbering) (s : State) (o f : ℕ) : Type 0 where
  pub agrees : Agrees io unit m s
  pub counts : Counts n m o f

module _ (laws : Laws) (ds : List Definition) (io : IoTable) where
  -- a unit: what it leaves, and rule 18 at its end
  pub unit_agrees : (u : t.Tree) (unit : ℕ) (last : Bool) (n : Numbering) (s : State) → Agrees io unit (unlinked n) (in_unit s)
      → n.objects + objects_in_unit u ≤ 65_536 → n.functions + functions_in_unit u ≤ 65_536
      → length s.structs + structs_in_unit u ≤ 4_294_967_296
      → unit_fault (setting_of ds io unit) last u s ≡ None
      → Agrees io unit (numbered_unit unit u n) (after_unit (setting_of ds io unit) u s)
      × Counts n (numbered_unit unit u n) (objects_in_unit u) (functions_in_unit u)
      × (length (after_unit (setting_of ds io unit) u s).structs ≤ length s.structs + structs_in_unit u)
      × ((last && is_none (main_of ds)) ≡ false)
  unit_agrees (t.tree xs end) unit last n s h room few small q =
      let r = setting_of ds io unit in
      let rest = on (rule 18 (last && is_none (main_of ds)) end.index ∷ []) ∷ [] in
      let a = externals_go_on laws r xs (unlinked n) (in_unit s) rest h room few small q in
      let u = kept_of rest a.0.told in
      (a.0.agrees, record { objects = a.1.objects; functions = a.1.functions }, a.0.structs, u.0.0)

  pub units_agree : (u : t.Tree) (us : List t.Tree) (unit : ℕ) (n : Numbering) (s : State) → Agrees io unit (unlinked n) (in_unit s)
      → n.objects + objects_declared (u ∷ us) ≤ 65_536 → n.functions + functions_defined (u ∷ us) ≤ 65_536
      → length s.structs + structs_defined (u ∷ us) ≤ 4_294_967_296 → first_fault ds io unit (u ∷ us) s ≡ None
      → UnitsAgree io (unit + length us) n (numbered_from unit (u ∷ us) n) (after_units ds io unit (u ∷ us) s) (objects_declared (u ∷ us))
      (functions_defined (u ∷ us))
      × (is_none (main_of ds) ≡ false)
  units_agree u [] unit n s h room few small q =
      let e = later_none unit (unit_fault (setting_of ds io unit) true u s) None q in
      let a = unit_agrees u unit true n s h (omega (arith, room)) (omega (arith, few)) (omega (arith, small)) e.0 in
      let objects = a.1.objects in
      let functions = a.1.functions in
      let same : unit ≡ unit + 0 = omega arith in (
        record {
          agrees = subst (λ (k : ℕ). Agrees io k (numbered_unit unit u n) (after_unit (setting_of ds io unit) u s)) same a.0;
          counts = record { objects = omega (arith, objects); functions = omega (arith, functions) };
        },
        a.3,
      )
  units_agree u (v ∷ us) unit n s h room few small q =
      let next = after_unit (setting_of ds io unit) u s in
      let m = numbered_unit unit u n in
      let e = later_none unit (unit_fault (setting_of ds io unit) false u s) (first_fault ds io (unit + 1) (v ∷ us) next) q in
      let a = unit_agrees u unit false n s h (omega (arith, room)) (omega (arith, few)) (omega (arith, small)) e.0 in
      let objects = a.1.objects in
      let functions = a.1.functions in
      let structs = a.2 in
      let b =
      units_agree v us (unit + 1) m next (unit_begins io unit m next a.0) (omega (arith, room, objects)) (omega (arith, few, functions))
      (omega (arith, small, structs)) e.1 in
      let more = b.0.counts.objects in
      let others = b.0.counts.functions in
      let same : unit + 1 + length us ≡ unit + length (v ∷ us) = omega arith in (
        record {
          agrees = subst
              (λ (k : ℕ). Agrees io k (numbered_from (unit + 1) (v ∷ us) m) (after_units ds io (unit + 1) (v ∷ us) next)) same b.0.agrees;
          counts = record { objects = omega (arith, objects, more); functions = omega (arith, functions, others) };
        },
        b.1,
      )

-- ---- the program

few_enough : (n : ℕ) → n ≤ 65_536 → nat_le n 65_536 ≡ true
few_enough n h = grind (arith, nat_tests, h)

abbrev program_in : State → (main : ℕ) → PlainProgram
program_in s main = record { structs = s.structs; objects = s.scope.objects; functions = s.functions; main = main }

program_there : (s : State) (o : Option ℕ) → is_none o ≡ false → s.whole ≡ true → length s.functions ≤ 65_536
    → (main : ℕ) × (program_by o s ≡ Some (program_in s main))
program_there s None e whole few = absurd (true≢false e)
program_there s (Some main) e whole few = (
  main,
  if_true (λ o. o ≡ Some (program_in s main)) (s.whole && nat_le (length s.functions) 65_536) (Some (program_in s main)) None
      (and_from s.whole (nat_le (length s.functions) 65_536) whole (few_enough (length s.functions) few)) refl,
)

pub programs_exist : Laws → ProgramsExist
programs_exist laws [] io some limits small q = absurd (omega (arith, some))
programs_exist laws (u ∷ us) io some limits small q =
    let ds = definitions (u ∷ us) in
    let s = after_units ds io 0 (u ∷ us) nothing_declared in
    let objects = limits.objects in
    let functions = limits.functions in
    let a = units_agree laws ds io u us 0 nothing_numbered nothing_declared (nothing_agrees laws.laid_out io) (omega (arith, objects))
    (omega (arith, functions))
    (omega (arith, small)) q in
    let h = a.0.agrees in
    let numbered = h.objects in
    let counted = a.0.counts.objects in
    let same = h.functions in
    let count = a.0.counts.functions in
    let p = program_there s (main_of ds) a.1 h.whole (omega (arith, same, count, functions)) in
    (program_in s p.0, record { typed = p.1; objects = omega (arith, numbered, counted); functions = omega (arith, same, count) })
