-- Programs of several functions: the machine reaches all that the operations show, and stays within it.
use Rattle.std.proofs.Common.{◌≡◌, ℕ, zero, suc, ◌+◌, ◌-◌, ◌*◌, ◌%◌, ◌<◌, ◌≤◌, inl, ⊎_elim, Bool, true, false, ◌||◌, List}
use Rattle.std.proofs.Common.{[], ◌∷◌}
use Rattle.std.proofs.Common.{refl, sym, ap, ◌∙◌, subst, arith, Option, Some, None, ℤ, eqb-true}
use Rattle.std.specs.Prelude.{◌==◌, nat_le, if◌then◌else◌, slice_get, slice_index}
use Rattle.std.specs.Int.{cast_signed, w16}
use Rattle.std.proofs.lemmas.Bool.{cases_lt, eq-eqb, le-leb, or_cases, or_left, or_right}
use Rattle.ec_runs.specs.Behaviours.{Behaviour, Running, Ended, Failed, Reached, Reaches, seen_as}
use Rattle.ec_runs.proofs.Runs.{what_reaches_stays_within}
use Rattle.ec_isa.specs.declared.instructions.Instr.TheVariants.{Break}
use Rattle.ec_avr.specs.declared.machine.Access.{Access}
use Rattle.ec_avr.specs.Machine.{State as MachineState}
use Rattle.ec_avr.specs.Runs.{MachineFault}
use Rattle.ec_avr.specs.State.{raised}
use Rattle.ec_space.specs.declared.space.Bank.TheVariants.{Data as DataBank}
use Rattle.ec_asm.specs.View.{View, pair}
use Rattle.ec_asm.specs.Change.{Env, sp}
use Rattle.ec_asm.specs.Items.{HasAt}
use Rattle.ec_asm.specs.Pieces.{Outside, value}
use Rattle.ec_asm.specs.Run.{run, is_safe, fetch, back_at, popped, Running as VRunning, Ended as VEnded}
use Rattle.ec_asm.specs.Shows.{Shows, Fits, RunsAs}
use Rattle.ec_asm.specs.Behaves.{noted_run}
use Rattle.ec_asm.specs.Takes.{Goes}
use Rattle.ec_asm.specs.Laws.{MachineRunsAsView, NotedRunsAreRuns}
use Rattle.ec_asm.proofs.Behaves.{goes_on_noted, ends_noted}
use Rattle.ec_asm.proofs.Ending.{runs_end}
use Rattle.ec_core.specs.declared.values.Undefined.{Undefined}
use Rattle.ec_core.specs.declared.values.Undefined.TheVariants.{Access as NoAccess}
use Rattle.ec_core.specs.declared.values.Value.{Value}
use Rattle.ec_core.specs.Laws.{BytesAreTakenInOrder}
use Rattle.ec_core.specs.Meaning.{behaviour_of, state_of, number_of}
use Rattle.ec_core.specs.Plain.{PlainProgram}
use Rattle.ec_core.specs.Accesses.{leaf_of}
use Rattle.ec_core.specs.State.{Inputs, Event, State, ObjectState, Outcome, got, more, undefined}
use Rattle.ec_core.specs.TypeLaws.{LeavesFillTheirTypes}
use Rattle.ec_ir.specs.Meaning.{is_among, start, start_state, enter, leave, run as ir_run}
use Rattle.ec_ir.specs.Operations.{PlainIrFunction, PlainIrProgram, data_of}
use Rattle.ec_ir.specs.Temporaries.{Content, bits, points, Held}
use Rattle.ec_ir.specs.Valid.{ValidIr, called_in}
use Rattle.ec_ir_known.specs.Laws.{checked, KnownNumbersAreHeld}
use Rattle.ec_select_operations.specs.Code.{ops_code}
use Rattle.ec_select_operations.specs.Homes.{home, result_register}
use Rattle.ec_select_functions.specs.Laws.{HoldsStart, AreSelected, IsEntered, linkage_of, within_steps}
use Rattle.ec_select_functions.specs.Laws.{HoldsUnlessFailed, ShowsOperations, CodeFollowsOperations}
use Rattle.ec_select_functions.specs.Kept.{are_on_ports, on_ports, meaning_on}
use Rattle.ec_select_operations.specs.Needs.{facts_of, needs}
use Rattle.ec_select_operations.specs.Places.{ObjectLeaf}
use Rattle.ec_select_operations.specs.Pointers.{has_tables}
use Rattle.ec_select_functions.specs.Relation.{accesses, HoldsContent, Matches}
use Rattle.ec_select_functions.proofs.Setting.{FixedLaws, RoutineLaws, PointerLaws, NumberLaws}
use Rattle.ec_select_functions.proofs.Active.{World, Active, homes_of, scratch_of, stack_work, stack_cell, scratch_cell}
use Rattle.ec_select_functions.proofs.Active.{base_of, leaf_at, leaf_is, setting_of, selected_of, stack_scratch}
use Rattle.ec_select_functions.proofs.Active.{stack_leaf, leaf_outside_cell, first_cell_at, standing_by}
use Rattle.ec_select_functions.proofs.Called.{Statement, call_follows}
use Rattle.ec_select_functions.proofs.Cells.{in_row, row_parts, row_from, by_row, cell_stands, other_stands, other_is}
use Rattle.ec_select_functions.proofs.Cells.{none_bound, functions_use}
use Rattle.ec_select_functions.proofs.Checked.{operand_places}
use Rattle.ec_select_functions.proofs.Follow.{Follows, stay}
use Rattle.ec_select_functions.proofs.Match.{HadValue, had_value, kept_frames}
use Rattle.ec_select_functions.proofs.Numbers.{signed_word}
use Rattle.ec_select_functions.proofs.Returned.{HandsOn, Left, Returns, go_on, pointer_is, return_follows}
use Rattle.ec_select_functions.proofs.Safe.{safe_earlier}
use Rattle.ec_select_functions.proofs.Behind.{functions_go}
use Rattle.ec_select_functions.proofs.Going.{Ready, are_ready}
use Rattle.ec_select_functions.proofs.Steps.{follows}

-- what this rests on of the layers below
pub record CodeLaws : Type 0 where
  pub views : MachineRunsAsView
  pub runs : NotedRunsAreRuns
  pub fill : LeavesFillTheirTypes
  pub taken : BytesAreTakenInOrder
  pub fixed : FixedLaws
  pub routines : RoutineLaws
  pub pointers : PointerLaws
  pub numbers : NumberLaws
  pub known : KnownNumbersAreHeld

-- ---- all functions, by the operations that count

module _ (p : PlainIrProgram) (e : Env) (place entry_of : ℕ → ℕ) (w : World p e place entry_of) where
  abbrev D : PlainProgram
  D = data_of p

  none_made : Statement p e place entry_of w 0
  none_made f g s aside was a stack stacked returns pc rest m v r h = stay D place e pc v m.state h.seen h.safe

  one_more : (n : ℕ) → ((j : ℕ) → j ≤ n → Statement p e place entry_of w j) → Statement p e place entry_of w (suc n)
  one_more n below f g s aside was a stack stacked returns =
      let x = selected_of p e place entry_of w f g a.is in
      let labels = (w.selected.made f).labels in
      let link = linkage_of e.core p entry_of f g.slots (w.selected.made f) in
      let hs = home (homes_of p e place entry_of w f) in
      let bs = base_of p e place entry_of w f in
      let setting = setting_of p e place entry_of w f g s aside was a in
      let stands = x.stands in
      let ready : Ready D p.functions e g.slots hs bs place setting labels g.code x.end w.selected.results f link stack stands.0 g.code =
      record {
        covered = are_ready D e w.cells w.selected.results f (called_in g.code) g.slots link g.code g.code x.covered
            (functions_use w.cells p w.valid f g a.is) (functions_go w.cells p w.valid f g a.is)
            (λ i there l q. (x.routines i l there q, x.callers i l there q));
        live = x.live;
        inside = λ b q. q;
        here = record { active = a.runs; stacked = stacked; core = refl };
        stands = stands.2;
      } in
      follows D p.functions e g.slots hs bs place setting labels g.code x.end w.selected.results f link stack stands.0 ready n
      (λ i k. below i (omega (arith, k)) f g s aside was a stack stacked (λ j l. returns j (omega (arith, k, l))))
      (call_follows p e place entry_of w f g s aside was a stack n below (λ j l. returns j (omega arith)))
      (return_follows p e place entry_of w f g s aside was a stack n (returns n (omega arith)))

  up_to : (n j : ℕ) → j ≤ n → Statement p e place entry_of w j
  up_to zero zero l = none_made
  up_to zero (suc j) l = absurd (omega arith)
  up_to (suc n) j l =
      ⊎_elim
      (λ (q : j < suc n). up_to n j (omega arith))
      (λ (q : suc n ≤ j). let z : suc n ≡ j = omega arith in subst (λ i. Statement p e place entry_of w i) z (one_more n (up_to n)))
      (cases_lt j (suc n))

  pub all_functions : (n : ℕ) → Statement p e place entry_of w n
  all_functions n = up_to n n (omega arith)

-- ---- main, at the bottom of the stack

-- the stack pointer, the return address, and the cells
abbrev first_aside : (cell cells s : ℕ) → ℕ → Bool
first_aside cell cells s k = (k == 93 || k == 94) || (in_row (s + 1) 2 k || in_row cell cells k)

module _ (cell cells s k : ℕ) (P : Type 0) where
  first_cases : first_aside cell cells s k ≡ true → (k ≡ 93 → P) → (k ≡ 94 → P) → (s + 1 ≤ k → k < s + 1 + 2 → P)
      → (cell ≤ k → k < cell + cells → P) → P
  first_cases h f g i j =
      ⊎_elim
      (λ q. ⊎_elim (λ r. f (eqb-true k 93 r)) (λ r. g (eqb-true k 94 r)) (or_cases (k == 93) (k == 94) q))
      (λ q. ⊎_elim
      (λ r. let z = row_parts (s + 1) 2 k r in i z.0 z.1)
      (λ r. let z = row_parts cell cells k r in j z.0 z.1)
      (or_cases (in_row (s + 1) 2 k) (in_row cell cells k) q))
      (or_cases (k == 93 || k == 94) (in_row (s + 1) 2 k || in_row cell cells k) h)

module _ (laws : CodeLaws) (cells : ℕ) (p : PlainIrProgram) (place entry_of : ℕ → ℕ) (e : Env) (size low : ℕ) (s : MachineState) (v : View)
    (inputs : Inputs) (valid : ValidIr cells p) (fit : Fits e size) (shows : Shows e size s.core s.mem v)
    (feeds : (port : ℕ) → v.inputs port ≡ inputs port) (begin : HoldsStart (data_of p) place v)
    (selected : AreSelected cells p e place entry_of) (enters : IsEntered p e low (entry_of p.main) s.pc v) where
  abbrev w : World p e place entry_of
  w = record {
    cells = cells;
    selected = selected;
    valid = valid;
    fill = laws.fill;
    inputs = inputs;
    feeds = λ port k. subst (λ (bytes : List ℕ). slice_index bytes k < 256) (feeds port) (shows.feeds port k);
    taken = laws.taken;
    fixed = laws.fixed;
    routines = laws.routines;
    pointers = laws.pointers;
    numbers = laws.numbers;
    low = low;
    top = sp v + 2;
    high = enters.high;
    below = enters.top;
    stacked = enters.stacked;
  }

  abbrev program_data : PlainProgram
  program_data = data_of p

  -- what is set aside for what called main, and for the cells
  abbrev set_aside : ℕ → Bool
  set_aside k = first_aside (first_cell_at p e place entry_of w) cells (sp v) k

  low_room : low ≤ sp v + 1
  low_room = let r : low + 2 * 0 + 16 ≤ sp v + 1 = enters.room [] tt in omega arith

  abbrev cell : ℕ
  cell = first_cell_at p e place entry_of w

  active : (g : PlainIrFunction) → slice_get p.functions p.main ≡ Some g
      → Active p e place entry_of w p.main g (sp v) set_aside v.at
  active g is =
      let high = enters.high in
      let room = low_room in
      let top = enters.top in
      let above = selected.work_stands.high in
      record {
        is = is;
        functions = p.main ∷ [];
        runs = or_left (p.main == p.main) false (eq-eqb p.main p.main refl);
        leading = λ c q. inl (only_main c q);
        chained = λ c d q r. inl (only_main c q ∙ sym (only_main d r));
        high = λ k q. first_cases cell cells (sp v) k (32 ≤ k) q (λ r. omega arith) (λ r. omega arith) (λ l m. omega arith)
            (λ l m. omega arith);
        leaves = λ l k q. first_cases cell cells (sp v) k (Outside (leaf_at p e place entry_of w l) l.bytes k) q
            (λ r. low_leaf l k (omega arith) (omega arith)) (λ r. low_leaf l k (omega arith) (omega arith))
            (λ i m. stack_leaf p e place entry_of w p.main g is l k (omega arith) (enters.stacked k (omega arith) (omega arith)))
            (λ i m. leaf_outside_cell p e place entry_of w p.main g is l k i m);
        own = λ k q. other p.main g is k q;
        others = λ b h to is1 k q. other b h is1 k q;
        free = λ k q l. first_cases cell cells (sp v) k (sp v < k) q (λ r. absurd (omega arith)) (λ r. absurd (omega arith))
            (λ i m. omega arith) (λ i m. cell_free k l i m);
        work = λ k q. first_cases cell cells (sp v) k (Outside selected.work 64 k) q (λ r z. absurd (omega arith))
            (λ r z. absurd (omega arith)) (λ l m. stack_work p e place entry_of w k (enters.stacked k (omega arith) (omega arith)))
            (λ l m z. omega arith);
        cells = λ c l. cell_aside c l;
        pointer_low = refl;
        pointer_high = refl;
        pointer = refl;
        room = enters.room;
        below = omega arith;
      }
    where
      cell_aside : (c : ℕ) → c < cells → set_aside (cell + c) ≡ true
      cell_aside c l =
          or_right (cell + c == 93 || cell + c == 94) (in_row (sp v + 1) 2 (cell + c) || in_row cell cells (cell + c))
          (or_right (in_row (sp v + 1) 2 (cell + c)) (in_row cell cells (cell + c)) (row_from cell cells (cell + c) (omega arith) (omega arith)))

      cell_free : (k : ℕ) → low ≤ k → cell ≤ k → k < cell + cells → sp v < k
      cell_free k l i m =
          ⊎_elim
          (λ (z : k < sp v + 2 + 1). let o = stack_cell p e place entry_of w k (enters.stacked k l (omega arith)) i in absurd (omega arith))
          (λ (z : sp v + 2 + 1 ≤ k). omega arith)
          (cases_lt k (sp v + 2 + 1))

      only_main : (c : ℕ) → is_among (p.main ∷ []) c ≡ true → c ≡ p.main
      only_main c q =
          ⊎_elim (λ (i : (p.main == c) ≡ true). sym (eqb-true p.main c i)) (λ (i : false ≡ true). absurd cc)
          (or_cases (p.main == c) false q)

      low_leaf : (l : ObjectLeaf program_data DataBank) (k : ℕ) → 32 ≤ k → k < 256 → Outside (leaf_at p e place entry_of w l) l.bytes k
      low_leaf l k a b q =
          ⊎_elim
          (λ (z : leaf_at p e place entry_of w l + l.bytes ≤ 8). omega arith)
          (λ (z : 256 ≤ leaf_at p e place entry_of w l). absurd (omega arith))
          (leaf_is p e place entry_of w p.main g is l)

      cell_apart : (b : ℕ) (h : PlainIrFunction) → slice_get p.functions b ≡ Some h → (k : ℕ) → cell ≤ k → k < cell + cells
          → Outside (scratch_of p e place entry_of w b) (16 * h.slots) k
      cell_apart b h is1 k l m z =
          ⊎_elim
          (λ (i : k < scratch_of p e place entry_of w b + 16 * h.slots).
          let o = scratch_cell p e place entry_of w b h is1 k z i l in absurd (omega arith))
          (λ (i : scratch_of p e place entry_of w b + 16 * h.slots ≤ k). i)
          (cases_lt k (scratch_of p e place entry_of w b + 16 * h.slots))

      other : (b : ℕ) (h : PlainIrFunction) → slice_get p.functions b ≡ Some h → (k : ℕ) → set_aside k ≡ true
          → Outside (scratch_of p e place entry_of w b) (16 * h.slots) k
      other b h is1 k q =
          let above = (selected_of p e place entry_of w b h is1).scratch_stands.high in
          let high = enters.high in
          let room = low_room in
          first_cases cell cells (sp v) k (Outside (scratch_of p e place entry_of w b) (16 * h.slots) k) q (λ r z. absurd (omega arith))
          (λ r z. absurd (omega arith)) (λ l m. stack_scratch p e place entry_of w b h is1 k (enters.stacked k (omega arith) (omega arith)))
          (λ l m z. cell_apart b h is1 k l m z)

  -- it returns to the BREAK
  module _ (g : PlainIrFunction) (is : slice_get p.functions p.main ≡ Some g) (j : ℕ) (st : State) (u : View) (spent : ℕ)
      (credit : spent + 64 ≤ st.work) (left : Left p e place entry_of w g p.main (p.main ∷ []) set_aside v.at st u) where
    pointer_u : sp u ≡ sp v
    unfolding active
    pointer_u = pointer_is p e place entry_of w p.main g (sp v) set_aside v.at (active g is) [] _ _ u left

    stack_kept : (k : ℕ) → sp v + 1 ≤ k → k < sp v + 1 + 2 → u.at k ≡ v.at k
    stack_kept k l m =
        let room = low_room in
        left.kept k (v.at k)
        (or_right (k == 93 || k == 94) (in_row (sp v + 1) 2 k || in_row cell cells k)
        (or_left (in_row (sp v + 1) 2 k) (in_row cell cells k) (row_from (sp v + 1) 2 k l m)))
        (other_stands cell cells v.at k st.groups
        (stack_cell p e place entry_of w k (enters.stacked k (omega arith) (omega arith))))

    same_back : back_at u ≡ back_at v
    same_back =
        let top = enters.top in
        let one : raised (sp v) ≡ sp v + 1 = omega arith in
        let two : raised (raised (sp v)) ≡ sp v + 2 = omega arith in
        let a : u.at (raised (sp u)) ≡ v.at (raised (sp v)) =
        ap (λ n. u.at (raised n)) pointer_u ∙ ap u.at one ∙ stack_kept (sp v + 1) (omega arith) (omega arith) ∙ ap v.at (sym one) in
        let b : u.at (raised (raised (sp u))) ≡ v.at (raised (raised (sp v))) =
        ap (λ n. u.at (raised (raised n))) pointer_u ∙ ap u.at two ∙ stack_kept (sp v + 2) (omega arith) (omega arith)
        ∙ ap v.at (sym two) in
        rw (a, b) refl

    stops : fetch e (back_at u % 65536) ≡ Some Break
    stops = ap (λ n. fetch e (n % 65536)) same_back ∙ enters.stop

    bottom : (result : Option Held) → HandsOn p e place entry_of w p.main result u
        → Follows program_data place e j spent (back_at u % 65536) (popped u) (leave program_data [] result (go_on p e place entry_of w j)
        st)
    bottom None hands =
        λ ports.
        let word : pair u.at 24 ≡ 0 = hands refl in
        record {
          steps = 0;
          to = back_at u % 65536;
          last = popped u;
          most = omega arith;
          goes = record { by = refl };
          stop = stops;
          seen = left.seen;
          safe = left.safe;
          result = ap (cast_signed w16) word;
        }
    bottom (Some c) hands = by_content c.content hands.2
      where
        two : c.bytes ≡ 2
        two = hands.0 ∙ selected.main_result

        by_content : (x : Content) → HoldsContent program_data place u.at (result_register c.bytes) c.bytes c.bytes x
            → Follows program_data place e j spent (back_at u % 65536) (popped u)
            (leave program_data [] (Some (record { bytes = c.bytes; content = x })) (go_on p e place entry_of w j) st)
        by_content (points q) content = tt
        by_content (bits number) content =
            λ ports.
            let content2 : HoldsContent program_data place u.at (result_register 2) 2 2 (bits number) = subst
            (λ n. HoldsContent program_data place u.at (result_register n) n n (bits number)) two content in
            let below : number < 65536 = content2.1 in
            let moved : value u.at 24 2 ≡ number % 65536 = content2.0 in
            let word : pair u.at 24 ≡ number = omega (arith, moved, below) in
            record {
              steps = 0;
              to = back_at u % 65536;
              last = popped u;
              most = omega arith;
              goes = record { by = refl };
              stop = stops;
              seen = left.seen;
              safe = left.safe;
              result = ap (cast_signed w16) word ∙ signed_word number below;
            }

  returns : (g : PlainIrFunction) (is : slice_get p.functions p.main ≡ Some g) (j : ℕ)
      → Returns p e place entry_of w p.main g (p.main ∷ []) set_aside v.at [] j
  returns g is j result st u spent credit hands left = bottom g is j st u spent credit left result hands

  begun : (g : PlainIrFunction) → Matches program_data e inputs g.slots (base_of p e place entry_of w p.main) place set_aside
      (standing_by p e place entry_of w v.at) (p.main ∷ []) (called_in g.code)
      (needs (facts_of (has_tables program_data.objects) (selected.made p.main).labels g.code) g.code) (start program_data) v
  begun g = record {
    temps_hold = λ t h it q z. absurd cc;
    leaves_hold = λ l x u q z. let r = had l.object l.number x u q z in begin.leaves l r.state u r.is_state r.leaf;
    tables_hold = λ l x u q z. let r = had l.object l.number x u q z in selected.tables.values l r.state u r.is_state r.leaf;
    frames = kept_frames program_data (p.main ∷ []) (called_in g.code) (p.main ∷ []) (start_state program_data) (inl refl);
    kept = λ k byte q z. stands_there k byte z;
    bytes = begin.bytes;
    left = feeds;
    seen = begin.seen;
    safe = begin.safe;
  }
    where
      -- no cell has anything
      stands_there : (k byte : ℕ) → standing_by p e place entry_of w v.at (start program_data).state.groups k ≡ Some byte → v.at k ≡ byte
      stands_there k byte z =
          ⊎_elim
          (λ (c : (i : ℕ) × (i < cells) × (k ≡ cell + i)).
          let none : None ≡ Some byte =
          sym (none_bound 256 c.0) ∙ sym (cell_stands cell cells v.at c.0 (start program_data).state c.1)
          ∙ ap (standing_by p e place entry_of w v.at (start program_data).state.groups) (sym c.2) ∙ z in
          absurd cc)
          (λ o. other_is cell cells v.at k byte (start program_data).state.groups o z)
          (by_row cell cells k)

      had : (o k : ℕ) (x : ObjectState) (u : Value) → slice_get (start program_data).state.objects o ≡ Some x → leaf_of x k ≡ Some u
          → HadValue (p.main ∷ []) p.objects (start_state program_data).objects o k u
      had o k x u q z = had_value (p.main ∷ []) p.objects (start_state program_data).objects o k x u q z

  entered : (n : ℕ) → Follows program_data place e n 0 s.pc v (ir_run p inputs n)
  unfolding active
  entered n =
      subst (λ o. Follows program_data place e n 0 s.pc v o) (laws.known operand_places p inputs n)
      (by_main (slice_get p.functions p.main) refl)
    where
      by_main : (o : Option PlainIrFunction) → slice_get p.functions p.main ≡ o
          → Follows program_data place e n 0 s.pc v (enter o (λ q m. checked operand_places p.functions program_data inputs n q m) []
          (start program_data))
      by_main None is = tt
      by_main (Some g) is =
          let a = active g is in
          let x = selected_of p e place entry_of w p.main g a.is in
          let stands = x.stands in
          let labels = (selected.made p.main).labels in
          let link = linkage_of e.core p entry_of p.main g.slots (selected.made p.main) in
          let hs = home (homes_of p e place entry_of w p.main) in
          let here : x.pc ≡ s.pc = sym (stands.1.0 enters.word) ∙ sym enters.at in
          let mid : stands.0 ≡ s.pc = stands.1.1 ∙ here in
          let ready : Ready program_data p.functions e g.slots hs (base_of p e place entry_of w p.main) place
          (setting_of p e place entry_of w p.main g (sp v) set_aside v.at a) labels g.code x.end selected.results p.main
          link [] s.pc g.code = record {
            covered = are_ready program_data e cells selected.results p.main (called_in g.code) g.slots link g.code g.code x.covered
                (functions_use cells p valid p.main g is) (functions_go cells p valid p.main g is)
                (λ i there l q. (x.routines i l there q, x.callers i l there q));
            live = x.live;
            inside = λ b q. q;
            here = record { active = a.runs; stacked = refl; core = refl };
            stands = subst
                (λ i. HasAt e (ops_code program_data hs link (facts_of (has_tables program_data.objects) labels g.code) None g.code) i
                x.end) mid stands.2;
          } in
          all_functions p e place entry_of w n p.main g (sp v) set_aside v.at a [] refl (λ j l. returns g is j) s.pc g.code
          (start program_data) v ready (begun g)

  -- ---- the machine

  -- a run of the view that goes on
  goes_noted : (k to : ℕ) (u : View) → Goes e k s.pc v to u → u.safe ≡ true → noted_run e v.inputs s k ≡ Running u.seen
  goes_noted k to u g safe =
      goes_on_noted e size k v s to u begin.seen (subst (RunsAs e size k v s) g.by (laws.views e size k s v fit shows) safe)

  -- one that comes to the BREAK
  ends_at : (k to : ℕ) (u : View) → Goes e k s.pc v to u → fetch e to ≡ Some Break → u.safe ≡ true
      → noted_run e v.inputs s (k + 1) ≡ Ended u.seen (cast_signed w16 (pair u.at 24))
  ends_at k to u g stop safe =
      let b : run e (k + 1) (VRunning s.pc v) ≡ VEnded u = runs_end e k 0 s.pc to v u g stop in
      ends_noted e size (k + 1) v s u begin.seen (subst (RunsAs e size (k + 1) v s) b (laws.views e size (k + 1) s v fit shows) safe)

  ends_same : (a b : List Access) (i j : ℤ) → a ≡ b → i ≡ j → ◌≡◌ {A = Behaviour Access ℤ MachineFault} (Ended a i) (Ended b j)
  ends_same a b i j q r = ap (λ c. Ended c i) q ∙ ap (Ended b) r

  -- where the operations accessed a port that the machine lacks, nothing is owed
  reached : (n : ℕ) (o : Outcome Value) → Follows program_data place e n 0 s.pc v o
      → Reached (λ m. nat_le m ((state_of o).work + 1)) (noted_run e v.inputs s) n
      (seen_as (accesses program_data place) (on_ports e (behaviour_of o)))
  reached n (more r) f = by_ports (are_on_ports e r.events) refl
    where
      by_ports : (b : Bool) → are_on_ports e r.events ≡ b
          → Reached (λ m. nat_le m (r.work + 1)) (noted_run e v.inputs s) n
          (seen_as (accesses program_data place) (if b then Running r.events else Failed NoAccess))
      by_ports false q = tt
      by_ports true q =
          let g = f q in
          let most = g.most in
          (g.steps, le-leb g.steps (r.work + 1) (omega arith), g.least, goes_noted g.steps g.to g.last g.goes g.safe ∙ ap Running g.seen)
  reached n (got x r) f = by_ports (are_on_ports e r.events) refl
    where
      by_ports : (b : Bool) → are_on_ports e r.events ≡ b
          → Reached (λ m. nat_le m (r.work + 1)) (noted_run e v.inputs s) n
          (seen_as (accesses program_data place) (if b then Ended r.events (number_of x) else Failed NoAccess))
      by_ports false q = tt
      by_ports true q =
          let g = f q in
          let most = g.most in (
            g.steps + 1,
            le-leb (g.steps + 1) (r.work + 1) (omega arith),
            ends_at g.steps g.to g.last g.goes g.stop g.safe
                ∙ ends_same g.last.seen (accesses program_data place r.events) (cast_signed w16 (pair g.last.at 24))
                (number_of x) g.seen g.result,
          )
  reached n (undefined point r) f = tt

  reaches : Reaches (within_steps p inputs) (λ n. seen_as (accesses program_data place) (meaning_on e p inputs n)) (noted_run e v.inputs s)
  reaches n = reached n (ir_run p inputs n) (entered n)

  -- ---- no barred access

  safe_upto : (k steps to : ℕ) (u : View) → k ≤ steps → Goes e steps s.pc v to u → u.safe ≡ true → is_safe (run e k (VRunning s.pc v))
      ≡ true
  safe_upto k steps to u l g safe =
      let q : k + (steps - k) ≡ steps = omega (arith, l) in
      safe_earlier e k (steps - k) (VRunning s.pc v)
      (subst (λ st. is_safe st ≡ true) (sym (ap (λ n. run e n (VRunning s.pc v)) q ∙ g.by)) safe)

  safe_past : (k steps to : ℕ) (u : View) → steps ≤ k → Goes e steps s.pc v to u → fetch e to ≡ Some Break → u.safe ≡ true
      → is_safe (run e k (VRunning s.pc v)) ≡ true
  safe_past k steps to u l g stop safe =
      let q : k + 1 ≡ steps + suc (k - steps) = omega (arith, l) in
      let b : run e (k + 1) (VRunning s.pc v) ≡ VEnded u =
      ap (λ n. run e n (VRunning s.pc v)) q ∙ runs_end e steps (k - steps) s.pc to v u g stop in
      safe_earlier e k 1 (VRunning s.pc v) (subst (λ st. is_safe st ≡ true) (sym b) safe)

  safe_at : (k : ℕ) (o : Outcome Value) → Follows program_data place e k 0 s.pc v o
      → HoldsUnlessFailed (on_ports e (behaviour_of o)) (is_safe (run e k (VRunning s.pc v)))
  safe_at k (more r) f = by_ports (are_on_ports e r.events) refl
    where
      by_ports : (b : Bool) → are_on_ports e r.events ≡ b
          → HoldsUnlessFailed {E = Event} {R = ℤ} (if b then Running r.events else Failed NoAccess) (is_safe (run e k (VRunning s.pc v)))
      by_ports false q = tt
      by_ports true q = let g = f q in safe_upto k g.steps g.to g.last g.least g.goes g.safe
  safe_at k (got x r) f = by_ports (are_on_ports e r.events) refl
    where
      by_ports : (b : Bool) → are_on_ports e r.events ≡ b
          → HoldsUnlessFailed (if b then Ended r.events (number_of x) else Failed NoAccess) (is_safe (run e k (VRunning s.pc v)))
      by_ports false q = tt
      by_ports true q =
          let g = f q in
          ⊎_elim (λ l. safe_upto k g.steps g.to g.last (omega (arith, l)) g.goes g.safe)
          (λ l. safe_past k g.steps g.to g.last l g.goes g.stop g.safe) (cases_lt k g.steps)
  safe_at k (undefined point r) f = tt

  pub whole : ShowsOperations p place e v s inputs
  whole = record {
    reaches = reaches;
    within = what_reaches_stays_within Access ℤ Undefined MachineFault (within_steps p inputs)
        (λ n. seen_as (accesses program_data place) (meaning_on e p inputs n)) (noted_run e v.inputs s) (laws.runs e v.inputs s) reaches;
    safe = λ k. safe_at k (ir_run p inputs k) (entered k);
  }

pub code_follows_operations : CodeLaws → CodeFollowsOperations
code_follows_operations laws cells p place entry_of e size low s v inputs valid fit shows feeds begin selected enters =
    whole laws cells p place entry_of e size low s v inputs valid fit shows feeds begin selected enters
