-- A call: what is needed waits in memory, the called function runs, and the caller goes on.
use Rattle.std.proofs.Common.{◌≡◌, ◌≢◌, ℕ, suc, ◌+◌, ◌-◌, ◌*◌, ◌%◌, ◌<◌, ◌≤◌, ◌⊎◌, ⊎_elim, inl, inr, Bool, true, List, []}
use Rattle.std.proofs.Common.{◌∷◌, ◌++◌, Option, Some, None, refl, sym, ap, ◌∙◌, subst, arith, Contains, ℤ}
use Rattle.std.specs.Prelude.{◌==◌, if◌then◌else◌, drop, slice_get}
use Rattle.std.proofs.lemmas.Bool.{cases_eq, eq-eqb, ne_eqb}
use Rattle.std.proofs.lemmas.List.Elements.{Contains-append_right}
use Rattle.ec_avr.specs.State.{lowered}
use Rattle.ec_asm.specs.declared.items.AsmItem.TheVariants.{CallTo}
use Rattle.ec_space.specs.declared.space.Bank.TheVariants.{Data as DataBank}
use Rattle.ec_asm.specs.declared.pieces.Location.{Location}
use Rattle.ec_asm.specs.View.{View}
use Rattle.ec_asm.specs.Change.{Env, Own, Stacked, sp}
use Rattle.ec_isa.specs.declared.instructions.Instr.TheVariants.{Call as CallInstr, Rcall}
use Rattle.ec_avr.specs.Effects.{relative}
use Rattle.ec_asm.specs.Items.{At, HasAt, Stands, block, code_steps}
use Rattle.ec_asm.specs.Pieces.{StandsFrom, Outside}
use Rattle.ec_asm.specs.PieceLaws.{HoldsNumbers, IsReadFirst}
use Rattle.ec_asm.specs.Run.{pushed, popped, back_at}
use Rattle.ec_asm.specs.Takes.{Goes}
use Rattle.ec_asm.proofs.Calls.{call_goes}
use Rattle.ec_asm.proofs.Hoare.{has_parts, block_goes, goes_on_to}
use Rattle.ec_asm.proofs.Takes.{call_has_word}
use Rattle.ec_core.specs.Plain.{PlainProgram}
use Rattle.ec_core.specs.State.{reads_of, State, worked, next}
use Rattle.ec_ir.specs.declared.operations.Temp.{Temp}
use Rattle.ec_ir.specs.Costs.{op_steps}
use Rattle.ec_ir.specs.Meaning.{kept_for, active as active_functions, Mach, machine, Frame as Call, enter, resulted, leave}
use Rattle.ec_ir.specs.Operations.{PlainIr, call_function, PlainIrFunction, PlainIrProgram, data_of}
use Rattle.ec_ir.specs.Temporaries.{Content, Held, Temps, no_temps, with_held}
use Rattle.ec_ir.specs.Valid.{called_in}
use Rattle.ec_select_operations.specs.declared.homes.Homes.{Homes}
use Rattle.ec_select_operations.specs.Code.{Linkage, ops_code, call_code, save_code, restore_code, taken_code}
use Rattle.ec_select_operations.specs.Code.{move_code, register_places}
use Rattle.ec_select_functions.specs.Covered.{IsResult}
use Rattle.ec_select_operations.specs.Homes.{home, HasHome, result_register, result_location}
use Rattle.ec_select_functions.specs.Laws.{IsSelected, linkage_of}
use Rattle.ec_select_operations.specs.Needs.{Need, Facts, facts_of, needs, wanted, wanted_result, without_result}
use Rattle.ec_select_operations.specs.Places.{ObjectLeaf}
use Rattle.ec_select_operations.specs.Pointers.{has_tables}
use Rattle.ec_select_functions.specs.Relation.{accesses, HoldsContent, FramesStand, Matches}
use Rattle.ec_select_functions.proofs.Active.{World, Active, homes_of, scratch_of, base_of, leaf_at, leaf_is}
use Rattle.ec_select_functions.proofs.Active.{layout_of, setting_of, selected_of, aside_by, aside_stack, called, called_functions}
use Rattle.ec_select_functions.proofs.Active.{has_room, leaf_outside_scratch, leaf_not_stacked, first_cell_at, standing_by}
use Rattle.ec_select_functions.proofs.Active.{low_stands, stack_cell, pushed_free}
use Rattle.ec_select_functions.proofs.Cells.{memory_of, same_objects, same_groups, by_row, other_stands, cell_stands_alike}
use Rattle.ec_select_functions.proofs.Cells.{other_is, functions_use}
use Rattle.ec_select_functions.proofs.Computed.{moved_numbers}
use Rattle.ec_select_functions.proofs.Follow.{Follows, after}
use Rattle.ec_select_functions.proofs.Match.{kept_matches, kept_left, same_content, same_leaf, less_content, held_row, same_temp}
use Rattle.ec_select_functions.proofs.Match.{wanted_most}
use Rattle.ec_select_functions.proofs.Moves.{narrower, stands_less, move_holds, move_straight, move_steps}
use Rattle.ec_select_functions.proofs.Resumed.{IsAt, IsElsewhere, Took, HasPlace, resumes}
use Rattle.ec_select_functions.proofs.Returned.{HandsOn, Left, Returns, go_on, moved_row, pointer_is}
use Rattle.ec_select_functions.proofs.Saved.{kept, are_kept, Saves, saves, save_form, restore_form}
use Rattle.ec_routines.proofs.Stacked.{pushed_same, popped_same, pushed_numbers, pushed_pointer, back_is}
use Rattle.ec_routines.proofs.Stacked.{popped_numbers}
use Rattle.ec_select_functions.proofs.Standing.{result_bounds, result_ends}
use Rattle.ec_select_functions.proofs.Behind.{functions_go}
use Rattle.ec_select_functions.proofs.Going.{Ready, are_ready, at_use}
use Rattle.ec_select_functions.proofs.Steps.{Onward, CallCase}

module _ (p : PlainIrProgram) (e : Env) (place entry_of : ℕ → ℕ) (w : World p e place entry_of) where
  abbrev D : PlainProgram
  D = data_of p

  -- the word after a call
  call_ends : (l pc end : ℕ) → Stands e (CallTo l) pc end → end < 65536
  call_ends l pc end at =
      ⊎_elim
      (λ (t : At e (CallInstr (e.word_of l)) pc end × (e.word_of l < 65536)). t.0.room)
      (λ (t : (k : ℤ) × At e (Rcall k) pc end × (relative pc k % 65536 ≡ e.word_of l)). t.1.room)
      at

  -- what the code of a function shows that runs, from any of its operations on
  abbrev pub Runs : (n f : ℕ) (g : PlainIrFunction) (s : ℕ) (aside : ℕ → Bool) (was : ℕ → ℕ) → Active p e place entry_of w f g s aside was
      → List Call → Type 0
  Runs n f g s aside was a stack =
      Onward D p.functions e g.slots (home (homes_of p e place entry_of w f)) (base_of p e place entry_of w f) place
      (setting_of p e place entry_of w f g s aside was a) (w.selected.made f).labels g.code
      (selected_of p e place entry_of w f g a.is).end w.selected.results f
      (linkage_of e.core p entry_of f g.slots (w.selected.made f)) stack n

  -- where what waits goes on for up to n operations that count, the function runs for n
  abbrev pub Statement : ℕ → Type 0
  Statement n =
      (f : ℕ) (g : PlainIrFunction) (s : ℕ) (aside : ℕ → Bool) (was : ℕ → ℕ) (a : Active p e place entry_of w f g s aside was)
      (stack : List Call) → active_functions D.main stack ≡ a.functions
      → ((j : ℕ) → j ≤ n → Returns p e place entry_of w f g a.functions aside was stack j) → Runs n f g s aside was a stack

  -- the first operation of a function
  begins : (b : ℕ) (gb : PlainIrFunction) (s : ℕ) (aside : ℕ → Bool) (was : ℕ → ℕ) (a : Active p e place entry_of w b gb s aside was)
      (stack : List Call) → active_functions D.main stack ≡ a.functions
      → e.word_of (entry_of b) < 65536
      → Ready D p.functions e gb.slots (home (homes_of p e place entry_of w b)) (base_of p e place entry_of w b) place
      (setting_of p e place entry_of w b gb s aside was a) (w.selected.made b).labels gb.code
      (selected_of p e place entry_of w b gb a.is).end w.selected.results b
      (linkage_of e.core p entry_of b gb.slots (w.selected.made b)) stack (e.word_of (entry_of b)) gb.code
  begins b gb s aside was a stack stacked word =
      let x = selected_of p e place entry_of w b gb a.is in
      let stands = x.stands in
      let here : x.pc ≡ e.word_of (entry_of b) = sym (stands.1.0 word) in
      let mid : stands.0 ≡ e.word_of (entry_of b) = stands.1.1 ∙ here in
      record {
        covered = are_ready D e w.cells w.selected.results b (called_in gb.code) gb.slots
            (linkage_of e.core p entry_of b gb.slots (w.selected.made b)) gb.code gb.code x.covered
            (functions_use w.cells p w.valid b gb a.is) (functions_go w.cells p w.valid b gb a.is)
            (λ i there l q. (x.routines i l there q, x.callers i l there q));
        live = x.live;
        inside = λ c q. q;
        here = record { active = a.runs; stacked = stacked; core = refl };
        stands = subst (λ i. HasAt e (ops_code D (home (homes_of p e place entry_of w b))
            (linkage_of e.core p entry_of b gb.slots (w.selected.made b))
            (facts_of (has_tables D.objects) (w.selected.made b).labels gb.code) None gb.code) i x.end) mid stands.2;
      }

  module _ (f : ℕ) (g : PlainIrFunction) (s : ℕ) (aside : ℕ → Bool) (was : ℕ → ℕ) (a : Active p e place entry_of w f g s aside was)
      (stack : List Call) where
    abbrev slots : ℕ
    slots = g.slots

    -- the functions that are active
    abbrev around : List ℕ
    around = active_functions D.main stack

    abbrev h : Homes
    h = homes_of p e place entry_of w f

    abbrev scratch : ℕ
    scratch = scratch_of p e place entry_of w f

    abbrev hs : Temp → Location
    hs t = home h t

    abbrev bs : Temp → ℕ
    bs t = base_of p e place entry_of w f t

    abbrev x : IsSelected p e place entry_of w.selected.results f g (w.selected.made f) scratch
    x = selected_of p e place entry_of w f g a.is

    abbrev labels : ℕ → Need
    labels = (w.selected.made f).labels

    abbrev at : Facts
    at = facts_of (has_tables D.objects) labels g.code

    abbrev link : Linkage
    link = linkage_of e.core p entry_of f slots (w.selected.made f)

    abbrev T : Option Temp → View → View → Type 0
    T to v v1 = Took p e place entry_of w f g s aside was a to v v1

    abbrev MM : Need → Mach → View → Type 0
    MM need m v = Matches D e w.inputs slots bs place aside (standing_by p e place entry_of w was) a.functions (called_in g.code) need m v

    -- ---- the result is taken

    result_stands : (n m : ℕ) → StandsFrom e (result_location n) m (result_register n) Own
    result_stands n m = record { at = λ i l. refl; kind = λ i l. refl; clear = (let z = (result_bounds n).0 in omega arith) }

    took_nothing : (v : View) → HoldsNumbers v → T None v v
    took_nothing v numbers =
        record { same = λ k q r z o. refl; numbers = numbers; quiet = record { inputs = refl; safe = refl; seen = refl } }

    pub record TookAt (t : Temp) (n : ℕ) (c : Content) (v v1 : View) : Type 0 where
      pub took : T (Some t) v v1
      pub content : HoldsContent D place v1.at (bs t) n t.bytes c

    took_result : (t : Temp) (n : ℕ) (c : Content) (v : View) → HasHome slots t → n ≤ t.bytes → HoldsNumbers v
        → HoldsContent D place v.at (result_register t.bytes) t.bytes t.bytes c
        → TookAt t n c v (block e (move_code (result_location t.bytes) (hs t) n) v)
    took_result t n c v it l numbers content =
        let y = layout_of p e place entry_of w f g a.is in
        let r = result_register t.bytes in
        let v1 = block e (move_code (result_location t.bytes) (hs t) n) v in
        let far : IsReadFirst r (bs t) n = λ q. let z = y.temps_taken t it q in omega arith in
        let some = (result_bounds t.bytes).0 in
        let k =
        move_holds e (result_location t.bytes) (hs t) n r (bs t) v (result_stands t.bytes n)
        (stands_less e (hs t) t.bytes n (bs t) Own l (y.temps_at t it)) far numbers in
        let fewer = less_content D place v.at r t.bytes n t.bytes c l (held_row v r t.bytes (omega arith) numbers) content in
        record {
          took = record {
            same = λ i q z o u. k.frame i q z o (narrower (bs t) t.bytes n i l u);
            numbers = moved_numbers D e slots hs bs place (setting_of p e place entry_of w f g s aside was a) v v1 r (bs t) n
                (omega arith) numbers k;
            quiet = k.quiet;
          };
          content = moved_row p e place entry_of w v v1 r (bs t) n t.bytes c k.there fewer;
        }

    -- ---- the caller goes on

    module _ (n : ℕ) (below : (j : ℕ) → j ≤ n → Statement j)
        (returns : (j : ℕ) → j ≤ n → Returns p e place entry_of w f g a.functions aside was stack j)
        (b : ℕ) (gb : PlainIrFunction) (is : slice_get p.functions b ≡ Some gb) (there : Contains (called_in g.code) b)
        (to : Option Temp) (result_is : IsResult w.selected.results b slots to) (rest : List PlainIr) (m : Mach) (v : View)
        (before : MM (without_result to (needs at rest)) m v) (back end0 mid3 : ℕ) (room : back < 65536)
        (taken_at : HasAt e (taken_code hs to (wanted_result (needs at rest) to)) back mid3)
        (restore_at : HasAt e (restore_code link (without_result to (needs at rest))) mid3 end0)
        (ready : Ready D p.functions e slots hs bs place
        (setting_of p e place entry_of w f g s aside was a) labels g.code x.end w.selected.results f link stack end0 rest) where
      abbrev need : Need
      need = needs at rest

      abbrev need0 : Need
      need0 = without_result to need

      abbrev v1 : View
      v1 = block e (save_code link need0) v

      abbrev waits : Call
      waits = record { code = g.code; rest = rest; temps = m.temps; to = to; called = b }

      abbrev aside_b : ℕ → Bool
      aside_b = aside_by aside scratch (16 * slots) s

      -- what is kept where the caller goes on
      abbrev left_over : State → State
      left_over s1 = kept_for D around s1

      few : register_places slots ≤ 6
      few = omega arith

      within : register_places slots ≤ slots
      within = omega arith

      first : w.low + 1 ≤ s
      first = has_room p e place entry_of w f g s aside was a b there

      deep : (257 ≤ s) × (s < 65536)
      deep =
          let one = first in
          let high = w.high in
          let last = a.below in
          let top = w.below in
          (omega arith, omega arith)

      saved : Saves e slots h scratch x.scratch_stands need0 v v1 (register_places slots)
      saved = saves e slots h scratch x.scratch_stands need0 v before.bytes (register_places slots) within few

      pointer0 : sp v ≡ s
      pointer0 = pointer_is p e place entry_of w f g s aside was a stack need0 m v before

      pointer : sp v1 ≡ s
      pointer =
          let high = x.scratch_stands.high in
          let low = saved.same 93 (omega arith) (λ j z y. absurd (omega arith)) in
          let up = saved.same 94 (omega arith) (λ j z y. absurd (omega arith)) in
          rw (low, up) pointer0

      pushed_is : sp (pushed back v1) ≡ s - 2
      pushed_is = pushed_pointer back v1 s pointer deep.0 deep.1

      active : Active p e place entry_of w b gb (s - 2) aside_b (pushed back v1).at
      active = called p e place entry_of w f g s aside was a b gb there is (pushed back v1) pushed_is

      -- the functions that are active while the called one runs
      abbrev around_b : List ℕ
      around_b = active.functions

      functions_are : active.functions ≡ b ∷ a.functions
      unfolding active
      functions_are = called_functions p e place entry_of w f g s aside was a b gb there is (pushed back v1) pushed_is

      abbrev v2 : View
      v2 = pushed back v1

      -- the two bytes that are pushed are the stack's
      pushed_there : (k : ℕ) → s - 1 ≤ k → k ≤ s → e.kind k ≡ Stacked
      pushed_there k l m =
          let one = first in
          let last = a.below in
          w.stacked k (omega arith) (omega arith)

      -- what a called function left
      module _ (s1 : State) (u : View) (left : Left p e place entry_of w gb b around_b aside_b (pushed back v1).at s1 u) where
        pointer_u : sp u ≡ s - 2
        pointer_u =
            let low = left.kept 93 (v2.at 93) active.pointer_low (low_stands p e place entry_of w v2.at s1.groups 93 (omega arith)) in
            let up = left.kept 94 (v2.at 94) active.pointer_high (low_stands p e place entry_of w v2.at s1.groups 94 (omega arith)) in
            rw (low, up) pushed_is

        goes_back : back_at u % 65536 ≡ back
        goes_back =
            let last = deep.0 in
            back_is back v1 u s pointer deep.0 deep.1 room pointer_u
            (left.kept (s - 1) (v2.at (s - 1)) (aside_stack aside scratch (16 * slots) s (s - 1) (omega arith) (omega arith))
            (other_stands (first_cell_at p e place entry_of w) w.cells v2.at (s - 1) s1.groups
            (stack_cell p e place entry_of w (s - 1) (pushed_there (s - 1) (omega arith) (omega arith)))))
            (left.kept s (v2.at s) (aside_stack aside scratch (16 * slots) s s (omega arith) (omega arith))
            (other_stands (first_cell_at p e place entry_of w) w.cells v2.at s s1.groups
            (stack_cell p e place entry_of w s (pushed_there s (omega arith) (omega arith)))))

        popped_u : HoldsNumbers (popped u)
        popped_u = popped_numbers u left.bytes

        -- with the result at its place, if there is one
        goes_on : (j spent : ℕ) → j ≤ n → spent + 64 ≤ s1.work → (temps : Temps) (v4 : View) (steps : ℕ) → steps ≤ 16
            → Goes e steps back (popped u) mid3 v4 → (it : HasPlace p e place entry_of w f g s aside was a to) → T to (popped u) v4
            → ((t : Temp) (c : Held) → HasHome slots t → temps t.at ≡ Some c → c.bytes ≡ t.bytes
            → (IsAt to t × HoldsContent D place v4.at (bs t) (wanted need t) t.bytes c.content)
            ⊎ (IsElsewhere to t × (m.temps t.at ≡ Some c)))
            → Follows D place e j spent back (popped u)
            (go_on p e place entry_of w j (record { code = g.code; rest = rest; stack = stack }) (machine temps (left_over s1)))
        goes_on j spent l credit temps v4 steps some goes it took held =
            let form = restore_form e slots h scratch x.scratch_stands need0 (register_places slots) few in
            let v5 = block e (restore_code link need0) v4 in
            let second = block_goes e (restore_code link need0) mid3 end0 v4 form.0 restore_at in
            let most = form.1 in
            let matches =
            resumes p e place entry_of w f g s aside was a around_b (called_in gb.code) need to it m temps s1 back v v1 u v4
            before pointer0 saved pointer first b gb left pointer_u took held in
            after D place e (steps + code_steps (restore_code link need0)) j j spent s1.work back end0 (popped u) v5
            (go_on p e place entry_of w j (record { code = g.code; rest = rest; stack = stack }) (machine temps (left_over s1)))
            (goes_on_to e steps (code_steps (restore_code link need0)) back mid3 end0 (popped u) v4 v5 goes second) (omega arith)
            (omega (arith, most, some, credit))
            (below j l f g s aside was a stack ready.here.stacked (λ i r. returns i (omega (arith, r, l))) end0 rest
            (machine temps (left_over s1)) v5 ready
            (kept_matches D e w.inputs slots bs place aside (standing_by p e place entry_of w was) around_b (called_in gb.code)
            a.functions (called_in g.code) need around temps s1 v5 (inl ready.here.stacked) matches))

      back_with : (j : ℕ) → j ≤ n → (to1 : Option Temp) → to ≡ to1 → (result : Option Held) (s1 : State) (u : View) (spent : ℕ)
          → spent + 64 ≤ s1.work
          → HandsOn p e place entry_of w b result u → Left p e place entry_of w gb b around_b aside_b (pushed back v1).at s1 u
          → Follows D place e j spent back (popped u)
          (next (resulted to1 result m.temps s1)
          (λ temps s2. go_on p e place entry_of w j (record { code = g.code; rest = rest; stack = stack }) (machine temps (left_over s2))))
      back_with j l None q result s1 u spent credit hands left =
          let at : HasAt e (taken_code hs None (wanted_result need None)) back mid3 =
          subst (λ o. HasAt e (taken_code hs o (wanted_result need o)) back mid3) q taken_at in
          let none : HasPlace p e place entry_of w f g s aside was a to =
          subst (λ o. HasPlace p e place entry_of w f g s aside was a o) (sym q) tt in
          let took : T to (popped u) (popped u) =
          subst (λ o. T o (popped u) (popped u)) (sym q) (took_nothing (popped u) (popped_u s1 u left)) in
          goes_on s1 u left j spent l credit m.temps (popped u) 0 (omega arith)
          (subst (λ i. Goes e 0 back (popped u) i (popped u)) (sym at) (record { by = refl })) none took
          (λ t c home_it r z. inr (subst (λ o. IsElsewhere o t) (sym q) tt, r))
      back_with j l (Some t) q None s1 u spent credit hands left = tt
      back_with j l (Some t) q (Some c) s1 u spent credit hands left =
          let number = wanted_result need (Some t) in
          let at : HasAt e (move_code (result_location t.bytes) (hs t) number) back mid3 =
          subst (λ o. HasAt e (taken_code hs o (wanted_result need o)) back mid3) q taken_at in
          let it : HasHome slots t × (t.bytes ≡ w.selected.results b) = subst (λ o. IsResult w.selected.results b slots o) q result_is in
          let bytes : c.bytes ≡ t.bytes = hands.0 ∙ sym it.1 in
          let most = wanted_most need t in
          let room8 = it.0.most in
          let content : HoldsContent D place (popped u).at (result_register t.bytes) t.bytes t.bytes c.content = subst
          (λ k. HoldsContent D place (popped u).at (result_register k) k k c.content) bytes
          (still c.content c.bytes hands.1 hands.2) in
          let taken = took_result t number c.content (popped u) it.0 most (popped_u s1 u left) content in
          let v4 = block e (move_code (result_location t.bytes) (hs t) number) (popped u) in
          let form = move_steps (result_location t.bytes) (hs t) number in
          let run =
          block_goes e (move_code (result_location t.bytes) (hs t) number) back mid3 (popped u)
          (move_straight (result_location t.bytes) (hs t) number) at in
          goes_on s1 u left j spent l credit (with_held t.at c m.temps) v4 (code_steps (move_code (result_location t.bytes) (hs t) number))
          (omega (arith, form, most, room8)) run
          (subst (λ o. HasPlace p e place entry_of w f g s aside was a o) (sym q) it.0) (subst (λ o. T o (popped u) v4) (sym q) taken.took)
          (λ t1 c1 home_it r z. subst (λ o. (IsAt o t1 × HoldsContent D place v4.at (bs t1) (wanted need t1) t1.bytes c1.content)
          ⊎ (IsElsewhere o t1 × (m.temps t1.at ≡ Some c1))) (sym q) (held_at t1 c1 r z bytes v4 taken.content))
        where
          -- the bytes of a result are no bytes of the stack pointer
          still : (content : Content) (k : ℕ) → k ≤ 8 → HoldsContent D place u.at (result_register k) k k content
              → HoldsContent D place (popped u).at (result_register k) k k content
          still content k few8 hold =
              let ends = result_ends k few8 in
              same_content D place u.at (popped u).at (result_register k) k k content
              (λ i r. popped_same u (result_register k + i) (omega (arith, ends)) (omega (arith, ends))) hold

          held_at : (t1 : Temp) (c1 : Held) → with_held t.at c m.temps t1.at ≡ Some c1 → c1.bytes ≡ t1.bytes → c.bytes ≡ t.bytes
              → (v4 : View)
              → HoldsContent D place v4.at (bs t) (wanted need t) t.bytes c.content
              → ((t1.at ≡ t.at) × HoldsContent D place v4.at (bs t1) (wanted need t1) t1.bytes c1.content)
              ⊎ ((t1.at ≢ t.at) × (m.temps t1.at ≡ Some c1))
          held_at t1 c1 r z bytes v4 content =
              ⊎_elim
              (λ (same : t1.at ≡ t.at).
              let eqb = eq-eqb t1.at t.at same in
              let r0 : (if t1.at == t.at then Some c else m.temps t1.at) ≡ Some c1 = r in
              let r1 : Some c ≡ Some c1 = (rw eqb at r0) in
              let o : c ≡ c1 = cc in
              let k : t.bytes ≡ t1.bytes = sym bytes ∙ ap (λ (y : Held). y.bytes) o ∙ z in
              let i : t ≡ t1 = same_temp t t1 (sym same) k in
              inl (
                same,
                subst (λ (y : Temp). HoldsContent D place v4.at (bs y) (wanted need y) y.bytes c1.content) i
                    (subst (λ (y : Held). HoldsContent D place v4.at (bs t) (wanted need t) t.bytes y.content) o content),
              ))
              (λ (other : t1.at ≢ t.at).
              let eqb = ne_eqb t1.at t.at other in
              let r0 : (if t1.at == t.at then Some c else m.temps t1.at) ≡ Some c1 = r in
              let r1 : m.temps t1.at ≡ Some c1 = (rw eqb at r0) in
              inr (other, r1))
              (cases_eq t1.at t.at)

      -- what waits for the called function
      returns_b : (j : ℕ) → j ≤ n → Returns p e place entry_of w b gb around_b aside_b (pushed back v1).at (waits ∷ stack) j
      returns_b j l result s1 u spent credit hands left =
          subst (λ i. Follows D place e j spent i (popped u) (leave D (waits ∷ stack) result (go_on p e place entry_of w j) s1))
          (sym (goes_back s1 u left))
          (back_with j l to refl result s1 u spent credit hands left)

      -- it begins with the caller's objects
      entered : MM need0 m v → (st : State) → memory_of st ≡ memory_of m.state → st.events ≡ m.state.events
          → Matches D e w.inputs gb.slots (base_of p e place entry_of w b) place aside_b
          (standing_by p e place entry_of w (pushed back v1).at) a.functions (called_in g.code)
          (needs (facts_of (has_tables D.objects) (w.selected.made b).labels gb.code) gb.code) (machine no_temps st)
          (pushed back v1)
      entered z st memory events = record {
        temps_hold = λ t c it q r. absurd cc;
        leaves_hold = λ l y o q k. same_leaf D place v.at (pushed back v1).at (place l.object + l.at) l.bytes o (λ i r. leaf_kept l i r)
            (z.leaves_hold l y o (ap (λ i. slice_get i l.object) (sym (same_objects st m.state memory)) ∙ q) k);
        tables_hold = λ l y o q k.
            z.tables_hold l y o (ap (λ i. slice_get i l.object) (sym (same_objects st m.state memory)) ∙ q) k;
        frames = subst (λ i. FramesStand D a.functions (called_in g.code) i) (sym (same_objects st m.state memory)) z.frames;
        kept = λ k byte q r. stands_there k byte r;
        bytes = pushed_numbers back v1 saved.numbers;
        left = λ port. kept_left w.inputs m.state v v1 saved.quiet.inputs z.left port
            ∙ ap (λ es. drop (reads_of port es) (w.inputs port)) (sym events);
        seen = saved.quiet.seen ∙ z.seen ∙ ap (λ i. accesses D place i) (sym events);
        safe = saved.quiet.safe ∙ z.safe;
      }
        where
          -- a cell is no byte that is pushed, and none that waits for the call
          cell_kept : (k : ℕ) → aside k ≡ true → 256 ≤ k → v2.at k ≡ v.at k
          cell_kept k q high =
              let one = deep.0 in
              let down : lowered (sp v1) ≡ s - 1 = rw pointer (omega (arith, one, deep.1)) in
              let free = pushed_free p e place entry_of w f g s aside was a k q in
              let own = a.own k q in
              pushed_same back v1 k (λ r. free.0 (r ∙ pointer)) (λ r. free.1 (r ∙ down)) (omega arith) (omega arith)
              ∙ saved.same k (omega arith)
              (λ j i r. let few4 = (are_kept e slots h scratch x.scratch_stands need0 j).most in let o = own (omega arith) in omega
              (arith, few4, o))

          stands_there : (k byte : ℕ) → standing_by p e place entry_of w v2.at st.groups k ≡ Some byte → v2.at k ≡ byte
          stands_there k byte q =
              let above = w.selected.work_stands.high in
              ⊎_elim
              (λ (c : (i : ℕ) × (i < w.cells) × (k ≡ first_cell_at p e place entry_of w + i)).
              let here = first_cell_at p e place entry_of w + c.0 in
              let set_aside = a.cells c.0 c.1 in
              let stands : standing_by p e place entry_of w was m.state.groups here ≡ Some byte =
              ap (λ o. standing_by p e place entry_of w was o here) (sym (same_groups st m.state memory))
              ∙ cell_stands_alike (first_cell_at p e place entry_of w) w.cells was v2.at c.0 st.groups c.1
              ∙ ap (standing_by p e place entry_of w v2.at st.groups) (sym c.2) ∙ q in
              ap v2.at c.2 ∙ cell_kept here set_aside (omega arith) ∙ z.kept here byte set_aside stands)
              (λ o. other_is (first_cell_at p e place entry_of w) w.cells v2.at k byte st.groups o q)
              (by_row (first_cell_at p e place entry_of w) w.cells k)

          leaf_kept : (l : ObjectLeaf D DataBank) (i : ℕ) → i < l.bytes → (pushed back v1).at (place l.object + l.at + i)
              ≡ v.at (place l.object + l.at + i)
          leaf_kept l i r =
              let some = ((layout_of p e place entry_of w f g a.is).leaves_at l).clear in
              let k = place l.object + l.at + i in
              let one = deep.0 in
              let outside_scratch = leaf_outside_scratch p e place entry_of w f g a.is l i r in
              let outside_spare : (j : ℕ) → j < register_places slots
              → Outside (scratch + (16 * j + 8)) (kept e slots h scratch x.scratch_stands need0 j) k = λ j z y.
              (let few4 = (are_kept e slots h scratch x.scratch_stands need0 j).most in let o = outside_scratch (omega arith) in omega
              (arith, few4, o)) in
              let not_top : k ≢ s =
              λ q. leaf_not_stacked p e place entry_of w f g a.is l i r
              (subst (λ j. e.kind j ≡ Stacked) (sym q)
              (w.stacked s (let z = first in omega arith) (let last = a.below in omega arith)))
              (let y = w.high in let z = first in omega (arith, q)) in
              let not_next : k ≢ s - 1 =
              λ q. leaf_not_stacked p e place entry_of w f g a.is l i r
              (subst (λ j. e.kind j ≡ Stacked) (sym q)
              (w.stacked (s - 1) (let z = first in omega arith) (let last = a.below in omega arith)))
              (let y = w.high in let z = first in omega (arith, q)) in
              let down : lowered (sp v1) ≡ s - 1 = rw pointer (omega (arith, one, deep.1)) in
              let where_it_is = leaf_is p e place entry_of w f g a.is l in
              let not_low : k ≢ 93 =
              ⊎_elim (λ (z : leaf_at p e place entry_of w l + l.bytes ≤ 8). omega arith)
              (λ (z : 256 ≤ leaf_at p e place entry_of w l). omega arith) where_it_is in
              let not_high : k ≢ 94 =
              ⊎_elim (λ (z : leaf_at p e place entry_of w l + l.bytes ≤ 8). omega arith)
              (λ (z : 256 ≤ leaf_at p e place entry_of w l). omega arith) where_it_is in
              pushed_same back v1 k (λ q. not_top (q ∙ pointer)) (λ q. not_next (q ∙ down)) not_low not_high
              ∙ saved.same k (omega arith) outside_spare

    -- ---- the call

    pub call_follows : (n : ℕ) → ((j : ℕ) → j ≤ n → Statement j)
        → ((j : ℕ) → j ≤ n → Returns p e place entry_of w f g a.functions aside was stack j)
        → CallCase D p.functions e slots hs bs place
        (setting_of p e place entry_of w f g s aside was a) labels g.code x.end w.selected.results f link stack n
    call_follows n below returns b to pc rest m v r z = by_function (slice_get p.functions b) refl
      where
        st : State
        st = worked (op_steps (call_function b to)) m.state

        need : Need
        need = needs at rest

        there : Contains (called_in g.code) b
        there = r.inside b (0, omega arith, refl)

        by_function : (o : Option PlainIrFunction) → slice_get p.functions b ≡ o
            → Follows D place e (suc n) m.state.work pc v
            (enter o (go_on p e place entry_of w n) (record { code = g.code; rest = rest; temps = m.temps; to = to; called = b } ∷ stack)
            (machine no_temps (kept_for D (b ∷ around) st)))
        by_function None is = tt
        by_function (Some gb) is =
            let need0 = without_result to need in
            let save = save_code link need0 in
            let taken = taken_code hs to (wanted_result need to) in
            let restore = restore_code link need0 in
            let code = call_code hs link b to (wanted_result need to) need0 in
            let s0 = has_parts e code (ops_code D hs link at None rest) pc x.end
            (at_use D p.functions e slots hs bs place
            (setting_of p e place entry_of w f g s aside was a) labels g.code x.end w.selected.results f link stack (call_function b to)
            rest pc r (λ l none. none)) in
            let s1 = has_parts e save (CallTo (entry_of b) ∷ (taken ++ restore)) pc s0.0 s0.1 in
            let back = s1.2.0 in
            let s2 = has_parts e taken restore back s0.0 s1.2.2 in
            let room : back < 65536 = call_ends (entry_of b) s1.0 back s1.2.1 in
            let ready : Ready D p.functions e slots hs bs place
            (setting_of p e place entry_of w f g s aside was a) labels g.code x.end w.selected.results f link stack s0.0 rest =
            record {
              covered = r.covered.1;
              live = r.live;
              inside = λ c q. r.inside c
                  (Contains-append_right (b ∷ []) (called_in rest) c q);
              here = r.here;
              stands = s0.2;
            } in
            let v1 = block e save v in
            let form = save_form e slots h scratch x.scratch_stands need0 (register_places slots) (omega arith) in
            let saving = block_goes e save pc s1.0 v form.0 s1.1 in
            let most = form.1 in
            let first = has_room p e place entry_of w f g s aside was a b there in
            let last = a.below in
            let top = w.below in
            let high = w.high in
            let sp1 = pointer n below returns b gb is there to r.covered.0.0 rest m v z back s0.0 s2.0 room s2.1 s2.2 ready in
            let down : lowered (sp v1) ≡ s - 1 = rw sp1 (omega arith) in
            let kind0 : e.kind (sp v1) ≡ Stacked = ap e.kind sp1 ∙ w.stacked s (omega arith) (omega arith) in
            let kind1 : e.kind (lowered (sp v1)) ≡ Stacked = ap e.kind down ∙ w.stacked (s - 1) (omega arith) (omega arith) in
            let calling = call_goes e (entry_of b) s1.0 back v1 s1.2.1 kind0 kind1 in
            let word = call_has_word e (entry_of b) s1.0 back s1.2.1 in
            let v2 = pushed back v1 in
            let active1 = active n below returns b gb is there to r.covered.0.0 rest m v z back s0.0 s2.0 room s2.1 s2.2 ready in
            let frame : Call = record { code = g.code; rest = rest; temps = m.temps; to = to; called = b } in
            let waiting = returns_b n below returns b gb is there to r.covered.0.0 rest m v z back s0.0 s2.0 room s2.1 s2.2 ready in
            let functions = functions_are n below returns b gb is there to r.covered.0.0 rest m v z back s0.0 s2.0 room s2.1 s2.2 ready in
            let stacked : active_functions D.main (frame ∷ stack) ≡ active1.functions =
            ap (λ fs. b ∷ fs) r.here.stacked ∙ sym functions in
            let start = begins b gb (s - 2) (aside_by aside scratch (16 * slots) s) v2.at active1 (frame ∷ stack) stacked word in
            let st1 = kept_for D (b ∷ around) st in
            let matches =
            kept_matches D e w.inputs gb.slots (base_of p e place entry_of w b) place (aside_by aside scratch (16 * slots) s)
            (standing_by p e place entry_of w v2.at) a.functions (called_in g.code) active1.functions (called_in gb.code)
            (needs (facts_of (has_tables D.objects) (w.selected.made b).labels gb.code) gb.code) (b ∷ around) no_temps st v2 (inl stacked)
            (entered n below returns b gb is there to r.covered.0.0 rest m v z back s0.0 s2.0 room s2.1 s2.2 ready z st refl refl) in
            after D place e (code_steps save + 1) n (suc n) m.state.work st.work pc (e.word_of (entry_of b)) v v2
            (enter (Some gb) (go_on p e place entry_of w n) (frame ∷ stack) (machine no_temps st1))
            (goes_on_to e (code_steps save) 1 pc s1.0 (e.word_of (entry_of b)) v v1 v2 saving calling) (omega arith) (omega (arith, most))
            (below n (omega arith) b gb (s - 2) (aside_by aside scratch (16 * slots) s) v2.at active1 (frame ∷ stack) stacked waiting
            (e.word_of (entry_of b)) gb.code (machine no_temps st1) v2 start matches)
