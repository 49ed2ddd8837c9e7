-- A return: the result is handed on, and what waits goes on.
use Rattle.std.proofs.Common.{◌≡◌, ◌≢◌, ℕ, suc, ◌+◌, ◌*◌, ◌%◌, ◌<◌, ◌≤◌, ⊎_elim, Bool, true, false, List, []}
use Rattle.std.proofs.Common.{◌∷◌, ◌++◌, Option, Some, None, refl, sym, ap, ◌∙◌, subst, arith}
use Rattle.std.specs.Prelude.{◌==◌, drop, slice_get}
use Rattle.std.proofs.lemmas.Bool.{cases_eq, eq-eqb}
use Rattle.ec_isa.specs.declared.instructions.Instr.TheVariants.{Ret}
use Rattle.ec_avr.specs.State.{raised}
use Rattle.ec_asm.specs.declared.items.AsmItem.{AsmItem}
use Rattle.ec_asm.specs.declared.items.AsmItem.TheVariants.{Plain}
use Rattle.ec_space.specs.declared.space.Bank.TheVariants.{Data as DataBank}
use Rattle.ec_asm.specs.declared.pieces.Location.{Location}
use Rattle.ec_asm.specs.declared.pieces.Location.TheVariants.{InRegisters}
use Rattle.ec_asm.specs.View.{View, pair}
use Rattle.ec_asm.specs.Change.{Env, Own, sp}
use Rattle.ec_asm.specs.Items.{HasAt, block, code_steps, all_straight}
use Rattle.ec_asm.specs.Pieces.{StandsFrom, Outside}
use Rattle.ec_asm.specs.PieceLaws.{HoldsNumbers}
use Rattle.ec_asm.specs.Run.{popped, back_at}
use Rattle.ec_asm.specs.Takes.{Goes}
use Rattle.ec_asm.proofs.Calls.{return_goes}
use Rattle.ec_asm.proofs.Hoare.{has_parts, block_goes, goes_on_to}
use Rattle.ec_core.specs.declared.values.Value.{Value}
use Rattle.ec_core.specs.Plain.{PlainProgram}
use Rattle.ec_core.specs.State.{reads_of, State, worked, Outcome, got, next}
use Rattle.ec_ir.specs.declared.operations.Temp.{Temp}
use Rattle.ec_ir.specs.Costs.{op_steps}
use Rattle.ec_ir.specs.Meaning.{Mach, machine, Frame as Call, Place, leave}
use Rattle.ec_ir.specs.Operations.{return_from, PlainIrFunction, PlainIrProgram, data_of}
use Rattle.ec_ir.specs.Temporaries.{Content, bits, points, Held, held, no_temps}
use Rattle.ec_ir.specs.Valid.{called_in}
use Rattle.ec_select_bytes.specs.Values.{constant_code}
use Rattle.ec_select_bytes.proofs.Constants.{constants_are_right}
use Rattle.ec_select_bytes.proofs.Straight.{values_are_straight, values_take}
use Rattle.ec_select_operations.specs.Code.{return_code, ops_code, move_code}
use Rattle.ec_select_operations.specs.Homes.{home, HasHome, result_register, result_location}
use Rattle.ec_select_functions.specs.Laws.{IsSelected, linkage_of}
use Rattle.ec_select_operations.specs.Needs.{Need, Facts, facts_of, nothing, returned_need}
use Rattle.ec_select_operations.specs.Places.{ObjectLeaf}
use Rattle.ec_select_operations.specs.Pointers.{has_tables}
use Rattle.ec_select_functions.specs.Relation.{accesses, HoldsContent, FramesStand, Matches}
use Rattle.ec_select_functions.proofs.Active.{World, Active, homes_of, scratch_of, base_of, leaf_at, leaf_is}
use Rattle.ec_select_functions.proofs.Active.{layout_of, setting_of, selected_of, standing_by, low_stands}
use Rattle.ec_select_functions.proofs.Cells.{memory_of, same_objects, same_groups}
use Rattle.ec_select_functions.proofs.Computed.{moved_numbers}
use Rattle.ec_select_functions.proofs.Checked.{checked_on}
use Rattle.ec_select_functions.proofs.Follow.{Follows, after, from_held, next_next}
use Rattle.ec_select_functions.proofs.Match.{kept_left, same_leaf, whole}
use Rattle.ec_select_functions.proofs.Moves.{Quiet, move_holds, move_straight, move_steps, row_value}
use Rattle.ec_select_functions.proofs.Standing.{result_bounds, result_ends}
use Rattle.ec_select_functions.proofs.Going.{at_use}
use Rattle.ec_select_functions.proofs.Steps.{ReturnCase}

module _ (p : PlainIrProgram) (e : Env) (place entry_of : ℕ → ℕ) (w : World p e place entry_of) where
  abbrev pub D : PlainProgram
  D = data_of p

  -- how a run goes on for so many operations
  abbrev pub go_on : ℕ → Place → Mach → Outcome Value
  go_on n q u = checked_on p.functions D w.inputs n q.code q.stack q.rest u

  -- the registers of a result. The result of main is 0 where it gives none
  abbrev pub HandsOn : ℕ → Option Held → View → Type 0
  HandsOn f None v = f ≡ p.main → pair v.at 24 ≡ 0
  HandsOn f (Some h) v =
      (h.bytes ≡ w.selected.results f) × (h.bytes ≤ 8) × HoldsContent D place v.at (result_register h.bytes) h.bytes h.bytes h.content

  -- a content whose bytes stand at another address
  pub moved_row : (v v1 : View) (a b n bytes : ℕ) (c : Content) → ((j : ℕ) → j < n → v1.at (b + j) ≡ v.at (a + j))
      → HoldsContent D place v.at a n bytes c → HoldsContent D place v1.at b n bytes c
  moved_row v v1 a b n bytes (bits low) there h = (row_value v1.at v.at a b n there ∙ h.0, h.1)
  moved_row v v1 a b n bytes (points q) there h = (row_value v1.at v.at a b n there ∙ h.0, h.1)

  -- what a return finds, and the state in which it leaves the objects
  abbrev pub Left : (g : PlainIrFunction) (f : ℕ) (functions : List ℕ) (aside : ℕ → Bool) (was : ℕ → ℕ) → State → View → Type 0
  Left g f functions aside was s v =
      Matches D e w.inputs g.slots (base_of p e place entry_of w f) place aside (standing_by p e place entry_of w was) functions
      (called_in g.code) nothing (machine no_temps s) v

  -- what waits goes on, of which n operations that count are made. 64 steps are left for it
  abbrev pub Returns : (f : ℕ) (g : PlainIrFunction) (functions : List ℕ) (aside : ℕ → Bool) (was : ℕ → ℕ) (stack : List Call) (n : ℕ)
      → Type 0
  Returns f g functions aside was stack n =
      (result : Option Held) (s : State) (v : View) (spent : ℕ) → spent + 64 ≤ s.work → HandsOn f result v
      → Left g f functions aside was s v → Follows D place e n spent (back_at v % 65536) (popped v) (leave D stack result (go_on n) s)

  module _ (f : ℕ) (g : PlainIrFunction) (s : ℕ) (aside : ℕ → Bool) (was : ℕ → ℕ) (a : Active p e place entry_of w f g s aside was)
      (stack : List Call) where
    abbrev slots : ℕ
    slots = g.slots

    abbrev hs : Temp → Location
    hs t = home (homes_of p e place entry_of w f) t

    abbrev bs : Temp → ℕ
    bs t = base_of p e place entry_of w f t

    abbrev x : IsSelected p e place entry_of w.selected.results f g (w.selected.made f) (scratch_of p e place entry_of w f)
    x = selected_of p e place entry_of w f g a.is

    abbrev labels : ℕ → Need
    labels = (w.selected.made f).labels

    abbrev at : Facts
    at = facts_of (has_tables D.objects) labels g.code

    -- the result registers have changed alone
    left_by : (need : Need) (m : Mach) (st : State) (v v1 : View) (r n : ℕ) → 18 ≤ r → r + n ≤ 26
        → Matches D e w.inputs slots bs place aside (standing_by p e place entry_of w was) a.functions (called_in g.code) need m v
        → memory_of st ≡ memory_of m.state → st.events ≡ m.state.events
        → ((k : ℕ) → k ≢ 0 → k ≢ 1 → k ≢ 30 → Outside r n k → v1.at k ≡ v.at k) → HoldsNumbers v1 → Quiet v v1
        → Left g f a.functions aside was st v1
    left_by need m st v v1 r n low high h memory events frame numbers quiet = record {
      temps_hold = λ t c it q u. absurd cc;
      leaves_hold = λ l z u q k. same_leaf D place v.at v1.at (place l.object + l.at) l.bytes u (λ j i. leaf_kept l j i)
          (h.leaves_hold l z u (ap (λ o. slice_get o l.object) (sym (same_objects st m.state memory)) ∙ q) k);
      tables_hold = λ l z u q k. h.tables_hold l z u (ap (λ o. slice_get o l.object) (sym (same_objects st m.state memory)) ∙ q) k;
      frames = subst (λ o. FramesStand D a.functions (called_in g.code) o) (sym (same_objects st m.state memory)) h.frames;
      kept = λ k byte q u. (let z = a.high k q in frame k (omega arith) (omega arith) (kept_high k q z) (λ l. omega arith))
          ∙ h.kept k byte q (ap (λ o. standing_by p e place entry_of w was o k) (sym (same_groups st m.state memory)) ∙ u);
      bytes = numbers;
      left = λ port. kept_left w.inputs m.state v v1 quiet.inputs h.left port
          ∙ ap (λ es. drop (reads_of port es) (w.inputs port)) (sym events);
      seen = quiet.seen ∙ h.seen ∙ ap (λ o. accesses D place o) (sym events);
      safe = quiet.safe ∙ h.safe;
    }
      where
        kept_high : (k : ℕ) → aside k ≡ true → 32 ≤ k → k ≢ 30
        kept_high k q z = omega arith

        leaf_kept : (l : ObjectLeaf D DataBank) (j : ℕ) → j < l.bytes → v1.at (place l.object + l.at + j) ≡ v.at (place l.object + l.at + j)
        leaf_kept l j i =
            let first = ((layout_of p e place entry_of w f g a.is).leaves_at l).clear in
            ⊎_elim
            (λ (z : leaf_at p e place entry_of w l + l.bytes ≤ 8). frame (place l.object + l.at + j) (omega arith) (omega arith)
            (omega arith) (λ u. absurd (omega arith)))
            (λ (z : 256 ≤ leaf_at p e place entry_of w l). frame (place l.object + l.at + j) (omega arith) (omega arith) (omega arith)
            (λ u. omega arith))
            (leaf_is p e place entry_of w f g a.is l)

    -- the stack pointer is where it was
    pub pointer_is : (need : Need) (m : Mach) (v : View)
        → Matches D e w.inputs slots bs place aside (standing_by p e place entry_of w was) a.functions (called_in g.code) need m v
        → sp v ≡ s
    pointer_is need m v h =
        let low = h.kept 93 (was 93) a.pointer_low (low_stands p e place entry_of w was m.state.groups 93 (omega arith)) in
        let high = h.kept 94 (was 94) a.pointer_high (low_stands p e place entry_of w was m.state.groups 94 (omega arith)) in
        rw (low, high) a.pointer

    -- RET
    back_goes : (pc end : ℕ) (v : View) → HasAt e (Plain Ret ∷ []) pc end → sp v ≡ s
        → Goes e 1 pc v (back_at v % 65536) (popped v)
    back_goes pc end v stands q =
        let last = a.below in
        let top = w.below in
        let room : w.low + 2 * 0 + 16 ≤ s + 1 = a.room [] tt in
        let one : raised (sp v) ≡ s + 1 = rw q (omega arith) in
        let two : raised (raised (sp v)) ≡ s + 2 = rw q (omega arith) in
        return_goes e pc v stands.1.is
        (ap e.kind one ∙ w.stacked (s + 1) (omega arith) (omega arith))
        (ap e.kind two ∙ w.stacked (s + 2) (omega arith) (omega arith))

    -- the code of a result, and then RET
    handed : (n pc end : ℕ) (code : List AsmItem) (rest : List AsmItem) (result : Option Held) (spent c : ℕ) (st : State) (v : View)
        → HasAt e ((code ++ Plain Ret ∷ []) ++ rest) pc end → all_straight code ≡ true → code_steps code ≤ 16
        → spent + c ≤ st.work → 81 ≤ c → HandsOn f result (block e code v) → Left g f a.functions aside was st (block e code v)
        → sp (block e code v) ≡ s → Returns f g a.functions aside was stack n
        → Follows D place e (suc n) spent pc v (leave D stack result (go_on n) st)
    handed n pc end code rest result spent c st v stands straight few most big hands left pointer returns =
        let s0 = has_parts e (code ++ Plain Ret ∷ []) rest pc end stands in
        let s1 = has_parts e code (Plain Ret ∷ []) pc s0.0 s0.1 in
        let v1 = block e code v in
        let first = block_goes e code pc s1.0 v straight s1.1 in
        let second = back_goes s1.0 s0.0 v1 s1.2 pointer in
        let goes = goes_on_to e (code_steps code) 1 pc s1.0 (back_at v1 % 65536) v v1 (popped v1) first second in
        after D place e (code_steps code + 1) n (suc n) spent (spent + (code_steps code + 1)) pc (back_at v1 % 65536) v (popped v1)
        (leave D stack result (go_on n) st) goes (omega arith) (omega arith)
        (returns result st v1 (spent + (code_steps code + 1)) (omega arith) hands left)

    -- a place of a result
    result_stands : (n : ℕ) → StandsFrom e (result_location n) n (result_register n) Own
    result_stands n = record { at = λ i l. refl; kind = λ i l. refl; clear = (let z = (result_bounds n).0 in omega arith) }

    main_flag : (b : Bool) → (f == p.main) ≡ b → f ≡ p.main → b ≡ true
    main_flag b q r = sym q ∙ eq-eqb f p.main r

    pub return_follows : (n : ℕ) → Returns f g a.functions aside was stack n
        → ReturnCase D p.functions e slots hs bs place
        (setting_of p e place entry_of w f g s aside was a) labels g.code x.end w.selected.results f
        (linkage_of e.core p entry_of f slots (w.selected.made f)) stack n
    return_follows n returns None pc rest m v r h = by_flag (f == p.main) refl
        (at_use D p.functions e slots hs bs place
        (setting_of p e place entry_of w f g s aside was a) labels g.code x.end w.selected.results f
        (linkage_of e.core p entry_of f slots (w.selected.made f)) stack (return_from None) rest pc r (λ l none. none))
      where
        left_over : List AsmItem
        left_over = ops_code D hs (linkage_of e.core p entry_of f slots (w.selected.made f)) at None rest

        by_flag : (b : Bool) → (f == p.main) ≡ b → HasAt e (return_code hs b None ++ left_over) pc x.end
            → Follows D place e (suc n) m.state.work pc v (leave D stack None (go_on n) (worked (op_steps (return_from None)) m.state))
        by_flag true q stands =
            let st = worked (op_steps (return_from None)) m.state in
            let code = constant_code (InRegisters 24) 0 2 in
            let v1 = block e code v in
            let there : StandsFrom e (InRegisters 24) 2 24 Own = record { at = λ i l. refl; kind = λ i l. refl; clear = omega arith } in
            let k = constants_are_right e (InRegisters 24) 2 24 0 v there (λ l. omega arith) in
            let low : v1.at 24 ≡ 0 = k.there 0 (omega arith) in
            let high : v1.at 25 ≡ 0 = k.there 1 (omega arith) in
            let word : pair v1.at 24 ≡ 0 = rw (low, high) refl in
            let take = (values_take (InRegisters 24) 0 0 2).0 in
            let left =
            left_by (returned_need None) m st v v1 24 2 (omega arith) (omega arith) h refl refl (λ i y z u o. k.same i u o)
            (zeros v v1 (h.bytes 30 (omega arith)) k.work (k.there 0 (omega arith)) (k.there 1 (omega arith)) k.same h.bytes)
            (record { inputs = k.inputs; safe = k.safe; seen = k.seen }) in
            handed n pc x.end code left_over None m.state.work (op_steps (return_from None)) st v stands
            (values_are_straight (InRegisters 24) 0 0 2).0 (omega (arith, take)) (omega arith) (omega arith) (λ i. word) left
            (pointer_is nothing (machine no_temps st) v1 left) returns
          where
            zeros : (v v1 : View) → v.at 30 < 256 → (v.at 30 < 256 → v1.at 30 < 256) → v1.at 24 ≡ 0 → v1.at 25 ≡ 0
                → ((k : ℕ) → k ≢ 30 → Outside 24 2 k → v1.at k ≡ v.at k) → HoldsNumbers v → HoldsNumbers v1
            zeros v v1 before work low high same h k u =
                ⊎_elim
                (λ (q : k ≡ 30). rw q (work before))
                (λ (q : k ≢ 30).
                ⊎_elim
                (λ (i : k ≡ 24). rw (i, low) (omega arith))
                (λ (i : k ≢ 24).
                ⊎_elim
                (λ (j : k ≡ 25). rw (j, high) (omega arith))
                (λ (j : k ≢ 25). rw (same k q (λ l. omega arith)) (h k u))
                (cases_eq k 25))
                (cases_eq k 24))
                (cases_eq k 30)
        by_flag false q stands =
            let st = worked (op_steps (return_from None)) m.state in
            let left =
            left_by (returned_need None) m st v v 24 2 (omega arith) (omega arith) h refl refl (λ i y z u o. refl) h.bytes
            (record { inputs = refl; safe = refl; seen = refl }) in
            handed n pc x.end [] left_over None m.state.work (op_steps (return_from None)) st v stands refl (omega arith) (omega arith)
            (omega arith) (λ i. let z = main_flag false q i in absurd cc) left (pointer_is nothing (machine no_temps st) v left) returns
    return_follows n returns (Some t) pc rest m v r h =
        subst (λ o. Follows D place e (suc n) m.state.work pc v o)
        (sym (next_next (held t m.temps st) (λ content u. got (Some (record { bytes = t.bytes; content = content })) u) leaves))
        (from_held D place e t m.temps st (λ content u. next (got (Some (record { bytes = t.bytes; content = content })) u) leaves)
        (suc n) m.state.work pc v
        (λ c q i. by_content c.content
        (whole D e slots hs bs place (setting_of p e place entry_of w f g s aside was a) nothing m v t c h it q i)))
      where
        st : State
        st = worked (op_steps (return_from (Some t))) m.state

        leaves : Option Held → State → Outcome Value
        leaves result u = leave D stack result (go_on n) u

        it : HasHome slots t
        it = r.covered.0.0.0

        left_over : List AsmItem
        left_over = ops_code D hs (linkage_of e.core p entry_of f slots (w.selected.made f)) at None rest

        by_content : (c : Content) → HoldsContent D place v.at (bs t) t.bytes t.bytes c
            → Follows D place e (suc n) m.state.work pc v (next (got (Some (record { bytes = t.bytes; content = c })) st) leaves)
        by_content c content =
            let y = layout_of p e place entry_of w f g a.is in
            let to = result_register t.bytes in
            let code = move_code (hs t) (result_location t.bytes) t.bytes in
            let v1 = block e code v in
            let some = (y.temps_at t it).clear in
            let most = it.most in
            let k =
            move_holds e (hs t) (result_location t.bytes) t.bytes (bs t) to v (y.temps_at t it) (result_stands t.bytes)
            (y.temps_result t it) h.bytes in
            let numbers =
            moved_numbers D e slots hs bs place (setting_of p e place entry_of w f g s aside was a) v v1
            (bs t) to t.bytes some h.bytes k in
            let moved = moved_row v v1 (bs t) to t.bytes t.bytes c k.there content in
            let take = move_steps (hs t) (result_location t.bytes) t.bytes in
            let left =
            left_by (returned_need (Some t)) m st v v1 to t.bytes (result_bounds t.bytes).0
            (result_ends t.bytes most) h refl refl k.frame numbers k.quiet in
            handed n pc x.end code left_over (Some (record { bytes = t.bytes; content = c })) m.state.work
            (op_steps (return_from (Some t))) st v
            (at_use D p.functions e slots hs bs place
            (setting_of p e place entry_of w f g s aside was a) labels g.code x.end w.selected.results f
            (linkage_of e.core p entry_of f slots (w.selected.made f)) stack (return_from (Some t)) rest pc r (λ l none. none))
            (move_straight (hs t) (result_location t.bytes) t.bytes)
            (omega (arith, take, most)) (omega arith) (omega arith) (r.covered.0.0.1, most, moved) left
            (pointer_is nothing (machine no_temps st) v1 left) returns
