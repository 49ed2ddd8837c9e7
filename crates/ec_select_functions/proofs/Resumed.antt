-- What a caller finds after a call: the bytes that waited are loaded, and its state is shown again.
use Rattle.std.proofs.Common.{◌≡◌, ◌≢◌, ℕ, ◌+◌, ◌-◌, ◌*◌, ◌/◌, ◌%◌, ◌<◌, ◌≤◌, ◌⊎◌, ⊎_elim, inl, inr, min, Bool, true, List}
use Rattle.std.proofs.Common.{false, Option, Some, None, refl, sym, ap, ◌∙◌, subst, arith, le-leb}
use Rattle.std.specs.Prelude.{nat_le, if◌then◌else◌, ⊤}
use Rattle.std.proofs.lemmas.Bool.{cases_eq, cases_lt, eq-eqb, ne_eqb}
use Rattle.std.proofs.lemmas.Nat.{mul-le}
use Rattle.ec_avr.specs.State.{lowered}
use Rattle.ec_space.specs.declared.space.Bank.TheVariants.{Data as DataBank}
use Rattle.ec_asm.specs.View.{View}
use Rattle.ec_asm.specs.Change.{Env, sp}
use Rattle.ec_asm.specs.Items.{block, chain}
use Rattle.ec_asm.specs.Pieces.{Outside}
use Rattle.ec_asm.specs.PieceLaws.{HoldsNumbers}
use Rattle.ec_asm.specs.Run.{pushed, popped}
use Rattle.ec_core.specs.Plain.{PlainProgram}
use Rattle.ec_core.specs.State.{State}
use Rattle.ec_ir.specs.declared.operations.Temp.{Temp}
use Rattle.ec_ir.specs.Meaning.{Mach, machine}
use Rattle.ec_ir.specs.Operations.{PlainIrFunction, PlainIrProgram, data_of}
use Rattle.ec_ir.specs.Valid.{called_in}
use Rattle.ec_ir.specs.Temporaries.{Held, Temps, no_temps}
use Rattle.ec_select_operations.specs.declared.homes.Homes.{Homes}
use Rattle.ec_select_operations.specs.Code.{restore_place, register_places}
use Rattle.ec_select_operations.specs.Homes.{HasHome}
use Rattle.ec_select_functions.specs.Laws.{IsSelected}
use Rattle.ec_select_operations.specs.Needs.{Need, nothing, without_result, wanted}
use Rattle.ec_select_operations.specs.Places.{ObjectLeaf}
use Rattle.ec_select_functions.specs.Relation.{HoldsContent, Matches}
use Rattle.ec_select_functions.proofs.Active.{World, Active, homes_of, scratch_of, base_of, leaf_at, leaf_is}
use Rattle.ec_select_functions.proofs.Active.{layout_of, setting_of, selected_of, aside_by, aside_before}
use Rattle.ec_select_functions.proofs.Active.{aside_scratch, own_is_not_stacked, scratch_kind, first_cell_at, standing_by}
use Rattle.ec_select_functions.proofs.Active.{low_stands, scratch_cell}
use Rattle.ec_select_functions.proofs.Cells.{by_row, other_stands, cell_stands_alike, other_is}
use Rattle.ec_select_functions.proofs.Match.{kept_left, same_content, same_leaf, wanted_most}
use Rattle.ec_select_functions.proofs.Moves.{Quiet, outside_row}
use Rattle.ec_select_functions.proofs.Saved.{Saves, Restores, restores, kept, register, are_kept, register_ends}
use Rattle.ec_select_functions.proofs.Saved.{register_apart}
use Rattle.ec_routines.proofs.Stacked.{pushed_same, popped_same, popped_pointer, pointer_low, pointer_high}
use Rattle.ec_select_functions.proofs.Standing.{InRegister, InScratch, kinds, ends_low}

-- whether a temporary is at the place of a call's result
abbrev pub IsAt : Option Temp → Temp → Type 0
IsAt None t = ⊥
IsAt (Some x) t = t.at ≡ x.at

abbrev pub IsElsewhere : Option Temp → Temp → Type 0
IsElsewhere None t = ⊤
IsElsewhere (Some x) t = t.at ≢ x.at

needs_elsewhere : (to : Option Temp) (t : Temp) (need : Need) → IsElsewhere to t → without_result to need t.at ≡ need t.at
needs_elsewhere None t need q = refl
needs_elsewhere (Some x) t need q = rw (ne_eqb t.at x.at q) refl

needs_none : (to : Option Temp) (t : Temp) (need : Need) → IsAt to t → without_result to need t.at ≡ 0
needs_none None t need q = absurd q
needs_none (Some x) t need q = rw (eq-eqb t.at x.at q) refl

module _ (p : PlainIrProgram) (e : Env) (place entry_of : ℕ → ℕ) (w : World p e place entry_of) (f : ℕ) (g : PlainIrFunction) (s : ℕ)
    (aside : ℕ → Bool) (was : ℕ → ℕ) (a : Active p e place entry_of w f g s aside was) where
  abbrev D : PlainProgram
  D = data_of p

  abbrev slots : ℕ
  slots = g.slots

  abbrev h : Homes
  h = homes_of p e place entry_of w f

  abbrev scratch : ℕ
  scratch = scratch_of p e place entry_of w f

  abbrev bs : Temp → ℕ
  bs t = base_of p e place entry_of w f t

  abbrev x : IsSelected p e place entry_of w.selected.results f g (w.selected.made f) scratch
  x = selected_of p e place entry_of w f g a.is

  abbrev pub OutsideResult : Option Temp → ℕ → Type 0
  OutsideResult None k = ⊤
  OutsideResult (Some t) k = Outside (bs t) t.bytes k

  -- the result was brought to its place
  pub record Took (to : Option Temp) (v v1 : View) : Type 0 where
    pub same : (k : ℕ) → k ≢ 0 → k ≢ 1 → k ≢ 30 → OutsideResult to k → v1.at k ≡ v.at k
    pub numbers : HoldsNumbers v1
    pub quiet : Quiet v v1

  abbrev pub HasPlace : Option Temp → Type 0
  HasPlace None = ⊤
  HasPlace (Some t) = HasHome slots t

  -- ---- what stands apart

  -- the registers of places begin at R26 at most
  below_work : (need : Need) (j : ℕ) → kept e slots h scratch x.scratch_stands need j ≤ 4
  below_work need j = (are_kept e slots h scratch x.scratch_stands need j).most

  outside_above : (need : Need) (j k : ℕ) → 32 ≤ k
      → Outside (register e slots h scratch x.scratch_stands need j) (kept e slots h scratch x.scratch_stands need j) k
  outside_above need j k l q =
      let most = below_work need j in
      let low : register e slots h scratch x.scratch_stands need j ≤ 26 = omega arith in
      omega (arith, most, low)

  outside_below : (need : Need) (j k : ℕ) → k < 8
      → Outside (register e slots h scratch x.scratch_stands need j) (kept e slots h scratch x.scratch_stands need j) k
  outside_below need j k l q =
      ⊎_elim
      (λ (z : kept e slots h scratch x.scratch_stands need j ≡ 0). omega arith)
      (λ (z : kept e slots h scratch x.scratch_stands need j ≢ 0). let r =
      (register_ends e slots h scratch x.scratch_stands need j (omega arith)).1 in absurd (omega arith))
      (cases_eq (kept e slots h scratch x.scratch_stands need j) 0)

  -- the registers of a place are none of a temporary's at another place
  outside_home : (need : Need) (t : Temp) (j i : ℕ) → HasHome slots t → i < t.bytes
      → (j ≢ t.at) ⊎ (kept e slots h scratch x.scratch_stands need j ≡ 0)
      → Outside (register e slots h scratch x.scratch_stands need j) (kept e slots h scratch x.scratch_stands need j) (bs t + i)
  outside_home need t j i it l other q =
      ⊎_elim
      (λ (z : kept e slots h scratch x.scratch_stands need j ≡ 0). omega arith)
      (λ (z : kept e slots h scratch x.scratch_stands need j ≢ 0).
      let some : 1 ≤ kept e slots h scratch x.scratch_stands need j = omega arith in
      ⊎_elim
      (λ (r : InRegister h scratch t).
      ⊎_elim
      (λ (before : j < t.at).
      let m : h.width * (j + 1 + 1) ≤ h.width * (t.at + 1) = mul-le h.width (j + 1 + 1) h.width (t.at + 1) (omega arith) (omega arith) in
      let narrow = r.narrow in
      let shallow = r.shallow in
      let address = r.address in
      absurd (omega (arith, m, narrow, shallow, address, l, q)))
      (λ (after : t.at ≤ j).
      ⊎_elim
      (λ (different : j ≢ t.at).
      let z1 = register_apart e slots h scratch x.scratch_stands need t.at j (omega arith) some in
      let address = r.address in
      omega (arith, z1, address))
      (λ none. absurd (z none))
      other)
      (cases_lt j t.at))
      (λ (r : InScratch h scratch t).
      let address = r.address in
      let high = x.scratch_stands.high in
      let r1 = (register_ends e slots h scratch x.scratch_stands need j some).0 in
      omega (arith, address, high, r1))
      (kinds h scratch t))
      (cases_eq (kept e slots h scratch x.scratch_stands need j) 0)

  -- a result's place is none of the bytes that wait
  outside_spare : (to : Option Temp) (j i : ℕ) → HasPlace to → i < 4 → OutsideResult to (scratch + (16 * j + 8) + i)
  outside_spare None j i it l = tt
  outside_spare (Some t) j i it l =
      let most = it.most in
      let high = x.scratch_stands.high in
      ⊎_elim
      (λ (r : InRegister h scratch t). let z = ends_low e slots h scratch x.scratch_stands t r in (λ q. omega arith))
      (λ (r : InScratch h scratch t). rw (r.address) (λ q. omega arith))
      (kinds h scratch t)

  outside_other : (to : Option Temp) (t : Temp) (i : ℕ) → HasPlace to → HasHome slots t → IsElsewhere to t → i < t.bytes
      → OutsideResult to (bs t + i)
  outside_other None t i to_it it other l = tt
  outside_other (Some z) t i to_it it other l =
      outside_row (bs z) z.bytes (bs t) t.bytes i
      ((layout_of p e place entry_of w f g a.is).temps_apart z t to_it it (λ q. other (sym q))) l

  outside_leaf : (to : Option Temp) (l : ObjectLeaf D DataBank) (i : ℕ) → HasPlace to → i < l.bytes
      → OutsideResult to (place l.object + l.at + i)
  outside_leaf None l i it q = tt
  outside_leaf (Some t) l i it q =
      outside_row (bs t) t.bytes (place l.object + l.at) l.bytes i ((layout_of p e place entry_of w f g a.is).temp_leaf t l it) q

  outside_aside : (to : Option Temp) (k : ℕ) → HasPlace to → aside k ≡ true → OutsideResult to k
  outside_aside None k it q = tt
  outside_aside (Some t) k it q = (setting_of p e place entry_of w f g s aside was a).temps_aside t k it q

  -- ---- places

  kept_none : (need : Need) (j : ℕ) → need j ≡ 0 → kept e slots h scratch x.scratch_stands need j ≡ 0
  kept_none need j q = rw q (by_test (nat_le (h.width * (j + 1)) 12))
    where
      by_test : (b : Bool) → (if b then min 0 h.width else 0) ≡ 0
      by_test true = omega arith
      by_test false = refl

  kept_enough : (need : Need) (t : Temp) → InRegister h scratch t → wanted need t ≤ kept e slots h scratch x.scratch_stands need t.at
  kept_enough need t r =
      let narrow = r.narrow in
      rw (le-leb (h.width * (t.at + 1)) 12 r.shallow) (omega arith)

  among_six : (t : Temp) → HasHome slots t → InRegister h scratch t → t.at < register_places slots
  among_six t it r =
      let within = it.within in
      let shallow = r.shallow in
      ⊎_elim
      (λ (q : h.width ≡ 2). let z : 2 * (t.at + 1) ≤ 12 = subst (λ n. n * (t.at + 1) ≤ 12) q shallow in omega arith)
      (λ (q : h.width ≡ 4). let z : 4 * (t.at + 1) ≤ 12 = subst (λ n. n * (t.at + 1) ≤ 12) q shallow in omega arith)
      x.scratch_stands.width

  -- ---- what the called function left

  module _ (back : ℕ) (v1 u : View) (pointer : sp v1 ≡ s) (first : w.low + 1 ≤ s)
      (left : (k : ℕ) → aside_by aside scratch (16 * slots) s k ≡ true → Outside (first_cell_at p e place entry_of w) w.cells k
      → u.at k ≡ (pushed back v1).at k) where
    -- none of the two bytes that the call pushed
    not_pushed : (k : ℕ) → k ≢ s → k ≢ s - 1 → k ≢ 93 → k ≢ 94 → (pushed back v1).at k ≡ v1.at k
    not_pushed k one two low high =
        let last = a.below in
        let top = w.below in
        let begin = w.high in
        let z : lowered (sp v1) ≡ s - 1 = rw pointer (omega arith) in
        pushed_same back v1 k (λ q. one (q ∙ pointer)) (λ q. two (q ∙ z)) low high

    scratch_left : (k : ℕ) → scratch ≤ k → k < scratch + 16 * slots → (popped u).at k ≡ v1.at k
    scratch_left k l m =
        let high = x.scratch_stands.high in
        let last = a.below in
        let own = scratch_kind p e place entry_of w f g a.is k l m in
        popped_same u k (omega arith) (omega arith)
        ∙ left k (aside_scratch aside scratch (16 * slots) s k l m) (scratch_cell p e place entry_of w f g a.is k l m)
        ∙ not_pushed k (λ q. own_is_not_stacked (e.kind k) own (w.stacked k (omega arith) (omega arith)))
        (λ q. own_is_not_stacked (e.kind k) own (w.stacked k (omega arith) (omega arith))) (omega arith) (omega arith)

    aside_left : (k : ℕ) → aside k ≡ true → Outside (first_cell_at p e place entry_of w) w.cells k → k ≢ 93 → k ≢ 94
        → (popped u).at k ≡ v1.at k
    aside_left k q o low high =
        popped_same u k low high ∙ left k (aside_before aside scratch (16 * slots) s k q) o
        ∙ not_pushed k (λ z. let y = a.free k q (omega arith) in omega arith)
        (λ z. let y = a.free k q (omega arith) in omega arith) low high

  -- ---- the whole

  abbrev MM : Need → Mach → View → Type 0
  MM need m v = Matches D e w.inputs slots bs place aside (standing_by p e place entry_of w was) a.functions (called_in g.code) need m v

  module _ (active called : List ℕ) (need : Need) (to : Option Temp) (it : HasPlace to) (m : Mach) (temps : Temps) (s1 : State)
      (back : ℕ) (v v1 u v4 : View)
      (before : MM (without_result to need) m v)
      (pointer0 : sp v ≡ s)
      (saved : Saves e slots h scratch x.scratch_stands (without_result to need) v v1 (register_places slots))
      (pointer : sp v1 ≡ s) (first : w.low + 1 ≤ s)
      (b : ℕ) (gb : PlainIrFunction)
      (left : Matches D e w.inputs gb.slots (base_of p e place entry_of w b) place (aside_by aside scratch (16 * slots) s)
      (standing_by p e place entry_of w (pushed back v1).at) active called nothing (machine no_temps s1) u)
      (pointer1 : sp u ≡ s - 2)
      (took : Took to (popped u) v4)
      (held : (t : Temp) (c : Held) → HasHome slots t → temps t.at ≡ Some c → c.bytes ≡ t.bytes
      → (IsAt to t × HoldsContent D place v4.at (bs t) (wanted need t) t.bytes c.content)
      ⊎ (IsElsewhere to t × (m.temps t.at ≡ Some c))) where
    abbrev need0 : Need
    need0 = without_result to need

    abbrev v5 : View
    v5 = block e (chain (λ j. restore_place h j (need0 j)) (register_places slots)) v4

    -- none but cells have changed of what is set aside
    left_there : (k : ℕ) → aside_by aside scratch (16 * slots) s k ≡ true → Outside (first_cell_at p e place entry_of w) w.cells k
        → u.at k ≡ (pushed back v1).at k
    left_there k q o =
        left.kept k ((pushed back v1).at k) q
        (other_stands (first_cell_at p e place entry_of w) w.cells (pushed back v1).at k s1.groups o)

    few : register_places slots ≤ 6
    few = omega arith

    within : register_places slots ≤ slots
    within = omega arith

    loaded : Restores e slots h scratch x.scratch_stands need0 v4 v5 (register_places slots)
    loaded = restores e slots h scratch x.scratch_stands need0 v4 took.numbers (register_places slots) within few

    -- a byte of a temporary at the result's place
    result_kept : (t : Temp) (i : ℕ) → HasHome slots t → IsAt to t → i < t.bytes → v5.at (bs t + i) ≡ v4.at (bs t + i)
    result_kept t i home_it q l =
        let some = ((layout_of p e place entry_of w f g a.is).temps_at t home_it).clear in
        loaded.same (bs t + i) (omega arith)
        (λ j z. outside_home need0 t j i home_it l
        (⊎_elim (λ (r : j ≡ t.at). inr (kept_none need0 j (ap need0 r ∙ needs_none to t need q))) (λ r. inl r) (cases_eq j t.at)))

    -- a byte that waited for the call
    register_back : (t : Temp) (i : ℕ) → HasHome slots t → IsElsewhere to t → InRegister h scratch t → i < wanted need0 t
        → v5.at (bs t + i) ≡ v.at (bs t + i)
    register_back t i home_it q r l =
        let n = among_six t home_it r in
        let enough = kept_enough need0 t r in
        let few4 = below_work need0 t.at in
        let high = x.scratch_stands.high in
        let within_it = home_it.within in
        let k = scratch + (16 * t.at + 8) + i in
        let i4 : i < 4 = omega arith in
        rw (r.address)
        (loaded.there t.at i n (omega arith)
        ∙ took.same k (omega arith) (omega arith) (omega arith) (outside_spare to t.at i it i4)
        ∙ scratch_left back v1 u pointer first left_there k (omega arith) (omega arith)
        ∙ saved.there t.at i n (omega arith))

    -- a byte in scratch memory
    scratch_back : (t : Temp) (i : ℕ) → HasHome slots t → IsElsewhere to t → InScratch h scratch t → i < t.bytes
        → v5.at (bs t + i) ≡ v.at (bs t + i)
    scratch_back t i home_it q r l =
        let high = x.scratch_stands.high in
        let within_it = home_it.within in
        let most = home_it.most in
        let address = r.address in
        let outside = outside_other to t i it home_it q l in
        loaded.same (bs t + i) (omega arith) (λ j z. outside_above need0 j (bs t + i) (omega arith))
        ∙ took.same (bs t + i) (omega arith) (omega arith) (omega arith) outside
        ∙ scratch_left back v1 u pointer first left_there (bs t + i) (omega arith) (omega arith)
        ∙ saved.same (bs t + i) (omega arith) (λ j z y. let few4 = below_work need0 j in omega (arith, few4, address, most, l, y))

    temp_back : (t : Temp) (i : ℕ) → HasHome slots t → IsElsewhere to t → i < wanted need0 t
        → v5.at (bs t + i) ≡ v.at (bs t + i)
    temp_back t i home_it q l =
        let most = wanted_most need0 t in
        ⊎_elim (λ r. register_back t i home_it q r l) (λ r. scratch_back t i home_it q r (omega arith)) (kinds h scratch t)

    temp_holds : (t : Temp) (c : Held) → HasHome slots t → temps t.at ≡ Some c → c.bytes ≡ t.bytes
        → HoldsContent D place v5.at (bs t) (wanted need t) t.bytes c.content
    temp_holds t c home_it q z =
        ⊎_elim
        (λ (r : IsAt to t × HoldsContent D place v4.at (bs t) (wanted need t) t.bytes c.content).
        let most = wanted_most need t in
        same_content D place v4.at v5.at (bs t) (wanted need t) t.bytes c.content (λ i l. result_kept t i home_it r.0 (omega arith)) r.1)
        (λ (r : IsElsewhere to t × (m.temps t.at ≡ Some c)).
        let same : wanted need0 t ≡ wanted need t = ap (λ n. min n t.bytes) (needs_elsewhere to t need r.0) in
        subst (λ n. HoldsContent D place v5.at (bs t) n t.bytes c.content) same
        (same_content D place v.at v5.at (bs t) (wanted need0 t) t.bytes c.content (λ i l. temp_back t i home_it r.0 l)
        (before.temps_hold t c home_it r.1 z)))
        (held t c home_it q z)

    leaf_back : (l : ObjectLeaf D DataBank) (i : ℕ) → i < l.bytes → v5.at (place l.object + l.at + i) ≡ u.at (place l.object + l.at + i)
    leaf_back l i q =
        let some = ((layout_of p e place entry_of w f g a.is).leaves_at l).clear in
        let k = place l.object + l.at + i in
        ⊎_elim
        (λ (z : leaf_at p e place entry_of w l + l.bytes ≤ 8).
        loaded.same k (omega arith) (λ j y. outside_below need0 j k (omega arith))
        ∙ took.same k (omega arith) (omega arith) (omega arith) (outside_leaf to l i it q) ∙ popped_same u k (omega arith) (omega arith))
        (λ (z : 256 ≤ leaf_at p e place entry_of w l).
        loaded.same k (omega arith) (λ j y. outside_above need0 j k (omega arith))
        ∙ took.same k (omega arith) (omega arith) (omega arith) (outside_leaf to l i it q) ∙ popped_same u k (omega arith) (omega arith))
        (leaf_is p e place entry_of w f g a.is l)

    -- the bytes of the stack pointer, and what else is set aside
    low_back : (popped u).at 93 ≡ was 93
    low_back =
        let last = a.below in
        let top = w.below in
        let begin = w.high in
        let z : s - 2 + 2 ≡ s = omega arith in
        (popped_pointer u (s - 2) pointer1 (omega arith)).0 ∙ ap (λ n. n % 256) z ∙ sym (pointer_low v s pointer0 before.bytes)
        ∙ before.kept 93 (was 93) a.pointer_low (low_stands p e place entry_of w was m.state.groups 93 (omega arith))

    high_back : (popped u).at 94 ≡ was 94
    high_back =
        let last = a.below in
        let top = w.below in
        let begin = w.high in
        let z : s - 2 + 2 ≡ s = omega arith in
        (popped_pointer u (s - 2) pointer1 (omega arith)).1 ∙ ap (λ n. n / 256) z ∙ sym (pointer_high v s pointer0 before.bytes)
        ∙ before.kept 94 (was 94) a.pointer_high (low_stands p e place entry_of w was m.state.groups 94 (omega arith))

    other_back : (k : ℕ) → aside k ≡ true → Outside (first_cell_at p e place entry_of w) w.cells k → k ≢ 93 → k ≢ 94
        → (popped u).at k ≡ was k
    other_back k q o low high =
        let own = a.own k q in
        let above = a.high k q in
        aside_left back v1 u pointer first left_there k q o low high
        ∙ saved.same k (omega arith) (λ j z y. let few4 = below_work need0 j in let o = own (omega arith) in omega (arith, few4, o))
        ∙ before.kept k (was k) q (other_stands (first_cell_at p e place entry_of w) w.cells was k m.state.groups o)

    known_back : (k : ℕ) → aside k ≡ true → Outside (first_cell_at p e place entry_of w) w.cells k → (popped u).at k ≡ was k
    known_back k q o =
        ⊎_elim
        (λ (l : k ≡ 93). subst (λ j. (popped u).at j ≡ was j) (sym l) low_back)
        (λ (l : k ≢ 93).
        ⊎_elim
        (λ (r : k ≡ 94). subst (λ j. (popped u).at j ≡ was j) (sym r) high_back)
        (λ (r : k ≢ 94). other_back k q o l r)
        (cases_eq k 94))
        (cases_eq k 93)

    -- a cell holds what the called function has left there
    cell_back : (c byte : ℕ) → c < w.cells
        → standing_by p e place entry_of w was s1.groups (first_cell_at p e place entry_of w + c) ≡ Some byte
        → (popped u).at (first_cell_at p e place entry_of w + c) ≡ byte
    cell_back c byte l q =
        let above = w.selected.work_stands.high in
        let k = first_cell_at p e place entry_of w + c in
        popped_same u k (omega arith) (omega arith)
        ∙ left.kept k byte (aside_before aside scratch (16 * slots) s k (a.cells c l))
        (cell_stands_alike (first_cell_at p e place entry_of w) w.cells (pushed back v1).at was c s1.groups l ∙ q)

    aside_back : (k byte : ℕ) → aside k ≡ true → standing_by p e place entry_of w was s1.groups k ≡ Some byte
        → (popped u).at k ≡ byte
    aside_back k byte q r =
        ⊎_elim
        (λ (c : (i : ℕ) × (i < w.cells) × (k ≡ first_cell_at p e place entry_of w + i)).
        ap (popped u).at c.2 ∙ cell_back c.0 byte c.1 (ap (standing_by p e place entry_of w was s1.groups) (sym c.2) ∙ r))
        (λ o. known_back k q o ∙ other_is (first_cell_at p e place entry_of w) w.cells was k byte s1.groups o r)
        (by_row (first_cell_at p e place entry_of w) w.cells k)

    pub resumes : Matches D e w.inputs slots bs place aside (standing_by p e place entry_of w was) active called need
        (machine temps s1) v5
    resumes = record {
      temps_hold = temp_holds;
      leaves_hold = λ l z y q k. same_leaf D place u.at v5.at (place l.object + l.at) l.bytes y (λ i r. leaf_back l i r)
          (left.leaves_hold l z y q k);
      tables_hold = left.tables_hold;
      frames = left.frames;
      kept = λ k byte q r.
          (let above = a.high k q in loaded.same k (omega arith) (λ j y. outside_above need0 j k above)
          ∙ took.same k (omega arith) (omega arith) (omega arith) (outside_aside to k it q)) ∙ aside_back k byte q r;
      bytes = loaded.numbers;
      left = kept_left w.inputs s1 u v5 (loaded.quiet.inputs ∙ took.quiet.inputs) left.left;
      seen = loaded.quiet.seen ∙ took.quiet.seen ∙ left.seen;
      safe = loaded.quiet.safe ∙ took.quiet.safe ∙ left.safe;
    }
