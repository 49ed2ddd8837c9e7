-- What the code of port operations leaves matches what they mean.
use Rattle.std.proofs.Common.{◌≡◌, ◌≢◌, ◌⊎◌, ⊎_elim, ℕ, ◌+◌, ◌/◌, ◌%◌, ◌^◌, ◌<◌, ◌≤◌, min, true, false}
use Rattle.std.proofs.Common.{◌++◌, List, Option, Some, None, refl, sym, ap, ◌∙◌, subst, arith, pos}
use Rattle.std.specs.Prelude.{option_map, slice_get, ⊤}
use Rattle.std.proofs.lemmas.Bool.{cases_lt, eq-eqb}
use Rattle.std.proofs.lemmas.Nat.{mod_below}
use Rattle.ec_asm.specs.declared.items.AsmItem.{AsmItem}
use Rattle.ec_asm.specs.declared.pieces.Location.{Location}
use Rattle.ec_asm.specs.declared.pieces.Location.TheVariants.{InRegisters, InMemory}
use Rattle.ec_asm.specs.View.{View}
use Rattle.ec_asm.specs.Change.{Env, Own, Port}
use Rattle.ec_asm.specs.Items.{block, chain}
use Rattle.ec_asm.specs.Pieces.{StandsFrom, Outside, value}
use Rattle.ec_asm.specs.PieceLaws.{HoldsNumbers}
use Rattle.ec_asm.proofs.Hoare.{block-append}
use Rattle.ec_asm.proofs.Numbers.{value_below, value_mod, value_digit}
use Rattle.ec_core.specs.Plain.{PlainProgram}
use Rattle.ec_core.specs.PortAccesses.{bytes_read, number_read, bytes_written}
use Rattle.ec_core.specs.State.{State, worked}
use Rattle.ec_ir.specs.declared.operations.Temp.{Temp}
use Rattle.ec_ir.specs.Meaning.{Mach, machine}
use Rattle.ec_ir.specs.Temporaries.{bits, low_bytes, with_content}
use Rattle.ec_select_bytes.specs.Values.{byte_of, extend_code}
use Rattle.ec_select_operations.specs.Code.{same_location, conversion_code}
use Rattle.ec_select_functions.specs.Covered.{HasIndex}
use Rattle.ec_select_operations.specs.Homes.{HasHome}
use Rattle.ec_select_operations.specs.Needs.{Need, wanted, at_least, index_needed}
use Rattle.ec_select_operations.specs.Places.{IsClear}
use Rattle.ec_select_operations.specs.Ports.{read_byte, write_code, point_code}
use Rattle.ec_select_functions.specs.Relation.{AreLeft, FramesStand, Matches, accesses}
use Rattle.ec_select_functions.proofs.Cells.{memory_of, same_objects, same_groups}
use Rattle.ec_select_functions.proofs.Extended.{Converted, converted}
use Rattle.ec_select_functions.proofs.Match.{kept_left, wanted_most, wanted_more, least_here, least_other, at_width}
use Rattle.ec_select_functions.proofs.Match.{held_row, same_content, same_leaf, written_wide}
use Rattle.ec_select_functions.proofs.Moves.{Wide, narrower, work_outside, row_kept_wide, stands_less}
use Rattle.ec_select_functions.proofs.PortPoints.{IsElement, Changes, Pointed, pointed, element_below}
use Rattle.ec_select_functions.proofs.PortReads.{ReadsTo, reads_to, WritesFrom, writes_from}
use Rattle.ec_select_functions.proofs.PortStates.{read_memory, written_memory, written_left}
use Rattle.ec_select_functions.proofs.Setting.{Setting}
use Rattle.ec_select_functions.proofs.Wrapped.{low_below, low_part, value_of_bytes}

same_itself : (q : Location) → same_location q q ≡ true
same_itself (InRegisters r) = eq-eqb r r refl
same_itself (InMemory o k) = rw (eq-eqb o o refl, eq-eqb k k refl) refl

pub high_outside : (a n : ℕ) → IsClear a n → Outside a n 31
high_outside a n x l =
    ⊎_elim (λ (q : a < 26). let z = x.high.left q in omega arith) (λ (q : 26 ≤ a). let z = x.high.right q in absurd (omega arith))
    (cases_lt a 26)

module _ (p : PlainProgram) (e : Env) (slots : ℕ) (home : Temp → Location) (base : Temp → ℕ) (place : ℕ → ℕ)
    (y : Setting p e slots home base place) where
  abbrev P : Need → Mach → View → Type 0
  P need m v = Matches p e y.inputs slots base place y.aside y.stands y.active y.called need m v

  -- ---- the index

  -- the low byte of the index is needed
  abbrev pub NeedsIndex : Option Temp → Need → Type 0
  NeedsIndex None need = ⊤
  NeedsIndex (Some t) need = 1 ≤ need t.at

  pub needs_index : (index : Option Temp) (need : Need) → NeedsIndex index (index_needed index need)
  needs_index None need = tt
  needs_index (Some t) need = least_here t.at 1 need

  pub needs_index_too : (index : Option Temp) (at n : ℕ) (need : Need) → NeedsIndex index need
      → NeedsIndex index (at_least at n need)
  needs_index_too None at n need h = tt
  needs_index_too (Some t) at n need h = let x = least_other at n t.at need in omega (arith, x, h)

  pub index_other : (index : Option Temp) (need : Need) (u : ℕ) → need u ≤ index_needed index need u
  index_other None need u = omega arith
  index_other (Some t) need u = least_other t.at 1 u need

  pub points : (index : Option Temp) (port width at : ℕ) (need : Need) (m : Mach) (v : View) → HasIndex slots index
      → NeedsIndex index need → (width ≡ 1) ⊎ ((width ≡ 2) ⊎ (width ≡ 4)) → at + width ≤ 256 → 1 ≤ width
      → IsElement index port width at m.temps → P need m v
      → Pointed e (option_map home index) port at v (block e (point_code (option_map home index) port width) v)
  points None port width at need m v has needed cases below some is h = record {
    points = is;
    changes = record {
      same = λ k a b c d. refl;
      numbers = h.bytes;
      quiet = record { inputs = refl; safe = refl; seen = refl };
    };
  }
  points (Some t) port width at need m v has needed cases below some is h =
      let two = has.1 in
      let content = at_width p e slots home base place y need m v t _ 1 h has.0 is.1 refl (omega (arith, needed, two)) in
      let small = element_below e port is.0 width at is.2 below some in
      let first : base t + 0 ≡ base t = omega arith in
      let byte : v.at (base t) ≡ is.0 =
      ap v.at (sym first) ∙ (let c : value v.at (base t) 1 ≡ is.0 % 256 = content.0 in omega (arith, c, small)) in
      pointed e (home t) (base t) is.0 port width at v
      (stands_less e (home t) t.bytes 1 (base t) Own (omega (arith, two)) (y.layout.temps_at t has.0)) cases byte is.2
      (omega (arith, below, some)) h.bytes

  -- ---- reads

  -- where some code has set Z, if there is an index, or what is given for one
  module _ (there : Option Location) (pointing : List AsmItem) (t : Temp) (port width at c : ℕ) (need need0 : Need) (m : Mach) (v : View)
      (it : HasHome slots t) (within : width ≤ t.bytes) (some : 1 ≤ width) (below : at + width ≤ 256) (kinds : (j : ℕ) → j < width → e.kind (at + j) ≡ Port)
      (more : (u : ℕ) → u ≢ t.at → need u ≤ need0 u) (h : P need0 m v) where
    abbrev s : State
    s = worked c m.state

    abbrev number : ℕ
    number = number_read y.inputs width at s

    read_matches : (v1 : View) → Pointed e there port at v v1
        → P need (machine (with_content t (bits (low_bytes t.bytes (pos number))) m.temps) (bytes_read y.inputs width at s))
        (block e (extend_code false (home t) width (wanted need t)) (block e (chain (read_byte there port (home t)) width) v1))
    read_matches v1 point =
        let q = point.changes in
        let b = base t in
        let n = wanted need t in
        let most = wanted_most need t in
        let clear = y.layout.temps_work t it in
        let stands = y.layout.temps_at t it in
        let v2 = block e (chain (read_byte there port (home t)) width) v1 in
        let v3 = block e (extend_code false (home t) width n) v2 in
        let r : ReadsTo p place e y.inputs y.feeds y.taken v1 s at b width v2 =
        reads_to p place e y.inputs y.feeds y.taken there port at (home t) b width v1 s
        (stands_less e (home t) t.bytes width b Own within stands) (narrower b t.bytes width 30 within (work_outside b t.bytes clear))
        (narrower b t.bytes width 31 within (high_outside b t.bytes clear)) point.points below kinds q.numbers
        (kept_left y.inputs m.state v v1 q.quiet.inputs h.left) (q.quiet.seen ∙ h.seen) width (omega arith) in
        let clear_from = stands.clear in
        let row = held_row v2 b width clear_from r.numbers in
        let under : number < 256 ^ width = subst (λ x. x < 256 ^ width) r.number (value_below v2.at b width row) in
        let low : value v2.at b (min n width) ≡ number % 256 ^ min n width =
        sym (value_mod v2.at b (min n width) width (omega arith) row) ∙ ap (λ x. x % 256 ^ min n width) r.number in
        let x0 =
        converted p e slots home base place y false t (home t) b width n number v2 it some
        (stands_less e (home t) t.bytes width b Own within stands) (λ k l z. absurd (omega arith)) most under r.numbers low in
        let empty : conversion_code false (home t) (home t) width n ≡ extend_code false (home t) width n = rw (same_itself (home t)) refl in
        let x : Converted p e slots home base place y false t width n number v2 v3 =
        subst (λ items. Converted p e slots home base place y false t width n number v2 (block e items v2)) empty x0 in
        let frame : Wide v v3 b t.bytes =
        λ k a d f g o. x.frame k a d (in_work k g) (narrower b t.bytes n k most o) ∙ r.same k a (narrower b t.bytes width k within o)
        ∙ q.same k a d (in_work k g) (above_work k g) in
        let result : value v3.at b n ≡ low_bytes t.bytes (pos number) % 256 ^ n = x.result ∙ sym (low_part (pos number) n t.bytes most) in
        written_wide p e slots home base place y t (bits (low_bytes t.bytes (pos number))) need need0 m
        (bytes_read y.inputs width at s) v v3 it h more frame (result, low_below t.bytes (pos number)) x.numbers
        (read_memory y.inputs width at s) (x.quiet.seen ∙ r.seen)
        (kept_left y.inputs (bytes_read y.inputs width at s) v2 v3 x.quiet.inputs r.left) (x.quiet.safe ∙ r.safe ∙ q.quiet.safe ∙ h.safe)
      where
        in_work : (k : ℕ) → Outside 26 6 k → k ≢ 30
        in_work k z q = let l = z (omega arith) in omega arith

        above_work : (k : ℕ) → Outside 26 6 k → k ≢ 31
        above_work k z q = let l = z (omega arith) in omega arith

    pub in_matches : Pointed e there port at v (block e pointing v)
        → P need (machine (with_content t (bits (low_bytes t.bytes (pos number))) m.temps) (bytes_read y.inputs width at s))
        (block e (pointing ++ (chain (read_byte there port (home t)) width ++ extend_code false (home t) width (wanted need t))) v)
    in_matches point =
        rw (
          block-append e pointing (chain (read_byte there port (home t)) width ++ extend_code false (home t) width (wanted need t)) v,
          block-append e
              (chain (read_byte there port (home t)) width) (extend_code false (home t) width (wanted need t)) (block e pointing v),
        )
        (read_matches (block e pointing v) point)

  -- ---- writes

  -- where only R0, R1, R30, R31 and what was seen have changed
  module _ (need0 need : Need) (m : Mach) (s1 : State) (v w : View) (less : (u : ℕ) → need u ≤ need0 u) (h : P need0 m v)
      (same : (k : ℕ) → k ≢ 0 → k ≢ 1 → k ≢ 30 → k ≢ 31 → w.at k ≡ v.at k) where
    row_same : (a n : ℕ) → 2 ≤ a → IsClear a n → (j : ℕ) → j < n → w.at (a + j) ≡ v.at (a + j)
    row_same a n some clear j l =
        row_kept_wide v w 0 0 a n some clear (record { left = λ q. omega arith; right = λ q. absurd (omega arith) })
        (λ k a b c d o. same k a b (let z = d in λ q. let y = z (omega arith) in omega arith)
        (let z = d in λ q. let y = z (omega arith) in omega arith)) j l

    pub kept_matches : memory_of s1 ≡ memory_of m.state → HoldsNumbers w → w.seen ≡ accesses p place s1.events
        → AreLeft y.inputs s1 w → w.safe ≡ true → P need (machine m.temps s1) w
    kept_matches memory numbers seen left safe = record {
      temps_hold = λ t c it q r. (let most = wanted_most need t in same_content p place v.at w.at (base t) (wanted need t) t.bytes
          c.content (λ j l. row_same (base t) t.bytes (y.layout.temps_at t it).clear (y.layout.temps_work t it) j (omega arith))
          (at_width p e slots home base place y need0 m v t c (wanted need t) h it q r (wanted_more need need0 t (less t.at))));
      leaves_hold = λ l x u q r. same_leaf p place v.at w.at (place l.object + l.at) l.bytes u
          (λ j z. row_same (place l.object + l.at) l.bytes (y.layout.leaves_at l).clear (y.layout.leaves_work l) j z)
          (h.leaves_hold l x u (ap (λ o. slice_get o l.object) (sym (same_objects s1 m.state memory)) ∙ q) r);
      tables_hold = λ l x u q r. h.tables_hold l x u (ap (λ o. slice_get o l.object) (sym (same_objects s1 m.state memory)) ∙ q) r;
      frames = subst (λ o. FramesStand p y.active y.called o) (sym (same_objects s1 m.state memory)) h.frames;
      kept = λ k byte q r. (let z = y.high k q in same k (omega arith) (omega arith) (omega arith) (omega arith))
          ∙ h.kept k byte q (ap (λ g. y.stands g k) (sym (same_groups s1 m.state memory)) ∙ r);
      bytes = numbers;
      left = left;
      seen = seen;
      safe = safe;
    }

  -- a byte of the low bytes of a number
  low_digit : (low n j : ℕ) → j < n → low % 256 ^ n / 256 ^ j % 256 ≡ low / 256 ^ j % 256
  low_digit low n j l =
      ap (λ x. x / 256 ^ j % 256) (sym (value_of_bytes (byte_of low) 0 n low (λ i k. at_start i)))
      ∙ value_digit (byte_of low) 0 n j (λ i k. mod_below (low / 256 ^ (0 + i)) 256 (omega arith)) l ∙ at_start j
    where
      at_start : (i : ℕ) → byte_of low (0 + i) ≡ byte_of low i
      at_start i = let q : 0 + i ≡ i = omega arith in ap (byte_of low) q

  module _ (there : Option Location) (pointing : List AsmItem) (t : Temp) (port width at c low : ℕ) (need need0 : Need) (m : Mach) (v : View)
      (it : HasHome slots t) (within : width ≤ t.bytes) (below : at + width ≤ 256) (kinds : (j : ℕ) → j < width → e.kind (at + j) ≡ Port)
      (wide : width ≤ need0 t.at)
      (less : (u : ℕ) → need u ≤ need0 u) (holds : m.temps t.at ≡ Some (record { bytes = t.bytes; content = bits low }))
      (h : P need0 m v) where
    abbrev s0 : State
    s0 = worked c m.state

    pub out_matches : Pointed e there port at v (block e pointing v)
        → P need (machine m.temps (bytes_written width at low s0)) (block e (pointing ++ write_code there port (home t) 0 width) v)
    out_matches point = rw (block-append e pointing (write_code there port (home t) 0 width) v) matches
      where
        v1 : View
        v1 = block e pointing v

        w : View
        w = block e (write_code there port (home t) 0 width) v1

        q : Changes e v v1
        q = point.changes

        stands : StandsFrom e (home t) t.bytes (base t) Own
        stands = y.layout.temps_at t it

        content : value v.at (base t) width ≡ low % 256 ^ width
        content = (at_width p e slots home base place y need0 m v t _ width h it holds refl (omega (arith, wide, within))).0

        digits : (j : ℕ) → j < width → v1.at (base t + j) ≡ low / 256 ^ j % 256
        digits j l =
            row_same need0 need m s0 v v1 less h q.same (base t) t.bytes stands.clear (y.layout.temps_work t it) j
            (omega (arith, l, within))
            ∙ sym (value_digit v.at (base t) width j (held_row v (base t) width stands.clear h.bytes) l)
            ∙ ap (λ x. x / 256 ^ j % 256) content ∙ low_digit low width j l

        x : WritesFrom p place e y.inputs y.feeds y.taken v1 s0 (at + 0) (low / 256 ^ 0) width w
        x =
            writes_from p place e y.inputs y.feeds y.taken there port at (home t) (base t) width low v1 s0
            (stands_less e (home t) t.bytes width (base t) Own within stands) point.points below kinds digits
            (q.quiet.seen ∙ h.seen) 0 width (omega arith)

        all : bytes_written width (at + 0) (low / 256 ^ 0) s0 ≡ bytes_written width at low s0
        all =
            let i : at + 0 ≡ at = omega arith in
            let j : low / 256 ^ 0 ≡ low = omega arith in
            ap (λ a. bytes_written width a (low / 256 ^ 0) s0) i ∙ ap (λ n. bytes_written width at n s0) j

        numbers : HoldsNumbers w
        numbers k l = rw (x.same k (omega arith)) (q.numbers k l)

        matches : P need (machine m.temps (bytes_written width at low s0)) w
        matches =
            kept_matches need0 need m (bytes_written width at low s0) v w less h (λ k a b d f. x.same k a ∙ q.same k a b d f)
            (written_memory width at low s0) numbers (x.seen ∙ ap (λ (u : State). accesses p place u.events) all)
            (λ other. kept_left y.inputs m.state v w (x.inputs_same ∙ q.quiet.inputs) h.left other
            ∙ sym (written_left y.inputs width at low other s0)) (x.safe ∙ q.quiet.safe ∙ h.safe)
