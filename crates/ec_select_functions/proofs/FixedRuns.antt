-- Code that works in the work bytes, and then brings its result to a temporary.
use Rattle.std.proofs.Common.{◌≡◌, ◌≢◌, ◌⊎◌, inl, inr, ℕ, ◌+◌, ◌-◌, ◌*◌, ◌%◌, ◌^◌, ◌<◌, ◌≤◌, ◌==◌, ⊎_elim, Bool, false, List, [], ◌++◌}
use Rattle.std.proofs.Common.{refl, sym}
use Rattle.std.proofs.Common.{ap, ◌∙◌, subst, arith, append-nil}
use Rattle.std.specs.Prelude.{if◌then◌else◌}
use Rattle.std.proofs.lemmas.Bool.{cases_lt}
use Rattle.ec_space.specs.declared.space.Bank.TheVariants.{Data as DataBank}
use Rattle.ec_avr.specs.State.{lowered}
use Rattle.ec_asm.specs.declared.items.AsmItem.{AsmItem}
use Rattle.ec_asm.specs.declared.pieces.Location.{Location}
use Rattle.ec_asm.specs.declared.pieces.Operator.TheVariants.{Sum}
use Rattle.ec_asm.specs.View.{View}
use Rattle.ec_asm.specs.Change.{Env, Own, Stacked, sp}
use Rattle.ec_asm.specs.Items.{HasAt, block, code_steps}
use Rattle.ec_asm.specs.Pieces.{StandsFrom, Outside, copy_code, value}
use Rattle.ec_asm.specs.PieceLaws.{HoldsNumbers}
use Rattle.ec_asm.proofs.Compared.{copy_holds}
use Rattle.ec_asm.proofs.Hoare.{has_parts, block_goes, goes_on_to}
use Rattle.ec_asm.proofs.Numbers.{value_below, value_mod}
use Rattle.ec_asm.proofs.Results.{pieces_are_straight, pieces_take}
use Rattle.ec_core.specs.Plain.{PlainProgram}
use Rattle.ec_core.specs.State.{Outcome, worked}
use Rattle.ec_core.specs.declared.values.Value.{Value}
use Rattle.ec_ir.specs.declared.operations.Temp.{Temp}
use Rattle.ec_ir.specs.Meaning.{Mach, machine}
use Rattle.ec_ir.specs.Temporaries.{bits, with_content}
use Rattle.ec_fxcode.specs.ClampLaws.{IsClearOfEnds, AreApart}
use Rattle.ec_fxcode.proofs.Moves.{part_stands, no_log}
use Rattle.ec_fxcode_quotients.specs.QuotientLaws.{AreSlots}
use Rattle.ec_fxcode_scales.specs.ScaleLaws.{Computes}
use Rattle.ec_routines.specs.Routines.{ComputesByCall}
use Rattle.ec_select_fixed.specs.FixedLaws.{AreOperandSlots}
use Rattle.ec_select_operations.specs.Code.{work_location, answer_location, answer_code}
use Rattle.ec_select_operations.specs.Homes.{HasHome}
use Rattle.ec_select_operations.specs.Needs.{Need, wanted}
use Rattle.ec_select_operations.specs.Places.{IsClear, Apart, ObjectLeaf}
use Rattle.ec_select_functions.specs.Relation.{accesses, Matches}
use Rattle.ec_select_functions.proofs.Follow.{Follows, after}
use Rattle.ec_select_functions.proofs.Match.{kept_left, wanted_most, same_content, same_leaf, written}
use Rattle.ec_select_functions.proofs.Moves.{Frame, wider_frame, numbers_kept, row_value, work_outside}
use Rattle.ec_select_functions.proofs.Setting.{Setting}

-- ---- places

pub clear_of_ends : (a n : ℕ) → IsClear a n → IsClearOfEnds a n
clear_of_ends a n c =
    ⊎_elim
    (λ (x : a < 26). let z = c.high.left x in record { below = λ l. omega arith; above = λ l. absurd (omega arith) })
    (λ (x : 26 ≤ a). let z = c.high.right x in record { below = λ l. absurd (omega arith); above = λ l. omega arith })
    (cases_lt a 26)

apart_outside : (a n w m j : ℕ) → Apart a n w m → j < n → Outside w m (a + j)
apart_outside a n w m j x l q =
    ⊎_elim (λ (z : a < w). let y = x.left z in absurd (omega arith)) (λ (z : w ≤ a). let y = x.right z in omega arith) (cases_lt a w)

pub as_apart : (a n b k : ℕ) → Apart a n b k → AreApart a n b k
as_apart a n b k x = record { first = x.left; second = x.right }

-- from a part of the work bytes
apart_from_part : (a n w i k : ℕ) → 1 ≤ n → 1 ≤ k → i + k ≤ 64 → Apart a n w 64 → AreApart a n (w + i) k
apart_from_part a n w i k some many l x =
    ⊎_elim
    (λ (z : a < w). let y = x.left z in record { first = λ q. omega arith; second = λ q. absurd (omega arith) })
    (λ (z : w ≤ a). let y = x.right z in record { first = λ q. absurd (omega arith); second = λ q. omega arith })
    (cases_lt a w)

module _ (p : PlainProgram) (e : Env) (slots : ℕ) (home : Temp → Location) (base : Temp → ℕ) (place : ℕ → ℕ)
    (y : Setting p e slots home base place) where
  abbrev M : Need → Mach → View → Type 0
  M need m v = Matches p e y.inputs slots base place y.aside y.stands y.active y.called need m v

  -- the work bytes, and the result behind them
  work_there : StandsFrom e work_location 40 y.work Own
  work_there =
      let w = y.work_stands in
      let high = w.high in
      record {
        at = λ i l. (let r : 0 + i ≡ i = omega arith in ap (e.address_of 1280) r ∙ w.at i (omega arith));
        kind = λ i l. w.kind i
            (omega arith);
        clear = omega arith;
      }

  answer_there : (k : ℕ) → k ≤ 24 → StandsFrom e answer_location k (y.work + 40) Own
  answer_there k l =
      let w = y.work_stands in
      let high = w.high in
      record {
        at = λ i m. w.at (40 + i) (omega arith) ∙ omega arith;
        kind = λ i m.
            (let r : y.work + (40 + i) ≡ y.work + 40 + i = omega arith in subst (λ j. e.kind j ≡ Own) r (w.kind (40 + i) (omega arith)));
        clear = omega arith;
      }

  far_from_ends : (i n : ℕ) → IsClearOfEnds (y.work + i) n
  far_from_ends i n = let high = y.work_stands.high in record { below = λ l. absurd (omega arith); above = λ l. omega arith }

  -- ---- the stack pointer, and the two bytes that a call pushes

  pub pointer_is : (need : Need) (m : Mach) (v : View) → M need m v → sp v ≡ y.stack
  pointer_is need m v h =
      let above = y.work_stands.high in
      let low = h.kept 93 (y.was 93) y.pointer_low (y.others_stand 93 m.state.groups (λ l. absurd (omega arith))) in
      let high = h.kept 94 (y.was 94) y.pointer_high (y.others_stand 94 m.state.groups (λ l. absurd (omega arith))) in
      rw (low, high) y.pointer

  pub below_is : (need : Need) (m : Mach) (v : View) → M need m v → lowered (sp v) ≡ y.stack - 1
  below_is need m v h =
      let high = y.stack_high in
      let below = y.stack_below in
      rw (pointer_is need m v h) (omega arith)

  pushed_kind : (k : ℕ) → (k ≡ y.stack) ⊎ (k ≡ y.stack - 1) → (256 ≤ k) × (e.kind k ≡ Stacked)
  pushed_kind k (inl q) = let high = y.stack_high in (omega arith, y.stacked k (omega arith) (omega arith))
  pushed_kind k (inr q) = let high = y.stack_high in (omega arith, y.stacked k (omega arith) (omega arith))

  -- so no byte of a row that stands apart from the stack is one of them
  off_stack : (a n j : ℕ) → ((k : ℕ) → 256 ≤ k → e.kind k ≡ Stacked → Outside a n k) → j < n
      → (a + j ≢ y.stack) × (a + j ≢ y.stack - 1)
  off_stack a n j apart l = (λ q. refuse (inl q), λ q. refuse (inr q))
    where
      refuse : (a + j ≡ y.stack) ⊎ (a + j ≡ y.stack - 1) → ⊥
      refuse q =
          let z = pushed_kind (a + j) q in
          let x = apart (a + j) z.0 z.1 (omega arith) in
          omega arith

  -- ---- the work bytes, and what a call pushes, alone have changed

  undisturbed : (need : Need) (m : Mach) (v v1 : View) → M need m v
      → ((k : ℕ) → k ≢ 0 → k ≢ 1 → Outside 8 6 k → Outside 26 6 k → Outside y.work 64 k → k ≢ y.stack → k ≢ y.stack - 1
      → v1.at k ≡ v.at k)
      → HoldsNumbers v1 → v1.inputs ≡ v.inputs → v1.safe ≡ v.safe → v1.seen ≡ v.seen → M need m v1
  undisturbed need m v v1 h same numbers inputs safe seen = record {
    temps_hold = λ t c it q w. (let most = wanted_most need t in same_content p place v.at v1.at (base t) (wanted need t) t.bytes
        c.content (λ j l. temp_row t it j (omega arith)) (h.temps_hold t c it q w));
    leaves_hold = λ l x u q w. same_leaf p place v.at v1.at (place l.object + l.at) l.bytes u (λ j m. leaf_row l j m)
        (h.leaves_hold l x u q w);
    tables_hold = h.tables_hold;
    frames = h.frames;
    kept = λ k byte q w. (let high = y.high k q in
        let free = y.stack_free k q in
        same k (omega arith) (omega arith) (λ l. omega arith) (λ l. omega arith) (y.work_aside k q) free.0 free.1) ∙ h.kept k byte q w;
    bytes = numbers;
    left = λ port. kept_left y.inputs m.state v v1 inputs h.left port;
    seen = seen ∙ h.seen;
    safe = safe ∙ h.safe;
  }
    where
      temp_row : (t : Temp) → HasHome slots t → (j : ℕ) → j < t.bytes → v1.at (base t + j) ≡ v.at (base t + j)
      temp_row t it j l =
          let two = (y.layout.temps_at t it).clear in
          let clear = y.layout.temps_work t it in
          let free = off_stack (base t) t.bytes j (λ k high stacked. y.temps_stack t k it high stacked) l in
          same (base t + j) (omega arith) (omega arith) (apart_outside (base t) t.bytes 8 6 j clear.low l)
          (apart_outside (base t) t.bytes 26 6 j clear.high l) (apart_outside (base t) t.bytes y.work 64 j (y.temps_work t it) l)
          free.0 free.1

      leaf_row : (l : ObjectLeaf p DataBank) (j : ℕ) → j < l.bytes → v1.at (place l.object + l.at + j) ≡ v.at (place l.object + l.at + j)
      leaf_row l j m =
          let two = (y.layout.leaves_at l).clear in
          let clear = y.layout.leaves_work l in
          let free = off_stack (place l.object + l.at) l.bytes j (λ k high stacked. y.leaves_stack l k high stacked) m in
          same (place l.object + l.at + j) (omega arith) (omega arith) (apart_outside (place l.object + l.at) l.bytes 8 6 j clear.low m)
          (apart_outside (place l.object + l.at) l.bytes 26 6 j clear.high m) (y.leaves_work l j m) free.0 free.1

  -- ---- the result is brought to its place

  answer_matches : (t : Temp) (size z c : ℕ) (need need0 : Need) (m : Mach) (v1 : View) → HasHome slots t → size ≡ t.bytes
      → M need0 m v1 → ((u : ℕ) → u ≢ t.at → need u ≤ need0 u) → value v1.at (y.work + 40) size ≡ z
      → M need (machine (with_content t (bits z) m.temps) (worked c m.state))
      (block e (copy_code answer_location (home t) (wanted need t)) v1)
  answer_matches t size z c need need0 m v1 it same h more is =
      let k = wanted need t in
      let most = wanted_most need t in
      let eight = it.most in
      let high = y.work_stands.high in
      let v2 = block e (copy_code answer_location (home t) k) v1 in
      let from = answer_there k (omega arith) in
      let to = part_stands e (home t) t.bytes k (base t) most (y.layout.temps_at t it) in
      let far =
      λ (q : y.work + 40 < base t).
      (let x = y.temps_work t it in let r : y.work + 40 + k ≤ base t = ⊎_elim (λ (u : base t < y.work). absurd (omega arith))
      (λ (u : y.work ≤ base t). let w = x.right u in omega arith) (cases_lt (base t) y.work) in r) in
      let d = copy_holds e answer_location (home t) k (y.work + 40) (base t) Own Own v1 from to refl refl far in
      let held = λ (j : ℕ) (l : j < size). (let r : v1.at (y.work + 40 + j) < 256 = h.bytes (y.work + 40 + j) (omega arith) in r) in
      let below : z < 256 ^ t.bytes =
      subst (λ (n : ℕ). z < 256 ^ n) same (subst (λ (n : ℕ). n < 256 ^ size) is (value_below v1.at (y.work + 40) size held)) in
      let low : value v1.at (y.work + 40) k ≡ z % 256 ^ k =
      sym (value_mod v1.at (y.work + 40) k size (omega arith) held) ∙ ap (λ n. n % 256 ^ k) is in
      let here : value v2.at (base t) k ≡ z % 256 ^ k = row_value v2.at v1.at (y.work + 40) (base t) k d.there ∙ low in
      let frame : Frame v1 v2 (base t) k = λ b f g q r. d.same b f r in
      let thirty : v2.at 30 < 256 =
      subst (λ (n : ℕ). n < 256)
      (sym (d.same 30 (omega arith) (λ q. let r = work_outside (base t) t.bytes (y.layout.temps_work t it) q in omega arith)))
      (h.bytes 30 (omega arith)) in
      let numbers =
      numbers_kept v1 v2 (base t) k h.bytes frame
      (λ j l. subst (λ (n : ℕ). n < 256) (sym (d.there j l)) (held j (omega arith))) thirty in
      let seen : v2.seen ≡ accesses p place m.state.events =
      d.seen ∙ ap (λ l. v1.seen ++ l) (no_log (y.work + 40) (base t) v1.at k) ∙ append-nil v1.seen ∙ h.seen in
      written p e slots home base place y t (bits z) need need0 m (worked c m.state) v1 v2 it h more
      (wider_frame v1 v2 (base t) t.bytes k most frame) (here, below)
      numbers refl seen (λ port. kept_left y.inputs m.state v1 v2 d.inputs h.left port) (d.safe ∙ h.safe)

  -- ---- the run

  -- code that computes in the work bytes does no more than a call of it
  pub by_itself : (most pc mid size : ℕ) (v : View) (Holds : ℕ → Type 0) → size ≤ 24
      → Computes e most pc v mid (y.work + 40) size y.work Holds → ComputesByCall e most pc v mid (y.work + 40) size y.work Holds
  by_itself most pc mid size v Holds l r = record {
    steps = r.steps;
    at_most = r.at_most;
    last = r.last;
    goes = r.goes;
    holds = r.holds;
    numbers = r.numbers;
    same = λ k a b low high o s t. r.same k a b (λ q. let z = high (omega arith) in omega arith)
        (λ q. let z = high (omega arith) in omega arith) (λ q. let w = o (omega arith) in omega arith)
        (λ q. let w = o q in omega arith);
    inputs = r.inputs;
    safe = r.safe;
    seen = r.seen;
  }

  -- all but the work bytes, and what a call pushes, is kept by code that computes there
  kept_by : (most pc mid size : ℕ) (need : Need) (m : Mach) (v : View) (Holds : ℕ → Type 0) → M need m v
      → (r : ComputesByCall e most pc v mid (y.work + 40) size y.work Holds)
      → (k : ℕ) → k ≢ 0 → k ≢ 1 → Outside 8 6 k → Outside 26 6 k → Outside y.work 64 k → k ≢ y.stack → k ≢ y.stack - 1
      → r.last.at k ≡ v.at k
  kept_by most pc mid size need m v Holds h r k a b low high o s t =
      r.same k a b low high o (λ q. s (q ∙ pointer_is need m v h)) (λ q. t (q ∙ below_is need m v h))

  pub answer_passes : (code : List AsmItem) (most size c n pc end : ℕ) (t : Temp) (need need0 : Need) (m : Mach) (v : View)
      (o : Outcome Value) (Holds : ℕ → Type 0)
      → HasHome slots t → size ≡ t.bytes → M need0 m v → ((u : ℕ) → u ≢ t.at → need u ≤ need0 u) → (wanted need t == 0) ≡ false
      → HasAt e (answer_code code (home t) (wanted need t)) pc end
      → ((mid : ℕ) → HasAt e code pc mid → ComputesByCall e most pc v mid (y.work + 40) size y.work Holds)
      → most + 2 * t.bytes ≤ c
      →
      ((z : ℕ) (v2 : View) → Holds z → M need (machine (with_content t (bits z) m.temps) (worked c m.state)) v2
      → Follows p place e n (m.state.work + c) end v2 o)
      → Follows p place e n m.state.work pc v o
  answer_passes code most size c n pc end t need need0 m v o Holds it same h more some stands run room onward =
      let k = wanted need t in
      let wide = wanted_most need t in
      let eight = it.most in
      let copy = copy_code answer_location (home t) k in
      let stand : HasAt e (code ++ copy) pc end = subst (λ (b : Bool). HasAt e (if b then [] else code ++ copy) pc end) some stands in
      let parts = has_parts e code copy pc end stand in
      let r = run parts.0 parts.1 in
      let few = r.at_most in
      let v1 = r.last in
      let after_run = undisturbed need0 m v v1 h (kept_by most pc parts.0 size need0 m v Holds h r) r.numbers r.inputs r.safe r.seen in
      let z = value v1.at (y.work + 40) size in
      let matches = answer_matches t size z c need need0 m v1 it same after_run more refl in
      let second = block_goes e copy parts.0 end v1 (pieces_are_straight Sum answer_location (home t) k).0 parts.2 in
      let steps = (pieces_take Sum answer_location (home t) k).0.1 in
      let goes = goes_on_to e r.steps (code_steps copy) pc parts.0 end v v1 (block e copy v1) r.goes second in
      after p place e (r.steps + code_steps copy) n n m.state.work (m.state.work + c) pc end v (block e copy v1) o goes (omega arith)
      (omega (arith, few, steps, wide, room))
      (onward z (block e copy v1) r.holds matches)

  -- ---- slots

  pub slots_of : (a b : Temp) (k : ℕ) → HasHome slots a → HasHome slots b → a.at ≢ b.at → 1 ≤ k → k ≤ 8
      → AreSlots e (home a) (home b) answer_location work_location a.bytes b.bytes k (base a) (base b) (y.work + 40) y.work
  slots_of a b k ia ib other some most = record {
    number = y.layout.temps_at a ia;
    divisor = y.layout.temps_at b ib;
    result = answer_there k (omega arith);
    work = work_there;
    clear = (
      clear_of_ends (base a) a.bytes (y.layout.temps_work a ia),
      clear_of_ends (base b) b.bytes
          (y.layout.temps_work b ib),
      far_from_ends 40 k,
      work_clear,
    );
    apart = (
      as_apart (base a) a.bytes (base b) b.bytes (y.layout.temps_apart a b ia ib other),
      apart_from_part
          (base a) a.bytes y.work 40 k ia.some some (omega arith) (y.temps_work a ia),
      from_work a ia,
    );
    others = (
      apart_from_part (base b) b.bytes y.work 40 k ib.some some (omega arith)
          (y.temps_work b ib),
      from_work b ib,
      record { first = λ q. absurd (omega arith); second = λ q. omega arith },
    );
  }
    where
      work_clear : IsClearOfEnds y.work 40
      work_clear = let high = y.work_stands.high in record { below = λ l. absurd (omega arith); above = λ l. omega arith }

      from_work : (t : Temp) → HasHome slots t → AreApart (base t) t.bytes y.work 40
      from_work t it =
          let r = apart_from_part (base t) t.bytes y.work 0 40 it.some (omega arith) (omega arith) (y.temps_work t it) in
          let same : y.work + 0 ≡ y.work = omega arith in
          subst (λ (w : ℕ). AreApart (base t) t.bytes w 40) same r

  pub operand_slots_of : (a : Temp) (k : ℕ) → HasHome slots a → 1 ≤ k → k ≤ 8
      → AreOperandSlots e (home a) answer_location work_location a.bytes k (base a) (y.work + 40) y.work
  operand_slots_of a k ia some most = record {
    operand = y.layout.temps_at a ia;
    result = answer_there k (omega arith);
    work = work_there;
    clear = (clear_of_ends (base a) a.bytes (y.layout.temps_work a ia), far_from_ends 40 k, work_clear);
    apart = (
      apart_from_part (base a) a.bytes y.work 40 k ia.some some (omega arith)
          (y.temps_work a ia),
      from_work,
      record { first = λ q. absurd (omega arith); second = λ q. omega arith },
    );
  }
    where
      work_clear : IsClearOfEnds y.work 40
      work_clear = let high = y.work_stands.high in record { below = λ l. absurd (omega arith); above = λ l. omega arith }

      from_work : AreApart (base a) a.bytes y.work 40
      from_work =
          let r = apart_from_part (base a) a.bytes y.work 0 40 ia.some (omega arith) (omega arith) (y.temps_work a ia) in
          let same : y.work + 0 ≡ y.work = omega arith in
          subst (λ (w : ℕ). AreApart (base a) a.bytes w 40) same r
