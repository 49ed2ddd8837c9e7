-- The code of all spans, and the whole code before `main`.
use Rattle.std.proofs.Common.{◌≡◌, ◌≢◌, ℕ, suc, ◌+◌, ◌*◌, ◌/◌, ◌%◌, ◌<◌, ◌≤◌, List, [], ◌∷◌, ◌++◌, refl, sym, ap, ◌∙◌, arith, append-nil}
use Rattle.std.proofs.Common.{append_assoc}
use Rattle.std.specs.Prelude.{sum_by, All, Bool, true, false, nat_le}
use Rattle.std.specs.List.{AllPairs}
use Rattle.std.proofs.Math.Nat.{div-le_self, div-add-mod}
use Rattle.std.proofs.lemmas.List.Elements.{All-nil, All-cons, All-head, All-tail}
use Rattle.std.proofs.lemmas.List.Sums.{sum_by-drop_more}
use Rattle.ec_asm.specs.View.{View, put}
use Rattle.ec_asm.specs.Change.{Env, sp}
use Rattle.ec_asm.specs.Items.{HasAt, block, part_of}
use Rattle.ec_asm.specs.Pieces.{Outside}
use Rattle.ec_asm.specs.Shows.{noted_all}
use Rattle.ec_asm.specs.Run.{Running}
use Rattle.ec_asm.specs.Takes.{Goes}
use Rattle.ec_asm.proofs.Bytes.{put_other}
use Rattle.ec_asm.proofs.Hoare.{has_parts, block_goes, goes_on_to}
use Rattle.ec_select_startup.specs.declared.spans.Filling.{Filling}
use Rattle.ec_select_startup.specs.declared.spans.Filling.TheVariants.{Copied, Cleared}
use Rattle.ec_select_startup.specs.declared.spans.Span.{Span}
use Rattle.ec_select_startup.specs.Startup.{stack_code, byte_words, bytes_a_turn, most_stores, span_code}
use Rattle.ec_select_startup.specs.Startup.{is_cleared, spans_code, main_code}
use Rattle.ec_select_startup.specs.Laws.{source, target, CanBeSet, IsBeside, IsNoneOf, HasStack, IsSet, span_accesses}
use Rattle.ec_select_startup.specs.Laws.{all_accesses, count_steps, turns_steps, bytes_steps, source_steps, span_steps}
use Rattle.ec_select_startup.specs.Laws.{spans_steps, StartupIsRight}
use Rattle.ec_select_startup.proofs.Bytes.{IsClear, clear_behind, outside_ne, noted-append}
use Rattle.ec_select_startup.proofs.OneSpan.{span_sets, address_is}

-- a run that has set the bytes of all spans
record SetsAll (e : Env) (clear : Bool) (spans : List Span) (pc : ℕ) (v : View) (end : ℕ) : Type 0 where
  last : View
  goes : Goes e (spans_steps clear spans) pc v end last
  are_set : All (IsSet e last) spans
  same : (a : ℕ) → a ≢ 0 → Outside 24 4 a → Outside 30 2 a → All (IsNoneOf e a) spans → last.at a ≡ v.at a
  inputs : last.inputs ≡ v.inputs
  safe : last.safe ≡ v.safe
  seen : last.seen ≡ v.seen ++ noted_all e (all_accesses e spans)

steps-cons : (s : Span) (ss : List Span)
    → sum_by (λ s. 6 + 4 * s.bytes) (s ∷ ss) ≡ 6 + 4 * s.bytes + sum_by (λ s. 6 + 4 * s.bytes) ss
steps-cons s ss = sum_by-drop_more (λ (s : Span). 6 + 4 * s.bytes) (s ∷ ss) 0 s (omega arith)

count_most : (small : Bool) → count_steps small ≤ 2
count_most true = omega arith
count_most false = omega arith

-- q turns of t bytes and r more are n bytes
loop_most : (filling : Filling) (c t q r n : ℕ) → c ≤ 2 → t * q + r ≡ n → q ≤ n
    → c + (byte_words filling * t + 2) * q + byte_words filling * r ≤ 2 + 4 * n
loop_most Copied c t q r n few sum l = omega (arith, few, sum, l)
loop_most Cleared c t q r n few sum l = omega (arith, few, sum, l)

turns_most : (filling : Filling) (n : ℕ) → turns_steps (byte_words filling) (bytes_a_turn filling n) n ≤ 2 + 4 * n
turns_most filling n =
    let t = bytes_a_turn filling n in
    loop_most filling (count_steps (nat_le (n / t) 255)) t (n / t) (n % t) n (count_most (nat_le (n / t) 255)) (div-add-mod n t)
    (div-le_self n t)

row_most : (filling : Filling) (n : ℕ) → byte_words filling * n ≤ 2 + 4 * n
row_most Copied n = omega arith
row_most Cleared n = omega arith

bytes_most : (filling : Filling) (few : Bool) (n : ℕ) → bytes_steps filling few n ≤ 4 + 4 * n
bytes_most filling true n = let r = row_most filling n in omega (arith, r)
bytes_most filling false n = let r = turns_most filling n in omega (arith, r)

source_most : (clear : Bool) (filling : Filling) → source_steps clear filling ≤ 2
source_most clear Copied = omega arith
source_most true Cleared = omega arith
source_most false Cleared = omega arith

spans_most : (clear : Bool) (spans : List Span) → spans_steps clear spans ≤ sum_by (λ s. 6 + 4 * s.bytes) spans
spans_most clear [] = omega arith
spans_most clear (s ∷ ss) =
    let a = bytes_most s.filling (nat_le s.bytes (most_stores s.filling)) s.bytes in
    let b = source_most clear s.filling in
    let c = spans_most (is_cleared s.filling) ss in
    omega (arith, a, b, c, steps-cons s ss)

spans_set : (e : Env) (clear : Bool) (spans : List Span) (v : View) (pc end : ℕ) → IsClear clear v → All (CanBeSet e) spans
    → AllPairs (IsBeside e) spans → HasAt e (spans_code clear spans) pc end → SetsAll e clear spans pc v end
spans_set e clear [] v pc end known can apart at = record {
  last = v;
  goes = record { by = ap (λ n. Running n v) (sym at) };
  are_set = All-nil (IsSet e v);
  same = λ a n0 o24 o30 o. refl;
  inputs = refl;
  safe = refl;
  seen = sym (append-nil v.seen);
}
spans_set e clear (s ∷ ss) v pc end known can apart at =
    let more = is_cleared s.filling in
    let parts = has_parts e (span_code clear s) (spans_code more ss) pc end at in
    let mine = All-head (CanBeSet e) s ss can in
    let first = span_sets e s mine clear v pc parts.0 known parts.1 in
    let v1 = first.last in
    let m = first.holds in
    let beside : All (IsBeside e s) ss = λ j d l. apart 0 (suc j) d (omega arith) (omega arith) in
    let rest = spans_set e more ss v1 parts.0 end (clear_behind (source e s) s.filling s.bytes v1 m.ready)
    (All-tail (CanBeSet e) s ss can)
    (λ i j d l h. apart (suc i) (suc j) d (omega arith) (omega arith)) parts.2 in
    let above = mine.above in
    let kept = λ (k : ℕ) (l : k < s.bytes). rest.same (target e s + k) (omega arith) (λ h. omega arith) (λ h. omega arith)
    (λ j d less. beside j d less k l) in
    record {
      last = rest.last;
      goes = goes_on_to e (span_steps clear s) (spans_steps more ss) pc parts.0 end v v1 rest.last first.goes rest.goes;
      are_set = All-cons (IsSet e rest.last) s ss (λ k l. kept k l ∙ m.here k l) rest.are_set;
      same = λ a n0 o24 o30 o.
          rest.same a n0 o24 o30 (All-tail (IsNoneOf e a) s ss o) ∙ m.same a n0 o24 o30 (All-head (IsNoneOf e a) s ss o);
      inputs = rest.inputs ∙ m.inputs;
      safe = rest.safe ∙ m.safe;
      seen = rest.seen
          ∙ ap (λ l. l ++ noted_all e (all_accesses e ss)) m.seen
          ∙ append_assoc v.seen _ _
          ∙ ap (λ l. v.seen ++ l) (sym (noted-append e (span_accesses e s) (all_accesses e ss)));
    }

-- the stack pointer is set, through R25:R24
record Pointed (e : Env) (v w : View) : Type 0 where
  pointer : sp w ≡ e.address_of 1281 0
  same : (a : ℕ) → Outside 24 4 a → Outside 0x5D 2 a → w.at a ≡ v.at a
  inputs : w.inputs ≡ v.inputs
  safe : w.safe ≡ v.safe
  seen : w.seen ≡ v.seen

stack_set : (e : Env) (v : View) → HasStack e → Pointed e v (block e stack_code v)
stack_set e v st =
    let n = e.address_of 1281 0 in
    let low = part_of n 0 in
    let high = part_of n 1 in
    let g1 = put v.at 24 low in
    let g2 = put g1 25 high in
    let g3 = put g2 0x5E high in
    rw (st.high, st.low) (record {
      pointer = address_is n st.room;
      same = λ a o24 o5d.
          put_other g3 0x5D low a (outside_ne 0x5D 2 a 0x5D o5d (omega arith) (omega arith))
          ∙ put_other g2 0x5E high a (outside_ne 0x5D 2 a 0x5E o5d (omega arith) (omega arith))
          ∙ put_other g1 25 high a (outside_ne 24 4 a 25 o24 (omega arith) (omega arith))
          ∙ put_other v.at 24 low a (outside_ne 24 4 a 24 o24 (omega arith) (omega arith));
      inputs = refl;
      safe = refl;
      seen = refl;
    })

none_below : (e : Env) (spans : List Span) (a : ℕ) → a < 256 → All (CanBeSet e) spans → All (IsNoneOf e a) spans
none_below e spans a l can k d less = let above = (can k d less).above in λ h. omega arith

pub startup_is_right : StartupIsRight
startup_is_right e spans main pc end v st can apart at =
    let finish = main_code main in
    let parts = has_parts e stack_code (spans_code false spans ++ finish) pc end at in
    let more = has_parts e (spans_code false spans) finish parts.0 end parts.2 in
    let v1 = block e stack_code v in
    let p = stack_set e v st in
    let g = block_goes e stack_code pc parts.0 v refl parts.1 in
    let r = spans_set e false spans v1 parts.0 more.0 tt can apart more.1 in
    let w = r.last in
    let tail = more.2 in
    let ends = tail.2 in
    let kept = λ (a : ℕ) (l : a < 256) (n0 : a ≢ 0) (o24 : Outside 24 4 a) (o30 : Outside 30 2 a).
    r.same a n0 o24 o30 (none_below e spans a l can) in
    let low : w.at 0x5D ≡ v1.at 0x5D = kept 0x5D (omega arith) (omega arith) (λ h. omega arith) (λ h. omega arith) in
    let high : w.at 0x5E ≡ v1.at 0x5E = kept 0x5E (omega arith) (omega arith) (λ h. omega arith) (λ h. omega arith) in
    let pointer : sp w ≡ e.address_of 1281 0 = ap (λ x. x + 256 * w.at 0x5E) low ∙ ap (λ x. v1.at 0x5D + 256 * x) high ∙ p.pointer in
    let most = spans_most false spans in
    record {
      at_most = omega (arith, most);
      call = more.0;
      last = w;
      goes = goes_on_to e 4 (spans_steps false spans) pc parts.0 more.0 v v1 w g r.goes;
      pointer = pointer;
      are_set = r.are_set;
      same = λ a n0 o24 o30 o5d o. r.same a n0 o24 o30 o ∙ p.same a o24 o5d;
      inputs = r.inputs ∙ p.inputs;
      safe = r.safe ∙ p.safe;
      seen = r.seen ∙ ap (λ l. l ++ noted_all e (all_accesses e spans)) p.seen;
      back = tail.0;
      calls = tail.1;
      ends = ends.1.is;
    }
