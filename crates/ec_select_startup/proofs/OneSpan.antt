-- The code of one span.
use Rattle.std.proofs.Common.{◌≡◌, ◌≢◌, ℕ, ◌+◌, ◌*◌, ◌/◌, ◌%◌, ◌<◌, ◌≤◌, Bool, true, false, refl, sym, ap}
use Rattle.std.proofs.Common.{◌∙◌, subst, arith, append-nil, leb-true, leb-false}
use Rattle.std.specs.Prelude.{nat_le, bit_xor}
use Rattle.std.specs.Int.Bits.{xor_self}
use Rattle.ec_asm.specs.View.{View, put}
use Rattle.ec_asm.specs.Change.{Env}
use Rattle.ec_asm.specs.Items.{HasAt, all_straight, block, code_steps, code_words, part_of}
use Rattle.ec_asm.specs.Takes.{Goes}
use Rattle.ec_asm.proofs.Bytes.{put_other}
use Rattle.ec_asm.proofs.Hoare.{has_parts, block_goes, goes_on_to, chain_straight, steps-chain, chain_holds}
use Rattle.ec_asm.proofs.ItemWords.{all_far}
use Rattle.ec_select_startup.specs.declared.spans.Filling.{Filling}
use Rattle.ec_select_startup.specs.declared.spans.Filling.TheVariants.{Copied, Cleared}
use Rattle.ec_select_startup.specs.declared.spans.Span.{Span}
use Rattle.ec_select_startup.specs.Startup.{address_code, source_code, store_code, next_code, byte_words, bytes_a_turn}
use Rattle.ec_select_startup.specs.Startup.{turns_code, pointed_code, stores_code, most_stores, bytes_by, bytes_code, span_code}
use Rattle.ec_select_startup.specs.Laws.{source, target, CanBeSet, turns_steps, bytes_steps, source_steps, span_steps}
use Rattle.ec_select_startup.proofs.Bytes.{IsReady, IsClear, Filled, Pointed, store_fills, next_points}
use Rattle.ec_select_startup.proofs.Bytes.{next_low, next_high, outside_ne, pair_is}
use Rattle.ec_select_startup.proofs.PerTurn.{is_turn, divided}
use Rattle.ec_select_startup.proofs.Turns.{IsCounted, IsByte, Reaches, most_turns, turns_reach}

-- an address that is loaded in two parts
pub address_is : (n : ℕ) → n < 65536 → part_of n 0 + 256 * part_of n 1 ≡ n
address_is n l =
    let low : part_of n 0 ≡ n % 256 = ap (λ k. k % 256) (over_one n) in
    let high : part_of n 1 ≡ n / 256 = omega arith in
    rw (low, high) (pair_is n)
  where
    over_one : (n : ℕ) → n / 1 ≡ n
    over_one n = omega arith

-- ---- the code of a byte

next_straight : (filling : Filling) → all_straight (next_code filling) ≡ true
next_straight Copied = refl
next_straight Cleared = refl

next_far : (e : Env) (filling : Filling) → all_far e (next_code filling) ≡ true
next_far e Copied = refl
next_far e Cleared = refl

next_steps : (filling : Filling) → code_steps (next_code filling) ≡ byte_words filling
next_steps Copied = refl
next_steps Cleared = refl

next_words : (filling : Filling) → code_words (next_code filling) ≡ byte_words filling
next_words Copied = refl
next_words Cleared = refl

store_straight : (filling : Filling) (to k : ℕ) → all_straight (store_code filling to k) ≡ true
store_straight Copied to k = refl
store_straight Cleared to k = refl

store_steps : (filling : Filling) (to k : ℕ) → code_steps (store_code filling to k) ≡ byte_words filling
store_steps Copied to k = refl
store_steps Cleared to k = refl

source_straight : (clear : Bool) (filling : Filling) (from : ℕ) → all_straight (source_code clear filling from) ≡ true
source_straight clear Copied from = refl
source_straight true Cleared from = refl
source_straight false Cleared from = refl

source_has_steps : (clear : Bool) (filling : Filling) (from : ℕ)
    → code_steps (source_code clear filling from) ≡ source_steps clear filling
source_has_steps clear Copied from = refl
source_has_steps true Cleared from = refl
source_has_steps false Cleared from = refl

-- ---- before the bytes

record Begun (f : ℕ) (filling : Filling) (v w : View) : Type 0 where
  ready : IsReady f filling 0 w
  same : (a : ℕ) → a ≢ 0 → a ≢ 30 → a ≢ 31 → w.at a ≡ v.at a
  inputs : w.inputs ≡ v.inputs
  safe : w.safe ≡ v.safe
  seen : w.seen ≡ v.seen

begun : (e : Env) (from : ℕ) (clear : Bool) (filling : Filling) (v : View) → e.address_of from 0 < 65536 → IsClear clear v
    → Begun (e.address_of from 0) filling v (block e (source_code clear filling from) v)
begun e from clear Copied v l known =
    let f = e.address_of from 0 in
    let g = put v.at 30 (part_of f 0) in
    let none : f ≡ f + 0 = omega arith in
    record {
      ready = address_is f l ∙ none;
      same = λ a n0 n30 n31. put_other g 31 (part_of f 1) a n31 ∙ put_other v.at 30 (part_of f 0) a n30;
      inputs = refl;
      safe = refl;
      seen = refl;
    }
begun e from true Cleared v l known = record {
  ready = known;
  same = λ a n0 n30 n31. refl;
  inputs = refl;
  safe = refl;
  seen = refl;
}
begun e from false Cleared v l known = record {
  ready = xor_self (v.at 0);
  same = λ a n0 n30 n31. put_other v.at 0 (bit_xor (v.at 0) (v.at 0)) a n0;
  inputs = refl;
  safe = refl;
  seen = refl;
}

-- R25:R24 may change
counted_ready : (f : ℕ) (filling : Filling) (i : ℕ) (v w : View) → IsCounted v w → IsReady f filling i v → IsReady f filling i w
counted_ready f Copied i v w b p =
    ap (λ x. x + 256 * w.at 31) (b.same 30 (omega arith) (omega arith))
    ∙ ap (λ x. v.at 30 + 256 * x) (b.same 31 (omega arith) (omega arith))
    ∙ p
counted_ready f Cleared i v w b p = b.same 0 (omega arith) (omega arith) ∙ p

-- so may X
pointer_ready : (f : ℕ) (filling : Filling) (v : View) (x y : ℕ) → IsReady f filling 0 v
    → IsReady f filling 0 (record v { at = put (put v.at 26 x) 27 y })
pointer_ready f Copied v x y p = p
pointer_ready f Cleared v x y p = p

module _ (e : Env) (s : Span) (can : CanBeSet e s) where
  source_set : (clear : Bool) (v : View) → IsClear clear v → Filled e s 0 v (block e (source_code clear s.filling s.from) v)
  source_set clear v known =
      let room = can.source_room in
      let b = begun e s.from clear s.filling v (omega (arith, room)) known in
      record {
        ready = b.ready;
        here = λ k less. absurd (omega arith);
        same = λ a n0 o24 o30 o.
            b.same a n0 (outside_ne 30 2 a 30 o30 (omega arith) (omega arith)) (outside_ne 30 2 a 31 o30 (omega arith) (omega arith));
        inputs = b.inputs;
        safe = b.safe;
        seen = b.seen ∙ sym (append-nil v.seen);
      }

  counted : (i : ℕ) (v0 v w : View) → IsCounted v w → Pointed e s can i v0 v → Pointed e s can i v0 w
  counted i v0 v w b m =
      let h = m.filled in
      let above = can.above in
      record {
        filled = record {
          ready = counted_ready (source e s) s.filling i v w b h.ready;
          here = λ k less. b.same (target e s + k) (omega (arith, above)) (omega (arith, above)) ∙ h.here k less;
          same = λ a n0 o24 o30 o.
              b.same a (outside_ne 24 4 a 24 o24 (omega arith) (omega arith)) (outside_ne 24 4 a 25 o24 (omega arith) (omega arith))
              ∙ h.same a n0 o24 o30 o;
          inputs = b.inputs ∙ h.inputs;
          safe = b.safe ∙ h.safe;
          seen = b.seen ∙ h.seen;
        };
        x = ap (λ z. z + 256 * w.at 27) (b.same 26 (omega arith) (omega arith))
            ∙ ap (λ z. v.at 26 + 256 * z) (b.same 27 (omega arith) (omega arith))
            ∙ m.x;
      }

  -- a run of so many steps that has set all bytes
  abbrev pub Sets : (steps pc : ℕ) (v0 v : View) (end : ℕ) → Type 0
  Sets steps pc v0 v end = Reaches e (λ w. Filled e s s.bytes v0 w) steps pc v end

  -- ---- by their addresses

  stores_set : (v v1 : View) (pc end : ℕ) → Filled e s 0 v v1 → HasAt e (stores_code s.filling s.to s.bytes) pc end
      → Sets (byte_words s.filling * s.bytes) pc v v1 end
  stores_set v v1 pc end m at =
      let n = s.bytes in
      let body = store_code s.filling s.to in
      let code = stores_code s.filling s.to n in
      let sum : code_steps code ≡ byte_words s.filling * n =
      omega (arith, steps-chain body n (byte_words s.filling) (store_steps s.filling s.to)) in
      record {
        last = block e code v1;
        goes = subst (λ j. Goes e j pc v1 end (block e code v1)) sum
            (block_goes e code pc end v1 (chain_straight body n (store_straight s.filling s.to)) at);
        holds = chain_holds e body (λ i w. Filled e s i v w) n (λ i l w h. store_fills e s can i v w l h) v1 m;
      }

  -- ---- by X

  nexts : (v : View) → IsByte e (next_code s.filling) (byte_words s.filling) s.bytes (λ i w. Pointed e s can i v w)
  nexts v = record {
    straight = next_straight s.filling;
    far = next_far e s.filling;
    steps = next_steps s.filling;
    words = next_words s.filling;
    step = λ i w l m. next_points e s can i v w l m;
    low = λ i w l m. next_low e s can i v w l m;
    high = λ i w l m. next_high e s can i v w l m;
    beside = λ i w w' b m. counted i v w w' b m;
  }

  abbrev PointedSets : (steps pc : ℕ) (v0 v : View) (end : ℕ) → Type 0
  PointedSets steps pc v0 v end = Reaches e (λ w. Pointed e s can s.bytes v0 w) steps pc v end

  turns_set : (bytes : ℕ) (v v1 : View) (pc end : ℕ) → 1 ≤ s.bytes / bytes
      → bytes * (s.bytes / bytes) + s.bytes % bytes ≡ s.bytes → s.bytes / bytes ≤ 65535 → Pointed e s can 0 v v1
      → HasAt e (turns_code s.filling bytes s.bytes) pc end
      → PointedSets (turns_steps (byte_words s.filling) bytes s.bytes) pc v v1 end
  turns_set bytes v v1 pc end some sum most m at =
      let n = s.bytes in
      let P = λ (i : ℕ) (w : View). Pointed e s can i v w in
      turns_reach e (next_code s.filling) (byte_words s.filling) n P (nexts v) (nat_le (n / bytes) 255) bytes (n / bytes) (n % bytes)
      pc end v1 some sum (within (n / bytes) most) m at
    where
      by_size : (small : Bool) (turns : ℕ) → nat_le turns 255 ≡ small → turns ≤ 65535 → turns ≤ most_turns small
      by_size true turns q l = leb-true turns 255 q
      by_size false turns q l = l

      within : (turns : ℕ) → turns ≤ 65535 → turns ≤ most_turns (nat_le turns 255)
      within turns l = by_size (nat_le turns 255) turns refl l

  many_set : (v v1 : View) (pc end : ℕ) → most_stores s.filling ≤ s.bytes → Pointed e s can 0 v v1
      → HasAt e (turns_code s.filling (bytes_a_turn s.filling s.bytes) s.bytes) pc end
      → PointedSets (turns_steps (byte_words s.filling) (bytes_a_turn s.filling s.bytes) s.bytes) pc v v1 end
  many_set v v1 pc end l m at =
      let room = can.target_room in
      let t = is_turn s.filling s.bytes in
      let some = t.some in
      let below = t.below in
      let bytes = bytes_a_turn s.filling s.bytes in
      let d = divided s.bytes bytes (omega (arith, some)) (omega (arith, below, l)) in
      let most = d.2 in
      turns_set bytes v v1 pc end d.0 d.1 (omega (arith, most, room)) m at

  -- X is set
  pointer_set : (v v1 : View) → Filled e s 0 v v1 → Pointed e s can 0 v (block e (address_code 26 s.to) v1)
  pointer_set v v1 m =
      let t = target e s in
      let room = can.target_room in
      let g = put v1.at 26 (part_of t 0) in
      let none : t ≡ t + 0 = omega arith in
      record {
        filled = record {
          ready = pointer_ready (source e s) s.filling v1 (part_of t 0) (part_of t 1) m.ready;
          here = λ k less. absurd (omega arith);
          same = λ a n0 o24 o30 o.
              put_other g 27 (part_of t 1) a (outside_ne 24 4 a 27 o24 (omega arith) (omega arith))
              ∙ put_other v1.at 26 (part_of t 0) a (outside_ne 24 4 a 26 o24 (omega arith) (omega arith))
              ∙ m.same a n0 o24 o30 o;
          inputs = m.inputs;
          safe = m.safe;
          seen = m.seen;
        };
        x = address_is t (omega (arith, room)) ∙ none;
      }

  pointed_set : (v v1 : View) (pc end : ℕ) → most_stores s.filling ≤ s.bytes → Filled e s 0 v v1
      → HasAt e (pointed_code s.filling s.to s.bytes) pc end
      → Sets (2 + turns_steps (byte_words s.filling) (bytes_a_turn s.filling s.bytes) s.bytes) pc v v1 end
  pointed_set v v1 pc end l m at =
      let bytes = bytes_a_turn s.filling s.bytes in
      let parts = has_parts e (address_code 26 s.to) (turns_code s.filling bytes s.bytes) pc end at in
      let v2 = block e (address_code 26 s.to) v1 in
      let g = block_goes e (address_code 26 s.to) pc parts.0 v1 refl parts.1 in
      let r = many_set v v2 parts.0 end l (pointer_set v v1 m) parts.2 in
      record {
        last = r.last;
        goes = goes_on_to e 2 (turns_steps (byte_words s.filling) bytes s.bytes) pc parts.0 end v1 v2 r.last g r.goes;
        holds = r.holds.filled;
      }

  -- ---- the whole

  bytes_set : (few : Bool) → nat_le s.bytes (most_stores s.filling) ≡ few → (v v1 : View) (pc end : ℕ) → Filled e s 0 v v1
      → HasAt e (bytes_by s.filling few s.to s.bytes) pc end → Sets (bytes_steps s.filling few s.bytes) pc v v1 end
  bytes_set true q v v1 pc end m at = stores_set v v1 pc end m at
  bytes_set false q v v1 pc end m at =
      let l = leb-false s.bytes (most_stores s.filling) q in pointed_set v v1 pc end (omega (arith, l)) m at

  pub span_sets : (clear : Bool) (v : View) (pc end : ℕ) → IsClear clear v → HasAt e (span_code clear s) pc end
      → Sets (span_steps clear s) pc v v end
  span_sets clear v pc end known at =
      let code = source_code clear s.filling s.from in
      let few = nat_le s.bytes (most_stores s.filling) in
      let parts = has_parts e code (bytes_code s.filling s.to s.bytes) pc end at in
      let v1 = block e code v in
      let g = subst (λ j. Goes e j pc v parts.0 v1) (source_has_steps clear s.filling s.from)
      (block_goes e code pc parts.0 v (source_straight clear s.filling s.from) parts.1) in
      let r = bytes_set few refl v v1 parts.0 end (source_set clear v known) parts.2 in
      record {
        last = r.last;
        goes = goes_on_to e (source_steps clear s.filling) (bytes_steps s.filling few s.bytes) pc parts.0 end v v1 r.last g r.goes;
        holds = r.holds;
      }
