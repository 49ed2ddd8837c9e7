-- Sums and differences that are stopped at the ends of their range.
use Rattle.std.proofs.Common.{◌≡◌, ◌≢◌, ℕ, suc, ◌+◌, ◌-◌, ◌*◌, ◌%◌, ◌^◌, ◌<◌, ◌≤◌, inl, inr, ⊎_elim, Bool, true, false}
use Rattle.std.proofs.Common.{Some, refl, sym, ap, ◌∙◌, subst, arith, ℤ, pos, negsuc, neg_ℤ}
use Rattle.std.proofs.lemmas.Bool.{cases_eq, cases_lt}
use Rattle.std.proofs.lemmas.Int.{ints}
use Rattle.std.proofs.lemmas.Nat.{mul-le}
use native.Mathlib.Nat.{pow-suc}
use Rattle.ec_isa.specs.declared.instructions.Instr.TheVariants.{Brbc}
use Rattle.ec_fx.specs.declared.formats.Format.{Format}
use Rattle.ec_fx.specs.declared.numbers.Fx.TheVariants.{Got}
use Rattle.ec_fx.specs.declared.numbers.Mode.{Mode}
use Rattle.ec_fx.specs.Results.{fit}
use Rattle.ec_asm.specs.declared.items.AsmItem.TheVariants.{Plain}
use Rattle.ec_asm.specs.declared.pieces.Location.{Location}
use Rattle.ec_asm.specs.declared.pieces.Location.TheVariants.{InRegisters, InMemory}
use Rattle.ec_asm.specs.declared.pieces.Operator.TheVariants.{Sum, Difference}
use Rattle.ec_asm.specs.View.{View}
use Rattle.ec_asm.specs.Change.{Env, Own, flag_at}
use Rattle.ec_asm.specs.Run.{Running, act, is_flag}
use Rattle.ec_asm.specs.Items.{HasAt, block, code_steps}
use Rattle.ec_asm.specs.Pieces.{StandsFrom, Outside, Keeps, value, operate_code}
use Rattle.ec_asm.specs.PieceLaws.{HoldsNumbers, IsReadFirst}
use Rattle.ec_asm.specs.Takes.{Goes}
use Rattle.ec_asm.proofs.Hoare.{has_parts, block_goes, goes_on_to}
use Rattle.ec_asm.proofs.ItemWords.{straight_room, words_cons}
use Rattle.ec_asm.proofs.Numbers.{pow_pos, value_below}
use Rattle.ec_asm.proofs.Results.{pieces_are_straight, pieces_take, sums_are_right, differences_are_right}
use Rattle.ec_fxcode.specs.ClampLaws.{HoldsResult, IsClearOfEnds}
use Rattle.ec_fxcode.proofs.Clamped.{bits_power, half_power, two_halves, some_half}
use Rattle.ec_fxcode.proofs.Fits.{signed_holds, unsigned_inside}
use Rattle.ec_fxcode_shifts.specs.ShiftLaws.{number_in}
use Rattle.ec_fxcode_limits.specs.Limits.{past_flag, end_code, end_words, limit_code, operator_of}
use Rattle.ec_fxcode_limits.specs.Limits.{fill_words, top_words, byte_words}
use Rattle.ec_fxcode_limits.specs.LimitLaws.{added, LimitedSumsAreRight, LimitsHave}
use Rattle.ec_fxcode_limits.proofs.Numbers.{ComesOut, sum_out, plain_sum_out, difference_out, plain_difference_out}
use Rattle.ec_fxcode_limits.proofs.Flags.{sum_is, difference_is}
use Rattle.ec_fxcode_limits.proofs.Ends.{each_end, end_straight, end_has, end_takes, end_far, fill_of, top_of, Ends, ends, signed_top}
use Rattle.ec_fxcode_limits.proofs.Ends.{signed_bottom, plain_top, plain_bottom}

-- ---- a number as a value of a format

pub bits_of : (f : Format) (n : ℕ) → f.bits ≡ 8 * suc n → 2 ^ (f.bits - 1) ≡ 128 * 256 ^ n
bits_of f n e = rw e (half_power n)

pub signed_inside : (f : Format) (mode : Mode) (n s : ℕ) → f.signed ≡ true → f.bits ≡ 8 * suc n → s < 256 ^ suc n
    → HoldsResult (suc n) (fit f mode (number_in true (suc n) s)) s
signed_inside f mode n s is e l =
    let h = 128 * 256 ^ n in
    let two = two_halves n in
    signed_holds f mode (suc n) (suc n) s s h is (bits_of f n e) (some_half n) two l (record {
      plain = λ a b. refl;
      above = λ sat a b. absurd (omega (arith, a, b, two));
      minus = λ a b. omega (arith, two);
      below = λ sat a b. absurd (omega (arith, a, b, two));
    })

pub above : (f : Format) (mode : Mode) (x h : ℕ) → mode.saturate ≡ true → f.signed ≡ true → 2 ^ (f.bits - 1) ≡ h → 1 ≤ h → h ≤ x
    → fit f mode (pos x) ≡ Got (record { format = f; n = pos (h - 1) })
above f mode x h sat s p o l = rw (s, p, sat) (grind (arith, ints))

below : (f : Format) (mode : Mode) (x h : ℕ) → mode.saturate ≡ true → f.signed ≡ true → 2 ^ (f.bits - 1) ≡ h → 1 ≤ h → h ≤ x
    → fit f mode (negsuc x) ≡ Got (record { format = f; n = negsuc (h - 1) })
below f mode x h sat s p o l =
    let e : neg_ℤ (pos h) ≡ negsuc (h - 1) = omega (arith, ints) in
    rw (s, p, e, sat) (grind (arith, ints))

plain_above : (f : Format) (mode : Mode) (x m : ℕ) → mode.saturate ≡ true → f.signed ≡ false → 2 ^ f.bits ≡ m → 1 ≤ m → m ≤ x
    → fit f mode (pos x) ≡ Got (record { format = f; n = pos (m - 1) })
plain_above f mode x m sat s p o l = rw (s, p, sat) (grind (arith, ints))

plain_below : (f : Format) (mode : Mode) (x : ℕ) → mode.saturate ≡ true → f.signed ≡ false
    → fit f mode (negsuc x) ≡ Got (record { format = f; n = pos 0 })
plain_below f mode x sat s = rw (s, sat) refl

-- ---- what the bytes are, by what comes out

-- where it is in range they stay, and else the end of the range was put there, by the carry
pub record Stops (minus signed : Bool) (n s carry flag : ℕ) (f : Format) (mode : Mode) (t : ℤ) : Type 0 where
  pub stays : flag ≡ 0 → HoldsResult (suc n) (fit f mode t) s
  pub stops : flag ≢ 0 → (byte : ℕ) × (flag ≡ 1) × (fill_of minus signed carry ≡ byte) × (byte < 256) × (top_of signed byte < 256)
      × ((v w : View) (b : ℕ) → Ends v w b n byte (top_of signed byte) → HoldsResult (suc n) (fit f mode t) (value w.at b (suc n)))

module _ (f : Format) (mode : Mode) (n : ℕ) (sat : mode.saturate ≡ true) (e : f.bits ≡ 8 * suc n) where
  signed_above : f.signed ≡ true → (size : ℕ) → 128 * 256 ^ n ≤ size → (v w : View) (b : ℕ) → Ends v w b n 255 (top_of true 255)
      → HoldsResult (suc n) (fit f mode (pos size)) (value w.at b (suc n))
  signed_above is size more v w b h =
      let some = some_half n in
      let q = signed_top v w b n (top_of true 255) h refl in
      rw (above f mode size (128 * 256 ^ n) sat is (bits_of f n e) some more) (omega (arith, q, some))

  signed_below : f.signed ≡ true → (size : ℕ) → 128 * 256 ^ n ≤ size → (v w : View) (b : ℕ) → Ends v w b n 0 (top_of true 0)
      → HoldsResult (suc n) (fit f mode (negsuc size)) (value w.at b (suc n))
  signed_below is size more v w b h =
      let some = some_half n in
      let two = two_halves n in
      let q = signed_bottom v w b n (top_of true 0) h refl in
      rw (below f mode size (128 * 256 ^ n) sat is (bits_of f n e) some more) (omega (arith, q, some, two))

  plain_bits : 2 ^ f.bits ≡ 256 ^ n * 256
  plain_bits = ap (λ k. 2 ^ k) e ∙ bits_power (suc n) ∙ pow-suc 256 n

  over : f.signed ≡ false → (size : ℕ) → 256 ^ n * 256 ≤ size → (v w : View) (b : ℕ) → Ends v w b n 255 255
      → HoldsResult (suc n) (fit f mode (pos size)) (value w.at b (suc n))
  over is size more v w b h =
      let some = pow_pos n in
      let q = plain_top v w b n h in
      rw (plain_above f mode size (256 ^ n * 256) sat is plain_bits (omega arith) more) (omega (arith, q, some))

  under : f.signed ≡ false → (size : ℕ) → (v w : View) (b : ℕ) → Ends v w b n 0 0
      → HoldsResult (suc n) (fit f mode (negsuc size)) (value w.at b (suc n))
  under is size v w b h = rw (plain_below f mode size sat is) (plain_bottom v w b n h)

  -- in two's complement
  signed_stops : (minus : Bool) (s carry flag up down : ℕ) (t : ℤ) → f.signed ≡ true → s < 256 ^ suc n
      → fill_of minus true up ≡ 255 → fill_of minus true down ≡ 0
      → ComesOut flag carry up down (128 * 256 ^ n) (128 * 256 ^ n) (number_in true (suc n) s) t
      → Stops minus true n s carry flag f mode t
  signed_stops minus s carry flag up down t is l high low (inl o) = record {
    stays = λ q. subst (λ z. HoldsResult (suc n) (fit f mode z) s) (sym o.is) (signed_inside f mode n s is e l);
    stops = λ q. absurd (q o.clear);
  }
  signed_stops minus s carry flag up down t is l high low (inr (inl o)) = record {
    stays = λ q. (let m = o.marked in absurd (omega (arith, q, m)));
    stops = λ q. (
      255,
      o.marked,
      ap (fill_of minus true) o.carried ∙ high,
      omega arith,
      omega arith,
      λ v w b h. subst (λ z. HoldsResult (suc n) (fit f mode z) (value w.at b (suc n))) (sym o.is) (signed_above is o.size o.more v w b h),
    );
  }
  signed_stops minus s carry flag up down t is l high low (inr (inr o)) = record {
    stays = λ q. (let m = o.marked in absurd (omega (arith, q, m)));
    stops = λ q. (
      0,
      o.marked,
      ap (fill_of minus true) o.carried ∙ low,
      omega arith,
      omega arith,
      λ v w b h. subst (λ z. HoldsResult (suc n) (fit f mode z) (value w.at b (suc n))) (sym o.is) (signed_below is o.size o.more v w b h),
    );
  }

  plain_stays : (s : ℕ) (t : ℤ) → f.signed ≡ false → s < 256 ^ n * 256 → t ≡ pos s → HoldsResult (suc n) (fit f mode t) s
  plain_stays s t is l q =
      subst (λ z. HoldsResult (suc n) (fit f mode z) s) (sym q) (rw (unsigned_inside f mode s (256 ^ n * 256) is plain_bits l) refl)

  -- without a sign
  plain_sum_stops : (s carry : ℕ) (t : ℤ) → f.signed ≡ false → s < 256 ^ n * 256
      → ComesOut carry carry 1 0 (256 ^ n * 256) 0 (pos s) t → Stops false false n s carry carry f mode t
  plain_sum_stops s carry t is l (inl o) =
      record { stays = λ q. plain_stays s t is l o.is; stops = λ q. absurd (q o.clear) }
  plain_sum_stops s carry t is l (inr (inl o)) = record {
    stays = λ q. (let m = o.marked in absurd (omega (arith, q, m)));
    stops = λ q. (
      255,
      o.marked,
      refl,
      omega arith,
      omega arith,
      λ v w b h. subst (λ z. HoldsResult (suc n) (fit f mode z) (value w.at b (suc n))) (sym o.is) (over is o.size o.more v w b h),
    );
  }
  plain_sum_stops s carry t is l (inr (inr o)) = let a = o.marked in let b = o.carried in absurd (omega (arith, a, b))

  plain_difference_stops : (s carry : ℕ) (t : ℤ) → f.signed ≡ false → s < 256 ^ n * 256
      → ComesOut carry carry 2 1 (256 ^ n * 256) 0 (pos s) t → Stops true false n s carry carry f mode t
  plain_difference_stops s carry t is l (inl o) =
      record { stays = λ q. plain_stays s t is l o.is; stops = λ q. absurd (q o.clear) }
  plain_difference_stops s carry t is l (inr (inl o)) = let a = o.marked in let b = o.carried in absurd (omega (arith, a, b))
  plain_difference_stops s carry t is l (inr (inr o)) = record {
    stays = λ q. (let m = o.marked in absurd (omega (arith, q, m)));
    stops = λ q. (
      0,
      o.marked,
      refl,
      omega arith,
      omega arith,
      λ v w b h. subst (λ z. HoldsResult (suc n) (fit f mode z) (value w.at b (suc n))) (sym o.is) (under is o.size v w b h),
    );
  }

-- ---- the branch over the end of the range

flag_known : (signed : Bool) → is_flag (past_flag signed) ≡ true
flag_known true = refl
flag_known false = refl

-- a run that leaves a result in suc n bytes from b, behind a view w
pub record Leaves (e : Env) (most pc : ℕ) (w : View) (end b n : ℕ) (Holds : ℕ → Type 0) : Type 0 where
  pub steps : ℕ
  pub at_most : steps ≤ most
  pub last : View
  pub goes : Goes e steps pc w end last
  pub holds : Holds (value last.at b (suc n))
  pub numbers : HoldsNumbers last
  pub same : (k : ℕ) → k ≢ 0 → k ≢ 1 → k ≢ 31 → Outside b (suc n) k → last.at k ≡ w.at k
  pub inputs : last.inputs ≡ w.inputs
  pub safe : last.safe ≡ w.safe
  pub seen : last.seen ≡ w.seen

ends_held : (v w : View) (b n byte top : ℕ) → HoldsNumbers v → byte < 256 → top < 256 → Ends v w b n byte top → HoldsNumbers w
ends_held v w b n byte top held l t h k two =
    ⊎_elim
    (λ (q : k ≡ 31). rw q (⊎_elim (λ (x : w.at 31 ≡ top). omega (arith, x, t))
    (λ (x : w.at 31 ≡ v.at 31). let m = held 31 (omega arith) in omega (arith, x, m)) h.work))
    (λ (q : k ≢ 31).
    ⊎_elim (λ (x : k < b). rw (h.same k (omega arith) (omega arith) q (λ y. absurd (omega arith))) (held k two))
    (λ (x : b ≤ k).
    ⊎_elim
    (λ (y : k < b + n). let z : b + (k - b) ≡ k = omega arith in
    subst (λ (i : ℕ). w.at i < 256) z (rw (h.low (k - b) (omega arith)) l))
    (λ (y : b + n ≤ k).
    ⊎_elim (λ (z : k ≡ b + n). rw (z, h.high) t)
    (λ (z : k ≢ b + n). rw (h.same k (omega arith) (omega arith) q (λ m. omega arith)) (held k two)) (cases_eq k (b + n)))
    (cases_lt k (b + n)))
    (cases_lt k b))
    (cases_eq k 31)

pub stopped : (e : Env) (minus signed : Bool) (q : Location) (n b pc end : ℕ) (w : View) (f : Format) (mode : Mode) (t : ℤ)
    → StandsFrom e q (suc n) b Own → IsClearOfEnds b (suc n) → HoldsNumbers w → w.flags.c ≤ 1
    → Stops minus signed n (value w.at b (suc n)) w.flags.c (flag_at w.flags (past_flag signed)) f mode t
    → HasAt e (limit_code minus signed q n) pc end
    → Leaves e (5 + n) pc w end b n (HoldsResult (suc n) (fit f mode t))
stopped e minus signed q n b pc end w f mode t s clear held bit h stands =
    let words = end_words minus signed q n in
    let flag = past_flag signed in
    let mid = stands.0 in
    let over = stands.1 in
    let code = stands.2 in
    let known = flag_known signed in
    let a1 = over.ends in
    let a2 = over.room in
    let size = end_has minus signed q n in
    let straight = end_straight minus signed q n in
    let stood = straight_room e (end_code minus signed q n) mid end straight (end_far e minus signed q n b s) code in
    let there = stood.0 in
    let room = stood.1 a2 in
    ⊎_elim
    (λ (clear_flag : flag_at w.flags flag ≡ 0).
    let to : (pc + 1 + words) % 65536 ≡ end = omega (arith, a1, there, size, room) in
    let by : act e (Some (Brbc flag (pos words))) pc w ≡ Running ((pc + 1 + words) % 65536) w = rw (known, clear_flag) refl in
    record {
      steps = 1;
      at_most = omega arith;
      last = w;
      goes = record { by = ap (λ o. act e o pc w) over.is ∙ by ∙ ap (λ k. Running k w) to };
      holds = h.stays clear_flag;
      numbers = held;
      same = λ k x y z o. refl;
      inputs = refl;
      safe = refl;
      seen = refl;
    })
    (λ (past : flag_at w.flags flag ≢ 0).
    let p = h.stops past in
    let byte = p.0 in
    let to : (pc + 1) % 65536 ≡ mid = omega (arith, a1, a2) in
    let by : act e (Some (Brbc flag (pos words))) pc w ≡ Running ((pc + 1) % 65536) w = rw (known, p.1) refl in
    let first : Goes e 1 pc w mid w = record { by = ap (λ o. act e o pc w) over.is ∙ by ∙ ap (λ k. Running k w) to } in
    let last = block e (end_code minus signed q n) w in
    let second = block_goes e (end_code minus signed q n) mid end w straight code in
    let x = ends e minus signed q n b byte w s clear bit p.2 in
    let few = end_takes minus signed q n in
    record {
      steps = 1 + code_steps (end_code minus signed q n);
      at_most = omega (arith, few);
      last = last;
      goes = goes_on_to e 1 (code_steps (end_code minus signed q n)) pc mid end w w last first second;
      holds = p.5 w last b x;
      numbers = ends_held w last b n byte (top_of signed byte) held p.3 p.4 x;
      same = x.same;
      inputs = x.inputs;
      safe = x.safe;
      seen = x.seen;
    })
    (cases_eq (flag_at w.flags flag) 0)

-- ---- the whole code

module _ (f : Format) (mode : Mode) (n : ℕ) (sat : mode.saturate ≡ true) (e : f.bits ≡ 8 * suc n) where
  below_all : (w : View) (b : ℕ) → 2 ≤ b → HoldsNumbers w → value w.at b (suc n) < 256 ^ suc n
  below_all w b two held = value_below w.at b (suc n) (λ j l. held (b + j) (omega arith))

  -- what comes of a sum, and the carry
  added_stops : (env : Env) (minus signed : Bool) (c q : Location) (j o : ℕ) (v : View) → f.signed ≡ signed
      → StandsFrom env c (suc n) j Own → StandsFrom env q (suc n) o Own → IsReadFirst j o (suc n) → HoldsNumbers v
      → HoldsNumbers (block env (operate_code (operator_of minus) c q (suc n)) v)
      →
      let w = block env (operate_code (operator_of minus) c q (suc n)) v in
      Stops minus signed n (value w.at o (suc n)) w.flags.c (flag_at w.flags (past_flag signed)) f mode
      (added minus (number_in signed (suc n) (value v.at o (suc n))) (number_in signed (suc n) (value v.at j (suc n))))
      × (w.flags.c ≤ 1)
  added_stops env false true c q j o v is sc sq far held after =
      let w = block env (operate_code Sum c q (suc n)) v in
      let h = sum_is env c q n j o v sc sq far held in
      let l = below_all w o sq.clear after in
      let top = h.adds.top in
      let bit = h.adds.bit in
      let x = h.adds.first_byte in
      let y = h.adds.second_byte in
      let out = sum_out (256 ^ n) (value v.at o n) (value v.at j n) (value w.at o n) (v.at (o + n)) (v.at (j + n)) (w.at (o + n)) h.carry
      w.flags.c w.flags.v h.adds in (
        signed_stops f mode n sat e false (value w.at o (suc n)) w.flags.c w.flags.v 0 1
            (added false (number_in true (suc n) (value v.at o (suc n))) (number_in true (suc n) (value v.at j (suc n)))) is l refl refl
            (rw (pow-suc 256 n) out),
        omega (arith, top, bit, x, y),
      )
  added_stops env true true c q j o v is sc sq far held after =
      let w = block env (operate_code Difference c q (suc n)) v in
      let h = difference_is env c q n j o v sc sq far held in
      let l = below_all w o sq.clear after in
      let top = h.takes.top in
      let bit = h.takes.bit in
      let x = h.takes.byte in
      let y = h.takes.second_byte in
      let out = difference_out (256 ^ n) (value v.at o n) (value v.at j n) (value w.at o n) (v.at (o + n)) (v.at (j + n)) (w.at (o + n))
      h.borrow w.flags.c w.flags.v h.takes in (
        signed_stops f mode n sat e true (value w.at o (suc n)) w.flags.c w.flags.v 1 0
            (added true (number_in true (suc n) (value v.at o (suc n))) (number_in true (suc n) (value v.at j (suc n)))) is l refl refl
            (rw (pow-suc 256 n) out),
        omega (arith, top, bit, x, y),
      )
  added_stops env false false c q j o v is sc sq far held after =
      let w = block env (operate_code Sum c q (suc n)) v in
      let h = sum_is env c q n j o v sc sq far held in
      let l = below_all w o sq.clear after in
      let top = h.adds.top in
      let bit = h.adds.bit in
      let x = h.adds.first_byte in
      let y = h.adds.second_byte in
      let out = plain_sum_out (256 ^ n) (value v.at o n) (value v.at j n) (value w.at o n) (v.at (o + n)) (v.at (j + n)) (w.at (o + n))
      h.carry w.flags.c w.flags.v h.adds in (
        plain_sum_stops f mode n sat e (value w.at o (suc n)) w.flags.c
            (added false (number_in false (suc n) (value v.at o (suc n))) (number_in false (suc n) (value v.at j (suc n)))) is
            (subst (λ (k : ℕ). value w.at o (suc n) < k) (pow-suc 256 n) l) out,
        omega (arith, top, bit, x, y),
      )
  added_stops env true false c q j o v is sc sq far held after =
      let w = block env (operate_code Difference c q (suc n)) v in
      let h = difference_is env c q n j o v sc sq far held in
      let l = below_all w o sq.clear after in
      let top = h.takes.top in
      let bit = h.takes.bit in
      let x = h.takes.byte in
      let y = h.takes.second_byte in
      let out = plain_difference_out (256 ^ n) (value v.at o n) (value v.at j n) (value w.at o n) (v.at (o + n)) (v.at (j + n))
      (w.at (o + n)) h.borrow w.flags.c w.flags.v h.takes in (
        plain_difference_stops f mode n sat e (value w.at o (suc n)) w.flags.c
            (added true (number_in false (suc n) (value v.at o (suc n))) (number_in false (suc n) (value v.at j (suc n)))) is
            (subst (λ (k : ℕ). value w.at o (suc n) < k) (pow-suc 256 n) l) out,
        omega (arith, top, bit, x, y),
      )

-- what the sum or the difference alone keeps
pub record Adds (v w : View) (o n : ℕ) : Type 0 where
  pub numbers : HoldsNumbers w
  pub keeps : Keeps v w o n

adds : (e : Env) (minus : Bool) (c q : Location) (n j o : ℕ) (v : View) → StandsFrom e c n j Own → StandsFrom e q n o Own
    → IsReadFirst j o n → HoldsNumbers v → Adds v (block e (operate_code (operator_of minus) c q n) v) o n
adds e false c q n j o v sc sq far held =
    let h = sums_are_right e c q n j o v sc sq far held in record { numbers = h.0.bytes; keeps = h.0.keeps }
adds e true c q n j o v sc sq far held =
    let h = differences_are_right e c q n j o v sc sq far held in record { numbers = h.0.bytes; keeps = h.0.keeps }

pub limited_sums_are_right : LimitedSumsAreRight
limited_sums_are_right minus f mode e c q n j o pc end v format bits sat sc sq far clear held stands =
    let first = operate_code (operator_of minus) c q (suc n) in
    let w = block e first v in
    let s = has_parts e first (limit_code minus f.signed q n) pc end stands in
    let one = adds e minus c q (suc n) j o v sc sq far held in
    let out = added_stops f mode n sat bits e minus f.signed c q j o v refl sc sq far held one.numbers in
    let t = added minus (number_in f.signed (suc n) (value v.at o (suc n))) (number_in f.signed (suc n) (value v.at j (suc n))) in
    let two = stopped e minus f.signed q n o s.0 end w f mode t sq clear one.numbers out.1 out.0 s.2 in
    let straight = (pieces_are_straight (operator_of minus) c q (suc n)).1 in
    let take = (pieces_take (operator_of minus) c q (suc n)).1.1 in
    let few = two.at_most in
    let go = block_goes e first pc s.0 v straight s.1 in
    record {
      steps = code_steps first + two.steps;
      at_most = omega (arith, take, few);
      last = two.last;
      goes = goes_on_to e (code_steps first) two.steps pc s.0 end v w two.last go two.goes;
      holds = two.holds;
      numbers = two.numbers;
      same = λ k a b x y out. two.same k a b y out ∙ one.keeps.same k a b out;
      inputs = two.inputs ∙ one.keeps.inputs;
      safe = two.safe ∙ one.keeps.safe;
      seen = two.seen ∙ one.keeps.seen;
    }

-- ---- words

fill_few : (minus signed : Bool) (q : Location) (n : ℕ) → end_words minus signed q n ≤ 5 + 2 * n
fill_few minus signed q n =
    let a : fill_words minus signed ≤ 2 = few minus signed in
    let b : top_words signed ≤ 1 = one signed in
    let c : byte_words q ≤ 2 = byte q in
    let d = mul-le (byte_words q) n 2 n c (omega arith) in
    each_end (λ code words. words ≤ 5 + 2 * n) minus signed q n (λ r is reach. omega (arith, a, b, c, d)) (omega (arith, a, b, c, d))
  where
    few : (minus signed : Bool) → fill_words minus signed ≤ 2
    few false true = omega arith
    few true true = omega arith
    few false false = omega arith
    few true false = omega arith

    one : (signed : Bool) → top_words signed ≤ 1
    one true = omega arith
    one false = omega arith

    byte : (q : Location) → byte_words q ≤ 2
    byte (InRegisters r) = omega arith
    byte (InMemory o k) = omega arith

pub limits_have : LimitsHave
limits_have minus signed q n =
    let code = end_code minus signed q n in
    let branch = Plain (Brbc (past_flag signed) (pos (end_words minus signed q n))) in
    let a = words_cons branch code in
    let b = end_has minus signed q n in
    let c = fill_few minus signed q n in
    omega (arith, a, b, c)
