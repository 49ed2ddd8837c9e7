-- The whole code of a clamp.
use Rattle.std.proofs.Common.{◌≡◌, ◌≢◌, ℕ, zero, suc, ◌+◌, ◌-◌, ◌*◌, ◌^◌, ◌<◌, ◌≤◌, max, ◌⊎◌, inl, inr, ⊎_elim, Bool, true, false, ◌++◌}
use Rattle.std.proofs.Common.{append-nil, refl, sym, ap, ◌∙◌, subst, arith}
use Rattle.std.specs.Prelude.{◌&&◌}
use Rattle.std.proofs.lemmas.Bool.{cases_eq, cases_lt, cases_Bool, lt-ltb, le-ltb}
use Rattle.ec_fx.specs.declared.formats.Format.{Format}
use Rattle.ec_fx.specs.declared.numbers.Mode.{Mode}
use Rattle.ec_fx.specs.declared.numbers.Fx.{Fx}
use Rattle.ec_fx.specs.Formats.{step_of}
use Rattle.ec_fx.specs.Results.{fit}
use Rattle.ec_asm.specs.declared.pieces.Location.{Location}
use Rattle.ec_asm.specs.View.{View}
use Rattle.ec_asm.specs.Change.{Env, Own}
use Rattle.ec_asm.specs.Items.{block, HasAt, code_steps}
use Rattle.ec_asm.specs.Pieces.{StandsFrom, Outside, value}
use Rattle.ec_asm.specs.PieceLaws.{AreHeld, HoldsNumbers}
use Rattle.ec_asm.proofs.Hoare.{block-append, block_goes}
use Rattle.ec_asm.proofs.Numbers.{pow_pos, value_below}
use Rattle.ec_fxcode.specs.Clamps.{extended_code, saturate_code, may_pass, saturate_if, clamp_code}
use Rattle.ec_fxcode.specs.ClampLaws.{IsClearOfEnds, AreApart, signed_number, Clamps, ClampsAreRight, ClampsHave}
use Rattle.ec_fxcode.proofs.Alike.{fill}
use Rattle.ec_fxcode.proofs.Clamped.{Done, low_done, end_done, bits_power, half_power, two_halves, some_half, kept_number, fill_is_byte}
use Rattle.ec_fxcode.proofs.Clamped.{ended_is_byte, topped_is_byte, signed_end, unsigned_end, signed_low, unsigned_low}
use Rattle.ec_fxcode.proofs.Fits.{IsSignedEnd, IsUnsignedEnd, signed_holds, unsigned_holds}
use Rattle.ec_fxcode.proofs.Moves.{extends}
use Rattle.ec_fxcode.proofs.Outcomes.{saturates_signed, saturates_unsigned}
use Rattle.ec_fxcode.proofs.Short.{clamp_short}
use Rattle.ec_fxcode.proofs.Parts.{sign_is}

-- what is given
pub record Given (to : Format) (e : Env) (p q : Location) (n k a b : ℕ) (v : View) : Type 0 where
  pub bits : to.bits ≡ 8 * suc k
  pub from : StandsFrom e p (suc n) a Own
  pub into : StandsFrom e q (suc k) b Own
  pub apart : AreApart a (suc n) b (suc k)
  pub clear_from : IsClearOfEnds a (suc n)
  pub clear_into : IsClearOfEnds b (suc k)
  pub numbers : HoldsNumbers v

held_number : (v : View) (a n : ℕ) → 2 ≤ a → HoldsNumbers v → AreHeld v.at a n
held_number v a n two h j l = h (a + j) (omega arith)

signed_bits : (to : Format) (k : ℕ) → to.bits ≡ 8 * suc k → 2 ^ (to.bits - 1) ≡ 128 * 256 ^ k
signed_bits to k e = rw e (half_power k)

-- the low bytes alone are the answer
signed_stays : (to : Format) (mode : Mode) (e : Env) (p q : Location) (n k a b : ℕ) (v : View) → Given to e p q n k a b v
    → to.signed ≡ true → mode.saturate ≡ false ⊎ (suc n ≤ suc k)
    → Done v (block e (extended_code p q (suc n) (suc k)) v) b (suc k) (fit to mode (signed_number (suc n) (value v.at a (suc n))))
signed_stays to mode e p q n k a b v g is few =
    let held = held_number v a (suc n) g.from.clear g.numbers in
    let x = extends e p q n (suc k) a b v g.from g.into g.apart g.clear_from g.clear_into (held n (omega arith)) in
    let sign = sign_is v.at a n held in
    let v1 = block e (extended_code p q (suc n) (suc k)) v in
    low_done v v1 a b n (suc k) (fill (v.at (a + n))) (fit to mode (signed_number (suc n) (value v.at a (suc n))))
    (signed_holds to mode (suc n) (suc k) (value v.at a (suc n)) (value v1.at b (suc k)) (128 * 256 ^ k) is
    (signed_bits to k g.bits) (some_half k) (two_halves k) (value_below v.at a (suc n) held)
    (signed_low mode.saturate v v1 a b n k (fill (v.at (a + n))) few held sign x))
    g.numbers held (fill_is_byte (v.at (a + n)) (held n (omega arith))) x

unsigned_stays : (to : Format) (mode : Mode) (e : Env) (p q : Location) (n k a b : ℕ) (v : View) → Given to e p q n k a b v
    → to.signed ≡ false → mode.saturate ≡ false
    → Done v (block e (extended_code p q (suc n) (suc k)) v) b (suc k) (fit to mode (signed_number (suc n) (value v.at a (suc n))))
unsigned_stays to mode e p q n k a b v g is never =
    let held = held_number v a (suc n) g.from.clear g.numbers in
    let x = extends e p q n (suc k) a b v g.from g.into g.apart g.clear_from g.clear_into (held n (omega arith)) in
    let sign = sign_is v.at a n held in
    let v1 = block e (extended_code p q (suc n) (suc k)) v in
    let end = subst (λ s. IsUnsignedEnd s (256 ^ suc n) (256 ^ suc k) (value v.at a (suc n)) (value v1.at b (suc k))) (sym never)
    (unsigned_low v v1 a b n k (fill (v.at (a + n))) held sign x) in
    low_done v v1 a b n (suc k) (fill (v.at (a + n))) (fit to mode (signed_number (suc n) (value v.at a (suc n))))
    (unsigned_holds to mode (suc n) (suc k) (value v.at a (suc n)) (value v1.at b (suc k)) (256 ^ suc k) is
    (ap (λ t. 2 ^ t) g.bits ∙ bits_power (suc k)) (pow_pos (suc k)) (value_below v.at a (suc n) held) end)
    g.numbers held (fill_is_byte (v.at (a + n)) (held n (omega arith))) x

-- the code after them puts an end of the range where it has to
signed_saturates : (to : Format) (mode : Mode) (e : Env) (p q : Location) (n k a b : ℕ) (v : View) → Given to e p q n k a b v
    → to.signed ≡ true → mode.saturate ≡ true → suc k ≤ suc n
    → Done v (block e (saturate_code true p q (suc n) (suc k)) (block e (extended_code p q (suc n) (suc k)) v)) b (suc k)
    (fit to mode (signed_number (suc n) (value v.at a (suc n))))
signed_saturates to mode e p q n k a b v g is sat long =
    let held = held_number v a (suc n) g.from.clear g.numbers in
    let byte = fill (v.at (a + n)) in
    let l = fill_is_byte (v.at (a + n)) (held n (omega arith)) in
    let x = extends e p q n (suc k) a b v g.from g.into g.apart g.clear_from g.clear_into (held n (omega arith)) in
    let sign = sign_is v.at a n held in
    let v1 = block e (extended_code p q (suc n) (suc k)) v in
    let w = block e (saturate_code true p q (suc n) (suc k)) v1 in
    let kept = kept_number v v1 a (suc n) b (suc k) g.from.clear g.apart g.clear_from x.keeps in
    let held1 = λ (j : ℕ) (m : j < suc n). (let o : v1.at (a + j) < 256 = rw (kept j m) (held j m) in o) in
    let s = saturates_signed e p q (suc n) k a b byte v1 g.from g.into g.clear_from g.clear_into held1 long x.sign l in
    let end = subst (λ s. IsSignedEnd s (256 ^ suc n) (128 * 256 ^ k) (value v.at a (suc n)) (value w.at b (suc k))) (sym sat)
    (signed_end v v1 w a b n k byte long held l sign x kept s) in
    end_done v v1 w b k (a + suc k) (suc n - suc k) (fill (v1.at (a + k))) 0 byte _
    (fit to mode (signed_number (suc n) (value v.at a (suc n)))) topped_is_byte
    (signed_holds to mode (suc n) (suc k) (value v.at a (suc n)) (value w.at b (suc k)) (128 * 256 ^ k) is (signed_bits to k g.bits)
    (some_half k) (two_halves k) (value_below v.at a (suc n) held) end)
    x.keeps s

unsigned_saturates : (to : Format) (mode : Mode) (e : Env) (p q : Location) (n k a b : ℕ) (v : View) → Given to e p q n k a b v
    → to.signed ≡ false → mode.saturate ≡ true
    → Done v (block e (saturate_code false p q (suc n) (suc k)) (block e (extended_code p q (suc n) (suc k)) v)) b (suc k)
    (fit to mode (signed_number (suc n) (value v.at a (suc n))))
unsigned_saturates to mode e p q n k a b v g is sat =
    let held = held_number v a (suc n) g.from.clear g.numbers in
    let byte = fill (v.at (a + n)) in
    let l = fill_is_byte (v.at (a + n)) (held n (omega arith)) in
    let x = extends e p q n (suc k) a b v g.from g.into g.apart g.clear_from g.clear_into (held n (omega arith)) in
    let sign = sign_is v.at a n held in
    let v1 = block e (extended_code p q (suc n) (suc k)) v in
    let w = block e (saturate_code false p q (suc n) (suc k)) v1 in
    let kept = kept_number v v1 a (suc n) b (suc k) g.from.clear g.apart g.clear_from x.keeps in
    let held1 = λ (j : ℕ) (m : j < suc n). (let o : v1.at (a + j) < 256 = rw (kept j m) (held j m) in o) in
    let s = saturates_unsigned e p q (suc n) k a b byte v1 g.from g.into g.clear_from g.clear_into held1 x.sign l in
    let end = subst (λ s. IsUnsignedEnd s (256 ^ suc n) (256 ^ suc k) (value v.at a (suc n)) (value w.at b (suc k))) (sym sat)
    (unsigned_end v v1 w a b n k byte held l sign x kept s) in
    end_done v v1 w b k (a + suc k) (suc n - suc k) 0 byte byte _ (fit to mode (signed_number (suc n) (value v.at a (suc n)))) ended_is_byte
    (unsigned_holds to mode (suc n) (suc k) (value v.at a (suc n)) (value w.at b (suc k)) (256 ^ suc k) is
    (ap (λ t. 2 ^ t) g.bits ∙ bits_power (suc k)) (pow_pos (suc k)) (value_below v.at a (suc n) held) end)
    x.keeps s

-- ---- the four cases

test_of : (mode : Mode) (to : Format) (n k : ℕ) (s t : Bool) → mode.saturate ≡ s → to.signed ≡ t
    → (mode.saturate && may_pass to.signed n k) ≡ (s && may_pass t n k)
test_of mode to n k s t e f = rw (e, f) refl

code_of : (to : Format) (mode : Mode) (p q : Location) (n k : ℕ) (test t : Bool)
    → (mode.saturate && may_pass to.signed n k) ≡ test → to.signed ≡ t
    → clamp_code to mode p q n k ≡ extended_code p q n k ++ saturate_if test t p q n k
code_of to mode p q n k test t e f = ap (λ c. extended_code p q n k ++ c) (rw (e, f) refl)

low_code : (e : Env) (to : Format) (mode : Mode) (p q : Location) (n k b : ℕ) (v : View) (answer : Fx) (t : Bool)
    → (mode.saturate && may_pass to.signed n k) ≡ false → to.signed ≡ t → Done v (block e (extended_code p q n k) v) b k answer
    → Done v (block e (clamp_code to mode p q n k) v) b k answer
low_code e to mode p q n k b v answer t never is h =
    let c = code_of to mode p q n k false t never is ∙ append-nil (extended_code p q n k) in
    subst (λ code. Done v (block e code v) b k answer) (sym c) h

end_code : (e : Env) (to : Format) (mode : Mode) (p q : Location) (n k b : ℕ) (v : View) (answer : Fx) (t : Bool)
    → (mode.saturate && may_pass to.signed n k) ≡ true → to.signed ≡ t
    → Done v (block e (saturate_code t p q n k) (block e (extended_code p q n k) v)) b k answer
    → Done v (block e (clamp_code to mode p q n k) v) b k answer
end_code e to mode p q n k b v answer t always is h =
    let c = code_of to mode p q n k true t always is in
    let j = block-append e (extended_code p q n k) (saturate_code t p q n k) v in
    subst (λ code. Done v (block e code v) b k answer) (sym c) (subst (λ w. Done v w b k answer) (sym j) h)

signed_done : (to : Format) (mode : Mode) (e : Env) (p q : Location) (n k a b : ℕ) (v : View) → Given to e p q n k a b v
    → to.signed ≡ true
    → Done v (block e (clamp_code to mode p q (suc n) (suc k)) v) b (suc k) (fit to mode (signed_number (suc n) (value v.at a (suc n))))
signed_done to mode e p q n k a b v g is =
    let answer = fit to mode (signed_number (suc n) (value v.at a (suc n))) in
    ⊎_elim
    (λ (sat : mode.saturate ≡ true).
    ⊎_elim
    (λ (long : suc k < suc n).
    end_code e to mode p q (suc n) (suc k) b v answer true
    (test_of mode to (suc n) (suc k) true true sat is ∙ lt-ltb (suc k) (suc n) long) is
    (signed_saturates to mode e p q n k a b v g is sat (omega arith)))
    (λ (short : suc n ≤ suc k).
    low_code e to mode p q (suc n) (suc k) b v answer true
    (test_of mode to (suc n) (suc k) true true sat is ∙ le-ltb (suc k) (suc n) short) is
    (signed_stays to mode e p q n k a b v g is (inr short)))
    (cases_lt (suc k) (suc n)))
    (λ (never : mode.saturate ≡ false).
    low_code e to mode p q (suc n) (suc k) b v answer true (test_of mode to (suc n) (suc k) false true never is) is
    (signed_stays to mode e p q n k a b v g is (inl never)))
    (cases_Bool mode.saturate)

unsigned_done : (to : Format) (mode : Mode) (e : Env) (p q : Location) (n k a b : ℕ) (v : View) → Given to e p q n k a b v
    → to.signed ≡ false
    → Done v (block e (clamp_code to mode p q (suc n) (suc k)) v) b (suc k) (fit to mode (signed_number (suc n) (value v.at a (suc n))))
unsigned_done to mode e p q n k a b v g is =
    let answer = fit to mode (signed_number (suc n) (value v.at a (suc n))) in
    ⊎_elim
    (λ (sat : mode.saturate ≡ true).
    end_code e to mode p q (suc n) (suc k) b v answer false (test_of mode to (suc n) (suc k) true false sat is) is
    (unsigned_saturates to mode e p q n k a b v g is sat))
    (λ (never : mode.saturate ≡ false).
    low_code e to mode p q (suc n) (suc k) b v answer false (test_of mode to (suc n) (suc k) false false never is) is
    (unsigned_stays to mode e p q n k a b v g is never))
    (cases_Bool mode.saturate)

pub clamp_done : (to : Format) (mode : Mode) (e : Env) (p q : Location) (n k a b : ℕ) (v : View) → Given to e p q n k a b v
    → Done v (block e (clamp_code to mode p q (suc n) (suc k)) v) b (suc k) (fit to mode (signed_number (suc n) (value v.at a (suc n))))
clamp_done to mode e p q n k a b v g =
    ⊎_elim (signed_done to mode e p q n k a b v g) (unsigned_done to mode e p q n k a b v g) (cases_Bool to.signed)

-- ---- the run

all_numbers : (v w : View) (b k : ℕ) (answer : Fx) → 2 ≤ b → HoldsNumbers v → Done v w b k answer → HoldsNumbers w
all_numbers v w b k answer two h d j l =
    ⊎_elim (λ (same : j ≡ 30). rw same d.first) (λ (not_first : j ≢ 30).
    ⊎_elim (λ (same : j ≡ 31). rw same d.second) (λ (not_second : j ≢ 31).
    let outside = λ (o : Outside b k j).
    (let x : w.at j < 256 = rw (d.keeps.same j (λ y. omega arith) (λ y. omega arith) not_first not_second o) (h j l) in x) in
    ⊎_elim (λ (below : j < b). outside (λ y. absurd (omega arith))) (λ (above : b ≤ j).
    ⊎_elim (λ (inside : j < b + k). let at : b + (j - b) ≡ j = omega arith in subst (λ i. w.at i < 256) at (d.held (j - b) (omega arith)))
    (λ (past : b + k ≤ j). outside (λ y. past)) (cases_lt j (b + k)))
    (cases_lt j b)) (cases_eq j 31)) (cases_eq j 30)

some_byte : (step bits : ℕ) → (step ≡ 8) ⊎ ((step ≡ 16) ⊎ (step ≡ 32)) → (bits ≡ step) ⊎ (bits ≡ 2 * step) → 1 ≤ bits
some_byte step bits s w =
    ⊎_elim (λ (x : step ≡ 8). some step bits (omega arith) w)
    (λ r. ⊎_elim (λ (x : step ≡ 16). some step bits (omega arith) w) (λ (x : step ≡ 32). some step bits (omega arith) w) r) s
  where
    some : (step bits : ℕ) → 1 ≤ step → (bits ≡ step) ⊎ (bits ≡ 2 * step) → 1 ≤ bits
    some step bits l (inl e) = omega arith
    some step bits l (inr e) = omega arith

run_done : (to : Format) (mode : Mode) (e : Env) (p q : Location) (n k a b pc end : ℕ) (v : View) → Given to e p q n k a b v
    → HasAt e (clamp_code to mode p q (suc n) (suc k)) pc end
    → Clamps e (60 + 20 * max (suc n) (suc k)) pc v end b (suc k) (fit to mode (signed_number (suc n) (value v.at a (suc n))))
run_done to mode e p q n k a b pc end v g at =
    let code = clamp_code to mode p q (suc n) (suc k) in
    let short = clamp_short to mode p q (suc n) (suc k) in
    let d = clamp_done to mode e p q n k a b v g in
    record {
      steps = code_steps code;
      at_most = short.steps_are;
      last = block e code v;
      goes = block_goes e code pc end v short.straight at;
      holds = d.holds;
      numbers =
          all_numbers v (block e code v) b (suc k) (fit to mode (signed_number (suc n) (value v.at a (suc n)))) g.into.clear g.numbers d;
      same = d.keeps.same;
      inputs = d.keeps.inputs;
      safe = d.keeps.safe;
      seen = d.keeps.seen;
    }

pub clamps_are_right : ClampsAreRight
clamps_are_right to mode e p q zero k a b pc end v format bits some from into apart cf ci numbers at = absurd (omega arith)
clamps_are_right to mode e p q (suc n) zero a b pc end v format bits some from into apart cf ci numbers at =
    let l = some_byte (step_of to) to.bits format.step format.width in
    absurd (omega arith)
clamps_are_right to mode e p q (suc n) (suc k) a b pc end v format bits some from into apart cf ci numbers at =
    run_done to mode e p q n k a b pc end v
    (record { bits = bits; from = from; into = into; apart = apart; clear_from = cf; clear_into = ci; numbers = numbers }) at

pub clamps_have : ClampsHave
clamps_have to mode p q n k = (clamp_short to mode p q n k).words_are
