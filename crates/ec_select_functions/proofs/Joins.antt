-- The test whether a number is 0, which may be made in its first register.
use Rattle.std.proofs.Common.{◌≡◌, ◌≢◌, ℕ, zero, suc, ◌+◌, ◌-◌, ◌*◌, ◌^◌, ◌<◌, ◌≤◌, Bool, true, false, List, ⊎_elim}
use Rattle.std.proofs.Common.{refl, sym, ap, ◌∙◌, subst, arith}
use Rattle.std.specs.Prelude.{◌==◌, nat_le, if◌then◌else◌, bit_or}
use Rattle.std.specs.Int.{from_bool}
use Rattle.std.specs.Int.Bits.{or_zero_r}
use Rattle.std.proofs.lemmas.Bool.{cases_eq, le-leb, ne_eqb}
use Rattle.std.proofs.lemmas.Nat.{le_or_r, mul-le, or_lt}
use Rattle.ec_isa.specs.declared.instructions.Instr.TheVariants.{Or}
use Rattle.ec_asm.specs.declared.items.AsmItem.{AsmItem}
use Rattle.ec_asm.specs.declared.pieces.Location.{Location}
use Rattle.ec_asm.specs.declared.pieces.Location.TheVariants.{InRegisters, InMemory}
use Rattle.ec_asm.specs.View.{View}
use Rattle.ec_asm.specs.Change.{Env, Own, change}
use Rattle.ec_asm.specs.Items.{block, chain, all_straight, code_steps}
use Rattle.ec_asm.specs.Pieces.{StandsFrom, KeepsAll, value}
use Rattle.ec_asm.specs.PieceLaws.{HoldsNumbers}
use Rattle.ec_asm.proofs.Hoare.{chain_holds, chain_straight, steps-chain}
use Rattle.ec_asm.proofs.Bytes.{put_here, put_other}
use Rattle.ec_asm.proofs.Numbers.{pow_pos}
use Rattle.ec_select_bytes.specs.Values.{test_code}
use Rattle.ec_select_bytes.proofs.Straight.{values_are_straight, values_take}
use Rattle.ec_select_bytes.proofs.Tests.{tests_keep, tests_tell_zero}
use Rattle.ec_select_numbers.specs.Laws.{KeepsOthers}
use Rattle.ec_select_operations.specs.Tests.{join_there, joined_there_code, test_there_code, number_test}
use Rattle.ec_select_functions.proofs.Tested.{test_some}

-- after the test of at least one byte Z tells whether the number is 0, and so many bytes of it have changed at most
pub record TestsNumber (v w : View) (a n changed : ℕ) : Type 0 where
  pub zero_is : w.flags.z ≡ from_bool (value v.at a n == 0)
  pub keeps : KeepsOthers v w a changed

-- a free number is changed in its first byte
abbrev pub changed_bytes : (is_free : Bool) → ℕ
changed_bytes true = 1
changed_bytes false = 0

all_kept : (v w : View) (a n : ℕ) → HoldsNumbers v → KeepsAll v w → KeepsOthers v w a n
all_kept v w a n h k = record {
  same = λ i d g z o. k.same i d g;
  bytes = λ i u. rw (k.same i (omega arith) (omega arith)) (h i u);
  inputs = k.inputs;
  safe = k.safe;
  seen = k.seen;
}

pub several_there : (r n : ℕ) → number_test true (InRegisters r) (suc (suc n)) ≡ joined_there_code r (suc n)
several_there r n =
    let less : suc (suc n) - 1 ≡ suc n = omega arith in
    rw (le-leb 2 (suc (suc n)) (omega arith), less) refl

-- ---- in the first register

-- the first i bytes and one more were joined
record JoinsThere (v0 : View) (r i : ℕ) (v : View) : Type 0 where
  joined : (v.at r == 0) ≡ (value v0.at r (suc i) == 0)
  byte : v.at r < 256
  zero_is : 1 ≤ i → v.flags.z ≡ from_bool (v.at r == 0)
  same : (k : ℕ) → k ≢ r → v.at k ≡ v0.at k
  inputs : v.inputs ≡ v0.inputs
  safe : v.safe ≡ v0.safe
  seen : v.seen ≡ v0.seen

-- a number is 0 where all its bytes are
joined_step : (r y x p : ℕ) → 0 < p → (r == 0) ≡ (y == 0) → (bit_or r x == 0) ≡ (y + x * p == 0)
joined_step r y zero p some h =
    let none : y + 0 * p ≡ y = omega arith in
    ap (λ n. n == 0) (or_zero_r r) ∙ h ∙ ap (λ n. n == 0) (sym none)
joined_step r y (suc x) p some h =
    let up : suc x ≤ bit_or r (suc x) = le_or_r r (suc x) in
    let m : 1 * p ≤ suc x * p = mul-le 1 p (suc x) p (omega arith) (omega arith) in
    ne_eqb (bit_or r (suc x)) 0 (omega (arith, up)) ∙ sym (ne_eqb (y + suc x * p) 0 (omega (arith, m, some)))

step : (e : Env) (r : ℕ) (v0 : View) → 2 ≤ r → HoldsNumbers v0 → (i : ℕ) → (v : View) → JoinsThere v0 r i v
    → JoinsThere v0 r (suc i) (block e (join_there r i) v)
step e r v0 two bytes i v h =
    let b = v.at (r + (1 + i)) in
    let w = change e (Or r (r + (1 + i))) v in
    let x = v0.at (r + suc i) in
    let at : r + (1 + i) ≡ r + suc i = omega arith in
    let second : b ≡ x = ap v.at at ∙ h.same (r + suc i) (omega arith) in
    let here : w.at r ≡ bit_or (v.at r) b = put_here v.at r _ r refl in
    let below : b < 256 = rw second (bytes (r + suc i) (omega (arith, two))) in
    let both : bit_or (v.at r) b < 256 = or_lt 8 (v.at r) b h.byte below in
    record {
      joined = ap (λ j. j == 0) (here ∙ ap (bit_or (v.at r)) second)
          ∙ joined_step (v.at r) (value v0.at r (suc i)) x (256 ^ suc i) (pow_pos (suc i)) h.joined;
      byte = rw here both;
      zero_is = λ z. ap (λ j. from_bool (j == 0)) (sym here);
      same = λ k d. put_other v.at r _ k d ∙ h.same k d;
      inputs = h.inputs;
      safe = h.safe;
      seen = h.seen;
    }

one_value : (f : ℕ → ℕ) (a : ℕ) → f a ≡ value f a 1
one_value f a = let z : a ≡ a + 0 = omega arith in ap f z ∙ (omega arith)

joins : (e : Env) (r n : ℕ) (v : View) → 2 ≤ r → HoldsNumbers v → JoinsThere v r n (block e (joined_there_code r n) v)
joins e r n v two h =
    chain_holds e (join_there r) (JoinsThere v r) n (λ i l w k. step e r v two h i w k) v (record {
      joined = ap (λ b. b == 0) (one_value v.at r);
      byte = h r two;
      zero_is = λ z. absurd (omega arith);
      same = λ k d. refl;
      inputs = refl;
      safe = refl;
      seen = refl;
    })

tests_there : (e : Env) (r n : ℕ) (v : View) → 2 ≤ r → HoldsNumbers v
    → TestsNumber v (block e (joined_there_code r (suc n)) v) r (suc (suc n)) 1
tests_there e r n v two h =
    let j = joins e r (suc n) v two h in
    let w = block e (joined_there_code r (suc n)) v in
    record {
      zero_is = j.zero_is (omega arith) ∙ ap from_bool j.joined;
      keeps = record {
        same = λ k d g z o. j.same k (λ q. let x = o (omega (arith, q)) in absurd (omega (arith, x, q)));
        bytes = λ k u. ⊎_elim (λ (q : k ≡ r). rw q j.byte) (λ (q : k ≢ r). rw (j.same k q) (h k u)) (cases_eq k r);
        inputs = j.inputs;
        safe = j.safe;
        seen = j.seen;
      };
    }

-- ---- a number at its place

tested_as_before : (e : Env) (p : Location) (n a changed : ℕ) (v : View) → StandsFrom e p (suc n) a Own → HoldsNumbers v
    → TestsNumber v (block e (test_code p (suc n)) v) a (suc n) changed
tested_as_before e p n a changed v s h = record {
  zero_is = tests_tell_zero e p n a v s h;
  keeps = all_kept v (block e (test_code p (suc n)) v) a changed h (tests_keep e p (suc n) a v s h);
}

number_is_tested : (is_free : Bool) (e : Env) (p : Location) (n a : ℕ) (v : View) → StandsFrom e p (suc n) a Own → HoldsNumbers v
    → TestsNumber v (block e (number_test is_free p (suc n)) v) a (suc n) (changed_bytes is_free)
number_is_tested false e p n a v s h = tested_as_before e p n a 0 v s h
number_is_tested true e (InMemory o k) n a v s h = tested_as_before e (InMemory o k) n a 1 v s h
number_is_tested true e (InRegisters r) zero a v s h = tested_as_before e (InRegisters r) zero a 1 v s h
number_is_tested true e (InRegisters r) (suc n) a v s h =
    let first : r + 0 ≡ a + 0 = s.at 0 (omega arith) in
    let clear = s.clear in
    let here : r ≡ a = omega (arith, first) in
    rw (several_there r n)
    (subst (λ j. TestsNumber v (block e (joined_there_code r (suc n)) v) j (suc (suc n)) 1) here
    (tests_there e r n v (omega (arith, clear, here)) h))

pub number_tested : (is_free : Bool) (e : Env) (p : Location) (n a : ℕ) (v : View) → 1 ≤ n → StandsFrom e p n a Own → HoldsNumbers v
    → TestsNumber v (block e (number_test is_free p n) v) a n (changed_bytes is_free)
number_tested is_free e p zero a v some s h = absurd (omega arith)
number_tested is_free e p (suc n) a v some s h = number_is_tested is_free e p n a v s h

-- ---- its form

-- the code is straight, and has some steps, but few
pub record IsBriefTest (is_free : Bool) (p : Location) (n : ℕ) : Type 0 where
  pub straight : all_straight (number_test is_free p n) ≡ true
  pub some : 1 ≤ n → 1 ≤ code_steps (number_test is_free p n)
  pub few : code_steps (number_test is_free p n) ≤ 1 + 2 * n

joins_straight : (r n : ℕ) → all_straight (joined_there_code r n) ≡ true
joins_straight r n = chain_straight (join_there r) n (λ i. refl)

joins_steps : (r n : ℕ) → code_steps (joined_there_code r n) ≡ n * 1
joins_steps r n = steps-chain (join_there r) n 1 (λ i. refl)

as_before : (p : Location) (n : ℕ) → IsBriefTest false p n
as_before p n = record {
  straight = (values_are_straight p 0 0 n).1;
  some = test_some p n;
  few = (values_take p 0 0 n).1;
}

pub test_form : (is_free : Bool) (p : Location) (n : ℕ) → IsBriefTest is_free p n
test_form false p n = as_before p n
test_form true (InMemory o k) n =
    let f = as_before (InMemory o k) n in record { straight = f.straight; some = f.some; few = f.few }
test_form true (InRegisters r) zero =
    let f = as_before (InRegisters r) 0 in record { straight = f.straight; some = f.some; few = f.few }
test_form true (InRegisters r) (suc zero) =
    let f = as_before (InRegisters r) 1 in record { straight = f.straight; some = f.some; few = f.few }
test_form true (InRegisters r) (suc (suc n)) =
    let steps = ap code_steps (several_there r n) ∙ joins_steps r (suc n) in
    record {
      straight = ap all_straight (several_there r n) ∙ joins_straight r (suc n);
      some = λ l. omega (arith, steps);
      few = omega (arith, steps);
    }
