-- A known number put to a place.
use Rattle.std.proofs.Common.{◌≡◌, ◌≢◌, ⊎_elim, ℕ, ◌+◌, ◌-◌, ◌*◌, ◌/◌, ◌%◌, ◌^◌, ◌<◌, ◌≤◌, Bool, true, false}
use Rattle.std.proofs.Common.{◌++◌, refl, sym, ap, ◌∙◌, subst, arith, pow-add}
use Rattle.std.proofs.Math.Nat.{div-div-eq-div-mul}
use Rattle.std.specs.Prelude.{if◌then◌else◌}
use Rattle.std.proofs.lemmas.Bool.{cases_eq, cases_lt}
use Rattle.ec_asm.specs.declared.pieces.Location.{Location}
use Rattle.ec_asm.specs.declared.pieces.Location.TheVariants.{InRegisters, InMemory}
use Rattle.ec_asm.specs.View.{View}
use Rattle.ec_asm.specs.Change.{Env, Own, set}
use Rattle.ec_asm.specs.Items.{block}
use Rattle.ec_asm.specs.Pieces.{StandsFrom, Outside}
use Rattle.ec_asm.specs.PieceLaws.{HoldsNumbers}
use Rattle.ec_asm.proofs.Bytes.{put_here, put_other}
use Rattle.ec_asm.proofs.Hoare.{block-append}
use Rattle.ec_select_bytes.specs.Values.{byte_of, constant_code, ConstantTo}
use Rattle.ec_select_bytes.proofs.Constants.{constants_are_right}
use Rattle.ec_select_numbers.specs.ByNumber.{is_low_pair, put_pair_code}
use Rattle.ec_select_numbers.specs.Laws.{IsPut, NumbersArePut}
use Rattle.ec_select_numbers.proofs.Beside.{byte_below}
use Rattle.ec_select_numbers.proofs.Paired.{PairIs, pair_is, low_pair}

-- all bytes are below 256 where those that are put are
all_numbers : (v w : View) (a n : ℕ) → HoldsNumbers v → ((k : ℕ) → k ≢ 30 → k ≢ 31 → Outside a n k → w.at k ≡ v.at k)
    → ((j : ℕ) → j < n → w.at (a + j) < 256) → w.at 30 < 256 → w.at 31 < 256 → HoldsNumbers w
all_numbers v w a n h same there low high k l =
    ⊎_elim (λ (q : k ≡ 30). rw q low)
    (λ (q : k ≢ 30).
    ⊎_elim (λ (r : k ≡ 31). rw r high)
    (λ (r : k ≢ 31).
    ⊎_elim (λ (m : k < a). rw (same k q r (λ x. absurd (omega (arith, m, x)))) (h k l))
    (λ (m : a ≤ k).
    ⊎_elim
    (λ (t : k < a + n). let e : a + (k - a) ≡ k = omega (arith, m) in subst (λ i. w.at i < 256) e (there (k - a) (omega (arith, m, t))))
    (λ (t : a + n ≤ k). rw (same k q r (λ x. t)) (h k l))
    (cases_lt k (a + n)))
    (cases_lt k a))
    (cases_eq k 31))
    (cases_eq k 30)

-- one byte after another
each_put : (e : Env) (p : Location) (number n a : ℕ) (v : View) → StandsFrom e p n a Own → Outside a n 30
    → IsPut v (block e (constant_code p number n) v) a number n
each_put e p number n a v s far =
    let w = block e (constant_code p number n) v in
    let h = constants_are_right e p n a number v s far in
    record {
      there = h.there;
      bytes = λ m. all_numbers v w a n m (λ k x y o. h.same k x o) (λ j l. subst (λ t. t < 256) (sym (h.there j l)) (byte_below number j))
          (h.work (m 30 (omega arith))) (high w m h.same h.there);
      same = λ k x y o. h.same k x o;
      flags = h.flags;
      inputs = h.inputs;
      safe = h.safe;
      seen = h.seen;
    }
  where
    high : (w : View) → HoldsNumbers v → ((k : ℕ) → k ≢ 30 → Outside a n k → w.at k ≡ v.at k)
        → ((j : ℕ) → j < n → w.at (a + j) ≡ byte_of number j) → w.at 31 < 256
    high w m same there =
        ⊎_elim (λ (l : 31 < a). rw (same 31 (omega arith) (λ x. absurd (omega (arith, l, x)))) (m 31 (omega arith)))
        (λ (l : a ≤ 31).
        ⊎_elim
        (λ (t : 31 < a + n).
        let e : a + (31 - a) ≡ 31 = omega (arith, l) in
        subst (λ i. w.at i < 256) e
        (subst (λ x. x < 256) (sym (there (31 - a) (omega (arith, l, t)))) (byte_below number (31 - a))))
        (λ (t : a + n ≤ 31). rw (same 31 (omega arith) (λ x. t)) (m 31 (omega arith)))
        (cases_lt 31 (a + n)))
        (cases_lt 31 a)

-- ---- two bytes at once

-- byte j behind the lowest two
byte_behind : (number j : ℕ) → byte_of (number / 65536) j ≡ byte_of number (2 + j)
byte_behind number j =
    let p : 65536 * 256 ^ j ≡ 256 ^ (2 + j) = sym (pow-add 256 2 j) in
    ap (λ t. t % 256) (div-div-eq-div-mul number 65536 (256 ^ j) ∙ ap (λ t. number / t) p)

module _ (e : Env) (r number n a : ℕ) (v : View) (s : StandsFrom e (InRegisters r) n a Own) (far : Outside a n 30)
    (is_low : is_low_pair r n ≡ true) where
  two : 2 ≤ n
  two = (low_pair r n is_low).1

  begins : r ≡ a
  begins = let h = s.at 0 (let l = two in omega arith) in omega (arith, h)

  low : a + 2 ≤ 30
  low = let h = (low_pair r n is_low).0 in let b = begins in omega (arith, h, b)

  abbrev k0 : ℕ
  k0 = byte_of number 0

  abbrev k1 : ℕ
  k1 = byte_of number 1

  -- both are in R30 and R31
  abbrev v2 : View
  v2 = set 31 k1 (set 30 k0 v)

  abbrev v3 : View
  v3 = block e (put_pair_code a number) v

  brought : PairIs v2.at v3.at 30 a
  brought =
      pair_is v2.at 30 a (subst (λ t. t < 256) (sym low_there) (byte_below number 0))
    where
      low_there : v2.at 30 ≡ k0
      low_there = put_other (set 30 k0 v).at 31 k1 30 (omega arith) ∙ put_here v.at 30 k0 30 refl

  low_work : v3.at 30 ≡ k0
  low_work =
      let l = low in
      brought.other 30 (omega (arith, l)) (omega (arith, l)) ∙ put_other (set 30 k0 v).at 31 k1 30 (omega arith)
      ∙ put_here v.at 30 k0 30 refl

  high_work : v3.at 31 ≡ k1
  high_work =
      let l = low in
      brought.other 31 (omega (arith, l)) (omega (arith, l)) ∙ put_here (set 30 k0 v).at 31 k1 31 refl

  first_there : v3.at a ≡ k0
  first_there = brought.low ∙ put_other (set 30 k0 v).at 31 k1 30 (omega arith) ∙ put_here v.at 30 k0 30 refl

  second_there : v3.at (a + 1) ≡ k1
  second_there = brought.high ∙ put_here (set 30 k0 v).at 31 k1 31 refl

  all_other : (k : ℕ) → k ≢ 30 → k ≢ 31 → k ≢ a → k ≢ a + 1 → v3.at k ≡ v.at k
  all_other k n30 n31 na nb =
      brought.other k na nb ∙ put_other (set 30 k0 v).at 31 k1 k n31 ∙ put_other v.at 30 k0 k n30

  abbrev rest : Location
  rest = InRegisters (a + 2)

  rest_stands : StandsFrom e rest (n - 2) (a + 2) Own
  rest_stands = record { at = λ i l. refl; kind = λ i l. refl; clear = let c = s.clear in omega (arith, c) }

  rest_far : Outside (a + 2) (n - 2) 30
  rest_far x = let l = low in let t = two in let f = far (omega (arith, l)) in omega (arith, f, t)

  abbrev w : View
  w = block e (constant_code rest (number / 65536) (n - 2)) v3

  h : ConstantTo v3 (a + 2) (number / 65536) (n - 2) w
  h = constants_are_right e rest (n - 2) (a + 2) (number / 65536) v3 rest_stands rest_far

  before_rest : (k : ℕ) → k < a + 2 → w.at k ≡ v3.at k
  before_rest k l = let m = low in h.same k (omega (arith, l, m)) (λ x. absurd (omega (arith, l, x)))

  there : (j : ℕ) → j < n → w.at (a + j) ≡ byte_of number j
  there j l =
      ⊎_elim (λ (q : j ≡ 0). let i : a + j ≡ a = omega (arith, q) in
      before_rest (a + j) (omega (arith, q)) ∙ ap v3.at i ∙ first_there ∙ ap (byte_of number) (sym q))
      (λ (q : j ≢ 0).
      ⊎_elim
      (λ (t : j ≡ 1).
      before_rest (a + j) (omega (arith, t)) ∙ ap (λ i. v3.at (a + i)) t ∙ second_there ∙ ap (byte_of number) (sym t))
      (λ (t : j ≢ 1).
      let m : 2 ≤ j = omega (arith, q, t) in
      let i : a + j ≡ a + 2 + (j - 2) = omega (arith, m) in
      let k : 2 + (j - 2) ≡ j = omega (arith, m) in
      ap w.at i ∙ h.there (j - 2) (omega (arith, m, l)) ∙ byte_behind number (j - 2) ∙ ap (byte_of number) k)
      (cases_eq j 1))
      (cases_eq j 0)

  same : (k : ℕ) → k ≢ 30 → k ≢ 31 → Outside a n k → w.at k ≡ v.at k
  same k n30 n31 o =
      let t = two in
      h.same k n30 (λ x. let m = o (omega (arith, x)) in omega (arith, m, t))
      ∙ all_other k n30 n31 (λ q. let m = o (omega (arith, q)) in omega (arith, m, q, t))
      (λ q. let m = o (omega (arith, q)) in omega (arith, m, q, t))

  high_kept : w.at 31 ≡ k1
  high_kept =
      let l = low in let f = far (omega (arith, l)) in let t = two in
      h.same 31 (omega arith) (λ x. omega (arith, f, t)) ∙ high_work

  pair_put : IsPut v w a number n
  pair_put = record {
    there = there;
    bytes = λ m. all_numbers v w a n m same (λ j l. subst (λ t. t < 256) (sym (there j l)) (byte_below number j))
        (h.work (subst (λ t. t < 256) (sym low_work) (byte_below number 0)))
        (subst (λ t. t < 256) (sym high_kept) (byte_below number 1));
    same = same;
    flags = h.flags;
    inputs = h.inputs;
    safe = h.safe;
    seen = h.seen;
  }

  both_put : IsPut v (block e (put_pair_code r number ++ constant_code (InRegisters (r + 2)) (number / 65536) (n - 2)) v) a number n
  both_put =
      subst (λ (x : ℕ). IsPut v (block e (put_pair_code x number ++ constant_code (InRegisters (x + 2)) (number / 65536) (n - 2)) v) a
      number n) (sym begins)
      (subst (λ (x : View). IsPut v x a number n)
      (sym (block-append e (put_pair_code a number) (constant_code rest (number / 65536) (n - 2)) v)) pair_put)

pub numbers_are_put : NumbersArePut
numbers_are_put e (InMemory o k) number n a v s far = each_put e (InMemory o k) number n a v s far
numbers_are_put e (InRegisters r) number n a v s far = by_test (is_low_pair r n) refl
  where
    by_test : (b : Bool) → is_low_pair r n ≡ b
        → IsPut v (block e (if b then put_pair_code r number ++ constant_code (InRegisters (r + 2)) (number / 65536) (n - 2)
        else constant_code (InRegisters r) number n) v) a number n
    by_test true q = both_put e r number n a v s far q
    by_test false q = each_put e (InRegisters r) number n a v s far
