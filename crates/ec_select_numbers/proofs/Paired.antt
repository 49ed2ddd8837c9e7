-- Two bytes in registers below R16, changed in R30 and R31.
use Rattle.std.proofs.Common.{◌≡◌, ◌≢◌, ⊎_elim, ℕ, suc, ◌+◌, ◌-◌, ◌/◌, ◌%◌, ◌^◌, ◌<◌, ◌≤◌, Bool, true, false}
use Rattle.std.proofs.Common.{◌++◌, refl, sym, ap, ◌∙◌, subst, arith}
use Rattle.std.specs.Prelude.{nat_lt, nat_le, ◌==◌, ◌&&◌, not, if◌then◌else◌}
use Rattle.std.proofs.lemmas.Bool.{cases_eq, and_parts}
use Rattle.std.proofs.lemmas.Bool.Decides.{nat_tests}
use Rattle.ec_isa.specs.declared.instructions.Instr.TheVariants.{Movw}
use Rattle.ec_asm.specs.declared.pieces.Location.{Location}
use Rattle.ec_asm.specs.declared.pieces.Location.TheVariants.{InRegisters, InMemory}
use Rattle.ec_asm.specs.View.{Flags, View, pair, put, put_pair}
use Rattle.ec_asm.specs.Change.{Env, Own, set, set_both, change}
use Rattle.ec_asm.specs.Items.{block}
use Rattle.ec_asm.specs.Pieces.{StandsFrom, Outside, value, bitwise}
use Rattle.ec_asm.specs.PieceLaws.{HoldsNumbers}
use Rattle.ec_asm.proofs.Bytes.{put_here, put_other}
use Rattle.ec_asm.proofs.Hoare.{chain_holds, block-append}
use Rattle.ec_select_bytes.specs.Values.{byte_of}
use Rattle.ec_select_numbers.specs.declared.operators.ByNumber.{ByNumber}
use Rattle.ec_select_numbers.specs.declared.operators.ByNumber.TheVariants.{Subtract}
use Rattle.ec_select_numbers.specs.ByNumber.{as_operator, immediate, is_neutral, is_low_pair, changed_byte, each_changed}
use Rattle.ec_select_numbers.specs.ByNumber.{changed_pair, rest_changed, changes_pair, changed_code}
use Rattle.ec_select_numbers.specs.Laws.{KeepsOthers, KeepsBeside, NumbersAreSubtracted, NumbersChangeBits}
use Rattle.ec_select_numbers.proofs.Beside.{byte_below, value_moved}
use Rattle.ec_select_numbers.proofs.Changed.{made, left, is_immediate, made_below, Alike, keeps_more, alike_more, step}
use Rattle.ec_select_numbers.proofs.Changed.{none_alike, alike, alike_subtracts, alike_changes_bits}

-- ---- MOVW

-- two bytes at y are those at x, and all others are kept
pub record PairIs (f g : ℕ → ℕ) (x y : ℕ) : Type 0 where
  pub low : g y ≡ f x
  pub high : g (y + 1) ≡ f (x + 1)
  pub other : (k : ℕ) → k ≢ y → k ≢ y + 1 → g k ≡ f k

pub pair_is : (f : ℕ → ℕ) (x y : ℕ) → f x < 256 → PairIs f (put_pair f y (pair f x)) x y
pair_is f x y small =
    let n = pair f x in
    let g = put f y (n % 256) in
    let first : n % 256 ≡ f x = omega (arith, small) in
    let second : n / 256 ≡ f (x + 1) = omega (arith, small) in
    record {
      low = put_other g (y + 1) (n / 256) y (omega arith) ∙ put_here f y (n % 256) y refl ∙ first;
      high = put_here g (y + 1) (n / 256) (y + 1) refl ∙ second;
      other = λ k p q. put_other g (y + 1) (n / 256) k q ∙ put_other f y (n % 256) k p;
    }

-- the first two of n bytes in registers are below R16
pub low_pair : (r n : ℕ) → is_low_pair r n ≡ true → (r < 16) × (2 ≤ n)
low_pair r n q =
    let p = and_parts (nat_lt r 16) (r % 2 == 0 && nat_le 2 n) q in
    let t = and_parts (r % 2 == 0) (nat_le 2 n) p.1 in
    let x = p.0 in
    let y = t.1 in
    (grind (arith, nat_tests, x), grind (arith, nat_tests, y))

-- ---- two bytes at a are changed

module _ (op : ByNumber) (e : Env) (number a : ℕ) (v : View) (low : a + 2 ≤ 30) (first_small : v.at a < 256) where
  abbrev k0 : ℕ
  k0 = byte_of number 0

  abbrev k1 : ℕ
  k1 = byte_of number 1

  -- what they become, and the flags
  abbrev pub x0 : ℕ
  x0 = made op 0 (v.at a) k0 v.flags

  abbrev pub f0 : Flags
  f0 = left op 0 (v.at a) k0 v.flags

  abbrev pub x1 : ℕ
  x1 = made op 1 (v.at (a + 1)) k1 f0

  abbrev pub f1 : Flags
  f1 = left op 1 (v.at (a + 1)) k1 f0

  pub record Paired (w : View) : Type 0 where
    pub first : w.at a ≡ x0
    pub second : w.at (a + 1) ≡ x1
    pub work : w.at 30 ≡ x0
    pub high_work : w.at 31 ≡ x1
    pub same : (k : ℕ) → k ≢ 30 → k ≢ 31 → k ≢ a → k ≢ a + 1 → w.at k ≡ v.at k
    pub flags : w.flags ≡ f1
    pub inputs : w.inputs ≡ v.inputs
    pub safe : w.safe ≡ v.safe
    pub seen : w.seen ≡ v.seen

  abbrev w1 : View
  w1 = change e (Movw 30 a) v

  abbrev y0 : ℕ
  y0 = made op 0 (w1.at 30) k0 w1.flags

  abbrev w2 : View
  w2 = set_both 30 y0 (left op 0 (w1.at 30) k0 w1.flags) w1

  abbrev y1 : ℕ
  y1 = made op 1 (w2.at 31) k1 w2.flags

  abbrev w3 : View
  w3 = set_both 31 y1 (left op 1 (w2.at 31) k1 w2.flags) w2

  abbrev w4 : View
  w4 = change e (Movw a 30) w3

  pub pair_changed : x0 < 256 → Paired (block e (changed_pair op a number) v)
  pair_changed small = subst Paired (sym runs) (record {
    first = back.low ∙ work3;
    second = back.high ∙ high3;
    work = back.other 30 (omega (arith, low)) (omega (arith, low)) ∙ work3;
    high_work = back.other 31 (omega (arith, low)) (omega (arith, low)) ∙ high3;
    same = λ k n30 n31 na nb. back.other k na nb ∙ put_other w2.at 31 y1 k n31 ∙ put_other w1.at 30 y0 k n30 ∙ there.other k n30 n31;
    flags = flags3;
    inputs = refl;
    safe = refl;
    seen = refl;
  })
    where
      there : PairIs v.at w1.at a 30
      there = pair_is v.at a 30 first_small

      work2 : w2.at 30 ≡ x0
      work2 = put_here w1.at 30 y0 30 refl ∙ ap (λ t. made op 0 t k0 v.flags) there.low

      flags2 : w2.flags ≡ f0
      flags2 = ap (λ t. left op 0 t k0 v.flags) there.low

      high2 : w2.at 31 ≡ v.at (a + 1)
      high2 = put_other w1.at 30 y0 31 (omega arith) ∙ there.high

      work3 : w3.at 30 ≡ x0
      work3 = put_other w2.at 31 y1 30 (omega arith) ∙ work2

      high3 : w3.at 31 ≡ x1
      high3 = put_here w2.at 31 y1 31 refl ∙ ap (λ t. made op 1 t k1 w2.flags) high2 ∙ ap (λ f. made op 1 (v.at (a + 1)) k1 f) flags2

      flags3 : w3.flags ≡ f1
      flags3 = ap (λ t. left op 1 t k1 w2.flags) high2 ∙ ap (λ f. left op 1 (v.at (a + 1)) k1 f) flags2

      back : PairIs w3.at w4.at 30 a
      back = pair_is w3.at 30 a (subst (λ t. t < 256) (sym work3) small)

      runs : block e (changed_pair op a number) v ≡ w4
      runs =
          ap (λ u. change e (Movw a 30) (change e (immediate op 1 31 k1) u)) ((is_immediate op 0).is e 30 k0 w1)
          ∙ ap (λ u. change e (Movw a 30) u) ((is_immediate op 1).is e 31 k1 w2)

-- ---- all bytes, as if R31 had had before what it has behind the two

module _ (op : ByNumber) (e : Env) (r number n a : ℕ) (v : View) (s : StandsFrom e (InRegisters r) n a Own)
    (free : Outside a n 30) (bytes : HoldsNumbers v) (is_low : is_low_pair r n ≡ true) where
  abbrev q : Location
  q = InRegisters r

  two : 2 ≤ n
  two = (low_pair r n is_low).1

  begins : r ≡ a
  begins = let h = s.at 0 (let l = two in omega arith) in omega (arith, h)

  low : a + 2 ≤ 30
  low = let h = (low_pair r n is_low).0 in let b = begins in omega (arith, h, b)

  all_low : a + n ≤ 30
  all_low = let l = low in free (omega (arith, l))

  some : 2 ≤ a
  some = s.clear

  first_small : v.at a < 256
  first_small = let l = some in bytes a (omega (arith, l))

  second_small : v.at (a + 1) < 256
  second_small = let l = some in bytes (a + 1) (omega (arith, l))

  abbrev first_byte : ℕ
  first_byte = x0 op e number a v low first_small

  abbrev first_flags : Flags
  first_flags = f0 op e number a v low first_small

  abbrev second_byte : ℕ
  second_byte = x1 op e number a v low first_small

  first_below : first_byte < 256
  first_below = made_below op 0 (v.at a) (byte_of number 0) v.flags first_small (byte_below number 0)

  second_below : second_byte < 256
  second_below = made_below op 1 (v.at (a + 1)) (byte_of number 1) first_flags second_small (byte_below number 1)

  -- R31 beside it
  abbrev u : View
  u = set 31 second_byte v

  beside_work : (k : ℕ) → k ≢ 31 → u.at k ≡ v.at k
  beside_work k d = put_other v.at 31 second_byte k d

  in_row : (j : ℕ) → j < n → a + j ≢ 31
  in_row j l d = let m = all_low in omega (arith, m, l, d)

  numbers : HoldsNumbers u
  numbers k l =
      ⊎_elim (λ (d : k ≡ 31). rw (d, put_here v.at 31 second_byte 31 refl) second_below)
      (λ (d : k ≢ 31). rw (beside_work k d) (bytes k l)) (cases_eq k 31)

  abbrev AlikeSo : (i : ℕ) → View → Type 0
  AlikeSo i w = Alike op e q number n a u s free numbers i w

  -- the first byte alone
  abbrev one : View
  one = set_both (a + 0) first_byte first_flags u

  one_other : (j : ℕ) → j ≢ a + 0 → one.at j ≡ u.at j
  one_other j d = put_other u.at (a + 0) first_byte j d

  one_alike : AlikeSo 1 one
  one_alike =
      let l : 0 < n = (let t = two in omega (arith, t)) in
      let zero_is : a + 0 ≡ a = omega arith in
      let was : u.at (a + 0) ≡ v.at a = beside_work (a + 0) (in_row 0 l) ∙ ap v.at zero_is in
      let now : one.at (a + 0) ≡ first_byte = put_here u.at (a + 0) first_byte (a + 0) refl in
      let work : one.at 30 < 256 =
      subst (λ t. t < 256) (sym (one_other 30 (let m = low in omega (arith, m)) ∙ beside_work 30 (omega arith))) (bytes 30 (omega arith)) in
      let h = none_alike op e q number n a u s free numbers in
      alike_more op e q number n a u s free numbers 0 u one l h
      (keeps_more op e q number n a u s free numbers 0 u one l h.keeps (λ j z d. one_other j d)
      (subst (λ t. t < 256) (sym now) first_below) work refl refl refl)
      (λ j z d. one_other j d)
      (now ∙ ap (λ t. made op 0 t (byte_of number 0) v.flags) (sym was))
      (λ z. ap (λ t. left op 0 t (byte_of number 0) v.flags) (sym was))

  -- both
  both_alike : AlikeSo 2 (block e (changed_pair op r number) v)
  both_alike =
      subst (λ (x : ℕ). AlikeSo 2 (block e (changed_pair op x number) v)) (sym begins)
      (alike_more op e q number n a u s free numbers 1 one w l one_alike
      (keeps_more op e q number n a u s free numbers 1 one w l one_alike.keeps same (subst (λ t. t < 256) (sym o.second) second_below)
      (subst (λ t. t < 256) (sym o.work) first_below) o.inputs o.safe o.seen)
      same (o.second ∙ ap (λ t. made op 1 t (byte_of number 1) first_flags) (sym was))
      (λ z. o.flags ∙ ap (λ t. left op 1 t (byte_of number 1) first_flags) (sym was)))
    where
      w : View
      w = block e (changed_pair op a number) v

      o : Paired op e number a v low first_small w
      o = pair_changed op e number a v low first_small first_below

      l : 1 < n
      l = let t = two in omega (arith, t)

      was : one.at (a + 1) ≡ v.at (a + 1)
      was = one_other (a + 1) (omega arith) ∙ beside_work (a + 1) (in_row 1 l)

      zero_is : a + 0 ≡ a
      zero_is = omega arith

      same : (j : ℕ) → j ≢ 30 → j ≢ a + 1 → w.at j ≡ one.at j
      same j n30 d =
          ⊎_elim
          (λ (m : j ≡ a + 0).
          ap w.at (m ∙ zero_is) ∙ o.first ∙ sym (put_here u.at (a + 0) first_byte (a + 0) refl) ∙ ap one.at (sym m))
          (λ (m : j ≢ a + 0).
          ⊎_elim
          (λ (t : j ≡ 31).
          ap w.at t ∙ o.high_work ∙ sym (put_here v.at 31 second_byte 31 refl) ∙ ap u.at (sym t) ∙ sym (one_other j m))
          (λ (t : j ≢ 31).
          o.same j n30 t (λ z. m (z ∙ sym zero_is)) d ∙ sym (beside_work j t) ∙ sym (one_other j m))
          (cases_eq j 31))
          (cases_eq j (a + 0))

  all_alike : AlikeSo n (block e (changed_pair op r number ++ rest_changed op r number (n - 2)) v)
  all_alike =
      let w = block e (changed_pair op r number) v in
      let l = two in
      let count : 2 + (n - 2) ≡ n = omega (arith, l) in
      let done = chain_holds e (λ i. changed_byte op q (byte_of number (2 + i)) (2 + i)) (λ i. AlikeSo (2 + i)) (n - 2)
      (λ i m x g.
      let next : suc (2 + i) ≡ 2 + suc i = omega arith in
      subst (λ k. AlikeSo k (block e (changed_byte op q (byte_of number (2 + i)) (2 + i)) x)) next
      (step op e q number n a u s free numbers (2 + i) (let t = two in omega (arith, m, t)) x g)) w both_alike in
      subst (AlikeSo n) (sym (block-append e (changed_pair op r number) (rest_changed op r number (n - 2)) v))
      (subst (λ i. AlikeSo i (block e (rest_changed op r number (n - 2)) w)) count done)

  -- and all else is kept but R31
  beside_kept : (w : View) → AlikeSo n w → KeepsBeside v w a n
  beside_kept w h = record {
    same = λ k z o t d m. h.keeps.same k z o t m ∙ beside_work k d;
    bytes = h.keeps.bytes;
    inputs = h.keeps.inputs;
    safe = h.keeps.safe;
    seen = h.keeps.seen;
  }

  beside_value : value u.at a n ≡ value v.at a n
  beside_value = value_moved u.at v.at a a n (λ j l. beside_work (a + j) (in_row j l))

  beside_byte : (j : ℕ) → j < n → u.at (a + j) ≡ v.at (a + j)
  beside_byte j l = beside_work (a + j) (in_row j l)

  pair_subtracts : (w : View) → op ≡ Subtract → AlikeSo n w
      → value w.at a n ≡ (value v.at a n + 256 ^ n - number % 256 ^ n) % 256 ^ n
  pair_subtracts w is h =
      subtracts op is h ∙ ap (λ t. (t + 256 ^ n - number % 256 ^ n) % 256 ^ n) beside_value
    where
      subtracts : (o : ByNumber) → o ≡ Subtract → Alike o e q number n a u s free numbers n w
          → value w.at a n ≡ (value u.at a n + 256 ^ n - number % 256 ^ n) % 256 ^ n
      subtracts o t k =
          alike_subtracts e q number n a u w s free numbers (subst (λ (x : ByNumber). Alike x e q number n a u s free numbers n w) t k)

  pair_changes_bits : (w : View) → op ≢ Subtract → AlikeSo n w → (j : ℕ) → j < n
      → w.at (a + j) ≡ bitwise (as_operator op) (v.at (a + j)) (byte_of number j)
  pair_changes_bits w differs h j l =
      alike_changes_bits op e q number n a u w differs s free numbers h j l
      ∙ ap (λ t. bitwise (as_operator op) t (byte_of number j)) (beside_byte j l)

-- ---- one byte after another, or two at once

kept : (v w : View) (a n : ℕ) → KeepsOthers v w a n → KeepsBeside v w a n
kept v w a n h = record {
  same = λ k z o t d m. h.same k z o t m;
  bytes = h.bytes;
  inputs = h.inputs;
  safe = h.safe;
  seen = h.seen;
}

pub numbers_are_subtracted : NumbersAreSubtracted
numbers_are_subtracted e p number n a v s free bytes = by_place p s
  where
    Subtracts : View → Type 0
    Subtracts w = KeepsBeside v w a n × (value w.at a n ≡ (value v.at a n + 256 ^ n - number % 256 ^ n) % 256 ^ n)

    each : (q : Location) → StandsFrom e q n a Own → Subtracts (block e (each_changed Subtract q number n) v)
    each q st =
        let h = alike Subtract e q number n a v st free bytes in
        let w = block e (each_changed Subtract q number n) v in
        (kept v w a n h.keeps, alike_subtracts e q number n a v w st free bytes h)

    by_test : (r : ℕ) (b : Bool) → changes_pair Subtract r number n ≡ b → StandsFrom e (InRegisters r) n a Own
        → Subtracts (block e (if b then changed_pair Subtract r number ++ rest_changed Subtract r number (n - 2)
        else each_changed Subtract (InRegisters r) number n) v)
    by_test r false t st = each (InRegisters r) st
    by_test r true t st =
        let changing = not (is_neutral Subtract (byte_of number 0)) && not (is_neutral Subtract (byte_of number 1)) in
        let low = (and_parts (is_low_pair r n) changing t).0 in
        let w = block e (changed_pair Subtract r number ++ rest_changed Subtract r number (n - 2)) v in
        let h = all_alike Subtract e r number n a v st free bytes low in
        (beside_kept Subtract e r number n a v st free bytes low w h, pair_subtracts Subtract e r number n a v st free bytes low w refl h)

    by_place : (q : Location) → StandsFrom e q n a Own → Subtracts (block e (changed_code Subtract q number n) v)
    by_place (InRegisters r) st = by_test r (changes_pair Subtract r number n) refl st
    by_place (InMemory o k) st = each (InMemory o k) st

pub numbers_change_bits : NumbersChangeBits
numbers_change_bits op e p number n a v differs s free bytes = by_place p s
  where
    ChangesBits : View → Type 0
    ChangesBits w =
        KeepsBeside v w a n
        × ((j : ℕ) → j < n → w.at (a + j) ≡ bitwise (as_operator op) (v.at (a + j)) (byte_of number j))

    each : (q : Location) → StandsFrom e q n a Own → ChangesBits (block e (each_changed op q number n) v)
    each q st =
        let h = alike op e q number n a v st free bytes in
        let w = block e (each_changed op q number n) v in
        (kept v w a n h.keeps, alike_changes_bits op e q number n a v w differs st free bytes h)

    by_test : (r : ℕ) (b : Bool) → changes_pair op r number n ≡ b → StandsFrom e (InRegisters r) n a Own
        → ChangesBits (block e (if b then changed_pair op r number ++ rest_changed op r number (n - 2)
        else each_changed op (InRegisters r) number n) v)
    by_test r false t st = each (InRegisters r) st
    by_test r true t st =
        let low = (and_parts (is_low_pair r n) (not (is_neutral op (byte_of number 0)) && not (is_neutral op (byte_of number 1))) t).0 in
        let w = block e (changed_pair op r number ++ rest_changed op r number (n - 2)) v in
        let h = all_alike op e r number n a v st free bytes low in
        (beside_kept op e r number n a v st free bytes low w h, pair_changes_bits op e r number n a v st free bytes low w differs h)

    by_place : (q : Location) → StandsFrom e q n a Own → ChangesBits (block e (changed_code op q number n) v)
    by_place (InRegisters r) st = by_test r (changes_pair op r number n) refl st
    by_place (InMemory o k) st = each (InMemory o k) st
