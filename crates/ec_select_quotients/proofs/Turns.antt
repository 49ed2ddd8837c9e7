-- One turn of a division: the next bit is brought, and where the remainder is not less the divisor is taken.
use Rattle.std.proofs.Common.{◌≡◌, ◌≢◌, ℕ, zero, suc, ◌+◌, ◌*◌, ◌%◌, ◌^◌, ◌<◌, ◌≤◌, ⊎_elim, Bool, true, false, refl, ap, ◌∙◌}
use Rattle.std.proofs.Common.{arith, ◌++◌}
use Rattle.std.specs.Prelude.{nat_lt}
use Rattle.std.specs.Int.{from_bool}
use Rattle.std.proofs.lemmas.Bool.{cases_lt}
use Rattle.std.proofs.lemmas.Nat.{mul-le}
use Rattle.ec_asm.specs.declared.pieces.Location.{Location}
use Rattle.ec_asm.specs.declared.pieces.Operator.TheVariants.{Sum}
use Rattle.ec_asm.specs.View.{View}
use Rattle.ec_asm.specs.Change.{Env, Own}
use Rattle.ec_asm.specs.Items.{block}
use Rattle.ec_asm.specs.Pieces.{StandsFrom, Outside, value, operate_code}
use Rattle.ec_asm.specs.PieceLaws.{HoldsNumbers}
use Rattle.ec_asm.proofs.Hoare.{block-append}
use Rattle.ec_asm.proofs.Numbers.{value_below}
use Rattle.ec_asm.proofs.Results.{sums_are_right}
use Rattle.ec_asm.proofs.Sum.{value-same}
use Rattle.ec_select_quotients.specs.Quotients.{divisor_register, number_of, rotate_code, test_code, bring_code, less_code, note_code, take_code}
use Rattle.ec_select_quotients.specs.Laws.{divisor_bytes}
use Rattle.ec_select_quotients.proofs.Rotates.{rotated}
use Rattle.ec_select_quotients.proofs.Rows.{register_is, divisor_same, tested, lessened}
use Rattle.ec_select_quotients.proofs.Marks.{one_more}

-- n bytes from c stand apart from the work registers
pub record IsFar (c n : ℕ) : Type 0 where
  pub low : c < 8 → c + n ≤ 8
  pub above_low : 8 ≤ c → 14 ≤ c
  pub high : c < 26 → c + n ≤ 26
  pub above_high : 26 ≤ c → 32 ≤ c

pub low_outside : (c n k : ℕ) → IsFar c n → 8 ≤ k → k < 14 → Outside c n k
low_outside c n k f a b l =
    ⊎_elim (λ (q : c < 8). let z = f.low q in omega arith) (λ (q : 8 ≤ c). let z = f.above_low q in absurd (omega arith)) (cases_lt c 8)

pub high_outside : (c n k : ℕ) → IsFar c n → 26 ≤ k → k < 32 → Outside c n k
high_outside c n k f a b l =
    ⊎_elim (λ (q : c < 26). let z = f.high q in omega arith)
    (λ (q : 26 ≤ c). let z = f.above_high q in absurd (omega arith)) (cases_lt c 26)

-- the divisor's registers are none of the number's, and none of the remainder's
pub divisor_outside : (c n j : ℕ) → IsFar c n → j < 4 → Outside c n (divisor_register j)
divisor_outside c n j f l =
    ⊎_elim (λ x. low_outside c n (divisor_register j) f (let y = x.1 in omega arith) (let y = x.1 in omega arith))
    (λ x. high_outside c n (divisor_register j) f (let y = x.1 in omega arith) (let y = x.1 in omega arith)) (register_is j l)

pub divisor_above : (n j : ℕ) → n ≤ 4 → j < 4 → Outside 8 n (divisor_register j)
divisor_above n j few l q = ⊎_elim (λ x. let y = x.1 in omega arith) (λ x. let y = x.1 in omega arith) (register_is j l)

pub divisor_some : (j : ℕ) → j < 4 → 2 ≤ divisor_register j
divisor_some j l = ⊎_elim (λ x. let y = x.1 in omega arith) (λ x. let y = x.1 in omega arith) (register_is j l)

-- a byte of the number is outside the low registers
pub beside : (c n m j : ℕ) → IsFar c n → m ≤ 6 → j < n → Outside 8 m (c + j)
beside c n m j f most l a =
    ⊎_elim (λ (q : c < 8). let z = f.low q in absurd (omega arith))
    (λ (q : 8 ≤ c). let z = f.above_low q in omega arith) (cases_lt c 8)

-- ---- the next bit

pub record Brings (v w : View) (c n : ℕ) : Type 0 where
  pub bit : ℕ
  pub small : bit ≤ 1
  pub twice : value w.at c n + bit * 256 ^ n ≡ value v.at c n + value v.at c n
  pub rest : value w.at 8 n ≡ 2 * value v.at 8 n + bit
  pub less : w.flags.c ≡ from_bool (nat_lt (value w.at 8 n) (number_of (divisor_bytes v) n))
  pub numbers : HoldsNumbers w
  pub same : (k : ℕ) → k ≢ 0 → k ≢ 1 → Outside 8 n k → Outside c n k → w.at k ≡ v.at k
  pub inputs : w.inputs ≡ v.inputs
  pub safe : w.safe ≡ v.safe
  pub seen : w.seen ≡ v.seen

brought : (e : Env) (p : Location) (n c : ℕ) (v : View) → StandsFrom e p (suc n) c Own → IsFar c (suc n) → suc n ≤ 4
    → HoldsNumbers v → 2 * value v.at 8 (suc n) + 1 < 256 ^ suc n
    → Brings v (block e (test_code (suc n)) (block e (rotate_code (suc n)) (block e (operate_code Sum p p (suc n)) v))) c (suc n)
brought e p n c v s far most h room =
    let m = suc n in
    let uc = s.clear in
    let v1 = block e (operate_code Sum p p m) v in
    let v2 = block e (rotate_code m) v1 in
    let v3 = block e (test_code m) v2 in
    let a = (sums_are_right e p p m c c v s s (λ l. absurd (omega arith)) h).0 in
    let carry : v1.flags.c ≤ 1 = carry_small (value v1.at c m) v1.flags.c (256 ^ m) (value v.at c m) a.sum
    (value_below v.at c m (λ j l. h (c + j) (omega arith))) in
    let b = rotated e m v1 a.bytes carry in
    let t = tested e n v2 most b.numbers in
    let row_v1 : value v1.at 8 m ≡ value v.at 8 m = value-same v1.at v.at 8 m
    (λ j l. a.keeps.same (8 + j) (omega arith) (omega arith) (low_outside c m (8 + j) far (omega arith) (omega arith))) in
    let divisor_v1 : number_of (divisor_bytes v1) m ≡ number_of (divisor_bytes v) m = divisor_same v v1 m most (λ j l.
    let u = divisor_some j (omega arith) in
    a.keeps.same (divisor_register j) (omega arith) (omega arith) (divisor_outside c m j far (omega arith))) in
    let divisor_v2 : number_of (divisor_bytes v2) m ≡ number_of (divisor_bytes v1) m =
    divisor_same v1 v2 m most (λ j l. b.same (divisor_register j) (divisor_above m j most (omega arith))) in
    let sum : value v2.at 8 m + v2.flags.c * 256 ^ m ≡ 2 * value v.at 8 m + v1.flags.c = b.sum ∙ ap (λ z. 2 * z + v1.flags.c) row_v1 in
    let rest2 : value v2.at 8 m ≡ 2 * value v.at 8 m + v1.flags.c =
    no_carry (value v2.at 8 m) v2.flags.c (256 ^ m) (2 * value v.at 8 m + v1.flags.c) b.bit sum (omega (arith, room, carry)) in
    let row_v3 : value v3.at 8 m ≡ value v2.at 8 m = value-same v3.at v2.at 8 m (λ j l. t.same (8 + j)) in
    let num_v2 : value v2.at c m ≡ value v1.at c m = value-same v2.at v1.at c m (λ j l. b.same (c + j) (beside c m m j far (omega arith) l)) in
    let num_v3 : value v3.at c m ≡ value v2.at c m = value-same v3.at v2.at c m (λ j l. t.same (c + j)) in
    record {
      bit = v1.flags.c;
      small = carry;
      twice = ap (λ z. z + v1.flags.c * 256 ^ m) (num_v3 ∙ num_v2) ∙ a.sum;
      rest = row_v3 ∙ rest2;
      less = t.less ∙ rw (row_v3, divisor_v2, divisor_v1) refl;
      numbers = λ i u. rw (t.same i) (b.numbers i u);
      same = λ i x z o q. t.same i ∙ b.same i o ∙ a.keeps.same i x z q;
      inputs = t.inputs ∙ b.inputs ∙ a.keeps.inputs;
      safe = t.safe ∙ b.safe ∙ a.keeps.safe;
      seen = t.seen ∙ b.seen ∙ a.keeps.seen;
    }
  where
    carry_small : (r c p x : ℕ) → r + c * p ≡ x + x → x < p → c ≤ 1
    carry_small r c p x h l =
        ⊎_elim (λ (q : c < 2). omega arith)
        (λ (q : 2 ≤ c). let w : 2 * p ≤ c * p = mul-le 2 p c p q (omega arith) in absurd (omega (arith, w, h, l))) (cases_lt c 2)

    no_carry : (r c p x : ℕ) → c ≤ 1 → r + c * p ≡ x → x < p → r ≡ x
    no_carry r zero p x b h l = omega (arith, h)
    no_carry r (suc c) p x b h l = absurd (omega (arith, h, l, b))

pub brings : (e : Env) (p : Location) (n c : ℕ) (v : View) → StandsFrom e p (suc n) c Own → IsFar c (suc n) → suc n ≤ 4
    → HoldsNumbers v → 2 * value v.at 8 (suc n) + 1 < 256 ^ suc n
    → Brings v (block e (bring_code p (suc n)) v) c (suc n)
brings e p n c v s far most h room =
    rw (
      block-append e (operate_code Sum p p (suc n)) (rotate_code (suc n) ++ test_code (suc n)) v,
      block-append e (rotate_code (suc n)) (test_code (suc n)) (block e (operate_code Sum p p (suc n)) v),
    ) (brought e p n c v s far most h room)

-- ---- the divisor is taken

-- what is added to the number by a bit of the quotient, and what is left out of it where no bit is noted
abbrev pub noted : (remainder : Bool) → ℕ
noted true = 0
noted false = 1

abbrev pub unnoted : (remainder : Bool) → (quotient : ℕ) → ℕ
unnoted true q = q
unnoted false q = 0

pub record Takes (r : Bool) (v w : View) (c n : ℕ) : Type 0 where
  pub rest : value w.at 8 n + number_of (divisor_bytes v) n ≡ value v.at 8 n
  pub number : value w.at c n ≡ value v.at c n + noted r
  pub numbers : HoldsNumbers w
  pub same : (k : ℕ) → k ≢ 0 → k ≢ 1 → Outside 8 n k → Outside c n k → w.at k ≡ v.at k
  pub inputs : w.inputs ≡ v.inputs
  pub safe : w.safe ≡ v.safe
  pub seen : w.seen ≡ v.seen

took : (r : Bool) (e : Env) (p : Location) (n c : ℕ) (v : View) → StandsFrom e p (suc n) c Own → IsFar c (suc n) → suc n ≤ 4
    → HoldsNumbers v → number_of (divisor_bytes v) (suc n) ≤ value v.at 8 (suc n) → value v.at c (suc n) % 2 ≡ 0
    → Takes r v (block e (note_code r p) (block e (less_code (suc n)) v)) c (suc n)
took true e p n c v s far most h less even =
    let m = suc n in
    let d = lessened e m v most h less in
    let v1 = block e (less_code m) v in
    let num : value v1.at c m ≡ value v.at c m = value-same v1.at v.at c m (λ j l. d.same (c + j) (beside c m m j far (omega arith) l)) in
    record {
      rest = d.rest;
      number = num ∙ omega arith;
      numbers = d.numbers;
      same = λ k x z a b. d.same k a;
      inputs = d.inputs;
      safe = d.safe;
      seen = d.seen;
    }
took false e p n c v s far most h less even =
    let m = suc n in
    let d = lessened e m v most h less in
    let v1 = block e (less_code m) v in
    let num : value v1.at c m ≡ value v.at c m = value-same v1.at v.at c m (λ j l. d.same (c + j) (beside c m m j far (omega arith) l)) in
    let o = one_more e p n c v1 s d.numbers (ap (λ z. z % 2) num ∙ even) in
    let w = block e (note_code false p) v1 in
    let rest : value w.at 8 m ≡ value v1.at 8 m =
    value-same w.at v1.at 8 m (λ j l. o.same (8 + j) (omega arith) (low_outside c m (8 + j) far (omega arith) (omega arith))) in
    record {
      rest = ap (λ z. z + number_of (divisor_bytes v) m) rest ∙ d.rest;
      number = o.number_is ∙ ap (λ z. z + 1) num;
      numbers = o.numbers;
      same = λ k x z a b. o.same k x b ∙ d.same k a;
      inputs = o.inputs ∙ d.inputs;
      safe = o.safe ∙ d.safe;
      seen = o.seen ∙ d.seen;
    }

pub takes : (r : Bool) (e : Env) (p : Location) (n c : ℕ) (v : View) → StandsFrom e p (suc n) c Own → IsFar c (suc n)
    → suc n ≤ 4 → HoldsNumbers v → number_of (divisor_bytes v) (suc n) ≤ value v.at 8 (suc n) → value v.at c (suc n) % 2 ≡ 0
    → Takes r v (block e (take_code r p (suc n)) v) c (suc n)
takes r e p n c v s far most h less even =
    rw (block-append e (less_code (suc n)) (note_code r p) v) (took r e p n c v s far most h less even)
