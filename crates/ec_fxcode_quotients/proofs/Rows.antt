-- A bit is brought to the remainder, and the divisor is taken from it.
use Rattle.std.proofs.Common.{◌≡◌, ◌≢◌, ℕ, suc, ◌+◌, ◌-◌, ◌*◌, ◌/◌, ◌%◌, ◌^◌, ◌<◌, ◌≤◌, ⊎_elim, ◌∷◌, ◌++◌, refl, sym, ap, ◌∙◌, subst, arith}
use Rattle.std.specs.Prelude.{nat_lt}
use Rattle.std.specs.Int.{from_bool}
use Rattle.std.proofs.lemmas.Bool.{cases_eq, cases_lt}
use Rattle.std.proofs.lemmas.Nat.{mod_below, div-add-mod', mod-mul-add, mul-le}
use native.Mathlib.Nat.{pow-suc}
use Rattle.ec_isa.specs.declared.instructions.Instr.TheVariants.{Adc}
use Rattle.ec_asm.specs.declared.items.AsmItem.TheVariants.{Plain}
use Rattle.ec_asm.specs.declared.pieces.Location.{Location}
use Rattle.ec_asm.specs.declared.pieces.Location.TheVariants.{InRegisters, InMemory}
use Rattle.ec_asm.specs.declared.pieces.Operator.TheVariants.{Sum, Difference}
use Rattle.ec_asm.specs.View.{View}
use Rattle.ec_asm.specs.Change.{Env, Own, change, set}
use Rattle.ec_asm.specs.Items.{block}
use Rattle.ec_asm.specs.Pieces.{address, KindIs, StandsFrom, Outside, value, operate_code, compare_code}
use Rattle.ec_asm.specs.PieceLaws.{HoldsNumbers}
use Rattle.ec_asm.proofs.Bytes.{put_here, put_other}
use Rattle.ec_asm.proofs.Hoare.{chain_holds, block-append}
use Rattle.ec_asm.proofs.Numbers.{value_below}
use Rattle.ec_asm.proofs.Results.{sums_are_right, differences_are_right, comparisons_tell_less, comparisons_keep}
use Rattle.ec_asm.proofs.Sum.{not_here, fewer, value-same}
use Rattle.ec_select_quotients.specs.Quotients.{mark_code as lowest_code}
use Rattle.ec_select_quotients.proofs.Marks.{one_more}
use Rattle.ec_fxcode.specs.Clamps.{take_byte, put_byte}
use Rattle.ec_fxcode.proofs.Moves.{byte_is_taken, byte_is_put}
use Rattle.ec_fxcode_quotients.specs.Quotients.{further, rotate_byte, rotate_code, bring_code, take_code}

-- ---- places

pub further_stands : (e : Env) (w : Location) (n i k s : ℕ) → i + k ≤ n → StandsFrom e w n s Own
    → StandsFrom e (further w i) k (s + i) Own
further_stands e (InRegisters r) n i k s l st = record {
  at = λ j m. let q = st.at (i + j) (omega arith) in omega arith;
  kind = λ j m. refl;
  clear = let c = st.clear in omega arith;
}
further_stands e (InMemory o a) n i k s l st = record {
  at = λ j m. (let q : a + i + j ≡ a + (i + j) = omega arith in ap (e.address_of o) q ∙ st.at (i + j) (omega arith) ∙ omega arith);
  kind = λ j m. (let q : s + (i + j) ≡ s + i + j = omega arith in subst (λ t. e.kind t ≡ Own) q (st.kind (i + j) (omega arith)));
  clear = let c = st.clear in omega arith;
}

-- the divisor, the remainder and the number stand one above the other, above all registers
pub record AreRows (jd jr jx b : ℕ) : Type 0 where
  pub low : 32 ≤ jd
  pub first : jd + suc b ≤ jr
  pub second : jr + suc b ≤ jx

-- ---- the remainder doubled, with a bit from below

record RotatesByte (v w : View) (a : ℕ) : Type 0 where
  here : w.at a ≡ (v.at a + v.at a + v.flags.c) % 256
  carry : w.flags.c ≡ (v.at a + v.at a + v.flags.c) / 256
  same : (k : ℕ) → k ≢ 0 → k ≢ a → w.at k ≡ v.at k
  inputs : w.inputs ≡ v.inputs
  safe : w.safe ≡ v.safe
  seen : w.seen ≡ v.seen

byte_rotated : (e : Env) (p : Location) (i a : ℕ) (v : View) → address e p i ≡ a → KindIs e p a Own
    → RotatesByte v (block e (rotate_byte p i) v) a
byte_rotated e p i a v at kind =
    let v1 = set 0 (v.at a) v in
    let v2 = change e (Adc 0 0) v1 in
    let all : block e (rotate_byte p i) v ≡ set a (v2.at 0) v2 =
    block-append e (take_byte p i) (Plain (Adc 0 0) ∷ put_byte 0 p i) v
    ∙ ap (λ u. block e (Plain (Adc 0 0) ∷ put_byte 0 p i) u) (byte_is_taken e p i a v at kind)
    ∙ byte_is_put e 0 p i a v2 at kind in
    subst (λ u. RotatesByte v u a) (sym all) (record {
      here = put_here v2.at a _ a refl;
      carry = refl;
      same = λ k z n. put_other v2.at a _ k n ∙ put_other v1.at 0 _ k z ∙ put_other v.at 0 _ k z;
      inputs = refl;
      safe = refl;
      seen = refl;
    })

-- the first i bytes are doubled
pub record RotatesTo (v0 : View) (a c i : ℕ) (v : View) : Type 0 where
  pub sum : value v.at a i + v.flags.c * 256 ^ i ≡ 2 * value v0.at a i + c
  pub bit : v.flags.c ≤ 1
  pub numbers : HoldsNumbers v
  pub same : (k : ℕ) → k ≢ 0 → Outside a i k → v.at k ≡ v0.at k
  pub inputs : v.inputs ≡ v0.inputs
  pub safe : v.safe ≡ v0.safe
  pub seen : v.seen ≡ v0.seen

doubled : (r q x p c d : ℕ) → r + d * p ≡ 2 * q + c
    → r + (x + x + d) % 256 * p + (x + x + d) / 256 * (p * 256) ≡ 2 * (q + x * p) + c
doubled r q x p c d h =
    let e = div-add-mod' (x + x + d) 256 in
    let m : ((x + x + d) / 256 * 256 + (x + x + d) % 256) * p ≡ (x + x + d) * p = ap (λ t. t * p) e in
    omega (arith, m, h)

rotate_step : (e : Env) (p : Location) (n a c : ℕ) (v0 : View) → StandsFrom e p n a Own → HoldsNumbers v0 → (i : ℕ)
    → i < n → (v : View) → RotatesTo v0 a c i v → RotatesTo v0 a c (suc i) (block e (rotate_byte p i) v)
rotate_step e p n a c v0 st h0 i l v h =
    let w = block e (rotate_byte p i) v in
    let two = st.clear in
    let o = byte_rotated e p i (a + i) v (st.at i l) (st.kind i l) in
    let x = v0.at (a + i) in
    let d = v.flags.c in
    let bit = h.bit in
    let ex : v.at (a + i) ≡ x = h.same (a + i) (omega arith) (λ m. omega arith) in
    let small : x < 256 = h0 (a + i) (omega arith) in
    let low : value w.at a i ≡ value v.at a i = value-same w.at v.at a i (λ j m. o.same (a + j) (omega arith) (omega arith)) in
    let here : w.at (a + i) ≡ (x + x + d) % 256 = o.here ∙ ap (λ t. (t + t + d) % 256) ex in
    let below : w.at (a + i) < 256 = subst (λ z. z < 256) (sym here) (mod_below (x + x + d) 256 (omega arith)) in
    let carry : w.flags.c ≡ (x + x + d) / 256 = o.carry ∙ ap (λ t. (t + t + d) / 256) ex in
    record {
      sum = rw (low, here, carry, pow-suc 256 i) (doubled (value v.at a i) (value v0.at a i) x (256 ^ i) c d h.sum);
      bit = rw carry (omega arith);
      numbers = λ k u. ⊎_elim (λ (q : k ≡ a + i). subst (λ z. w.at z < 256) (sym q) below)
          (λ q. rw (o.same k (omega arith) q) (h.numbers k u)) (cases_eq k (a + i));
      same = λ k z m. o.same k z (not_here k a i m) ∙ h.same k z (fewer k a i m);
      inputs = o.inputs ∙ h.inputs;
      safe = o.safe ∙ h.safe;
      seen = o.seen ∙ h.seen;
    }

pub rotates : (e : Env) (p : Location) (n a : ℕ) (v : View) → StandsFrom e p n a Own → HoldsNumbers v → v.flags.c ≤ 1
    → RotatesTo v a v.flags.c n (block e (rotate_code p n) v)
rotates e p n a v st h bit =
    chain_holds e (rotate_byte p) (RotatesTo v a v.flags.c) n (λ i l w k. rotate_step e p n a v.flags.c v st h i l w k) v
    (record { sum = omega arith; bit = bit; numbers = h; same = λ k z o. refl; inputs = refl; safe = refl; seen = refl })

-- ---- the next bit

-- a bit fell out of the number, and is the lowest one of the doubled remainder, which may have lost its highest bit
pub record Brings (v w : View) (jd jr jx b n : ℕ) : Type 0 where
  pub bit : ℕ
  pub over : ℕ
  pub small : bit ≤ 1
  pub twice : value w.at jx (suc n) + bit * 256 ^ suc n ≡ value v.at jx (suc n) + value v.at jx (suc n)
  pub rest : value w.at jr (suc b) + over * 256 ^ suc b ≡ 2 * value v.at jr (suc b) + bit
  pub carry : w.flags.c ≡ from_bool (nat_lt (value w.at jr (suc b)) (value v.at jd (suc b)))
  pub numbers : HoldsNumbers w
  pub same : (k : ℕ) → k ≢ 0 → k ≢ 1 → Outside jr (suc b) k → Outside jx (suc n) k → w.at k ≡ v.at k
  pub inputs : w.inputs ≡ v.inputs
  pub safe : w.safe ≡ v.safe
  pub seen : w.seen ≡ v.seen

carry_small : (r c p x : ℕ) → r + c * p ≡ x + x → x < p → c ≤ 1
carry_small r c p x h l =
    ⊎_elim (λ (q : c < 2). omega arith)
    (λ (q : 2 ≤ c). let w : 2 * p ≤ c * p = mul-le 2 p c p q (omega arith) in absurd (omega (arith, w, h, l))) (cases_lt c 2)

brought : (e : Env) (d r x : Location) (b n jd jr jx : ℕ) (v : View) → StandsFrom e d (suc b) jd Own
    → StandsFrom e r (suc b) jr Own → StandsFrom e x (suc n) jx Own → AreRows jd jr jx b → HoldsNumbers v
    → Brings v
    (block e (compare_code d r (suc b)) (block e (rotate_code r (suc b)) (block e (operate_code Sum x x (suc n)) v))) jd jr jx b n
brought e d r x b n jd jr jx v sd sr sx rows h =
    let m = suc b in
    let low = rows.low in
    let first = rows.first in
    let second = rows.second in
    let v1 = block e (operate_code Sum x x (suc n)) v in
    let v2 = block e (rotate_code r m) v1 in
    let v3 = block e (compare_code d r m) v2 in
    let a = (sums_are_right e x x (suc n) jx jx v sx sx (λ l. absurd (omega arith)) h).0 in
    let carry : v1.flags.c ≤ 1 = carry_small (value v1.at jx (suc n)) v1.flags.c (256 ^ suc n) (value v.at jx (suc n)) a.sum
    (value_below v.at jx (suc n) (λ j l. h (jx + j) (omega arith))) in
    let o = rotates e r m jr v1 sr a.bytes carry in
    let k = comparisons_keep e d r m jd jr v2 sd sr o.numbers in
    let t = comparisons_tell_less e d r b jd jr v2 sd sr o.numbers in
    let row1 : value v1.at jr m ≡ value v.at jr m =
    value-same v1.at v.at jr m (λ j l. a.keeps.same (jr + j) (omega arith) (omega arith) (λ z. absurd (omega arith))) in
    let low1 : value v1.at jd m ≡ value v.at jd m =
    value-same v1.at v.at jd m (λ j l. a.keeps.same (jd + j) (omega arith) (omega arith) (λ z. absurd (omega arith))) in
    let low2 : value v2.at jd m ≡ value v1.at jd m =
    value-same v2.at v1.at jd m (λ j l. o.same (jd + j) (omega arith) (λ z. absurd (omega arith))) in
    let sum : value v2.at jr m + v2.flags.c * 256 ^ m ≡ 2 * value v.at jr m + v1.flags.c = o.sum ∙ ap (λ z. 2 * z + v1.flags.c) row1 in
    let row3 : value v3.at jr m ≡ value v2.at jr m = value-same v3.at v2.at jr m (λ j l. k.same (jr + j) (omega arith) (omega arith)) in
    let num2 : value v2.at jx (suc n) ≡ value v1.at jx (suc n) =
    value-same v2.at v1.at jx (suc n) (λ j l. o.same (jx + j) (omega arith) (λ z. omega arith)) in
    let num3 : value v3.at jx (suc n) ≡ value v2.at jx (suc n) =
    value-same v3.at v2.at jx (suc n) (λ j l. k.same (jx + j) (omega arith) (omega arith)) in
    record {
      bit = v1.flags.c;
      over = v2.flags.c;
      small = carry;
      twice = ap (λ z. z + v1.flags.c * 256 ^ suc n) (num3 ∙ num2) ∙ a.sum;
      rest = ap (λ z. z + v2.flags.c * 256 ^ m) row3 ∙ sum;
      carry = t ∙ rw (row3, low2, low1) refl;
      numbers = λ i u. rw (k.same i (omega arith) (omega arith)) (o.numbers i u);
      same = λ i y z f g. k.same i y z ∙ o.same i y f ∙ a.keeps.same i y z g;
      inputs = k.inputs ∙ o.inputs ∙ a.keeps.inputs;
      safe = k.safe ∙ o.safe ∙ a.keeps.safe;
      seen = k.seen ∙ o.seen ∙ a.keeps.seen;
    }

pub brings : (e : Env) (d r x : Location) (b n jd jr jx : ℕ) (v : View) → StandsFrom e d (suc b) jd Own
    → StandsFrom e r (suc b) jr Own → StandsFrom e x (suc n) jx Own → AreRows jd jr jx b → HoldsNumbers v
    → Brings v (block e (bring_code d r x (suc b) (suc n)) v) jd jr jx b n
brings e d r x b n jd jr jx v sd sr sx rows h =
    rw (
      block-append e (operate_code Sum x x (suc n)) (rotate_code r (suc b) ++ compare_code d r (suc b)) v,
      block-append e (rotate_code r (suc b)) (compare_code d r (suc b)) (block e (operate_code Sum x x (suc n)) v),
    ) (brought e d r x b n jd jr jx v sd sr sx rows h)

-- ---- the divisor is taken

pub record Takes (v w : View) (jd jr jx b n : ℕ) : Type 0 where
  pub rest : value w.at jr (suc b) + value v.at jd (suc b) ≡ value v.at jr (suc b)
  pub number : value w.at jx (suc n) ≡ value v.at jx (suc n) + 1
  pub numbers : HoldsNumbers w
  pub same : (k : ℕ) → k ≢ 0 → k ≢ 1 → Outside jr (suc b) k → Outside jx (suc n) k → w.at k ≡ v.at k
  pub inputs : w.inputs ≡ v.inputs
  pub safe : w.safe ≡ v.safe
  pub seen : w.seen ≡ v.seen

wrapped : (r d p : ℕ) → d ≤ r → r < p → (r + p - d) % p ≡ r - d
wrapped r d p l k =
    let e : r + p - d ≡ 1 * p + (r - d) = omega arith in
    ap (λ z. z % p) e ∙ mod-mul-add 1 p (r - d) (omega arith)

took : (e : Env) (d r x : Location) (b n jd jr jx : ℕ) (v : View) → StandsFrom e d (suc b) jd Own
    → StandsFrom e r (suc b) jr Own → StandsFrom e x (suc n) jx Own → AreRows jd jr jx b → HoldsNumbers v
    → value v.at jd (suc b) ≤ value v.at jr (suc b) → value v.at jx (suc n) % 2 ≡ 0
    → Takes v (block e (lowest_code x) (block e (operate_code Difference d r (suc b)) v)) jd jr jx b n
took e d r x b n jd jr jx v sd sr sx rows h less even =
    let m = suc b in
    let low = rows.low in
    let first = rows.first in
    let second = rows.second in
    let v1 = block e (operate_code Difference d r m) v in
    let w = block e (lowest_code x) v1 in
    let f = differences_are_right e d r m jd jr v sd sr (λ l. omega arith) h in
    let num : value v1.at jx (suc n) ≡ value v.at jx (suc n) =
    value-same v1.at v.at jx (suc n) (λ j l. f.0.keeps.same (jx + j) (omega arith) (omega arith) (λ z. omega arith)) in
    let o = one_more e x n jx v1 sx f.0.bytes (ap (λ z. z % 2) num ∙ even) in
    let high : value v.at jr m < 256 ^ m = value_below v.at jr m (λ j l. h (jr + j) (omega arith)) in
    let rest1 : value v1.at jr m ≡ value v.at jr m - value v.at jd m =
    f.1 ∙ wrapped (value v.at jr m) (value v.at jd m) (256 ^ m) less high in
    let rest2 : value w.at jr m ≡ value v1.at jr m =
    value-same w.at v1.at jr m (λ j l. o.same (jr + j) (omega arith) (λ z. absurd (omega arith))) in
    record {
      rest = omega (arith, rest1, rest2, less);
      number = o.number_is ∙ ap (λ z. z + 1) num;
      numbers = o.numbers;
      same = λ k y z f1 g. o.same k y g ∙ f.0.keeps.same k y z f1;
      inputs = o.inputs ∙ f.0.keeps.inputs;
      safe = o.safe ∙ f.0.keeps.safe;
      seen = o.seen ∙ f.0.keeps.seen;
    }

pub takes : (e : Env) (d r x : Location) (b n jd jr jx : ℕ) (v : View) → StandsFrom e d (suc b) jd Own
    → StandsFrom e r (suc b) jr Own → StandsFrom e x (suc n) jx Own → AreRows jd jr jx b → HoldsNumbers v
    → value v.at jd (suc b) ≤ value v.at jr (suc b) → value v.at jx (suc n) % 2 ≡ 0
    → Takes v (block e (take_code d r x (suc b)) v) jd jr jx b n
takes e d r x b n jd jr jx v sd sr sx rows h less even =
    rw (block-append e (operate_code Difference d r (suc b)) (lowest_code x) v) (took e d r x b n jd jr jx v sd sr sx rows h less even)
