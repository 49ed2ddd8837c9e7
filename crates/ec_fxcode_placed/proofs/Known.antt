-- A number in registers from R16 on, to which 2 ^ k - 1 is added by known bytes where it is negative, and over which a jump
-- leads where it is not.
use Rattle.std.proofs.Common.{◌≡◌, ◌≢◌, ℕ, zero, suc, ◌+◌, ◌-◌, ◌*◌, ◌%◌, ◌^◌, ◌<◌, ◌≤◌, ⊎_elim, true, false, refl, sym, ap, ◌∙◌}
use Rattle.std.proofs.Common.{subst, arith, [], ◌∷◌, pos}
use Rattle.std.specs.Prelude.{min, nat_lt, if◌then◌else◌, ◌==◌}
use Rattle.std.specs.Int.{from_bool, bit_at}
use Rattle.std.proofs.lemmas.Bool.{cases_lt, cases_eq, ne_eqb, le-leb, lt-ltb}
use Rattle.std.proofs.lemmas.Nat.{mod_below, pow-add, pow_pos}
use Rattle.std.proofs.lemmas.List.Sums.{sum_by-append}
use Rattle.std.proofs.Math.Pow.{pow_mono}
use native.Mathlib.Nat.{pow-suc}
use Rattle.ec_isa.specs.declared.instructions.Instr.TheVariants.{Sbrs, Rjmp}
use Rattle.ec_isa.specs.Table.{in_table}
use Rattle.ec_avr.specs.Flags.{byte_difference}
use Rattle.ec_asm.specs.declared.items.AsmItem.TheVariants.{Plain}
use Rattle.ec_asm.specs.View.{View}
use Rattle.ec_asm.specs.Change.{Env, change, set_both, difference_flags}
use Rattle.ec_asm.specs.Run.{Running, act}
use Rattle.ec_asm.specs.Items.{At, HasAt, all_straight, block, chain, code_steps, code_words, item_words}
use Rattle.ec_asm.specs.Pieces.{Outside, value, carry_at, zero_at}
use Rattle.ec_asm.specs.PieceLaws.{HoldsNumbers}
use Rattle.ec_asm.specs.Takes.{Goes}
use Rattle.ec_asm.proofs.Bytes.{put_here, put_other}
use Rattle.ec_asm.proofs.Compared.{byte_borrow, borrow_bit}
use Rattle.ec_asm.proofs.Hoare.{block_goes, goes_on_to, chain_holds, chain_straight, steps-chain}
use Rattle.ec_asm.proofs.ItemWords.{all_far, chain_far, chain_words, straight_room}
use Rattle.ec_asm.proofs.Numbers.{value_below}
use Rattle.ec_asm.proofs.Sum.{value-same, not_here, fewer}
use Rattle.ec_asm.proofs.Takes.{set_bit_skips}
use Rattle.ec_fxcode.specs.ClampLaws.{IsClearOfEnds}
use Rattle.ec_fxcode.proofs.Alike.{fill, fill_low, fill_high}
use Rattle.ec_fxcode.proofs.Clamped.{bits_power, half_power, two_halves}
use Rattle.ec_fxcode.proofs.Parts.{sign_is}
use Rattle.ec_fxcode_placed.specs.Counts.{mask_byte, known_bias_by, known_bias_byte, known_bias_code}
use Rattle.ec_fxcode_placed.proofs.Biased.{Biased, biased_is, after}

-- ---- the bytes that are taken away

abbrev taken : (k i : ℕ) → ℕ
taken k zero = 256 - mask_byte k zero
taken k (suc i) = 255 - mask_byte k (suc i)

-- the number of i bytes
abbrev taken_whole : (k i : ℕ) → ℕ
taken_whole k zero = 0
taken_whole k (suc i) = taken_whole k i + taken k i * 256 ^ i

abbrev mask_whole : (k i : ℕ) → ℕ
mask_whole k zero = 0
mask_whole k (suc i) = mask_whole k i + mask_byte k i * 256 ^ i

byte_power : (j : ℕ) → j ≤ 8 → 2 ^ j ≤ 256
byte_power j l = pow_mono l

mask_small : (k i : ℕ) → mask_byte k i ≤ 255
mask_small k i = let p = byte_power (min 8 (k - 8 * i)) (omega arith) in omega (arith, p)

pub some_mask : (k : ℕ) → 1 ≤ k → 1 ≤ mask_byte k zero
some_mask k some =
    let p : 2 ≤ 2 ^ min 8 (k - 8 * 0) = pow_mono {i = 1} {j = min 8 (k - 8 * 0)} (omega (arith, some)) in
    omega (arith, p)

taken_small : (k i : ℕ) → 1 ≤ k → taken k i < 256
taken_small k (suc i) some = omega arith
taken_small k zero some = let p = some_mask k some in omega (arith, p)

-- the bytes of the mask are those of 2 ^ k - 1
masked : (k i : ℕ) → mask_whole k i + 1 ≡ 2 ^ min k (8 * i)
masked k zero = let e : min k (8 * 0) ≡ 0 = omega arith in rw e refl
masked k (suc i) =
    ⊎_elim
    (λ (less : k < 8 * i).
    let none : min 8 (k - 8 * i) ≡ 0 = omega (arith, less) in
    let a : min k (8 * i) ≡ k = omega (arith, less) in
    let b : min k (8 * suc i) ≡ k = omega (arith, less) in
    let h : mask_whole k i + 1 ≡ 2 ^ k = masked k i ∙ ap (λ t. 2 ^ t) a in
    rw (none, b) (omega (arith, h)))
    (λ (more : 8 * i ≤ k).
    let j = min 8 (k - 8 * i) in
    let a : min k (8 * i) ≡ 8 * i = omega (arith, more) in
    let b : min k (8 * suc i) ≡ 8 * i + j = omega (arith, more) in
    let h : mask_whole k i + 1 ≡ 256 ^ i = masked k i ∙ ap (λ t. 2 ^ t) a ∙ bits_power i in
    let p : 2 ^ (8 * i + j) ≡ 256 ^ i * 2 ^ j = pow-add 2 (8 * i) j ∙ ap (λ t. t * 2 ^ j) (bits_power i) in
    rw (b, p) (raised (mask_whole k i) (256 ^ i) (2 ^ j) h (pow_pos j)))
    (cases_lt k (8 * i))
  where
    raised : (m p q : ℕ) → m + 1 ≡ p → 0 < q → m + (q - 1) * p + 1 ≡ p * q
    raised m p q h some =
        let e : (q - 1 + 1) * p ≡ q * p = ap (λ t. t * p) (omega (arith, some)) in
        omega (arith, h, e)

-- both are a power of 256
all_taken : (k n : ℕ) → taken_whole k (suc n) + mask_whole k (suc n) ≡ 256 ^ suc n
all_taken k zero = let m = mask_small k 0 in omega (arith, m)
all_taken k (suc n) =
    let h = all_taken k n in
    let m = mask_small k (suc n) in
    let p = pow-suc 256 (suc n) in
    let e : (255 - mask_byte k (suc n) + mask_byte k (suc n)) * 256 ^ suc n ≡ 255 * 256 ^ suc n = ap (λ t. t * 256 ^ suc n) (omega (arith, m)) in
    omega (arith, h, p, e)

-- ---- bytes less these

record LessTo (v0 : View) (r k i : ℕ) (v : View) : Type 0 where
  sum : value v.at r i + taken_whole k i ≡ value v0.at r i + carry_at i v.flags * 256 ^ i
  bit : carry_at i v.flags ≤ 1
  held : (j : ℕ) → j < i → v.at (r + j) < 256
  same : (j : ℕ) → Outside r i j → v.at j ≡ v0.at j
  inputs : v.inputs ≡ v0.inputs
  safe : v.safe ≡ v0.safe
  seen : v.seen ≡ v0.seen

known_change : (e : Env) (k i d : ℕ) (v : View) → change e (known_bias_by k i d) v ≡
    set_both d (byte_difference (v.at d) (taken k i) (carry_at i v.flags))
    (difference_flags v.flags (v.at d) (taken k i) (carry_at i v.flags) (zero_at i v.flags)) v
known_change e k zero d v = refl
known_change e k (suc i) d v = refl

record Lessens (v w : View) (k i d : ℕ) : Type 0 where
  here : w.at d ≡ byte_difference (v.at d) (taken k i) (carry_at i v.flags)
  carry : w.flags.c ≡ from_bool (nat_lt (v.at d) (taken k i + carry_at i v.flags))
  other : (j : ℕ) → j ≢ d → w.at j ≡ v.at j
  inputs : w.inputs ≡ v.inputs
  safe : w.safe ≡ v.safe
  seen : w.seen ≡ v.seen

lessens : (e : Env) (r k i : ℕ) (v : View) → Lessens v (block e (known_bias_byte r k i) v) k i (r + i)
lessens e r k i v =
    let d = r + i in
    let is = known_change e k i d v in
    record {
      here = ap (λ (u : View). u.at d) is ∙ put_here v.at d _ d refl;
      carry = ap (λ (u : View). u.flags.c) is;
      other = λ j q. ap (λ (u : View). u.at j) is ∙ put_other v.at d _ j q;
      inputs = ap (λ (u : View). u.inputs) is;
      safe = ap (λ (u : View). u.safe) is;
      seen = ap (λ (u : View). u.seen) is;
    }

less_digit : (V T A x y t c d p : ℕ) → V + T ≡ A + c * p → x + 256 * d ≡ t + c + y
    → V + y * p + (T + t * p) ≡ A + x * p + d * (p * 256)
less_digit V T A x y t c d p h k =
    let q : (x + 256 * d) * p ≡ (t + c + y) * p = ap (λ s. s * p) k in
    omega (arith, q, h)

less_step : (e : Env) (r k : ℕ) (v0 : View) → 2 ≤ r → 1 ≤ k → HoldsNumbers v0 → (i : ℕ) (v : View)
    → LessTo v0 r k i v → LessTo v0 r k (suc i) (block e (known_bias_byte r k i) v)
less_step e r k v0 two some numbers i v h =
    let w = block e (known_bias_byte r k i) v in
    let o = lessens e r k i v in
    let x = v0.at (r + i) in
    let c = carry_at i v.flags in
    let t = taken k i in
    let y = w.at (r + i) in
    let bx : x < 256 = numbers (r + i) (omega (arith, two)) in
    let bt = taken_small k i some in
    let bit = h.bit in
    let ex : v.at (r + i) ≡ x = h.same (r + i) (λ z. omega arith) in
    let low = value-same w.at v.at r i (λ j q. o.other (r + j) (omega (arith, q))) in
    let is : y ≡ byte_difference x t c = o.here ∙ rw ex refl in
    let carry : w.flags.c ≡ from_bool (nat_lt x (t + c)) = o.carry ∙ rw ex refl in
    let by : y < 256 = rw is (mod_below (x + 256 - (t + c)) 256 (omega arith)) in
    let digit : x + 256 * w.flags.c ≡ t + c + y = rw (carry, is) (byte_borrow x t c bx bt bit) in
    record {
      sum = rw (low, pow-suc 256 i)
          (less_digit (value v.at r i) (taken_whole k i) (value v0.at r i) x y t c w.flags.c (256 ^ i) h.sum digit);
      bit = rw carry (borrow_bit x t c);
      held = λ j l. ⊎_elim (λ (q : j ≡ i). subst (λ s. w.at (r + s) < 256) (sym q) by)
          (λ (q : j ≢ i). let s : w.at (r + j) ≡ v.at (r + j) = o.other (r + j) (omega (arith, q)) in rw s (h.held j (omega (arith, l, q))))
          (cases_eq j i);
      same = λ j u. o.other j (not_here j r i u) ∙ h.same j (fewer j r i u);
      inputs = o.inputs ∙ h.inputs;
      safe = o.safe ∙ h.safe;
      seen = o.seen ∙ h.seen;
    }

-- ---- the code

one_straight : (r k i : ℕ) → all_straight (known_bias_byte r k i) ≡ true
one_straight r k zero = refl
one_straight r k (suc i) = refl

one_step : (r k i : ℕ) → code_steps (known_bias_byte r k i) ≡ 1
one_step r k zero = refl
one_step r k (suc i) = refl

one_word : (r k i : ℕ) → code_words (known_bias_byte r k i) ≡ 1
one_word r k zero = refl
one_word r k (suc i) = refl

one_far : (e : Env) (r k i : ℕ) → all_far e (known_bias_byte r k i) ≡ true
one_far e r k i = refl

pub known_bias_words : (r n k : ℕ) → code_words (known_bias_code r n k) ≡ 2 + n
known_bias_words r n k =
    let test = Plain (Sbrs (r + (n - 1)) 7) ∷ Plain (Rjmp (pos n)) ∷ [] in
    let w = chain_words (known_bias_byte r k) n 1 (one_word r k) in
    omega (arith, sum_by-append item_words test (chain (known_bias_byte r k) n), w)

pub known_in_table : (k i d : ℕ) → 1 ≤ k → 16 ≤ d → d < 32 → in_table (known_bias_by k i d) ≡ true
known_in_table k zero d some high low =
    let m = some_mask k some in
    rw (le-leb 16 d high, lt-ltb d 32 low, lt-ltb (256 - mask_byte k zero) 256 (omega (arith, m))) refl
known_in_table k (suc i) d some high low =
    rw (le-leb 16 d high, lt-ltb d 32 low, lt-ltb (255 - mask_byte k (suc i)) 256 (omega arith)) refl

-- ---- the run

-- from one word to another in at most so many steps, which leaves the number with its bias
pub record RunsBiased (e : Env) (most pc : ℕ) (v : View) (end r n k : ℕ) : Type 0 where
  pub steps : ℕ
  pub at_most : steps ≤ most
  pub last : View
  pub goes : Goes e steps pc v end last
  pub biased : Biased v last r n k

turned_round : (u x D b N c : ℕ) → c ≤ 1 → u + D ≡ x + c * N → D + b ≡ N → u + (1 - c) * N ≡ x + b
turned_round u x D b N zero l h w = omega (arith, h, w)
turned_round u x D b N (suc zero) l h w = omega (arith, h, w)
turned_round u x D b N (suc (suc c)) l h w = absurd (omega (arith, l))

module _ (e : Env) (r n k pc end : ℕ) (v : View) (two : 2 ≤ r) (clear : IsClearOfEnds r (suc n)) (some : 1 ≤ k) (few : k < 8 * suc n)
    (numbers : HoldsNumbers v) (stands : HasAt e (known_bias_code r (suc n) k) pc end) where
  abbrev m : ℕ
  m = suc n

  abbrev x : ℕ
  x = value v.at r m

  abbrev top : ℕ
  top = v.at (r + n)

  abbrev jump : ℕ
  jump = stands.0

  abbrev first : ℕ
  first = stands.2.0

  abbrev bytes : HasAt e (chain (known_bias_byte r k) m) first end
  bytes = stands.2.2

  over : At e (Rjmp (pos m)) jump first
  over = stands.2.1

  top_small : top < 256
  top_small = numbers (r + n) (omega (arith, two))

  held : (j : ℕ) → j < m → v.at (r + j) < 256
  held j l = numbers (r + j) (omega (arith, two))

  below : x < 256 ^ m
  below = value_below v.at r m held

  -- a shift by so few bits leaves the sign
  fits : 2 ^ k ≤ 128 * 256 ^ n
  fits =
      let h : 2 ^ k ≤ 2 ^ (8 * suc n - 1) = pow_mono (omega (arith, few)) in
      let p = half_power n in
      omega (arith, h, p)

  tested : Goes e 1 pc v (if bit_at top 7 == 1 then first else jump) v
  tested =
      let t : r + (m - 1) ≡ r + n = omega arith in
      let at : At e (Sbrs (r + n) 7) pc jump = subst (λ i. At e (Sbrs i 7) pc jump) t stands.1 in
      set_bit_skips e (r + n) 7 (Rjmp (pos m)) pc jump first v at over

  room : (end ≡ first + m) × (end < 65536)
  room =
      let straight = chain_straight (known_bias_byte r k) m (one_straight r k) in
      let far = chain_far e (known_bias_byte r k) m (λ i l. one_far e r k i) in
      let s = straight_room e (chain (known_bias_byte r k) m) first end straight far bytes in
      let w = chain_words (known_bias_byte r k) m 1 (one_word r k) in
      let a = s.0 in
      (omega (arith, a, w), s.1 over.room)

  plus : top < 128 → RunsBiased e (1 + m) pc v end r m k
  plus low =
      let q : (bit_at top 7 == 1) ≡ false = ne_eqb (bit_at top 7) 1 (omega (arith, low)) in
      let test : Goes e 1 pc v jump v = subst (λ b. Goes e 1 pc v (if b then first else jump) v) q tested in
      let ends = over.ends in
      let a = room.0 in
      let b = room.1 in
      let to : (jump + 1 + m) % 65536 ≡ end = omega (arith, ends, a, b) in
      let jumps : Goes e 1 jump v end v = record { by = ap (λ o. act e o jump v) over.is ∙ ap (λ i. Running i v) to } in
      let none = fill_low top low in
      record {
        steps = 1 + 1;
        at_most = omega arith;
        last = v;
        goes = goes_on_to e 1 1 pc jump end v v v test jumps;
        biased = record {
          toward = λ y is. biased_is (256 ^ m) (128 * 256 ^ n) x (fill top) 0 x 0 k y below below (omega arith) (two_halves n) fits (pow_pos k)
              (sign_is v.at r n held) (λ z. refl) (λ z. absurd (omega (arith, z, none))) (omega arith) is;
          numbers = numbers;
          same = λ j a b c d o. refl;
          inputs = refl;
          safe = refl;
          seen = refl;
        };
      }

  minus : 128 ≤ top → RunsBiased e (1 + m) pc v end r m k
  minus high =
      let bit : bit_at top 7 ≡ 1 = (let l = top_small in omega (arith, high, l)) in
      let test : Goes e 1 pc v first v =
      subst (λ i. Goes e 1 pc v (if i == 1 then first else jump) v) bit tested in
      let code = chain (known_bias_byte r k) m in
      let w = block e code v in
      let straight = chain_straight (known_bias_byte r k) m (one_straight r k) in
      let take = steps-chain (known_bias_byte r k) m 1 (one_step r k) in
      let h = chain_holds e (known_bias_byte r k) (LessTo v r k) m (λ i l u g. less_step e r k v two some numbers i u g) v (record {
        sum = refl;
        bit = omega arith;
        held = λ j l. absurd (omega (arith, l));
        same = λ j o. refl;
        inputs = refl;
        safe = refl;
        seen = refl;
      }) in
      let whole : min k (8 * m) ≡ k = omega (arith, few) in
      let mask : mask_whole k m + 1 ≡ 2 ^ k = masked k m ∙ ap (λ i. 2 ^ i) whole in
      let all = all_taken k n in
      let sum = turned_round (value w.at r m) x (taken_whole k m) (2 ^ k - 1) (256 ^ m) w.flags.c h.bit h.sum (omega (arith, mask, all)) in
      let full = fill_high top high top_small in
      record {
        steps = 1 + code_steps code;
        at_most = omega (arith, take);
        last = w;
        goes = goes_on_to e 1 (code_steps code) pc first end v v w test (block_goes e code first end v straight bytes);
        biased = record {
          toward = λ y is. biased_is (256 ^ m) (128 * 256 ^ n) x (fill top) (2 ^ k - 1) (value w.at r m) (1 - w.flags.c) k y
              below (value_below w.at r m h.held) (omega arith) (two_halves n) fits (pow_pos k)
              (sign_is v.at r n held) (λ z. absurd (omega (arith, z, full))) (λ z. refl) sum is;
          numbers = after v w r m numbers h.held h.same;
          same = λ j a b c d o. h.same j o;
          inputs = h.inputs;
          safe = h.safe;
          seen = h.seen;
        };
      }

  pub known_biases : RunsBiased e (1 + m) pc v end r m k
  known_biases = ⊎_elim plus minus (cases_lt top 128)
