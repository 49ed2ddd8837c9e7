-- The stages of a division with signs.
use Rattle.std.proofs.Common.{◌≡◌, ◌≢◌, ℕ, zero, suc, ◌+◌, ◌-◌, ◌*◌, ◌/◌, ◌%◌, ◌^◌, ◌<◌, ◌≤◌, ⊎_elim, Bool, true, false, ◌++◌, refl, sym}
use Rattle.std.proofs.Common.{ap, ◌∙◌, subst, arith, bit_xor}
use Rattle.std.specs.Int.Bits.{xor_self}
use Rattle.std.proofs.lemmas.Bool.{cases_lt, cases_eq}
use Rattle.std.proofs.lemmas.Nat.{div-mul-add, xor_shr, div-add-mod', mul-le}
use native.Mathlib.Nat.{pow-suc}
use Rattle.ec_asm.specs.declared.pieces.Location.{Location}
use Rattle.ec_asm.specs.declared.pieces.Location.TheVariants.{InRegisters, InMemory}
use Rattle.ec_asm.specs.View.{View}
use Rattle.ec_asm.specs.Change.{Env, Own, set}
use Rattle.ec_asm.specs.Items.{HasAt, block, all_straight, code_steps}
use Rattle.ec_asm.specs.Pieces.{address, KindIs, StandsFrom, Outside, value}
use Rattle.ec_asm.specs.PieceLaws.{HoldsNumbers}
use Rattle.ec_asm.specs.Takes.{Goes}
use Rattle.ec_asm.proofs.Bytes.{put_here, put_other}
use Rattle.ec_asm.proofs.Hoare.{block_goes, block-append, chain_holds, chain_straight, steps-chain, straight-append, steps-append}
use Rattle.ec_asm.proofs.Numbers.{value_below}
use Rattle.ec_asm.proofs.Sum.{value-same, not_here, fewer}
use Rattle.ec_select_quotients.specs.Quotients.{divisor_register, number_of}
use Rattle.ec_select_quotients.specs.Laws.{divisor_bytes, IsReady}
use Rattle.ec_select_quotients.specs.Signs.{negated_if, top_byte, sign_byte, spread_code, top_code, divisor_top_code, turn_byte, turn_code}
use Rattle.ec_select_quotients.specs.Signs.{turn_divisor_byte, turn_divisor_code, cross_code, number_sign_code, divisor_sign_code, clear_byte}
use Rattle.ec_select_quotients.specs.Signs.{clear_code, start_code}
use Rattle.ec_select_quotients.proofs.Negated.{IsRow, turned, spreads, byte_is_turned, divisor_byte_is_turned, turn_straight, turn_steps}
use Rattle.ec_select_quotients.proofs.Negated.{turn_divisor_straight, turn_divisor_steps}
use Rattle.ec_select_quotients.proofs.Rows.{number_from, divisor_same, divisor_below, top_of, register_from, register_below, register_is, registers_apart}
use Rattle.ec_select_quotients.proofs.Turns.{IsFar, high_outside, divisor_outside, divisor_above, beside}

-- the highest byte of a number
pub top_is : (f : ℕ → ℕ) (c top x : ℕ) → ((j : ℕ) → j < top → f (c + j) < 256) → value f c (suc top) ≡ x
    → f (c + top) ≡ top_byte top x
top_is f c top x h q =
    let low = value_below f c top h in
    let e : x ≡ f (c + top) * 256 ^ top + value f c top = sym q ∙ omega arith in
    sym (ap (λ z. z / 256 ^ top) e ∙ div-mul-add (f (c + top)) (256 ^ top) (value f c top) low)

top_code_is : (e : Env) (p : Location) (top a : ℕ) (v : View) → address e p top ≡ a → KindIs e p a Own
    → block e (top_code p top) v ≡ set 31 (v.at a) v
top_code_is e (InRegisters r) top a v p k = rw p refl
top_code_is e (InMemory o j) top a v p k = rw (p, k) refl

top_straight : (p : Location) (top : ℕ) → all_straight (top_code p top) ≡ true
top_straight (InRegisters r) top = refl
top_straight (InMemory o k) top = refl

top_steps : (p : Location) (top : ℕ) → code_steps (top_code p top) ≡ 1
top_steps (InRegisters r) top = refl
top_steps (InMemory o k) top = refl

-- the remainder is cleared
record ClearsTo (v0 : View) (i : ℕ) (v : View) : Type 0 where
  there : (j : ℕ) → j < i → v.at (8 + j) ≡ 0
  same : (k : ℕ) → Outside 8 i k → v.at k ≡ v0.at k
  inputs : v.inputs ≡ v0.inputs
  safe : v.safe ≡ v0.safe
  seen : v.seen ≡ v0.seen

clear_step : (e : Env) (v0 : View) (i : ℕ) (v : View) → ClearsTo v0 i v → ClearsTo v0 (suc i) (block e (clear_byte i) v)
clear_step e v0 i v h =
    let w = block e (clear_byte i) v in
    let other : (k : ℕ) → k ≢ 8 + i → w.at k ≡ v.at k = λ k n. put_other v.at (8 + i) _ k n in
    let here : w.at (8 + i) ≡ 0 = put_here v.at (8 + i) _ (8 + i) refl ∙ xor_self (v.at (8 + i)) in
    record {
      there = λ j l. ⊎_elim (λ (q : j ≡ i). ap (λ z. w.at (8 + z)) q ∙ here)
          (λ (q : j ≢ i). other (8 + j) (omega arith) ∙ h.there j (omega arith)) (cases_eq j i);
      same = λ k o. other k (not_here k 8 i o) ∙ h.same k (fewer k 8 i o);
      inputs = h.inputs;
      safe = h.safe;
      seen = h.seen;
    }

cleared : (e : Env) (m : ℕ) (v : View) → ClearsTo v m (block e (clear_code m) v)
cleared e m v =
    chain_holds e clear_byte (ClearsTo v) m (λ i l w h. clear_step e v i w h) v
    (record { there = λ j l. absurd (omega arith); same = λ k o. refl; inputs = refl; safe = refl; seen = refl })

zeros : (f : ℕ → ℕ) (a n : ℕ) → ((j : ℕ) → j < n → f (a + j) ≡ 0) → value f a n ≡ 0
zeros f a zero h = refl
zeros f a (suc n) h =
    let x = zeros f a n (λ j l. h j (omega arith)) in
    let z = h n (omega arith) in
    rw (x, z) (omega arith)

start_straight : (n : ℕ) → all_straight (start_code n) ≡ true
start_straight n = chain_straight clear_byte n (λ i. refl)

start_steps : (n : ℕ) → code_steps (start_code n) ≡ 1 + n * 1
start_steps n = ap (λ k. 1 + k) (steps-chain clear_byte n 1 (λ i. refl))

-- the sign of a quotient by the signs of both numbers
signs_crossed : (a b : ℕ) → a ≤ 1 → b ≤ 1 → bit_xor (255 * a) (255 * b) ≡ 255 * bit_xor a b
signs_crossed zero zero l m = refl
signs_crossed zero (suc zero) l m = refl
signs_crossed (suc zero) zero l m = refl
signs_crossed (suc zero) (suc zero) l m = refl
signs_crossed (suc (suc a)) b l m = absurd (omega arith)
signs_crossed zero (suc (suc b)) l m = absurd (omega arith)
signs_crossed (suc zero) (suc (suc b)) l m = absurd (omega arith)

pub div_below : (x top : ℕ) → x < 256 ^ suc top → x / 256 ^ top < 256
div_below x top l =
    let p = 256 ^ top in
    let s : 256 ^ suc top ≡ p * 256 = pow-suc 256 top in
    let d = div-add-mod' x p in
    small (x / p) p (x % p) x d (omega (arith, l, s))
  where
    small : (t p r x : ℕ) → t * p + r ≡ x → x < p * 256 → t < 256
    small t p r x d l =
        ⊎_elim (λ (g : t < 256). g)
        (λ (g : 256 ≤ t). let m : 256 * p ≤ t * p = mul-le 256 p t p g (omega arith) in absurd (omega (arith, m, l, d))) (cases_lt t 256)

-- nothing but the work registers and the number has changed
abbrev pub Frame : (c n : ℕ) → View → View → Type 0
Frame c n v0 v = (k : ℕ) → k ≢ 0 → k ≢ 1 → Outside 8 6 k → Outside 26 2 k → Outside 30 2 k → Outside c n k → v.at k ≡ v0.at k

module _ (e : Env) (p : Location) (top c : ℕ) (st : StandsFrom e p (suc top) c Own) (far : IsFar c (suc top)) (most : suc top ≤ 4)
    (v0 : View) where
  -- the number, the divisor, and the byte with the sign
  pub record Holds (x z s : ℕ) (v : View) : Type 0 where
    pub number : value v.at c (suc top) ≡ x
    pub divisor : number_of (divisor_bytes v) (suc top) ≡ z
    pub sign : v.at 31 ≡ s
    pub numbers : HoldsNumbers v
    pub same : Frame c (suc top) v0 v
    pub inputs : v.inputs ≡ v0.inputs
    pub safe : v.safe ≡ v0.safe
    pub seen : v.seen ≡ v0.seen

  pub record Stage (limit pc : ℕ) (v : View) (end x z s : ℕ) : Type 0 where
    pub steps : ℕ
    pub at_most : steps ≤ limit
    pub last : View
    pub goes : Goes e steps pc v end last
    pub holds : Holds x z s last

  -- a byte of the number is none of the high work registers
  high_beside : (j k : ℕ) → j < suc top → 26 ≤ k → k < 32 → c + j ≢ k
  high_beside j k l a b q =
      let o = high_outside c (suc top) k far a b in
      let z = o (omega arith) in
      omega arith

  divisor_beside : (j i : ℕ) → j < suc top → i < 4 → c + j ≢ divisor_register i
  divisor_beside j i l m q =
      let o = divisor_outside c (suc top) i far m in
      let z = o (omega arith) in
      omega arith

  not_31 : (k : ℕ) → Outside 30 2 k → k ≢ 31
  not_31 k o q = let z = o (omega arith) in omega arith

  not_divisor : (k i : ℕ) → i < 4 → Outside 8 6 k → Outside 26 2 k → k ≢ divisor_register i
  not_divisor k i l f g q =
      ⊎_elim (λ x. let y = x.1 in let u = f (omega arith) in omega arith)
      (λ x. let y = x.1 in let u = g (omega arith) in omega arith) (register_is i l)

  -- R31 alone has changed
  sign_set : (x z s b : ℕ) (v w : View) → Holds x z s v → w.at 31 ≡ b → b < 256 → ((k : ℕ) → k ≢ 31 → w.at k ≡ v.at k)
      → w.inputs ≡ v.inputs → w.safe ≡ v.safe → w.seen ≡ v.seen → Holds x z b w
  sign_set x z s b v w h here small other inputs safe seen = record {
    number = value-same w.at v.at c (suc top) (λ j l. other (c + j) (high_beside j 31 l (omega arith) (omega arith))) ∙ h.number;
    divisor = divisor_same v w (suc top) most (λ j l.
        let u = register_below j (omega arith) in other (divisor_register j) (omega arith)) ∙ h.divisor;
    sign = here;
    numbers = λ k u. ⊎_elim (λ (q : k ≡ 31). subst (λ i. w.at i < 256) (sym q) (subst (λ i. i < 256) (sym here) small))
        (λ (q : k ≢ 31). subst (λ i. i < 256) (sym (other k q)) (h.numbers k u)) (cases_eq k 31);
    same = λ k a b o q t u. other k (not_31 k t) ∙ h.same k a b o q t u;
    inputs = inputs ∙ h.inputs;
    safe = safe ∙ h.safe;
    seen = seen ∙ h.seen;
  }

  number_row : IsRow (λ j. c + j) (suc top) 31
  number_row = record {
    apart = λ i j l m n q. n (omega arith);
    beside = λ i l. high_beside i 31 l (omega arith) (omega arith);
    work = λ i l. (let uc = st.clear in omega arith);
  }

  -- the number is negated where R31 is 255
  pub turned_number : (x z s : ℕ) (v : View) → Holds x z (255 * s) v → s ≤ 1
      → Holds (negated_if s (suc top) x) z (255 * s) (block e (turn_code p (suc top)) v)
  turned_number x z s v h bit =
      let n = suc top in
      let uc = st.clear in
      let w = block e (turn_code p n) v in
      let t = turned e (turn_byte p) (λ j. c + j) n 31 s v number_row
      (λ i l u. byte_is_turned e p i (c + i) u (st.at i l) (st.kind i l) (high_beside i 31 l (omega arith) (omega arith))) (omega arith)
      h.numbers h.sign bit in
      record {
        number = sym (number_from (λ j. w.at (c + j)) w.at c n (λ j l. refl)) ∙ t.number
            ∙ ap (negated_if s n) (number_from (λ j. v.at (c + j)) v.at c n (λ j l. refl) ∙ h.number);
        divisor = divisor_same v w n most (λ j l.
            let u = register_from j (omega arith) in
            t.same (divisor_register j) (omega arith) (λ i m q. divisor_beside i j m (omega arith) (sym q))) ∙ h.divisor;
        sign = t.same 31 (omega arith) (λ j l q. high_beside j 31 l (omega arith) (omega arith) (sym q)) ∙ h.sign;
        numbers = t.numbers;
        same = λ k a b o q r u. t.same k a (λ j l g. (let y = u (omega arith) in omega arith)) ∙ h.same k a b o q r u;
        inputs = t.inputs ∙ h.inputs;
        safe = t.safe ∙ h.safe;
        seen = t.seen ∙ h.seen;
      }

  -- ---- the sign of the number

  spread_number : (x z s : ℕ) (v : View) → Holds x z s v
      → Holds x z (255 * (top_byte top x / 128)) (block e (spread_code 31) (block e (top_code p top) v))
  spread_number x z s v h =
      let uc = st.clear in
      let b = v.at (c + top) in
      let w1 = block e (top_code p top) v in
      let is : w1 ≡ set 31 b v = top_code_is e p top (c + top) v (st.at top (omega arith)) (st.kind top (omega arith)) in
      let byte : b ≡ top_byte top x = top_is v.at c top x (λ j l. h.numbers (c + j) (omega arith)) h.number in
      let small : b < 256 = h.numbers (c + top) (omega arith) in
      let k : Holds x z b w1 =
      subst (Holds x z b) (sym is) (sign_set x z s b v (set 31 b v) h refl small (λ i q. put_other v.at 31 b i q) refl refl refl) in
      let t = spreads e 31 w1 in
      let here : (block e (spread_code 31) w1).at 31 ≡ 255 * (b / 128) =
      t.here (subst (λ u. u < 256) (sym k.sign) small) ∙ ap (λ u. 255 * (u / 128)) k.sign in
      subst (λ u. Holds x z (255 * (u / 128)) (block e (spread_code 31) w1)) byte
      (sign_set x z b (255 * (b / 128)) w1 (block e (spread_code 31) w1) k here (omega (arith, small)) t.same t.inputs t.safe t.seen)

  divisor_inside : (z : ℕ) (v : View) (y s : ℕ) → Holds y z s v → z < 256 ^ suc top
  divisor_inside z v y s h = subst (λ u. u < 256 ^ suc top) h.divisor (divisor_below v (suc top) most h.numbers)

  top_bit : (x : ℕ) → x < 256 ^ suc top → top_byte top x / 128 ≤ 1
  top_bit x l =
      let below : top_byte top x < 256 = div_below x top l in
      omega (arith, below)

  pub number_stage : (x z s pc end : ℕ) (v : View) → Holds x z s v → HasAt e (number_sign_code p top) pc end
      → Stage (3 + 4 * suc top) pc v end (negated_if (top_byte top x / 128) (suc top) x) z (255 * (top_byte top x / 128))
  number_stage x z s pc end v h stands =
      let n = suc top in
      let uc = st.clear in
      let inside : x < 256 ^ n = subst (λ u. u < 256 ^ n) h.number (value_below v.at c n (λ j l. h.numbers (c + j) (omega arith))) in
      let w2 = block e (spread_code 31) (block e (top_code p top) v) in
      let w = block e (turn_code p n) w2 in
      let k = turned_number x z (top_byte top x / 128) w2 (spread_number x z s v h) (top_bit x inside) in
      let straight : all_straight (number_sign_code p top) ≡ true =
      straight-append (top_code p top) (spread_code 31 ++ turn_code p n) (top_straight p top)
      (straight-append (spread_code 31) (turn_code p n) refl (turn_straight p n)) in
      let is : block e (number_sign_code p top) v ≡ w =
      block-append e (top_code p top) (spread_code 31 ++ turn_code p n) v
      ∙ block-append e (spread_code 31) (turn_code p n) (block e (top_code p top) v) in
      let take = turn_steps p n in
      record {
        steps = code_steps (number_sign_code p top);
        at_most = omega (
          arith,
          steps-append (top_code p top) (spread_code 31 ++ turn_code p n),
          steps-append (spread_code 31) (turn_code p n),
          top_steps p top,
          take,
        );
        last = w;
        goes = subst (λ u. Goes e (code_steps (number_sign_code p top)) pc v end u) is
            (block_goes e (number_sign_code p top) pc end v straight stands);
        holds = k;
      }

  -- ---- the sign of the divisor, and that of the result

  divisor_row : IsRow divisor_register (suc top) 1
  divisor_row = record {
    apart = λ i j l m n. registers_apart i j (omega arith) (omega arith) n;
    beside = λ i l q. (let u = register_from i (omega arith) in omega arith);
    work = λ i l. (let u = register_from i (omega arith) in omega arith);
  }

  -- R1 alone has changed
  spare_set : (x z s : ℕ) (v w : View) → Holds x z s v → ((k : ℕ) → k ≢ 1 → w.at k ≡ v.at k) → w.inputs ≡ v.inputs
      → w.safe ≡ v.safe → w.seen ≡ v.seen → Holds x z s w
  spare_set x z s v w h other inputs safe seen =
      let uc = st.clear in
      record {
        number = value-same w.at v.at c (suc top) (λ j l. other (c + j) (omega arith)) ∙ h.number;
        divisor = divisor_same v w (suc top) most (λ j l.
            let u = register_from j (omega arith) in other (divisor_register j) (omega arith)) ∙ h.divisor;
        sign = other 31 (omega arith) ∙ h.sign;
        numbers = λ k u. rw (other k (omega arith)) (h.numbers k u);
        same = λ k a b o q t u. other k b ∙ h.same k a b o q t u;
        inputs = inputs ∙ h.inputs;
        safe = safe ∙ h.safe;
        seen = seen ∙ h.seen;
      }

  record Spread (x z s b : ℕ) (v : View) : Type 0 where
    holds : Holds x z s v
    sign : v.at 1 ≡ b

  spread_divisor : (x z s : ℕ) (v : View) → Holds x z s v
      → Spread x z s (255 * (top_byte top z / 128)) (block e (spread_code 1) (block e (divisor_top_code top) v))
  spread_divisor x z s v h =
      let r = divisor_register top in
      let from = register_from top (omega arith) in
      let b = v.at r in
      let w1 = block e (divisor_top_code top) v in
      let byte : b ≡ top_byte top z = top_of (divisor_bytes v) top z
      (λ j l. (let u = register_from j (omega arith) in h.numbers (divisor_register j) (omega arith))) h.divisor in
      let small : b < 256 = h.numbers r (omega arith) in
      let k : Holds x z s w1 = spare_set x z s v w1 h (λ i q. put_other v.at 1 b i q) refl refl refl in
      let t = spreads e 1 w1 in
      record {
        holds = spare_set x z s w1 (block e (spread_code 1) w1) k t.same t.inputs t.safe t.seen;
        sign = t.here small ∙ ap (λ u. 255 * (u / 128)) byte;
      }

  turned_divisor : (x z s q : ℕ) (v : View) → Spread x z s (255 * q) v → q ≤ 1
      → Spread x (negated_if q (suc top) z) s (255 * q) (block e (turn_divisor_code (suc top)) v)
  turned_divisor x z s q v g bit =
      let n = suc top in
      let uc = st.clear in
      let h = g.holds in
      let w = block e (turn_divisor_code n) v in
      let t = turned e turn_divisor_byte divisor_register n 1 q v divisor_row
      (λ i l u. divisor_byte_is_turned e i u (λ y. (let z = register_from i (omega arith) in omega arith))) (omega arith)
      h.numbers g.sign bit in
      record {
        holds = record {
          number = value-same w.at v.at c n (λ j l. t.same (c + j) (omega arith) (λ i m. divisor_beside j i l (omega arith))) ∙ h.number;
          divisor = t.number ∙ ap (negated_if q n) h.divisor;
          sign = t.same 31 (omega arith) (λ j l y. (let u = register_below j (omega arith) in omega arith)) ∙ h.sign;
          numbers = t.numbers;
          same = λ k a b o y i u. t.same k a (λ j l. not_divisor k j (omega arith) o y) ∙ h.same k a b o y i u;
          inputs = t.inputs ∙ h.inputs;
          safe = t.safe ∙ h.safe;
          seen = t.seen ∙ h.seen;
        };
        sign = t.same 1 (omega arith) (λ j l y. (let u = register_from j (omega arith) in omega arith)) ∙ g.sign;
      }

  crossed : (r : Bool) (x y z w : ℕ) (v : View) → top_byte top x / 128 ≤ 1 → top_byte top z / 128 ≤ 1
      → Spread y w (255 * (top_byte top x / 128)) (255 * (top_byte top z / 128)) v
      → Holds y w (255 * (sign_byte r top x z / 128)) (block e (cross_code r) v)
  crossed true x y z w v l m g = g.holds
  crossed false x y z w v l m g =
      let a = top_byte top x / 128 in
      let b = top_byte top z / 128 in
      let u = bit_xor (v.at 31) (v.at 1) in
      let t = block e (cross_code false) v in
      let both : u ≡ 255 * bit_xor a b =
      ap (λ i. bit_xor i (v.at 1)) g.holds.sign ∙ ap (bit_xor (255 * a)) g.sign ∙ signs_crossed a b l m in
      let is : u ≡ 255 * (sign_byte false top x z / 128) =
      both ∙ ap (λ i. 255 * i) (sym (xor_shr (top_byte top x) (top_byte top z) 7)) in
      let few : u < 256 = subst (λ i. i < 256) (sym both) (one_bit a b l m) in
      subst (λ i. Holds y w i t) is
      (sign_set y w (255 * a) u v t g.holds refl few (λ i q. put_other v.at 31 u i q) refl refl refl)
    where
      one_bit : (a b : ℕ) → a ≤ 1 → b ≤ 1 → 255 * bit_xor a b < 256
      one_bit zero zero l m = omega arith
      one_bit zero (suc zero) l m = omega arith
      one_bit (suc zero) zero l m = omega arith
      one_bit (suc zero) (suc zero) l m = omega arith
      one_bit (suc (suc a)) b l m = absurd (omega arith)
      one_bit zero (suc (suc b)) l m = absurd (omega arith)
      one_bit (suc zero) (suc (suc b)) l m = absurd (omega arith)

  cross_straight : (r : Bool) → all_straight (cross_code r) ≡ true
  cross_straight true = refl
  cross_straight false = refl

  cross_steps : (r : Bool) → code_steps (cross_code r) ≤ 1
  cross_steps true = omega arith
  cross_steps false = omega arith

  pub divisor_stage : (r : Bool) (x y z pc end : ℕ) (v : View) → x < 256 ^ suc top → Holds y z (255 * (top_byte top x / 128)) v
      → HasAt e (divisor_sign_code r top) pc end
      → Stage (4 + 2 * suc top) pc v end y (negated_if (top_byte top z / 128) (suc top) z) (255 * (sign_byte r top x z / 128))
  divisor_stage r x y z pc end v inside h stands =
      let n = suc top in
      let below : z < 256 ^ n = divisor_inside z v y (255 * (top_byte top x / 128)) h in
      let bit = top_bit z below in
      let s = 255 * (top_byte top x / 128) in
      let w1 = block e (divisor_top_code top) v in
      let w2 = block e (spread_code 1) w1 in
      let w3 = block e (turn_divisor_code n) w2 in
      let w = block e (cross_code r) w3 in
      let g = turned_divisor y z s (top_byte top z / 128) w2 (spread_divisor y z s v h) bit in
      let k = crossed r x y z (negated_if (top_byte top z / 128) n z) w3 (top_bit x inside) bit g in
      let rest = turn_divisor_code n ++ cross_code r in
      let straight : all_straight (divisor_sign_code r top) ≡ true =
      straight-append (turn_divisor_code n) (cross_code r) (turn_divisor_straight n) (cross_straight r) in
      let is : block e (divisor_sign_code r top) v ≡ w = block-append e (turn_divisor_code n) (cross_code r) w2 in
      let take = cross_steps r in
      record {
        steps = code_steps (divisor_sign_code r top);
        at_most = omega (arith, steps-append (turn_divisor_code n) (cross_code r), turn_divisor_steps n, take);
        last = w;
        goes = subst (λ u. Goes e (code_steps (divisor_sign_code r top)) pc v end u) is
            (block_goes e (divisor_sign_code r top) pc end v straight stands);
        holds = k;
      }

  -- ---- the rows

  pub record Begins (limit pc : ℕ) (v : View) (end x z s : ℕ) : Type 0 where
    pub steps : ℕ
    pub at_most : steps ≤ limit
    pub last : View
    pub goes : Goes e steps pc v end last
    pub ready : IsReady (suc top) z last
    pub number : value last.at c (suc top) ≡ x
    pub sign : last.at 31 ≡ s
    pub same : Frame c (suc top) v0 last
    pub inputs : last.inputs ≡ v0.inputs
    pub safe : last.safe ≡ v0.safe
    pub seen : last.seen ≡ v0.seen

  pub start_stage : (x z s pc end : ℕ) (v : View) → Holds x z s v → 1 ≤ z → HasAt e (start_code (suc top)) pc end
      → Begins (1 + suc top) pc v end x z s
  start_stage x z s pc end v h some stands =
      let n = suc top in
      let uc = st.clear in
      let v1 = set 30 (8 * n) v in
      let w = block e (clear_code n) v1 in
      let k = cleared e n v1 in
      let go = block_goes e (start_code n) pc end v (start_straight n) stands in
      let take = start_steps n in
      let other : (i : ℕ) → i ≢ 30 → v1.at i ≡ v.at i = λ i a. put_other v.at 30 (8 * n) i a in
      let thirty : v1.at 30 ≡ 8 * n = put_here v.at 30 (8 * n) 30 refl in
      let numbers1 : HoldsNumbers v1 = λ i u.
      ⊎_elim (λ (q : i ≡ 30). subst (λ t. v1.at t < 256) (sym q) (subst (λ t. t < 256) (sym thirty) (omega arith)))
      (λ (q : i ≢ 30). subst (λ t. t < 256) (sym (other i q)) (h.numbers i u)) (cases_eq i 30) in
      record {
        steps = code_steps (start_code n);
        at_most = omega (arith, take);
        last = w;
        goes = go;
        ready = record {
          some = some;
          divisor_is = divisor_same v w n most (λ j l.
              let u = register_below j (omega arith) in
              k.same (divisor_register j) (divisor_above n j most (omega arith)) ∙ other (divisor_register j) (omega arith)) ∙ h.divisor;
          remainder_is = zeros w.at 8 n k.there;
          count = k.same 30 (λ q. omega arith) ∙ thirty;
          numbers = numbers4 v1 w numbers1 k.there k.same;
        };
        number = value-same w.at v.at c n (λ j l.
            k.same (c + j) (beside c n n j far (omega arith) l) ∙ other (c + j) (high_beside j 30 l (omega arith) (omega arith))) ∙ h.number;
        sign = k.same 31 (λ q. omega arith) ∙ other 31 (omega arith) ∙ h.sign;
        same = λ i a b o q t u. k.same i (λ l. let y = o l in omega arith) ∙ other i (row_30 i t) ∙ h.same i a b o q t u;
        inputs = k.inputs ∙ h.inputs;
        safe = k.safe ∙ h.safe;
        seen = k.seen ∙ h.seen;
      }
    where
      row_30 : (k : ℕ) → Outside 30 2 k → k ≢ 30
      row_30 k o q = let z = o (omega arith) in omega arith

      numbers4 : (v3 w : View) → HoldsNumbers v3 → ((j : ℕ) → j < suc top → w.at (8 + j) ≡ 0)
          → ((k : ℕ) → Outside 8 (suc top) k → w.at k ≡ v3.at k) → HoldsNumbers w
      numbers4 v3 w f there same k u =
          ⊎_elim
          (λ (l : k < 8). subst (λ z. z < 256) (sym (same k (λ x. absurd (omega arith)))) (f k u))
          (λ (l : 8 ≤ k).
          ⊎_elim
          (λ (m : k < 8 + suc top).
          let i : 8 + (k - 8) ≡ k = omega arith in
          subst (λ z. z < 256) (sym (ap w.at (sym i) ∙ there (k - 8) (omega arith))) (omega arith))
          (λ (m : 8 + suc top ≤ k). subst (λ z. z < 256) (sym (same k (λ x. m))) (f k u))
          (cases_lt k (8 + suc top)))
          (cases_lt k 8)
