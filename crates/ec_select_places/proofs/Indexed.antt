-- Pointers in registers are moved by an index as it stands.
use Rattle.std.proofs.Common.{◌≡◌, ◌≢◌, ℕ, zero, suc, ◌+◌, ◌-◌, ◌*◌, ◌/◌, ◌%◌, ◌<◌, ◌≤◌, ◌==◌, ⊎_elim, Bool, true, false}
use Rattle.std.proofs.Common.{◌&&◌, ◌∷◌, refl, sym, ap, ◌∙◌, subst, arith}
use Rattle.std.specs.Prelude.{nat_lt, not, if◌then◌else◌}
use Rattle.std.specs.Int.{from_bool}
use Rattle.std.specs.List.{list_all}
use Rattle.std.proofs.lemmas.Bool.{cases_eq, ne_eqb, eqb-true, ltb-true, lt-ltb, and_parts}
use Rattle.std.proofs.lemmas.Nat.{mul-le}
use Rattle.ec_isa.specs.declared.instructions.Instr.TheVariants.{Ldi, Add, Adc, Sub, Sbc, Mul}
use Rattle.ec_avr.specs.Flags.{byte_sum, byte_difference}
use Rattle.ec_asm.specs.declared.items.AsmItem.{AsmItem}
use Rattle.ec_asm.specs.declared.items.AsmItem.TheVariants.{Plain}
use Rattle.ec_asm.specs.declared.pieces.Location.{Location}
use Rattle.ec_asm.specs.declared.pieces.Location.TheVariants.{InRegisters, InMemory}
use Rattle.ec_asm.specs.View.{View}
use Rattle.ec_asm.specs.Change.{Env, change}
use Rattle.ec_asm.specs.Items.{block}
use Rattle.ec_asm.specs.Pieces.{Outside, value}
use Rattle.ec_asm.specs.PieceLaws.{HoldsNumbers, NumbersHaveLowParts}
use Rattle.ec_asm.specs.Valid.{Sizes, is_valid_item}
use Rattle.ec_asm.proofs.Bytes.{put_here, put_other}
use Rattle.ec_asm.proofs.Hoare.{block-append, chain_holds}
use Rattle.ec_select_pointers.proofs.Valid.{both, all_pass, is_plain}
use Rattle.ec_select_places.specs.Form.{IsShort}
use Rattle.ec_select_places.specs.Indexes.{is_addend, pair_code, add_product_code, byte_index_code, high_code}
use Rattle.ec_select_places.specs.Indexes.{product_index_code, pairs_code, pair_index_code, add_index_code}
use Rattle.ec_select_places.specs.IndexLaws.{Adds, IndexesAreAdded, IndexesAreShort, IndexesAreValid, IndexesHaveNoLabel}
use Rattle.ec_select_places.specs.StepLaws.{index_of, moved_by}
use Rattle.ec_select_places.proofs.Blocks.{pair_other}
use Rattle.ec_select_places.proofs.Valid.{has_no_label}

-- ---- two bytes

two_bytes : (f : ℕ → ℕ) (a : ℕ) → value f a 2 ≡ f a + 256 * f (a + 1)
two_bytes f a = let z : a + 0 ≡ a = omega arith in rw z (omega arith)

sum_is : (x y a b : ℕ) → x < 256 → y < 256 → a < 256 → b < 256
    → (x + a + 0) % 256 + 256 * ((y + b + (x + a + 0) / 256) % 256) ≡ (x + 256 * y + (a + 256 * b)) % 65536
sum_is x y a b hx hy ha hb = omega (arith, hx, hy, ha, hb)

difference_is : (x y a b : ℕ) → x < 256 → y < 256 → a < 256 → b < 256
    → (x + 256 - (a + 0)) % 256 + 256 * ((y + 256 - (b + from_bool (nat_lt x (a + 0)))) % 256)
    ≡ (x + 256 * y + 65536 - (a + 256 * b)) % 65536
difference_is x y a b hx hy ha hb = by_borrow (nat_lt x (a + 0)) refl
  where
    by_borrow : (c : Bool) → nat_lt x (a + 0) ≡ c
        → (x + 256 - (a + 0)) % 256 + 256 * ((y + 256 - (b + from_bool c)) % 256) ≡ (x + 256 * y + 65536 - (a + 256 * b)) % 65536
    by_borrow true q = let l = ltb-true x (a + 0) q in omega (arith, hx, hy, ha, hb, l)
    by_borrow false q = let l = not_less x a q in omega (arith, hx, hy, ha, hb, l)
      where
        not_less : (x a : ℕ) → nat_lt x (a + 0) ≡ false → a ≤ x
        not_less x a q = grind (arith, q)

-- two bytes have become so much, and nothing else has changed but the flags
record Steps (v : View) (d number : ℕ) (w : View) : Type 0 where
  number_is : value w.at d 2 ≡ number
  low : w.at d < 256
  high : w.at (d + 1) < 256
  same : (k : ℕ) → k ≢ d → k ≢ d + 1 → w.at k ≡ v.at k
  inputs : w.inputs ≡ v.inputs
  safe : w.safe ≡ v.safe
  seen : w.seen ≡ v.seen

stepped : (minus : Bool) (e : Env) (d low high : ℕ) (v : View) → v.at d < 256 → v.at (d + 1) < 256 → v.at low < 256
    → v.at high < 256 → high ≢ d
    → Steps v d (moved_by minus (value v.at d 2) (v.at low + 256 * v.at high)) (block e (pair_code minus d low high) v)
stepped false e d low high v hx hy ha hb other =
    let x = v.at d in
    let y = v.at (d + 1) in
    let a = v.at low in
    let b = v.at high in
    let s = byte_sum x a 0 in
    let v1 = change e (Add d low) v in
    let t = byte_sum (v1.at (d + 1)) (v1.at high) v1.flags.c in
    let w = change e (Adc (d + 1) high) v1 in
    let y1 : v1.at (d + 1) ≡ y = put_other v.at d s (d + 1) (omega arith) in
    let b1 : v1.at high ≡ b = put_other v.at d s high other in
    let c1 : v1.flags.c ≡ (x + a + 0) / 256 = refl in
    let first : w.at d ≡ (x + a + 0) % 256 = put_other v1.at (d + 1) t d (omega arith) ∙ put_here v.at d s d refl in
    let second : w.at (d + 1) ≡ (y + b + (x + a + 0) / 256) % 256 =
    put_here v1.at (d + 1) t (d + 1) refl ∙ rw (y1, b1) refl in
    record {
      number_is = two_bytes w.at d ∙ rw (first, second, two_bytes v.at d) (sum_is x y a b hx hy ha hb);
      low = rw first (omega arith);
      high = rw second (omega arith);
      same = λ k n m. put_other v1.at (d + 1) t k m ∙ put_other v.at d s k n;
      inputs = refl;
      safe = refl;
      seen = refl;
    }
stepped true e d low high v hx hy ha hb other =
    let x = v.at d in
    let y = v.at (d + 1) in
    let a = v.at low in
    let b = v.at high in
    let s = byte_difference x a 0 in
    let v1 = change e (Sub d low) v in
    let t = byte_difference (v1.at (d + 1)) (v1.at high) v1.flags.c in
    let w = change e (Sbc (d + 1) high) v1 in
    let y1 : v1.at (d + 1) ≡ y = put_other v.at d s (d + 1) (omega arith) in
    let b1 : v1.at high ≡ b = put_other v.at d s high other in
    let first : w.at d ≡ (x + 256 - (a + 0)) % 256 =
    put_other v1.at (d + 1) t d (omega arith) ∙ put_here v.at d s d refl in
    let second : w.at (d + 1) ≡ (y + 256 - (b + from_bool (nat_lt x (a + 0)))) % 256 =
    put_here v1.at (d + 1) t (d + 1) refl ∙ rw (y1, b1) refl in
    record {
      number_is = two_bytes w.at d ∙ rw (first, second, two_bytes v.at d) (difference_is x y a b hx hy ha hb);
      low = rw first (omega arith);
      high = rw second (omega arith);
      same = λ k n m. put_other v1.at (d + 1) t k m ∙ put_other v.at d s k n;
      inputs = refl;
      safe = refl;
      seen = refl;
    }

-- ---- from one view to the next

nothing_added : (v : View) (b : ℕ) → HoldsNumbers v → Adds v b (value v.at b 2) v
nothing_added v b h = record {
  number_is = refl;
  numbers = h;
  same = λ k n0 n1 n26 o. refl;
  inputs = refl;
  safe = refl;
  seen = refl;
}

-- a step behind others, and behind what is put to work registers
step_added : (v0 v w : View) (b number : ℕ) → 2 ≤ b
    → ((k : ℕ) → k ≢ 0 → k ≢ 1 → k ≢ 26 → Outside b 2 k → v.at k ≡ v0.at k) → HoldsNumbers v → v.inputs ≡ v0.inputs
    → v.safe ≡ v0.safe → v.seen ≡ v0.seen → Steps v b number w → Adds v0 b number w
step_added v0 v w b number two same h inputs safe seen s = record {
  number_is = s.number_is;
  numbers = λ k u.
      ⊎_elim
      (λ (q : k ≡ b). rw q s.low)
      (λ (q : k ≢ b).
      ⊎_elim (λ (r : k ≡ b + 1). rw r s.high) (λ (r : k ≢ b + 1). rw (s.same k q r) (h k u)) (cases_eq k (b + 1)))
      (cases_eq k b);
  same = λ k n0 n1 n26 o.
      s.same k (λ (q : k ≡ b). let c = o (omega arith) in omega arith)
      (λ (q : k ≡ b + 1). let c = o (omega arith) in omega arith)
      ∙ same k n0 n1 n26 o;
  inputs = s.inputs ∙ inputs;
  safe = s.safe ∙ safe;
  seen = s.seen ∙ seen;
}

-- ---- a product with a size

-- the product of a register with a size is added, and the size stays in R26
record AddsProduct (v : View) (d number size : ℕ) (w : View) : Type 0 where
  adds : Adds v d number w
  size_is : w.at 26 ≡ size

product_added : (minus : Bool) (e : Env) (r d size : ℕ) (v : View) → 2 ≤ r → 2 ≤ d → r ≢ 26 → d ≢ 26 → d + 1 ≢ 26 → size < 256
    → HoldsNumbers v
    → AddsProduct v d (moved_by minus (value v.at d 2) (v.at r * size)) size (block e (add_product_code minus r d size) v)
product_added minus e r d size v two some other low high small h =
    let x = v.at r in
    let x_small : x < 256 = h r two in
    let v1 = change e (Ldi 26 size) v in
    let v2 = change e (Mul r 26) v1 in
    let w = block e (pair_code minus d 0 1) v2 in
    let r1 : v1.at r ≡ x = put_other v.at 26 size r other in
    let product : v1.at r * v1.at 26 ≡ x * size = rw r1 refl in
    let first : v2.at 0 ≡ (x * size) % 256 = ap (λ n. n % 256) product in
    let second : v2.at 1 ≡ (x * size) / 256 = ap (λ n. n / 256) product in
    let same : (k : ℕ) → k ≢ 0 → k ≢ 1 → k ≢ 26 → v2.at k ≡ v.at k =
    λ k n0 n1 n. pair_other v1.at 0 _ k n0 n1 ∙ put_other v.at 26 size k n in
    let top : v2.at 26 ≡ size = refl in
    let n2 : HoldsNumbers v2 = λ k u.
    ⊎_elim (λ (t : k ≡ 26). rw t small)
    (λ (t : k ≢ 26). rw (same k (omega arith) (omega arith) t) (h k u)) (cases_eq k 26) in
    let b : x * size ≤ 255 * 255 = mul-le x size 255 255 (omega arith) (omega arith) in
    let s = stepped minus e d 0 1 v2 (n2 d some) (n2 (d + 1) (omega arith)) (rw first (omega arith))
    (rw second (omega (arith, b))) (omega arith) in
    let is : moved_by minus (value v2.at d 2) (v2.at 0 + 256 * v2.at 1) ≡ moved_by minus (value v.at d 2) (x * size) =
    let before : value v2.at d 2 ≡ value v.at d 2 =
    two_bytes v2.at d ∙ rw (same d (omega arith) (omega arith) low, same (d + 1) (omega arith) (omega arith) high)
    (sym (two_bytes v.at d)) in
    let taken : v2.at 0 + 256 * v2.at 1 ≡ x * size = rw (first, second) (omega arith) in
    rw (before, taken) refl in
    record {
      adds = step_added v v2 w d _ some (λ k n0 n1 n26 o. same k n0 n1 n26) n2 refl refl refl (subst (λ n. Steps v2 d n w) is s);
      size_is = s.same 26 (λ t. low (sym t)) (λ t. high (sym t)) ∙ top;
    }

high_sum_is : (x y a : ℕ) → x < 256 → y < 256 → a < 256
    → x + 256 * ((y + a + 0) % 256) ≡ (x + 256 * y + 256 * a) % 65536
high_sum_is x y a hx hy ha = omega (arith, hx, hy, ha)

high_difference_is : (x y a : ℕ) → x < 256 → y < 256 → a < 256
    → x + 256 * ((y + 256 - (a + 0)) % 256) ≡ (x + 256 * y + 65536 - 256 * a) % 65536
high_difference_is x y a hx hy ha = omega (arith, hx, hy, ha)

-- R0 is added to the second byte
high_stepped : (minus : Bool) (e : Env) (d : ℕ) (v : View) → 2 ≤ d → v.at d < 256 → v.at (d + 1) < 256 → v.at 0 < 256
    → Steps v d (moved_by minus (value v.at d 2) (256 * v.at 0)) (block e (high_code minus d) v)
high_stepped false e d v some hx hy ha =
    let x = v.at d in
    let y = v.at (d + 1) in
    let a = v.at 0 in
    let s = byte_sum y a 0 in
    let w = change e (Add (d + 1) 0) v in
    let first : w.at d ≡ x = put_other v.at (d + 1) s d (omega arith) in
    let second : w.at (d + 1) ≡ (y + a + 0) % 256 = put_here v.at (d + 1) s (d + 1) refl in
    record {
      number_is = two_bytes w.at d ∙ rw (first, second, two_bytes v.at d) (high_sum_is x y a hx hy ha);
      low = rw first hx;
      high = rw second (omega arith);
      same = λ k n m. put_other v.at (d + 1) s k m;
      inputs = refl;
      safe = refl;
      seen = refl;
    }
high_stepped true e d v some hx hy ha =
    let x = v.at d in
    let y = v.at (d + 1) in
    let a = v.at 0 in
    let s = byte_difference y a 0 in
    let w = change e (Sub (d + 1) 0) v in
    let first : w.at d ≡ x = put_other v.at (d + 1) s d (omega arith) in
    let second : w.at (d + 1) ≡ (y + 256 - (a + 0)) % 256 = put_here v.at (d + 1) s (d + 1) refl in
    record {
      number_is = two_bytes w.at d ∙ rw (first, second, two_bytes v.at d) (high_difference_is x y a hx hy ha);
      low = rw first hx;
      high = rw second (omega arith);
      same = λ k n m. put_other v.at (d + 1) s k m;
      inputs = refl;
      safe = refl;
      seen = refl;
    }

-- ---- an index of one byte

module _ (minus : Bool) (e : Env) (r d size : ℕ) (v : View) (two : 2 ≤ r) (some : 2 ≤ d) (other : r ≢ 26) (low : d ≢ 26)
    (high : d + 1 ≢ 26) (small : size < 256) (h : HoldsNumbers v) where
  index_is : value v.at r 1 ≡ v.at r
  index_is = let z : r + 0 ≡ r = omega arith in rw z (omega arith)

  byte_added : Adds v d (moved_by minus (value v.at d 2) (index_of false 1 (value v.at r 1) * size % 65536))
      (block e (byte_index_code minus r d size) v)
  byte_added = by_size (size == 1) refl
    where
      x : ℕ
      x = v.at r

      x_small : x < 256
      x_small = h r two

      number : ℕ
      number = index_of false 1 (value v.at r 1) * size % 65536

      number_is : number ≡ x * size
      number_is =
          let b : x * size ≤ 255 * 255 = mul-le x size 255 255 (omega arith) (omega arith) in
          let i : x + 256 * 0 ≡ x = omega arith in
          rw (index_is, i) (omega (arith, b))

      by_size : (one : Bool) → (size == 1) ≡ one
          → Adds v d (moved_by minus (value v.at d 2) number)
          (block e (if one then Plain (Ldi 26 0) ∷ pair_code minus d r 26 else add_product_code minus r d size) v)
      by_size true q =
          let v1 = change e (Ldi 26 0) v in
          let same : (k : ℕ) → k ≢ 26 → v1.at k ≡ v.at k = λ k n. put_other v.at 26 0 k n in
          let zero_is : v1.at 26 ≡ 0 = refl in
          let n1 : HoldsNumbers v1 = λ k u.
          ⊎_elim (λ (t : k ≡ 26). rw t (omega arith)) (λ (t : k ≢ 26). rw (same k t) (h k u)) (cases_eq k 26) in
          let s = stepped minus e d r 26 v1 (n1 d some) (n1 (d + 1) (omega arith)) (n1 r two) (n1 26 (omega arith))
          (λ t. low (sym t)) in
          let is : moved_by minus (value v1.at d 2) (v1.at r + 256 * v1.at 26) ≡ moved_by minus (value v.at d 2) number =
          let one = eqb-true size 1 q in
          let before : value v1.at d 2 ≡ value v.at d 2 =
          two_bytes v1.at d ∙ rw (same d low, same (d + 1) high) (sym (two_bytes v.at d)) in
          let taken : v1.at r + 256 * v1.at 26 ≡ number = rw (same r other, zero_is, number_is, one) (omega arith) in
          rw (before, taken) refl in
          step_added v v1 _ d _ some (λ k n0 n1 n26 o. same k n26) n1 refl refl refl
          (subst (λ n. Steps v1 d n (block e (pair_code minus d r 26) v1)) is s)
      by_size false q = subst (λ n. Adds v d (moved_by minus (value v.at d 2) n) (block e (add_product_code minus r d size) v))
          (sym number_is)
          (product_added minus e r d size v two some other low high small h).adds

-- ---- an index of more bytes

once_more : (minus : Bool) (y x z : ℕ) → y < 65536 → x < 65536
    → moved_by minus (moved_by minus y (z % 65536)) x ≡ moved_by minus y ((z + x) % 65536)
once_more false y x z hy hx = omega (arith, hy, hx)
once_more true y x z hy hx = omega (arith, hy, hx)

moved_none : (minus : Bool) (y : ℕ) → y < 65536 → y ≡ moved_by minus y 0
moved_none false y hy = omega (arith, hy)
moved_none true y hy = omega (arith, hy)

module _ (minus : Bool) (e : Env) (r d : ℕ) (v : View) (two : 2 ≤ r) (some : 2 ≤ d) (low : r ≢ 26) (high : r + 1 ≢ 26)
    (apart : (i : ℕ) → i < 2 → Outside d 2 (r + i)) (h : HoldsNumbers v) where
  abbrev x : ℕ
  x = value v.at r 2

  abbrev y : ℕ
  y = value v.at d 2

  below : (a : ℕ) → 2 ≤ a → value v.at a 2 < 65536
  below a l =
      let p = h a l in
      let q = h (a + 1) (omega arith) in
      rw (two_bytes v.at a) (omega (arith, p, q))

  outside_low : Outside d 2 r
  outside_low o = let z : r + 0 ≡ r = omega arith in let b = apart 0 (omega arith) (omega (arith, o)) in omega (arith, b)

  abbrev Added : ℕ → View → Type 0
  Added i w = Adds v d (moved_by minus y (x * i % 65536)) w

  one_added : (i : ℕ) (u : View) → Added i u → Added (suc i) (block e (pair_code minus d r (r + 1)) u)
  one_added i u a =
      let w = block e (pair_code minus d r (r + 1)) u in
      let first : u.at r ≡ v.at r = a.same r (omega arith) (omega arith) low outside_low in
      let second : u.at (r + 1) ≡ v.at (r + 1) = a.same (r + 1) (omega arith) (omega arith) high (apart 1 (omega arith)) in
      let other : r + 1 ≢ d = λ t. let b = apart 1 (omega arith) (omega arith) in omega arith in
      let s = stepped minus e d r (r + 1) u (a.numbers d some) (a.numbers (d + 1) (omega arith)) (a.numbers r two)
      (a.numbers (r + 1) (omega arith)) other in
      let taken : u.at r + 256 * u.at (r + 1) ≡ x = rw (first, second) (sym (two_bytes v.at r)) in
      let more : x * suc i ≡ x * i + x = omega arith in
      let is : moved_by minus (value u.at d 2) (u.at r + 256 * u.at (r + 1)) ≡ moved_by minus y (x * suc i % 65536) =
      rw (a.number_is, taken, more) (once_more minus y x (x * i) (below d some) (below r two)) in
      step_added v u w d _ some a.same a.numbers a.inputs a.safe a.seen (subst (λ n. Steps u d n w) is s)

  pairs_added : (size : ℕ) → Added size (block e (pairs_code minus r d size) v)
  pairs_added size =
      let none : moved_by minus y (x * 0 % 65536) ≡ y =
      let z : x * 0 % 65536 ≡ 0 = omega arith in rw z (sym (moved_none minus y (below d some))) in
      chain_holds e (λ i. pair_code minus d r (r + 1)) Added size (λ i l u a. one_added i u a) v
      (subst (λ n. Adds v d n v) (sym none) (nothing_added v d h))

  -- the product with the low byte, and then that with the second byte
  pair_product_added : (size : ℕ) → d ≢ 26 → d + 1 ≢ 26 → size < 256 → Added size (block e (product_index_code minus r d size) v)
  pair_product_added size d_low d_high small =
      let lo = v.at r in
      let hi = v.at (r + 1) in
      let u = block e (add_product_code minus r d size) v in
      let p = product_added minus e r d size v two some low d_low d_high small h in
      let a = p.adds in
      let hi_small : hi < 256 = h (r + 1) (omega arith) in
      let lo_small : lo < 256 = h r two in
      let v1 = change e (Mul (r + 1) 26) u in
      let w = block e (high_code minus d) v1 in
      let second : u.at (r + 1) ≡ hi = a.same (r + 1) (omega arith) (omega arith) high (apart 1 (omega arith)) in
      let product : u.at (r + 1) * u.at 26 ≡ hi * size = rw (second, p.size_is) refl in
      let b : hi * size ≤ 255 * 255 = mul-le hi size 255 255 (omega arith) (omega arith) in
      let c : lo * size ≤ 255 * 255 = mul-le lo size 255 255 (omega arith) (omega arith) in
      let taken : v1.at 0 ≡ (hi * size) % 256 = ap (λ n. n % 256) product in
      let same : (k : ℕ) → k ≢ 0 → k ≢ 1 → v1.at k ≡ u.at k = λ k n0 n1. pair_other u.at 0 _ k n0 n1 in
      let n1 : HoldsNumbers v1 = λ k l. rw (same k (omega arith) (omega arith)) (a.numbers k l) in
      let s = high_stepped minus e d v1 some (n1 d some) (n1 (d + 1) (omega arith)) (rw taken (omega arith)) in
      let before : value v1.at d 2 ≡ moved_by minus y (lo * size % 65536) =
      let none : lo * size % 65536 ≡ lo * size = omega (arith, c) in
      two_bytes v1.at d ∙ rw (same d (omega arith) (omega arith), same (d + 1) (omega arith) (omega arith))
      (sym (two_bytes u.at d) ∙ (a.number_is ∙ ap (moved_by minus y) (sym none))) in
      let is : moved_by minus (value v1.at d 2) (256 * v1.at 0) ≡ moved_by minus y (x * size % 65536) =
      rw (before, taken, two_bytes v.at r) (once_more minus y (256 * ((hi * size) % 256)) (lo * size) (below d some) (omega arith)
      ∙ ap (moved_by minus y) (both_are lo hi size)) in
      rw (block-append e (add_product_code minus r d size) (Plain (Mul (r + 1) 26) ∷ high_code minus d) v)
      (step_added v v1 w d _ some (λ k n0 n1 n26 o. same k n0 n1 ∙ a.same k n0 n1 n26 o) n1 a.inputs a.safe a.seen
      (subst (λ n. Steps v1 d n w) is s))
    where
      both_are : (lo hi size : ℕ) → (lo * size + 256 * ((hi * size) % 256)) % 65536 ≡ (lo + 256 * hi) * size % 65536
      both_are lo hi size =
          let p : (lo + 256 * hi) * size ≡ lo * size + 256 * (hi * size) = omega arith in rw p (parts (lo * size) (hi * size))
        where
          parts : (a b : ℕ) → (a + 256 * (b % 256)) % 65536 ≡ (a + 256 * b) % 65536
          parts a b = omega arith

  index_added : (size : ℕ) → d ≢ 26 → d + 1 ≢ 26 → size < 256 → Added size (block e (pair_index_code minus r d size) v)
  index_added size d_low d_high small = by_size (nat_lt size 3)
    where
      by_size : (few : Bool) → Added size (block e (if few then pairs_code minus r d size else product_index_code minus r d size) v)
      by_size true = pairs_added size
      by_size false = pair_product_added size d_low d_high small

-- ---- laws

-- elements have at least one byte, and fewer than 256
size_is_few : (signed : Bool) (n size : ℕ) → is_addend signed n size ≡ true → (0 < size) × (size < 256)
size_is_few signed n size q =
    let few = and_parts (nat_lt 0 size) (nat_lt size 256)
    (and_parts (not (n == 1 && signed)) (nat_lt 0 size && nat_lt size 256) q).1 in
    (ltb-true 0 size few.0, ltb-true size 256 few.1)

-- a number of one byte is one without a sign
byte_unsigned : (signed : Bool) (size : ℕ) → is_addend signed 1 size ≡ true → signed ≡ false
byte_unsigned true size q = absurd cc
byte_unsigned false size q = refl

pub indexes_are_added : NumbersHaveLowParts → IndexesAreAdded
indexes_are_added low minus signed e (InRegisters r) (InRegisters d) n size a b v sp sq some oa ob apart can h =
    let ra : r ≡ a = let z = sp.at 0 (omega arith) in omega (arith, z) in
    let db : d ≡ b = let z = sq.at 0 (omega arith) in omega (arith, z) in
    subst (λ i. Adds v b (moved_by minus (value v.at b 2) (index_of signed n (value v.at i n) * size % 65536))
    (block e (add_index_code minus (InRegisters r) (InRegisters d) n size) v)) ra
    (subst (λ i. Adds v i (moved_by minus (value v.at i 2) (index_of signed n (value v.at r n) * size % 65536))
    (block e (add_index_code minus (InRegisters r) (InRegisters d) n size) v)) db (by_bytes n refl))
  where
    r_two : 2 ≤ r
    r_two = let u = sp.clear in let z = sp.at 0 (omega arith) in omega (arith, u, z)

    d_two : 2 ≤ d
    d_two = let u = sq.clear in let z = sq.at 0 (omega arith) in omega (arith, u, z)

    index_off : (i : ℕ) → i < n → r + i ≢ 26
    index_off i l q = let z = sp.at 0 (omega arith) in let o = oa (omega arith) in omega arith

    low_off : d ≢ 26
    low_off q = let z = sq.at 0 (omega arith) in let o = ob (omega arith) in omega arith

    high_off : d + 1 ≢ 26
    high_off q = let z = sq.at 0 (omega arith) in let o = ob (omega arith) in omega arith

    addend : is_addend signed n size ≡ true
    addend = (and_parts (not (r == d)) (is_addend signed n size) can).1

    few : size < 256
    few = (size_is_few signed n size addend).1

    outside : (i : ℕ) → i < n → Outside d 2 (r + i)
    outside i l o =
        let y = sp.at 0 (omega arith) in
        let z = sq.at 0 (omega arith) in
        let q = apart i l (omega arith) in
        omega arith

    by_bytes : (m : ℕ) → n ≡ m
        → Adds v d (moved_by minus (value v.at d 2) (index_of signed m (value v.at r m) * size % 65536))
        (block e (if m == 1 then byte_index_code minus r d size else pair_index_code minus r d size) v)
    by_bytes zero q = absurd (omega arith)
    by_bytes (suc zero) q =
        let unsigned = byte_unsigned signed size (subst (λ i. is_addend signed i size ≡ true) q addend) in
        let off : r ≢ 26 = λ t. let o = index_off 0 (omega arith) (omega arith) in o in
        subst (λ s. Adds v d (moved_by minus (value v.at d 2) (index_of s 1 (value v.at r 1) * size % 65536))
        (block e (byte_index_code minus r d size) v)) (sym unsigned)
        (byte_added minus e r d size v r_two d_two off low_off high_off few h)
    by_bytes (suc (suc k)) q =
        let m = suc (suc k) in
        let two = r_two in
        let parts : value v.at r m % 65536 ≡ value v.at r 2 = low v.at r 2 m (omega arith) (λ j l. h (r + j) (omega arith)) in
        let off : r ≢ 26 = λ t. let o = index_off 0 (omega arith) (omega arith) in o in
        rw (ne_eqb (suc (suc k)) 1 (omega arith), parts) (index_added minus e r d v r_two d_two off (index_off 1 (omega arith))
        (λ i l. outside i (omega arith)) h size low_off high_off few)
indexes_are_added low minus signed e (InRegisters r) (InMemory o k) n size a b v sp sq some oa ob apart can h = absurd cc
indexes_are_added low minus signed e (InMemory o k) (InRegisters d) n size a b v sp sq some oa ob apart can h = absurd cc
indexes_are_added low minus signed e (InMemory o k) (InMemory u j) n size a b v sp sq some oa ob apart can h = absurd cc

-- ---- the form

few_pairs : (minus : Bool) (r d size : ℕ) → 0 < size → size < 3 → IsShort (pairs_code minus r d size) 2 6 6
few_pairs minus r d zero l m = absurd (omega arith)
few_pairs false r d (suc zero) l m =
    record { straight = refl; at_least = omega arith; at_most = omega arith; words_are = omega arith }
few_pairs true r d (suc zero) l m =
    record { straight = refl; at_least = omega arith; at_most = omega arith; words_are = omega arith }
few_pairs false r d (suc (suc zero)) l m =
    record { straight = refl; at_least = omega arith; at_most = omega arith; words_are = omega arith }
few_pairs true r d (suc (suc zero)) l m =
    record { straight = refl; at_least = omega arith; at_most = omega arith; words_are = omega arith }
few_pairs minus r d (suc (suc (suc k))) l m = absurd (omega arith)

product_short : (minus : Bool) (r d size : ℕ) → IsShort (product_index_code minus r d size) 2 6 6
product_short false r d size = record { straight = refl; at_least = omega arith; at_most = omega arith; words_are = omega arith }
product_short true r d size = record { straight = refl; at_least = omega arith; at_most = omega arith; words_are = omega arith }

pair_short : (minus : Bool) (r d size : ℕ) → 0 < size → IsShort (pair_index_code minus r d size) 2 6 6
pair_short minus r d size some = by_size (nat_lt size 3) refl
  where
    by_size : (few : Bool) → nat_lt size 3 ≡ few
        → IsShort (if few then pairs_code minus r d size else product_index_code minus r d size) 2 6 6
    by_size true q = few_pairs minus r d size some (ltb-true size 3 q)
    by_size false q = product_short minus r d size

byte_short : (minus : Bool) (r d size : ℕ) → IsShort (byte_index_code minus r d size) 2 6 6
byte_short minus r d size = by_size minus (size == 1)
  where
    by_size : (minus one : Bool)
        → IsShort (if one then Plain (Ldi 26 0) ∷ pair_code minus d r 26 else add_product_code minus r d size) 2 6 6
    by_size false true = record { straight = refl; at_least = omega arith; at_most = omega arith; words_are = omega arith }
    by_size false false = record { straight = refl; at_least = omega arith; at_most = omega arith; words_are = omega arith }
    by_size true true = record { straight = refl; at_least = omega arith; at_most = omega arith; words_are = omega arith }
    by_size true false = record { straight = refl; at_least = omega arith; at_most = omega arith; words_are = omega arith }

pub indexes_are_short : IndexesAreShort
indexes_are_short minus signed (InRegisters r) (InRegisters d) n size can = by_bytes (n == 1) refl
  where
    addend : is_addend signed n size ≡ true
    addend = (and_parts (not (r == d)) (is_addend signed n size) can).1

    by_bytes : (b : Bool) → (n == 1) ≡ b
        → IsShort (if b then byte_index_code minus r d size else pair_index_code minus r d size) 2 6 6
    by_bytes true q = byte_short minus r d size
    by_bytes false q = pair_short minus r d size (size_is_few signed n size addend).0
indexes_are_short minus signed (InRegisters r) (InMemory o k) n size can = absurd cc
indexes_are_short minus signed (InMemory o k) (InRegisters d) n size can = absurd cc
indexes_are_short minus signed (InMemory o k) (InMemory u j) n size can = absurd cc

module _ (sizes : Sizes) where
  abbrev valid : AsmItem → Bool
  valid = is_valid_item sizes

  pair_valid : (minus : Bool) (d low high : ℕ) → d + 1 < 32 → low < 32 → high < 32
      → list_all valid (pair_code minus d low high) ≡ true
  pair_valid false d low high a b c =
      rw (lt-ltb d 32 (omega (arith, a)), lt-ltb (d + 1) 32 a, lt-ltb low 32 b, lt-ltb high 32 c) refl
  pair_valid true d low high a b c =
      rw (lt-ltb d 32 (omega (arith, a)), lt-ltb (d + 1) 32 a, lt-ltb low 32 b, lt-ltb high 32 c) refl

  product_valid : (minus : Bool) (r d size : ℕ) → r < 32 → d + 1 < 32 → size < 256
      → list_all valid (add_product_code minus r d size) ≡ true
  product_valid minus r d size a b c =
      rw (lt-ltb size 256 c, lt-ltb r 32 a, pair_valid minus d 0 1 b (omega arith) (omega arith)) refl

  byte_valid : (minus : Bool) (r d size : ℕ) → r < 32 → d + 1 < 32 → size < 256
      → list_all valid (byte_index_code minus r d size) ≡ true
  byte_valid minus r d size a b c = by_size (size == 1)
    where
      by_size : (one : Bool)
          → list_all valid (if one then Plain (Ldi 26 0) ∷ pair_code minus d r 26 else add_product_code minus r d size) ≡ true
      by_size true = rw (pair_valid minus d r 26 b a (omega arith)) refl
      by_size false = product_valid minus r d size a b c

  high_valid : (minus : Bool) (d : ℕ) → d + 1 < 32 → list_all valid (high_code minus d) ≡ true
  high_valid false d b = rw (lt-ltb (d + 1) 32 b) refl
  high_valid true d b = rw (lt-ltb (d + 1) 32 b) refl

  word_valid : (minus : Bool) (r d size : ℕ) → r + 1 < 32 → d + 1 < 32 → size < 256
      → list_all valid (pair_index_code minus r d size) ≡ true
  word_valid minus r d size a b c = by_size (nat_lt size 3)
    where
      by_size : (few : Bool) → list_all valid (if few then pairs_code minus r d size else product_index_code minus r d size) ≡ true
      by_size true = all_pass valid (λ i. pair_code minus d r (r + 1)) size (λ i l. pair_valid minus d r (r + 1) b (omega (arith, a)) a)
      by_size false =
          both valid (add_product_code minus r d size) (Plain (Mul (r + 1) 26) ∷ high_code minus d)
          (product_valid minus r d size (omega (arith, a)) b c) (rw (lt-ltb (r + 1) 32 a, high_valid minus d b) refl)

pub indexes_are_valid : IndexesAreValid
indexes_are_valid sizes minus signed (InRegisters r) (InRegisters d) n size hp some hq can = by_bytes (n == 1) refl
  where
    addend : is_addend signed n size ≡ true
    addend = (and_parts (not (r == d)) (is_addend signed n size) can).1

    few : size < 256
    few = (size_is_few signed n size addend).1

    room : r + 1 < 32
    room =
        ⊎_elim (λ (k : r + n ≤ 30). omega (arith, some)) (λ (k : (r == 30) ≡ true). let z = eqb-true r 30 k in omega (arith, z)) hp

    by_bytes : (b : Bool) → (n == 1) ≡ b
        → list_all (is_valid_item sizes) (if b then byte_index_code minus r d size else pair_index_code minus r d size) ≡ true
    by_bytes true q = byte_valid sizes minus r d size (omega (arith, room)) (omega arith) few
    by_bytes false q = word_valid sizes minus r d size room (omega arith) few
indexes_are_valid sizes minus signed (InRegisters r) (InMemory o k) n size hp some hq can = absurd cc
indexes_are_valid sizes minus signed (InMemory o k) (InRegisters d) n size hp some hq can = absurd cc
indexes_are_valid sizes minus signed (InMemory o k) (InMemory u j) n size hp some hq can = absurd cc

pair_plain : (minus : Bool) (d low high : ℕ) → list_all is_plain (pair_code minus d low high) ≡ true
pair_plain true d low high = refl
pair_plain false d low high = refl

index_plain : (minus : Bool) (p q : Location) (n size : ℕ) → list_all is_plain (add_index_code minus p q n size) ≡ true
index_plain minus (InRegisters r) (InRegisters d) n size = by_bytes (n == 1)
  where
    of_byte : (minus one : Bool)
        → list_all is_plain (if one then Plain (Ldi 26 0) ∷ pair_code minus d r 26 else add_product_code minus r d size) ≡ true
    of_byte true true = refl
    of_byte true false = refl
    of_byte false true = refl
    of_byte false false = refl

    of_product : (minus : Bool) → list_all is_plain (product_index_code minus r d size) ≡ true
    of_product true = refl
    of_product false = refl

    of_pair : (few : Bool) → list_all is_plain (if few then pairs_code minus r d size else product_index_code minus r d size) ≡ true
    of_pair true = all_pass is_plain (λ i. pair_code minus d r (r + 1)) size (λ i l. pair_plain minus d r (r + 1))
    of_pair false = of_product minus

    by_bytes : (b : Bool) → list_all is_plain (if b then byte_index_code minus r d size else pair_index_code minus r d size) ≡ true
    by_bytes true = of_byte minus (size == 1)
    by_bytes false = of_pair (nat_lt size 3)
index_plain minus (InRegisters r) (InMemory o k) n size = refl
index_plain minus (InMemory o k) (InRegisters d) n size = refl
index_plain minus (InMemory o k) (InMemory u j) n size = refl

pub indexes_have_no_label : IndexesHaveNoLabel
indexes_have_no_label minus p q n size = has_no_label (add_index_code minus p q n size) (index_plain minus p q n size)
