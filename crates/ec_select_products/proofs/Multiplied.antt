-- The product of two bytes.
use Rattle.std.proofs.Common.{◌≡◌, ◌≢◌, ℕ, zero, suc, ◌+◌, ◌-◌, ◌*◌, ◌/◌, ◌%◌, ◌^◌, ◌<◌, ◌≤◌, ⊎_elim, Bool, true, false, refl, sym, ap, ◌∙◌}
use Rattle.std.proofs.Common.{subst, arith, append-nil, ◌∷◌, [], ◌++◌}
use Rattle.std.proofs.lemmas.Bool.{cases_eq, cases_lt}
use Rattle.std.proofs.lemmas.Nat.{mod_below, mul-le}
use Rattle.ec_isa.specs.declared.instructions.Instr.TheVariants.{Mul}
use Rattle.ec_asm.specs.declared.items.AsmItem.TheVariants.{Plain}
use Rattle.ec_asm.specs.declared.pieces.Location.{Location}
use Rattle.ec_asm.specs.declared.pieces.Location.TheVariants.{InRegisters}
use Rattle.ec_asm.specs.declared.pieces.Operator.TheVariants.{Sum}
use Rattle.ec_asm.specs.View.{View, put}
use Rattle.ec_asm.specs.Change.{Env, Own, change}
use Rattle.ec_asm.specs.Items.{HasAt, block, code_steps, all_straight}
use Rattle.ec_asm.specs.Pieces.{StandsFrom, Outside, value, copy_code, sign_of}
use Rattle.ec_asm.specs.PieceLaws.{HoldsNumbers}
use Rattle.ec_asm.specs.Takes.{Goes}
use Rattle.ec_asm.proofs.Bytes.{put_other}
use Rattle.ec_asm.proofs.Compared.{copy_holds}
use Rattle.ec_asm.proofs.Hoare.{has_parts, block_goes, block-append, goes_on_to, steps-append, straight-append}
use Rattle.ec_asm.proofs.Results.{pieces_are_straight, pieces_take}
use Rattle.ec_select_products.specs.Products.{product_of, factors_code, less_code, corrected_code, multiply_code, puts_code}
use Rattle.ec_select_products.specs.Laws.{Leads, ProductsAreRight}
use Rattle.ec_select_products.proofs.Puts.{PutsTo, puts_hold, puts_straight, puts_steps}
use Rattle.ec_select_products.proofs.Signs.{lessens}

-- ---- MUL

record Multiplied (v w : View) (x z : ℕ) : Type 0 where
  low : w.at 0 ≡ x * z % 256
  high : w.at 1 ≡ x * z / 256
  left : w.at 30 ≡ x
  right : w.at 31 ≡ z
  same : (k : ℕ) → k ≢ 0 → k ≢ 1 → Outside 30 2 k → w.at k ≡ v.at k
  inputs : w.inputs ≡ v.inputs
  safe : w.safe ≡ v.safe
  seen : w.seen ≡ v.seen

register : (e : Env) (r : ℕ) → 2 ≤ r → StandsFrom e (InRegisters r) 1 r Own
register e r l = record { at = λ i m. refl; kind = λ i m. refl; clear = l }

after_copies : (e : Env) (p q : Location) (a b : ℕ) (v : View) → StandsFrom e p 1 a Own → StandsFrom e q 1 b Own
    → Outside 30 2 a → Outside 30 2 b
    → Multiplied v (change e (Mul 30 31) (block e (copy_code q (InRegisters 31) 1) (block e (copy_code p (InRegisters 30) 1) v)))
    (v.at a) (v.at b)
after_copies e p q a b v sa sb oa ob =
    let ua = sa.clear in
    let ub = sb.clear in
    let v1 = block e (copy_code p (InRegisters 30) 1) v in
    let v2 = block e (copy_code q (InRegisters 31) 1) v1 in
    let c1 = copy_holds e p (InRegisters 30) 1 a 30 Own Own v sa (register e 30 (omega arith)) refl refl (λ l. omega arith) in
    let c2 = copy_holds e q (InRegisters 31) 1 b 31 Own Own v1 sb (register e 31 (omega arith)) refl refl (λ l. omega arith) in
    let za : a + 0 ≡ a = omega arith in
    let zb : b + 0 ≡ b = omega arith in
    let x1 : v1.at 30 ≡ v.at a = c1.there 0 (omega arith) ∙ ap v.at za in
    let x2 : v2.at 30 ≡ v.at a = c2.same 30 (omega arith) (λ l. absurd (omega arith)) ∙ x1 in
    let y1 : v1.at b ≡ v.at b = c1.same b (omega arith) (λ l. let m = ob l in omega arith) in
    let y2 : v2.at 31 ≡ v.at b = c2.there 0 (omega arith) ∙ ap v1.at zb ∙ y1 in
    let n = v2.at 30 * v2.at 31 in
    let product : n ≡ v.at a * v.at b = ap (λ i. i * v2.at 31) x2 ∙ ap (λ i. v.at a * i) y2 in
    record {
      low = ap (λ i. i % 256) product;
      high = ap (λ i. i / 256) product;
      left = x2;
      right = y2;
      same = λ k s o t. put_other (put v2.at 0 (n % 256)) 1 (n / 256) k o ∙ put_other v2.at 0 (n % 256) k s
          ∙ c2.same k s (λ l. let m = t (omega arith) in omega arith) ∙ c1.same k s (λ l. let m = t l in omega arith);
      inputs = c2.inputs ∙ c1.inputs;
      safe = c2.safe ∙ c1.safe;
      seen = c2.seen ∙ append-nil v1.seen ∙ c1.seen ∙ append-nil v.seen;
    }

factors_hold : (e : Env) (p q : Location) (a b : ℕ) (v : View) → StandsFrom e p 1 a Own → StandsFrom e q 1 b Own
    → Outside 30 2 a → Outside 30 2 b → Multiplied v (block e (factors_code p q) v) (v.at a) (v.at b)
factors_hold e p q a b v sa sb oa ob =
    rw (
      block-append e (copy_code p (InRegisters 30) 1) (copy_code q (InRegisters 31) 1 ++ Plain (Mul 30 31) ∷ []) v,
      block-append e (copy_code q (InRegisters 31) 1) (Plain (Mul 30 31) ∷ []) (block e (copy_code p (InRegisters 30) 1) v),
    ) (after_copies e p q a b v sa sb oa ob)

factors_straight : (p q : Location) → all_straight (factors_code p q) ≡ true
factors_straight p q =
    straight-append (copy_code p (InRegisters 30) 1)
    (copy_code q (InRegisters 31) 1 ++ Plain (Mul 30 31) ∷ []) (pieces_are_straight Sum p (InRegisters 30) 1).0
    (straight-append (copy_code q (InRegisters 31) 1) (Plain (Mul 30 31) ∷ []) (pieces_are_straight Sum q (InRegisters 31) 1).0 refl)

factors_steps : (p q : Location) → code_steps (factors_code p q) ≤ 5
factors_steps p q =
    let a = (pieces_take Sum p (InRegisters 30) 1).0.1 in
    let b = (pieces_take Sum q (InRegisters 31) 1).0.1 in
    omega (
      arith,
      steps-append (copy_code p (InRegisters 30) 1) (copy_code q (InRegisters 31) 1 ++ Plain (Mul 30 31) ∷ []),
      steps-append (copy_code q (InRegisters 31) 1) (Plain (Mul 30 31) ∷ []),
      a,
      b,
    )

-- ---- signs

sign_bit : (signed : Bool) (x z : ℕ) → x < 256 → z < 256 → sign_of signed x * z ≤ 255
sign_bit false x z l k = omega arith
sign_bit true x z l k =
    ⊎_elim (λ (g : x < 128). let s : x / 128 ≡ 0 = omega arith in rw s (omega arith))
    (λ (g : 128 ≤ x). let s : x / 128 ≡ 1 = omega arith in rw s (omega arith)) (cases_lt x 128)

both_signs : (p s t : ℕ) → s ≤ 255 → t ≤ 255
    → p % 256 + 256 * (((p / 256 + 256 - s) % 256 + 256 - t) % 256) ≡ (p + 131072 - 256 * (s + t)) % 65536
both_signs p s t l k = omega arith

-- the high byte of a product of bytes
high_below : (x z : ℕ) → x < 256 → z < 256 → x * z / 256 < 256
high_below x z l k =
    let m : x * z ≤ 255 * 255 = mul-le x z 255 255 (omega arith) (omega arith) in
    omega arith

-- the product stands in R1:R0
record InPair (e : Env) (pc : ℕ) (v : View) (end number : ℕ) : Type 0 where
  steps : ℕ
  at_most : steps ≤ 9
  last : View
  goes : Goes e steps pc v end last
  product : last.at 0 + 256 * last.at 1 ≡ number
  low : last.at 0 < 256
  high : last.at 1 < 256
  left : last.at 30 < 256
  right : last.at 31 < 256
  same : (k : ℕ) → k ≢ 0 → k ≢ 1 → Outside 30 2 k → last.at k ≡ v.at k
  inputs : last.inputs ≡ v.inputs
  safe : last.safe ≡ v.safe
  seen : last.seen ≡ v.seen

in_pair : (sx sz : Bool) (e : Env) (p q : Location) (a b pc end : ℕ) (v : View) → StandsFrom e p 1 a Own
    → StandsFrom e q 1 b Own → Outside 30 2 a → Outside 30 2 b → HoldsNumbers v
    → HasAt e (multiply_code sx sz p q) pc end → InPair e pc v end (product_of sx sz (v.at a) (v.at b))
in_pair sx sz e p q a b pc end v sa sb oa ob h stands =
    let x = v.at a in
    let z = v.at b in
    let lx : x < 256 = h a sa.clear in
    let lz : z < 256 = h b sb.clear in
    let s1 = has_parts e (factors_code p q) (corrected_code sx sz) pc end stands in
    let s2 = has_parts e (less_code sx 30 31) (less_code sz 31 30) s1.0 end s1.2 in
    let v1 = block e (factors_code p q) v in
    let m = factors_hold e p q a b v sa sb oa ob in
    let h0 = high_below x z lx lz in
    let b1 : v1.at 1 < 256 = rw (m.high) h0 in
    let l30 : v1.at 30 < 256 = rw (m.left) lx in
    let l31 : v1.at 31 < 256 = rw (m.right) lz in
    let g = lessens sx e 30 31 s1.0 s2.0 v1 l30 b1 l31 s2.1 in
    let v2 = g.last in
    let left2 : v2.at 30 ≡ x = g.same 30 (omega arith) ∙ m.left in
    let right2 : v2.at 31 ≡ z = g.same 31 (omega arith) ∙ m.right in
    let high1 : v2.at 1 ≡ (x * z / 256 + 256 - sign_of sx x * z) % 256 = g.high ∙ rw (m.high, m.left, m.right) refl in
    let b2 : v2.at 1 < 256 = rw high1 (mod_below (x * z / 256 + 256 - sign_of sx x * z) 256 (omega arith)) in
    let k = lessens sz e 31 30 s2.0 end v2 (rw right2 lz) b2 (rw left2 lx) s2.2 in
    let v3 = k.last in
    let high2 : v3.at 1 ≡ ((x * z / 256 + 256 - sign_of sx x * z) % 256 + 256 - sign_of sz z * x) % 256 =
    k.high ∙ rw (high1, left2, right2) refl in
    let low2 : v3.at 0 ≡ x * z % 256 = k.same 0 (omega arith) ∙ g.same 0 (omega arith) ∙ m.low in
    let first = block_goes e (factors_code p q) pc s1.0 v (factors_straight p q) s1.1 in
    let take = factors_steps p q in
    let take1 = g.at_most in
    let take2 = k.at_most in
    record {
      steps = code_steps (factors_code p q) + g.steps + k.steps;
      at_most = omega (arith, take, take1, take2);
      last = v3;
      goes = goes_on_to e (code_steps (factors_code p q) + g.steps) k.steps pc s2.0 end v v2 v3
          (goes_on_to e (code_steps (factors_code p q)) g.steps pc s1.0 s2.0 v v1 v2 first g.goes) k.goes;
      product = rw (low2, high2) (both_signs (x * z) (sign_of sx x * z) (sign_of sz z * x) (sign_bit sx x z lx lz) (sign_bit sz z x lz lx));
      low = rw low2 (mod_below (x * z) 256 (omega arith));
      high = rw high2 (mod_below ((x * z / 256 + 256 - sign_of sx x * z) % 256 + 256 - sign_of sz z * x) 256 (omega arith));
      left = rw (k.same 30 (omega arith), left2) lx;
      right = rw (k.same 31 (omega arith), right2) lz;
      same = λ i s o t. k.same i o ∙ g.same i o ∙ m.same i s o t;
      inputs = k.inputs ∙ g.inputs ∙ m.inputs;
      safe = k.safe ∙ g.safe ∙ m.safe;
      seen = k.seen ∙ g.seen ∙ m.seen;
    }

-- ---- at its place

low_pair : (f : ℕ → ℕ) (a n l h : ℕ) → n ≤ 2 → l < 256 → h < 256 → (0 < n → f (a + 0) ≡ l) → (1 < n → f (a + 1) ≡ h)
    → value f a n ≡ (l + 256 * h) % 256 ^ n
low_pair f a zero l h most x z p q = omega arith
low_pair f a (suc zero) l h most x z p q = let e = p (omega arith) in rw e (omega arith)
low_pair f a (suc (suc zero)) l h most x z p q =
    let e = p (omega arith) in
    let g = q (omega arith) in
    rw (e, g) (omega arith)
low_pair f a (suc (suc (suc n))) l h most x z p q = absurd (omega arith)

pub products_are_right : ProductsAreRight
products_are_right sx sz e p q to n a b c pc end v sa sb sc most oa ob h stands =
    let s = has_parts e (multiply_code sx sz p q) (puts_code to n) pc end stands in
    let m = in_pair sx sz e p q a b pc s.0 v sa sb oa ob h s.1 in
    let v1 = m.last in
    let w = block e (puts_code to n) v1 in
    let u = puts_hold e to n c v1 sc most in
    let second = block_goes e (puts_code to n) s.0 end v1 (puts_straight to n) s.2 in
    let take = m.at_most in
    let take1 = puts_steps to n in
    let small : (j : ℕ) → j < n → w.at (c + j) < 256 = λ j l. rw (u.there j l) (pair_below j (omega arith) v1 m.low m.high) in
    let number = low_pair w.at c n (v1.at 0) (v1.at 1) most m.low m.high (λ l. u.there 0 l) (λ l. u.there 1 l) in
    record {
      steps = m.steps + code_steps (puts_code to n);
      at_most = omega (arith, take, take1);
      last = w;
      goes = goes_on_to e m.steps (code_steps (puts_code to n)) pc s.0 end v v1 w m.goes second;
      number_is = number ∙ ap (λ i. i % 256 ^ n) m.product;
      numbers = all_numbers v1 w (numbers1 v1 m.left m.right m.same) u.same small;
      same = λ k i j o t. u.same k t ∙ m.same k i j o;
      inputs = u.inputs ∙ m.inputs;
      safe = u.safe ∙ m.safe;
      seen = u.seen ∙ m.seen;
    }
  where
    pair_below : (j : ℕ) → j < 2 → (v1 : View) → v1.at 0 < 256 → v1.at 1 < 256 → v1.at j < 256
    pair_below zero l v1 x z = x
    pair_below (suc zero) l v1 x z = z
    pair_below (suc (suc j)) l v1 x z = absurd (omega arith)

    numbers1 : (v1 : View) → v1.at 30 < 256 → v1.at 31 < 256
        → ((k : ℕ) → k ≢ 0 → k ≢ 1 → Outside 30 2 k → v1.at k ≡ v.at k) → HoldsNumbers v1
    numbers1 v1 x z same k some =
        ⊎_elim (λ (r : k ≡ 30). rw r x)
        (λ (r : k ≢ 30). ⊎_elim (λ (t : k ≡ 31). rw t z)
        (λ (t : k ≢ 31). rw (same k (omega arith) (omega arith) (λ l. omega arith)) (h k some)) (cases_eq k 31))
        (cases_eq k 30)

    all_numbers : (v1 w : View) → HoldsNumbers v1 → ((k : ℕ) → Outside c n k → w.at k ≡ v1.at k) → ((j : ℕ) → j < n → w.at (c + j) < 256)
        → HoldsNumbers w
    all_numbers v1 w f same there k some =
        ⊎_elim
        (λ (l : k < c). rw (same k (λ x. absurd (omega arith))) (f k some))
        (λ (l : c ≤ k).
        ⊎_elim
        (λ (r : k < c + n). let i : c + (k - c) ≡ k = omega arith in subst (λ j. w.at j < 256) i (there (k - c) (omega arith)))
        (λ (r : c + n ≤ k). rw (same k (λ x. r)) (f k some))
        (cases_lt k (c + n)))
        (cases_lt k c)
