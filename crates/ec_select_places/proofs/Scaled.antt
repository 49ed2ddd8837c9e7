-- A number of elements is loaded to R31:R30, and becomes one of bytes.
use Rattle.std.proofs.Common.{◌≡◌, ◌≢◌, ℕ, zero, suc, ◌+◌, ◌*◌, ◌/◌, ◌%◌, ◌^◌, ◌<◌, ◌≤◌, ◌==◌, ⊎_elim, Bool, true, false}
use Rattle.std.proofs.Common.{Some, [], ◌∷◌, refl, sym, ap, ◌∙◌, subst, arith, append-nil, ◌++◌}
use Rattle.std.specs.Prelude.{if◌then◌else◌, nat_lt, Option, None}
use Rattle.std.proofs.lemmas.Bool.{cases_eq, eqb-true, ne_eqb, ltb-true, false≢true}
use native.Mathlib.Nat.{pow-suc}
use Rattle.ec_isa.specs.declared.instructions.Instr.TheVariants.{Ldi, Movw, Mul, Add, Adc}
use Rattle.ec_asm.specs.declared.items.AsmItem.TheVariants.{Plain}
use Rattle.ec_asm.specs.declared.pieces.Location.{Location}
use Rattle.ec_asm.specs.declared.pieces.Location.TheVariants.{InRegisters, InMemory}
use Rattle.ec_asm.specs.View.{View}
use Rattle.ec_asm.specs.Change.{Env, Own, change}
use Rattle.ec_asm.specs.Items.{block}
use Rattle.ec_asm.specs.Pieces.{StandsFrom, Outside, value, copy_code, CopiesTo}
use Rattle.ec_asm.specs.PieceLaws.{HoldsNumbers, CopiesAreRight, NumbersHaveLowParts}
use Rattle.ec_asm.proofs.Bytes.{put_other}
use Rattle.ec_asm.proofs.Hoare.{block-append}
use Rattle.ec_select_bytes.specs.Values.{extend_code, fill_of}
use Rattle.ec_select_bytes.specs.Laws.{ExtensionsAreRight}
use Rattle.ec_select_pointers.specs.Accesses.{point_code}
use Rattle.ec_select_places.specs.Steps.{z_pair, index_code, product_code, byte_product_code, double_z, doublings_code}
use Rattle.ec_select_places.specs.Steps.{is_in_z}
use Rattle.ec_select_places.specs.Steps.{doublings_of, scale_by, scale_code}
use Rattle.ec_select_places.specs.StepLaws.{LeavesZ, MayBeInZ, index_of, Scales, IndexesAreScaled}
use Rattle.ec_select_places.proofs.Blocks.{pair_other, first_bytes, copied_numbers}

-- what is known of the pieces
pub record Lower : Type 0 where
  pub copies : CopiesAreRight
  pub extensions : ExtensionsAreRight
  pub low : NumbersHaveLowParts

-- ---- loaded

-- R31:R30 has a number, and all else is kept but R0, R1 and the flags
pub record Loads (v : View) (number : ℕ) (w : View) : Type 0 where
  pub number_is : value w.at 30 2 ≡ number
  pub numbers : HoldsNumbers w
  pub same : (k : ℕ) → k ≢ 0 → k ≢ 1 → Outside 30 2 k → w.at k ≡ v.at k
  pub inputs : w.inputs ≡ v.inputs
  pub safe : w.safe ≡ v.safe
  pub seen : w.seen ≡ v.seen

pub z_stands : (e : Env) (m : ℕ) → StandsFrom e z_pair m 30 Own
z_stands e m = record { at = λ i l. refl; kind = λ i l. refl; clear = omega arith }

pub to_z : (copies : CopiesAreRight) (e : Env) (p : Location) (m n a : ℕ) (v : View) → m ≤ n → StandsFrom e p n a Own
    → LeavesZ a n → CopiesTo v a 30 Own Own m (block e (copy_code p z_pair m) v)
to_z copies e p m n a v l s z =
    copies e p z_pair m a 30 Own Own v (first_bytes e p m n a l s) (z_stands e m) refl refl
    (λ q. let b = z.low (omega arith) in omega arith)

pub two_loaded : (copies : CopiesAreRight) (e : Env) (p : Location) (n a : ℕ) (v : View) → 2 ≤ n
    → StandsFrom e p n a Own → LeavesZ a n → HoldsNumbers v → Loads v (value v.at a 2) (block e (copy_code p z_pair 2) v)
two_loaded copies e p n a v l s z h =
    let w = block e (copy_code p z_pair 2) v in
    let c = to_z copies e p 2 n a v l s z in
    let low : w.at (30 + 0) ≡ v.at (a + 0) = c.there 0 (omega arith) in
    let high : w.at (30 + 1) ≡ v.at (a + 1) = c.there 1 (omega arith) in
    record {
      number_is = rw (low, high) refl;
      numbers = copied_numbers v w a 30 2 s.clear h c.there c.same;
      same = λ k n0 n1 o. c.same k n0 o;
      inputs = c.inputs;
      safe = c.safe;
      seen = c.seen ∙ append-nil v.seen;
    }

-- by one MOVW
one_pair_loaded : (e : Env) (r : ℕ) (v : View) → 2 ≤ r → HoldsNumbers v
    → Loads v (value v.at r 2) (change e (Movw 30 r) v)
one_pair_loaded e r v two h =
    let w = change e (Movw 30 r) v in
    let x = h r two in
    let y = h (r + 1) (omega arith) in
    let n = v.at r + 256 * v.at (r + 1) in
    let low : w.at 30 ≡ n % 256 = refl in
    let high : w.at 31 ≡ n / 256 = refl in
    let same : r + 0 ≡ r = omega arith in
    record {
      number_is = rw (low, high, same) (omega (arith, x, y));
      numbers = λ k u.
          ⊎_elim
          (λ (q : k ≡ 30). rw (q, low) (omega arith))
          (λ (q : k ≢ 30).
          ⊎_elim
          (λ (t : k ≡ 31). rw (t, high) (omega (arith, x, y)))
          (λ (t : k ≢ 31). rw (pair_other v.at 30 n k q t) (h k u))
          (cases_eq k 31))
          (cases_eq k 30);
      same = λ k n0 n1 o.
          pair_other v.at 30 n k (λ (q : k ≡ 30). let b = o (omega arith) in omega arith)
          (λ (q : k ≡ 31). let b = o (omega arith) in omega arith);
      inputs = refl;
      safe = refl;
      seen = refl;
    }

pub pair_loaded : (copies : CopiesAreRight) (e : Env) (p : Location) (n a : ℕ) (v : View) → 2 ≤ n
    → StandsFrom e p n a Own → LeavesZ a n → HoldsNumbers v → Loads v (value v.at a 2) (block e (point_code p) v)
pair_loaded copies e (InMemory o k) n a v l s z h = two_loaded copies e (InMemory o k) n a v l s z h
pair_loaded copies e (InRegisters r) n a v l s z h = by_evenness (r % 2 == 0)
  where
    by_evenness : (b : Bool)
        → Loads v (value v.at a 2) (block e (if b then Plain (Movw 30 r) ∷ [] else copy_code (InRegisters r) z_pair 2) v)
    by_evenness true =
        let first = s.at 0 (omega arith) in
        let is : r ≡ a = omega (arith, first) in
        let two = s.clear in
        subst (λ i. Loads v (value v.at i 2) (change e (Movw 30 r) v)) is (one_pair_loaded e r v (omega (arith, two, is)) h)
    by_evenness false = two_loaded copies e (InRegisters r) n a v l s z h

fill_is_below : (signed : Bool) (x : ℕ) → x < 256 → fill_of signed x < 256
fill_is_below true x l = omega arith
fill_is_below false x l = omega arith

-- one byte that stands in R30
one_there : (extensions : ExtensionsAreRight) (e : Env) (signed : Bool) (v : View) → HoldsNumbers v
    → Loads v (value v.at 30 1 + 256 * fill_of signed (value v.at 30 1)) (block e (extend_code signed z_pair 1 2) v)
one_there extensions e signed v h =
    let w = block e (extend_code signed z_pair 1 2) v in
    let x = extensions signed e z_pair 0 2 30 v (z_stands e 2) (omega arith) h in
    let small : v.at (30 + 0) < 256 = h (30 + 0) (omega arith) in
    let low : w.at (30 + 0) ≡ v.at (30 + 0) = x.keeps.same 30 (omega arith) (omega arith) (λ o. absurd (omega arith)) in
    let high : w.at (30 + 1) ≡ fill_of signed (v.at (30 + 0)) = x.there 1 (omega arith) (omega arith) in
    let one : value v.at 30 1 ≡ v.at (30 + 0) = omega arith in
    let fill = fill_is_below signed (v.at (30 + 0)) small in
    record {
      number_is = rw (low, high, one) (omega arith);
      numbers = λ k u.
          ⊎_elim
          (λ (q : k ≡ 31). rw (q, high) fill)
          (λ (q : k ≢ 31).
          ⊎_elim
          (λ (t : k ≡ 1). absurd (omega arith))
          (λ (t : k ≢ 1). rw (x.keeps.same k (omega arith) t (λ o. omega (arith, q))) (h k u))
          (cases_eq k 1))
          (cases_eq k 31);
      same = λ k k0 k1 o. x.keeps.same k k0 k1 (λ l. let b = o (omega arith) in omega arith);
      inputs = x.keeps.inputs;
      safe = x.keeps.safe;
      seen = x.keeps.seen;
    }

one_loaded : (copies : CopiesAreRight) (extensions : ExtensionsAreRight) (e : Env) (p : Location) (signed : Bool)
    (a : ℕ) (v : View) → StandsFrom e p 1 a Own → LeavesZ a 1 → HoldsNumbers v
    → Loads v (value v.at a 1 + 256 * fill_of signed (value v.at a 1))
    (block e (extend_code signed z_pair 1 2) (block e (copy_code p z_pair 1) v))
one_loaded copies extensions e p signed a v s z h =
    let v1 = block e (copy_code p z_pair 1) v in
    let c = to_z copies e p 1 1 a v (omega arith) s z in
    let n1 : HoldsNumbers v1 = copied_numbers v v1 a 30 1 s.clear h c.there c.same in
    let x = one_there extensions e signed v1 n1 in
    let low : v1.at (30 + 0) ≡ v.at (a + 0) = c.there 0 (omega arith) in
    let one : value v1.at 30 1 ≡ value v.at a 1 = (rw low refl) in
    record {
      number_is = x.number_is ∙ ap (λ t. t + 256 * fill_of signed t) one;
      numbers = x.numbers;
      same = λ k k0 k1 o. x.same k k0 k1 o ∙ c.same k k0 (λ l. let b = o l in omega arith);
      inputs = x.inputs ∙ c.inputs;
      safe = x.safe ∙ c.safe;
      seen = x.seen ∙ (c.seen ∙ append-nil v.seen);
    }

-- bytes from R30 on are those of R30 and R31
in_z : (e : Env) (p : Location) (n a : ℕ) → is_in_z p ≡ true → 1 ≤ n → StandsFrom e p n a Own → a ≡ 30
in_z e (InRegisters r) n a i l s =
    let first : r + 0 ≡ a + 0 = s.at 0 (omega (arith, l)) in
    let is : r ≡ 30 = eqb-true r 30 i in
    omega (arith, first, is)
in_z e (InMemory o k) n a i l s = absurd cc

-- an index that stands in R30, or in R31:R30
there_loads : (lower : Lower) (e : Env) (signed : Bool) (n : ℕ) (v : View) → n ≤ 2 → 1 ≤ n → HoldsNumbers v
    → Loads v (index_of signed n (value v.at 30 n))
    (block e (if n == 1 then [] ++ extend_code signed z_pair 1 2 else []) v)
there_loads lower e signed zero v m l h = absurd (omega arith)
there_loads lower e signed (suc zero) v m l h = one_there lower.extensions e signed v h
there_loads lower e signed (suc (suc zero)) v m l h =
    let low : v.at (30 + 0) < 256 = h 30 (omega arith) in
    let high : v.at (30 + 1) < 256 = h 31 (omega arith) in
    record {
      number_is = omega (arith, low, high);
      numbers = h;
      same = λ k n0 n1 o. refl;
      inputs = refl;
      safe = refl;
      seen = refl;
    }
there_loads lower e signed (suc (suc (suc n))) v m l h = absurd (omega arith)

brought_loads : (lower : Lower) (e : Env) (p : Location) (signed : Bool) (n a : ℕ) (v : View) → StandsFrom e p n a Own
    → LeavesZ a n → 1 ≤ n → HoldsNumbers v
    → Loads v (index_of signed n (value v.at a n))
    (block e (if n == 1 then copy_code p z_pair 1 ++ extend_code signed z_pair 1 2 else point_code p) v)
brought_loads lower e p signed zero a v s z l h = absurd (omega arith)
brought_loads lower e p signed (suc zero) a v s z l h =
    rw (block-append e (copy_code p z_pair 1) (extend_code signed z_pair 1 2) v)
    (one_loaded lower.copies lower.extensions e p signed a v s z h)
brought_loads lower e p signed (suc (suc n)) a v s z l h =
    let ua = s.clear in
    let low : value v.at a (suc (suc n)) % 65536 ≡ value v.at a 2 =
    lower.low v.at a 2 (suc (suc n)) (omega arith) (λ j m. h (a + j) (omega arith)) in
    rw (ne_eqb (suc (suc n)) 1 (omega arith), low) (pair_loaded lower.copies e p (suc (suc n)) a v (omega arith) s z h)

index_loads : (lower : Lower) (e : Env) (p : Location) (signed : Bool) (n a : ℕ) (v : View) → StandsFrom e p n a Own
    → MayBeInZ p a n → 1 ≤ n → HoldsNumbers v
    → Loads v (index_of signed n (value v.at a n)) (block e (index_code p signed n) v)
index_loads lower e p signed n a v s z l h = by_place (is_in_z p) refl
  where
    -- bytes that leave R30 and R31 alone do not stand there
    few : is_in_z p ≡ true → n ≤ 2
    few i =
        ⊎_elim
        (λ (k : LeavesZ a n). let is = in_z e p n a i l s in let b = k.low (omega (arith, is)) in absurd (omega (arith, b, is, l)))
        (λ (k : (is_in_z p ≡ true) × (n ≤ 2)). k.1) z

    by_place : (b : Bool) → is_in_z p ≡ b
        → Loads v (index_of signed n (value v.at a n))
        (block e (if n == 1 then (if b then [] else copy_code p z_pair 1) ++ extend_code signed z_pair 1 2
        else (if b then [] else point_code p)) v)
    by_place true i =
        subst (λ c. Loads v (index_of signed n (value v.at c n))
        (block e (if n == 1 then [] ++ extend_code signed z_pair 1 2 else []) v)) (sym (in_z e p n a i l s))
        (there_loads lower e signed n v (few i) l h)
    by_place false i =
        ⊎_elim (λ (k : LeavesZ a n). brought_loads lower e p signed n a v s k l h)
        (λ (k : (is_in_z p ≡ true) × (n ≤ 2)). absurd (false≢true (sym i ∙ k.0))) z

-- ---- scaled

-- the low two bytes of a product, of the products of bytes
abbrev low_product : (xx xy yx : ℕ) → ℕ
low_product xx xy yx =
    let r = xx % 256 + 256 * (xx / 256) in
    r % 256 + 256 * (((r / 256 + xy % 256 + 0) % 256 + yx % 256 + 0) % 256)

-- the same with a factor of one byte
abbrev low_byte_product : (xx yx : ℕ) → ℕ
low_byte_product xx yx =
    let r = xx % 256 + 256 * (xx / 256) in
    r % 256 + 256 * ((r / 256 + yx % 256 + 0) % 256)

product_is : (x y k m : ℕ) → low_product (x * k) (x * m) (y * k) ≡ (x + 256 * y) * (k + 256 * m) % 65536
product_is x y k m =
    let p : (x + 256 * y) * (k + 256 * m) ≡ x * k + 256 * (x * m) + 256 * (y * k) + 65536 * (y * m) = omega arith in
    rw p (parts (x * k) (x * m) (y * k) (y * m))
  where
    parts : (a b c d : ℕ) → low_product a b c ≡ (a + 256 * b + 256 * c + 65536 * d) % 65536
    parts a b c d = omega arith

-- registers that are changed
numbers_hold : (v w : View) → HoldsNumbers v → w.at 8 < 256 → w.at 9 < 256 → w.at 10 < 256 → w.at 11 < 256
    → w.at 30 < 256 → w.at 31 < 256
    → ((k : ℕ) → k ≢ 0 → k ≢ 1 → Outside 8 4 k → Outside 30 2 k → w.at k ≡ v.at k) → HoldsNumbers w
numbers_hold v w h h8 h9 h10 h11 h30 h31 same k u =
    by k 8 w h8 (λ n8. by k 9 w h9 (λ n9. by k 10 w h10 (λ n10. by k 11 w h11 (λ n11. by k 30 w h30 (λ n30. by k 31 w h31 (λ n31.
    rw (same k (omega arith) (omega arith) (λ o. omega (arith, n8, n9, n10, n11)) (λ o. omega (arith, n30, n31))) (h k u)))))))
  where
    by : (k a : ℕ) (w : View) → w.at a < 256 → (k ≢ a → w.at k < 256) → w.at k < 256
    by k a w h f = ⊎_elim (λ (q : k ≡ a). rw q h) f (cases_eq k a)

multiplied : (e : Env) (size : ℕ) (v : View) → size < 65536 → HoldsNumbers v
    → Scales v (value v.at 30 2 * size % 65536) (block e (product_code size) v)
multiplied e size v l h =
    let k = size % 256 in
    let m = size / 256 in
    let x = v.at 30 in
    let y = v.at 31 in
    let xs : x < 256 = h 30 (omega arith) in
    let ys : y < 256 = h 31 (omega arith) in
    let px = (x + 256 * y) % 256 in
    let py = (x + 256 * y) / 256 in
    let ex : px ≡ x = omega arith in
    let ey : py ≡ y = omega arith in
    let v1 = change e (Movw 8 30) v in
    let v2 = change e (Ldi 30 k) v1 in
    let v3 = change e (Ldi 31 m) v2 in
    let v4 = change e (Mul 8 30) v3 in
    let v5 = change e (Movw 10 0) v4 in
    let v6 = change e (Mul 8 31) v5 in
    let v7 = change e (Add 11 0) v6 in
    let v8 = change e (Mul 9 30) v7 in
    let v9 = change e (Add 11 0) v8 in
    let w = change e (Movw 30 10) v9 in
    let p = low_product (px * k) (px * m) (py * k) in
    let low : w.at 30 ≡ p % 256 = refl in
    let high : w.at 31 ≡ p / 256 = refl in
    let total : p ≡ (x + 256 * y) * (k + 256 * m) % 65536 = rw (ex, ey) (product_is x y k m) in
    let size_is : k + 256 * m ≡ size = omega arith in
    let number_is : x + 256 * y ≡ value v.at 30 2 = omega arith in
    let q : p ≡ value v.at 30 2 * size % 65536 =
    total ∙ (ap (λ t. (x + 256 * y) * t % 65536) size_is ∙ ap (λ t. t * size % 65536) number_is) in
    let same : (j : ℕ) → j ≢ 0 → j ≢ 1 → Outside 8 4 j → Outside 30 2 j → w.at j ≡ v.at j =
    λ j n0 n1 o z.
    let n8 : j ≢ 8 = λ (t : j ≡ 8). let b = o (omega arith) in omega arith in
    let n9 : j ≢ 9 = λ (t : j ≡ 9). let b = o (omega arith) in omega arith in
    let n10 : j ≢ 10 = λ (t : j ≡ 10). let b = o (omega arith) in omega arith in
    let n11 : j ≢ 11 = λ (t : j ≡ 11). let b = o (omega arith) in omega arith in
    let n30 : j ≢ 30 = λ (t : j ≡ 30). let b = z (omega arith) in omega arith in
    let n31 : j ≢ 31 = λ (t : j ≡ 31). let b = z (omega arith) in omega arith in
    pair_other v9.at 30 _ j n30 n31 ∙ (put_other v8.at 11 _ j n11 ∙ (pair_other v7.at 0 _ j n0 n1
    ∙ (put_other v6.at 11 _ j n11 ∙ (pair_other v5.at 0 _ j n0 n1 ∙ (pair_other v4.at 10 _ j n10 n11
    ∙ (pair_other v3.at 0 _ j n0 n1 ∙ (put_other v2.at 31 _ j n31 ∙ (put_other v1.at 30 _ j n30
    ∙ pair_other v.at 8 _ j n8 n9)))))))) in
    let b8 : w.at 8 < 256 = omega arith in
    let b9 : w.at 9 < 256 = omega (arith, xs, ys) in
    let r = (px * k) % 256 + 256 * (px * k / 256) in
    let b10 : w.at 10 < 256 = omega arith in
    let b11 : w.at 11 < 256 = omega arith in
    let b30 : w.at 30 < 256 = omega arith in
    let bp : p < 65536 = omega arith in
    let b31 : w.at 31 < 256 = omega (arith, bp, high) in
    record {
      number_is = rw (low, high) (omega (arith, q));
      numbers = numbers_hold v w h b8 b9 b10 b11 b30 b31 same;
      same = same;
      inputs = refl;
      safe = refl;
      seen = refl;
    }

-- the product with one byte
byte_product_is : (x y k : ℕ) → low_byte_product (x * k) (y * k) ≡ (x + 256 * y) * k % 65536
byte_product_is x y k = let p : (x + 256 * y) * k ≡ x * k + 256 * (y * k) = omega arith in rw p (parts (x * k) (y * k)) where
  parts : (a b : ℕ) → low_byte_product a b ≡ (a + 256 * b) % 65536
  parts a b = omega arith

multiplied_by_byte : (e : Env) (size : ℕ) (v : View) → size < 256 → HoldsNumbers v
    → Scales v (value v.at 30 2 * size % 65536) (block e (byte_product_code size) v)
multiplied_by_byte e size v l h =
    let x = v.at 30 in
    let y = v.at 31 in
    let xs : x < 256 = h 30 (omega arith) in
    let ys : y < 256 = h 31 (omega arith) in
    let px = (x + 256 * y) % 256 in
    let py = (x + 256 * y) / 256 in
    let ex : px ≡ x = omega arith in
    let ey : py ≡ y = omega arith in
    let v1 = change e (Movw 8 30) v in
    let v2 = change e (Ldi 30 size) v1 in
    let v3 = change e (Mul 8 30) v2 in
    let v4 = change e (Movw 10 0) v3 in
    let v5 = change e (Mul 9 30) v4 in
    let v6 = change e (Add 11 0) v5 in
    let w = change e (Movw 30 10) v6 in
    let p = low_byte_product (px * size) (py * size) in
    let low : w.at 30 ≡ p % 256 = refl in
    let high : w.at 31 ≡ p / 256 = refl in
    let total : p ≡ (x + 256 * y) * size % 65536 = rw (ex, ey) (byte_product_is x y size) in
    let number_is : x + 256 * y ≡ value v.at 30 2 = omega arith in
    let q : p ≡ value v.at 30 2 * size % 65536 = total ∙ ap (λ t. t * size % 65536) number_is in
    let same : (j : ℕ) → j ≢ 0 → j ≢ 1 → Outside 8 4 j → Outside 30 2 j → w.at j ≡ v.at j =
    λ j n0 n1 o z.
    let n8 : j ≢ 8 = λ (t : j ≡ 8). let b = o (omega arith) in omega arith in
    let n9 : j ≢ 9 = λ (t : j ≡ 9). let b = o (omega arith) in omega arith in
    let n10 : j ≢ 10 = λ (t : j ≡ 10). let b = o (omega arith) in omega arith in
    let n11 : j ≢ 11 = λ (t : j ≡ 11). let b = o (omega arith) in omega arith in
    let n30 : j ≢ 30 = λ (t : j ≡ 30). let b = z (omega arith) in omega arith in
    let n31 : j ≢ 31 = λ (t : j ≡ 31). let b = z (omega arith) in omega arith in
    pair_other v6.at 30 _ j n30 n31 ∙ (put_other v5.at 11 _ j n11 ∙ (pair_other v4.at 0 _ j n0 n1
    ∙ (pair_other v3.at 10 _ j n10 n11 ∙ (pair_other v2.at 0 _ j n0 n1 ∙ (put_other v1.at 30 _ j n30
    ∙ pair_other v.at 8 _ j n8 n9))))) in
    let b8 : w.at 8 < 256 = omega arith in
    let b9 : w.at 9 < 256 = omega (arith, xs, ys) in
    let b10 : w.at 10 < 256 = omega arith in
    let b11 : w.at 11 < 256 = omega arith in
    let b30 : w.at 30 < 256 = omega arith in
    let bp : p < 65536 = omega arith in
    let b31 : w.at 31 < 256 = omega (arith, bp, high) in
    record {
      number_is = rw (low, high) (omega (arith, q));
      numbers = numbers_hold v w h b8 b9 b10 b11 b30 b31 same;
      same = same;
      inputs = refl;
      safe = refl;
      seen = refl;
    }

-- ---- doubled

doubled_once : (e : Env) (v : View) → HoldsNumbers v → Loads v (2 * value v.at 30 2 % 65536) (block e double_z v)
doubled_once e v h =
    let v1 = change e (Add 30 30) v in
    let w = change e (Adc 31 31) v1 in
    let x = v.at 30 in
    let y = v.at 31 in
    let s0 : x < 256 = h 30 (omega arith) in
    let s1 : y < 256 = h 31 (omega arith) in
    let low : w.at 30 ≡ (x + x + 0) % 256 = refl in
    let high : w.at 31 ≡ (y + y + (x + x + 0) / 256) % 256 = refl in
    let other : (k : ℕ) → k ≢ 30 → k ≢ 31 → w.at k ≡ v.at k = λ k n30 n31. put_other v1.at 31 _ k n31 ∙ put_other v.at 30 _ k n30 in
    record {
      number_is = rw (low, high) (omega (arith, s0, s1));
      numbers = λ k u.
          ⊎_elim
          (λ (t : k ≡ 30). rw (t, low) (omega arith))
          (λ (t : k ≢ 30).
          ⊎_elim (λ (r : k ≡ 31). rw (r, high) (omega arith)) (λ (r : k ≢ 31). rw (other k t r) (h k u)) (cases_eq k 31))
          (cases_eq k 30);
      same = λ k n0 n1 o.
          other k (λ (t : k ≡ 30). let b = o (omega arith) in omega arith)
          (λ (t : k ≡ 31). let b = o (omega arith) in omega arith);
      inputs = refl;
      safe = refl;
      seen = refl;
    }

doubled : (e : Env) (n : ℕ) (v : View) → HoldsNumbers v → Loads v (value v.at 30 2 * 2 ^ n % 65536) (block e (doublings_code n) v)
doubled e zero v h =
    let xs : v.at (30 + 0) < 256 = h 30 (omega arith) in
    let ys : v.at (30 + 1) < 256 = h 31 (omega arith) in
    record {
      number_is = omega (arith, xs, ys);
      numbers = h;
      same = λ k n0 n1 o. refl;
      inputs = refl;
      safe = refl;
      seen = refl;
    }
doubled e (suc n) v h =
    let r = doubled e n v h in
    let v1 = block e (doublings_code n) v in
    let o = doubled_once e v1 r.numbers in
    let twice : value v.at 30 2 * 2 ^ suc n ≡ 2 * (value v.at 30 2 * 2 ^ n) = rw (pow-suc 2 n) (omega arith) in
    let number : 2 * value v1.at 30 2 % 65536 ≡ value v.at 30 2 * 2 ^ suc n % 65536 =
    rw twice (let q = r.number_is in again (value v1.at 30 2) (value v.at 30 2 * 2 ^ n) q) in
    rw (block-append e (doublings_code n) double_z v) (record {
      number_is = o.number_is ∙ number;
      numbers = o.numbers;
      same = λ k n0 n1 z. o.same k n0 n1 z ∙ r.same k n0 n1 z;
      inputs = o.inputs ∙ r.inputs;
      safe = o.safe ∙ r.safe;
      seen = o.seen ∙ r.seen;
    })
  where
    again : (x y : ℕ) → x ≡ y % 65536 → 2 * x % 65536 ≡ 2 * y % 65536
    again x y q = omega (arith, q)

-- a size that is doubled to
doublings_are : (size n : ℕ) → doublings_of size ≡ Some n → size ≡ 2 ^ n
doublings_are size n = by_tests (size == 1) (size == 2) (size == 4) (size == 8) refl refl refl refl
  where
    some : (a b : ℕ) → size ≡ 2 ^ a → Some a ≡ Some b → size ≡ 2 ^ b
    some a b q h = let e : a ≡ b = cc in subst (λ i. size ≡ 2 ^ i) e q

    by_tests : (b c d f : Bool) → (size == 1) ≡ b → (size == 2) ≡ c → (size == 4) ≡ d → (size == 8) ≡ f
        → (if b then Some 0 else (if c then Some 1 else (if d then Some 2 else (if f then Some 3 else None)))) ≡ Some n
        → size ≡ 2 ^ n
    by_tests true c d f p q r s h = some 0 n (eqb-true size 1 p) h
    by_tests false true d f p q r s h = some 1 n (eqb-true size 2 q) h
    by_tests false false true f p q r s h = some 2 n (eqb-true size 4 r) h
    by_tests false false false true p q r s h = some 3 n (eqb-true size 8 s) h
    by_tests false false false false p q r s h = absurd cc

pub scaled : (e : Env) (size : ℕ) (v : View) → size < 65536 → HoldsNumbers v
    → Scales v (value v.at 30 2 * size % 65536) (block e (scale_code size) v)
scaled e size v l h = by_count (doublings_of size) refl
  where
    by_width : (b : Bool) → nat_lt size 256 ≡ b
        → Scales v (value v.at 30 2 * size % 65536) (block e (if b then byte_product_code size else product_code size) v)
    by_width true q = multiplied_by_byte e size v (ltb-true size 256 q) h
    by_width false q = multiplied e size v l h

    by_count : (c : Option ℕ) → doublings_of size ≡ c → Scales v (value v.at 30 2 * size % 65536) (block e (scale_by c size) v)
    by_count (Some n) q =
        let r = doubled e n v h in
        let is : 2 ^ n ≡ size = sym (doublings_are size n q) in
        record {
          number_is = r.number_is ∙ ap (λ t. value v.at 30 2 * t % 65536) is;
          numbers = r.numbers;
          same = λ k n0 n1 o z. r.same k n0 n1 z;
          inputs = r.inputs;
          safe = r.safe;
          seen = r.seen;
        }
    by_count None q = by_width (nat_lt size 256) refl

pub indexes_are_scaled : Lower → IndexesAreScaled
indexes_are_scaled lower e p signed n size a v s z some l h =
    let v1 = block e (index_code p signed n) v in
    let o = index_loads lower e p signed n a v s z some h in
    let r = scaled e size v1 l o.numbers in
    rw (block-append e (index_code p signed n) (scale_code size) v) (record {
      number_is = r.number_is ∙ ap (λ t. t * size % 65536) o.number_is;
      numbers = r.numbers;
      same = λ k n0 n1 m q. r.same k n0 n1 m q ∙ o.same k n0 n1 q;
      inputs = r.inputs ∙ o.inputs;
      safe = r.safe ∙ o.safe;
      seen = r.seen ∙ o.seen;
    })
