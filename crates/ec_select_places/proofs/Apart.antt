-- The difference of two pointers in elements.
use Rattle.std.proofs.Common.{◌≡◌, ◌≢◌, ℕ, zero, suc, ◌+◌, ◌-◌, ◌*◌, ◌/◌, ◌%◌, ◌^◌, ◌<◌, ◌≤◌, ⊎_elim, Bool, true, false}
use Rattle.std.proofs.Common.{refl, sym, ap, ◌∙◌, subst, arith, append-nil}
use Rattle.std.proofs.lemmas.Bool.{cases_eq, cases_lt}
use Rattle.ec_isa.specs.declared.instructions.Instr.TheVariants.{Asr, Ror}
use native.Mathlib.Nat.{pow-suc}
use Rattle.ec_asm.specs.declared.pieces.Operator.TheVariants.{Difference}
use Rattle.ec_asm.specs.declared.pieces.Location.{Location}
use Rattle.ec_asm.specs.View.{View}
use Rattle.ec_asm.specs.Change.{Env, Own, change}
use Rattle.ec_asm.specs.Items.{block}
use Rattle.ec_asm.specs.Pieces.{StandsFrom, value, copy_code, operate_code}
use Rattle.ec_asm.specs.PieceLaws.{HoldsNumbers, CopiesAreRight, DifferencesAreRight}
use Rattle.ec_asm.proofs.Bytes.{put_other}
use Rattle.ec_asm.proofs.Hoare.{block-append}
use Rattle.ec_select_places.specs.Steps.{z_pair, scale_code}
use Rattle.ec_select_places.specs.StepLaws.{LeavesZ}
use Rattle.ec_select_places.specs.Distances.{halve_z, halvings_code, distance_code}
use Rattle.ec_select_places.specs.DistanceLaws.{signed_number, IsFrom, Differs, DistancesAreRight}
use Rattle.ec_select_places.proofs.Blocks.{copied_numbers}
use Rattle.ec_select_places.proofs.Scaled.{Loads, z_stands, two_loaded, scaled}
use Rattle.ec_select_places.proofs.Advanced.{above_z}

-- ---- numbers

abbrev pub IsWithin : Bool → ℕ → Type 0
IsWithin false m = m < 32768
IsWithin true m = m ≤ 32768

-- one number of two bytes is so much above another one, or below it, modulo 65,536
abbrev pub IsLowFrom : Bool → (x y distance : ℕ) → Type 0
IsLowFrom false x y distance = (x ≡ (y + distance) % 65536) × (distance < 32768)
IsLowFrom true x y distance = (y ≡ (x + distance) % 65536) × (distance ≤ 32768)

-- so are the low two bytes of two numbers
pub low_from : (negative : Bool) (x y m : ℕ) → IsFrom negative x y m → IsLowFrom negative (x % 65536) (y % 65536) m
low_from false x y m h = let p = h.0 in (omega (arith, p), h.1)
low_from true x y m h = let p = h.0 in (omega (arith, p), h.1)

difference_is : (negative : Bool) (x y m : ℕ) → x < 65536 → y < 65536 → IsLowFrom negative x y m
    → (x + 65536 - y) % 65536 ≡ signed_number negative m
difference_is false x y m l n h = let p = h.0 in let q = h.1 in omega (arith, p, q)
difference_is true x y m l n h = let p = h.0 in let q = h.1 in omega (arith, p, q)

pub low_within : (negative : Bool) (x y m : ℕ) → IsLowFrom negative x y m → IsWithin negative m
low_within false x y m h = h.1
low_within true x y m h = h.1

half_is : (negative : Bool) (low top m : ℕ) → low < 256 → top < 256 → IsWithin negative (m * 2)
    → low + top * 256 ≡ signed_number negative (m * 2)
    → low / 2 + 128 * (top % 2) + (top / 2 + 128 * (top / 128)) * 256 ≡ signed_number negative m
half_is false low top m l n h q = omega (arith, l, n, h, q)
half_is true low top m l n h q = omega (arith, l, n, h, q)

smaller : (negative : Bool) (m n : ℕ) → m ≤ n → IsWithin negative n → IsWithin negative m
smaller false m n l h = omega (arith, l, h)
smaller true m n l h = omega (arith, l, h)

twice_below : (m n : ℕ) → m * 2 ≤ m * 2 ^ suc n
twice_below m zero = omega arith
twice_below m (suc n) = rw (pow-suc 2 (suc n)) (let h = twice_below m n in omega (arith, h))

-- ---- halved

halved_once : (negative : Bool) (e : Env) (m : ℕ) (v : View) → HoldsNumbers v
    → IsWithin negative (m * 2) → value v.at 30 2 ≡ signed_number negative (m * 2)
    → Loads v (signed_number negative m) (block e halve_z v)
halved_once negative e m v h l q =
    let v1 = change e (Asr 31) v in
    let w = change e (Ror 30) v1 in
    let x = v.at 30 in
    let y = v.at 31 in
    let s0 : x < 256 = h 30 (omega arith) in
    let s1 : y < 256 = h 31 (omega arith) in
    let before : x + y * 256 ≡ signed_number negative (m * 2) = omega (arith, q) in
    let half = half_is negative x y m s0 s1 l before in
    let low : w.at 30 ≡ x / 2 + 128 * (y % 2) = refl in
    let high : w.at 31 ≡ y / 2 + 128 * (y / 128) = refl in
    let other : (k : ℕ) → k ≢ 30 → k ≢ 31 → w.at k ≡ v.at k = λ k n30 n31. put_other v1.at 30 _ k n30 ∙ put_other v.at 31 _ k n31 in
    record {
      number_is = rw (low, high) (omega (arith, half));
      numbers = λ k u.
          ⊎_elim
          (λ (t : k ≡ 30). rw (t, low) (omega (arith, s0)))
          (λ (t : k ≢ 30).
          ⊎_elim
          (λ (r : k ≡ 31). rw (r, high) (omega (arith, s1)))
          (λ (r : k ≢ 31). rw (other k t r) (h k u))
          (cases_eq k 31))
          (cases_eq k 30);
      same = λ k n0 n1 o.
          other k (λ (t : k ≡ 30). let b = o (omega arith) in omega arith)
          (λ (t : k ≡ 31). let b = o (omega arith) in omega arith);
      inputs = refl;
      safe = refl;
      seen = refl;
    }

halved : (negative : Bool) (e : Env) (n m : ℕ) (v : View) → HoldsNumbers v → IsWithin negative (m * 2 ^ n)
    → value v.at 30 2 ≡ signed_number negative (m * 2 ^ n)
    → Loads v (signed_number negative m) (block e (halvings_code n) v)
halved negative e zero m v h l q =
    let one : m * 2 ^ 0 ≡ m = omega arith in
    record {
      number_is = q ∙ ap (λ t. signed_number negative t) one;
      numbers = h;
      same = λ k n0 n1 o. refl;
      inputs = refl;
      safe = refl;
      seen = refl;
    }
halved negative e (suc n) m v h l q =
    let twice : m * 2 ^ suc n ≡ m * 2 * 2 ^ n = rw (pow-suc 2 n) (omega arith) in
    let l1 : IsWithin negative (m * 2 * 2 ^ n) = subst (IsWithin negative) twice l in
    let r = halved negative e n (m * 2) v h l1 (q ∙ ap (λ t. signed_number negative t) twice) in
    let v1 = block e (halvings_code n) v in
    let o = halved_once negative e m v1 r.numbers (smaller negative (m * 2) (m * 2 ^ suc n) (twice_below m n) l) r.number_is in
    rw (block-append e (halvings_code n) halve_z v) (record {
      number_is = o.number_is;
      numbers = o.numbers;
      same = λ k n0 n1 z. o.same k n0 n1 z ∙ r.same k n0 n1 z;
      inputs = o.inputs ∙ r.inputs;
      safe = o.safe ∙ r.safe;
      seen = o.seen ∙ r.seen;
    })

-- ---- divided by an odd number

divided : (negative : Bool) (k odd inverse : ℕ) → odd * inverse % 65536 ≡ 1 → IsWithin negative (k * odd)
    → signed_number negative (k * odd) * inverse % 65536 ≡ signed_number negative k
divided negative k zero inverse h l = absurd (omega (arith, h))
divided false k (suc o) inverse h l =
    let t = suc o * inverse / 65536 in
    let p : suc o * inverse ≡ 1 + 65536 * t = omega (arith, h) in
    let r : k * suc o * inverse ≡ k * (suc o * inverse) = omega arith in
    let u : k * (1 + 65536 * t) ≡ k + 65536 * (k * t) = omega arith in
    let x : k * suc o * inverse ≡ k + 65536 * (k * t) = r ∙ (ap (λ i. k * i) p ∙ u) in
    let b : k < 32768 = omega (arith, l) in
    rw x (omega (arith, b))
divided true zero (suc o) inverse h l = let z : (65536 - 0 * suc o) % 65536 ≡ 0 = omega arith in rw z (omega arith)
divided true (suc j) (suc o) inverse h l =
    let k = suc j in
    let m = k * suc o in
    let t = suc o * inverse / 65536 in
    let p : suc o * inverse ≡ 1 + 65536 * t = omega (arith, h) in
    let r : m * inverse ≡ k * (suc o * inverse) = omega arith in
    let u : k * (1 + 65536 * t) ≡ k + 65536 * (k * t) = omega arith in
    let x : m * inverse ≡ k + 65536 * (k * t) = r ∙ (ap (λ i. k * i) p ∙ u) in
    let some : 1 ≤ m = omega arith in
    let b : k ≤ m = omega arith in
    let n = 65536 - m in
    let sum : n + m ≡ 65536 = omega (arith, l) in
    let y : (n + m) * inverse ≡ 65536 * inverse = ap (λ i. i * inverse) sum in
    let z : (n + m) * inverse ≡ n * inverse + m * inverse = omega arith in
    let small : n % 65536 ≡ n = omega (arith, some) in
    let total : n * inverse + (k + 65536 * (k * t)) ≡ 65536 * inverse = ap (λ i. n * inverse + i) (sym x) ∙ (sym z ∙ y) in
    rw small (negated (n * inverse) (k * t) inverse k (omega (arith, b, l)) (omega arith) total)
  where
    negated : (x y i k : ℕ) → k ≤ 32768 → 1 ≤ k → x + (k + 65536 * y) ≡ 65536 * i → x % 65536 ≡ (65536 - k) % 65536
    negated x y i k l s h = omega (arith, l, s, h)

-- ---- laws

-- the law of differences, for numbers of two bytes that are so far apart in this sense
abbrev pub DistancesBy : (Bool → (x y distance : ℕ) → Type 0) → Type 0
DistancesBy AreApart =
    (negative : Bool) (e : Env) (p c q : Location) (a b d twos odd inverse k : ℕ) (v : View) → StandsFrom e p 2 a Own
    → LeavesZ a 2 → StandsFrom e c 2 b Own → LeavesZ b 2 → StandsFrom e q 2 d Own → LeavesZ d 2 → HoldsNumbers v
    → odd * inverse % 65536 ≡ 1 → inverse < 65536
    → AreApart negative (value v.at a 2) (value v.at b 2) (k * odd * 2 ^ twos)
    → Differs v d (signed_number negative k) (block e (distance_code p c q twos inverse) v)

pub low_distances : CopiesAreRight → DifferencesAreRight → DistancesBy IsLowFrom
low_distances copies differences negative e p c q a b d twos odd inverse k v sp zp sc zc sq zq h one below from =
    let v1 = block e (copy_code p z_pair 2) v in
    let v2 = block e (operate_code Difference c z_pair 2) v1 in
    let v3 = block e (halvings_code twos) v2 in
    let v4 = block e (scale_code inverse) v3 in
    let w = block e (copy_code z_pair q 2) v4 in
    let l = two_loaded copies e p 2 a v (omega arith) sp zp h in
    let ub = sc.clear in
    let r = differences e c z_pair 2 b 30 v1 sc (z_stands e 2) (λ t. let f = zc.low (omega arith) in omega arith) l.numbers in
    let c0 : v1.at (b + 0) ≡ v.at (b + 0) =
    l.same (b + 0) (omega arith) (omega arith) (λ t. beyond b (b + 0) zc (omega arith) (omega arith) t) in
    let c1 : v1.at (b + 1) ≡ v.at (b + 1) =
    l.same (b + 1) (omega arith) (omega arith) (λ t. beyond b (b + 1) zc (omega arith) (omega arith) t) in
    let taken : value v1.at b 2 ≡ value v.at b 2 = rw (c0, c1) refl in
    let x0 : v.at (a + 0) < 256 = let ua = sp.clear in h (a + 0) (omega arith) in
    let x1 : v.at (a + 1) < 256 = let ua = sp.clear in h (a + 1) (omega arith) in
    let y0 : v.at (b + 0) < 256 = h (b + 0) (omega arith) in
    let y1 : v.at (b + 1) < 256 = h (b + 1) (omega arith) in
    let left : value v2.at 30 2 ≡ (value v.at a 2 + 65536 - value v.at b 2) % 65536 =
    r.1 ∙ (ap (λ i. (i + 65536 - value v1.at b 2) % 65536) l.number_is
    ∙ ap (λ i. (value v.at a 2 + 65536 - i) % 65536) taken) in
    let signed = difference_is negative (value v.at a 2) (value v.at b 2) (k * odd * 2 ^ twos) (omega (arith, x0, x1))
    (omega (arith, y0, y1)) from in
    let bound = low_within negative _ _ _ from in
    let g = halved negative e twos (k * odd) v2 r.0.bytes bound (left ∙ signed) in
    let m = scaled e inverse v3 below g.numbers in
    let power : k * odd ≤ k * odd * 2 ^ twos = at_least (k * odd) twos in
    let number : value v4.at 30 2 ≡ signed_number negative k =
    m.number_is ∙ (ap (λ i. i * inverse % 65536) g.number_is ∙ divided negative k odd inverse one (smaller negative
    (k * odd) _ power bound)) in
    let t = copies e z_pair q 2 30 d Own Own v4 (z_stands e 2) sq refl refl (above_z d 1 zq) in
    let t0 : w.at (d + 0) ≡ v4.at (30 + 0) = t.there 0 (omega arith) in
    let t1 : w.at (d + 1) ≡ v4.at (30 + 1) = t.there 1 (omega arith) in
    let moved : value w.at d 2 ≡ value v4.at 30 2 = rw (t0, t1) refl in
    let same : block e (distance_code p c q twos inverse) v ≡ w =
    block-append e (copy_code p z_pair 2) _ v ∙ (block-append e (operate_code Difference c z_pair 2) _ v1
    ∙ (block-append e (halvings_code twos) _ v2 ∙ block-append e (scale_code inverse) _ v3)) in
    rw same (record {
      number_is = moved ∙ number;
      numbers = copied_numbers v4 w 30 d 2 (omega arith) m.numbers t.there t.same;
      same = λ i n0 n1 o z f.
          t.same i n0 f ∙ (m.same i n0 n1 o z ∙ (g.same i n0 n1 z ∙ (r.0.keeps.same i n0 n1 z ∙ l.same i n0 n1 z)));
      inputs = t.inputs ∙ (m.inputs ∙ (g.inputs ∙ (r.0.keeps.inputs ∙ l.inputs)));
      safe = t.safe ∙ (m.safe ∙ (g.safe ∙ (r.0.keeps.safe ∙ l.safe)));
      seen = t.seen ∙ (append-nil v4.seen ∙ (m.seen ∙ (g.seen ∙ (r.0.keeps.seen ∙ l.seen))));
    })
  where
    beyond : (b i : ℕ) → LeavesZ b 2 → b ≤ i → i < b + 2 → 30 ≤ i → 32 ≤ i
    beyond b i z l m n =
        ⊎_elim
        (λ (q : 31 < b). omega (arith, q, l))
        (λ (q : b ≤ 31).
        let g = z.high q in
        ⊎_elim (λ (r : 30 < b). absurd (omega (arith, r, g))) (λ (r : b ≤ 30). let f = z.low r in absurd (omega
        (arith, f, m, n))) (cases_lt 30 b))
        (cases_lt 31 b)

    at_least : (m n : ℕ) → m ≤ m * 2 ^ n
    at_least m zero = omega arith
    at_least m (suc n) = let h = twice_below m n in omega (arith, h)

-- the number of two bytes
pub two_below : (e : Env) (p : Location) (a n : ℕ) (v : View) → StandsFrom e p n a Own → HoldsNumbers v → value v.at a 2 < 65536
two_below e p a n v s h =
    let ua = s.clear in
    let x = h (a + 0) (omega arith) in
    let y = h (a + 1) (omega arith) in
    omega (arith, x, y)

pub distances_are_right : CopiesAreRight → DifferencesAreRight → DistancesAreRight
distances_are_right copies differences negative e p c q a b d twos odd inverse k v sp zp sc zc sq zq h one below from =
    let x = value v.at a 2 in
    let y = value v.at b 2 in
    let m = k * odd * 2 ^ twos in
    let xs = two_below e p a 2 v sp h in
    let ys = two_below e c b 2 v sc h in
    let kx : x % 65536 ≡ x = omega (arith, xs) in
    let ky : y % 65536 ≡ y = omega (arith, ys) in
    low_distances copies differences negative e p c q a b d twos odd inverse k v sp zp sc zc sq zq h one below
    (subst (λ i. IsLowFrom negative x i m) ky (subst (λ i. IsLowFrom negative i (y % 65536) m) kx (low_from negative x y m from)))
