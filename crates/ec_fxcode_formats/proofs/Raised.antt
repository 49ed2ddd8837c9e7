-- A number with bits more behind the point, by registers.
use Rattle.std.proofs.Common.{◌≡◌, ◌≢◌, inl, inr, ℕ, zero, suc, ◌+◌, ◌-◌, ◌*◌, ◌/◌, ◌%◌, ◌^◌, ◌<◌, ◌≤◌, ◌==◌, min, ⊎_elim, Bool}
use Rattle.std.proofs.Common.{true, false, refl, sym, ap, ◌∙◌, subst, arith, negsuc, pos, ◌*ℤ◌, pow-add, ◌++◌, append-nil, neg_ℤ}
use Rattle.std.specs.Prelude.{bit_xor}
use Rattle.std.specs.Int.Bits.{xor_self}
use Rattle.std.proofs.lemmas.Bool.{cases_eq, cases_lt, eq-eqb, ne_eqb, lt-ltb, le-ltb}
use Rattle.std.proofs.lemmas.Nat.{mul-le, div-add-mod', mod_below, pow_pos as two_pos}
use Rattle.ec_isa.specs.declared.instructions.Instr.TheVariants.{Eor}
use Rattle.ec_asm.specs.declared.pieces.Location.{Location}
use Rattle.ec_asm.specs.declared.pieces.Location.TheVariants.{InRegisters, InMemory}
use Rattle.ec_asm.specs.View.{View}
use Rattle.ec_asm.specs.Change.{Env, Own, set, change}
use Rattle.ec_asm.specs.Items.{HasAt, block, code_steps}
use Rattle.ec_asm.specs.Pieces.{StandsFrom, KindIs, address, Outside, value, copy_code, halve_code}
use Rattle.ec_asm.specs.PieceLaws.{HoldsNumbers, AreHeld}
use Rattle.ec_asm.specs.Takes.{Goes}
use Rattle.ec_asm.proofs.Bytes.{put_here, put_other}
use Rattle.ec_asm.proofs.Compared.{copy_holds}
use Rattle.ec_asm.proofs.Hoare.{block-append, block_goes, chain_holds}
use Rattle.ec_asm.proofs.Numbers.{value_below, value_front, pow_pos}
use Rattle.ec_asm.proofs.Sum.{not_here, fewer}
use Rattle.ec_select_shifts.specs.declared.shifts.Direction.TheVariants.{Right}
use Rattle.ec_select_shifts.proofs.Once.{turned}
use Rattle.ec_fxcode.specs.Clamps.{put_byte, fills_code}
use Rattle.ec_fxcode.specs.ClampLaws.{IsClearOfEnds, AreApart}
use Rattle.ec_fxcode.proofs.Alike.{value_parts, zeros, ones}
use Rattle.ec_fxcode.proofs.Fits.{plus, minus}
use Rattle.ec_fxcode.proofs.Moves.{byte_is_put, fills, no_log, part_stands}
use Rattle.ec_fxcode.proofs.Parts.{value_moved}
use Rattle.ec_fxcode_shifts.specs.ShiftLaws.{number_in}
use Rattle.ec_fxcode_shifts.proofs.Before.{mark_is_byte}
use Rattle.ec_fxcode_shifts.proofs.Entered.{mark_of, marks}
use Rattle.ec_fxcode_shifts.proofs.Right.{sign_given}
use Rattle.ec_fxcode_shifts.proofs.Shifted.{div_one}
use Rattle.ec_fxcode_formats.specs.Cuts.{row_from, clear_code}
use Rattle.ec_fxcode_formats.specs.Raises.{spare, signed_code, entered_code, half_code, puts_code, zero_byte, zeros_code}
use Rattle.ec_fxcode_formats.specs.Raises.{more_code, placed_code, raise_code}
use Rattle.ec_fxcode_formats.specs.FormatLaws.{Carries, HoldsExact, IsCut}
use Rattle.ec_fxcode_formats.proofs.Dropped.{row_stands, cleared, clear_row, numbers_after}
use Rattle.ec_fxcode_formats.proofs.Windows.{IsLow, whole_bytes, plus_holds, minus_holds}
use Rattle.ec_fxcode_formats.proofs.Words.{raise_short}

-- ---- numbers

-- W is the low part below P of a number X below N, where that is not negative, and else of what it stands for
record IsPart (N P X W byte : ℕ) : Type 0 where
  plus : byte ≡ 0 → (t : ℕ) × (X ≡ W + P * t)
  minus : byte ≡ 255 → (t : ℕ) × (W + (N - X) ≡ P * t)

part_of_few : (f g : ℕ → ℕ) (a b m k byte : ℕ) → m < k → AreHeld g a m → ((j : ℕ) → j < m → f (b + j) ≡ g (a + j))
    → ((j : ℕ) → m ≤ j → j < k → f (b + j) ≡ byte) → IsPart (256 ^ m) (256 ^ k) (value g a m) (value f b k) byte
part_of_few f g a b m k byte l held low high =
    let r = k - m in
    let N = 256 ^ m in
    let X = value g a m in
    let V = value f (b + m) r in
    let same : m + r ≡ k = omega (arith, l) in
    let parts : value f b k ≡ value f b m + N * V = ap (value f b) (sym same) ∙ value_parts f b m r in
    let whole : value f b k ≡ X + N * V = parts ∙ ap (λ t. t + N * V) (value_moved f g b a m low) in
    let bytes = λ (j : ℕ) (y : j < r). (let at : b + (m + j) ≡ b + m + j = omega arith in
    subst (λ i. f i ≡ byte) at (high (m + j) (omega arith) (omega (arith, y, l)))) in
    let power : N * 256 ^ r ≡ 256 ^ k = sym (pow-add 256 m r) ∙ ap (λ t. 256 ^ t) same in
    let below = value_below g a m held in
    record {
      plus = λ z. (0, (let none = zeros f (b + m) r (λ j y. bytes j y ∙ z) in omega (arith, whole, ap (λ t. N * t) none)));
      minus = λ z. (
        1,
        (let full = ones f (b + m) r (λ j y. bytes j y ∙ z) in
            let q : N * (V + 1) ≡ 256 ^ k = ap (λ t. N * t) full ∙ power in omega (arith, whole, q, below)),
      );
    }

part_of_many : (f g : ℕ → ℕ) (a b m k byte : ℕ) → k ≤ m → AreHeld g a m → ((j : ℕ) → j < k → f (b + j) ≡ g (a + j))
    → IsPart (256 ^ m) (256 ^ k) (value g a m) (value f b k) byte
part_of_many f g a b m k byte l held low =
    let r = m - k in
    let P = 256 ^ k in
    let W = value f b k in
    let H = value g (a + k) r in
    let same : k + r ≡ m = omega (arith, l) in
    let whole : value g a m ≡ W + P * H =
    ap (value g a) (sym same) ∙ value_parts g a k r ∙ ap (λ t. t + P * H) (sym (value_moved f g b a k low)) in
    let power : P * 256 ^ r ≡ 256 ^ m = sym (pow-add 256 k r) ∙ ap (λ t. 256 ^ t) same in
    let high : H < 256 ^ r = value_below g (a + k) r
    (λ j y. let at : a + (k + j) ≡ a + k + j = omega arith in subst (λ i. g i < 256) at (held (k + j) (omega (arith, y, l)))) in
    let below = value_below g a m held in
    let split : P * (256 ^ r - H + H) ≡ P * 256 ^ r = ap (λ t. P * t) (omega (arith, high)) in
    record {
      plus = λ z. (H, whole);
      minus = λ z. (256 ^ r - H, omega (arith, whole, power, split, below));
    }

-- Y is c times W below P, and Z is Y times Q
raised_plus : (Q P c W Y rest X t : ℕ) → c * W ≡ Y + P * rest → X ≡ W + P * t → X * (Q * c) ≡ Q * Y + Q * P * (rest + c * t)
raised_plus Q P c W Y rest X t e f =
    let e1 : Q * (c * W) ≡ Q * (Y + P * rest) = ap (λ s. Q * s) e in
    let f1 : X * (Q * c) ≡ (W + P * t) * (Q * c) = ap (λ s. s * (Q * c)) f in
    omega (arith, e1, f1)

raised_minus : (Q P c W Y rest M t : ℕ) → c * W ≡ Y + P * rest → W + M ≡ P * t
    → Q * Y + M * (Q * c) + Q * P * rest ≡ Q * P * (c * t)
raised_minus Q P c W Y rest M t e f =
    let e1 : Q * (c * W) ≡ Q * (Y + P * rest) = ap (λ s. Q * s) e in
    let f1 : (W + M) * (Q * c) ≡ P * t * (Q * c) = ap (λ s. s * (Q * c)) f in
    omega (arith, e1, f1)

-- a multiple of N below twice N is N or 0
one_bit : (N S A B : ℕ) → S + N * A ≡ N * B → S < 2 * N → (t : ℕ) × (t ≤ 1) × (S ≡ t * N)
one_bit N S A B e l =
    ⊎_elim
    (λ (less : B < A).
    let q : N * (B + 1) ≤ N * A = mul-le N (B + 1) N A (omega arith) (omega (arith, less)) in absurd (omega (arith, e, q, l)))
    (λ (more : A ≤ B).
    let d = B - A in
    let split : N * (A + d) ≡ N * B = ap (λ t. N * t) (omega (arith, more)) in
    let is : S ≡ N * d = omega (arith, split, e) in
    ⊎_elim
    (λ (few : d < 2). (d, omega (arith, few), omega (arith, is)))
    (λ (many : 2 ≤ d). let q : N * 2 ≤ N * d = mul-le N 2 N d (omega arith) many in absurd (omega (arith, is, q, l)))
    (cases_lt d 2))
    (cases_lt B A)

-- the low part of a number
low_of : (N X : ℕ) → 0 < N → IsLow N (X % N) X
low_of N X l =
    let d = div-add-mod' X N in
    record { rest = X / N; is = omega (arith, d); below = mod_below X N l }

times_minus : (m p y : ℕ) → suc m * p ≡ suc y → negsuc m *ℤ pos p ≡ negsuc y
times_minus m p y e = ap (λ (t : ℕ). neg_ℤ (pos t)) e

-- what n bytes hold, of which the upper ones are Y
module _ (n i k u c W Y rest : ℕ) (size : i + k ≡ n) (some : 1 ≤ n) (power : 2 ^ u ≡ 256 ^ i * c)
    (low : c * W ≡ Y + 256 ^ k * rest) (below : Y < 256 ^ k) where
  abbrev Q : ℕ
  Q = 256 ^ i

  abbrev P : ℕ
  P = 256 ^ k

  all : Q * P ≡ 256 ^ n
  all = sym (pow-add 256 i k) ∙ ap (λ t. 256 ^ t) size

  inside : Q * Y < 256 ^ n
  inside =
      let q : Q * (Y + 1) ≤ Q * P = mul-le Q (Y + 1) Q P (omega arith) (omega (arith, below)) in
      let one = pow_pos i in
      omega (arith, q, all, one)

  more_plus : (X t : ℕ) → X ≡ W + P * t → HoldsExact n (pos X *ℤ pos (2 ^ u)) (Q * Y)
  more_plus X t is =
      let e : X * 2 ^ u ≡ Q * Y + 256 ^ n * (rest + c * t) =
      ap (λ s. X * s) power ∙ raised_plus Q P c W Y rest X t low is ∙ ap (λ s. Q * Y + s * (rest + c * t)) all in
      let one : X * 2 ^ u / 1 ≡ X * 2 ^ u = omega arith in
      let part : IsLow (256 ^ n) (Q * Y) (X * 2 ^ u / 1) = record { rest = rest + c * t; is = one ∙ e; below = inside } in
      subst (λ z. HoldsExact n z (Q * Y)) (div_one (pos (X * 2 ^ u))) (plus_holds n (X * 2 ^ u) 1 (Q * Y) (Q * Y) some part refl)

  more_minus : (M t : ℕ) → 1 ≤ M → W + M ≡ P * t → HoldsExact n (negsuc (M - 1) *ℤ pos (2 ^ u)) (Q * Y)
  more_minus M t one is =
      let F = M * 2 ^ u in
      let N = 256 ^ n in
      let pow : 0 < N = pow_pos n in
      let R = F % N in
      let part = low_of N F pow in
      let e : Q * Y + F + N * rest ≡ N * (c * t) =
      ap (λ s. Q * Y + M * s + N * rest) power
      ∙ subst (λ s. Q * Y + M * (Q * c) + s * rest ≡ s * (c * t)) all (raised_minus Q P c W Y rest M t low is) in
      let cut = part.is in
      let split : Q * Y + R + N * (rest + part.rest) ≡ N * (c * t) = omega (arith, e, cut) in
      let low_below = part.below in
      let bit = one_bit N (Q * Y + R) (rest + part.rest) (c * t) split (omega (arith, inside, low_below)) in
      let two : 1 * 1 ≤ M * 2 ^ u = mul-le 1 1 M (2 ^ u) one (two_pos u) in
      let same : suc (M - 1) ≡ M = omega (arith, one) in
      let up : suc (M - 1) * 2 ^ u ≡ suc (F - 1) = ap (λ s. s * 2 ^ u) same ∙ omega (arith, two) in
      let whole : F / 1 ≡ F = omega arith in
      subst (λ z. HoldsExact n z (Q * Y)) (div_one (negsuc (F - 1)) ∙ sym (times_minus (M - 1) (2 ^ u) (F - 1) up))
      (minus_holds n F 1 R (Q * Y) bit.0 some (omega (arith, two)) (subst (λ z. IsLow N R z) (sym whole) part) inside bit.1 bit.2)

  more_holds : (signed : Bool) (f : ℕ → ℕ) (a m : ℕ) → AreHeld f a (suc m)
      → IsPart (256 ^ suc m) P (value f a (suc m)) W (mark_of signed (f (a + m)))
      → HoldsExact n (number_in signed (suc m) (value f a (suc m)) *ℤ pos (2 ^ u)) (Q * Y)
  more_holds false f a m held part = let p = part.plus refl in more_plus (value f a (suc m)) p.0 p.1
  more_holds true f a m held part =
      let X = value f a (suc m) in
      let N = 256 ^ suc m in
      let is = sign_given true f a m held refl in
      let l = value_below f a (suc m) held in
      ⊎_elim
      (λ (less : 2 * X < N).
      let p = part.plus (is.plus less) in
      subst (λ z. HoldsExact n (z *ℤ pos (2 ^ u)) (Q * Y)) (sym (plus (suc m) X less)) (more_plus X p.0 p.1))
      (λ (more : N ≤ 2 * X).
      let p = part.minus (is.minus more) in
      subst (λ z. HoldsExact n (z *ℤ pos (2 ^ u)) (Q * Y)) (sym (minus (suc m) X more l))
      (more_minus (N - X) p.0 (omega (arith, l)) p.1))
      (cases_lt (2 * X) N)

-- ---- the sign

record Marks (v w : View) (m k byte : ℕ) : Type 0 where
  sign : m < k → w.at 31 ≡ byte
  number : w.at 31 < 256
  same : (j : ℕ) → j ≢ 0 → j ≢ 31 → w.at j ≡ v.at j
  inputs : w.inputs ≡ v.inputs
  safe : w.safe ≡ v.safe
  seen : w.seen ≡ v.seen

marked : (e : Env) (signed : Bool) (p : Location) (m k a : ℕ) (v : View) → StandsFrom e p (suc m) a Own → HoldsNumbers v
    → Marks v (block e (signed_code signed p (suc m) k) v) (suc m) k (mark_of signed (v.at (a + m)))
marked e signed p m k a v st held =
    let two = st.clear in
    let top : v.at (a + m) < 256 = held (a + m) (omega arith) in
    ⊎_elim
    (λ (l : suc m < k).
    let s = marks e signed p m (a + m) v (st.at m (omega arith)) (st.kind m (omega arith)) top in
    let small = mark_is_byte signed (v.at (a + m)) top in
    rw (lt-ltb (suc m) k l)
    (record {
      sign = λ z. s.sign;
      number = rw s.sign small;
      same = s.same;
      inputs = s.inputs;
      safe = s.safe;
      seen = s.seen;
    }))
    (λ (l : k ≤ suc m). rw (le-ltb (suc m) k l)
    (record {
      sign = λ z. absurd (omega (arith, z, l));
      number = held 31 (omega arith);
      same = λ j y z. refl;
      inputs = refl;
      safe = refl;
      seen = refl;
    }))
    (cases_lt (suc m) k)

-- ---- into the row

-- k low bytes of a number of m bytes stand in the row from byte s on, with bytes of its sign above them, and 0 below
record Enters (v w : View) (a m s k byte : ℕ) : Type 0 where
  low : (j : ℕ) → j < min m k → w.at (8 + s + j) ≡ v.at (a + j)
  high : m < k → (j : ℕ) → m ≤ j → j < k → w.at (8 + s + j) ≡ byte
  none : (j : ℕ) → j < s → w.at (8 + j) ≡ 0
  same : (j : ℕ) → j ≢ 0 → j ≢ 1 → Outside 8 6 j → w.at j ≡ v.at j
  numbers : HoldsNumbers w
  inputs : w.inputs ≡ v.inputs
  safe : w.safe ≡ v.safe
  seen : w.seen ≡ v.seen

enters : (e : Env) (p : Location) (m s k a byte : ℕ) (v : View) → StandsFrom e p m a Own → AreApart a m 8 6 → 1 ≤ m → s ≤ 1
    → s + k ≤ 6 → HoldsNumbers v → (m < k → v.at 31 ≡ byte) → Enters v (block e (entered_code p m s k) v) a m s k byte
enters e p m s k a byte v st far some one room held mark =
    let few = min m k in
    let first = clear_code 0 s in
    let second = copy_code p (row_from s) few in
    let third = fills_code (row_from s) few k in
    let v1 = block e first v in
    let v2 = block e second v1 in
    let v3 = block e third v2 in
    let two = st.clear in
    let c = cleared e 0 s v in
    let d = copy_holds e p (row_from s) few a (8 + s) Own Own v1 (part_stands e p m few a (omega arith) st) (row_stands e s few) refl refl
    (λ l. ⊎_elim (λ (x : a < 8). let y = far.first x in omega (arith, y)) (λ (x : 8 ≤ a). let y = far.second x in absurd (omega
    (arith, y, l, one)))
    (cases_lt a 8)) in
    let f = fills e (row_from s) k (8 + s) few (v2.at 31) v2 (row_stands e s k) (clear_row s k room) refl in
    let apart : (j : ℕ) → j < m → Outside 8 6 (a + j) = λ j l z.
    ⊎_elim (λ (x : a < 8). let y = far.first x in absurd (omega (arith, y, l, z))) (λ (x : 8 ≤ a). let y = far.second x in omega (arith, y))
    (cases_lt a 8) in
    let mark1 : v1.at 31 ≡ v.at 31 = c.same 31 (λ l. omega (arith, one)) in
    let mark2 : v2.at 31 ≡ v.at 31 = d.same 31 (omega arith) (λ l. omega (arith, room)) ∙ mark1 in
    let held31 : v.at 31 < 256 = held 31 (omega arith) in
    let same : (j : ℕ) → j ≢ 0 → j ≢ 1 → Outside 8 6 j → v3.at j ≡ v.at j = λ j x y o.
    f.keeps.same j x y (λ l. let z = o (omega (arith, l)) in omega (arith, z, room))
    ∙ d.same j x (λ l. let z = o (omega (arith, l)) in omega (arith, z, room)) ∙ c.same j (λ l. let z = o (omega (arith, l)) in omega
    (arith, z, room)) in
    let low : (j : ℕ) → j < few → v3.at (8 + s + j) ≡ v.at (a + j) = λ j l.
    f.keeps.same (8 + s + j) (omega arith) (omega arith) (λ z. absurd (omega (arith, z, l))) ∙ d.there j l
    ∙ c.same (a + j) (λ z. let y = apart j (omega (arith, l)) (omega (arith, z)) in omega (arith, y, one)) in
    let fill : (j : ℕ) → few ≤ j → j < k → v3.at (8 + s + j) ≡ v.at 31 = λ j x y.
    (let at : 8 + s + few + (j - few) ≡ 8 + s + j = omega (arith, x) in
    subst (λ i. v3.at i ≡ v2.at 31) at (f.there (j - few) (omega (arith, x, y))) ∙ mark2) in
    let none : (j : ℕ) → j < s → v3.at (8 + j) ≡ 0 = λ j l.
    f.keeps.same (8 + j) (omega arith) (omega arith) (λ z. absurd (omega (arith, z, l)))
    ∙ d.same (8 + j) (omega arith) (λ z. absurd (omega (arith, z, l))) ∙ c.there j (omega (arith, l)) in
    let row : (j : ℕ) → j < s + k → v3.at (8 + j) < 256 = λ j l.
    ⊎_elim (λ (x : j < s). rw (none j x) (omega arith))
    (λ (x : s ≤ j).
    let at : 8 + s + (j - s) ≡ 8 + j = omega (arith, x) in
    ⊎_elim
    (λ (y : j - s < few).
    let b : v.at (a + (j - s)) < 256 = held (a + (j - s)) (omega arith) in subst (λ i. v3.at i < 256) at (rw (low (j - s) y) b))
    (λ (y : few ≤ j - s). subst (λ i. v3.at i < 256) at (rw (fill (j - s) y (omega (arith, l, x))) held31))
    (cases_lt (j - s) few))
    (cases_lt j s) in
    rw (block-append e first (second ++ third) v, block-append e second third v1)
    (record {
      low = low;
      high = λ z j x y. fill j (omega (arith, x, z)) y ∙ mark z;
      none = none;
      same = same;
      numbers = numbers_after v v3 8 (s + k) held
          (λ j x y o. f.keeps.same j x y (λ l. let z = o (omega (arith, l)) in omega (arith, z))
          ∙ d.same j x (λ l. let z = o (omega (arith, l)) in omega (arith, z))
          ∙ c.same j (λ l. let z = o (omega (arith, l)) in omega (arith, z)))
          row;
      inputs = f.keeps.inputs ∙ d.inputs ∙ c.inputs;
      safe = f.keeps.safe ∙ d.safe ∙ c.safe;
      seen = f.keeps.seen ∙ d.seen ∙ ap (λ l. v1.seen ++ l) (no_log a (8 + s) v1.at few) ∙ append-nil v1.seen ∙ c.seen;
    })

-- ---- one bit less

-- k bytes of the row are c times what stood there, below 256 ^ k
record Halves (v w : View) (k c W : ℕ) : Type 0 where
  rest : ℕ
  is : c * W ≡ value w.at 8 k + 256 ^ k * rest
  same : (j : ℕ) → j ≢ 0 → j ≢ 1 → Outside 8 6 j → w.at j ≡ v.at j
  numbers : HoldsNumbers w
  inputs : w.inputs ≡ v.inputs
  safe : w.safe ≡ v.safe
  seen : w.seen ≡ v.seen

whole_halves : (e : Env) (k u : ℕ) (v : View) → u % 8 ≡ 0 → HoldsNumbers v → Halves v (block e (half_code k u) v) k 1 (value v.at 8 k)
whole_halves e k u v even held = rw (eq-eqb (u % 8) 0 even) (record {
  rest = 0;
  is = omega arith;
  same = λ j x y o. refl;
  numbers = held;
  inputs = refl;
  safe = refl;
  seen = refl;
})

bit_halves : (e : Env) (k u : ℕ) (v : View) → u % 8 ≡ 7 → suc k ≤ 6 → v.at 8 ≡ 0 → HoldsNumbers v
    → Halves v (block e (half_code k u) v) k 128 (value v.at 9 k)
bit_halves e k u v odd room none held =
    let some : (u % 8 == 0) ≡ false = ne_eqb (u % 8) 0 (omega (arith, odd)) in
    let w = block e (halve_code false (row_from 0) (suc k)) v in
    let t = turned (Right false) e (row_from 0) k 8 v (row_stands e 0 (suc k)) held in
    let front : value v.at 8 (suc k) ≡ v.at 8 + 256 * value v.at 9 k = value_front v.at 8 k in
    let half : value w.at 8 (suc k) ≡ value v.at 8 (suc k) / 2 = t.number_is in
    let is : value w.at 8 (suc k) ≡ 128 * value v.at 9 k = omega (arith, half, front, none) in
    rw some (record {
      rest = w.at (8 + k);
      is = omega (arith, is);
      same = λ j x y o. t.keeps.same j x y (λ l. let z = o (omega (arith, l)) in omega (arith, z, room));
      numbers = t.numbers;
      inputs = t.keeps.inputs;
      safe = t.keeps.safe;
      seen = t.keeps.seen;
    })

-- ---- out of the row

record PutsTo (u : View) (b i : ℕ) (v : View) : Type 0 where
  there : (j : ℕ) → j < i → v.at (b + j) ≡ u.at (8 + j)
  same : (k : ℕ) → Outside b i k → v.at k ≡ u.at k
  inputs : v.inputs ≡ u.inputs
  safe : v.safe ≡ u.safe
  seen : v.seen ≡ u.seen

put_step : (e : Env) (q : Location) (i k n b : ℕ) (u : View) → StandsFrom e q n b Own → i + k ≤ n → k ≤ 6 → AreApart b n 8 6 → (j : ℕ)
    → j < k → (v : View) → PutsTo u (b + i) j v → PutsTo u (b + i) (suc j) (block e (put_byte (8 + j) q (i + j)) v)
put_step e q i k n b u st room few far j l v h =
    let here : b + (i + j) ≡ b + i + j = omega arith in
    let put = byte_is_put e (8 + j) q (i + j) (b + (i + j)) v (st.at (i + j) (omega (arith, l, room))) (st.kind (i + j) (omega
    (arith, l, room))) in
    let is = put ∙ ap (λ a. set a (v.at (8 + j)) v) here in
    let one = put_other v.at (b + i + j) (v.at (8 + j)) in
    let from : Outside (b + i) j (8 + j) = λ x.
    ⊎_elim (λ (y : b < 8). let z = far.first y in omega (arith, z, l, room)) (λ (y : 8 ≤ b). let z = far.second y in absurd (omega
    (arith, z, x, l, few)))
    (cases_lt b 8) in
    rw is (record {
      there = λ x y. ⊎_elim (λ (t : x ≡ j). put_here v.at (b + i + j) (v.at (8 + j)) (b + i + x) (omega (arith, t))
          ∙ h.same (8 + j) from ∙ ap (λ s. u.at (8 + s)) (sym t))
          (λ (t : x ≢ j). one (b + i + x) (λ s. t (omega (arith, s))) ∙ h.there x (omega (arith, y, t))) (cases_eq x j);
      same = λ x o. one x (not_here x (b + i) j o) ∙ h.same x (fewer x (b + i) j o);
      inputs = h.inputs;
      safe = h.safe;
      seen = h.seen;
    })

puts : (e : Env) (q : Location) (i k n b : ℕ) (v : View) → StandsFrom e q n b Own → i + k ≤ n → k ≤ 6 → AreApart b n 8 6
    → PutsTo v (b + i) k (block e (puts_code q i k) v)
puts e q i k n b v st room few far =
    chain_holds e (λ j. put_byte (8 + j) q (i + j)) (PutsTo v (b + i)) k (λ j l w h. put_step e q i k n b v st room few far j l w h) v
    (record {
      there = λ j l. absurd (omega (arith, l));
      same = λ x o. refl;
      inputs = refl;
      safe = refl;
      seen = refl;
    })

record Zeroed (v w : View) (a : ℕ) : Type 0 where
  here : w.at a ≡ 0
  same : (k : ℕ) → k ≢ 0 → k ≢ a → w.at k ≡ v.at k
  inputs : w.inputs ≡ v.inputs
  safe : w.safe ≡ v.safe
  seen : w.seen ≡ v.seen

zeroed : (e : Env) (q : Location) (i a : ℕ) (v : View) → address e q i ≡ a → KindIs e q a Own → Zeroed v (block e (zero_byte q i) v) a
zeroed e (InRegisters r) i a v at kind =
    rw at (record {
      here = put_here v.at a (bit_xor (v.at a) (v.at a)) a refl ∙ xor_self (v.at a);
      same = λ k x y. put_other v.at a (bit_xor (v.at a) (v.at a)) k y;
      inputs = refl;
      safe = refl;
      seen = refl;
    })
zeroed e (InMemory o k) i a v at kind =
    let w = change e (Eor 0 0) v in
    rw (at, kind) (record {
      here = put_here w.at a (w.at 0) a refl ∙ xor_self (v.at 0);
      same = λ j x y. put_other w.at a (w.at 0) j y ∙ put_other v.at 0 (bit_xor (v.at 0) (v.at 0)) j x;
      inputs = refl;
      safe = refl;
      seen = refl;
    })

record ZerosTo (u : View) (b i : ℕ) (v : View) : Type 0 where
  there : (j : ℕ) → j < i → v.at (b + j) ≡ 0
  same : (k : ℕ) → k ≢ 0 → Outside b i k → v.at k ≡ u.at k
  inputs : v.inputs ≡ u.inputs
  safe : v.safe ≡ u.safe
  seen : v.seen ≡ u.seen

zeros_there : (e : Env) (q : Location) (i b : ℕ) (v : View) → StandsFrom e q i b Own → ZerosTo v b i (block e (zeros_code q i) v)
zeros_there e q i b v st =
    chain_holds e (zero_byte q) (ZerosTo v b) i (λ j l w h.
    let z = zeroed e q j (b + j) w (st.at j l) (st.kind j l) in
    let two = st.clear in
    record {
      there = λ x y. ⊎_elim (λ (t : x ≡ j). ap (λ s. (block e (zero_byte q j) w).at (b + s)) t ∙ z.here)
          (λ (t : x ≢ j). z.same (b + x) (omega (arith, two)) (λ s. t (omega (arith, s))) ∙ h.there x (omega (arith, y, t))) (cases_eq x j);
      same = λ x y o. z.same x y (not_here x b j o) ∙ h.same x y (fewer x b j o);
      inputs = z.inputs ∙ h.inputs;
      safe = z.safe ∙ h.safe;
      seen = z.seen ∙ h.seen;
    }) v
    (record {
      there = λ j l. absurd (omega (arith, l));
      same = λ x y o. refl;
      inputs = refl;
      safe = refl;
      seen = refl;
    })

-- ---- the whole

-- k bytes of the row, times c, become those of the result above i bytes that are 0
record Raises (v w : View) (b i k c W : ℕ) : Type 0 where
  top : ℕ
  rest : ℕ
  is : c * W ≡ top + 256 ^ k * rest
  below : top < 256 ^ k
  number : value w.at b (i + k) ≡ 256 ^ i * top
  same : (j : ℕ) → j ≢ 0 → j ≢ 1 → Outside 8 6 j → Outside b (i + k) j → w.at j ≡ v.at j
  numbers : HoldsNumbers w
  inputs : w.inputs ≡ v.inputs
  safe : w.safe ≡ v.safe
  seen : w.seen ≡ v.seen

leaves_row : (e : Env) (q : Location) (i k b c W : ℕ) (v v1 : View) → StandsFrom e q (i + k) b Own → k ≤ 6 → AreApart b (i + k) 8 6
    → Halves v v1 k c W → Raises v (block e (puts_code q i k ++ zeros_code q i) v1) b i k c W
leaves_row e q i k b c W v v1 st few far h =
    let first = puts_code q i k in
    let v2 = block e first v1 in
    let v3 = block e (zeros_code q i) v2 in
    let two = st.clear in
    let p = puts e q i k (i + k) b v1 st (omega arith) few far in
    let z = zeros_there e q i b v2 (part_stands e q (i + k) i b (omega arith) st) in
    let top = value v1.at 8 k in
    let upper : value v3.at (b + i) k ≡ top =
    value_moved v3.at v1.at (b + i) 8 k
    (λ j l. z.same (b + i + j) (omega (arith, two)) (λ x. omega arith) ∙ p.there j l) in
    let lower : value v3.at b i ≡ 0 = zeros v3.at b i z.there in
    let parts = value_parts v3.at b i k in
    let row : (j : ℕ) → j < i + k → v3.at (b + j) < 256 = λ j l.
    ⊎_elim (λ (x : j < i). rw (z.there j x) (omega arith))
    (λ (x : i ≤ j).
    let at : b + i + (j - i) ≡ b + j = omega (arith, x) in
    let byte : v1.at (8 + (j - i)) < 256 = h.numbers (8 + (j - i)) (omega arith) in
    subst (λ s. v3.at s < 256) at
    (rw (z.same (b + i + (j - i)) (omega (arith, two)) (λ y. omega (arith, x)) ∙ p.there (j - i) (omega (arith, x, l))) byte))
    (cases_lt j i) in
    let same : (j : ℕ) → j ≢ 0 → j ≢ 1 → Outside b (i + k) j → v3.at j ≡ v1.at j = λ j x y o.
    z.same j x (λ l. let s = o l in omega (arith, s)) ∙ p.same j (λ l. let s = o (omega (arith, l)) in omega (arith, s)) in
    rw (block-append e first (zeros_code q i) v1)
    (record {
      top = top;
      rest = h.rest;
      is = h.is;
      below = value_below v1.at 8 k (λ j l. h.numbers (8 + j) (omega arith));
      number = parts ∙ rw (upper, lower) (omega arith);
      same = λ j x y o s. same j x y s ∙ h.same j x y o;
      numbers = numbers_after v1 v3 b (i + k) h.numbers same row;
      inputs = z.inputs ∙ p.inputs ∙ h.inputs;
      safe = z.safe ∙ p.safe ∙ h.safe;
      seen = z.seen ∙ p.seen ∙ h.seen;
    })

-- two to the power of the bits, and what the row is multiplied by
record IsStep (u s c : ℕ) : Type 0 where
  spare_is : spare u ≡ s
  power : 2 ^ u ≡ 256 ^ (u / 8) * c

even_step : (u : ℕ) → u % 8 ≡ 0 → IsStep u 0 1
even_step u even =
    let whole : u ≡ 8 * (u / 8) = omega (arith, even) in
    let p = whole_bytes u (u / 8) whole in
    record { spare_is = omega (arith, even); power = omega (arith, p) }

odd_step : (u : ℕ) → u % 8 ≡ 7 → IsStep u 1 128
odd_step u odd =
    let q = u / 8 in
    let whole : u ≡ 8 * q + 7 = omega (arith, odd) in
    let p : 2 ^ u ≡ 2 ^ (8 * q) * 2 ^ 7 = ap (λ t. 2 ^ t) whole ∙ pow-add 2 (8 * q) 7 in
    let w = whole_bytes (8 * q) q refl in
    record { spare_is = omega (arith, odd); power = p ∙ ap (λ t. t * 128) w }

module _ (signed : Bool) (e : Env) (p q : Location) (m i k u a b : ℕ) (v : View) (room : spare u + k ≤ 6)
    (sp : StandsFrom e p (suc m) a Own) (sq : StandsFrom e q (i + k) b Own) (far_a : AreApart a (suc m) 8 6)
    (far_b : AreApart b (i + k) 8 6) (clear_a : IsClearOfEnds a (suc m)) (held : HoldsNumbers v) where
  abbrev byte : ℕ
  byte = mark_of signed (v.at (a + m))

  abbrev v1 : View
  v1 = block e (signed_code signed p (suc m) k) v

  abbrev v2 : View
  v2 = block e (entered_code p (suc m) (spare u) k) v1

  abbrev v3 : View
  v3 = block e (half_code k u) v2

  mark : Marks v v1 (suc m) k byte
  mark = marked e signed p m k a v sp held

  numbers1 : HoldsNumbers v1
  numbers1 j l = ⊎_elim (λ (x : j ≡ 31). rw x mark.number)
      (λ (x : j ≢ 31). rw (mark.same j (omega (arith, l)) x) (held j l)) (cases_eq j 31)

  small : spare u ≤ 1
  small = omega arith

  entry : Enters v1 v2 a (suc m) (spare u) k byte
  entry = enters e p (suc m) (spare u) k a byte v1 sp far_a (omega arith) small room numbers1 mark.sign

  -- the number itself has not changed with its mark
  kept : (j : ℕ) → j < suc m → v1.at (a + j) ≡ v.at (a + j)
  kept j l = let two = sp.clear in mark.same (a + j) (omega (arith, two)) (λ x. beside x)
    where
      beside : a + j ≡ 31 → ⊥
      beside x = ⊎_elim (λ (y : a < 30). let z = clear_a.below y in omega (arith, z, x, l))
          (λ (y : 30 ≤ a). let z = clear_a.above y in omega (arith, z, x)) (cases_lt a 30)

  held_a : AreHeld v.at a (suc m)
  held_a j l = let two = sp.clear in let r : v.at (a + j) < 256 = held (a + j) (omega (arith, two)) in r

  part : IsPart (256 ^ suc m) (256 ^ k) (value v.at a (suc m)) (value v2.at (8 + spare u) k) byte
  part = ⊎_elim
      (λ (l : suc m < k). part_of_few v2.at v.at a (8 + spare u) (suc m) k byte l held_a
      (λ j x. entry.low j (omega (arith, x, l)) ∙ kept j x) (entry.high l))
      (λ (l : k ≤ suc m). part_of_many v2.at v.at a (8 + spare u) (suc m) k byte l held_a
      (λ j x. entry.low j (omega (arith, x, l)) ∙ kept j (omega (arith, x, l))))
      (cases_lt (suc m) k)

  -- what stands there after all code but the marks
  record Done (w : View) (c : ℕ) : Type 0 where
    raises : Raises v2 w b i k c (value v2.at (8 + spare u) k)
    power : 2 ^ u ≡ 256 ^ (u / 8) * c

  abbrev end_code : View
  end_code = block e (puts_code q i k ++ zeros_code q i) v3

  by_step : IsCut u → (c : ℕ) × Done end_code c
  by_step (inl even) =
      let s = even_step u even in
      let at : 8 + spare u ≡ 8 = ap (λ t. 8 + t) s.spare_is in
      let h : Halves v2 v3 k 1 (value v2.at (8 + spare u) k) =
      subst (λ t. Halves v2 v3 k 1 (value v2.at t k)) (sym at) (whole_halves e k u v2 even entry.numbers) in
      (1, record { raises = leaves_row e q i k b 1 (value v2.at (8 + spare u) k) v2 v3 sq (omega (arith, room)) far_b h; power = s.power })
  by_step (inr odd) =
      let s = odd_step u odd in
      let one = s.spare_is in
      let at : 8 + spare u ≡ 9 = ap (λ t. 8 + t) one in
      let none : v2.at 8 ≡ 0 = entry.none 0 (omega (arith, one)) in
      let h : Halves v2 v3 k 128 (value v2.at (8 + spare u) k) =
      subst (λ t. Halves v2 v3 k 128 (value v2.at t k)) (sym at) (bit_halves e k u v2 odd (omega (arith, room, one)) none entry.numbers) in (
        128,
        record {
          raises = leaves_row e q i k b 128 (value v2.at (8 + spare u) k) v2 v3 sq (omega
              (arith, room)) far_b h;
          power = s.power;
        },
      )

  whole_is : block e (placed_code signed p q (suc m) u i k) v ≡ end_code
  whole_is =
      block-append e (signed_code signed p (suc m) k) (more_code p q (suc m) u i k) v
      ∙ block-append e (entered_code p (suc m) (spare u) k) (half_code k u ++ (puts_code q i k ++ zeros_code q i)) v1
      ∙ block-append e (half_code k u) (puts_code q i k ++ zeros_code q i) v2

  raised : (n pc end : ℕ) → i ≡ u / 8 → i + k ≡ n → 1 ≤ n → IsCut u → HasAt e (placed_code signed p q (suc m) u i k) pc end
      → Carries e (100 + 2 * n) pc v end b n (HoldsExact n (number_in signed (suc m) (value v.at a (suc m)) *ℤ pos (2 ^ u)))
  raised n pc end is size some step stands =
      let code = placed_code signed p q (suc m) u i k in
      let d = by_step step in
      let c = d.0 in
      let r = d.1.raises in
      let short = raise_short signed p q (suc m) u i k in
      let power : 2 ^ u ≡ 256 ^ i * c = subst (λ t. 2 ^ u ≡ 256 ^ t * c) (sym is) d.1.power in
      let steps = short.steps_are in
      let exact = number_in signed (suc m) (value v.at a (suc m)) *ℤ pos (2 ^ u) in
      let holds = more_holds n i k u c (value v2.at
      (8 + spare u) k) r.top r.rest size some power r.is r.below signed v.at a m held_a part in
      record {
        steps = code_steps code;
        at_most = omega (arith, steps, room, size);
        last = end_code;
        goes = subst (λ w. Goes e (code_steps code) pc v end w) whole_is (block_goes e code pc end v short.straight stands);
        holds = subst (λ t. HoldsExact n exact (value end_code.at b t)) size
            (subst (λ z. HoldsExact n exact z) (sym r.number) holds);
        numbers = r.numbers;
        same = λ j x y z o t. r.same j x y o (λ l. let s = t l in omega (arith, s, size)) ∙ entry.same j x y o ∙ mark.same j x z;
        inputs = r.inputs ∙ entry.inputs ∙ mark.inputs;
        safe = r.safe ∙ entry.safe ∙ mark.safe;
        seen = r.seen ∙ entry.seen ∙ mark.seen;
      }

pub raises_are_right : (signed : Bool) (e : Env) (p q : Location) (m n u a b pc end : ℕ) (v : View) → IsCut u → 1 ≤ m → u / 8 < n
    → spare u + (n - u / 8) ≤ 6 → StandsFrom e p m a Own → StandsFrom e q n b Own → AreApart a m 8 6 → AreApart b n 8 6
    → IsClearOfEnds a m → HoldsNumbers v → HasAt e (raise_code signed p q m n u) pc end
    → Carries e (100 + 2 * n) pc v end b n (HoldsExact n (number_in signed m (value v.at a m) *ℤ pos (2 ^ u)))
raises_are_right signed e p q zero n u a b pc end v step some low room sp sq far_a far_b clear_a held stands = absurd (omega (arith, some))
raises_are_right signed e p q (suc m) n u a b pc end v step some low room sp sq far_a far_b clear_a held stands =
    let i = u / 8 in
    let k = n - i in
    let size : i + k ≡ n = omega (arith, low) in
    raised signed e p q m i k u a b v room sp (subst (λ t. StandsFrom e q t b Own) (sym size) sq) far_a
    (subst (λ t. AreApart b t 8 6) (sym size) far_b) clear_a held n pc end refl size (omega (arith, low)) step stands
