-- Shifts.
use Rattle.std.proofs.Common.{◌≡◌, ◌≢◌, ℕ, zero, suc, ◌+◌, ◌-◌, ◌*◌, ◌/◌, ◌%◌, ◌^◌, ◌<◌, ◌≤◌, Bool, true, false, ◌&&◌}
use Rattle.std.proofs.Common.{ℤ, pos, negsuc, ◌+ℤ◌, ◌-ℤ◌, ◌*ℤ◌, ◌≤ℤ◌, unsigned_abs, refl, sym, ap, ◌∙◌, subst, arith}
use Rattle.std.proofs.Common.{⊎_elim, ◌++◌}
use Rattle.std.specs.Prelude.{nat_le, int_le, int_lt, if◌then◌else◌}
use Rattle.std.specs.Int.{int_div_euclid}
use Rattle.std.proofs.lemmas.Int.{ints}
use Rattle.std.proofs.lemmas.Nat.{mod_below, div-add-mod'}
use Rattle.std.proofs.lemmas.Bool.{cases_Bool, and_parts}
use Rattle.std.proofs.lemmas.Bool.Decides.{nat_tests}
use Rattle.std.proofs.Math.Nat.{div-le_self, pow-le-pow_right}
use Rattle.ec_asm.specs.declared.pieces.Location.{Location}
use Rattle.ec_asm.specs.declared.pieces.Location.TheVariants.{InRegisters}
use Rattle.ec_asm.specs.View.{View}
use Rattle.ec_asm.specs.Change.{Env}
use Rattle.ec_asm.specs.Items.{HasAt, block, code_steps}
use Rattle.ec_asm.specs.Pieces.{Outside, value}
use Rattle.ec_asm.specs.PieceLaws.{HoldsNumbers}
use Rattle.ec_asm.proofs.Hoare.{has_parts, block_goes, goes_on_to}
use Rattle.ec_asm.proofs.Numbers.{mod_beside, pow_pos, mod_less, value_mod}
use Rattle.ec_asm.proofs.Sum.{value-same}
use Rattle.ec_core.specs.Plain.{PlainProgram}
use Rattle.ec_ir.specs.declared.operations.Temp.{Temp}
use Rattle.ec_select_operations.specs.Homes.{HasHome}
use Rattle.ec_core.specs.Integers.{wrapped, is_count}
use Rattle.ec_ir.specs.Temporaries.{low_bytes, number_of_bytes}
use Rattle.ec_select_shifts.specs.declared.shifts.Direction.{Direction}
use Rattle.ec_select_shifts.specs.declared.shifts.Direction.TheVariants.{Left, Right}
use Rattle.ec_select_shifts.specs.Shifts.{shifted_by, shift_code, counted_code as turned_by_code}
use Rattle.ec_select_shifts.specs.Laws.{Leads}
use Rattle.ec_select_shifts.proofs.Counted.{counted_shifts_are_right}
use Rattle.ec_select_shifts.proofs.Loops.{shifts_are_right}
use Rattle.ec_select_operations.specs.Code.{move_code, turned_code, counted_code, shift_of, shifted_bytes}
use Rattle.ec_select_functions.proofs.Setting.{Setting}
use Rattle.ec_select_functions.proofs.Computed.{stand, moved_numbers}
use Rattle.ec_select_functions.proofs.Match.{read_first}
use Rattle.ec_select_functions.proofs.Moves.{wider_frame, work_outside, narrower, row_kept, row_value, move_holds}
use Rattle.ec_select_functions.proofs.Moves.{move_straight, move_steps}
use Rattle.ec_select_functions.proofs.Related.{work_stands}
use Rattle.ec_select_functions.proofs.Wrapped.{Lifts, low_of, low_of_wrapped, lifts_number, kept_below, of_type}

-- ---- counts

-- a count in range is the number that its bytes make
pub count_is : (signed : Bool) (b low bits : ℕ) → low < 256 ^ b → is_count bits (number_of_bytes signed b low) ≡ true
    → (unsigned_abs (number_of_bytes signed b low) ≡ low) × (low < bits)
count_is signed b low bits l h =
    by_sign (signed && nat_le (256 ^ b) (2 * low)) h
  where
    by_sign : (x : Bool) → is_count bits (if x then pos low -ℤ pos (256 ^ b) else pos low) ≡ true
        → (unsigned_abs (if x then pos low -ℤ pos (256 ^ b) else pos low) ≡ low) × (low < bits)
    by_sign true h =
        let r = and_parts (int_le (pos 0) (pos low -ℤ pos (256 ^ b))) (int_lt (pos low -ℤ pos (256 ^ b)) (pos bits)) h in
        let a = r.0 in
        let w : pos 0 ≤ℤ (pos low -ℤ pos (256 ^ b)) = grind (arith, ints) in
        absurd (omega (arith, ints, l, w))
    by_sign false h =
        let r = and_parts (int_le (pos 0) (pos low)) (int_lt (pos low) (pos bits)) h in
        let a = r.1 in
        (refl, grind (arith, ints))

-- ---- to the left

scaled : (x : ℤ) (k p m c : ℕ) → x +ℤ pos (k * p) ≡ pos m → (x *ℤ pos c) +ℤ pos (k * c * p) ≡ pos (m * c)
scaled (pos a) k p m c h =
    let e : a + k * p ≡ m = omega (arith, ints, h) in
    let f : (a + k * p) * c ≡ m * c = ap (λ t. t * c) e in
    omega (arith, ints, f)
scaled (negsuc a) k p m c h =
    let e : k * p ≡ m + suc a = omega (arith, ints, h) in
    let f : k * p * c ≡ (m + suc a) * c = ap (λ t. t * c) e in
    omega (arith, ints, f)

mod_times : (x c m : ℕ) → 0 < m → x % m * c % m ≡ x * c % m
mod_times x c m h =
    let d = div-add-mod' x m in
    let e : x * c ≡ (x / m * m + x % m) * c = ap (λ t. t * c) (sym d) in
    let f : x * c ≡ x / m * c * m + x % m * c = omega (arith, e) in
    sym (ap (λ t. t % m) f ∙ mod_beside (x / m * c) m (x % m * c) h)

pub left_low : (s1 s : Bool) (b x c : ℕ)
    → low_bytes b (wrapped (of_type s b) (number_of_bytes s1 b x *ℤ pos (2 ^ c))) ≡ shifted_by Left b x c
left_low s1 s b x c =
    let z = number_of_bytes s1 b x in
    let r = lifts_number s1 b x in
    let l : Lifts (z *ℤ pos (2 ^ c)) b (x * 2 ^ c) = record { k = r.k * 2 ^ c; is = scaled z r.k (256 ^ b) x (2 ^ c) r.is } in
    low_of_wrapped s b (z *ℤ pos (2 ^ c)) ∙ low_of (z *ℤ pos (2 ^ c)) b (x * 2 ^ c) l

-- the low bytes of a shift to the left
pub left_part : (n b x c : ℕ) → n ≤ b → shifted_by Left n (x % 256 ^ n) c ≡ shifted_by Left b x c % 256 ^ n
left_part n b x c l = mod_times x (2 ^ c) (256 ^ n) (pow_pos n) ∙ sym (mod_less (x * 2 ^ c) n b l)

-- ---- to the right

quotient_below : (x q m : ℕ) → x < m → x / q < m
quotient_below x zero m l = omega arith
quotient_below x (suc q) m l = omega (arith, div-le_self x (suc q), l)

negative_is : (x p : ℕ) → x < p → pos x -ℤ pos p ≡ negsuc (p - 1 - x)
negative_is x p l = omega (arith, ints, l)

negative_lifts : (y p : ℕ) → y < p → negsuc y +ℤ pos (1 * p) ≡ pos (p - 1 - y)
negative_lifts y p l = omega (arith, ints, l)

right_low_plain : (s : Bool) (b x c : ℕ) → x < 256 ^ b
    → low_bytes b (wrapped (of_type s b) (int_div_euclid (pos x) (pos (2 ^ c)))) ≡ x / 2 ^ c
right_low_plain s b x c l =
    let y = x / 2 ^ c in
    let f : Lifts (pos y) b y = record { k = 0; is = omega (arith, ints) } in
    low_of_wrapped s b (pos y) ∙ low_of (pos y) b y f ∙ kept_below y (256 ^ b) (quotient_below x (2 ^ c) (256 ^ b) l)

right_low_negative : (s : Bool) (b x c : ℕ) → x < 256 ^ b
    → low_bytes b (wrapped (of_type s b) (int_div_euclid (pos x -ℤ pos (256 ^ b)) (pos (2 ^ c)))) ≡ 256 ^ b - 1 - (256 ^ b - 1 - x) / 2 ^ c
right_low_negative s b x c l =
    let p = 256 ^ b in
    let y = (p - 1 - x) / 2 ^ c in
    let k : y < p = quotient_below (p - 1 - x) (2 ^ c) p (omega (arith, l)) in
    let f : Lifts (negsuc y) b (p - 1 - y) = record { k = 1; is = negative_lifts y p k } in
    let e : int_div_euclid (pos x -ℤ pos p) (pos (2 ^ c)) ≡ negsuc y = ap (λ z. int_div_euclid z (pos (2 ^ c))) (negative_is x p l) in
    ap (λ z. low_bytes b (wrapped (of_type s b) z)) e ∙ low_of_wrapped s b (negsuc y) ∙ low_of (negsuc y) b (p - 1 - y) f
    ∙ kept_below (p - 1 - y) p (omega (arith, l))

pub right_low : (s1 s : Bool) (b x c : ℕ) → x < 256 ^ b
    → low_bytes b (wrapped (of_type s b) (int_div_euclid (number_of_bytes s1 b x) (pos (2 ^ c)))) ≡ shifted_by (Right s1) b x c
right_low false s b x c l = right_low_plain s b x c l
right_low true s b x c l =
    ⊎_elim (λ t. rw t (right_low_negative s b x c l)) (λ t. rw t (right_low_plain s b x c l)) (cases_Bool (nat_le (256 ^ b) (2 * x)))

-- a number below 256 of several bytes, whose top bit is 0
pub record ByteShift (s : Bool) (n x c : ℕ) : Type 0 where
  pub is : shifted_by (Right s) n x c ≡ x / 2 ^ c
  pub below : x / 2 ^ c < 256

pub byte_shift : (s : Bool) (n x c : ℕ) → 1 < n → x < 256 → ByteShift s n x c
byte_shift s n x c more l = record { is = by_sign s; below = quotient_below x (2 ^ c) 256 l }
  where
    grows : 65536 ≤ 256 ^ n
    grows = pow-le-pow_right {n = 256} (omega arith) {i = 2} {j = n} (omega (arith, more))

    small : nat_le (256 ^ n) (2 * x) ≡ false
    small = grind (arith, nat_tests, grows, l)

    by_sign : (s : Bool) → shifted_by (Right s) n x c ≡ x / 2 ^ c
    by_sign false = refl
    by_sign true = ap (λ (b : Bool). if b then 256 ^ n - 1 - (256 ^ n - 1 - x) / 2 ^ c else x / 2 ^ c) small

-- ---- both

-- what a shift gives
abbrev pub shift_number : Bool → ℤ → ℕ → ℤ
shift_number true z c = z *ℤ pos (2 ^ c)
shift_number false z c = int_div_euclid z (pos (2 ^ c))

pub shift_low : (up s : Bool) (b x c : ℕ) → x < 256 ^ b
    → low_bytes b (wrapped (of_type s b) (shift_number up (number_of_bytes s b x) c)) ≡ shifted_by (shift_of up s) b x c
shift_low true s b x c l = left_low s s b x c
shift_low false s b x c l = right_low s s b x c l

-- the low bytes of the result, where so many were shifted
pub shift_part : (up s : Bool) (f : ℕ → ℕ) (a k b x c : ℕ) → k ≤ b → x < 256 ^ b
    → ((j : ℕ) → j < b → f (a + j) < 256)
    → value f a (shifted_bytes up b k) ≡ shifted_by (shift_of up s) (shifted_bytes up b k) (x % 256 ^ shifted_bytes up b k) c
    → value f a k ≡ shifted_by (shift_of up s) b x c % 256 ^ k
shift_part true s f a k b x c l m h q = q ∙ left_part k b x c l
shift_part false s f a k b x c l m h q =
    let e : x % 256 ^ b ≡ x = kept_below x (256 ^ b) m in
    sym (value_mod f a k b l h) ∙ ap (λ t. t % 256 ^ k) (q ∙ ap (λ t. shifted_by (Right s) b t c) e)

pub shifted_below : (sh : Direction) (b x c : ℕ) → x < 256 ^ b → shifted_by sh b x c < 256 ^ b
shifted_below Left b x c l = mod_below (x * 2 ^ c) (256 ^ b) (pow_pos b)
shifted_below (Right false) b x c l = quotient_below x (2 ^ c) (256 ^ b) l
shifted_below (Right true) b x c l =
    let p = pow_pos b in
    ⊎_elim (λ t. rw t (omega (arith, p))) (λ t. rw t (quotient_below x (2 ^ c) (256 ^ b) l)) (cases_Bool (nat_le (256 ^ b) (2 * x)))

module _ (p : PlainProgram) (e : Env) (slots : ℕ) (home : Temp → Location) (base : Temp → ℕ) (place : ℕ → ℕ)
    (y : Setting p e slots home base place) where
  -- the number and the count are brought to their places, and the number is shifted
  pub turned_leads : (sh : Direction) (t a b : Temp) (w x c pc end : ℕ) (v : View) → HasHome slots t → HasHome slots a
      → HasHome slots b → t.at ≢ b.at → suc w ≤ t.bytes → suc w ≤ a.bytes
      → value v.at (base a) (suc w) ≡ x → v.at (base b) ≡ c → c < 128 → HoldsNumbers v
      → HasAt e (turned_code sh (home a) (home b) (home t) (suc w)) pc end
      → Leads e (suc w * 2 + 2 + (3 + c * (2 + 4 * suc w))) pc v end (base t) (suc w) (shifted_by sh (suc w) x c)
  turned_leads sh t a b w x c pc end v it ia ib other lt la xa xb small h stands =
      let n = suc w in
      let some_b = ib.some in
      let clear_b = (y.layout.temps_at b ib).clear in
      let clear_t = (y.layout.temps_at t it).clear in
      let first = move_code (home a) (home t) n in
      let second = move_code (home b) (InRegisters 30) 1 in
      let s1 = has_parts e first (second ++ shift_code sh (home t) n) pc end stands in
      let s2 = has_parts e second (shift_code sh (home t) n) s1.0 end s1.2 in
      let v1 = block e first v in
      let v2 = block e second v1 in
      let k1 =
      move_holds e (home a) (home t) n (base a) (base t) v (stand p e slots home base place y a n ia la)
      (stand p e slots home base place y t n it lt) (read_first p e slots home base place y t a n it ia la) h in
      let h1 = moved_numbers p e slots home base place y v v1 (base a) (base t) n (y.layout.temps_at a ia).clear h k1 in
      let frame1 = wider_frame v v1 (base t) t.bytes n lt k1.frame in
      let sb = stand p e slots home base place y b 1 ib some_b in
      let k2 = move_holds e (home b) (InRegisters 30) 1 (base b) 30 v1 sb (work_stands e) (λ l. omega arith) h1 in
      let h2 = moved_numbers p e slots home base place y v1 v2 (base b) 30 1 clear_b h1 k2 in
      let zb : base b + 0 ≡ base b = omega arith in
      let row =
      row_kept v v1 (base t) t.bytes (base b) b.bytes clear_b (work_outside (base b) b.bytes (y.layout.temps_work b ib))
      (y.layout.temps_apart t b it ib other) frame1 0 (omega arith) in
      let count : v2.at 30 ≡ c = k2.there 0 (omega arith) ∙ row ∙ ap v.at zb ∙ xb in
      let far : Outside (base t) n 30 = narrower (base t) t.bytes n 30 lt (work_outside (base t) t.bytes (y.layout.temps_work t it)) in
      let same2 : (j : ℕ) → j < n → v2.at (base t + j) ≡ v1.at (base t + j) =
      λ j l. k2.frame (base t + j) (omega arith) (omega arith) (not_work (base t) n j far l) (beside (base t) n j far l) in
      let number : value v2.at (base t) n ≡ x =
      value-same v2.at v1.at (base t) n same2 ∙ row_value v1.at v.at (base a) (base t) n k1.there ∙ xa in
      let below : v2.at 30 < 128 = rw count small in
      let g0 = shifts_are_right sh e (home t) w (base t) s2.0 end v2 (stand p e slots home base place y t n it lt) far h2 below s2.2 in
      let g = subst (λ i. Leads e (3 + i * (2 + 4 * n)) s2.0 v2 end (base t) n (shifted_by sh n (value v2.at (base t) n) i)) count g0 in
      let take1 = move_steps (home a) (home t) n in
      let take2 = move_steps (home b) (InRegisters 30) 1 in
      let take3 = g.at_most in
      let go1 = block_goes e first pc s1.0 v (move_straight (home a) (home t) n) s1.1 in
      let go2 = block_goes e second s1.0 s2.0 v1 (move_straight (home b) (InRegisters 30) 1) s2.1 in
      record {
        steps = code_steps first + code_steps second + g.steps;
        at_most = bound (code_steps first) (code_steps second) g.steps (n * 2) (3 + c * (2 + 4 * n)) take1 take2 take3;
        last = g.last;
        goes = goes_on_to e (code_steps first + code_steps second) g.steps pc s2.0 end v v2 g.last
            (goes_on_to e (code_steps first) (code_steps second) pc s1.0 s2.0 v v1 v2 go1 go2) g.goes;
        number_is = g.number_is ∙ ap (λ i. shifted_by sh n i c) number;
        numbers = g.numbers;
        same = λ i d f r o. g.same i d f r o ∙ k2.frame i d f r (λ l. grind arith) ∙ k1.frame i d f r o;
        inputs = g.inputs ∙ k2.quiet.inputs ∙ k1.quiet.inputs;
        safe = g.safe ∙ k2.quiet.safe ∙ k1.quiet.safe;
        seen = g.seen ∙ k2.quiet.seen ∙ k1.quiet.seen;
      }
    where
      not_work : (a n j : ℕ) → Outside a n 30 → j < n → a + j ≢ 30
      not_work a n j h l q = grind arith

      beside : (a n j : ℕ) → Outside a n 30 → j < n → Outside 30 1 (a + j)
      beside a n j h l m = grind arith

      bound : (i j k m n : ℕ) → i ≤ m → j ≤ 1 * 2 → k ≤ n → i + j + k ≤ m + 2 + n
      bound i j k m n a b c = omega (arith, a, b, c)

  -- the number is brought to its place, and shifted by a known count
  pub counted_leads : (sh : Direction) (t a : Temp) (w x c pc end : ℕ) (v : View) → HasHome slots t → HasHome slots a
      → suc w ≤ t.bytes → suc w ≤ a.bytes → value v.at (base a) (suc w) ≡ x → c < 128 → HoldsNumbers v
      → HasAt e (counted_code sh (home a) (home t) (suc w) c) pc end
      → Leads e (suc w * 2 + (4 + c * (2 + 4 * suc w))) pc v end (base t) (suc w) (shifted_by sh (suc w) x c)
  counted_leads sh t a w x c pc end v it ia lt la xa small h stands =
      let n = suc w in
      let first = move_code (home a) (home t) n in
      let s1 = has_parts e first (turned_by_code sh (home t) n c) pc end stands in
      let v1 = block e first v in
      let k1 =
      move_holds e (home a) (home t) n (base a) (base t) v (stand p e slots home base place y a n ia la)
      (stand p e slots home base place y t n it lt) (read_first p e slots home base place y t a n it ia la) h in
      let h1 = moved_numbers p e slots home base place y v v1 (base a) (base t) n (y.layout.temps_at a ia).clear h k1 in
      let far : Outside (base t) n 30 = narrower (base t) t.bytes n 30 lt (work_outside (base t) t.bytes (y.layout.temps_work t it)) in
      let number : value v1.at (base t) n ≡ x = row_value v1.at v.at (base a) (base t) n k1.there ∙ xa in
      let g =
      counted_shifts_are_right sh e (home t) w (base t) c s1.0 end v1 (stand p e slots home base place y t n it lt) far h1 small s1.2 in
      let take1 = move_steps (home a) (home t) n in
      let take2 = g.at_most in
      record {
        steps = code_steps first + g.steps;
        at_most = bound (code_steps first) g.steps (n * 2) (4 + c * (2 + 4 * n)) take1 take2;
        last = g.last;
        goes = goes_on_to e (code_steps first) g.steps pc s1.0 end v v1 g.last
            (block_goes e first pc s1.0 v (move_straight (home a) (home t) n) s1.1) g.goes;
        number_is = g.number_is ∙ ap (λ i. shifted_by sh n i c) number;
        numbers = g.numbers;
        same = λ i d f r o. g.same i d f r o ∙ k1.frame i d f r o;
        inputs = g.inputs ∙ k1.quiet.inputs;
        safe = g.safe ∙ k1.quiet.safe;
        seen = g.seen ∙ k1.quiet.seen;
      }
    where
      bound : (i j m n : ℕ) → i ≤ m → j ≤ n → i + j ≤ m + n
      bound i j m n a b = omega (arith, a, b)
