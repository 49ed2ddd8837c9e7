-- Operations that only compute: constants, copies and operators.
use Rattle.std.proofs.Common.{◌≡◌, ◌≢◌, ◌⊎◌, ℕ, ◌+◌, ◌-◌, ◌*◌, ◌/◌, ◌%◌, ◌^◌, ◌<◌, ◌≤◌, ◌==◌, ◌++◌, ⊎_elim, inl, inr}
use Rattle.std.proofs.Common.{Bool, true, false, ℤ, Some, refl, sym, ap, ◌∙◌, subst, arith, bit_and, bit_or, bit_xor}
use Rattle.std.proofs.Common.{pow-add}
use Rattle.std.specs.Prelude.{if◌then◌else◌}
use Rattle.std.proofs.lemmas.Nat.{mod_below, div-add-mod', mod-mul-add, mul-le, and_mod, or_mod, xor_mod, and_comm}
use Rattle.std.proofs.lemmas.Nat.{or_comm, xor_comm}
use Rattle.std.proofs.lemmas.Bool.Decides.{nat_tests}
use Rattle.std.proofs.lemmas.Bool.{cases_lt, eqb-true, and_parts, false≢true}
use Rattle.ec_asm.specs.declared.pieces.Location.{Location}
use Rattle.ec_asm.specs.declared.pieces.Location.TheVariants.{InRegisters, InMemory}
use Rattle.ec_asm.specs.declared.pieces.Operator.{Operator}
use Rattle.ec_asm.specs.declared.pieces.Operator.TheVariants.{Sum, Difference, BitAnd, BitOr, BitXor}
use Rattle.ec_asm.specs.View.{View}
use Rattle.ec_asm.specs.Change.{Env, Own}
use Rattle.ec_asm.specs.Items.{block}
use Rattle.ec_asm.specs.Pieces.{address, StandsFrom, Outside, Keeps, value, bitwise, is_bitwise, operate_code}
use Rattle.ec_asm.specs.Pieces.{BitwiseTo}
use Rattle.ec_asm.specs.PieceLaws.{HoldsNumbers, IsReadFirst}
use Rattle.ec_asm.proofs.Hoare.{block-append}
use Rattle.ec_asm.proofs.Numbers.{value_digit, mod_less, mod_beside, pow_pos}
use Rattle.ec_asm.proofs.Operators.{bitwise_holds}
use Rattle.ec_asm.proofs.Results.{sums_are_right, differences_are_right}
use Rattle.ec_asm.proofs.Sum.{value-same}
use Rattle.ec_core.specs.Plain.{PlainProgram}
use Rattle.ec_core.specs.State.{worked}
use Rattle.ec_ir.specs.declared.operations.Temp.{Temp}
use Rattle.ec_ir.specs.Meaning.{Mach, machine}
use Rattle.ec_ir.specs.Temporaries.{Content, bits, points, Held, with_content, low_bytes}
use Rattle.ec_select_operations.specs.Homes.{HasHome}
use Rattle.ec_select_bytes.specs.Values.{byte_of}
use Rattle.ec_select_numbers.specs.ByNumber.{put_code}
use Rattle.ec_select_bytes.specs.Complements.{negation_code}
use Rattle.ec_select_bytes.proofs.Turned.{negations_are_right}
use Rattle.ec_select_operations.specs.Code.{same_location, move_code, reversed_code, combined_code}
use Rattle.ec_select_operations.specs.Needs.{Need, at_least, without, wanted}
use Rattle.ec_select_functions.proofs.Setting.{Setting}
use Rattle.ec_select_functions.specs.Relation.{HoldsContent, Matches}
use Rattle.ec_select_functions.proofs.Match.{kept_left, wanted_most, least_here, least_other, without_other, at_width}
use Rattle.ec_select_functions.proofs.Match.{read_first, written, written_wide, held_row}
use Rattle.ec_select_functions.proofs.Moves.{Frame, Wide, beside_work, wider_frame, wider_wide, work_outside, narrower}
use Rattle.ec_select_functions.proofs.Moves.{numbers_kept, row_kept}
use Rattle.ec_select_functions.proofs.Moves.{row_value, stands_less, Moves, move_holds}
use Rattle.ec_select_functions.proofs.Wrapped.{low_part, low_below, value_of_bytes, byte_of_bitwise, powers}

-- ---- locations

equal_or_not : (a b : ℕ) → (a ≡ b) ⊎ (a ≢ b)
equal_or_not a b = by_test (a == b) refl where
  by_test : (same : Bool) → (a == b) ≡ same → (a ≡ b) ⊎ (a ≢ b)
  by_test true q = inl (eqb-true a b q)
  by_test false q = inr (λ e. let r : (a == b) ≡ true = grind (arith, nat_tests) in cc)

pub location_is : (p q : Location) → same_location p q ≡ true → p ≡ q
location_is (InRegisters a) (InRegisters b) h = ap InRegisters (eqb-true a b h)
location_is (InRegisters a) (InMemory o k) h = absurd (false≢true h)
location_is (InMemory o k) (InRegisters b) h = absurd (false≢true h)
location_is (InMemory o k) (InMemory u j) h =
    let parts = and_parts (o == u) (k == j) h in
    let x : o ≡ u = eqb-true o u parts.0 in let z : k ≡ j = eqb-true k j parts.1 in rw (x, z) refl

location_itself : (p : Location) → same_location p p ≡ true
location_itself (InRegisters a) = grind (arith, nat_tests)
location_itself (InMemory o k) =
    let x : (o == o) ≡ true = grind (arith, nat_tests) in let z : (k == k) ≡ true = grind (arith, nat_tests) in rw (x, z) refl

pub location_same : (p q : Location) → p ≡ q → same_location p q ≡ true
location_same p q e = subst (λ (r : Location). same_location p r ≡ true) e (location_itself p)

-- ---- numbers

-- what one operator makes of two numbers of n bytes
abbrev pub result_of : Operator → ℕ → ℕ → ℕ → ℕ
result_of Sum n x y = (x + y) % 256 ^ n
result_of Difference n x y = (x + 256 ^ n - y) % 256 ^ n
result_of BitAnd n x y = bit_and x y % 256 ^ n
result_of BitOr n x y = bit_or x y % 256 ^ n
result_of BitXor n x y = bit_xor x y % 256 ^ n

pub byte_below : (x j : ℕ) → byte_of x j < 256
byte_below x j = mod_below (x / 256 ^ j) 256 (omega arith)

-- n bytes from b are the result, of operands in the n bytes from b and from a, and all else is kept
pub record Combines (op : Operator) (v w : View) (a b n : ℕ) : Type 0 where
  pub result : value w.at b n ≡ result_of op n (value v.at b n) (value v.at a n)
  pub numbers : (j : ℕ) → j < n → w.at (b + j) < 256
  pub keeps : Keeps v w b n

digit_is : (v : View) (a n j : ℕ) → 2 ≤ a → HoldsNumbers v → j < n → v.at (a + j) ≡ byte_of (value v.at a n) j
digit_is v a n j some h l = sym (value_digit v.at a n j (held_row v a n some h) l)

bits_combine : (op : Operator) → is_bitwise op ≡ true → (e : Env) (p q : Location) (n a b : ℕ) (v : View)
    → StandsFrom e p n a Own → StandsFrom e q n b Own → IsReadFirst a b n → HoldsNumbers v
    → (value (block e (operate_code op p q n) v).at b n ≡ bitwise op (value v.at b n) (value v.at a n) % 256 ^ n)
    × ((j : ℕ) → j < n → (block e (operate_code op p q n) v).at (b + j) < 256)
    × Keeps v (block e (operate_code op p q n) v) b n
bits_combine op is e p q n a b v sa sb far h =
    let t : BitwiseTo op v a b n (block e (operate_code op p q n) v) = bitwise_holds op is e p q n a b v sa sb far in
    let x = value v.at b n in
    let z = value v.at a n in
    let digits : (j : ℕ) → j < n → (block e (operate_code op p q n) v).at (b + j) ≡ byte_of (bitwise op x z) j =
    λ j l. t.there j l ∙ ap (λ k. bitwise op k (v.at (a + j))) (digit_is v b n j sb.clear h l)
    ∙ ap (bitwise op (byte_of x j)) (digit_is v a n j sa.clear h l) ∙ sym (byte_of_bitwise op x z j) in (
      value_of_bytes (block e (operate_code op p q n) v).at b n (bitwise op x z) digits,
      λ j l. rw (digits j l)
          (byte_below (bitwise op x z) j),
      t.keeps,
    )

combined : (op : Operator) (e : Env) (p q : Location) (n a b : ℕ) (v : View) → StandsFrom e p n a Own
    → StandsFrom e q n b Own → IsReadFirst a b n → HoldsNumbers v
    → Combines op v (block e (operate_code op p q n) v) a b n
combined Sum e p q n a b v sa sb far h =
    let s = sums_are_right e p q n a b v sa sb far h in
    let u = sb.clear in
    record { result = s.1; numbers = λ j l. s.0.bytes (b + j) (omega arith); keeps = s.0.keeps }
combined Difference e p q n a b v sa sb far h =
    let s = differences_are_right e p q n a b v sa sb far h in
    let u = sb.clear in
    record { result = s.1; numbers = λ j l. s.0.bytes (b + j) (omega arith); keeps = s.0.keeps }
combined BitAnd e p q n a b v sa sb far h =
    let s = bits_combine BitAnd refl e p q n a b v sa sb far h in record { result = s.0; numbers = s.1; keeps = s.2 }
combined BitOr e p q n a b v sa sb far h =
    let s = bits_combine BitOr refl e p q n a b v sa sb far h in record { result = s.0; numbers = s.1; keeps = s.2 }
combined BitXor e p q n a b v sa sb far h =
    let s = bits_combine BitXor refl e p q n a b v sa sb far h in record { result = s.0; numbers = s.1; keeps = s.2 }

-- ---- the other way round

-- all bytes are numbers, where those that changed are
held_all : (v w : View) (b n : ℕ) → HoldsNumbers v → ((k : ℕ) → k ≢ 0 → k ≢ 1 → Outside b n k → w.at k ≡ v.at k)
    → ((j : ℕ) → j < n → w.at (b + j) < 256) → HoldsNumbers w
held_all v w b n h f there k some =
    ⊎_elim
    (λ (l : k < b). rw (f k (omega arith) (omega arith) (λ x. absurd (omega arith))) (h k some))
    (λ (l : b ≤ k).
    ⊎_elim
    (λ (m : k < b + n). let e : b + (k - b) ≡ k = omega arith in subst (λ i. w.at i < 256) e (there (k - b) (omega arith)))
    (λ (m : b + n ≤ k). rw (f k (omega arith) (omega arith) (λ x. m)) (h k some))
    (cases_lt k (b + n)))
    (cases_lt k b)

-- what is missing from a difference to p is the difference the other way round
difference_back : (x z p : ℕ) → x < p → z < p → (p - (z + p - x) % p) % p ≡ (x + p - z) % p
difference_back x z p l k =
    ⊎_elim
    (λ (h : z < x).
    let d : z + p - x ≡ 0 * p + (z + p - x) = omega arith in
    let r : (z + p - x) % p ≡ z + p - x = ap (λ t. t % p) d ∙ mod-mul-add 0 p (z + p - x) (omega arith) in
    let f : p - (z + p - x) ≡ 0 * p + (x - z) = omega arith in
    let g : x + p - z ≡ 1 * p + (x - z) = omega arith in
    ap (λ t. (p - t) % p) r ∙ ap (λ t. t % p) f ∙ mod-mul-add 0 p (x - z) (omega arith)
    ∙ sym (ap (λ t. t % p) g ∙ mod-mul-add 1 p (x - z) (omega arith)))
    (λ (h : x ≤ z).
    let d : z + p - x ≡ 1 * p + (z - x) = omega arith in
    let r : (z + p - x) % p ≡ z - x = ap (λ t. t % p) d ∙ mod-mul-add 1 p (z - x) (omega arith) in
    let f : p - (z - x) ≡ x + p - z = omega arith in
    ap (λ t. (p - t) % p) r ∙ ap (λ t. t % p) f)
    (cases_lt z x)

-- n bytes from b are the result, of operands in the n bytes from a and from b, and all else is kept
record Reverses (op : Operator) (v w : View) (a b n : ℕ) : Type 0 where
  result : value w.at b n ≡ result_of op n (value v.at a n) (value v.at b n)
  numbers : (j : ℕ) → j < n → w.at (b + j) < 256
  keeps : Keeps v w b n

reversed : (op : Operator) (e : Env) (p q : Location) (n a b : ℕ) (v : View) → StandsFrom e p n a Own
    → StandsFrom e q n b Own → IsReadFirst a b n → HoldsNumbers v → value v.at a n < 256 ^ n → value v.at b n < 256 ^ n
    → Reverses op v (block e (reversed_code op p q n) v) a b n
reversed Sum e p q n a b v sa sb far h la lb =
    let o = combined Sum e p q n a b v sa sb far h in
    let q : value v.at b n + value v.at a n ≡ value v.at a n + value v.at b n = omega arith in
    record { result = o.result ∙ ap (λ t. t % 256 ^ n) q; numbers = o.numbers; keeps = o.keeps }
reversed BitAnd e p q n a b v sa sb far h la lb =
    let o = combined BitAnd e p q n a b v sa sb far h in
    record { result = o.result ∙ ap (λ t. t % 256 ^ n) (and_comm (value v.at b n) (value v.at a n)); numbers = o.numbers; keeps = o.keeps }
reversed BitOr e p q n a b v sa sb far h la lb =
    let o = combined BitOr e p q n a b v sa sb far h in
    record { result = o.result ∙ ap (λ t. t % 256 ^ n) (or_comm (value v.at b n) (value v.at a n)); numbers = o.numbers; keeps = o.keeps }
reversed BitXor e p q n a b v sa sb far h la lb =
    let o = combined BitXor e p q n a b v sa sb far h in
    record { result = o.result ∙ ap (λ t. t % 256 ^ n) (xor_comm (value v.at b n) (value v.at a n)); numbers = o.numbers; keeps = o.keeps }
reversed Difference e p q n a b v sa sb far h la lb =
    let o = combined Difference e p q n a b v sa sb far h in
    let v1 = block e (operate_code Difference p q n) v in
    let k = negations_are_right e q n b v1 sb (held_all v v1 b n h o.keeps.same o.numbers) in
    rw (block-append e (operate_code Difference p q n) (negation_code q n) v)
    (record {
      result = k.number_is ∙ ap (λ t. (256 ^ n - t) % 256 ^ n) o.result ∙ difference_back (value v.at a n) (value v.at b n) (256 ^ n) la lb;
      numbers = k.numbers;
      keeps = record {
        same = λ i d f r. k.keeps.same i d f r ∙ o.keeps.same i d f r;
        inputs = k.keeps.inputs ∙ o.keeps.inputs;
        safe = k.keeps.safe ∙ o.keeps.safe;
        seen = k.keeps.seen ∙ o.keeps.seen;
      };
    })

-- ---- the low bytes of results

mod_below_power : (x n : ℕ) → x % 256 ^ n < 256 ^ n
mod_below_power x n = mod_below x (256 ^ n) (pow_pos n)

pub result_below : (op : Operator) (n x z : ℕ) → result_of op n x z < 256 ^ n
result_below Sum n x z = mod_below_power (x + z) n
result_below Difference n x z = mod_below_power (x + 256 ^ n - z) n
result_below BitAnd n x z = mod_below_power (bit_and x z) n
result_below BitOr n x z = mod_below_power (bit_or x z) n
result_below BitXor n x z = mod_below_power (bit_xor x z) n

-- x and x modulo m differ by a multiple of m
mod_sum : (x z m : ℕ) → 0 < m → (x % m + z % m) % m ≡ (x + z) % m
mod_sum x z m h =
    let d = div-add-mod' x m in
    let c = div-add-mod' z m in
    let e : x + z ≡ (x / m + z / m) * m + (x % m + z % m) = omega (arith, d, c) in
    sym (ap (λ t. t % m) e ∙ mod_beside (x / m + z / m) m (x % m + z % m) h)

-- the difference of low parts, where k * m bounds what is subtracted
mod_difference : (x z m k : ℕ) → 0 < m → z ≤ k * m → (x % m + m - z % m) % m ≡ (x + k * m - z) % m
mod_difference x z m k h l =
    let d = div-add-mod' x m in
    let c = div-add-mod' z m in
    let r = mod_below z m h in
    ⊎_elim
    (λ (g : z / m < k).
    let e : x + k * m - z ≡ (x / m + (k - z / m - 1)) * m + (x % m + m - z % m) =
    difference (x / m) (x % m) (z / m) (z % m) m k x z d c r g in
    sym (ap (λ t. t % m) e ∙ mod_beside (x / m + (k - z / m - 1)) m (x % m + m - z % m) h))
    (λ (g : k ≤ z / m).
    let low : k * m ≤ z / m * m = mul-le k m (z / m) m g (omega arith) in
    let q : z / m * m ≡ k * m = omega (arith, c, l, low) in
    let zero_rest : z % m ≡ 0 = omega (arith, c, l, low) in
    let e : x + k * m - z ≡ x / m * m + x % m = omega (arith, d, c, q, zero_rest) in
    let f : x % m + m - z % m ≡ 1 * m + x % m = omega (arith, zero_rest) in
    ap (λ t. t % m) f ∙ mod_beside 1 m (x % m) h ∙ sym (ap (λ t. t % m) e ∙ mod_beside (x / m) m (x % m) h))
    (cases_lt (z / m) k)
  where
    difference : (a r b s m k x z : ℕ) → a * m + r ≡ x → b * m + s ≡ z → s < m → b < k
        → x + k * m - z ≡ (a + (k - b - 1)) * m + (r + m - s)
    difference a r b s m k x z d c l g =
        let n = k - b - 1 in
        let f : k ≡ b + 1 + n = omega arith in
        let w : k * m ≡ (b + 1 + n) * m = ap (λ t. t * m) f in
        omega (arith, d, c, w, l)

pub power_of : (n b : ℕ) → n ≤ b → 256 ^ b ≡ 256 ^ (b - n) * 256 ^ n
power_of n b l = let e : b ≡ (b - n) + n = omega arith in ap (λ k. 256 ^ k) e ∙ pow-add 256 (b - n) n

bits_power : (f : ℕ → ℕ → ℕ) → ((x z k : ℕ) → f x z % 2 ^ k ≡ f (x % 2 ^ k) (z % 2 ^ k)) → (n b x z : ℕ) → n ≤ b
    → f (x % 256 ^ n) (z % 256 ^ n) % 256 ^ n ≡ f x z % 256 ^ b % 256 ^ n
bits_power f h n b x z l =
    let q : f x z % 256 ^ n ≡ f (x % 256 ^ n) (z % 256 ^ n) = subst (λ (m : ℕ). f x z % m ≡ f (x % m) (z % m)) (powers n) (h x z (8 * n)) in
    let r : f x z % 256 ^ n % 256 ^ n ≡ f x z % 256 ^ n = mod_less (f x z) n n (omega arith) in
    ap (λ t. t % 256 ^ n) (sym q) ∙ r ∙ sym (mod_less (f x z) n b l)

-- what an operator leaves of n bytes, where its operands' low bytes are given
pub results : (op : Operator) (n b x z : ℕ) → n ≤ b → z ≤ 256 ^ b
    → result_of op n (x % 256 ^ n) (z % 256 ^ n) ≡ result_of op b x z % 256 ^ n
results Sum n b x z l k = mod_sum x z (256 ^ n) (pow_pos n) ∙ sym (mod_less (x + z) n b l)
results Difference n b x z l k =
    let s = power_of n b l in
    let g : z ≤ 256 ^ (b - n) * 256 ^ n = omega (arith, k, s) in
    mod_difference x z (256 ^ n) (256 ^ (b - n)) (pow_pos n) g ∙ ap (λ t. (x + t - z) % 256 ^ n) (sym s)
    ∙ sym (mod_less (x + 256 ^ b - z) n b l)
results BitAnd n b x z l k = bits_power bit_and and_mod n b x z l
results BitOr n b x z l k = bits_power bit_or or_mod n b x z l
results BitXor n b x z l k = bits_power bit_xor xor_mod n b x z l

-- the byte of R30 where numbers from b on and all else are kept
pub work_after : (v1 v2 : View) (b n : ℕ) → HoldsNumbers v1 → ((k : ℕ) → k ≢ 0 → k ≢ 1 → Outside b n k → v2.at k ≡ v1.at k)
    → ((j : ℕ) → j < n → v2.at (b + j) < 256) → v2.at 30 < 256
work_after v1 v2 b n h f there =
    ⊎_elim
    (λ (l : 30 < b). rw (f 30 (omega arith) (omega arith) (λ x. absurd (omega arith))) (h 30 (omega arith)))
    (λ (l : b ≤ 30).
    ⊎_elim
    (λ (m : 30 < b + n). let e : b + (30 - b) ≡ 30 = omega arith in subst (λ i. v2.at i < 256) e (there (30 - b) (omega arith)))
    (λ (m : b + n ≤ 30). rw (f 30 (omega arith) (omega arith) (λ x. m)) (h 30 (omega arith)))
    (cases_lt 30 (b + n)))
    (cases_lt 30 b)

module _ (p : PlainProgram) (e : Env) (slots : ℕ) (home : Temp → Location) (base : Temp → ℕ) (place : ℕ → ℕ)
    (y : Setting p e slots home base place) where
  abbrev N : Need → Mach → View → Type 0
  N need m v = Matches p e y.inputs slots base place y.aside y.stands y.active y.called need m v

  -- the low bytes of a temporary stand at its base
  pub stand : (t : Temp) (n : ℕ) → HasHome slots t → n ≤ t.bytes → StandsFrom e (home t) n (base t) Own
  stand t n it l = stands_less e (home t) t.bytes n (base t) Own l (y.layout.temps_at t it)

  pub constant_matches : (t : Temp) (need : Need) (m : Mach) (v : View) (n : ℤ) (c : ℕ) → HasHome slots t
      → N (without t.at need) m v
      → N need (machine (with_content t (bits (low_bytes t.bytes n)) m.temps) (worked c m.state))
      (block e (put_code (home t) (low_bytes 16 n) (wanted need t)) v)
  constant_matches t need m v n c it z =
      let w = wanted need t in
      let low = low_bytes 16 n in
      let own = low_bytes t.bytes n in
      let most = wanted_most need t in
      let v1 = block e (put_code (home t) low w) v in
      let k =
      y.numbers.put e (home t) low w (base t) v (stand t w it most)
      (narrower (base t) t.bytes w 30 most (work_outside (base t) t.bytes (y.layout.temps_work t it))) in
      let frame : Wide v v1 (base t) w = beside_work v v1 (base t) w (λ i a b d f o. k.same i d f o) in
      written_wide p e slots home base place y t (bits own) need (without t.at need) m (worked c m.state) v v1 it z
      (λ u q. without_other t.at u need q) (wider_wide v v1 (base t) t.bytes w most frame) (
        value_of_bytes v1.at (base t) w low k.there ∙ low_part n w 16 (let room = it.most in omega arith)
            ∙ sym (low_part n w t.bytes most),
        low_below t.bytes n,
      ) (k.bytes z.bytes) refl (k.seen ∙ z.seen)
      (kept_left y.inputs m.state v v1 (k.inputs) z.left) (k.safe ∙ z.safe)

  -- a temporary that was moved holds the content
  moved_content : (v v1 : View) (a b n bytes : ℕ) (c : Content) → Moves v v1 a b n
      → HoldsContent p place v.at a n bytes c → HoldsContent p place v1.at b n bytes c
  moved_content v v1 a b n bytes (bits low) k h = (row_value v1.at v.at a b n k.there ∙ h.0, h.1)
  moved_content v v1 a b n bytes (points q) k h = (row_value v1.at v.at a b n k.there ∙ h.0, h.1)

  pub moved_numbers : (v v1 : View) (a b n : ℕ) → 2 ≤ a → HoldsNumbers v → Moves v v1 a b n → HoldsNumbers v1
  moved_numbers v v1 a b n some h k =
      numbers_kept v v1 b n h k.frame (λ j l. rw (k.there j l) (h (a + j) (omega arith))) k.work

  pub copy_matches : (t u : Temp) (need : Need) (m : Mach) (v : View) (h : Held) (c : ℕ) → HasHome slots t
      → HasHome slots u → t.bytes ≡ u.bytes → m.temps u.at ≡ Some h → h.bytes ≡ u.bytes
      → N (at_least u.at (wanted need t) (without t.at need)) m v
      → N need (machine (with_content t h.content m.temps) (worked c m.state))
      (block e (move_code (home u) (home t) (wanted need t)) v)
  copy_matches t u need m v h c it iu same q w z =
      let n = wanted need t in
      let need0 = at_least u.at n (without t.at need) in
      let most : n ≤ t.bytes = wanted_most need t in
      let less : n ≤ u.bytes = omega arith in
      let v1 = block e (move_code (home u) (home t) n) v in
      let some = (y.layout.temps_at u iu).clear in
      let k =
      move_holds e (home u) (home t) n (base u) (base t) v (stand u n iu less) (stand t n it most)
      (read_first p e slots home base place y t u n it iu less) z.bytes in
      let there = least_here u.at n (without t.at need) in
      let wide : n ≤ wanted need0 u = omega (arith, there, less) in
      let content = at_width p e slots home base place y need0 m v u h n z iu q w wide in
      let here = moved_content v v1 (base u) (base t) n u.bytes h.content k content in
      written p e slots home base place y t h.content need need0 m (worked c m.state) v v1 it z (λ i r. still i r)
      (wider_frame v v1 (base t) t.bytes n most k.frame) (subst (λ b. HoldsContent p place v1.at (base t) n b h.content) (sym same)
      here) (moved_numbers v v1 (base u) (base t) n some z.bytes k) refl (k.quiet.seen ∙ z.seen)
      (kept_left y.inputs m.state v v1 (k.quiet.inputs) z.left) (k.quiet.safe ∙ z.safe)
    where
      still : (i : ℕ) → i ≢ t.at → need i ≤ at_least u.at (wanted need t) (without t.at need) i
      still i r =
          let a = without_other t.at i need r in
          let b = least_other u.at (wanted need t) i (without t.at need) in
          omega arith

  plain_matches : (op : Operator) (t a b : Temp) (need : Need) (m : Mach) (v : View) (c x z : ℕ)
      → HasHome slots t → HasHome slots a → HasHome slots b → a.bytes ≡ t.bytes → b.bytes ≡ t.bytes → t.at ≢ b.at
      → m.temps a.at ≡ Some (record { bytes = a.bytes; content = bits x })
      → m.temps b.at ≡ Some (record { bytes = b.bytes; content = bits z })
      → N (at_least a.at (wanted need t) (at_least b.at (wanted need t) (without t.at need))) m v
      → N need (machine (with_content t (bits (result_of op t.bytes x z)) m.temps) (worked c m.state))
      (block e (move_code (home a) (home t) (wanted need t) ++ operate_code op (home b) (home t) (wanted need t)) v)
  plain_matches op t a b need m v c x z it ia ib sa sb other qa qb h =
      let n = wanted need t in
      let need1 = at_least b.at n (without t.at need) in
      let need0 = at_least a.at n need1 in
      let most : n ≤ t.bytes = wanted_most need t in
      let less_a : n ≤ a.bytes = omega arith in
      let less_b : n ≤ b.bytes = omega arith in
      let some_a = (y.layout.temps_at a ia).clear in
      let some_b = (y.layout.temps_at b ib).clear in
      let here_a = least_here a.at n need1 in
      let here_b = least_here b.at n (without t.at need) in
      let also_b = least_other a.at n b.at need1 in
      let wide_a : n ≤ wanted need0 a = omega (arith, here_a, less_a) in
      let wide_b : n ≤ wanted need0 b = omega (arith, here_b, also_b, less_b) in
      let xa = at_width p e slots home base place y need0 m v a _ n h ia qa refl wide_a in
      let xb = at_width p e slots home base place y need0 m v b _ n h ib qb refl wide_b in
      let v1 = block e (move_code (home a) (home t) n) v in
      let k =
      move_holds e (home a) (home t) n (base a) (base t) v (stand a n ia less_a) (stand t n it most)
      (read_first p e slots home base place y t a n it ia less_a) h.bytes in
      let numbers1 = moved_numbers v v1 (base a) (base t) n some_a h.bytes k in
      let frame1 = wider_frame v v1 (base t) t.bytes n most k.frame in
      let v2 = block e (operate_code op (home b) (home t) n) v1 in
      let o =
      combined op e (home b) (home t) n (base b) (base t) v1 (stand b n ib less_b) (stand t n it most)
      (read_first p e slots home base place y t b n it ib less_b) numbers1 in
      let left : value v1.at (base t) n ≡ x % 256 ^ n = row_value v1.at v.at (base a) (base t) n k.there ∙ xa.0 in
      let row : (j : ℕ) → j < n → v1.at (base b + j) ≡ v.at (base b + j) =
      λ j l. row_kept v v1 (base t) t.bytes (base b) b.bytes some_b (work_outside (base b) b.bytes (y.layout.temps_work b ib))
      (y.layout.temps_apart t b it ib other) frame1 j (omega arith) in
      let right : value v1.at (base b) n ≡ z % 256 ^ n = value-same v1.at v.at (base b) n row ∙ xb.0 in
      let result : value v2.at (base t) n ≡ result_of op t.bytes x z % 256 ^ n =
      o.result ∙ ap (λ i. result_of op n i (value v1.at (base b) n)) left ∙ ap (result_of op n (x % 256 ^ n)) right
      ∙ results op n t.bytes x z most
      (let l = xb.1 in let s : 256 ^ b.bytes ≡ 256 ^ t.bytes = ap (λ i. 256 ^ i) sb in omega (arith, l, s)) in
      let frame2 : Frame v1 v2 (base t) n = λ i d f g r. o.keeps.same i d f r in
      let frame : Frame v v2 (base t) t.bytes =
      λ i d f g r. wider_frame v1 v2 (base t) t.bytes n most frame2 i d f g r ∙ frame1 i d f g r in
      let work : v2.at 30 < 256 = work_after v1 v2 (base t) n numbers1 o.keeps.same o.numbers in
      let numbers2 = numbers_kept v1 v2 (base t) n numbers1 frame2 o.numbers work in
      rw (block-append e (move_code (home a) (home t) n) (operate_code op (home b) (home t) n) v)
      (written p e slots home base place y t (bits (result_of op t.bytes x z)) need need0 m (worked c m.state) v v2 it h
      (λ i r. still i r) frame (result, result_below op t.bytes x z) numbers2 refl (o.keeps.seen ∙ k.quiet.seen ∙ h.seen)
      (kept_left y.inputs m.state v v2 (o.keeps.inputs ∙ k.quiet.inputs) h.left) (o.keeps.safe ∙ k.quiet.safe ∙ h.safe))
    where
      still : (i : ℕ) → i ≢ t.at → need i ≤ at_least a.at (wanted need t) (at_least b.at (wanted need t) (without t.at need)) i
      still i r =
          let d = without_other t.at i need r in
          let f = least_other b.at (wanted need t) i (without t.at need) in
          let g = least_other a.at (wanted need t) i (at_least b.at (wanted need t) (without t.at need)) in
          omega arith

  -- the second operand stands at the result's place
  reversed_matches : (op : Operator) (t a b : Temp) (need : Need) (m : Mach) (v : View) (c x z : ℕ)
      → HasHome slots t → HasHome slots a → HasHome slots b → a.bytes ≡ t.bytes → b.bytes ≡ t.bytes → base b ≡ base t
      → m.temps a.at ≡ Some (record { bytes = a.bytes; content = bits x })
      → m.temps b.at ≡ Some (record { bytes = b.bytes; content = bits z })
      → N (at_least a.at (wanted need t) (at_least b.at (wanted need t) (without t.at need))) m v
      → N need (machine (with_content t (bits (result_of op t.bytes x z)) m.temps) (worked c m.state))
      (block e (reversed_code op (home a) (home t) (wanted need t)) v)
  reversed_matches op t a b need m v c x z it ia ib sa sb same qa qb h =
      let n = wanted need t in
      let need1 = at_least b.at n (without t.at need) in
      let need0 = at_least a.at n need1 in
      let most : n ≤ t.bytes = wanted_most need t in
      let less_a : n ≤ a.bytes = omega arith in
      let less_b : n ≤ b.bytes = omega arith in
      let here_a = least_here a.at n need1 in
      let here_b = least_here b.at n (without t.at need) in
      let also_b = least_other a.at n b.at need1 in
      let wide_a : n ≤ wanted need0 a = omega (arith, here_a, less_a) in
      let wide_b : n ≤ wanted need0 b = omega (arith, here_b, also_b, less_b) in
      let xa = at_width p e slots home base place y need0 m v a _ n h ia qa refl wide_a in
      let xb = at_width p e slots home base place y need0 m v b _ n h ib qb refl wide_b in
      let left : value v.at (base a) n ≡ x % 256 ^ n = xa.0 in
      let right : value v.at (base t) n ≡ z % 256 ^ n = subst (λ (k : ℕ). value v.at k n ≡ z % 256 ^ n) same xb.0 in
      let la : value v.at (base a) n < 256 ^ n = rw left (mod_below_power x n) in
      let lb : value v.at (base t) n < 256 ^ n = rw right (mod_below_power z n) in
      let v1 = block e (reversed_code op (home a) (home t) n) v in
      let o =
      reversed op e (home a) (home t) n (base a) (base t) v (stand a n ia less_a) (stand t n it most)
      (read_first p e slots home base place y t a n it ia less_a) h.bytes la lb in
      let result : value v1.at (base t) n ≡ result_of op t.bytes x z % 256 ^ n =
      o.result ∙ ap (λ i. result_of op n i (value v.at (base t) n)) left ∙ ap (result_of op n (x % 256 ^ n)) right
      ∙ results op n t.bytes x z most
      (let l = xb.1 in let s : 256 ^ b.bytes ≡ 256 ^ t.bytes = ap (λ i. 256 ^ i) sb in omega (arith, l, s)) in
      let frame1 : Frame v v1 (base t) n = λ i d f g r. o.keeps.same i d f r in
      let frame = wider_frame v v1 (base t) t.bytes n most frame1 in
      let work : v1.at 30 < 256 = work_after v v1 (base t) n h.bytes o.keeps.same o.numbers in
      let numbers1 = numbers_kept v v1 (base t) n h.bytes frame1 o.numbers work in
      written p e slots home base place y t (bits (result_of op t.bytes x z)) need need0 m (worked c m.state) v v1 it h
      (λ i r. still i r) frame (result, result_below op t.bytes x z) numbers1 refl (o.keeps.seen ∙ h.seen)
      (kept_left y.inputs m.state v v1 (o.keeps.inputs) h.left) (o.keeps.safe ∙ h.safe)
    where
      still : (i : ℕ) → i ≢ t.at → need i ≤ at_least a.at (wanted need t) (at_least b.at (wanted need t) (without t.at need)) i
      still i r =
          let d = without_other t.at i need r in
          let f = least_other b.at (wanted need t) i (without t.at need) in
          let g = least_other a.at (wanted need t) i (at_least b.at (wanted need t) (without t.at need)) in
          omega arith

  -- two locations that are the same begin at one address
  same_base : (t b : Temp) → HasHome slots t → HasHome slots b → home b ≡ home t → base b ≡ base t
  same_base t b it ib q =
      let some_t = it.some in
      let some_b = ib.some in
      let x = (y.layout.temps_at b ib).at 0 (omega arith) in
      let z = (y.layout.temps_at t it).at 0 (omega arith) in
      let w = ap (λ (l : Location). address e l 0) q in
      omega (arith, x, z, w)

  same_place : (t b : Temp) → HasHome slots t → HasHome slots b → home b ≡ home t → t.at ≡ b.at
  same_place t b it ib q =
      let s = same_base t b it ib q in
      let some_t = it.some in
      ⊎_elim (λ (e : t.at ≡ b.at). e)
      (λ (d : t.at ≢ b.at). let a = (y.layout.temps_apart t b it ib d).right in absurd (omega (arith, a, s)))
      (equal_or_not t.at b.at)

  one_temp : (t b : Temp) → t.at ≡ b.at → b.bytes ≡ t.bytes → home b ≡ home t
  one_temp t b at bytes = let q : b ≡ t = rw (at, ← bytes) refl in ap home q

  pub binary_matches : (op : Operator) (t a b : Temp) (need : Need) (m : Mach) (v : View) (c x z : ℕ)
      → HasHome slots t → HasHome slots a → HasHome slots b → a.bytes ≡ t.bytes → b.bytes ≡ t.bytes
      → m.temps a.at ≡ Some (record { bytes = a.bytes; content = bits x })
      → m.temps b.at ≡ Some (record { bytes = b.bytes; content = bits z })
      → N (at_least a.at (wanted need t) (at_least b.at (wanted need t) (without t.at need))) m v
      → N need (machine (with_content t (bits (result_of op t.bytes x z)) m.temps) (worked c m.state))
      (block e (combined_code op (home a) (home b) (home t) (wanted need t)) v)
  binary_matches op t a b need m v c x z it ia ib sa sb qa qb h = by_place (same_location (home b) (home t)) refl where
    by_place : (same : Bool) → same_location (home b) (home t) ≡ same
        → N need (machine (with_content t (bits (result_of op t.bytes x z)) m.temps) (worked c m.state))
        (block e (if same then reversed_code op (home a) (home t) (wanted need t)
        else move_code (home a) (home t) (wanted need t) ++ operate_code op (home b) (home t) (wanted need t)) v)
    by_place true q =
        reversed_matches op t a b need m v c x z it ia ib sa sb (same_base t b it ib (location_is (home b) (home t) q)) qa qb h
    by_place false q =
        plain_matches op t a b need m v c x z it ia ib sa sb
        (λ at. let s = location_same (home b) (home t) (one_temp t b at sb) in false≢true (sym q ∙ s)) qa qb h
