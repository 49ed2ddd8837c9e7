-- What is known of a binary operator's result is so.
use Rattle.std.proofs.Common.{◌≡◌, ◌⊎◌, inl, inr, ⊎_elim, ℕ, ◌+◌, ◌-◌, ◌*◌, ◌/◌, ◌%◌, ◌^◌, ◌<◌, ◌≤◌, Bool, true, false, ℤ, pos, negsuc}
use Rattle.std.proofs.Common.{pow-add, pow_pos, div-lt_iff_lt-mul}
use Rattle.std.proofs.Common.{◌&&◌, not, unsigned_abs, bit_and, bit_or, bit_xor}
use Rattle.std.proofs.Common.{Option, Some, None, Result, Ok, Err, refl, sym, ap, ◌∙◌, subst, arith}
use Rattle.std.specs.Prelude.{◌==◌, if◌then◌else◌, nat_le, nat_lt, int_lt}
use Rattle.std.specs.declared.cmp.Ordering.{Ordering}
use Rattle.std.specs.Int.{int_div_euclid}
use Rattle.std.specs.Ordering.{nat_cmp}
use Rattle.std.proofs.Math.Nat.{div-le_self}
use Rattle.std.proofs.lemmas.Bool.{eqb-true, and_parts, or_cases}
use Rattle.std.proofs.lemmas.Bool.Decides.{nat_tests}
use Rattle.std.proofs.lemmas.Nat.{and_le_l, and_le_r, or_lt, xor_lt}
use Rattle.ec_fx.specs.declared.numbers.Mode.{Mode}
use Rattle.ec_fx.specs.Conversions.{order_of}
use Rattle.ec_fx.specs.Numbers.{scaled}
use Rattle.ec_core.specs.declared.expressions.BinOp.{BinOp}
use Rattle.ec_core.specs.declared.expressions.BinOp.TheVariants.{Add, Sub, Shr, And, Or, Xor}
use Rattle.ec_core.specs.declared.expressions.BinOp.TheVariants.{Eq, Ne}
use Rattle.ec_core.specs.declared.values.Referent.{Referent}
use Rattle.ec_core.specs.declared.values.Undefined.{Undefined}
use Rattle.ec_core.specs.declared.values.Undefined.TheVariants.{ShiftCount, Unrelated, PointerUse}
use Rattle.ec_core.specs.declared.values.Value.{Value}
use Rattle.ec_core.specs.declared.values.Value.TheVariants.{Number, Pointer}
use Rattle.ec_core.specs.Accesses.{operand_of}
use Rattle.ec_core.specs.ArithmeticValues.{is_comparison, operand}
use Rattle.ec_core.specs.Integers.{low_bits, from_bits, wrapped, width_of, is_count, right_shift, bitwise, truth, compared, accepts}
use Rattle.ec_core.specs.Operators.{Operand, number_type, as_number, binary_of, binary_result, offset_result}
use Rattle.ec_core.specs.Plain.{PlainType, void, integer, fixed, pointer, array, struct, PlainProgram}
use Rattle.ec_core.specs.Pointers.{Pointer as PointerValue, is_usable, equality, as_truth, ordered, same_instance, compared_pointers}
use Rattle.ec_core.specs.State.{State}
use Rattle.ec_ir.specs.declared.operations.Temp.{Temp}
use Rattle.ec_ir.specs.Temporaries.{Content, bits, points, Held, Temps, low_bytes, content_of, value_of_type}
use Rattle.ec_ir_known.specs.declared.known.KnownNumber.{KnownNumber}
use Rattle.ec_ir_known.specs.Known.{Known, is_wide_type, is_small, is_byte, is_below, is_low, is_low_result, leaves_byte}
use Rattle.ec_ir_known.specs.Known.{byte_in, byte_where, is_any, is_wide, is_filled, is_filled_type, is_count_from, top_count}
use Rattle.ec_ir_known.specs.Known.{operand_number, leaves_top}
use Rattle.ec_ir_known.specs.Laws.{are_bits}
use Rattle.ec_ir_known.proofs.Places.{any_number, holding, IsSo, Knows, byte_so, bytes_left_so}
use Rattle.ec_ir_known.proofs.Converted.{of_type, wrapped_byte, wide_bytes, are_wide, low_of_byte, content_there, is_operand}

-- a value below 256
record IsSmall (v : Value) : Type 0 where
  low : ℕ
  is : v ≡ Number (pos low)
  below : low < 256

abbrev GivesSmall : Result Value Undefined → Type 0
GivesSmall r = (v : Value) → r ≡ Ok v → IsSmall v

small_number : (low : ℕ) → low < 256 → GivesSmall (Ok (Number (pos low)))
small_number low l v e = let is : Number (pos low) ≡ v = cc in record { low = low; is = sym is; below = l }

-- ---- operands

record WideType (ty : PlainType) : Type 0 where
  signed : Bool
  bytes : ℕ
  type : ty ≡ integer signed bytes
  more : (bytes ≡ 2) ⊎ (bytes ≡ 4)

wide_type : (ty : PlainType) → is_wide_type ty ≡ true → WideType ty
wide_type (integer s b) q = record { signed = s; bytes = b; type = refl; more = are_wide b q }
wide_type void q = absurd cc
wide_type (fixed kind saturates) q = absurd cc
wide_type (pointer space const target) q = absurd cc
wide_type (array of len) q = absurd cc
wide_type (struct index) q = absurd cc

-- what stands there where it is known to be below 256
below_there : (o : Option KnownNumber) (bytes low : ℕ) (h : Held) → is_below bytes o ≡ true
    → ((k : KnownNumber) → o ≡ Some k → IsSo k (Some h)) → h.content ≡ bits low → low < 256
below_there None bytes low h q so c = absurd cc
below_there (Some k) bytes low h q so c = by_number k.number refl
  where
    there : are_bits k.number k.width k.bytes (bits low) ≡ true
    there = subst (λ (x : Content). are_bits k.number k.width k.bytes x ≡ true) c
        (and_parts (h.bytes == k.bytes) (are_bits k.number k.width k.bytes h.content) (so k refl)).1

    small : is_small k.number k.width ≡ true
    small = (and_parts (k.bytes == bytes) (is_small k.number k.width) q).1

    by_value : (n : ℤ) → is_byte n ≡ true → low ≡ low_bytes k.bytes n → low < 256
    by_value (pos x) w e =
        let t = (and_parts (not (int_lt (pos x) (pos 0))) (int_lt (pos x) (pos 256)) w).1 in
        let l : x < 256 = grind (arith, nat_tests, t) in
        subst (λ (z : ℕ). z < 256) (sym e) (low_of_byte k.bytes x l)
    by_value (negsuc x) w e = absurd cc

    by_number : (n : Option ℤ) → k.number ≡ n → low < 256
    by_number None e =
        let one : (k.width == 1) ≡ true = subst (λ (x : Option ℤ). is_small x k.width ≡ true) e small in
        let t : nat_lt low 256 ≡ true =
        subst (λ (x : ℕ). nat_lt low (256 ^ x) ≡ true) (eqb-true k.width 1 one)
        (subst (λ (x : Option ℤ). are_bits x k.width k.bytes (bits low) ≡ true) e there) in
        grind (arith, nat_tests, t)
    by_number (Some n) e =
        let t : (low == low_bytes k.bytes n) ≡ true = subst (λ (x : Option ℤ). are_bits x k.width k.bytes (bits low) ≡ true) e there in
        let w : is_byte n ≡ true = subst (λ (x : Option ℤ). is_small x k.width ≡ true) e small in
        by_value n w (eqb-true low (low_bytes k.bytes n) t)

-- a small operand of such a type
record IsLow (ty : PlainType) (x : Value) : Type 0 where
  wide : WideType ty
  small : IsSmall x

low_operand : (program : PlainProgram) (known : Known) (temps : Temps) (a : Temp) (ty : PlainType) (h : Held) (x : Value)
    → Knows known temps → temps a.at ≡ Some h → value_of_type program ty h.content ≡ Ok x → is_low known a ty ≡ true → IsLow ty x
low_operand program known temps a ty h x knows i e q =
    let p = and_parts (is_wide_type ty) (is_below a.bytes (known a.at)) q in
    let w = wide_type ty p.0 in
    record {
      wide = w;
      small = by_content w p.1 (subst (λ (z : PlainType). value_of_type program z h.content ≡ Ok x) w.type e) h.content refl;
    }
  where
    so_there : (k : KnownNumber) → known a.at ≡ Some k → IsSo k (Some h)
    so_there k q = subst (λ (o : Option Held). IsSo k o) i (knows a.at k q)

    by_content : (w : WideType ty) → is_below a.bytes (known a.at) ≡ true → value_of_type program (integer w.signed w.bytes) h.content ≡ Ok x
        → (c : Content) → h.content ≡ c → IsSmall x
    by_content w q e (bits low) c =
        let below = below_there (known a.at) a.bytes low h q so_there c in
        let seen : value_of_type program (integer w.signed w.bytes) h.content ≡ Ok (Number (pos low)) =
        ap (value_of_type program (integer w.signed w.bytes)) c
        ∙ ap (λ (n : ℤ). Ok (Number n)) (wide_bytes w.signed w.bytes low w.more below) in
        small_number low below x (sym seen ∙ e)
    by_content w q e (points p) c =
        let none = ap (value_of_type program (integer w.signed w.bytes)) (sym c) ∙ e in absurd cc

-- ---- counts that leave a top byte alone

-- an operand without a sign, of two or four bytes
record IsFilled (a : Temp) (ty : PlainType) (x : Value) : Type 0 where
  type : ty ≡ integer false a.bytes
  more : (a.bytes ≡ 2) ⊎ (a.bytes ≡ 4)
  low : ℕ
  is : x ≡ Number (pos low)
  below : low < 256 ^ a.bytes

-- a count of at least so much
record IsCountFrom (least : ℕ) (ty : PlainType) (y : Value) : Type 0 where
  wide : WideType ty
  count : ℕ
  is : y ≡ Number (pos count)
  most : least ≤ count

filled_there : (o : Option KnownNumber) (bytes low : ℕ) (h : Held) → is_filled bytes o ≡ true
    → ((k : KnownNumber) → o ≡ Some k → IsSo k (Some h)) → h.content ≡ bits low → low < 256 ^ bytes
filled_there None bytes low h q so c = absurd cc
filled_there (Some k) bytes low h q so c = by_number k.number refl
  where
    there : are_bits k.number k.width k.bytes (bits low) ≡ true
    there = subst (λ (x : Content). are_bits k.number k.width k.bytes x ≡ true) c
        (and_parts (h.bytes == k.bytes) (are_bits k.number k.width k.bytes h.content) (so k refl)).1

    any : is_any k.number k.width bytes ≡ true
    any = (and_parts (k.bytes == bytes) (is_any k.number k.width bytes) q).1

    by_number : (n : Option ℤ) → k.number ≡ n → low < 256 ^ bytes
    by_number None e =
        let all : (k.width == bytes) ≡ true = subst (λ (x : Option ℤ). is_any x k.width bytes ≡ true) e any in
        let t : nat_lt low (256 ^ bytes) ≡ true =
        subst (λ (x : ℕ). nat_lt low (256 ^ x) ≡ true) (eqb-true k.width bytes all)
        (subst (λ (x : Option ℤ). are_bits x k.width k.bytes (bits low) ≡ true) e there) in
        grind (arith, nat_tests, t)
    by_number (Some n) e =
        let no : is_any (Some n) k.width bytes ≡ true = subst (λ (x : Option ℤ). is_any x k.width bytes ≡ true) e any in absurd cc

module _ (program : PlainProgram) (known : Known) (temps : Temps) (a : Temp) (h : Held) (x : Value) (knows : Knows known temps)
    (i : temps a.at ≡ Some h) where
  held_so : (k : KnownNumber) → known a.at ≡ Some k → IsSo k (Some h)
  held_so k q = subst (λ (o : Option Held). IsSo k o) i (knows a.at k q)

  filled_operand : (ty : PlainType) → value_of_type program ty h.content ≡ Ok x → is_filled_type known a ty ≡ true → IsFilled a ty x
  filled_operand (integer true b) e q = absurd cc
  filled_operand (integer false b) e q = by_content h.content refl
    where
      p : (is_wide b ≡ true) × ((a.bytes == b && is_filled b (known a.at)) ≡ true)
      p = and_parts (is_wide b) (a.bytes == b && is_filled b (known a.at)) q

      parts : ((a.bytes == b) ≡ true) × (is_filled b (known a.at) ≡ true)
      parts = and_parts (a.bytes == b) (is_filled b (known a.at)) p.1

      size : b ≡ a.bytes
      size = sym (eqb-true a.bytes b parts.0)

      by_content : (c : Content) → h.content ≡ c → IsFilled a (integer false b) x
      by_content (bits low) c =
          let below = filled_there (known a.at) b low h parts.1 held_so c in
          let both : Ok (Number (pos low)) ≡ Ok x = sym (ap (value_of_type program (integer false b)) c) ∙ e in
          let is : Number (pos low) ≡ x = cc in
          record {
            type = ap (integer false) size;
            more = subst (λ (n : ℕ). (n ≡ 2) ⊎ (n ≡ 4)) size (are_wide b p.0);
            low = low;
            is = sym is;
            below = subst (λ (n : ℕ). low < 256 ^ n) size below;
          }
      by_content (points z) c =
          let none = ap (value_of_type program (integer false b)) (sym c) ∙ e in absurd cc
  filled_operand void e q = absurd cc
  filled_operand (fixed kind saturates) e q = absurd cc
  filled_operand (pointer space const target) e q = absurd cc
  filled_operand (array of len) e q = absurd cc
  filled_operand (struct index) e q = absurd cc

  -- a known count below 256, as an operand of two or four bytes
  module _ (least : ℕ) (w : (ty : PlainType) → is_wide_type ty ≡ true → WideType ty) where
    count_there : (s : Bool) (b : ℕ) → value_of_type program (integer s b) h.content ≡ Ok x → is_wide b ≡ true
        → (o : Option ℤ) → operand_number known a (integer s b) ≡ o → is_count_from least o ≡ true → IsCountFrom least (integer s b) x
    count_there s b e q None f r = absurd cc
    count_there s b e q (Some (negsuc n)) f r = absurd cc
    count_there s b e q (Some (pos n)) f r =
        let o = is_operand a s b known (pos n) f in
        let content = content_there b o.width (pos n) h (held_so _ o.operand) in
        let both = and_parts (is_byte (pos n)) (not (int_lt (pos n) (pos least))) r in
        let t = (and_parts (not (int_lt (pos n) (pos 0))) (int_lt (pos n) (pos 256)) both.0).1 in
        let l : n < 256 = grind (arith, nat_tests, t) in
        let u = both.1 in
        let from : least ≤ n = grind (arith, nat_tests, u) in
        let more = are_wide b q in
        let same : low_bytes b (pos n) ≡ n = small_low b n more l in
        let seen : value_of_type program (integer s b) h.content ≡ Ok (Number (pos n)) =
        ap (value_of_type program (integer s b)) (content ∙ ap bits same)
        ∙ ap (λ (z : ℤ). Ok (Number z)) (wide_bytes s b n more l) in
        let both_are : Ok (Number (pos n)) ≡ Ok x = sym seen ∙ e in
        let is : Number (pos n) ≡ x = cc in
        record { wide = w (integer s b) q; count = n; is = sym is; most = from }
      where
        small_low : (b n : ℕ) → (b ≡ 2) ⊎ (b ≡ 4) → n < 256 → low_bytes b (pos n) ≡ n
        small_low b n (inl q) l = rw q (omega (arith, l))
        small_low b n (inr q) l = rw q (omega (arith, l))

  count_operand : (least : ℕ) (ty : PlainType) → value_of_type program ty h.content ≡ Ok x → is_wide_type ty ≡ true
      → is_count_from least (operand_number known a ty) ≡ true → IsCountFrom least ty x
  count_operand least (integer s b) e q r = count_there least wide_type s b e q (operand_number known a (integer s b)) refl r
  count_operand least void e q r = absurd cc
  count_operand least (fixed kind saturates) e q r = absurd cc
  count_operand least (pointer space const target) e q r = absurd cc
  count_operand least (array of len) e q r = absurd cc
  count_operand least (struct index) e q r = absurd cc

-- what such a count leaves of a number
few_left : (x b c : ℕ) → (b ≡ 2) ⊎ (b ≡ 4) → x < 256 ^ b → top_count b ≤ c → x / 2 ^ c < 256
few_left x b c (inl q) l m =
    let m1 : 8 ≤ c = subst (λ (z : ℕ). top_count z ≤ c) q m in
    let l1 : x < 65536 = subst (λ (z : ℕ). x < 256 ^ z) q l in
    let p = 2 ^ (c - 8) in
    let some : 0 < p = pow_pos (c - 8) in
    let is : c ≡ (c - 8) + 8 = omega (arith, m1) in
    let e : 2 ^ c ≡ p * 256 = ap (λ (z : ℕ). 2 ^ z) is ∙ pow-add 2 (c - 8) 8 in
    let least : 256 ≤ p * 256 = omega (arith, some) in
    let least2 : 256 * 256 ≤ 256 * (p * 256) = omega (arith, least) in
    subst (λ (z : ℕ). x / z < 256) (sym e) ((div-lt_iff_lt-mul (omega (arith, least))).1 (omega (arith, l1, least2)))
few_left x b c (inr q) l m =
    let m1 : 24 ≤ c = subst (λ (z : ℕ). top_count z ≤ c) q m in
    let l1 : x < 4294967296 = subst (λ (z : ℕ). x < 256 ^ z) q l in
    let p = 2 ^ (c - 24) in
    let some : 0 < p = pow_pos (c - 24) in
    let is : c ≡ (c - 24) + 24 = omega (arith, m1) in
    let e : 2 ^ c ≡ p * 16777216 = ap (λ (z : ℕ). 2 ^ z) is ∙ pow-add 2 (c - 24) 24 in
    let least : 16777216 ≤ p * 16777216 = omega (arith, some) in
    let least2 : 256 * 16777216 ≤ 256 * (p * 16777216) = omega (arith, least) in
    subst (λ (z : ℕ). x / z < 256) (sym e) ((div-lt_iff_lt-mul (omega (arith, least))).1 (omega (arith, l1, least2)))

-- ---- comparisons

number_small : (b : Bool) → GivesSmall (as_number (Ok (truth b)))
number_small true = small_number 1 (omega arith)
number_small false = small_number 0 (omega arith)

truth_small : (f : Bool → Bool) (r : Result Bool Undefined) → GivesSmall (as_number (as_truth f r))
truth_small f (Ok b) = number_small (f b)
truth_small f (Err point) = λ v e. absurd cc

ordered_small : (op : BinOp) (p q : PointerValue) → GivesSmall (as_number (ordered op p q))
ordered_small op None q = λ v e. absurd cc
ordered_small op (Some p) None = λ v e. absurd cc
ordered_small op (Some p) (Some q) = by_instance (same_instance p q) (nat_cmp p.offset q.offset)
  where
    by_instance : (b : Bool) (o : Ordering) → GivesSmall (as_number (if b then compared op o else Err Unrelated))
    by_instance true o = number_small (accepts op o)
    by_instance false o = λ v e. absurd cc

pointers_small : (op : BinOp) (p : PointerValue) (of : Referent) (q : PointerValue) (into : Referent)
    → GivesSmall (as_number (compared_pointers op p of q into))
pointers_small Eq p of q into = truth_small (λ b. b) (equality p of q into)
pointers_small Ne p of q into = truth_small not (equality p of q into)
pointers_small op p of q into = ordered_small op p q

offset_small : (op : BinOp) → is_comparison op ≡ true → (a : Operand) (p : PointerValue) (n : ℤ) → GivesSmall (offset_result op a p n)
offset_small Add h a p n = absurd cc
offset_small Sub h a p n = absurd cc
offset_small op h a p n = λ v e. absurd cc

compared_small : (op : BinOp) → is_comparison op ≡ true → (ty : PlainType) (mode : Mode) (a : Operand) (x : Value) (b : Operand) (y : Value)
    → GivesSmall (binary_of op ty mode a x b y)
compared_small op h ty mode a (Number m) b (Number n) = rw h (number_small (accepts op (order_of (operand (number_type a.ty) m) (operand (number_type b.ty) n))))
compared_small op h ty mode a (Pointer p) b (Number n) = offset_small op h a p n
compared_small op h ty mode a (Number m) b (Pointer q) = offset_small op h b q m
compared_small op h ty mode a (Pointer p) b (Pointer q) = rw h (by_use (is_usable p a.of && is_usable q b.of))
  where
    by_use : (u : Bool) → GivesSmall (as_number (if u then compared_pointers op p a.of q b.of else Err PointerUse))
    by_use true = pointers_small op p a.of q b.of
    by_use false = λ v e. absurd cc

-- ---- bits, and shifts to the right

low_bits_small : (s : Bool) (b low : ℕ) → (b ≡ 2) ⊎ (b ≡ 4) → low < 256 → low_bits (of_type s b) (pos low) < 256
low_bits_small s b low more l = let m : low % 2 ^ (8 * b) ≤ low = omega arith in omega (arith, m, l)

from_small : (s : Bool) (b low : ℕ) → (b ≡ 2) ⊎ (b ≡ 4) → low < 256 → from_bits (of_type s b) low ≡ pos low
from_small s b low (inl q) l = rw q (two s)
  where
    small : nat_le 65536 (2 * low) ≡ false
    small = grind (arith, nat_tests, l)

    two : (s : Bool) → from_bits (of_type s 2) low ≡ pos low
    two true = rw small refl
    two false = refl
from_small s b low (inr q) l = rw q (four s)
  where
    small : nat_le 4294967296 (2 * low) ≡ false
    small = grind (arith, nat_tests, l)

    four : (s : Bool) → from_bits (of_type s 4) low ≡ pos low
    four true = rw small refl
    four false = refl

bits_small : (s : Bool) (b low : ℕ) → (b ≡ 2) ⊎ (b ≡ 4) → low < 256 → GivesSmall (Ok (Number (from_bits (of_type s b) low)))
bits_small s b low more l =
    subst (λ (n : ℤ). GivesSmall (Ok (Number n))) (sym (from_small s b low more l)) (small_number low l)

module _ (s : Bool) (b : ℕ) (more : (b ≡ 2) ⊎ (b ≡ 4)) where
  abbrev both_bits : (ℕ → ℕ → ℕ) → ℤ → ℤ → Result Value Undefined
  both_bits f m n = Ok (Number (bitwise f (of_type s b) m n))

  and_left : (l : ℕ) (n : ℤ) → l < 256 → GivesSmall (both_bits bit_and (pos l) n)
  and_left l n h =
      let a = and_le_l (low_bits (of_type s b) (pos l)) (low_bits (of_type s b) n) in
      let z = low_bits_small s b l more h in
      bits_small s b (bit_and (low_bits (of_type s b) (pos l)) (low_bits (of_type s b) n)) more (omega (arith, a, z))

  and_right : (m : ℤ) (l : ℕ) → l < 256 → GivesSmall (both_bits bit_and m (pos l))
  and_right m l h =
      let a = and_le_r (low_bits (of_type s b) m) (low_bits (of_type s b) (pos l)) in
      let z = low_bits_small s b l more h in
      bits_small s b (bit_and (low_bits (of_type s b) m) (low_bits (of_type s b) (pos l))) more (omega (arith, a, z))

  or_both : (l r : ℕ) → l < 256 → r < 256 → GivesSmall (both_bits bit_or (pos l) (pos r))
  or_both l r h k =
      bits_small s b (bit_or (low_bits (of_type s b) (pos l)) (low_bits (of_type s b) (pos r))) more
      (or_lt 8 (low_bits (of_type s b) (pos l)) (low_bits (of_type s b) (pos r)) (low_bits_small s b l more h) (low_bits_small s b r more k))

  xor_both : (l r : ℕ) → l < 256 → r < 256 → GivesSmall (both_bits bit_xor (pos l) (pos r))
  xor_both l r h k =
      bits_small s b (bit_xor (low_bits (of_type s b) (pos l)) (low_bits (of_type s b) (pos r))) more
      (xor_lt 8 (low_bits (of_type s b) (pos l)) (low_bits (of_type s b) (pos r)) (low_bits_small s b l more h) (low_bits_small s b r more k))

  shifted : (l : ℕ) (n : ℤ) → l < 256 → GivesSmall (as_number (right_shift (of_type s b) (pos l) n))
  shifted l n h = by_count (is_count (width_of (of_type s b)) n)
    where
      d : ℕ
      d = 2 ^ unsigned_abs n

      by_count : (c : Bool)
          → GivesSmall (as_number (if c then Ok (wrapped (of_type s b) (int_div_euclid (pos l) (pos d))) else Err ShiftCount))
      by_count true =
          let q = div-le_self l d in
          let m : l / d < 256 = omega (arith, q, h) in
          subst (λ (z : ℤ). GivesSmall (Ok (Number z))) (sym (wrapped_byte s b (l / d) more m)) (small_number (l / d) m)
      by_count false = λ v e. absurd cc

  topped : (l c : ℕ) → l / 2 ^ c < 256 → GivesSmall (as_number (right_shift (of_type s b) (pos l) (pos c)))
  topped l c m = by_count (is_count (width_of (of_type s b)) (pos c))
    where
      by_count : (t : Bool)
          → GivesSmall (as_number (if t then Ok (wrapped (of_type s b) (int_div_euclid (pos l) (pos (2 ^ c)))) else Err ShiftCount))
      by_count true =
          subst (λ (z : ℤ). GivesSmall (Ok (Number z))) (sym (wrapped_byte s b (l / 2 ^ c) more m)) (small_number (l / 2 ^ c) m)
      by_count false = λ v e. absurd cc

  -- an operand of an integer type as it stands
  low_scaled : (ty : PlainType) (x : Value) (i : IsLow ty x) → scaled (operand (number_type ty) (pos i.small.low)) ≡ pos i.small.low
  low_scaled ty x i = ap (λ (z : PlainType). scaled (operand (number_type z) (pos i.small.low))) i.wide.type

  module _ (mode : Mode) (a c : Operand) where
    abbrev Gives : BinOp → Value → Value → Type 0
    Gives op x y = GivesSmall (binary_of op (integer s b) mode a x c y)

    of_first : (op : BinOp) (x y : Value) (i : IsLow a.ty x) → Gives op (Number (pos i.small.low)) y → Gives op x y
    of_first op x y i h = subst (λ (z : Value). Gives op z y) (sym i.small.is) h

    of_second : (op : BinOp) (x y : Value) (i : IsLow c.ty y) → Gives op x (Number (pos i.small.low)) → Gives op x y
    of_second op x y i h = subst (λ (z : Value). Gives op x z) (sym i.small.is) h

    and_first : (x y : Value) → IsLow a.ty x → Gives And x y
    and_first x y i = of_first And x y i (by_other y)
      where
        by_other : (y : Value) → Gives And (Number (pos i.small.low)) y
        by_other (Number n) =
            let m = scaled (operand (number_type c.ty) n) in
            subst (λ (z : ℤ). GivesSmall (both_bits bit_and z m)) (sym (low_scaled a.ty x i)) (and_left i.small.low m i.small.below)
        by_other (Pointer q) = λ v e. absurd cc

    and_second : (x y : Value) → IsLow c.ty y → Gives And x y
    and_second x y i = of_second And x y i (by_other x)
      where
        by_other : (x : Value) → Gives And x (Number (pos i.small.low))
        by_other (Number n) =
            let m = scaled (operand (number_type a.ty) n) in
            subst (λ (z : ℤ). GivesSmall (both_bits bit_and m z)) (sym (low_scaled c.ty y i)) (and_right m i.small.low i.small.below)
        by_other (Pointer q) = λ v e. absurd cc

    of_both : (op : BinOp) (f : ℕ → ℕ → ℕ) (x y : Value) (i : IsLow a.ty x) (j : IsLow c.ty y)
        → (both_bits f (scaled (operand (number_type a.ty) (pos i.small.low))) (scaled (operand (number_type c.ty) (pos j.small.low)))
        ≡ binary_of op (integer s b) mode a (Number (pos i.small.low)) c (Number (pos j.small.low)))
        → GivesSmall (both_bits f (pos i.small.low) (pos j.small.low)) → Gives op x y
    of_both op f x y i j is h =
        of_first op x y i (of_second op (Number (pos i.small.low)) y j
        (subst GivesSmall is
        (subst (λ (z : ℤ). GivesSmall (both_bits f z (scaled (operand (number_type c.ty) (pos j.small.low)))))
        (sym (low_scaled a.ty x i))
        (subst (λ (z : ℤ). GivesSmall (both_bits f (pos i.small.low) z)) (sym (low_scaled c.ty y j)) h))))

    shift_first : (x y : Value) → IsLow a.ty x → Gives Shr x y
    shift_first x y i = of_first Shr x y i (by_other y)
      where
        by_other : (y : Value) → Gives Shr (Number (pos i.small.low)) y
        by_other (Number n) =
            let m = scaled (operand (number_type c.ty) n) in
            subst (λ (z : ℤ). GivesSmall (as_number (right_shift (of_type s b) z m))) (sym (low_scaled a.ty x i))
            (shifted i.small.low m i.small.below)
        by_other (Pointer q) = λ v e. absurd cc

    -- of the first operand so many bytes are there
    shift_top : (x y : Value) (t : Temp) (i : IsFilled t a.ty x) (j : IsCountFrom (top_count t.bytes) c.ty y) → Gives Shr x y
    shift_top x y t i j =
        subst (λ (z : Value). Gives Shr z y) (sym i.is)
        (subst (λ (z : Value). Gives Shr (Number (pos i.low)) z) (sym j.is)
        (subst (λ (z : ℤ). GivesSmall (as_number (right_shift (of_type s b) z (scaled (operand (number_type c.ty) (pos j.count))))))
        (sym (ap (λ (z : PlainType). scaled (operand (number_type z) (pos i.low))) i.type))
        (subst (λ (z : ℤ). GivesSmall (as_number (right_shift (of_type s b) (pos i.low) z)))
        (sym (ap (λ (z : PlainType). scaled (operand (number_type z) (pos j.count))) j.wide.type))
        (topped i.low j.count (few_left i.low t.bytes j.count i.more i.below j.most)))))

    low_small : (op : BinOp) (x y : Value) (left right top : Bool) (t : Temp) → is_low_result op left right top ≡ true
        → (left ≡ true → IsLow a.ty x) → (right ≡ true → IsLow c.ty y)
        → (top ≡ true → IsFilled t a.ty x × IsCountFrom (top_count t.bytes) c.ty y) → Gives op x y
    low_small And x y left right top u q f g w =
        ⊎_elim (λ (t : left ≡ true). and_first x y (f t)) (λ (t : right ≡ true). and_second x y (g t)) (or_cases left right q)
    low_small Or x y left right top u q f g w =
        let t = and_parts left right q in
        let i = f t.0 in
        let j = g t.1 in
        of_both Or bit_or x y i j refl (or_both i.small.low j.small.low i.small.below j.small.below)
    low_small Xor x y left right top u q f g w =
        let t = and_parts left right q in
        let i = f t.0 in
        let j = g t.1 in
        of_both Xor bit_xor x y i j refl (xor_both i.small.low j.small.low i.small.below j.small.below)
    low_small Shr x y left right top u q f g w =
        ⊎_elim (λ (t : left ≡ true). shift_first x y (f t))
        (λ (t : top ≡ true). let both = w t in shift_top x y u both.0 both.1) (or_cases left top q)
    low_small op x y left right top u q f g w = absurd cc

-- ---- what a binary operator leaves

module _ (program : PlainProgram) (to a b : Temp) (mode : Mode) (known : Known) (temps : Temps) (h1 h2 : Held) (x y v : Value) (s : State)
    (k : KnownNumber) (knows : Knows known temps) (i : temps a.at ≡ Some h1) (j : temps b.at ≡ Some h2) where
  abbrev Left : Type 0
  Left = IsSo k (Some (holding to.bytes (content_of to.bytes v)))

  small_left : IsSmall v → byte_in to ≡ Some k → Left
  small_left m g =
      let fact_is : any_number to.bytes 1 ≡ k = cc in
      subst (λ (z : KnownNumber). IsSo z (Some (holding to.bytes (content_of to.bytes v)))) fact_is
      (subst (λ (z : Value). IsSo (any_number to.bytes 1) (Some (holding to.bytes (content_of to.bytes z)))) (sym m.is)
      (byte_so to.bytes (low_bytes to.bytes (pos m.low)) (low_of_byte to.bytes m.low m.below)))

  pub binary_left : (op : BinOp) (ty aty bty : PlainType) → value_of_type program aty h1.content ≡ Ok x
      → value_of_type program bty h2.content ≡ Ok y
      → binary_result op ty mode (operand_of program aty x s) (operand_of program bty y s) ≡ Ok v
      → byte_where to (leaves_byte op ty (is_low known a aty) (is_low known b bty) (leaves_top known a aty b bty)) ≡ Some k → Left
  binary_left op ty aty bty e f w g =
      by_byte (leaves_byte op ty (is_low known a aty) (is_low known b bty) (leaves_top known a aty b bty)) refl g
    where
      p : Operand
      p = operand_of program aty x s

      q : Operand
      q = operand_of program bty y s

      left_top : Bool
      left_top = leaves_top known a aty b bty

      by_top : left_top ≡ true → IsFilled a aty x × IsCountFrom (top_count a.bytes) bty y
      by_top t =
          let p = and_parts (is_filled_type known a aty)
          (is_wide_type bty && is_count_from (top_count a.bytes) (operand_number known b bty)) t in
          let z = and_parts (is_wide_type bty) (is_count_from (top_count a.bytes) (operand_number known b bty)) p.1 in (
            filled_operand program known temps a h1 x knows i aty e p.0,
            count_operand program known temps b h2 y knows j (top_count a.bytes) bty f z.0 z.1,
          )

      low : is_wide_type ty ≡ true → is_low_result op (is_low known a aty) (is_low known b bty) left_top ≡ true → IsSmall v
      low t r =
          let u = wide_type ty t in
          low_small u.signed u.bytes u.more mode p q op x y (is_low known a aty) (is_low known b bty) left_top a r
          (λ l. low_operand program known temps a aty h1 x knows i e l) (λ l. low_operand program known temps b bty h2 y knows j f l)
          by_top
          v (subst (λ (z : PlainType). binary_of op z mode p x q y ≡ Ok v) u.type w)

      by_byte : (c : Bool) → leaves_byte op ty (is_low known a aty) (is_low known b bty) left_top ≡ c → byte_where to c ≡ Some k → Left
      by_byte true t g =
          small_left
          (⊎_elim (λ (r : is_comparison op ≡ true). compared_small op r ty mode p x q y v w)
          (λ (r : (is_wide_type ty && is_low_result op (is_low known a aty) (is_low known b bty) left_top) ≡ true).
          let parts = and_parts (is_wide_type ty) (is_low_result op (is_low known a aty) (is_low known b bty) left_top) r in
          low parts.0 parts.1)
          (or_cases (is_comparison op) (is_wide_type ty && is_low_result op (is_low known a aty) (is_low known b bty) left_top) t)) g
      by_byte false t g = bytes_left_so to v k g
