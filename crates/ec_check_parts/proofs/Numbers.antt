-- Numbers that are sizes or indices.
use Rattle.std.proofs.Common.{◌≡◌, ◌∙◌, ◌<◌, ◌≤◌, ℕ, Bool, true, false, ◌&&◌, refl, ap, subst, arith}
use Rattle.std.specs.Prelude.{◌↔◌, if◌then◌else◌, ℤ, pos, negsuc, int_le, unsigned_abs, Option, Some, None, Result, Ok, Err}
use Rattle.std.proofs.lemmas.Bool.Decides.{nat_tests}
use Rattle.ec_core.specs.declared.values.Undefined.{Undefined}
use Rattle.ec_core.specs.Plain.{PlainExpr}
use Rattle.ec_core.specs.Typing.{type_of_expr}
use Rattle.ec_check_constants.specs.Constants.{constant}
use Rattle.ec_check_constants.specs.Tests.{is_constant}
use Rattle.ec_check_operands.specs.Operands.{Operand, place, value}
use Rattle.ec_check_operands.specs.Sorts.{is_integer}
use Rattle.ec_check_forms.specs.Constraints.{IsInteger}
use Rattle.ec_check_forms.proofs.Decided.{integers}
use Rattle.ec_check_initialisers.specs.Places.{index_of_number, index_of_operand}
use Rattle.ec_check_initialisers.specs.Sizes.{size_of_number, size_of_operand}
use Rattle.ec_check_meanings.proofs.Options.{inside, nothing_there}
use Rattle.ec_check_parts.specs.Addresses.{IsIndex, an_index}
use Rattle.ec_check_parts.specs.Declared.{IsSize, a_size}

pub few : (n : ℕ) → int_le (pos n) (pos 32_767) ≡ true → n ≤ 32_767
few n q = grind (arith, nat_tests, q)

pub many : (n : ℕ) → int_le (pos n) (pos 32_767) ≡ false → 32_767 < n
many n q = grind (arith, nat_tests, q)

pub none_counted : (n : ℕ) → int_le (pos 1) (pos n) ≡ false → n < 1
none_counted n q = grind (arith, nat_tests, q)

some_counted : (n : ℕ) → int_le (pos 1) (pos n) ≡ true → 1 ≤ n
some_counted n q = grind (arith, nat_tests, q)

same_number : (a n : ℕ) → pos a ≡ pos n → a ≡ n
same_number a n e = ap unsigned_abs e

-- ---- sizes

abbrev pub IsSmall : ℕ → Type 0
IsSmall n = (1 ≤ n) × (n ≤ 32_767)

pub number_sized : (m : ℤ) (n : ℕ) → size_of_number m ≡ Some n ↔ ((m ≡ pos n) × IsSmall n)
number_sized (negsuc a) n = (λ h. absurd (nothing_there n h), λ h. absurd (no_number h.0))
  where
    no_number : negsuc a ≡ pos n → ⊥
    no_number e = cc
number_sized (pos a) n = by (int_le (pos 1) (pos a)) (int_le (pos a) (pos 32_767)) refl refl
  where
    by : (p q : Bool) → int_le (pos 1) (pos a) ≡ p → int_le (pos a) (pos 32_767) ≡ q
        → (if p && q then Some (unsigned_abs (pos a)) else None) ≡ Some n ↔ ((pos a ≡ pos n) × IsSmall n)
    by true true e f = (there, λ h. ap Some (same_number a n h.0))
      where
        there : ◌≡◌ {A = Option ℕ} (Some a) (Some n) → (pos a ≡ pos n) × IsSmall n
        there h =
            let same : a ≡ n = inside h in
            (ap pos same, (subst (λ (z : ℕ). 1 ≤ z) same (some_counted a e), subst (λ (z : ℕ). z ≤ 32_767) same (few a f)))
    by true false e f = (λ h. absurd (nothing_there n h), λ h. absurd (too_many h.0 h.1.1))
      where
        too_many : pos a ≡ pos n → n ≤ 32_767 → ⊥
        too_many q le = let same = same_number a n q in let lt = many a f in omega (arith, same, le, lt)
    by false q e f = (λ h. absurd (nothing_there n h), λ h. absurd (none_at_all h.0 h.1.0))
      where
        none_at_all : pos a ≡ pos n → 1 ≤ n → ⊥
        none_at_all q le = let same = same_number a n q in let lt = none_counted a e in omega (arith, same, le, lt)

-- a value that is known before a run, and the number that a test makes of it
module _ (number : ℤ → Option ℕ) (Fits : ℕ → Type 0) (told : (m : ℤ) (n : ℕ) → number m ≡ Some n ↔ ((m ≡ pos n) × Fits n)) where
  abbrev of_result : Result ℤ Undefined → Option ℕ
  of_result (Ok n) = number n
  of_result (Err u) = None

  abbrev IsKnown : PlainExpr → ℕ → Type 0
  IsKnown e n = (is_integer (type_of_expr e) ≡ true) × (is_constant e ≡ true) × (constant e ≡ Ok (pos n)) × Fits n

  result_is : (r : Result ℤ Undefined) (n : ℕ) → of_result r ≡ Some n → (r ≡ Ok (pos n)) × Fits n
  result_is (Ok m) n h = let g = (told m n).0 h in (ap Ok g.0, g.1)
  result_is (Err u) n h = absurd (nothing_there n h)

  known_is : (e : PlainExpr) (n : ℕ)
      → (if is_integer (type_of_expr e) && is_constant e then of_result (constant e) else None) ≡ Some n ↔ IsKnown e n
  known_is e n = by (is_integer (type_of_expr e)) (is_constant e) refl refl
    where
      by : (p q : Bool) → is_integer (type_of_expr e) ≡ p → is_constant e ≡ q
          → (if p && q then of_result (constant e) else None) ≡ Some n ↔ ((p ≡ true) × (q ≡ true) × (constant e ≡ Ok (pos n)) × Fits n)
      by true true i c = (
        λ h. let g = result_is (constant e) n h in (refl, refl, g.0, g.1),
        λ h. ap of_result h.2 ∙ (told (pos n) n).1 (refl, h.3),
      )
      by true false i c = (λ h. absurd (nothing_there n h), λ h. absurd (wrong h.1))
        where
          wrong : false ≡ true → ⊥
          wrong q = cc
      by false q i c = (λ h. absurd (nothing_there n h), λ h. absurd (wrong h.0))
        where
          wrong : false ≡ true → ⊥
          wrong q = cc

-- what a size is made of
abbrev Sized : Operand → ℕ → Type 0
Sized (place ty konst space register q) n = ⊥
Sized (value e zero) n = IsInteger (type_of_expr e) × (is_constant e ≡ true) × (constant e ≡ Ok (pos n)) × IsSmall n

sized : (x : Operand) (n : ℕ) → IsSize x n → Sized x n
sized _ _ (a_size i c v some most) = (i, c, v, (some, most))

pub size_is : (x : Operand) (n : ℕ) → size_of_operand x ≡ Some n ↔ IsSize x n
size_is (place ty konst space register q) n =
    (λ h. absurd (nothing_there n h), λ h. absurd (sized (place ty konst space register q) n h))
size_is (value e zero) n = (there, back)
  where
    there : size_of_operand (value e zero) ≡ Some n → IsSize (value e zero) n
    there h =
        let g = (known_is size_of_number IsSmall number_sized e n).0 h in
        a_size ((integers (type_of_expr e)).0 g.0) g.1 g.2 g.3.0 g.3.1

    back : IsSize (value e zero) n → size_of_operand (value e zero) ≡ Some n
    back h =
        let g = sized (value e zero) n h in
        (known_is size_of_number IsSmall number_sized e n).1 ((integers (type_of_expr e)).1 g.0, g.1, g.2, g.3)

-- ---- indices

number_indexed : (m : ℤ) (n : ℕ) → index_of_number m ≡ Some n ↔ ((m ≡ pos n) × (n ≤ 32_767))
number_indexed (negsuc a) n = (λ h. absurd (nothing_there n h), λ h. absurd (no_number h.0))
  where
    no_number : negsuc a ≡ pos n → ⊥
    no_number e = cc
number_indexed (pos a) n = by (int_le (pos 0) (pos a)) (int_le (pos a) (pos 32_767)) refl refl
  where
    by : (p q : Bool) → int_le (pos 0) (pos a) ≡ p → int_le (pos a) (pos 32_767) ≡ q
        → (if p && q then Some (unsigned_abs (pos a)) else None) ≡ Some n ↔ ((pos a ≡ pos n) × (n ≤ 32_767))
    by false q e f = absurd (grind (arith, nat_tests, e))
    by true true e f = (there, λ h. ap Some (same_number a n h.0))
      where
        there : ◌≡◌ {A = Option ℕ} (Some a) (Some n) → (pos a ≡ pos n) × (n ≤ 32_767)
        there h = let same : a ≡ n = inside h in (ap pos same, subst (λ (z : ℕ). z ≤ 32_767) same (few a f))
    by true false e f = (λ h. absurd (nothing_there n h), λ h. absurd (too_many h.0 h.1))
      where
        too_many : pos a ≡ pos n → n ≤ 32_767 → ⊥
        too_many q le = let same = same_number a n q in let lt = many a f in omega (arith, same, le, lt)

abbrev IsFew : ℕ → Type 0
IsFew n = n ≤ 32_767

abbrev Indexed : Operand → ℕ → Type 0
Indexed (place ty konst space register q) n = ⊥
Indexed (value e zero) n = IsInteger (type_of_expr e) × (is_constant e ≡ true) × (constant e ≡ Ok (pos n)) × IsFew n

indexed : (x : Operand) (n : ℕ) → IsIndex x n → Indexed x n
indexed _ _ (an_index i c v most) = (i, c, v, most)

pub index_is : (x : Operand) (n : ℕ) → index_of_operand x ≡ Some n ↔ IsIndex x n
index_is (place ty konst space register q) n =
    (λ h. absurd (nothing_there n h), λ h. absurd (indexed (place ty konst space register q) n h))
index_is (value e zero) n = (there, back)
  where
    there : index_of_operand (value e zero) ≡ Some n → IsIndex (value e zero) n
    there h =
        let g = (known_is index_of_number IsFew number_indexed e n).0 h in an_index ((integers (type_of_expr e)).0 g.0) g.1 g.2 g.3

    back : IsIndex (value e zero) n → index_of_operand (value e zero) ≡ Some n
    back h =
        let g = indexed (value e zero) n h in
        (known_is index_of_number IsFew number_indexed e n).1 ((integers (type_of_expr e)).1 g.0, g.1, g.2, g.3)
