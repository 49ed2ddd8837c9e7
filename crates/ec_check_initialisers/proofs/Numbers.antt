-- A size is the value of a constant expression.
use Rattle.std.proofs.Common.{◌≡◌, ◌∙◌, ℕ, ◌≤◌, ℤ, pos, negsuc, refl, ap, Bool, true, false, ◌&&◌, if◌then◌else◌, Option, Some, None}
use Rattle.std.proofs.Common.{Result, Ok, Err, unsigned_abs, int_le, arith}
use Rattle.std.proofs.lemmas.Int.{ints}
use Rattle.ec_grammar.specs.Trees as t
use Rattle.ec_core.specs.declared.values.Undefined.{Undefined}
use Rattle.ec_core.specs.Plain.{PlainExpr}
use Rattle.ec_core.specs.Typing.{type_of_expr}
use Rattle.ec_check_constants.specs.Constants.{constant}
use Rattle.ec_check_initialisers.specs.Forms.{is_constant_conditional}
use Rattle.ec_check_constants.specs.Laws.{TestsTellConstants}
use Rattle.ec_check_constants.specs.Tests.{is_constant}
use Rattle.ec_check_operands.specs.Operands.{Operand, place, value, value_type, with_one}
use Rattle.ec_check_operands.specs.Sorts.{is_integer, is_void}
use Rattle.ec_check_forms.specs.Nodes.{used}
use Rattle.ec_check_expressions.specs.Expressions.{of_conditional}
use Rattle.ec_check_expressions.specs.Known.{Known}
use Rattle.ec_check_initialisers.specs.Laws.{IsSize, SizesAreValues}
use Rattle.ec_check_initialisers.specs.Sizes.{size_of_result, size_of_operand}

-- a number that is a size
record IsSmall (m : ℤ) (n : ℕ) : Type 0 where
  pub same : m ≡ pos n
  pub some : 1 ≤ n
  pub most : n ≤ 32_767

small_of : (b : Bool) (m : ℤ) (n : ℕ) → (int_le (pos 1) m && int_le m (pos 32_767)) ≡ b
    → (if b then Some (unsigned_abs m) else None) ≡ Some n → IsSmall m n
small_of true (pos i) n q e = let same : i ≡ n = cc in record { same = ap pos same; some = grind (arith, ints); most = grind (arith, ints) }
small_of true (negsuc i) n q e = grind (arith, ints)
small_of false m n q e = cc

number_of : (r : Result ℤ Undefined) (n : ℕ) → size_of_result r ≡ Some n → (m : ℤ) × (r ≡ Ok m) × IsSmall m n
number_of (Ok m) n e = (m, refl, small_of (int_le (pos 1) m && int_le m (pos 32_767)) m n refl e)
number_of (Err u) n e = cc

second : (a b : Bool) → (a && b) ≡ true → b ≡ true
second true b h = h
second false b h = cc

module _ (law : TestsTellConstants) (k : Known) (c : t.Conditional) (n : ℕ) where
  sized : (e : PlainExpr) (z : Bool) → of_conditional k c ≡ Some (value e z) → (b : Bool)
      → (is_integer (type_of_expr e) && is_constant e) ≡ b
      → (if b then size_of_result (constant e) else None) ≡ Some n → IsSize k c n
  sized e z m true q s =
      let r = number_of (constant e) n s in
      record {
        expression = e;
        null = z;
        meant = m;
        valid = law.sound e (second (is_integer (type_of_expr e)) (is_constant e) q);
        number = r.1 ∙ ap Ok r.2.same;
        some = r.2.some;
        most = r.2.most;
      }
  sized e z m false q s = cc

  of_place : (x : Operand) → size_of_operand x ≡ None → (b : Bool)
      → with_one (if b then None else Some x) size_of_operand ≡ Some n → IsSize k c n
  of_place x none true s = cc
  of_place x none false s = cc

  of_value : (e : PlainExpr) (z : Bool) → of_conditional k c ≡ Some (value e z) → (b : Bool)
      → with_one (if b then None else Some (value e z)) size_of_operand ≡ Some n → IsSize k c n
  of_value e z m true s = cc
  of_value e z m false s = sized e z m (is_integer (type_of_expr e) && is_constant e) refl s

  by_operand : (x : Option Operand) → of_conditional k c ≡ x → with_one (used x) size_of_operand ≡ Some n → IsSize k c n
  by_operand None m s = cc
  by_operand (Some (place ty konst space register q)) m s =
      of_place (place ty konst space register q) refl (is_void (value_type (place ty konst space register q))) s
  by_operand (Some (value e z)) m s = of_value e z m (is_void (type_of_expr e)) s

  by_form : (b : Bool) → (if b then with_one (used (of_conditional k c)) size_of_operand else None) ≡ Some n → IsSize k c n
  by_form true s = by_operand (of_conditional k c) refl s
  by_form false s = cc

pub sizes_are : TestsTellConstants → SizesAreValues
sizes_are law k c n e = by_form law k c n (is_constant_conditional k c) e
