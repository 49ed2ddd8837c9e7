-- The numbers of static objects are values of constant expressions.
use Rattle.std.proofs.Common.{◌≡◌, ◌∙◌, refl, ap, Bool, true, false, if◌then◌else◌, ℤ, Result, Ok, Err, Option, Some, None}
use Rattle.ec_grammar.specs.Trees as t
use Rattle.ec_core.specs.declared.programs.LeafInit.TheVariants.{Number}
use Rattle.ec_core.specs.declared.values.Undefined.{Undefined}
use Rattle.ec_core.specs.Operators.{as_number}
use Rattle.ec_core.specs.Plain.{PlainType, PlainExpr}
use Rattle.ec_core.specs.State.{worked, given}
use Rattle.ec_check_operands.specs.Operands.{with_one}
use Rattle.ec_check_constants.specs.Constants.{constant}
use Rattle.ec_check_constants.specs.Laws.{RunsGiveConstants}
use Rattle.ec_check_constants.specs.Laws.{TestsTellConstants}
use Rattle.ec_check_constants.specs.Tests.{is_constant}
use Rattle.ec_check_expressions.specs.Known.{Known}
use Rattle.ec_check_initialisers.specs.declared.places.ItemForm.{ItemForm}
use Rattle.ec_check_initialisers.specs.declared.places.ItemForm.TheVariants as item
use Rattle.ec_check_initialisers.specs.Items.{leaf_of_result, leaf_of}
use Rattle.ec_check_initialisers.specs.Laws.{IsStaticNumber, StaticNumbersAreValues}
use Rattle.ec_check_initialisers.specs.Places.{form_of}
use Rattle.ec_check_initialisers.specs.Statics.{item_is_null, item_value, item_leaf}

module _ (tests : TestsTellConstants) (runs : RunsGiveConstants) (k : Known) (ty : Option PlainType) (a : t.Assignment) (n : ℤ) where
  of_result : (e : PlainExpr) → item_value k ty a ≡ Some e → is_constant e ≡ true → (r : Result ℤ Undefined) → constant e ≡ r
      → leaf_of_result r ≡ Some (Number n)
      → IsStaticNumber k ty a n
  of_result e m c (Ok i) q f =
      let same : i ≡ n = cc in
      let number : constant e ≡ Ok n = q ∙ ap Ok same in
      record {
        expression = e;
        meant = m;
        valid = tests.sound e c;
        number = number;
        runs = λ w calls s. let r = runs w calls e s (tests.sound e c) in (r.0, r.1 ∙ ap (λ z. given (as_number z) (worked r.0 s)) number);
      }
  of_result e m c (Err u) q f = cc

  of_number : (e : PlainExpr) → item_value k ty a ≡ Some e → (b : Bool) → is_constant e ≡ b
      → (if b then leaf_of_result (constant e) else None) ≡ Some (Number n)
      → IsStaticNumber k ty a n
  of_number e m true c f = of_result e m c (constant e) refl f
  of_number e m false c f = cc

  of_form : (e : PlainExpr) → item_value k ty a ≡ Some e → (form : ItemForm) (z : Bool) → leaf_of form z e ≡ Some (Number n)
      → IsStaticNumber k ty a n
  of_form e m item.Constant true f = cc
  of_form e m item.Constant false f = of_number e m (is_constant e) refl f
  of_form e m (item.Address None) z f = cc
  of_form e m (item.Address (Some x)) z f = cc
  of_form e m item.Other z f = cc

  of_value : (form : ItemForm) (v : Option PlainExpr) → item_value k ty a ≡ v
      → with_one v (leaf_of form (item_is_null k ty a)) ≡ Some (Number n) → IsStaticNumber k ty a n
  of_value form None m f = cc
  of_value form (Some e) m f = of_form e m form (item_is_null k ty a) f

  of_item : (form : ItemForm) → item_leaf k form ty a ≡ Some (Number n) → IsStaticNumber k ty a n
  of_item item.Constant f = of_value item.Constant (item_value k ty a) refl f
  of_item (item.Address x) f = of_value (item.Address x) (item_value k ty a) refl f
  of_item item.Other f = cc

pub numbers_are : TestsTellConstants → RunsGiveConstants → StaticNumbersAreValues
numbers_are tests runs k ty a n e = of_item tests runs k ty a n (form_of k a) e
