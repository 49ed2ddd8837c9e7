-- What the writers ask of formats.
use Rattle.std.proofs.Common.{◌≡◌, inl, inr, refl, sym, subst}
use Rattle.std.specs.Prelude.{Option, Some}
use Rattle.ec_fx.specs.declared.formats.Format.{Format}
use Rattle.ec_core.specs.declared.expressions.BinOp.{BinOp}
use Rattle.ec_core.specs.declared.expressions.BinOp.TheVariants.{Add, Sub, Mul, Div, Rem, And, Or, Xor, Lt, Gt, Le, Ge, Eq, Ne, Shl, Shr}
use Rattle.ec_core.specs.Plain.{PlainType}
use Rattle.ec_core.specs.Typing.{int}
use Rattle.ec_select_fixed.specs.declared.families.FixedFamily.{FixedFamily}
use Rattle.ec_select_fixed.specs.Types.{IsNumberType, FormatsSuit, OperatorSuits}
use Rattle.ec_select_fixed.proofs.Formats.{fixed_number_type}
use Rattle.ec_select_fixed.proofs.Suits.{ResultSuits}

int_number : (ty : PlainType) → ty ≡ int → IsNumberType ty
int_number ty e = subst IsNumberType (sym e) (inr (inl refl))

pub result_number : (op : BinOp) (ty : PlainType) → ResultSuits op ty → IsNumberType ty
result_number Lt ty h = int_number ty h
result_number Gt ty h = int_number ty h
result_number Le ty h = int_number ty h
result_number Ge ty h = int_number ty h
result_number Eq ty h = int_number ty h
result_number Ne ty h = int_number ty h
result_number op ty h = fixed_number_type ty h

pub suits_family : (o : Option FixedFamily) (family : FixedFamily) (f g to u v w : Format) → o ≡ Some family → u ≡ f → v ≡ g → w ≡ to
    → OperatorSuits o f g to → FormatsSuit family u v w
suits_family o family f g to u v w e a b c h =
    subst (λ (x : Format). FormatsSuit family x v w) (sym a)
    (subst (λ (x : Format). FormatsSuit family f x w) (sym b)
    (subst (λ (x : Format). FormatsSuit family f g x) (sym c)
    (subst (λ (x : Option FixedFamily). OperatorSuits x f g to) e h)))
