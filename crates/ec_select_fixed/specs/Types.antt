-- Operations with a fixed-point operand or result: the formats of their types, and which code an operator has.
use Rattle.std.specs.Prelude.{◌≡◌, ◌⊎◌, ℕ, ⊤, true, false, IsSomeAnd, Option, Some, None}
use Rattle.ec_fx.specs.declared.formats.Format.{Format}
use Rattle.ec_fx.specs.Formats.{IsFormat, format_of}
use Rattle.ec_core.specs.declared.expressions.BinOp.{BinOp}
use Rattle.ec_core.specs.declared.expressions.BinOp.TheVariants.{Add, Sub, Mul, Div, Rem, And, Or, Xor, Lt, Gt, Le, Ge}
use Rattle.ec_core.specs.declared.expressions.BinOp.TheVariants.{Eq, Ne, Shl, Shr}
use Rattle.ec_core.specs.declared.expressions.UnOp.{UnOp}
use Rattle.ec_core.specs.ArithmeticTypes.{arithmetic_of}
use Rattle.ec_core.specs.Layout.{IsScalar, IsIntegerSize}
use Rattle.ec_core.specs.Plain.{PlainType, void, integer, fixed, pointer, array, struct}
use Rattle.ec_core.specs.Typing.{HaveUnaryTypes, AreConvertible}
use Rattle.ec_ir.specs.Valid.{HaveOperationTypes}
use Rattle.ec_fxcode_quotients.specs.Formats.{whole_format}
use Rattle.ec_fxcode_shifts.specs.ShiftLaws.{IsWholeFormat}
use Rattle.ec_fxcode_quotients.specs.QuotientLaws.{IsOperandFormat}
use Rattle.ec_fxcode_sums.specs.SumLaws.{ArithmeticFormats}
use Rattle.ec_fxcode_conversions.specs.ProductLaws.{AreFactors}
use Rattle.ec_select_order.specs.declared.relations.Relation.TheVariants.{Less, NotLess, Equal, NotEqual}
use Rattle.ec_select_fixed.specs.declared.families.FixedFamily.{FixedFamily}
use Rattle.ec_select_fixed.specs.declared.families.FixedFamily.TheVariants.{Added, Multiplied, Divided, Shifted}
use Rattle.ec_select_fixed.specs.declared.families.FixedFamily.TheVariants.{Compared}

-- ---- types

abbrev pub IsFixedType : PlainType → Type 0
IsFixedType (fixed kind saturates) = ⊤
IsFixedType ty = ⊥

-- an integer type of 1, 2 or 4 bytes, or a fixed-point type
abbrev pub IsNumberType : PlainType → Type 0
IsNumberType (integer signed bytes) = IsIntegerSize bytes
IsNumberType (fixed kind saturates) = ⊤
IsNumberType ty = ⊥

-- how the numbers of a type are kept: an integer has no bits behind the point
abbrev pub format_in : PlainType → Format
format_in (integer signed bytes) = whole_format signed bytes
format_in (fixed kind saturates) = format_of kind
format_in ty = record { signed = false; bits = 0; frac = 0 }

-- ---- operators

-- the code that an operator has on operands of which one is fixed-point at least. A greater number is one than which
-- the other is less
abbrev pub family_of : BinOp → Option FixedFamily
family_of Add = Some (Added false)
family_of Sub = Some (Added true)
family_of Mul = Some Multiplied
family_of Div = Some Divided
family_of Shl = Some (Shifted true)
family_of Shr = Some (Shifted false)
family_of Lt = Some (Compared Less false)
family_of Gt = Some (Compared Less true)
family_of Le = Some (Compared NotLess true)
family_of Ge = Some (Compared NotLess false)
family_of Eq = Some (Compared Equal false)
family_of Ne = Some (Compared NotEqual false)
family_of op = None

-- ---- what the code of each family asks of the formats of operands and result

abbrev pub FormatsSuit : FixedFamily → (f g to : Format) → Type 0
FormatsSuit (Added minus) f g to = IsOperandFormat f × IsOperandFormat g × IsFormat to × ArithmeticFormats f g to
FormatsSuit Multiplied f g to = AreFactors f g to × IsFormat to × (to.bits ≡ 8)
FormatsSuit Divided f g to = IsOperandFormat f × IsOperandFormat g × IsFormat to
FormatsSuit (Shifted left) f g to = IsFormat f × IsWholeFormat g × (to ≡ f)
FormatsSuit (Compared r exchanged) f g to = IsOperandFormat f × IsOperandFormat g × (to.bits ≡ 16)

abbrev pub OperatorSuits : Option FixedFamily → (f g to : Format) → Type 0
OperatorSuits None f g to = ⊥
OperatorSuits (Some family) f g to = FormatsSuit family f g to

-- ---- operations with a fixed-point type

-- the types of a binary operator, as those of a valid operation: one operand is fixed-point at least
pub record AreFixedOperands (op : BinOp) (ty aty bty : PlainType) : Type 0 where
  pub types : HaveOperationTypes op ty aty bty
  pub left : IsScalar aty
  pub right : IsScalar bty
  pub fixed : IsFixedType aty ⊎ IsFixedType bty

-- that of a unary operator
pub record IsFixedOperand (op : UnOp) (ty : PlainType) : Type 0 where
  pub types : IsSomeAnd (arithmetic_of ty) (HaveUnaryTypes op)
  pub fixed : IsFixedType ty

-- those of a conversion
pub record AreFixedConverted (ty aty : PlainType) : Type 0 where
  pub types : AreConvertible ty aty
  pub result : IsScalar ty
  pub operand : IsScalar aty
  pub fixed : IsFixedType ty ⊎ IsFixedType aty
