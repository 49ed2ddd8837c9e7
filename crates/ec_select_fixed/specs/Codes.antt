-- The code of operations with a fixed-point operand or result: operands and result stand in bytes of their own, and 40
-- work bytes besides. R0, R1, R30 and R31 are work registers.
use Rattle.std.specs.Prelude.{ℕ, Bool, true, false, if◌then◌else◌, List, [], ◌++◌, Option, Some, None}
use Rattle.ec_fx.specs.declared.formats.Format.{Format}
use Rattle.ec_fx.specs.declared.numbers.Mode.{Mode}
use Rattle.ec_asm.specs.declared.items.AsmItem.{AsmItem}
use Rattle.ec_asm.specs.declared.pieces.Location.{Location}
use Rattle.ec_asm.specs.declared.pieces.Location.TheVariants.{InRegisters}
use Rattle.ec_asm.specs.Pieces.{copy_code}
use Rattle.ec_core.specs.declared.expressions.BinOp.{BinOp}
use Rattle.ec_core.specs.declared.expressions.UnOp.{UnOp}
use Rattle.ec_core.specs.declared.expressions.UnOp.TheVariants.{Minus, Invert}
use Rattle.ec_core.specs.Layout.{scalar_size}
use Rattle.ec_core.specs.Operators.{same_type}
use Rattle.ec_core.specs.Plain.{PlainType, integer, fixed}
use Rattle.ec_select_bytes.specs.Values.{extend_code}
use Rattle.ec_select_order.specs.declared.relations.Relation.{Relation}
use Rattle.ec_fxcode_shifts.specs.Shifts.{shift_code}
use Rattle.ec_fxcode_quotients.specs.Quotients.{divide_code}
use Rattle.ec_fxcode_sums.specs.Sums.{sum_code, negate_code}
use Rattle.ec_fxcode_sums.specs.Orders.{order_code}
use Rattle.ec_fxcode_conversions.specs.Conversions.{convert_code, whole_code}
use Rattle.ec_fxcode_conversions.specs.Products.{multiply_code}
use Rattle.ec_select_fixed.specs.declared.families.FixedFamily.{FixedFamily}
use Rattle.ec_select_fixed.specs.declared.families.FixedFamily.TheVariants.{Added, Multiplied, Divided, Shifted}
use Rattle.ec_select_fixed.specs.declared.families.FixedFamily.TheVariants.{Compared}
use Rattle.ec_select_fixed.specs.Types.{format_in, family_of}

-- ---- comparisons

-- the truth value in R30, as an int
abbrev pub truth_code : Location → List AsmItem
truth_code q = copy_code (InRegisters 30) q 1 ++ extend_code false q 1 2

abbrev pub compared_code : Relation → (f g : Format) → (p c q w : Location) → (a b : ℕ) → List AsmItem
compared_code r f g p c q w a b = order_code r f g p c w a b ++ truth_code q

-- ---- binary operators

-- operands in the formats f and g, of a bytes at p and b bytes at c; the result in the format `to` in k bytes at q
abbrev pub family_code : FixedFamily → (f g to : Format) → Mode → (p c q w : Location) → (a b k : ℕ) → List AsmItem
family_code (Added minus) f g to mode p c q w a b k = sum_code minus f g to mode p c q w a b k
family_code Multiplied f g to mode p c q w a b k = multiply_code f g to mode p c q w
family_code Divided f g to mode p c q w a b k = divide_code f g to mode p c q w a b k
family_code (Shifted left) f g to mode p c q w a b k = shift_code f left mode p c q w a
family_code (Compared r false) f g to mode p c q w a b k = compared_code r f g p c q w a b
family_code (Compared r true) f g to mode p c q w a b k = compared_code r g f c p q w b a

abbrev pub operator_code : Option FixedFamily → (f g to : Format) → Mode → (p c q w : Location) → (a b k : ℕ)
    → List AsmItem
operator_code None f g to mode p c q w a b k = []
operator_code (Some family) f g to mode p c q w a b k = family_code family f g to mode p c q w a b k

-- the operands of types aty and bty stand at p and c, the result of type ty at q
abbrev pub fixed_binary_code : BinOp → (ty aty bty : PlainType) → Mode → (p c q w : Location) → List AsmItem
fixed_binary_code op ty aty bty mode p c q w =
    operator_code (family_of op) (format_in aty) (format_in bty) (format_in ty) mode p c q w (scalar_size aty)
    (scalar_size bty) (scalar_size ty)

-- ---- unary operators: `~` has no fixed-point operand

abbrev pub fixed_unary_code : UnOp → PlainType → Mode → (p q w : Location) → List AsmItem
fixed_unary_code Minus ty mode p q w = negate_code (format_in ty) mode p q w (scalar_size ty)
fixed_unary_code Invert ty mode p q w = []

-- ---- conversions

-- to a type that is not that of the operand
abbrev pub converted_code : (ty aty : PlainType) → Mode → (p q w : Location) → List AsmItem
converted_code (integer signed bytes) aty mode p q w = whole_code (format_in aty) p q w (scalar_size aty) bytes
converted_code (fixed kind saturates) aty mode p q w =
    convert_code (format_in aty) (format_in (fixed kind saturates)) mode p q w (scalar_size aty)
    (scalar_size (fixed kind saturates))
converted_code ty aty mode p q w = []

-- a value of the same type stays
abbrev pub fixed_conversion_code : (ty aty : PlainType) → Mode → (p q w : Location) → List AsmItem
fixed_conversion_code ty aty mode p q w =
    if same_type ty aty then copy_code p q (scalar_size ty) else converted_code ty aty mode p q w
