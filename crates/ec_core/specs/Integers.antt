-- Integer operators: the exact result, wrapped to the type (ISO/IEC 9899:1999, 6.5 and 6.2.6.2; that signed results
-- wrap is this project's profile).
use Rattle.std.specs.Prelude.{ℕ, ◌*◌, ◌^◌, nat_le, Bool, true, false, ◌&&◌, if◌then◌else◌, ℤ, pos, negsuc, ◌+ℤ◌, ◌-ℤ◌}
use Rattle.std.specs.Prelude.{◌*ℤ◌, int_lt, int_le, int_div, int_rem, unsigned_abs, bit_and, bit_or, bit_xor, Result}
use Rattle.std.specs.Prelude.{Ok, Err}
use Rattle.std.specs.declared.cmp.Ordering.{Ordering}
use Rattle.std.specs.declared.cmp.Ordering.TheVariants.{Less, Equal, Greater}
use Rattle.std.specs.Ordering.{int_eq, int_cmp}
use Rattle.std.specs.Int.{int_div_euclid, int_rem_euclid}
use Rattle.ec_fx.specs.Ranges.{IsWithin}
use Rattle.ec_core.specs.declared.arithmetic_types.IntegerType.{IntegerType}
use Rattle.ec_core.specs.declared.expressions.BinOp.{BinOp}
use Rattle.ec_core.specs.declared.expressions.BinOp.TheVariants.{Add, Sub, Mul, Div, Rem, Shl, Shr, And, Or, Xor, Lt}
use Rattle.ec_core.specs.declared.expressions.BinOp.TheVariants.{Gt, Le, Ge, Eq, Ne}
use Rattle.ec_core.specs.declared.values.Undefined.{Undefined}
use Rattle.ec_core.specs.declared.values.Undefined.TheVariants.{ZeroDivisor, ShiftCount}
use Rattle.ec_core.specs.Layout.{IsIntegerSize}

-- the bits of a type, and the numbers that they make
abbrev pub width_of : IntegerType → ℕ
width_of t = 8 * t.bytes

abbrev pub modulus : IntegerType → ℕ
modulus t = 2 ^ width_of t

abbrev pub IsInteger : IntegerType → Type 0
IsInteger t = IsIntegerSize t.bytes

abbrev pub HoldsInteger : IntegerType → ℤ → Type 0
HoldsInteger t n = IsWithin t.signed (width_of t) n

-- the lowest bits of a number in two's complement, as many as the type has, as an unsigned number
abbrev pub low_bits : IntegerType → ℤ → ℕ
low_bits t n = unsigned_abs (int_rem_euclid n (pos (modulus t)))

-- what unsigned bits of the type stand for: where it is signed and the top bit is set, a negative number
abbrev pub from_bits : IntegerType → ℕ → ℤ
from_bits t low = if t.signed && nat_le (modulus t) (2 * low) then pos low -ℤ pos (modulus t) else pos low

-- the number of the type that is the same as n modulo 2^width
abbrev pub wrapped : IntegerType → ℤ → ℤ
wrapped t n = from_bits t (low_bits t n)

abbrev pub quotient : IntegerType → ℤ → ℤ → Result ℤ Undefined
quotient t a b = if int_eq b (pos 0) then Err ZeroDivisor else Ok (wrapped t (int_div a b))

-- the remainder has the sign of the dividend
abbrev pub remainder : IntegerType → ℤ → ℤ → Result ℤ Undefined
remainder t a b = if int_eq b (pos 0) then Err ZeroDivisor else Ok (wrapped t (int_rem a b))

-- a shift count of a value with so many bits
abbrev pub is_count : ℕ → ℤ → Bool
is_count bits count = int_le (pos 0) count && int_lt count (pos bits)

abbrev pub left_shift : IntegerType → ℤ → ℤ → Result ℤ Undefined
left_shift t a count =
    if is_count (width_of t) count then Ok (wrapped t (a *ℤ pos (2 ^ unsigned_abs count))) else Err ShiftCount

-- the quotient by 2^count, rounded down
abbrev pub right_shift : IntegerType → ℤ → ℤ → Result ℤ Undefined
right_shift t a count =
    if is_count (width_of t) count then Ok (wrapped t (int_div_euclid a (pos (2 ^ unsigned_abs count))))
    else Err ShiftCount

-- a bitwise operator on the two's complement bits
abbrev pub bitwise : (ℕ → ℕ → ℕ) → IntegerType → ℤ → ℤ → ℤ
bitwise op t a b = from_bits t (op (low_bits t a) (low_bits t b))

abbrev pub bits_operator : BinOp → ℕ → ℕ → ℕ
bits_operator And a b = bit_and a b
bits_operator Or a b = bit_or a b
bits_operator _ a b = bit_xor a b

-- the number of a truth value, of type int
abbrev pub truth : Bool → ℤ
truth true = pos 1
truth false = pos 0

-- whether operands of an order compare so
abbrev pub accepts : BinOp → Ordering → Bool
accepts Lt Less = true
accepts Le Less = true
accepts Ne Less = true
accepts Le Equal = true
accepts Ge Equal = true
accepts Eq Equal = true
accepts Gt Greater = true
accepts Ge Greater = true
accepts Ne Greater = true
accepts _ _ = false

abbrev pub compared : BinOp → Ordering → Result ℤ Undefined
compared op order = Ok (truth (accepts op order))

-- an operator with a result of type t; that of a comparison is 0 or 1
abbrev pub integer_value : BinOp → IntegerType → ℤ → ℤ → Result ℤ Undefined
integer_value Add t a b = Ok (wrapped t (a +ℤ b))
integer_value Sub t a b = Ok (wrapped t (a -ℤ b))
integer_value Mul t a b = Ok (wrapped t (a *ℤ b))
integer_value Div t a b = quotient t a b
integer_value Rem t a b = remainder t a b
integer_value Shl t a b = left_shift t a b
integer_value Shr t a b = right_shift t a b
integer_value And t a b = Ok (bitwise bit_and t a b)
integer_value Or t a b = Ok (bitwise bit_or t a b)
integer_value Xor t a b = Ok (bitwise bit_xor t a b)
integer_value Lt t a b = compared Lt (int_cmp a b)
integer_value Gt t a b = compared Gt (int_cmp a b)
integer_value Le t a b = compared Le (int_cmp a b)
integer_value Ge t a b = compared Ge (int_cmp a b)
integer_value Eq t a b = compared Eq (int_cmp a b)
integer_value Ne t a b = compared Ne (int_cmp a b)

-- unary minus, 0 - n, and the complement of all bits, -1 - n
abbrev pub negation : IntegerType → ℤ → ℤ
negation t n = wrapped t (pos 0 -ℤ n)

abbrev pub complement : IntegerType → ℤ → ℤ
complement t n = wrapped t (negsuc 0 -ℤ n)
