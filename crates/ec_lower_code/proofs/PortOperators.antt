-- The operators of updates of ports.
use Rattle.std.proofs.Common.{◌≡◌, ℕ, Bool, true, false, refl}
use Rattle.std.specs.Prelude.{bit_and, bit_or, bit_xor, if◌then◌else◌}
use Rattle.ec_iohw.specs.declared.operations.IoOp.{IoOp}
use Rattle.ec_iohw.specs.declared.operations.IoOp.TheVariants.{Read, ReadLong, ReadBuffer, ReadBufferLong, Write, WriteLong, WriteBuffer}
use Rattle.ec_iohw.specs.declared.operations.IoOp.TheVariants.{WriteBufferLong}
use Rattle.ec_iohw.specs.declared.operations.IoOp.TheVariants.{Or, OrLong, OrBuffer, OrBufferLong, And, AndLong, AndBuffer, AndBufferLong}
use Rattle.ec_iohw.specs.declared.operations.IoOp.TheVariants.{Xor, XorLong, XorBuffer, XorBufferLong}
use Rattle.ec_core.specs.declared.expressions.BinOp.{BinOp}
use Rattle.ec_core.specs.declared.expressions.BinOp.TheVariants.{And as AndOp, Or as OrOp, Xor as XorOp}
use Rattle.ec_core.specs.PortAccesses.{updated}
use Rattle.ec_core.specs.Typing.{unsigned_int, unsigned_long, HaveBinaryTypes}
use Rattle.ec_ir.specs.Costs.{is_bitwise}
use Rattle.ec_lower_code.specs.Code.{port_operator}

-- what holds of the three operators holds of those of all operations
pub by_operator : (P : BinOp → (ℕ → ℕ → ℕ) → Type 0) → P AndOp bit_and → P OrOp bit_or → P XorOp bit_xor → (op : IoOp)
    → P (port_operator op) (updated op)
by_operator P a o x Read = x
by_operator P a o x ReadLong = x
by_operator P a o x ReadBuffer = x
by_operator P a o x ReadBufferLong = x
by_operator P a o x Write = x
by_operator P a o x WriteLong = x
by_operator P a o x WriteBuffer = x
by_operator P a o x WriteBufferLong = x
by_operator P a o x Or = o
by_operator P a o x OrLong = o
by_operator P a o x OrBuffer = o
by_operator P a o x OrBufferLong = o
by_operator P a o x And = a
by_operator P a o x AndLong = a
by_operator P a o x AndBuffer = a
by_operator P a o x AndBufferLong = a
by_operator P a o x Xor = x
by_operator P a o x XorLong = x
by_operator P a o x XorBuffer = x
by_operator P a o x XorBufferLong = x

pub operator_bitwise : (op : IoOp) → is_bitwise (port_operator op) ≡ true
operator_bitwise op = by_operator (λ o f. is_bitwise o ≡ true) refl refl refl op

-- its operands and its result have one unsigned type
pub operator_typed : (op : IoOp) (long : Bool)
    → let ty = if long then unsigned_long else unsigned_int in HaveBinaryTypes (port_operator op) ty ty ty
operator_typed op true = by_operator (λ o f. HaveBinaryTypes o unsigned_long unsigned_long unsigned_long) long_typed long_typed long_typed
    op
  where
    long_typed : HaveBinaryTypes AndOp unsigned_long unsigned_long unsigned_long
    long_typed = record { left = tt; right = tt; usual = record { integers = (refl, refl); signedness = tt; value = refl } }
operator_typed op false = by_operator (λ o f. HaveBinaryTypes o unsigned_int unsigned_int unsigned_int) int_typed int_typed int_typed op
  where
    int_typed : HaveBinaryTypes AndOp unsigned_int unsigned_int unsigned_int
    int_typed = record { left = tt; right = tt; usual = record { integers = (refl, refl); signedness = tt; value = refl } }
