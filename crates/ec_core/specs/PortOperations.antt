-- The operands of the operations on ports (ISO/IEC TR 18037:2008, 6.2).
use Rattle.std.specs.Prelude.{Bool, true, false, not}
use Rattle.ec_iohw.specs.declared.operations.IoOp.{IoOp}
use Rattle.ec_iohw.specs.declared.operations.IoOp.TheVariants.{Read, ReadLong, ReadBuffer, ReadBufferLong, Write}
use Rattle.ec_iohw.specs.declared.operations.IoOp.TheVariants.{WriteLong, WriteBuffer, WriteBufferLong, Or, OrLong}
use Rattle.ec_iohw.specs.declared.operations.IoOp.TheVariants.{OrBuffer, OrBufferLong, And, AndLong, AndBuffer}
use Rattle.ec_iohw.specs.declared.operations.IoOp.TheVariants.{AndBufferLong, Xor, XorLong, XorBuffer, XorBufferLong}

-- what an operation does with the bytes of its port
pub data PortAction : Type 0 where
  reads : PortAction
  writes : PortAction
  updates : PortAction

-- an operation by what it does, whether it takes an index, and whether its values are unsigned long
pub record PortOperation : Type 0 where
  pub action : PortAction
  pub indexed : Bool
  pub long : Bool

abbrev pub port_operation : IoOp → PortOperation
port_operation Read = record { action = reads; indexed = false; long = false }
port_operation ReadLong = record { action = reads; indexed = false; long = true }
port_operation ReadBuffer = record { action = reads; indexed = true; long = false }
port_operation ReadBufferLong = record { action = reads; indexed = true; long = true }
port_operation Write = record { action = writes; indexed = false; long = false }
port_operation WriteLong = record { action = writes; indexed = false; long = true }
port_operation WriteBuffer = record { action = writes; indexed = true; long = false }
port_operation WriteBufferLong = record { action = writes; indexed = true; long = true }
port_operation Or = record { action = updates; indexed = false; long = false }
port_operation OrLong = record { action = updates; indexed = false; long = true }
port_operation OrBuffer = record { action = updates; indexed = true; long = false }
port_operation OrBufferLong = record { action = updates; indexed = true; long = true }
port_operation And = record { action = updates; indexed = false; long = false }
port_operation AndLong = record { action = updates; indexed = false; long = true }
port_operation AndBuffer = record { action = updates; indexed = true; long = false }
port_operation AndBufferLong = record { action = updates; indexed = true; long = true }
port_operation Xor = record { action = updates; indexed = false; long = false }
port_operation XorLong = record { action = updates; indexed = false; long = true }
port_operation XorBuffer = record { action = updates; indexed = true; long = false }
port_operation XorBufferLong = record { action = updates; indexed = true; long = true }

abbrev pub is_read : PortAction → Bool
is_read reads = true
is_read writes = false
is_read updates = false

abbrev pub is_update : PortAction → Bool
is_update reads = false
is_update writes = false
is_update updates = true

-- every operation but a read takes a value
abbrev pub takes_value : PortOperation → Bool
takes_value op = not (is_read op.action)
