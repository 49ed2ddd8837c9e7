-- Operations on ports and groups of ports (ISO/IEC TR 18037:2008, 6; the orders of their effects are our own profile).
use Rattle.std.specs.Prelude.{ℕ, zero, suc, ◌+◌, ◌*◌, ◌/◌, ◌%◌, nat_lt, Bool, true, false, pos, unsigned_abs, List, []}
use Rattle.std.specs.Prelude.{◌∷◌, Option, Some, None, option_map, option_and_then, slice_get, slice_index, bit_and}
use Rattle.std.specs.Prelude.{bit_or, bit_xor, unwrap_or}
use Rattle.ec_iohw.specs.declared.operations.IoOp.{IoOp}
use Rattle.ec_iohw.specs.declared.operations.IoOp.TheVariants.{Or, OrLong, OrBuffer, OrBufferLong, And, AndLong}
use Rattle.ec_iohw.specs.declared.operations.IoOp.TheVariants.{AndBuffer, AndBufferLong}
use Rattle.ec_iohw.specs.declared.table.Choice.{Choice}
use Rattle.ec_iohw.specs.declared.table.Pair.{Pair}
use Rattle.ec_core.specs.declared.values.Undefined.TheVariants.{Invalid, ClosedPort, BufferIndex}
use Rattle.ec_core.specs.declared.values.Undefined.TheVariants.{UnboundGroup}
use Rattle.ec_core.specs.declared.values.Value.{Value}
use Rattle.ec_core.specs.declared.values.Value.TheVariants.{Number, Pointer}
use Rattle.ec_core.specs.PortOperations.{PortAction, reads, writes, updates, port_operation}
use Rattle.ec_core.specs.PortTable.{PlainPort, PlainGroup, PlainTable, choices_of}
use Rattle.ec_core.specs.State.{Inputs, In, Out, reads_of, State, with_event, with_group, with_choice, chosen}
use Rattle.ec_core.specs.State.{Outcome, got, undefined}

-- ---- bytes of ports

-- the next byte that a port address gives; past the end of its list it gives 0
abbrev pub next_byte : Inputs → ℕ → State → ℕ
next_byte inputs port s = slice_index (inputs port) (reads_of port s.events)

abbrev pub byte_read : Inputs → ℕ → State → State
byte_read inputs port s = with_event (In port (next_byte inputs port s)) s

-- so many bytes are read from an address on, the lowest address first, and the number that they make, its lowest byte
-- first
abbrev pub bytes_read : Inputs → ℕ → ℕ → State → State
bytes_read inputs zero port s = s
bytes_read inputs (suc n) port s = bytes_read inputs n (port + 1) (byte_read inputs port s)

abbrev pub number_read : Inputs → ℕ → ℕ → State → ℕ
number_read inputs zero port s = 0
number_read inputs (suc n) port s =
    next_byte inputs port s + 256 * number_read inputs n (port + 1) (byte_read inputs port s)

-- the lowest bytes of a number are written from an address on, the highest address first
abbrev pub bytes_written : ℕ → ℕ → ℕ → State → State
bytes_written zero port v s = s
bytes_written (suc n) port v s = with_event (Out port (v % 256)) (bytes_written n (port + 1) (v / 256) s)

-- ---- operations

-- what an update makes of the number that it reads and its operand
abbrev pub updated : IoOp → ℕ → ℕ → ℕ
updated Or old v = bit_or old v
updated OrLong old v = bit_or old v
updated OrBuffer old v = bit_or old v
updated OrBufferLong old v = bit_or old v
updated And old v = bit_and old v
updated AndLong old v = bit_and old v
updated AndBuffer old v = bit_and old v
updated AndBufferLong old v = bit_and old v
updated op old v = bit_xor old v

-- what stands for the value of a void expression
abbrev pub no_value : Value
no_value = Number (pos 0)

-- operands were converted to unsigned types
abbrev pub unsigned : Value → ℕ
unsigned (Number n) = unsigned_abs n
unsigned (Pointer p) = 0

-- an operation on the bytes of a port of some width from an address on
abbrev pub port_accessed : Inputs → PortAction → IoOp → ℕ → ℕ → ℕ → State → Outcome Value
port_accessed inputs reads op width port v s =
    got (Number (pos (number_read inputs width port s))) (bytes_read inputs width port s)
port_accessed inputs writes op width port v s = got no_value (bytes_written width port v s)
port_accessed inputs updates op width port v s =
    got no_value (bytes_written width port (updated op (number_read inputs width port s) v)
    (bytes_read inputs width port s))

-- a port without a group is open, and one of a group from its acquire to its release
abbrev pub is_open : Option ℕ → State → Bool
is_open None s = true
is_open (Some g) s = unwrap_or (slice_get s.groups.acquired g) false

abbrev pub within : Inputs → Bool → IoOp → PlainPort → ℕ → ℕ → State → Outcome Value
within inputs true op port i v s =
    port_accessed inputs (port_operation op).action op port.width (port.address + i * port.width) v s
within inputs false op port i v s = undefined BufferIndex s

abbrev pub opened : Inputs → Bool → IoOp → PlainPort → ℕ → ℕ → State → Outcome Value
opened inputs true op port i v s = within inputs (nat_lt i port.count) op port i v s
opened inputs false op port i v s = undefined ClosedPort s

-- what a dynamic group is bound to, if it is
abbrev pub bound : PlainTable → (dynamic : ℕ) → State → Option Choice
bound table d s = option_and_then (λ k. slice_get (choices_of table d) k) (chosen d s)

-- a port of a dynamic group that is bound to a choice is one of the choice's group, its base further on
abbrev pub bound_port : PlainPort → Choice → PlainPort
bound_port port c = record {
  address = c.base + port.address;
  width = port.width;
  count = port.count;
  group = Some c.group;
  dynamic = None;
}

-- a port as it stands in a state; none where its dynamic group is not bound
abbrev pub standing_port : PlainTable → PlainPort → (dynamic : Option ℕ) → State → Option PlainPort
standing_port table port None s = Some port
standing_port table port (Some d) s = option_map (bound_port port) (bound table d s)

abbrev pub accessed : Inputs → IoOp → Option PlainPort → ℕ → ℕ → State → Outcome Value
accessed inputs op None i v s = undefined UnboundGroup s
accessed inputs op (Some port) i v s = opened inputs (is_open port.group s) op port i v s

-- an operation on a port, with its index and its operand, each 0 where the operation takes none
abbrev pub port_effect : Inputs → PlainTable → IoOp → Option PlainPort → Value → Value → State → Outcome Value
port_effect inputs table op None i v s = undefined Invalid s
port_effect inputs table op (Some port) i v s =
    accessed inputs op (standing_port table port port.dynamic s) (unsigned i) (unsigned v) s

-- ---- groups

abbrev pub pairs_written : List Pair → State → State
pairs_written [] s = s
pairs_written (pair ∷ pairs) s = pairs_written pairs (with_event (Out pair.port pair.byte) s)

abbrev pub pairs_of : Bool → PlainGroup → List Pair
pairs_of true group = group.acquire
pairs_of false group = group.release

-- the bytes of the group's list are written, in the list's order, and it is acquired or released
abbrev pub group_effect : Bool → ℕ → Option PlainGroup → State → Outcome Value
group_effect acquire g None s = undefined Invalid s
group_effect acquire g (Some group) s = got no_value (with_group g acquire (pairs_written (pairs_of acquire group) s))

-- ---- dynamic groups

-- it is bound to a choice, which acquires and releases nothing
abbrev pub bind_effect : (dynamic choice : ℕ) → State → Outcome Value
bind_effect d choice s = got no_value (with_choice d choice s)

-- an acquire or release of what a dynamic group is bound to is that of the choice's group
abbrev pub choice_effect : Bool → PlainTable → Option Choice → State → Outcome Value
choice_effect acquire table None s = undefined UnboundGroup s
choice_effect acquire table (Some c) s = group_effect acquire c.group (slice_get table.groups c.group) s

abbrev pub dynamic_effect : Bool → PlainTable → (dynamic : ℕ) → State → Outcome Value
dynamic_effect acquire table d s = choice_effect acquire table (bound table d s) s
