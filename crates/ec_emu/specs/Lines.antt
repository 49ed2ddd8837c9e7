-- The lines that a run prints: one for each read and each write of a port, in order.
use Rattle.std.specs.Prelude.{ℕ, List, [], ◌∷◌, ◌++◌, codes}
use Rattle.ec_avr.specs.declared.machine.Access.{Access}
use Rattle.ec_avr.specs.declared.machine.Access.TheVariants.{In, Out}
use Rattle.ec_hex.specs.Bytes.{digits_of}

-- `in`, the port and the byte, in two digits each, and LF
abbrev pub in_line : ℕ → ℕ → List ℕ
in_line port byte = codes "in " ++ digits_of (port ∷ []) ++ 32 ∷ digits_of (byte ∷ []) ++ 10 ∷ []

-- `out`, the port and the byte
abbrev pub out_line : ℕ → ℕ → List ℕ
out_line port byte = codes "out " ++ digits_of (port ∷ []) ++ 32 ∷ digits_of (byte ∷ []) ++ 10 ∷ []

-- the line of an access, nothing where it is none of a port
abbrev pub port_line : Access → List ℕ
port_line (In port byte) = in_line port byte
port_line (Out port byte) = out_line port byte
port_line _ = []

abbrev pub port_lines : List Access → List ℕ
port_lines [] = []
port_lines (access ∷ trace) = port_line access ++ port_lines trace
