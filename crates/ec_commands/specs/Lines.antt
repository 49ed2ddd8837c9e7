-- Lines in parts.
use Rattle.std.specs.Prelude.{ℕ, List, [], ◌∷◌, ◌++◌}
use Rattle.std.specs.Fmt.{decimal, signed_decimal}
use Rattle.ec_commands.specs.Stops.{four_digits}
use Rattle.ec_commands.specs.declared.line.Part.{Part}
use Rattle.ec_commands.specs.declared.line.Part.TheVariants.{Text, Number, Long, Signed, Wide, Hex}

abbrev pub bytes_of : Part → List ℕ
bytes_of (Text bytes) = bytes.now
bytes_of (Number n) = decimal n
bytes_of (Long n) = decimal n
bytes_of (Signed n) = signed_decimal n
bytes_of (Wide n) = signed_decimal n
bytes_of (Hex n) = four_digits n

-- the bytes of the parts, one behind the other
abbrev pub line : List Part → List ℕ
line [] = []
line (part ∷ []) = bytes_of part
line (part ∷ next ∷ parts) = bytes_of part ++ line (next ∷ parts)
