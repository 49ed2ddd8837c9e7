-- Names that are kept without memory.
use Rattle.std.specs.Prelude.{ℕ, List, take}
use Rattle.ec_io.specs.declared.known_name.KnownName.{KnownName}

abbrev pub name_of : KnownName → List ℕ
name_of name = take name.len name.bytes
