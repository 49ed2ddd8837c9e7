-- The formats of integers.
use Rattle.std.specs.Prelude.{ℕ, ◌*◌, Bool}
use Rattle.ec_fx.specs.declared.formats.Format.{Format}

-- an integer has no bits behind the point
abbrev pub whole_format : (signed : Bool) → (bytes : ℕ) → Format
whole_format signed bytes = record { signed = signed; bits = 8 * bytes; frac = 0 }
