-- The flash of a core.
use Rattle.std.specs.Prelude.{ℕ, ◌≡◌, List, Bool, false, Some, slice_get}
pub use Rattle.ec_space.specs.Memory.{flash_size}

-- a byte that is not written is 0xFF
abbrev pub IsBlankElsewhere : List ℕ → List Bool → Type 0
IsBlankElsewhere bytes written = (k : ℕ) → slice_get written k ≡ Some false → slice_get bytes k ≡ Some 255
