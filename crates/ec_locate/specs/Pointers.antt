-- The numbers of pointers to bytes of objects.
use Rattle.std.specs.Prelude.{ℕ, ◌+◌, Option, Some, None}
use Rattle.ec_space.specs.Spaces.{pointer_number}
use Rattle.ec_space.specs.declared.space.Place.{Place}
use Rattle.ec_space.specs.declared.space.Pointer.TheVariants.{At}
use Rattle.ec_space.specs.declared.space.SpaceId.{SpaceId}

-- the number of a pointer to a byte of an object
abbrev pub pointer_to : SpaceId → Option Place → (offset : ℕ) → ℕ
pointer_to space None offset = 0
pointer_to space (Some p) offset = pointer_number space (At (record { bank = p.bank; offset = p.offset + offset }))
