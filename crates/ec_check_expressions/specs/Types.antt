-- The types that type names mean (ISO/IEC 9899:1999, 6.7.6).
use Rattle.std.specs.Prelude.{ℕ, Bool, true, false, ◌||◌, ◌==◌, nat_lt, Option, Some, None}
pub use Rattle.ec_core.specs.Layers.{names_below}
use Rattle.ec_core.specs.Plain.{PlainType, void, integer, fixed, pointer, array, struct}

-- a type that a type name can say and that an object can have, where there are n structs
abbrev pub is_sized : ℕ → PlainType → Bool
is_sized n void = false
is_sized n (integer signed bytes) = bytes == 1 || bytes == 2 || bytes == 4
is_sized n (fixed kind sat) = true
is_sized n (pointer space konst to) = names_below n to
is_sized n (array of len) = false
is_sized n (struct index) = nat_lt index n

-- the type that a type name means, which is not void, nor a pointer to void: what it says, if it says no void
abbrev pub meant_type : Option ℕ → Option PlainType → Option PlainType
meant_type None ty = ty
meant_type (Some at) ty = None
