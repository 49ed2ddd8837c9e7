-- The type to which two values of `?:` are brought, by how they meet (ISO/IEC 9899:1999, 6.5.15).
use Rattle.std.specs.Prelude.{true, false, ◌||◌, Option, Some, None}
use Rattle.ec_space.specs.declared.space.SpaceId.{SpaceId}
use Rattle.ec_core.specs.ArithmeticTypes.{type_of, common}
use Rattle.ec_core.specs.Plain.{PlainType, pointer}
use Rattle.ec_core.specs.Typing.{points_to_const}
use Rattle.ec_check_operands.specs.declared.meetings.Meeting.{Meeting}
use Rattle.ec_check_operands.specs.declared.meetings.Meeting.TheVariants.{Pointers, Mixed, Numbers, Nothing}
use Rattle.ec_check_operands.specs.Options.{with_one}

-- a pointer in a space, to const where one of both is
abbrev pub pointer_between : SpaceId → PlainType → PlainType → Option PlainType
pointer_between s (pointer r k t) b = Some (pointer s (k || points_to_const b) t)
pointer_between s a b = None

abbrev pub type_between : Meeting → PlainType → PlainType → Option PlainType
type_between (Pointers s) a b = with_one s (λ s. pointer_between s a b)
type_between (Mixed true) a b = Some a
type_between (Mixed false) a b = Some b
type_between (Numbers s t) a b = Some (type_of (common s t))
type_between Nothing a b = None
