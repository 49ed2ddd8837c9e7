-- Types that objects can have, and their sizes (ISO/IEC 9899:1999, 6.2.5 and 6.7.5.2; the greatest size is this
-- project's profile).
use Rattle.std.specs.Prelude.{ℕ, Bool, true, false, ◌&&◌, if◌then◌else◌, nat_lt, nat_le}
use Rattle.std.specs.Prelude.{Option, Some, None, List}
use Rattle.ec_core.specs.Layout.{size_of_type}
use Rattle.ec_core.specs.Plain.{PlainType, void, integer, fixed, pointer, array, struct, PlainStruct}
use Rattle.ec_check_operands.specs.Operands.{with_one}
use Rattle.ec_check_expressions.specs.Known.{is_sized}

-- the type is that of an object, where there are n structs: a scalar, a struct, or an array of them
abbrev pub is_object_type : ℕ → PlainType → Bool
is_object_type n void = false
is_object_type n (integer signed bytes) = is_sized n (integer signed bytes)
is_object_type n (fixed kind saturates) = true
is_object_type n (pointer space const to) = is_sized n (pointer space const to)
is_object_type n (array of len) = is_sized n of && nat_le len 32_767
is_object_type n (struct index) = is_sized n (struct index)

-- the type, if an object can have it
abbrev pub object_type : ℕ → Option PlainType → Option PlainType
object_type n ty = with_one ty (λ ty. if is_object_type n ty then Some ty else None)

-- 9: more bytes than an object may have
abbrev pub is_too_large : List PlainStruct → Option PlainType → Bool
is_too_large structs None = false
is_too_large structs (Some ty) = nat_lt 32_767 (size_of_type structs ty)

-- the type, if an object of it is not too large
abbrev pub small_type : List PlainStruct → Option PlainType → Option PlainType
small_type structs ty = if is_too_large structs ty then None else ty
