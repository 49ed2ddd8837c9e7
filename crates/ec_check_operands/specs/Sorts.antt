-- Tests of types, passed on.
use Rattle.std.specs.Prelude.{◌==◌, Bool, true, false, not, ◌&&◌, ◌||◌, is_some}
use Rattle.ec_fx.specs.Formats.{format_of}
use Rattle.ec_space.specs.Spaces.{encloses, join}
use Rattle.ec_core.specs.ArithmeticTypes.{arithmetic_of, type_of}
use Rattle.ec_core.specs.Operators.{same_type}
use Rattle.ec_core.specs.Plain.{PlainType, void, integer, fixed, pointer, array, struct, plain_type}
use Rattle.ec_check_operands.specs.declared.sorts.Sort.{Sort}
use Rattle.ec_check_operands.specs.declared.sorts.Sort.TheVariants as sorts

-- a type, as the code sees it without its pointers
abbrev pub plain_sort : Sort → PlainType
plain_sort sorts.Void = void
plain_sort (sorts.Number t) = type_of t
plain_sort (sorts.Pointer space konst to) = pointer space konst (plain_type to.now)
plain_sort (sorts.Array of len) = array (plain_type of.now) len
plain_sort (sorts.Struct index) = struct index

abbrev pub is_void : PlainType → Bool
is_void void = true
is_void ty = false

abbrev pub is_arithmetic : PlainType → Bool
is_arithmetic ty = is_some (arithmetic_of ty)

abbrev pub is_integer : PlainType → Bool
is_integer (integer signed bytes) = true
is_integer ty = false

-- the types of factors
abbrev pub is_one_byte : PlainType → Bool
is_one_byte (integer signed bytes) = bytes == 1
is_one_byte (fixed kind sat) = (format_of kind).bits == 8
is_one_byte ty = false

abbrev pub is_pointer : PlainType → Bool
is_pointer (pointer space const to) = true
is_pointer ty = false

abbrev pub is_scalar : PlainType → Bool
is_scalar ty = is_arithmetic ty || is_pointer ty

abbrev pub is_struct : PlainType → Bool
is_struct (struct index) = true
is_struct ty = false

-- an object that has parts
abbrev pub is_aggregate : PlainType → Bool
is_aggregate (array of len) = true
is_aggregate (struct index) = true
is_aggregate ty = false

-- ---- two pointers

-- pointers to one type: const and space do not count
abbrev pub same_pointee : PlainType → PlainType → Bool
same_pointee (pointer s k t) (pointer r c u) = same_type t u
same_pointee a b = false

-- the second is into a space that does not enclose that of the first
abbrev pub narrows : PlainType → PlainType → Bool
narrows (pointer s k t) (pointer r c u) = not (encloses r s)
narrows a b = false

-- the first is to const and the second is not
abbrev pub drops_const : PlainType → PlainType → Bool
drops_const (pointer s k t) (pointer r c u) = k && not c
drops_const a b = false

-- one of their spaces encloses the other
abbrev pub nest : PlainType → PlainType → Bool
nest (pointer s k t) (pointer r c u) = is_some (join s r)
nest a b = false
