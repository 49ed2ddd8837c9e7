-- The result of a function, if its declaration breaks no rule, and the values that `return` gives it (ISO/IEC
-- 9899:1999, 6.8.6.4).
use Rattle.std.specs.Prelude.{Bool, false, not, if◌then◌else◌, Option, Some, None}
use Rattle.ec_core.specs.Plain.{PlainType}
use Rattle.ec_check_operands.specs.Sorts.{is_void}

-- the type of the values that a function with a result returns
abbrev pub returned_type : Option PlainType → Option PlainType
returned_type None = None
returned_type (Some ty) = if is_void ty then None else Some ty

-- the function has no result
abbrev pub has_no_result : Option PlainType → Bool
has_no_result None = false
has_no_result (Some ty) = is_void ty

-- the function has one
abbrev pub has_result : Option PlainType → Bool
has_result None = false
has_result (Some ty) = not (is_void ty)
