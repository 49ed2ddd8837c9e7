-- A `main` of another form than `int main(void)` without `static` (ISO/IEC 9899:1999, 5.1.2.2.1).
use Rattle.std.specs.Prelude.{Bool, true, false, not, ◌||◌, Option, Some, None}
use Rattle.ec_core.specs.Operators.{same_type}
use Rattle.ec_core.specs.Plain.{PlainType}
use Rattle.ec_core.specs.Typing.{int}
use Rattle.ec_check_names.specs.declared.specifiers.StorageWord.{StorageWord}
use Rattle.ec_check_names.specs.declared.specifiers.StorageWord.TheVariants.{Extern, Static}

-- a result that breaks no rule is other than int
abbrev pub is_other_result : Option PlainType → Bool
is_other_result None = false
is_other_result (Some ty) = not (same_type ty int)

abbrev pub is_static : Option StorageWord → Bool
is_static None = false
is_static (Some Extern) = false
is_static (Some Static) = true

-- a result other than int, a parameter, or `static`
abbrev pub is_other_form : Option StorageWord → Option PlainType → (params : Bool) → Bool
is_other_form word returns params = is_other_result returns || params || is_static word
