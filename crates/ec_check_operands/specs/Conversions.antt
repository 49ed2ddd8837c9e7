-- Conversions from type to type (ISO/IEC 9899:1999, 6.5.16.1; ISO/IEC TR 18037:2008, 5.1.3).
use Rattle.std.specs.Prelude.{ℕ, Bool, not, ◌&&◌, ◌||◌, List, [], ◌∷◌}
use Rattle.ec_check_operands.specs.Faults.{Judgement, rule}
use Rattle.ec_space.specs.declared.space.SpaceId.{SpaceId}
use Rattle.ec_core.specs.Plain.{PlainType, pointer}
use Rattle.ec_check_operands.specs.Sorts.{is_arithmetic, is_pointer, same_pointee, narrows, drops_const}

-- between numbers, between pointers to one type, or from the null constant to a pointer
abbrev pub passes : PlainType → Bool → PlainType → Bool
passes from zero to = is_arithmetic from && is_arithmetic to || zero && is_pointer to || same_pointee from to

-- 28 to 30: the Bool says that the value is the null constant
abbrev pub conversion_rules : PlainType → Bool → PlainType → ℕ → List Judgement
conversion_rules from zero to at =
    rule 28 (not (passes from zero to)) at
    ∷ rule 29 (same_pointee from to && narrows from to) at
    ∷ rule 30 (same_pointee from to && drops_const from to) at ∷ []

-- a pointer in a space; it keeps its const
abbrev pub into_space : SpaceId → PlainType → PlainType
into_space s (pointer r k t) = pointer s k t
into_space s ty = ty
