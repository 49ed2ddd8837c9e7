-- The tags of structs that a unit has defined so far (ISO/IEC 9899:1999, 6.7.2.3).
use Rattle.std.specs.Prelude.{ℕ, Bool, true, false, Option, Some, None, List}
use Rattle.ec_check_names.specs.declared.tags.Tags as tags
use Rattle.ec_check_names.specs.declared.tags.TagState.{TagState}
use Rattle.ec_check_names.specs.declared.tags.TagState.TheVariants.{Undefined, Broken, Struct}
use Rattle.ec_check_names.specs.Tables.{Table, table_of, at_name}

-- the tags whose definitions have ended, each with the struct's place in the program's list, where the definition
-- breaks no rule
abbrev pub Tags : Type 0
Tags = Table (Option ℕ)

abbrev pub plain_tags : tags.Tags → Tags
plain_tags t = table_of (λ index. index) t.structs.entries

abbrev pub state_by : Option (Option ℕ) → TagState
state_by None = Undefined
state_by (Some None) = Broken
state_by (Some (Some index)) = Struct index

-- what a tag stands for
abbrev pub tag_state : List ℕ → Tags → TagState
tag_state n tags = state_by (at_name n tags)

abbrev pub is_undefined : TagState → Bool
is_undefined Undefined = true
is_undefined Broken = false
is_undefined (Struct index) = false
