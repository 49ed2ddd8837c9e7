-- The types that stars make (ISO/IEC 9899:1999, 6.7.5.1; ISO/IEC TR 18037:2008, 5.1.2).
use Rattle.std.specs.Prelude.{Option, option_map, List, [], ◌∷◌}
use Rattle.ec_grammar.specs.Trees.{Star, star}
use Rattle.ec_core.specs.Plain.{PlainType, plain_type, pointer}
use Rattle.ec_check_operands.specs.Faults.{Judgement}
use Rattle.ec_check_names.specs.declared.qualifiers.Qualities.{Qualities}
use Rattle.ec_check_names.specs.declared.specifiers.Specified.{Specified}
use Rattle.ec_check_names.specs.declared.stars.Declared as declared
use Rattle.ec_check_names.specs.Qualifiers.{qualities_of, qualifier_rules, space_in}
use Rattle.ec_check_names.specs.Specifiers.{base_of}
use Rattle.ec_check_names.specs.Words.{base_type}

-- a type, if it has one, with what qualifies it itself
pub record Declared : Type 0 where
  pub ty : Option PlainType
  pub qualities : Qualities

abbrev pub plain_declared : declared.Declared → Declared
plain_declared d = record { ty = option_map plain_type d.ty; qualities = d.qualities }

-- what specifiers declare, before stars
abbrev pub declared_by : Specified → Declared
declared_by s = record { ty = option_map base_type (base_of s.types); qualities = s.qualities }

-- a pointer to what is so declared
abbrev pub pointer_to : Declared → Option PlainType
pointer_to d = option_map (pointer (space_in d.qualities.space) d.qualities.konst) d.ty

-- what is declared behind stars: each makes a pointer to what was declared so far, which its own qualifiers qualify
abbrev pub behind : Declared → List Star → Declared
behind d [] = d
behind d (star spot qs ∷ more) = behind (record { ty = pointer_to d; qualities = qualities_of qs }) more

-- the rules of the qualifiers of stars
abbrev pub star_rules : List Star → List Judgement → List Judgement
star_rules [] rest = rest
star_rules (star spot qs ∷ more) rest = qualifier_rules qs (star_rules more rest)
