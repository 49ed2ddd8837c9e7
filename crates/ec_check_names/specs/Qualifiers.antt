-- What qualifiers say, and the rules that they can break (ISO/IEC 9899:1999, 6.7.3; ISO/IEC TR 18037:2008, 5.1.2).
use Rattle.std.specs.Prelude.{Bool, true, false, Option, Some, None}
use Rattle.ec_space.specs.declared.space.SpaceId.{SpaceId}
use Rattle.ec_space.specs.declared.space.SpaceId.TheVariants.{Flash, FarFlash, Data}
use Rattle.ec_grammar.specs.declared.token.WordKind.{WordKind}
use Rattle.ec_grammar.specs.declared.token.WordKind.TheVariants as w
use Rattle.std.specs.Prelude.{ℕ, not, ◌&&◌, ◌||◌, is_some, List, [], ◌∷◌}
use Rattle.ec_space.specs.declared.space.SpaceId.TheVariants.{Generic}
use Rattle.ec_grammar.specs.declared.Qualifier.{Qualifier}
use Rattle.ec_check_operands.specs.Faults.{Judgement, rule}
use Rattle.ec_check_names.specs.declared.qualifiers.SpaceWord.{SpaceWord}
use Rattle.ec_check_names.specs.declared.qualifiers.Qualities.{Qualities}

abbrev pub space_word : WordKind → Option SpaceId
space_word w.Flash = Some Flash
space_word w.FarFlash = Some FarFlash
space_word w.Data = Some Data
space_word word = None

abbrev pub is_const_word : WordKind → Bool
is_const_word w.Const = true
is_const_word word = false

-- the name of a space that lies in the flash
abbrev pub is_flash_word : WordKind → Bool
is_flash_word w.Flash = true
is_flash_word w.FarFlash = true
is_flash_word word = false

-- nothing is qualified
abbrev pub unqualified : Qualities
unqualified = record { konst = false; space = None }

-- a list's first space stays
abbrev pub first_space : Option SpaceWord → ℕ → Option SpaceId → Option SpaceWord
first_space (Some s) at space = Some s
first_space None at None = None
first_space None at (Some space) = Some (record { at = at; space = space })

-- what a list says with one more word
abbrev pub with_quality : Qualities → ℕ → WordKind → Qualities
with_quality q at word =
    record { konst = q.konst || is_const_word word; space = first_space q.space at (space_word word) }

abbrev pub qualities_from : Qualities → List Qualifier → Qualities
qualities_from q [] = q
qualities_from q (x ∷ xs) = qualities_from (with_quality q x.spot.index x.word) xs

-- what a list of qualifiers says: const, and its first space
abbrev pub qualities_of : List Qualifier → Qualities
qualities_of xs = qualities_from unqualified xs

-- the space that is said, which is the generic one where none is
abbrev pub space_in : Option SpaceWord → SpaceId
space_in None = Generic
space_in (Some s) = s.space

-- a word of a list is a second space (rule 2), or `__flash` or `__farflash` in a list without const (rule 4); then what follows
abbrev pub quality_rules : (before : Option SpaceWord) (konst : Bool) → ℕ → WordKind → List Judgement → List Judgement
quality_rules before konst at word rest =
    rule 2 (is_some before && is_some (space_word word)) at ∷ rule 4 (is_flash_word word && not konst) at ∷ rest

-- the rules of a list's qualifiers, where the first words said so much, and the whole list has const or not
abbrev pub qualifier_rules_from : (konst : Bool) → Qualities → List Qualifier → List Judgement → List Judgement
qualifier_rules_from konst q [] rest = rest
qualifier_rules_from konst q (x ∷ xs) rest =
    quality_rules q.space konst x.spot.index x.word
    (qualifier_rules_from konst (with_quality q x.spot.index x.word) xs rest)

abbrev pub qualifier_rules : List Qualifier → List Judgement → List Judgement
qualifier_rules xs rest = qualifier_rules_from (qualities_of xs).konst unqualified xs rest

-- where a space may not qualify, the one that is said breaks rule 3
abbrev pub own_space_rules : (allowed : Bool) → Option SpaceWord → List Judgement → List Judgement
own_space_rules allowed None rest = rest
own_space_rules allowed (Some s) rest = rule 3 (not allowed) s.at ∷ rest
