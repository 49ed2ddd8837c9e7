-- The constraints on specifiers and on lists of qualifiers, in words (ISO/IEC 9899:1999, 6.7.1 to 6.7.3; ISO/IEC TR
-- 18037:2008, 5.1.2; that `__flash` and `__farflash` ask for const is this project's profile).
use Rattle.std.specs.Prelude.{ℕ, ◌≡◌, ◌⊎◌, Bool, false, None, List, [], ◌∷◌}
use Rattle.ec_grammar.specs.Trees.{Spec, word_spec, struct_spec, Specs, specs, identifier}
use Rattle.ec_check_operands.specs.declared.faults.Fault.{Fault}
use Rattle.ec_check_names.specs.Firsts.{first_specs}
use Rattle.ec_check_names.specs.Tables.{at_name}
use Rattle.ec_check_names.specs.Tags.{Tags}
use Rattle.ec_check_parts.specs.TypeWords.{NameType}
use Rattle.ec_check_parts.specs.Words.{Word, words_among, IsSpaceWord, IsFlashWord, IsConstWord, IsStorageWord}
use Rattle.ec_check_parts.specs.Words.{HasOne, HasTwo, HasAt, HasSecondAt}

-- a list of qualifiers, which is that among specifiers, or that of one star
pub data BreakQualifiers (ws : List Word) (f : Fault) : Type 0 where
  -- two spaces stand in it
  second_space : f.rule ≡ 2 → HasSecondAt IsSpaceWord ws f.at → BreakQualifiers ws f
  -- `__flash` or `__farflash` stands in it without const
  flash_not_const : f.rule ≡ 4 → HasAt IsFlashWord ws f.at → ¬ HasOne IsConstWord ws → BreakQualifiers ws f

-- `struct` stands before a tag that is none of those whose definitions have ended
abbrev pub UseNoTag : Tags → List Spec → (at : ℕ) → Type 0
UseNoTag tags [] at = ⊥
UseNoTag tags (word_spec spot word ∷ more) at = UseNoTag tags more at
UseNoTag tags (struct_spec spot (identifier tag_at tag) ∷ more) at =
    ((at_name tag tags ≡ None) × (at ≡ tag_at.index)) ⊎ UseNoTag tags more at

abbrev pub specs_in : Specs → List Spec
specs_in (specs first more) = first ∷ more

-- specifiers, where a storage word may stand or not, and these tags are defined
pub data BreakSpecifiers (tags : Tags) (may_store : Bool) (ss : Specs) (f : Fault) : Type 0 where
  -- the type words name no type
  no_type : f.rule ≡ 1 → f.at ≡ first_specs ss → ¬ NameType ss → BreakSpecifiers tags may_store ss f
  -- more than one storage word stands, the same or another
  two_storage_words : f.rule ≡ 1 → f.at ≡ first_specs ss → HasTwo IsStorageWord (words_among ss)
      → BreakSpecifiers tags may_store ss f
  -- one stands where there may be none
  storage_word : f.rule ≡ 1 → f.at ≡ first_specs ss → may_store ≡ false → HasOne IsStorageWord (words_among ss)
      → BreakSpecifiers tags may_store ss f
  -- a struct tag is used where no definition of it has ended
  no_tag : f.rule ≡ 10 → UseNoTag tags (specs_in ss) f.at → BreakSpecifiers tags may_store ss f
  qualified : BreakQualifiers (words_among ss) f → BreakSpecifiers tags may_store ss f
