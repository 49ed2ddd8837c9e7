-- What the specifiers of a declaration say (ISO/IEC 9899:1999, 6.7.1 and 6.7.2), and the rules that they can break.
use Rattle.std.specs.Prelude.{ℕ, Bool, false, not, ◌&&◌, ◌||◌, if◌then◌else◌, is_some, option_map}
use Rattle.std.specs.Prelude.{Option, Some, None, List, [], ◌∷◌}
use Rattle.ec_grammar.specs.declared.token.WordKind.{WordKind}
use Rattle.ec_grammar.specs.declared.token.WordKind.TheVariants as w
use Rattle.ec_grammar.specs.Trees.{Spec, word_spec, struct_spec, Specs, specs, identifier}
use Rattle.ec_check_operands.specs.Faults.{Judgement, rule}
use Rattle.ec_check_names.specs.declared.qualifiers.Qualities.{Qualities}
use Rattle.ec_check_names.specs.declared.specifiers.StorageWord.{StorageWord}
use Rattle.ec_check_names.specs.declared.specifiers.StorageWord.TheVariants.{Extern, Static}
use Rattle.ec_check_names.specs.declared.specifiers.Storage.{Storage}
use Rattle.ec_check_names.specs.declared.specifiers.Storages.{Storages}
use Rattle.ec_check_names.specs.declared.specifiers.Lone.{Lone}
use Rattle.ec_check_names.specs.declared.specifiers.TypeWords.{TypeWords}
use Rattle.ec_check_names.specs.declared.specifiers.Specified.{Specified}
use Rattle.ec_check_names.specs.declared.tags.TagState.{TagState}
use Rattle.ec_check_names.specs.declared.tags.TagState.TheVariants.{Undefined, Broken, Struct as StructTag}
use Rattle.ec_check_names.specs.declared.words.BaseType.{BaseType}
use Rattle.ec_check_names.specs.declared.words.BaseType.TheVariants.{Void, Number, Struct}
use Rattle.ec_check_names.specs.declared.words.Times.{Times}
use Rattle.ec_check_names.specs.declared.words.Times.TheVariants.{Never, Once, Often}
use Rattle.ec_check_names.specs.Firsts.{first_spec}
use Rattle.ec_check_names.specs.Qualifiers.{unqualified, with_quality, quality_rules}
use Rattle.ec_check_names.specs.Tags.{Tags, tag_state, is_undefined}
use Rattle.ec_check_names.specs.declared.words.Words.{Words}
use Rattle.ec_check_names.specs.Words.{again, is_never, is_at_most_once, no_words, with_word, number_type, are_none}
use Rattle.ec_check_names.specs.Words.{lone_type}

-- ---- storage words

abbrev pub storage_word : WordKind → Option StorageWord
storage_word w.Extern = Some Extern
storage_word w.Static = Some Static
storage_word word = None

abbrev pub no_storage : Storages
no_storage = record { first = None; times = Never }

-- a list's first storage word stays
abbrev pub first_storage : Option Storage → ℕ → StorageWord → Option Storage
first_storage (Some s) at word = Some s
first_storage None at word = Some (record { at = at; word = word })

abbrev pub with_storage : Storages → ℕ → Option StorageWord → Storages
with_storage s at None = s
with_storage s at (Some word) = record { first = first_storage s.first at word; times = again s.times }

abbrev pub with_spec_storage : Storages → Spec → Storages
with_spec_storage s (word_spec spot word) = with_storage s spot.index (storage_word word)
with_spec_storage s (struct_spec spot tag) = s

abbrev pub storages_from : Storages → List Spec → Storages
storages_from s [] = s
storages_from s (x ∷ xs) = storages_from (with_spec_storage s x) xs

-- how often storage words stand, and the first
abbrev pub storages_of : Specs → Storages
storages_of (specs first more) = storages_from (with_spec_storage no_storage first) more

-- ---- types

abbrev pub no_type_words : TypeWords
no_type_words = record { words = no_words; lones = Never; lone = None }

-- one more specifier that names a type alone; there is no type where it is a struct that breaks a rule or is not
-- defined
abbrev pub with_lone : TypeWords → ℕ → Option BaseType → TypeWords
with_lone t at ty = record { words = t.words; lones = again t.lones; lone = Some (record { at = at; ty = ty }) }

abbrev pub with_word_as : Option BaseType → TypeWords → ℕ → WordKind → TypeWords
with_word_as None t at word = record { words = with_word word t.words; lones = t.lones; lone = t.lone }
with_word_as (Some ty) t at word = with_lone t at (Some ty)

abbrev pub with_type_word : TypeWords → ℕ → WordKind → TypeWords
with_type_word t at word = with_word_as (lone_type word) t at word

-- the type that a tag stands for
abbrev pub struct_type : TagState → Option BaseType
struct_type Undefined = None
struct_type Broken = None
struct_type (StructTag index) = Some (Struct index)

-- whether type words name a type: those that do it together, or one specifier that does it alone
abbrev pub named_by : Times → Words → Bool
named_by Never words = is_some (number_type words)
named_by Once words = are_none words
named_by Often words = false

abbrev pub names_type : TypeWords → Bool
names_type t = named_by t.lones t.words

abbrev pub lone_of : Option Lone → Option BaseType
lone_of None = None
lone_of (Some l) = l.ty

-- the type that they name, if there is one
abbrev pub base_by : Times → Words → Option Lone → Option BaseType
base_by Never words alone = option_map Number (number_type words)
base_by Once words alone = if are_none words then lone_of alone else None
base_by Often words alone = None

abbrev pub base_of : TypeWords → Option BaseType
base_of t = base_by t.lones t.words t.lone

abbrev pub at_void : Option BaseType → Option Lone → Option ℕ
at_void (Some Void) (Some l) = Some l.at
at_void ty l = None

-- where the word `void` stands, where that is what they name
abbrev pub void_at : TypeWords → Option ℕ
void_at t = at_void (base_of t) t.lone

-- ---- all specifiers

abbrev pub nothing_said : Specified
nothing_said = record { types = no_type_words; qualities = unqualified }

abbrev pub with_spec : Tags → Specified → Spec → Specified
with_spec tags s (word_spec spot word) =
    record {
      types = with_type_word s.types spot.index word;
      qualities = with_quality s.qualities spot.index word;
    }
with_spec tags s (struct_spec spot (identifier at name)) =
    record { types = with_lone s.types spot.index (struct_type (tag_state name tags)); qualities = s.qualities }

abbrev pub specified_from : Tags → Specified → List Spec → Specified
specified_from tags s [] = s
specified_from tags s (x ∷ xs) = specified_from tags (with_spec tags s x) xs

-- what specifiers say of the type and its qualifiers, where these tags are known
abbrev pub specified : Tags → Specs → Specified
specified tags (specs first more) = specified_from tags (with_spec tags nothing_said first) more

-- ---- rules

abbrev pub with_spec_quality : Qualities → Spec → Qualities
with_spec_quality q (word_spec spot word) = with_quality q spot.index word
with_spec_quality q (struct_spec spot tag) = q

-- a specifier breaks the rules of qualifiers (2 and 4), or names a tag that is not defined (rule 10, at the tag)
abbrev pub spec_rules : Tags → Qualities → (konst : Bool) → Spec → List Judgement → List Judgement
spec_rules tags before konst (word_spec spot word) rest = quality_rules before.space konst spot.index word rest
spec_rules tags before konst (struct_spec spot (identifier at name)) rest =
    rule 10 (is_undefined (tag_state name tags)) at.index ∷ rest

abbrev pub more_spec_rules : Tags → Qualities → (konst : Bool) → List Spec → List Judgement → List Judgement
more_spec_rules tags before konst [] rest = rest
more_spec_rules tags before konst (x ∷ xs) rest =
    spec_rules tags before konst x (more_spec_rules tags (with_spec_quality before x) konst xs rest)

-- the type words name no type, more than one storage word stands, or one where there may be none
abbrev pub breaks_type_words : (may_store : Bool) → TypeWords → Storages → Bool
breaks_type_words may_store t s =
    not (names_type t) || not (is_at_most_once s.times) || not may_store && not (is_never s.times)

-- the rules of specifiers: rule 1, at the first of them, and then those of each
abbrev pub specs_rules : Tags → (may_store : Bool) → Specs → List Judgement → List Judgement
specs_rules tags may_store (specs first more) rest =
    rule 1 (breaks_type_words may_store (specified tags (specs first more)).types (storages_of (specs first more)))
    (first_spec first)
    ∷ spec_rules tags unqualified (specified tags (specs first more)).qualities.konst first
    (more_spec_rules tags (with_spec_quality unqualified first)
    (specified tags (specs first more)).qualities.konst more rest)
