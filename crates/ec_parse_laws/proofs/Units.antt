-- How units begin, and objects in named registers are read again.
use Rattle.std.proofs.Common.{◌≡◌, ℕ, List, [], ◌∷◌, Bool, true, false, Ok, Option, Some, None, refl, sym, ap, ◌∙◌}
use Rattle.std.proofs.lemmas.Bool.{true≢false}
use Rattle.ec_grammar.specs.declared.token.WordKind.{WordKind}
use Rattle.ec_grammar.specs.declared.token.WordKind.TheVariants as words
use Rattle.ec_grammar.specs.declared.token.PunctKind.TheVariants.{LeftBrace, RightBrace, Semicolon}
use Rattle.ec_grammar.specs.declared.Spot.{Spot}
use Rattle.ec_grammar.specs.Tokens as tokens
use Rattle.ec_grammar.specs.Trees as t
use Rattle.ec_grammar.specs.Trees.{Leaf}
use Rattle.ec_grammar.specs.Spelling.{leaf, mark, word, of_list, of_option, of_identifier, of_spec, of_specs, of_declarator, of_start}
use Rattle.ec_grammar.specs.Spelling.{of_next_init_declarator}
use Rattle.ec_grammar.specs.Grammar.{Is_specs, is_spec_word}
use Rattle.ec_parse_laws.specs.Codes.{same_word}
use Rattle.ec_parse_laws.specs.Reading.{leaf_if, taken, taken_word, within, members_at, structure_at, register_by, external_at}
use Rattle.ec_parse_laws.proofs.Basics.{reads_bind, same_words}
use Rattle.ec_parse_laws.proofs.Lists.{specs_read, after_type_name}

-- ---- struct definitions

pub no_member : (limit n : ℕ) (r : Spot) (rest : List Leaf) → members_at (within limit n) (mark r RightBrace ∷ rest) ≡ None
unfolding members_at leaf_if
no_member limit n r rest = refl

-- ---- objects in named registers

pub register_read : (s : Spot) (k : t.Identifier) (sp : t.Specs) (x : t.Identifier) (e : Spot) (rest : List Leaf) → Is_specs sp
    → register_by s (of_identifier k (of_specs sp (of_identifier x (mark e Semicolon ∷ rest)))) ≡ Ok ((t.register_object s k sp x e), rest)
unfolding register_by leaf_if
register_read s (t.identifier k a) sp (t.identifier j b) e rest is =
    let after : List Leaf = of_identifier (t.identifier j b) (mark e Semicolon ∷ rest) in
    reads_bind _ _ sp after (t.register_object s (t.identifier k a) sp (t.identifier j b) e) rest
    (specs_read sp after is (after_type_name (t.identifier j b) (mark e Semicolon ∷ rest)).0) (refl)

-- ---- declarations and functions

spec_no_word : (w v : WordKind) (s : Spot) (rest : List Leaf) → is_spec_word v ≡ false → is_spec_word w ≡ true
    → taken_word v (word s w ∷ rest) ≡ None
unfolding leaf_if
spec_no_word w v s rest no_v is = go (same_word w v) refl
  where
    go : (b : Bool) → same_word w v ≡ b → taken_word v (word s w ∷ rest) ≡ None
    go true same = absurd (true≢false (sym is ∙ ap is_spec_word (same_words w v same) ∙ no_v))
    go false other = rw other refl

pub specs_no_register : (s : t.Specs) (rest : List Leaf) → Is_specs s → taken_word words.Register (of_specs s rest) ≡ None
unfolding leaf_if
specs_no_register (t.specs (t.word_spec s w) more) rest is = spec_no_word w words.Register s _ refl is.0
specs_no_register (t.specs (t.struct_spec s tag) more) rest is = refl

specs_no_brace : (more : List t.Spec) (rest : List Leaf) → taken LeftBrace rest ≡ None → taken LeftBrace (of_list of_spec more rest) ≡ None
unfolding leaf_if
specs_no_brace [] rest e = e
specs_no_brace (t.word_spec s w ∷ more) rest e = refl
specs_no_brace (t.struct_spec s tag ∷ more) rest e = refl

pub specs_no_structure : (s : t.Specs) (rest : List Leaf) → Is_specs s → taken LeftBrace rest ≡ None → structure_at (of_specs s rest) ≡ None
unfolding structure_at leaf_if
specs_no_structure (t.specs (t.word_spec s w) more) rest is e =
    rw (spec_no_word w words.Struct s (of_list of_spec more rest) refl is.0) refl
specs_no_structure (t.specs (t.struct_spec s (t.identifier k x)) more) rest is e = rw (specs_no_brace more rest e) refl

pub declarator_no_brace : (d : t.Declarator) (rest : List Leaf) → taken LeftBrace (of_declarator d rest) ≡ None
unfolding leaf_if
declarator_no_brace (t.declarator [] (t.identifier s x) shape) rest = refl
declarator_no_brace (t.declarator (t.star s q ∷ stars) n shape) rest = refl

pub started_no_brace : (i : Option t.Start) (more : List t.NextInitDeclarator) (e : Spot) (rest : List Leaf)
    → taken LeftBrace (of_option of_start i (of_list of_next_init_declarator more (mark e Semicolon ∷ rest))) ≡ None
unfolding leaf_if
started_no_brace (Some (t.start s i)) more e rest = refl
started_no_brace None [] e rest = refl
started_no_brace None (t.next_init_declarator s d ∷ more) e rest = refl

-- ---- units

pub no_external : (limit n : ℕ) (s : Spot) (rest : List Leaf) → external_at (within limit n) (leaf s tokens.end ∷ rest) ≡ None
unfolding external_at structure_at leaf_if
no_external limit n s rest = refl
