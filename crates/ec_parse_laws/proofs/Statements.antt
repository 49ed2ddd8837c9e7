-- How statements begin, and their items as lists.
use Rattle.std.proofs.Common.{◌≡◌, ℕ, ◌<◌, ◌≤◌, List, [], ◌∷◌, Bool, true, false, cond, Option, Some, None, refl, sym, ap, ◌∙◌, arith}
use Rattle.std.proofs.lemmas.Bool.{true≢false}
use Rattle.ec_grammar.specs.declared.token.WordKind.{WordKind}
use Rattle.ec_grammar.specs.declared.token.WordKind.TheVariants as words
use Rattle.ec_grammar.specs.declared.token.PunctKind.{PunctKind}
use Rattle.ec_grammar.specs.declared.token.PunctKind.TheVariants.{LeftBrace, RightBrace, Semicolon}
use Rattle.ec_grammar.specs.declared.Spot.{Spot}
use Rattle.ec_grammar.specs.declared.Pragma.{Pragma}
use Rattle.ec_grammar.specs.Tokens as tokens
use Rattle.ec_grammar.specs.Tokens.{Lexeme}
use Rattle.ec_grammar.specs.Trees as t
use Rattle.ec_grammar.specs.Trees.{Leaf}
use Rattle.ec_grammar.specs.Spelling.{mark, of_list, of_option, of_pragma, of_specs, of_expression, of_declaration, of_items, of_item}
use Rattle.ec_grammar.specs.Spelling.{of_statement}
use Rattle.ec_grammar.specs.Grammar.{Given, Is_spec, Is_specs, Is_expression, Is_declaration, Are_items, Is_statement}
use Rattle.ec_grammar.specs.Nesting as nest
use Rattle.ec_parse_laws.specs.Codes.{same_punct, same_word}
use Rattle.ec_parse_laws.specs.Reading.{leaf_if, punct_if, word_if, pragma_of, keyword_of_word, is_some, taken_word, starts_specs}
use Rattle.ec_parse_laws.specs.Reading.{starts_punct, starts_lexeme, starts_statement, starts_statement_punct, first_is, within, items_of}
use Rattle.ec_parse_laws.specs.Reading.{item_at, pragma_at}
use Rattle.ec_parse_laws.proofs.Basics.{same_puncts}
use Rattle.ec_parse_laws.proofs.Follow.{expression_starts, no_word, no_leaf}
use Rattle.ec_parse_laws.proofs.Lists.{ReadsItems, specs_start}

-- ---- parts in parentheses, and expressions that may be left out

pub declaration_starts : (d : t.Declaration) (rest : List Leaf) → Is_declaration d
    → (w : Spot × WordKind × List Leaf) × (leaf_if (word_if starts_specs) (of_declaration d rest) ≡ Some w)
declaration_starts (t.declaration s d more e) rest is = specs_start s _ is.0

pub evaluated_no_specs : (e : Option t.Expression) (s : Spot) (rest : List Leaf) → Given Is_expression e
    → leaf_if (word_if starts_specs) (of_option of_expression e (mark s Semicolon ∷ rest)) ≡ None
unfolding leaf_if
evaluated_no_specs None s rest is = refl
evaluated_no_specs (Some e) s rest is = no_word starts_specs _ refl (expression_starts e _ is)

-- ---- how statements begin

cond_true : (b : Bool) → cond b true true ≡ true
cond_true true = refl
cond_true false = refl

punct_begins : (p : PunctKind) → starts_punct p ≡ true → starts_statement_punct p ≡ true
punct_begins p e = rw e (rw (cond_true (same_punct p Semicolon)) (cond_true (same_punct p LeftBrace)))

word_begins : (w : WordKind) → same_word w words.Sizeof ≡ true → cond (is_some (keyword_of_word w)) true (same_word w words.Sizeof) ≡ true
word_begins w e = rw e (cond_true (is_some (keyword_of_word w)))

lexeme_begins : (l : Lexeme) → starts_lexeme l ≡ true → starts_statement l ≡ true
lexeme_begins (tokens.word w) e = word_begins w e
lexeme_begins (tokens.punct p) e = punct_begins p e
lexeme_begins _ e = e

first_begins : (ts : List Leaf) → first_is starts_lexeme ts ≡ true → first_is starts_statement ts ≡ true
first_begins [] e = e
first_begins (x ∷ xs) e = lexeme_begins x.lexeme e

pub statement_starts : (s : t.Statement) (rest : List Leaf) → Is_statement s → first_is starts_statement (of_statement s rest) ≡ true
statement_starts (t.block (t.compound l pragmas b r)) rest is = refl
statement_starts (t.simple None s) rest is = refl
statement_starts (t.simple (Some e) s) rest is = first_begins (of_expression e (mark s Semicolon ∷ rest)) (expression_starts e _ is)
statement_starts (t.if_then s c b) rest is = refl
statement_starts (t.if_else s c b e o) rest is = refl
statement_starts (t.while_loop s c b) rest is = refl
statement_starts (t.do_loop s b w c e) rest is = refl
statement_starts (t.for_loop s h b) rest is = refl
statement_starts (t.break_loop s e) rest is = refl
statement_starts (t.continue_loop s e) rest is = refl
statement_starts (t.return_value s v e) rest is = refl

pub begins_no_specs : (l : Lexeme) → starts_statement l ≡ true → word_if starts_specs l ≡ None
begins_no_specs (tokens.word words.If) e = refl
begins_no_specs (tokens.word words.While) e = refl
begins_no_specs (tokens.word words.Do) e = refl
begins_no_specs (tokens.word words.For) e = refl
begins_no_specs (tokens.word words.Break) e = refl
begins_no_specs (tokens.word words.Continue) e = refl
begins_no_specs (tokens.word words.Return) e = refl
begins_no_specs (tokens.word words.Sizeof) e = refl
begins_no_specs (tokens.word _) e = absurd (true≢false (sym e))
begins_no_specs _ e = refl

begins_no_else : (l : Lexeme) → starts_statement l ≡ true → word_if (λ v. same_word v words.Else) l ≡ None
begins_no_else (tokens.word words.If) e = refl
begins_no_else (tokens.word words.While) e = refl
begins_no_else (tokens.word words.Do) e = refl
begins_no_else (tokens.word words.For) e = refl
begins_no_else (tokens.word words.Break) e = refl
begins_no_else (tokens.word words.Continue) e = refl
begins_no_else (tokens.word words.Return) e = refl
begins_no_else (tokens.word words.Sizeof) e = refl
begins_no_else (tokens.word _) e = absurd (true≢false (sym e))
begins_no_else _ e = refl

pub begins_no_close : (l : Lexeme) → starts_statement l ≡ true → punct_if (λ q. same_punct q RightBrace) l ≡ None
begins_no_close (tokens.punct p) e = go (same_punct p RightBrace) refl
  where
    go : (b : Bool) → same_punct p RightBrace ≡ b → punct_if (λ q. same_punct q RightBrace) (tokens.punct p) ≡ None
    go true same = absurd (true≢false (sym e ∙ ap starts_statement_punct (same_puncts p RightBrace same)))
    go false other = rw other refl
begins_no_close _ e = refl

begins_no_pragma : (l : Lexeme) → starts_statement l ≡ true → pragma_of l ≡ None
begins_no_pragma (tokens.pragma which state) e = absurd (true≢false (sym e))
begins_no_pragma _ e = refl

-- what begins a declaration is no pragma and no `else`
pub specs_no_pragma : (s : t.Specs) (rest : List Leaf) → leaf_if pragma_of (of_specs s rest) ≡ None
unfolding leaf_if
specs_no_pragma (t.specs (t.word_spec s w) more) rest = refl
specs_no_pragma (t.specs (t.struct_spec s tag) more) rest = refl

specs_no_pragma_at : (s : t.Specs) (rest : List Leaf) → pragma_at (of_specs s rest) ≡ None
unfolding leaf_if
specs_no_pragma_at (t.specs (t.word_spec s w) more) rest = refl
specs_no_pragma_at (t.specs (t.struct_spec s tag) more) rest = refl

spec_word_no_else : (w : WordKind) → starts_specs w ≡ true → word_if (λ v. same_word v words.Else) (tokens.word w) ≡ None
spec_word_no_else words.Else e = absurd (true≢false (sym e))
spec_word_no_else _ e = refl

spec_word_starts : (w : WordKind) → Is_spec (t.word_spec (record { index = 0; at = 0 }) w) → starts_specs w ≡ true
spec_word_starts w is = rw is refl

specs_no_else : (s : t.Specs) (rest : List Leaf) → Is_specs s → taken_word words.Else (of_specs s rest) ≡ None
unfolding leaf_if
specs_no_else (t.specs (t.word_spec s w) more) rest is = rw (spec_word_no_else w (spec_word_starts w is.0)) refl
specs_no_else (t.specs (t.struct_spec s tag) more) rest is = refl

pub items_no_else : (b : t.Items) (r : Spot) (rest : List Leaf) → Are_items b
    → taken_word words.Else (of_items b (mark r RightBrace ∷ rest)) ≡ None
unfolding leaf_if
items_no_else t.no_items r rest is = refl
items_no_else (t.items (t.declared (t.declaration s d more e)) others) r rest is = specs_no_else s _ is.0.0
items_no_else (t.items (t.stated s) others) r rest is = no_leaf starts_statement (word_if (λ v. same_word v words.Else)) begins_no_else
    (of_statement s (of_items others (mark r RightBrace ∷ rest))) (statement_starts s _ is.0)

pub items_no_pragma : (b : t.Items) (r : Spot) (rest : List Leaf) → Are_items b → pragma_at (of_items b (mark r RightBrace ∷ rest)) ≡ None
unfolding leaf_if
items_no_pragma t.no_items r rest is = refl
items_no_pragma (t.items (t.declared (t.declaration s d more e)) others) r rest is = specs_no_pragma_at s _
items_no_pragma (t.items (t.stated s) others) r rest is = rw (no_leaf starts_statement pragma_of begins_no_pragma
    (of_statement s (of_items others (mark r RightBrace ∷ rest))) (statement_starts s _ is.0)) refl

-- ---- statements

pub statement_opens : (s : t.Statement) → 0 < nest.opens_statement s
statement_opens (t.block (t.compound l pragmas b r)) = omega arith
statement_opens (t.simple e s) = omega arith
statement_opens (t.if_then s c b) = omega arith
statement_opens (t.if_else s c b e o) = omega arith
statement_opens (t.while_loop s c b) = omega arith
statement_opens (t.do_loop s b w c e) = omega arith
statement_opens (t.for_loop s h b) = omega arith
statement_opens (t.break_loop s e) = omega arith
statement_opens (t.continue_loop s e) = omega arith
statement_opens (t.return_value s v e) = omega arith

pub lt_of : (opens n : ℕ) → 0 < opens → opens ≤ n → 0 < n
lt_of opens n lt le = omega (arith, lt, le)

-- ---- compound statements

abbrev pub items_list : t.Items → List t.Item
items_list t.no_items = []
items_list (t.items i more) = i ∷ items_list more

pub items_same : (b : t.Items) → items_of (items_list b) ≡ b
items_same t.no_items = refl
items_same (t.items i more) = ap (t.items i) (items_same more)

pub of_items_list : (b : t.Items) (rest : List Leaf) → of_list of_item (items_list b) rest ≡ of_items b rest
of_items_list t.no_items rest = refl
of_items_list (t.items i more) rest = ap (of_item i) (of_items_list more rest)

pub no_item : (limit n : ℕ) (r : Spot) (rest : List Leaf) → item_at (within limit n) (mark r RightBrace ∷ rest) ≡ None
unfolding item_at leaf_if
no_item limit n r rest = refl

pub pragma_items : (ps : List Pragma) (rest : List Leaf) → ReadsItems pragma_at of_pragma ps rest
unfolding leaf_if
pragma_items [] rest = tt
pragma_items (p ∷ ps) rest = ((_, refl, refl), pragma_items ps rest)
