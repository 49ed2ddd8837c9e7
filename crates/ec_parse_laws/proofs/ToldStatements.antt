-- Each statement is read again from its tokens, or told too deep in time.
use Rattle.std.proofs.Common.{◌≡◌, ℕ, suc, ◌≤◌, List, ◌∷◌, length, true, Ok, Option, Some, None, refl, sym, ◌∙◌, arith, inl, inr, ◌⊎◌}
use Rattle.std.proofs.Common.{subst}
use Rattle.std.specs.Prelude.{max}
use Rattle.std.proofs.lemmas.Bool.{true≢false}
use Rattle.ec_grammar.specs.declared.token.WordKind.TheVariants as words
use Rattle.ec_grammar.specs.declared.token.PunctKind.TheVariants.{LeftBrace, RightBrace, RightParenthesis, Semicolon}
use Rattle.ec_grammar.specs.declared.Spot.{Spot}
use Rattle.ec_grammar.specs.declared.Pragma.{Pragma}
use Rattle.ec_grammar.specs.Trees as t
use Rattle.ec_grammar.specs.Trees.{Leaf}
use Rattle.ec_grammar.specs.Spelling.{mark, word, of_option, of_pragma, of_expression, of_declaration, of_condition, of_first, of_heading}
use Rattle.ec_grammar.specs.Spelling.{of_compound, of_items, of_item, of_statement}
use Rattle.ec_grammar.specs.Grammar.{Every, Given, is_open, Is_expression, Is_condition, Is_first, Is_heading, Is_compound, Are_items}
use Rattle.ec_grammar.specs.Grammar.{Is_item, Is_statement}
use Rattle.ec_grammar.specs.Nesting as nest
use Rattle.ec_grammar.specs.Nesting.{height_option}
use Rattle.ec_parse_laws.specs.Codes.{same_punct}
use Rattle.ec_parse_laws.specs.Reading.{leaf_if, punct_if, word_if, taken_word, starts_specs, starts_statement, many, room_after, within}
use Rattle.ec_parse_laws.specs.Reading.{expression_by, declaration_by, condition_by, optional_by, first_by, heading_by, substatement}
use Rattle.ec_parse_laws.specs.Reading.{item_at, pragma_at, compound_by, else_by, if_by, while_by, do_by, for_by, return_by, simple_by}
use Rattle.ec_parse_laws.specs.Reading.{statement_by}
use Rattle.ec_parse_laws.specs.Passing.{Opened, PassesOptional, PassesList, PassesExpression, PassesCondition, PassesFirst, PassesHeading}
use Rattle.ec_parse_laws.specs.Passing.{PassesCompound, PassesItems, PassesItem, PassesStatement}
use Rattle.ec_parse_laws.proofs.Basics.{inner_at, after_fits, after_le}
use Rattle.ec_parse_laws.proofs.Follow.{expression_starts, not_taken, no_leaf, no_keyword}
use Rattle.ec_parse_laws.proofs.Past.{past_length, list_past, option_past, expression_past, first_past, pragma_past, pragma_long, item_long}
use Rattle.ec_parse_laws.proofs.Past.{statement_long}
use Rattle.ec_parse_laws.proofs.Lists.{reads_many}
use Rattle.ec_parse_laws.proofs.Statements.{statement_opens, lt_of, declaration_starts, evaluated_no_specs, statement_starts}
use Rattle.ec_parse_laws.proofs.Statements.{begins_no_specs, begins_no_close, items_no_else, items_no_pragma, items_list, items_same}
use Rattle.ec_parse_laws.proofs.Statements.{of_items_list, no_item, pragma_items}
use Rattle.ec_parse_laws.proofs.Fits.{fits_statement, fits_compound}
use Rattle.ec_parse_laws.proofs.Told.{Told, FitsIn, told_part, ToldAt, ToldItems, told_ok, told_map, told_wide, told_bind, told_then}
use Rattle.ec_parse_laws.proofs.Told.{told_skip, told_ended, told_high, told_high_two, told_high_three, told_leaf, told_inside, told_begun}
use Rattle.ec_parse_laws.proofs.Told.{told_many}
use Rattle.ec_parse_laws.proofs.ToldExpressions.{tells_expression}
use Rattle.ec_parse_laws.proofs.ToldDeclarations.{declaration_told}

-- ---- parts in parentheses, and expressions that may be left out

condition_told : (limit n : ℕ) (c : t.Condition) (rest : List Leaf) → Is_condition c
    → Told (length (of_condition c rest)) (FitsIn limit n (nest.height_condition c) (nest.opens_condition c))
    (λ q. PassesCondition limit n c rest q) (condition_by (within limit n) (of_condition c rest)) c rest
unfolding condition_by leaf_if
condition_told limit n (t.condition l e r) rest is =
    let end : List Leaf = mark r RightParenthesis ∷ rest in
    told_inside (λ m q. PassesExpression limit m e end q) limit n (of_expression e end) _ (t.condition l e r) rest (λ f. omega (arith, f.1))
    (λ m deep. told_then _ _ e end (t.condition l e r) rest (told_part (λ f. (f.0, omega (arith, f.1, deep)))
    (tells_expression e limit m limit end (omega arith) is (omega arith))) refl (omega arith)) (omega arith)
    (omega (arith, past_length _ _ (expression_past e end)))

abbrev FitsOptional : ℕ → ℕ → Option t.Expression → Type 0
FitsOptional limit n e = FitsIn limit n (height_option nest.height_expression e) (height_option nest.opens_expression e)

optional_semicolon : (limit n : ℕ) (e : Option t.Expression) (s : Spot) (rest : List Leaf)
    → Given Is_expression e → Told (length (of_option of_expression e (mark s Semicolon ∷ rest)))
    (FitsOptional limit n e) (λ q. PassesOptional limit n e (mark s Semicolon ∷ rest) q)
    (optional_by (expression_by (within limit n) limit) Semicolon (of_option of_expression e (mark s Semicolon ∷ rest))) (e, s) rest
unfolding optional_by leaf_if
optional_semicolon limit n None s rest is = told_ok _ _ (None, s) rest refl (omega arith)
optional_semicolon limit n (Some e) s rest is =
    let end : List Leaf = mark s Semicolon ∷ rest in
    rw (not_taken Semicolon (of_expression e end) refl (expression_starts e end is))
    (told_then _ _ e end (Some e, s) rest (tells_expression e limit n limit end (omega arith) is (omega arith)) refl (omega arith))

optional_close : (limit n : ℕ) (e : Option t.Expression) (s : Spot) (rest : List Leaf) → Given Is_expression e
    → Told (length (of_option of_expression e (mark s RightParenthesis ∷ rest))) (FitsOptional limit n e)
    (λ q. PassesOptional limit n e (mark s RightParenthesis ∷ rest) q) (optional_by (expression_by (within limit n) limit) RightParenthesis
    (of_option of_expression e (mark s RightParenthesis ∷ rest))) (e, s) rest
unfolding optional_by leaf_if
optional_close limit n None s rest is = told_ok _ _ (None, s) rest refl (omega arith)
optional_close limit n (Some e) s rest is =
    let end : List Leaf = mark s RightParenthesis ∷ rest in
    rw (not_taken RightParenthesis (of_expression e end) refl (expression_starts e end is))
    (told_then _ _ e end (Some e, s) rest (tells_expression e limit n limit end (omega arith) is (omega arith)) refl (omega arith))

first_told : (limit m : ℕ) (f : t.First) (rest : List Leaf) → Is_first f → Told (length (of_first f rest)) (FitsIn limit m
    (nest.height_first f) (nest.opens_first f)) (λ q. PassesFirst limit m f rest q) (first_by (inner_at limit m) (of_first f rest)) f rest
unfolding first_by
first_told limit m (t.first_declared d) rest is =
    rw (declaration_starts d rest is).1
    (told_then _ _ d rest (t.first_declared d) rest (declaration_told limit m d rest is) refl (omega arith))
first_told limit m (t.first_evaluated e s) rest is =
    rw (evaluated_no_specs e s rest is)
    (told_then _ _ (e, s) rest (t.first_evaluated e s) rest (optional_semicolon limit m e s rest is) refl (omega arith))

heading_told : (limit n : ℕ) (h : t.Heading) (rest : List Leaf) → Is_heading h
    → Told (length (of_heading h rest)) (FitsIn limit n (nest.height_heading h) (nest.opens_heading h))
    (λ q. PassesHeading limit n h rest q) (heading_by (within limit n) (of_heading h rest)) h rest
unfolding heading_by leaf_if
heading_told limit n (t.heading l f c s e r) rest is =
    let h : t.Heading = t.heading l f c s e r in
    let end : List Leaf = mark r RightParenthesis ∷ rest in
    let last : List Leaf = of_option of_expression e end in
    let middle : List Leaf = of_option of_expression c (mark s Semicolon ∷ last) in
    told_inside
    (λ m q. PassesFirst limit m f middle q ⊎ (PassesOptional limit m c (mark s Semicolon ∷ last) q ⊎ PassesOptional limit m e end q)) limit
    n (of_first f middle) _ h rest (λ f. omega (arith, f.1))
    (λ m deep.
    told_bind _ _ f middle h rest (told_part (λ f. (omega (arith, f.0), omega (arith, f.1, deep))) (first_told limit m f middle is.0))
    (told_bind _ _ (c, s) last h rest
    (told_part (λ f. (omega (arith, f.0), omega (arith, f.1, deep))) (optional_semicolon limit m c s last is.1))
    (told_then _ _ (e, r) rest h rest (told_part (λ f. (omega (arith, f.0), omega (arith, f.1, deep)))
    (optional_close limit m e r rest is.2)) refl (omega arith)) (omega arith)) (omega arith))
    (omega arith) (omega (
      arith,
      past_length _ _ (first_past f middle),
      past_length _ _ (option_past of_expression expression_past c (mark s Semicolon ∷ last)),
      past_length _ _ (option_past of_expression expression_past e end),
    ))

-- ---- statements

-- a statement, whatever follows but an `else` that it would take
abbrev pub TellsStatement : t.Statement → Type 0
TellsStatement s = (limit n room : ℕ) (rest : List Leaf) → room ≤ limit
    → Is_statement s → (is_open s ≡ true → taken_word words.Else rest ≡ None)
    → Told (length (of_statement s rest)) (FitsIn room (suc n) (nest.height_statement s) (nest.opens_statement s))
    (λ q. PassesStatement limit n s rest q) (statement_by (within limit n) room (of_statement s rest)) s rest

abbrev pub TellsCompound : t.Compound → Type 0
TellsCompound c = (limit n room : ℕ) (rest : List Leaf) → room ≤ limit → Is_compound c
    → Told (length (of_compound c rest)) (FitsIn room (suc n) (nest.height_compound c) (nest.opens_compound c))
    (λ q. PassesCompound limit n c rest q) (compound_by (within limit n) room (of_compound c rest)) c rest

-- its height keeps to the limit where it is read
low : (limit n room : ℕ) (s : t.Statement) (rest : List Leaf) → room ≤ limit
    → statement_by (within limit n) room (of_statement s rest) ≡ Ok (s, rest) → nest.height_statement s ≤ limit
low limit n room s rest le e = omega (arith, (fits_statement limit n room le (of_statement s rest) (s, rest) e).0, le)

substatement_told : (s : t.Statement) → TellsStatement s → (limit n room : ℕ) (rest : List Leaf) → room ≤ limit → Is_statement s
    → (is_open s ≡ true → taken_word words.Else rest ≡ None)
    → Told (length (of_statement s rest)) (FitsIn room n (nest.height_statement s) (nest.opens_statement s))
    (λ q. Opened n (length (of_statement s rest)) q (λ m. PassesStatement limit m s rest q))
    (substatement (within limit n) room (of_statement s rest)) s rest
substatement_told s tells limit n room rest le is no_else =
    told_begun (λ m q. PassesStatement limit m s rest q) starts_statement limit n (of_statement s rest) _ s rest
    (statement_starts s rest is) (λ f. lt_of (nest.opens_statement s) n (statement_opens s) f.1)
    (λ m deep. told_part (λ f. (f.0, omega (arith, f.1, deep))) (tells limit m room rest le is no_else)) (omega arith)
    (statement_long s rest)

statement_block : (c : t.Compound) → TellsCompound c → TellsStatement (t.block c)
unfolding statement_by leaf_if
statement_block (t.compound l pragmas b r) tells limit n room rest le is no_else = told_then _ _ (t.compound l pragmas b r) rest
    (t.block (t.compound l pragmas b r)) rest (tells limit n room rest le is) refl (omega arith)

simple_told : (e : Option t.Expression) (s : Spot) (limit n room : ℕ) (rest : List Leaf) → room ≤ limit → Given Is_expression e
    → Told (length (of_option of_expression e (mark s Semicolon ∷ rest))) (FitsIn room (suc n) (nest.height_statement (t.simple e s))
    (nest.opens_statement (t.simple e s))) (λ q. PassesOptional limit n e (mark s Semicolon ∷ rest) q)
    (simple_by (within limit n) room (of_option of_expression e (mark s Semicolon ∷ rest))) (t.simple e s) rest
unfolding simple_by
simple_told e s limit n room rest le is = told_ended room _ _ _ (e, s) rest (t.simple e s) rest (λ f. f.0)
    (told_part (λ f. (omega (arith, f.0, le), omega (arith, f.1))) (optional_semicolon limit n e s rest is)) refl (omega arith)

statement_simple : (e : Option t.Expression) (s : Spot) → TellsStatement (t.simple e s)
unfolding statement_by leaf_if
statement_simple None s limit n room rest le is no_else =
    told_high limit (nest.height_statement (t.simple None s)) _ _ _ (t.simple None s) rest (low limit n room (t.simple None s) rest le)
    (simple_told None s limit n room rest le is)
statement_simple (Some e) s limit n room rest le is no_else =
    told_high limit (nest.height_statement (t.simple (Some e) s)) _ _ _ (t.simple (Some e) s) rest
    (low limit n room (t.simple (Some e) s) rest le)
    (rw (
      no_keyword (of_expression e (mark s Semicolon ∷ rest)) (expression_starts e _ is),
      not_taken LeftBrace (of_expression e (mark s Semicolon ∷ rest)) refl (expression_starts e _ is),
    ) (simple_told (Some e) s limit n room rest le is))

statement_if : (s : Spot) (c : t.Condition) (b : t.Statement) → TellsStatement b → TellsStatement (t.if_then s c b)
unfolding statement_by if_by else_by leaf_if
statement_if s c b tells limit n room rest le is no_else =
    let x : t.Statement = t.if_then s c b in
    told_high_two limit (nest.height_statement x) _ _ _ _ x rest (low limit n room x rest le)
    (told_bind _ _ c (of_statement b rest) x rest (told_part (λ f. (omega (arith, f.0, le), omega (arith, f.1))) (told_wide
    (length (of_condition c (of_statement b rest))) _ _ _ c _ (omega arith) (condition_told limit n c (of_statement b rest) is.0)))
    (told_then _ _ b rest x rest (told_part (λ f. (
      after_fits room (nest.height_condition c) (nest.height_statement b) f.0,
      omega (arith, f.1),
    )) (substatement_told b tells limit n (room_after room (nest.height_condition c)) rest
    (after_le room (nest.height_condition c) limit le) is.1 (λ e. no_else refl))) (rw (no_else refl) refl) (omega arith)) (omega arith))

statement_else : (s : Spot) (c : t.Condition) (b : t.Statement) (e : Spot) (o : t.Statement) → TellsStatement b → TellsStatement o
    → TellsStatement (t.if_else s c b e o)
unfolding statement_by if_by else_by leaf_if
statement_else s c b e o tells_b tells_o limit n room rest le is no_else =
    let x : t.Statement = t.if_else s c b e o in
    let after : List Leaf = word e words.Else ∷ of_statement o rest in
    let first : ℕ = max (nest.height_condition c) (nest.height_statement b) in
    told_high_three limit (nest.height_statement x) _ _ _ _ _ x rest (low limit n room x rest le)
    (told_bind _ _ c (of_statement b after) x rest (told_part (λ f. (omega (arith, f.0, le), omega (arith, f.1))) (told_wide
    (length (of_condition c (of_statement b after))) _ _ _ c _ (omega arith) (condition_told limit n c (of_statement b after) is.0)))
    (told_bind _ _ b after x rest (told_part (λ f. (
      after_fits room (nest.height_condition c) (nest.height_statement b) (omega (arith, f.0)),
      omega (arith, f.1),
    )) (substatement_told b tells_b limit n (room_after room (nest.height_condition c)) after
    (after_le room (nest.height_condition c) limit le) is.1 (λ yes. absurd (true≢false (sym yes ∙ is.2)))))
    (told_then _ _ o rest x rest (told_part (λ f. (after_fits room first (nest.height_statement o) f.0, omega (arith, f.1)))
    (substatement_told o tells_o limit n (room_after room first) rest (after_le room first limit le) is.3 no_else)) refl (omega arith))
    (omega arith)) (omega arith))

statement_while : (s : Spot) (c : t.Condition) (b : t.Statement) → TellsStatement b → TellsStatement (t.while_loop s c b)
unfolding statement_by while_by leaf_if
statement_while s c b tells limit n room rest le is no_else =
    let x : t.Statement = t.while_loop s c b in
    told_high_two limit (nest.height_statement x) _ _ _ _ x rest (low limit n room x rest le)
    (told_bind _ _ c (of_statement b rest) x rest (told_part (λ f. (omega (arith, f.0, le), omega (arith, f.1))) (told_wide
    (length (of_condition c (of_statement b rest))) _ _ _ c _ (omega arith) (condition_told limit n c (of_statement b rest) is.0)))
    (told_then _ _ b rest x rest (told_part (λ f. (
      after_fits room (nest.height_condition c) (nest.height_statement b) f.0,
      omega (arith, f.1),
    )) (substatement_told b tells limit n (room_after room (nest.height_condition c)) rest
    (after_le room (nest.height_condition c) limit le) is.1 no_else)) refl (omega arith)) (omega arith))

statement_do : (s : Spot) (b : t.Statement) (w : Spot) (c : t.Condition) (e : Spot) → TellsStatement b
    → TellsStatement (t.do_loop s b w c e)
unfolding statement_by do_by leaf_if
statement_do s b w c e tells limit n room rest le is no_else =
    let x : t.Statement = t.do_loop s b w c e in
    let end : List Leaf = mark e Semicolon ∷ rest in
    let after : List Leaf = word w words.While ∷ of_condition c end in
    told_high_two limit (nest.height_statement x) _ _ _ _ x rest (low limit n room x rest le)
    (told_bind _ _ b after x rest (told_part (λ f. (omega (arith, f.0, le), omega (arith, f.1))) (told_wide (length (of_statement b after))
    _ _ _ b _ (omega arith) (substatement_told b tells limit n limit after (omega arith) is.0 (λ yes. refl))))
    (told_ended room _ _ _ c end x rest (λ f. f.0)
    (told_part (λ f. (omega (arith, f.0, le), omega (arith, f.1))) (condition_told limit n c end is.1)) refl (omega arith)) (omega arith))

statement_for : (s : Spot) (h : t.Heading) (b : t.Statement) → TellsStatement b → TellsStatement (t.for_loop s h b)
unfolding statement_by for_by leaf_if
statement_for s h b tells limit n room rest le is no_else =
    let x : t.Statement = t.for_loop s h b in
    told_high_two limit (nest.height_statement x) _ _ _ _ x rest (low limit n room x rest le)
    (told_bind _ _ h (of_statement b rest) x rest (told_part (λ f. (omega (arith, f.0, le), omega (arith, f.1)))
    (told_wide (length (of_heading h (of_statement b rest))) _ _ _ h _ (omega arith) (heading_told limit n h (of_statement b rest) is.0)))
    (told_then _ _ b rest x rest (told_part (λ f. (
      after_fits room (nest.height_heading h) (nest.height_statement b) f.0,
      omega (arith, f.1),
    )) (substatement_told b tells limit n (room_after room (nest.height_heading h)) rest
    (after_le room (nest.height_heading h) limit le) is.1 no_else)) refl (omega arith)) (omega arith))

statement_break : (s e : Spot) → TellsStatement (t.break_loop s e)
unfolding statement_by leaf_if
statement_break s e limit n room rest le is no_else = told_leaf _ limit room 1 (t.break_loop s e) rest (λ f. f.0) le (omega arith)

statement_continue : (s e : Spot) → TellsStatement (t.continue_loop s e)
unfolding statement_by leaf_if
statement_continue s e limit n room rest le is no_else = told_leaf _ limit room 1 (t.continue_loop s e) rest (λ f. f.0) le (omega arith)

statement_return : (s : Spot) (v : Option t.Expression) (e : Spot) → TellsStatement (t.return_value s v e)
unfolding statement_by return_by leaf_if
statement_return s v e limit n room rest le is no_else =
    let x : t.Statement = t.return_value s v e in
    told_high limit (nest.height_statement x) _ _ _ x rest (low limit n room x rest le)
    (told_ended room _ _ _ (v, e) rest x rest (λ f. f.0)
    (told_part (λ f. (omega (arith, f.0, le), omega (arith, f.1))) (told_wide (length (of_option of_expression v (mark e Semicolon ∷ rest)))
    _ _ _ (v, e) rest (omega arith) (optional_semicolon limit n v e rest is))) refl (omega arith))

-- ---- compound statements

abbrev FitsItem : ℕ → ℕ → t.Item → Type 0
FitsItem limit n i = FitsIn limit n (nest.height_item i) (nest.opens_item i)

abbrev FitsItems : ℕ → ℕ → t.Items → Type 0
FitsItems limit n b = FitsIn limit n (nest.height_items b) (nest.opens_items b)

items_fit : (limit n : ℕ) (b : t.Items) → FitsItems limit n b → Every (FitsItem limit n) (items_list b)
items_fit limit n t.no_items f = tt
items_fit limit n (t.items i more) f = (
  (omega (arith, f.0), omega (arith, f.1)),
  items_fit limit n more (omega (arith, f.0), omega (arith, f.1)),
)

abbrev TellsItem : t.Item → Type 0
TellsItem i = (limit n : ℕ) (rest : List Leaf) → Is_item i → taken_word words.Else rest ≡ None → ToldAt (length (of_item i rest))
    (FitsItem limit n i) (λ q. PassesItem limit n i rest q) (item_at (within limit n) (of_item i rest)) i rest

abbrev TellsItems : t.Items → Type 0
TellsItems b = (limit n : ℕ) (r : Spot) (rest : List Leaf) → Are_items b
    → ToldItems (item_at (within limit n)) of_item (PassesItem limit n) (FitsItem limit n) (items_list b) (mark r RightBrace ∷ rest)

items_pass : (limit n : ℕ) (b : t.Items) (rest : List Leaf) (q : ℕ) → PassesItems limit n b rest q
    → PassesList of_item (PassesItem limit n) (items_list b) rest q
items_pass limit n t.no_items rest q h = h
items_pass limit n (t.items i more) rest q (inl h) = inl (subst (λ z. PassesItem limit n i z q) (sym (of_items_list more rest)) h)
items_pass limit n (t.items i more) rest q (inr h) = inr (items_pass limit n more rest q h)

item_declared : (d : t.Declaration) → TellsItem (t.declared d)
unfolding item_at
item_declared d limit n rest is no_else = (
  _,
  rw (declaration_starts d rest is).1 refl,
  told_then (declaration_by (within limit n) (of_declaration d rest)) (λ x. Ok (t.declared x.0, x.1)) d rest (t.declared d) rest
      (declaration_told limit n d rest is) refl (omega arith),
)

item_stated : (s : t.Statement) → TellsStatement s → TellsItem (t.stated s)
unfolding item_at
item_stated s tells limit n rest is no_else = (
  _,
  rw (
    no_leaf starts_statement (word_if starts_specs) begins_no_specs (of_statement s rest) (statement_starts s rest is),
    no_leaf starts_statement (punct_if (λ q. same_punct q RightBrace)) begins_no_close (of_statement s rest) (statement_starts s rest is),
  ) refl,
  told_then (substatement (within limit n) limit (of_statement s rest)) (λ x. Ok (t.stated x.0, x.1)) s rest (t.stated s) rest
      (substatement_told s tells limit n limit rest (omega arith) is (λ yes. no_else)) refl (omega arith),
)

items_none : TellsItems t.no_items
items_none limit n r rest is = tt

items_more : (i : t.Item) (more : t.Items) → TellsItem i → TellsItems more → TellsItems (t.items i more)
items_more i more tells others limit n r rest is = (
  subst
      (λ z. ToldAt (length (of_item i z)) (FitsItem limit n i) (λ q. PassesItem limit n i z q) (item_at (within limit n) (of_item i z)) i z)
      (sym (of_items_list more (mark r RightBrace ∷ rest)))
      (tells limit n (of_items more (mark r RightBrace ∷ rest)) is.0 (items_no_else more r rest is.1)),
  others limit n r rest is.1,
)

compound_told : (l : Spot) (pragmas : List Pragma) (b : t.Items) (r : Spot) → TellsItems b → TellsCompound (t.compound l pragmas b r)
unfolding compound_by leaf_if
compound_told l pragmas b r tells limit n room rest le is =
    let c : t.Compound = t.compound l pragmas b r in
    let end : List Leaf = mark r RightBrace ∷ rest in
    let all = told_many (item_at (within limit n)) of_item (PassesItem limit n) (FitsItem limit n) item_long (items_list b) end
    (items_fit limit n b) (tells limit n r rest is) (no_item limit n r rest) in
    let here : Told (length (of_items b end)) (FitsItems limit n b) (λ q. PassesList of_item (PassesItem limit n) (items_list b) end q)
    (many (item_at (within limit n)) (of_items b end)) (items_list b) end =
    subst (λ ts. Told (length ts) (FitsItems limit n b) (λ q. PassesList of_item (PassesItem limit n) (items_list b) end q)
    (many (item_at (within limit n)) ts) (items_list b) end) (of_items_list b end) all in
    told_high limit (nest.height_compound c) _ (λ q. PassesItems limit n b end q) _ c rest
    (λ e. omega (arith, (fits_compound limit n room le (of_compound c rest) (c, rest) e).0, le))
    (told_skip _ _ pragmas (of_items b end) c rest (reads_many pragma_at of_pragma pragma_long pragmas (of_items b end)
    (pragma_items pragmas (of_items b end)) (items_no_pragma b r rest is))
    (told_map (length (of_items b end)) (λ q. PassesItems limit n b end q)
    (λ q. PassesList of_item (PassesItem limit n) (items_list b) end q) _ c rest (items_pass limit n b end)
    (told_ended room (suc (nest.height_items b)) (many (item_at (within limit n)) (of_items b end)) _ (items_list b) end c rest
    (λ f. f.0) (told_part (λ f. (omega (arith, f.0, le), omega (arith, f.1))) here) (rw (items_same b) refl) (omega arith)))
    (omega (arith, past_length _ _ (list_past of_pragma pragma_past pragmas (of_items b end)))))

mutual
  pub tells_compound : (c : t.Compound) → TellsCompound c
  tells_compound (t.compound l pragmas b r) = compound_told l pragmas b r (tells_items b)

  tells_items : (b : t.Items) → TellsItems b
  tells_items t.no_items = items_none
  tells_items (t.items i more) = items_more i more (tells_item i) (tells_items more)

  tells_item : (i : t.Item) → TellsItem i
  tells_item (t.declared d) = item_declared d
  tells_item (t.stated s) = item_stated s (tells_statement s)

  tells_statement : (s : t.Statement) → TellsStatement s
  tells_statement (t.block c) = statement_block c (tells_compound c)
  tells_statement (t.simple e s) = statement_simple e s
  tells_statement (t.if_then s c b) = statement_if s c b (tells_statement b)
  tells_statement (t.if_else s c b e o) = statement_else s c b e o (tells_statement b) (tells_statement o)
  tells_statement (t.while_loop s c b) = statement_while s c b (tells_statement b)
  tells_statement (t.do_loop s b w c e) = statement_do s b w c e (tells_statement b)
  tells_statement (t.for_loop s h b) = statement_for s h b (tells_statement b)
  tells_statement (t.break_loop s e) = statement_break s e
  tells_statement (t.continue_loop s e) = statement_continue s e
  tells_statement (t.return_value s v e) = statement_return s v e
