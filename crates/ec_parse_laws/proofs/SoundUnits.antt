-- What is read is a derivation: declarations, statements and units.
use Rattle.std.proofs.Common.{◌≡◌, ℕ, zero, suc, List, [], ◌∷◌, Bool, true, false, Ok, Option, Some, None, refl, sym, ap, ◌∙◌, inl, inr}
use Rattle.std.proofs.Common.{subst}
use Rattle.std.proofs.lemmas.Bool.{true≢false}
use Rattle.ec_grammar.specs.declared.token.WordKind.{WordKind}
use Rattle.ec_grammar.specs.declared.token.WordKind.TheVariants as words
use Rattle.ec_grammar.specs.declared.token.PunctKind.{PunctKind}
use Rattle.ec_grammar.specs.declared.token.PunctKind.TheVariants.{LeftBrace, RightBrace, LeftParenthesis, RightParenthesis, LeftBracket}
use Rattle.ec_grammar.specs.declared.token.PunctKind.TheVariants.{RightBracket, Semicolon, Comma, Assign}
use Rattle.ec_grammar.specs.declared.Spot.{Spot}
use Rattle.ec_grammar.specs.declared.Pragma.{Pragma}
use Rattle.ec_grammar.specs.Tokens as tokens
use Rattle.ec_grammar.specs.Trees as t
use Rattle.ec_grammar.specs.Trees.{Leaf}
use Rattle.ec_grammar.specs.Spelling.{leaf, mark, word, of_list, of_option, of_identifier, of_pragma, of_star, of_specs, of_type_name}
use Rattle.ec_grammar.specs.Spelling.{of_expression, of_conditional, of_param, of_next_param, of_params, of_shape, of_declarator, of_comma}
use Rattle.ec_grammar.specs.Spelling.{of_initialiser, of_initialisers, of_start, of_init_declarator, of_next_init_declarator}
use Rattle.ec_grammar.specs.Spelling.{of_declaration, of_next_declarator, of_member, of_structure, of_register_object, of_condition}
use Rattle.ec_grammar.specs.Spelling.{of_first, of_heading, of_compound, of_items, of_item, of_statement, of_external, of_tree}
use Rattle.ec_grammar.specs.Grammar.{Every, Given, lone_void, is_open, Is_star, Is_specs, Is_type_name, Is_expression, Is_param}
use Rattle.ec_grammar.specs.Grammar.{Is_next_param, Are_params, Is_shape, Is_declarator, Is_initialiser, Are_initialisers, Is_start}
use Rattle.ec_grammar.specs.Grammar.{Is_init_declarator, Is_next_init_declarator, Is_declaration, Is_next_declarator, Is_member}
use Rattle.ec_grammar.specs.Grammar.{Is_structure, Is_register_object, Is_condition, Is_first, Is_heading, Is_compound, Are_items, Is_item}
use Rattle.ec_grammar.specs.Grammar.{Is_statement, Is_external, Is_tree}
use Rattle.ec_parse_laws.specs.Reading.{Read, leaf_if, word_if, name_of, pragma_of, end_of, taken, taken_word, needed, expected}
use Rattle.ec_parse_laws.specs.Reading.{expected_word, identifier, identifier_at, starts_specs, starts_statement, Keyword, if_word}
use Rattle.ec_parse_laws.specs.Reading.{while_word, do_word, for_word, break_word, continue_word, return_word, keyword_of, many}
use Rattle.ec_parse_laws.specs.Reading.{behind_comma, Inner, Depth, opened_at, within, star_at, specs_by, type_name_by, name_at, param_by}
use Rattle.ec_parse_laws.specs.Reading.{void_at, params_by, array_by, shape_by, declarator_by, initialisers_of, initialiser_at, comma_at}
use Rattle.ec_parse_laws.specs.Reading.{braces_by, initialiser_by, start_by, init_declarator_by, declared_by, declaration_by, members_by}
use Rattle.ec_parse_laws.specs.Reading.{members_at, expression_by, assignment_by, condition_by, optional_by, first_by, heading_by}
use Rattle.ec_parse_laws.specs.Reading.{substatement, items_of, item_at, pragma_at, compound_by, else_by, if_by, while_by, do_by, for_by}
use Rattle.ec_parse_laws.specs.Reading.{return_by, worded_by, simple_by, statement_by, structure_at, structure_by, register_by, is_brace}
use Rattle.ec_parse_laws.specs.Reading.{heading_of, function_at, defined_by, external_at, unit_by, whole, read}
use Rattle.ec_parse_laws.proofs.Basics.{ok_is, some_is, no_some, no_ok, bind_ok, when_is, when_some, cond_ok, ends_ok, inside_ok, begun_ok}
use Rattle.ec_parse_laws.proofs.Basics.{taken_is, taken_word_is, needed_is, expected_is, expected_word_is, name_is, identifier_is}
use Rattle.ec_parse_laws.proofs.Basics.{pragma_is, end_is, keyword_is, word_of_keyword, Spelled, Sound, SoundAt, many_is, inner_at}
use Rattle.ec_parse_laws.proofs.Sound.{StatementAt, SoundInner, SoundIn, comma_item_is, star_is, specs_are, type_name_is, expression_is}
use Rattle.ec_parse_laws.proofs.Sound.{assignment_is, conditional_is, cast_is, unary_is}
use Rattle.ec_parse_laws.proofs.Declarations.{of_initial_pair}

-- ---- declarators

name_reads : Sound (of_option of_identifier) (Given (λ (n : t.Identifier). Unit {0})) name_at
name_reads ts y e =
    elim (when_is (leaf_if name_of ts) _ _ _ e) [
      | inl x ↦
          subst (Spelled (of_option of_identifier) (Given (λ (n : t.Identifier). Unit {0})) ts) (ok_is _ _ x.2) (name_is ts x.0 x.1, tt)
      | inr k ↦ subst (Spelled (of_option of_identifier) (Given (λ (n : t.Identifier). Unit {0})) ts) (ok_is _ _ k.1) (refl, tt)
    ]

pub param_is : Sound of_param Is_param param_by
unfolding param_by
param_is ts y e =
    let ty = bind_ok (type_name_by ts) _ _ e in
    let n = bind_ok (name_at ty.0.1) _ _ ty.2 in
    let sure = cond_ok (lone_void ty.0.0 n.0.0) _ _ _ n.2 in
    let one = type_name_is ts ty.0 ty.1 in
    let named = name_reads ty.0.1 n.0 n.1 in
    subst (Spelled of_param Is_param ts) (ok_is _ _ sure.1) (one.0 ∙ ap (of_type_name ty.0.0) named.0, (one.1, sure.0))

void_is : (ts : List Leaf) (y : _) → void_at ts ≡ Some y → ts ≡ word y.0 words.Void ∷ y.2
unfolding void_at
void_is ts y e =
    let v = when_some (taken_word words.Void ts) _ _ e in
    let r = when_some (taken RightParenthesis v.0.2) _ _ v.2 in
    taken_word_is words.Void ts y (v.1 ∙ r.2)

pub params_are : Sound of_params Are_params params_by
unfolding params_by
params_are ts y e =
    elim (when_is (void_at ts) _ _ _ e) [
      | inl v ↦ subst (Spelled of_params Are_params ts) (ok_is _ _ v.2) (void_is ts v.0 v.1, tt)
      | inr k ↦
          let p = bind_ok (param_by ts) _ _ k.1 in
          let more = bind_ok (many (behind_comma t.next_param param_by) p.0.1) _ _ p.2 in
          let one = param_is ts p.0 p.1 in
          let others = many_is of_next_param Is_next_param (behind_comma t.next_param param_by)
          (comma_item_is t.next_param param_by of_param Is_param of_next_param Is_next_param param_is (λ s x rest. refl) (λ s x is. is))
          p.0.1 more.0 more.1 in
          subst (Spelled of_params Are_params ts) (ok_is _ _ more.2) (one.0 ∙ ap (of_param p.0.0) others.0, (one.1, others.1))
    ]

array_is : (i : Inner) → SoundInner i → (l : Spot) (ts : List Leaf) (y : t.Shape × List Leaf) → array_by i l ts ≡ Ok y
    → Spelled of_shape Is_shape (mark l LeftBracket ∷ ts) y
unfolding array_by
array_is i sound l ts y e =
    elim (when_is (taken RightBracket ts) _ _ _ e) [
      | inl r ↦ subst (Spelled of_shape Is_shape (mark l LeftBracket ∷ ts)) (ok_is _ _ r.2)
          (ap (λ z. mark l LeftBracket ∷ z) (taken_is RightBracket ts r.0 r.1), tt)
      | inr k ↦
          let c = bind_ok (i.conditional i.limit ts) _ _ k.1 in
          let r = bind_ok (expected RightBracket c.0.1) _ _ c.2 in
          let made = sound.conditional i.limit ts c.0 c.1 in
          subst (Spelled of_shape Is_shape (mark l LeftBracket ∷ ts)) (ok_is _ _ r.2)
          (ap (λ z. mark l LeftBracket ∷ z) (made.0 ∙ ap (of_conditional c.0.0) (expected_is RightBracket c.0.1 r.0 r.1)), made.1)
    ]

shape_is : (inner : Depth) → SoundIn inner → Sound of_shape Is_shape (shape_by inner)
unfolding shape_by
shape_is inner sound ts y e =
    elim (when_is (taken LeftBracket ts) _ _ _ e) [
      | inl l ↦
          let i = inside_ok inner l.0.2 _ _ l.2 in
          let made = array_is i.0 (sound i.0 i.1) l.0.0 l.0.2 y i.2 in
          (taken_is LeftBracket ts l.0 l.1 ∙ made.0, made.1)
      | inr k ↦ elim (when_is (taken LeftParenthesis ts) _ _ _ k.1) [
        | inl l ↦
            let i = inside_ok inner l.0.2 _ _ l.2 in
            let p = bind_ok (params_by l.0.2) _ _ i.2 in
            let r = bind_ok (expected RightParenthesis p.0.1) _ _ p.2 in
            let made = params_are l.0.2 p.0 p.1 in
            subst (Spelled of_shape Is_shape ts) (ok_is _ _ r.2) (
              taken_is LeftParenthesis ts l.0 l.1
                  ∙ ap (λ z. mark l.0.0 LeftParenthesis ∷ z) (made.0 ∙ ap (of_params p.0.0) (expected_is RightParenthesis p.0.1 r.0 r.1)),
              made.1,
            )
        | inr j ↦ subst (Spelled of_shape Is_shape ts) (ok_is _ _ j.1) (refl, tt)
      ]
    ]

pub declarator_is : (inner : Depth) → SoundIn inner → Sound of_declarator Is_declarator (declarator_by inner)
unfolding declarator_by
declarator_is inner sound ts y e =
    let stars = bind_ok (many star_at ts) _ _ e in
    let n = bind_ok (identifier stars.0.1) _ _ stars.2 in
    let s = bind_ok (shape_by inner n.0.1) _ _ n.2 in
    let one = many_is of_star Is_star star_at star_is ts stars.0 stars.1 in
    let shaped = shape_is inner sound n.0.1 s.0 s.1 in
    subst (Spelled of_declarator Is_declarator ts) (ok_is _ _ s.2)
    (one.0 ∙ ap (of_list of_star stars.0.0) (identifier_is stars.0.1 n.0 n.1 ∙ ap (of_identifier n.0.0) shaped.0), (one.1, shaped.1))

-- ---- initialisers

abbrev pub Is_initial_pair : Spot × t.Initialiser → Type 0
Is_initial_pair x = Is_initialiser x.1

pub of_initialisers_of : (xs : List (Spot × t.Initialiser)) (rest : List Leaf)
    → of_list of_initial_pair xs rest ≡ of_initialisers (initialisers_of xs) rest
of_initialisers_of [] rest = refl
of_initialisers_of (x ∷ xs) rest = ap (λ z. mark x.0 Comma ∷ of_initialiser x.1 z) (of_initialisers_of xs rest)

pub are_initialisers_of : (xs : List (Spot × t.Initialiser)) → Every Is_initial_pair xs → Are_initialisers (initialisers_of xs)
are_initialisers_of [] is = tt
are_initialisers_of (x ∷ xs) is = (is.0, are_initialisers_of xs is.1)

pub initialiser_item_is : (i : Inner) → SoundInner i → SoundAt of_initial_pair Is_initial_pair (initialiser_at i)
unfolding initialiser_at
initialiser_item_is i sound ts r y e ok =
    let c = when_some (taken Comma ts) _ _ e in
    elim (when_is (taken RightBrace c.0.2) _ _ _ c.2) [
      | inl k ↦ absurd (no_some _ k.2)
      | inr k ↦
          let x = bind_ok (i.initialiser i.limit c.0.2) _ _ (some_is _ _ k.1 ∙ ok) in
          let made = sound.initialiser i.limit c.0.2 x.0 x.1 in
          subst (Spelled of_initial_pair Is_initial_pair ts) (ok_is _ _ x.2)
          (taken_is Comma ts c.0 c.1 ∙ ap (λ z. mark c.0.0 Comma ∷ z) made.0, made.1)
    ]

pub comma_is : (ts : List Leaf) (y : Option Spot × List Leaf) → comma_at ts ≡ Ok y → ts ≡ of_option of_comma y.0 y.1
comma_is ts y e =
    elim (when_is (taken Comma ts) _ _ _ e) [
      | inl c ↦ taken_is Comma ts c.0 c.1 ∙ ap (λ (z : Option Spot × List Leaf). of_option of_comma z.0 z.1) (ok_is _ _ c.2)
      | inr k ↦ ap (λ (z : Option Spot × List Leaf). of_option of_comma z.0 z.1) (ok_is _ _ k.1)
    ]

braces_are : (i : Inner) → SoundInner i → (room : ℕ) (l : Spot) (ts : List Leaf) (y : t.Initialiser × List Leaf)
    → braces_by i room l ts ≡ Ok y → Spelled of_initialiser Is_initialiser (mark l LeftBrace ∷ ts) y
unfolding braces_by
braces_are i sound room l ts y e =
    let x = bind_ok (i.initialiser i.limit ts) _ _ e in
    let more = bind_ok (many (initialiser_at i) x.0.1) _ _ x.2 in
    let c = bind_ok (comma_at more.0.1) _ _ more.2 in
    let r = bind_ok (expected RightBrace c.0.1) _ _ c.2 in
    let one = sound.initialiser i.limit ts x.0 x.1 in
    let others = many_is of_initial_pair Is_initial_pair (initialiser_at i) (initialiser_item_is i sound) x.0.1 more.0 more.1 in
    subst (Spelled of_initialiser Is_initialiser (mark l LeftBrace ∷ ts)) (ends_ok _ _ _ _ _ r.2) (
      ap (λ z. mark l LeftBrace ∷ z) (one.0 ∙ ap (of_initialiser x.0.0) (others.0 ∙ of_initialisers_of more.0.0 more.0.1
          ∙ ap (of_initialisers (initialisers_of more.0.0))
          (comma_is more.0.1 c.0 c.1 ∙ ap (of_option of_comma c.0.0) (expected_is RightBrace c.0.1 r.0 r.1)))),
      (one.1, are_initialisers_of more.0.0 others.1),
    )

pub initialiser_is : (inner : Depth) → SoundIn inner → (room : ℕ) → Sound of_initialiser Is_initialiser (initialiser_by inner room)
unfolding initialiser_by
initialiser_is inner sound room ts y e =
    elim (when_is (taken LeftBrace ts) _ _ _ e) [
      | inl l ↦
          let i = inside_ok inner l.0.2 _ _ l.2 in
          let made = braces_are i.0 (sound i.0 i.1) room l.0.0 l.0.2 y i.2 in
          (taken_is LeftBrace ts l.0 l.1 ∙ made.0, made.1)
      | inr k ↦
          let a = bind_ok (assignment_by inner room ts) _ _ k.1 in
          let made = assignment_is inner sound room ts a.0 a.1 in
          subst (Spelled of_initialiser Is_initialiser ts) (ok_is _ _ a.2) made
    ]

-- ---- declarations

pub start_is : (inner : Depth) → SoundIn inner → Sound (of_option of_start) (Given Is_start) (start_by inner)
unfolding start_by
start_is inner sound ts y e =
    elim (when_is (taken Assign ts) _ _ _ e) [
      | inl q ↦
          let x = bind_ok (initialiser_by inner inner.limit q.0.2) _ _ q.2 in
          let made = initialiser_is inner sound inner.limit q.0.2 x.0 x.1 in
          subst (Spelled (of_option of_start) (Given Is_start) ts) (ok_is _ _ x.2)
          (taken_is Assign ts q.0 q.1 ∙ ap (λ z. mark q.0.0 Assign ∷ z) made.0, made.1)
      | inr k ↦ subst (Spelled (of_option of_start) (Given Is_start) ts) (ok_is _ _ k.1) (refl, tt)
    ]

pub init_declarator_is : (inner : Depth) → SoundIn inner → Sound of_init_declarator Is_init_declarator (init_declarator_by inner)
unfolding init_declarator_by
init_declarator_is inner sound ts y e =
    let d = bind_ok (declarator_by inner ts) _ _ e in
    let s = bind_ok (start_by inner d.0.1) _ _ d.2 in
    let one = declarator_is inner sound ts d.0 d.1 in
    let started = start_is inner sound d.0.1 s.0 s.1 in
    subst (Spelled of_init_declarator Is_init_declarator ts) (ok_is _ _ s.2)
    (one.0 ∙ ap (of_declarator d.0.0) started.0, (one.1, started.1))

declared_is : (inner : Depth) → SoundIn inner → (s : t.Specs) (d : t.Declarator) (ts : List Leaf) (y : t.Declaration × List Leaf)
    → Is_specs s → Is_declarator d → declared_by inner s d ts ≡ Ok y
    → Spelled of_declaration Is_declaration (of_specs s (of_declarator d ts)) y
unfolding declared_by
declared_is inner sound s d ts y is_s is_d e =
    let x = bind_ok (start_by inner ts) _ _ e in
    let more = bind_ok (many (behind_comma t.next_init_declarator (init_declarator_by inner)) x.0.1) _ _ x.2 in
    let c = bind_ok (expected Semicolon more.0.1) _ _ more.2 in
    let started = start_is inner sound ts x.0 x.1 in
    let others = many_is of_next_init_declarator Is_next_init_declarator (behind_comma t.next_init_declarator (init_declarator_by inner))
    (comma_item_is t.next_init_declarator (init_declarator_by inner) of_init_declarator Is_init_declarator of_next_init_declarator
    Is_next_init_declarator (init_declarator_is inner sound) (λ s x rest. refl) (λ s x is. is)) x.0.1 more.0 more.1 in
    subst (Spelled of_declaration Is_declaration (of_specs s (of_declarator d ts))) (ok_is _ _ c.2) (
      ap (λ z. of_specs s (of_declarator d z)) (started.0 ∙ ap (of_option of_start x.0.0)
          (others.0 ∙ ap (of_list of_next_init_declarator more.0.0) (expected_is Semicolon more.0.1 c.0 c.1))),
      (is_s, (is_d, started.1), others.1),
    )

declaration_is : (inner : Depth) → SoundIn inner → Sound of_declaration Is_declaration (declaration_by inner)
unfolding declaration_by
declaration_is inner sound ts y e =
    let s = bind_ok (specs_by ts) _ _ e in
    let d = bind_ok (declarator_by inner s.0.1) _ _ s.2 in
    let one = specs_are ts s.0 s.1 in
    let two = declarator_is inner sound s.0.1 d.0 d.1 in
    let made = declared_is inner sound s.0.0 d.0.0 d.0.1 y one.1 two.1 d.2 in
    (one.0 ∙ ap (of_specs s.0.0) two.0 ∙ made.0, made.1)

pub member_is : (inner : Depth) → SoundIn inner → Sound of_member Is_member (members_by inner)
unfolding members_by
member_is inner sound ts y e =
    let s = bind_ok (specs_by ts) _ _ e in
    let d = bind_ok (declarator_by inner s.0.1) _ _ s.2 in
    let more = bind_ok (many (behind_comma t.next_declarator (declarator_by inner)) d.0.1) _ _ d.2 in
    let c = bind_ok (expected Semicolon more.0.1) _ _ more.2 in
    let one = specs_are ts s.0 s.1 in
    let two = declarator_is inner sound s.0.1 d.0 d.1 in
    let others = many_is of_next_declarator Is_next_declarator (behind_comma t.next_declarator (declarator_by inner))
    (comma_item_is t.next_declarator (declarator_by inner) of_declarator Is_declarator of_next_declarator Is_next_declarator
    (declarator_is inner sound) (λ s x rest. refl) (λ s x is. is)) d.0.1 more.0 more.1 in
    subst (Spelled of_member Is_member ts) (ok_is _ _ c.2) (
      one.0 ∙ ap (of_specs s.0.0)
          (two.0 ∙ ap (of_declarator d.0.0) (others.0 ∙ ap (of_list of_next_declarator more.0.0) (expected_is Semicolon more.0.1 c.0 c.1))),
      (one.1, two.1, others.1),
    )

pub member_item_is : (inner : Depth) → SoundIn inner → SoundAt of_member Is_member (members_at inner)
unfolding members_at
member_item_is inner sound ts r y e ok =
    let w = when_some (leaf_if (word_if starts_specs) ts) _ _ e in
    member_is inner sound ts y (some_is _ _ w.2 ∙ ok)

-- ---- statements

pub condition_is : (inner : Depth) → SoundIn inner → Sound of_condition Is_condition (condition_by inner)
unfolding condition_by
condition_is inner sound ts y e =
    let l = bind_ok (expected LeftParenthesis ts) _ _ e in
    let i = inside_ok inner l.0.1 _ _ l.2 in
    let x = bind_ok (i.0.expression i.0.limit l.0.1) _ _ i.2 in
    let r = bind_ok (expected RightParenthesis x.0.1) _ _ x.2 in
    let made = (sound i.0 i.1).expression i.0.limit l.0.1 x.0 x.1 in
    subst (Spelled of_condition Is_condition ts) (ok_is _ _ r.2) (
      expected_is LeftParenthesis ts l.0 l.1
          ∙ ap (λ z. mark l.0.0 LeftParenthesis ∷ z) (made.0 ∙ ap (of_expression x.0.0) (expected_is RightParenthesis x.0.1 r.0 r.1)),
      made.1,
    )

-- an expression or none, and the punctuator that ends it
pub optional_is : (expression : List Leaf → Read t.Expression) → Sound of_expression Is_expression expression
    → (p : PunctKind) (ts : List Leaf) (y : (Option t.Expression × Spot) × List Leaf) → optional_by expression p ts ≡ Ok y
    → (ts ≡ of_option of_expression y.0.0 (mark y.0.1 p ∷ y.1)) × Given Is_expression y.0.0
unfolding optional_by
optional_is expression sound p ts y e =
    elim (when_is (taken p ts) _ _ _ e) [
      | inl s ↦ subst (λ (y : (Option t.Expression × Spot) × List Leaf). (ts ≡ of_option of_expression y.0.0 (mark y.0.1 p ∷ y.1))
          × Given Is_expression y.0.0) (ok_is _ _ s.2) (taken_is p ts s.0 s.1, tt)
      | inr k ↦
          let x = bind_ok (expression ts) _ _ k.1 in
          let s = bind_ok (expected p x.0.1) _ _ x.2 in
          let made = sound ts x.0 x.1 in
          subst (λ (y : (Option t.Expression × Spot) × List Leaf). (ts ≡ of_option of_expression y.0.0 (mark y.0.1 p ∷ y.1))
          × Given Is_expression y.0.0) (ok_is _ _ s.2) (made.0 ∙ ap (of_expression x.0.0) (expected_is p x.0.1 s.0 s.1), made.1)
    ]

pub first_part_is : (i : Inner) → SoundInner i → Sound of_first Is_first (first_by i)
unfolding first_by
first_part_is i sound ts y e =
    elim (when_is (leaf_if (word_if starts_specs) ts) _ _ _ e) [
      | inl w ↦
          let d = bind_ok (i.declaration ts) _ _ w.2 in
          let made = sound.declaration ts d.0 d.1 in
          subst (Spelled of_first Is_first ts) (ok_is _ _ d.2) made
      | inr k ↦
          let o = bind_ok (optional_by (i.expression i.limit) Semicolon ts) _ _ k.1 in
          let made = optional_is (i.expression i.limit) (sound.expression i.limit) Semicolon ts o.0 o.1 in
          subst (Spelled of_first Is_first ts) (ok_is _ _ o.2) made
    ]

pub heading_is : (inner : Depth) → SoundIn inner → Sound of_heading Is_heading (heading_by inner)
unfolding heading_by
heading_is inner sound ts y e =
    let l = bind_ok (expected LeftParenthesis ts) _ _ e in
    let i = inside_ok inner l.0.1 _ _ l.2 in
    let f = bind_ok (first_by i.0 l.0.1) _ _ i.2 in
    let c = bind_ok (optional_by (i.0.expression i.0.limit) Semicolon f.0.1) _ _ f.2 in
    let x = bind_ok (optional_by (i.0.expression i.0.limit) RightParenthesis c.0.1) _ _ c.2 in
    let one = first_part_is i.0 (sound i.0 i.1) l.0.1 f.0 f.1 in
    let two = optional_is (i.0.expression i.0.limit) ((sound i.0 i.1).expression i.0.limit) Semicolon f.0.1 c.0 c.1 in
    let three = optional_is (i.0.expression i.0.limit) ((sound i.0 i.1).expression i.0.limit) RightParenthesis c.0.1 x.0 x.1 in
    subst (Spelled of_heading Is_heading ts) (ok_is _ _ x.2) (
      expected_is LeftParenthesis ts l.0 l.1 ∙ ap (λ z. mark l.0.0 LeftParenthesis ∷ z)
          (one.0 ∙ ap (of_first f.0.0) (two.0 ∙ ap (λ z. of_option of_expression c.0.0.0 (mark c.0.0.1 Semicolon ∷ z)) three.0)),
      (one.1, two.1, three.1),
    )

pub substatement_is : (inner : Depth) → SoundIn inner → (room : ℕ) (ts : List Leaf) (y : t.Statement × List Leaf)
    → substatement inner room ts ≡ Ok y → StatementAt ts y
substatement_is inner sound room ts y e = let i = begun_ok starts_statement inner ts _ _ e in (sound i.0 i.1).statement room ts y i.2

pub else_closed : (b : t.Statement) (ts : List Leaf) (o : Bool) → is_open b ≡ o → (is_open b ≡ true → taken_word words.Else ts ≡ None)
    → (w : Spot × WordKind × List Leaf) → taken_word words.Else ts ≡ Some w → is_open b ≡ false
else_closed b ts true is none w there = absurd (no_some w (sym (none is) ∙ there))
else_closed b ts false is none w there = is

else_is : (inner : Depth) → SoundIn inner
    → (room : ℕ) (s : Spot) (c : t.Condition) (b : t.Statement) (ts : List Leaf) (y : t.Statement × List Leaf) → Is_condition c
    → Is_statement b → (is_open b ≡ true → taken_word words.Else ts ≡ None) → else_by inner room s c b ts ≡ Ok y
    → StatementAt (word s words.If ∷ of_condition c (of_statement b ts)) y
unfolding else_by
else_is inner sound room s c b ts y is_c is_b none e =
    elim (when_is (taken_word words.Else ts) _ _ _ e) [
      | inl w ↦
          let o = bind_ok (substatement inner _ w.0.2) _ _ w.2 in
          let made = substatement_is inner sound _ w.0.2 o.0 o.1 in
          subst (StatementAt (word s words.If ∷ of_condition c (of_statement b ts))) (ok_is _ _ o.2) (
            ap (λ z. word s words.If ∷ of_condition c (of_statement b z))
                (taken_word_is words.Else ts w.0 w.1 ∙ ap (λ z. word w.0.0 words.Else ∷ z) made.0),
            (is_c, is_b, else_closed b ts (is_open b) refl none w.0 w.1, made.1),
            made.2,
          )
      | inr k ↦ subst (StatementAt (word s words.If ∷ of_condition c (of_statement b ts))) (ok_is _ _ k.1) (refl, (is_c, is_b), λ is. k.0)
    ]

if_is : (inner : Depth) → SoundIn inner → (room : ℕ) (s : Spot) (ts : List Leaf) (y : t.Statement × List Leaf)
    → if_by inner room s ts ≡ Ok y → StatementAt (word s words.If ∷ ts) y
unfolding if_by
if_is inner sound room s ts y e =
    let c = bind_ok (condition_by inner ts) _ _ e in
    let b = bind_ok (substatement inner _ c.0.1) _ _ c.2 in
    let one = condition_is inner sound ts c.0 c.1 in
    let two = substatement_is inner sound _ c.0.1 b.0 b.1 in
    let made = else_is inner sound room s c.0.0 b.0.0 b.0.1 y one.1 two.1 two.2 b.2 in
    (ap (λ z. word s words.If ∷ z) (one.0 ∙ ap (of_condition c.0.0) two.0) ∙ made.0, made.1, made.2)

while_is : (inner : Depth) → SoundIn inner → (room : ℕ) (s : Spot) (ts : List Leaf) (y : t.Statement × List Leaf)
    → while_by inner room s ts ≡ Ok y → StatementAt (word s words.While ∷ ts) y
unfolding while_by
while_is inner sound room s ts y e =
    let c = bind_ok (condition_by inner ts) _ _ e in
    let b = bind_ok (substatement inner _ c.0.1) _ _ c.2 in
    let one = condition_is inner sound ts c.0 c.1 in
    let two = substatement_is inner sound _ c.0.1 b.0 b.1 in
    subst (StatementAt (word s words.While ∷ ts)) (ok_is _ _ b.2)
    (ap (λ z. word s words.While ∷ z) (one.0 ∙ ap (of_condition c.0.0) two.0), (one.1, two.1), two.2)

closed_one : false ≡ true → (ts : List Leaf) → taken_word words.Else ts ≡ None
closed_one e ts = absurd (true≢false (sym e))

do_is : (inner : Depth) → SoundIn inner → (room : ℕ) (s : Spot) (ts : List Leaf) (y : t.Statement × List Leaf)
    → do_by inner room s ts ≡ Ok y → StatementAt (word s words.Do ∷ ts) y
unfolding do_by
do_is inner sound room s ts y e =
    let b = bind_ok (substatement inner inner.limit ts) _ _ e in
    let w = bind_ok (expected_word words.While b.0.1) _ _ b.2 in
    let c = bind_ok (condition_by inner w.0.1) _ _ w.2 in
    let k = bind_ok (expected Semicolon c.0.1) _ _ c.2 in
    let one = substatement_is inner sound inner.limit ts b.0 b.1 in
    let two = condition_is inner sound w.0.1 c.0 c.1 in
    subst (StatementAt (word s words.Do ∷ ts)) (ends_ok _ _ _ _ _ k.2) (
      ap (λ z. word s words.Do ∷ z) (one.0 ∙ ap (of_statement b.0.0) (expected_word_is words.While b.0.1 w.0 w.1
          ∙ ap (λ z. word w.0.0 words.While ∷ z) (two.0 ∙ ap (of_condition c.0.0) (expected_is Semicolon c.0.1 k.0 k.1)))),
      (one.1, two.1),
      λ is. closed_one is _,
    )

for_is : (inner : Depth) → SoundIn inner → (room : ℕ) (s : Spot) (ts : List Leaf) (y : t.Statement × List Leaf)
    → for_by inner room s ts ≡ Ok y → StatementAt (word s words.For ∷ ts) y
unfolding for_by
for_is inner sound room s ts y e =
    let h = bind_ok (heading_by inner ts) _ _ e in
    let b = bind_ok (substatement inner _ h.0.1) _ _ h.2 in
    let one = heading_is inner sound ts h.0 h.1 in
    let two = substatement_is inner sound _ h.0.1 b.0 b.1 in
    subst (StatementAt (word s words.For ∷ ts)) (ok_is _ _ b.2)
    (ap (λ z. word s words.For ∷ z) (one.0 ∙ ap (of_heading h.0.0) two.0), (one.1, two.1), two.2)

return_is : (inner : Depth) → SoundIn inner → (room : ℕ) (s : Spot) (ts : List Leaf) (y : t.Statement × List Leaf)
    → return_by inner room s ts ≡ Ok y → StatementAt (word s words.Return ∷ ts) y
unfolding return_by
return_is inner sound room s ts y e =
    let o = bind_ok (optional_by (expression_by inner inner.limit) Semicolon ts) _ _ e in
    let made = optional_is (expression_by inner inner.limit) (expression_is inner sound inner.limit) Semicolon ts o.0 o.1 in
    subst (StatementAt (word s words.Return ∷ ts)) (ends_ok _ _ _ _ _ o.2)
    (ap (λ z. word s words.Return ∷ z) made.0, made.1, λ is. closed_one is _)

worded_is : (inner : Depth) → SoundIn inner → (room : ℕ) (s : Spot) (k : Keyword) (ts : List Leaf) (y : t.Statement × List Leaf)
    → worded_by inner room s k ts ≡ Ok y → StatementAt (word s (word_of_keyword k) ∷ ts) y
worded_is inner sound room s if_word ts y e = if_is inner sound room s ts y e
worded_is inner sound room s while_word ts y e = while_is inner sound room s ts y e
worded_is inner sound room s do_word ts y e = do_is inner sound room s ts y e
worded_is inner sound room s for_word ts y e = for_is inner sound room s ts y e
worded_is inner sound room s break_word ts y e =
    let k = bind_ok (expected Semicolon ts) _ _ e in
    subst (StatementAt (word s words.Break ∷ ts)) (ends_ok _ _ _ _ _ k.2)
    (ap (λ z. word s words.Break ∷ z) (expected_is Semicolon ts k.0 k.1), tt, λ is. closed_one is _)
worded_is inner sound room s continue_word ts y e =
    let k = bind_ok (expected Semicolon ts) _ _ e in
    subst (StatementAt (word s words.Continue ∷ ts)) (ends_ok _ _ _ _ _ k.2)
    (ap (λ z. word s words.Continue ∷ z) (expected_is Semicolon ts k.0 k.1), tt, λ is. closed_one is _)
worded_is inner sound room s return_word ts y e = return_is inner sound room s ts y e

-- ---- compound statements

pub of_items_of : (xs : List t.Item) (rest : List Leaf) → of_list of_item xs rest ≡ of_items (items_of xs) rest
of_items_of [] rest = refl
of_items_of (x ∷ xs) rest = ap (of_item x) (of_items_of xs rest)

pub are_items_of : (xs : List t.Item) → Every Is_item xs → Are_items (items_of xs)
are_items_of [] is = tt
are_items_of (x ∷ xs) is = (is.0, are_items_of xs is.1)

pub item_is : (inner : Depth) → SoundIn inner → SoundAt of_item Is_item (item_at inner)
unfolding item_at
item_is inner sound ts r y e ok =
    elim (when_is (leaf_if (word_if starts_specs) ts) _ _ _ e) [
      | inl w ↦
          let d = bind_ok (declaration_by inner ts) _ _ (some_is _ _ w.2 ∙ ok) in
          let made = declaration_is inner sound ts d.0 d.1 in
          subst (Spelled of_item Is_item ts) (ok_is _ _ d.2) made
      | inr k ↦ elim (when_is (taken RightBrace ts) _ _ _ k.1) [
        | inl x ↦ absurd (no_some _ x.2)
        | inr j ↦
            let s = bind_ok (substatement inner inner.limit ts) _ _ (some_is _ _ j.1 ∙ ok) in
            let made = substatement_is inner sound inner.limit ts s.0 s.1 in
            subst (Spelled of_item Is_item ts) (ok_is _ _ s.2) (made.0, made.1)
      ]
    ]

pub pragma_item_is : SoundAt of_pragma (λ (p : Pragma). Unit {0}) pragma_at
pragma_item_is ts r y e ok =
    let p = when_some (leaf_if pragma_of ts) _ _ e in
    subst (Spelled of_pragma (λ (p : Pragma). Unit {0}) ts) (ok_is _ _ (some_is _ _ p.2 ∙ ok)) (pragma_is ts p.0 p.1, tt)

compound_is : (inner : Depth) → SoundIn inner → (room : ℕ) → Sound of_compound Is_compound (compound_by inner room)
unfolding compound_by
compound_is inner sound room ts y e =
    let l = bind_ok (expected LeftBrace ts) _ _ e in
    let p = bind_ok (many pragma_at l.0.1) _ _ l.2 in
    let b = bind_ok (many (item_at inner) p.0.1) _ _ p.2 in
    let r = bind_ok (expected RightBrace b.0.1) _ _ b.2 in
    let one = many_is of_pragma (λ (p : Pragma). Unit {0}) pragma_at pragma_item_is l.0.1 p.0 p.1 in
    let two = many_is of_item Is_item (item_at inner) (item_is inner sound) p.0.1 b.0 b.1 in
    subst (Spelled of_compound Is_compound ts) (ends_ok _ _ _ _ _ r.2) (
      expected_is LeftBrace ts l.0 l.1 ∙ ap (λ z. mark l.0.0 LeftBrace ∷ z) (one.0 ∙ ap (of_list of_pragma p.0.0)
          (two.0 ∙ of_items_of b.0.0 b.0.1 ∙ ap (of_items (items_of b.0.0)) (expected_is RightBrace b.0.1 r.0 r.1))),
      are_items_of b.0.0 two.1,
    )

simple_is : (inner : Depth) → SoundIn inner → (room : ℕ) (ts : List Leaf) (y : t.Statement × List Leaf) → simple_by inner room ts ≡ Ok y
    → StatementAt ts y
unfolding simple_by
simple_is inner sound room ts y e =
    let o = bind_ok (optional_by (expression_by inner inner.limit) Semicolon ts) _ _ e in
    let made = optional_is (expression_by inner inner.limit) (expression_is inner sound inner.limit) Semicolon ts o.0 o.1 in
    subst (StatementAt ts) (ends_ok _ _ _ _ _ o.2) (made.0, made.1, λ is. closed_one is _)

statement_is : (inner : Depth) → SoundIn inner → (room : ℕ) (ts : List Leaf) (y : t.Statement × List Leaf)
    → statement_by inner room ts ≡ Ok y → StatementAt ts y
unfolding statement_by
statement_is inner sound room ts y e =
    elim (when_is (leaf_if keyword_of ts) _ _ _ e) [
      | inl k ↦
          let made = worded_is inner sound room k.0.0 k.0.1 k.0.2 y k.2 in
          (keyword_is ts k.0 k.1 ∙ made.0, made.1, made.2)
      | inr a ↦ elim (when_is (taken LeftBrace ts) _ _ _ a.1) [
        | inl l ↦
            let c = bind_ok (compound_by inner room ts) _ _ l.2 in
            let made = compound_is inner sound room ts c.0 c.1 in
            subst (StatementAt ts) (ok_is _ _ c.2) (made.0, made.1, λ is. closed_one is _)
        | inr b ↦ simple_is inner sound room ts y b.1
      ]
    ]

-- ---- all that stands inside a construct

pub sound_within : (limit n : ℕ) → SoundIn (within limit n)
unfolding opened_at
sound_within limit zero i e = absurd (no_some i e)
sound_within limit (suc n) i e = subst SoundInner (some_is (inner_at limit n) i e) (record {
  expression = λ room ts y f. expression_is (within limit n) (sound_within limit n) room ts y f;
  assignment = λ room ts y f. assignment_is (within limit n) (sound_within limit n) room ts y f;
  conditional = λ room ts y f. conditional_is (within limit n) (sound_within limit n) room ts y f;
  cast = λ room ts y f. cast_is (within limit n) (sound_within limit n) room ts y f;
  unary = λ room ts y f. unary_is (within limit n) (sound_within limit n) room ts y f;
  initialiser = λ room ts y f. initialiser_is (within limit n) (sound_within limit n) room ts y f;
  declaration = λ ts y f. declaration_is (within limit n) (sound_within limit n) ts y f;
  statement = λ room ts y f. statement_is (within limit n) (sound_within limit n) room ts y f;
  compound = λ room ts y f. compound_is (within limit n) (sound_within limit n) room ts y f;
})

-- ---- units

structure_is : (inner : Depth) → SoundIn inner → (s : Spot) (tag : t.Identifier) (l : Spot) (ts : List Leaf) (y : t.Structure × List Leaf)
    → structure_by inner s tag l ts ≡ Ok y
    → Spelled of_structure Is_structure (word s words.Struct ∷ of_identifier tag (mark l LeftBrace ∷ ts)) y
unfolding structure_by
structure_is inner sound s tag l ts y e =
    let m = bind_ok (members_by inner ts) _ _ e in
    let more = bind_ok (many (members_at inner) m.0.1) _ _ m.2 in
    let r = bind_ok (expected RightBrace more.0.1) _ _ more.2 in
    let c = bind_ok (expected Semicolon r.0.1) _ _ r.2 in
    let one = member_is inner sound ts m.0 m.1 in
    let others = many_is of_member Is_member (members_at inner) (member_item_is inner sound) m.0.1 more.0 more.1 in
    subst (Spelled of_structure Is_structure (word s words.Struct ∷ of_identifier tag (mark l LeftBrace ∷ ts))) (ok_is _ _ c.2) (
      ap (λ z. word s words.Struct ∷ of_identifier tag (mark l LeftBrace ∷ z))
          (one.0 ∙ ap (of_member m.0.0) (others.0 ∙ ap (of_list of_member more.0.0)
          (expected_is RightBrace more.0.1 r.0 r.1 ∙ ap (λ z. mark r.0.0 RightBrace ∷ z) (expected_is Semicolon r.0.1 c.0 c.1)))),
      (one.1, others.1),
    )

pub structure_open_is : (ts : List Leaf) (y : Spot × t.Identifier × Spot × List Leaf) → structure_at ts ≡ Some y
    → ts ≡ word y.0 words.Struct ∷ of_identifier y.1 (mark y.2 LeftBrace ∷ y.3)
unfolding structure_at
structure_open_is ts y e =
    let s = when_some (taken_word words.Struct ts) _ _ e in
    let n = when_some (identifier_at s.0.2) _ _ s.2 in
    let x = when_some (leaf_if name_of s.0.2) _ _ n.1 in
    let l = when_some (taken LeftBrace n.0.1) _ _ n.2 in
    let named : s.0.2 ≡ of_identifier n.0.0 n.0.1 =
    name_is s.0.2 x.0 x.1 ∙ ap (λ (z : t.Identifier × List Leaf). of_identifier z.0 z.1) (some_is _ _ x.2) in
    subst (λ (y : Spot × t.Identifier × Spot × List Leaf). ts ≡ word y.0 words.Struct ∷ of_identifier y.1 (mark y.2 LeftBrace ∷ y.3))
    (some_is _ _ l.2)
    (taken_word_is words.Struct ts s.0 s.1
    ∙ ap (λ z. word s.0.0 words.Struct ∷ z) (named ∙ ap (of_identifier n.0.0) (taken_is LeftBrace n.0.1 l.0 l.1)))

register_is : (s : Spot) (ts : List Leaf) (y : t.RegisterObject × List Leaf) → register_by s ts ≡ Ok y
    → Spelled of_register_object Is_register_object (word s words.Register ∷ ts) y
unfolding register_by
register_is s ts y e =
    let r = bind_ok (identifier ts) _ _ e in
    let sp = bind_ok (specs_by r.0.1) _ _ r.2 in
    let n = bind_ok (identifier sp.0.1) _ _ sp.2 in
    let c = bind_ok (expected Semicolon n.0.1) _ _ n.2 in
    let made = specs_are r.0.1 sp.0 sp.1 in
    subst (Spelled of_register_object Is_register_object (word s words.Register ∷ ts)) (ok_is _ _ c.2) (
      ap (λ z. word s words.Register ∷ z) (identifier_is ts r.0 r.1 ∙ ap (of_identifier r.0.0)
          (made.0 ∙ ap (of_specs sp.0.0) (identifier_is sp.0.1 n.0 n.1 ∙ ap (of_identifier n.0.0) (expected_is Semicolon n.0.1 c.0 c.1)))),
      made.1,
    )

-- a function's heading is its specifiers and declarator, taken apart
abbrev Heading : t.Specs → t.Declarator → t.TypeName × t.Identifier × Spot × t.Params × Spot → Type 0
Heading s d f = ((ts : List Leaf) → of_specs s (of_declarator d ts)
    ≡ of_type_name f.0 (of_identifier f.1 (mark f.2 LeftParenthesis ∷ of_params f.3 (mark f.4 RightParenthesis ∷ ts))))
    × (Is_specs s → Is_declarator d → Is_type_name f.0 × Are_params f.3)

heading_of_is : (s : t.Specs) (d : t.Declarator) (f : t.TypeName × t.Identifier × Spot × t.Params × Spot)
    → heading_of s d ≡ Some f → Heading s d f
heading_of_is s (t.declarator stars n (t.function_shape l p r)) f e =
    subst (Heading s (t.declarator stars n (t.function_shape l p r))) (some_is _ _ e) (λ ts. refl, λ is_s is_d. ((is_s, is_d.0), is_d.1))
heading_of_is s (t.declarator stars n t.object) f e = absurd (no_some _ e)
heading_of_is s (t.declarator stars n (t.array l c r)) f e = absurd (no_some _ e)

pub function_heading_is : (s : t.Specs) (d : t.Declarator) (ts : List Leaf) (f : t.TypeName × t.Identifier × Spot × t.Params × Spot)
    → function_at s d ts ≡ Some f → Heading s d f
unfolding function_at
function_heading_is s d ts f e = let l = when_some (taken LeftBrace ts) _ _ e in heading_of_is s d f l.2

defined_is : (inner : Depth) → SoundIn inner → Sound of_external Is_external (defined_by inner)
unfolding defined_by
defined_is inner sound ts y e =
    let s = bind_ok (specs_by ts) _ _ e in
    let d = bind_ok (declarator_by inner s.0.1) _ _ s.2 in
    let one = specs_are ts s.0 s.1 in
    let two = declarator_is inner sound s.0.1 d.0 d.1 in
    elim (when_is (function_at s.0.0 d.0.0 d.0.1) _ _ _ d.2) [
      | inl f ↦
          let i = begun_ok is_brace inner d.0.1 _ _ f.2 in
          let b = bind_ok (i.0.compound i.0.limit d.0.1) _ _ i.2 in
          let made = (sound i.0 i.1).compound i.0.limit d.0.1 b.0 b.1 in
          let head = function_heading_is s.0.0 d.0.0 d.0.1 f.0 f.1 in
          let is = head.1 one.1 two.1 in
          subst (Spelled of_external Is_external ts) (ok_is _ _ b.2)
          (one.0 ∙ ap (of_specs s.0.0) (two.0 ∙ ap (of_declarator d.0.0) made.0) ∙ head.0 (of_compound b.0.0 b.0.1), (is.0, is.1, made.1))
      | inr k ↦
          let x = bind_ok (declared_by inner s.0.0 d.0.0 d.0.1) _ _ k.1 in
          let made = declared_is inner sound s.0.0 d.0.0 d.0.1 x.0 one.1 two.1 x.1 in
          subst (Spelled of_external Is_external ts) (ok_is _ _ x.2) (one.0 ∙ ap (of_specs s.0.0) two.0 ∙ made.0, made.1)
    ]

pub external_is : (inner : Depth) → SoundIn inner → SoundAt of_external Is_external (external_at inner)
unfolding external_at
external_is inner sound ts r y e ok =
    elim (when_is (leaf_if pragma_of ts) _ _ _ e) [
      | inl p ↦ subst (Spelled of_external Is_external ts) (ok_is _ _ (some_is _ _ p.2 ∙ ok)) (pragma_is ts p.0 p.1, tt)
      | inr a ↦ elim (when_is (structure_at ts) _ _ _ a.1) [
        | inl s ↦
            let x = bind_ok (structure_by inner s.0.0 s.0.1 s.0.2 s.0.3) _ _ (some_is _ _ s.2 ∙ ok) in
            let made = structure_is inner sound s.0.0 s.0.1 s.0.2 s.0.3 x.0 x.1 in
            subst (Spelled of_external Is_external ts) (ok_is _ _ x.2) (structure_open_is ts s.0 s.1 ∙ made.0, made.1)
        | inr b ↦ elim (when_is (taken_word words.Register ts) _ _ _ b.1) [
          | inl w ↦
              let x = bind_ok (register_by w.0.0 w.0.2) _ _ (some_is _ _ w.2 ∙ ok) in
              let made = register_is w.0.0 w.0.2 x.0 x.1 in
              subst (Spelled of_external Is_external ts) (ok_is _ _ x.2) (taken_word_is words.Register ts w.0 w.1 ∙ made.0, made.1)
          | inr c ↦ let w = when_some (leaf_if (word_if starts_specs) ts) _ _ c.1 in defined_is inner sound ts y (some_is _ _ w.2 ∙ ok)
        ]
      ]
    ]

pub unit_is : (inner : Depth) → SoundIn inner → Sound of_tree Is_tree (unit_by inner)
unfolding unit_by
unit_is inner sound ts y e =
    let u = bind_ok (many (external_at inner) ts) _ _ e in
    let w = bind_ok (needed (leaf_if end_of u.0.1) u.0.1) _ _ u.2 in
    let x = needed_is (leaf_if end_of u.0.1) u.0.1 w.0 w.1 in
    let all = many_is of_external Is_external (external_at inner) (external_is inner sound) ts u.0 u.1 in
    let ended : u.0.1 ≡ leaf w.0.0 tokens.end ∷ w.0.1 =
    end_is u.0.1 x.0 x.1 ∙ ap (λ (z : Spot × List Leaf). leaf z.0 tokens.end ∷ z.1) x.2 in
    subst (Spelled of_tree Is_tree ts) (ok_is _ _ w.2) (all.0 ∙ ap (of_list of_external u.0.0) ended, all.1)

pub whole_is : (y : t.Tree × List Leaf) (u : t.Tree) → whole y ≡ Ok u → y ≡ (u, [])
whole_is (v, []) u e = ap (λ (z : t.Tree). (z, [])) (ok_is _ _ e)
whole_is (v, x ∷ xs) u e = absurd (no_ok _ _ e)

-- what is read is a derivation
pub read_is : (limit : ℕ) (ts : List Leaf) (u : t.Tree) → read limit ts ≡ Ok u → (ts ≡ of_tree u []) × Is_tree u
unfolding read
read_is limit ts u e =
    let y = bind_ok (unit_by (within limit limit) ts) _ _ e in
    let made = unit_is (within limit limit) (sound_within limit limit) ts y.0 y.1 in
    let all = whole_is y.0 u y.2 in
    subst (λ (z : t.Tree × List Leaf). (ts ≡ of_tree z.0 z.1) × Is_tree z.0) all made
