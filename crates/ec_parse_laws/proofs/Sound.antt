-- What is read is a derivation of what was read.
use Rattle.std.proofs.Common.{◌≡◌, ℕ, zero, suc, ◌-◌, ◌≤◌, List, [], ◌∷◌, true, Ok, Some, None, refl, ap, ◌∙◌, arith, inl, inr, subst}
use Rattle.std.proofs.lemmas.Bool.{eqb-true}
use Rattle.ec_grammar.specs.declared.token.WordKind.TheVariants as words
use Rattle.ec_grammar.specs.declared.token.PunctKind.{PunctKind}
use Rattle.ec_grammar.specs.declared.token.PunctKind.TheVariants.{LeftParenthesis, RightParenthesis, LeftBracket, RightBracket, Comma, Star}
use Rattle.ec_grammar.specs.declared.token.PunctKind.TheVariants.{Question, Colon}
use Rattle.ec_grammar.specs.declared.Spot.{Spot}
use Rattle.ec_grammar.specs.declared.Operation.{Operation}
use Rattle.ec_grammar.specs.Trees as t
use Rattle.ec_grammar.specs.Trees.{Leaf}
use Rattle.ec_grammar.specs.Spelling.{leaf, mark, word, of_list, of_identifier, lexeme_of_operation, of_qualifier, of_star, of_spec}
use Rattle.ec_grammar.specs.Spelling.{of_specs, of_type_name, of_expression, of_assignment, of_conditional, of_binary, of_cast, of_unary}
use Rattle.ec_grammar.specs.Spelling.{of_postfix, of_arguments, of_further, of_primary, of_initialiser, of_declaration, of_statement}
use Rattle.ec_grammar.specs.Spelling.{of_compound}
use Rattle.ec_grammar.specs.Grammar.{Every, is_open, is_qualifier, is_spec_word, level_of, rank, is_assign, is_step, is_prefix, is_access}
use Rattle.ec_grammar.specs.Grammar.{Is_qualifier, Is_star, Is_spec, Is_specs, Is_type_name, Is_expression, Is_assignment, Is_conditional}
use Rattle.ec_grammar.specs.Grammar.{Is_binary, Is_cast, Is_unary, Is_postfix, Are_arguments, Are_further, Is_primary, Is_initialiser}
use Rattle.ec_grammar.specs.Grammar.{Is_declaration, Is_statement, Is_compound}
use Rattle.ec_parse_laws.specs.Reading.{Read, leaf_if, punct_if, word_if, name_of, constant_of, operation_of, taken, taken_word, expected}
use Rattle.ec_parse_laws.specs.Reading.{identifier, starts_specs, starts_lexeme, many, behind_comma, Inner, Depth, chain, at_level}
use Rattle.ec_parse_laws.specs.Reading.{qualifier_at, star_at, spec_at, specs_by, type_name_by, further_of, pair, argument_at, further_by}
use Rattle.ec_parse_laws.specs.Reading.{arguments_by, operation_by, primary_by, index_by, call_by, member_by, suffix_by, suffixes_by}
use Rattle.ec_parse_laws.specs.Reading.{postfix_by, size_by, unary_by, cast_at, cast_by, joins_by, binary_by, choice_by, conditional_by}
use Rattle.ec_parse_laws.specs.Reading.{unary_of, assigned_by, assignment_by, commas_by, expression_by}
use Rattle.ec_parse_laws.proofs.Basics.{ok_is, some_is, no_some, no_ok, bind_ok, when_is, when_some, ends_ok, inside_ok, begun_ok, punct_is}
use Rattle.ec_parse_laws.proofs.Basics.{word_is, taken_is, taken_word_is, expected_is, name_is, identifier_is, constant_is, operation_is}
use Rattle.ec_parse_laws.proofs.Basics.{Spelled, Sound, SoundAt, many_is}
use Rattle.ec_parse_laws.proofs.Expressions.{of_pair}

-- a statement that was read would have taken the `else` that follows it, if it could
abbrev pub StatementAt : List Leaf → t.Statement × List Leaf → Type 0
StatementAt ts y = (ts ≡ of_statement y.0 y.1) × Is_statement y.0 × (is_open y.0 ≡ true → taken_word words.Else y.1 ≡ None)

-- what is read inside a construct is spelled so
pub record SoundInner (i : Inner) : Type 0 where
  pub expression : (room : ℕ) → Sound of_expression Is_expression (i.expression room)
  pub assignment : (room : ℕ) → Sound of_assignment Is_assignment (i.assignment room)
  pub conditional : (room : ℕ) → Sound of_conditional Is_conditional (i.conditional room)
  pub cast : (room : ℕ) → Sound of_cast Is_cast (i.cast room)
  pub unary : (room : ℕ) → Sound of_unary Is_unary (i.unary room)
  pub initialiser : (room : ℕ) → Sound of_initialiser Is_initialiser (i.initialiser room)
  pub declaration : Sound of_declaration Is_declaration i.declaration
  pub statement : (room : ℕ) (ts : List Leaf) (y : t.Statement × List Leaf) → i.statement room ts ≡ Ok y → StatementAt ts y
  pub compound : (room : ℕ) → Sound of_compound Is_compound (i.compound room)

abbrev pub SoundIn : Depth → Type 0
SoundIn inner = (i : Inner) → inner.opened ≡ Some i → SoundInner i

-- an item behind a comma
pub comma_item_is : {A B : Type 0} (make : Spot → A → B) (item : List Leaf → Read A) (of_one : A → List Leaf → List Leaf) (Is : A
    → Type 0) (of_two : B → List Leaf → List Leaf) (Is_two : B → Type 0) → Sound of_one Is item
    → ((s : Spot) (x : A) (rest : List Leaf) → mark s Comma ∷ of_one x rest ≡ of_two (make s x) rest)
    → ((s : Spot) (x : A) → Is x → Is_two (make s x)) → SoundAt of_two Is_two (behind_comma make item)
comma_item_is make item of_one Is of_two Is_two sound spell keep ts r y e ok =
    let c = when_some (taken Comma ts) _ _ e in
    let x = bind_ok (item c.0.2) _ _ (some_is _ _ c.2 ∙ ok) in
    let one = sound c.0.2 x.0 x.1 in
    subst (Spelled of_two Is_two ts) (ok_is _ _ x.2)
    (taken_is Comma ts c.0 c.1 ∙ ap (λ z. mark c.0.0 Comma ∷ z) one.0 ∙ spell c.0.0 x.0.0 x.0.1, keep c.0.0 x.0.0 one.1)

-- ---- specifiers and type names

qualifier_is : SoundAt of_qualifier Is_qualifier qualifier_at
qualifier_is ts r y e ok =
    let w = when_some (leaf_if (word_if is_qualifier) ts) _ _ e in
    let found = word_is is_qualifier ts w.0 w.1 in
    subst (Spelled of_qualifier Is_qualifier ts) (ok_is _ _ (some_is _ _ w.2 ∙ ok)) (found.0, found.1)

pub star_is : SoundAt of_star Is_star star_at
unfolding star_at
star_is ts r y e ok =
    let s = when_some (taken Star ts) _ _ e in
    let q = bind_ok (many qualifier_at s.0.2) _ _ (some_is _ _ s.2 ∙ ok) in
    let made = many_is of_qualifier Is_qualifier qualifier_at qualifier_is s.0.2 q.0 q.1 in
    subst (Spelled of_star Is_star ts) (ok_is _ _ q.2) (taken_is Star ts s.0 s.1 ∙ ap (λ z. mark s.0.0 Star ∷ z) made.0, made.1)

pub spec_is : SoundAt of_spec Is_spec spec_at
unfolding spec_at
spec_is ts r y e ok =
    elim (when_is (leaf_if (word_if is_spec_word) ts) _ _ _ e) [
      | inl w ↦ let found = word_is is_spec_word ts w.0 w.1 in
          subst (Spelled of_spec Is_spec ts) (ok_is _ _ (some_is _ _ w.2 ∙ ok)) (found.0, found.1)
      | inr k ↦
          let s = when_some (taken_word words.Struct ts) _ _ k.1 in
          let n = bind_ok (identifier s.0.2) _ _ (some_is _ _ s.2 ∙ ok) in
          subst (Spelled of_spec Is_spec ts) (ok_is _ _ n.2)
          (taken_word_is words.Struct ts s.0 s.1 ∙ ap (λ z. word s.0.0 words.Struct ∷ z) (identifier_is s.0.2 n.0 n.1), tt)
    ]

pub specs_are : Sound of_specs Is_specs specs_by
unfolding specs_by
specs_are ts y e =
    elim (when_is (spec_at ts) _ _ _ e) [
      | inl r ↦
          let s = bind_ok r.0 _ _ r.2 in
          let more = bind_ok (many spec_at s.0.1) _ _ s.2 in
          let one = spec_is ts r.0 s.0 r.1 s.1 in
          let others = many_is of_spec Is_spec spec_at spec_is s.0.1 more.0 more.1 in
          subst (Spelled of_specs Is_specs ts) (ok_is _ _ more.2) (one.0 ∙ ap (of_spec s.0.0) others.0, (one.1, others.1))
      | inr k ↦ absurd (no_ok _ _ k.1)
    ]

pub type_name_is : Sound of_type_name Is_type_name type_name_by
unfolding type_name_by
type_name_is ts y e =
    let s = bind_ok (specs_by ts) _ _ e in
    let stars = bind_ok (many star_at s.0.1) _ _ s.2 in
    let one = specs_are ts s.0 s.1 in
    let others = many_is of_star Is_star star_at star_is s.0.1 stars.0 stars.1 in
    subst (Spelled of_type_name Is_type_name ts) (ok_is _ _ stars.2) (one.0 ∙ ap (of_specs s.0.0) others.0, (one.1, others.1))

-- ---- arguments

abbrev pub Is_pair : Spot × t.Assignment → Type 0
Is_pair x = Is_assignment x.1

of_further_of : (xs : List (Spot × t.Assignment)) (rest : List Leaf) → of_list of_pair xs rest ≡ of_further (further_of xs) rest
of_further_of [] rest = refl
of_further_of (x ∷ xs) rest = ap (λ z. mark x.0 Comma ∷ of_assignment x.1 z) (of_further_of xs rest)

are_further_of : (xs : List (Spot × t.Assignment)) → Every Is_pair xs → Are_further (further_of xs)
are_further_of [] is = tt
are_further_of (x ∷ xs) is = (is.0, are_further_of xs is.1)

pub further_is : (i : Inner) → SoundInner i → Sound of_further Are_further (further_by i)
unfolding further_by
further_is i sound ts y e =
    let more = bind_ok (many (argument_at i) ts) _ _ e in
    let all = many_is of_pair Is_pair (argument_at i) (comma_item_is pair (i.assignment i.limit) of_assignment Is_assignment of_pair Is_pair
    (sound.assignment i.limit) (λ s x rest. refl) (λ s x is. is)) ts more.0 more.1 in
    subst (Spelled of_further Are_further ts) (ok_is _ _ more.2) (all.0 ∙ of_further_of more.0.0 more.0.1, are_further_of more.0.0 all.1)

pub arguments_are : (i : Inner) → SoundInner i → Sound of_arguments Are_arguments (arguments_by i)
unfolding arguments_by
arguments_are i sound ts y e =
    elim (when_is (taken RightParenthesis ts) _ _ _ e) [
      | inl r ↦ subst (Spelled of_arguments Are_arguments ts) (ok_is _ _ r.2) (refl, tt)
      | inr k ↦
          let a = bind_ok (i.assignment i.limit ts) _ _ k.1 in
          let more = bind_ok (further_by i a.0.1) _ _ a.2 in
          let one = sound.assignment i.limit ts a.0 a.1 in
          let others = further_is i sound a.0.1 more.0 more.1 in
          subst (Spelled of_arguments Are_arguments ts) (ok_is _ _ more.2) (one.0 ∙ ap (of_assignment a.0.0) others.0, (one.1, others.1))
    ]

-- ---- primary and postfix expressions

operation_reads : (inner : Depth) → SoundIn inner → (room : ℕ) (s : Spot) (op : Operation) (ts : List Leaf) (y : t.Primary × List Leaf)
    → operation_by inner room s op ts ≡ Ok y → Spelled of_primary Is_primary (leaf s (lexeme_of_operation op) ∷ ts) y
unfolding operation_by
operation_reads inner sound room s op ts y e =
    let l = bind_ok (expected LeftParenthesis ts) _ _ e in
    let i = inside_ok inner l.0.1 _ _ l.2 in
    let n = bind_ok (identifier l.0.1) _ _ i.2 in
    let more = bind_ok (further_by i.0 n.0.1) _ _ n.2 in
    let r = bind_ok (expected RightParenthesis more.0.1) _ _ more.2 in
    let made = further_is i.0 (sound i.0 i.1) n.0.1 more.0 more.1 in
    subst (Spelled of_primary Is_primary (leaf s (lexeme_of_operation op) ∷ ts)) (ends_ok _ _ _ _ _ r.2) (
      ap (λ z. leaf s (lexeme_of_operation op) ∷ z) (expected_is LeftParenthesis ts l.0 l.1 ∙ ap (λ z. mark l.0.0 LeftParenthesis ∷ z)
          (identifier_is l.0.1 n.0 n.1
          ∙ ap (of_identifier n.0.0) (made.0 ∙ ap (of_further more.0.0) (expected_is RightParenthesis more.0.1 r.0 r.1)))),
      made.1,
    )

pub primary_is : (inner : Depth) → SoundIn inner → (room : ℕ) → Sound of_primary Is_primary (primary_by inner room)
unfolding primary_by
primary_is inner sound room ts y e =
    elim (when_is (taken LeftParenthesis ts) _ _ _ e) [
      | inl l ↦
          let i = inside_ok inner l.0.2 _ _ l.2 in
          let x = bind_ok (i.0.expression i.0.limit l.0.2) _ _ i.2 in
          let r = bind_ok (expected RightParenthesis x.0.1) _ _ x.2 in
          let made = (sound i.0 i.1).expression i.0.limit l.0.2 x.0 x.1 in
          subst (Spelled of_primary Is_primary ts) (ends_ok _ _ _ _ _ r.2)
          (cc (taken_is LeftParenthesis ts l.0 l.1, made.0, expected_is RightParenthesis x.0.1 r.0 r.1), made.1)
      | inr a ↦ elim (when_is (leaf_if operation_of ts) _ _ _ a.1) [
        | inl o ↦
            let made = operation_reads inner sound room o.0.0 o.0.1 o.0.2 y o.2 in
            (operation_is ts o.0 o.1 ∙ made.0, made.1)
        | inr b ↦ elim (when_is (leaf_if constant_of ts) _ _ _ b.1) [
          | inl k ↦ subst (Spelled of_primary Is_primary ts) (ends_ok _ _ _ _ _ k.2) (constant_is ts k.0 k.1, tt)
          | inr c ↦ elim (when_is (leaf_if name_of ts) _ _ _ c.1) [
            | inl x ↦ subst (Spelled of_primary Is_primary ts) (ends_ok _ _ _ _ _ x.2) (name_is ts x.0 x.1, tt)
            | inr d ↦ absurd (no_ok _ _ d.1)
          ]
        ]
      ]
    ]

index_is : (inner : Depth) → SoundIn inner → (room : ℕ) (p : t.Postfix) (l : Spot) (ts : List Leaf) (y : t.Postfix × List Leaf)
    → Is_postfix p → index_by inner room p l ts ≡ Ok y → Spelled of_postfix Is_postfix (of_postfix p (mark l LeftBracket ∷ ts)) y
unfolding index_by
index_is inner sound room p l ts y is e =
    let i = inside_ok inner ts _ _ e in
    let x = bind_ok (i.0.expression i.0.limit ts) _ _ i.2 in
    let r = bind_ok (expected RightBracket x.0.1) _ _ x.2 in
    let made = (sound i.0 i.1).expression i.0.limit ts x.0 x.1 in
    subst (Spelled of_postfix Is_postfix (of_postfix p (mark l LeftBracket ∷ ts))) (ends_ok _ _ _ _ _ r.2)
    (cc (made.0, expected_is RightBracket x.0.1 r.0 r.1), (is, made.1))

call_is : (inner : Depth) → SoundIn inner → (room : ℕ) (p : t.Postfix) (l : Spot) (ts : List Leaf) (y : t.Postfix × List Leaf)
    → Is_postfix p → call_by inner room p l ts ≡ Ok y → Spelled of_postfix Is_postfix (of_postfix p (mark l LeftParenthesis ∷ ts)) y
unfolding call_by
call_is inner sound room p l ts y is e =
    let i = inside_ok inner ts _ _ e in
    let a = bind_ok (arguments_by i.0 ts) _ _ i.2 in
    let r = bind_ok (expected RightParenthesis a.0.1) _ _ a.2 in
    let made = arguments_are i.0 (sound i.0 i.1) ts a.0 a.1 in
    subst (Spelled of_postfix Is_postfix (of_postfix p (mark l LeftParenthesis ∷ ts))) (ends_ok _ _ _ _ _ r.2)
    (cc (made.0, expected_is RightParenthesis a.0.1 r.0 r.1), (is, made.1))

-- one suffix that is read
pub suffix_is : (inner : Depth) → SoundIn inner
    → (room : ℕ) (p : t.Postfix) (ts : List Leaf) (r : Read t.Postfix) (y : t.Postfix × List Leaf) → Is_postfix p
    → suffix_by inner room p ts ≡ Some r → r ≡ Ok y → Spelled of_postfix Is_postfix (of_postfix p ts) y
unfolding suffix_by member_by
suffix_is inner sound room p ts r y is e ok =
    elim (when_is (taken LeftBracket ts) _ _ _ e) [
      | inl l ↦ let made = index_is inner sound room p l.0.0 l.0.2 y is (some_is _ _ l.2 ∙ ok) in
          (ap (of_postfix p) (taken_is LeftBracket ts l.0 l.1) ∙ made.0, made.1)
      | inr a ↦ elim (when_is (taken LeftParenthesis ts) _ _ _ a.1) [
        | inl l ↦ let made = call_is inner sound room p l.0.0 l.0.2 y is (some_is _ _ l.2 ∙ ok) in
            (ap (of_postfix p) (taken_is LeftParenthesis ts l.0 l.1) ∙ made.0, made.1)
        | inr b ↦ elim (when_is (leaf_if (punct_if is_access) ts) _ _ _ b.1) [
          | inl d ↦
              let n = bind_ok (identifier d.0.2) _ _ (some_is _ _ d.2 ∙ ok) in
              let found = punct_is is_access ts d.0 d.1 in
              subst (Spelled of_postfix Is_postfix (of_postfix p ts)) (ends_ok _ _ _ _ _ n.2)
              (ap (of_postfix p) (found.0 ∙ ap (λ z. mark d.0.0 d.0.1 ∷ z) (identifier_is d.0.2 n.0 n.1)), (is, found.1))
          | inr c ↦
              let d = when_some (leaf_if (punct_if is_step) ts) _ _ c.1 in
              let found = punct_is is_step ts d.0 d.1 in
              subst (Spelled of_postfix Is_postfix (of_postfix p ts)) (ends_ok _ _ _ _ _ (some_is _ _ d.2 ∙ ok))
              (ap (of_postfix p) found.0, (is, found.1))
        ]
      ]
    ]

suffixes_are : (inner : Depth) → SoundIn inner → (room k : ℕ) (p : t.Postfix) (ts : List Leaf) (y : t.Postfix × List Leaf) → Is_postfix p
    → suffixes_by inner room k p ts ≡ Ok y → Spelled of_postfix Is_postfix (of_postfix p ts) y
unfolding suffixes_by
suffixes_are inner sound room zero p ts y is e = absurd (no_ok _ _ e)
suffixes_are inner sound room (suc k) p ts y is e =
    elim (when_is (suffix_by inner room p ts) _ _ _ e) [
      | inl r ↦
          let q = bind_ok r.0 _ _ r.2 in
          let one = suffix_is inner sound room p ts r.0 q.0 is r.1 q.1 in
          let more = suffixes_are inner sound room k q.0.0 q.0.1 y one.1 q.2 in
          (one.0 ∙ more.0, more.1)
      | inr n ↦ subst (Spelled of_postfix Is_postfix (of_postfix p ts)) (ok_is _ _ n.1) (refl, is)
    ]

postfix_is : (inner : Depth) → SoundIn inner → (room : ℕ) → Sound of_postfix Is_postfix (postfix_by inner room)
unfolding postfix_by
postfix_is inner sound room ts y e =
    let p = bind_ok (primary_by inner room ts) _ _ e in
    let first = primary_is inner sound room ts p.0 p.1 in
    let more = suffixes_are inner sound room (chain inner) (t.primary p.0.0) p.0.1 y first.1 p.2 in
    (first.0 ∙ more.0, more.1)

-- ---- unary and cast expressions

size_is : (inner : Depth) → (room : ℕ) (s : Spot) (ts : List Leaf) (y : t.Unary × List Leaf) → size_by inner room s ts ≡ Ok y
    → Spelled of_unary Is_unary (word s words.Sizeof ∷ ts) y
unfolding size_by
size_is inner room s ts y e =
    let l = bind_ok (expected LeftParenthesis ts) _ _ e in
    let i = inside_ok inner l.0.1 _ _ l.2 in
    let ty = bind_ok (type_name_by l.0.1) _ _ i.2 in
    let r = bind_ok (expected RightParenthesis ty.0.1) _ _ ty.2 in
    let made = type_name_is l.0.1 ty.0 ty.1 in
    subst (Spelled of_unary Is_unary (word s words.Sizeof ∷ ts)) (ends_ok _ _ _ _ _ r.2)
    (cc (expected_is LeftParenthesis ts l.0 l.1, made.0, expected_is RightParenthesis ty.0.1 r.0 r.1), made.1)

pub unary_is : (inner : Depth) → SoundIn inner → (room : ℕ) → Sound of_unary Is_unary (unary_by inner room)
unfolding unary_by
unary_is inner sound room ts y e =
    elim (when_is (leaf_if (punct_if is_prefix) ts) _ _ _ e) [
      | inl op ↦
          let i = inside_ok inner op.0.2 _ _ op.2 in
          let c = bind_ok (i.0.cast (room - 1) op.0.2) _ _ i.2 in
          let made = (sound i.0 i.1).cast (room - 1) op.0.2 c.0 c.1 in
          let found = punct_is is_prefix ts op.0 op.1 in
          subst (Spelled of_unary Is_unary ts) (ok_is _ _ c.2) (found.0 ∙ ap (λ z. mark op.0.0 op.0.1 ∷ z) made.0, (found.1, made.1))
      | inr a ↦ elim (when_is (leaf_if (punct_if is_step) ts) _ _ _ a.1) [
        | inl op ↦
            let i = inside_ok inner op.0.2 _ _ op.2 in
            let u = bind_ok (i.0.unary (room - 1) op.0.2) _ _ i.2 in
            let made = (sound i.0 i.1).unary (room - 1) op.0.2 u.0 u.1 in
            let found = punct_is is_step ts op.0 op.1 in
            subst (Spelled of_unary Is_unary ts) (ok_is _ _ u.2) (found.0 ∙ ap (λ z. mark op.0.0 op.0.1 ∷ z) made.0, (found.1, made.1))
        | inr b ↦ elim (when_is (taken_word words.Sizeof ts) _ _ _ b.1) [
          | inl s ↦ let made = size_is inner room s.0.0 s.0.2 y s.2 in (taken_word_is words.Sizeof ts s.0 s.1 ∙ made.0, made.1)
          | inr c ↦
              let p = bind_ok (postfix_by inner room ts) _ _ c.1 in
              let made = postfix_is inner sound room ts p.0 p.1 in
              subst (Spelled of_unary Is_unary ts) (ok_is _ _ p.2) made
        ]
      ]
    ]

pub cast_open_is : (ts : List Leaf) (y : Spot × PunctKind × List Leaf) → cast_at ts ≡ Some y → ts ≡ mark y.0 LeftParenthesis ∷ y.2
unfolding cast_at
cast_open_is ts y e =
    let l = when_some (taken LeftParenthesis ts) _ _ e in
    let w = when_some (leaf_if (word_if starts_specs) l.0.2) _ _ l.2 in
    subst (λ (y : Spot × PunctKind × List Leaf). ts ≡ mark y.0 LeftParenthesis ∷ y.2) (some_is _ _ w.2)
    (taken_is LeftParenthesis ts l.0 l.1)

pub cast_is : (inner : Depth) → SoundIn inner → (room : ℕ) → Sound of_cast Is_cast (cast_by inner room)
unfolding cast_by
cast_is inner sound room ts y e =
    elim (when_is (cast_at ts) _ _ _ e) [
      | inl l ↦
          let i = inside_ok inner l.0.2 _ _ l.2 in
          let ty = bind_ok (type_name_by l.0.2) _ _ i.2 in
          let r = bind_ok (expected RightParenthesis ty.0.1) _ _ ty.2 in
          let c = bind_ok (i.0.cast (room - 1) r.0.1) _ _ r.2 in
          let named = type_name_is l.0.2 ty.0 ty.1 in
          let made = (sound i.0 i.1).cast (room - 1) r.0.1 c.0 c.1 in
          subst (Spelled of_cast Is_cast ts) (ok_is _ _ c.2)
          (cc (cast_open_is ts l.0 l.1, named.0, expected_is RightParenthesis ty.0.1 r.0 r.1, made.0), (named.1, made.1))
      | inr a ↦
          let u = bind_ok (unary_by inner room ts) _ _ a.1 in
          let made = unary_is inner sound room ts u.0 u.1 in
          subst (Spelled of_cast Is_cast ts) (ok_is _ _ u.2) made
    ]

-- ---- binary operators

-- what a level reads
abbrev BinaryAt : ℕ → List Leaf → t.Binary × List Leaf → Type 0
BinaryAt level ts y = (ts ≡ of_binary y.0 y.1) × Is_binary y.0 × (rank y.0 ≤ level)

joins_are : (operand : ℕ → List Leaf → Read t.Binary) (level : ℕ)
    → ((room : ℕ) (ts : List Leaf) (y : t.Binary × List Leaf) → operand room ts ≡ Ok y → BinaryAt level ts y)
    → (room k : ℕ) (a : t.Binary) (ts : List Leaf) (y : t.Binary × List Leaf) → Is_binary a → rank a ≤ suc level
    → joins_by operand (suc level) room k a ts ≡ Ok y → BinaryAt (suc level) (of_binary a ts) y
unfolding joins_by
joins_are operand level sound room zero a ts y is le e = absurd (no_ok _ _ e)
joins_are operand level sound room (suc k) a ts y is le e =
    elim (when_is (leaf_if (punct_if (at_level (suc level))) ts) _ _ _ e) [
      | inl op ↦
          let b = bind_ok (operand _ op.0.2) _ _ op.2 in
          let found = punct_is (at_level (suc level)) ts op.0 op.1 in
          let is_level : level_of op.0.1 ≡ suc level = eqb-true _ _ found.1 in
          let second = sound _ op.0.2 b.0 b.1 in
          let more = joins_are operand level sound room k (t.join a op.0.0 op.0.1 b.0.0) b.0.1 y
          (is, second.1, omega (arith, is_level, le), omega (arith, is_level, second.2)) (omega (arith, is_level)) b.2 in
          (cc (found.0, second.0, more.0), more.1, more.2)
      | inr n ↦ subst (BinaryAt (suc level) (of_binary a ts)) (ok_is _ _ n.1) (refl, is, le)
    ]

pub binary_is : (inner : Depth) → SoundIn inner → (level room : ℕ) (ts : List Leaf) (y : t.Binary × List Leaf)
    → binary_by inner level room ts ≡ Ok y → BinaryAt level ts y
unfolding binary_by
binary_is inner sound zero room ts y e =
    let c = bind_ok (cast_by inner room ts) _ _ e in
    let made = cast_is inner sound room ts c.0 c.1 in
    subst (BinaryAt zero ts) (ok_is _ _ c.2) (made.0, made.1, omega arith)
binary_is inner sound (suc level) room ts y e =
    let a = bind_ok (binary_by inner level room ts) _ _ e in
    let first = binary_is inner sound level room ts a.0 a.1 in
    let more = joins_are (binary_by inner level) level (λ room ts y e. binary_is inner sound level room ts y e) room
    (chain inner) a.0.0 a.0.1 y first.1 (omega (arith, first.2)) a.2 in
    (first.0 ∙ more.0, more.1, more.2)

-- ---- conditionals, assignments and commas

choice_is : (inner : Depth) → SoundIn inner → (room : ℕ) (b : t.Binary) (q : Spot) (ts : List Leaf) (y : t.Conditional × List Leaf)
    → Is_binary b → choice_by inner room b q ts ≡ Ok y → Spelled of_conditional Is_conditional (of_binary b (mark q Question ∷ ts)) y
unfolding choice_by
choice_is inner sound room b q ts y is e =
    let i = begun_ok starts_lexeme inner ts _ _ e in
    let x = bind_ok (i.0.expression i.0.limit ts) _ _ i.2 in
    let k = bind_ok (expected Colon x.0.1) _ _ x.2 in
    let c = bind_ok (i.0.conditional _ k.0.1) _ _ k.2 in
    let first = (sound i.0 i.1).expression i.0.limit ts x.0 x.1 in
    let second = (sound i.0 i.1).conditional _ k.0.1 c.0 c.1 in
    subst (Spelled of_conditional Is_conditional (of_binary b (mark q Question ∷ ts))) (ok_is _ _ c.2)
    (cc (first.0, expected_is Colon x.0.1 k.0 k.1, second.0), (is, first.1, second.1))

pub conditional_is : (inner : Depth) → SoundIn inner → (room : ℕ) → Sound of_conditional Is_conditional (conditional_by inner room)
unfolding conditional_by
conditional_is inner sound room ts y e =
    let b = bind_ok (binary_by inner 10 room ts) _ _ e in
    let test = binary_is inner sound 10 room ts b.0 b.1 in
    elim (when_is (taken Question b.0.1) _ _ _ b.2) [
      | inl q ↦
          let made = choice_is inner sound room b.0.0 q.0.0 q.0.2 y test.1 q.2 in
          (test.0 ∙ ap (of_binary b.0.0) (taken_is Question b.0.1 q.0 q.1) ∙ made.0, made.1)
      | inr n ↦ subst (Spelled of_conditional Is_conditional ts) (ok_is _ _ n.1) (test.0, test.1)
    ]

pub unary_of_is : (c : t.Conditional) (u : t.Unary) → unary_of c ≡ Some u → c ≡ t.plain (t.operand (t.uncast u))
unary_of_is (t.plain (t.operand (t.uncast u))) v e = ap (λ (w : t.Unary). t.plain (t.operand (t.uncast w))) (some_is _ _ e)
unary_of_is (t.plain (t.operand (t.convert l ty r c))) v e = absurd (no_some _ e)
unary_of_is (t.plain (t.join a s op b)) v e = absurd (no_some _ e)
unary_of_is (t.choose b q x k c) v e = absurd (no_some _ e)

assigned_is : (inner : Depth) → SoundIn inner
    → (room : ℕ) (u : t.Unary) (s : Spot) (op : PunctKind) (ts : List Leaf) (y : t.Assignment × List Leaf) → Is_unary u
    → is_assign op ≡ true → assigned_by inner room u s op ts ≡ Ok y
    → Spelled of_assignment Is_assignment (of_unary u (mark s op ∷ ts)) y
unfolding assigned_by
assigned_is inner sound room u s op ts y is is_op e =
    let i = begun_ok starts_lexeme inner ts _ _ e in
    let a = bind_ok (i.0.assignment _ ts) _ _ i.2 in
    let made = (sound i.0 i.1).assignment _ ts a.0 a.1 in
    subst (Spelled of_assignment Is_assignment (of_unary u (mark s op ∷ ts))) (ok_is _ _ a.2)
    (ap (λ z. of_unary u (mark s op ∷ z)) made.0, (is, is_op, made.1))

pub assignment_is : (inner : Depth) → SoundIn inner → (room : ℕ) → Sound of_assignment Is_assignment (assignment_by inner room)
unfolding assignment_by
assignment_is inner sound room ts y e =
    let c = bind_ok (conditional_by inner room ts) _ _ e in
    let all = conditional_is inner sound room ts c.0 c.1 in
    elim (when_is (leaf_if (punct_if is_assign) c.0.1) _ _ _ c.2) [
      | inl op ↦ elim (when_is (unary_of c.0.0) _ _ _ op.2) [
        | inl u ↦
            let found = punct_is is_assign c.0.1 op.0 op.1 in
            let alone = unary_of_is c.0.0 u.0 u.1 in
            let place : Is_conditional (t.plain (t.operand (t.uncast u.0))) = subst Is_conditional alone all.1 in
            let made = assigned_is inner sound room u.0 op.0.0 op.0.1 op.0.2 y place found.1 u.2 in
            (all.0 ∙ ap (λ (d : t.Conditional). of_conditional d c.0.1) alone ∙ ap (of_unary u.0) found.0 ∙ made.0, made.1)
        | inr n ↦ subst (Spelled of_assignment Is_assignment ts) (ok_is _ _ n.1) all
      ]
      | inr n ↦ subst (Spelled of_assignment Is_assignment ts) (ok_is _ _ n.1) all
    ]

commas_are : (inner : Depth) → SoundIn inner → (room k : ℕ) (x : t.Expression) (ts : List Leaf) (y : t.Expression × List Leaf)
    → Is_expression x → commas_by inner room k x ts ≡ Ok y → Spelled of_expression Is_expression (of_expression x ts) y
unfolding commas_by
commas_are inner sound room zero x ts y is e = absurd (no_ok _ _ e)
commas_are inner sound room (suc k) x ts y is e =
    elim (when_is (taken Comma ts) _ _ _ e) [
      | inl c ↦
          let a = bind_ok (assignment_by inner _ c.0.2) _ _ c.2 in
          let made = assignment_is inner sound _ c.0.2 a.0 a.1 in
          let more = commas_are inner sound room k (t.comma x c.0.0 a.0.0) a.0.1 y (is, made.1) a.2 in
          (cc (taken_is Comma ts c.0 c.1, made.0, more.0), more.1)
      | inr n ↦ subst (Spelled of_expression Is_expression (of_expression x ts)) (ok_is _ _ n.1) (refl, is)
    ]

pub expression_is : (inner : Depth) → SoundIn inner → (room : ℕ) → Sound of_expression Is_expression (expression_by inner room)
unfolding expression_by
expression_is inner sound room ts y e =
    let a = bind_ok (assignment_by inner room ts) _ _ e in
    let first = assignment_is inner sound room ts a.0 a.1 in
    let more = commas_are inner sound room (chain inner) (t.single a.0.0) a.0.1 y first.1 a.2 in
    (first.0 ∙ more.0, more.1)
