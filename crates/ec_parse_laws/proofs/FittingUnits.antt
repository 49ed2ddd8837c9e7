-- What is read is no higher than its room and opens no more constructs than may be opened: declarations and statements.
use Rattle.std.proofs.Common.{◌≡◌, ℕ, suc, ◌<◌, ◌≤◌, List, [], ◌∷◌, Option, refl, ap, ◌∙◌, arith, inl, inr}
use Rattle.std.specs.Prelude.{max}
use Rattle.ec_grammar.specs.declared.token.WordKind.TheVariants as words
use Rattle.ec_grammar.specs.declared.token.PunctKind.{PunctKind}
use Rattle.ec_grammar.specs.declared.token.PunctKind.TheVariants.{LeftBrace, RightBrace, LeftParenthesis, RightParenthesis, LeftBracket}
use Rattle.ec_grammar.specs.declared.token.PunctKind.TheVariants.{RightBracket, Semicolon, Comma, Assign}
use Rattle.ec_grammar.specs.declared.Spot.{Spot}
use Rattle.ec_grammar.specs.Trees as t
use Rattle.ec_grammar.specs.Trees.{Leaf}
use Rattle.ec_grammar.specs.Nesting as nest
use Rattle.ec_parse_laws.specs.Reading.{Read, leaf_if, word_if, taken, taken_word, expected, expected_word, identifier, starts_specs}
use Rattle.ec_parse_laws.specs.Reading.{starts_statement, Keyword, if_word, while_word, do_word, for_word, break_word, continue_word}
use Rattle.ec_parse_laws.specs.Reading.{return_word, keyword_of, many, behind_comma, room_after, within, star_at, specs_by, params_by}
use Rattle.ec_parse_laws.specs.Reading.{array_by, shape_by, declarator_by, initialisers_of, initialiser_at, comma_at, braces_by}
use Rattle.ec_parse_laws.specs.Reading.{initialiser_by, start_by, init_declarator_by, declared_by, declaration_by, members_by, members_at}
use Rattle.ec_parse_laws.specs.Reading.{expression_by, assignment_by, conditional_by, condition_by, optional_by, first_by, heading_by}
use Rattle.ec_parse_laws.specs.Reading.{substatement, items_of, item_at, pragma_at, compound_by, else_by, if_by, while_by, do_by, for_by}
use Rattle.ec_parse_laws.specs.Reading.{return_by, worded_by, simple_by, statement_by}
use Rattle.ec_parse_laws.proofs.Basics.{some_is, no_some, bind_ok, when_is, when_some, inner_at}
use Rattle.ec_parse_laws.proofs.Fitting.{Fitting, Keeps, KeepsAt, gives, ended, inside_within, begun_within, after_room, many_keeps}
use Rattle.ec_parse_laws.proofs.Fitting.{comma_keeps, FitsAt, FitsBelow, assignment_keeps, expression_keeps}

-- ---- declarators

array_keeps : (limit m : ℕ) → FitsAt limit m → (l : Spot)
    → Keeps nest.height_shape nest.opens_shape limit (suc m) (array_by (inner_at limit m) l)
unfolding array_by
array_keeps limit m at l ts y e =
    elim (when_is (taken RightBracket ts) _ _ _ e) [
      | inl r ↦ gives nest.height_shape nest.opens_shape limit (suc m) _ _ y r.2 (omega arith) (omega arith)
      | inr k ↦
          let c = bind_ok (conditional_by (within limit m) limit ts) _ _ k.1 in
          let r = bind_ok (expected RightBracket c.0.1) _ _ c.2 in
          let kept = at.conditional limit ts c.0 c.1 in
          gives nest.height_shape nest.opens_shape limit (suc m) _ _ y r.2 kept.0 (omega (arith, kept.1))
    ]

pub shape_keeps : (limit n : ℕ) → FitsBelow limit n → Keeps nest.height_shape nest.opens_shape limit n (shape_by (within limit n))
unfolding shape_by
shape_keeps limit n below ts y e =
    elim (when_is (taken LeftBracket ts) _ _ _ e) [
      | inl l ↦
          let i = inside_within limit n l.0.2 _ _ l.2 in
          let kept = array_keeps limit i.0 (below i.0 i.1) l.0.0 l.0.2 y i.2 in
          (kept.0, omega (arith, i.1, kept.1))
      | inr k ↦ elim (when_is (taken LeftParenthesis ts) _ _ _ k.1) [
        | inl l ↦
            let i = inside_within limit n l.0.2 _ _ l.2 in
            let p = bind_ok (params_by l.0.2) _ _ i.2 in
            let r = bind_ok (expected RightParenthesis p.0.1) _ _ p.2 in
            gives nest.height_shape nest.opens_shape limit n _ _ y r.2 (omega arith) (omega (arith, i.1))
        | inr j ↦ gives nest.height_shape nest.opens_shape limit n _ _ y j.1 (omega arith) (omega arith)
      ]
    ]

pub declarator_keeps : (limit n : ℕ) → FitsBelow limit n
    → Keeps nest.height_declarator nest.opens_declarator limit n (declarator_by (within limit n))
unfolding declarator_by
declarator_keeps limit n below ts y e =
    let stars = bind_ok (many star_at ts) _ _ e in
    let x = bind_ok (identifier stars.0.1) _ _ stars.2 in
    let s = bind_ok (shape_by (within limit n) x.0.1) _ _ x.2 in
    let kept = shape_keeps limit n below x.0.1 s.0 s.1 in
    gives nest.height_declarator nest.opens_declarator limit n _ _ y s.2 kept.0 kept.1

-- ---- initialisers

abbrev initial_height : Spot × t.Initialiser → ℕ
initial_height x = nest.height_initialiser x.1

abbrev initial_opens : Spot × t.Initialiser → ℕ
initial_opens x = nest.opens_initialiser x.1

initials_height : (xs : List (Spot × t.Initialiser)) → nest.height_initialisers (initialisers_of xs) ≡ nest.height_list initial_height xs
initials_height [] = refl
initials_height (x ∷ xs) = ap (max (nest.height_initialiser x.1)) (initials_height xs)

initials_opens : (xs : List (Spot × t.Initialiser)) → nest.opens_initialisers (initialisers_of xs) ≡ nest.height_list initial_opens xs
initials_opens [] = refl
initials_opens (x ∷ xs) = ap (max (nest.opens_initialiser x.1)) (initials_opens xs)

initial_item_keeps : (limit m : ℕ) → FitsAt limit m → KeepsAt initial_height initial_opens limit m (initialiser_at (inner_at limit m))
unfolding initialiser_at
initial_item_keeps limit m at ts r y e ok =
    let c = when_some (taken Comma ts) _ _ e in
    elim (when_is (taken RightBrace c.0.2) _ _ _ c.2) [
      | inl k ↦ absurd (no_some _ k.2)
      | inr k ↦
          let x = bind_ok (initialiser_by (within limit m) limit c.0.2) _ _ (some_is _ _ k.1 ∙ ok) in
          let kept = at.initialiser limit c.0.2 x.0 x.1 in
          gives initial_height initial_opens limit m _ _ y x.2 kept.0 kept.1
    ]

braces_keep : (limit m : ℕ) → FitsAt limit m → (room : ℕ) (l : Spot)
    → Keeps nest.height_initialiser nest.opens_initialiser room (suc m) (braces_by (inner_at limit m) room l)
unfolding braces_by
braces_keep limit m at room l ts y e =
    let x = bind_ok (initialiser_by (within limit m) limit ts) _ _ e in
    let more = bind_ok (many (initialiser_at (inner_at limit m)) x.0.1) _ _ x.2 in
    let c = bind_ok (comma_at more.0.1) _ _ more.2 in
    let r = bind_ok (expected RightBrace c.0.1) _ _ c.2 in
    let one = at.initialiser limit ts x.0 x.1 in
    let others = many_keeps initial_height initial_opens limit m (initialiser_at (inner_at limit m))
    (initial_item_keeps limit m at) x.0.1 more.0 more.1 in
    ended nest.height_initialiser nest.opens_initialiser room (suc m) _ _ _ y r.2 (omega arith)
    (omega (arith, initials_opens more.0.0, one.1, others.1))

pub initialiser_keeps : (limit n : ℕ) → FitsBelow limit n → (room : ℕ)
    → Keeps nest.height_initialiser nest.opens_initialiser room n (initialiser_by (within limit n) room)
unfolding initialiser_by
initialiser_keeps limit n below room ts y e =
    elim (when_is (taken LeftBrace ts) _ _ _ e) [
      | inl l ↦
          let i = inside_within limit n l.0.2 _ _ l.2 in
          let kept = braces_keep limit i.0 (below i.0 i.1) room l.0.0 l.0.2 y i.2 in
          (kept.0, omega (arith, i.1, kept.1))
      | inr k ↦
          let a = bind_ok (assignment_by (within limit n) room ts) _ _ k.1 in
          let kept = assignment_keeps limit n below room ts a.0 a.1 in
          gives nest.height_initialiser nest.opens_initialiser room n _ _ y a.2 kept.0 kept.1
    ]

-- ---- declarations

pub start_keeps : (limit n : ℕ) → FitsBelow limit n
    → Keeps (nest.height_option nest.height_start) (nest.height_option nest.opens_start) limit n (start_by (within limit n))
unfolding start_by
start_keeps limit n below ts y e =
    elim (when_is (taken Assign ts) _ _ _ e) [
      | inl q ↦
          let x = bind_ok (initialiser_by (within limit n) limit q.0.2) _ _ q.2 in
          let kept = initialiser_keeps limit n below limit q.0.2 x.0 x.1 in
          gives (nest.height_option nest.height_start) (nest.height_option nest.opens_start) limit n _ _ y x.2 kept.0 kept.1
      | inr k ↦
          gives (nest.height_option nest.height_start) (nest.height_option nest.opens_start) limit n _ _ y k.1 (omega arith) (omega arith)
    ]

pub init_declarator_keeps : (limit n : ℕ) → FitsBelow limit n
    → Keeps nest.height_init_declarator nest.opens_init_declarator limit n (init_declarator_by (within limit n))
unfolding init_declarator_by
init_declarator_keeps limit n below ts y e =
    let d = bind_ok (declarator_by (within limit n) ts) _ _ e in
    let s = bind_ok (start_by (within limit n) d.0.1) _ _ d.2 in
    let one = declarator_keeps limit n below ts d.0 d.1 in
    let started = start_keeps limit n below d.0.1 s.0 s.1 in
    gives nest.height_init_declarator nest.opens_init_declarator limit n _ _ y s.2 (omega (arith, one.0, started.0))
    (omega (arith, one.1, started.1))

pub declared_keeps : (limit n : ℕ) → FitsBelow limit n → (s : t.Specs) (d : t.Declarator)
    → Fitting nest.height_declarator nest.opens_declarator limit n (d, [])
    → Keeps nest.height_declaration nest.opens_declaration limit n (declared_by (within limit n) s d)
unfolding declared_by
declared_keeps limit n below s d one ts y e =
    let x = bind_ok (start_by (within limit n) ts) _ _ e in
    let more = bind_ok (many (behind_comma t.next_init_declarator (init_declarator_by (within limit n))) x.0.1) _ _ x.2 in
    let c = bind_ok (expected Semicolon more.0.1) _ _ more.2 in
    let started = start_keeps limit n below ts x.0 x.1 in
    let others = many_keeps nest.height_next_init_declarator nest.opens_next_init_declarator limit n
    (behind_comma t.next_init_declarator (init_declarator_by (within limit n)))
    (comma_keeps t.next_init_declarator (init_declarator_by (within limit n)) nest.height_init_declarator nest.opens_init_declarator
    nest.height_next_init_declarator nest.opens_next_init_declarator limit n (init_declarator_keeps limit n below) (λ s x. refl)
    (λ s x. refl)) x.0.1 more.0 more.1 in
    gives nest.height_declaration nest.opens_declaration limit n _ _ y c.2 (omega (arith, one.0, started.0, others.0))
    (omega (arith, one.1, started.1, others.1))

pub declaration_keeps : (limit n : ℕ) → FitsBelow limit n
    → Keeps nest.height_declaration nest.opens_declaration limit n (declaration_by (within limit n))
unfolding declaration_by
declaration_keeps limit n below ts y e =
    let s = bind_ok (specs_by ts) _ _ e in
    let d = bind_ok (declarator_by (within limit n) s.0.1) _ _ s.2 in
    let one = declarator_keeps limit n below s.0.1 d.0 d.1 in
    declared_keeps limit n below s.0.0 d.0.0 (one.0, one.1) d.0.1 y d.2

pub member_keeps : (limit n : ℕ) → FitsBelow limit n → Keeps nest.height_member nest.opens_member limit n (members_by (within limit n))
unfolding members_by
member_keeps limit n below ts y e =
    let s = bind_ok (specs_by ts) _ _ e in
    let d = bind_ok (declarator_by (within limit n) s.0.1) _ _ s.2 in
    let more = bind_ok (many (behind_comma t.next_declarator (declarator_by (within limit n))) d.0.1) _ _ d.2 in
    let c = bind_ok (expected Semicolon more.0.1) _ _ more.2 in
    let one = declarator_keeps limit n below s.0.1 d.0 d.1 in
    let others = many_keeps nest.height_next_declarator nest.opens_next_declarator limit n
    (behind_comma t.next_declarator (declarator_by (within limit n)))
    (comma_keeps t.next_declarator (declarator_by (within limit n)) nest.height_declarator nest.opens_declarator nest.height_next_declarator
    nest.opens_next_declarator limit n (declarator_keeps limit n below) (λ s x. refl) (λ s x. refl)) d.0.1 more.0 more.1 in
    gives nest.height_member nest.opens_member limit n _ _ y c.2 (omega (arith, one.0, others.0)) (omega (arith, one.1, others.1))

pub member_item_keeps : (limit n : ℕ) → FitsBelow limit n
    → KeepsAt nest.height_member nest.opens_member limit n (members_at (within limit n))
unfolding members_at
member_item_keeps limit n below ts r y e ok =
    let w = when_some (leaf_if (word_if starts_specs) ts) _ _ e in
    member_keeps limit n below ts y (some_is _ _ w.2 ∙ ok)

-- ---- parts of statements

pub condition_keeps : (limit n : ℕ) → FitsBelow limit n
    → Keeps nest.height_condition nest.opens_condition limit n (condition_by (within limit n))
unfolding condition_by
condition_keeps limit n below ts y e =
    let l = bind_ok (expected LeftParenthesis ts) _ _ e in
    let i = inside_within limit n l.0.1 _ _ l.2 in
    let x = bind_ok (expression_by (within limit i.0) limit l.0.1) _ _ i.2 in
    let r = bind_ok (expected RightParenthesis x.0.1) _ _ x.2 in
    let kept = (below i.0 i.1).expression limit l.0.1 x.0 x.1 in
    gives nest.height_condition nest.opens_condition limit n _ _ y r.2 kept.0 (omega (arith, i.1, kept.1))

abbrev pub optional_height : Option t.Expression × Spot → ℕ
optional_height o = nest.height_option nest.height_expression o.0

abbrev pub optional_opens : Option t.Expression × Spot → ℕ
optional_opens o = nest.height_option nest.opens_expression o.0

pub optional_keeps : (limit n : ℕ) (p : PunctKind) (expression : List Leaf → Read t.Expression)
    → Keeps nest.height_expression nest.opens_expression limit n expression
    → Keeps optional_height optional_opens limit n (optional_by expression p)
unfolding optional_by
optional_keeps limit n p expression keeps ts y e =
    elim (when_is (taken p ts) _ _ _ e) [
      | inl s ↦ gives optional_height optional_opens limit n _ _ y s.2 (omega arith) (omega arith)
      | inr k ↦
          let x = bind_ok (expression ts) _ _ k.1 in
          let s = bind_ok (expected p x.0.1) _ _ x.2 in
          let kept = keeps ts x.0 x.1 in
          gives optional_height optional_opens limit n _ _ y s.2 kept.0 kept.1
    ]

pub first_keeps : (limit m : ℕ) → FitsAt limit m → Keeps nest.height_first nest.opens_first limit m (first_by (inner_at limit m))
unfolding first_by
first_keeps limit m at ts y e =
    elim (when_is (leaf_if (word_if starts_specs) ts) _ _ _ e) [
      | inl w ↦
          let d = bind_ok (declaration_by (within limit m) ts) _ _ w.2 in
          let kept = at.declaration ts d.0 d.1 in
          gives nest.height_first nest.opens_first limit m _ _ y d.2 kept.0 kept.1
      | inr k ↦
          let o = bind_ok (optional_by (expression_by (within limit m) limit) Semicolon ts) _ _ k.1 in
          let kept = optional_keeps limit m Semicolon (expression_by (within limit m) limit) (at.expression limit) ts o.0 o.1 in
          gives nest.height_first nest.opens_first limit m _ _ y o.2 kept.0 kept.1
    ]

pub heading_keeps : (limit n : ℕ) → FitsBelow limit n → Keeps nest.height_heading nest.opens_heading limit n (heading_by (within limit n))
unfolding heading_by
heading_keeps limit n below ts y e =
    let l = bind_ok (expected LeftParenthesis ts) _ _ e in
    let i = inside_within limit n l.0.1 _ _ l.2 in
    let expression = expression_by (within limit i.0) limit in
    let keeps = (below i.0 i.1).expression limit in
    let f = bind_ok (first_by (inner_at limit i.0) l.0.1) _ _ i.2 in
    let c = bind_ok (optional_by expression Semicolon f.0.1) _ _ f.2 in
    let x = bind_ok (optional_by expression RightParenthesis c.0.1) _ _ c.2 in
    let one = first_keeps limit i.0 (below i.0 i.1) l.0.1 f.0 f.1 in
    let two = optional_keeps limit i.0 Semicolon expression keeps f.0.1 c.0 c.1 in
    let three = optional_keeps limit i.0 RightParenthesis expression keeps c.0.1 x.0 x.1 in
    gives nest.height_heading nest.opens_heading limit n _ _ y x.2 (omega (arith, one.0, two.0, three.0))
    (omega (arith, i.1, one.1, two.1, three.1))

-- ---- statements, which are open themselves

pub substatement_keeps : (limit n : ℕ) → FitsBelow limit n → (room : ℕ)
    → Keeps nest.height_statement nest.opens_statement room n (substatement (within limit n) room)
substatement_keeps limit n below room ts y e =
    let i = begun_within starts_statement limit n ts _ _ e in
    let kept = (below i.0 i.1).statement room ts y i.2 in
    (kept.0, omega (arith, i.1, kept.1))

pub statement_high : (s : t.Statement) → 0 < nest.height_statement s
statement_high (t.block (t.compound l pragmas b r)) = omega arith
statement_high (t.simple e s) = omega arith
statement_high (t.if_then s c b) = omega arith
statement_high (t.if_else s c b e o) = omega arith
statement_high (t.while_loop s c b) = omega arith
statement_high (t.do_loop s b w c e) = omega arith
statement_high (t.for_loop s h b) = omega arith
statement_high (t.break_loop s e) = omega arith
statement_high (t.continue_loop s e) = omega arith
statement_high (t.return_value s v e) = omega arith

abbrev KeepsStatement : ℕ → ℕ → (List Leaf → Read t.Statement) → Type 0
KeepsStatement room n reader = Keeps nest.height_statement nest.opens_statement room (suc n) reader

else_keeps : (limit n : ℕ) → FitsBelow limit n → (room : ℕ) (s : Spot) (c : t.Condition) (b : t.Statement)
    → nest.opens_condition c ≤ n → nest.opens_statement b ≤ n → suc (max (nest.height_condition c) (nest.height_statement b)) ≤ room
    → KeepsStatement room n (else_by (within limit n) room s c b)
unfolding else_by
else_keeps limit n below room s c b few_c few_b low ts y e =
    elim (when_is (taken_word words.Else ts) _ _ _ e) [
      | inl w ↦
          let first : ℕ = max (nest.height_condition c) (nest.height_statement b) in
          let o = bind_ok (substatement (within limit n) (room_after room first) w.0.2) _ _ w.2 in
          let kept = substatement_keeps limit n below (room_after room first) w.0.2 o.0 o.1 in
          gives nest.height_statement nest.opens_statement room (suc n) _ _ y o.2
          (after_room room first (nest.height_statement o.0.0) (statement_high o.0.0) kept.0) (omega (arith, few_c, few_b, kept.1))
      | inr k ↦ gives nest.height_statement nest.opens_statement room (suc n) _ _ y k.1 low (omega (arith, few_c, few_b))
    ]

if_keeps : (limit n : ℕ) → FitsBelow limit n → (room : ℕ) (s : Spot) → KeepsStatement room n (if_by (within limit n) room s)
unfolding if_by
if_keeps limit n below room s ts y e =
    let c = bind_ok (condition_by (within limit n) ts) _ _ e in
    let b = bind_ok (substatement (within limit n) (room_after room (nest.height_condition c.0.0)) c.0.1) _ _ c.2 in
    let one = condition_keeps limit n below ts c.0 c.1 in
    let two = substatement_keeps limit n below (room_after room (nest.height_condition c.0.0)) c.0.1 b.0 b.1 in
    else_keeps limit n below room s c.0.0 b.0.0 one.1 two.1
    (after_room room (nest.height_condition c.0.0) (nest.height_statement b.0.0) (statement_high b.0.0) two.0) b.0.1 y b.2

while_keeps : (limit n : ℕ) → FitsBelow limit n → (room : ℕ) (s : Spot) → KeepsStatement room n (while_by (within limit n) room s)
unfolding while_by
while_keeps limit n below room s ts y e =
    let c = bind_ok (condition_by (within limit n) ts) _ _ e in
    let b = bind_ok (substatement (within limit n) (room_after room (nest.height_condition c.0.0)) c.0.1) _ _ c.2 in
    let one = condition_keeps limit n below ts c.0 c.1 in
    let two = substatement_keeps limit n below (room_after room (nest.height_condition c.0.0)) c.0.1 b.0 b.1 in
    gives nest.height_statement nest.opens_statement room (suc n) _ _ y b.2
    (after_room room (nest.height_condition c.0.0) (nest.height_statement b.0.0) (statement_high b.0.0) two.0) (omega (arith, one.1, two.1))

do_keeps : (limit n : ℕ) → FitsBelow limit n → (room : ℕ) (s : Spot) → KeepsStatement room n (do_by (within limit n) room s)
unfolding do_by
do_keeps limit n below room s ts y e =
    let b = bind_ok (substatement (within limit n) limit ts) _ _ e in
    let w = bind_ok (expected_word words.While b.0.1) _ _ b.2 in
    let c = bind_ok (condition_by (within limit n) w.0.1) _ _ w.2 in
    let k = bind_ok (expected Semicolon c.0.1) _ _ c.2 in
    let one = substatement_keeps limit n below limit ts b.0 b.1 in
    let two = condition_keeps limit n below w.0.1 c.0 c.1 in
    ended nest.height_statement nest.opens_statement room (suc n) _ _ _ y k.2 (omega arith) (omega (arith, one.1, two.1))

for_keeps : (limit n : ℕ) → FitsBelow limit n → (room : ℕ) (s : Spot) → KeepsStatement room n (for_by (within limit n) room s)
unfolding for_by
for_keeps limit n below room s ts y e =
    let h = bind_ok (heading_by (within limit n) ts) _ _ e in
    let b = bind_ok (substatement (within limit n) (room_after room (nest.height_heading h.0.0)) h.0.1) _ _ h.2 in
    let one = heading_keeps limit n below ts h.0 h.1 in
    let two = substatement_keeps limit n below (room_after room (nest.height_heading h.0.0)) h.0.1 b.0 b.1 in
    gives nest.height_statement nest.opens_statement room (suc n) _ _ y b.2
    (after_room room (nest.height_heading h.0.0) (nest.height_statement b.0.0) (statement_high b.0.0) two.0) (omega (arith, one.1, two.1))

return_keeps : (limit n : ℕ) → FitsBelow limit n → (room : ℕ) (s : Spot) → KeepsStatement room n (return_by (within limit n) room s)
unfolding return_by
return_keeps limit n below room s ts y e =
    let o = bind_ok (optional_by (expression_by (within limit n) limit) Semicolon ts) _ _ e in
    let kept = optional_keeps limit n Semicolon (expression_by (within limit n) limit) (expression_keeps limit n below limit) ts o.0 o.1 in
    ended nest.height_statement nest.opens_statement room (suc n) _ _ _ y o.2 (omega arith) (omega (arith, kept.1))

worded_keeps : (limit n : ℕ) → FitsBelow limit n → (room : ℕ) (s : Spot) (k : Keyword)
    → KeepsStatement room n (worded_by (within limit n) room s k)
worded_keeps limit n below room s if_word ts y e = if_keeps limit n below room s ts y e
worded_keeps limit n below room s while_word ts y e = while_keeps limit n below room s ts y e
worded_keeps limit n below room s do_word ts y e = do_keeps limit n below room s ts y e
worded_keeps limit n below room s for_word ts y e = for_keeps limit n below room s ts y e
worded_keeps limit n below room s break_word ts y e =
    let k = bind_ok (expected Semicolon ts) _ _ e in
    ended nest.height_statement nest.opens_statement room (suc n) _ _ _ y k.2 (omega arith) (omega arith)
worded_keeps limit n below room s continue_word ts y e =
    let k = bind_ok (expected Semicolon ts) _ _ e in
    ended nest.height_statement nest.opens_statement room (suc n) _ _ _ y k.2 (omega arith) (omega arith)
worded_keeps limit n below room s return_word ts y e = return_keeps limit n below room s ts y e

-- ---- compound statements

items_height : (xs : List t.Item) → nest.height_items (items_of xs) ≡ nest.height_list nest.height_item xs
items_height [] = refl
items_height (x ∷ xs) = ap (max (nest.height_item x)) (items_height xs)

items_opens : (xs : List t.Item) → nest.opens_items (items_of xs) ≡ nest.height_list nest.opens_item xs
items_opens [] = refl
items_opens (x ∷ xs) = ap (max (nest.opens_item x)) (items_opens xs)

pub item_keeps : (limit n : ℕ) → FitsBelow limit n → KeepsAt nest.height_item nest.opens_item limit n (item_at (within limit n))
unfolding item_at
item_keeps limit n below ts r y e ok =
    elim (when_is (leaf_if (word_if starts_specs) ts) _ _ _ e) [
      | inl w ↦
          let d = bind_ok (declaration_by (within limit n) ts) _ _ (some_is _ _ w.2 ∙ ok) in
          let kept = declaration_keeps limit n below ts d.0 d.1 in
          gives nest.height_item nest.opens_item limit n _ _ y d.2 kept.0 kept.1
      | inr k ↦ elim (when_is (taken RightBrace ts) _ _ _ k.1) [
        | inl x ↦ absurd (no_some _ x.2)
        | inr j ↦
            let s = bind_ok (substatement (within limit n) limit ts) _ _ (some_is _ _ j.1 ∙ ok) in
            let kept = substatement_keeps limit n below limit ts s.0 s.1 in
            gives nest.height_item nest.opens_item limit n _ _ y s.2 kept.0 kept.1
      ]
    ]

pub compound_keeps : (limit n : ℕ) → FitsBelow limit n → (room : ℕ)
    → Keeps nest.height_compound nest.opens_compound room (suc n) (compound_by (within limit n) room)
unfolding compound_by
compound_keeps limit n below room ts y e =
    let l = bind_ok (expected LeftBrace ts) _ _ e in
    let p = bind_ok (many pragma_at l.0.1) _ _ l.2 in
    let b = bind_ok (many (item_at (within limit n)) p.0.1) _ _ p.2 in
    let r = bind_ok (expected RightBrace b.0.1) _ _ b.2 in
    let kept = many_keeps nest.height_item nest.opens_item limit n (item_at (within limit n)) (item_keeps limit n below) p.0.1 b.0 b.1 in
    ended nest.height_compound nest.opens_compound room (suc n) _ _ _ y r.2 (omega arith) (omega (arith, items_opens b.0.0, kept.1))

simple_keeps : (limit n : ℕ) → FitsBelow limit n → (room : ℕ) → KeepsStatement room n (simple_by (within limit n) room)
unfolding simple_by
simple_keeps limit n below room ts y e =
    let o = bind_ok (optional_by (expression_by (within limit n) limit) Semicolon ts) _ _ e in
    let kept = optional_keeps limit n Semicolon (expression_by (within limit n) limit) (expression_keeps limit n below limit) ts o.0 o.1 in
    ended nest.height_statement nest.opens_statement room (suc n) _ _ _ y o.2 (omega arith) (omega (arith, kept.1))

pub statement_keeps : (limit n : ℕ) → FitsBelow limit n → (room : ℕ) → KeepsStatement room n (statement_by (within limit n) room)
unfolding statement_by
statement_keeps limit n below room ts y e =
    elim (when_is (leaf_if keyword_of ts) _ _ _ e) [
      | inl k ↦ worded_keeps limit n below room k.0.0 k.0.1 k.0.2 y k.2
      | inr a ↦ elim (when_is (taken LeftBrace ts) _ _ _ a.1) [
        | inl l ↦
            let c = bind_ok (compound_by (within limit n) room ts) _ _ l.2 in
            let kept = compound_keeps limit n below room ts c.0 c.1 in
            gives nest.height_statement nest.opens_statement room (suc n) _ _ y c.2 kept.0 kept.1
        | inr b ↦ simple_keeps limit n below room ts y b.1
      ]
    ]
