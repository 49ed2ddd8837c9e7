-- What is read is no higher than its room and opens no more constructs than may be opened: expressions.
use Rattle.std.proofs.Common.{◌≡◌, ℕ, zero, suc, ◌-◌, ◌<◌, ◌≤◌, List, [], ◌∷◌, length, Bool, true, false, cond, Ok, Option, Some, refl, ap}
use Rattle.std.proofs.Common.{◌∙◌, arith, inl, inr, subst}
use Rattle.std.specs.Prelude.{max, nat_lt}
use Rattle.std.proofs.lemmas.Bool.{ltb-true, ltb-false}
use Rattle.ec_grammar.specs.declared.token.WordKind.TheVariants as words
use Rattle.ec_grammar.specs.declared.token.PunctKind.{PunctKind}
use Rattle.ec_grammar.specs.declared.token.PunctKind.TheVariants.{LeftParenthesis, RightParenthesis, LeftBracket, RightBracket, Comma}
use Rattle.ec_grammar.specs.declared.token.PunctKind.TheVariants.{Question, Colon}
use Rattle.ec_grammar.specs.declared.Spot.{Spot}
use Rattle.ec_grammar.specs.declared.Operation.{Operation}
use Rattle.ec_grammar.specs.Tokens.{Lexeme}
use Rattle.ec_grammar.specs.Trees as t
use Rattle.ec_grammar.specs.Trees.{Leaf}
use Rattle.ec_grammar.specs.Grammar.{is_assign, is_step, is_prefix, is_access}
use Rattle.ec_grammar.specs.Nesting as nest
use Rattle.ec_parse_laws.specs.Reading.{Read, leaf_if, punct_if, name_of, constant_of, operation_of, taken, taken_word, expected}
use Rattle.ec_parse_laws.specs.Reading.{identifier, starts_lexeme, many_up_to, many, behind_comma, ends, Inner, inside, begun, room_after}
use Rattle.ec_parse_laws.specs.Reading.{chain, at_level, type_name_by, further_of, pair, argument_at, further_by, arguments_by}
use Rattle.ec_parse_laws.specs.Reading.{operation_by, primary_by, index_by, call_by, member_by, suffix_by, suffixes_by, postfix_by, size_by}
use Rattle.ec_parse_laws.specs.Reading.{unary_by, cast_at, cast_by, joins_by, binary_by, choice_by, conditional_by, unary_of, assigned_by}
use Rattle.ec_parse_laws.specs.Reading.{assignment_by, commas_by, expression_by, initialiser_by, declaration_by, statement_by, compound_by}
use Rattle.ec_parse_laws.specs.Reading.{opened_at, within}
use Rattle.ec_parse_laws.proofs.Basics.{done, ok_is, some_is, no_ok, bind_ok, when_is, when_some, cond_ok, inner_at}
use Rattle.ec_parse_laws.proofs.Sound.{unary_of_is}

-- ---- what a reader keeps

abbrev pub Fitting : {A : Type 0} → (A → ℕ) → (A → ℕ) → ℕ → ℕ → A × List Leaf → Type 0
Fitting height opens room n y = (height y.0 ≤ room) × (opens y.0 ≤ n)

abbrev pub Keeps : {A : Type 0} → (A → ℕ) → (A → ℕ) → ℕ → ℕ → (List Leaf → Read A) → Type 0
Keeps height opens room n reader = (ts : List Leaf) (y : _) → reader ts ≡ Ok y → Fitting height opens room n y

abbrev pub KeepsAt : {A : Type 0} → (A → ℕ) → (A → ℕ) → ℕ → ℕ → (List Leaf → Option (Read A)) → Type 0
KeepsAt height opens room n item = (ts : List Leaf) (r : _) (y : _) → item ts ≡ Some r → r ≡ Ok y → Fitting height opens room n y

-- what is answered at once
pub gives : {A : Type 0} (height opens : A → ℕ) (room n : ℕ) (x : A) (rest : List Leaf) (y : A × List Leaf) → done (x, rest) ≡ Ok y
    → height x ≤ room → opens x ≤ n → Fitting height opens room n y
gives height opens room n x rest y e low few = subst (Fitting height opens room n) (ok_is _ _ e) (low, few)

-- a node that ends within its room
pub ended : {A : Type 0} (height opens : A → ℕ) (room n h : ℕ) (x : A) (rest : List Leaf) (y : A × List Leaf) → ends room h x rest ≡ Ok y
    → height x ≤ h → opens x ≤ n → Fitting height opens room n y
ended height opens room n h x rest y e low few =
    let both = cond_ok (nat_lt room h) _ _ y e in
    gives height opens room n x rest y both.1 (omega (arith, low, ltb-false room h both.0)) few

pub inside_within : {A : Type 0} (limit n : ℕ) (ts : List Leaf) (f : Inner → Read A) (y : A × List Leaf)
    → inside (within limit n) ts f ≡ Ok y → (m : ℕ) × (n ≡ suc m) × (f (inner_at limit m) ≡ Ok y)
unfolding opened_at
inside_within limit zero ts f y e = absurd (no_ok _ _ e)
inside_within limit (suc m) ts f y e = (m, refl, e)

pub begun_within : {A : Type 0} (starts : Lexeme → Bool) (limit n : ℕ) (ts : List Leaf) (f : Inner → Read A) (y : A × List Leaf)
    → begun starts (within limit n) ts f ≡ Ok y → (m : ℕ) × (n ≡ suc m) × (f (inner_at limit m) ≡ Ok y)
unfolding opened_at
begun_within starts limit zero ts f y e = absurd (no_ok _ _ e)
begun_within starts limit (suc m) ts f y e = (m, refl, e)

-- what was read in the room behind parts of such a height
pub after_room : (room first last : ℕ) → 0 < last → last ≤ room_after room first → suc (max first last) ≤ room
after_room room first last some = go (nat_lt first room) refl
  where
    go : (b : Bool) → nat_lt first room ≡ b → last ≤ cond b (room - 1) 0 → suc (max first last) ≤ room
    go true e le = omega (arith, ltb-true first room e, le, some)
    go false e le = absurd (omega (arith, some, le))

many_up_to_keeps : {A : Type 0} (height opens : A → ℕ) (room n : ℕ) (item : List Leaf → Option (Read A)) → KeepsAt height opens room n item
    → (k : ℕ) → Keeps (nest.height_list height) (nest.height_list opens) room n (many_up_to item k)
unfolding many_up_to
many_up_to_keeps height opens room n item keeps zero ts y e =
    gives (nest.height_list height) (nest.height_list opens) room n _ _ y e (omega arith) (omega arith)
many_up_to_keeps height opens room n item keeps (suc k) ts y e =
    elim (when_is (item ts) _ _ _ e) [
      | inl r ↦
          let x = bind_ok r.0 _ _ r.2 in
          let xs = bind_ok (many_up_to item k x.0.1) _ _ x.2 in
          let one = keeps ts r.0 x.0 r.1 x.1 in
          let more = many_up_to_keeps height opens room n item keeps k x.0.1 xs.0 xs.1 in
          gives (nest.height_list height) (nest.height_list opens) room n _ _ y xs.2 (omega (arith, one.0, more.0))
          (omega (arith, one.1, more.1))
      | inr k ↦ gives (nest.height_list height) (nest.height_list opens) room n _ _ y k.1 (omega arith) (omega arith)
    ]

pub many_keeps : {A : Type 0} (height opens : A → ℕ) (room n : ℕ) (item : List Leaf → Option (Read A)) → KeepsAt height opens room n item
    → Keeps (nest.height_list height) (nest.height_list opens) room n (many item)
many_keeps height opens room n item keeps ts y e = many_up_to_keeps height opens room n item keeps (length ts) ts y e

-- an item behind a comma, of the height of what follows the comma
pub comma_keeps : {A B : Type 0} (make : Spot → A → B) (item : List Leaf → Read A) (height opens : A → ℕ) (above inner : B → ℕ) (room n : ℕ)
    → Keeps height opens room n item → ((s : Spot) (x : A) → above (make s x) ≡ height x)
    → ((s : Spot) (x : A) → inner (make s x) ≡ opens x)
    → KeepsAt above inner room n (behind_comma make item)
comma_keeps make item height opens above inner room n keeps same_height same_opens ts r y e ok =
    let c = when_some (taken Comma ts) _ _ e in
    let x = bind_ok (item c.0.2) _ _ (some_is _ _ c.2 ∙ ok) in
    let kept = keeps c.0.2 x.0 x.1 in
    gives above inner room n _ _ y x.2 (omega (arith, same_height c.0.0 x.0.0, kept.0)) (omega (arith, same_opens c.0.0 x.0.0, kept.1))

-- ---- all that is read where n constructs may be opened

pub record FitsAt (limit n : ℕ) : Type 0 where
  pub expression : (room : ℕ) → Keeps nest.height_expression nest.opens_expression room n (expression_by (within limit n) room)
  pub assignment : (room : ℕ) → Keeps nest.height_assignment nest.opens_assignment room n (assignment_by (within limit n) room)
  pub conditional : (room : ℕ) → Keeps nest.height_conditional nest.opens_conditional room n (conditional_by (within limit n) room)
  pub cast : (room : ℕ) → Keeps nest.height_cast nest.opens_cast room n (cast_by (within limit n) room)
  pub unary : (room : ℕ) → Keeps nest.height_unary nest.opens_unary room n (unary_by (within limit n) room)
  pub initialiser : (room : ℕ) → Keeps nest.height_initialiser nest.opens_initialiser room n (initialiser_by (within limit n) room)
  pub declaration : Keeps nest.height_declaration nest.opens_declaration limit n (declaration_by (within limit n))
  -- the statement itself is open already
  pub statement : (room : ℕ) → Keeps nest.height_statement nest.opens_statement room (suc n) (statement_by (within limit n) room)
  pub compound : (room : ℕ) → Keeps nest.height_compound nest.opens_compound room (suc n) (compound_by (within limit n) room)

-- of what stands inside a construct that was opened
abbrev pub FitsBelow : ℕ → ℕ → Type 0
FitsBelow limit n = (m : ℕ) → n ≡ suc m → FitsAt limit m

-- ---- an expression has a height

mutual
  pub assignment_high : (a : t.Assignment) → 0 < nest.height_assignment a
  assignment_high (t.value c) = conditional_high c
  assignment_high (t.assign u s op a) = omega arith

  pub conditional_high : (c : t.Conditional) → 0 < nest.height_conditional c
  conditional_high (t.plain b) = binary_high b
  conditional_high (t.choose b q e k c) = omega arith

  pub binary_high : (b : t.Binary) → 0 < nest.height_binary b
  binary_high (t.operand c) = cast_high c
  binary_high (t.join a s op b) = omega arith

  pub cast_high : (c : t.Cast) → 0 < nest.height_cast c
  cast_high (t.uncast u) = unary_high u
  cast_high (t.convert l ty r c) = omega arith

  pub unary_high : (u : t.Unary) → 0 < nest.height_unary u
  unary_high (t.postfix p) = postfix_high p
  unary_high (t.step s op u) = omega arith
  unary_high (t.prefix s op c) = omega arith
  unary_high (t.size s l ty r) = omega arith

  postfix_high : (p : t.Postfix) → 0 < nest.height_postfix p
  postfix_high (t.primary p) = primary_high p
  postfix_high (t.index p l e r) = omega arith
  postfix_high (t.call p l a r) = omega arith
  postfix_high (t.member p s op n) = omega arith
  postfix_high (t.stepped p s op) = omega arith

  primary_high : (p : t.Primary) → 0 < nest.height_primary p
  primary_high (t.name n) = omega arith
  primary_high (t.constant s k) = omega arith
  primary_high (t.parenthesised l e r) = omega arith
  primary_high (t.operation s op l n more r) = omega arith

-- ---- arguments

abbrev pair_height : Spot × t.Assignment → ℕ
pair_height x = nest.height_assignment x.1

abbrev pair_opens : Spot × t.Assignment → ℕ
pair_opens x = nest.opens_assignment x.1

further_height : (xs : List (Spot × t.Assignment)) → nest.height_further (further_of xs) ≡ nest.height_list pair_height xs
further_height [] = refl
further_height (x ∷ xs) = ap (max (nest.height_assignment x.1)) (further_height xs)

further_opens : (xs : List (Spot × t.Assignment)) → nest.opens_further (further_of xs) ≡ nest.height_list pair_opens xs
further_opens [] = refl
further_opens (x ∷ xs) = ap (max (nest.opens_assignment x.1)) (further_opens xs)

pub further_keeps : (limit m : ℕ) → FitsAt limit m → Keeps nest.height_further nest.opens_further limit m (further_by (inner_at limit m))
unfolding further_by
further_keeps limit m at ts y e =
    let more = bind_ok (many (argument_at (inner_at limit m)) ts) _ _ e in
    let kept = many_keeps pair_height pair_opens limit m (argument_at (inner_at limit m))
    (comma_keeps pair (assignment_by (within limit m) limit) nest.height_assignment nest.opens_assignment pair_height pair_opens limit m
    (at.assignment limit) (λ s x. refl) (λ s x. refl)) ts more.0 more.1 in
    gives nest.height_further nest.opens_further limit m _ _ y more.2 (omega (arith, further_height more.0.0, kept.0))
    (omega (arith, further_opens more.0.0, kept.1))

pub arguments_keep : (limit m : ℕ) → FitsAt limit m
    → Keeps nest.height_arguments nest.opens_arguments limit m (arguments_by (inner_at limit m))
unfolding arguments_by
arguments_keep limit m at ts y e =
    elim (when_is (taken RightParenthesis ts) _ _ _ e) [
      | inl r ↦ gives nest.height_arguments nest.opens_arguments limit m _ _ y r.2 (omega arith) (omega arith)
      | inr k ↦
          let a = bind_ok (assignment_by (within limit m) limit ts) _ _ k.1 in
          let more = bind_ok (further_by (inner_at limit m) a.0.1) _ _ a.2 in
          let one = at.assignment limit ts a.0 a.1 in
          let others = further_keeps limit m at a.0.1 more.0 more.1 in
          gives nest.height_arguments nest.opens_arguments limit m _ _ y more.2 (omega (arith, one.0, others.0))
          (omega (arith, one.1, others.1))
    ]

-- ---- primary and postfix expressions

operation_keeps : (limit n : ℕ) → FitsBelow limit n → (room : ℕ) (s : Spot) (op : Operation)
    → Keeps nest.height_primary nest.opens_primary room n (operation_by (within limit n) room s op)
unfolding operation_by
operation_keeps limit n below room s op ts y e =
    let l = bind_ok (expected LeftParenthesis ts) _ _ e in
    let i = inside_within limit n l.0.1 _ _ l.2 in
    let x = bind_ok (identifier l.0.1) _ _ i.2 in
    let more = bind_ok (further_by (inner_at limit i.0) x.0.1) _ _ x.2 in
    let r = bind_ok (expected RightParenthesis more.0.1) _ _ more.2 in
    let kept = further_keeps limit i.0 (below i.0 i.1) x.0.1 more.0 more.1 in
    ended nest.height_primary nest.opens_primary room n _ _ _ y r.2 (omega arith) (omega (arith, i.1, kept.1))

pub primary_keeps : (limit n : ℕ) → FitsBelow limit n → (room : ℕ)
    → Keeps nest.height_primary nest.opens_primary room n (primary_by (within limit n) room)
unfolding primary_by
primary_keeps limit n below room ts y e =
    elim (when_is (taken LeftParenthesis ts) _ _ _ e) [
      | inl l ↦
          let i = inside_within limit n l.0.2 _ _ l.2 in
          let x = bind_ok (expression_by (within limit i.0) limit l.0.2) _ _ i.2 in
          let r = bind_ok (expected RightParenthesis x.0.1) _ _ x.2 in
          let kept = (below i.0 i.1).expression limit l.0.2 x.0 x.1 in
          ended nest.height_primary nest.opens_primary room n _ _ _ y r.2 (omega arith) (omega (arith, i.1, kept.1))
      | inr a ↦ elim (when_is (leaf_if operation_of ts) _ _ _ a.1) [
        | inl o ↦ operation_keeps limit n below room o.0.0 o.0.1 o.0.2 y o.2
        | inr b ↦ elim (when_is (leaf_if constant_of ts) _ _ _ b.1) [
          | inl k ↦ ended nest.height_primary nest.opens_primary room n _ _ _ y k.2 (omega arith) (omega arith)
          | inr c ↦ elim (when_is (leaf_if name_of ts) _ _ _ c.1) [
            | inl x ↦ ended nest.height_primary nest.opens_primary room n _ _ _ y x.2 (omega arith) (omega arith)
            | inr d ↦ absurd (no_ok _ _ d.1)
          ]
        ]
      ]
    ]

index_keeps : (limit n : ℕ) → FitsBelow limit n → (room : ℕ) (p : t.Postfix) (l : Spot) → nest.opens_postfix p ≤ n
    → Keeps nest.height_postfix nest.opens_postfix room n (index_by (within limit n) room p l)
unfolding index_by
index_keeps limit n below room p l few ts y e =
    let i = inside_within limit n ts _ _ e in
    let x = bind_ok (expression_by (within limit i.0) limit ts) _ _ i.2 in
    let r = bind_ok (expected RightBracket x.0.1) _ _ x.2 in
    let kept = (below i.0 i.1).expression limit ts x.0 x.1 in
    ended nest.height_postfix nest.opens_postfix room n _ _ _ y r.2 (omega arith) (omega (arith, i.1, kept.1, few))

call_keeps : (limit n : ℕ) → FitsBelow limit n → (room : ℕ) (p : t.Postfix) (l : Spot) → nest.opens_postfix p ≤ n
    → Keeps nest.height_postfix nest.opens_postfix room n (call_by (within limit n) room p l)
unfolding call_by
call_keeps limit n below room p l few ts y e =
    let i = inside_within limit n ts _ _ e in
    let a = bind_ok (arguments_by (inner_at limit i.0) ts) _ _ i.2 in
    let r = bind_ok (expected RightParenthesis a.0.1) _ _ a.2 in
    let kept = arguments_keep limit i.0 (below i.0 i.1) ts a.0 a.1 in
    ended nest.height_postfix nest.opens_postfix room n _ _ _ y r.2 (omega arith) (omega (arith, i.1, kept.1, few))

-- one suffix that is read
pub suffix_keeps : (limit n : ℕ) → FitsBelow limit n → (room : ℕ) (p : t.Postfix) → nest.opens_postfix p ≤ n
    → KeepsAt nest.height_postfix nest.opens_postfix room n (suffix_by (within limit n) room p)
unfolding suffix_by member_by
suffix_keeps limit n below room p few ts r y e ok =
    elim (when_is (taken LeftBracket ts) _ _ _ e) [
      | inl l ↦ index_keeps limit n below room p l.0.0 few l.0.2 y (some_is _ _ l.2 ∙ ok)
      | inr a ↦ elim (when_is (taken LeftParenthesis ts) _ _ _ a.1) [
        | inl l ↦ call_keeps limit n below room p l.0.0 few l.0.2 y (some_is _ _ l.2 ∙ ok)
        | inr b ↦ elim (when_is (leaf_if (punct_if is_access) ts) _ _ _ b.1) [
          | inl d ↦
              let x = bind_ok (identifier d.0.2) _ _ (some_is _ _ d.2 ∙ ok) in
              ended nest.height_postfix nest.opens_postfix room n _ _ _ y x.2 (omega arith) few
          | inr c ↦
              let d = when_some (leaf_if (punct_if is_step) ts) _ _ c.1 in
              ended nest.height_postfix nest.opens_postfix room n _ _ _ y (some_is _ _ d.2 ∙ ok) (omega arith) few
        ]
      ]
    ]

suffixes_keep : (limit n : ℕ) → FitsBelow limit n → (room k : ℕ) (p : t.Postfix) → nest.height_postfix p ≤ room → nest.opens_postfix p ≤ n
    → Keeps nest.height_postfix nest.opens_postfix room n (suffixes_by (within limit n) room k p)
unfolding suffixes_by
suffixes_keep limit n below room zero p low few ts y e = absurd (no_ok _ _ e)
suffixes_keep limit n below room (suc k) p low few ts y e =
    elim (when_is (suffix_by (within limit n) room p ts) _ _ _ e) [
      | inl r ↦
          let q = bind_ok r.0 _ _ r.2 in
          let one = suffix_keeps limit n below room p few ts r.0 q.0 r.1 q.1 in
          suffixes_keep limit n below room k q.0.0 one.0 one.1 q.0.1 y q.2
      | inr j ↦ gives nest.height_postfix nest.opens_postfix room n _ _ y j.1 low few
    ]

pub postfix_keeps : (limit n : ℕ) → FitsBelow limit n → (room : ℕ)
    → Keeps nest.height_postfix nest.opens_postfix room n (postfix_by (within limit n) room)
unfolding postfix_by
postfix_keeps limit n below room ts y e =
    let p = bind_ok (primary_by (within limit n) room ts) _ _ e in
    let first = primary_keeps limit n below room ts p.0 p.1 in
    suffixes_keep limit n below room (chain (within limit n)) (t.primary p.0.0) first.0 first.1 p.0.1 y p.2

-- ---- unary and cast expressions

size_keeps : (limit n : ℕ) (room : ℕ) (s : Spot) → Keeps nest.height_unary nest.opens_unary room n (size_by (within limit n) room s)
unfolding size_by
size_keeps limit n room s ts y e =
    let l = bind_ok (expected LeftParenthesis ts) _ _ e in
    let i = inside_within limit n l.0.1 _ _ l.2 in
    let ty = bind_ok (type_name_by l.0.1) _ _ i.2 in
    let r = bind_ok (expected RightParenthesis ty.0.1) _ _ ty.2 in
    ended nest.height_unary nest.opens_unary room n _ _ _ y r.2 (omega arith) (omega (arith, i.1))

pub unary_keeps : (limit n : ℕ) → FitsBelow limit n → (room : ℕ)
    → Keeps nest.height_unary nest.opens_unary room n (unary_by (within limit n) room)
unfolding unary_by
unary_keeps limit n below room ts y e =
    elim (when_is (leaf_if (punct_if is_prefix) ts) _ _ _ e) [
      | inl op ↦
          let i = inside_within limit n op.0.2 _ _ op.2 in
          let c = bind_ok (cast_by (within limit i.0) (room - 1) op.0.2) _ _ i.2 in
          let kept = (below i.0 i.1).cast (room - 1) op.0.2 c.0 c.1 in
          gives nest.height_unary nest.opens_unary room n _ _ y c.2 (omega (arith, kept.0, cast_high c.0.0)) (omega (arith, i.1, kept.1))
      | inr a ↦ elim (when_is (leaf_if (punct_if is_step) ts) _ _ _ a.1) [
        | inl op ↦
            let i = inside_within limit n op.0.2 _ _ op.2 in
            let u = bind_ok (unary_by (within limit i.0) (room - 1) op.0.2) _ _ i.2 in
            let kept = (below i.0 i.1).unary (room - 1) op.0.2 u.0 u.1 in
            gives nest.height_unary nest.opens_unary room n _ _ y u.2 (omega (arith, kept.0, unary_high u.0.0)) (omega (arith, i.1, kept.1))
        | inr b ↦ elim (when_is (taken_word words.Sizeof ts) _ _ _ b.1) [
          | inl s ↦ size_keeps limit n room s.0.0 s.0.2 y s.2
          | inr c ↦
              let p = bind_ok (postfix_by (within limit n) room ts) _ _ c.1 in
              let kept = postfix_keeps limit n below room ts p.0 p.1 in
              gives nest.height_unary nest.opens_unary room n _ _ y p.2 kept.0 kept.1
        ]
      ]
    ]

pub cast_keeps : (limit n : ℕ) → FitsBelow limit n → (room : ℕ)
    → Keeps nest.height_cast nest.opens_cast room n (cast_by (within limit n) room)
unfolding cast_by
cast_keeps limit n below room ts y e =
    elim (when_is (cast_at ts) _ _ _ e) [
      | inl l ↦
          let i = inside_within limit n l.0.2 _ _ l.2 in
          let ty = bind_ok (type_name_by l.0.2) _ _ i.2 in
          let r = bind_ok (expected RightParenthesis ty.0.1) _ _ ty.2 in
          let c = bind_ok (cast_by (within limit i.0) (room - 1) r.0.1) _ _ r.2 in
          let kept = (below i.0 i.1).cast (room - 1) r.0.1 c.0 c.1 in
          gives nest.height_cast nest.opens_cast room n _ _ y c.2 (omega (arith, kept.0, cast_high c.0.0)) (omega (arith, i.1, kept.1))
      | inr a ↦
          let u = bind_ok (unary_by (within limit n) room ts) _ _ a.1 in
          let kept = unary_keeps limit n below room ts u.0 u.1 in
          gives nest.height_cast nest.opens_cast room n _ _ y u.2 kept.0 kept.1
    ]

-- ---- binary operators

joins_keep : (n : ℕ) (operand : ℕ → List Leaf → Read t.Binary) (level : ℕ)
    → ((room : ℕ) → Keeps nest.height_binary nest.opens_binary room n (operand room))
    → (room k : ℕ) (a : t.Binary) → nest.height_binary a ≤ room → nest.opens_binary a ≤ n
    → Keeps nest.height_binary nest.opens_binary room n (joins_by operand level room k a)
unfolding joins_by
joins_keep n operand level keeps room zero a low few ts y e = absurd (no_ok _ _ e)
joins_keep n operand level keeps room (suc k) a low few ts y e =
    elim (when_is (leaf_if (punct_if (at_level level)) ts) _ _ _ e) [
      | inl op ↦
          let b = bind_ok (operand (room_after room (nest.height_binary a)) op.0.2) _ _ op.2 in
          let kept = keeps (room_after room (nest.height_binary a)) op.0.2 b.0 b.1 in
          joins_keep n operand level keeps room k (t.join a op.0.0 op.0.1 b.0.0)
          (after_room room (nest.height_binary a) (nest.height_binary b.0.0) (binary_high b.0.0) kept.0)
          (omega (arith, few, kept.1)) b.0.1 y b.2
      | inr j ↦ gives nest.height_binary nest.opens_binary room n _ _ y j.1 low few
    ]

pub binary_keeps : (limit n : ℕ) → FitsBelow limit n → (level room : ℕ)
    → Keeps nest.height_binary nest.opens_binary room n (binary_by (within limit n) level room)
unfolding binary_by
binary_keeps limit n below zero room ts y e =
    let c = bind_ok (cast_by (within limit n) room ts) _ _ e in
    let kept = cast_keeps limit n below room ts c.0 c.1 in
    gives nest.height_binary nest.opens_binary room n _ _ y c.2 kept.0 kept.1
binary_keeps limit n below (suc level) room ts y e =
    let a = bind_ok (binary_by (within limit n) level room ts) _ _ e in
    let first = binary_keeps limit n below level room ts a.0 a.1 in
    joins_keep n (binary_by (within limit n) level) (suc level) (λ room ts y e. binary_keeps limit n below level room ts y e) room
    (chain (within limit n)) a.0.0 first.0 first.1 a.0.1 y a.2

-- ---- conditionals, assignments and commas

choice_keeps : (limit n : ℕ) → FitsBelow limit n → (room : ℕ) (b : t.Binary) (q : Spot) → nest.opens_binary b ≤ n
    → Keeps nest.height_conditional nest.opens_conditional room n (choice_by (within limit n) room b q)
unfolding choice_by
choice_keeps limit n below room b q few ts y e =
    let i = begun_within starts_lexeme limit n ts _ _ e in
    let x = bind_ok (expression_by (within limit i.0) limit ts) _ _ i.2 in
    let k = bind_ok (expected Colon x.0.1) _ _ x.2 in
    let first : ℕ = max (nest.height_binary b) (nest.height_expression x.0.0) in
    let c = bind_ok (conditional_by (within limit i.0) (room_after room first) k.0.1) _ _ k.2 in
    let one = (below i.0 i.1).expression limit ts x.0 x.1 in
    let two = (below i.0 i.1).conditional (room_after room first) k.0.1 c.0 c.1 in
    gives nest.height_conditional nest.opens_conditional room n _ _ y c.2
    (after_room room first (nest.height_conditional c.0.0) (conditional_high c.0.0) two.0) (omega (arith, i.1, few, one.1, two.1))

pub conditional_keeps : (limit n : ℕ) → FitsBelow limit n → (room : ℕ)
    → Keeps nest.height_conditional nest.opens_conditional room n (conditional_by (within limit n) room)
unfolding conditional_by
conditional_keeps limit n below room ts y e =
    let b = bind_ok (binary_by (within limit n) 10 room ts) _ _ e in
    let kept = binary_keeps limit n below 10 room ts b.0 b.1 in
    elim (when_is (taken Question b.0.1) _ _ _ b.2) [
      | inl q ↦ choice_keeps limit n below room b.0.0 q.0.0 kept.1 q.0.2 y q.2
      | inr j ↦ gives nest.height_conditional nest.opens_conditional room n _ _ y j.1 kept.0 kept.1
    ]

assigned_keeps : (limit n : ℕ) → FitsBelow limit n → (room : ℕ) (u : t.Unary) (s : Spot) (op : PunctKind) → nest.opens_unary u ≤ n
    → Keeps nest.height_assignment nest.opens_assignment room n (assigned_by (within limit n) room u s op)
unfolding assigned_by
assigned_keeps limit n below room u s op few ts y e =
    let i = begun_within starts_lexeme limit n ts _ _ e in
    let a = bind_ok (assignment_by (within limit i.0) (room_after room (nest.height_unary u)) ts) _ _ i.2 in
    let kept = (below i.0 i.1).assignment (room_after room (nest.height_unary u)) ts a.0 a.1 in
    gives nest.height_assignment nest.opens_assignment room n _ _ y a.2
    (after_room room (nest.height_unary u) (nest.height_assignment a.0.0) (assignment_high a.0.0) kept.0) (omega (arith, i.1, few, kept.1))

pub assignment_keeps : (limit n : ℕ) → FitsBelow limit n → (room : ℕ)
    → Keeps nest.height_assignment nest.opens_assignment room n (assignment_by (within limit n) room)
unfolding assignment_by
assignment_keeps limit n below room ts y e =
    let c = bind_ok (conditional_by (within limit n) room ts) _ _ e in
    let kept = conditional_keeps limit n below room ts c.0 c.1 in
    elim (when_is (leaf_if (punct_if is_assign) c.0.1) _ _ _ c.2) [
      | inl op ↦ elim (when_is (unary_of c.0.0) _ _ _ op.2) [
        | inl u ↦
            let few : nest.opens_unary u.0 ≤ n =
            subst (λ (d : t.Conditional). nest.opens_conditional d ≤ n) (unary_of_is c.0.0 u.0 u.1) kept.1 in
            assigned_keeps limit n below room u.0 op.0.0 op.0.1 few op.0.2 y u.2
        | inr j ↦ gives nest.height_assignment nest.opens_assignment room n _ _ y j.1 kept.0 kept.1
      ]
      | inr j ↦ gives nest.height_assignment nest.opens_assignment room n _ _ y j.1 kept.0 kept.1
    ]

commas_keep : (limit n : ℕ) → FitsBelow limit n → (room k : ℕ) (x : t.Expression) → nest.height_expression x ≤ room
    → nest.opens_expression x ≤ n → Keeps nest.height_expression nest.opens_expression room n (commas_by (within limit n) room k x)
unfolding commas_by
commas_keep limit n below room zero x low few ts y e = absurd (no_ok _ _ e)
commas_keep limit n below room (suc k) x low few ts y e =
    elim (when_is (taken Comma ts) _ _ _ e) [
      | inl c ↦
          let a = bind_ok (assignment_by (within limit n) (room_after room (nest.height_expression x)) c.0.2) _ _ c.2 in
          let kept = assignment_keeps limit n below (room_after room (nest.height_expression x)) c.0.2 a.0 a.1 in
          commas_keep limit n below room k (t.comma x c.0.0 a.0.0)
          (after_room room (nest.height_expression x) (nest.height_assignment a.0.0) (assignment_high a.0.0) kept.0)
          (omega (arith, few, kept.1)) a.0.1 y a.2
      | inr j ↦ gives nest.height_expression nest.opens_expression room n _ _ y j.1 low few
    ]

pub expression_keeps : (limit n : ℕ) → FitsBelow limit n → (room : ℕ)
    → Keeps nest.height_expression nest.opens_expression room n (expression_by (within limit n) room)
unfolding expression_by
expression_keeps limit n below room ts y e =
    let a = bind_ok (assignment_by (within limit n) room ts) _ _ e in
    let first = assignment_keeps limit n below room ts a.0 a.1 in
    commas_keep limit n below room (chain (within limit n)) (t.single a.0.0) first.0 first.1 a.0.1 y a.2
