-- Each expression is read again from its tokens, or told too deep in time.
use Rattle.std.proofs.Common.{◌≡◌, ℕ, suc, ◌-◌, ◌≤◌, List, ◌∷◌, length, true, Ok, refl, sym, arith, inl, inr, ◌⊎◌, subst}
use Rattle.std.specs.Prelude.{max}
use Rattle.ec_grammar.specs.declared.token.PunctKind.{PunctKind}
use Rattle.ec_grammar.specs.declared.token.PunctKind.TheVariants.{LeftParenthesis, RightParenthesis, LeftBracket, RightBracket, Comma}
use Rattle.ec_grammar.specs.declared.token.PunctKind.TheVariants.{Question, Colon, Increment, Decrement, Dot, Arrow}
use Rattle.ec_grammar.specs.declared.Spot.{Spot}
use Rattle.ec_grammar.specs.declared.Constant.{Constant}
use Rattle.ec_grammar.specs.declared.Constant.TheVariants as constants
use Rattle.ec_grammar.specs.declared.Operation.{Operation}
use Rattle.ec_grammar.specs.declared.Operation.TheVariants as operations
use Rattle.ec_grammar.specs.Trees as t
use Rattle.ec_grammar.specs.Trees.{Leaf}
use Rattle.ec_grammar.specs.Spelling.{mark, of_identifier, of_type_name, of_expression, of_assignment, of_conditional, of_cast, of_unary}
use Rattle.ec_grammar.specs.Spelling.{of_postfix, of_arguments, of_further, of_primary}
use Rattle.ec_grammar.specs.Grammar.{Every, is_assign, is_step, is_prefix, is_access, Is_expression, Is_assignment, Is_conditional}
use Rattle.ec_grammar.specs.Grammar.{Is_unary, Is_postfix, Are_arguments, Are_further, Is_primary}
use Rattle.ec_grammar.specs.Nesting as nest
use Rattle.ec_parse_laws.specs.Reading.{◌>>=◌, when, leaf_if, punct_if, expected, starts_lexeme, many, room_after, further_of, pair}
use Rattle.ec_parse_laws.specs.Reading.{argument_at, further_by, arguments_by, operation_by, primary_by, index_by, call_by, member_by}
use Rattle.ec_parse_laws.specs.Reading.{suffix_by, suffixes_by, postfix_by, size_by, unary_by, cast_by, choice_by, conditional_by, unary_of}
use Rattle.ec_parse_laws.specs.Reading.{assigned_by, assignment_by, commas_by, expression_by, within}
use Rattle.ec_parse_laws.specs.Passing.{Opened, High, PassesList, PassesExpression, PassesAssignment, PassesConditional, PassesCast}
use Rattle.ec_parse_laws.specs.Passing.{PassesUnary, PassesPostfix, PassesArguments, PassesFurther, PassesPrimary}
use Rattle.ec_parse_laws.proofs.Basics.{inner_at, after_fits, after_le}
use Rattle.ec_parse_laws.proofs.Follow.{Closed, closed_down, no_punct, no_assign, assign_closed, taken_self, taken_if_self}
use Rattle.ec_parse_laws.proofs.Follow.{assignment_starts, expression_starts, not_taken, postfix_no_operator, postfix_no_size}
use Rattle.ec_parse_laws.proofs.Follow.{unary_no_cast}
use Rattle.ec_parse_laws.proofs.Past.{expression_past, conditional_past, cast_past, unary_past, arguments_past, further_past}
use Rattle.ec_parse_laws.proofs.Past.{type_name_past, past_length, assignment_long}
use Rattle.ec_parse_laws.proofs.Lists.{type_name_read, after_type_close}
use Rattle.ec_parse_laws.proofs.Expressions.{of_pair, pairs_of, of_pairs, further_pairs, pair_long, no_argument, further_closed, not_prefix}
use Rattle.ec_parse_laws.proofs.Expressions.{cast_opens, rank_top, no_suffix}
use Rattle.ec_parse_laws.proofs.Fitting.{after_room, assignment_high}
use Rattle.ec_parse_laws.proofs.Fits.{fits_primary, fits_suffix, fits_assignment}
use Rattle.ec_parse_laws.proofs.Told.{Told, FitsIn, ToldAt, ToldItems, told_part, Chain, Never, Either, told_ok, told_map, told_wide}
use Rattle.ec_parse_laws.proofs.Told.{told_bind, told_then, told_skip, told_ends, told_ended, told_leaf, told_inside, told_begun, told_many}
use Rattle.ec_parse_laws.proofs.Told.{told_comma, chain_begin, chain_step, chain_map, chain_end}
use Rattle.ec_parse_laws.proofs.ToldSteps.{TellsCast, TellsBinary, binary_operand, binary_join, primary_topped, unary_topped, cast_topped}
use Rattle.ec_parse_laws.proofs.ToldSteps.{conditional_topped, assignment_topped}

abbrev pub FitsExpression : ℕ → ℕ → t.Expression → Type 0
FitsExpression room n e = FitsIn room n (nest.height_expression e) (nest.opens_expression e)

abbrev pub TellsExpression : t.Expression → Type 0
TellsExpression e = (limit n room : ℕ) (rest : List Leaf) → room ≤ limit → Is_expression e → Closed 14 rest
    → Told (length (of_expression e rest)) (FitsExpression room n e) (λ q. PassesExpression limit n e rest q)
    (expression_by (within limit n) room (of_expression e rest)) e rest

-- an expression that a comma may follow
abbrev ChainedExpression : t.Expression → Type 0
ChainedExpression e = (limit n room : ℕ) (rest : List Leaf) → room ≤ limit → Is_expression e → Closed 13 rest
    → Chain (length (of_expression e rest)) (λ q. PassesExpression limit n e rest q) (FitsExpression room n e) limit (nest.height_expression
    e) (expression_by (within limit n) room (of_expression e rest)) (λ k. commas_by (within limit n) room k e rest) rest

abbrev pub TellsAssignment : t.Assignment → Type 0
TellsAssignment a = (limit n room : ℕ) (rest : List Leaf) → room ≤ limit → Is_assignment a → Closed 13 rest
    → Told (length (of_assignment a rest)) (FitsIn room n (nest.height_assignment a) (nest.opens_assignment a))
    (λ q. PassesAssignment limit n a rest q) (assignment_by (within limit n) room (of_assignment a rest)) a rest

abbrev pub TellsConditional : t.Conditional → Type 0
TellsConditional c = (limit n room : ℕ) (rest : List Leaf) → room ≤ limit → Is_conditional c → Closed 12 rest
    → Told (length (of_conditional c rest)) (FitsIn room n (nest.height_conditional c) (nest.opens_conditional c))
    (λ q. PassesConditional limit n c rest q) (conditional_by (within limit n) room (of_conditional c rest)) c rest

abbrev TellsUnary : t.Unary → Type 0
TellsUnary u = (limit n room : ℕ) (rest : List Leaf) → room ≤ limit → Is_unary u → Closed 1 rest
    → Told (length (of_unary u rest)) (FitsIn room n (nest.height_unary u) (nest.opens_unary u)) (λ q. PassesUnary limit n u rest q)
    (unary_by (within limit n) room (of_unary u rest)) u rest

abbrev FitsPostfix : ℕ → ℕ → t.Postfix → Type 0
FitsPostfix room n p = FitsIn room n (nest.height_postfix p) (nest.opens_postfix p)

abbrev ChainedPostfix : ℕ → ℕ → ℕ → t.Postfix → List Leaf → Type 0
ChainedPostfix limit n room p rest = Chain (length (of_postfix p rest)) (λ q. PassesPostfix limit n p rest q) (FitsPostfix room n p) limit
    (nest.height_postfix p) (postfix_by (within limit n) room (of_postfix p rest)) (λ k. suffixes_by (within limit n) room k p rest) rest

abbrev TellsPostfix : t.Postfix → Type 0
TellsPostfix p = (limit n room : ℕ) (rest : List Leaf) → room ≤ limit → Is_postfix p → ChainedPostfix limit n room p rest

abbrev TellsArguments : t.Arguments → Type 0
TellsArguments a = (limit m : ℕ) (r : Spot) (rest : List Leaf) → Are_arguments a
    → Told (length (of_arguments a (mark r RightParenthesis ∷ rest))) (FitsIn limit m (nest.height_arguments a) (nest.opens_arguments a))
    (λ q. PassesArguments limit m a (mark r RightParenthesis ∷ rest) q)
    (arguments_by (inner_at limit m) (of_arguments a (mark r RightParenthesis ∷ rest))) a (mark r RightParenthesis ∷ rest)

abbrev PassesPair : ℕ → ℕ → Spot × t.Assignment → List Leaf → ℕ → Type 0
PassesPair limit m x rest q = PassesAssignment limit m x.1 rest q

abbrev FitsPair : ℕ → ℕ → Spot × t.Assignment → Type 0
FitsPair limit m x = FitsIn limit m (nest.height_assignment x.1) (nest.opens_assignment x.1)

abbrev FitsFurther : ℕ → ℕ → t.Further → Type 0
FitsFurther limit m more = FitsIn limit m (nest.height_further more) (nest.opens_further more)

abbrev TellsFurther : t.Further → Type 0
TellsFurther more = (limit m : ℕ) (r : Spot) (rest : List Leaf) → Are_further more → ToldItems (argument_at (inner_at limit m)) of_pair
    (PassesPair limit m) (FitsPair limit m) (pairs_of more) (mark r RightParenthesis ∷ rest)

abbrev TellsPrimary : t.Primary → Type 0
TellsPrimary p = (limit n room : ℕ) (rest : List Leaf) → room ≤ limit → Is_primary p
    → Told (length (of_primary p rest)) (FitsIn room n (nest.height_primary p) (nest.opens_primary p)) (λ q. PassesPrimary limit n p rest q)
    (primary_by (within limit n) room (of_primary p rest)) p rest

-- ---- arguments

further_passes : (limit m : ℕ) (more : t.Further) (rest : List Leaf) (q : ℕ) → PassesFurther limit m more rest q
    → PassesList of_pair (PassesPair limit m) (pairs_of more) rest q
further_passes limit m t.no_further rest q h = h
further_passes limit m (t.further s a more) rest q (inl h) = inl (subst (λ z. PassesAssignment limit m a z q) (sym (of_pairs more rest)) h)
further_passes limit m (t.further s a more) rest q (inr h) = inr (further_passes limit m more rest q h)

further_fits : (limit m : ℕ) (more : t.Further) → FitsFurther limit m more → Every (FitsPair limit m) (pairs_of more)
further_fits limit m t.no_further f = tt
further_fits limit m (t.further s a more) f = (
  (omega (arith, f.0), omega (arith, f.1)),
  further_fits limit m more (omega (arith, f.0), omega (arith, f.1)),
)

further_told : (more : t.Further) → TellsFurther more → (limit m : ℕ) (r : Spot) (rest : List Leaf) → Are_further more
    → Told (length (of_further more (mark r RightParenthesis ∷ rest))) (FitsFurther limit m more)
    (λ q. PassesFurther limit m more (mark r RightParenthesis ∷ rest) q)
    (further_by (inner_at limit m) (of_further more (mark r RightParenthesis ∷ rest))) more (mark r RightParenthesis ∷ rest)
unfolding further_by
further_told more tells limit m r rest is =
    let after : List Leaf = mark r RightParenthesis ∷ rest in
    let all = told_many (argument_at (inner_at limit m)) of_pair (PassesPair limit m) (FitsPair limit m) pair_long (pairs_of more) after
    (further_fits limit m more) (tells limit m r rest is) (no_argument limit m r rest) in
    let here : Told (length (of_further more after)) (FitsFurther limit m more)
    (λ q. PassesList of_pair (PassesPair limit m) (pairs_of more) after q)
    (many (argument_at (inner_at limit m)) (of_further more after)) (pairs_of more) after =
    subst (λ ts. Told (length ts) (FitsFurther limit m more) (λ q. PassesList of_pair (PassesPair limit m) (pairs_of more) after q)
    (many (argument_at (inner_at limit m)) ts) (pairs_of more) after) (of_pairs more after) all in
    told_map _ (λ q. PassesFurther limit m more after q) (λ q. PassesList of_pair (PassesPair limit m) (pairs_of more) after q) _ more after
    (further_passes limit m more after)
    (told_then (many (argument_at (inner_at limit m)) (of_further more after)) (λ x. Ok (further_of x.0, x.1))
    (pairs_of more) after more after here (rw (further_pairs more) refl) (omega arith))

further_none : TellsFurther t.no_further
further_none limit m r rest is = tt

further_more : (s : Spot) (a : t.Assignment) (more : t.Further) → TellsAssignment a → TellsFurther more → TellsFurther (t.further s a more)
further_more s a more tells others limit m r rest is =
    let after : List Leaf = of_further more (mark r RightParenthesis ∷ rest) in (
      subst (λ z. ToldAt (length (of_pair (s, a) z)) (FitsPair limit m (s, a)) (λ q. PassesAssignment limit m a z q)
          (argument_at (inner_at limit m) (of_pair (s, a) z)) (s, a) z) (sym (of_pairs more (mark r RightParenthesis ∷ rest)))
          (told_comma pair (assignment_by (within limit m) limit) s (of_assignment a after) a after
          (tells limit m limit after (omega arith) is.0 (further_closed more r rest))),
      others limit m r rest is.1,
    )

arguments_none : TellsArguments t.no_arguments
unfolding arguments_by leaf_if
arguments_none limit m r rest is = told_ok _ _ t.no_arguments (mark r RightParenthesis ∷ rest) refl (omega arith)

arguments_some : (a : t.Assignment) (more : t.Further) → TellsAssignment a → TellsFurther more → TellsArguments (t.arguments a more)
unfolding arguments_by
arguments_some a more tells others limit m r rest is =
    let after : List Leaf = of_further more (mark r RightParenthesis ∷ rest) in
    rw (not_taken RightParenthesis (of_assignment a after) refl (assignment_starts a after is.0))
    (told_bind _ _ a after (t.arguments a more) (mark r RightParenthesis ∷ rest)
    (told_part (λ f. (omega (arith, f.0), omega (arith, f.1))) (tells limit m limit after (omega arith) is.0 (further_closed more r rest)))
    (told_then _ _ more (mark r RightParenthesis ∷ rest) (t.arguments a more) (mark r RightParenthesis ∷ rest)
    (told_part (λ f. (omega (arith, f.0), omega (arith, f.1))) (further_told more others limit m r rest is.1)) refl (omega arith))
    (omega arith))

-- ---- primary expressions

primary_name : (n : t.Identifier) → TellsPrimary (t.name n)
unfolding primary_by leaf_if
primary_name (t.identifier s x) limit n room rest le is =
    told_leaf _ limit room 1 (t.name (t.identifier s x)) rest (λ f. f.0) le (omega arith)

primary_constant : (s : Spot) (k : Constant) → TellsPrimary (t.constant s k)
unfolding primary_by leaf_if
primary_constant s (constants.Whole value signed bytes) limit n room rest le is =
    told_leaf _ limit room 1 (t.constant s (constants.Whole value signed bytes)) rest (λ f. f.0) le (omega arith)
primary_constant s (constants.Fixed kind k) limit n room rest le is =
    told_leaf _ limit room 1 (t.constant s (constants.Fixed kind k)) rest (λ f. f.0) le (omega arith)

primary_parenthesised : (l : Spot) (e : t.Expression) (r : Spot) → TellsExpression e → TellsPrimary (t.parenthesised l e r)
unfolding primary_by leaf_if
primary_parenthesised l e r tells limit n room rest le is =
    let end : List Leaf = mark r RightParenthesis ∷ rest in
    primary_topped limit n room _ (of_primary (t.parenthesised l e r) rest) (t.parenthesised l e r) rest le
    (told_inside (λ m q. PassesExpression limit m e end q) limit n (of_expression e end) _ (t.parenthesised l e r) rest
    (λ f. omega (arith, f.1))
    (λ m deep. told_ended room _ _ _ e end (t.parenthesised l e r) rest (λ f. f.0) (told_part
    (λ f. (omega (arith, f.0, le), omega (arith, f.1, deep))) (tells limit m limit end (omega arith) is (omega arith))) refl (omega arith))
    (omega arith) (omega (arith, past_length _ _ (expression_past e end))))

operation_told : (s : Spot) (op : Operation) (l : Spot) (x : t.Identifier) (more : t.Further) (r : Spot) → TellsFurther more
    → (limit n room : ℕ) (rest : List Leaf) → room ≤ limit → Are_further more
    → Told (suc (suc (suc (length (of_further more (mark r RightParenthesis ∷ rest))))))
    (FitsIn room n (suc (nest.height_further more)) (suc (nest.opens_further more)))
    (λ q. Opened n (suc (suc (length (of_further more (mark r RightParenthesis ∷ rest))))) q
    (λ m. PassesFurther limit m more (mark r RightParenthesis ∷ rest) q))
    (operation_by (within limit n) room s op (mark l LeftParenthesis ∷ of_identifier x (of_further more (mark r RightParenthesis ∷ rest))))
    (t.operation s op l x more r) rest
unfolding operation_by leaf_if
operation_told s op l (t.identifier k x) more r tells limit n room rest le is =
    let end : List Leaf = mark r RightParenthesis ∷ rest in
    told_inside (λ m q. PassesFurther limit m more end q) limit n (of_identifier (t.identifier k x) (of_further more end)) _
    (t.operation s op l (t.identifier k x) more r) rest (λ f. omega (arith, f.1))
    (λ m deep. told_wide (length (of_further more end)) _ _ _ _ rest (omega arith)
    (told_ended room _ _ _ more end (t.operation s op l (t.identifier k x) more r) rest (λ f. f.0)
    (told_part (λ f. (omega (arith, f.0, le), omega (arith, f.1, deep))) (further_told more tells limit m r rest is)) refl (omega arith)))
    (omega arith) (omega (arith, past_length _ _ (further_past more end)))

primary_operation : (s : Spot) (op : Operation) (l : Spot) (x : t.Identifier) (more : t.Further) (r : Spot) → TellsFurther more
    → TellsPrimary (t.operation s op l x more r)
unfolding primary_by leaf_if
primary_operation s (operations.Port op) l (t.identifier k x) more r tells limit n room rest le is =
    let p : t.Primary = t.operation s (operations.Port op) l (t.identifier k x) more r in
    primary_topped limit n room _ (of_primary p rest) p rest le (told_wide _ _ _ _ p rest (omega arith)
    (operation_told s (operations.Port op) l (t.identifier k x) more r tells limit n room rest le is))
primary_operation s (operations.Group op) l (t.identifier k x) more r tells limit n room rest le is =
    let p : t.Primary = t.operation s (operations.Group op) l (t.identifier k x) more r in
    primary_topped limit n room _ (of_primary p rest) p rest le (told_wide _ _ _ _ p rest (omega arith)
    (operation_told s (operations.Group op) l (t.identifier k x) more r tells limit n room rest le is))

-- ---- postfix expressions

postfix_primary : (p : t.Primary) → TellsPrimary p → TellsPostfix (t.primary p)
unfolding postfix_by
postfix_primary p tells limit n room rest le is =
    chain_begin (FitsPostfix room n (t.primary p)) limit (nest.height_postfix (t.primary p))
    (primary_by (within limit n) room (of_primary p rest)) _ (λ k. suffixes_by (within limit n) room k (t.primary p) rest) p rest
    (tells limit n room rest le is)
    (λ e. fits_primary limit n room le (of_primary p rest) (p, rest) e) (λ f. omega (arith, f.0, le)) refl

-- a suffix that is there goes on
suffixed : {Q : ℕ → Type 0} (p q : t.Postfix) → TellsPostfix p → (limit n room : ℕ) (ts rest : List Leaf)
    → room ≤ limit → Is_postfix p → of_postfix p ts ≡ of_postfix q rest
    → suc (nest.height_postfix p) ≤ nest.height_postfix q → nest.opens_postfix p ≤ nest.opens_postfix q
    → ToldAt (length ts) (FitsPostfix room n q) Q (suffix_by (within limit n) room p ts) q rest
    → Chain (length (of_postfix q rest)) (Either (λ s. PassesPostfix limit n p ts s) (Either Q (High limit (nest.height_postfix q) rest)))
    (FitsPostfix room n q) limit (nest.height_postfix q) (postfix_by (within limit n) room (of_postfix q rest))
    (λ k. suffixes_by (within limit n) room k q rest) rest
unfolding suffixes_by
suffixed {Q = Q} p q tells limit n room ts rest le is same more opens h =
    subst (λ z. Chain (length z) (Either (λ s. PassesPostfix limit n p ts s) (Either Q (High limit (nest.height_postfix q) rest)))
    (FitsPostfix room n q) limit (nest.height_postfix q) (postfix_by (within limit n) room z)
    (λ k. suffixes_by (within limit n) room k q rest) rest) same
    (chain_step (FitsPostfix room n q) limit (nest.height_postfix p) (nest.height_postfix q) _
    (λ k. suffixes_by (within limit n) room k p ts) (λ k. suffixes_by (within limit n) room k q rest) ts h.0
    (λ k z. suffixes_by (within limit n) room k z.0 z.1) q rest
    (tells limit n room ts le is) h.2 (omega arith) (λ k. rw h.1 refl) (λ k. refl)
    (λ f e. fits_suffix limit n room le p f.1 ts h.0 (q, rest) h.1 e) (λ f. omega (arith, f.0, le)) more
    (λ f. (omega (arith, f.0, more), omega (arith, f.1, opens))) (λ f. f))

postfix_index : (p : t.Postfix) (l : Spot) (e : t.Expression) (r : Spot) → TellsPostfix p → TellsExpression e
    → TellsPostfix (t.index p l e r)
unfolding suffix_by index_by leaf_if
postfix_index p l e r tells inner limit n room rest le is =
    let end : List Leaf = mark r RightBracket ∷ rest in
    suffixed p (t.index p l e r) tells limit n room (mark l LeftBracket ∷ of_expression e end) rest le is.0 refl
    (omega arith) (omega arith) (
      _,
      refl,
      told_inside (λ m q. PassesExpression limit m e end q) limit n (of_expression e end) _ (t.index p l e r) rest (λ f. omega (arith, f.1))
          (λ m deep. told_ended room _ _ _ e end (t.index p l e r) rest (λ f. f.0) (told_part (λ f. (
            omega (arith, f.0, le),
            omega (arith, f.1, deep),
          )) (inner limit m limit end (omega arith) is.1 (omega arith))) refl (omega arith)) (omega arith)
          (omega (arith, past_length _ _ (expression_past e end))),
    )

postfix_call : (p : t.Postfix) (l : Spot) (a : t.Arguments) (r : Spot) → TellsPostfix p → TellsArguments a → TellsPostfix (t.call p l a r)
unfolding suffix_by call_by leaf_if
postfix_call p l a r tells inner limit n room rest le is =
    let end : List Leaf = mark r RightParenthesis ∷ rest in
    suffixed p (t.call p l a r) tells limit n room (mark l LeftParenthesis ∷ of_arguments a end) rest le is.0 refl
    (omega arith) (omega arith) (
      _,
      refl,
      told_inside (λ m q. PassesArguments limit m a end q) limit n (of_arguments a end) _ (t.call p l a r) rest (λ f. omega (arith, f.1))
          (λ m deep. told_ended room _ _ _ a end (t.call p l a r) rest (λ f. f.0)
          (told_part (λ f. (omega (arith, f.0, le), omega (arith, f.1, deep))) (inner limit m r rest is.1)) refl (omega arith))
          (omega arith) (omega (arith, past_length _ _ (arguments_past a end))),
    )

-- a suffix with nothing in it that passes
alone : (P R : ℕ → Type 0) (q : ℕ) → Either P R q → Either P (Either Never R) q
alone P R q (inl h) = inl h
alone P R q (inr h) = inr (inr h)

access_told : (limit n room : ℕ) (p : t.Postfix) (s : Spot) (op : PunctKind) (x : t.Identifier) (rest : List Leaf)
    → is_access op ≡ true → ToldAt (length (mark s op ∷ of_identifier x rest)) (FitsPostfix room n (t.member p s op x)) Never
    (suffix_by (within limit n) room p (mark s op ∷ of_identifier x rest)) (t.member p s op x) rest
unfolding suffix_by member_by leaf_if
access_told limit n room p s Dot (t.identifier k x) rest e = (
  _,
  refl,
  told_ends _ room _ (t.member p s Dot (t.identifier k x)) rest (λ f. f.0) (omega arith),
)
access_told limit n room p s Arrow (t.identifier k x) rest e = (
  _,
  refl,
  told_ends _ room _ (t.member p s Arrow (t.identifier k x)) rest (λ f. f.0) (omega arith),
)
access_told limit n room p s _ x rest e = absurd cc

step_told : (limit n room : ℕ) (p : t.Postfix) (s : Spot) (op : PunctKind) (rest : List Leaf)
    → is_step op ≡ true → ToldAt (length (mark s op ∷ rest)) (FitsPostfix room n (t.stepped p s op)) Never
    (suffix_by (within limit n) room p (mark s op ∷ rest)) (t.stepped p s op) rest
unfolding suffix_by leaf_if
step_told limit n room p s Increment rest e = (_, refl, told_ends _ room _ (t.stepped p s Increment) rest (λ f. f.0) (omega arith))
step_told limit n room p s Decrement rest e = (_, refl, told_ends _ room _ (t.stepped p s Decrement) rest (λ f. f.0) (omega arith))
step_told limit n room p s _ rest e = absurd cc

postfix_member : (p : t.Postfix) (s : Spot) (op : PunctKind) (x : t.Identifier) → TellsPostfix p → TellsPostfix (t.member p s op x)
postfix_member p s op (t.identifier k x) tells limit n room rest le is =
    let ts : List Leaf = mark s op ∷ of_identifier (t.identifier k x) rest in
    chain_map _ (Either (λ q. PassesPostfix limit n p ts q) (High limit (suc (nest.height_postfix p)) rest)) _ _ _ _ _ _ rest
    (alone (λ q. PassesPostfix limit n p ts q) (High limit (suc (nest.height_postfix p)) rest))
    (suffixed p (t.member p s op (t.identifier k x)) tells limit n room ts rest le is.0 refl (omega arith) (omega arith)
    (access_told limit n room p s op (t.identifier k x) rest is.1))

postfix_stepped : (p : t.Postfix) (s : Spot) (op : PunctKind) → TellsPostfix p → TellsPostfix (t.stepped p s op)
postfix_stepped p s op tells limit n room rest le is =
    chain_map _ (Either (λ q. PassesPostfix limit n p (mark s op ∷ rest) q) (High limit (suc (nest.height_postfix p)) rest)) _ _ _ _ _ _
    rest (alone (λ q. PassesPostfix limit n p (mark s op ∷ rest) q) (High limit (suc (nest.height_postfix p)) rest))
    (suffixed p (t.stepped p s op) tells limit n room (mark s op ∷ rest) rest le is.0 refl (omega arith) (omega arith)
    (step_told limit n room p s op rest is.1))

postfix_whole : (limit n room : ℕ) (p : t.Postfix) (rest : List Leaf) → ChainedPostfix limit n room p rest
    → Closed 1 rest → Told (length (of_postfix p rest)) (FitsPostfix room n p) (λ q. PassesPostfix limit n p rest q)
    (postfix_by (within limit n) room (of_postfix p rest)) p rest
unfolding suffixes_by
postfix_whole limit n room p rest h c = chain_end limit (nest.height_postfix p) _ (λ k. suffixes_by (within limit n) room k p rest) p rest h
    (λ k. rw (no_suffix limit n room p rest c) refl)

-- ---- unary and cast expressions

unary_postfix : (p : t.Postfix) → TellsPostfix p → TellsUnary (t.postfix p)
unfolding unary_by
unary_postfix p tells limit n room rest le is c =
    rw (postfix_no_operator is_prefix p rest refl, postfix_no_operator is_step p rest refl, postfix_no_size p rest)
    (told_then _ _ p rest (t.postfix p) rest (postfix_whole limit n room p rest (tells limit n room rest le is) c) refl (omega arith))

unary_step : (s : Spot) (op : PunctKind) (u : t.Unary) → TellsUnary u → TellsUnary (t.step s op u)
unfolding unary_by
unary_step s op u tells limit n room rest le is c =
    unary_topped limit n room _ (of_unary (t.step s op u) rest) (t.step s op u) rest le
    (rw (not_prefix op s (of_unary u rest) is.0, taken_if_self is_step op s (of_unary u rest) is.0)
    (told_inside (λ m q. PassesUnary limit m u rest q) limit n (of_unary u rest) _ (t.step s op u) rest (λ f. omega (arith, f.1))
    (λ m deep. told_then _ _ u rest (t.step s op u) rest (told_part (λ f. (omega (arith, f.0), omega (arith, f.1, deep)))
    (tells limit m (room - 1) rest (omega (arith, le)) is.1 c)) refl (omega arith)) (omega arith) (past_length _ _ (unary_past u rest))))

unary_prefix : (s : Spot) (op : PunctKind) (o : t.Cast) → TellsCast o → TellsUnary (t.prefix s op o)
unfolding unary_by
unary_prefix s op o tells limit n room rest le is c =
    unary_topped limit n room _ (of_unary (t.prefix s op o) rest) (t.prefix s op o) rest le
    (rw (taken_if_self is_prefix op s (of_cast o rest) is.0)
    (told_inside (λ m q. PassesCast limit m o rest q) limit n (of_cast o rest) _ (t.prefix s op o) rest (λ f. omega (arith, f.1))
    (λ m deep. told_then _ _ o rest (t.prefix s op o) rest (told_part (λ f. (omega (arith, f.0), omega (arith, f.1, deep)))
    (tells limit m (room - 1) rest (omega (arith, le)) is.1 c)) refl (omega arith)) (omega arith) (past_length _ _ (cast_past o rest))))

unary_size : (s l : Spot) (ty : t.TypeName) (r : Spot) → TellsUnary (t.size s l ty r)
unfolding unary_by size_by leaf_if
unary_size s l ty r limit n room rest le is c =
    let end : List Leaf = mark r RightParenthesis ∷ rest in
    unary_topped limit n room _ (of_unary (t.size s l ty r) rest) (t.size s l ty r) rest le
    (told_inside (λ m q. ⊥) limit n (of_type_name ty end) _ (t.size s l ty r) rest (λ f. omega (arith, f.1))
    (λ m deep. told_skip _ _ ty end (t.size s l ty r) rest (type_name_read ty end is (after_type_close r rest)) (told_ends
    (length rest) room 1 (t.size s l ty r) rest (λ f. f.0) (omega arith)) (omega (arith, past_length _ _ (type_name_past ty end))))
    (omega arith) (omega (arith, past_length _ _ (type_name_past ty end))))

cast_unary : (u : t.Unary) → TellsUnary u → TellsCast (t.uncast u)
unfolding cast_by
cast_unary u tells limit n room rest le is c =
    rw (unary_no_cast u rest is) (told_then _ _ u rest (t.uncast u) rest (tells limit n room rest le is c) refl (omega arith))

closed_on : {F : Type 0} {Q : ℕ → Type 0} (limit m room : ℕ) (l : Spot) (ty : t.TypeName) (r : Spot) (o : t.Cast) (rest : List Leaf)
    → Told (length (of_cast o rest)) F Q (cast_by (within limit m) (room - 1) (of_cast o rest)) o rest
    → Told (length (of_cast o rest)) F Q (expected RightParenthesis (mark r RightParenthesis ∷ of_cast o rest)
    >>= λ z. cast_by (within limit m) (room - 1) z.1 >>= λ k. Ok (t.convert l ty z.0 k.0, k.1)) (t.convert l ty r o) rest
closed_on limit m room l ty r o rest h =
    rw (taken_self RightParenthesis r (of_cast o rest)) (told_then _ _ o rest (t.convert l ty r o) rest h refl (omega arith))

cast_convert : (l : Spot) (ty : t.TypeName) (r : Spot) (o : t.Cast) → TellsCast o → TellsCast (t.convert l ty r o)
unfolding cast_by
cast_convert l ty r o tells limit n room rest le is c =
    let after : List Leaf = mark r RightParenthesis ∷ of_cast o rest in
    cast_topped limit n room _ (of_cast (t.convert l ty r o) rest) (t.convert l ty r o) rest le
    (rw (cast_opens l ty after is.0)
    (told_inside (λ m q. PassesCast limit m o rest q) limit n (of_type_name ty after) _ (t.convert l ty r o) rest (λ f. omega (arith, f.1))
    (λ m deep. told_skip _ _ ty after (t.convert l ty r o) rest (type_name_read ty after is.0 (after_type_close r (of_cast o rest)))
    (closed_on limit m room l ty r o rest (told_part (λ f. (omega (arith, f.0), omega (arith, f.1, deep)))
    (tells limit m (room - 1) rest (omega (arith, le)) is.1 c))) (omega (arith, past_length _ _ (type_name_past ty after))))
    (omega arith) (omega (arith, past_length _ _ (type_name_past ty after), past_length _ _ (cast_past o rest)))))

-- ---- conditionals, assignments and commas

conditional_plain : (b : t.Binary) → TellsBinary b → TellsConditional (t.plain b)
unfolding conditional_by
conditional_plain b tells limit n room rest le is c =
    told_then _ _ b rest (t.plain b) rest (tells.full limit n 10 room rest le is (rank_top b) (closed_down 11 12 rest (omega arith) c))
    (rw (no_punct 12 Question rest (omega arith) c) refl) (omega arith)

choice_told : (b : t.Binary) (q : Spot) (e : t.Expression) (k : Spot) (o : t.Conditional) → TellsExpression e → TellsConditional o
    → (limit n room : ℕ) (rest : List Leaf) → room ≤ limit → Is_expression e → Is_conditional o → Closed 12 rest
    → Told (length (of_expression e (mark k Colon ∷ of_conditional o rest)))
    (FitsIn room n (nest.height_conditional (t.choose b q e k o)) (nest.opens_conditional (t.choose b q e k o)))
    (λ p. Opened n (length (of_expression e (mark k Colon ∷ of_conditional o rest))) p
    (λ m. PassesExpression limit m e (mark k Colon ∷ of_conditional o rest) p ⊎ PassesConditional limit m o rest p))
    (choice_by (within limit n) room b q (of_expression e (mark k Colon ∷ of_conditional o rest))) (t.choose b q e k o) rest
unfolding choice_by leaf_if
choice_told b q e k o tells_e tells_o limit n room rest le is_e is_o c =
    let after : List Leaf = mark k Colon ∷ of_conditional o rest in
    let first : ℕ = max (nest.height_binary b) (nest.height_expression e) in
    told_begun (λ m p. PassesExpression limit m e after p ⊎ PassesConditional limit m o rest p) starts_lexeme limit n
    (of_expression e after) _ (t.choose b q e k o) rest (expression_starts e after is_e) (λ f. omega (arith, f.1))
    (λ m deep. told_bind _ _ e after (t.choose b q e k o) rest
    (told_part (λ f. (omega (arith, f.0, le), omega (arith, f.1, deep))) (tells_e limit m limit after (omega arith) is_e (omega arith)))
    (told_then _ _ o rest (t.choose b q e k o) rest (told_part (λ f. (
      after_fits room first (nest.height_conditional o) f.0,
      omega (arith, f.1, deep),
    )) (tells_o limit m (room_after room first) rest (after_le room first limit le) is_o c)) refl (omega arith)) (omega arith))
    (omega arith) (omega (arith, past_length _ _ (expression_past e after), past_length _ _ (conditional_past o rest)))

conditional_choose : (b : t.Binary) (q : Spot) (e : t.Expression) (k : Spot) (o : t.Conditional) → TellsBinary b → TellsExpression e
    → TellsConditional o → TellsConditional (t.choose b q e k o)
unfolding conditional_by leaf_if
conditional_choose b q e k o tells_b tells_e tells_o limit n room rest le is c =
    let after : List Leaf = mark q Question ∷ of_expression e (mark k Colon ∷ of_conditional o rest) in
    conditional_topped limit n room _ (of_conditional (t.choose b q e k o) rest) (t.choose b q e k o) rest le
    (told_bind _ _ b after (t.choose b q e k o) rest
    (told_part (λ f. (omega (arith, f.0), omega (arith, f.1))) (tells_b.full limit n 10 room after le is.0 (rank_top b) (omega arith)))
    (choice_told b q e k o tells_e tells_o limit n room rest le is.1 is.2 c) (omega arith))

assignment_value : (o : t.Conditional) → TellsConditional o → TellsAssignment (t.value o)
unfolding assignment_by
assignment_value o tells limit n room rest le is c = told_then _ _ o rest (t.value o) rest
    (tells limit n room rest le is (closed_down 12 13 rest (omega arith) c)) (rw (no_assign rest c) refl) (omega arith)

assigned_told : (u : t.Unary) (s : Spot) (op : PunctKind) (a : t.Assignment) → TellsAssignment a → (limit n room : ℕ) (rest : List Leaf)
    → room ≤ limit → Is_assignment a → Closed 13 rest
    → Told (length (of_assignment a rest))
    (FitsIn room n (nest.height_assignment (t.assign u s op a)) (nest.opens_assignment (t.assign u s op a)))
    (λ q. Opened n (length (of_assignment a rest)) q (λ m. PassesAssignment limit m a rest q))
    (assigned_by (within limit n) room u s op (of_assignment a rest)) (t.assign u s op a) rest
unfolding assigned_by
assigned_told u s op a tells limit n room rest le is c =
    told_begun (λ m q. PassesAssignment limit m a rest q) starts_lexeme limit n (of_assignment a rest) _ (t.assign u s op a) rest
    (assignment_starts a rest is) (λ f. omega (arith, f.1))
    (λ m deep. told_then _ _ a rest (t.assign u s op a) rest (told_part (λ f. (
      after_fits room (nest.height_unary u) (nest.height_assignment a) f.0,
      omega (arith, f.1, deep),
    )) (tells limit m (room_after room (nest.height_unary u)) rest (after_le room (nest.height_unary u) limit le) is c)) refl (omega arith))
    (omega arith) (assignment_long a rest)

assignment_assign : (u : t.Unary) (s : Spot) (op : PunctKind) (a : t.Assignment) → TellsUnary u → TellsAssignment a
    → TellsAssignment (t.assign u s op a)
unfolding assignment_by
assignment_assign u s op a tells_u tells_a limit n room rest le is c =
    let after : List Leaf = mark s op ∷ of_assignment a rest in
    let only : TellsConditional (t.plain (t.operand (t.uncast u))) = conditional_plain _ (binary_operand _ (cast_unary u tells_u)) in
    let second : Told (length (of_assignment a rest))
    (FitsIn room n (nest.height_assignment (t.assign u s op a)) (nest.opens_assignment (t.assign u s op a)))
    (λ q. Opened n (length (of_assignment a rest)) q (λ m. PassesAssignment limit m a rest q)) (when (leaf_if (punct_if is_assign) after)
    (λ op. when (unary_of (t.plain (t.operand (t.uncast u)))) (λ u. assigned_by (within limit n) room u op.0 op.1 op.2)
    (Ok (t.value (t.plain (t.operand (t.uncast u))), after))) (Ok (t.value (t.plain (t.operand (t.uncast u))), after)))
    (t.assign u s op a) rest =
    rw (taken_if_self is_assign op s (of_assignment a rest) is.1) (assigned_told u s op a tells_a limit n room rest le is.2 c) in
    assignment_topped limit n room _ (of_assignment (t.assign u s op a) rest) (t.assign u s op a) rest le
    (told_bind _ _ (t.plain (t.operand (t.uncast u))) after (t.assign u s op a) rest
    (told_part (λ f. (omega (arith, f.0), omega (arith, f.1)))
    (only limit n room after le is.0 (assign_closed op 12 s (of_assignment a rest) is.1 (omega arith)))) second (omega arith))

expression_single : (a : t.Assignment) → TellsAssignment a → ChainedExpression (t.single a)
unfolding expression_by
expression_single a tells limit n room rest le is c =
    chain_begin (FitsExpression room n (t.single a)) limit (nest.height_expression (t.single a))
    (assignment_by (within limit n) room (of_assignment a rest)) _ (λ k. commas_by (within limit n) room k (t.single a) rest) a rest
    (tells limit n room rest le is c)
    (λ e. fits_assignment limit n room le (of_assignment a rest) (a, rest) e) (λ f. omega (arith, f.0, le)) refl

expression_comma : (e : t.Expression) (s : Spot) (a : t.Assignment) → ChainedExpression e → TellsAssignment a
    → ChainedExpression (t.comma e s a)
unfolding commas_by leaf_if
expression_comma e s a tells_e tells_a limit n room rest le is c =
    let behind : ℕ = room_after room (nest.height_expression e) in
    let fewer : behind ≤ limit = after_le room (nest.height_expression e) limit le in
    chain_step (FitsExpression room n (t.comma e s a)) limit (nest.height_expression e) (nest.height_expression (t.comma e s a)) _
    (λ k. commas_by (within limit n) room k e (mark s Comma ∷ of_assignment a rest))
    (λ k. commas_by (within limit n) room k (t.comma e s a) rest) (mark s Comma ∷ of_assignment a rest)
    (assignment_by (within limit n) behind (of_assignment a rest)) (λ k z. commas_by (within limit n) room k (t.comma e s z.0) z.1) a rest
    (tells_e limit n room (mark s Comma ∷ of_assignment a rest) le is.0 (omega arith)) (tells_a limit n behind rest fewer is.1 c)
    (omega arith) (λ k. refl) (λ k. refl)
    (λ f d. (
      after_room room (nest.height_expression e) (nest.height_assignment a) (assignment_high a)
          (fits_assignment limit n behind fewer (of_assignment a rest) (a, rest) d).0,
      omega (arith, f.1, (fits_assignment limit n behind fewer (of_assignment a rest) (a, rest) d).1),
    ))
    (λ f. omega (arith, f.0, le)) (omega arith) (λ f. (omega (arith, f.0), omega (arith, f.1)))
    (λ f. (after_fits room (nest.height_expression e) (nest.height_assignment a) f.0, omega (arith, f.1)))

expression_whole : (e : t.Expression) → ChainedExpression e → TellsExpression e
unfolding commas_by
expression_whole e tells limit n room rest le is c =
    chain_end limit (nest.height_expression e) _ (λ k. commas_by (within limit n) room k e rest) e rest
    (tells limit n room rest le is (closed_down 13 14 rest (omega arith) c)) (λ k. rw (no_punct 14 Comma rest (omega arith) c) refl)

-- ---- all of them

mutual
  chained_expression : (e : t.Expression) → ChainedExpression e
  chained_expression (t.single a) = expression_single a (tells_assignment a)
  chained_expression (t.comma e s a) = expression_comma e s a (chained_expression e) (tells_assignment a)

  pub tells_assignment : (a : t.Assignment) → TellsAssignment a
  tells_assignment (t.value c) = assignment_value c (tells_conditional c)
  tells_assignment (t.assign u s op a) = assignment_assign u s op a (tells_unary u) (tells_assignment a)

  pub tells_conditional : (c : t.Conditional) → TellsConditional c
  tells_conditional (t.plain b) = conditional_plain b (tells_binary b)
  tells_conditional (t.choose b q e k c) =
      conditional_choose b q e k c (tells_binary b) (expression_whole e (chained_expression e)) (tells_conditional c)

  tells_binary : (b : t.Binary) → TellsBinary b
  tells_binary (t.operand c) = binary_operand c (tells_cast c)
  tells_binary (t.join a s op b) = binary_join a s op b (tells_binary a) (tells_binary b)

  tells_cast : (c : t.Cast) → TellsCast c
  tells_cast (t.uncast u) = cast_unary u (tells_unary u)
  tells_cast (t.convert l ty r c) = cast_convert l ty r c (tells_cast c)

  tells_unary : (u : t.Unary) → TellsUnary u
  tells_unary (t.postfix p) = unary_postfix p (tells_postfix p)
  tells_unary (t.step s op u) = unary_step s op u (tells_unary u)
  tells_unary (t.prefix s op c) = unary_prefix s op c (tells_cast c)
  tells_unary (t.size s l ty r) = unary_size s l ty r

  tells_postfix : (p : t.Postfix) → TellsPostfix p
  tells_postfix (t.primary p) = postfix_primary p (tells_primary p)
  tells_postfix (t.index p l e r) = postfix_index p l e r (tells_postfix p) (expression_whole e (chained_expression e))
  tells_postfix (t.call p l a r) = postfix_call p l a r (tells_postfix p) (tells_arguments a)
  tells_postfix (t.member p s op x) = postfix_member p s op x (tells_postfix p)
  tells_postfix (t.stepped p s op) = postfix_stepped p s op (tells_postfix p)

  tells_arguments : (a : t.Arguments) → TellsArguments a
  tells_arguments t.no_arguments = arguments_none
  tells_arguments (t.arguments a more) = arguments_some a more (tells_assignment a) (tells_further more)

  tells_further : (more : t.Further) → TellsFurther more
  tells_further t.no_further = further_none
  tells_further (t.further s a more) = further_more s a more (tells_assignment a) (tells_further more)

  tells_primary : (p : t.Primary) → TellsPrimary p
  tells_primary (t.name n) = primary_name n
  tells_primary (t.constant s k) = primary_constant s k
  tells_primary (t.parenthesised l e r) = primary_parenthesised l e r (expression_whole e (chained_expression e))
  tells_primary (t.operation s op l x more r) = primary_operation s op l x more r (tells_further more)

pub tells_expression : (e : t.Expression) → TellsExpression e
tells_expression e = expression_whole e (chained_expression e)
