-- Each node of a body has the mode that the tokens before its statement say.
use Rattle.std.proofs.Common.{◌≡◌, ℕ, List, [], ◌∷◌, refl, subst, inl, inr}
use Rattle.std.specs.Prelude.{Option, Some, None, IfSome, option_map, slice_get}
use Rattle.ec_grammar.specs.declared.Spot.{Spot}
use Rattle.ec_grammar.specs.declared.token.PunctKind.TheVariants.{Semicolon}
use Rattle.ec_grammar.specs.declared.token.WordKind.TheVariants as words
use Rattle.ec_grammar.specs.Grammar as g
use Rattle.ec_grammar.specs.Spelling as of
use Rattle.ec_grammar.specs.Tokens.{Placed}
use Rattle.ec_grammar.specs.Trees as t
use Rattle.ec_grammar.specs.Trees.{Leaf}
use Rattle.ec_core.specs.Plain.{PlainType, PlainExpr, PlainExprs, PlainStmt, statement, PlainKind, evaluate, declare, block, branch}
use Rattle.ec_core.specs.Plain.{while_loop, do_loop, for_loop, break_loop, continue_loop, return_value, no_stmt, a_stmt, PlainStmts}
use Rattle.ec_core.specs.Plain.{last_stmt}
use Rattle.ec_check_names.specs.declared.specifiers.Specified.{Specified}
use Rattle.ec_check_names.specs.Firsts.{first_specs, first_expression, first_statement}
use Rattle.ec_check_names.specs.Names.{Names}
use Rattle.ec_check_names.specs.Specifiers.{specified}
use Rattle.ec_check_forms.specs.Nodes.{used}
use Rattle.ec_check_operands.specs.declared.operands.Modes.{Modes}
use Rattle.ec_check_operands.specs.Operands.{with_both}
use Rattle.ec_check_operands.specs.Passing.{passed}
use Rattle.ec_check_expressions.specs.Expressions.{of_expression}
use Rattle.ec_check_initialisers.specs.Locals.{leaf_values}
use Rattle.ec_check_declarations.specs.Scopes.{Context, Scope, known_in}
use Rattle.ec_check_meanings.specs.NodeModes.{AllNodesHave, RowHas}
use Rattle.ec_check_statements.specs.Around.{Around, looping, within, under}
use Rattle.ec_check_statements.specs.Results.{returned_type, has_no_result}
use Rattle.ec_check_statements.specs.Kinds.{one_branch, branches, while_of, do_of, left}
use Rattle.ec_check_statements.specs.Headings.{ForHeading, optional_stmt, declared_first, first_part, after_first, heading_of, for_heading}
use Rattle.ec_check_statements.specs.Headings.{after_heading}
use Rattle.ec_check_statements.specs.Locals.{first_declarator, initial_values, local_made, started, local_statement, with_local}
use Rattle.ec_check_statements.specs.Locals.{locals_before, declaration_before}
use Rattle.ec_check_statements.specs.Parts.{tested, optional_test, evaluated, optional_evaluation, returned}
use Rattle.ec_check_statements.specs.Statements.{evaluation, stated, for_of, after, after_item, kind_of, item_before, items_of, body_of}
use Rattle.ec_check_statements.specs.Walks.{followed}
use Rattle.ec_check_statements.proofs.Choices.{if_both}
use Rattle.ec_check_tokens.specs.FirstTokens.{BeginsAt}
use Rattle.ec_check_tokens.specs.NodeStates.{StandsAt, StatementKeeps, KindKeeps, OptionalKeeps, StatementsKeep}
use Rattle.ec_check_tokens.specs.States.{state_at}
use Rattle.ec_check_tokens.proofs.FirstTokens.{expression_begins, specs_begin, init_declarator_begins, statement_begins}
use Rattle.ec_check_tokens.proofs.Inside.{within_braces}
use Rattle.ec_check_tokens.proofs.Passed as passed_by
use Rattle.ec_check_tokens.proofs.Reached.{Reached, past, state_there, HeadBegins, stands_there}
use Rattle.ec_check_tokens.proofs.Values.{ExpressionLaws, Has, expression_has, used_has, condition_has, passed_has, part_has}
use Rattle.ec_check_tokens.proofs.Values.{values_have, exprs_have}

-- ---- first tokens

word_head : (x : t.Spec) (rest : List Leaf) (all : PlainStmts) → HeadBegins (of.of_spec x rest) (block all)
word_head (t.word_spec at w) rest all = inr (w, refl)
word_head (t.struct_spec at tag) rest all = inr (words.Struct, refl)

specs_head : (x : t.Specs) (rest : List Leaf) (all : PlainStmts) → HeadBegins (of.of_specs x rest) (block all)
specs_head (t.specs first more) rest all = word_head first _ all

declarator_head : (d : t.Declarator) (start : Option t.Start) (rest : List Leaf) (i : ℕ) (es : PlainExprs)
    → HeadBegins (of.of_init_declarator (t.init_declarator d start) rest) (declare i es)
declarator_head (t.declarator [] (t.identifier at n) shape) start rest i es = inr (n, refl)
declarator_head (t.declarator (t.star at qs ∷ stars) n shape) start rest i es = inl refl

any_head : (left : List Leaf) (n : ℕ) (e : PlainExpr) → BeginsAt left n → HeadBegins left (evaluate e)
any_head [] n e h = absurd h
any_head (x ∷ xs) n e h = tt

-- the kinds of statements, each of which begins with one of these tokens
module _ (P : PlainKind → Type 0) where
  abbrev All : Option PlainKind → Type 0
  All k = IfSome k P

  one_branch_is : (x : Option PlainExpr) (a : Option PlainStmt) → ((x : PlainExpr) (a : PlainStmt) → P (branch x a no_stmt))
      → All (one_branch x a)
  one_branch_is None a h = tt
  one_branch_is (Some x) None h = tt
  one_branch_is (Some x) (Some a) h = h x a

  branches_are : (x : Option PlainExpr) (a b : Option PlainStmt) → ((x : PlainExpr) (a b : PlainStmt) → P (branch x a (a_stmt b)))
      → All (branches x a b)
  branches_are None a b h = tt
  branches_are (Some x) None b h = tt
  branches_are (Some x) (Some a) None h = tt
  branches_are (Some x) (Some a) (Some b) h = h x a b

  while_is : (x : Option PlainExpr) (a : Option PlainStmt) → ((x : PlainExpr) (a : PlainStmt) → P (while_loop x a)) → All (while_of x a)
  while_is None a h = tt
  while_is (Some x) None h = tt
  while_is (Some x) (Some a) h = h x a

  do_is : (a : Option PlainStmt) (x : Option PlainExpr) → ((a : PlainStmt) (x : PlainExpr) → P (do_loop a x)) → All (do_of a x)
  do_is None x h = tt
  do_is (Some a) None h = tt
  do_is (Some a) (Some x) h = h a x

  for_is : (x : Option ForHeading) (a : Option PlainStmt)
      → ((x : ForHeading) (a : PlainStmt) → P (for_loop x.first x.condition x.last a)) → All (for_of x a)
  for_is None a h = tt
  for_is (Some x) None h = tt
  for_is (Some x) (Some a) h = h x a

  left_is : (r : Around) (k : PlainKind) → P k → All (left r k)
  left_is r k h = if_both All r.in_loop (Some k) None (λ q. h) (λ q. tt)

  block_is : (ss : Option PlainStmts) → ((all : PlainStmts) → P (block all)) → All (option_map block ss)
  block_is None h = tt
  block_is (Some ss) h = h ss

  evaluate_is : (e : Option PlainExpr) → ((e : PlainExpr) → P (evaluate e)) → All (option_map evaluate e)
  evaluate_is None h = tt
  evaluate_is (Some e) h = h e

  return_is : (e : Option PlainExpr) → ((e : PlainExpr) → P (return_value (Some e))) → All (option_map (λ v. return_value (Some v)) e)
  return_is None h = tt
  return_is (Some e) h = h e

evaluation_begins : (c : Context) (names : Names) (x : Option t.Expression) (z : Spot) (rest : List Leaf)
    → IfSome (evaluation c names x) (HeadBegins (of.of_option of.of_expression x (of.mark z Semicolon ∷ rest)))
unfolding evaluation
evaluation_begins c names None z rest = refl
evaluation_begins c names (Some x) z rest =
    evaluate_is _ (evaluated c names x) (λ e. any_head _ (first_expression x) e (expression_begins x _))

returned_begins : (c : Context) (r : Around) (names : Names) (x : Option t.Expression) (at z : Spot) (rest : List Leaf)
    → IfSome (returned c r names x) (HeadBegins (of.of_statement (t.return_value at x z) rest))
unfolding returned
returned_begins c r names None at z rest =
    if_both (λ k. IfSome k (HeadBegins (of.of_statement (t.return_value at None z) rest))) (has_no_result r.result)
    (Some (return_value None)) None (λ q. refl) (λ q. tt)
returned_begins c r names (Some x) at z rest =
    return_is _ (passed c.modes (returned_type r.result) (of_expression (known_in c names) x)) (λ e. refl)

-- a statement begins with the word of its kind
kind_begins : (c : Context) (r : Around) (x : t.Statement) (s : Scope) (rest : List Leaf)
    → IfSome (kind_of c r x s) (HeadBegins (of.of_statement x rest))
kind_begins c r (t.block (t.compound l ps xs z)) s rest =
    block_is _ (items_of (under ps c) (within r s.names) xs s) (λ all. inl refl)
kind_begins c r (t.simple x z) s rest = evaluation_begins c s.names x z rest
kind_begins c r (t.if_then at (t.condition l x z) a) s rest =
    one_branch_is _ (tested c s.names x) (stated r a (kind_of c r a s)) (λ x a. refl)
kind_begins c r (t.if_else at (t.condition l x z) a w b) s rest =
    branches_are _ (tested c s.names x) (stated r a (kind_of c r a s)) (stated r b (kind_of c r b (after c r a s))) (λ x a b. refl)
kind_begins c r (t.while_loop at (t.condition l x z) a) s rest =
    while_is _ (tested c s.names x) (stated r a (kind_of c (looping r) a s)) (λ x a. refl)
kind_begins c r (t.do_loop at a w (t.condition l x z) y) s rest =
    do_is _ (stated r a (kind_of c (looping r) a s)) (tested c (after c (looping r) a s).names x) (λ a x. refl)
kind_begins c r (t.for_loop at x a) s rest =
    for_is _ (for_heading c (within r s.names) x s)
    (stated r a (kind_of c (looping (within r s.names)) a (after_heading c (within r s.names) x s))) (λ x a. refl)
kind_begins c r (t.break_loop at z) s rest = left_is _ r break_loop refl
kind_begins c r (t.continue_loop at z) s rest = left_is _ r continue_loop refl
kind_begins c r (t.return_value at x z) s rest = returned_begins c r s.names x at z rest

module _ (texts : ℕ → List Placed) where
  abbrev StmtHas : Option PlainStmt → Type 0
  StmtHas s = IfSome s (StatementKeeps texts)

  abbrev StmtsHave : Option PlainStmts → Type 0
  StmtsHave ss = IfSome ss (StatementsKeep texts)

  abbrev KindHas : Modes → Option PlainKind → Type 0
  KindHas m k = IfSome k (KindKeeps texts m)

  abbrev HasOptional : Modes → Option (Option PlainExpr) → Type 0
  HasOptional m e = IfSome e (λ e. IfSome e (AllNodesHave m))

  -- a statement at a token where the states are these
  placed_has : (unit at : ℕ) (m : Modes) (k : Option PlainKind) → m ≡ state_at (texts unit) at
      → IfSome k (StandsAt (slice_get (texts unit) at)) → KindHas m k → StmtHas (option_map (statement unit at) k)
  placed_has unit at m None e p h = tt
  placed_has unit at m (Some k) e p h = (p, subst (λ (m : Modes). KindKeeps texts m k) e h)

  evaluated_kind : (m : Modes) (e : Option PlainExpr) → Has m e → KindHas m (option_map evaluate e)
  evaluated_kind m None h = tt
  evaluated_kind m (Some e) h = h

  evaluated_stmt : (unit at : ℕ) (m : Modes) (e : Option PlainExpr) → m ≡ state_at (texts unit) at
      → ((v : PlainExpr) → StandsAt (slice_get (texts unit) at) (evaluate v)) → Has m e
      → StmtHas (option_map (λ v. statement unit at (evaluate v)) e)
  evaluated_stmt unit at m None q p h = tt
  evaluated_stmt unit at m (Some e) q p h = (p e, subst (λ (m : Modes). AllNodesHave m e) q h)

  block_has : (m : Modes) (ss : Option PlainStmts) → StmtsHave ss → KindHas m (option_map block ss)
  block_has m None h = tt
  block_has m (Some ss) h = h

  block_stmt_has : (unit at : ℕ) (ss : Option PlainStmts) → ((all : PlainStmts) → StandsAt (slice_get (texts unit) at) (block all))
      → StmtsHave ss → StmtHas (option_map (λ all. statement unit at (block all)) ss)
  block_stmt_has unit at None p h = tt
  block_stmt_has unit at (Some ss) p h = (p ss, h)

  followed_has : (s : Option PlainStmt) (tail : Option PlainStmts) → StmtHas s → StmtsHave tail → StmtsHave (followed s tail)
  followed_has None tail h k = tt
  followed_has (Some s) None h k = tt
  followed_has (Some s) (Some ss) h k = (h, k)

  one_branch_has : (m : Modes) (x : Option PlainExpr) (a : Option PlainStmt) → Has m x → StmtHas a → KindHas m (one_branch x a)
  one_branch_has m None a h k = tt
  one_branch_has m (Some x) None h k = tt
  one_branch_has m (Some x) (Some a) h k = (h, k, tt)

  branches_have : (m : Modes) (x : Option PlainExpr) (a b : Option PlainStmt) → Has m x → StmtHas a → StmtHas b
      → KindHas m (branches x a b)
  branches_have m None a b h k l = tt
  branches_have m (Some x) None b h k l = tt
  branches_have m (Some x) (Some a) None h k l = tt
  branches_have m (Some x) (Some a) (Some b) h k l = (h, k, l)

  while_has : (m : Modes) (x : Option PlainExpr) (a : Option PlainStmt) → Has m x → StmtHas a → KindHas m (while_of x a)
  while_has m None a h k = tt
  while_has m (Some x) None h k = tt
  while_has m (Some x) (Some a) h k = (h, k)

  do_has : (m : Modes) (a : Option PlainStmt) (x : Option PlainExpr) → StmtHas a → Has m x → KindHas m (do_of a x)
  do_has m None x h k = tt
  do_has m (Some a) None h k = tt
  do_has m (Some a) (Some x) h k = (h, k)

  abbrev PartsHave : Modes → ForHeading → Type 0
  PartsHave m h = OptionalKeeps texts h.first × IfSome h.condition (AllNodesHave m) × IfSome h.last (AllNodesHave m)

  abbrev FirstHas : Option (Option PlainStmt) → Type 0
  FirstHas first = IfSome first (λ s. OptionalKeeps texts (optional_stmt s))

  heading_has : (m : Modes) (first : Option (Option PlainStmt)) (condition last : Option (Option PlainExpr)) → FirstHas first
      → HasOptional m condition → HasOptional m last → IfSome (heading_of first condition last) (PartsHave m)
  heading_has m None condition last h k l = tt
  heading_has m (Some a) None last h k l = tt
  heading_has m (Some a) (Some b) None h k l = tt
  heading_has m (Some a) (Some b) (Some e) h k l = (h, k, l)

  for_has : (m : Modes) (h : Option ForHeading) (a : Option PlainStmt) → IfSome h (PartsHave m) → StmtHas a → KindHas m (for_of h a)
  for_has m None a h k = tt
  for_has m (Some x) None h k = tt
  for_has m (Some x) (Some a) h k = (h.0, h.1, h.2, k)

  some_stmt_has : (s : Option PlainStmt) → StmtHas s → FirstHas (option_map Some s)
  some_stmt_has None h = tt
  some_stmt_has (Some s) h = h

  some_has : (m : Modes) (e : Option PlainExpr) → Has m e → HasOptional m (option_map Some e)
  some_has m None h = tt
  some_has m (Some e) h = h

  left_has : (m : Modes) (r : Around) (k : PlainKind) → KindKeeps texts m k → KindHas m (left r k)
  left_has m r k h = if_both (KindHas m) r.in_loop (Some k) None (λ q. h) (λ q. tt)

  returned_kind : (m : Modes) (e : Option PlainExpr) → Has m e → KindHas m (option_map (λ v. return_value (Some v)) e)
  returned_kind m None h = tt
  returned_kind m (Some e) h = h

  declared_has : (unit at : ℕ) (m : Modes) (i : Option ℕ) (v : Option PlainExprs) → m ≡ state_at (texts unit) at
      → ((i : ℕ) (es : PlainExprs) → StandsAt (slice_get (texts unit) at) (declare i es)) → IfSome v (RowHas m)
      → StmtHas (with_both i v (λ i es. Some (statement unit at (declare i es))))
  declared_has unit at m None v e p h = tt
  declared_has unit at m (Some i) None e p h = tt
  declared_has unit at m (Some i) (Some es) e p h = (p i es, subst (λ (m : Modes). RowHas m es) e h)

  -- ---- parts of statements

  module _ (laws : ExpressionLaws) where
    module _ (c : Context) (names : Names) where
      test_has : (x : t.Expression) → Has c.modes (tested c names x)
      unfolding tested
      test_has x =
          condition_has c.modes (used (of_expression (known_in c names) x))
          (used_has c.modes (of_expression (known_in c names) x) (expression_has laws (known_in c names) x))

      optional_test_has : (x : Option t.Expression) → HasOptional c.modes (optional_test c names x)
      unfolding optional_test
      optional_test_has None = tt
      optional_test_has (Some x) = some_has c.modes (tested c names x) (test_has x)

      evaluated_has : (x : t.Expression) → Has c.modes (evaluated c names x)
      unfolding evaluated
      evaluated_has x = part_has c.modes (of_expression (known_in c names) x) (expression_has laws (known_in c names) x)

      optional_evaluation_has : (x : Option t.Expression) → HasOptional c.modes (optional_evaluation c names x)
      unfolding optional_evaluation
      optional_evaluation_has None = tt
      optional_evaluation_has (Some x) = some_has c.modes (evaluated c names x) (evaluated_has x)

      evaluation_has : (x : Option t.Expression) → KindHas c.modes (evaluation c names x)
      unfolding evaluation
      evaluation_has None = tt
      evaluation_has (Some x) = evaluated_kind c.modes (evaluated c names x) (evaluated_has x)

      returned_has : (r : Around) (x : Option t.Expression) → KindHas c.modes (returned c r names x)
      unfolding returned
      returned_has r None = if_both (KindHas c.modes) (has_no_result r.result) (Some (return_value None)) None (λ q. tt) (λ q. tt)
      returned_has r (Some x) =
          returned_kind c.modes (passed c.modes (returned_type r.result) (of_expression (known_in c names) x))
          (passed_has c.modes (returned_type r.result) (of_expression (known_in c names) x) (expression_has laws (known_in c names) x))

      initial_has : (start : Option t.Start) (ty : Option PlainType) → IfSome (initial_values c names start ty) (RowHas c.modes)
      unfolding initial_values
      initial_has None ty = tt
      initial_has (Some (t.start equals x)) ty =
          exprs_have c.modes (leaf_values (known_in c names) x ty) (values_have laws (known_in c names) x ty)

    -- ---- declarations

    module _ (c : Context) (r : Around) (outer : List Modes) where
      abbrev Here : List Leaf → Type 0
      Here left = Reached (texts r.unit) left (c.modes ∷ outer)

      -- the states are those at the token that is next
      there : (left : List Leaf) (n : ℕ) → Here left → BeginsAt left n → c.modes ≡ state_at (texts r.unit) n
      there left n q b = state_there (texts r.unit) left (c.modes ∷ outer) n q b

      -- the token that is next is that of a statement of this kind
      stands : (left : List Leaf) (n : ℕ) (kind : PlainKind) → Here left → BeginsAt left n → HeadBegins left kind
          → StandsAt (slice_get (texts r.unit) n) kind
      stands left n kind q b h = stands_there (texts r.unit) left (c.modes ∷ outer) n kind q b h

      local_has : (said : Specified) (x : t.InitDeclarator) (s : Scope) (rest : List Leaf) → Here (of.of_init_declarator x rest)
          → StmtHas (local_statement c r said x s)
      unfolding local_statement started
      local_has said (t.init_declarator d start) s rest q =
          let o = local_made c said (t.init_declarator d start) s in
          let names = (with_local c r said (t.init_declarator d start) s).names in
          declared_has r.unit (first_declarator d) c.modes o.number (initial_values c names start o.ty)
          (there _ (first_declarator d) q (init_declarator_begins d start rest))
          (λ i es. stands _ (first_declarator d) (declare i es) q (init_declarator_begins d start rest) (declarator_head d start rest i es))
          (initial_has c names start o.ty)

      locals_have : (said : Specified) (xs : List t.NextInitDeclarator) (s : Scope) (rest : List Leaf)
          → g.Every g.Is_next_init_declarator xs → Here (of.of_list of.of_next_init_declarator xs rest) → (tail : Option PlainStmts)
          → StmtsHave tail → StmtsHave (locals_before c r said xs s tail)
      locals_have said [] s rest h q tail k = k
      locals_have said (t.next_init_declarator comma x ∷ xs) s rest h q tail k =
          let next = with_local c r said x s in
          let one = past (texts r.unit) _ _ (c.modes ∷ outer) q in
          followed_has (local_statement c r said x s) (locals_before c r said xs next tail) (local_has said x s _ one)
          (locals_have said xs next rest h.1 (passed_by.past_init_declarator (texts r.unit) c.modes outer x _ h.0 one) tail k)

      declaration_has : (x : t.Declaration) (s : Scope) (rest : List Leaf) → g.Is_declaration x → Here (of.of_declaration x rest)
          → (tail : Option PlainStmts) → StmtsHave tail → StmtsHave (declaration_before c r x s tail)
      unfolding declaration_before
      declaration_has (t.declaration ss x more z) s rest h q tail k =
          let said = specified c.tags ss in
          let next = with_local c r said x s in
          let one = passed_by.past_specs (texts r.unit) (c.modes ∷ outer) ss _ q in
          followed_has (local_statement c r said x s) (locals_before c r said more next tail) (local_has said x s _ one)
          (locals_have said more next _ h.2 (passed_by.past_init_declarator (texts r.unit) c.modes outer x _ h.1 one) tail k)

      first_has : (x : t.First) (s : Scope) (rest : List Leaf) → g.Is_first x → Here (of.of_first x rest) → FirstHas (first_part c r x s)
      unfolding first_part declared_first
      first_has (t.first_declared (t.declaration ss x [] z)) s rest h q =
          some_stmt_has (local_statement c r (specified c.tags ss) x s)
          (local_has (specified c.tags ss) x s _ (passed_by.past_specs (texts r.unit) (c.modes ∷ outer) ss _ q))
      first_has (t.first_declared (t.declaration ss x (y ∷ ys) z)) s rest h q =
          let all = declaration_before c r (t.declaration ss x (y ∷ ys) z) s (Some last_stmt) in
          some_stmt_has (option_map (λ all. statement r.unit (first_specs ss) (block all)) all)
          (block_stmt_has r.unit (first_specs ss) all
          (λ all. stands _ (first_specs ss) (block all) q (specs_begin ss _) (specs_head ss _ all))
          (declaration_has (t.declaration ss x (y ∷ ys) z) s rest h q (Some last_stmt) tt))
      first_has (t.first_evaluated None z) s rest h q = tt
      first_has (t.first_evaluated (Some x) z) s rest h q =
          some_stmt_has (option_map (λ v. statement r.unit (first_expression x) (evaluate v)) (evaluated c s.names x))
          (evaluated_stmt r.unit (first_expression x) c.modes (evaluated c s.names x)
          (there _ (first_expression x) q (expression_begins x _))
          (λ v. stands _ (first_expression x) (evaluate v) q (expression_begins x _)
          (any_head _ (first_expression x) v (expression_begins x _)))
          (evaluated_has c s.names x))

      parts_have : (x : t.Heading) (s : Scope) (rest : List Leaf) → g.Is_heading x → Here (of.of_heading x rest)
          → IfSome (for_heading c r x s) (PartsHave c.modes)
      unfolding for_heading
      parts_have (t.heading l first x semicolon y z) s rest h q =
          let names = (after_first c r first s).names in
          heading_has c.modes (first_part c r first s) (optional_test c names x) (optional_evaluation c names y)
          (first_has first s _ h.0 (past (texts r.unit) _ _ (c.modes ∷ outer) q)) (optional_test_has c names x)
          (optional_evaluation_has c names y)

    -- ---- statements

    -- a statement at its first token
    stated_by : (c : Context) (r : Around) (outer : List Modes) (x : t.Statement) (k : Option PlainKind) (rest : List Leaf)
        → Here c r outer (of.of_statement x rest) → IfSome k (HeadBegins (of.of_statement x rest)) → KindHas c.modes k
        → StmtHas (stated r x k)
    stated_by c r outer x k rest q p h =
        placed_has r.unit (first_statement x) c.modes k
        (there c r outer (of.of_statement x rest) (first_statement x) q (statement_begins x rest)) (by k p) h
      where
        by : (k : Option PlainKind) → IfSome k (HeadBegins (of.of_statement x rest))
            → IfSome k (StandsAt (slice_get (texts r.unit) (first_statement x)))
        by None p = tt
        by (Some k) p = stands c r outer (of.of_statement x rest) (first_statement x) k q (statement_begins x rest) p

    mutual
      kind_has : (c : Context) (r : Around) (outer : List Modes) (x : t.Statement) (s : Scope) (rest : List Leaf) → g.Is_statement x
          → Here c r outer (of.of_statement x rest) → KindHas c.modes (kind_of c r x s)
      kind_has c r outer (t.block (t.compound l ps xs z)) s rest h q =
          block_has c.modes (items_of (under ps c) (within r s.names) xs s)
          (all_have (under ps c) (within r s.names) (c.modes ∷ outer) xs s _ h (within_braces (texts r.unit) c outer l ps _ q))
      kind_has c r outer (t.simple x z) s rest h q = evaluation_has c s.names x
      kind_has c r outer (t.if_then at (t.condition l x z) a) s rest h q =
          let kind = kind_of c r a s in
          let inner =
          passed_by.past_condition (texts r.unit) c.modes outer (t.condition l x z) _ h.0
          (past (texts r.unit) _ _ (c.modes ∷ outer) q)
          in
          one_branch_has c.modes (tested c s.names x) (stated r a kind) (test_has c s.names x)
          (stated_by c r outer a kind rest inner (kind_begins c r a s rest) (kind_has c r outer a s rest h.1 inner))
      kind_has c r outer (t.if_else at (t.condition l x z) a w b) s rest h q =
          let next = after c r a s in
          let first = kind_of c r a s in
          let second = kind_of c r b next in
          let inner =
          passed_by.past_condition (texts r.unit) c.modes outer (t.condition l x z) _ h.0
          (past (texts r.unit) _ _ (c.modes ∷ outer) q)
          in
          let behind = past (texts r.unit) _ _ (c.modes ∷ outer) (passed_by.past_statement (texts r.unit) c.modes outer a _ h.1 inner) in
          branches_have c.modes (tested c s.names x) (stated r a first) (stated r b second) (test_has c s.names x)
          (stated_by c r outer a first _ inner (kind_begins c r a s _) (kind_has c r outer a s _ h.1 inner))
          (stated_by c r outer b second rest behind (kind_begins c r b next rest) (kind_has c r outer b next rest h.3 behind))
      kind_has c r outer (t.while_loop at (t.condition l x z) a) s rest h q =
          let kind = kind_of c (looping r) a s in
          let inner =
          passed_by.past_condition (texts r.unit) c.modes outer (t.condition l x z) _ h.0
          (past (texts r.unit) _ _ (c.modes ∷ outer) q)
          in
          while_has c.modes (tested c s.names x) (stated r a kind) (test_has c s.names x)
          (stated_by c (looping r) outer a kind rest inner (kind_begins c (looping r) a s rest)
          (kind_has c (looping r) outer a s rest h.1 inner))
      kind_has c r outer (t.do_loop at a w (t.condition l x z) y) s rest h q =
          let next = after c (looping r) a s in
          let kind = kind_of c (looping r) a s in
          let inner = past (texts r.unit) _ _ (c.modes ∷ outer) q in
          do_has c.modes (stated r a kind) (tested c next.names x)
          (stated_by c (looping r) outer a kind _ inner (kind_begins c (looping r) a s _)
          (kind_has c (looping r) outer a s _ h.0 inner)) (test_has c next.names x)
      kind_has c r outer (t.for_loop at x a) s rest h q =
          let p = within r s.names in
          let next = after_heading c p x s in
          let kind = kind_of c (looping p) a next in
          let one = past (texts r.unit) _ _ (c.modes ∷ outer) q in
          let inner = passed_by.past_heading (texts r.unit) c.modes outer x _ h.0 one in
          for_has c.modes (for_heading c p x s) (stated r a kind) (parts_have c p outer x s _ h.0 one)
          (stated_by c (looping p) outer a kind rest inner (kind_begins c (looping p) a next rest)
          (kind_has c (looping p) outer a next rest h.1 inner))
      kind_has c r outer (t.break_loop at z) s rest h q = left_has c.modes r break_loop tt
      kind_has c r outer (t.continue_loop at z) s rest h q = left_has c.modes r continue_loop tt
      kind_has c r outer (t.return_value at x z) s rest h q = returned_has c s.names r x

      item_has : (c : Context) (r : Around) (outer : List Modes) (x : t.Item) (s : Scope) (rest : List Leaf) → g.Is_item x
          → Here c r outer (of.of_item x rest) → (tail : Option PlainStmts) → StmtsHave tail → StmtsHave (item_before c r x s tail)
      item_has c r outer (t.declared x) s rest h q tail k = declaration_has c r outer x s rest h q tail k
      item_has c r outer (t.stated x) s rest h q tail k =
          let kind = kind_of c r x s in
          followed_has (stated r x kind) tail
          (stated_by c r outer x kind rest q (kind_begins c r x s rest) (kind_has c r outer x s rest h q)) k

      all_have : (c : Context) (r : Around) (outer : List Modes) (xs : t.Items) (s : Scope) (rest : List Leaf) → g.Are_items xs
          → Here c r outer (of.of_items xs rest) → StmtsHave (items_of c r xs s)
      all_have c r outer t.no_items s rest h q = tt
      all_have c r outer (t.items x xs) s rest h q =
          let next = after_item c r x s in
          item_has c r outer x s _ h.0 q (items_of c r xs next)
          (all_have c r outer xs next rest h.1 (passed_by.past_item (texts r.unit) c.modes outer x _ h.0 q))

    pub body_has : (c : Context) (r : Around) (outer : List Modes) (x : t.Compound) (s : Scope) (rest : List Leaf) → g.Is_compound x
        → Here c r outer (of.of_compound x rest) → StmtHas (body_of c r x s)
    unfolding body_of
    body_has c r outer (t.compound l ps xs z) s rest h q =
        placed_has r.unit l.index c.modes (option_map block (items_of (under ps c) r xs s)) (there c r outer _ l.index q refl)
        (block_is _ (items_of (under ps c) r xs s) (λ all. stands c r outer _ l.index (block all) q refl (inl refl)))
        (block_has c.modes (items_of (under ps c) r xs s)
        (all_have (under ps c) r (c.modes ∷ outer) xs s _ h (within_braces (texts r.unit) c outer l ps _ q)))
