-- What a body needs at once is no more than it has tokens.
use Rattle.std.proofs.Common.{◌≡◌, ◌≤◌, ◌+◌, ◌-◌, ℕ, zero, suc, Bool, true, false, List, [], ◌∷◌, length, map, drop, refl, arith}
use Rattle.std.specs.Prelude.{Option, Some, None, IfSome, option_map}
use Rattle.std.specs.List.{AllByRecursion}
use Rattle.ec_grammar.specs.declared.token.PunctKind.TheVariants.{RightBrace, RightParenthesis, Semicolon}
use Rattle.ec_grammar.specs.declared.token.WordKind.TheVariants as words
use Rattle.ec_grammar.specs.Spelling as of
use Rattle.ec_grammar.specs.Trees as t
use Rattle.ec_grammar.specs.Trees.{Leaf}
use Rattle.ec_core.specs.Layout.{PlainLeaf, leaves_of_type}
use Rattle.ec_core.specs.Needs.{expr_need, exprs_needs, most, option_need, stmt_need, kind_need, option_stmt_need, stmts_need}
use Rattle.ec_core.specs.Plain.{PlainType, PlainExpr, expression, PlainExprs, PlainStmt, statement, PlainKind, evaluate, declare, block}
use Rattle.ec_core.specs.Plain.{break_loop, continue_loop, return_value, PlainStmts, last_stmt}
use Rattle.ec_check_names.specs.declared.specifiers.Specified.{Specified}
use Rattle.ec_check_names.specs.Firsts.{first_specs, first_expression, first_statement}
use Rattle.ec_check_names.specs.Names.{Names}
use Rattle.ec_check_names.specs.Specifiers.{specified}
use Rattle.ec_check_forms.specs.Nodes.{used, used_part, condition}
use Rattle.ec_check_operands.specs.declared.operands.Modes.{Modes}
use Rattle.ec_check_operands.specs.Operands.{Operand, mode_of, value_type, as_value, with_both}
use Rattle.ec_check_operands.specs.Passing.{passed}
use Rattle.ec_check_operands.specs.Sorts.{is_void, is_struct, is_aggregate, is_pointer}
use Rattle.ec_check_expressions.specs.Callees.{exprs_of}
use Rattle.ec_check_expressions.specs.Expressions.{of_expression, of_assignment}
use Rattle.ec_check_expressions.specs.Known.{Known}
use Rattle.ec_check_expression_laws.specs.Laws.{NeedsAreBounded}
use Rattle.ec_check_initialisers.specs.Locals.{leaf_values, with_items}
use Rattle.ec_check_initialisers.specs.Parts.{part_of, scalar_of, zero_node, zero_of, filled, whole_values, joined, one_value}
use Rattle.ec_check_declarations.specs.Scopes.{Context, Scope, known_in}
use Rattle.ec_check_statements.specs.Around.{Around, looping, within, under}
use Rattle.ec_check_statements.specs.Results.{returned_type, has_no_result}
use Rattle.ec_check_statements.specs.Kinds.{one_branch, branches, while_of, do_of, left}
use Rattle.ec_check_statements.specs.Headings.{ForHeading, optional_stmt, declared_first, first_part, after_first, heading_of, for_heading}
use Rattle.ec_check_statements.specs.Headings.{after_heading}
use Rattle.ec_check_statements.specs.Locals.{first_declarator, initial_values, local_made, started, local_statement, with_local}
use Rattle.ec_check_statements.specs.Locals.{locals_before, declaration_before}
use Rattle.ec_check_statements.specs.Parts.{tested, optional_test, evaluated, optional_evaluation, returned}
use Rattle.ec_check_statements.specs.Statements.{evaluation, stated, for_of, after, after_item, kind_of, item_before, items_of, body_of}
use Rattle.ec_check_statements.specs.Walks.{followed}
use Rattle.ec_check_statements.specs.Laws.{BodiesNeedTheirTokens}
use Rattle.ec_check_statements.proofs.Choices.{if_both}
use Rattle.ec_check_statements.proofs.LeafTypes.{all_append}
use Rattle.ec_check_statements.proofs.Longer.{pragmas_precede, specs_precede, last_comma_precedes, initialiser_precedes}
use Rattle.ec_check_statements.proofs.Longer.{initialisers_precede, declarator_precedes, init_declarator_precedes, next_declarators_precede}
use Rattle.ec_check_statements.proofs.Longer.{optional_precedes, first_precedes, heading_precedes, statement_precedes, item_precedes}
use Rattle.ec_check_statements.proofs.Longer.{items_precede}

-- ---- what is made of parts

module _ (n : ℕ) where
  abbrev Few : Option PlainExpr → Type 0
  Few e = IfSome e (λ e. expr_need e ≤ n)

  abbrev FewStmt : Option PlainStmt → Type 0
  FewStmt s = IfSome s (λ s. stmt_need s ≤ n)

  abbrev FewKind : Option PlainKind → Type 0
  FewKind k = IfSome k (λ k. kind_need k ≤ n)

  abbrev FewStmts : Option PlainStmts → Type 0
  FewStmts ss = IfSome ss (λ ss. stmts_need ss ≤ n)

  abbrev FewOptional : Option (Option PlainExpr) → Type 0
  FewOptional e = IfSome e (λ e. option_need e ≤ n)

  abbrev FewValues : Option (List PlainExpr) → Type 0
  FewValues v = IfSome v (λ es. AllByRecursion (λ e. expr_need e ≤ n) es)

  placed_few : (unit at : ℕ) (k : Option PlainKind) → FewKind k → FewStmt (option_map (statement unit at) k)
  placed_few unit at None h = tt
  placed_few unit at (Some k) h = h

  evaluated_kind : (e : Option PlainExpr) → Few e → FewKind (option_map evaluate e)
  evaluated_kind None h = tt
  evaluated_kind (Some e) h = h

  evaluated_stmt : (unit at : ℕ) (e : Option PlainExpr) → Few e → FewStmt (option_map (λ v. statement unit at (evaluate v)) e)
  evaluated_stmt unit at None h = tt
  evaluated_stmt unit at (Some e) h = h

  block_few : (ss : Option PlainStmts) → FewStmts ss → FewKind (option_map block ss)
  block_few None h = tt
  block_few (Some ss) h = h

  block_stmt_few : (unit at : ℕ) (ss : Option PlainStmts) → FewStmts ss → FewStmt (option_map (λ all. statement unit at (block all)) ss)
  block_stmt_few unit at None h = tt
  block_stmt_few unit at (Some ss) h = h

  followed_few : (s : Option PlainStmt) (tail : Option PlainStmts) → FewStmt s → FewStmts tail → FewStmts (followed s tail)
  followed_few None tail h k = tt
  followed_few (Some s) None h k = tt
  followed_few (Some s) (Some ss) h k = omega (arith, h, k)

  one_branch_few : (x : Option PlainExpr) (a : Option PlainStmt) → Few x → FewStmt a → FewKind (one_branch x a)
  one_branch_few None a h k = tt
  one_branch_few (Some x) None h k = tt
  one_branch_few (Some x) (Some a) h k = omega (arith, h, k)

  branches_few : (x : Option PlainExpr) (a b : Option PlainStmt) → Few x → FewStmt a → FewStmt b → FewKind (branches x a b)
  branches_few None a b h k l = tt
  branches_few (Some x) None b h k l = tt
  branches_few (Some x) (Some a) None h k l = tt
  branches_few (Some x) (Some a) (Some b) h k l = omega (arith, h, k, l)

  while_few : (x : Option PlainExpr) (a : Option PlainStmt) → Few x → FewStmt a → FewKind (while_of x a)
  while_few None a h k = tt
  while_few (Some x) None h k = tt
  while_few (Some x) (Some a) h k = omega (arith, h, k)

  do_few : (a : Option PlainStmt) (x : Option PlainExpr) → FewStmt a → Few x → FewKind (do_of a x)
  do_few None x h k = tt
  do_few (Some a) None h k = tt
  do_few (Some a) (Some x) h k = omega (arith, h, k)

  abbrev FewParts : ForHeading → Type 0
  FewParts h = (option_stmt_need h.first ≤ n) × (option_need h.condition ≤ n) × (option_need h.last ≤ n)

  heading_few : (first : Option (Option PlainStmt)) (condition last : Option (Option PlainExpr))
      → IfSome first (λ s. option_stmt_need (optional_stmt s) ≤ n)
      → FewOptional condition → FewOptional last → IfSome (heading_of first condition last) FewParts
  heading_few None condition last h k l = tt
  heading_few (Some a) None last h k l = tt
  heading_few (Some a) (Some b) None h k l = tt
  heading_few (Some a) (Some b) (Some e) h k l = (h, k, l)

  for_few : (h : Option ForHeading) (a : Option PlainStmt) → IfSome h FewParts → FewStmt a → FewKind (for_of h a)
  for_few None a h k = tt
  for_few (Some x) None h k = tt
  for_few (Some x) (Some a) h k = let first = h.0 in let condition = h.1 in let last = h.2 in omega (arith, first, condition, last, k)

  some_stmt_few : (s : Option PlainStmt) → FewStmt s → IfSome (option_map Some s) (λ s. option_stmt_need (optional_stmt s) ≤ n)
  some_stmt_few None h = tt
  some_stmt_few (Some s) h = h

  some_few : (e : Option PlainExpr) → Few e → FewOptional (option_map Some e)
  some_few None h = tt
  some_few (Some e) h = h

  left_few : (r : Around) (k : PlainKind) → kind_need k ≡ 0 → FewKind (left r k)
  left_few r k h = if_both FewKind r.in_loop (Some k) None (λ q. omega (arith, h)) (λ q. tt)

  less_few : (a : ℕ) → a ≤ n → (e : Option PlainExpr) → IfSome e (λ d. expr_need d ≤ a) → Few e
  less_few a h None k = tt
  less_few a h (Some e) k = omega (arith, h, k)

  returned_kind : (e : Option PlainExpr) → Few e → FewKind (option_map (λ v. return_value (Some v)) e)
  returned_kind None h = tt
  returned_kind (Some e) h = h

  -- ---- values of leaves

  zeros_few : 1 ≤ n → (m : Modes) (i : ℕ) (leaves : List PlainLeaf)
      → AllByRecursion (λ e. expr_need e ≤ n) (map (λ leaf. zero_of m leaf.ty) (drop i leaves))
  zeros_few h m zero [] = tt
  zeros_few h m (suc i) [] = tt
  zeros_few h m zero (leaf ∷ leaves) = (zero_few (is_pointer leaf.ty), zeros_few h m zero leaves)
    where
      zero_few : (b : Bool) → expr_need (expression leaf.ty (mode_of m leaf.ty) (zero_node b)) ≤ n
      zero_few true = omega (arith, h)
      zero_few false = omega (arith, h)
  zeros_few h m (suc i) (leaf ∷ leaves) = zeros_few h m i leaves

  one_few : (e : Option PlainExpr) → Few e → FewValues (one_value e)
  one_few None h = tt
  one_few (Some e) h = (h, tt)

  joined_few : (a b : Option (List PlainExpr)) → FewValues a → FewValues b → FewValues (joined a b)
  joined_few None b h k = tt
  joined_few (Some es) None h k = tt
  joined_few (Some es) (Some fs) h k = all_append (λ e. expr_need e ≤ n) es fs h k

  whole_few : 1 ≤ n → (k : Known) (ty : Option PlainType) (v : Option (List PlainExpr)) → FewValues v
      → FewValues (whole_values k.modes k.structs ty v)
  whole_few some k None v h = tt
  whole_few some k (Some ty) None h = tt
  whole_few some k (Some ty) (Some es) h =
      if_both FewValues (is_aggregate ty) (Some (filled k.modes k.structs ty es)) None
      (λ q. all_append (λ e. expr_need e ≤ n) es (map (λ leaf. zero_of k.modes leaf.ty) (drop (length es) (leaves_of_type k.structs ty))) h
      (zeros_few some k.modes (length es) (leaves_of_type k.structs ty))) (λ q. tt)

  most_few : (es : List PlainExpr) → AllByRecursion (λ e. expr_need e ≤ n) es → most (exprs_needs (exprs_of es)) ≤ n
  most_few [] h = omega arith
  most_few (e ∷ es) h = let rest = most_few es h.1 in let first = h.0 in omega (arith, rest, first)

  exprs_few : (v : Option (List PlainExpr)) → FewValues v → IfSome (option_map exprs_of v) (λ es. most (exprs_needs es) ≤ n)
  exprs_few None h = tt
  exprs_few (Some es) h = most_few es h

  declared_few : (unit at : ℕ) (i : Option ℕ) (v : Option PlainExprs) → IfSome v (λ es. most (exprs_needs es) ≤ n)
      → FewStmt (with_both i v (λ i es. Some (statement unit at (declare i es))))
  declared_few unit at None v h = tt
  declared_few unit at (Some i) None h = tt
  declared_few unit at (Some i) (Some es) h = h

-- ---- operands

module _ (needs : NeedsAreBounded) where
  abbrev FewOperand : Modes → ℕ → Option Operand → Type 0
  FewOperand m n o = IfSome o (λ o. expr_need (as_value m o) ≤ n)

  operand_few : (m : Modes) (n a b : ℕ) → b ≤ n + a → (o : Option Operand) → IfSome o (λ o. expr_need (as_value m o) + a ≤ b)
      → FewOperand m n o
  operand_few m n a b h None k = tt
  operand_few m n a b h (Some o) k = omega (arith, h, k)

  expression_few : (m : Modes) (k : Known) (x : t.Expression) (rest : List Leaf) (n : ℕ)
      → length (of.of_expression x rest) ≤ n + length rest → FewOperand m n (of_expression k x)
  expression_few m k x rest n h =
      operand_few m n (length rest) (length (of.of_expression x rest)) h (of_expression k x) ((needs.trees m k).expressions x rest)

  assignment_few : (m : Modes) (k : Known) (x : t.Assignment) (rest : List Leaf) (n : ℕ)
      → length (of.of_assignment x rest) ≤ n + length rest → FewOperand m n (of_assignment k x)
  assignment_few m k x rest n h =
      operand_few m n (length rest) (length (of.of_assignment x rest)) h (of_assignment k x) ((needs.trees m k).assignments x rest)

  used_few : (m : Modes) (n : ℕ) (o : Option Operand) → FewOperand m n o → FewOperand m n (used o)
  used_few m n None h = tt
  used_few m n (Some x) h = if_both (FewOperand m n) (is_void (value_type x)) None (Some x) (λ q. tt) (λ q. h)

  condition_few : (m : Modes) (n : ℕ) (o : Option Operand) → FewOperand m n o → Few n (condition m o)
  condition_few m n None h = tt
  condition_few m n (Some x) h = less_few n (expr_need (as_value m x)) h (condition m (Some x)) (needs.conditions m x)

  passed_few : (m : Modes) (n : ℕ) (to : Option PlainType) (o : Option Operand) → FewOperand m n o → Few n (passed m to o)
  passed_few m n None o h = tt
  passed_few m n (Some to) None h = tt
  passed_few m n (Some to) (Some x) h = less_few n (expr_need (as_value m x)) h (passed m (Some to) (Some x)) (needs.passed m to x)

  part_few : (m : Modes) (n : ℕ) (o : Option Operand) → FewOperand m n o → Few n (option_map (as_value m) (used_part o))
  part_few m n None h = tt
  part_few m n (Some x) h = if_both (λ o. Few n (option_map (as_value m) o)) (is_struct (value_type x)) None (Some x) (λ q. tt) (λ q. h)

  module _ (c : Context) (names : Names) where
    test_few : (x : t.Expression) (rest : List Leaf) (n : ℕ) → length (of.of_expression x rest) ≤ n + length rest → Few n (tested c names x)
    unfolding tested
    test_few x rest n h =
        condition_few c.modes n (used (of_expression (known_in c names) x))
        (used_few c.modes n (of_expression (known_in c names) x) (expression_few c.modes (known_in c names) x rest n h))

    optional_test_few : (x : Option t.Expression) (rest : List Leaf) (n : ℕ)
        → length (of.of_option of.of_expression x rest) ≤ n + length rest → FewOptional n (optional_test c names x)
    unfolding optional_test
    optional_test_few None rest n h = omega arith
    optional_test_few (Some x) rest n h = some_few n (tested c names x) (test_few x rest n h)

    evaluated_few : (x : t.Expression) (rest : List Leaf) (n : ℕ) → length (of.of_expression x rest) ≤ n + length rest
        → Few n (evaluated c names x)
    unfolding evaluated
    evaluated_few x rest n h =
        part_few c.modes n (of_expression (known_in c names) x) (expression_few c.modes (known_in c names) x rest n h)

    optional_evaluation_few : (x : Option t.Expression) (rest : List Leaf) (n : ℕ)
        → length (of.of_option of.of_expression x rest) ≤ n + length rest
        → FewOptional n (optional_evaluation c names x)
    unfolding optional_evaluation
    optional_evaluation_few None rest n h = omega arith
    optional_evaluation_few (Some x) rest n h = some_few n (evaluated c names x) (evaluated_few x rest n h)

    evaluation_few : (x : Option t.Expression) (rest : List Leaf) (n : ℕ) → length (of.of_option of.of_expression x rest) ≤ n + length rest
        → FewKind n (evaluation c names x)
    unfolding evaluation
    evaluation_few None rest n h = omega arith
    evaluation_few (Some x) rest n h = evaluated_kind n (evaluated c names x) (evaluated_few x rest n h)

    returned_few : (r : Around) (x : Option t.Expression) (rest : List Leaf) (n : ℕ)
        → length (of.of_option of.of_expression x rest) ≤ n + length rest → FewKind n (returned c r names x)
    unfolding returned
    returned_few r None rest n h = if_both (FewKind n) (has_no_result r.result) (Some (return_value None)) None (λ q. omega arith) (λ q. tt)
    returned_few r (Some x) rest n h =
        returned_kind n (passed c.modes (returned_type r.result) (of_expression (known_in c names) x))
        (passed_few c.modes n (returned_type r.result) (of_expression (known_in c names) x)
        (expression_few c.modes (known_in c names) x rest n h))

  -- ---- initialisers

  mutual
    values_few : (k : Known) (x : t.Initialiser) (ty : Option PlainType) (rest : List Leaf) (n : ℕ)
        → length (of.of_initialiser x rest) ≤ n + length rest → FewValues n (leaf_values k x ty)
    values_few k (t.initial_value a) ty rest n h =
        one_few n (passed k.modes (scalar_of ty) (used (of_assignment k a)))
        (passed_few k.modes n (scalar_of ty) (used (of_assignment k a))
        (used_few k.modes n (of_assignment k a) (assignment_few k.modes k a rest n h)))
    values_few k (t.braces l first more c r) ty rest n h =
        let end = of.of_option of.of_comma c (of.mark r RightBrace ∷ rest) in
        let d = last_comma_precedes needs c (of.mark r RightBrace ∷ rest) in
        let e = initialisers_precede needs more end in
        let f = initialiser_precedes needs first (of.of_initialisers more end) in
        let v = joined (Some []) (leaf_values k first (part_of k.structs ty 0)) in
        whole_few n (omega (arith, d, e, f, h)) k ty (with_items k ty v 1 more)
        (items_few k more ty 1 v end n (omega (arith, d, e, f, h))
        (joined_few n (Some []) (leaf_values k first (part_of k.structs ty 0)) tt
        (values_few k first (part_of k.structs ty 0) (of.of_initialisers more end) n (omega (arith, d, e, f, h)))))

    items_few : (k : Known) (more : t.Initialisers) (ty : Option PlainType) (i : ℕ) (v : Option (List PlainExpr)) (rest : List Leaf) (n : ℕ)
        → length (of.of_initialisers more rest) ≤ n + length rest → FewValues n v → FewValues n (with_items k ty v i more)
    items_few k t.no_initialisers ty i v rest n h g = g
    items_few k (t.initialisers s x more) ty i v rest n h g =
        let d = initialisers_precede needs more rest in
        let e = initialiser_precedes needs x (of.of_initialisers more rest) in
        items_few k more ty (i + 1) (joined v (leaf_values k x (part_of k.structs ty i))) rest n (omega (arith, d, e, h))
        (joined_few n v (leaf_values k x (part_of k.structs ty i)) g
        (values_few k x (part_of k.structs ty i) (of.of_initialisers more rest) n (omega (arith, d, e, h))))

  initial_few : (c : Context) (names : Names) (start : Option t.Start) (ty : Option PlainType) (rest : List Leaf) (n : ℕ)
      → length (of.of_option of.of_start start rest) ≤ n + length rest
      → IfSome (initial_values c names start ty) (λ es. most (exprs_needs es) ≤ n)
  unfolding initial_values
  initial_few c names None ty rest n h = omega arith
  initial_few c names (Some (t.start equals x)) ty rest n h =
      exprs_few n (leaf_values (known_in c names) x ty) (values_few (known_in c names) x ty rest n (omega (arith, h)))

  -- ---- declarations

  local_few : (c : Context) (r : Around) (said : Specified) (x : t.InitDeclarator) (s : Scope) (rest : List Leaf) (n : ℕ)
      → length (of.of_init_declarator x rest) ≤ n + length rest → FewStmt n (local_statement c r said x s)
  unfolding local_statement started
  local_few c r said (t.init_declarator d start) s rest n h =
      let o = local_made c said (t.init_declarator d start) s in
      let names = (with_local c r said (t.init_declarator d start) s).names in
      let e = declarator_precedes needs d (of.of_option of.of_start start rest) in
      declared_few n r.unit (first_declarator d) o.number (initial_values c names start o.ty)
      (initial_few c names start o.ty rest n (omega (arith, e, h)))

  locals_few : (c : Context) (r : Around) (said : Specified) (xs : List t.NextInitDeclarator) (s : Scope) (rest : List Leaf) (n : ℕ)
      → length (of.of_list of.of_next_init_declarator xs rest) ≤ n + length rest → (tail : Option PlainStmts) → FewStmts n tail
      → FewStmts n (locals_before c r said xs s tail)
  locals_few c r said [] s rest n h tail g = g
  locals_few c r said (t.next_init_declarator comma x ∷ xs) s rest n h tail g =
      let next = with_local c r said x s in
      let d = next_declarators_precede needs xs rest in
      let e = init_declarator_precedes needs x (of.of_list of.of_next_init_declarator xs rest) in
      followed_few n (local_statement c r said x s) (locals_before c r said xs next tail)
      (local_few c r said x s (of.of_list of.of_next_init_declarator xs rest) n (omega (arith, d, e, h)))
      (locals_few c r said xs next rest n (omega (arith, d, e, h)) tail g)

  declaration_few : (c : Context) (r : Around) (x : t.Declaration) (s : Scope) (rest : List Leaf) (n : ℕ)
      → length (of.of_declaration x rest) ≤ n + length rest → (tail : Option PlainStmts) → FewStmts n tail
      → FewStmts n (declaration_before c r x s tail)
  unfolding declaration_before
  declaration_few c r (t.declaration ss x more z) s rest n h tail g =
      let said = specified c.tags ss in
      let next = with_local c r said x s in
      let end = of.mark z Semicolon ∷ rest in
      let d = next_declarators_precede needs more end in
      let e = init_declarator_precedes needs x (of.of_list of.of_next_init_declarator more end) in
      let f = specs_precede ss (of.of_init_declarator x (of.of_list of.of_next_init_declarator more end)) in
      followed_few n (local_statement c r said x s) (locals_before c r said more next tail)
      (local_few c r said x s (of.of_list of.of_next_init_declarator more end) n (omega (arith, d, e, f, h)))
      (locals_few c r said more next end n (omega (arith, d, e, f, h)) tail g)

  lone_few : (c : Context) (r : Around) (ss : t.Specs) (x : t.InitDeclarator) (z : _) (s : Scope) (rest : List Leaf) (n : ℕ)
      → length (of.of_declaration (t.declaration ss x [] z) rest) ≤ n + length rest
      → FewStmt n (local_statement c r (specified c.tags ss) x s)
  lone_few c r ss x z s rest n h =
      let end = of.mark z Semicolon ∷ rest in
      let f = specs_precede ss (of.of_init_declarator x end) in
      local_few c r (specified c.tags ss) x s end n (omega (arith, f, h))

  first_few : (c : Context) (r : Around) (x : t.First) (s : Scope) (rest : List Leaf) (n : ℕ)
      → length (of.of_first x rest) ≤ n + length rest
      → IfSome (first_part c r x s) (λ s. option_stmt_need (optional_stmt s) ≤ n)
  unfolding first_part declared_first
  first_few c r (t.first_declared (t.declaration ss x [] z)) s rest n h =
      some_stmt_few n (local_statement c r (specified c.tags ss) x s) (lone_few c r ss x z s rest n h)
  first_few c r (t.first_declared (t.declaration ss x (y ∷ ys) z)) s rest n h =
      let all = declaration_before c r (t.declaration ss x (y ∷ ys) z) s (Some last_stmt) in
      some_stmt_few n (option_map (λ all. statement r.unit (first_specs ss) (block all)) all)
      (block_stmt_few n r.unit (first_specs ss) all
      (declaration_few c r (t.declaration ss x (y ∷ ys) z) s rest n h (Some last_stmt) (omega arith)))
  first_few c r (t.first_evaluated None z) s rest n h = omega arith
  first_few c r (t.first_evaluated (Some x) z) s rest n h =
      some_stmt_few n (option_map (λ v. statement r.unit (first_expression x) (evaluate v)) (evaluated c s.names x))
      (evaluated_stmt n r.unit (first_expression x) (evaluated c s.names x)
      (evaluated_few c s.names x (of.mark z Semicolon ∷ rest) n (omega (arith, h))))

  parts_few : (c : Context) (r : Around) (x : t.Heading) (s : Scope) (rest : List Leaf) (n : ℕ)
      → length (of.of_heading x rest) ≤ n + length rest
      → IfSome (for_heading c r x s) (FewParts n)
  unfolding for_heading
  parts_few c r (t.heading l first x semicolon y z) s rest n h =
      let names = (after_first c r first s).names in
      let end = of.mark z RightParenthesis ∷ rest in
      let last = of.mark semicolon Semicolon ∷ of.of_option of.of_expression y end in
      let a = optional_precedes needs y end in
      let b = optional_precedes needs x last in
      let d = first_precedes needs first (of.of_option of.of_expression x last) in
      heading_few n (first_part c r first s) (optional_test c names x) (optional_evaluation c names y)
      (first_few c r first s (of.of_option of.of_expression x last) n (omega (arith, a, b, d, h)))
      (optional_test_few c names x last n (omega (arith, a, b, d, h))) (optional_evaluation_few c names y end n (omega (arith, a, b, d, h)))

  -- ---- statements

  mutual
    kind_few : (c : Context) (r : Around) (x : t.Statement) (s : Scope) (rest : List Leaf) (n : ℕ)
        → length (of.of_statement x rest) ≤ n + length rest
        → FewKind n (kind_of c r x s)
    kind_few c r (t.block (t.compound l ps xs z)) s rest n h =
        let end = of.mark z RightBrace ∷ rest in
        let a = pragmas_precede ps (of.of_items xs end) in
        block_few n (items_of (under ps c) (within r s.names) xs s)
        (all_few (under ps c) (within r s.names) xs s end n (omega (arith, a, h)))
    kind_few c r (t.simple x z) s rest n h = evaluation_few c s.names x (of.mark z Semicolon ∷ rest) n (omega (arith, h))
    kind_few c r (t.if_then at (t.condition l x z) a) s rest n h =
        let end = of.mark z RightParenthesis ∷ of.of_statement a rest in
        let p = statement_precedes needs a rest in
        let q = needs.expressions x end in
        one_branch_few n (tested c s.names x) (stated r a (kind_of c r a s)) (test_few c s.names x end n (omega (arith, p, q, h)))
        (placed_few n r.unit (first_statement a) (kind_of c r a s) (kind_few c r a s rest n (omega (arith, p, q, h))))
    kind_few c r (t.if_else at (t.condition l x z) a w b) s rest n h =
        let next = after c r a s in
        let other = of.word w words.Else ∷ of.of_statement b rest in
        let end = of.mark z RightParenthesis ∷ of.of_statement a other in
        let o = statement_precedes needs b rest in
        let p = statement_precedes needs a other in
        let q = needs.expressions x end in
        branches_few n (tested c s.names x) (stated r a (kind_of c r a s)) (stated r b (kind_of c r b next))
        (test_few c s.names x end n (omega (arith, o, p, q, h)))
        (placed_few n r.unit (first_statement a) (kind_of c r a s) (kind_few c r a s other n (omega (arith, o, p, q, h))))
        (placed_few n r.unit (first_statement b) (kind_of c r b next) (kind_few c r b next rest n (omega (arith, o, p, q, h))))
    kind_few c r (t.while_loop at (t.condition l x z) a) s rest n h =
        let end = of.mark z RightParenthesis ∷ of.of_statement a rest in
        let p = statement_precedes needs a rest in
        let q = needs.expressions x end in
        while_few n (tested c s.names x) (stated r a (kind_of c (looping r) a s)) (test_few c s.names x end n (omega (arith, p, q, h)))
        (placed_few n r.unit (first_statement a) (kind_of c (looping r) a s) (kind_few c (looping r) a s rest n (omega (arith, p, q, h))))
    kind_few c r (t.do_loop at a w (t.condition l x z) y) s rest n h =
        let next = after c (looping r) a s in
        let end = of.mark z RightParenthesis ∷ of.mark y Semicolon ∷ rest in
        let q = needs.expressions x end in
        let tail = of.word w words.While ∷ of.of_condition (t.condition l x z) (of.mark y Semicolon ∷ rest) in
        let p = statement_precedes needs a tail in
        do_few n (stated r a (kind_of c (looping r) a s)) (tested c next.names x)
        (placed_few n r.unit (first_statement a) (kind_of c (looping r) a s) (kind_few c (looping r) a s tail n (omega (arith, p, q, h))))
        (test_few c next.names x end n (omega (arith, p, q, h)))
    kind_few c r (t.for_loop at x a) s rest n h =
        let q = within r s.names in
        let next = after_heading c q x s in
        let o = statement_precedes needs a rest in
        let p = heading_precedes needs x (of.of_statement a rest) in
        for_few n (for_heading c q x s) (stated r a (kind_of c (looping q) a next))
        (parts_few c q x s (of.of_statement a rest) n (omega (arith, o, p, h)))
        (placed_few n r.unit (first_statement a) (kind_of c (looping q) a next)
        (kind_few c (looping q) a next rest n (omega (arith, o, p, h))))
    kind_few c r (t.break_loop at z) s rest n h = left_few n r break_loop refl
    kind_few c r (t.continue_loop at z) s rest n h = left_few n r continue_loop refl
    kind_few c r (t.return_value at x z) s rest n h = returned_few c s.names r x (of.mark z Semicolon ∷ rest) n (omega (arith, h))

    item_few : (c : Context) (r : Around) (x : t.Item) (s : Scope) (rest : List Leaf) (n : ℕ) → length (of.of_item x rest) ≤ n + length rest
        → (tail : Option PlainStmts) → FewStmts n tail → FewStmts n (item_before c r x s tail)
    item_few c r (t.declared x) s rest n h tail g = declaration_few c r x s rest n h tail g
    item_few c r (t.stated x) s rest n h tail g =
        followed_few n (stated r x (kind_of c r x s)) tail
        (placed_few n r.unit (first_statement x) (kind_of c r x s) (kind_few c r x s rest n h)) g

    all_few : (c : Context) (r : Around) (xs : t.Items) (s : Scope) (rest : List Leaf) (n : ℕ)
        → length (of.of_items xs rest) ≤ n + length rest
        → FewStmts n (items_of c r xs s)
    all_few c r t.no_items s rest n h = omega arith
    all_few c r (t.items x xs) s rest n h =
        let next = after_item c r x s in
        let a = items_precede needs xs rest in
        let b = item_precedes needs x (of.of_items xs rest) in
        item_few c r x s (of.of_items xs rest) n (omega (arith, a, b, h)) (items_of c r xs next)
        (all_few c r xs next rest n (omega (arith, a, b, h)))

  body_bounded : (a b : ℕ) (s : Option PlainStmt) → a ≤ b → FewStmt (b - a) s → IfSome s (λ s. stmt_need s + a ≤ b)
  body_bounded a b None h k = tt
  body_bounded a b (Some s) h k = omega (arith, h, k)

  pub bodies_need_their_tokens : BodiesNeedTheirTokens
  unfolding body_of
  bodies_need_their_tokens c r (t.compound l ps xs z) s rest =
      let end = of.mark z RightBrace ∷ rest in
      let a = pragmas_precede ps (of.of_items xs end) in
      let b = items_precede needs xs end in
      let whole = length (of.of_compound (t.compound l ps xs z) rest) in
      let n = whole - length rest in
      body_bounded (length rest) whole (option_map (statement r.unit l.index) (option_map block (items_of (under ps c) r xs s)))
      (omega (arith, a, b))
      (placed_few n r.unit l.index (option_map block (items_of (under ps c) r xs s))
      (block_few n (items_of (under ps c) r xs s) (all_few (under ps c) r xs s end n (omega (arith, a, b)))))
