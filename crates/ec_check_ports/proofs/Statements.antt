-- Statements by two tables whose ports have the same names.
use Rattle.std.specs.Prelude.{Option, Some, None, option_map, List, [], ◌∷◌, length}
use Rattle.ec_core.specs.Plain.{return_value, PlainType, statement, declare, PlainStmts, local, evaluate, block, last_stmt}
use Rattle.ec_check_names.specs.Firsts.{first_expression, first_specs}
use Rattle.ec_check_names.specs.Names.{Names}
use Rattle.ec_check_operands.specs.Operands.{as_value, with_both}
use Rattle.ec_check_operands.specs.Passing.{passed}
use Rattle.ec_check_forms.specs.Nodes.{used, used_part, condition}
use Rattle.ec_check_declarations.specs.Scopes.{Context, known_in, Scope, made_number, with_inner}
use Rattle.ec_check_statements.specs.Around.{Around, looping, within, ended, under}
use Rattle.ec_check_statements.specs.Results.{returned_type}
use Rattle.ec_check_statements.specs.Parts.{tested, optional_test, evaluated, optional_evaluation, returned}
use Rattle.ec_check_names.specs.declared.specifiers.Specified.{Specified}
use Rattle.ec_check_names.specs.Specifiers.{specified}
use Rattle.ec_check_expressions.specs.Callees.{exprs_of}
use Rattle.ec_check_statements.specs.Walks.{followed}
use Rattle.ec_check_statements.specs.Locals.{first_declarator, local_declared, with_local, initial_values, local_made, started}
use Rattle.ec_check_statements.specs.Locals.{local_statement, with_locals, locals_before, after_declaration, declaration_before}
use Rattle.ec_check_statements.specs.Locals.{LocalObject}
use Rattle.ec_check_statements.specs.Headings.{declared_first, first_part, after_first, heading_of, for_heading, after_heading}
use Rattle.ec_check_statements.specs.Kinds.{one_branch, branches, while_of, do_of}
use Rattle.ec_check_statements.specs.Statements.{stated, evaluation, for_of, after, after_item, after_items, kind_of, item_before}
use Rattle.ec_check_statements.specs.Statements.{items_of, body_of, after_body}
use Rattle.std.proofs.Common.{◌≡◌, refl}
use Rattle.ec_iohw.specs.declared.table.IoTable.{IoTable}
use Rattle.ec_check_ports.specs.Ports.{LookAlike}
use Rattle.ec_check_ports.proofs.Tables.{context_by}
use Rattle.ec_check_ports.proofs.Expressions.{of_expression_same}
use Rattle.ec_check_ports.proofs.Initialisers.{leaf_values_same}
use Rattle.ec_check_ports.proofs.Declarations.{object_declared_same}
use Rattle.ec_grammar.specs.Trees as t

module _ (here there : IoTable) (same : LookAlike here there) where
  pub tested_same : (c : Context) (names : Names) (x : t.Expression)
      → tested (context_by here c) names x ≡ tested (context_by there c) names x
  unfolding tested
  tested_same c names x = λ j. condition c.modes (used (of_expression_same here there same (known_in c names) x j))

  pub optional_test_same : (c : Context) (names : Names) (expression : Option t.Expression)
      → optional_test (context_by here c) names expression ≡ optional_test (context_by there c) names expression
  unfolding optional_test
  optional_test_same c names None = refl
  optional_test_same c names (Some x) = λ j. option_map Some (tested_same c names x j)

  pub evaluated_same : (c : Context) (names : Names) (x : t.Expression)
      → evaluated (context_by here c) names x ≡ evaluated (context_by there c) names x
  unfolding evaluated
  evaluated_same c names x = λ j. option_map (as_value c.modes) (used_part (of_expression_same here there same (known_in c names) x j))

  pub optional_evaluation_same : (c : Context) (names : Names) (expression : Option t.Expression)
      → optional_evaluation (context_by here c) names expression ≡ optional_evaluation (context_by there c) names expression
  unfolding optional_evaluation
  optional_evaluation_same c names None = refl
  optional_evaluation_same c names (Some x) = λ j. option_map Some (evaluated_same c names x j)

  pub returned_same : (c : Context) (r : Around) (names : Names) (expression : Option t.Expression)
      → returned (context_by here c) r names expression ≡ returned (context_by there c) r names expression
  unfolding returned
  returned_same c r names None = refl
  returned_same c r names (Some x) =
      λ j. option_map (λ e. return_value (Some e)) (passed c.modes (returned_type r.result) (of_expression_same here there same (known_in
      c names) x j))

  pub local_declared_same : (c : Context) (names : Names) (said : Specified) (initdeclarator : t.InitDeclarator)
      → local_declared (context_by here c) names said initdeclarator ≡ local_declared (context_by there c) names said initdeclarator
  unfolding local_declared
  local_declared_same c names said (t.init_declarator d start) =
      λ j. object_declared_same here there same (known_in c names) said d start j

  pub with_local_same : (c : Context) (r : Around) (said : Specified) (initdeclarator : t.InitDeclarator) (s : Scope)
      → with_local (context_by here c) r said initdeclarator s ≡ with_local (context_by there c) r said initdeclarator s
  unfolding with_local
  with_local_same c r said (t.init_declarator (t.declarator stars (t.identifier at n) shape) start) s =
      λ j. with_inner r.unit n (local_declared_same c s.names said (t.init_declarator (t.declarator stars (t.identifier at n) shape)
      start) j).ty (local_declared_same c s.names said (t.init_declarator (t.declarator stars (t.identifier at n) shape) start)
      j).konst (local r.function) s

  pub initial_values_same : (c : Context) (names : Names) (start : Option t.Start) (ty : Option PlainType)
      → initial_values (context_by here c) names start ty ≡ initial_values (context_by there c) names start ty
  unfolding initial_values
  initial_values_same c names None ty = refl
  initial_values_same c names (Some (t.start equals i)) ty =
      λ j. option_map exprs_of (leaf_values_same here there same (known_in c names) i ty j)

  pub local_made_same : (c : Context) (said : Specified) (d : t.InitDeclarator) (s : Scope)
      → local_made (context_by here c) said d s ≡ local_made (context_by there c) said d s
  unfolding local_made
  local_made_same c said d s =
      λ j. record {
        ty = (local_declared_same c s.names said d j).ty;
        number = made_number (local_declared_same c s.names said d j).ty
            s.objects;
      }

  pub started_same : (c : Context) (r : Around) (initdeclarator : t.InitDeclarator) (o : LocalObject) (names : Names)
      → started (context_by here c) r initdeclarator o names ≡ started (context_by there c) r initdeclarator o names
  unfolding started
  started_same c r (t.init_declarator d start) o names =
      λ j. with_both o.number (initial_values_same c names start o.ty j) (λ n values. Some (statement r.unit (first_declarator d) (declare
      n values)))

  pub local_statement_same : (c : Context) (r : Around) (said : Specified) (d : t.InitDeclarator) (s : Scope)
      → local_statement (context_by here c) r said d s ≡ local_statement (context_by there c) r said d s
  unfolding local_statement
  local_statement_same c r said d s = λ j. started_same c r d (local_made_same c said d s j) (with_local_same c r said d s j).names j

  pub with_locals_same : (c : Context) (r : Around) (said : Specified) (nextinitdeclarators : List t.NextInitDeclarator) (s : Scope)
      → with_locals (context_by here c) r said nextinitdeclarators s ≡ with_locals (context_by there c) r said nextinitdeclarators s
  with_locals_same c r said [] s = refl
  with_locals_same c r said (t.next_init_declarator comma d ∷ ds) s = λ j. with_locals_same c r said ds (with_local_same c r said d s j) j

  pub locals_before_same : (c : Context) (r : Around) (said : Specified) (nextinitdeclarators : List t.NextInitDeclarator) (s : Scope)
      (rest : Option PlainStmts)
      → locals_before (context_by here c) r said nextinitdeclarators s rest
      ≡ locals_before (context_by there c) r said nextinitdeclarators s rest
  locals_before_same c r said [] s rest = refl
  locals_before_same c r said (t.next_init_declarator comma d ∷ ds) s rest =
      λ j. followed (local_statement_same c r said d s j) (locals_before_same c r said ds (with_local_same c r said d s j) rest j)

  pub after_declaration_same : (c : Context) (r : Around) (declaration : t.Declaration) (s : Scope)
      → after_declaration (context_by here c) r declaration s ≡ after_declaration (context_by there c) r declaration s
  unfolding after_declaration
  after_declaration_same c r (t.declaration ss first more e) s =
      λ j. with_locals_same c r (specified c.tags ss) more (with_local_same c r (specified c.tags ss) first s j) j

  pub declaration_before_same : (c : Context) (r : Around) (declaration : t.Declaration) (s : Scope) (rest : Option PlainStmts)
      → declaration_before (context_by here c) r declaration s rest ≡ declaration_before (context_by there c) r declaration s rest
  unfolding declaration_before
  declaration_before_same c r (t.declaration ss first more e) s rest =
      λ j. followed (local_statement_same c r (specified c.tags ss) first s j) (locals_before_same c r (specified c.tags ss) more
      (with_local_same c r (specified c.tags ss) first s j) rest j)

  pub declared_first_same : (c : Context) (r : Around) (declaration : t.Declaration) (s : Scope)
      → declared_first (context_by here c) r declaration s ≡ declared_first (context_by there c) r declaration s
  unfolding declared_first
  declared_first_same c r (t.declaration ss first [] e) s = λ j. local_statement_same c r (specified c.tags ss) first s j
  declared_first_same c r (t.declaration ss first (d ∷ ds) e) s =
      λ j. option_map (λ all. statement r.unit (first_specs ss) (block all)) (declaration_before_same c r (t.declaration ss first (d ∷ ds)
      e) s (Some last_stmt) j)

  pub first_part_same : (c : Context) (r : Around) (first : t.First) (s : Scope)
      → first_part (context_by here c) r first s ≡ first_part (context_by there c) r first s
  unfolding first_part
  first_part_same c r (t.first_declared d) s = λ j. option_map Some (declared_first_same c r d s j)
  first_part_same c r (t.first_evaluated None e) s = refl
  first_part_same c r (t.first_evaluated (Some x) e) s =
      λ j. option_map Some (option_map (λ v. statement r.unit (first_expression x) (evaluate v)) (evaluated_same c s.names x j))

  pub after_first_same : (c : Context) (r : Around) (first : t.First) (s : Scope)
      → after_first (context_by here c) r first s ≡ after_first (context_by there c) r first s
  unfolding after_first
  after_first_same c r (t.first_declared d) s = λ j. after_declaration_same c r d s j
  after_first_same c r (t.first_evaluated x e) s = refl

  pub for_heading_same : (c : Context) (r : Around) (heading : t.Heading) (s : Scope)
      → for_heading (context_by here c) r heading s ≡ for_heading (context_by there c) r heading s
  unfolding for_heading
  for_heading_same c r (t.heading l first x semicolon y e) s =
      λ j. heading_of (first_part_same c r first s j) (optional_test_same c (after_first_same c r first s j).names x j)
      (optional_evaluation_same c (after_first_same c r first s j).names y j)

  pub after_heading_same : (c : Context) (r : Around) (heading : t.Heading) (s : Scope)
      → after_heading (context_by here c) r heading s ≡ after_heading (context_by there c) r heading s
  unfolding after_heading
  after_heading_same c r (t.heading l first x semicolon y e) s = λ j. after_first_same c r first s j

  pub evaluation_same : (c : Context) (names : Names) (expression : Option t.Expression)
      → evaluation (context_by here c) names expression ≡ evaluation (context_by there c) names expression
  unfolding evaluation
  evaluation_same c names None = refl
  evaluation_same c names (Some x) = λ j. option_map evaluate (evaluated_same c names x j)

  mutual
    pub after_same : (c : Context) (r : Around) (statement : t.Statement) (s : Scope)
        → after (context_by here c) r statement s ≡ after (context_by there c) r statement s
    after_same c r (t.block (t.compound l ps xs e)) s =
        λ j. ended (length s.names.inside) (after_items_same (under ps c) (within r s.names) xs s j)
    after_same c r (t.simple x e) s = refl
    after_same c r (t.if_then at x a) s = λ j. after_same c r a s j
    after_same c r (t.if_else at x a e b) s = λ j. after_same c r b (after_same c r a s j) j
    after_same c r (t.while_loop at x a) s = λ j. after_same c (looping r) a s j
    after_same c r (t.do_loop at a w x e) s = λ j. after_same c (looping r) a s j
    after_same c r (t.for_loop at h a) s =
        λ j. ended (length s.names.inside) (after_same c (looping (within r s.names)) a (after_heading_same c (within r s.names) h s j) j)
    after_same c r (t.break_loop at e) s = refl
    after_same c r (t.continue_loop at e) s = refl
    after_same c r (t.return_value at x e) s = refl

    pub after_item_same : (c : Context) (r : Around) (item : t.Item) (s : Scope)
        → after_item (context_by here c) r item s ≡ after_item (context_by there c) r item s
    after_item_same c r (t.declared d) s = λ j. after_declaration_same c r d s j
    after_item_same c r (t.stated x) s = λ j. after_same c r x s j

    pub after_items_same : (c : Context) (r : Around) (items : t.Items) (s : Scope)
        → after_items (context_by here c) r items s ≡ after_items (context_by there c) r items s
    after_items_same c r t.no_items s = refl
    after_items_same c r (t.items x xs) s = λ j. after_items_same c r xs (after_item_same c r x s j) j

  mutual
    pub kind_of_same : (c : Context) (r : Around) (statement : t.Statement) (s : Scope)
        → kind_of (context_by here c) r statement s ≡ kind_of (context_by there c) r statement s
    kind_of_same c r (t.block (t.compound l ps xs e)) s = λ j. option_map block (items_of_same (under ps c) (within r s.names) xs s j)
    kind_of_same c r (t.simple x e) s = λ j. evaluation_same c s.names x j
    kind_of_same c r (t.if_then at (t.condition l x e) a) s =
        λ j. one_branch (tested_same c s.names x j) (stated r a (kind_of_same c r a s j))
    kind_of_same c r (t.if_else at (t.condition l x e) a w b) s =
        λ j. branches (tested_same c s.names x j) (stated r a (kind_of_same c r a s j)) (stated r b (kind_of_same c r b (after_same c r a
        s j) j))
    kind_of_same c r (t.while_loop at (t.condition l x e) a) s =
        λ j. while_of (tested_same c s.names x j) (stated r a (kind_of_same c (looping r) a s j))
    kind_of_same c r (t.do_loop at a w (t.condition l x e) z) s =
        λ j. do_of (stated r a (kind_of_same c (looping r) a s j)) (tested_same c (after_same c (looping r) a s j).names x j)
    kind_of_same c r (t.for_loop at h a) s =
        λ j. for_of (for_heading_same c (within r s.names) h s j) (stated r a (kind_of_same c (looping (within r s.names)) a
        (after_heading_same c (within r s.names) h s j) j))
    kind_of_same c r (t.break_loop at e) s = refl
    kind_of_same c r (t.continue_loop at e) s = refl
    kind_of_same c r (t.return_value at x e) s = λ j. returned_same c r s.names x j

    pub item_before_same : (c : Context) (r : Around) (item : t.Item) (s : Scope) (rest : Option PlainStmts)
        → item_before (context_by here c) r item s rest ≡ item_before (context_by there c) r item s rest
    item_before_same c r (t.declared d) s rest = λ j. declaration_before_same c r d s rest j
    item_before_same c r (t.stated x) s rest = λ j. followed (stated r x (kind_of_same c r x s j)) rest

    pub items_of_same : (c : Context) (r : Around) (items : t.Items) (s : Scope)
        → items_of (context_by here c) r items s ≡ items_of (context_by there c) r items s
    items_of_same c r t.no_items s = refl
    items_of_same c r (t.items x xs) s = λ j. item_before_same c r x s (items_of_same c r xs (after_item_same c r x s j) j) j

  pub body_of_same : (c : Context) (r : Around) (compound : t.Compound) (s : Scope)
      → body_of (context_by here c) r compound s ≡ body_of (context_by there c) r compound s
  unfolding body_of
  body_of_same c r (t.compound l ps xs e) s =
      λ j. option_map (statement r.unit l.index) (option_map block (items_of_same (under ps c) r xs s j))

  pub after_body_same : (c : Context) (r : Around) (compound : t.Compound) (s : Scope)
      → after_body (context_by here c) r compound s ≡ after_body (context_by there c) r compound s
  unfolding after_body
  after_body_same c r (t.compound l ps xs e) s = λ j. ended r.first (after_items_same (under ps c) r xs s j)
