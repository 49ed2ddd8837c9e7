-- Statements of a function's body: what each means, the scope behind it, and the places in it where rules are judged
-- (ISO/IEC 9899:1999, 6.8).
use Rattle.std.specs.Prelude.{Option, Some, None, option_map, List, length}
use Rattle.ec_grammar.specs.Trees as t
use Rattle.ec_core.specs.Plain.{PlainStmt, statement, PlainKind, empty, evaluate, block}
use Rattle.ec_core.specs.Plain.{for_loop, break_loop, continue_loop, PlainStmts, last_stmt}
use Rattle.ec_check_names.specs.Firsts.{first_statement}
use Rattle.ec_check_names.specs.Names.{Names}
use Rattle.ec_check_operands.specs.Operands.{with_both}
use Rattle.ec_check_declarations.specs.Scopes.{Context, Scope}
use Rattle.ec_check_declarations.specs.Sites.{Site}
use Rattle.ec_check_statements.specs.Around.{Around, looping, within, ended, under}
use Rattle.ec_check_statements.specs.Kinds.{one_branch, branches, while_of, do_of, left, left_sites}
use Rattle.ec_check_statements.specs.Headings.{ForHeading, for_heading, after_heading, heading_sites}
use Rattle.ec_check_statements.specs.Locals.{after_declaration, declaration_before, declaration_sites}
use Rattle.ec_check_statements.specs.Parts.{tested, test_sites, evaluated, optional_evaluation_sites, returned, return_sites}
use Rattle.ec_check_statements.specs.Walks.{followed}

-- ---- what is made of parts, where none breaks a rule

-- a statement at its first token
abbrev pub stated : Around → t.Statement → Option PlainKind → Option PlainStmt
stated r x kind = option_map (statement r.unit (first_statement x)) kind

unfoldable pub evaluation : Context → Names → Option t.Expression → Option PlainKind
evaluation c names None = Some empty
evaluation c names (Some x) = option_map evaluate (evaluated c names x)

abbrev pub for_of : Option ForHeading → Option PlainStmt → Option PlainKind
for_of h a = with_both h a (λ h a. Some (for_loop h.first h.condition h.last a))

-- ---- the scope behind a statement

abbrev mutual
  pub after : Context → Around → t.Statement → Scope → Scope
  after c r (t.block (t.compound l ps xs e)) s =
      ended (length s.names.inside) (after_items (under ps c) (within r s.names) xs s)
  after c r (t.simple x e) s = s
  after c r (t.if_then at x a) s = after c r a s
  after c r (t.if_else at x a e b) s = after c r b (after c r a s)
  after c r (t.while_loop at x a) s = after c (looping r) a s
  after c r (t.do_loop at a w x e) s = after c (looping r) a s
  after c r (t.for_loop at h a) s =
      ended (length s.names.inside)
      (after c (looping (within r s.names)) a (after_heading c (within r s.names) h s))
  after c r (t.break_loop at e) s = s
  after c r (t.continue_loop at e) s = s
  after c r (t.return_value at x e) s = s

  pub after_item : Context → Around → t.Item → Scope → Scope
  after_item c r (t.declared d) s = after_declaration c r d s
  after_item c r (t.stated x) s = after c r x s

  pub after_items : Context → Around → t.Items → Scope → Scope
  after_items c r t.no_items s = s
  after_items c r (t.items x xs) s = after_items c r xs (after_item c r x s)

-- ---- what a statement means; None where it breaks a rule

abbrev mutual
  pub kind_of : Context → Around → t.Statement → Scope → Option PlainKind
  kind_of c r (t.block (t.compound l ps xs e)) s = option_map block (items_of (under ps c) (within r s.names) xs s)
  kind_of c r (t.simple x e) s = evaluation c s.names x
  kind_of c r (t.if_then at (t.condition l x e) a) s =
      one_branch (tested c s.names x) (stated r a (kind_of c r a s))
  kind_of c r (t.if_else at (t.condition l x e) a w b) s =
      branches (tested c s.names x) (stated r a (kind_of c r a s)) (stated r b (kind_of c r b (after c r a s)))
  kind_of c r (t.while_loop at (t.condition l x e) a) s =
      while_of (tested c s.names x) (stated r a (kind_of c (looping r) a s))
  kind_of c r (t.do_loop at a w (t.condition l x e) z) s =
      do_of (stated r a (kind_of c (looping r) a s)) (tested c (after c (looping r) a s).names x)
  kind_of c r (t.for_loop at h a) s =
      for_of (for_heading c (within r s.names) h s)
      (stated r a (kind_of c (looping (within r s.names)) a (after_heading c (within r s.names) h s)))
  kind_of c r (t.break_loop at e) s = left r break_loop
  kind_of c r (t.continue_loop at e) s = left r continue_loop
  kind_of c r (t.return_value at x e) s = returned c r s.names x

  -- an item's statements, and then others
  pub item_before : Context → Around → t.Item → Scope → Option PlainStmts → Option PlainStmts
  item_before c r (t.declared d) s rest = declaration_before c r d s rest
  item_before c r (t.stated x) s rest = followed (stated r x (kind_of c r x s)) rest

  pub items_of : Context → Around → t.Items → Scope → Option PlainStmts
  items_of c r t.no_items s = Some last_stmt
  items_of c r (t.items x xs) s = item_before c r x s (items_of c r xs (after_item c r x s))

-- ---- where rules are judged

abbrev mutual
  pub statement_sites : Context → Around → t.Statement → Scope → List Site → List Site
  statement_sites c r (t.block (t.compound l ps xs e)) s rest =
      items_sites (under ps c) (within r s.names) xs s rest
  statement_sites c r (t.simple x e) s rest = optional_evaluation_sites c s.names x rest
  statement_sites c r (t.if_then at (t.condition l x e) a) s rest =
      test_sites c s.names x at.index (statement_sites c r a s rest)
  statement_sites c r (t.if_else at (t.condition l x e) a w b) s rest =
      test_sites c s.names x at.index
      (statement_sites c r a s (statement_sites c r b (after c r a s) rest))
  statement_sites c r (t.while_loop at (t.condition l x e) a) s rest =
      test_sites c s.names x at.index (statement_sites c (looping r) a s rest)
  statement_sites c r (t.do_loop at a w (t.condition l x e) z) s rest =
      statement_sites c (looping r) a s (test_sites c (after c (looping r) a s).names x w.index rest)
  statement_sites c r (t.for_loop at h a) s rest =
      heading_sites c (within r s.names) h at.index s
      (statement_sites c (looping (within r s.names)) a (after_heading c (within r s.names) h s) rest)
  statement_sites c r (t.break_loop at e) s rest = left_sites r at.index rest
  statement_sites c r (t.continue_loop at e) s rest = left_sites r at.index rest
  statement_sites c r (t.return_value at x e) s rest = return_sites c r s.names x at.index rest

  pub item_sites : Context → Around → t.Item → Scope → List Site → List Site
  item_sites c r (t.declared d) s rest = declaration_sites c r d s rest
  item_sites c r (t.stated x) s rest = statement_sites c r x s rest

  pub items_sites : Context → Around → t.Items → Scope → List Site → List Site
  items_sites c r t.no_items s rest = rest
  items_sites c r (t.items x xs) s rest = item_sites c r x s (items_sites c r xs (after_item c r x s) rest)

-- ---- bodies

-- the body of a function, whose parameters and outermost block are one scope: it begins where there are r.first names
unfoldable pub body_of : Context → Around → t.Compound → Scope → Option PlainStmt
body_of c r (t.compound l ps xs e) s =
    option_map (statement r.unit l.index) (option_map block (items_of (under ps c) r xs s))

unfoldable pub after_body : Context → Around → t.Compound → Scope → Scope
after_body c r (t.compound l ps xs e) s = ended r.first (after_items (under ps c) r xs s)

unfoldable pub body_sites : Context → Around → t.Compound → Scope → List Site → List Site
body_sites c r (t.compound l ps xs e) s rest = items_sites (under ps c) r xs s rest
