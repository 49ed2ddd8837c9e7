-- The parts of a `for` in its parentheses (ISO/IEC 9899:1999, 6.8.5.3).
use Rattle.std.specs.Prelude.{ℕ, Option, Some, None, option_map, List, [], ◌∷◌}
use Rattle.ec_grammar.specs.Trees as t
use Rattle.ec_core.specs.Plain.{PlainExpr, plain_expr, PlainStmt, plain_stmt, statement, evaluate, block}
use Rattle.ec_core.specs.Plain.{OptionPlainStmt, no_stmt, a_stmt, last_stmt}
use Rattle.ec_check_names.specs.Firsts.{first_specs, first_expression}
use Rattle.ec_check_names.specs.Specifiers.{specified}
use Rattle.ec_check_operands.specs.Operands.{with_both}
use Rattle.ec_check_declarations.specs.Scopes.{Context, Scope}
use Rattle.ec_check_declarations.specs.Sites.{Site}
use Rattle.ec_check_statements.specs.declared.headings.ForHeading as heading
use Rattle.ec_check_statements.specs.Around.{Around}
use Rattle.ec_check_statements.specs.Locals.{local_statement, after_declaration, declaration_before, declaration_sites}
use Rattle.ec_check_statements.specs.Parts.{evaluated, optional_test, optional_test_sites}
use Rattle.ec_check_statements.specs.Parts.{optional_evaluation, optional_evaluation_sites}

-- the first part, the condition and the last part
pub record ForHeading : Type 0 where
  pub first : OptionPlainStmt
  pub condition : Option PlainExpr
  pub last : Option PlainExpr

abbrev pub optional_stmt : Option PlainStmt → OptionPlainStmt
optional_stmt None = no_stmt
optional_stmt (Some s) = a_stmt s

abbrev pub plain_heading : heading.ForHeading → ForHeading
plain_heading h =
    record {
      first = optional_stmt (option_map (λ b. plain_stmt b.value) h.first);
      condition = option_map plain_expr h.condition;
      last = option_map plain_expr h.last;
    }

-- ---- the first part

-- the statement of an object that is declared, or a block of those of several
unfoldable pub declared_first : Context → Around → t.Declaration → Scope → Option PlainStmt
declared_first c r (t.declaration ss first [] e) s = local_statement c r (specified c.tags ss) first s
declared_first c r (t.declaration ss first (d ∷ ds) e) s =
    option_map (λ all. statement r.unit (first_specs ss) (block all))
    (declaration_before c r (t.declaration ss first (d ∷ ds) e) s (Some last_stmt))

unfoldable pub first_part : Context → Around → t.First → Scope → Option (Option PlainStmt)
first_part c r (t.first_declared d) s = option_map Some (declared_first c r d s)
first_part c r (t.first_evaluated None e) s = Some None
first_part c r (t.first_evaluated (Some x) e) s =
    option_map Some
    (option_map (λ v. statement r.unit (first_expression x) (evaluate v)) (evaluated c s.names x))

-- what it declares lives to the end of the loop
unfoldable pub after_first : Context → Around → t.First → Scope → Scope
after_first c r (t.first_declared d) s = after_declaration c r d s
after_first c r (t.first_evaluated x e) s = s

unfoldable pub first_sites : Context → Around → t.First → Scope → List Site → List Site
first_sites c r (t.first_declared d) s rest = declaration_sites c r d s rest
first_sites c r (t.first_evaluated x e) s rest = optional_evaluation_sites c s.names x rest

-- ---- all parts

abbrev pub heading_of : Option (Option PlainStmt) → Option (Option PlainExpr) → Option (Option PlainExpr)
    → Option ForHeading
heading_of first condition last =
    with_both first condition (λ a b.
    option_map (λ e. record { first = optional_stmt a; condition = b; last = e }) last)

unfoldable pub for_heading : Context → Around → t.Heading → Scope → Option ForHeading
for_heading c r (t.heading l first x semicolon y e) s =
    heading_of (first_part c r first s) (optional_test c (after_first c r first s).names x)
    (optional_evaluation c (after_first c r first s).names y)

unfoldable pub after_heading : Context → Around → t.Heading → Scope → Scope
after_heading c r (t.heading l first x semicolon y e) s = after_first c r first s

-- the rule of the condition is told at `for`
unfoldable pub heading_sites : Context → Around → t.Heading → (at : ℕ) → Scope → List Site → List Site
heading_sites c r (t.heading l first x semicolon y e) at s rest =
    first_sites c r first s
    (optional_test_sites c (after_first c r first s).names x at
    (optional_evaluation_sites c (after_first c r first s).names y rest))
