-- Statements that are made of their parts, where none of these breaks a rule (ISO/IEC 9899:1999, 6.8.4 to 6.8.6).
use Rattle.std.specs.Prelude.{ℕ, not, if◌then◌else◌, Option, Some, None, option_map, List, [], ◌∷◌}
use Rattle.ec_check_operands.specs.Faults.{rule}
use Rattle.ec_core.specs.Plain.{PlainExpr, PlainStmt, PlainKind, branch, while_loop, do_loop, no_stmt, a_stmt}
use Rattle.ec_check_operands.specs.Operands.{with_both}
use Rattle.ec_check_declarations.specs.Sites.{Site, on}
use Rattle.ec_check_statements.specs.Around.{Around}

abbrev pub one_branch : Option PlainExpr → Option PlainStmt → Option PlainKind
one_branch x a = with_both x a (λ x a. Some (branch x a no_stmt))

abbrev pub branches : Option PlainExpr → Option PlainStmt → Option PlainStmt → Option PlainKind
branches x a b = with_both x a (λ x a. option_map (λ b. branch x a (a_stmt b)) b)

abbrev pub while_of : Option PlainExpr → Option PlainStmt → Option PlainKind
while_of x a = with_both x a (λ x a. Some (while_loop x a))

abbrev pub do_of : Option PlainStmt → Option PlainExpr → Option PlainKind
do_of a x = with_both a x (λ a x. Some (do_loop a x))

-- `break` and `continue` stand in loops
abbrev pub left : Around → PlainKind → Option PlainKind
left r kind = if r.in_loop then Some kind else None

-- 38, at the word
abbrev pub left_sites : Around → (at : ℕ) → List Site → List Site
left_sites r at rest = on (rule 38 (not r.in_loop) at ∷ []) ∷ rest
