-- Parts of expressions, as the functions that read them see them.
use Rattle.std.specs.Prelude.{ℕ, suc, max, ◌≡◌, List, length, Some, None, Result, Ok, Err}
use Rattle.ec_grammar.specs.declared.token.PunctKind.TheVariants.{RightParenthesis, RightBracket}
use Rattle.ec_grammar.specs.declared.Spot.{Spot}
use Rattle.ec_grammar.specs.declared.Operation.{Operation}
use Rattle.ec_grammar.specs.declared.Argument.{Argument}
use Rattle.ec_grammar.specs.declared.Unary.{Unary}
use Rattle.ec_grammar.specs.declared.Conditional.{Conditional}
use Rattle.ec_grammar.specs.Nesting.{height_further, height_expression, height_postfix, height_arguments}
use Rattle.ec_grammar.specs.Trees as t
use Rattle.ec_grammar.specs.Trees.{Leaf}
use Rattle.ec_grammar.specs.Views.{view_assignment, view_unary, view_conditional}
use Rattle.ec_parse_laws.specs.Reading.{Read, ◌>>=◌, when, leaf_if, name_of, constant_of, syntax, expected, ends, unary_of}

-- an argument behind its comma
abbrev pub view_argument : Argument → Spot × t.Assignment
view_argument a = (a.comma, view_assignment a.value)

-- what ends an operation, behind its arguments
abbrev pub operation_after : ℕ → Spot → Operation → Spot → t.Identifier → t.Further → List Leaf → Read t.Primary
operation_after room s op l n more ts =
    expected RightParenthesis ts >>= λ r. ends room (suc (height_further more)) (t.operation s op l n more r.0) r.1

-- what ends an expression in parentheses
abbrev pub parenthesised_after : ℕ → Spot → t.Expression → List Leaf → Read t.Primary
parenthesised_after room l e ts =
    expected RightParenthesis ts >>= λ r. ends room (suc (height_expression e)) (t.parenthesised l e r.0) r.1

-- a constant or a name
abbrev pub atom_by : ℕ → List Leaf → Read t.Primary
atom_by room ts = when (leaf_if constant_of ts) (λ k. ends room 1 (t.constant k.0 k.1) k.2)
    (when (leaf_if name_of ts) (λ x. ends room 1 (t.name (t.identifier x.0 x.1)) x.2) (Err (syntax (length ts))))

-- what ends a subscript, behind its expression
abbrev pub index_after : ℕ → t.Postfix → Spot → t.Expression → List Leaf → Read t.Postfix
index_after room p l e ts =
    expected RightBracket ts >>= λ r.
    ends room (suc (max (height_postfix p) (height_expression e))) (t.index p l e r.0) r.1

-- what ends a call, behind its arguments
abbrev pub call_after : ℕ → t.Postfix → Spot → t.Arguments → List Leaf → Read t.Postfix
call_after room p l a ts =
    expected RightParenthesis ts >>= λ r.
    ends room (suc (max (height_postfix p) (height_arguments a))) (t.call p l a r.0) r.1

-- a unary expression that stands alone, or the whole again
abbrev pub Parts : t.Conditional → Result Unary Conditional → Type 0
Parts c (Ok u) = unary_of c ≡ Some (view_unary u)
Parts c (Err d) = (unary_of c ≡ None) × (c ≡ view_conditional d)
