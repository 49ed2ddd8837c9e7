-- The form of constant expressions (ISO/IEC 9899:1999, 6.6): constants, `sizeof`, casts, unary `+ - ~ !`, binary operators
-- and `?:`, in parentheses or not. No name stands in them, and no part is a pointer: what would be one is a cast, or has
-- a cast to a pointer in it.
use Rattle.std.specs.Prelude.{Bool, true, false, not, ◌&&◌, Option, Some, None}
use Rattle.ec_grammar.specs.declared.token.PunctKind.{PunctKind}
use Rattle.ec_grammar.specs.declared.token.PunctKind.TheVariants as p
use Rattle.ec_grammar.specs.Trees as t
use Rattle.ec_check_operands.specs.Operands.{Operand, value_type}
use Rattle.ec_check_operands.specs.Sorts.{is_pointer}
use Rattle.ec_check_expressions.specs.Expressions.{of_cast}
use Rattle.ec_check_expressions.specs.Known.{Known}

-- `&` and `*` speak of objects
abbrev pub is_value_operator : PunctKind → Bool
is_value_operator p.Ampersand = false
is_value_operator p.Star = false
is_value_operator op = true

-- an operand that has a type, which is that of a pointer
abbrev pub is_pointer_operand : Option Operand → Bool
is_pointer_operand None = false
is_pointer_operand (Some x) = is_pointer (value_type x)

module _ (k : Known) where
  abbrev mutual
    pub is_constant_expression : t.Expression → Bool
    is_constant_expression (t.single a) = is_constant_assignment a
    is_constant_expression (t.comma e s a) = false

    pub is_constant_assignment : t.Assignment → Bool
    is_constant_assignment (t.value c) = is_constant_conditional c
    is_constant_assignment (t.assign u s op a) = false

    pub is_constant_conditional : t.Conditional → Bool
    is_constant_conditional (t.plain b) = is_constant_binary b
    is_constant_conditional (t.choose b q e s c) =
        is_constant_binary b && (is_constant_expression e && is_constant_conditional c)

    pub is_constant_binary : t.Binary → Bool
    is_constant_binary (t.operand c) = is_constant_cast c
    is_constant_binary (t.join a s op b) = is_constant_binary a && is_constant_binary b

    pub is_constant_cast : t.Cast → Bool
    is_constant_cast (t.uncast u) = is_constant_unary u
    is_constant_cast (t.convert l n r c) =
        is_constant_cast c && not (is_pointer_operand (of_cast k (t.convert l n r c)))

    pub is_constant_unary : t.Unary → Bool
    is_constant_unary (t.postfix p) = is_constant_postfix p
    is_constant_unary (t.step s op u) = false
    is_constant_unary (t.prefix s op c) = is_value_operator op && is_constant_cast c
    is_constant_unary (t.size s l ty r) = true

    pub is_constant_postfix : t.Postfix → Bool
    is_constant_postfix (t.primary p) = is_constant_primary p
    is_constant_postfix (t.index p l e r) = false
    is_constant_postfix (t.call p l a r) = false
    is_constant_postfix (t.member p s op n) = false
    is_constant_postfix (t.stepped p s op) = false

    pub is_constant_primary : t.Primary → Bool
    is_constant_primary (t.name n) = false
    is_constant_primary (t.constant s c) = true
    is_constant_primary (t.parenthesised l e r) = is_constant_expression e
    is_constant_primary (t.operation s op l n more r) = false
