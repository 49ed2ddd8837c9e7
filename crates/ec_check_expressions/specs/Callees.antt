-- What is called: the function whose name stands before the arguments, in parentheses or not (ISO/IEC 9899:1999,
-- 6.5.2.2).
use Rattle.std.specs.Prelude.{ℕ, Bool, false, ◌==◌, is_some, Option, Some, None, option_map}
use Rattle.std.specs.Prelude.{if◌then◌else◌, List, [], ◌∷◌, map, length}
use Rattle.ec_grammar.specs.Trees as t
use Rattle.ec_core.specs.Plain.{PlainType, plain_type, PlainExpr, PlainExprs, last_expr, next_expr}
use Rattle.ec_check_names.specs.Names.{Named, an_object, a_function, found}
use Rattle.ec_check_operands.specs.declared.operands.Modes.{Modes}
use Rattle.ec_check_forms.specs.Calls.{called}
use Rattle.ec_check_operands.specs.Operands.{Operand, with_both}
use Rattle.ec_check_forms.specs.Sites.{a_function as a_function_name, a_call}
use Rattle.ec_check_expressions.specs.declared.callees.Called as called_function
use Rattle.ec_check_expressions.specs.Known.{Known}
use Rattle.ec_check_expressions.specs.Sites.{Site, on}
pub use Rattle.ec_check_expressions.specs.Counts.{further_count, argument_count}

-- the name that an expression is, in parentheses or not
abbrev mutual
  pub name_in_expression : t.Expression → Option t.Identifier
  name_in_expression (t.single a) = name_in_assignment a
  name_in_expression (t.comma e s a) = None

  pub name_in_assignment : t.Assignment → Option t.Identifier
  name_in_assignment (t.value c) = name_in_conditional c
  name_in_assignment (t.assign u s op a) = None

  pub name_in_conditional : t.Conditional → Option t.Identifier
  name_in_conditional (t.plain b) = name_in_binary b
  name_in_conditional (t.choose b q e k c) = None

  pub name_in_binary : t.Binary → Option t.Identifier
  name_in_binary (t.operand c) = name_in_cast c
  name_in_binary (t.join a s op b) = None

  pub name_in_cast : t.Cast → Option t.Identifier
  name_in_cast (t.uncast u) = name_in_unary u
  name_in_cast (t.convert l ty r c) = None

  pub name_in_unary : t.Unary → Option t.Identifier
  name_in_unary (t.postfix p) = name_in_postfix p
  name_in_unary (t.step s op u) = None
  name_in_unary (t.prefix s op c) = None
  name_in_unary (t.size s l ty r) = None

  pub name_in_postfix : t.Postfix → Option t.Identifier
  name_in_postfix (t.primary p) = name_in_primary p
  name_in_postfix (t.index p l e r) = None
  name_in_postfix (t.call p l a r) = None
  name_in_postfix (t.member p s op n) = None
  name_in_postfix (t.stepped p s op) = None

  pub name_in_primary : t.Primary → Option t.Identifier
  name_in_primary (t.name n) = Some n
  name_in_primary (t.constant s c) = None
  name_in_primary (t.parenthesised l e r) = name_in_expression e
  name_in_primary (t.operation s op l n more r) = None

-- a function that is called by its name, which stands at a token
pub record Called : Type 0 where
  pub at : ℕ
  pub number : Option ℕ
  pub returns : Option PlainType
  pub params : Option (List PlainType)

abbrev pub plain_called : called_function.Called → Called
plain_called f =
    record {
      at = f.at;
      number = f.number;
      returns = option_map plain_type f.returns.now;
      params = option_map (λ ts. map plain_type ts.items) f.params.now;
    }

abbrev pub function_named : ℕ → Option Named → Option Called
function_named at None = None
function_named at (Some (an_object number ty konst space register)) = None
function_named at (Some (a_function number returns params)) =
    Some (record { at = at; number = number; returns = returns; params = params })

abbrev pub called_by : Known → Option t.Identifier → Option Called
called_by k None = None
called_by k (Some (t.identifier s n)) = function_named s.index (found n k.names)

-- the function that a postfix expression names
abbrev pub callee : Known → t.Postfix → Option Called
callee k p = called_by k (name_in_postfix p)

-- ---- its call

-- whether it takes so many arguments, where its parameters are known
abbrev pub takes : Option (List PlainType) → ℕ → Bool
takes None count = false
takes (Some ts) count = length ts == count

-- rule 19 at its name, and rule 22 at `(`
abbrev pub count_sites : Option (List PlainType) → (count : ℕ) → (at : ℕ) → List Site → List Site
count_sites None count at rest = rest
count_sites (Some ts) count at rest = on (a_call (length ts) count at) ∷ rest

abbrev pub called_sites : Called → (count : ℕ) → (at : ℕ) → List Site → List Site
called_sites f count at rest = on (a_function_name (is_some f.number) f.at) ∷ count_sites f.params count at rest

abbrev pub exprs_of : List PlainExpr → PlainExprs
exprs_of [] = last_expr
exprs_of (e ∷ es) = next_expr e (exprs_of es)

-- a call with as many arguments as it takes, brought to the types of the parameters
abbrev pub call_of : Modes → Called → (count : ℕ) → Option (List PlainExpr) → Option Operand
call_of m f count args =
    with_both f.number f.returns (λ n ty.
    if takes f.params count then called m n ty (option_map exprs_of args) else None)
