-- Expressions by their operators alone: one node for an operator, whatever productions of the grammar lead to it
-- (ISO/IEC 9899:1999, 6.5).
use Rattle.std.specs.Prelude.{ℕ, Bool, ⊤, Option, Some, None, List}
use Rattle.ec_grammar.specs.declared.Constant.{Constant}
use Rattle.ec_grammar.specs.declared.Operation.{Operation}
use Rattle.ec_grammar.specs.declared.Operation.TheVariants as operations
use Rattle.ec_grammar.specs.declared.token.GroupOp.TheVariants as groups
use Rattle.ec_grammar.specs.declared.token.PunctKind.{PunctKind}
use Rattle.ec_grammar.specs.Trees as t
use Rattle.ec_core.specs.declared.expressions.BinOp.{BinOp}
use Rattle.ec_check_forms.specs.declared.prefixes.PrefixOp.{PrefixOp}
use Rattle.ec_check_expressions.specs.Tokens.{operator_of, is_and, compound_operator, prefix_operator, is_up, is_arrow}

-- the operations of `<iohw.h>` whose arguments behind the first one are values; those of `iogroup_map` are names
abbrev pub TakesValues : Operation → Type 0
TakesValues (operations.Port op) = ⊤
TakesValues (operations.Group groups.Acquire) = ⊤
TakesValues (operations.Group groups.Release) = ⊤
TakesValues (operations.Group groups.Map) = ⊥

mutual
  -- `at` is the index of the token at which a rule is told: a name, the word or the operator, or the `[`, the `(` of a
  -- call or a cast, or the `?`
  pub data Term : Type 0 where
    name : (at : ℕ) → List ℕ → Term
    constant : (at : ℕ) → Constant → Term
    parenthesised : (at : ℕ) → Term → Term
    -- an operation of `<iohw.h>` on what its first argument names, and the other arguments
    operation : (at : ℕ) → Operation → List ℕ → Terms → Term
    index : Term → (at : ℕ) → Term → Term
    call : Term → (at : ℕ) → Terms → Term
    -- `.` or `->`
    member : Term → (at : ℕ) → (arrow : Bool) → (name_at : ℕ) → List ℕ → Term
    -- `++` or `--` behind and before its operand
    stepped : Term → (at : ℕ) → (up : Bool) → Term
    step : (at : ℕ) → (up : Bool) → Term → Term
    prefixed : (at : ℕ) → PrefixOp → Term → Term
    size : (at : ℕ) → t.TypeName → Term
    cast : (at : ℕ) → t.TypeName → Term → Term
    binary : Term → (at : ℕ) → BinOp → Term → Term
    -- `&&` or `||`
    logical : Term → (at : ℕ) → (both : Bool) → Term → Term
    choice : Term → (at : ℕ) → Term → Term → Term
    assign : Term → (at : ℕ) → Term → Term
    compound : Term → (at : ℕ) → BinOp → Term → Term
    comma : Term → (at : ℕ) → Term → Term

  pub data Terms : Type 0 where
    no_terms : Terms
    terms : Term → Terms → Terms

-- the index of the first token
abbrev pub first : Term → ℕ
first (name at n) = at
first (constant at c) = at
first (parenthesised at x) = at
first (operation at op n ys) = at
first (index x at y) = first x
first (call x at ys) = first x
first (member x at arrow name_at n) = first x
first (stepped x at up) = first x
first (step at up x) = at
first (prefixed at op x) = at
first (size at ty) = at
first (cast at ty x) = at
first (binary x at op y) = first x
first (logical x at both y) = first x
first (choice c at x y) = first c
first (assign x at y) = first x
first (compound x at op y) = first x
first (comma x at y) = first x

-- ---- the term of a tree

-- a binary operator is one on values, or `&&` or `||`
abbrev pub joined_term : Option BinOp → PunctKind → Term → ℕ → Term → Term
joined_term (Some o) op x at y = binary x at o y
joined_term None op x at y = logical x at (is_and op) y

-- an assignment is `=`, or has an operator
abbrev pub stored_term : Option BinOp → Term → ℕ → Term → Term
stored_term (Some o) x at y = compound x at o y
stored_term None x at y = assign x at y

abbrev mutual
  pub term_of_expression : t.Expression → Term
  term_of_expression (t.single a) = term_of_assignment a
  term_of_expression (t.comma e s a) = comma (term_of_expression e) s.index (term_of_assignment a)

  pub term_of_assignment : t.Assignment → Term
  term_of_assignment (t.value c) = term_of_conditional c
  term_of_assignment (t.assign u s op a) =
      stored_term (compound_operator op) (term_of_unary u) s.index (term_of_assignment a)

  pub term_of_conditional : t.Conditional → Term
  term_of_conditional (t.plain b) = term_of_binary b
  term_of_conditional (t.choose b q e s c) =
      choice (term_of_binary b) q.index (term_of_expression e) (term_of_conditional c)

  pub term_of_binary : t.Binary → Term
  term_of_binary (t.operand c) = term_of_cast c
  term_of_binary (t.join a s op b) = joined_term (operator_of op) op (term_of_binary a) s.index (term_of_binary b)

  pub term_of_cast : t.Cast → Term
  term_of_cast (t.uncast u) = term_of_unary u
  term_of_cast (t.convert l n r c) = cast l.index n (term_of_cast c)

  pub term_of_unary : t.Unary → Term
  term_of_unary (t.postfix p) = term_of_postfix p
  term_of_unary (t.step s op u) = step s.index (is_up op) (term_of_unary u)
  term_of_unary (t.prefix s op c) = prefixed s.index (prefix_operator op) (term_of_cast c)
  term_of_unary (t.size s l n r) = size s.index n

  pub term_of_postfix : t.Postfix → Term
  term_of_postfix (t.primary p) = term_of_primary p
  term_of_postfix (t.index p l e r) = index (term_of_postfix p) l.index (term_of_expression e)
  term_of_postfix (t.call p l a r) = call (term_of_postfix p) l.index (terms_of_arguments a)
  term_of_postfix (t.member p s op (t.identifier at n)) = member (term_of_postfix p) s.index (is_arrow op) at.index n
  term_of_postfix (t.stepped p s op) = stepped (term_of_postfix p) s.index (is_up op)

  pub terms_of_arguments : t.Arguments → Terms
  terms_of_arguments t.no_arguments = no_terms
  terms_of_arguments (t.arguments a more) = terms (term_of_assignment a) (terms_of_further more)

  pub terms_of_further : t.Further → Terms
  terms_of_further t.no_further = no_terms
  terms_of_further (t.further s a more) = terms (term_of_assignment a) (terms_of_further more)

  pub term_of_primary : t.Primary → Term
  term_of_primary (t.name (t.identifier s n)) = name s.index n
  term_of_primary (t.constant s c) = constant s.index c
  term_of_primary (t.parenthesised l e r) = parenthesised l.index (term_of_expression e)
  term_of_primary (t.operation s op l (t.identifier at n) more r) = operation s.index op n (terms_of_further more)
