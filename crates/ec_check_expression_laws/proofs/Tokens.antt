-- What holds of all tokens of a part and of those behind it holds of those behind it.
use Rattle.std.proofs.Common.{List, [], ◌∷◌}
use Rattle.ec_grammar.specs.declared.Qualifier.{Qualifier}
use Rattle.ec_grammar.specs.Spelling.{of_list, of_identifier, of_qualifier, of_star, of_spec, of_type_name, of_expression, of_assignment}
use Rattle.ec_grammar.specs.Spelling.{of_conditional, of_binary, of_cast, of_unary, of_postfix, of_arguments, of_further, of_primary}
use Rattle.ec_grammar.specs.Trees as t
use Rattle.ec_grammar.specs.Trees.{Leaf}
use Rattle.ec_check_expression_laws.specs.Suits.{AreHeld}

pub past_identifier : (x : t.Identifier) (rest : List Leaf) → AreHeld (of_identifier x rest) → AreHeld rest
past_identifier (t.identifier s n) rest h = h.1

past_qualifiers : (xs : List Qualifier) (rest : List Leaf) → AreHeld (of_list of_qualifier xs rest) → AreHeld rest
past_qualifiers [] rest h = h
past_qualifiers (x ∷ xs) rest h = past_qualifiers xs rest h.1

pub past_stars : (xs : List t.Star) (rest : List Leaf) → AreHeld (of_list of_star xs rest) → AreHeld rest
past_stars [] rest h = h
past_stars (t.star s qs ∷ xs) rest h = past_stars xs rest (past_qualifiers qs _ h.1)

pub past_spec : (x : t.Spec) (rest : List Leaf) → AreHeld (of_spec x rest) → AreHeld rest
past_spec (t.word_spec s w) rest h = h.1
past_spec (t.struct_spec s tag) rest h = past_identifier tag rest h.1

pub past_spec_list : (xs : List t.Spec) (rest : List Leaf) → AreHeld (of_list of_spec xs rest) → AreHeld rest
past_spec_list [] rest h = h
past_spec_list (x ∷ xs) rest h = past_spec_list xs rest (past_spec x _ h)

pub past_type_name : (x : t.TypeName) (rest : List Leaf) → AreHeld (of_type_name x rest) → AreHeld rest
past_type_name (t.type_name (t.specs first more) stars) rest h = past_stars stars rest (past_spec_list more _ (past_spec first _ h))

mutual
  pub past_expression : (x : t.Expression) (rest : List Leaf) → AreHeld (of_expression x rest) → AreHeld rest
  past_expression (t.single a) rest h = past_assignment a rest h
  past_expression (t.comma e s a) rest h = past_assignment a rest (past_expression e _ h).1

  pub past_assignment : (x : t.Assignment) (rest : List Leaf) → AreHeld (of_assignment x rest) → AreHeld rest
  past_assignment (t.value c) rest h = past_conditional c rest h
  past_assignment (t.assign u s op a) rest h = past_assignment a rest (past_unary u _ h).1

  pub past_conditional : (x : t.Conditional) (rest : List Leaf) → AreHeld (of_conditional x rest) → AreHeld rest
  past_conditional (t.plain b) rest h = past_binary b rest h
  past_conditional (t.choose b q e k c) rest h = past_conditional c rest (past_expression e _ (past_binary b _ h).1).1

  pub past_binary : (x : t.Binary) (rest : List Leaf) → AreHeld (of_binary x rest) → AreHeld rest
  past_binary (t.operand c) rest h = past_cast c rest h
  past_binary (t.join a s op b) rest h = past_binary b rest (past_binary a _ h).1

  pub past_cast : (x : t.Cast) (rest : List Leaf) → AreHeld (of_cast x rest) → AreHeld rest
  past_cast (t.uncast u) rest h = past_unary u rest h
  past_cast (t.convert l ty r c) rest h = past_cast c rest (past_type_name ty _ h.1).1

  pub past_unary : (x : t.Unary) (rest : List Leaf) → AreHeld (of_unary x rest) → AreHeld rest
  past_unary (t.postfix p) rest h = past_postfix p rest h
  past_unary (t.step s op u) rest h = past_unary u rest h.1
  past_unary (t.prefix s op c) rest h = past_cast c rest h.1
  past_unary (t.size s l ty r) rest h = (past_type_name ty _ h.1.1).1

  pub past_postfix : (x : t.Postfix) (rest : List Leaf) → AreHeld (of_postfix x rest) → AreHeld rest
  past_postfix (t.primary p) rest h = past_primary p rest h
  past_postfix (t.index p l e r) rest h = (past_expression e _ (past_postfix p _ h).1).1
  past_postfix (t.call p l a r) rest h = (past_arguments a _ (past_postfix p _ h).1).1
  past_postfix (t.member p s op n) rest h = past_identifier n rest (past_postfix p _ h).1
  past_postfix (t.stepped p s op) rest h = (past_postfix p _ h).1

  pub past_arguments : (x : t.Arguments) (rest : List Leaf) → AreHeld (of_arguments x rest) → AreHeld rest
  past_arguments t.no_arguments rest h = h
  past_arguments (t.arguments a more) rest h = past_further more rest (past_assignment a _ h)

  pub past_further : (x : t.Further) (rest : List Leaf) → AreHeld (of_further x rest) → AreHeld rest
  past_further t.no_further rest h = h
  past_further (t.further s a more) rest h = past_further more rest (past_assignment a _ h.1)

  pub past_primary : (x : t.Primary) (rest : List Leaf) → AreHeld (of_primary x rest) → AreHeld rest
  past_primary (t.name n) rest h = past_identifier n rest h
  past_primary (t.constant s k) rest h = h.1
  past_primary (t.parenthesised l e r) rest h = (past_expression e _ h.1).1
  past_primary (t.operation s op l (t.identifier at n) more r) rest h = (past_further more _ h.1.1.1).1
