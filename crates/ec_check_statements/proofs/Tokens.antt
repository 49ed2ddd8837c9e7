-- What holds of all tokens of a declarator and of those behind it holds of those behind it.
use Rattle.std.proofs.Common.{List, [], ◌∷◌}
use Rattle.std.specs.Prelude.{Option, Some, None}
use Rattle.ec_grammar.specs.declared.Pragma.{Pragma}
use Rattle.ec_grammar.specs.Spelling.{of_list, of_option, of_identifier, of_pragma, of_specs, of_type_name, of_conditional, of_param}
use Rattle.ec_grammar.specs.Spelling.{of_next_param, of_params, of_shape, of_declarator}
use Rattle.ec_grammar.specs.Trees as t
use Rattle.ec_grammar.specs.Trees.{Leaf}
use Rattle.ec_check_expression_laws.specs.Suits.{AreHeld}
use Rattle.ec_check_expression_laws.proofs.Tokens.{past_identifier, past_stars, past_spec, past_spec_list}

past_name : (x : Option t.Identifier) (rest : List Leaf) → AreHeld (of_option of_identifier x rest) → AreHeld rest
past_name None rest h = h
past_name (Some n) rest h = past_identifier n rest h

pub past_specs : (x : t.Specs) (rest : List Leaf) → AreHeld (of_specs x rest) → AreHeld rest
past_specs (t.specs first more) rest h = past_spec_list more rest (past_spec first _ h)

past_type_name : (x : t.TypeName) (rest : List Leaf) → AreHeld (of_type_name x rest) → AreHeld rest
past_type_name (t.type_name ss stars) rest h = past_stars stars rest (past_specs ss _ h)

past_param : (x : t.Param) (rest : List Leaf) → AreHeld (of_param x rest) → AreHeld rest
past_param (t.param ty n) rest h = past_name n rest (past_type_name ty _ h)

past_more_params : (xs : List t.NextParam) (rest : List Leaf) → AreHeld (of_list of_next_param xs rest) → AreHeld rest
past_more_params [] rest h = h
past_more_params (t.next_param s p ∷ xs) rest h = past_more_params xs rest (past_param p _ h.1)

past_params : (x : t.Params) (rest : List Leaf) → AreHeld (of_params x rest) → AreHeld rest
past_params (t.void_params s) rest h = h.1
past_params (t.params p more) rest h = past_more_params more rest (past_param p _ h)

pub past_pragmas : (xs : List Pragma) (rest : List Leaf) → AreHeld (of_list of_pragma xs rest) → AreHeld rest
past_pragmas [] rest h = h
past_pragmas (x ∷ xs) rest h = past_pragmas xs rest h.1

module _ (past_conditional : (x : t.Conditional) (rest : List Leaf) → AreHeld (of_conditional x rest) → AreHeld rest) where
  past_size : (x : Option t.Conditional) (rest : List Leaf) → AreHeld (of_option of_conditional x rest) → AreHeld rest
  past_size None rest h = h
  past_size (Some c) rest h = past_conditional c rest h

  past_shape : (x : t.Shape) (rest : List Leaf) → AreHeld (of_shape x rest) → AreHeld rest
  past_shape t.object rest h = h
  past_shape (t.array l c r) rest h = (past_size c _ h.1).1
  past_shape (t.function_shape l ps r) rest h = (past_params ps _ h.1).1

  pub past_declarator : (x : t.Declarator) (rest : List Leaf) → AreHeld (of_declarator x rest) → AreHeld rest
  past_declarator (t.declarator stars n shape) rest h = past_shape shape rest (past_identifier n _ (past_stars stars _ h))
