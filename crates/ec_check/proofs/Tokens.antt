-- What holds of all tokens of a part and of those behind it, and of what is left of such tokens, holds of those behind it.
use Rattle.std.proofs.Common.{List, [], ◌∷◌}
use Rattle.std.specs.Prelude.{Option, Some, None}
use Rattle.ec_grammar.specs.declared.Pragma.{Pragma}
use Rattle.ec_grammar.specs.declared.Qualifier.{Qualifier}
use Rattle.ec_grammar.specs.declared.Spot.{Spot}
use Rattle.ec_grammar.specs.declared.token.PunctKind.TheVariants.{RightParenthesis}
use Rattle.ec_grammar.specs.Spelling.{mark, of_list, of_option, of_identifier, of_pragma, of_qualifier, of_star, of_spec, of_specs}
use Rattle.ec_grammar.specs.Spelling.{of_type_name}
use Rattle.ec_grammar.specs.Spelling.{of_expression, of_assignment, of_conditional, of_binary, of_cast, of_unary, of_postfix, of_arguments}
use Rattle.ec_grammar.specs.Spelling.{of_further, of_primary, of_param, of_next_param, of_params, of_shape, of_declarator, of_comma}
use Rattle.ec_grammar.specs.Spelling.{of_initialiser, of_initialisers, of_start, of_init_declarator, of_next_init_declarator}
use Rattle.ec_grammar.specs.Spelling.{of_declaration}
use Rattle.ec_grammar.specs.Spelling.{of_next_declarator, of_member, of_structure, of_register_object, of_condition, of_first, of_heading}
use Rattle.ec_grammar.specs.Spelling.{of_compound, of_items, of_item, of_statement, of_function, of_external}
use Rattle.ec_grammar.specs.Trees as t
use Rattle.ec_grammar.specs.Trees.{Leaf}

module _ (P : List Leaf → Type 0) (skip : (x : Leaf) (xs : List Leaf) → P (x ∷ xs) → P xs) where
  next : {x : Leaf} {xs : List Leaf} → P (x ∷ xs) → P xs
  next {x} {xs} h = skip x xs h

  pub past_identifier : (x : t.Identifier) (rest : List Leaf) → P (of_identifier x rest) → P rest
  past_identifier (t.identifier s n) rest h = next h

  past_name : (x : Option t.Identifier) (rest : List Leaf) → P (of_option of_identifier x rest) → P rest
  past_name None rest h = h
  past_name (Some n) rest h = past_identifier n rest h

  past_qualifiers : (xs : List Qualifier) (rest : List Leaf) → P (of_list of_qualifier xs rest) → P rest
  past_qualifiers [] rest h = h
  past_qualifiers (x ∷ xs) rest h = past_qualifiers xs rest (next h)

  past_stars : (xs : List t.Star) (rest : List Leaf) → P (of_list of_star xs rest) → P rest
  past_stars [] rest h = h
  past_stars (t.star s qs ∷ xs) rest h = past_stars xs rest (past_qualifiers qs _ (next h))

  past_spec : (x : t.Spec) (rest : List Leaf) → P (of_spec x rest) → P rest
  past_spec (t.word_spec s w) rest h = next h
  past_spec (t.struct_spec s tag) rest h = past_identifier tag rest (next h)

  past_spec_list : (xs : List t.Spec) (rest : List Leaf) → P (of_list of_spec xs rest) → P rest
  past_spec_list [] rest h = h
  past_spec_list (x ∷ xs) rest h = past_spec_list xs rest (past_spec x _ h)

  past_specs : (x : t.Specs) (rest : List Leaf) → P (of_specs x rest) → P rest
  past_specs (t.specs first more) rest h = past_spec_list more rest (past_spec first _ h)

  past_type_name : (x : t.TypeName) (rest : List Leaf) → P (of_type_name x rest) → P rest
  past_type_name (t.type_name ss stars) rest h = past_stars stars rest (past_specs ss _ h)

  -- ---- expressions

  mutual
    past_expression : (x : t.Expression) (rest : List Leaf) → P (of_expression x rest) → P rest
    past_expression (t.single a) rest h = past_assignment a rest h
    past_expression (t.comma e s a) rest h = past_assignment a rest (next (past_expression e _ h))

    past_assignment : (x : t.Assignment) (rest : List Leaf) → P (of_assignment x rest) → P rest
    past_assignment (t.value c) rest h = past_conditional c rest h
    past_assignment (t.assign u s op a) rest h = past_assignment a rest (next (past_unary u _ h))

    past_conditional : (x : t.Conditional) (rest : List Leaf) → P (of_conditional x rest) → P rest
    past_conditional (t.plain b) rest h = past_binary b rest h
    past_conditional (t.choose b q e k c) rest h = past_conditional c rest (next (past_expression e _ (next (past_binary b _ h))))

    past_binary : (x : t.Binary) (rest : List Leaf) → P (of_binary x rest) → P rest
    past_binary (t.operand c) rest h = past_cast c rest h
    past_binary (t.join a s op b) rest h = past_binary b rest (next (past_binary a _ h))

    past_cast : (x : t.Cast) (rest : List Leaf) → P (of_cast x rest) → P rest
    past_cast (t.uncast u) rest h = past_unary u rest h
    past_cast (t.convert l ty r c) rest h = past_cast c rest (next (past_type_name ty _ (next h)))

    past_unary : (x : t.Unary) (rest : List Leaf) → P (of_unary x rest) → P rest
    past_unary (t.postfix p) rest h = past_postfix p rest h
    past_unary (t.step s op u) rest h = past_unary u rest (next h)
    past_unary (t.prefix s op c) rest h = past_cast c rest (next h)
    past_unary (t.size s l ty r) rest h = next (past_type_name ty _ (next (next h)))

    past_postfix : (x : t.Postfix) (rest : List Leaf) → P (of_postfix x rest) → P rest
    past_postfix (t.primary p) rest h = past_primary p rest h
    past_postfix (t.index p l e r) rest h = next (past_expression e _ (next (past_postfix p _ h)))
    past_postfix (t.call p l a r) rest h = next (past_arguments a _ (next (past_postfix p _ h)))
    past_postfix (t.member p s op n) rest h = past_identifier n rest (next (past_postfix p _ h))
    past_postfix (t.stepped p s op) rest h = next (past_postfix p _ h)

    past_arguments : (x : t.Arguments) (rest : List Leaf) → P (of_arguments x rest) → P rest
    past_arguments t.no_arguments rest h = h
    past_arguments (t.arguments a more) rest h = past_further more rest (past_assignment a _ h)

    past_further : (x : t.Further) (rest : List Leaf) → P (of_further x rest) → P rest
    past_further t.no_further rest h = h
    past_further (t.further s a more) rest h = past_further more rest (past_assignment a _ (next h))

    past_primary : (x : t.Primary) (rest : List Leaf) → P (of_primary x rest) → P rest
    past_primary (t.name n) rest h = past_identifier n rest h
    past_primary (t.constant s k) rest h = next h
    past_primary (t.parenthesised l e r) rest h = next (past_expression e _ (next h))
    past_primary (t.operation s op l n more r) rest h = next (past_further more _ (past_identifier n _ (next (next h))))

  past_value : (x : Option t.Expression) (rest : List Leaf) → P (of_option of_expression x rest) → P rest
  past_value None rest h = h
  past_value (Some e) rest h = past_expression e rest h

  past_size : (x : Option t.Conditional) (rest : List Leaf) → P (of_option of_conditional x rest) → P rest
  past_size None rest h = h
  past_size (Some c) rest h = past_conditional c rest h

  -- ---- declarators

  past_param : (x : t.Param) (rest : List Leaf) → P (of_param x rest) → P rest
  past_param (t.param ty n) rest h = past_name n rest (past_type_name ty _ h)

  past_more_params : (xs : List t.NextParam) (rest : List Leaf) → P (of_list of_next_param xs rest) → P rest
  past_more_params [] rest h = h
  past_more_params (t.next_param s p ∷ xs) rest h = past_more_params xs rest (past_param p _ (next h))

  past_params : (x : t.Params) (rest : List Leaf) → P (of_params x rest) → P rest
  past_params (t.void_params s) rest h = next h
  past_params (t.params p more) rest h = past_more_params more rest (past_param p _ h)

  past_shape : (x : t.Shape) (rest : List Leaf) → P (of_shape x rest) → P rest
  past_shape t.object rest h = h
  past_shape (t.array l c r) rest h = next (past_size c _ (next h))
  past_shape (t.function_shape l ps r) rest h = next (past_params ps _ (next h))

  past_declarator : (x : t.Declarator) (rest : List Leaf) → P (of_declarator x rest) → P rest
  past_declarator (t.declarator stars n shape) rest h = past_shape shape rest (past_identifier n _ (past_stars stars _ h))

  past_comma : (x : Option Spot) (rest : List Leaf) → P (of_option of_comma x rest) → P rest
  past_comma None rest h = h
  past_comma (Some s) rest h = next h

  mutual
    past_initialiser : (x : t.Initialiser) (rest : List Leaf) → P (of_initialiser x rest) → P rest
    past_initialiser (t.initial_value a) rest h = past_assignment a rest h
    past_initialiser (t.braces l i more c r) rest h = next (past_comma c _ (past_initialisers more _ (past_initialiser i _ (next h))))

    past_initialisers : (x : t.Initialisers) (rest : List Leaf) → P (of_initialisers x rest) → P rest
    past_initialisers t.no_initialisers rest h = h
    past_initialisers (t.initialisers s i more) rest h = past_initialisers more rest (past_initialiser i _ (next h))

  past_start : (x : Option t.Start) (rest : List Leaf) → P (of_option of_start x rest) → P rest
  past_start None rest h = h
  past_start (Some (t.start s i)) rest h = past_initialiser i rest (next h)

  past_init_declarator : (x : t.InitDeclarator) (rest : List Leaf) → P (of_init_declarator x rest) → P rest
  past_init_declarator (t.init_declarator d i) rest h = past_start i rest (past_declarator d _ h)

  past_more_declarators : (xs : List t.NextInitDeclarator) (rest : List Leaf) → P (of_list of_next_init_declarator xs rest) → P rest
  past_more_declarators [] rest h = h
  past_more_declarators (t.next_init_declarator s d ∷ xs) rest h = past_more_declarators xs rest (past_init_declarator d _ (next h))

  past_declaration : (x : t.Declaration) (rest : List Leaf) → P (of_declaration x rest) → P rest
  past_declaration (t.declaration ss d more e) rest h = next (past_more_declarators more _ (past_init_declarator d _ (past_specs ss _ h)))

  -- ---- structs and registers

  past_next_declarators : (xs : List t.NextDeclarator) (rest : List Leaf) → P (of_list of_next_declarator xs rest) → P rest
  past_next_declarators [] rest h = h
  past_next_declarators (t.next_declarator s d ∷ xs) rest h = past_next_declarators xs rest (past_declarator d _ (next h))

  pub past_member : (x : t.Member) (rest : List Leaf) → P (of_member x rest) → P rest
  past_member (t.members ss d more e) rest h = next (past_next_declarators more _ (past_declarator d _ (past_specs ss _ h)))

  pub past_members : (xs : List t.Member) (rest : List Leaf) → P (of_list of_member xs rest) → P rest
  past_members [] rest h = h
  past_members (x ∷ xs) rest h = past_members xs rest (past_member x _ h)

  past_structure : (x : t.Structure) (rest : List Leaf) → P (of_structure x rest) → P rest
  past_structure (t.structure s tag l m more r e) rest h =
      next (next (past_members more _ (past_member m _ (next (past_identifier tag _ (next h))))))

  past_register : (x : t.RegisterObject) (rest : List Leaf) → P (of_register_object x rest) → P rest
  past_register (t.register_object s register ss n e) rest h =
      next (past_identifier n _ (past_specs ss _ (past_identifier register _ (next h))))

  -- ---- statements

  past_condition : (x : t.Condition) (rest : List Leaf) → P (of_condition x rest) → P rest
  past_condition (t.condition l e r) rest h = next (past_expression e _ (next h))

  past_first : (x : t.First) (rest : List Leaf) → P (of_first x rest) → P rest
  past_first (t.first_declared d) rest h = past_declaration d rest h
  past_first (t.first_evaluated e s) rest h = next (past_value e _ h)

  past_heading : (x : t.Heading) (rest : List Leaf) → P (of_heading x rest) → P rest
  past_heading (t.heading l f c s e r) rest h = next (past_value e _ (next (past_value c _ (past_first f _ (next h)))))

  past_pragmas : (xs : List Pragma) (rest : List Leaf) → P (of_list of_pragma xs rest) → P rest
  past_pragmas [] rest h = h
  past_pragmas (x ∷ xs) rest h = past_pragmas xs rest (next h)

  mutual
    past_compound : (x : t.Compound) (rest : List Leaf) → P (of_compound x rest) → P rest
    past_compound (t.compound l ps xs r) rest h = next (past_items xs _ (past_pragmas ps _ (next h)))

    past_items : (x : t.Items) (rest : List Leaf) → P (of_items x rest) → P rest
    past_items t.no_items rest h = h
    past_items (t.items x xs) rest h = past_items xs rest (past_item x _ h)

    past_item : (x : t.Item) (rest : List Leaf) → P (of_item x rest) → P rest
    past_item (t.declared d) rest h = past_declaration d rest h
    past_item (t.stated s) rest h = past_statement s rest h

    past_statement : (x : t.Statement) (rest : List Leaf) → P (of_statement x rest) → P rest
    past_statement (t.block c) rest h = past_compound c rest h
    past_statement (t.simple e s) rest h = next (past_value e _ h)
    past_statement (t.if_then s c a) rest h = past_statement a rest (past_condition c _ (next h))
    past_statement (t.if_else s c a e b) rest h = past_statement b rest (next (past_statement a _ (past_condition c _ (next h))))
    past_statement (t.while_loop s c a) rest h = past_statement a rest (past_condition c _ (next h))
    past_statement (t.do_loop s a w c e) rest h = next (past_condition c _ (next (past_statement a _ (next h))))
    past_statement (t.for_loop s x a) rest h = past_statement a rest (past_heading x _ (next h))
    past_statement (t.break_loop s e) rest h = next (next h)
    past_statement (t.continue_loop s e) rest h = next (next h)
    past_statement (t.return_value s v e) rest h = next (past_value v _ (next h))

  -- ---- external declarations

  -- the body of a function, with the token before it
  pub before_body : (ty : t.TypeName) (n : t.Identifier) (l r : Spot) (ps : t.Params) (b : t.Compound) (rest : List Leaf)
      → P (of_function (t.function ty n l ps r b) rest) → P (mark r RightParenthesis ∷ of_compound b rest)
  before_body ty n l r ps b rest h = past_params ps _ (next (past_identifier n _ (past_type_name ty _ h)))

  pub past_external : (x : t.External) (rest : List Leaf) → P (of_external x rest) → P rest
  past_external (t.pragma_item p) rest h = next h
  past_external (t.structure_item s) rest h = past_structure s rest h
  past_external (t.register_item d) rest h = past_register d rest h
  past_external (t.declaration_item d) rest h = past_declaration d rest h
  past_external (t.function_item (t.function ty n l ps r b)) rest h = past_compound b rest (next (before_body ty n l r ps b rest h))
