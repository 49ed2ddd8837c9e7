-- The tokens of each tree, put before the tokens that follow it.
use Rattle.std.specs.Prelude.{List, [], ◌∷◌, Option, Some, None}
use Rattle.ec_grammar.specs.declared.token.WordKind.{WordKind}
use Rattle.ec_grammar.specs.declared.token.WordKind.TheVariants as words
use Rattle.ec_grammar.specs.declared.token.PunctKind.{PunctKind}
use Rattle.ec_grammar.specs.declared.token.PunctKind.TheVariants.{LeftBrace, RightBrace, LeftParenthesis}
use Rattle.ec_grammar.specs.declared.token.PunctKind.TheVariants.{RightParenthesis, LeftBracket, RightBracket}
use Rattle.ec_grammar.specs.declared.token.PunctKind.TheVariants.{Semicolon, Comma, Star, Question, Colon, Assign}
use Rattle.ec_grammar.specs.declared.Spot.{Spot}
use Rattle.ec_grammar.specs.declared.Constant.{Constant}
use Rattle.ec_grammar.specs.declared.Constant.TheVariants as constants
use Rattle.ec_grammar.specs.declared.Operation.{Operation}
use Rattle.ec_grammar.specs.declared.Operation.TheVariants as operations
use Rattle.ec_grammar.specs.declared.Pragma.{Pragma}
use Rattle.ec_grammar.specs.declared.Qualifier.{Qualifier}
use Rattle.ec_grammar.specs.Tokens as tokens
use Rattle.ec_grammar.specs.Tokens.{Lexeme}
use Rattle.ec_grammar.specs.Trees as t
use Rattle.ec_grammar.specs.Trees.{Leaf}

abbrev pub leaf : Spot → Lexeme → Leaf
leaf s x = record { spot = s; lexeme = x }

abbrev pub mark : Spot → PunctKind → Leaf
mark s p = leaf s (tokens.punct p)

abbrev pub word : Spot → WordKind → Leaf
word s w = leaf s (tokens.word w)

abbrev pub of_list : {A : Type 0} → (A → List Leaf → List Leaf) → List A → List Leaf → List Leaf
of_list of_one [] rest = rest
of_list of_one (x ∷ xs) rest = of_one x (of_list of_one xs rest)

abbrev pub of_option : {A : Type 0} → (A → List Leaf → List Leaf) → Option A → List Leaf → List Leaf
of_option of_one None rest = rest
of_option of_one (Some x) rest = of_one x rest

abbrev pub of_identifier : t.Identifier → List Leaf → List Leaf
of_identifier (t.identifier s n) rest = leaf s (tokens.name n) ∷ rest

abbrev pub lexeme_of_constant : Constant → Lexeme
lexeme_of_constant (constants.Whole value signed bytes) = tokens.whole value signed bytes
lexeme_of_constant (constants.Fixed kind n) = tokens.fixed kind n

abbrev pub lexeme_of_operation : Operation → Lexeme
lexeme_of_operation (operations.Port op) = tokens.io_name op
lexeme_of_operation (operations.Group op) = tokens.group_name op

abbrev pub of_pragma : Pragma → List Leaf → List Leaf
of_pragma p rest = leaf p.spot (tokens.pragma p.which p.state) ∷ rest

abbrev pub of_qualifier : Qualifier → List Leaf → List Leaf
of_qualifier q rest = word q.spot q.word ∷ rest

-- a pointer's star (6.7.5.1)
abbrev pub of_star : t.Star → List Leaf → List Leaf
of_star (t.star s qualifiers) rest = mark s Star ∷ of_list of_qualifier qualifiers rest

-- declaration specifiers (6.7)
abbrev pub of_spec : t.Spec → List Leaf → List Leaf
of_spec (t.word_spec s w) rest = word s w ∷ rest
of_spec (t.struct_spec s tag) rest = word s words.Struct ∷ of_identifier tag rest

abbrev pub of_specs : t.Specs → List Leaf → List Leaf
of_specs (t.specs first more) rest = of_spec first (of_list of_spec more rest)

-- type names (6.7.6)
abbrev pub of_type_name : t.TypeName → List Leaf → List Leaf
of_type_name (t.type_name sp stars) rest = of_specs sp (of_list of_star stars rest)

-- expressions (6.5)
abbrev mutual
  pub of_expression : t.Expression → List Leaf → List Leaf
  of_expression (t.single a) rest = of_assignment a rest
  of_expression (t.comma e s a) rest = of_expression e (mark s Comma ∷ of_assignment a rest)

  pub of_assignment : t.Assignment → List Leaf → List Leaf
  of_assignment (t.value c) rest = of_conditional c rest
  of_assignment (t.assign u s op a) rest = of_unary u (mark s op ∷ of_assignment a rest)

  pub of_conditional : t.Conditional → List Leaf → List Leaf
  of_conditional (t.plain b) rest = of_binary b rest
  of_conditional (t.choose b q e k c) rest =
      of_binary b (mark q Question ∷ of_expression e (mark k Colon ∷ of_conditional c rest))

  pub of_binary : t.Binary → List Leaf → List Leaf
  of_binary (t.operand c) rest = of_cast c rest
  of_binary (t.join a s op b) rest = of_binary a (mark s op ∷ of_binary b rest)

  pub of_cast : t.Cast → List Leaf → List Leaf
  of_cast (t.uncast u) rest = of_unary u rest
  of_cast (t.convert l ty r c) rest =
      mark l LeftParenthesis ∷ of_type_name ty (mark r RightParenthesis ∷ of_cast c rest)

  pub of_unary : t.Unary → List Leaf → List Leaf
  of_unary (t.postfix p) rest = of_postfix p rest
  of_unary (t.step s op u) rest = mark s op ∷ of_unary u rest
  of_unary (t.prefix s op c) rest = mark s op ∷ of_cast c rest
  of_unary (t.size s l ty r) rest =
      word s words.Sizeof ∷ mark l LeftParenthesis ∷ of_type_name ty (mark r RightParenthesis ∷ rest)

  pub of_postfix : t.Postfix → List Leaf → List Leaf
  of_postfix (t.primary p) rest = of_primary p rest
  of_postfix (t.index p l e r) rest = of_postfix p (mark l LeftBracket ∷ of_expression e (mark r RightBracket ∷ rest))
  of_postfix (t.call p l a r) rest =
      of_postfix p (mark l LeftParenthesis ∷ of_arguments a (mark r RightParenthesis ∷ rest))
  of_postfix (t.member p s op n) rest = of_postfix p (mark s op ∷ of_identifier n rest)
  of_postfix (t.stepped p s op) rest = of_postfix p (mark s op ∷ rest)

  pub of_arguments : t.Arguments → List Leaf → List Leaf
  of_arguments t.no_arguments rest = rest
  of_arguments (t.arguments a more) rest = of_assignment a (of_further more rest)

  pub of_further : t.Further → List Leaf → List Leaf
  of_further t.no_further rest = rest
  of_further (t.further s a more) rest = mark s Comma ∷ of_assignment a (of_further more rest)

  pub of_primary : t.Primary → List Leaf → List Leaf
  of_primary (t.name n) rest = of_identifier n rest
  of_primary (t.constant s k) rest = leaf s (lexeme_of_constant k) ∷ rest
  of_primary (t.parenthesised l e r) rest = mark l LeftParenthesis ∷ of_expression e (mark r RightParenthesis ∷ rest)
  of_primary (t.operation s op l n more r) rest =
      leaf s (lexeme_of_operation op) ∷ mark l LeftParenthesis
      ∷ of_identifier n (of_further more (mark r RightParenthesis ∷ rest))

-- declarators (6.7.5)
abbrev pub of_param : t.Param → List Leaf → List Leaf
of_param (t.param ty n) rest = of_type_name ty (of_option of_identifier n rest)

abbrev pub of_next_param : t.NextParam → List Leaf → List Leaf
of_next_param (t.next_param s p) rest = mark s Comma ∷ of_param p rest

abbrev pub of_params : t.Params → List Leaf → List Leaf
of_params (t.void_params s) rest = word s words.Void ∷ rest
of_params (t.params p more) rest = of_param p (of_list of_next_param more rest)

abbrev pub of_shape : t.Shape → List Leaf → List Leaf
of_shape t.object rest = rest
of_shape (t.array l c r) rest = mark l LeftBracket ∷ of_option of_conditional c (mark r RightBracket ∷ rest)
of_shape (t.function_shape l p r) rest = mark l LeftParenthesis ∷ of_params p (mark r RightParenthesis ∷ rest)

abbrev pub of_declarator : t.Declarator → List Leaf → List Leaf
of_declarator (t.declarator stars n shape) rest = of_list of_star stars (of_identifier n (of_shape shape rest))

-- initialisers (6.7.8)
abbrev pub of_comma : Spot → List Leaf → List Leaf
of_comma s rest = mark s Comma ∷ rest

abbrev mutual
  pub of_initialiser : t.Initialiser → List Leaf → List Leaf
  of_initialiser (t.initial_value a) rest = of_assignment a rest
  of_initialiser (t.braces l i more c r) rest =
      mark l LeftBrace ∷ of_initialiser i (of_initialisers more (of_option of_comma c (mark r RightBrace ∷ rest)))

  pub of_initialisers : t.Initialisers → List Leaf → List Leaf
  of_initialisers t.no_initialisers rest = rest
  of_initialisers (t.initialisers s i more) rest = mark s Comma ∷ of_initialiser i (of_initialisers more rest)

-- declarations (6.7)
abbrev pub of_start : t.Start → List Leaf → List Leaf
of_start (t.start s i) rest = mark s Assign ∷ of_initialiser i rest

abbrev pub of_init_declarator : t.InitDeclarator → List Leaf → List Leaf
of_init_declarator (t.init_declarator d i) rest = of_declarator d (of_option of_start i rest)

abbrev pub of_next_init_declarator : t.NextInitDeclarator → List Leaf → List Leaf
of_next_init_declarator (t.next_init_declarator s d) rest = mark s Comma ∷ of_init_declarator d rest

abbrev pub of_declaration : t.Declaration → List Leaf → List Leaf
of_declaration (t.declaration sp d more e) rest =
    of_specs sp (of_init_declarator d (of_list of_next_init_declarator more (mark e Semicolon ∷ rest)))

-- struct definitions (6.7.2.1)
abbrev pub of_next_declarator : t.NextDeclarator → List Leaf → List Leaf
of_next_declarator (t.next_declarator s d) rest = mark s Comma ∷ of_declarator d rest

abbrev pub of_member : t.Member → List Leaf → List Leaf
of_member (t.members sp d more e) rest =
    of_specs sp (of_declarator d (of_list of_next_declarator more (mark e Semicolon ∷ rest)))

abbrev pub of_structure : t.Structure → List Leaf → List Leaf
of_structure (t.structure s tag l m more r e) rest =
    word s words.Struct ∷ of_identifier tag
    (mark l LeftBrace ∷ of_member m (of_list of_member more (mark r RightBrace ∷ mark e Semicolon ∷ rest)))

-- objects in named registers (TR 18037, 5.2.2, in this project's form)
abbrev pub of_register_object : t.RegisterObject → List Leaf → List Leaf
of_register_object (t.register_object s register sp n e) rest =
    word s words.Register ∷ of_identifier register (of_specs sp (of_identifier n (mark e Semicolon ∷ rest)))

-- statements (6.8)
abbrev pub of_condition : t.Condition → List Leaf → List Leaf
of_condition (t.condition l e r) rest = mark l LeftParenthesis ∷ of_expression e (mark r RightParenthesis ∷ rest)

abbrev pub of_first : t.First → List Leaf → List Leaf
of_first (t.first_declared d) rest = of_declaration d rest
of_first (t.first_evaluated e s) rest = of_option of_expression e (mark s Semicolon ∷ rest)

abbrev pub of_heading : t.Heading → List Leaf → List Leaf
of_heading (t.heading l f c s e r) rest =
    mark l LeftParenthesis ∷ of_first f
    (of_option of_expression c (mark s Semicolon ∷ of_option of_expression e (mark r RightParenthesis ∷ rest)))

abbrev mutual
  pub of_compound : t.Compound → List Leaf → List Leaf
  of_compound (t.compound l pragmas b r) rest =
      mark l LeftBrace ∷ of_list of_pragma pragmas (of_items b (mark r RightBrace ∷ rest))

  pub of_items : t.Items → List Leaf → List Leaf
  of_items t.no_items rest = rest
  of_items (t.items i more) rest = of_item i (of_items more rest)

  pub of_item : t.Item → List Leaf → List Leaf
  of_item (t.declared d) rest = of_declaration d rest
  of_item (t.stated s) rest = of_statement s rest

  pub of_statement : t.Statement → List Leaf → List Leaf
  of_statement (t.block c) rest = of_compound c rest
  of_statement (t.simple e s) rest = of_option of_expression e (mark s Semicolon ∷ rest)
  of_statement (t.if_then s c b) rest = word s words.If ∷ of_condition c (of_statement b rest)
  of_statement (t.if_else s c b e o) rest =
      word s words.If ∷ of_condition c (of_statement b (word e words.Else ∷ of_statement o rest))
  of_statement (t.while_loop s c b) rest = word s words.While ∷ of_condition c (of_statement b rest)
  of_statement (t.do_loop s b w c e) rest =
      word s words.Do ∷ of_statement b (word w words.While ∷ of_condition c (mark e Semicolon ∷ rest))
  of_statement (t.for_loop s h b) rest = word s words.For ∷ of_heading h (of_statement b rest)
  of_statement (t.break_loop s e) rest = word s words.Break ∷ mark e Semicolon ∷ rest
  of_statement (t.continue_loop s e) rest = word s words.Continue ∷ mark e Semicolon ∷ rest
  of_statement (t.return_value s v e) rest = word s words.Return ∷ of_option of_expression v (mark e Semicolon ∷ rest)

-- units (6.9)
abbrev pub of_function : t.Function → List Leaf → List Leaf
of_function (t.function ty n l p r b) rest =
    of_type_name ty (of_identifier n
    (mark l LeftParenthesis ∷ of_params p (mark r RightParenthesis ∷ of_compound b rest)))

abbrev pub of_external : t.External → List Leaf → List Leaf
of_external (t.pragma_item p) rest = of_pragma p rest
of_external (t.structure_item s) rest = of_structure s rest
of_external (t.register_item r) rest = of_register_object r rest
of_external (t.declaration_item d) rest = of_declaration d rest
of_external (t.function_item f) rest = of_function f rest

abbrev pub of_tree : t.Tree → List Leaf → List Leaf
of_tree (t.tree all s) rest = of_list of_external all (leaf s tokens.end ∷ rest)
