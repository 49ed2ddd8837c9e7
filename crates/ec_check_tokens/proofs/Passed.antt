-- Behind the tokens of an expression or a declaration the overflow states are those before them: their braces close again, and
-- no pragma stands in them.
use Rattle.std.proofs.Common.{List, [], ◌∷◌, subst}
use Rattle.std.specs.Prelude.{Option, Some, None}
use Rattle.ec_grammar.specs.declared.Constant.{Constant}
use Rattle.ec_grammar.specs.declared.Constant.TheVariants as constants
use Rattle.ec_grammar.specs.declared.Operation.{Operation}
use Rattle.ec_grammar.specs.declared.Operation.TheVariants as operations
use Rattle.ec_grammar.specs.declared.Pragma.{Pragma}
use Rattle.ec_grammar.specs.declared.Qualifier.{Qualifier}
use Rattle.ec_grammar.specs.declared.Spot.{Spot}
use Rattle.ec_grammar.specs.declared.token.PunctKind.{PunctKind}
use Rattle.ec_grammar.specs.declared.token.PunctKind.TheVariants.{LeftParenthesis, RightParenthesis}
use Rattle.ec_grammar.specs.Grammar as g
use Rattle.ec_grammar.specs.Spelling as s
use Rattle.ec_grammar.specs.Tokens.{Placed}
use Rattle.ec_grammar.specs.Trees as t
use Rattle.ec_grammar.specs.Trees.{Leaf}
use Rattle.ec_check_operands.specs.declared.operands.Modes.{Modes}
use Rattle.ec_check_tokens.specs.States.{behind_pragma}
use Rattle.ec_check_tokens.proofs.Reached.{Reached, past, Keeps, assigns_keep, steps_keep, prefixes_keep, accesses_keep, operators_keep}

module _ (ts : List Placed) (m : List Modes) where
  abbrev pub R : List Leaf → Type 0
  R left = Reached ts left m

  -- an operator further
  past_op : (at : Spot) (op : PunctKind) (rest : List Leaf) → Keeps op → R (s.mark at op ∷ rest) → R rest
  past_op at op rest keeps r = subst (λ (states : List Modes). Reached ts rest states) (keeps m) (past ts (s.mark at op) rest m r)

  past_constant : (at : Spot) (k : Constant) (rest : List Leaf) → R (s.leaf at (s.lexeme_of_constant k) ∷ rest) → R rest
  past_constant at (constants.Whole value signed bytes) rest r = past ts _ rest m r
  past_constant at (constants.Fixed kind n) rest r = past ts _ rest m r

  past_operation : (at : Spot) (op : Operation) (rest : List Leaf) → R (s.leaf at (s.lexeme_of_operation op) ∷ rest) → R rest
  past_operation at (operations.Port op) rest r = past ts _ rest m r
  past_operation at (operations.Group op) rest r = past ts _ rest m r

  pub past_identifier : (x : t.Identifier) (rest : List Leaf) → R (s.of_identifier x rest) → R rest
  past_identifier (t.identifier at n) rest r = past ts _ rest m r

  past_qualifiers : (xs : List Qualifier) (rest : List Leaf) → R (s.of_list s.of_qualifier xs rest) → R rest
  past_qualifiers [] rest r = r
  past_qualifiers (x ∷ xs) rest r = past_qualifiers xs rest (past ts _ _ m r)

  pub past_stars : (xs : List t.Star) (rest : List Leaf) → R (s.of_list s.of_star xs rest) → R rest
  past_stars [] rest r = r
  past_stars (t.star at qs ∷ xs) rest r = past_stars xs rest (past_qualifiers qs _ (past ts _ _ m r))

  past_spec : (x : t.Spec) (rest : List Leaf) → R (s.of_spec x rest) → R rest
  past_spec (t.word_spec at w) rest r = past ts _ rest m r
  past_spec (t.struct_spec at tag) rest r = past_identifier tag rest (past ts _ _ m r)

  past_spec_list : (xs : List t.Spec) (rest : List Leaf) → R (s.of_list s.of_spec xs rest) → R rest
  past_spec_list [] rest r = r
  past_spec_list (x ∷ xs) rest r = past_spec_list xs rest (past_spec x _ r)

  pub past_specs : (x : t.Specs) (rest : List Leaf) → R (s.of_specs x rest) → R rest
  past_specs (t.specs first more) rest r = past_spec_list more rest (past_spec first _ r)

  pub past_type_name : (x : t.TypeName) (rest : List Leaf) → R (s.of_type_name x rest) → R rest
  past_type_name (t.type_name ss stars) rest r = past_stars stars rest (past_specs ss _ r)

  -- ---- expressions

  mutual
    pub past_expression : (x : t.Expression) (rest : List Leaf) → g.Is_expression x → R (s.of_expression x rest) → R rest
    past_expression (t.single a) rest h r = past_assignment a rest h r
    past_expression (t.comma e at a) rest h r = past_assignment a rest h.1 (past ts _ _ m (past_expression e _ h.0 r))

    pub past_assignment : (x : t.Assignment) (rest : List Leaf) → g.Is_assignment x → R (s.of_assignment x rest) → R rest
    past_assignment (t.value c) rest h r = past_conditional c rest h r
    past_assignment (t.assign u at op a) rest h r =
        past_assignment a rest h.2 (past_op at op _ (assigns_keep op h.1) (past_unary u _ h.0 r))

    pub past_conditional : (x : t.Conditional) (rest : List Leaf) → g.Is_conditional x → R (s.of_conditional x rest) → R rest
    past_conditional (t.plain b) rest h r = past_binary b rest h r
    past_conditional (t.choose b q e k c) rest h r =
        past_conditional c rest h.2 (past ts _ _ m (past_expression e _ h.1 (past ts _ _ m (past_binary b _ h.0 r))))

    past_binary : (x : t.Binary) (rest : List Leaf) → g.Is_binary x → R (s.of_binary x rest) → R rest
    past_binary (t.operand c) rest h r = past_cast c rest h r
    past_binary (t.join a at op b) rest h r =
        past_binary b rest h.1 (past_op at op _ (operators_keep op (g.rank b) h.3) (past_binary a _ h.0 r))

    past_cast : (x : t.Cast) (rest : List Leaf) → g.Is_cast x → R (s.of_cast x rest) → R rest
    past_cast (t.uncast u) rest h r = past_unary u rest h r
    past_cast (t.convert l ty e c) rest h r = past_cast c rest h.1 (past ts _ _ m (past_type_name ty _ (past ts _ _ m r)))

    past_unary : (x : t.Unary) (rest : List Leaf) → g.Is_unary x → R (s.of_unary x rest) → R rest
    past_unary (t.postfix p) rest h r = past_postfix p rest h r
    past_unary (t.step at op u) rest h r = past_unary u rest h.1 (past_op at op _ (steps_keep op h.0) r)
    past_unary (t.prefix at op c) rest h r = past_cast c rest h.1 (past_op at op _ (prefixes_keep op h.0) r)
    past_unary (t.size at l ty e) rest h r = past ts _ _ m (past_type_name ty _ (past ts _ _ m (past ts _ _ m r)))

    past_postfix : (x : t.Postfix) (rest : List Leaf) → g.Is_postfix x → R (s.of_postfix x rest) → R rest
    past_postfix (t.primary p) rest h r = past_primary p rest h r
    past_postfix (t.index p l x e) rest h r =
        past ts _ _ m (past_expression x _ h.1 (past ts _ _ m (past_postfix p _ h.0 r)))
    past_postfix (t.call p l a e) rest h r =
        past ts _ _ m (past_arguments a _ h.1 (past ts _ _ m (past_postfix p _ h.0 r)))
    past_postfix (t.member p at op n) rest h r =
        past_identifier n rest (past_op at op _ (accesses_keep op h.1) (past_postfix p _ h.0 r))
    past_postfix (t.stepped p at op) rest h r = past_op at op _ (steps_keep op h.1) (past_postfix p _ h.0 r)

    past_arguments : (x : t.Arguments) (rest : List Leaf) → g.Are_arguments x → R (s.of_arguments x rest) → R rest
    past_arguments t.no_arguments rest h r = r
    past_arguments (t.arguments a more) rest h r = past_further more rest h.1 (past_assignment a _ h.0 r)

    past_further : (x : t.Further) (rest : List Leaf) → g.Are_further x → R (s.of_further x rest) → R rest
    past_further t.no_further rest h r = r
    past_further (t.further at a more) rest h r = past_further more rest h.1 (past_assignment a _ h.0 (past ts _ _ m r))

    past_primary : (x : t.Primary) (rest : List Leaf) → g.Is_primary x → R (s.of_primary x rest) → R rest
    past_primary (t.name n) rest h r = past_identifier n rest r
    past_primary (t.constant at k) rest h r = past_constant at k rest r
    past_primary (t.parenthesised l e q) rest h r = past ts _ _ m (past_expression e _ h (past ts _ _ m r))
    past_primary (t.operation at op l n more q) rest h r =
        past ts _ _ m (past_further more _ h (past_identifier n _ (past ts _ _ m (past_operation at op _ r))))

  -- ---- declarators

  past_name : (x : Option t.Identifier) (rest : List Leaf) → R (s.of_option s.of_identifier x rest) → R rest
  past_name None rest r = r
  past_name (Some n) rest r = past_identifier n rest r

  past_param : (x : t.Param) (rest : List Leaf) → R (s.of_param x rest) → R rest
  past_param (t.param ty n) rest r = past_name n rest (past_type_name ty _ r)

  past_more_params : (xs : List t.NextParam) (rest : List Leaf) → R (s.of_list s.of_next_param xs rest) → R rest
  past_more_params [] rest r = r
  past_more_params (t.next_param at p ∷ xs) rest r = past_more_params xs rest (past_param p _ (past ts _ _ m r))

  pub past_params : (x : t.Params) (rest : List Leaf) → R (s.of_params x rest) → R rest
  past_params (t.void_params at) rest r = past ts _ _ m r
  past_params (t.params p more) rest r = past_more_params more rest (past_param p _ r)

  past_size : (x : Option t.Conditional) (rest : List Leaf) → g.Given g.Is_conditional x
      → R (s.of_option s.of_conditional x rest) → R rest
  past_size None rest h r = r
  past_size (Some c) rest h r = past_conditional c rest h r

  past_shape : (x : t.Shape) (rest : List Leaf) → g.Is_shape x → R (s.of_shape x rest) → R rest
  past_shape t.object rest h r = r
  past_shape (t.array l c e) rest h r = past ts _ _ m (past_size c _ h (past ts _ _ m r))
  past_shape (t.function_shape l ps e) rest h r = past ts _ _ m (past_params ps _ (past ts _ _ m r))

  pub past_declarator : (x : t.Declarator) (rest : List Leaf) → g.Is_declarator x → R (s.of_declarator x rest) → R rest
  past_declarator (t.declarator stars n shape) rest h r =
      past_shape shape rest h.1 (past_identifier n _ (past_stars stars _ r))

-- ---- braces

module _ (ts : List Placed) where
  past_comma : (m : List Modes) (x : Option Spot) (rest : List Leaf) → Reached ts (s.of_option s.of_comma x rest) m → Reached ts rest m
  past_comma m None rest r = r
  past_comma m (Some at) rest r = past ts _ _ m r

  mutual
    -- in the braces the states are those before them
    pub past_initialiser : (m : Modes) (outer : List Modes) (x : t.Initialiser) (rest : List Leaf) → g.Is_initialiser x
        → Reached ts (s.of_initialiser x rest) (m ∷ outer) → Reached ts rest (m ∷ outer)
    past_initialiser m outer (t.initial_value a) rest h r = past_assignment ts (m ∷ outer) a rest h r
    past_initialiser m outer (t.braces l first more c e) rest h r =
        past ts _ _ (m ∷ (m ∷ outer))
        (past_comma (m ∷ (m ∷ outer)) c _
        (past_initialisers m (m ∷ outer) more _ h.1 (past_initialiser m (m ∷ outer) first _ h.0 (past ts _ _ (m ∷ outer) r))))

    pub past_initialisers : (m : Modes) (outer : List Modes) (x : t.Initialisers) (rest : List Leaf) → g.Are_initialisers x
        → Reached ts (s.of_initialisers x rest) (m ∷ outer) → Reached ts rest (m ∷ outer)
    past_initialisers m outer t.no_initialisers rest h r = r
    past_initialisers m outer (t.initialisers at i more) rest h r =
        past_initialisers m outer more rest h.1 (past_initialiser m outer i _ h.0 (past ts _ _ (m ∷ outer) r))

module _ (ts : List Placed) (m : Modes) (outer : List Modes) where
  abbrev Here : List Leaf → Type 0
  Here left = Reached ts left (m ∷ outer)

  past_start : (x : Option t.Start) (rest : List Leaf) → g.Given g.Is_start x → Here (s.of_option s.of_start x rest) → Here rest
  past_start None rest h r = r
  past_start (Some (t.start at i)) rest h r = past_initialiser ts m outer i rest h (past ts _ _ (m ∷ outer) r)

  pub past_init_declarator : (x : t.InitDeclarator) (rest : List Leaf) → g.Is_init_declarator x → Here (s.of_init_declarator x rest)
      → Here rest
  past_init_declarator (t.init_declarator d i) rest h r =
      past_start i rest h.1 (past_declarator ts (m ∷ outer) d _ h.0 r)

  pub past_init_declarators : (xs : List t.NextInitDeclarator) (rest : List Leaf) → g.Every g.Is_next_init_declarator xs
      → Here (s.of_list s.of_next_init_declarator xs rest) → Here rest
  past_init_declarators [] rest h r = r
  past_init_declarators (t.next_init_declarator at d ∷ xs) rest h r =
      past_init_declarators xs rest h.1 (past_init_declarator d _ h.0 (past ts _ _ (m ∷ outer) r))

  pub past_declaration : (x : t.Declaration) (rest : List Leaf) → g.Is_declaration x → Here (s.of_declaration x rest) → Here rest
  past_declaration (t.declaration ss first more e) rest h r =
      past ts _ _ (m ∷ outer) (past_init_declarators more _ h.2 (past_init_declarator first _ h.1 (past_specs ts (m ∷ outer) ss _ r)))

-- ---- statements

abbrev pub all_pragmas : List Pragma → Modes → Modes
all_pragmas [] m = m
all_pragmas (p ∷ ps) m = all_pragmas ps (behind_pragma p.which p.state m)

module _ (ts : List Placed) where
  pub past_pragmas : (m : Modes) (outer : List Modes) (ps : List Pragma) (rest : List Leaf)
      → Reached ts (s.of_list s.of_pragma ps rest) (m ∷ outer) → Reached ts rest (all_pragmas ps m ∷ outer)
  past_pragmas m outer [] rest r = r
  past_pragmas m outer (p ∷ ps) rest r =
      past_pragmas (behind_pragma p.which p.state m) outer ps rest (past ts _ _ (m ∷ outer) r)

  module _ (m : Modes) (outer : List Modes) where
    pub past_condition : (x : t.Condition) (rest : List Leaf) → g.Is_condition x → Reached ts (s.of_condition x rest) (m ∷ outer)
        → Reached ts rest (m ∷ outer)
    past_condition (t.condition l x e) rest h r =
        past ts _ _ (m ∷ outer) (past_expression ts (m ∷ outer) x _ h (past ts _ _ (m ∷ outer) r))

    pub past_optional : (x : Option t.Expression) (rest : List Leaf) → g.Given g.Is_expression x
        → Reached ts (s.of_option s.of_expression x rest) (m ∷ outer) → Reached ts rest (m ∷ outer)
    past_optional None rest h r = r
    past_optional (Some x) rest h r = past_expression ts (m ∷ outer) x rest h r

    pub past_first : (x : t.First) (rest : List Leaf) → g.Is_first x → Reached ts (s.of_first x rest) (m ∷ outer)
        → Reached ts rest (m ∷ outer)
    past_first (t.first_declared d) rest h r = past_declaration ts m outer d rest h r
    past_first (t.first_evaluated x e) rest h r = past ts _ _ (m ∷ outer) (past_optional x _ h r)

    pub past_heading : (x : t.Heading) (rest : List Leaf) → g.Is_heading x → Reached ts (s.of_heading x rest) (m ∷ outer)
        → Reached ts rest (m ∷ outer)
    past_heading (t.heading l first x semicolon y e) rest h r =
        past ts _ _ (m ∷ outer)
        (past_optional y _ h.2
        (past ts _ _ (m ∷ outer) (past_optional x _ h.1 (past_first first _ h.0 (past ts _ _ (m ∷ outer) r)))))

  mutual
    -- behind the brace that closes a block the states are those before the block
    pub past_compound : (m : Modes) (outer : List Modes) (x : t.Compound) (rest : List Leaf) → g.Is_compound x
        → Reached ts (s.of_compound x rest) (m ∷ outer) → Reached ts rest (m ∷ outer)
    past_compound m outer (t.compound l ps xs e) rest h r =
        past ts _ _ (all_pragmas ps m ∷ (m ∷ outer))
        (past_items (all_pragmas ps m) (m ∷ outer) xs _ h (past_pragmas m (m ∷ outer) ps _ (past ts _ _ (m ∷ outer) r)))

    pub past_items : (m : Modes) (outer : List Modes) (x : t.Items) (rest : List Leaf) → g.Are_items x
        → Reached ts (s.of_items x rest) (m ∷ outer) → Reached ts rest (m ∷ outer)
    past_items m outer t.no_items rest h r = r
    past_items m outer (t.items x xs) rest h r = past_items m outer xs rest h.1 (past_item m outer x _ h.0 r)

    pub past_item : (m : Modes) (outer : List Modes) (x : t.Item) (rest : List Leaf) → g.Is_item x
        → Reached ts (s.of_item x rest) (m ∷ outer) → Reached ts rest (m ∷ outer)
    past_item m outer (t.declared d) rest h r = past_declaration ts m outer d rest h r
    past_item m outer (t.stated x) rest h r = past_statement m outer x rest h r

    pub past_statement : (m : Modes) (outer : List Modes) (x : t.Statement) (rest : List Leaf) → g.Is_statement x
        → Reached ts (s.of_statement x rest) (m ∷ outer) → Reached ts rest (m ∷ outer)
    past_statement m outer (t.block c) rest h r = past_compound m outer c rest h r
    past_statement m outer (t.simple x e) rest h r = past ts _ _ (m ∷ outer) (past_optional m outer x _ h r)
    past_statement m outer (t.if_then at c a) rest h r =
        past_statement m outer a rest h.1 (past_condition m outer c _ h.0 (past ts _ _ (m ∷ outer) r))
    past_statement m outer (t.if_else at c a w b) rest h r =
        past_statement m outer b rest h.3
        (past ts _ _ (m ∷ outer)
        (past_statement m outer a _ h.1 (past_condition m outer c _ h.0 (past ts _ _ (m ∷ outer) r))))
    past_statement m outer (t.while_loop at c a) rest h r =
        past_statement m outer a rest h.1 (past_condition m outer c _ h.0 (past ts _ _ (m ∷ outer) r))
    past_statement m outer (t.do_loop at a w c e) rest h r =
        past ts _ _ (m ∷ outer)
        (past_condition m outer c _ h.1
        (past ts _ _ (m ∷ outer) (past_statement m outer a _ h.0 (past ts _ _ (m ∷ outer) r))))
    past_statement m outer (t.for_loop at x a) rest h r =
        past_statement m outer a rest h.1 (past_heading m outer x _ h.0 (past ts _ _ (m ∷ outer) r))
    past_statement m outer (t.break_loop at e) rest h r = past ts _ _ (m ∷ outer) (past ts _ _ (m ∷ outer) r)
    past_statement m outer (t.continue_loop at e) rest h r = past ts _ _ (m ∷ outer) (past ts _ _ (m ∷ outer) r)
    past_statement m outer (t.return_value at x e) rest h r =
        past ts _ _ (m ∷ outer) (past_optional m outer x _ h (past ts _ _ (m ∷ outer) r))

-- ---- file scope

module _ (ts : List Placed) (m : Modes) (outer : List Modes) where
  past_next_declarators : (xs : List t.NextDeclarator) (rest : List Leaf) → g.Every g.Is_next_declarator xs
      → Reached ts (s.of_list s.of_next_declarator xs rest) (m ∷ outer) → Reached ts rest (m ∷ outer)
  past_next_declarators [] rest h r = r
  past_next_declarators (t.next_declarator at d ∷ xs) rest h r =
      past_next_declarators xs rest h.1 (past_declarator ts (m ∷ outer) d _ h.0 (past ts _ _ (m ∷ outer) r))

  pub past_member : (x : t.Member) (rest : List Leaf) → g.Is_member x → Reached ts (s.of_member x rest) (m ∷ outer)
      → Reached ts rest (m ∷ outer)
  past_member (t.members ss first more e) rest h r =
      past ts _ _ (m ∷ outer)
      (past_next_declarators more _ h.2 (past_declarator ts (m ∷ outer) first _ h.1 (past_specs ts (m ∷ outer) ss _ r)))

  pub past_members : (xs : List t.Member) (rest : List Leaf) → g.Every g.Is_member xs
      → Reached ts (s.of_list s.of_member xs rest) (m ∷ outer) → Reached ts rest (m ∷ outer)
  past_members [] rest h r = r
  past_members (x ∷ xs) rest h r = past_members xs rest h.1 (past_member x _ h.0 r)

module _ (ts : List Placed) (m : Modes) where
  past_structure : (x : t.Structure) (rest : List Leaf) → g.Is_structure x → Reached ts (s.of_structure x rest) (m ∷ [])
      → Reached ts rest (m ∷ [])
  past_structure (t.structure at tag l first more e semicolon) rest h r =
      past ts _ _ (m ∷ [])
      (past ts _ _ (m ∷ (m ∷ []))
      (past_members ts m (m ∷ []) more _ h.1
      (past_member ts m (m ∷ []) first _ h.0 (past ts _ _ (m ∷ []) (past_identifier ts (m ∷ []) tag _ (past ts _ _ (m ∷ []) r))))))

  past_register : (x : t.RegisterObject) (rest : List Leaf) → Reached ts (s.of_register_object x rest) (m ∷ [])
      → Reached ts rest (m ∷ [])
  past_register (t.register_object at register ss n e) rest r =
      past ts _ _ (m ∷ [])
      (past_identifier ts (m ∷ []) n _
      (past_specs ts (m ∷ []) ss _ (past_identifier ts (m ∷ []) register _ (past ts _ _ (m ∷ []) r))))

  -- what stands before the body of a function
  pub past_function_head : (ty : t.TypeName) (n : t.Identifier) (l : Spot) (ps : t.Params) (e : Spot) (rest : List Leaf)
      → Reached ts
      (s.of_type_name ty (s.of_identifier n (s.mark l LeftParenthesis ∷ s.of_params ps (s.mark e RightParenthesis ∷ rest)))) (m ∷ [])
      → Reached ts rest (m ∷ [])
  past_function_head ty n l ps e rest r =
      past ts _ _ (m ∷ [])
      (past_params ts (m ∷ []) ps _
      (past ts _ _ (m ∷ []) (past_identifier ts (m ∷ []) n _ (past_type_name ts (m ∷ []) ty _ r))))

-- a pragma at file scope sets the states behind it
abbrev pub behind_one : t.External → Modes → Modes
behind_one (t.pragma_item p) m = behind_pragma p.which p.state m
behind_one x m = m

pub past_external : (ts : List Placed) (m : Modes) (x : t.External) (rest : List Leaf) → g.Is_external x
    → Reached ts (s.of_external x rest) (m ∷ []) → Reached ts rest (behind_one x m ∷ [])
past_external ts m (t.pragma_item p) rest h r = past ts _ rest (m ∷ []) r
past_external ts m (t.structure_item x) rest h r = past_structure ts m x rest h r
past_external ts m (t.register_item x) rest h r = past_register ts m x rest r
past_external ts m (t.declaration_item x) rest h r = past_declaration ts m [] x rest h r
past_external ts m (t.function_item (t.function ty n l ps e b)) rest h r =
    past_compound ts m [] b rest h.2 (past_function_head ts m ty n l ps e _ r)
