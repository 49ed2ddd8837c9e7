-- What is known where a part stands in a function has the states that the tokens before it say.
use Rattle.std.proofs.Common.{◌≡◌, ℕ, List, [], ◌∷◌, refl, sym, ap, subst, inl, inr}
use Rattle.std.specs.Prelude.{Option, Some, None}
use Rattle.ec_grammar.specs.declared.Pragma.{Pragma}
use Rattle.ec_grammar.specs.declared.Spot.{Spot}
use Rattle.ec_grammar.specs.declared.token.PunctKind.TheVariants.{LeftBrace}
use Rattle.ec_grammar.specs.declared.token.PragmaKind.{PragmaKind}
use Rattle.ec_grammar.specs.declared.token.PragmaKind.TheVariants.{Precision, Fract, Accum}
use Rattle.ec_grammar.specs.declared.token.PragmaState.{PragmaState}
use Rattle.ec_grammar.specs.declared.token.PragmaState.TheVariants.{Sat}
use Rattle.ec_grammar.specs.Grammar as g
use Rattle.ec_grammar.specs.Spelling as s
use Rattle.ec_grammar.specs.Tokens.{Placed}
use Rattle.ec_grammar.specs.Trees as t
use Rattle.ec_grammar.specs.Trees.{Leaf}
use Rattle.ec_core.specs.Plain.{PlainType}
use Rattle.ec_check_operands.specs.declared.operands.Modes.{Modes}
use Rattle.ec_check_names.specs.Firsts.{first_expression}
use Rattle.ec_check_names.specs.Names.{Names}
use Rattle.ec_check_expressions.specs.Known.{Known}
use Rattle.ec_check_declarations.specs.Scopes.{Context, known_in}
use Rattle.ec_check_statements.specs.Around.{under, is_saturating, with_state, with_pragmas}
use Rattle.ec_check_parts.specs.Readings.{walked}
use Rattle.ec_check_parts.specs.Parts.{Part, condition, returned}
use Rattle.ec_check_parts.specs.Places as place
use Rattle.ec_check_parts.specs.Places.{Inside, Surroundings}
use Rattle.ec_check_tokens.specs.States.{saturates, behind_pragma}
use Rattle.ec_check_tokens.specs.Parts.{KnowsStates, InInitialiser, InInitialisers, InShape, PartKnowsStates}
use Rattle.ec_check_tokens.proofs.Reached.{Reached, past, state_there}
use Rattle.ec_check_tokens.proofs.Passed as passed
use Rattle.ec_check_tokens.proofs.Passed.{all_pragmas}
use Rattle.ec_check_tokens.proofs.FirstTokens.{expression_begins, assignment_begins, conditional_begins}

-- ---- pragmas

saturates_is : (state : PragmaState) → saturates state ≡ is_saturating state
saturates_is Sat = refl
saturates_is state = refl

pub pragma_is : (which : PragmaKind) (state : PragmaState) (m : Modes)
    → behind_pragma which state m ≡ with_state which (is_saturating state) m
pragma_is Precision state m = refl
pragma_is Fract state m = ap (λ b. with_state Fract b m) (saturates_is state)
pragma_is Accum state m = ap (λ b. with_state Accum b m) (saturates_is state)

pub pragmas_are : (ps : List Pragma) (m : Modes) → all_pragmas ps m ≡ with_pragmas ps m
pragmas_are [] m = refl
pragmas_are (p ∷ ps) m = rw (pragma_is p.which p.state m) (pragmas_are ps (with_state p.which (is_saturating p.state) m))

-- ---- expressions, sizes and initialisers

module _ (ts : List Placed) (k : Known) where
  pub expression_knows : (outer : List Modes) (x : t.Expression) (rest : List Leaf)
      → Reached ts (s.of_expression x rest) (k.modes ∷ outer) → KnowsStates ts k (first_expression x)
  expression_knows outer x rest r = state_there ts _ (k.modes ∷ outer) _ r (expression_begins x rest)

  pub shape_knows : (outer : List Modes) (x : t.Shape) (rest : List Leaf) → Reached ts (s.of_shape x rest) (k.modes ∷ outer)
      → InShape ts k x
  shape_knows outer t.object rest r = tt
  shape_knows outer (t.array l None e) rest r = tt
  shape_knows outer (t.array l (Some c) e) rest r =
      state_there ts _ (k.modes ∷ outer) _ (past ts _ _ (k.modes ∷ outer) r) (conditional_begins c _)
  shape_knows outer (t.function_shape l ps e) rest r = tt

  pub declarator_knows : (outer : List Modes) (stars : List t.Star) (n : t.Identifier) (shape : t.Shape) (rest : List Leaf)
      → Reached ts (s.of_declarator (t.declarator stars n shape) rest) (k.modes ∷ outer) → InShape ts k shape
  declarator_knows outer stars n shape rest r =
      shape_knows outer shape rest
      (passed.past_identifier ts (k.modes ∷ outer) n _ (passed.past_stars ts (k.modes ∷ outer) stars _ r))

  mutual
    pub initialiser_knows : (outer : List Modes) (x : t.Initialiser) (rest : List Leaf) → g.Is_initialiser x
        → Reached ts (s.of_initialiser x rest) (k.modes ∷ outer) → InInitialiser ts k x
    initialiser_knows outer (t.initial_value a) rest h r =
        state_there ts _ (k.modes ∷ outer) _ r (assignment_begins a rest)
    initialiser_knows outer (t.braces l first more c e) rest h r =
        let inner = past ts _ _ (k.modes ∷ outer) r in (
          initialiser_knows (k.modes ∷ outer) first _ h.0 inner,
          initialisers_know (k.modes ∷ outer) more _ h.1 (passed.past_initialiser ts k.modes (k.modes ∷ outer) first _ h.0 inner),
        )

    initialisers_know : (outer : List Modes) (x : t.Initialisers) (rest : List Leaf) → g.Are_initialisers x
        → Reached ts (s.of_initialisers x rest) (k.modes ∷ outer) → InInitialisers ts k x
    initialisers_know outer t.no_initialisers rest h r = tt
    initialisers_know outer (t.initialisers at i more) rest h r =
        let inner = past ts _ _ (k.modes ∷ outer) r in (
          initialiser_knows outer i _ h.0 inner,
          initialisers_know outer more rest h.1 (passed.past_initialiser ts k.modes outer i _ h.0 inner),
        )

-- ---- parts of functions

module _ (ts : List Placed) where
  -- a part is this one, of which it holds
  pub this : (x p : Part) → p ≡ x → PartKnowsStates ts x → PartKnowsStates ts p
  this x p e h = subst (PartKnowsStates ts) (sym e) h

  module _ (c : Context) (r : Surroundings) (outer : List Modes) where
    abbrev Here : List Leaf → Type 0
    Here left = Reached ts left (c.modes ∷ outer)

    start_knows : (names : Names) (x : Option t.Start) (ty : Option PlainType) (p : Part) (rest : List Leaf) → g.Given g.Is_start x
        → Here (s.of_option s.of_start x rest) → place.StandsInStart c names x ty p → PartKnowsStates ts p
    start_knows names None ty p rest h q e = absurd e
    start_knows names (Some (t.start at i)) ty p rest h q e =
        this _ p e (initialiser_knows ts (known_in c names) outer i rest h (past ts _ _ (c.modes ∷ outer) q))

    init_declarator_knows : (ss : t.Specs) (d : t.InitDeclarator) (i : Inside) (p : Part) (rest : List Leaf) → g.Is_init_declarator d
        → Here (s.of_init_declarator d rest) → place.StandsInDeclarator walked c r ss d i p → PartKnowsStates ts p
    init_declarator_knows ss (t.init_declarator (t.declarator stars (t.identifier at n) shape) start) i p rest h q (inl e) =
        this _ p e (declarator_knows ts (known_in c i.names) outer stars (t.identifier at n) shape _ q)
    init_declarator_knows ss (t.init_declarator (t.declarator stars (t.identifier at n) shape) start) i p rest h q (inr e) =
        start_knows _ start _ p rest h.1
        (passed.past_declarator ts (c.modes ∷ outer) (t.declarator stars (t.identifier at n) shape) _ h.0 q) e

    init_declarators_know : (ss : t.Specs) (ds : List t.NextInitDeclarator) (i : Inside) (p : Part) (rest : List Leaf)
        → g.Every g.Is_next_init_declarator ds → Here (s.of_list s.of_next_init_declarator ds rest)
        → place.StandsInDeclarators walked c r ss ds i p → PartKnowsStates ts p
    init_declarators_know ss [] i p rest h q e = absurd e
    init_declarators_know ss (t.next_init_declarator comma d ∷ ds) i p rest h q (inl e) =
        init_declarator_knows ss d i p _ h.0 (past ts _ _ (c.modes ∷ outer) q) e
    init_declarators_know ss (t.next_init_declarator comma d ∷ ds) i p rest h q (inr e) =
        init_declarators_know ss ds _ p rest h.1
        (passed.past_init_declarator ts c.modes outer d _ h.0 (past ts _ _ (c.modes ∷ outer) q)) e

    declaration_knows : (d : t.Declaration) (i : Inside) (p : Part) (rest : List Leaf) → g.Is_declaration d
        → Here (s.of_declaration d rest) → place.StandsInDeclaration walked c r d i p → PartKnowsStates ts p
    declaration_knows (t.declaration ss first more e) i p rest h q (inl w) = this _ p w tt
    declaration_knows (t.declaration ss first more e) i p rest h q (inr (inl w)) =
        init_declarator_knows ss first i p _ h.1 (passed.past_specs ts (c.modes ∷ outer) ss _ q) w
    declaration_knows (t.declaration ss first more e) i p rest h q (inr (inr w)) =
        init_declarators_know ss more _ p _ h.2
        (passed.past_init_declarator ts c.modes outer first _ h.1 (passed.past_specs ts (c.modes ∷ outer) ss _ q)) w

    test_knows : (names : Names) (x : Option t.Expression) (at : ℕ) (p : Part) (rest : List Leaf)
        → Here (s.of_option s.of_expression x rest) → place.IsTest c names x at p → PartKnowsStates ts p
    test_knows names None at p rest q e = absurd e
    test_knows names (Some x) at p rest q e = this _ p e (expression_knows ts (known_in c names) outer x rest q)

    evaluation_knows : (names : Names) (x : Option t.Expression) (p : Part) (rest : List Leaf)
        → Here (s.of_option s.of_expression x rest) → place.IsEvaluation c names x p → PartKnowsStates ts p
    evaluation_knows names None p rest q e = absurd e
    evaluation_knows names (Some x) p rest q e = this _ p e (expression_knows ts (known_in c names) outer x rest q)

    condition_knows : (names : Names) (l : Spot) (x : t.Expression) (e : Spot) (at : ℕ) (p : Part) (rest : List Leaf)
        → Here (s.of_condition (t.condition l x e) rest) → p ≡ condition (known_in c names) x at → PartKnowsStates ts p
    condition_knows names l x e at p rest q w =
        this _ p w (expression_knows ts (known_in c names) outer x _ (past ts _ _ (c.modes ∷ outer) q))

    first_knows : (x : t.First) (i : Inside) (p : Part) (rest : List Leaf) → g.Is_first x → Here (s.of_first x rest)
        → place.StandsInFirst walked c r x i p → PartKnowsStates ts p
    first_knows (t.first_declared d) i p rest h q w = declaration_knows d i p rest h q w
    first_knows (t.first_evaluated x e) i p rest h q w = evaluation_knows i.names x p _ q w

    heading_knows : (x : t.Heading) (at : ℕ) (i : Inside) (p : Part) (rest : List Leaf) → g.Is_heading x → Here (s.of_heading x rest)
        → place.StandsInHeading walked c r x at i p → PartKnowsStates ts p
    heading_knows (t.heading l first x semicolon y e) at i p rest h q (inl w) =
        first_knows first i p _ h.0 (past ts _ _ (c.modes ∷ outer) q) w
    heading_knows (t.heading l first x semicolon y e) at i p rest h q (inr (inl w)) =
        test_knows _ x at p _
        (passed.past_first ts c.modes outer first _ h.0 (past ts _ _ (c.modes ∷ outer) q)) w
    heading_knows (t.heading l first x semicolon y e) at i p rest h q (inr (inr w)) =
        evaluation_knows _ y p _
        (past ts _ _ (c.modes ∷ outer)
        (passed.past_optional ts c.modes outer x _ h.1
        (passed.past_first ts c.modes outer first _ h.0 (past ts _ _ (c.modes ∷ outer) q)))) w

    returned_knows : (names : Names) (x : Option t.Expression) (at : ℕ) (p : Part) (rest : List Leaf)
        → Here (s.of_option s.of_expression x rest) → p ≡ returned (known_in c names) r.result x at → PartKnowsStates ts p
    returned_knows names None at p rest q w = this _ p w tt
    returned_knows names (Some x) at p rest q w = this _ p w (expression_knows ts (known_in c names) outer x rest q)

  -- ---- statements

  -- reading is behind the pragmas of a block
  pub within_braces : (c : Context) (outer : List Modes) (l : Spot) (ps : List Pragma) (rest : List Leaf)
      → Reached ts (s.mark l LeftBrace ∷ s.of_list s.of_pragma ps rest) (c.modes ∷ outer)
      → Reached ts rest ((under ps c).modes ∷ (c.modes ∷ outer))
  within_braces c outer l ps rest q =
      subst (λ (m : Modes). Reached ts rest (m ∷ (c.modes ∷ outer))) (pragmas_are ps c.modes)
      (passed.past_pragmas ts c.modes (c.modes ∷ outer) ps rest (past ts _ _ (c.modes ∷ outer) q))

  mutual
    statement_knows : (c : Context) (r : Surroundings) (outer : List Modes) (x : t.Statement) (i : Inside) (p : Part) (rest : List Leaf)
        → g.Is_statement x → Reached ts (s.of_statement x rest) (c.modes ∷ outer) → place.StandsInStatement walked c r x i p
        → PartKnowsStates ts p
    statement_knows c r outer (t.block (t.compound l ps xs e)) i p rest h q w =
        items_know (under ps c) _ (c.modes ∷ outer) xs i p _ h (within_braces c outer l ps _ q) w
    statement_knows c r outer (t.simple x e) i p rest h q w = evaluation_knows c r outer i.names x p _ q w
    statement_knows c r outer (t.if_then at (t.condition l x e) a) i p rest h q (inl w) =
        condition_knows c r outer i.names l x e at.index p _ (past ts _ _ (c.modes ∷ outer) q) w
    statement_knows c r outer (t.if_then at (t.condition l x e) a) i p rest h q (inr w) =
        statement_knows c r outer a i p rest h.1
        (passed.past_condition ts c.modes outer (t.condition l x e) _ h.0 (past ts _ _ (c.modes ∷ outer) q)) w
    statement_knows c r outer (t.if_else at (t.condition l x e) a o b) i p rest h q (inl w) =
        condition_knows c r outer i.names l x e at.index p _ (past ts _ _ (c.modes ∷ outer) q) w
    statement_knows c r outer (t.if_else at (t.condition l x e) a o b) i p rest h q (inr (inl w)) =
        statement_knows c r outer a i p _ h.1
        (passed.past_condition ts c.modes outer (t.condition l x e) _ h.0 (past ts _ _ (c.modes ∷ outer) q)) w
    statement_knows c r outer (t.if_else at (t.condition l x e) a o b) i p rest h q (inr (inr w)) =
        statement_knows c r outer b _ p rest h.3
        (past ts _ _ (c.modes ∷ outer)
        (passed.past_statement ts c.modes outer a _ h.1
        (passed.past_condition ts c.modes outer (t.condition l x e) _ h.0 (past ts _ _ (c.modes ∷ outer) q)))) w
    statement_knows c r outer (t.while_loop at (t.condition l x e) a) i p rest h q (inl w) =
        condition_knows c r outer i.names l x e at.index p _ (past ts _ _ (c.modes ∷ outer) q) w
    statement_knows c r outer (t.while_loop at (t.condition l x e) a) i p rest h q (inr w) =
        statement_knows c _ outer a i p rest h.1
        (passed.past_condition ts c.modes outer (t.condition l x e) _ h.0 (past ts _ _ (c.modes ∷ outer) q)) w
    statement_knows c r outer (t.do_loop at a o (t.condition l x e) z) i p rest h q (inl w) =
        statement_knows c _ outer a i p _ h.0 (past ts _ _ (c.modes ∷ outer) q) w
    statement_knows c r outer (t.do_loop at a o (t.condition l x e) z) i p rest h q (inr w) =
        condition_knows c r outer i.names l x e o.index p _
        (past ts _ _ (c.modes ∷ outer) (passed.past_statement ts c.modes outer a _ h.0 (past ts _ _ (c.modes ∷ outer) q))) w
    statement_knows c r outer (t.for_loop at x a) i p rest h q (inl w) =
        heading_knows c (place.in_a_block r i.names) outer x at.index i p _ h.0 (past ts _ _ (c.modes ∷ outer) q) w
    statement_knows c r outer (t.for_loop at x a) i p rest h q (inr w) =
        statement_knows c _ outer a _ p rest h.1
        (passed.past_heading ts c.modes outer x _ h.0 (past ts _ _ (c.modes ∷ outer) q)) w
    statement_knows c r outer (t.break_loop at e) i p rest h q w = this _ p w tt
    statement_knows c r outer (t.continue_loop at e) i p rest h q w = this _ p w tt
    statement_knows c r outer (t.return_value at x e) i p rest h q w =
        returned_knows c r outer i.names x at.index p _ (past ts _ _ (c.modes ∷ outer) q) w

    item_knows : (c : Context) (r : Surroundings) (outer : List Modes) (x : t.Item) (i : Inside) (p : Part) (rest : List Leaf)
        → g.Is_item x → Reached ts (s.of_item x rest) (c.modes ∷ outer) → place.StandsInItem walked c r x i p → PartKnowsStates ts p
    item_knows c r outer (t.declared d) i p rest h q w = declaration_knows c r outer d i p rest h q w
    item_knows c r outer (t.stated x) i p rest h q w = statement_knows c r outer x i p rest h q w

    items_know : (c : Context) (r : Surroundings) (outer : List Modes) (x : t.Items) (i : Inside) (p : Part) (rest : List Leaf)
        → g.Are_items x → Reached ts (s.of_items x rest) (c.modes ∷ outer) → place.StandsInItems walked c r x i p → PartKnowsStates ts p
    items_know c r outer t.no_items i p rest h q w = absurd w
    items_know c r outer (t.items x xs) i p rest h q (inl w) = item_knows c r outer x i p _ h.0 q w
    items_know c r outer (t.items x xs) i p rest h q (inr w) =
        items_know c r outer xs _ p rest h.1 (passed.past_item ts c.modes outer x _ h.0 q) w

  pub body_knows : (c : Context) (r : Surroundings) (outer : List Modes) (x : t.Compound) (i : Inside) (p : Part) (rest : List Leaf)
      → g.Is_compound x → Reached ts (s.of_compound x rest) (c.modes ∷ outer) → place.StandsInBody walked c r x i p → PartKnowsStates ts p
  body_knows c r outer (t.compound l ps xs e) i p rest h q w =
      items_know (under ps c) r (c.modes ∷ outer) xs i p _ h (within_braces c outer l ps _ q) w
