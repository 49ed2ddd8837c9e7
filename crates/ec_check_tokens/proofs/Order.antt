-- The names of the declarators that define stand among the tokens of their unit, in order, and so at tokens that rise.
use Rattle.std.proofs.Common.{◌≡◌, ◌≤◌, ◌∙◌, ℕ, suc, List, [], ◌∷◌, refl, sym, ap, subst, arith}
use Rattle.std.specs.Prelude.{Option, Some, None}
use Rattle.ec_grammar.specs.declared.Pragma.{Pragma}
use Rattle.ec_grammar.specs.declared.Qualifier.{Qualifier}
use Rattle.ec_grammar.specs.declared.Spot.{Spot}
use Rattle.ec_grammar.specs.Grammar.{leaves_from}
use Rattle.ec_grammar.specs.Spelling as s
use Rattle.ec_grammar.specs.Tokens as tokens
use Rattle.ec_grammar.specs.Tokens.{Placed}
use Rattle.ec_grammar.specs.Trees as t
use Rattle.ec_grammar.specs.Trees.{Leaf}
use Rattle.ec_check_names.specs.declared.numbering.Defined.{Defined}
use Rattle.ec_check_names.specs.declared.numbering.Defined.TheVariants.{Object}
use Rattle.ec_check_names.specs.declared.specifiers.StorageWord.{StorageWord}
use Rattle.ec_check_names.specs.declared.specifiers.StorageWord.TheVariants.{Extern, Static}
use Rattle.ec_check_tokens.specs.Definers.{Definer, word_of, unless_extern, in_declarator, in_declarators, in_external}
use Rattle.ec_check_tokens.specs.Definers.{in_externals, in_unit}
use Rattle.ec_check_tokens.specs.Definers.{StandInOrder, ended, passed, named, RiseFrom, DefinersAreInOrder}

-- ---- what stands among tokens stands among more of them

module _ {K : Type 0} (ds : List (Definer K)) where
  abbrev In : List Leaf → Type 0
  In ls = StandInOrder ds ls

  pub each : {A : Type 0} (of : A → List Leaf → List Leaf) → ((x : A) (rest : List Leaf) → In rest → In (of x rest)) → (xs : List A)
      → (rest : List Leaf) → In rest → In (s.of_list of xs rest)
  each of go [] rest h = h
  each of go (x ∷ xs) rest h = go x _ (each of go xs rest h)

  pub maybe : {A : Type 0} (of : A → List Leaf → List Leaf) → ((x : A) (rest : List Leaf) → In rest → In (of x rest)) → (x : Option A)
      → (rest : List Leaf) → In rest → In (s.of_option of x rest)
  maybe of go None rest h = h
  maybe of go (Some x) rest h = go x rest h

  pub name : (x : t.Identifier) (rest : List Leaf) → In rest → In (s.of_identifier x rest)
  name (t.identifier at n) rest h = passed h

  pub qualifier : (x : Qualifier) (rest : List Leaf) → In rest → In (s.of_qualifier x rest)
  qualifier x rest h = passed h

  pub star : (x : t.Star) (rest : List Leaf) → In rest → In (s.of_star x rest)
  star (t.star at qs) rest h = passed (each s.of_qualifier qualifier qs rest h)

  pub spec : (x : t.Spec) (rest : List Leaf) → In rest → In (s.of_spec x rest)
  spec (t.word_spec at w) rest h = passed h
  spec (t.struct_spec at tag) rest h = passed (name tag rest h)

  pub specs : (x : t.Specs) (rest : List Leaf) → In rest → In (s.of_specs x rest)
  specs (t.specs first more) rest h = spec first _ (each s.of_spec spec more rest h)

  pub type_name : (x : t.TypeName) (rest : List Leaf) → In rest → In (s.of_type_name x rest)
  type_name (t.type_name ss stars) rest h = specs ss _ (each s.of_star star stars rest h)

  mutual
    pub expression : (x : t.Expression) (rest : List Leaf) → In rest → In (s.of_expression x rest)
    expression (t.single a) rest h = assignment a rest h
    expression (t.comma e at a) rest h = expression e _ (passed (assignment a rest h))

    assignment : (x : t.Assignment) (rest : List Leaf) → In rest → In (s.of_assignment x rest)
    assignment (t.value c) rest h = conditional c rest h
    assignment (t.assign u at op a) rest h = unary u _ (passed (assignment a rest h))

    pub conditional : (x : t.Conditional) (rest : List Leaf) → In rest → In (s.of_conditional x rest)
    conditional (t.plain b) rest h = binary b rest h
    conditional (t.choose b q e k c) rest h = binary b _ (passed (expression e _ (passed (conditional c rest h))))

    binary : (x : t.Binary) (rest : List Leaf) → In rest → In (s.of_binary x rest)
    binary (t.operand c) rest h = cast c rest h
    binary (t.join a at op b) rest h = binary a _ (passed (binary b rest h))

    cast : (x : t.Cast) (rest : List Leaf) → In rest → In (s.of_cast x rest)
    cast (t.uncast u) rest h = unary u rest h
    cast (t.convert l ty r c) rest h = passed (type_name ty _ (passed (cast c rest h)))

    unary : (x : t.Unary) (rest : List Leaf) → In rest → In (s.of_unary x rest)
    unary (t.postfix p) rest h = postfix p rest h
    unary (t.step at op u) rest h = passed (unary u rest h)
    unary (t.prefix at op c) rest h = passed (cast c rest h)
    unary (t.size at l ty r) rest h = passed (passed (type_name ty _ (passed h)))

    postfix : (x : t.Postfix) (rest : List Leaf) → In rest → In (s.of_postfix x rest)
    postfix (t.primary p) rest h = primary p rest h
    postfix (t.index p l e r) rest h = postfix p _ (passed (expression e _ (passed h)))
    postfix (t.call p l a r) rest h = postfix p _ (passed (arguments a _ (passed h)))
    postfix (t.member p at op n) rest h = postfix p _ (passed (name n rest h))
    postfix (t.stepped p at op) rest h = postfix p _ (passed h)

    arguments : (x : t.Arguments) (rest : List Leaf) → In rest → In (s.of_arguments x rest)
    arguments t.no_arguments rest h = h
    arguments (t.arguments a more) rest h = assignment a _ (further more rest h)

    further : (x : t.Further) (rest : List Leaf) → In rest → In (s.of_further x rest)
    further t.no_further rest h = h
    further (t.further at a more) rest h = passed (assignment a _ (further more rest h))

    primary : (x : t.Primary) (rest : List Leaf) → In rest → In (s.of_primary x rest)
    primary (t.name n) rest h = name n rest h
    primary (t.constant at k) rest h = passed h
    primary (t.parenthesised l e r) rest h = passed (expression e _ (passed h))
    primary (t.operation at op l n more r) rest h = passed (passed (name n _ (further more _ (passed h))))

  pub param : (x : t.Param) (rest : List Leaf) → In rest → In (s.of_param x rest)
  param (t.param ty n) rest h = type_name ty _ (maybe s.of_identifier name n rest h)

  next_param : (x : t.NextParam) (rest : List Leaf) → In rest → In (s.of_next_param x rest)
  next_param (t.next_param at p) rest h = passed (param p rest h)

  pub params : (x : t.Params) (rest : List Leaf) → In rest → In (s.of_params x rest)
  params (t.void_params at) rest h = passed h
  params (t.params p more) rest h = param p _ (each s.of_next_param next_param more rest h)

  pub shape : (x : t.Shape) (rest : List Leaf) → In rest → In (s.of_shape x rest)
  shape t.object rest h = h
  shape (t.array l c r) rest h = passed (maybe s.of_conditional conditional c _ (passed h))
  shape (t.function_shape l ps r) rest h = passed (params ps _ (passed h))

  pub declarator : (x : t.Declarator) (rest : List Leaf) → In rest → In (s.of_declarator x rest)
  declarator (t.declarator stars n f) rest h = each s.of_star star stars _ (name n _ (shape f rest h))

  pub comma : (x : Spot) (rest : List Leaf) → In rest → In (s.of_comma x rest)
  comma x rest h = passed h

  mutual
    initialiser : (x : t.Initialiser) (rest : List Leaf) → In rest → In (s.of_initialiser x rest)
    initialiser (t.initial_value a) rest h = assignment a rest h
    initialiser (t.braces l i more c r) rest h =
        passed (initialiser i _ (initialisers more _ (maybe s.of_comma comma c _ (passed h))))

    initialisers : (x : t.Initialisers) (rest : List Leaf) → In rest → In (s.of_initialisers x rest)
    initialisers t.no_initialisers rest h = h
    initialisers (t.initialisers at i more) rest h = passed (initialiser i _ (initialisers more rest h))

  pub start : (x : t.Start) (rest : List Leaf) → In rest → In (s.of_start x rest)
  start (t.start at i) rest h = passed (initialiser i rest h)

  pub init_declarator : (x : t.InitDeclarator) (rest : List Leaf) → In rest → In (s.of_init_declarator x rest)
  init_declarator (t.init_declarator d i) rest h = declarator d _ (maybe s.of_start start i rest h)

  next_init_declarator : (x : t.NextInitDeclarator) (rest : List Leaf) → In rest → In (s.of_next_init_declarator x rest)
  next_init_declarator (t.next_init_declarator at d) rest h = passed (init_declarator d rest h)

  pub declaration : (x : t.Declaration) (rest : List Leaf) → In rest → In (s.of_declaration x rest)
  declaration (t.declaration ss d more e) rest h =
      specs ss _ (init_declarator d _ (each s.of_next_init_declarator next_init_declarator more _ (passed h)))

  pub next_declarator : (x : t.NextDeclarator) (rest : List Leaf) → In rest → In (s.of_next_declarator x rest)
  next_declarator (t.next_declarator at d) rest h = passed (declarator d rest h)

  pub member : (x : t.Member) (rest : List Leaf) → In rest → In (s.of_member x rest)
  member (t.members ss d more e) rest h =
      specs ss _ (declarator d _ (each s.of_next_declarator next_declarator more _ (passed h)))

  pub structure : (x : t.Structure) (rest : List Leaf) → In rest → In (s.of_structure x rest)
  structure (t.structure at tag l m more r e) rest h =
      passed (name tag _ (passed (member m _ (each s.of_member member more _ (passed (passed h))))))

  pub pragma : (x : Pragma) (rest : List Leaf) → In rest → In (s.of_pragma x rest)
  pragma x rest h = passed h

  pub condition : (x : t.Condition) (rest : List Leaf) → In rest → In (s.of_condition x rest)
  condition (t.condition l e r) rest h = passed (expression e _ (passed h))

  pub first : (x : t.First) (rest : List Leaf) → In rest → In (s.of_first x rest)
  first (t.first_declared d) rest h = declaration d rest h
  first (t.first_evaluated e at) rest h = maybe s.of_expression expression e _ (passed h)

  pub heading : (x : t.Heading) (rest : List Leaf) → In rest → In (s.of_heading x rest)
  heading (t.heading l f c at e r) rest h =
      passed (first f _ (maybe s.of_expression expression c _ (passed (maybe s.of_expression expression e _ (passed h)))))

  mutual
    pub compound : (x : t.Compound) (rest : List Leaf) → In rest → In (s.of_compound x rest)
    compound (t.compound l ps b r) rest h = passed (each s.of_pragma pragma ps _ (items b _ (passed h)))

    pub items : (x : t.Items) (rest : List Leaf) → In rest → In (s.of_items x rest)
    items t.no_items rest h = h
    items (t.items i more) rest h = item i _ (items more rest h)

    pub item : (x : t.Item) (rest : List Leaf) → In rest → In (s.of_item x rest)
    item (t.declared d) rest h = declaration d rest h
    item (t.stated x) rest h = statement x rest h

    pub statement : (x : t.Statement) (rest : List Leaf) → In rest → In (s.of_statement x rest)
    statement (t.block c) rest h = compound c rest h
    statement (t.simple e at) rest h = maybe s.of_expression expression e _ (passed h)
    statement (t.if_then at c b) rest h = passed (condition c _ (statement b rest h))
    statement (t.if_else at c b e o) rest h = passed (condition c _ (statement b _ (passed (statement o rest h))))
    statement (t.while_loop at c b) rest h = passed (condition c _ (statement b rest h))
    statement (t.do_loop at b w c e) rest h = passed (statement b _ (passed (condition c _ (passed h))))
    statement (t.for_loop at x b) rest h = passed (heading x _ (statement b rest h))
    statement (t.break_loop at e) rest h = passed (passed h)
    statement (t.continue_loop at e) rest h = passed (passed h)
    statement (t.return_value at v e) rest h = passed (maybe s.of_expression expression v _ (passed h))

  pub register_object : (x : t.RegisterObject) (rest : List Leaf) → In rest → In (s.of_register_object x rest)
  register_object (t.register_object at register ss n e) rest h = passed (name register _ (specs ss _ (name n _ (passed h))))

  pub function : (x : t.Function) (rest : List Leaf) → In rest → In (s.of_function x rest)
  function (t.function ty n l ps r b) rest h = type_name ty _ (name n _ (passed (params ps _ (passed (compound b rest h)))))

-- ---- declarators that define

object_in : (unit : ℕ) (word : Option StorageWord) (stars : List t.Star) (at : Spot) (n : List ℕ) (f : t.Shape) (i : Option t.Start)
    (ds : List (Definer Defined)) (rest : List Leaf) → StandInOrder ds rest
    → StandInOrder (unless_extern word (record { unit = unit; at = at.index; name = n; kind = Object }) ds)
    (s.of_init_declarator (t.init_declarator (t.declarator stars (t.identifier at n) f) i) rest)
object_in unit None stars at n f i ds rest h =
    let d : Definer Defined = record { unit = unit; at = at.index; name = n; kind = Object } in
    each (d ∷ ds) s.of_star (star (d ∷ ds)) stars _ (named refl refl (shape ds f _ (maybe ds s.of_start (start ds) i rest h)))
object_in unit (Some Static) stars at n f i ds rest h =
    let d : Definer Defined = record { unit = unit; at = at.index; name = n; kind = Object } in
    each (d ∷ ds) s.of_star (star (d ∷ ds)) stars _ (named refl refl (shape ds f _ (maybe ds s.of_start (start ds) i rest h)))
object_in unit (Some Extern) stars at n f i ds rest h =
    init_declarator ds (t.init_declarator (t.declarator stars (t.identifier at n) f) i) rest h

declarator_in : (unit : ℕ) (word : Option StorageWord) (d : t.InitDeclarator) (ds : List (Definer Defined)) (rest : List Leaf) → StandInOrder ds rest
    → StandInOrder (in_declarator unit word d ds) (s.of_init_declarator d rest)
declarator_in unit word (t.init_declarator (t.declarator stars (t.identifier at n) (t.function_shape l ps r)) i) ds rest h =
    init_declarator ds (t.init_declarator (t.declarator stars (t.identifier at n) (t.function_shape l ps r)) i) rest h
declarator_in unit word (t.init_declarator (t.declarator stars (t.identifier at n) t.object) i) ds rest h =
    object_in unit word stars at n t.object i ds rest h
declarator_in unit word (t.init_declarator (t.declarator stars (t.identifier at n) (t.array l c r)) i) ds rest h =
    object_in unit word stars at n (t.array l c r) i ds rest h

declarators_in : (unit : ℕ) (word : Option StorageWord) (xs : List t.NextInitDeclarator) (ds : List (Definer Defined)) (rest : List Leaf)
    → StandInOrder ds rest → StandInOrder (in_declarators unit word xs ds) (s.of_list s.of_next_init_declarator xs rest)
declarators_in unit word [] ds rest h = h
declarators_in unit word (t.next_init_declarator at d ∷ xs) ds rest h =
    passed (declarator_in unit word d _ _ (declarators_in unit word xs ds rest h))

external_in : (unit : ℕ) (x : t.External) (ds : List (Definer Defined)) (rest : List Leaf) → StandInOrder ds rest
    → StandInOrder (in_external unit x ds) (s.of_external x rest)
external_in unit (t.pragma_item p) ds rest h = passed h
external_in unit (t.structure_item d) ds rest h = structure ds d rest h
external_in unit (t.register_item (t.register_object z register ss (t.identifier at n) e)) ds rest h =
    passed (name _ register _ (specs _ ss _ (named refl refl (passed h))))
external_in unit (t.declaration_item (t.declaration ss d more e)) ds rest h =
    specs _ ss _ (declarator_in unit (word_of ss) d _ _ (declarators_in unit (word_of ss) more ds _ (passed h)))
external_in unit (t.function_item (t.function ty (t.identifier at n) l ps r b)) ds rest h =
    type_name _ ty _ (named refl refl (passed (params ds ps _ (passed (compound ds b rest h)))))

externals_in : (unit : ℕ) (xs : List t.External) (ds : List (Definer Defined)) (rest : List Leaf) → StandInOrder ds rest
    → StandInOrder (in_externals unit xs ds) (s.of_list s.of_external xs rest)
externals_in unit [] ds rest h = h
externals_in unit (x ∷ xs) ds rest h = external_in unit x _ _ (externals_in unit xs ds rest h)

unit_in : (unit : ℕ) (u : t.Tree) → StandInOrder (in_unit unit u []) (s.of_tree u [])
unit_in unit (t.tree xs e) = externals_in unit xs [] (s.leaf e tokens.end ∷ []) ended

-- ---- tokens rise

index_of : Leaf → ℕ
index_of l = l.spot.index

later : {K : Type 0} → (m n : ℕ) (ds : List (Definer K)) → m ≤ n → RiseFrom n ds → RiseFrom m ds
later m n [] le h = tt
later m n (d ∷ ds) le h = let at = h.0 in (omega (arith, le, at), h.1)

pub rise : {K : Type 0} → (ts : List Placed) (n : ℕ) (ls : List Leaf) (ds : List (Definer K)) → ls ≡ leaves_from n ts → StandInOrder ds ls → RiseFrom n ds
rise ts n ls _ e ended = tt
rise [] n _ ds e (passed {l = l} {ls = ls} h) = absurd (nothing l ls e)
  where
    nothing : (l : Leaf) (ls : List Leaf) → ◌≡◌ {A = List Leaf} (l ∷ ls) [] → ⊥
    nothing l ls e = cc
rise (x ∷ ts) n _ ds e (passed {l = l} {ls = ls} h) = later n (suc n) ds (omega arith)
    (rise ts (suc n) ls ds (let q : ls ≡ leaves_from (suc n) ts = cc in q) h)
rise [] n _ _ e (named {l = l} {ls = ls} a b h) = absurd (nothing l ls e)
  where
    nothing : (l : Leaf) (ls : List Leaf) → ◌≡◌ {A = List Leaf} (l ∷ ls) [] → ⊥
    nothing l ls e = cc
rise (x ∷ ts) n _ _ e (named {d = d} {ds = ds} {l = l} {ls = ls} a b h) =
    let same : l ≡ record { spot = record { index = n; at = x.at }; lexeme = x.lexeme } = cc in
    let here : n ≡ d.at = sym (ap (λ (l : Leaf). l.spot.index) same) ∙ a in (
      subst (λ (z : ℕ). n ≤ z) here (omega arith),
      subst (λ (z : ℕ). RiseFrom (suc z) ds) here (rise ts (suc n) ls ds (let q : ls ≡ leaves_from (suc n) ts = cc in q) h),
    )

pub definers_are_in_order : DefinersAreInOrder
definers_are_in_order = record {
  named = unit_in;
  rising = λ ts unit u h. rise ts 0 (s.of_tree u []) (in_unit unit u []) (sym h.0) (unit_in unit u);
}
