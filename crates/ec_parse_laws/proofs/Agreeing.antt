-- Two lists that agree up to some place, and the tokens of a tree before both.
use Rattle.std.proofs.Common.{◌≡◌, List, [], ◌∷◌, ◌++◌, Option, Some, None, refl, ap}
use Rattle.ec_grammar.specs.declared.Pragma.{Pragma}
use Rattle.ec_grammar.specs.Trees as t
use Rattle.ec_grammar.specs.Trees.{Leaf}
use Rattle.ec_grammar.specs.Spelling.{of_list, of_option, of_identifier, of_pragma, of_qualifier, of_star, of_spec, of_specs, of_type_name}
use Rattle.ec_grammar.specs.Spelling.{of_expression, of_assignment, of_conditional, of_binary, of_cast, of_unary, of_postfix, of_arguments}
use Rattle.ec_grammar.specs.Spelling.{of_further, of_primary, of_param, of_next_param, of_params, of_shape, of_declarator, of_comma}
use Rattle.ec_grammar.specs.Spelling.{of_initialiser, of_initialisers, of_start, of_init_declarator, of_next_init_declarator}
use Rattle.ec_grammar.specs.Spelling.{of_declaration, of_next_declarator, of_member, of_structure, of_register_object, of_condition}
use Rattle.ec_grammar.specs.Spelling.{of_first, of_heading, of_compound, of_items, of_item, of_statement, of_function, of_external}

-- one list ends in `more`, the other in `other`, and what is before is the same
pub record Agree (more other ts us : List Leaf) : Type 0 where
  pub front : List Leaf
  pub left : ts ≡ front ++ more
  pub right : us ≡ front ++ other

pub from_here : {more other : List Leaf} → Agree more other more other
from_here = record { front = []; left = refl; right = refl }

pub past : (x : Leaf) {more other ts us : List Leaf} → Agree more other ts us → Agree more other (x ∷ ts) (x ∷ us)
past x g = record { front = x ∷ g.front; left = ap (λ z. x ∷ z) g.left; right = ap (λ z. x ∷ z) g.right }

-- tokens that stand before what follows, whatever follows
abbrev pub Agrees : (List Leaf → List Leaf) → Type 0
Agrees c = (more other ts us : List Leaf) → Agree more other ts us → Agree more other (c ts) (c us)

pub past_list : {A : Type 0} (of_one : A → List Leaf → List Leaf) → ((x : A) → Agrees (of_one x))
    → (xs : List A) {more other ts us : List Leaf} → Agree more other ts us → Agree more other (of_list of_one xs ts) (of_list of_one xs us)
past_list of_one each [] g = g
past_list of_one each (x ∷ xs) g = each x _ _ _ _ (past_list of_one each xs g)

pub past_option : {A : Type 0} (of_one : A → List Leaf → List Leaf) → ((x : A) → Agrees (of_one x))
    → (x : Option A) {more other ts us : List Leaf} → Agree more other ts us
    → Agree more other (of_option of_one x ts) (of_option of_one x us)
past_option of_one each None g = g
past_option of_one each (Some x) g = each x _ _ _ _ g

pub past_identifier : (x : t.Identifier) {more other ts us : List Leaf} → Agree more other ts us
    → Agree more other (of_identifier x ts) (of_identifier x us)
past_identifier (t.identifier s n) g = past _ g

pub past_pragma : (x : Pragma) {more other ts us : List Leaf} → Agree more other ts us → Agree more other (of_pragma x ts) (of_pragma x us)
past_pragma x g = past _ g

pub past_pragmas : (xs : List Pragma) {more other ts us : List Leaf} → Agree more other ts us
    → Agree more other (of_list of_pragma xs ts) (of_list of_pragma xs us)
past_pragmas xs g = past_list of_pragma (λ x a b c d h. past_pragma x h) xs g

pub past_star : (x : t.Star) {more other ts us : List Leaf} → Agree more other ts us → Agree more other (of_star x ts) (of_star x us)
past_star (t.star s qualifiers) g = past _ (past_list of_qualifier (λ x a b c d h. past _ h) qualifiers g)

pub past_stars : (xs : List t.Star) {more other ts us : List Leaf} → Agree more other ts us
    → Agree more other (of_list of_star xs ts) (of_list of_star xs us)
past_stars xs g = past_list of_star (λ x a b c d h. past_star x h) xs g

pub past_spec : (x : t.Spec) {more other ts us : List Leaf} → Agree more other ts us → Agree more other (of_spec x ts) (of_spec x us)
past_spec (t.word_spec s w) g = past _ g
past_spec (t.struct_spec s tag) g = past _ (past_identifier tag g)

pub past_specs : (x : t.Specs) {more other ts us : List Leaf} → Agree more other ts us → Agree more other (of_specs x ts) (of_specs x us)
past_specs (t.specs first more) g = past_spec first (past_list of_spec (λ x a b c d h. past_spec x h) more g)

pub past_type_name : (x : t.TypeName) {more other ts us : List Leaf} → Agree more other ts us
    → Agree more other (of_type_name x ts) (of_type_name x us)
past_type_name (t.type_name sp stars) g = past_specs sp (past_stars stars g)

-- ---- expressions

mutual
  pub past_expression : (x : t.Expression) {more other ts us : List Leaf} → Agree more other ts us
      → Agree more other (of_expression x ts) (of_expression x us)
  past_expression (t.single a) g = past_assignment a g
  past_expression (t.comma e s a) g = past_expression e (past _ (past_assignment a g))

  pub past_assignment : (x : t.Assignment) {more other ts us : List Leaf} → Agree more other ts us
      → Agree more other (of_assignment x ts) (of_assignment x us)
  past_assignment (t.value c) g = past_conditional c g
  past_assignment (t.assign u s op a) g = past_unary u (past _ (past_assignment a g))

  pub past_conditional : (x : t.Conditional) {more other ts us : List Leaf} → Agree more other ts us
      → Agree more other (of_conditional x ts) (of_conditional x us)
  past_conditional (t.plain b) g = past_binary b g
  past_conditional (t.choose b q e k c) g = past_binary b (past _ (past_expression e (past _ (past_conditional c g))))

  pub past_binary : (x : t.Binary) {more other ts us : List Leaf} → Agree more other ts us
      → Agree more other (of_binary x ts) (of_binary x us)
  past_binary (t.operand c) g = past_cast c g
  past_binary (t.join a s op b) g = past_binary a (past _ (past_binary b g))

  pub past_cast : (x : t.Cast) {more other ts us : List Leaf} → Agree more other ts us → Agree more other (of_cast x ts) (of_cast x us)
  past_cast (t.uncast u) g = past_unary u g
  past_cast (t.convert l ty r c) g = past _ (past_type_name ty (past _ (past_cast c g)))

  pub past_unary : (x : t.Unary) {more other ts us : List Leaf} → Agree more other ts us → Agree more other (of_unary x ts) (of_unary x us)
  past_unary (t.postfix p) g = past_postfix p g
  past_unary (t.step s op u) g = past _ (past_unary u g)
  past_unary (t.prefix s op c) g = past _ (past_cast c g)
  past_unary (t.size s l ty r) g = past _ (past _ (past_type_name ty (past _ g)))

  pub past_postfix : (x : t.Postfix) {more other ts us : List Leaf} → Agree more other ts us
      → Agree more other (of_postfix x ts) (of_postfix x us)
  past_postfix (t.primary p) g = past_primary p g
  past_postfix (t.index p l e r) g = past_postfix p (past _ (past_expression e (past _ g)))
  past_postfix (t.call p l a r) g = past_postfix p (past _ (past_arguments a (past _ g)))
  past_postfix (t.member p s op n) g = past_postfix p (past _ (past_identifier n g))
  past_postfix (t.stepped p s op) g = past_postfix p (past _ g)

  pub past_arguments : (x : t.Arguments) {more other ts us : List Leaf} → Agree more other ts us
      → Agree more other (of_arguments x ts) (of_arguments x us)
  past_arguments t.no_arguments g = g
  past_arguments (t.arguments a more) g = past_assignment a (past_further more g)

  pub past_further : (x : t.Further) {more other ts us : List Leaf} → Agree more other ts us
      → Agree more other (of_further x ts) (of_further x us)
  past_further t.no_further g = g
  past_further (t.further s a more) g = past _ (past_assignment a (past_further more g))

  pub past_primary : (x : t.Primary) {more other ts us : List Leaf} → Agree more other ts us
      → Agree more other (of_primary x ts) (of_primary x us)
  past_primary (t.name n) g = past_identifier n g
  past_primary (t.constant s k) g = past _ g
  past_primary (t.parenthesised l e r) g = past _ (past_expression e (past _ g))
  past_primary (t.operation s op l n more r) g = past _ (past _ (past_identifier n (past_further more (past _ g))))

-- ---- declarators, initialisers and declarations

pub past_param : (x : t.Param) {more other ts us : List Leaf} → Agree more other ts us → Agree more other (of_param x ts) (of_param x us)
past_param (t.param ty n) g = past_type_name ty (past_option of_identifier (λ x a b c d h. past_identifier x h) n g)

pub past_params : (x : t.Params) {more other ts us : List Leaf} → Agree more other ts us
    → Agree more other (of_params x ts) (of_params x us)
past_params (t.void_params s) g = past _ g
past_params (t.params p more) g = past_param p (past_list of_next_param next more g)
  where
    next : (x : t.NextParam) → Agrees (of_next_param x)
    next (t.next_param s p) a b c d h = past _ (past_param p h)

pub past_shape : (x : t.Shape) {more other ts us : List Leaf} → Agree more other ts us → Agree more other (of_shape x ts) (of_shape x us)
past_shape t.object g = g
past_shape (t.array l c r) g = past _ (past_option of_conditional (λ x a b c d h. past_conditional x h) c (past _ g))
past_shape (t.function_shape l p r) g = past _ (past_params p (past _ g))

pub past_declarator : (x : t.Declarator) {more other ts us : List Leaf} → Agree more other ts us
    → Agree more other (of_declarator x ts) (of_declarator x us)
past_declarator (t.declarator stars n shape) g = past_stars stars (past_identifier n (past_shape shape g))

mutual
  pub past_initialiser : (x : t.Initialiser) {more other ts us : List Leaf} → Agree more other ts us
      → Agree more other (of_initialiser x ts) (of_initialiser x us)
  past_initialiser (t.initial_value a) g = past_assignment a g
  past_initialiser (t.braces l i more c r) g =
      past _ (past_initialiser i (past_initialisers more (past_option of_comma (λ s a b c d h. past _ h) c (past _ g))))

  pub past_initialisers : (x : t.Initialisers) {more other ts us : List Leaf} → Agree more other ts us
      → Agree more other (of_initialisers x ts) (of_initialisers x us)
  past_initialisers t.no_initialisers g = g
  past_initialisers (t.initialisers s i more) g = past _ (past_initialiser i (past_initialisers more g))

pub past_start : (x : t.Start) {more other ts us : List Leaf} → Agree more other ts us → Agree more other (of_start x ts) (of_start x us)
past_start (t.start s i) g = past _ (past_initialiser i g)

pub past_init_declarator : (x : t.InitDeclarator) {more other ts us : List Leaf} → Agree more other ts us
    → Agree more other (of_init_declarator x ts) (of_init_declarator x us)
past_init_declarator (t.init_declarator d i) g = past_declarator d (past_option of_start (λ x a b c d h. past_start x h) i g)

pub past_next_init_declarator : (x : t.NextInitDeclarator) → Agrees (of_next_init_declarator x)
past_next_init_declarator (t.next_init_declarator s d) a b c e g = past _ (past_init_declarator d g)

pub past_declaration : (x : t.Declaration) {more other ts us : List Leaf} → Agree more other ts us
    → Agree more other (of_declaration x ts) (of_declaration x us)
past_declaration (t.declaration sp d more e) g =
    past_specs sp (past_init_declarator d (past_list of_next_init_declarator past_next_init_declarator more (past _ g)))

pub past_next_declarator : (x : t.NextDeclarator) → Agrees (of_next_declarator x)
past_next_declarator (t.next_declarator s d) a b c e g = past _ (past_declarator d g)

pub past_member : (x : t.Member) {more other ts us : List Leaf} → Agree more other ts us
    → Agree more other (of_member x ts) (of_member x us)
past_member (t.members sp d more e) g =
    past_specs sp (past_declarator d (past_list of_next_declarator past_next_declarator more (past _ g)))

-- ---- statements

pub past_condition : (x : t.Condition) {more other ts us : List Leaf} → Agree more other ts us
    → Agree more other (of_condition x ts) (of_condition x us)
past_condition (t.condition l e r) g = past _ (past_expression e (past _ g))

pub past_optional : (x : Option t.Expression) {more other ts us : List Leaf} → Agree more other ts us
    → Agree more other (of_option of_expression x ts) (of_option of_expression x us)
past_optional x g = past_option of_expression (λ x a b c d h. past_expression x h) x g

pub past_first : (x : t.First) {more other ts us : List Leaf} → Agree more other ts us → Agree more other (of_first x ts) (of_first x us)
past_first (t.first_declared d) g = past_declaration d g
past_first (t.first_evaluated e s) g = past_optional e (past _ g)

pub past_heading : (x : t.Heading) {more other ts us : List Leaf} → Agree more other ts us
    → Agree more other (of_heading x ts) (of_heading x us)
past_heading (t.heading l f c s e r) g = past _ (past_first f (past_optional c (past _ (past_optional e (past _ g)))))

mutual
  pub past_compound : (x : t.Compound) {more other ts us : List Leaf} → Agree more other ts us
      → Agree more other (of_compound x ts) (of_compound x us)
  past_compound (t.compound l pragmas b r) g = past _ (past_pragmas pragmas (past_items b (past _ g)))

  pub past_items : (x : t.Items) {more other ts us : List Leaf} → Agree more other ts us → Agree more other (of_items x ts) (of_items x us)
  past_items t.no_items g = g
  past_items (t.items i more) g = past_item i (past_items more g)

  pub past_item : (x : t.Item) {more other ts us : List Leaf} → Agree more other ts us → Agree more other (of_item x ts) (of_item x us)
  past_item (t.declared d) g = past_declaration d g
  past_item (t.stated s) g = past_statement s g

  pub past_statement : (x : t.Statement) {more other ts us : List Leaf} → Agree more other ts us
      → Agree more other (of_statement x ts) (of_statement x us)
  past_statement (t.block c) g = past_compound c g
  past_statement (t.simple e s) g = past_optional e (past _ g)
  past_statement (t.if_then s c b) g = past _ (past_condition c (past_statement b g))
  past_statement (t.if_else s c b e o) g = past _ (past_condition c (past_statement b (past _ (past_statement o g))))
  past_statement (t.while_loop s c b) g = past _ (past_condition c (past_statement b g))
  past_statement (t.do_loop s b w c e) g = past _ (past_statement b (past _ (past_condition c (past _ g))))
  past_statement (t.for_loop s h b) g = past _ (past_heading h (past_statement b g))
  past_statement (t.break_loop s e) g = past _ (past _ g)
  past_statement (t.continue_loop s e) g = past _ (past _ g)
  past_statement (t.return_value s v e) g = past _ (past_optional v (past _ g))

-- ---- units

pub past_structure : (x : t.Structure) {more other ts us : List Leaf} → Agree more other ts us
    → Agree more other (of_structure x ts) (of_structure x us)
past_structure (t.structure s tag l m more r e) g =
    past _ (past_identifier tag (past _ (past_member m (past_list of_member (λ x a b c d h. past_member x h) more (past _ (past _ g))))))

pub past_register : (x : t.RegisterObject) {more other ts us : List Leaf} → Agree more other ts us
    → Agree more other (of_register_object x ts) (of_register_object x us)
past_register (t.register_object s register sp n e) g = past _ (past_identifier register (past_specs sp (past_identifier n (past _ g))))

pub past_function : (x : t.Function) {more other ts us : List Leaf} → Agree more other ts us
    → Agree more other (of_function x ts) (of_function x us)
past_function (t.function ty n l p r b) g = past_type_name ty (past_identifier n (past _ (past_params p (past _ (past_compound b g)))))

pub past_external : (x : t.External) {more other ts us : List Leaf} → Agree more other ts us
    → Agree more other (of_external x ts) (of_external x us)
past_external (t.pragma_item p) g = past_pragma p g
past_external (t.structure_item s) g = past_structure s g
past_external (t.register_item r) g = past_register r g
past_external (t.declaration_item d) g = past_declaration d g
past_external (t.function_item f) g = past_function f g
