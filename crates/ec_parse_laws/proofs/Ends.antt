-- A program's list of tokens has one end, the last of them.
use Rattle.std.proofs.Common.{◌≡◌, ℕ, suc, List, [], ◌∷◌, ◌++◌, Bool, true, false, cond, Option, Some, None, refl, sym, ap, ◌∙◌}
use Rattle.ec_grammar.specs.declared.Constant.TheVariants as constants
use Rattle.ec_grammar.specs.declared.Operation.TheVariants as operations
use Rattle.ec_grammar.specs.Tokens as tokens
use Rattle.ec_grammar.specs.Tokens.{Lexeme, Placed}
use Rattle.ec_grammar.specs.Trees as t
use Rattle.ec_grammar.specs.Trees.{Leaf}
use Rattle.ec_grammar.specs.Spelling.{leaf, of_list, of_option, of_identifier, of_pragma, of_qualifier, of_star, of_spec, of_specs}
use Rattle.ec_grammar.specs.Spelling.{of_type_name, of_expression, of_assignment, of_conditional, of_binary, of_cast, of_unary, of_postfix}
use Rattle.ec_grammar.specs.Spelling.{of_arguments, of_further, of_primary, of_param, of_next_param, of_params, of_shape, of_declarator}
use Rattle.ec_grammar.specs.Spelling.{of_comma, of_initialiser, of_initialisers, of_start, of_init_declarator, of_next_init_declarator}
use Rattle.ec_grammar.specs.Spelling.{of_declaration, of_next_declarator, of_member, of_structure, of_register_object, of_condition}
use Rattle.ec_grammar.specs.Spelling.{of_first, of_heading, of_compound, of_items, of_item, of_statement, of_function, of_external, of_tree}
use Rattle.ec_grammar.specs.Grammar.{leaves_from, Derives}

abbrev is_end : Lexeme → Bool
is_end tokens.end = true
is_end _ = false

-- what follows the first end
abbrev after_end : List Leaf → Option (List Leaf)
after_end [] = None
after_end (x ∷ xs) = cond (is_end x.lexeme) (Some xs) (after_end xs)

-- no end is among these tokens
abbrev Endless : {A : Type 0} → (A → List Leaf → List Leaf) → Type 0
Endless {A = A} of_one = (x : A) (rest : List Leaf) → after_end (of_one x rest) ≡ after_end rest

endless_list : {A : Type 0} (of_one : A → List Leaf → List Leaf) → Endless of_one → Endless (of_list of_one)
endless_list of_one h [] rest = refl
endless_list of_one h (x ∷ xs) rest = h x (of_list of_one xs rest) ∙ endless_list of_one h xs rest

endless_option : {A : Type 0} (of_one : A → List Leaf → List Leaf) → Endless of_one → Endless (of_option of_one)
endless_option of_one h None rest = refl
endless_option of_one h (Some x) rest = h x rest

-- ---- type names

endless_identifier : Endless of_identifier
endless_identifier (t.identifier s n) rest = refl

endless_pragma : Endless of_pragma
endless_pragma p rest = refl

endless_qualifier : Endless of_qualifier
endless_qualifier q rest = refl

endless_star : Endless of_star
endless_star (t.star s q) rest = endless_list of_qualifier endless_qualifier q rest

endless_spec : Endless of_spec
endless_spec (t.word_spec s w) rest = refl
endless_spec (t.struct_spec s tag) rest = endless_identifier tag rest

endless_specs : Endless of_specs
endless_specs (t.specs first more) rest = endless_spec first _ ∙ endless_list of_spec endless_spec more rest

endless_type_name : Endless of_type_name
endless_type_name (t.type_name sp stars) rest = endless_specs sp _ ∙ endless_list of_star endless_star stars rest

-- ---- expressions

mutual
  endless_expression : (x : t.Expression) (rest : List Leaf) → after_end (of_expression x rest) ≡ after_end rest
  endless_expression (t.single a) rest = endless_assignment a rest
  endless_expression (t.comma e s a) rest = endless_expression e _ ∙ endless_assignment a rest

  endless_assignment : (x : t.Assignment) (rest : List Leaf) → after_end (of_assignment x rest) ≡ after_end rest
  endless_assignment (t.value c) rest = endless_conditional c rest
  endless_assignment (t.assign u s op a) rest = endless_unary u _ ∙ endless_assignment a rest

  endless_conditional : (x : t.Conditional) (rest : List Leaf) → after_end (of_conditional x rest) ≡ after_end rest
  endless_conditional (t.plain b) rest = endless_binary b rest
  endless_conditional (t.choose b q e k c) rest = endless_binary b _ ∙ endless_expression e _ ∙ endless_conditional c rest

  endless_binary : (x : t.Binary) (rest : List Leaf) → after_end (of_binary x rest) ≡ after_end rest
  endless_binary (t.operand c) rest = endless_cast c rest
  endless_binary (t.join a s op b) rest = endless_binary a _ ∙ endless_binary b rest

  endless_cast : (x : t.Cast) (rest : List Leaf) → after_end (of_cast x rest) ≡ after_end rest
  endless_cast (t.uncast u) rest = endless_unary u rest
  endless_cast (t.convert l ty r c) rest = endless_type_name ty _ ∙ endless_cast c rest

  endless_unary : (x : t.Unary) (rest : List Leaf) → after_end (of_unary x rest) ≡ after_end rest
  endless_unary (t.postfix p) rest = endless_postfix p rest
  endless_unary (t.step s op u) rest = endless_unary u rest
  endless_unary (t.prefix s op c) rest = endless_cast c rest
  endless_unary (t.size s l ty r) rest = endless_type_name ty _

  endless_postfix : (x : t.Postfix) (rest : List Leaf) → after_end (of_postfix x rest) ≡ after_end rest
  endless_postfix (t.primary p) rest = endless_primary p rest
  endless_postfix (t.index p l e r) rest = endless_postfix p _ ∙ endless_expression e _
  endless_postfix (t.call p l a r) rest = endless_postfix p _ ∙ endless_arguments a _
  endless_postfix (t.member p s op n) rest = endless_postfix p _ ∙ endless_identifier n rest
  endless_postfix (t.stepped p s op) rest = endless_postfix p _

  endless_arguments : (x : t.Arguments) (rest : List Leaf) → after_end (of_arguments x rest) ≡ after_end rest
  endless_arguments t.no_arguments rest = refl
  endless_arguments (t.arguments a more) rest = endless_assignment a _ ∙ endless_further more rest

  endless_further : (x : t.Further) (rest : List Leaf) → after_end (of_further x rest) ≡ after_end rest
  endless_further t.no_further rest = refl
  endless_further (t.further s a more) rest = endless_assignment a _ ∙ endless_further more rest

  endless_primary : (x : t.Primary) (rest : List Leaf) → after_end (of_primary x rest) ≡ after_end rest
  endless_primary (t.name n) rest = endless_identifier n rest
  endless_primary (t.constant s (constants.Whole value signed bytes)) rest = refl
  endless_primary (t.constant s (constants.Fixed kind n)) rest = refl
  endless_primary (t.parenthesised l e r) rest = endless_expression e _
  endless_primary (t.operation s (operations.Port op) l n more r) rest = endless_identifier n _ ∙ endless_further more _
  endless_primary (t.operation s (operations.Group op) l n more r) rest = endless_identifier n _ ∙ endless_further more _

-- ---- declarators

endless_param : Endless of_param
endless_param (t.param ty n) rest = endless_type_name ty _ ∙ endless_option of_identifier endless_identifier n rest

endless_next_param : Endless of_next_param
endless_next_param (t.next_param s p) rest = endless_param p rest

endless_params : Endless of_params
endless_params (t.void_params s) rest = refl
endless_params (t.params p more) rest = endless_param p _ ∙ endless_list of_next_param endless_next_param more rest

endless_shape : Endless of_shape
endless_shape t.object rest = refl
endless_shape (t.array l c r) rest = endless_option of_conditional endless_conditional c _
endless_shape (t.function_shape l p r) rest = endless_params p _

endless_declarator : Endless of_declarator
endless_declarator (t.declarator stars n shape) rest =
    endless_list of_star endless_star stars _ ∙ endless_identifier n _ ∙ endless_shape shape rest

-- ---- initialisers and declarations

endless_comma : Endless of_comma
endless_comma s rest = refl

mutual
  endless_initialiser : (x : t.Initialiser) (rest : List Leaf) → after_end (of_initialiser x rest) ≡ after_end rest
  endless_initialiser (t.initial_value a) rest = endless_assignment a rest
  endless_initialiser (t.braces l i more c r) rest =
      endless_initialiser i _ ∙ endless_initialisers more _ ∙ endless_option of_comma endless_comma c _

  endless_initialisers : (x : t.Initialisers) (rest : List Leaf) → after_end (of_initialisers x rest) ≡ after_end rest
  endless_initialisers t.no_initialisers rest = refl
  endless_initialisers (t.initialisers s i more) rest = endless_initialiser i _ ∙ endless_initialisers more rest

endless_start : Endless of_start
endless_start (t.start s i) rest = endless_initialiser i rest

endless_init_declarator : Endless of_init_declarator
endless_init_declarator (t.init_declarator d i) rest = endless_declarator d _ ∙ endless_option of_start endless_start i rest

endless_next_init_declarator : Endless of_next_init_declarator
endless_next_init_declarator (t.next_init_declarator s d) rest = endless_init_declarator d rest

endless_declaration : Endless of_declaration
endless_declaration (t.declaration sp d more e) rest =
    endless_specs sp _ ∙ endless_init_declarator d _ ∙ endless_list of_next_init_declarator endless_next_init_declarator more _

endless_next_declarator : Endless of_next_declarator
endless_next_declarator (t.next_declarator s d) rest = endless_declarator d rest

endless_member : Endless of_member
endless_member (t.members sp d more e) rest =
    endless_specs sp _ ∙ endless_declarator d _ ∙ endless_list of_next_declarator endless_next_declarator more _

endless_structure : Endless of_structure
endless_structure (t.structure s tag l m more r e) rest =
    endless_identifier tag _ ∙ endless_member m _ ∙ endless_list of_member endless_member more _

endless_register : Endless of_register_object
endless_register (t.register_object s register sp n e) rest = endless_identifier register _ ∙ endless_specs sp _ ∙ endless_identifier n _

-- ---- statements

endless_condition : Endless of_condition
endless_condition (t.condition l e r) rest = endless_expression e _

endless_optional : Endless (of_option of_expression)
endless_optional e rest = endless_option of_expression endless_expression e rest

endless_first : Endless of_first
endless_first (t.first_declared d) rest = endless_declaration d rest
endless_first (t.first_evaluated e s) rest = endless_optional e _

endless_heading : Endless of_heading
endless_heading (t.heading l f c s e r) rest = endless_first f _ ∙ endless_optional c _ ∙ endless_optional e _

mutual
  endless_compound : (x : t.Compound) (rest : List Leaf) → after_end (of_compound x rest) ≡ after_end rest
  endless_compound (t.compound l pragmas b r) rest = endless_list of_pragma endless_pragma pragmas _ ∙ endless_items b _

  endless_items : (x : t.Items) (rest : List Leaf) → after_end (of_items x rest) ≡ after_end rest
  endless_items t.no_items rest = refl
  endless_items (t.items i more) rest = endless_item i _ ∙ endless_items more rest

  endless_item : (x : t.Item) (rest : List Leaf) → after_end (of_item x rest) ≡ after_end rest
  endless_item (t.declared d) rest = endless_declaration d rest
  endless_item (t.stated s) rest = endless_statement s rest

  endless_statement : (x : t.Statement) (rest : List Leaf) → after_end (of_statement x rest) ≡ after_end rest
  endless_statement (t.block c) rest = endless_compound c rest
  endless_statement (t.simple e s) rest = endless_optional e _
  endless_statement (t.if_then s c b) rest = endless_condition c _ ∙ endless_statement b rest
  endless_statement (t.if_else s c b e o) rest = endless_condition c _ ∙ endless_statement b _ ∙ endless_statement o rest
  endless_statement (t.while_loop s c b) rest = endless_condition c _ ∙ endless_statement b rest
  endless_statement (t.do_loop s b w c e) rest = endless_statement b _ ∙ endless_condition c _
  endless_statement (t.for_loop s h b) rest = endless_heading h _ ∙ endless_statement b rest
  endless_statement (t.break_loop s e) rest = refl
  endless_statement (t.continue_loop s e) rest = refl
  endless_statement (t.return_value s v e) rest = endless_optional v _

-- ---- units

endless_function : Endless of_function
endless_function (t.function ty n l p r b) rest =
    endless_type_name ty _ ∙ endless_identifier n _ ∙ endless_params p _ ∙ endless_compound b rest

endless_external : Endless of_external
endless_external (t.pragma_item p) rest = refl
endless_external (t.structure_item s) rest = endless_structure s rest
endless_external (t.register_item r) rest = endless_register r rest
endless_external (t.declaration_item d) rest = endless_declaration d rest
endless_external (t.function_item f) rest = endless_function f rest

tree_ends : (u : t.Tree) → after_end (of_tree u []) ≡ Some []
tree_ends (t.tree all s) = endless_list of_external endless_external all (leaf s tokens.end ∷ [])

abbrev there : List Leaf → Option (List Leaf)
there xs = Some xs

there_is : (xs ys : List Leaf) → there xs ≡ there ys → xs ≡ ys
there_is xs ys e = cc

-- nothing follows an end, where nothing follows the first
last_end : (n : ℕ) (front more : List Placed) (x : Placed) → is_end x.lexeme ≡ true
    → after_end (leaves_from n (front ++ x ∷ more)) ≡ Some [] → more ≡ []
last_end n [] [] x is e = refl
last_end n [] (y ∷ more) x is e =
    let k : leaves_from (suc n) (y ∷ more) ≡ [] =
    there_is _ _ (sym (ap (λ b. cond b (there (leaves_from (suc n) (y ∷ more))) (after_end (leaves_from (suc n) (y ∷ more)))) is) ∙ e) in
    absurd cc
last_end n (h ∷ front) more x is e = go (is_end h.lexeme) e (λ k. last_end (suc n) front more x is k)
  where
    some_left : (m : ℕ) (front : List Placed) → leaves_from m (front ++ x ∷ more) ≡ [] → ⊥
    some_left m [] k = cc
    some_left m (h ∷ front) k = cc

    go : (b : Bool) → cond b (there (leaves_from (suc n) (front ++ x ∷ more))) (after_end (leaves_from (suc n) (front ++ x ∷ more)))
        ≡ Some [] → (after_end (leaves_from (suc n) (front ++ x ∷ more)) ≡ Some [] → more ≡ []) → more ≡ []
    go true k on = absurd (some_left (suc n) front (there_is _ _ k))
    go false k on = on k

-- Nothing follows the end in the list of a program.
pub nothing_after_end : (front more : List Placed) (x : Placed) (u : t.Tree) → x.lexeme ≡ tokens.end
    → Derives (front ++ x ∷ more) u → more ≡ []
nothing_after_end front more x u is derives = last_end 0 front more x (ap is_end is) (ap after_end derives.0 ∙ tree_ends u)
