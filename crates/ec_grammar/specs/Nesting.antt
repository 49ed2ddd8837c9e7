-- How deep a tree nests: heights, and how many constructs are open at once. The limit on both is a limit of this
-- project's translator (ISO/IEC 9899:1999, 5.2.4.1, leaves such limits to the translator above its own minimum).
--
-- The height of an expression, an initialiser or a statement is 1 more than the greatest height of those directly in
-- it. A production with one part and no token of its own adds none. What stands inside a declaration counts in the
-- statement that holds it.
use Rattle.std.specs.Prelude.{ℕ, suc, max, ◌≤◌, List, [], ◌∷◌, Option, Some, None}
use Rattle.ec_grammar.specs.Trees as t

-- the greatest height in a list
abbrev pub height_list : {A : Type 0} → (A → ℕ) → List A → ℕ
height_list height [] = 0
height_list height (x ∷ xs) = max (height x) (height_list height xs)

abbrev pub height_option : {A : Type 0} → (A → ℕ) → Option A → ℕ
height_option height None = 0
height_option height (Some x) = height x

abbrev mutual
  pub height_expression : t.Expression → ℕ
  height_expression (t.single a) = height_assignment a
  height_expression (t.comma e s a) = suc (max (height_expression e) (height_assignment a))

  pub height_assignment : t.Assignment → ℕ
  height_assignment (t.value c) = height_conditional c
  height_assignment (t.assign u s op a) = suc (max (height_unary u) (height_assignment a))

  pub height_conditional : t.Conditional → ℕ
  height_conditional (t.plain b) = height_binary b
  height_conditional (t.choose b q e k c) =
      suc (max (max (height_binary b) (height_expression e)) (height_conditional c))

  pub height_binary : t.Binary → ℕ
  height_binary (t.operand c) = height_cast c
  height_binary (t.join a s op b) = suc (max (height_binary a) (height_binary b))

  pub height_cast : t.Cast → ℕ
  height_cast (t.uncast u) = height_unary u
  height_cast (t.convert l ty r c) = suc (height_cast c)

  pub height_unary : t.Unary → ℕ
  height_unary (t.postfix p) = height_postfix p
  height_unary (t.step s op u) = suc (height_unary u)
  height_unary (t.prefix s op c) = suc (height_cast c)
  height_unary (t.size s l ty r) = 1

  pub height_postfix : t.Postfix → ℕ
  height_postfix (t.primary p) = height_primary p
  height_postfix (t.index p l e r) = suc (max (height_postfix p) (height_expression e))
  height_postfix (t.call p l a r) = suc (max (height_postfix p) (height_arguments a))
  height_postfix (t.member p s op n) = suc (height_postfix p)
  height_postfix (t.stepped p s op) = suc (height_postfix p)

  pub height_arguments : t.Arguments → ℕ
  height_arguments t.no_arguments = 0
  height_arguments (t.arguments a more) = max (height_assignment a) (height_further more)

  pub height_further : t.Further → ℕ
  height_further t.no_further = 0
  height_further (t.further s a more) = max (height_assignment a) (height_further more)

  pub height_primary : t.Primary → ℕ
  height_primary (t.name n) = 1
  height_primary (t.constant s k) = 1
  height_primary (t.parenthesised l e r) = suc (height_expression e)
  height_primary (t.operation s op l n more r) = suc (height_further more)

abbrev pub height_shape : t.Shape → ℕ
height_shape t.object = 0
height_shape (t.array l c r) = height_option height_conditional c
height_shape (t.function_shape l p r) = 0

abbrev pub height_declarator : t.Declarator → ℕ
height_declarator (t.declarator stars n shape) = height_shape shape

abbrev mutual
  pub height_initialiser : t.Initialiser → ℕ
  height_initialiser (t.initial_value a) = height_assignment a
  height_initialiser (t.braces l i more c r) = suc (max (height_initialiser i) (height_initialisers more))

  pub height_initialisers : t.Initialisers → ℕ
  height_initialisers t.no_initialisers = 0
  height_initialisers (t.initialisers s i more) = max (height_initialiser i) (height_initialisers more)

abbrev pub height_start : t.Start → ℕ
height_start (t.start s i) = height_initialiser i

abbrev pub height_init_declarator : t.InitDeclarator → ℕ
height_init_declarator (t.init_declarator d i) = max (height_declarator d) (height_option height_start i)

abbrev pub height_next_init_declarator : t.NextInitDeclarator → ℕ
height_next_init_declarator (t.next_init_declarator s d) = height_init_declarator d

abbrev pub height_declaration : t.Declaration → ℕ
height_declaration (t.declaration sp d more e) =
    max (height_init_declarator d) (height_list height_next_init_declarator more)

abbrev pub height_next_declarator : t.NextDeclarator → ℕ
height_next_declarator (t.next_declarator s d) = height_declarator d

abbrev pub height_member : t.Member → ℕ
height_member (t.members sp d more e) = max (height_declarator d) (height_list height_next_declarator more)

abbrev pub height_condition : t.Condition → ℕ
height_condition (t.condition l e r) = height_expression e

abbrev pub height_first : t.First → ℕ
height_first (t.first_declared d) = height_declaration d
height_first (t.first_evaluated e s) = height_option height_expression e

abbrev pub height_heading : t.Heading → ℕ
height_heading (t.heading l f c s e r) =
    max (height_first f) (max (height_option height_expression c) (height_option height_expression e))

abbrev mutual
  pub height_compound : t.Compound → ℕ
  height_compound (t.compound l pragmas b r) = suc (height_items b)

  pub height_items : t.Items → ℕ
  height_items t.no_items = 0
  height_items (t.items i more) = max (height_item i) (height_items more)

  pub height_item : t.Item → ℕ
  height_item (t.declared d) = height_declaration d
  height_item (t.stated s) = height_statement s

  pub height_statement : t.Statement → ℕ
  height_statement (t.block c) = height_compound c
  height_statement (t.simple e s) = suc (height_option height_expression e)
  height_statement (t.if_then s c b) = suc (max (height_condition c) (height_statement b))
  height_statement (t.if_else s c b e o) =
      suc (max (max (height_condition c) (height_statement b)) (height_statement o))
  height_statement (t.while_loop s c b) = suc (max (height_condition c) (height_statement b))
  height_statement (t.do_loop s b w c e) = suc (max (height_statement b) (height_condition c))
  height_statement (t.for_loop s h b) = suc (max (height_heading h) (height_statement b))
  height_statement (t.break_loop s e) = 1
  height_statement (t.continue_loop s e) = 1
  height_statement (t.return_value s v e) = suc (height_option height_expression v)

-- ---- the most constructs that are open at once: statements, parentheses, square brackets, braces of initialisers,
-- prefix operators, casts (whose parentheses count as no others), and the right sides of assignments and conditionals

abbrev mutual
  pub opens_expression : t.Expression → ℕ
  opens_expression (t.single a) = opens_assignment a
  opens_expression (t.comma e s a) = max (opens_expression e) (opens_assignment a)

  pub opens_assignment : t.Assignment → ℕ
  opens_assignment (t.value c) = opens_conditional c
  opens_assignment (t.assign u s op a) = max (opens_unary u) (suc (opens_assignment a))

  pub opens_conditional : t.Conditional → ℕ
  opens_conditional (t.plain b) = opens_binary b
  opens_conditional (t.choose b q e k c) = max (opens_binary b) (suc (max (opens_expression e) (opens_conditional c)))

  pub opens_binary : t.Binary → ℕ
  opens_binary (t.operand c) = opens_cast c
  opens_binary (t.join a s op b) = max (opens_binary a) (opens_binary b)

  pub opens_cast : t.Cast → ℕ
  opens_cast (t.uncast u) = opens_unary u
  opens_cast (t.convert l ty r c) = suc (opens_cast c)

  pub opens_unary : t.Unary → ℕ
  opens_unary (t.postfix p) = opens_postfix p
  opens_unary (t.step s op u) = suc (opens_unary u)
  opens_unary (t.prefix s op c) = suc (opens_cast c)
  opens_unary (t.size s l ty r) = 1

  pub opens_postfix : t.Postfix → ℕ
  opens_postfix (t.primary p) = opens_primary p
  opens_postfix (t.index p l e r) = max (opens_postfix p) (suc (opens_expression e))
  opens_postfix (t.call p l a r) = max (opens_postfix p) (suc (opens_arguments a))
  opens_postfix (t.member p s op n) = opens_postfix p
  opens_postfix (t.stepped p s op) = opens_postfix p

  pub opens_arguments : t.Arguments → ℕ
  opens_arguments t.no_arguments = 0
  opens_arguments (t.arguments a more) = max (opens_assignment a) (opens_further more)

  pub opens_further : t.Further → ℕ
  opens_further t.no_further = 0
  opens_further (t.further s a more) = max (opens_assignment a) (opens_further more)

  pub opens_primary : t.Primary → ℕ
  opens_primary (t.name n) = 0
  opens_primary (t.constant s k) = 0
  opens_primary (t.parenthesised l e r) = suc (opens_expression e)
  opens_primary (t.operation s op l n more r) = suc (opens_further more)

abbrev pub opens_shape : t.Shape → ℕ
opens_shape t.object = 0
opens_shape (t.array l c r) = suc (height_option opens_conditional c)
opens_shape (t.function_shape l p r) = 1

abbrev pub opens_declarator : t.Declarator → ℕ
opens_declarator (t.declarator stars n shape) = opens_shape shape

abbrev mutual
  pub opens_initialiser : t.Initialiser → ℕ
  opens_initialiser (t.initial_value a) = opens_assignment a
  opens_initialiser (t.braces l i more c r) = suc (max (opens_initialiser i) (opens_initialisers more))

  pub opens_initialisers : t.Initialisers → ℕ
  opens_initialisers t.no_initialisers = 0
  opens_initialisers (t.initialisers s i more) = max (opens_initialiser i) (opens_initialisers more)

abbrev pub opens_start : t.Start → ℕ
opens_start (t.start s i) = opens_initialiser i

abbrev pub opens_init_declarator : t.InitDeclarator → ℕ
opens_init_declarator (t.init_declarator d i) = max (opens_declarator d) (height_option opens_start i)

abbrev pub opens_next_init_declarator : t.NextInitDeclarator → ℕ
opens_next_init_declarator (t.next_init_declarator s d) = opens_init_declarator d

abbrev pub opens_declaration : t.Declaration → ℕ
opens_declaration (t.declaration sp d more e) =
    max (opens_init_declarator d) (height_list opens_next_init_declarator more)

abbrev pub opens_next_declarator : t.NextDeclarator → ℕ
opens_next_declarator (t.next_declarator s d) = opens_declarator d

abbrev pub opens_member : t.Member → ℕ
opens_member (t.members sp d more e) = max (opens_declarator d) (height_list opens_next_declarator more)

abbrev pub opens_condition : t.Condition → ℕ
opens_condition (t.condition l e r) = suc (opens_expression e)

abbrev pub opens_first : t.First → ℕ
opens_first (t.first_declared d) = opens_declaration d
opens_first (t.first_evaluated e s) = height_option opens_expression e

abbrev pub opens_heading : t.Heading → ℕ
opens_heading (t.heading l f c s e r) =
    suc (max (opens_first f) (max (height_option opens_expression c) (height_option opens_expression e)))

abbrev mutual
  pub opens_compound : t.Compound → ℕ
  opens_compound (t.compound l pragmas b r) = suc (opens_items b)

  pub opens_items : t.Items → ℕ
  opens_items t.no_items = 0
  opens_items (t.items i more) = max (opens_item i) (opens_items more)

  pub opens_item : t.Item → ℕ
  opens_item (t.declared d) = opens_declaration d
  opens_item (t.stated s) = opens_statement s

  pub opens_statement : t.Statement → ℕ
  opens_statement (t.block c) = opens_compound c
  opens_statement (t.simple e s) = suc (height_option opens_expression e)
  opens_statement (t.if_then s c b) = suc (max (opens_condition c) (opens_statement b))
  opens_statement (t.if_else s c b e o) = suc (max (opens_condition c) (max (opens_statement b) (opens_statement o)))
  opens_statement (t.while_loop s c b) = suc (max (opens_condition c) (opens_statement b))
  opens_statement (t.do_loop s b w c e) = suc (max (opens_statement b) (opens_condition c))
  opens_statement (t.for_loop s h b) = suc (max (opens_heading h) (opens_statement b))
  opens_statement (t.break_loop s e) = 1
  opens_statement (t.continue_loop s e) = 1
  opens_statement (t.return_value s v e) = suc (height_option opens_expression v)

abbrev pub height_external : t.External → ℕ
height_external (t.pragma_item p) = 0
height_external (t.structure_item (t.structure s tag l m more r e)) =
    max (height_member m) (height_list height_member more)
height_external (t.register_item r) = 0
height_external (t.declaration_item d) = height_declaration d
height_external (t.function_item (t.function ty n l p r b)) = height_compound b

abbrev pub opens_external : t.External → ℕ
opens_external (t.pragma_item p) = 0
opens_external (t.structure_item (t.structure s tag l m more r e)) =
    max (opens_member m) (height_list opens_member more)
opens_external (t.register_item r) = 0
opens_external (t.declaration_item d) = opens_declaration d
opens_external (t.function_item (t.function ty n l p r b)) = max 1 (opens_compound b)

-- no node of the tree is higher than the limit, and no token of it opens one construct more
abbrev pub NestsIn : ℕ → t.Tree → Type 0
NestsIn limit (t.tree all s) = (height_list height_external all ≤ limit) × (height_list opens_external all ≤ limit)

-- the nesting that is accepted
abbrev pub Nests : t.Tree → Type 0
Nests whole = NestsIn 64 whole
