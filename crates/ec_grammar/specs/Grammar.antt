-- Which trees are derivations: the operators of each production, the levels of binary operators and the two conditions
-- that the productions alone do not say (ISO/IEC 9899:1999, 6.5 to 6.9).
use Rattle.std.specs.Prelude.{ℕ, suc, ◌≤◌, ◌<◌, ◌≡◌, List, [], ◌∷◌, Bool, true, false, cond, Option, Some, None, ⊤}
use Rattle.ec_grammar.specs.declared.token.WordKind.{WordKind}
use Rattle.ec_grammar.specs.declared.token.WordKind.TheVariants as words
use Rattle.ec_grammar.specs.declared.token.PunctKind.{PunctKind}
use Rattle.ec_grammar.specs.declared.token.PunctKind.TheVariants.{Dot, Arrow, Increment, Decrement, Ampersand, Star}
use Rattle.ec_grammar.specs.declared.token.PunctKind.TheVariants.{Plus, Minus, Tilde, Not, Slash, Percent, ShiftLeft}
use Rattle.ec_grammar.specs.declared.token.PunctKind.TheVariants.{ShiftRight, Less, Greater, LessEqual, GreaterEqual}
use Rattle.ec_grammar.specs.declared.token.PunctKind.TheVariants.{Equal, NotEqual, Caret, Bar, AndAnd, OrOr, Assign}
use Rattle.ec_grammar.specs.declared.token.PunctKind.TheVariants.{StarAssign, SlashAssign, PercentAssign, PlusAssign}
use Rattle.ec_grammar.specs.declared.token.PunctKind.TheVariants.{MinusAssign, ShiftLeftAssign, ShiftRightAssign}
use Rattle.ec_grammar.specs.declared.token.PunctKind.TheVariants.{AmpersandAssign, CaretAssign, BarAssign}
use Rattle.ec_grammar.specs.declared.Qualifier.{Qualifier}
use Rattle.ec_grammar.specs.Tokens.{Placed}
use Rattle.ec_grammar.specs.Trees as t
use Rattle.ec_grammar.specs.Trees.{Leaf}
use Rattle.ec_grammar.specs.Spelling.{of_tree}

-- ---- words

-- `const` and the names of spaces (6.7.3; TR 18037, 5.1.2)
abbrev pub is_qualifier : WordKind → Bool
is_qualifier words.Const = true
is_qualifier words.Flash = true
is_qualifier words.FarFlash = true
is_qualifier words.Data = true
is_qualifier _ = false

-- `extern` and `static` (6.7.1)
abbrev pub is_storage : WordKind → Bool
is_storage words.Extern = true
is_storage words.Static = true
is_storage _ = false

-- the words of types but `struct` (6.7.2; TR 18037, 4.1.1; the names of `<stdint.h>` are words of this profile)
abbrev pub is_type_word : WordKind → Bool
is_type_word words.Char = true
is_type_word words.Int = true
is_type_word words.Long = true
is_type_word words.Short = true
is_type_word words.Signed = true
is_type_word words.Unsigned = true
is_type_word words.Void = true
is_type_word words.Fract = true
is_type_word words.Accum = true
is_type_word words.Sat = true
is_type_word words.Int8 = true
is_type_word words.Uint8 = true
is_type_word words.Int16 = true
is_type_word words.Uint16 = true
is_type_word words.Int32 = true
is_type_word words.Uint32 = true
is_type_word _ = false

abbrev pub is_spec_word : WordKind → Bool
is_spec_word w = cond (is_storage w) true (cond (is_qualifier w) true (is_type_word w))

-- ---- operators

-- the level of a binary operator, the tightest being 1; 0 for another punctuator (6.5.5 to 6.5.14)
abbrev pub level_of : PunctKind → ℕ
level_of Star = 1
level_of Slash = 1
level_of Percent = 1
level_of Plus = 2
level_of Minus = 2
level_of ShiftLeft = 3
level_of ShiftRight = 3
level_of Less = 4
level_of Greater = 4
level_of LessEqual = 4
level_of GreaterEqual = 4
level_of Equal = 5
level_of NotEqual = 5
level_of Ampersand = 6
level_of Caret = 7
level_of Bar = 8
level_of AndAnd = 9
level_of OrOr = 10
level_of _ = 0

-- the level of the operator at the top; 0 for a cast expression
abbrev pub rank : t.Binary → ℕ
rank (t.operand c) = 0
rank (t.join a s op b) = level_of op

-- assignment operators (6.5.16)
abbrev pub is_assign : PunctKind → Bool
is_assign Assign = true
is_assign StarAssign = true
is_assign SlashAssign = true
is_assign PercentAssign = true
is_assign PlusAssign = true
is_assign MinusAssign = true
is_assign ShiftLeftAssign = true
is_assign ShiftRightAssign = true
is_assign AmpersandAssign = true
is_assign CaretAssign = true
is_assign BarAssign = true
is_assign _ = false

-- `++` and `--` (6.5.2.4 and 6.5.3.1)
abbrev pub is_step : PunctKind → Bool
is_step Increment = true
is_step Decrement = true
is_step _ = false

-- unary operators before a cast expression (6.5.3)
abbrev pub is_prefix : PunctKind → Bool
is_prefix Ampersand = true
is_prefix Star = true
is_prefix Plus = true
is_prefix Minus = true
is_prefix Tilde = true
is_prefix Not = true
is_prefix _ = false

-- `.` and `->` (6.5.2.3)
abbrev pub is_access : PunctKind → Bool
is_access Dot = true
is_access Arrow = true
is_access _ = false

-- ---- each operator and word stands in a production that has it, and binary operators by their levels, joined from the
-- left

abbrev pub Every : {A : Type 0} → (A → Type 0) → List A → Type 0
Every P [] = ⊤
Every P (x ∷ xs) = P x × Every P xs

abbrev pub Given : {A : Type 0} → (A → Type 0) → Option A → Type 0
Given P None = ⊤
Given P (Some x) = P x

abbrev pub Is_qualifier : Qualifier → Type 0
Is_qualifier q = is_qualifier q.word ≡ true

abbrev pub Is_star : t.Star → Type 0
Is_star (t.star s qualifiers) = Every Is_qualifier qualifiers

abbrev pub Is_spec : t.Spec → Type 0
Is_spec (t.word_spec s w) = is_spec_word w ≡ true
Is_spec (t.struct_spec s tag) = ⊤

abbrev pub Is_specs : t.Specs → Type 0
Is_specs (t.specs first more) = Is_spec first × Every Is_spec more

abbrev pub Is_type_name : t.TypeName → Type 0
Is_type_name (t.type_name sp stars) = Is_specs sp × Every Is_star stars

abbrev mutual
  pub Is_expression : t.Expression → Type 0
  Is_expression (t.single a) = Is_assignment a
  Is_expression (t.comma e s a) = Is_expression e × Is_assignment a

  pub Is_assignment : t.Assignment → Type 0
  Is_assignment (t.value c) = Is_conditional c
  Is_assignment (t.assign u s op a) = Is_unary u × (is_assign op ≡ true) × Is_assignment a

  pub Is_conditional : t.Conditional → Type 0
  Is_conditional (t.plain b) = Is_binary b
  Is_conditional (t.choose b q e k c) = Is_binary b × Is_expression e × Is_conditional c

  pub Is_binary : t.Binary → Type 0
  Is_binary (t.operand c) = Is_cast c
  Is_binary (t.join a s op b) = Is_binary a × Is_binary b × (rank a ≤ level_of op) × (rank b < level_of op)

  pub Is_cast : t.Cast → Type 0
  Is_cast (t.uncast u) = Is_unary u
  Is_cast (t.convert l ty r c) = Is_type_name ty × Is_cast c

  pub Is_unary : t.Unary → Type 0
  Is_unary (t.postfix p) = Is_postfix p
  Is_unary (t.step s op u) = (is_step op ≡ true) × Is_unary u
  Is_unary (t.prefix s op c) = (is_prefix op ≡ true) × Is_cast c
  Is_unary (t.size s l ty r) = Is_type_name ty

  pub Is_postfix : t.Postfix → Type 0
  Is_postfix (t.primary p) = Is_primary p
  Is_postfix (t.index p l e r) = Is_postfix p × Is_expression e
  Is_postfix (t.call p l a r) = Is_postfix p × Are_arguments a
  Is_postfix (t.member p s op n) = Is_postfix p × (is_access op ≡ true)
  Is_postfix (t.stepped p s op) = Is_postfix p × (is_step op ≡ true)

  pub Are_arguments : t.Arguments → Type 0
  Are_arguments t.no_arguments = ⊤
  Are_arguments (t.arguments a more) = Is_assignment a × Are_further more

  pub Are_further : t.Further → Type 0
  Are_further t.no_further = ⊤
  Are_further (t.further s a more) = Is_assignment a × Are_further more

  pub Is_primary : t.Primary → Type 0
  Is_primary (t.name n) = ⊤
  Is_primary (t.constant s k) = ⊤
  Is_primary (t.parenthesised l e r) = Is_expression e
  Is_primary (t.operation s op l n more r) = Are_further more

-- the word `void` alone, which is no parameter (6.7.5.3, 10)
abbrev pub is_void : WordKind → Bool
is_void words.Void = true
is_void _ = false

abbrev pub lone_void : t.TypeName → Option t.Identifier → Bool
lone_void (t.type_name (t.specs (t.word_spec s w) []) []) None = is_void w
lone_void _ _ = false

abbrev pub Is_param : t.Param → Type 0
Is_param (t.param ty n) = Is_type_name ty × (lone_void ty n ≡ false)

abbrev pub Is_next_param : t.NextParam → Type 0
Is_next_param (t.next_param s p) = Is_param p

abbrev pub Are_params : t.Params → Type 0
Are_params (t.void_params s) = ⊤
Are_params (t.params p more) = Is_param p × Every Is_next_param more

abbrev pub Is_shape : t.Shape → Type 0
Is_shape t.object = ⊤
Is_shape (t.array l c r) = Given Is_conditional c
Is_shape (t.function_shape l p r) = Are_params p

abbrev pub Is_declarator : t.Declarator → Type 0
Is_declarator (t.declarator stars n shape) = Every Is_star stars × Is_shape shape

abbrev mutual
  pub Is_initialiser : t.Initialiser → Type 0
  Is_initialiser (t.initial_value a) = Is_assignment a
  Is_initialiser (t.braces l i more c r) = Is_initialiser i × Are_initialisers more

  pub Are_initialisers : t.Initialisers → Type 0
  Are_initialisers t.no_initialisers = ⊤
  Are_initialisers (t.initialisers s i more) = Is_initialiser i × Are_initialisers more

abbrev pub Is_start : t.Start → Type 0
Is_start (t.start s i) = Is_initialiser i

abbrev pub Is_init_declarator : t.InitDeclarator → Type 0
Is_init_declarator (t.init_declarator d i) = Is_declarator d × Given Is_start i

abbrev pub Is_next_init_declarator : t.NextInitDeclarator → Type 0
Is_next_init_declarator (t.next_init_declarator s d) = Is_init_declarator d

abbrev pub Is_declaration : t.Declaration → Type 0
Is_declaration (t.declaration sp d more e) = Is_specs sp × Is_init_declarator d × Every Is_next_init_declarator more

abbrev pub Is_next_declarator : t.NextDeclarator → Type 0
Is_next_declarator (t.next_declarator s d) = Is_declarator d

abbrev pub Is_member : t.Member → Type 0
Is_member (t.members sp d more e) = Is_specs sp × Is_declarator d × Every Is_next_declarator more

abbrev pub Is_structure : t.Structure → Type 0
Is_structure (t.structure s tag l m more r e) = Is_member m × Every Is_member more

abbrev pub Is_register_object : t.RegisterObject → Type 0
Is_register_object (t.register_object s register sp n e) = Is_specs sp

-- whether an `else` that followed would belong to an `if` in it (6.8.4.1, 3)
abbrev pub is_open : t.Statement → Bool
is_open (t.block c) = false
is_open (t.simple e s) = false
is_open (t.if_then s c b) = true
is_open (t.if_else s c b e o) = is_open o
is_open (t.while_loop s c b) = is_open b
is_open (t.do_loop s b w c e) = false
is_open (t.for_loop s h b) = is_open b
is_open (t.break_loop s e) = false
is_open (t.continue_loop s e) = false
is_open (t.return_value s v e) = false

abbrev pub Is_condition : t.Condition → Type 0
Is_condition (t.condition l e r) = Is_expression e

abbrev pub Is_first : t.First → Type 0
Is_first (t.first_declared d) = Is_declaration d
Is_first (t.first_evaluated e s) = Given Is_expression e

abbrev pub Is_heading : t.Heading → Type 0
Is_heading (t.heading l f c s e r) = Is_first f × Given Is_expression c × Given Is_expression e

abbrev mutual
  pub Is_compound : t.Compound → Type 0
  Is_compound (t.compound l pragmas b r) = Are_items b

  pub Are_items : t.Items → Type 0
  Are_items t.no_items = ⊤
  Are_items (t.items i more) = Is_item i × Are_items more

  pub Is_item : t.Item → Type 0
  Is_item (t.declared d) = Is_declaration d
  Is_item (t.stated s) = Is_statement s

  -- an `else` belongs to the nearest `if` that can take it
  pub Is_statement : t.Statement → Type 0
  Is_statement (t.block c) = Is_compound c
  Is_statement (t.simple e s) = Given Is_expression e
  Is_statement (t.if_then s c b) = Is_condition c × Is_statement b
  Is_statement (t.if_else s c b e o) = Is_condition c × Is_statement b × (is_open b ≡ false) × Is_statement o
  Is_statement (t.while_loop s c b) = Is_condition c × Is_statement b
  Is_statement (t.do_loop s b w c e) = Is_statement b × Is_condition c
  Is_statement (t.for_loop s h b) = Is_heading h × Is_statement b
  Is_statement (t.break_loop s e) = ⊤
  Is_statement (t.continue_loop s e) = ⊤
  Is_statement (t.return_value s v e) = Given Is_expression v

abbrev pub Is_function : t.Function → Type 0
Is_function (t.function ty n l p r b) = Is_type_name ty × Are_params p × Is_compound b

abbrev pub Is_external : t.External → Type 0
Is_external (t.pragma_item p) = ⊤
Is_external (t.structure_item s) = Is_structure s
Is_external (t.register_item r) = Is_register_object r
Is_external (t.declaration_item d) = Is_declaration d
Is_external (t.function_item f) = Is_function f

abbrev pub Is_tree : t.Tree → Type 0
Is_tree (t.tree all s) = Every Is_external all

-- ---- derivations

-- each token with its index, counted from n
abbrev pub leaves_from : ℕ → List Placed → List Leaf
leaves_from n [] = []
leaves_from n (x ∷ xs) = record { spot = record { index = n; at = x.at }; lexeme = x.lexeme } ∷ leaves_from (suc n) xs

-- the tree is a derivation of these leaves
abbrev pub Spells : List Leaf → t.Tree → Type 0
Spells leaves whole = (leaves ≡ of_tree whole []) × Is_tree whole

-- the tree is a derivation of the list of tokens, each leaf being the token at its index
abbrev pub Derives : List Placed → t.Tree → Type 0
Derives tokens whole = Spells (leaves_from 0 tokens) whole
