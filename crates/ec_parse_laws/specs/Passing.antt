-- The tokens of a tree at which nesting passes a limit. A token does so where it opens one construct more than may be
-- open at once, or where it is the last of a node that is higher by one than the limit. Constructs and heights are
-- those of the grammar's nesting; a right side is opened by the token after its operator, and a statement by its first
-- token. A place is told by the number of tokens from it on.
--
-- Each function speaks of a tree whose tokens stand before `rest`, where `left` more constructs may be opened.
use Rattle.std.specs.Prelude.{ℕ, zero, suc, ◌≡◌, ◌⊎◌, List, [], ◌∷◌, ◌++◌, length, Option, Some, None}
use Rattle.ec_grammar.specs.declared.token.WordKind.TheVariants as words
use Rattle.ec_grammar.specs.declared.token.PunctKind.TheVariants.{RightBrace, RightParenthesis, RightBracket, Semicolon}
use Rattle.ec_grammar.specs.declared.token.PunctKind.TheVariants.{Comma, Colon, Question, LeftBracket, LeftParenthesis}
use Rattle.ec_grammar.specs.declared.Spot.{Spot}
use Rattle.ec_grammar.specs.Tokens as tokens
use Rattle.ec_grammar.specs.Tokens.{Placed}
use Rattle.ec_grammar.specs.Trees as t
use Rattle.ec_grammar.specs.Trees.{Leaf}
use Rattle.ec_grammar.specs.Spelling.{leaf, mark, word, of_list, of_option, of_type_name, of_expression, of_assignment}
use Rattle.ec_grammar.specs.Spelling.{of_conditional, of_binary, of_cast, of_unary, of_arguments, of_further, of_params}
use Rattle.ec_grammar.specs.Spelling.{of_initialiser, of_initialisers, of_comma, of_start, of_next_init_declarator}
use Rattle.ec_grammar.specs.Spelling.{of_next_declarator, of_member, of_condition, of_first, of_compound, of_items}
use Rattle.ec_grammar.specs.Spelling.{of_statement, of_external}
use Rattle.ec_grammar.specs.Grammar.{Derives}
use Rattle.ec_grammar.specs.Nesting as nest

-- the token at `here` opens a construct, with what is inside it
abbrev pub Opened : ℕ → ℕ → ℕ → (ℕ → Type 0) → Type 0
Opened zero here place inside = place ≡ here
Opened (suc left) here place inside = inside left

-- a node of this height ends before `rest`
abbrev pub High : ℕ → ℕ → List Leaf → ℕ → Type 0
High limit height rest place = (height ≡ suc limit) × (place ≡ suc (length rest))

abbrev mutual
  pub PassesExpression : ℕ → ℕ → t.Expression → List Leaf → ℕ → Type 0
  PassesExpression limit left (t.single a) rest place = PassesAssignment limit left a rest place
  PassesExpression limit left (t.comma e s a) rest place =
      PassesExpression limit left e (mark s Comma ∷ of_assignment a rest) place
      ⊎ (PassesAssignment limit left a rest place ⊎ High limit (nest.height_expression (t.comma e s a)) rest place)

  pub PassesAssignment : ℕ → ℕ → t.Assignment → List Leaf → ℕ → Type 0
  PassesAssignment limit left (t.value c) rest place = PassesConditional limit left c rest place
  PassesAssignment limit left (t.assign u s op a) rest place =
      PassesUnary limit left u (mark s op ∷ of_assignment a rest) place
      ⊎ (Opened left (length (of_assignment a rest)) place (λ n. PassesAssignment limit n a rest place)
      ⊎ High limit (nest.height_assignment (t.assign u s op a)) rest place)

  pub PassesConditional : ℕ → ℕ → t.Conditional → List Leaf → ℕ → Type 0
  PassesConditional limit left (t.plain b) rest place = PassesBinary limit left b rest place
  PassesConditional limit left (t.choose b q e k c) rest place =
      PassesBinary limit left b (mark q Question ∷ of_expression e (mark k Colon ∷ of_conditional c rest)) place
      ⊎ (Opened left (length (of_expression e (mark k Colon ∷ of_conditional c rest))) place
      (λ n. PassesExpression limit n e (mark k Colon ∷ of_conditional c rest) place
      ⊎ PassesConditional limit n c rest place)
      ⊎ High limit (nest.height_conditional (t.choose b q e k c)) rest place)

  pub PassesBinary : ℕ → ℕ → t.Binary → List Leaf → ℕ → Type 0
  PassesBinary limit left (t.operand c) rest place = PassesCast limit left c rest place
  PassesBinary limit left (t.join a s op b) rest place =
      PassesBinary limit left a (mark s op ∷ of_binary b rest) place
      ⊎ (PassesBinary limit left b rest place ⊎ High limit (nest.height_binary (t.join a s op b)) rest place)

  pub PassesCast : ℕ → ℕ → t.Cast → List Leaf → ℕ → Type 0
  PassesCast limit left (t.uncast u) rest place = PassesUnary limit left u rest place
  PassesCast limit left (t.convert l ty r c) rest place =
      Opened left (suc (length (of_type_name ty (mark r RightParenthesis ∷ of_cast c rest)))) place
      (λ n. PassesCast limit n c rest place)
      ⊎ High limit (nest.height_cast (t.convert l ty r c)) rest place

  pub PassesUnary : ℕ → ℕ → t.Unary → List Leaf → ℕ → Type 0
  PassesUnary limit left (t.postfix p) rest place = PassesPostfix limit left p rest place
  PassesUnary limit left (t.step s op u) rest place =
      Opened left (suc (length (of_unary u rest))) place (λ n. PassesUnary limit n u rest place)
      ⊎ High limit (nest.height_unary (t.step s op u)) rest place
  PassesUnary limit left (t.prefix s op c) rest place =
      Opened left (suc (length (of_cast c rest))) place (λ n. PassesCast limit n c rest place)
      ⊎ High limit (nest.height_unary (t.prefix s op c)) rest place
  PassesUnary limit left (t.size s l ty r) rest place =
      Opened left (suc (length (of_type_name ty (mark r RightParenthesis ∷ rest)))) place (λ n. ⊥)
      ⊎ High limit 1 rest place

  pub PassesPostfix : ℕ → ℕ → t.Postfix → List Leaf → ℕ → Type 0
  PassesPostfix limit left (t.primary p) rest place = PassesPrimary limit left p rest place
  PassesPostfix limit left (t.index p l e r) rest place =
      PassesPostfix limit left p (mark l LeftBracket ∷ of_expression e (mark r RightBracket ∷ rest)) place
      ⊎ (Opened left (suc (length (of_expression e (mark r RightBracket ∷ rest)))) place
      (λ n. PassesExpression limit n e (mark r RightBracket ∷ rest) place)
      ⊎ High limit (nest.height_postfix (t.index p l e r)) rest place)
  PassesPostfix limit left (t.call p l a r) rest place =
      PassesPostfix limit left p (mark l LeftParenthesis ∷ of_arguments a (mark r RightParenthesis ∷ rest)) place
      ⊎ (Opened left (suc (length (of_arguments a (mark r RightParenthesis ∷ rest)))) place
      (λ n. PassesArguments limit n a (mark r RightParenthesis ∷ rest) place)
      ⊎ High limit (nest.height_postfix (t.call p l a r)) rest place)
  PassesPostfix limit left (t.member p s op (t.identifier i n)) rest place =
      PassesPostfix limit left p (mark s op ∷ leaf i (tokens.name n) ∷ rest) place
      ⊎ High limit (suc (nest.height_postfix p)) rest place
  PassesPostfix limit left (t.stepped p s op) rest place =
      PassesPostfix limit left p (mark s op ∷ rest) place
      ⊎ High limit (suc (nest.height_postfix p)) rest place

  pub PassesArguments : ℕ → ℕ → t.Arguments → List Leaf → ℕ → Type 0
  PassesArguments limit left t.no_arguments rest place = ⊥
  PassesArguments limit left (t.arguments a more) rest place =
      PassesAssignment limit left a (of_further more rest) place ⊎ PassesFurther limit left more rest place

  pub PassesFurther : ℕ → ℕ → t.Further → List Leaf → ℕ → Type 0
  PassesFurther limit left t.no_further rest place = ⊥
  PassesFurther limit left (t.further s a more) rest place =
      PassesAssignment limit left a (of_further more rest) place ⊎ PassesFurther limit left more rest place

  pub PassesPrimary : ℕ → ℕ → t.Primary → List Leaf → ℕ → Type 0
  PassesPrimary limit left (t.name n) rest place = High limit 1 rest place
  PassesPrimary limit left (t.constant s k) rest place = High limit 1 rest place
  PassesPrimary limit left (t.parenthesised l e r) rest place =
      Opened left (suc (length (of_expression e (mark r RightParenthesis ∷ rest)))) place
      (λ n. PassesExpression limit n e (mark r RightParenthesis ∷ rest) place)
      ⊎ High limit (nest.height_primary (t.parenthesised l e r)) rest place
  PassesPrimary limit left (t.operation s op l (t.identifier i n) more r) rest place =
      Opened left (suc (suc (length (of_further more (mark r RightParenthesis ∷ rest))))) place
      (λ n. PassesFurther limit n more (mark r RightParenthesis ∷ rest) place)
      ⊎ High limit (suc (nest.height_further more)) rest place

abbrev pub PassesOption : {A : Type 0} → (A → Type 0) → Option A → Type 0
PassesOption passes None = ⊥
PassesOption passes (Some x) = passes x

-- in one of the trees of a list, each before the tokens of those after it
abbrev pub PassesList : {A : Type 0} → (A → List Leaf → List Leaf) → (A → List Leaf → ℕ → Type 0) → List A → List Leaf
    → ℕ → Type 0
PassesList of_one passes [] rest place = ⊥
PassesList of_one passes (x ∷ xs) rest place =
    passes x (of_list of_one xs rest) place ⊎ PassesList of_one passes xs rest place

abbrev pub PassesShape : ℕ → ℕ → t.Shape → List Leaf → ℕ → Type 0
PassesShape limit left t.object rest place = ⊥
PassesShape limit left (t.array l c r) rest place =
    Opened left (suc (length (of_option of_conditional c (mark r RightBracket ∷ rest)))) place
    (λ n. PassesOption (λ x. PassesConditional limit n x (mark r RightBracket ∷ rest) place) c)
PassesShape limit left (t.function_shape l p r) rest place =
    Opened left (suc (length (of_params p (mark r RightParenthesis ∷ rest)))) place (λ n. ⊥)

abbrev pub PassesDeclarator : ℕ → ℕ → t.Declarator → List Leaf → ℕ → Type 0
PassesDeclarator limit left (t.declarator stars n shape) rest place = PassesShape limit left shape rest place

abbrev mutual
  pub PassesInitialiser : ℕ → ℕ → t.Initialiser → List Leaf → ℕ → Type 0
  PassesInitialiser limit left (t.initial_value a) rest place = PassesAssignment limit left a rest place
  PassesInitialiser limit left (t.braces l i more c r) rest place =
      Opened left (suc (length (of_initialiser i
      (of_initialisers more (of_option of_comma c (mark r RightBrace ∷ rest)))))) place
      (λ n. PassesInitialiser limit n i (of_initialisers more (of_option of_comma c (mark r RightBrace ∷ rest))) place
      ⊎ PassesInitialisers limit n more (of_option of_comma c (mark r RightBrace ∷ rest)) place)
      ⊎ High limit (nest.height_initialiser (t.braces l i more c r)) rest place

  pub PassesInitialisers : ℕ → ℕ → t.Initialisers → List Leaf → ℕ → Type 0
  PassesInitialisers limit left t.no_initialisers rest place = ⊥
  PassesInitialisers limit left (t.initialisers s i more) rest place =
      PassesInitialiser limit left i (of_initialisers more rest) place ⊎ PassesInitialisers limit left more rest place

abbrev pub PassesStart : ℕ → ℕ → t.Start → List Leaf → ℕ → Type 0
PassesStart limit left (t.start s i) rest place = PassesInitialiser limit left i rest place

abbrev pub PassesInitDeclarator : ℕ → ℕ → t.InitDeclarator → List Leaf → ℕ → Type 0
PassesInitDeclarator limit left (t.init_declarator d i) rest place =
    PassesDeclarator limit left d (of_option of_start i rest) place
    ⊎ PassesOption (λ x. PassesStart limit left x rest place) i

abbrev pub PassesNextInitDeclarator : ℕ → ℕ → t.NextInitDeclarator → List Leaf → ℕ → Type 0
PassesNextInitDeclarator limit left (t.next_init_declarator s d) rest place =
    PassesInitDeclarator limit left d rest place

abbrev pub PassesDeclaration : ℕ → ℕ → t.Declaration → List Leaf → ℕ → Type 0
PassesDeclaration limit left (t.declaration sp d more e) rest place =
    PassesInitDeclarator limit left d (of_list of_next_init_declarator more (mark e Semicolon ∷ rest)) place
    ⊎ PassesList of_next_init_declarator (PassesNextInitDeclarator limit left) more (mark e Semicolon ∷ rest) place

abbrev pub PassesNextDeclarator : ℕ → ℕ → t.NextDeclarator → List Leaf → ℕ → Type 0
PassesNextDeclarator limit left (t.next_declarator s d) rest place = PassesDeclarator limit left d rest place

abbrev pub PassesMember : ℕ → ℕ → t.Member → List Leaf → ℕ → Type 0
PassesMember limit left (t.members sp d more e) rest place =
    PassesDeclarator limit left d (of_list of_next_declarator more (mark e Semicolon ∷ rest)) place
    ⊎ PassesList of_next_declarator (PassesNextDeclarator limit left) more (mark e Semicolon ∷ rest) place

abbrev pub PassesCondition : ℕ → ℕ → t.Condition → List Leaf → ℕ → Type 0
PassesCondition limit left (t.condition l e r) rest place =
    Opened left (suc (length (of_expression e (mark r RightParenthesis ∷ rest)))) place
    (λ n. PassesExpression limit n e (mark r RightParenthesis ∷ rest) place)

-- an optional expression before `rest`
abbrev pub PassesOptional : ℕ → ℕ → Option t.Expression → List Leaf → ℕ → Type 0
PassesOptional limit left e rest place = PassesOption (λ x. PassesExpression limit left x rest place) e

abbrev pub PassesFirst : ℕ → ℕ → t.First → List Leaf → ℕ → Type 0
PassesFirst limit left (t.first_declared d) rest place = PassesDeclaration limit left d rest place
PassesFirst limit left (t.first_evaluated e s) rest place = PassesOptional limit left e (mark s Semicolon ∷ rest) place

-- what of a heading follows its first part
abbrev pub after_first : Option t.Expression → Spot → Option t.Expression → Spot → List Leaf → List Leaf
after_first c s e r rest =
    of_option of_expression c (mark s Semicolon ∷ of_option of_expression e (mark r RightParenthesis ∷ rest))

abbrev pub PassesHeading : ℕ → ℕ → t.Heading → List Leaf → ℕ → Type 0
PassesHeading limit left (t.heading l f c s e r) rest place =
    Opened left (suc (length (of_first f (after_first c s e r rest)))) place
    (λ n. PassesFirst limit n f (after_first c s e r rest) place
    ⊎ (PassesOptional limit n c (mark s Semicolon ∷ of_option of_expression e (mark r RightParenthesis ∷ rest)) place
    ⊎ PassesOptional limit n e (mark r RightParenthesis ∷ rest) place))

-- a statement itself is open already where these speak of it
abbrev mutual
  pub PassesCompound : ℕ → ℕ → t.Compound → List Leaf → ℕ → Type 0
  PassesCompound limit left (t.compound l pragmas b r) rest place =
      PassesItems limit left b (mark r RightBrace ∷ rest) place ⊎ High limit (suc (nest.height_items b)) rest place

  pub PassesItems : ℕ → ℕ → t.Items → List Leaf → ℕ → Type 0
  PassesItems limit left t.no_items rest place = ⊥
  PassesItems limit left (t.items i more) rest place =
      PassesItem limit left i (of_items more rest) place ⊎ PassesItems limit left more rest place

  pub PassesItem : ℕ → ℕ → t.Item → List Leaf → ℕ → Type 0
  PassesItem limit left (t.declared d) rest place = PassesDeclaration limit left d rest place
  PassesItem limit left (t.stated s) rest place =
      Opened left (length (of_statement s rest)) place (λ n. PassesStatement limit n s rest place)

  pub PassesStatement : ℕ → ℕ → t.Statement → List Leaf → ℕ → Type 0
  PassesStatement limit left (t.block c) rest place = PassesCompound limit left c rest place
  PassesStatement limit left (t.simple e s) rest place =
      PassesOptional limit left e (mark s Semicolon ∷ rest) place
      ⊎ High limit (nest.height_statement (t.simple e s)) rest place
  PassesStatement limit left (t.if_then s c b) rest place =
      PassesCondition limit left c (of_statement b rest) place
      ⊎ (Opened left (length (of_statement b rest)) place (λ n. PassesStatement limit n b rest place)
      ⊎ High limit (nest.height_statement (t.if_then s c b)) rest place)
  PassesStatement limit left (t.if_else s c b e o) rest place =
      PassesCondition limit left c (of_statement b (word e words.Else ∷ of_statement o rest)) place
      ⊎ (Opened left (length (of_statement b (word e words.Else ∷ of_statement o rest))) place
      (λ n. PassesStatement limit n b (word e words.Else ∷ of_statement o rest) place)
      ⊎ (Opened left (length (of_statement o rest)) place (λ n. PassesStatement limit n o rest place)
      ⊎ High limit (nest.height_statement (t.if_else s c b e o)) rest place))
  PassesStatement limit left (t.while_loop s c b) rest place =
      PassesCondition limit left c (of_statement b rest) place
      ⊎ (Opened left (length (of_statement b rest)) place (λ n. PassesStatement limit n b rest place)
      ⊎ High limit (nest.height_statement (t.while_loop s c b)) rest place)
  PassesStatement limit left (t.do_loop s b w c e) rest place =
      Opened left (length (of_statement b (word w words.While ∷ of_condition c (mark e Semicolon ∷ rest)))) place
      (λ n. PassesStatement limit n b (word w words.While ∷ of_condition c (mark e Semicolon ∷ rest)) place)
      ⊎ (PassesCondition limit left c (mark e Semicolon ∷ rest) place
      ⊎ High limit (nest.height_statement (t.do_loop s b w c e)) rest place)
  PassesStatement limit left (t.for_loop s h b) rest place =
      PassesHeading limit left h (of_statement b rest) place
      ⊎ (Opened left (length (of_statement b rest)) place (λ n. PassesStatement limit n b rest place)
      ⊎ High limit (nest.height_statement (t.for_loop s h b)) rest place)
  PassesStatement limit left (t.break_loop s e) rest place = High limit 1 rest place
  PassesStatement limit left (t.continue_loop s e) rest place = High limit 1 rest place
  PassesStatement limit left (t.return_value s v e) rest place =
      PassesOptional limit left v (mark e Semicolon ∷ rest) place
      ⊎ High limit (nest.height_statement (t.return_value s v e)) rest place

abbrev pub PassesExternal : ℕ → ℕ → t.External → List Leaf → ℕ → Type 0
PassesExternal limit left (t.pragma_item p) rest place = ⊥
PassesExternal limit left (t.structure_item (t.structure s tag l m more r e)) rest place =
    PassesMember limit left m (of_list of_member more (mark r RightBrace ∷ mark e Semicolon ∷ rest)) place
    ⊎ PassesList of_member (PassesMember limit left) more (mark r RightBrace ∷ mark e Semicolon ∷ rest) place
PassesExternal limit left (t.register_item r) rest place = ⊥
PassesExternal limit left (t.declaration_item d) rest place = PassesDeclaration limit left d rest place
-- the parentheses of the parameters open one, and so does the brace of the body
PassesExternal limit left (t.function_item (t.function ty n l p r b)) rest place =
    Opened left (suc (length (of_params p (mark r RightParenthesis ∷ of_compound b rest)))) place (λ n. ⊥)
    ⊎ Opened left (length (of_compound b rest)) place (λ n. PassesCompound limit n b rest place)

-- no construct is open and every height up to the limit is accepted at first
abbrev pub PassesTree : ℕ → t.Tree → ℕ → Type 0
PassesTree limit (t.tree all s) place =
    PassesList of_external (PassesExternal limit limit) all (leaf s tokens.end ∷ []) place

-- ---- lists of tokens

-- some program begins with these tokens
abbrev pub BeginsProgram : List Placed → Type 0
BeginsProgram prefix = (more : List Placed) × (u : t.Tree) × Derives (prefix ++ more) u

-- in the tree of some program that begins with these tokens, nesting passes the limit at the last of them
abbrev pub PassesAtLast : ℕ → List Placed → Type 0
PassesAtLast limit prefix =
    (more : List Placed) × (u : t.Tree) × Derives (prefix ++ more) u × PassesTree limit u (suc (length more))
