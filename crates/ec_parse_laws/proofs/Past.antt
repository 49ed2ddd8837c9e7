-- What follows a tree is a part of the whole list.
use Rattle.std.proofs.Common.{suc, ◌<◌, ◌≤◌, List, [], ◌∷◌, length, Option, Some, None, arith}
use Rattle.ec_grammar.specs.declared.Pragma.{Pragma}
use Rattle.ec_grammar.specs.declared.Qualifier.{Qualifier}
use Rattle.ec_grammar.specs.declared.token.PunctKind.TheVariants.{LeftBrace, RightBrace, LeftParenthesis, RightParenthesis, LeftBracket}
use Rattle.ec_grammar.specs.declared.token.PunctKind.TheVariants.{RightBracket, Semicolon, Question, Colon}
use Rattle.ec_grammar.specs.Trees as t
use Rattle.ec_grammar.specs.Trees.{Leaf}
use Rattle.ec_grammar.specs.Spelling.{mark, of_list, of_option, of_identifier, of_pragma, of_qualifier, of_star, of_spec, of_specs}
use Rattle.ec_grammar.specs.Spelling.{of_type_name, of_expression, of_assignment, of_conditional, of_binary, of_cast, of_unary, of_postfix}
use Rattle.ec_grammar.specs.Spelling.{of_arguments, of_further, of_primary, of_param, of_next_param, of_params, of_shape, of_declarator}
use Rattle.ec_grammar.specs.Spelling.{of_comma, of_initialiser, of_initialisers, of_start, of_init_declarator, of_next_init_declarator}
use Rattle.ec_grammar.specs.Spelling.{of_declaration, of_next_declarator, of_member, of_condition, of_first, of_heading, of_compound}
use Rattle.ec_grammar.specs.Spelling.{of_items, of_item, of_statement, of_external}

-- the first list is the rest of the second
pub data Past : List Leaf → List Leaf → Type 0 where
  all : {ts : List Leaf} → Past ts ts
  later : {x : Leaf} {ts us : List Leaf} → Past ts us → Past ts (x ∷ us)

pub past_length : (ts us : List Leaf) → Past ts us → length ts ≤ length us
past_length ts us all = omega arith
past_length ts us (later p) = omega (arith, past_length _ _ p)

-- one after the other
pub over : {ts us vs : List Leaf} → Past ts us → Past us vs → Past ts vs
over p all = p
over p (later q) = later (over p q)

pub list_past : {A : Type 0} (of_one : A → List Leaf → List Leaf) → ((x : A) (rest : List Leaf) → Past rest (of_one x rest))
    → (xs : List A) (rest : List Leaf) → Past rest (of_list of_one xs rest)
list_past of_one one [] rest = all
list_past of_one one (x ∷ xs) rest = over (list_past of_one one xs rest) (one x _)

pub option_past : {A : Type 0} (of_one : A → List Leaf → List Leaf) → ((x : A) (rest : List Leaf) → Past rest (of_one x rest))
    → (o : Option A) (rest : List Leaf) → Past rest (of_option of_one o rest)
option_past of_one one None rest = all
option_past of_one one (Some x) rest = one x rest

-- a list has no more items than tokens, where each item has one
pub list_long : {A : Type 0} (of_one : A → List Leaf → List Leaf) → ((x : A) (rest : List Leaf) → length rest < length (of_one x rest))
    → (xs : List A) (rest : List Leaf) → length xs ≤ length (of_list of_one xs rest)
list_long of_one one [] rest = omega arith
list_long of_one one (x ∷ xs) rest = omega (arith, list_long of_one one xs rest, one x (of_list of_one xs rest))

pub identifier_past : (n : t.Identifier) (rest : List Leaf) → Past rest (of_identifier n rest)
identifier_past (t.identifier s n) rest = later all

qualifier_past : (q : Qualifier) (rest : List Leaf) → Past rest (of_qualifier q rest)
qualifier_past q rest = later all

pub star_past : (s : t.Star) (rest : List Leaf) → Past rest (of_star s rest)
star_past (t.star s q) rest = later (list_past of_qualifier qualifier_past q rest)

pub spec_past : (s : t.Spec) (rest : List Leaf) → Past rest (of_spec s rest)
spec_past (t.word_spec s w) rest = later all
spec_past (t.struct_spec s n) rest = later (identifier_past n rest)

pub specs_past : (s : t.Specs) (rest : List Leaf) → Past rest (of_specs s rest)
specs_past (t.specs s more) rest = over (list_past of_spec spec_past more rest) (spec_past s _)

pub type_name_past : (ty : t.TypeName) (rest : List Leaf) → Past rest (of_type_name ty rest)
type_name_past (t.type_name s stars) rest = over (list_past of_star star_past stars rest) (specs_past s _)

mutual
  pub expression_past : (e : t.Expression) (rest : List Leaf) → Past rest (of_expression e rest)
  expression_past (t.single a) rest = assignment_past a rest
  expression_past (t.comma e s a) rest = over (later (assignment_past a rest)) (expression_past e _)

  pub assignment_past : (a : t.Assignment) (rest : List Leaf) → Past rest (of_assignment a rest)
  assignment_past (t.value c) rest = conditional_past c rest
  assignment_past (t.assign u s op a) rest = over (later (assignment_past a rest)) (unary_past u _)

  pub conditional_past : (c : t.Conditional) (rest : List Leaf) → Past rest (of_conditional c rest)
  conditional_past (t.plain b) rest = binary_past b rest
  conditional_past (t.choose b q e k c) rest = over (later (over (later (conditional_past c rest)) (expression_past e _))) (binary_past b _)

  pub binary_past : (b : t.Binary) (rest : List Leaf) → Past rest (of_binary b rest)
  binary_past (t.operand c) rest = cast_past c rest
  binary_past (t.join a s op b) rest = over (later (binary_past b rest)) (binary_past a _)

  pub cast_past : (c : t.Cast) (rest : List Leaf) → Past rest (of_cast c rest)
  cast_past (t.uncast u) rest = unary_past u rest
  cast_past (t.convert l ty r c) rest = later (over (later (cast_past c rest)) (type_name_past ty _))

  pub unary_past : (u : t.Unary) (rest : List Leaf) → Past rest (of_unary u rest)
  unary_past (t.postfix p) rest = postfix_past p rest
  unary_past (t.step s op u) rest = later (unary_past u rest)
  unary_past (t.prefix s op c) rest = later (cast_past c rest)
  unary_past (t.size s l ty r) rest = later (later (over (later all) (type_name_past ty _)))

  pub postfix_past : (p : t.Postfix) (rest : List Leaf) → Past rest (of_postfix p rest)
  postfix_past (t.primary p) rest = primary_past p rest
  postfix_past (t.index p l e r) rest = over (later (over (later all) (expression_past e _))) (postfix_past p _)
  postfix_past (t.call p l a r) rest = over (later (over (later all) (arguments_past a _))) (postfix_past p _)
  postfix_past (t.member p s op n) rest = over (later (identifier_past n rest)) (postfix_past p _)
  postfix_past (t.stepped p s op) rest = over (later all) (postfix_past p _)

  pub arguments_past : (a : t.Arguments) (rest : List Leaf) → Past rest (of_arguments a rest)
  arguments_past t.no_arguments rest = all
  arguments_past (t.arguments a more) rest = over (further_past more rest) (assignment_past a _)

  pub further_past : (a : t.Further) (rest : List Leaf) → Past rest (of_further a rest)
  further_past t.no_further rest = all
  further_past (t.further s a more) rest = later (over (further_past more rest) (assignment_past a _))

  primary_past : (p : t.Primary) (rest : List Leaf) → Past rest (of_primary p rest)
  primary_past (t.name n) rest = identifier_past n rest
  primary_past (t.constant s k) rest = later all
  primary_past (t.parenthesised l e r) rest = later (over (later all) (expression_past e _))
  primary_past (t.operation s op l n more r) rest = later (later (over (over (later all) (further_past more _)) (identifier_past n _)))

param_past : (p : t.Param) (rest : List Leaf) → Past rest (of_param p rest)
param_past (t.param ty n) rest = over (option_past of_identifier identifier_past n rest) (type_name_past ty _)

next_param_past : (p : t.NextParam) (rest : List Leaf) → Past rest (of_next_param p rest)
next_param_past (t.next_param s p) rest = later (param_past p rest)

pub params_past : (p : t.Params) (rest : List Leaf) → Past rest (of_params p rest)
params_past (t.void_params s) rest = later all
params_past (t.params p more) rest = over (list_past of_next_param next_param_past more rest) (param_past p _)

pub shape_past : (s : t.Shape) (rest : List Leaf) → Past rest (of_shape s rest)
shape_past t.object rest = all
shape_past (t.array l c r) rest = later (over (later all) (option_past of_conditional conditional_past c _))
shape_past (t.function_shape l p r) rest = later (over (later all) (params_past p _))

pub declarator_past : (d : t.Declarator) (rest : List Leaf) → Past rest (of_declarator d rest)
declarator_past (t.declarator stars n s) rest = over (over (shape_past s rest) (identifier_past n _)) (list_past of_star star_past stars _)

pub comma_past : (s : _) (rest : List Leaf) → Past rest (of_comma s rest)
comma_past s rest = later all

mutual
  pub initialiser_past : (i : t.Initialiser) (rest : List Leaf) → Past rest (of_initialiser i rest)
  initialiser_past (t.initial_value a) rest = assignment_past a rest
  initialiser_past (t.braces l i more c r) rest =
      later (over (over (over (later all) (option_past of_comma comma_past c _)) (initialisers_past more _)) (initialiser_past i _))

  pub initialisers_past : (i : t.Initialisers) (rest : List Leaf) → Past rest (of_initialisers i rest)
  initialisers_past t.no_initialisers rest = all
  initialisers_past (t.initialisers s i more) rest = later (over (initialisers_past more rest) (initialiser_past i _))

pub start_past : (s : t.Start) (rest : List Leaf) → Past rest (of_start s rest)
start_past (t.start s i) rest = later (initialiser_past i rest)

pub init_declarator_past : (d : t.InitDeclarator) (rest : List Leaf) → Past rest (of_init_declarator d rest)
init_declarator_past (t.init_declarator d i) rest = over (option_past of_start start_past i rest) (declarator_past d _)

pub next_init_declarator_past : (d : t.NextInitDeclarator) (rest : List Leaf) → Past rest (of_next_init_declarator d rest)
next_init_declarator_past (t.next_init_declarator s d) rest = later (init_declarator_past d rest)

pub next_declarator_past : (d : t.NextDeclarator) (rest : List Leaf) → Past rest (of_next_declarator d rest)
next_declarator_past (t.next_declarator s d) rest = later (declarator_past d rest)

pub condition_past : (c : t.Condition) (rest : List Leaf) → Past rest (of_condition c rest)
condition_past (t.condition l e r) rest = later (over (later all) (expression_past e _))

-- ---- each item of a list has a token

shorter : {x : Leaf} (rest us : List Leaf) → Past (x ∷ rest) us → length rest < length us
shorter {x = x} rest us p = omega (arith, past_length (x ∷ rest) us p)

longer : (rest us : List Leaf) → Past rest us → length rest < suc (length us)
longer rest us p = omega (arith, past_length rest us p)

pub qualifier_long : (q : Qualifier) (rest : List Leaf) → length rest < length (of_qualifier q rest)
qualifier_long q rest = omega arith

pub star_long : (s : t.Star) (rest : List Leaf) → length rest < length (of_star s rest)
star_long (t.star s q) rest = longer rest _ (list_past of_qualifier qualifier_past q rest)

pub spec_long : (s : t.Spec) (rest : List Leaf) → length rest < length (of_spec s rest)
spec_long (t.word_spec s w) rest = omega arith
spec_long (t.struct_spec s n) rest = longer rest _ (identifier_past n rest)

specs_long : (s : t.Specs) (us rest : List Leaf) → Past rest us → length rest < length (of_specs s us)
specs_long (t.specs s more) us rest p =
    omega (arith, past_length _ _ (over p (list_past of_spec spec_past more us)), spec_long s (of_list of_spec more us))

mutual
  pub assignment_long : (a : t.Assignment) (rest : List Leaf) → length rest < length (of_assignment a rest)
  assignment_long (t.value c) rest = conditional_long c rest
  assignment_long (t.assign u s op a) rest =
      omega (arith, past_length _ _ (unary_past u (mark s op ∷ of_assignment a rest)), past_length _ _ (assignment_past a rest))

  conditional_long : (c : t.Conditional) (rest : List Leaf) → length rest < length (of_conditional c rest)
  conditional_long (t.plain b) rest = binary_long b rest
  conditional_long (t.choose b q e k c) rest = omega (
    arith,
    past_length _ _ (expression_past e (mark k Colon ∷ of_conditional c rest)),
    past_length _ _ (binary_past b (mark q Question ∷ of_expression e (mark k Colon ∷ of_conditional c rest))),
    past_length _ _ (conditional_past c rest),
  )

  binary_long : (b : t.Binary) (rest : List Leaf) → length rest < length (of_binary b rest)
  binary_long (t.operand c) rest = cast_long c rest
  binary_long (t.join a s op b) rest =
      omega (arith, past_length _ _ (binary_past a (mark s op ∷ of_binary b rest)), past_length _ _ (binary_past b rest))

  cast_long : (c : t.Cast) (rest : List Leaf) → length rest < length (of_cast c rest)
  cast_long (t.uncast u) rest = unary_long u rest
  cast_long (t.convert l ty r c) rest = longer rest _ (over (later {x = mark r RightParenthesis} (cast_past c rest)) (type_name_past ty _))

  unary_long : (u : t.Unary) (rest : List Leaf) → length rest < length (of_unary u rest)
  unary_long (t.postfix p) rest = postfix_long p rest
  unary_long (t.step s op u) rest = longer rest _ (unary_past u rest)
  unary_long (t.prefix s op c) rest = longer rest _ (cast_past c rest)
  unary_long (t.size s l ty r) rest =
      longer rest _ (later {x = mark l LeftParenthesis} (over (later {x = mark r RightParenthesis} all) (type_name_past ty _)))

  postfix_long : (p : t.Postfix) (rest : List Leaf) → length rest < length (of_postfix p rest)
  postfix_long (t.primary p) rest = primary_long p rest
  postfix_long (t.index p l e r) rest = omega (
    arith,
    past_length _ _ (postfix_past p (mark l LeftBracket ∷ of_expression e (mark r RightBracket ∷ rest))),
    past_length _ _ (expression_past e (mark r RightBracket ∷ rest)),
  )
  postfix_long (t.call p l a r) rest = omega (
    arith,
    past_length _ _ (postfix_past p (mark l LeftParenthesis ∷ of_arguments a (mark r RightParenthesis ∷ rest))),
    past_length _ _ (arguments_past a (mark r RightParenthesis ∷ rest)),
  )
  postfix_long (t.member p s op n) rest =
      omega (arith, past_length _ _ (postfix_past p (mark s op ∷ of_identifier n rest)), past_length _ _ (identifier_past n rest))
  postfix_long (t.stepped p s op) rest = omega (arith, past_length _ _ (postfix_past p (mark s op ∷ rest)))

  primary_long : (p : t.Primary) (rest : List Leaf) → length rest < length (of_primary p rest)
  primary_long (t.name (t.identifier s n)) rest = omega arith
  primary_long (t.constant s k) rest = omega arith
  primary_long (t.parenthesised l e r) rest = longer rest _ (over (later {x = mark r RightParenthesis} all) (expression_past e _))
  primary_long (t.operation s op l n more r) rest = longer rest _ (later {x = mark l LeftParenthesis}
      (over (over (later {x = mark r RightParenthesis} all) (further_past more _)) (identifier_past n _)))

pub next_param_long : (p : t.NextParam) (rest : List Leaf) → length rest < length (of_next_param p rest)
next_param_long (t.next_param s p) rest = longer rest _ (param_past p rest)

pub next_init_declarator_long : (d : t.NextInitDeclarator) (rest : List Leaf) → length rest < length (of_next_init_declarator d rest)
next_init_declarator_long (t.next_init_declarator s d) rest = longer rest _ (init_declarator_past d rest)

pub next_declarator_long : (d : t.NextDeclarator) (rest : List Leaf) → length rest < length (of_next_declarator d rest)
next_declarator_long (t.next_declarator s d) rest = longer rest _ (declarator_past d rest)

pub declaration_long : (d : t.Declaration) (rest : List Leaf) → length rest < length (of_declaration d rest)
declaration_long (t.declaration s d more e) rest = specs_long s _ rest
    (over (over (later all) (list_past of_next_init_declarator next_init_declarator_past more _)) (init_declarator_past d _))

pub member_long : (m : t.Member) (rest : List Leaf) → length rest < length (of_member m rest)
member_long (t.members s d more e) rest =
    specs_long s _ rest (over (over (later all) (list_past of_next_declarator next_declarator_past more _)) (declarator_past d _))

pub declaration_past : (d : t.Declaration) (rest : List Leaf) → Past rest (of_declaration d rest)
declaration_past (t.declaration s d more e) rest =
    over (over (over (later all) (list_past of_next_init_declarator next_init_declarator_past more _)) (init_declarator_past d _))
    (specs_past s _)

pub member_past : (m : t.Member) (rest : List Leaf) → Past rest (of_member m rest)
member_past (t.members s d more e) rest =
    over (over (over (later all) (list_past of_next_declarator next_declarator_past more _)) (declarator_past d _)) (specs_past s _)

pub first_past : (f : t.First) (rest : List Leaf) → Past rest (of_first f rest)
first_past (t.first_declared d) rest = declaration_past d rest
first_past (t.first_evaluated e s) rest = over (later all) (option_past of_expression expression_past e _)

pub heading_past : (h : t.Heading) (rest : List Leaf) → Past rest (of_heading h rest)
heading_past (t.heading l f c s e r) rest = later (over (over (over (later all) (option_past of_expression expression_past e _))
    (over (later all) (option_past of_expression expression_past c _))) (first_past f _))

pub pragma_long : (p : Pragma) (rest : List Leaf) → length rest < length (of_pragma p rest)
pragma_long p rest = omega arith

pub pragma_past : (p : Pragma) (rest : List Leaf) → Past rest (of_pragma p rest)
pragma_past p rest = later all

mutual
  pub compound_past : (c : t.Compound) (rest : List Leaf) → Past rest (of_compound c rest)
  compound_past (t.compound l pragmas b r) rest =
      later (over (over (later all) (items_past b _)) (list_past of_pragma pragma_past pragmas _))

  pub items_past : (b : t.Items) (rest : List Leaf) → Past rest (of_items b rest)
  items_past t.no_items rest = all
  items_past (t.items i more) rest = over (items_past more rest) (item_past i _)

  item_past : (i : t.Item) (rest : List Leaf) → Past rest (of_item i rest)
  item_past (t.declared d) rest = declaration_past d rest
  item_past (t.stated s) rest = statement_past s rest

  pub statement_past : (s : t.Statement) (rest : List Leaf) → Past rest (of_statement s rest)
  statement_past (t.block c) rest = compound_past c rest
  statement_past (t.simple e s) rest = over (later all) (option_past of_expression expression_past e _)
  statement_past (t.if_then s c b) rest = later (over (statement_past b rest) (condition_past c _))
  statement_past (t.if_else s c b e o) rest = later (over (over (later (statement_past o rest)) (statement_past b _)) (condition_past c _))
  statement_past (t.while_loop s c b) rest = later (over (statement_past b rest) (condition_past c _))
  statement_past (t.do_loop s b w c e) rest = later (over (later (over (later all) (condition_past c _))) (statement_past b _))
  statement_past (t.for_loop s h b) rest = later (over (statement_past b rest) (heading_past h _))
  statement_past (t.break_loop s e) rest = later (later all)
  statement_past (t.continue_loop s e) rest = later (later all)
  statement_past (t.return_value s v e) rest = later (over (later all) (option_past of_expression expression_past v _))

pub statement_long : (s : t.Statement) (rest : List Leaf) → length rest < length (of_statement s rest)
statement_long (t.block (t.compound l pragmas b r)) rest =
    longer rest _ (over (over (later all) (items_past b _)) (list_past of_pragma pragma_past pragmas _))
statement_long (t.simple e s) rest = shorter rest _ (option_past of_expression expression_past e _)
statement_long (t.if_then s c b) rest = longer rest _ (over (statement_past b rest) (condition_past c _))
statement_long (t.if_else s c b e o) rest =
    longer rest _ (over (over (later (statement_past o rest)) (statement_past b _)) (condition_past c _))
statement_long (t.while_loop s c b) rest = longer rest _ (over (statement_past b rest) (condition_past c _))
statement_long (t.do_loop s b w c e) rest = longer rest _ (over (later (over (later all) (condition_past c _))) (statement_past b _))
statement_long (t.for_loop s h b) rest = longer rest _ (over (statement_past b rest) (heading_past h _))
statement_long (t.break_loop s e) rest = omega arith
statement_long (t.continue_loop s e) rest = omega arith
statement_long (t.return_value s v e) rest = longer rest _ (over (later all) (option_past of_expression expression_past v _))

pub item_long : (i : t.Item) (rest : List Leaf) → length rest < length (of_item i rest)
item_long (t.declared d) rest = declaration_long d rest
item_long (t.stated s) rest = statement_long s rest

pub external_long : (x : t.External) (rest : List Leaf) → length rest < length (of_external x rest)
external_long (t.pragma_item p) rest = omega arith
external_long (t.structure_item (t.structure s tag l m more r e)) rest =
    longer rest _ (over (later {x = mark l LeftBrace} (over (over (later {x = mark r RightBrace} (later {x = mark e Semicolon} all))
    (list_past of_member member_past more _)) (member_past m _))) (identifier_past tag _))
external_long (t.register_item (t.register_object s n sp m e)) rest =
    longer rest _ (over (over (over (later {x = mark e Semicolon} all) (identifier_past m _)) (specs_past sp _)) (identifier_past n _))
external_long (t.declaration_item d) rest = declaration_long d rest
external_long (t.function_item (t.function (t.type_name s stars) n l p r b)) rest = specs_long s _ rest (over
    (over (later (over (later (compound_past b rest)) (params_past p _))) (identifier_past n _)) (list_past of_star star_past stars _))
