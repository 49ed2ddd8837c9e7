-- A part of a tree puts its tokens before those that follow it.
use Rattle.std.proofs.Common.{◌≤◌, List, [], ◌∷◌, length, arith}
use Rattle.std.specs.Prelude.{Some, None}
use Rattle.ec_grammar.specs.declared.token.PunctKind.TheVariants.{RightBrace, RightParenthesis, RightBracket, Semicolon}
use Rattle.ec_grammar.specs.declared.token.WordKind.TheVariants as words
use Rattle.ec_grammar.specs.Spelling as of
use Rattle.ec_grammar.specs.Trees as t
use Rattle.ec_grammar.specs.Trees.{Leaf}
use Rattle.ec_check_expression_laws.specs.Laws.{NeedsAreBounded}

-- tokens stand before others
abbrev pub Precede : {A : Type 0} → (A → List Leaf → List Leaf) → Type 0
Precede {A = A} of_one = (x : A) (rest : List Leaf) → length rest ≤ length (of_one x rest)

all_precede : {A : Type 0} (of_one : A → List Leaf → List Leaf) → Precede of_one → Precede (of.of_list of_one)
all_precede of_one h [] rest = omega arith
all_precede of_one h (x ∷ xs) rest =
    let a = all_precede of_one h xs rest in
    let b = h x (of.of_list of_one xs rest) in
    omega (arith, a, b)

pub option_precedes : {A : Type 0} (of_one : A → List Leaf → List Leaf) → Precede of_one → Precede (of.of_option of_one)
option_precedes of_one h None rest = omega arith
option_precedes of_one h (Some x) rest = h x rest

identifier_precedes : Precede of.of_identifier
identifier_precedes (t.identifier s n) rest = omega arith

pub pragmas_precede : Precede (of.of_list of.of_pragma)
pragmas_precede = all_precede of.of_pragma (λ x rest. omega arith)

star_precedes : Precede of.of_star
star_precedes (t.star s qs) rest = let a = all_precede of.of_qualifier (λ x rest. omega arith) qs rest in omega (arith, a)

spec_precedes : Precede of.of_spec
spec_precedes (t.word_spec s w) rest = omega arith
spec_precedes (t.struct_spec s tag) rest = let a = identifier_precedes tag rest in omega (arith, a)

pub specs_precede : Precede of.of_specs
specs_precede (t.specs first more) rest =
    let a = all_precede of.of_spec spec_precedes more rest in
    let b = spec_precedes first (of.of_list of.of_spec more rest) in
    omega (arith, a, b)

type_name_precedes : Precede of.of_type_name
type_name_precedes (t.type_name ss stars) rest =
    let a = all_precede of.of_star star_precedes stars rest in
    let b = specs_precede ss (of.of_list of.of_star stars rest) in
    omega (arith, a, b)

param_precedes : Precede of.of_param
param_precedes (t.param ty n) rest =
    let a = option_precedes of.of_identifier identifier_precedes n rest in
    let b = type_name_precedes ty (of.of_option of.of_identifier n rest) in
    omega (arith, a, b)

next_param_precedes : Precede of.of_next_param
next_param_precedes (t.next_param s p) rest = let a = param_precedes p rest in omega (arith, a)

params_precede : Precede of.of_params
params_precede (t.void_params s) rest = omega arith
params_precede (t.params p more) rest =
    let a = all_precede of.of_next_param next_param_precedes more rest in
    let b = param_precedes p (of.of_list of.of_next_param more rest) in
    omega (arith, a, b)

module _ (needs : NeedsAreBounded) where
  shape_precedes : Precede of.of_shape
  shape_precedes t.object rest = omega arith
  shape_precedes (t.array l c r) rest =
      let a = option_precedes of.of_conditional needs.conditionals c (of.mark r RightBracket ∷ rest) in
      omega (arith, a)
  shape_precedes (t.function_shape l p r) rest =
      let a = params_precede p (of.mark r RightParenthesis ∷ rest) in
      omega (arith, a)

  pub declarator_precedes : Precede of.of_declarator
  declarator_precedes (t.declarator stars n shape) rest =
      let a = shape_precedes shape rest in
      let b = identifier_precedes n (of.of_shape shape rest) in
      let c = all_precede of.of_star star_precedes stars (of.of_identifier n (of.of_shape shape rest)) in
      omega (arith, a, b, c)

  comma_precedes : Precede of.of_comma
  comma_precedes s rest = omega arith

  pub last_comma_precedes : Precede (of.of_option of.of_comma)
  last_comma_precedes = option_precedes of.of_comma comma_precedes

  mutual
    pub initialiser_precedes : Precede of.of_initialiser
    initialiser_precedes (t.initial_value a) rest = needs.assignments a rest
    initialiser_precedes (t.braces l i more c r) rest =
        let d = last_comma_precedes c (of.mark r RightBrace ∷ rest) in
        let e = initialisers_precede more (of.of_option of.of_comma c (of.mark r RightBrace ∷ rest)) in
        let f = initialiser_precedes i (of.of_initialisers more (of.of_option of.of_comma c (of.mark r RightBrace ∷ rest))) in
        omega (arith, d, e, f)

    pub initialisers_precede : Precede of.of_initialisers
    initialisers_precede t.no_initialisers rest = omega arith
    initialisers_precede (t.initialisers s i more) rest =
        let a = initialisers_precede more rest in
        let b = initialiser_precedes i (of.of_initialisers more rest) in
        omega (arith, a, b)

  start_precedes : Precede of.of_start
  start_precedes (t.start s i) rest = let a = initialiser_precedes i rest in omega (arith, a)

  pub started_precedes : Precede (of.of_option of.of_start)
  started_precedes = option_precedes of.of_start start_precedes

  pub init_declarator_precedes : Precede of.of_init_declarator
  init_declarator_precedes (t.init_declarator d start) rest =
      let a = started_precedes start rest in
      let b = declarator_precedes d (of.of_option of.of_start start rest) in
      omega (arith, a, b)

  next_declarator_precedes : Precede of.of_next_init_declarator
  next_declarator_precedes (t.next_init_declarator s d) rest = let a = init_declarator_precedes d rest in omega (arith, a)

  pub next_declarators_precede : Precede (of.of_list of.of_next_init_declarator)
  next_declarators_precede = all_precede of.of_next_init_declarator next_declarator_precedes

  pub declaration_precedes : Precede of.of_declaration
  declaration_precedes (t.declaration ss d more e) rest =
      let a = next_declarators_precede more (of.mark e Semicolon ∷ rest) in
      let b = init_declarator_precedes d (of.of_list of.of_next_init_declarator more (of.mark e Semicolon ∷ rest)) in
      let c = specs_precede ss (of.of_init_declarator d (of.of_list of.of_next_init_declarator more (of.mark e Semicolon ∷ rest))) in
      omega (arith, a, b, c)

  pub optional_precedes : Precede (of.of_option of.of_expression)
  optional_precedes = option_precedes of.of_expression needs.expressions

  pub condition_precedes : Precede of.of_condition
  condition_precedes (t.condition l e r) rest = let a = needs.expressions e (of.mark r RightParenthesis ∷ rest) in omega (arith, a)

  pub first_precedes : Precede of.of_first
  first_precedes (t.first_declared d) rest = declaration_precedes d rest
  first_precedes (t.first_evaluated e s) rest = let a = optional_precedes e (of.mark s Semicolon ∷ rest) in omega (arith, a)

  pub heading_precedes : Precede of.of_heading
  heading_precedes (t.heading l f c s e r) rest =
      let a = optional_precedes e (of.mark r RightParenthesis ∷ rest) in
      let b = optional_precedes c (of.mark s Semicolon ∷ of.of_option of.of_expression e (of.mark r RightParenthesis ∷ rest)) in
      let d = first_precedes f
      (of.of_option of.of_expression c (of.mark s Semicolon ∷ of.of_option of.of_expression e (of.mark r RightParenthesis ∷ rest))) in
      omega (arith, a, b, d)

  mutual
    pub statement_precedes : Precede of.of_statement
    statement_precedes (t.block (t.compound l ps xs r)) rest =
        let a = items_precede xs (of.mark r RightBrace ∷ rest) in
        let b = pragmas_precede ps (of.of_items xs (of.mark r RightBrace ∷ rest)) in
        omega (arith, a, b)
    statement_precedes (t.simple e s) rest = let a = optional_precedes e (of.mark s Semicolon ∷ rest) in omega (arith, a)
    statement_precedes (t.if_then s c b) rest =
        let a = statement_precedes b rest in
        let d = condition_precedes c (of.of_statement b rest) in
        omega (arith, a, d)
    statement_precedes (t.if_else s c b e o) rest =
        let a = statement_precedes o rest in
        let d = statement_precedes b (of.word e words.Else ∷ of.of_statement o rest) in
        let f = condition_precedes c (of.of_statement b (of.word e words.Else ∷ of.of_statement o rest)) in
        omega (arith, a, d, f)
    statement_precedes (t.while_loop s c b) rest =
        let a = statement_precedes b rest in
        let d = condition_precedes c (of.of_statement b rest) in
        omega (arith, a, d)
    statement_precedes (t.do_loop s b w c e) rest =
        let a = condition_precedes c (of.mark e Semicolon ∷ rest) in
        let d = statement_precedes b (of.word w words.While ∷ of.of_condition c (of.mark e Semicolon ∷ rest)) in
        omega (arith, a, d)
    statement_precedes (t.for_loop s h b) rest =
        let a = statement_precedes b rest in
        let d = heading_precedes h (of.of_statement b rest) in
        omega (arith, a, d)
    statement_precedes (t.break_loop s e) rest = omega arith
    statement_precedes (t.continue_loop s e) rest = omega arith
    statement_precedes (t.return_value s v e) rest = let a = optional_precedes v (of.mark e Semicolon ∷ rest) in omega (arith, a)

    pub item_precedes : Precede of.of_item
    item_precedes (t.declared d) rest = declaration_precedes d rest
    item_precedes (t.stated s) rest = statement_precedes s rest

    pub items_precede : Precede of.of_items
    items_precede t.no_items rest = omega arith
    items_precede (t.items i more) rest =
        let a = items_precede more rest in
        let b = item_precedes i (of.of_items more rest) in
        omega (arith, a, b)
