-- The trees that are completed, the shortest of them, and those that begin with a given token.
use Rattle.std.proofs.Common.{◌≡◌, ℕ, suc, ◌≤◌, List, [], ◌∷◌, length, Bool, true, false, cond, Err, Option, refl, sym, inl, inr, ◌⊎◌}
use Rattle.std.proofs.Common.{subst}
use Rattle.std.proofs.lemmas.Bool.{true≢false}
use Rattle.ec_grammar.specs.declared.token.WordKind.TheVariants as words
use Rattle.ec_grammar.specs.declared.token.PunctKind.{PunctKind}
use Rattle.ec_grammar.specs.declared.token.PunctKind.TheVariants.{LeftParenthesis, RightParenthesis}
use Rattle.ec_grammar.specs.declared.Spot.{Spot}
use Rattle.ec_grammar.specs.declared.Constant.TheVariants as constants
use Rattle.ec_grammar.specs.declared.Operation.{Operation}
use Rattle.ec_grammar.specs.declared.Operation.TheVariants as operations
use Rattle.ec_grammar.specs.Tokens as tokens
use Rattle.ec_grammar.specs.Tokens.{Lexeme}
use Rattle.ec_grammar.specs.Trees as t
use Rattle.ec_grammar.specs.Trees.{Leaf}
use Rattle.ec_grammar.specs.Spelling.{leaf, mark, word, of_spec, of_specs, of_type_name, of_expression, of_assignment, of_conditional}
use Rattle.ec_grammar.specs.Spelling.{of_binary, of_cast, of_unary, of_postfix, of_arguments, of_further, of_primary, lexeme_of_operation}
use Rattle.ec_grammar.specs.Spelling.{of_option, of_param, of_params, of_shape, of_declarator, of_initialiser, of_initialisers, of_start}
use Rattle.ec_grammar.specs.Spelling.{of_init_declarator, of_next_init_declarator, of_declaration, of_next_declarator, of_member}
use Rattle.ec_grammar.specs.Spelling.{of_condition, of_first, of_heading, of_compound, of_items, of_item, of_statement, of_external}
use Rattle.ec_grammar.specs.Grammar.{rank, is_prefix, is_step, Is_spec, Is_specs, Is_type_name, Is_expression, Is_assignment}
use Rattle.ec_grammar.specs.Grammar.{Is_conditional, Is_binary, Is_cast, Is_unary, Is_postfix, Are_arguments, Are_further, Is_primary}
use Rattle.ec_grammar.specs.Grammar.{Given, Is_param, Are_params, Is_shape, Is_declarator, Is_initialiser, Are_initialisers, Is_start}
use Rattle.ec_grammar.specs.Grammar.{Is_init_declarator, Is_next_init_declarator, Is_declaration, Is_next_declarator, Is_member}
use Rattle.ec_grammar.specs.Grammar.{Is_condition, Is_first, Is_heading, Is_compound, Are_items, Is_item, Is_statement, Is_external}
use Rattle.ec_grammar.specs.Nesting as nest
use Rattle.ec_parse_laws.specs.Reading.{Fault, syntax, too_deep, starts_punct, starts_lexeme, first_is, expression_by, assignment_by}
use Rattle.ec_parse_laws.specs.Reading.{conditional_by, cast_by, unary_by, initialiser_by, declaration_by, statement_by, compound_by}
use Rattle.ec_parse_laws.specs.Reading.{within}
use Rattle.ec_parse_laws.specs.Passing.{Opened, PassesExpression, PassesAssignment, PassesConditional, PassesBinary, PassesCast}
use Rattle.ec_parse_laws.specs.Passing.{PassesUnary, PassesPostfix, PassesArguments, PassesFurther, PassesPrimary, PassesOption}
use Rattle.ec_parse_laws.specs.Passing.{PassesShape, PassesDeclarator, PassesInitialiser, PassesInitialisers, PassesStart}
use Rattle.ec_parse_laws.specs.Passing.{PassesInitDeclarator, PassesNextInitDeclarator, PassesDeclaration, PassesNextDeclarator}
use Rattle.ec_parse_laws.specs.Passing.{PassesMember, PassesCondition, PassesFirst, PassesHeading, PassesCompound, PassesItems, PassesItem}
use Rattle.ec_parse_laws.specs.Passing.{PassesStatement, PassesExternal}
use Rattle.ec_parse_laws.proofs.Basics.{same_words}
use Rattle.ec_parse_laws.proofs.Expressions.{of_pair}
use Rattle.ec_parse_laws.proofs.Sound.{Is_pair}
use Rattle.ec_parse_laws.proofs.Declarations.{of_initial_pair}
use Rattle.ec_parse_laws.proofs.SoundUnits.{Is_initial_pair}
use Rattle.ec_parse_laws.proofs.Completing.{Kind, Spotted, spot_at, Viable, bad, err_is}

-- ---- kinds

abbrev pub specs_kind : Kind t.Specs
specs_kind = record { spell = of_specs; Is = Is_specs; height = λ x. 0; passes = λ x rest place. ⊥ }

abbrev pub spec_kind : Kind t.Spec
spec_kind = record { spell = of_spec; Is = Is_spec; height = λ x. 0; passes = λ x rest place. ⊥ }

abbrev pub type_names : Kind t.TypeName
type_names = record { spell = of_type_name; Is = Is_type_name; height = λ x. 0; passes = λ x rest place. ⊥ }

abbrev pub expressions : ℕ → ℕ → Kind t.Expression
expressions limit left = record {
  spell = of_expression;
  Is = Is_expression;
  height = nest.height_expression;
  passes = PassesExpression limit left;
}

abbrev pub assignments : ℕ → ℕ → Kind t.Assignment
assignments limit left = record {
  spell = of_assignment;
  Is = Is_assignment;
  height = nest.height_assignment;
  passes = PassesAssignment limit left;
}

abbrev pub conditionals : ℕ → ℕ → Kind t.Conditional
conditionals limit left = record {
  spell = of_conditional;
  Is = Is_conditional;
  height = nest.height_conditional;
  passes = PassesConditional limit left;
}

abbrev pub binaries : ℕ → ℕ → ℕ → Kind t.Binary
binaries limit left level = record {
  spell = of_binary;
  Is = λ b. Is_binary b × (rank b ≤ level);
  height = nest.height_binary;
  passes = PassesBinary limit left;
}

abbrev pub casts : ℕ → ℕ → Kind t.Cast
casts limit left = record { spell = of_cast; Is = Is_cast; height = nest.height_cast; passes = PassesCast limit left }

abbrev pub unaries : ℕ → ℕ → Kind t.Unary
unaries limit left = record { spell = of_unary; Is = Is_unary; height = nest.height_unary; passes = PassesUnary limit left }

abbrev pub postfixes : ℕ → ℕ → Kind t.Postfix
postfixes limit left = record { spell = of_postfix; Is = Is_postfix; height = nest.height_postfix; passes = PassesPostfix limit left }

abbrev pub arguments_kind : ℕ → ℕ → Kind t.Arguments
arguments_kind limit left = record {
  spell = of_arguments;
  Is = Are_arguments;
  height = nest.height_arguments;
  passes = PassesArguments limit left;
}

abbrev pub further_kind : ℕ → ℕ → Kind t.Further
further_kind limit left = record { spell = of_further; Is = Are_further; height = nest.height_further; passes = PassesFurther limit left }

abbrev pub pairs : ℕ → ℕ → Kind (Spot × t.Assignment)
pairs limit left = record {
  spell = of_pair;
  Is = Is_pair;
  height = λ x. nest.height_assignment x.1;
  passes = λ x rest place. PassesAssignment limit left x.1 rest place;
}

abbrev pub primaries : ℕ → ℕ → Kind t.Primary
primaries limit left = record { spell = of_primary; Is = Is_primary; height = nest.height_primary; passes = PassesPrimary limit left }

abbrev pub params_kind : Kind t.Params
params_kind = record { spell = of_params; Is = Are_params; height = λ x. 0; passes = λ x rest place. ⊥ }

abbrev pub param_kind : Kind t.Param
param_kind = record { spell = of_param; Is = Is_param; height = λ x. 0; passes = λ x rest place. ⊥ }

abbrev pub shapes : ℕ → ℕ → Kind t.Shape
shapes limit left = record { spell = of_shape; Is = Is_shape; height = nest.height_shape; passes = PassesShape limit left }

abbrev pub declarators : ℕ → ℕ → Kind t.Declarator
declarators limit left = record {
  spell = of_declarator;
  Is = Is_declarator;
  height = nest.height_declarator;
  passes = PassesDeclarator limit left;
}

abbrev pub initialisers : ℕ → ℕ → Kind t.Initialiser
initialisers limit left = record {
  spell = of_initialiser;
  Is = Is_initialiser;
  height = nest.height_initialiser;
  passes = PassesInitialiser limit left;
}

abbrev pub later_initialisers : ℕ → ℕ → Kind t.Initialisers
later_initialisers limit left = record {
  spell = of_initialisers;
  Is = Are_initialisers;
  height = nest.height_initialisers;
  passes = PassesInitialisers limit left;
}

abbrev pub initial_pairs : ℕ → ℕ → Kind (Spot × t.Initialiser)
initial_pairs limit left = record {
  spell = of_initial_pair;
  Is = Is_initial_pair;
  height = λ x. nest.height_initialiser x.1;
  passes = λ x rest place. PassesInitialiser limit left x.1 rest place;
}

abbrev pub starts_kind : ℕ → ℕ → Kind (Option t.Start)
starts_kind limit left = record {
  spell = of_option of_start;
  Is = Given Is_start;
  height = nest.height_option nest.height_start;
  passes = λ i rest place. PassesOption (λ x. PassesStart limit left x rest place) i;
}

abbrev pub init_declarators : ℕ → ℕ → Kind t.InitDeclarator
init_declarators limit left = record {
  spell = of_init_declarator;
  Is = Is_init_declarator;
  height = nest.height_init_declarator;
  passes = PassesInitDeclarator limit left;
}

abbrev pub next_init_declarators : ℕ → ℕ → Kind t.NextInitDeclarator
next_init_declarators limit left = record {
  spell = of_next_init_declarator;
  Is = Is_next_init_declarator;
  height = nest.height_next_init_declarator;
  passes = PassesNextInitDeclarator limit left;
}

abbrev pub declarations : ℕ → ℕ → Kind t.Declaration
declarations limit left = record {
  spell = of_declaration;
  Is = Is_declaration;
  height = nest.height_declaration;
  passes = PassesDeclaration limit left;
}

abbrev pub next_declarators : ℕ → ℕ → Kind t.NextDeclarator
next_declarators limit left = record {
  spell = of_next_declarator;
  Is = Is_next_declarator;
  height = nest.height_next_declarator;
  passes = PassesNextDeclarator limit left;
}

abbrev pub member_kind : ℕ → ℕ → Kind t.Member
member_kind limit left = record { spell = of_member; Is = Is_member; height = nest.height_member; passes = PassesMember limit left }

abbrev pub conditions : ℕ → ℕ → Kind t.Condition
conditions limit left = record {
  spell = of_condition;
  Is = Is_condition;
  height = nest.height_condition;
  passes = PassesCondition limit left;
}

abbrev pub first_kind : ℕ → ℕ → Kind t.First
first_kind limit left = record { spell = of_first; Is = Is_first; height = nest.height_first; passes = PassesFirst limit left }

abbrev pub headings : ℕ → ℕ → Kind t.Heading
headings limit left = record { spell = of_heading; Is = Is_heading; height = nest.height_heading; passes = PassesHeading limit left }

-- a statement that has begun, and one that may begin
abbrev pub statements : ℕ → ℕ → Kind t.Statement
statements limit left = record {
  spell = of_statement;
  Is = Is_statement;
  height = nest.height_statement;
  passes = PassesStatement limit left;
}

abbrev pub substatements : ℕ → ℕ → Kind t.Statement
substatements limit left = record {
  spell = of_statement;
  Is = Is_statement;
  height = nest.height_statement;
  passes = λ s rest place. Opened left (length (of_statement s rest)) place (λ n. PassesStatement limit n s rest place);
}

abbrev pub compounds : ℕ → ℕ → Kind t.Compound
compounds limit left = record { spell = of_compound; Is = Is_compound; height = nest.height_compound; passes = PassesCompound limit left }

abbrev pub item_kind : ℕ → ℕ → Kind t.Item
item_kind limit left = record { spell = of_item; Is = Is_item; height = nest.height_item; passes = PassesItem limit left }

abbrev pub items_kind : ℕ → ℕ → Kind t.Items
items_kind limit left = record { spell = of_items; Is = Are_items; height = nest.height_items; passes = PassesItems limit left }

abbrev pub externals : ℕ → ℕ → Kind t.External
externals limit left = record { spell = of_external; Is = Is_external; height = nest.height_external; passes = PassesExternal limit left }

-- what is known of faults where n constructs may be opened
pub record Faulty (first limit n : ℕ) : Type 0 where
  pub expression : (room : ℕ) (ts : List Leaf) (f : Fault) → room ≤ limit → expression_by (within limit n) room ts ≡ Err f
      → Viable (expressions limit n) first limit room ts f
  pub assignment : (room : ℕ) (ts : List Leaf) (f : Fault) → room ≤ limit → assignment_by (within limit n) room ts ≡ Err f
      → Viable (assignments limit n) first limit room ts f
  pub conditional : (room : ℕ) (ts : List Leaf) (f : Fault) → room ≤ limit → conditional_by (within limit n) room ts ≡ Err f
      → Viable (conditionals limit n) first limit room ts f
  pub cast : (room : ℕ) (ts : List Leaf) (f : Fault) → room ≤ limit → cast_by (within limit n) room ts ≡ Err f
      → Viable (casts limit n) first limit room ts f
  pub unary : (room : ℕ) (ts : List Leaf) (f : Fault) → room ≤ limit → unary_by (within limit n) room ts ≡ Err f
      → Viable (unaries limit n) first limit room ts f
  pub initialiser : (room : ℕ) (ts : List Leaf) (f : Fault) → room ≤ limit → initialiser_by (within limit n) room ts ≡ Err f
      → Viable (initialisers limit n) first limit room ts f
  pub declaration : (ts : List Leaf) (f : Fault) → declaration_by (within limit n) ts ≡ Err f
      → Viable (declarations limit n) first limit limit ts f
  pub statement : (room : ℕ) (ts : List Leaf) (f : Fault) → room ≤ limit → statement_by (within limit n) room ts ≡ Err f
      → Viable (statements limit n) first limit room ts f
  pub compound : (room : ℕ) (ts : List Leaf) (f : Fault) → room ≤ limit → compound_by (within limit n) room ts ≡ Err f
      → Viable (compounds limit n) first limit room ts f

abbrev pub Below : ℕ → ℕ → ℕ → Type 0
Below first limit n = (m : ℕ) → n ≡ suc m → Faulty first limit m

-- ---- the shortest trees: a name, `int`, and a constant

abbrev pub some_name : ℕ → t.Identifier
some_name k = t.identifier (spot_at k) (120 ∷ [])

abbrev pub name_leaf : ℕ → Leaf
name_leaf k = leaf (spot_at k) (tokens.name (120 ∷ []))

abbrev pub int_leaf : ℕ → Leaf
int_leaf k = word (spot_at k) words.Int

abbrev pub int_specs : ℕ → t.Specs
int_specs k = t.specs (t.word_spec (spot_at k) words.Int) []

abbrev pub int_type : ℕ → t.TypeName
int_type k = t.type_name (int_specs k) []

abbrev pub zero_leaf : ℕ → Leaf
zero_leaf k = leaf (spot_at k) (tokens.whole 0 true 2)

abbrev pub zero_primary : ℕ → t.Primary
zero_primary k = t.constant (spot_at k) (constants.Whole 0 true 2)

abbrev pub zero_unary : ℕ → t.Unary
zero_unary k = t.postfix (t.primary (zero_primary k))

abbrev pub zero_cast : ℕ → t.Cast
zero_cast k = t.uncast (zero_unary k)

abbrev pub zero_conditional : ℕ → t.Conditional
zero_conditional k = t.plain (t.operand (zero_cast k))

abbrev pub zero_assignment : ℕ → t.Assignment
zero_assignment k = t.value (zero_conditional k)

abbrev pub zero_expression : ℕ → t.Expression
zero_expression k = t.single (zero_assignment k)

-- ---- trees that begin with a given token

pub record Begun {A : Type 0} (K : Kind A) (first : ℕ) (x : Leaf) : Type 0 where
  pub tree : A
  pub count : ℕ
  pub end : List Leaf → List Leaf
  pub is : K.Is tree
  pub spots : (rest : List Leaf) → Spotted count rest → Spotted first (end rest)
  pub spelled : (rest : List Leaf) → x ∷ end rest ≡ K.spell tree rest

begun_name : (limit left first : ℕ) (s : Spot) (n : List ℕ) → Begun (unaries limit left) first (leaf s (tokens.name n))
begun_name limit left first s n = record {
  tree = t.postfix (t.primary (t.name (t.identifier s n)));
  count = first;
  end = λ rest. rest;
  is = tt;
  spots = λ rest q. q;
  spelled = λ rest. refl;
}

begun_operation : (limit left first : ℕ) (s : Spot) (op : Operation) → Begun (unaries limit left) first (leaf s (lexeme_of_operation op))
begun_operation limit left first s op = record {
  tree = t.postfix (t.primary (t.operation s op (spot_at first) (some_name (suc first)) t.no_further (spot_at (suc (suc first)))));
  count = suc (suc (suc first));
  end = λ rest. mark (spot_at first) LeftParenthesis ∷ name_leaf (suc first) ∷ mark (spot_at (suc (suc first))) RightParenthesis ∷ rest;
  is = tt;
  spots = λ rest q. (refl, (refl, (refl, q)));
  spelled = λ rest. refl;
}

begun_sizeof : (limit left first : ℕ) (s : Spot) → Begun (unaries limit left) first (word s words.Sizeof)
begun_sizeof limit left first s = record {
  tree = t.size s (spot_at first) (int_type (suc first)) (spot_at (suc (suc first)));
  count = suc (suc (suc first));
  end = λ rest. mark (spot_at first) LeftParenthesis ∷ int_leaf (suc first) ∷ mark (spot_at (suc (suc first))) RightParenthesis ∷ rest;
  is = ((refl, tt), tt);
  spots = λ rest q. (refl, (refl, (refl, q)));
  spelled = λ rest. refl;
}

begun_paren : (limit left first : ℕ) (s : Spot) → Begun (unaries limit left) first (mark s LeftParenthesis)
begun_paren limit left first s = record {
  tree = t.postfix (t.primary (t.parenthesised s (zero_expression first) (spot_at (suc first))));
  count = suc (suc first);
  end = λ rest. zero_leaf first ∷ mark (spot_at (suc first)) RightParenthesis ∷ rest;
  is = tt;
  spots = λ rest q. (refl, (refl, q));
  spelled = λ rest. refl;
}

begun_operator : (limit left first : ℕ) (s : Spot) (p : PunctKind) → cond (is_prefix p) true (is_step p) ≡ true
    → Begun (unaries limit left) first (mark s p)
begun_operator limit left first s p e = go (is_prefix p) refl e
  where
    go : (b : Bool) → is_prefix p ≡ b → cond b true (is_step p) ≡ true → Begun (unaries limit left) first (mark s p)
    go true is e = record {
      tree = t.prefix s p (zero_cast first);
      count = suc first;
      end = λ rest. zero_leaf first ∷ rest;
      is = (is, tt);
      spots = λ rest q. (refl, q);
      spelled = λ rest. refl;
    }
    go false is e = record {
      tree = t.step s p (zero_unary first);
      count = suc first;
      end = λ rest. zero_leaf first ∷ rest;
      is = (e, tt);
      spots = λ rest q. (refl, q);
      spelled = λ rest. refl;
    }

begun_punct : (limit left first : ℕ) (s : Spot) (p : PunctKind) → starts_punct p ≡ true → Begun (unaries limit left) first (mark s p)
begun_punct limit left first s LeftParenthesis e = begun_paren limit left first s
begun_punct limit left first s p e = begun_operator limit left first s p e

begun_lexeme : (limit left first : ℕ) (s : Spot) (l : Lexeme) → starts_lexeme l ≡ true → Begun (unaries limit left) first (leaf s l)
begun_lexeme limit left first s (tokens.word w) e =
    subst (λ v. Begun (unaries limit left) first (word s v)) (sym (same_words w words.Sizeof e)) (begun_sizeof limit left first s)
begun_lexeme limit left first s (tokens.punct p) e = begun_punct limit left first s p e
begun_lexeme limit left first s (tokens.name n) e = begun_name limit left first s n
begun_lexeme limit left first s (tokens.whole value signed bytes) e = record {
  tree = t.postfix (t.primary (t.constant s (constants.Whole value signed bytes)));
  count = first;
  end = λ rest. rest;
  is = tt;
  spots = λ rest q. q;
  spelled = λ rest. refl;
}
begun_lexeme limit left first s (tokens.fixed kind n) e = record {
  tree = t.postfix (t.primary (t.constant s (constants.Fixed kind n)));
  count = first;
  end = λ rest. rest;
  is = tt;
  spots = λ rest q. q;
  spelled = λ rest. refl;
}
begun_lexeme limit left first s (tokens.io_name op) e = begun_operation limit left first s (operations.Port op)
begun_lexeme limit left first s (tokens.group_name op) e = begun_operation limit left first s (operations.Group op)
begun_lexeme limit left first s (tokens.pragma which state) e = absurd (true≢false (sym e))
begun_lexeme limit left first s tokens.reserved e = absurd (true≢false (sym e))
begun_lexeme limit left first s tokens.end e = absurd (true≢false (sym e))

pub begun_assignment : (limit left first : ℕ) (x : Leaf) → starts_lexeme x.lexeme ≡ true → Begun (assignments limit left) first x
begun_assignment limit left first x e = let b = begun_lexeme limit left first x.spot x.lexeme e in
    record {
      tree = t.value (t.plain (t.operand (t.uncast b.tree)));
      count = b.count;
      end = b.end;
      is = b.is;
      spots = b.spots;
      spelled = b.spelled;
    }

pub begun_expression : (limit left first : ℕ) (x : Leaf) → starts_lexeme x.lexeme ≡ true → Begun (expressions limit left) first x
begun_expression limit left first x e = let b = begun_assignment limit left first x e in
    record { tree = t.single b.tree; count = b.count; end = b.end; is = b.is; spots = b.spots; spelled = b.spelled }

-- where no construct may be opened: the first token begins one, or none
pub begun_fault : {A : Type 0} (starts : Lexeme → Bool) (ts : List Leaf) (f : Fault)
    → bad {A = A} (cond (first_is starts ts) (too_deep (length ts)) (syntax (length ts))) ≡ Err f
    → (syntax (length ts) ≡ f)
    ⊎ ((x : Leaf) × (xs : List Leaf) × (ts ≡ x ∷ xs) × (starts x.lexeme ≡ true) × (too_deep (suc (length xs)) ≡ f))
begun_fault {A = A} starts [] f e = inl (err_is {A = A} _ _ e)
begun_fault {A = A} starts (x ∷ xs) f e = go (starts x.lexeme) refl e
  where
    go : (b : Bool) → starts x.lexeme ≡ b → bad {A = A} (cond b (too_deep (suc (length xs))) (syntax (suc (length xs)))) ≡ Err f
        → (syntax (suc (length xs)) ≡ f)
        ⊎ ((y : Leaf) × (ys : List Leaf) × ((x ∷ xs) ≡ y ∷ ys) × (starts y.lexeme ≡ true) × (too_deep (suc (length ys)) ≡ f))
    go true is e = inr (x, xs, refl, is, err_is {A = A} _ _ e)
    go false is e = inl (err_is {A = A} _ _ e)
