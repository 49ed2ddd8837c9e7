-- Where a list of tokens begins, and that each part of a unit begins at its first token.
use Rattle.std.specs.Prelude.{ℕ, ◌≡◌, List, [], ◌∷◌}
use Rattle.ec_grammar.specs.Spelling as of
use Rattle.ec_grammar.specs.Trees as t
use Rattle.ec_grammar.specs.Trees.{Leaf}
use Rattle.ec_check_names.specs.Firsts as first
use Rattle.ec_check_statements.specs.Locals.{first_declarator}

-- its first token has the index
abbrev pub BeginsAt : List Leaf → ℕ → Type 0
BeginsAt [] n = ⊥
BeginsAt (x ∷ xs) n = x.spot.index ≡ n

-- a part's first token is the first of the tokens that spell it, whatever follows: so the place where a constraint on an expression,
-- a specifier or an initialiser is told, and that of each statement and each local object of a program
pub record PartsBeginAtFirstTokens : Type 0 where
  pub expressions : (x : t.Expression) (rest : List Leaf) → BeginsAt (of.of_expression x rest) (first.first_expression x)
  pub assignments : (x : t.Assignment) (rest : List Leaf) → BeginsAt (of.of_assignment x rest) (first.first_assignment x)
  pub conditionals : (x : t.Conditional) (rest : List Leaf) → BeginsAt (of.of_conditional x rest) (first.first_conditional x)
  pub type_names : (x : t.TypeName) (rest : List Leaf) → BeginsAt (of.of_type_name x rest) (first.first_type_name x)
  pub specifiers : (x : t.Specs) (rest : List Leaf) → BeginsAt (of.of_specs x rest) (first.first_specs x)
  pub parameters : (x : t.Param) (rest : List Leaf) → BeginsAt (of.of_param x rest) (first.first_param x)
  pub initialisers : (x : t.Initialiser) (rest : List Leaf) → BeginsAt (of.of_initialiser x rest) (first.first_initialiser x)
  pub declarators : (x : t.Declarator) (rest : List Leaf) → BeginsAt (of.of_declarator x rest) (first_declarator x)
  pub declarations : (x : t.Declaration) (rest : List Leaf) → BeginsAt (of.of_declaration x rest) (first.first_declaration x)
  pub statements : (x : t.Statement) (rest : List Leaf) → BeginsAt (of.of_statement x rest) (first.first_statement x)
  pub items : (x : t.Item) (rest : List Leaf) → BeginsAt (of.of_item x rest) (first.first_item x)
