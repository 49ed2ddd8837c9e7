-- The units of a build: texts, their tokens and their trees.
use Rattle.std.specs.Prelude.{ℕ, ◌≡◌, ◌≤◌, List, take, length, IsSomeAnd, slice_get}
use Rattle.std.specs.List.{AllZip}
use Rattle.ec_space.specs.Listed.{Listed}
use Rattle.ec_grammar.specs.declared.token.Token.{Token}
use Rattle.ec_grammar.specs.declared.Tree.{Tree}
use Rattle.ec_grammar.specs.Tokens.{Placed, view_tokens}
use Rattle.ec_grammar.specs.Trees as t
use Rattle.ec_grammar.specs.Views.{view_tree}
use Rattle.ec_grammar.specs.Grammar.{Derives}
use Rattle.ec_grammar.specs.Nesting.{Nests}
use Rattle.ec_parse_laws.specs.Refusals.{EndsWithEnd, StopsBehind, PassesFirstBehind}
use Rattle.ec_lex.specs.Text.{Tokens, IsRefused}
use Rattle.ec_lex.specs.declared.stop.LexStop.{LexStop}
use Rattle.ec_parse.specs.declared.stop.ParseStop.{ParseStop}
use Rattle.ec_parse.specs.declared.stop.ParseStop.TheVariants.{Syntax, TooDeep, NoMemory}

-- ---- what is read

-- a text has these tokens, at most 65,535 before its end
pub record IsLexed (bytes : List ℕ) (list : List Placed) : Type 0 where
  pub tokens : Tokens bytes list
  pub few : length list ≤ 65_536

-- tokens have this tree, which keeps the limit of nesting
pub record IsParsed (list : List Placed) (u : t.Tree) : Type 0 where
  pub derived : Derives list u
  pub nests : Nests u

-- a text has this tree
pub record IsUnit (bytes : List ℕ) (u : t.Tree) : Type 0 where
  pub list : List Placed
  pub lexed : IsLexed bytes list
  pub parsed : IsParsed list u

-- each text has its tokens
abbrev pub AreLexed : List (List ℕ) → List (List Placed) → Type 0
AreLexed sources lists = AllZip IsLexed sources lists

-- each text has its tree
abbrev pub AreUnits : List (List ℕ) → List t.Tree → Type 0
AreUnits sources units = AllZip IsUnit sources units

-- ---- why there are no trees

-- a text has a fault, and so no tokens
pub record IsFaulty (bytes : List ℕ) (stop : LexStop) : Type 0 where
  pub refused : IsRefused bytes stop
  pub none : (list : List Placed) → ¬ IsLexed bytes list

-- the text with number i has a fault, and all before it have tokens
pub record IsFirstFault (sources : List (List ℕ)) (i : ℕ) (stop : LexStop) : Type 0 where
  pub before : (lists : List (List Placed)) × AreLexed (take i sources) lists
  pub here : IsSomeAnd (slice_get sources i) (λ bytes. IsFaulty bytes stop)

-- the first token with which no program goes on, or the first at which nesting passes the limit
abbrev pub IsBadToken : List Placed → ParseStop → Type 0
IsBadToken list (Syntax k) = StopsBehind 64 k list
IsBadToken list (TooDeep k) = PassesFirstBehind 64 k list
IsBadToken list NoMemory = ⊥

-- a text has tokens, one of which is bad, and so no tree
pub record IsUnparsed (bytes : List ℕ) (stop : ParseStop) : Type 0 where
  pub list : List Placed
  pub lexed : IsLexed bytes list
  pub bad : IsBadToken list stop
  pub none : (u : t.Tree) → ¬ IsUnit bytes u

-- all texts have tokens, the one with number i has no tree, and all before it have one
pub record IsFirstUnparsed (sources : List (List ℕ)) (i : ℕ) (stop : ParseStop) : Type 0 where
  pub lexed : (lists : List (List Placed)) × AreLexed sources lists
  pub before : (units : List t.Tree) × AreUnits (take i sources) units
  pub here : IsSomeAnd (slice_get sources i) (λ bytes. IsUnparsed bytes stop)

-- ---- parts of the reading

-- these are the tokens of a text, and it has no others
pub record HasTokens (bytes : List ℕ) (list : List Placed) : Type 0 where
  pub lexed : IsLexed bytes list
  pub alone : (other : List Placed) → IsLexed bytes other → other ≡ list

abbrev pub HaveTokens : List (Listed ℕ) → List (Listed Token) → Type 0
HaveTokens sources lists = AllZip (λ s l. HasTokens s.items (view_tokens l.items)) sources lists

-- tokens of a text
pub record AreReadable (list : List Placed) : Type 0 where
  pub ended : EndsWithEnd list
  pub few : length list ≤ 65_536

-- this is the tree of tokens, and they have no other
pub record HasTree (list : List Placed) (u : t.Tree) : Type 0 where
  pub parsed : IsParsed list u
  pub alone : (other : t.Tree) → Derives list other → u ≡ other

abbrev pub HaveTrees : List (Listed Token) → List Tree → Type 0
HaveTrees lists trees = AllZip (λ l u. HasTree (view_tokens l.items) (view_tree u)) lists trees

-- tokens one of which is bad, and which have no tree
pub record HaveNoTree (list : List Placed) (stop : ParseStop) : Type 0 where
  pub bad : IsBadToken list stop
  pub none : (u : t.Tree) → ¬ IsParsed list u

-- those with number i have no tree, and all before them have one
pub record IsFirstTreeless (lists : List (Listed Token)) (i : ℕ) (stop : ParseStop) : Type 0 where
  pub before : (trees : List Tree) × HaveTrees (take i lists) trees
  pub here : IsSomeAnd (slice_get lists i) (λ l. HaveNoTree (view_tokens l.items) stop)
