-- Where the statements of a program stand, and the modes of its expressions, as the tokens of its units say them.
use Rattle.std.specs.Prelude.{ℕ, ◌≡◌, ◌⊎◌, ⊤, Option, Some, None, IfSome, List, slice_get}
use Rattle.ec_grammar.specs.declared.token.PunctKind.TheVariants.{LeftBrace, Semicolon, Star}
use Rattle.ec_grammar.specs.declared.token.WordKind.{WordKind}
use Rattle.ec_grammar.specs.declared.token.WordKind.TheVariants.{If, While, Do, For, Break, Continue, Return}
use Rattle.ec_grammar.specs.Tokens.{Lexeme, word, name, punct, Placed}
use Rattle.ec_core.specs.Plain.{PlainStmt, statement, PlainKind, empty, evaluate, block, declare, branch, while_loop, do_loop, for_loop}
use Rattle.ec_core.specs.Plain.{break_loop, continue_loop, return_value, OptionPlainStmt, no_stmt, a_stmt, PlainStmts, last_stmt}
use Rattle.ec_core.specs.Plain.{next_stmt}
use Rattle.ec_check_operands.specs.declared.operands.Modes.{Modes}
use Rattle.ec_check_meanings.specs.NodeModes.{AllNodesHave, RowHas}
use Rattle.ec_check_tokens.specs.States.{state_at}

-- the token at which a statement begins: the word of its kind, `;` of an empty one, a star or the name of what a declarator declares;
-- a block begins with `{`, but that of the objects which the first part of a `for` declares with a specifier
abbrev pub Begins : Lexeme → PlainKind → Type 0
Begins x empty = x ≡ punct Semicolon
Begins x (evaluate e) = ⊤
Begins x (block all) = (x ≡ punct LeftBrace) ⊎ ((w : WordKind) × (x ≡ word w))
Begins x (declare object values) = (x ≡ punct Star) ⊎ ((n : List ℕ) × (x ≡ name n))
Begins x (branch c a b) = x ≡ word If
Begins x (while_loop c a) = x ≡ word While
Begins x (do_loop a c) = x ≡ word Do
Begins x (for_loop first c last a) = x ≡ word For
Begins x break_loop = x ≡ word Break
Begins x continue_loop = x ≡ word Continue
Begins x (return_value e) = x ≡ word Return

abbrev pub StandsAt : Option Placed → PlainKind → Type 0
StandsAt None kind = ⊥
StandsAt (Some x) kind = Begins x.lexeme kind

-- A statement stands at its first token, and each node of its own expressions has the mode that the states there say of its type; so
-- of the statements in it. The tokens are those of each unit, by its number.
abbrev mutual
  pub StatementKeeps : (texts : ℕ → List Placed) → PlainStmt → Type 0
  StatementKeeps texts (statement unit at kind) =
      StandsAt (slice_get (texts unit) at) kind × KindKeeps texts (state_at (texts unit) at) kind

  pub KindKeeps : (texts : ℕ → List Placed) → Modes → PlainKind → Type 0
  KindKeeps texts m empty = ⊤
  KindKeeps texts m (evaluate e) = AllNodesHave m e
  KindKeeps texts m (block all) = StatementsKeep texts all
  KindKeeps texts m (declare object values) = RowHas m values
  KindKeeps texts m (branch c a b) = AllNodesHave m c × StatementKeeps texts a × OptionalKeeps texts b
  KindKeeps texts m (while_loop c a) = AllNodesHave m c × StatementKeeps texts a
  KindKeeps texts m (do_loop a c) = StatementKeeps texts a × AllNodesHave m c
  KindKeeps texts m (for_loop first c last a) =
      OptionalKeeps texts first × IfSome c (AllNodesHave m) × IfSome last (AllNodesHave m) × StatementKeeps texts a
  KindKeeps texts m break_loop = ⊤
  KindKeeps texts m continue_loop = ⊤
  KindKeeps texts m (return_value e) = IfSome e (AllNodesHave m)

  pub OptionalKeeps : (texts : ℕ → List Placed) → OptionPlainStmt → Type 0
  OptionalKeeps texts no_stmt = ⊤
  OptionalKeeps texts (a_stmt a) = StatementKeeps texts a

  pub StatementsKeep : (texts : ℕ → List Placed) → PlainStmts → Type 0
  StatementsKeep texts last_stmt = ⊤
  StatementsKeep texts (next_stmt a more) = StatementKeeps texts a × StatementsKeep texts more
