-- Statements one after another, and what walking a part of a body does.
use Rattle.std.specs.Prelude.{◌≡◌, Option, Some, None, option_map, List, [], ◌∷◌, map}
use Rattle.ec_check_operands.specs.declared.faults.Fault.{Fault}
use Rattle.ec_space.specs.Listed.{Listed}
use Rattle.ec_core.specs.declared.statements.Stmt.{Stmt}
use Rattle.ec_core.specs.Plain.{PlainStmt, plain_stmt, PlainStmts, next_stmt}
use Rattle.ec_check_declarations.specs.Scopes.{Scope}
use Rattle.ec_check_declarations.specs.Sites.{Site, told}

-- ---- statements one after another

-- the statements so far, or None where one breaks a rule
abbrev pub plain_kept : Option (Listed Stmt) → Option (List PlainStmt)
plain_kept ss = option_map (λ ss. map plain_stmt ss.items) ss

abbrev pub all_before : List PlainStmt → PlainStmts → PlainStmts
all_before [] rest = rest
all_before (s ∷ ss) rest = next_stmt s (all_before ss rest)

-- these, and then others
abbrev pub before : Option (List PlainStmt) → Option PlainStmts → Option PlainStmts
before None rest = None
before (Some ss) rest = option_map (all_before ss) rest

-- one, and then others
abbrev pub followed : Option PlainStmt → Option PlainStmts → Option PlainStmts
followed None rest = None
followed (Some s) rest = option_map (next_stmt s) rest

-- ---- walks

-- It gives what the part means; the scope becomes that behind the part; and what was told so far becomes what was told
-- before and what is told at the part's sites, whatever other sites follow.
pub record WalkedThrough {A : Type 0} (old new : Option Fault) (sites : List Site → List Site) (x meaning : A)
    (s behind : Scope) : Type 0 where
  pub meant : x ≡ meaning
  pub scope : s ≡ behind
  pub noted : (rest : List Site) → told new rest ≡ told old (sites rest)

-- The same, where the part's statements are put behind those so far: `meaning` puts them before others.
pub record WalkedOn (old new : Option Fault) (sites : List Site → List Site) (so_far kept : Option (List PlainStmt))
    (meaning : Option PlainStmts → Option PlainStmts) (s behind : Scope) : Type 0 where
  pub meant : (rest : Option PlainStmts) → before kept rest ≡ before so_far (meaning rest)
  pub scope : s ≡ behind
  pub noted : (rest : List Site) → told new rest ≡ told old (sites rest)
