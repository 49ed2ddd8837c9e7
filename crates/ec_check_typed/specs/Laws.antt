-- The walk over statements and initialisers gives what they are in the program.
use Rattle.std.specs.Prelude.{ℕ, ◌≡◌, ◌↔◌, Bool, true, false, Option, Some, List, ◌++◌, length}
use Rattle.ec_grammar.specs.Trees as t
use Rattle.ec_core.specs.declared.programs.LeafInit.{LeafInit}
use Rattle.ec_core.specs.Plain.{PlainType, PlainExprs, PlainStmt, PlainKind, PlainObject}
use Rattle.ec_check_names.specs.Names.{Names}
use Rattle.ec_check_expressions.specs.Known.{Known}
use Rattle.ec_check_declarations.specs.Scopes.{Context, Scope, known_in}
use Rattle.ec_check_statements.specs.Around.{Around}
use Rattle.ec_check_statements.specs.Locals.{initial_values}
use Rattle.ec_check_statements.specs.Statements.{kind_of, body_of, after, after_body}
use Rattle.ec_check_file_scope.specs.FileObjects.{initial_leaves, after_register}
use Rattle.ec_check_file_scope.specs.FileScope.{after_declaration, after_structure}
use Rattle.ec_check_file_scope.specs.States.{Setting, State}
use Rattle.ec_check_parts.specs.Readings.{walked}
use Rattle.ec_check_parts.specs.Laws.{inside_of, outside_of}
use Rattle.ec_check_typed.specs.Initialisers.{Starts, StartsStatic}
use Rattle.ec_check_typed.specs.Statements.{Enclosing, Says, IsBody}
use Rattle.ec_check_typed.specs.Units.{Added, Place, Adds}

-- ---- initialisers

-- an object in a block and one at file scope have the values that the relation says exactly where the walk gives these
pub record InitialisersAreSaid : Type 0 where
  pub locals : (c : Context) (names : Names) (ty : PlainType) (start : Option t.Start) (values : PlainExprs)
      → Starts (known_in c names) ty start values ↔ initial_values c names start (Some ty) ≡ Some values
  pub statics : (k : Known) (ty : PlainType) (start : Option t.Start) (leaves : List LeafInit)
      → StartsStatic k ty start leaves ↔ initial_leaves k start (Some ty) ≡ Some leaves

-- ---- statements

-- what stands around a statement of a function, in a block that began where blocks had so many names
abbrev pub around : Enclosing → (in_loop : Bool) → (first : ℕ) → Around
around w in_loop first =
    record { function = w.function; unit = w.unit; in_loop = in_loop; result = Some w.result; first = first }

-- the objects behind a part are those before it and these
abbrev pub AreAdded : List PlainObject → Scope → Scope → Type 0
AreAdded os before behind = behind.objects ≡ before.objects ++ os

-- a statement is of a kind, by the relation, and declares objects exactly where the walk gives that kind and adds these; so is
-- the body of a function; and what the walk gives is something by the relation
pub record StatementsAreSaid : Type 0 where
  pub statements : (w : Enclosing) (c : Context) (in_loop : Bool) (first : ℕ) (x : t.Statement) (s : Scope) (kind : PlainKind)
      (os : List PlainObject) → Says w c in_loop (inside_of s) x kind os
      ↔ ((kind_of c (around w in_loop first) x s ≡ Some kind) × AreAdded os s (after c (around w in_loop first) x s))
  pub kinds : (w : Enclosing) (c : Context) (in_loop : Bool) (first : ℕ) (x : t.Statement) (s : Scope) (kind : PlainKind)
      → kind_of c (around w in_loop first) x s ≡ Some kind → (os : List PlainObject) × Says w c in_loop (inside_of s) x kind os
  pub bodies : (w : Enclosing) (c : Context) (first : ℕ) (b : t.Compound) (s : Scope) (body : PlainStmt) (os : List PlainObject)
      → IsBody w c (inside_of s) b body os
      ↔ ((body_of c (around w false first) b s ≡ Some body) × AreAdded os s (after_body c (around w false first) b s))
  pub given : (w : Enclosing) (c : Context) (first : ℕ) (b : t.Compound) (s : Scope) (body : PlainStmt)
      → body_of c (around w false first) b s ≡ Some body → (os : List PlainObject) × IsBody w c (inside_of s) b body os

-- ---- declarations at file scope

abbrev pub place_of : State → Place
place_of s = record { known = outside_of s; functions = length s.functions }

-- behind a part that adds so much, all has a meaning as it had before
pub record IsFurther (a : Added) (s behind : State) : Type 0 where
  pub whole : behind.whole ≡ s.whole
  pub structs : behind.structs ≡ s.structs ++ a.structs
  pub objects : behind.scope.objects ≡ s.scope.objects ++ a.objects
  pub functions : behind.functions ≡ s.functions ++ a.functions

-- what the relation says of a part is what the walk adds, and it says something where all has a meaning behind the part
pub record IsSaid (Said : Added → Type 0) (s behind : State) : Type 0 where
  pub added : (a : Added) → Said a → IsFurther a s behind
  pub there : behind.whole ≡ true → (a : Added) × Said a

pub record FileScopeIsSaid : Type 0 where
  pub declarations : (r : Setting) (d : t.Declaration) (s : State)
      → IsSaid (Adds walked r (place_of s) (t.declaration_item d)) s (after_declaration r d s)
  pub registers : (r : Setting) (d : t.RegisterObject) (s : State)
      → IsSaid (Adds walked r (place_of s) (t.register_item d)) s (after_register r d s)
  pub structures : (r : Setting) (d : t.Structure) (s : State)
      → IsSaid (Adds walked r (place_of s) (t.structure_item d)) s (after_structure r d s)
