-- What statements are in the program (ISO/IEC 9899:1999, 6.8): a relation between trees and statements of the program, with one
-- constructor or a few for each production. Beside a statement stand the objects that are declared in it, in the order of
-- their declarators; so the number of each is that of the objects before it.
use Rattle.std.specs.Prelude.{ℕ, ◌+◌, ◌<◌, ◌≡◌, ◌≢◌, Bool, true, false, Option, Some, None, List, [], ◌∷◌, ◌++◌, length}
use Rattle.ec_space.specs.declared.space.Home.TheVariants.{Data}
use Rattle.ec_space.specs.declared.space.SpaceId.TheVariants.{Generic}
use Rattle.ec_grammar.specs.declared.Pragma.{Pragma}
use Rattle.ec_grammar.specs.declared.Spot.{Spot}
use Rattle.ec_grammar.specs.Trees as t
use Rattle.ec_core.specs.Plain.{PlainType, void, PlainExpr, PlainExprs, PlainStmt, statement, PlainKind, empty, evaluate, block, declare}
use Rattle.ec_core.specs.Plain.{branch, while_loop, do_loop, for_loop, break_loop, continue_loop, return_value, OptionPlainStmt}
use Rattle.ec_core.specs.Plain.{no_stmt, a_stmt, PlainStmts, last_stmt, next_stmt, PlainObject, local}
use Rattle.ec_check_names.specs.Firsts.{first_specs, first_expression, first_statement}
use Rattle.ec_check_names.specs.Names.{an_object, with_inside}
use Rattle.ec_check_operands.specs.Operands.{Operand, value_type, as_value}
use Rattle.ec_check_forms.specs.Constraints.{IsScalar, IsStruct}
use Rattle.ec_check_expressions.specs.Known.{Known}
use Rattle.ec_check_declarations.specs.Scopes.{Context, known_in}
use Rattle.ec_check_statements.specs.Around.{under}
use Rattle.ec_check_statements.specs.Locals.{first_declarator}
use Rattle.ec_check_meanings.specs.Conversions.{IsPassed}
use Rattle.ec_check_meanings.specs.Means.{Means, Uses}
use Rattle.ec_check_meanings.specs.Terms.{term_of_expression}
use Rattle.ec_check_parts.specs.Declared.{DeclareObject, IsConst}
use Rattle.ec_check_parts.specs.Places.{Inside}
use Rattle.ec_check_typed.specs.Initialisers.{Starts}

-- the function in whose body a statement stands: its unit, its number, and the type of its result
pub record Enclosing : Type 0 where
  pub unit : ℕ
  pub function : ℕ
  pub result : PlainType

-- ---- what is known

-- behind the declarators of objects of a function: each name stands for its object, whose number is that of the objects
-- before it (6.2.1)
abbrev pub declaring : List PlainObject → Inside → Inside
declaring [] i = i
declaring (o ∷ os) i =
    declaring os
    (record {
      names = with_inside o.name (an_object (Some i.made) (Some o.ty) o.const Generic false) i.names;
      made = i.made + 1;
    })

-- behind a statement in which so many objects are declared: no name leaves it
abbrev pub beyond : (objects : ℕ) → Inside → Inside
beyond objects i = record { names = i.names; made = i.made + objects }

-- ---- expressions

-- the condition of a statement: a scalar value, not converted (6.8.4.1 and 6.8.5)
pub data Tests (k : Known) (x : t.Expression) : PlainExpr → Type 0 where
  tested : {o : Operand} → Uses k (term_of_expression x) o → IsScalar (value_type o) → Tests k x (as_value k.modes o)

-- an expression whose value is not used: it may be void, but no struct (6.8.3)
pub data Evaluates (k : Known) (x : t.Expression) : PlainExpr → Type 0 where
  evaluated : {o : Operand} → Means k (term_of_expression x) o → ¬ IsStruct (value_type o) → Evaluates k x (as_value k.modes o)

-- the condition and the last part of a `for`, which may be left out (6.8.5.3)
pub data MayTest (k : Known) : Option t.Expression → Option PlainExpr → Type 0 where
  no_test : MayTest k None None
  a_test : {x : t.Expression} {e : PlainExpr} → Tests k x e → MayTest k (Some x) (Some e)

pub data MayEvaluate (k : Known) : Option t.Expression → Option PlainExpr → Type 0 where
  no_evaluation : MayEvaluate k None None
  an_evaluation : {x : t.Expression} {e : PlainExpr} → Evaluates k x e → MayEvaluate k (Some x) (Some e)

-- ---- declarations

-- the object of a declarator in a block: it stands in the generic space, and is kept in the data bank
abbrev pub local_object : Enclosing → List ℕ → PlainType → (konst : Bool) → PlainObject
local_object w n ty konst =
    record {
      name = n;
      unit = w.unit;
      external = false;
      ty = ty;
      space = Generic;
      home = Data;
      const = konst;
      storage = local w.function;
    }

-- A declarator in a block is a statement of its own, at its first token, which gives the next object its initial values; the
-- object's name is known in its initialiser (6.2.1 and 6.7.8).
pub data IsLocal (w : Enclosing) (c : Context) (ss : t.Specs) (i : Inside) : t.InitDeclarator → PlainStmt → PlainObject → Type 0 where
  one_local : {stars : List t.Star} {at : Spot} {n : List ℕ} {shape : t.Shape} {start : Option t.Start} {ty : PlainType}
      {konst : Bool} {values : PlainExprs} → i.made < 65_536
      → DeclareObject (known_in c i.names) ss stars shape start ty → IsConst ss stars konst
      → Starts (known_in c (declaring (local_object w n ty konst ∷ []) i).names) ty start values
      → IsLocal w c ss i (t.init_declarator (t.declarator stars (t.identifier at n) shape) start)
      (statement w.unit (first_declarator (t.declarator stars (t.identifier at n) shape)) (declare i.made values))
      (local_object w n ty konst)

-- some declarators, each behind those before it
pub data AreLocals (w : Enclosing) (c : Context) (ss : t.Specs) : Inside → List t.InitDeclarator → List PlainStmt → List PlainObject
    → Type 0 where
  no_local : {i : Inside} → AreLocals w c ss i [] [] []
  more_locals : {i : Inside} {d : t.InitDeclarator} {ds : List t.InitDeclarator} {x : PlainStmt} {xs : List PlainStmt} {o : PlainObject}
      {os : List PlainObject} → IsLocal w c ss i d x o → AreLocals w c ss (declaring (o ∷ []) i) ds xs os
      → AreLocals w c ss i (d ∷ ds) (x ∷ xs) (o ∷ os)

-- the declarators behind the first one
abbrev pub others : List t.NextInitDeclarator → List t.InitDeclarator
others [] = []
others (t.next_init_declarator comma d ∷ ds) = d ∷ others ds

-- these statements, and then others
abbrev pub followed_by : List PlainStmt → PlainStmts → PlainStmts
followed_by [] rest = rest
followed_by (x ∷ xs) rest = next_stmt x (followed_by xs rest)

-- the first part of a `for`: of several objects that it declares, the statements stand in a block
pub data IsFirst (w : Enclosing) (c : Context) (i : Inside) : t.First → OptionPlainStmt → List PlainObject → Type 0 where
  one_object : {ss : t.Specs} {d : t.InitDeclarator} {e : Spot} {x : PlainStmt} {o : PlainObject} → IsLocal w c ss i d x o
      → IsFirst w c i (t.first_declared (t.declaration ss d [] e)) (a_stmt x) (o ∷ [])
  several_objects : {ss : t.Specs} {d : t.InitDeclarator} {next : t.NextInitDeclarator} {ds : List t.NextInitDeclarator} {e : Spot}
      {xs : List PlainStmt} {os : List PlainObject} → AreLocals w c ss i (d ∷ others (next ∷ ds)) xs os
      → IsFirst w c i (t.first_declared (t.declaration ss d (next ∷ ds) e))
      (a_stmt (statement w.unit (first_specs ss) (block (followed_by xs last_stmt)))) os
  nothing_first : {e : Spot} → IsFirst w c i (t.first_evaluated None e) no_stmt []
  evaluated_first : {x : t.Expression} {e : Spot} {v : PlainExpr} → Evaluates (known_in c i.names) x v
      → IsFirst w c i (t.first_evaluated (Some x) e) (a_stmt (statement w.unit (first_expression x) (evaluate v))) []

-- ---- statements

mutual
  -- what a statement is, but for the place where it stands
  pub data Says (w : Enclosing) : Context → (in_loop : Bool) → Inside → t.Statement → PlainKind → List PlainObject → Type 0 where
    -- a block, under the pragmas at its head (6.8.2; ISO/IEC TR 18037:2008, 4.1.3)
    compounded : {c : Context} {in_loop : Bool} {i : Inside} {l r : Spot} {ps : List Pragma} {xs : t.Items} {ss : PlainStmts}
        {os : List PlainObject} → AreItems w (under ps c) in_loop i xs ss os
        → Says w c in_loop i (t.block (t.compound l ps xs r)) (block ss) os
    -- an expression statement, which may be empty (6.8.3)
    nothing_said : {c : Context} {in_loop : Bool} {i : Inside} {e : Spot} → Says w c in_loop i (t.simple None e) empty []
    expressed : {c : Context} {in_loop : Bool} {i : Inside} {x : t.Expression} {e : Spot} {v : PlainExpr}
        → Evaluates (known_in c i.names) x v → Says w c in_loop i (t.simple (Some x) e) (evaluate v) []
    -- `if` (6.8.4.1)
    selected : {c : Context} {in_loop : Bool} {i : Inside} {at l e : Spot} {x : t.Expression} {a : t.Statement} {v : PlainExpr}
        {p : PlainStmt} {os : List PlainObject} → Tests (known_in c i.names) x v → IsStatement w c in_loop i a p os
        → Says w c in_loop i (t.if_then at (t.condition l x e) a) (branch v p no_stmt) os
    chosen : {c : Context} {in_loop : Bool} {i : Inside} {at l e word : Spot} {x : t.Expression} {a b : t.Statement} {v : PlainExpr}
        {p q : PlainStmt} {os us : List PlainObject} → Tests (known_in c i.names) x v → IsStatement w c in_loop i a p os
        → IsStatement w c in_loop (beyond (length os) i) b q us
        → Says w c in_loop i (t.if_else at (t.condition l x e) a word b) (branch v p (a_stmt q)) (os ++ us)
    -- loops (6.8.5)
    while_true : {c : Context} {in_loop : Bool} {i : Inside} {at l e : Spot} {x : t.Expression} {a : t.Statement} {v : PlainExpr}
        {p : PlainStmt} {os : List PlainObject} → Tests (known_in c i.names) x v → IsStatement w c true i a p os
        → Says w c in_loop i (t.while_loop at (t.condition l x e) a) (while_loop v p) os
    done_while : {c : Context} {in_loop : Bool} {i : Inside} {at word l e z : Spot} {x : t.Expression} {a : t.Statement} {v : PlainExpr}
        {p : PlainStmt} {os : List PlainObject} → IsStatement w c true i a p os → Tests (known_in c i.names) x v
        → Says w c in_loop i (t.do_loop at a word (t.condition l x e) z) (do_loop p v) os
    -- what the first part of a `for` declares is known to the end of the loop (6.8.5.3)
    repeated : {c : Context} {in_loop : Bool} {i : Inside} {at l semicolon e : Spot} {first : t.First} {x y : Option t.Expression}
        {a : t.Statement} {p : OptionPlainStmt} {v u : Option PlainExpr} {q : PlainStmt} {os us : List PlainObject}
        → IsFirst w c i first p os → MayTest (known_in c (declaring os i).names) x v → MayEvaluate (known_in c (declaring os i).names) y u
        → IsStatement w c true (declaring os i) a q us
        → Says w c in_loop i (t.for_loop at (t.heading l first x semicolon y e) a) (for_loop p v u q) (os ++ us)
    -- jumps (6.8.6): `break` and `continue` stand in loops; a value that is returned is brought to the result's type
    broken_off : {c : Context} {i : Inside} {at e : Spot} → Says w c true i (t.break_loop at e) break_loop []
    continued : {c : Context} {i : Inside} {at e : Spot} → Says w c true i (t.continue_loop at e) continue_loop []
    returned : {c : Context} {in_loop : Bool} {i : Inside} {at e : Spot} → w.result ≡ void
        → Says w c in_loop i (t.return_value at None e) (return_value None) []
    value_returned : {c : Context} {in_loop : Bool} {i : Inside} {at e : Spot} {x : t.Expression} {o : Operand} {v : PlainExpr}
        → w.result ≢ void → Means (known_in c i.names) (term_of_expression x) o → IsPassed c.modes w.result o v
        → Says w c in_loop i (t.return_value at (Some x) e) (return_value (Some v)) []

  -- a statement stands at its first token
  pub data IsStatement (w : Enclosing) : Context → (in_loop : Bool) → Inside → t.Statement → PlainStmt → List PlainObject → Type 0 where
    at_first : {c : Context} {in_loop : Bool} {i : Inside} {x : t.Statement} {kind : PlainKind} {os : List PlainObject}
        → Says w c in_loop i x kind os → IsStatement w c in_loop i x (statement w.unit (first_statement x) kind) os

  -- the items of a block, in order (6.8.2): names that are declared are known from there on
  pub data AreItems (w : Enclosing) : Context → (in_loop : Bool) → Inside → t.Items → PlainStmts → List PlainObject → Type 0 where
    no_item : {c : Context} {in_loop : Bool} {i : Inside} → AreItems w c in_loop i t.no_items last_stmt []
    declared : {c : Context} {in_loop : Bool} {i : Inside} {ss : t.Specs} {d : t.InitDeclarator} {ds : List t.NextInitDeclarator}
        {e : Spot} {xs : t.Items} {ps : List PlainStmt} {qs : PlainStmts} {os us : List PlainObject}
        → AreLocals w c ss i (d ∷ others ds) ps os → AreItems w c in_loop (declaring os i) xs qs us
        → AreItems w c in_loop i (t.items (t.declared (t.declaration ss d ds e)) xs) (followed_by ps qs) (os ++ us)
    stated : {c : Context} {in_loop : Bool} {i : Inside} {x : t.Statement} {xs : t.Items} {p : PlainStmt} {qs : PlainStmts}
        {os us : List PlainObject} → IsStatement w c in_loop i x p os → AreItems w c in_loop (beyond (length os) i) xs qs us
        → AreItems w c in_loop i (t.items (t.stated x) xs) (next_stmt p qs) (os ++ us)

-- the body of a function, behind its parameters: a block at its `{` (6.9.1)
pub data IsBody (w : Enclosing) (c : Context) (i : Inside) : t.Compound → PlainStmt → List PlainObject → Type 0 where
  a_body : {l r : Spot} {ps : List Pragma} {xs : t.Items} {ss : PlainStmts} {os : List PlainObject}
      → AreItems w (under ps c) false i xs ss os → IsBody w c i (t.compound l ps xs r) (statement w.unit l.index (block ss)) os
