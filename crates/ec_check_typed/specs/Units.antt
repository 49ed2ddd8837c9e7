-- What units add to the program (ISO/IEC 9899:1999, 6.7 and 6.9; named registers: ISO/IEC TR 18037:2008, 5.2.2), and the program
-- of all units: a relation between trees and programs. Structs, objects and functions stand in the order of the tokens of what
-- defines them, each with the number of those before it.
use Rattle.std.specs.Prelude.{ℕ, ◌+◌, ◌<◌, ◌≡◌, ◌⊎◌, ⊤, Bool, true, false, Option, Some, List, [], ◌∷◌, ◌++◌, length}
use Rattle.ec_iohw.specs.declared.table.IoTable.{IoTable}
use Rattle.ec_space.specs.declared.space.Home.TheVariants.{Data as DataHome}
use Rattle.ec_space.specs.declared.space.SpaceId.{SpaceId}
use Rattle.ec_space.specs.declared.space.SpaceId.TheVariants.{Generic}
use Rattle.ec_grammar.specs.declared.Pragma.{Pragma}
use Rattle.ec_grammar.specs.declared.Spot.{Spot}
use Rattle.ec_grammar.specs.Trees as t
use Rattle.ec_core.specs.declared.programs.LeafInit.{LeafInit}
use Rattle.ec_core.specs.Plain.{PlainType, PlainStruct, PlainStmt, PlainObject, static, register, param, PlainFunction, PlainProgram}
use Rattle.ec_check_names.specs.declared.linkage.Linkage.{Linkage}
use Rattle.ec_check_names.specs.declared.specifiers.StorageWord.{StorageWord}
use Rattle.ec_check_names.specs.declared.specifiers.StorageWord.TheVariants.{Extern}
use Rattle.ec_check_names.specs.Counts.{is_function}
use Rattle.ec_check_names.specs.Definitions.{Definition, definitions}
use Rattle.ec_check_names.specs.Tags.{Tags}
use Rattle.ec_check_file_scope.specs.FileNames.{is_external, is_registered}
use Rattle.ec_check_file_scope.specs.FileObjects.{home_of}
use Rattle.ec_check_file_scope.specs.States.{Setting}
use Rattle.ec_check_parts.specs.Declared.{DeclareObject, IsConst, IsInSpace, DeclareParam, DeclareResult, DeclareRegister}
use Rattle.ec_check_parts.specs.Functions.{params_in}
use Rattle.ec_check_parts.specs.Linkages.{HasLinkage}
use Rattle.ec_check_parts.specs.Mains.{IsMain}
use Rattle.ec_check_parts.specs.Places.{Inside}
use Rattle.ec_check_parts.specs.Readings.{Reading, Reads}
use Rattle.ec_check_parts.specs.Structures.{DeclareStruct}
use Rattle.ec_check_parts.specs.Units.{Outside, context_at, known_at, word_in, object_at, behind_name, function_at}
use Rattle.ec_check_parts.specs.Units.{behind_function, inside_at, behind_declarator, behind_external, unit_begins}
use Rattle.ec_check_parts.specs.Units.{behind_unit, nothing_known, setting_in}
use Rattle.ec_check_typed.specs.Initialisers.{StartsStatic}
use Rattle.ec_check_typed.specs.Statements.{declaring, local_object, others, IsBody}

-- ---- what is added

pub record Added : Type 0 where
  pub structs : List PlainStruct
  pub objects : List PlainObject
  pub functions : List PlainFunction

abbrev pub nothing : Added
nothing = record { structs = []; objects = []; functions = [] }

abbrev pub objects_alone : List PlainObject → Added
objects_alone os = record { structs = []; objects = os; functions = [] }

-- one after the other
abbrev pub both : Added → Added → Added
both a b =
    record {
      structs = a.structs ++ b.structs;
      objects = a.objects ++ b.objects;
      functions = a.functions ++ b.functions;
    }

-- a place between external declarations: what is known there, and how many functions the program has so far
pub record Place : Type 0 where
  pub known : Outside
  pub functions : ℕ

-- the place where this is known behind a part that adds so much
abbrev pub past : Added → Outside → Place → Place
past a known p =
    record {
      known = record known { made = p.known.made + length a.objects };
      functions = p.functions + length a.functions;
    }

-- ---- objects at file scope

abbrev pub IsExtern : Option StorageWord → Type 0
IsExtern (Some Extern) = ⊤
IsExtern word = ⊥

-- an object with static storage, as its declarator says, with these initial values
abbrev pub static_object : Setting → List ℕ → Linkage → PlainType → (konst : Bool) → SpaceId → List LeafInit → PlainObject
static_object r n linkage ty konst space leaves =
    record {
      name = n;
      unit = r.unit;
      external = is_external linkage;
      ty = ty;
      space = space;
      home = home_of space;
      const = konst;
      storage = static leaves;
    }

-- by a reading of declarators
module _ (q : Reading) where
  -- The object of a declarator at file scope: that of a function is none, and a declaration with `extern` defines none. The name
  -- is known in the initialiser (6.7.8 and 6.9.2).
  pub data IsObject (r : Setting) (o : Outside) (ss : t.Specs) : t.InitDeclarator → List PlainObject → Type 0 where
    a_function_name : {stars : List t.Star} {n : t.Identifier} {l e : Spot} {ps : t.Params} {start : Option t.Start}
        → IsObject r o ss (t.init_declarator (t.declarator stars n (t.function_shape l ps e)) start) []
    declared_only : {stars : List t.Star} {n : t.Identifier} {shape : t.Shape} {start : Option t.Start} → is_function shape ≡ false
        → IsExtern (word_in ss) → IsObject r o ss (t.init_declarator (t.declarator stars n shape) start) []
    defined : {stars : List t.Star} {at : Spot} {n : List ℕ} {shape : t.Shape} {start : Option t.Start} {linkage : Linkage}
        {ty : PlainType} {konst : Bool} {space : SpaceId} {leaves : List LeafInit} → is_function shape ≡ false → ¬ IsExtern (word_in ss)
        → o.made < 65_536 → HasLinkage n r.unit o.declared (word_in ss) false linkage
        → DeclareObject (known_at r o) ss stars shape start ty → IsConst ss stars konst → IsInSpace ss stars space
        → StartsStatic (known_at r (behind_name q r ss n (object_at q r ss (t.declarator stars (t.identifier at n) shape) start o) o)) ty
        start leaves
        → IsObject r o ss (t.init_declarator (t.declarator stars (t.identifier at n) shape) start)
        (static_object r n linkage ty konst space leaves ∷ [])

  -- some declarators, each behind those before it
  pub data AreObjects (r : Setting) : Outside → t.Specs → List t.InitDeclarator → List PlainObject → Type 0 where
    no_object : {o : Outside} {ss : t.Specs} → AreObjects r o ss [] []
    more_objects : {o : Outside} {ss : t.Specs} {d : t.InitDeclarator} {ds : List t.InitDeclarator} {os us : List PlainObject}
        → IsObject r o ss d os → AreObjects r (record (behind_declarator q r ss d o) { made = o.made + length os }) ss ds us
        → AreObjects r o ss (d ∷ ds) (os ++ us)

-- an object in named registers, from one on
abbrev pub register_object : Setting → List ℕ → (konst : Bool) → (first : ℕ) → PlainType → PlainObject
register_object r n konst first ty =
    record {
      name = n;
      unit = r.unit;
      external = true;
      ty = ty;
      space = Generic;
      home = DataHome;
      const = konst;
      storage = register first;
    }

-- the object of a declaration of a named register, which stands once, at the first of all declarations of its name
pub data IsRegister (r : Setting) (o : Outside) : t.RegisterObject → List PlainObject → Type 0 where
  declared_before : {w e : Spot} {reg : t.Identifier} {at : Spot} {name : List ℕ} {ss : t.Specs} → is_registered name o.declared ≡ true
      → IsRegister r o (t.register_object w reg ss (t.identifier at name) e) []
  first_declared : {w e reg_at at : Spot} {reg name : List ℕ} {ss : t.Specs} {konst : Bool} {first : ℕ} {ty : PlainType}
      → is_registered name o.declared ≡ false → o.made < 65_536 → DeclareRegister (known_at r o) reg ss first ty → IsConst ss [] konst
      → IsRegister r o (t.register_object w (t.identifier reg_at reg) ss (t.identifier at name) e)
      (register_object r name konst first ty ∷ [])

-- ---- structs

abbrev pub IsAmong : PlainStruct → List PlainStruct → Type 0
IsAmong s [] = ⊥
IsAmong s (x ∷ xs) = (s ≡ x) ⊎ IsAmong s xs

-- The struct of a definition, which stands at the first of all definitions with its tag and its members (6.2.7). A definition
-- that breaks a constraint adds none.
pub data IsStruct (r : Setting) (o : Outside) (d : t.Structure) : List PlainStruct → Type 0 where
  first_defined : {s : PlainStruct} → DeclareStruct (known_at r o) d s → ¬ IsAmong s o.structs → IsStruct r o d (s ∷ [])
  defined_before : {s : PlainStruct} → DeclareStruct (known_at r o) d s → IsAmong s o.structs → IsStruct r o d []
  not_defined : ((s : PlainStruct) → ¬ DeclareStruct (known_at r o) d s) → IsStruct r o d []

-- ---- functions

-- the object of a parameter
abbrev pub param_object : (unit function : ℕ) → List ℕ → PlainType → (konst : Bool) → PlainObject
param_object unit function n ty konst =
    record (local_object (record { unit = unit; function = function; result = ty }) n ty konst) { storage = param function }

-- the objects of parameters and their numbers, in order, each behind those before it
pub data AreParams (tags : Tags) (structs unit function : ℕ) : Inside → List t.Param → List ℕ → List PlainObject → Type 0 where
  no_param : {i : Inside} → AreParams tags structs unit function i [] [] []
  more_params : {i : Inside} {ss : t.Specs} {stars : List t.Star} {at : Spot} {n : List ℕ} {ps : List t.Param} {ty : PlainType}
      {konst : Bool} {ns : List ℕ} {os : List PlainObject} → DeclareParam tags structs ss stars ty → IsConst ss stars konst
      → i.made < 65_536
      → AreParams tags structs unit function (declaring (param_object unit function n ty konst ∷ []) i) ps ns os
      → AreParams tags structs unit function i (t.param (t.type_name ss stars) (Some (t.identifier at n)) ∷ ps) (i.made ∷ ns)
      (param_object unit function n ty konst ∷ os)

-- by a reading of declarators
module _ (q : Reading) where
  -- A definition of a function, whose number is that of the functions before it: its name is known in its body, and its parameters
  -- there alone (6.9.1).
  pub data IsFunction (r : Setting) (p : Place) : t.Function → PlainFunction → List PlainObject → Type 0 where
    a_function : {ss : t.Specs} {stars : List t.Star} {at l e : Spot} {n : List ℕ} {ps : t.Params} {b : t.Compound} {returns : PlainType}
        {ns : List ℕ} {os us : List PlainObject} {body : PlainStmt} → p.functions < 65_536
        → DeclareResult p.known.tags (length p.known.structs) ss stars returns
        → AreParams p.known.tags (length p.known.structs) r.unit p.functions
        (inside_at (behind_function q r ss n true (function_at q ss stars ps p.known) p.known)) (params_in ps) ns os
        → IsBody (record { unit = r.unit; function = p.functions; result = returns })
        (context_at r (behind_function q r ss n true (function_at q ss stars ps p.known) p.known))
        (declaring os (inside_at (behind_function q r ss n true (function_at q ss stars ps p.known) p.known))) b body us
        → IsFunction r p (t.function (t.type_name ss stars) (t.identifier at n) l ps e b)
        (record { name = n; unit = r.unit; returns = returns; params = ns; body = body }) (os ++ us)

-- ---- external declarations

-- by a reading of declarators
module _ (q : Reading) where
  pub data Adds (r : Setting) (p : Place) : t.External → Added → Type 0 where
    by_pragma : {pragma : Pragma} → Adds r p (t.pragma_item pragma) nothing
    by_struct : {d : t.Structure} {ss : List PlainStruct} → IsStruct r p.known d ss
        → Adds r p (t.structure_item d) (record { structs = ss; objects = []; functions = [] })
    by_register : {d : t.RegisterObject} {os : List PlainObject} → IsRegister r p.known d os
        → Adds r p (t.register_item d) (objects_alone os)
    by_declaration : {ss : t.Specs} {d : t.InitDeclarator} {ds : List t.NextInitDeclarator} {e : Spot} {os : List PlainObject}
        → AreObjects q r p.known ss (d ∷ others ds) os → Adds r p (t.declaration_item (t.declaration ss d ds e)) (objects_alone os)
    by_function : {f : t.Function} {g : PlainFunction} {os : List PlainObject} → IsFunction q r p f g os
        → Adds r p (t.function_item f) (record { structs = []; objects = os; functions = g ∷ [] })

  -- external declarations, each behind those before it
  pub data AddAll (r : Setting) : Place → List t.External → Added → Type 0 where
    no_external : {p : Place} → AddAll r p [] nothing
    more_externals : {p : Place} {x : t.External} {xs : List t.External} {a b : Added} → Adds r p x a
        → AddAll r (past a (behind_external q r x p.known) p) xs b → AddAll r p (x ∷ xs) (both a b)

-- ---- units

-- a unit begins with no name, no tag and the default states
abbrev pub begins : Place → Place
begins p = record { known = unit_begins p.known; functions = p.functions }

-- by a reading of declarators
module _ (q : Reading) where
  -- units, each behind those before it, the first of which has this number
  pub data UnitsAdd (ds : List Definition) (io : IoTable) : (unit : ℕ) → Place → List t.Tree → Added → Type 0 where
    no_unit : {unit : ℕ} {p : Place} → UnitsAdd ds io unit p [] nothing
    more_units : {unit : ℕ} {p : Place} {xs : List t.External} {e : Spot} {us : List t.Tree} {a b : Added}
        → AddAll q (setting_in ds io unit) (begins p) xs a
        → UnitsAdd ds io (unit + 1) (past a (behind_unit q (setting_in ds io unit) (t.tree xs e) p.known) p) us b
        → UnitsAdd ds io unit p (t.tree xs e ∷ us) (both a b)

abbrev pub first_place : Place
first_place = record { known = nothing_known; functions = 0 }

-- The program is that of the units, by the reading of all declarators: it has what they add, and begins with the function of the
-- name `main` that a unit defines.
pub data Typed (us : List t.Tree) (io : IoTable) : PlainProgram → Type 0 where
  typed : {q : Reading} {a : Added} {start : ℕ} → Reads q → UnitsAdd q (definitions us) io 0 first_place us a
      → IsMain (definitions us) start
      → Typed us io (record { structs = a.structs; objects = a.objects; functions = a.functions; main = start })
