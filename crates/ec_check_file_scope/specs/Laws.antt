-- Which declarations of a name at file scope conflict (rule 6), in the words of the rule (ISO/IEC 9899:1999, 6.2.2, 6.2.7
-- and 6.9), and which pointers reach an object by the space of its declaration (ISO/IEC TR 18037:2008, 5.1.3).
use Rattle.std.specs.Prelude.{◌≡◌, ◌≢◌, ◌⊎◌, ◌↔◌, ⊤, IsTrue, Option, Some, None, List, [], ◌∷◌}
use Rattle.std.specs.Bool.{Decides}
use Rattle.ec_space.specs.declared.space.Home.TheVariants.{Data as DataHome}
use Rattle.ec_space.specs.declared.space.SpaceId.{SpaceId}
use Rattle.ec_space.specs.declared.space.SpaceId.TheVariants.{Generic}
use Rattle.ec_space.specs.Spaces.{holds, encloses}
use Rattle.ec_check_names.specs.declared.linkage.Linkage.TheVariants.{External}
use Rattle.ec_check_file_scope.specs.FileNames.{FileKind, an_object, a_register, a_function, FileName, is_register, conflicts}
use Rattle.ec_check_file_scope.specs.FileObjects.{home_of}

-- two of them, where both are known: a declaration that breaks a rule has no type
abbrev pub AreTwo : {X : Type 0} → Option X → Option X → Type 0
AreTwo None b = ⊥
AreTwo (Some a) None = ⊥
AreTwo (Some a) (Some b) = a ≢ b

-- the name is declared with two types, spaces or registers, or as an object, an object in a named register and a function.
-- The types of functions are two where one has more parameters, whatever is known of these
abbrev pub DeclareTwo : FileKind → FileKind → Type 0
DeclareTwo (an_object a c s) (an_object b d r) = (AreTwo a b ⊎ (c ≢ d)) ⊎ (s ≢ r)
DeclareTwo (a_register p a c) (a_register q b d) = (AreTwo a b ⊎ (c ≢ d)) ⊎ AreTwo p q
DeclareTwo (a_function a m p) (a_function b n q) = AreTwo a b ⊎ ((m ≢ n) ⊎ AreTwo p q)
DeclareTwo x y = ⊤

-- two declarations are of one name in one unit, and in two where it is external in both
abbrev pub AreOfOneName : FileName → FileName → Type 0
AreOfOneName d e =
    (d.name ≡ e.name) × ((d.unit ≡ e.unit) ⊎ ((d.linkage ≡ External) × (e.linkage ≡ External)))

-- the name is defined twice; what several units declare in a named register is defined once
abbrev pub DefineTwice : FileName → FileName → Type 0
DefineTwice d e =
    (IsTrue d.defines × IsTrue e.defines)
    × (¬ ((IsTrue (is_register d.kind) × IsTrue (is_register e.kind)) × (d.unit ≢ e.unit)))

abbrev pub Conflict : FileName → FileName → Type 0
Conflict d e =
    AreOfOneName d e
    × ((DeclareTwo d.kind e.kind ⊎ ((d.unit ≡ e.unit) × (d.linkage ≢ e.linkage))) ⊎ DefineTwice d e)

-- a declaration conflicts with one of those before it
abbrev pub ConflictsWithOne : FileName → List FileName → Type 0
ConflictsWithOne d [] = ⊥
ConflictsWithOne d (e ∷ es) = Conflict d e ⊎ ConflictsWithOne d es

abbrev pub ConflictsAreTold : Type 0
ConflictsAreTold = (d : FileName) (es : List FileName) → Decides (conflicts d es) (ConflictsWithOne d es)

-- An object that is declared in a named space is in those spaces alone that enclose it, and one that is declared in none has its
-- home in data.
pub record HomesAreDeclared : Type 0 where
  pub named : (space declared : SpaceId) → declared ≢ Generic
      → IsTrue (holds space (home_of declared)) ↔ IsTrue (encloses space declared)
  pub unnamed : home_of Generic ≡ DataHome
