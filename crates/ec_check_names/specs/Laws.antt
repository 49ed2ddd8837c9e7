-- What holds of the numbers of definitions, and of structs that are the same.
use Rattle.std.specs.Prelude.{ℕ, ◌≡◌, if◌then◌else◌, length, Some, List, [], ◌++◌}
use Rattle.std.specs.Str.{bytes_eq}
use Rattle.ec_check_names.specs.Names.{Named, Entry, Names, found, with_outside, with_inside, closed}
use Rattle.std.specs.Prelude.{◌+◌, ◌≤◌, ◌↔◌, ◌⊎◌, Bool, true, MatchOption, ◌∷◌}
use Rattle.ec_core.specs.Plain.{PlainStruct}
use Rattle.ec_grammar.specs.Trees.{Tree}
use Rattle.ec_check_names.specs.Counts.{objects_declared, functions_defined}
use Rattle.ec_check_names.specs.declared.numbering.Defined.{Defined}
use Rattle.ec_check_names.specs.declared.numbering.Defined.TheVariants.{Object, Register, Function as FunctionKind}
use Rattle.ec_check_names.specs.declared.linkage.Linkage.{Linkage}
use Rattle.ec_check_names.specs.Definitions.{Definition, definitions, defines, number_of}
use Rattle.ec_check_names.specs.Structs.{same_struct}

-- a name that is declared in a block stands for that there, and every other name for what it stood for
abbrev pub InnerNamesHide : Type 0
InnerNamesHide =
    (s : Names) (m n : List ℕ) (what : Named)
    → found m (with_inside n what s) ≡ (if bytes_eq n m then Some what else found m s)

-- the same at file scope, where no block is open
abbrev pub OuterNamesAreKnown : Type 0
OuterNamesAreKnown =
    (s : Names) (m n : List ℕ) (what : Named) → s.inside ≡ []
    → found m (with_outside n what s) ≡ (if bytes_eq m n then Some what else found m s)

-- behind a block everything is known that was known before it, and nothing else
abbrev pub BlocksEnd : Type 0
BlocksEnd =
    (s : Names) (declared : List Entry)
    → closed (length s.inside) (record { outside = s.outside; inside = s.inside ++ declared }) ≡ s

-- the number of a definition behind so many objects and functions: a function's is that of functions, and an object's
-- is no less than that of objects
abbrev pub IsNext : Defined → (objects functions number : ℕ) → Type 0
IsNext Object o f n = o ≤ n
IsNext Register o f n = o ≤ n
IsNext FunctionKind o f n = n ≡ f

abbrev pub objects_behind : Defined → (objects number : ℕ) → ℕ
objects_behind Object o n = n + 1
objects_behind Register o n = n + 1
objects_behind FunctionKind o n = o

abbrev pub functions_behind : Defined → (functions : ℕ) → ℕ
functions_behind Object f = f
functions_behind Register f = f
functions_behind FunctionKind f = f + 1

-- the numbers of definitions from so many objects and functions on, up to so many: those of objects rise, and those of
-- functions are one after the other
abbrev pub AreNumbered : (objects functions : ℕ) → List Definition → (objects functions : ℕ) → Type 0
AreNumbered o f [] o' f' = (o ≤ o') × (f ≡ f')
AreNumbered o f (d ∷ ds) o' f' =
    IsNext d.kind o f d.number
    × AreNumbered (objects_behind d.kind o d.number) (functions_behind d.kind f) ds o' f'

-- no two objects have one number, nor have two functions; numbers of objects are below the number of objects that units
-- declare, and numbers of functions are all those below the number of functions that they define
abbrev pub DefinitionsAreNumbered : Type 0
DefinitionsAreNumbered =
    (us : List Tree) → AreNumbered 0 0 (definitions us) (objects_declared us) (functions_defined us)

-- two struct definitions are told to be the same exactly where they are equal
abbrev pub EqualStructsAreOne : Type 0
EqualStructsAreOne = (s t : PlainStruct) → (same_struct s t ≡ true) ↔ (s ≡ t)

-- one of the definitions is that of a name of a unit with this linkage, and has this number
abbrev pub IsDefinedAs : List ℕ → (unit : ℕ) → Linkage → (callable : Bool) → (number : ℕ) → List Definition → Type 0
IsDefinedAs n unit linkage callable number [] = ⊥
IsDefinedAs n unit linkage callable number (d ∷ ds) =
    ((defines n unit linkage callable d ≡ true) × (d.number ≡ number))
    ⊎ IsDefinedAs n unit linkage callable number ds

-- a name has the number of one of its definitions, and has none exactly where nothing defines it
abbrev pub DefinitionsAreFound : Type 0
DefinitionsAreFound =
    (n : List ℕ) (unit : ℕ) (linkage : Linkage) (callable : Bool) (ds : List Definition)
    → MatchOption (number_of n unit linkage callable ds)
    ((k : ℕ) → ¬ IsDefinedAs n unit linkage callable k ds)
    (λ k. IsDefinedAs n unit linkage callable k ds)
