-- Initialisers of objects, in blocks and of static ones, and the constraints on them, in words (ISO/IEC 9899:1999, 6.6 and
-- 6.7.8). A type is known where the declarator of the object breaks no constraint on it.
use Rattle.std.specs.Prelude.{ℕ, ◌+◌, ◌<◌, ◌≡◌, ◌⊎◌, Option, Some, List}
use Rattle.ec_grammar.specs.Trees as t
use Rattle.ec_core.specs.declared.programs.LeafInit.{LeafInit}
use Rattle.ec_core.specs.Plain.{PlainType, PlainStruct, PlainExpr}
use Rattle.ec_check_operands.specs.declared.faults.Fault.{Fault}
use Rattle.ec_check_operands.specs.Operands.{Operand}
use Rattle.ec_check_forms.specs.Constraints.{IsAggregate}
use Rattle.ec_check_names.specs.Firsts.{first_assignment}
use Rattle.ec_check_expressions.specs.Known.{Known}
use Rattle.ec_check_initialisers.specs.Locals.{items_count}
use Rattle.ec_check_initialisers.specs.Parts.{part_of, part_count}
use Rattle.ec_check_initialisers.specs.Places.{StaticPlace}
use Rattle.ec_check_meanings.specs.Means.{Uses}
use Rattle.ec_check_meanings.specs.Terms.{term_of_assignment}
use Rattle.ec_check_parts.specs.Addresses.{IsAddressConstant}
use Rattle.ec_check_parts.specs.ConstantForms.{IsConstantTerm}
use Rattle.ec_check_parts.specs.Expressions.{BreakUsed, BreakPassing}
use Rattle.ec_check_parts.specs.Items.{HasItemValue, IsInitialValue}

-- ---- braces

-- an array or a struct asks for braces
abbrev pub IsBare : Option PlainType → Type 0
IsBare ty = (to : PlainType) × (ty ≡ Some to) × IsAggregate to

-- braces stand where a scalar is, or have more items than an array or a struct has parts
abbrev pub HasNoPlace : List PlainStruct → Option PlainType → (count : ℕ) → Type 0
HasNoPlace structs ty count =
    (to : PlainType) × (ty ≡ Some to) × ((¬ IsAggregate to) ⊎ (part_count structs to < count))

-- ---- items

-- an expression, without braces, in the place of an object or a part of a type
pub data BreakItem (k : Known) (ty : Option PlainType) (a : t.Assignment) (f : Fault) : Type 0 where
  item_used : BreakUsed k (term_of_assignment a) (first_assignment a) f → BreakItem k ty a f
  item_passed : (o : Operand) → Uses k (term_of_assignment a) o → (to : PlainType) → ty ≡ Some to → ¬ IsAggregate to
      → BreakPassing o to (first_assignment a) f → BreakItem k ty a f
  item_bare : f.rule ≡ 14 → f.at ≡ first_assignment a → IsBare ty → BreakItem k ty a f

-- it is built neither as a constant expression nor as an address constant
abbrev pub IsFormless : Known → t.Assignment → Type 0
IsFormless k a =
    (¬ IsConstantTerm k (term_of_assignment a)) × ((s : StaticPlace) → ¬ IsAddressConstant k (term_of_assignment a) s)

-- what it means in the type of its place is no initial value of a static object: the value of a constant expression that is
-- undefined, or the address of an object that no unit defines
abbrev pub HasNoInitialValue : Known → Option PlainType → t.Assignment → Type 0
HasNoInitialValue k ty a =
    (e : PlainExpr) × HasItemValue k ty a e × ((leaf : LeafInit) → ¬ IsInitialValue k ty a leaf)

-- the same of a static object; what has no form of a constant is not looked into further
pub data BreakStaticItem (k : Known) (ty : Option PlainType) (a : t.Assignment) (f : Fault) : Type 0 where
  no_constant_form : f.rule ≡ 15 → f.at ≡ first_assignment a → IsFormless k a → BreakStaticItem k ty a f
  formless_bare : f.rule ≡ 14 → f.at ≡ first_assignment a → IsFormless k a → IsBare ty → BreakStaticItem k ty a f
  static_item : ¬ IsFormless k a → BreakItem k ty a f → BreakStaticItem k ty a f
  no_initial_value : f.rule ≡ 15 → f.at ≡ first_assignment a → ¬ IsFormless k a → HasNoInitialValue k ty a
      → BreakStaticItem k ty a f

-- ---- initialisers

-- an initialiser of an object of a type, whose items are judged so
abbrev mutual
  pub BreakParts : (Option PlainType → t.Assignment → Fault → Type 0) → List PlainStruct → Option PlainType → t.Initialiser
      → Fault → Type 0
  BreakParts Item structs ty (t.initial_value a) f = Item ty a f
  BreakParts Item structs ty (t.braces l first more c r) f =
      ((f.rule ≡ 14) × (f.at ≡ l.index) × HasNoPlace structs ty (items_count more + 1))
      ⊎ (BreakParts Item structs (part_of structs ty 0) first f ⊎ BreakPartsFrom Item structs ty 1 more f)

  -- initialisers of the parts from one on
  pub BreakPartsFrom : (Option PlainType → t.Assignment → Fault → Type 0) → List PlainStruct → Option PlainType → ℕ
      → t.Initialisers → Fault → Type 0
  BreakPartsFrom Item structs ty i t.no_initialisers f = ⊥
  BreakPartsFrom Item structs ty i (t.initialisers s x more) f =
      BreakParts Item structs (part_of structs ty i) x f ⊎ BreakPartsFrom Item structs ty (i + 1) more f

-- of an object in a block
abbrev pub BreakInitialiser : Known → Option PlainType → t.Initialiser → Fault → Type 0
BreakInitialiser k ty i f = BreakParts (BreakItem k) k.structs ty i f

-- of an object at file scope
abbrev pub BreakStatic : Known → Option PlainType → t.Initialiser → Fault → Type 0
BreakStatic k ty i f = BreakParts (BreakStaticItem k) k.structs ty i f
