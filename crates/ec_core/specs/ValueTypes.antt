-- Values of types, and states whose leaves hold values of their types.
use Rattle.std.specs.Prelude.{⊤, ◌≡◌, ℕ, ◌<◌, ◌≤◌, Bool, IsTrue, IsSomeAnd, List, [], ◌∷◌, Option, Some, None}
use Rattle.std.specs.Prelude.{slice_get, slice_index}
use Rattle.ec_iohw.specs.declared.table.IoTable.{IoTable}
use Rattle.ec_space.specs.declared.space.SpaceId.{SpaceId}
use Rattle.ec_space.specs.Spaces.{holds}
use Rattle.ec_core.specs.declared.arithmetic_types.Arithmetic.TheVariants.{Integer, Fixed}
use Rattle.ec_core.specs.declared.values.Value.{Value}
use Rattle.ec_core.specs.declared.values.Value.TheVariants.{Number, Pointer}
use Rattle.ec_core.specs.Accesses.{access, begun, initialised, read, write}
use Rattle.ec_core.specs.ArithmeticValues.{HoldsNumber}
use Rattle.ec_core.specs.Expressions.{value_of, place_of, values_of}
use Rattle.ec_core.specs.Layout.{PlainLeaf, size_of_type, leaves_of_type}
use Rattle.ec_core.specs.Meaning.{setting, initial_state, run}
use Rattle.ec_core.specs.Plain.{PlainType, void, integer, fixed, pointer, array, struct, PlainExpr, PlainExprs}
use Rattle.ec_core.specs.Plain.{PlainPlace, PlainStmt, OptionPlainStmt, PlainObject, PlainFunction, PlainProgram}
use Rattle.ec_core.specs.Pointers.{Pointer as PointerValue}
use Rattle.ec_core.specs.PortTable.{plain_table}
use Rattle.ec_core.specs.State.{Inputs, ObjectState, State, Outcome, got, more, undefined}
use Rattle.ec_core.specs.Statements.{Exit, at_end, by_break, by_continue, by_return, effect_of, first_effect}
use Rattle.ec_core.specs.Statements.{parameters_written, calls_within}
use Rattle.ec_core.specs.Typing.{int, type_of_expr, place_space, AreArguments}
use Rattle.ec_core.specs.Valid.{Valid, ValidExpr, ValidExprs, ValidPlace, ValidStmt, ValidOptionStmt, IsFunction}

-- ---- values

-- a pointer into a space: null, or to an object whose home is there, with an offset from 0 to its size
abbrev pub IsPointerInto : PlainProgram → SpaceId → PointerValue → Type 0
IsPointerInto program space None = ⊤
IsPointerInto program space (Some p) =
    IsSomeAnd (slice_get program.objects p.object)
    (λ o. IsTrue (holds space o.home) × (p.offset ≤ size_of_type program.structs o.ty))

-- a number that an arithmetic type holds, or a pointer into the space of a pointer type; no value is of type void, so
-- anything stands for it
abbrev pub HasType : PlainProgram → PlainType → Value → Type 0
HasType program void v = ⊤
HasType program (integer signed bytes) (Number n) = HoldsNumber (Integer (record { signed = signed; bytes = bytes })) n
HasType program (integer signed bytes) (Pointer p) = ⊥
HasType program (fixed kind saturates) (Number n) = HoldsNumber (Fixed (record { kind = kind; sat = saturates })) n
HasType program (fixed kind saturates) (Pointer p) = ⊥
HasType program (pointer space const to) (Number n) = ⊥
HasType program (pointer space const to) (Pointer p) = IsPointerInto program space p
HasType program (array of len) v = ⊥
HasType program (struct index) v = ⊥

-- ---- states

abbrev pub IsLeafValue : PlainProgram → PlainType → Option Value → Type 0
IsLeafValue program ty None = ⊤
IsLeafValue program ty (Some v) = HasType program ty v

-- one value or none for each leaf
abbrev pub AreLeafStates : PlainProgram → List PlainLeaf → List (Option Value) → Type 0
AreLeafStates program [] [] = ⊤
AreLeafStates program [] (v ∷ vs) = ⊥
AreLeafStates program (leaf ∷ leaves) [] = ⊥
AreLeafStates program (leaf ∷ leaves) (v ∷ vs) = IsLeafValue program leaf.ty v × AreLeafStates program leaves vs

-- one state for each object
abbrev pub AreObjectStates : PlainProgram → List PlainObject → List ObjectState → Type 0
AreObjectStates program [] [] = ⊤
AreObjectStates program [] (x ∷ xs) = ⊥
AreObjectStates program (o ∷ os) [] = ⊥
AreObjectStates program (o ∷ os) (x ∷ xs) =
    AreLeafStates program (leaves_of_type program.structs o.ty) x.leaves × AreObjectStates program os xs

abbrev pub IsTypedState : PlainProgram → State → Type 0
IsTypedState program s = AreObjectStates program program.objects s.objects

-- ---- outcomes

-- a value with a property, in a typed state; or no value
abbrev pub IsSoundOutcome : {A : Type 0} → PlainProgram → (A → Type 0) → Outcome A → Type 0
IsSoundOutcome program P (got x s) = P x × IsTypedState program s
IsSoundOutcome program P (more s) = ⊤
IsSoundOutcome program P (undefined point s) = ⊤

abbrev pub GiveBytes : Inputs → Type 0
GiveBytes inputs = (port k : ℕ) → slice_index (inputs port) k < 256

-- one value of the parameter's type for each parameter
abbrev pub AreArgumentValues : PlainProgram → List ℕ → List Value → Type 0
AreArgumentValues program [] [] = ⊤
AreArgumentValues program [] (x ∷ xs) = ⊥
AreArgumentValues program (o ∷ os) [] = ⊥
AreArgumentValues program (o ∷ os) (x ∷ xs) =
    IsSomeAnd (slice_get program.objects o) (λ d. HasType program d.ty x) × AreArgumentValues program os xs

-- how a statement of a function with this result is left: a return has a value of its type
abbrev pub IsExitOf : PlainProgram → PlainType → Exit → Type 0
IsExitOf program returns at_end = ⊤
IsExitOf program returns by_break = ⊤
IsExitOf program returns by_continue = ⊤
IsExitOf program returns (by_return None) = ⊤
IsExitOf program returns (by_return (Some x)) = HasType program returns x

-- the pointer of a place is into the space of its expression: null, or to an object whose home is there, with an offset
-- from 0 to its size
abbrev pub IsPointerTo : PlainProgram → PlainPlace → PointerValue → Type 0
IsPointerTo program place to =
    (space : SpaceId) → place_space program place ≡ Some space → IsPointerInto program space to

-- a fact that holds of anything
abbrev pub IsAny : {A : Type 0} → A → Type 0
IsAny x = ⊤

-- Parts of runs leave a typed state where they began in one: a read of a leaf of a type, which gives a value of it, a
-- write of a leaf with a value of its type and the first one, and the begin of an object
pub record StatesStayTyped (program : PlainProgram) : Type 0 where
  pub read : (ty : PlainType) (space : Option SpaceId) (to : PointerValue) (s : State) → IsTypedState program s
      → IsSoundOutcome program (HasType program ty) (read program (access program ty space to s) s)
  pub write : (ty : PlainType) (space : Option SpaceId) (to : PointerValue) (v : Value) (s : State)
      → HasType program ty v → IsTypedState program s
      → IsSoundOutcome program (HasType program ty) (write (access program ty space to s) v s)
  pub initialised : (o k : ℕ) (d : PlainObject) (leaf : PlainLeaf) (v : Value) (s : State)
      → slice_get program.objects o ≡ Some d → slice_get (leaves_of_type program.structs d.ty) k ≡ Some leaf
      → HasType program leaf.ty v → IsTypedState program s
      → IsSoundOutcome program (HasType program leaf.ty) (initialised program o k v s)
  pub begun : (o : ℕ) (s : State) → IsTypedState program s → IsTypedState program (begun program o s)

-- In a valid program whose ports give bytes, the value of each expression has its type, and so do those of arguments,
-- of all leaves, of return statements, and the result of main; the pointer of each place is in its object and in the
-- space of the place. For the expressions, places and statements of function f, and the parameters of function g
pub record ValuesHaveTheirTypes (program : PlainProgram) (io : IoTable) (inputs : Inputs) : Type 0 where
  pub states : StatesStayTyped program
  pub initial : IsTypedState program (initial_state program (plain_table io))
  pub expressions : (n depth f : ℕ) (e : PlainExpr) (s : State) → ValidExpr program io f e → IsTypedState program s
      → IsSoundOutcome program (HasType program (type_of_expr e))
      (value_of (setting program (plain_table io) inputs)
      (calls_within (setting program (plain_table io) inputs) n depth) e s)
  pub places : (n depth f : ℕ) (p : PlainPlace) (s : State) → ValidPlace program io f p → IsTypedState program s
      → IsSoundOutcome program (IsPointerTo program p)
      (place_of (setting program (plain_table io) inputs)
      (calls_within (setting program (plain_table io) inputs) n depth) p s)
  pub arguments : (n depth f : ℕ) (params : List ℕ) (es : PlainExprs) (s : State) → AreArguments program params es
      → ValidExprs program io f es → IsTypedState program s
      → IsSoundOutcome program (AreArgumentValues program params)
      (values_of (setting program (plain_table io) inputs)
      (calls_within (setting program (plain_table io) inputs) n depth) es s)
  pub statements : (n depth f : ℕ) (returns : PlainType) (in_loop : Bool) (a : PlainStmt) (s : State)
      → ValidStmt program io f returns in_loop a → IsTypedState program s
      → IsSoundOutcome program (IsExitOf program returns)
      (effect_of (setting program (plain_table io) inputs)
      (calls_within (setting program (plain_table io) inputs) n depth) n a s)
  pub first_parts : (n depth f : ℕ) (returns : PlainType) (in_loop : Bool) (a : OptionPlainStmt) (s : State)
      → ValidOptionStmt program io f returns in_loop a → IsTypedState program s
      → IsSoundOutcome program (IsExitOf program returns)
      (first_effect (setting program (plain_table io) inputs)
      (calls_within (setting program (plain_table io) inputs) n depth) n a s)
  pub functions : (g : ℕ) (f : PlainFunction) → slice_get program.functions g ≡ Some f → IsFunction program io g f
  pub parameters : (g : ℕ) (f : PlainFunction) (xs : List Value) (s : State) → slice_get program.functions g ≡ Some f
      → AreArgumentValues program f.params xs → IsTypedState program s
      → IsSoundOutcome program IsAny (parameters_written (setting program (plain_table io) inputs) f.params xs s)
  pub result : (n : ℕ) → IsSoundOutcome program (HasType program int) (run program (plain_table io) inputs n)

abbrev pub TypesAreKept : Type 0
TypesAreKept =
    (program : PlainProgram) (io : IoTable) (inputs : Inputs) → Valid program io → GiveBytes inputs
    → ValuesHaveTheirTypes program io inputs
