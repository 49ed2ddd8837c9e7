-- At the moment of each access of an object it is live, and its home is in the space of the access (ISO/IEC 9899:1999,
-- 6.2.4: a program that refers to an object outside of its lifetime has no defined behaviour; ISO/IEC TR 18037:2008,
-- 5.1). A moment is the state in which the meaning reads or writes, and each law holds of every state.
use Rattle.std.specs.Prelude.{◌≡◌, ℕ, Option, Some}
use Rattle.ec_space.specs.declared.space.SpaceId.{SpaceId}
use Rattle.ec_core.specs.Accesses.{Access, access, recorded, leaf_of, read, stored, write, initialised}
use Rattle.ec_core.specs.Laws.{IsMade, HasLaterParts}
use Rattle.ec_core.specs.Meaning.{setting}
use Rattle.ec_core.specs.Plain.{PlainType, PlainProgram}
use Rattle.ec_core.specs.Pointers.{Pointer as PointerValue}
use Rattle.ec_core.specs.PortTable.{PlainTable}
use Rattle.ec_core.specs.State.{Inputs, Read, told, State, Outcome, got, more, undefined}
use Rattle.ec_core.specs.declared.values.ObjectPointer.{ObjectPointer}
use Rattle.ec_core.specs.declared.values.Value.{Value}

-- ---- which access is made in a state

-- an access through a pointer into a space: the object is live in this state and its home is in the space, and the
-- instance that the pointer points into is the newest, which is the one that lives
pub record IsThrough (program : PlainProgram) (space : Option SpaceId) (to : PointerValue) (s : State)
    (a : Access) : Type 0 where
  pub made : IsMade program s a
  pub into : space ≡ Some a.space
  pub pointer : ObjectPointer
  pub is : to ≡ Some pointer
  pub object : a.object ≡ pointer.object
  pub instance : a.state.serial ≡ pointer.instance

-- an access of leaf k of object o, in the space of its declaration: the object is live in this state and its home is in
-- the space
pub record IsOwn (program : PlainProgram) (o k : ℕ) (s : State) (a : Access) : Type 0 where
  pub made : IsMade program s a
  pub into : a.space ≡ a.declared.space
  pub object : a.object ≡ o
  pub leaf : a.leaf ≡ k

-- ---- what is done by it

-- A read in a state, by what came of it: where there is a value, an access is made in this very state, the value is that
-- of its leaf, and its event is all that is added; and else nothing is done
abbrev pub IsReadIn : State → (Access → Type 0) → Outcome Value → Type 0
IsReadIn s made (got v t) =
    (a : Access) × made a × (leaf_of a.state a.leaf ≡ Some v)
    × (t ≡ recorded a.declared.storage (Read a.object a.leaf a.space (told v)) s)
IsReadIn s made (more t) = ⊥
IsReadIn s made (undefined point t) = t ≡ s

-- so for a write of a value, which changes the leaf of the access and adds its event
abbrev pub IsWrittenIn : State → (Access → Type 0) → Value → Outcome Value → Type 0
IsWrittenIn s made v (got x t) = (a : Access) × made a × (x ≡ v) × (t ≡ stored a v s)
IsWrittenIn s made v (more t) = ⊥
IsWrittenIn s made v (undefined point t) = t ≡ s

-- ---- the whole

-- whatever is read, written or initialised, it is live and at home in the state of that moment
pub record IsLiveWhereAccessed (program : PlainProgram) : Type 0 where
  pub reads : (ty : PlainType) (space : Option SpaceId) (to : PointerValue) (s : State)
      → IsReadIn s (IsThrough program space to s) (read program (access program ty space to s) s)
  pub writes : (ty : PlainType) (space : Option SpaceId) (to : PointerValue) (v : Value) (s : State)
      → IsWrittenIn s (IsThrough program space to s) v (write (access program ty space to s) v s)
  pub initialises : (o k : ℕ) (v : Value) (s : State)
      → IsWrittenIn s (IsOwn program o k s) v (initialised program o k v s)

abbrev pub AccessesAreLive : Type 0
AccessesAreLive = (program : PlainProgram) → IsLiveWhereAccessed program

-- Wherever a program accesses an object, it is live and at home in the state of that moment; and each part of the
-- program, in whatever state it begins, goes on from there by steps, which add an event of an object only where it is
-- live and at home
pub record GoesByLiveAccesses (program : PlainProgram) (table : PlainTable) (inputs : Inputs) : Type 0 where
  pub accesses : IsLiveWhereAccessed program
  pub parts : HasLaterParts (setting program table inputs)
