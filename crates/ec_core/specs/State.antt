-- What a run has at each moment, and what comes of a part of it.
use Rattle.std.specs.Prelude.{ℕ, zero, suc, ◌+◌, ◌==◌, if◌then◌else◌, Bool, true, false, List, [], ◌∷◌, ◌++◌, Option}
use Rattle.std.specs.Prelude.{Some, None, unwrap_or, slice_get, Result, Ok, Err}
use Rattle.ec_space.specs.declared.space.SpaceId.{SpaceId}
use Rattle.ec_core.specs.declared.programs.LeafInit.{LeafInit}
use Rattle.ec_core.specs.declared.programs.LeafInit.TheVariants.{Number as TheNumber, Null as TheNull, Address}
use Rattle.ec_core.specs.declared.values.Undefined.{Undefined}
use Rattle.ec_core.specs.declared.values.Value.{Value}
use Rattle.ec_core.specs.declared.values.Value.TheVariants.{Number, Pointer}
use Rattle.ec_core.specs.PortTable.{PlainTable}
use Rattle.ec_core.specs.Plain.{PlainProgram}

-- ---- what a run is given: a program, the table of its ports, and for each port address the bytes that it gives

abbrev pub Inputs : Type 0
Inputs = ℕ → List ℕ

pub record Setting : Type 0 where
  pub program : PlainProgram
  pub table : PlainTable
  pub inputs : Inputs

-- ---- events (ISO/IEC 9899:1999, 5.1.2.3: what a run does that can be observed; that each access of an object is one
-- is our own profile)

-- A byte read from or written to a port, and a leaf of an object that is read or written. An access tells the object
-- and its leaf by their numbers, the space of the place, and the value
pub data Event : Type 0 where
  In : (port byte : ℕ) → Event
  Out : (port byte : ℕ) → Event
  Read : (object leaf : ℕ) (space : SpaceId) (value : LeafInit) → Event
  Write : (object leaf : ℕ) (space : SpaceId) (value : LeafInit) → Event

-- what an event tells of a value has the form of an initial value: of a pointer it tells the object and the offset
abbrev pub told : Value → LeafInit
told (Number n) = TheNumber n
told (Pointer None) = TheNull
told (Pointer (Some p)) = Address p.object p.offset

-- how many bytes of a port some events read
abbrev pub reads_of : ℕ → List Event → ℕ
reads_of port [] = 0
reads_of port (In p byte ∷ events) = if p == port then 1 + reads_of port events else reads_of port events
reads_of port (Out p byte ∷ events) = reads_of port events
reads_of port (Read object leaf space value ∷ events) = reads_of port events
reads_of port (Write object leaf space value ∷ events) = reads_of port events

-- ---- states

-- An object (ISO/IEC 9899:1999, 6.2.4): the serial number of its newest instance, whether that one lives, and its
-- leaves, each unset or a value. A pointer is into one instance
pub record ObjectState : Type 0 where
  pub serial : ℕ
  pub live : Bool
  pub leaves : List (Option Value)

-- which groups of ports are acquired, and for each dynamic group its choice, or none
pub record GroupStates : Type 0 where
  pub acquired : List Bool
  pub choices : List (Option ℕ)

-- the objects in the program's order, the groups of ports, the events so far, and the work so far in words
pub record State : Type 0 where
  pub objects : List ObjectState
  pub groups : GroupStates
  pub events : List Event
  pub work : ℕ

abbrev pub with_event : Event → State → State
with_event e s = record { objects = s.objects; groups = s.groups; events = s.events ++ e ∷ []; work = s.work }

-- so many words more of work
abbrev pub worked : ℕ → State → State
worked words s = record { objects = s.objects; groups = s.groups; events = s.events; work = s.work + words }

-- a list with its item at a place changed
abbrev pub changed_at : {A : Type 0} → ℕ → (A → A) → List A → List A
changed_at n f [] = []
changed_at zero f (x ∷ xs) = f x ∷ xs
changed_at (suc n) f (x ∷ xs) = x ∷ changed_at n f xs

abbrev pub with_object : ℕ → (ObjectState → ObjectState) → State → State
with_object o f s =
    record { objects = changed_at o f s.objects; groups = s.groups; events = s.events; work = s.work }

abbrev pub with_group : ℕ → Bool → State → State
with_group g acquired s =
    record {
      objects = s.objects;
      groups = record {
        acquired = changed_at g (λ was. acquired) s.groups.acquired;
        choices = s.groups.choices;
      };
      events = s.events;
      work = s.work;
    }

-- a dynamic group gets a choice
abbrev pub with_choice : (dynamic choice : ℕ) → State → State
with_choice d choice s =
    record {
      objects = s.objects;
      groups = record {
        acquired = s.groups.acquired;
        choices = changed_at d (λ was. Some choice) s.groups.choices;
      };
      events = s.events;
      work = s.work;
    }

-- the choice of a dynamic group, if it is bound
abbrev pub chosen : (dynamic : ℕ) → State → Option ℕ
chosen d s = unwrap_or (slice_get s.groups.choices d) None

-- ---- outcomes

-- A value and the state then, or that a loop is out of turns and the state there, or the undefined point that was met
-- first and the state there (ISO/IEC 9899:1999, 3.4.3)
pub data Outcome (A : Type 0) : Type 0 where
  got : A → State → Outcome A
  more : State → Outcome A
  undefined : Undefined → State → Outcome A

-- goes on from a value
abbrev pub next : {A B : Type 0} → Outcome A → (A → State → Outcome B) → Outcome B
next (got x s) go = go x s
next (more s) go = more s
next (undefined point s) go = undefined point s

-- what an operation gives, in a state that it leaves as it is
abbrev pub given : {A : Type 0} → Result A Undefined → State → Outcome A
given (Ok x) s = got x s
given (Err point) s = undefined point s

-- one of two ways to go on
abbrev pub choose : {A : Type 0} → Bool → (State → Outcome A) → (State → Outcome A) → State → Outcome A
choose true a b s = a s
choose false a b s = b s
