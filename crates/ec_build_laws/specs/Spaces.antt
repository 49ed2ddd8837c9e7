-- The accesses of objects, in their banks and spaces.
use Rattle.std.specs.Prelude.{ℕ, ◌≡◌, ◌+◌, ◌<◌, ◌≤◌, ⊤, List, Some, slice_get}
use Rattle.std.specs.List.{AllByRecursion}
use Rattle.ec_space.specs.declared.space.Bank.TheVariants.{Data as DataBank}
use Rattle.ec_avr.specs.declared.machine.Access.{Access}
use Rattle.ec_avr.specs.declared.machine.Access.TheVariants.{Silent, In as PortIn, Out as PortOut, Read as ByteRead}
use Rattle.ec_avr.specs.declared.machine.Access.TheVariants.{Write as ByteWrite, Stack}
use Rattle.ec_asm.specs.Shows.{noted_all}
use Rattle.ec_asm.specs.declared.items.AsmProgram.{AsmProgram}
use Rattle.ec_core.specs.Laws.{IsAtHome}
use Rattle.ec_core.specs.Layout.{PlainLeaf, scalar_size, leaves_of_type}
use Rattle.ec_core.specs.Meaning.{run, state_of}
use Rattle.ec_core.specs.Plain.{PlainObject, PlainProgram}
use Rattle.ec_core.specs.PortTable.{PlainTable}
use Rattle.ec_core.specs.State.{Inputs, Event, In, Out, Read, Write}
use Rattle.ec_map.specs.declared.map.Map.{Map}
use Rattle.ec_locate.specs.declared.placing.Located.{Located}
use Rattle.ec_select_operations.specs.Pointers.{home_of}
use Rattle.ec_select_functions.specs.Relation.{event_accesses}
use Rattle.ec_build_laws.specs.Kinds.{placed, place_of}
use Rattle.ec_build_laws.specs.Laws.{IsObjectByte}
use Rattle.ec_build_laws.specs.Translation.{IsTranslated}

-- ---- what is noted of the machine

-- an access of a port, or of a byte of an object, in the bank where the object is kept
abbrev pub IsOfObjects : PlainProgram → Located → Access → Type 0
IsOfObjects p l (PortIn port byte) = ⊤
IsOfObjects p l (PortOut port byte) = ⊤
IsOfObjects p l (ByteRead bank at byte) = IsObjectByte p l bank at
IsOfObjects p l (ByteWrite at byte) = IsObjectByte p l DataBank at
IsOfObjects p l Silent = ⊥
IsOfObjects p l Stack = ⊥

-- each noted access is one of these
abbrev pub NotedAreOfObjects : Type 0
NotedAreOfObjects =
    (p : PlainProgram) (m : Map) (asm : AsmProgram) (l : Located) (trace : List Access) → IsTranslated p m asm l
    → AllByRecursion (IsOfObjects p l) (noted_all (placed p m asm l) trace)

-- ---- what is seen of an event

-- the address of a byte of leaf k of object o
pub record IsLeafByte (p : PlainProgram) (l : Located) (o k at : ℕ) : Type 0 where
  pub object : PlainObject
  pub leaf : PlainLeaf
  pub is_object : slice_get p.objects o ≡ Some object
  pub is_leaf : slice_get (leaves_of_type p.structs object.ty) k ≡ Some leaf
  pub from_there : place_of l o + leaf.at ≤ at
  pub within : at < place_of l o + leaf.at + scalar_size leaf.ty

-- the accesses of an event of an object are those of bytes of its leaf, and those of one of a port are of the port
abbrev pub IsOfEvent : PlainProgram → Located → Event → Access → Type 0
IsOfEvent p l (In port byte) a = a ≡ PortIn port byte
IsOfEvent p l (Out port byte) a = a ≡ PortOut port byte
IsOfEvent p l (Read o k space v) a =
    (at : ℕ) × (byte : ℕ) × (a ≡ ByteRead (home_of p o) at byte) × IsLeafByte p l o k at
IsOfEvent p l (Write o k space v) a = (at : ℕ) × (byte : ℕ) × (a ≡ ByteWrite at byte) × IsLeafByte p l o k at

-- each access of an event is one of these, and the home of the event's object is in the space of the event
pub record StayInSpaces (p : PlainProgram) (l : Located) (table : PlainTable) : Type 0 where
  pub bytes : (event : Event) → AllByRecursion (IsOfEvent p l event) (event_accesses p (place_of l) event)
  pub home : (inputs : Inputs) (n : ℕ) → AllByRecursion (IsAtHome p) (state_of (run p table inputs n)).events

abbrev pub EventsStayInSpaces : Type 0
EventsStayInSpaces = (p : PlainProgram) (l : Located) (table : PlainTable) → StayInSpaces p l table
