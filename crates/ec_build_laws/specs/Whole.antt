-- What is left of a machine's whole trace, beside the source.
use Rattle.std.specs.Prelude.{ℕ, zero, suc, ◌≡◌, ◌+◌, ◌<◌, ◌≤◌, ⊤, IsTrue, Bool, ◌||◌, if◌then◌else◌, ℤ, List, []}
use Rattle.std.specs.Prelude.{◌∷◌, ◌++◌, Some, slice_get, slice_index}
use Rattle.std.specs.List.{AllByRecursion}
use Rattle.ec_space.specs.Spaces.{bank_of, holds}
use Rattle.ec_space.specs.declared.space.Bank.{Bank}
use Rattle.ec_space.specs.declared.space.Bank.TheVariants.{Flash as FlashBank, Data as DataBank}
use Rattle.ec_space.specs.declared.space.Place.{Place}
use Rattle.ec_space.specs.declared.space.SpaceId.{SpaceId}
use Rattle.ec_runs.specs.Behaviours.{Behaviour, Running as GoesOn, Ended as Ends, Failed}
use Rattle.ec_avr.specs.declared.machine.Access.{Access}
use Rattle.ec_avr.specs.declared.machine.Access.TheVariants.{Silent, In as PortIn, Out as PortOut, Read as ByteRead}
use Rattle.ec_avr.specs.declared.machine.Access.TheVariants.{Write as ByteWrite, Stack}
use Rattle.ec_avr.specs.Machine.{State, Inputs, Running, machine, IsReset}
use Rattle.ec_avr.specs.State.{byte_at}
use Rattle.ec_asm.specs.Pieces.{value}
use Rattle.ec_asm.specs.declared.items.AsmProgram.{AsmProgram}
use Rattle.ec_core.specs.Layout.{PlainLeaf, scalar_size, size_of_type, leaves_of_type}
use Rattle.ec_core.specs.Meaning.{source, work, Defined}
use Rattle.ec_core.specs.Plain.{static, PlainStruct, PlainObject, PlainProgram}
use Rattle.ec_core.specs.PortTable.{plain_table}
use Rattle.ec_core.specs.State.{Event, In, Out, Read, Write}
use Rattle.ec_core.specs.ValueTypes.{GiveBytes}
use Rattle.ec_core.specs.declared.programs.LeafInit.{LeafInit}
use Rattle.ec_core.specs.declared.values.Undefined.{Undefined}
use Rattle.ec_ir.specs.Temporaries.{low_bytes}
use Rattle.ec_core_accesses.specs.Objects.{GoesByLiveAccesses}
use Rattle.ec_map.specs.declared.map.Map.{Map}
use Rattle.ec_locate.specs.Entries.{work_size}
use Rattle.ec_locate.specs.Layout.{initials_by}
use Rattle.ec_locate.specs.Placing.{entries_by, scratch_needs}
use Rattle.ec_locate.specs.declared.placing.Located.{Located}
use Rattle.ec_select_operations.specs.Places.{ObjectLeaf}
use Rattle.ec_select_functions.specs.Relation.{event_accesses, number_told}
use Rattle.ec_select.specs.Program.{has_initial_bytes, filling_of}
use Rattle.ec_select_reset.specs.Laws.{all_but_silent}
use Rattle.ec_select_startup.specs.declared.spans.Filling.{Filling}
use Rattle.ec_select_startup.specs.declared.spans.Filling.TheVariants.{Copied, Cleared}
use Rattle.ec_build_laws.specs.Kinds.{is_byte_of, is_of_scratch, place_of}
use Rattle.ec_build_laws.specs.Runs.{start_steps}
use Rattle.ec_build_laws.specs.Shown.{ports_of, Comes, IsWithinSource, StaysInStack, PushesInRegion}
use Rattle.ec_build_laws.specs.Translation.{IsTranslated}

-- ---- what is left of a trace

-- a byte of the scratch memory of a function, or one of the work bytes
abbrev pub is_own_byte : PlainProgram → Map → Located → ℕ → Bool
is_own_byte p m l a = is_of_scratch (scratch_needs p) l.frames.items a || is_byte_of l.work (work_size m.io) a

abbrev pub unless : Bool → Access → List Access
unless own a = if own then [] else a ∷ []

abbrev pub kept_of : PlainProgram → Map → Located → Access → List Access
kept_of p m l Silent = []
kept_of p m l Stack = []
kept_of p m l (PortIn port byte) = PortIn port byte ∷ []
kept_of p m l (PortOut port byte) = PortOut port byte ∷ []
kept_of p m l (ByteRead FlashBank at byte) = ByteRead FlashBank at byte ∷ []
kept_of p m l (ByteRead DataBank at byte) = unless (is_own_byte p m l at) (ByteRead DataBank at byte)
kept_of p m l (ByteWrite at byte) = unless (is_own_byte p m l at) (ByteWrite at byte)

-- all accesses but those that are silent, those of the stack, and reads and writes of scratch memory and work bytes
abbrev pub kept : PlainProgram → Map → Located → List Access → List Access
kept p m l [] = []
kept p m l (a ∷ trace) = kept_of p m l a ++ kept p m l trace

-- ---- what an event stands for

-- the address of a byte of leaf k of object o in the bank of the object's home, which is in a space
pub record IsHomeByte (p : PlainProgram) (l : Located) (o k : ℕ) (space : SpaceId) (bank : Bank) (at : ℕ) : Type 0 where
  pub object : PlainObject
  pub leaf : PlainLeaf
  pub is_object : slice_get p.objects o ≡ Some object
  pub is_leaf : slice_get (leaves_of_type p.structs object.ty) k ≡ Some leaf
  pub home : bank_of object.home ≡ bank
  pub in_space : IsTrue (holds space object.home)
  pub from_there : place_of l o + leaf.at ≤ at
  pub within : at < place_of l o + leaf.at + scalar_size leaf.ty

-- an access of a port is that of the event, and any other is one of a byte of its leaf, in the bank of the home of
-- its object; this home is in its space
abbrev pub IsForEvent : PlainProgram → Located → Event → Access → Type 0
IsForEvent p l (In port byte) a = a ≡ PortIn port byte
IsForEvent p l (Out port byte) a = a ≡ PortOut port byte
IsForEvent p l (Read o k space v) a =
    (bank : Bank) × (at : ℕ) × (byte : ℕ) × (a ≡ ByteRead bank at byte) × IsHomeByte p l o k space bank at
IsForEvent p l (Write o k space v) a =
    (at : ℕ) × (byte : ℕ) × (a ≡ ByteWrite at byte) × IsHomeByte p l o k space DataBank at

-- so it is of each access of each of some events
abbrev pub AreForEvents : PlainProgram → Located → List Event → Type 0
AreForEvents p l es =
    AllByRecursion (λ event. AllByRecursion (IsForEvent p l event) (event_accesses p (place_of l) event)) es

abbrev pub StaysAtHome : PlainProgram → Located → Behaviour Event ℤ Undefined → Type 0
StaysAtHome p l (GoesOn es) = AreForEvents p l es
StaysAtHome p l (Ends es result) = AreForEvents p l es
StaysAtHome p l (Failed point) = ⊤

-- ---- before main

-- n bytes are copied from an address of flash to one of data memory: each is read and written, by rising address
abbrev pub copying : (flash : List ℕ) → (from to n : ℕ) → List Access
copying flash from to zero = []
copying flash from to (suc n) =
    let byte = slice_index flash (from + n) in
    copying flash from to n ++ ByteRead FlashBank (from + n) byte ∷ ByteWrite (to + n) byte ∷ []

-- n bytes of data memory are cleared: each is written, by rising address
abbrev pub clearing : (to n : ℕ) → List Access
clearing to zero = []
clearing to (suc n) = clearing to n ++ ByteWrite (to + n) 0 ∷ []

abbrev pub fills : (flash : List ℕ) → Filling → (from to n : ℕ) → List Access
fills flash Copied from to n = copying flash from to n
fills flash Cleared from to n = clearing to n

-- so are the bytes of each static object of the data bank: those of an object whose initial values are all 0 are cleared,
-- and the initial bytes of any other are copied
abbrev pub copying_objects : (flash : List ℕ) → List PlainStruct → List PlainObject → (initials : List ℕ) → List Place
    → List Access
copying_objects flash structs [] initials places = []
copying_objects flash structs (o ∷ os) [] places = []
copying_objects flash structs (o ∷ os) (at ∷ ats) [] = []
copying_objects flash structs (o ∷ os) (at ∷ ats) (q ∷ qs) =
    (if has_initial_bytes o.storage o.home
    then fills flash (filling_of o.storage) at q.offset (size_of_type structs o.ty) else [])
    ++ copying_objects flash structs os ats qs

-- from where the map has them stand in flash to where the objects stand
abbrev pub copies : PlainProgram → Map → Located → List Access
copies p m l =
    copying_objects l.image.bytes.items p.structs p.objects (initials_by m (entries_by m p)) l.places.items

-- the bytes of each leaf of a static object of the data bank are those of its initial value
abbrev pub AreInitial : PlainProgram → Located → State → Type 0
AreInitial p l t =
    (leaf : ObjectLeaf p DataBank) (inits : List LeafInit) (init : LeafInit) → leaf.declared.storage ≡ static inits
    → slice_get inits leaf.number ≡ Some init
    → value (byte_at t) (place_of l leaf.object + leaf.at) leaf.bytes
    ≡ low_bytes leaf.bytes (number_told p (place_of l) leaf.bytes init)

-- ---- the whole

-- The machine comes to main in at most so many steps, of which the last is its call: the first access of the stack. All
-- accesses before it, but the silent ones, are those that copy or clear the static objects, so no port is accessed and the
-- data bank is read nowhere; then the static objects of the data bank have their initial values.
-- From main on all that is kept of the machine's accesses is what the source shows. Where the source has a meaning for
-- all turns, each part of it is reached within its work. Each step stays within the source, and never faults where that
-- has a meaning. Each access is of a byte of its event, in the home of the event's object. Wherever the source reads or
-- writes an object, it is live in the state of that moment.
-- Up to main, its call included, each push and pop moves bytes of region `stack` alone, and from there on where the source
-- has a meaning
pub record ShowsWhole (p : PlainProgram) (m : Map) (l : Located) (s : State) (inputs : Inputs) : Type 0 where
  pub steps : ℕ
  pub few : steps ≤ start_steps p
  pub before : List Access
  pub start : List Access
  pub main : State
  pub ran : machine steps inputs s ≡ Running start main
  pub calls : start ≡ before ++ Stack ∷ []
  pub copied : all_but_silent before ≡ copies p m l
  pub quiet : ports_of start ≡ []
  pub initials : AreInitial p l main
  pub reached : Defined p (plain_table m.io) inputs → (n : ℕ)
      → Comes p l (kept p m l) s inputs start n (start_steps p + work p (plain_table m.io) inputs n)
      (source p (plain_table m.io) inputs n)
  pub within : (k : ℕ)
      → IsWithinSource p l (kept p m l) s inputs start (source p (plain_table m.io) inputs k) (machine k inputs s)
  pub spaces : (n : ℕ) → StaysAtHome p l (source p (plain_table m.io) inputs n)
  pub live : GoesByLiveAccesses p (plain_table m.io) inputs
  pub start_stack : (k : ℕ) (trace : List Access) (t : State) → k < steps → machine k inputs s ≡ Running trace t
      → StaysInStack m t
  pub stack : (k : ℕ) (trace : List Access) (t : State) → machine k inputs main ≡ Running trace t
      → PushesInRegion m (source p (plain_table m.io) inputs (k + 1)) t

abbrev pub ProgramsShowTheirSources : Type 0
ProgramsShowTheirSources =
    (p : PlainProgram) (m : Map) (asm : AsmProgram) (l : Located) (s : State) (inputs : Inputs)
    → IsTranslated p m asm l → IsReset l.image.core l.image.bytes.items s → GiveBytes inputs
    → ShowsWhole p m l s inputs
