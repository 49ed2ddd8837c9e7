-- When the machine shows the state of an intermediate program.
use Rattle.std.specs.Prelude.{◌≡◌, ℕ, zero, suc, ◌+◌, ◌-◌, ◌/◌, ◌%◌, ◌^◌, ◌<◌, nat_le, nat_lt, Bool, true, ◌&&◌, ℤ, pos}
use Rattle.std.specs.Prelude.{if◌then◌else◌, List, [], ◌∷◌, ◌++◌, Option, Some}
use Rattle.std.specs.Prelude.{◌⊎◌, Contains, None, option_map, option_and_then, unwrap_or, slice_get, slice_index}
use Rattle.ec_space.specs.declared.space.Bank.TheVariants.{Flash as FlashBank, Data as DataBank}
use Rattle.ec_avr.specs.declared.machine.Access.{Access}
use Rattle.ec_avr.specs.declared.machine.Access.TheVariants.{In as PortIn, Out as PortOut, Read as ByteRead}
use Rattle.ec_avr.specs.declared.machine.Access.TheVariants.{Write as ByteWrite}
use Rattle.ec_asm.specs.Change.{Env}
use Rattle.ec_asm.specs.View.{View}
use Rattle.ec_asm.specs.Pieces.{value}
use Rattle.ec_asm.specs.PieceLaws.{HoldsNumbers}
use Rattle.ec_core.specs.declared.programs.LeafInit.{LeafInit}
use Rattle.ec_core.specs.declared.programs.LeafInit.TheVariants.{Number as TheNumber, Null as TheNull, Address}
use Rattle.ec_core.specs.declared.values.Value.{Value}
use Rattle.ec_core.specs.declared.values.Value.TheVariants.{Number, Pointer}
use Rattle.ec_core.specs.Accesses.{leaf_of}
use Rattle.ec_core.specs.Laws.{left_of}
use Rattle.ec_core.specs.Layout.{PlainLeaf, scalar_size, leaves_of_type}
use Rattle.ec_core.specs.Plain.{PlainObject, PlainProgram}
use Rattle.ec_core.specs.State.{Inputs, State, Event, In, Out, Read, Write, ObjectState, GroupStates}
use Rattle.ec_ir.specs.declared.operations.Temp.{Temp}
use Rattle.ec_ir.specs.Meaning.{is_among, is_kept, Mach}
use Rattle.ec_ir.specs.Temporaries.{Content, bits, points, Held, low_bytes}
use Rattle.ec_select_operations.specs.Homes.{HasHome}
use Rattle.ec_select_operations.specs.Needs.{Need, wanted}
use Rattle.ec_select_operations.specs.Places.{ObjectLeaf}
use Rattle.ec_select_operations.specs.Pointers.{home_of, address_number, IsPointerIn}

-- ---- what is seen of events: the bytes of an access by rising address

-- the bytes of a number of n bytes at an address
abbrev pub byte_accesses : (ℕ → ℕ → Access) → (at number n : ℕ) → List Access
byte_accesses make at number zero = []
byte_accesses make at number (suc n) = byte_accesses make at number n ++ make (at + n) (number / 256 ^ n % 256) ∷ []

-- the number that stands for a value in so many bytes: that of a pointer is an address, with a tag
abbrev pub number_told : PlainProgram → (ℕ → ℕ) → (bytes : ℕ) → LeafInit → ℤ
number_told p place bytes (TheNumber n) = n
number_told p place bytes TheNull = pos 0
number_told p place bytes (Address o offset) = pos (address_number p place bytes o offset)

abbrev pub leaf_accesses :
    PlainProgram → (ℕ → ℕ) → (ℕ → ℕ → Access) → (base : ℕ) → LeafInit → PlainLeaf → List Access
leaf_accesses p place make base told leaf =
    byte_accesses make (base + leaf.at)
    (low_bytes (scalar_size leaf.ty) (number_told p place (scalar_size leaf.ty) told)) (scalar_size leaf.ty)

abbrev pub object_accesses : PlainProgram → (ℕ → ℕ) → (ℕ → ℕ → Access) → (object leaf : ℕ) → LeafInit → List Access
object_accesses p place make o k told =
    unwrap_or (option_map (leaf_accesses p place make (place o) told) (option_and_then
    (λ d. slice_get (leaves_of_type p.structs d.ty) k) (slice_get p.objects o))) []

abbrev pub event_accesses : PlainProgram → (ℕ → ℕ) → Event → List Access
event_accesses p place (In port byte) = PortIn port byte ∷ []
event_accesses p place (Out port byte) = PortOut port byte ∷ []
event_accesses p place (Read o k space told) = object_accesses p place (ByteRead (home_of p o)) o k told
event_accesses p place (Write o k space told) = object_accesses p place ByteWrite o k told

abbrev pub accesses : PlainProgram → (ℕ → ℕ) → List Event → List Access
accesses p place [] = []
accesses p place (x ∷ xs) = event_accesses p place x ++ accesses p place xs

-- ---- the relation

-- the low n bytes of a content of so many bytes stand at an address
abbrev pub HoldsContent : PlainProgram → (place : ℕ → ℕ) → (ℕ → ℕ) → (base n bytes : ℕ) → Content → Type 0
HoldsContent p place f a n bytes (bits low) = (value f a n ≡ low % 256 ^ n) × (low < 256 ^ bytes)
HoldsContent p place f a n bytes (points q) =
    (value f a n ≡ address_number p place bytes q.object q.offset % 256 ^ n) × IsPointerIn p bytes q

-- the value of a leaf of n bytes
abbrev pub HoldsLeaf : PlainProgram → (place : ℕ → ℕ) → (ℕ → ℕ) → (base n : ℕ) → Value → Type 0
HoldsLeaf p place f a n (Number i) = value f a n ≡ low_bytes n i
HoldsLeaf p place f a n (Pointer None) = value f a n ≡ 0
HoldsLeaf p place f a n (Pointer (Some q)) =
    (value f a n ≡ address_number p place n q.object q.offset) × IsPointerIn p n q

-- each port is going to give what the operations have left of its bytes
abbrev pub AreLeft : Inputs → State → View → Type 0
AreLeft inputs s v = (port : ℕ) → v.inputs port ≡ left_of inputs port s

-- functions for which frames stand: the active ones, and maybe one to a parameter of which was stored, which is active
-- too or one of those that are called
abbrev pub AreFrames : (active called functions : List ℕ) → Type 0
AreFrames active called fs =
    (fs ≡ active) ⊎ ((g : ℕ) × ((is_among active g ≡ true) ⊎ Contains called g) × (fs ≡ g ∷ active))

-- frames stand for such functions, and no object of another function is live or has a value
pub record FramesStand (p : PlainProgram) (active called : List ℕ) (objects : List ObjectState) : Type 0 where
  pub functions : List ℕ
  pub are_frames : AreFrames active called functions
  pub live : (o : ℕ) (d : PlainObject) (x : ObjectState) → slice_get p.objects o ≡ Some d
      → slice_get objects o ≡ Some x → x.live ≡ true → is_kept functions d.storage ≡ true
  pub valued : (o k : ℕ) (d : PlainObject) (x : ObjectState) (u : Value) → slice_get p.objects o ≡ Some d
      → slice_get objects o ≡ Some x → leaf_of x k ≡ Some u → is_kept functions d.storage ≡ true

-- What has to stand at an address: at that of a cell the base of what its dynamic group is bound to, if it is bound, and at
-- any other what stood there. The cells are so many bytes from an address on
abbrev pub standing_byte : (first cells : ℕ) → (was : ℕ → ℕ) → GroupStates → ℕ → Option ℕ
standing_byte first cells was groups k =
    if nat_le first k && nat_lt k (first + cells) then unwrap_or (slice_get groups.choices (k - first)) None
    else Some (was k)

-- what is needed of each temporary stands at its address, and each leaf of an object at its own, in the object's bank.
-- At the bytes that are set aside, for cells and for functions that wait, there is what has to stand there
pub record Matches (p : PlainProgram) (e : Env) (inputs : Inputs) (slots : ℕ) (base : Temp → ℕ) (place : ℕ → ℕ)
    (aside : ℕ → Bool) (stands : GroupStates → ℕ → Option ℕ) (active called : List ℕ) (need : Need) (m : Mach)
    (v : View) : Type 0 where
  pub temps_hold : (t : Temp) (h : Held) → HasHome slots t → m.temps t.at ≡ Some h → h.bytes ≡ t.bytes
      → HoldsContent p place v.at (base t) (wanted need t) t.bytes h.content
  pub leaves_hold : (l : ObjectLeaf p DataBank) (x : ObjectState) (u : Value)
      → slice_get m.state.objects l.object ≡ Some x → leaf_of x l.number ≡ Some u
      → HoldsLeaf p place v.at (place l.object + l.at) l.bytes u
  pub tables_hold : (l : ObjectLeaf p FlashBank) (x : ObjectState) (u : Value)
      → slice_get m.state.objects l.object ≡ Some x → leaf_of x l.number ≡ Some u
      → HoldsLeaf p place (slice_index e.flash) (place l.object + l.at) l.bytes u
  pub frames : FramesStand p active called m.state.objects
  pub kept : (k byte : ℕ) → aside k ≡ true → stands m.state.groups k ≡ Some byte → v.at k ≡ byte
  pub bytes : HoldsNumbers v
  pub left : AreLeft inputs m.state v
  pub seen : v.seen ≡ accesses p place m.state.events
  pub safe : v.safe ≡ true
