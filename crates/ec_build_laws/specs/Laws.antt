-- The operations of a program have code.
use Rattle.std.specs.Prelude.{ℕ, ◌≡◌, ◌⊎◌, ◌+◌, ◌/◌, ◌%◌, ◌<◌, ◌≤◌, false, IsTrue, Some, length, slice_get}
use Rattle.ec_space.specs.Bytes.{AreBytes}
use Rattle.ec_space.specs.Memory.{data_size}
use Rattle.ec_space.specs.declared.Core.{Core}
use Rattle.ec_space.specs.declared.space.Bank.{Bank}
use Rattle.ec_space.specs.declared.space.Bank.TheVariants.{Data}
use Rattle.ec_space.specs.Spaces.{bank_of}
use Rattle.ec_space.specs.declared.space.Place.{Place}
use Rattle.ec_avr.specs.State.{has_rampz, is_core_register, is_port}
use Rattle.ec_isa.specs.declared.instructions.Instr.TheVariants.{Ldi}
use Rattle.ec_asm.specs.View.{is_apart}
use Rattle.ec_asm.specs.Change.{Env, unbased, Own, Object, Port, Stacked, Page}
use Rattle.ec_asm.specs.Items.{At}
use Rattle.ec_asm.specs.Shows.{Fits}
use Rattle.ec_asm.specs.Valid.{ValidAsm}
use Rattle.ec_asm.specs.declared.items.AsmProgram.{AsmProgram}
use Rattle.ec_core.specs.Layout.{size_of_type}
use Rattle.ec_core.specs.Plain.{PlainObject, PlainProgram}
use Rattle.ec_core.specs.PortTable.{plain_table}
use Rattle.ec_core.specs.Valid.{IsAddressable, Valid}
use Rattle.ec_map.specs.Maps.{ValidMap}
use Rattle.ec_map.specs.Regions.{end_of}
use Rattle.ec_map.specs.declared.map.Map.{Map}
use Rattle.ec_locate.specs.Entries.{frame_size, work_size}
use Rattle.ec_locate.specs.Placing.{IsLocated, object_sizes}
use Rattle.ec_locate.specs.declared.placing.Located.{Located}
use Rattle.ec_lower_code.specs.Code.{lowered}
use Rattle.ec_select.specs.LaidOut.{IsLaidOut}
use Rattle.ec_build_laws.specs.Kinds.{is_hidden, is_rampz, kinds, placed, place_of, scratch_of}
use Rattle.ec_build_laws.specs.Translation.{IsTranslated}
use Rattle.ec_iohw.specs.declared.table.IoTable.{IoTable}
use Rattle.ec_ir.specs.Operations.{PlainIrProgram}
use Rattle.ec_lower_code.specs.Correct.{GroupsHaveBytes}
use Rattle.ec_select.specs.InPlace.{AreInPlace}
use Rattle.ec_select.specs.Suited.{AreSuited}
use Rattle.ec_select.specs.Selected.{HasCode}

-- ---- what stands at each address

-- an address is that of a byte of object i, which is kept in a bank
pub record IsByteOf (p : PlainProgram) (l : Located) (bank : Bank) (a i : ℕ) (o : PlainObject)
    (q : Place) : Type 0 where
  pub object : slice_get p.objects i ≡ Some o
  pub home : bank_of o.home ≡ bank
  pub place : slice_get l.places.items i ≡ Some q
  pub from_there : q.offset ≤ a
  pub within : a < q.offset + size_of_type p.structs o.ty

-- an address is that of a byte of an object which is kept in a bank
pub record IsObjectByte (p : PlainProgram) (l : Located) (bank : Bank) (a : ℕ) : Type 0 where
  pub number : ℕ
  pub object : PlainObject
  pub place : Place
  pub is : IsByteOf p l bank a number object place

-- an address that is code's own: that of a register of a core or of the stack pointer, or of a byte of scratch memory
-- or of the work bytes
pub data IsOwnByte (m : Map) (asm : AsmProgram) (l : Located) : ℕ → Type 0 where
  of_register : (a : ℕ) → IsTrue (is_core_register m.core a) → is_apart a ≡ false → IsOwnByte m asm l a
  of_scratch : (a f frame at : ℕ) → slice_get asm.frames.items f ≡ Some frame → slice_get l.frames.items f ≡ Some at
      → at ≤ a → a < at + frame_size frame → IsOwnByte m asm l a
  of_work : (a : ℕ) → l.work ≤ a → a < l.work + work_size m.io → IsOwnByte m asm l a

-- RAMPZ is told to be it on a core that has it. Registers but that and Y's, scratch memory and work bytes are code's
-- own, ports are ports, and the bytes of region `stack` are the stack's. All bytes of objects are told to be such, but
-- those of named registers. No other bytes are told to be any of these
pub record AreKinds (p : PlainProgram) (m : Map) (asm : AsmProgram) (l : Located) : Type 0 where
  pub page : IsTrue (has_rampz m.core) → kinds p m asm l 0x5B ≡ Page
  pub registers : (a : ℕ) → IsTrue (is_core_register m.core a) → is_hidden a ≡ false → is_rampz m.core a ≡ false
      → kinds p m asm l a ≡ Own
  pub ports : (a : ℕ) → IsTrue (is_port m.core a) → kinds p m asm l a ≡ Port
  pub objects : (a i : ℕ) (o : PlainObject) (q : Place) → IsByteOf p l Data a i o q → IsAddressable o.storage
      → kinds p m asm l a ≡ Object
  pub scratch : (f frame at a : ℕ) → slice_get asm.frames.items f ≡ Some frame → slice_get l.frames.items f ≡ Some at
      → at ≤ a → a < at + frame_size frame → kinds p m asm l a ≡ Own
  pub work : (a : ℕ) → l.work ≤ a → a < l.work + work_size m.io → kinds p m asm l a ≡ Own
  pub stack : (a : ℕ) → m.stack.first ≤ a → a < end_of m.stack → kinds p m asm l a ≡ Stacked
  pub object_told : (a : ℕ) → kinds p m asm l a ≡ Object → IsObjectByte p l Data a
  pub own_told : (a : ℕ) → kinds p m asm l a ≡ Own → IsOwnByte m asm l a
  pub port_told : (a : ℕ) → kinds p m asm l a ≡ Port → IsTrue (is_port m.core a)
  pub stack_told : (a : ℕ) → kinds p m asm l a ≡ Stacked → (m.stack.first ≤ a) × (a < end_of m.stack)

abbrev pub KindsAreTold : Type 0
KindsAreTold =
    (p : PlainProgram) (m : Map) (asm : AsmProgram) (l : Located) → Valid p m.io → ValidMap m
    → ValidAsm (object_sizes p) (work_size m.io) asm → IsLocated p m asm l → AreKinds p m asm l

-- they suit the data addresses and the flash of the map's core
abbrev pub KindsFit : Type 0
KindsFit =
    (p : PlainProgram) (m : Map) (asm : AsmProgram) (l : Located) → IsLocated p m asm l → AreBytes l.image.bytes.items
    → Fits (placed p m asm l) (data_size m.core)

-- ---- the whole

-- Y is free and the code begins at word 0, or the first two words set Y to the base and the code begins behind them
abbrev pub SetsBase : Env → (begin : ℕ) → Type 0
SetsBase e begin =
    ((65536 ≤ e.base) × (begin ≡ 0))
    ⊎ ((e.base < 65536) × (begin ≡ 2) × At (unbased e) (Ldi 28 (e.base % 256)) 0 1
    × At (unbased e) (Ldi 29 (e.base / 256)) 1 2)

-- code, objects and stack stand as the code of the operations asks
pub record AreLaidOut (p : PlainProgram) (m : Map) (selected asm : AsmProgram) (l : Located) (e : Env) : Type 0 where
  pub laid : IsLaidOut (length m.io.dynamics.items) (lowered p (plain_table m.io)) selected e (place_of l) (scratch_of asm l) m.stack.first
  pub sets : SetsBase e laid.code.begin

-- those of a placed program do
abbrev pub PlacedAreLaidOut : Type 0
PlacedAreLaidOut =
    (p : PlainProgram) (m : Map) (asm : AsmProgram) (l : Located) (h : IsTranslated p m asm l)
    → AreLaidOut p m h.selected asm l (placed p m asm l)

-- all operations have code, and put their results in place
pub record HasCodeInPlace (ir : PlainIrProgram) : Type 0 where
  pub suited : AreSuited ir
  pub code : HasCode ir
  pub in_place : AreInPlace ir

abbrev pub LoweredProgramsHaveCode : Type 0
LoweredProgramsHaveCode =
    (program : PlainProgram) (io : IoTable) → Valid program io → GroupsHaveBytes io
    → HasCodeInPlace (lowered program (plain_table io))
