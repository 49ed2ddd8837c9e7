-- When a view shows a state of the machine, and what of a trace is noted.
use Rattle.std.specs.Prelude.{◌≡◌, ℕ, ◌+◌, ◌%◌, ◌<◌, ◌≤◌, ◌==◌, nat_lt, nat_le, Bool, true, not, ◌&&◌, ◌||◌, List, []}
use Rattle.std.specs.Prelude.{◌∷◌, ◌++◌, slice_index, length, Option, Some, IsTrue, option_and_then}
use Rattle.ec_space.specs.Bytes.{AreBytes}
use Rattle.ec_space.specs.Memory.{Memory}
use Rattle.ec_space.specs.declared.Core.{Core}
use Rattle.ec_space.specs.declared.space.Bank.TheVariants.{Flash as FlashBank, Data as DataBank}
use Rattle.ec_isa.specs.declared.instructions.Instr.{Instr}
use Rattle.ec_avr.specs.declared.machine.Access.{Access}
use Rattle.ec_avr.specs.declared.machine.Access.TheVariants.{Silent, In, Out, Read, Write, Stack}
use Rattle.ec_avr.specs.declared.machine.Stepped.TheVariants.{Ran}
use Rattle.ec_avr.specs.Effects.{After, effect, load_address}
use Rattle.ec_avr.specs.Machine.{State, answer_of, inputs_after, port_at, Running as MRunning, EndedWith, machine}
use Rattle.ec_avr.specs.Runs.{preceded_by}
use Rattle.std.specs.Int.{cast_signed, w16}
use Rattle.ec_avr.specs.State.{has_rampz, is_core_register, is_port}
use Rattle.ec_asm.specs.View.{View, is_apart, bytes_of, flags_of, pair}
use Rattle.ec_asm.specs.Change.{Env, Kind, Own, Object, Port, Stacked, Page, Barred, change, words}
use Rattle.ec_asm.specs.Run.{Status, Running, Ended, Stuck}

-- Y holds the base, where there is one
abbrev pub HoldsBase : Env → View → Type 0
HoldsBase e v = e.base < 65536 → pair v.at 28 ≡ e.base

-- the core is the one that the code is for, and the banks are those that the view shows
pub record Shows (e : Env) (size : ℕ) (core : Core) (m : Memory) (v : View) : Type 0 where
  pub same : core ≡ e.core
  pub flash : m.flash ≡ e.flash
  pub sized : length m.data ≡ size
  pub bytes : AreBytes m.data
  pub at : v.at ≡ bytes_of m.data
  pub flags : v.flags ≡ flags_of (slice_index m.data 0x5F)
  pub page : v.page ≡ slice_index m.data 0x5B
  pub feeds : (port k : ℕ) → slice_index (v.inputs port) k < 256
  pub base : HoldsBase e v

-- what may stand at an address of a core's data memory of so many bytes
abbrev pub may_be : Core → Kind → ℕ → ℕ → Bool
may_be core Own size a = (is_core_register core a && not (is_apart a)) || (nat_le 256 a && nat_lt a size)
may_be core Object size a = nat_le 256 a && nat_lt a size
may_be core Port size a = is_port core a
may_be core Stacked size a = nat_le 256 a && nat_lt a size
may_be core Page size a = (a == 0x5B) && has_rampz core
may_be core Barred size a = true

abbrev pub in_flash : Kind → ℕ → ℕ → Bool
in_flash Own size a = nat_lt a size
in_flash Object size a = nat_lt a size
in_flash _ size a = true

-- no code stores to Y's two registers by their addresses, where they hold a base
abbrev pub BarsBase : Env → Type 0
BarsBase e = e.base < 65536 → (e.kind 28 ≡ Barred) × (e.kind 29 ≡ Barred)

pub record Fits (e : Env) (size : ℕ) : Type 0 where
  pub ports : 256 ≤ size
  pub kinds : (a : ℕ) → IsTrue (may_be e.core (e.kind a) size a)
  pub table : (a : ℕ) → IsTrue (in_flash (e.table a) (length e.flash) a)
  pub code : (a : ℕ) → slice_index e.flash a < 256
  pub base : BarsBase e

-- what of an access is noted: that of a port, or of a byte of an object
abbrev pub if_object : Kind → Access → List Access
if_object Object a = a ∷ []
if_object _ a = []

abbrev pub noted : Env → Access → List Access
noted e Silent = []
noted e (In port byte) = In port byte ∷ []
noted e (Out port byte) = Out port byte ∷ []
noted e (Read DataBank at byte) = if_object (e.kind at) (Read DataBank at byte)
noted e (Read FlashBank at byte) = if_object (e.table at) (Read FlashBank at byte)
noted e (Write at byte) = if_object (e.kind at) (Write at byte)
noted e Stack = []

abbrev pub port_of : Instr → State → Option ℕ
port_of i s = option_and_then (port_at s) (load_address (Some i) s)

abbrev pub after : Instr → State → View → After
after i s v = effect (Some i) (answer_of v.inputs (port_of i s)) s

-- what a step did is what the view shows, and it goes on at a word address
pub record Moves (e : Env) (size : ℕ) (v w : View) (to : ℕ) (port : Option ℕ) (x : After) : Type 0 where
  pub access : Access
  pub ran : x.stepped ≡ Ran access
  pub pc : x.state.pc ≡ to
  pub shows : Shows e size x.state.core x.state.mem w
  pub seen : w.seen ≡ v.seen ++ noted e access
  pub inputs : w.inputs ≡ inputs_after v.inputs port

-- the same for an instruction of so many words that goes on to the next one
abbrev pub Does : (e : Env) (size : ℕ) (s : State) (v w : View) (count : ℕ) (port : Option ℕ) (x : After) → Type 0
Does e size s v w count port x = Moves e size v w ((s.pc + count) % 65536) port x

-- the machine makes the step that the view shows
abbrev pub Follows : (e : Env) (size : ℕ) (i : Instr) (s : State) (v : View) → Type 0
Follows e size i s v = Does e size s v (change e i v) (words i) (port_of i s) (after i s v)

-- what is noted of a trace
abbrev pub noted_all : Env → List Access → List Access
noted_all e [] = []
noted_all e (a ∷ trace) = noted e a ++ noted_all e trace

-- After some steps the machine goes on where the run of the view does, and more steps are those from there, where the
-- ports give what the view has left of the inputs
pub record GoesOn (e : Env) (size m : ℕ) (v : View) (s : State) (pc : ℕ) (w : View) : Type 0 where
  pub trace : List Access
  pub state : State
  pub ran : machine m v.inputs s ≡ MRunning trace state
  pub on : (k : ℕ) → machine (m + k) v.inputs s ≡ preceded_by trace (machine k w.inputs state)
  pub at : state.pc ≡ pc
  pub shows : Shows e size state.core state.mem w
  pub seen : w.seen ≡ v.seen ++ noted_all e trace

-- it ended, with the result that the view shows
pub record Ends (e : Env) (size m : ℕ) (v : View) (s : State) (w : View) : Type 0 where
  pub trace : List Access
  pub ran : machine m v.inputs s ≡ EndedWith trace (cast_signed w16 (pair w.at 24))
  pub seen : w.seen ≡ v.seen ++ noted_all e trace

abbrev pub RunsAs : (e : Env) (size m : ℕ) (v : View) (s : State) → Status → Type 0
RunsAs e size m v s (Running pc w) = w.safe ≡ true → GoesOn e size m v s pc w
RunsAs e size m v s (Ended w) = w.safe ≡ true → Ends e size m v s w
RunsAs e size m v s Stuck = Unit {0}
