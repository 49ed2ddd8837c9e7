-- Laws of the machine's runs.
use Rattle.std.specs.Prelude.{ℕ, ◌+◌, ◌-◌, ◌%◌, ◌<◌, ◌≤◌, ◌≡◌, ◌≢◌, ◌==◌, IsTrue, if◌then◌else◌, pos, negsuc, Some}
use Rattle.std.specs.Prelude.{MatchOption, option_map, option_and_then, List, [], ◌∷◌, ◌++◌, length, All}
use Rattle.std.specs.Int.{bit_at}
use Rattle.ec_runs.specs.Behaviours.{IsRun, steps, many}
use Rattle.ec_avr.specs.declared.machine.Access.{Access}
use Rattle.ec_avr.specs.declared.machine.Access.TheVariants.{In, Stack}
use Rattle.ec_avr.specs.declared.machine.FaultKind.{FaultKind}
use Rattle.ec_avr.specs.declared.machine.Stepped.TheVariants.{Ran, Ended, Fault}
use Rattle.ec_avr.specs.Machine.{State, Inputs, Running, EndedWith, FaultedAt, machine, step, needs_port, port_at}
use Rattle.ec_avr.specs.Machine.{read_access, machine_result, is_whole, effect, instruction_at, load_address, IsReset}
use Rattle.ec_avr.specs.Machine.{Keeps}
use Rattle.ec_avr.specs.State.{with_pc, byte_at, is_sram}
use Rattle.ec_avr.specs.Effects.{relative}
use Rattle.ec_avr.specs.Flags.{with_bit}
use Rattle.ec_avr.specs.Placed.{StandsAt, stack_bytes}
use Rattle.ec_isa.specs.declared.instructions.Instr.{Instr}
use Rattle.ec_space.specs.Bytes.{AreBytes}
use Rattle.ec_space.specs.declared.Core.{Core}
use Rattle.ec_avr.specs.Bytes.{HoldsBytes, AreByteInputs}
use Rattle.ec_avr.specs.Runs.{answers, and_then, left_after, and_on, LeadsTo, fed, fed_step, behaviour_of, steps_of}

-- ---- a step and the ports

-- a step reads the port that the machine needs before it, and from it the byte that is answered
abbrev pub ReadsWhatIsAnswered : Type 0
ReadsWhatIsAnswered =
    (answer : ℕ) (s : State) → read_access (step answer s).stepped ≡ option_map (λ port. In port answer) (needs_port s)

-- the answer is 0 where no port is read
abbrev pub IsAnswer : State → ℕ → Type 0
IsAnswer s answer = MatchOption (needs_port s) (answer ≡ 0) (λ _. Unit {0})

-- ---- a step of a known instruction

-- what stands at a word address is the instruction there
abbrev pub IsWhatStands : Type 0
IsWhatStands = (s : State) (i : Instr) (pc : ℕ) → StandsAt i s.mem.flash pc → instruction_at s pc ≡ Some i

-- and all its words lie in flash
abbrev pub StandsWhole : Type 0
StandsWhole = (s : State) (i : Instr) → StandsAt i s.mem.flash s.pc → IsTrue (is_whole s)

-- there the step is the instruction's
abbrev pub StepsByInstruction : Type 0
StepsByInstruction =
    (answer : ℕ) (s : State) (i : Instr) → IsTrue (is_whole s) → instruction_at s s.pc ≡ Some i
    → step answer s ≡ effect (Some i) answer s

-- and so is the port that it reads
abbrev pub NeedsByInstruction : Type 0
NeedsByInstruction =
    (s : State) (i : Instr) → IsTrue (is_whole s) → instruction_at s s.pc ≡ Some i
    → needs_port s ≡ option_and_then (port_at s) (load_address (Some i) s)

-- a step keeps the core, the flash, the size of the data memory and the bytes at the addresses of ports
abbrev pub StepKeeps : Type 0
StepKeeps = (answer : ℕ) (s : State) → Keeps s (step answer s).state

-- ---- the program counter

-- a jump to a word address of 16 bits
abbrev pub JumpsInside : Type 0
JumpsInside = (s : State) (to : ℕ) → to < 65536 → with_pc s to ≡ record s { pc = to }

-- a jump forward, and back
abbrev pub RelativeForward : Type 0
RelativeForward = (pc k : ℕ) → pc + 1 + k < 65536 → relative pc (pos k) % 65536 ≡ pc + 1 + k

abbrev pub RelativeBack : Type 0
RelativeBack = (pc k : ℕ) → pc < 65536 → k ≤ pc → relative pc (negsuc k) % 65536 ≡ pc - k

-- ---- bits

-- where a bit of a byte is set to a value, the others stay
abbrev pub SetsOneBit : Type 0
SetsOneBit =
    (byte n value k : ℕ) → n < 8 → value ≤ 1 → k < 8
    → bit_at (with_bit byte n value) k ≡ (if k == n then value else bit_at byte k)

-- ---- the stack

-- a step that pushes or pops has its bytes in the SRAM
abbrev pub StackIsInside : Type 0
StackIsInside =
    (answer : ℕ) (s : State) → (step answer s).stepped ≡ Ran Stack → All (λ at. IsTrue (is_sram s at)) (stack_bytes s)

-- no other step that runs has such bytes
abbrev pub OthersLeaveTheStack : Type 0
OthersLeaveTheStack =
    (answer : ℕ) (s : State) (a : Access) → (step answer s).stepped ≡ Ran a → a ≢ Stack → stack_bytes s ≡ []

-- and it changes no other byte of the SRAM
abbrev pub PushesThereAlone : Type 0
PushesThereAlone =
    (answer : ℕ) (s : State) (at : ℕ) → (step answer s).stepped ≡ Ran Stack → 256 ≤ at
    → All (λ byte. byte ≢ at) (stack_bytes s) → byte_at (step answer s).state at ≡ byte_at s at

-- ---- bytes stay bytes

-- a reset state of a flash of bytes holds bytes
abbrev pub ResetHoldsBytes : Type 0
ResetHoldsBytes = (core : Core) (image : List ℕ) (s : State) → IsReset core image s → AreBytes image → HoldsBytes s

-- so does every state after a step, where a byte is answered
abbrev pub StepHoldsBytes : Type 0
StepHoldsBytes = (answer : ℕ) (s : State) → answer < 256 → HoldsBytes s → HoldsBytes (step answer s).state

-- and after several, where the ports give bytes
abbrev pub RunHoldsBytes : Type 0
RunHoldsBytes =
    (m : ℕ) (inputs : Inputs) (s t : State) (trace : List Access) → AreByteInputs inputs → HoldsBytes s
    → machine m inputs s ≡ Running trace t → HoldsBytes t

-- what the ports give after some accesses are bytes still
abbrev pub LeftAreBytes : Type 0
LeftAreBytes = (trace : List Access) (inputs : Inputs) → AreByteInputs inputs → AreByteInputs (left_after trace inputs)

-- ---- runs in parts

-- j + k steps are j steps and, where the run goes on, k more on the inputs that are left
abbrev pub MachineJoins : Type 0
MachineJoins =
    (j k : ℕ) (inputs : Inputs) (s : State)
    → machine (j + k) inputs s ≡ and_on (λ trace t. machine k (left_after trace inputs) t) (machine j inputs s)

-- a run of no step
abbrev pub LeadsNowhere : Type 0
LeadsNowhere = (s : State) → LeadsTo s [] s

-- one step more
abbrev pub LeadsOn : Type 0
LeadsOn =
    (old cur : State) (trace : List Access) (answer : ℕ) (a : Access) → LeadsTo old trace cur
    → (step answer cur).stepped ≡ Ran a → IsAnswer cur answer → LeadsTo old (trace ++ a ∷ []) (step answer cur).state

-- two runs joined
abbrev pub LeadsThrough : Type 0
LeadsThrough =
    (old mid new : State) (first second : List Access) → LeadsTo old first mid → LeadsTo mid second new
    → LeadsTo old (first ++ second) new

-- after the steps that lead to a state the machine stands there
abbrev pub LeadsToWhereItStands : Type 0
LeadsToWhereItStands =
    (old new : State) (trace : List Access) → LeadsTo old trace new → (more : Inputs)
    → machine (length trace) (and_then (answers trace) more) old ≡ Running trace new

-- and where the next step ends or faults, so does the run
abbrev pub LeadsToItsEnd : Type 0
LeadsToItsEnd =
    (old cur : State) (trace : List Access) (limit answer : ℕ) → LeadsTo old trace cur → length trace < limit
    → (step answer cur).stepped ≡ Ended → IsAnswer cur answer → (more : Inputs)
    → machine limit (and_then (answers trace) more) old ≡ EndedWith trace (machine_result (step answer cur).state)

abbrev pub LeadsToItsFault : Type 0
LeadsToItsFault =
    (old cur : State) (trace : List Access) (limit answer : ℕ) (kind : FaultKind) (pc : ℕ) → LeadsTo old trace cur
    → length trace < limit → (step answer cur).stepped ≡ Fault kind pc → IsAnswer cur answer → (more : Inputs)
    → machine limit (and_then (answers trace) more) old ≡ FaultedAt trace kind pc

-- a run that goes on leads to the state where it stands
abbrev pub RunsLead : Type 0
RunsLead =
    (m : ℕ) (inputs : Inputs) (s t : State) (trace : List Access) → machine m inputs s ≡ Running trace t
    → LeadsTo s trace t

-- ---- as runs of a step function

-- what is seen of a run is seen of the steps
abbrev pub MachineIsSteps : Type 0
MachineIsSteps =
    (m : ℕ) (inputs : Inputs) (s : State) → behaviour_of (machine m inputs s) ≡ steps fed_step (fed inputs s) m

-- and so are the state after them and the inputs that are left
abbrev pub MachineIsMany : Type 0
MachineIsMany =
    (m : ℕ) (inputs : Inputs) (s : State) → many fed_step m (fed inputs s) ≡ steps_of inputs (machine m inputs s)

-- so more steps only add
abbrev pub MachineIsRun : Type 0
MachineIsRun = (inputs : Inputs) (s : State) → IsRun (λ m. behaviour_of (machine m inputs s))
