-- Laws of the view, of items of code and of runs through them.
use Rattle.std.specs.Prelude.{◌≡◌, ℕ, suc, ◌+◌, ◌*◌, ◌%◌, ◌<◌, ◌≤◌, ◌==◌, Bool, true, not, if◌then◌else◌, List, [], ◌∷◌}
use Rattle.std.specs.Prelude.{◌++◌, IsTrue, Some, All, ℤ}
use Rattle.std.specs.Int.{bit_at, cast_signed, w16}
use Rattle.ec_runs.specs.Behaviours.{Behaviour, Running as GoesOnWith, Ended as EndsWith, IsRun, Reaches, IsWithin}
use Rattle.ec_isa.specs.declared.instructions.Instr.{Instr}
use Rattle.ec_isa.specs.declared.instructions.Instr.TheVariants.{Rjmp, Rcall, Ret, Sbrc, Sbrs, In as InInstr}
use Rattle.ec_isa.specs.declared.instructions.Instr.TheVariants.{Out as OutInstr, Break}
use Rattle.ec_isa.specs.Table.{in_table}
use Rattle.ec_avr.specs.declared.machine.Access.{Access}
use Rattle.ec_avr.specs.declared.machine.Access.TheVariants.{In, Out}
use Rattle.ec_avr.specs.Machine.{State, Inputs, Running as MRunning, machine}
use Rattle.ec_avr.specs.Placed.{stack_bytes}
use Rattle.ec_avr.specs.State.{raised, lowered}
use Rattle.ec_asm.specs.declared.items.AsmItem.{AsmItem}
use Rattle.ec_asm.specs.declared.items.AsmItem.TheVariants.{JumpTo, CallTo, BranchTo}
use Rattle.ec_asm.specs.View.{View, put, pair}
use Rattle.ec_asm.specs.Change.{Env, Port, Stacked, change, sp, flag_at, see, given, taken}
use Rattle.ec_asm.specs.Run.{Running, Ended, run, fetch, keeps_base, pushed, popped, back_at, is_flag, is_safe}
use Rattle.ec_asm.specs.Items.{At, Stands, HasAt, JumpsAt, CallsAt, BranchesAt, branch_if, distance, all_straight, code_steps}
use Rattle.ec_asm.specs.Items.{code_words, block, chain}
use Rattle.ec_asm.specs.Takes.{Goes, Takes, if_bit, back_or_past, KeepsReturn}
use Rattle.ec_asm.specs.Shows.{Shows, Fits, Follows, RunsAs, GoesOn, Ends}
use Rattle.ec_asm.specs.Behaves.{noted_run}
use Rattle.ec_asm.specs.Placed.{IsPlaced}

-- ---- the view and the machine

-- an instruction that goes on and keeps the base does to the machine what it does to the view, where its accesses are
-- allowed
abbrev pub InstructionsFollow : Type 0
InstructionsFollow =
    (e : Env) (size : ℕ) (s : State) (v : View) (i : Instr) → Fits e size → Shows e size s.core s.mem v → IsTrue (in_table i)
    → keeps_base e.base i ≡ true → (change e i v).safe ≡ true → Follows e size i s v

-- the machine's run is that of the view, where all accesses are allowed
abbrev pub MachineRunsAsView : Type 0
MachineRunsAsView =
    (e : Env) (size m : ℕ) (s : State) (v : View) → Fits e size → Shows e size s.core s.mem v
    → RunsAs e size m v s (run e m (Running s.pc v))

-- and in it every byte that is pushed or popped is one of the stack's
abbrev pub StackStaysInside : Type 0
StackStaysInside =
    (e : Env) (size m k : ℕ) (s t : State) (v : View) (trace : List Access) → Fits e size → Shows e size s.core s.mem v
    → is_safe (run e m (Running s.pc v)) ≡ true → k < m → machine k v.inputs s ≡ MRunning trace t
    → All (λ at. e.kind at ≡ Stacked) (stack_bytes t)

-- ---- where items stand

-- items whose bytes stand in the flash stand there
abbrev pub PlacedItemsStand : Type 0
PlacedItemsStand =
    (e : Env) (items : List AsmItem) (pc : ℕ) → IsPlaced e items pc → HasAt e items pc (pc + code_words items)

-- code in two parts stands in two parts
abbrev pub PartsStand : Type 0
PartsStand =
    (e : Env) (a b : List AsmItem) (pc end : ℕ) → HasAt e (a ++ b) pc end
    → (mid : ℕ) × HasAt e a pc mid × HasAt e b mid end

-- a relative jump, call or branch to the word of a label stands for the one to the label
abbrev pub NearJumpsStand : Type 0
NearJumpsStand =
    (e : Env) (l pc end : ℕ) → At e (Rjmp (distance pc (e.word_of l))) pc end → e.word_of l < 65536
    → Stands e (JumpTo l) pc end

abbrev pub NearCallsStand : Type 0
NearCallsStand =
    (e : Env) (l pc end : ℕ) → At e (Rcall (distance pc (e.word_of l))) pc end → e.word_of l < 65536
    → Stands e (CallTo l) pc end

abbrev pub NearBranchesStand : Type 0
NearBranchesStand =
    (e : Env) (set : Bool) (flag l pc end : ℕ) → At e (branch_if set flag (distance pc (e.word_of l))) pc end
    → pc < 65536
    → e.word_of l < 65536 → Stands e (BranchTo set flag l) pc end

-- a jump, call or branch that stands is to a label that has a word
abbrev pub JumpsHaveWords : Type 0
JumpsHaveWords = (e : Env) (l pc end : ℕ) → JumpsAt e l pc end → e.word_of l < 65536

abbrev pub CallsHaveWords : Type 0
CallsHaveWords = (e : Env) (l pc end : ℕ) → CallsAt e l pc end → e.word_of l < 65536

abbrev pub BranchesHaveWords : Type 0
BranchesHaveWords = (e : Env) (set : Bool) (flag l pc end : ℕ) → BranchesAt e set flag l pc end → e.word_of l < 65536

-- ---- straight code

-- straight code is one change of the view, in as many steps as it has instructions
abbrev pub StraightCodeGoes : Type 0
StraightCodeGoes =
    (e : Env) (items : List AsmItem) (pc end : ℕ) (v : View) → all_straight items ≡ true → HasAt e items pc end
    → Goes e (code_steps items) pc v end (block e items v)

abbrev pub BlocksJoin : Type 0
BlocksJoin = (e : Env) (a b : List AsmItem) (v : View) → block e (a ++ b) v ≡ block e b (block e a v)

-- What holds before the first byte and is carried over each byte holds after the last. `I` are the cases in which it
-- holds, each after so many bytes and with its view
abbrev pub ChainsHold : (I : Type 0) → Type 0
ChainsHold I =
    (e : Env) (body : ℕ → List AsmItem) (n : ℕ) (index : I → ℕ) (view : I → View)
    → ((i : I) → index i < n → (j : I) × (index j ≡ suc (index i)) × (view j ≡ block e (body (index i)) (view i)))
    → (i : I) → index i ≡ 0 → (j : I) × (index j ≡ n) × (view j ≡ block e (chain body n) (view i))

-- ---- runs

abbrev pub RunsJoin : Type 0
RunsJoin =
    (e : Env) (j k pc pc1 pc2 : ℕ) (v v1 v2 : View) → Goes e j pc v pc1 v1 → Goes e k pc1 v1 pc2 v2
    → Goes e (j + k) pc v pc2 v2

-- a run that comes to a BREAK ends there
abbrev pub RunsEnd : Type 0
RunsEnd =
    (e : Env) (k j pc pc1 : ℕ) (v v1 : View) → Goes e k pc v pc1 v1 → fetch e pc1 ≡ Some Break
    → run e (k + suc j) (Running pc v) ≡ Ended v1

-- a jump takes one step, near or far
abbrev pub JumpsGo : Type 0
JumpsGo = (e : Env) (l pc end : ℕ) (v : View) → JumpsAt e l pc end → Goes e 1 pc v (e.word_of l) v

-- a branch that is taken takes one or two steps, and one that is not taken one
abbrev pub BranchesGo : Type 0
BranchesGo =
    (e : Env) (set : Bool) (flag l pc end : ℕ) (v : View) → is_flag flag ≡ true → flag_at v.flags flag ≡ if_bit set
    → BranchesAt e set flag l pc end → Takes e 1 2 pc v (e.word_of l) v

abbrev pub BranchesPass : Type 0
BranchesPass =
    (e : Env) (set : Bool) (flag l pc end : ℕ) (v : View) → is_flag flag ≡ true
    → flag_at v.flags flag ≡ if_bit (not set)
    → BranchesAt e set flag l pc end → Goes e 1 pc v end v

-- a test of a bit passes over the next instruction, where the bit is 0 or where it is 1
abbrev pub ClearBitSkips : Type 0
ClearBitSkips =
    (e : Env) (r b : ℕ) (i : Instr) (pc mid end : ℕ) (v : View) → At e (Sbrc r b) pc mid → At e i mid end
    → Goes e 1 pc v (if bit_at (v.at r) b == 0 then end else mid) v

abbrev pub SetBitSkips : Type 0
SetBitSkips =
    (e : Env) (r b : ℕ) (i : Instr) (pc mid end : ℕ) (v : View) → At e (Sbrs r b) pc mid → At e i mid end
    → Goes e 1 pc v (if bit_at (v.at r) b == 1 then end else mid) v

-- a run in bounds, and one that goes on from there
abbrev pub TakesJoin : Type 0
TakesJoin =
    (e : Env) (l m k n pc pc1 pc2 : ℕ) (v v1 v2 : View) → Takes e l m pc v pc1 v1 → Takes e k n pc1 v1 pc2 v2
    → Takes e (l + k) (m + n) pc v pc2 v2

-- a run of so many steps is in bounds, and so is one in narrower bounds
abbrev pub RunsTake : Type 0
RunsTake = (e : Env) (k pc pc1 : ℕ) (v v1 : View) → Goes e k pc v pc1 v1 → Takes e k k pc v pc1 v1

abbrev pub TakesWithin : Type 0
TakesWithin =
    (e : Env) (l l' m m' pc pc1 : ℕ) (v v1 : View) → l' ≤ l → m ≤ m' → Takes e l m pc v pc1 v1
    → Takes e l' m' pc v pc1 v1

-- A loop that counts down: each turn takes at least `least` and at most `most` steps. `I` are the cases of what holds
-- before a turn, each with the turns that are left and its view
abbrev pub LoopsTake : (I : Type 0) → Type 0
LoopsTake I =
    (e : Env) (least most pc past : ℕ) (turns : I → ℕ) (view : I → View)
    → ((k : ℕ) (i : I) → turns i ≡ suc k
    → (j : I) × (turns j ≡ k) × Takes e least most pc (view i) (back_or_past k pc past) (view j))
    → (k : ℕ) (i : I) → turns i ≡ suc k
    → (j : I) × (turns j ≡ 0) × Takes e ((k + 1) * least) ((k + 1) * most) pc (view i) past (view j)

-- ---- calls

-- a call pushes the word after it, where both bytes are the stack's
abbrev pub CallsGo : Type 0
CallsGo =
    (e : Env) (l pc end : ℕ) (v : View) → Stands e (CallTo l) pc end → e.kind (sp v) ≡ Stacked
    → e.kind (lowered (sp v)) ≡ Stacked
    → Goes e 1 pc v (e.word_of l) (pushed end v)

-- a return goes to the address that it pops
abbrev pub ReturnsGo : Type 0
ReturnsGo =
    (e : Env) (pc : ℕ) (v : View) → fetch e pc ≡ Some Ret → e.kind (raised (sp v)) ≡ Stacked
    → e.kind (raised (raised (sp v))) ≡ Stacked
    → Goes e 1 pc v (back_at v % 65536) (popped v)

-- a call of a routine that comes to a return with the stack as it was goes on after the call
abbrev pub CallsReturn : Type 0
CallsReturn =
    (e : Env) (l pc end ret least most : ℕ) (v v2 : View) → Stands e (CallTo l) pc end → 257 ≤ sp v → sp v < 65536
    → e.kind (sp v) ≡ Stacked → e.kind (lowered (sp v)) ≡ Stacked → fetch e ret ≡ Some Ret
    → Takes e least most (e.word_of l) (pushed end v) ret v2 → KeepsReturn (pushed end v) v2
    → Takes e (1 + (least + 1)) (1 + (most + 1)) pc v end (popped v2)

-- ---- ports

-- IN takes the next byte that the port gives
abbrev pub PortsGive : Type 0
PortsGive =
    (e : Env) (d a : ℕ) (v : View) → e.kind (a + 0x20) ≡ Port
    → change e (InInstr d a) v ≡ record v {
      at = put v.at d (given v (a + 0x20));
      inputs = taken v.inputs (a + 0x20);
      seen = v.seen ++ In (a + 0x20) (given v (a + 0x20)) ∷ [];
    }

-- OUT is noted, and changes nothing
abbrev pub PortsTake : Type 0
PortsTake =
    (e : Env) (a r : ℕ) (v : View) → e.kind (a + 0x20) ≡ Port
    → change e (OutInstr a r) v ≡ see (Out (a + 0x20) (v.at r)) v

-- ---- both directions

-- what is noted of the machine's run is a run
abbrev pub NotedRunsAreRuns : Type 0
NotedRunsAreRuns = (e : Env) (inputs : Inputs) (s : State) → IsRun (noted_run e inputs s)

-- a run of the view tells what is noted of the machine's
abbrev pub NotedWhereItGoesOn : Type 0
NotedWhereItGoesOn =
    (e : Env) (size m pc : ℕ) (s : State) (v w : View) → v.seen ≡ [] → GoesOn e size m v s pc w
    → noted_run e v.inputs s m ≡ GoesOnWith w.seen

abbrev pub NotedWhereItEnds : Type 0
NotedWhereItEnds =
    (e : Env) (size m : ℕ) (s : State) (v w : View) → v.seen ≡ [] → Ends e size m v s w
    → noted_run e v.inputs s m ≡ EndsWith w.seen (cast_signed w16 (pair w.at 24))

-- where what is noted reaches all that another run shows, it stays within it
abbrev pub NotedStaysWithin : (F : Type 0) → Type 0
NotedStaysWithin F =
    (e : Env) (inputs : Inputs) (s : State) (allowed : ℕ → ℕ → Bool) (upper : ℕ → Behaviour Access ℤ F)
    → Reaches allowed upper (noted_run e inputs s) → (m : ℕ) → IsWithin (upper m) (noted_run e inputs s m)
