-- Which bytes of the SRAM a step changes, by its access.
use Rattle.std.specs.Prelude.{ℕ, ◌<◌, ◌≤◌, ◌≡◌, ◌≢◌, ◌==◌, IsTrue, if◌then◌else◌, List, [], ◌∷◌, All}
use Rattle.ec_avr.specs.declared.machine.Access.{Access}
use Rattle.ec_avr.specs.declared.machine.Access.TheVariants.{Write, Stack}
use Rattle.ec_avr.specs.declared.machine.Stepped.TheVariants.{Ran}
use Rattle.ec_avr.specs.Machine.{Inputs, Running, machine, step}
use Rattle.ec_avr.specs.Placed.{stack_bytes}
use Rattle.ec_avr.specs.State.{State, byte_at, is_sram}

-- ---- a step

-- the addresses in the SRAM of the bytes that a step with an access may change, where it pushes or pops some bytes
abbrev pub changed_by : Access → (stacked : List ℕ) → List ℕ
changed_by (Write at byte) stacked = at ∷ []
changed_by Stack stacked = stacked
changed_by _ stacked = []

-- the bytes of the SRAM at all other addresses stay
abbrev pub NothingElseChanges : Type 0
NothingElseChanges =
    (answer : ℕ) (s : State) (a : Access) (at : ℕ) → (step answer s).stepped ≡ Ran a → 256 ≤ at
    → All (λ byte. byte ≢ at) (changed_by a (stack_bytes s)) → byte_at (step answer s).state at ≡ byte_at s at

-- a byte that is written stands there then, in the SRAM
abbrev pub WrittenBytesStand : Type 0
WrittenBytesStand =
    (answer : ℕ) (s : State) (at byte : ℕ) → (step answer s).stepped ≡ Ran (Write at byte)
    → IsTrue (is_sram s at) × (byte_at (step answer s).state at ≡ byte)

-- a step whose access is of the stack pushes or pops a byte
abbrev pub StackStepsHaveBytes : Type 0
StackStepsHaveBytes = (answer : ℕ) (s : State) → (step answer s).stepped ≡ Ran Stack → stack_bytes s ≢ []

-- ---- a run

-- the byte at an address of the SRAM after some accesses, where a byte stood there before
abbrev pub byte_after : (at byte : ℕ) → List Access → ℕ
byte_after at byte [] = byte
byte_after at byte (Write to new ∷ trace) = byte_after at (if to == at then new else byte) trace
byte_after at byte (_ ∷ trace) = byte_after at byte trace

-- no step of a run pushes to an address or pops from it
abbrev pub IsOffTheStack : (at m : ℕ) → Inputs → State → Type 0
IsOffTheStack at m inputs s =
    (k : ℕ) (trace : List Access) (t : State) → k < m → machine k inputs s ≡ Running trace t
    → All (λ byte. byte ≢ at) (stack_bytes t)

abbrev pub RunsChangeAsTold : Type 0
RunsChangeAsTold =
    (m : ℕ) (inputs : Inputs) (s t : State) (trace : List Access) (at : ℕ) → 256 ≤ at
    → machine m inputs s ≡ Running trace t → IsOffTheStack at m inputs s
    → byte_at t at ≡ byte_after at (byte_at s at) trace
