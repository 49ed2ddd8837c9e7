-- The law of what is known: where an operation is reached in a run, each temporary holds the number that it is known to
-- hold, or one below a known power of 256.
use Rattle.std.specs.Prelude.{◌≡◌, ℕ, zero, suc, ◌^◌, ◌==◌, nat_lt, Bool, true, false, ◌&&◌, if◌then◌else◌, List, [], ◌∷◌}
use Rattle.std.specs.Prelude.{Option, Some, None, slice_get, ℤ}
use Rattle.ec_core.specs.declared.values.Undefined.TheVariants.{Access as NoAccess}
use Rattle.ec_core.specs.declared.values.Value.{Value}
use Rattle.ec_core.specs.Plain.{PlainProgram}
use Rattle.ec_core.specs.State.{Inputs, worked, Outcome, more, undefined}
use Rattle.ec_ir.specs.Costs.{op_steps}
use Rattle.ec_ir.specs.Meaning.{Mach, Frame, Place, enter, perform, run, start}
use Rattle.ec_ir.specs.Operations.{PlainIr, PlainIrFunction, PlainIrProgram, data_of}
use Rattle.ec_ir.specs.Temporaries.{Content, bits, points, Held, Temps, low_bytes}
use Rattle.ec_ir_known.specs.declared.known.KnownNumber.{KnownNumber}
use Rattle.ec_ir_known.specs.Known.{Known, known_at}

-- the bytes of a known number, or of one that so many bytes of them are enough for; a pointer takes them all
abbrev pub are_bits : (number : Option ℤ) → (width bytes : ℕ) → Content → Bool
are_bits (Some n) width bytes (bits low) = low == low_bytes bytes n
are_bits (Some n) width bytes (points p) = false
are_bits None width bytes (bits low) = nat_lt low (256 ^ width)
are_bits None width bytes (points p) = bytes == width

-- a place holds what it is known to hold
abbrev pub is_held : Option KnownNumber → Option Held → Bool
is_held None h = true
is_held (Some k) None = false
is_held (Some k) (Some h) = h.bytes == k.bytes && are_bits k.number k.width k.bytes h.content

abbrev pub are_held : Known → Temps → List ℕ → Bool
are_held known temps [] = true
are_held known temps (place ∷ places) = is_held (known place) (temps place) && are_held known temps places

-- A run that has no meaning as soon as a place does not hold what is known of it. Before each operation some places are
-- looked at, which the operations that are left tell
module _ (looked_at : List PlainIr → List ℕ) (functions : List PlainIrFunction) (program : PlainProgram) (inputs : Inputs)
  where
    abbrev pub checked_from : ℕ → List PlainIr → List Frame → List PlainIr → Mach → Outcome Value
    checked_from zero code stack rest m = more m.state
    checked_from (suc n) code stack [] m = undefined NoAccess m.state
    checked_from (suc n) code stack (i ∷ rest) m =
        if are_held (known_at code (i ∷ rest)) m.temps (looked_at (i ∷ rest))
        then perform functions program inputs i (λ u. checked_from (suc n) code stack rest u)
        (λ p u. checked_from n p.code p.stack p.rest u) code stack rest m.temps (worked (op_steps i) m.state)
        else undefined NoAccess m.state

    abbrev pub checked : ℕ → Place → Mach → Outcome Value
    checked n p m = checked_from n p.code p.stack p.rest m

abbrev pub checked_run : (List PlainIr → List ℕ) → PlainIrProgram → Inputs → ℕ → Outcome Value
checked_run looked_at p inputs n =
    enter (slice_get p.functions p.main) (λ q m. checked looked_at p.functions (data_of p) inputs n q m) []
    (start (data_of p))

-- whatever places are looked at, it is the run
abbrev pub KnownNumbersAreHeld : Type 0
KnownNumbersAreHeld =
    (looked_at : List PlainIr → List ℕ) (p : PlainIrProgram) (inputs : Inputs) (n : ℕ)
    → checked_run looked_at p inputs n ≡ run p inputs n
