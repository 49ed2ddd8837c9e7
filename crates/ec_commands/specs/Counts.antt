-- What is printed of a run whose lines are not: its result, and how often ports were written.
use Rattle.std.specs.Prelude.{ℕ, ℤ, ◌≡◌, List, ◌++◌, Option, Some, None, take, codes}
use Rattle.std.specs.Fmt.{decimal, signed_decimal}
use Rattle.std.specs.Io.KnownBytes.{Appends}
use Rattle.ec_emu.specs.declared.run.EmuEnd.{EmuEnd}
use Rattle.ec_emu.specs.declared.run.EmuEnd.TheVariants as ends
use Rattle.ec_io.specs.declared.store.Failed.{Failed}
use Rattle.std.specs.Prelude.{Result, Ok}
use Rattle.ec_commands.specs.declared.stop.CommandError.{CommandError}
use Rattle.ec_commands.specs.declared.stop.CommandError.TheVariants as stops
use Rattle.ec_commands.specs.Tells.{WritesPrefix}

-- `result` and `writes`, each with its number in decimal and LF
abbrev pub counts : ℤ → ℕ → List ℕ
counts n writes =
    codes "result " ++ (signed_decimal n ++ (codes "\nwrites " ++ (decimal writes ++ codes "\n")))

-- nothing where the run did not end
abbrev pub counts_of : EmuEnd → (writes : ℕ) → List ℕ
counts_of (ends.Ended n) writes = counts n writes
counts_of end writes = codes ""

-- what writing them did: both lines went out, or a prefix of them; nothing where the run did not end
abbrev pub WritesCounts : Option (List ℕ) → Option (List ℕ) → EmuEnd → (writes : ℕ) → Result Unit Failed → Type 0
WritesCounts old new (ends.Ended n) writes r = WritesPrefix old new r (counts n writes)
WritesCounts old new end writes r = (new ≡ old) × (r ≡ Ok tt)

-- what `out` received, and the stop that tells the end
abbrev pub ShowsCounts : Option (List ℕ) → Option (List ℕ) → EmuEnd → (writes : ℕ) → Option CommandError → Type 0
ShowsCounts old new (ends.Ended n) writes None = Appends old new (counts n writes)
ShowsCounts old new (ends.Ended n) writes (Some stops.CannotWrite) = (m : ℕ) × Appends old new (take m (counts n writes))
ShowsCounts old new ends.StepsOut writes (Some stops.StepsOut) = new ≡ old
ShowsCounts old new (ends.Fault kind pc) writes (Some (stops.Fault k p)) = (k ≡ kind) × (p ≡ pc) × (new ≡ old)
ShowsCounts old new end writes stop = ⊥
