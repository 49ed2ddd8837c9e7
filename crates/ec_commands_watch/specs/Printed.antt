-- What a watched run prints, and what `out` receives of it.
use Rattle.std.specs.Prelude.{ℕ, ℤ, ◌≡◌, List, ◌++◌, Option, Some, None, Result, Ok, take, codes}
use Rattle.std.specs.Fmt.{signed_decimal}
use Rattle.std.specs.Io.KnownBytes.{Appends}
use Rattle.ec_io.specs.declared.store.Failed.{Failed}
use Rattle.ec_avr.specs.declared.machine.Access.{Access}
use Rattle.ec_emu.specs.Lines.{port_lines}
use Rattle.ec_emu_watch.specs.Hits.{emulated}
use Rattle.ec_emu_watch.specs.declared.run.WatchEnd.{WatchEnd}
use Rattle.ec_emu_watch.specs.declared.run.WatchEnd.TheVariants.{Hit, Ended}
use Rattle.ec_commands.specs.Runs as runs
use Rattle.ec_commands.specs.Tells.{WritesPrefix}
use Rattle.ec_commands.specs.declared.stop.CommandError.{CommandError}
use Rattle.ec_commands.specs.declared.stop.CommandError.TheVariants.{CannotWrite}

-- `hit`, the value in decimal, and LF
abbrev pub hit_line : ℤ → List ℕ
hit_line value = codes "hit " ++ signed_decimal value ++ codes "\n"

-- a line for each access of a port, and behind them the value of a hit, or at BREAK the result
abbrev pub end_line : WatchEnd → List ℕ
end_line (Hit value) = hit_line value
end_line (Ended result) = runs.result_line result
end_line end = codes ""

abbrev pub printed : WatchEnd → List Access → List ℕ
printed end trace = port_lines trace ++ end_line end

-- what `out` received of a run, and the stop that tells its end: at a hit all that it prints and no stop, or a prefix of
-- it after a failed write; at any other end as of a run without a watch
abbrev pub Shows : Option (List ℕ) → Option (List ℕ) → WatchEnd → List Access → Option CommandError → Type 0
Shows old new (Hit value) trace None = Appends old new (printed (Hit value) trace)
Shows old new (Hit value) trace (Some CannotWrite) =
    (n : ℕ) × Appends old new (port_lines trace ++ take n (hit_line value))
Shows old new (Hit value) trace (Some stop) = ⊥
Shows old new end trace stop = runs.Shows old new (emulated end) trace stop

-- what writing the end of a run did: the line of its value or of its result went out, or a prefix of it; else nothing
abbrev pub WritesEnd : Option (List ℕ) → Option (List ℕ) → WatchEnd → Result Unit Failed → Type 0
WritesEnd old new (Hit value) r = WritesPrefix old new r (hit_line value)
WritesEnd old new (Ended result) r = WritesPrefix old new r (runs.result_line result)
WritesEnd old new end r = (new ≡ old) × (r ≡ Ok tt)

-- the stop that tells the end of a run, none at a hit and at BREAK
abbrev pub stop_at : WatchEnd → Option CommandError
stop_at (Hit value) = None
stop_at end = runs.stop_at (emulated end)
