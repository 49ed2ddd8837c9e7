-- The status of words that are no command is that of one stop.
use Rattle.std.proofs.Common.{◌≡◌, refl, arith}
use Rattle.ec_commands.specs.Stops.{status_of}
use Rattle.ec_commands.specs.declared.stop.CommandError.{CommandError}
use Rattle.ec_commands.specs.declared.stop.CommandError.TheVariants as stops

pub two_is_usage : (stop : CommandError) → status_of stop ≡ 2 → stop ≡ stops.Usage
two_is_usage stops.Usage e = refl
two_is_usage (stops.CannotRead i) e = absurd (omega (arith, e))
two_is_usage stops.CannotWrite e = absurd (omega (arith, e))
two_is_usage (stops.TooMany limit) e = absurd (omega (arith, e))
two_is_usage stops.NoMemory e = absurd (omega (arith, e))
two_is_usage (stops.BadRecord line) e = absurd (omega (arith, e))
two_is_usage (stops.BadSum line) e = absurd (omega (arith, e))
two_is_usage (stops.OutOfFlash line) e = absurd (omega (arith, e))
two_is_usage (stops.Twice line) e = absurd (omega (arith, e))
two_is_usage stops.NoEnd e = absurd (omega (arith, e))
two_is_usage (stops.ScriptLine line rule) e = absurd (omega (arith, e))
two_is_usage (stops.AsmLine line rule) e = absurd (omega (arith, e))
two_is_usage (stops.Fault kind pc) e = absurd (omega (arith, e))
two_is_usage stops.StepsOut e = absurd (omega (arith, e))
two_is_usage stops.NoNumber e = absurd (omega (arith, e))
