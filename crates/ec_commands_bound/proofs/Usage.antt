-- A bound does not answer that its words are no command, and no stop has the status of work that was done.
use Rattle.std.proofs.Common.{◌≡◌, ap, subst, arith, inl, inr}
use Rattle.ec_io.specs.Views.{StoreView, SinkCall}
use Rattle.ec_steps.specs.declared.stop.BoundStop.TheVariants.{LoopNotCounted, BoundTooLarge, NoMemory}
use Rattle.ec_commands.proofs.Usage.{two_is_usage}
use Rattle.ec_commands.specs.Words.{Words}
use Rattle.ec_commands.specs.declared.stop.CommandError.TheVariants.{Usage}
use Rattle.ec_commands_compile.proofs.Statuses as compiling_zero
use Rattle.ec_commands_compile.proofs.Usage.{build_not}
use Rattle.ec_commands_compile.specs.Stops as compiling
use Rattle.ec_commands_compile.specs.declared.stop.CompileStop.{CompileStop}
use Rattle.ec_commands_compile.specs.declared.stop.CompileStop.TheVariants.{Command, Build}
use Rattle.ec_commands_bound.specs.Bounds.{BoundStops}
use Rattle.ec_commands_bound.specs.Stops.{status_of}
use Rattle.ec_commands_bound.specs.declared.stop.StepsStop.{StepsStop}
use Rattle.ec_commands_bound.specs.declared.stop.StepsStop.TheVariants.{Compile, Bound}

two_compiling : (stop : CompileStop) → compiling.status_of stop ≡ 2 → stop ≡ Command Usage
two_compiling (Command stop) e = ap Command (two_is_usage stop e)
two_compiling (Build stop) e = absurd (build_not stop e)

not_usage : (words : Words) (old new : StoreView) (out : SinkCall) → ¬ (BoundStops words old new out (Compile (Command Usage)))
not_usage words old new out (inl ((few, inl h), same)) = h
not_usage words old new out (inl ((few, inr h), same)) = h
not_usage words old new out (inr h) = let e = h.0 in cc

pub bound_no_usage : (words : Words) (old new : StoreView) (out : SinkCall) (stop : StepsStop) → BoundStops words old new out stop
    → status_of stop ≡ 2 → ⊥
bound_no_usage words old new out (Compile stop) h e =
    not_usage words old new out (subst (λ s. BoundStops words old new out (Compile s)) (two_compiling stop e) h)
bound_no_usage words old new out (Bound (LoopNotCounted unit token)) h e = omega (arith, e)
bound_no_usage words old new out (Bound BoundTooLarge) h e = omega (arith, e)
bound_no_usage words old new out (Bound NoMemory) h e = omega (arith, e)

pub never_zero : (stop : StepsStop) → status_of stop ≡ 0 → ⊥
never_zero (Compile stop) e = compiling_zero.never_zero stop e
never_zero (Bound (LoopNotCounted unit token)) e = omega (arith, e)
never_zero (Bound BoundTooLarge) e = omega (arith, e)
never_zero (Bound NoMemory) e = omega (arith, e)
