-- A watch does not answer that its words are no command.
use Rattle.std.proofs.Common.{◌≡◌, ℕ, subst, arith, inl, inr}
use Rattle.ec_io.specs.Views.{StoreView, SinkCall}
use Rattle.ec_emu_watch.specs.declared.compare.Compare.{Compare}
use Rattle.ec_commands.specs.Runs.{Gives}
use Rattle.ec_commands.specs.Words.{Words}
use Rattle.ec_commands.specs.declared.stop.CommandError.TheVariants.{Usage}
use Rattle.ec_commands.proofs.Usage.{two_is_usage}
use Rattle.ec_commands_compile.proofs.Usage.{build_not}
use Rattle.ec_commands_compile.specs.Stops.{status_of}
use Rattle.ec_commands_compile.specs.declared.stop.CompileStop.{CompileStop}
use Rattle.ec_commands_compile.specs.declared.stop.CompileStop.TheVariants.{Command, Build}
use Rattle.ec_commands_watch.specs.Watches.{WatchStops}
use Rattle.ec_commands_watch.proofs.Stops.{shown_stop}

not_usage : (words : Words) (steps leaf : ℕ) (rule : Compare) (hooks : Gives) (old new : StoreView) (out : SinkCall)
    → ¬ (WatchStops words steps leaf rule hooks old new out (Command Usage))
not_usage words steps leaf rule hooks old new out (inl ((few, inl h), same)) = h
not_usage words steps leaf rule hooks old new out (inl ((few, inr (inl h)), same)) = h
not_usage words steps leaf rule hooks old new out (inl ((few, inr (inr h)), same)) = h
not_usage words steps leaf rule hooks old new out (inr h) =
    elim (shown_stop out.before out.after h.1.report.end h.1.trace Usage h.1.shows) [
      | inl same ↦ cc
      | inr left ↦ elim left [ inl x ↦ omega (arith, x) | inr y ↦ elim y [ inl x ↦ omega (arith, x) | inr x ↦ omega (arith, x) ] ]
    ]

pub watch_no_usage : (words : Words) (steps leaf : ℕ) (rule : Compare) (hooks : Gives) (old new : StoreView) (out : SinkCall)
    (stop : CompileStop) → WatchStops words steps leaf rule hooks old new out stop → status_of stop ≡ 2 → ⊥
watch_no_usage words steps leaf rule hooks old new out (Command stop) h e =
    not_usage words steps leaf rule hooks old new out
    (subst (λ s. WatchStops words steps leaf rule hooks old new out (Command s)) (two_is_usage stop e) h)
watch_no_usage words steps leaf rule hooks old new out (Build stop) h e = build_not stop e
