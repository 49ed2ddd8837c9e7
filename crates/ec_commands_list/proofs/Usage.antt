-- No listing and no assembly answers that its words are none.
use Rattle.std.proofs.Common.{◌≡◌, ◌≢◌, subst, inl, inr}
use Rattle.ec_space.specs.declared.Core.{Core}
use Rattle.ec_io.specs.Views.{StoreView, SinkCall}
use Rattle.ec_hex.specs.declared.read.HexStop.{HexStop}
use Rattle.ec_hex.specs.declared.read.HexStop.TheVariants as hex_stops
use Rattle.ec_commands.specs.Runs.{hex_stop}
use Rattle.ec_commands.specs.Stops.{status_of}
use Rattle.ec_commands.specs.Words.{Words}
use Rattle.ec_commands.specs.declared.stop.CommandError.{CommandError}
use Rattle.ec_commands.specs.declared.stop.CommandError.TheVariants as stops
use Rattle.ec_commands.proofs.Usage.{two_is_usage}
use Rattle.ec_commands_list.specs.Listings.{ListStops}
use Rattle.ec_commands_list.specs.Assemblies.{AssembleStops}

hex_not : (why : HexStop) → stops.Usage ≢ hex_stop why
hex_not (hex_stops.BadRecord line) = λ e. cc
hex_not (hex_stops.BadSum line) = λ e. cc
hex_not (hex_stops.OutOfFlash line) = λ e. cc
hex_not (hex_stops.Twice line) = λ e. cc
hex_not hex_stops.NoEnd = λ e. cc
hex_not hex_stops.NoMemory = λ e. cc

list_not : (words : Words) (core : Core) (old new : StoreView) (out : SinkCall) → ¬ (ListStops words core old new out stops.Usage)
list_not words core old new out (inl (inl e, same)) = cc
list_not words core old new out (inl (inr (inl h), same)) = h
list_not words core old new out (inl (inr (inr h), same)) = hex_not h.1.1.why h.1.1.told
list_not words core old new out (inr h) = let e = h.0 in cc

pub list_no_usage : (words : Words) (core : Core) (old new : StoreView) (out : SinkCall) (stop : CommandError)
    → ListStops words core old new out stop → status_of stop ≡ 2 → ⊥
list_no_usage words core old new out stop h e =
    list_not words core old new out (subst (ListStops words core old new out) (two_is_usage stop e) h)

pub assemble_no_usage : (words : Words) (core : Core) (old new : StoreView) (stop : CommandError) → AssembleStops words core old new stop
    → status_of stop ≡ 2 → ⊥
assemble_no_usage words core old new stop h e = (subst (AssembleStops words core old new) (two_is_usage stop e) h).cause
