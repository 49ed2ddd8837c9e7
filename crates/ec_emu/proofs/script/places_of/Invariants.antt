use Rattle.std.proofs.Common.{◌≡◌, ℕ, ◌<◌, slice_index}
use Rattle.ec_emu.specs.Scripted.{place_of}
use Rattle.ec_emu.proofs.script.places_of.Given as goal

abbrev pub invariant-loop-port : goal.invariant-loop-port
invariant-loop-port l = (k : ℕ) → k < l.port → slice_index l.place-items k ≡ place_of k l.lines
