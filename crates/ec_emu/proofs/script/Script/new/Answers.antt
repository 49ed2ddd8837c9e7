use Rattle.std.proofs.Common.{◌∙◌, ◌<◌, ap, arith, length}
use Rattle.ec_emu.specs.Scripted.{place_of}
use Rattle.std.specs.Prelude.{slice_get}
use Rattle.ec_emu.proofs.Places.{at_place}
use Rattle.ec_emu.proofs.script.Script.new.Goals as goal

pub invariant_of-result : goal.invariant_of-result
invariant_of-result c = record {
  placed = λ port below.
      let within : port < length c.places_of-places.result = omega (arith, below) in
      ap (slice_get c.args.lines.items) (c.places_of-places.ensures port within ∙ ap (place_of port) c.as_slice.ensures)
      ∙ at_place port c.args.lines.items;
}
