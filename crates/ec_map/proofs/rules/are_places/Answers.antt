use Rattle.std.proofs.Common.{◌∙◌, sym}
use Rattle.ec_map.specs.Rules.{is_place}
use Rattle.ec_map.proofs.Arrays.{values-viewed}
use Rattle.ec_map.proofs.rules.are_places.Goals as goal

pub returns-in-Some : goal.returns-in-Some
returns-in-Some c = rw (← c.in-Some.ensures) (c.each_is_place.ensures ∙ sym (values-viewed (is_place c.args.core) c.in-Some.table.now.entries))
