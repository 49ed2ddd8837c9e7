use Rattle.std.proofs.Common.{Some, ap, sym}
use Rattle.ec_map.proofs.Arrays.{list_of-view}
use Rattle.ec_map.proofs.values.array_of.Goals as goal

pub returns-in-Some : goal.returns-in-Some
returns-in-Some c = rw (← c.in-Some.ensures, c.as_slice.ensures.value) (ap Some (sym (list_of-view _)))
