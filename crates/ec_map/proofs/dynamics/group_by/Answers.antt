use Rattle.std.proofs.Common.{◌∙◌, sym}
use Rattle.toml.specs.View.{view}
use Rattle.ec_map.proofs.Arrays.{position-viewed}
use Rattle.ec_map.proofs.dynamics.group_by.Goals as goal

pub returns-in-Some-clause-value : goal.returns-in-Some-clause-value
returns-in-Some-clause-value c =
    rw (← c.in-Some.ensures) (c.group_named.ensures.value ∙ sym (position-viewed _ view c.args.groups.now))
