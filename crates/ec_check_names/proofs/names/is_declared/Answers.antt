use Rattle.std.proofs.Common.{◌∙◌, ap, sym}
use Rattle.std.specs.Prelude.{is_some}
use Rattle.ec_check_names.specs.Names.{plain_named}
use Rattle.ec_check_names.proofs.Tabled.{some_seen}
use Rattle.ec_check_names.proofs.names.is_declared.Goals as goal

pub returns : goal.returns
returns c = c.is_some.ensures ∙ sym (some_seen plain_named c.newest.result) ∙ ap is_some c.newest.ensures
