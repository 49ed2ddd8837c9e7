use Rattle.std.proofs.Common.{◌∙◌, sym}
use Rattle.ec_map.specs.Rules.{is_key}
use Rattle.ec_map.proofs.Arrays.{keys-viewed}
use Rattle.ec_map.proofs.keys.has_no_other.Goals as goal

pub returns-in-Some : goal.returns-in-Some
returns-in-Some c =
    rw (← c.in-Some.ensures) (c.are_keys.ensures ∙ sym (keys-viewed (is_key c.args.kind) c.in-Some.table.now.entries))
