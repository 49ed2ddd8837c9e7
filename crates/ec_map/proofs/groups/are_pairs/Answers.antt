use Rattle.std.proofs.Common.{◌∙◌, sym}
use Rattle.std.proofs.lemmas.List.{length-map}
use Rattle.std.proofs.lemmas.Bool.{le-leb}
use Rattle.toml.specs.View.{view}
use Rattle.ec_map.specs.Rules.{is_pair}
use Rattle.ec_map.proofs.Arrays.{list_all-viewed}
use Rattle.ec_map.proofs.groups.are_pairs.Goals as goal

pub returns-then-values-le32 : goal.returns-then-values-le32
returns-then-values-le32 c =
    rw (length-map c.args.values.now view, le-leb _ _ c.if-values-le32.true)
    (c.each_is_pair.ensures ∙ sym (list_all-viewed is_pair view c.args.values.now))
