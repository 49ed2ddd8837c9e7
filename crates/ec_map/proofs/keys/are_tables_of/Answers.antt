use Rattle.std.proofs.Common.{◌∙◌, sym}
use Rattle.std.proofs.lemmas.List.{length-map}
use Rattle.std.proofs.lemmas.Bool.{le-leb}
use Rattle.toml.specs.View.{view}
use Rattle.ec_map.specs.Rules.{is_table_of}
use Rattle.ec_map.proofs.Arrays.{list_all-viewed}
use Rattle.ec_map.proofs.keys.are_tables_of.Goals as goal

pub returns-then-values-most : goal.returns-then-values-most
returns-then-values-most c =
    rw (length-map c.args.values.now view, le-leb _ _ c.if-values-most.true)
    (c.each_is_table_of.ensures ∙ sym (list_all-viewed (is_table_of c.args.kind) view c.args.values.now))
