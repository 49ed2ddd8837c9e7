use Rattle.std.proofs.Common.{◌∙◌, ap, sym}
use Rattle.ec_check_file_scope.specs.Groups.{group_of}
use Rattle.ec_check_file_scope.proofs.Grouped.{none_of}
use Rattle.ec_check_file_scope.proofs.file_table.add.Goals as goal

pub begin-requires : goal.begin-requires
begin-requires c =
    ap (λ n. group_of n c.args.groups.now.entries) (sym c.requires)
    ∙ none_of _ (sym c.contains_key.ensures ∙ c.if-contains_key.false)
