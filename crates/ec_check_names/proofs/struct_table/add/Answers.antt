use Rattle.std.proofs.Common.{◌∙◌, sym}
use Rattle.ec_check_names.proofs.FoundStructs.{none_of}
use Rattle.ec_check_names.proofs.struct_table.add.Goals as goal

pub begin-requires : goal.begin-requires
begin-requires c = none_of _ (sym c.contains_key.ensures ∙ c.if-contains_key.false)
