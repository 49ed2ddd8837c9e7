use Rattle.ec_select_pointers.proofs.Short.{tables_are_short}
use Rattle.ec_select_pointers.proofs.Valid.{tables_are_valid, tables_have_no_label}
use Rattle.ec_select_pointers.proofs.laws.tables_are_formed.Goals as goal

pub returns : goal.returns
returns c = record { short = tables_are_short; valid = tables_are_valid; labels = tables_have_no_label }
