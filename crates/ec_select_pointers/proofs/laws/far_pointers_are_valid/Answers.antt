use Rattle.ec_select_pointers.proofs.FarFormed.{far_addresses_are_valid, far_tables_are_valid, far_accesses_are_valid}
use Rattle.ec_select_pointers.proofs.FarFormed.{far_pointers_have_no_label}
use Rattle.ec_select_pointers.proofs.laws.far_pointers_are_valid.Goals as goal

pub returns : goal.returns
returns c =
    record {
      addresses = far_addresses_are_valid;
      tables = far_tables_are_valid;
      accesses = far_accesses_are_valid;
      labels = far_pointers_have_no_label;
    }
