use Rattle.ec_select_pointers.proofs.Tagged.{Lower}
use Rattle.ec_select_pointers.proofs.TaggedInZ.{data_is_loaded_from_z, flash_is_loaded_from_z}
use Rattle.ec_select_pointers.proofs.laws.loads_from_z_by_tag_are_right.Goals as goal

pub returns : goal.returns
returns c =
    let lower : Lower = record {
      copies = c.copies_are_right.ensures;
      parts = c.parts_stand.ensures;
      straight = c.straight_code_goes.ensures.goes;
      joins = c.runs_join.ensures.goes;
      skips = c.jumps_go.ensures.set;
    } in
    record { from_data = data_is_loaded_from_z lower; from_flash = flash_is_loaded_from_z lower }
