use Rattle.ec_select_pointers.proofs.Tagged.{Lower, data_is_loaded_by_tag, flash_is_loaded_by_tag}
use Rattle.ec_select_pointers.proofs.laws.loads_by_tag_are_right.Goals as goal

pub returns : goal.returns
returns c =
    let lower : Lower = record {
      copies = c.copies_are_right.ensures;
      parts = c.parts_stand.ensures;
      straight = c.straight_code_goes.ensures.goes;
      joins = c.runs_join.ensures.goes;
      skips = c.jumps_go.ensures.set;
    } in
    record { from_data = data_is_loaded_by_tag lower; from_flash = flash_is_loaded_by_tag lower }
