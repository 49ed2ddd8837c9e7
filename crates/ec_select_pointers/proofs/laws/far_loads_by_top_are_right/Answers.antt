use Rattle.ec_select_pointers.proofs.Tagged.{Lower}
use Rattle.ec_select_pointers.proofs.FarTagged.{data_is_loaded_by_top, far_flash_is_loaded_by_top}
use Rattle.ec_select_pointers.proofs.laws.far_loads_by_top_are_right.Goals as goal

pub returns : goal.returns
returns c =
    let lower : Lower = record {
      copies = c.copies_are_right.ensures;
      parts = c.parts_stand.ensures;
      straight = c.straight_code_goes.ensures.goes;
      joins = c.runs_join.ensures.goes;
      skips = c.jumps_go.ensures.set;
    } in
    record { from_data = data_is_loaded_by_top lower; from_flash = far_flash_is_loaded_by_top lower }
