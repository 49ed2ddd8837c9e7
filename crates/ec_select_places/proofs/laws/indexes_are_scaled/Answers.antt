use Rattle.ec_select_places.proofs.Scaled.{Lower, indexes_are_scaled}
use Rattle.ec_select_places.proofs.laws.indexes_are_scaled.Goals as goal

pub returns : goal.returns
returns c =
    let lower : Lower = record {
      copies = c.copies_are_right.ensures;
      extensions = c.extensions_are_right.ensures;
      low = c.numbers_are_their_bytes.ensures.low;
    } in
    indexes_are_scaled lower
