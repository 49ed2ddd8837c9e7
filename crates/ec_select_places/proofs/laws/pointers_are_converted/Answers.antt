use Rattle.ec_select_places.proofs.Embedded.{pointers_are_embedded, pointers_are_narrowed}
use Rattle.ec_select_places.proofs.laws.pointers_are_converted.Goals as goal

pub returns : goal.returns
returns c =
    record {
      embedded = pointers_are_embedded c.copies_are_right.ensures;
      narrowed = pointers_are_narrowed c.copies_are_right.ensures;
    }
