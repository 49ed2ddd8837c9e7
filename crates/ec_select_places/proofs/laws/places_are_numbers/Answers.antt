use Rattle.ec_select_places.proofs.Places.{places_are_numbers, offsets_are_low, embeddings_keep_places}
use Rattle.ec_select_places.proofs.laws.places_are_numbers.Goals as goal

pub returns : goal.returns
returns c = record { equal = places_are_numbers; order = offsets_are_low; embedded = embeddings_keep_places }
