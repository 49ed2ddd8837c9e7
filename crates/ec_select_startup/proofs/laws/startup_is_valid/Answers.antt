use Rattle.ec_select_startup.proofs.ValidItems.{startup_is_valid, startup_uses_main, startup_places_no_label}
use Rattle.ec_select_startup.proofs.laws.startup_is_valid.Goals as goal

pub returns : goal.returns
returns c = record { items = startup_is_valid; used = startup_uses_main; placed = startup_places_no_label }
