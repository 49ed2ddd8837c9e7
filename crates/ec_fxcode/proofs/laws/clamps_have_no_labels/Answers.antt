use Rattle.ec_fxcode.proofs.ValidItems.{clamps_use_no_label, clamps_place_no_label}
use Rattle.ec_fxcode.proofs.laws.clamps_have_no_labels.Goals as goal

pub returns : goal.returns
returns c = record { uses = clamps_use_no_label; places = clamps_place_no_label }
