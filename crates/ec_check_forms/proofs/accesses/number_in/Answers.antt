use Rattle.std.proofs.Common.{sym, ◌∙◌}
use Rattle.std.specs.Str.{bytes_eq}
use Rattle.ec_core.specs.Plain.{plain_member}
use Rattle.ec_check_forms.proofs.Members.{position-map}
use Rattle.ec_check_forms.proofs.accesses.number_in.Goals as goal

pub returns : goal.returns
returns c =
    c.place_in.ensures
    ∙ sym (position-map plain_member (λ m. bytes_eq m.name c.args.name.now.items) c.args.def.now.members.items)
