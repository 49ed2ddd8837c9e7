use Rattle.std.proofs.Common.{◌∙◌}
use Rattle.std.specs.Prelude.{position}
use Rattle.std.specs.Str.{bytes_eq}
use Rattle.ec_core.specs.Plain.{PlainStruct, plain_struct}
use Rattle.ec_check_forms.proofs.Members.{with_one-map}
use Rattle.ec_check_forms.proofs.accesses.member_number.Goals as goal

pub returns : goal.returns
returns c =
    c.number_at.ensures
    ∙ with_one-map plain_struct (λ (s : PlainStruct). position (λ m. bytes_eq m.name c.args.name.now.items) s.members)
    c.args.structs.now.items c.args.index
