use Rattle.ec_check_forms.proofs.MembersMeant.{kept_members_have_meanings}
use Rattle.ec_check_forms.proofs.laws.kept_members_have_meanings.Goals as goal

pub returns : goal.returns
returns c = kept_members_have_meanings
