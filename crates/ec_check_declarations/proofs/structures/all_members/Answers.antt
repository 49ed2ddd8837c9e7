use Rattle.std.proofs.Common.{map}
use Rattle.std.specs.Prelude.{option_map}
use Rattle.std.proofs.lemmas.Result.{IfOk-weaker}
use Rattle.ec_core.specs.Plain.{plain_member}
use Rattle.ec_check_declarations.specs.Structures.{known_members}
use Rattle.ec_check_declarations.proofs.Apart.{unbroken_apart, broken_apart}
use Rattle.ec_check_declarations.proofs.structures.all_members.Goals as goal

pub returns-in-None : goal.returns-in-None
returns-in-None c =
    IfOk-weaker c.known_members.result _ _ (λ ms h.
    unbroken_apart c.args.faults.now.least known_members c.in_ok-members.ensures c.new-apart.ensures
    (option_map (λ v. map plain_member v.items) ms) c.in-None.is (rw (c.as_slice.ensures) at h)) c.known_members.ensures

pub returns : goal.returns
returns c =
    broken_apart c.args.faults.now.least known_members c.in_ok-members.ensures c.new-apart.ensures c.note.new.self.least
    c.in-Some.fault c.in-Some.is c.note.ensures
