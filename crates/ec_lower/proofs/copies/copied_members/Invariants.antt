use Rattle.std.proofs.Common.{◌≡◌, map, take}
use Rattle.ec_core.specs.Plain.{plain_member}
use Rattle.ec_lower.proofs.copies.copied_members.Given as goal

abbrev pub invariant-loop-member : goal.invariant-loop-member
invariant-loop-member l = map plain_member l.copy.items ≡ map plain_member (take l.member-index l.members)
