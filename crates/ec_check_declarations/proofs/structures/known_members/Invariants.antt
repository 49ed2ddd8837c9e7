use Rattle.std.proofs.Common.{◌≡◌, drop, map}
use Rattle.ec_core.specs.Plain.{plain_member}
use Rattle.ec_check_declarations.specs.Structures.{plain_member_declared, known_from, known_members}
use Rattle.ec_check_declarations.proofs.structures.known_members.Given as goal

abbrev pub invariant-loop-m : goal.invariant-loop-m
invariant-loop-m l = known_from (map plain_member l.known.items) (map plain_member_declared (drop l.m-index l.members))
    ≡ known_members (map plain_member_declared l.members)
