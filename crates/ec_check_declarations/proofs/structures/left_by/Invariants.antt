use Rattle.std.proofs.Common.{◌≡◌, ◌-◌, drop, map, option_map, List}
use Rattle.ec_core.specs.Plain.{plain_member, plain_struct, PlainMember}
use Rattle.ec_check_declarations.specs.Structures.{size_together, left_by}
use Rattle.ec_check_declarations.proofs.structures.left_by.Given as goal

abbrev pub invariant-loop-m : goal.invariant-loop-m
invariant-loop-m l =
    let structs = map plain_struct l.structs.items in
    let rest : List PlainMember = map plain_member (drop l.m-index l.members) in
    option_map (λ n. l.left - n) (size_together structs rest) ≡ left_by (size_together structs (map plain_member l.members))
