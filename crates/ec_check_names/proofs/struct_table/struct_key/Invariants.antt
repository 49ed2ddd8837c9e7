use Rattle.std.proofs.Common.{◌≡◌, drop, map}
use Rattle.ec_core.specs.Plain.{plain_struct, plain_member}
use Rattle.ec_check_names.specs.StructTables.{struct_key, names_behind}
use Rattle.ec_check_names.proofs.struct_table.struct_key.Given as goal

abbrev pub invariant-loop-member : goal.invariant-loop-member
invariant-loop-member l =
    names_behind l.key.items (map plain_member (drop l.member-index l.def.members.items)) ≡ struct_key (plain_struct l.def)
