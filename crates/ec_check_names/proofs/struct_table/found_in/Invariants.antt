use Rattle.std.proofs.Common.{◌≡◌, drop, map}
use Rattle.ec_core.specs.Plain.{plain_struct}
use Rattle.ec_check_names.specs.StructTables.{found_in}
use Rattle.ec_check_names.proofs.struct_table.found_in.Given as goal

abbrev pub invariant-loop-place : goal.invariant-loop-place
invariant-loop-place l =
    found_in (map plain_struct l.structs.items) (drop l.place-index l.places) (plain_struct l.new)
    ≡ found_in (map plain_struct l.structs.items) l.places (plain_struct l.new)
