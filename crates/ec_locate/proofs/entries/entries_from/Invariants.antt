use Rattle.std.proofs.Common.{◌≡◌, map, take}
use Rattle.ec_core.specs.Plain.{plain_struct, plain_object}
use Rattle.ec_locate.specs.Entries.{entry_of}
use Rattle.ec_locate.proofs.entries.entries_from.Given as goal

abbrev pub invariant-loop-obj : goal.invariant-loop-obj
invariant-loop-obj l =
    l.made.items ≡ map (λ obj. entry_of (map plain_struct l.structs.items) l.places (plain_object obj)) (take l.obj-index l.objs)
