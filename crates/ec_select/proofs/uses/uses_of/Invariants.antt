use Rattle.std.proofs.Common.{◌≡◌, ◌++◌, map, drop}
use Rattle.ec_ir.specs.Operations.{plain_ir_function, plain_ir_program}
use Rattle.ec_select.specs.Seen.{plain_use, tables_in}
use Rattle.ec_select.specs.Sharing.{program_uses, uses_from}
use Rattle.ec_select.proofs.uses.uses_of.Given as goal

abbrev pub invariant-loop-f : goal.invariant-loop-f
invariant-loop-f l =
    map plain_use l.uses.items ++ uses_from l.core (plain_ir_program l.ir) (tables_in l.tables) l.f
    (drop l.f (map plain_ir_function l.ir.funcs.items))
    ≡ program_uses l.core (plain_ir_program l.ir) (tables_in l.tables)
