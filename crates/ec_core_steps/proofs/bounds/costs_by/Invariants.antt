use Rattle.std.proofs.Common.{◌≡◌, ◌++◌, drop, map}
use Rattle.ec_core.specs.Plain.{plain_function, plain_program}
use Rattle.ec_core.specs.PortTable.{plain_table}
use Rattle.ec_core_steps.specs.Costs.{costs_from}
use Rattle.ec_core_steps.proofs.bounds.costs_by.Given as goal

-- what was found, with the costs of the functions that are left, is the costs of all
abbrev pub invariant-loop-place : goal.invariant-loop-place
invariant-loop-place l =
    l.costs.items ++ costs_from (plain_table l.io) l.inner (plain_program l.program) l.place
    (map plain_function (drop l.place l.program.funcs.items))
    ≡ costs_from (plain_table l.io) l.inner (plain_program l.program) 0 (map plain_function l.program.funcs.items)
