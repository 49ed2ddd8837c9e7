use Rattle.std.proofs.Common.{◌≡◌, drop, map}
use Rattle.ec_core.specs.Plain.{plain_type}
use Rattle.ec_check_declarations.specs.Functions.{types_from, param_types}
use Rattle.ec_check_declarations.specs.Params.{plain_param}
use Rattle.ec_check_declarations.proofs.functions.param_types.Given as goal

abbrev pub invariant-loop-p : goal.invariant-loop-p
invariant-loop-p l = types_from (map plain_type l.types.items) (map plain_param (drop l.p-index l.params))
    ≡ param_types (map plain_param l.params)
