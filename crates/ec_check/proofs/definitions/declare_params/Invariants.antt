use Rattle.std.proofs.Common.{◌≡◌, drop, map, Some, []}
use Rattle.std.specs.Prelude.{option_map}
use Rattle.ec_check_declarations.specs.Params.{plain_param}
use Rattle.ec_check_declarations.specs.Scopes.{plain_scope}
use Rattle.ec_check.specs.Definitions.{with_params, param_numbers}
use Rattle.ec_check.proofs.definitions.declare_params.Given as goal

abbrev pub invariant-loop-p : goal.invariant-loop-p
invariant-loop-p l =
    let rest = map plain_param (drop l.p-index l.params) in
    let all = map plain_param l.params in
    record {
      numbers : param_numbers l.unit l.function rest (plain_scope l.scope) (option_map (λ ns. ns.items) l.numbers)
          ≡ param_numbers l.unit l.function all (plain_scope l.fn.scope) (Some []);
      scope : with_params l.unit l.function rest (plain_scope l.scope) ≡ with_params l.unit l.function all (plain_scope l.fn.scope);
    }
