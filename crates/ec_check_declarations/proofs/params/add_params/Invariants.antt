use Rattle.std.proofs.Common.{◌≡◌, ◌++◌, List, take, drop, map}
use Rattle.ec_grammar.specs.Views.{view_param, view_next_param}
use Rattle.ec_check_names.specs.Tags.{plain_tags}
use Rattle.ec_check_declarations.specs.NameSets.{AreParamNames}
use Rattle.ec_check_declarations.specs.Params.{plain_param, next_declared, more_params_sites}
use Rattle.ec_check_declarations.specs.Sites.{Site, told}
use Rattle.ec_check_declarations.proofs.params.add_params.Given as goal

abbrev pub invariant-loop-p : goal.invariant-loop-p
invariant-loop-p l =
    let ts = plain_tags l.tags in
    let all = map view_next_param l.more in
    let rest = map view_next_param (drop l.p-index l.more) in
    record {
      names : AreParamNames l.names.keys (view_param l.first) (map view_next_param (take l.p-index l.more));
      values : map plain_param l.params.items ++ map (next_declared ts l.structs) rest
          ≡ map plain_param l.fn.params.items ++ map (next_declared ts l.structs) all;
      noted : (others : List Site)
          → told l.faults.least (more_params_sites ts l.defined (view_param l.first) all l.p-index rest others)
          ≡ told l.fn.faults.least (more_params_sites ts l.defined (view_param l.first) all 0 all others);
    }
