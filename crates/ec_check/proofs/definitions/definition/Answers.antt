use Rattle.std.proofs.lemmas.Result.{on_ok_weaker}
use Rattle.ec_grammar.specs.Views.{view_function}
use Rattle.ec_check_file_scope.specs.States.{plain_setting, plain_state}
use Rattle.ec_check.specs.Definitions.{definition_body_sites, with_definition}
use Rattle.ec_check.proofs.After.{then}
use Rattle.ec_check.proofs.definitions.definition.Goals as goal

pub returns-clause-walked : goal.returns-clause-walked
returns-clause-walked c =
    let r = plain_setting c.args.setting.now in
    let s = plain_state c.args.state.now in
    let t = view_function c.args.f.now in
    on_ok_weaker c.add_definition.result
    (λ walked. then (definition_body_sites r t s) (with_definition r t s) c.in_ok-d.ensures walked) c.add_definition.ensures.walked
