use Rattle.std.proofs.lemmas.Result.{on_ok_weaker}
use Rattle.ec_grammar.specs.Views.{view_register_object}
use Rattle.ec_check_file_scope.specs.FileObjects.{register_name_sites, with_register}
use Rattle.ec_check_file_scope.specs.States.{plain_setting, plain_state}
use Rattle.ec_check_file_scope.proofs.After.{then}
use Rattle.ec_check_file_scope.proofs.file_objects.file_register.Goals as goal

pub returns-clause-walked : goal.returns-clause-walked
returns-clause-walked c =
    let r = plain_setting c.args.setting.now in
    let s = plain_state c.args.state.now in
    let t = view_register_object c.args.r.now in
    on_ok_weaker c.add_register.result
    (λ walked. then (register_name_sites r t s) (with_register r t s) c.in_ok-o.ensures.walked walked) c.add_register.ensures.walked
