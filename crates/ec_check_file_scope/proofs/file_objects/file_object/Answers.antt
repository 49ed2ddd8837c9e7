use Rattle.std.proofs.lemmas.Result.{on_ok_weaker}
use Rattle.ec_grammar.specs.Views.{view_init_declarator}
use Rattle.ec_check_file_scope.specs.FileObjects.{declared_sites, with_declared}
use Rattle.ec_check_file_scope.specs.States.{plain_setting, plain_state}
use Rattle.ec_check_file_scope.proofs.After.{then}
use Rattle.ec_check_file_scope.proofs.file_objects.file_object.Goals as goal

pub returns-clause-walked : goal.returns-clause-walked
returns-clause-walked c =
    let r = plain_setting c.args.setting.now in
    let s = plain_state c.args.state.now in
    let t = view_init_declarator c.args.d.now in
    on_ok_weaker c.add_declared.result
    (λ walked. then (declared_sites r c.args.storage t s) (with_declared r c.args.storage t s) c.in_ok-o.ensures.walked walked)
    c.add_declared.ensures.walked
