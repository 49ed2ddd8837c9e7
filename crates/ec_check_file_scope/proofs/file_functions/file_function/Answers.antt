use Rattle.std.proofs.lemmas.Result.{on_ok_weaker}
use Rattle.ec_grammar.specs.Views.{view_init_declarator}
use Rattle.ec_check_file_scope.specs.FileFunctions.{declared_function_sites, after_function_declarator}
use Rattle.ec_check_file_scope.specs.FileObjects.{word_of}
use Rattle.ec_check_file_scope.specs.States.{plain_setting, plain_state}
use Rattle.ec_check_file_scope.proofs.After.{then}
use Rattle.ec_check_file_scope.proofs.file_functions.file_function.Goals as goal

pub returns-clause-walked : goal.returns-clause-walked
returns-clause-walked c =
    let r = plain_setting c.args.setting.now in
    let s = plain_state c.args.state.now in
    let t = view_init_declarator c.args.d.now in
    let n = c.args.d.now.declarator.name.name.items in
    on_ok_weaker c.add_declared-named.result
    (λ walked. then (declared_function_sites r c.args.storage t s)
    (λ f. after_function_declarator r (word_of c.args.storage) n f s) c.in_ok-f.ensures walked)
    c.add_declared-named.ensures.walked
