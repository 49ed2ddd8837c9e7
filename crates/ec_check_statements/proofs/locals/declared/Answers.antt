use Rattle.ec_grammar.specs.Views.{view_option, view_start, view_declarator}
use Rattle.ec_check_declarations.specs.Scopes.{plain_scope}
use Rattle.ec_check_statements.specs.Around.{plain_around}
use Rattle.ec_check_statements.specs.Locals.{local_declared, declarator_sites, local_name_rules}
use Rattle.ec_check_statements.proofs.Walks.{declared_and_named}
use Rattle.ec_check_statements.proofs.locals.declared.Goals as goal

pub returns-clause-walked : goal.returns-clause-walked
unfolding local_declared declarator_sites
returns-clause-walked c =
    let d = view_declarator c.args.d.now.declarator in
    declared_and_named c.args.said d (view_option view_start c.args.d.now.start) (local_name_rules (plain_around c.args.around.now) d
    (plain_scope c.args.scope.now).names) c.known_in-known.ensures.known c.in_ok-o.ensures.walked c.judge_name.ensures
