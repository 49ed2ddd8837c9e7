use Rattle.std.proofs.lemmas.Result.{IfOk-weaker}
use Rattle.ec_grammar.specs.Views.{view_init_declarator}
use Rattle.ec_check_declarations.specs.Scopes.{plain_context}
use Rattle.ec_check_statements.specs.Around.{plain_around}
use Rattle.ec_check_statements.specs.Locals.{started, started_sites, local_statement, local_sites}
use Rattle.ec_check_statements.proofs.Walks.{then}
use Rattle.ec_check_statements.proofs.locals.local.Goals as goal

pub returns : goal.returns
unfolding local_statement local_sites
returns c =
    let k = plain_context c.args.context.now in
    let d = view_init_declarator c.args.d.now in
    IfOk-weaker c.started-x.result _ _ (λ x e. then (λ o s. started_sites k d o s.names)
    (λ o s. started k (plain_around c.args.around.now) d o s.names) c.in_ok-o.ensures.walked e) c.started-x.ensures
