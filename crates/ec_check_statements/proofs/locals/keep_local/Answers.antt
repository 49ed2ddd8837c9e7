use Rattle.std.proofs.Common.{◌∙◌, ap}
use Rattle.std.proofs.lemmas.Result.{on_ok_weaker}
use Rattle.ec_check_statements.specs.Walks.{plain_kept, before, followed}
use Rattle.ec_check_statements.proofs.locals.keep_local.Goals as goal

pub returns : goal.returns
returns c =
    let walked = c.in_ok-x.ensures in
    on_ok_weaker c.keep.result (λ put. record {
      meant = λ rest. put rest ∙ ap (λ x. before (plain_kept c.args.stmts.now) (followed x rest)) walked.meant;
      scope = walked.scope;
      noted = walked.noted;
    }) c.keep.ensures
