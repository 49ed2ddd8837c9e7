use Rattle.std.proofs.Common.{◌∙◌, ap}
use Rattle.std.specs.Prelude.{option_map}
use Rattle.std.proofs.lemmas.Result.{IfOk-weaker}
use Rattle.ec_core.specs.Plain.{plain_type}
use Rattle.ec_grammar.specs.Views.{view_initialiser}
use Rattle.ec_check_expressions.specs.Callees.{exprs_of}
use Rattle.ec_check_statements.specs.Locals.{initial_values, initial_sites}
use Rattle.ec_check_statements.proofs.Inside.{known_as_initialiser, walked_initialiser}
use Rattle.ec_check_statements.proofs.locals.initial_values.Goals as goal

pub returns : goal.returns
unfolding initial_values initial_sites
returns c =
    let i = view_initialiser c.in-Some.start.value in
    let walked = known_as_initialiser i (option_map plain_type c.args.ty.now) c.known_in-known.ensures.known c.in_ok-es.ensures in
    rw c.in-Some.is
    (IfOk-weaker c.listed_values.result _ _ (λ es listed. record {
      meant = listed ∙ ap (option_map exprs_of) walked.meant;
      noted = walked_initialiser walked;
    }) c.listed_values.ensures)
