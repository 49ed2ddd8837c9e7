use Rattle.std.proofs.Common.{◌∙◌, ap, ◌∷◌}
use Rattle.std.specs.Prelude.{option_map}
use Rattle.std.specs.Option.{option_copied}
use Rattle.std.proofs.lemmas.Result.{IfOk-weaker}
use Rattle.ec_core.specs.Plain.{plain_type}
use Rattle.ec_check_operands.specs.Faults.{rule}
use Rattle.ec_grammar.specs.Views.{view_expression}
use Rattle.ec_check_names.specs.Names.{plain_names}
use Rattle.ec_check_operands.specs.Operands.{plain_operand}
use Rattle.ec_check_operands.specs.Passing.{passed, passing_rules}
use Rattle.ec_check_expressions.specs.Expressions.{of_expression}
use Rattle.ec_check_declarations.specs.Scopes.{plain_context, known_in}
use Rattle.ec_check_statements.specs.Results.{returned_type, has_no_result}
use Rattle.ec_check_statements.specs.Parts.{return_sites}
use Rattle.ec_check_statements.proofs.Inside.{known_as, walked_and_judged, returned_and_judged}
use Rattle.ec_check_statements.proofs.parts.returned_value.Goals as goal

pub returns : goal.returns
unfolding return_sites
returns c =
    let x = view_expression c.args.x.now in
    let ty = option_map plain_type c.args.around.now.result.now in
    let v = of_expression (known_in (plain_context c.args.context.now) (plain_names c.args.names.now)) x in
    let walked = known_as x c.known_in-known.ensures.known c.in_ok-v.ensures in
    let judged = returned_and_judged c.expression.new.faults.least c.judge_value.new.faults.least c.judge_conversion.new.faults.least
    (option_map plain_operand c.in_ok-v.v) v (option_map plain_type (option_copied c.returned_type-to.result)) ty c.args.at
    c.judge_value.ensures c.judge_conversion.ensures walked.meant c.returned_type-to.ensures in
    IfOk-weaker c.pass.result _ _ (λ e made. record {
      meant =
          made
          ∙ ap (λ to. passed c.args.context.now.modes to (option_map plain_operand c.in_ok-v.v)) c.returned_type-to.ensures
          ∙ ap (passed c.args.context.now.modes (returned_type ty)) walked.meant;
      noted = walked_and_judged (rule 39 (has_no_result ty) c.args.at ∷ passing_rules v (returned_type ty) c.args.at) walked judged;
    }) c.pass.ensures
