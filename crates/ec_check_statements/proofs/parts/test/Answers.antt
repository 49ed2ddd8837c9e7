use Rattle.std.proofs.Common.{◌∙◌, ap, ◌∷◌, []}
use Rattle.std.specs.Prelude.{option_map}
use Rattle.std.proofs.lemmas.Result.{IfOk-weaker}
use Rattle.ec_grammar.specs.Views.{view_expression}
use Rattle.ec_check_names.specs.Firsts.{first_expression}
use Rattle.ec_check_names.specs.Names.{plain_names}
use Rattle.ec_check_forms.specs.Nodes.{used, condition}
use Rattle.ec_check_operands.specs.Operands.{plain_operand}
use Rattle.ec_check_forms.specs.Sites.{a_use, a_condition}
use Rattle.ec_check_expressions.specs.Expressions.{of_expression}
use Rattle.ec_check_expressions.specs.Sites.{on as in_operands}
use Rattle.ec_check_declarations.specs.Scopes.{plain_context, known_in}
use Rattle.ec_check_statements.specs.Parts.{tested, test_sites}
use Rattle.ec_check_statements.proofs.Inside.{known_as, walked_in, used_and_tested}
use Rattle.ec_check_statements.proofs.parts.test.Goals as goal

pub returns : goal.returns
unfolding tested test_sites
returns c =
    let x = view_expression c.args.x.now in
    let v = of_expression (known_in (plain_context c.args.context.now) (plain_names c.args.names.now)) x in
    let first = first_expression x in
    let walked = known_as x c.known_in-known.ensures.known c.in_ok-v.ensures in
    let judged = used_and_tested c.expression.new.faults.least c.take-v.new.faults.least c.judge_condition.new.faults.least
    (option_map plain_operand c.in_ok-v.v) v (option_map plain_operand c.take-v.result) c.first_expression-first.result first c.args.at
    c.take-v.ensures.faults c.judge_condition.ensures walked.meant c.take-v.ensures.value c.first_expression-first.ensures in
    IfOk-weaker c.kept_expr.result _ _ (λ e made. record {
      meant = made ∙ c.condition.ensures ∙ ap (condition c.args.context.now.modes) (c.take-v.ensures.value ∙ ap used walked.meant);
      noted = walked_in (in_operands (a_use v first) ∷ in_operands (a_condition (used v) c.args.at) ∷ []) walked judged;
    }) c.kept_expr.ensures
