use Rattle.std.proofs.Common.{◌∙◌, ap, ◌∷◌, []}
use Rattle.std.specs.Prelude.{option_map}
use Rattle.std.proofs.lemmas.Result.{IfOk-weaker}
use Rattle.ec_grammar.specs.Views.{view_expression}
use Rattle.ec_check_names.specs.Firsts.{first_expression}
use Rattle.ec_check_names.specs.Names.{plain_names}
use Rattle.ec_check_forms.specs.Nodes.{used_part}
use Rattle.ec_check_operands.specs.Operands.{plain_operand, as_value}
use Rattle.ec_check_forms.specs.Sites.{a_part}
use Rattle.ec_check_expressions.specs.Expressions.{of_expression}
use Rattle.ec_check_expressions.specs.Sites.{on as in_operands}
use Rattle.ec_check_declarations.specs.Scopes.{plain_context, known_in}
use Rattle.ec_check_statements.specs.Parts.{evaluated, evaluation_sites}
use Rattle.ec_check_statements.proofs.Inside.{known_as, walked_in, unused_and_judged}
use Rattle.ec_check_statements.proofs.parts.evaluated.Goals as goal

pub returns : goal.returns
unfolding evaluated evaluation_sites
returns c =
    let x = view_expression c.args.x.now in
    let v = of_expression (known_in (plain_context c.args.context.now) (plain_names c.args.names.now)) x in
    let first = first_expression x in
    let walked = known_as x c.known_in-known.ensures.known c.in_ok-v.ensures in
    let judged = unused_and_judged c.expression.new.faults.least c.take_part-v.new.faults.least (option_map plain_operand c.in_ok-v.v) v
    c.first_expression-first.result first c.take_part-v.ensures.faults walked.meant c.first_expression-first.ensures in
    IfOk-weaker c.kept_expr.result _ _ (λ e made. record {
      meant = made ∙ c.unused.ensures
          ∙ ap (option_map (as_value c.args.context.now.modes)) (c.take_part-v.ensures.value ∙ ap used_part walked.meant);
      noted = walked_in (in_operands (a_part v first) ∷ []) walked judged;
    }) c.kept_expr.ensures
