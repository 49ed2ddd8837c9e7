use Rattle.std.proofs.Common.{◌∙◌, ap, ◌∷◌, []}
use Rattle.std.specs.Prelude.{option_map}
use Rattle.ec_core.specs.Plain.{plain_type}
use Rattle.ec_grammar.specs.Views.{view_assignment}
use Rattle.ec_check_names.specs.Firsts.{first_assignment}
use Rattle.ec_check_forms.specs.Nodes.{used}
use Rattle.ec_check_operands.specs.Operands.{plain_operand}
use Rattle.ec_check_forms.specs.Sites.{a_use, a_passing}
use Rattle.ec_check_expressions.specs.Expressions.{of_assignment}
use Rattle.ec_check_expressions.specs.Known.{plain_known}
use Rattle.ec_check_expressions.specs.Sites.{on}
use Rattle.ec_check_initialisers.specs.Parts.{scalar_of}
use Rattle.ec_check_initialisers.proofs.Inside.{walked_in, used_and_judged}
use Rattle.ec_check_initialisers.proofs.locals.walked_value.Goals as goal

pub returns : goal.returns
returns c =
    let k = plain_known c.args.known.now in
    let t = view_assignment c.args.a.now in
    let v = of_assignment k t in
    let to = scalar_of (option_map plain_type c.args.ty.now) in
    let first = first_assignment t in
    let walked = c.in_ok-x.ensures in
    let judged = used_and_judged c.assignment.new.faults.least c.take-x.new.faults.least c.judge_scalar.new.faults.least
    (option_map plain_operand c.in_ok-x.x) v (option_map plain_operand c.take-x.result) to c.first_assignment-at.result first
    c.take-x.ensures.faults c.judge_scalar.ensures walked.meant c.take-x.ensures.value c.first_assignment-at.ensures in
    record {
      meant = c.take-x.ensures.value ∙ ap used walked.meant;
      noted = walked_in (on (a_use v first) ∷ on (a_passing (used v) to first) ∷ []) walked judged;
    }
