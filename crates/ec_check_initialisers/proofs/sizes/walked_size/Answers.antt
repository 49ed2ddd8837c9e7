use Rattle.std.proofs.Common.{◌≡◌, ◌∙◌, ap, ◌∷◌, []}
use Rattle.ec_check_operands.specs.Faults.{all_judged}
use Rattle.ec_grammar.specs.Views.{view_conditional}
use Rattle.ec_check_names.specs.Firsts.{first_conditional}
use Rattle.ec_check_forms.specs.Nodes.{used, use_rules}
use Rattle.ec_check_forms.specs.Sites.{a_use}
use Rattle.ec_check_expressions.specs.Expressions.{of_conditional}
use Rattle.ec_check_expressions.specs.Known.{plain_known}
use Rattle.ec_check_expressions.specs.Sites.{on}
use Rattle.ec_check_initialisers.proofs.Inside.{walked_in}
use Rattle.ec_check_initialisers.proofs.sizes.walked_size.Goals as goal

pub returns : goal.returns
returns c =
    let k = plain_known c.args.known.now in
    let t = view_conditional c.args.c.now in
    let g = c.conditional.new.faults.least in
    let walked = c.in_ok-x.ensures in
    let judged : c.take-x.new.faults.least ≡ all_judged g (use_rules (of_conditional k t) (first_conditional t)) =
    c.take-x.ensures.faults
    ∙ ap (λ x. all_judged g (use_rules x c.first_conditional.result)) walked.meant
    ∙ ap (λ at. all_judged g (use_rules (of_conditional k t) at)) c.first_conditional.ensures in
    record {
      meant = c.take-x.ensures.value ∙ ap used walked.meant;
      noted = walked_in (on (a_use (of_conditional k t) (first_conditional t)) ∷ []) walked judged;
    }
