use Rattle.std.proofs.Common.{◌≡◌, ◌∙◌, ap, ◌∷◌, []}
use Rattle.std.specs.Prelude.{option_map}
use Rattle.ec_core.specs.Plain.{plain_type, plain_expr}
use Rattle.ec_grammar.specs.Views.{view_assignment}
use Rattle.ec_check_names.specs.Firsts.{first_assignment}
use Rattle.ec_check_forms.specs.Nodes.{used}
use Rattle.ec_check_operands.specs.Operands.{plain_operand, with_one}
use Rattle.ec_check_operands.specs.Passing.{passed}
use Rattle.ec_check_forms.specs.Sites.{a_use, a_passing}
use Rattle.ec_check_expressions.specs.Expressions.{of_assignment, assignment_sites}
use Rattle.ec_check_expressions.specs.Known.{plain_known}
use Rattle.ec_check_expressions.specs.Sites.{on}
use Rattle.ec_check_initialisers.specs.Items.{leaf_of, becomes_null}
use Rattle.ec_check_initialisers.specs.Parts.{scalar_of}
use Rattle.ec_check_initialisers.specs.Sites.{sites_in}
use Rattle.ec_check_initialisers.specs.Statics.{item_is_null, item_value}
use Rattle.ec_check_initialisers.proofs.Inside.{told_leaf}
use Rattle.ec_check_initialisers.proofs.items.walked_leaf.Goals as goal

pub returns : goal.returns
returns c =
    let k = plain_known c.args.known.now in
    let u = view_assignment c.args.a.now in
    let ty = option_map plain_type c.args.ty.now in
    let v = used (of_assignment k u) in
    let x = option_map plain_operand c.in_ok-x.x in
    let first = first_assignment u in
    let walked = c.in_ok-x.ensures in
    let null : c.becomes_null-null.result ≡ item_is_null k ty u =
    c.becomes_null-null.ensures ∙ ap (λ s. becomes_null s x) c.scalar_of.ensures ∙ ap (becomes_null (scalar_of ty)) walked.meant in
    let value : option_map plain_expr c.in_ok-e.e ≡ item_value k ty u =
    c.in_ok-e.ensures ∙ ap (λ s. passed k.modes s x) c.scalar_of-2.ensures ∙ ap (passed k.modes (scalar_of ty)) walked.meant in
    record {
      meant = c.judged_leaf-leaf.ensures.value
          ∙ ap (λ e. with_one e (leaf_of c.args.form c.becomes_null-null.result)) value
          ∙ ap (λ z. with_one (item_value k ty u) (leaf_of c.args.form z)) null;
      noted = told_leaf c.args.faults.now.least c.walked_value.new.faults.least c.judge_bare.new.faults.least
          c.judged_leaf-leaf.new.faults.least
          (sites_in (assignment_sites k u (on (a_use (of_assignment k u) first) ∷ on (a_passing v (scalar_of ty) first) ∷ []))) ty
          c.args.form
          c.becomes_null-null.result (item_is_null k ty u) (option_map plain_expr c.in_ok-e.e)
          (item_value k ty u) c.first_assignment-at.result first
          walked.noted c.judge_bare.ensures c.judged_leaf-leaf.ensures.faults null value c.first_assignment-at.ensures;
    }
