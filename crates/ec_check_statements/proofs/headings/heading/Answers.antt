use Rattle.std.proofs.lemmas.Result.{IfOk-weaker}
use Rattle.ec_grammar.specs.Views.{view_optional}
use Rattle.ec_check_declarations.specs.Scopes.{Scope, plain_context}
use Rattle.ec_check_statements.specs.Headings.{heading_of, for_heading, after_heading, heading_sites}
use Rattle.ec_check_statements.specs.Parts.{optional_test, optional_test_sites, optional_evaluation, optional_evaluation_sites}
use Rattle.ec_check_statements.proofs.Walks.{then_two}
use Rattle.ec_check_statements.proofs.headings.heading.Goals as goal

pub returns : goal.returns
unfolding for_heading after_heading heading_sites
returns c =
    let k = plain_context c.args.context.now in
    let x = view_optional c.args.h.now.condition in
    let y = view_optional c.args.h.now.last in
    IfOk-weaker c.heading_of.result _ _ (λ h e. then_two (λ (s : Scope). optional_test_sites k s.names x c.args.at)
    (λ (s : Scope). optional_evaluation_sites k s.names y) (λ (s : Scope). optional_test k s.names x) (λ (s : Scope).
    optional_evaluation k s.names y) heading_of c.in_ok-first.ensures c.in_ok-condition.ensures c.in_ok-last.ensures e) c.heading_of.ensures
