use Rattle.std.proofs.Common.{◌∙◌, ◌+◌, ap, sym, drop, map}
use Rattle.std.proofs.Math.ListN.{drop_of_length-le}
use Rattle.ec_check_operands.specs.Faults.{all_judged}
use Rattle.ec_grammar.specs.Views.{view_spec}
use Rattle.ec_check_names.specs.Specifiers.{more_spec_rules, with_spec_quality}
use Rattle.ec_check_names.specs.Tags.{plain_tags}
use Rattle.ec_check_names.proofs.Walks.{here}
use Rattle.ec_check_names.proofs.specifiers.judge_more.Goals as goal

pub loop-spec-preserved : goal.loop-spec-preserved
loop-spec-preserved c =
    let tags = plain_tags c.args.tags.now in
    let said = c.loop-spec.said in
    let konst = c.args.konst in
    let more = map view_spec (drop (c.loop-spec.spec-index + 1) c.args.specs.now) in
    record {
      judged =
          λ rest.
          ap (λ q. all_judged c.judge_spec.new.faults.least (more_spec_rules tags q konst more rest)) c.with_spec_quality-said.ensures
          ∙ (c.judge_spec.ensures.judged (more_spec_rules tags (with_spec_quality said (view_spec c.spec-item.result)) konst more rest)
          ∙ (ap (λ xs. all_judged c.loop-spec.faults.least (more_spec_rules tags said konst (map view_spec xs) rest))
          (sym (here c.args.specs.now c.loop-spec.spec-index c.spec-item.result c.loop-spec-test.true c.spec-item.is))
          ∙ c.loop-spec.invariant.judged rest));
    }

pub returns : goal.returns
returns c =
    record {
      judged =
          λ rest.
          ap (λ xs. all_judged c.loop-spec.faults.least (more_spec_rules (plain_tags c.args.tags.now) c.loop-spec.said c.args.konst
          (map view_spec xs) rest)) (sym (drop_of_length-le c.args.specs.now c.loop-spec-test.false))
          ∙ c.loop-spec.invariant.judged rest;
    }
