use Rattle.std.proofs.Common.{◌≡◌, List, drop, map}
use Rattle.ec_check_operands.specs.Faults.{Judgement, all_judged}
use Rattle.ec_grammar.specs.Views.{view_spec}
use Rattle.ec_check_names.specs.Specifiers.{more_spec_rules}
use Rattle.ec_check_names.specs.Tags.{plain_tags}
use Rattle.ec_check_names.proofs.specifiers.judge_more.Given as goal

abbrev pub invariant-loop-spec : goal.invariant-loop-spec
invariant-loop-spec l =
    record {
      judged : (rest : List Judgement)
          → all_judged l.faults.least (more_spec_rules (plain_tags l.tags) l.said l.konst (map view_spec (drop l.spec-index l.specs)) rest)
          ≡ all_judged l.fn.faults.least (more_spec_rules (plain_tags l.tags) l.fn.before l.konst (map view_spec l.specs) rest);
    }
