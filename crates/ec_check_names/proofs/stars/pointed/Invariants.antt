use Rattle.std.proofs.Common.{◌≡◌, List, drop, map}
use Rattle.std.specs.Prelude.{option_map}
use Rattle.ec_core.specs.Plain.{plain_type}
use Rattle.ec_check_operands.specs.Faults.{Judgement, all_judged}
use Rattle.ec_grammar.specs.Views.{view_star}
use Rattle.ec_check_names.specs.Stars.{plain_declared, behind, star_rules}
use Rattle.ec_check_names.proofs.stars.pointed.Given as goal

abbrev pub invariant-loop-star : goal.invariant-loop-star
invariant-loop-star l =
    record {
      value : behind (record { ty = option_map plain_type l.ty; qualities = l.qualities }) (map view_star (drop l.star-index l.stars))
          ≡ behind (plain_declared l.fn.declared) (map view_star l.stars);
      judged : (rest : List Judgement) → all_judged l.faults.least (star_rules (map view_star (drop l.star-index l.stars)) rest)
          ≡ all_judged l.fn.faults.least (star_rules (map view_star l.stars) rest);
    }
