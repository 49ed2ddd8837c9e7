-- Laws of operands and rules.
use Rattle.std.specs.Prelude.{◌↔◌}
use Rattle.ec_check_operands.specs.declared.faults.Fault.{Fault}
use Rattle.ec_check_operands.specs.Laws.{IsTold}
use Rattle.ec_check_forms.specs.Constraints.{Breaks}
use Rattle.ec_check_forms.specs.Sites.{Site, rules_at}

-- what the rules of a place tell is exactly what breaks a constraint there
abbrev pub RulesAreConstraints : Type 0
RulesAreConstraints = (s : Site) (f : Fault) → IsTold (rules_at s) f ↔ Breaks s f
