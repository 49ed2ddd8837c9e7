-- Judgements of rules, each of which tells a fault at a token where its rule is broken, and the least of the faults.
use Rattle.std.specs.Prelude.{ℕ, ◌==◌, nat_lt, Bool, ◌&&◌, ◌||◌, if◌then◌else◌, Option, Some, None, List, [], ◌∷◌}
use Rattle.ec_check_operands.specs.declared.faults.Fault.{Fault}

-- whether a rule is broken, and at which token it is told
pub record Judgement : Type 0 where
  pub rule : ℕ
  pub broken : Bool
  pub at : ℕ

abbrev pub rule : ℕ → Bool → ℕ → Judgement
rule number broken at = record { rule = number; broken = broken; at = at }

-- a fault stands before another by its token, then by its rule
abbrev pub is_before : Fault → Fault → Bool
is_before f g = nat_lt f.at g.at || f.at == g.at && nat_lt f.rule g.rule

-- the one of two that stands first
abbrev pub lesser : Option Fault → Fault → Option Fault
lesser None f = Some f
lesser (Some g) f = if is_before f g then Some f else Some g

-- the least fault of one that is known and that of a judgement
abbrev pub judged : Option Fault → Judgement → Option Fault
judged known j = if j.broken then lesser known (record { at = j.at; rule = j.rule }) else known

-- the least fault of one that is known and those of judgements
abbrev pub all_judged : Option Fault → List Judgement → Option Fault
all_judged known [] = known
all_judged known (j ∷ js) = all_judged (judged known j) js
