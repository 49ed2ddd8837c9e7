-- What a run of code does, in a known or a bounded number of steps.
use Rattle.std.specs.Prelude.{◌≡◌, ℕ, zero, suc, ◌≤◌, Bool, true, false}
use Rattle.ec_avr.specs.State.{raised}
use Rattle.ec_asm.specs.View.{View}
use Rattle.ec_asm.specs.Change.{Env, sp}
use Rattle.ec_asm.specs.Run.{Running, run}

-- from one word and view to another in exactly k steps
pub record Goes (e : Env) (k pc : ℕ) (v : View) (pc' : ℕ) (v' : View) : Type 0 where
  pub by : run e k (Running pc v) ≡ Running pc' v'

-- from one word and view to another in at least and at most so many steps
pub record Takes (e : Env) (least most pc : ℕ) (v : View) (pc' : ℕ) (v' : View) : Type 0 where
  pub steps : ℕ
  pub at_least : least ≤ steps
  pub at_most : steps ≤ most
  pub goes : Goes e steps pc v pc' v'

-- the value of a flag that is set or clear
abbrev pub if_bit : Bool → ℕ
if_bit true = 1
if_bit false = 0

-- back to the loop's start, or past its end where no turn is left
abbrev pub back_or_past : ℕ → ℕ → ℕ → ℕ
back_or_past zero pc past = past
back_or_past (suc k) pc past = pc

-- the stack pointer and the return address are as the call left them
pub record KeepsReturn (v1 v2 : View) : Type 0 where
  pub pointer : sp v2 ≡ sp v1
  pub high : v2.at (raised (sp v1)) ≡ v1.at (raised (sp v1))
  pub low : v2.at (raised (raised (sp v1))) ≡ v1.at (raised (raised (sp v1)))
