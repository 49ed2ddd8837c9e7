-- Runs whose accesses are all allowed.
use Rattle.std.proofs.Common.{◌≡◌, ℕ, ◌+◌, true, subst}
use Rattle.ec_asm.specs.Change.{Env}
use Rattle.ec_asm.specs.Run.{Status, run, is_safe}
use Rattle.ec_asm.proofs.Hoare.{run-add}
use Rattle.ec_asm.proofs.Stack.{safe_before}

-- where all accesses of a run were allowed, those of its first steps were
pub safe_earlier : (e : Env) (k d : ℕ) (st : Status) → is_safe (run e (k + d) st) ≡ true → is_safe (run e k st) ≡ true
safe_earlier e k d st h = safe_before e d (run e k st) (subst (λ x. is_safe x ≡ true) (run-add e k d st) h)
