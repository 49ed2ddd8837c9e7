-- What is told of files stays while none changes.
use Rattle.std.proofs.Common.{◌≡◌, ◌∙◌, Some, None, subst}
use Rattle.std.specs.Prelude.{Option}
use Rattle.ec_io.specs.Disk.{Files, Disk}
use Rattle.ec_commands.specs.Shown.{KeepsAll, Told}

pub kept_on : (old mid new : Option Disk) → KeepsAll old mid → KeepsAll mid new → KeepsAll old new
kept_on None mid new first second = kept_none mid new first second where
  kept_none : (mid new : Option Disk) → mid ≡ None → KeepsAll mid new → new ≡ None
  kept_none None new first second = second
  kept_none (Some mid) new first second = cc
kept_on (Some old) None new first second = absurd first
kept_on (Some old) (Some mid) None first second = absurd second
kept_on (Some old) (Some mid) (Some new) first second = second ∙ first

-- what is told before and what is told after give a third
pub told_both : (P Q R : Files → Type 0) (old mid : Option Disk) → KeepsAll old mid → Told P old → Told Q mid
    → ((files : Files) → P files → Q files → R files) → Told R old
told_both P Q R None mid kept p q both = tt
told_both P Q R (Some old) None kept p q both = absurd kept
told_both P Q R (Some old) (Some mid) kept p q both = both old.files p (subst Q kept q)

pub told_on : (P Q : Files → Type 0) (old : Option Disk) → Told P old → ((files : Files) → P files → Q files) → Told Q old
told_on P Q None p on = tt
told_on P Q (Some old) p on = on old.files p
