-- What is accepted is what was read.
use Rattle.std.proofs.Common.{◌≡◌, ℕ, List, Bool, Some, None, subst}
use Rattle.std.specs.Prelude.{Option}
use Rattle.std.specs.FinMap.{get}
use Rattle.ec_space.specs.declared.Core.{Core}
use Rattle.ec_io.specs.Disk.{Disk}
use Rattle.ec_list.specs.Lists.{Lists}
use Rattle.ec_commands.specs.Shown.{Told}
use Rattle.ec_commands.specs.Words.{Words, listing_name}
use Rattle.ec_commands_list.specs.Assemblies.{CanAssemble}

one_text : {A : Type 0} (found : Option A) (x y : A) → found ≡ Some x → found ≡ Some y → x ≡ y
one_text found x y a b = cc

-- where the listing file lists an image, what was read of it lists that image
pub lists_what_was_read : (words : Words) (core : Core) (disk : Option Disk) (text : List ℕ) → CanAssemble words core disk
    → Told (λ files. get files (listing_name words) ≡ Some text) disk
    → (bytes : List ℕ) × ((written : List Bool) × Lists core text bytes written)
lists_what_was_read words core None text accepted there = absurd accepted
lists_what_was_read words core (Some disk) text accepted there =
    let listed = accepted.1.1 in (
      accepted.0,
      (
        accepted.1.0,
        subst (λ t. Lists core t accepted.0 accepted.1.0)
            (one_text (get disk.files (listing_name words)) listed.text text listed.is_asm.there there) listed.lists,
      ),
    )
