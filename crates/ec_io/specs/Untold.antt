-- The name and the flag of a store say what it tells of its places.
use Rattle.std.specs.Prelude.{◌≡◌, Option, Some, None, is_some, refl}
use Rattle.std.proofs.Common.{subst}
use Rattle.ec_io.specs.Disk.{Disk, input_name}
use Rattle.ec_io.specs.Calls.{IsFlagged}

-- a store that tells nothing owes nothing
pub untold : {A B : Type 0} {x : A} → ◌≡◌ {A = Option A} None (Some x) → B
untold h = cc

some_same : {A : Type 0} (x y : A) → Some x ≡ Some y → x ≡ y
some_same x y h = cc

-- a store that always tells has the name and the flag of what it tells
pub flags_told : {disk told : Disk} → Some disk ≡ Some told → IsFlagged told (input_name disk) (is_some disk.output)
flags_told {disk} {told} h =
    subst (λ d. IsFlagged d (input_name disk) (is_some disk.output)) (some_same disk told h)
    (record { input = refl; output = refl })
