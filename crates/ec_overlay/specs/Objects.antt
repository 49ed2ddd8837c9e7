-- Where the parameters and locals of functions stand: in their function's frame, in the program's order, without gaps.
use Rattle.std.specs.Prelude.{◌≡◌, ◌≢◌, ◌⊎◌, ℕ, zero, suc, ◌+◌, ◌<◌, ◌≤◌, ◌==◌, if◌then◌else◌}
use Rattle.std.specs.Prelude.{List, [], ◌∷◌, length}
use Rattle.std.specs.Prelude.{slice_get, Option, Some, None}
use Rattle.ec_check_recursion.specs.Rows.{LeadsTo}
use Rattle.ec_overlay.specs.Chains.{NothingRecurs}
use Rattle.ec_overlay.specs.Frames.{begin_of, need_of}

-- an object: the function that it is a parameter or a local of, if it is one, and its bytes
pub record Owned : Type 0 where
  pub owner : Option ℕ
  pub size : ℕ

-- the bytes of an object in the frame of f
abbrev pub bytes_in : (f : ℕ) → Option ℕ → (size : ℕ) → ℕ
bytes_in f None size = 0
bytes_in f (Some g) size = if g == f then size else 0

-- the bytes of the frame of f, and of its part before the object with number i
abbrev pub frame_bytes : (f : ℕ) → List Owned → ℕ
frame_bytes f [] = 0
frame_bytes f (o ∷ os) = bytes_in f o.owner o.size + frame_bytes f os

abbrev pub bytes_before : (f i : ℕ) → List Owned → ℕ
bytes_before f i [] = 0
bytes_before f zero (o ∷ os) = 0
bytes_before f (suc i) (o ∷ os) = bytes_in f o.owner o.size + bytes_before f i os

abbrev pub frame_sizes : List Owned → (f : ℕ) → ℕ
frame_sizes os f = frame_bytes f os

-- where an object of f with number i stands in the frame area
abbrev pub object_at : (rows : List (List ℕ)) → List Owned → (f i : ℕ) → ℕ
object_at rows os f i = begin_of rows (frame_sizes os) f + bytes_before f i os

-- two functions that can be active at one moment
abbrev pub AreOnChain : (rows : List (List ℕ)) (f g : ℕ) → Type 0
AreOnChain rows f g = (f ≡ g) ⊎ (LeadsTo rows g f ⊎ LeadsTo rows f g)

-- Objects of functions of one chain stand apart, and all stand within the need
pub record ObjectsAreOverlaid (rows : List (List ℕ)) (os : List Owned) : Type 0 where
  pub apart : (i j f g : ℕ) (o p : Owned) → slice_get os i ≡ Some o → o.owner ≡ Some f → slice_get os j ≡ Some p
      → p.owner ≡ Some g → i ≢ j → AreOnChain rows f g
      → (object_at rows os f i + o.size ≤ object_at rows os g j)
      ⊎ (object_at rows os g j + p.size ≤ object_at rows os f i)
  pub within : (i f : ℕ) (o : Owned) → slice_get os i ≡ Some o → o.owner ≡ Some f → f < length rows
      → object_at rows os f i + o.size ≤ need_of rows (frame_sizes os)

abbrev pub OverlaidObjectsStandApart : Type 0
OverlaidObjectsStandApart =
    (rows : List (List ℕ)) (os : List Owned) → NothingRecurs rows
    → ((i f : ℕ) (o : Owned) → slice_get os i ≡ Some o → o.owner ≡ Some f → f < length rows)
    → ObjectsAreOverlaid rows os
