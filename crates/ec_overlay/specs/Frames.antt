-- Where the frame of each function begins: at the greatest end of any caller's frame.
use Rattle.std.specs.Prelude.{◌≡◌, ℕ, zero, suc, ◌+◌, ◌<◌, ◌≤◌, max, if◌then◌else◌, List, length, slice_index}
use Rattle.ec_check_recursion.specs.Rows.{row_at, LeadsTo}
use Rattle.ec_overlay.specs.Chains.{NothingRecurs, IsChain, total, has}

-- the greatest of n numbers, 0 where there are none
abbrev pub most_of : (ℕ → ℕ) → (n : ℕ) → ℕ
most_of h zero = 0
most_of h (suc n) = max (h n) (most_of h n)

-- the end of the frame of c, where c calls f
abbrev pub end_for : (rows : List (List ℕ)) (size : ℕ → ℕ) (begin : ℕ → ℕ) (f c : ℕ) → ℕ
end_for rows size begin f c = if has (row_at rows c) f then begin c + size c else 0

-- the greatest end of any caller's frame, 0 where nothing calls f
abbrev pub greatest_end : (rows : List (List ℕ)) (size : ℕ → ℕ) (begin : ℕ → ℕ) (f : ℕ) → ℕ
greatest_end rows size begin f = most_of (end_for rows size begin f) (length rows)

-- the same, where no chain has more than n callers
abbrev pub begin_within : (rows : List (List ℕ)) (size : ℕ → ℕ) (n f : ℕ) → ℕ
begin_within rows size zero f = 0
begin_within rows size (suc n) f = greatest_end rows size (begin_within rows size n) f

-- where nothing recurs no chain has more callers than there are functions
abbrev pub begin_of : (rows : List (List ℕ)) (size : ℕ → ℕ) (f : ℕ) → ℕ
begin_of rows size f = begin_within rows size (length rows) f

-- the bytes that all frames need
abbrev pub need_of : (rows : List (List ℕ)) (size : ℕ → ℕ) → ℕ
need_of rows size = most_of (λ f. begin_of rows size f + size f) (length rows)

-- ---- laws

-- the greatest sum of sizes over any chain of calls
pub record IsGreatestSum (rows : List (List ℕ)) (size : ℕ → ℕ) (sum : ℕ) : Type 0 where
  pub most : (fs : List ℕ) → IsChain rows fs → total size fs ≤ sum
  pub is_reached : (fs : List ℕ) × IsChain rows fs × (total size fs ≡ sum)

-- Each frame begins at the greatest end of any caller's frame. The frame of a function ends before that of any which it
-- calls, itself or through others. All end within the need, which is the greatest sum over any chain of calls
pub record AreOverlaid (rows : List (List ℕ)) (size : ℕ → ℕ) : Type 0 where
  pub begins : (f : ℕ) → begin_of rows size f ≡ greatest_end rows size (begin_of rows size) f
  pub apart : (f g : ℕ) → LeadsTo rows g f
      → begin_of rows size f + size f ≤ begin_of rows size g
  pub within : (f : ℕ) → f < length rows → begin_of rows size f + size f ≤ need_of rows size
  pub need : IsGreatestSum rows size (need_of rows size)

abbrev pub FramesAreOverlaid : Type 0
FramesAreOverlaid = (rows : List (List ℕ)) (size : ℕ → ℕ) → NothingRecurs rows → AreOverlaid rows size

-- where the frame of each function begins in an area, and the bytes of the area
pub record IsArea (rows : List (List ℕ)) (size : ℕ → ℕ) (begins : List ℕ) (need : ℕ) : Type 0 where
  pub count : length begins ≡ length rows
  pub each : (f : ℕ) → f < length rows → slice_index begins f ≡ begin_of rows size f
  pub bytes : need ≡ need_of rows size
