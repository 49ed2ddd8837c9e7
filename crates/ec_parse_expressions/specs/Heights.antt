-- The heights that the functions of the parser are given and answer.
use Rattle.std.specs.Prelude.{ℕ, suc, ◌≡◌, ◌<◌, ◌≤◌, max}

-- A node of two parts of these heights is within the room.
abbrev pub HasRoom : ℕ → ℕ → ℕ → ℕ → ℕ → Type 0
HasRoom room first h second k = (h ≡ first) × (k ≡ second) × (suc (max h k) ≤ room) × (room ≤ 64)

-- A node whose part is of this height is within the room.
abbrev pub HasRoomAbove : ℕ → ℕ → ℕ → Type 0
HasRoomAbove room height h = (h ≡ height) × (suc h ≤ room) × (room ≤ 64)

-- It is the height of what was read, which need not be a node, and within the room.
abbrev pub IsHeight : ℕ → ℕ → ℕ → Type 0
IsHeight room height h = (h ≡ height) × (h ≤ room)

-- It is the height of a node, and within the room.
abbrev pub IsNodeHeight : ℕ → ℕ → ℕ → Type 0
IsNodeHeight room height h = (h ≡ height) × (0 < h) × (h ≤ room)

-- The same where the room is within the limit.
abbrev pub IsBehind : ℕ → ℕ → ℕ → Type 0
IsBehind room height h = (room ≤ 64) × (h ≡ height) × (0 < h) × (h ≤ room)
