-- The needs that rows of bytes tell.
use Rattle.std.specs.Prelude.{◌≡◌, ℕ, ◌+◌, ◌-◌, ◌<◌, ◌≤◌, List, [], ◌∷◌, get_or, ⊤}
use Rattle.ec_ir.specs.Operations.{PlainIr, label}
use Rattle.ec_select_operations.specs.Needs.{Need}

-- a row tells how many bytes are needed of each of the first places. Of the others all are, as many as a place has
abbrev pub need_of : List ℕ → Need
need_of row place = get_or row place 16

-- a table tells in a row what is needed at each of the first labels. At the others all bytes of all places are
abbrev pub needs_of : List (List ℕ) → ℕ → Need
needs_of rows l = need_of (get_or rows l [])

-- the same is needed of each of the first places
abbrev pub AreSame : ℕ → Need → Need → Type 0
AreSame slots a b = (place : ℕ) → place < slots → a place ≡ b place

-- no more bytes are needed than a place has
abbrev pub IsBounded : Need → Type 0
IsBounded need = (place : ℕ) → need place ≤ 16

abbrev pub AreBounded : (ℕ → Need) → Type 0
AreBounded at = (l : ℕ) → IsBounded (at l)

-- at a label the table tells at least what is needed after it, of the first places
abbrev pub IsJoined : ℕ → (ℕ → Need) → PlainIr → Need → Type 0
IsJoined slots at (label l) need = (place : ℕ) → place < slots → need place ≤ at l place
IsJoined slots at i need = ⊤

-- what a table of so many places tells: no more bytes than a place has, and of other places all
pub record IsTable (slots : ℕ) (at : ℕ → Need) : Type 0 where
  pub most : AreBounded at
  pub beyond : (l place : ℕ) → slots ≤ place → at l place ≡ 16

-- the bytes by which a table's entries can grow
abbrev pub row_room : List ℕ → ℕ
row_room [] = 0
row_room (n ∷ row) = (16 - n) + row_room row

abbrev pub room : List (List ℕ) → ℕ
room [] = 0
room (row ∷ rows) = row_room row + room rows

-- of the first places no more is needed
abbrev pub NeedsNoMore : ℕ → Need → Need → Type 0
NeedsNoMore slots a b = (place : ℕ) → place < slots → a place ≤ b place

-- at the first labels no more is needed of the first places
abbrev pub TellNoMore : (labels slots : ℕ) → (ℕ → Need) → (ℕ → Need) → Type 0
TellNoMore labels slots a b = (l : ℕ) → l < labels → NeedsNoMore slots (a l) (b l)
