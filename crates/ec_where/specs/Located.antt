-- The offset that a place of a source names, and what explains a fault there.
use Rattle.std.specs.Prelude.{ℕ, ◌≤◌, ◌≡◌, List, length, Option, Some, None, IsSomeAnd, ⊤, slice_get, option_map}
use Rattle.std.specs.FinMap.{get}
use Rattle.ec_io.specs.Disk.{Disk}
use Rattle.ec_grammar.specs.Tokens.{Placed}
use Rattle.ec_lex.specs.Text.{Tokens}
use Rattle.ec_where.specs.declared.place.Place.{Place}
use Rattle.ec_where.specs.declared.place.Place.TheVariants.{Byte, Token}
use Rattle.ec_where_lines.specs.declared.fault.Fault.{Fault}
use Rattle.ec_where_lines.specs.declared.fault.Fault.TheVariants as faults
use Rattle.ec_where.specs.Pointed.{pointed_text}

-- where a fault stands
abbrev pub place_of : Fault → Place
place_of (faults.Byte offset what) = Byte offset
place_of (faults.Token index what) = Token index

-- where a token begins
abbrev pub begin_of : Placed → ℕ
begin_of token = token.at

-- where the token of this index begins, if there is one
abbrev pub offset_in : List Placed → ℕ → Option ℕ
offset_in list index = option_map begin_of (slice_get list index)

-- the token of this index, of a text of at most 65,535 tokens before the end, begins at this offset
pub record BeginsAt (text : List ℕ) (index at : ℕ) : Type 0 where
  pub list : List Placed
  pub tokens : Tokens text list
  pub few : length list ≤ 65_536
  pub begins : offset_in list index ≡ Some at

-- the place is this offset
abbrev pub IsAt : List ℕ → Place → ℕ → Type 0
IsAt text (Byte offset) at = offset ≡ at
IsAt text (Token index) at = BeginsAt text index at

-- the place is this offset, which lies in the text or at its end
pub record IsIn (text : List ℕ) (place : Place) (at : ℕ) : Type 0 where
  pub names : IsAt text place at
  pub within : at ≤ length text

-- the text explains a fault at the place of the source, with this message
pub record IsExplained (name source : List ℕ) (place : Place) (message text : List ℕ) : Type 0 where
  pub at : ℕ
  pub is_in : IsIn source place at
  pub written : text ≡ pointed_text name source at message

-- the file of this name holds the source, where the store tells what its files hold
abbrev pub Holds : Option Disk → List ℕ → List ℕ → Type 0
Holds None name source = ⊤
Holds (Some disk) name source = get disk.files name ≡ Some source

-- the files are the same, where the store tells of them
abbrev pub SameFiles : Option Disk → Option Disk → Type 0
SameFiles None now = now ≡ None
SameFiles (Some disk) now = IsSomeAnd now (λ new. new.files ≡ disk.files)
