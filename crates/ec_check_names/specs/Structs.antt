-- The structs of several units (ISO/IEC 9899:1999, 6.2.7): definitions with one tag and the same members in the same
-- order are one struct.
use Rattle.std.specs.Prelude.{ℕ, ◌+◌, ◌==◌, Bool, true, false, ◌&&◌, if◌then◌else◌, length, slice_get}
use Rattle.std.specs.Prelude.{Option, Some, None, List, [], ◌∷◌}
use Rattle.std.specs.Str.{bytes_eq}
use Rattle.ec_core.specs.Operators.{same_type}
use Rattle.ec_core.specs.Plain.{PlainMember, PlainStruct}

-- a member is the other one, if there is one: name and type are the same
abbrev pub same_member : PlainMember → Option PlainMember → Bool
same_member a None = false
same_member a (Some b) = bytes_eq a.name b.name && same_type a.ty b.ty

-- members from a place on are those with the same places in another list
abbrev pub same_from : (place : ℕ) → List PlainMember → List PlainMember → Bool
same_from i [] bs = true
same_from i (a ∷ more) bs = same_member a (slice_get bs i) && same_from (i + 1) more bs

abbrev pub same_members : List PlainMember → List PlainMember → Bool
same_members xs ys = (length xs == length ys) && same_from 0 xs ys

abbrev pub same_struct : PlainStruct → PlainStruct → Bool
same_struct s t = bytes_eq s.tag t.tag && same_members s.members t.members

abbrev pub place_from : (place : ℕ) → PlainStruct → List PlainStruct → Option ℕ
place_from i s [] = None
place_from i s (t ∷ ts) = if same_struct s t then Some i else place_from (i + 1) s ts

-- the place of the first struct of a list that is the same
abbrev pub struct_place : PlainStruct → List PlainStruct → Option ℕ
struct_place s ts = place_from 0 s ts
