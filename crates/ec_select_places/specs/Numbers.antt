-- Pointers as numbers. A pointer has its offset in two bytes, the low one first. That of the unnamed space has a third
-- byte, its tag, which tells the bank. Null is 0, and no object has offset 0.
use Rattle.std.specs.Prelude.{◌≡◌, ℕ, ◌+◌, ◌*◌, ◌%◌, ◌<◌, ◌==◌, nat_lt, Bool, true, false, not, ◌&&◌, ⊤}
use Rattle.ec_select_order.specs.declared.relations.Relation.{Relation}
use Rattle.ec_select_order.specs.declared.relations.Relation.TheVariants.{Less, NotLess, Equal, NotEqual}

-- where a pointer points to: nowhere, or to an offset in the bank that the tag tells. A pointer of two bytes has the
-- tag 0
pub data Place : Type 0 where
  Null : Place
  At : ℕ → ℕ → Place

abbrev pub number_of : Place → ℕ
number_of Null = 0
number_of (At tag offset) = offset + tag * 65536

-- objects lie at offsets from 1 up
abbrev pub IsPlace : Place → Type 0
IsPlace Null = ⊤
IsPlace (At tag offset) = (0 < offset) × (offset < 65536)

abbrev pub same_place : Place → Place → Bool
same_place Null Null = true
same_place Null (At u y) = false
same_place (At t x) Null = false
same_place (At t x) (At u y) = x == y && t == u

abbrev pub offset_of : Place → ℕ
offset_of Null = 0
offset_of (At tag offset) = offset

-- pointers are ordered by their offsets, which means something within one object
abbrev pub is_before : Place → Place → Bool
is_before p q = nat_lt (offset_of p) (offset_of q)

-- whether a relation holds of two pointers
abbrev pub places_stand : Relation → Place → Place → Bool
places_stand Less p q = is_before p q
places_stand NotLess p q = not (is_before p q)
places_stand Equal p q = same_place p q
places_stand NotEqual p q = not (same_place p q)

-- pointers are equal where all their bytes are
abbrev pub PlacesAreNumbers : Type 0
PlacesAreNumbers = (p q : Place) → IsPlace p → IsPlace q → (number_of p == number_of q) ≡ same_place p q

-- and in order where their low two bytes are
abbrev pub OffsetsAreLow : Type 0
OffsetsAreLow = (p : Place) → IsPlace p → number_of p % 65536 ≡ offset_of p
