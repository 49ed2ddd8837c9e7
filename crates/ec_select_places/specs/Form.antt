-- The form of the code: straight code, its steps and its words, and items that can be placed.
use Rattle.std.specs.Prelude.{◌≡◌, ℕ, ◌+◌, ◌*◌, ◌<◌, ◌≤◌, Bool, true, List, IsTrue, count_by, ◌⊎◌}
use Rattle.std.specs.List.{list_all}
use Rattle.ec_asm.specs.declared.items.AsmItem.{AsmItem}
use Rattle.ec_asm.specs.declared.pieces.Location.{Location}
use Rattle.ec_asm.specs.declared.pieces.Location.TheVariants.{InRegisters, InMemory}
use Rattle.ec_asm.specs.Items.{all_straight, code_steps, code_words}
use Rattle.ec_asm.specs.Valid.{Sizes, is_offset, is_valid_item, used_label, is_label, is_placed}
use Rattle.ec_select_order.specs.declared.relations.Relation.{Relation}
use Rattle.ec_select_places.specs.Steps.{is_in_z, scale_index_code, advance_code, order_code, compared_bytes}
use Rattle.ec_select_places.specs.Distances.{distance_code, elements_code}
use Rattle.ec_select_places.specs.Conversions.{embed_code, narrow_code}

-- ---- straight code

-- straight code with at least and at most so many steps, and at most so many words
pub record IsShort (code : List AsmItem) (least most words : ℕ) : Type 0 where
  pub straight : all_straight code ≡ true
  pub at_least : least ≤ code_steps code
  pub at_most : code_steps code ≤ most
  pub words_are : code_words code ≤ words

abbrev pub StepsAreShort : Type 0
StepsAreShort =
    (p q : Location) (signed minus : Bool) (n size : ℕ)
    → IsShort (scale_index_code p signed n size) 0 19 24 × IsShort (advance_code minus q) 2 8 14

abbrev pub ConversionsAreShort : Type 0
ConversionsAreShort =
    (to_data : Bool) (p q : Location) → IsShort (embed_code to_data q) 1 10 10 × IsShort (narrow_code p q) 2 4 8

abbrev pub DistancesAreShort : Type 0
DistancesAreShort =
    (p c q : Location) (twos inverse : ℕ)
    → IsShort (distance_code p c q twos inverse) (6 + 2 * twos) (22 + 2 * twos) (32 + 2 * twos)

abbrev pub ElementsAreShort : Type 0
ElementsAreShort = (p c q : Location) (size : ℕ) → IsShort (elements_code p c q size) 6 52 64

-- the code of comparisons has a branch
abbrev pub OrdersHaveWords : Type 0
OrdersHaveWords =
    (r : Relation) (left right : Location) (n : ℕ)
    → code_words (order_code r left right n) ≤ 3 + 5 * compared_bytes r n

-- ---- items

-- the registers, which leave R30 and R31 alone, or the offsets of n bytes are in range
abbrev pub HasPlaces : Sizes → Location → ℕ → Type 0
HasPlaces sizes (InRegisters r) n = r + n ≤ 30
HasPlaces sizes (InMemory o k) n = (i : ℕ) → i < n → IsTrue (is_offset sizes o (k + i))

abbrev pub ItemsAreValid : Sizes → List AsmItem → Type 0
ItemsAreValid sizes items = IsTrue (list_all (is_valid_item sizes) items)

-- such are those of a number that may stand from R30 on
abbrev pub HasPlacesOrZ : Sizes → Location → ℕ → Type 0
HasPlacesOrZ sizes p n = HasPlaces sizes p n ⊎ (is_in_z p ≡ true)

-- the fields of all items are in range where those of the bytes are
abbrev pub StepsAreValid : Type 0
StepsAreValid =
    (sizes : Sizes) (p q : Location) (signed minus : Bool) (n size : ℕ) → HasPlacesOrZ sizes p n → 1 ≤ n → size < 65536
    → HasPlaces sizes q 2
    → ItemsAreValid sizes (scale_index_code p signed n size) × ItemsAreValid sizes (advance_code minus q)

abbrev pub OrdersAreValid : Type 0
OrdersAreValid =
    (sizes : Sizes) (r : Relation) (left right : Location) (n : ℕ) → 2 ≤ n → HasPlaces sizes left n
    → HasPlaces sizes right n → ItemsAreValid sizes (order_code r left right n)

abbrev pub ConversionsAreValid : Type 0
ConversionsAreValid =
    (sizes : Sizes) (to_data : Bool) (p q : Location)
    → (HasPlaces sizes q 3 → ItemsAreValid sizes (embed_code to_data q))
    × (HasPlaces sizes p 2 → HasPlaces sizes q 2 → ItemsAreValid sizes (narrow_code p q))

abbrev pub DistancesAreValid : Type 0
DistancesAreValid =
    (sizes : Sizes) (p c q : Location) (twos inverse : ℕ) → HasPlaces sizes p 2 → HasPlaces sizes c 2
    → HasPlaces sizes q 2 → inverse < 65536 → ItemsAreValid sizes (distance_code p c q twos inverse)

abbrev pub ElementsAreValid : Type 0
ElementsAreValid =
    (sizes : Sizes) (p c q : Location) (size : ℕ) → HasPlaces sizes p 2 → HasPlaces sizes c 2 → HasPlaces sizes q 2
    → ItemsAreValid sizes (elements_code p c q size)

-- ---- labels

-- items refer to no label, and are the place of none
pub record HasNoLabel (code : List AsmItem) : Type 0 where
  pub uses : (items : List AsmItem) → IsTrue (list_all (λ item. is_placed items (used_label item)) code)
  pub places : (l : ℕ) → count_by (is_label l) code ≡ 0

abbrev pub PlacesHaveNoLabel : Type 0
PlacesHaveNoLabel =
    (p q : Location) (signed minus to_data : Bool) (r : Relation) (n size : ℕ)
    → HasNoLabel (scale_index_code p signed n size) × HasNoLabel (advance_code minus q)
    × HasNoLabel (order_code r p q n) × HasNoLabel (embed_code to_data q) × HasNoLabel (narrow_code p q)

abbrev pub DistancesHaveNoLabel : Type 0
DistancesHaveNoLabel = (p c q : Location) (twos inverse : ℕ) → HasNoLabel (distance_code p c q twos inverse)

abbrev pub ElementsHaveNoLabel : Type 0
ElementsHaveNoLabel = (p c q : Location) (size : ℕ) → HasNoLabel (elements_code p c q size)
