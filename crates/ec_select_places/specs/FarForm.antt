-- The form of the code for pointers of three bytes that have whole addresses.
use Rattle.std.specs.Prelude.{ℕ, ◌+◌, ◌*◌, ◌≤◌, Bool}
use Rattle.ec_asm.specs.declared.pieces.Location.{Location}
use Rattle.ec_asm.specs.Items.{code_words}
use Rattle.ec_asm.specs.Valid.{Sizes}
use Rattle.ec_select_order.specs.declared.relations.Relation.{Relation}
use Rattle.ec_select_places.specs.Form.{IsShort, HasPlaces, ItemsAreValid, HasNoLabel}
use Rattle.ec_select_places.specs.Far.{advance_far_code, order_far_code}

abbrev pub FarStepsAreShort : Type 0
FarStepsAreShort = (minus : Bool) (q : Location) → IsShort (advance_far_code minus q) 7 13 19

-- the code of comparisons has a branch
abbrev pub FarOrdersHaveWords : Type 0
FarOrdersHaveWords =
    (r : Relation) (left right : Location) (n : ℕ) → code_words (order_far_code r left right n) ≤ 3 + 5 * n

-- the fields of all items are in range where those of the bytes are
abbrev pub FarStepsAreValid : Type 0
FarStepsAreValid =
    (sizes : Sizes) (minus : Bool) (q : Location) → HasPlaces sizes q 3 → ItemsAreValid sizes (advance_far_code minus q)

abbrev pub FarOrdersAreValid : Type 0
FarOrdersAreValid =
    (sizes : Sizes) (r : Relation) (left right : Location) (n : ℕ) → HasPlaces sizes left n → HasPlaces sizes right n
    → ItemsAreValid sizes (order_far_code r left right n)

abbrev pub FarPlacesHaveNoLabel : Type 0
FarPlacesHaveNoLabel =
    (minus : Bool) (r : Relation) (p q : Location) (n : ℕ)
    → HasNoLabel (advance_far_code minus q) × HasNoLabel (order_far_code r p q n)
