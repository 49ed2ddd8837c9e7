-- The form of the code for a core with RAMPZ: straight code, its steps and its words, and items that can be placed.
use Rattle.std.specs.Prelude.{◌≡◌, ℕ, ◌+◌, ◌*◌, ◌≤◌, true, IsTrue}
use Rattle.ec_asm.specs.declared.pieces.Location.{Location}
use Rattle.ec_asm.specs.Items.{all_straight, code_words}
use Rattle.ec_asm.specs.Valid.{Sizes, is_offset}
use Rattle.ec_select_pointers.specs.Form.{Takes, HasPlaces, ItemsAreValid, HasNoLabel}
use Rattle.ec_select_pointers.specs.Far.{load_far_code, load_far_table_code, load_any_far_code, far_address_code}
use Rattle.ec_select_pointers.specs.Far.{field_far_code}

-- all is straight but the load by the top bit of a pointer
abbrev pub FarPointersAreStraight : Type 0
FarPointersAreStraight =
    (object offset : ℕ) (p q : Location) (n : ℕ)
    → (all_straight (far_address_code object offset q) ≡ true) × (all_straight (field_far_code q offset) ≡ true)
    × (all_straight (load_far_code p q n) ≡ true) × (all_straight (load_far_table_code object offset q n) ≡ true)

-- the steps that it takes at least and at most
abbrev pub FarPointersTake : Type 0
FarPointersTake =
    (object offset : ℕ) (p q : Location) (n : ℕ)
    → Takes 3 6 (far_address_code object offset q) × Takes 0 9 (field_far_code q offset)
    × Takes (2 + n) (4 + 2 * n) (load_far_code p q n) × Takes (4 + n) (4 + 2 * n) (load_far_table_code object offset q n)

-- the words that it has at most
abbrev pub FarPointersHave : Type 0
FarPointersHave =
    (object offset : ℕ) (p q : Location) (n : ℕ)
    → (code_words (far_address_code object offset q) ≤ 9) × (code_words (field_far_code q offset) ≤ 15)
    × (code_words (load_far_code p q n) ≤ 7 + 3 * n) × (code_words (load_far_table_code object offset q n) ≤ 4 + 3 * n)
    × (code_words (load_any_far_code p q n) ≤ 10 + 6 * n)

-- the fields of all items are in range where those of the bytes are, and the place has an offset
abbrev pub FarAddressesAreValid : Type 0
FarAddressesAreValid =
    (sizes : Sizes) (object offset : ℕ) (q : Location) → HasPlaces sizes q 3 → IsTrue (is_offset sizes object offset)
    → ItemsAreValid sizes (far_address_code object offset q) × ItemsAreValid sizes (field_far_code q offset)

abbrev pub FarTablesAreValid : Type 0
FarTablesAreValid =
    (sizes : Sizes) (object offset : ℕ) (q : Location) (n : ℕ) → HasPlaces sizes q n
    → IsTrue (is_offset sizes object offset) → ItemsAreValid sizes (load_far_table_code object offset q n)

-- a displacement from Z is below 64
abbrev pub FarAccessesAreValid : Type 0
FarAccessesAreValid =
    (sizes : Sizes) (p q : Location) (n : ℕ) → n ≤ 64 → HasPlaces sizes p 3 → HasPlaces sizes q n
    → ItemsAreValid sizes (load_far_code p q n) × ItemsAreValid sizes (load_any_far_code p q n)

abbrev pub FarPointersHaveNoLabel : Type 0
FarPointersHaveNoLabel =
    (object offset : ℕ) (p q : Location) (n : ℕ)
    → HasNoLabel (far_address_code object offset q) × HasNoLabel (field_far_code q offset)
    × HasNoLabel (load_far_code p q n) × HasNoLabel (load_far_table_code object offset q n)
    × HasNoLabel (load_any_far_code p q n)
