-- The form of the code: straight code, its steps and its words, and items that can be placed.
use Rattle.std.specs.Prelude.{◌≡◌, ℕ, ◌+◌, ◌*◌, ◌<◌, ◌≤◌, true, List, Option, IsTrue, count_by}
use Rattle.std.specs.List.{list_all}
use Rattle.ec_asm.specs.declared.items.AsmItem.{AsmItem}
use Rattle.ec_asm.specs.declared.pieces.Location.{Location}
use Rattle.ec_asm.specs.declared.pieces.Location.TheVariants.{InRegisters, InMemory}
use Rattle.ec_asm.specs.Items.{all_straight, code_steps, code_words}
use Rattle.ec_asm.specs.Valid.{Sizes, is_offset, is_valid_item, used_label, is_label, is_placed}
use Rattle.ec_select_pointers.specs.Addresses.{pointer_bytes, address_code, field_code}
use Rattle.ec_select_pointers.specs.Accesses.{load_data_code, load_flash_code, load_table_code, load_any_code}
use Rattle.ec_select_pointers.specs.Accesses.{store_data_code}
use Rattle.ec_select_pointers.specs.AddressLaws.{IsTag}

-- ---- straight code

abbrev pub PointersAreStraight : Type 0
PointersAreStraight =
    (object offset : ℕ) (tag : Option ℕ) (p q : Location) (n : ℕ)
    → (all_straight (address_code object offset tag q) ≡ true) × (all_straight (field_code q offset) ≡ true)
    × (all_straight (load_data_code p q n) ≡ true) × (all_straight (load_flash_code p q n) ≡ true)
    × (all_straight (store_data_code p q n) ≡ true)

-- the steps that it takes at least and at most
abbrev pub Takes : (least most : ℕ) → List AsmItem → Type 0
Takes least most code = (least ≤ code_steps code) × (code_steps code ≤ most)

abbrev pub PointersTake : Type 0
PointersTake =
    (object offset : ℕ) (tag : Option ℕ) (p q : Location) (n : ℕ)
    → Takes (pointer_bytes tag) (2 * pointer_bytes tag) (address_code object offset tag q)
    × Takes 0 6 (field_code q offset) × Takes (1 + n) (2 + 2 * n) (load_data_code p q n)
    × Takes (1 + n) (2 + 2 * n) (load_flash_code p q n) × Takes (1 + n) (2 + 2 * n) (store_data_code p q n)

-- ---- words

-- the words that it has at most
abbrev pub PointersHave : Type 0
PointersHave =
    (object offset : ℕ) (tag : Option ℕ) (p q : Location) (n : ℕ)
    → (code_words (address_code object offset tag q) ≤ 3 * pointer_bytes tag) × (code_words (field_code q offset) ≤ 10)
    × (code_words (load_data_code p q n) ≤ 4 + 3 * n) × (code_words (load_flash_code p q n) ≤ 4 + 3 * n)
    × (code_words (load_any_code p q n) ≤ 9 + 6 * n) × (code_words (store_data_code p q n) ≤ 4 + 3 * n)

-- ---- items

-- the registers, which leave R30 and R31 alone, or the offsets of n bytes are in range
abbrev pub HasPlaces : Sizes → Location → ℕ → Type 0
HasPlaces sizes (InRegisters r) n = r + n ≤ 30
HasPlaces sizes (InMemory o k) n = (i : ℕ) → i < n → IsTrue (is_offset sizes o (k + i))

abbrev pub ItemsAreValid : Sizes → List AsmItem → Type 0
ItemsAreValid sizes items = IsTrue (list_all (is_valid_item sizes) items)

-- the fields of all items are in range where those of the bytes are, and the place has an offset
abbrev pub AddressesAreValid : Type 0
AddressesAreValid =
    (sizes : Sizes) (object offset : ℕ) (tag : Option ℕ) (q : Location) → HasPlaces sizes q (pointer_bytes tag)
    → IsTrue (is_offset sizes object offset) → IsTag tag
    → ItemsAreValid sizes (address_code object offset tag q) × ItemsAreValid sizes (field_code q offset)

-- a displacement from Z is below 64, and a tag stands behind the address in a pointer
abbrev pub AccessesAreValid : Type 0
AccessesAreValid =
    (sizes : Sizes) (p q : Location) (n : ℕ) → n ≤ 64 → HasPlaces sizes p 2 → HasPlaces sizes q n
    → ItemsAreValid sizes (load_data_code p q n) × ItemsAreValid sizes (load_flash_code p q n)
    × ItemsAreValid sizes (store_data_code q p n)
    × (HasPlaces sizes p 3 → ItemsAreValid sizes (load_any_code p q n))

-- ---- labels

-- items refer to no label, and are the place of none
pub record HasNoLabel (code : List AsmItem) : Type 0 where
  pub uses : (items : List AsmItem) → IsTrue (list_all (λ item. is_placed items (used_label item)) code)
  pub places : (l : ℕ) → count_by (is_label l) code ≡ 0

abbrev pub PointersHaveNoLabel : Type 0
PointersHaveNoLabel =
    (object offset : ℕ) (tag : Option ℕ) (p q : Location) (n : ℕ)
    → HasNoLabel (address_code object offset tag q) × HasNoLabel (field_code q offset)
    × HasNoLabel (load_data_code p q n) × HasNoLabel (load_flash_code p q n) × HasNoLabel (load_any_code p q n)
    × HasNoLabel (store_data_code p q n)

-- ---- a load from a place in the flash bank

-- straight code, with at least and at most so many steps, and at most so many words
abbrev pub TablesAreShort : Type 0
TablesAreShort =
    (object offset : ℕ) (q : Location) (n : ℕ)
    → (all_straight (load_table_code object offset q n) ≡ true)
    × Takes (2 + n) (2 + 2 * n) (load_table_code object offset q n)
    × (code_words (load_table_code object offset q n) ≤ 2 + 3 * n)

-- its items can be placed where the bytes can, and the place has an offset
abbrev pub TablesAreValid : Type 0
TablesAreValid =
    (sizes : Sizes) (object offset : ℕ) (q : Location) (n : ℕ) → HasPlaces sizes q n
    → IsTrue (is_offset sizes object offset) → ItemsAreValid sizes (load_table_code object offset q n)

abbrev pub TablesHaveNoLabel : Type 0
TablesHaveNoLabel = (object offset : ℕ) (q : Location) (n : ℕ) → HasNoLabel (load_table_code object offset q n)
