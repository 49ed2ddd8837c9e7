-- Loads and stores of bytes of objects by Y, where they are near an address that Y holds.
use Rattle.std.specs.Prelude.{ℕ, ◌+◌, ◌-◌, ◌*◌, ◌/◌, ◌%◌, ◌==◌, nat_le, nat_lt, Bool, true, false, ◌&&◌, if◌then◌else◌, List, [], ◌∷◌, map}
use Rattle.std.specs.Prelude.{count_by, slice_get, Option, Some, None, option_and_then, is_some}
use Rattle.std.specs.List.{list_all}
use Rattle.ec_isa.specs.declared.instructions.Instr.TheVariants.{Ldi, LddY, StdY}
use Rattle.ec_asm.specs.Base.{is_beside, leaves_base}
use Rattle.ec_asm.specs.declared.items.AsmItem.{AsmItem}
use Rattle.ec_asm.specs.declared.items.AsmItem.TheVariants.{Plain, LoadPart, LoadObj, StoreObj}
use Rattle.ec_asm_based.specs.declared.reach.Reach.{Reach}

-- ---- what is near

-- The distance from a base to a byte of an object, where it is one of its bytes and within the displacement of LDD and
-- STD, from 0 to 63 (Microchip AVR Instruction Set Manual)
abbrev pub distance_in : (base offset : ℕ) → Reach → Option ℕ
distance_in base offset r =
    if nat_lt offset r.bytes && nat_le base (r.first + offset) && nat_lt (r.first + offset) (base + 64)
    then Some (r.first + offset - base)
    else None

abbrev pub distance_of : List Reach → (base object offset : ℕ) → Option ℕ
distance_of reaches base object offset = option_and_then (distance_in base offset) (slice_get reaches object)

-- an item that loads or stores a byte near the base
abbrev pub is_reached : List Reach → (base : ℕ) → AsmItem → Bool
is_reached reaches base (LoadObj d o k) = is_some (distance_of reaches base o k)
is_reached reaches base (StoreObj o k r) = is_some (distance_of reaches base o k)
is_reached reaches base i = false

-- ---- the items

abbrev pub load_by : (d o k : ℕ) → Option ℕ → AsmItem
load_by d o k None = LoadObj d o k
load_by d o k (Some q) = Plain (LddY d q)

abbrev pub store_by : (o k r : ℕ) → Option ℕ → AsmItem
store_by o k r None = StoreObj o k r
store_by o k r (Some q) = Plain (StdY q r)

abbrev pub based_item : List Reach → (base : ℕ) → AsmItem → AsmItem
based_item reaches base (LoadObj d o k) = load_by d o k (distance_of reaches base o k)
based_item reaches base (StoreObj o k r) = store_by o k r (distance_of reaches base o k)
based_item reaches base i = i

-- Y is set to the base, and what is near it goes by Y
abbrev pub with_base : List Reach → (base : ℕ) → List AsmItem → List AsmItem
with_base reaches base items =
    Plain (Ldi 28 (base % 256)) ∷ Plain (Ldi 29 (base / 256)) ∷ map (based_item reaches base) items

-- ---- the base

-- the base to which the first two instructions set Y, where they do
abbrev pub base_set : List AsmItem → ℕ
base_set (Plain (Ldi d low) ∷ Plain (Ldi g high) ∷ is) = if d == 28 && g == 29 then low + 256 * high else 65536
base_set is = 65536

-- how many items are near a base
abbrev pub uses : List Reach → List AsmItem → (base : ℕ) → ℕ
uses reaches items base = count_by (is_reached reaches base) items

-- the one of two bases with more, the first one where neither has
abbrev pub better_base : (count : ℕ → ℕ) → (base candidate : ℕ) → ℕ
better_base count base candidate = if nat_lt (count base) (count candidate) then candidate else base

-- of a base and the first bytes of some objects the first one with the most
abbrev pub most_used : (count : ℕ → ℕ) → (base : ℕ) → List Reach → ℕ
most_used count base [] = base
most_used count base (r ∷ rs) = most_used count (better_base count base r.first) rs

-- the first byte of an object, or none of all addresses where no item is near any
abbrev pub chosen_base : List Reach → List AsmItem → ℕ
chosen_base reaches items = most_used (uses reaches items) 65536 reaches

-- an item that leaves Y as it is
abbrev pub item_leaves_base : AsmItem → Bool
item_leaves_base (Plain i) = leaves_base i
item_leaves_base (LoadPart d o k part) = is_beside d
item_leaves_base (LoadObj d o k) = is_beside d
item_leaves_base i = true

-- it is used where it saves more than the two words that set it, and no item changes Y
abbrev pub is_based : List Reach → List AsmItem → Bool
is_based reaches items =
    nat_lt (chosen_base reaches items) 65536 && nat_lt 2 (uses reaches items (chosen_base reaches items))
    && list_all item_leaves_base items

abbrev pub based_items : List Reach → List AsmItem → List AsmItem
based_items reaches items =
    if is_based reaches items then with_base reaches (chosen_base reaches items) items else items
