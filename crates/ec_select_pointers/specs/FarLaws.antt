-- Laws of the code for a core with RAMPZ.
use Rattle.std.specs.Prelude.{◌≡◌, ℕ, ◌+◌, ◌*◌, ◌%◌, ◌<◌, ◌≤◌}
use Rattle.ec_space.specs.declared.Core.TheVariants.{Large}
use Rattle.ec_space.specs.declared.space.Bank.TheVariants.{Flash as FlashBank, Data as DataBank}
use Rattle.ec_avr.specs.declared.machine.Access.TheVariants.{Read}
use Rattle.ec_asm.specs.declared.pieces.Location.{Location}
use Rattle.ec_asm.specs.View.{View}
use Rattle.ec_asm.specs.Change.{Env, Own, Object, Page}
use Rattle.ec_asm.specs.Items.{HasAt, block}
use Rattle.ec_asm.specs.Pieces.{StandsFrom, Outside, value}
use Rattle.ec_asm.specs.PieceLaws.{HoldsNumbers, IsReadFirst}
use Rattle.ec_select_pointers.specs.Addresses.{data_tag}
use Rattle.ec_select_pointers.specs.AddressLaws.{HasPut}
use Rattle.ec_select_pointers.specs.AccessLaws.{each, Brings, RunBrings, LeavesZ, AreData, HasPointer, data_at, flash_at}
use Rattle.ec_select_pointers.specs.AccessLaws.{address_in}
use Rattle.ec_select_pointers.specs.Far.{load_far_code, load_far_table_code, load_any_far_code, far_address_code}
use Rattle.ec_select_pointers.specs.Far.{field_far_code}

-- ---- what it rests on

-- the core has RAMPZ, and code may write it
pub record HasPage (e : Env) : Type 0 where
  pub core : e.core ≡ Large
  pub kind : e.kind 0x5B ≡ Page

-- n bytes of the flash bank, at addresses of three bytes, all an object's
pub record AreFarFlash (e : Env) (address n : ℕ) : Type 0 where
  pub room : address + n ≤ 16777216
  pub kind : (i : ℕ) → i < n → e.table (address + i) ≡ Object

-- the address of a place is its whole address in the low two bytes
abbrev pub HasLowAddress : Env → (object offset : ℕ) → Type 0
HasLowAddress e object offset = e.address_of object offset ≡ e.far_of object offset % 65536

-- the whole address in the pointer from a
abbrev pub far_address_in : View → ℕ → ℕ
far_address_in v a = value v.at a 3

-- ---- loads. They set RAMPZ, of which `Brings` tells nothing

-- n bytes of the flash bank are brought to q
abbrev pub FarFlashIsLoaded : Type 0
FarFlashIsLoaded =
    (e : Env) (p q : Location) (n a b : ℕ) (v : View) → HasPage e → HasPointer e p 3 a q n b
    → let z = far_address_in v a in
    AreFarFlash e z n
    → Brings v b n (flash_at e z) (each (Read FlashBank) z (flash_at e z) n) (block e (load_far_code p q n) v)

-- n bytes of a place in the flash bank, whose address is known when the code is placed, are brought to q
abbrev pub FarTableIsLoaded : Type 0
FarTableIsLoaded =
    (e : Env) (q : Location) (object offset n b : ℕ) (v : View) → HasPage e → StandsFrom e q n b Own → LeavesZ b n
    → HasLowAddress e object offset
    → let z = e.far_of object offset in
    AreFarFlash e z n
    → Brings v b n (flash_at e z) (each (Read FlashBank) z (flash_at e z) n)
    (block e (load_far_table_code object offset q n) v)

-- a pointer with the tag of data: from the data bank
abbrev pub DataIsLoadedByTop : Type 0
DataIsLoadedByTop =
    (e : Env) (p q : Location) (n a b pc end : ℕ) (v : View) → HasPage e → HasPointer e p 3 a q n b
    → HasAt e (load_any_far_code p q n) pc end → v.at (a + 2) ≡ data_tag
    → let z = address_in v a in
    AreData e z n → IsReadFirst z b n
    → RunBrings e (4 + n) (6 + 2 * n) pc v end b n (data_at v z) (each (Read DataBank) z (data_at v z) n)

-- a pointer whose top bit is 0: from the flash bank, at its whole address
abbrev pub FarFlashIsLoadedByTop : Type 0
FarFlashIsLoadedByTop =
    (e : Env) (p q : Location) (n a b pc end : ℕ) (v : View) → HasPage e → HasPointer e p 3 a q n b
    → HasAt e (load_any_far_code p q n) pc end → v.at (a + 2) < 0x80
    → let z = far_address_in v a in
    AreFarFlash e z n
    → RunBrings e (4 + n) (6 + 2 * n) pc v end b n (flash_at e z) (each (Read FlashBank) z (flash_at e z) n)

-- ---- addresses

-- the whole address of a place is put to a pointer of three bytes, and the flags are kept
abbrev pub FarAddressesAreRight : Type 0
FarAddressesAreRight =
    (e : Env) (q : Location) (object offset a : ℕ) (v : View) → HasLowAddress e object offset
    → e.far_of object offset < 16777216 → StandsFrom e q 3 a Own → Outside a 3 30
    → let w = block e (far_address_code object offset q) v in
    HasPut v a 3 (e.far_of object offset) w × (w.flags ≡ v.flags)

-- the offset is added to all three bytes of a pointer, modulo 2 to the power of 24
abbrev pub FarFieldsAreRight : Type 0
FarFieldsAreRight =
    (e : Env) (q : Location) (offset a : ℕ) (v : View) → StandsFrom e q 3 a Own → Outside a 3 30 → HoldsNumbers v
    → HasPut v a 3 ((value v.at a 3 + offset) % 16777216) (block e (field_far_code q offset) v)
