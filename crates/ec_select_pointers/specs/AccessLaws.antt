-- Laws of the code of loads and stores through pointers.
use Rattle.std.specs.Prelude.{◌≡◌, ◌≢◌, ℕ, zero, suc, ◌+◌, ◌*◌, ◌<◌, ◌≤◌, List, [], ◌∷◌, ◌++◌, slice_index}
use Rattle.ec_space.specs.declared.space.Bank.TheVariants.{Flash as FlashBank, Data as DataBank}
use Rattle.ec_avr.specs.declared.machine.Access.{Access}
use Rattle.ec_avr.specs.declared.machine.Access.TheVariants.{Read, Write}
use Rattle.ec_asm.specs.declared.pieces.Location.{Location}
use Rattle.ec_asm.specs.View.{View}
use Rattle.ec_asm.specs.Change.{Env, Own, Object}
use Rattle.ec_asm.specs.Items.{HasAt, block}
use Rattle.ec_asm.specs.Pieces.{StandsFrom, Outside, value}
use Rattle.ec_asm.specs.PieceLaws.{HoldsNumbers, IsReadFirst}
use Rattle.ec_asm.specs.Takes.{Goes}
use Rattle.ec_select_pointers.specs.Addresses.{flash_tag, data_tag}
use Rattle.ec_select_pointers.specs.Accesses.{load_data_code, load_flash_code, load_table_code, load_any_code}
use Rattle.ec_select_pointers.specs.Accesses.{store_data_code}

-- ---- what is done

-- n accesses by rising address
abbrev pub each : (ℕ → ℕ → Access) → (address : ℕ) → (ℕ → ℕ) → ℕ → List Access
each make address byte zero = []
each make address byte (suc n) = each make address byte n ++ make (address + n) (byte n) ∷ []

-- n bytes from a are those that are given, and all else is kept but R0, R30 and R31. What was noted is told
pub record Brings (v : View) (a n : ℕ) (byte : ℕ → ℕ) (accesses : List Access) (w : View) : Type 0 where
  pub there : (j : ℕ) → j < n → w.at (a + j) ≡ byte j
  pub numbers : HoldsNumbers v → ((j : ℕ) → j < n → byte j < 256) → HoldsNumbers w
  pub same : (k : ℕ) → k ≢ 0 → k ≢ 30 → k ≢ 31 → Outside a n k → w.at k ≡ v.at k
  pub flags : w.flags ≡ v.flags
  pub inputs : w.inputs ≡ v.inputs
  pub safe : w.safe ≡ v.safe
  pub seen : w.seen ≡ v.seen ++ accesses

-- a run from one word to another that does so, of at least and at most so many steps
pub record RunBrings (e : Env) (least most pc : ℕ) (v : View) (end a n : ℕ) (byte : ℕ → ℕ) (accesses : List Access)
    : Type 0 where
  pub steps : ℕ
  pub at_least : least ≤ steps
  pub at_most : steps ≤ most
  pub last : View
  pub goes : Goes e steps pc v end last
  pub brings : Brings v a n byte accesses last

-- ---- what it rests on

-- n bytes of which none is R30 or R31
pub record LeavesZ (a n : ℕ) : Type 0 where
  pub low : Outside a n 30
  pub high : Outside a n 31

-- n bytes of the data bank, above the registers, all an object's
pub record AreData (e : Env) (address n : ℕ) : Type 0 where
  pub above : 32 ≤ address
  pub room : address + n ≤ 65536
  pub kind : (i : ℕ) → i < n → e.kind (address + i) ≡ Object

-- n bytes of the flash bank, all an object's
pub record AreFlash (e : Env) (address n : ℕ) : Type 0 where
  pub room : address + n ≤ 65536
  pub kind : (i : ℕ) → i < n → e.table (address + i) ≡ Object

-- n bytes from b, and those that a pointer of m bytes from a has, are code's own and leave Z alone
pub record HasPointer (e : Env) (p : Location) (m a : ℕ) (q : Location) (n b : ℕ) : Type 0 where
  pub pointer : StandsFrom e p m a Own
  pub number : StandsFrom e q n b Own
  pub pointer_leaves : LeavesZ a m
  pub number_leaves : LeavesZ b n

-- ---- the bytes of both banks

abbrev pub data_at : View → ℕ → ℕ → ℕ
data_at v address i = v.at (address + i)

abbrev pub flash_at : Env → ℕ → ℕ → ℕ
flash_at e address i = slice_index e.flash (address + i)

-- the address in the pointer from a
abbrev pub address_in : View → ℕ → ℕ
address_in v a = value v.at a 2

-- ---- laws

-- n bytes of the data bank are brought to q
abbrev pub DataIsLoaded : Type 0
DataIsLoaded =
    (e : Env) (p q : Location) (n a b : ℕ) (v : View) → HasPointer e p 2 a q n b
    → let z = address_in v a in
    AreData e z n → IsReadFirst z b n
    → Brings v b n (data_at v z) (each (Read DataBank) z (data_at v z) n) (block e (load_data_code p q n) v)

abbrev pub FlashIsLoaded : Type 0
FlashIsLoaded =
    (e : Env) (p q : Location) (n a b : ℕ) (v : View) → HasPointer e p 2 a q n b
    → let z = address_in v a in
    AreFlash e z n
    → Brings v b n (flash_at e z) (each (Read FlashBank) z (flash_at e z) n) (block e (load_flash_code p q n) v)

-- n bytes of a place in the flash bank, whose address is known when the code is placed, are brought to q
abbrev pub TableIsLoaded : Type 0
TableIsLoaded =
    (e : Env) (q : Location) (object offset n b : ℕ) (v : View) → StandsFrom e q n b Own → LeavesZ b n
    → let z = e.address_of object offset in
    AreFlash e z n
    → Brings v b n (flash_at e z) (each (Read FlashBank) z (flash_at e z) n) (block e (load_table_code object offset q n) v)

-- a pointer with a tag: from the bank that the tag tells
abbrev pub DataIsLoadedByTag : Type 0
DataIsLoadedByTag =
    (e : Env) (p q : Location) (n a b pc end : ℕ) (v : View) → HasPointer e p 3 a q n b
    → HasAt e (load_any_code p q n) pc end → v.at (a + 2) ≡ data_tag
    → let z = address_in v a in
    AreData e z n → IsReadFirst z b n
    → RunBrings e (3 + n) (5 + 2 * n) pc v end b n (data_at v z) (each (Read DataBank) z (data_at v z) n)

abbrev pub FlashIsLoadedByTag : Type 0
FlashIsLoadedByTag =
    (e : Env) (p q : Location) (n a b pc end : ℕ) (v : View) → HasPointer e p 3 a q n b
    → HasAt e (load_any_code p q n) pc end → v.at (a + 2) ≡ flash_tag
    → let z = address_in v a in
    AreFlash e z n
    → RunBrings e (3 + n) (5 + 2 * n) pc v end b n (flash_at e z) (each (Read FlashBank) z (flash_at e z) n)

-- the n bytes at p are brought to the data bank
abbrev pub DataIsStored : Type 0
DataIsStored =
    (e : Env) (p q : Location) (n a b : ℕ) (v : View) → HasPointer e q 2 b p n a
    → let z = address_in v b in
    AreData e z n → IsReadFirst a z n
    → Brings v z n (data_at v a) (each Write z (data_at v a) n) (block e (store_data_code p q n) v)
