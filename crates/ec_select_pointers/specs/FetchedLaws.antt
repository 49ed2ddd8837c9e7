-- Laws of the code for a pointer that stays in Z.
use Rattle.std.specs.Prelude.{◌≡◌, ◌≢◌, ℕ, ◌+◌, ◌*◌, ◌%◌, ◌<◌, ◌≤◌, true, List, [], ◌++◌, IsTrue}
use Rattle.ec_space.specs.declared.space.Bank.TheVariants.{Flash as FlashBank, Data as DataBank}
use Rattle.ec_avr.specs.declared.machine.Access.{Access}
use Rattle.ec_avr.specs.declared.machine.Access.TheVariants.{Read, Write}
use Rattle.ec_asm.specs.declared.pieces.Location.{Location}
use Rattle.ec_asm.specs.declared.pieces.Location.TheVariants.{InRegisters, InMemory}
use Rattle.ec_asm.specs.View.{View, Flags, pair}
use Rattle.ec_asm.specs.Change.{Env, Kind, Own}
use Rattle.ec_asm.specs.Items.{HasAt, block, all_straight, code_words}
use Rattle.ec_asm.specs.Pieces.{StandsFrom, copy_log, is_held}
use Rattle.ec_asm.specs.PieceLaws.{HoldsNumbers, IsReadFirst}
use Rattle.ec_asm.specs.Valid.{Sizes, is_offset}
use Rattle.ec_asm.specs.Takes.{Goes}
use Rattle.ec_select_pointers.specs.Addresses.{flash_tag, data_tag}
use Rattle.ec_select_pointers.specs.Accesses.{point_code}
use Rattle.ec_select_pointers.specs.AccessLaws.{each, Brings, LeavesZ, AreData, AreFlash, data_at, flash_at, address_in}
use Rattle.ec_select_pointers.specs.Fetched.{fetch_code, load_member_code, load_further_code, load_tagged_code}
use Rattle.ec_select_pointers.specs.Fetched.{store_member_code}
use Rattle.ec_select_pointers.specs.Form.{Takes, HasPlaces, ItemsAreValid, HasNoLabel}

-- ---- what is done

-- Z has the address in the pointer from a, and R0 its third byte if that is the last one. All else is kept. What was noted is
-- told
pub record IsFetched (v : View) (a n : ℕ) (accesses : List Access) (w : View) : Type 0 where
  pub pointer : pair w.at 30 ≡ address_in v a
  pub third : n ≡ 3 → w.at 0 ≡ v.at (a + 2)
  pub numbers : HoldsNumbers v → HoldsNumbers w
  pub same : (k : ℕ) → k ≢ 0 → k ≢ 30 → k ≢ 31 → w.at k ≡ v.at k
  pub flags : w.flags ≡ v.flags
  pub inputs : w.inputs ≡ v.inputs
  pub safe : w.safe ≡ v.safe
  pub seen : w.seen ≡ v.seen ++ accesses

-- a pointer of n bytes, each of which is read once
abbrev pub PointersAreFetched : Type 0
PointersAreFetched =
    (e : Env) (p : Location) (n a : ℕ) (kind : Kind) (v : View) → 2 ≤ n → StandsFrom e p n a kind → is_held kind ≡ true
    → LeavesZ a n → IsFetched v a n (copy_log kind Own a 30 v.at n) (block e (fetch_code p n) v)

-- a pointer that is code's own, and of which nothing is noted
abbrev pub ZIsSet : Type 0
ZIsSet =
    (e : Env) (p : Location) (n a : ℕ) (v : View) → 2 ≤ n → StandsFrom e p n a Own → LeavesZ a n
    → IsFetched v a 2 [] (block e (point_code p) v)

-- n bytes of the data bank are brought to q, where Z and a displacement are the address of the first one
abbrev pub MembersAreLoaded : Type 0
MembersAreLoaded =
    (e : Env) (q : Location) (displacement n b z : ℕ) (v : View) → StandsFrom e q n b Own → LeavesZ b n
    → (pair v.at 30 + displacement) % 65536 ≡ z → AreData e z n → IsReadFirst z b n
    → Brings v b n (data_at v z) (each (Read DataBank) z (data_at v z) n) (block e (load_member_code displacement q n) v)

-- the same view with other flags
abbrev pub flagged : View → Flags → View
flagged v f = record v { flags = f }

-- a run from one word to another that brings bytes and may change the flags, of at least and at most so many steps
pub record RunFreely (e : Env) (least most pc : ℕ) (v : View) (end a n : ℕ) (byte : ℕ → ℕ) (accesses : List Access)
    : Type 0 where
  pub steps : ℕ
  pub at_least : least ≤ steps
  pub at_most : steps ≤ most
  pub last : View
  pub goes : Goes e steps pc v end last
  pub brings : Brings (flagged v last.flags) a n byte accesses last

-- n bytes of the flash bank are brought to q, where Z and an offset are the address of the first one
abbrev pub FurtherIsLoaded : Type 0
FurtherIsLoaded =
    (e : Env) (q : Location) (offset n b z : ℕ) (v : View) → StandsFrom e q n b Own → LeavesZ b n → HoldsNumbers v
    → (pair v.at 30 + offset) % 65536 ≡ z → AreFlash e z n
    → let w = block e (load_further_code offset q n) v in
    Brings (flagged v w.flags) b n (flash_at e z) (each (Read FlashBank) z (flash_at e z) n) w

-- or n bytes of the bank that the tag in R0 tells
abbrev pub DataIsLoadedFromZ : Type 0
DataIsLoadedFromZ =
    (e : Env) (q : Location) (offset n b z pc end : ℕ) (v : View) → StandsFrom e q n b Own → LeavesZ b n
    → HasAt e (load_tagged_code offset q n) pc end → v.at 0 ≡ data_tag
    → (pair v.at 30 + offset) % 65536 ≡ z → AreData e z n → IsReadFirst z b n
    → RunFreely e (2 + n) (3 + 2 * n) pc v end b n (data_at v z) (each (Read DataBank) z (data_at v z) n)

abbrev pub FlashIsLoadedFromZ : Type 0
FlashIsLoadedFromZ =
    (e : Env) (q : Location) (offset n b z pc end : ℕ) (v : View) → StandsFrom e q n b Own → LeavesZ b n
    → HasAt e (load_tagged_code offset q n) pc end → v.at 0 ≡ flash_tag → HoldsNumbers v
    → (pair v.at 30 + offset) % 65536 ≡ z → AreFlash e z n
    → RunFreely e (2 + n) (3 + 2 * n) pc v end b n (flash_at e z) (each (Read FlashBank) z (flash_at e z) n)

-- and Z stays as it was
abbrev pub MembersKeepZ : Type 0
MembersKeepZ =
    (e : Env) (q : Location) (displacement n b z : ℕ) (v : View) → StandsFrom e q n b Own → LeavesZ b n
    → (pair v.at 30 + displacement) % 65536 ≡ z → AreData e z n → IsReadFirst z b n
    → pair (block e (load_member_code displacement q n) v).at 30 ≡ pair v.at 30

-- the n bytes at q are brought to the data bank, where Z and a displacement are the address of the first one
abbrev pub MembersAreStored : Type 0
MembersAreStored =
    (e : Env) (q : Location) (displacement n a z : ℕ) (v : View) → StandsFrom e q n a Own → LeavesZ a n
    → (pair v.at 30 + displacement) % 65536 ≡ z → AreData e z n → IsReadFirst a z n
    → Brings v z n (data_at v a) (each Write z (data_at v a) n) (block e (store_member_code displacement q n) v)

-- ---- the form of the code

-- it is straight, with at least and at most so many steps, and at most so many words
abbrev pub FetchesAreShort : Type 0
FetchesAreShort =
    (p : Location) (n : ℕ)
    → (all_straight (fetch_code p n) ≡ true) × Takes n (2 * n) (fetch_code p n) × (code_words (fetch_code p n) ≤ 2 * n)

abbrev pub MembersAreShort : Type 0
MembersAreShort =
    (displacement : ℕ) (q : Location) (n : ℕ)
    → (all_straight (load_member_code displacement q n) ≡ true) × Takes n (2 * n) (load_member_code displacement q n)
    × (code_words (load_member_code displacement q n) ≤ 3 * n)

abbrev pub StoresAreShort : Type 0
StoresAreShort =
    (displacement : ℕ) (q : Location) (n : ℕ)
    → (all_straight (store_member_code displacement q n) ≡ true) × Takes n (2 * n) (store_member_code displacement q n)
    × (code_words (store_member_code displacement q n) ≤ 3 * n)

abbrev pub PointIsShort : Type 0
PointIsShort =
    (p : Location) → (all_straight (point_code p) ≡ true) × Takes 1 2 (point_code p) × (code_words (point_code p) ≤ 4)

abbrev pub FurtherIsShort : Type 0
FurtherIsShort =
    (offset : ℕ) (q : Location) (n : ℕ)
    → (all_straight (load_further_code offset q n) ≡ true) × Takes n (1 + 2 * n) (load_further_code offset q n)
    × (code_words (load_further_code offset q n) ≤ 1 + 3 * n)

-- with a test of the tag it is not straight
abbrev pub TaggedHas : Type 0
TaggedHas = (offset : ℕ) (q : Location) (n : ℕ) → code_words (load_tagged_code offset q n) ≤ 4 + 6 * n

-- the register or the offset of a byte is in range
abbrev pub IsInRange : Sizes → Location → ℕ → Type 0
IsInRange sizes (InRegisters r) i = r + i < 32
IsInRange sizes (InMemory o k) i = IsTrue (is_offset sizes o (k + i))

-- its items can be placed where the bytes can, and a displacement from Z is below 64
abbrev pub FetchesAreValid : Type 0
FetchesAreValid =
    (sizes : Sizes) (p : Location) (n : ℕ) → ((i : ℕ) → i < n → IsInRange sizes p i) → ItemsAreValid sizes (fetch_code p n)

abbrev pub PointIsValid : Type 0
PointIsValid = (sizes : Sizes) (p : Location) → HasPlaces sizes p 2 → ItemsAreValid sizes (point_code p)

abbrev pub MembersAreValid : Type 0
MembersAreValid =
    (sizes : Sizes) (displacement : ℕ) (q : Location) (n : ℕ) → displacement + n ≤ 64 → HasPlaces sizes q n
    → ItemsAreValid sizes (load_member_code displacement q n)

abbrev pub FurtherIsValid : Type 0
FurtherIsValid =
    (sizes : Sizes) (offset : ℕ) (q : Location) (n : ℕ) → 1 ≤ n → offset + n ≤ 64 → HasPlaces sizes q n
    → ItemsAreValid sizes (load_further_code offset q n) × ItemsAreValid sizes (load_tagged_code offset q n)

abbrev pub StoresAreValid : Type 0
StoresAreValid =
    (sizes : Sizes) (displacement : ℕ) (q : Location) (n : ℕ) → displacement + n ≤ 64 → HasPlaces sizes q n
    → ItemsAreValid sizes (store_member_code displacement q n)

-- and they have no labels
abbrev pub FetchesHaveNoLabel : Type 0
FetchesHaveNoLabel =
    (displacement : ℕ) (p q : Location) (n : ℕ)
    → HasNoLabel (fetch_code p n) × HasNoLabel (point_code p) × HasNoLabel (load_member_code displacement q n)
    × HasNoLabel (load_further_code displacement q n) × HasNoLabel (load_tagged_code displacement q n)
    × HasNoLabel (store_member_code displacement q n)
