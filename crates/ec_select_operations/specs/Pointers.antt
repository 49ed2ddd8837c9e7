-- Pointers as bytes: the address of a place, the low byte first, and in a pointer of three bytes the tag of the bank
-- from the third byte on. Null is 0.
use Rattle.std.specs.Prelude.{◌≡◌, ◌⊎◌, ℕ, ◌+◌, ◌*◌, ◌%◌, ◌≤◌, ◌==◌, Bool, true, false, if◌then◌else◌}
use Rattle.std.specs.Prelude.{List, Option, Some, None}
use Rattle.std.specs.Prelude.{option_map, unwrap_or, slice_get}
use Rattle.std.specs.List.{list_any}
use Rattle.ec_space.specs.declared.space.Bank.{Bank}
use Rattle.ec_space.specs.declared.space.Bank.TheVariants.{Flash as FlashBank, Data as DataBank}
use Rattle.ec_space.specs.declared.space.Home.{Home}
use Rattle.ec_space.specs.declared.space.Home.TheVariants.{Flash as FlashHome, Far as FarHome, Data as DataHome}
use Rattle.ec_space.specs.declared.space.SpaceId.TheVariants.{Data}
use Rattle.ec_space.specs.Spaces.{bank_of}
use Rattle.ec_core.specs.declared.values.ObjectPointer.{ObjectPointer}
use Rattle.ec_core.specs.Layout.{size_of_type}
use Rattle.ec_core.specs.Plain.{PlainType, pointer, PlainObject, PlainProgram}
use Rattle.ec_core.specs.Valid.{IsAddressable}
use Rattle.ec_ir.specs.Valid.{HasPointersOf}
use Rattle.ec_select_pointers.specs.Addresses.{flash_tag, data_tag}

-- ---- types

abbrev pub is_pointer : PlainType → Bool
is_pointer (pointer space const to) = true
is_pointer ty = false

-- a pointer into the data bank alone
abbrev pub is_into_data : PlainType → Bool
is_into_data (pointer Data const to) = true
is_into_data ty = false

-- a pointer has two bytes, or three
abbrev pub IsPointerSize : ℕ → Type 0
IsPointerSize bytes = (bytes ≡ 2) ⊎ (bytes ≡ 3)

-- ---- numbers

-- the home of an object
abbrev pub kept_in : PlainProgram → ℕ → Home
kept_in p o = unwrap_or (option_map (λ d. d.home) (slice_get p.objects o)) DataHome

-- objects of a home are kept in the flash bank
abbrev pub is_table : Home → Bool
is_table FlashHome = true
is_table FarHome = true
is_table DataHome = false

-- some object is kept in the flash bank
abbrev pub has_tables : List PlainObject → Bool
has_tables objects = list_any (λ d. is_table d.home) objects

-- the bank where an object is kept
abbrev pub home_of : PlainProgram → ℕ → Bank
home_of p o = unwrap_or (option_map (λ d. bank_of d.home) (slice_get p.objects o)) DataBank

abbrev pub tag_of : Bank → ℕ
tag_of FlashBank = flash_tag
tag_of DataBank = data_tag

-- the tag in a pointer of so many bytes
abbrev pub tag_in : (bytes : ℕ) → Bank → Option ℕ
tag_in bytes bank = if bytes == 3 then Some (tag_of bank) else None

-- two bytes have an address modulo 65,536, and three bytes the whole address and the tag from the third byte on
abbrev pub number_with : (address : ℕ) → Option ℕ → ℕ
number_with address None = address % 65536
number_with address (Some tag) = address + tag * 65536

-- the number of a pointer of so many bytes to an offset in an object
abbrev pub address_number : PlainProgram → (place : ℕ → ℕ) → (bytes o offset : ℕ) → ℕ
address_number p place bytes o offset = number_with (place o + offset) (tag_in bytes (home_of p o))

-- ---- what pointers of a run point to

-- an object that has an address, with an offset from 0 to its size
pub record IsPointed (p : PlainProgram) (q : ObjectPointer) : Type 0 where
  pub declared : PlainObject
  pub is_object : slice_get p.objects q.object ≡ Some declared
  pub addressable : IsAddressable declared.storage
  pub instance : q.instance ≡ 0
  pub within : q.offset ≤ size_of_type p.structs declared.ty

-- a pointer of so many bytes to it, of a space that its home is in
pub record IsPointerIn (p : PlainProgram) (bytes : ℕ) (q : ObjectPointer) : Type 0 where
  pub pointed : IsPointed p q
  pub size : IsPointerSize bytes
  pub of : HasPointersOf pointed.declared bytes
