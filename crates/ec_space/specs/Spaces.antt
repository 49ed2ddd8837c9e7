-- Named address spaces (ISO/IEC TR 18037:2008, chapter 5): the homes of a space, and what the bytes of a pointer denote
-- in it. The report leaves the spaces and the bytes of their pointers to the implementation; these are the project's.
use Rattle.std.specs.Prelude.{◌≡◌, ℕ, ◌+◌, ◌-◌, ◌<◌, ◌==◌, nat_lt, Bool, true, false, not, ◌&&◌, ◌||◌, if◌then◌else◌}
use Rattle.std.specs.Prelude.{IsTrue, Option, Some, None, option_and_then, unwrap_or, List, [], ◌∷◌, ◌⊎◌}
use Rattle.ec_space.specs.Bytes.{little_endian, number_of}
use Rattle.ec_space.specs.declared.space.Bank.{Bank}
use Rattle.ec_space.specs.declared.space.Bank.TheVariants.{Flash as FlashBank, Data as DataBank}
use Rattle.ec_space.specs.declared.space.Home.{Home}
use Rattle.ec_space.specs.declared.space.Home.TheVariants.{Flash as FlashHome, Far as FarHome, Data as DataHome}
use Rattle.ec_space.specs.declared.space.Pointer.{Pointer}
use Rattle.ec_space.specs.declared.space.Pointer.TheVariants.{Null, At}
use Rattle.ec_space.specs.declared.space.SpaceId.{SpaceId}
use Rattle.ec_space.specs.declared.space.SpaceId.TheVariants.{Flash, FarFlash, Data, Generic}

-- ---- spaces as sets of homes

-- the bank that the objects of a home stand in
abbrev pub bank_of : Home → Bank
bank_of FlashHome = FlashBank
bank_of FarHome = FlashBank
bank_of DataHome = DataBank

-- a space by the homes that it holds: `__flash`, `__farflash`, `__data`, and the unnamed space with all
abbrev pub holds : SpaceId → Home → Bool
holds Flash FlashHome = true
holds Flash FarHome = false
holds Flash DataHome = false
holds FarFlash FlashHome = true
holds FarFlash FarHome = true
holds FarFlash DataHome = false
holds Data FlashHome = false
holds Data FarHome = false
holds Data DataHome = true
holds Generic home = true

-- each home of the inner space is one of the outer
abbrev pub Encloses : SpaceId → SpaceId → Type 0
Encloses outer inner = (home : Home) → IsTrue (holds inner home) → IsTrue (holds outer home)

-- the same, as a test of every home
abbrev pub encloses : SpaceId → SpaceId → Bool
encloses outer inner =
    (not (holds inner FlashHome) || holds outer FlashHome)
    && ((not (holds inner FarHome) || holds outer FarHome) && (not (holds inner DataHome) || holds outer DataHome))

-- objects of the space can stand in the bank
abbrev pub reaches : SpaceId → Bank → Bool
reaches Flash FlashBank = true
reaches Flash DataBank = false
reaches FarFlash FlashBank = true
reaches FarFlash DataBank = false
reaches Data FlashBank = false
reaches Data DataBank = true
reaches Generic bank = true

-- the one of two spaces that encloses the other
abbrev pub join : SpaceId → SpaceId → Option SpaceId
join s t = if encloses s t then Some s else (if encloses t s then Some t else None)

-- u is one of two spaces and encloses the other
abbrev pub IsJoin : SpaceId → SpaceId → SpaceId → Type 0
IsJoin s t u = ((u ≡ s) × Encloses s t) ⊎ ((u ≡ t) × Encloses t s)

-- ---- pointers as bytes

-- how many of the three bytes a space's pointers take
abbrev pub width : SpaceId → ℕ
width Flash = 2
width FarFlash = 3
width Data = 2
width Generic = 3

-- what a pointer's bank adds to its offset: the third byte of a generic pointer selects the bank, 0x00 or 0x01 for flash
-- and 0x80 for data
abbrev pub bank_number : SpaceId → Bank → ℕ
bank_number Flash bank = 0
bank_number FarFlash bank = 0
bank_number Data bank = 0
bank_number Generic FlashBank = 0
bank_number Generic DataBank = 0x80_0000

-- the number that a pointer's bytes make, the lowest byte first. Null has no byte but 0
abbrev pub pointer_number : SpaceId → Pointer → ℕ
pointer_number space Null = 0
pointer_number space (At place) = bank_number space place.bank + place.offset

-- one past the greatest offset that pointers of a space can tell in a bank, 0 where they tell none: two bytes, and of a
-- pointer with a third byte one bit more in flash
abbrev pub end_in : SpaceId → Bank → ℕ
end_in Flash FlashBank = 65_536
end_in Flash DataBank = 0
end_in FarFlash FlashBank = 131_072
end_in FarFlash DataBank = 0
end_in Data FlashBank = 0
end_in Data DataBank = 65_536
end_in Generic FlashBank = 131_072
end_in Generic DataBank = 65_536

-- the space has bytes for the pointer: it is null, or its place is at an offset from 1 up to what they can tell
abbrev pub IsPointerOf : SpaceId → Pointer → Type 0
IsPointerOf space Null = Unit {0}
IsPointerOf space (At place) = (0 < place.offset) × (place.offset < end_in space place.bank)

-- three bytes denote the pointer in the space. Bytes that denote no pointer denote nothing
pub record Denotes (space : SpaceId) (bytes : List ℕ) (p : Pointer) : Type 0 where
  pub is_pointer : IsPointerOf space p
  pub number : number_of bytes ≡ pointer_number space p

-- ---- the same as functions

-- the bytes that denote a pointer of the space
abbrev pub encoded : SpaceId → Pointer → List ℕ
encoded space p = little_endian 3 (pointer_number space p)

-- the pointer at an offset below an end in a bank, null at 0
abbrev pub pointer_in : Bank → (end offset : ℕ) → Option Pointer
pointer_in bank end offset =
    if offset == 0 then Some Null else
    (if nat_lt offset end then Some (At (record { bank = bank; offset = offset })) else None)

-- the pointer whose bytes make a number
abbrev pub pointer_of : SpaceId → ℕ → Option Pointer
pointer_of Flash n = pointer_in FlashBank 65_536 n
pointer_of FarFlash n = pointer_in FlashBank 131_072 n
pointer_of Data n = pointer_in DataBank 65_536 n
pointer_of Generic n =
    if nat_lt 0x80_0000 n then pointer_in DataBank 65_536 (n - 0x80_0000) else pointer_in FlashBank 131_072 n

-- the pointer that bytes denote, if any
abbrev pub denoted : SpaceId → List ℕ → Option Pointer
denoted space bytes = pointer_of space (number_of bytes)

-- `IsPointerOf` as a test
abbrev pub is_pointer_of : SpaceId → Pointer → Bool
is_pointer_of space Null = true
is_pointer_of space (At place) = nat_lt 0 place.offset && nat_lt place.offset (end_in space place.bank)

-- the bytes in one space of what bytes denote in another, where that is a pointer of both
abbrev pub converted : SpaceId → SpaceId → List ℕ → Option (List ℕ)
converted from to bytes =
    option_and_then (λ p. if is_pointer_of to p then Some (encoded to p) else None) (denoted from bytes)

-- bytes that denote nothing in any space
abbrev pub nothing : List ℕ
nothing = 0 ∷ 0 ∷ 0xFF ∷ []

-- the bytes in an outer space of what bytes denote in an inner one, which denote nothing where those do not
abbrev pub embedded : SpaceId → SpaceId → List ℕ → List ℕ
embedded inner outer bytes = unwrap_or (converted inner outer bytes) nothing
