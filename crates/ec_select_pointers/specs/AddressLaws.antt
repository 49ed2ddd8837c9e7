-- Laws of the code of addresses.
use Rattle.std.specs.Prelude.{◌≡◌, ◌≢◌, ℕ, ◌+◌, ◌*◌, ◌%◌, ◌<◌, Option, Some, None, ⊤}
use Rattle.ec_asm.specs.declared.pieces.Location.{Location}
use Rattle.ec_asm.specs.View.{View}
use Rattle.ec_asm.specs.Change.{Env, Own}
use Rattle.ec_asm.specs.Items.{block}
use Rattle.ec_asm.specs.Pieces.{StandsFrom, Outside, value}
use Rattle.ec_asm.specs.PieceLaws.{HoldsNumbers}
use Rattle.ec_select_pointers.specs.Addresses.{pointer_bytes, address_code, field_code}

-- n bytes from a have a number, and all else is kept but R30, R31 and the flags
pub record HasPut (v : View) (a n number : ℕ) (w : View) : Type 0 where
  pub number_is : value w.at a n ≡ number
  pub numbers : HoldsNumbers v → HoldsNumbers w
  pub same : (k : ℕ) → k ≢ 30 → k ≢ 31 → Outside a n k → w.at k ≡ v.at k
  pub inputs : w.inputs ≡ v.inputs
  pub safe : w.safe ≡ v.safe
  pub seen : w.seen ≡ v.seen

-- the number of a pointer: the address modulo 65,536, with the tag above it
abbrev pub pointer_number : (address : ℕ) → Option ℕ → ℕ
pointer_number address None = address % 65536
pointer_number address (Some tag) = address % 65536 + tag * 65536

-- a tag is a byte
abbrev pub IsTag : Option ℕ → Type 0
IsTag None = ⊤
IsTag (Some tag) = tag < 256

-- the address of a place is put to a pointer, and the flags are kept
abbrev pub AddressesAreRight : Type 0
AddressesAreRight =
    (e : Env) (q : Location) (object offset a : ℕ) (tag : Option ℕ) (v : View) → IsTag tag
    → StandsFrom e q (pointer_bytes tag) a Own → Outside a (pointer_bytes tag) 30
    → let w = block e (address_code object offset tag q) v in
    HasPut v a (pointer_bytes tag) (pointer_number (e.address_of object offset) tag) w × (w.flags ≡ v.flags)

-- the offset is added to the address in a pointer, modulo 65,536
abbrev pub FieldsAreRight : Type 0
FieldsAreRight =
    (e : Env) (q : Location) (offset a : ℕ) (v : View) → StandsFrom e q 2 a Own → Outside a 2 30 → HoldsNumbers v
    → HasPut v a 2 ((value v.at a 2 + offset) % 65536) (block e (field_code q offset) v)
