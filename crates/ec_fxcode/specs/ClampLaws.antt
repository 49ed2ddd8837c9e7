-- Laws of the code that brings a number into a format.
use Rattle.std.specs.Prelude.{◌≡◌, ◌≢◌, ℕ, ◌+◌, ◌-◌, ◌*◌, ◌^◌, ◌<◌, ◌≤◌, nat_lt, max, ⊤, if◌then◌else◌}
use Rattle.std.specs.Prelude.{ℤ, pos, negsuc, ◌-ℤ◌, List, IsTrue, count_by}
use Rattle.std.specs.List.{list_all}
use Rattle.ec_fx.specs.declared.formats.Format.{Format}
use Rattle.ec_fx.specs.declared.numbers.Mode.{Mode}
use Rattle.ec_fx.specs.declared.numbers.Fx.{Fx}
use Rattle.ec_fx.specs.declared.numbers.Fx.TheVariants.{Got, Overflow, ZeroDivisor}
use Rattle.ec_fx.specs.Formats.{IsFormat}
use Rattle.ec_fx.specs.Results.{fit}
use Rattle.ec_asm.specs.declared.items.AsmItem.{AsmItem}
use Rattle.ec_asm.specs.declared.pieces.Location.{Location}
use Rattle.ec_asm.specs.declared.pieces.Location.TheVariants.{InRegisters, InMemory}
use Rattle.ec_asm.specs.View.{View}
use Rattle.ec_asm.specs.Change.{Env, Own}
use Rattle.ec_asm.specs.Items.{HasAt, code_words}
use Rattle.ec_asm.specs.Pieces.{StandsFrom, Outside, value}
use Rattle.ec_asm.specs.PieceLaws.{HoldsNumbers}
use Rattle.ec_asm.specs.Takes.{Goes}
use Rattle.ec_asm.specs.Valid.{Sizes, is_offset, is_valid_item, used_label, is_label, is_placed}
use Rattle.ec_fxcode.specs.Clamps.{clamp_code}

-- the number that n bytes stand for in two's complement
abbrev pub signed_number : (n x : ℕ) → ℤ
signed_number n x = if nat_lt (2 * x) (256 ^ n) then pos x else pos x -ℤ pos (256 ^ n)

-- the bytes of a number, in two's complement where it is negative
abbrev pub in_bytes : (k : ℕ) → ℤ → ℕ
in_bytes k (pos x) = x
in_bytes k (negsuc x) = 256 ^ k - (x + 1)

-- k bytes hold a result, where there is one
abbrev pub HoldsResult : (k : ℕ) → Fx → ℕ → Type 0
HoldsResult k (Got x) number = number ≡ in_bytes k x.n
HoldsResult k Overflow number = ⊤
HoldsResult k ZeroDivisor number = ⊤

-- n bytes from a stand apart from R30 and R31
pub record IsClearOfEnds (a n : ℕ) : Type 0 where
  pub below : a < 30 → a + n ≤ 30
  pub above : 30 ≤ a → 32 ≤ a

-- n bytes from a and k bytes from b have no byte in common
pub record AreApart (a n b k : ℕ) : Type 0 where
  pub first : a < b → a + n ≤ b
  pub second : b ≤ a → b + k ≤ a

-- a run from one word to another, of at most so many steps, that leaves a result in k bytes from b, and keeps all else
-- but R0, R1, R30, R31 and the flags
pub record Clamps (e : Env) (most pc : ℕ) (v : View) (end b k : ℕ) (answer : Fx) : Type 0 where
  pub steps : ℕ
  pub at_most : steps ≤ most
  pub last : View
  pub goes : Goes e steps pc v end last
  pub holds : HoldsResult k answer (value last.at b k)
  pub numbers : HoldsNumbers last
  pub same : (j : ℕ) → j ≢ 0 → j ≢ 1 → j ≢ 30 → j ≢ 31 → Outside b k j → last.at j ≡ v.at j
  pub inputs : last.inputs ≡ v.inputs
  pub safe : last.safe ≡ v.safe
  pub seen : last.seen ≡ v.seen

-- a number of 1 to 16 bytes in two's complement, in units of the format
abbrev pub ClampsAreRight : Type 0
ClampsAreRight =
    (to : Format) (mode : Mode) (e : Env) (p q : Location) (n k a b pc end : ℕ) (v : View) → IsFormat to
    → to.bits ≡ 8 * k → 1 ≤ n → StandsFrom e p n a Own → StandsFrom e q k b Own → AreApart a n b k
    → IsClearOfEnds a n → IsClearOfEnds b k → HoldsNumbers v → HasAt e (clamp_code to mode p q n k) pc end
    → Clamps e (60 + 20 * max n k) pc v end b k (fit to mode (signed_number n (value v.at a n)))

abbrev pub ClampsHave : Type 0
ClampsHave =
    (to : Format) (mode : Mode) (p q : Location) (n k : ℕ)
    → code_words (clamp_code to mode p q n k) ≤ 60 + 20 * max n k

-- ---- items

-- the registers, or the offsets, of n bytes are in range
abbrev pub HasPlaces : Sizes → Location → ℕ → Type 0
HasPlaces sizes (InRegisters r) n = r + n ≤ 32
HasPlaces sizes (InMemory o k) n = (i : ℕ) → i < n → IsTrue (is_offset sizes o (k + i))

-- the fields of all items are in range where those of the bytes are
abbrev pub ClampsAreValid : Type 0
ClampsAreValid =
    (sizes : Sizes) (to : Format) (mode : Mode) (p q : Location) (n k : ℕ) → 1 ≤ n → 1 ≤ k → HasPlaces sizes p n
    → HasPlaces sizes q k → IsTrue (list_all (is_valid_item sizes) (clamp_code to mode p q n k))

-- items refer to no label, and are the place of none
abbrev pub ClampsUseNoLabel : Type 0
ClampsUseNoLabel =
    (items : List AsmItem) (to : Format) (mode : Mode) (p q : Location) (n k : ℕ) → 1 ≤ n → 1 ≤ k
    → IsTrue (list_all (λ item. is_placed items (used_label item)) (clamp_code to mode p q n k))

abbrev pub ClampsPlaceNoLabel : Type 0
ClampsPlaceNoLabel =
    (to : Format) (mode : Mode) (p q : Location) (n k l : ℕ) → 1 ≤ n → 1 ≤ k
    → count_by (is_label l) (clamp_code to mode p q n k) ≡ 0
