-- Laws of the code that multiplies and divides by powers of two.
use Rattle.std.specs.Prelude.{◌≡◌, ◌≢◌, ℕ, ◌+◌, ◌*◌, ◌/◌, ◌%◌, ◌^◌, ◌<◌, ◌≤◌, ◌==◌, max, ◌⊎◌, Bool, if◌then◌else◌}
use Rattle.std.specs.Prelude.{pos, ◌*ℤ◌, unsigned_abs, List, IsTrue, count_by}
use Rattle.std.specs.List.{list_all}
use Rattle.ec_fx.specs.declared.formats.Format.{Format}
use Rattle.ec_fx.specs.declared.numbers.Mode.{Mode}
use Rattle.ec_fx.specs.Rounding.{trunc}
use Rattle.ec_asm.specs.declared.items.AsmItem.{AsmItem}
use Rattle.ec_asm.specs.declared.pieces.Location.{Location}
use Rattle.ec_asm.specs.View.{View}
use Rattle.ec_asm.specs.Change.{Env, Own}
use Rattle.ec_asm.specs.Items.{HasAt, code_words}
use Rattle.ec_asm.specs.Pieces.{StandsFrom, Outside, value}
use Rattle.ec_asm.specs.PieceLaws.{HoldsNumbers}
use Rattle.ec_asm.specs.Takes.{Goes}
use Rattle.ec_asm.specs.Valid.{Sizes, is_valid_item, used_label, is_label, is_placed}
use Rattle.ec_fxcode.specs.Clamps.{clamp_code}
use Rattle.ec_fxcode.specs.ClampLaws.{signed_number, IsClearOfEnds, AreApart, HasPlaces}
use Rattle.ec_fxcode_shifts.specs.ShiftLaws.{number_in}
use Rattle.ec_fxcode_scales.specs.Scales.{scale_code, cut_code}

-- 8 a, 8 a + 1 or 8 a + 7 bits: what the fraction bits of two formats differ by
abbrev pub IsScale : ℕ → Type 0
IsScale d = (d % 8 ≡ 0) ⊎ ((d % 8 ≡ 1) ⊎ (d % 8 ≡ 7))

-- a run from one word to another, of at most so many steps, that leaves a number in k bytes from b of which something
-- holds, and keeps all else but R0, R1, R30, R31 and the flags
pub record Brings (e : Env) (most pc : ℕ) (v : View) (end b k : ℕ) (Holds : ℕ → Type 0) : Type 0 where
  pub steps : ℕ
  pub at_most : steps ≤ most
  pub last : View
  pub goes : Goes e steps pc v end last
  pub holds : Holds (value last.at b k)
  pub numbers : HoldsNumbers last
  pub same : (j : ℕ) → j ≢ 0 → j ≢ 1 → j ≢ 30 → j ≢ 31 → Outside b k j → last.at j ≡ v.at j
  pub inputs : last.inputs ≡ v.inputs
  pub safe : last.safe ≡ v.safe
  pub seen : last.seen ≡ v.seen

-- the same, where 40 work bytes from s may change too
pub record Computes (e : Env) (most pc : ℕ) (v : View) (end b k s : ℕ) (Holds : ℕ → Type 0) : Type 0 where
  pub steps : ℕ
  pub at_most : steps ≤ most
  pub last : View
  pub goes : Goes e steps pc v end last
  pub holds : Holds (value last.at b k)
  pub numbers : HoldsNumbers last
  pub same : (j : ℕ) → j ≢ 0 → j ≢ 1 → j ≢ 30 → j ≢ 31 → Outside b k j → Outside s 40 j → last.at j ≡ v.at j
  pub inputs : last.inputs ≡ v.inputs
  pub safe : last.safe ≡ v.safe
  pub seen : last.seen ≡ v.seen

-- ---- times a power of two

-- the number times two to the power of d, where the m bytes have room for it
abbrev pub ScalesAreRight : Type 0
ScalesAreRight =
    (signed : Bool) (e : Env) (p w : Location) (n m d a s pc end : ℕ) (v : View) → IsScale d → 1 ≤ n
    → n + (d + 7) / 8 + 1 ≤ m → m ≤ 16 → StandsFrom e p n a Own → StandsFrom e w m s Own → AreApart a n s m
    → IsClearOfEnds a n → IsClearOfEnds s m → HoldsNumbers v → HasAt e (scale_code signed p w n m d) pc end
    → Brings e (64 * m) pc v end s m
    (λ x. signed_number m x ≡ number_in signed n (value v.at a n) *ℤ pos (2 ^ d))

abbrev pub ScalesHave : Type 0
ScalesHave =
    (signed : Bool) (p w : Location) (n m d : ℕ) → IsScale d → 1 ≤ n → n + (d + 7) / 8 + 1 ≤ m
    → code_words (scale_code signed p w n m d) ≤ 8 + 4 * m + (if d % 8 == 0 then 0 else 7 * m)

-- ---- divided by a power of two

-- the number divided by two to the power of d and rounded toward zero, where its magnitude has a bit to spare
abbrev pub CutsAreRight : Type 0
CutsAreRight =
    (e : Env) (w : Location) (m d s pc end : ℕ) (v : View) → IsScale d → 1 ≤ m → m ≤ 16 → (d + 7) / 8 ≤ m
    → StandsFrom e w m s Own → IsClearOfEnds s m → HoldsNumbers v
    → 2 * unsigned_abs (signed_number m (value v.at s m)) < 256 ^ m → HasAt e (cut_code w m d) pc end
    → Brings e (64 * m) pc v end s m (λ x. signed_number m x ≡ trunc (signed_number m (value v.at s m)) (2 ^ d))

abbrev pub CutsHave : Type 0
CutsHave =
    (w : Location) (m d : ℕ) → IsScale d
    → code_words (cut_code w m d) ≤ 8 + 16 * m + (if d % 8 == 0 then 0 else 7 * m)

-- ---- items

-- the fields of all items are in range where those of the bytes are
abbrev pub ScalesAreValid : Type 0
ScalesAreValid =
    (sizes : Sizes) (signed : Bool) (p w : Location) (n m d : ℕ) → IsScale d → 1 ≤ n → n + (d + 7) / 8 + 1 ≤ m
    → HasPlaces sizes p n → HasPlaces sizes w m
    → IsTrue (list_all (is_valid_item sizes) (scale_code signed p w n m d))

-- items refer to no label, and are the place of none
abbrev pub ScalesUseNoLabel : Type 0
ScalesUseNoLabel =
    (items : List AsmItem) (signed : Bool) (p w : Location) (n m d : ℕ)
    → IsTrue (list_all (λ item. is_placed items (used_label item)) (scale_code signed p w n m d))

abbrev pub ScalesPlaceNoLabel : Type 0
ScalesPlaceNoLabel =
    (signed : Bool) (p w : Location) (n m d l : ℕ) → count_by (is_label l) (scale_code signed p w n m d) ≡ 0

abbrev pub CutsAreValid : Type 0
CutsAreValid =
    (sizes : Sizes) (w : Location) (m d : ℕ) → 1 ≤ m → HasPlaces sizes w m
    → IsTrue (list_all (is_valid_item sizes) (cut_code w m d))

abbrev pub CutsUseNoLabel : Type 0
CutsUseNoLabel =
    (items : List AsmItem) (w : Location) (m d : ℕ)
    → IsTrue (list_all (λ item. is_placed items (used_label item)) (cut_code w m d))

abbrev pub CutsPlaceNoLabel : Type 0
CutsPlaceNoLabel = (w : Location) (m d l : ℕ) → count_by (is_label l) (cut_code w m d) ≡ 0

-- ---- the clamp

-- the words of the code that brings a number of n bytes into a format of k bytes
abbrev pub ClampsAreShort : Type 0
ClampsAreShort =
    (to : Format) (mode : Mode) (p q : Location) (n k : ℕ) → 1 ≤ n → 1 ≤ k
    → code_words (clamp_code to mode p q n k) ≤ 4 * max n k + 6 * k + 20
