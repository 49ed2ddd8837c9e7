-- Laws of the code of pointers that are moved and compared.
use Rattle.std.specs.Prelude.{◌≡◌, ◌≢◌, ℕ, ◌+◌, ◌-◌, ◌*◌, ◌%◌, ◌<◌, ◌≤◌, ◌==◌, Bool, true, if◌then◌else◌, ◌⊎◌}
use Rattle.ec_asm.specs.declared.pieces.Location.{Location}
use Rattle.ec_asm.specs.View.{View}
use Rattle.ec_asm.specs.Change.{Env, Own}
use Rattle.ec_asm.specs.Items.{HasAt, block}
use Rattle.ec_asm.specs.Pieces.{StandsFrom, Outside, Keeps, value}
use Rattle.ec_asm.specs.PieceLaws.{HoldsNumbers}
use Rattle.ec_select_bytes.specs.Values.{fill_of}
use Rattle.ec_select_order.specs.declared.relations.Relation.{Relation}
use Rattle.ec_select_order.specs.Laws.{Tells}
use Rattle.ec_select_places.specs.Numbers.{Place, number_of, IsPlace, places_stand}
use Rattle.ec_select_places.specs.Steps.{is_in_z, scale_index_code, advance_code, order_code}

-- n bytes of which none is R30 or R31
pub record LeavesZ (a n : ℕ) : Type 0 where
  pub low : Outside a n 30
  pub high : Outside a n 31

-- ---- sums

-- a number of n bytes modulo 65,536, in two's complement where it has a sign
abbrev pub index_of : Bool → (n x : ℕ) → ℕ
index_of signed n x = if n == 1 then x + 256 * fill_of signed x else x % 65536

-- R31:R30 has a number, and all else is kept but R0, R1, R8 to R11 and the flags
pub record Scales (v : View) (number : ℕ) (w : View) : Type 0 where
  pub number_is : value w.at 30 2 ≡ number
  pub numbers : HoldsNumbers w
  pub same : (k : ℕ) → k ≢ 0 → k ≢ 1 → Outside 8 4 k → Outside 30 2 k → w.at k ≡ v.at k
  pub inputs : w.inputs ≡ v.inputs
  pub safe : w.safe ≡ v.safe
  pub seen : w.seen ≡ v.seen

-- n bytes of which none is R30 or R31, or one or two bytes that stand from R30 on
abbrev pub MayBeInZ : Location → (a n : ℕ) → Type 0
MayBeInZ p a n = LeavesZ a n ⊎ ((is_in_z p ≡ true) × (n ≤ 2))

-- a number of elements becomes one of bytes, modulo 65,536
abbrev pub IndexesAreScaled : Type 0
IndexesAreScaled =
    (e : Env) (p : Location) (signed : Bool) (n size a : ℕ) (v : View) → StandsFrom e p n a Own → MayBeInZ p a n → 1 ≤ n
    → size < 65536 → HoldsNumbers v
    → Scales v (index_of signed n (value v.at a n) * size % 65536) (block e (scale_index_code p signed n size) v)

-- what R31:R30 has is added to an offset or subtracted from it, modulo 65,536
abbrev pub moved_by : Bool → (x y : ℕ) → ℕ
moved_by minus x y = if minus then (x + 65536 - y) % 65536 else (x + y) % 65536

-- the offset in a pointer is moved, and all else is kept but R0, R1 and the flags: so is a third byte
pub record Advances (v : View) (b number : ℕ) (w : View) : Type 0 where
  pub number_is : value w.at b 2 ≡ number
  pub numbers : HoldsNumbers w
  pub keeps : Keeps v w b 2

abbrev pub PointersAreAdvanced : Type 0
PointersAreAdvanced =
    (minus : Bool) (e : Env) (q : Location) (b : ℕ) (v : View) → StandsFrom e q 2 b Own → LeavesZ b 2 → HoldsNumbers v
    → Advances v b (moved_by minus (value v.at b 2) (value v.at 30 2)) (block e (advance_code minus q) v)

-- ---- comparisons

-- pointers of two or three bytes, as the places that they point to
abbrev pub PointersAreCompared : Type 0
PointersAreCompared =
    (r : Relation) (e : Env) (left right : Location) (n a b pc end : ℕ) (x y : Place) (v : View) → 2 ≤ n
    → StandsFrom e left n a Own → StandsFrom e right n b Own → HoldsNumbers v → IsPlace x → IsPlace y
    → value v.at a n ≡ number_of x → value v.at b n ≡ number_of y → HasAt e (order_code r left right n) pc end
    → Tells e (3 + 3 * n) pc v end (places_stand r x y)
