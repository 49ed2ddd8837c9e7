-- Laws of pointers of three bytes that have whole addresses, and of their code.
use Rattle.std.specs.Prelude.{◌≡◌, ◌≢◌, ◌⊎◌, ℕ, ◌+◌, ◌-◌, ◌*◌, ◌%◌, ◌<◌, ◌≤◌, ◌==◌, nat_lt, Bool, if◌then◌else◌, ⊤}
use Rattle.ec_asm.specs.declared.pieces.Location.{Location}
use Rattle.ec_asm.specs.View.{View}
use Rattle.ec_asm.specs.Change.{Env, Own}
use Rattle.ec_asm.specs.Items.{HasAt, block}
use Rattle.ec_asm.specs.Pieces.{StandsFrom, Outside, value}
use Rattle.ec_asm.specs.PieceLaws.{HoldsNumbers}
use Rattle.ec_select_order.specs.declared.relations.Relation.{Relation}
use Rattle.ec_select_order.specs.declared.relations.Relation.TheVariants.{Less, NotLess, Equal, NotEqual}
use Rattle.ec_select_order.specs.Laws.{Tells}
use Rattle.ec_select_places.specs.Numbers.{Place, number_of, same_place, is_before, places_stand}
use Rattle.ec_select_places.specs.Numbers.Place.{Null, At}
use Rattle.ec_select_places.specs.Conversions.{flash_tag, data_tag}
use Rattle.ec_select_places.specs.StepLaws.{LeavesZ}
use Rattle.ec_select_places.specs.Distances.{elements_code}
use Rattle.ec_select_places.specs.DistanceLaws.{signed_number, IsFrom, Differs}
use Rattle.ec_select_places.specs.Far.{advance_far_code, order_far_code}

-- ---- pointers as numbers

-- The top bit of a pointer of three bytes tells the bank, and the other 23 bits have the offset: objects lie at offsets
-- from 1 up
abbrev pub IsFarPlace : Place → Type 0
IsFarPlace Null = ⊤
IsFarPlace (At tag offset) = (0 < offset) × (offset < 8388608) × ((tag ≡ flash_tag) ⊎ (tag ≡ data_tag))

-- both are in one bank, or one is null
abbrev pub InOneBank : Place → Place → Type 0
InOneBank Null q = ⊤
InOneBank (At t x) Null = ⊤
InOneBank (At t x) (At u y) = t ≡ u

-- such a pointer has three bytes
abbrev pub FarPlacesFit : Type 0
FarPlacesFit = (p : Place) → IsFarPlace p → number_of p < 16777216

-- pointers are equal where their numbers are
abbrev pub FarPlacesAreNumbers : Type 0
FarPlacesAreNumbers = (p q : Place) → IsFarPlace p → IsFarPlace q → (number_of p == number_of q) ≡ same_place p q

-- and those of one bank are in order where their numbers are
abbrev pub FarPlacesAreInOrder : Type 0
FarPlacesAreInOrder =
    (p q : Place) → IsFarPlace p → IsFarPlace q → InOneBank p q → nat_lt (number_of p) (number_of q) ≡ is_before p q

-- ---- sums

-- a number of two bytes in two's complement, as one of three bytes
abbrev pub extended : ℕ → ℕ
extended y = if nat_lt y 32768 then y else y + 16711680

-- what R31:R30 has is added to all three bytes or subtracted from them, modulo 2 to the power of 24
abbrev pub far_moved_by : Bool → (x y : ℕ) → ℕ
far_moved_by minus x y =
    if minus then (x + 16777216 - extended y) % 16777216 else (x + extended y) % 16777216

-- n bytes of which none is one of R8 to R11
abbrev pub LeavesWork : (a n : ℕ) → Type 0
LeavesWork a n = (i : ℕ) → i < n → Outside 8 4 (a + i)

-- all three bytes of a pointer are moved, and all else is kept but R0, R1, R8 to R11 and the flags
pub record FarAdvances (v : View) (b number : ℕ) (w : View) : Type 0 where
  pub number_is : value w.at b 3 ≡ number
  pub numbers : HoldsNumbers w
  pub same : (k : ℕ) → k ≢ 0 → k ≢ 1 → Outside 8 4 k → Outside b 3 k → w.at k ≡ v.at k
  pub inputs : w.inputs ≡ v.inputs
  pub safe : w.safe ≡ v.safe
  pub seen : w.seen ≡ v.seen

abbrev pub FarPointersAreAdvanced : Type 0
FarPointersAreAdvanced =
    (minus : Bool) (e : Env) (q : Location) (b : ℕ) (v : View) → StandsFrom e q 3 b Own → LeavesZ b 3 → LeavesWork b 3
    → HoldsNumbers v
    → FarAdvances v b (far_moved_by minus (value v.at b 3) (value v.at 30 2)) (block e (advance_far_code minus q) v)

-- ---- differences

-- two pointers whose whole numbers are k elements apart, each of which has so many bytes. Their low two bytes tell
abbrev pub FarElementsAreRight : Type 0
FarElementsAreRight =
    (negative : Bool) (e : Env) (p c q : Location) (a b d size k : ℕ) (v : View) → StandsFrom e p 3 a Own → LeavesZ a 3
    → StandsFrom e c 3 b Own → LeavesZ b 3 → StandsFrom e q 2 d Own → LeavesZ d 2 → HoldsNumbers v → 1 ≤ size
    → IsFrom negative (value v.at a 3) (value v.at b 3) (k * size)
    → Differs v d (signed_number negative k) (block e (elements_code p c q size) v)

-- ---- comparisons

-- what a relation asks of two places: an order means something in one bank
abbrev pub MayRelate : Relation → Place → Place → Type 0
MayRelate Less p q = InOneBank p q
MayRelate NotLess p q = InOneBank p q
MayRelate Equal p q = ⊤
MayRelate NotEqual p q = ⊤

-- pointers by all their bytes, as the places that they point to
abbrev pub FarPointersAreCompared : Type 0
FarPointersAreCompared =
    (r : Relation) (e : Env) (left right : Location) (n a b pc end : ℕ) (x y : Place) (v : View) → 1 ≤ n
    → StandsFrom e left n a Own → StandsFrom e right n b Own → HoldsNumbers v → IsFarPlace x → IsFarPlace y
    → MayRelate r x y → value v.at a n ≡ number_of x → value v.at b n ≡ number_of y
    → HasAt e (order_far_code r left right n) pc end
    → Tells e (3 + 3 * n) pc v end (places_stand r x y)
