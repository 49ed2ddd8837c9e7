-- Laws of the code of differences.
use Rattle.std.specs.Prelude.{◌≡◌, ◌≢◌, ℕ, ◌+◌, ◌-◌, ◌*◌, ◌%◌, ◌^◌, ◌<◌, ◌≤◌, Bool, true, false}
use Rattle.ec_asm.specs.declared.pieces.Location.{Location}
use Rattle.ec_asm.specs.View.{View}
use Rattle.ec_asm.specs.Change.{Env, Own}
use Rattle.ec_asm.specs.Items.{block}
use Rattle.ec_asm.specs.Pieces.{StandsFrom, Outside, value}
use Rattle.ec_asm.specs.PieceLaws.{HoldsNumbers}
use Rattle.ec_select_places.specs.StepLaws.{LeavesZ}
use Rattle.ec_select_places.specs.Distances.{distance_code, elements_code}

-- a number or its negation in two's complement of two bytes
abbrev pub signed_number : (negative : Bool) → ℕ → ℕ
signed_number false k = k
signed_number true k = (65536 - k) % 65536

-- one number is so much above another one, or below it, and the difference is a signed number of two bytes
abbrev pub IsFrom : (negative : Bool) → (x y distance : ℕ) → Type 0
IsFrom false x y distance = (x ≡ y + distance) × (distance < 32768)
IsFrom true x y distance = (y ≡ x + distance) × (distance ≤ 32768)

-- two bytes from d have a number, and all else is kept but R0, R1, R8 to R11, R30, R31 and the flags
pub record Differs (v : View) (d number : ℕ) (w : View) : Type 0 where
  pub number_is : value w.at d 2 ≡ number
  pub numbers : HoldsNumbers w
  pub same : (k : ℕ) → k ≢ 0 → k ≢ 1 → Outside 8 4 k → Outside 30 2 k → Outside d 2 k → w.at k ≡ v.at k
  pub inputs : w.inputs ≡ v.inputs
  pub safe : w.safe ≡ v.safe
  pub seen : w.seen ≡ v.seen

-- Two offsets that are k elements apart, each of which has odd * 2 ^ twos bytes
abbrev pub DistancesAreRight : Type 0
DistancesAreRight =
    (negative : Bool) (e : Env) (p c q : Location) (a b d twos odd inverse k : ℕ) (v : View) → StandsFrom e p 2 a Own
    → LeavesZ a 2 → StandsFrom e c 2 b Own → LeavesZ b 2 → StandsFrom e q 2 d Own → LeavesZ d 2 → HoldsNumbers v
    → odd * inverse % 65536 ≡ 1 → inverse < 65536
    → IsFrom negative (value v.at a 2) (value v.at b 2) (k * odd * 2 ^ twos)
    → Differs v d (signed_number negative k) (block e (distance_code p c q twos inverse) v)

-- Two offsets that are k elements apart, each of which has so many bytes
abbrev pub ElementsAreRight : Type 0
ElementsAreRight =
    (negative : Bool) (e : Env) (p c q : Location) (a b d size k : ℕ) (v : View) → StandsFrom e p 2 a Own → LeavesZ a 2
    → StandsFrom e c 2 b Own → LeavesZ b 2 → StandsFrom e q 2 d Own → LeavesZ d 2 → HoldsNumbers v → 1 ≤ size
    → IsFrom negative (value v.at a 2) (value v.at b 2) (k * size)
    → Differs v d (signed_number negative k) (block e (elements_code p c q size) v)
