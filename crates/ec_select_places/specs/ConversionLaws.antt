-- Laws of the code of conversions.
use Rattle.std.specs.Prelude.{◌≡◌, ◌≢◌, ℕ, ◌%◌, Bool}
use Rattle.ec_asm.specs.declared.pieces.Location.{Location}
use Rattle.ec_asm.specs.View.{View}
use Rattle.ec_asm.specs.Change.{Env, Own}
use Rattle.ec_asm.specs.Items.{block}
use Rattle.ec_asm.specs.Pieces.{StandsFrom, Outside, value}
use Rattle.ec_asm.specs.PieceLaws.{HoldsNumbers, IsReadFirst}
use Rattle.ec_select_places.specs.Numbers.{Place, number_of, IsPlace}
use Rattle.ec_select_places.specs.Numbers.Place.{Null, At}
use Rattle.ec_select_places.specs.Conversions.{embedded, embed_code, narrow_code, tag_of}
use Rattle.ec_select_places.specs.StepLaws.{LeavesZ}

-- n bytes from b have a number, and all else is kept but R0, R1, R30, R31 and the flags
pub record HasPut (v : View) (b n number : ℕ) (w : View) : Type 0 where
  pub number_is : value w.at b n ≡ number
  pub numbers : HoldsNumbers w
  pub same : (k : ℕ) → k ≢ 0 → k ≢ 1 → Outside 30 2 k → Outside b n k → w.at k ≡ v.at k
  pub inputs : w.inputs ≡ v.inputs
  pub safe : w.safe ≡ v.safe
  pub seen : w.seen ≡ v.seen

-- two bytes become three, where they stand
abbrev pub PointersAreEmbedded : Type 0
PointersAreEmbedded =
    (to_data : Bool) (e : Env) (q : Location) (b : ℕ) (v : View) → StandsFrom e q 3 b Own → LeavesZ b 3 → HoldsNumbers v
    → HasPut v b 3 (embedded to_data (value v.at b 2)) (block e (embed_code to_data q) v)

-- three bytes become two
abbrev pub PointersAreNarrowed : Type 0
PointersAreNarrowed =
    (e : Env) (p q : Location) (a b : ℕ) (v : View) → StandsFrom e p 3 a Own → StandsFrom e q 2 b Own
    → IsReadFirst a b 2 → HoldsNumbers v
    → HasPut v b 2 (value v.at a 3 % 65536) (block e (narrow_code p q) v)

-- the same place in the unnamed space
abbrev pub with_tag : ℕ → Place → Place
with_tag tag Null = Null
with_tag tag (At t offset) = At tag offset

-- so a pointer into a bank becomes one to the same place, and back
abbrev pub EmbeddingsKeepPlaces : Type 0
EmbeddingsKeepPlaces =
    (to_data : Bool) (x : Place) → IsPlace x
    → (embedded to_data (number_of (with_tag 0 x)) ≡ number_of (with_tag (tag_of to_data) x))
    × (number_of x % 65536 ≡ number_of (with_tag 0 x))
