-- Laws of the code of pointers that are moved by an index as it stands, and its form.
use Rattle.std.specs.Prelude.{◌≡◌, ◌≢◌, ℕ, ◌+◌, ◌*◌, ◌%◌, ◌<◌, ◌≤◌, Bool, true}
use Rattle.ec_asm.specs.declared.pieces.Location.{Location}
use Rattle.ec_asm.specs.View.{View}
use Rattle.ec_asm.specs.Change.{Env, Own}
use Rattle.ec_asm.specs.Items.{block}
use Rattle.ec_asm.specs.Pieces.{StandsFrom, Outside, value}
use Rattle.ec_asm.specs.PieceLaws.{HoldsNumbers}
use Rattle.ec_asm.specs.Valid.{Sizes}
use Rattle.ec_select_places.specs.Form.{IsShort, HasPlaces, HasPlacesOrZ, ItemsAreValid, HasNoLabel}
use Rattle.ec_select_places.specs.Indexes.{can_add, add_index_code}
use Rattle.ec_select_places.specs.StepLaws.{index_of, moved_by}

-- two bytes have a number, and all else is kept but R0, R1, R26 and the flags
pub record Adds (v : View) (b number : ℕ) (w : View) : Type 0 where
  pub number_is : value w.at b 2 ≡ number
  pub numbers : HoldsNumbers w
  pub same : (k : ℕ) → k ≢ 0 → k ≢ 1 → k ≢ 26 → Outside b 2 k → w.at k ≡ v.at k
  pub inputs : w.inputs ≡ v.inputs
  pub safe : w.safe ≡ v.safe
  pub seen : w.seen ≡ v.seen

-- neither the index nor the offset has R26, and no byte of the index is one of the offset
abbrev pub IndexesAreAdded : Type 0
IndexesAreAdded =
    (minus signed : Bool) (e : Env) (p q : Location) (n size a b : ℕ) (v : View) → StandsFrom e p n a Own
    → StandsFrom e q 2 b Own → 1 ≤ n → Outside a n 26 → Outside b 2 26 → ((i : ℕ) → i < n → Outside b 2 (a + i))
    → can_add signed p q n size ≡ true → HoldsNumbers v
    → Adds v b (moved_by minus (value v.at b 2) (index_of signed n (value v.at a n) * size % 65536))
    (block e (add_index_code minus p q n size) v)

abbrev pub IndexesAreShort : Type 0
IndexesAreShort =
    (minus signed : Bool) (p q : Location) (n size : ℕ) → can_add signed p q n size ≡ true
    → IsShort (add_index_code minus p q n size) 2 6 6

abbrev pub IndexesAreValid : Type 0
IndexesAreValid =
    (sizes : Sizes) (minus signed : Bool) (p q : Location) (n size : ℕ) → HasPlacesOrZ sizes p n → 1 ≤ n → HasPlaces sizes q 2
    → can_add signed p q n size ≡ true → ItemsAreValid sizes (add_index_code minus p q n size)

abbrev pub IndexesHaveNoLabel : Type 0
IndexesHaveNoLabel = (minus : Bool) (p q : Location) (n size : ℕ) → HasNoLabel (add_index_code minus p q n size)
