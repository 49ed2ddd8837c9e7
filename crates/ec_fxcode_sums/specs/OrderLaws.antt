-- Laws of the code of comparisons.
use Rattle.std.specs.Prelude.{◌≡◌, ◌≢◌, ℕ, ◌*◌, ◌≤◌, max, Bool, List, IsTrue, count_by}
use Rattle.std.specs.Int.{from_bool}
use Rattle.std.specs.List.{list_all}
use Rattle.ec_fx.specs.declared.formats.Format.{Format}
use Rattle.ec_fx.specs.Conversions.{order_of}
use Rattle.ec_asm.specs.declared.items.AsmItem.{AsmItem}
use Rattle.ec_asm.specs.declared.pieces.Location.{Location}
use Rattle.ec_asm.specs.View.{View}
use Rattle.ec_asm.specs.Change.{Env, Own}
use Rattle.ec_asm.specs.Items.{HasAt, code_words}
use Rattle.ec_asm.specs.Pieces.{StandsFrom, Outside, value}
use Rattle.ec_asm.specs.PieceLaws.{HoldsNumbers}
use Rattle.ec_asm.specs.Takes.{Goes}
use Rattle.ec_asm.specs.Valid.{Sizes, is_valid_item, used_label, is_label, is_placed}
use Rattle.ec_select_order.specs.declared.relations.Relation.{Relation}
use Rattle.ec_fxcode.specs.ClampLaws.{IsClearOfEnds, AreApart, HasPlaces}
use Rattle.ec_fxcode_quotients.specs.QuotientLaws.{IsOperandFormat, operand_in}
use Rattle.ec_fxcode_sums.specs.Orders.{stands_in, order_code}
use Rattle.ec_fxcode_sums.specs.SumLaws.{most_sum_words}

-- two numbers, which may share bytes, stand apart from 40 work bytes, and all from R30 and R31
pub record AreOrderSlots (e : Env) (p c w : Location) (a b i j s : ℕ) : Type 0 where
  pub first : StandsFrom e p a i Own
  pub second : StandsFrom e c b j Own
  pub work : StandsFrom e w 40 s Own
  pub clear : IsClearOfEnds i a × IsClearOfEnds j b × IsClearOfEnds s 40
  pub apart : AreApart i a s 40 × AreApart j b s 40

-- a run from one word to another, of at most so many steps, that leaves a truth value in R30, and keeps all else but 40
-- work bytes from s, R0, R1, R31 and the flags
pub record Orders (e : Env) (most pc : ℕ) (v : View) (end s : ℕ) (truth : Bool) : Type 0 where
  pub steps : ℕ
  pub at_most : steps ≤ most
  pub last : View
  pub goes : Goes e steps pc v end last
  pub told : last.at 30 ≡ from_bool truth
  pub numbers : HoldsNumbers last
  pub same : (l : ℕ) → l ≢ 0 → l ≢ 1 → l ≢ 30 → l ≢ 31 → Outside s 40 l → last.at l ≡ v.at l
  pub inputs : last.inputs ≡ v.inputs
  pub safe : last.safe ≡ v.safe
  pub seen : last.seen ≡ v.seen

-- whether the exact values stand in the relation, whatever the bytes of the operands are
abbrev pub OrdersAreRight : Type 0
OrdersAreRight =
    (r : Relation) (f g : Format) (e : Env) (p c w : Location) (a b i j s pc end : ℕ) (v : View) → IsOperandFormat f
    → f.bits ≡ 8 * a → IsOperandFormat g → g.bits ≡ 8 * b → AreOrderSlots e p c w a b i j s → HoldsNumbers v
    → HasAt e (order_code r f g p c w a b) pc end
    → Orders e (64 * most_sum_words (max a b)) pc v end s
    (stands_in r (order_of (operand_in f a (value v.at i a)) (operand_in g b (value v.at j b))))

abbrev pub OrdersHave : Type 0
OrdersHave =
    (r : Relation) (f g : Format) (p c w : Location) (a b : ℕ) → IsOperandFormat f → f.bits ≡ 8 * a → IsOperandFormat g
    → g.bits ≡ 8 * b → code_words (order_code r f g p c w a b) ≤ most_sum_words (max a b)

-- ---- items

-- the fields of all items are in range where those of the bytes are
abbrev pub OrdersAreValid : Type 0
OrdersAreValid =
    (sizes : Sizes) (r : Relation) (f g : Format) (p c w : Location) (a b : ℕ) → IsOperandFormat f → f.bits ≡ 8 * a
    → IsOperandFormat g → g.bits ≡ 8 * b → HasPlaces sizes p a → HasPlaces sizes c b → HasPlaces sizes w 40
    → IsTrue (list_all (is_valid_item sizes) (order_code r f g p c w a b))

-- items refer to no label, and are the place of none
abbrev pub OrdersUseNoLabel : Type 0
OrdersUseNoLabel =
    (items : List AsmItem) (r : Relation) (f g : Format) (p c w : Location) (a b : ℕ)
    → IsTrue (list_all (λ item. is_placed items (used_label item)) (order_code r f g p c w a b))

abbrev pub OrdersPlaceNoLabel : Type 0
OrdersPlaceNoLabel =
    (r : Relation) (f g : Format) (p c w : Location) (a b l : ℕ)
    → count_by (is_label l) (order_code r f g p c w a b) ≡ 0
