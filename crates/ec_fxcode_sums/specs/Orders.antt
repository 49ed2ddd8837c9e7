-- Code that compares numbers of two formats, of which one is fixed-point at least: both are scaled to the greater count
-- of fraction bits, as numbers of equally many bytes in two's complement, and compared there. R30 becomes 1 where they
-- stand in the relation, and else 0. R0, R1, R30 and R31 are work registers.
use Rattle.std.specs.Prelude.{ℕ, Bool, true, List, ◌++◌}
use Rattle.std.specs.declared.cmp.Ordering.{Ordering}
use Rattle.std.specs.Ordering.{is_lt, is_ge, is_eq, is_ne}
use Rattle.ec_fx.specs.declared.formats.Format.{Format}
use Rattle.ec_asm.specs.declared.items.AsmItem.{AsmItem}
use Rattle.ec_asm.specs.declared.pieces.Location.{Location}
use Rattle.ec_select_order.specs.declared.relations.Relation.{Relation}
use Rattle.ec_select_order.specs.declared.relations.Relation.TheVariants.{Less, NotLess, Equal, NotEqual}
use Rattle.ec_select_order.specs.Relations.{relation_code}
use Rattle.ec_fxcode_sums.specs.Sums.{aligned_bytes, second_at, align_code}

-- whether two numbers in this order stand in a relation: less, not less (equal or greater), equal, or not equal (less
-- or greater)
abbrev pub stands_in : Relation → Ordering → Bool
stands_in Less order = is_lt order
stands_in NotLess order = is_ge order
stands_in Equal order = is_eq order
stands_in NotEqual order = is_ne order

-- whether the number of a bytes at p stands in a relation to that of b bytes at c, by the work bytes at w
abbrev pub order_code : Relation → (f g : Format) → (p c w : Location) → (a b : ℕ) → List AsmItem
order_code r f g p c w a b =
    align_code f g p c w a b (aligned_bytes f g a b)
    ++ relation_code r true w (second_at w) (aligned_bytes f g a b)
