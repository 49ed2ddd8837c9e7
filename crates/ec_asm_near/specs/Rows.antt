-- The items of a row.
use Rattle.std.specs.Prelude.{List, [], ◌∷◌}
use Rattle.ec_asm.specs.declared.items.AsmItem.{AsmItem}
use Rattle.ec_asm_near.specs.declared.rows.Row.{Row}
use Rattle.ec_asm_near.specs.declared.rows.Row.TheVariants.{One, Two}

abbrev pub items_of : Row → List AsmItem
items_of (One i) = i ∷ []
items_of (Two i j) = i ∷ j ∷ []
