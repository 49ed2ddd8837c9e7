-- Lists of items, as loops build them.
use Rattle.std.proofs.Common.{◌≡◌, List, [], ◌∷◌, ◌++◌, map, refl, ap, arith}
use Rattle.std.specs.Prelude.{max}
use Rattle.ec_grammar.specs.declared.Item.{Item}
use Rattle.ec_grammar.specs.Trees as t
use Rattle.ec_grammar.specs.Nesting.{height_items, height_item}
use Rattle.ec_grammar.specs.Views.{views_items, view_item}
use Rattle.ec_parse_laws.specs.Reading.{items_of}

pub items_map : (xs : List Item) → items_of (map view_item xs) ≡ views_items xs
items_map [] = refl
items_map (x ∷ xs) = ap (t.items (view_item x)) (items_map xs)

-- the height of a list with one more

pub items_height : (xs : List Item) (x : Item)
    → height_items (items_of (map view_item (xs ++ x ∷ []))) ≡ max (height_items (items_of (map view_item xs))) (height_item (view_item x))
items_height [] x = omega arith
items_height (y ∷ ys) x = let e = items_height ys x in omega (arith, e)
