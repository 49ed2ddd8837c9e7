-- Lists that trees hold, as loops build them.
use Rattle.std.proofs.Common.{◌≡◌, List, [], ◌∷◌, ◌++◌, map, refl, ap, arith}
use Rattle.std.specs.Prelude.{max}
use Rattle.ec_grammar.specs.declared.Argument.{Argument}
use Rattle.ec_grammar.specs.Trees as t
use Rattle.ec_grammar.specs.Nesting.{height_further, height_assignment}
use Rattle.ec_grammar.specs.Views.{views_further, view_assignment}
use Rattle.ec_parse_laws.specs.Reading.{further_of}
use Rattle.ec_parse_expressions.specs.Parts.{view_argument}

pub further_map : (xs : List Argument) → further_of (map view_argument xs) ≡ views_further xs
further_map [] = refl
further_map (x ∷ xs) = ap (t.further x.comma (view_assignment x.value)) (further_map xs)

pub further_height : (xs : List Argument) (x : Argument) → height_further (further_of (map view_argument (xs ++ x ∷ [])))
    ≡ max (height_further (further_of (map view_argument xs))) (height_assignment (view_assignment x.value))
further_height [] x = omega arith
further_height (y ∷ ys) x = let e = further_height ys x in omega (arith, e)
