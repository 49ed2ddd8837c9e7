-- Lists of initialisers and declarators, as loops build them.
use Rattle.std.proofs.Common.{◌≡◌, ℕ, List, [], ◌∷◌, ◌++◌, map, refl, ap, arith}
use Rattle.std.specs.Prelude.{max}
use Rattle.ec_grammar.specs.declared.NextInitialiser.{NextInitialiser}
use Rattle.ec_grammar.specs.Trees as t
use Rattle.ec_grammar.specs.Nesting.{height_list, height_initialisers, height_initialiser}
use Rattle.ec_grammar.specs.Views.{views_initialisers, view_initialiser}
use Rattle.ec_parse_laws.specs.Reading.{initialisers_of}
use Rattle.ec_parse_declarations.specs.Parts.{view_next_initialiser}

pub initialisers_map : (xs : List NextInitialiser) → initialisers_of (map view_next_initialiser xs) ≡ views_initialisers xs
initialisers_map [] = refl
initialisers_map (x ∷ xs) = ap (t.initialisers x.comma (view_initialiser x.value)) (initialisers_map xs)

-- the height of a list with one more

pub list_height : {A B : Type 0} (height : B → ℕ) (view : A → B) (xs : List A) (x : A)
    → height_list height (map view (xs ++ x ∷ [])) ≡ max (height_list height (map view xs)) (height (view x))
list_height height view [] x = omega arith
list_height height view (y ∷ ys) x = let e = list_height height view ys x in omega (arith, e)

pub initialisers_height : (xs : List NextInitialiser) (x : NextInitialiser)
    → height_initialisers (initialisers_of (map view_next_initialiser (xs ++ x ∷ [])))
    ≡ max (height_initialisers (initialisers_of (map view_next_initialiser xs))) (height_initialiser (view_initialiser x.value))
initialisers_height [] x = omega arith
initialisers_height (y ∷ ys) x = let e = initialisers_height ys x in omega (arith, e)
