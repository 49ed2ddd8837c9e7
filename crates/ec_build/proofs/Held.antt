-- The numbers and the lengths of the units of texts.
use Rattle.std.proofs.Common.{◌≡◌, ◌≤◌, ℕ, suc, List, [], ◌∷◌, length, map, refl, ap, subst, arith}
use Rattle.std.specs.List.{AllByRecursion}
use Rattle.ec_space.specs.Listed.{Listed}
use Rattle.ec_grammar.specs.declared.Tree.{Tree}
use Rattle.ec_grammar.specs.Grammar.{leaves_from}
use Rattle.ec_grammar.specs.Spelling.{of_tree}
use Rattle.ec_grammar.specs.Tokens.{Placed}
use Rattle.ec_grammar.specs.Trees as t
use Rattle.ec_grammar.specs.Views.{view_tree}
use Rattle.ec_lex_laws.specs.Laws.{IsHeld, TextsHoldNumbers}
use Rattle.ec_check_expression_laws.specs.Suits.{AreHeld}
use Rattle.ec_check.specs.Laws.{AreShort}
use Rattle.ec_check.specs.Validity.{HoldNumbers}
use Rattle.ec_parse_sources.specs.Units.{IsUnit, AreUnits}

leaves_hold : (n : ℕ) (list : List Placed) → AllByRecursion (λ token. IsHeld token.lexeme) list → AreHeld (leaves_from n list)
leaves_hold n [] h = tt
leaves_hold n (x ∷ list) h = (h.0, leaves_hold (suc n) list h.1)

as_many_leaves : (n : ℕ) (list : List Placed) → length (leaves_from n list) ≡ length list
as_many_leaves n [] = refl
as_many_leaves n (x ∷ list) = ap suc (as_many_leaves (suc n) list)

-- each constant of a unit stands for a number of its type
unit_holds : TextsHoldNumbers → (bytes : List ℕ) (u : t.Tree) → IsUnit bytes u → AreHeld (of_tree u [])
unit_holds hold bytes u h =
    subst AreHeld h.parsed.derived.0 (leaves_hold 0 h.list (hold bytes h.list h.lexed.tokens))

-- and it has at most 65,536 tokens
unit_is_short : (bytes : List ℕ) (u : t.Tree) → IsUnit bytes u → length (of_tree u []) ≤ 65_536
unit_is_short bytes u h =
    let same = ap length h.parsed.derived.0 in
    let many = as_many_leaves 0 h.list in
    let few = h.lexed.few in
    omega (arith, same, many, few)

pub units_hold : TextsHoldNumbers → (sources : List (List ℕ)) (units : List t.Tree) → AreUnits sources units → HoldNumbers units
units_hold hold [] [] h = tt
units_hold hold [] (u ∷ units) h = absurd h
units_hold hold (s ∷ sources) [] h = absurd h
units_hold hold (s ∷ sources) (u ∷ units) h = (unit_holds hold s u h.0, units_hold hold sources units h.1)

pub units_are_short : (sources : List (List ℕ)) (units : List t.Tree) → AreUnits sources units → AreShort units
units_are_short [] [] h = tt
units_are_short [] (u ∷ units) h = absurd h
units_are_short (s ∷ sources) [] h = absurd h
units_are_short (s ∷ sources) (u ∷ units) h = (unit_is_short s u h.0, units_are_short sources units h.1)

-- there are as many units as texts
pub as_many_units : (sources : List (Listed ℕ)) (trees : List Tree) → AreUnits (map (λ s. s.items) sources) (map view_tree trees)
    → length trees ≡ length sources
as_many_units [] [] h = refl
as_many_units [] (u ∷ trees) h = absurd h
as_many_units (s ∷ sources) [] h = absurd h
as_many_units (s ∷ sources) (u ∷ trees) h = ap suc (as_many_units sources trees h.1)
