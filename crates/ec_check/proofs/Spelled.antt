-- Texts within the limit of tokens define few structs.
use Rattle.std.proofs.Common.{◌≤◌, ◌+◌, ◌*◌, ℕ, List, [], ◌∷◌, length, arith}
use Rattle.ec_grammar.specs.declared.token.PunctKind.TheVariants.{LeftBrace, RightBrace, Semicolon}
use Rattle.ec_grammar.specs.Spelling.{mark, leaf, of_list, of_identifier, of_member, of_structure, of_external, of_tree}
use Rattle.ec_grammar.specs.Tokens as tokens
use Rattle.ec_grammar.specs.Trees as t
use Rattle.ec_grammar.specs.Trees.{Leaf}
use Rattle.ec_check.specs.Laws.{structs_in_external, structs_in_externals, structs_in_unit, structs_defined, AreShort, StructsAreFew}
use Rattle.ec_check.proofs.Tokens.{past_identifier, past_member, past_members, past_external}

-- no more tokens than so many
abbrev AtMost : ℕ → List Leaf → Type 0
AtMost n xs = length xs ≤ n

fewer : (n : ℕ) (x : Leaf) (xs : List Leaf) → AtMost n (x ∷ xs) → AtMost n xs
fewer n x xs h = omega (arith, h)

behind_structure : (x : t.Structure) (rest : List Leaf) → length rest + 1 ≤ length (of_structure x rest)
behind_structure (t.structure s tag l m more r e) rest =
    let last = mark r RightBrace ∷ mark e Semicolon ∷ rest in
    let inside = of_member m (of_list of_member more last) in
    let all = of_identifier tag (mark l LeftBrace ∷ inside) in
    let n = length all in
    let a = past_identifier (AtMost n) (fewer n) tag (mark l LeftBrace ∷ inside) (omega arith) in
    let b = past_member (AtMost n) (fewer n) m (of_list of_member more last) (fewer n (mark l LeftBrace) inside a) in
    let c = past_members (AtMost n) (fewer n) more last b in
    omega (arith, c)

behind_external : (x : t.External) (rest : List Leaf) → length rest ≤ length (of_external x rest)
behind_external x rest =
    let n = length (of_external x rest) in
    past_external (AtMost n) (fewer n) x rest (omega arith)

external_spelled : (x : t.External) (rest : List Leaf) → structs_in_external x + length rest ≤ length (of_external x rest)
external_spelled (t.pragma_item p) rest = let h = behind_external (t.pragma_item p) rest in omega (arith, h)
external_spelled (t.structure_item s) rest = let h = behind_structure s rest in omega (arith, h)
external_spelled (t.register_item d) rest = let h = behind_external (t.register_item d) rest in omega (arith, h)
external_spelled (t.declaration_item d) rest = let h = behind_external (t.declaration_item d) rest in omega (arith, h)
external_spelled (t.function_item f) rest = let h = behind_external (t.function_item f) rest in omega (arith, h)

externals_spelled : (xs : List t.External) (rest : List Leaf) → structs_in_externals xs + length rest ≤ length (of_list of_external xs rest)
externals_spelled [] rest = omega arith
externals_spelled (x ∷ xs) rest =
    let a = external_spelled x (of_list of_external xs rest) in
    let b = externals_spelled xs rest in
    omega (arith, a, b)

unit_spelled : (u : t.Tree) → structs_in_unit u ≤ length (of_tree u [])
unit_spelled (t.tree xs end) = let h = externals_spelled xs (leaf end tokens.end ∷ []) in omega (arith, h)

units_spelled : (us : List t.Tree) → AreShort us → structs_defined us ≤ 65_536 * length us
units_spelled [] h = omega arith
units_spelled (u ∷ us) h =
    let a = unit_spelled u in
    let b = units_spelled us h.1 in
    let few = h.0 in
    omega (arith, a, b, few)

pub structs_are_few : StructsAreFew
structs_are_few us short most =
    let h = units_spelled us short in
    omega (arith, h, most)
