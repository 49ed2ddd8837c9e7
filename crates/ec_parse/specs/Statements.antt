-- Parts of statements, as the functions of the parser see them.
use Rattle.std.specs.Prelude.{ℕ, suc, ◌≡◌, ◌≤◌, max, List, Ok}
use Rattle.ec_grammar.specs.declared.token.PunctKind.TheVariants.{Semicolon}
use Rattle.ec_grammar.specs.declared.token.WordKind.TheVariants as words
use Rattle.ec_grammar.specs.declared.Spot.{Spot}
use Rattle.ec_grammar.specs.Nesting.{height_condition, height_statement}
use Rattle.ec_grammar.specs.Trees as t
use Rattle.ec_grammar.specs.Trees.{Leaf}
use Rattle.ec_parse_laws.specs.Reading.{Depth, Read, ◌>>=◌, expected, expected_word, ends, condition_by}

-- what stands behind the body of a `do`: the word, the condition and the semicolon
abbrev pub again_of : Spot → t.Condition → Spot → List Leaf → Read (Spot × t.Condition × Spot)
again_of w c e ts = Ok ((w, c, e), ts)

abbrev pub again_by : Depth → List Leaf → Read (Spot × t.Condition × Spot)
again_by inner ts =
    expected_word words.While ts >>= λ w. condition_by inner w.1 >>= λ c. expected Semicolon c.1 >>= λ e.
    again_of w.0 c.0 e.0 e.1

-- what follows the body of a `do`
abbrev pub do_after : Depth → ℕ → Spot → t.Statement → List Leaf → Read t.Statement
do_after inner room s b ts =
    again_by inner ts >>= λ a.
    ends room (suc (max (height_statement b) (height_condition a.0.1))) (t.do_loop s b a.0.0 a.0.1 a.0.2) a.1

-- It is this height, and that of what was made.
abbrev pub IsKnownHeight : ℕ → ℕ → ℕ → Type 0
IsKnownHeight known height h = (h ≡ height) × (h ≡ known)

-- A node of this height has parts of that one.
abbrev pub HasHeightAbove : ℕ → ℕ → Type 0
HasHeightAbove height below = (height ≡ suc below) × (below ≤ 64)
