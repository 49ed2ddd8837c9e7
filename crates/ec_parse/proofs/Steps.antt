-- A step of reading statements that the search does not find.
use Rattle.std.proofs.Common.{◌≡◌, ℕ, suc, List, Ok, Err, refl}
use Rattle.std.specs.Prelude.{max}
use Rattle.ec_grammar.specs.declared.token.PunctKind.TheVariants.{Semicolon}
use Rattle.ec_grammar.specs.declared.token.WordKind.TheVariants as words
use Rattle.ec_grammar.specs.declared.Spot.{Spot}
use Rattle.ec_grammar.specs.Nesting.{height_condition, height_statement}
use Rattle.ec_grammar.specs.Trees as t
use Rattle.ec_grammar.specs.Trees.{Leaf}
use Rattle.ec_parse_laws.specs.Reading.{Depth, Read, ◌>>=◌, expected, expected_word, ends, condition_by, substatement, do_by}
use Rattle.ec_parse.specs.Statements.{again_of, do_after}

-- what follows the body of a `do`, its head read at once
head_of_do : (inner : Depth) (room : ℕ) (s : Spot) (b : t.Statement) (r : Read Spot)
    → (r >>= λ w. condition_by inner w.1 >>= λ c. expected Semicolon c.1 >>= λ e.
    ends room (suc (max (height_statement b) (height_condition c.0))) (t.do_loop s b w.0 c.0 e.0) e.1)
    ≡ ((r >>= λ w. condition_by inner w.1 >>= λ c. expected Semicolon c.1 >>= λ e. again_of w.0 c.0 e.0 e.1)
    >>= λ a. ends room (suc (max (height_statement b) (height_condition a.0.1))) (t.do_loop s b a.0.0 a.0.1 a.0.2) a.1)
head_of_do inner room s b (Err f) = refl
head_of_do inner room s b (Ok w) = test (condition_by inner w.1)
  where
    semicolon : (c : t.Condition) (q : Read Spot)
        → (q >>= λ e. ends room (suc (max (height_statement b) (height_condition c))) (t.do_loop s b w.0 c e.0) e.1)
        ≡ ((q >>= λ e. again_of w.0 c e.0 e.1)
        >>= λ a. ends room (suc (max (height_statement b) (height_condition a.0.1))) (t.do_loop s b a.0.0 a.0.1 a.0.2) a.1)
    semicolon c (Err f) = refl
    semicolon c (Ok e) = refl

    test : (p : Read t.Condition)
        → (p >>= λ c. expected Semicolon c.1 >>= λ e.
        ends room (suc (max (height_statement b) (height_condition c.0))) (t.do_loop s b w.0 c.0 e.0) e.1)
        ≡ ((p >>= λ c. expected Semicolon c.1 >>= λ e. again_of w.0 c.0 e.0 e.1)
        >>= λ a. ends room (suc (max (height_statement b) (height_condition a.0.1))) (t.do_loop s b a.0.0 a.0.1 a.0.2) a.1)
    test (Err f) = refl
    test (Ok c) = semicolon c.0 (expected Semicolon c.1)

pub do_up : (inner : Depth) (room : ℕ) (s : Spot) (ts : List Leaf) (b : t.Statement) (rest : List Leaf)
    → substatement inner inner.limit ts ≡ Ok (b, rest) → do_by inner room s ts ≡ do_after inner room s b rest
unfolding do_by
do_up inner room s ts b rest e = rw e (head_of_do inner room s b (expected_word words.While rest))
