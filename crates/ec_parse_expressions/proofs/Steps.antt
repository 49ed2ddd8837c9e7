-- Steps of reading expressions that the search does not find.
use Rattle.std.proofs.Common.{◌≡◌, ℕ, zero, suc, ◌-◌, ◌<◌, List, map, Ok, refl, sym, ap, ◌∙◌, arith}
use Rattle.ec_grammar.specs.declared.Argument.{Argument}
use Rattle.ec_grammar.specs.Trees as t
use Rattle.ec_grammar.specs.Trees.{Leaf}
use Rattle.ec_parse_laws.specs.Reading.{Inner, Depth, many, argument_at, further_of, further_by, binary_by, joins_by, chain}
use Rattle.ec_parse_tokens.specs.declared.stop.ReadError.{ReadError}
use Rattle.ec_parse_tokens.specs.declared.stop.ReadError.TheVariants as errors
use Rattle.ec_parse_tokens.specs.Reads.{Fails}
use Rattle.ec_parse_expressions.specs.Parts.{view_argument}

pub further_is : (i : Inner) (ts : List Leaf) (xs : List Argument) (rest : List Leaf)
    → many (argument_at i) ts ≡ Ok (map view_argument xs, rest) → further_by i ts ≡ Ok (further_of (map view_argument xs), rest)
unfolding further_by
further_is i ts xs rest e = rw e refl

pub further_fails : (i : Inner) (ts : List Leaf) (e : ReadError) → Fails e (many (argument_at i) ts) → Fails e (further_by i ts)
unfolding further_by
further_fails i ts errors.NoMemory h = tt
further_fails i ts (errors.Syntax n) h = rw h refl
further_fails i ts (errors.TooDeep n) h = rw h refl

pub level_up : (inner : Depth) (level room : ℕ) (ts : List Leaf) (a : t.Binary) (rest : List Leaf) → 0 < level
    → binary_by inner (level - 1) room ts ≡ Ok (a, rest)
    → binary_by inner level room ts ≡ joins_by (binary_by inner (level - 1)) level room (chain inner) a rest
unfolding binary_by
level_up inner zero room ts a rest lt e = absurd (omega (arith, lt))
level_up inner (suc n) room ts a rest lt e =
    let k : suc n - 1 ≡ n = omega arith in
    let h : binary_by inner n room ts ≡ Ok (a, rest) = ap (λ m. binary_by inner m room ts) (sym k) ∙ e in
    rw (k, h) refl
