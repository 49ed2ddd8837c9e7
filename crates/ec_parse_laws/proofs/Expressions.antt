-- How expressions begin and end, and their arguments as lists.
use Rattle.std.proofs.Common.{◌≡◌, ℕ, ◌<◌, ◌≤◌, List, [], ◌∷◌, length, true, Some, None, refl, ap, arith}
use Rattle.ec_grammar.specs.declared.token.PunctKind.{PunctKind}
use Rattle.ec_grammar.specs.declared.token.PunctKind.TheVariants.{LeftParenthesis, RightParenthesis, LeftBracket, Comma, Increment}
use Rattle.ec_grammar.specs.declared.token.PunctKind.TheVariants.{Decrement, Dot}
use Rattle.ec_grammar.specs.declared.Spot.{Spot}
use Rattle.ec_grammar.specs.Trees as t
use Rattle.ec_grammar.specs.Trees.{Leaf}
use Rattle.ec_grammar.specs.Spelling.{mark, of_list, of_type_name, of_assignment, of_further}
use Rattle.ec_grammar.specs.Grammar.{level_of, rank, is_step, is_prefix, Is_type_name}
use Rattle.ec_parse_laws.specs.Reading.{leaf_if, punct_if, further_of, argument_at, suffix_by, cast_at, within}
use Rattle.ec_parse_laws.proofs.Basics.{inner_at}
use Rattle.ec_parse_laws.proofs.Follow.{Closed, no_punct, no_access, no_step, taken_self}
use Rattle.ec_parse_laws.proofs.Past.{assignment_past, past_length}
use Rattle.ec_parse_laws.proofs.Lists.{type_name_starts}

abbrev pub of_pair : Spot × t.Assignment → List Leaf → List Leaf
of_pair x rest = mark x.0 Comma ∷ of_assignment x.1 rest

abbrev pub pairs_of : t.Further → List (Spot × t.Assignment)
pairs_of t.no_further = []
pairs_of (t.further s a more) = (s, a) ∷ pairs_of more

pub further_pairs : (more : t.Further) → further_of (pairs_of more) ≡ more
further_pairs t.no_further = refl
further_pairs (t.further s a more) = ap (t.further s a) (further_pairs more)

pub of_pairs : (more : t.Further) (rest : List Leaf) → of_list of_pair (pairs_of more) rest ≡ of_further more rest
of_pairs t.no_further rest = refl
of_pairs (t.further s a more) rest = ap (λ z. mark s Comma ∷ of_assignment a z) (of_pairs more rest)

-- ---- arguments

pub pair_long : (x : Spot × t.Assignment) (rest : List Leaf) → length rest < length (of_pair x rest)
pair_long x rest = omega (arith, past_length rest (of_assignment x.1 rest) (assignment_past x.1 rest))

pub no_argument : (limit m : ℕ) (r : Spot) (rest : List Leaf) → argument_at (inner_at limit m) (mark r RightParenthesis ∷ rest) ≡ None
unfolding leaf_if
no_argument limit m r rest = refl

pub further_closed : (more : t.Further) (r : Spot) (rest : List Leaf) → Closed 13 (of_further more (mark r RightParenthesis ∷ rest))
further_closed t.no_further r rest = omega arith
further_closed (t.further s a more) r rest = omega arith

-- ---- postfix expressions

pub no_suffix : (limit n room : ℕ) (p : t.Postfix) (ts : List Leaf) → Closed 1 ts → suffix_by (within limit n) room p ts ≡ None
unfolding suffix_by
no_suffix limit n room p ts c =
    rw (no_punct 1 LeftBracket ts (omega arith) c, no_punct 1 LeftParenthesis ts (omega arith) c, no_access ts c, no_step ts c) refl

-- ---- unary and cast expressions

pub not_prefix : (op : PunctKind) (s : Spot) (rest : List Leaf) → is_step op ≡ true → leaf_if (punct_if is_prefix) (mark s op ∷ rest) ≡ None
unfolding leaf_if
not_prefix Increment s rest e = refl
not_prefix Decrement s rest e = refl
not_prefix _ s rest e = absurd cc

pub cast_opens : (l : Spot) (ty : t.TypeName) (rest : List Leaf) → Is_type_name ty
    → cast_at (mark l LeftParenthesis ∷ of_type_name ty rest) ≡ Some (l, LeftParenthesis, of_type_name ty rest)
unfolding cast_at
cast_opens l ty rest is = rw (taken_self LeftParenthesis l (of_type_name ty rest), (type_name_starts ty rest is).1) refl

-- ---- conditionals, assignments and commas

level_top : (op : PunctKind) → level_of op ≤ 10
level_top Dot = omega arith
level_top _ = omega arith

pub rank_top : (b : t.Binary) → rank b ≤ 10
rank_top (t.operand c) = omega arith
rank_top (t.join a s op b) = level_top op
