-- What each kind of node tells, and binary operators.
use Rattle.std.proofs.Common.{◌≡◌, ℕ, zero, suc, ◌≤◌, List, ◌∷◌, length, refl, arith, inl, inr}
use Rattle.std.proofs.lemmas.Bool.{eq-eqb, cases_lt}
use Rattle.ec_grammar.specs.declared.token.PunctKind.{PunctKind}
use Rattle.ec_grammar.specs.declared.Spot.{Spot}
use Rattle.ec_grammar.specs.Trees as t
use Rattle.ec_grammar.specs.Trees.{Leaf}
use Rattle.ec_grammar.specs.Spelling.{mark, of_binary, of_cast}
use Rattle.ec_grammar.specs.Grammar.{level_of, rank, Is_binary, Is_cast}
use Rattle.ec_grammar.specs.Nesting as nest
use Rattle.ec_parse_laws.specs.Reading.{at_level, room_after, joins_by, binary_by, within, cast_by, primary_by, unary_by, conditional_by}
use Rattle.ec_parse_laws.specs.Reading.{assignment_by}
use Rattle.ec_parse_laws.specs.Passing.{High, PassesBinary, PassesCast}
use Rattle.ec_parse_laws.proofs.Basics.{after_fits, after_le}
use Rattle.ec_parse_laws.proofs.Follow.{Closed, closed_down, no_operator, operator_closed, taken_if_self}
use Rattle.ec_parse_laws.proofs.Fitting.{after_room, binary_high}
use Rattle.ec_parse_laws.proofs.Fits.{fits_primary, fits_unary, fits_cast, fits_binary, fits_conditional, fits_assignment}
use Rattle.ec_parse_laws.proofs.Told.{Told, FitsIn, Chain, Either, told_high, told_high_two, told_then, chain_begin, chain_step, chain_end}

-- ---- nodes and their own last tokens

pub primary_topped : {F : Type 0} {Q : ℕ → Type 0} (limit n room cap : ℕ) (ts : List Leaf) (x : t.Primary) (rest : List Leaf)
    → room ≤ limit → Told cap F Q (primary_by (within limit n) room ts) x rest
    → Told cap F (Either Q (High limit (nest.height_primary x) rest)) (primary_by (within limit n) room ts) x rest
primary_topped limit n room cap ts x rest le h =
    told_high limit (nest.height_primary x) cap _ _ x rest (λ e. omega (arith, (fits_primary limit n room le ts (x, rest) e).0, le)) h

pub unary_topped : {F : Type 0} {Q : ℕ → Type 0} (limit n room cap : ℕ) (ts : List Leaf) (x : t.Unary) (rest : List Leaf)
    → room ≤ limit → Told cap F Q (unary_by (within limit n) room ts) x rest
    → Told cap F (Either Q (High limit (nest.height_unary x) rest)) (unary_by (within limit n) room ts) x rest
unary_topped limit n room cap ts x rest le h =
    told_high limit (nest.height_unary x) cap _ _ x rest (λ e. omega (arith, (fits_unary limit n room le ts (x, rest) e).0, le)) h

pub cast_topped : {F : Type 0} {Q : ℕ → Type 0} (limit n room cap : ℕ) (ts : List Leaf) (x : t.Cast) (rest : List Leaf)
    → room ≤ limit → Told cap F Q (cast_by (within limit n) room ts) x rest
    → Told cap F (Either Q (High limit (nest.height_cast x) rest)) (cast_by (within limit n) room ts) x rest
cast_topped limit n room cap ts x rest le h =
    told_high limit (nest.height_cast x) cap _ _ x rest (λ e. omega (arith, (fits_cast limit n room le ts (x, rest) e).0, le)) h

pub conditional_topped : {F : Type 0} {P Q : ℕ → Type 0} (limit n room cap : ℕ) (ts : List Leaf) (x : t.Conditional) (rest : List Leaf)
    → room ≤ limit → Told cap F (Either P Q) (conditional_by (within limit n) room ts) x rest
    → Told cap F (Either P (Either Q (High limit (nest.height_conditional x) rest))) (conditional_by (within limit n) room ts) x rest
conditional_topped limit n room cap ts x rest le h = told_high_two limit (nest.height_conditional x) cap _ _ _ x rest
    (λ e. omega (arith, (fits_conditional limit n room le ts (x, rest) e).0, le)) h

pub assignment_topped : {F : Type 0} {P Q : ℕ → Type 0} (limit n room cap : ℕ) (ts : List Leaf) (x : t.Assignment) (rest : List Leaf)
    → room ≤ limit → Told cap F (Either P Q) (assignment_by (within limit n) room ts) x rest
    → Told cap F (Either P (Either Q (High limit (nest.height_assignment x) rest))) (assignment_by (within limit n) room ts) x rest
assignment_topped limit n room cap ts x rest le h = told_high_two limit (nest.height_assignment x) cap _ _ _ x rest
    (λ e. omega (arith, (fits_assignment limit n room le ts (x, rest) e).0, le)) h

-- ---- binary operators

abbrev pub TellsCast : t.Cast → Type 0
TellsCast c = (limit n room : ℕ) (rest : List Leaf) → room ≤ limit → Is_cast c → Closed 1 rest
    → Told (length (of_cast c rest)) (FitsIn room n (nest.height_cast c) (nest.opens_cast c)) (λ q. PassesCast limit n c rest q)
    (cast_by (within limit n) room (of_cast c rest)) c rest

abbrev FitsBinary : ℕ → ℕ → t.Binary → Type 0
FitsBinary room n b = FitsIn room n (nest.height_binary b) (nest.opens_binary b)

-- told whole at a level
abbrev ToldBinary : ℕ → ℕ → ℕ → ℕ → t.Binary → List Leaf → Type 0
ToldBinary limit n level room b rest = Told (length (of_binary b rest)) (FitsBinary room n b) (λ q. PassesBinary limit n b rest q)
    (binary_by (within limit n) level room (of_binary b rest)) b rest

-- told up to here at a level, and to be gone on with
abbrev ChainedBinary : ℕ → ℕ → ℕ → ℕ → t.Binary → List Leaf → Type 0
ChainedBinary limit n level room b rest = Chain (length (of_binary b rest)) (λ q. PassesBinary limit n b rest q)
    (FitsBinary room n b) limit (nest.height_binary b) (binary_by (within limit n) (suc level) room (of_binary b rest))
    (λ k. joins_by (binary_by (within limit n) level) (suc level) room k b rest) rest

pub record TellsBinary (b : t.Binary) : Type 0 where
  pub full : (limit n level room : ℕ) (rest : List Leaf) → room ≤ limit → Is_binary b → rank b ≤ level → Closed (suc level) rest
      → ToldBinary limit n level room b rest
  pub chained : (limit n level room : ℕ) (rest : List Leaf) → room ≤ limit → Is_binary b → rank b ≤ suc level → Closed (suc level) rest
      → ChainedBinary limit n level room b rest

binary_ends : (limit n level room : ℕ) (b : t.Binary) (rest : List Leaf) → ChainedBinary limit n level room b rest
    → Closed (suc (suc level)) rest → ToldBinary limit n (suc level) room b rest
unfolding joins_by
binary_ends limit n level room b rest h c =
    chain_end limit (nest.height_binary b) _ (λ k. joins_by (binary_by (within limit n) level) (suc level) room k b rest) b rest h
    (λ k. rw (no_operator (suc level) rest (omega arith) c) refl)

binary_chained : (limit n level room : ℕ) (b : t.Binary) (rest : List Leaf) → room ≤ limit → ToldBinary limit n level room b rest
    → ChainedBinary limit n level room b rest
unfolding binary_by
binary_chained limit n level room b rest le h =
    chain_begin (FitsBinary room n b) limit (nest.height_binary b) (binary_by (within limit n) level room (of_binary b rest)) _
    (λ k. joins_by (binary_by (within limit n) level) (suc level) room k b rest) b rest h
    (λ e. fits_binary limit n room le level (of_binary b rest) (b, rest) e) (λ f. omega (arith, f.0, le)) refl

operand_full : (c : t.Cast) → TellsCast c → (limit n level room : ℕ) (rest : List Leaf) → room ≤ limit → Is_cast c → Closed (suc level) rest
    → ToldBinary limit n level room (t.operand c) rest
unfolding binary_by
operand_full c tells limit n zero room rest le is cl =
    told_then _ _ c rest (t.operand c) rest (tells limit n room rest le is cl) refl (omega arith)
operand_full c tells limit n (suc level) room rest le is cl =
    binary_ends limit n level room (t.operand c) rest (binary_chained limit n level room (t.operand c) rest le
    (operand_full c tells limit n level room rest le is (closed_down (suc level) (suc (suc level)) rest (omega arith) cl))) cl

pub binary_operand : (c : t.Cast) → TellsCast c → TellsBinary (t.operand c)
binary_operand c tells = record {
  full = λ limit n level room rest le is low cl. operand_full c tells limit n level room rest le is cl;
  chained = λ limit n level room rest le is low cl.
      binary_chained limit n level room (t.operand c) rest le (operand_full c tells limit n level room rest le is cl);
}

join_at : (a : t.Binary) (s : Spot) (op : PunctKind) (b : t.Binary) → TellsBinary a → TellsBinary b
    → (limit n level room : ℕ) (rest : List Leaf) → room ≤ limit → Is_binary (t.join a s op b) → level_of op ≡ suc level
    → Closed (suc level) rest → ChainedBinary limit n level room (t.join a s op b) rest
unfolding joins_by
join_at a s op b tells_a tells_b limit n level room rest le is e cl =
    let behind : ℕ = room_after room (nest.height_binary a) in
    let fewer : behind ≤ limit = after_le room (nest.height_binary a) limit le in
    chain_step (FitsBinary room n (t.join a s op b)) limit (nest.height_binary a) (nest.height_binary (t.join a s op b)) _
    (λ k. joins_by (binary_by (within limit n) level) (suc level) room k a (mark s op ∷ of_binary b rest))
    (λ k. joins_by (binary_by (within limit n) level) (suc level) room k (t.join a s op b) rest)
    (mark s op ∷ of_binary b rest) (binary_by (within limit n) level behind (of_binary b rest))
    (λ k z. joins_by (binary_by (within limit n) level) (suc level) room k (t.join a s op z.0) z.1) b rest
    (tells_a.chained limit n level room (mark s op ∷ of_binary b rest) le is.0 (omega (arith, is.2, e))
    (operator_closed op level s (of_binary b rest) e))
    (tells_b.full limit n level behind rest fewer is.1 (omega (arith, is.3, e)) cl) (omega arith)
    (λ k. rw (taken_if_self (at_level (suc level)) op s (of_binary b rest) (eq-eqb _ _ e)) refl) (λ k. refl)
    (λ f d. (
      after_room room (nest.height_binary a) (nest.height_binary b) (binary_high b)
          (fits_binary limit n behind fewer level (of_binary b rest) (b, rest) d).0,
      omega (arith, f.1, (fits_binary limit n behind fewer level (of_binary b rest) (b, rest) d).1),
    ))
    (λ f. omega (arith, f.0, le)) (omega arith) (λ f. (omega (arith, f.0), omega (arith, f.1)))
    (λ f. (after_fits room (nest.height_binary a) (nest.height_binary b) f.0, omega (arith, f.1)))

join_full : (a : t.Binary) (s : Spot) (op : PunctKind) (b : t.Binary) → TellsBinary a → TellsBinary b
    → (limit n level room : ℕ) (rest : List Leaf) → room ≤ limit → Is_binary (t.join a s op b) → level_of op ≤ level
    → Closed (suc level) rest → ToldBinary limit n level room (t.join a s op b) rest
join_full a s op b tells_a tells_b limit n zero room rest le is low cl = absurd (omega (arith, is.3))
join_full a s op b tells_a tells_b limit n (suc level) room rest le is low cl =
    let tighter : Closed (suc level) rest = closed_down (suc level) (suc (suc level)) rest (omega arith) cl in
    elim (cases_lt (level_of op) (suc level)) [
      | inl lt ↦ binary_ends limit n level room (t.join a s op b) rest (binary_chained limit n level room (t.join a s op b) rest le
          (join_full a s op b tells_a tells_b limit n level room rest le is (omega (arith, lt)) tighter)) cl
      | inr ge ↦ binary_ends limit n level room (t.join a s op b) rest
          (join_at a s op b tells_a tells_b limit n level room rest le is (omega (arith, ge, low)) tighter) cl
    ]

join_chained : (a : t.Binary) (s : Spot) (op : PunctKind) (b : t.Binary) → TellsBinary a → TellsBinary b
    → (limit n level room : ℕ) (rest : List Leaf) → room ≤ limit → Is_binary (t.join a s op b) → level_of op ≤ suc level
    → Closed (suc level) rest → ChainedBinary limit n level room (t.join a s op b) rest
join_chained a s op b tells_a tells_b limit n level room rest le is low cl =
    elim (cases_lt (level_of op) (suc level)) [
      | inl lt ↦ binary_chained limit n level room (t.join a s op b) rest le
          (join_full a s op b tells_a tells_b limit n level room rest le is (omega (arith, lt)) cl)
      | inr ge ↦ join_at a s op b tells_a tells_b limit n level room rest le is (omega (arith, ge, low)) cl
    ]

pub binary_join : (a : t.Binary) (s : Spot) (op : PunctKind) (b : t.Binary) → TellsBinary a → TellsBinary b → TellsBinary (t.join a s op b)
binary_join a s op b tells_a tells_b = record {
  full = λ limit n level room rest le is low cl. join_full a s op b tells_a tells_b limit n level room rest le is low cl;
  chained = λ limit n level room rest le is low cl. join_chained a s op b tells_a tells_b limit n level room rest le is low cl;
}
