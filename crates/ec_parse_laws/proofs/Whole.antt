-- The laws of reading.
use Rattle.std.proofs.Common.{◌≡◌, ℕ, ◌+◌, ◌≤◌, List, Ok, sym, ap, ◌∙◌, arith, inl, inr}
use Rattle.ec_grammar.specs.Tokens.{Placed}
use Rattle.ec_grammar.specs.Trees as t
use Rattle.ec_grammar.specs.Grammar.{leaves_from, Derives}
use Rattle.ec_grammar.specs.Nesting as nest
use Rattle.ec_grammar.specs.Nesting.{NestsIn}
use Rattle.ec_parse_laws.specs.Reading.{read}
use Rattle.ec_parse_laws.specs.Laws.{tree_of, ReadsDerivationsAlone, ReadsEveryDerivation, DerivesOneTree}
use Rattle.ec_parse_laws.proofs.Basics.{ok_is}
use Rattle.ec_parse_laws.proofs.ToldUnits.{read_again}
use Rattle.ec_parse_laws.proofs.SoundUnits.{read_is}

pub reads_derivations_alone : ReadsDerivationsAlone
reads_derivations_alone limit tokens u e = read_is limit (leaves_from 0 tokens) u e

pub reads_every_derivation : ReadsEveryDerivation
reads_every_derivation limit tokens u derives =
    let same : tree_of limit tokens ≡ read limit _ = ap (read limit) derives.0 in
    elim (read_again limit u derives.1) [
      | inl e ↦ inl (same ∙ e)
      | inr e ↦ inr (e.0, same ∙ e.1, e.2)
    ]

-- a limit that a tree keeps
abbrev depth : t.Tree → ℕ
depth (t.tree all s) = nest.height_list nest.height_external all + nest.height_list nest.opens_external all

depth_nests : (u : t.Tree) (limit : ℕ) → depth u ≤ limit → NestsIn limit u
depth_nests (t.tree all s) limit le = (omega (arith, le), omega (arith, le))

reads_whole : (limit : ℕ) (tokens : List Placed) (u : t.Tree) → Derives tokens u → NestsIn limit u → tree_of limit tokens ≡ Ok u
reads_whole limit tokens u derives nests = elim (reads_every_derivation limit tokens u derives) [ inl e ↦ e | inr e ↦ absurd (e.2 nests) ]

pub derives_one_tree : DerivesOneTree
derives_one_tree tokens u v derives_u derives_v =
    let limit : ℕ = depth u + depth v in
    ok_is u v (sym (reads_whole limit tokens u derives_u (depth_nests u limit (omega arith)))
    ∙ reads_whole limit tokens v derives_v (depth_nests v limit (omega arith)))
