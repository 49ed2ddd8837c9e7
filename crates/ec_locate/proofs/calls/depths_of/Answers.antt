use Rattle.std.proofs.Common.{◌+◌, ◌∙◌, ℕ, List, sym, arith}
use Rattle.ec_check_recursion.specs.Rows.{plain_rows}
use Rattle.ec_map.proofs.Made.{map_map}
use Rattle.ec_locate.specs.Calls.{deepest}
use Rattle.ec_locate.proofs.Trees.{chains_below, no_chains, chains_more}
use Rattle.ec_locate.proofs.calls.depths_of.Goals as goal

pub longer-requires : goal.longer-requires
longer-requires c =
    let rows = plain_rows c.args.rows.now in
    let n = c.loop-round._round in
    rw (c.as_slice.ensures, c.loop-round.invariant)
    (λ k e l. let below = chains_below n rows k e l in omega (arith, below, c.requires))

pub loop-round-init : goal.loop-round-init
loop-round-init c = c.in_ok-depths.ensures ∙ no_chains (λ row. row.items) c.args.rows.now

pub loop-round-preserved : goal.loop-round-preserved
loop-round-preserved c =
    chains_more (plain_rows c.args.rows.now) c.loop-round._round c.loop-round.depths.items _ c.loop-round.invariant
    ((rw c.as_slice.ensures at c.in_ok-depths-2.ensures)
    ∙ sym (map_map (λ (row : List ℕ). 1 + deepest c.loop-round.depths.items row) (λ row. row.items) c.args.rows.now))
