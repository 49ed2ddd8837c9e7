use Rattle.std.proofs.Common.{ℕ, ap, arith, sym, subst, map}
use Rattle.ec_ir.specs.Operations.{plain_ir}
use Rattle.ec_select_live.specs.Tables.{needs_of, IsTable, room}
use Rattle.ec_select_live.proofs.Growth.{IsNoMore}
use Rattle.ec_select_live.proofs.Passes.{measure_falls}
use Rattle.ec_select_live.proofs.labels.settle.Goals as goal

pub loop-grown-smaller : goal.loop-grown-smaller
loop-grown-smaller c =
    measure_falls (room c.pass-grown.new.table)
    (room c.loop-grown.table) c.pass-grown.result c.loop-grown.grown c.loop-grown-test.true c.pass-grown.ensures.grown
    (λ h. let x = ap room (c.pass-grown.ensures.same h) in omega arith)

pub loop-grown-preserved : goal.loop-grown-preserved
loop-grown-preserved c = record {
  kept = subst (λ (s : ℕ). IsTable s (needs_of c.pass-grown.new.table)) (sym c.pass-grown.auto.need) c.pass-grown.ensures.kept;
  live = c.pass-grown.ensures.live;
  least =
      subst (λ (s : ℕ). IsNoMore c.args.in_flash s (map plain_ir c.args.code.now) c.args.table.now c.pass-grown.new.table)
      (sym c.pass-grown.auto.need)
      (λ labels other h v q. c.pass-grown.ensures.least labels other h v (c.loop-grown.invariant.least labels other h v q));
}

pub returns-clause-least : goal.returns-clause-least
returns-clause-least c =
    subst (λ (s : ℕ). IsNoMore c.args.in_flash s (map plain_ir c.args.code.now) c.args.table.now c.loop-grown.table) c.loop-grown.auto.need
    c.loop-grown.invariant.least
