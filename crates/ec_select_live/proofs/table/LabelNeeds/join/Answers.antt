use Rattle.std.proofs.Common.{◌∙◌, arith}
use Rattle.ec_select_live.proofs.Entries.{joining_raised, joining_kept}
use Rattle.ec_select_live.proofs.table.LabelNeeds.join.Goals as goal
use Rattle.ec_select_live.proofs.table.LabelNeeds.join.Goals.{then-need-place, else-need-place}

pub loop-place-preserved : goal.loop-place-preserved
loop-place-preserved c =
    elim c.if-need-place.branch [
      | then-need-place w ↦ joining_raised c.args.l c.args.self.now c.loop-place.self c.if-need-place.self c.args.need.now
          c.loop-place.place c.loop-place.grown c.if-need-place.grown c.loop-place.invariant w.grown-is c.requires c.loop-place-test.true
          (w.self-is ∙ w.raise.ensures) (omega (arith, w.if-need-place.true, c.need.ensures))
      | else-need-place w ↦ joining_kept c.args.l c.args.self.now c.loop-place.self c.if-need-place.self c.args.need.now c.loop-place.place
          c.loop-place.grown c.if-need-place.grown c.loop-place.invariant w.grown-is w.self-is c.loop-place-test.true
          (omega (arith, w.if-need-place.false, c.need.ensures))
    ]
