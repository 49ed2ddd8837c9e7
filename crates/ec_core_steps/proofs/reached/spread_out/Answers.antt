use Rattle.std.specs.Prelude.{not}
use Rattle.std.specs.List.{count_by}
use Rattle.ec_core_steps.proofs.Marks.{spreading_begins, spreading_on, spreading_ends, measure_falls}
use Rattle.ec_core_steps.proofs.reached.spread_out.Goals as goal

pub loop-grown-init : goal.loop-grown-init
loop-grown-init c = spreading_begins c.args.rows.now c.args.marks.now

pub loop-grown-smaller : goal.loop-grown-smaller
loop-grown-smaller c =
    measure_falls (count_by not c.spread-grown.new.marks) (count_by not c.loop-grown.marks) c.spread-grown.result c.loop-grown.grown
    c.loop-grown-test.true c.spread-grown.ensures.fewer

pub loop-grown-preserved : goal.loop-grown-preserved
loop-grown-preserved c =
    spreading_on c.args.rows.now c.args.marks.now c.loop-grown.marks c.spread-grown.new.marks c.loop-grown.grown
    c.spread-grown.result c.loop-grown.invariant c.spread-grown.ensures

pub returns : goal.returns
returns c = spreading_ends c.args.rows.now c.args.marks.now c.loop-grown.marks c.loop-grown.grown c.loop-grown-test.false c.loop-grown.invariant
