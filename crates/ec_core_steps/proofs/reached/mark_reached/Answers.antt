use Rattle.ec_core_steps.proofs.Marks.{reached_from}
use Rattle.ec_core_steps.proofs.reached.mark_reached.Goals as goal

pub returns : goal.returns
returns c = λ p same main.
    reached_from p c.args.rows.now c.args.main c.args.marks.now c.mark.new.marks c.spread_out.new.marks c.mark.result c.requires
    c.mark.ensures c.spread_out.ensures same main
