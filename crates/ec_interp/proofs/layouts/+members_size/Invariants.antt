use Rattle.ec_interp.proofs.layouts.+members_size.Given as goal

abbrev pub decreases-members_size : goal.decreases-members_size
decreases-members_size l = l.count
