-- Where conditions lead to.
use Rattle.ec_lower.specs.declared.branches.Branch.{Branch}
use Rattle.ec_lower.specs.declared.branches.Branch.TheVariants.{WhereZero, WhereNot}
use Rattle.ec_lower_code.specs.Code.{Branch as PlainBranch, where_zero, where_not}

-- where a condition leads to
abbrev pub plain_branch : Branch → PlainBranch
plain_branch (WhereZero to) = where_zero to
plain_branch (WhereNot to past) = where_not to past
