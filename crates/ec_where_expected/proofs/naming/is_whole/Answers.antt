use Rattle.std.proofs.Common.{◌≡◌, ◌∙◌, ap, arith}
use Rattle.ec_where_expected.specs.Listed.{whole_to}
use Rattle.ec_where_expected.proofs.naming.is_whole.Goals as goal

pub returns : goal.returns
returns c =
    let last : c.rows.i ≡ 85 = omega arith in
    c.rows.invariant ∙ ap (whole_to c.args.flags.now c.args.class) last
