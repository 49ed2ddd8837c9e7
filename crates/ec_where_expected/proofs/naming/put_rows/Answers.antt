use Rattle.std.proofs.Common.{◌≡◌, ◌∙◌, ap, arith}
use Rattle.std.specs.Prelude.{string_bytes}
use Rattle.ec_where_expected.specs.Listed.{rows_text}
use Rattle.ec_where_expected.proofs.naming.put_rows.Goals as goal

pub returns : goal.returns
returns c =
    let last : c.rows.i ≡ 85 = omega arith in
    c.rows.invariant ∙ ap (λ n. rows_text c.args.flags.now n (string_bytes c.args.text.now)) last
