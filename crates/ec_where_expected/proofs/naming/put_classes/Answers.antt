use Rattle.std.proofs.Common.{◌≡◌, ◌∙◌, ap, arith}
use Rattle.std.specs.Prelude.{string_bytes}
use Rattle.ec_where_expected.specs.Listed.{classes_text}
use Rattle.ec_where_expected.proofs.naming.put_classes.Goals as goal

pub returns : goal.returns
returns c =
    let last : c.classes.i ≡ 5 = omega arith in
    c.classes.invariant ∙ ap (λ n. classes_text c.args.flags.now n (string_bytes c.args.text.now)) last
