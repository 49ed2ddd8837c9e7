use Rattle.std.proofs.Common.{◌≡◌, ◌≢◌, ◌∙◌, ap, sym, arith, get_or}
use Rattle.std.proofs.lemmas.Bool.{eqb-false}
use Rattle.std.specs.Str.Parse.{without_leading_plus}
use Rattle.ec_where_lines.specs.Parts.{number_of}
use Rattle.ec_where_lines.proofs.Cuts.{number_is, no_plus}
use Rattle.ec_where_lines.proofs.parts.number.Goals as goal

pub returns : goal.returns
returns c =
    let digits = c.args.digits.now in
    let first = c.if-starts_with.ensures.byte (omega arith) (omega arith) (λ w o h. h) in
    let plain = no_plus digits (eqb-false (get_or digits 0 0) 43 (sym first)) in
    c.ok.ensures.value ∙ number_is (without_leading_plus digits) c.parse.result c.parse.ensures.value.0 ∙ ap number_of plain
