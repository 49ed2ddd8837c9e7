use Rattle.std.proofs.Common.{◌∙◌, ◌+◌, sym}
use Rattle.std.proofs.lemmas.List.{take_rest}
use Rattle.ec_hex.proofs.TextLines.{lines-at, lines-alone}
use Rattle.ec_hex.proofs.text.first_line.Goals as goal

pub returns-in-Some-clause-value : goal.returns-in-Some-clause-value
returns-in-Some-clause-value c =
    rw (c.without_return.ensures, take_rest c.args.text.now (c.in-Some.end + 1))
    (lines-at c.args.text.now c.in-Some.end (sym c.line_end.ensures ∙ c.in-Some.is))

pub returns-in-None-clause-value : goal.returns-in-None-clause-value
returns-in-None-clause-value c = lines-alone c.args.text.now (sym c.line_end.ensures ∙ c.in-None.is) c.requires
