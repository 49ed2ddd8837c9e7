use Rattle.std.proofs.Common.{◌∙◌, ◌+◌, sym}
use Rattle.std.proofs.lemmas.List.{take_rest}
use Rattle.ec_list.proofs.Splitting.{split_at, split_none}
use Rattle.ec_list.proofs.assembling.first_line.Goals as goal

pub returns-in-Some-clause-some : goal.returns-in-Some-clause-some
returns-in-Some-clause-some c =
    rw (take_rest c.args.text.now (c.in-Some.end + 1)) (split_at c.args.text.now c.in-Some.end (sym c.line_end.ensures ∙ c.in-Some.is))

pub returns-in-None-clause-none : goal.returns-in-None-clause-none
returns-in-None-clause-none c = split_none c.args.text.now (sym c.line_end.ensures ∙ c.in-None.is)
