use Rattle.ec_where_lines.proofs.Lines.{marked_all, marked_found}
use Rattle.ec_where_lines.proofs.fault.only_marked.Goals as goal

pub returns-clause-found : goal.returns-clause-found
returns-clause-found c = marked_found c.args.mark.now c.args.line.now c.marked.result c.marked.ensures

pub returns-clause-all : goal.returns-clause-all
returns-clause-all c name n fault m =
    marked_all c.args.mark.now c.args.line.now name fault n c.marked.result c.marked.ensures c.requires m
