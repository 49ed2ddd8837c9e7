use Rattle.std.proofs.Common.{sym, subst}
use Rattle.ec_core.specs.declared.expressions.BinOp.{BinOp}
use Rattle.ec_core.specs.Plain.{plain_type}
use Rattle.ec_core.specs.Typing.{int, HaveCompoundTypes}
use Rattle.ec_interp.proofs.Steps.{one_operand, step_types}
use Rattle.ec_interp.proofs.run.stepped.Goals as goal

pub returns-clause-answered : goal.returns-clause-answered
returns-clause-answered c = λ g o i.
    (let types = subst (λ (op : BinOp). HaveCompoundTypes op (plain_type c.args.ty.now) int) (sym c.step_operator.ensures)
    (step_types c.args.f.now c.args.up (plain_type c.args.ty.now) i) in
    c.update_place.ensures.answered g o (one_operand c.args.f.now) types)
