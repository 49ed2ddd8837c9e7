use Rattle.std.proofs.Common.{rules, ◌≡◌, sym, ◌∙◌, arith, to_z, of_z}
use Rattle.std.proofs.lemmas.Int.{to_z-of_z}
use Rattle.std.specs.Prelude.{option_map}
use mir.Val.{SFits}
use mir.Syntax.{w16}
use Rattle.ec_core.specs.Plain.{plain_expr, plain_program, plain_stmt}
use Rattle.ec_core_steps.specs.Boxed.{boxed_stmt}
use Rattle.ec_core_steps.proofs.Told.{turns_told}
use Rattle.ec_core_steps.proofs.counted.turns_of.Goals as goal

pub returns-then-is_counter : goal.returns-then-is_counter
returns-then-is_counter c =
    let within = c.args.within.now in
    let fits : SFits w16 c.in_ok-start.start = search rules in
    let told = turns_told (plain_program within.program.now) within.function (plain_stmt within.body.now) (boxed_stmt c.args.first.now)
    (option_map plain_expr c.args.condition.now) (option_map plain_expr c.args.last.now) (plain_stmt c.args.body.now)
    c.in_ok-operands.operands c.in_ok-update.update c.in_ok-start.start (sym c.condition_of.ensures ∙ c.in_ok-operands.was)
    (sym c.update_of.ensures ∙ c.in_ok-update.was) (sym c.start_of.ensures ∙ c.in_ok-start.was)
    (sym c.is_counter.ensures ∙ c.if-is_counter.true) in
    grind (arith, to_z-of_z, told)
