use Rattle.std.proofs.Common.{◌+◌, ◌∙◌, refl, sym, ap, ℕ, inl, inr}
use Rattle.ec_core.specs.Plain.{plain_program}
use Rattle.ec_core.specs.PortTable.{plain_table}
use Rattle.ec_core_steps.specs.Work.{max_work}
use Rattle.ec_steps.proofs.Numbers.{fewer_functions, told, too_large}
use Rattle.ec_steps.proofs.bounds.steps_of.Goals as goal

pub most_work-requires : goal.most_work-requires
most_work-requires c = fewer_functions c.args.program.now.funcs.items c.requires.function_count

pub returns-in-Some-clause-number : goal.returns-in-Some-clause-number
returns-in-Some-clause-number c =
    let most = max_work (plain_program c.args.program.now) (plain_table c.args.map.now.io) in
    told c.start_steps-start.result most c.in-Some.steps c.in_ok-work.work c.in_ok-work.ensures (sym c.sum_of.ensures ∙ c.in-Some.is)
    ∙ ap (λ (n : ℕ). n + most) c.start_steps-start.ensures

pub returns-in-None-clause-stopped : goal.returns-in-None-clause-stopped
returns-in-None-clause-stopped c =
    let most = max_work (plain_program c.args.program.now) (plain_table c.args.map.now.io) in
    inr (
      refl,
      rw (← c.start_steps-start.ensures)
          (too_large c.start_steps-start.result most c.in_ok-work.work c.in_ok-work.ensures (sym c.sum_of.ensures ∙ c.in-None.is)),
    )
