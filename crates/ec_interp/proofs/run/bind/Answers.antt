use Rattle.std.proofs.Common.{sym, ◌∙◌, ap, add-one, arith, rules, refl}
use Rattle.std.proofs.lemmas.Grind.{common_steps}
use Rattle.std.specs.Option.{option_copied}
use Rattle.ec_interp.specs.Views.{seen, setting_of}
use Rattle.ec_interp.proofs.Parts.{parameters_none, parameters_some}
use Rattle.ec_interp.proofs.run.bind.Goals as goal

pub returns-in_default-clause-shows : goal.returns-in_default-clause-shows
returns-in_default-clause-shows c =
    let f = c.args.f.now in
    let w = setting_of f.program.now f.io.now f.inputs.now in
    sym c.loop-i.invariant ∙ parameters_none w c.args.params.now c.args.xs.now c.loop-i.i (seen c.loop-i.s)
    (omega (arith, c.loop-i-test.true)) (sym c.at.ensures ∙ ap option_copied c.in_default.is)

pub returns-in_err-bind_one-clause-shows : goal.returns-in_err-bind_one-clause-shows
returns-in_err-bind_one-clause-shows c =
    let f = c.args.f.now in
    let w = setting_of f.program.now f.io.now f.inputs.now in
    rw (
      ← c.loop-i.invariant,
      parameters_some w c.args.params.now c.args.xs.now c.loop-i.i c.in-Some.x.now (seen c.loop-i.s) (omega (arith, c.loop-i-test.true))
          (sym c.in-Some.ensures),
    ) (first_of (search rules, grind (arith, common_steps)))

pub loop-i-preserved : goal.loop-i-preserved
loop-i-preserved c =
    let f = c.args.f.now in
    let w = setting_of f.program.now f.io.now f.inputs.now in
    let h = parameters_some w c.args.params.now c.args.xs.now c.loop-i.i c.in-Some.x.now (seen c.loop-i.s)
    (omega (arith, c.loop-i-test.true)) (sym c.in-Some.ensures) in
    let b = c.in_ok-bind_one.ensures.shows in
    rw (add-one) (sym (h ∙ rw b refl) ∙ c.loop-i.invariant)
