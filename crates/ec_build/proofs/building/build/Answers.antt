use Rattle.std.proofs.Common.{◌≡◌, map}
use Rattle.std.proofs.lemmas.Result.{IfErr-weaker}
use Rattle.ec_build.specs.Causes.{HasCause}
use Rattle.ec_build.specs.declared.stop.BuildStop.TheVariants.{NoMemory}
use Rattle.ec_build.proofs.Composed.{accepted_has_none}
use Rattle.ec_build.proofs.building.build.Goals as goal

pub returns-clause-complete : goal.returns-clause-complete
returns-clause-complete c accepted =
    let texts = map (λ s. s.items) c.args.sources.now.items in
    let text = c.args.map.now.items in
    IfErr-weaker c.answer.result (HasCause texts text) (λ stop. stop ≡ NoMemory)
    (λ stop why. accepted_has_none texts text stop accepted why) c.answer.ensures.stopped
