use Rattle.ec_commands.specs.Sources.{texts}
use Rattle.ec_commands_compile.proofs.RunGen.{refused, accepted_by, built_by}
use Rattle.ec_commands_compile.proofs.generating.load_generated.Goals as goal

pub returns-in-Err-compile-clause-stopped : goal.returns-in-Err-compile-clause-stopped
returns-in-Err-compile-clause-stopped c =
    refused c.args.n
    (texts c.in-Ok.inputs.sources.items) c.in-Ok.inputs.map.items c.in-Err-compile.stop c.in-Ok.ensures.sources c.in-Ok.ensures.map
    c.in-Err-compile.ensures.stopped

pub returns-in-Err-compile-clause-complete : goal.returns-in-Err-compile-clause-complete
returns-in-Err-compile-clause-complete c = λ accepted.
    c.in-Err-compile.ensures.complete
    (accepted_by c.args.n
    (texts c.in-Ok.inputs.sources.items) c.in-Ok.inputs.map.items c.in-Ok.ensures.sources c.in-Ok.ensures.map accepted)

pub returns-in-Ok-booted-clause-found : goal.returns-in-Ok-booted-clause-found
returns-in-Ok-booted-clause-found c = record {
  built = c.in-Ok-compile.built;
  is = built_by c.args.n
      (texts c.in-Ok.inputs.sources.items) c.in-Ok.inputs.map.items c.in-Ok-compile.built c.in-Ok.ensures.sources c.in-Ok.ensures.map
      c.in-Ok-compile.ensures.built;
  reset = c.in-Ok-booted.ensures.reset;
  is_reset = c.in-Ok-booted.ensures.is_reset;
}
