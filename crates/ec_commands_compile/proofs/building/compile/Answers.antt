use Rattle.ec_commands_compile.proofs.Reading.{short_each}
use Rattle.ec_commands_compile.proofs.building.compile.Goals as goal

pub build-requires-clause-short : goal.build-requires-clause-short
build-requires-clause-short c = short_each c.args.inputs.now.sources.items c.requires.short
