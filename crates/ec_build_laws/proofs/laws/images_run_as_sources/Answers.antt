use Rattle.ec_build_laws.proofs.Ran.{images_run_as_sources}
use Rattle.ec_build_laws.proofs.laws.images_run_as_sources.Goals as goal

pub returns : goal.returns
returns c = images_run_as_sources (record {
  images = c.images_run.ensures;
  follows = c.lowered_follows.ensures;
  machine_run = c.runs_are_steps.ensures.run;
  on_ports = c.sources_access_ports.ensures;
  port_bytes = c.port_bytes_pass.ensures;
  stack = c.stack_stays_inside.ensures;
  guard = record {
    told = c.kinds_are_told.ensures.told;
    fit = c.kinds_are_told.ensures.fit;
    made = c.lowered_is_made_of_its_program.ensures;
    selections = c.selections_are_valid.ensures;
    short = c.shortened_code_is_valid.ensures;
  };
})
