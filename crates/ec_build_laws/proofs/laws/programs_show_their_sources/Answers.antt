use Rattle.ec_build_laws.proofs.Whole.{programs_show_their_sources}
use Rattle.ec_build_laws.proofs.laws.programs_show_their_sources.Goals as goal

pub returns : goal.returns
returns c = programs_show_their_sources (record {
  laid = record {
    items = c.placed_items_stand.ensures;
    code = c.code_stands.ensures;
    apart = c.data_stands_apart.ensures;
    flash = c.flash_stands_apart.ensures;
    separate = c.placed_stand_apart.ensures;
    initials = c.initial_values_stand.ensures;
    made = c.lowered_is_made_of_its_program.ensures;
    selections = c.selections_are_valid.ensures;
    short = c.shortened_code_is_valid.ensures;
    long = record {
      near = c.near_code_stands.ensures.code;
      used = c.near_code_stands.ensures.words;
      based = c.based_code_stands.ensures;
      valid = c.based_items_are_valid.ensures.program;
    };
  };
  selections = c.selections_run.ensures;
  follows = c.lowered_follows.ensures;
  machine_run = c.runs_are_steps.ensures.run;
  turns = c.more_turns_only_add.ensures;
  stack = c.stack_stays_inside.ensures;
  begin = record {
    steps = c.steps_are_of_instructions.ensures.step;
    views = c.machine_runs_as_view.ensures;
    stack = c.stack_stays_inside.ensures;
  };
  allowed = c.accesses_are_allowed.ensures;
  home = c.events_are_at_home.ensures;
  on_ports = c.sources_access_ports.ensures;
  port_bytes = c.port_bytes_pass.ensures;
  live = c.accesses_are_live.ensures;
  parts = c.parts_only_add.ensures;
})
