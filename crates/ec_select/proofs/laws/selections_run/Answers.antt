use Rattle.ec_select.proofs.Runs.{selections_run}
use Rattle.ec_select.proofs.laws.selections_run.Goals as goal

pub returns : goal.returns
returns c = selections_run (record {
  code = record {
    leaves = c.leaves_fill_their_types.ensures;
    pieces = record {
      fixed = record {
        binaries = c.fixed_binaries_are_plain.ensures;
        unaries = c.fixed_unaries_are_plain.ensures;
        conversions = c.fixed_conversions_are_plain.ensures;
      };
      pointers = record {
        addresses = c.pointers_are_valid.ensures.addresses;
        accesses = c.pointers_are_valid.ensures.accesses;
        labels = c.pointers_are_valid.ensures.labels;
        tables = c.tables_are_formed.ensures.valid;
        table_labels = c.tables_are_formed.ensures.labels;
        steps = c.places_are_valid.ensures.steps;
        conversions = c.places_are_valid.ensures.conversions;
        step_labels = c.places_are_valid.ensures.labels;
        indexes = c.indexes_are_formed.ensures.valid;
        index_labels = c.indexes_are_formed.ensures.labels;
        elements = c.elements_are_formed.ensures.valid;
        element_labels = c.elements_are_formed.ensures.labels;
        far_addresses = c.far_pointers_are_valid.ensures.addresses;
        far_tables = c.far_pointers_are_valid.ensures.tables;
        far_accesses = c.far_pointers_are_valid.ensures.accesses;
        far_labels = c.far_pointers_are_valid.ensures.labels;
        far_steps = c.far_places_are_formed.ensures.valid_steps;
        far_step_labels = c.far_places_are_formed.ensures.labels;
      };
    };
    items = c.startup_is_valid.ensures.items;
    used = c.startup_is_valid.ensures.used;
    placed = c.startup_is_valid.ensures.placed;
  };
  parts = c.parts_stand.ensures;
  follows = c.programs_show_their_operations.ensures;
})
