use Rattle.ec_select_functions.proofs.Program.{code_follows_operations}
use Rattle.ec_select_functions.proofs.laws.code_follows_operations.Goals as goal

pub returns : goal.returns
returns c =
    code_follows_operations (record {
      views = c.machine_runs_as_view.ensures;
      runs = c.noted_runs_are_runs.ensures.run;
      fill = c.leaves_fill_their_types.ensures;
      taken = c.bytes_are_taken_in_order.ensures;
      fixed = record {
        binaries = c.fixed_binaries_are_right.ensures;
        unaries = c.fixed_unaries_are_right.ensures;
        conversions = c.fixed_conversions_are_right.ensures;
      };
      routines = record {
        binaries = c.binary_routines_are_right.ensures;
        unaries = c.unary_routines_are_right.ensures;
        conversions = c.conversion_routines_are_right.ensures;
        quotients = c.quotient_routines_are_right.ensures;
      };
      pointers = record {
        addresses = c.addresses_are_right.ensures;
        fields = c.fields_are_right.ensures;
        from_data = c.loads_are_right.ensures.from_data;
        from_flash = c.loads_are_right.ensures.from_flash;
        from_data_by_tag = c.loads_by_tag_are_right.ensures.from_data;
        from_flash_by_tag = c.loads_by_tag_are_right.ensures.from_flash;
        data_from_z = c.loads_from_z_by_tag_are_right.ensures.from_data;
        flash_from_z = c.loads_from_z_by_tag_are_right.ensures.from_flash;
        from_tables = c.tables_are_loaded.ensures;
        stored = c.stores_are_right.ensures;
        straight = c.pointers_are_straight.ensures.straight;
        take = c.pointers_are_straight.ensures.steps;
        tables_short = c.tables_are_formed.ensures.short;
        scaled = c.indexes_are_scaled.ensures;
        added = c.indexes_are_added.ensures;
        added_short = c.indexes_are_formed.ensures.short;
        advanced = c.pointers_are_advanced.ensures;
        steps_short = c.places_are_short.ensures.steps;
        elements = c.elements_are_right.ensures;
        elements_short = c.elements_are_formed.ensures.short;
        compared = c.pointers_are_compared.ensures;
        same = c.places_are_numbers.ensures.equal;
        low = c.places_are_numbers.ensures.order;
        embedded = c.pointers_are_converted.ensures.embedded;
        embeddings_short = c.places_are_short.ensures.conversions;
        far = record {
          addresses = c.far_addresses_are_right.ensures.addresses;
          fields = c.far_addresses_are_right.ensures.fields;
          from_flash = c.far_loads_are_right.ensures.by_pointer;
          from_tables = c.far_loads_are_right.ensures.by_name;
          from_data_by_top = c.far_loads_by_top_are_right.ensures.from_data;
          from_flash_by_top = c.far_loads_by_top_are_right.ensures.from_flash;
          straight = c.far_pointers_are_straight.ensures.straight;
          take = c.far_pointers_are_straight.ensures.steps;
          advanced = c.far_pointers_are_advanced.ensures;
          steps_short = c.far_places_are_formed.ensures.steps;
          elements = c.far_elements_are_right.ensures;
          compared = c.far_pointers_are_compared.ensures;
          same = c.far_places_are_numbers.ensures.equal;
          ordered = c.far_places_are_numbers.ensures.order;
        };
      };
      numbers = record {
        subtracted = c.numbers_are_operands.ensures.subtracted;
        added = c.numbers_are_operands.ensures.added;
        bits = c.numbers_are_operands.ensures.bits;
        compared = c.numbers_are_operands.ensures.compared;
        straight = c.numbers_are_operands.ensures.straight;
        put = c.numbers_are_operands.ensures.put;
        put_straight = c.numbers_are_operands.ensures.put_straight;
      };
      known = c.known_numbers_are_held.ensures;
    })
