use Rattle.std.proofs.Common.{◌∙◌, ◌≤◌, ap, sym, subst, Option, List, map, length}
use Rattle.std.specs.Prelude.{option_map}
use Rattle.ec_core.specs.Plain.{PlainStruct, plain_struct}
use Rattle.ec_check_names.specs.Tables.{with_name}
use Rattle.ec_check_names.specs.Tags.{Tags}
use Rattle.ec_check_declarations.specs.Structures.{struct_number, with_struct}
use Rattle.ec_check_file_scope.specs.States.{plain_state}
use Rattle.ec_check_file_scope.proofs.Sound.{all_below, no_fewer}
use Rattle.ec_check_file_scope.proofs.file_scope.file_structure.Goals as goal

pub returns-clause-walked : goal.returns-clause-walked
returns-clause-walked c =
    let s = plain_state c.args.state.now in
    let d = option_map plain_struct c.in_ok-def.def in
    let tag = c.args.d.now.tag.name.items in
    let structs = map plain_struct c.add_struct.new.structs.items in
    let tags = with_name tag (struct_number d s.structs) s.tags in
    record {
      meant =
          ap (λ (ts : Tags). record s { tags = ts; structs = structs }) c.in_ok-add_struct.ensures.tags
          ∙ ap (λ (ss : List PlainStruct). record s { tags = tags; structs = ss }) c.in_ok-add_struct.ensures.list
          ∙ ap (λ (x : Option PlainStruct). record s {
            tags = with_name tag (struct_number x s.structs) s.tags;
            structs = with_struct x s.structs;
          }) c.in_ok-def.ensures.walked.meant;
      noted = c.in_ok-def.ensures.walked.noted;
    }

pub returns-clause-sound : goal.returns-clause-sound
returns-clause-sound c =
    let s = plain_state c.args.state.now in
    let d = option_map plain_struct c.in_ok-def.def in
    let structs = map plain_struct c.add_struct.new.structs.items in
    let more =
    subst (λ (ss : List PlainStruct). length s.structs ≤ length ss) (sym c.in_ok-add_struct.ensures.list) (no_fewer d s.structs) in
    record {
      structs = c.in_ok-add_struct.ensures.structs;
      counted = c.in_ok-add_struct.ensures.counted;
      named = all_below (length s.structs) (length structs) s.scope.names.outside more c.requires.sound.named;
    }
