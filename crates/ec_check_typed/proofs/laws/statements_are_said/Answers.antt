use Rattle.ec_check_typed.proofs.Statements.{statements_are_said}
use Rattle.ec_check_typed.proofs.laws.statements_are_said.Goals as goal

pub returns : goal.returns
returns c =
    statements_are_said
    (record {
      values = record { told = c.types_are_told.ensures; meanings = c.walk_gives_meanings.ensures; items = c.items_have_values.ensures };
      locals = record { initialisers = c.initialisers_are_said.ensures; declarators = c.declarators_are_said.ensures };
      ends = c.blocks_end.ensures;
    })
