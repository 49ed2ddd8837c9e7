use Rattle.std.proofs.Common.{rules}
use Rattle.ec_core.specs.Plain.{plain_type}
use Rattle.ec_core.specs.PortTable.{plain_table}
use Rattle.ec_core_steps.proofs.Widths.{widest_pointers, words_call}
use Rattle.ec_core_steps.proofs.words.node_words.Goals as goal

pub returns-in-Load : goal.returns-in-Load
returns-in-Load c = rw (c.in-Load.is, widest_pointers) (search rules)

pub returns-in-AddressOf : goal.returns-in-AddressOf
returns-in-AddressOf c = rw (c.in-AddressOf.is, widest_pointers) (search rules)

pub returns-in-Assign : goal.returns-in-Assign
returns-in-Assign c = rw (c.in-Assign.is, widest_pointers) (search rules)

pub returns-in-Compound : goal.returns-in-Compound
returns-in-Compound c = rw (c.in-Compound.is, widest_pointers) (search rules)

pub returns-in-Step : goal.returns-in-Step
returns-in-Step c = rw (c.in-Step.is, widest_pointers) (search rules)

pub returns-in-Call : goal.returns-in-Call
returns-in-Call c =
    rw (
      c.in-Call.is,
      words_call (plain_table c.args.io.now) (plain_type c.args.ty.now) c.in-Call.field-0 c.in-Call.args,
      ← c.as_slice.ensures,
    ) c.call_words.ensures
