use Rattle.std.proofs.Common.{sym, subst}
use Rattle.ec_core.specs.Plain.{plain_program}
use Rattle.ec_lower_shapes.specs.Laws.{CountsByShapes}
use Rattle.ec_lower.proofs.Lists.{with_types}
use Rattle.ec_lower.proofs.program.lower.Goals as goal

pub operations-requires : goal.operations-requires
operations-requires c = record { structs = c.requires.valid.structs; objects = with_types _ _ c.requires.valid.objects }

pub returns-clause-follows : goal.returns-clause-follows
returns-clause-follows c = rw (c.in_ok-ir.ensures) (c.lowered_follows.ensures _ _ c.requires.valid c.read_groups.ensures)

pub returns-clause-made : goal.returns-clause-made
returns-clause-made c =
    rw (c.in_ok-ir.ensures) (c.lowered_is_made_of_its_program.ensures _ _ c.requires.valid c.read_groups.ensures)

pub returns-clause-valid : goal.returns-clause-valid
returns-clause-valid c =
    rw (c.in_ok-ir.ensures) (c.lowered_is_made_of_its_program.ensures _ _ c.requires.valid c.read_groups.ensures).valid

pub returns-clause-shapes : goal.returns-clause-shapes
returns-clause-shapes c =
    subst (λ x. CountsByShapes (plain_program c.args.program.now) c.args.io.now x) (sym c.in_ok-ir.ensures)
    (c.lowered_counts_by_shapes.ensures _ _ c.requires.valid)
