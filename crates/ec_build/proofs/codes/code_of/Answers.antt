use Rattle.ec_core.specs.Plain.{plain_program}
use Rattle.ec_ir.specs.Operations.{plain_ir_program}
use Rattle.ec_build.proofs.Coded.{code_made}
use Rattle.ec_build.proofs.codes.code_of.Goals as goal

pub returns-clause-code : goal.returns-clause-code
returns-clause-code c =
    code_made c.args.map.now.core (plain_program c.args.program.now) c.args.map.now.io c.in_ok-asm.asm (plain_ir_program c.in_ok-ir.ir) c.in_ok-ir.ensures.code
    c.lowered_programs_have_code.ensures c.requires.valid c.read_groups.ensures c.in_ok-ir.ensures.made c.in_ok-asm.ensures.code
    c.in_ok-asm.ensures.valid c.in_ok-asm.ensures.words c.in_ok-ir.ensures.shapes
