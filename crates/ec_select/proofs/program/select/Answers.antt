use Rattle.std.proofs.Common.{◌≡◌, ◌∷◌, ◌∙◌, refl}
use Rattle.ec_asm.specs.declared.items.AsmItem.TheVariants.{Label}
use Rattle.ec_asm.specs.declared.items.AsmProgram.{AsmProgram}
use Rattle.ec_ir.specs.Operations.{plain_ir_program}
use Rattle.ec_select_startup.specs.Startup.{startup_code}
use Rattle.ec_select.specs.Labels.{entry_label, function_label}
use Rattle.ec_select.specs.Program.{spans_of}
use Rattle.ec_select.proofs.Added.{selected}
use Rattle.ec_select.proofs.program.select.Goals as goal

pub returns-clause-code : goal.returns-clause-code
returns-clause-code c =
    let p = plain_ir_program c.args.ir.now in
    let asm : AsmProgram = record { items = c.add_code.new.out; frames = c.in_ok-frames.frames; entry = 0 } in
    let spans : c.as_slice.result.now ≡ spans_of p = c.as_slice.ensures ∙ c.in_ok-spans.ensures in
    let begins : c.startup.new.out.items ≡ Label entry_label ∷ startup_code (spans_of p) (function_label p.main) =
    c.in_ok-startup.ensures.ok ∙ rw (c.in_ok-push.ensures.ok, c.new-items.ensures, spans, c.from.ensures) refl in
    selected c.args.core p asm c.startup.new.out.items c.add_code.new.out.items begins c.in_ok-add_code.ensures refl c.in_ok-frames.ensures refl

pub returns-clause-valid : goal.returns-clause-valid
returns-clause-valid c =
    λ cells valid.
    c.selections_are_valid.ensures c.args.core cells (plain_ir_program c.args.ir.now) _ valid c.requires.code (returns-clause-code c)

pub returns-clause-words : goal.returns-clause-words
returns-clause-words c in_place =
    (c.selections_have_words.ensures c.args.core (plain_ir_program c.args.ir.now) _ c.requires.valid c.requires.code in_place
    (returns-clause-code c)).by_shapes

pub returns-clause-alone : goal.returns-clause-alone
returns-clause-alone c in_place =
    (c.selections_have_words.ensures c.args.core (plain_ir_program c.args.ir.now) _ c.requires.valid c.requires.code in_place
    (returns-clause-code c)).alone
