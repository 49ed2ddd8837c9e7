use Rattle.std.proofs.Common.{sym, ◌∙◌, subst}
use Rattle.ec_core.specs.Plain.{plain_type}
use Rattle.ec_fxcode_quotients.specs.QuotientLaws.{IsOperandFormat}
use Rattle.ec_select_fixed.proofs.Conversions.{converted_types}
use Rattle.ec_select_fixed.proofs.Formats.{operand_format}
use Rattle.ec_select_fixed.proofs.operations.converted.Goals as goal

pub convert-requires-clause-from_format : goal.convert-requires-clause-from_format
convert-requires-clause-from_format c =
    let to = plain_type c.args.ty.now in
    let from = plain_type c.args.aty.now in
    subst IsOperandFormat (sym (c.conversion_number-number.ensures.format ∙ c.format_in.ensures.value))
    (operand_format from (converted_types to from c.requires.types).operand)
