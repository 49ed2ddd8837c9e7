use Rattle.std.proofs.Common.{sym, ◌∙◌}
use Rattle.ec_core.specs.Plain.{plain_type}
use Rattle.ec_select_fixed.specs.Types.{family_of, format_in}
use Rattle.ec_select_fixed.proofs.Emits.{result_number, suits_family}
use Rattle.ec_select_fixed.proofs.Suits.{operands_suit}
use Rattle.ec_select_fixed.proofs.operations.fixed_binary.Goals as goal

pub format_in-requires-3 : goal.format_in-requires-3
format_in-requires-3 c =
    let ty = plain_type c.args.ty.now in
    result_number c.args.op ty
    (operands_suit c.args.op ty (plain_type c.args.aty.now) (plain_type c.args.bty.now) c.requires.types).result

pub computed-requires-clause-formats : goal.computed-requires-clause-formats
computed-requires-clause-formats c =
    let ty = plain_type c.args.ty.now in
    let aty = plain_type c.args.aty.now in
    let bty = plain_type c.args.bty.now in
    suits_family (family_of c.args.op) c.in-Some.family (format_in aty) (format_in bty) (format_in ty) c.format_in.result
    c.format_in-2.result c.format_in-3.result (sym c.in-Some.ensures) c.format_in.ensures.value c.format_in-2.ensures.value
    c.format_in-3.ensures.value (operands_suit c.args.op ty aty bty c.requires.types).formats
