use Rattle.std.proofs.Common.{◌&&◌, sym, ◌∙◌, arith}
use Rattle.std.specs.Prelude.{not}
use Rattle.std.proofs.lemmas.Bool.{and_parts}
use Rattle.ec_core.specs.Plain.{plain_type}
use Rattle.ec_select_operations.specs.Needs.{is_fixed}
use Rattle.ec_select_operations.proofs.OneFormat.{some_bytes}
use Rattle.ec_select_operations.proofs.fixed.fixed_conversion.Goals as goal

pub brought-requires-clause-can : goal.brought-requires-clause-can
brought-requires-clause-can c =
    (and_parts (not (is_fixed (plain_type c.args.ty.now) && c.args.mode.saturate)) _ (sym c.is_brought.ensures ∙ c.if-is_brought.true)).1

pub brought-requires-clause-some : goal.brought-requires-clause-some
brought-requires-clause-some c =
    let some = some_bytes c.args.wanted c.args.to c.args.a (plain_type c.args.ty.now) (plain_type c.args.aty.now) c.requires in
    omega (arith, some, c.requires.from, c.digits-given.ensures.bytes)
