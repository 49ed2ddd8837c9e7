use Rattle.std.proofs.Common.{◌≡◌, true, sym, ap, ◌∙◌}
use Rattle.ec_core.specs.Plain.{plain_type}
use Rattle.ec_select_operations.specs.Code.{family_of, is_on_integers, is_placed}
use Rattle.ec_select_operations.specs.Emitted.{second_bytes}
use Rattle.ec_select_operations.proofs.Emits.{fewer_bytes}
use Rattle.ec_select_operations.proofs.OneFormat.{integer_numbers, placed_bytes}
use Rattle.ec_select_operations.proofs.fixed.fixed_binary.Goals as goal

pub placed-requires-clause-right : goal.placed-requires-clause-right
placed-requires-clause-right c =
    let ty = plain_type c.args.ty.now in
    let aty = plain_type c.args.aty.now in
    let bty = plain_type c.args.bty.now in
    let known : is_placed c.args.op c.args.mode ty aty bty ≡ true = sym c.is_placed.ensures ∙ c.if-is_placed.true in
    let there = placed_bytes c.args.op c.args.mode c.args.wanted c.args.to c.args.a c.args.b ty aty bty known c.requires in
    fewer_bytes c.home-right.result c.args.b.bytes (second_bytes c.args.op c.args.a.bytes) there.right c.home-right.ensures.bytes

pub integer_binary-requires-clause-numbers : goal.integer_binary-requires-clause-numbers
integer_binary-requires-clause-numbers c =
    let ty = plain_type c.args.ty.now in
    let aty = plain_type c.args.aty.now in
    let bty = plain_type c.args.bty.now in
    let on : is_on_integers (family_of c.args.op) c.args.mode ty aty bty ≡ true =
    ap (λ f. is_on_integers f c.args.mode ty aty bty) (sym c.family_of.ensures) ∙ sym c.is_on_integers.ensures ∙ c.if-is_on_integers.true in
    integer_numbers c.args.op c.args.mode c.args.wanted c.args.to c.args.a c.args.b ty aty bty on c.requires
