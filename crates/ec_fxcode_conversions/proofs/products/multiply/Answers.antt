use Rattle.std.proofs.Common.{◌≡◌, ◌/◌, refl, sym, subst, arith}
use Rattle.ec_asm.specs.Pieces.{HasBytes}
use Rattle.ec_fxcode.specs.Clamps.{clamp_code}
use Rattle.ec_fxcode_quotients.specs.Quotients.{further}
use Rattle.ec_fxcode_quotients.proofs.Begun.{still_begins}
use Rattle.ec_fxcode_conversions.specs.Products.{exact_code}
use Rattle.ec_fxcode_conversions.proofs.Appended.{both_appended}
use Rattle.ec_fxcode_conversions.proofs.Multiplied.{products_fit}
use Rattle.ec_fxcode_conversions.proofs.Places.{byte_of}
use Rattle.ec_fxcode_conversions.proofs.products.multiply.Goals as goal

pub clamp-requires-clause-format : goal.clamp-requires-clause-format
clamp-requires-clause-format c = (products_fit c.args.left.format c.args.right.format c.args.to.format c.requires.formats).result

pub clamp-requires-clause-to : goal.clamp-requires-clause-to
clamp-requires-clause-to c =
    let bits = (products_fit c.args.left.format c.args.right.format c.args.to.format c.requires.formats).bits in
    let one : c.args.to.format.bits / 8 ≡ 1 = omega (arith, bits) in
    subst (HasBytes c.args.to.at) (sym one) c.requires.to

pub clamp-requires-clause-to_byte : goal.clamp-requires-clause-to_byte
clamp-requires-clause-to_byte c = λ i l.
    let bits = (products_fit c.args.left.format c.args.right.format c.args.to.format c.requires.formats).bits in
    byte_of c.args.to.at 1 i c.requires.to (omega (arith, bits))

pub returns-clause-ok : goal.returns-clause-ok
returns-clause-ok c =
    let to = c.args.to in
    let bits = (products_fit c.args.left.format c.args.right.format to.format c.requires.formats).bits in
    let one : to.format.bits / 8 ≡ 1 = omega (arith, bits) in
    let place : c.above_product.result ≡ further c.args.work 2 = c.above_product.ensures.place in
    both_appended c.clamp.result c.args.out.now.items c.exact.new.out.items c.clamp.new.out.items
    (exact_code c.args.left.format c.args.right.format to.format c.args.left.at c.args.right.at c.args.work)
    (clamp_code to.format c.args.mode c.above_product.result to.at 3 (to.format.bits / 8))
    (clamp_code to.format c.args.mode (further c.args.work 2) to.at 3 1) c.in_ok-exact.ensures.ok (rw (place, one) refl) c.clamp.ensures.ok

pub returns-clause-err : goal.returns-clause-err
returns-clause-err c =
    still_begins c.clamp.result c.args.out.now.items c.exact.new.out.items c.clamp.new.out.items _ c.in_ok-exact.ensures.ok
    c.clamp.ensures.err
