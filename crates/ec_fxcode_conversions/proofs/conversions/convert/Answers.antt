use Rattle.std.proofs.Common.{◌/◌, arith}
use Rattle.ec_fxcode_quotients.proofs.Begun.{still_begins}
use Rattle.ec_fxcode_conversions.specs.Conversions.{scaled_bytes}
use Rattle.ec_fxcode_conversions.proofs.Converted.{few_bytes}
use Rattle.ec_fxcode_conversions.proofs.Places.{byte_of, lowest_bytes}
use Rattle.ec_fxcode_conversions.proofs.conversions.convert.Goals as goal

pub units-requires-clause-work : goal.units-requires-clause-work
units-requires-clause-work c =
    let few = few_bytes c.args.from.format c.args.to.format c.requires.from_format c.requires.to_format in
    lowest_bytes c.args.work 40 (scaled_bytes (c.args.from.format.bits / 8) c.saturating_sub-up.result) c.requires.work (omega (arith, few))

pub clamp-requires-clause-from : goal.clamp-requires-clause-from
clamp-requires-clause-from c =
    let few = few_bytes c.args.from.format c.args.to.format c.requires.from_format c.requires.to_format in
    lowest_bytes c.args.work 40 c.scaled_bytes.result c.requires.work (omega (arith, few))

pub clamp-requires-clause-from_byte : goal.clamp-requires-clause-from_byte
clamp-requires-clause-from_byte c = λ i l.
    let few = few_bytes c.args.from.format c.args.to.format c.requires.from_format c.requires.to_format in
    byte_of c.args.work 40 i c.requires.work (omega (arith, few))

pub returns-clause-err : goal.returns-clause-err
returns-clause-err c =
    still_begins c.clamp.result c.args.out.now.items c.units.new.out.items c.clamp.new.out.items _ c.in_ok-units.ensures.ok
    c.clamp.ensures.err
