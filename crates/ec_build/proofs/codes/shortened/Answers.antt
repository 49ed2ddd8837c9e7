use Rattle.std.proofs.Common.{◌<◌, ◌^◌, length, refl, ap, ◌∙◌, arith}
use Rattle.ec_asm_near.specs.Near.{near_items}
use Rattle.ec_build.proofs.Coded.{short_code}
use Rattle.ec_build.proofs.codes.shortened.Goals as goal

pub returns-clause-code : goal.returns-clause-code
returns-clause-code c core p io code =
    short_code c.shortened_code_is_valid.ensures core p io c.args.reaches.now c.args.long
    (record { items = c.in_ok-items.items; frames = c.args.long.frames; entry = c.args.long.entry }) code (record {
      items = c.in_ok-items.ensures ∙ ap near_items c.in_ok-middle.ensures;
      frames = refl;
      entry = refl;
    })

pub returns-clause-few : goal.returns-clause-few
returns-clause-few c =
    let within = c.if-len-gt-MOST_ITEMS.false in
    let many = c.len.ensures in
    let few : length c.in_ok-items.items.items < 2 ^ 32 = omega (arith, within, many) in
    few
