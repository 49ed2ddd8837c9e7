use Rattle.std.proofs.Common.{refl, arith}
use Rattle.ec_commands_list.proofs.Complete.{lists_what_was_read}
use Rattle.ec_commands_list.proofs.assembling.make_image.Goals as goal

pub returns-clause-complete : goal.returns-clause-complete
returns-clause-complete g c = λ accepted calm.
    let image =
    lists_what_was_read c.args.words.now.items c.args.core (g.S.Store.disk c.args.store.now) c.in-Ok.text.items accepted
    c.in-Ok.ensures.found.told in
    c.image_of.ensures.complete image.0 image.1.0 image.1.1

pub returns-clause-calm : goal.returns-clause-calm
returns-clause-calm g c = λ made room calm. c.in-Ok.ensures.calm _ made room calm (0, omega arith, refl)
