use Rattle.std.proofs.Common.{List, ℕ, sym, subst}
use Rattle.std.specs.Prelude.{Option}
use Rattle.ec_core.specs.Plain.{plain_program}
use Rattle.ec_emu_watch.specs.declared.point.WatchPoint.{WatchPoint}
use Rattle.ec_watch_points.specs.Numbers.{IsNumber, IsPoint}
use Rattle.ec_commands_watch.proofs.load.number.Goals as goal

pub returns-in-Ok-None-clause-stopped : goal.returns-in-Ok-None-clause-stopped
returns-in-Ok-None-clause-stopped c = λ named.
    subst (λ (found : Option WatchPoint). IsPoint (plain_program c.args.built.now.program) c.args.built.now.located.places.items
    c.in-Ok.name.items c.args.leaf found) c.in-Ok-None.field-0-is c.in-Ok-None.ensures named.object named.stands named.ty
    (subst (λ (name : List ℕ). IsNumber (plain_program c.args.built.now.program) name c.args.leaf named.object named.stands named.ty)
    (sym c.in-Ok.ensures) named.is)
