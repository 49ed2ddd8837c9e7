use Rattle.ec_check_names.proofs.FoundStructs.{begun, puts_by}
use Rattle.ec_check_names.proofs.struct_table.begin.Goals as goal

pub returns-in-Ok-clause-ok : goal.returns-in-Ok-clause-ok
returns-in-Ok-clause-ok c =
    let es = c.args.places.now.entries in
    let new = c.insert.new.self.entries in
    begun c.args.key.items c.in_ok-all.all.items c.args.place es new c.in_ok-all.ensures c.requires
    (puts_by c.args.key c.in_ok-all.all es new c.in-Ok.ensures.updates.0)
