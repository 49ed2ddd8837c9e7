use Rattle.ec_check_names.specs.Names.{plain_named}
use Rattle.ec_check_names.proofs.Tabled.{put_is}
use Rattle.ec_check_names.proofs.names.Names.declare_outside.Goals as goal

pub returns-in-Ok : goal.returns-in-Ok
returns-in-Ok c = let e = put_is plain_named c.args.name c.args.what c.args.self.now.outside.entries in cc (e, c.in-Ok.ensures.entries)
