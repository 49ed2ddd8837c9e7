use Rattle.std.proofs.lemmas.List.{take-map}
use Rattle.ec_check_names.specs.Names.{plain_entry}
use Rattle.ec_check_names.proofs.names.Names.close.Goals as goal

pub returns : goal.returns
returns c = let e = take-map plain_entry c.args.names c.args.self.now.inside.items in cc (e, c.keep_first.ensures)
