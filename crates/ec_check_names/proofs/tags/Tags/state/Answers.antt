use Rattle.std.proofs.Common.{rules, arith}
use Rattle.std.proofs.lemmas.Grind.{common_steps}
use Rattle.ec_check_names.proofs.Tabled.{found_same}
use Rattle.ec_check_names.proofs.tags.Tags.state.Goals as goal

pub returns : goal.returns
returns c =
    let e = found_same c.args.tag.now.items c.args.self.now.structs.entries in
    first_of (search (rules, e), grind (arith, common_steps, e))
