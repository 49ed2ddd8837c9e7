use Rattle.std.proofs.Common.{arith}
use Rattle.std.proofs.lemmas.Grind.{common_steps}
use Rattle.ec_check_names.proofs.Tabled.{put_is}
use Rattle.ec_check_names.proofs.numbering.Numbering.link_copy.Goals.{in-Ok, in-Err}
use Rattle.ec_check_names.proofs.numbering.Numbering.link_copy.Goals as goal

pub returns : goal.returns
returns c =
    let e = put_is (λ linkage. linkage) c.args.name c.args.linkage c.args.self.now.links.entries in
    elim c.match-insert.branch [
      | in-Ok w ↦ rw w.result-is (cc (e, w.in-Ok.ensures.entries))
      | in-Err w ↦ rw w.result-is (grind (arith, common_steps))
    ]
