use Rattle.ec_asm_near.proofs.Stands.{NearLaws, near_code_stands}
use Rattle.ec_asm_near.proofs.Valid.{labels_have_words}
use Rattle.ec_asm_near.proofs.laws.near_code_stands.Goals as goal

pub returns : goal.returns
returns c =
    let laws : NearLaws = record {
      jump = c.near_jumps_stand.ensures.jump;
      call = c.near_jumps_stand.ensures.call;
      branch = c.near_jumps_stand.ensures.branch;
    } in
    record { code = near_code_stands laws; words = labels_have_words }
