use Rattle.std.proofs.Common.{◌≡◌, ◌⊎◌, inl, inr, refl}
use Rattle.std.proofs.lemmas.Result.{IfOk-weaker, IfErr-weaker}
use Rattle.ec_space.specs.Bytes.{AreBytes}
use Rattle.ec_asm.specs.declared.items.AsmProgram.{AsmProgram}
use Rattle.ec_core.specs.Plain.{plain_program}
use Rattle.ec_locate.specs.Placing.{IsLocated}
use Rattle.ec_build.specs.Builds.{IsImageOf}
use Rattle.ec_build.specs.Code.{IsShortCodeOf}
use Rattle.ec_build.specs.Places.{StopsPlacing}
use Rattle.ec_build.specs.Placing.{HasCauseOfPlacing}
use Rattle.ec_build.proofs.Imaged.{image_made}
use Rattle.ec_build.proofs.building.located_by.Goals as goal

pub placed-requires-clause-frames : goal.placed-requires-clause-frames
placed-requires-clause-frames c =
    (c.in_ok-asm.ensures.code c.args.map.now.core (plain_program c.args.program.now) c.args.map.now.io c.in_ok-long.ensures.code).frames

pub placed-requires-clause-code : goal.placed-requires-clause-code
placed-requires-clause-code c =
    (c.in_ok-asm.ensures.code c.args.map.now.core (plain_program c.args.program.now) c.args.map.now.io c.in_ok-long.ensures.code).valid

pub returns-clause-image : goal.returns-clause-image
returns-clause-image c =
    let p = plain_program c.args.program.now in
    let m = c.args.map.now in
    let asm = c.in_ok-asm.asm in
    let code = c.in_ok-asm.ensures.code m.core p m.io c.in_ok-long.ensures.code in
    IfOk-weaker c.placed.result (λ l. IsLocated p m asm l × AreBytes l.image.bytes.items) (λ l. (z : AsmProgram) × IsImageOf p m z l)
    (λ l h. (
      asm,
      image_made p m c.as_slice.result.now asm l c.programs_show_their_sources.ensures c.requires.valid c.requires.map code
          (rw c.as_slice.ensures c.in_ok-reaches.ensures.reaches) h.0 h.1,
    )) c.placed.ensures.located

pub returns-clause-stopped : goal.returns-clause-stopped
returns-clause-stopped c =
    let p = plain_program c.args.program.now in
    let m = c.args.map.now in
    let asm = c.in_ok-asm.asm in
    let code = c.in_ok-asm.ensures.code m.core p m.io c.in_ok-long.ensures.code in
    IfErr-weaker c.placed.result (StopsPlacing p m asm) (HasCauseOfPlacing p m)
    (λ stop h. inr (c.as_slice.result.now, asm, (code, h))) c.placed.ensures.stopped
