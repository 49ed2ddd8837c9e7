use Rattle.std.proofs.Common.{◌∙◌, ap, map}
use Rattle.ec_core.specs.Plain.{plain_program, plain_object}
use Rattle.ec_interp.specs.Lookups.{ended_from}
use Rattle.ec_interp.specs.Views.{seen}
use Rattle.ec_interp.proofs.Changes.{ended_from-frame}
use Rattle.ec_interp.proofs.objects.end_frame.Goals as goal

pub returns : goal.returns
returns c =
    c.end_objects.ensures ∙ (ap (λ objs. ended_from c.args.function 0 (map plain_object objs) (seen c.args.s.now)) c.as_slice.ensures
    ∙ ended_from-frame (plain_program c.args.program.now) c.args.function (seen c.args.s.now))
