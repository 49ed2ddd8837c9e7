use Rattle.std.proofs.Common.{◌<◌, ◌^◌, length}
use Rattle.std.proofs.lemmas.List.Elements.{All-push}
use Rattle.ec_tests_language.proofs.units.sources_of.Goals as goal

pub loop-text-preserved : goal.loop-text-preserved
loop-text-preserved c =
    rw c.in_ok-push.ensures.ok
    (All-push (λ s. length s.items < 2 ^ 32) c.loop-text.sources.items c.in_ok-bytes.bytes c.loop-text.invariant c.in_ok-bytes.ensures)
