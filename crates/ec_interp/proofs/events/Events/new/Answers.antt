use Rattle.std.proofs.Common.{◌≡◌, ◌∙◌, ℕ, ap, List, map, sym}
use Rattle.std.specs.Prelude.{slice_index}
use Rattle.std.proofs.lemmas.List.{get_or-replicate}
use Rattle.ec_core.specs.State.{reads_of}
use Rattle.ec_interp.specs.declared.behaviour.Event.{Event}
use Rattle.ec_interp.specs.Events.{seen_event}
use Rattle.ec_interp.proofs.events.Events.new.Goals as goal

pub invariant_of-result : goal.invariant_of-result
invariant_of-result c port small =
    ap (λ (xs : List ℕ). slice_index xs port) c.no_reads.ensures ∙ get_or-replicate 256 port 0 0 small
    ∙ sym (ap (λ (es : List Event). reads_of port (map seen_event es)) c.new.ensures.items)
