use Rattle.std.proofs.Common.{◌≡◌, ◌∙◌, Bool, false, List, [], ◌∷◌, length, map, ap, refl}
use Rattle.std.proofs.lemmas.Result.{IfOk-weaker}
use Rattle.std.specs.Prelude.{replicate}
use Rattle.ec_iohw.specs.declared.table.PortGroup.{PortGroup}
use Rattle.ec_core.specs.PortTable.{PlainGroup, plain_group}
use Rattle.ec_interp.proofs.interpreter.none_acquired.Goals as goal

none : (groups : List PortGroup) → replicate (length groups) false ≡ map (λ (g : PlainGroup). false) (map plain_group groups)
none [] = refl
none (g ∷ groups) = ap (λ (bs : List Bool). false ∷ bs) (none groups)

pub returns : goal.returns
returns c = IfOk-weaker c.closed.result _ _
    (λ acquired h. h ∙ (ap (λ n. replicate n false) c.len.ensures ∙ none c.args.f.now.io.now.groups.items)) c.closed.ensures
