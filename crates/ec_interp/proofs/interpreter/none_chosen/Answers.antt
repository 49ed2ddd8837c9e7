use Rattle.std.proofs.Common.{◌≡◌, ◌∙◌, ℕ, List, [], ◌∷◌, Option, None, length, map, ap, refl}
use Rattle.std.proofs.lemmas.Result.{IfOk-weaker}
use Rattle.std.specs.Prelude.{replicate}
use Rattle.ec_iohw.specs.declared.table.Dynamic.{Dynamic}
use Rattle.ec_core.specs.PortTable.{PlainDynamic, plain_dynamic}
use Rattle.ec_interp.proofs.interpreter.none_chosen.Goals as goal

abbrev unbound : ℕ → List (Option ℕ)
unbound n = replicate n None

none : (dynamics : List Dynamic) → unbound (length dynamics) ≡ map (λ (d : PlainDynamic). None) (map plain_dynamic dynamics)
none [] = refl
none (d ∷ dynamics) = ap (λ (cs : List (Option ℕ)). None ∷ cs) (none dynamics)

pub returns : goal.returns
returns c = IfOk-weaker c.unbound.result _ _
    (λ choices h. h ∙ (ap unbound c.len.ensures ∙ none c.args.f.now.io.now.dynamics.items)) c.unbound.ensures
