use Rattle.std.proofs.Common.{◌≡◌, ◌++◌, ◌∙◌, ap, sym, refl, length, map, Some}
use Rattle.std.specs.Prelude.{slice_get}
use Rattle.std.proofs.lemmas.Option.{slice_get_read}
use Rattle.ec_ir.specs.Operations.{plain_ir}
use Rattle.ec_lower_code.specs.Code.{bind_code}
use Rattle.ec_lower.proofs.Steps.{so}
use Rattle.ec_lower.proofs.dynamics.put_bind.Goals as goal

pub returns-in_ok-put_base-in-Some : goal.returns-in_ok-put_base-in-Some
returns-in_ok-put_base-in-Some c =
    let l = c.in-Some.ensures.lookup in
    let cs = c.choices.result.now in
    let is : slice_get cs c.args.choice ≡ Some c.in-Some.c.now =
    slice_get_read cs (length cs) c.args.choice c.in-Some.c.now refl l.3.0 l.1 in
    let same = ap (λ xs. slice_get xs c.args.choice) (sym c.choices.ensures) ∙ is in
    so c.put.result c.put.ensures (λ h rest.
    rw (c.in_ok-cell-in-Some.ensures) at (h rest ∙ c.in_ok-put_base-in-Some.ensures _)
    ∙ sym (ap (λ o. map plain_ir c.args.code.now.items ++ bind_code c.args.dynamic o c.args.t rest) same))
