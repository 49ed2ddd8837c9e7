use Rattle.std.proofs.Common.{◌≡◌, ℕ, suc, ◌+◌, [], ◌∷◌, ◌++◌, ap, ◌∙◌, arith}
use Rattle.ec_select_operations.specs.Needs.{Need, without_result}
use Rattle.ec_select_operations.specs.Written.{row_from}
use Rattle.ec_select_operations.proofs.Written.{row_more}
use Rattle.ec_select_live.specs.Tables.{need_of}
use Rattle.ec_select_live.proofs.calls.row_of.Goals as goal

pub loop-place-preserved : goal.loop-place-preserved
loop-place-preserved c =
    let need : Need = without_result c.args.to (need_of c.args.need.now) in
    let place : ℕ = c.loop-place.place in
    let e : place ≡ 0 + place = omega arith in
    let more : suc place ≡ place + 1 = omega arith in
    c.in_ok-push.ensures ∙ ap (λ row. row ++ c.kept_at.result ∷ []) c.loop-place.invariant
    ∙ ap (λ n. row_from place 0 need ++ n ∷ []) (c.kept_at.ensures ∙ ap need e) ∙ row_more place 0 need
    ∙ ap (λ n. row_from n 0 need) more
