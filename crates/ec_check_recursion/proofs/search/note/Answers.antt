use Rattle.std.proofs.Common.{◌≡◌, [], ◌∷◌, ◌++◌, arith}
use Rattle.std.proofs.lemmas.Grind.{common_steps}
use Rattle.ec_check_recursion.proofs.Marks.{one_noted}
use Rattle.ec_check_recursion.proofs.search.note.Goals as goal

pub returns-else-is_err : goal.returns-else-is_err
returns-else-is_err c =
    let pushed : c.push.new.self.items ≡ c.args.waiting.now.items ++ c.args.function ∷ [] = grind (arith, common_steps) in
    let place = c.from-place.ensures in
    rw (place, pushed)
    (one_noted c.args.function c.args.marks.now c.args.waiting.now.items (rw place at c.if-place-marks.true)
    (rw place at c.if-not-marks-place.true))
