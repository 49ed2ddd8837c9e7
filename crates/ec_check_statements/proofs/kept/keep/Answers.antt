use Rattle.std.proofs.Common.{◌≡◌, ◌∷◌, ◌++◌, [], rules}
use Rattle.ec_check_statements.proofs.Lists.{kept}
use Rattle.ec_check_statements.proofs.kept.keep.Goals as goal

pub returns-in_ok-push-in-Some-stmts : goal.returns-in_ok-push-in-Some-stmts
returns-in_ok-push-in-Some-stmts c =
    let e : c.push.new.self.items ≡ c.in-Some-stmts.all.items ++ c.in-Some.s ∷ [] = search rules in
    λ rest. rw (c.in-Some.is, c.in-Some-stmts.is) (kept c.push.new.self.items c.in-Some-stmts.all.items c.in-Some.s e rest)
