use Rattle.std.proofs.Common.{◌∙◌, ap, rules, ◌++◌, ◌∷◌, [], List, ℕ}
use Rattle.std.proofs.lemmas.Result.{on_ok_weaker, on_err_weaker}
use Rattle.ec_check_names.specs.StructTables.{those_of}
use Rattle.ec_check_names.proofs.FoundStructs.{puts_by, grows, stays}
use Rattle.ec_check_names.proofs.struct_table.grow.Goals as goal

pub returns-in-Some-clause-ok : goal.returns-in-Some-clause-ok
returns-in-Some-clause-ok c =
    let es = c.args.places.now.entries in
    let all = c.push.new.self in
    let new = (c.get_mut.follows.lender all).entries in
    on_ok_weaker c.push.result
    (λ pushed. grows c.args.key.now.items all.items c.args.place es new
    (pushed ∙ ap (λ (front : List ℕ). front ++ c.args.place ∷ []) (ap those_of c.in-Some.ensures.value))
    (puts_by c.args.key.now all es new ((c.get_mut.follows.holds all).3 (search rules)).0)) c.push.ensures.ok

pub returns-in-Some-clause-err : goal.returns-in-Some-clause-err
returns-in-Some-clause-err c =
    let es = c.args.places.now.entries in
    let all = c.push.new.self in
    let new = (c.get_mut.follows.lender all).entries in
    on_err_weaker c.push.result
    (λ same. stays c.args.key.now.items all.items es new (same ∙ ap those_of c.in-Some.ensures.value)
    (puts_by c.args.key.now all es new ((c.get_mut.follows.holds all).3 (search rules)).0)) c.push.ensures.err
