use Rattle.std.proofs.Common.{◌∙◌, ap, map, rules}
use Rattle.std.proofs.lemmas.Result.{on_ok_weaker, on_err_weaker}
use Rattle.ec_check_file_scope.specs.FileNames.{plain_file_name}
use Rattle.ec_check_file_scope.specs.Groups.{those_of}
use Rattle.ec_check_file_scope.proofs.Grouped.{puts_by, grows, stays, one_more}
use Rattle.ec_check_file_scope.proofs.file_table.grow.Goals as goal

pub returns-in-Some-clause-ok : goal.returns-in-Some-clause-ok
returns-in-Some-clause-ok c =
    let es = c.args.groups.now.entries in
    let group = c.push.new.self in
    let new = (c.get_mut.follows.lender group).entries in
    on_ok_weaker c.push.result
    (λ pushed. grows (plain_file_name c.args.d) c.args.name.now.items (map plain_file_name group.items) es new c.requires.name
    (one_more c.in-Some.group.now.items group.items c.args.d pushed (ap those_of c.in-Some.ensures.value))
    (puts_by c.args.name.now group es new ((c.get_mut.follows.holds group).3 (search rules)).0)) c.push.ensures.ok

pub returns-in-Some-clause-err : goal.returns-in-Some-clause-err
returns-in-Some-clause-err c =
    let es = c.args.groups.now.entries in
    let group = c.push.new.self in
    let new = (c.get_mut.follows.lender group).entries in
    on_err_weaker c.push.result
    (λ same. stays c.args.name.now.items (map plain_file_name group.items) es new
    (ap (map plain_file_name) same ∙ ap those_of c.in-Some.ensures.value)
    (puts_by c.args.name.now group es new ((c.get_mut.follows.holds group).3 (search rules)).0)) c.push.ensures.err
