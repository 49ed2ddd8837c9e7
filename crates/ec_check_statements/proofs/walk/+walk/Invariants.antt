use Rattle.std.proofs.Common.{◌≡◌, List, drop}
use Rattle.ec_grammar.specs.Views.{views_items}
use Rattle.ec_check_declarations.specs.Scopes.{plain_context, plain_scope}
use Rattle.ec_check_declarations.specs.Sites.{Site, told}
use Rattle.ec_check_statements.specs.Around.{plain_around}
use Rattle.ec_check_statements.specs.Statements.{after_items, items_of, items_sites}
use Rattle.ec_check_statements.specs.Walks.{plain_kept, before}
use Rattle.ec_check_statements.proofs.walk.+walk.Given as goal

abbrev pub invariant-items-loop-x : goal.invariant-items-loop-x
invariant-items-loop-x l =
    let c = plain_context l.context in
    let r = plain_around l.around in
    let left = views_items (drop l.x-index l.xs) in
    let all = views_items l.xs in
    record {
      meant : before (plain_kept l.stmts) (items_of c r left (plain_scope l.scope)) ≡ items_of c r all (plain_scope l.fn.scope);
      scope : after_items c r left (plain_scope l.scope) ≡ after_items c r all (plain_scope l.fn.scope);
      noted : (rest : List Site) → told l.faults.least (items_sites c r left (plain_scope l.scope) rest)
          ≡ told l.fn.faults.least (items_sites c r all (plain_scope l.fn.scope) rest);
    }
