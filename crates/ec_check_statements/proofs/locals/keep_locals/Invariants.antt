use Rattle.std.proofs.Common.{◌≡◌, List, map, drop}
use Rattle.std.specs.Prelude.{Option}
use Rattle.ec_core.specs.Plain.{PlainStmts}
use Rattle.ec_grammar.specs.Views.{view_next_init_declarator}
use Rattle.ec_check_declarations.specs.Scopes.{plain_context, plain_scope}
use Rattle.ec_check_declarations.specs.Sites.{Site, told}
use Rattle.ec_check_statements.specs.Around.{plain_around}
use Rattle.ec_check_statements.specs.Locals.{with_locals, locals_before, locals_sites}
use Rattle.ec_check_statements.specs.Walks.{plain_kept, before}
use Rattle.ec_check_statements.proofs.locals.keep_locals.Given as goal

abbrev pub invariant-loop-d : goal.invariant-loop-d
invariant-loop-d l =
    let c = plain_context l.context in
    let r = plain_around l.around in
    let left = map view_next_init_declarator (drop l.d-index l.more) in
    let all = map view_next_init_declarator l.more in
    record {
      meant : (rest : Option PlainStmts) → before (plain_kept l.stmts) (locals_before c r l.said left (plain_scope l.scope) rest)
          ≡ before (plain_kept l.fn.stmts) (locals_before c r l.said all (plain_scope l.fn.scope) rest);
      scope : with_locals c r l.said left (plain_scope l.scope) ≡ with_locals c r l.said all (plain_scope l.fn.scope);
      noted : (rest : List Site) → told l.faults.least (locals_sites c r l.said left (plain_scope l.scope) rest)
          ≡ told l.fn.faults.least (locals_sites c r l.said all (plain_scope l.fn.scope) rest);
    }
