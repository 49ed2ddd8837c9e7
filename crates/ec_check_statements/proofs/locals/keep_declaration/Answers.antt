use Rattle.std.proofs.Common.{subst, map, true}
use Rattle.std.proofs.lemmas.Result.{on_ok_weaker}
use Rattle.ec_grammar.specs.Views.{view_init_declarator, view_next_init_declarator, view_specs}
use Rattle.ec_check_names.specs.declared.specifiers.Specified.{Specified}
use Rattle.ec_check_names.specs.Specifiers.{specs_rules, storages_of}
use Rattle.ec_check_declarations.specs.Scopes.{plain_context, plain_scope}
use Rattle.ec_check_statements.specs.Around.{plain_around}
use Rattle.ec_check_statements.specs.Locals.{with_local, local_statement, local_sites, with_locals, locals_before, locals_sites}
use Rattle.ec_check_statements.specs.Locals.{after_declaration, declaration_before, storage_rules, declaration_sites}
use Rattle.ec_check_statements.specs.Walks.{plain_kept, followed, WalkedOn}
use Rattle.ec_check_statements.proofs.Walks.{on_and_on, judged_and_on}
use Rattle.ec_check_statements.proofs.locals.keep_declaration.Goals as goal

pub returns : goal.returns
unfolding after_declaration declaration_before declaration_sites
returns c =
    let k = plain_context c.args.context.now in
    let r = plain_around c.args.around.now in
    let s = plain_scope c.args.scope.now in
    let ss = view_specs c.args.d.now.specs in
    let first = view_init_declarator c.args.d.now.first in
    let more = map view_next_init_declarator c.deref.result.now in
    let said = c.judge_specifiers-said.result in
    rw (← c.deref.ensures.value)
    (on_ok_weaker c.keep_locals.result
    (λ kept. judged_and_on (specs_rules k.tags true ss (storage_rules (storages_of ss).first)) c.judge_specifiers-said.ensures.noted
    (subst (λ (said : Specified). WalkedOn c.judge_specifiers-said.new.faults.least c.keep_locals.new.faults.least
    (λ rest. local_sites k r said first s (locals_sites k r said more (with_local k r said first s) rest))
    (plain_kept c.args.stmts.now) (plain_kept c.keep_locals.new.stmts)
    (λ rest. followed (local_statement k r said first s) (locals_before k r said more (with_local k r said first s) rest))
    (plain_scope c.keep_locals.new.scope) (with_locals k r said more (with_local k r said first s))) c.judge_specifiers-said.ensures.value
    (on_and_on (locals_sites k r said more) (locals_before k r said more) (with_locals k r said more) c.in_ok-keep_local.ensures kept)))
    c.keep_locals.ensures)
