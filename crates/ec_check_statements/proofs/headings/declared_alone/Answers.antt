use Rattle.std.proofs.Common.{subst, true}
use Rattle.std.specs.Prelude.{option_map}
use Rattle.ec_core.specs.Plain.{plain_stmt}
use Rattle.std.proofs.lemmas.Result.{IfOk-weaker}
use Rattle.ec_grammar.specs.Views.{view_init_declarator, view_specs}
use Rattle.ec_check_names.specs.declared.specifiers.Specified.{Specified}
use Rattle.ec_check_names.specs.Specifiers.{specs_rules, storages_of}
use Rattle.ec_check_declarations.specs.Scopes.{plain_context, plain_scope}
use Rattle.ec_check_statements.specs.Around.{plain_around}
use Rattle.ec_check_statements.specs.Headings.{declared_first}
use Rattle.ec_check_statements.specs.Locals.{with_local, local_statement, local_sites, after_declaration, storage_rules, declaration_sites}
use Rattle.ec_check_statements.specs.Walks.{WalkedThrough}
use Rattle.ec_check_statements.proofs.Walks.{judged_and_through}
use Rattle.ec_check_statements.proofs.headings.declared_alone.Goals as goal

pub returns : goal.returns
unfolding declared_first after_declaration declaration_sites
returns c =
    let k = plain_context c.args.context.now in
    let r = plain_around c.args.around.now in
    let s = plain_scope c.args.scope.now in
    let ss = view_specs c.args.d.now.specs in
    let first = view_init_declarator c.args.d.now.first in
    rw c.requires.alone
    (IfOk-weaker c.local.result _ _
    (λ x e. judged_and_through (specs_rules k.tags true ss (storage_rules (storages_of ss).first)) c.judge_specifiers-said.ensures.noted
    (subst (λ (said : Specified). WalkedThrough c.judge_specifiers-said.new.faults.least c.local.new.faults.least (local_sites k r said
    first s) (option_map plain_stmt x) (local_statement k r said first s) (plain_scope c.local.new.scope) (with_local k r said first s))
    c.judge_specifiers-said.ensures.value e)) c.local.ensures)
