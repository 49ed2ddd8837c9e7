use Rattle.std.proofs.Common.{◌∙◌, ap, Some, map}
use Rattle.std.specs.Prelude.{option_map}
use Rattle.ec_core.specs.Plain.{plain_stmt, statement, block, last_stmt}
use Rattle.ec_grammar.specs.Views.{view_declaration}
use Rattle.ec_check_declarations.specs.Scopes.{plain_context, plain_scope}
use Rattle.ec_check_statements.specs.Around.{plain_around}
use Rattle.ec_check_statements.specs.Locals.{declaration_before}
use Rattle.ec_check_statements.specs.Walks.{before}
use Rattle.ec_check_statements.proofs.Lists.{nothing_before, fused}
use Rattle.ec_check_statements.proofs.headings.declared_block.Goals as goal

pub returns : goal.returns
returns c =
    let t = view_declaration c.args.d.now in
    let unit = c.args.around.now.unit in
    let walked = c.in_ok-keep_declaration.ensures in
    let others = declaration_before (plain_context c.args.context.now) (plain_around c.args.around.now) t (plain_scope c.args.scope.now)
    (Some last_stmt) in
    let all = walked.meant (Some last_stmt) ∙ ap (λ xs. before (Some (map plain_stmt xs)) others) c.new-empty.ensures
    ∙ nothing_before others in
    record {
      meant =
          c.stated.ensures
          ∙ ap (option_map (statement unit c.first_specs-at.result)) (c.block_of.ensures ∙ ap (option_map block) all)
          ∙ fused (statement unit c.first_specs-at.result) block others
          ∙ ap (λ at. option_map (λ all. statement unit at (block all)) others) c.first_specs-at.ensures;
      scope = walked.scope;
      noted = walked.noted;
    }
