use Rattle.std.proofs.Common.{◌≡◌, ◌∙◌, ◌+◌, ap, sym, subst, arith, List, drop}
use Rattle.std.specs.Prelude.{IfOk, option_map}
use Rattle.std.proofs.Math.ListN.{drop_of_length-le}
use Rattle.ec_core.specs.Plain.{plain_kind, block}
use Rattle.ec_grammar.specs.declared.Item.{Item}
use Rattle.ec_grammar.specs.Trees as t
use Rattle.ec_grammar.specs.Views.{view_compound, view_item, view_statement, views_items}
use Rattle.ec_check_declarations.specs.Scopes.{Scope, plain_context, plain_scope}
use Rattle.ec_check_declarations.specs.Sites.{told}
use Rattle.ec_check_statements.specs.Around.{Around, plain_around, ended, under}
use Rattle.ec_check_statements.specs.Statements.{after_item, after_items, items_of, items_sites}
use Rattle.ec_check_statements.specs.Walks.{plain_kept, before, WalkedThrough}
use Rattle.ec_check_statements.proofs.Lists.{list_next, view_block}
use Rattle.ec_check_statements.proofs.walk.+walk.Goals as goal

pub items-loop-x-preserved : goal.items-loop-x-preserved
items-loop-x-preserved m c =
    let k = plain_context c.args.context.now in
    let r = plain_around c.args.around.now in
    let s = plain_scope c.loop-x.scope in
    let x = view_item c.x-item.result in
    let left = views_items (drop (c.loop-x.x-index + 1) c.args.xs.now) in
    let next = list_next c.args.xs.now c.loop-x.x-index c.x-item.result (omega (arith, c.loop-x-test.true)) c.x-item.is in
    let walked = c.in_ok-item.ensures in
    record {
      meant =
          ap (λ (u : Scope). before (plain_kept c.item.new.stmts) (items_of k r left u)) walked.scope
          ∙ walked.meant (items_of k r left (after_item k r x s))
          ∙ ap (λ (xs : List Item). before (plain_kept c.loop-x.stmts) (items_of k r (views_items xs) s)) (sym next)
          ∙ c.loop-x.invariant.meant;
      scope =
          ap (after_items k r left) walked.scope
          ∙ ap (λ (xs : List Item). after_items k r (views_items xs) s) (sym next)
          ∙ c.loop-x.invariant.scope;
      noted = λ rest.
          ap (λ (u : Scope). told c.item.new.faults.least (items_sites k r left u rest)) walked.scope
          ∙ walked.noted (items_sites k r left (after_item k r x s) rest)
          ∙ ap (λ (xs : List Item). told c.loop-x.faults.least (items_sites k r (views_items xs) s rest)) (sym next)
          ∙ c.loop-x.invariant.noted rest;
    }

pub items-returns : goal.items-returns
items-returns u c =
    let k = plain_context c.args.context.now in
    let r = plain_around c.args.around.now in
    let s = plain_scope c.loop-x.scope in
    let none = sym (drop_of_length-le c.args.xs.now (omega (arith, c.loop-x-test.false))) in
    record {
      meant = ap (λ (xs : List Item). before (plain_kept c.loop-x.stmts) (items_of k r (views_items xs) s)) none ∙ c.loop-x.invariant.meant;
      scope = ap (λ (xs : List Item). after_items k r (views_items xs) s) none ∙ c.loop-x.invariant.scope;
      noted = λ rest. ap (λ (xs : List Item). told c.loop-x.faults.least (items_sites k r (views_items xs) s rest)) none
          ∙ c.loop-x.invariant.noted rest;
    }

pub kind-returns-in-Compound : goal.kind-returns-in-Compound
kind-returns-in-Compound u c =
    let k = plain_context c.args.context.now in
    let s = plain_scope c.args.scope.now in
    let b = c.in-Compound.b in
    let ps = c.deref.result.now in
    let xs = views_items c.deref-in-Compound.result.now in
    let tree : view_statement c.args.x.now ≡ t.block (view_compound b) = ap view_statement c.in-Compound.is ∙ view_block b in
    let walked = subst (λ (r : Around). IfOk c.compound.result (λ w. WalkedThrough c.args.faults.now.least c.compound.new.faults.least
    (items_sites (under ps k) r xs s) (option_map plain_kind w) (option_map block (items_of (under ps k) r xs s))
    (plain_scope c.compound.new.scope) (ended r.first (after_items (under ps k) r xs s)))) c.within-inner.ensures c.compound.ensures in
    rw (tree, ← c.deref.ensures.value, ← c.deref-in-Compound.ensures.value) walked
