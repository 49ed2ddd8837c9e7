use Rattle.std.proofs.Common.{map, sym, ap, subst, ◌∙◌, refl, arith}
use Rattle.std.proofs.lemmas.Result.{err_from_is_err_and}
use Rattle.ec_grammar.specs.Nesting.{height_items, height_statement}
use Rattle.ec_grammar.specs.Views.{view_item, view_statement}
use Rattle.ec_parse_laws.specs.Reading.{item_at, items_of, within}
use Rattle.ec_parse_tokens.specs.Reads.{leaves_of, Reads}
use Rattle.ec_parse_expressions.proofs.Many.{begins, more, fails, stops_at, is_done, map_push}
use Rattle.ec_parse_expressions.specs.Heights.{IsNodeHeight}
use Rattle.ec_parse.proofs.Lists.{items_height}
use Rattle.ec_parse.proofs.Steps.{do_up}
use Rattle.ec_parse.proofs.statements.+statements.Goals as goal

pub items-loop-init : goal.items-loop-init
items-loop-init t c =
    rw c.new-all.ensures.items (begins (item_at (within 64 c.args.left)) c.args.source.count c.args.tokens.now, (refl, omega arith))

pub items-returns-in_err-item : goal.items-returns-in_err-item
items-returns-in_err-item t c =
    let p = err_from_is_err_and c.from_residual.result c.from_residual.ensures.1 in
    rw (p.1, p.2) (fails (item_at (within 64 c.args.left)) c.in_err-item.field-0.0
    (map view_item c.loop.all.items) _ c.loop.counter _ _ c.loop-test.true c.in_err-item.ensures c.loop.invariant.0)

pub items-returns-in_default : goal.items-returns-in_default
items-returns-in_default t c = (
  stops_at (item_at (within 64 c.args.left)) (map view_item c.loop.all.items) _ c.loop.counter _ _ c.loop-test.true
      (rw c.in_default.is at c.in_ok-item.ensures) c.loop.invariant.0,
  c.loop.invariant.1,
)

pub items-loop-preserved : goal.items-loop-preserved
items-loop-preserved t c =
    let read = rw c.in-Some.is at c.in_ok-item.ensures in
    let pushed = ap (λ xs. height_items (items_of (map view_item xs))) c.in_ok-add.ensures.items in
    let sum = items_height c.loop.all.items c.in-Some.item.value in (
      more (item_at (within 64 c.args.left)) (map view_item c.loop.all.items) _ _ c.loop.counter _ _ _ _ c.loop-test.true read.0
          (ap (map view_item) c.in_ok-add.ensures.items ∙ map_push view_item c.loop.all.items c.in-Some.item.value) c.loop.invariant.0,
      (
        omega (arith, read.1.0, pushed, sum, c.loop.invariant.1.0, c.higher-height.ensures),
        omega (arith, read.1.1, c.loop.invariant.1.1, c.higher-height.ensures),
      ),
    )

pub items-returns : goal.items-returns
items-returns t c = (
  is_done (item_at (within 64 c.args.left)) (map view_item c.loop.all.items) _ c.loop.counter _ _ c.loop-test.false c.loop.invariant.0,
  c.loop.invariant.1,
)

pub loop_do-returns : goal.loop_do-returns
loop_do-returns t c =
    subst (Reads (λ x. (view_statement x.0.value, leaves_of c.args.source.count x.2.now))
    (λ x. IsNodeHeight c.args.room (height_statement (view_statement x.0.value)) x.1) c.do_end.result)
    (sym (do_up (within 64 c.args.left) c.args.room c.args.word _ _ _ c.in_ok-body.ensures.0)) c.do_end.ensures
