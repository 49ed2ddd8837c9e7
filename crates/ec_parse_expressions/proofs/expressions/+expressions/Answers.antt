use Rattle.std.proofs.Common.{map, sym, ap, subst, ◌∙◌, refl, arith}
use Rattle.std.proofs.lemmas.Result.{err_from_is_err_and}
use Rattle.ec_grammar.specs.Nesting.{height_further, height_binary}
use Rattle.ec_grammar.specs.Views.{view_binary}
use Rattle.ec_parse_laws.specs.Reading.{within, argument_at, further_of}
use Rattle.ec_parse_tokens.specs.Reads.{leaves_of, inner_at, Reads}
use Rattle.ec_parse_expressions.proofs.Many.{begins, more, fails, stops_at, is_done, map_push}
use Rattle.ec_parse_expressions.proofs.Rows.{further_height}
use Rattle.ec_parse_expressions.proofs.Steps.{further_is, further_fails, level_up}
use Rattle.ec_parse_expressions.specs.Heights.{IsNodeHeight}
use Rattle.ec_parse_expressions.specs.Parts.{view_argument}
use Rattle.ec_parse_expressions.proofs.expressions.+expressions.Goals as goal

pub binary-returns : goal.binary-returns
binary-returns t c =
    subst (Reads (λ x. (view_binary x.0.value, leaves_of c.args.source.count x.2.now))
    (λ x. IsNodeHeight c.args.room (height_binary (view_binary x.0.value)) x.1) c.joins.result)
    (sym (level_up (within 64 c.args.left) c.args.level c.args.room _ _ _ (omega arith) c.in_ok-first.ensures.0)) c.joins.ensures

pub further-loop-init : goal.further-loop-init
further-loop-init t c =
    rw c.new-all.ensures.items (begins (argument_at (inner_at c.args.left)) c.args.source.count c.args.tokens.now, (refl, omega arith))

pub further-returns-in_err-item : goal.further-returns-in_err-item
further-returns-in_err-item t c =
    let p = err_from_is_err_and c.from_residual.result c.from_residual.ensures.1 in
    rw (p.1, p.2) (further_fails (inner_at c.args.left) _ c.in_err-item.field-0.0
    (fails (argument_at (inner_at c.args.left)) c.in_err-item.field-0.0
    (map view_argument c.loop.all.items) _ c.loop.counter _ _ c.loop-test.true c.in_err-item.ensures c.loop.invariant.0))

pub further-returns-in_default : goal.further-returns-in_default
further-returns-in_default t c = (
  further_is (inner_at c.args.left) _ c.loop.all.items _
      (stops_at (argument_at (inner_at c.args.left)) (map view_argument c.loop.all.items) _ c.loop.counter _ _ c.loop-test.true
      (rw c.in_default.is at c.in_ok-item.ensures) c.loop.invariant.0),
  c.loop.invariant.1,
)

pub further-loop-preserved : goal.further-loop-preserved
further-loop-preserved t c =
    let read = rw c.in-Some.is at c.in_ok-item.ensures in
    let pushed = ap (λ xs. height_further (further_of (map view_argument xs))) c.in_ok-push.ensures.items in
    let sum = further_height c.loop.all.items c.in-Some.item in (
      more (argument_at (inner_at c.args.left)) (map view_argument c.loop.all.items) _ _ c.loop.counter _ _ _ _ c.loop-test.true read.0
          (ap (map view_argument) c.in_ok-push.ensures.items ∙ map_push view_argument c.loop.all.items c.in-Some.item) c.loop.invariant.0,
      (
        omega (arith, read.1.0, pushed, sum, c.loop.invariant.1.0, c.higher-height.ensures),
        omega (arith, read.1.1, c.loop.invariant.1.1, c.higher-height.ensures),
      ),
    )

pub further-returns : goal.further-returns
further-returns t c = (
  further_is (inner_at c.args.left) _ c.loop.all.items _ (is_done (argument_at (inner_at c.args.left))
      (map view_argument c.loop.all.items) _ c.loop.counter _ _ c.loop-test.false c.loop.invariant.0),
  c.loop.invariant.1,
)
