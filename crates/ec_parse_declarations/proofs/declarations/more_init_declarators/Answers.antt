use Rattle.std.proofs.Common.{map, ap, ◌∙◌, refl, arith}
use Rattle.std.proofs.lemmas.Result.{err_from_is_err_and}
use Rattle.ec_grammar.specs.Nesting.{height_list, height_next_init_declarator}
use Rattle.ec_grammar.specs.Trees.{next_init_declarator}
use Rattle.ec_grammar.specs.Views.{view_next_init_declarator}
use Rattle.ec_parse_laws.specs.Reading.{behind_comma, init_declarator_by, within}
use Rattle.ec_parse_expressions.proofs.Many.{begins, more, fails, stops_at, is_done, map_push}
use Rattle.ec_parse_declarations.proofs.Lists.{list_height}
use Rattle.ec_parse_declarations.proofs.declarations.more_init_declarators.Goals as goal

pub loop-init : goal.loop-init
loop-init c =
    rw c.new-all.ensures.items (
      begins (behind_comma next_init_declarator (init_declarator_by (within 64 c.args.left))) c.args.source.count
          c.args.tokens.now,
      (refl, omega arith),
    )

pub returns-in_err-item : goal.returns-in_err-item
returns-in_err-item c =
    let p = err_from_is_err_and c.from_residual.result c.from_residual.ensures.1 in
    rw (p.1, p.2) (fails (behind_comma next_init_declarator (init_declarator_by (within 64 c.args.left))) c.in_err-item.field-0.0
    (map view_next_init_declarator c.loop.all.items) _ c.loop.counter _ _ c.loop-test.true c.in_err-item.ensures c.loop.invariant.0)

pub returns-in_default : goal.returns-in_default
returns-in_default c = (
  stops_at (behind_comma next_init_declarator (init_declarator_by (within 64 c.args.left))) (map view_next_init_declarator c.loop.all.items)
      _ c.loop.counter _ _ c.loop-test.true (rw c.in_default.is at c.in_ok-item.ensures) c.loop.invariant.0,
  c.loop.invariant.1,
)

pub loop-preserved : goal.loop-preserved
loop-preserved c =
    let read = rw c.in-Some.is at c.in_ok-item.ensures in
    let pushed = ap (λ xs. height_list height_next_init_declarator (map view_next_init_declarator xs)) c.in_ok-add.ensures.items in
    let sum = list_height height_next_init_declarator view_next_init_declarator c.loop.all.items c.in-Some.item.value in (
      more (behind_comma next_init_declarator (init_declarator_by (within 64 c.args.left))) (map view_next_init_declarator c.loop.all.items)
          _ _ c.loop.counter _ _ _ _ c.loop-test.true read.0
          (ap (map view_next_init_declarator) c.in_ok-add.ensures.items
          ∙ map_push view_next_init_declarator c.loop.all.items c.in-Some.item.value) c.loop.invariant.0,
      (
        omega (arith, read.1.0, pushed, sum, c.loop.invariant.1.0, c.higher-height.ensures),
        omega (arith, read.1.1, c.loop.invariant.1.1, c.higher-height.ensures),
      ),
    )

pub returns : goal.returns
returns c = (
  is_done (behind_comma next_init_declarator (init_declarator_by (within 64 c.args.left))) (map view_next_init_declarator c.loop.all.items)
      _ c.loop.counter _ _ c.loop-test.false c.loop.invariant.0,
  c.loop.invariant.1,
)
