use Rattle.std.proofs.Common.{map, ap, ◌∙◌, refl, arith}
use Rattle.std.proofs.lemmas.Result.{err_from_is_err_and}
use Rattle.ec_grammar.specs.Nesting.{height_initialisers}
use Rattle.ec_parse_laws.specs.Reading.{initialiser_at, initialisers_of}
use Rattle.ec_parse_tokens.specs.Reads.{inner_at}
use Rattle.ec_parse_expressions.proofs.Many.{begins, more, fails, stops_at, is_done, map_push}
use Rattle.ec_parse_declarations.proofs.Lists.{initialisers_height}
use Rattle.ec_parse_declarations.specs.Parts.{view_next_initialiser}
use Rattle.ec_parse_declarations.proofs.declarations.+initialisers.Goals as goal

pub more_initialisers-loop-init : goal.more_initialisers-loop-init
more_initialisers-loop-init t c =
    rw c.new-all.ensures.items (begins (initialiser_at (inner_at c.args.left)) c.args.source.count c.args.tokens.now, (refl, omega arith))

pub more_initialisers-returns-in_err-item : goal.more_initialisers-returns-in_err-item
more_initialisers-returns-in_err-item t c =
    let p = err_from_is_err_and c.from_residual.result c.from_residual.ensures.1 in
    rw (p.1, p.2) (fails (initialiser_at (inner_at c.args.left)) c.in_err-item.field-0.0
    (map view_next_initialiser c.loop.all.items) _ c.loop.counter _ _ c.loop-test.true c.in_err-item.ensures c.loop.invariant.0)

pub more_initialisers-returns-in_default : goal.more_initialisers-returns-in_default
more_initialisers-returns-in_default t c = (
  stops_at (initialiser_at (inner_at c.args.left)) (map view_next_initialiser c.loop.all.items) _ c.loop.counter _ _ c.loop-test.true
      (rw c.in_default.is at c.in_ok-item.ensures) c.loop.invariant.0,
  c.loop.invariant.1,
)

pub more_initialisers-loop-preserved : goal.more_initialisers-loop-preserved
more_initialisers-loop-preserved t c =
    let read = rw c.in-Some.is at c.in_ok-item.ensures in
    let pushed = ap (λ xs. height_initialisers (initialisers_of (map view_next_initialiser xs))) c.in_ok-push.ensures.items in
    let sum = initialisers_height c.loop.all.items c.in-Some.item in (
      more (initialiser_at (inner_at c.args.left))
          (map view_next_initialiser c.loop.all.items) _ _ c.loop.counter _ _ _ _ c.loop-test.true read.0
          (ap (map view_next_initialiser) c.in_ok-push.ensures.items ∙ map_push view_next_initialiser c.loop.all.items c.in-Some.item)
          c.loop.invariant.0,
      (
        omega (arith, read.1.0, pushed, sum, c.loop.invariant.1.0, c.higher-height.ensures),
        omega (arith, read.1.1, c.loop.invariant.1.1, c.higher-height.ensures),
      ),
    )

pub more_initialisers-returns : goal.more_initialisers-returns
more_initialisers-returns t c = (
  is_done (initialiser_at (inner_at c.args.left))
      (map view_next_initialiser c.loop.all.items) _ c.loop.counter _ _ c.loop-test.false c.loop.invariant.0,
  c.loop.invariant.1,
)
