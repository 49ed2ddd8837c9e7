use Rattle.std.proofs.Common.{arith, length, ap, sym, ◌∙◌}
use Rattle.std.proofs.lemmas.List.{length-map}
use Rattle.ec_grammar.specs.Tokens.{view_tokens}
use Rattle.ec_lex.specs.Views.{view_scope}
use Rattle.ec_lex.proofs.TextLaws.{starts, some_left, reads_more, stopped, too_long, not_noted}
use Rattle.ec_lex.proofs.lexing.tokens_of.Goals as goal

pub loop-rest-init : goal.loop-rest-init
loop-rest-init c = (
  omega (arith, ap length c.new-tokens.ensures),
  omega arith,
  starts c.args.text.now (view_tokens c.new-tokens.result.items) (view_scope c.new-scope.result)
      (ap view_tokens c.new-tokens.ensures) c.new-scope.ensures,
)

pub loop-rest-preserved : goal.loop-rest-preserved
loop-rest-preserved c =
    let ok = rw c.in-Ok-note_token.is at c.note_token.ensures.ok in
    let few = rw c.in-Ok-note_token.is at c.note_token.ensures.few in
    let some = some_left c.loop-rest.rest.now (sym c.is_empty.ensures ∙ c.loop-rest-test.true) in (
      few,
      omega (arith, c.in-Ok.ensures.shorter, c.loop-rest.invariant.1),
      rw ok (reads_more (length c.args.text.now) _ (view_scope c.loop-rest.scope) (view_scope c.step.new.scope) c.args.text.now
          c.loop-rest.rest.now c.in-Ok.more.now (view_tokens c.loop-rest.tokens.items) c.in-Ok.kind _
          c.loop-rest.invariant.2 some c.in-Ok.ensures.effect c.in-Ok.ensures.rest c.offset-at.ensures),
    )

pub returns-in-Err-note_token : goal.returns-in-Err-note_token
returns-in-Err-note_token c =
    let some = some_left c.loop-rest.rest.now (sym c.is_empty.ensures ∙ c.loop-rest-test.true) in
    let err = rw c.in-Err-note_token.is at c.note_token.ensures.err in
    not_noted c.args.text.now c.in-Err-note_token.stop c.in-Ok.kind c.loop-rest.tokens.items
    (λ is_some at_most. too_long c.args.text.now (view_tokens c.loop-rest.tokens.items) (view_scope c.loop-rest.scope)
    (view_scope c.step.new.scope) c.loop-rest.rest.now c.in-Ok.more.now c.in-Ok.kind _
    c.loop-rest.invariant.2 some c.in-Ok.ensures.effect c.in-Ok.ensures.rest c.offset-at.ensures is_some at_most) err

pub returns-in-Err : goal.returns-in-Err
returns-in-Err c =
    stopped c.args.text.now (view_tokens c.loop-rest.tokens.items) (view_scope c.loop-rest.scope)
    (view_scope c.step.new.scope) c.loop-rest.rest.now c.in-Err.stop _ c.stop_at.result
    c.loop-rest.invariant.2 (simp length-map c.loop-rest.invariant.0) (some_left c.loop-rest.rest.now
    (sym c.is_empty.ensures ∙ c.loop-rest-test.true)) c.in-Err.ensures.fault c.offset-at.ensures c.stop_at.ensures
