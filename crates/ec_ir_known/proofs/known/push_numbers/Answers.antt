use Rattle.std.proofs.Common.{ℕ, ◌+◌, List, ◌++◌, ◌∷◌, [], sym, ap, ◌∙◌, subst, length, map, drop}
use Rattle.std.proofs.lemmas.List.{append_assoc}
use Rattle.ec_ir.specs.Operations.{PlainIr, plain_ir}
use Rattle.ec_ir_known.specs.Known.{known_of, numbers_from, known_after, HasResultPlace, HaveResultPlaces}
use Rattle.ec_ir_known.proofs.Rows.{places_drop, drop_next, numbers_same}
use Rattle.ec_ir_known.proofs.known.push_numbers.Goals as goal

pub pass-requires : goal.pass-requires
pass-requires c =
    let slots = length c.args.known.now in
    let code = map plain_ir c.args.code.now in
    let i = plain_ir c.index-code-k.result in
    let split =
    drop_next plain_ir c.args.code.now c.loop-k.k c.index-code-k.result c.loop-k-test.true c.index-code-k.is in
    let left = subst (λ (x : List PlainIr). HaveResultPlaces slots x) split (places_drop slots c.loop-k.k code c.requires) in
    subst (λ (n : ℕ). HasResultPlace n i) (sym c.loop-k.invariant.places) left.0

pub loop-k-preserved : goal.loop-k-preserved
loop-k-preserved c =
    let done = c.loop-k.numbers.items in
    let known = known_of c.loop-k.known in
    let next = known_of c.pass.new.self in
    let i = plain_ir c.index-code-k.result in
    let n = c.right.result in
    let rest = drop (c.loop-k.k + 1) (map plain_ir c.args.code.now) in
    let split =
    drop_next plain_ir c.args.code.now c.loop-k.k c.index-code-k.result c.loop-k-test.true c.index-code-k.is in
    record {
      places = c.pass.ensures.length ∙ c.loop-k.invariant.places;
      pushed = ap (λ xs. xs ++ numbers_from next rest) c.in_ok-push.ensures
          ∙ append_assoc done (n ∷ []) (numbers_from next rest)
          ∙ ap (λ xs. done ++ n ∷ xs) (numbers_same rest next (known_after i known) c.pass.ensures.known)
          ∙ ap (λ x. done ++ x ∷ numbers_from (known_after i known) rest) c.right.ensures
          ∙ ap (λ xs. done ++ numbers_from known xs) (sym split) ∙ c.loop-k.invariant.pushed;
    }
