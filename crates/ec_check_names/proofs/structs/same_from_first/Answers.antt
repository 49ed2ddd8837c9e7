use Rattle.std.proofs.Common.{◌≡◌, ◌∙◌, ◌+◌, ap, sym, arith, true, false, drop, map, option_map}
use Rattle.std.specs.Prelude.{slice_get}
use Rattle.std.proofs.lemmas.Grind.{common_steps}
use Rattle.std.proofs.lemmas.Option.{slice_get-map}
use Rattle.ec_core.specs.Plain.{plain_member}
use Rattle.ec_check_names.specs.Structs.{same_member, same_from}
use Rattle.ec_check_names.proofs.Walks.{here, one_differs, one_agrees}
use Rattle.ec_check_names.proofs.structs.same_from_first.Goals as goal

pub returns-then-not-same_member : goal.returns-then-not-same_member
returns-then-not-same_member c =
    let x = plain_member c.x-item.result in
    let i = c.loop-x.x-index in
    let a = c.args.a.now in
    let b = map plain_member c.args.b.now.items in
    let differs : c.same_member.result ≡ false = first_of (cc, grind (arith, common_steps)) in
    let e : same_member x (slice_get b c.loop-x.place) ≡ false =
    sym (c.same_member.ensures
    ∙ ap (same_member x) (ap (option_map plain_member) c.get.ensures ∙ sym (slice_get-map plain_member c.args.b.now.items c.loop-x.place)))
    ∙ differs in
    one_differs x (map plain_member (drop (i + 1) a)) b c.loop-x.place e
    ∙ (ap (λ xs. same_from c.loop-x.place (map plain_member xs) b) (sym (here a i c.x-item.result c.loop-x-test.true c.x-item.is))
    ∙ c.loop-x.invariant.same)

pub loop-x-preserved : goal.loop-x-preserved
loop-x-preserved c =
    let x = plain_member c.x-item.result in
    let i = c.loop-x.x-index in
    let a = c.args.a.now in
    let b = map plain_member c.args.b.now.items in
    let agrees : c.same_member.result ≡ true = first_of (cc, grind (arith, common_steps)) in
    let e : same_member x (slice_get b c.loop-x.place) ≡ true =
    sym (c.same_member.ensures
    ∙ ap (same_member x) (ap (option_map plain_member) c.get.ensures ∙ sym (slice_get-map plain_member c.args.b.now.items c.loop-x.place)))
    ∙ agrees in
    record {
      place = ap (λ k. k + 1) c.loop-x.invariant.place;
      same =
          one_agrees x (map plain_member (drop (i + 1) a)) b c.loop-x.place e
          ∙ (ap (λ xs. same_from c.loop-x.place (map plain_member xs) b) (sym (here a i c.x-item.result c.loop-x-test.true c.x-item.is))
          ∙ c.loop-x.invariant.same);
    }
