use Rattle.std.proofs.Common.{◌≡◌, ◌∙◌, ◌+◌, ap, sym, arith, true, false, drop, map, option_map}
use Rattle.std.specs.Prelude.{slice_get}
use Rattle.std.proofs.lemmas.Grind.{common_steps}
use Rattle.std.proofs.lemmas.Option.{slice_get-map}
use Rattle.ec_core.specs.Plain.{plain_type}
use Rattle.ec_check_file_scope.specs.FileNames.{same_at, same_from}
use Rattle.ec_check_file_scope.proofs.Walks.{here, one_differs, one_agrees}
use Rattle.ec_check_file_scope.proofs.file_names.same_from_first.Goals as goal

pub returns-then-not-same_at : goal.returns-then-not-same_at
returns-then-not-same_at c =
    let x = plain_type c.x-item.result in
    let i = c.loop-x.x-index in
    let a = c.args.a.now in
    let b = map plain_type c.args.b.now.items in
    let differs : c.same_at.result ≡ false = first_of (cc, grind (arith, common_steps)) in
    let e : same_at x (slice_get b c.loop-x.place) ≡ false =
    sym (c.same_at.ensures ∙ ap (same_at x)
    (ap (option_map plain_type) c.get.ensures ∙ sym (slice_get-map plain_type c.args.b.now.items c.loop-x.place))) ∙ differs in
    one_differs x (map plain_type (drop (i + 1) a)) b c.loop-x.place e
    ∙ (ap (λ xs. same_from c.loop-x.place (map plain_type xs) b) (sym (here a i c.x-item.result c.loop-x-test.true c.x-item.is))
    ∙ c.loop-x.invariant.same)

pub loop-x-preserved : goal.loop-x-preserved
loop-x-preserved c =
    let x = plain_type c.x-item.result in
    let i = c.loop-x.x-index in
    let a = c.args.a.now in
    let b = map plain_type c.args.b.now.items in
    let agrees : c.same_at.result ≡ true = first_of (cc, grind (arith, common_steps)) in
    let e : same_at x (slice_get b c.loop-x.place) ≡ true =
    sym (c.same_at.ensures ∙ ap (same_at x)
    (ap (option_map plain_type) c.get.ensures ∙ sym (slice_get-map plain_type c.args.b.now.items c.loop-x.place))) ∙ agrees in
    record {
      place = ap (λ k. k + 1) c.loop-x.invariant.place;
      same =
          one_agrees x (map plain_type (drop (i + 1) a)) b c.loop-x.place e
          ∙ (ap (λ xs. same_from c.loop-x.place (map plain_type xs) b) (sym (here a i c.x-item.result c.loop-x-test.true c.x-item.is))
          ∙ c.loop-x.invariant.same);
    }
