use Rattle.std.proofs.Common.{◌≡◌, [], ◌∷◌, ◌++◌, ap, sym, ◌∙◌, append_assoc, append-nil, arith}
use Rattle.std.proofs.lemmas.Grind.{common_steps}
use Rattle.std.specs.Map.{keys_of}
use Rattle.ec_map.proofs.Made.{Entry, placed_more, names_told, ascending}
use Rattle.ec_map.proofs.map.places_in.Goals as goal

pub places-preserved : goal.places-preserved
places-preserved c =
    let (done, whole, told) = c.places.invariant in
    let e : Entry = (c.in-Some.name.now, c.in-Some.value.now) in
    let left : c.places.name-iterator ≡ e ∷ c.next.new.self = grind (arith, common_steps) in
    let all = whole ∙ ap (λ t. done ++ t) left ∙ sym (append_assoc done (e ∷ []) c.next.new.self) in
    let one = rw c.as_str.ensures.value at c.in_ok-place_from.ensures in (
      done ++ e ∷ [],
      all,
      placed_more c.args.core c.places.made.items c.push.new.self.items c.in_ok-place_from.field-0 done e told one c.in_ok-push.ensures.ok,
    )

pub returns-clause-ascending : goal.returns-clause-ascending
returns-clause-ascending c =
    let (done, whole, told) = c.places.invariant in
    let none : c.places.name-iterator ≡ [] = grind (arith, common_steps) in
    let all : c.args.table.now.entries ≡ done = whole ∙ rw none (append-nil done) in
    rw (names_told c.args.core c.places.made.items done told, ← all) (ascending (keys_of c.args.table.now.entries) c.iter-name-items.ensures.ordered)
