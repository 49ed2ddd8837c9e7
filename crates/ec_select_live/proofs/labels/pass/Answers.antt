use Rattle.std.proofs.Common.{◌≡◌, ◌⊎◌, ◌-◌, ℕ, Bool, true, false, ◌∷◌, sym, ◌∙◌, subst, map}
use Rattle.std.proofs.Common.{length, drop, inl, inr}
use Rattle.ec_ir.specs.Operations.{plain_ir}
use Rattle.ec_select_operations.specs.Needs.{known_right}
use Rattle.ec_select_live.specs.Places.{HasPlaces, HavePlaces}
use Rattle.ec_select_live.proofs.Growth.{NoMore, IsNoMore, no_more}
use Rattle.ec_select_live.proofs.Passes.{places_at, drop_back, Passed, Joined, passed_more, number_is}
use Rattle.ec_select_live.proofs.labels.pass.Goals as goal
use Rattle.ec_select_live.proofs.labels.pass.Goals.{After-before-in-loop-k}

-- the operation and those behind it
pub before-requires : goal.before-requires
before-requires c =
    let e : length c.args.need.now ≡ length c.loop-k.need = sym (c.loop-k.auto.need ∙ c.clear.auto.need) in
    let p = places_at plain_ir
    (length c.args.need.now) c.args.code.now c.loop-k.k c.index-code-k.result c.loop-k-test.true c.loop-k.auto.k c.index-code-k.is
    c.requires.places in
    subst (λ (s : ℕ). HasPlaces s (plain_ir c.index-code-k.result)) e p.0

-- the number of the operation
number : (c : After-before-in-loop-k) → c.number_at-number.result
    ≡ known_right (map plain_ir c.args.code.now) (plain_ir c.index-code-k.result ∷ drop c.loop-k.k (map plain_ir c.args.code.now))
number c =
    number_is c.args.numbers.now (map plain_ir c.args.code.now) (c.loop-k.k - 1) (plain_ir c.index-code-k.result)
    (drop c.loop-k.k (map plain_ir c.args.code.now)) c.number_at-number.result c.requires.numbers
    (drop_back plain_ir c.args.code.now c.loop-k.k c.index-code-k.result c.loop-k-test.true c.loop-k.auto.k c.index-code-k.is)
    c.number_at-number.ensures

more : (c : After-before-in-loop-k) (all : Bool) → ((all ≡ false) → (c.loop-k.grown ≡ false) × (c.join_label-more.result ≡ false))
    → ((all ≡ true) → (c.loop-k.grown ≡ true) ⊎ (c.join_label-more.result ≡ true))
    → Passed (length c.before-in-loop-k.new.need) c.args.in_flash
    (map plain_ir c.args.code.now) c.args.table.now c.join_label-more.new.table c.before-in-loop-k.new.need
    (drop (c.loop-k.k - 1) (map plain_ir c.args.code.now)) all
more c all none some =
    let e : length c.args.need.now ≡ length c.loop-k.need = sym (c.loop-k.auto.need ∙ c.clear.auto.need) in
    let p = places_at plain_ir
    (length c.args.need.now) c.args.code.now c.loop-k.k c.index-code-k.result c.loop-k-test.true c.loop-k.auto.k c.index-code-k.is
    c.requires.places in
    let q = subst (λ (s : ℕ). HavePlaces s (plain_ir c.index-code-k.result ∷ drop c.loop-k.k (map plain_ir c.args.code.now))) e p in
    let j : Joined (length c.loop-k.need) c.loop-k.table c.join_label-more.new.table c.loop-k.need
    (plain_ir c.index-code-k.result) c.join_label-more.result =
    record {
      kept = c.join_label-more.ensures.kept;
      grew = c.join_label-more.ensures.grown;
      same = c.join_label-more.ensures.same;
      is =
          c.join_label-more.ensures.joined;
    } in
    subst (λ (s : ℕ). Passed s c.args.in_flash (map plain_ir c.args.code.now) c.args.table.now c.join_label-more.new.table
    c.before-in-loop-k.new.need
    (drop (c.loop-k.k - 1) (map plain_ir c.args.code.now)) all) (sym c.before-in-loop-k.auto.need)
    (passed_more (length c.loop-k.need) c.args.in_flash
    (map plain_ir c.args.code.now) c.args.table.now c.loop-k.table c.join_label-more.new.table c.loop-k.need
    c.before-in-loop-k.new.need (drop c.loop-k.k (map plain_ir c.args.code.now)) (drop (c.loop-k.k - 1) (map plain_ir c.args.code.now))
    c.number_at-number.result (plain_ir c.index-code-k.result) c.loop-k.grown c.join_label-more.result all
    (number c) q.0 q.1 c.before-in-loop-k.auto.need
    (drop_back plain_ir c.args.code.now c.loop-k.k c.index-code-k.result c.loop-k-test.true c.loop-k.auto.k c.index-code-k.is) none
    some c.loop-k.invariant.passed j c.before-in-loop-k.ensures)

least : (c : After-before-in-loop-k)
    → NoMore (length c.before-in-loop-k.new.need) c.args.in_flash
    (map plain_ir c.args.code.now) c.args.table.now c.join_label-more.new.table c.before-in-loop-k.new.need
    (drop (c.loop-k.k - 1) (map plain_ir c.args.code.now))
least c =
    let e : length c.args.need.now ≡ length c.loop-k.need = sym (c.loop-k.auto.need ∙ c.clear.auto.need) in
    let p = places_at plain_ir
    (length c.args.need.now) c.args.code.now c.loop-k.k c.index-code-k.result c.loop-k-test.true c.loop-k.auto.k c.index-code-k.is
    c.requires.places in
    let q = subst (λ (s : ℕ). HasPlaces s (plain_ir c.index-code-k.result)) e p.0 in
    subst (λ (s : ℕ). NoMore s c.args.in_flash (map plain_ir c.args.code.now) c.args.table.now c.join_label-more.new.table
    c.before-in-loop-k.new.need
    (drop (c.loop-k.k - 1) (map plain_ir c.args.code.now))) (sym c.before-in-loop-k.auto.need)
    (no_more (length c.loop-k.need) c.args.in_flash
    (map plain_ir c.args.code.now) c.args.table.now c.loop-k.table c.join_label-more.new.table c.loop-k.need
    c.before-in-loop-k.new.need (drop c.loop-k.k (map plain_ir c.args.code.now)) c.number_at-number.result
    (plain_ir c.index-code-k.result) (c.loop-k.k - 1) (number c) q
    (drop_back plain_ir c.args.code.now c.loop-k.k c.index-code-k.result c.loop-k-test.true c.loop-k.auto.k c.index-code-k.is)
    c.loop-k.invariant.least c.join_label-more.ensures.least c.before-in-loop-k.ensures)

pub loop-k-preserved : goal.loop-k-preserved
loop-k-preserved c =
    let d = (goal.at.loop-k-preserved c).After-before-in-loop-k in
    record { passed = more d c.join_label-more.result (λ f. (c.if-grown.false, f)) (λ g. inr g); least = least d }

pub loop-k-preserved-then-grown : goal.loop-k-preserved-then-grown
loop-k-preserved-then-grown c =
    let d = (goal.at.loop-k-preserved-then-grown c).After-before-in-loop-k in
    record { passed = more d c.loop-k.grown (λ f. let g = c.if-grown.true in absurd (cc)) (λ g. inl g); least = least d }

pub returns-clause-least : goal.returns-clause-least
returns-clause-least c =
    subst (λ (s : ℕ). IsNoMore c.args.in_flash s (map plain_ir c.args.code.now) c.args.table.now c.loop-k.table)
    (c.loop-k.auto.need ∙ c.clear.auto.need) c.loop-k.invariant.least.at_labels
