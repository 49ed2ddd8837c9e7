use Rattle.std.proofs.Common.{◌≡◌, ◌-◌, ℕ, sym, ◌∙◌, subst, arith, map, length, drop}
use Rattle.ec_ir.specs.Operations.{plain_ir}
use Rattle.ec_select_operations.specs.Needs.{facts_of, needs}
use Rattle.ec_select_live.specs.Places.{HasPlaces}
use Rattle.ec_select_live.specs.Tables.{need_of, needs_of, AreSame}
use Rattle.ec_select_live.proofs.Passes.{places_at, drop_back, need_more, wanted_more, number_is}
use Rattle.ec_select_live.proofs.labels.want.Goals as goal
use Rattle.ec_select_live.proofs.labels.want.Goals.{After-index-code-k}

has_places : (c : After-index-code-k) → HasPlaces (length c.loop-k.need) (plain_ir c.index-code-k.result)
has_places c =
    let e : length c.args.need.now ≡ length c.loop-k.need = sym (c.loop-k.auto.need ∙ c.clear.auto.need) in
    let p = places_at plain_ir
    (length c.args.need.now) c.args.code.now c.loop-k.k c.index-code-k.result c.loop-k-test.true c.loop-k.auto.k c.index-code-k.is
    c.requires.places in
    subst (λ (s : ℕ). HasPlaces s (plain_ir c.index-code-k.result)) e p.0

pub wanted_behind-requires : goal.wanted_behind-requires
wanted_behind-requires c = has_places (goal.at.wanted_behind-requires c).After-index-code-k

pub before-requires : goal.before-requires
before-requires c = has_places (goal.at.before-requires c).After-index-code-k

pub loop-k-preserved : goal.loop-k-preserved
loop-k-preserved c =
    let p = has_places (goal.at.loop-k-preserved c).After-index-code-k in
    let is = drop_back plain_ir c.args.code.now c.loop-k.k c.index-code-k.result c.loop-k-test.true c.loop-k.auto.k c.index-code-k.is in
    let rest = drop c.loop-k.k (map plain_ir c.args.code.now) in
    let code = drop (c.loop-k.k - 1) (map plain_ir c.args.code.now) in
    let labels = needs_of c.args.table.now in
    let all = map plain_ir c.args.code.now in
    let number = number_is c.args.numbers.now (map plain_ir c.args.code.now) (c.loop-k.k - 1)
    (plain_ir c.index-code-k.result) rest c.number_at-number.result c.requires.numbers is c.number_at-number.ensures in
    record {
      need = subst (λ (s : ℕ). AreSame s (need_of c.before-in-loop-k.new.need) (needs (facts_of c.args.in_flash labels all) code))
          (sym c.before-in-loop-k.auto.need)
          (need_more (length c.loop-k.need) c.args.in_flash labels all code rest c.number_at-number.result
          (plain_ir c.index-code-k.result) c.loop-k.need c.before-in-loop-k.new.need number p is c.loop-k.invariant.need
          c.before-in-loop-k.ensures);
      written = wanted_more (length c.loop-k.need) c.args.in_flash labels all code rest
          (plain_ir c.index-code-k.result) c.loop-k.need c.loop-k.wanted c.loop-k.k c.wanted_behind.result p is c.loop-k.invariant.need
          c.wanted_behind.ensures c.loop-k-test.true (omega arith) c.loop-k.invariant.written;
    }
