use Rattle.std.proofs.Common.{◌≡◌, ◌||◌, Bool, true, false, sym, subst, rules, ℤ, int_lt, Option, Some, None, if◌then◌else◌}
use Rattle.std.specs.Prelude.{IfSome}
use Rattle.std.proofs.lemmas.Nat.{pow_pos}
use Rattle.ec_fx.specs.Conversions.{exact_whole, integer_of}
use Rattle.ec_fx.specs.Rounding.{rounded, IsWithinUnit}
use Rattle.ec_fx.specs.Ranges.{least, greatest}
use Rattle.ec_fx.proofs.Accuracy.{unit_of_trunc}
use Rattle.ec_fx.proofs.conversions.to_int.Goals as goal

kept : (P : ℤ → Type 0) (b : Bool) (n : ℤ) → P n → IfSome (if b then None else Some n) P
kept P true n h = tt
kept P false n h = h

pub returns-clause-unit : goal.returns-clause-unit
returns-clause-unit c =
    let n : ℤ = rounded (exact_whole c.args.a) in
    let e : c.held.result ≡ integer_of c.args.a c.args.signed c.args.bits = search rules in
    let unit : IsWithinUnit (exact_whole c.args.a) n =
    unit_of_trunc c.args.a.n (exact_whole c.args.a).denominator (pow_pos c.args.a.format.frac) in
    subst (λ (o : Option ℤ). IfSome o (IsWithinUnit (exact_whole c.args.a))) (sym e) (kept (IsWithinUnit (exact_whole c.args.a))
    (int_lt (greatest c.args.signed c.args.bits) n || int_lt n (least c.args.signed c.args.bits)) n unit)
