-- How many constructs may be opened.
use Rattle.std.proofs.Common.{◌≡◌, ℕ, zero, suc, ◌-◌, ◌<◌, Some, None, refl, ap, arith}
use Rattle.ec_parse_laws.specs.Reading.{opened_at}
use Rattle.ec_parse_tokens.proofs.Leaves.{length_leaves}
use Rattle.ec_parse_tokens.specs.Reads.{inner_at}

pub none_opened : (n : ℕ) → n ≡ 0 → opened_at 64 n ≡ None
unfolding opened_at
none_opened zero e = refl
none_opened (suc n) e = cc

pub one_opened : (n : ℕ) → 0 < n → opened_at 64 n ≡ Some (inner_at (n - 1))
unfolding opened_at
one_opened n lt = let e : n ≡ suc (n - 1) = omega arith in ap (opened_at 64) e

pub ruleset depths = (none_opened, one_opened, length_leaves)
