-- How many bytes a turn of a loop sets.
use Rattle.std.proofs.Common.{◌≡◌, ℕ, zero, suc, ◌+◌, ◌*◌, ◌/◌, ◌%◌, ◌<◌, ◌≤◌, Bool, true, false, arith}
use Rattle.std.specs.Prelude.{nat_lt, if◌then◌else◌}
use Rattle.std.proofs.Math.Nat.{div-le_self, div-add-mod}
use Rattle.std.proofs.lemmas.Nat.{mod_below}
use Rattle.ec_select_startup.specs.declared.spans.Filling.{Filling}
use Rattle.ec_select_startup.specs.declared.spans.Filling.TheVariants.{Copied, Cleared}
use Rattle.ec_select_startup.specs.Startup.{bytes_a_turn, byte_words, most_stores}

-- a turn of at least two bytes, and no more than are set by their addresses
pub record IsTurn (filling : Filling) (n t : ℕ) : Type 0 where
  pub some : 2 ≤ t
  pub below : t ≤ most_stores filling
  pub words : byte_words filling * t + byte_words filling * (n % t) ≤ 7

pub is_turn : (filling : Filling) (n : ℕ) → IsTurn filling n (bytes_a_turn filling n)
is_turn Copied n =
    let m = mod_below n 2 (omega arith) in
    record { some = omega arith; below = omega arith; words = omega (arith, m) }
is_turn Cleared n = by_fewer (nat_lt (n % 4) (n % 3))
  where
    by_fewer : (fewer : Bool) → IsTurn Cleared n (if fewer then 4 else 3)
    by_fewer true =
        let m = mod_below n 4 (omega arith) in
        record { some = omega arith; below = omega arith; words = omega (arith, m) }
    by_fewer false =
        let m = mod_below n 3 (omega arith) in
        record { some = omega arith; below = omega arith; words = omega (arith, m) }

-- whole turns, at least one, and what is left over
abbrev pub Divided : (n d : ℕ) → Type 0
Divided n d = (1 ≤ n / d) × (d * (n / d) + n % d ≡ n) × (n / d ≤ n)

pub divided : (n d : ℕ) → 1 ≤ d → d ≤ n → Divided n d
divided n d some l =
    let sum = div-add-mod n d in
    let m = mod_below n d (omega (arith, some)) in
    (one (n / d) (n % d) sum m, sum, div-le_self n d)
  where
    one : (q r : ℕ) → d * q + r ≡ n → r < d → 1 ≤ q
    one zero r sum m = absurd (omega (arith, sum, m, l))
    one (suc q) r sum m = omega arith
