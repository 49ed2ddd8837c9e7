-- The text of a hooked port.
use Rattle.std.specs.Prelude.{bytes_eq, codes, ◌==◌}
use Rattle.std.specs.List.{list_all}
use Rattle.std.proofs.Common.{◌≡◌, ◌≤◌, ◌<◌, ◌&&◌, ℕ, false, List, [], ◌∷◌, length, take, drop, refl, arith}
use Rattle.ec_emu.specs.Forms.{is_hook}

pub is_hook-long : (text : List ℕ) → 5 ≤ length text
    → is_hook text ≡ (bytes_eq (take 5 text) (codes " hook") && list_all (λ c. c == 32) (drop 5 text))
is_hook-long [] long = absurd (omega (arith, long))
is_hook-long (a ∷ []) long = absurd (omega (arith, long))
is_hook-long (a ∷ b ∷ []) long = absurd (omega (arith, long))
is_hook-long (a ∷ b ∷ c ∷ []) long = absurd (omega (arith, long))
is_hook-long (a ∷ b ∷ c ∷ d ∷ []) long = absurd (omega (arith, long))
is_hook-long (a ∷ b ∷ c ∷ d ∷ e ∷ spaces) long = refl

pub is_hook-short : (text : List ℕ) → length text < 5 → is_hook text ≡ false
is_hook-short [] short = refl
is_hook-short (a ∷ []) short = refl
is_hook-short (a ∷ b ∷ []) short = refl
is_hook-short (a ∷ b ∷ c ∷ []) short = refl
is_hook-short (a ∷ b ∷ c ∷ d ∷ []) short = refl
is_hook-short (a ∷ b ∷ c ∷ d ∷ e ∷ spaces) short = absurd (omega (arith, short))
