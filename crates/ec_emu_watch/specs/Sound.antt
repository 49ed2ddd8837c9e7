-- What a watch keeps.
use Rattle.std.specs.Prelude.{◌≡◌, ◌<◌, ℤ, pos, negsuc, ◌^◌, Bool}
use Rattle.ec_emu_watch.specs.declared.watch.Watch.{Watch}
use Rattle.ec_emu_watch.specs.declared.point.WatchPoint.{WatchPoint}

-- a number of at most eight bytes, signed or unsigned
abbrev pub IsWatchable : ℤ → Type 0
IsWatchable (pos n) = n < 2 ^ 64
IsWatchable (negsuc n) = n < 2 ^ 63

abbrev pub rule_of : {F R : Type 0} → Watch F R → R
rule_of watch = watch.rule

abbrev pub function_of : {F R : Type 0} → Watch F R → F
function_of watch = watch.f

abbrev pub point_of : {F R : Type 0} → Watch F R → WatchPoint
point_of watch = watch.point

-- its function may be called on each such number, and answers whether its rule holds
abbrev pub IsSound : {F R : Type 0} → (F → ℤ → Type 0) → (F → ℤ → Bool → Type 0) → (R → ℤ → Bool) → Watch F R → Type 0
IsSound pre post holds watch =
    (value : ℤ) → IsWatchable value
    → pre (function_of watch) value
    × ((answer : Bool) → post (function_of watch) value answer → answer ≡ holds (rule_of watch) value)
