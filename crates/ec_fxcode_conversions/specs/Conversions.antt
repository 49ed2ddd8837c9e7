-- Code that brings a number of one format into another, or into an integer: the number is scaled to the fraction bits
-- of the result in work bytes, in two's complement and with room for all its bits, and then brought into the format of
-- the result. R0, R1, R30 and R31 are work registers.
use Rattle.std.specs.Prelude.{ℕ, zero, suc, ◌+◌, ◌-◌, ◌*◌, ◌/◌, Bool, true, false, List, [], ◌++◌}
use Rattle.ec_fx.specs.declared.formats.Format.{Format}
use Rattle.ec_fx.specs.declared.numbers.Mode.{Mode}
use Rattle.ec_asm.specs.declared.items.AsmItem.{AsmItem}
use Rattle.ec_asm.specs.declared.pieces.Location.{Location}
use Rattle.ec_fxcode.specs.Clamps.{clamp_code}
use Rattle.ec_fxcode_scales.specs.Scales.{scale_code, cut_code}

-- ---- the number in units of the result

-- the bytes of a number of a bytes that is scaled up by so many bits, with one for its sign
abbrev pub scaled_bytes : (a up : ℕ) → ℕ
scaled_bytes a up = a + (up + 7) / 8 + 1

-- nothing is done where no bit is cut off
abbrev pub cut_some : Location → (m down : ℕ) → List AsmItem
cut_some w m zero = []
cut_some w m (suc d) = cut_code w m (suc d)

-- the number of a bytes at p, scaled up, and then cut and rounded toward zero, in the work bytes at w
abbrev pub units_code : (signed : Bool) → (p w : Location) → (a up down : ℕ) → List AsmItem
units_code signed p w a up down =
    scale_code signed p w a (scaled_bytes a up) up ++ cut_some w (scaled_bytes a up) down

-- ---- into a format

-- the number of a bytes at p, in the format f, to the k bytes at q, in the format `to`, by the work bytes at w: one of
-- the two differences is 0
abbrev pub convert_code : (f to : Format) → Mode → (p q w : Location) → (a k : ℕ) → List AsmItem
convert_code f to mode p q w a k =
    units_code f.signed p w a (to.frac - f.frac) (f.frac - to.frac)
    ++ clamp_code to mode w q (scaled_bytes a (to.frac - f.frac)) k

-- ---- into an integer

-- a format of k bytes, for numbers that are in range
abbrev pub container : (k : ℕ) → Format
container k = record { signed = true; bits = 8 * k; frac = 8 * k - 1 }

-- the low k bytes, with bytes of the sign above them, whatever the number is
abbrev pub wrapping : Mode
wrapping = record { saturate = false }

-- the number of a bytes at p, in the format f, without what stands behind the point, to the k bytes at q, by the work
-- bytes at w: the same for integers with and without a sign
abbrev pub whole_code : (f : Format) → (p q w : Location) → (a k : ℕ) → List AsmItem
whole_code f p q w a k =
    units_code f.signed p w a 0 f.frac ++ clamp_code (container k) wrapping w q (scaled_bytes a 0) k
