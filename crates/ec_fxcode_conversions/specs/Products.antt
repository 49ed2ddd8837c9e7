-- Code that multiplies two numbers of one byte each, of which one is fixed-point at least: the product of the bytes,
-- with a byte of its sign above it, is brought to the fraction bits of the result and into its format, in work bytes.
-- R0, R1, R30 and R31 are work registers.
use Rattle.std.specs.Prelude.{◌+◌, ◌-◌, ◌||◌, List, ◌++◌}
use Rattle.ec_fx.specs.declared.formats.Format.{Format}
use Rattle.ec_fx.specs.declared.numbers.Mode.{Mode}
use Rattle.ec_asm.specs.declared.items.AsmItem.{AsmItem}
use Rattle.ec_asm.specs.declared.pieces.Location.{Location}
use Rattle.ec_select_products.specs.Products.{product_code}
use Rattle.ec_fxcode.specs.Clamps.{clamp_code}
use Rattle.ec_fxcode_quotients.specs.Quotients.{further}
use Rattle.ec_fxcode_conversions.specs.Conversions.{scaled_bytes, units_code}

-- the product of two bytes, in two bytes at w, has a sign where one of them has: it is cut by the fraction bits that it
-- has beyond those of the result, in the bytes above
abbrev pub exact_code : (f g to : Format) → (p c w : Location) → List AsmItem
exact_code f g to p c w =
    product_code f.signed g.signed p c w 2
    ++ units_code (f.signed || g.signed) w (further w 2) 2 0 (f.frac + g.frac - to.frac)

-- the number at p times that at c, to the byte at q, by the work bytes at w
abbrev pub multiply_code : (f g to : Format) → Mode → (p c q w : Location) → List AsmItem
multiply_code f g to mode p c q w =
    exact_code f g to p c w ++ clamp_code to mode (further w 2) q (scaled_bytes 2 0) 1
