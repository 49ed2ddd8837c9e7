-- Code that adds, subtracts and negates fixed-point numbers, also of two formats, or of one and a whole number. Both
-- operands are scaled to the greater count of fraction bits, as numbers of equally many bytes in two's complement, in
-- the work bytes and 16 bytes further up. There they are added or subtracted, and the result, which has a byte more
-- than it needs, is cut to the fraction bits of its format, rounded toward zero, and clamped into it. R0, R1, R30 and
-- R31 are work registers.
use Rattle.std.specs.Prelude.{ℕ, suc, ◌+◌, ◌-◌, ◌/◌, ◌==◌, max, Bool, true, false, if◌then◌else◌, List, [], ◌++◌}
use Rattle.ec_fx.specs.declared.formats.Format.{Format}
use Rattle.ec_fx.specs.declared.numbers.Mode.{Mode}
use Rattle.ec_asm.specs.declared.items.AsmItem.{AsmItem}
use Rattle.ec_asm.specs.declared.pieces.Location.{Location}
use Rattle.ec_asm.specs.declared.pieces.Operator.{Operator}
use Rattle.ec_asm.specs.declared.pieces.Operator.TheVariants.{Sum, Difference}
use Rattle.ec_asm.specs.Pieces.{operate_code}
use Rattle.ec_select_bytes.specs.Complements.{negation_code}
use Rattle.ec_fxcode.specs.Clamps.{clamp_code}
use Rattle.ec_fxcode_scales.specs.Scales.{scale_code, cut_code}
use Rattle.ec_fxcode_quotients.specs.Quotients.{further}

-- ---- both operands with the greater count of fraction bits

-- the bits by which a number of the first format is scaled
abbrev pub raised : (f g : Format) → ℕ
raised f g = g.frac - f.frac

-- the bytes of a number of n bytes, scaled by d bits
abbrev pub raised_bytes : (n d : ℕ) → ℕ
raised_bytes n d = n + (d + 7) / 8

-- the bytes that either scaled operand has room in, with its sign
abbrev pub aligned_bytes : (f g : Format) → (a b : ℕ) → ℕ
aligned_bytes f g a b = suc (max (raised_bytes a (raised f g)) (raised_bytes b (raised g f)))

-- where the second operand is scaled to
abbrev pub second_at : Location → Location
second_at w = further w 16

-- the operands of a bytes at p and of b bytes at c, both scaled into m bytes
abbrev pub align_code : (f g : Format) → (p c w : Location) → (a b m : ℕ) → List AsmItem
align_code f g p c w a b m =
    scale_code f.signed p w a m (raised f g) ++ scale_code g.signed c (second_at w) b m (raised g f)

-- ---- into the format of the result

-- the bits by which the number is cut
abbrev pub surplus : (f g to : Format) → ℕ
surplus f g to = max f.frac g.frac - to.frac

abbrev pub cut_if : Location → (m d : ℕ) → List AsmItem
cut_if w m d = if d == 0 then [] else cut_code w m d

-- the number of m bytes at w, cut by d bits, in the format of k bytes at q
abbrev pub settle_code : Format → Mode → (w q : Location) → (m k d : ℕ) → List AsmItem
settle_code to mode w q m k d = cut_if w m d ++ clamp_code to mode w q m k

-- ---- sums and differences

abbrev pub operator_of : (minus : Bool) → Operator
operator_of true = Difference
operator_of false = Sum

-- the sum, or the difference, of the scaled operands of m bytes
abbrev pub combine_code : (minus : Bool) → Format → Mode → (w q : Location) → (m k d : ℕ) → List AsmItem
combine_code minus to mode w q m k d =
    operate_code (operator_of minus) (second_at w) w m ++ settle_code to mode w q m k d

-- the number of a bytes at p plus, or minus, that of b bytes at c, to the k bytes at q, by the work bytes at w
abbrev pub sum_code : (minus : Bool) → (f g to : Format) → Mode → (p c q w : Location) → (a b k : ℕ) → List AsmItem
sum_code minus f g to mode p c q w a b k =
    align_code f g p c w a b (suc (aligned_bytes f g a b))
    ++ combine_code minus to mode w q (suc (aligned_bytes f g a b)) k (surplus f g to)

-- ---- negations

-- the number of k bytes at p, negated, to the k bytes at q, by the work bytes at w
abbrev pub negate_code : Format → Mode → (p q w : Location) → (k : ℕ) → List AsmItem
negate_code f mode p q w k =
    scale_code f.signed p w k (suc k) 0 ++ (negation_code w (suc k) ++ clamp_code f mode w q (suc k) k)
