-- Pieces of code for the difference of two pointers in elements. The size of an element is a power of two times an odd
-- number. Division by the power is by halving, and division by the odd number, which leaves nothing over, is
-- multiplication by its inverse modulo 65,536. R0, R1, R8 to R11, R30 and R31 are work registers.
use Rattle.std.specs.Prelude.{ℕ, zero, suc, ◌+◌, ◌*◌, ◌/◌, ◌%◌, ◌^◌, ◌==◌, nat_lt, ◌&&◌, if◌then◌else◌}
use Rattle.std.specs.Prelude.{List, [], ◌∷◌, ◌++◌}
use Rattle.ec_isa.specs.declared.instructions.Instr.TheVariants.{Asr, Ror}
use Rattle.ec_asm.specs.declared.items.AsmItem.{AsmItem}
use Rattle.ec_asm.specs.declared.items.AsmItem.TheVariants.{Plain}
use Rattle.ec_asm.specs.declared.pieces.Location.{Location}
use Rattle.ec_asm.specs.declared.pieces.Operator.TheVariants.{Difference}
use Rattle.ec_asm.specs.Items.{chain}
use Rattle.ec_asm.specs.Pieces.{copy_code, operate_code}
use Rattle.ec_select_places.specs.Steps.{z_pair, scale_code}

-- R31:R30 is halved so often, in two's complement
abbrev pub halve_z : List AsmItem
halve_z = Plain (Asr 31) ∷ Plain (Ror 30) ∷ []

abbrev pub halvings_code : ℕ → List AsmItem
halvings_code count = chain (λ i. halve_z) count

-- the offset in the pointer p less that in c, in elements
abbrev pub distance_code : (p c q : Location) → (twos inverse : ℕ) → List AsmItem
distance_code p c q twos inverse =
    copy_code p z_pair 2 ++ (operate_code Difference c z_pair 2 ++ (halvings_code twos ++ (scale_code inverse
    ++ copy_code z_pair q 2)))

-- ---- the numbers of a size

-- how often 2 divides a number, at most so often
abbrev pub twos_within : ℕ → ℕ → ℕ
twos_within zero size = 0
twos_within (suc n) size = if size % 2 == 0 then suc (twos_within n (size / 2)) else 0

-- how often 2 divides a number from 1 to 65,535
abbrev pub twos_of : ℕ → ℕ
twos_of size = twos_within 15 size

-- what is left without these factors
abbrev pub odd_of : ℕ → ℕ
odd_of size = size / 2 ^ twos_of size

-- Newton's step: an inverse modulo twice as many bits, at most 16. 65,535 is -1
abbrev pub refined : (odd found : ℕ) → ℕ
refined odd found = found * (2 + 65535 * (odd * found)) % 65536

-- the inverse of an odd number modulo 65,536: it is its own inverse modulo 8
abbrev pub inverse_of : ℕ → ℕ
inverse_of odd = refined odd (refined odd (refined odd odd))

-- the size that is divided by. 1 serves for 65,536 or more, as offsets within 32,768 of one another that are a multiple
-- of such a size apart are equal
abbrev pub divisor_of : ℕ → ℕ
divisor_of size = if nat_lt 0 size && nat_lt size 65536 then size else 1

-- the offset in the pointer p less that in c, in elements of so many bytes
abbrev pub elements_code : (p c q : Location) → (size : ℕ) → List AsmItem
elements_code p c q size = distance_code p c q (twos_of (divisor_of size)) (inverse_of (odd_of (divisor_of size)))
