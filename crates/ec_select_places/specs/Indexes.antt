-- Pieces of code for a pointer in registers that is moved by a number of elements in others, which is added as it stands.
-- R0, R1 and R26 are work registers.
use Rattle.std.specs.Prelude.{ℕ, ◌+◌, ◌==◌, nat_lt, Bool, true, false, not, ◌&&◌, if◌then◌else◌, List, [], ◌∷◌, ◌++◌}
use Rattle.ec_isa.specs.declared.instructions.Instr.TheVariants.{Ldi, Add, Adc, Sub, Sbc, Mul}
use Rattle.ec_asm.specs.declared.items.AsmItem.{AsmItem}
use Rattle.ec_asm.specs.declared.items.AsmItem.TheVariants.{Plain}
use Rattle.ec_asm.specs.declared.pieces.Location.{Location}
use Rattle.ec_asm.specs.declared.pieces.Location.TheVariants.{InRegisters}
use Rattle.ec_asm.specs.Items.{chain}

-- more bytes than one, or one without a sign, where elements have fewer than 256 bytes
abbrev pub is_addend : Bool → (n size : ℕ) → Bool
is_addend signed n size = not (n == 1 && signed) && (nat_lt 0 size && nat_lt size 256)

-- such a number of n bytes, in other registers than the pointer
abbrev pub can_add : Bool → (p q : Location) → (n size : ℕ) → Bool
can_add signed (InRegisters r) (InRegisters d) n size = not (r == d) && is_addend signed n size
can_add signed p q n size = false

-- the two bytes from register d on plus those of two registers, or less these
abbrev pub pair_code : Bool → (d low high : ℕ) → List AsmItem
pair_code false d low high = Plain (Add d low) ∷ Plain (Adc (d + 1) high) ∷ []
pair_code true d low high = Plain (Sub d low) ∷ Plain (Sbc (d + 1) high) ∷ []

-- the product of a register with a constant
abbrev pub add_product_code : Bool → (r d size : ℕ) → List AsmItem
add_product_code minus r d size = Plain (Ldi 26 size) ∷ Plain (Mul r 26) ∷ pair_code minus d 0 1

-- an index of one byte, with 0 above it, or its product with a size
abbrev pub byte_index_code : Bool → (r d size : ℕ) → List AsmItem
byte_index_code minus r d size =
    if size == 1 then Plain (Ldi 26 0) ∷ pair_code minus d r 26 else add_product_code minus r d size

-- the byte above register d plus R0, or less it
abbrev pub high_code : Bool → (d : ℕ) → List AsmItem
high_code false d = Plain (Add (d + 1) 0) ∷ []
high_code true d = Plain (Sub (d + 1) 0) ∷ []

-- the product of a size with the low byte of an index, and then that with the second byte
abbrev pub product_index_code : Bool → (r d size : ℕ) → List AsmItem
product_index_code minus r d size =
    add_product_code minus r d size ++ (Plain (Mul (r + 1) 26) ∷ high_code minus d)

-- the low two bytes of an index, so often
abbrev pub pairs_code : Bool → (r d times : ℕ) → List AsmItem
pairs_code minus r d times = chain (λ i. pair_code minus d r (r + 1)) times

-- once or twice, or their product with a size
abbrev pub pair_index_code : Bool → (r d size : ℕ) → List AsmItem
pair_index_code minus r d size =
    if nat_lt size 3 then pairs_code minus r d size else product_index_code minus r d size

-- the offset in the pointer q plus the index p of n bytes, or less it, where an element has so many bytes
abbrev pub add_index_code : Bool → (p q : Location) → (n size : ℕ) → List AsmItem
add_index_code minus (InRegisters r) (InRegisters d) n size =
    if n == 1 then byte_index_code minus r d size else pair_index_code minus r d size
add_index_code minus p q n size = []
