-- Code that brings a number of several bytes, in two's complement, into a fixed-point format: the number is in units of
-- the format, and may have more bytes than it, or fewer. Without a branch: bytes of ones and zeros choose between the
-- number and the end of the range. R0, R1, R30 and R31 are work registers.
use Rattle.std.specs.Prelude.{ℕ, ◌+◌, ◌-◌, nat_lt, min, Bool, true, false, not, ◌&&◌, ◌||◌, List, [], ◌∷◌}
use Rattle.std.specs.Prelude.{◌++◌}
use Rattle.ec_isa.specs.declared.instructions.Instr.TheVariants.{Mov, Add, Sub, Sbc, And, Or, Eor, Neg, Com, Andi}
use Rattle.ec_fx.specs.declared.formats.Format.{Format}
use Rattle.ec_fx.specs.declared.numbers.Mode.{Mode}
use Rattle.ec_asm.specs.declared.items.AsmItem.{AsmItem}
use Rattle.ec_asm.specs.declared.items.AsmItem.TheVariants.{Plain, LoadObj, StoreObj}
use Rattle.ec_asm.specs.declared.pieces.Location.{Location}
use Rattle.ec_asm.specs.declared.pieces.Location.TheVariants.{InRegisters, InMemory}
use Rattle.ec_asm.specs.Items.{chain}
use Rattle.ec_asm.specs.Pieces.{copy_code}

-- byte i taken to R0
abbrev pub take_byte : Location → ℕ → List AsmItem
take_byte (InRegisters r) i = Plain (Mov 0 (r + i)) ∷ []
take_byte (InMemory o k) i = LoadObj 0 o (k + i) ∷ []

-- the byte of a register put to byte i
abbrev pub put_byte : (register : ℕ) → Location → ℕ → List AsmItem
put_byte s (InRegisters r) i = Plain (Mov (r + i) s) ∷ []
put_byte s (InMemory o k) i = StoreObj o (k + i) s ∷ []

-- ---- the low bytes of the number

-- R31 becomes 0, or 255 where the number of n bytes is negative
abbrev pub sign_code : Location → ℕ → List AsmItem
sign_code p n = take_byte p (n - 1) ++ (Plain (Add 0 0) ∷ Plain (Sbc 31 31) ∷ [])

abbrev pub fills_code : Location → (m k : ℕ) → List AsmItem
fills_code q m k = chain (λ i. put_byte 31 q (m + i)) (k - m)

-- its low k bytes, with bytes of its sign above them where it has fewer
abbrev pub extended_code : (p q : Location) → (n k : ℕ) → List AsmItem
extended_code p q n k = sign_code p n ++ (copy_code p q (min n k) ++ fills_code q (min n k) k)

-- ---- whether it fits

-- R1 becomes what each byte above the k-th has to be, and R30 is 0 where the number has the sign that it may have
abbrev pub wanted_code : (signed : Bool) → Location → ℕ → List AsmItem
wanted_code true p k = take_byte p (k - 1) ++ (Plain (Add 0 0) ∷ Plain (Sbc 1 1) ∷ Plain (Eor 30 30) ∷ [])
wanted_code false p k = Plain (Eor 1 1) ∷ Plain (Mov 30 31) ∷ []

-- R30 stays 0 where byte j is what it has to be
abbrev pub gather_byte : Location → ℕ → List AsmItem
gather_byte p j = take_byte p j ++ (Plain (Sub 0 1) ∷ Plain (Or 30 0) ∷ [])

abbrev pub gather_code : Location → (k n : ℕ) → List AsmItem
gather_code p k n = chain (λ i. gather_byte p (k + i)) (n - k)

-- ---- the end of the range

-- R30 becomes 255 where the number fits, and else 0; R31 0 where it fits, and else 255, or 0 for a negative number
abbrev pub masks_code : List AsmItem
masks_code = Plain (Neg 30) ∷ Plain (Sbc 30 30) ∷ Plain (Com 31) ∷ Plain (And 31 30) ∷ Plain (Com 30) ∷ []

abbrev pub end_byte : Location → ℕ → List AsmItem
end_byte q i = take_byte q i ++ (Plain (And 0 30) ∷ Plain (Add 0 31) ∷ put_byte 0 q i)

-- the highest byte of an end in two's complement has its highest bit turned
abbrev pub top_byte : Location → ℕ → List AsmItem
top_byte q i =
    take_byte q i ++ (Plain (And 0 30) ∷ Plain (Com 30) ∷ Plain (Andi 30 128) ∷ Plain (Add 31 30) ∷ Plain (Add 0 31)
    ∷ put_byte 0 q i)

abbrev pub ends_code : (signed : Bool) → Location → ℕ → List AsmItem
ends_code true q k = chain (end_byte q) (k - 1) ++ top_byte q (k - 1)
ends_code false q k = chain (end_byte q) k

abbrev pub saturate_code : (signed : Bool) → (p q : Location) → (n k : ℕ) → List AsmItem
saturate_code signed p q n k =
    wanted_code signed p k ++ (gather_code p k n ++ (masks_code ++ ends_code signed q k))

-- ---- the whole code

-- a number with a sign of no more bytes than the format always fits
abbrev pub may_pass : (signed : Bool) → (n k : ℕ) → Bool
may_pass signed n k = not signed || nat_lt k n

abbrev pub saturate_if : (test signed : Bool) → (p q : Location) → (n k : ℕ) → List AsmItem
saturate_if true signed p q n k = saturate_code signed p q n k
saturate_if false signed p q n k = []

-- the number of n bytes at p, brought into a format of k bytes at q
abbrev pub clamp_code : Format → Mode → (p q : Location) → (n k : ℕ) → List AsmItem
clamp_code to mode p q n k =
    extended_code p q n k ++ saturate_if (mode.saturate && may_pass to.signed n k) to.signed p q n k
