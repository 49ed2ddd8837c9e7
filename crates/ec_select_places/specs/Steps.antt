-- Pieces of code for a pointer moved by so many elements. R0, R1, R8 to R11, R30 and R31 are work registers.
use Rattle.std.specs.Prelude.{ℕ, ◌/◌, ◌%◌, ◌==◌, nat_lt, Bool, false, if◌then◌else◌, List, [], ◌∷◌, ◌++◌, Option, Some, None}
use Rattle.ec_isa.specs.declared.instructions.Instr.TheVariants.{Ldi, Movw, Mul, Add, Adc}
use Rattle.ec_asm.specs.declared.items.AsmItem.{AsmItem}
use Rattle.ec_asm.specs.declared.items.AsmItem.TheVariants.{Plain}
use Rattle.ec_asm.specs.Items.{chain}
use Rattle.ec_asm.specs.declared.pieces.Location.{Location}
use Rattle.ec_asm.specs.declared.pieces.Location.TheVariants.{InRegisters, InMemory}
use Rattle.ec_asm.specs.declared.pieces.Operator.{Operator}
use Rattle.ec_asm.specs.declared.pieces.Operator.TheVariants.{Sum, Difference}
use Rattle.ec_asm.specs.Pieces.{copy_code, operate_code}
use Rattle.ec_select_order.specs.declared.relations.Relation.{Relation}
use Rattle.ec_select_order.specs.declared.relations.Relation.TheVariants.{Less, NotLess, Equal, NotEqual}
use Rattle.ec_select_order.specs.Relations.{relation_code}
use Rattle.ec_select_bytes.specs.Values.{extend_code}
use Rattle.ec_select_pointers.specs.Accesses.{point_code}

-- R30 and R31
abbrev pub z_pair : Location
z_pair = InRegisters 30

-- ---- sums

-- a number that stands from R30 on
abbrev pub is_in_z : Location → Bool
is_in_z (InRegisters r) = r == 30
is_in_z (InMemory o k) = false

-- one byte or two are brought there; this is no code where they stand there already
abbrev pub to_z_code : Location → ℕ → List AsmItem
to_z_code p n = if is_in_z p then [] else (if n == 1 then copy_code p z_pair 1 else point_code p)

-- the low two bytes of a number of n bytes, or one byte with its sign or 0 above it
abbrev pub index_code : Location → Bool → ℕ → List AsmItem
index_code p signed n = if n == 1 then to_z_code p 1 ++ extend_code signed z_pair 1 2 else to_z_code p 2

-- R31:R30 times a constant: the product of the low bytes, and those of a low and a high byte above it
abbrev pub product_code : ℕ → List AsmItem
product_code size =
    Plain (Movw 8 30) ∷ Plain (Ldi 30 (size % 256)) ∷ Plain (Ldi 31 (size / 256)) ∷ Plain (Mul 8 30) ∷ Plain (Movw 10 0)
    ∷ Plain (Mul 8 31) ∷ Plain (Add 11 0) ∷ Plain (Mul 9 30) ∷ Plain (Add 11 0) ∷ Plain (Movw 30 10) ∷ []

-- R31:R30 times a constant of one byte
abbrev pub byte_product_code : ℕ → List AsmItem
byte_product_code size =
    Plain (Movw 8 30) ∷ Plain (Ldi 30 size) ∷ Plain (Mul 8 30) ∷ Plain (Movw 10 0) ∷ Plain (Mul 9 30) ∷ Plain (Add 11 0)
    ∷ Plain (Movw 30 10) ∷ []

-- R31:R30 is doubled so often
abbrev pub double_z : List AsmItem
double_z = Plain (Add 30 30) ∷ Plain (Adc 31 31) ∷ []

abbrev pub doublings_code : ℕ → List AsmItem
doublings_code count = chain (λ i. double_z) count

-- how often 1 is doubled to give a size of 1, 2, 4 or 8
abbrev pub doublings_of : ℕ → Option ℕ
doublings_of size =
    if size == 1 then Some 0
    else (if size == 2 then Some 1 else (if size == 4 then Some 2 else (if size == 8 then Some 3 else None)))

abbrev pub multiply_code : ℕ → List AsmItem
multiply_code size = if nat_lt size 256 then byte_product_code size else product_code size

-- by additions, or by products
abbrev pub scale_by : Option ℕ → ℕ → List AsmItem
scale_by (Some count) size = doublings_code count
scale_by None size = multiply_code size

abbrev pub scale_code : ℕ → List AsmItem
scale_code size = scale_by (doublings_of size) size

-- R31:R30 becomes a number of elements in bytes
abbrev pub scale_index_code : Location → Bool → (n size : ℕ) → List AsmItem
scale_index_code p signed n size = index_code p signed n ++ scale_code size

abbrev pub sign_operator : Bool → Operator
sign_operator minus = if minus then Difference else Sum

-- the offset in a pointer plus R31:R30, or less it
abbrev pub advance_code : Bool → Location → List AsmItem
advance_code minus q = operate_code (sign_operator minus) z_pair q 2

-- ---- comparisons

-- all bytes are compared for equality, and the offsets for order
abbrev pub compared_bytes : Relation → ℕ → ℕ
compared_bytes Less n = 2
compared_bytes NotLess n = 2
compared_bytes Equal n = n
compared_bytes NotEqual n = n

-- no pointer has a sign
abbrev pub order_code : Relation → (left right : Location) → ℕ → List AsmItem
order_code r left right n = relation_code r false left right (compared_bytes r n)
