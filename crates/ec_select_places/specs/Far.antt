-- Pieces of code for pointers of three bytes on a core whose flash goes past the first 65,536 bytes, where a pointer
-- into flash has the whole address. R0, R1, R8 to R11, R30 and R31 are work registers.
use Rattle.std.specs.Prelude.{ℕ, Bool, false, List, [], ◌∷◌, ◌++◌}
use Rattle.ec_isa.specs.declared.instructions.Instr.TheVariants.{Movw, Mov, Add, Sbc}
use Rattle.ec_asm.specs.declared.items.AsmItem.{AsmItem}
use Rattle.ec_asm.specs.declared.items.AsmItem.TheVariants.{Plain}
use Rattle.ec_asm.specs.declared.pieces.Location.{Location}
use Rattle.ec_asm.specs.declared.pieces.Location.TheVariants.{InRegisters}
use Rattle.ec_asm.specs.Pieces.{operate_code}
use Rattle.ec_select_order.specs.declared.relations.Relation.{Relation}
use Rattle.ec_select_order.specs.Relations.{relation_code}
use Rattle.ec_select_places.specs.Steps.{sign_operator}

-- R10:R9:R8 becomes what R31:R30 has, extended by its sign: C becomes the top bit, and R10 less itself and C is 0 or 255
abbrev pub extend_z : List AsmItem
extend_z = Plain (Movw 8 30) ∷ Plain (Mov 10 31) ∷ Plain (Add 10 10) ∷ Plain (Sbc 10 10) ∷ []

-- all three bytes of a pointer plus R31:R30, or less it
abbrev pub advance_far_code : Bool → Location → List AsmItem
advance_far_code minus q = extend_z ++ operate_code (sign_operator minus) (InRegisters 8) q 3

-- all bytes are compared, for order too
abbrev pub order_far_code : Relation → (left right : Location) → ℕ → List AsmItem
order_far_code r left right n = relation_code r false left right n
