-- Whether one number of several bytes stands in a relation to another one: the code that leaves it in a register, as 0 or 1.
use Rattle.std.specs.Prelude.{ℕ, ◌==◌, nat_lt, Bool, true, false, not, pos, List, [], ◌∷◌, ◌++◌}
use Rattle.ec_isa.specs.declared.instructions.Instr.TheVariants.{Ldi}
use Rattle.ec_asm.specs.declared.items.AsmItem.{AsmItem}
use Rattle.ec_asm.specs.declared.items.AsmItem.TheVariants.{Plain, BranchTo}
use Rattle.ec_asm.specs.declared.pieces.Location.{Location}
use Rattle.ec_asm.specs.Items.{branch_if}
use Rattle.ec_asm.specs.Pieces.{compare_code}
use Rattle.ec_asm.specs.PieceLaws.{moved_up}
use Rattle.ec_select_order.specs.declared.relations.Relation.{Relation}
use Rattle.ec_select_order.specs.declared.relations.Relation.TheVariants.{Less, NotLess, Equal, NotEqual}

-- ---- meaning

-- whether one number of n bytes is less than another one, in two's complement or without a sign
abbrev pub is_less : Bool → (n x z : ℕ) → Bool
is_less true n x z = nat_lt (moved_up n x) (moved_up n z)
is_less false n x z = nat_lt x z

abbrev pub stand_so : Relation → Bool → (n x z : ℕ) → Bool
stand_so Less signed n x z = is_less signed n x z
stand_so NotLess signed n x z = not (is_less signed n x z)
stand_so Equal signed n x z = x == z
stand_so NotEqual signed n x z = not (x == z)

-- ---- code

-- C, Z or S
abbrev pub flag_of : Relation → Bool → ℕ
flag_of Less true = 4
flag_of Less false = 0
flag_of NotLess true = 4
flag_of NotLess false = 0
flag_of Equal signed = 1
flag_of NotEqual signed = 1

-- the relation holds where its flag is 1
abbrev pub is_set : Relation → Bool
is_set Less = true
is_set NotLess = false
is_set Equal = true
is_set NotEqual = false

-- register d becomes 0 where a branch over one word is not taken
abbrev pub truth_in_code : (d : ℕ) → Relation → Bool → List AsmItem
truth_in_code d r signed =
    Plain (Ldi d 1) ∷ Plain (branch_if (is_set r) (flag_of r signed) (pos 1)) ∷ Plain (Ldi d 0) ∷ []

abbrev pub truth_code : Relation → Bool → List AsmItem
truth_code r signed = truth_in_code 30 r signed

abbrev pub relation_code : Relation → Bool → (left right : Location) → ℕ → List AsmItem
relation_code r signed left right n = compare_code right left n ++ truth_code r signed

-- or in another register, which may be one of an operand
abbrev pub relation_in_code : (d : ℕ) → Relation → Bool → (left right : Location) → ℕ → List AsmItem
relation_in_code d r signed left right n = compare_code right left n ++ truth_in_code d r signed

-- behind a comparison: a branch that is taken where the relation does not hold
abbrev pub unless_code : Relation → Bool → ℕ → List AsmItem
unless_code r signed l = BranchTo (not (is_set r)) (flag_of r signed) l ∷ []
