-- The code of operations.
use Rattle.std.specs.Prelude.{◌≤◌, ⊤, ℕ, zero, suc, ◌+◌, ◌-◌, ◌*◌, ◌/◌, ◌%◌, ◌==◌, nat_le, Bool, true, false, ◌&&◌, ◌||◌, not}
use Rattle.std.specs.Prelude.{if◌then◌else◌, ℤ, pos, int_lt, min, List, [], ◌∷◌, ◌++◌, Option, Some, None, option_map}
use Rattle.std.specs.Prelude.{slice_get, slice_index, get_or, nat_lt, max}
use Rattle.ec_fx.specs.declared.numbers.Mode.{Mode}
use Rattle.ec_fx.specs.Formats.{format_of}
use Rattle.ec_space.specs.declared.Core.{Core}
use Rattle.ec_space.specs.declared.Core.TheVariants.{Small, Large}
use Rattle.ec_space.specs.declared.space.Bank.{Bank}
use Rattle.ec_space.specs.declared.space.Bank.TheVariants.{Flash as FlashBank, Data as DataBank}
use Rattle.ec_space.specs.declared.space.Home.{Home}
use Rattle.ec_space.specs.declared.space.Home.TheVariants.{Flash as FlashHome, Far as FarHome, Data as DataHome}
use Rattle.ec_space.specs.declared.space.SpaceId.{SpaceId}
use Rattle.ec_space.specs.declared.space.SpaceId.TheVariants.{Flash, FarFlash, Data, Generic}
use Rattle.ec_isa.specs.declared.instructions.Instr.TheVariants.{Adc, Add, Andi, Eor, Mov, Movw, Ret}
use Rattle.ec_asm.specs.declared.items.AsmItem.{AsmItem}
use Rattle.ec_asm.specs.declared.items.AsmItem.TheVariants.{Plain, Label, JumpTo, CallTo, BranchTo, LoadObj}
use Rattle.ec_asm.specs.Items.{chain}
use Rattle.ec_asm.specs.declared.pieces.Location.{Location}
use Rattle.ec_asm.specs.declared.pieces.Location.TheVariants.{InRegisters, InMemory}
use Rattle.ec_asm.specs.declared.pieces.Operator.{Operator}
use Rattle.ec_asm.specs.declared.pieces.Operator.TheVariants.{Sum, Difference, BitAnd, BitOr, BitXor}
use Rattle.ec_asm.specs.Pieces.{copy_byte, copy_code, operate_code, compare_code}
use Rattle.ec_core.specs.declared.expressions.BinOp.{BinOp}
use Rattle.ec_core.specs.declared.expressions.BinOp.TheVariants.{Add, Sub, And}
use Rattle.ec_core.specs.declared.expressions.BinOp.TheVariants.{Shl, Shr}
use Rattle.ec_core.specs.declared.expressions.UnOp.{UnOp}
use Rattle.ec_core.specs.declared.expressions.UnOp.TheVariants.{Minus, Invert}
use Rattle.ec_core.specs.Accesses.{element_size}
use Rattle.ec_core.specs.Layout.{scalar_size}
use Rattle.ec_core.specs.Plain.{PlainType, integer, fixed, PlainObject, PlainProgram}
use Rattle.ec_ir.specs.declared.operations.Temp.{Temp}
use Rattle.ec_ir.specs.Operations.{PlainIr, constant, copy, address, field, load_at, store_at, load_object}
use Rattle.ec_ir.specs.Operations.{store_object, binary_op, unary_op, conversion, label, jump, branch_zero}
use Rattle.ec_ir.specs.Operations.{call_function, return_from, port_in, port_out, load_cell, store_cell, cell_port}
use Rattle.ec_ir.specs.Temporaries.{low_bytes}
use Rattle.ec_select_bytes.specs.Values.{constant_code, extend_code}
use Rattle.ec_select_bytes.specs.Complements.{complement_code, negation_code}
use Rattle.ec_select_order.specs.declared.relations.Relation.{Relation}
use Rattle.ec_select_order.specs.declared.relations.Relation.TheVariants.{Equal, NotEqual}
use Rattle.ec_select_order.specs.Relations.{relation_in_code, unless_code}
pub use Rattle.ec_select_bytes.specs.Operators.{reversed_code}
use Rattle.ec_select_places.specs.Conversions.{embed_code}
use Rattle.ec_select_places.specs.Distances.{elements_code}
use Rattle.ec_select_places.specs.Far.{advance_far_code}
use Rattle.ec_select_places.specs.FarLaws.{extended}
use Rattle.ec_select_places.specs.Indexes.{can_add, add_index_code}
use Rattle.ec_select_places.specs.StepLaws.{index_of}
use Rattle.ec_select_places.specs.Steps.{z_pair, scale_index_code, advance_code, compared_bytes}
use Rattle.ec_select_pointers.specs.Accesses.{load_data_code, load_flash_code, load_any_code, load_table_code}
use Rattle.ec_select_pointers.specs.Accesses.{point_code, store_data_code}
use Rattle.ec_select_pointers.specs.Addresses.{address_code, field_code}
use Rattle.ec_select_pointers.specs.Far.{load_far_code, load_far_table_code, load_any_far_code, far_address_code}
use Rattle.ec_select_pointers.specs.Far.{field_far_code}
use Rattle.ec_select_pointers.specs.Fetched.{fetch_code, load_member_code, load_further_code, load_tagged_code}
use Rattle.ec_select_pointers.specs.Fetched.{store_member_code}
use Rattle.ec_select_products.specs.Products.{product_code}
use Rattle.ec_select_quotients.specs.Signs.{quotient_code}
use Rattle.ec_select_shifts.specs.declared.shifts.Direction.{Direction}
use Rattle.ec_select_shifts.specs.declared.shifts.Direction.TheVariants.{Left, Right}
use Rattle.ec_select_shifts.specs.Shifts.{shift_code, counted_code as turned_by_code}
use Rattle.ec_select_numbers.specs.declared.operators.ByNumber.TheVariants.{Subtract, Mask, Set}
use Rattle.ec_select_numbers.specs.ByNumber.{put_code, changed_code, added_code}
use Rattle.ec_select_operations.specs.declared.families.Family.{Family}
use Rattle.ec_select_operations.specs.declared.families.Family.TheVariants.{Combined, Compared, Multiplied, Shifted}
use Rattle.ec_select_operations.specs.declared.families.Family.TheVariants.{Divided}
use Rattle.ec_select_operations.specs.declared.families.Told.{Told}
use Rattle.ec_select_operations.specs.declared.families.Told.TheVariants.{Operands, InZ, Index}
use Rattle.ec_select_operations.specs.Bounds.{bound_of, bounded_code, truth_by_code}
pub use Rattle.ec_select_operations.specs.Bounds.{opposite}
use Rattle.ec_select_operations.specs.Tests.{number_test}
use Rattle.ec_select_operations.specs.declared.homes.Homes.{Homes}
use Rattle.ec_select_operations.specs.Homes.{home, result_location}
use Rattle.ec_fxcode_formats.specs.Brought.{can_bring, bring_code}
use Rattle.ec_fxcode_limits.specs.Limits.{limited_code, opposite_code}
use Rattle.ec_fxcode_placed.specs.Shifts.{placed_code}
use Rattle.ec_fxcode_placed.specs.Counts.{placed_by_code}
use Rattle.ec_select_fixed.specs.Codes.{fixed_binary_code, fixed_unary_code, fixed_conversion_code}
use Rattle.ec_select_fixed.specs.Types.{format_in}
use Rattle.ec_select_routines.specs.Codes.{call_with_one, call_with_two}
use Rattle.ec_ir_known.specs.declared.known.RightNumber.{RightNumber}
use Rattle.ec_select_operations.specs.Needs.{is_fixed, is_whole, number_taken, compared_bytes as bytes_compared, number_known}
use Rattle.ec_select_operations.specs.Needs.{is_number, is_sum_or_difference}
use Rattle.ec_select_operations.specs.Needs.{Need, nothing, wanted, wanted_result, without_result, either}
use Rattle.ec_select_operations.specs.Needs.{Facts, facts_of, needs, takes_count, moves_pointer}
pub use Rattle.ec_select_operations.specs.Needs.{has_one_format, takes_place, is_placed}
pub use Rattle.ec_select_operations.specs.Needs.{family_of, is_as_exact, is_on_integers, is_apart}
use Rattle.ec_select_operations.specs.Places.{object_location}
use Rattle.ec_select_operations.specs.Pointers.{is_pointer, is_into_data, home_of, kept_in, tag_in, is_table, has_tables}
use Rattle.ec_select_operations.specs.Stores.{store_object_code}
use Rattle.ec_select_operations.specs.Ports.{in_code, out_code, cell_place, cell_in_code, cell_out_code}

abbrev pub same_location : Location → Location → Bool
same_location (InRegisters a) (InRegisters b) = a == b
same_location (InRegisters a) (InMemory p j) = false
same_location (InMemory o k) (InRegisters b) = false
same_location (InMemory o k) (InMemory p j) = o == p && k == j

-- n bytes between registers, two at a time by MOVW, and the last one alone where n is odd
abbrev pub pair_code : (a b i : ℕ) → List AsmItem
pair_code a b i = Plain (Movw (b + 2 * i) (a + 2 * i)) ∷ []

abbrev pub odd_code : (a b n : ℕ) → List AsmItem
odd_code a b n = if n % 2 == 0 then [] else copy_byte (InRegisters a) (InRegisters b) (n / 2 * 2)

abbrev pub pairs_code : (a b n : ℕ) → List AsmItem
pairs_code a b n = chain (pair_code a b) (n / 2) ++ odd_code a b n

-- a copy: by pairs between registers of even numbers, and else byte by byte
abbrev pub transfer_code : Location → Location → ℕ → List AsmItem
transfer_code (InRegisters a) (InRegisters b) n =
    if a % 2 == 0 && b % 2 == 0 then pairs_code a b n else copy_code (InRegisters a) (InRegisters b) n
transfer_code (InRegisters a) (InMemory p j) n = copy_code (InRegisters a) (InMemory p j) n
transfer_code (InMemory o k) (InRegisters b) n = copy_code (InMemory o k) (InRegisters b) n
transfer_code (InMemory o k) (InMemory p j) n = copy_code (InMemory o k) (InMemory p j) n

-- a copy to where the number stands already is no code
abbrev pub move_code : Location → Location → ℕ → List AsmItem
move_code p q n = if same_location p q then [] else transfer_code p q n

-- ---- families

abbrev pub is_signed : PlainType → Bool
is_signed (integer signed bytes) = signed
is_signed (fixed kind saturates) = (format_of kind).signed
is_signed ty = false

-- and those with as many bits behind the point
abbrev pub has_one_fraction : (ty aty : PlainType) → Bool
has_one_fraction (fixed k s) (fixed j t) = (format_of k).frac == (format_of j).frac
has_one_fraction ty aty = false

-- the low bytes, and where more are needed the sign or 0
abbrev pub conversion_code : Bool → (from to : Location) → (bytes n : ℕ) → List AsmItem
conversion_code signed from to bytes n = move_code from to (min n bytes) ++ extend_code signed to bytes n

-- where the second operand stands at the result's place, the first one is combined with it there the other way round,
-- and else the first operand is brought there, and the second one is combined with it
abbrev pub combined_code : Operator → (a b to : Location) → ℕ → List AsmItem
combined_code op a b to n =
    if same_location b to then reversed_code op a to n else move_code a to n ++ operate_code op b to n

-- the register in which a truth value is made: that of the result from R16 on, which LDI reaches, and else R30
abbrev pub truth_register : Location → ℕ
truth_register (InRegisters r) = if nat_le 16 r then r else 30
truth_register (InMemory o k) = 30

-- from there a truth value, which is an unsigned number of one byte, goes to its place
abbrev pub truth_at_code : (to : Location) → (n : ℕ) → List AsmItem
truth_at_code to n = conversion_code false (InRegisters (truth_register to)) to 1 n

-- a truth value, where some of its bytes are needed
abbrev pub compared_code : Relation → (signed : Bool) → (left right to : Location) → (bytes n : ℕ) → List AsmItem
compared_code r signed left right to bytes n =
    if n == 0 then []
    else relation_in_code (truth_register to) r signed left right bytes ++ truth_at_code to n

-- the product of two bytes
abbrev pub multiplied_code : (left right : Bool) → (a b to : Location) → ℕ → List AsmItem
multiplied_code left right a b to n = if n == 0 then [] else product_code left right a b to n

abbrev pub shift_of : (left signed : Bool) → Direction
shift_of true signed = Left
shift_of false signed = Right signed

-- the bytes that are shifted: to the right all
abbrev pub shifted_bytes : (left : Bool) → (bytes n : ℕ) → ℕ
shifted_bytes true bytes n = n
shifted_bytes false bytes n = bytes

-- the number is brought to the result's place and the lowest byte of the count to R30, and the number is shifted there
abbrev pub turned_code : Direction → (a b to : Location) → ℕ → List AsmItem
turned_code s a b to n = move_code a to n ++ (move_code b (InRegisters 30) 1 ++ shift_code s to n)

abbrev pub shifted_code : (left signed : Bool) → (a b to : Location) → (bytes n : ℕ) → List AsmItem
shifted_code left signed a b to bytes n =
    if n == 0 then [] else turned_code (shift_of left signed) a b to (shifted_bytes left bytes n)

-- the number is brought to the result's place, and divided there with all its bytes, which are top + 1
abbrev pub long_code : (remainder signed : Bool) → (a b to : Location) → (top : ℕ) → List AsmItem
long_code r signed a b to top = move_code a to (suc top) ++ quotient_code r signed to b top

abbrev pub divided_code : (remainder signed : Bool) → (a b to : Location) → (bytes n : ℕ) → List AsmItem
divided_code r signed a b to bytes n = if n == 0 then [] else long_code r signed a b to (bytes - 1)

-- the signs of both operands, and the bytes of the first one. Of the result n bytes are needed
abbrev pub binary_code : Family → (left right : Bool) → (a b to : Location) → (bytes n : ℕ) → List AsmItem
binary_code (Combined op) left right a b to bytes n = combined_code op a b to n
binary_code (Compared r false) left right a b to bytes n = compared_code r left a b to bytes n
binary_code (Compared r true) left right a b to bytes n = compared_code r left b a to bytes n
binary_code Multiplied left right a b to bytes n = multiplied_code left right a b to n
binary_code (Shifted up) left right a b to bytes n = shifted_code up left a b to bytes n
binary_code (Divided r) left right a b to bytes n = divided_code r left a b to bytes n

-- the operand is brought to the result's place, and negated or complemented there
abbrev pub turn_code : UnOp → Location → ℕ → List AsmItem
turn_code Minus p n = negation_code p n
turn_code Invert p n = complement_code p n

abbrev pub unary_code : UnOp → (from to : Location) → ℕ → List AsmItem
unary_code op from to n = move_code from to n ++ turn_code op to n

abbrev pub branch_code : (is_free : Bool) → Location → ℕ → ℕ → List AsmItem
branch_code free p bytes l = number_test free p bytes ++ BranchTo true 1 l ∷ []

-- ---- a comparison, and a branch on what it tells by a flag

-- how operands stand, where the operator is a comparison
abbrev pub told_of : Family → (signed : Bool) → Option Told
told_of (Compared r exchanged) signed = Some (Operands r signed)
told_of f signed = None

-- an operator apart leaves none
abbrev pub told_by : (is_untold : Bool) → Family → (signed : Bool) → Option Told
told_by true f signed = None
told_by false f signed = told_of f signed

-- but for a comparison of two pointers
abbrev pub is_untold : Family → Mode → (ty aty bty : PlainType) → Bool
is_untold f mode ty aty bty = not (is_pointer aty && is_pointer bty) && is_apart f mode ty aty bty

-- the next operation branches on the result, of which nothing is needed afterwards
abbrev pub is_only_tested : (to : Temp) → (next : Option PlainIr) → (needed : ℕ) → Bool
is_only_tested to (Some (branch_zero t l)) needed = needed == 0 && (t.at == to.at && t.bytes == to.bytes)
is_only_tested to next needed = false

-- whether a comparison minds signs: bytes have none
abbrev pub compared_signed : (taken : Option RightNumber) → (signed : Bool) → Bool
compared_signed None signed = signed
compared_signed (Some n) signed = if n.in_byte then false else signed

-- what is compared where so many bytes of a first operand are, and a number is taken that is known, and whether with signs
abbrev pub family_with : (number : Option ℤ) → Family → (signed : Bool) → (compared : ℕ) → Family
family_with None f signed compared = f
family_with (Some n) (Compared r exchanged) signed compared =
    Compared (bound_of r exchanged signed compared (low_bytes 16 n)).relation false
family_with (Some n) f signed compared = f

abbrev pub signed_with : (number : Option ℤ) → Family → (signed : Bool) → (compared : ℕ) → Bool
signed_with None f signed compared = signed
signed_with (Some n) (Compared r exchanged) signed compared = (bound_of r exchanged signed compared (low_bytes 16 n)).signed
signed_with (Some n) f signed compared = signed

-- the same of a first operand of so many bytes, where so much is taken
abbrev pub family_taking : (taken : Option RightNumber) → Family → (signed : Bool) → (bytes : ℕ) → Family
family_taking taken f signed bytes =
    family_with (number_known taken) f (compared_signed taken signed) (bytes_compared taken bytes)

abbrev pub signed_taking : (taken : Option RightNumber) → Family → (signed : Bool) → (bytes : ℕ) → Bool
signed_taking taken f signed bytes =
    signed_with (number_known taken) f (compared_signed taken signed) (bytes_compared taken bytes)

-- an AND with a known number below 255
abbrev pub is_mask : Option ℤ → Bool
is_mask None = false
is_mask (Some n) = not (int_lt n (pos 0)) && int_lt n (pos 255)

abbrev pub is_masked : (taken : Option RightNumber) → BinOp → Bool
is_masked None op = false
is_masked (Some k) And = is_mask k.number
is_masked (Some k) op = false

-- what an operator on a first operand of so many bytes leaves that takes so much: an AND with such a number tells whether its
-- result is not 0
abbrev pub told_taking : (taken : Option RightNumber) → (is_untold : Bool) → BinOp → (signed : Bool) → (bytes : ℕ) → Option Told
told_taking taken untold op signed bytes =
    if is_masked taken op then Some (Operands NotEqual false)
    else told_by untold (family_taking taken (family_of op) signed bytes) (signed_taking taken (family_of op) signed bytes)

-- the next operation is a jump, and the one behind it is the label of a branch that stands over it
abbrev pub is_over_jump : (l : ℕ) → (next behind : Option PlainIr) → Bool
is_over_jump l (Some (jump k)) (Some (label j)) = j == l
is_over_jump l next behind = false

-- what a branch over a jump, which has been told so much or tests a number, tells the jump: like a branch, the jump is made
-- where operands do not stand so
abbrev pub turned : Option Told → Told
turned (Some (Operands r signed)) = Operands (opposite r) signed
turned told = Operands Equal false

-- the next operation moves a pointer by an integer of one or two bytes that is loaded to a temporary. Behind it so many
-- bytes of the place of the integer are needed
abbrev pub is_index_alone : Temp → (next : Option PlainIr) → (behind : ℕ) → Bool
is_index_alone t (Some (binary_op op ty mode to a aty b bty)) behind =
    (behind == 0 && nat_le b.bytes 2)
    && ((b.at == t.at && b.bytes == t.bytes) && (not (b.at == a.at) && moves_pointer op aty bty))
is_index_alone t next behind = false

-- what an operation, whose second operand may be known to hold a number, and which has been told so much, tells the next
-- one: by a flag a comparison or an AND in place of its result, and a branch over a jump in place of the branch; and a load of
-- an index in place of its result, where behind the next one so many bytes of the place of its second operand are needed
abbrev pub tells : (known : Option RightNumber) → (told : Option Told) → PlainIr → (next behind : Option PlainIr)
    → (needed index : ℕ) → Option Told
tells known told (binary_op op ty mode to a aty b bty) next behind needed index =
    if is_only_tested to next needed
    then told_taking (number_taken known (is_apart (family_of op) mode ty aty bty) op) (is_untold (family_of op) mode ty aty bty) op
    (is_signed aty) a.bytes else None
tells known told (branch_zero t l) next behind needed index = if is_over_jump l next behind then Some (turned told) else None
tells known told (load_object t o offset) next behind needed index = if is_index_alone t next index then Some Index else None
tells known told i next behind needed index = None

-- whether an index of so many bytes is told
abbrev pub is_index : Option Told → (bytes : ℕ) → Bool
is_index (Some Index) bytes = nat_le bytes 2
is_index told bytes = false

-- the comparison alone
abbrev pub flag_code : Family → (a b : Location) → (bytes : ℕ) → List AsmItem
flag_code (Compared r false) a b bytes = compare_code b a bytes
flag_code (Compared r true) a b bytes = compare_code a b bytes
flag_code f a b bytes = []

abbrev pub operator_code : (telling : Option Told) → Family → (left right : Bool) → (a b to : Location)
    → (bytes n : ℕ) → List AsmItem
operator_code None f left right a b to bytes n = binary_code f left right a b to bytes n
operator_code (Some told) f left right a b to bytes n = flag_code f a b bytes

-- ---- operators with a known number

-- n bytes are changed where they stand. There is no such code for other operators
abbrev pub changed_by_code : Operator → Location → (number n : ℕ) → List AsmItem
changed_by_code Sum to number n = added_code to number n
changed_by_code Difference to number n = changed_code Subtract to number n
changed_by_code BitAnd to number n = changed_code Mask to number n
changed_by_code BitOr to number n = changed_code Set to number n
changed_by_code BitXor to number n = []

-- AND with a number below 256 leaves 0 in all bytes but the lowest one, which alone is brought and masked
abbrev pub masks_low : Operator → (number : ℕ) → Bool
masks_low BitAnd number = nat_lt number 256
masks_low op number = false

abbrev pub low_mask_code : (a to : Location) → (number n : ℕ) → List AsmItem
low_mask_code a to number n =
    move_code a to (min n 1) ++ (changed_by_code BitAnd to number (min n 1) ++ extend_code false to 1 n)

abbrev pub combined_by_code : Operator → (a to : Location) → (number n : ℕ) → List AsmItem
combined_by_code op a to number n =
    if masks_low op number then low_mask_code a to number n else move_code a to n ++ changed_by_code op to number n

-- n bytes are brought to the result's place, and shifted there by so many bits
abbrev pub counted_code : Direction → (a to : Location) → (n k : ℕ) → List AsmItem
counted_code s a to n k = move_code a to n ++ turned_by_code s to n k

-- one byte is needed of several in registers, of which only the highest bit is left, and no sign
abbrev pub leaves_bit : (signed : Bool) → (to : Location) → (bytes n k : ℕ) → Bool
leaves_bit signed (InRegisters r) bytes n k = nat_lt 1 bytes && (not signed && (n == 1 && k + 1 == 8 * bytes))
leaves_bit signed (InMemory o j) bytes n k = false

-- it comes by the carry to the lowest byte
abbrev pub top_bit_code : (to : Location) → (bytes : ℕ) → List AsmItem
top_bit_code (InRegisters r) bytes =
    Plain (Add (r + (bytes - 1)) (r + (bytes - 1))) ∷ Plain (Eor r r) ∷ Plain (Adc r r) ∷ []
top_bit_code (InMemory o j) bytes = []

-- to the right so many bytes are, with a sign or without, and where more are needed these become 0
abbrev pub counted_by_code : (left signed : Bool) → (a to : Location) → (bytes n k : ℕ) → List AsmItem
counted_by_code true signed a to bytes n k = counted_code Left a to n k
counted_by_code false signed a to bytes n k =
    if leaves_bit signed to bytes n k then move_code a to bytes ++ top_bit_code to bytes
    else counted_code (Right signed) a to bytes k ++ extend_code false to bytes n

-- the first operand is brought to the result's place, and changed or shifted there; or so many bytes are compared, or
-- shifted to the right, with signs or without
abbrev pub by_number_code : Family → (signed : Bool) → (a to : Location) → (compared number n : ℕ) → List AsmItem
by_number_code (Combined op) signed a to compared number n = combined_by_code op a to number n
by_number_code (Compared r exchanged) signed a to compared number n =
    if n == 0 then []
    else truth_by_code (truth_register to) (bound_of r exchanged signed compared number) a compared ++ truth_at_code to n
by_number_code (Shifted up) signed a to compared number n =
    if n == 0 then [] else counted_by_code up signed a to compared n (number % 256)
by_number_code f signed a to compared number n = []

-- a byte and a number: where the byte stands if this is the result's place and an immediate reaches it, and else in R30
abbrev pub masked_at : (here : Bool) → (r k : ℕ) → List AsmItem
masked_at true r k = Plain (Andi r k) ∷ []
masked_at false r k = Plain (Mov 30 r) ∷ Plain (Andi 30 k) ∷ []

abbrev pub masked_code : (a to : Location) → (k : ℕ) → List AsmItem
masked_code (InRegisters r) to k = masked_at (nat_le 16 r && same_location (InRegisters r) to) r k
masked_code (InMemory o j) to k = LoadObj 30 o j ∷ Plain (Andi 30 k) ∷ []

-- what leaves a flag alone: of AND the lowest byte, and a comparison of so many bytes, where a first operand that stands at
-- the result's place is free. There is no such code for other operators
abbrev pub told_number_code : Family → (signed : Bool) → (a to : Location) → (number compared : ℕ) → List AsmItem
told_number_code (Combined op) signed a to number compared = masked_code a to (number % 256)
told_number_code (Compared r exchanged) signed a to number compared =
    bounded_code (same_location a to) (bound_of r exchanged signed compared number) a compared
told_number_code f signed a to number compared = []

-- so many low bytes of two numbers below 256 are compared, which have no signs. There is no such code for other operators
abbrev pub low_code : (telling : Option Told) → Relation → (left right to : Location) → (bytes n : ℕ) → List AsmItem
low_code None r left right to bytes n = compared_code r false left right to bytes n
low_code (Some told) r left right to bytes n = compare_code right left bytes

-- the first operand is brought to the result's place, and the lowest byte of the second one, which is below 256, is combined
-- with it there
abbrev pub joined_code : Operator → (a b to : Location) → ℕ → List AsmItem
joined_code op a b to n = move_code a to n ++ operate_code op b to (min n 1)

abbrev pub bytes_code : (telling : Option Told) → Family → (a b to : Location) → (bytes n : ℕ) → List AsmItem
bytes_code telling (Compared r false) a b to bytes n = low_code telling r a b to bytes n
bytes_code telling (Compared r true) a b to bytes n = low_code telling r b a to bytes n
bytes_code telling (Combined op) a b to bytes n = joined_code op a b to n
bytes_code telling f a b to bytes n = []

-- where a number, in two's complement of 16 bytes, is taken in place of the second operand, or so many bytes are compared, or
-- one is combined
abbrev pub known_code : (number : Option ℤ) → (telling : Option Told) → Family → (signed : Bool) → (a b to : Location)
    → (compared n : ℕ) → List AsmItem
known_code None telling f signed a b to compared n = bytes_code telling f a b to compared n
known_code (Some k) None f signed a b to compared n = by_number_code f signed a to compared (low_bytes 16 k) n
known_code (Some k) (Some told) f signed a b to compared n = told_number_code f signed a to (low_bytes 16 k) compared

-- where what is known of the second operand is taken
abbrev pub taking_code : (taken : Option RightNumber) → (telling : Option Told) → Family → (left right : Bool) → (a b to : Location)
    → (bytes n : ℕ) → List AsmItem
taking_code None telling f left right a b to bytes n = operator_code telling f left right a b to bytes n
taking_code (Some k) telling f left right a b to bytes n =
    known_code k.number telling f (compared_signed (Some k) left) a b to (bytes_compared (Some k) bytes) n

-- operands that are integers, of which something may be known
abbrev pub integer_binary : (known : Option RightNumber) → (telling : Option Told) → BinOp → (left right : Bool) → (a b to : Location)
    → (bytes n : ℕ) → List AsmItem
integer_binary known telling op left right a b to bytes n =
    taking_code (number_taken known false op) telling (family_of op) left right a b to bytes n

-- it branches where the operands of the comparison before it do not stand so, or where a number of so many bytes, which may
-- be free, is 0. Where it tells a jump of this, it does not branch
abbrev pub tested_code : (told telling : Option Told) → (is_free : Bool) → Location → (bytes l : ℕ) → List AsmItem
tested_code (Some (Operands r signed)) None free p bytes l = unless_code r signed l
tested_code (Some (Operands r signed)) (Some behind) free p bytes l = []
tested_code told None free p bytes l = branch_code free p bytes l
tested_code told (Some behind) free p bytes l = number_test free p bytes

-- it jumps, or where the branch before it told it something, only where operands do not stand so
abbrev pub jump_code : Option Told → (l : ℕ) → List AsmItem
jump_code (Some (Operands r signed)) l = unless_code r signed l
jump_code told l = JumpTo l ∷ []

-- ---- calls

-- The core that the code is for, and how the code of a function is put together with that of the others: the label of
-- items for each of its own, and the one at which each function begins; where its temporaries stand, at so many places;
-- whether it is main; and the label of the routine, if there is one, that an operation calls
pub record Linkage : Type 0 where
  pub core : Core
  pub label_of : ℕ → ℕ
  pub entry_of : ℕ → ℕ
  pub homes : Homes
  pub slots : ℕ
  pub is_main : Bool
  pub routine_of : PlainIr → Option ℕ

-- the first register of a place
abbrev pub place_register : Homes → ℕ → ℕ
place_register h place = 26 - h.width * (place + 1)

-- the bytes of its registers that a call keeps, where so many bytes of the place are needed after it
abbrev pub kept_bytes : Homes → (place n : ℕ) → ℕ
kept_bytes h place n = if nat_le (h.width * (place + 1)) 12 then min n h.width else 0

-- they wait in the scratch memory of the place, behind its temporaries there
abbrev pub waiting_location : Homes → ℕ → Location
waiting_location h place = InMemory h.scratch (16 * place + 8)

abbrev pub save_place : Homes → (place n : ℕ) → List AsmItem
save_place h place n =
    copy_code (InRegisters (place_register h place)) (waiting_location h place) (kept_bytes h place n)

abbrev pub restore_place : Homes → (place n : ℕ) → List AsmItem
restore_place h place n =
    copy_code (waiting_location h place) (InRegisters (place_register h place)) (kept_bytes h place n)

-- the places that may have registers: at most the first six
abbrev pub register_places : ℕ → ℕ
register_places slots = min slots 6

abbrev pub save_code : Linkage → Need → List AsmItem
save_code k need = chain (λ place. save_place k.homes place (need place)) (register_places k.slots)

abbrev pub restore_code : Linkage → Need → List AsmItem
restore_code k need = chain (λ place. restore_place k.homes place (need place)) (register_places k.slots)

-- of the result so many bytes are wanted
abbrev pub taken_code : (Temp → Location) → Option Temp → ℕ → List AsmItem
taken_code home None bytes = []
taken_code home (Some t) bytes = move_code (result_location t.bytes) (home t) bytes

-- what is needed of other places waits in memory while the function runs
abbrev pub call_code : (Temp → Location) → Linkage → (f : ℕ) → (to : Option Temp) → (bytes : ℕ) → (kept : Need)
    → List AsmItem
call_code home k f to bytes kept =
    save_code k kept ++ (CallTo (k.entry_of f) ∷ (taken_code home to bytes ++ restore_code k kept))

-- ---- returns

-- a result has at most 8 bytes
abbrev pub HasResult : Option Temp → Type 0
HasResult None = ⊤
HasResult (Some t) = t.bytes ≤ 8

-- main's result is 0 where it gives none
abbrev pub result_code : (Temp → Location) → (is_main : Bool) → Option Temp → List AsmItem
result_code home is_main None = if is_main then constant_code (InRegisters 24) 0 2 else []
result_code home is_main (Some t) = move_code (home t) (result_location t.bytes) t.bytes

abbrev pub return_code : (Temp → Location) → (is_main : Bool) → Option Temp → List AsmItem
return_code home is_main from = result_code home is_main from ++ Plain Ret ∷ []

-- ---- operations with a fixed-point type

-- the work bytes: 40 that operations work in, and behind them a result
abbrev pub work_location : Location
work_location = InMemory 1280 0

abbrev pub answer_location : Location
answer_location = InMemory 1280 40

-- code that leaves a result there, of which so many bytes are brought to their place; none where none is needed
abbrev pub answer_code : List AsmItem → Location → (n : ℕ) → List AsmItem
answer_code code to n = if n == 0 then [] else code ++ copy_code answer_location to n

-- the code for an operation of a kind, or that for one of another kind
abbrev pub by_kind : Bool → (own others : List AsmItem) → List AsmItem
by_kind true own others = own
by_kind false own others = others

abbrev pub is_difference : BinOp → Bool
is_difference Sub = true
is_difference op = false

-- the first operand is brought to the result's place, and all its bytes, which are top + 1, are combined there with those
-- of the second one; the result is stopped at the ends of its range
abbrev pub stopped_code : (minus signed : Bool) → (a b to : Location) → (top : ℕ) → List AsmItem
stopped_code minus signed a b to top = move_code a to (suc top) ++ limited_code minus signed b to top

-- or the lowest byte of the second one is brought to R30, and they are shifted there by it, or by the number that the
-- second one is known to hold
abbrev pub placed_shift : (known : Option ℤ) → (left signed : Bool) → (a b to : Location) → (top : ℕ) → List AsmItem
placed_shift None left signed a b to top =
    move_code b (InRegisters 30) 1 ++ (move_code a to (suc top) ++ placed_code left signed to (suc top))
placed_shift (Some k) left signed a b to top =
    move_code a to (suc top) ++ placed_by_code left signed to (suc top) (low_bytes 16 k % 256)

abbrev pub placed_whole : (known : Option RightNumber) → BinOp → (signed : Bool) → (a b to : Location) → (top : ℕ) → List AsmItem
placed_whole known Shl signed a b to top = placed_shift (number_known known) true signed a b to top
placed_whole known Shr signed a b to top = placed_shift (number_known known) false signed a b to top
placed_whole known op signed a b to top = stopped_code (is_difference op) signed a b to top

abbrev pub placed_binary : (known : Option RightNumber) → BinOp → (signed : Bool) → (a b to : Location) → (bytes n : ℕ) → List AsmItem
placed_binary known op signed a b to bytes n = if n == 0 then [] else placed_whole known op signed a b to (bytes - 1)

-- operands of so many bytes. An operator whose second operand stands at the result's place is none of those
abbrev pub fixed_binary : (known : Option RightNumber) → (telling : Option Told) → BinOp → (ty aty bty : PlainType) → Mode
    → (a b to : Location) → (bytes n : ℕ) → List AsmItem
fixed_binary known telling op ty aty bty mode a b to bytes n =
    if is_on_integers (family_of op) mode ty aty bty
    then integer_binary known telling op (is_signed aty) (is_signed bty) a b to bytes n
    else (if is_placed op mode ty aty bty && not (same_location b to)
    then placed_binary known op (is_signed aty) a b to bytes n
    else answer_code (fixed_binary_code op ty aty bty mode a b answer_location work_location) to n)

-- where a number of up to 6 bytes waits while its place gets a result
abbrev pub aside_location : Location
aside_location = InRegisters 8

-- the operand, of so many bytes, is put aside, and taken from 0 in the result's place; the result is stopped at the ends
-- of its range
abbrev pub from_zero_code : (signed : Bool) → (a to : Location) → (bytes : ℕ) → List AsmItem
from_zero_code signed a to bytes =
    copy_code a aside_location bytes
    ++ (constant_code to 0 bytes ++ limited_code true signed aside_location to (bytes - 1))

-- one byte with a sign is brought to the register of the result, and turned there
abbrev pub negated_code : (signed : Bool) → (a to : Location) → (bytes : ℕ) → List AsmItem
negated_code signed a (InRegisters r) bytes =
    if signed && bytes == 1 then move_code a (InRegisters r) 1 ++ opposite_code r
    else from_zero_code signed a (InRegisters r) bytes
negated_code signed a (InMemory o k) bytes = from_zero_code signed a (InMemory o k) bytes

abbrev pub negated_unary : (signed : Bool) → (a to : Location) → (bytes n : ℕ) → List AsmItem
negated_unary signed a to bytes n = if n == 0 then [] else negated_code signed a to bytes

-- a negation, which is the only such operator: one that does not saturate is that of an integer, and one that does is
-- made in the place of the result where the number has few bytes
abbrev pub fixed_unary : UnOp → PlainType → Mode → (a to : Location) → (n : ℕ) → List AsmItem
fixed_unary op ty mode a to n =
    if mode.saturate
    then (if nat_le (scalar_size ty) 6 then negated_unary (is_signed ty) a to (scalar_size ty) n
    else answer_code (fixed_unary_code op ty mode a answer_location work_location) to n)
    else unary_code op a to n

-- a conversion that gives the same number: to the same format, and where it does not saturate, to one with as many bits
-- behind the point
abbrev pub keeps_number : (ty aty : PlainType) → Mode → Bool
keeps_number ty aty mode = has_one_format ty aty || (has_one_fraction ty aty && not mode.saturate)

-- one whose numbers are brought to the other number of bits behind the point by registers: to a fixed-point type it does
-- not saturate
abbrev pub is_brought : (ty aty : PlainType) → Mode → Bool
is_brought ty aty mode =
    not (is_fixed ty && mode.saturate)
    && can_bring (scalar_size aty) (scalar_size ty) (format_in aty).frac (format_in ty).frac

-- m bytes with f bits behind the point are brought to k bytes with r of them, where n bytes are needed
abbrev pub brought_code : (signed : Bool) → (a to : Location) → (m k f r n : ℕ) → List AsmItem
brought_code signed a to m k f r n = if n == 0 then [] else bring_code signed a to m k f r

-- of an operand of so many bytes
abbrev pub fixed_conversion : (ty aty : PlainType) → Mode → (a to : Location) → (bytes n : ℕ) → List AsmItem
fixed_conversion ty aty mode a to bytes n =
    if keeps_number ty aty mode then conversion_code (is_signed aty) a to bytes n
    else (if is_brought ty aty mode
    then brought_code (is_signed aty) a to (scalar_size aty) (scalar_size ty) (format_in aty).frac (format_in ty).frac n
    else answer_code (fixed_conversion_code ty aty mode a answer_location work_location) to n)

-- ---- pointers

-- the code for one core or for the other
abbrev pub by_core : Core → (small large : List AsmItem) → List AsmItem
by_core Small small large = small
by_core Large small large = large

-- a pointer of so many bytes has whole addresses of flash: one of three bytes, where the flash goes past two
abbrev pub is_far : Core → (bytes : ℕ) → Bool
is_far Small bytes = false
is_far Large bytes = bytes == 3

-- what such a pointer to a place in a bank has is the place's whole address
abbrev pub is_whole_address : Core → (bytes : ℕ) → Bank → Bool
is_whole_address core bytes FlashBank = is_far core bytes
is_whole_address core bytes DataBank = false

-- the address of a place is put to a pointer of so many bytes, where some of them are needed
abbrev pub addressed_code : Core → PlainProgram → (o offset : ℕ) → Location → (bytes n : ℕ) → List AsmItem
addressed_code core p o offset to bytes n =
    if n == 0 then []
    else (if is_whole_address core bytes (home_of p o) then far_address_code o offset to
    else address_code o offset (tag_in bytes (home_of p o)) to)

-- a pointer of so many bytes to a member at an offset
abbrev pub member_code : Core → (bytes : ℕ) → Location → (offset : ℕ) → List AsmItem
member_code core bytes ptr offset = if is_far core bytes then field_far_code ptr offset else field_code ptr offset

-- n bytes from the bank that a pointer tells. Where no object stands in flash it is the data bank
abbrev pub load_either_code : Core → (tables : Bool) → (p to : Location) → ℕ → List AsmItem
load_either_code core true p to n = by_core core (load_any_code p to n) (load_any_far_code p to n)
load_either_code core false p to n = load_data_code p to n

-- n bytes through a pointer into a space, which stands at p
abbrev pub load_code : Core → (tables : Bool) → SpaceId → (p to : Location) → ℕ → List AsmItem
load_code core tables Flash p to n = load_flash_code p to n
load_code core tables FarFlash p to n = by_core core (load_flash_code p to n) (load_far_code p to n)
load_code core tables Data p to n = load_data_code p to n
load_code core tables Generic p to n = load_either_code core tables p to n

-- n bytes of an object with a home, from an offset on
abbrev pub banked_code : Core → Home → List PlainObject → (o offset : ℕ) → (to : Location) → ℕ → List AsmItem
banked_code core FlashHome objects o offset to n = load_table_code o offset to n
banked_code core FarHome objects o offset to n =
    by_core core (load_table_code o offset to n) (load_far_table_code o offset to n)
banked_code core DataHome objects o offset to n = copy_code (object_location objects o offset) to n

-- n bytes of such an object are brought to R30 and R31: at once from the data bank, and else by R26 and R27
abbrev pub load_index_code : Core → Home → List PlainObject → (o offset : ℕ) → ℕ → List AsmItem
load_index_code core DataHome objects o offset n = copy_code (object_location objects o offset) z_pair n
load_index_code core kept objects o offset n =
    banked_code core kept objects o offset (InRegisters 26) n ++ copy_code (InRegisters 26) z_pair n

-- ---- a pointer that stays in Z for a load

-- an address of flash has two bytes
abbrev pub is_small : Core → Bool
is_small Small = true
is_small Large = false

-- a load through a pointer into a space can go by Z: from the data bank, from flash by an address of two bytes, and from the
-- bank that a third byte tells which stands in R0. On the core `large` a pointer of three bytes stays in no Z, but where all
-- objects stand in the data bank
abbrev pub goes_by_z : Core → (tables tagged : Bool) → SpaceId → Bool
goes_by_z core tables tagged Data = true
goes_by_z core tables tagged Flash = true
goes_by_z core tables tagged FarFlash = is_small core
goes_by_z core tables tagged Generic = not tables || (tagged && is_small core)

-- and one into a space is from the data bank, wherever it points
abbrev pub is_from_data : (tables : Bool) → SpaceId → Bool
is_from_data tables Data = true
is_from_data tables Generic = not tables
is_from_data tables space = false

-- a displacement reaches so many bytes at an offset
abbrev pub is_in_reach : (offset bytes : ℕ) → Bool
is_in_reach offset bytes = nat_le (offset + bytes) 64

-- the next operation loads by Z what stands at an offset from the pointer at a place, and puts it there
abbrev pub is_load_by_z : Core → (tables tagged : Bool) → (place offset : ℕ) → (next : Option PlainIr) → Bool
is_load_by_z core tables tagged place offset (Some (load_at to ptr space)) =
    ptr.at == place && (to.at == place && (goes_by_z core tables tagged space && is_in_reach offset to.bytes))
is_load_by_z core tables tagged place offset next = false

-- or the one behind it loads a member so
abbrev pub is_used_by_z : Core → (tables : Bool) → (place : ℕ) → (next behind : Option PlainIr) → Bool
is_used_by_z core tables place (Some (field ptr space offset)) behind =
    ptr.at == place && is_load_by_z core tables true place offset behind
is_used_by_z core tables place next behind = is_load_by_z core tables true place 0 next

-- how far what is meant stands from Z, in bytes
abbrev pub told_offset : Option Told → ℕ
told_offset (Some (InZ offset)) = offset
told_offset told = 0

-- ---- a pointer that waits in Z for a store

-- an operation that comes soon: what is needed behind it, of its result or of the pointer by which it stores, and what is
-- known of its second operand
pub record Ahead : Type 0 where
  pub operation : Option PlainIr
  pub wanted : ℕ
  pub known : Option RightNumber

-- so many of them, from one on
abbrev pub look : (count : ℕ) → List PlainIr → (wanted : List ℕ) → (known : List (Option RightNumber)) → ℕ → List Ahead
look zero code bytes known j = []
look (suc n) code bytes known j =
    record { operation = slice_get code j; wanted = slice_index bytes j; known = get_or known j None }
    ∷ look n code bytes known (suc j)

-- a known number is added or subtracted
abbrev pub adds_number : (known : Option RightNumber) → BinOp → Bool
adds_number None op = false
adds_number (Some n) op = is_number n.number && is_sum_or_difference op

-- registers that an immediate reaches
abbrev pub is_in_high : Location → Bool
is_in_high (InRegisters r) = nat_le 16 r
is_in_high (InMemory o k) = false

-- The code of an operation leaves Z and a place alone: that of a load of an object of the data bank, or of one through the
-- pointer of this place, so far from Z; of a constant that nobody reads; of a conversion of an integer that adds no bytes; and
-- of a sum or a difference of an integer and a known number in registers that an immediate reaches
abbrev pub leaves_z : PlainProgram → (Temp → Location) → (place offset : ℕ) → (known : Option RightNumber) → (wanted : ℕ)
    → Option PlainIr → Bool
leaves_z p home place offset known bytes (Some (load_object t o k)) =
    not (t.at == place) && not (is_table (kept_in p o))
leaves_z p home place offset known bytes (Some (load_at to ptr space)) =
    (ptr.at == place && not (to.at == place)) && (is_from_data (has_tables p.objects) space && is_in_reach offset to.bytes)
leaves_z p home place offset known bytes (Some (constant t n)) = not (t.at == place) && bytes == 0
leaves_z p home place offset known bytes (Some (conversion to ty mode a aty)) =
    (not (to.at == place) && not (a.at == place)) && (not (is_whole ty || is_whole aty) && nat_le bytes a.bytes)
leaves_z p home place offset known bytes (Some (binary_op op ty mode to a aty b bty)) =
    (not (to.at == place) && not (a.at == place))
    && (not (is_whole aty || is_whole bty) && (adds_number known op && is_in_high (home to)))
leaves_z p home place offset known bytes i = false

-- An operation stores another temporary through the pointer of a place, of which nothing is needed behind it
abbrev pub is_store_by_z : (place offset wanted : ℕ) → Option PlainIr → Bool
is_store_by_z place offset bytes (Some (store_at ptr space from)) =
    (ptr.at == place && not (from.at == place)) && (bytes == 0 && is_in_reach offset from.bytes)
is_store_by_z place offset bytes i = false

-- of some operations one does so, and those before it leave Z and the place alone
abbrev pub waits : PlainProgram → (Temp → Location) → (place offset : ℕ) → List Ahead → Bool
waits p home place offset [] = false
waits p home place offset (x ∷ xs) =
    is_store_by_z place offset x.wanted x.operation
    || (leaves_z p home place offset x.known x.wanted x.operation && waits p home place offset xs)

-- the same, where the first one may move the pointer to a member
abbrev pub waits_for : PlainProgram → (Temp → Location) → (place : ℕ) → (next : Option PlainIr) → (here behind : List Ahead) → Bool
waits_for p home place (Some (field ptr space offset)) here behind =
    ptr.at == place && (is_in_reach offset 0 && waits p home place offset behind)
waits_for p home place next here behind = waits p home place 0 here

-- the pointer that an operation has read or moved waits in Z, where these operations come from the next one on, and those
-- from the one behind it
abbrev pub is_waiting : PlainProgram → (Temp → Location) → (told : Option Told) → PlainIr → (next : Option PlainIr)
    → (here behind : List Ahead) → Bool
is_waiting p home told (load_object t o offset) next here behind = waits_for p home t.at next here behind
is_waiting p home told (field ptr space offset) next here behind = waits p home ptr.at (told_offset told + offset) here
is_waiting p home told i next here behind = false

-- a pointer that waits goes on to wait, and else so much is told
abbrev pub goes_on : (told otherwise : Option Told) → Option Told
goes_on (Some (InZ offset)) otherwise = Some (InZ offset)
goes_on told otherwise = otherwise

-- but where it is loaded over
abbrev pub goes_on_past : (told : Option Told) → (over : Bool) → Option Told
goes_on_past (Some (InZ offset)) over = if over then None else Some (InZ offset)
goes_on_past told over = None

-- whether a pointer is in Z, and its third byte in R0
abbrev pub is_in_z : Option Told → Bool
is_in_z (Some (InZ offset)) = true
is_in_z told = false

-- what an operation that has been told so much leaves in Z in place of its result: a pointer that the next operations alone
-- use, or one that waits there. One that is read from an object leaves its third byte in R0
abbrev pub tells_in_z : Core → PlainProgram → (told : Option Told) → PlainIr → (next behind : Option PlainIr) → (waiting : Bool)
    → Option Told
tells_in_z core p told (load_object t o offset) next behind waiting =
    goes_on told (if not (is_table (kept_in p o))
    && (nat_le 2 t.bytes && (is_used_by_z core (has_tables p.objects) t.at next behind || waiting))
    then Some (InZ 0) else None)
tells_in_z core p told (field ptr space offset) next behind waiting =
    if is_load_by_z core (has_tables p.objects) (is_in_z told) ptr.at (told_offset told + offset) next
    || (is_in_reach (told_offset told + offset) 0 && waiting)
    then Some (InZ (told_offset told + offset)) else None
tells_in_z core p told (load_at to ptr space) next behind waiting = goes_on_past told (to.at == ptr.at)
tells_in_z core p told (constant t n) next behind waiting = goes_on told None
tells_in_z core p told (conversion to ty mode a aty) next behind waiting = goes_on told None
tells_in_z core p told (binary_op op ty mode to a aty b bty) next behind waiting = goes_on told None
tells_in_z core p told i next behind waiting = None

-- what an operation tells by Z, or else by a flag
abbrev pub told_first : (in_z by_flag : Option Told) → Option Told
told_first None by_flag = by_flag
told_first (Some told) by_flag = Some told

abbrev pub tells_any : Core → PlainProgram → (known : Option RightNumber) → (told : Option Told) → PlainIr
    → (next behind : Option PlainIr) → (needed index : ℕ) → (waiting : Bool) → Option Told
tells_any core p known told i next behind needed index waiting =
    told_first (tells_in_z core p told i next behind waiting) (tells known told i next behind needed index)

-- what an operation tells in place of its own result: none does over which a pointer waits
abbrev pub own_telling : (told telling : Option Told) → Option Told
own_telling (Some (InZ offset)) telling = None
own_telling told telling = telling

-- a pointer of so many bytes to a member: one in Z stays as it is, and one whose member is loaded next is brought there
abbrev pub further_code : (told telling : Option Told) → Core → (bytes : ℕ) → Location → (offset : ℕ) → List AsmItem
further_code (Some told) telling core bytes ptr offset = []
further_code None (Some told) core bytes ptr offset = point_code ptr
further_code None None core bytes ptr offset = member_code core bytes ptr offset

-- the displacement from Z at which so many bytes are loaded, where the pointer stays there
abbrev pub displacement : (told : Option Told) → (bytes : ℕ) → Option ℕ
displacement (Some (InZ offset)) bytes = if is_in_reach offset bytes then Some offset else None
displacement told bytes = None

-- n bytes of what a pointer into a space points to, at an offset from Z
abbrev pub from_z_code : (tables : Bool) → SpaceId → (offset : ℕ) → (to : Location) → ℕ → List AsmItem
from_z_code tables Data offset to n = load_member_code offset to n
from_z_code tables Flash offset to n = load_further_code offset to n
from_z_code tables FarFlash offset to n = load_further_code offset to n
from_z_code true Generic offset to n = load_tagged_code offset to n
from_z_code false Generic offset to n = load_member_code offset to n

abbrev pub loaded_code : (from_z : Option ℕ) → Core → (tables : Bool) → SpaceId → (p to : Location) → ℕ → List AsmItem
loaded_code None core tables space p to n = load_code core tables space p to n
loaded_code (Some offset) core tables space p to n = from_z_code tables space offset to n

-- n bytes are stored through a pointer, which may stay in Z
abbrev pub stored_code : (from_z : Option ℕ) → (p to : Location) → ℕ → List AsmItem
stored_code None p to n = store_data_code p to n
stored_code (Some offset) p to n = store_member_code offset p n

-- n bytes of an object with a home, from an offset on: those of a pointer that stays in Z are brought there
abbrev pub object_code : (telling : Option Told) → Core → Home → List PlainObject → (o offset : ℕ) → (to : Location) → ℕ
    → List AsmItem
object_code None core kept objects o offset to n = banked_code core kept objects o offset to n
object_code (Some told) core kept objects o offset to n = fetch_code (object_location objects o offset) n

-- ---- pointers that are moved
-- a pointer of so many bytes is moved by the bytes in R31:R30, further or back
abbrev pub moved_code : Core → (bytes : ℕ) → (minus : Bool) → Location → List AsmItem
moved_code core bytes minus to = if is_far core bytes then advance_far_code minus to else advance_code minus to

-- the number of elements is added as it stands, to an address that is not whole
abbrev pub takes_index : Core → (signed : Bool) → (index to : Location) → (bytes index_bytes size : ℕ) → Bool
takes_index core signed index to bytes index_bytes size =
    not (is_far core bytes) && can_add signed index to index_bytes size

-- the pointer is brought to the result's place, and the number of elements is added there
abbrev pub indexed_code : (minus : Bool) → (from index to : Location) → (bytes index_bytes size : ℕ) → List AsmItem
indexed_code minus from index to bytes index_bytes size =
    move_code from to bytes ++ add_index_code minus index to index_bytes size

-- the number of elements becomes one of bytes in R31:R30, then the pointer is brought to the result's place and moved there
abbrev pub scaled_code : Core → (minus signed : Bool) → (from index to : Location) → (bytes index_bytes size : ℕ) → List AsmItem
scaled_code core minus signed from index to bytes index_bytes size =
    scale_index_code index signed index_bytes size ++ (move_code from to bytes ++ moved_code core bytes minus to)

-- a pointer so many elements further, or back
abbrev pub offset_code : Core → (minus signed : Bool) → (from index to : Location) → (bytes index_bytes size n : ℕ)
    → List AsmItem
offset_code core minus signed from index to bytes index_bytes size n =
    if n == 0 then []
    else (if takes_index core signed index to bytes index_bytes (size % 65536)
    then indexed_code minus from index to bytes index_bytes (size % 65536)
    else scaled_code core minus signed from index to bytes index_bytes (size % 65536))

-- The bytes of so many elements, modulo 65,536: an index of so many bytes is known to hold a number
abbrev pub known_index : (signed : Bool) → (index_bytes number : ℕ) → ℕ
known_index signed index_bytes number =
    if index_bytes == 1 then index_of signed 1 (number % 256) else number % 65536

abbrev pub known_bytes : (signed : Bool) → (index_bytes number size : ℕ) → ℕ
known_bytes signed index_bytes number size = known_index signed index_bytes number * (size % 65536) % 65536

-- by their sign, or what is missing from them to 2 to the power of 24
abbrev pub known_offset : (minus : Bool) → (bytes : ℕ) → ℕ
known_offset minus bytes = if minus then 16777216 - extended bytes else extended bytes

-- the pointer is brought to the result's place, and moved there as to a member at that offset
abbrev pub known_offset_code : Core → (minus signed : Bool) → (from to : Location) → (bytes index_bytes number size n : ℕ)
    → List AsmItem
known_offset_code core minus signed from to bytes index_bytes number size n =
    if n == 0 then []
    else move_code from to bytes
    ++ member_code core bytes to (known_offset minus (known_bytes signed index_bytes number size))

-- a pointer so many elements further, or back, where their number may be known
abbrev pub offset_by : (known : Option ℤ) → Core → (minus signed : Bool) → (from index to : Location)
    → (bytes index_bytes size n : ℕ) → List AsmItem
offset_by None core minus signed from index to bytes index_bytes size n =
    offset_code core minus signed from index to bytes index_bytes size n
offset_by (Some k) core minus signed from index to bytes index_bytes size n =
    known_offset_code core minus signed from to bytes index_bytes (low_bytes 16 k) size n

-- the elements of so many bytes between two pointers
abbrev pub difference_code : (a b to : Location) → (size n : ℕ) → List AsmItem
difference_code a b to size n = if n == 0 then [] else elements_code a b to size

-- what is compared of pointers of so many bytes: all where a third byte may have a part of the address, and else what
-- the relation asks for
abbrev pub related_bytes : Core → Relation → (bytes : ℕ) → ℕ
related_bytes Small r bytes = compared_bytes r bytes
related_bytes Large r bytes = bytes

-- a truth value, or where it is told by a flag, the comparison alone
abbrev pub ordered_code : (telling : Option Told) → Relation → (left right to : Location) → (bytes n : ℕ) → List AsmItem
ordered_code None r left right to bytes n = compared_code r false left right to bytes n
ordered_code (Some told) r left right to bytes n = if n == 0 then [] else compare_code right left bytes

-- two pointers of so many bytes
abbrev pub pointers_code : (telling : Option Told) → Core → Family → (a b to : Location) → (bytes size n : ℕ) → List AsmItem
pointers_code telling core (Combined op) a b to bytes size n = difference_code a b to size n
pointers_code telling core (Compared r false) a b to bytes size n =
    ordered_code telling r a b to (related_bytes core r bytes) n
pointers_code telling core (Compared r true) a b to bytes size n =
    ordered_code telling r b a to (related_bytes core r bytes) n
pointers_code telling core f a b to bytes size n = []

-- two pointers, or a pointer and a number of elements, in either order, of which only the bytes are moved that are needed.
-- The second operand may be known to hold a number
abbrev pub pointer_binary : (known : Option RightNumber) → (telling : Option Told) → Core → (left right : Bool) → PlainProgram → BinOp
    → (aty bty : PlainType) → (a b to : Location) → (bytes index_bytes n : ℕ) → List AsmItem
pointer_binary known telling core true true p op aty bty a b to m k n =
    pointers_code telling core (family_of op) a b to m (element_size p aty) n
pointer_binary known telling core true false p op aty bty a b to m k n =
    offset_by (number_known known) core (is_difference op) (is_signed bty) a b to (max 2 n) k (element_size p aty) n
pointer_binary known telling core false true p op aty bty a b to m k n =
    offset_code core false (is_signed aty) b a to (max 2 n) m (element_size p bty) n
pointer_binary known telling core false false p op aty bty a b to m k n = []

-- a pointer of m bytes is brought to the result's place, and there one of two bytes gets a third one, which tells its bank,
-- where it is needed
abbrev pub pointer_conversion : PlainType → (from to : Location) → (m n : ℕ) → List AsmItem
pointer_conversion aty from to m n =
    move_code from to (min n m) ++ (if nat_le n m then [] else embed_code (is_into_data aty) to)

-- ---- operations

-- An operation, of whose result, or of what a branch tests, so many bytes are needed, and after a call so many of other
-- places; what the one before it told, and what it tells itself; and the number that its second operand, or what it stores,
-- is known to hold. A constant is taken in two's complement of 16 bytes, since no temporary has more
abbrev pub operation_code : PlainProgram → (Temp → Location) → Linkage → (told telling : Option Told) → Option RightNumber → ℕ
    → Need → PlainIr → List AsmItem
operation_code p home k told telling known bytes kept (constant t n) = put_code (home t) (low_bytes 16 n) bytes
operation_code p home k told telling known bytes kept (copy to from) = move_code (home from) (home to) bytes
operation_code p home k told telling known bytes kept (address t o offset) =
    addressed_code k.core p o offset (home t) (max 2 bytes) bytes
operation_code p home k told telling known bytes kept (field ptr space offset) =
    further_code told telling k.core ptr.bytes (home ptr) offset
operation_code p home k told telling known bytes kept (load_at to ptr space) =
    loaded_code (displacement told to.bytes) k.core (has_tables p.objects) space (home ptr) (home to) to.bytes
operation_code p home k told telling known bytes kept (store_at ptr space from) =
    stored_code (displacement told from.bytes) (home from) (home ptr) from.bytes
operation_code p home k told telling known bytes kept (load_object t o offset) =
    by_kind (is_index telling t.bytes) (load_index_code k.core (kept_in p o) p.objects o offset t.bytes)
    (object_code (own_telling told telling) k.core (kept_in p o) p.objects o offset (home t) t.bytes)
operation_code p home k told telling known bytes kept (store_object o offset t) =
    store_object_code (number_known known) (home t) (object_location p.objects o offset) t.bytes
operation_code p home k told telling known bytes kept (binary_op op ty mode to a aty b bty) =
    by_kind (is_index told b.bytes && moves_pointer op aty bty)
    (offset_code k.core (is_difference op) (is_signed bty) (home a) z_pair (home to) (max 2 bytes) b.bytes (element_size p aty)
    bytes)
    (by_kind (is_fixed aty || is_fixed bty)
    (fixed_binary known (own_telling told telling) op ty aty bty mode (home a) (home b) (home to) a.bytes bytes)
    (by_kind (is_pointer aty || is_pointer bty)
    (pointer_binary known (own_telling told telling) k.core (is_pointer aty) (is_pointer bty) p op aty bty (home a) (home b) (home to)
    a.bytes b.bytes bytes)
    (integer_binary known (own_telling told telling) op (is_signed aty) (is_signed bty) (home a) (home b) (home to) a.bytes bytes)))
operation_code p home k told telling known bytes kept (unary_op op ty mode to a) =
    by_kind (is_fixed ty) (fixed_unary op ty mode (home a) (home to) bytes) (unary_code op (home a) (home to) bytes)
operation_code p home k told telling known bytes kept (conversion to ty mode a aty) =
    by_kind (is_fixed ty || is_fixed aty) (fixed_conversion ty aty mode (home a) (home to) a.bytes bytes)
    (by_kind (is_pointer aty) (pointer_conversion aty (home a) (home to) a.bytes bytes)
    (conversion_code (is_signed aty) (home a) (home to) a.bytes bytes))
operation_code p home k told telling known bytes kept (label l) = Label (k.label_of l) ∷ []
operation_code p home k told telling known bytes kept (jump l) = jump_code told (k.label_of l)
operation_code p home k told telling known bytes kept (branch_zero t l) =
    tested_code told telling (bytes == 0) (home t) (bytes_compared known t.bytes) (k.label_of l)
operation_code p home k told telling known bytes kept (call_function f to) = call_code home k f to bytes kept
operation_code p home k told telling known bytes kept (return_from from) = return_code home k.is_main from
operation_code p home k told telling known bytes kept (port_in to port index width) =
    in_code (option_map home index) (home to) port width bytes
operation_code p home k told telling known bytes kept (port_out from port index width) =
    out_code (option_map home index) (home from) port width
operation_code p home k told telling known bytes kept (load_cell to cell) =
    copy_code (cell_place cell) (home to) to.bytes
operation_code p home k told telling known bytes kept (store_cell cell from) =
    copy_code (home from) (cell_place cell) from.bytes
operation_code p home k told telling known bytes kept (cell_port true to cell offset index width) =
    cell_in_code (option_map home index) (home to) cell offset width bytes
operation_code p home k told telling known bytes kept (cell_port false from cell offset index width) =
    cell_out_code (option_map home index) (home from) cell offset width

-- the bytes that are needed of an operation's result, or of what a branch has tested
abbrev pub result_wanted : Need → PlainIr → ℕ
result_wanted need (constant t n) = wanted need t
result_wanted need (copy to from) = wanted need to
result_wanted need (address t o offset) = wanted need t
result_wanted need (binary_op op ty mode to a aty b bty) = wanted need to
result_wanted need (unary_op op ty mode to a) = wanted need to
result_wanted need (conversion to ty mode a aty) = wanted need to
result_wanted need (branch_zero t l) = wanted need t
result_wanted need (call_function f to) = wanted_result need to
result_wanted need (port_in to port index width) = wanted need to
result_wanted need (cell_port true to cell offset index width) = wanted need to
result_wanted need i = 0

-- the bytes that are needed behind an operation: of its result, of what a branch has tested, or of the pointer by which a
-- store has stored
abbrev pub wanted_behind : (ℕ → Need) → Need → PlainIr → ℕ
wanted_behind at need (branch_zero t l) = wanted (either need (at l)) t
wanted_behind at need (store_at ptr space from) = wanted need ptr
wanted_behind at need i = result_wanted need i

abbrev pub wanted_bytes : Facts → List PlainIr → List ℕ
wanted_bytes at [] = []
wanted_bytes at (i ∷ code) = wanted_behind at.needed (needs at code) i ∷ wanted_bytes at code

-- a row that tells what is needed behind an operation that moves a pointer of the place of its index
abbrev pub index_row : Need → PlainIr → List ℕ
index_row need (binary_op op ty mode to a aty b bty) = if moves_pointer op aty bty then need b.at ∷ [] else []
index_row need i = []

-- behind the first one of some operations
abbrev pub index_behind : Facts → List PlainIr → ℕ
index_behind at [] = 0
index_behind at (i ∷ code) = get_or (index_row (needs at code) i) 0 0

-- what is needed behind an operation: behind a branch also at its label
abbrev pub needed_behind : (ℕ → Need) → Need → PlainIr → Need
needed_behind at need (branch_zero t l) = either need (at l)
needed_behind at need i = need

-- what a call keeps
abbrev pub kept_need : Need → PlainIr → Need
kept_need need (call_function f to) = without_result to need
kept_need need i = nothing

-- the code of an operation at its use, where so much is needed after it
abbrev pub own_code : PlainProgram → (Temp → Location) → Linkage → (told telling : Option Told) → Option RightNumber → Need
    → PlainIr → List AsmItem
own_code p home k told telling known need i =
    operation_code p home k told telling known (result_wanted need i) (kept_need need i) i

-- or a call of the routine with a label, of whose result so many bytes are needed
abbrev pub called_code : (Temp → Location) → (l n : ℕ) → PlainIr → List AsmItem
called_code home l n (binary_op op ty mode to a aty b bty) =
    answer_code (call_with_two (home a) (home b) a.bytes b.bytes l) (home to) n
called_code home l n (unary_op op ty mode to a) = answer_code (call_with_one (home a) a.bytes l) (home to) n
called_code home l n (conversion to ty mode a aty) = answer_code (call_with_one (home a) a.bytes l) (home to) n
called_code home l n i = []

-- one where a routine stands, and else the other
abbrev pub linked_code : (routine : Option ℕ) → (called : ℕ → List AsmItem) → (own : List AsmItem) → List AsmItem
linked_code None called own = own
linked_code (Some l) called own = called l

-- a shift that takes a known count calls none
abbrev pub routine_used : (known : Option RightNumber) → PlainIr → (routine : Option ℕ) → Option ℕ
routine_used known i routine = if takes_count known i then None else routine

-- an operation, where so much is needed after it
abbrev pub op_code : PlainProgram → (Temp → Location) → Linkage → (told telling : Option Told) → Option RightNumber → Need
    → PlainIr → List AsmItem
op_code p home k told telling known need i =
    linked_code (routine_used known i (k.routine_of i)) (λ l. called_code home l (result_wanted need i) i)
    (own_code p home k told telling known need i)

-- what is known of the second operand of each of the operations that are left
abbrev pub known_left : Facts → List PlainIr → List (Option RightNumber)
known_left at [] = []
known_left at (i ∷ code) = at.known (i ∷ code) ∷ known_left at code

-- those of them that come soon, from one on
abbrev pub soon : Facts → List PlainIr → ℕ → List Ahead
soon at code j = look 8 code (wanted_bytes at code) (known_left at code) j

-- what an operation that has been told so much tells those behind it
abbrev pub tells_next : Core → PlainProgram → (Temp → Location) → Facts → (told : Option Told) → PlainIr → List PlainIr
    → Option Told
tells_next core p home at told i code =
    tells_any core p (at.known (i ∷ code)) told i (slice_get code 0) (slice_get code 1) (slice_index (wanted_bytes at code) 0)
    (index_behind at code) (is_waiting p home told i (slice_get code 0) (soon at code 0) (soon at code 1))

abbrev pub ops_code : PlainProgram → (Temp → Location) → Linkage → Facts → (told : Option Told)
    → List PlainIr → List AsmItem
ops_code p home k at told [] = []
ops_code p home k at told (i ∷ code) =
    op_code p home k told (tells_next k.core p home at told i code) (at.known (i ∷ code))
    (needed_behind at.needed (needs at code) i) i
    ++ ops_code p home k at (tells_next k.core p home at told i code) code

-- the code of a function, which begins with its label, where a table tells what is needed at its own labels
abbrev pub function_code : PlainProgram → Linkage → (f : ℕ) → (ℕ → Need) → List PlainIr → List AsmItem
function_code p k f labels code =
    Label (k.entry_of f) ∷ ops_code p (home k.homes) k (facts_of (has_tables p.objects) labels code) None code
