-- How many low bytes of what each place of temporaries holds are still needed. Code computes only these bytes.
use Rattle.std.specs.Prelude.{ℕ, zero, suc, ◌≤◌, ◌==◌, ⊤, Bool, true, false, ◌||◌, ◌&&◌, not, if◌then◌else◌, min, max, List, []}
use Rattle.std.specs.Prelude.{◌∷◌}
use Rattle.std.specs.Prelude.{Option, Some, None, ℤ, nat_lt}
use Rattle.ec_fx.specs.declared.numbers.Mode.{Mode}
use Rattle.ec_space.specs.declared.space.SpaceId.{SpaceId}
use Rattle.ec_space.specs.declared.space.SpaceId.TheVariants.{Generic}
use Rattle.ec_core.specs.declared.expressions.BinOp.{BinOp}
use Rattle.ec_asm.specs.declared.pieces.Operator.TheVariants.{Sum, Difference, BitAnd, BitOr, BitXor}
use Rattle.ec_core.specs.declared.expressions.BinOp.TheVariants.{Add, Sub, Mul, Div, Rem, And, Or, Xor, Lt, Gt, Le, Ge}
use Rattle.ec_core.specs.declared.expressions.BinOp.TheVariants.{Eq, Ne, Shl, Shr}
use Rattle.ec_core.specs.ArithmeticValues.{is_comparison}
use Rattle.ec_core.specs.Operators.{same_kind}
use Rattle.ec_core.specs.Plain.{PlainType, fixed, pointer}
use Rattle.ec_ir.specs.declared.operations.Temp.{Temp}
use Rattle.ec_ir.specs.Operations.{PlainIr, constant, copy, address, field, load_at, store_at, load_object}
use Rattle.ec_ir.specs.Operations.{store_object, binary_op, unary_op, conversion, label, jump, branch_zero}
use Rattle.ec_ir.specs.Operations.{call_function, return_from, port_in, port_out, load_cell, store_cell, cell_port}
use Rattle.ec_ir.specs.Temporaries.{low_bytes}
use Rattle.ec_ir_known.specs.declared.known.RightNumber.{RightNumber}
use Rattle.ec_ir_known.specs.Known.{changes_byte, known_at, right_number}
use Rattle.ec_select_order.specs.declared.relations.Relation.TheVariants.{Less, NotLess, Equal, NotEqual}
use Rattle.ec_select_operations.specs.declared.families.Family.{Family}
use Rattle.ec_select_operations.specs.declared.families.Family.TheVariants.{Combined, Compared, Multiplied, Shifted}
use Rattle.ec_select_operations.specs.declared.families.Family.TheVariants.{Divided}
use Rattle.ec_select_operations.specs.Pointers.{is_pointer}

-- for each place the number of its low bytes that are needed
abbrev pub Need : Type 0
Need = ℕ → ℕ

abbrev pub nothing : Need
nothing place = 0

abbrev pub at_least : ℕ → ℕ → Need → Need
at_least at n need place = if place == at then max (need place) n else need place

abbrev pub without : ℕ → Need → Need
without at need place = if place == at then 0 else need place

-- of the place that gets a call's result nothing is needed
abbrev pub without_result : Option Temp → Need → Need
without_result None need = need
without_result (Some t) need = without t.at need

abbrev pub either : Need → Need → Need
either a b place = max (a place) (b place)

-- the bytes of a temporary that are needed
abbrev pub wanted : Need → Temp → ℕ
wanted need t = min (need t.at) t.bytes

abbrev pub wanted_result : Need → Option Temp → ℕ
wanted_result need None = 0
wanted_result need (Some t) = wanted need t

-- what is needed of the temporary that is returned
abbrev pub returned_need : Option Temp → Need
returned_need None = nothing
returned_need (Some t) = at_least t.at t.bytes nothing

-- the low bytes of the result depend on as many low bytes of the first operand alone, and but for a shift of the second
-- one too
abbrev pub is_of_low_bytes : BinOp → Bool
is_of_low_bytes Add = true
is_of_low_bytes Sub = true
is_of_low_bytes And = true
is_of_low_bytes Or = true
is_of_low_bytes Xor = true
is_of_low_bytes Shl = true
is_of_low_bytes op = false

-- all bytes, or none where none of the result is needed
abbrev pub all_or_none : (bytes n : ℕ) → ℕ
all_or_none bytes zero = 0
all_or_none bytes (suc n) = bytes

-- the bytes of the first operand that n bytes of an operator's result take, and those of the second one: a count is
-- less than 256
abbrev pub operand_wanted : BinOp → (bytes n : ℕ) → ℕ
operand_wanted op bytes n = if is_of_low_bytes op then n else all_or_none bytes n

abbrev pub right_wanted : BinOp → (bytes n : ℕ) → ℕ
right_wanted Shl bytes n = all_or_none 1 n
right_wanted Shr bytes n = all_or_none 1 n
right_wanted op bytes n = operand_wanted op bytes n

-- of the index of a port the low byte is needed: an element stands below 0x100
abbrev pub index_needed : Option Temp → Need → Need
index_needed None need = need
index_needed (Some t) need = at_least t.at 1 need

-- ---- operators apart, with a fixed-point type or a pointer, take all bytes of their operands, and so do conversions of
-- fixed-point numbers

abbrev pub is_fixed : PlainType → Bool
is_fixed (fixed kind saturates) = true
is_fixed ty = false

abbrev pub is_whole : PlainType → Bool
is_whole (fixed kind saturates) = true
is_whole (pointer space const to) = true
is_whole ty = false

-- two fixed-point types whose numbers have equal formats
abbrev pub has_one_format : (aty bty : PlainType) → Bool
has_one_format (fixed k s) (fixed j t) = same_kind k j
has_one_format aty bty = false

abbrev pub family_of : BinOp → Family
family_of Add = Combined Sum
family_of Sub = Combined Difference
family_of And = Combined BitAnd
family_of Or = Combined BitOr
family_of Xor = Combined BitXor
family_of Lt = Compared Less false
family_of Gt = Compared Less true
family_of Le = Compared NotLess true
family_of Ge = Compared NotLess false
family_of Eq = Compared Equal false
family_of Ne = Compared NotEqual false
family_of Mul = Multiplied
family_of Div = Divided false
family_of Rem = Divided true
family_of Shl = Shifted true
family_of Shr = Shifted false

-- an operator that gives for numbers of one format what it gives for the integers that their bytes stand for: a
-- comparison, and where it does not saturate, a sum or a difference in that format
abbrev pub is_as_exact : Family → Mode → (in_format : Bool) → Bool
is_as_exact (Combined op) mode in_format = in_format && not mode.saturate
is_as_exact (Compared r exchanged) mode in_format = true
is_as_exact f mode in_format = false

abbrev pub is_on_integers : Family → Mode → (ty aty bty : PlainType) → Bool
is_on_integers f mode ty aty bty = has_one_format aty bty && is_as_exact f mode (has_one_format ty aty)

-- one with a fixed-point operand or a pointer, which does not do to it what it does to the integer of its bytes
abbrev pub is_apart : Family → Mode → (ty aty bty : PlainType) → Bool
is_apart f mode ty aty bty = (is_whole aty || is_whole bty) && not (is_on_integers f mode ty aty bty)

abbrev pub first_wanted : (apart : Bool) → BinOp → (bytes n : ℕ) → ℕ
first_wanted true op bytes n = all_or_none bytes n
first_wanted false op bytes n = operand_wanted op bytes n

abbrev pub second_wanted : (apart : Bool) → BinOp → (bytes n : ℕ) → ℕ
second_wanted true op bytes n = all_or_none bytes n
second_wanted false op bytes n = right_wanted op bytes n

-- of the only operand
abbrev pub only_wanted : (whole : Bool) → (bytes n : ℕ) → ℕ
only_wanted true bytes n = all_or_none bytes n
only_wanted false bytes n = n

-- ---- operands that are known numbers

-- the operators of integers that take a known number as their second operand
abbrev pub takes_number : BinOp → Bool
takes_number Add = true
takes_number Sub = true
takes_number And = true
takes_number Or = true
takes_number Lt = true
takes_number Gt = true
takes_number Le = true
takes_number Ge = true
takes_number Eq = true
takes_number Ne = true
takes_number Shl = true
takes_number Shr = true
takes_number op = false

-- the number that a second operand is known to hold
abbrev pub number_known : (known : Option RightNumber) → Option ℤ
number_known None = None
number_known (Some n) = n.number

abbrev pub is_number : Option ℤ → Bool
is_number None = false
is_number (Some n) = true

-- operators of integers take a known number; where only both operands are known to be below 256, comparisons take this, and
-- where the second one is alone, OR and exclusive OR
abbrev pub takes_known : (number : Option ℤ) → (in_byte : Bool) → BinOp → Bool
takes_known None true op = is_comparison op
takes_known None false op = changes_byte op
takes_known (Some n) in_byte op = takes_number op

-- what an operator on integers takes of what is known of its second operand: nothing where it is apart
abbrev pub number_taken : (known : Option RightNumber) → (apart : Bool) → BinOp → Option RightNumber
number_taken None apart op = None
number_taken (Some n) apart op = if not apart && takes_known n.number n.in_byte op then Some n else None

-- a pointer plus or less a number of elements
abbrev pub is_sum_or_difference : BinOp → Bool
is_sum_or_difference Add = true
is_sum_or_difference Sub = true
is_sum_or_difference op = false

abbrev pub moves_pointer : BinOp → (aty bty : PlainType) → Bool
moves_pointer op aty bty = is_pointer aty && (not (is_whole bty) && is_sum_or_difference op)

-- as many bytes of a pointer are made as are needed, but at least the two of an address
abbrev pub pointer_wanted : (n : ℕ) → ℕ
pointer_wanted zero = 0
pointer_wanted (suc n) = max 2 (suc n)

-- so many bytes of a pointer that is moved take as many of it as it was, and others take more
abbrev pub moved_wanted : (moved : Bool) → (n others : ℕ) → ℕ
moved_wanted true n others = pointer_wanted n
moved_wanted false n others = others

-- how many bytes of an operand, which has so many, are compared or shifted to the right: one where both operands are below
-- 256
abbrev pub compared_bytes : (taken : Option RightNumber) → (bytes : ℕ) → ℕ
compared_bytes None bytes = bytes
compared_bytes (Some n) bytes = if n.in_byte then min 1 bytes else bytes

-- AND with a known number below 256 gives one byte
abbrev pub is_low_mask : (number : Option ℤ) → BinOp → Bool
is_low_mask None op = false
is_low_mask (Some n) And = nat_lt (low_bytes 16 n) 256
is_low_mask (Some n) op = false

-- how many bytes of the result tell what is needed of the first operand: one of those that are masked so
abbrev pub masked_bytes : (taken : Option RightNumber) → BinOp → (n : ℕ) → ℕ
masked_bytes None op n = n
masked_bytes (Some k) op n = if is_low_mask k.number op then min n 1 else n

-- how many bytes of the result tell what is needed of the second operand: one where it alone is below 256
abbrev pub joined_bytes : (taken : Option RightNumber) → (n : ℕ) → ℕ
joined_bytes None n = n
joined_bytes (Some k) n = if is_number k.number || k.in_byte then n else min n 1

-- an operator whose result has the format of the first operand, and is computed in its place: a sum or a difference in the
-- one format of both operands that saturates, a shift to the left that does not, and any shift to the right
abbrev pub takes_place : BinOp → Mode → (in_one_format : Bool) → Bool
takes_place Add mode one = one && mode.saturate
takes_place Sub mode one = one && mode.saturate
takes_place Shl mode one = not mode.saturate
takes_place Shr mode one = true
takes_place op mode one = false

abbrev pub is_placed : BinOp → Mode → (ty aty bty : PlainType) → Bool
is_placed op mode ty aty bty = has_one_format ty aty && takes_place op mode (has_one_format aty bty)

abbrev pub is_shift : BinOp → Bool
is_shift Shl = true
is_shift Shr = true
is_shift op = false

-- a fixed-point number is shifted in the place of the result, and its count is at another place
abbrev pub is_counted : BinOp → Mode → (ty aty bty : PlainType) → (to b : Temp) → Bool
is_counted op mode ty aty bty to b = (is_shift op && is_placed op mode ty aty bty) && not (b.at == to.at)

-- it takes a count that is known
abbrev pub count_taken : (known : Option RightNumber) → (counted : Bool) → Bool
count_taken None counted = false
count_taken (Some n) counted = is_number n.number && counted

-- whether an operation, whose second operand may be known to hold a number, does so
abbrev pub takes_count : (known : Option RightNumber) → PlainIr → Bool
takes_count known (binary_op op ty mode to a aty b bty) = count_taken known (is_counted op mode ty aty bty to b)
takes_count known i = false

-- an operator with a fixed-point type or a pointer that takes a number in place of its second operand
abbrev pub takes_whole : BinOp → Mode → (ty aty bty : PlainType) → (to b : Temp) → Bool
takes_whole op mode ty aty bty to b = moves_pointer op aty bty || is_counted op mode ty aty bty to b

-- what is known, where that is a number
abbrev pub numbered : (known : Option RightNumber) → Option RightNumber
numbered None = None
numbered (Some n) = if is_number n.number then Some n else None

-- the number that any operator takes in place of its second operand
abbrev pub right_taken : (known : Option RightNumber) → (takes apart : Bool) → BinOp → Option RightNumber
right_taken None takes apart op = None
right_taken (Some n) takes apart op = numbered (if takes then Some n else number_taken (Some n) apart op)

-- of a second operand, or of what is stored, nothing is needed where it is taken as a number
abbrev pub right_needed : Option RightNumber → (at bytes : ℕ) → Need → Need
right_needed None at bytes need = at_least at bytes need
right_needed (Some n) at bytes need = need

-- ---- operations

-- what is needed before an operation, whose second operand may be known to hold a number, or what it stores; a branch
-- tests against 0. `at`
-- tells what is needed at each label, and `need` what is after the operation
abbrev pub before : (ℕ → Need) → Option RightNumber → PlainIr → Need → Need
before at n (constant t k) need = without t.at need
before at n (copy to from) need = at_least from.at (wanted need to) (without to.at need)
before at n (address t o offset) need = without t.at need
before at n (field ptr space offset) need = at_least ptr.at 2 need
before at n (load_at to ptr space) need = at_least ptr.at ptr.bytes (without to.at need)
before at n (store_at ptr space from) need = at_least from.at from.bytes (at_least ptr.at 2 need)
before at n (load_object t o offset) need = without t.at need
before at n (store_object o offset t) need = right_needed (numbered n) t.at t.bytes need
before at n (binary_op op ty mode to a aty b bty) need =
    at_least a.at
    (moved_wanted (moves_pointer op aty bty) (wanted need to)
    (first_wanted (is_apart (family_of op) mode ty aty bty) op
    (compared_bytes (number_taken n (is_apart (family_of op) mode ty aty bty) op) a.bytes)
    (masked_bytes (number_taken n (is_apart (family_of op) mode ty aty bty) op) op (wanted need to))))
    (right_needed (right_taken n (takes_whole op mode ty aty bty to b) (is_apart (family_of op) mode ty aty bty) op) b.at
    (moved_wanted (moves_pointer op bty aty) (wanted need to)
    (second_wanted (is_apart (family_of op) mode ty aty bty) op
    (compared_bytes (number_taken n (is_apart (family_of op) mode ty aty bty) op) b.bytes)
    (joined_bytes (number_taken n (is_apart (family_of op) mode ty aty bty) op) (wanted need to)))) (without to.at need))
before at n (unary_op op ty mode to a) need =
    at_least a.at (only_wanted (is_whole ty) a.bytes (wanted need to)) (without to.at need)
before at n (conversion to ty mode a aty) need =
    at_least a.at (only_wanted (is_fixed ty || is_fixed aty) a.bytes (wanted need to)) (without to.at need)
before at n (label l) need = at l
before at n (jump l) need = at l
before at n (branch_zero t l) need = at_least t.at (compared_bytes n t.bytes) (either need (at l))
before at n (call_function f to) need = without_result to need
before at n (return_from from) need = returned_need from
before at n (port_in to port index width) need = index_needed index (without to.at need)
before at n (port_out from port index width) need = at_least from.at width (index_needed index need)
before at n (load_cell to cell) need = without to.at need
before at n (store_cell cell from) need = at_least from.at from.bytes need
before at n (cell_port true to cell offset index width) need = index_needed index (without to.at need)
before at n (cell_port false from cell offset index width) need = at_least from.at width (index_needed index need)

-- a load takes all bytes of its pointer, but where no object is kept in flash, of one into the unnamed space the two of an
-- address
abbrev pub loaded_bytes : SpaceId → (in_flash : Bool) → (bytes : ℕ) → ℕ
loaded_bytes Generic false bytes = 2
loaded_bytes space in_flash bytes = bytes

-- an operation that takes so much of its pointer
abbrev pub narrowed : PlainIr → (in_flash : Bool) → PlainIr
narrowed (load_at to ptr space) in_flash =
    load_at to (record { at = ptr.at; bytes = loaded_bytes space in_flash ptr.bytes }) space
narrowed i in_flash = i

-- ---- the code of a function

-- whether some object is kept in flash, what is needed at each label of a function, and the number, if any, that the second
-- operand of the first one of the operations that are left is known to hold
pub record Facts : Type 0 where
  pub in_flash : Bool
  pub needed : ℕ → Need
  pub known : List PlainIr → Option RightNumber

-- the number of the operations that are left of the code of a function
abbrev pub known_right : (code rest : List PlainIr) → Option RightNumber
known_right code [] = None
known_right code (i ∷ rest) = right_number (known_at code (i ∷ rest)) i

-- where a table tells what is needed at the labels
abbrev pub facts_of : (in_flash : Bool) → (ℕ → Need) → List PlainIr → Facts
facts_of in_flash labels code = record { in_flash = in_flash; needed = labels; known = known_right code }

abbrev pub needs : Facts → List PlainIr → Need
needs at [] place = 0
needs at (i ∷ code) place = before at.needed (at.known (i ∷ code)) (narrowed i at.in_flash) (needs at code) place

-- at the labels of operations at least what the code after each needs is needed
abbrev pub IsLiveBy : Facts → List PlainIr → Type 0
IsLiveBy at [] = ⊤
IsLiveBy at (label l ∷ code) = ((place : ℕ) → needs at code place ≤ at.needed l place) × IsLiveBy at code
IsLiveBy at (i ∷ code) = IsLiveBy at code

-- the table of labels tells at least what the code after each label needs
abbrev pub IsLive : (in_flash : Bool) → (ℕ → Need) → List PlainIr → Type 0
IsLive in_flash labels code = IsLiveBy (facts_of in_flash labels code) code
