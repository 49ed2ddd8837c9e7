-- What is known of temporaries where an operation stands. A temporary is known to hold a number where, of the operations
-- before it, the last one that sets its place is a constant, or a conversion of an integer that was known there, and
-- no label stands between. It is known to hold a number below 256 where that operation leaves one byte, is a comparison,
-- brings an unsigned byte or a number below 256 to an integer type of more bytes, or is an AND with such a number, an OR
-- or an exclusive OR of two, a shift of one to the right, or one of a number without a sign that leaves its top byte alone.
-- What other operations leave but a copy and a call is known to be a number of its bytes.
use Rattle.std.specs.Prelude.{ℕ, ◌-◌, ◌<◌, ◌==◌, nat_lt, Bool, true, false, not, ◌&&◌, ◌||◌, if◌then◌else◌, ℤ, pos, int_lt, ⊤}
use Rattle.std.specs.Prelude.{List, [], ◌∷◌, reverse, take, length, get_or, Option, Some, None}
use Rattle.std.specs.List.{AllByRecursion}
use Rattle.ec_core.specs.declared.arithmetic_types.IntegerType.{IntegerType}
use Rattle.ec_core.specs.declared.expressions.BinOp.{BinOp}
use Rattle.ec_core.specs.declared.expressions.BinOp.TheVariants.{Shr, And, Or, Xor}
use Rattle.ec_core.specs.ArithmeticValues.{is_comparison}
use Rattle.ec_core.specs.Integers.{wrapped}
use Rattle.ec_core.specs.Plain.{PlainType, integer}
use Rattle.ec_ir.specs.declared.operations.Temp.{Temp}
use Rattle.ec_ir.specs.Operations.{PlainIr, constant, copy, address, field, load_at, load_object}
use Rattle.ec_ir.specs.Operations.{store_object, binary_op, unary_op, conversion, label, branch_zero}
use Rattle.ec_ir.specs.Operations.{call_function, port_in, load_cell, cell_port}
use Rattle.ec_ir_known.specs.declared.known.KnownNumber.{KnownNumber}
use Rattle.ec_ir_known.specs.declared.known.RightNumber.{RightNumber}

-- what each place is known to hold, if anything is known
abbrev pub Known : Type 0
Known = ℕ → Option KnownNumber

abbrev pub nothing_known : Known
nothing_known place = None

-- ---- operations

-- the temporary that an operation sets
abbrev pub result_of : PlainIr → Option Temp
result_of (constant t n) = Some t
result_of (copy to from) = Some to
result_of (address t o offset) = Some t
result_of (field ptr space offset) = Some ptr
result_of (load_at to ptr space) = Some to
result_of (load_object t o offset) = Some t
result_of (binary_op op ty mode to a aty b bty) = Some to
result_of (unary_op op ty mode to a) = Some to
result_of (conversion to ty mode a aty) = Some to
result_of (call_function f to) = to
result_of (port_in to port index width) = Some to
result_of (load_cell to cell) = Some to
result_of (cell_port true to cell offset index width) = Some to
result_of i = None

abbrev pub is_set : Option Temp → ℕ → Bool
is_set None place = false
is_set (Some t) place = place == t.at

-- the number of so many bytes that a temporary is known to hold
abbrev pub of_bytes : (bytes : ℕ) → Option KnownNumber → Option ℤ
of_bytes bytes None = None
of_bytes bytes (Some k) = if k.bytes == bytes then k.number else None

abbrev pub number_in : Known → Temp → Option ℤ
number_in known t = of_bytes t.bytes (known t.at)

abbrev pub is_integer_size : ℕ → Bool
is_integer_size bytes = bytes == 1 || (bytes == 2 || bytes == 4)

abbrev pub known_as : Temp → ℤ → Option KnownNumber
known_as t n = Some (record { bytes = t.bytes; number = Some n; width = t.bytes })

-- ---- numbers below 256

-- any number of so many bytes is meant
abbrev pub is_any : Option ℤ → (width bytes : ℕ) → Bool
is_any None width bytes = width == bytes
is_any (Some n) width bytes = false

-- one of so many bytes is known to stand there, and not which
abbrev pub is_byte_of : (bytes : ℕ) → Option KnownNumber → Bool
is_byte_of bytes None = false
is_byte_of bytes (Some k) = k.bytes == bytes && is_any k.number k.width 1

abbrev pub byte_in : Temp → Option KnownNumber
byte_in t = Some (record { bytes = t.bytes; number = None; width = 1 })

-- what any operation leaves in a temporary: a number of its bytes
abbrev pub bytes_left : Temp → Option KnownNumber
bytes_left t = Some (record { bytes = t.bytes; number = None; width = t.bytes })

-- a number of all its bytes is known to stand there, and not which
abbrev pub is_filled : (bytes : ℕ) → Option KnownNumber → Bool
is_filled bytes None = false
is_filled bytes (Some k) = k.bytes == bytes && is_any k.number k.width bytes

-- an integer type of more bytes than one, which has room for them
abbrev pub is_wide : (bytes : ℕ) → Bool
is_wide bytes = bytes == 2 || bytes == 4

-- numbers below 256 of one type are the same in the other
abbrev pub keeps_bytes : (ty from : IntegerType) → Bool
keeps_bytes ty from = is_wide ty.bytes && (is_wide from.bytes || (not from.signed && from.bytes == 1))

abbrev pub is_byte : ℤ → Bool
is_byte n = not (int_lt n (pos 0)) && int_lt n (pos 256)

-- any number below 256, or one that is
abbrev pub is_small : Option ℤ → (width : ℕ) → Bool
is_small None width = width == 1
is_small (Some n) width = is_byte n

-- so many bytes are known to be below 256
abbrev pub is_below : (bytes : ℕ) → Option KnownNumber → Bool
is_below bytes None = false
is_below bytes (Some k) = k.bytes == bytes && is_small k.number k.width

abbrev pub is_wide_type : PlainType → Bool
is_wide_type (integer signed bytes) = is_wide bytes
is_wide_type ty = false

-- an operand of such a type is known to be below 256
abbrev pub is_low : Known → Temp → PlainType → Bool
is_low known t ty = is_wide_type ty && is_below t.bytes (known t.at)

-- what a number without a sign, of two or four bytes, is shifted by to the right at least, so that its top byte is left
abbrev pub top_count : (bytes : ℕ) → ℕ
top_count bytes = if bytes == 2 then 8 else 24

-- an operand is a number of all bytes of its type, which has no sign and more bytes than one
abbrev pub is_filled_type : Known → Temp → PlainType → Bool
is_filled_type known t (integer true bytes) = false
is_filled_type known t (integer false bytes) = is_wide bytes && (t.bytes == bytes && is_filled bytes (known t.at))
is_filled_type known t ty = false

-- a count is known, and at least so much
abbrev pub is_count_from : (least : ℕ) → Option ℤ → Bool
is_count_from least None = false
is_count_from least (Some n) = is_byte n && not (int_lt n (pos least))

-- a result of such a type is below 256 where operands are: that of AND where one is, those of OR and of exclusive OR where
-- both are, and that of a shift to the right where the first one is, or where only its top byte is left
abbrev pub is_low_result : BinOp → (left right top : Bool) → Bool
is_low_result And left right top = left || right
is_low_result Or left right top = left && right
is_low_result Xor left right top = left && right
is_low_result Shr left right top = left || top
is_low_result op left right top = false

-- a truth value is 0 or 1
abbrev pub leaves_byte : BinOp → PlainType → (left right top : Bool) → Bool
leaves_byte op ty left right top = is_comparison op || (is_wide_type ty && is_low_result op left right top)

abbrev pub byte_where : Temp → Bool → Option KnownNumber
byte_where t byte = if byte then byte_in t else bytes_left t

-- ---- what operations leave

-- a number as an operand of an integer type, in another integer type
abbrev pub brought : (ty from : IntegerType) → ℤ → ℤ
brought ty from n = wrapped ty (wrapped from n)

abbrev pub integer_of : PlainType → Option IntegerType
integer_of (integer signed bytes) = Some (record { signed = signed; bytes = bytes })
integer_of ty = None

-- the number that a conversion to a temporary leaves, of an operand that is known to be so much
abbrev pub converted_by : Temp → Option IntegerType → Option IntegerType → Option ℤ → (byte : Bool) → Option KnownNumber
converted_by to (Some ty) (Some from) (Some n) byte =
    if is_integer_size ty.bytes && is_integer_size from.bytes then known_as to (brought ty from n) else bytes_left to
converted_by to (Some ty) (Some from) None true = byte_where to (keeps_bytes ty from)
converted_by to ty from n byte = bytes_left to

abbrev pub converted : Temp → PlainType → PlainType → Option ℤ → (byte : Bool) → Option KnownNumber
converted to ty from n byte = converted_by to (integer_of ty) (integer_of from) n byte

-- the number of an integer operand, whose temporary has as many bytes as its type
abbrev pub operand_number : Known → Temp → PlainType → Option ℤ
operand_number known t (integer s b) = if t.bytes == b then number_in known t else None
operand_number known t ty = None

-- so many bits are left out that only the top byte of a number is left
abbrev pub leaves_top : Known → (a : Temp) → (aty : PlainType) → (b : Temp) → (bty : PlainType) → Bool
leaves_top known a aty b bty =
    is_filled_type known a aty && (is_wide_type bty && is_count_from (top_count a.bytes) (operand_number known b bty))

-- the number that an operation leaves in what it sets
abbrev pub number_left : PlainIr → Known → Option KnownNumber
number_left (constant t n) known = known_as t n
number_left (conversion to ty mode a aty) known =
    converted to ty aty (operand_number known a aty) (is_byte_of a.bytes (known a.at))
number_left (load_at to ptr space) known = bytes_left to
number_left (load_object t o offset) known = bytes_left t
number_left (binary_op op ty mode to a aty b bty) known =
    byte_where to (leaves_byte op ty (is_low known a aty) (is_low known b bty) (leaves_top known a aty b bty))
number_left (unary_op op ty mode to a) known = bytes_left to
number_left (port_in to port index width) known = bytes_left to
number_left (load_cell to cell) known = bytes_left to
number_left (cell_port true to cell offset index width) known = bytes_left to
number_left i known = None

abbrev pub known_after : PlainIr → Known → Known
known_after (label l) known place = None
known_after i known place = if is_set (result_of i) place then number_left i known else known place

-- ---- where an operation stands

-- what is known behind operations, the last of them first
abbrev pub known_behind : List PlainIr → Known
known_behind [] = nothing_known
known_behind (i ∷ before) = known_after i (known_behind before)

-- what is known where these operations are left of the code of a function
abbrev pub known_at : (code rest : List PlainIr) → Known
known_at code rest = known_behind (reverse (take (length code - length rest) code))

-- of a second operand something is known where it is known to hold a number, where both operands are below 256, or for
-- some operators where it alone is
abbrev pub right_of : (alone left right : Bool) → Option ℤ → Option RightNumber
right_of alone left right None =
    if (alone || left) && right then Some (record { number = None; in_byte = not alone }) else None
right_of alone left right (Some n) = Some (record { number = Some n; in_byte = left && is_byte n })

-- more bytes than one are known to be below 256
abbrev pub fits_byte : Known → Temp → Bool
fits_byte known t = nat_lt 1 t.bytes && is_byte_of t.bytes (known t.at)

-- and so is a second operand of an integer type
abbrev pub fits_second : Known → Temp → PlainType → Bool
fits_second known t ty = is_wide_type ty && fits_byte known t

-- OR and exclusive OR change one byte alone of the first operand where the second one is below 256
abbrev pub changes_byte : BinOp → Bool
changes_byte Or = true
changes_byte Xor = true
changes_byte op = false

-- they take it so where it does not stand at the place of the result
abbrev pub takes_alone : BinOp → (to b : Temp) → Bool
takes_alone op to b = changes_byte op && not (b.at == to.at)

-- the number that the second operand of a binary operator is known to hold. It is in a byte where the first operand, of
-- more bytes, is known to be below 256, and so is the number, or what the second operand, of more bytes too, holds in
-- place of a known number. Where an operator takes a second operand below 256 alone, it is not. A branch tests against 0, and
-- a store takes a known number alone
abbrev pub right_number : Known → PlainIr → Option RightNumber
right_number known (binary_op op ty mode to a aty b bty) =
    right_of (takes_alone op to b) (fits_byte known a) (fits_second known b bty) (number_in known b)
right_number known (branch_zero t l) = right_of false (fits_byte known t) false (Some (pos 0))
right_number known (store_object o offset t) = right_of false false false (number_in known t)
right_number known i = None

-- for each of the operations that are left
abbrev pub numbers_left : (code rest : List PlainIr) → List (Option RightNumber)
numbers_left code [] = []
numbers_left code (i ∷ rest) = right_number (known_at code (i ∷ rest)) i ∷ numbers_left code rest

abbrev pub right_numbers : List PlainIr → List (Option RightNumber)
right_numbers code = numbers_left code code

-- the same, going from operation to operation, where so much is known before the first one
abbrev pub numbers_from : Known → List PlainIr → List (Option RightNumber)
numbers_from known [] = []
numbers_from known (i ∷ code) = right_number known i ∷ numbers_from (known_after i known) code

-- ---- rows

-- a row tells what is known of the first places. Of the others nothing is
abbrev pub known_of : List (Option KnownNumber) → Known
known_of row place = get_or row place None

-- an operation sets one of so many places, if any
abbrev pub IsPlaced : ℕ → Option Temp → Type 0
IsPlaced slots None = ⊤
IsPlaced slots (Some t) = t.at < slots

abbrev pub HasResultPlace : ℕ → PlainIr → Type 0
HasResultPlace slots i = IsPlaced slots (result_of i)

abbrev pub HaveResultPlaces : ℕ → List PlainIr → Type 0
HaveResultPlaces slots code = AllByRecursion (HasResultPlace slots) code
