-- Relations of a number to a known one. The known number is the second operand, so n < x is n + 1 <= x.
use Rattle.std.specs.Prelude.{ℕ, ◌+◌, ◌/◌, ◌%◌, ◌^◌, ◌==◌, nat_le, Bool, true, false, ◌&&◌, not, if◌then◌else◌, List, ◌++◌}
use Rattle.ec_asm.specs.declared.items.AsmItem.{AsmItem}
use Rattle.ec_asm.specs.declared.pieces.Location.{Location}
use Rattle.ec_select_numbers.specs.ByNumber.{compared_code}
use Rattle.ec_select_order.specs.declared.relations.Relation.{Relation}
use Rattle.ec_select_order.specs.declared.relations.Relation.TheVariants.{Less, NotLess, Equal, NotEqual}
use Rattle.ec_select_order.specs.Relations.{truth_in_code}
use Rattle.ec_select_operations.specs.declared.bounds.Bound.{Bound}
use Rattle.ec_select_operations.specs.Tests.{number_test}

-- the relation that holds where another one does not
abbrev pub opposite : Relation → Relation
opposite Less = NotLess
opposite NotLess = Less
opposite Equal = NotEqual
opposite NotEqual = Equal

abbrev pub bound : Relation → (signed : Bool) → (number : ℕ) → Bound
bound r signed number = record { relation = r; signed = signed; number = number }

-- ---- operands that are exchanged

-- the next number of 16 bytes
abbrev pub next_number : ℕ → ℕ
next_number number = (number + 1) % 256 ^ 16

-- the greatest number of so many bytes
abbrev pub is_greatest : (signed : Bool) → (bytes number : ℕ) → Bool
is_greatest signed bytes number =
    nat_le bytes 8 && number % 256 ^ bytes + 1 == (if signed then 256 ^ bytes / 2 else 256 ^ bytes)

-- n < x is n + 1 <= x. The greatest number is less than none, as no number without a sign is less than 0
abbrev pub exchanged_bound : Relation → (signed : Bool) → (bytes number : ℕ) → Bound
exchanged_bound r signed bytes number =
    if is_greatest signed bytes number then bound r false 0 else bound (opposite r) signed (next_number number)

-- ---- numbers without a sign

-- x < 1 is x == 0, and 1 <= x is x != 0
abbrev pub of_one : Relation → Bound
of_one Less = bound Equal false 0
of_one NotLess = bound NotEqual false 0
of_one Equal = bound Equal false 1
of_one NotEqual = bound NotEqual false 1

abbrev pub simplest : Bound → Bound
simplest b = if not b.signed && b.number == 1 then of_one b.relation else b

-- how the first operand stands to a known second one of so many bytes, in a relation of the operands or of them exchanged
abbrev pub bound_of : Relation → (exchanged signed : Bool) → (bytes number : ℕ) → Bound
bound_of r false signed bytes number = simplest (bound r signed number)
bound_of r true signed bytes number = simplest (exchanged_bound r signed bytes number)

-- ---- code

abbrev pub is_equality : Relation → Bool
is_equality Less = false
is_equality NotLess = false
is_equality Equal = true
is_equality NotEqual = true

-- whether a number of n bytes, which may be free, stands so: a flag of the relation tells it
abbrev pub bounded_code : (is_free : Bool) → Bound → Location → (n : ℕ) → List AsmItem
bounded_code free b p n = if b.number == 0 && is_equality b.relation then number_test free p n else compared_code p b.number n

-- and a truth value in register d
abbrev pub truth_by_code : (d : ℕ) → Bound → Location → (n : ℕ) → List AsmItem
truth_by_code d b p n = bounded_code false b p n ++ truth_in_code d b.relation b.signed
