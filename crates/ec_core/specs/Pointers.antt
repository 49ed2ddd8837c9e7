-- What operators and conversions do to pointers (ISO/IEC 9899:1999, 6.3.2.3, 6.5.6, 6.5.8 and 6.5.9; ISO/IEC TR
-- 18037:2008, 5.1). A pointer is null or an instance of an object with an offset. Beside it stands what is known of
-- that instance.
use Rattle.std.specs.Prelude.{ℕ, ◌==◌, Bool, true, false, not, ◌&&◌, if◌then◌else◌, ℤ, pos, ◌+ℤ◌, ◌-ℤ◌, ◌*ℤ◌, int_le}
use Rattle.std.specs.Prelude.{int_div, int_rem, unsigned_abs, Option, Some, None, Result, Ok, Err}
use Rattle.std.specs.Ordering.{int_eq, nat_cmp}
use Rattle.ec_space.specs.declared.space.SpaceId.{SpaceId}
use Rattle.ec_space.specs.Spaces.{holds}
use Rattle.ec_core.specs.declared.expressions.BinOp.{BinOp}
use Rattle.ec_core.specs.declared.expressions.BinOp.TheVariants.{Eq, Ne}
use Rattle.ec_core.specs.declared.values.ObjectPointer.{ObjectPointer}
use Rattle.ec_core.specs.declared.values.Referent.{Referent}
use Rattle.ec_core.specs.declared.values.Undefined.{Undefined}
use Rattle.ec_core.specs.declared.values.Undefined.TheVariants.{Narrowing, Unrelated, PointerUse, PointerRange}
use Rattle.ec_core.specs.Integers.{truth, compared}

abbrev pub Pointer : Type 0
Pointer = Option ObjectPointer

-- a use of a pointer to an object that is not live is undefined
abbrev pub is_usable : Pointer → Referent → Bool
is_usable None of = true
is_usable (Some p) of = of.live

abbrev pub used : {A : Type 0} → Bool → Result A Undefined → Result A Undefined
used usable r = if usable then r else Err PointerUse

-- ---- arithmetic

-- the pointer at another offset, which is from 0 to the object's size
abbrev pub displaced : ObjectPointer → ℕ → ℤ → Result Pointer Undefined
displaced p size at =
    if int_le (pos 0) at && int_le at (pos size)
    then Ok (Some (record { object = p.object; instance = p.instance; offset = unsigned_abs at }))
    else Err PointerRange

-- so many bytes further
abbrev pub moved : Pointer → Referent → ℤ → Result Pointer Undefined
moved None of bytes = Err PointerRange
moved (Some p) of bytes = used of.live (displaced p of.size (pos p.offset +ℤ bytes))

-- n elements further
abbrev pub sum_of_pointer : Pointer → Referent → ℤ → ℕ → Result Pointer Undefined
sum_of_pointer p of n element = moved p of (n *ℤ pos element)

abbrev pub same_instance : ObjectPointer → ObjectPointer → Bool
same_instance p q = p.object == q.object && p.instance == q.instance

-- so many bytes as elements
abbrev pub in_elements : ℕ → ℤ → Result ℤ Undefined
in_elements element n = if int_eq (int_rem n (pos element)) (pos 0) then Ok (int_div n (pos element)) else Err Unrelated

abbrev pub elements_between : ℕ → Pointer → Pointer → Result ℤ Undefined
elements_between element (Some p) (Some q) =
    if same_instance p q then in_elements element (pos p.offset -ℤ pos q.offset) else Err Unrelated
elements_between element (Some p) None = Err Unrelated
elements_between element None q = Err Unrelated

-- the elements from q to p, which point into one object
abbrev pub difference_of_pointers : ℕ → Pointer → Referent → Pointer → Referent → Result ℤ Undefined
difference_of_pointers element p of q into = used (is_usable p of && is_usable q into) (elements_between element p q)

-- ---- comparisons

-- pointers are ordered within one object only
abbrev pub ordered : BinOp → Pointer → Pointer → Result ℤ Undefined
ordered op (Some p) (Some q) = if same_instance p q then compared op (nat_cmp p.offset q.offset) else Err Unrelated
ordered op (Some p) None = Err Unrelated
ordered op None q = Err Unrelated

abbrev pub is_at_end : ObjectPointer → Referent → Bool
is_at_end p of = p.offset == of.size

-- pointers into different objects are unequal, and their comparison is undefined where exactly one of them stands at
-- its object's end
abbrev pub apart : Bool → Bool → Result Bool Undefined
apart true true = Ok false
apart true false = Err PointerUse
apart false true = Err PointerUse
apart false false = Ok false

abbrev pub equality : Pointer → Referent → Pointer → Referent → Result Bool Undefined
equality None of None into = Ok true
equality None of (Some q) into = Ok false
equality (Some p) of None into = Ok false
equality (Some p) of (Some q) into =
    if same_instance p q then Ok (p.offset == q.offset) else apart (is_at_end p of) (is_at_end q into)

abbrev pub as_truth : (Bool → Bool) → Result Bool Undefined → Result ℤ Undefined
as_truth f (Ok b) = Ok (truth (f b))
as_truth f (Err e) = Err e

abbrev pub compared_pointers : BinOp → Pointer → Referent → Pointer → Referent → Result ℤ Undefined
compared_pointers Eq p of q into = as_truth (λ b. b) (equality p of q into)
compared_pointers Ne p of q into = as_truth not (equality p of q into)
compared_pointers op p of q into = ordered op p q

-- the value of a comparison
abbrev pub comparison_of_pointers : BinOp → Pointer → Referent → Pointer → Referent → Result ℤ Undefined
comparison_of_pointers op p of q into = used (is_usable p of && is_usable q into) (compared_pointers op p of q into)

-- a pointer as a condition: whether it is not null
abbrev pub truth_of_pointer : Pointer → Referent → Result Bool Undefined
truth_of_pointer None of = Ok false
truth_of_pointer (Some p) of = used of.live (Ok true)

-- ---- conversions

-- a pointer into a space: it keeps its object and offset, and the space has the bank that the object is kept in. Null
-- stays null
abbrev pub pointer_in_space : SpaceId → Pointer → Referent → Result Pointer Undefined
pointer_in_space space None of = Ok None
pointer_in_space space (Some p) of = used of.live (if holds space of.home then Ok (Some p) else Err Narrowing)
