-- A pointer that stays in Z for a load, or waits there for a store.
use Rattle.std.proofs.Common.{◌≡◌, ◌≢◌, ℕ, zero, suc, ◌+◌, ◌*◌, ◌%◌, ◌^◌, ◌<◌, ◌≤◌, Bool, true, false, not, pos, Ok, Err}
use Rattle.std.proofs.Common.{List, [], ◌∷◌, ◌++◌, ◌&&◌, refl, sym, ap, ◌∙◌, subst, arith, append-nil, Some, None, Option}
use Rattle.std.specs.Prelude.{Result, ◌==◌, if◌then◌else◌, nat_le, slice_get, Contains}
use Rattle.std.proofs.lemmas.Bool.{eqb-true, leb-true, and_parts, false≢true}
use Rattle.std.proofs.lemmas.Bool.Decides.{nat_tests}
use Rattle.ec_space.specs.declared.Core.{Core}
use Rattle.ec_space.specs.declared.Core.TheVariants.{Small, Large}
use Rattle.ec_space.specs.declared.space.Bank.{Bank}
use Rattle.ec_space.specs.declared.space.Bank.TheVariants.{Flash as FlashBank, Data as DataBank}
use Rattle.ec_space.specs.declared.space.Home.{Home}
use Rattle.ec_space.specs.declared.space.Home.TheVariants.{Flash as FlashHome, Far as FarHome, Data as DataHome}
use Rattle.ec_space.specs.declared.space.SpaceId.{SpaceId}
use Rattle.ec_space.specs.declared.space.SpaceId.TheVariants.{Flash, FarFlash, Data, Generic}
use Rattle.ec_space.specs.Spaces.{bank_of, holds, reaches, width}
use Rattle.ec_avr.specs.declared.machine.Access.TheVariants.{Read as ByteRead}
use Rattle.ec_asm.specs.declared.items.AsmItem.{AsmItem}
use Rattle.ec_asm.specs.declared.pieces.Location.{Location}
use Rattle.ec_asm.specs.View.{View, Flags, pair}
use Rattle.ec_asm.specs.Change.{Env, Own}
use Rattle.ec_asm.specs.Items.{HasAt, block, code_steps}
use Rattle.ec_asm.specs.Pieces.{StandsFrom, Outside, value, copy_log, copy_code}
use Rattle.ec_asm.specs.PieceLaws.{HoldsNumbers, IsReadFirst}
use Rattle.ec_asm.proofs.Hoare.{has_parts, block_goes}
use Rattle.ec_core.specs.declared.values.ObjectPointer.{ObjectPointer}
use Rattle.ec_core.specs.declared.values.Undefined.{Undefined}
use Rattle.ec_core.specs.declared.values.Value.{Value}
use Rattle.ec_core.specs.declared.values.Value.TheVariants.{Pointer}
use Rattle.ec_core.specs.Accesses.{read, leaf_of, referent_of}
use Rattle.ec_core.specs.Layout.{size_of_type}
use Rattle.ec_core.specs.Plain.{PlainProgram}
use Rattle.ec_core.specs.Pointers.{Pointer as PointerValue, moved}
use Rattle.ec_core.specs.State.{State, ObjectState, Outcome, worked, told, next, given}
use Rattle.ec_core.specs.Valid.{IsAddressable}
use Rattle.ec_ir.specs.declared.operations.Temp.{Temp}
use Rattle.ec_ir.specs.Costs.{op_steps}
use Rattle.ec_ir.specs.Meaning.{Mach, machine, object_access, Frame as Call}
use Rattle.ec_ir.specs.Operations.{PlainIr, field, load_at, load_object, PlainIrFunction}
use Rattle.ec_ir.specs.Temporaries.{Content, bits, points, content_of, with_temp, with_content}
use Rattle.ec_ir.specs.Valid.{called_in}
use Rattle.ec_select_pointers.specs.Accesses.{point_code}
use Rattle.ec_select_pointers.specs.AccessLaws.{each, Brings, LeavesZ, AreData, AreFlash, data_at}
use Rattle.ec_select_pointers.specs.FetchedLaws.{IsFetched, RunFreely, flagged}
use Rattle.ec_select_pointers.specs.Fetched.{fetch_code, load_member_code, load_further_code, load_tagged_code}
use Rattle.ec_select_pointers.proofs.InZ.{pointers_are_fetched, z_is_set, members_are_loaded, fetches_are_short, members_are_short}
use Rattle.ec_select_pointers.proofs.InZ.{point_is_short, further_is_loaded, further_is_short, freely}
use Rattle.ec_select_operations.specs.declared.families.Told.{Told}
use Rattle.ec_select_operations.specs.declared.families.Told.TheVariants.{InZ, Index}
use Rattle.ec_select_operations.specs.Code.{Linkage, is_small, goes_by_z, is_in_reach, is_load_by_z, is_used_by_z, from_z_code}
use Rattle.ec_select_operations.specs.Code.{told_first, loaded_code, object_code, further_code, load_index_code, by_kind, is_index}
use Rattle.ec_select_operations.specs.Code.{is_index_alone, index_behind}
use Rattle.ec_select_operations.specs.Homes.{HasHome}
use Rattle.ec_select_operations.specs.Needs.{Need, Facts, facts_of, needs, wanted, at_least, without, IsLiveBy, loaded_bytes}
use Rattle.ec_select_operations.specs.Places.{kind_in, object_location, ObjectLeaf}
use Rattle.ec_select_operations.specs.Pointers.{home_of, tag_of, kept_in, is_table, has_tables, address_number, IsPointed}
use Rattle.ec_select_operations.specs.Pointers.{IsPointerIn}
use Rattle.ec_select_operations.proofs.Kept.{kept_there}
use Rattle.ec_select_functions.specs.Covered.{HasScalarAt, IsInto}
use Rattle.ec_select_functions.specs.Relation.{Matches, HoldsContent}
use Rattle.ec_select_functions.proofs.Accesses.{leaf_with, leaf_content, leaf_bytes, leaf_stands, after_read, was_read, load_brings}
use Rattle.ec_select_functions.proofs.Accesses.{bytes_of, seen_number, storage_held, told_digit, read_log, recorded_work}
use Rattle.ec_select_functions.proofs.Checked.{checked_on, performed, checked}
use Rattle.ec_select_functions.proofs.Follow.{Follows, after, stay}
use Rattle.ec_select_functions.proofs.Going.{IsRunning, AreReady, Ready as IsReady, items as items_of, items_told as told_items}
use Rattle.ec_select_functions.proofs.Going.{own_told as told_own, code_of as code_from, at_use_behind as used_behind}
use Rattle.ec_select_functions.proofs.Going.{goes_past as code_goes_past}
use Rattle.ec_select_functions.proofs.Match.{at_width, least_here, least_other, without_other, written_wide, kept_left}
use Rattle.ec_select_functions.proofs.MemorySteps.{location_is, moved_further, IsFurther, some_bytes, pointer_size, low_of_number}
use Rattle.ec_select_functions.proofs.Moves.{Wide}
use Rattle.ec_select_functions.proofs.PointerNumbers.{small_end, near_end}
use Rattle.ec_select_functions.proofs.Pointed.{addressable_kind, pointer_parts, pointed_below, home_of_object, room_of}
use Rattle.ec_select_functions.proofs.Reached.{table_among, near_flash, IsThere, leaf_there, Reaches, access_to, from_access, from_pointer}
use Rattle.ec_select_functions.proofs.Reached.{from_read, leaves_z}
use Rattle.ec_select_functions.proofs.Setting.{Setting}
use Rattle.ec_select_functions.proofs.Truth.{held_at, content_of_held, bytes_of_held}
use Rattle.ec_select_functions.proofs.Wrapped.{kept_below}
use Rattle.std.proofs.Common.{inl, inr, ⊎_elim, ℤ, min, ◌||◌, ◌-◌, ◌/◌}
use Rattle.std.specs.Prelude.{◌⊎◌, nat_lt, get_or, slice_index, max, IsSomeAnd}
use Rattle.std.proofs.lemmas.Bool.{ne_eqb, cases_eq, cases_lt, eq-eqb, le-leb, le-ltb}
use Rattle.ec_select_operations.specs.Places.{IsClear}
use Rattle.ec_select_operations.specs.Code.{wanted_bytes, banked_code, conversion_code, move_code, changed_by_code, own_code, is_apart}
use Rattle.ec_select_operations.specs.Code.{is_on_integers, family_of, is_in_high, Ahead, look, waits, waits_for, known_left, soon}
use Rattle.ec_select_operations.specs.Code.{wanted_behind, is_store_by_z, adds_number, stored_code, is_from_data}
use Rattle.ec_select_bytes.specs.Values.{constant_code, widen_code, byte_of}
use Rattle.ec_ir.specs.Operations.{binary_op, conversion, constant, store_at}
use Rattle.ec_core.specs.Plain.{integer, fixed, void, pointer as pointer_to, array, struct, PlainType, PlainObject}
use Rattle.ec_core.specs.declared.expressions.BinOp.{BinOp}
use Rattle.ec_core.specs.declared.expressions.BinOp.TheVariants.{Add, Sub}
use Rattle.ec_asm.specs.declared.pieces.Operator.TheVariants.{Sum, Difference}
use Rattle.ec_asm.specs.declared.pieces.Operator.{Operator}
use Rattle.ec_fx.specs.declared.numbers.Mode.{Mode}
use Rattle.ec_ir_known.specs.declared.known.RightNumber.{RightNumber}
use Rattle.ec_select_operations.specs.Needs.{is_sum_or_difference, is_whole, is_fixed, moved_wanted, first_wanted, second_wanted}
use Rattle.ec_select_operations.specs.Needs.{masked_bytes, joined_bytes, compared_bytes, number_taken, right_needed, right_taken}
use Rattle.ec_select_operations.specs.Needs.{takes_whole, moves_pointer, pointer_wanted, is_number}
use Rattle.ec_select_operations.specs.Pointers.{is_pointer}
use Rattle.ec_select_operations.specs.declared.families.Family.TheVariants.{Combined}
use Rattle.ec_select_functions.proofs.Taken.{TakenNumber, as_known, is_changed}
use Rattle.ec_select_functions.proofs.ByNumber.{right_held, changed_form, number_matches}
use Rattle.ec_ir_known.specs.Known.{known_at, takes_alone}
use Rattle.ec_select_fixed.specs.Types.{IsFixedType}
use Rattle.ec_select_functions.specs.Covered.{IsBinary, AreIntegers, AreConverted, IsFixedConversion, IsPointerConversion, IsFixedBinary}
use Rattle.ec_select_functions.specs.Covered.{IsPointerBinary}
use Rattle.ec_select_operations.specs.Routines.{HasRoutineOf, body_by}
use Rattle.ec_select_routines.specs.Laws.{HasRoutine}
use Rattle.ec_select_functions.proofs.ByRoutine.{conversions_have_none}
use Rattle.ec_select_routines.specs.Codes.{binary_body}
use Rattle.ec_select_numbers.specs.ByNumber.{put_code, put_pair_code, changed_code, changed_byte, each_changed, changed_pair}
use Rattle.ec_select_numbers.specs.ByNumber.{rest_changed, is_neutral, immediate, negated}
use Rattle.ec_select_numbers.specs.declared.operators.ByNumber.TheVariants.{Subtract}
use Rattle.ec_asm.proofs.Bytes.{put_other}
use Rattle.ec_asm.proofs.Hoare.{chain_holds, straight-append, steps-append, block-append}
use Rattle.ec_asm.specs.declared.pieces.Location.TheVariants.{InRegisters, InMemory}
use Rattle.ec_ir.specs.Costs.{conversion_words, binary_words, is_bitwise, is_integer}
use Rattle.ec_core.specs.Operators.{same_type}
use Rattle.ec_core.specs.Words.{widest, operation_words}
use Rattle.ec_core.specs.Layout.{scalar_size}
use Rattle.ec_asm.proofs.Compared.{copy_holds}
use Rattle.ec_select_functions.proofs.Accesses.{load_matches, store_brings, after_write}
use Rattle.ec_select_functions.proofs.Moves.{copy_straight, copy_steps, move_straight, move_steps, move_brings, stands_less}
use Rattle.ec_asm.specs.Items.{all_straight}
use Rattle.ec_select_functions.proofs.Numbers.{gives_of}
use Rattle.ec_select_functions.proofs.Computed.{result_of, constant_matches}
use Rattle.ec_select_functions.proofs.Extended.{conversion_matches}
use Rattle.ec_select_functions.proofs.Follow.{from_number}
use Rattle.ec_ir.specs.Temporaries.{number_of_bytes, low_bytes, value_of_type}
use Rattle.ec_core.specs.Integers.{wrapped}
use Rattle.ec_select_functions.proofs.Wrapped.{low_of_wrapped}
use Rattle.ec_select_functions.proofs.Match.{wanted_most, whole, weaker, read_first}
use Rattle.ec_select_functions.proofs.Pointed.{typed_leaf}
use Rattle.ec_select_functions.specs.Relation.{HoldsLeaf}
use Rattle.ec_select_functions.proofs.Reached.{from_no_access, from_put}
use Rattle.ec_ir.specs.Meaning.{put, is_kept}
use Rattle.ec_asm.specs.declared.items.AsmItem.TheVariants.{Plain}
use Rattle.ec_select_pointers.proofs.InZ.{members_are_stored, members_keep_z, stores_are_short}
use Rattle.ec_select_pointers.specs.Fetched.{store_member_code}

-- on the core `small` alone an address of flash has two bytes
small_core : (core : Core) → is_small core ≡ true → core ≡ Small
small_core Small q = refl
small_core Large q = cc

-- a load that is from the data bank wherever the pointer points is never from the flash bank
never_flash : (tables : Bool) (space : SpaceId) → is_from_data tables space ≡ true → reaches space FlashBank ≡ true
    → tables ≡ true → ⊥
never_flash tables Data near within some = cc
never_flash true Generic near within some = cc
never_flash false Generic near within some = cc
never_flash tables Flash near within some = cc
never_flash tables FarFlash near within some = cc

-- and its code by Z is that of the data bank
from_data_code : (tables : Bool) (space : SpaceId) (offset : ℕ) (to : Location) (n : ℕ) → is_from_data tables space ≡ true
    → from_z_code tables space offset to n ≡ load_member_code offset to n
from_data_code tables Data offset to n near = refl
from_data_code true Generic offset to n near = absurd (false≢true near)
from_data_code false Generic offset to n near = refl
from_data_code tables Flash offset to n near = absurd (false≢true near)
from_data_code tables FarFlash offset to n near = absurd (false≢true near)

-- none of the bytes of a content
no_bytes : (p : PlainProgram) (place : ℕ → ℕ) (f g : ℕ → ℕ) (a b bytes : ℕ) (c : Content) → HoldsContent p place f a 0 bytes c
    → HoldsContent p place g b 0 bytes c
no_bytes p place f g a b bytes (bits low) h = h
no_bytes p place f g a b bytes (points q) h = h

without_here : (at : ℕ) (need : Need) → without at need at ≡ 0
without_here at need = grind (arith, nat_tests)

-- the same address further on, modulo 65,536
further_on : (z offset by a : ℕ) → (z + offset) % 65536 ≡ a % 65536 → (z + (offset + by)) % 65536 ≡ (a + by) % 65536
further_on z offset by a q = omega (arith, q)

pointer_is : (a b : ObjectPointer) → points a ≡ points b → a ≡ b
pointer_is a b q = cc

-- a register that is none of R26 to R31
not_work : (k : ℕ) → Outside 26 6 k → (r : ℕ) → 26 ≤ r → r < 32 → k ≢ r
not_work k o r high low q = let z = o (omega (arith, q, high)) in omega (arith, z, q, low)

not_true : (b : Bool) → not b ≡ true → b ≡ false
not_true true q = cc
not_true false q = refl

without_less : (at u : ℕ) (need : Need) → without at need u ≤ need u
without_less at u need = grind (arith, nat_tests)

data_home : (home : Home) → is_table home ≡ false → bank_of home ≡ DataBank
data_home FlashHome q = absurd cc
data_home FarHome q = absurd cc
data_home DataHome q = refl

none_wanted : (t : Temp) (need : Need) → wanted (without t.at need) t ≡ 0
none_wanted t need = let z = without_here t.at need in omega (arith, z)

-- ---- what leaves Z alone

-- a register that is none of a row which is clear of work registers
work_outside_of : (a n j : ℕ) → 26 ≤ j → j < 32 → IsClear a n → Outside a n j
work_outside_of a n j from low clear q =
    ⊎_elim (λ (r : a < 26). let z = clear.high.left r in omega (arith, z, from))
    (λ (r : 26 ≤ a). let z = clear.high.right r in absurd (omega (arith, z, q, low))) (cases_lt a 26)

-- of another place as much is needed
wanted_waiting : (t : Temp) (at_place : ℕ) (need : Need) → t.at ≢ at_place → wanted (without at_place need) t ≡ wanted need t
wanted_waiting t at_place need other =
    ap (λ (b : Bool). min (if b then 0 else need t.at) t.bytes) (ne_eqb t.at at_place other)

-- what is needed behind an operation that wrote t, but of the place of the pointer that waits
fewer_waiting : (t : Temp) (at_place : ℕ) (need rest : Need) → ((u : ℕ) → u ≢ at_place → without t.at rest u ≤ need u)
    → (u : ℕ) → u ≢ t.at → without at_place rest u ≤ need u
fewer_waiting t at_place need rest more u d =
    ⊎_elim
    (λ (q : u ≡ at_place). let none : without at_place rest u ≡ 0 = ap (without at_place rest) q ∙ without_here at_place rest in
    omega (arith, none))
    (λ (q : u ≢ at_place).
    let a = more u q in
    let b = without_other t.at u rest d in
    let c = without_less at_place u rest in
    omega (arith, a, b, c))
    (cases_eq u at_place)

needed_waiting : (t : Temp) (at_place : ℕ) (need rest : Need) → ((u : ℕ) → u ≢ at_place → without t.at rest u ≤ need u)
    → (u : ℕ) → without t.at (without at_place rest) u ≤ need u
needed_waiting t at_place need rest more u =
    ⊎_elim
    (λ (q : u ≡ at_place).
    let none : without at_place rest u ≡ 0 = ap (without at_place rest) q ∙ without_here at_place rest in
    let less = without_less t.at u (without at_place rest) in
    omega (arith, none, less))
    (λ (q : u ≢ at_place).
    let a = more u q in
    let same : without at_place rest u ≡ rest u = ap (λ (b : Bool). if b then 0 else rest u) (ne_eqb u at_place q) in
    let both : without t.at (without at_place rest) u ≡ without t.at rest u =
    ap (λ x. if u == t.at then 0 else x) same in
    omega (arith, a, both))
    (cases_eq u at_place)

operand_waiting : (t a : Temp) (at_place w w1 : ℕ) (need rest : Need) → w1 ≡ w → a.at ≢ at_place
    → ((u : ℕ) → u ≢ at_place → at_least a.at w (without t.at rest) u ≤ need u)
    → (u : ℕ) → at_least a.at w1 (without t.at (without at_place rest)) u ≤ need u
operand_waiting t a at_place w w1 need rest is apart more u =
    ⊎_elim
    (λ (q : u ≡ at_place).
    let none : without at_place rest u ≡ 0 = ap (without at_place rest) q ∙ without_here at_place rest in
    let less = without_less t.at u (without at_place rest) in
    let here : at_least a.at w1 (without t.at (without at_place rest)) u ≡ without t.at (without at_place rest) u =
    ap (λ (b : Bool). if b then max (without t.at (without at_place rest) u) w1 else without t.at (without at_place rest) u)
    (ne_eqb u a.at (λ r. apart (sym r ∙ q))) in
    omega (arith, none, less, here))
    (λ (q : u ≢ at_place).
    let known = more u q in
    let same : without at_place rest u ≡ rest u = ap (λ (b : Bool). if b then 0 else rest u) (ne_eqb u at_place q) in
    let both : without t.at (without at_place rest) u ≡ without t.at rest u = ap (λ x. if u == t.at then 0 else x) same in
    let all : at_least a.at w1 (without t.at (without at_place rest)) u ≡ at_least a.at w (without t.at rest) u =
    ap (λ x. if u == a.at then max x w1 else x) both
    ∙ ap (λ x. if u == a.at then max (without t.at rest u) x else without t.at rest u) is in
    omega (arith, known, all))
    (cases_eq u at_place)

-- a known number that is subtracted from registers that an immediate reaches
subtract_keeps : (e : Env) (q : Location) (number n b j : ℕ) (v : View) → is_in_high q ≡ true → StandsFrom e q n b Own → Outside b n j
    → (block e (changed_code Subtract q number n) v).at j ≡ v.at j
subtract_keeps e (InMemory o k) number n b j v high s outside = absurd (false≢true high)
subtract_keeps e (InRegisters r) number n b j v high s outside =
    subst (λ (xs : List AsmItem). (block e xs v).at j ≡ v.at j) (sym each)
    (chain_holds e (λ i. changed_byte Subtract (InRegisters r) (byte_of number i) i) (λ i (w : View). w.at j ≡ v.at j) n step v refl)
  where
    -- such registers are no pair that is changed in R30 and R31
    each : changed_code Subtract (InRegisters r) number n ≡ each_changed Subtract (InRegisters r) number n
    each =
        let from = leb-true 16 r high in
        ap (λ (x : Bool). if (x && (r % 2 == 0 && nat_le 2 n))
        && (not (is_neutral Subtract (byte_of number 0)) && not (is_neutral Subtract (byte_of number 1)))
        then changed_pair Subtract r number ++ rest_changed Subtract r number (n - 2)
        else each_changed Subtract (InRegisters r) number n) (le-ltb r 16 from)

    one : (i : ℕ) (w : View) → j ≢ r + i → w.at j ≡ v.at j
        → (block e (Plain (immediate Subtract i (r + i) (byte_of number i)) ∷ []) w).at j ≡ v.at j
    one zero w off h = put_other w.at (r + 0) _ j off ∙ h
    one (suc i) w off h = put_other w.at (r + suc i) _ j off ∙ h

    step : (i : ℕ) → i < n → (w : View) → w.at j ≡ v.at j
        → (block e (changed_byte Subtract (InRegisters r) (byte_of number i) i) w).at j ≡ v.at j
    step i l w h =
        let at : r + i ≡ b + i = s.at i l in
        let from = leb-true 16 r high in
        let reach : nat_le 16 (r + i) ≡ true = le-leb 16 (r + i) (omega (arith, from)) in
        let off : j ≢ r + i = λ q. (let x = outside (omega (arith, q, at)) in omega (arith, x, q, at, l)) in
        rw reach (one i w off h)

-- no bytes of a number are put
none_of_two : (x z : Bool) → (x && (z && false)) ≡ false
none_of_two true true = refl
none_of_two true false = refl
none_of_two false z = refl

none_put : (q : Location) (number : ℕ) → put_code q number 0 ≡ []
none_put (InMemory o k) number = refl
none_put (InRegisters r) number =
    ap (λ (x : Bool). if x then put_pair_code r number ++ constant_code (InRegisters (r + 2)) (number / 65536) (0 - 2)
    else constant_code (InRegisters r) number 0) (none_of_two (nat_lt r 16) (r % 2 == 0))

-- a sum or a difference
abbrev takes_off : Operator → Bool
takes_off Sum = true
takes_off Difference = true
takes_off o = false

takes_off_keeps : (e : Env) (o : Operator) (q : Location) (number n b j : ℕ) (v : View) → takes_off o ≡ true → is_in_high q ≡ true
    → StandsFrom e q n b Own → Outside b n j → (block e (changed_by_code o q number n) v).at j ≡ v.at j
takes_off_keeps e Sum q number n b j v off high s outside = subtract_keeps e q (negated number) n b j v high s outside
takes_off_keeps e Difference q number n b j v off high s outside = subtract_keeps e q number n b j v high s outside
takes_off_keeps e o q number n b j v off high s outside = absurd (false≢true off)

-- the steps that a conversion and an operator may take
conversion_room : (signed from : Bool) (bytes other n : ℕ) → n ≤ bytes
    → 2 * n ≤ 64 * conversion_words (integer signed bytes) (integer from other)
conversion_room signed from bytes other n l = by_kind (same_type (integer signed bytes) (integer from other))
  where
    wide : bytes ≤ widest (integer signed bytes ∷ integer from other ∷ [])
    wide = omega arith

    by_kind : (x : Bool)
        → 2 * n ≤ 64 *
        (if x || true then 10 * widest (integer signed bytes ∷ integer from other ∷ []) else 100 + 40 * widest
        (integer signed bytes ∷ integer from other ∷ []))
    by_kind true = omega (arith, wide, l)
    by_kind false = omega (arith, wide, l)

sum_room : (op : BinOp) (ty aty bty : PlainType) (n : ℕ) → n ≤ scalar_size ty → 5 * n ≤ 64 * binary_words op ty aty bty
sum_room op ty aty bty n l = by_kind (is_bitwise op && is_integer ty)
  where
    wide : n ≤ widest (ty ∷ aty ∷ bty ∷ [])
    wide = omega (arith, l)

    by_kind : (x : Bool)
        → 5 * n ≤ 64 * (if x then 10 * widest (ty ∷ aty ∷ bty ∷ []) else operation_words (widest (ty ∷ aty ∷ bty ∷ [])))
    by_kind true = omega (arith, wide)
    by_kind false = omega (arith, wide)

-- what is known of a second operand is a number, which is added or subtracted
record IsAdded (known : Option RightNumber) (op : BinOp) : Type 0 where
  number : TakenNumber
  is : known ≡ Some (as_known number)
  sum : is_sum_or_difference op ≡ true

numbers_added : (known : Option RightNumber) (op : BinOp) → adds_number known op ≡ true → IsAdded known op
numbers_added None op q = absurd (false≢true q)
numbers_added (Some k) op q = by_number k.number refl (and_parts (is_number k.number) (is_sum_or_difference op) q)
  where
    with_number : Option ℤ → RightNumber
    with_number x = record { number = x; in_byte = k.in_byte }

    by_number : (x : Option ℤ) → k.number ≡ x → (is_number k.number ≡ true) × (is_sum_or_difference op ≡ true)
        → IsAdded (Some k) op
    by_number None r parts = absurd (false≢true (ap is_number (sym r) ∙ parts.0))
    by_number (Some number) r parts = record {
      number = record { number = number; in_byte = k.in_byte };
      is = ap (λ (x : Option ℤ). Some (with_number x)) r;
      sum = parts.1;
    }

-- then all bytes of the first operand are needed that are needed of the result
pointer_more : (w : ℕ) → w ≤ pointer_wanted w
pointer_more zero = omega arith
pointer_more (suc w) = omega arith

first_more : (k : TakenNumber) (op : BinOp) (moved apart : Bool) (bytes w : ℕ) → apart ≡ false → is_sum_or_difference op ≡ true
    → w ≤ moved_wanted moved w (first_wanted apart op (compared_bytes (number_taken (Some (as_known k)) apart op) bytes)
    (masked_bytes (number_taken (Some (as_known k)) apart op) op w))
first_more k op true apart bytes w q sum = pointer_more w
first_more k op moved true bytes w q sum = absurd (false≢true (sym q))
first_more k Add false false bytes w q sum = omega arith
first_more k Sub false false bytes w q sum = omega arith
first_more k op false false bytes w q sum = absurd (false≢true sum)

right_more : (x : Option RightNumber) (place n : ℕ) (need : Need) (u : ℕ) → need u ≤ right_needed x place n need u
right_more None place n need u = least_other place n u need
right_more (Some k) place n need u = omega arith

-- at least n bytes of a place, of what is not less
least_more : (at n k : ℕ) (a b : Need) (u : ℕ) → n ≤ k → a u ≤ b u → at_least at n a u ≤ at_least at k b u
least_more at n k a b u l m = by_test (u == at)
  where
    by_test : (x : Bool) → (if x then max (a u) n else a u) ≤ (if x then max (b u) k else b u)
    by_test true = omega (arith, l, m)
    by_test false = m

fixed_is_whole : (x : PlainType) → IsFixedType x → is_whole x ≡ true
fixed_is_whole (fixed k s) h = refl
fixed_is_whole (integer s n) h = absurd h
fixed_is_whole void h = absurd h
fixed_is_whole (pointer_to s k z) h = refl
fixed_is_whole (array of n) h = absurd h
fixed_is_whole (struct n) h = absurd h

pointer_is_whole : (x : PlainType) → is_pointer x ≡ true → is_whole x ≡ true
pointer_is_whole (pointer_to s k z) h = refl
pointer_is_whole (fixed k s) h = refl
pointer_is_whole (integer s n) h = absurd (false≢true h)
pointer_is_whole void h = absurd (false≢true h)
pointer_is_whole (array of n) h = absurd (false≢true h)
pointer_is_whole (struct n) h = absurd (false≢true h)

or_true : (b : Bool) → (b || true) ≡ true
or_true true = refl
or_true false = refl

one_is_whole : (x z : PlainType) → IsFixedType x ⊎ IsFixedType z → (is_whole x || is_whole z) ≡ true
one_is_whole x z f =
    ⊎_elim (λ (q : IsFixedType x). ap (λ b. b || is_whole z) (fixed_is_whole x q))
    (λ (q : IsFixedType z). ap (λ b. is_whole x || b) (fixed_is_whole z q) ∙ or_true (is_whole x)) f

pointers_are_whole : (x z : PlainType) → (is_pointer x || is_pointer z) ≡ true → (is_whole x || is_whole z) ≡ true
pointers_are_whole x z q = by_first (is_pointer x) refl q
  where
    by_first : (b : Bool) → is_pointer x ≡ b → (b || is_pointer z) ≡ true → (is_whole x || is_whole z) ≡ true
    by_first true r h = ap (λ b. b || is_whole z) (pointer_is_whole x r)
    by_first false r h = ap (λ b. is_whole x || b) (pointer_is_whole z h) ∙ or_true (is_whole x)

-- an operator that is a sum or a difference of integers has no routine
sums_have_none : (e : Env) (slots l : ℕ) (op : BinOp) (ty : PlainType) (mode : Mode) (t a : Temp) (aty : PlainType) (b : Temp)
    (bty : PlainType) → is_sum_or_difference op ≡ true → IsBinary (family_of op) slots t a b ty aty bty
    → HasRoutineOf e l (binary_op op ty mode t a aty b bty) → ⊥
sums_have_none e slots l Add ty mode t a aty b bty sum k routine =
    let both : (is_fixed aty || is_fixed bty) ≡ false = ap (λ x. is_fixed x || is_fixed bty) k.left_type ∙ ap is_fixed k.right_type in
    subst (λ x. IsSomeAnd (body_by x (Some (binary_body Add ty aty bty mode)) None) (HasRoutine e l)) both routine
sums_have_none e slots l Sub ty mode t a aty b bty sum k routine =
    let both : (is_fixed aty || is_fixed bty) ≡ false = ap (λ x. is_fixed x || is_fixed bty) k.left_type ∙ ap is_fixed k.right_type in
    subst (λ x. IsSomeAnd (body_by x (Some (binary_body Sub ty aty bty mode)) None) (HasRoutine e l)) both routine
sums_have_none e slots l op ty mode t a aty b bty sum k routine = false≢true sum

-- a use of a pointer at a place, and what it tells
record LoadsByZ (core : Core) (tables tagged : Bool) (place offset : ℕ) (to ptr : Temp) (space : SpaceId) : Type 0 where
  from : ptr.at ≡ place
  over : to.at ≡ place
  by_z : goes_by_z core tables tagged space ≡ true
  reach : is_in_reach offset to.bytes ≡ true

loads_by_z : (core : Core) (tables tagged : Bool) (place offset : ℕ) (to ptr : Temp) (space : SpaceId)
    → is_load_by_z core tables tagged place offset (Some (load_at to ptr space)) ≡ true
    → LoadsByZ core tables tagged place offset to ptr space
loads_by_z core tables tagged place offset to ptr space q =
    let by = goes_by_z core tables tagged space in
    let a = and_parts (ptr.at == place) (to.at == place && (by && is_in_reach offset to.bytes)) q in
    let b = and_parts (to.at == place) (by && is_in_reach offset to.bytes) a.1 in
    let c = and_parts by (is_in_reach offset to.bytes) b.1 in
    record { from = eqb-true ptr.at place a.0; over = eqb-true to.at place b.0; by_z = c.0; reach = c.1 }

module _ (p : PlainProgram) (functions : List PlainIrFunction) (e : Env) (slots : ℕ) (home : Temp → Location)
    (base : Temp → ℕ) (place : ℕ → ℕ) (y : Setting p e slots home base place) (labels : ℕ → Need) (all : List PlainIr)
    (end : ℕ) (results : ℕ → ℕ) (me : ℕ) (link : Linkage) (stack : List Call) where
  -- what the code of the function is made by
  abbrev at : Facts
  at = facts_of (has_tables p.objects) labels all

  abbrev tables : Bool
  tables = has_tables p.objects

  abbrev M : Need → Mach → View → Type 0
  M need m v = Matches p e y.inputs slots base place y.aside y.stands y.active y.called need m v

  abbrev G : (n w pc : ℕ) → View → Outcome Value → Type 0
  G n w pc v o = Follows p place e n w pc v o

  abbrev items : List PlainIr → List AsmItem
  items code = items_of p functions e slots home base place y labels all end results me link stack code

  abbrev items_told : Option Told → List PlainIr → List AsmItem
  items_told told code = told_items p functions e slots home base place y labels all end results me link stack told code

  abbrev own_told : Option Told → PlainIr → List PlainIr → List AsmItem
  own_told told i rest = told_own p functions e slots home base place y labels all end results me link stack told i rest

  abbrev Ready : (pc : ℕ) (rest : List PlainIr) → Type 0
  Ready pc rest = IsReady p functions e slots home base place y labels all end results me link stack pc rest

  abbrev R : ℕ → List PlainIr → Mach → Outcome Value
  R n rest m = checked_on functions p y.inputs n all stack rest m

  abbrev P : ℕ → PlainIr → List PlainIr → Mach → Outcome Value
  P n i rest m = performed functions p y.inputs n all stack i rest m

  -- what is shown from any operation on, for fewer operations that count
  abbrev pub Fewer : ℕ → Type 0
  Fewer n =
      (j : ℕ) → j < n → (pc : ℕ) (rest : List PlainIr) (m : Mach) (v : View) → Ready pc rest → M (needs at rest) m v
      → G j m.state.work pc v (R j rest m)

  abbrev begun : PlainIr → Mach → State
  begun i m = worked (op_steps i) m.state

  -- operations that are left
  pub record Left (rest : List PlainIr) : Type 0 where
    pub covered : AreReady p e y.cells results me y.called slots link all rest
    pub live : IsLiveBy at rest
    pub inside : (b : ℕ) → Contains (called_in rest) b → Contains (called_in all) b
    pub here : IsRunning p functions e slots home base place y labels all end results me link stack

  -- the address in the pointer that the temporary at a place holds is so far from Z, and its tag may stand in R0
  pub record IsInZ (tagged : Bool) (at_place offset : ℕ) (m : Mach) (v : View) : Type 0 where
    pub is : (bytes : ℕ) (q : ObjectPointer) → m.temps at_place ≡ Some (record { bytes = bytes; content = points q })
        → (pair v.at 30 + offset) % 65536 ≡ (place q.object + q.offset) % 65536
    pub tag : tagged ≡ true → e.core ≡ Small → (q : ObjectPointer)
        → m.temps at_place ≡ Some (record { bytes = 3; content = points q }) → v.at 0 ≡ tag_of (home_of p q.object)

  stays : (n w w1 pc : ℕ) (v : View) (o : Outcome Value) → w ≤ w1 → G n w1 pc v o → G n w pc v o
  stays n w w1 pc v o most f =
      after p place e 0 n n w w1 pc pc v v o (record { by = refl }) (omega arith) (omega (arith, most)) f

  -- ---- the load

  -- how a load goes on
  abbrev load_on : ℕ → List PlainIr → Temp → Mach → Value → State → Outcome Value
  load_on n rest t m x s1 = R n rest (machine (with_temp t x m.temps) s1)

  -- what a load by Z brings to a temporary
  abbrev LoadsZ : (bank : Bank) → (from pc mid : ℕ) → View → Temp → Type 0
  LoadsZ bank from pc mid v to =
      RunFreely e 1 (6 + 2 * to.bytes) pc v mid (base to) to.bytes (λ i. bytes_of p e slots home base place y bank v (from + i))
      (each (ByteRead bank) from (λ i. bytes_of p e slots home base place y bank v (from + i)) to.bytes)

  -- an address that has two bytes
  z_is : (x from n : ℕ) → x ≡ from % 65536 → from + n ≤ 65536 → 1 ≤ n → x ≡ from
  z_is x from n q l some = q ∙ kept_below from 65536 (omega (arith, l, some))

  leaves : (t : Temp) → HasHome slots t → LeavesZ (base t) t.bytes
  leaves t it = leaves_z (base t) t.bytes t.bytes (omega arith) (y.layout.temps_work t it)

  -- from the data bank
  members_loaded : (to : Temp) (offset from pc mid : ℕ) (v : View) → HasHome slots to
      → (pair v.at 30 + offset) % 65536 ≡ from % 65536 → AreData e from to.bytes → IsReadFirst from (base to) to.bytes
      → HasAt e (load_member_code offset (home to) to.bytes) pc mid → LoadsZ DataBank from pc mid v to
  members_loaded to offset from pc mid v it is there far stands =
      let code = load_member_code offset (home to) to.bytes in
      let form = members_are_short offset (home to) to.bytes in
      let some = it.some in
      let least = form.1.0 in
      let most = form.1.1 in
      let z = z_is ((pair v.at 30 + offset) % 65536) from to.bytes is there.room some in
      record {
        steps = code_steps code;
        at_least = omega (arith, least, some);
        at_most = omega (arith, most);
        last = block e code v;
        goes = block_goes e code pc mid v form.0 stands;
        brings = freely v (block e code v) (base to) to.bytes (data_at v from) (each (ByteRead DataBank) from (data_at v from) to.bytes)
            (members_are_loaded e (home to) offset to.bytes (base to) from v (y.layout.temps_at to it) (leaves to it) z there far);
      }

  -- from flash
  further_loaded : (to : Temp) (offset from pc mid : ℕ) (v : View) → HasHome slots to → HoldsNumbers v
      → (pair v.at 30 + offset) % 65536 ≡ from % 65536 → AreFlash e from to.bytes
      → HasAt e (load_further_code offset (home to) to.bytes) pc mid → LoadsZ FlashBank from pc mid v to
  further_loaded to offset from pc mid v it numbers is there stands =
      let code = load_further_code offset (home to) to.bytes in
      let form = further_is_short offset (home to) to.bytes in
      let some = it.some in
      let least = form.1.0 in
      let most = form.1.1 in
      let z = z_is ((pair v.at 30 + offset) % 65536) from to.bytes is there.room some in
      record {
        steps = code_steps code;
        at_least = omega (arith, least, some);
        at_most = omega (arith, most);
        last = block e code v;
        goes = block_goes e code pc mid v form.0 stands;
        brings = further_is_loaded e (home to) offset to.bytes (base to) from v (y.layout.temps_at to it) (leaves to it) numbers z there;
      }

  -- from the bank that the tag in R0 tells
  tagged_loaded : (bank : Bank) (kept : Home) (to : Temp) (offset from pc mid : ℕ) (v : View) → e.core ≡ Small → HasHome slots to
      → HoldsNumbers v → (pair v.at 30 + offset) % 65536 ≡ from % 65536 → v.at 0 ≡ tag_of bank
      → IsThere p e slots home base place y bank kept from (base to) to.bytes
      → HasAt e (load_tagged_code offset (home to) to.bytes) pc mid → LoadsZ bank from pc mid v to
  tagged_loaded FlashBank kept to offset from pc mid v small it numbers is tag there stands =
      let near = near_flash p e slots home base place y kept from to.bytes (small_end e.core kept small) there in
      let z = z_is ((pair v.at 30 + offset) % 65536) from to.bytes is near.room it.some in
      let r =
      y.pointers.flash_from_z e (home to) offset to.bytes (base to) from pc mid v (y.layout.temps_at to it) (leaves to it) stands tag
      numbers z near in
      record {
        steps = r.steps;
        at_least = (let few = r.at_least in omega (arith, few));
        at_most = (let most = r.at_most in omega (arith, most));
        last = r.last;
        goes = r.goes;
        brings = r.brings;
      }
  tagged_loaded DataBank kept to offset from pc mid v small it numbers is tag there stands =
      let z = z_is ((pair v.at 30 + offset) % 65536) from to.bytes is there.0.room it.some in
      let r =
      y.pointers.data_from_z e (home to) offset to.bytes (base to) from pc mid v (y.layout.temps_at to it) (leaves to it) stands tag
      z there.0 there.1 in
      record {
        steps = r.steps;
        at_least = (let few = r.at_least in omega (arith, few));
        at_most = (let most = r.at_most in omega (arith, most));
        last = r.last;
        goes = r.goes;
        brings = r.brings;
      }

  -- through a pointer into a space, which holds the home. One into flash is there only with a table
  space_loaded : (core : Core) (some_table tagged : Bool) (space : SpaceId) (bank : Bank) (kept : Home) (to : Temp)
      (offset from pc mid : ℕ) (v : View) → e.core ≡ core → (bank ≡ FlashBank → some_table ≡ true) → reaches space bank ≡ true
      → holds space kept ≡ true → goes_by_z core some_table tagged space ≡ true → HasHome slots to → HoldsNumbers v
      → (pair v.at 30 + offset) % 65536 ≡ from % 65536
      → (tagged ≡ true → e.core ≡ Small → space ≡ Generic → v.at 0 ≡ tag_of bank)
      → IsThere p e slots home base place y bank kept from (base to) to.bytes
      → HasAt e (from_z_code some_table space offset (home to) to.bytes) pc mid → LoadsZ bank from pc mid v to
  space_loaded core some_table tagged Data FlashBank kept to offset from pc mid v same t within held by it numbers is tag there stands =
      absurd (cc)
  space_loaded core some_table tagged Data DataBank kept to offset from pc mid v same t within held by it numbers is tag there stands =
      members_loaded to offset from pc mid v it is there.0 there.1 stands
  space_loaded core some_table tagged Flash DataBank kept to offset from pc mid v same t within held by it numbers is tag there stands =
      absurd (cc)
  space_loaded core some_table tagged Flash FlashBank kept to offset from pc mid v same t within held by it numbers is tag there stands =
      let end = near_end e.core Flash kept refl held in
      further_loaded to offset from pc mid v it numbers is (near_flash p e slots home base place y kept from to.bytes end there) stands
  space_loaded core some_table tagged FarFlash DataBank kept to offset from pc mid v same t within held by it numbers is tag there stands =
      absurd (cc)
  space_loaded core some_table tagged FarFlash FlashBank kept to offset from pc mid v same t within held by it numbers is tag there
      stands =
      let end = small_end e.core kept (same ∙ small_core core by) in
      further_loaded to offset from pc mid v it numbers is (near_flash p e slots home base place y kept from to.bytes end there) stands
  space_loaded core true tagged Generic bank kept to offset from pc mid v same t within held by it numbers is tag there stands =
      let b = and_parts tagged (is_small core) by in
      let small = same ∙ small_core core b.1 in
      tagged_loaded bank kept to offset from pc mid v small it numbers is (tag b.0 small refl) there stands
  space_loaded core false tagged Generic FlashBank kept to offset from pc mid v same t within held by it numbers is tag there stands =
      let no : false ≡ true = t refl in absurd (cc)
  space_loaded core false tagged Generic DataBank kept to offset from pc mid v same t within held by it numbers is tag there stands =
      members_loaded to offset from pc mid v it is there.0 there.1 stands

  -- flags do not matter
  with_flags : (need : Need) (m : Mach) (v : View) (f : Flags) → M need m v → M need m (flagged v f)
  with_flags need m v f h = record {
    temps_hold = h.temps_hold;
    leaves_hold = h.leaves_hold;
    tables_hold = h.tables_hold;
    frames = h.frames;
    kept = h.kept;
    bytes = h.bytes;
    left = h.left;
    seen = h.seen;
    safe = h.safe;
  }

  same_bytes : (bank : Bank) (v : View) (f : Flags)
      → bytes_of p e slots home base place y bank v ≡ bytes_of p e slots home base place y bank (flagged v f)
  same_bytes FlashBank v f = refl
  same_bytes DataBank v f = refl

  load_follows : (to ptr : Temp) (space : SpaceId) (tagged : Bool) (offset : ℕ) (rest : List PlainIr) (n pc : ℕ) (need : Need)
      (m : Mach) (v : View) → link.core ≡ e.core → HasHome slots to → IsInto slots space ptr
      → LoadsByZ link.core tables tagged to.at offset to ptr space
      → HasAt e (from_z_code tables space offset (home to) to.bytes ++ items rest) pc end
      → M need m v → ((u : ℕ) → u ≢ to.at → needs at rest u ≤ need u) → IsInZ tagged to.at offset m v
      → ((mid : ℕ) (m1 : Mach) (v1 : View) → HasAt e (items rest) mid end → M (needs at rest) m1 v1
      → G n m1.state.work mid v1 (R n rest m1))
      → G (suc n) m.state.work pc v (P n (load_at to ptr space) rest m)
  load_follows to ptr space tagged offset rest n pc need m v one_core it into uses stands h more z f =
      from_pointer p e slots home base place y ptr m.temps s _ (suc n) m.state.work pc v tt
      (λ q i. let k = at_width p e slots home base place y need m v ptr _ 0 h into.0 i refl (omega arith) in
      let got = subst (λ a. m.temps a ≡ Some (record { bytes = ptr.bytes; content = points q })) uses.from i in
      from_access p e slots home base place y space to.bytes q s (λ a. next (read p a s) (load_on n rest to m))
      (suc n) m.state.work pc v k.1.pointed tt
      (λ r. from_read p e slots home base place y r.bank r.leaf space r.state s (load_on n rest to m) (suc n) m.state.work pc v
      (λ u j. passed q r u j (z.is ptr.bytes q got)
      (λ t small g. z.tag t small q (subst (λ b. m.temps to.at ≡ Some (record { bytes = b; content = points q }))
      (into.1 ∙ ap width g) got)))))
    where
      i : PlainIr
      i = load_at to ptr space

      s : State
      s = begun i m

      passed : (q : ObjectPointer) (r : Reaches p e slots home base place y space to.bytes q s) (u : Value)
          → leaf_of r.state r.leaf.number ≡ Some u → (pair v.at 30 + offset) % 65536 ≡ (place q.object + q.offset) % 65536
          → (tagged ≡ true → e.core ≡ Small → space ≡ Generic → v.at 0 ≡ tag_of (home_of p q.object))
          → G (suc n) m.state.work pc v
          (R n rest (machine (with_temp to u m.temps) (after_read p e slots home base place y r.bank r.leaf space u s)))
      passed q r u j z1 tag =
          let l = r.leaf in
          let from = place l.object + l.at in
          let object = r.object in
          let begins = r.begins in
          let same : place q.object + q.offset ≡ from =
          ap (λ o. place o + q.offset) (sym object) ∙ ap (λ b. place l.object + b) (sym begins) in
          let bank : home_of p q.object ≡ r.bank =
          ap (home_of p) (sym object) ∙ home_of_object p l.object l.declared l.is_object ∙ l.home in
          let parts =
          has_parts e (from_z_code tables space offset (home to) to.bytes) (items rest) pc end stands in
          let there = leaf_there p e slots home base place y r.bank l to r.addressable it r.size in
          let run =
          space_loaded link.core tables tagged space r.bank l.declared.home to offset from pc parts.0 v (sym one_core)
          (table_among p.objects l.object l.declared r.bank l.is_object l.home) r.within r.held uses.by_z it h.bytes
          (z1 ∙ ap (λ a. a % 65536) same) (λ t small g. tag t small g ∙ ap tag_of bank) there parts.1 in
          let v0 = flagged v run.last.flags in
          let h0 = with_flags need m v run.last.flags h in
          let brings =
          subst
          (λ (g : ℕ → ℕ). Brings v0 (base to) to.bytes (λ i. g (from + i)) (each (ByteRead r.bank) from (λ i. g (from + i)) to.bytes)
          run.last) (same_bytes r.bank v run.last.flags) run.brings in
          let holds = leaf_stands p e slots home base place y r.bank l need m v0 r.state u h0 r.is_state j in
          let kind = addressable_kind l.declared.storage r.addressable in
          let m1 = machine (with_temp to u m.temps) (after_read p e slots home base place y r.bank l space u s) in
          let matches : M (needs at rest) m1 run.last =
          load_brings p e slots home base place y r.bank l space to (needs at rest) need m v0 run.last
          (op_steps i) u it r.size kind h0 more holds brings in
          let work : m1.state.work ≡ m.state.work + op_steps i = recorded_work l.declared.storage _ s in
          let few = run.at_most in
          let some = run.at_least in
          after p place e run.steps n (suc n) m.state.work m1.state.work pc parts.0 v run.last (R n rest m1) run.goes (omega (arith, some))
          (omega (arith, few, work)) (f parts.0 m1 run.last parts.2 matches)

  -- of the operations that are left the first one is such a load
  pub loads : (ops : List PlainIr) (tagged : Bool) (at_place offset n w pc : ℕ) (need : Need) (m : Mach) (v : View)
      → is_load_by_z link.core tables tagged at_place offset (slice_get ops 0) ≡ true → Left ops
      → HasAt e (items_told (Some (InZ offset)) ops) pc end → M need m v
      → ((u : ℕ) → u ≢ at_place → needs at ops u ≤ need u) → IsInZ tagged at_place offset m v → w ≤ m.state.work → Fewer n
      → G n w pc v (R n ops m)
  loads [] tagged at_place offset n w pc need m v q left stands h more z most go = absurd cc
  loads (load_at to ptr space ∷ rest) tagged at_place offset zero w pc need m v q left stands h more z most go =
      stays 0 w m.state.work pc v (R 0 (load_at to ptr space ∷ rest) m) most (stay p place e pc v m.state h.seen h.safe)
  loads (load_at to ptr space ∷ rest) tagged at_place offset (suc n) w pc need m v q left stands h more z most go =
      stays (suc n) w m.state.work pc v (R (suc n) (load_at to ptr space ∷ rest) m) most
      (checked functions p y.inputs place e n (suc n) m.state.work pc v all stack (load_at to ptr space) rest m
      (λ held. load_follows to ptr space tagged offset rest n pc need m v left.here.core left.covered.0.0.0 left.covered.0.0.1 uses code h
      others (subst (λ a. IsInZ tagged a offset m v) (sym known.over) z)
      (λ mid m1 v1 t matches. go n (omega arith) mid rest m1 v1
      (record { covered = left.covered.1; live = left.live; inside = left.inside; here = left.here; stands = t }) matches)))
    where
      known : LoadsByZ link.core tables tagged at_place offset to ptr space
      known = loads_by_z link.core tables tagged at_place offset to ptr space q

      uses : LoadsByZ link.core tables tagged to.at offset to ptr space
      uses = subst (λ a. LoadsByZ link.core tables tagged a offset to ptr space) (sym known.over) known

      others : (u : ℕ) → u ≢ to.at → needs at rest u ≤ need u
      others u d =
          let a = more u (λ r. d (r ∙ sym known.over)) in
          let b = least_other ptr.at (loaded_bytes space tables ptr.bytes) u (without to.at (needs at rest)) in
          let c = without_other to.at u (needs at rest) d in
          omega (arith, a, b, c)

      over : (to.at == ptr.at) ≡ true
      over = eq-eqb to.at ptr.at (known.over ∙ sym known.from)

      code : HasAt e (from_z_code tables space offset (home to) to.bytes ++ items rest) pc end
      code =
          subst (λ (b : Bool). HasAt e (from_z_code tables space offset (home to) to.bytes
          ++ items_told (told_first (if b then None else Some (InZ offset)) None) rest) pc end) over
          (subst
          (λ (b : Bool). HasAt e (loaded_code (if b then Some offset else None) link.core tables space (home ptr) (home to) to.bytes
          ++ items_told (told_first (if to.at == ptr.at then None else Some (InZ offset)) None) rest) pc end) known.reach
          (used_behind p functions e slots home base place y labels all end results me link stack [] (Some (InZ offset))
          (load_at to ptr space) rest pc left.covered.0.1 (λ l none. none) stands))
  loads (i ∷ rest) tagged at_place offset n w pc need m v q left stands h more z most go = absurd cc

  -- ---- a pointer that waits in Z for a store

  -- the operations that come soon
  abbrev ahead : ℕ → List PlainIr → List Ahead
  ahead count ops = look count ops (wanted_bytes at ops) (known_left at ops) 0

  look_behind : (count : ℕ) (i : PlainIr) (ops : List PlainIr) (w : ℕ) (ws : List ℕ) (k : Option RightNumber)
      (ks : List (Option RightNumber)) (j : ℕ) → look count (i ∷ ops) (w ∷ ws) (k ∷ ks) (suc j) ≡ look count ops ws ks j
  look_behind zero i ops w ws k ks j = refl
  look_behind (suc count) i ops w ws k ks j =
      ap (λ (xs : List Ahead). record { operation = slice_get ops j; wanted = slice_index ws j; known = get_or ks j None } ∷ xs)
      (look_behind count i ops w ws k ks (suc j))

  -- what is shown of the operations behind one that has left Z alone
  abbrev Waits : (n : ℕ) (rest : List PlainIr) (at_place offset : ℕ) → Type 0
  Waits n rest at_place offset =
      (mid : ℕ) (m1 : Mach) (v1 : View) → HasAt e (items_told (Some (InZ offset)) rest) mid end
      → M (without at_place (needs at rest)) m1 v1 → IsInZ false at_place offset m1 v1 → G n m1.state.work mid v1 (R n rest m1)

  -- the pointer is still there where Z and its temporary are as before
  still_in_z : (t : Temp) (c : Content) (s1 : State) (at_place offset : ℕ) (m : Mach) (v v1 : View) → t.at ≢ at_place
      → pair v1.at 30 ≡ pair v.at 30 → IsInZ false at_place offset m v
      → IsInZ false at_place offset (machine (with_content t c m.temps) s1) v1
  still_in_z t c s1 at_place offset m v v1 other pairs z = record {
    is = λ bytes q got.
        (let b = ne_eqb at_place t.at (λ r. other (sym r)) in
        let same : with_content t c m.temps at_place ≡ m.temps at_place =
        ap (λ (x : Bool). if x then Some (record { bytes = t.bytes; content = c }) else m.temps at_place) b in
        ap (λ x. (x + offset) % 65536) pairs ∙ z.is bytes q (sym same ∙ got));
    tag = λ t small q got. absurd (false≢true t);
  }

  data_kept : (home : Home) → is_table home ≡ false → home ≡ DataHome
  data_kept FlashHome q = absurd cc
  data_kept FarHome q = absurd cc
  data_kept DataHome q = refl

  not_same : (a b : ℕ) → not (a == b) ≡ true → a ≢ b
  not_same a b q r = false≢true (sym (ap not (eq-eqb a b r)) ∙ q)

  -- a load of an object
  object_waits : (t : Temp) (o k : ℕ) (rest : List PlainIr) (at_place offset n pc : ℕ) (need : Need) (m : Mach) (v : View)
      → HasHome slots t → HasScalarAt p o k t.bytes → t.at ≢ at_place → is_table (kept_in p o) ≡ false
      → HasAt e (banked_code link.core (kept_in p o) p.objects o k (home t) t.bytes ++ items_told (Some (InZ offset)) rest) pc end
      → M need m v → ((u : ℕ) → u ≢ at_place → without t.at (needs at rest) u ≤ need u) → IsInZ false at_place offset m v
      → Waits n rest at_place offset
      → G (suc n) m.state.work pc v (P n (load_object t o k) rest m)
  object_waits t o k rest at_place offset n pc need m v it has other in_data stands h more z go =
      at_object (slice_get m.state.objects o) refl
    where
      i : PlainIr
      i = load_object t o k

      s : State
      s = begun i m

      need1 : Need
      need1 = without at_place (needs at rest)

      space : SpaceId
      space = has.declared.space

      home_is : bank_of has.declared.home ≡ DataBank
      home_is = data_home has.declared.home (ap is_table (sym (kept_there p o has.declared has.is_object)) ∙ in_data)

      l : ObjectLeaf p DataBank
      l = leaf_with p DataBank o k t.bytes has home_is

      from : Location
      from = object_location p.objects o k

      code : List AsmItem
      code = copy_code from (home t) t.bytes

      w : View
      w = block e code v

      stand : HasAt e (code ++ items_told (Some (InZ offset)) rest) pc end
      stand =
          subst (λ (x : Home). HasAt e (banked_code link.core x p.objects o k (home t) t.bytes
          ++ items_told (Some (InZ offset)) rest) pc end) (data_kept (kept_in p o) in_data) stands

      from_stands : StandsFrom e from t.bytes (place o + k) (kind_in has.declared.storage)
      from_stands =
          subst (λ (x : Location). StandsFrom e x t.bytes (place o + k) (kind_in has.declared.storage))
          (sym (location_is p functions e slots home base place y labels all end results me link stack DataBank l))
          (y.layout.leaves_at l)

      still : (j : ℕ) → 26 ≤ j → j < 32 → w.at j ≡ v.at j
      still j high low =
          let d = copy_holds e from (home t) t.bytes (place o + k) (base t) (kind_in has.declared.storage) Own v from_stands
          (y.layout.temps_at t it) (storage_held has.declared.storage) refl
          (λ r. (let q = (y.layout.leaf_temp l t it).left r in omega (arith, q))) in
          d.same j (omega (arith, high)) (work_outside_of (base t) t.bytes j high low (y.layout.temps_work t it))

      fewer : (u : ℕ) → u ≢ t.at → need1 u ≤ need u
      fewer = fewer_waiting t at_place need (needs at rest) more

      at_value : (x : ObjectState) (u : Value) → slice_get m.state.objects o ≡ Some x → leaf_of x has.number ≡ Some u
          → G (suc n) m.state.work pc v (load_on n rest t m u (after_read p e slots home base place y DataBank l space u s))
      at_value x u is_state j =
          let m1 = machine (with_temp t u m.temps) (after_read p e slots home base place y DataBank l space u s) in
          let matches : M need1 m1 w =
          subst (λ (q : Location). M need1 m1 (block e (copy_code q (home t) t.bytes) v))
          (sym (location_is p functions e slots home base place y labels all end results me link stack DataBank l))
          (load_matches p e slots home base place y l space t need1 need m v (op_steps i) u it refl h fewer
          (h.leaves_hold l x u is_state j)) in
          let z1 : IsInZ false at_place offset m1 w =
          still_in_z t (content_of t.bytes u) m1.state at_place offset m v w other
          (rw (still 30 (omega arith) (omega arith), still 31 (omega arith) (omega arith)) refl) z in
          let work : m1.state.work ≡ m.state.work + op_steps i = recorded_work has.declared.storage _ s in
          let take = copy_steps from (home t) t.bytes in
          let least = take.0 in
          let most = take.1 in
          let some = it.some in
          let eight = it.most in
          code_goes_past p functions e slots home base place y labels all end results me link stack code
          (items_told (Some (InZ offset)) rest) n (suc n) m.state.work m1.state.work pc v (R n rest m1) stand
          (copy_straight from (home t) t.bytes) (omega (arith, least, some)) (omega (arith, most, eight, work))
          (λ mid there. go mid m1 w there matches z1)

      at_object : (x : Option ObjectState) → slice_get m.state.objects o ≡ x
          → G (suc n) m.state.work pc v (next (read p (object_access p None o k s) s) (load_on n rest t m))
      at_object None q =
          let none : object_access p None o k s ≡ None = rw (has.is_object, q) refl in
          subst (λ x. G (suc n) m.state.work pc v (next (read p x s) (load_on n rest t m))) (sym none) tt
      at_object (Some x) q =
          let one : object_access p None o k s ≡ Some (access_to p e slots home base place y DataBank l space x) =
          rw (has.is_object, q, has.found) refl in
          subst (λ x. G (suc n) m.state.work pc v (next (read p x s) (load_on n rest t m))) (sym one)
          (from_read p e slots home base place y DataBank l space x s (load_on n rest t m) (suc n) m.state.work pc v
          (λ u j. at_value x u q j))

  -- the store
  abbrev store_on : ℕ → List PlainIr → Mach → Value → State → Outcome Value
  store_on n rest m x s1 = R n rest (machine m.temps s1)

  store_waited : (ptr : Temp) (space : SpaceId) (from : Temp) (offset : ℕ) (rest : List PlainIr) (n pc : ℕ) (need : Need) (m : Mach)
      (v : View) → HasHome slots from → IsInto slots space ptr → from.at ≢ ptr.at → needs at rest ptr.at ≡ 0
      → HasAt e (store_member_code offset (home from) from.bytes ++ items rest) pc end
      → M need m v → ((u : ℕ) → u ≢ ptr.at → needs at (store_at ptr space from ∷ rest) u ≤ need u) → IsInZ false ptr.at offset m v
      → ((mid : ℕ) (m1 : Mach) (v1 : View) → HasAt e (items rest) mid end → M (needs at rest) m1 v1
      → G n m1.state.work mid v1 (R n rest m1))
      → G (suc n) m.state.work pc v (P n (store_at ptr space from) rest m)
  store_waited ptr space from offset rest n pc need m v it into other free stands h more z f =
      from_pointer p e slots home base place y ptr m.temps s _ (suc n) m.state.work pc v
      (from_no_access p e slots home base place y from m.temps s (store_on n rest m) (suc n) m.state.work pc v)
      (λ q j. let k = at_width p e slots home base place y need m v ptr _ 0 h into.0 j refl (omega arith) in
      from_access p e slots home base place y space from.bytes q s (λ a. next (put p a from m.temps s) (store_on n rest m))
      (suc n) m.state.work pc v k.1.pointed
      (from_no_access p e slots home base place y from m.temps s (store_on n rest m) (suc n) m.state.work pc v)
      (λ r. from_put p e slots home base place y r.bank r.leaf space r.state from m.temps s (store_on n rest m) (suc n) m.state.work pc v
      (λ l c u object begins size declared held typed. stored q (z.is ptr.bytes q j) r l c u object begins size declared held typed)))
    where
      i : PlainIr
      i = store_at ptr space from

      s : State
      s = begun i m

      code : List AsmItem
      code = store_member_code offset (home from) from.bytes

      need0 : Need
      need0 = at_least from.at from.bytes (needs at rest)

      stays_needed : (b : ℕ) → needs at rest b ≤ need b
      stays_needed b =
          ⊎_elim
          (λ (q : b ≡ ptr.at). let none : needs at rest b ≡ 0 = ap (needs at rest) q ∙ free in omega (arith, none))
          (λ (q : b ≢ ptr.at).
          let a = more b q in
          let x = least_other ptr.at 2 b (needs at rest) in
          let w = least_other from.at from.bytes b (at_least ptr.at 2 (needs at rest)) in
          omega (arith, a, x, w))
          (cases_eq b ptr.at)

      from_needed : (b : ℕ) → need0 b ≤ need b
      from_needed b =
          ⊎_elim
          (λ (q : b ≡ from.at).
          let a = more b (λ r. other (sym q ∙ r)) in
          let here : need0 b ≤ at_least from.at from.bytes (at_least ptr.at 2 (needs at rest)) b =
          (let x = least_other ptr.at 2 b (needs at rest) in grind (arith, nat_tests, x)) in
          omega (arith, a, here))
          (λ (q : b ≢ from.at).
          let a = stays_needed b in
          let same : need0 b ≡ needs at rest b =
          ap (λ (x : Bool). if x then max (needs at rest b) from.bytes else needs at rest b) (ne_eqb b from.at q) in
          omega (arith, a, same))
          (cases_eq b from.at)

      stored : (q : ObjectPointer) → (pair v.at 30 + offset) % 65536 ≡ (place q.object + q.offset) % 65536
          → (r : Reaches p e slots home base place y space from.bytes q s) (l : ObjectLeaf p DataBank) (c : Content) (u : Value)
          → l.object ≡ r.leaf.object → l.at ≡ r.leaf.at → l.bytes ≡ r.leaf.bytes → l.declared ≡ r.leaf.declared
          → m.temps from.at ≡ Some (record { bytes = from.bytes; content = c }) → value_of_type p l.ty c ≡ Ok u
          → G (suc n) m.state.work pc v (R n rest (machine m.temps (after_write p e slots home base place y l space u s)))
      stored q z1 r l c u object begins size declared held typed =
          let to = place l.object + l.at in
          let wide : l.bytes ≡ from.bytes = size ∙ r.size in
          let addressable : IsAddressable l.declared.storage =
          subst (λ (d : PlainObject). IsAddressable d.storage) (sym declared) r.addressable in
          let same : place q.object + q.offset ≡ to =
          ap (λ o. place o + q.offset) (sym (object ∙ r.object)) ∙ ap (λ b. place l.object + b) (sym (begins ∙ r.begins)) in
          let there : AreData e to from.bytes =
          (leaf_there p e slots home base place y DataBank l from addressable it wide).0 in
          let room = there.room in
          let some = it.some in
          let is : (pair v.at 30 + offset) % 65536 ≡ to =
          z1 ∙ ap (λ a. a % 65536) same ∙ kept_below to 65536 (omega (arith, room, some)) in
          let far : IsReadFirst (base from) to from.bytes =
          λ g. (let x = (y.layout.temp_leaf from l it).left g in omega (arith, x, wide)) in
          let brings =
          members_are_stored e (home from) offset from.bytes (base from) to v (y.layout.temps_at from it)
          (leaves_z (base from) from.bytes from.bytes (omega arith) (y.layout.temps_work from it)) is there far in
          let content =
          whole p e slots home base place y (needs at rest) m v from _ (weaker p e slots home base place y need need0 m v h from_needed) it
          held refl in
          let value_there : HoldsLeaf p place v.at (base from) from.bytes u =
          typed_leaf p place (pointed_below p e slots home base place y) v.at (base from) from.bytes l.ty c u (l.size ∙ wide) typed
          content in
          let holds : HoldsLeaf p place v.at (base from) l.bytes u =
          subst (λ b. HoldsLeaf p place v.at (base from) b u) (sym wide) value_there in
          let kind = addressable_kind l.declared.storage addressable in
          let standing : is_kept h.frames.functions l.declared.storage ≡ true =
          subst (λ (d : PlainObject). is_kept h.frames.functions d.storage ≡ true) (sym declared)
          (h.frames.live r.leaf.object r.leaf.declared r.state r.leaf.is_object r.is_state r.live) in
          let m1 = machine m.temps (after_write p e slots home base place y l space u s) in
          let matches : M (needs at rest) m1 (block e code v) =
          store_brings p e slots home base place y l space from (needs at rest) need m v _ (op_steps i) u it wide kind h standing
          stays_needed holds brings in
          let work : m1.state.work ≡ m.state.work + op_steps i = recorded_work l.declared.storage _ _ in
          let form = stores_are_short offset (home from) from.bytes in
          let least = form.1.0 in
          let most = form.1.1 in
          let eight = it.most in
          code_goes_past p functions e slots home base place y labels all end results me link stack code (items rest) n (suc n)
          m.state.work m1.state.work pc v (R n rest m1) stands form.0 (omega (arith, least, some)) (omega (arith, most, eight, work))
          (λ mid t. f mid m1 (block e code v) t matches)

  -- a load through the pointer that waits
  through_waits : (to ptr : Temp) (space : SpaceId) (offset : ℕ) (rest : List PlainIr) (n pc : ℕ) (need : Need) (m : Mach) (v : View)
      → HasHome slots to → IsInto slots space ptr → to.at ≢ ptr.at → is_from_data tables space ≡ true
      → HasAt e (load_member_code offset (home to) to.bytes ++ items_told (Some (InZ offset)) rest) pc end
      → M need m v → ((u : ℕ) → u ≢ ptr.at → without to.at (needs at rest) u ≤ need u) → IsInZ false ptr.at offset m v
      → Waits n rest ptr.at offset
      → G (suc n) m.state.work pc v (P n (load_at to ptr space) rest m)
  through_waits to ptr space offset rest n pc need m v it into other near stands h more z f =
      from_pointer p e slots home base place y ptr m.temps s _ (suc n) m.state.work pc v tt
      (λ q i. let k = at_width p e slots home base place y need m v ptr _ 0 h into.0 i refl (omega arith) in
      let z1 = z.is ptr.bytes q i in
      from_access p e slots home base place y space to.bytes q s (λ a. next (read p a s) (load_on n rest to m))
      (suc n) m.state.work pc v k.1.pointed tt
      (λ r. from_read p e slots home base place y r.bank r.leaf space r.state s (load_on n rest to m) (suc n) m.state.work pc v
      (λ u j. by_bank r.bank r.leaf r.state q r.object r.begins r.size r.addressable r.is_state r.within u j z1)))
    where
      i : PlainIr
      i = load_at to ptr space

      s : State
      s = begun i m

      need1 : Need
      need1 = without ptr.at (needs at rest)

      code : List AsmItem
      code = load_member_code offset (home to) to.bytes

      by_bank : (bank : Bank) (l : ObjectLeaf p bank) (x : ObjectState) (q : ObjectPointer) → l.object ≡ q.object → l.at ≡ q.offset
          → l.bytes ≡ to.bytes → IsAddressable l.declared.storage → slice_get s.objects l.object ≡ Some x
          → reaches space bank ≡ true → (u : Value) → leaf_of x l.number ≡ Some u
          → (pair v.at 30 + offset) % 65536 ≡ (place q.object + q.offset) % 65536
          → G (suc n) m.state.work pc v
          (R n rest (machine (with_temp to u m.temps) (after_read p e slots home base place y bank l space u s)))
      by_bank FlashBank l x q object begins size addressable is_state within u j z1 =
          absurd (never_flash tables space near within
          (table_among p.objects l.object l.declared FlashBank l.is_object l.home refl))
      by_bank DataBank l x q object begins size addressable is_state within u j z1 =
          let from = place l.object + l.at in
          let there = leaf_there p e slots home base place y DataBank l to addressable it size in
          let room = there.0.room in
          let some = it.some in
          let eight = it.most in
          let same : place q.object + q.offset ≡ from =
          ap (λ o. place o + q.offset) (sym object) ∙ ap (λ b. place l.object + b) (sym begins) in
          let is : (pair v.at 30 + offset) % 65536 ≡ from =
          z1 ∙ ap (λ a. a % 65536) same ∙ kept_below from 65536 (omega (arith, room, some)) in
          let leaves = leaves_z (base to) to.bytes to.bytes (omega arith) (y.layout.temps_work to it) in
          let w = block e code v in
          let brings =
          members_are_loaded e (home to) offset to.bytes (base to) from v (y.layout.temps_at to it) leaves is there.0 there.1 in
          let kept_z : pair w.at 30 ≡ pair v.at 30 =
          members_keep_z e (home to) offset to.bytes (base to) from v (y.layout.temps_at to it) leaves is there.0 there.1 in
          let holds = leaf_stands p e slots home base place y DataBank l need m v x u h is_state j in
          let kind = addressable_kind l.declared.storage addressable in
          let m1 = machine (with_temp to u m.temps) (after_read p e slots home base place y DataBank l space u s) in
          let matches : M need1 m1 w =
          load_brings p e slots home base place y DataBank l space to need1 need m v w
          (op_steps i) u it size kind h (fewer_waiting to ptr.at need (needs at rest) more) holds brings in
          let z2 : IsInZ false ptr.at offset m1 w = still_in_z to (content_of to.bytes u) m1.state ptr.at offset m v w other kept_z z in
          let work : m1.state.work ≡ m.state.work + op_steps i = recorded_work l.declared.storage _ s in
          let form = members_are_short offset (home to) to.bytes in
          let least = form.1.0 in
          let most = form.1.1 in
          code_goes_past p functions e slots home base place y labels all end results me link stack code
          (items_told (Some (InZ offset)) rest) n (suc n)
          m.state.work m1.state.work pc v (R n rest m1) stands form.0 (omega (arith, least, some)) (omega (arith, most, eight, work))
          (λ mid t. f mid m1 w t matches z2)

  -- a constant that nobody reads
  constant_waits : (t : Temp) (k : ℤ) (rest : List PlainIr) (at_place offset n pc : ℕ) (need : Need) (m : Mach) (v : View)
      → HasHome slots t → t.at ≢ at_place → wanted (needs at rest) t ≡ 0
      → HasAt e (put_code (home t) (low_bytes 16 k) (wanted (needs at rest) t) ++ items_told (Some (InZ offset)) rest) pc end
      → M need m v → ((u : ℕ) → u ≢ at_place → without t.at (needs at rest) u ≤ need u) → IsInZ false at_place offset m v
      → Waits (suc n) rest at_place offset
      → G (suc n) m.state.work pc v (P n (constant t k) rest m)
  constant_waits t k rest at_place offset n pc need m v it other none stands h more z f =
      let need1 = without at_place (needs at rest) in
      let c = op_steps (constant t k) in
      let low = low_bytes t.bytes k in
      let m1 = machine (with_content t (bits low) m.temps) (worked c m.state) in
      let none1 : wanted need1 t ≡ 0 = wanted_waiting t at_place (needs at rest) other ∙ none in
      let matches : M need1 m1 v =
      subst (λ (xs : List AsmItem). M need1 m1 (block e xs v)) (none_put (home t) (low_bytes 16 k))
      (subst (λ w. M need1 m1 (block e (put_code (home t) (low_bytes 16 k) w) v)) none1
      (constant_matches p e slots home base place y t need1 m v k c it
      (weaker p e slots home base place y need (without t.at need1) m v h (needed_waiting t at_place need (needs at rest) more)))) in
      let z1 : IsInZ false at_place offset m1 v = still_in_z t (bits low) m1.state at_place offset m v v other refl z in
      let stand : HasAt e (items_told (Some (InZ offset)) rest) pc end =
      subst (λ (xs : List AsmItem). HasAt e (xs ++ items_told (Some (InZ offset)) rest) pc end) (none_put (home t) (low_bytes 16 k))
      (subst (λ w. HasAt e (put_code (home t) (low_bytes 16 k) w ++ items_told (Some (InZ offset)) rest) pc end) none stands) in
      stays (suc n) m.state.work m1.state.work pc v (R (suc n) rest m1) (omega arith) (f pc m1 v stand matches z1)

  -- a conversion that adds no bytes
  conversion_waits : (s s1 : Bool) (mode : Mode) (t a : Temp) (rest : List PlainIr) (at_place offset n pc : ℕ) (need : Need) (m : Mach)
      (v : View) → HasHome slots t → HasHome slots a → t.at ≢ at_place → a.at ≢ at_place
      → nat_le (wanted (needs at rest) t) a.bytes ≡ true
      → HasAt e (conversion_code s1 (home a) (home t) a.bytes (wanted (needs at rest) t) ++ items_told (Some (InZ offset)) rest) pc end
      → M need m v
      → ((u : ℕ) → u ≢ at_place → at_least a.at (wanted (needs at rest) t) (without t.at (needs at rest)) u ≤ need u)
      → IsInZ false at_place offset m v → Waits (suc n) rest at_place offset
      → G (suc n) m.state.work pc v (P n (conversion t (integer s t.bytes) mode a (integer s1 a.bytes)) rest m)
  conversion_waits s s1 mode t a rest at_place offset n pc need m v it ia other apart few stands h more z f =
      from_number p place e s1 a m.temps st _ (suc n) m.state.work pc v
      (λ low q.
      let x = number_of_bytes s1 a.bytes low in
      let m1 = machine (with_content t (bits (low_bytes t.bytes (wrapped (record { signed = s; bytes = t.bytes }) x))) m.temps) st in
      let matches : M need1 (machine (with_content t (bits (low_bytes t.bytes x)) m.temps) st)
      (block e (conversion_code s1 (home a) (home t) a.bytes (wanted need1 t)) v) =
      conversion_matches p e slots home base place y s1 t a need1 m v c low it ia q
      (weaker p e slots home base place y need (at_least a.at (wanted need1 t) (without t.at need1)) m v h
      (operand_waiting t a at_place k (wanted need1 t) need (needs at rest) (wanted_waiting t at_place (needs at rest) other) apart
      more)) in
      let matches1 : M need1 m1 (block e code v) =
      subst (λ r. M need1 (machine (with_content t (bits r) m.temps) st) (block e code v)) (sym (low_of_wrapped s t.bytes x))
      (subst (λ w. M need1 (machine (with_content t (bits (low_bytes t.bytes x)) m.temps) st)
      (block e (conversion_code s1 (home a) (home t) a.bytes w) v)) (wanted_waiting t at_place (needs at rest) other) matches) in
      let kept_z : pair (block e code v).at 30 ≡ pair v.at 30 =
      rw (kept 30 (omega arith) (omega arith), kept 31 (omega arith) (omega arith)) refl in
      let z1 = still_in_z t (bits (low_bytes t.bytes (wrapped (record { signed = s; bytes = t.bytes }) x))) st at_place offset m v
      (block e code v) other kept_z z in
      code_goes_past p functions e slots home base place y labels all end results me link stack code
      (items_told (Some (InZ offset)) rest) (suc n) (suc n) m.state.work m1.state.work pc v (R (suc n) rest m1) stands
      straight (omega arith) (omega (arith, steps, big))
      (λ mid there. f mid m1 _ there matches1 z1))
    where
      i : PlainIr
      i = conversion t (integer s t.bytes) mode a (integer s1 a.bytes)

      c : ℕ
      c = op_steps i

      st : State
      st = worked c m.state

      need1 : Need
      need1 = without at_place (needs at rest)

      k : ℕ
      k = wanted (needs at rest) t

      code : List AsmItem
      code = conversion_code s1 (home a) (home t) a.bytes k

      within : k ≤ a.bytes
      within = leb-true k a.bytes few

      most : k ≤ t.bytes
      most = wanted_most (needs at rest) t

      is_move : code ≡ move_code (home a) (home t) (min k a.bytes)
      is_move =
          ap (λ (x : Bool). move_code (home a) (home t) (min k a.bytes) ++ (if x then [] else widen_code s1 (home t) a.bytes (k - a.bytes)))
          few ∙ append-nil (move_code (home a) (home t) (min k a.bytes))

      kept : (j : ℕ) → 26 ≤ j → j < 32 → (block e code v).at j ≡ v.at j
      kept j high low =
          let d = move_brings e (home a) (home t) (min k a.bytes) (base a) (base t) v
          (stands_less e (home a) a.bytes (min k a.bytes) (base a) Own (omega arith) (y.layout.temps_at a ia))
          (stands_less e (home t) t.bytes (min k a.bytes) (base t) Own (omega (arith, most)) (y.layout.temps_at t it))
          (read_first p e slots home base place y t a (min k a.bytes) it ia (omega arith)) h.bytes in
          let outside = work_outside_of (base t) t.bytes j high low (y.layout.temps_work t it) in
          ap (λ (xs : List AsmItem). (block e xs v).at j) is_move
          ∙ d.same j (omega (arith, high)) (λ l. (let x = outside l in omega (arith, x, most)))

      straight : all_straight code ≡ true
      straight = ap all_straight is_move ∙ move_straight (home a) (home t) (min k a.bytes)

      steps : code_steps code ≤ 2 * k
      steps =
          let take = move_steps (home a) (home t) (min k a.bytes) in
          let same : code_steps code ≡ code_steps (move_code (home a) (home t) (min k a.bytes)) = ap code_steps is_move in
          omega (arith, take, same)

      big : 2 * k ≤ c
      big = let x = conversion_room s s1 t.bytes a.bytes k most in omega (arith, x)

  -- a sum or a difference of a number in high registers and a known one
  sum_waits : (op : BinOp) (o : Operator) → family_of op ≡ Combined o → is_changed o ≡ true → takes_off o ≡ true → (s s1 s2 : Bool)
      (mode : Mode) (t a b : Temp) (k : ℤ) (rest : List PlainIr) (at_place offset n pc : ℕ) (need : Need) (m : Mach) (v : View)
      → HasHome slots t → HasHome slots a → HasHome slots b → a.bytes ≡ t.bytes → b.bytes ≡ t.bytes
      → ((low : ℕ) → m.temps b.at ≡ Some (record { bytes = b.bytes; content = bits low }) → low ≡ low_bytes b.bytes k)
      → t.at ≢ at_place → a.at ≢ at_place → is_in_high (home t) ≡ true
      → HasAt e ((move_code (home a) (home t) (wanted (needs at rest) t)
      ++ changed_by_code o (home t) (low_bytes 16 k) (wanted (needs at rest) t)) ++ items_told (Some (InZ offset)) rest) pc end
      → M need m v
      → ((u : ℕ) → u ≢ at_place → at_least a.at (wanted (needs at rest) t) (without t.at (needs at rest)) u ≤ need u)
      → IsInZ false at_place offset m v → Waits (suc n) rest at_place offset
      → G (suc n) m.state.work pc v
      (P n (binary_op op (integer s t.bytes) mode t a (integer s1 a.bytes) b (integer s2 b.bytes)) rest m)
  sum_waits op o is changed off s s1 s2 mode t a b k rest at_place offset n pc need m v it ia ib sa sb known other apart high stands h
      more z f =
      from_number p place e s1 a m.temps st _ (suc n) m.state.work pc v
      (λ low1 qa. from_number p place e s2 b m.temps st _ (suc n) m.state.work pc v
      (λ low2 qb.
      let below1 : low1 < 256 ^ t.bytes = subst (λ x. low1 < 256 ^ x) sa (h.temps_hold a _ ia qa refl).1 in
      let below2 : low2 < 256 ^ t.bytes = subst (λ x. low2 < 256 ^ x) sb (h.temps_hold b _ ib qb refl).1 in
      let g = gives_of op o is p mode s s1 s2 t.bytes a.bytes b.bytes low1 low2 st st sa sb below1 below2 in
      let number : low_bytes t.bytes k ≡ low2 = ap (λ j. low_bytes j k) (sym sb) ∙ sym (known low2 qb) in
      let m1 = made (low_bytes t.bytes g.number) in
      let matches : M need1 (made (result_of o t.bytes low1 (low_bytes t.bytes k))) (block e (changing (wanted need1 t)) v) =
      number_matches p e slots home base place y o changed t a k need1 m v c low1 it ia sa qa
      (weaker p e slots home base place y need (at_least a.at (wanted need1 t) (without t.at need1)) m v h
      (operand_waiting t a at_place w (wanted need1 t) need (needs at rest) (wanted_waiting t at_place (needs at rest) other) apart
      more)) in
      let matches1 : M need1 m1 (block e (changing w) v) =
      subst (λ r. M need1 (made r) (block e (changing w) v)) (ap (result_of o t.bytes low1) number ∙ sym g.low)
      (subst (λ x. M need1 (made (result_of o t.bytes low1 (low_bytes t.bytes k))) (block e (changing x) v))
      (wanted_waiting t at_place (needs at rest) other) matches) in
      let kept_z : pair (block e (changing w) v).at 30 ≡ pair v.at 30 =
      rw (kept 30 (omega arith) (omega arith), kept 31 (omega arith) (omega arith)) refl in
      let z1 = still_in_z t (bits (low_bytes t.bytes g.number)) st at_place offset m v (block e (changing w) v) other kept_z z in
      subst (λ r. G (suc n) m.state.work pc v (next (given r st) (λ u s3. R (suc n) rest (machine (with_temp t u m.temps) s3)))) (sym g.is)
      (code_goes_past p functions e slots home base place y labels all end results me link stack (changing w)
      (items_told (Some (InZ offset)) rest) (suc n) (suc n) m.state.work m1.state.work pc v (R (suc n) rest m1) stands
      straight (omega arith) (omega (arith, take, few, steps, big))
      (λ mid there. f mid m1 _ there matches1 z1))))
    where
      i : PlainIr
      i = binary_op op (integer s t.bytes) mode t a (integer s1 a.bytes) b (integer s2 b.bytes)

      c : ℕ
      c = op_steps i

      st : State
      st = worked c m.state

      need1 : Need
      need1 = without at_place (needs at rest)

      w : ℕ
      w = wanted (needs at rest) t

      made : ℕ → Mach
      made low = machine (with_content t (bits low) m.temps) st

      first : ℕ → List AsmItem
      first x = move_code (home a) (home t) x

      second : ℕ → List AsmItem
      second x = changed_by_code o (home t) (low_bytes 16 k) x

      changing : ℕ → List AsmItem
      changing x = first x ++ second x

      most : w ≤ t.bytes
      most = wanted_most (needs at rest) t

      form : (all_straight (second w) ≡ true) × (code_steps (second w) ≤ 3 * w)
      form = changed_form y.numbers o (home t) (low_bytes 16 k) w

      straight : all_straight (changing w) ≡ true
      straight = straight-append (first w) (second w) (move_straight (home a) (home t) w) form.0

      few : code_steps (second w) ≤ 3 * w
      few = form.1

      steps : code_steps (changing w) ≡ code_steps (first w) + code_steps (second w)
      steps = steps-append (first w) (second w)

      take : code_steps (first w) ≤ 2 * w
      take = let x = move_steps (home a) (home t) w in omega (arith, x)

      big : 5 * w ≤ c
      big = sum_room op (integer s t.bytes) (integer s1 a.bytes) (integer s2 b.bytes) w most

      kept : (j : ℕ) → 26 ≤ j → j < 32 → (block e (changing w) v).at j ≡ v.at j
      kept j from low =
          let d = move_brings e (home a) (home t) w (base a) (base t) v
          (stands_less e (home a) a.bytes w (base a) Own (omega (arith, most, sa)) (y.layout.temps_at a ia))
          (stands_less e (home t) t.bytes w (base t) Own most (y.layout.temps_at t it))
          (read_first p e slots home base place y t a w it ia (omega (arith, most, sa))) h.bytes in
          let outside = work_outside_of (base t) t.bytes j from low (y.layout.temps_work t it) in
          let v1 = block e (first w) v in
          ap (λ (x : View). x.at j) (block-append e (first w) (second w) v)
          ∙ takes_off_keeps e o (home t) (low_bytes 16 k) w (base t) j v1 off high
          (stands_less e (home t) t.bytes w (base t) Own most (y.layout.temps_at t it)) (λ l. (let x = outside l in omega (arith, x, most)))
          ∙ d.same j (omega (arith, from)) (λ l. (let x = outside l in omega (arith, x, most)))

  -- ---- all of them, one after another

  either_so : (a b : Bool) → (a || b) ≡ true → (a ≡ true) ⊎ (b ≡ true)
  either_so true b q = inl refl
  either_so false b q = inr q

  -- the operations behind the first one wait on
  later : (count : ℕ) (i : PlainIr) (rest : List PlainIr) (at_place offset : ℕ)
      → waits p home at_place offset (look count (i ∷ rest) (wanted_bytes at (i ∷ rest)) (known_left at (i ∷ rest)) 1) ≡ true
      → waits p home at_place offset (ahead count rest) ≡ true
  later count i rest at_place offset q =
      sym (ap (waits p home at_place offset)
      (look_behind count i rest (wanted_behind at.needed (needs at rest) i) (wanted_bytes at rest) (at.known (i ∷ rest))
      (known_left at rest) 0)) ∙ q

  -- operations that use the pointer in Z
  abbrev Uses : (tagged : Bool) (n : ℕ) (rest : List PlainIr) (at_place offset : ℕ) → Type 0
  Uses tagged n rest at_place offset =
      (w pc : ℕ) (need : Need) (m : Mach) (v : View) → HasAt e (items_told (Some (InZ offset)) rest) pc end → M need m v
      → ((u : ℕ) → u ≢ at_place → needs at rest u ≤ need u) → IsInZ tagged at_place offset m v → w ≤ m.state.work → G n w pc v (R n rest m)

  -- the tests of one operation, and those of the operations behind it
  abbrev others_wait : (count : ℕ) (i : PlainIr) (rest : List PlainIr) (at_place offset : ℕ) → Bool
  others_wait count i rest at_place offset =
      waits p home at_place offset (look count (i ∷ rest) (wanted_bytes at (i ∷ rest)) (known_left at (i ∷ rest)) 1)

  conversion_row : (count : ℕ) (t : Temp) (ty : PlainType) (mode : Mode) (a : Temp) (aty : PlainType) (rest : List PlainIr)
      (at_place offset n w pc : ℕ) (need : Need) (m : Mach) (v : View)
      → waits p home at_place offset (ahead (suc count) (conversion t ty mode a aty ∷ rest)) ≡ true
      → Left (conversion t ty mode a aty ∷ rest)
      → HasAt e (items_told (Some (InZ offset)) (conversion t ty mode a aty ∷ rest)) pc end
      → M need m v → ((u : ℕ) → u ≢ at_place → needs at (conversion t ty mode a aty ∷ rest) u ≤ need u) → IsInZ false at_place offset m v
      → w ≤ m.state.work
      → (waits p home at_place offset (ahead count rest) ≡ true → Waits (suc n) rest at_place offset)
      → G (suc n) w pc v (R (suc n) (conversion t ty mode a aty ∷ rest) m)
  conversion_row count t ty mode a aty rest at_place offset n w pc need m v q left stands h more z most f =
      stays (suc n) w m.state.work pc v (R (suc n) (i ∷ rest) m) most
      (checked functions p y.inputs place e n (suc n) m.state.work pc v all stack i rest m (λ held.
      ⊎_elim
      (λ (k : AreConverted slots t a ty aty).
      (subst (λ x. Done x aty) (sym k.result_type)
      (subst (λ x. Done (integer k.signed t.bytes) x) (sym k.from_type)
      (λ stand needed. conversion_waits k.signed k.from_signed mode t a rest at_place offset n pc need m v k.result k.from
      (not_same t.at at_place one.0) (not_same a.at at_place one.1) two.1 stand h needed z (f next))))
      (used_behind p functions e slots home base place y labels all end results me link stack [] (Some (InZ offset)) i rest pc
      left.covered.0.1 (λ l routine. conversions_have_none e slots l t ty mode a aty k routine) stands) more)
      (λ j. ⊎_elim
      (λ (k : IsFixedConversion slots t a ty aty). absurd (false≢true (sym whole ∙ one_is_whole ty aty k.types.fixed)))
      (λ (k : IsPointerConversion slots t a ty aty).
      absurd (false≢true (sym whole ∙ ap (λ b. is_whole ty || b) (pointer_is_whole aty k.pointer) ∙ or_true (is_whole ty))))
      j)
      left.covered.0.0))
    where
      i : PlainIr
      i = conversion t ty mode a aty

      apart : Bool
      apart = not (t.at == at_place) && not (a.at == at_place)

      plain : Bool
      plain = not (is_whole ty || is_whole aty) && nat_le (wanted (needs at rest) t) a.bytes

      halves : ((apart && plain) ≡ true) × (others_wait count i rest at_place offset ≡ true)
      halves = and_parts (apart && plain) (others_wait count i rest at_place offset) q

      both : (apart ≡ true) × (plain ≡ true)
      both = and_parts apart plain halves.0

      one : (not (t.at == at_place) ≡ true) × (not (a.at == at_place) ≡ true)
      one = and_parts (not (t.at == at_place)) (not (a.at == at_place)) both.0

      two : (not (is_whole ty || is_whole aty) ≡ true) × (nat_le (wanted (needs at rest) t) a.bytes ≡ true)
      two = and_parts (not (is_whole ty || is_whole aty)) (nat_le (wanted (needs at rest) t) a.bytes) both.1

      whole : (is_whole ty || is_whole aty) ≡ false
      whole = not_true (is_whole ty || is_whole aty) two.0

      next : waits p home at_place offset (ahead count rest) ≡ true
      next = later count i rest at_place offset halves.1

      Done : (x u : PlainType) → Type 0
      Done x u =
          HasAt e (own_told (Some (InZ offset)) (conversion t x mode a u) rest) pc end
          → ((b : ℕ) → b ≢ at_place → needs at (conversion t x mode a u ∷ rest) b ≤ need b)
          → G (suc n) m.state.work pc v (P n (conversion t x mode a u) rest m)

  binary_row : (count : ℕ) (op : BinOp) (ty : PlainType) (mode : Mode) (t a : Temp) (aty : PlainType) (b : Temp) (bty : PlainType)
      (rest : List PlainIr) (at_place offset n w pc : ℕ) (need : Need) (m : Mach) (v : View)
      → waits p home at_place offset (ahead (suc count) (binary_op op ty mode t a aty b bty ∷ rest)) ≡ true
      → Left (binary_op op ty mode t a aty b bty ∷ rest)
      → HasAt e (items_told (Some (InZ offset)) (binary_op op ty mode t a aty b bty ∷ rest)) pc end
      → M need m v → ((u : ℕ) → u ≢ at_place → needs at (binary_op op ty mode t a aty b bty ∷ rest) u ≤ need u)
      → IsInZ false at_place offset m v → w ≤ m.state.work
      → (waits p home at_place offset (ahead count rest) ≡ true → Waits (suc n) rest at_place offset)
      → G (suc n) w pc v (R (suc n) (binary_op op ty mode t a aty b bty ∷ rest) m)
  binary_row count op ty mode t a aty b bty rest at_place offset n w pc need m v q left stands h more z most f =
      stays (suc n) w m.state.work pc v (R (suc n) (i ∷ rest) m) most
      (checked functions p y.inputs place e n (suc n) m.state.work pc v all stack i rest m (λ held.
      ⊎_elim
      (λ (k : IsBinary (family_of op) slots t a b ty aty bty). by_operator op added.sum k
      (used_behind p functions e slots home base place y labels all end results me link stack [] (Some (InZ offset)) i rest pc
      left.covered.0.1 (λ l routine. sums_have_none e slots l op ty mode t a aty b bty added.sum k routine) stands)
      (right_held (known_at all (i ∷ rest)) (takes_alone op t b) a b bty added.number m.temps added.is held).number)
      (λ j. ⊎_elim
      (λ (k : IsFixedBinary slots op t a b ty aty bty). absurd (false≢true (sym whole ∙ one_is_whole aty bty k.types.fixed)))
      (λ (k : IsPointerBinary p slots op t a b ty aty bty).
      absurd (false≢true (sym whole ∙ pointers_are_whole aty bty k.pointer)))
      j)
      left.covered.0.0))
    where
      i : PlainIr
      i = binary_op op ty mode t a aty b bty

      known : Option RightNumber
      known = at.known (i ∷ rest)

      apart : Bool
      apart = not (t.at == at_place) && not (a.at == at_place)

      plain : Bool
      plain = not (is_whole aty || is_whole bty) && (adds_number known op && is_in_high (home t))

      halves : ((apart && plain) ≡ true) × (others_wait count i rest at_place offset ≡ true)
      halves = and_parts (apart && plain) (others_wait count i rest at_place offset) q

      both : (apart ≡ true) × (plain ≡ true)
      both = and_parts apart plain halves.0

      one : (not (t.at == at_place) ≡ true) × (not (a.at == at_place) ≡ true)
      one = and_parts (not (t.at == at_place)) (not (a.at == at_place)) both.0

      two : (not (is_whole aty || is_whole bty) ≡ true) × ((adds_number known op && is_in_high (home t)) ≡ true)
      two = and_parts (not (is_whole aty || is_whole bty)) (adds_number known op && is_in_high (home t)) both.1

      three : (adds_number known op ≡ true) × (is_in_high (home t) ≡ true)
      three = and_parts (adds_number known op) (is_in_high (home t)) two.1

      added : IsAdded known op
      added = numbers_added known op three.0

      whole : (is_whole aty || is_whole bty) ≡ false
      whole = not_true (is_whole aty || is_whole bty) two.0

      next : waits p home at_place offset (ahead count rest) ≡ true
      next = later count i rest at_place offset halves.1

      k0 : ℕ
      k0 = wanted (needs at rest) t

      -- what is needed of the operands
      is_own : Bool
      is_own = is_apart (family_of op) mode ty aty bty

      none_own : is_own ≡ false
      none_own = ap (λ (x : Bool). x && not (is_on_integers (family_of op) mode ty aty bty)) whole

      second : Need
      second =
          right_needed (right_taken known (takes_whole op mode ty aty bty t b) is_own op) b.at
          (moved_wanted (moves_pointer op bty aty) k0 (second_wanted is_own op (compared_bytes (number_taken known is_own op) b.bytes)
          (joined_bytes (number_taken known is_own op) k0)))
          (without t.at (needs at rest))

      first_of : Option RightNumber → ℕ
      first_of x =
          moved_wanted (moves_pointer op aty bty) k0
          (first_wanted is_own op (compared_bytes (number_taken x is_own op) a.bytes) (masked_bytes (number_taken x is_own op) op k0))

      needed : (u : ℕ) → u ≢ at_place → at_least a.at k0 (without t.at (needs at rest)) u ≤ need u
      needed u d =
          let x = more u d in
          let l : k0 ≤ first_of known =
          subst (λ (r : Option RightNumber). k0 ≤ first_of r) (sym added.is)
          (first_more added.number op (moves_pointer op aty bty) is_own a.bytes k0 none_own added.sum) in
          let r = right_more (right_taken known (takes_whole op mode ty aty bty t b) is_own op) b.at
          (moved_wanted (moves_pointer op bty aty) k0 (second_wanted is_own op (compared_bytes (number_taken known is_own op) b.bytes)
          (joined_bytes (number_taken known is_own op) k0)))
          (without t.at (needs at rest)) u in
          let c = least_more a.at k0 (first_of known) (without t.at (needs at rest)) second u l r in
          omega (arith, x, c)

      Known : Type 0
      Known =
          (low : ℕ) → m.temps b.at ≡ Some (record { bytes = b.bytes; content = bits low }) → low ≡ low_bytes b.bytes added.number.number

      Done : (o : BinOp) (x u r : PlainType) → Option RightNumber → Type 0
      Done o x u r number =
          HasAt e (own_code p home link (Some (InZ offset)) (Some (InZ offset)) number (needs at rest) (binary_op o x mode t a u b r)
          ++ items_told (Some (InZ offset)) rest) pc end
          → G (suc n) m.state.work pc v (P n (binary_op o x mode t a u b r) rest m)

      typed : (o : BinOp) (f : Operator) → family_of o ≡ Combined f → (k : AreIntegers slots t a b ty aty bty)
          → Done o (integer k.signed t.bytes) (integer k.left_signed a.bytes) (integer k.right_signed b.bytes)
          (Some (as_known added.number))
          → Done o ty aty bty known
      typed o f is k done =
          subst (λ x. Done o x aty bty known) (sym k.result_type)
          (subst (λ x. Done o (integer k.signed t.bytes) x bty known) (sym k.left_type)
          (subst (λ x. Done o (integer k.signed t.bytes) (integer k.left_signed a.bytes) x known) (sym k.right_type)
          (subst (Done o (integer k.signed t.bytes) (integer k.left_signed a.bytes) (integer k.right_signed b.bytes)) (sym added.is) done)))

      by_operator : (o : BinOp) → is_sum_or_difference o ≡ true → IsBinary (family_of o) slots t a b ty aty bty
          → HasAt e (own_code p home link (Some (InZ offset)) (Some (InZ offset)) known (needs at rest) (binary_op o ty mode t a aty b bty)
          ++ items_told (Some (InZ offset)) rest) pc end → Known
          → G (suc n) m.state.work pc v (P n (binary_op o ty mode t a aty b bty) rest m)
      by_operator Add sum k stand number =
          typed Add Sum refl k
          (λ code. sum_waits Add Sum refl refl refl k.signed k.left_signed k.right_signed mode t a b added.number.number rest at_place
          offset n pc need m v k.result k.left k.right k.left_bytes k.right_bytes number (not_same t.at at_place one.0)
          (not_same a.at at_place one.1) three.1 code h needed z (f next)) stand
      by_operator Sub sum k stand number =
          typed Sub Difference refl k
          (λ code. sum_waits Sub Difference refl refl refl k.signed k.left_signed k.right_signed mode t a b added.number.number rest
          at_place offset n pc need m v k.result k.left k.right k.left_bytes k.right_bytes number (not_same t.at at_place one.0)
          (not_same a.at at_place one.1) three.1 code h needed z (f next)) stand
      by_operator o sum k stand number = absurd (false≢true sum)

  store_row : (ptr : Temp) (space : SpaceId) (from : Temp) (rest : List PlainIr) (at_place offset n w pc : ℕ) (need : Need) (m : Mach)
      (v : View) → is_store_by_z at_place offset (wanted (needs at rest) ptr) (Some (store_at ptr space from)) ≡ true
      → Left (store_at ptr space from ∷ rest) → HasAt e (items_told (Some (InZ offset)) (store_at ptr space from ∷ rest)) pc end
      → M need m v → ((u : ℕ) → u ≢ at_place → needs at (store_at ptr space from ∷ rest) u ≤ need u) → IsInZ false at_place offset m v
      → w ≤ m.state.work → Fewer (suc n) → G (suc n) w pc v (R (suc n) (store_at ptr space from ∷ rest) m)
  store_row ptr space from rest at_place offset n w pc need m v q left stands h more z most go =
      stays (suc n) w m.state.work pc v (R (suc n) (i ∷ rest) m) most
      (checked functions p y.inputs place e n (suc n) m.state.work pc v all stack i rest m
      (λ held. store_waited ptr space from offset rest n pc need m v left.covered.0.0.0 left.covered.0.0.1
      (λ r. not_same from.at at_place one.1 (r ∙ same)) free own h (λ u d. more u (λ r. d (r ∙ sym same)))
      (subst (λ a. IsInZ false a offset m v) (sym same) z)
      (λ mid m1 v1 t matches. go n (omega arith) mid rest m1 v1
      (record { covered = left.covered.1; live = left.live; inside = left.inside; here = left.here; stands = t }) matches)))
    where
      i : PlainIr
      i = store_at ptr space from

      both : ((ptr.at == at_place && not (from.at == at_place)) ≡ true)
          × ((wanted (needs at rest) ptr == 0 && is_in_reach offset from.bytes) ≡ true)
      both =
          and_parts (ptr.at == at_place && not (from.at == at_place)) (wanted (needs at rest) ptr == 0 && is_in_reach offset from.bytes) q

      one : ((ptr.at == at_place) ≡ true) × (not (from.at == at_place) ≡ true)
      one = and_parts (ptr.at == at_place) (not (from.at == at_place)) both.0

      two : ((wanted (needs at rest) ptr == 0) ≡ true) × (is_in_reach offset from.bytes ≡ true)
      two = and_parts (wanted (needs at rest) ptr == 0) (is_in_reach offset from.bytes) both.1

      same : ptr.at ≡ at_place
      same = eqb-true ptr.at at_place one.0

      free : needs at rest ptr.at ≡ 0
      free =
          let none = eqb-true (wanted (needs at rest) ptr) 0 two.0 in
          let some = (some_bytes ptr.bytes (pointer_size space ptr.bytes left.covered.0.0.1.1)).0 in
          omega (arith, none, some)

      own : HasAt e (store_member_code offset (home from) from.bytes ++ items rest) pc end
      own =
          subst (λ (x : Bool). HasAt e (stored_code (if x then Some offset else None) (home from) (home ptr) from.bytes
          ++ items rest) pc end) two.1
          (used_behind p functions e slots home base place y labels all end results me link stack [] (Some (InZ offset)) i rest pc
          left.covered.0.1 (λ l none. none) stands)

  row_follows : (count : ℕ) (ops : List PlainIr) (at_place offset n w pc : ℕ) (need : Need) (m : Mach) (v : View)
      → waits p home at_place offset (ahead count ops) ≡ true → Left ops → HasAt e (items_told (Some (InZ offset)) ops) pc end
      → M need m v → ((u : ℕ) → u ≢ at_place → needs at ops u ≤ need u) → IsInZ false at_place offset m v → w ≤ m.state.work → Fewer n
      → G n w pc v (R n ops m)
  row_follows zero ops at_place offset n w pc need m v q left stands h more z most go = absurd cc
  row_follows (suc count) [] at_place offset n w pc need m v q left stands h more z most go = absurd cc
  row_follows (suc count) (i ∷ rest) at_place offset zero w pc need m v q left stands h more z most go =
      stays 0 w m.state.work pc v (R 0 (i ∷ rest) m) most (stay p place e pc v m.state h.seen h.safe)
  row_follows (suc count) (load_object t o k ∷ rest) at_place offset (suc n) w pc need m v q left stands h more z most go =
      let halves = and_parts (not (t.at == at_place) && not (is_table (kept_in p o)))
      (waits p home at_place offset (look count (i ∷ rest) (wanted_bytes at (i ∷ rest)) (known_left at (i ∷ rest)) 1)) q in
      let own = and_parts (not (t.at == at_place)) (not (is_table (kept_in p o))) halves.0 in
      let next = later count i rest at_place offset halves.1 in
      stays (suc n) w m.state.work pc v (R (suc n) (i ∷ rest) m) most
      (checked functions p y.inputs place e n (suc n) m.state.work pc v all stack i rest m
      (λ held. object_waits t o k rest at_place offset n pc need m v left.covered.0.0.0 left.covered.0.0.1
      (not_same t.at at_place own.0) (not_true (is_table (kept_in p o)) own.1)
      (used_behind p functions e slots home base place y labels all end results me link stack [] (Some (InZ offset)) i rest pc
      left.covered.0.1 (λ l none. none) stands) h more z
      (λ mid m1 v1 s x y1. row_follows count rest at_place offset n m1.state.work mid (without at_place (needs at rest)) m1 v1 next
      (record { covered = left.covered.1; live = left.live; inside = left.inside; here = left.here }) s x
      (λ u d. without_other at_place u (needs at rest) d) y1 (omega arith) (λ j l. go j (omega (arith, l))))))
    where
      i : PlainIr
      i = load_object t o k
  row_follows (suc count) (load_at to ptr space ∷ rest) at_place offset (suc n) w pc need m v q left stands h more z most go =
      let tests = (ptr.at == at_place && not (to.at == at_place)) && (is_from_data tables space && is_in_reach offset to.bytes) in
      let halves = and_parts tests
      (waits p home at_place offset (look count (i ∷ rest) (wanted_bytes at (i ∷ rest)) (known_left at (i ∷ rest)) 1)) q in
      let both = and_parts (ptr.at == at_place && not (to.at == at_place)) (is_from_data tables space && is_in_reach offset to.bytes)
      halves.0 in
      let one = and_parts (ptr.at == at_place) (not (to.at == at_place)) both.0 in
      let two = and_parts (is_from_data tables space) (is_in_reach offset to.bytes) both.1 in
      let same : ptr.at ≡ at_place = eqb-true ptr.at at_place one.0 in
      let other : to.at ≢ ptr.at = λ r. not_same to.at at_place one.1 (r ∙ same) in
      let next = later count i rest at_place offset halves.1 in
      let own : HasAt e (load_member_code offset (home to) to.bytes ++ items_told (Some (InZ offset)) rest) pc end =
      subst (λ (x : List AsmItem). HasAt e (x ++ items_told (Some (InZ offset)) rest) pc end)
      (from_data_code tables space offset (home to) to.bytes two.0)
      (subst (λ (x : Bool). HasAt e (from_z_code tables space offset (home to) to.bytes
      ++ items_told (told_first (if x then None else Some (InZ offset)) None) rest) pc end) (ne_eqb to.at ptr.at other)
      (subst (λ (x : Bool). HasAt e (loaded_code (if x then Some offset else None) link.core tables space (home ptr) (home to) to.bytes
      ++ items_told (told_first (if to.at == ptr.at then None else Some (InZ offset)) None) rest) pc end) two.1
      (used_behind p functions e slots home base place y labels all end results me link stack [] (Some (InZ offset)) i rest pc
      left.covered.0.1 (λ l none. none) stands))) in
      stays (suc n) w m.state.work pc v (R (suc n) (i ∷ rest) m) most
      (checked functions p y.inputs place e n (suc n) m.state.work pc v all stack i rest m
      (λ held. through_waits to ptr space offset rest n pc need m v left.covered.0.0.0 left.covered.0.0.1 other two.0 own h
      (λ u d. let a = more u (λ r. d (r ∙ sym same)) in
      let b = least_other ptr.at (loaded_bytes space tables ptr.bytes) u (without to.at (needs at rest)) in omega (arith, a, b))
      (subst (λ a. IsInZ false a offset m v) (sym same) z)
      (λ mid m1 v1 s x y1. row_follows count rest ptr.at offset n m1.state.work mid (without ptr.at (needs at rest)) m1 v1
      (subst (λ a. waits p home a offset (ahead count rest) ≡ true) (sym same) next)
      (record { covered = left.covered.1; live = left.live; inside = left.inside; here = left.here }) s x
      (λ u d. without_other ptr.at u (needs at rest) d) y1 (omega arith) (λ j l. go j (omega (arith, l))))))
    where
      i : PlainIr
      i = load_at to ptr space
  row_follows (suc count) (constant t k ∷ rest) at_place offset (suc n) w pc need m v q left stands h more z most go =
      let halves = and_parts (not (t.at == at_place) && wanted (needs at rest) t == 0)
      (waits p home at_place offset (look count (i ∷ rest) (wanted_bytes at (i ∷ rest)) (known_left at (i ∷ rest)) 1)) q in
      let own = and_parts (not (t.at == at_place)) (wanted (needs at rest) t == 0) halves.0 in
      let next = later count i rest at_place offset halves.1 in
      stays (suc n) w m.state.work pc v (R (suc n) (i ∷ rest) m) most
      (checked functions p y.inputs place e n (suc n) m.state.work pc v all stack i rest m
      (λ held. constant_waits t k rest at_place offset n pc need m v left.covered.0.0
      (not_same t.at at_place own.0) (eqb-true (wanted (needs at rest) t) 0 own.1)
      (used_behind p functions e slots home base place y labels all end results me link stack [] (Some (InZ offset)) i rest pc
      left.covered.0.1 (λ l none. none) stands) h more z
      (λ mid m1 v1 s x y1. row_follows count rest at_place offset (suc n) m1.state.work mid (without at_place (needs at rest)) m1 v1 next
      (record { covered = left.covered.1; live = left.live; inside = left.inside; here = left.here }) s x
      (λ u d. without_other at_place u (needs at rest) d) y1 (omega arith) go)))
    where
      i : PlainIr
      i = constant t k
  row_follows (suc count) (conversion t ty mode a aty ∷ rest) at_place offset (suc n) w pc need m v q left stands h more z most go =
      conversion_row count t ty mode a aty rest at_place offset n w pc need m v q left stands h more z most
      (λ next mid m1 v1 s x y1. row_follows count rest at_place offset (suc n) m1.state.work mid (without at_place (needs at rest)) m1 v1
      next
      (record { covered = left.covered.1; live = left.live; inside = left.inside; here = left.here }) s x
      (λ u d. without_other at_place u (needs at rest) d) y1 (omega arith) go)
  row_follows (suc count) (binary_op op ty mode t a aty b bty ∷ rest) at_place offset (suc n) w pc need m v q left stands h more z most go =
      binary_row count op ty mode t a aty b bty rest at_place offset n w pc need m v q left stands h more z most
      (λ next mid m1 v1 s x y1. row_follows count rest at_place offset (suc n) m1.state.work mid (without at_place (needs at rest)) m1 v1
      next
      (record { covered = left.covered.1; live = left.live; inside = left.inside; here = left.here }) s x
      (λ u d. without_other at_place u (needs at rest) d) y1 (omega arith) go)
  row_follows (suc count) (store_at ptr space from ∷ rest) at_place offset (suc n) w pc need m v q left stands h more z most go =
      ⊎_elim
      (λ (is : is_store_by_z at_place offset (wanted (needs at rest) ptr) (Some (store_at ptr space from)) ≡ true).
      store_row ptr space from rest at_place offset n w pc need m v is left stands h more z most go)
      (λ (none : false ≡ true). absurd (false≢true none))
      (either_so (is_store_by_z at_place offset (wanted (needs at rest) ptr) (Some (store_at ptr space from))) false q)
  row_follows (suc count) (i ∷ rest) at_place offset (suc n) w pc need m v q left stands h more z most go = absurd cc

  -- a load, and a row up to a store
  loads_use : (tagged : Bool) (n : ℕ) (rest : List PlainIr) (at_place offset : ℕ)
      → is_load_by_z link.core tables tagged at_place offset (slice_get rest 0) ≡ true
      → Left rest → Fewer n → Uses tagged n rest at_place offset
  loads_use tagged n rest at_place offset q left go w pc need m v stands h more z most =
      loads rest tagged at_place offset n w pc need m v q left stands h more z most go

  -- the row takes no tag
  rows_use : (tagged : Bool) (n : ℕ) (rest : List PlainIr) (at_place offset : ℕ)
      → waits p home at_place offset (ahead 8 rest) ≡ true → Left rest → Fewer n → Uses tagged n rest at_place offset
  rows_use tagged n rest at_place offset q left go w pc need m v stands h more z most =
      row_follows 8 rest at_place offset n w pc need m v q left stands h more
      (record { is = z.is; tag = λ t small x got. absurd (false≢true t) }) most go

  -- ---- a member on the way

  abbrev further_from : ObjectPointer → ℕ → ObjectPointer
  further_from q by = record { object = q.object; instance = q.instance; offset = q.offset + by }

  -- the pointer of a temporary has been moved, and is in Z
  further_loads : (ptr : Temp) (space : SpaceId) (tagged : Bool) (by offset n pc : ℕ) (rest : List PlainIr) (need0 : Need) (m : Mach)
      (v w : View) (q : ObjectPointer) → IsInto slots space ptr → IsPointerIn p ptr.bytes q
      → (r : PointerValue) → moved (Some q) (referent_of p (Some q) (begun (field ptr space by) m)) (pos by) ≡ Ok r
      → Uses tagged (suc n) rest ptr.at (offset + by)
      → HasAt e (items_told (Some (InZ (offset + by))) rest) pc end → M need0 m v
      → ((u : ℕ) → u ≢ ptr.at → needs at rest u ≤ need0 u) → Wide v w (base ptr) ptr.bytes → HoldsNumbers w
      → w.inputs ≡ v.inputs → w.safe ≡ v.safe → w.seen ≡ v.seen
      → (pair w.at 30 + offset) % 65536 ≡ (place q.object + q.offset) % 65536
      → (tagged ≡ true → e.core ≡ Small → ptr.bytes ≡ 3 → w.at 0 ≡ tag_of (home_of p q.object))
      → G (suc n) (m.state.work + op_steps (field ptr space by)) pc w
      (R (suc n) rest (machine (with_temp ptr (Pointer r) m.temps) (begun (field ptr space by) m)))
  further_loads ptr space tagged by offset n pc rest need0 m v w q into pointer r is used stands h more frame numbers inputs safe
      seen z tag =
      subst (λ x. G (suc n) (m.state.work + op_steps (field ptr space by)) pc w
      (R (suc n) rest (machine (with_temp ptr (Pointer x) m.temps) s))) (sym further.is)
      (used (m.state.work + op_steps (field ptr space by)) pc need1 m1 w stands matches
      (λ u d. without_other ptr.at u (needs at rest) d) there (omega arith))
    where
      s : State
      s = begun (field ptr space by) m

      to : ObjectPointer
      to = further_from q by

      need1 : Need
      need1 = without ptr.at (needs at rest)

      m1 : Mach
      m1 = machine (with_content ptr (points to) m.temps) s

      further : IsFurther p functions e slots home base place y labels all end results me link stack q
          (size_of_type p.structs pointer.pointed.declared.ty) by r
      further =
          moved_further p functions e slots home base place y labels all end results me link stack q pointer.pointed s by r is

      pointer1 : IsPointerIn p ptr.bytes to
      pointer1 = record {
        pointed = record {
          declared = pointer.pointed.declared;
          is_object = pointer.pointed.is_object;
          addressable = pointer.pointed.addressable;
          instance = pointer.pointed.instance;
          within = further.within;
        };
        size = pointer.size;
        of = pointer.of;
      }

      fewer : (u : ℕ) → u ≢ ptr.at → need1 u ≤ need0 u
      fewer u d =
          let a = more u d in
          let b : need1 u ≤ needs at rest u = without_less ptr.at u (needs at rest) in
          omega (arith, a, b)

      empty : (f : ℕ → ℕ) (a x : ℕ) → value f a 0 ≡ x % 256 ^ 0
      empty f a x = omega arith

      here : HoldsContent p place w.at (base ptr) (wanted need1 ptr) ptr.bytes (points to)
      here =
          subst (λ k. HoldsContent p place w.at (base ptr) k ptr.bytes (points to)) (sym (none_wanted ptr (needs at rest)))
          (empty w.at (base ptr) (address_number p place ptr.bytes to.object to.offset), pointer1)

      matches : M need1 m1 w
      matches =
          written_wide p e slots home base place y ptr (points to) need1 need0 m s v w into.0 h fewer frame here numbers refl
          (seen ∙ h.seen) (kept_left y.inputs m.state v w inputs h.left) (safe ∙ h.safe)

      there : IsInZ tagged ptr.at (offset + by) m1 w
      there = record {
        is = λ bytes x held.
            (let same : points to ≡ points x = content_of_held _ _ (sym (held_at ptr (points to) m.temps) ∙ held) in
            let one : to ≡ x = pointer_is to x same in
            subst (λ (k : ObjectPointer). (pair w.at 30 + (offset + by)) % 65536 ≡ (place k.object + k.offset) % 65536) one
            (further_on (pair w.at 30) offset by (place q.object + q.offset) z ∙ omega arith));
        tag = λ t small x held.
            (let got = sym (held_at ptr (points to) m.temps) ∙ held in
            let same : points to ≡ points x = content_of_held _ _ got in
            let one : to ≡ x = pointer_is to x same in
            tag t small (bytes_of_held _ _ got) ∙ ap (λ (k : ObjectPointer). tag_of (home_of p k.object)) one);
      }

  -- how a member's operation goes on
  abbrev moved_on : ℕ → List PlainIr → Temp → Mach → PointerValue → State → Outcome Value
  moved_on n rest ptr m x s1 = R (suc n) rest (machine (with_temp ptr (Pointer x) m.temps) s1)

  -- where the pointer is in Z already, nothing is done
  field_stays : (ptr : Temp) (space : SpaceId) (tagged : Bool) (by offset : ℕ) (rest : List PlainIr) (n pc : ℕ) (need : Need)
      (m : Mach) (v : View) → IsInto slots space ptr → Uses tagged (suc n) rest ptr.at (offset + by)
      → HasAt e (items_told (Some (InZ (offset + by))) rest) pc end → M need m v
      → ((u : ℕ) → u ≢ ptr.at → needs at rest u ≤ need u) → IsInZ tagged ptr.at offset m v
      → G (suc n) m.state.work pc v (P n (field ptr space by) rest m)
  field_stays ptr space tagged by offset rest n pc need m v into used stands h more z =
      from_pointer p e slots home base place y ptr m.temps s _ (suc n) m.state.work pc v tt
      (λ q i. let k = at_width p e slots home base place y need m v ptr _ 0 h into.0 i refl (omega arith) in
      by_moved q k.1 (z.is ptr.bytes q i)
      (λ t small b. z.tag t small q (subst (λ n. m.temps ptr.at ≡ Some (record { bytes = n; content = points q })) b i))
      (moved (Some q) (referent_of p (Some q) s) (pos by)) refl)
    where
      s : State
      s = begun (field ptr space by) m

      by_moved : (q : ObjectPointer) → IsPointerIn p ptr.bytes q
          → (pair v.at 30 + offset) % 65536 ≡ (place q.object + q.offset) % 65536
          → (tagged ≡ true → e.core ≡ Small → ptr.bytes ≡ 3 → v.at 0 ≡ tag_of (home_of p q.object)) → (r : Result PointerValue Undefined)
          → moved (Some q) (referent_of p (Some q) s) (pos by) ≡ r
          → G (suc n) m.state.work pc v (next (given r s) (moved_on n rest ptr m))
      by_moved q pointer z1 tag (Ok x) i =
          stays (suc n) m.state.work (m.state.work + op_steps (field ptr space by)) pc v (moved_on n rest ptr m x s) (omega arith)
          (further_loads ptr space tagged by offset n pc rest need m v v q into pointer x i used stands h more
          (λ k a b c d o. refl) h.bytes refl refl refl z1 tag)
      by_moved q pointer z1 tag (Err point) i = tt

  -- else it is brought there
  field_brought : (ptr : Temp) (space : SpaceId) (by : ℕ) (rest : List PlainIr) (n pc : ℕ) (m : Mach) (v : View)
      → IsInto slots space ptr → Uses false (suc n) rest ptr.at (0 + by)
      → HasAt e (point_code (home ptr) ++ items_told (Some (InZ (0 + by))) rest) pc end
      → M (needs at (field ptr space by ∷ rest)) m v
      → G (suc n) m.state.work pc v (P n (field ptr space by) rest m)
  field_brought ptr space by rest n pc m v into used stands h =
      from_pointer p e slots home base place y ptr m.temps s _ (suc n) m.state.work pc v tt
      (λ q i. let l = least_here ptr.at 2 need in
      let k = at_width p e slots home base place y (at_least ptr.at 2 need) m v ptr _ 2 h into.0 i refl (omega (arith, l, two)) in
      by_moved q k (moved (Some q) (referent_of p (Some q) s) (pos by)) refl)
    where
      s : State
      s = begun (field ptr space by) m

      need : Need
      need = needs at rest

      two : 2 ≤ ptr.bytes
      two = (some_bytes ptr.bytes (pointer_size space ptr.bytes into.1)).0

      code : List AsmItem
      code = point_code (home ptr)

      w : View
      w = block e code v

      set : IsFetched v (base ptr) 2 [] w
      set =
          z_is_set e (home ptr) ptr.bytes (base ptr) v two
          (y.layout.temps_at ptr into.0)
          (leaves_z (base ptr) ptr.bytes ptr.bytes (omega arith) (y.layout.temps_work ptr into.0))

      by_moved : (q : ObjectPointer) → HoldsContent p place v.at (base ptr) 2 ptr.bytes (points q)
          → (r : Result PointerValue Undefined) → moved (Some q) (referent_of p (Some q) s) (pos by) ≡ r
          → G (suc n) m.state.work pc v (next (given r s) (moved_on n rest ptr m))
      by_moved q k (Ok x) i =
          let low : value v.at (base ptr) 2 ≡ (place q.object + q.offset) % 65536 =
          k.0 ∙ sym (low_of_number ptr.bytes (place q.object + q.offset) 2 (home_of p q.object) (omega arith)) ∙ omega arith in
          let is : pair w.at 30 ≡ (place q.object + q.offset) % 65536 = set.pointer ∙ low in
          let z : (pair w.at 30 + 0) % 65536 ≡ (place q.object + q.offset) % 65536 = omega (arith, is) in
          let form = point_is_short (home ptr) in
          let most = form.1.1 in
          code_goes_past p functions e slots home base place y labels all end results me link stack code
          (items_told (Some (InZ (0 + by))) rest) (suc n) (suc n) m.state.work (m.state.work + op_steps (field ptr space by)) pc v
          (moved_on n rest ptr m x s) stands form.0 (omega arith) (omega (arith, most))
          (λ mid t. further_loads ptr space false by 0 n mid rest (at_least ptr.at 2 need) m v w q into k.1 x i used t h
          (λ u d. least_other ptr.at 2 u need) (λ j a b c d o. set.same j a (not_work j d 30 (omega arith) (omega arith))
          (not_work j d 31 (omega arith) (omega arith))) (set.numbers h.bytes) set.inputs set.safe
          (set.seen ∙ append-nil v.seen) z (λ k small b. absurd (false≢true k)))
      by_moved q k (Err point) i = tt

  -- ---- the pointer of an object

  -- the third byte of a pointer is its tag, where an address has two bytes
  third_is : (v : View) (a : ℕ) (q : ObjectPointer) → IsPointed p q → e.core ≡ Small
      → value v.at a 2 ≡ (place q.object + q.offset) % 65536
      → value v.at a 3 ≡ place q.object + q.offset + tag_of (home_of p q.object) * 65536
      → v.at (a + 2) ≡ tag_of (home_of p q.object)
  third_is v a q k small low whole =
      let room = (room_of p e slots home base place y q.object k.declared k.is_object k.addressable).end in
      let end = small_end e.core k.declared.home small in
      let within = k.within in
      omega (arith, room, end, within, low, whole)

  -- the operations that are left use the pointer in Z
  uses_follow : (rest : List PlainIr) (at_place n pc : ℕ) (need : Need) (m : Mach) (v : View)
      → is_used_by_z link.core tables at_place (slice_get rest 0) (slice_get rest 1) ≡ true → Left rest
      → HasAt e (items_told (Some (InZ 0)) rest) pc end → M need m v
      → ((u : ℕ) → u ≢ at_place → needs at rest u ≤ need u) → IsInZ true at_place 0 m v → Fewer n
      → G n m.state.work pc v (R n rest m)
  uses_follow [] at_place n pc need m v q left stands h more z go = absurd cc
  uses_follow (load_at to ptr space ∷ rest) at_place n pc need m v q left stands h more z go =
      loads (load_at to ptr space ∷ rest) true at_place 0 n m.state.work pc need m v q left stands h more z (omega arith) go
  uses_follow (field ptr space by ∷ rest) at_place zero pc need m v q left stands h more z go = stay p place e pc v m.state h.seen h.safe
  uses_follow (field ptr space by ∷ rest) at_place (suc n) pc need m v q left stands h more z go =
      checked functions p y.inputs place e n (suc n) m.state.work pc v all stack (field ptr space by) rest m
      (λ held. field_stays ptr space true by 0 rest n pc need m v left.covered.0.0
      (loads_use true (suc n) rest ptr.at (0 + by) loaded
      (record { covered = left.covered.1; live = left.live; inside = left.inside; here = left.here }) go) code h others
      (subst (λ a. IsInZ true a 0 m v) (sym same) z))
    where
      parts : ((ptr.at == at_place) ≡ true) × (is_load_by_z link.core tables true at_place by (slice_get rest 0) ≡ true)
      parts = and_parts (ptr.at == at_place) (is_load_by_z link.core tables true at_place by (slice_get rest 0)) q

      same : ptr.at ≡ at_place
      same = eqb-true ptr.at at_place parts.0

      begins : by ≡ 0 + by
      begins = omega arith

      loaded : is_load_by_z link.core tables true ptr.at (0 + by) (slice_get rest 0) ≡ true
      loaded =
          subst (λ k. is_load_by_z link.core tables true ptr.at k (slice_get rest 0) ≡ true) begins
          (subst (λ a. is_load_by_z link.core tables true a by (slice_get rest 0) ≡ true) (sym same) parts.1)

      others : (u : ℕ) → u ≢ ptr.at → needs at rest u ≤ need u
      others u d =
          let a = more u (λ r. d (r ∙ sym same)) in
          let b = least_other ptr.at 2 u (needs at rest) in
          omega (arith, a, b)

      code : HasAt e (items_told (Some (InZ (0 + by))) rest) pc end
      code =
          subst (λ (b : Bool). HasAt e (items_told (told_first (if b then Some (InZ (0 + by)) else None) None) rest) pc end)
          (ap (λ (b : Bool). b || (is_in_reach (0 + by) 0 && waits p home ptr.at (0 + by) (ahead 8 rest))) loaded)
          (used_behind p functions e slots home base place y labels all end results me link stack [] (Some (InZ 0))
          (field ptr space by) rest pc left.covered.0.1 (λ l none. none) stands)
  uses_follow (i ∷ rest) at_place n pc need m v q left stands h more z go = absurd cc

  -- or it waits there
  waits_follow : (rest : List PlainIr) (at_place n pc : ℕ) (need : Need) (m : Mach) (v : View)
      → waits_for p home at_place (slice_get rest 0) (soon at rest 0) (soon at rest 1) ≡ true → Left rest
      → HasAt e (items_told (Some (InZ 0)) rest) pc end → M need m v
      → ((u : ℕ) → u ≢ at_place → needs at rest u ≤ need u) → IsInZ true at_place 0 m v → Fewer n
      → G n m.state.work pc v (R n rest m)
  waits_follow (field ptr space by ∷ rest) at_place zero pc need m v q left stands h more z go = stay p place e pc v m.state h.seen h.safe
  waits_follow (field ptr space by ∷ rest) at_place (suc n) pc need m v q left stands h more z go =
      checked functions p y.inputs place e n (suc n) m.state.work pc v all stack (field ptr space by) rest m
      (λ held. field_stays ptr space true by 0 rest n pc need m v left.covered.0.0
      (rows_use true (suc n) rest ptr.at (0 + by) waited
      (record { covered = left.covered.1; live = left.live; inside = left.inside; here = left.here }) go) code h others
      (subst (λ a. IsInZ true a 0 m v) (sym same) z))
    where
      parts : ((ptr.at == at_place) ≡ true)
          × ((is_in_reach by 0 && others_wait 8 (field ptr space by) rest at_place by) ≡ true)
      parts = and_parts (ptr.at == at_place) (is_in_reach by 0 && others_wait 8 (field ptr space by) rest at_place by) q

      tests : (is_in_reach by 0 ≡ true) × (others_wait 8 (field ptr space by) rest at_place by ≡ true)
      tests = and_parts (is_in_reach by 0) (others_wait 8 (field ptr space by) rest at_place by) parts.1

      same : ptr.at ≡ at_place
      same = eqb-true ptr.at at_place parts.0

      begins : by ≡ 0 + by
      begins = omega arith

      waited : waits p home ptr.at (0 + by) (ahead 8 rest) ≡ true
      waited =
          subst (λ k. waits p home ptr.at k (ahead 8 rest) ≡ true) begins
          (subst (λ a. waits p home a by (ahead 8 rest) ≡ true) (sym same) (later 8 (field ptr space by) rest at_place by tests.1))

      reached : is_in_reach (0 + by) 0 ≡ true
      reached = subst (λ k. is_in_reach k 0 ≡ true) begins tests.0

      others : (u : ℕ) → u ≢ ptr.at → needs at rest u ≤ need u
      others u d =
          let a = more u (λ r. d (r ∙ sym same)) in
          let b = least_other ptr.at 2 u (needs at rest) in
          omega (arith, a, b)

      told : (is_load_by_z link.core tables true ptr.at (0 + by) (slice_get rest 0)
          || (is_in_reach (0 + by) 0 && waits p home ptr.at (0 + by) (ahead 8 rest))) ≡ true
      told =
          ap (λ (b : Bool). is_load_by_z link.core tables true ptr.at (0 + by) (slice_get rest 0)
          || (b && waits p home ptr.at (0 + by) (ahead 8 rest))) reached
          ∙ ap (λ (b : Bool). is_load_by_z link.core tables true ptr.at (0 + by) (slice_get rest 0) || b) waited
          ∙ or_true (is_load_by_z link.core tables true ptr.at (0 + by) (slice_get rest 0))

      code : HasAt e (items_told (Some (InZ (0 + by))) rest) pc end
      code =
          subst (λ (b : Bool). HasAt e (items_told (told_first (if b then Some (InZ (0 + by)) else None) None) rest) pc end) told
          (used_behind p functions e slots home base place y labels all end results me link stack [] (Some (InZ 0))
          (field ptr space by) rest pc left.covered.0.1 (λ l none. none) stands)
  waits_follow [] at_place n pc need m v q left stands h more z go =
      rows_use true n [] at_place 0 q left go m.state.work pc need m v stands h more z (omega arith)
  waits_follow (i ∷ rest) at_place n pc need m v q left stands h more z go =
      rows_use true n (i ∷ rest) at_place 0 q left go m.state.work pc need m v stands h more z (omega arith)

  -- the pointer is read to Z
  fetch_follows : (t : Temp) (o offset : ℕ) (rest : List PlainIr) (n pc : ℕ) (m : Mach) (v : View) → HasHome slots t
      → HasScalarAt p o offset t.bytes → is_table (kept_in p o) ≡ false → nat_le 2 t.bytes ≡ true
      → (is_used_by_z link.core tables t.at (slice_get rest 0) (slice_get rest 1)
      || waits_for p home t.at (slice_get rest 0) (soon at rest 0) (soon at rest 1)) ≡ true → Left rest
      → HasAt e (fetch_code (object_location p.objects o offset) t.bytes ++ items_told (Some (InZ 0)) rest) pc end
      → M (needs at (load_object t o offset ∷ rest)) m v → Fewer (suc n)
      → G (suc n) m.state.work pc v (P n (load_object t o offset) rest m)
  fetch_follows t o offset rest n pc m v it has in_data two used left stands h go = at_object (slice_get m.state.objects o) refl
    where
      i : PlainIr
      i = load_object t o offset

      s : State
      s = begun i m

      need1 : Need
      need1 = without t.at (needs at rest)

      space : SpaceId
      space = has.declared.space

      home_is : bank_of has.declared.home ≡ DataBank
      home_is = data_home has.declared.home (ap is_table (sym (kept_there p o has.declared has.is_object)) ∙ in_data)

      l : ObjectLeaf p DataBank
      l = leaf_with p DataBank o offset t.bytes has home_is

      a : ℕ
      a = place o + offset

      from : Location
      from = object_location p.objects o offset

      code : List AsmItem
      code = fetch_code from t.bytes

      w : View
      w = block e code v

      more_bytes : 2 ≤ t.bytes
      more_bytes = leb-true 2 t.bytes two

      fetched : IsFetched v a t.bytes (copy_log (kind_in has.declared.storage) Own a 30 v.at t.bytes) w
      fetched =
          pointers_are_fetched e from t.bytes a (kind_in has.declared.storage) v more_bytes
          (subst (λ (x : Location). StandsFrom e x t.bytes a (kind_in has.declared.storage))
          (sym (location_is p functions e slots home base place y labels all end results me link stack DataBank l))
          (y.layout.leaves_at l))
          (storage_held has.declared.storage)
          (leaves_z a t.bytes t.bytes (omega arith) (y.layout.leaves_work l))

      at_value : (x : ObjectState) (u : Value) → slice_get m.state.objects o ≡ Some x → leaf_of x has.number ≡ Some u
          → G (suc n) m.state.work pc v (load_on n rest t m u (after_read p e slots home base place y DataBank l space u s))
      at_value x u is_state j =
          let holds = h.leaves_hold l x u is_state j in
          let held = leaf_bytes p e slots home base place y DataBank l v h.bytes in
          let m1 = machine (with_temp t u m.temps) (after_read p e slots home base place y DataBank l space u s) in
          let c = content_of t.bytes u in
          let full : HoldsContent p place v.at a t.bytes t.bytes c =
          leaf_content p place v.at a t.bytes t.bytes u (omega arith) held holds in
          let none : HoldsContent p place v.at a 0 t.bytes c = leaf_content p place v.at a t.bytes 0 u (omega arith) held holds in
          let here : HoldsContent p place w.at (base t) (wanted need1 t) t.bytes c =
          subst (λ k. HoldsContent p place w.at (base t) k t.bytes c) (sym (none_wanted t (needs at rest)))
          (no_bytes p place v.at w.at a (base t) t.bytes c none) in
          let log =
          read_log has.declared.storage a 30 t.bytes (seen_number p place t.bytes (told u)) v.at
          (told_digit p place v.at a t.bytes u held holds) in
          let matches : M need1 m1 w =
          was_read p e slots home base place y DataBank l space t need1 need1 m v w (op_steps i) u it h (λ b d. omega arith) here
          (λ k x0 x1 low high o. fetched.same k x0 (not_work k high 30 (omega arith) (omega arith))
          (not_work k high 31 (omega arith) (omega arith))) (fetched.numbers h.bytes) fetched.inputs fetched.safe
          (fetched.seen ∙ ap (λ b. v.seen ++ b) log) in
          let z : IsInZ true t.at 0 m1 w = record {
            is = λ bytes q got.
                (let same : c ≡ points q = content_of_held _ _ (sym (held_at t c m.temps) ∙ got) in
                let points_there = subst (λ (k : Content). HoldsContent p place v.at a t.bytes t.bytes k) same full in
                let low =
                (pointer_parts v.at a t.bytes (place q.object + q.offset) (home_of p q.object) points_there.1.size held
                (pointed_below p e slots home base place y q points_there.1.pointed) points_there.0).low in
                let is : pair w.at 30 ≡ (place q.object + q.offset) % 65536 = fetched.pointer ∙ low in
                omega (arith, is));
            tag = λ yes small q got.
                (let mine = sym (held_at t c m.temps) ∙ got in
                let same : c ≡ points q = content_of_held _ _ mine in
                let three : t.bytes ≡ 3 = bytes_of_held _ _ mine in
                let points_there = subst (λ (k : Content). HoldsContent p place v.at a t.bytes t.bytes k) same full in
                fetched.third three
                ∙ third_is v a q points_there.1.pointed small
                ((pointer_parts v.at a t.bytes (place q.object + q.offset) (home_of p q.object) points_there.1.size held
                (pointed_below p e slots home base place y q points_there.1.pointed) points_there.0).low)
                ((pointer_parts v.at a t.bytes (place q.object + q.offset) (home_of p q.object) points_there.1.size held
                (pointed_below p e slots home base place y q points_there.1.pointed) points_there.0).whole three));
          } in
          let work : m1.state.work ≡ m.state.work + op_steps i = recorded_work has.declared.storage _ s in
          let form = fetches_are_short from t.bytes in
          let least = form.1.0 in
          let most = form.1.1 in
          let eight = it.most in
          code_goes_past p functions e slots home base place y labels all end results me link stack code
          (items_told (Some (InZ 0)) rest) n (suc n) m.state.work m1.state.work pc v (R n rest m1) stands form.0
          (omega (arith, least, more_bytes)) (omega (arith, most, eight, work))
          (λ mid there. ⊎_elim
          (λ (q : is_used_by_z link.core tables t.at (slice_get rest 0) (slice_get rest 1) ≡ true).
          uses_follow rest t.at n mid need1 m1 w q left there matches
          (λ b d. without_other t.at b (needs at rest) d) z (λ b d. go b (omega arith)))
          (λ (q : waits_for p home t.at (slice_get rest 0) (soon at rest 0) (soon at rest 1) ≡ true).
          waits_follow rest t.at n mid need1 m1 w q left there matches
          (λ b d. without_other t.at b (needs at rest) d) z (λ b d. go b (omega arith)))
          (either_so (is_used_by_z link.core tables t.at (slice_get rest 0) (slice_get rest 1))
          (waits_for p home t.at (slice_get rest 0) (soon at rest 0) (soon at rest 1)) used))

      at_object : (x : Option ObjectState) → slice_get m.state.objects o ≡ x
          → G (suc n) m.state.work pc v (next (read p (object_access p None o offset s) s) (load_on n rest t m))
      at_object None q =
          let none : object_access p None o offset s ≡ None = rw (has.is_object, q) refl in
          subst (λ z. G (suc n) m.state.work pc v (next (read p z s) (load_on n rest t m))) (sym none) tt
      at_object (Some x) q =
          let one : object_access p None o offset s ≡ Some (access_to p e slots home base place y DataBank l space x) =
          rw (has.is_object, q, has.found) refl in
          subst (λ z. G (suc n) m.state.work pc v (next (read p z s) (load_on n rest t m))) (sym one)
          (from_read p e slots home base place y DataBank l space x s (load_on n rest t m) (suc n) m.state.work pc v
          (λ u j. at_value x u q j))

  -- ---- both ways

  abbrev code_of : PlainIr → List PlainIr → List AsmItem
  code_of i rest = code_from p functions e slots home base place y labels all end results me link stack i rest

  -- whether an index is told
  abbrev pub index_told : Temp → List PlainIr → Option Told
  index_told t rest = if is_index_alone t (slice_get rest 0) (index_behind at rest) then Some Index else None

  abbrev pub load_items : Option Told → Temp → (o offset : ℕ) → List AsmItem
  load_items telling t o offset =
      by_kind (is_index telling t.bytes) (load_index_code link.core (kept_in p o) p.objects o offset t.bytes)
      (object_code telling link.core (kept_in p o) p.objects o offset (home t) t.bytes)

  -- the code of a load of an object of which no pointer stays in Z, and those behind it
  abbrev pub index_items : Temp → (o offset : ℕ) → List PlainIr → List AsmItem
  index_items t o offset rest = load_items (index_told t rest) t o offset ++ items_told (index_told t rest) rest

  -- a load of an object, and what uses its pointer
  pub object_goes : (t : Temp) (o offset : ℕ) (rest : List PlainIr) (n pc : ℕ) (m : Mach) (v : View) → HasHome slots t
      → HasScalarAt p o offset t.bytes → Left rest → HasAt e (own_told None (load_object t o offset) rest) pc end
      → M (needs at (load_object t o offset ∷ rest)) m v → Fewer (suc n)
      → (HasAt e (index_items t o offset rest) pc end → G (suc n) m.state.work pc v (P n (load_object t o offset) rest m))
      → G (suc n) m.state.work pc v (P n (load_object t o offset) rest m)
  object_goes t o offset rest n pc m v it has left stands h go plain =
      by_test (not (is_table (kept_in p o)) && (nat_le 2 t.bytes && used)) refl stands
    where
      used : Bool
      used =
          is_used_by_z link.core tables t.at (slice_get rest 0) (slice_get rest 1)
          || waits_for p home t.at (slice_get rest 0) (soon at rest 0) (soon at rest 1)

      telling : Bool → Option Told
      telling b = told_first (if b then Some (InZ 0) else None) (index_told t rest)

      by_test : (b : Bool) → (not (is_table (kept_in p o)) && (nat_le 2 t.bytes && used)) ≡ b
          → HasAt e (load_items (telling b) t o offset ++ items_told (telling b) rest) pc end
          → G (suc n) m.state.work pc v (P n (load_object t o offset) rest m)
      by_test false q stands = plain stands
      by_test true q stands =
          let a = and_parts (not (is_table (kept_in p o))) (nat_le 2 t.bytes && used) q in
          let b = and_parts (nat_le 2 t.bytes) used a.1 in
          fetch_follows t o offset rest n pc m v it has (not_true (is_table (kept_in p o)) a.0) b.0 b.1 left stands h go

  -- a member of a pointer, and the load that uses it
  pub field_goes : (ptr : Temp) (space : SpaceId) (by : ℕ) (rest : List PlainIr) (n pc : ℕ) (m : Mach) (v : View)
      → IsInto slots space ptr → Left rest → HasAt e (own_told None (field ptr space by) rest) pc end
      → M (needs at (field ptr space by ∷ rest)) m v → Fewer (suc n)
      → (HasAt e (code_of (field ptr space by) rest ++ items rest) pc end
      → G (suc n) m.state.work pc v (P n (field ptr space by) rest m))
      → G (suc n) m.state.work pc v (P n (field ptr space by) rest m)
  field_goes ptr space by rest n pc m v into left stands h go plain =
      by_test used refl stands
    where
      waited : Bool
      waited = is_in_reach (0 + by) 0 && waits p home ptr.at (0 + by) (ahead 8 rest)

      used : Bool
      used = is_load_by_z link.core tables false ptr.at (0 + by) (slice_get rest 0) || waited

      telling : Bool → Option Told
      telling b = told_first (if b then Some (InZ (0 + by)) else None) None

      by_test : (b : Bool) → used ≡ b
          → HasAt e (further_code None (telling b) link.core ptr.bytes (home ptr) by ++ items_told (telling b) rest) pc end
          → G (suc n) m.state.work pc v (P n (field ptr space by) rest m)
      by_test false q stands = plain stands
      by_test true q stands =
          ⊎_elim
          (λ (loaded : is_load_by_z link.core tables false ptr.at (0 + by) (slice_get rest 0) ≡ true).
          field_brought ptr space by rest n pc m v into (loads_use false (suc n) rest ptr.at (0 + by) loaded left go) stands h)
          (λ (some : waited ≡ true).
          field_brought ptr space by rest n pc m v into
          (rows_use false (suc n) rest ptr.at (0 + by)
          (and_parts (is_in_reach (0 + by) 0) (waits p home ptr.at (0 + by) (ahead 8 rest)) some).1 left go) stands h)
          (either_so (is_load_by_z link.core tables false ptr.at (0 + by) (slice_get rest 0)) waited q)
