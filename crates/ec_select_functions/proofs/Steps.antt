-- One operation after another: what the code of each operation does for it.
use Rattle.std.proofs.Common.{◌≡◌, ◌≢◌, ℕ, zero, suc, ◌+◌, ◌-◌, ◌*◌, ◌%◌, ◌^◌, ◌<◌, ◌≤◌, min, Bool, true, false, not, ℤ}
use Rattle.std.proofs.Common.{pos, ◌*ℤ◌, unsigned_abs, Ok, Err, List, [], ◌∷◌, ◌++◌, ◌&&◌, ◌||◌, ⊎_elim, refl, sym}
use Rattle.std.proofs.Common.{ap, ◌∙◌, subst, arith, ◌/◌, Some, None, Option, append-nil}
use Rattle.std.specs.Prelude.{max, bit_and, Result, ◌==◌, nat_le, if◌then◌else◌, slice_get, slice_index, Contains}
use Rattle.std.specs.Prelude.{IsSomeAnd, ◌⊎◌, get_or, nat_lt}
use Rattle.std.proofs.lemmas.List.Elements.{Contains-append_right}
use Rattle.ec_ir.specs.Valid.{called_in}
use Rattle.std.specs.Int.{from_bool}
use Rattle.std.specs.Ordering.{int_eq}
use Rattle.std.proofs.lemmas.Bool.{cases_Bool, cases_lt, eqb-true, eq-eqb, leb-true, le-leb, ne_eqb, and_parts}
use Rattle.std.proofs.lemmas.Bool.{or_cases, or_right, cases_eq, false≢true, lt-ltb}
use Rattle.std.proofs.lemmas.Nat.{mod_below, mul-le, and_le_r}
use Rattle.ec_fx.specs.declared.formats.FxKind.{FxKind}
use Rattle.ec_fx.specs.declared.numbers.Mode.{Mode}
use Rattle.ec_fx.specs.Formats.{format_of}
use Rattle.ec_asm.specs.declared.items.AsmItem.{AsmItem}
use Rattle.ec_asm.specs.declared.items.AsmItem.TheVariants.{BranchTo}
use Rattle.ec_asm.specs.declared.pieces.Location.{Location}
use Rattle.ec_asm.specs.declared.pieces.Location.TheVariants.{InRegisters}
use Rattle.ec_asm.specs.declared.pieces.Operator.{Operator}
use Rattle.ec_asm.specs.declared.pieces.Operator.TheVariants.{Sum, Difference, BitAnd, BitOr, BitXor}
use Rattle.ec_asm.specs.View.{View}
use Rattle.ec_asm.specs.Change.{Env, Own, flag_at}
use Rattle.ec_asm.specs.Items.{HasAt, BranchesAt, block, code_steps, all_straight}
use Rattle.ec_asm.specs.Pieces.{StandsFrom, KindIs, Outside, KeepsAll, value, copy_code, operate_code, compare_code}
use Rattle.ec_asm.specs.Pieces.{address as address_at}
use Rattle.ec_asm.specs.PieceLaws.{HoldsNumbers}
use Rattle.ec_asm.specs.Takes.{Goes, if_bit}
use Rattle.ec_asm.proofs.Hoare.{has_parts, block_goes, goes_on_to, steps-append, straight-append, block-append}
use Rattle.ec_asm.proofs.Numbers.{value_mod}
use Rattle.ec_asm.proofs.Numbers.{value_digit}
use Rattle.ec_asm.proofs.Results.{pieces_are_straight, pieces_take, comparisons_keep}
use Rattle.ec_asm.proofs.Sum.{value-same}
use Rattle.ec_asm.proofs.Takes.{jump_goes, branch_taken, branch_passed, jump_has_word, branch_has_word}
use Rattle.ec_core.specs.declared.expressions.BinOp.{BinOp}
use Rattle.ec_core.specs.declared.expressions.BinOp.TheVariants.{Add, Sub, Mul, Div, Rem, Shl, Shr, And, Or, Xor, Lt}
use Rattle.ec_core.specs.declared.expressions.BinOp.TheVariants.{Gt, Le, Ge, Eq, Ne}
use Rattle.ec_core.specs.declared.expressions.UnOp.{UnOp}
use Rattle.ec_core.specs.declared.expressions.UnOp.TheVariants.{Minus, Invert}
use Rattle.ec_core.specs.declared.values.ObjectPointer.{ObjectPointer}
use Rattle.ec_core.specs.declared.values.Value.{Value}
use Rattle.ec_core.specs.declared.values.Value.TheVariants.{Number}
use Rattle.ec_core.specs.Accesses.{operand_of}
use Rattle.ec_core.specs.Layout.{scalar_size}
use Rattle.ec_core.specs.declared.values.Undefined.TheVariants.{ShiftCount, ZeroDivisor}
use Rattle.ec_core.specs.Integers.{wrapped, is_count}
use Rattle.ec_core.specs.declared.values.Undefined.{Undefined}
use Rattle.ec_core.specs.ArithmeticValues.{arithmetic_value, unary_value, conversion_value}
use Rattle.ec_core.specs.Operators.{Operand, same_type, unary_result, binary_result, conversion_result, as_number}
use Rattle.ec_core.specs.Operators.{number_type}
use Rattle.ec_core.specs.Words.{widest, operation_words}
use Rattle.ec_core.specs.Plain.{PlainType, integer, fixed, pointer, array, struct, void, PlainProgram}
use Rattle.ec_core.specs.State.{State, worked, Outcome, got, next, given}
use Rattle.ec_ir.specs.declared.operations.Temp.{Temp}
use Rattle.ec_ir.specs.Costs.{op_steps, binary_words, conversion_words, is_bitwise, is_integer}
use Rattle.ec_ir.specs.Meaning.{Mach, machine, held_as, find}
use Rattle.ec_ir.specs.Meaning.{jump_to, Frame as Call}
use Rattle.ec_ir.specs.Operations.{PlainIr, constant, copy, load_object, store_object, binary_op, conversion, label}
use Rattle.ec_ir.specs.Operations.{jump, branch_zero, return_from, address, field, load_at, store_at, unary_op}
use Rattle.ec_ir.specs.Operations.{call_function, port_in, port_out, load_cell, store_cell, cell_port, PlainIrFunction}
use Rattle.ec_ir.specs.Temporaries.{Content, bits, points, number_of_bytes, low_bytes, Temps, content_of, value_in}
use Rattle.ec_ir.specs.Temporaries.{Held, with_content, with_temp, is_zero}
use Rattle.ec_select_operations.specs.Homes.{HasHome}
use Rattle.ec_ir_known.specs.declared.known.RightNumber.{RightNumber}
use Rattle.ec_ir_known.specs.Known.{known_at, is_byte, changes_byte, takes_alone}
use Rattle.ec_select_bytes.specs.Values.{test_code, extend_code, widen_code}
use Rattle.ec_select_bytes.proofs.Tests.{tests_keep}
use Rattle.ec_select_bytes.specs.Complements.{negation_code}
use Rattle.ec_select_bytes.proofs.Straight.{values_are_straight, values_take, complements_are_straight}
use Rattle.ec_select_bytes.proofs.Straight.{complements_take}
use Rattle.ec_select_order.specs.declared.relations.Relation.{Relation}
use Rattle.ec_select_order.specs.declared.relations.Relation.TheVariants.{Less, NotLess, Equal, NotEqual}
use Rattle.ec_select_order.specs.Relations.{stand_so, flag_of, is_set, relation_in_code}
use Rattle.ec_select_order.proofs.Truths.{flag_is, fails_in_flag, holds_in_flag, relations_are_told_in}
use Rattle.ec_select_places.specs.Numbers.{Place, number_of, places_stand}
use Rattle.ec_select_products.specs.Products.{product_of, product_code}
use Rattle.ec_select_products.specs.Laws.{Leads}
use Rattle.ec_select_products.proofs.Multiplied.{products_are_right}
use Rattle.ec_select_shifts.specs.Shifts.{shifted_by}
use Rattle.ec_select_quotients.specs.Signs.{quotient_of, quotient_code}
use Rattle.ec_select_quotients.specs.SignLaws.{IsClearOf}
use Rattle.ec_select_quotients.proofs.Signed.{quotients_are_right}
use Rattle.ec_select_operations.specs.declared.families.Family.{Family}
use Rattle.ec_select_operations.specs.declared.families.Family.TheVariants.{Combined, Compared, Multiplied, Shifted}
use Rattle.ec_select_operations.specs.declared.families.Family.TheVariants.{Divided}
use Rattle.ec_select_operations.specs.declared.families.Told.{Told}
use Rattle.ec_select_operations.specs.declared.families.Told.TheVariants.{Operands, InZ, Index}
use Rattle.ec_select_operations.specs.Code.{Linkage, told_of, is_only_tested, tells, tells_next, flag_code, is_signed, compared_signed}
use Rattle.ec_select_operations.specs.Code.{is_over_jump, turned as turned_round, tested_code, is_mask, is_masked}
use Rattle.ec_select_operations.specs.Code.{is_untold, related_bytes, pointers_code}
use Rattle.ec_select_operations.specs.Code.{told_taking, masked_code, told_number_code, op_code, own_code, called_code}
use Rattle.ec_select_operations.specs.Code.{linked_code, result_wanted, needed_behind, ops_code, family_of, same_location}
use Rattle.ec_select_operations.specs.Code.{reversed_code, is_index_alone, index_behind}
use Rattle.ec_select_operations.specs.Code.{combined_code, binary_code, turn_code, unary_code, move_code, transfer_code}
use Rattle.ec_select_operations.specs.Code.{counted_by_code, bytes_code, counted_code, taking_code, changed_by_code}
use Rattle.ec_select_operations.specs.Code.{integer_binary as integer_code, family_taking, signed_taking, masks_low, low_mask_code}
use Rattle.ec_select_operations.specs.Code.{joined_code, leaves_bit, top_bit_code}
use Rattle.ec_select_operations.specs.declared.bounds.Bound.{Bound}
use Rattle.ec_select_operations.specs.Bounds.{bound_of, bounded_code, truth_by_code}
use Rattle.ec_select_operations.specs.Code.{conversion_code, truth_register, truth_at_code, turned_code, shift_of, shifted_bytes, long_code}
use Rattle.ec_select_functions.specs.Covered.{IsCovered, IsBinary, IsUnary, AreConverted}
use Rattle.ec_select_functions.specs.Covered.{AreIntegers, AreCompared}
use Rattle.ec_select_functions.specs.Covered.{IsFixedBinary, IsFixedUnary, IsFixedConversion}
use Rattle.ec_select_functions.specs.Covered.{IsPointerBinary, IsPointerConversion}
use Rattle.ec_select_fixed.specs.Types.{IsFixedType, IsNumberType}
use Rattle.ec_select_fixed.proofs.Suits.{AreSuited, operands_suit}
use Rattle.ec_select_operations.specs.Code.{told_by, by_kind as code_by_kind, fixed_binary, answer_code, answer_location}
use Rattle.ec_select_operations.specs.Code.{fixed_unary, fixed_conversion, keeps_number, is_apart, is_on_integers, operator_code}
use Rattle.ec_select_operations.specs.Code.{work_location, wanted_bytes, is_placed, placed_whole, placed_binary, is_brought, brought_code}
use Rattle.ec_select_operations.specs.Code.{negated_code, negated_unary}
use Rattle.ec_fxcode_formats.specs.Brought.{bring_code}
use Rattle.ec_select_fixed.specs.Codes.{fixed_binary_code, fixed_unary_code, fixed_conversion_code}
use Rattle.ec_select_fixed.specs.FixedLaws.{IsBinaryResult, IsUnaryResult, IsConversionResult, binary_room, unary_room}
use Rattle.ec_select_fixed.specs.FixedLaws.{conversion_room}
use Rattle.ec_fxcode_quotients.specs.QuotientLaws.{AreSlots, operand_in as fixed_operand_in}
use Rattle.ec_select_fixed.specs.Types.{format_in}
use Rattle.ec_select_fixed.proofs.Conversions.{AreConverted as AreNumberTypes, converted_types}
use Rattle.ec_select_fixed.proofs.Converted.{conversion_told}
use Rattle.ec_select_fixed.proofs.Formats.{fixed_number_type}
use Rattle.ec_select_fixed.proofs.Operators.{IsNumber, as_told, binary_told}
use Rattle.ec_select_fixed.specs.FixedLaws.{AreOperandSlots, HasOperandBytes}
use Rattle.ec_select_operations.specs.Needs.{is_fixed, is_whole, first_wanted, second_wanted, only_wanted, right_needed}
use Rattle.ec_select_operations.specs.Needs.{takes_number, takes_known, number_known, number_taken, numbered}
use Rattle.ec_select_operations.specs.Needs.{moves_pointer, compared_bytes, is_counted, count_taken, takes_count}
use Rattle.ec_select_operations.specs.Needs.{takes_whole, right_taken, is_low_mask, masked_bytes}
use Rattle.ec_select_operations.specs.Needs.{joined_bytes}
use Rattle.ec_select_operations.specs.Pointers.{is_pointer, address_number, IsPointerIn, has_tables}
use Rattle.ec_select_operations.specs.Code.{pointer_binary, pointer_conversion}
use Rattle.ec_select_operations.specs.Places.{IsNumeric}
use Rattle.ec_select_operations.specs.Needs.{Need, Facts, facts_of, before, needs}
use Rattle.ec_select_operations.specs.Needs.{IsLiveBy, wanted, at_least, without, either, returned_need}
use Rattle.ec_select_operations.specs.Needs.{all_or_none, operand_wanted, right_wanted}
use Rattle.ec_select_operations.specs.Places.{IsClear}
use Rattle.ec_select_functions.proofs.Setting.{Setting}
use Rattle.ec_select_functions.specs.Relation.{Matches, HoldsContent}
use Rattle.ec_select_operations.specs.Routines.{HasRoutineOf, body_by, division_body}
use Rattle.ec_select_routines.specs.Codes.{binary_body, unary_body, conversion_body, quotient_body, call_with_one, call_with_two}
use Rattle.ec_select_routines.specs.Laws.{HasRoutine}
use Rattle.ec_select_functions.proofs.ByRoutine.{pointers_have_none, converted_pointers_have_none, conversions_have_none}
use Rattle.ec_select_functions.proofs.ByRoutine.{unaries_have_none, divided_number, divided_untold, untold_by, has_work, operand_at}
use Rattle.ec_select_functions.proofs.ByRoutine.{can_push}
use Rattle.ec_select_functions.proofs.Going.{Ready as IsReady, IsRunning, passes as code_passes, goes_past as code_goes_past}
use Rattle.ec_select_functions.proofs.Going.{IsLinked, AreReady, at_use as used, at_use_behind as used_behind}
use Rattle.ec_select_functions.proofs.Behind.{GoesBehind}
use Rattle.ec_select_functions.proofs.MemorySteps.{address_follows, field_follows, load_at_follows, store_at_follows}
use Rattle.ec_select_functions.proofs.MemorySteps.{load_follows, store_follows, load_index_follows}
use Rattle.ec_select_functions.proofs.InZ.{object_goes, field_goes, index_items}
use Rattle.ec_select_functions.proofs.PointerNumbers.{place_of, objects_have_places, address_is, address_low}
use Rattle.ec_select_functions.proofs.PointerNumbers.{number_below}
use Rattle.ec_select_functions.proofs.PointerSteps.{pointer_binary_follows, pointer_conversion_follows, no_fixed_operand}
use Rattle.ec_select_functions.proofs.PointerSteps.{index_follows, comparison_decided, pointer_size}
use Rattle.ec_select_functions.proofs.Computed.{stand, constant_matches, copy_matches, binary_matches, moved_numbers}
use Rattle.ec_select_functions.proofs.Computed.{result_of, location_is, location_same}
use Rattle.ec_select_functions.proofs.Taken.{is_changed, TakesSum, TakesOrder, TakesShift, takes, taken_is, compared_some}
use Rattle.ec_select_functions.proofs.Taken.{is_joined, joins}
use Rattle.ec_select_functions.proofs.Taken.{whole_unmoved, fixed_unmoved, TakenNumber, as_known, no_number, HasNumber}
use Rattle.ec_select_functions.proofs.Taken.{number_or_none, compares, is_order, turned_unmoved, or_turned}
use Rattle.ec_select_functions.proofs.ByNumber.{changed_form, right_held, on_no_bytes, ByteNumber, byte_value}
use Rattle.ec_select_functions.proofs.ByNumber.{byte_bytes, number_low, number_matches, AreTested, tested_held}
use Rattle.ec_select_functions.proofs.ByNumber.{number_there, bytes_held, IsAlone, alone_held, stored_held}
use Rattle.ec_select_functions.proofs.Joined.{joined_matches}
use Rattle.ec_select_functions.proofs.TopBits.{leaves_top_bit, byte_leaves_none, top_bit, bit_of, bit_below}
use Rattle.ec_select_operations.specs.Tests.{number_test}
use Rattle.ec_select_functions.proofs.Joins.{changed_bytes, number_tested, IsBriefTest, test_form}
use Rattle.ec_select_functions.proofs.Bounds.{flag_bit, flag_tells, bounded_form, temp_relates, temp_tells}
use Rattle.ec_select_functions.proofs.Next.{stands_to, bound_stands}
use Rattle.ec_select_functions.proofs.LowMasks.{IsLowMasked, IsUnmasked, mask_or_not, low_mask_matches}
use Rattle.ec_select_operations.specs.Needs.{moved_wanted, pointer_wanted}
use Rattle.ec_select_functions.proofs.Extended.{Converted, converted, conversion_matches}
use Rattle.ec_select_functions.proofs.FixedRuns.{answer_passes, by_itself, slots_of, operand_slots_of}
use Rattle.ec_select_functions.proofs.Carried.{brought_passes}
use Rattle.ec_select_functions.proofs.Checked.{is_known, checked_on, performed, checked}
use Rattle.ec_select_functions.proofs.Counts.{IsCounted, counted_is, never_on_integers, not_counted, right_none, right_same}
use Rattle.ec_select_functions.proofs.Counts.{none_on_integers, on_uncounted, none_counted}
use Rattle.ec_select_functions.proofs.Counts.{unmoved_takes, uncounted_takes}
use Rattle.ec_select_functions.proofs.Counts.{TakesCount, count_is_taken}
use Rattle.ec_select_functions.proofs.Negated.{negated_passes}
use Rattle.ec_select_functions.proofs.Placed.{binary_roomy, KnownCount, located_apart, count_passes, placed_passes}
use Rattle.ec_select_functions.proofs.Follow.{Follows, after, stay, from_held, from_number}
use Rattle.ec_select_functions.proofs.Match.{kept_left, wanted_most, read_first, whole, at_width, weaker, written}
use Rattle.ec_select_functions.proofs.Match.{written_wide, free_changed}
use Rattle.ec_select_functions.proofs.Match.{same_content, same_leaf, least_here, least_other, without_other}
use Rattle.ec_select_functions.proofs.Match.{held_row}
use Rattle.ec_select_functions.proofs.PortSteps.{in_follows, out_follows, load_cell_follows, store_cell_follows}
use Rattle.ec_select_functions.proofs.PortSteps.{cell_in_follows, cell_out_follows}
use Rattle.ec_select_functions.proofs.Moves.{Frame, Wide, widened, wider_frame, work_outside, row_kept, narrower}
use Rattle.ec_select_functions.proofs.Moves.{stands_less, move_straight, move_steps}
use Rattle.ec_select_functions.proofs.Moves.{move_holds, row_value}
use Rattle.ec_select_functions.proofs.Numbers.{gives_of}
use Rattle.ec_select_functions.proofs.Numeric.{sign_in, number_in, value_is, from_typed}
use Rattle.ec_select_functions.proofs.OnIntegers.{whole_of, whole_type, negation_as, number_kept}
use Rattle.ec_select_functions.proofs.OnWholes.{IsOnWholes, on_wholes, more_needed, at_most_all}
use Rattle.ec_select_functions.proofs.Orders.{first_of_two, decided, byte_order}
use Rattle.ec_select_functions.proofs.Related.{TellsTo, tells_to, told_matches}
use Rattle.ec_select_functions.proofs.Truth.{bit_is, not_not, not_zero_bit, truth_low, held_at, content_of_held, same_temp}
use Rattle.ec_select_functions.proofs.Ordered.{ArePlaces, bytes_stand, related_within, IsPointerType, pointer_type, told_pointers}
use Rattle.ec_select_functions.proofs.Ordered.{no_two_pointers, first_of, both_unmoved}
use Rattle.ec_select_functions.proofs.PointerNumbers.{places_compare, MayCompare}
use Rattle.ec_select_places.specs.FarLaws.{MayRelate}
use Rattle.ec_core.specs.Accesses.{element_size}
use Rattle.ec_core.specs.ArithmeticValues.{is_comparison}
use Rattle.ec_space.specs.Spaces.{width}
use Rattle.ec_space.specs.declared.space.SpaceId.{SpaceId}
use Rattle.ec_select_operations.specs.Pointers.{IsPointerSize}
use Rattle.ec_select_functions.proofs.Tested.{TellsTruth, zero_told, turned_told}
use Rattle.ec_select_functions.proofs.Masked.{mask_byte, order_unmasked, shift_unmasked, mask_low, masks}
use Rattle.ec_select_functions.proofs.Masked.{masked_form}
use Rattle.ec_select_functions.proofs.Multiplied.{product_low}
use Rattle.ec_select_functions.proofs.Shifted.{count_is, shift_number, shift_low, shift_part, shifted_below}
use Rattle.ec_select_shifts.specs.declared.shifts.Direction.{Direction}
use Rattle.ec_select_shifts.specs.declared.shifts.Direction.TheVariants.{Right}
use Rattle.ec_select_functions.proofs.Shifted.{turned_leads, counted_leads, byte_shift}
use Rattle.ec_select_functions.proofs.Divided.{int_part, quotient_low, not_zero}
use Rattle.ec_select_functions.proofs.Turned.{turned, turns, unary_matches}
use Rattle.ec_select_functions.proofs.Wrapped.{low_of_wrapped, low_below, kept_below}

module _ (p : PlainProgram) (functions : List PlainIrFunction) (e : Env) (slots : ℕ) (home : Temp → Location)
    (base : Temp → ℕ) (place : ℕ → ℕ) (y : Setting p e slots home base place) (labels : ℕ → Need) (all : List PlainIr)
    (end : ℕ) (results : ℕ → ℕ) (me : ℕ) (link : Linkage) (stack : List Call) where
  -- what the code of the function is made by
  abbrev at : Facts
  at = facts_of (has_tables p.objects) labels all

  abbrev pub M : Need → Mach → View → Type 0
  M need m v = Matches p e y.inputs slots base place y.aside y.stands y.active y.called need m v

  abbrev pub G : (n w pc : ℕ) → View → Outcome Value → Type 0
  G n w pc v o = Follows p place e n w pc v o

  -- the code of operations, of which the first one has been told so much
  abbrev pub items_told : Option Told → List PlainIr → List AsmItem
  items_told told code = ops_code p home link at told code

  abbrev pub items : List PlainIr → List AsmItem
  items code = items_told None code

  -- that of one at its use, which has been told nothing, tells nothing, and takes no number
  abbrev pub code_of : PlainIr → List PlainIr → List AsmItem
  code_of i rest = own_code p home link None None None (needed_behind labels (needs at rest) i) i

  -- an operation whose code stands at its use and which has been told so much, and those behind it
  abbrev own_told : Option Told → PlainIr → List PlainIr → List AsmItem
  own_told told i rest =
      own_code p home link told (tells_next link.core p home at told i rest) (at.known (i ∷ rest))
      (needed_behind labels (needs at rest) i) i
      ++ items_told (tells_next link.core p home at told i rest) rest

  abbrev own_items : PlainIr → List PlainIr → List AsmItem
  own_items i rest = own_told None i rest

  -- one that calls a routine with a label, if there is one, and those behind it
  abbrev linked_items : Option ℕ → PlainIr → List PlainIr → List AsmItem
  linked_items routine i rest =
      linked_code routine (λ l. called_code home l (result_wanted (needed_behind labels (needs at rest) i) i) i)
      (own_code p home link None (tells_next link.core p home at None i rest) (at.known (i ∷ rest))
      (needed_behind labels (needs at rest) i) i)
      ++ items_told (tells_next link.core p home at None i rest) rest

  -- an operation that takes no number, and those behind it
  abbrev plain_told : PlainIr → List PlainIr → Option Told
  plain_told i rest =
      tells None None i (slice_get rest 0) (slice_get rest 1) (slice_index (wanted_bytes at rest) 0) (index_behind at rest)

  abbrev plain_items : PlainIr → List PlainIr → List AsmItem
  plain_items i rest =
      own_code p home link None (plain_told i rest) None (needed_behind labels (needs at rest) i) i ++ items_told (plain_told i rest) rest

  -- the same where its second operand may be known to hold a number
  abbrev known_items : Option RightNumber → PlainIr → List PlainIr → List AsmItem
  known_items known i rest =
      own_code p home link None (plain_told i rest) known (needed_behind labels (needs at rest) i) i ++ items_told (plain_told i rest) rest

  -- what is needed before it, if it moves no pointer
  abbrev plain_needs : PlainIr → List PlainIr → Need
  plain_needs (binary_op op ty mode t a aty b bty) rest =
      at_least a.at (first_wanted (is_apart (family_of op) mode ty aty bty) op a.bytes (wanted (needs at rest) t))
      (at_least b.at (second_wanted (is_apart (family_of op) mode ty aty bty) op b.bytes (wanted (needs at rest) t))
      (without t.at (needs at rest)))
  plain_needs i rest = before labels None i (needs at rest)

  abbrev pub Ready : (pc : ℕ) (rest : List PlainIr) → Type 0
  Ready pc rest = IsReady p functions e slots home base place y labels all end results me link stack pc rest

  -- the run of operations from here on
  abbrev pub R : ℕ → List PlainIr → Mach → Outcome Value
  R n rest m = checked_on functions p y.inputs n all stack rest m

  -- an operation, and those behind it
  abbrev pub P : ℕ → PlainIr → List PlainIr → Mach → Outcome Value
  P n i rest m = performed functions p y.inputs n all stack i rest m

  -- what is shown of the rest
  abbrev pub Rest : ℕ → List PlainIr → Type 0
  Rest n rest = (pc : ℕ) (m : Mach) (v : View) → HasAt e (items rest) pc end → M (needs at rest) m v
      → G n m.state.work pc v (R n rest m)

  -- the state once the steps of an operation are counted
  abbrev begun : PlainIr → Mach → State
  begun i m = worked (op_steps i) m.state

  passes : (i : PlainIr) (rest : List PlainIr) (n n1 w w1 pc : ℕ) (v : View) (o : Outcome Value)
      → HasAt e (code_of i rest ++ items rest) pc end → all_straight (code_of i rest) ≡ true
      → n1 ≤ code_steps (code_of i rest) + n → w + code_steps (code_of i rest) ≤ w1
      → ((mid : ℕ) → HasAt e (items rest) mid end → G n w1 mid (block e (code_of i rest) v) o) → G n1 w pc v o
  passes i rest n n1 w w1 pc v o stands straight least most f =
      code_passes p functions e slots home base place y labels all end results me link stack i rest n n1 w w1 pc v o stands straight
      least most f

  goes_past : (code behind : List AsmItem) (n n1 w w1 pc : ℕ) (v : View) (o : Outcome Value)
      → HasAt e (code ++ behind) pc end → all_straight code ≡ true → n1 ≤ code_steps code + n → w + code_steps code ≤ w1
      → ((mid : ℕ) → HasAt e behind mid end → G n w1 mid (block e code v) o) → G n1 w pc v o
  goes_past = code_goes_past p functions e slots home base place y labels all end results me link stack

  pub constant_follows : (t : Temp) (k : ℤ) (rest : List PlainIr) (n pc : ℕ) (m : Mach) (v : View) → HasHome slots t
      → HasAt e (own_items (constant t k) rest) pc end → M (without t.at (needs at rest)) m v → Rest (suc n) rest
      → G (suc n) m.state.work pc v (P n (constant t k) rest m)
  constant_follows t k rest n pc m v it stands h f =
      let need = needs at rest in
      let c = op_steps (constant t k) in
      let low = low_bytes t.bytes k in
      let m1 = machine (with_content t (bits low) m.temps) (worked c m.state) in
      let take = (y.numbers.put_straight (home t) (low_bytes 16 k) (wanted need t)).few_steps in
      let most = wanted_most need t in
      let small : code_steps (code_of (constant t k) rest) ≤ 64 * (5 * t.bytes) = omega (arith, take, most) in
      passes (constant t k) rest (suc n) (suc n) m.state.work m1.state.work pc v (R (suc n) rest m1) stands
      (y.numbers.put_straight (home t) (low_bytes 16 k) (wanted need t)).is_straight (omega arith) (omega (arith, small))
      (λ mid s. f mid m1 _ s (constant_matches p e slots home base place y t need m v k c it h))

  pub copy_follows : (t u : Temp) (rest : List PlainIr) (n pc : ℕ) (m : Mach) (v : View) → HasHome slots t → HasHome slots u
      → t.bytes ≡ u.bytes → HasAt e (own_items (copy t u) rest) pc end
      → M (at_least u.at (wanted (needs at rest) t) (without t.at (needs at rest))) m v → Rest (suc n) rest
      → G (suc n) m.state.work pc v (P n (copy t u) rest m)
  copy_follows t u rest n pc m v it iu same stands h f =
      let need = needs at rest in
      let c = op_steps (copy t u) in
      let take = move_steps (home u) (home t) (wanted need t) in
      let most = wanted_most need t in
      let small : code_steps (code_of (copy t u) rest) ≤ 64 * (5 * t.bytes) = omega (arith, take, most) in
      from_held p place e u m.temps (worked c m.state) _ (suc n) m.state.work pc v
      (λ x q w.
      let m1 = machine (with_content t x.content m.temps) (worked c m.state) in
      passes (copy t u) rest (suc n) (suc n) m.state.work m1.state.work pc v (R (suc n) rest m1) stands
      (move_straight (home u) (home t) (wanted need t)) (omega arith) (omega (arith, small))
      (λ mid s. f mid m1 _ s (copy_matches p e slots home base place y t u need m v x c it iu same q w h)))

  -- ---- operators

  reversed_straight : (op : Operator) (a t : Location) (n : ℕ) → all_straight (reversed_code op a t n) ≡ true
  reversed_straight Sum a t n = (pieces_are_straight Sum a t n).1
  reversed_straight BitAnd a t n = (pieces_are_straight BitAnd a t n).1
  reversed_straight BitOr a t n = (pieces_are_straight BitOr a t n).1
  reversed_straight BitXor a t n = (pieces_are_straight BitXor a t n).1
  reversed_straight Difference a t n =
      straight-append (operate_code Difference a t n) (negation_code t n) (pieces_are_straight Difference a t n).1
      (complements_are_straight t n).1

  reversed_steps : (op : Operator) (a t : Location) (n : ℕ) → code_steps (reversed_code op a t n) ≤ 10 * n + 1
  reversed_steps Sum a t n = let z = (pieces_take Sum a t n).1.1 in omega (arith, z)
  reversed_steps BitAnd a t n = let z = (pieces_take BitAnd a t n).1.1 in omega (arith, z)
  reversed_steps BitOr a t n = let z = (pieces_take BitOr a t n).1.1 in omega (arith, z)
  reversed_steps BitXor a t n = let z = (pieces_take BitXor a t n).1.1 in omega (arith, z)
  reversed_steps Difference a t n =
      let z = (pieces_take Difference a t n).1.1 in
      let w = (complements_take t n).1 in
      omega (arith, steps-append (operate_code Difference a t n) (negation_code t n), z, w)

  combined_straight : (op : Operator) (a b t : Location) (n : ℕ) → all_straight (combined_code op a b t n) ≡ true
  combined_straight op a b t n = by_place (same_location b t) where
    by_place : (same : Bool) → all_straight (if same then reversed_code op a t n else move_code a t n ++ operate_code op b t n) ≡ true
    by_place true = reversed_straight op a t n
    by_place false = straight-append (move_code a t n) (operate_code op b t n) (move_straight a t n) (pieces_are_straight op b t n).1

  combined_steps : (op : Operator) (a b t : Location) (n : ℕ) → code_steps (combined_code op a b t n) ≤ 10 * n + 1
  combined_steps op a b t n = by_place (same_location b t) where
    by_place : (same : Bool) → code_steps (if same then reversed_code op a t n else move_code a t n ++ operate_code op b t n) ≤ 10 * n + 1
    by_place true = reversed_steps op a t n
    by_place false =
        let x = move_steps a t n in
        let z = (pieces_take op b t n).1.1 in
        omega (arith, steps-append (move_code a t n) (operate_code op b t n), x, z)

  -- the words of an operator
  operator_big : (op : BinOp) (ty aty bty : PlainType) (n : ℕ) → n ≤ scalar_size ty → 10 * n + 1 ≤ 64 * binary_words op ty aty bty
  operator_big op ty aty bty n l = by_kind (is_bitwise op && is_integer ty)
    where
      wide : n ≤ widest (ty ∷ aty ∷ bty ∷ [])
      wide = omega (arith, l)

      by_kind : (x : Bool)
          → 10 * n + 1 ≤ 64 * (if x then 10 * widest (ty ∷ aty ∷ bty ∷ []) else operation_words (widest (ty ∷ aty ∷ bty ∷ [])))
      by_kind true = omega (arith, wide)
      by_kind false = omega (arith, wide)

  -- the machine of an operator's result
  abbrev after_operator : Temp → ℕ → ℕ → Mach → Mach
  after_operator t low c m = machine (with_content t (bits low) m.temps) (worked c m.state)

  -- low bytes of operands are enough
  low_bytes_wanted : (op : BinOp) (o : Operator) → family_of op ≡ Combined o → (bytes n : ℕ)
      → operand_wanted op bytes n ≡ n
  low_bytes_wanted Add o h bytes n = refl
  low_bytes_wanted Sub o h bytes n = refl
  low_bytes_wanted And o h bytes n = refl
  low_bytes_wanted Or o h bytes n = refl
  low_bytes_wanted Xor o h bytes n = refl
  low_bytes_wanted op o h bytes n = absurd cc

  low_right_wanted : (op : BinOp) (o : Operator) → family_of op ≡ Combined o → (bytes n : ℕ)
      → right_wanted op bytes n ≡ n
  low_right_wanted Add o h bytes n = refl
  low_right_wanted Sub o h bytes n = refl
  low_right_wanted And o h bytes n = refl
  low_right_wanted Or o h bytes n = refl
  low_right_wanted Xor o h bytes n = refl
  low_right_wanted op o h bytes n = absurd cc

  -- a temporary holds a number that is known, where it holds one
  abbrev IsKnown : Temp → ℤ → Mach → Type 0
  IsKnown b k m = (low : ℕ) → m.temps b.at ≡ Some (record { bytes = b.bytes; content = bits low }) → low ≡ low_bytes b.bytes k

  -- two operands, of which the second one is known to hold a number, stand as so many bytes of the first one stand to a number
  record AreComparedBy (a b : Temp) (r : Relation) (exchanged s : Bool) (own : Bound) (size : ℕ) (m : Mach) : Type 0 where
    some : 1 ≤ size
    within : size ≤ a.bytes
    left : (low1 : ℕ) → m.temps a.at ≡ Some (record { bytes = a.bytes; content = bits low1 }) → low1 < 256 ^ a.bytes
        → low1 < 256 ^ size
    same : (low1 low2 : ℕ) → m.temps a.at ≡ Some (record { bytes = a.bytes; content = bits low1 })
        → m.temps b.at ≡ Some (record { bytes = b.bytes; content = bits low2 }) → low1 < 256 ^ a.bytes
        → stand_so r s a.bytes (first_of_two exchanged low1 low2) (first_of_two exchanged low2 low1)
        ≡ stand_so own.relation own.signed size low1 (own.number % 256 ^ size)

  -- what is needed before an operator
  abbrev operands_needed : BinOp → (t a b : Temp) → (ka kb : ℕ) → Need → Need
  operands_needed op t a b ka kb need = at_least a.at ka (at_least b.at kb (without t.at need))

  pub combined_follows : (op : BinOp) (o : Operator) → family_of op ≡ Combined o → (s s1 s2 : Bool) (mode : Mode)
      (t a b : Temp) (rest : List PlainIr) (n pc : ℕ) (m : Mach) (v : View) → HasHome slots t → HasHome slots a
      → HasHome slots b → a.bytes ≡ t.bytes → b.bytes ≡ t.bytes
      → HasAt e (code_of (binary_op op (integer s t.bytes) mode t a (integer s1 a.bytes) b (integer s2 b.bytes)) rest ++ items rest) pc end
      → M (operands_needed op t a b (wanted (needs at rest) t) (wanted (needs at rest) t) (needs at rest)) m v
      → Rest (suc n) rest
      → G (suc n) m.state.work pc v
      (P n (binary_op op (integer s t.bytes) mode t a (integer s1 a.bytes) b (integer s2 b.bytes)) rest m)
  combined_follows op o is s s1 s2 mode t a b rest n pc m v it ia ib sa sb stands h f =
      let need = needs at rest in
      let i = binary_op op (integer s t.bytes) mode t a (integer s1 a.bytes) b (integer s2 b.bytes) in
      let c = op_steps i in
      let st = worked c m.state in
      let k = wanted need t in
      let most = wanted_most need t in
      let big : 10 * k + 1 ≤ c = operator_big op (integer s t.bytes) (integer s1 a.bytes) (integer s2 b.bytes) k most in
      let take : code_steps (code_of i rest) ≤ 10 * k + 1 =
      subst (λ x. code_steps (binary_code x s1 s2 (home a) (home b) (home t) a.bytes k) ≤ 10 * k + 1) (sym is)
      (combined_steps o (home a) (home b) (home t) k) in
      let straight : all_straight (code_of i rest) ≡ true =
      subst (λ x. all_straight (binary_code x s1 s2 (home a) (home b) (home t) a.bytes k) ≡ true) (sym is)
      (combined_straight o (home a) (home b) (home t) k) in
      from_number p place e s1 a m.temps st _ (suc n) m.state.work pc v
      (λ low1 qa. from_number p place e s2 b m.temps st _ (suc n) m.state.work pc v
      (λ low2 qb.
      let below1 : low1 < 256 ^ t.bytes = subst (λ x. low1 < 256 ^ x) sa (h.temps_hold a _ ia qa refl).1 in
      let below2 : low2 < 256 ^ t.bytes = subst (λ x. low2 < 256 ^ x) sb (h.temps_hold b _ ib qb refl).1 in
      let g = gives_of op o is p mode s s1 s2 t.bytes a.bytes b.bytes low1 low2 st st sa sb below1 below2 in
      let m1 = after_operator t (low_bytes t.bytes g.number) c m in
      let matches : M need (after_operator t (result_of o t.bytes low1 low2) c m)
      (block e
      (combined_code o (home a) (home b)
      (home t) k) v) = binary_matches p e slots home base place y o t a b need m v c low1 low2 it ia ib sa sb qa qb h in
      let matches1 : M need m1 (block e (combined_code o (home a) (home b) (home t) k) v) =
      subst (λ r. M need (after_operator t r c m) (block e (combined_code o (home a) (home b) (home t) k) v)) (sym g.low) matches in
      let matches2 : M need m1 (block e (code_of i rest) v) =
      subst (λ x. M need m1 (block e (binary_code x s1 s2 (home a) (home b) (home t) a.bytes k) v)) (sym is) matches1 in
      subst (λ r. G (suc n) m.state.work pc v (next (given r st) (λ u s3. R (suc n) rest (machine (with_temp t u m.temps) s3)))) (sym g.is)
      (passes i rest (suc n) (suc n) m.state.work m1.state.work pc v (R (suc n) rest m1) stands straight (omega arith)
      (omega (arith, take, big))
      (λ mid u. f mid m1 _ u matches2))))

  -- the same with a known number
  combined_number_follows : (op : BinOp) (o : Operator) → family_of op ≡ Combined o → is_changed o ≡ true → (s s1 s2 : Bool)
      (mode : Mode) (t a b : Temp) (k : ℤ) (rest : List PlainIr) (n pc : ℕ) (m : Mach) (v : View) → HasHome slots t
      → HasHome slots a → HasHome slots b → a.bytes ≡ t.bytes → b.bytes ≡ t.bytes → IsKnown b k m
      → HasAt e ((move_code (home a) (home t) (wanted (needs at rest) t)
      ++ changed_by_code o (home t) (low_bytes 16 k) (wanted (needs at rest) t)) ++ items rest) pc end
      → M (at_least a.at (wanted (needs at rest) t) (without t.at (needs at rest))) m v → Rest (suc n) rest
      → G (suc n) m.state.work pc v
      (P n (binary_op op (integer s t.bytes) mode t a (integer s1 a.bytes) b (integer s2 b.bytes)) rest m)
  combined_number_follows op o is changed s s1 s2 mode t a b k rest n pc m v it ia ib sa sb known stands h f =
      let need = needs at rest in
      let i = binary_op op (integer s t.bytes) mode t a (integer s1 a.bytes) b (integer s2 b.bytes) in
      let c = op_steps i in
      let st = worked c m.state in
      let w = wanted need t in
      let most = wanted_most need t in
      let first = move_code (home a) (home t) w in
      let second = changed_by_code o (home t) (low_bytes 16 k) w in
      let code = first ++ second in
      let big : 10 * w + 1 ≤ c = operator_big op (integer s t.bytes) (integer s1 a.bytes) (integer s2 b.bytes) w most in
      let form = changed_form y.numbers o (home t) (low_bytes 16 k) w in
      let steps = steps-append first second in
      let take = move_steps (home a) (home t) w in
      let straight : all_straight code ≡ true = straight-append first second (move_straight (home a) (home t) w) form.0 in
      let few = form.1 in
      from_number p place e s1 a m.temps st _ (suc n) m.state.work pc v
      (λ low1 qa. from_number p place e s2 b m.temps st _ (suc n) m.state.work pc v
      (λ low2 qb.
      let below1 : low1 < 256 ^ t.bytes = subst (λ x. low1 < 256 ^ x) sa (h.temps_hold a _ ia qa refl).1 in
      let below2 : low2 < 256 ^ t.bytes = subst (λ x. low2 < 256 ^ x) sb (h.temps_hold b _ ib qb refl).1 in
      let g = gives_of op o is p mode s s1 s2 t.bytes a.bytes b.bytes low1 low2 st st sa sb below1 below2 in
      let number : low_bytes t.bytes k ≡ low2 = ap (λ j. low_bytes j k) (sym sb) ∙ sym (known low2 qb) in
      let m1 = after_operator t (low_bytes t.bytes g.number) c m in
      let matches : M need (after_operator t (result_of o t.bytes low1 (low_bytes t.bytes k)) c m) (block e code v) =
      number_matches p e slots home base place y o changed t a k need m v c low1 it ia sa qa h in
      let matches1 : M need m1 (block e code v) =
      subst (λ r. M need (after_operator t r c m) (block e code v)) (ap (result_of o t.bytes low1) number ∙ sym g.low) matches in
      subst (λ r. G (suc n) m.state.work pc v (next (given r st) (λ u s3. R (suc n) rest (machine (with_temp t u m.temps) s3)))) (sym g.is)
      (goes_past code (items rest) (suc n) (suc n) m.state.work m1.state.work pc v (R (suc n) rest m1) stands straight (omega arith)
      (omega (arith, take, few, steps, big))
      (λ mid u. f mid m1 _ u matches1))))

  -- ---- comparisons

  conversion_straight : (signed : Bool) (a t : Location) (bytes n : ℕ) → all_straight (conversion_code signed a t bytes n) ≡ true
  conversion_straight signed a t bytes n =
      straight-append (move_code a t (min n bytes)) (extend_code signed t bytes n) (move_straight a t (min n bytes))
      ((values_are_straight t 0 bytes n).2 signed)

  conversion_steps : (signed : Bool) (a t : Location) (bytes n : ℕ) → code_steps (conversion_code signed a t bytes n) ≤ 3 + 3 * n
  conversion_steps signed a t bytes n =
      let x = move_steps a t (min n bytes) in
      let z = (values_take t 0 bytes n).2 signed in
      omega (arith, steps-append (move_code a t (min n bytes)) (extend_code signed t bytes n), x, z)

  -- where some bytes are wanted, all are
  all_when : (bytes k : ℕ) → (k == 0) ≡ false → all_or_none bytes k ≡ bytes
  all_when bytes zero q = absurd cc
  all_when bytes (suc k) q = refl

  all_wanted : (op : BinOp) (r : Relation) (exchanged : Bool) → family_of op ≡ Compared r exchanged
      → (bytes k : ℕ) → (k == 0) ≡ false → operand_wanted op bytes k ≡ bytes
  all_wanted Lt r exchanged h bytes k q = all_when bytes k q
  all_wanted Gt r exchanged h bytes k q = all_when bytes k q
  all_wanted Le r exchanged h bytes k q = all_when bytes k q
  all_wanted Ge r exchanged h bytes k q = all_when bytes k q
  all_wanted Eq r exchanged h bytes k q = all_when bytes k q
  all_wanted Ne r exchanged h bytes k q = all_when bytes k q
  all_wanted op r exchanged h bytes k q = absurd cc

  all_right_wanted : (op : BinOp) (r : Relation) (exchanged : Bool) → family_of op ≡ Compared r exchanged
      → (bytes k : ℕ) → (k == 0) ≡ false → right_wanted op bytes k ≡ bytes
  all_right_wanted Lt r exchanged h bytes k q = all_when bytes k q
  all_right_wanted Gt r exchanged h bytes k q = all_when bytes k q
  all_right_wanted Le r exchanged h bytes k q = all_when bytes k q
  all_right_wanted Ge r exchanged h bytes k q = all_when bytes k q
  all_right_wanted Eq r exchanged h bytes k q = all_when bytes k q
  all_right_wanted Ne r exchanged h bytes k q = all_when bytes k q
  all_right_wanted op r exchanged h bytes k q = absurd cc

  -- what takes part of the first operand of a shift by a number
  first_shifted : (op : BinOp) (up : Bool) → family_of op ≡ Shifted up → (bytes k : ℕ) → (k == 0) ≡ false
      → operand_wanted op bytes k ≡ shifted_bytes up bytes k
  first_shifted Shl true h bytes k q = refl
  first_shifted Shr false h bytes k q = all_when bytes k q
  first_shifted op up h bytes k q = absurd cc

  -- the words of an operator of temporaries
  relation_wide : (op : BinOp) (ty aty bty : PlainType) → 640 ≤ 64 * binary_words op ty aty bty
  relation_wide op ty aty bty = by_kind (is_bitwise op && is_integer ty)
    where
      wide : 1 ≤ widest (ty ∷ aty ∷ bty ∷ [])
      wide = omega arith

      by_kind : (x : Bool) → 640 ≤ 64 * (if x then 10 * widest (ty ∷ aty ∷ bty ∷ []) else operation_words (widest (ty ∷ aty ∷ bty ∷ [])))
      by_kind true = omega (arith, wide)
      by_kind false = omega (arith, wide)

  relation_big : (op : BinOp) (ty aty bty : PlainType) → 102 ≤ 64 * binary_words op ty aty bty
  relation_big op ty aty bty = by_kind (is_bitwise op && is_integer ty)
    where
      wide : 1 ≤ widest (ty ∷ aty ∷ bty ∷ [])
      wide = omega arith

      by_kind : (x : Bool) → 102 ≤ 64 * (if x then 10 * widest (ty ∷ aty ∷ bty ∷ []) else operation_words (widest (ty ∷ aty ∷ bty ∷ [])))
      by_kind true = omega (arith, wide)
      by_kind false = omega (arith, wide)

  -- no byte of the result is needed
  not_needed : (t : Temp) (low c : ℕ) (need need0 : Need) (m : Mach) (v : View) → HasHome slots t → wanted need t ≡ 0
      → low < 256 ^ t.bytes → ((u : ℕ) → u ≢ t.at → need u ≤ need0 u) → M need0 m v → M need (after_operator t low c m) v
  not_needed t low c need need0 m v it none below more h =
      let empty : value v.at (base t) 0 ≡ low % 256 ^ 0 = omega arith in
      written p e slots home base place y t (bits low) need need0 m (worked c m.state) v v it h more (λ i d f g o. refl)
      (subst (λ j. value v.at (base t) j ≡ low % 256 ^ j) (sym none) empty, below) h.bytes refl h.seen h.left h.safe

  -- nor is there code
  no_code_passes : (code : List AsmItem) (t : Temp) (low c : ℕ) (rest : List PlainIr) (n pc : ℕ) (need0 : Need) (m : Mach) (v : View)
      → HasHome slots t → code ≡ [] → wanted (needs at rest) t ≡ 0 → low < 256 ^ t.bytes
      → HasAt e (code ++ items rest) pc end → ((u : ℕ) → u ≢ t.at → needs at rest u ≤ need0 u) → M need0 m v
      → Rest (suc n) rest → G (suc n) m.state.work pc v (R (suc n) rest (after_operator t low c m))
  no_code_passes code t low c rest n pc need0 m v it empty none below stands more h f =
      let matches = not_needed t low c (needs at rest) need0 m v it none below more h in
      let m1 = after_operator t low c m in
      let steps : code_steps code ≡ 0 = ap code_steps empty in
      goes_past code (items rest) (suc n) (suc n) m.state.work m1.state.work pc v (R (suc n) rest m1) stands (ap all_straight empty)
      (omega arith) (omega (arith, steps))
      (λ mid u. f mid m1 _ u (subst (λ w. M (needs at rest) m1 (block e w v)) (sym empty) matches))

  nothing_passes : (i : PlainIr) (t : Temp) (low c : ℕ) (rest : List PlainIr) (n pc : ℕ) (need0 : Need) (m : Mach) (v : View)
      → HasHome slots t → code_of i rest ≡ [] → wanted (needs at rest) t ≡ 0 → low < 256 ^ t.bytes
      → HasAt e (code_of i rest ++ items rest) pc end → ((u : ℕ) → u ≢ t.at → needs at rest u ≤ need0 u) → M need0 m v
      → Rest (suc n) rest → G (suc n) m.state.work pc v (R (suc n) rest (after_operator t low c m))
  nothing_passes i t low c rest n pc need0 m v it empty none below stands more h f =
      no_code_passes (code_of i rest) t low c rest n pc need0 m v it empty none below stands more h f

  -- of other places no less is needed before an operator
  other_needed : (op : BinOp) (t a b : Temp) (ka kb : ℕ) (need : Need) (u : ℕ) → u ≢ t.at
      → need u ≤ operands_needed op t a b ka kb need u
  other_needed op t a b ka kb need u d =
      let w = without_other t.at u need d in
      let x = least_other b.at kb u (without t.at need) in
      let z = least_other a.at ka u (at_least b.at kb (without t.at need)) in
      omega arith

  -- the low bytes of operands of which so many are needed
  left_holds : (op : BinOp) (t a b : Temp) (ka kb x : ℕ) (need : Need) (m : Mach) (v : View) → HasHome slots a → ka ≤ a.bytes
      → m.temps a.at ≡ Some (record { bytes = a.bytes; content = bits x }) → M (operands_needed op t a b ka kb need) m v
      → value v.at (base a) ka ≡ x % 256 ^ ka
  left_holds op t a b ka kb x need m v ia l q h =
      let here = least_here a.at ka (at_least b.at kb (without t.at need)) in
      (at_width p e slots home base place y (operands_needed op t a b ka kb need) m v a _ ka h ia q refl (omega (arith, here, l))).0

  right_holds : (op : BinOp) (t a b : Temp) (ka kb x : ℕ) (need : Need) (m : Mach) (v : View) → HasHome slots b → kb ≤ b.bytes
      → m.temps b.at ≡ Some (record { bytes = b.bytes; content = bits x }) → M (operands_needed op t a b ka kb need) m v
      → value v.at (base b) kb ≡ x % 256 ^ kb
  right_holds op t a b ka kb x need m v ib l q h =
      let here = least_here b.at kb (without t.at need) in
      let also = least_other a.at ka b.at (at_least b.at kb (without t.at need)) in
      (at_width p e slots home base place y (operands_needed op t a b ka kb need) m v b _ kb h ib q refl (omega (arith, here, also, l))).0

  abbrev told_machine : Temp → Bool → ℕ → Mach → Mach
  told_machine t truth c m = after_operator t (low_bytes t.bytes (pos (from_bool truth))) c m

  -- code that tells a truth value, and what comes after it
  truth_passes : (code : List AsmItem) (truth : Bool) (t : Temp) (size c : ℕ) (rest : List PlainIr) (n pc w : ℕ) (need0 : Need)
      (m : Mach) (v : View) → HasHome slots t → size ≤ 16 → w + 102 ≤ m.state.work + c
      → ((mid : ℕ) → HasAt e code pc mid → TellsTo (truth_register (home t)) e (3 + 3 * size) pc v mid truth)
      → HasAt e ((code ++ truth_at_code (home t) (wanted (needs at rest) t)) ++ items rest) pc end
      → ((k : ℕ) → k ≢ t.at → needs at rest k ≤ need0 k) → M need0 m v → Rest (suc n) rest
      → G (suc n) w pc v (R (suc n) rest (told_machine t truth c m))
  truth_passes code truth t size c rest n pc w need0 m v it most big tells stands more h f =
      let k = wanted (needs at rest) t in
      let conversion = truth_at_code (home t) k in
      let s1 = has_parts e (code ++ conversion) (items rest) pc end stands in
      let s2 = has_parts e code conversion pc s1.0 s1.1 in
      let told = tells s2.0 s2.1 in
      let m1 = told_machine t truth c m in
      let second = block_goes e conversion s2.0 s1.0 told.last
      (conversion_straight false (InRegisters (truth_register (home t))) (home t) 1 k) s2.2 in
      let steps = told.steps + code_steps conversion in
      let take = conversion_steps false (InRegisters (truth_register (home t))) (home t) 1 k in
      let take1 = told.at_most in
      let kmost = wanted_most (needs at rest) t in
      let room = it.most in
      let goes = goes_on_to e told.steps (code_steps conversion) pc s2.0 s1.0 v told.last (block e conversion told.last) told.goes second in
      let matches =
      told_matches p e slots home base place y truth (3 + 3 * size) pc s2.0 t (needs at rest) need0 m v c it told more h in
      after p place e steps (suc n) (suc n) w m1.state.work pc s1.0 v (block e conversion told.last) (R (suc n) rest m1) goes
      (omega arith) (omega (arith, take, take1, kmost, room, most, big)) (f s1.0 m1 (block e conversion told.last) s1.2 matches)

  -- the code of a relation of two temporaries, and what comes after it
  related_passes : (r : Relation) (s : Bool) (t l u : Temp) (bytes x z c : ℕ) (rest : List PlainIr) (n pc w : ℕ) (need0 : Need)
      (m : Mach) (v : View)
      → HasHome slots t → HasHome slots l → HasHome slots u → suc bytes ≤ l.bytes → suc bytes ≤ u.bytes → suc bytes ≤ 16
      → value v.at (base l) (suc bytes) ≡ x → value v.at (base u) (suc bytes) ≡ z → w + 102 ≤ m.state.work + c
      → HasAt e
      ((relation_in_code (truth_register (home t)) r s (home l) (home u) (suc bytes) ++ truth_at_code (home t)
      (wanted (needs at rest) t)) ++ items rest) pc end
      → ((k : ℕ) → k ≢ t.at → needs at rest k ≤ need0 k) → M need0 m v → Rest (suc n) rest
      → G (suc n) w pc v (R (suc n) rest (told_machine t (stand_so r s (suc bytes) x z) c m))
  related_passes r s t l u bytes x z c rest n pc w need0 m v it il iu ql qu most xl zu big stands more h f =
      let left : StandsFrom e (home l) (suc bytes) (base l) Own =
      stand p e slots home base place y l (suc bytes) il ql in
      let right : StandsFrom e (home u) (suc bytes) (base u) Own =
      stand p e slots home base place y u (suc bytes) iu qu in
      let truth : stand_so r s (suc bytes) (value v.at (base l) (suc bytes)) (value v.at (base u) (suc bytes))
      ≡ stand_so r s (suc bytes) x z = rw (xl, zu) refl in
      truth_passes (relation_in_code (truth_register (home t)) r s (home l) (home u) (suc bytes)) (stand_so r s (suc bytes) x z) t
      (suc bytes) c rest n pc w need0 m v it
      most big
      (λ mid code. subst (λ b. TellsTo (truth_register (home t)) e (3 + 3 * suc bytes) pc v mid b) truth
      (tells_to (truth_register (home t)) e (3 + 3 * suc bytes) pc v mid _ h.bytes
      (relations_are_told_in (truth_register (home t)) r s e (home l) (home u) bytes (base l) (base u) pc mid v left right h.bytes code)))
      stands more h f

  -- what a comparison of two numbers gives
  compared_numbers : (op : BinOp) (r : Relation) (exchanged : Bool) → family_of op ≡ Compared r exchanged
      → (s : Bool) (ty : PlainType) (mode : Mode) (t a b : Temp) (rest : List PlainIr) (n pc : ℕ) (need0 : Need) (m : Mach)
      (v : View) → HasHome slots a → HasHome slots b → b.bytes ≡ a.bytes → M need0 m v
      → ((low1 low2 : ℕ) → m.temps a.at ≡ Some (record { bytes = a.bytes; content = bits low1 })
      → m.temps b.at ≡ Some (record { bytes = b.bytes; content = bits low2 }) → low1 < 256 ^ a.bytes → low2 < 256 ^ a.bytes
      → G (suc n) m.state.work pc v
      (R (suc n) rest
      (told_machine t (stand_so r s a.bytes (first_of_two exchanged low1 low2) (first_of_two exchanged low2 low1))
      (op_steps (binary_op op ty mode t a (integer s a.bytes) b (integer s b.bytes))) m)))
      → G (suc n) m.state.work pc v (P n (binary_op op ty mode t a (integer s a.bytes) b (integer s b.bytes)) rest m)
  compared_numbers op r exchanged is s ty mode t a b rest n pc need0 m v ia ib same h f =
      from_number p place e s a m.temps (worked (op_steps (binary_op op ty mode t a (integer s a.bytes) b (integer s b.bytes))) m.state) _
      (suc n) m.state.work pc v
      (λ low1 qa. from_number p place e s b m.temps
      (worked (op_steps (binary_op op ty mode t a (integer s a.bytes) b (integer s b.bytes))) m.state) _ (suc n) m.state.work pc v
      (λ low2 qb.
      let below1 : low1 < 256 ^ a.bytes = (h.temps_hold a _ ia qa refl).1 in
      let below2 : low2 < 256 ^ a.bytes = subst (λ x. low2 < 256 ^ x) same (h.temps_hold b _ ib qb refl).1 in
      let g0 =
      decided op r exchanged is p ty mode s a.bytes low1 low2
      (worked (op_steps (binary_op op ty mode t a (integer s a.bytes) b (integer s b.bytes))) m.state)
      (worked (op_steps (binary_op op ty mode t a (integer s a.bytes) b (integer s b.bytes))) m.state) ia.some below1 below2 in
      let g =
      subst
      (λ j. binary_result op ty mode
      (operand_of p (integer s a.bytes) (Number (number_of_bytes s a.bytes low1))
      (worked (op_steps (binary_op op ty mode t a (integer s a.bytes) b (integer s b.bytes))) m.state))
      (operand_of p (integer s j) (Number (number_of_bytes s j low2))
      (worked (op_steps (binary_op op ty mode t a (integer s a.bytes) b (integer s b.bytes))) m.state))
      ≡ Ok (Number (pos (from_bool (stand_so r s a.bytes (first_of_two exchanged low1 low2) (first_of_two exchanged low2 low1))))))
      (sym same) g0 in
      subst
      (λ o. G (suc n) m.state.work pc v
      (next (given o (worked (op_steps (binary_op op ty mode t a (integer s a.bytes) b (integer s b.bytes))) m.state))
      (λ u s3. R (suc n) rest (machine (with_temp t u m.temps) s3)))) (sym g)
      (f low1 low2 qa qb below1 below2)))

  -- where some of its result is needed, all bytes of both numbers are there
  compared_hold : (op : BinOp) (r : Relation) (exchanged : Bool) → family_of op ≡ Compared r exchanged
      → (s : Bool) (ty : PlainType) (mode : Mode) (t a b : Temp) (rest : List PlainIr) (m : Mach) (v : View) (low1 low2 : ℕ)
      → HasHome slots a → HasHome slots b → b.bytes ≡ a.bytes → (wanted (needs at rest) t == 0) ≡ false
      → m.temps a.at ≡ Some (record { bytes = a.bytes; content = bits low1 })
      → m.temps b.at ≡ Some (record { bytes = b.bytes; content = bits low2 }) → low1 < 256 ^ a.bytes → low2 < 256 ^ a.bytes
      → M (plain_needs (binary_op op ty mode t a (integer s a.bytes) b (integer s b.bytes)) rest) m v
      → M (operands_needed op t a b a.bytes b.bytes (needs at rest)) m v × (value v.at (base a) a.bytes ≡ low1)
      × (value v.at (base b) a.bytes ≡ low2)
  compared_hold op r exchanged is s ty mode t a b rest m v low1 low2 ia ib same q qa qb below1 below2 h =
      (all_needed, left_is, right_is)
    where
      all_needed : M (operands_needed op t a b a.bytes b.bytes (needs at rest)) m v
      all_needed =
          subst (λ x. M (operands_needed op t a b x b.bytes (needs at rest)) m v)
          (all_wanted op r exchanged is a.bytes (wanted (needs at rest) t) q)
          (subst (λ x. M (operands_needed op t a b (operand_wanted op a.bytes (wanted (needs at rest) t)) x (needs at rest)) m v)
          (all_right_wanted op r exchanged is b.bytes (wanted (needs at rest) t) q) h)

      left_is : value v.at (base a) a.bytes ≡ low1
      left_is =
          left_holds op t a b a.bytes b.bytes low1 (needs at rest) m v ia (omega arith) qa all_needed
          ∙ kept_below low1 (256 ^ a.bytes) below1

      right_is : value v.at (base b) a.bytes ≡ low2
      right_is =
          subst (λ j. value v.at (base b) j ≡ low2 % 256 ^ j) same
          (right_holds op t a b a.bytes b.bytes low2 (needs at rest) m v ib (omega arith) qb all_needed)
          ∙ kept_below low2 (256 ^ a.bytes) below2

  pub related_follows : (op : BinOp) (r : Relation) (exchanged : Bool) → family_of op ≡ Compared r exchanged
      → (s : Bool) (ty : PlainType) (mode : Mode) (t a b : Temp) (rest : List PlainIr) (n pc : ℕ) (m : Mach) (v : View)
      → HasHome slots t → HasHome slots a → HasHome slots b → b.bytes ≡ a.bytes
      → HasAt e (code_of (binary_op op ty mode t a (integer s a.bytes) b (integer s b.bytes)) rest ++ items rest) pc end
      → M (plain_needs (binary_op op ty mode t a (integer s a.bytes) b (integer s b.bytes)) rest) m v
      → Rest (suc n) rest
      → G (suc n) m.state.work pc v (P n (binary_op op ty mode t a (integer s a.bytes) b (integer s b.bytes)) rest m)
  related_follows op r exchanged is s ty mode t a b rest n pc m v it ia ib same stands h f =
      compared_numbers op r exchanged is s ty mode t a b rest n pc
      (plain_needs (binary_op op ty mode t a (integer s a.bytes) b (integer s b.bytes)) rest) m v ia ib same h
      (λ low1 low2 qa qb below1 below2. ⊎_elim (λ q. dead q low1 low2) (λ q. alive q low1 low2 qa qb below1 below2)
      (cases_Bool ((wanted (needs at rest) t) == 0)))
    where
      dead : ((wanted (needs at rest) t) == 0) ≡ true → (low1 low2 : ℕ)
          → G (suc n) m.state.work pc v
          (R (suc n) rest
          (told_machine t (stand_so r s a.bytes (first_of_two exchanged low1 low2) (first_of_two exchanged low2 low1))
          (op_steps (binary_op op ty mode t a (integer s a.bytes) b (integer s b.bytes))) m))
      dead q low1 low2 =
          let truth = stand_so r s a.bytes (first_of_two exchanged low1 low2) (first_of_two exchanged low2 low1) in
          let empty : code_of (binary_op op ty mode t a (integer s a.bytes) b (integer s b.bytes)) rest ≡ [] =
          ap (λ x. binary_code x s s (home a) (home b) (home t) a.bytes (wanted (needs at rest) t)) is ∙ none exchanged in
          nothing_passes (binary_op op ty mode t a (integer s a.bytes) b (integer s b.bytes)) t (low_bytes t.bytes (pos (from_bool truth)))
          (op_steps (binary_op op ty mode t a (integer s a.bytes) b (integer s b.bytes))) rest n pc
          (plain_needs (binary_op op ty mode t a (integer s a.bytes) b (integer s b.bytes)) rest) m v it empty
          (eqb-true (wanted (needs at rest) t) 0 q) (low_below t.bytes (pos (from_bool truth))) stands
          (other_needed op t a b (operand_wanted op a.bytes (wanted (needs at rest) t))
          (right_wanted op b.bytes (wanted (needs at rest) t)) (needs at rest)) h f
        where
          none : (x : Bool) → binary_code (Compared r x) s s (home a) (home b) (home t) a.bytes (wanted (needs at rest) t) ≡ []
          none false = rw q refl
          none true = rw q refl

      alive : ((wanted (needs at rest) t) == 0) ≡ false → (low1 low2 : ℕ) → m.temps a.at
          ≡ Some (record { bytes = a.bytes; content = bits low1 })
          → m.temps b.at ≡ Some (record { bytes = b.bytes; content = bits low2 }) → low1 < 256 ^ a.bytes
          → low2 < 256 ^ a.bytes
          → G (suc n) m.state.work pc v
          (R (suc n) rest
          (told_machine t (stand_so r s a.bytes (first_of_two exchanged low1 low2) (first_of_two exchanged low2 low1))
          (op_steps (binary_op op ty mode t a (integer s a.bytes) b (integer s b.bytes))) m))
      alive q low1 low2 qa qb below1 below2 =
          let some = ia.some in
          let hold = compared_hold op r exchanged is s ty mode t a b rest m v low1 low2 ia ib same q qa qb below1 below2 h in
          by_side hold.0 hold.1 hold.2 exchanged (a.bytes - 1) (omega arith) is
        where
          by_side : M (operands_needed op t a b a.bytes b.bytes (needs at rest)) m v → value v.at (base a) a.bytes ≡ low1
              → value v.at (base b) a.bytes ≡ low2 → (x : Bool) (bytes : ℕ) → a.bytes ≡ suc bytes → family_of op ≡ Compared r x
              → G (suc n) m.state.work pc v
              (R (suc n) rest
              (told_machine t (stand_so r s a.bytes (first_of_two x low1 low2) (first_of_two x low2 low1))
              (op_steps (binary_op op ty mode t a (integer s a.bytes) b (integer s b.bytes))) m))
          by_side all_needed left_is right_is false bytes size w =
              let code : code_of (binary_op op ty mode t a (integer s a.bytes) b (integer s b.bytes)) rest
              ≡ relation_in_code (truth_register (home t)) r s (home a) (home b) (suc bytes) ++ truth_at_code (home t)
              (wanted (needs at rest) t) = ap (λ x. binary_code x s s (home a) (home b) (home t) a.bytes (wanted (needs at rest) t)) w
              ∙ rw q refl
              ∙ ap
              (λ j. relation_in_code (truth_register (home t)) r s (home a) (home b) j ++ truth_at_code (home t)
              (wanted (needs at rest) t)) size in
              let stand = subst (λ x. HasAt e (x ++ items rest) pc end) code stands in
              let la = subst (λ j. value v.at (base a) j ≡ low1) size left_is in
              let lb = subst (λ j. value v.at (base b) j ≡ low2) size right_is in
              let most = ia.most in
              subst
              (λ j. G (suc n) m.state.work pc v
              (R (suc n) rest
              (told_machine t (stand_so r s j low1 low2)
              (op_steps (binary_op op ty mode t a (integer s a.bytes) b (integer s b.bytes))) m))) (sym size)
              (related_passes r s t a b bytes low1 low2
              (op_steps (binary_op op ty mode t a (integer s a.bytes) b (integer s b.bytes))) rest n pc m.state.work
              (operands_needed op t a b a.bytes b.bytes (needs at rest)) m v it ia ib (omega (arith, size)) (omega (arith, same, size))
              (omega arith) la lb
              (omega (arith, relation_big op ty (integer s a.bytes) (integer s b.bytes))) stand
              (other_needed op t a b a.bytes b.bytes (needs at rest)) all_needed f)
          by_side all_needed left_is right_is true bytes size w =
              let code : code_of (binary_op op ty mode t a (integer s a.bytes) b (integer s b.bytes)) rest
              ≡ relation_in_code (truth_register (home t)) r s (home b) (home a) (suc bytes) ++ truth_at_code (home t)
              (wanted (needs at rest) t) = ap (λ x. binary_code x s s (home a) (home b) (home t) a.bytes (wanted (needs at rest) t)) w
              ∙ rw q refl
              ∙ ap
              (λ j. relation_in_code (truth_register (home t)) r s (home b) (home a) j ++ truth_at_code (home t)
              (wanted (needs at rest) t)) size in
              let stand = subst (λ x. HasAt e (x ++ items rest) pc end) code stands in
              let la = subst (λ j. value v.at (base a) j ≡ low1) size left_is in
              let lb = subst (λ j. value v.at (base b) j ≡ low2) size right_is in
              let most = ia.most in
              subst
              (λ j. G (suc n) m.state.work pc v
              (R (suc n) rest
              (told_machine t (stand_so r s j low2 low1)
              (op_steps (binary_op op ty mode t a (integer s a.bytes) b (integer s b.bytes))) m))) (sym size)
              (related_passes r s t b a bytes low2 low1
              (op_steps (binary_op op ty mode t a (integer s a.bytes) b (integer s b.bytes))) rest n pc m.state.work
              (operands_needed op t a b a.bytes b.bytes (needs at rest)) m v it ib ia (omega (arith, same, size)) (omega (arith, size))
              (omega arith) lb la
              (omega (arith, relation_big op ty (integer s a.bytes) (integer s b.bytes))) stand
              (other_needed op t a b a.bytes b.bytes (needs at rest)) all_needed f)

  -- a comparison with a known number, whose truth value is needed
  related_number_follows : (op : BinOp) (r : Relation) (exchanged : Bool) → family_of op ≡ Compared r exchanged
      → (s : Bool) (own : Bound) (size : ℕ) (ty : PlainType) (mode : Mode) (t a b : Temp) (rest : List PlainIr)
      (n pc : ℕ) (m : Mach) (v : View) → HasHome slots t → HasHome slots a → HasHome slots b → b.bytes ≡ a.bytes
      → AreComparedBy a b r exchanged s own size m
      → HasAt e ((if wanted (needs at rest) t == 0 then []
      else truth_by_code (truth_register (home t)) own (home a) size
      ++ truth_at_code (home t) (wanted (needs at rest) t)) ++ items rest) pc end
      → M (at_least a.at (operand_wanted op size (wanted (needs at rest) t)) (without t.at (needs at rest))) m v
      → Rest (suc n) rest
      → G (suc n) m.state.work pc v (P n (binary_op op ty mode t a (integer s a.bytes) b (integer s b.bytes)) rest m)
  related_number_follows op r exchanged is s own size ty mode t a b rest n pc m v it ia ib same by stands h f =
      compared_numbers op r exchanged is s ty mode t a b rest n pc need0 m v ia ib same h
      (λ low1 low2 qa qb below1 below2. ⊎_elim (λ q. dead q low1 low2) (λ q. alive q low1 low2 qa qb below1)
      (cases_Bool (w == 0)))
    where
      w : ℕ
      w = wanted (needs at rest) t

      need0 : Need
      need0 = at_least a.at (operand_wanted op size w) (without t.at (needs at rest))

      c : ℕ
      c = op_steps (binary_op op ty mode t a (integer s a.bytes) b (integer s b.bytes))

      code : List AsmItem
      code = truth_by_code (truth_register (home t)) own (home a) size ++ truth_at_code (home t) w

      truth_of : (low1 low2 : ℕ) → Bool
      truth_of low1 low2 = stand_so r s a.bytes (first_of_two exchanged low1 low2) (first_of_two exchanged low2 low1)

      still : (u : ℕ) → u ≢ t.at → needs at rest u ≤ need0 u
      still u d =
          let x = without_other t.at u (needs at rest) d in
          let z = least_other a.at (operand_wanted op size w) u (without t.at (needs at rest)) in
          omega (arith, x, z)

      dead : (w == 0) ≡ true → (low1 low2 : ℕ) → G (suc n) m.state.work pc v (R (suc n) rest (told_machine t (truth_of low1 low2) c m))
      dead q low1 low2 =
          let truth = truth_of low1 low2 in
          let low = low_bytes t.bytes (pos (from_bool truth)) in
          let m1 = told_machine t truth c m in
          let stand = subst (λ (x : Bool). HasAt e ((if x then [] else code) ++ items rest) pc end) q stands in
          let matches = not_needed t low c (needs at rest) need0 m v it (eqb-true w 0 q)
          (low_below t.bytes (pos (from_bool truth))) still h in
          goes_past [] (items rest) (suc n) (suc n) m.state.work m1.state.work pc v (R (suc n) rest m1) stand refl (omega arith)
          (omega arith)
          (λ mid u. f mid m1 v u matches)

      alive : (w == 0) ≡ false → (low1 low2 : ℕ) → m.temps a.at ≡ Some (record { bytes = a.bytes; content = bits low1 })
          → m.temps b.at ≡ Some (record { bytes = b.bytes; content = bits low2 }) → low1 < 256 ^ a.bytes
          → G (suc n) m.state.work pc v (R (suc n) rest (told_machine t (truth_of low1 low2) c m))
      alive q low1 low2 qa qb below1 = by_size (size - 1) (let some = by.some in omega arith)
        where
          by_size : (bytes : ℕ) → size ≡ suc bytes
              → G (suc n) m.state.work pc v (R (suc n) rest (told_machine t (truth_of low1 low2) c m))
          by_size bytes is_size =
              let eight = ia.most in
              let within = by.within in
              let here = least_here a.at size (without t.at (needs at rest)) in
              let few : suc bytes ≤ a.bytes = omega (arith, is_size, within) in
              let all_needed : M (at_least a.at size (without t.at (needs at rest))) m v =
              subst (λ x. M (at_least a.at x (without t.at (needs at rest))) m v) (all_wanted op r exchanged is size w q) h in
              let left : value v.at (base a) size ≡ low1 =
              (at_width p e slots home base place y (at_least a.at size (without t.at (needs at rest))) m v a _ size all_needed ia qa refl
              (omega (arith, here, within))).0
              ∙ kept_below low1 (256 ^ size) (by.left low1 qa below1) in
              let truth : stands_to own (suc bytes) (value v.at (base a) (suc bytes)) ≡ truth_of low1 low2 =
              subst (λ j. stands_to own j (value v.at (base a) j) ≡ truth_of low1 low2) is_size
              (ap (stands_to own size) left ∙ sym (by.same low1 low2 qa qb below1)) in
              let stand : HasAt e ((truth_by_code (truth_register (home t)) own (home a) (suc bytes)
              ++ truth_at_code (home t) w) ++ items rest) pc end =
              subst (λ j. HasAt e ((truth_by_code (truth_register (home t)) own (home a) j
              ++ truth_at_code (home t) w) ++ items rest) pc end) is_size
              (subst (λ (x : Bool). HasAt e ((if x then [] else code) ++ items rest) pc end) q stands) in
              truth_passes (truth_by_code (truth_register (home t)) own (home a) (suc bytes)) (truth_of low1 low2) t (suc bytes) c rest n pc
              m.state.work need0 m v it (omega (arith, few, eight))
              (omega (arith, relation_big op ty (integer s a.bytes) (integer s b.bytes)))
              (λ mid own_code. subst (λ x. TellsTo (truth_register (home t)) e (3 + 3 * suc bytes) pc v mid x) truth
              (temp_tells p e slots home base place y (truth_register (home t)) own a bytes pc mid v ia few h.bytes own_code))
              stand still h f

  -- ---- products

  factor_wanted : (op : BinOp) → family_of op ≡ Multiplied → (bytes k : ℕ) → (k == 0) ≡ false
      → (operand_wanted op bytes k ≡ bytes) × (right_wanted op bytes k ≡ bytes)
  factor_wanted Mul h bytes k q = (all_when bytes k q, all_when bytes k q)
  factor_wanted op h bytes k q = absurd cc

  -- what is needed of a product is put to its temporary
  led_matches : (t : Temp) (low most pc to k : ℕ) (need need0 : Need) (m : Mach) (v : View) (c : ℕ) → HasHome slots t
      → (g : Leads e most pc v to (base t) k (low % 256 ^ k)) → k ≡ wanted need t → low < 256 ^ t.bytes
      → ((u : ℕ) → u ≢ t.at → need u ≤ need0 u) → M need0 m v → M need (after_operator t low c m) g.last
  led_matches t low most pc to k need need0 m v c it g q below more h =
      let room = wanted_most need t in
      let frame : Wide v g.last (base t) t.bytes =
      λ i a b u d o. g.same i a b (λ l. let z = d (omega arith) in omega arith) (narrower (base t) t.bytes k i (omega arith) o) in
      written_wide p e slots home base place y t (bits low) need need0 m (worked c m.state) v g.last it h more frame
      (subst (λ j. value g.last.at (base t) j ≡ low % 256 ^ j) q g.number_is, below) g.numbers refl (g.seen ∙ h.seen)
      (kept_left y.inputs m.state v g.last (g.inputs) h.left) (g.safe ∙ h.safe)

  product_value : (op : BinOp) → family_of op ≡ Multiplied → (mode : Mode) (s s1 s2 : Bool) (x z : ℕ) (st st1 : State)
      → binary_result op (integer s 2) mode (operand_of p (integer s1 1) (Number (number_of_bytes s1 1 x)) st)
      (operand_of p (integer s2 1) (Number (number_of_bytes s2 1 z)) st1)
      ≡ Ok (Number (wrapped (record { signed = s; bytes = 2 }) (number_of_bytes s1 1 x *ℤ number_of_bytes s2 1 z)))
  product_value Mul h mode s s1 s2 x z st st1 = refl
  product_value op h mode s s1 s2 x z st st1 = absurd cc

  pub multiplied_follows : (op : BinOp) → family_of op ≡ Multiplied → (s s1 s2 : Bool) (mode : Mode) (t a b : Temp)
      (rest : List PlainIr) (n pc : ℕ) (m : Mach) (v : View) → HasHome slots t → HasHome slots a → HasHome slots b
      → t.bytes ≡ 2 → a.bytes ≡ 1 → b.bytes ≡ 1
      → HasAt e (code_of (binary_op op (integer s 2) mode t a (integer s1 1) b (integer s2 1)) rest ++ items rest) pc end
      → M (plain_needs (binary_op op (integer s 2) mode t a (integer s1 1) b (integer s2 1)) rest) m v → Rest (suc n) rest
      → G (suc n) m.state.work pc v (P n (binary_op op (integer s 2) mode t a (integer s1 1) b (integer s2 1)) rest m)
  multiplied_follows op is s s1 s2 mode t a b rest n pc m v it ia ib two one_a one_b stands h f =
      subst (λ j. G (suc n) m.state.work pc v (next (held_as p (integer s1 j) a m.temps (worked
      (op_steps (binary_op op (integer s 2) mode t a (integer s1 1) b (integer s2 1))) m.state))
      (λ x st1. next (held_as p (integer s2 1) b m.temps st1) (λ z st2. next (given (binary_result op (integer s 2) mode
      (operand_of p (integer s1 1) x st2) (operand_of p (integer s2 1) z st2)) st2)
      (λ u st3. R (suc n) rest (machine (with_temp t u m.temps) st3)))))) one_a
      (from_number p place e s1 a m.temps
      (worked (op_steps (binary_op op (integer s 2) mode t a (integer s1 1) b (integer s2 1))) m.state) _ (suc n) m.state.work pc v
      (λ low1 qa.
      subst (λ j. G (suc n) m.state.work pc v (next (held_as p (integer s2 j) b m.temps (worked
      (op_steps (binary_op op (integer s 2) mode t a (integer s1 1) b (integer s2 1))) m.state))
      (λ z st2. next (given (binary_result op (integer s 2) mode (operand_of p (integer s1 1)
      (Number (number_of_bytes s1 a.bytes low1)) st2) (operand_of p (integer s2 1) z st2)) st2)
      (λ u st3. R (suc n) rest (machine (with_temp t u m.temps) st3))))) one_b
      (from_number p place e s2 b m.temps
      (worked (op_steps (binary_op op (integer s 2) mode t a (integer s1 1) b (integer s2 1))) m.state) _ (suc n) m.state.work pc v
      (λ low2 qb.
      let below1 : low1 < 256 = subst (λ x. low1 < 256 ^ x) one_a (h.temps_hold a _ ia qa refl).1 in
      let below2 : low2 < 256 = subst (λ x. low2 < 256 ^ x) one_b (h.temps_hold b _ ib qb refl).1 in
      let z = wrapped (record { signed = s; bytes = 2 }) (number_of_bytes s1 1 low1 *ℤ number_of_bytes s2 1 low2) in
      let g : binary_result op (integer s 2) mode
      (operand_of p (integer s1 1) (Number (number_of_bytes s1 a.bytes low1))
      (worked (op_steps (binary_op op (integer s 2) mode t a (integer s1 1) b (integer s2 1))) m.state))
      (operand_of p (integer s2 1) (Number (number_of_bytes s2 b.bytes low2))
      (worked (op_steps (binary_op op (integer s 2) mode t a (integer s1 1) b (integer s2 1))) m.state))
      ≡ Ok (Number z) = rw (one_a, one_b)
      (product_value op is mode s s1 s2 low1 low2
      (worked (op_steps (binary_op op (integer s 2) mode t a (integer s1 1) b (integer s2 1))) m.state)
      (worked (op_steps (binary_op op (integer s 2) mode t a (integer s1 1) b (integer s2 1))) m.state)) in
      let number : low_bytes t.bytes z ≡ product_of s1 s2 low1 low2 = rw two (product_low s1 s2 s low1 low2 below1 below2) in
      subst
      (λ o. G (suc n) m.state.work pc v
      (next (given o (worked (op_steps (binary_op op (integer s 2) mode t a (integer s1 1) b (integer s2 1))) m.state))
      (λ u st3. R (suc n) rest (machine (with_temp t u m.temps) st3)))) (sym g)
      (subst
      (λ w. G (suc n) m.state.work pc v
      (R (suc n) rest (after_operator t w (op_steps (binary_op op (integer s 2) mode t a (integer s1 1) b (integer s2 1))) m))) (sym number)
      (⊎_elim (λ q. dead q low1 low2) (λ q. alive q low1 low2 qa qb below1 below2) (cases_Bool ((wanted (needs at rest) t) == 0))))))))
    where
      below : (low1 low2 : ℕ) → product_of s1 s2 low1 low2 < 256 ^ t.bytes
      below low1 low2 = rw two (mod_below _ 65536 (omega arith))

      dead : ((wanted (needs at rest) t) == 0) ≡ true → (low1 low2 : ℕ)
          → G (suc n) m.state.work pc v
          (R (suc n) rest
          (after_operator t (product_of s1 s2 low1 low2)
          (op_steps (binary_op op (integer s 2) mode t a (integer s1 1) b (integer s2 1))) m))
      dead q low1 low2 =
          let empty : code_of (binary_op op (integer s 2) mode t a (integer s1 1) b (integer s2 1)) rest ≡ [] =
          ap (λ x. binary_code x s1 s2 (home a) (home b) (home t) a.bytes (wanted (needs at rest) t)) is ∙ rw q refl in
          nothing_passes (binary_op op (integer s 2) mode t a (integer s1 1) b (integer s2 1)) t (product_of s1 s2 low1 low2)
          (op_steps (binary_op op (integer s 2) mode t a (integer s1 1) b (integer s2 1))) rest n pc
          (plain_needs (binary_op op (integer s 2) mode t a (integer s1 1) b (integer s2 1)) rest) m v it empty
          (eqb-true (wanted (needs at rest) t) 0 q) (below low1 low2) stands
          (other_needed op t a b (operand_wanted op a.bytes (wanted (needs at rest) t))
          (right_wanted op b.bytes (wanted (needs at rest) t)) (needs at rest)) h f

      alive : ((wanted (needs at rest) t) == 0) ≡ false → (low1 low2 : ℕ) → m.temps a.at
          ≡ Some (record { bytes = a.bytes; content = bits low1 })
          → m.temps b.at ≡ Some (record { bytes = b.bytes; content = bits low2 }) → low1 < 256 → low2 < 256
          → G (suc n) m.state.work pc v
          (R (suc n) rest
          (after_operator t (product_of s1 s2 low1 low2)
          (op_steps (binary_op op (integer s 2) mode t a (integer s1 1) b (integer s2 1))) m))
      alive q low1 low2 qa qb below1 below2 =
          let need1 = operands_needed op t a b a.bytes b.bytes (needs at rest) in
          let h1 : M need1 m v =
          subst (λ x. M (operands_needed op t a b x b.bytes (needs at rest)) m v)
          (factor_wanted op is a.bytes (wanted (needs at rest) t) q).0
          (subst (λ x. M (operands_needed op t a b (operand_wanted op a.bytes (wanted (needs at rest) t)) x (needs at rest)) m v)
          (factor_wanted op is b.bytes (wanted (needs at rest) t) q).1 h) in
          let code : code_of (binary_op op (integer s 2) mode t a (integer s1 1) b (integer s2 1)) rest
          ≡ product_code s1 s2 (home a) (home b) (home t) (wanted (needs at rest) t) = ap
          (λ x. binary_code x s1 s2 (home a) (home b) (home t) a.bytes (wanted (needs at rest) t)) is ∙ rw q refl in
          let stand : HasAt e (product_code s1 s2 (home a) (home b) (home t) (wanted (needs at rest) t) ++ items rest) pc end =
          subst (λ x. HasAt e (x ++ items rest) pc end) code stands in
          let parts = has_parts e (product_code s1 s2 (home a) (home b) (home t) (wanted (needs at rest) t)) (items rest) pc end stand in
          let sa : StandsFrom e (home a) 1 (base a) Own =
          subst (λ j. StandsFrom e (home a) j (base a) Own) one_a (y.layout.temps_at a ia) in
          let sb : StandsFrom e (home b) 1 (base b) Own =
          subst (λ j. StandsFrom e (home b) j (base b) Own) one_b (y.layout.temps_at b ib) in
          let most = wanted_most (needs at rest) t in
          let st1 : StandsFrom e (home t) (wanted (needs at rest) t) (base t) Own =
          stands_less e (home t) t.bytes (wanted (needs at rest) t) (base t) Own most (y.layout.temps_at t it) in
          let x1 : v.at (base a) ≡ low1 =
          byte_at (base a) a.bytes low1 one_a below1
          (left_holds op t a b a.bytes b.bytes low1 (needs at rest) m v ia (omega arith) qa h1) in
          let x2 : v.at (base b) ≡ low2 =
          byte_at (base b) b.bytes low2 one_b below2
          (right_holds op t a b a.bytes b.bytes low2 (needs at rest) m v ib (omega arith) qb h1) in
          let g0 =
          products_are_right s1 s2 e (home a) (home b) (home t) (wanted (needs at rest) t) (base a) (base b)
          (base t) pc parts.0 v sa sb st1 (omega (arith, most, two))
          (clear_of (base a) a.bytes (omega (arith, one_a)) (y.layout.temps_work a ia))
          (clear_of (base b) b.bytes (omega (arith, one_b)) (y.layout.temps_work b ib)) h1.bytes parts.1 in
          let g : Leads e (9 + (wanted (needs at rest) t)) pc v parts.0 (base t) (wanted (needs at rest) t)
          (product_of s1 s2 low1 low2 % 256 ^ (wanted (needs at rest) t)) = subst
          (λ j. Leads e (9 + (wanted (needs at rest) t)) pc v parts.0 (base t) (wanted (needs at rest) t)
          (product_of s1 s2 j low2 % 256 ^ (wanted (needs at rest) t))) x1
          (subst
          (λ j. Leads e (9 + (wanted (needs at rest) t)) pc v parts.0 (base t) (wanted (needs at rest) t)
          (product_of s1 s2 (v.at (base a)) j % 256 ^ (wanted (needs at rest) t))) x2 g0) in
          let m1 =
          after_operator t (product_of s1 s2 low1 low2)
          (op_steps (binary_op op (integer s 2) mode t a (integer s1 1) b (integer s2 1))) m in
          let matches =
          led_matches t (product_of s1 s2 low1 low2) (9 + (wanted (needs at rest) t)) pc parts.0 (wanted (needs at rest) t)
          (needs at rest) need1 m v (op_steps (binary_op op (integer s 2) mode t a (integer s1 1) b (integer s2 1))) it g refl
          (below low1 low2) (other_needed op t a b a.bytes b.bytes (needs at rest)) h1 in
          let take = g.at_most in
          let big = relation_big op (integer s 2) (integer s1 1) (integer s2 1) in
          after p place e g.steps (suc n) (suc n) m.state.work m1.state.work pc parts.0 v g.last (R (suc n) rest m1) g.goes (omega arith)
          (omega (arith, take, big, most, two)) (f parts.0 m1 g.last parts.2 matches)
        where
          byte_at : (c bytes x : ℕ) → bytes ≡ 1 → x < 256 → value v.at c bytes ≡ x % 256 ^ bytes → v.at c ≡ x
          byte_at c bytes x one l w =
              let w1 : value v.at c 1 ≡ x % 256 ^ 1 = subst (λ j. value v.at c j ≡ x % 256 ^ j) one w in
              let z : c + 0 ≡ c = omega arith in
              let w2 : v.at (c + 0) * 1 ≡ x % 256 = omega (arith, w1) in
              sym (ap v.at z) ∙ omega (arith, w2, l)

          clear_of : (c bytes : ℕ) → 1 ≤ bytes → IsClear c bytes → Outside 30 2 c
          clear_of c bytes some w l =
              ⊎_elim (λ (z : c < 26). let d = w.high.left z in absurd (omega arith))
              (λ (z : 26 ≤ c). let d = w.high.right z in omega arith) (cases_lt c 26)

  -- ---- shifts

  shift_wanted : (op : BinOp) (up : Bool) → family_of op ≡ Shifted up → (bytes other k : ℕ) → (k == 0) ≡ false
      → (operand_wanted op bytes k ≡ shifted_bytes up bytes k) × (right_wanted op other k ≡ 1)
  shift_wanted Shl true h bytes other k q = (refl, all_when 1 k q)
  shift_wanted Shr false h bytes other k q = (all_when bytes k q, all_when 1 k q)
  shift_wanted op up h bytes other k q = absurd cc

  shift_value : (op : BinOp) (up : Bool) → family_of op ≡ Shifted up → (mode : Mode) (s s2 : Bool) (b bb x z : ℕ)
      (st st1 : State)
      → binary_result op (integer s b) mode (operand_of p (integer s b) (Number (number_of_bytes s b x)) st)
      (operand_of p (integer s2 bb) (Number (number_of_bytes s2 bb z)) st1)
      ≡ as_number
      (if is_count (8 * b) (number_of_bytes s2 bb z) then Ok
      (wrapped (record { signed = s; bytes = b })
      (shift_number up (number_of_bytes s b x) (unsigned_abs (number_of_bytes s2 bb z)))) else Err ShiftCount)
  shift_value Shl true h mode s s2 b bb x z st st1 = refl
  shift_value Shr false h mode s s2 b bb x z st st1 = refl
  shift_value op up h mode s s2 b bb x z st st1 = absurd cc

  -- the words of a shift
  shift_big : (op : BinOp) (up : Bool) → family_of op ≡ Shifted up → (ty aty bty : PlainType)
      → 9600 ≤ 64 * binary_words op ty aty bty
  shift_big Shl up h ty aty bty = omega arith
  shift_big Shr up h ty aty bty = omega arith
  shift_big op up h ty aty bty = absurd cc

  shift_room : (w c : ℕ) → w ≤ 16 → c < 128 → w * 2 + 2 + (3 + c * (2 + 4 * w)) ≤ 9600
  shift_room w c l k =
      let m : c * (2 + 4 * w) ≤ 127 * (2 + 4 * 16) = mul-le c (2 + 4 * w) 127 (2 + 4 * 16) (omega arith) (omega arith) in
      omega (arith, m, l)

  shifted_some : (up : Bool) (bytes k : ℕ) → 1 ≤ bytes → (k == 0) ≡ false → k ≤ bytes
      → (1 ≤ shifted_bytes up bytes k) × (shifted_bytes up bytes k ≤ bytes)
  shifted_some true bytes zero some q l = absurd cc
  shifted_some true bytes (suc k) some q l = (omega arith, l)
  shifted_some false bytes k some q l = (some, omega arith)

  pub shifted_follows : (op : BinOp) (up : Bool) → family_of op ≡ Shifted up → (s s2 : Bool) (mode : Mode)
      (t a b : Temp) (rest : List PlainIr) (n pc : ℕ) (m : Mach) (v : View) → HasHome slots t → HasHome slots a
      → HasHome slots b → a.bytes ≡ t.bytes → t.at ≢ b.at
      → HasAt e (code_of (binary_op op (integer s a.bytes) mode t a (integer s a.bytes) b (integer s2 b.bytes)) rest ++ items rest) pc end
      → M (plain_needs (binary_op op (integer s a.bytes) mode t a (integer s a.bytes) b (integer s2 b.bytes)) rest) m v
      → Rest (suc n) rest
      → G (suc n) m.state.work pc v
      (P n (binary_op op (integer s a.bytes) mode t a (integer s a.bytes) b (integer s2 b.bytes)) rest m)
  shifted_follows op up is s s2 mode t a b rest n pc m v it ia ib same other stands h f =
      from_number p place e s a m.temps
      (worked (op_steps (binary_op op (integer s a.bytes) mode t a (integer s a.bytes) b (integer s2 b.bytes))) m.state) _
      (suc n) m.state.work pc v
      (λ low1 qa. from_number p place e s2 b m.temps
      (worked (op_steps (binary_op op (integer s a.bytes) mode t a (integer s a.bytes) b (integer s2 b.bytes))) m.state) _
      (suc n) m.state.work pc v
      (λ low2 qb.
      subst
      (λ o. G (suc n) m.state.work pc v
      (next (given o (worked (op_steps (binary_op op (integer s a.bytes) mode t a (integer s a.bytes) b (integer s2 b.bytes))) m.state))
      (λ u st3. R (suc n) rest (machine (with_temp t u m.temps) st3))))
      (sym
      (shift_value op up is mode s s2 a.bytes b.bytes low1 low2
      (worked (op_steps (binary_op op (integer s a.bytes) mode t a (integer s a.bytes) b (integer s2 b.bytes))) m.state)
      (worked (op_steps (binary_op op (integer s a.bytes) mode t a (integer s a.bytes) b (integer s2 b.bytes))) m.state)))
      (by_count low1 low2 qa qb (h.temps_hold a _ ia qa refl).1 (h.temps_hold b _ ib qb refl).1
      (is_count (8 * a.bytes) (number_of_bytes s2 b.bytes low2)) refl)))
    where
      dead : ((wanted (needs at rest) t) == 0) ≡ true → (low1 c : ℕ) → low1 < 256 ^ t.bytes
          → G (suc n) m.state.work pc v
          (R (suc n) rest
          (after_operator t (shifted_by (shift_of up s) t.bytes low1 c)
          (op_steps (binary_op op (integer s a.bytes) mode t a (integer s a.bytes) b (integer s2 b.bytes))) m))
      dead q low1 c below =
          let empty : code_of (binary_op op (integer s a.bytes) mode t a (integer s a.bytes) b (integer s2 b.bytes)) rest ≡ [] =
          ap (λ x. binary_code x s s2 (home a) (home b) (home t) a.bytes (wanted (needs at rest) t)) is ∙ rw q refl in
          nothing_passes (binary_op op (integer s a.bytes) mode t a (integer s a.bytes) b (integer s2 b.bytes)) t
          (shifted_by (shift_of up s) t.bytes low1 c)
          (op_steps (binary_op op (integer s a.bytes) mode t a (integer s a.bytes) b (integer s2 b.bytes))) rest n pc
          (plain_needs (binary_op op (integer s a.bytes) mode t a (integer s a.bytes) b (integer s2 b.bytes)) rest) m v it empty
          (eqb-true (wanted (needs at rest) t) 0 q) (shifted_below (shift_of up s) t.bytes low1 c below) stands
          (other_needed op t a b (operand_wanted op a.bytes (wanted (needs at rest) t))
          (right_wanted op b.bytes (wanted (needs at rest) t)) (needs at rest)) h f

      alive : ((wanted (needs at rest) t) == 0) ≡ false → (low1 c : ℕ) → m.temps a.at
          ≡ Some (record { bytes = a.bytes; content = bits low1 })
          → m.temps b.at ≡ Some (record { bytes = b.bytes; content = bits c }) → low1 < 256 ^ t.bytes → c < 128
          → G (suc n) m.state.work pc v
          (R (suc n) rest
          (after_operator t (shifted_by (shift_of up s) t.bytes low1 c)
          (op_steps (binary_op op (integer s a.bytes) mode t a (integer s a.bytes) b (integer s2 b.bytes))) m))
      alive q low1 c qa qb below small =
          let most = wanted_most (needs at rest) t in
          let part = shifted_some up a.bytes (wanted (needs at rest) t) ia.some q (omega (arith, most, same)) in
          by_width ((shifted_bytes up a.bytes (wanted (needs at rest) t)) - 1) (omega (arith, part)) part.1
        where
          h1 : M (operands_needed op t a b (shifted_bytes up a.bytes (wanted (needs at rest) t)) 1 (needs at rest)) m v
          h1 =
              subst (λ x. M (operands_needed op t a b x 1 (needs at rest)) m v)
              (shift_wanted op up is a.bytes b.bytes (wanted (needs at rest) t) q).0
              (subst (λ x. M (operands_needed op t a b (operand_wanted op a.bytes (wanted (needs at rest) t)) x (needs at rest)) m v)
              (shift_wanted op up is a.bytes b.bytes (wanted (needs at rest) t) q).1 h)

          count_at : v.at (base b) ≡ c
          count_at =
              let r : value v.at (base b) 1 ≡ c % 256 ^ 1 =
              right_holds op t a b (shifted_bytes up a.bytes (wanted (needs at rest) t)) 1 c (needs at rest) m v ib ib.some qb h1 in
              let z : base b + 0 ≡ base b = omega arith in
              let r1 : v.at (base b + 0) * 1 ≡ c % 256 = omega (arith, r) in
              sym (ap v.at z) ∙ omega (arith, r1, small)

          by_width : (j : ℕ) → (shifted_bytes up a.bytes (wanted (needs at rest) t)) ≡ suc j
              → (shifted_bytes up a.bytes (wanted (needs at rest) t)) ≤ a.bytes
              → G (suc n) m.state.work pc v
              (R (suc n) rest
              (after_operator t (shifted_by (shift_of up s) t.bytes low1 c)
              (op_steps (binary_op op (integer s a.bytes) mode t a (integer s a.bytes) b (integer s2 b.bytes))) m))
          by_width j q1 less =
              let code : code_of (binary_op op (integer s a.bytes) mode t a (integer s a.bytes) b (integer s2 b.bytes)) rest
              ≡ turned_code (shift_of up s) (home a) (home b) (home t) (suc j) = ap
              (λ x. binary_code x s s2 (home a) (home b) (home t) a.bytes (wanted (needs at rest) t)) is ∙ rw q refl
              ∙ ap (λ x. turned_code (shift_of up s) (home a) (home b) (home t) x) q1 in
              let stand : HasAt e (turned_code (shift_of up s) (home a) (home b) (home t) (suc j) ++ items rest) pc end =
              subst (λ x. HasAt e (x ++ items rest) pc end) code stands in
              let parts = has_parts e (turned_code (shift_of up s) (home a) (home b) (home t) (suc j)) (items rest) pc end stand in
              let left0 : value v.at (base a) (shifted_bytes up a.bytes (wanted (needs at rest) t))
              ≡ low1 % 256 ^ (shifted_bytes up a.bytes (wanted (needs at rest) t)) = left_holds op t a b
              (shifted_bytes up a.bytes (wanted (needs at rest) t)) 1 low1 (needs at rest) m v ia less qa h1 in
              let left : value v.at (base a) (suc j) ≡ low1 % 256 ^ (shifted_bytes up a.bytes (wanted (needs at rest) t)) =
              subst (λ x. value v.at (base a) x ≡ low1 % 256 ^ (shifted_bytes up a.bytes (wanted (needs at rest) t))) q1 left0 in
              let g =
              turned_leads p e slots home base place y (shift_of up s) t a b j
              (low1 % 256 ^ (shifted_bytes up a.bytes (wanted (needs at rest) t))) c pc parts.0 v it ia ib other
              (omega (arith, q1, less, same)) (omega (arith, q1, less)) left count_at small h1.bytes parts.1 in
              let number : value g.last.at (base t) (shifted_bytes up a.bytes (wanted (needs at rest) t))
              ≡ shifted_by (shift_of up s) (shifted_bytes up a.bytes (wanted (needs at rest) t))
              (low1 % 256 ^ (shifted_bytes up a.bytes (wanted (needs at rest) t))) c = subst
              (λ x. value g.last.at (base t) x
              ≡ shifted_by (shift_of up s) x (low1 % 256 ^ (shifted_bytes up a.bytes (wanted (needs at rest) t))) c) (sym q1) g.number_is in
              let number1 : value g.last.at (base t) (shifted_bytes up t.bytes (wanted (needs at rest) t))
              ≡ shifted_by (shift_of up s) (shifted_bytes up t.bytes (wanted (needs at rest) t))
              (low1 % 256 ^ shifted_bytes up t.bytes (wanted (needs at rest) t)) c = subst
              (λ x. value g.last.at (base t) (shifted_bytes up x (wanted (needs at rest) t))
              ≡ shifted_by (shift_of up s) (shifted_bytes up x (wanted (needs at rest) t))
              (low1 % 256 ^ shifted_bytes up x (wanted (needs at rest) t)) c) same number in
              let most = wanted_most (needs at rest) t in
              let clear = (y.layout.temps_at t it).clear in
              let here =
              shift_part up s g.last.at (base t) (wanted (needs at rest) t) t.bytes low1 c most below
              (λ x l. g.numbers (base t + x) (omega arith)) number1 in
              let m1 =
              after_operator t (shifted_by (shift_of up s) t.bytes low1 c)
              (op_steps (binary_op op (integer s a.bytes) mode t a (integer s a.bytes) b (integer s2 b.bytes))) m in
              let frame : Frame v g.last (base t) t.bytes =
              λ x d r u o. g.same x d r u (narrower (base t) t.bytes (suc j) x (omega (arith, q1, less, same)) o) in
              let matches =
              written p e slots home base place y t (bits (shifted_by (shift_of up s) t.bytes low1 c)) (needs at rest)
              (operands_needed op t a b (shifted_bytes up a.bytes (wanted (needs at rest) t)) 1 (needs at rest)) m
              (worked
              (op_steps (binary_op op (integer s a.bytes) mode t a (integer s a.bytes) b (integer s2 b.bytes))) m.state) v g.last it h1
              (other_needed op t a b (shifted_bytes up a.bytes (wanted (needs at rest) t)) 1 (needs at rest)) frame
              (here, shifted_below (shift_of up s) t.bytes low1 c below) g.numbers refl (g.seen ∙ h1.seen)
              (kept_left y.inputs m.state v g.last (g.inputs) h1.left) (g.safe ∙ h1.safe) in
              let take = g.at_most in
              let room = ia.most in
              let fits = shift_room (suc j) c (omega (arith, q1, less, room)) small in
              let big = shift_big op up is (integer s a.bytes) (integer s a.bytes) (integer s2 b.bytes) in
              after p place e g.steps (suc n) (suc n) m.state.work m1.state.work pc parts.0 v g.last (R (suc n) rest m1) g.goes
              (omega arith) (omega (arith, take, fits, big)) (f parts.0 m1 g.last parts.2 matches)

      by_count : (low1 low2 : ℕ) → m.temps a.at ≡ Some (record { bytes = a.bytes; content = bits low1 })
          → m.temps b.at ≡ Some (record { bytes = b.bytes; content = bits low2 }) → low1 < 256 ^ a.bytes → low2 < 256 ^ b.bytes
          → (x : Bool) → is_count (8 * a.bytes) (number_of_bytes s2 b.bytes low2) ≡ x
          → G (suc n) m.state.work pc v
          (next
          (given
          (as_number
          (if x then Ok
          (wrapped (record { signed = s; bytes = a.bytes })
          (shift_number up (number_of_bytes s a.bytes low1) (unsigned_abs (number_of_bytes s2 b.bytes low2)))) else Err ShiftCount))
          (worked (op_steps (binary_op op (integer s a.bytes) mode t a (integer s a.bytes) b (integer s2 b.bytes))) m.state))
          (λ u st3. R (suc n) rest (machine (with_temp t u m.temps) st3)))
      by_count low1 low2 qa qb below1 below2 false q = tt
      by_count low1 low2 qa qb below1 below2 true q =
          let c = count_is s2 b.bytes low2 (8 * a.bytes) below2 q in
          let count = unsigned_abs (number_of_bytes s2 b.bytes low2) in
          let room = ia.most in
          let z = wrapped (record { signed = s; bytes = a.bytes }) (shift_number up (number_of_bytes s a.bytes low1) count) in
          let below : low1 < 256 ^ t.bytes = subst (λ x. low1 < 256 ^ x) same below1 in
          let number0 : low_bytes a.bytes z ≡ shifted_by (shift_of up s) a.bytes low1 low2 =
          shift_low up s a.bytes low1 count below1 ∙ ap (shifted_by (shift_of up s) a.bytes low1) c.0 in
          let number : low_bytes t.bytes z ≡ shifted_by (shift_of up s) t.bytes low1 low2 =
          subst (λ x. low_bytes x z ≡ shifted_by (shift_of up s) x low1 low2) same number0 in
          subst
          (λ x. G (suc n) m.state.work pc v
          (R (suc n) rest
          (after_operator t x (op_steps (binary_op op (integer s a.bytes) mode t a (integer s a.bytes) b (integer s2 b.bytes))) m)))
          (sym number)
          (⊎_elim (λ r. dead r low1 low2 below) (λ r. alive r low1 low2 qa qb below (omega (arith, c.1, room)))
          (cases_Bool ((wanted (needs at rest) t) == 0)))

  -- a shift by a known count, where its code is shown to leave what it gives
  counted_follows : (op : BinOp) (up : Bool) → family_of op ≡ Shifted up → (s s2 : Bool) (mode : Mode) (t a b : Temp)
      (need0 : Need) (rest : List PlainIr) (n pc : ℕ) (m : Mach) (v : View) → HasHome slots a → HasHome slots b
      → a.bytes ≡ t.bytes → M need0 m v
      → ((low1 low2 : ℕ) → m.temps a.at ≡ Some (record { bytes = a.bytes; content = bits low1 })
      → m.temps b.at ≡ Some (record { bytes = b.bytes; content = bits low2 }) → low1 < 256 ^ t.bytes → low2 < 128
      → G (suc n) m.state.work pc v
      (R (suc n) rest (after_operator t (shifted_by (shift_of up s) t.bytes low1 low2)
      (op_steps (binary_op op (integer s a.bytes) mode t a (integer s a.bytes) b (integer s2 b.bytes))) m)))
      → G (suc n) m.state.work pc v
      (P n (binary_op op (integer s a.bytes) mode t a (integer s a.bytes) b (integer s2 b.bytes)) rest m)
  counted_follows op up is s s2 mode t a b need0 rest n pc m v ia ib same h shown =
      from_number p place e s a m.temps (worked c m.state) _ (suc n) m.state.work pc v
      (λ low1 qa. from_number p place e s2 b m.temps (worked c m.state) _ (suc n) m.state.work pc v
      (λ low2 qb.
      subst
      (λ o. G (suc n) m.state.work pc v
      (next (given o (worked c m.state)) (λ u st3. R (suc n) rest (machine (with_temp t u m.temps) st3))))
      (sym (shift_value op up is mode s s2 a.bytes b.bytes low1 low2 (worked c m.state) (worked c m.state)))
      (by_count low1 low2 qa qb (h.temps_hold a _ ia qa refl).1 (h.temps_hold b _ ib qb refl).1
      (is_count (8 * a.bytes) (number_of_bytes s2 b.bytes low2)) refl)))
    where
      c : ℕ
      c = op_steps (binary_op op (integer s a.bytes) mode t a (integer s a.bytes) b (integer s2 b.bytes))

      sh : Direction
      sh = shift_of up s

      by_count : (low1 low2 : ℕ) → m.temps a.at ≡ Some (record { bytes = a.bytes; content = bits low1 })
          → m.temps b.at ≡ Some (record { bytes = b.bytes; content = bits low2 }) → low1 < 256 ^ a.bytes → low2 < 256 ^ b.bytes
          → (x : Bool) → is_count (8 * a.bytes) (number_of_bytes s2 b.bytes low2) ≡ x
          → G (suc n) m.state.work pc v
          (next
          (given
          (as_number
          (if x then Ok
          (wrapped (record { signed = s; bytes = a.bytes })
          (shift_number up (number_of_bytes s a.bytes low1) (unsigned_abs (number_of_bytes s2 b.bytes low2)))) else Err ShiftCount))
          (worked c m.state))
          (λ u st3. R (suc n) rest (machine (with_temp t u m.temps) st3)))
      by_count low1 low2 qa qb below1 below2 false q = tt
      by_count low1 low2 qa qb below1 below2 true q =
          let x = count_is s2 b.bytes low2 (8 * a.bytes) below2 q in
          let turns = unsigned_abs (number_of_bytes s2 b.bytes low2) in
          let room = ia.most in
          let z = wrapped (record { signed = s; bytes = a.bytes }) (shift_number up (number_of_bytes s a.bytes low1) turns) in
          let below : low1 < 256 ^ t.bytes = subst (λ i. low1 < 256 ^ i) same below1 in
          let number0 : low_bytes a.bytes z ≡ shifted_by sh a.bytes low1 low2 =
          shift_low up s a.bytes low1 turns below1 ∙ ap (shifted_by sh a.bytes low1) x.0 in
          let number : low_bytes t.bytes z ≡ shifted_by sh t.bytes low1 low2 =
          subst (λ i. low_bytes i z ≡ shifted_by sh i low1 low2) same number0 in
          subst (λ i. G (suc n) m.state.work pc v (R (suc n) rest (after_operator t i c m))) (sym number)
          (shown low1 low2 qa qb below (omega (arith, x.1, room)))

  -- the same with a known count
  shifted_number_follows : (op : BinOp) (up : Bool) → family_of op ≡ Shifted up → (s s2 : Bool) (mode : Mode) (t a b : Temp) (k : ℤ)
      (wide : ℕ) (rest : List PlainIr) (n pc : ℕ) (m : Mach) (v : View) → HasHome slots t → HasHome slots a → HasHome slots b
      → a.bytes ≡ t.bytes → IsKnown b k m
      → ((wanted (needs at rest) t == 0) ≡ false → wide ≡ shifted_bytes up a.bytes (wanted (needs at rest) t))
      → HasAt e ((if wanted (needs at rest) t == 0 then []
      else counted_code (shift_of up s) (home a) (home t) (shifted_bytes up a.bytes (wanted (needs at rest) t)) (low_bytes 16 k % 256))
      ++ items rest) pc end
      → M (at_least a.at wide (without t.at (needs at rest))) m v → Rest (suc n) rest
      → G (suc n) m.state.work pc v
      (P n (binary_op op (integer s a.bytes) mode t a (integer s a.bytes) b (integer s2 b.bytes)) rest m)
  shifted_number_follows op up is s s2 mode t a b k wide rest n pc m v it ia ib same known wants stands h f =
      counted_follows op up is s s2 mode t a b need0 rest n pc m v ia ib same h
      (λ low1 low2 qa qb below small.
      ⊎_elim (λ r. dead r low1 low2 below) (λ r. alive r low1 low2 qa qb below small) (cases_Bool (w == 0)))
    where
      c : ℕ
      c = op_steps (binary_op op (integer s a.bytes) mode t a (integer s a.bytes) b (integer s2 b.bytes))

      w : ℕ
      w = wanted (needs at rest) t

      width : ℕ
      width = shifted_bytes up a.bytes w

      sh : Direction
      sh = shift_of up s

      count : ℕ
      count = low_bytes 16 k % 256

      need0 : Need
      need0 = at_least a.at wide (without t.at (needs at rest))

      need1 : Need
      need1 = at_least a.at width (without t.at (needs at rest))

      still : (ka : ℕ) (u : ℕ) → u ≢ t.at → needs at rest u ≤ at_least a.at ka (without t.at (needs at rest)) u
      still ka u d =
          let x = without_other t.at u (needs at rest) d in
          let z = least_other a.at ka u (without t.at (needs at rest)) in
          omega (arith, x, z)

      after_shift : (low1 low2 : ℕ) → Mach
      after_shift low1 low2 = after_operator t (shifted_by sh t.bytes low1 low2) c m

      dead : (w == 0) ≡ true → (low1 low2 : ℕ) → low1 < 256 ^ t.bytes
          → G (suc n) m.state.work pc v (R (suc n) rest (after_shift low1 low2))
      dead q low1 low2 below =
          let m1 = after_shift low1 low2 in
          let stand = subst (λ (x : Bool). HasAt e ((if x then [] else counted_code sh (home a) (home t) width count) ++ items rest) pc end)
          q stands in
          let matches = not_needed t (shifted_by sh t.bytes low1 low2) c (needs at rest) need0 m v it (eqb-true w 0 q)
          (shifted_below sh t.bytes low1 low2 below) (still wide) h in
          goes_past [] (items rest) (suc n) (suc n) m.state.work m1.state.work pc v (R (suc n) rest m1) stand refl (omega arith)
          (omega arith)
          (λ mid u. f mid m1 v u matches)

      alive : (w == 0) ≡ false → (low1 low2 : ℕ) → m.temps a.at ≡ Some (record { bytes = a.bytes; content = bits low1 })
          → m.temps b.at ≡ Some (record { bytes = b.bytes; content = bits low2 }) → low1 < 256 ^ t.bytes → low2 < 128
          → G (suc n) m.state.work pc v (R (suc n) rest (after_shift low1 low2))
      alive q low1 low2 qa qb below small =
          let most = wanted_most (needs at rest) t in
          let part = shifted_some up a.bytes w ia.some q (omega (arith, most, same)) in
          by_width (width - 1) (omega (arith, part)) part.1
        where
          h1 : M need1 m v
          h1 = subst (λ x. M (at_least a.at x (without t.at (needs at rest))) m v) (wants q) h

          count_at : count ≡ low2
          count_at =
              let some = ib.some in
              let eight = ib.most in
              number_low k 1 b.bytes some (omega (arith, eight)) ∙ ap (λ x. x % 256 ^ 1) (sym (known low2 qb))
              ∙ kept_below low2 (256 ^ 1) (omega (arith, small))

          by_width : (j : ℕ) → width ≡ suc j → width ≤ a.bytes → G (suc n) m.state.work pc v (R (suc n) rest (after_shift low1 low2))
          by_width j q1 less =
              let code : (if w == 0 then [] else counted_code sh (home a) (home t) width count)
              ≡ counted_code sh (home a) (home t) (suc j) low2 =
              ap (λ (x : Bool). if x then [] else counted_code sh (home a) (home t) width count) q
              ∙ ap (λ x. counted_code sh (home a) (home t) x count) q1 ∙ ap (counted_code sh (home a) (home t) (suc j)) count_at in
              let stand : HasAt e (counted_code sh (home a) (home t) (suc j) low2 ++ items rest) pc end =
              subst (λ x. HasAt e (x ++ items rest) pc end) code stands in
              let parts = has_parts e (counted_code sh (home a) (home t) (suc j) low2) (items rest) pc end stand in
              let here = least_here a.at width (without t.at (needs at rest)) in
              let left0 : value v.at (base a) width ≡ low1 % 256 ^ width =
              (at_width p e slots home base place y need1 m v a _ width h1 ia qa refl (omega (arith, here, less))).0 in
              let left : value v.at (base a) (suc j) ≡ low1 % 256 ^ width =
              subst (λ x. value v.at (base a) x ≡ low1 % 256 ^ width) q1 left0 in
              let g =
              counted_leads p e slots home base place y sh t a j (low1 % 256 ^ width) low2 pc parts.0 v it ia
              (omega (arith, q1, less, same)) (omega (arith, q1, less)) left small h1.bytes parts.1 in
              let number : value g.last.at (base t) width ≡ shifted_by sh width (low1 % 256 ^ width) low2 =
              subst (λ x. value g.last.at (base t) x ≡ shifted_by sh x (low1 % 256 ^ width) low2) (sym q1) g.number_is in
              let number1 : value g.last.at (base t) (shifted_bytes up t.bytes w)
              ≡ shifted_by sh (shifted_bytes up t.bytes w) (low1 % 256 ^ shifted_bytes up t.bytes w) low2 =
              subst (λ x. value g.last.at (base t) (shifted_bytes up x w)
              ≡ shifted_by sh (shifted_bytes up x w) (low1 % 256 ^ shifted_bytes up x w) low2) same number in
              let most = wanted_most (needs at rest) t in
              let clear = (y.layout.temps_at t it).clear in
              let part =
              shift_part up s g.last.at (base t) w t.bytes low1 low2 most below (λ x l. g.numbers (base t + x) (omega arith)) number1 in
              let m1 = after_shift low1 low2 in
              let frame : Frame v g.last (base t) t.bytes =
              λ x d r u o. g.same x d r u (narrower (base t) t.bytes (suc j) x (omega (arith, q1, less, same)) o) in
              let matches =
              written p e slots home base place y t (bits (shifted_by sh t.bytes low1 low2)) (needs at rest) need1 m
              (worked c m.state) v g.last it h1 (still width) frame (part, shifted_below sh t.bytes low1 low2 below) g.numbers refl
              (g.seen ∙ h1.seen) (kept_left y.inputs m.state v g.last (g.inputs) h1.left) (g.safe ∙ h1.safe) in
              let take = g.at_most in
              let room = ia.most in
              let fits = shift_room (suc j) low2 (omega (arith, q1, less, room)) small in
              let big = shift_big op up is (integer s a.bytes) (integer s a.bytes) (integer s2 b.bytes) in
              after p place e g.steps (suc n) (suc n) m.state.work m1.state.work pc parts.0 v g.last (R (suc n) rest m1) g.goes
              (omega arith) (omega (arith, take, fits, big)) (f parts.0 m1 g.last parts.2 matches)

  -- a number in the lowest byte of a temporary, above which bytes become 0
  cleared : (t : Temp) (w low : ℕ) (v : View) → HasHome slots t → 1 ≤ t.bytes → w ≤ t.bytes → low < 256 → HoldsNumbers v
      → value v.at (base t) 1 ≡ low
      → Converted p e slots home base place y false t 1 w low v (block e (extend_code false (home t) 1 w) v)
  cleared t w low v it some most below numbers is =
      subst (λ x. Converted p e slots home base place y false t 1 w low v (block e x v)) stays
      (converted p e slots home base place y false t (home t) (base t) 1 w low v it (omega arith)
      (stand p e slots home base place y t 1 it some) (λ k l z. absurd (omega (arith, z))) most below numbers
      (low_part_of (min w 1) (omega arith)))
    where
      stays : conversion_code false (home t) (home t) 1 w ≡ extend_code false (home t) 1 w
      stays =
          ap (λ (x : Bool). (if x then [] else transfer_code (home t) (home t) (min w 1)) ++ extend_code false (home t) 1 w)
          (location_same (home t) (home t) refl)

      low_part_of : (k : ℕ) → k ≤ 1 → value v.at (base t) k ≡ low % 256 ^ k
      low_part_of zero l = omega arith
      low_part_of (suc zero) l = is ∙ sym (kept_below low (256 ^ 1) below)
      low_part_of (suc (suc k)) l = absurd (omega arith)

  -- a number below 256 is shifted to the right by a known count as one byte
  shifted_byte_follows : (op : BinOp) → family_of op ≡ Shifted false → (s s2 : Bool) (mode : Mode) (t a b : Temp) (k : ℤ)
      (wide : ℕ) (rest : List PlainIr) (n pc : ℕ) (m : Mach) (v : View) → HasHome slots t → HasHome slots a → HasHome slots b
      → a.bytes ≡ t.bytes → IsKnown b k m → 1 < a.bytes
      → ((low : ℕ) → m.temps a.at ≡ Some (record { bytes = a.bytes; content = bits low }) → low < 256)
      → ((wanted (needs at rest) t == 0) ≡ false → wide ≡ 1)
      → HasAt e ((if wanted (needs at rest) t == 0 then []
      else counted_by_code false false (home a) (home t) 1 (wanted (needs at rest) t) (low_bytes 16 k % 256)) ++ items rest) pc end
      → M (at_least a.at wide (without t.at (needs at rest))) m v → Rest (suc n) rest
      → G (suc n) m.state.work pc v
      (P n (binary_op op (integer s a.bytes) mode t a (integer s a.bytes) b (integer s2 b.bytes)) rest m)
  shifted_byte_follows op is s s2 mode t a b k wide rest n pc m v it ia ib same known more small_operand wants stands h f =
      counted_follows op false is s s2 mode t a b need0 rest n pc m v ia ib same h
      (λ low1 low2 qa qb below small.
      ⊎_elim (λ r. dead r low1 low2 below) (λ r. alive r low1 low2 qa qb below small) (cases_Bool (w == 0)))
    where
      c : ℕ
      c = op_steps (binary_op op (integer s a.bytes) mode t a (integer s a.bytes) b (integer s2 b.bytes))

      w : ℕ
      w = wanted (needs at rest) t

      count : ℕ
      count = low_bytes 16 k % 256

      code : List AsmItem
      code = if w == 0 then [] else counted_by_code false false (home a) (home t) 1 w count

      need0 : Need
      need0 = at_least a.at wide (without t.at (needs at rest))

      need1 : Need
      need1 = at_least a.at 1 (without t.at (needs at rest))

      still : (ka : ℕ) (u : ℕ) → u ≢ t.at → needs at rest u ≤ at_least a.at ka (without t.at (needs at rest)) u
      still ka u d =
          let x = without_other t.at u (needs at rest) d in
          let z = least_other a.at ka u (without t.at (needs at rest)) in
          omega (arith, x, z)

      after_shift : (low1 low2 : ℕ) → Mach
      after_shift low1 low2 = after_operator t (shifted_by (Right s) t.bytes low1 low2) c m

      dead : (w == 0) ≡ true → (low1 low2 : ℕ) → low1 < 256 ^ t.bytes
          → G (suc n) m.state.work pc v (R (suc n) rest (after_shift low1 low2))
      dead q low1 low2 below =
          let empty : code ≡ [] =
          ap (λ (x : Bool). if x then [] else counted_by_code false false (home a) (home t) 1 w count) q in
          no_code_passes code t (shifted_by (Right s) t.bytes low1 low2) c rest n pc need0 m v it empty (eqb-true w 0 q)
          (shifted_below (Right s) t.bytes low1 low2 below) stands (still wide) h f

      alive : (w == 0) ≡ false → (low1 low2 : ℕ) → m.temps a.at ≡ Some (record { bytes = a.bytes; content = bits low1 })
          → m.temps b.at ≡ Some (record { bytes = b.bytes; content = bits low2 }) → low1 < 256 ^ t.bytes → low2 < 128
          → G (suc n) m.state.work pc v (R (suc n) rest (after_shift low1 low2))
      alive q low1 low2 qa qb below small =
          let z = byte_shift s t.bytes low1 low2 (omega (arith, more, same)) (small_operand low1 qa) in
          let h1 = subst (λ x. M (at_least a.at x (without t.at (needs at rest))) m v) (wants q) h in
          let first = counted_code (Right false) (home a) (home t) 1 low2 in
          let second = extend_code false (home t) 1 w in
          let is_code : code ≡ first ++ second =
          ap (λ (x : Bool). if x then [] else counted_by_code false false (home a) (home t) 1 w count) q
          ∙ ap (λ (x : Bool). if x then move_code (home a) (home t) 1 ++ top_bit_code (home t) 1
          else counted_code (Right false) (home a) (home t) 1 count ++ second) (byte_leaves_none false (home t) w count)
          ∙ ap (λ x. counted_code (Right false) (home a) (home t) 1 x ++ second) (count_at low2 qb small) in
          let stand1 : HasAt e ((first ++ second) ++ items rest) pc end = subst (λ x. HasAt e (x ++ items rest) pc end) is_code stands in
          let parts = has_parts e (first ++ second) (items rest) pc end stand1 in
          let s1 = has_parts e first second pc parts.0 parts.1 in
          let most = wanted_most (needs at rest) t in
          let some = ia.some in
          let here = least_here a.at 1 (without t.at (needs at rest)) in
          let left : value v.at (base a) 1 ≡ low1 =
          (at_width p e slots home base place y need1 m v a _ 1 h1 ia qa refl (omega (arith, here, some))).0
          ∙ kept_below low1 (256 ^ 1) (small_operand low1 qa) in
          let g =
          counted_leads p e slots home base place y (Right false) t a 0 low1 low2 pc s1.0 v it ia
          (omega (arith, some, same)) some left small
          h1.bytes s1.1 in
          let last = block e second g.last in
          let x = cleared t w (low1 / 2 ^ low2) g.last it (omega (arith, some, same)) most z.below g.numbers g.number_is in
          let here_at : value last.at (base t) w ≡ shifted_by (Right s) t.bytes low1 low2 % 256 ^ w =
          x.result ∙ ap (λ j. j % 256 ^ w) (sym z.is) in
          let frame : Frame v last (base t) t.bytes =
          λ i d r u o. x.frame i d r u (narrower (base t) t.bytes w i most o)
          ∙ g.same i d r u (narrower (base t) t.bytes 1 i (omega (arith, some, same)) o) in
          let matches =
          written p e slots home base place y t (bits (shifted_by (Right s) t.bytes low1 low2)) (needs at rest) need1 m
          (worked c m.state) v last it h1 (still 1) frame (here_at, shifted_below (Right s) t.bytes low1 low2 below) x.numbers refl
          (x.quiet.seen ∙ g.seen ∙ h1.seen) (kept_left y.inputs m.state v last (x.quiet.inputs ∙ g.inputs) h1.left)
          (x.quiet.safe ∙ g.safe ∙ h1.safe) in
          let m1 = after_shift low1 low2 in
          let take1 = g.at_most in
          let take2 = (values_take (home t) 0 1 w).2 false in
          let room = it.most in
          let big = shift_big op false is (integer s a.bytes) (integer s a.bytes) (integer s2 b.bytes) in
          after p place e (g.steps + code_steps second) (suc n) (suc n) m.state.work m1.state.work pc parts.0 v last (R (suc n) rest m1)
          (goes_on_to e g.steps (code_steps second) pc s1.0 parts.0 v g.last last g.goes
          (block_goes e second s1.0 parts.0 g.last ((values_are_straight (home t) 0 1 w).2 false) s1.2))
          (omega arith) (omega (arith, take1, take2, small, most, room, big)) (f parts.0 m1 last parts.2 matches)
        where
          count_at : (low2 : ℕ) → m.temps b.at ≡ Some (record { bytes = b.bytes; content = bits low2 }) → low2 < 128 → count ≡ low2
          count_at low2 qb small =
              let some = ib.some in
              let eight = ib.most in
              number_low k 1 b.bytes some (omega (arith, eight)) ∙ ap (λ x. x % 256 ^ 1) (sym (known low2 qb))
              ∙ kept_below low2 (256 ^ 1) (omega (arith, small))

  -- only the highest bit of a number is left, and one byte is needed
  top_bit_follows : (op : BinOp) → family_of op ≡ Shifted false → (s2 : Bool) (mode : Mode) (t a b : Temp) (k : ℤ) (r : ℕ)
      (rest : List PlainIr) (n pc : ℕ) (m : Mach) (v : View) → HasHome slots t → HasHome slots a → HasHome slots b
      → a.bytes ≡ t.bytes → IsKnown b k m → home t ≡ InRegisters r → wanted (needs at rest) t ≡ 1
      → low_bytes 16 k % 256 + 1 ≡ 8 * a.bytes
      → HasAt e ((move_code (home a) (home t) a.bytes ++ top_bit_code (InRegisters r) a.bytes) ++ items rest) pc end
      → M (at_least a.at a.bytes (without t.at (needs at rest))) m v → Rest (suc n) rest
      → G (suc n) m.state.work pc v
      (P n (binary_op op (integer false a.bytes) mode t a (integer false a.bytes) b (integer s2 b.bytes)) rest m)
  top_bit_follows op is s2 mode t a b k r rest n pc m v it ia ib same known home_is one_wanted count_is stands h f =
      counted_follows op false is false s2 mode t a b need0 rest n pc m v ia ib same h
      (λ low1 low2 qa qb below small.
      let some = ia.some in
      let some_b = ib.some in
      let eight = ib.most in
      let bytes = a.bytes in
      let count_at : low_bytes 16 k % 256 ≡ low2 =
      number_low k 1 b.bytes some_b (omega (arith, eight)) ∙ ap (λ x. x % 256 ^ 1) (sym (known low2 qb))
      ∙ kept_below low2 (256 ^ 1) (omega (arith, small)) in
      let below1 : low1 < 256 ^ bytes = subst (λ i. low1 < 256 ^ i) (sym same) below in
      let first = move_code (home a) (home t) bytes in
      let second = top_bit_code (InRegisters r) bytes in
      let straight : all_straight (first ++ second) ≡ true = straight-append first second (move_straight (home a) (home t) bytes) refl in
      let take = move_steps (home a) (home t) bytes in
      let steps = steps-append first second in
      let less : bytes ≤ t.bytes = omega (arith, same) in
      let some_a = (y.layout.temps_at a ia).clear in
      let clear = (y.layout.temps_at t it).clear in
      let here = least_here a.at bytes (without t.at (needs at rest)) in
      let xa = at_width p e slots home base place y need0 m v a _ bytes h ia qa refl (omega (arith, here)) in
      let v1 = block e first v in
      let moved =
      move_holds e (home a) (home t) bytes (base a) (base t) v (stand p e slots home base place y a bytes ia (omega arith))
      (stand p e slots home base place y t bytes it less) (read_first p e slots home base place y t a bytes it ia (omega arith))
      h.bytes in
      let numbers1 = moved_numbers p e slots home base place y v v1 (base a) (base t) bytes some_a h.bytes moved in
      let begins : r ≡ base t =
      let first_at = (y.layout.temps_at t it).at 0 (omega (arith, some, same)) in
      let at_r = ap (λ (l : Location). address_at e l 0) home_is in
      omega (arith, first_at, at_r) in
      let low : 2 ≤ r = omega (arith, begins, clear) in
      let o = top_bit e r bytes v1 low numbers1 in
      let last = block e second v1 in
      let left : value v1.at (base t) bytes ≡ low1 =
      row_value v1.at v.at (base a) (base t) bytes moved.there ∙ xa.0 ∙ kept_below low1 (256 ^ bytes) below1 in
      let digit : v1.at (base t + (bytes - 1)) ≡ low1 / 256 ^ (bytes - 1) % 256 =
      sym (value_digit v1.at (base t) bytes (bytes - 1) (held_row v1 (base t) bytes clear numbers1) (omega (arith, some)))
      ∙ ap (λ i. i / 256 ^ (bytes - 1) % 256) left in
      let bit : last.at (base t) ≡ low1 / 2 ^ low2 =
      subst (λ i. last.at i ≡ v1.at (i + (bytes - 1)) / 128) begins o.number ∙ ap (λ i. i / 128) digit
      ∙ bit_of low1 bytes low2 some below1 (ap (λ i. i + 1) (sym count_at) ∙ count_is) in
      let short : low1 / 2 ^ low2 < 256 =
      subst (λ i. i < 256) (bit_of low1 bytes low2 some below1 (ap (λ i. i + 1) (sym count_at) ∙ count_is))
      (bit_below low1 (bytes - 1)) in
      let lowest : base t + 0 ≡ base t = omega arith in
      let alone : value last.at (base t) 1 ≡ last.at (base t + 0) = omega arith in
      let number : value last.at (base t) 1 ≡ low1 / 2 ^ low2 % 256 ^ 1 =
      alone ∙ ap last.at lowest ∙ bit ∙ sym (kept_below (low1 / 2 ^ low2) (256 ^ 1) short) in
      let here_at : value last.at (base t) w ≡ shifted_by (Right false) t.bytes low1 low2 % 256 ^ w =
      subst (λ i. value last.at (base t) i ≡ low1 / 2 ^ low2 % 256 ^ i) (sym one_wanted) number in
      let frame : Frame v last (base t) t.bytes =
      λ i d g u z.
      o.same i (λ q. apart i z 0 (omega (arith, some, same)) (omega (arith, q, begins)))
      (λ q. apart i z (bytes - 1) (omega (arith, some, same)) (omega (arith, q, begins)))
      ∙ wider_frame v v1 (base t) t.bytes bytes less moved.frame i d g u z in
      let matches =
      written p e slots home base place y t (bits (shifted_by (Right false) t.bytes low1 low2)) (needs at rest) need0 m
      (worked c m.state) v last it h still frame (here_at, shifted_below (Right false) t.bytes low1 low2 below) o.numbers refl
      (o.seen ∙ moved.quiet.seen ∙ h.seen) (kept_left y.inputs m.state v last (o.inputs ∙ moved.quiet.inputs) h.left)
      (o.safe ∙ moved.quiet.safe ∙ h.safe) in
      let m1 = after_operator t (shifted_by (Right false) t.bytes low1 low2) c m in
      let room = it.most in
      let big = shift_big op false is (integer false a.bytes) (integer false a.bytes) (integer s2 b.bytes) in
      let last_is : block e (first ++ second) v ≡ last = block-append e first second v in
      goes_past (first ++ second) (items rest) (suc n) (suc n) m.state.work m1.state.work pc v (R (suc n) rest m1) stands straight
      (omega arith) (omega (arith, take, steps, room, same, big))
      (λ mid u. f mid m1 _ u (subst (λ x. M (needs at rest) m1 x) (sym last_is) matches)))
    where
      c : ℕ
      c = op_steps (binary_op op (integer false a.bytes) mode t a (integer false a.bytes) b (integer s2 b.bytes))

      w : ℕ
      w = wanted (needs at rest) t

      need0 : Need
      need0 = at_least a.at a.bytes (without t.at (needs at rest))

      still : (u : ℕ) → u ≢ t.at → needs at rest u ≤ need0 u
      still u d =
          let x = without_other t.at u (needs at rest) d in
          let z = least_other a.at a.bytes u (without t.at (needs at rest)) in
          omega (arith, x, z)

      -- what stands outside is none of its bytes
      apart : (i : ℕ) → Outside (base t) t.bytes i → (j : ℕ) → j < t.bytes → i ≡ base t + j → ⊥
      apart i z j l q = let u = z (omega (arith, q)) in absurd (omega (arith, u, q, l))

  -- ---- quotients and remainders

  divided_wanted : (op : BinOp) (r : Bool) → family_of op ≡ Divided r → (bytes k : ℕ) → (k == 0) ≡ false
      → (operand_wanted op bytes k ≡ bytes) × (right_wanted op bytes k ≡ bytes)
  divided_wanted Div r h bytes k q = (all_when bytes k q, all_when bytes k q)
  divided_wanted Rem r h bytes k q = (all_when bytes k q, all_when bytes k q)
  divided_wanted op r h bytes k q = absurd cc

  divided_value : (op : BinOp) (r : Bool) → family_of op ≡ Divided r → (mode : Mode) (s : Bool) (b x z : ℕ) (st st1 : State)
      → binary_result op (integer s b) mode (operand_of p (integer s b) (Number (number_of_bytes s b x)) st)
      (operand_of p (integer s b) (Number (number_of_bytes s b z)) st1)
      ≡ as_number
      (if int_eq (number_of_bytes s b z) (pos 0) then Err ZeroDivisor else Ok
      (wrapped (record { signed = s; bytes = b }) (int_part r (number_of_bytes s b x) (number_of_bytes s b z))))
  divided_value Div false h mode s b x z st st1 = refl
  divided_value Rem true h mode s b x z st st1 = refl
  divided_value op r h mode s b x z st st1 = absurd cc

  divided_big : (op : BinOp) (r : Bool) → family_of op ≡ Divided r → (ty aty bty : PlainType)
      → 9600 ≤ 64 * binary_words op ty aty bty
  divided_big Div r h ty aty bty = omega arith
  divided_big Rem r h ty aty bty = omega arith
  divided_big op r h ty aty bty = absurd cc

  clear_row : (c n : ℕ) → IsClear c n → IsClearOf c n
  clear_row c n x = record {
    low = λ l. let z = x.low.left l in omega arith;
    above_low = λ l. let z = x.low.right l in omega arith;
    high = λ l. let z = x.high.left l in omega arith;
    above_high = λ l. let z = x.high.right l in omega arith;
  }

  -- the code of a division, and what comes after it
  divided_passes : (r s : Bool) (t a b : Temp) (top x z c : ℕ) (rest : List PlainIr) (n pc : ℕ) (need0 : Need) (m : Mach) (v : View)
      → HasHome slots t → HasHome slots a → HasHome slots b → t.bytes ≡ suc top → a.bytes ≡ suc top → b.bytes ≡ suc top
      → suc top ≤ 4 → t.at ≢ b.at → value v.at (base a) (suc top) ≡ x → value v.at (base b) (suc top) ≡ z → 1 ≤ z
      → quotient_of r s top x z < 256 ^ t.bytes → 9600 ≤ c
      → HasAt e (long_code r s (home a) (home b) (home t) top ++ items rest) pc end
      → ((k : ℕ) → k ≢ t.at → needs at rest k ≤ need0 k) → M need0 m v → Rest (suc n) rest
      → G (suc n) m.state.work pc v (R (suc n) rest (after_operator t (quotient_of r s top x z) c m))
  divided_passes r s t a b top x z c rest n pc need0 m v it ia ib qt qa qb most other xa zb some below big stands more h f =
      let w = suc top in
      let first = move_code (home a) (home t) w in
      let second = quotient_code r s (home t) (home b) top in
      let s1 = has_parts e (first ++ second) (items rest) pc end stands in
      let s2 = has_parts e first second pc s1.0 s1.1 in
      let ta : StandsFrom e (home t) w (base t) Own = subst (λ j. StandsFrom e (home t) j (base t) Own) qt (y.layout.temps_at t it) in
      let aa : StandsFrom e (home a) w (base a) Own = subst (λ j. StandsFrom e (home a) j (base a) Own) qa (y.layout.temps_at a ia) in
      let ba : StandsFrom e (home b) w (base b) Own = subst (λ j. StandsFrom e (home b) j (base b) Own) qb (y.layout.temps_at b ib) in
      let v1 = block e first v in
      let k =
      move_holds e (home a) (home t) w (base a) (base t) v aa ta
      (read_first p e slots home base place y t a w it ia (omega (arith, qa))) h.bytes in
      let h1 = moved_numbers p e slots home base place y v v1 (base a) (base t) w (y.layout.temps_at a ia).clear h.bytes k in
      let frame1 = wider_frame v v1 (base t) t.bytes w (omega (arith, qt)) k.frame in
      let row : (j : ℕ) → j < w → v1.at (base b + j) ≡ v.at (base b + j) =
      λ j l. row_kept v v1 (base t) t.bytes (base b) b.bytes (y.layout.temps_at b ib).clear
      (work_outside (base b) b.bytes (y.layout.temps_work b ib)) (y.layout.temps_apart t b it ib other) frame1 j
      (omega (arith, qb, l)) in
      let left : value v1.at (base t) w ≡ x = row_value v1.at v.at (base a) (base t) w k.there ∙ xa in
      let right : value v1.at (base b) w ≡ z = value-same v1.at v.at (base b) w row ∙ zb in
      let ct : IsClearOf (base t) w = clear_row (base t) w (subst (λ j. IsClear (base t) j) qt (y.layout.temps_work t it)) in
      let cb : IsClearOf (base b) w = clear_row (base b) w (subst (λ j. IsClear (base b) j) qb (y.layout.temps_work b ib)) in
      let g =
      quotients_are_right r s e (home t) (home b) top (base t) (base b) s2.0 s1.0 v1 ta ba most ct cb h1
      (subst (λ j. 1 ≤ j) (sym right) some) s2.2 in
      let go = block_goes e first pc s2.0 v (move_straight (home a) (home t) w) s2.1 in
      let take1 = move_steps (home a) (home t) w in
      let take2 = g.at_most in
      let number : value g.last.at (base t) w ≡ quotient_of r s top x z =
      g.number_is ∙ ap (λ j. quotient_of r s top j (value v1.at (base b) w)) left ∙ ap (quotient_of r s top x) right in
      let clear = (y.layout.temps_at t it).clear in
      let kmost = wanted_most (needs at rest) t in
      let here : value g.last.at (base t) (wanted (needs at rest) t) ≡ quotient_of r s top x z % 256 ^ wanted (needs at rest) t =
      sym
      (value_mod g.last.at (base t) (wanted (needs at rest) t) w (omega (arith, kmost, qt))
      (λ j l. g.numbers (base t + j) (omega arith))) ∙ ap (λ j. j % 256 ^ wanted (needs at rest) t) number in
      let m1 = after_operator t (quotient_of r s top x z) c m in
      let frame : Wide v g.last (base t) t.bytes =
      λ i d u low high o. g.same i d u low (λ l. let x = high l in omega arith) (λ l. let x = high (omega arith) in omega arith)
      (narrower (base t) t.bytes w i (omega (arith, qt)) o)
      ∙ widened v v1 (base t) t.bytes frame1 i d u low high o in
      let matches =
      written_wide p e slots home base place y t (bits (quotient_of r s top x z)) (needs at rest) need0 m
      (worked c m.state) v g.last it h more frame (here, below) g.numbers refl (g.seen ∙ k.quiet.seen ∙ h.seen)
      (kept_left y.inputs m.state v g.last (g.inputs ∙ k.quiet.inputs) h.left) (g.safe ∙ k.quiet.safe ∙ h.safe) in
      after p place e (code_steps first + g.steps) (suc n) (suc n) m.state.work m1.state.work pc s1.0 v g.last (R (suc n) rest m1)
      (goes_on_to e (code_steps first) g.steps pc s2.0 s1.0 v v1 g.last go g.goes) (omega arith) (omega (arith, take1, take2, big, most))
      (f s1.0 m1 g.last s1.2 matches)

  -- what is shown of code for a quotient or a remainder of numbers, of which the second one is not 0
  abbrev DividedRuns : BinOp → (r s : Bool) → Mode → (t a b : Temp) → (top : ℕ) → List PlainIr → (n pc : ℕ) → Mach → View → Type 0
  DividedRuns op r s mode t a b top rest n pc m v =
      (low1 low2 : ℕ) → (wanted (needs at rest) t == 0) ≡ false → value v.at (base a) (suc top) ≡ low1
      → value v.at (base b) (suc top) ≡ low2 → 1 ≤ low2 → quotient_of r s top low1 low2 < 256 ^ t.bytes
      → M (operands_needed op t a b a.bytes b.bytes (needs at rest)) m v
      → G (suc n) m.state.work pc v
      (R (suc n) rest
      (after_operator t (quotient_of r s top low1 low2)
      (op_steps (binary_op op (integer s (suc top)) mode t a (integer s a.bytes) b (integer s b.bytes))) m))

  -- such code, which is none where no byte of the result is needed, does what the operator does
  divided_by : (op : BinOp) (r : Bool) → family_of op ≡ Divided r → (s : Bool) (mode : Mode)
      (t a b : Temp) (top : ℕ) (rest : List PlainIr) (n pc : ℕ) (m : Mach) (v : View) (code : List AsmItem) → HasHome slots t
      → HasHome slots a → HasHome slots b → t.bytes ≡ suc top → a.bytes ≡ suc top → b.bytes ≡ suc top
      → ((wanted (needs at rest) t == 0) ≡ true → code ≡ []) → HasAt e (code ++ items rest) pc end
      → M (plain_needs (binary_op op (integer s (suc top)) mode t a (integer s a.bytes) b (integer s b.bytes)) rest) m v
      → DividedRuns op r s mode t a b top rest n pc m v → Rest (suc n) rest
      → G (suc n) m.state.work pc v
      (P n (binary_op op (integer s (suc top)) mode t a (integer s a.bytes) b (integer s b.bytes)) rest m)
  divided_by op r is s mode t a b top rest n pc m v code it ia ib qt qa qb none stands h runs f =
      from_number p place e s a m.temps
      (worked (op_steps (binary_op op (integer s (suc top)) mode t a (integer s a.bytes) b (integer s b.bytes))) m.state) _
      (suc n) m.state.work pc v
      (λ low1 ha. from_number p place e s b m.temps
      (worked (op_steps (binary_op op (integer s (suc top)) mode t a (integer s a.bytes) b (integer s b.bytes))) m.state) _
      (suc n) m.state.work pc v
      (λ low2 hb.
      let st = worked (op_steps (binary_op op (integer s (suc top)) mode t a (integer s a.bytes) b (integer s b.bytes))) m.state in
      let below1 : low1 < 256 ^ suc top = subst (λ x. low1 < 256 ^ x) qa (h.temps_hold a _ ia ha refl).1 in
      let below2 : low2 < 256 ^ suc top = subst (λ x. low2 < 256 ^ x) qb (h.temps_hold b _ ib hb refl).1 in
      let v0 = divided_value op r is mode s (suc top) low1 low2 st st in
      let v1 =
      subst
      (λ j. binary_result op (integer s (suc top)) mode (operand_of p (integer s j) (Number (number_of_bytes s j low1)) st)
      (operand_of p (integer s (suc top)) (Number (number_of_bytes s (suc top) low2)) st)
      ≡ as_number
      (if int_eq (number_of_bytes s (suc top) low2) (pos 0) then Err ZeroDivisor else Ok
      (wrapped (record { signed = s; bytes = suc top })
      (int_part r (number_of_bytes s (suc top) low1) (number_of_bytes s (suc top) low2))))) (sym qa) v0 in
      let v2 =
      subst
      (λ j. binary_result op (integer s (suc top)) mode (operand_of p (integer s a.bytes) (Number (number_of_bytes s a.bytes low1)) st)
      (operand_of p (integer s j) (Number (number_of_bytes s j low2)) st)
      ≡ as_number
      (if int_eq (number_of_bytes s (suc top) low2) (pos 0) then Err ZeroDivisor else Ok
      (wrapped (record { signed = s; bytes = suc top })
      (int_part r (number_of_bytes s (suc top) low1) (number_of_bytes s (suc top) low2))))) (sym qb) v1 in
      subst (λ o. G (suc n) m.state.work pc v (next (given o st) (λ u st3. R (suc n) rest (machine (with_temp t u m.temps) st3)))) (sym v2)
      (by_divisor low1 low2 ha hb below1 below2 (int_eq (number_of_bytes s (suc top) low2) (pos 0)) refl)))
    where
      below_result : (low1 low2 : ℕ) → low1 < 256 ^ suc top → low2 < 256 ^ suc top → 1 ≤ low2
          → quotient_of r s top low1 low2 < 256 ^ t.bytes
      below_result low1 low2 l k some =
          let q = quotient_low r s s top low1 low2 l k some in
          let u : quotient_of r s top low1 low2 < 256 ^ suc top = subst (λ j. j < 256 ^ suc top) q (low_below (suc top) _) in
          subst (λ j. quotient_of r s top low1 low2 < 256 ^ j) (sym qt) u

      dead : (wanted (needs at rest) t == 0) ≡ true → (low1 low2 : ℕ) → low1 < 256 ^ suc top → low2 < 256 ^ suc top → 1 ≤ low2
          → G (suc n) m.state.work pc v
          (R (suc n) rest
          (after_operator t (quotient_of r s top low1 low2)
          (op_steps (binary_op op (integer s (suc top)) mode t a (integer s a.bytes) b (integer s b.bytes))) m))
      dead q low1 low2 l k some =
          no_code_passes code t (quotient_of r s top low1 low2)
          (op_steps (binary_op op (integer s (suc top)) mode t a (integer s a.bytes) b (integer s b.bytes))) rest n pc
          (plain_needs (binary_op op (integer s (suc top)) mode t a (integer s a.bytes) b (integer s b.bytes)) rest) m v it (none q)
          (eqb-true (wanted (needs at rest) t) 0 q) (below_result low1 low2 l k some) stands
          (other_needed op t a b (operand_wanted op a.bytes (wanted (needs at rest) t))
          (right_wanted op b.bytes (wanted (needs at rest) t)) (needs at rest)) h f

      alive : (wanted (needs at rest) t == 0) ≡ false → (low1 low2 : ℕ) → m.temps a.at
          ≡ Some (record { bytes = a.bytes; content = bits low1 })
          → m.temps b.at ≡ Some (record { bytes = b.bytes; content = bits low2 }) → low1 < 256 ^ suc top → low2 < 256 ^ suc top → 1 ≤ low2
          → G (suc n) m.state.work pc v
          (R (suc n) rest
          (after_operator t (quotient_of r s top low1 low2)
          (op_steps (binary_op op (integer s (suc top)) mode t a (integer s a.bytes) b (integer s b.bytes))) m))
      alive q low1 low2 ha hb l k some =
          let h1 : M (operands_needed op t a b a.bytes b.bytes (needs at rest)) m v =
          subst (λ x. M (operands_needed op t a b x b.bytes (needs at rest)) m v)
          (divided_wanted op r is a.bytes (wanted (needs at rest) t) q).0
          (subst (λ x. M (operands_needed op t a b (operand_wanted op a.bytes (wanted (needs at rest) t)) x (needs at rest)) m v)
          (divided_wanted op r is b.bytes (wanted (needs at rest) t) q).1 h) in
          let x1 : value v.at (base a) (suc top) ≡ low1 =
          subst (λ j. value v.at (base a) j ≡ low1 % 256 ^ j) qa
          (left_holds op t a b a.bytes b.bytes low1 (needs at rest) m v ia (omega arith) ha h1) ∙ kept_below low1 (256 ^ suc top) l in
          let x2 : value v.at (base b) (suc top) ≡ low2 =
          subst (λ j. value v.at (base b) j ≡ low2 % 256 ^ j) qb
          (right_holds op t a b a.bytes b.bytes low2 (needs at rest) m v ib (omega arith) hb h1) ∙ kept_below low2 (256 ^ suc top) k in
          runs low1 low2 q x1 x2 some (below_result low1 low2 l k some) h1

      by_divisor : (low1 low2 : ℕ) → m.temps a.at ≡ Some (record { bytes = a.bytes; content = bits low1 })
          → m.temps b.at ≡ Some (record { bytes = b.bytes; content = bits low2 }) → low1 < 256 ^ suc top → low2 < 256 ^ suc top
          → (x : Bool) → int_eq (number_of_bytes s (suc top) low2) (pos 0) ≡ x
          → G (suc n) m.state.work pc v
          (next
          (given
          (as_number
          (if x then Err ZeroDivisor else Ok
          (wrapped (record { signed = s; bytes = suc top })
          (int_part r (number_of_bytes s (suc top) low1) (number_of_bytes s (suc top) low2)))))
          (worked (op_steps (binary_op op (integer s (suc top)) mode t a (integer s a.bytes) b (integer s b.bytes))) m.state))
          (λ u st3. R (suc n) rest (machine (with_temp t u m.temps) st3)))
      by_divisor low1 low2 ha hb l k true q = tt
      by_divisor low1 low2 ha hb l k false q =
          let some = not_zero s (suc top) low2 q in
          let z =
          wrapped (record { signed = s; bytes = suc top })
          (int_part r (number_of_bytes s (suc top) low1) (number_of_bytes s (suc top) low2)) in
          let number : low_bytes t.bytes z ≡ quotient_of r s top low1 low2 =
          ap (λ j. low_bytes j z) qt ∙ quotient_low r s s top low1 low2 l k some in
          subst
          (λ x. G (suc n) m.state.work pc v
          (R (suc n) rest
          (after_operator t x (op_steps (binary_op op (integer s (suc top)) mode t a (integer s a.bytes) b (integer s b.bytes))) m)))
          (sym number)
          (⊎_elim (λ u. dead u low1 low2 l k some) (λ u. alive u low1 low2 ha hb l k some) (cases_Bool (wanted (needs at rest) t == 0)))

  pub divided_follows : (op : BinOp) (r : Bool) → family_of op ≡ Divided r → (s : Bool) (mode : Mode)
      (t a b : Temp) (top : ℕ) (rest : List PlainIr) (n pc : ℕ) (m : Mach) (v : View) → HasHome slots t → HasHome slots a
      → HasHome slots b → t.bytes ≡ suc top → a.bytes ≡ suc top → b.bytes ≡ suc top → suc top ≤ 4 → t.at ≢ b.at
      → HasAt e (code_of (binary_op op (integer s (suc top)) mode t a (integer s a.bytes) b (integer s b.bytes)) rest ++ items rest) pc end
      → M (plain_needs (binary_op op (integer s (suc top)) mode t a (integer s a.bytes) b (integer s b.bytes)) rest) m v
      → Rest (suc n) rest
      → G (suc n) m.state.work pc v
      (P n (binary_op op (integer s (suc top)) mode t a (integer s a.bytes) b (integer s b.bytes)) rest m)
  divided_follows op r is s mode t a b top rest n pc m v it ia ib qt qa qb most other stands h f =
      divided_by op r is s mode t a b top rest n pc m v (code_of i rest) it ia ib qt qa qb
      (λ q. ap (λ x. binary_code x s s (home a) (home b) (home t) a.bytes (wanted (needs at rest) t)) is ∙ rw q refl) stands h runs f
    where
      i : PlainIr
      i = binary_op op (integer s (suc top)) mode t a (integer s a.bytes) b (integer s b.bytes)

      runs : DividedRuns op r s mode t a b top rest n pc m v
      runs low1 low2 q x1 x2 some below h1 =
          let size : a.bytes - 1 ≡ top = omega (arith, qa) in
          let code : code_of i rest ≡ long_code r s (home a) (home b) (home t) top = ap
          (λ x. binary_code x s s (home a) (home b) (home t) a.bytes (wanted (needs at rest) t)) is ∙ rw q refl
          ∙ ap (long_code r s (home a) (home b) (home t)) size in
          let stand = subst (λ x. HasAt e (x ++ items rest) pc end) code stands in
          divided_passes r s t a b top low1 low2 (op_steps i) rest n pc
          (operands_needed op t a b a.bytes b.bytes (needs at rest)) m v it ia ib qt qa qb most other x1 x2 some
          below (divided_big op r is (integer s (suc top)) (integer s a.bytes) (integer s b.bytes)) stand
          (other_needed op t a b a.bytes b.bytes (needs at rest)) h1 f

  -- a call of its routine
  divided_called : (l : ℕ) (op : BinOp) (r : Bool) → family_of op ≡ Divided r → (s : Bool) (mode : Mode)
      (t a b : Temp) (top : ℕ) (rest : List PlainIr) (n pc : ℕ) (m : Mach) (v : View) → HasHome slots t → HasHome slots a
      → HasHome slots b → t.bytes ≡ suc top → a.bytes ≡ suc top → b.bytes ≡ suc top → suc top ≤ 4
      → HasRoutine e l (quotient_body r s top)
      → HasAt e (answer_code (call_with_two (home a) (home b) a.bytes b.bytes l) (home t) (wanted (needs at rest) t) ++ items rest) pc end
      → M (plain_needs (binary_op op (integer s (suc top)) mode t a (integer s a.bytes) b (integer s b.bytes)) rest) m v
      → Rest (suc n) rest
      → G (suc n) m.state.work pc v
      (P n (binary_op op (integer s (suc top)) mode t a (integer s a.bytes) b (integer s b.bytes)) rest m)
  divided_called l op r is s mode t a b top rest n pc m v it ia ib qt qa qb most routine stands h f =
      divided_by op r is s mode t a b top rest n pc m v (answer_code code (home t) w) it ia ib qt qa qb
      (λ z. ap (λ (q : Bool). if q then [] else code ++ copy_code answer_location (home t) w) z) stands h runs f
    where
      i : PlainIr
      i = binary_op op (integer s (suc top)) mode t a (integer s a.bytes) b (integer s b.bytes)

      c : ℕ
      c = op_steps i

      w : ℕ
      w = wanted (needs at rest) t

      code : List AsmItem
      code = call_with_two (home a) (home b) a.bytes b.bytes l

      runs : DividedRuns op r s mode t a b top rest n pc m v
      runs low1 low2 z x1 x2 some below h1 =
          let need0 = operands_needed op t a b a.bytes b.bytes (needs at rest) in
          let parts = has_parts e (answer_code code (home t) w) (items rest) pc end stands in
          let number = quotient_of r s top low1 low2 in
          let m1 = after_operator t number c m in
          let result : quotient_of r s top (value v.at (base a) (suc top)) (value v.at (base b) (suc top)) ≡ number =
          ap (λ x. quotient_of r s top x (value v.at (base b) (suc top))) x1 ∙ ap (λ x. quotient_of r s top low1 x) x2 in
          let holds =
          λ (x : ℕ). x ≡ quotient_of r s top (value v.at (base a) (suc top)) (value v.at (base b) (suc top)) in
          let run =
          λ (end1 : ℕ) (u : HasAt e code pc end1). y.routines.quotients r s e l (home a) (home b) top (base a) (base b) y.work pc end1 v
          most (has_work p e slots home base place y) routine (operand_at p e slots home base place y a (suc top) ia qa)
          (operand_at p e slots home base place y b (suc top) ib qb) (can_push p e slots home base place y need0 m v h1) h1.bytes
          (subst (λ (x : ℕ). 1 ≤ x) (sym x2) some)
          (subst (λ (x : ℕ). HasAt e (call_with_two (home a) (home b) (suc top) x l) pc end1) qb
          (subst (λ (x : ℕ). HasAt e (call_with_two (home a) (home b) x b.bytes l) pc end1) qa u)) in
          let big : 9600 ≤ c = divided_big op r is (integer s (suc top)) (integer s a.bytes) (integer s b.bytes) in
          answer_passes p e slots home base place y code 1242 (suc top) c (suc n) pc parts.0 t (needs at rest) need0 m v
          (R (suc n) rest m1) holds it (sym qt) h1 (other_needed op t a b a.bytes b.bytes (needs at rest)) z parts.1 run
          (omega (arith, big, most, qt))
          (λ x v2 g matches. f parts.0 m1 v2 parts.2
          (subst (λ (k : ℕ). M (needs at rest) (machine (with_content t (bits k) m.temps) (worked c m.state)) v2) (g ∙ result) matches))

  -- ---- all operators

  -- an operator with these types, from where its code stands on
  abbrev Done : BinOp → (ty aty bty : PlainType) → Mode → (t a b : Temp) → List PlainIr → (n pc : ℕ) → Mach → View → Type 0
  Done op ty aty bty mode t a b rest n pc m v =
      HasAt e (code_of (binary_op op ty mode t a aty b bty) rest ++ items rest) pc end
      → G (suc n) m.state.work pc v (P n (binary_op op ty mode t a aty b bty) rest m)

  pub operator_follows : (op : BinOp) (ty : PlainType) (mode : Mode) (t a : Temp) (aty : PlainType) (b : Temp)
      (bty : PlainType) (rest : List PlainIr) (n pc : ℕ) (m : Mach) (v : View)
      → IsBinary (family_of op) slots t a b ty aty bty
      → HasAt e (code_of (binary_op op ty mode t a aty b bty) rest ++ items rest) pc end
      → M
      (operands_needed op t a b (operand_wanted op a.bytes (wanted (needs at rest) t)) (right_wanted op b.bytes (wanted (needs at rest) t))
      (needs at rest)) m v
      → Rest (suc n) rest → G (suc n) m.state.work pc v (P n (binary_op op ty mode t a aty b bty) rest m)
  operator_follows op ty mode t a aty b bty rest n pc m v i stands h f = by_family (family_of op) refl i
    where
      by_family : (x : Family) → family_of op ≡ x → IsBinary x slots t a b ty aty bty
          → G (suc n) m.state.work pc v (P n (binary_op op ty mode t a aty b bty) rest m)
      by_family (Combined o) q k =
          let w = wanted (needs at rest) t in
          let la = low_bytes_wanted op o q a.bytes w in
          let lb = low_right_wanted op o q b.bytes w in
          let h1 =
          subst (λ x. M (operands_needed op t a b x w (needs at rest)) m v) la
          (subst (λ x. M (operands_needed op t a b (operand_wanted op a.bytes w) x (needs at rest)) m v) lb h) in
          (subst (λ x. Done op x aty bty mode t a b rest n pc m v) (sym k.result_type)
          (subst (λ x. Done op (integer k.signed t.bytes) x bty mode t a b rest n pc m v) (sym k.left_type)
          (subst (λ x. Done op (integer k.signed t.bytes) (integer k.left_signed a.bytes) x mode t a b rest n pc m v) (sym k.right_type)
          (λ stand. combined_follows op o q k.signed k.left_signed k.right_signed mode t a b rest n pc m v
          k.result k.left k.right k.left_bytes k.right_bytes stand h1 f)))) stands
      by_family (Compared r exchanged) q k =
          (subst (λ x. Done op ty x bty mode t a b rest n pc m v) (sym k.left_type)
          (subst (λ x. Done op ty (integer k.signed a.bytes) x mode t a b rest n pc m v) (sym k.right_type)
          (λ stand. related_follows op r exchanged q k.signed ty mode t a b rest n pc m v
          k.result k.left k.right k.same_bytes stand h f))) stands
      by_family Multiplied q k =
          (subst (λ x. Done op x aty bty mode t a b rest n pc m v) (sym k.result_type)
          (subst (λ x. Done op (integer k.signed 2) x bty mode t a b rest n pc m v) (sym k.left_type)
          (subst (λ x. Done op (integer k.signed 2) (integer k.left_signed 1) x mode t a b rest n pc m v) (sym k.right_type)
          (λ stand. multiplied_follows op q k.signed k.left_signed k.right_signed mode t a b rest n pc m v
          k.result k.left k.right k.result_bytes k.left_bytes k.right_bytes stand h f)))) stands
      by_family (Shifted up) q i =
          let k = i.0 in
          let same = k.same_bytes in
          let type : ty ≡ integer k.signed a.bytes = k.result_type ∙ ap (integer k.signed) (sym same) in
          (subst (λ x. Done op x aty bty mode t a b rest n pc m v) (sym type)
          (subst (λ x. Done op (integer k.signed a.bytes) x bty mode t a b rest n pc m v) (sym k.left_type)
          (subst (λ x. Done op (integer k.signed a.bytes) (integer k.signed a.bytes) x mode t a b rest n pc m v) (sym k.count_type)
          (λ stand. shifted_follows op up q k.signed k.count_signed mode t a b rest n pc m v
          k.result k.left k.count same i.1 stand h f)))) stands
      by_family (Divided r) q i =
          let k = i.0 in
          let some = k.result.some in
          let top = t.bytes - 1 in
          let qt : t.bytes ≡ suc top = omega arith in
          let type : ty ≡ integer k.signed (suc top) = k.result_type ∙ ap (integer k.signed) qt in
          (subst (λ x. Done op x aty bty mode t a b rest n pc m v) (sym type)
          (subst (λ x. Done op (integer k.signed (suc top)) x bty mode t a b rest n pc m v) (sym k.left_type)
          (subst (λ x. Done op (integer k.signed (suc top)) (integer k.signed a.bytes) x mode t a b rest n pc m v) (sym k.right_type)
          (λ stand. divided_follows op r q k.signed mode t a b top rest n pc m v k.result k.left k.right qt (k.left_bytes ∙ qt)
          (k.right_bytes ∙ qt) (subst (λ j. j ≤ 4) qt k.most) i.1 stand h f)))) stands

  -- ---- operations with a fixed-point type

  type_fixed : (x : PlainType) → IsFixedType x → is_fixed x ≡ true
  type_fixed (fixed k s) h = refl
  type_fixed (integer s n) h = absurd h
  type_fixed void h = absurd h
  type_fixed (pointer s k z) h = absurd h
  type_fixed (array of n) h = absurd h
  type_fixed (struct n) h = absurd h

  type_whole : (x : PlainType) → IsFixedType x → is_whole x ≡ true
  type_whole (fixed k s) h = refl
  type_whole (integer s n) h = absurd h
  type_whole void h = absurd h
  type_whole (pointer s k z) h = refl
  type_whole (array of n) h = absurd h
  type_whole (struct n) h = absurd h

  -- what holds of fixed-point types holds of one of two
  either_fixed : (is : PlainType → Bool) → ((x : PlainType) → IsFixedType x → is x ≡ true) → (x z : PlainType)
      → IsFixedType x ⊎ IsFixedType z → (is x || is z) ≡ true
  either_fixed is all x z f =
      ⊎_elim
      (λ (q : IsFixedType x). ap (λ b. b || is z) (all x q))
      (λ (q : IsFixedType z). ap (λ b. is x || b) (all z q) ∙ or_true (is x))
      f
    where
      or_true : (b : Bool) → (b || true) ≡ true
      or_true true = refl
      or_true false = refl

  fixed_numeric : (ty : PlainType) → IsNumberType ty → IsNumeric ty
  fixed_numeric (integer s n) h = tt
  fixed_numeric (fixed k s) h = tt
  fixed_numeric void h = absurd h
  fixed_numeric (pointer s k z) h = absurd h
  fixed_numeric (array of n) h = absurd h
  fixed_numeric (struct n) h = absurd h

  conversion_roomy : (ty aty : PlainType) → 4 * scalar_size ty ≤ conversion_words ty aty
  conversion_roomy ty aty = by_kind (same_type ty aty || (is_integer ty && is_integer aty))
    where
      by_kind : (x : Bool) → 4 * scalar_size ty ≤ (if x then 10 * widest (ty ∷ aty ∷ []) else 100 + 40 * widest (ty ∷ aty ∷ []))
      by_kind true = omega arith
      by_kind false = omega arith

  -- all bytes of an operand are there
  all_there : (a : Temp) (k low bytes : ℕ) (need : Need) (m : Mach) (v : View) → HasHome slots a → a.bytes ≡ bytes → (k == 0) ≡ false
      → all_or_none a.bytes k ≤ need a.at → m.temps a.at ≡ Some (record { bytes = a.bytes; content = bits low }) → M need m v
      → value v.at (base a) bytes ≡ low
  all_there a k low bytes need m v ia same some least q h =
      let all = all_when a.bytes k some in
      let w = at_width p e slots home base place y need m v a _ a.bytes h ia q refl (omega (arith, least, all)) in
      subst (λ (x : ℕ). value v.at (base a) x ≡ low) same (w.0 ∙ kept_below low (256 ^ a.bytes) w.1)

  -- what is shown of code for an operator on operands of which one is fixed-point at least, where their bytes have a result. The
  -- second operand stands there, or is known to hold a number: `second` tells it by what the operand holds
  abbrev FixedBinaryRuns : BinOp → PlainType → Mode → (t a : Temp) → PlainType → Temp → PlainType → List PlainIr → (n pc : ℕ) → Mach → View
      → List AsmItem → (second : ℕ → ℕ) → Type 0
  FixedBinaryRuns op ty mode t a aty b bty rest n pc m v code second =
      (r : Value) (low : ℕ) → m.temps b.at ≡ Some (record { bytes = b.bytes; content = bits low })
      → second low ≡ low
      → IsNumber
      (arithmetic_value op (number_type ty) mode
      (fixed_operand_in (format_in aty) (scalar_size aty) (value v.at (base a) (scalar_size aty)))
      (fixed_operand_in (format_in bty) (scalar_size bty) (second low))) r
      → (wanted (needs at rest) t == 0) ≡ false → (mid : ℕ) → HasAt e code pc mid
      → ((number : ℕ) (v2 : View)
      → IsBinaryResult op ty mode aty bty (value v.at (base a) (scalar_size aty)) (second low) number
      → M (needs at rest)
      (machine (with_content t (bits number) m.temps) (worked (op_steps (binary_op op ty mode t a aty b bty)) m.state)) v2
      → G (suc n) (m.state.work + op_steps (binary_op op ty mode t a aty b bty)) mid v2
      (R (suc n) rest (machine (with_temp t r m.temps) (worked (op_steps (binary_op op ty mode t a aty b bty)) m.state))))
      → G (suc n) m.state.work pc v
      (R (suc n) rest (machine (with_temp t r m.temps) (worked (op_steps (binary_op op ty mode t a aty b bty)) m.state)))

  -- such code, which is none where no byte of the result is needed, does what the operator does, where all bytes of the first
  -- operand are needed
  fixed_operands_pass : (op : BinOp) (ty : PlainType) (mode : Mode) (t a : Temp) (aty : PlainType) (b : Temp) (bty : PlainType)
      (rest : List PlainIr) (n pc : ℕ) (m : Mach) (v : View) (code : List AsmItem) (second : ℕ → ℕ) (need0 : Need)
      → IsFixedBinary slots op t a b ty aty bty
      → ((wanted (needs at rest) t == 0) ≡ true → code ≡ []) → HasAt e (code ++ items rest) pc end → M need0 m v
      → ((u : ℕ) → u ≢ t.at → needs at rest u ≤ need0 u) → all_or_none a.bytes (wanted (needs at rest) t) ≤ need0 a.at
      → ((low : ℕ) → m.temps b.at ≡ Some (record { bytes = b.bytes; content = bits low })
      → (wanted (needs at rest) t == 0) ≡ false → second low ≡ low)
      → FixedBinaryRuns op ty mode t a aty b bty rest n pc m v code second
      → Rest (suc n) rest → G (suc n) m.state.work pc v (P n (binary_op op ty mode t a aty b bty) rest m)
  fixed_operands_pass op ty mode t a aty b bty rest n pc m v code second need0 k none stands h more least_a there runs f =
      from_typed p place e aty a m.temps st _ (suc n) m.state.work pc v (fixed_numeric aty suited.first)
      (λ low1 qa. from_typed p place e bty b m.temps st _ (suc n) m.state.work pc v (fixed_numeric bty suited.second)
      (λ low2 qb. by_result low1 low2 qa qb (binary_result op ty mode (left low1) (right low2)) refl))
    where
      i : PlainIr
      i = binary_op op ty mode t a aty b bty

      c : ℕ
      c = op_steps i

      st : State
      st = worked c m.state

      need : Need
      need = needs at rest

      w : ℕ
      w = wanted need t

      suited : AreSuited op ty aty bty
      suited = operands_suit op ty aty bty k.types

      left : ℕ → Operand
      left low = operand_of p aty (number_in aty low) st

      right : ℕ → Operand
      right low = operand_of p bty (number_in bty low) st

      by_result : (low1 low2 : ℕ) → m.temps a.at ≡ Some (record { bytes = a.bytes; content = bits low1 })
          → m.temps b.at ≡ Some (record { bytes = b.bytes; content = bits low2 }) → (z : Result Value Undefined)
          → binary_result op ty mode (left low1) (right low2) ≡ z
          → G (suc n) m.state.work pc v (next (given z st) (λ u s3. R (suc n) rest (machine (with_temp t u m.temps) s3)))
      by_result low1 low2 qa qb (Err point) q = tt
      by_result low1 low2 qa qb (Ok r) q = by_need (w == 0) refl
        where
          m1 : Mach
          m1 = machine (with_temp t r m.temps) st

          number : IsNumber
              (arithmetic_value op (number_type ty) mode (fixed_operand_in (format_in aty) (scalar_size aty) low1)
              (fixed_operand_in (format_in bty) (scalar_size bty) low2)) r
          number = binary_told op ty aty bty mode low1 low2 (left low1) (right low2) r suited.first suited.second
              (record { type_is = refl; value_is = value_is aty low1 (fixed_numeric aty suited.first) })
              (record { type_is = refl; value_is = value_is bty low2 (fixed_numeric bty suited.second) }) q

          -- bytes that hold the result of the operands' bytes are those of r
          reached : (mid number : ℕ) (v2 : View) → HasAt e (items rest) mid end
              → value v.at (base a) (scalar_size aty) ≡ low1 → second low2 ≡ low2
              → IsBinaryResult op ty mode aty bty (value v.at (base a) (scalar_size aty)) (second low2) number
              → M need (machine (with_content t (bits number) m.temps) st) v2
              → G (suc n) (m.state.work + c) mid v2 (R (suc n) rest m1)
          reached mid number v2 onward x_is y_is g matches =
              let content : content_of t.bytes r ≡ bits number =
              ap (λ s. content_of s r) k.result_bytes ∙ g (left low1) (right low2) r
              (record {
                type_is = refl;
                value_is = ap (λ x. value_in aty (bits x)) x_is
                    ∙ value_is aty low1 (fixed_numeric aty suited.first);
              })
              (record {
                type_is = refl;
                value_is = ap (λ x. value_in bty (bits x)) y_is
                    ∙ value_is bty low2 (fixed_numeric bty suited.second);
              }) q in
              f mid m1 v2 onward (subst (λ (x : Content). M need (machine (with_content t x m.temps) st) v2) (sym content) matches)

          by_need : (x : Bool) → (w == 0) ≡ x → G (suc n) m.state.work pc v (R (suc n) rest m1)
          by_need true z =
              let go =
              no_code_passes code t (low_bytes t.bytes number.number) c rest n pc need0 m v k.result (none z)
              (eqb-true w 0 z) (low_below t.bytes number.number) stands more h f in
              subst (λ (x : Value). G (suc n) m.state.work pc v (R (suc n) rest (machine (with_temp t x m.temps) st)))
              (sym number.result) go
          by_need false z =
              let parts = has_parts e code (items rest) pc end stands in
              let x_is : value v.at (base a) (scalar_size aty) ≡ low1 =
              all_there a w low1 (scalar_size aty) need0 m v k.left k.left_bytes z least_a qa h in
              let y_is : second low2 ≡ low2 = there low2 qb z in
              let given =
              λ (x1 x2 : ℕ). IsNumber
              (arithmetic_value op (number_type ty) mode (fixed_operand_in (format_in aty) (scalar_size aty) x1)
              (fixed_operand_in (format_in bty) (scalar_size bty) x2)) r in
              runs r low2 qb y_is
              (subst (λ x1. given x1 (second low2)) (sym x_is) (subst (λ x2. given low1 x2) (sym y_is) number))
              z parts.0 parts.1 (λ number v2 g matches. reached parts.0 number v2 parts.2 x_is y_is g matches)

  -- an operator that is none on integers is apart
  fixed_apart : (op : BinOp) (ty : PlainType) (mode : Mode) (aty bty : PlainType) → IsFixedType aty ⊎ IsFixedType bty
      → is_on_integers (family_of op) mode ty aty bty ≡ false → is_apart (family_of op) mode ty aty bty ≡ true
  fixed_apart op ty mode aty bty k apart =
      ap (λ z. z && not (is_on_integers (family_of op) mode ty aty bty)) (either_fixed is_whole type_whole aty bty k) ∙ ap not apart

  -- and tells nothing
  fixed_untold : (op : BinOp) (ty : PlainType) (mode : Mode) (aty bty : PlainType) → IsFixedType aty ⊎ IsFixedType bty
      → is_on_integers (family_of op) mode ty aty bty ≡ false → is_untold (family_of op) mode ty aty bty ≡ true
  fixed_untold op ty mode aty bty k apart =
      ap (λ z. not z && is_apart (family_of op) mode ty aty bty) (no_two_pointers aty bty k) ∙ fixed_apart op ty mode aty bty k apart

  -- the same where all bytes of the second operand are needed too
  fixed_binary_passes : (op : BinOp) (ty : PlainType) (mode : Mode) (t a : Temp) (aty : PlainType) (b : Temp) (bty : PlainType)
      (rest : List PlainIr) (n pc : ℕ) (m : Mach) (v : View) (code : List AsmItem) → IsFixedBinary slots op t a b ty aty bty
      → is_on_integers (family_of op) mode ty aty bty ≡ false
      → ((wanted (needs at rest) t == 0) ≡ true → code ≡ []) → HasAt e (code ++ items rest) pc end
      → M (plain_needs (binary_op op ty mode t a aty b bty) rest) m v
      → FixedBinaryRuns op ty mode t a aty b bty rest n pc m v code (λ low. value v.at (base b) (scalar_size bty))
      → Rest (suc n) rest → G (suc n) m.state.work pc v (P n (binary_op op ty mode t a aty b bty) rest m)
  fixed_binary_passes op ty mode t a aty b bty rest n pc m v code k apart none stands h runs f =
      let need = needs at rest in
      let w = wanted need t in
      let need0 = plain_needs (binary_op op ty mode t a aty b bty) rest in
      let ka = first_wanted (is_apart (family_of op) mode ty aty bty) op a.bytes w in
      let kb = second_wanted (is_apart (family_of op) mode ty aty bty) op b.bytes w in
      let wx = fixed_apart op ty mode aty bty k.types.fixed apart in
      let least_a : all_or_none a.bytes w ≤ need0 a.at = subst (λ (x : Bool). first_wanted x op a.bytes w ≤ need0 a.at) wx
      (least_here a.at ka (at_least b.at kb (without t.at need))) in
      let inner = least_here b.at kb (without t.at need) in
      let outer = least_other a.at ka b.at (at_least b.at kb (without t.at need)) in
      let least_b : all_or_none b.bytes w ≤ need0 b.at = subst (λ (x : Bool). second_wanted x op b.bytes w ≤ need0 b.at) wx
      (omega (arith, inner, outer)) in
      fixed_operands_pass op ty mode t a aty b bty rest n pc m v code (λ low. value v.at (base b) (scalar_size bty)) need0 k none stands
      h (λ u d. other_needed op t a b ka kb need u d) least_a
      (λ low qb z. all_there b w low (scalar_size bty) need0 m v k.right k.right_bytes z least_b qb h) runs f

  -- the number is held that the second operand is known to hold
  abbrev HoldsKnown : Option RightNumber → Temp → Mach → Type 0
  HoldsKnown known b m = (k : ℤ) → number_known known ≡ Some k → IsKnown b k m

  pub fixed_binary_follows : (known : Option RightNumber) (op : BinOp) (ty : PlainType) (mode : Mode) (t a : Temp) (aty : PlainType)
      (b : Temp) (bty : PlainType) (rest : List PlainIr) (n pc : ℕ) (m : Mach) (v : View) → HoldsKnown known b m
      → IsFixedBinary slots op t a b ty aty bty → is_on_integers (family_of op) mode ty aty bty ≡ false
      → HasAt e (known_items known (binary_op op ty mode t a aty b bty) rest) pc end → M
      (plain_needs (binary_op op ty mode t a aty b bty) rest) m v
      → Rest (suc n) rest → G (suc n) m.state.work pc v (P n (binary_op op ty mode t a aty b bty) rest m)
  fixed_binary_follows known op ty mode t a aty b bty rest n pc m v holds_known k apart stands h f =
      fixed_binary_passes op ty mode t a aty b bty rest n pc m v own k apart none stand h runs f
    where
      i : PlainIr
      i = binary_op op ty mode t a aty b bty

      c : ℕ
      c = op_steps i

      need : Need
      need = needs at rest

      w : ℕ
      w = wanted need t

      ka : ℕ
      ka = first_wanted (is_apart (family_of op) mode ty aty bty) op a.bytes w

      kb : ℕ
      kb = second_wanted (is_apart (family_of op) mode ty aty bty) op b.bytes w

      fx : (is_fixed aty || is_fixed bty) ≡ true
      fx = either_fixed is_fixed type_fixed aty bty k.types.fixed

      is_apart_so : is_apart (family_of op) mode ty aty bty ≡ true
      is_apart_so = fixed_apart op ty mode aty bty k.types.fixed apart

      none_told : (x : Bool)
          → (if x then told_by (is_untold (family_of op) mode ty aty bty) (family_of op) (is_signed aty) else None) ≡ None
      none_told true = ap (λ z. told_by z (family_of op) (is_signed aty)) (fixed_untold op ty mode aty bty k.types.fixed apart)
      none_told false = refl

      code : List AsmItem
      code = fixed_binary_code op ty aty bty mode (home a) (home b) answer_location work_location

      own : List AsmItem
      own = own_code p home link None None known need i

      whole : List AsmItem
      whole = placed_whole known op (is_signed aty) (home a) (home b) (home t) (a.bytes - 1)

      stops : Bool
      stops = is_placed op mode ty aty bty && not (same_location (home b) (home t))

      stopped : List AsmItem
      stopped = placed_binary known op (is_signed aty) (home a) (home b) (home t) a.bytes w

      code_is : own ≡ (if stops then stopped else answer_code code (home t) w)
      code_is =
          ap (λ z. code_by_kind z (fixed_binary known None op ty aty bty mode (home a) (home b) (home t) a.bytes w)
          (code_by_kind (is_pointer aty || is_pointer bty)
          (pointer_binary known None link.core (is_pointer aty) (is_pointer bty) p op aty bty (home a) (home b) (home t) a.bytes b.bytes w)
          (integer_code known None op (is_signed aty) (is_signed bty) (home a) (home b) (home t) a.bytes w))) fx
          ∙ ap
          (λ z. if z then integer_code known None op (is_signed aty) (is_signed bty) (home a) (home b) (home t) a.bytes w
          else (if stops then stopped else answer_code code (home t) w)) apart

      stand : HasAt e (own ++ items rest) pc end
      stand = subst (λ x. HasAt e (own_code p home link None x known need i ++ items_told x rest) pc end)
          (none_told (is_only_tested t (slice_get rest 0) (slice_index (wanted_bytes at rest) 0))) stands

      -- the lowest byte of a known number is the count
      count_known : (x : Option ℤ) → number_known known ≡ x → (low : ℕ)
          → m.temps b.at ≡ Some (record { bytes = b.bytes; content = bits low }) → value v.at (base b) (scalar_size bty) ≡ low
          → KnownCount p e slots home base place y x b v
      count_known None s low q y_is = tt
      count_known (Some number) s low q y_is =
          let some = k.right.some in
          let eight = k.right.most in
          let two = (y.layout.temps_at b k.right).clear in
          let size = k.right_bytes in
          let held = λ (j : ℕ) (l : j < scalar_size bty).
          (let r : v.at (base b + j) < 256 = h.bytes (base b + j) (omega (arith, two)) in r) in
          let here : base b + 0 ≡ base b = omega arith in
          let one : value v.at (base b) 1 ≡ v.at (base b + 0) = omega arith in
          number_low number 1 b.bytes some (omega (arith, eight)) ∙ ap (λ x. x % 256 ^ 1) (sym (holds_known number s low q))
          ∙ ap (λ x. x % 256 ^ 1) (sym y_is) ∙ value_mod v.at (base b) 1 (scalar_size bty) (omega (arith, some, size)) held
          ∙ one ∙ ap v.at here

      more : (u : ℕ) → u ≢ t.at → need u ≤ plain_needs i rest u
      more u d = other_needed op t a b ka kb need u d

      cases_of : (x : Bool) {own other : List AsmItem} → own ≡ [] → other ≡ [] → (if x then own else other) ≡ []
      cases_of true q1 q2 = q1
      cases_of false q1 q2 = q2

      none : (w == 0) ≡ true → own ≡ []
      none z =
          let no = λ (x : List AsmItem). ap (λ (q : Bool). if q then [] else x) z in
          code_is ∙ cases_of stops (no whole) (no (code ++ copy_code answer_location (home t) w))

      runs : FixedBinaryRuns op ty mode t a aty b bty rest n pc m v own (λ low. value v.at (base b) (scalar_size bty))
      runs r low2 qb y_is number z mid there onward = by_code stops refl (subst (λ x. HasAt e x pc mid) code_is there)
        where
          m1 : Mach
          m1 = machine (with_temp t r m.temps) (worked c m.state)

          by_code : (x : Bool) → stops ≡ x → HasAt e (if x then stopped else answer_code code (home t) w) pc mid
              → G (suc n) m.state.work pc v (R (suc n) rest m1)
          by_code true s there =
              let parts = and_parts (is_placed op mode ty aty bty) (not (same_location (home b) (home t))) s in
              let code_there : HasAt e whole pc mid = subst (λ (x : Bool). HasAt e (if x then [] else whole) pc mid) z there in
              placed_passes p e slots home base place y op known ty aty bty mode c (suc n) pc mid t a b need (plain_needs i rest) m v
              (R (suc n) rest m1) r (count_known (number_known known) refl low2 qb y_is) k
              parts.0 parts.1 number h more code_there (omega arith) onward
          by_code false s there =
              let size = scalar_size ty in
              let same : size ≡ t.bytes = sym k.result_bytes in
              let some = k.result.some in
              let most = k.result.most in
              let slots0 = slots_of p e slots home base place y a b size k.left k.right k.different (omega arith) (omega arith) in
              let slots1 =
              subst
              (λ (x : ℕ). AreSlots e (home a) (home b) answer_location work_location x b.bytes size (base a) (base b)
              (y.work + 40) y.work) k.left_bytes slots0 in
              let slots2 =
              subst
              (λ (x : ℕ). AreSlots e (home a) (home b) answer_location work_location (scalar_size aty) x size (base a) (base b)
              (y.work + 40) y.work) k.right_bytes slots1 in
              let holds =
              IsBinaryResult op ty mode aty bty (value v.at (base a) (scalar_size aty)) (value v.at (base b) (scalar_size bty)) in
              let run =
              λ (end1 : ℕ) (u : HasAt e code pc end1). by_itself p e slots home base place y (64 * binary_room op ty aty bty) pc end1 size
              v holds (omega arith) (y.fixed.binaries op ty aty bty mode e (home a) (home b) answer_location work_location (base a)
              (base b) (y.work + 40) y.work pc end1 v k.types slots2 h.bytes u) in
              let room = binary_roomy op ty aty bty in
              answer_passes p e slots home base place y code (64 * binary_room op ty aty bty) size c (suc n) pc mid t need
              (plain_needs i rest) m v (R (suc n) rest m1) holds k.result same h more z there run (omega (arith, room, same)) onward

  -- a shift that takes a known count, of which nothing is needed
  fixed_counted_follows : (number : TakenNumber) (op : BinOp) (ty : PlainType) (mode : Mode) (t a : Temp) (aty : PlainType)
      (b : Temp) (bty : PlainType) (rest : List PlainIr) (n pc : ℕ) (m : Mach) (v : View) → IsKnown b number.number m
      → IsFixedBinary slots op t a b ty aty bty → IsCounted op mode ty aty bty t b
      → HasAt e (known_items (Some (as_known number)) (binary_op op ty mode t a aty b bty) rest) pc end
      → M (at_least a.at (first_wanted (is_apart (family_of op) mode ty aty bty) op a.bytes (wanted (needs at rest) t))
      (without t.at (needs at rest))) m v
      → Rest (suc n) rest → G (suc n) m.state.work pc v (P n (binary_op op ty mode t a aty b bty) rest m)
  fixed_counted_follows number op ty mode t a aty b bty rest n pc m v known k counted stands h f =
      fixed_operands_pass op ty mode t a aty b bty rest n pc m v own (λ low. low) need0 k none stand h more least_a (λ low qb z. refl)
      runs f
    where
      i : PlainIr
      i = binary_op op ty mode t a aty b bty

      c : ℕ
      c = op_steps i

      need : Need
      need = needs at rest

      w : ℕ
      w = wanted need t

      ka : ℕ
      ka = first_wanted (is_apart (family_of op) mode ty aty bty) op a.bytes w

      need0 : Need
      need0 = at_least a.at ka (without t.at need)

      fx : (is_fixed aty || is_fixed bty) ≡ true
      fx = either_fixed is_fixed type_fixed aty bty k.types.fixed

      apart : is_on_integers (family_of op) mode ty aty bty ≡ false
      apart = never_on_integers op mode ty aty bty counted.shift

      is_apart_so : is_apart (family_of op) mode ty aty bty ≡ true
      is_apart_so = fixed_apart op ty mode aty bty k.types.fixed apart

      own : List AsmItem
      own = own_code p home link None None (Some (as_known number)) need i

      whole : List AsmItem
      whole = placed_whole (Some (as_known number)) op (is_signed aty) (home a) (home b) (home t) (a.bytes - 1)

      others : List AsmItem
      others = answer_code (fixed_binary_code op ty aty bty mode (home a) (home b) answer_location work_location) (home t) w

      stops : (is_placed op mode ty aty bty && not (same_location (home b) (home t))) ≡ true
      stops = ap (λ z. z && not (same_location (home b) (home t))) counted.placed
          ∙ located_apart p e slots home base place y t b k.result k.right counted.apart

      code_is : own ≡ (if w == 0 then [] else whole)
      code_is =
          ap (λ z. code_by_kind z (fixed_binary (Some (as_known number)) None op ty aty bty mode (home a) (home b) (home t) a.bytes w)
          (code_by_kind (is_pointer aty || is_pointer bty)
          (pointer_binary (Some (as_known number)) None link.core (is_pointer aty) (is_pointer bty) p op aty bty (home a) (home b) (home t)
          a.bytes b.bytes w)
          (integer_code (Some (as_known number)) None op (is_signed aty) (is_signed bty) (home a) (home b) (home t) a.bytes w))) fx
          ∙ ap
          (λ z. if z then integer_code (Some (as_known number)) None op (is_signed aty) (is_signed bty) (home a) (home b) (home t) a.bytes w
          else (if is_placed op mode ty aty bty && not (same_location (home b) (home t))
          then placed_binary (Some (as_known number)) op (is_signed aty) (home a) (home b) (home t) a.bytes w else others)) apart
          ∙ ap (λ z. if z then placed_binary (Some (as_known number)) op (is_signed aty) (home a) (home b) (home t) a.bytes w
          else others) stops

      stand : HasAt e (own ++ items rest) pc end
      stand = subst (λ x. HasAt e (own_code p home link None x (Some (as_known number)) need i ++ items_told x rest) pc end)
          (untold_by (is_only_tested t (slice_get rest 0) (slice_index (wanted_bytes at rest) 0))
          (is_untold (family_of op) mode ty aty bty) (family_of op) (is_signed aty) (fixed_untold op ty mode aty bty k.types.fixed apart))
          stands

      more : (u : ℕ) → u ≢ t.at → need u ≤ need0 u
      more u d = let x = without_other t.at u need d in let z = least_other a.at ka u (without t.at need) in omega (arith, x, z)

      least_a : all_or_none a.bytes w ≤ need0 a.at
      least_a = subst (λ (x : Bool). first_wanted x op a.bytes w ≤ need0 a.at) is_apart_so (least_here a.at ka (without t.at need))

      none : (w == 0) ≡ true → own ≡ []
      none z = code_is ∙ ap (λ (q : Bool). if q then [] else whole) z

      runs : FixedBinaryRuns op ty mode t a aty b bty rest n pc m v own (λ low. low)
      runs r low2 qb same result z mid there onward =
          let code_there : HasAt e whole pc mid =
          subst (λ (x : Bool). HasAt e (if x then [] else whole) pc mid) z (subst (λ x. HasAt e x pc mid) code_is there) in
          let some = k.right.some in
          let eight = k.right.most in
          let below : low2 < 256 ^ scalar_size bty =
          subst (λ (x : ℕ). low2 < 256 ^ x) k.right_bytes (h.temps_hold b _ k.right qb refl).1 in
          let low : low_bytes 16 number.number % 256 ≡ low2 % 256 =
          number_low number.number 1 b.bytes some (omega (arith, eight)) ∙ ap (λ x. x % 256 ^ 1) (sym (known low2 qb)) in
          count_passes p e slots home base place y op counted.shift number low2 ty aty bty mode c (suc n) pc mid t a b need need0 m v
          (R (suc n) rest (machine (with_temp t r m.temps) (worked c m.state))) r below low k counted.placed result h more code_there
          (omega arith) onward

  -- a call of its routine
  fixed_binary_called : (l : ℕ) (op : BinOp) (ty : PlainType) (mode : Mode) (t a : Temp) (aty : PlainType) (b : Temp) (bty : PlainType)
      (rest : List PlainIr) (n pc : ℕ) (m : Mach) (v : View) → IsFixedBinary slots op t a b ty aty bty
      → is_on_integers (family_of op) mode ty aty bty ≡ false → HasRoutine e l (binary_body op ty aty bty mode)
      → HasAt e (called_code home l (wanted (needs at rest) t) (binary_op op ty mode t a aty b bty) ++ items rest) pc end
      → M (plain_needs (binary_op op ty mode t a aty b bty) rest) m v
      → Rest (suc n) rest → G (suc n) m.state.work pc v (P n (binary_op op ty mode t a aty b bty) rest m)
  fixed_binary_called l op ty mode t a aty b bty rest n pc m v k apart routine stands h f =
      fixed_binary_passes op ty mode t a aty b bty rest n pc m v (answer_code code (home t) w) k apart
      (λ z. ap (λ (q : Bool). if q then [] else code ++ copy_code answer_location (home t) w) z) stands h runs f
    where
      i : PlainIr
      i = binary_op op ty mode t a aty b bty

      c : ℕ
      c = op_steps i

      need : Need
      need = needs at rest

      w : ℕ
      w = wanted need t

      ka : ℕ
      ka = first_wanted (is_apart (family_of op) mode ty aty bty) op a.bytes w

      kb : ℕ
      kb = second_wanted (is_apart (family_of op) mode ty aty bty) op b.bytes w

      more : (u : ℕ) → u ≢ t.at → need u ≤ plain_needs i rest u
      more u d = other_needed op t a b ka kb need u d

      code : List AsmItem
      code = call_with_two (home a) (home b) a.bytes b.bytes l

      runs : FixedBinaryRuns op ty mode t a aty b bty rest n pc m v (answer_code code (home t) w)
          (λ low. value v.at (base b) (scalar_size bty))
      runs r low2 qb y_is number z mid there onward =
          let size = scalar_size ty in
          let same : size ≡ t.bytes = sym k.result_bytes in
          let some = k.result.some in
          let most = k.result.most in
          let holds =
          IsBinaryResult op ty mode aty bty (value v.at (base a) (scalar_size aty)) (value v.at (base b) (scalar_size bty)) in
          let run =
          λ (end1 : ℕ) (u : HasAt e code pc end1). y.routines.binaries op ty aty bty mode e l (home a) (home b) (base a) (base b) y.work
          pc end1 v k.types (has_work p e slots home base place y) routine
          (operand_at p e slots home base place y a (scalar_size aty) k.left k.left_bytes)
          (operand_at p e slots home base place y b (scalar_size bty) k.right k.right_bytes) (omega arith) (omega arith)
          (can_push p e slots home base place y (plain_needs i rest) m v h) h.bytes
          (subst (λ (x : ℕ). HasAt e (call_with_two (home a) (home b) (scalar_size aty) x l) pc end1) k.right_bytes
          (subst (λ (x : ℕ). HasAt e (call_with_two (home a) (home b) x b.bytes l) pc end1) k.left_bytes u)) in
          let room = binary_roomy op ty aty bty in
          answer_passes p e slots home base place y code (64 * binary_room op ty aty bty + 34) size c (suc n) pc mid t need
          (plain_needs i rest) m v (R (suc n) rest (machine (with_temp t r m.temps) (worked c m.state))) holds k.result same h more z there
          run (omega (arith, room, same, some)) onward

  -- what is shown of code for a negation of a fixed-point number, where its bytes have a result
  abbrev UnaryRuns : UnOp → PlainType → Mode → (t a : Temp) → List PlainIr → (n pc : ℕ) → Mach → View → List AsmItem → Type 0
  UnaryRuns op ty mode t a rest n pc m v code =
      (r : Value) → (wanted (needs at rest) t == 0) ≡ false → (mid : ℕ) → HasAt e code pc mid
      → ((number : ℕ) (v2 : View) → IsUnaryResult op ty mode (value v.at (base a) (scalar_size ty)) number
      → M (needs at rest) (machine (with_content t (bits number) m.temps) (worked (op_steps (unary_op op ty mode t a)) m.state)) v2
      → G (suc n) (m.state.work + op_steps (unary_op op ty mode t a)) mid v2
      (R (suc n) rest (machine (with_temp t r m.temps) (worked (op_steps (unary_op op ty mode t a)) m.state))))
      → G (suc n) m.state.work pc v
      (R (suc n) rest (machine (with_temp t r m.temps) (worked (op_steps (unary_op op ty mode t a)) m.state)))

  fixed_unary_passes : (op : UnOp) (ty : PlainType) (mode : Mode) (t a : Temp) (rest : List PlainIr) (n pc : ℕ) (m : Mach) (v : View)
      (code : List AsmItem) → IsFixedUnary slots op t a ty → ((wanted (needs at rest) t == 0) ≡ true → code ≡ [])
      → HasAt e (code ++ items rest) pc end → M (needs at (unary_op op ty mode t a ∷ rest)) m v
      → UnaryRuns op ty mode t a rest n pc m v code
      → Rest (suc n) rest → G (suc n) m.state.work pc v (P n (unary_op op ty mode t a) rest m)
  fixed_unary_passes op ty mode t a rest n pc m v code k none stands h runs f =
      from_typed p place e ty a m.temps st _ (suc n) m.state.work pc v (fixed_numeric ty known)
      (λ low q. by_result low q (unary_result op ty mode (number_in ty low)) refl)
    where
      i : PlainIr
      i = unary_op op ty mode t a

      c : ℕ
      c = op_steps i

      st : State
      st = worked c m.state

      need : Need
      need = needs at rest

      w : ℕ
      w = wanted need t

      known : IsNumberType ty
      known = fixed_number_type ty k.types.fixed

      by_result : (low : ℕ) → m.temps a.at ≡ Some (record { bytes = a.bytes; content = bits low }) → (z : Result Value Undefined)
          → unary_result op ty mode (number_in ty low) ≡ z
          → G (suc n) m.state.work pc v (next (given z st) (λ u s3. R (suc n) rest (machine (with_temp t u m.temps) s3)))
      by_result low qa (Err point) q = tt
      by_result low qa (Ok r) q = by_need (w == 0) refl
        where
          ka : ℕ
          ka = only_wanted (is_whole ty) a.bytes w

          wx : is_whole ty ≡ true
          wx = type_whole ty k.types.fixed

          more : (u : ℕ) → u ≢ t.at → need u ≤ plain_needs i rest u
          more u d = let x = without_other t.at u need d in let z = least_other a.at ka u (without t.at need) in omega arith

          m1 : Mach
          m1 = machine (with_temp t r m.temps) st

          number : IsNumber (unary_value op (number_type ty) mode (number_of_bytes (sign_in ty) (scalar_size ty) low)) r
          number = as_told (unary_value op (number_type ty) mode (number_of_bytes (sign_in ty) (scalar_size ty) low)) r q

          -- bytes that hold the result of the operand's bytes are those of r
          reached : (mid result : ℕ) (v2 : View) → HasAt e (items rest) mid end → value v.at (base a) (scalar_size ty) ≡ low
              → IsUnaryResult op ty mode (value v.at (base a) (scalar_size ty)) result
              → M need (machine (with_content t (bits result) m.temps) st) v2
              → G (suc n) (m.state.work + c) mid v2 (R (suc n) rest m1)
          reached mid result v2 onward x_is g matches =
              let content : content_of t.bytes r ≡ bits result =
              ap (λ s. content_of s r) k.result_bytes
              ∙ g (number_in ty low) r (ap (λ x. value_in ty (bits x)) x_is ∙ value_is ty low (fixed_numeric ty known)) q in
              f mid m1 v2 onward (subst (λ (x : Content). M need (machine (with_content t x m.temps) st) v2) (sym content) matches)

          by_need : (x : Bool) → (w == 0) ≡ x → G (suc n) m.state.work pc v (R (suc n) rest m1)
          by_need true z =
              let go =
              no_code_passes code t (low_bytes t.bytes number.number) c rest n pc (plain_needs i rest) m v k.result (none z)
              (eqb-true w 0 z) (low_below t.bytes number.number) stands more h f in
              subst (λ (x : Value). G (suc n) m.state.work pc v (R (suc n) rest (machine (with_temp t x m.temps) st)))
              (sym number.result) go
          by_need false z =
              let parts = has_parts e code (items rest) pc end stands in
              let size = scalar_size ty in
              let need0 = plain_needs i rest in
              let least_a : all_or_none a.bytes w ≤ need0 a.at = subst (λ (x : Bool). only_wanted x a.bytes w ≤ need0 a.at) wx
              (least_here a.at ka (without t.at need)) in
              let x_is : value v.at (base a) size ≡ low = all_there a w low size need0 m v k.operand k.operand_bytes z least_a qa h in
              runs r z parts.0 parts.1 (λ result v2 g matches. reached parts.0 result v2 parts.2 x_is g matches)

  pub fixed_unary_follows : (op : UnOp) (ty : PlainType) (mode : Mode) (t a : Temp) (rest : List PlainIr) (n pc : ℕ) (m : Mach) (v : View)
      → IsFixedUnary slots op t a ty → mode.saturate ≡ true → HasAt e (own_items (unary_op op ty mode t a) rest) pc end
      → M (needs at (unary_op op ty mode t a ∷ rest)) m v
      → Rest (suc n) rest → G (suc n) m.state.work pc v (P n (unary_op op ty mode t a) rest m)
  fixed_unary_follows op ty mode t a rest n pc m v k saturates stands h f =
      fixed_unary_passes op ty mode t a rest n pc m v (code_of i rest) k none stands h runs f
    where
      i : PlainIr
      i = unary_op op ty mode t a

      c : ℕ
      c = op_steps i

      need : Need
      need = needs at rest

      w : ℕ
      w = wanted need t

      ka : ℕ
      ka = only_wanted (is_whole ty) a.bytes w

      fx : is_fixed ty ≡ true
      fx = type_fixed ty k.types.fixed

      code : List AsmItem
      code = fixed_unary_code op ty mode (home a) answer_location work_location

      whole : List AsmItem
      whole = negated_code (is_signed ty) (home a) (home t) (scalar_size ty)

      stopped : List AsmItem
      stopped = negated_unary (is_signed ty) (home a) (home t) (scalar_size ty) w

      stops : Bool
      stops = nat_le (scalar_size ty) 6

      code_is : code_of i rest ≡ (if stops then stopped else answer_code code (home t) w)
      code_is =
          ap (λ z. code_by_kind z (fixed_unary op ty mode (home a) (home t) w) (unary_code op (home a) (home t) w)) fx
          ∙ ap (λ z. if z then (if stops then stopped else answer_code code (home t) w) else unary_code op (home a)
          (home t) w) saturates

      more : (u : ℕ) → u ≢ t.at → need u ≤ plain_needs i rest u
      more u d = let x = without_other t.at u need d in let z = least_other a.at ka u (without t.at need) in omega arith

      cases_of : (x : Bool) {own others : List AsmItem} → own ≡ [] → others ≡ [] → (if x then own else others) ≡ []
      cases_of true q1 q2 = q1
      cases_of false q1 q2 = q2

      none : (w == 0) ≡ true → code_of i rest ≡ []
      none z =
          let no = λ (x : List AsmItem). ap (λ (q : Bool). if q then [] else x) z in
          code_is ∙ cases_of stops (no whole) (no (code ++ copy_code answer_location (home t) w))

      runs : UnaryRuns op ty mode t a rest n pc m v (code_of i rest)
      runs r z mid there onward = by_code stops refl (subst (λ x. HasAt e x pc mid) code_is there)
        where
          m1 : Mach
          m1 = machine (with_temp t r m.temps) (worked c m.state)

          by_code : (x : Bool) → stops ≡ x → HasAt e (if x then stopped else answer_code code (home t) w) pc mid
              → G (suc n) m.state.work pc v (R (suc n) rest m1)
          by_code true s there =
              let code_there : HasAt e whole pc mid = subst (λ (x : Bool). HasAt e (if x then [] else whole) pc mid) z there in
              let some = k.result.some in
              let same = k.result_bytes in
              negated_passes p e slots home base place y op ty mode c (suc n) pc mid t a need (plain_needs i rest) m v (R (suc n) rest m1) k
              saturates (leb-true (scalar_size ty) 6 s) h more code_there (omega (arith, some, same)) onward
          by_code false s there =
              let size = scalar_size ty in
              let same : size ≡ t.bytes = sym k.result_bytes in
              let some = k.result.some in
              let most = k.result.most in
              let slots1 =
              subst
              (λ (x : ℕ). AreOperandSlots e (home a) answer_location work_location x size (base a)
              (y.work + 40) y.work) k.operand_bytes
              (operand_slots_of p e slots home base place y a size k.operand (omega arith) (omega arith)) in
              let holds = IsUnaryResult op ty mode (value v.at (base a) size) in
              let run =
              λ (end1 : ℕ) (u : HasAt e code pc end1). by_itself p e slots home base place y (64 * unary_room ty) pc end1 size v holds
              (omega arith) (y.fixed.unaries op ty mode e (home a) answer_location work_location (base a)
              (y.work + 40) y.work pc end1 v k.types slots1 h.bytes u) in
              answer_passes p e slots home base place y code (64 * unary_room ty) size c (suc n) pc mid t need (plain_needs i rest) m v
              (R (suc n) rest m1) holds k.result same h more z there run (omega (arith, same)) onward

  fixed_unary_called : (l : ℕ) (op : UnOp) (ty : PlainType) (mode : Mode) (t a : Temp) (rest : List PlainIr) (n pc : ℕ) (m : Mach)
      (v : View) → IsFixedUnary slots op t a ty → HasRoutine e l (unary_body op ty mode)
      → HasAt e (called_code home l (wanted (needs at rest) t) (unary_op op ty mode t a) ++ items rest) pc end
      → M (needs at (unary_op op ty mode t a ∷ rest)) m v
      → Rest (suc n) rest → G (suc n) m.state.work pc v (P n (unary_op op ty mode t a) rest m)
  fixed_unary_called l op ty mode t a rest n pc m v k routine stands h f =
      fixed_unary_passes op ty mode t a rest n pc m v (answer_code code (home t) w) k
      (λ z. ap (λ (q : Bool). if q then [] else code ++ copy_code answer_location (home t) w) z) stands h runs f
    where
      i : PlainIr
      i = unary_op op ty mode t a

      c : ℕ
      c = op_steps i

      need : Need
      need = needs at rest

      w : ℕ
      w = wanted need t

      ka : ℕ
      ka = only_wanted (is_whole ty) a.bytes w

      more : (u : ℕ) → u ≢ t.at → need u ≤ plain_needs i rest u
      more u d = let x = without_other t.at u need d in let z = least_other a.at ka u (without t.at need) in omega arith

      code : List AsmItem
      code = call_with_one (home a) a.bytes l

      runs : UnaryRuns op ty mode t a rest n pc m v (answer_code code (home t) w)
      runs r z mid there onward =
          let size = scalar_size ty in
          let same : size ≡ t.bytes = sym k.result_bytes in
          let some = k.result.some in
          let holds = IsUnaryResult op ty mode (value v.at (base a) size) in
          let run =
          λ (end1 : ℕ) (u : HasAt e code pc end1). y.routines.unaries op ty mode e l (home a) (base a) y.work pc end1 v k.types
          (has_work p e slots home base place y) routine (operand_at p e slots home base place y a size k.operand k.operand_bytes)
          (can_push p e slots home base place y (plain_needs i rest) m v h) h.bytes
          (subst (λ (x : ℕ). HasAt e (call_with_one (home a) x l) pc end1) k.operand_bytes u) in
          answer_passes p e slots home base place y code (64 * unary_room ty + 18) size c (suc n) pc mid t need (plain_needs i rest) m v
          (R (suc n) rest (machine (with_temp t r m.temps) (worked c m.state))) holds k.result same h more z there run
          (omega (arith, same, some)) onward

  -- what is shown of code for a conversion from or to a fixed-point type, where the operand's bytes have a result
  abbrev ConversionRuns : (t : Temp) → PlainType → Mode → Temp → PlainType → List PlainIr → (n pc : ℕ) → Mach → View → List AsmItem
      → Type 0
  ConversionRuns t ty mode a aty rest n pc m v code =
      (r : Value) → (wanted (needs at rest) t == 0) ≡ false → (mid : ℕ) → HasAt e code pc mid
      → ((number : ℕ) (v2 : View) → IsConversionResult ty mode aty (value v.at (base a) (scalar_size aty)) number
      → M (needs at rest) (machine (with_content t (bits number) m.temps) (worked (op_steps (conversion t ty mode a aty)) m.state)) v2
      → G (suc n) (m.state.work + op_steps (conversion t ty mode a aty)) mid v2
      (R (suc n) rest (machine (with_temp t r m.temps) (worked (op_steps (conversion t ty mode a aty)) m.state))))
      → G (suc n) m.state.work pc v
      (R (suc n) rest (machine (with_temp t r m.temps) (worked (op_steps (conversion t ty mode a aty)) m.state)))

  fixed_conversion_passes : (t : Temp) (ty : PlainType) (mode : Mode) (a : Temp) (aty : PlainType) (rest : List PlainIr) (n pc : ℕ)
      (m : Mach) (v : View) (code : List AsmItem) → IsFixedConversion slots t a ty aty
      → ((wanted (needs at rest) t == 0) ≡ true → code ≡ []) → HasAt e (code ++ items rest) pc end
      → M (needs at (conversion t ty mode a aty ∷ rest)) m v → ConversionRuns t ty mode a aty rest n pc m v code
      → Rest (suc n) rest → G (suc n) m.state.work pc v (P n (conversion t ty mode a aty) rest m)
  fixed_conversion_passes t ty mode a aty rest n pc m v code k none stands h runs f =
      from_typed p place e aty a m.temps st _ (suc n) m.state.work pc v (fixed_numeric aty known.operand)
      (λ low q. by_result low q (conversion_result ty mode (operand low)) refl)
    where
      i : PlainIr
      i = conversion t ty mode a aty

      c : ℕ
      c = op_steps i

      st : State
      st = worked c m.state

      need : Need
      need = needs at rest

      w : ℕ
      w = wanted need t

      known : AreNumberTypes ty aty
      known = converted_types ty aty k.types

      operand : ℕ → Operand
      operand low = operand_of p aty (number_in aty low) st

      by_result : (low : ℕ) → m.temps a.at ≡ Some (record { bytes = a.bytes; content = bits low }) → (z : Result Value Undefined)
          → conversion_result ty mode (operand low) ≡ z
          → G (suc n) m.state.work pc v (next (given z st) (λ u s3. R (suc n) rest (machine (with_temp t u m.temps) s3)))
      by_result low qa (Err point) q = tt
      by_result low qa (Ok r) q = by_need (w == 0) refl
        where
          ka : ℕ
          ka = only_wanted (is_fixed ty || is_fixed aty) a.bytes w

          wx : (is_fixed ty || is_fixed aty) ≡ true
          wx = either_fixed is_fixed type_fixed ty aty k.types.fixed

          more : (u : ℕ) → u ≢ t.at → need u ≤ plain_needs i rest u
          more u d = let x = without_other t.at u need d in let z = least_other a.at ka u (without t.at need) in omega arith

          m1 : Mach
          m1 = machine (with_temp t r m.temps) st

          is_operand : HasOperandBytes aty low (operand low)
          is_operand = record { type_is = refl; value_is = value_is aty low (fixed_numeric aty known.operand) }

          number : IsNumber (conversion_value (number_type ty) mode (fixed_operand_in (format_in aty) (scalar_size aty) low)) r
          number = conversion_told ty aty mode low (operand low) r known.result known.operand is_operand q

          -- bytes that hold the result of the operand's bytes are those of r
          reached : (mid result : ℕ) (v2 : View) → HasAt e (items rest) mid end → value v.at (base a) (scalar_size aty) ≡ low
              → IsConversionResult ty mode aty (value v.at (base a) (scalar_size aty)) result
              → M need (machine (with_content t (bits result) m.temps) st) v2
              → G (suc n) (m.state.work + c) mid v2 (R (suc n) rest m1)
          reached mid result v2 onward x_is g matches =
              let content : content_of t.bytes r ≡ bits result =
              ap (λ s. content_of s r) k.result_bytes
              ∙ g (operand low) r
              (record {
                type_is = refl;
                value_is = ap (λ x. value_in aty (bits x)) x_is
                    ∙ value_is aty low (fixed_numeric aty known.operand);
              }) q in
              f mid m1 v2 onward (subst (λ (x : Content). M need (machine (with_content t x m.temps) st) v2) (sym content) matches)

          by_need : (x : Bool) → (w == 0) ≡ x → G (suc n) m.state.work pc v (R (suc n) rest m1)
          by_need true z =
              let go =
              no_code_passes code t (low_bytes t.bytes number.number) c rest n pc (plain_needs i rest) m v k.result (none z)
              (eqb-true w 0 z) (low_below t.bytes number.number) stands more h f in
              subst (λ (x : Value). G (suc n) m.state.work pc v (R (suc n) rest (machine (with_temp t x m.temps) st)))
              (sym number.result) go
          by_need false z =
              let parts = has_parts e code (items rest) pc end stands in
              let need0 = plain_needs i rest in
              let least_a : all_or_none a.bytes w ≤ need0 a.at = subst (λ (x : Bool). only_wanted x a.bytes w ≤ need0 a.at) wx
              (least_here a.at ka (without t.at need)) in
              let x_is : value v.at (base a) (scalar_size aty) ≡ low =
              all_there a w low (scalar_size aty) need0 m v k.from k.from_bytes z least_a qa h in
              runs r z parts.0 parts.1 (λ result v2 g matches. reached parts.0 result v2 parts.2 x_is g matches)

  pub fixed_conversion_follows : (t : Temp) (ty : PlainType) (mode : Mode) (a : Temp) (aty : PlainType) (rest : List PlainIr) (n pc : ℕ)
      (m : Mach) (v : View)
      → IsFixedConversion slots t a ty aty → keeps_number ty aty mode ≡ false → HasAt e (own_items (conversion t ty mode a aty) rest) pc end
      → M (needs at (conversion t ty mode a aty ∷ rest)) m v
      → Rest (suc n) rest → G (suc n) m.state.work pc v (P n (conversion t ty mode a aty) rest m)
  fixed_conversion_follows t ty mode a aty rest n pc m v k other stands h f =
      fixed_conversion_passes t ty mode a aty rest n pc m v (code_of i rest) k none stands h runs f
    where
      i : PlainIr
      i = conversion t ty mode a aty

      c : ℕ
      c = op_steps i

      need : Need
      need = needs at rest

      w : ℕ
      w = wanted need t

      ka : ℕ
      ka = only_wanted (is_fixed ty || is_fixed aty) a.bytes w

      fx : (is_fixed ty || is_fixed aty) ≡ true
      fx = either_fixed is_fixed type_fixed ty aty k.types.fixed

      code : List AsmItem
      code = fixed_conversion_code ty aty mode (home a) answer_location work_location

      bring : List AsmItem
      bring = bring_code (is_signed aty) (home a) (home t) (scalar_size aty) (scalar_size ty) (format_in aty).frac (format_in ty).frac

      brought : List AsmItem
      brought =
          brought_code (is_signed aty) (home a) (home t) (scalar_size aty) (scalar_size ty) (format_in aty).frac (format_in ty).frac w

      brings : Bool
      brings = is_brought ty aty mode

      code_is : code_of i rest ≡ (if brings then brought else answer_code code (home t) w)
      code_is =
          ap (λ z. code_by_kind z (fixed_conversion ty aty mode (home a) (home t) a.bytes w) (code_by_kind (is_pointer aty)
          (pointer_conversion aty (home a) (home t) a.bytes w)
          (conversion_code (is_signed aty) (home a) (home t) a.bytes w))) fx
          ∙ ap
          (λ z. if z then conversion_code (is_signed aty) (home a) (home t) a.bytes w
          else (if brings then brought else answer_code code (home t) w)) other

      more : (u : ℕ) → u ≢ t.at → need u ≤ plain_needs i rest u
      more u d = let x = without_other t.at u need d in let z = least_other a.at ka u (without t.at need) in omega arith

      cases_of : (x : Bool) {own others : List AsmItem} → own ≡ [] → others ≡ [] → (if x then own else others) ≡ []
      cases_of true q1 q2 = q1
      cases_of false q1 q2 = q2

      none : (w == 0) ≡ true → code_of i rest ≡ []
      none z =
          let no = λ (x : List AsmItem). ap (λ (q : Bool). if q then [] else x) z in
          code_is ∙ cases_of brings (no bring) (no (code ++ copy_code answer_location (home t) w))

      runs : ConversionRuns t ty mode a aty rest n pc m v (code_of i rest)
      runs r z mid there onward = by_code brings refl (subst (λ x. HasAt e x pc mid) code_is there)
        where
          m1 : Mach
          m1 = machine (with_temp t r m.temps) (worked c m.state)

          by_code : (x : Bool) → brings ≡ x → HasAt e (if x then brought else answer_code code (home t) w) pc mid
              → G (suc n) m.state.work pc v (R (suc n) rest m1)
          by_code true s there =
              let code_there : HasAt e bring pc mid = subst (λ (x : Bool). HasAt e (if x then [] else bring) pc mid) z there in
              let some = k.result.some in
              let same = k.result_bytes in
              let room = conversion_roomy ty aty in
              brought_passes p e slots home base place y ty aty mode c (suc n) pc mid t a need (plain_needs i rest) m v (R (suc n) rest m1)
              k s h more code_there (omega (arith, room, some, same)) onward
          by_code false s there =
              let size = scalar_size ty in
              let same : size ≡ t.bytes = sym k.result_bytes in
              let some = k.result.some in
              let most = k.result.most in
              let slots1 =
              subst
              (λ (x : ℕ). AreOperandSlots e (home a) answer_location work_location x size (base a) (y.work + 40) y.work) k.from_bytes
              (operand_slots_of p e slots home base place y a size k.from (omega arith) (omega arith)) in
              let holds = IsConversionResult ty mode aty (value v.at (base a) (scalar_size aty)) in
              let run =
              λ (end1 : ℕ) (u : HasAt e code pc end1). by_itself p e slots home base place y (64 * conversion_room ty aty) pc end1 size v
              holds (omega arith) (y.fixed.conversions ty aty mode e (home a) answer_location work_location (base a)
              (y.work + 40) y.work pc end1 v k.types slots1 h.bytes u) in
              let room = conversion_roomy ty aty in
              answer_passes p e slots home base place y code (64 * conversion_room ty aty) size c (suc n) pc mid t need
              (plain_needs i rest) m v (R (suc n) rest m1) holds k.result same h more z there run (omega (arith, room, same)) onward

  fixed_conversion_called : (l : ℕ) (t : Temp) (ty : PlainType) (mode : Mode) (a : Temp) (aty : PlainType) (rest : List PlainIr)
      (n pc : ℕ) (m : Mach) (v : View) → IsFixedConversion slots t a ty aty → HasRoutine e l (conversion_body ty aty mode)
      → HasAt e (called_code home l (wanted (needs at rest) t) (conversion t ty mode a aty) ++ items rest) pc end
      → M (needs at (conversion t ty mode a aty ∷ rest)) m v
      → Rest (suc n) rest → G (suc n) m.state.work pc v (P n (conversion t ty mode a aty) rest m)
  fixed_conversion_called l t ty mode a aty rest n pc m v k routine stands h f =
      fixed_conversion_passes t ty mode a aty rest n pc m v (answer_code code (home t) w) k
      (λ z. ap (λ (q : Bool). if q then [] else code ++ copy_code answer_location (home t) w) z) stands h runs f
    where
      i : PlainIr
      i = conversion t ty mode a aty

      c : ℕ
      c = op_steps i

      need : Need
      need = needs at rest

      w : ℕ
      w = wanted need t

      ka : ℕ
      ka = only_wanted (is_fixed ty || is_fixed aty) a.bytes w

      more : (u : ℕ) → u ≢ t.at → need u ≤ plain_needs i rest u
      more u d = let x = without_other t.at u need d in let z = least_other a.at ka u (without t.at need) in omega arith

      code : List AsmItem
      code = call_with_one (home a) a.bytes l

      runs : ConversionRuns t ty mode a aty rest n pc m v (answer_code code (home t) w)
      runs r z mid there onward =
          let size = scalar_size ty in
          let same : size ≡ t.bytes = sym k.result_bytes in
          let some = k.result.some in
          let most = k.result.most in
          let holds = IsConversionResult ty mode aty (value v.at (base a) (scalar_size aty)) in
          let run =
          λ (end1 : ℕ) (u : HasAt e code pc end1). y.routines.conversions ty aty mode e l (home a) (base a) y.work pc end1 v k.types
          (has_work p e slots home base place y) routine
          (operand_at p e slots home base place y a (scalar_size aty) k.from k.from_bytes) (omega arith) (omega arith)
          (can_push p e slots home base place y (plain_needs i rest) m v h) h.bytes
          (subst (λ (x : ℕ). HasAt e (call_with_one (home a) x l) pc end1) k.from_bytes u) in
          let room = conversion_roomy ty aty in
          answer_passes p e slots home base place y code (64 * conversion_room ty aty + 18) size c (suc n) pc mid t need
          (plain_needs i rest) m v (R (suc n) rest (machine (with_temp t r m.temps) (worked c m.state))) holds k.result same h more z there
          run (omega (arith, room, same, some)) onward

  -- no more bytes of a temporary are needed than it has
  no_more_needed : (a : Temp) (w low : ℕ) (less : Need) (m : Mach) (v : View)
      → m.temps a.at ≡ Some (record { bytes = a.bytes; content = bits low })
      → M (at_least a.at (all_or_none a.bytes w) less) m v → M (at_least a.at w less) m v
  no_more_needed a w low less m v q h = record {
    temps_hold = λ t x it z r. at_width p e slots home base place y (at_least a.at (all_or_none a.bytes w) less) m v t x
        (wanted (at_least a.at w less) t) h it z r (enough t x z r);
    leaves_hold = h.leaves_hold;
    tables_hold = h.tables_hold;
    frames = h.frames;
    kept = h.kept;
    bytes = h.bytes;
    left = h.left;
    seen = h.seen;
    safe = h.safe;
  }
    where
      within : (l b w : ℕ) → min (max l w) b ≤ min (max l (all_or_none b w)) b
      within l b zero = omega arith
      within l b (suc n) = omega arith

      enough : (t : Temp) (x : Held) → m.temps t.at ≡ Some x → x.bytes ≡ t.bytes
          → wanted (at_least a.at w less) t ≤ wanted (at_least a.at (all_or_none a.bytes w) less) t
      enough t x z r = by_place (t.at == a.at) refl
        where
          by_place : (here : Bool) → (t.at == a.at) ≡ here
              → min (if here then max (less t.at) w else less t.at) t.bytes
              ≤ min (if here then max (less t.at) (all_or_none a.bytes w) else less t.at) t.bytes
          by_place false s = omega arith
          by_place true s =
              let same : t.at ≡ a.at = eqb-true t.at a.at s in
              let both : Some x ≡ Some (record { bytes = a.bytes; content = bits low }) = sym z ∙ ap m.temps same ∙ q in
              let held : x ≡ record { bytes = a.bytes; content = bits low } = cc in
              let bytes : a.bytes ≡ t.bytes = sym (ap (λ (h : Held). h.bytes) held) ∙ r in
              subst (λ (b : ℕ). min (max (less t.at) w) b ≤ min (max (less t.at) (all_or_none a.bytes w)) b) bytes
              (within (less t.at) a.bytes w)

  -- a conversion that gives the same number
  kept_follows : (t : Temp) (k j : FxKind) (s1 s2 : Bool) (mode : Mode) (a : Temp) (rest : List PlainIr) (n pc : ℕ) (m : Mach) (v : View)
      → IsFixedConversion slots t a (fixed k s1) (fixed j s2) → keeps_number (fixed k s1) (fixed j s2) mode ≡ true
      → HasAt e (own_items (conversion t (fixed k s1) mode a (fixed j s2)) rest) pc end
      → M (needs at (conversion t (fixed k s1) mode a (fixed j s2) ∷ rest)) m v
      → Rest (suc n) rest → G (suc n) m.state.work pc v (P n (conversion t (fixed k s1) mode a (fixed j s2)) rest m)
  kept_follows t k j s1 s2 mode a rest n pc m v h keeps stands needed f =
      from_typed p place e (fixed j s2) a m.temps st _ (suc n) m.state.work pc v tt
      (λ low q. by_result low q (conversion_result (fixed k s1) mode (operand_of p (fixed j s2) (Number (whole_of j low)) st)) refl)
    where
      i : PlainIr
      i = conversion t (fixed k s1) mode a (fixed j s2)

      c : ℕ
      c = op_steps i

      st : State
      st = worked c m.state

      need : Need
      need = needs at rest

      w : ℕ
      w = wanted need t

      sign : Bool
      sign = (format_of j).signed

      code : List AsmItem
      code = conversion_code sign (home a) (home t) a.bytes w

      code_is : code_of i rest ≡ code
      code_is =
          ap
          (λ z. if z then code
          else (if is_brought (fixed k s1) (fixed j s2) mode
          then brought_code sign (home a) (home t) (scalar_size (fixed j s2)) (scalar_size (fixed k s1)) (format_of j).frac
          (format_of k).frac w
          else answer_code (fixed_conversion_code (fixed k s1) (fixed j s2) mode (home a) answer_location work_location) (home t) w)) keeps

      by_result : (low : ℕ) → m.temps a.at ≡ Some (record { bytes = a.bytes; content = bits low }) → (z : Result Value Undefined)
          → conversion_result (fixed k s1) mode (operand_of p (fixed j s2) (Number (whole_of j low)) st) ≡ z
          → G (suc n) m.state.work pc v (next (given z st) (λ u s3. R (suc n) rest (machine (with_temp t u m.temps) s3)))
      by_result low qa (Err point) q = tt
      by_result low qa (Ok r) q =
          let below : low < 256 ^ a.bytes = (needed.temps_hold a _ h.from qa refl).1 in
          let small : low < 256 ^ ((format_of j).bits / 8) = subst (λ (b : ℕ). low < 256 ^ b) h.from_bytes below in
          let content0 = number_kept k j s1 s2 mode p low st r keeps small q in
          let number = λ (b : ℕ). number_of_bytes sign b low in
          let content : content_of t.bytes r ≡ bits (low_bytes t.bytes (number a.bytes)) =
          ap (λ b. content_of b r) h.result_bytes ∙ content0
          ∙ ap (λ b. bits (low_bytes b (whole_of j low))) (sym h.result_bytes)
          ∙ ap (λ b. bits (low_bytes t.bytes (number b))) (sym h.from_bytes) in
          let m1 = machine (with_temp t r m.temps) st in
          let take = conversion_steps sign (home a) (home t) a.bytes w in
          let most = wanted_most need t in
          let some = h.result.some in
          let room = conversion_roomy (fixed k s1) (fixed j s2) in
          let size = h.result_bytes in
          let steps : code_steps (code_of i rest) ≤ 3 + 3 * w =
          subst (λ (x : List AsmItem). code_steps x ≤ 3 + 3 * w) (sym code_is) take in
          let matches0 : M need (machine (with_content t (bits (low_bytes t.bytes (number a.bytes))) m.temps) st) (block e code v) =
          conversion_matches p e slots home base place y sign t a need m v c low h.result h.from qa
          (no_more_needed a w low (without t.at need) m v qa needed) in
          let matches1 : M need m1 (block e code v) =
          subst (λ (x : Content). M need (machine (with_content t x m.temps) st) (block e code v)) (sym content) matches0 in
          let matches : M need m1 (block e (code_of i rest) v) =
          subst (λ (x : List AsmItem). M need m1 (block e x v)) (sym code_is) matches1 in
          passes i rest (suc n) (suc n) m.state.work m1.state.work pc v (R (suc n) rest m1) stands
          (subst (λ (x : List AsmItem). all_straight x ≡ true) (sym code_is)
          (conversion_straight sign (home a) (home t) a.bytes w)) (omega arith)
          (omega (arith, steps, most, some, room, size))
          (λ mid u. f mid m1 _ u matches)

  -- it is between fixed-point types
  number_kept_follows : (t : Temp) (ty : PlainType) (mode : Mode) (a : Temp) (aty : PlainType) (rest : List PlainIr) (n pc : ℕ)
      (m : Mach) (v : View)
      → IsFixedConversion slots t a ty aty → keeps_number ty aty mode ≡ true
      → HasAt e (own_items (conversion t ty mode a aty) rest) pc end
      → M (needs at (conversion t ty mode a aty ∷ rest)) m v
      → Rest (suc n) rest → G (suc n) m.state.work pc v (P n (conversion t ty mode a aty) rest m)
  number_kept_follows t (fixed k s1) mode a (fixed j s2) rest n pc m v h keeps stands needed f =
      kept_follows t k j s1 s2 mode a rest n pc m v h keeps stands needed f
  number_kept_follows t (fixed k s) mode a void rest n pc m v h keeps stands needed f = absurd cc
  number_kept_follows t (fixed k s) mode a (integer u b) rest n pc m v h keeps stands needed f = absurd cc
  number_kept_follows t (fixed k s) mode a (pointer u b z) rest n pc m v h keeps stands needed f = absurd cc
  number_kept_follows t (fixed k s) mode a (array z b) rest n pc m v h keeps stands needed f = absurd cc
  number_kept_follows t (fixed k s) mode a (struct b) rest n pc m v h keeps stands needed f = absurd cc
  number_kept_follows t void mode a aty rest n pc m v h keeps stands needed f = absurd cc
  number_kept_follows t (integer u b) mode a aty rest n pc m v h keeps stands needed f = absurd cc
  number_kept_follows t (pointer u b z) mode a aty rest n pc m v h keeps stands needed f = absurd cc
  number_kept_follows t (array z b) mode a aty rest n pc m v h keeps stands needed f = absurd cc
  number_kept_follows t (struct b) mode a aty rest n pc m v h keeps stands needed f = absurd cc

  -- ---- unary operators

  turn_straight : (op : UnOp) (q : Location) (n : ℕ) → all_straight (turn_code op q n) ≡ true
  turn_straight Minus q n = (complements_are_straight q n).1
  turn_straight Invert q n = (complements_are_straight q n).0

  turn_steps : (op : UnOp) (q : Location) (n : ℕ) → code_steps (turn_code op q n) ≤ 1 + 6 * n
  turn_steps Minus q n = (complements_take q n).1
  turn_steps Invert q n = let x = (complements_take q n).0 in omega arith

  unary_straight : (op : UnOp) (a t : Location) (n : ℕ) → all_straight (unary_code op a t n) ≡ true
  unary_straight op a t n =
      straight-append (move_code a t n) (turn_code op t n) (move_straight a t n) (turn_straight op t n)

  unary_steps : (op : UnOp) (a t : Location) (n : ℕ) → code_steps (unary_code op a t n) ≤ 1 + 8 * n
  unary_steps op a t n =
      let x = move_steps a t n in
      let z = turn_steps op t n in
      omega (arith, steps-append (move_code a t n) (turn_code op t n), x, z)

  unary_of_numbers : (op : UnOp) (s : Bool) (mode : Mode) (t a : Temp) (rest : List PlainIr) (n pc : ℕ) (m : Mach) (v : View)
      → HasHome slots t → HasHome slots a → a.bytes ≡ t.bytes
      → HasAt e (own_items (unary_op op (integer s a.bytes) mode t a) rest) pc end
      → M (at_least a.at (wanted (needs at rest) t) (without t.at (needs at rest))) m v → Rest (suc n) rest
      → G (suc n) m.state.work pc v (P n (unary_op op (integer s a.bytes) mode t a) rest m)
  unary_of_numbers op s mode t a rest n pc m v it ia same stands h f =
      let need = needs at rest in
      let i = unary_op op (integer s a.bytes) mode t a in
      let c = op_steps i in
      let st = worked c m.state in
      let k = wanted need t in
      let most = wanted_most need t in
      let take = unary_steps op (home a) (home t) k in
      let big : 1 + 8 * k ≤ c = omega (arith, most, same) in
      from_number p place e s a m.temps st _ (suc n) m.state.work pc v
      (λ low q.
      let below : low < 256 ^ a.bytes = (h.temps_hold a _ ia q refl).1 in
      let g = turns op mode s a.bytes low below in
      let m1 = after_operator t (low_bytes t.bytes g.number) c m in
      let matches : M need (after_operator t (turned op t.bytes low) c m) (block e (code_of i rest) v) =
      unary_matches p e slots home base place y op t a need m v c low it ia same q h in
      let number : low_bytes t.bytes g.number ≡ turned op t.bytes low = subst (λ b. low_bytes b g.number ≡ turned op b low) same g.low in
      let matches1 : M need m1 (block e (code_of i rest) v) =
      subst (λ r. M need (after_operator t r c m) (block e (code_of i rest) v)) (sym number) matches in
      subst (λ r. G (suc n) m.state.work pc v (next (given r st) (λ u s3. R (suc n) rest (machine (with_temp t u m.temps) s3)))) (sym g.is)
      (passes i rest (suc n) (suc n) m.state.work m1.state.work pc v (R (suc n) rest m1) stands (unary_straight op (home a) (home t) k)
      (omega arith) (omega (arith, take, big))
      (λ mid u. f mid m1 _ u matches1)))

  -- a temporary that holds an integer
  whole_held : (s : Bool) (b low : ℕ) (a : Temp) (temps : Temps) (st : State)
      → temps a.at ≡ Some (record { bytes = a.bytes; content = bits low })
      → held_as p (integer s b) a temps st ≡ got (Number (number_of_bytes s b low)) st
  whole_held s b low a temps st q = rw (q, eq-eqb a.bytes a.bytes refl) refl

  -- a negation of a fixed-point number that is one of an integer
  negation_follows : (k : FxKind) (s : Bool) (mode : Mode) (t a : Temp) (rest : List PlainIr) (n pc : ℕ) (m : Mach) (v : View)
      → IsFixedUnary slots Minus t a (fixed k s) → mode.saturate ≡ false
      → HasAt e (own_items (unary_op Minus (fixed k s) mode t a) rest) pc end
      → M (needs at (unary_op Minus (fixed k s) mode t a ∷ rest)) m v
      → Rest (suc n) rest → G (suc n) m.state.work pc v (P n (unary_op Minus (fixed k s) mode t a) rest m)
  negation_follows k s mode t a rest n pc m v h off stands needed f =
      from_typed p place e (fixed k s) a m.temps st _ (suc n) m.state.work pc v tt
      (λ low q. by_result low q (unary_result Minus (fixed k s) mode (Number (whole_of k low))) refl)
    where
      bytes : ℕ
      bytes = (format_of k).bits / 8

      sign : Bool
      sign = (format_of k).signed

      i : PlainIr
      i = unary_op Minus (fixed k s) mode t a

      whole : PlainIr
      whole = unary_op Minus (integer sign bytes) mode t a

      st : State
      st = worked (op_steps i) m.state

      same : a.bytes ≡ t.bytes
      same = h.operand_bytes ∙ sym h.result_bytes

      code : own_items i rest ≡ own_items whole rest
      code =
          ap (λ z. (if z
          then (if nat_le bytes 6 then negated_unary sign (home a) (home t) bytes (wanted (needs at rest) t)
          else answer_code (fixed_unary_code Minus (fixed k s) mode (home a) answer_location work_location) (home t)
          (wanted (needs at rest) t))
          else unary_code Minus (home a) (home t) (wanted (needs at rest) t)) ++ items rest) off

      -- the run of the negation of the integer
      run : G (suc n) m.state.work pc v (P n whole rest m)
      run =
          let sized : a.bytes ≡ bytes = h.operand_bytes in
          let done =
          λ (j : ℕ). HasAt e (own_items (unary_op Minus (integer sign j) mode t a) rest) pc end
          → G (suc n) m.state.work pc v (P n (unary_op Minus (integer sign j) mode t a) rest m) in
          let need = needs at rest in
          let w = wanted need t in
          let most = wanted_most need t in
          subst done sized
          (λ stand. unary_of_numbers Minus sign mode t a rest n pc m v h.result h.operand same stand
          (weaker p e slots home base place y (plain_needs i rest) (at_least a.at w (without t.at need)) m v needed
          (more_needed a.at w (all_or_none a.bytes w) (without t.at need) (without t.at need)
          (at_most_all a.bytes w (omega (arith, most, same))) (λ x. omega arith))) f)
          (subst (λ (x : List AsmItem). HasAt e x pc end) code stands)

      by_result : (low : ℕ) → m.temps a.at ≡ Some (record { bytes = a.bytes; content = bits low }) → (z : Result Value Undefined)
          → unary_result Minus (fixed k s) mode (Number (whole_of k low)) ≡ z
          → G (suc n) m.state.work pc v (next (given z st) (λ u s3. R (suc n) rest (machine (with_temp t u m.temps) s3)))
      by_result low qa (Err point) q = tt
      by_result low qa (Ok r) q =
          let w = negation_as k s mode low t.bytes r (ap not off) h.result_bytes q in
          let go = λ (u : Value) (s3 : State). R (suc n) rest (machine (with_temp t u m.temps) s3) in
          let is : P n whole rest m ≡ R (suc n) rest (machine (with_temp t (Number w.number) m.temps) st) =
          ap (λ o. next o (λ x s1. next (given (unary_result Minus (integer sign bytes) mode x) s1) go))
          (whole_held sign bytes low a m.temps st qa) ∙ ap (λ z. next (given z st) go) w.is in
          subst (λ (x : Content). G (suc n) m.state.work pc v (R (suc n) rest (machine (with_content t x m.temps) st))) (sym w.same)
          (subst (λ o. G (suc n) m.state.work pc v o) is run)

  whole_unary_follows : (op : UnOp) (ty : PlainType) (mode : Mode) (t a : Temp) (rest : List PlainIr) (n pc : ℕ) (m : Mach)
      (v : View) → IsFixedUnary slots op t a ty → mode.saturate ≡ false
      → HasAt e (own_items (unary_op op ty mode t a) rest) pc end
      → M (needs at (unary_op op ty mode t a ∷ rest)) m v
      → Rest (suc n) rest → G (suc n) m.state.work pc v (P n (unary_op op ty mode t a) rest m)
  whole_unary_follows Minus (fixed k s) mode t a rest n pc m v h off stands needed f =
      negation_follows k s mode t a rest n pc m v h off stands needed f
  whole_unary_follows Invert (fixed k s) mode t a rest n pc m v h off stands needed f = absurd h.types.types.0
  whole_unary_follows op void mode t a rest n pc m v h off stands needed f = absurd h.types.fixed
  whole_unary_follows op (integer s j) mode t a rest n pc m v h off stands needed f = absurd h.types.fixed
  whole_unary_follows op (pointer s j z) mode t a rest n pc m v h off stands needed f = absurd h.types.fixed
  whole_unary_follows op (array z j) mode t a rest n pc m v h off stands needed f = absurd h.types.fixed
  whole_unary_follows op (struct j) mode t a rest n pc m v h off stands needed f = absurd h.types.fixed

  pub unary_follows : (op : UnOp) (ty : PlainType) (mode : Mode) (t a : Temp) (rest : List PlainIr) (n pc : ℕ) (m : Mach)
      (v : View) → IsCovered p results me y.called slots (unary_op op ty mode t a)
      → HasAt e (own_items (unary_op op ty mode t a) rest) pc end
      → M (needs at (unary_op op ty mode t a ∷ rest)) m v → Rest (suc n) rest
      → G (suc n) m.state.work pc v (P n (unary_op op ty mode t a) rest m)
  unary_follows op ty mode t a rest n pc m v covered stands h f =
      ⊎_elim
      (λ (k : IsUnary slots t a ty).
      let same = k.same_bytes in
      let type : ty ≡ integer k.signed a.bytes = k.result_type ∙ ap (integer k.signed) (sym same) in
      let done =
      λ (x : PlainType). HasAt e (own_items (unary_op op x mode t a) rest) pc end → M (needs at (unary_op op x mode t a ∷ rest)) m v
      → G (suc n) m.state.work pc v (P n (unary_op op x mode t a) rest m) in
      subst done (sym type)
      (λ stand needed. unary_of_numbers op k.signed mode t a rest n pc m v k.result k.operand same stand needed f) stands h)
      (λ (k : IsFixedUnary slots op t a ty). ⊎_elim
      (λ (q : mode.saturate ≡ true). fixed_unary_follows op ty mode t a rest n pc m v k q stands h f)
      (λ (q : mode.saturate ≡ false). whole_unary_follows op ty mode t a rest n pc m v k q stands h f) (cases_Bool mode.saturate))
      covered

  -- ---- conversions

  conversion_big : (signed from : Bool) (bytes other n : ℕ) → 1 ≤ bytes → n ≤ bytes
      → 3 + 3 * n ≤ 64 * conversion_words (integer signed bytes) (integer from other)
  conversion_big signed from bytes other n some l =
      by_kind (same_type (integer signed bytes) (integer from other))
    where
      wide : bytes ≤ widest (integer signed bytes ∷ integer from other ∷ [])
      wide = omega arith

      by_kind : (x : Bool)
          → 3 + 3 * n ≤ 64 *
          (if x || true then 10 * widest (integer signed bytes ∷ integer from other ∷ []) else 100 + 40 * widest
          (integer signed bytes ∷ integer from other ∷ []))
      by_kind true = omega (arith, wide, some, l)
      by_kind false = omega (arith, wide, some, l)

  conversion_of_numbers : (s s1 : Bool) (mode : Mode) (t a : Temp) (rest : List PlainIr) (n pc : ℕ) (m : Mach) (v : View)
      → HasHome slots t → HasHome slots a
      → HasAt e (own_items (conversion t (integer s t.bytes) mode a (integer s1 a.bytes)) rest) pc end
      → M (at_least a.at (wanted (needs at rest) t) (without t.at (needs at rest))) m v → Rest (suc n) rest
      → G (suc n) m.state.work pc v (P n (conversion t (integer s t.bytes) mode a (integer s1 a.bytes)) rest m)
  conversion_of_numbers s s1 mode t a rest n pc m v it ia stands h f =
      let need = needs at rest in
      let i = conversion t (integer s t.bytes) mode a (integer s1 a.bytes) in
      let c = op_steps i in
      let st = worked c m.state in
      let k = wanted need t in
      let most = wanted_most need t in
      let some = it.some in
      let big : 3 + 3 * k ≤ c = conversion_big s s1 t.bytes a.bytes k some most in
      let take = conversion_steps s1 (home a) (home t) a.bytes k in
      from_number p place e s1 a m.temps st _ (suc n) m.state.work pc v
      (λ low q.
      let z = number_of_bytes s1 a.bytes low in
      let m1 = after_operator t (low_bytes t.bytes (wrapped (record { signed = s; bytes = t.bytes }) z)) c m in
      let matches = conversion_matches p e slots home base place y s1 t a need m v c low it ia q h in
      let matches1 : M need m1 (block e (code_of i rest) v) =
      subst (λ r. M need (after_operator t r c m) (block e (code_of i rest) v)) (sym (low_of_wrapped s t.bytes z)) matches in
      passes i rest (suc n) (suc n) m.state.work m1.state.work pc v (R (suc n) rest m1) stands
      (conversion_straight s1 (home a) (home t) a.bytes k) (omega arith) (omega (arith, take, big))
      (λ mid u. f mid m1 _ u matches1))

  pub conversion_follows : (t : Temp) (ty : PlainType) (mode : Mode) (a : Temp) (aty : PlainType) (rest : List PlainIr)
      (n pc : ℕ) (m : Mach) (v : View) → IsCovered p results me y.called slots (conversion t ty mode a aty)
      → HasAt e (own_items (conversion t ty mode a aty) rest) pc end
      → M (needs at (conversion t ty mode a aty ∷ rest)) m v → Rest (suc n) rest
      → G (suc n) m.state.work pc v (P n (conversion t ty mode a aty) rest m)
  conversion_follows t ty mode a aty rest n pc m v covered stands h f =
      ⊎_elim
      (λ (k : AreConverted slots t a ty aty).
      let done =
      λ (x z : PlainType). HasAt e (own_items (conversion t x mode a z) rest) pc end → M (needs at (conversion t x mode a z ∷ rest)) m v
      → G (suc n) m.state.work pc v (P n (conversion t x mode a z) rest m) in
      subst (λ x. done x aty) (sym k.result_type)
      (subst (λ x. done (integer k.signed t.bytes) x) (sym k.from_type)
      (λ stand needed. conversion_of_numbers k.signed k.from_signed mode t a rest n pc m v k.result k.from stand needed f)) stands h)
      (λ i. ⊎_elim
      (λ (k : IsFixedConversion slots t a ty aty). ⊎_elim
      (λ (q : keeps_number ty aty mode ≡ true). number_kept_follows t ty mode a aty rest n pc m v k q stands h f)
      (λ (q : keeps_number ty aty mode ≡ false). fixed_conversion_follows t ty mode a aty rest n pc m v k q stands h f)
      (cases_Bool (keeps_number ty aty mode)))
      (λ (k : IsPointerConversion slots t a ty aty).
      pointer_conversion_follows p functions e slots home base place y labels all end results me link stack t ty mode a aty rest n
      pc m v k stands h f)
      i)
      covered

  -- ---- jumps

  -- an operation that can have no routine has its code at its use, also behind other code
  at_use_behind : (first : List AsmItem) (told : Option Told) (i : PlainIr) (rest : List PlainIr) (pc : ℕ) → IsLinked e link i
      → ((l : ℕ) → HasRoutineOf e l i → ⊥) → HasAt e (first ++ items_told told (i ∷ rest)) pc end
      → HasAt e (first ++ own_told told i rest) pc end
  at_use_behind = used_behind p functions e slots home base place y labels all end results me link stack

  at_use : (i : PlainIr) (rest : List PlainIr) (pc : ℕ) → Ready pc (i ∷ rest) → ((l : ℕ) → HasRoutineOf e l i → ⊥)
      → HasAt e (own_items i rest) pc end
  at_use = used p functions e slots home base place y labels all end results me link stack

  -- where a label that has a word stands, and what is needed there
  pub record Target (l : ℕ) (rest : List PlainIr) : Type 0 where
    pub ready : e.word_of (link.label_of l) < 65536 → Ready (e.word_of (link.label_of l)) rest
    pub needed : (u : ℕ) → needs at rest u ≤ labels l u

  -- behind an operation that is no label
  onward : (told : Option Told) (i : PlainIr) (ops : List PlainIr) (pc : ℕ) → HasAt e (items_told told (i ∷ ops)) pc end
      → (mid : ℕ) × HasAt e (items_told (tells_next link.core p home at told i ops) ops) mid end
  onward told i ops pc stands =
      let s = has_parts e (op_code p home link told (tells_next link.core p home at told i ops) (at.known (i ∷ ops))
      (needed_behind labels (needs at ops) i) i)
      (items_told (tells_next link.core p home at told i ops) ops) pc
      end stands in
      (s.0, s.2)

  -- operations of which the first one may have been told something
  record Walked (told : Option Told) (pc : ℕ) (rest : List PlainIr) : Type 0 where
    covered : AreReady p e y.cells results me y.called slots link all rest
    live : IsLiveBy at rest
    inside : (b : ℕ) → Contains (called_in rest) b → Contains (called_in all) b
    here : IsRunning p functions e slots home base place y labels all end results me link stack
    stands : HasAt e (items_told told rest) pc end

  found : (told : Option Told) (ops : List PlainIr) (pc l : ℕ) (rest : List PlainIr) → Walked told pc ops → find l ops ≡ Some rest
      → Target l rest
  found told [] pc l rest r f = absurd (cc)
  found told (label k ∷ ops) pc l rest r f =
      let s = at_use_behind [] told (label k) ops pc r.covered.0.1 (λ l none. none) r.stands in
      ⊎_elim
      (λ q.
      let g : (if k == l then Some ops else find l ops) ≡ Some rest = f in
      let h : Some ops ≡ Some rest = (rw q at g) in
      let o : ops ≡ rest = cc in
      let i = eqb-true k l q in
      let here : e.word_of (link.label_of l) < 65536 → e.word_of (link.label_of k) ≡ pc =
      λ w. s.1.0 (subst (λ n. e.word_of (link.label_of n) < 65536) (sym i) w) in
      let stands : e.word_of (link.label_of l) < 65536 → HasAt e (items ops) (e.word_of (link.label_of l)) end =
      λ w. subst (λ n. HasAt e (items ops) n end) (s.1.1 ∙ sym (here w) ∙ ap (λ n. e.word_of (link.label_of n)) i) s.2 in
      let needed : (u : ℕ) → needs at ops u ≤ labels l u = λ u. subst (λ n. needs at ops u ≤ labels n u) i (r.live.0 u) in
      subst (λ x. Target l x) o
      (record {
        ready = λ w. record { covered = r.covered.1; live = r.live.1; inside = r.inside; here = r.here; stands = stands w };
        needed = needed;
      }))
      (λ q.
      let g : (if k == l then Some ops else find l ops) ≡ Some rest = f in
      let h : find l ops ≡ Some rest = (rw q at g) in
      found None ops s.0 l rest (record { covered = r.covered.1; live = r.live.1; inside = r.inside; here = r.here; stands = s.2 }) h)
      (cases_Bool (k == l))
  found told (constant t k ∷ ops) pc l rest r f =
      let s =
      onward told (constant t k) ops pc r.stands in found (tells_next link.core p home at told (constant t k) ops) ops s.0 l rest
      (record { covered = r.covered.1; live = r.live; inside = r.inside; here = r.here; stands = s.1 }) f
  found told (copy t u ∷ ops) pc l rest r f =
      let s =
      onward told (copy t u) ops pc r.stands in found None ops s.0 l rest
      (record { covered = r.covered.1; live = r.live; inside = r.inside; here = r.here; stands = s.1 }) f
  found told (load_object t o offset ∷ ops) pc l rest r f =
      let s =
      onward told (load_object t o offset) ops pc r.stands in
      found (tells_next link.core p home at told (load_object t o offset) ops) ops s.0 l rest
      (record { covered = r.covered.1; live = r.live; inside = r.inside; here = r.here; stands = s.1 }) f
  found told (store_object o offset t ∷ ops) pc l rest r f =
      let s =
      onward told (store_object o offset t) ops pc r.stands in found None ops s.0 l rest
      (record { covered = r.covered.1; live = r.live; inside = r.inside; here = r.here; stands = s.1 }) f
  found told (binary_op op ty mode t a aty b bty ∷ ops) pc l rest r f =
      let s =
      onward told (binary_op op ty mode t a aty b bty) ops pc r.stands in found
      (tells_next link.core p home at told (binary_op op ty mode t a aty b bty) ops) ops s.0 l rest
      (record { covered = r.covered.1; live = r.live; inside = r.inside; here = r.here; stands = s.1 }) f
  found told (conversion t ty mode a aty ∷ ops) pc l rest r f =
      let s =
      onward told (conversion t ty mode a aty) ops pc r.stands in found
      (tells_next link.core p home at told (conversion t ty mode a aty) ops) ops s.0 l rest
      (record { covered = r.covered.1; live = r.live; inside = r.inside; here = r.here; stands = s.1 }) f
  found told (jump k ∷ ops) pc l rest r f =
      let s =
      onward told (jump k) ops pc r.stands in found None ops s.0 l rest
      (record { covered = r.covered.1; live = r.live; inside = r.inside; here = r.here; stands = s.1 }) f
  found told (branch_zero t k ∷ ops) pc l rest r f =
      let s =
      onward told (branch_zero t k) ops pc r.stands in found (tells_next link.core p home at told (branch_zero t k) ops) ops s.0 l rest
      (record { covered = r.covered.1; live = r.live; inside = r.inside; here = r.here; stands = s.1 }) f
  found told (return_from t ∷ ops) pc l rest r f =
      let s =
      onward told (return_from t) ops pc r.stands in found None ops s.0 l rest
      (record { covered = r.covered.1; live = r.live; inside = r.inside; here = r.here; stands = s.1 }) f
  found told (address t o offset ∷ ops) pc l rest r f =
      let s = onward told (address t o offset) ops pc r.stands in
      found None ops s.0 l rest (record { covered = r.covered.1; live = r.live; inside = r.inside; here = r.here; stands = s.1 }) f
  found told (field t space offset ∷ ops) pc l rest r f =
      let s = onward told (field t space offset) ops pc r.stands in
      found (tells_next link.core p home at told (field t space offset) ops) ops s.0 l rest
      (record { covered = r.covered.1; live = r.live; inside = r.inside; here = r.here; stands = s.1 }) f
  found told (load_at t u space ∷ ops) pc l rest r f =
      let s = onward told (load_at t u space) ops pc r.stands in
      found (tells_next link.core p home at told (load_at t u space) ops) ops s.0 l rest
      (record { covered = r.covered.1; live = r.live; inside = r.inside; here = r.here; stands = s.1 }) f
  found told (store_at t space u ∷ ops) pc l rest r f =
      let s = onward told (store_at t space u) ops pc r.stands in
      found None ops s.0 l rest (record { covered = r.covered.1; live = r.live; inside = r.inside; here = r.here; stands = s.1 }) f
  found told (unary_op op ty mode t a ∷ ops) pc l rest r f =
      let s =
      onward told (unary_op op ty mode t a) ops pc r.stands in found None ops s.0 l rest
      (record { covered = r.covered.1; live = r.live; inside = r.inside; here = r.here; stands = s.1 }) f
  found told (call_function g t ∷ ops) pc l rest r f =
      let s =
      onward told (call_function g t) ops pc r.stands in found None ops s.0 l rest
      (record {
        covered = r.covered.1;
        live = r.live;
        inside = λ b c. r.inside b
            (Contains-append_right (g ∷ []) (called_in ops) b c);
        here = r.here;
        stands = s.1;
      }) f
  found told (port_in t port index width ∷ ops) pc l rest r f =
      let s =
      onward told (port_in t port index width) ops pc r.stands in found None ops s.0 l rest
      (record { covered = r.covered.1; live = r.live; inside = r.inside; here = r.here; stands = s.1 }) f
  found told (port_out t port index width ∷ ops) pc l rest r f =
      let s =
      onward told (port_out t port index width) ops pc r.stands in found None ops s.0 l rest
      (record { covered = r.covered.1; live = r.live; inside = r.inside; here = r.here; stands = s.1 }) f
  found told (load_cell t cell ∷ ops) pc l rest r f =
      let s = onward told (load_cell t cell) ops pc r.stands in
      found None ops s.0 l rest (record { covered = r.covered.1; live = r.live; inside = r.inside; here = r.here; stands = s.1 }) f
  found told (store_cell cell t ∷ ops) pc l rest r f =
      let s = onward told (store_cell cell t) ops pc r.stands in
      found None ops s.0 l rest (record { covered = r.covered.1; live = r.live; inside = r.inside; here = r.here; stands = s.1 }) f
  found told (cell_port read t cell offset index width ∷ ops) pc l rest r f =
      let s = onward told (cell_port read t cell offset index width) ops pc r.stands in
      found None ops s.0 l rest (record { covered = r.covered.1; live = r.live; inside = r.inside; here = r.here; stands = s.1 }) f

  -- what is shown from any operation on
  abbrev pub Onward : ℕ → Type 0
  Onward n = (pc : ℕ) (rest : List PlainIr) (m : Mach) (v : View) → Ready pc rest → M (needs at rest) m v
      → G n m.state.work pc v (R n rest m)

  -- to a label
  jumps : (start l n c k pc : ℕ) (m : Mach) (v v1 : View) → Ready start all → e.word_of (link.label_of l) < 65536
      → Goes e k pc v (e.word_of (link.label_of l)) v1 → 1 ≤ k → k ≤ c → M (labels l) m v1 → Onward n
      → G (suc n) m.state.work pc v
      (jump_to (find l all) (λ q u. checked_on functions p y.inputs n q.code q.stack q.rest u) all stack
      (machine m.temps (worked c m.state)))
  jumps start l n c k pc m v v1 ready w goes some most h f = by_label (find l all) refl
    where
      by_label : (o : Option (List PlainIr)) → find l all ≡ o
          → G (suc n) m.state.work pc v
          (jump_to o (λ q u. checked_on functions p y.inputs n q.code q.stack q.rest u) all stack (machine m.temps (worked c m.state)))
      by_label None q = tt
      by_label (Some rest) q =
          let g =
          found None all start l rest
          (record {
            covered = ready.covered;
            live = ready.live;
            inside = ready.inside;
            here = ready.here;
            stands = ready.stands;
          }) q in
          let m1 = machine m.temps (worked c m.state) in
          let z = weaker p e slots home base place y (labels l) (needs at rest) m v1 h g.needed in
          let matches : M (needs at rest) m1 v1 = record {
            temps_hold = z.temps_hold;
            leaves_hold = z.leaves_hold;
            tables_hold = z.tables_hold;
            frames = z.frames;
            kept = z.kept;
            bytes = z.bytes;
            left = z.left;
            seen = z.seen;
            safe = z.safe;
          } in
          after p place e k n (suc n) m.state.work m1.state.work pc (e.word_of (link.label_of l)) v v1 (R n rest m1) goes (omega arith)
          (omega arith) (f (e.word_of (link.label_of l)) rest m1 v1 (g.ready w) matches)

  pub jump_follows : (start l : ℕ) (rest : List PlainIr) (n pc : ℕ) (m : Mach) (v : View) → Ready start all
      → HasAt e (own_items (jump l) rest) pc end → M (labels l) m v → Onward n
      → G (suc n) m.state.work pc v (P n (jump l) rest m)
  jump_follows start l rest n pc m v ready stands h f =
      jumps start l n (op_steps (jump l)) 1 pc m v v ready (jump_has_word e (link.label_of l) pc stands.0 stands.1)
      (jump_goes e (link.label_of l) pc stands.0 v stands.1) (omega arith) (omega arith) h f

  -- the same after an operation that changes neither temporaries nor objects
  again : (need : Need) (m : Mach) (v : View) (c : ℕ) → M need m v → M need (machine m.temps (worked c m.state)) v
  again need m v c z =
      record {
        temps_hold = z.temps_hold;
        leaves_hold = z.leaves_hold;
        tables_hold = z.tables_hold;
        frames = z.frames;
        kept = z.kept;
        bytes = z.bytes;
        left = z.left;
        seen = z.seen;
        safe = z.safe;
      }

  -- ---- branches

  -- where only flags and the work registers R0 and R1 have changed, the same is matched
  kept_matches : (need : Need) (m : Mach) (v w : View) → KeepsAll v w → M need m v → M need m w
  kept_matches need m v w k h =
      record {
        temps_hold = λ u x iu q z. (let some = (y.layout.temps_at u iu).clear in same_content p place v.at w.at (base u) (wanted need u)
            u.bytes x.content (λ j l. k.same (base u + j) (omega arith) (omega arith)) (h.temps_hold u x iu q z));
        leaves_hold = λ l x u q z. (let some = (y.layout.leaves_at l).clear in same_leaf p place v.at w.at (place l.object + l.at)
            l.bytes u (λ j r. k.same (place l.object + l.at + j) (omega arith) (omega arith)) (h.leaves_hold l x u q z));
        tables_hold = h.tables_hold;
        frames = h.frames;
        kept = λ i byte q r. (let u = y.high i q in k.same i (omega arith) (omega arith)) ∙ h.kept i byte q r;
        bytes = λ i u. rw (k.same i (omega arith) (omega arith)) (h.bytes i u);
        left = kept_left y.inputs m.state v w k.inputs h.left;
        seen = k.seen ∙ h.seen;
        safe = k.safe ∙ h.safe;
      }

  -- all is kept by a test of some bytes
  tested : (need : Need) (m : Mach) (v : View) (t : Temp) (size : ℕ) → HasHome slots t → size ≤ t.bytes → M need m v
      → M need m (block e (test_code (home t) size) v)
  tested need m v t size it l h =
      kept_matches need m v (block e (test_code (home t) size) v)
      (tests_keep e (home t) size (base t) v (stand p e slots home base place y t size it l) h.bytes) h

  -- and all that is needed by that of a number of which nothing is
  number_tests : (need : Need) (m : Mach) (v : View) (t : Temp) (size : ℕ) → HasHome slots t → 1 ≤ size → size ≤ t.bytes
      → M need m v → (is_free : Bool) → (wanted need t == 0) ≡ is_free → M need m (block e (number_test is_free (home t) size) v)
  number_tests need m v t size it some l h false q = tested need m v t size it l h
  number_tests need m v t size it some l h true q =
      let v1 = block e (number_test true (home t) size) v in
      let k = (number_tested true e (home t) size (base t) v some (stand p e slots home base place y t size it l) h.bytes).keeps in
      let most = it.some in
      let frame : Frame v v1 (base t) t.bytes =
      wider_frame v v1 (base t) t.bytes 1 most (λ i x z w o. k.same i x z w o) in
      free_changed p e slots home base place y t need m v v1 it (eqb-true (wanted need t) 0 q) h (widened v v1 (base t) t.bytes frame)
      k.bytes (record { inputs = k.inputs; safe = k.safe; seen = k.seen })

  either_left : (a b : Need) (u : ℕ) → a u ≤ either a b u
  either_left a b u = omega arith

  either_right : (a b : Need) (u : ℕ) → b u ≤ either a b u
  either_right a b u = omega arith

  -- how a branch goes on
  abbrev branched : (n l : ℕ) (t : Temp) (rest : List PlainIr) → Mach → Bool → Outcome Value
  branched n l t rest m is_none =
      if is_none then jump_to (find l all) (λ q u. checked_on functions p y.inputs n q.code q.stack q.rest u) all stack
      (machine m.temps (worked (op_steps (branch_zero t l)) m.state))
      else R n rest (machine m.temps (worked (op_steps (branch_zero t l)) m.state))

  -- the number of a pointer is not 0
  not_null : (bytes x : ℕ) (q : ObjectPointer) → x ≡ address_number p place bytes q.object q.offset % 256 ^ bytes
      → IsPointerIn p bytes q → (x == 0) ≡ false
  not_null bytes x q is known =
      let places = objects_have_places p e place y.objects_stand y.tables_stand y.valid in
      let number = address_is p place places bytes q known in
      let below = number_below p place places bytes (Some q) known.size known in
      let low = address_low p place places q known.pointed in
      let whole : x ≡ number_of (place_of p place bytes (Some q)) =
      is ∙ ap (λ k. k % 256 ^ bytes) number ∙ kept_below (number_of (place_of p place bytes (Some q))) (256 ^ bytes) below in
      ne_eqb x 0 (λ z. absurd (omega (arith, whole, low, z)))

  -- operations that are left behind one that computes
  pub record Behind (rest : List PlainIr) : Type 0 where
    pub covered : AreReady p e y.cells results me y.called slots link all rest
    pub live : IsLiveBy at rest
    pub inside : (b : ℕ) → Contains (called_in rest) b → Contains (called_in all) b

  -- what is shown from any operation on, for so many operations that count and for fewer
  abbrev pub Onwards : ℕ → Type 0
  Onwards n = (j : ℕ) → j ≤ n → Onward j

  -- nothing is done
  stays : (n n1 w w1 pc : ℕ) (v : View) (o : Outcome Value) → n1 ≤ n → w ≤ w1 → G n w1 pc v o → G n1 w pc v o
  stays n n1 w w1 pc v o least most f =
      after p place e 0 n n1 w w1 pc pc v v o (record { by = refl }) (omega (arith, least)) (omega (arith, most)) f

  -- ---- a branch over a jump

  -- the operations behind a branch to a label are a jump and this label
  record IsOverJump (l : ℕ) (rest : List PlainIr) : Type 0 where
    k : ℕ
    behind : List PlainIr
    is : rest ≡ jump k ∷ (label l ∷ behind)

  over_jump : (l : ℕ) (rest : List PlainIr) → is_over_jump l (slice_get rest 0) (slice_get rest 1) ≡ true → IsOverJump l rest
  over_jump l (jump k ∷ (label j ∷ behind)) q =
      record { k = k; behind = behind; is = ap (λ x. jump k ∷ (label x ∷ behind)) (eqb-true j l q) }
  over_jump l (jump k ∷ (i ∷ behind)) q = absurd cc
  over_jump l (jump k ∷ []) q = absurd cc
  over_jump l [] q = absurd cc
  over_jump l (i ∷ rest) q = absurd cc

  -- a jump that was told something, where it is made
  told_jump_follows : (start k : ℕ) (rest : List PlainIr) (relation : Relation) (signed : Bool) (n w pc to : ℕ) (m : Mach) (v : View)
      → Ready start all
      → BranchesAt e (not (is_set relation)) (flag_of relation signed) (link.label_of k) pc to
      → flag_at v.flags (flag_of relation signed) ≡ if_bit (not (is_set relation)) → w ≤ m.state.work
      → M (labels k) m v → Onwards n → G n w pc v (R n (jump k ∷ rest) m)
  told_jump_follows start k rest relation signed zero w pc to m v ready branch made most h f =
      stays 0 0 w m.state.work pc v (R 0 (jump k ∷ rest) m) (omega arith) most (stay p place e pc v m.state h.seen h.safe)
  told_jump_follows start k rest relation signed (suc n) w pc to m v ready branch made most h f =
      let set = not (is_set relation) in
      let flag = flag_of relation signed in
      let b = branch_taken e set flag (link.label_of k) pc to v (flag_is relation signed) made branch in
      let least = b.at_least in
      let few = b.at_most in
      stays (suc n) (suc n) w m.state.work pc v (R (suc n) (jump k ∷ rest) m) (omega arith) most
      (checked functions p y.inputs place e n (suc n) m.state.work pc v all stack (jump k) rest m
      (λ held. jumps start k n (op_steps (jump k)) b.steps pc m v v ready (branch_has_word e set flag (link.label_of k) pc to branch) b.goes
      (omega (arith, least)) (omega (arith, few)) h (f n (omega arith))))

  -- behind a branch that told the jump behind it how operands stand where it goes to its label
  turned_follows : (start l : ℕ) (t : Temp) (rest : List PlainIr) (told : Told) (n w pc : ℕ) (m : Mach) (v : View) (none : Bool)
      → Ready start all → Behind rest → GoesBehind all (branch_zero t l) rest → IsOverJump l rest → TellsTruth none told v
      → HasAt e (items_told (Some told) rest) pc end → w + 2 ≤ m.state.work + op_steps (branch_zero t l)
      → M (needs at rest) m v → M (labels l) m v → Onwards n → G n w pc v (branched n l t rest m none)
  turned_follows start l t rest (InZ offset) n w pc m v none ready r go over tells stands most here there f = absurd tells
  turned_follows start l t rest Index n w pc m v none ready r go over tells stands most here there f = absurd tells
  turned_follows start l t rest (Operands relation signed) n w pc m v none ready r go over tells stands most here there f =
      subst
      (λ x. Behind x → GoesBehind all (branch_zero t l) x → HasAt e (items_told (Some (Operands relation signed)) x) pc end
      → M (needs at x) m v
      → G n w pc v (branched n l t x m none)) (sym over.is) at_jump r go stands here
    where
      k : ℕ
      k = over.k

      behind : List PlainIr
      behind = over.behind

      own : List PlainIr
      own = jump k ∷ (label l ∷ behind)

      c : ℕ
      c = op_steps (branch_zero t l)

      m1 : Mach
      m1 = machine m.temps (worked c m.state)

      set : Bool
      set = not (is_set relation)

      flag : ℕ
      flag = flag_of relation signed

      by_truth : Behind own → GoesBehind all (branch_zero t l) own → M (labels k) m v → (to : ℕ)
          → BranchesAt e set flag (link.label_of k) pc to → HasAt e (items behind) to end → (b : Bool) → none ≡ b
          → G n w pc v (branched n l t own m b)
      by_truth r go here to branch to_end true q =
          let b = branch_passed e set flag (link.label_of k) pc to v (flag_is relation signed)
          (tells.holds q ∙ ap if_bit (sym (not_not (is_set relation)))) branch in
          let matches = weaker p e slots home base place y (labels l) (needs at behind) m v there r.live.0 in
          subst
          (λ o. G n w pc v (jump_to o (λ q u. checked_on functions p y.inputs n q.code q.stack q.rest u) all stack m1))
          (sym (go k behind refl))
          (after p place e 1 n n w m1.state.work pc to v v (R n behind m1) b (omega arith) (omega (arith, most))
          (f n (omega arith) to behind m1 v
          (record { covered = r.covered.1.1; live = r.live.1; inside = r.inside; here = ready.here; stands = to_end })
          (again (needs at behind) m v c matches)))
      by_truth r go here to branch to_end false q =
          told_jump_follows start k (label l ∷ behind) relation signed n w pc to m1 v ready branch (tells.fails q) (omega (arith, most))
          (again (labels k) m v c here) f

      at_jump : Behind own → GoesBehind all (branch_zero t l) own
          → HasAt e (items_told (Some (Operands relation signed)) own) pc end → M (labels k) m v
          → G n w pc v (branched n l t own m none)
      at_jump r go stands here =
          let s = at_use_behind [] (Some (Operands relation signed)) (jump k) (label l ∷ behind) pc r.covered.0.1 (λ l none. none) stands in
          let s1 = at_use_behind [] None (label l) behind s.0 r.covered.1.0.1 (λ l none. none) s.2 in
          by_truth r go here s.0 s.1 (subst (λ i. HasAt e (items behind) i end) s1.1.1 s1.2) none refl

  -- ---- a branch

  -- whether nothing is needed of what a branch tests, behind it and at its label
  abbrev is_tested_last : (l : ℕ) (t : Temp) → List PlainIr → Bool
  is_tested_last l t rest = wanted (either (needs at rest) (labels l)) t == 0

  -- a test of so many bytes, which tells a jump behind it or branches, and what comes then
  abbrev branch_items : (l : ℕ) (t : Temp) (size : ℕ) → List PlainIr → (over : Bool) → List AsmItem
  branch_items l t size rest over =
      tested_code None (if over then Some (turned_round None) else None) (is_tested_last l t rest) (home t) size (link.label_of l)
      ++ items_told (if over then Some (turned_round None) else None) rest

  pub branch_follows : (start l : ℕ) (t : Temp) (size : ℕ) (rest : List PlainIr) (n pc : ℕ) (m : Mach) (v : View)
      → Ready start all → Behind (branch_zero t l ∷ rest) → HasHome slots t → AreTested t size m.temps
      → HasAt e (branch_items l t size rest (is_over_jump l (slice_get rest 0) (slice_get rest 1))) pc end
      → M (at_least t.at size (either (needs at rest) (labels l))) m v → Onwards n
      → G (suc n) m.state.work pc v (P n (branch_zero t l) rest m)
  branch_follows start l t size rest n pc m v ready r it by stands h f =
      let need0 = at_least t.at size both in
      let within = by.within in
      let c = op_steps (branch_zero t l) in
      let before : M both m v = weaker p e slots home base place y need0 both m v h (λ u. least_other t.at size u both) in
      let kept = number_tests both m v t size it by.some within before is_free refl in
      let here : M need m v1 = weaker p e slots home base place y both need m v1 kept (either_left need (labels l)) in
      let there : M (labels l) m v1 = weaker p e slots home base place y both (labels l) m v1 kept (either_right need (labels l)) in
      from_held p place e t m.temps (worked c m.state) _ (suc n) m.state.work pc v
      (λ x q w.
      let enough = least_here t.at size both in
      let content = at_width p e slots home base place y need0 m v t x size h it q w (omega (arith, enough, within)) in
      by_content here there (is_over_jump l (slice_get rest 0) (slice_get rest 1)) refl stands x.content
      (q ∙ ap (λ (j : ℕ). Some (record { bytes = j; content = x.content })) w) content)
    where
      need : Need
      need = needs at rest

      both : Need
      both = either need (labels l)

      is_free : Bool
      is_free = is_tested_last l t rest

      test : List AsmItem
      test = number_test is_free (home t) size

      form : IsBriefTest is_free (home t) size
      form = test_form is_free (home t) size

      v1 : View
      v1 = block e test v

      k : ℕ
      k = code_steps test

      few : k ≤ 1 + 2 * t.bytes
      few =
          let most = form.few in
          let within = by.within in
          omega (arith, most, within)

      some : 1 ≤ k
      some = form.some by.some

      behind : Behind rest
      behind = record { covered = r.covered.1; live = r.live; inside = r.inside }

      by_flag : (mid to : ℕ) → Goes e k pc v mid v1 → BranchesAt e true 1 (link.label_of l) mid to → HasAt e (items rest) to end
          → M need m v1 → M (labels l) m v1 → (b : Bool) → v1.flags.z ≡ from_bool b
          → G (suc n) m.state.work pc v (branched n l t rest m b)
      by_flag mid to goes branch to_end here there true set =
          let c = op_steps (branch_zero t l) in
          let b = branch_taken e true 1 (link.label_of l) mid to v1 refl set branch in
          let least = b.at_least in
          let most = b.at_most in
          let all_goes = goes_on_to e k b.steps pc mid (e.word_of (link.label_of l)) v v1 v1 goes b.goes in
          jumps start l n c (k + b.steps) pc m v v1 ready (branch_has_word e true 1 (link.label_of l) mid to branch) all_goes
          (omega (arith, least)) (omega (arith, few, most)) there (f n (omega arith))
      by_flag mid to goes branch to_end here there false clear =
          let c = op_steps (branch_zero t l) in
          let m1 = machine m.temps (worked c m.state) in
          let b = branch_passed e true 1 (link.label_of l) mid to v1 refl clear branch in
          after p place e (k + 1) n (suc n) m.state.work m1.state.work pc to v v1 (R n rest m1)
          (goes_on_to e k 1 pc mid to v v1 v1 goes b) (omega arith) (omega (arith, few))
          (f n (omega arith) to rest m1 v1
          (record { covered = behind.covered; live = behind.live; inside = behind.inside; here = ready.here; stands = to_end })
          (again need m v1 c here))

      by_over : M need m v1 → M (labels l) m v1 → (over : Bool) → is_over_jump l (slice_get rest 0) (slice_get rest 1) ≡ over
          → HasAt e (branch_items l t size rest over) pc end → (b : Bool) → v1.flags.z ≡ from_bool b
          → G (suc n) m.state.work pc v (branched n l t rest m b)
      by_over here there true q stands b z =
          let s = has_parts e test (items_told (Some (turned_round None)) rest) pc end stands in
          let goes = block_goes e test pc s.0 v form.straight s.1 in
          after p place e k n (suc n) m.state.work (m.state.work + k) pc s.0 v v1 (branched n l t rest m b) goes (omega (arith, some))
          (omega arith)
          (turned_follows start l t rest (turned_round None) n (m.state.work + k) s.0 m v1 b ready behind r.covered.0.3 (over_jump l rest q)
          (zero_told b v1 z) s.2 (omega (arith, few)) here there f)
      by_over here there false q stands b z =
          let jumper = BranchTo true 1 (link.label_of l) ∷ [] in
          let s = has_parts e (test ++ jumper) (items rest) pc end stands in
          let s1 = has_parts e test jumper pc s.0 s.1 in
          let to_end : HasAt e (items rest) s1.2.0 end = subst (λ x. HasAt e (items rest) x end) s1.2.2 s.2 in
          let goes = block_goes e test pc s1.0 v form.straight s1.1 in
          by_flag s1.0 s1.2.0 goes s1.2.1 to_end here there b z

      told_by_flag : v1.flags.z ≡ from_bool (value v.at (base t) size == 0)
      told_by_flag =
          (number_tested is_free e (home t) size (base t) v by.some (stand p e slots home base place y t size it by.within) h.bytes).zero_is

      by_content : M need m v1 → M (labels l) m v1 → (over : Bool) → is_over_jump l (slice_get rest 0) (slice_get rest 1) ≡ over
          → HasAt e (branch_items l t size rest over) pc end → (x : Content)
          → m.temps t.at ≡ Some (record { bytes = t.bytes; content = x }) → HoldsContent p place v.at (base t) size t.bytes x
          → G (suc n) m.state.work pc v (branched n l t rest m (is_zero x))
      by_content here there over q stands (points x) holds content =
          let z = value v.at (base t) size in
          let number = subst (λ j. z ≡ address_number p place t.bytes x.object x.offset % 256 ^ j) (by.pointer x holds) content.0 in
          by_over here there over q stands false (told_by_flag ∙ ap from_bool (not_null t.bytes z x number content.1))
      by_content here there over q stands (bits low) holds content =
          let number : value v.at (base t) size ≡ low = content.0 ∙ kept_below low (256 ^ size) (by.number low holds content.1) in
          by_over here there over q stands (low == 0) (told_by_flag ∙ ap (λ x. from_bool (x == 0)) number)

  -- ---- a comparison that only the next operation tests

  abbrev so_told : Relation → Bool → Told
  so_told r s = Operands r s

  -- a truth value is 0 where it is false
  truth_zero : (t : Temp) (truth : Bool) → 1 ≤ t.bytes → not truth ≡ (low_bytes t.bytes (pos (from_bool truth)) == 0)
  truth_zero t truth some = not_zero_bit truth ∙ ap (λ x. x == 0) (sym (truth_low t.bytes some truth))

  -- the branch on a number of which a flag tells whether it is not 0
  told_branch_follows : (start l : ℕ) (t : Temp) (truth : Bool) (low : ℕ) (told : Told) (rest : List PlainIr) (n pc : ℕ) (m : Mach)
      (v : View) → Ready start all → Behind (branch_zero t l ∷ rest) → HasHome slots t
      → m.temps t.at ≡ Some (record { bytes = t.bytes; content = bits low }) → not truth ≡ (low == 0)
      → TellsTruth truth told v → HasAt e (own_told (Some told) (branch_zero t l) rest) pc end
      → M (needs at rest) m v → M (labels l) m v → Onwards n
      → G n m.state.work pc v (P n (branch_zero t l) rest m)
  told_branch_follows start l t truth low (InZ offset) rest n pc m v ready r it holds is_none tells stands here there f = absurd tells
  told_branch_follows start l t truth low Index rest n pc m v ready r it holds is_none tells stands here there f = absurd tells
  told_branch_follows start l t truth low (Operands relation signed) rest n pc m v ready r it holds is_none tells stands here there f =
      from_held p place e t m.temps (worked (op_steps (branch_zero t l)) m.state) _ n m.state.work pc v
      (λ x q w.
      let same : x.content ≡ bits low = content_of_held x _ (sym q ∙ holds) in
      subst (λ c. G n m.state.work pc v (branched n l t rest m (is_zero c))) (sym same)
      (subst (λ b. G n m.state.work pc v (branched n l t rest m b)) is_none
      (by_over (is_over_jump l (slice_get rest 0) (slice_get rest 1)) refl stands)))
    where
      c : ℕ
      c = op_steps (branch_zero t l)

      set : Bool
      set = not (is_set relation)

      flag : ℕ
      flag = flag_of relation signed

      size : ℕ
      size = compared_bytes (at.known (branch_zero t l ∷ rest)) t.bytes

      telling : Bool → Option Told
      telling over = if over then Some (turned_round (Some (Operands relation signed))) else None

      behind : Behind rest
      behind = record { covered = r.covered.1; live = r.live; inside = r.inside }

      by_truth : (to : ℕ) → BranchesAt e set flag (link.label_of l) pc to → HasAt e (items rest) to end → (b : Bool) → truth ≡ b
          → G (suc n) m.state.work pc v (branched n l t rest m (not b))
      by_truth to branch to_end false q =
          let b = branch_taken e set flag (link.label_of l) pc to v (flag_is relation signed) (tells.fails q) branch in
          let least = b.at_least in
          let most = b.at_most in
          jumps start l n c b.steps pc m v v ready (branch_has_word e set flag (link.label_of l) pc to branch) b.goes (omega (arith, least))
          (omega (arith, most)) there (f n (omega arith))
      by_truth to branch to_end true q =
          let m1 = machine m.temps (worked c m.state) in
          let b = branch_passed e set flag (link.label_of l) pc to v (flag_is relation signed)
          (tells.holds q ∙ ap if_bit (sym (not_not (is_set relation)))) branch in
          after p place e 1 n (suc n) m.state.work m1.state.work pc to v v (R n rest m1) b (omega arith) (omega arith)
          (f n (omega arith) to rest m1 v
          (record { covered = behind.covered; live = behind.live; inside = behind.inside; here = ready.here; stands = to_end })
          (again (needs at rest) m v c here))

      by_over : (over : Bool) → is_over_jump l (slice_get rest 0) (slice_get rest 1) ≡ over
          → HasAt e (tested_code (Some (Operands relation signed)) (telling over) (is_tested_last l t rest) (home t) size (link.label_of l)
          ++ items_told (telling over) rest) pc end
          → G n m.state.work pc v (branched n l t rest m (not truth))
      by_over true q stands =
          turned_follows start l t rest (turned_round (Some (Operands relation signed))) n m.state.work pc m v (not truth) ready behind
          r.covered.0.3 (over_jump l rest q) (turned_told truth (Operands relation signed) v tells) stands (omega arith) here there f
      by_over false q stands =
          stays (suc n) n m.state.work m.state.work pc v (branched n l t rest m (not truth)) (omega arith) (omega arith)
          (by_truth stands.0 stands.1 stands.2 truth refl)

  -- the comparison of two temporaries, and the branch behind it
  told_passes : (start l : ℕ) (r : Relation) (s : Bool) (t x1 x2 : Temp) (bytes x z c : ℕ) (rest : List PlainIr) (n pc : ℕ)
      (need0 : Need) (m : Mach) (v : View) → Ready start all → Behind (branch_zero t l ∷ rest) → HasHome slots t → HasHome slots x1
      → HasHome slots x2 → suc bytes ≤ x1.bytes → suc bytes ≤ x2.bytes → suc bytes ≤ 16
      → value v.at (base x1) (suc bytes) ≡ x → value v.at (base x2) (suc bytes) ≡ z → 102 ≤ c
      → wanted (either (needs at rest) (labels l)) t ≡ 0
      → HasAt e (compare_code (home x2) (home x1) (suc bytes) ++ own_told (Some (so_told r s)) (branch_zero t l) rest) pc end
      → ((k : ℕ) → k ≢ t.at → either (needs at rest) (labels l) k ≤ need0 k) → M need0 m v → Onwards n
      → G (suc n) m.state.work pc v (R (suc n) (branch_zero t l ∷ rest) (told_machine t (stand_so r s (suc bytes) x z) c m))
  told_passes start l r s t x1 x2 bytes x z c rest n pc need0 m v ready behind it i1 i2 q1 q2
      most xl zu big none stands more h f =
      let both = either (needs at rest) (labels l) in
      let truth = stand_so r s (suc bytes) x z in
      let compared = compare_code (home x2) (home x1) (suc bytes) in
      let v1 = block e compared v in
      let m1 = told_machine t truth c m in
      let s1 = has_parts e compared (own_told (Some (so_told r s)) (branch_zero t l) rest) pc end stands in
      let sa : StandsFrom e (home x1) (suc bytes) (base x1) Own = stand p e slots home base place y x1 (suc bytes) i1 q1 in
      let sb : StandsFrom e (home x2) (suc bytes) (base x2) Own = stand p e slots home base place y x2 (suc bytes) i2 q2 in
      let kept : KeepsAll v v1 = comparisons_keep e (home x2) (home x1) (suc bytes) (base x2) (base x1) v sb sa h.bytes in
      let matches : M both m1 v1 =
      kept_matches both m1 v v1 kept
      (not_needed t (low_bytes t.bytes (pos (from_bool truth))) c both need0 m v it none
      (low_below t.bytes (pos (from_bool truth))) more h) in
      let here : M (needs at rest) m1 v1 =
      weaker p e slots home base place y both (needs at rest) m1 v1 matches (either_left (needs at rest) (labels l)) in
      let there : M (labels l) m1 v1 = weaker p e slots home base place y both (labels l) m1 v1 matches
      (either_right (needs at rest) (labels l)) in
      let straight = (pieces_are_straight Sum (home x2) (home x1) (suc bytes)).2 in
      let take = (pieces_take Sum (home x2) (home x1) (suc bytes)).2.1 in
      let some = (pieces_take Sum (home x2) (home x1) (suc bytes)).2.0 in
      let told : stand_so r s (suc bytes) (value v.at (base x1) (suc bytes)) (value v.at (base x2) (suc bytes)) ≡ truth =
      rw (xl, zu) refl in
      let goes = block_goes e compared pc s1.0 v straight s1.1 in
      after p place e (code_steps compared) n (suc n) m.state.work m1.state.work pc s1.0 v v1
      (R (suc n) (branch_zero t l ∷ rest) m1) goes (omega (arith, some)) (omega (arith, take, most, big))
      (checked functions p y.inputs place e n n m1.state.work s1.0 v1 all stack (branch_zero t l) rest m1
      (λ held. told_branch_follows start l t truth _ (so_told r s) rest n s1.0 m1 v1 ready behind it (held_at t _ m.temps)
      (truth_zero t truth it.some)
      (record {
        holds = λ q. holds_in_flag r s e (home x1) (home x2) bytes (base x1) (base x2) v sa sb h.bytes (told ∙ q) ∙ bit_is (is_set r);
        fails = λ q. fails_in_flag r s e (home x1) (home x2) bytes (base x1) (base x2) v sa sb h.bytes (told ∙ q)
            ∙ bit_is (not (is_set r));
      }) s1.2 here there f))

  -- what is outside of a temporary is outside of a free one at its place
  free_outside : (t x1 : Temp) → HasHome slots t → HasHome slots x1 → (k : ℕ) → Outside (base t) t.bytes k
      → Outside (base x1) (changed_bytes (same_location (home x1) (home t))) k
  free_outside t x1 it i1 k o = by_test (same_location (home x1) (home t)) refl
    where
      first : (u : Temp) → HasHome slots u → address_at e (home u) 0 ≡ base u + 0
      first u iu = (stand p e slots home base place y u 1 iu iu.some).at 0 (omega arith)

      by_test : (b : Bool) → same_location (home x1) (home t) ≡ b → Outside (base x1) (changed_bytes b) k
      by_test false w l = omega arith
      by_test true w l =
          let same = location_is (home x1) (home t) w in
          let there = sym (first x1 i1) ∙ ap (λ x. address_at e x 0) same ∙ first t it in
          let some = it.some in
          let z = o (omega (arith, l, there)) in
          omega (arith, l, there, z, some)

  -- the same with a number
  told_number_passes : (start l : ℕ) (own : Bound) (truth : Bool) (t x1 : Temp) (bytes c : ℕ) (rest : List PlainIr)
      (n pc : ℕ) (need0 : Need) (m : Mach) (v : View) → Ready start all → Behind (branch_zero t l ∷ rest) → HasHome slots t
      → HasHome slots x1 → suc bytes ≤ x1.bytes → 102 ≤ c
      → stands_to own (suc bytes) (value v.at (base x1) (suc bytes)) ≡ truth
      → wanted (either (needs at rest) (labels l)) t ≡ 0
      → HasAt e (bounded_code (same_location (home x1) (home t)) own (home x1) (suc bytes)
      ++ own_told (Some (so_told own.relation own.signed)) (branch_zero t l) rest) pc end
      → ((k : ℕ) → k ≢ t.at → either (needs at rest) (labels l) k ≤ need0 k) → M need0 m v → Onwards n
      → G (suc n) m.state.work pc v (R (suc n) (branch_zero t l ∷ rest) (told_machine t truth c m))
  told_number_passes start l own truth t x1 bytes c rest n pc need0 m v ready behind it i1 q1 big is none stands more h f =
      let both = either (needs at rest) (labels l) in
      let low = low_bytes t.bytes (pos (from_bool truth)) in
      let is_free = same_location (home x1) (home t) in
      let code = bounded_code is_free own (home x1) (suc bytes) in
      let v1 = block e code v in
      let m1 = told_machine t truth c m in
      let s1 = has_parts e code (own_told (Some (so_told own.relation own.signed)) (branch_zero t l) rest) pc end stands in
      let k = temp_relates p e slots home base place y is_free own x1 bytes v i1 q1 h.bytes in
      let empty : value v1.at (base t) 0 ≡ low % 256 ^ 0 = omega arith in
      let matches : M both m1 v1 =
      written p e slots home base place y t (bits low) both need0 m (worked c m.state) v v1 it h more
      (λ i d g j o. k.keeps.same i d g j (free_outside t x1 it i1 i o))
      (subst (λ j. value v1.at (base t) j ≡ low % 256 ^ j) (sym none) empty, low_below t.bytes (pos (from_bool truth)))
      k.keeps.bytes refl (k.keeps.seen ∙ h.seen) (kept_left y.inputs m.state v v1 k.keeps.inputs h.left) (k.keeps.safe ∙ h.safe) in
      let here : M (needs at rest) m1 v1 =
      weaker p e slots home base place y both (needs at rest) m1 v1 matches (either_left (needs at rest) (labels l)) in
      let there : M (labels l) m1 v1 =
      weaker p e slots home base place y both (labels l) m1 v1 matches (either_right (needs at rest) (labels l)) in
      let form = bounded_form p e slots home base place y is_free own (home x1) bytes in
      let few = form.few in
      let some = form.some in
      let eight = i1.most in
      let goes = block_goes e code pc s1.0 v form.straight s1.1 in
      after p place e (code_steps code) n (suc n) m.state.work m1.state.work pc s1.0 v v1
      (R (suc n) (branch_zero t l ∷ rest) m1) goes (omega (arith, some)) (omega (arith, few, eight, q1, big))
      (checked functions p y.inputs place e n n m1.state.work s1.0 v1 all stack (branch_zero t l) rest m1
      (λ held. told_branch_follows start l t truth _ (so_told own.relation own.signed) rest n s1.0 m1 v1 ready behind it
      (held_at t _ m.temps) (truth_zero t truth it.some)
      (flag_tells own.relation own.signed truth v1 (k.flag ∙ ap (λ (x : Bool). from_bool (flag_bit own.relation x)) is)) s1.2 here there f))

  pub told_follows : (start l : ℕ) (op : BinOp) (r : Relation) (exchanged : Bool) → family_of op ≡ Compared r exchanged
      → (s : Bool) (ty : PlainType) (mode : Mode) (t a b : Temp) (rest : List PlainIr) (n pc : ℕ) (m : Mach) (v : View)
      → Ready start all → Behind (branch_zero t l ∷ rest) → HasHome slots t → HasHome slots a
      → HasHome slots b → b.bytes ≡ a.bytes → wanted (either (needs at rest) (labels l)) t ≡ 0
      → HasAt e (flag_code (Compared r exchanged) (home a) (home b) a.bytes ++ own_told (Some (so_told r s)) (branch_zero t l) rest) pc end
      → M (plain_needs (binary_op op ty mode t a (integer s a.bytes) b (integer s b.bytes)) (branch_zero t l ∷ rest)) m v
      → Onwards n
      → G (suc n) m.state.work pc v
      (P n (binary_op op ty mode t a (integer s a.bytes) b (integer s b.bytes)) (branch_zero t l ∷ rest) m)
  told_follows start l op r exchanged is s ty mode t a b rest n pc m v ready behind it ia ib same none stands h f =
      compared_numbers op r exchanged is s ty mode t a b (branch_zero t l ∷ rest) n pc
      (plain_needs (binary_op op ty mode t a (integer s a.bytes) b (integer s b.bytes)) (branch_zero t l ∷ rest)) m v ia ib same h
      (λ low1 low2 qa qb below1 below2.
      let hold =
      compared_hold op r exchanged is s ty mode t a b
      (branch_zero t l ∷ rest) m v low1 low2 ia ib same tested_needed qa qb below1 below2 h in
      let some = ia.some in
      by_side low1 low2 hold.0 hold.1 hold.2 exchanged (a.bytes - 1) (omega arith) stands)
    where
      both : Need
      both = either (needs at rest) (labels l)

      size : ℕ
      size = compared_bytes (at.known (branch_zero t l ∷ rest)) t.bytes

      tested_needed : (wanted (needs at (branch_zero t l ∷ rest)) t == 0) ≡ false
      tested_needed =
          let here = least_here t.at size (either (needs at rest) (labels l)) in
          let some = it.some in
          let tests = compared_some (at.known (branch_zero t l ∷ rest)) t.bytes it.some in
          ne_eqb (wanted (needs at (branch_zero t l ∷ rest)) t) 0 (λ q. absurd (omega (arith, here, some, tests, q)))

      more : (k : ℕ) → k ≢ t.at
          → either (needs at rest) (labels l) k ≤ operands_needed op t a b a.bytes b.bytes (needs at (branch_zero t l ∷ rest)) k
      more k d =
          let x = other_needed op t a b a.bytes b.bytes (needs at (branch_zero t l ∷ rest)) k d in
          let z = least_other t.at size k (either (needs at rest) (labels l)) in
          omega (arith, x, z)

      by_side : (low1 low2 : ℕ) → M (operands_needed op t a b a.bytes b.bytes (needs at (branch_zero t l ∷ rest))) m v
          → value v.at (base a) a.bytes ≡ low1 → value v.at (base b) a.bytes ≡ low2 → (x : Bool) (bytes : ℕ)
          → a.bytes ≡ suc bytes
          → HasAt e (flag_code (Compared r x) (home a) (home b) a.bytes ++ own_told (Some (so_told r s)) (branch_zero t l) rest) pc end
          → G (suc n) m.state.work pc v
          (R (suc n) (branch_zero t l ∷ rest)
          (told_machine t (stand_so r s a.bytes (first_of_two x low1 low2) (first_of_two x low2 low1))
          (op_steps (binary_op op ty mode t a (integer s a.bytes) b (integer s b.bytes))) m))
      by_side low1 low2 needed left_is right_is false bytes size stand =
          let most = ia.most in
          let la = subst (λ j. value v.at (base a) j ≡ low1) size left_is in
          let lb = subst (λ j. value v.at (base b) j ≡ low2) size right_is in
          subst
          (λ j. G (suc n) m.state.work pc v
          (R (suc n) (branch_zero t l ∷ rest)
          (told_machine t (stand_so r s j low1 low2) (op_steps (binary_op op ty mode t a (integer s a.bytes) b (integer s b.bytes))) m)))
          (sym size)
          (told_passes start l r s t a b bytes low1 low2
          (op_steps (binary_op op ty mode t a (integer s a.bytes) b (integer s b.bytes))) rest n pc
          (operands_needed op t a b a.bytes b.bytes (needs at (branch_zero t l ∷ rest))) m v ready behind it ia ib (omega (arith, size))
          (omega (arith, same, size)) (omega arith) la lb (relation_big op ty (integer s a.bytes) (integer s b.bytes)) none
          (subst
          (λ j. HasAt e
          (compare_code (home b) (home a) j ++ own_told (Some (so_told r s)) (branch_zero t l) rest) pc end) size stand) more needed f)
      by_side low1 low2 needed left_is right_is true bytes size stand =
          let most = ia.most in
          let la = subst (λ j. value v.at (base a) j ≡ low1) size left_is in
          let lb = subst (λ j. value v.at (base b) j ≡ low2) size right_is in
          subst
          (λ j. G (suc n) m.state.work pc v
          (R (suc n) (branch_zero t l ∷ rest)
          (told_machine t (stand_so r s j low2 low1) (op_steps (binary_op op ty mode t a (integer s a.bytes) b (integer s b.bytes))) m)))
          (sym size)
          (told_passes start l r s t b a bytes low2 low1
          (op_steps (binary_op op ty mode t a (integer s a.bytes) b (integer s b.bytes))) rest n pc
          (operands_needed op t a b a.bytes b.bytes (needs at (branch_zero t l ∷ rest))) m v ready behind it ib ia
          (omega (arith, same, size)) (omega (arith, size)) (omega arith) lb la
          (relation_big op ty (integer s a.bytes) (integer s b.bytes)) none
          (subst
          (λ j. HasAt e
          (compare_code (home a) (home b) j ++ own_told (Some (so_told r s)) (branch_zero t l) rest) pc end) size stand) more needed f)

  -- the comparison of two pointers, of which the bytes are compared that the relation asks for
  pointers_pass : (start l : ℕ) (r : Relation) (t x1 x2 : Temp) (bytes c : ℕ) (X Z : Place) (rest : List PlainIr) (n pc : ℕ)
      (need0 : Need) (m : Mach) (v : View) → Ready start all → Behind (branch_zero t l ∷ rest) → HasHome slots t → HasHome slots x1
      → HasHome slots x2 → x1.bytes ≡ bytes → x2.bytes ≡ bytes → IsPointerSize bytes → ArePlaces link.core r X Z
      → value v.at (base x1) bytes ≡ number_of X → value v.at (base x2) bytes ≡ number_of Z → 102 ≤ c
      → wanted (either (needs at rest) (labels l)) t ≡ 0
      → HasAt e (compare_code (home x2) (home x1) (related_bytes link.core r bytes)
      ++ own_told (Some (so_told r false)) (branch_zero t l) rest) pc end
      → ((k : ℕ) → k ≢ t.at → either (needs at rest) (labels l) k ≤ need0 k) → M need0 m v → Onwards n
      → G (suc n) m.state.work pc v (R (suc n) (branch_zero t l ∷ rest) (told_machine t (places_stand r X Z) c m))
  pointers_pass start l r t x1 x2 bytes c X Z rest n pc need0 m v ready behind it i1 i2 q1 q2 size places xl zu big none stands more h f =
      by_size (related_bytes link.core r bytes - 1) (let some = within.0 in omega (arith, some))
    where
      two : 2 ≤ bytes
      two = ⊎_elim (λ (q : bytes ≡ 2). omega arith) (λ (q : bytes ≡ 3). omega arith) size

      within : (1 ≤ related_bytes link.core r bytes) × (related_bytes link.core r bytes ≤ bytes)
      within = related_within link.core r bytes two

      held : (x : Temp) → HasHome slots x → (j : ℕ) → j < bytes → v.at (base x + j) < 256
      held x ix j l = let clear = (y.layout.temps_at x ix).clear in h.bytes (base x + j) (omega (arith, clear))

      stand_as : stand_so r false (related_bytes link.core r bytes) (value v.at (base x1) (related_bytes link.core r bytes))
          (value v.at (base x2) (related_bytes link.core r bytes)) ≡ places_stand r X Z
      stand_as =
          bytes_stand y.pointers bytes (base x1) (base x2) v.at X Z two (held x1 i1) (held x2 i2) xl zu link.core r places

      by_size : (j : ℕ) → related_bytes link.core r bytes ≡ suc j
          → G (suc n) m.state.work pc v (R (suc n) (branch_zero t l ∷ rest) (told_machine t (places_stand r X Z) c m))
      by_size j is =
          let most = within.1 in
          let eight = i1.most in
          subst (λ (x : Bool). G (suc n) m.state.work pc v (R (suc n) (branch_zero t l ∷ rest) (told_machine t x c m)))
          (subst (λ i. stand_so r false i (value v.at (base x1) i) (value v.at (base x2) i) ≡ places_stand r X Z) is stand_as)
          (told_passes start l r false t x1 x2 j (value v.at (base x1) (suc j)) (value v.at (base x2) (suc j)) c rest n pc need0 m v
          ready behind it i1 i2 (omega (arith, most, is, q1)) (omega (arith, most, is, q2)) (omega (arith, most, is, q1, eight))
          refl refl big none
          (subst (λ i. HasAt e (compare_code (home x2) (home x1) i ++ own_told (Some (so_told r false)) (branch_zero t l) rest) pc end)
          is stands) more h f)

  -- what is shown of two pointers whose comparison is told so
  abbrev TellsPointers : (start l : ℕ) → BinOp → PlainType → Mode → (t a : Temp) → SpaceId → Bool → PlainType → Temp → SpaceId → Bool
      → PlainType → List PlainIr → (n pc : ℕ) → Mach → View → Relation → (exchanged : Bool) → Type 0
  TellsPointers start l op ty mode t a space const to b space2 const2 to2 rest n pc m v r exchanged =
      Ready start all → Behind (branch_zero t l ∷ rest) → HasHome slots t → space ≡ space2
      → IsPointerBinary p slots op t a b ty (pointer space const to) (pointer space2 const2 to2)
      → wanted (either (needs at rest) (labels l)) t ≡ 0
      → HasAt e (pointers_code (Some (so_told r false)) link.core (Compared r exchanged) (home a) (home b) (home t) a.bytes
      (element_size p (pointer space const to)) (wanted (needs at (branch_zero t l ∷ rest)) t)
      ++ own_told (Some (so_told r false)) (branch_zero t l) rest) pc end
      → M (plain_needs (binary_op op ty mode t a (pointer space const to) b (pointer space2 const2 to2)) (branch_zero t l ∷ rest)) m v
      → link.core ≡ e.core → Onwards n
      → G (suc n) m.state.work pc v
      (P n (binary_op op ty mode t a (pointer space const to) b (pointer space2 const2 to2)) (branch_zero t l ∷ rest) m)

  pointers_told : (start l : ℕ) (op : BinOp) (r : Relation) (exchanged : Bool) → family_of op ≡ Compared r exchanged
      → is_comparison op ≡ true
      → ((X Z : Place) → places_compare op X Z ≡ places_stand r (first_of exchanged X Z) (first_of exchanged Z X))
      → ((X Z : Place) → MayCompare op X Z → MayRelate r (first_of exchanged X Z) (first_of exchanged Z X))
      → (ty : PlainType) (mode : Mode) (t a : Temp) (space : SpaceId) (const : Bool) (to : PlainType) (b : Temp)
      (space2 : SpaceId) (const2 : Bool) (to2 : PlainType) (rest : List PlainIr) (n pc : ℕ) (m : Mach) (v : View)
      → TellsPointers start l op ty mode t a space const to b space2 const2 to2 rest n pc m v r exchanged
  pointers_told start l op r exchanged is compares relates banks ty mode t a space const to b space2 const2 to2 rest n pc m v
      ready behind it one_space k none stands h one_core f =
      comparison_decided p functions e slots home base place y labels all end results me link stack op r exchanged is compares relates
      banks ty mode t a space const to b space2 const2 to2 (branch_zero t l ∷ rest) n pc need0 m v one_space k h one_core
      (λ X Z places left right. by_side X Z exchanged places (left first_there) (right second_there) stands)
    where
      i : PlainIr
      i = binary_op op ty mode t a (pointer space const to) b (pointer space2 const2 to2)

      need : Need
      need = needs at (branch_zero t l ∷ rest)

      w : ℕ
      w = wanted need t

      need0 : Need
      need0 = plain_needs i (branch_zero t l ∷ rest)

      same : b.bytes ≡ a.bytes
      same = k.right_bytes ∙ ap width (sym one_space) ∙ sym k.left_bytes

      size_a : IsPointerSize a.bytes
      size_a = pointer_size a.bytes space k.left_bytes

      tested_bytes : ℕ
      tested_bytes = compared_bytes (at.known (branch_zero t l ∷ rest)) t.bytes

      tested_needed : (w == 0) ≡ false
      tested_needed =
          let here = least_here t.at tested_bytes (either (needs at rest) (labels l)) in
          let some = it.some in
          let tests = compared_some (at.known (branch_zero t l ∷ rest)) t.bytes it.some in
          ne_eqb w 0 (λ q. absurd (omega (arith, here, some, tests, q)))

      inner : Need
      inner = at_least b.at (all_or_none b.bytes w) (without t.at need)

      first_there : a.bytes ≤ wanted need0 a
      first_there =
          let whole = all_when a.bytes w tested_needed in
          let here = least_here a.at (all_or_none a.bytes w) inner in
          omega (arith, whole, here)

      second_there : b.bytes ≤ wanted need0 b
      second_there =
          let whole = all_when b.bytes w tested_needed in
          let here = least_here b.at (all_or_none b.bytes w) (without t.at need) in
          let also = least_other a.at (all_or_none a.bytes w) b.at inner in
          omega (arith, whole, here, also)

      more : (u : ℕ) → u ≢ t.at → either (needs at rest) (labels l) u ≤ need0 u
      more u d =
          let x = other_needed op t a b (all_or_none a.bytes w) (all_or_none b.bytes w) need u d in
          let z = least_other t.at tested_bytes u (either (needs at rest) (labels l)) in
          omega (arith, x, z)

      by_side : (X Z : Place) (d : Bool) → ArePlaces link.core r (first_of d X Z) (first_of d Z X)
          → value v.at (base a) a.bytes ≡ number_of X → value v.at (base b) a.bytes ≡ number_of Z
          → HasAt e (pointers_code (Some (so_told r false)) link.core (Compared r d) (home a) (home b) (home t) a.bytes
          (element_size p (pointer space const to)) w ++ own_told (Some (so_told r false)) (branch_zero t l) rest) pc end
          → G (suc n) m.state.work pc v (R (suc n) (branch_zero t l ∷ rest)
          (told_machine t (places_stand r (first_of d X Z) (first_of d Z X)) (op_steps i) m))
      by_side X Z false places left right there =
          pointers_pass start l r t a b a.bytes (op_steps i) X Z rest n pc need0 m v ready behind it k.left k.right refl same size_a
          places left right (relation_big op ty (pointer space const to) (pointer space2 const2 to2)) none
          (subst (λ (x : Bool). HasAt e ((if x then [] else compare_code (home b) (home a) (related_bytes link.core r a.bytes))
          ++ own_told (Some (so_told r false)) (branch_zero t l) rest) pc end) tested_needed there) more h f
      by_side X Z true places left right there =
          pointers_pass start l r t b a a.bytes (op_steps i) Z X rest n pc need0 m v ready behind it k.right k.left same refl size_a
          places right left (relation_big op ty (pointer space const to) (pointer space2 const2 to2)) none
          (subst (λ (x : Bool). HasAt e ((if x then [] else compare_code (home a) (home b) (related_bytes link.core r a.bytes))
          ++ own_told (Some (so_told r false)) (branch_zero t l) rest) pc end) tested_needed there) more h f

  -- by the operator
  two_told : (start l : ℕ) (op : BinOp) (ty : PlainType) (mode : Mode) (t a : Temp) (space : SpaceId) (const : Bool) (to : PlainType)
      (b : Temp) (space2 : SpaceId) (const2 : Bool) (to2 : PlainType) (rest : List PlainIr) (n pc : ℕ) (m : Mach) (v : View) (told : Told)
      → told_of (family_of op) false ≡ Some told → Ready start all → Behind (branch_zero t l ∷ rest) → HasHome slots t
      → IsPointerBinary p slots op t a b ty (pointer space const to) (pointer space2 const2 to2)
      → wanted (either (needs at rest) (labels l)) t ≡ 0
      → HasAt e (pointers_code (Some told) link.core (family_of op) (home a) (home b) (home t) a.bytes
      (element_size p (pointer space const to)) (wanted (needs at (branch_zero t l ∷ rest)) t)
      ++ own_told (Some told) (branch_zero t l) rest) pc end
      → M (plain_needs (binary_op op ty mode t a (pointer space const to) b (pointer space2 const2 to2)) (branch_zero t l ∷ rest)) m v
      → link.core ≡ e.core → Onwards n
      → G (suc n) m.state.work pc v
      (P n (binary_op op ty mode t a (pointer space const to) b (pointer space2 const2 to2)) (branch_zero t l ∷ rest) m)
  two_told start l op ty mode t a space const to b space2 const2 to2 rest n pc m v told q ready behind it k none stands h one_core f =
      by_op op q k stands h
    where
      w : ℕ
      w = wanted (needs at (branch_zero t l ∷ rest)) t

      shown : (o : BinOp) (r : Relation) (exchanged : Bool) → told_of (Compared r exchanged) false ≡ Some told
          → IsPointerBinary p slots o t a b ty (pointer space const to) (pointer space2 const2 to2) → space ≡ space2
          → HasAt e (pointers_code (Some told) link.core (Compared r exchanged) (home a) (home b) (home t) a.bytes
          (element_size p (pointer space const to)) w ++ own_told (Some told) (branch_zero t l) rest) pc end
          → M (plain_needs (binary_op o ty mode t a (pointer space const to) b (pointer space2 const2 to2)) (branch_zero t l ∷ rest)) m v
          → TellsPointers start l o ty mode t a space const to b space2 const2 to2 rest n pc m v r exchanged
          → G (suc n) m.state.work pc v
          (P n (binary_op o ty mode t a (pointer space const to) b (pointer space2 const2 to2)) (branch_zero t l ∷ rest) m)
      shown o r exchanged q k one stands h tells =
          let same : told ≡ so_told r false = cc in
          tells ready behind it one k none
          (subst (λ (x : Told). HasAt e (pointers_code (Some x) link.core (Compared r exchanged) (home a) (home b) (home t) a.bytes
          (element_size p (pointer space const to)) w ++ own_told (Some x) (branch_zero t l) rest) pc end) same stands) h one_core f

      by_op : (o : BinOp) → told_of (family_of o) false ≡ Some told
          → IsPointerBinary p slots o t a b ty (pointer space const to) (pointer space2 const2 to2)
          → HasAt e (pointers_code (Some told) link.core (family_of o) (home a) (home b) (home t) a.bytes
          (element_size p (pointer space const to)) w ++ own_told (Some told) (branch_zero t l) rest) pc end
          → M (plain_needs (binary_op o ty mode t a (pointer space const to) b (pointer space2 const2 to2)) (branch_zero t l ∷ rest)) m v
          → G (suc n) m.state.work pc v
          (P n (binary_op o ty mode t a (pointer space const to) b (pointer space2 const2 to2)) (branch_zero t l ∷ rest) m)
      by_op Lt q k stands h =
          shown Lt Less false q k k.types.0 stands h (pointers_told start l Lt Less false refl refl (λ X Z. refl) (λ X Z c. c) ty mode t a
          space const to b space2 const2 to2 rest n pc m v)
      by_op Gt q k stands h =
          shown Gt Less true q k k.types.0 stands h (pointers_told start l Gt Less true refl refl (λ X Z. refl) (λ X Z c. c) ty mode t a
          space const to b space2 const2 to2 rest n pc m v)
      by_op Le q k stands h =
          shown Le NotLess true q k k.types.0 stands h (pointers_told start l Le NotLess true refl refl (λ X Z. refl) (λ X Z c. c) ty mode
          t a space const to b space2 const2 to2 rest n pc m v)
      by_op Ge q k stands h =
          shown Ge NotLess false q k k.types.0 stands h (pointers_told start l Ge NotLess false refl refl (λ X Z. refl) (λ X Z c. c) ty mode
          t a space const to b space2 const2 to2 rest n pc m v)
      by_op Eq q k stands h =
          shown Eq Equal false q k k.types.0 stands h (pointers_told start l Eq Equal false refl refl (λ X Z. refl) (λ X Z c. c) ty mode t a
          space const to b space2 const2 to2 rest n pc m v)
      by_op Ne q k stands h =
          shown Ne NotEqual false q k k.types.0 stands h (pointers_told start l Ne NotEqual false refl refl (λ X Z. refl) (λ X Z c. c) ty
          mode t a space const to b space2 const2 to2 rest n pc m v)
      by_op o q k stands h = absurd cc

  -- the same with a known number
  told_number_follows : (start l : ℕ) (op : BinOp) (r : Relation) (exchanged : Bool) → family_of op ≡ Compared r exchanged
      → (s : Bool) (own : Bound) (size : ℕ) (ty : PlainType) (mode : Mode) (t a b : Temp) (rest : List PlainIr)
      (n pc : ℕ) (m : Mach) (v : View) → Ready start all → Behind (branch_zero t l ∷ rest) → HasHome slots t → HasHome slots a
      → HasHome slots b → b.bytes ≡ a.bytes → AreComparedBy a b r exchanged s own size m
      → wanted (either (needs at rest) (labels l)) t ≡ 0
      → HasAt e (bounded_code (same_location (home a) (home t)) own (home a) size
      ++ own_told (Some (so_told own.relation own.signed)) (branch_zero t l) rest) pc end
      → M (at_least a.at (operand_wanted op size (wanted (needs at (branch_zero t l ∷ rest)) t))
      (without t.at (needs at (branch_zero t l ∷ rest)))) m v
      → Onwards n
      → G (suc n) m.state.work pc v
      (P n (binary_op op ty mode t a (integer s a.bytes) b (integer s b.bytes)) (branch_zero t l ∷ rest) m)
  told_number_follows start l op r exchanged is s own size ty mode t a b rest n pc m v ready behind it ia ib same by none stands h f =
      compared_numbers op r exchanged is s ty mode t a b (branch_zero t l ∷ rest) n pc
      (at_least a.at (operand_wanted op size (wanted need t)) (without t.at need)) m v ia ib same h
      (λ low1 low2 qa qb below1 below2. let some = by.some in by_size low1 low2 qa qb below1 (size - 1) (omega arith))
    where
      need : Need
      need = needs at (branch_zero t l ∷ rest)

      c : ℕ
      c = op_steps (binary_op op ty mode t a (integer s a.bytes) b (integer s b.bytes))

      need0 : Need
      need0 = at_least a.at size (without t.at need)

      tested_bytes : ℕ
      tested_bytes = compared_bytes (at.known (branch_zero t l ∷ rest)) t.bytes

      tested_needed : (wanted need t == 0) ≡ false
      tested_needed =
          let here = least_here t.at tested_bytes (either (needs at rest) (labels l)) in
          let some = it.some in
          let tests = compared_some (at.known (branch_zero t l ∷ rest)) t.bytes it.some in
          ne_eqb (wanted need t) 0 (λ q. absurd (omega (arith, here, some, tests, q)))

      all_needed : M need0 m v
      all_needed = subst (λ x. M (at_least a.at x (without t.at need)) m v) (all_wanted op r exchanged is size
          (wanted need t) tested_needed) h

      more : (u : ℕ) → u ≢ t.at → either (needs at rest) (labels l) u ≤ need0 u
      more u d =
          let x = without_other t.at u need d in
          let w = least_other a.at size u (without t.at need) in
          let z = least_other t.at tested_bytes u (either (needs at rest) (labels l)) in
          omega (arith, x, w, z)

      truth_of : (low1 low2 : ℕ) → Bool
      truth_of low1 low2 = stand_so r s a.bytes (first_of_two exchanged low1 low2) (first_of_two exchanged low2 low1)

      by_size : (low1 low2 : ℕ) → m.temps a.at ≡ Some (record { bytes = a.bytes; content = bits low1 })
          → m.temps b.at ≡ Some (record { bytes = b.bytes; content = bits low2 }) → low1 < 256 ^ a.bytes → (bytes : ℕ)
          → size ≡ suc bytes
          → G (suc n) m.state.work pc v (R (suc n) (branch_zero t l ∷ rest) (told_machine t (truth_of low1 low2) c m))
      by_size low1 low2 qa qb below1 bytes is_size =
          let here = least_here a.at size (without t.at need) in
          let within = by.within in
          let left : value v.at (base a) size ≡ low1 =
          (at_width p e slots home base place y need0 m v a _ size all_needed ia qa refl (omega (arith, here, within))).0
          ∙ kept_below low1 (256 ^ size) (by.left low1 qa below1) in
          let truth : stands_to own (suc bytes) (value v.at (base a) (suc bytes)) ≡ truth_of low1 low2 =
          subst (λ j. stands_to own j (value v.at (base a) j) ≡ truth_of low1 low2) is_size
          (ap (stands_to own size) left ∙ sym (by.same low1 low2 qa qb below1)) in
          told_number_passes start l own (truth_of low1 low2) t a bytes c rest n pc need0 m v ready behind it ia
          (omega (arith, is_size, within)) (relation_big op ty (integer s a.bytes) (integer s b.bytes)) truth none
          (subst (λ j. HasAt e (bounded_code (same_location (home a) (home t)) own (home a) j
          ++ own_told (Some (so_told own.relation own.signed)) (branch_zero t l) rest) pc end) is_size stands) more all_needed f

  -- AND of a byte and a number, and the branch behind it
  masked_passes : (start l : ℕ) (t x1 : Temp) (number low c : ℕ) (rest : List PlainIr) (n pc : ℕ) (need0 : Need) (m : Mach) (v : View)
      → Ready start all → Behind (branch_zero t l ∷ rest) → HasHome slots t → HasHome slots x1 → number < 256 → low < 256 ^ t.bytes
      → (bit_and (v.at (base x1)) number == 0) ≡ (low == 0) → 102 ≤ c → wanted (either (needs at rest) (labels l)) t ≡ 0
      → HasAt e (masked_code (home x1) (home t) number ++ own_told (Some (so_told NotEqual false)) (branch_zero t l) rest) pc end
      → ((k : ℕ) → k ≢ t.at → either (needs at rest) (labels l) k ≤ need0 k) → M need0 m v → Onwards n
      → G (suc n) m.state.work pc v (R (suc n) (branch_zero t l ∷ rest) (after_operator t low c m))
  masked_passes start l t x1 number low c rest n pc need0 m v ready behind it i1 few below is_none big none stands more h f =
      let both = either (needs at rest) (labels l) in
      let code = masked_code (home x1) (home t) number in
      let v1 = block e code v in
      let m1 = after_operator t low c m in
      let s1 = has_parts e code (own_told (Some (so_told NotEqual false)) (branch_zero t l) rest) pc end stands in
      let sa : StandsFrom e (home x1) 1 (base x1) Own = stand p e slots home base place y x1 1 i1 i1.some in
      let st : StandsFrom e (home t) 1 (base t) Own = stand p e slots home base place y t 1 it it.some in
      let first : base x1 + 0 ≡ base x1 = omega arith in
      let second : base t + 0 ≡ base t = omega arith in
      let o = masks e (base x1) (base t) number v few h.bytes (home x1) (home t) (sa.at 0 (omega arith) ∙ first)
      (subst (λ j. KindIs e (home x1) j Own) first (sa.kind 0 (omega arith))) sa.clear (st.at 0 (omega arith) ∙ second) in
      let some = it.some in
      let frame : Frame v v1 (base t) t.bytes =
      λ i d g j q. o.same i j (λ w. let r = q (omega (arith, w)) in absurd (omega (arith, r, w, some))) in
      let empty : value v1.at (base t) 0 ≡ low % 256 ^ 0 = omega arith in
      let matches : M both m1 v1 =
      written p e slots home base place y t (bits low) both need0 m (worked c m.state) v v1 it h more frame
      (subst (λ j. value v1.at (base t) j ≡ low % 256 ^ j) (sym none) empty, below)
      o.numbers refl (o.seen ∙ h.seen) (kept_left y.inputs m.state v v1 o.inputs h.left) (o.safe ∙ h.safe) in
      let here : M (needs at rest) m1 v1 =
      weaker p e slots home base place y both (needs at rest) m1 v1 matches (either_left (needs at rest) (labels l)) in
      let there : M (labels l) m1 v1 =
      weaker p e slots home base place y both (labels l) m1 v1 matches (either_right (needs at rest) (labels l)) in
      let form = masked_form (home x1) (home t) number in
      let least = form.1 in
      let most = form.2 in
      let goes = block_goes e code pc s1.0 v form.0 s1.1 in
      after p place e (code_steps code) n (suc n) m.state.work m1.state.work pc s1.0 v v1
      (R (suc n) (branch_zero t l ∷ rest) m1) goes (omega (arith, least)) (omega (arith, most, big))
      (checked functions p y.inputs place e n n m1.state.work s1.0 v1 all stack (branch_zero t l) rest m1
      (λ held. told_branch_follows start l t (not (low == 0)) low (so_told NotEqual false) rest n s1.0 m1 v1 ready behind it
      (held_at t _ m.temps) (not_not (low == 0))
      (turned_told (low == 0) (so_told Equal false) v1 (zero_told (low == 0) v1 (o.zero_is ∙ ap from_bool is_none))) s1.2 here there f))

  masked_follows : (start l : ℕ) (s s1 s2 : Bool) (mode : Mode) (t a b : Temp) (k : ℤ) (rest : List PlainIr) (n pc : ℕ) (m : Mach)
      (v : View) → Ready start all → Behind (branch_zero t l ∷ rest) → HasHome slots t → HasHome slots a → HasHome slots b
      → a.bytes ≡ t.bytes → b.bytes ≡ t.bytes → IsKnown b k m → is_mask (Some k) ≡ true → wanted (either (needs at rest) (labels l)) t ≡ 0
      → HasAt e (masked_code (home a) (home t) (low_bytes 16 k % 256)
      ++ own_told (Some (so_told NotEqual false)) (branch_zero t l) rest) pc end
      → M (at_least a.at (min (wanted (needs at (branch_zero t l ∷ rest)) t) 1) (without t.at (needs at (branch_zero t l ∷ rest)))) m v
      → Onwards n
      → G (suc n) m.state.work pc v
      (P n (binary_op And (integer s t.bytes) mode t a (integer s1 a.bytes) b (integer s2 b.bytes)) (branch_zero t l ∷ rest) m)
  masked_follows start l s s1 s2 mode t a b k rest n pc m v ready behind it ia ib sa sb known mask none stands h f =
      from_number p place e s1 a m.temps st _ (suc n) m.state.work pc v
      (λ low1 qa. from_number p place e s2 b m.temps st _ (suc n) m.state.work pc v
      (λ low2 qb.
      let below1 : low1 < 256 ^ t.bytes = subst (λ x. low1 < 256 ^ x) sa (h.temps_hold a _ ia qa refl).1 in
      let below2 : low2 < 256 ^ t.bytes = subst (λ x. low2 < 256 ^ x) sb (h.temps_hold b _ ib qb refl).1 in
      let g = gives_of And BitAnd refl p mode s s1 s2 t.bytes a.bytes b.bytes low1 low2 st st sa sb below1 below2 in
      let low = low_bytes t.bytes g.number in
      let second : low2 ≡ number.value = known low2 qb ∙ byte_bytes k b.bytes byte ib.some in
      let bits_most = and_le_r low1 low2 in
      let low_is : low ≡ bit_and low1 low2 = g.low ∙ kept_below (bit_and low1 low2) (256 ^ t.bytes) (omega (arith, bits_most, below2)) in
      let left = at_width p e slots home base place y need0 m v a _ 1 h ia qa refl tested_needed in
      let one : v.at (base a) ≡ value v.at (base a) 1 =
      (let z : base a ≡ base a + 0 = omega arith in ap v.at z ∙ first_byte_is v.at (base a)) in
      let null : (bit_and (v.at (base a)) number.value == 0) ≡ (low == 0) =
      ap (λ x. bit_and x number.value == 0) (one ∙ left.0) ∙ ap (λ x. x == 0) (sym (mask_low low1 number.value number.below))
      ∙ ap (λ x. bit_and low1 x == 0) (sym second) ∙ ap (λ x. x == 0) (sym low_is) in
      subst (λ r. G (suc n) m.state.work pc v
      (next (given r st) (λ u s3. R (suc n) (branch_zero t l ∷ rest) (machine (with_temp t u m.temps) s3)))) (sym g.is)
      (masked_passes start l t a number.value low c rest n pc need0 m v ready behind it ia number.below (low_below t.bytes g.number) null
      (relation_big And (integer s t.bytes) (integer s1 a.bytes) (integer s2 b.bytes)) none
      (subst (λ x. HasAt e (masked_code (home a) (home t) x ++ own_told (Some (so_told NotEqual false)) (branch_zero t l) rest) pc end)
      number_is stands) more h f)))
    where
      c : ℕ
      c = op_steps (binary_op And (integer s t.bytes) mode t a (integer s1 a.bytes) b (integer s2 b.bytes))

      st : State
      st = worked c m.state

      need : Need
      need = needs at (branch_zero t l ∷ rest)

      need0 : Need
      need0 = at_least a.at (min (wanted need t) 1) (without t.at need)

      byte : is_byte k ≡ true
      byte = mask_byte k mask

      number : ByteNumber k
      number = byte_value k byte

      number_is : low_bytes 16 k % 256 ≡ number.value
      number_is = ap (λ x. x % 256) (byte_bytes k 16 byte (omega arith)) ∙ kept_below number.value 256 number.below

      first_byte_is : (g : ℕ → ℕ) (i : ℕ) → g (i + 0) ≡ value g i 1
      first_byte_is g i = omega arith

      tested_bytes : ℕ
      tested_bytes = compared_bytes (at.known (branch_zero t l ∷ rest)) t.bytes

      tested_needed : 1 ≤ wanted need0 a
      tested_needed =
          let here = least_here t.at tested_bytes (either (needs at rest) (labels l)) in
          let also = least_here a.at (min (wanted need t) 1) (without t.at need) in
          let some = it.some in
          let one = ia.some in
          let tests = compared_some (at.known (branch_zero t l ∷ rest)) t.bytes it.some in
          omega (arith, here, also, some, one, tests)

      more : (u : ℕ) → u ≢ t.at → either (needs at rest) (labels l) u ≤ need0 u
      more u d =
          let x = without_other t.at u need d in
          let w = least_other a.at (min (wanted need t) 1) u (without t.at need) in
          let z = least_other t.at tested_bytes u (either (needs at rest) (labels l)) in
          omega (arith, x, w, z)

  -- ---- labels

  -- a label counts for nothing
  label_follows : (l : ℕ) (rest : List PlainIr) (n pc : ℕ) (m : Mach) (v : View)
      → G (suc n) (m.state.work + op_steps (label l)) pc v (R (suc n) rest (machine m.temps (worked (op_steps (label l)) m.state)))
      → G (suc n) m.state.work pc v (P n (label l) rest m)
  label_follows l rest n pc m v f =
      let q : m.state.work + op_steps (label l) ≡ m.state.work = omega arith in
      subst (λ w. G (suc n) w pc v (P n (label l) rest m)) q f

  -- ---- all operations

  -- what is shown from a call on, and from a return on
  abbrev pub CallCase : ℕ → Type 0
  CallCase n =
      (g : ℕ) (to : Option Temp) (pc : ℕ) (rest : List PlainIr) (m : Mach) (v : View)
      → Ready pc (call_function g to ∷ rest) → M (needs at (call_function g to ∷ rest)) m v
      → G (suc n) m.state.work pc v (P n (call_function g to) rest m)

  abbrev pub ReturnCase : ℕ → Type 0
  ReturnCase n =
      (from : Option Temp) (pc : ℕ) (rest : List PlainIr) (m : Mach) (v : View)
      → Ready pc (return_from from ∷ rest) → M (returned_need from) m v
      → G (suc n) m.state.work pc v (P n (return_from from) rest m)

  -- the code of a binary operator that takes no number and may tell something, and what comes after it
  abbrev StandsTelling : BinOp → PlainType → Mode → (t a : Temp) → PlainType → Temp → PlainType → ℕ → Option Told
      → List PlainIr → Type 0
  StandsTelling op ty mode t a aty b bty pc told ops =
      HasAt e (own_code p home link None told None (needs at ops) (binary_op op ty mode t a aty b bty) ++ items_told told ops) pc end

  -- what holds of no integer type holds of no operand of an integer operator
  no_kind : (is : PlainType → Bool) → ((s : Bool) (n : ℕ) → is (integer s n) ≡ false) → (x : Family) (t a b : Temp)
      (ty aty bty : PlainType) → IsBinary x slots t a b ty aty bty → (is aty || is bty) ≡ false
  no_kind is none x t a b ty aty bty k = by_family x k
    where
      neither : (s1 s2 : Bool) (n1 n2 : ℕ) → aty ≡ integer s1 n1 → bty ≡ integer s2 n2 → (is aty || is bty) ≡ false
      neither s1 s2 n1 n2 q r =
          let left : is aty ≡ false = ap is q ∙ none s1 n1 in
          let right : is bty ≡ false = ap is r ∙ none s2 n2 in
          rw (left, right) refl

      by_family : (x : Family) → IsBinary x slots t a b ty aty bty → (is aty || is bty) ≡ false
      by_family (Combined o) k = neither k.left_signed k.right_signed a.bytes b.bytes k.left_type k.right_type
      by_family (Compared r exchanged) k = neither k.signed k.signed a.bytes b.bytes k.left_type k.right_type
      by_family Multiplied k = neither k.left_signed k.right_signed 1 1 k.left_type k.right_type
      by_family (Shifted up) k = neither k.0.signed k.0.count_signed a.bytes b.bytes k.0.left_type k.0.count_type
      by_family (Divided r) k = neither k.0.signed k.0.signed a.bytes b.bytes k.0.left_type k.0.right_type

  -- a binary operator, and where it is a comparison that only the branch behind it tests, this branch too
  integers_follow : (start : ℕ) → Ready start all → (n : ℕ) → Onwards n → (op : BinOp) (ty : PlainType) (mode : Mode)
      (t a : Temp) (aty : PlainType) (b : Temp) (bty : PlainType) (pc : ℕ) (rest : List PlainIr) (m : Mach) (v : View)
      → IsBinary (family_of op) slots t a b ty aty bty → Behind rest
      → HasAt e (plain_items (binary_op op ty mode t a aty b bty) rest) pc end
      → M (plain_needs (binary_op op ty mode t a aty b bty) rest) m v
      → Rest (suc n) rest → G (suc n) m.state.work pc v (P n (binary_op op ty mode t a aty b bty) rest m)
  integers_follow start ready n go op ty mode t a aty b bty pc rest m v integers r own_stands h f =
      by_told (plain_told (binary_op op ty mode t a aty b bty) rest) refl
    where
      fx : (is_fixed aty || is_fixed bty) ≡ false
      fx = no_kind is_fixed (λ s n. refl) (family_of op) t a b ty aty bty integers

      px : (is_pointer aty || is_pointer bty) ≡ false
      px = no_kind is_pointer (λ s n. refl) (family_of op) t a b ty aty bty integers

      wx : (is_whole aty || is_whole bty) ≡ false
      wx = no_kind is_whole (λ s n. refl) (family_of op) t a b ty aty bty integers

      ax : is_apart (family_of op) mode ty aty bty ≡ false
      ax = ap (λ z. z && not (is_on_integers (family_of op) mode ty aty bty)) wx

      ux : is_untold (family_of op) mode ty aty bty ≡ false
      ux = ap (λ z. not (is_pointer aty && is_pointer bty) && z) ax ∙ none (not (is_pointer aty && is_pointer bty))
        where
          none : (x : Bool) → (x && false) ≡ false
          none true = refl
          none false = refl

      needed : (ops : List PlainIr) → M (plain_needs (binary_op op ty mode t a aty b bty) ops) m v
          → M
          (operands_needed op t a b (operand_wanted op a.bytes (wanted (needs at ops) t))
          (right_wanted op b.bytes (wanted (needs at ops) t)) (needs at ops)) m v
      needed ops h = subst (λ x. M (operands_needed op t a b (first_wanted x op a.bytes (wanted (needs at ops) t))
          (second_wanted x op b.bytes (wanted (needs at ops) t)) (needs at ops)) m v) ax h

      by_family : (x : Family) → family_of op ≡ x → (told : Told) → told_of x (is_signed aty) ≡ Some told → (l : ℕ) (ops : List PlainIr)
          → IsBinary x slots t a b ty aty bty → Behind (branch_zero t l ∷ ops) → wanted (either (needs at ops) (labels l)) t ≡ 0
          → HasAt e (flag_code x (home a) (home b) a.bytes ++ own_told (Some told) (branch_zero t l) ops) pc end
          → M (plain_needs (binary_op op ty mode t a aty b bty) (branch_zero t l ∷ ops)) m v
          → G (suc n) m.state.work pc v (P n (binary_op op ty mode t a aty b bty) (branch_zero t l ∷ ops) m)
      by_family (Compared r exchanged) q told w l ops k behind none stands h =
          let signs : k.signed ≡ is_signed aty = ap is_signed (sym k.left_type) in
          let same : so_told r k.signed ≡ told = ap (λ x. so_told r x) signs ∙ (let c : so_told r (is_signed aty) ≡ told = cc in c) in
          let stand : HasAt e (flag_code (Compared r exchanged) (home a) (home b) a.bytes
          ++ own_told (Some (so_told r k.signed)) (branch_zero t l) ops) pc end = subst
          (λ (x : Told). HasAt e (flag_code (Compared r exchanged) (home a) (home b) a.bytes
          ++ own_told (Some x) (branch_zero t l) ops) pc end)
          (sym same) stands in
          subst (λ x. G (suc n) m.state.work pc v (P n (binary_op op ty mode t a x b bty) (branch_zero t l ∷ ops) m))
          (sym k.left_type)
          (subst
          (λ x. G (suc n) m.state.work pc v
          (P n (binary_op op ty mode t a (integer k.signed a.bytes) b x) (branch_zero t l ∷ ops) m)) (sym k.right_type)
          (told_follows start l op r exchanged q k.signed ty mode t a b ops n pc m v ready behind
          k.result k.left k.right k.same_bytes none stand (needed (branch_zero t l ∷ ops) h) go))
      by_family x q told w l ops k behind none stands h = absurd (cc)

      at_branch : (u : Temp) (l : ℕ) (ops : List PlainIr) (told : Told) → (only : Bool)
          → is_only_tested t (Some (branch_zero u l)) (wanted (either (needs at ops) (labels l)) u) ≡ only
          → (if only then told_by (is_untold (family_of op) mode ty aty bty) (family_of op) (is_signed aty) else None) ≡ Some told
          → Behind (branch_zero u l ∷ ops)
          → M (plain_needs (binary_op op ty mode t a aty b bty) (branch_zero u l ∷ ops)) m v
          → StandsTelling op ty mode t a aty b bty pc (Some told) (branch_zero u l ∷ ops)
          → G (suc n) m.state.work pc v (P n (binary_op op ty mode t a aty b bty) (branch_zero u l ∷ ops) m)
      at_branch u l ops told false o q r h stands = absurd (cc)
      at_branch u l ops told true o q r h stands =
          let parts = and_parts (wanted (either (needs at ops) (labels l)) u == 0) (u.at == t.at && u.bytes == t.bytes) o in
          let both = and_parts (u.at == t.at) (u.bytes == t.bytes) parts.1 in
          let same : u ≡ t = same_temp t u (eqb-true u.at t.at both.0) (eqb-true u.bytes t.bytes both.1) in
          let none : wanted (either (needs at ops) (labels l)) t ≡ 0 =
          subst (λ x. wanted (either (needs at ops) (labels l)) x ≡ 0) same
          (eqb-true (wanted (either (needs at ops) (labels l)) u) 0 parts.0) in
          let h1 = subst (λ x. M (plain_needs (binary_op op ty mode t a aty b bty) (branch_zero x l ∷ ops)) m v) same h in
          let own = flag_code (family_of op) (home a) (home b) a.bytes in
          let after = items_told (Some told) (branch_zero t l ∷ ops) in
          let w = wanted (needs at (branch_zero t l ∷ ops)) t in
          let stand = subst (λ x. StandsTelling op ty mode t a aty b bty pc (Some told) (branch_zero x l ∷ ops)) same stands in
          let flags : HasAt e (own ++ after) pc end =
          subst (λ x. HasAt e (code_by_kind x
          (pointer_binary None (Some told) link.core (is_pointer aty) (is_pointer bty) p op aty bty (home a) (home b) (home t) a.bytes
          b.bytes w) own
          ++ after) pc end) px
          (subst (λ x. HasAt e (code_by_kind x (fixed_binary None (Some told) op ty aty bty mode (home a) (home b) (home t) a.bytes w)
          (code_by_kind (is_pointer aty || is_pointer bty)
          (pointer_binary None (Some told) link.core (is_pointer aty) (is_pointer bty) p op aty bty (home a) (home b) (home t) a.bytes
          b.bytes w) own)
          ++ after) pc end) fx stand) in
          let branch : HasAt e (own ++ own_told (Some told) (branch_zero t l) ops) pc end =
          at_use_behind own (Some told) (branch_zero t l) ops pc (subst (λ x. Behind (branch_zero x l ∷ ops)) same r).covered.0.1
          (λ l none. none) flags in
          subst (λ x. G (suc n) m.state.work pc v (P n (binary_op op ty mode t a aty b bty) (branch_zero x l ∷ ops) m)) (sym same)
          (by_family (family_of op) refl told (subst (λ x. told_by x (family_of op) (is_signed aty) ≡ Some told) ux q) l ops integers
          (subst (λ x. Behind (branch_zero x l ∷ ops)) same r) none branch h1)

      at_next : (ops : List PlainIr) (told : Told) → plain_told (binary_op op ty mode t a aty b bty) ops ≡ Some told
          → Behind ops → M (plain_needs (binary_op op ty mode t a aty b bty) ops) m v
          → HasAt e (plain_items (binary_op op ty mode t a aty b bty) ops) pc end
          → G (suc n) m.state.work pc v (P n (binary_op op ty mode t a aty b bty) ops m)
      at_next (branch_zero u l ∷ ops) told q r h stands =
          at_branch u l ops told (is_only_tested t (Some (branch_zero u l)) (wanted (either (needs at ops) (labels l)) u)) refl q r h
          (subst (λ x. StandsTelling op ty mode t a aty b bty pc x (branch_zero u l ∷ ops)) q stands)
      at_next [] told q r h stands = absurd (cc)
      at_next (i ∷ ops) told q r h stands = absurd (cc)

      by_told : (told : Option Told) → plain_told (binary_op op ty mode t a aty b bty) rest ≡ told
          → G (suc n) m.state.work pc v (P n (binary_op op ty mode t a aty b bty) rest m)
      by_told None q =
          operator_follows op ty mode t a aty b bty rest n pc m v integers
          (subst (λ x. StandsTelling op ty mode t a aty b bty pc x rest) q own_stands) (needed rest h) f
      by_told (Some told) q = at_next rest told q r h own_stands

  -- ---- operators that take a known number

  -- the operations behind are a branch that alone tests a truth value, and that has been told so much
  record AreTesting (t : Temp) (ops : List PlainIr) (x : Option Told) (told : Told) : Type 0 where
    l : ℕ
    rest : List PlainIr
    is : ops ≡ branch_zero t l ∷ rest
    none : wanted (either (needs at rest) (labels l)) t ≡ 0
    by : x ≡ Some told

  are_testing : (t : Temp) (ops : List PlainIr) (x : Option Told) (told : Told)
      → (if is_only_tested t (slice_get ops 0) (slice_index (wanted_bytes at ops) 0) then x else None) ≡ Some told
      → AreTesting t ops x told
  are_testing t [] x told q = absurd cc
  are_testing t (branch_zero u l ∷ ops) x told q =
      by_test (is_only_tested t (Some (branch_zero u l)) (wanted (either (needs at ops) (labels l)) u)) refl q
    where
      by_test : (only : Bool) → is_only_tested t (Some (branch_zero u l)) (wanted (either (needs at ops) (labels l)) u) ≡ only
          → (if only then x else None) ≡ Some told → AreTesting t (branch_zero u l ∷ ops) x told
      by_test false o q = absurd cc
      by_test true o q =
          let parts = and_parts (wanted (either (needs at ops) (labels l)) u == 0) (u.at == t.at && u.bytes == t.bytes) o in
          let both = and_parts (u.at == t.at) (u.bytes == t.bytes) parts.1 in
          let same : u ≡ t = same_temp t u (eqb-true u.at t.at both.0) (eqb-true u.bytes t.bytes both.1) in
          record {
            l = l;
            rest = ops;
            is = ap (λ z. branch_zero z l ∷ ops) same;
            none = subst (λ z. wanted (either (needs at ops) (labels l)) z ≡ 0) same
                (eqb-true (wanted (either (needs at ops) (labels l)) u) 0 parts.0);
            by = q;
          }
  are_testing t (i ∷ ops) x told q = absurd cc

  -- its code, and what comes after it
  abbrev number_told : BinOp → PlainType → Mode → (t a : Temp) → (aty bty : PlainType) → TakenNumber → List PlainIr → Option Told
  number_told op ty mode t a aty bty k rest =
      if is_only_tested t (slice_get rest 0) (slice_index (wanted_bytes at rest) 0)
      then told_taking (Some (as_known k)) (is_untold (family_of op) mode ty aty bty) op (is_signed aty) a.bytes else None

  abbrev number_items : BinOp → PlainType → Mode → (t a : Temp) → PlainType → Temp → PlainType → TakenNumber → List PlainIr
      → List AsmItem
  number_items op ty mode t a aty b bty k rest =
      taking_code (Some (as_known k)) (number_told op ty mode t a aty bty k rest) (family_of op) (is_signed aty) (is_signed bty)
      (home a) (home b) (home t) a.bytes (wanted (needs at rest) t)
      ++ items_told (number_told op ty mode t a aty bty k rest) rest

  -- what is needed before it
  abbrev number_needs : BinOp → (t a : Temp) → TakenNumber → List PlainIr → Need
  number_needs op t a k rest =
      at_least a.at (operand_wanted op (compared_bytes (Some (as_known k)) a.bytes) (wanted (needs at rest) t))
      (without t.at (needs at rest))

  -- what is shown of it
  abbrev NumberCase : BinOp → PlainType → Mode → (t a : Temp) → PlainType → Temp → PlainType → TakenNumber → ℕ → List PlainIr → (n : ℕ)
      → Mach → View → Type 0
  NumberCase op ty mode t a aty b bty k pc rest n m v =
      Behind rest → HasAt e (number_items op ty mode t a aty b bty k rest) pc end → M (number_needs op t a k rest) m v
      → Rest (suc n) rest → G (suc n) m.state.work pc v (P n (binary_op op ty mode t a aty b bty) rest m)

  -- a sum, a difference, OR, or any other AND tells nothing
  combined_number : (op : BinOp) (o : Operator) → family_of op ≡ Combined o → is_changed o ≡ true → (ty : PlainType) (mode : Mode)
      (t a : Temp) (aty : PlainType) (b : Temp) (bty : PlainType) (k : TakenNumber) (pc : ℕ) (rest : List PlainIr) (n : ℕ) (m : Mach)
      (v : View)
      → AreIntegers slots t a b ty aty bty → IsKnown b k.number m → is_masked (Some (as_known k)) op ≡ false
      → masks_low o (low_bytes 16 k.number) ≡ false → NumberCase op ty mode t a aty b bty k pc rest n m v
  combined_number op o is changed ty mode t a aty b bty k pc rest n m v i known unmasked no_mask =
      (subst (λ x. NumberCase op x mode t a aty b bty k pc rest n m v) (sym i.result_type)
      (subst (λ x. NumberCase op (integer i.signed t.bytes) mode t a x b bty k pc rest n m v) (sym i.left_type)
      (subst (λ x. NumberCase op (integer i.signed t.bytes) mode t a (integer i.left_signed a.bytes) b x k pc rest n m v)
      (sym i.right_type)
      (λ behind stands h f. combined_number_follows op o is changed i.signed i.left_signed i.right_signed mode t a b k.number rest n pc m v
      i.result i.left i.right i.left_bytes i.right_bytes known
      (subst (λ (x : Bool). HasAt e ((if x then low_mask_code (home a) (home t) (low_bytes 16 k.number) (wanted (needs at rest) t)
      else move_code (home a) (home t) (wanted (needs at rest) t)
      ++ changed_by_code o (home t) (low_bytes 16 k.number) (wanted (needs at rest) t)) ++ items rest) pc end) no_mask
      (subst (λ x. HasAt e (taking_code (Some (as_known k)) None x i.left_signed i.right_signed (home a) (home b) (home t) a.bytes
      (wanted (needs at rest) t) ++ items rest) pc end) is
      (subst (λ x. HasAt e (taking_code (Some (as_known k)) x (family_of op) i.left_signed i.right_signed (home a) (home b) (home t) a.bytes
      (wanted (needs at rest) t) ++ items_told x rest) pc end)
      (untold (is_only_tested t (slice_get rest 0) (slice_index (wanted_bytes at rest) 0))
      (is_untold (family_of op) mode (integer i.signed t.bytes) (integer i.left_signed a.bytes)
      (integer i.right_signed b.bytes)) i.left_signed)
      stands)))
      (subst (λ x. M (at_least a.at x (without t.at (needs at rest))) m v)
      (low_bytes_wanted op o is (compared_bytes (Some (as_known k)) a.bytes) (wanted (needs at rest) t)) h)
      f))))
    where
      none : (apart s : Bool) → told_by apart (family_taking (Some (as_known k)) (family_of op) s a.bytes)
          (signed_taking (Some (as_known k)) (family_of op) s a.bytes) ≡ None
      none true s = refl
      none false s =
          ap (λ x. told_of (family_taking (Some (as_known k)) x s a.bytes) (signed_taking (Some (as_known k)) x s a.bytes)) is

      untold : (only apart s : Bool) → (if only then told_taking (Some (as_known k)) apart op s a.bytes else None) ≡ None
      untold false apart s = refl
      untold true apart s =
          ap (λ (x : Bool). if x then Some (so_told NotEqual false) else told_by apart
          (family_taking (Some (as_known k)) (family_of op) s a.bytes)
          (signed_taking (Some (as_known k)) (family_of op) s a.bytes)) unmasked
          ∙ none apart s

  -- AND with a number below 256
  masked_number_follows : (s s1 s2 : Bool) (mode : Mode) (t a b : Temp) (k : ℤ) (rest : List PlainIr) (n pc : ℕ) (m : Mach) (v : View)
      → HasHome slots t → HasHome slots a → HasHome slots b → a.bytes ≡ t.bytes → b.bytes ≡ t.bytes → IsKnown b k m
      → low_bytes 16 k < 256
      → HasAt e (low_mask_code (home a) (home t) (low_bytes 16 k) (wanted (needs at rest) t) ++ items rest) pc end
      → M (at_least a.at (min (wanted (needs at rest) t) 1) (without t.at (needs at rest))) m v → Rest (suc n) rest
      → G (suc n) m.state.work pc v
      (P n (binary_op And (integer s t.bytes) mode t a (integer s1 a.bytes) b (integer s2 b.bytes)) rest m)
  masked_number_follows s s1 s2 mode t a b k rest n pc m v it ia ib sa sb known small stands h f =
      let need = needs at rest in
      let i = binary_op And (integer s t.bytes) mode t a (integer s1 a.bytes) b (integer s2 b.bytes) in
      let c = op_steps i in
      let st = worked c m.state in
      let w = wanted need t in
      let one = min w 1 in
      let most = wanted_most need t in
      let eight = it.most in
      let first = move_code (home a) (home t) one in
      let second = changed_by_code BitAnd (home t) (low_bytes 16 k) one in
      let third = extend_code false (home t) 1 w in
      let code = first ++ (second ++ third) in
      let big : 640 ≤ c = relation_wide And (integer s t.bytes) (integer s1 a.bytes) (integer s2 b.bytes) in
      let form = changed_form y.numbers BitAnd (home t) (low_bytes 16 k) one in
      let steps1 = steps-append first (second ++ third) in
      let steps2 = steps-append second third in
      let take = move_steps (home a) (home t) one in
      let wide = (values_take (home t) 0 1 w).2 false in
      let straight : all_straight code ≡ true =
      straight-append first (second ++ third) (move_straight (home a) (home t) one)
      (straight-append second third form.0 ((values_are_straight (home t) 0 1 w).2 false)) in
      let few = form.1 in
      from_number p place e s1 a m.temps st _ (suc n) m.state.work pc v
      (λ low1 qa. from_number p place e s2 b m.temps st _ (suc n) m.state.work pc v
      (λ low2 qb.
      let below1 : low1 < 256 ^ t.bytes = subst (λ x. low1 < 256 ^ x) sa (h.temps_hold a _ ia qa refl).1 in
      let below2 : low2 < 256 ^ t.bytes = subst (λ x. low2 < 256 ^ x) sb (h.temps_hold b _ ib qb refl).1 in
      let g = gives_of And BitAnd refl p mode s s1 s2 t.bytes a.bytes b.bytes low1 low2 st st sa sb below1 below2 in
      let number : low_bytes t.bytes k ≡ low2 = ap (λ j. low_bytes j k) (sym sb) ∙ sym (known low2 qb) in
      let m1 = after_operator t (low_bytes t.bytes g.number) c m in
      let matches : M need (after_operator t (result_of BitAnd t.bytes low1 (low_bytes t.bytes k)) c m) (block e code v) =
      low_mask_matches p e slots home base place y t a k need m v c low1 it ia sa qa small h in
      let matches1 : M need m1 (block e code v) =
      subst (λ r. M need (after_operator t r c m) (block e code v)) (ap (result_of BitAnd t.bytes low1) number ∙ sym g.low) matches in
      subst (λ r. G (suc n) m.state.work pc v (next (given r st) (λ u s3. R (suc n) rest (machine (with_temp t u m.temps) s3)))) (sym g.is)
      (goes_past code (items rest) (suc n) (suc n) m.state.work m1.state.work pc v (R (suc n) rest m1) stands straight (omega arith)
      (omega (arith, take, few, wide, steps1, steps2, big, most, eight))
      (λ mid u. f mid m1 _ u matches1))))

  -- what is needed before an operator with a number, which may be masked
  abbrev masked_needs : BinOp → (t a : Temp) → TakenNumber → List PlainIr → Need
  masked_needs op t a k rest =
      at_least a.at
      (operand_wanted op (compared_bytes (Some (as_known k)) a.bytes) (masked_bytes (Some (as_known k)) op (wanted (needs at rest) t)))
      (without t.at (needs at rest))

  abbrev MaskedCase : BinOp → PlainType → Mode → (t a : Temp) → PlainType → Temp → PlainType → TakenNumber → ℕ → List PlainIr
      → (n : ℕ) → Mach → View → Type 0
  MaskedCase op ty mode t a aty b bty k pc rest n m v =
      Behind rest → HasAt e (number_items op ty mode t a aty b bty k rest) pc end → M (masked_needs op t a k rest) m v
      → Rest (suc n) rest → G (suc n) m.state.work pc v (P n (binary_op op ty mode t a aty b bty) rest m)

  -- where it is not
  without_mask : (op : BinOp) (ty : PlainType) (mode : Mode) (t a : Temp) (aty : PlainType) (b : Temp) (bty : PlainType) (k : TakenNumber)
      (pc : ℕ) (rest : List PlainIr) (n : ℕ) (m : Mach) (v : View) → is_low_mask (Some k.number) op ≡ false
      → NumberCase op ty mode t a aty b bty k pc rest n m v → MaskedCase op ty mode t a aty b bty k pc rest n m v
  without_mask op ty mode t a aty b bty k pc rest n m v none shown behind stands h f =
      let w = wanted (needs at rest) t in
      let bytes = compared_bytes (Some (as_known k)) a.bytes in
      let needs_of = λ (n : ℕ). at_least a.at (operand_wanted op bytes n) (without t.at (needs at rest)) in
      shown behind stands (subst (λ (x : Bool). M (needs_of (if x then min w 1 else w)) m v) none h) f

  -- what tells by a flag is masked by a number below 255
  low_mask_number : (start : ℕ) → Ready start all → (n : ℕ) → Onwards n → (ty : PlainType) (mode : Mode)
      (t a : Temp) (aty : PlainType) (b : Temp) (bty : PlainType) (k : TakenNumber) (pc : ℕ) (rest : List PlainIr) (m : Mach)
      (v : View) → AreIntegers slots t a b ty aty bty → IsKnown b k.number m → nat_lt (low_bytes 16 k.number) 256 ≡ true
      → low_bytes 16 k.number < 256 → MaskedCase And ty mode t a aty b bty k pc rest n m v
  low_mask_number start ready n go ty mode t a aty b bty k pc rest m v i known test small =
      (subst (λ x. MaskedCase And x mode t a aty b bty k pc rest n m v) (sym i.result_type)
      (subst (λ x. MaskedCase And (integer i.signed t.bytes) mode t a x b bty k pc rest n m v) (sym i.left_type)
      (subst (λ x. MaskedCase And (integer i.signed t.bytes) mode t a (integer i.left_signed a.bytes) b x k pc rest n m v)
      (sym i.right_type)
      (λ behind stands h f. by_told (telling rest) refl behind stands h f))))
    where
      own : PlainIr
      own = binary_op And (integer i.signed t.bytes) mode t a (integer i.left_signed a.bytes) b (integer i.right_signed b.bytes)

      telling : List PlainIr → Option Told
      telling ops =
          number_told And (integer i.signed t.bytes) mode t a (integer i.left_signed a.bytes) (integer i.right_signed b.bytes) k ops

      taken_by : Option Told → List PlainIr → List AsmItem
      taken_by told ops =
          taking_code (Some (as_known k)) told (Combined BitAnd) i.left_signed i.right_signed (home a) (home b) (home t) a.bytes
          (wanted (needs at ops) t)

      code : Option Told → List PlainIr → List AsmItem
      code told ops = taken_by told ops ++ items_told told ops

      -- one byte of the first operand is needed
      needed : (ops : List PlainIr) → M (masked_needs And t a k ops) m v
          → M (at_least a.at (min (wanted (needs at ops) t) 1) (without t.at (needs at ops))) m v
      needed ops h =
          subst
          (λ (x : Bool). M (at_least a.at (if x then min (wanted (needs at ops) t) 1 else wanted (needs at ops) t)
          (without t.at (needs at ops))) m v) test h

      mask_told : (told : Told) → told_taking (Some (as_known k)) false And i.left_signed a.bytes ≡ Some told
          → is_mask (Some k.number) ≡ true
      mask_told told q = by_mask (is_mask (Some k.number)) refl
        where
          by_mask : (x : Bool) → is_mask (Some k.number) ≡ x → is_mask (Some k.number) ≡ true
          by_mask true r = r
          by_mask false r =
              let no : None ≡ Some told = ap (λ (x : Bool). if x then Some (so_told NotEqual false) else None) (sym r) ∙ q in
              absurd cc

      by_told : (told : Option Told) → telling rest ≡ told → Behind rest → HasAt e (code (telling rest) rest) pc end
          → M (masked_needs And t a k rest) m v → Rest (suc n) rest → G (suc n) m.state.work pc v (P n own rest m)
      by_told None q behind stands h f =
          masked_number_follows i.signed i.left_signed i.right_signed mode t a b k.number rest n pc m v
          i.result i.left i.right i.left_bytes i.right_bytes known small
          (subst (λ (x : Bool). HasAt e ((if x then low_mask_code (home a) (home t) (low_bytes 16 k.number) (wanted (needs at rest) t)
          else move_code (home a) (home t) (wanted (needs at rest) t)
          ++ changed_by_code BitAnd (home t) (low_bytes 16 k.number) (wanted (needs at rest) t)) ++ items rest) pc end) test
          (subst (λ x. HasAt e (code x rest) pc end) q stands))
          (needed rest h) f
      by_told (Some told) q behind stands h f =
          let z = are_testing t rest (told_taking (Some (as_known k)) false And i.left_signed a.bytes) told q in
          let mask = mask_told told z.by in
          subst
          (λ ops. Behind ops → HasAt e (code (Some told) ops) pc end → M (masked_needs And t a k ops) m v
          → G (suc n) m.state.work pc v (P n own ops m)) (sym z.is)
          (λ behind1 stands1 h1.
          let by_flag : Some (so_told NotEqual false) ≡ Some told =
          ap (λ (x : Bool). if x then Some (so_told NotEqual false) else None) (sym mask) ∙ z.by in
          let same : so_told NotEqual false ≡ told = cc in
          masked_follows start z.l i.signed i.left_signed i.right_signed mode t a b k.number z.rest n pc m v ready behind1
          i.result i.left i.right i.left_bytes i.right_bytes known mask z.none
          (subst (λ (x : Told). HasAt e (masked_code (home a) (home t) (low_bytes 16 k.number % 256)
          ++ own_told (Some x) (branch_zero t z.l) z.rest) pc end) (sym same)
          (at_use_behind (taken_by (Some told) (branch_zero t z.l ∷ z.rest)) (Some told) (branch_zero t z.l) z.rest pc
          behind1.covered.0.1 (λ l none. none) stands1)) (needed (branch_zero t z.l ∷ z.rest) h1) go)
          behind (subst (λ x. HasAt e (code x rest) pc end) q stands) h

  -- a mask below 255 is one below 256
  masked_low : (k : ℤ) → is_mask (Some k) ≡ true → nat_lt (low_bytes 16 k) 256 ≡ true
  masked_low k q =
      let byte = mask_byte k q in
      let number = byte_value k byte in
      lt-ltb (low_bytes 16 k) 256 (subst (λ x. x < 256) (sym (byte_bytes k 16 byte (omega arith))) number.below)

  not_masked : (op : BinOp) (k : TakenNumber) → is_low_mask (Some k.number) op ≡ false → is_masked (Some (as_known k)) op ≡ false
  not_masked And k q = by_mask (is_mask (Some k.number)) refl
    where
      by_mask : (x : Bool) → is_mask (Some k.number) ≡ x → is_mask (Some k.number) ≡ false
      by_mask false r = r
      by_mask true r = absurd (false≢true (sym q ∙ masked_low k.number r))
  not_masked op k q = refl

  -- a sum, a difference, AND or OR
  bitwise_number : (start : ℕ) → Ready start all → (n : ℕ) → Onwards n → (op : BinOp) (o : Operator) → family_of op ≡ Combined o
      → is_changed o ≡ true → (ty : PlainType) (mode : Mode) (t a : Temp) (aty : PlainType) (b : Temp) (bty : PlainType)
      (k : TakenNumber) (pc : ℕ) (rest : List PlainIr) (m : Mach) (v : View)
      → AreIntegers slots t a b ty aty bty → IsKnown b k.number m → MaskedCase op ty mode t a aty b bty k pc rest n m v
  bitwise_number start ready n go op o is changed ty mode t a aty b bty k pc rest m v i known =
      ⊎_elim
      (λ (x : IsLowMasked op o k.number). subst (λ u. MaskedCase u ty mode t a aty b bty k pc rest n m v) (sym x.op_is)
      (low_mask_number start ready n go ty mode t a aty b bty k pc rest m v i known x.test x.small))
      (λ (x : IsUnmasked op o k.number). without_mask op ty mode t a aty b bty k pc rest n m v x.needs
      (combined_number op o is changed ty mode t a aty b bty k pc rest n m v i known (not_masked op k x.needs) x.code))
      (mask_or_not op o k.number is)

  -- comparisons and shifts mask nothing
  orders_mask_none : (op : BinOp) (r : Relation) (exchanged : Bool) (k : ℤ) → family_of op ≡ Compared r exchanged
      → is_low_mask (Some k) op ≡ false
  orders_mask_none And r exchanged k q = absurd cc
  orders_mask_none op r exchanged k q = refl

  shifts_mask_none : (op : BinOp) (up : Bool) (k : ℤ) → family_of op ≡ Shifted up → is_low_mask (Some k) op ≡ false
  shifts_mask_none And up k q = absurd cc
  shifts_mask_none op up k q = refl

  -- where both operands are below 256, what is known of the first one
  abbrev IsByte : Temp → TakenNumber → Mach → Type 0
  IsByte a k m =
      k.in_byte ≡ true → (1 < a.bytes) × (is_byte k.number ≡ true)
      × ((low : ℕ) → m.temps a.at ≡ Some (record { bytes = a.bytes; content = bits low }) → low < 256)

  -- so many bytes of two operands, of which the second one is known to hold a number, stand as the operands do
  record AreTakenBy (a b : Temp) (k : ℤ) (s : Bool) (size : ℕ) (sign : Bool) (m : Mach) : Type 0 where
    some : 1 ≤ size
    within : size ≤ a.bytes
    left : (low1 : ℕ) → m.temps a.at ≡ Some (record { bytes = a.bytes; content = bits low1 }) → low1 < 256 ^ a.bytes
        → low1 < 256 ^ size
    right : (low2 : ℕ) → m.temps b.at ≡ Some (record { bytes = b.bytes; content = bits low2 }) → low_bytes 16 k % 256 ^ size ≡ low2
    same : (r : Relation) (exchanged : Bool) (low1 low2 : ℕ) → m.temps a.at ≡ Some (record { bytes = a.bytes; content = bits low1 })
        → m.temps b.at ≡ Some (record { bytes = b.bytes; content = bits low2 })
        → stand_so r s a.bytes (first_of_two exchanged low1 low2) (first_of_two exchanged low2 low1)
        ≡ stand_so r sign size (first_of_two exchanged low1 low2) (first_of_two exchanged low2 low1)

  -- all bytes are compared
  by_all : (a b : Temp) (k : ℤ) (s : Bool) (m : Mach) → HasHome slots a → b.bytes ≡ a.bytes → IsKnown b k m
      → AreTakenBy a b k s a.bytes s m
  by_all a b k s m ia same known =
      record {
        some = ia.some;
        within = omega arith;
        left = λ low1 qa below. below;
        right = λ low2 qb.
            let eight = ia.most in
            number_low k a.bytes a.bytes (omega arith) (omega arith)
            ∙ kept_below (low_bytes a.bytes k) (256 ^ a.bytes) (low_below a.bytes k)
            ∙ ap (λ j. low_bytes j k) (sym same) ∙ sym (known low2 qb);
        same = λ r exchanged low1 low2 qa qb. refl;
      }

  -- the lowest one alone is
  by_byte : (a b : Temp) (k : ℤ) (s : Bool) (m : Mach) → HasHome slots a → b.bytes ≡ a.bytes → IsKnown b k m → 1 < a.bytes
      → is_byte k ≡ true
      → ((low : ℕ) → m.temps a.at ≡ Some (record { bytes = a.bytes; content = bits low }) → low < 256)
      → AreTakenBy a b k s 1 false m
  by_byte a b k s m ia same known more byte below =
      record {
        some = omega arith;
        within = omega (arith, more);
        left = λ low1 qa l. below low1 qa;
        right = λ low2 qb. low_is 16 (omega arith) ∙ sym (number_is low2 qb);
        same = λ r exchanged low1 low2 qa qb. ordered r exchanged low1 low2 (below low1 qa)
            (subst (λ x. x < 256) (sym (number_is low2 qb)) v.below);
      }
    where
      v : ByteNumber k
      v = byte_value k byte

      low_is : (n : ℕ) → 1 ≤ n → low_bytes n k % 256 ^ 1 ≡ v.value
      low_is n l = ap (λ x. x % 256 ^ 1) (byte_bytes k n byte l) ∙ kept_below v.value (256 ^ 1) v.below

      number_is : (low2 : ℕ) → m.temps b.at ≡ Some (record { bytes = b.bytes; content = bits low2 }) → low2 ≡ v.value
      number_is low2 qb = known low2 qb ∙ byte_bytes k b.bytes byte (omega (arith, same, more))

      ordered : (r : Relation) (exchanged : Bool) (low1 low2 : ℕ) → low1 < 256 → low2 < 256
          → stand_so r s a.bytes (first_of_two exchanged low1 low2) (first_of_two exchanged low2 low1)
          ≡ stand_so r false 1 (first_of_two exchanged low1 low2) (first_of_two exchanged low2 low1)
      ordered r false low1 low2 l1 l2 = byte_order r s a.bytes low1 low2 more l1 l2
      ordered r true low1 low2 l1 l2 = byte_order r s a.bytes low2 low1 more l2 l1

  -- the operands stand as the first one stands to the number
  compared_by : (a b : Temp) (k : ℤ) (r : Relation) (exchanged s sign : Bool) (size : ℕ) (m : Mach) → AreTakenBy a b k s size sign m
      → HasHome slots a → (exchanged ≡ true → is_order r ≡ true)
      → AreComparedBy a b r exchanged s (bound_of r exchanged sign size (low_bytes 16 k)) size m
  compared_by a b k r exchanged s sign size m h ia order =
      record {
        some = h.some;
        within = h.within;
        left = h.left;
        same = λ low1 low2 qa qb below. h.same r exchanged low1 low2 qa qb
            ∙ (let within = h.within in let eight = ia.most in
            bound_stands r exchanged sign size low1 low2 (low_bytes 16 k) order h.some (omega (arith, within, eight))
            (h.left low1 qa below) (h.right low2 qb));
      }

  -- a comparison
  compared_number : (start : ℕ) → Ready start all → (n : ℕ) → Onwards n → (op : BinOp) (r : Relation) (exchanged : Bool)
      → family_of op ≡ Compared r exchanged → (exchanged ≡ true → is_order r ≡ true)
      → (ty : PlainType) (mode : Mode) (t a : Temp) (aty : PlainType) (b : Temp) (bty : PlainType) (k : TakenNumber) (pc : ℕ)
      (rest : List PlainIr) (m : Mach) (v : View) → AreCompared slots t a b aty bty → IsKnown b k.number m → IsByte a k m
      → NumberCase op ty mode t a aty b bty k pc rest n m v
  compared_number start ready n go op r exchanged is order ty mode t a aty b bty k pc rest m v i known byte =
      (subst (λ x. NumberCase op ty mode t a x b bty k pc rest n m v) (sym i.left_type)
      (subst (λ x. NumberCase op ty mode t a (integer i.signed a.bytes) b x k pc rest n m v) (sym i.right_type)
      (λ behind stands h f. by_told (telling rest) refl behind stands h f)))
    where
      own : PlainIr
      own = binary_op op ty mode t a (integer i.signed a.bytes) b (integer i.signed b.bytes)

      size : ℕ
      size = compared_bytes (Some (as_known k)) a.bytes

      sign : Bool
      sign = compared_signed (Some (as_known k)) i.signed

      taken_so : AreTakenBy a b k.number i.signed size sign m
      taken_so = by_kind k.in_byte refl
        where
          by_kind : (x : Bool) → k.in_byte ≡ x
              → AreTakenBy a b k.number i.signed (if x then min 1 a.bytes else a.bytes) (if x then false else i.signed) m
          by_kind true q =
              let z = byte q in
              let more = z.0 in
              let one : 1 ≡ min 1 a.bytes = omega (arith, more) in
              subst (λ x. AreTakenBy a b k.number i.signed x false m) one
              (by_byte a b k.number i.signed m i.left i.same_bytes known more z.1 z.2)
          by_kind false q = by_all a b k.number i.signed m i.left i.same_bytes known

      own_bound : Bound
      own_bound = bound_of r exchanged sign size (low_bytes 16 k.number)

      by : AreComparedBy a b r exchanged i.signed own_bound size m
      by = compared_by a b k.number r exchanged i.signed sign size m taken_so i.left order

      compared_needed : (ops : List PlainIr) → M (number_needs op t a k ops) m v
          → M (at_least a.at (operand_wanted op size (wanted (needs at ops) t)) (without t.at (needs at ops))) m v
      compared_needed ops h =
          h

      telling : List PlainIr → Option Told
      telling ops = number_told op ty mode t a (integer i.signed a.bytes) (integer i.signed b.bytes) k ops

      taken_by : Option Told → List PlainIr → List AsmItem
      taken_by told ops =
          taking_code (Some (as_known k)) told (family_of op) i.signed i.signed (home a) (home b) (home t) a.bytes (wanted (needs at ops) t)

      code : Option Told → List PlainIr → List AsmItem
      code told ops = taken_by told ops ++ items_told told ops

      by_told : (told : Option Told) → telling rest ≡ told → Behind rest → HasAt e (code (telling rest) rest) pc end
          → M (number_needs op t a k rest) m v → Rest (suc n) rest → G (suc n) m.state.work pc v (P n own rest m)
      by_told None q behind stands h f =
          related_number_follows op r exchanged is i.signed own_bound size ty mode t a b rest n pc m v i.result i.left i.right
          i.same_bytes by
          (subst (λ x. HasAt e (taking_code (Some (as_known k)) None x i.signed i.signed (home a) (home b) (home t) a.bytes
          (wanted (needs at rest) t) ++ items rest) pc end) is (subst (λ x. HasAt e (code x rest) pc end) q stands))
          (compared_needed rest h) f
      by_told (Some told) q behind stands h f =
          let z = are_testing t rest (told_taking (Some (as_known k)) false op i.signed a.bytes) told q in
          subst
          (λ ops. Behind ops → HasAt e (code (Some told) ops) pc end → M (number_needs op t a k ops) m v
          → G (suc n) m.state.work pc v (P n own ops m)) (sym z.is)
          (λ behind1 stands1 h1.
          let by_flag : Some (so_told own_bound.relation own_bound.signed) ≡ Some told =
          ap (λ x. told_of (family_taking (Some (as_known k)) x i.signed a.bytes)
          (signed_taking (Some (as_known k)) x i.signed a.bytes)) (sym is)
          ∙ ap (λ (x : Bool). if x then Some (so_told NotEqual false)
          else told_of (family_taking (Some (as_known k)) (family_of op) i.signed a.bytes)
          (signed_taking (Some (as_known k)) (family_of op) i.signed a.bytes))
          (sym (order_unmasked op r exchanged (as_known k) is))
          ∙ z.by in
          let same : so_told own_bound.relation own_bound.signed ≡ told = cc in
          told_number_follows start z.l op r exchanged is i.signed own_bound size ty mode t a b z.rest n pc m v ready
          behind1 i.result i.left i.right i.same_bytes by z.none
          (subst (λ (x : Told). HasAt e (bounded_code (same_location (home a) (home t)) own_bound (home a) size
          ++ own_told (Some x) (branch_zero t z.l) z.rest) pc end) (sym same)
          (at_use_behind (bounded_code (same_location (home a) (home t)) own_bound (home a) size) (Some told) (branch_zero t z.l) z.rest pc
          behind1.covered.0.1 (λ l none. none)
          (subst (λ x. HasAt e (told_number_code x sign (home a) (home t) (low_bytes 16 k.number) size
          ++ items_told (Some told) (branch_zero t z.l ∷ z.rest)) pc end) is stands1)))
          (compared_needed (branch_zero t z.l ∷ z.rest) h1) go)
          behind (subst (λ x. HasAt e (code x rest) pc end) q stands) h

  -- a shift
  shifted_number : (op : BinOp) (up : Bool) → family_of op ≡ Shifted up → (ty : PlainType) (mode : Mode) (t a : Temp) (aty : PlainType)
      (b : Temp) (bty : PlainType) (k : TakenNumber) (pc : ℕ) (rest : List PlainIr) (n : ℕ) (m : Mach) (v : View)
      → IsBinary (Shifted up) slots t a b ty aty bty → IsKnown b k.number m → IsByte a k m
      → NumberCase op ty mode t a aty b bty k pc rest n m v
  shifted_number op up is ty mode t a aty b bty k pc rest n m v j known byte =
      let i = j.0 in
      let same : a.bytes ≡ t.bytes = i.same_bytes in
      let type : ty ≡ integer i.signed a.bytes = i.result_type ∙ ap (integer i.signed) (sym same) in
      (subst (λ x. NumberCase op x mode t a aty b bty k pc rest n m v) (sym type)
      (subst (λ x. NumberCase op (integer i.signed a.bytes) mode t a x b bty k pc rest n m v) (sym i.left_type)
      (subst (λ x. NumberCase op (integer i.signed a.bytes) mode t a (integer i.signed a.bytes) b x k pc rest n m v) (sym i.count_type)
      (λ behind stands h f. by_way i.signed i.count_signed i.result i.left i.count same up is k.in_byte refl
      (subst (λ x. HasAt e (taking_code (Some (as_known k)) None x i.signed i.count_signed (home a) (home b) (home t) a.bytes
      (wanted (needs at rest) t) ++ items rest) pc end) is
      (subst (λ x. HasAt e (taking_code (Some (as_known k)) x (family_of op) i.signed i.count_signed (home a) (home b) (home t) a.bytes
      (wanted (needs at rest) t) ++ items_told x rest) pc end)
      (untold (is_only_tested t (slice_get rest 0) (slice_index (wanted_bytes at rest) 0))
      (is_untold (family_of op) mode (integer i.signed a.bytes) (integer i.signed a.bytes)
      (integer i.count_signed b.bytes)) i.signed)
      stands)) h f))))
    where
      w : ℕ
      w = wanted (needs at rest) t

      none : (apart s : Bool) → told_by apart (family_taking (Some (as_known k)) (family_of op) s a.bytes)
          (signed_taking (Some (as_known k)) (family_of op) s a.bytes) ≡ None
      none true s = refl
      none false s =
          ap (λ x. told_of (family_taking (Some (as_known k)) x s a.bytes) (signed_taking (Some (as_known k)) x s a.bytes)) is

      untold : (only apart s : Bool) → (if only then told_taking (Some (as_known k)) apart op s a.bytes else None) ≡ None
      untold false apart s = refl
      untold true apart s =
          ap (λ (x : Bool). if x then Some (so_told NotEqual false) else told_by apart
          (family_taking (Some (as_known k)) (family_of op) s a.bytes) (signed_taking (Some (as_known k)) (family_of op) s a.bytes))
          (shift_unmasked op up (as_known k) is)
          ∙ none apart s

      -- no byte becomes 0
      all_shifted : (s : Bool) → a.bytes ≡ t.bytes → leaves_bit s (home t) a.bytes w (low_bytes 16 k.number % 256) ≡ false
          → counted_by_code false s (home a) (home t) a.bytes w (low_bytes 16 k.number % 256)
          ≡ counted_code (Right s) (home a) (home t) a.bytes (low_bytes 16 k.number % 256)
      all_shifted s same top_is =
          let most = wanted_most (needs at rest) t in
          let few : nat_le w a.bytes ≡ true = le-leb w a.bytes (omega (arith, most, same)) in
          let code = counted_code (Right s) (home a) (home t) a.bytes (low_bytes 16 k.number % 256) in
          ap (λ (x : Bool). if x then move_code (home a) (home t) a.bytes ++ top_bit_code (home t) a.bytes
          else code ++ extend_code false (home t) a.bytes w) top_is
          ∙ ap (λ (x : Bool). code ++ (if x then [] else widen_code false (home t) a.bytes (w - a.bytes))) few ∙ append-nil code

      by_way : (s s2 : Bool) → HasHome slots t → HasHome slots a → HasHome slots b → a.bytes ≡ t.bytes → (u : Bool)
          → family_of op ≡ Shifted u → (x : Bool) → k.in_byte ≡ x
          → HasAt e ((if w == 0 then [] else counted_by_code u (if x then false else s) (home a) (home t)
          (if x then min 1 a.bytes else a.bytes) w (low_bytes 16 k.number % 256)) ++ items rest) pc end
          → M (at_least a.at (operand_wanted op (if x then min 1 a.bytes else a.bytes) w) (without t.at (needs at rest))) m v
          → Rest (suc n) rest
          → G (suc n) m.state.work pc v
          (P n (binary_op op (integer s a.bytes) mode t a (integer s a.bytes) b (integer s2 b.bytes)) rest m)
      by_way s s2 it ia ib same true is x q stands h f =
          shifted_number_follows op true is s s2 mode t a b k.number
          (operand_wanted op (if x then min 1 a.bytes else a.bytes) w) rest n pc m v it ia ib same known
          (λ z. first_shifted op true is (if x then min 1 a.bytes else a.bytes) w z) stands h f
      by_way s s2 it ia ib same false is false q stands h f =
          by_bit (leaves_bit s (home t) a.bytes w (low_bytes 16 k.number % 256)) refl
        where
          by_bit : (x : Bool) → leaves_bit s (home t) a.bytes w (low_bytes 16 k.number % 256) ≡ x
              → G (suc n) m.state.work pc v
              (P n (binary_op op (integer s a.bytes) mode t a (integer s a.bytes) b (integer s2 b.bytes)) rest m)
          by_bit false top_is =
              shifted_number_follows op false is s s2 mode t a b k.number (operand_wanted op a.bytes w) rest n pc m v it ia ib same known
              (λ z. first_shifted op false is a.bytes w z)
              (subst (λ (x : List AsmItem). HasAt e ((if w == 0 then [] else x) ++ items rest) pc end) (all_shifted s same top_is) stands)
              h f
          by_bit true top_is =
              let u = leaves_top_bit s (home t) a.bytes w (low_bytes 16 k.number % 256) top_is in
              let some : (w == 0) ≡ false = ap (λ x. x == 0) u.one in
              subst (λ x. G (suc n) m.state.work pc v
              (P n (binary_op op (integer x a.bytes) mode t a (integer x a.bytes) b (integer s2 b.bytes)) rest m)) (sym u.plain)
              (top_bit_follows op is s2 mode t a b k.number u.register rest n pc m v it ia ib same known u.is u.one u.count
              (subst (λ x. HasAt e ((move_code (home a) (home t) a.bytes ++ top_bit_code x a.bytes) ++ items rest) pc end) u.is
              (subst (λ (x : Bool). HasAt e ((if x then move_code (home a) (home t) a.bytes ++ top_bit_code (home t) a.bytes
              else counted_code (Right s) (home a) (home t) a.bytes (low_bytes 16 k.number % 256)
              ++ extend_code false (home t) a.bytes w) ++ items rest) pc end) top_is
              (subst (λ (x : Bool). HasAt e ((if x then [] else counted_by_code false s (home a) (home t) a.bytes w
              (low_bytes 16 k.number % 256)) ++ items rest) pc end) some stands)))
              (subst (λ x. M (at_least a.at x (without t.at (needs at rest))) m v) (first_shifted op false is a.bytes w some) h) f)
      by_way s s2 it ia ib same false is true q stands h f =
          let z = byte q in
          let more = z.0 in
          let one : min 1 a.bytes ≡ 1 = omega (arith, more) in
          shifted_byte_follows op is s s2 mode t a b k.number (operand_wanted op (min 1 a.bytes) w) rest n pc m v it ia ib same known more
          z.2 (λ r. first_shifted op false is (min 1 a.bytes) w r ∙ one)
          (subst (λ x. HasAt e ((if w == 0 then [] else counted_by_code false false (home a) (home t) x w (low_bytes 16 k.number % 256))
          ++ items rest) pc end) one stands) h f

  number_follows : (start : ℕ) → Ready start all → (n : ℕ) → Onwards n → (op : BinOp) (ty : PlainType) (mode : Mode)
      (t a : Temp) (aty : PlainType) (b : Temp) (bty : PlainType) (k : TakenNumber) (pc : ℕ) (rest : List PlainIr) (m : Mach) (v : View)
      → takes_number op ≡ true → IsBinary (family_of op) slots t a b ty aty bty → IsKnown b k.number m → IsByte a k m
      → MaskedCase op ty mode t a aty b bty k pc rest n m v
  number_follows start ready n go op ty mode t a aty b bty k pc rest m v taken i known byte =
      ⊎_elim
      (λ (x : TakesSum op). bitwise_number start ready n go op x.operator x.is x.changed ty mode t a aty b bty k pc rest m v
      (subst (λ z. IsBinary z slots t a b ty aty bty) x.is i) known)
      (λ (z : TakesOrder op ⊎ TakesShift op). ⊎_elim
      (λ (x : TakesOrder op). without_mask op ty mode t a aty b bty k pc rest n m v
      (orders_mask_none op x.relation x.exchanged k.number x.is)
      (compared_number start ready n go op x.relation x.exchanged x.is x.order ty mode t a aty b bty k pc rest m v
      (subst (λ z. IsBinary z slots t a b ty aty bty) x.is i) known byte))
      (λ (x : TakesShift op). without_mask op ty mode t a aty b bty k pc rest n m v (shifts_mask_none op x.up k.number x.is)
      (shifted_number op x.up x.is ty mode t a aty b bty k pc rest n m v
      (subst (λ z. IsBinary z slots t a b ty aty bty) x.is i) known byte)) z)
      (takes op taken)

  -- two operands that are known to be below 256
  record AreLow (a b : Temp) (m : Mach) : Type 0 where
    more : 1 < a.bytes
    left : (low : ℕ) → m.temps a.at ≡ Some (record { bytes = a.bytes; content = bits low }) → low < 256
    right : (low : ℕ) → m.temps b.at ≡ Some (record { bytes = b.bytes; content = bits low }) → low < 256

  -- their comparison, by one byte of each
  low_same : (r : Relation) (exchanged s : Bool) (a b : Temp) (low1 low2 : ℕ) (m : Mach) → AreLow a b m
      → m.temps a.at ≡ Some (record { bytes = a.bytes; content = bits low1 })
      → m.temps b.at ≡ Some (record { bytes = b.bytes; content = bits low2 })
      → stand_so r s a.bytes (first_of_two exchanged low1 low2) (first_of_two exchanged low2 low1)
      ≡ stand_so r false 1 (first_of_two exchanged low1 low2) (first_of_two exchanged low2 low1)
  low_same r false s a b low1 low2 m low qa qb = byte_order r s a.bytes low1 low2 low.more (low.left low1 qa) (low.right low2 qb)
  low_same r true s a b low1 low2 m low qa qb = byte_order r s a.bytes low2 low1 low.more (low.right low2 qb) (low.left low1 qa)

  -- what is needed before it, where some of its result is needed
  low_needed : (op : BinOp) (r : Relation) (exchanged : Bool) → family_of op ≡ Compared r exchanged → (t a b : Temp)
      (ops : List PlainIr) (m : Mach) (v : View) → (wanted (needs at ops) t == 0) ≡ false
      → M (operands_needed op t a b (operand_wanted op 1 (wanted (needs at ops) t)) (right_wanted op 1 (wanted (needs at ops) t))
      (needs at ops)) m v
      → M (operands_needed op t a b 1 1 (needs at ops)) m v
  low_needed op r exchanged is t a b ops m v q h =
      subst (λ x. M (operands_needed op t a b x 1 (needs at ops)) m v) (all_wanted op r exchanged is 1 (wanted (needs at ops) t) q)
      (subst (λ x. M (operands_needed op t a b (operand_wanted op 1 (wanted (needs at ops) t)) x (needs at ops)) m v)
      (all_right_wanted op r exchanged is 1 (wanted (needs at ops) t) q) h)

  low_hold : (op : BinOp) (t a b : Temp) (need : Need) (low1 low2 : ℕ) (m : Mach) (v : View) → HasHome slots a → HasHome slots b
      → AreLow a b m → m.temps a.at ≡ Some (record { bytes = a.bytes; content = bits low1 })
      → m.temps b.at ≡ Some (record { bytes = b.bytes; content = bits low2 }) → M (operands_needed op t a b 1 1 need) m v
      → (value v.at (base a) 1 ≡ low1) × (value v.at (base b) 1 ≡ low2)
  low_hold op t a b need low1 low2 m v ia ib low qa qb h = (
    left_holds op t a b 1 1 low1 need m v ia ia.some qa h ∙ kept_below low1 (256 ^ 1) (low.left low1 qa),
    right_holds op t a b 1 1 low2 need m v ib ib.some qb h ∙ kept_below low2 (256 ^ 1) (low.right low2 qb),
  )

  related_bytes_follows : (op : BinOp) (r : Relation) (exchanged : Bool) → family_of op ≡ Compared r exchanged
      → (s : Bool) (ty : PlainType) (mode : Mode) (t a b : Temp) (rest : List PlainIr) (n pc : ℕ) (m : Mach) (v : View)
      → HasHome slots t → HasHome slots a → HasHome slots b → b.bytes ≡ a.bytes → AreLow a b m
      → HasAt e (bytes_code None (Compared r exchanged) (home a) (home b) (home t) 1 (wanted (needs at rest) t) ++ items rest) pc end
      → M (operands_needed op t a b (operand_wanted op 1 (wanted (needs at rest) t)) (right_wanted op 1 (wanted (needs at rest) t))
      (needs at rest)) m v
      → Rest (suc n) rest
      → G (suc n) m.state.work pc v (P n (binary_op op ty mode t a (integer s a.bytes) b (integer s b.bytes)) rest m)
  related_bytes_follows op r exchanged is s ty mode t a b rest n pc m v it ia ib same low stands h f =
      compared_numbers op r exchanged is s ty mode t a b rest n pc
      (operands_needed op t a b (operand_wanted op 1 w) (right_wanted op 1 w) need) m v ia ib same h
      (λ low1 low2 qa qb below1 below2.
      subst (λ (x : Bool). G (suc n) m.state.work pc v (R (suc n) rest (told_machine t x c m)))
      (sym (low_same r exchanged s a b low1 low2 m low qa qb))
      (⊎_elim (λ q. dead q low1 low2) (λ q. alive q exchanged low1 low2 qa qb is stands) (cases_Bool (w == 0))))
    where
      need : Need
      need = needs at rest

      w : ℕ
      w = wanted need t

      c : ℕ
      c = op_steps (binary_op op ty mode t a (integer s a.bytes) b (integer s b.bytes))

      Goes : Bool → Bool → (low1 low2 : ℕ) → Type 0
      Goes x sign low1 low2 =
          G (suc n) m.state.work pc v
          (R (suc n) rest (told_machine t (stand_so r sign 1 (first_of_two x low1 low2) (first_of_two x low2 low1)) c m))

      dead : (w == 0) ≡ true → (low1 low2 : ℕ) → Goes exchanged false low1 low2
      dead q low1 low2 =
          let truth = stand_so r false 1 (first_of_two exchanged low1 low2) (first_of_two exchanged low2 low1) in
          no_code_passes (bytes_code None (Compared r exchanged) (home a) (home b) (home t) 1 w) t
          (low_bytes t.bytes (pos (from_bool truth))) c rest n pc
          (operands_needed op t a b (operand_wanted op 1 w) (right_wanted op 1 w) need) m v it (none exchanged) (eqb-true w 0 q)
          (low_below t.bytes (pos (from_bool truth))) stands
          (other_needed op t a b (operand_wanted op 1 w) (right_wanted op 1 w) need) h f
        where
          none : (x : Bool) → bytes_code None (Compared r x) (home a) (home b) (home t) 1 w ≡ []
          none false = rw q refl
          none true = rw q refl

      alive : (w == 0) ≡ false → (x : Bool) → (low1 low2 : ℕ) → m.temps a.at ≡ Some (record { bytes = a.bytes; content = bits low1 })
          → m.temps b.at ≡ Some (record { bytes = b.bytes; content = bits low2 }) → family_of op ≡ Compared r x
          → HasAt e (bytes_code None (Compared r x) (home a) (home b) (home t) 1 w ++ items rest) pc end → Goes x false low1 low2
      alive q false low1 low2 qa qb is stands =
          let needed = low_needed op r false is t a b rest m v q h in
          let held = low_hold op t a b need low1 low2 m v ia ib low qa qb needed in
          let code = relation_in_code (truth_register (home t)) r false (home a) (home b) 1 ++ truth_at_code (home t) w in
          related_passes r false t a b 0 low1 low2 c rest n pc m.state.work (operands_needed op t a b 1 1 need) m v it ia ib
          ia.some ib.some (omega arith) held.0 held.1
          (omega (arith, relation_big op ty (integer s a.bytes) (integer s b.bytes)))
          (subst (λ (x : Bool). HasAt e ((if x then [] else code) ++ items rest) pc end) q stands)
          (other_needed op t a b 1 1 need) needed f
      alive q true low1 low2 qa qb is stands =
          let needed = low_needed op r true is t a b rest m v q h in
          let held = low_hold op t a b need low1 low2 m v ia ib low qa qb needed in
          let code = relation_in_code (truth_register (home t)) r false (home b) (home a) 1 ++ truth_at_code (home t) w in
          related_passes r false t b a 0 low2 low1 c rest n pc m.state.work (operands_needed op t a b 1 1 need) m v it ib ia
          ib.some ia.some (omega arith) held.1 held.0
          (omega (arith, relation_big op ty (integer s a.bytes) (integer s b.bytes)))
          (subst (λ (x : Bool). HasAt e ((if x then [] else code) ++ items rest) pc end) q stands)
          (other_needed op t a b 1 1 need) needed f

  -- and the branch behind it
  told_bytes_follows : (start l : ℕ) (op : BinOp) (r : Relation) (exchanged : Bool) → family_of op ≡ Compared r exchanged
      → (s : Bool) (ty : PlainType) (mode : Mode) (t a b : Temp) (rest : List PlainIr) (n pc : ℕ) (m : Mach) (v : View)
      → Ready start all → Behind (branch_zero t l ∷ rest) → HasHome slots t → HasHome slots a
      → HasHome slots b → b.bytes ≡ a.bytes → AreLow a b m → wanted (either (needs at rest) (labels l)) t ≡ 0
      → HasAt e (flag_code (Compared r exchanged) (home a) (home b) 1 ++ own_told (Some (so_told r false)) (branch_zero t l) rest) pc end
      → M (operands_needed op t a b (operand_wanted op 1 (wanted (needs at (branch_zero t l ∷ rest)) t))
      (right_wanted op 1 (wanted (needs at (branch_zero t l ∷ rest)) t)) (needs at (branch_zero t l ∷ rest))) m v
      → Onwards n
      → G (suc n) m.state.work pc v
      (P n (binary_op op ty mode t a (integer s a.bytes) b (integer s b.bytes)) (branch_zero t l ∷ rest) m)
  told_bytes_follows start l op r exchanged is s ty mode t a b rest n pc m v ready behind it ia ib same low none stands h f =
      compared_numbers op r exchanged is s ty mode t a b (branch_zero t l ∷ rest) n pc
      (operands_needed op t a b (operand_wanted op 1 (wanted need t)) (right_wanted op 1 (wanted need t)) need) m v ia ib same h
      (λ low1 low2 qa qb below1 below2.
      subst (λ (x : Bool). G (suc n) m.state.work pc v (R (suc n) (branch_zero t l ∷ rest) (told_machine t x c m)))
      (sym (low_same r exchanged s a b low1 low2 m low qa qb)) (by_side exchanged low1 low2 qa qb is stands))
    where
      need : Need
      need = needs at (branch_zero t l ∷ rest)

      c : ℕ
      c = op_steps (binary_op op ty mode t a (integer s a.bytes) b (integer s b.bytes))

      size : ℕ
      size = compared_bytes (at.known (branch_zero t l ∷ rest)) t.bytes

      tested_needed : (wanted need t == 0) ≡ false
      tested_needed =
          let here = least_here t.at size (either (needs at rest) (labels l)) in
          let some = it.some in
          let tests = compared_some (at.known (branch_zero t l ∷ rest)) t.bytes it.some in
          ne_eqb (wanted need t) 0 (λ q. absurd (omega (arith, here, some, tests, q)))

      more : (k : ℕ) → k ≢ t.at → either (needs at rest) (labels l) k ≤ operands_needed op t a b 1 1 need k
      more k d =
          let x = other_needed op t a b 1 1 need k d in
          let z = least_other t.at size k (either (needs at rest) (labels l)) in
          omega (arith, x, z)

      by_side : (x : Bool) → (low1 low2 : ℕ) → m.temps a.at ≡ Some (record { bytes = a.bytes; content = bits low1 })
          → m.temps b.at ≡ Some (record { bytes = b.bytes; content = bits low2 }) → family_of op ≡ Compared r x
          → HasAt e (flag_code (Compared r x) (home a) (home b) 1 ++ own_told (Some (so_told r false)) (branch_zero t l) rest) pc end
          → G (suc n) m.state.work pc v
          (R (suc n) (branch_zero t l ∷ rest)
          (told_machine t (stand_so r false 1 (first_of_two x low1 low2) (first_of_two x low2 low1)) c m))
      by_side false low1 low2 qa qb is stand =
          let needed = low_needed op r false is t a b (branch_zero t l ∷ rest) m v tested_needed h in
          let held = low_hold op t a b need low1 low2 m v ia ib low qa qb needed in
          told_passes start l r false t a b 0 low1 low2 c rest n pc (operands_needed op t a b 1 1 need) m v ready behind it ia ib
          ia.some ib.some (omega arith) held.0 held.1 (relation_big op ty (integer s a.bytes) (integer s b.bytes)) none stand more needed f
      by_side true low1 low2 qa qb is stand =
          let needed = low_needed op r true is t a b (branch_zero t l ∷ rest) m v tested_needed h in
          let held = low_hold op t a b need low1 low2 m v ia ib low qa qb needed in
          told_passes start l r false t b a 0 low2 low1 c rest n pc (operands_needed op t a b 1 1 need) m v ready behind it ib ia
          ib.some ia.some (omega arith) held.1 held.0 (relation_big op ty (integer s a.bytes) (integer s b.bytes)) none stand more needed f

  -- what it tells, its code and what comes after it
  abbrev bytes_told : BinOp → PlainType → Mode → Temp → (aty bty : PlainType) → List PlainIr → Option Told
  bytes_told op ty mode t aty bty rest =
      if is_only_tested t (slice_get rest 0) (slice_index (wanted_bytes at rest) 0)
      then told_by (is_untold (family_of op) mode ty aty bty) (family_of op) false else None

  abbrev bytes_items : BinOp → PlainType → Mode → (t a : Temp) → PlainType → Temp → PlainType → List PlainIr → List AsmItem
  bytes_items op ty mode t a aty b bty rest =
      bytes_code (bytes_told op ty mode t aty bty rest) (family_of op) (home a) (home b) (home t) (min 1 a.bytes) (wanted (needs at rest) t)
      ++ items_told (bytes_told op ty mode t aty bty rest) rest

  abbrev bytes_needs : BinOp → (t a b : Temp) → List PlainIr → Need
  bytes_needs op t a b rest =
      operands_needed op t a b (operand_wanted op (min 1 a.bytes) (wanted (needs at rest) t))
      (right_wanted op (min 1 b.bytes) (wanted (needs at rest) t)) (needs at rest)

  abbrev BytesCase : BinOp → PlainType → Mode → (t a : Temp) → PlainType → Temp → PlainType → ℕ → List PlainIr → (n : ℕ) → Mach → View
      → Type 0
  BytesCase op ty mode t a aty b bty pc rest n m v =
      Behind rest → HasAt e (bytes_items op ty mode t a aty b bty rest) pc end → M (bytes_needs op t a b rest) m v
      → Rest (suc n) rest → G (suc n) m.state.work pc v (P n (binary_op op ty mode t a aty b bty) rest m)

  bytes_follow : (start : ℕ) → Ready start all → (n : ℕ) → Onwards n → (op : BinOp) (r : Relation) (exchanged : Bool)
      → family_of op ≡ Compared r exchanged
      → (ty : PlainType) (mode : Mode) (t a : Temp) (aty : PlainType) (b : Temp) (bty : PlainType) (pc : ℕ)
      (rest : List PlainIr) (m : Mach) (v : View) → AreCompared slots t a b aty bty → AreLow a b m
      → BytesCase op ty mode t a aty b bty pc rest n m v
  bytes_follow start ready n go op r exchanged is ty mode t a aty b bty pc rest m v i low =
      (subst (λ x. BytesCase op ty mode t a x b bty pc rest n m v) (sym i.left_type)
      (subst (λ x. BytesCase op ty mode t a (integer i.signed a.bytes) b x pc rest n m v) (sym i.right_type)
      (λ behind stands h f. by_told (telling rest) refl behind stands (needed rest h) f)))
    where
      own : PlainIr
      own = binary_op op ty mode t a (integer i.signed a.bytes) b (integer i.signed b.bytes)

      one_left : min 1 a.bytes ≡ 1
      one_left = let some = i.left.some in omega arith

      one_right : min 1 b.bytes ≡ 1
      one_right = let some = i.right.some in omega arith

      telling : List PlainIr → Option Told
      telling ops = bytes_told op ty mode t (integer i.signed a.bytes) (integer i.signed b.bytes) ops

      code : Option Told → ℕ → List PlainIr → List AsmItem
      code told bytes ops =
          bytes_code told (family_of op) (home a) (home b) (home t) bytes (wanted (needs at ops) t) ++ items_told told ops

      one_needs : List PlainIr → Need
      one_needs ops =
          operands_needed op t a b (operand_wanted op 1 (wanted (needs at ops) t)) (right_wanted op 1 (wanted (needs at ops) t))
          (needs at ops)

      needed : (ops : List PlainIr) → M (bytes_needs op t a b ops) m v → M (one_needs ops) m v
      needed ops h =
          subst (λ x. M (operands_needed op t a b (operand_wanted op 1 (wanted (needs at ops) t))
          (right_wanted op x (wanted (needs at ops) t)) (needs at ops)) m v) one_right
          (subst (λ x. M (operands_needed op t a b (operand_wanted op x (wanted (needs at ops) t))
          (right_wanted op (min 1 b.bytes) (wanted (needs at ops) t)) (needs at ops)) m v) one_left h)

      by_told : (told : Option Told) → telling rest ≡ told → Behind rest → HasAt e (code (telling rest) (min 1 a.bytes) rest) pc end
          → M (one_needs rest) m v → Rest (suc n) rest → G (suc n) m.state.work pc v (P n own rest m)
      by_told None q behind stands h f =
          related_bytes_follows op r exchanged is i.signed ty mode t a b rest n pc m v i.result i.left i.right i.same_bytes low
          (subst (λ x. HasAt e (bytes_code None x (home a) (home b) (home t) 1 (wanted (needs at rest) t) ++ items rest) pc end) is
          (subst (λ x. HasAt e (code None x rest) pc end) one_left (subst (λ x. HasAt e (code x (min 1 a.bytes) rest) pc end) q stands)))
          h f
      by_told (Some told) q behind stands h f =
          let z = are_testing t rest (told_by false (family_of op) false) told q in
          subst
          (λ ops. Behind ops → HasAt e (code (Some told) 1 ops) pc end → M (one_needs ops) m v
          → G (suc n) m.state.work pc v (P n own ops m)) (sym z.is)
          (λ behind1 stands1 h1.
          let by_flag : Some (Operands r false) ≡ Some told = ap (λ x. told_of x false) (sym is) ∙ z.by in
          let same : Operands r false ≡ told = cc in
          told_bytes_follows start z.l op r exchanged is i.signed ty mode t a b z.rest n pc m v ready behind1
          i.result i.left i.right i.same_bytes low z.none
          (subst (λ (x : Told). HasAt e (flag_code (Compared r exchanged) (home a) (home b) 1
          ++ own_told (Some x) (branch_zero t z.l) z.rest) pc end) (sym same)
          (at_use_behind (flag_code (Compared r exchanged) (home a) (home b) 1) (Some told) (branch_zero t z.l) z.rest pc
          behind1.covered.0.1 (λ l none. none)
          (subst (λ x. HasAt e (x ++ items_told (Some told) (branch_zero t z.l ∷ z.rest)) pc end)
          (ap (λ x. bytes_code (Some told) x (home a) (home b) (home t) 1 (wanted (needs at (branch_zero t z.l ∷ z.rest)) t)) is
          ∙ flags exchanged (wanted (needs at (branch_zero t z.l ∷ z.rest)) t) told) stands1)))
          h1 go)
          behind (subst (λ x. HasAt e (code (Some told) x rest) pc end) one_left
          (subst (λ x. HasAt e (code x (min 1 a.bytes) rest) pc end) q stands)) h
        where
          flags : (x : Bool) (w : ℕ) (told : Told)
              → bytes_code (Some told) (Compared r x) (home a) (home b) (home t) 1 w ≡ flag_code (Compared r x) (home a) (home b) 1
          flags false w told = refl
          flags true w told = refl

  -- ---- operators whose second operand alone is below 256

  joined_follows : (op : BinOp) (o : Operator) → family_of op ≡ Combined o → is_joined o ≡ true → (s s1 s2 : Bool) (mode : Mode)
      (t a b : Temp) (rest : List PlainIr) (n pc : ℕ) (m : Mach) (v : View) → HasHome slots t → HasHome slots a
      → HasHome slots b → a.bytes ≡ t.bytes → b.bytes ≡ t.bytes → IsAlone t b m.temps
      → HasAt e (joined_code o (home a) (home b) (home t) (wanted (needs at rest) t) ++ items rest) pc end
      → M (operands_needed op t a b (wanted (needs at rest) t) (min (wanted (needs at rest) t) 1) (needs at rest)) m v
      → Rest (suc n) rest
      → G (suc n) m.state.work pc v
      (P n (binary_op op (integer s t.bytes) mode t a (integer s1 a.bytes) b (integer s2 b.bytes)) rest m)
  joined_follows op o is join s s1 s2 mode t a b rest n pc m v it ia ib sa sb alone stands h f =
      let need = needs at rest in
      let i = binary_op op (integer s t.bytes) mode t a (integer s1 a.bytes) b (integer s2 b.bytes) in
      let c = op_steps i in
      let st = worked c m.state in
      let k = wanted need t in
      let one = min k 1 in
      let few : one ≤ k = omega arith in
      let most = wanted_most need t in
      let first = move_code (home a) (home t) k in
      let second = operate_code o (home b) (home t) one in
      let code = first ++ second in
      let big : 10 * k + 1 ≤ c = operator_big op (integer s t.bytes) (integer s1 a.bytes) (integer s2 b.bytes) k most in
      let straight : all_straight code ≡ true =
      straight-append first second (move_straight (home a) (home t) k) (pieces_are_straight o (home b) (home t) one).1 in
      let x = move_steps (home a) (home t) k in
      let z = (pieces_take o (home b) (home t) one).1.1 in
      let steps = steps-append first second in
      from_number p place e s1 a m.temps st _ (suc n) m.state.work pc v
      (λ low1 qa. from_number p place e s2 b m.temps st _ (suc n) m.state.work pc v
      (λ low2 qb.
      let below1 : low1 < 256 ^ t.bytes = subst (λ x. low1 < 256 ^ x) sa (h.temps_hold a _ ia qa refl).1 in
      let below2 : low2 < 256 ^ t.bytes = subst (λ x. low2 < 256 ^ x) sb (h.temps_hold b _ ib qb refl).1 in
      let g = gives_of op o is p mode s s1 s2 t.bytes a.bytes b.bytes low1 low2 st st sa sb below1 below2 in
      let m1 = after_operator t (low_bytes t.bytes g.number) c m in
      let matches : M need (after_operator t (result_of o t.bytes low1 low2) c m) (block e code v) =
      joined_matches p e slots home base place y o join t a b need m v c low1 low2 it ia ib sa sb alone.apart (alone.below low2 qb)
      qa qb h in
      let matches1 : M need m1 (block e code v) =
      subst (λ r. M need (after_operator t r c m) (block e code v)) (sym g.low) matches in
      subst (λ r. G (suc n) m.state.work pc v (next (given r st) (λ u s3. R (suc n) rest (machine (with_temp t u m.temps) s3)))) (sym g.is)
      (goes_past code (items rest) (suc n) (suc n) m.state.work m1.state.work pc v (R (suc n) rest m1) stands straight (omega arith)
      (omega (arith, x, z, few, steps, big))
      (λ mid u. f mid m1 _ u matches1))))

  joined_integers : (op : BinOp) (o : Operator) → family_of op ≡ Combined o → is_joined o ≡ true → (ty : PlainType) (mode : Mode)
      (t a : Temp) (aty : PlainType) (b : Temp) (bty : PlainType) (pc : ℕ) (rest : List PlainIr) (n : ℕ) (m : Mach) (v : View)
      → AreIntegers slots t a b ty aty bty → IsAlone t b m.temps
      → HasAt e (joined_code o (home a) (home b) (home t) (wanted (needs at rest) t) ++ items rest) pc end
      → M (operands_needed op t a b (operand_wanted op a.bytes (wanted (needs at rest) t))
      (right_wanted op b.bytes (min (wanted (needs at rest) t) 1)) (needs at rest)) m v → Rest (suc n) rest
      → G (suc n) m.state.work pc v (P n (binary_op op ty mode t a aty b bty) rest m)
  joined_integers op o is join ty mode t a aty b bty pc rest n m v i alone stands h f =
      (subst (λ x. G (suc n) m.state.work pc v (P n (binary_op op x mode t a aty b bty) rest m)) (sym i.result_type)
      (subst (λ x. G (suc n) m.state.work pc v (P n (binary_op op (integer i.signed t.bytes) mode t a x b bty) rest m)) (sym i.left_type)
      (subst (λ x. G (suc n) m.state.work pc v (P n (binary_op op (integer i.signed t.bytes) mode t a (integer i.left_signed a.bytes) b x)
      rest m)) (sym i.right_type)
      (joined_follows op o is join i.signed i.left_signed i.right_signed mode t a b rest n pc m v i.result i.left i.right
      i.left_bytes i.right_bytes alone stands
      (subst (λ x. M (operands_needed op t a b (wanted (needs at rest) t) x (needs at rest)) m v)
      (low_right_wanted op o is b.bytes (min (wanted (needs at rest) t) 1))
      (subst (λ x. M (operands_needed op t a b x (right_wanted op b.bytes (min (wanted (needs at rest) t) 1)) (needs at rest)) m v)
      (low_bytes_wanted op o is a.bytes (wanted (needs at rest) t)) h)) f))))

  -- they tell nothing
  untold_joined : (op : BinOp) → changes_byte op ≡ true → (only apart s : Bool) (bytes : ℕ)
      → (if only then told_taking (Some (no_number false)) apart op s bytes else None) ≡ None
  untold_joined Or q false apart s bytes = refl
  untold_joined Or q true true s bytes = refl
  untold_joined Or q true false s bytes = refl
  untold_joined Xor q false apart s bytes = refl
  untold_joined Xor q true true s bytes = refl
  untold_joined Xor q true false s bytes = refl
  untold_joined op q only apart s bytes = absurd cc

  -- ---- operators on numbers of one fixed-point format, which are those of the integers of their bytes

  -- the run of an operator on two integers
  whole_run : (op : BinOp) (ty : PlainType) (mode : Mode) (t a b : Temp) (k : FxKind) (low1 low2 : ℕ) (number : ℤ) (rest : List PlainIr)
      (n : ℕ) (m : Mach) (st : State)
      → st ≡ worked (op_steps (binary_op op ty mode t a (whole_type k) b (whole_type k))) m.state
      → m.temps a.at ≡ Some (record { bytes = a.bytes; content = bits low1 })
      → m.temps b.at ≡ Some (record { bytes = b.bytes; content = bits low2 })
      → binary_result op ty mode (operand_of p (whole_type k) (Number (whole_of k low1)) st)
      (operand_of p (whole_type k) (Number (whole_of k low2)) st) ≡ Ok (Number number)
      → P n (binary_op op ty mode t a (whole_type k) b (whole_type k)) rest m
      ≡ R (suc n) rest (machine (with_temp t (Number number) m.temps) st)
  whole_run op ty mode t a b k low1 low2 number rest n m st e qa qb is =
      let sign = (format_of k).signed in
      let bytes = (format_of k).bits / 8 in
      let go = λ (u : Value) (s3 : State). R (suc n) rest (machine (with_temp t u m.temps) s3) in
      let result = λ (x z : Value) (s : State). next (given (binary_result op ty mode (operand_of p (whole_type k) x s)
      (operand_of p (whole_type k) z s)) s) go in
      let i = binary_op op ty mode t a (whole_type k) b (whole_type k) in
      ap (λ s. next (held_as p (whole_type k) a m.temps s) (λ x s1. next (held_as p (whole_type k) b m.temps s1) (λ z s2. result x z s2)))
      (sym e)
      ∙ ap (λ o. next o (λ x s1. next (held_as p (whole_type k) b m.temps s1) (λ z s2. result x z s2)))
      (whole_held sign bytes low1 a m.temps st qa)
      ∙ ap (λ o. next o (λ z s2. result (Number (whole_of k low1)) z s2)) (whole_held sign bytes low2 b m.temps st qb)
      ∙ ap (λ z. next (given z st) go) is

  -- an operator on numbers of one format does what it does to the integers of their bytes
  as_integers : (op : BinOp) (ty : PlainType) (mode : Mode) (t a : Temp) (aty : PlainType) (b : Temp) (bty : PlainType) (pc : ℕ)
      (rest : List PlainIr) (n : ℕ) (m : Mach) (v : View) (h : IsOnWholes slots op mode t a b ty aty bty)
      → G (suc n) m.state.work pc v (P n (binary_op op h.result mode t a (whole_type h.kind) b (whole_type h.kind)) rest m)
      → G (suc n) m.state.work pc v (P n (binary_op op ty mode t a aty b bty) rest m)
  as_integers op ty mode t a aty b bty pc rest n m v h done =
      subst (λ x. G (suc n) m.state.work pc v (P n (binary_op op ty mode t a x b bty) rest m)) (sym h.left_is)
      (subst (λ x. G (suc n) m.state.work pc v (P n (binary_op op ty mode t a (fixed k s1) b x) rest m)) (sym h.right_is)
      (from_typed p place e (fixed k s1) a m.temps st _ (suc n) m.state.work pc v tt
      (λ low1 qa. from_typed p place e (fixed k s2) b m.temps st _ (suc n) m.state.work pc v tt
      (λ low2 qb. by_result low1 low2 qa qb
      (binary_result op ty mode (operand_of p (fixed k s1) (Number (whole_of k low1)) st)
      (operand_of p (fixed k s2) (Number (whole_of k low2)) st)) refl))))
    where
      k : FxKind
      k = h.kind

      s1 : Bool
      s1 = h.first_saturates

      s2 : Bool
      s2 = h.second_saturates

      whole : PlainType
      whole = h.result

      i : PlainIr
      i = binary_op op ty mode t a (fixed k s1) b (fixed k s2)

      i1 : PlainIr
      i1 = binary_op op whole mode t a (whole_type k) b (whole_type k)

      st : State
      st = worked (op_steps i) m.state

      steps : st ≡ worked (op_steps i1) m.state
      steps = ap (λ c. worked (64 * c) m.state) h.words

      by_result : (low1 low2 : ℕ)
          → m.temps a.at ≡ Some (record { bytes = a.bytes; content = bits low1 })
          → m.temps b.at ≡ Some (record { bytes = b.bytes; content = bits low2 }) → (z : Result Value Undefined)
          → binary_result op ty mode (operand_of p (fixed k s1) (Number (whole_of k low1)) st)
          (operand_of p (fixed k s2) (Number (whole_of k low2)) st) ≡ z
          → G (suc n) m.state.work pc v (next (given z st) (λ u s3. R (suc n) rest (machine (with_temp t u m.temps) s3)))
      by_result low1 low2 qa qb (Err point) q = tt
      by_result low1 low2 qa qb (Ok r) q =
          let g = h.gives p low1 low2 st r q in
          let is = whole_run op whole mode t a b k low1 low2 g.number rest n m st steps qa qb g.is in
          subst (λ (x : Content). G (suc n) m.state.work pc v (R (suc n) rest (machine (with_content t x m.temps) st))) (sym g.same)
          (subst (λ o. G (suc n) m.state.work pc v o) is done)

  -- where the code of an operator is that on integers, it does what that does
  on_integers_follow : (start : ℕ) → Ready start all → (n : ℕ) → Onwards n → (op : BinOp) (ty : PlainType) (mode : Mode)
      (t a : Temp) (aty : PlainType) (b : Temp) (bty : PlainType) (pc : ℕ) (rest : List PlainIr) (m : Mach) (v : View)
      → is_on_integers (family_of op) mode ty aty bty ≡ true → IsOnWholes slots op mode t a b ty aty bty
      → Rest (suc n) rest → Behind rest
      → HasAt e (plain_items (binary_op op ty mode t a aty b bty) rest) pc end → M
      (plain_needs (binary_op op ty mode t a aty b bty) rest) m v
      → G (suc n) m.state.work pc v (P n (binary_op op ty mode t a aty b bty) rest m)
  on_integers_follow start ready n go op ty mode t a aty b bty pc rest m v on h f r stands needed =
      as_integers op ty mode t a aty b bty pc rest n m v h
      ((subst (λ x. done x bty) (sym h.left_is) (subst (λ x. done (fixed k s1) x) (sym h.right_is) run)) on stands needed)
    where
      k : FxKind
      k = h.kind

      s1 : Bool
      s1 = h.first_saturates

      s2 : Bool
      s2 = h.second_saturates

      i : PlainIr
      i = binary_op op ty mode t a (fixed k s1) b (fixed k s2)

      i1 : PlainIr
      i1 = binary_op op h.result mode t a (whole_type k) b (whole_type k)

      -- of operands with these types
      done : (x z : PlainType) → Type 0
      done x z =
          is_on_integers (family_of op) mode ty x z ≡ true
          → HasAt e (plain_items (binary_op op ty mode t a x b z) rest) pc end
          → M (plain_needs (binary_op op ty mode t a x b z) rest) m v → G (suc n) m.state.work pc v (P n i1 rest m)

      w : ℕ
      w = wanted (needs at rest) t

      sign : Bool
      sign = (format_of k).signed

      only : Bool
      only = is_only_tested t (slice_get rest 0) (slice_index (wanted_bytes at rest) 0)

      code : is_on_integers (family_of op) mode ty (fixed k s1) (fixed k s2) ≡ true → plain_items i rest ≡ plain_items i1 rest
      code on =
          let tells_same : plain_told i rest ≡ plain_told i1 rest =
          ap (λ z. if only then told_by (not z) (family_of op) sign else None) on in
          ap (λ z. (if z then operator_code (plain_told i rest) (family_of op) sign sign (home a) (home b) (home t) a.bytes w
          else (if is_placed op mode ty (fixed k s1) (fixed k s2) && not (same_location (home b) (home t))
          then placed_binary None op sign (home a) (home b) (home t) a.bytes w
          else answer_code (fixed_binary_code op ty (fixed k s1) (fixed k s2) mode (home a) (home b) answer_location work_location)
          (home t) w)) ++ items_told (plain_told i rest) rest) on
          ∙ ap (λ z. operator_code z (family_of op) sign sign (home a) (home b) (home t) a.bytes w ++ items_told z rest) tells_same

      run : done (fixed k s1) (fixed k s2)
      run on own needed =
          integers_follow start ready n go op h.result mode t a (whole_type k) b (whole_type k) pc rest m v h.binary r
          (subst (λ (x : List AsmItem). HasAt e x pc end) (code on) own)
          (subst (λ z. M (operands_needed op t a b (first_wanted z op a.bytes w) (second_wanted z op b.bytes w) (needs at rest)) m v)
          (ap not on) needed) f

  -- the same where it takes a known number
  on_number_follows : (start : ℕ) → Ready start all → (n : ℕ) → Onwards n → (op : BinOp) (ty : PlainType) (mode : Mode)
      (t a : Temp) (aty : PlainType) (b : Temp) (bty : PlainType) (number : TakenNumber) (pc : ℕ) (rest : List PlainIr) (m : Mach)
      (v : View) → takes_number op ≡ true → IsKnown b number.number m → IsByte a number m
      → is_on_integers (family_of op) mode ty aty bty ≡ true → IsOnWholes slots op mode t a b ty aty bty
      → MaskedCase op ty mode t a aty b bty number pc rest n m v
  on_number_follows start ready n go op ty mode t a aty b bty number pc rest m v taken known byte on h behind stands needed f =
      as_integers op ty mode t a aty b bty pc rest n m v h
      ((subst (λ x. done x bty) (sym h.left_is) (subst (λ x. done (fixed k s1) x) (sym h.right_is) run)) on stands)
    where
      k : FxKind
      k = h.kind

      s1 : Bool
      s1 = h.first_saturates

      s2 : Bool
      s2 = h.second_saturates

      sign : Bool
      sign = (format_of k).signed

      only : Bool
      only = is_only_tested t (slice_get rest 0) (slice_index (wanted_bytes at rest) 0)

      -- of operands with these types
      done : (x z : PlainType) → Type 0
      done x z =
          is_on_integers (family_of op) mode ty x z ≡ true → HasAt e (number_items op ty mode t a x b z number rest) pc end
          → G (suc n) m.state.work pc v (P n (binary_op op h.result mode t a (whole_type k) b (whole_type k)) rest m)

      -- the code where it tells so much
      items_telling : Option Told → List AsmItem
      items_telling told =
          taking_code (Some (as_known number)) told (family_of op) sign sign (home a) (home b) (home t) a.bytes (wanted (needs at rest) t)
          ++ items_told told rest

      run : done (fixed k s1) (fixed k s2)
      run on own =
          number_follows start ready n go op h.result mode t a (whole_type k) b (whole_type k) number pc rest m v taken h.binary known byte
          behind
          (subst (λ z. HasAt e
          (items_telling (if only then told_taking (Some (as_known number)) (not z) op sign a.bytes else None)) pc end) on own)
          needed f

  -- where an operand is no integer, no number is taken
  none_taken : (op : BinOp) (known : Option RightNumber) (whole : Bool) → whole ≡ true → number_taken known whole op ≡ None
  none_taken op None whole q = refl
  none_taken op (Some k) whole q = ap (λ x. if not x && takes_known k.number k.in_byte op then Some k else None) q

  -- of the code of one kind, that of the others says nothing
  other_same : (own : Bool) (c g x : List AsmItem) → own ≡ false → code_by_kind own c x ≡ code_by_kind own g x
  other_same true c g x q = absurd cc
  other_same false c g x q = refl

  pointer_whole : (x : PlainType) → is_pointer x ≡ true → is_whole x ≡ true
  pointer_whole (pointer space const to) q = refl
  pointer_whole (integer signed bytes) q = absurd cc
  pointer_whole (fixed kind saturates) q = absurd cc
  pointer_whole void q = absurd cc
  pointer_whole (array of len) q = absurd cc
  pointer_whole (struct index) q = absurd cc

  either_whole : (x z : PlainType) → (is_pointer x || is_pointer z) ≡ true → (is_whole x || is_whole z) ≡ true
  either_whole x z q =
      ⊎_elim
      (λ (w : is_pointer x ≡ true). ap (λ u. u || is_whole z) (pointer_whole x w))
      (λ (w : is_pointer z ≡ true). or_right (is_whole x) (is_whole z) (pointer_whole z w))
      (or_cases (is_pointer x) (is_pointer z) q)

  -- an operator whose code stands at its use
  own_binary_follows : (start : ℕ) → Ready start all → (n : ℕ) → Onwards n → (op : BinOp) (ty : PlainType) (mode : Mode)
      (t a : Temp) (aty : PlainType) (b : Temp) (bty : PlainType) (pc : ℕ) (rest : List PlainIr) (m : Mach) (v : View)
      → Ready pc (binary_op op ty mode t a aty b bty ∷ rest) → HasAt e (own_items (binary_op op ty mode t a aty b bty) rest) pc end
      → M (needs at (binary_op op ty mode t a aty b bty ∷ rest)) m v
      → is_known all (binary_op op ty mode t a aty b bty ∷ rest) m ≡ true → Rest (suc n) rest
      → G (suc n) m.state.work pc v (P n (binary_op op ty mode t a aty b bty) rest m)
  own_binary_follows start ready n go op ty mode t a aty b bty pc rest m v r stands h held f =
      ⊎_elim
      (λ (k : IsBinary (family_of op) slots t a b ty aty bty). on_integers k (number_taken known false op) refl)
      (λ j. ⊎_elim
      (λ (k : IsFixedBinary slots op t a b ty aty bty). on_fixed k)
      (λ (k : IsPointerBinary p slots op t a b ty aty bty). on_pointers k)
      j)
      r.covered.0.0
    where
      i : PlainIr
      i = binary_op op ty mode t a aty b bty

      known : Option RightNumber
      known = at.known (i ∷ rest)

      telling : Option Told
      telling = tells_next link.core p home at None i rest

      w : ℕ
      w = wanted (needs at rest) t

      is_fx : Bool
      is_fx = is_fixed aty || is_fixed bty

      is_px : Bool
      is_px = is_pointer aty || is_pointer bty

      is_wx : Bool
      is_wx = is_whole aty || is_whole bty

      is_ax : Bool
      is_ax = is_apart (family_of op) mode ty aty bty

      is_on : Bool
      is_on = is_on_integers (family_of op) mode ty aty bty

      of_fixed : List AsmItem
      of_fixed = fixed_binary known telling op ty aty bty mode (home a) (home b) (home t) a.bytes w

      of_pointers : Option Told → Option RightNumber → List AsmItem
      of_pointers told x =
          pointer_binary x told link.core (is_pointer aty) (is_pointer bty) p op aty bty (home a) (home b) (home t) a.bytes b.bytes w

      -- what it tells where so much of the second operand is taken
      telling_with : Option RightNumber → Option Told
      telling_with taken =
          if is_only_tested t (slice_get rest 0) (slice_index (wanted_bytes at rest) 0)
          then told_taking taken (is_untold (family_of op) mode ty aty bty) op (is_signed aty) a.bytes else None

      of_integers : Option RightNumber → List AsmItem
      of_integers taken =
          taking_code taken telling (family_of op) (is_signed aty) (is_signed bty) (home a) (home b) (home t) a.bytes w

      behind : Behind rest
      behind = record { covered = r.covered.1; live = r.live; inside = r.inside }

      -- where its operands are fixed-point numbers, the code of an operator on integers is that of integers
      code_on : is_fx ≡ true → is_on ≡ true → (x : Option RightNumber) (told : Option Told)
          → own_code p home link None told x (needs at rest) i
          ≡ integer_code x told op (is_signed aty) (is_signed bty) (home a) (home b) (home t) a.bytes w
      code_on fx on x told =
          ap (λ z. code_by_kind z (fixed_binary x told op ty aty bty mode (home a) (home b) (home t) a.bytes w)
          (code_by_kind is_px (of_pointers told x)
          (integer_code x told op (is_signed aty) (is_signed bty) (home a) (home b) (home t) a.bytes w))) fx
          ∙ ap
          (λ z. if z then integer_code x told op (is_signed aty) (is_signed bty) (home a) (home b) (home t) a.bytes w
          else (if is_placed op mode ty aty bty && not (same_location (home b) (home t))
          then placed_binary x op (is_signed aty) (home a) (home b) (home t) a.bytes w
          else answer_code (fixed_binary_code op ty aty bty mode (home a) (home b) answer_location work_location) (home t) w)) on

      takes : Bool
      takes = takes_whole op mode ty aty bty t b

      counted : Bool
      counted = is_counted op mode ty aty bty t b

      whole_stands : is_ax ≡ true → HasAt e (known_items known i rest) pc end
      whole_stands w =
          subst (λ x. HasAt e (own_code p home link None (telling_with x) known (needs at rest) i ++ items_told
          (telling_with x) rest) pc end)
          (none_taken op known is_ax w) stands

      needs_with : (apart : Bool) → (taken second : Option RightNumber) → Need
      needs_with apart taken second =
          at_least a.at (first_wanted apart op (compared_bytes taken a.bytes) (masked_bytes taken op w))
          (right_needed second b.at (second_wanted apart op (compared_bytes taken b.bytes) (joined_bytes taken w))
          (without t.at (needs at rest)))

      -- where the first operand is a pointer that is moved, or the second one
      needs_moving : (first last apart : Bool) → (taken second : Option RightNumber) → Need
      needs_moving first last apart taken second =
          at_least a.at (moved_wanted first w (first_wanted apart op (compared_bytes taken a.bytes) (masked_bytes taken op w)))
          (right_needed second b.at (moved_wanted last w (second_wanted apart op (compared_bytes taken b.bytes) (joined_bytes taken w)))
          (without t.at (needs at rest)))

      -- an operator that shifts no fixed-point number takes any number where it moves a pointer
      moving_needs : is_fx ≡ false → M (needs_moving (moves_pointer op aty bty) (moves_pointer op bty aty) is_ax
          (number_taken known is_ax op) (right_taken known (moves_pointer op aty bty) is_ax op)) m v
      moving_needs fx =
          subst (λ x. M (needs_moving (moves_pointer op aty bty) (moves_pointer op bty aty) is_ax (number_taken known is_ax op)
          (right_taken known x is_ax op)) m v)
          (uncounted_takes op mode ty aty bty t b (not_counted op mode ty aty bty t b fx)) h

      -- one that moves no pointer takes a count
      unmoved_needs : moves_pointer op aty bty ≡ false → moves_pointer op bty aty ≡ false
          → M (needs_with is_ax (number_taken known is_ax op) (right_taken known counted is_ax op)) m v
      unmoved_needs q r =
          subst (λ x. M (needs_moving false x is_ax (number_taken known is_ax op) (right_taken known counted is_ax op)) m v) r
          (subst (λ x. M (needs_moving x (moves_pointer op bty aty) is_ax (number_taken known is_ax op)
          (right_taken known counted is_ax op)) m v) q
          (subst (λ x. M (needs_moving (moves_pointer op aty bty) (moves_pointer op bty aty) is_ax (number_taken known is_ax op)
          (right_taken known x is_ax op)) m v)
          (unmoved_takes op mode ty aty bty t b q) h))

      -- and where it is not apart, the number that is taken is that of integers
      taken_needs : moves_pointer op aty bty ≡ false → moves_pointer op bty aty ≡ false → counted ≡ false → is_ax ≡ false
          → M (needs_with false (number_taken known false op) (numbered (number_taken known false op))) m v
      taken_needs unmoved turned uncounted ax =
          subst (λ x. M (needs_with x (number_taken known x op) (numbered (number_taken known x op))) m v) ax
          (subst (λ x. M (needs_with is_ax (number_taken known is_ax op) x) m v) (right_same known counted is_ax op uncounted)
          (unmoved_needs unmoved turned))

      own_needs : moves_pointer op aty bty ≡ false → moves_pointer op bty aty ≡ false → is_ax ≡ true → count_taken known counted ≡ false
          → M (plain_needs i rest) m v
      own_needs unmoved turned q none =
          subst (λ x. M (needs_with is_ax x None) m v) (none_taken op known is_ax q)
          (subst (λ x. M (needs_with is_ax (number_taken known is_ax op) x) m v)
          (right_none known counted is_ax op none (none_taken op known is_ax q)) (unmoved_needs unmoved turned))

      on_pointers : IsPointerBinary p slots op t a b ty aty bty → G (suc n) m.state.work pc v (P n i rest m)
      on_pointers k =
          let wx : is_wx ≡ true = either_whole aty bty k.pointer in
          let fx = no_fixed_operand p slots op t a b ty aty bty k in
          let ax : is_ax ≡ true = ap (λ z. z && not is_on) wx ∙ ap not (none_on_integers op mode ty aty bty fx) in
          by_told ax wx fx (telling_with None) refl
        where
          by_told : is_ax ≡ true → is_wx ≡ true → is_fx ≡ false → (told : Option Told) → telling_with None ≡ told
              → G (suc n) m.state.work pc v (P n i rest m)
          by_told ax wx fx None q =
              pointer_binary_follows p functions e slots home base place y labels all end results me link stack known op ty mode t a aty b
              bty rest n pc m v
              (λ number held_so. number_there (known_at all (i ∷ rest)) (takes_alone op t b) a b bty number m.temps held_so held) k
              (subst (λ x. HasAt e (own_code p home link None x known (needs at rest) i ++ items_told x rest) pc end) q (whole_stands ax))
              (subst (λ x. M (needs_moving (moves_pointer op aty bty) (moves_pointer op bty aty) x (number_taken known x op)
              (right_taken known (moves_pointer op aty bty) x op)) m v) (ax ∙ sym wx) (moving_needs fx)) r.here.core f
          by_told ax wx fx (Some told) q =
              let z = are_testing t rest (told_taking None (is_untold (family_of op) mode ty aty bty) op (is_signed aty) a.bytes) told q in
              let both = told_pointers (is_pointer aty) (is_pointer bty) is_ax (family_of op) (is_signed aty) told ax z.by in
              let uncounted = none_counted known counted (not_counted op mode ty aty bty t b fx) in
              shown z.l z.rest z.is z.none told z.by (pointer_type aty both.0) (pointer_type bty both.1)
              (subst (λ x. HasAt e (own_code p home link None x known (needs at rest) i ++ items_told x rest) pc end) q (whole_stands ax))
              (own_needs (both_unmoved op aty bty both.1) (both_unmoved op bty aty both.0) ax uncounted)
            where
              -- of operands with these types, and the operations behind
              Shown : Told → (x y : PlainType) → List PlainIr → Type 0
              Shown told x y after =
                  Behind after → IsPointerBinary p slots op t a b ty x y
                  → told_taking None (is_untold (family_of op) mode ty x y) op (is_signed x) a.bytes ≡ Some told
                  → HasAt e (own_code p home link None (Some told) known (needs at after) (binary_op op ty mode t a x b y)
                  ++ items_told (Some told) after) pc end
                  → M (plain_needs (binary_op op ty mode t a x b y) after) m v
                  → G (suc n) m.state.work pc v (P n (binary_op op ty mode t a x b y) after m)

              shown : (l : ℕ) (ops : List PlainIr) → rest ≡ branch_zero t l ∷ ops → wanted (either (needs at ops) (labels l)) t ≡ 0
                  → (told : Told) → told_taking None (is_untold (family_of op) mode ty aty bty) op (is_signed aty) a.bytes ≡ Some told
                  → IsPointerType aty → IsPointerType bty
                  → HasAt e (own_code p home link None (Some told) known (needs at rest) i ++ items_told (Some told) rest) pc end
                  → M (plain_needs i rest) m v → G (suc n) m.state.work pc v (P n i rest m)
              shown l ops is none told by x y there needed =
                  (subst (λ z. Shown told z bty rest) (sym x.is) (subst (λ z. Shown told (pointer x.space x.const x.to) z rest) (sym y.is)
                  (subst (λ z. Shown told (pointer x.space x.const x.to) (pointer y.space y.const y.to) z) (sym is)
                  (λ behind1 k1 by1 there1 needed1. two_told start l op ty mode t a x.space x.const x.to b y.space y.const y.to ops
                  n pc m v told by1 ready behind1 k1.result k1 none
                  (at_use_behind (pointers_code (Some told) link.core (family_of op) (home a) (home b) (home t) a.bytes
                  (element_size p (pointer x.space x.const x.to)) (wanted (needs at (branch_zero t l ∷ ops)) t)) (Some told)
                  (branch_zero t l) ops pc behind1.covered.0.1 (λ l none. none) there1) needed1 r.here.core go)))) behind k by there needed

      -- a shift by a known count
      on_count : IsFixedBinary slots op t a b ty aty bty → is_ax ≡ true → TakesCount known counted
          → G (suc n) m.state.work pc v (P n i rest m)
      on_count k ax c =
          let needed : M (needs_with is_ax None (right_taken known counted is_ax op)) m v =
          subst (λ x. M (needs_with is_ax x (right_taken known counted is_ax op)) m v) (none_taken op known is_ax ax)
          (unmoved_needs (fixed_unmoved op aty bty k.types.fixed) (turned_unmoved op aty bty k.types.fixed)) in
          let by_number : M (needs_with is_ax None (right_taken (Some (as_known c.number)) true is_ax op)) m v =
          subst (λ x. M (needs_with is_ax None (right_taken (Some (as_known c.number)) x is_ax op)) m v) c.counted_so
          (subst (λ x. M (needs_with is_ax None (right_taken x counted is_ax op)) m v) c.known_is needed) in
          fixed_counted_follows c.number op ty mode t a aty b bty rest n pc m v
          (right_held (known_at all (i ∷ rest)) (takes_alone op t b) a b bty c.number m.temps c.known_is held).number k
          (counted_is op mode ty aty bty t b c.counted_so)
          (subst (λ x. HasAt e (known_items x i rest) pc end) c.known_is (whole_stands ax)) by_number f

      on_apart : IsFixedBinary slots op t a b ty aty bty → is_on ≡ false → G (suc n) m.state.work pc v (P n i rest m)
      on_apart k apart = by_count (count_taken known counted) refl
        where
          ax : is_ax ≡ true
          ax = fixed_apart op ty mode aty bty k.types.fixed apart

          by_count : (x : Bool) → count_taken known counted ≡ x → G (suc n) m.state.work pc v (P n i rest m)
          by_count false q =
              fixed_binary_follows known op ty mode t a aty b bty rest n pc m v
              (λ number held_so. number_there (known_at all (i ∷ rest)) (takes_alone op t b) a b bty number m.temps held_so held)
              k apart (whole_stands ax)
              (own_needs (fixed_unmoved op aty bty k.types.fixed) (turned_unmoved op aty bty k.types.fixed) ax q) f
          by_count true q = on_count k ax (count_is_taken known counted q)

      -- numbers of one format, as the integers of their bytes
      on_whole : IsFixedBinary slots op t a b ty aty bty → is_on ≡ true → G (suc n) m.state.work pc v (P n i rest m)
      on_whole k on = by_taken (number_taken known false op) refl
        where
          fx : is_fx ≡ true
          fx = either_fixed is_fixed type_fixed aty bty k.types.fixed

          ax : is_ax ≡ false
          ax = ap (λ z. z && not is_on) (either_fixed is_whole type_whole aty bty k.types.fixed) ∙ ap not on

          wholes : IsOnWholes slots op mode t a b ty aty bty
          wholes = on_wholes slots op mode t a b ty aty bty k on

          needed : M (needs_with false (number_taken known false op) (numbered (number_taken known false op))) m v
          needed =
              taken_needs (fixed_unmoved op aty bty k.types.fixed) (turned_unmoved op aty bty k.types.fixed)
              (on_uncounted op mode ty aty bty t b on) ax

          -- the code where so much of the second operand is taken
          items_with : Option RightNumber → List AsmItem
          items_with x =
              taking_code x (telling_with x) (family_of op) (is_signed aty) (is_signed bty) (home a) (home b) (home t) a.bytes w
              ++ items_told (telling_with x) rest

          stand : HasAt e (items_with (number_taken known false op)) pc end
          stand =
              subst (λ x. HasAt e (x ++ items_told (telling_with (number_taken known false op)) rest) pc end)
              (code_on fx on known (telling_with (number_taken known false op)))
              (subst (λ x. HasAt e (own_code p home link None (telling_with (number_taken known x op)) known (needs at rest) i
              ++ items_told (telling_with (number_taken known x op)) rest) pc end) ax stands)

          by_taken : (x : Option RightNumber) → number_taken known false op ≡ x → G (suc n) m.state.work pc v (P n i rest m)
          by_taken None q =
              on_integers_follow start ready n go op ty mode t a aty b bty pc rest m v on wholes f behind
              (subst (λ x. HasAt e (x ++ items_told (telling_with None) rest) pc end) (sym (code_on fx on None (telling_with None)))
              (subst (λ x. HasAt e (items_with x) pc end) q stand))
              (subst (λ x. M (needs_with x None None) m v) (sym ax) (subst (λ x. M (needs_with false x (numbered x)) m v) q needed))
          by_taken (Some taken) q =
              ⊎_elim
              (λ (x : HasNumber taken). with_number x.taken (q ∙ ap Some x.is))
              (λ (x : taken ≡ no_number taken.in_byte).
              absurd (on_no_bytes (known_at all (i ∷ rest)) (takes_alone op t b) a b bty wholes.kind wholes.second_saturates
              taken.in_byte wholes.right_is
              (taken_is op known (no_number taken.in_byte) (q ∙ ap Some x)).0))
              (number_or_none taken)
            where
              with_number : (number : TakenNumber) → number_taken known false op ≡ Some (as_known number)
                  → G (suc n) m.state.work pc v (P n i rest m)
              with_number number q =
                  let is = taken_is op known (as_known number) q in
                  let row = right_held (known_at all (i ∷ rest)) (takes_alone op t b) a b bty number m.temps is.0 held in
                  on_number_follows start ready n go op ty mode t a aty b bty number pc rest m v is.1 row.number row.byte on wholes behind
                  (subst (λ x. HasAt e (items_with x) pc end) q stand)
                  (subst (λ x. M (needs_with false x (numbered x)) m v) q needed) f

      on_fixed : IsFixedBinary slots op t a b ty aty bty → G (suc n) m.state.work pc v (P n i rest m)
      on_fixed k = ⊎_elim (on_whole k) (on_apart k) (cases_Bool is_on)

      on_integers : IsBinary (family_of op) slots t a b ty aty bty → (taken : Option RightNumber) → number_taken known false op ≡ taken
          → G (suc n) m.state.work pc v (P n i rest m)
      on_integers k taken q = by_taken taken q
        where
          wx : is_wx ≡ false
          wx = no_kind is_whole (λ s n. refl) (family_of op) t a b ty aty bty k

          ax : is_ax ≡ false
          ax = ap (λ z. z && not is_on) wx

          px : is_px ≡ false
          px = no_kind is_pointer (λ s n. refl) (family_of op) t a b ty aty bty k

          fx : is_fx ≡ false
          fx = no_kind is_fixed (λ s n. refl) (family_of op) t a b ty aty bty k

          needed : M (needs_with false (number_taken known false op) (numbered (number_taken known false op))) m v
          needed =
              taken_needs (whole_unmoved op aty bty wx) (whole_unmoved op bty aty (or_turned (is_whole aty) (is_whole bty) wx))
              (not_counted op mode ty aty bty t b fx) ax

          taken_so : (x : Option RightNumber) → number_taken known false op ≡ x → number_taken known is_ax op ≡ x
          taken_so x q = ap (λ z. number_taken known z op) ax ∙ q

          items_with : Option RightNumber → Option Told → List AsmItem
          items_with x told =
              taking_code x told (family_of op) (is_signed aty) (is_signed bty) (home a) (home b) (home t) a.bytes w

          by_taken : (x : Option RightNumber) → number_taken known false op ≡ x → G (suc n) m.state.work pc v (P n i rest m)
          by_taken None q =
              integers_follow start ready n go op ty mode t a aty b bty pc rest m v k behind
              (subst (λ x. HasAt e (code_by_kind is_fx
              (fixed_binary None (telling_with x) op ty aty bty mode (home a) (home b) (home t) a.bytes w)
              (code_by_kind is_px (of_pointers (telling_with x) None) (items_with None (telling_with x)))
              ++ items_told (telling_with x) rest) pc end)
              (taken_so None q)
              (subst (λ x. HasAt e (x ++ items_told telling rest) pc end)
              (other_same is_fx of_fixed (fixed_binary None telling op ty aty bty mode (home a) (home b) (home t) a.bytes w)
              (code_by_kind is_px (of_pointers telling None) (of_integers None)) fx)
              (subst (λ x. HasAt e (code_by_kind is_fx of_fixed x ++ items_told telling rest) pc end)
              (other_same is_px (of_pointers telling known) (of_pointers telling None) (of_integers None) px)
              (subst (λ x. HasAt e (code_by_kind is_fx of_fixed (code_by_kind is_px (of_pointers telling known) (of_integers x))
              ++ items_told telling rest) pc end) q stands))))
              (subst (λ x. M (needs_with x None None) m v) (sym ax) (subst (λ x. M (needs_with false x (numbered x)) m v) q needed)) f
          by_taken (Some taken) q =
              ⊎_elim
              (λ (x : HasNumber taken). with_number x.taken (q ∙ ap Some x.is))
              (λ (x : taken ≡ no_number taken.in_byte). with_bytes taken.in_byte (q ∙ ap Some x))
              (number_or_none taken)
            where
              stands_taking : (x : RightNumber) → number_taken known false op ≡ Some x
                  → HasAt e (items_with (Some x) (telling_with (Some x)) ++ items_told (telling_with (Some x)) rest) pc end
              stands_taking x q =
                  subst (λ z. HasAt e (items_with (Some x) (telling_with z) ++ items_told (telling_with z) rest) pc end)
                  (taken_so (Some x) q)
                  (subst (λ z. HasAt e (code_by_kind z (of_pointers telling known) (of_integers (Some x))
                  ++ items_told telling rest) pc end) px
                  (subst (λ z. HasAt e (code_by_kind z of_fixed (code_by_kind is_px (of_pointers telling known) (of_integers (Some x)))
                  ++ items_told telling rest) pc end) fx
                  (subst (λ z. HasAt e (code_by_kind is_fx of_fixed (code_by_kind is_px (of_pointers telling known) (of_integers z))
                  ++ items_told telling rest) pc end) q stands)))

              needs_taking : (x : RightNumber) → number_taken known false op ≡ Some x
                  → M (needs_with false (Some x) (numbered (Some x))) m v
              needs_taking x q = subst (λ z. M (needs_with false z (numbered z)) m v) q needed

              with_number : (number : TakenNumber) → number_taken known false op ≡ Some (as_known number)
                  → G (suc n) m.state.work pc v (P n i rest m)
              with_number number q =
                  let is = taken_is op known (as_known number) q in
                  let row = right_held (known_at all (i ∷ rest)) (takes_alone op t b) a b bty number m.temps is.0 held in
                  number_follows start ready n go op ty mode t a aty b bty number pc rest m v is.1 k row.number row.byte behind
                  (stands_taking (as_known number) q) (needs_taking (as_known number) q) f

              -- what bytes tell, of an AND with a known number or not
              masked_told : Bool → Option Told
              masked_told z =
                  if is_only_tested t (slice_get rest 0) (slice_index (wanted_bytes at rest) 0)
                  then (if z then Some (Operands NotEqual false)
                  else told_by (is_untold (family_of op) mode ty aty bty) (family_of op) false) else None

              with_bytes : (byte : Bool) → number_taken known false op ≡ Some (no_number byte) → G (suc n) m.state.work pc v (P n i rest m)
              with_bytes true q =
                  let is = taken_is op known (no_number true) q in
                  let row = bytes_held (known_at all (i ∷ rest)) (takes_alone op t b) a b bty m.temps is.0 held in
                  let order = compares op is.1 in
                  bytes_follow start ready n go op order.relation order.exchanged order.is ty mode t a aty b bty pc rest m v
                  (subst (λ z. IsBinary z slots t a b ty aty bty) order.is k)
                  (record { more = row.more; left = row.left; right = row.right }) behind
                  (subst (λ z. HasAt e (items_with (Some (no_number true)) (masked_told z) ++ items_told (masked_told z) rest) pc end)
                  (order_unmasked op order.relation order.exchanged (no_number true) order.is) (stands_taking (no_number true) q))
                  (needs_taking (no_number true) q) f
              with_bytes false q =
                  let is = taken_is op known (no_number false) q in
                  let join = joins op is.1 in
                  joined_integers op join.operator join.is join.joined ty mode t a aty b bty pc rest n m v
                  (subst (λ z. IsBinary z slots t a b ty aty bty) join.is k)
                  (alone_held (known_at all (i ∷ rest)) op t a b bty m.temps is.0 held)
                  (subst (λ z. HasAt e (bytes_code None z (home a) (home b) (home t) a.bytes w ++ items rest) pc end) join.is
                  (subst (λ z. HasAt e (items_with (Some (no_number false)) z ++ items_told z rest) pc end)
                  (untold_joined op is.1 (is_only_tested t (slice_get rest 0) (slice_index (wanted_bytes at rest) 0))
                  (is_untold (family_of op) mode ty aty bty) (is_signed aty) a.bytes) (stands_taking (no_number false) q)))
                  (needs_taking (no_number false) q) f

  -- a call of the routine of an operator
  called_binary_follows : (l : ℕ) (op : BinOp) (ty : PlainType) (mode : Mode) (t a : Temp) (aty : PlainType) (b : Temp) (bty : PlainType)
      (pc : ℕ) (rest : List PlainIr) (n : ℕ) (m : Mach) (v : View) → IsCovered p results me y.called slots
      (binary_op op ty mode t a aty b bty)
      → HasRoutineOf e l (binary_op op ty mode t a aty b bty) → is_on_integers (family_of op) mode ty aty bty ≡ false
      → takes_count (at.known (binary_op op ty mode t a aty b bty ∷ rest)) (binary_op op ty mode t a aty b bty) ≡ false
      → HasAt e (called_code home l (wanted (needs at rest) t) (binary_op op ty mode t a aty b bty)
      ++ items_told (tells_next link.core p home at None (binary_op op ty mode t a aty b bty) rest) rest) pc end
      → M (needs at (binary_op op ty mode t a aty b bty ∷ rest)) m v → Rest (suc n) rest
      → G (suc n) m.state.work pc v (P n (binary_op op ty mode t a aty b bty) rest m)
  called_binary_follows l op ty mode t a aty b bty pc rest n m v covered routine apart uncounted stands h f =
      ⊎_elim
      (λ (k : IsBinary (family_of op) slots t a b ty aty bty). on_integers k)
      (λ j. ⊎_elim
      (λ (k : IsFixedBinary slots op t a b ty aty bty). on_fixed k)
      (λ (k : IsPointerBinary p slots op t a b ty aty bty).
      absurd (pointers_have_none p e slots l op ty mode t a aty b bty k routine))
      j)
      covered
    where
      i : PlainIr
      i = binary_op op ty mode t a aty b bty

      known : Option RightNumber
      known = at.known (i ∷ rest)

      w : ℕ
      w = wanted (needs at rest) t

      is_ax : Bool
      is_ax = is_apart (family_of op) mode ty aty bty

      only : Bool
      only = is_only_tested t (slice_get rest 0) (slice_index (wanted_bytes at rest) 0)

      calling : List AsmItem
      calling = called_code home l w i

      -- what is needed and told where so much of the second operand is taken
      needs_with : (taken second : Option RightNumber) → Need
      needs_with taken second =
          at_least a.at (first_wanted is_ax op (compared_bytes taken a.bytes) (masked_bytes taken op w))
          (right_needed second b.at (second_wanted is_ax op (compared_bytes taken b.bytes) (joined_bytes taken w))
          (without t.at (needs at rest)))

      counted : Bool
      counted = is_counted op mode ty aty bty t b

      telling_with : Option RightNumber → Option Told
      telling_with taken =
          if only then told_taking taken (is_untold (family_of op) mode ty aty bty) op (is_signed aty) a.bytes else None

      needs_moving : (first last : Bool) → (taken second : Option RightNumber) → Need
      needs_moving first last taken second =
          at_least a.at (moved_wanted first w (first_wanted is_ax op (compared_bytes taken a.bytes) (masked_bytes taken op w)))
          (right_needed second b.at (moved_wanted last w (second_wanted is_ax op (compared_bytes taken b.bytes) (joined_bytes taken w)))
          (without t.at (needs at rest)))

      plain : moves_pointer op aty bty ≡ false → moves_pointer op bty aty ≡ false → number_taken known is_ax op ≡ None
          → M (plain_needs i rest) m v
      plain unmoved turned q =
          subst (λ x. M (needs_moving false x None None) m v) turned
          (subst (λ x. M (needs_moving x (moves_pointer op bty aty) None None) m v) unmoved
          (subst (λ x. M (needs_moving (moves_pointer op aty bty) (moves_pointer op bty aty) x None) m v) q
          (subst (λ x. M (needs_moving (moves_pointer op aty bty) (moves_pointer op bty aty) (number_taken known is_ax op) x) m v)
          (right_none known counted is_ax op uncounted q)
          (subst (λ x. M (needs_moving (moves_pointer op aty bty) (moves_pointer op bty aty) (number_taken known is_ax op)
          (right_taken known x is_ax op)) m v)
          (unmoved_takes op mode ty aty bty t b unmoved) h))))

      untold : number_taken known is_ax op ≡ None → telling_with None ≡ None → HasAt e (calling ++ items rest) pc end
      untold q none =
          subst (λ x. HasAt e (calling ++ items_told x rest) pc end) none
          (subst (λ x. HasAt e (calling ++ items_told (telling_with x) rest) pc end) q stands)

      body_for : Bool → Type 0
      body_for x =
          IsSomeAnd (body_by x (Some (binary_body op ty aty bty mode)) (division_body (family_of op) (is_signed aty) (scalar_size aty)))
          (HasRoutine e l)

      on_fixed : IsFixedBinary slots op t a b ty aty bty → G (suc n) m.state.work pc v (P n i rest m)
      on_fixed k =
          let is_apart_so = fixed_apart op ty mode aty bty k.types.fixed apart in
          let none = none_taken op known is_ax is_apart_so in
          let telling = untold_by only (is_untold (family_of op) mode ty aty bty) (family_of op) (is_signed aty)
          (fixed_untold op ty mode aty bty k.types.fixed apart) in
          fixed_binary_called l op ty mode t a aty b bty rest n pc m v k apart
          (subst body_for (either_fixed is_fixed type_fixed aty bty k.types.fixed) routine) (untold none telling)
          (plain (fixed_unmoved op aty bty k.types.fixed) (turned_unmoved op aty bty k.types.fixed) none) f

      -- a call of the routine of a quotient, with these types
      Divides : Bool → (x z u : PlainType) → Type 0
      Divides r x z u =
          HasRoutine e l (quotient_body r (is_signed z) (scalar_size z - 1)) → M (plain_needs (binary_op op x mode t a z b u) rest) m v
          → G (suc n) m.state.work pc v (P n (binary_op op x mode t a z b u) rest m)

      on_integers : IsBinary (family_of op) slots t a b ty aty bty → G (suc n) m.state.work pc v (P n i rest m)
      on_integers k =
          by_family (family_of op) refl k
          (subst body_for (no_kind is_fixed (λ s n. refl) (family_of op) t a b ty aty bty k) routine)
        where
          by_family : (x : Family) → family_of op ≡ x → IsBinary x slots t a b ty aty bty
              → IsSomeAnd (division_body x (is_signed aty) (scalar_size aty)) (HasRoutine e l)
              → G (suc n) m.state.work pc v (P n i rest m)
          by_family (Combined o) q d body = absurd body
          by_family (Compared r exchanged) q d body = absurd body
          by_family Multiplied q d body = absurd body
          by_family (Shifted up) q d body = absurd body
          by_family (Divided r) q d body =
              let x = d.0 in
              let some = x.result.some in
              let top = t.bytes - 1 in
              let qt : t.bytes ≡ suc top = omega arith in
              let qa : a.bytes ≡ suc top = x.left_bytes ∙ qt in
              let qb : b.bytes ≡ suc top = x.right_bytes ∙ qt in
              let type : ty ≡ integer x.signed (suc top) = x.result_type ∙ ap (integer x.signed) qt in
              let taken : number_taken known is_ax op ≡ None =
              ap (λ z. number_taken known (z && not (is_on_integers (family_of op) mode ty aty bty)) op)
              (no_kind is_whole (λ s n. refl) (family_of op) t a b ty aty bty k)
              ∙ divided_number op r q known in
              let telling : telling_with None ≡ None =
              ap (λ z. if only then told_by (is_untold (family_of op) mode ty aty bty) z (is_signed aty) else None) q
              ∙ divided_untold r only (is_untold (family_of op) mode ty aty bty) (is_signed aty) in
              (subst (λ z. Divides r z aty bty) (sym type)
              (subst (λ z. Divides r (integer x.signed (suc top)) z bty) (sym x.left_type)
              (subst (λ z. Divides r (integer x.signed (suc top)) (integer x.signed a.bytes) z) (sym x.right_type)
              (λ there needed. divided_called l op r q x.signed mode t a b top rest n pc m v x.result x.left x.right qt qa qb
              (subst (λ j. j ≤ 4) qt x.most) (subst (λ j. HasRoutine e l (quotient_body r x.signed (j - 1))) x.left_bytes there)
              (untold taken telling) needed f)))) body
              (let whole = no_kind is_whole (λ s n. refl) (family_of op) t a b ty aty bty k in
              plain (whole_unmoved op aty bty whole) (whole_unmoved op bty aty (or_turned (is_whole aty) (is_whole bty) whole)) taken)

  binary_follows : (start : ℕ) → Ready start all → (n : ℕ) → Onwards n → (op : BinOp) (ty : PlainType) (mode : Mode)
      (t a : Temp) (aty : PlainType) (b : Temp) (bty : PlainType) (pc : ℕ) (rest : List PlainIr) (m : Mach) (v : View)
      → Ready pc (binary_op op ty mode t a aty b bty ∷ rest) → M (needs at (binary_op op ty mode t a aty b bty ∷ rest)) m v
      → is_known all (binary_op op ty mode t a aty b bty ∷ rest) m ≡ true → Rest (suc n) rest
      → G (suc n) m.state.work pc v (P n (binary_op op ty mode t a aty b bty) rest m)
  binary_follows start ready n go op ty mode t a aty b bty pc rest m v r h held f =
      by_count (takes_count (at.known (i ∷ rest)) i) refl r.stands
    where
      i : PlainIr
      i = binary_op op ty mode t a aty b bty

      by_link : takes_count (at.known (i ∷ rest)) i ≡ false → (x : Option ℕ) → link.routine_of i ≡ x
          → HasAt e (linked_items x i rest) pc end → G (suc n) m.state.work pc v (P n i rest m)
      by_link uncounted None q stands = own_binary_follows start ready n go op ty mode t a aty b bty pc rest m v r stands h held f
      by_link uncounted (Some l) q stands =
          let linked = r.covered.0.1 l q in
          called_binary_follows l op ty mode t a aty b bty pc rest n m v r.covered.0.0 linked.0 linked.1 uncounted stands h f

      -- a shift by a known count calls no routine
      by_count : (x : Bool) → takes_count (at.known (i ∷ rest)) i ≡ x
          → HasAt e (linked_items (if x then None else link.routine_of i) i rest) pc end → G (suc n) m.state.work pc v (P n i rest m)
      by_count true q stands = own_binary_follows start ready n go op ty mode t a aty b bty pc rest m v r stands h held f
      by_count false q stands = by_link q (link.routine_of i) refl stands

  -- the same of an operation with one operand
  unary_goes : (op : UnOp) (ty : PlainType) (mode : Mode) (t a : Temp) (pc : ℕ) (rest : List PlainIr) (n : ℕ) (m : Mach) (v : View)
      → Ready pc (unary_op op ty mode t a ∷ rest) → M (needs at (unary_op op ty mode t a ∷ rest)) m v → Rest (suc n) rest
      → G (suc n) m.state.work pc v (P n (unary_op op ty mode t a) rest m)
  unary_goes op ty mode t a pc rest n m v r h f = by_link (link.routine_of i) refl r.stands
    where
      i : PlainIr
      i = unary_op op ty mode t a

      by_link : (x : Option ℕ) → link.routine_of i ≡ x → HasAt e (linked_items x i rest) pc end
          → G (suc n) m.state.work pc v (P n i rest m)
      by_link None q stands = unary_follows op ty mode t a rest n pc m v r.covered.0.0 stands h f
      by_link (Some l) q stands =
          let routine = (r.covered.0.1 l q).0 in
          ⊎_elim
          (λ (k : IsUnary slots t a ty). absurd (unaries_have_none e slots l op ty mode t a k routine))
          (λ (k : IsFixedUnary slots op t a ty). fixed_unary_called l op ty mode t a rest n pc m v k
          (subst (λ x. IsSomeAnd (body_by x (Some (unary_body op ty mode)) None) (HasRoutine e l)) (type_fixed ty k.types.fixed) routine)
          stands h f)
          r.covered.0.0

  conversion_goes : (t : Temp) (ty : PlainType) (mode : Mode) (a : Temp) (aty : PlainType) (pc : ℕ) (rest : List PlainIr) (n : ℕ)
      (m : Mach) (v : View) → Ready pc (conversion t ty mode a aty ∷ rest) → M (needs at (conversion t ty mode a aty ∷ rest)) m v
      → Rest (suc n) rest → G (suc n) m.state.work pc v (P n (conversion t ty mode a aty) rest m)
  conversion_goes t ty mode a aty pc rest n m v r h f = by_link (link.routine_of i) refl r.stands
    where
      i : PlainIr
      i = conversion t ty mode a aty

      by_link : (x : Option ℕ) → link.routine_of i ≡ x → HasAt e (linked_items x i rest) pc end
          → G (suc n) m.state.work pc v (P n i rest m)
      by_link None q stands = conversion_follows t ty mode a aty rest n pc m v r.covered.0.0 stands h f
      by_link (Some l) q stands =
          let routine = (r.covered.0.1 l q).0 in
          ⊎_elim
          (λ (k : AreConverted slots t a ty aty). absurd (conversions_have_none e slots l t ty mode a aty k routine))
          (λ j. ⊎_elim
          (λ (k : IsFixedConversion slots t a ty aty). fixed_conversion_called l t ty mode a aty rest n pc m v k
          (subst (λ x. IsSomeAnd (body_by x (Some (conversion_body ty aty mode)) None) (HasRoutine e l))
          (either_fixed is_fixed type_fixed ty aty k.types.fixed) routine) stands h f)
          (λ (k : IsPointerConversion slots t a ty aty). absurd (converted_pointers_have_none e slots l t ty mode a aty k routine))
          j)
          r.covered.0.0

  -- ---- an index that is loaded, and the operation that moves a pointer by it

  right_more : (x : Option RightNumber) (place n : ℕ) (need : Need) (u : ℕ) → need u ≤ right_needed x place n need u
  right_more None place n need u = least_other place n u need
  right_more (Some k) place n need u = omega arith

  -- such an operator tells nothing
  moves_apart : (op : BinOp) (f : Family) (mode : Mode) (ty aty bty : PlainType) → moves_pointer op aty bty ≡ true
      → is_apart f mode ty aty bty ≡ true
  moves_apart op f mode ty (pointer space const to) bty q = refl
  moves_apart op f mode ty aty bty q = absurd cc

  moves_untold : (op : BinOp) (f : Family) (mode : Mode) (ty aty bty : PlainType) → moves_pointer op aty bty ≡ true
      → is_untold f mode ty aty bty ≡ true
  moves_untold op f mode ty (pointer space const to) (pointer space2 const2 to2) q = absurd cc
  moves_untold op f mode ty (pointer space const to) (integer signed bytes) q = refl
  moves_untold op f mode ty (pointer space const to) (fixed kind saturates) q = absurd cc
  moves_untold op f mode ty (pointer space const to) void q = refl
  moves_untold op f mode ty (pointer space const to) (array of len) q = refl
  moves_untold op f mode ty (pointer space const to) (struct index) q = refl
  moves_untold op f mode ty aty bty q = absurd cc

  untold_own : (only own untold : Bool) (known : Option RightNumber) (op : BinOp) (s : Bool) (bytes : ℕ) → own ≡ true → untold ≡ true
      → (if only then told_taking (number_taken known own op) untold op s bytes else None) ≡ None
  untold_own false own untold known op s bytes q u = refl
  untold_own true own untold known op s bytes q u =
      ap (λ x. told_taking (number_taken known x op) untold op s bytes) q
      ∙ ap (λ x. told_taking (number_taken known true op) x op s bytes) u ∙ by_known known
    where
      by_known : (known : Option RightNumber) → told_taking (number_taken known true op) true op s bytes ≡ None
      by_known None = refl
      by_known (Some k) = refl

  -- behind a load to a temporary stands an operator that moves a pointer by it
  record IsIndexAlone (t : Temp) (code : List PlainIr) : Type 0 where
    op : BinOp
    ty : PlainType
    mode : Mode
    to : Temp
    a : Temp
    aty : PlainType
    bty : PlainType
    rest : List PlainIr
    is : code ≡ binary_op op ty mode to a aty t bty ∷ rest
    none : needs at rest t.at ≡ 0
    few : nat_le t.bytes 2 ≡ true
    apart : t.at ≢ a.at
    moves : moves_pointer op aty bty ≡ true

  index_alone : (t : Temp) (code : List PlainIr) → is_index_alone t (slice_get code 0) (index_behind at code) ≡ true
      → IsIndexAlone t code
  index_alone t (binary_op op ty mode to a aty b bty ∷ rest) q =
      let behind = get_or (if moves_pointer op aty bty then needs at rest b.at ∷ [] else []) 0 0 in
      let halves = and_parts (behind == 0 && nat_le b.bytes 2)
      ((b.at == t.at && b.bytes == t.bytes) && (not (b.at == a.at) && moves_pointer op aty bty)) q in
      let free = and_parts (behind == 0) (nat_le b.bytes 2) halves.0 in
      let last = and_parts (b.at == t.at && b.bytes == t.bytes) (not (b.at == a.at) && moves_pointer op aty bty) halves.1 in
      let one = and_parts (b.at == t.at) (b.bytes == t.bytes) last.0 in
      let other = and_parts (not (b.at == a.at)) (moves_pointer op aty bty) last.1 in
      let same : b ≡ t = same_temp t b (eqb-true b.at t.at one.0) (eqb-true b.bytes t.bytes one.1) in
      let none : needs at rest b.at ≡ 0 =
      ap (λ x. get_or (if x then needs at rest b.at ∷ [] else []) 0 0) (sym other.1) ∙ eqb-true behind 0 free.0 in
      record {
        op = op;
        ty = ty;
        mode = mode;
        to = to;
        a = a;
        aty = aty;
        bty = bty;
        rest = rest;
        is = ap (λ z. binary_op op ty mode to a aty z bty ∷ rest) same;
        none = subst (λ z. needs at rest z.at ≡ 0) same none;
        few = subst (λ z. nat_le z.bytes 2 ≡ true) same free.1;
        apart = λ z. false≢true (sym (ap not (eq-eqb b.at a.at (ap (λ (x : Temp). x.at) same ∙ z))) ∙ other.0);
        moves = other.1;
      }
  index_alone t [] q = absurd cc
  index_alone t (i ∷ rest) q = absurd cc

  -- R30 and R31 hold what a temporary does
  abbrev HoldsIndex : Temp → Mach → View → Type 0
  HoldsIndex b m v = (x : Held) → m.temps b.at ≡ Some x → x.bytes ≡ b.bytes → HoldsContent p place v.at 30 b.bytes b.bytes x.content

  -- the operator behind the load
  indexed_follows : (op : BinOp) (ty : PlainType) (mode : Mode) (to a : Temp) (aty : PlainType) (b : Temp) (bty : PlainType)
      (rest : List PlainIr) (n pc : ℕ) (m : Mach) (v : View) → Behind (binary_op op ty mode to a aty b bty ∷ rest)
      → IsRunning p functions e slots home base place y labels all end results me link stack
      → needs at rest b.at ≡ 0 → nat_le b.bytes 2 ≡ true → b.at ≢ a.at → moves_pointer op aty bty ≡ true
      → HasAt e (items_told (Some Index) (binary_op op ty mode to a aty b bty ∷ rest)) pc end
      → M (without b.at (needs at (binary_op op ty mode to a aty b bty ∷ rest))) m v → HoldsIndex b m v → Onwards n
      → G n m.state.work pc v (R n (binary_op op ty mode to a aty b bty ∷ rest) m)
  indexed_follows op ty mode to a aty b bty rest zero pc m v r here none few apart moves stands h held go =
      stay p place e pc v m.state h.seen h.safe
  indexed_follows op ty mode to a aty b bty rest (suc n) pc m v r here none few apart moves stands h held go =
      checked functions p y.inputs place e n (suc n) m.state.work pc v all stack i rest m
      (λ known_so.
      ⊎_elim
      (λ (k : IsBinary (family_of op) slots to a b ty aty bty).
      absurd (false≢true (sym (whole_unmoved op aty bty (no_kind is_whole (λ s n. refl) (family_of op) to a b ty aty bty k)) ∙ moves)))
      (λ j. ⊎_elim
      (λ (k : IsFixedBinary slots op to a b ty aty bty). absurd (false≢true (sym (fixed_unmoved op aty bty k.types.fixed) ∙ moves)))
      (λ (k : IsPointerBinary p slots op to a b ty aty bty). by_pointer k)
      j)
      r.covered.0.0)
    where
      i : PlainIr
      i = binary_op op ty mode to a aty b bty

      known : Option RightNumber
      known = at.known (i ∷ rest)

      need : Need
      need = needs at rest

      w : ℕ
      w = wanted need to

      is_own : Bool
      is_own = is_apart (family_of op) mode ty aty bty

      taken : Option RightNumber
      taken = number_taken known is_own op

      -- what is needed of the second operand
      second : Need
      second =
          right_needed (right_taken known (takes_whole op mode ty aty bty to b) is_own op) b.at
          (moved_wanted (moves_pointer op bty aty) w (second_wanted is_own op (compared_bytes taken b.bytes) (joined_bytes taken w)))
          (without to.at need)

      need0 : Need
      need0 = without b.at (needs at (i ∷ rest))

      is_own_so : is_own ≡ true
      is_own_so = moves_apart op (family_of op) mode ty aty bty moves

      -- what is needed of the pointer
      first : ℕ
      first = moved_wanted (moves_pointer op aty bty) w (first_wanted is_own op (compared_bytes taken a.bytes) (masked_bytes taken op w))

      first_so : first ≡ pointer_wanted w
      first_so =
          ap (λ x. moved_wanted x w (first_wanted is_own op (compared_bytes taken a.bytes) (masked_bytes taken op w))) moves

      there : pointer_wanted w ≤ need0 a.at
      there =
          let l = least_here a.at first second in
          let k = without_other b.at a.at (needs at (i ∷ rest)) (λ z. apart (sym z)) in
          omega (arith, l, k, first_so)

      more : (u : ℕ) → u ≢ to.at → need u ≤ need0 u
      more u d =
          ⊎_elim
          (λ (q : u ≡ b.at). let z : need u ≡ 0 = ap need q ∙ none in omega (arith, z))
          (λ (q : u ≢ b.at).
          let k = without_other b.at u (needs at (i ∷ rest)) q in
          let x = without_other to.at u need d in
          let z = right_more (right_taken known (takes_whole op mode ty aty bty to b) is_own op) b.at
          (moved_wanted (moves_pointer op bty aty) w (second_wanted is_own op (compared_bytes taken b.bytes) (joined_bytes taken w)))
          (without to.at need) u in
          let l = least_other a.at first u second in
          omega (arith, k, x, z, l))
          (cases_eq u b.at)

      by_pointer : IsPointerBinary p slots op to a b ty aty bty → G (suc n) m.state.work pc v (P n i rest m)
      by_pointer k =
          let own = at_use_behind [] (Some Index) i rest pc r.covered.0.1
          (λ l routine. pointers_have_none p e slots l op ty mode to a aty b bty k routine) stands in
          index_follows p functions e slots home base place y labels all end results me link stack known op ty mode to a aty b bty rest n pc
          need0 m v k moves few
          (subst (λ x. HasAt e (own_code p home link (Some Index) x known need i ++ items_told x rest) pc end)
          (untold_own (is_only_tested to (slice_get rest 0) (slice_index (wanted_bytes at rest) 0)) is_own
          (is_untold (family_of op) mode ty aty bty) known op (is_signed aty) a.bytes is_own_so
          (moves_untold op (family_of op) mode ty aty bty moves)) own) held there more h here.core
          (λ pc1 m1 v1 s z. go (suc n) (omega arith) pc1 rest m1 v1
          (record { covered = r.covered.1; live = r.live; inside = r.inside; here = here; stands = s }) z)

  -- a load of an object of which no pointer stays in Z
  abbrev load_items : (t : Temp) (o offset : ℕ) → List PlainIr → List AsmItem
  load_items t o offset rest =
      index_items p functions e slots home base place y labels all end results me link stack t o offset rest

  load_goes : (t : Temp) (o offset pc : ℕ) (rest : List PlainIr) (n : ℕ) (m : Mach) (v : View) → Ready pc (load_object t o offset ∷ rest)
      → HasAt e (load_items t o offset rest) pc end → M (needs at (load_object t o offset ∷ rest)) m v → Onwards n
      → G (suc n) m.state.work pc v (P n (load_object t o offset) rest m)
  load_goes t o offset pc rest n m v r stands h go =
      by_next (is_index_alone t (slice_get rest 0) (index_behind at rest)) refl stands
    where
      i : PlainIr
      i = load_object t o offset

      telling : Bool → Option Told
      telling x = if x then Some Index else None

      behind : Behind rest
      behind = record { covered = r.covered.1; live = r.live; inside = r.inside }

      by_next : (x : Bool) → is_index_alone t (slice_get rest 0) (index_behind at rest) ≡ x
          → HasAt e (own_code p home link None (telling x) (at.known (i ∷ rest)) (needs at rest) i ++ items_told (telling x) rest) pc end
          → G (suc n) m.state.work pc v (P n i rest m)
      by_next false q stands =
          let k = r.covered.0.0 in
          load_follows p functions e slots home base place y labels all end results me link stack t o offset rest n pc m v k.0 k.1
          stands h r.here.core
          (λ pc1 m1 v1 s z. go n (omega arith) pc1 rest m1 v1
          (record { covered = r.covered.1; live = r.live; inside = r.inside; here = r.here; stands = s }) z)
      by_next true q stands =
          let k = r.covered.0.0 in
          let x = index_alone t rest q in
          load_index_follows p functions e slots home base place y labels all end results me link stack t o offset rest n pc m v k.0 k.1
          x.few stands h r.here.core
          (λ mid m1 v1 s z held.
          let onward : Behind rest → HasAt e (items_told (Some Index) rest) mid end → M (without t.at (needs at rest)) m1 v1
          → G n m1.state.work mid v1 (R n rest m1) = subst
          (λ c. Behind c → HasAt e (items_told (Some Index) c) mid end → M (without t.at (needs at c)) m1 v1
          → G n m1.state.work mid v1 (R n c m1)) (sym x.is)
          (λ b u g. indexed_follows x.op x.ty x.mode x.to x.a x.aty t x.bty x.rest n mid m1 v1 b r.here x.none x.few x.apart x.moves
          u g held go) in
          onward behind s z)

  -- what is shown of an operation whose second operand holds what is known of it, where it is of those behind it
  performs : (start : ℕ) → Ready start all → (n : ℕ) → Onwards n → CallCase n → ReturnCase n → (pc : ℕ) (i : PlainIr)
      (rest : List PlainIr) (m : Mach) (v : View) → Ready pc (i ∷ rest) → M (needs at (i ∷ rest)) m v
      → is_known all (i ∷ rest) m ≡ true
      → ((pc1 : ℕ) (m1 : Mach) (v1 : View) → Ready pc1 rest → M (needs at rest) m1 v1
      → G (suc n) m1.state.work pc1 v1 (R (suc n) rest m1))
      → G (suc n) m.state.work pc v (P n i rest m)
  performs start ready n go calls returns pc (constant t k) rest m v r h held more =
      constant_follows t k rest n pc m v r.covered.0.0 (at_use (constant t k) rest pc r (λ l none. none)) h
      (λ pc1 m1 v1 s z. more pc1 m1 v1
      (record { covered = r.covered.1; live = r.live; inside = r.inside; here = r.here; stands = s }) z)
  performs start ready n go calls returns pc (copy t u) rest m v r h held more =
      let i = r.covered.0.0 in
      copy_follows t u rest n pc m v i.0 i.1 i.2 (at_use (copy t u) rest pc r (λ l none. none)) h
      (λ pc1 m1 v1 s z. more pc1 m1 v1
      (record { covered = r.covered.1; live = r.live; inside = r.inside; here = r.here; stands = s }) z)
  performs start ready n go calls returns pc (load_object t o offset) rest m v r h held more =
      let i = r.covered.0.0 in
      object_goes p functions e slots home base place y labels all end results me link stack t o offset rest n pc m v i.0 i.1
      (record { covered = r.covered.1; live = r.live; inside = r.inside; here = r.here })
      (at_use (load_object t o offset) rest pc r (λ l none. none)) h (λ j few. go j (omega arith))
      (λ stands. load_goes t o offset pc rest n m v r stands h go)
  performs start ready n go calls returns pc (store_object o offset t) rest m v r h held more =
      let i = r.covered.0.0 in
      store_follows p functions e slots home base place y labels all end results me link stack o offset t rest n pc m v i.0 i.1 i.2
      r.here (at_use (store_object o offset t) rest pc r (λ l none. none)) h
      (λ k q c s. stored_held (known_at all (store_object o offset t ∷ rest)) t k m.temps q held c s)
      (λ pc1 m1 v1 s z. go n (omega arith) pc1 rest m1 v1
      (record { covered = r.covered.1; live = r.live; inside = r.inside; here = r.here; stands = s }) z)
  performs start ready n go calls returns pc (binary_op op ty mode t a aty b bty) rest m v r h held more =
      binary_follows start ready n go op ty mode t a aty b bty pc rest m v r h held
      (λ pc1 m1 v1 s z. more pc1 m1 v1
      (record { covered = r.covered.1; live = r.live; inside = r.inside; here = r.here; stands = s }) z)
  performs start ready n go calls returns pc (label l) rest m v r h held more =
      let s = at_use (label l) rest pc r (λ l none. none) in
      let need = needs at rest in
      let z = weaker p e slots home base place y (labels l) need m v h r.live.0 in
      let stands : HasAt e (items rest) pc end = subst (λ i. HasAt e (items rest) i end) s.1.1 s.2 in
      after p place e 0 (suc n) (suc n) m.state.work m.state.work pc pc v v (P n (label l) rest m) (record { by = refl })
      (omega arith) (omega arith)
      (label_follows l rest n pc m v
      (more pc (machine m.temps (worked (op_steps (label l)) m.state)) v
      (record { covered = r.covered.1; live = r.live.1; inside = r.inside; here = r.here; stands = stands })
      (again need m v (op_steps (label l)) z)))
  performs start ready n go calls returns pc (jump l) rest m v r h held more =
      jump_follows start l rest n pc m v ready (at_use (jump l) rest pc r (λ l none. none)) h (go n (omega arith))
  performs start ready n go calls returns pc (branch_zero t l) rest m v r h held more =
      let it = r.covered.0.0 in
      branch_follows start l t (compared_bytes (at.known (branch_zero t l ∷ rest)) t.bytes) rest n pc m v ready
      (record { covered = r.covered; live = r.live; inside = r.inside }) it
      (tested_held (known_at all (branch_zero t l ∷ rest)) t m.temps it.some held)
      (at_use (branch_zero t l) rest pc r (λ l none. none)) h go
  performs start ready n go calls returns pc (return_from from) rest m v r h held more =
      returns from pc rest m v r h
  performs start ready n go calls returns pc (conversion t ty mode a aty) rest m v r h held more =
      conversion_goes t ty mode a aty pc rest n m v r h
      (λ pc1 m1 v1 s z. more pc1 m1 v1
      (record { covered = r.covered.1; live = r.live; inside = r.inside; here = r.here; stands = s }) z)
  performs start ready n go calls returns pc (unary_op op ty mode t a) rest m v r h held more =
      unary_goes op ty mode t a pc rest n m v r h
      (λ pc1 m1 v1 s z. more pc1 m1 v1
      (record { covered = r.covered.1; live = r.live; inside = r.inside; here = r.here; stands = s }) z)
  performs start ready n go calls returns pc (address t o offset) rest m v r h held more =
      address_follows p functions e slots home base place y labels all end results me link stack t o offset rest n pc m v
      r.covered.0.0 (at_use (address t o offset) rest pc r (λ l none. none)) h r.here.core
      (λ pc1 m1 v1 s z. more pc1 m1 v1
      (record { covered = r.covered.1; live = r.live; inside = r.inside; here = r.here; stands = s }) z)
  performs start ready n go calls returns pc (field t space offset) rest m v r h held more =
      field_goes p functions e slots home base place y labels all end results me link stack t space offset rest n pc m v
      r.covered.0.0 (record { covered = r.covered.1; live = r.live; inside = r.inside; here = r.here })
      (at_use (field t space offset) rest pc r (λ l none. none)) h (λ j few. go j (omega arith))
      (λ stands. field_follows p functions e slots home base place y labels all end results me link stack t space offset rest n pc m v
      r.covered.0.0 stands h r.here.core
      (λ pc1 m1 v1 s z. more pc1 m1 v1
      (record { covered = r.covered.1; live = r.live; inside = r.inside; here = r.here; stands = s }) z))
  performs start ready n go calls returns pc (load_at t u space) rest m v r h held more =
      let i = r.covered.0.0 in
      load_at_follows p functions e slots home base place y labels all end results me link stack t u space rest n pc m v i.0 i.1
      (at_use (load_at t u space) rest pc r (λ l none. none)) h r.here.core
      (λ pc1 m1 v1 s z. go n (omega arith) pc1 rest m1 v1
      (record { covered = r.covered.1; live = r.live; inside = r.inside; here = r.here; stands = s }) z)
  performs start ready n go calls returns pc (store_at t space u) rest m v r h held more =
      let i = r.covered.0.0 in
      store_at_follows p functions e slots home base place y labels all end results me link stack t space u rest n pc m v i.0 i.1
      (at_use (store_at t space u) rest pc r (λ l none. none)) h
      (λ pc1 m1 v1 s z. go n (omega arith) pc1 rest m1 v1
      (record { covered = r.covered.1; live = r.live; inside = r.inside; here = r.here; stands = s }) z)
  performs start ready n go calls returns pc (call_function g t) rest m v r h held more = calls g t pc rest m v r h
  performs start ready n go calls returns pc (port_in t port index width) rest m v r h held more =
      in_follows p functions e slots home base place y labels all end results me link stack t port index width rest n pc m v
      r.covered.0.0 (at_use (port_in t port index width) rest pc r (λ l none. none)) h
      (λ pc1 m1 v1 s z. go n (omega arith) pc1 rest m1 v1
      (record { covered = r.covered.1; live = r.live; inside = r.inside; here = r.here; stands = s }) z)
  performs start ready n go calls returns pc (port_out t port index width) rest m v r h held more =
      out_follows p functions e slots home base place y labels all end results me link stack t port index width rest n pc m v
      r.covered.0.0 (at_use (port_out t port index width) rest pc r (λ l none. none)) h
      (λ pc1 m1 v1 s z. go n (omega arith) pc1 rest m1 v1
      (record { covered = r.covered.1; live = r.live; inside = r.inside; here = r.here; stands = s }) z)
  performs start ready n go calls returns pc (load_cell t cell) rest m v r h held more =
      let i = r.covered.0.0 in
      load_cell_follows p functions e slots home base place y labels all end results me link stack t cell rest n pc m v i.0 i.1
      r.covered.0.2 (at_use (load_cell t cell) rest pc r (λ l none. none)) h
      (λ pc1 m1 v1 s z. go n (omega arith) pc1 rest m1 v1
      (record { covered = r.covered.1; live = r.live; inside = r.inside; here = r.here; stands = s }) z)
  performs start ready n go calls returns pc (store_cell cell t) rest m v r h held more =
      let i = r.covered.0.0 in
      store_cell_follows p functions e slots home base place y labels all end results me link stack t cell rest n pc m v i.0 i.1
      r.covered.0.2 (at_use (store_cell cell t) rest pc r (λ l none. none)) h
      (λ pc1 m1 v1 s z. go n (omega arith) pc1 rest m1 v1
      (record { covered = r.covered.1; live = r.live; inside = r.inside; here = r.here; stands = s }) z)
  performs start ready n go calls returns pc (cell_port true t cell offset index width) rest m v r h held more =
      cell_in_follows p functions e slots home base place y labels all end results me link stack t cell offset index width rest n pc m v
      r.covered.0.0 r.covered.0.2 (at_use (cell_port true t cell offset index width) rest pc r (λ l none. none)) h
      (λ pc1 m1 v1 s z. go n (omega arith) pc1 rest m1 v1
      (record { covered = r.covered.1; live = r.live; inside = r.inside; here = r.here; stands = s }) z)
  performs start ready n go calls returns pc (cell_port false t cell offset index width) rest m v r h held more =
      cell_out_follows p functions e slots home base place y labels all end results me link stack t cell offset index width rest n pc m v
      r.covered.0.0 r.covered.0.2 (at_use (cell_port false t cell offset index width) rest pc r (λ l none. none)) h
      (λ pc1 m1 v1 s z. go n (omega arith) pc1 rest m1 v1
      (record { covered = r.covered.1; live = r.live; inside = r.inside; here = r.here; stands = s }) z)

  pub follows : (start : ℕ) → Ready start all → (n : ℕ) → Onwards n → CallCase n → ReturnCase n → Onward (suc n)
  follows start ready n go calls returns pc [] m v r h = tt
  follows start ready n go calls returns pc (i ∷ rest) m v r h =
      checked functions p y.inputs place e n (suc n) m.state.work pc v all stack i rest m
      (λ held. performs start ready n go calls returns pc i rest m v r h held
      (λ pc1 m1 v1 r1 h1. follows start ready n go calls returns pc1 rest m1 v1 r1 h1))
