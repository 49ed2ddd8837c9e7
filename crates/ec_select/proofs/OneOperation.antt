-- What the items of an operation's code pass.
use Rattle.std.proofs.Common.{◌≡◌, ◌⊎◌, ℕ, suc, ◌+◌, ◌-◌, ◌*◌, ◌%◌, ◌<◌, ◌≤◌, ◌==◌, Bool, true, false, not, List, []}
use Rattle.std.proofs.Common.{◌∷◌, ◌++◌}
use Rattle.std.proofs.Common.{refl, sym, ap, ◌∙◌, subst, arith, leb-true, leb-false, inl, inr, ⊎_elim, ℤ}
use Rattle.std.specs.Prelude.{⊤, min, nat_le, nat_lt, ◌&&◌, ◌||◌, if◌then◌else◌, Option, Some, None, option_map, max}
use Rattle.std.specs.Prelude.{slice_get}
use Rattle.std.specs.List.{list_all, AllByRecursion}
use Rattle.std.proofs.lemmas.Bool.{and_parts, eqb-false}
use Rattle.ec_isa.specs.declared.instructions.Instr.TheVariants.{Ret}
use Rattle.ec_asm.specs.declared.items.AsmItem.{AsmItem}
use Rattle.ec_asm.specs.declared.items.AsmItem.TheVariants.{Plain, Label, JumpTo, CallTo, BranchTo}
use Rattle.ec_asm.specs.declared.pieces.Location.{Location}
use Rattle.ec_asm.specs.declared.pieces.Location.TheVariants.{InRegisters, InMemory}
use Rattle.ec_asm.specs.declared.pieces.Operator.{Operator}
use Rattle.ec_asm.specs.declared.pieces.Operator.TheVariants.{Sum, Difference, BitAnd, BitOr, BitXor}
use Rattle.ec_select_bytes.specs.Complements.{negation_code}
use Rattle.ec_asm.specs.Pieces.{compare_code, copy_code, operate_code}
use Rattle.ec_asm.specs.Valid.{Sizes, is_offset}
use Rattle.ec_core.specs.declared.expressions.BinOp.{BinOp}
use Rattle.ec_core.specs.declared.expressions.UnOp.{UnOp}
use Rattle.ec_core.specs.declared.expressions.UnOp.TheVariants.{Minus, Invert}
use Rattle.ec_core.specs.Accesses.{element_size}
use Rattle.ec_core.specs.Layout.{scalar_size, size_of_type}
use Rattle.ec_core.specs.Plain.{PlainType, integer, PlainObject, PlainProgram}
use Rattle.ec_fx.specs.declared.numbers.Mode.{Mode}
use Rattle.ec_fxcode.specs.ClampLaws.{HasPlaces}
use Rattle.ec_select_fixed.specs.Codes.{fixed_binary_code, fixed_unary_code, fixed_conversion_code}
use Rattle.ec_ir.specs.declared.operations.Temp.{Temp}
use Rattle.ec_ir.specs.Operations.{PlainIr, constant, copy, address, field, load_at, store_at, load_object}
use Rattle.ec_ir.specs.Operations.{store_object, binary_op, unary_op, conversion, label, jump, branch_zero}
use Rattle.ec_ir.specs.Operations.{call_function, return_from, port_in, port_out, load_cell, store_cell, cell_port}
use Rattle.ec_ir.specs.Temporaries.{low_bytes}
use Rattle.ec_select_bytes.specs.Values.{extend_code}
use Rattle.ec_select_numbers.specs.ByNumber.{put_code}
use Rattle.ec_select_places.specs.Conversions.{embed_code}
use Rattle.ec_select_places.specs.Distances.{elements_code}
use Rattle.ec_select_places.specs.Indexes.{can_add, add_index_code}
use Rattle.ec_select_places.specs.Steps.{scale_index_code, z_pair}
use Rattle.ec_select_pointers.specs.Accesses.{store_data_code, load_table_code}
use Rattle.ec_select_pointers.specs.Far.{load_far_table_code}
use Rattle.ec_select_pointers.specs.Form.{HasPlaces as HasPointerPlaces}
use Rattle.ec_space.specs.Spaces.{width}
use Rattle.ec_space.specs.declared.space.Home.{Home}
use Rattle.ec_space.specs.declared.space.SpaceId.{SpaceId}
use Rattle.ec_space.specs.declared.space.SpaceId.TheVariants.{Flash, FarFlash, Data, Generic}
use Rattle.ec_space.specs.declared.space.Home.TheVariants.{Flash as FlashHome, Far as FarHome, Data as DataHome}
use Rattle.ec_select_order.specs.declared.relations.Relation.{Relation}
use Rattle.ec_select_order.specs.declared.relations.Relation.TheVariants.{Less, NotLess, Equal, NotEqual}
use Rattle.ec_select_order.specs.Relations.{relation_in_code, flag_of, is_set}
use Rattle.ec_select_products.specs.Products.{product_code}
use Rattle.ec_select_quotients.specs.Signs.{quotient_code}
use Rattle.ec_select_shifts.specs.declared.shifts.Direction.{Direction}
use Rattle.ec_select_shifts.specs.declared.shifts.Direction.TheVariants.{Left, Right}
use Rattle.ec_select_shifts.specs.Shifts.{shift_code, counted_code as turned_by_code}
use Rattle.ec_select_operations.specs.declared.families.Family.{Family}
use Rattle.ec_select_operations.specs.declared.families.Family.TheVariants.{Combined, Compared, Multiplied, Shifted}
use Rattle.ec_select_operations.specs.declared.families.Family.TheVariants.{Divided}
use Rattle.ec_select_operations.specs.declared.families.Told.{Told}
use Rattle.ec_select_operations.specs.declared.families.Told.TheVariants.{Operands, InZ, Index}
use Rattle.ec_select_operations.specs.declared.homes.Homes.{Homes}
use Rattle.ec_select_operations.specs.declared.bounds.Bound.{Bound}
use Rattle.ec_select_operations.specs.Bounds.{bound_of, truth_by_code}
use Rattle.ec_select_operations.specs.Code.{counted_by_code}
use Rattle.ec_select_operations.specs.Code.{compared_signed, counted_code, same_location, transfer_code, move_code}
use Rattle.ec_select_operations.specs.Code.{reversed_code, family_of, is_signed}
use Rattle.ec_select_operations.specs.Code.{conversion_code, truth_register, truth_at_code, combined_code}
use Rattle.ec_select_operations.specs.Code.{compared_code, multiplied_code, shift_of, shifted_bytes, turned_code}
use Rattle.ec_select_operations.specs.Code.{shifted_code, long_code}
use Rattle.ec_select_operations.specs.Code.{divided_code, binary_code, turn_code, unary_code, branch_code, Linkage}
use Rattle.ec_select_operations.specs.Code.{place_register}
use Rattle.ec_select_operations.specs.Code.{kept_bytes, waiting_location, save_place, restore_place, register_places}
use Rattle.ec_select_operations.specs.Code.{save_code}
use Rattle.ec_select_operations.specs.Code.{restore_code, taken_code, call_code, result_code, return_code}
use Rattle.ec_select_operations.specs.Code.{flag_code, operator_code, tested_code, jump_code, kept_need, own_code, op_code, tells_next}
use Rattle.ec_select_operations.specs.Code.{needed_behind}
use Rattle.ec_select_operations.specs.Tests.{number_test}
use Rattle.ec_select_operations.specs.Code.{called_code, linked_code, routine_used, result_wanted}
use Rattle.ec_select_routines.specs.Codes.{first_place, second_place, call_with_one, call_with_two}
use Rattle.ec_select_operations.specs.Code.{ops_code}
use Rattle.ec_select_operations.specs.Code.{work_location, answer_location, answer_code, by_kind, fixed_binary, fixed_unary}
use Rattle.ec_select_operations.specs.Code.{is_on_integers, is_placed, placed_whole, placed_binary, keeps_number, is_brought, brought_code}
use Rattle.ec_select_operations.specs.Code.{negated_unary}
use Rattle.ec_select_fixed.specs.Types.{format_in}
use Rattle.ec_select_operations.specs.Emitted.{second_bytes}
use Rattle.ec_select_operations.proofs.OneFormat.{placed_bytes}
use Rattle.ec_select_operations.specs.Code.{by_core}
use Rattle.ec_select_operations.specs.Code.{fixed_conversion, addressed_code, member_code, load_code, banked_code, moved_code, offset_code}
use Rattle.ec_select_operations.specs.Code.{is_far, takes_index, indexed_code, scaled_code, known_bytes, known_offset}
use Rattle.ec_select_operations.specs.Code.{offset_by, object_code, further_code, displacement, from_z_code}
use Rattle.ec_select_operations.specs.Code.{loaded_code, stored_code, own_telling}
use Rattle.ec_select_operations.specs.Code.{is_in_reach, is_index, load_index_code}
use Rattle.ec_select_pointers.specs.Accesses.{point_code}
use Rattle.ec_select_pointers.specs.Fetched.{fetch_code, load_member_code, load_further_code, load_tagged_code}
use Rattle.ec_select_pointers.specs.Fetched.{store_member_code}
use Rattle.ec_select_pointers.specs.FetchedLaws.{IsInRange}
use Rattle.ec_select_pointers.proofs.InZ.{fetches_are_valid, point_is_valid, members_are_valid, further_is_valid}
use Rattle.ec_select_pointers.proofs.InZ.{fetches_have_no_label, stores_are_valid}
use Rattle.ec_select_operations.specs.Code.{related_bytes, pointers_code, is_difference, pointer_binary, pointer_conversion}
use Rattle.ec_select_functions.specs.Covered.{AreIntegers}
use Rattle.ec_select_functions.specs.Covered.{HasIndex, HasScalarAt, IsBinary, IsFixedBinary, IsFixedUnary}
use Rattle.ec_select_functions.specs.Covered.{AreConverted, IsFixedConversion, IsPointerBinary, IsPointerConversion}
use Rattle.ec_select_functions.specs.Covered.{IsUnary, IsResult, IsCovered, AreCovered}
use Rattle.ec_select_functions.proofs.Cells.{UsesCells}
use Rattle.ec_select_functions.proofs.Counts.{used_is}
use Rattle.ec_select_functions.proofs.OnIntegers.{whole_type}
use Rattle.ec_select_functions.proofs.OnWholes.{on_wholes}
use Rattle.ec_select_operations.specs.Homes.{HasHome, depth, home, result_location}
use Rattle.ec_select_functions.proofs.Taken.{TakesSum, TakesOrder, TakesShift, takes, taken_is, compared_few}
use Rattle.ec_select_functions.proofs.Taken.{compared_within, compared_some}
use Rattle.ec_select_operations.specs.Code.{taking_code, integer_binary, changed_by_code, bytes_code, masks_low, low_mask_code}
use Rattle.ec_select_operations.specs.Code.{combined_by_code, leaves_bit, top_bit_code}
use Rattle.ec_ir_known.specs.declared.known.RightNumber.{RightNumber}
use Rattle.ec_select_operations.specs.Needs.{Need, Facts, wanted, wanted_result, needs, is_fixed, number_taken}
use Rattle.ec_select_operations.specs.Needs.{compared_bytes as bytes_compared, takes_count, number_known, moves_pointer}
use Rattle.ec_select_operations.specs.Needs.{takes_known}
use Rattle.ec_select.proofs.ByNumber.{put_fits, changed_by_fits, masked_fits, number_test_fits, bounded_fits}
use Rattle.ec_select.proofs.ByNumber.{truth_by_fits, store_object_fits}
use Rattle.ec_select_operations.specs.Stores.{store_object_code}
use Rattle.ec_select_functions.proofs.Taken.{TakenNumber, as_known, no_number, HasNumber, number_or_none, ComparesSo}
use Rattle.ec_select_functions.proofs.Taken.{compares, Joins, joins}
use Rattle.ec_select_operations.specs.Places.{object_location}
use Rattle.ec_select_operations.specs.Pointers.{is_pointer, is_into_data, kept_in, has_tables, IsPointerSize}
use Rattle.ec_select_operations.specs.Ports.{in_code, out_code, first_cell, cell_place, cell_in_code, cell_out_code}
use Rattle.ec_select.proofs.FixedItems.{FixedItemLaws, all_fit, plain_fits, has_places, answer_fits, own_fits, others_fit}
use Rattle.ec_select.proofs.Carried.{carried_fits}
use Rattle.ec_select.proofs.InPlace.{whole_fits}
use Rattle.ec_select.proofs.Limits.{negated_fits}
use Rattle.ec_select.proofs.FixedTypes.{type_fixed, either_fixed, no_fixed, no_fixed_operand, none_converted}
use Rattle.ec_select.proofs.Fitting.{fits, Fit, joined, chained, passing, and_first, and_second, ByteFits, BytesFit}
use Rattle.ec_select.proofs.Fitting.{registers_fit, fewer_fit, two_fit}
use Rattle.ec_select.proofs.Pieces.{copy_fits, transfer_fits, operate_fits, compare_fits, relation_in_fits, made_fits}
use Rattle.ec_select.proofs.Pieces.{constant_fits}
use Rattle.ec_select.proofs.Pieces.{extend_fits}
use Rattle.ec_select.proofs.Pieces.{complement_fits, negation_fits}
use Rattle.ec_select.proofs.PointerItems.{added_there_fits, PointerItemLaws, fewer_places, few_related, addressed_fits, member_fits}
use Rattle.ec_select.proofs.PointerItems.{load_fits, far_object_fits}
use Rattle.ec_select.proofs.PointerItems.{store_fits, table_fits, scale_fits, added_fits, moved_fits, elements_fit}
use Rattle.ec_select.proofs.PointerItems.{embed_fits, scale_there_fits}
use Rattle.ec_select.proofs.Indexed.{index_few, first_moved, second_moved, moves_pointers, kind_fits}
use Rattle.ec_select.proofs.PointerTypes.{some_width, two_pointers, first_pointer, second_pointer, pointers_only}
use Rattle.ec_select.proofs.PointerTypes.{pointer_converted, at_least_two, no_pointer, none_pointed, made_bytes}
use Rattle.ec_select.proofs.PortItems.{IndexFits, in_fits, out_fits, cell_in_fits, cell_out_fits}
use Rattle.ec_select.proofs.Loops.{counted_fits, shift_fits, product_fits, quotient_fits}

flag_small : (r : Relation) (signed : Bool) → nat_lt (flag_of r signed) 8 ≡ true
flag_small Less true = refl
flag_small Less false = refl
flag_small NotLess true = refl
flag_small NotLess false = refl
flag_small Equal signed = refl
flag_small NotEqual signed = refl

-- the scratch memory has room for so many places, and there are 64 work bytes and so many cells
pub record HasRoom (sizes : Sizes) (cells : ℕ) (h : Homes) (slots : ℕ) : Type 0 where
  pub width : (h.width ≡ 2) ⊎ (h.width ≡ 4)
  pub scratch : (k : ℕ) → k ≤ 16 * slots → is_offset sizes h.scratch k ≡ true
  pub work : (k : ℕ) → k ≤ 64 → is_offset sizes 1280 k ≡ true
  pub cell : (c : ℕ) → c < cells → is_offset sizes 1280 (first_cell + c) ≡ true

-- what the items of operations on fixed-point numbers and on pointers are, by the crates below
pub record ItemLaws : Type 0 where
  pub fixed : FixedItemLaws
  pub pointers : PointerItemLaws

-- the offsets of objects up to their ends are in range, and so are the bytes of their scalars
pub record ObjectsFit (sizes : Sizes) (p : PlainProgram) : Type 0 where
  pub offsets : (o offset : ℕ) (d : PlainObject) → slice_get p.objects o ≡ Some d
      → offset ≤ size_of_type p.structs d.ty → is_offset sizes o offset ≡ true
  pub begins : (o offset bytes : ℕ) → HasScalarAt p o offset bytes → is_offset sizes o offset ≡ true
  pub scalars : (o offset bytes : ℕ) → HasScalarAt p o offset bytes
      → BytesFit sizes (object_location p.objects o offset) bytes

-- what is asked of a test for the items that name labels
abbrev pub AcceptsLabels : (AsmItem → Bool) → Linkage → PlainIr → Type 0
AcceptsLabels q k (label l) = q (Label (k.label_of l)) ≡ true
AcceptsLabels q k (jump l) =
    (q (JumpTo (k.label_of l)) ≡ true)
    × ((set : Bool) (flag : ℕ) → nat_lt flag 8 ≡ true → q (BranchTo set flag (k.label_of l)) ≡ true)
AcceptsLabels q k (branch_zero t l) =
    (set : Bool) (flag : ℕ) → nat_lt flag 8 ≡ true → q (BranchTo set flag (k.label_of l)) ≡ true
AcceptsLabels q k (call_function f to) = q (CallTo (k.entry_of f)) ≡ true
AcceptsLabels q k (constant t n) = ⊤
AcceptsLabels q k (copy to from) = ⊤
AcceptsLabels q k (address t o offset) = ⊤
AcceptsLabels q k (field ptr space offset) = ⊤
AcceptsLabels q k (load_at to ptr space) = ⊤
AcceptsLabels q k (store_at ptr space from) = ⊤
AcceptsLabels q k (load_object t o offset) = ⊤
AcceptsLabels q k (store_object o offset t) = ⊤
AcceptsLabels q k (binary_op op ty mode to a aty b bty) = ⊤
AcceptsLabels q k (unary_op op ty mode to a) = ⊤
AcceptsLabels q k (conversion to ty mode a aty) = ⊤
AcceptsLabels q k (return_from from) = ⊤
AcceptsLabels q k (port_in to port index width) = ⊤
AcceptsLabels q k (port_out from port index width) = ⊤
AcceptsLabels q k (load_cell to cell) = ⊤
AcceptsLabels q k (store_cell cell from) = ⊤
AcceptsLabels q k (cell_port read t cell offset index width) = ⊤

-- and for the call of a routine
abbrev pub AcceptsCalls : (AsmItem → Bool) → Linkage → PlainIr → Type 0
AcceptsCalls q k i = (l : ℕ) → k.routine_of i ≡ Some l → q (CallTo l) ≡ true

abbrev pub AllAccepted : (AsmItem → Bool) → Linkage → List PlainIr → Type 0
AllAccepted q k [] = ⊤
AllAccepted q k (i ∷ code) = AcceptsLabels q k i × AcceptsCalls q k i × AllAccepted q k code

module _ (sizes : Sizes) where
  -- ---- families

  pub move_fits : (p q : Location) (n : ℕ) → BytesFit sizes p n → BytesFit sizes q n → Fit sizes (move_code p q n)
  move_fits p q n x y = by_place (same_location p q) where
    by_place : (same : Bool) → Fit sizes (if same then [] else transfer_code p q n)
    by_place true = refl
    by_place false = transfer_fits sizes p q n x y

  convert_fits : (signed : Bool) (p q : Location) (bytes n : ℕ) → 1 ≤ bytes → BytesFit sizes p bytes
      → BytesFit sizes q n → Fit sizes (conversion_code signed p q bytes n)
  convert_fits signed p q bytes n some x y =
      joined (fits sizes) (move_code p q (min n bytes)) (extend_code signed q bytes n)
      (move_fits p q (min n bytes) (fewer_fit sizes p (min n bytes) bytes (omega arith) x)
      (fewer_fit sizes q (min n bytes) n (omega arith) y))
      (extend_fits sizes signed q bytes n some y)

  unless_none : (n : ℕ) (code : List AsmItem) → Fit sizes code → Fit sizes (if n == 0 then [] else code)
  unless_none n code h = by_count (n == 0) where
    by_count : (none : Bool) → Fit sizes (if none then [] else code)
    by_count true = refl
    by_count false = h

  where_some : (n : ℕ) (code : List AsmItem) → (0 < n → Fit sizes code) → Fit sizes (if n == 0 then [] else code)
  where_some n code h = by_count (n == 0) refl where
    by_count : (none : Bool) → (n == 0) ≡ none → Fit sizes (if none then [] else code)
    by_count true q = refl
    by_count false q = let other = eqb-false n 0 q in h (omega (arith, other))

  -- a truth value goes to its place
  truth_at_fits : (to : Location) (n : ℕ) → 0 < n → BytesFit sizes to n → Fit sizes (truth_at_code to n)
  truth_at_fits to n some z =
      convert_fits false (InRegisters (truth_register to)) to 1 n (omega arith) (made_fits sizes to (z 0 some)) z

  reversed_fit : (op : Operator) (a to : Location) (n : ℕ) → BytesFit sizes a n → BytesFit sizes to n
      → Fit sizes (reversed_code op a to n)
  reversed_fit Sum a to n x z = operate_fits sizes Sum a to n x z
  reversed_fit BitAnd a to n x z = operate_fits sizes BitAnd a to n x z
  reversed_fit BitOr a to n x z = operate_fits sizes BitOr a to n x z
  reversed_fit BitXor a to n x z = operate_fits sizes BitXor a to n x z
  reversed_fit Difference a to n x z =
      joined (fits sizes) (operate_code Difference a to n) (negation_code to n) (operate_fits sizes Difference a to n x z)
      (negation_fits sizes to n z)

  combined_fit : (op : Operator) (a b to : Location) (n : ℕ) → BytesFit sizes a n → BytesFit sizes b n
      → BytesFit sizes to n → Fit sizes (combined_code op a b to n)
  combined_fit op a b to n x y z = by_place (same_location b to) where
    by_place : (same : Bool)
        → Fit sizes (if same then reversed_code op a to n else move_code a to n ++ operate_code op b to n)
    by_place true = reversed_fit op a to n x z
    by_place false =
        joined (fits sizes) (move_code a to n) (operate_code op b to n) (move_fits a to n x z)
        (operate_fits sizes op b to n y z)

  compared_fit : (r : Relation) (signed : Bool) (a b to : Location) (bytes n : ℕ) → BytesFit sizes a bytes
      → BytesFit sizes b bytes → BytesFit sizes to n → Fit sizes (compared_code r signed a b to bytes n)
  compared_fit r signed a b to bytes n x y z =
      let compared = relation_in_code (truth_register to) r signed a b bytes in
      where_some n (compared ++ truth_at_code to n)
      (λ some.
      joined (fits sizes) compared (truth_at_code to n) (relation_in_fits sizes to r signed a b bytes x y (z 0 some))
      (truth_at_fits to n some z))

  truth_by_fit : (bound : Bound) (a to : Location) (bytes n : ℕ) → BytesFit sizes a bytes → BytesFit sizes to n
      → Fit sizes (if n == 0 then [] else truth_by_code (truth_register to) bound a bytes ++ truth_at_code to n)
  truth_by_fit bound a to bytes n x z =
      let own = truth_by_code (truth_register to) bound a bytes in
      where_some n (own ++ truth_at_code to n)
      (λ some.
      joined (fits sizes) own (truth_at_code to n) (truth_by_fits sizes to bound a bytes x (z 0 some)) (truth_at_fits to n some z))

  multiplied_fit : (left right : Bool) (a b to : Location) (n : ℕ) → n ≤ 2 → BytesFit sizes a 1 → BytesFit sizes b 1
      → BytesFit sizes to n → Fit sizes (multiplied_code left right a b to n)
  multiplied_fit left right a b to n few x y z =
      unless_none n (product_code left right a b to n) (product_fits sizes left right a b to n few x y z)

  shifted_fit : (up signed : Bool) (a b to : Location) (bytes n : ℕ) → bytes ≤ 8 → n ≤ bytes → BytesFit sizes a bytes
      → BytesFit sizes b 1 → BytesFit sizes to bytes → Fit sizes (shifted_code up signed a b to bytes n)
  shifted_fit up signed a b to bytes n few l x y z =
      unless_none n (turned_code (shift_of up signed) a b to (shifted_bytes up bytes n))
      (by_width (shifted_bytes up bytes n) (fewer up)) where
        fewer : (left : Bool) → shifted_bytes left bytes n ≤ bytes
        fewer true = l
        fewer false = omega arith

        by_width : (m : ℕ) → m ≤ bytes → Fit sizes (turned_code (shift_of up signed) a b to m)
        by_width m h =
            joined (fits sizes) (move_code a to m) (move_code b (InRegisters 30) 1 ++ shift_code (shift_of up signed) to m)
            (move_fits a to m (fewer_fit sizes a m bytes h x) (fewer_fit sizes to m bytes h z))
            (joined (fits sizes) (move_code b (InRegisters 30) 1) (shift_code (shift_of up signed) to m)
            (move_fits b (InRegisters 30) 1 y (registers_fit sizes 30 1 (omega arith)))
            (shift_fits sizes (shift_of up signed) to m (omega arith) (fewer_fit sizes to m bytes h z)))

  divided_fit : (r signed : Bool) (a b to : Location) (bytes n : ℕ) → 1 ≤ bytes → bytes ≤ 4 → BytesFit sizes a bytes
      → BytesFit sizes b bytes → BytesFit sizes to bytes → Fit sizes (divided_code r signed a b to bytes n)
  divided_fit r signed a b to bytes n some few x y z =
      let whole : suc (bytes - 1) ≤ bytes = omega arith in
      let top = bytes - 1 in
      unless_none n (long_code r signed a b to top)
      (joined (fits sizes) (move_code a to (suc top)) (quotient_code r signed to b top)
      (move_fits a to (suc top) (fewer_fit sizes a (suc top) bytes whole x) (fewer_fit sizes to (suc top) bytes whole z))
      (quotient_fits sizes r signed to b top (omega arith) (fewer_fit sizes to (suc top) bytes whole z)
      (fewer_fit sizes b (suc top) bytes whole y)))

  -- ---- homes

  pub home_fits : (cells : ℕ) (h : Homes) (slots : ℕ) → HasRoom sizes cells h slots → (t : Temp) → HasHome slots t
      → BytesFit sizes (home h t) t.bytes
  home_fits cells h slots room t k = by_depth (nat_le t.bytes h.width && nat_le (depth h t) 12) where
    by_depth : (near : Bool) → BytesFit sizes (if near then InRegisters (26 - depth h t)
        else InMemory h.scratch (16 * t.at)) t.bytes
    by_depth true i l = let m = k.most in grind arith
    by_depth false i l = let m = k.most in let w = k.within in room.scratch (16 * t.at + i) (omega arith)

  -- the registers of a home end below R30
  pub home_leaves : (cells : ℕ) (h : Homes) (slots : ℕ) → HasRoom sizes cells h slots → (t : Temp) → HasHome slots t
      → HasPointerPlaces sizes (home h t) t.bytes
  home_leaves cells h slots room t k = by_depth (nat_le t.bytes h.width && nat_le (depth h t) 12) refl where
    in_row : h.width * (t.at + 1) ≡ depth h t → t.bytes ≤ h.width → (h.width ≡ 2) ⊎ (h.width ≡ 4) → 26 - depth h t + t.bytes ≤ 30
    in_row e few (inl w) =
        let d : h.width * (t.at + 1) ≡ 2 * (t.at + 1) = ap (λ (x : ℕ). x * (t.at + 1)) w in omega (arith, d, w, few, e)
    in_row e few (inr w) =
        let d : h.width * (t.at + 1) ≡ 4 * (t.at + 1) = ap (λ (x : ℕ). x * (t.at + 1)) w in omega (arith, d, w, few, e)

    by_depth : (near : Bool) → (nat_le t.bytes h.width && nat_le (depth h t) 12) ≡ near
        → HasPointerPlaces sizes (if near then InRegisters (26 - depth h t) else InMemory h.scratch (16 * t.at)) t.bytes
    by_depth true e =
        in_row refl (leb-true t.bytes h.width (and_first (nat_le t.bytes h.width) (nat_le (depth h t) 12) e)) room.width
    by_depth false e = λ i l. let m = k.most in let w = k.within in room.scratch (16 * t.at + i) (omega arith)

  -- ---- operations of a function

  module _ (cells : ℕ) (p : PlainProgram) (k : Linkage) (room : HasRoom sizes cells k.homes k.slots) (objects : ObjectsFit sizes p)
      (laws : ItemLaws) where
    at_home : (t : Temp) → HasHome k.slots t → BytesFit sizes (home k.homes t) t.bytes
    at_home t h = home_fits cells k.homes k.slots room t h

    -- the first n bytes
    low_home : (t : Temp) (n : ℕ) → HasHome k.slots t → n ≤ t.bytes → BytesFit sizes (home k.homes t) n
    low_home t n h l = fewer_fit sizes (home k.homes t) n t.bytes l (at_home t h)

    binary_fits : (family : Family) (to a b : Temp) (ty aty bty : PlainType) (left right : Bool) (n : ℕ)
        → IsBinary family k.slots to a b ty aty bty → n ≤ to.bytes
        → Fit sizes (binary_code family left right (home k.homes a) (home k.homes b) (home k.homes to) a.bytes n)
    binary_fits (Combined op) to a b ty aty bty left right n h l =
        let x = h.left_bytes in let y = h.right_bytes in
        combined_fit op (home k.homes a) (home k.homes b) (home k.homes to) n (low_home a n h.left (omega arith))
        (low_home b n h.right (omega arith)) (low_home to n h.result l)
    binary_fits (Compared r false) to a b ty aty bty left right n h l =
        compared_fit r left (home k.homes a) (home k.homes b) (home k.homes to) a.bytes n (at_home a h.left)
        (low_home b a.bytes h.right (let x = h.same_bytes in omega arith)) (low_home to n h.result l)
    binary_fits (Compared r true) to a b ty aty bty left right n h l =
        compared_fit r left (home k.homes b) (home k.homes a) (home k.homes to) a.bytes n
        (low_home b a.bytes h.right (let x = h.same_bytes in omega arith)) (at_home a h.left) (low_home to n h.result l)
    binary_fits Multiplied to a b ty aty bty left right n h l =
        let x = h.left_bytes in let y = h.right_bytes in let z = h.result_bytes in
        multiplied_fit left right (home k.homes a) (home k.homes b) (home k.homes to) n (omega arith)
        (low_home a 1 h.left (omega arith)) (low_home b 1 h.right (omega arith)) (low_home to n h.result l)
    binary_fits (Shifted up) to a b ty aty bty left right n h l =
        let i = h.0 in let x = i.same_bytes in let most = i.left.most in let some = i.count.some in
        shifted_fit up left (home k.homes a) (home k.homes b) (home k.homes to) a.bytes n most (omega arith)
        (at_home a i.left) (low_home b 1 i.count some) (low_home to a.bytes i.result (omega arith))
    binary_fits (Divided r) to a b ty aty bty left right n h l =
        let i = h.0 in let x = i.left_bytes in let y = i.right_bytes in let most = i.most in let some = i.left.some in
        divided_fit r left (home k.homes a) (home k.homes b) (home k.homes to) a.bytes n some (omega arith)
        (at_home a i.left) (low_home b a.bytes i.right (omega arith)) (low_home to a.bytes i.result (omega arith))

    -- a comparison whose result is told by a flag
    flag_fits : (family : Family) (to a b : Temp) (ty aty bty : PlainType) → IsBinary family k.slots to a b ty aty bty
        → Fit sizes (flag_code family (home k.homes a) (home k.homes b) a.bytes)
    flag_fits (Compared r false) to a b ty aty bty h =
        compare_fits sizes (home k.homes b) (home k.homes a) a.bytes
        (low_home b a.bytes h.right (let x = h.same_bytes in omega arith)) (at_home a h.left)
    flag_fits (Compared r true) to a b ty aty bty h =
        compare_fits sizes (home k.homes a) (home k.homes b) a.bytes (at_home a h.left)
        (low_home b a.bytes h.right (let x = h.same_bytes in omega arith))
    flag_fits family to a b ty aty bty h = refl

    operator_fits : (telling : Option Told) (family : Family) (to a b : Temp) (ty aty bty : PlainType) (left right : Bool)
        (n : ℕ) → IsBinary family k.slots to a b ty aty bty → n ≤ to.bytes
        → Fit sizes (operator_code telling family left right (home k.homes a) (home k.homes b) (home k.homes to) a.bytes n)
    operator_fits None family to a b ty aty bty left right n h l = binary_fits family to a b ty aty bty left right n h l
    operator_fits (Some t) family to a b ty aty bty left right n h l = flag_fits family to a b ty aty bty h

    -- operators that take numbers
    taking_fits : (op : BinOp) (known : Option RightNumber) (telling : Option Told) (to a b : Temp) (ty aty bty : PlainType)
        (left right : Bool) (n : ℕ) → IsBinary (family_of op) k.slots to a b ty aty bty → n ≤ to.bytes
        → Fit sizes (integer_binary known telling op left right (home k.homes a) (home k.homes b) (home k.homes to) a.bytes n)
    taking_fits op known telling to a b ty aty bty left right n h l = by_taken (number_taken known false op) refl
      where
        by_sum : (o : Operator) → AreIntegers k.slots to a b ty aty bty → (number : ℕ)
            → Fit sizes (combined_by_code o (home k.homes a) (home k.homes to) number n)
        by_sum o i number = by_mask (masks_low o number)
          where
            moved : (m : ℕ) → m ≤ n → Fit sizes (move_code (home k.homes a) (home k.homes to) m)
            moved m few =
                let x = i.left_bytes in
                move_fits (home k.homes a) (home k.homes to) m (low_home a m i.left (omega (arith, few, x, l)))
                (low_home to m i.result (omega (arith, few, l)))

            changed : (q : Operator) (m : ℕ) → m ≤ n → Fit sizes (changed_by_code q (home k.homes to) number m)
            changed q m few = changed_by_fits sizes q (home k.homes to) number m (low_home to m i.result (omega (arith, few, l)))

            by_mask : (x : Bool) → Fit sizes (if x then low_mask_code (home k.homes a) (home k.homes to) number n
                else move_code (home k.homes a) (home k.homes to) n ++ changed_by_code o (home k.homes to) number n)
            by_mask true =
                joined (fits sizes) (move_code (home k.homes a) (home k.homes to) (min n 1))
                (changed_by_code BitAnd (home k.homes to) number (min n 1) ++ extend_code false (home k.homes to) 1 n)
                (moved (min n 1) (omega arith))
                (joined (fits sizes) (changed_by_code BitAnd (home k.homes to) number (min n 1)) (extend_code false (home k.homes to) 1 n)
                (changed BitAnd (min n 1) (omega arith))
                (extend_fits sizes false (home k.homes to) 1 n (omega arith) (low_home to n i.result l)))
            by_mask false =
                joined (fits sizes) (move_code (home k.homes a) (home k.homes to) n) (changed_by_code o (home k.homes to) number n)
                (moved n (omega arith)) (changed o n (omega arith))

        by_number : (x : TakesSum op ⊎ (TakesOrder op ⊎ TakesShift op)) → (told : Option Told) (number : TakenNumber)
            → Fit sizes (taking_code (Some (as_known number)) told (family_of op) left right (home k.homes a) (home k.homes b)
            (home k.homes to)
            a.bytes n)
        by_number (inl x) None number =
            rw x.is (by_sum x.operator (subst (λ z. IsBinary z k.slots to a b ty aty bty) x.is h) (low_bytes 16 number.number))
        by_number (inl x) (Some told) number =
            let i = subst (λ z. IsBinary z k.slots to a b ty aty bty) x.is h in
            let some = i.left.some in
            rw x.is (masked_fits sizes (home k.homes a) (home k.homes to) (low_bytes 16 number.number % 256) (omega arith)
            (low_home a 1 i.left some))
        by_number (inr (inl x)) None number =
            let i = subst (λ z. IsBinary z k.slots to a b ty aty bty) x.is h in
            let compared = bytes_compared (Some (as_known number)) a.bytes in
            let few = compared_few (as_known number) a.bytes in
            let sign = compared_signed (Some (as_known number)) left in
            rw x.is (truth_by_fit (bound_of x.relation x.exchanged sign compared (low_bytes 16 number.number)) (home k.homes a)
            (home k.homes to) compared n (low_home a compared i.left few) (low_home to n i.result l))
        by_number (inr (inl x)) (Some told) number =
            let i = subst (λ z. IsBinary z k.slots to a b ty aty bty) x.is h in
            let compared = bytes_compared (Some (as_known number)) a.bytes in
            let sign = compared_signed (Some (as_known number)) left in
            rw x.is (bounded_fits sizes (same_location (home k.homes a) (home k.homes to))
            (bound_of x.relation x.exchanged sign compared (low_bytes 16 number.number)) (home k.homes a) compared
            (low_home a compared i.left (compared_few (as_known number) a.bytes)))
        by_number (inr (inr x)) None number =
            let i = (subst (λ z. IsBinary z k.slots to a b ty aty bty) x.is h).0 in
            let compared = bytes_compared (Some (as_known number)) a.bytes in
            let sign = compared_signed (Some (as_known number)) left in
            let count = low_bytes 16 number.number % 256 in
            rw x.is (unless_none n (counted_by_code x.up sign (home k.homes a) (home k.homes to) compared n count)
            (by_direction x.up sign i.left i.result i.same_bytes compared (compared_few (as_known number) a.bytes)
            (compared_some (Some (as_known number)) a.bytes i.left.some)))
          where
            count_fits : (sh : Direction) (m : ℕ) → HasHome k.slots a → HasHome k.slots to → a.bytes ≡ to.bytes → m ≤ a.bytes
                → Fit sizes (counted_code sh (home k.homes a) (home k.homes to) m (low_bytes 16 number.number % 256))
            count_fits sh m ia it same few =
                let most = ia.most in
                joined (fits sizes) (move_code (home k.homes a) (home k.homes to) m)
                (turned_by_code sh (home k.homes to) m (low_bytes 16 number.number % 256))
                (move_fits (home k.homes a) (home k.homes to) m (low_home a m ia few) (low_home to m it (omega (arith, few, same))))
                (counted_fits sizes sh (home k.homes to) m (low_bytes 16 number.number % 256) (omega (arith, few, most)) (omega arith)
                (low_home to m it (omega (arith, few, same))))

            by_direction : (up sign : Bool) → HasHome k.slots a → HasHome k.slots to → a.bytes ≡ to.bytes → (m : ℕ) → m ≤ a.bytes → 1 ≤ m
                → Fit sizes (counted_by_code up sign (home k.homes a) (home k.homes to) m n (low_bytes 16 number.number % 256))
            by_direction true sign ia it same m few some = count_fits Left n ia it same (omega (arith, l, same))
            by_direction false sign ia it same m few some =
                by_bit (leaves_bit sign (home k.homes to) m n (low_bytes 16 number.number % 256))
              where
                whole : Fit sizes (counted_code (Right sign) (home k.homes a) (home k.homes to) m (low_bytes 16 number.number % 256)
                    ++ extend_code false (home k.homes to) m n)
                whole =
                    joined (fits sizes) (counted_code (Right sign) (home k.homes a) (home k.homes to) m (low_bytes 16 number.number % 256))
                    (extend_code false (home k.homes to) m n) (count_fits (Right sign) m ia it same few)
                    (extend_fits sizes false (home k.homes to) m n some (low_home to n it l))

                bit : (q : Location) → BytesFit sizes q m → Fit sizes (top_bit_code q m)
                bit (InRegisters r) x =
                    let first = x 0 (omega (arith, some)) in
                    let low : r < 32 = omega (arith, first) in
                    let top = x (m - 1) (omega (arith, some)) in
                    rw (two_fit (r + (m - 1)) (r + (m - 1)) top top, two_fit r r low low) refl
                bit (InMemory o j) x = refl

                by_bit : (x : Bool)
                    → Fit sizes (if x then move_code (home k.homes a) (home k.homes to) m ++ top_bit_code (home k.homes to) m
                    else counted_code (Right sign) (home k.homes a) (home k.homes to) m (low_bytes 16 number.number % 256)
                    ++ extend_code false (home k.homes to) m n)
                by_bit false = whole
                by_bit true =
                    joined (fits sizes) (move_code (home k.homes a) (home k.homes to) m) (top_bit_code (home k.homes to) m)
                    (move_fits (home k.homes a) (home k.homes to) m (low_home a m ia few) (low_home to m it (omega (arith, few, same))))
                    (bit (home k.homes to) (low_home to m it (omega (arith, few, same))))
        by_number (inr (inr x)) (Some told) number = rw x.is refl

        low_fits : (telling : Option Told) (r : Relation) (x : Bool) (compared : ℕ) → BytesFit sizes (home k.homes a) compared
            → BytesFit sizes (home k.homes b) compared → BytesFit sizes (home k.homes to) n
            → Fit sizes (bytes_code telling (Compared r x) (home k.homes a) (home k.homes b) (home k.homes to) compared n)
        low_fits None r false compared x y z = compared_fit r false (home k.homes a) (home k.homes b) (home k.homes to) compared n x y z
        low_fits None r true compared x y z = compared_fit r false (home k.homes b) (home k.homes a) (home k.homes to) compared n y x z
        low_fits (Some told) r false compared x y z = compare_fits sizes (home k.homes b) (home k.homes a) compared y x
        low_fits (Some told) r true compared x y z = compare_fits sizes (home k.homes a) (home k.homes b) compared x y

        by_bytes : (order : ComparesSo op) (byte : Bool)
            → Fit sizes (taking_code (Some (no_number byte)) telling (family_of op) left right (home k.homes a) (home k.homes b)
            (home k.homes to) a.bytes n)
        by_bytes order byte =
            let i = subst (λ z. IsBinary z k.slots to a b ty aty bty) order.is h in
            let compared = bytes_compared (Some (no_number byte)) a.bytes in
            let few = compared_few (no_number byte) a.bytes in
            let same = i.same_bytes in
            subst (λ f. Fit sizes (bytes_code telling f (home k.homes a) (home k.homes b) (home k.homes to) compared n)) (sym order.is)
            (low_fits telling order.relation order.exchanged compared (low_home a compared i.left few)
            (low_home b compared i.right (omega (arith, few, same))) (low_home to n i.result l))

        -- one byte of the second operand alone
        by_one : (join : Joins op) (byte : Bool)
            → Fit sizes (taking_code (Some (no_number byte)) telling (family_of op) left right (home k.homes a) (home k.homes b)
            (home k.homes to) a.bytes n)
        by_one join byte =
            let i = subst (λ z. IsBinary z k.slots to a b ty aty bty) join.is h in
            let x = i.left_bytes in
            let y = i.right_bytes in
            let compared = bytes_compared (Some (no_number byte)) a.bytes in
            let one = min n 1 in
            subst (λ f. Fit sizes (bytes_code telling f (home k.homes a) (home k.homes b) (home k.homes to) compared n)) (sym join.is)
            (joined (fits sizes) (move_code (home k.homes a) (home k.homes to) n)
            (operate_code join.operator (home k.homes b) (home k.homes to) one)
            (move_fits (home k.homes a) (home k.homes to) n (low_home a n i.left (omega (arith, x, l))) (low_home to n i.result l))
            (operate_fits sizes join.operator (home k.homes b) (home k.homes to) one (low_home b one i.right (omega (arith, y, l)))
            (low_home to one i.result (omega (arith, l)))))

        with_none : (byte : Bool) → takes_known None byte op ≡ true
            → Fit sizes (taking_code (Some (no_number byte)) telling (family_of op) left right (home k.homes a) (home k.homes b)
            (home k.homes to) a.bytes n)
        with_none true q = by_bytes (compares op q) true
        with_none false q = by_one (joins op q) false

        by_taken : (x : Option RightNumber) → number_taken known false op ≡ x
            → Fit sizes (taking_code x telling (family_of op) left right (home k.homes a) (home k.homes b) (home k.homes to) a.bytes n)
        by_taken None q = operator_fits telling (family_of op) to a b ty aty bty left right n h l
        by_taken (Some j) q =
            ⊎_elim
            (λ (x : HasNumber j). with_number x.taken (q ∙ ap Some x.is) x.is)
            (λ (x : j ≡ no_number j.in_byte).
            subst (λ z. Fit sizes (taking_code (Some z) telling (family_of op) left right (home k.homes a) (home k.homes b)
            (home k.homes to) a.bytes n)) (sym x)
            (with_none j.in_byte (taken_is op known (no_number j.in_byte) (q ∙ ap Some x)).1))
            (number_or_none j)
          where
            with_number : (number : TakenNumber) → number_taken known false op ≡ Some (as_known number) → j ≡ as_known number
                → Fit sizes (taking_code (Some j) telling (family_of op) left right (home k.homes a) (home k.homes b) (home k.homes to)
                a.bytes n)
            with_number number q is =
                subst (λ z. Fit sizes (taking_code (Some z) telling (family_of op) left right (home k.homes a) (home k.homes b)
                (home k.homes to) a.bytes n)) (sym is) (by_number (takes op (taken_is op known (as_known number) q).1) telling number)

    turn_fits : (op : UnOp) (q : Location) (n : ℕ) → BytesFit sizes q n → Fit sizes (turn_code op q n)
    turn_fits Minus q n x = negation_fits sizes q n x
    turn_fits Invert q n x = complement_fits sizes q n x

    unary_fits : (op : UnOp) (to a : Temp) (ty : PlainType) (n : ℕ) → IsUnary k.slots to a ty → n ≤ to.bytes
        → Fit sizes (unary_code op (home k.homes a) (home k.homes to) n)
    unary_fits op to a ty n h l =
        let x = h.same_bytes in
        joined (fits sizes) (move_code (home k.homes a) (home k.homes to) n) (turn_code op (home k.homes to) n)
        (move_fits (home k.homes a) (home k.homes to) n (low_home a n h.operand (omega arith)) (low_home to n h.result l))
        (turn_fits op (home k.homes to) n (low_home to n h.result l))

    -- ---- operations with a fixed-point type

    places : (t : Temp) (n : ℕ) → HasHome k.slots t → t.bytes ≡ n → HasPlaces sizes (home k.homes t) n
    places t n h e =
        let some = h.some in
        has_places sizes (home k.homes t) n (omega arith) (subst (λ (m : ℕ). BytesFit sizes (home k.homes t) m) e (at_home t h))

    work_places : HasPlaces sizes work_location 40
    work_places i l = room.work (0 + i) (omega arith)

    answer_places : (n : ℕ) → n ≤ 8 → HasPlaces sizes answer_location n
    answer_places n few i l = room.work (40 + i) (omega arith)

    fixed_binary_fits : (known : Option RightNumber) (telling : Option Told) (op : BinOp) (ty aty bty : PlainType) (mode : Mode)
        (to a b : Temp) (n : ℕ)
        → IsFixedBinary k.slots op to a b ty aty bty → n ≤ to.bytes
        → Fit sizes (fixed_binary known telling op ty aty bty mode (home k.homes a) (home k.homes b) (home k.homes to) a.bytes n)
    fixed_binary_fits known telling op ty aty bty mode to a b n h l = by_code (is_on_integers (family_of op) mode ty aty bty) refl
      where
        code : List AsmItem
        code = fixed_binary_code op ty aty bty mode (home k.homes a) (home k.homes b) answer_location work_location

        stops : Bool
        stops = is_placed op mode ty aty bty && not (same_location (home k.homes b) (home k.homes to))

        stopped : List AsmItem
        stopped = placed_binary known op (is_signed aty) (home k.homes a) (home k.homes b) (home k.homes to) a.bytes n

        by_stop : (x : Bool) → stops ≡ x → Fit sizes (if x then stopped else answer_code code (home k.homes to) n)
        by_stop true s =
            let placed = and_first (is_placed op mode ty aty bty) (not (same_location (home k.homes b) (home k.homes to))) s in
            let there = placed_bytes op mode n to a b ty aty bty placed
            (record { types = h.types; left = h.left_bytes; right = h.right_bytes; result = h.result_bytes; most = l }) in
            let most = h.left.most in let some = h.left.some in let wide = there.result in
            let top = a.bytes - 1 in
            let one_more : a.bytes ≡ suc top = omega arith in
            let second : second_bytes op (suc top) ≤ b.bytes = subst (λ (m : ℕ). second_bytes op m ≤ b.bytes) one_more there.right in
            unless_none n (placed_whole known op (is_signed aty) (home k.homes a) (home k.homes b) (home k.homes to) top)
            (whole_fits sizes known (is_signed aty) (home k.homes a) (home k.homes b) (home k.homes to) top (omega arith)
            (move_fits (home k.homes a) (home k.homes to) (suc top) (low_home a (suc top) h.left (omega arith))
            (low_home to (suc top) h.result (omega arith))) (low_home to (suc top) h.result (omega arith)) op
            (λ x. move_fits (home k.homes b) (InRegisters 30) 1 x (registers_fit sizes 30 1 (omega arith)))
            (low_home b (second_bytes op (suc top)) h.right second))
        by_stop false s =
            let most = h.result.most in let e = h.result_bytes in
            answer_fits sizes room.work code (home k.homes to) n (omega arith)
            (plain_fits sizes code
            (laws.fixed.binaries sizes op ty aty bty mode (home k.homes a) (home k.homes b) answer_location work_location h.types
            (places a (scalar_size aty) h.left h.left_bytes) (places b (scalar_size bty) h.right h.right_bytes)
            (answer_places (scalar_size ty) (omega arith)) work_places))
            (low_home to n h.result l)

        by_code : (on : Bool) → is_on_integers (family_of op) mode ty aty bty ≡ on
            → Fit sizes (if on then integer_binary known telling op (is_signed aty) (is_signed bty) (home k.homes a)
            (home k.homes b) (home k.homes to) a.bytes n else (if stops then stopped else answer_code code (home k.homes to) n))
        by_code true on =
            let w = on_wholes k.slots op mode to a b ty aty bty h on in
            taking_fits op known telling to a b w.result (whole_type w.kind) (whole_type w.kind) (is_signed aty)
            (is_signed bty) n w.binary l
        by_code false on = by_stop stops refl

    fixed_unary_fits : (op : UnOp) (ty : PlainType) (mode : Mode) (to a : Temp) (n : ℕ) → IsFixedUnary k.slots op to a ty
        → n ≤ to.bytes → Fit sizes (fixed_unary op ty mode (home k.homes a) (home k.homes to) n)
    fixed_unary_fits op ty mode to a n h l = by_mode mode.saturate
      where
        code : List AsmItem
        code = fixed_unary_code op ty mode (home k.homes a) answer_location work_location

        stopped : List AsmItem
        stopped = negated_unary (is_signed ty) (home k.homes a) (home k.homes to) (scalar_size ty) n

        by_size : (few : Bool) → nat_le (scalar_size ty) 6 ≡ few → Fit sizes (if few then stopped else answer_code code (home k.homes to) n)
        by_size true q =
            let some = h.result.some in let e = h.result_bytes in
            negated_fits sizes (is_signed ty) (home k.homes a) (home k.homes to) (scalar_size ty) n (omega (arith, some, e))
            (leb-true (scalar_size ty) 6 q)
            (subst (BytesFit sizes (home k.homes a)) h.operand_bytes (at_home a h.operand))
            (subst (BytesFit sizes (home k.homes to)) e (at_home to h.result))
            (λ (q : Location) y. move_fits (home k.homes a) q 1
            (fewer_fit sizes (home k.homes a) 1 a.bytes h.operand.some (at_home a h.operand)) y)
        by_size false q =
            let most = h.result.most in let e = h.result_bytes in
            answer_fits sizes room.work code (home k.homes to) n (omega arith)
            (plain_fits sizes code
            (laws.fixed.unaries sizes op ty mode (home k.homes a) answer_location work_location h.types
            (places a (scalar_size ty) h.operand h.operand_bytes) (answer_places (scalar_size ty) (omega arith)) work_places))
            (low_home to n h.result l)

        by_mode : (saturates : Bool)
            → Fit sizes (if saturates then (if nat_le (scalar_size ty) 6 then stopped else answer_code code (home k.homes to) n)
            else unary_code op (home k.homes a) (home k.homes to) n)
        by_mode true = by_size (nat_le (scalar_size ty) 6) refl
        by_mode false =
            let same : a.bytes ≡ to.bytes = h.operand_bytes ∙ sym h.result_bytes in
            unary_fits op to a (integer false to.bytes) n
            (record { signed = false; result_type = refl; result = h.result; operand = h.operand; same_bytes = same }) l

    fixed_conversion_fits : (ty aty : PlainType) (mode : Mode) (to a : Temp) (n : ℕ) → IsFixedConversion k.slots to a ty aty
        → n ≤ to.bytes → Fit sizes (fixed_conversion ty aty mode (home k.homes a) (home k.homes to) a.bytes n)
    fixed_conversion_fits ty aty mode to a n h l = by_number (keeps_number ty aty mode)
      where
        code : List AsmItem
        code = fixed_conversion_code ty aty mode (home k.homes a) answer_location work_location

        brought : List AsmItem
        brought =
            brought_code (is_signed aty) (home k.homes a) (home k.homes to) (scalar_size aty) (scalar_size ty) (format_in aty).frac
            (format_in ty).frac n

        by_way : (brings : Bool) → is_brought ty aty mode ≡ brings → Fit sizes (if brings then brought else answer_code code
            (home k.homes to) n)
        by_way true q =
            let some = h.from.some in let e = h.from_bytes in
            carried_fits sizes (is_signed aty) (home k.homes a) (home k.homes to) (scalar_size aty) (scalar_size ty) (format_in aty).frac
            (format_in ty).frac n (and_parts (not (is_fixed ty && mode.saturate)) _ q).1 (omega (arith, some, e))
            (subst (BytesFit sizes (home k.homes a)) e (at_home a h.from))
            (subst (BytesFit sizes (home k.homes to)) h.result_bytes (at_home to h.result))
        by_way false q =
            let most = h.result.most in let e = h.result_bytes in
            answer_fits sizes room.work code (home k.homes to) n (omega arith)
            (plain_fits sizes code
            (laws.fixed.conversions sizes ty aty mode (home k.homes a) answer_location work_location h.types
            (places a (scalar_size aty) h.from h.from_bytes) (answer_places (scalar_size ty) (omega arith)) work_places))
            (low_home to n h.result l)

        by_number : (keeps : Bool)
            → Fit sizes (if keeps then conversion_code (is_signed aty) (home k.homes a) (home k.homes to) a.bytes n
            else (if is_brought ty aty mode then brought else answer_code code (home k.homes to) n))
        by_number true =
            convert_fits (is_signed aty) (home k.homes a) (home k.homes to) a.bytes n h.from.some (at_home a h.from)
            (low_home to n h.result l)
        by_number false = by_way (is_brought ty aty mode) refl

    -- ---- operations on pointers

    -- the first n bytes
    low_leaves : (t : Temp) (n : ℕ) → HasHome k.slots t → n ≤ t.bytes → HasPointerPlaces sizes (home k.homes t) n
    low_leaves t n h l = fewer_places sizes (home k.homes t) n t.bytes l (home_leaves cells k.homes k.slots room t h)

    -- a pointer comes to the place of the result, and goes on there
    offset_fits : (minus signed : Bool) (from index to : Temp) (bytes size n : ℕ) → HasHome k.slots from → HasHome k.slots index
        → HasHome k.slots to → 2 ≤ bytes → bytes ≤ from.bytes → to.bytes ≡ from.bytes
        → Fit sizes (offset_code k.core minus signed (home k.homes from) (home k.homes index)
        (home k.homes to) bytes index.bytes size n)
    offset_fits minus signed from index to bytes size n x y z some most same =
        unless_none n (if takes_index k.core signed b c bytes index.bytes (size % 65536) then indexed else scaled)
        (by_way (takes_index k.core signed b c bytes index.bytes (size % 65536)) refl)
      where
        a : Location
        a = home k.homes from

        b : Location
        b = home k.homes index

        c : Location
        c = home k.homes to

        indexed : List AsmItem
        indexed = indexed_code minus a b c bytes index.bytes (size % 65536)

        scaled : List AsmItem
        scaled = scaled_code k.core minus signed a b c bytes index.bytes (size % 65536)

        move : Fit sizes (move_code a c bytes)
        move = move_fits a c bytes (low_home from bytes x most) (low_home to bytes z (omega (arith, most, same)))

        index_leaves : HasPointerPlaces sizes b index.bytes
        index_leaves = home_leaves cells k.homes k.slots room index y

        pair : HasPointerPlaces sizes c 2
        pair = low_leaves to 2 z (omega (arith, some, most, same))

        by_way : (way : Bool) → takes_index k.core signed b c bytes index.bytes (size % 65536) ≡ way
            → Fit sizes (if way then indexed else scaled)
        by_way true e =
            joined (fits sizes) (move_code a c bytes) (add_index_code minus b c index.bytes (size % 65536)) move
            (added_fits sizes laws.pointers minus signed b c index.bytes (size % 65536) y.some index_leaves pair
            (and_second (not (is_far k.core bytes)) (can_add signed b c index.bytes (size % 65536)) e))
        by_way false e =
            let moved = moved_code k.core bytes minus c in
            joined (fits sizes) (scale_index_code b signed index.bytes (size % 65536)) (move_code a c bytes ++ moved)
            (scale_fits sizes laws.pointers b c signed index.bytes (size % 65536) y.some (omega arith) index_leaves pair)
            (joined (fits sizes) (move_code a c bytes) moved move
            (moved_fits sizes laws.pointers k.core c minus bytes some (low_leaves to bytes z (omega (arith, most, same)))))

    -- so it does where the number of elements is told
    indexed_fits : (op : BinOp) (ty aty bty : PlainType) (to a b : Temp) (n : ℕ) → IsPointerBinary p k.slots op to a b ty aty bty
        → moves_pointer op aty bty ≡ true → n ≤ to.bytes
        → Fit sizes (offset_code k.core (is_difference op) (is_signed bty) (home k.homes a) z_pair (home k.homes to) (max 2 n) b.bytes
        (element_size p aty) n)
    indexed_fits op ty aty bty to a b n h moves l =
        unless_none n (if takes then indexed else scaled) (by_way takes refl)
      where
        from : Location
        from = home k.homes a

        c : Location
        c = home k.homes to

        minus : Bool
        minus = is_difference op

        signed : Bool
        signed = is_signed bty

        size : ℕ
        size = element_size p aty % 65536

        bytes : ℕ
        bytes = max 2 n

        sizes_are : (bytes ≤ a.bytes) × (bytes ≤ to.bytes)
        sizes_are =
            let t = first_pointer op ty aty bty (first_moved op aty bty moves) (second_moved op aty bty moves) h.types in
            let s = t.some in let r = t.result in let i = h.left_bytes in let w = h.result_bytes in
            (omega (arith, s, r, i, w, l), omega (arith, s, r, i, w, l))

        two : 2 ≤ bytes
        two = omega arith

        few : bytes ≤ to.bytes
        few = sizes_are.1

        takes : Bool
        takes = takes_index k.core signed z_pair c bytes b.bytes size

        indexed : List AsmItem
        indexed = indexed_code minus from z_pair c bytes b.bytes size

        scaled : List AsmItem
        scaled = scaled_code k.core minus signed from z_pair c bytes b.bytes size

        move : Fit sizes (move_code from c bytes)
        move = move_fits from c bytes (low_home a bytes h.left sizes_are.0) (low_home to bytes h.result few)

        by_way : (way : Bool) → takes ≡ way → Fit sizes (if way then indexed else scaled)
        by_way true e =
            joined (fits sizes) (move_code from c bytes) (add_index_code minus z_pair c b.bytes size) move
            (added_there_fits sizes laws.pointers minus signed c b.bytes size h.right.some
            (low_leaves to 2 h.result (omega (arith, two, few)))
            (and_second (not (is_far k.core bytes)) (can_add signed z_pair c b.bytes size) e))
        by_way false e =
            let moved = moved_code k.core bytes minus c in
            joined (fits sizes) (scale_index_code z_pair signed b.bytes size) (move_code from c bytes ++ moved)
            (scale_there_fits sizes laws.pointers c signed b.bytes size h.right.some (omega arith)
            (low_leaves to 2 h.result (omega (arith, two, few))))
            (joined (fits sizes) (move_code from c bytes) moved move
            (moved_fits sizes laws.pointers k.core c minus bytes two (low_leaves to bytes h.result few)))

    -- and where it is known
    offset_by_fits : (known : Option ℤ) (minus signed : Bool) (from index to : Temp) (bytes size n : ℕ) → HasHome k.slots from
        → HasHome k.slots index → HasHome k.slots to → 2 ≤ bytes → bytes ≤ from.bytes → to.bytes ≡ from.bytes
        → Fit sizes (offset_by known k.core minus signed (home k.homes from) (home k.homes index)
        (home k.homes to) bytes index.bytes size n)
    offset_by_fits None minus signed from index to bytes size n x y z some most same =
        offset_fits minus signed from index to bytes size n x y z some most same
    offset_by_fits (Some number) minus signed from index to bytes size n x y z some most same =
        let a = home k.homes from in let c = home k.homes to in
        let offset = known_offset minus (known_bytes signed index.bytes (low_bytes 16 number) size) in
        let member = member_code k.core bytes c offset in
        unless_none n (move_code a c bytes ++ member)
        (joined (fits sizes) (move_code a c bytes) member
        (move_fits a c bytes (low_home from bytes x most) (low_home to bytes z (omega (arith, most, same))))
        (member_fits sizes laws.pointers k.core c bytes offset some (low_home to bytes z (omega (arith, most, same)))))

    pointers_fit : (telling : Option Told) (family : Family) (a b to : Temp) (size n : ℕ) → HasHome k.slots a → HasHome k.slots b
        → HasHome k.slots to → 2 ≤ a.bytes → b.bytes ≡ a.bytes → to.bytes ≡ 2 → n ≤ to.bytes
        → Fit sizes (pointers_code telling k.core family (home k.homes a) (home k.homes b) (home k.homes to) a.bytes size n)
    pointers_fit telling (Combined op) a b to size n x y z some same two l =
        unless_none n (elements_code (home k.homes a) (home k.homes b) (home k.homes to) size)
        (elements_fit sizes laws.pointers (home k.homes a) (home k.homes b) (home k.homes to) size (low_leaves a 2 x some)
        (low_leaves b 2 y (omega (arith, some, same))) (low_leaves to 2 z (omega (arith, two))))
    pointers_fit None (Compared r false) a b to size n x y z some same two l =
        let few = few_related k.core r a.bytes some in
        compared_fit r false (home k.homes a) (home k.homes b) (home k.homes to) (related_bytes k.core r a.bytes) n
        (low_home a (related_bytes k.core r a.bytes) x few) (low_home b (related_bytes k.core r a.bytes) y (omega (arith, few, same)))
        (low_home to n z l)
    pointers_fit None (Compared r true) a b to size n x y z some same two l =
        let few = few_related k.core r a.bytes some in
        compared_fit r false (home k.homes b) (home k.homes a) (home k.homes to) (related_bytes k.core r a.bytes) n
        (low_home b (related_bytes k.core r a.bytes) y (omega (arith, few, same))) (low_home a (related_bytes k.core r a.bytes) x few)
        (low_home to n z l)
    pointers_fit (Some told) (Compared r false) a b to size n x y z some same two l =
        let few = few_related k.core r a.bytes some in
        unless_none n (compare_code (home k.homes b) (home k.homes a) (related_bytes k.core r a.bytes))
        (compare_fits sizes (home k.homes b) (home k.homes a) (related_bytes k.core r a.bytes)
        (low_home b (related_bytes k.core r a.bytes) y (omega (arith, few, same))) (low_home a (related_bytes k.core r a.bytes) x few))
    pointers_fit (Some told) (Compared r true) a b to size n x y z some same two l =
        let few = few_related k.core r a.bytes some in
        unless_none n (compare_code (home k.homes a) (home k.homes b) (related_bytes k.core r a.bytes))
        (compare_fits sizes (home k.homes a) (home k.homes b) (related_bytes k.core r a.bytes)
        (low_home a (related_bytes k.core r a.bytes) x few) (low_home b (related_bytes k.core r a.bytes) y (omega (arith, few, same))))
    pointers_fit telling Multiplied a b to size n x y z some same two l = refl
    pointers_fit telling (Shifted up) a b to size n x y z some same two l = refl
    pointers_fit telling (Divided r) a b to size n x y z some same two l = refl

    pointer_binary_fits : (known : Option RightNumber) (telling : Option Told) (op : BinOp) (to a b : Temp) (ty aty bty : PlainType) (n : ℕ)
        → IsPointerBinary p k.slots op to a b ty aty bty → n ≤ to.bytes
        → Fit sizes (pointer_binary known telling k.core (is_pointer aty) (is_pointer bty) p op aty bty (home k.homes a) (home k.homes b)
        (home k.homes to) a.bytes b.bytes n)
    pointer_binary_fits known telling op to a b ty aty bty n h l = by_kinds (is_pointer aty) (is_pointer bty) refl refl where
      by_kinds : (x y : Bool) → is_pointer aty ≡ x → is_pointer bty ≡ y
          → Fit sizes (pointer_binary known telling k.core x y p op aty bty (home k.homes a) (home k.homes b) (home k.homes to) a.bytes
          b.bytes n)
      by_kinds true true d e =
          let t = two_pointers op ty aty bty d e h.types in
          let s = t.some in let m = t.same in let r = t.result in
          let i = h.left_bytes in let j = h.right_bytes in let w = h.result_bytes in
          pointers_fit telling (family_of op) a b to (element_size p aty) n h.left h.right h.result (omega (arith, s, i))
          (omega (arith, m, i, j)) (omega (arith, r, w)) l
      by_kinds true false d e =
          let t = first_pointer op ty aty bty d e h.types in
          let s = t.some in let r = t.result in let i = h.left_bytes in let w = h.result_bytes in
          offset_by_fits (number_known known) (is_difference op) (is_signed bty) a b to (max 2 n) (element_size p aty) n h.left h.right
          h.result (omega arith) (omega (arith, s, r, i, w, l)) (omega (arith, r, i, w))
      by_kinds false true d e =
          let t = second_pointer op ty aty bty d e h.types in
          let s = t.some in let r = t.result in let j = h.right_bytes in let w = h.result_bytes in
          offset_fits false (is_signed aty) b a to (max 2 n) (element_size p bty) n h.right h.left h.result
          (omega arith) (omega (arith, s, r, j, w, l)) (omega (arith, r, j, w))
      by_kinds false false d e = refl

    pointer_conversion_fits : (to a : Temp) (ty aty : PlainType) (n : ℕ) → IsPointerConversion k.slots to a ty aty
        → n ≤ to.bytes
        → Fit sizes (pointer_conversion aty (home k.homes a) (home k.homes to) a.bytes n)
    pointer_conversion_fits to a ty aty n h l =
        joined (fits sizes) (move_code (home k.homes a) (home k.homes to) (min n a.bytes)) _
        (move_fits (home k.homes a) (home k.homes to) (min n a.bytes) (low_home a (min n a.bytes) h.from (omega arith))
        (low_home to (min n a.bytes) h.result (omega (arith, l)))) (by_bytes (nat_le n a.bytes) refl) where
          size : IsPointerSize to.bytes
          size = subst (λ (m : ℕ). IsPointerSize m) (sym h.result_bytes) (pointer_converted ty aty h.pointer h.types).size

          from_size : IsPointerSize a.bytes
          from_size = subst (λ (m : ℕ). IsPointerSize m) (sym h.from_bytes) (pointer_converted ty aty h.pointer h.types).size_from

          by_bytes : (few : Bool) → nat_le n a.bytes ≡ few
              → Fit sizes (if few then [] else embed_code (is_into_data aty) (home k.homes to))
          by_bytes true e = refl
          by_bytes false e =
              let more = leb-false n a.bytes e in
              let two = at_least_two a.bytes from_size in
              embed_fits sizes laws.pointers (is_into_data aty) (home k.homes to) (low_leaves to 3 h.result (omega (arith, more, two, l)))

    -- an operation on integers, one with a fixed-point type, or one on pointers
    of_binary : (known : Option RightNumber) (telling : Option Told) (op : BinOp) (ty aty bty : PlainType) (mode : Mode)
        (to a b : Temp) (n : ℕ)
        → IsBinary (family_of op) k.slots to a b ty aty bty
        ⊎ (IsFixedBinary k.slots op to a b ty aty bty ⊎ IsPointerBinary p k.slots op to a b ty aty bty) → n ≤ to.bytes
        → Fit sizes (by_kind (is_fixed aty || is_fixed bty)
        (fixed_binary known telling op ty aty bty mode (home k.homes a) (home k.homes b) (home k.homes to) a.bytes n)
        (by_kind (is_pointer aty || is_pointer bty)
        (pointer_binary known telling k.core (is_pointer aty) (is_pointer bty) p op aty bty (home k.homes a) (home k.homes b)
        (home k.homes to) a.bytes b.bytes n)
        (integer_binary known telling op (is_signed aty) (is_signed bty) (home k.homes a) (home k.homes b) (home k.homes to)
        a.bytes n)))
    of_binary known telling op ty aty bty mode to a b n (inl h) l =
        let own = fixed_binary known telling op ty aty bty mode (home k.homes a) (home k.homes b) (home k.homes to) a.bytes n in
        let pointed = pointer_binary known telling k.core (is_pointer aty) (is_pointer bty) p op aty bty (home k.homes a) (home k.homes b)
        (home k.homes to) a.bytes b.bytes n in
        let usual = integer_binary known telling op (is_signed aty) (is_signed bty) (home k.homes a) (home k.homes b)
        (home k.homes to) a.bytes n in
        others_fit sizes (is_fixed aty || is_fixed bty) own (by_kind (is_pointer aty || is_pointer bty) pointed usual)
        (no_fixed (family_of op) k.slots to a b ty aty bty h)
        (others_fit sizes (is_pointer aty || is_pointer bty) pointed usual
        (no_pointer (family_of op) k.slots to a b ty aty bty h)
        (taking_fits op known telling to a b ty aty bty (is_signed aty) (is_signed bty) n h l))
    of_binary known telling op ty aty bty mode to a b n (inr (inl h)) l =
        let own = fixed_binary known telling op ty aty bty mode (home k.homes a) (home k.homes b) (home k.homes to) a.bytes n in
        let pointed = pointer_binary known telling k.core (is_pointer aty) (is_pointer bty) p op aty bty (home k.homes a) (home k.homes b)
        (home k.homes to) a.bytes b.bytes n in
        let usual = integer_binary known telling op (is_signed aty) (is_signed bty) (home k.homes a) (home k.homes b)
        (home k.homes to) a.bytes n in
        own_fits sizes (is_fixed aty || is_fixed bty) own (by_kind (is_pointer aty || is_pointer bty) pointed usual)
        (either_fixed aty bty h.types.fixed) (fixed_binary_fits known telling op ty aty bty mode to a b n h l)
    of_binary known telling op ty aty bty mode to a b n (inr (inr h)) l =
        let own = fixed_binary known telling op ty aty bty mode (home k.homes a) (home k.homes b) (home k.homes to) a.bytes n in
        let pointed = pointer_binary known telling k.core (is_pointer aty) (is_pointer bty) p op aty bty (home k.homes a) (home k.homes b)
        (home k.homes to) a.bytes b.bytes n in
        let usual = integer_binary known telling op (is_signed aty) (is_signed bty) (home k.homes a) (home k.homes b)
        (home k.homes to) a.bytes n in
        others_fit sizes (is_fixed aty || is_fixed bty) own (by_kind (is_pointer aty || is_pointer bty) pointed usual)
        (pointers_only op ty aty bty h.pointer h.types).0
        (own_fits sizes (is_pointer aty || is_pointer bty) pointed usual h.pointer
        (pointer_binary_fits known telling op to a b ty aty bty n h l))

    of_unary : (op : UnOp) (ty : PlainType) (mode : Mode) (to a : Temp) (n : ℕ)
        → IsUnary k.slots to a ty ⊎ IsFixedUnary k.slots op to a ty → n ≤ to.bytes
        → Fit sizes (by_kind (is_fixed ty) (fixed_unary op ty mode (home k.homes a) (home k.homes to) n)
        (unary_code op (home k.homes a) (home k.homes to) n))
    of_unary op ty mode to a n (inl h) l =
        others_fit sizes (is_fixed ty) (fixed_unary op ty mode (home k.homes a) (home k.homes to) n)
        (unary_code op (home k.homes a) (home k.homes to) n) (no_fixed_operand k.slots to a ty h) (unary_fits op to a ty n h l)
    of_unary op ty mode to a n (inr h) l =
        own_fits sizes (is_fixed ty) (fixed_unary op ty mode (home k.homes a) (home k.homes to) n)
        (unary_code op (home k.homes a) (home k.homes to) n) (type_fixed ty h.types.fixed) (fixed_unary_fits op ty mode to a n h l)

    of_conversion : (ty aty : PlainType) (mode : Mode) (to a : Temp) (n : ℕ)
        → AreConverted k.slots to a ty aty ⊎ (IsFixedConversion k.slots to a ty aty ⊎ IsPointerConversion k.slots to a ty aty)
        → n ≤ to.bytes
        → Fit sizes (by_kind (is_fixed ty || is_fixed aty) (fixed_conversion ty aty mode (home k.homes a) (home k.homes to) a.bytes n)
        (by_kind (is_pointer aty) (pointer_conversion aty (home k.homes a) (home k.homes to) a.bytes n)
        (conversion_code (is_signed aty) (home k.homes a) (home k.homes to) a.bytes n)))
    of_conversion ty aty mode to a n (inl h) l =
        let own = fixed_conversion ty aty mode (home k.homes a) (home k.homes to) a.bytes n in
        let pointed = pointer_conversion aty (home k.homes a) (home k.homes to) a.bytes n in
        let usual = conversion_code (is_signed aty) (home k.homes a) (home k.homes to) a.bytes n in
        others_fit sizes (is_fixed ty || is_fixed aty) own (by_kind (is_pointer aty) pointed usual)
        (none_converted k.slots to a ty aty h)
        (others_fit sizes (is_pointer aty) pointed usual (none_pointed k.slots to a ty aty h)
        (convert_fits (is_signed aty) (home k.homes a) (home k.homes to) a.bytes n h.from.some (at_home a h.from)
        (low_home to n h.result l)))
    of_conversion ty aty mode to a n (inr (inl h)) l =
        let own = fixed_conversion ty aty mode (home k.homes a) (home k.homes to) a.bytes n in
        let pointed = pointer_conversion aty (home k.homes a) (home k.homes to) a.bytes n in
        let usual = conversion_code (is_signed aty) (home k.homes a) (home k.homes to) a.bytes n in
        own_fits sizes (is_fixed ty || is_fixed aty) own (by_kind (is_pointer aty) pointed usual)
        (either_fixed ty aty h.types.fixed) (fixed_conversion_fits ty aty mode to a n h l)
    of_conversion ty aty mode to a n (inr (inr h)) l =
        let own = fixed_conversion ty aty mode (home k.homes a) (home k.homes to) a.bytes n in
        let pointed = pointer_conversion aty (home k.homes a) (home k.homes to) a.bytes n in
        let usual = conversion_code (is_signed aty) (home k.homes a) (home k.homes to) a.bytes n in
        others_fit sizes (is_fixed ty || is_fixed aty) own (by_kind (is_pointer aty) pointed usual)
        (pointer_converted ty aty h.pointer h.types).no_fixed
        (own_fits sizes (is_pointer aty) pointed usual h.pointer (pointer_conversion_fits to a ty aty n h l))

    -- loads from an object with a home
    bank_fits : (kept : Home) (o offset : ℕ) (t : Temp) → HasHome k.slots t → HasScalarAt p o offset t.bytes
        → Fit sizes (banked_code k.core kept p.objects o offset (home k.homes t) t.bytes)
    bank_fits FlashHome o offset t h s =
        table_fits sizes laws.pointers o offset (home k.homes t) t.bytes (home_leaves cells k.homes k.slots room t h)
        (objects.begins o offset t.bytes s)
    bank_fits FarHome o offset t h s =
        far_object_fits sizes laws.pointers k.core o offset (home k.homes t) t.bytes (home_leaves cells k.homes k.slots room t h)
        (objects.begins o offset t.bytes s)
    bank_fits DataHome o offset t h s =
        copy_fits sizes (object_location p.objects o offset) (home k.homes t) t.bytes (objects.scalars o offset t.bytes s) (at_home t h)

    from_work : (t : Temp) → t.bytes ≤ 2 → Fit sizes (copy_code (InRegisters 26) z_pair t.bytes)
    from_work t few =
        copy_fits sizes (InRegisters 26) z_pair t.bytes (registers_fit sizes 26 t.bytes (omega (arith, few)))
        (registers_fit sizes 30 t.bytes (omega (arith, few)))

    -- of an index
    load_index_fits : (kept : Home) (o offset : ℕ) (t : Temp) → HasScalarAt p o offset t.bytes → t.bytes ≤ 2
        → Fit sizes (load_index_code k.core kept p.objects o offset t.bytes)
    load_index_fits DataHome o offset t s few =
        copy_fits sizes (object_location p.objects o offset) z_pair t.bytes (objects.scalars o offset t.bytes s)
        (registers_fit sizes 30 t.bytes (omega (arith, few)))
    load_index_fits FlashHome o offset t s few =
        joined (fits sizes) (load_table_code o offset (InRegisters 26) t.bytes) (copy_code (InRegisters 26) z_pair t.bytes)
        (table_fits sizes laws.pointers o offset (InRegisters 26) t.bytes (omega (arith, few)) (objects.begins o offset t.bytes s))
        (from_work t few)
    load_index_fits FarHome o offset t s few =
        joined (fits sizes) (by_core k.core (load_table_code o offset (InRegisters 26) t.bytes)
        (load_far_table_code o offset (InRegisters 26) t.bytes)) (copy_code (InRegisters 26) z_pair t.bytes)
        (far_object_fits sizes laws.pointers k.core o offset (InRegisters 26) t.bytes (omega (arith, few))
        (objects.begins o offset t.bytes s))
        (from_work t few)

    -- ---- a pointer that stays in Z

    in_range : (q : Location) (i : ℕ) → ByteFits sizes q i → IsInRange sizes q i
    in_range (InRegisters r) i x = x
    in_range (InMemory o n) i x = x

    object_fits : (telling : Option Told) (kept : Home) (o offset : ℕ) (t : Temp) → HasHome k.slots t → HasScalarAt p o offset t.bytes
        → Fit sizes (object_code telling k.core kept p.objects o offset (home k.homes t) t.bytes)
    object_fits None kept o offset t h s = bank_fits kept o offset t h s
    object_fits (Some told) kept o offset t h s =
        let from = object_location p.objects o offset in
        let none = (fetches_have_no_label 0 from from t.bytes).0 in
        all_fit sizes (fetch_code from t.bytes)
        (fetches_are_valid sizes from t.bytes (λ i l. in_range from i (objects.scalars o offset t.bytes s i l))) (none.uses []) none.places

    further_fits : (told telling : Option Told) (ptr : Temp) (offset : ℕ) → HasHome k.slots ptr → 2 ≤ ptr.bytes
        → Fit sizes (further_code told telling k.core ptr.bytes (home k.homes ptr) offset)
    further_fits (Some told) telling ptr offset h two = refl
    further_fits None (Some told) ptr offset h two =
        let q = home k.homes ptr in
        let none = (fetches_have_no_label 0 q q 0).1 in
        all_fit sizes (point_code q) (point_is_valid sizes q (low_leaves ptr 2 h two)) (none.uses []) none.places
    further_fits None None ptr offset h two =
        member_fits sizes laws.pointers k.core (home k.homes ptr) ptr.bytes offset two (at_home ptr h)

    member_fits_z : (offset : ℕ) (to : Temp) → HasHome k.slots to → offset + to.bytes ≤ 64
        → Fit sizes (load_member_code offset (home k.homes to) to.bytes)
    member_fits_z offset to h l =
        let q = home k.homes to in
        let none = (fetches_have_no_label offset q q to.bytes).2 in
        all_fit sizes (load_member_code offset q to.bytes)
        (members_are_valid sizes offset q to.bytes l (home_leaves cells k.homes k.slots room to h)) (none.uses []) none.places

    further_fits_z : (offset : ℕ) (to : Temp) → HasHome k.slots to → offset + to.bytes ≤ 64
        → Fit sizes (load_further_code offset (home k.homes to) to.bytes)
    further_fits_z offset to h l =
        let q = home k.homes to in
        let none = (fetches_have_no_label offset q q to.bytes).3 in
        all_fit sizes (load_further_code offset q to.bytes)
        (further_is_valid sizes offset q to.bytes h.some l (home_leaves cells k.homes k.slots room to h)).0 (none.uses []) none.places

    tagged_fits_z : (offset : ℕ) (to : Temp) → HasHome k.slots to → offset + to.bytes ≤ 64
        → Fit sizes (load_tagged_code offset (home k.homes to) to.bytes)
    tagged_fits_z offset to h l =
        let q = home k.homes to in
        let none = (fetches_have_no_label offset q q to.bytes).4 in
        all_fit sizes (load_tagged_code offset q to.bytes)
        (further_is_valid sizes offset q to.bytes h.some l (home_leaves cells k.homes k.slots room to h)).1 (none.uses []) none.places

    from_z_fits : (tables : Bool) (space : SpaceId) (offset : ℕ) (to : Temp) → HasHome k.slots to → offset + to.bytes ≤ 64
        → Fit sizes (from_z_code tables space offset (home k.homes to) to.bytes)
    from_z_fits tables Data offset to h l = member_fits_z offset to h l
    from_z_fits tables Flash offset to h l = further_fits_z offset to h l
    from_z_fits tables FarFlash offset to h l = further_fits_z offset to h l
    from_z_fits true Generic offset to h l = tagged_fits_z offset to h l
    from_z_fits false Generic offset to h l = member_fits_z offset to h l

    loaded_fits : (told : Option Told) (space : SpaceId) (to ptr : Temp) → HasHome k.slots to
        → Fit sizes (load_code k.core (has_tables p.objects) space (home k.homes ptr) (home k.homes to) to.bytes)
        → Fit sizes
        (loaded_code (displacement told to.bytes) k.core (has_tables p.objects) space (home k.homes ptr) (home k.homes to) to.bytes)
    loaded_fits None space to ptr h usual = usual
    loaded_fits (Some (Operands r s)) space to ptr h usual = usual
    loaded_fits (Some Index) space to ptr h usual = usual
    loaded_fits (Some (InZ offset)) space to ptr h usual = by_reach (is_in_reach offset to.bytes) refl where
      by_reach : (b : Bool) → is_in_reach offset to.bytes ≡ b
          → Fit sizes (loaded_code (if b then Some offset else None) k.core (has_tables p.objects) space (home k.homes ptr)
          (home k.homes to) to.bytes)
      by_reach false e = usual
      by_reach true e = from_z_fits (has_tables p.objects) space offset to h (leb-true (offset + to.bytes) 64 e)

    stored_fits : (told : Option Told) (from ptr : Temp) → HasHome k.slots from
        → Fit sizes (store_data_code (home k.homes from) (home k.homes ptr) from.bytes)
        → Fit sizes (stored_code (displacement told from.bytes) (home k.homes from) (home k.homes ptr) from.bytes)
    stored_fits None from ptr h usual = usual
    stored_fits (Some (Operands r s)) from ptr h usual = usual
    stored_fits (Some Index) from ptr h usual = usual
    stored_fits (Some (InZ offset)) from ptr h usual = by_reach (is_in_reach offset from.bytes) refl where
      by_reach : (b : Bool) → is_in_reach offset from.bytes ≡ b
          → Fit sizes (stored_code (if b then Some offset else None) (home k.homes from) (home k.homes ptr) from.bytes)
      by_reach false e = usual
      by_reach true e =
          let q = home k.homes from in
          let none = (fetches_have_no_label offset q q from.bytes).5 in
          all_fit sizes (store_member_code offset q from.bytes)
          (stores_are_valid sizes offset q from.bytes (leb-true (offset + from.bytes) 64 e) (home_leaves cells k.homes k.slots room from h))
          (none.uses []) none.places

    -- ---- calls and returns

    waiting_fits : (place n : ℕ) → place < register_places k.slots → n ≤ 8
        → BytesFit sizes (waiting_location k.homes place) n
    waiting_fits place n l few i h = room.scratch (16 * place + 8 + i) (omega arith)

    kept_few : (place n : ℕ) → kept_bytes k.homes place n ≤ k.homes.width
    kept_few place n = by_depth (nat_le (k.homes.width * (place + 1)) 12) where
      by_depth : (near : Bool) → (if near then min n k.homes.width else 0) ≤ k.homes.width
      by_depth true = omega arith
      by_depth false = omega arith

    narrow : k.homes.width ≤ 4
    narrow = elim room.width [ inl e ↦ omega arith | inr e ↦ omega arith ]

    -- the registers of a place of which bytes are kept
    registers_kept : (place n : ℕ) → BytesFit sizes (InRegisters (place_register k.homes place)) (kept_bytes k.homes place n)
    registers_kept place n i l = let few = kept_few place n in let w = narrow in omega arith

    save_fits : (place n : ℕ) → place < register_places k.slots → Fit sizes (save_place k.homes place n)
    save_fits place n l =
        let few = kept_few place n in let w = narrow in
        copy_fits sizes (InRegisters (place_register k.homes place)) (waiting_location k.homes place) (kept_bytes k.homes place n)
        (registers_kept place n) (waiting_fits place (kept_bytes k.homes place n) l (omega arith))

    restore_fits : (place n : ℕ) → place < register_places k.slots → Fit sizes (restore_place k.homes place n)
    restore_fits place n l =
        let few = kept_few place n in let w = narrow in
        copy_fits sizes (waiting_location k.homes place) (InRegisters (place_register k.homes place)) (kept_bytes k.homes place n)
        (waiting_fits place (kept_bytes k.homes place n) l (omega arith)) (registers_kept place n)

    result_fits : (bytes n : ℕ) → bytes ≤ 8 → n ≤ bytes → BytesFit sizes (result_location bytes) n
    result_fits bytes n few l = by_two (nat_le bytes 2) where
      by_four : (four : Bool) → BytesFit sizes (InRegisters (if four then 22 else 18)) n
      by_four true i h = omega arith
      by_four false i h = omega arith

      by_two : (two : Bool) → BytesFit sizes (InRegisters (if two then 24 else if nat_le bytes 4 then 22 else 18)) n
      by_two true i h = omega arith
      by_two false i h = by_four (nat_le bytes 4) i h

    taken_fits : (results : ℕ → ℕ) (g : ℕ) (to : Option Temp) (n : ℕ) → IsResult results g k.slots to
        → ((t : Temp) → to ≡ Some t → n ≤ t.bytes) → Fit sizes (taken_code (home k.homes) to n)
    taken_fits results g None n h l = refl
    taken_fits results g (Some t) n h l =
        let few : n ≤ t.bytes = l t refl in
        move_fits (result_location t.bytes) (home k.homes t) n (result_fits t.bytes n h.0.most few) (low_home t n h.0 few)

    brought_fits : (results : ℕ → ℕ) (f : ℕ) (is_main : Bool) (from : Option Temp) → IsResult results f k.slots from
        → Fit sizes (result_code (home k.homes) is_main from)
    brought_fits results f true None h = constant_fits sizes (InRegisters 24) 0 2 (registers_fit sizes 24 2 (omega arith))
    brought_fits results f false None h = refl
    brought_fits results f is_main (Some t) h =
        move_fits (home k.homes t) (result_location t.bytes) t.bytes (at_home t h.0)
        (result_fits t.bytes t.bytes h.0.most (omega arith))

    index_fits : (index : Option Temp) → HasIndex k.slots index → IndexFits sizes (option_map (home k.homes) index)
    index_fits None h = tt
    index_fits (Some t) h = low_home t 1 h.0 h.0.some

    -- ---- what an operation's items pass

    module _ (q : AsmItem → Bool) (passes : (i : AsmItem) → fits sizes i ≡ true → q i ≡ true) where
      by_fit : (items : List AsmItem) → Fit sizes items → list_all q items ≡ true
      by_fit items h = passing sizes q passes items h

      test_passes : (is_free : Bool) (t : Temp) (size : ℕ) → HasHome k.slots t → size ≤ t.bytes
          → list_all q (number_test is_free (home k.homes t) size) ≡ true
      test_passes is_free t size h few =
          by_fit (number_test is_free (home k.homes t) size)
          (number_test_fits sizes is_free (home k.homes t) size (low_home t size h few))

      branch_passes : (is_free : Bool) (t : Temp) (size l : ℕ) → HasHome k.slots t → size ≤ t.bytes → q (BranchTo true 1 l) ≡ true
          → list_all q (branch_code is_free (home k.homes t) size l) ≡ true
      branch_passes is_free t size l h few a =
          joined q (number_test is_free (home k.homes t) size) (BranchTo true 1 l ∷ []) (test_passes is_free t size h few) (rw a refl)

      tested_passes : (told telling : Option Told) (is_free : Bool) (t : Temp) (size l : ℕ) → HasHome k.slots t → size ≤ t.bytes
          → ((set : Bool) (flag : ℕ) → nat_lt flag 8 ≡ true → q (BranchTo set flag l) ≡ true)
          → list_all q (tested_code told telling is_free (home k.homes t) size l) ≡ true
      tested_passes (Some (Operands r s)) None is_free t size l h few a =
          let one = a (not (is_set r)) (flag_of r s) (flag_small r s) in
          rw one refl
      tested_passes (Some (Operands r s)) (Some behind) is_free t size l h few a = refl
      tested_passes told None is_free t size l h few a = branch_passes is_free t size l h few (a true 1 refl)
      tested_passes told (Some behind) is_free t size l h few a = test_passes is_free t size h few

      jump_passes : (told : Option Told) (l : ℕ) → q (JumpTo l) ≡ true
          → ((set : Bool) (flag : ℕ) → nat_lt flag 8 ≡ true → q (BranchTo set flag l) ≡ true)
          → list_all q (jump_code told l) ≡ true
      jump_passes (Some (Operands r s)) l h a =
          let one = a (not (is_set r)) (flag_of r s) (flag_small r s) in
          rw one refl
      jump_passes told l h a = rw h refl

      call_passes : (results : ℕ → ℕ) (g : ℕ) (to : Option Temp) (n : ℕ) (kept : Need) → IsResult results g k.slots to
          → ((t : Temp) → to ≡ Some t → n ≤ t.bytes) → q (CallTo (k.entry_of g)) ≡ true
          → list_all q (call_code (home k.homes) k g to n kept) ≡ true
      call_passes results g to n kept h l a =
          let saved =
          by_fit (save_code k kept)
          (chained (fits sizes) (λ place. save_place k.homes place (kept place)) (register_places k.slots)
          (λ i b. save_fits i (kept i) b)) in
          let loaded =
          by_fit (restore_code k kept)
          (chained (fits sizes) (λ place. restore_place k.homes place (kept place)) (register_places k.slots)
          (λ i b. restore_fits i (kept i) b)) in
          let taken = by_fit (taken_code (home k.homes) to n) (taken_fits results g to n h l) in
          let rest = joined q (taken_code (home k.homes) to n) (restore_code k kept) taken loaded in
          joined q (save_code k kept) (CallTo (k.entry_of g) ∷ (taken_code (home k.homes) to n ++ restore_code k kept)) saved
          (rw (a, rest) refl)

      return_passes : (results : ℕ → ℕ) (f : ℕ) (is_main : Bool) (from : Option Temp) → IsResult results f k.slots from
          → list_all q (return_code (home k.homes) is_main from) ≡ true
      return_passes results f is_main from h =
          joined q (result_code (home k.homes) is_main from) (Plain Ret ∷ [])
          (by_fit (result_code (home k.homes) is_main from) (brought_fits results f is_main from h)) (rw (passes (Plain Ret) refl) refl)

      wanted_few : (need : Need) (to : Option Temp) (t : Temp) → to ≡ Some t → wanted_result need to ≤ t.bytes
      wanted_few need to t e = rw e (omega arith)

      -- the byte of a cell
      cell_fits : (cell n : ℕ) → cell < cells → n ≡ 1 → BytesFit sizes (cell_place cell) n
      cell_fits cell n l one i j =
          let z : first_cell + cell + i ≡ first_cell + cell = omega (arith, one, j) in
          ap (is_offset sizes 1280) z ∙ room.cell cell l

      own_passes : (results : ℕ → ℕ) (f : ℕ) (called : List ℕ) (told telling : Option Told) (known : Option RightNumber) (need : Need)
          (i : PlainIr)
          → IsCovered p results f called k.slots i → UsesCells cells i → AcceptsLabels q k i
          → list_all q (own_code p (home k.homes) k told telling known need i) ≡ true
      own_passes results f called told telling known need (constant t n) h u a =
          by_fit (put_code (home k.homes t) (low_bytes 16 n) (wanted need t))
          (put_fits sizes (home k.homes t) (low_bytes 16 n) (wanted need t) (low_home t (wanted need t) h (omega arith)))
      own_passes results f called told telling known need (copy to from) h u a =
          let e = h.2 in
          by_fit (move_code (home k.homes from) (home k.homes to) (wanted need to))
          (move_fits (home k.homes from) (home k.homes to) (wanted need to) (low_home from (wanted need to) h.1 (omega arith))
          (low_home to (wanted need to) h.0 (omega arith)))
      own_passes results f called told telling known need (load_object t o offset) h u a =
          let index = load_index_code k.core (kept_in p o) p.objects o offset t.bytes in
          let other = object_code (own_telling told telling) k.core (kept_in p o) p.objects o offset (home k.homes t) t.bytes in
          by_fit (by_kind (is_index telling t.bytes) index other)
          (kind_fits sizes (is_index telling t.bytes) index other
          (λ e. load_index_fits (kept_in p o) o offset t h.1 (index_few telling t.bytes e))
          (object_fits (own_telling told telling) (kept_in p o) o offset t h.0 h.1))
      own_passes results f called told telling known need (store_object o offset t) h u a =
          by_fit (store_object_code (number_known known) (home k.homes t) (object_location p.objects o offset) t.bytes)
          (store_object_fits sizes (number_known known) (home k.homes t) (object_location p.objects o offset) t.bytes (at_home t h.0)
          (objects.scalars o offset t.bytes h.1))
      own_passes results f called told telling known need (binary_op op ty mode to x aty y bty) h u a =
          by_fit (own_code p (home k.homes) k told telling known need (binary_op op ty mode to x aty y bty))
          (kind_fits sizes (is_index told y.bytes && moves_pointer op aty bty)
          (offset_code k.core (is_difference op) (is_signed bty) (home k.homes x) z_pair (home k.homes to) (max 2 (wanted need to)) y.bytes
          (element_size p aty) (wanted need to)) _
          (λ e.
          let moves = (and_parts (is_index told y.bytes) (moves_pointer op aty bty) e).1 in
          indexed_fits op ty aty bty to x y (wanted need to) (moves_pointers p k.slots op to x y ty aty bty h moves) moves (omega arith))
          (of_binary known (own_telling told telling) op ty aty bty mode to x y (wanted need to) h (omega arith)))
      own_passes results f called told telling known need (unary_op op ty mode to x) h u a =
          by_fit (own_code p (home k.homes) k told telling known need (unary_op op ty mode to x))
          (of_unary op ty mode to x (wanted need to) h (omega arith))
      own_passes results f called told telling known need (conversion to ty mode x aty) h u a =
          by_fit (own_code p (home k.homes) k told telling known need (conversion to ty mode x aty))
          (of_conversion ty aty mode to x (wanted need to) h (omega arith))
      own_passes results f called told telling known need (label l) h u a = rw a refl
      own_passes results f called told telling known need (jump l) h u a = jump_passes told (k.label_of l) a.0 a.1
      own_passes results f called told telling known need (branch_zero t l) h u a =
          tested_passes told telling (wanted need t == 0) t (bytes_compared known t.bytes) (k.label_of l) h
          (compared_within known t.bytes) a
      own_passes results f called told telling known need (call_function g to) h u a =
          call_passes results g to (wanted_result need to) (kept_need need (call_function g to)) h (wanted_few need to) a
      own_passes results f called told telling known need (return_from from) h u a = return_passes results f k.is_main from h
      own_passes results f called told telling known need (address t o offset) h u a =
          let n = wanted need t in
          let made = made_bytes n t.bytes h.size (omega arith) in
          by_fit (addressed_code k.core p o offset (home k.homes t) (max 2 n) n)
          (addressed_fits sizes laws.pointers k.core p o offset (home k.homes t) (max 2 n) n made.0
          (low_leaves t (max 2 n) h.result made.1) (objects.offsets o offset h.declared h.is_object h.within))
      own_passes results f called told telling known need (field ptr space offset) h u a =
          let two = some_width space in let e = h.1 in
          by_fit (further_code told telling k.core ptr.bytes (home k.homes ptr) offset)
          (further_fits told telling ptr offset h.0 (omega (arith, two, e)))
      own_passes results f called told telling known need (load_at to ptr space) h u a =
          let few = h.0.most in let e = h.1.1 in
          by_fit
          (loaded_code (displacement told to.bytes) k.core (has_tables p.objects) space (home k.homes ptr) (home k.homes to) to.bytes)
          (loaded_fits told space to ptr h.0
          (load_fits sizes laws.pointers k.core (has_tables p.objects) space (home k.homes ptr) (home k.homes to) to.bytes
          (omega (arith, few)) (low_leaves ptr (width space) h.1.0 (omega (arith, e))) (home_leaves cells k.homes k.slots room to h.0)))
      own_passes results f called told telling known need (store_at ptr space from) h u a =
          let few = h.0.most in let two = some_width space in let e = h.1.1 in
          by_fit (stored_code (displacement told from.bytes) (home k.homes from) (home k.homes ptr) from.bytes)
          (stored_fits told from ptr h.0
          (store_fits sizes laws.pointers (home k.homes from) (home k.homes ptr) from.bytes (omega (arith, few))
          (low_leaves ptr 2 h.1.0 (omega (arith, two, e))) (home_leaves cells k.homes k.slots room from h.0)))
      own_passes results f called told telling known need (port_in to port index width) h u a =
          let there = option_map (home k.homes) index in
          by_fit (in_code there (home k.homes to) port width (wanted need to))
          (in_fits sizes there (home k.homes to) port width h.address h.one_two_four (index_fits index h.index_has)
          (low_home to width h.number h.within) (wanted need to) (low_home to (wanted need to) h.number (omega arith)))
      own_passes results f called told telling known need (port_out from port index width) h u a =
          let there = option_map (home k.homes) index in
          by_fit (out_code there (home k.homes from) port width)
          (out_fits sizes there (home k.homes from) port width h.address h.one_two_four (index_fits index h.index_has)
          (low_home from width h.number h.within))
      own_passes results f called told telling known need (load_cell to cell) h u a =
          by_fit (copy_code (cell_place cell) (home k.homes to) to.bytes)
          (copy_fits sizes (cell_place cell) (home k.homes to) to.bytes (cell_fits cell to.bytes u h.1) (at_home to h.0))
      own_passes results f called told telling known need (store_cell cell from) h u a =
          by_fit (copy_code (home k.homes from) (cell_place cell) from.bytes)
          (copy_fits sizes (home k.homes from) (cell_place cell) from.bytes (at_home from h.0) (cell_fits cell from.bytes u h.1))
      own_passes results f called told telling known need (cell_port true to cell offset index width) h u a =
          let there = option_map (home k.homes) index in
          by_fit (cell_in_code there (home k.homes to) cell offset width (wanted need to))
          (cell_in_fits sizes there (home k.homes to) cell offset width h.address h.one_two_four (index_fits index h.index_has)
          (low_home to width h.number h.within) (room.cell cell u) (wanted need to) (low_home to (wanted need to) h.number (omega arith)))
      own_passes results f called told telling known need (cell_port false from cell offset index width) h u a =
          let there = option_map (home k.homes) index in
          by_fit (cell_out_code there (home k.homes from) cell offset width)
          (cell_out_fits sizes there (home k.homes from) cell offset width h.address h.one_two_four (index_fits index h.index_has)
          (low_home from width h.number h.within) (room.cell cell u))

      -- a call of a routine: operands are brought to the work bytes, and the result from there
      answer_passes : (code : List AsmItem) (to : Temp) (n : ℕ) → HasHome k.slots to → n ≤ to.bytes → list_all q code ≡ true
          → list_all q (answer_code code (home k.homes to) n) ≡ true
      answer_passes code to n h l c = by_count (n == 0) where
        by_count : (none : Bool) → list_all q (if none then [] else code ++ copy_code answer_location (home k.homes to) n) ≡ true
        by_count true = refl
        by_count false =
            let m = h.most in
            joined q code (copy_code answer_location (home k.homes to) n) c
            (by_fit (copy_code answer_location (home k.homes to) n)
            (copy_fits sizes answer_location (home k.homes to) n (λ i b. room.work (40 + i) (omega arith)) (low_home to n h l)))

      operand_passes : (x : Temp) (at : ℕ) → HasHome k.slots x → at ≤ 56
          → list_all q (copy_code (home k.homes x) (InMemory 1280 at) x.bytes) ≡ true
      operand_passes x at h within =
          let m = h.most in
          by_fit (copy_code (home k.homes x) (InMemory 1280 at) x.bytes)
          (copy_fits sizes (home k.homes x) (InMemory 1280 at) x.bytes (at_home x h) (λ i b. room.work (at + i) (omega arith)))

      one_passes : (x to : Temp) (l n : ℕ) → HasHome k.slots to → HasHome k.slots x → n ≤ to.bytes → q (CallTo l) ≡ true
          → list_all q (answer_code (call_with_one (home k.homes x) x.bytes l) (home k.homes to) n) ≡ true
      one_passes x to l n h i few c =
          answer_passes (call_with_one (home k.homes x) x.bytes l) to n h few
          (joined q (copy_code (home k.homes x) first_place x.bytes) (CallTo l ∷ []) (operand_passes x 48 i (omega arith)) (rw c refl))

      two_pass : (x y to : Temp) (l n : ℕ) → HasHome k.slots to → HasHome k.slots x → HasHome k.slots y → n ≤ to.bytes
          → q (CallTo l) ≡ true
          → list_all q (answer_code (call_with_two (home k.homes x) (home k.homes y) x.bytes y.bytes l) (home k.homes to) n) ≡ true
      two_pass x y to l n h i j few c =
          answer_passes (call_with_two (home k.homes x) (home k.homes y) x.bytes y.bytes l) to n h few
          (joined q (copy_code (home k.homes x) first_place x.bytes) (copy_code (home k.homes y) second_place y.bytes ++ CallTo l ∷ [])
          (operand_passes x 48 i (omega arith))
          (joined q (copy_code (home k.homes y) second_place y.bytes) (CallTo l ∷ []) (operand_passes y 56 j (omega arith)) (rw c refl)))

      binary_homes : (x : Family) (to a b : Temp) (ty aty bty : PlainType) → IsBinary x k.slots to a b ty aty bty
          → HasHome k.slots to × HasHome k.slots a × HasHome k.slots b
      binary_homes (Combined op) to a b ty aty bty i = (i.result, i.left, i.right)
      binary_homes (Compared r exchanged) to a b ty aty bty i = (i.result, i.left, i.right)
      binary_homes Multiplied to a b ty aty bty i = (i.result, i.left, i.right)
      binary_homes (Shifted up) to a b ty aty bty i = (i.0.result, i.0.left, i.0.count)
      binary_homes (Divided r) to a b ty aty bty i = (i.0.result, i.0.left, i.0.right)

      called_passes : (results : ℕ → ℕ) (f : ℕ) (called : List ℕ) (l : ℕ) (need : Need) (i : PlainIr)
          → IsCovered p results f called k.slots i → q (CallTo l) ≡ true
          → list_all q (called_code (home k.homes) l (result_wanted need i) i) ≡ true
      called_passes results f called l need (binary_op op ty mode to a aty b bty) (inl i) c =
          let h = binary_homes (family_of op) to a b ty aty bty i in
          two_pass a b to l (wanted need to) h.0 h.1 h.2 (omega arith) c
      called_passes results f called l need (binary_op op ty mode to a aty b bty) (inr (inl i)) c =
          two_pass a b to l (wanted need to) i.result i.left i.right (omega arith) c
      called_passes results f called l need (binary_op op ty mode to a aty b bty) (inr (inr i)) c =
          two_pass a b to l (wanted need to) i.result i.left i.right (omega arith) c
      called_passes results f called l need (unary_op op ty mode to a) (inl i) c =
          one_passes a to l (wanted need to) i.result i.operand (omega arith) c
      called_passes results f called l need (unary_op op ty mode to a) (inr i) c =
          one_passes a to l (wanted need to) i.result i.operand (omega arith) c
      called_passes results f called l need (conversion to ty mode a aty) (inl i) c =
          one_passes a to l (wanted need to) i.result i.from (omega arith) c
      called_passes results f called l need (conversion to ty mode a aty) (inr (inl i)) c =
          one_passes a to l (wanted need to) i.result i.from (omega arith) c
      called_passes results f called l need (conversion to ty mode a aty) (inr (inr i)) c =
          one_passes a to l (wanted need to) i.result i.from (omega arith) c
      called_passes results f called l need i h c = refl

      pub operation_passes : (results : ℕ → ℕ) (f : ℕ) (called : List ℕ) (told telling : Option Told) (known : Option RightNumber)
          (need : Need) (i : PlainIr) → IsCovered p results f called k.slots i → UsesCells cells i → AcceptsLabels q k i
          → AcceptsCalls q k i
          → list_all q (op_code p (home k.homes) k told telling known need i) ≡ true
      operation_passes results f called told telling known need i h u a c =
          by_routine (routine_used known i (k.routine_of i)) (λ l e. used_is (takes_count known i) (k.routine_of i) l e) where
            by_routine : (r : Option ℕ) → ((l : ℕ) → r ≡ Some l → k.routine_of i ≡ Some l)
                → list_all q (linked_code r (λ l. called_code (home k.homes) l (result_wanted need i) i)
                (own_code p (home k.homes) k told telling known need i)) ≡ true
            by_routine None e = own_passes results f called told telling known need i h u a
            by_routine (Some l) e = called_passes results f called l need i h (c l (e l refl))

      -- all operations

      pub operations_pass : (results : ℕ → ℕ) (f : ℕ) (called : List ℕ) (at : Facts) (told : Option Told) (code : List PlainIr)
          → AreCovered p results f called k.slots code → AllByRecursion (UsesCells cells) code → AllAccepted q k code
          → list_all q (ops_code p (home k.homes) k at told code) ≡ true
      operations_pass results f called at told [] h u a = refl
      operations_pass results f called at told (i ∷ code) h u a =
          let next = tells_next k.core p (home k.homes) at told i code in
          let need = needed_behind at.needed (needs at code) i in
          joined q (op_code p (home k.homes) k told next (at.known (i ∷ code)) need i)
          (ops_code p (home k.homes) k at next code)
          (operation_passes results f called told next (at.known (i ∷ code)) need i h.0 u.0 a.0 a.1)
          (operations_pass results f called at next code h.1 u.1 a.2)
