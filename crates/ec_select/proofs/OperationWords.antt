-- The words of operations' code.
use Rattle.std.proofs.Common.{◌≡◌, ◌⊎◌, ℕ, zero, suc, ◌+◌, ◌-◌, ◌*◌, ◌≤◌, ◌==◌, Bool, true, false, not, List, [], ◌∷◌, ◌++◌}
use Rattle.std.proofs.Common.{◌%◌, refl, sym, ap, ◌∙◌, subst, arith, leb-true, leb-false, inl, inr, ⊎_elim, ℤ}
use Rattle.std.specs.Prelude.{⊤, min, nat_le, ◌&&◌, ◌||◌, if◌then◌else◌, Option, Some, None, max}
use Rattle.std.proofs.Math.Nat.{mul-le-mul_left}
use Rattle.std.proofs.lemmas.Bool.{le-leb, false≢true, and_parts}
use Rattle.std.proofs.lemmas.Bool.Decides.{nat_tests}
use Rattle.ec_isa.specs.declared.instructions.Instr.TheVariants.{Ret}
use Rattle.ec_asm.specs.declared.items.AsmItem.{AsmItem}
use Rattle.ec_asm.specs.declared.items.AsmItem.TheVariants.{Plain, CallTo, BranchTo}
use Rattle.ec_asm.specs.declared.pieces.Location.{Location}
use Rattle.ec_asm.specs.declared.pieces.Location.TheVariants.{InRegisters, InMemory}
use Rattle.ec_asm.specs.declared.pieces.Operator.{Operator}
use Rattle.ec_asm.specs.declared.pieces.Operator.TheVariants.{Sum, Difference, BitAnd, BitOr, BitXor}
use Rattle.ec_asm.specs.declared.pieces.Operator.TheVariants.{BitAnd, BitOr, BitXor}
use Rattle.ec_asm.specs.Items.{chain, code_words}
use Rattle.ec_asm.specs.Pieces.{operate_code, compare_code}
use Rattle.ec_asm.specs.Pieces.{is_bitwise as is_bitwise_operator}
use Rattle.ec_core.specs.declared.expressions.BinOp.{BinOp}
use Rattle.ec_core.specs.declared.expressions.BinOp.TheVariants.{Add, Sub, Mul, Div, Rem, And, Or, Xor, Lt, Gt, Le, Ge}
use Rattle.ec_core.specs.declared.expressions.BinOp.TheVariants.{Eq, Ne, Shl, Shr}
use Rattle.ec_core.specs.declared.expressions.UnOp.{UnOp}
use Rattle.ec_core.specs.declared.expressions.UnOp.TheVariants.{Minus, Invert}
use Rattle.ec_core.specs.Accesses.{element_size}
use Rattle.ec_core.specs.Layout.{scalar_size}
use Rattle.ec_core.specs.Operators.{same_type}
use Rattle.ec_core.specs.Plain.{PlainType, integer, fixed, PlainObject, PlainProgram}
use Rattle.ec_core.specs.Words.{widest, operation_words}
use Rattle.ec_ir.specs.declared.operations.Temp.{Temp}
use Rattle.ec_ir.specs.Costs.{is_integer, is_bitwise, binary_words, unary_words}
use Rattle.ec_ir.specs.Costs.{conversion_words}
use Rattle.ec_ir.specs.Costs.{temp_bytes}
use Rattle.ec_ir.specs.Temporaries.{low_bytes}
use Rattle.ec_fx.specs.declared.numbers.Mode.{Mode}
use Rattle.ec_select_fixed.specs.Codes.{fixed_binary_code, fixed_unary_code, fixed_conversion_code}
use Rattle.ec_select_fixed.specs.FixedLaws.{FixedBinariesHave, FixedUnariesHave, FixedConversionsHave}
use Rattle.ec_select_bytes.specs.Complements.{negation_code}
use Rattle.ec_select_bytes.specs.ComplementLaws.{ComplementsHave}
use Rattle.ec_select_bytes.specs.Laws.{ValuesHave}
use Rattle.ec_select_bytes.specs.Values.{extend_code}
use Rattle.ec_select_order.specs.declared.relations.Relation.{Relation}
use Rattle.ec_select_order.specs.declared.relations.Relation.TheVariants.{Less, NotLess, Equal, NotEqual}
use Rattle.ec_select_order.specs.Laws.{RelationsHaveWords}
use Rattle.ec_select_order.specs.Relations.{truth_code, relation_in_code, truth_in_code}
use Rattle.ec_select_places.specs.Conversions.{embed_code}
use Rattle.ec_select_places.specs.Distances.{elements_code}
use Rattle.ec_select_places.specs.Far.{advance_far_code}
use Rattle.ec_select_places.specs.FarForm.{FarStepsAreShort}
use Rattle.ec_select_places.specs.Form.{StepsAreShort, ConversionsAreShort, ElementsAreShort}
use Rattle.ec_select_places.specs.Indexes.{can_add, add_index_code}
use Rattle.ec_select_places.specs.IndexLaws.{IndexesAreShort}
use Rattle.ec_select_places.specs.Steps.{scale_index_code, advance_code, z_pair}
use Rattle.ec_select_pointers.specs.Accesses.{load_flash_code, load_any_code, load_table_code}
use Rattle.ec_select_pointers.specs.Addresses.{address_code, field_code}
use Rattle.ec_select_pointers.specs.Far.{load_far_code, load_far_table_code, load_any_far_code, far_address_code, field_far_code}
use Rattle.ec_select_pointers.specs.FarForm.{FarPointersHave}
use Rattle.ec_select_pointers.specs.Form.{PointersHave, TablesAreShort}
use Rattle.ec_space.specs.declared.Core.{Core}
use Rattle.ec_space.specs.declared.Core.TheVariants.{Small, Large}
use Rattle.ec_space.specs.declared.space.Bank.{Bank}
use Rattle.ec_space.specs.declared.space.Home.{Home}
use Rattle.ec_space.specs.declared.space.Home.TheVariants.{Flash as FlashHome, Far as FarHome, Data as DataHome}
use Rattle.ec_space.specs.declared.space.SpaceId.{SpaceId}
use Rattle.ec_space.specs.declared.space.SpaceId.TheVariants.{Flash, FarFlash, Data, Generic}
use Rattle.ec_select_products.specs.Laws.{ProductsHaveWords}
use Rattle.ec_select_products.specs.Products.{product_code}
use Rattle.ec_select_quotients.specs.Signs.{quotient_code}
use Rattle.ec_select_shifts.specs.declared.shifts.Direction.{Direction}
use Rattle.ec_select_shifts.specs.declared.shifts.Direction.TheVariants.{Left, Right}
use Rattle.ec_select_shifts.specs.Laws.{ShiftsHaveWords}
use Rattle.ec_select_shifts.specs.Shifts.{shift_code, turn_words, counted_code as turned_by_code}
use Rattle.ec_select_shifts.proofs.Counted.{counted_shifts_have_words}
use Rattle.ec_select_operations.specs.declared.families.Family.{Family}
use Rattle.ec_select_operations.specs.declared.families.Family.TheVariants.{Combined, Compared, Multiplied, Shifted}
use Rattle.ec_select_operations.specs.declared.families.Family.TheVariants.{Divided}
use Rattle.ec_select_operations.specs.declared.families.Told.{Told}
use Rattle.ec_select_operations.specs.declared.families.Told.TheVariants.{Operands}
use Rattle.ec_select_operations.specs.declared.homes.Homes.{Homes}
use Rattle.ec_select_operations.specs.declared.bounds.Bound.{Bound}
use Rattle.ec_select_operations.specs.Bounds.{bound_of, bounded_code, truth_by_code}
use Rattle.ec_select_operations.specs.Tests.{number_test}
use Rattle.ec_select_operations.specs.Code.{counted_by_code, leaves_bit, top_bit_code}
use Rattle.ec_select_operations.specs.Code.{masked_code}
use Rattle.ec_select_operations.specs.Code.{compared_signed, counted_code, same_location, transfer_code, move_code}
use Rattle.ec_select_operations.specs.Code.{reversed_code, family_of, is_signed}
use Rattle.ec_select_operations.specs.Code.{conversion_code, truth_register, truth_at_code, combined_code}
use Rattle.ec_select_operations.specs.Code.{compared_code, multiplied_code, shift_of, shifted_bytes, turned_code}
use Rattle.ec_select_operations.specs.Code.{shifted_code, long_code}
use Rattle.ec_select_operations.specs.Code.{divided_code, binary_code, turn_code, unary_code, branch_code, Linkage}
use Rattle.ec_select_operations.specs.Code.{place_register}
use Rattle.ec_select_operations.specs.Code.{kept_bytes, save_place, restore_place, register_places, save_code}
use Rattle.ec_select_operations.specs.Code.{restore_code, taken_code, call_code, result_code, return_code}
use Rattle.ec_select_operations.specs.Code.{flag_code, operator_code, tested_code, jump_code}
use Rattle.ec_select_operations.specs.Code.{work_location, answer_location, answer_code, by_kind, fixed_binary, fixed_unary}
use Rattle.ec_select_operations.specs.Code.{is_on_integers, has_one_format, takes_place, is_placed, placed_whole, placed_binary}
use Rattle.ec_select_operations.specs.Code.{keeps_number, is_brought, brought_code, negated_unary}
use Rattle.ec_select_fixed.specs.Types.{format_in}
use Rattle.ec_select_operations.specs.Code.{fixed_conversion, by_core, is_far, is_whole_address, addressed_code, member_code}
use Rattle.ec_select_operations.specs.Code.{load_code, banked_code, moved_code, offset_code}
use Rattle.ec_select_operations.specs.Code.{takes_index, indexed_code, scaled_code, object_code, further_code}
use Rattle.ec_select_operations.specs.Code.{from_z_code, loaded_code, stored_code}
use Rattle.ec_select_pointers.proofs.InZ.{fetches_are_short, members_are_short, further_is_short, tagged_has}
use Rattle.ec_select_pointers.proofs.InZ.{point_is_short, stores_are_short}
use Rattle.ec_select_operations.specs.Code.{known_bytes, known_offset, offset_by}
use Rattle.ec_select_operations.specs.Code.{related_bytes, pointers_code}
use Rattle.ec_select_operations.specs.Code.{is_difference, pointer_binary, pointer_conversion}
use Rattle.ec_select_functions.specs.Covered.{IsBinary, IsUnary}
use Rattle.ec_select_functions.specs.Covered.{IsFixedBinary, IsFixedUnary, AreConverted, IsFixedConversion}
use Rattle.ec_select_functions.specs.Covered.{IsPointerBinary, IsPointerConversion}
use Rattle.ec_select_functions.proofs.OnIntegers.{whole_type}
use Rattle.ec_select_functions.proofs.OnWholes.{on_wholes}
use Rattle.ec_select_operations.specs.Emitted.{OfKind}
use Rattle.ec_select_operations.specs.Homes.{home, result_location, HasHome}
use Rattle.ec_select_functions.proofs.Taken.{TakesSum, TakesOrder, TakesShift, takes, taken_is, compared_few}
use Rattle.ec_select_functions.proofs.Taken.{TakenNumber, as_known, no_number, HasNumber, number_or_none, ComparesSo, compares}
use Rattle.ec_select_functions.proofs.Taken.{Joins, joins}
use Rattle.ec_ir_known.specs.Known.{changes_byte}
use Rattle.ec_select_functions.specs.Covered.{AreIntegers, AreCompared}
use Rattle.ec_select_numbers.specs.Laws.{NumbersAreStraight, PutsAreStraight}
use Rattle.ec_select_operations.specs.Code.{taking_code, integer_binary, bytes_code, combined_by_code}
use Rattle.ec_ir_known.specs.declared.known.RightNumber.{RightNumber}
use Rattle.ec_select_operations.specs.Needs.{Need, wanted, wanted_result, is_fixed, number_taken, compared_bytes as bytes_compared}
use Rattle.ec_select.proofs.ByNumber.{masked_words, bounded_words, number_test_words}
use Rattle.ec_select_operations.specs.Needs.{number_known, takes_known}
use Rattle.ec_select.proofs.CombinedWords.{combined_by_words, combined_by_place}
use Rattle.ec_select_operations.specs.Places.{object_location}
use Rattle.ec_select_operations.specs.Pointers.{is_pointer, is_into_data, home_of, tag_in, IsPointerSize}
use Rattle.ec_select.proofs.FixedItems.{answer_words, own_words, others_words}
use Rattle.ec_select.proofs.Carried.{carried_words}
use Rattle.ec_select.proofs.InPlace.{placed_words, placed_not_bitwise}
use Rattle.ec_select.proofs.Limits.{negated_words}
use Rattle.ec_select.proofs.FixedTypes.{type_fixed, either_fixed, no_fixed, no_fixed_operand, none_converted}
use Rattle.ec_select.proofs.Fitting.{and_first, and_second}
use Rattle.ec_select.proofs.PointerItems.{tagged, few_related, whole_bytes}
use Rattle.ec_select.proofs.PointerTypes.{two_pointers, pointers_only, pointer_converted, no_pointer, none_pointed}
use Rattle.ec_select.proofs.Words.{joined_words, chained_words, copy_words_most, transfer_words_most, save_words_most, load_words_most}
use Rattle.ec_select.proofs.Words.{operate_words_most, quotient_words}

-- the words of the pieces, by the crates below
pub record WordLaws : Type 0 where
  pub values : ValuesHave
  pub complements : ComplementsHave
  pub relations : RelationsHaveWords
  pub products : ProductsHaveWords
  pub shifts : ShiftsHaveWords
  pub fixed_binaries : FixedBinariesHave
  pub fixed_unaries : FixedUnariesHave
  pub fixed_conversions : FixedConversionsHave
  pub pointers : PointersHave
  pub tables : TablesAreShort
  pub far_pointers : FarPointersHave
  pub steps : StepsAreShort
  pub indexes : IndexesAreShort
  pub far_steps : FarStepsAreShort
  pub conversions : ConversionsAreShort
  pub elements : ElementsAreShort
  pub numbers : NumbersAreStraight
  pub puts : PutsAreStraight

pub move_words : (p q : Location) (n : ℕ) → code_words (move_code p q n) ≤ 4 * n
move_words p q n = by_place (same_location p q) where
  by_place : (same : Bool) → code_words (if same then [] else transfer_code p q n) ≤ 4 * n
  by_place true = omega arith
  by_place false = transfer_words_most p q n

same_place : (p : Location) → same_location p p ≡ true
same_place (InRegisters r) = grind (arith, nat_tests)
same_place (InMemory o k) =
    let a : (o == o) ≡ true = grind (arith, nat_tests) in let b : (k == k) ≡ true = grind (arith, nat_tests) in rw (a, b) refl

-- a number that stands there already
kept_words : (p q : Location) (n : ℕ) → p ≡ q → code_words (move_code p q n) ≡ 0
kept_words p q n e =
    let s : same_location p q ≡ true = subst (λ r. same_location p r ≡ true) e (same_place p) in rw s refl

pub unless_none : (n most : ℕ) (code : List AsmItem) → code_words code ≤ most → code_words (if n == 0 then [] else code) ≤ most
unless_none n most code h = by_count (n == 0) where
  by_count : (none : Bool) → code_words (if none then [] else code) ≤ most
  by_count true = omega arith
  by_count false = h

-- squares grow
at_least_one : (b : ℕ) → 1 ≤ b → b ≤ b * b
at_least_one b h = let m = mul-le-mul_left b h in omega (arith, m)

module _ (laws : WordLaws) where
  pub convert_words : (signed : Bool) (p q : Location) (bytes n : ℕ)
      → code_words (conversion_code signed p q bytes n) ≤ 6 * n + 4
  convert_words signed p q bytes n =
      let a = move_words p q (min n bytes) in let b = (laws.values q 0 bytes n).2 signed in
      omega (arith, joined_words (move_code p q (min n bytes)) (extend_code signed q bytes n), a, b)

  -- no bytes, no code
  convert_none : (signed : Bool) (p q : Location) (bytes : ℕ) → code_words (conversion_code signed p q bytes 0) ≡ 0
  convert_none signed p q bytes =
      let a = move_words p q (min 0 bytes) in let t : nat_le 0 bytes ≡ true = le-leb 0 bytes (omega arith) in
      let b : code_words (extend_code signed q bytes 0) ≡ 0 = rw t refl in
      omega (arith, joined_words (move_code p q (min 0 bytes)) (extend_code signed q bytes 0), a, b)

  conversion_few : (signed : Bool) (p q : Location) (bytes n w : ℕ) → n ≤ w
      → code_words (conversion_code signed p q bytes n) ≤ 10 * w
  conversion_few signed p q bytes zero w l = let a = convert_none signed p q bytes in omega (arith, a)
  conversion_few signed p q bytes (suc n) w l = let a = convert_words signed p q bytes (suc n) in omega (arith, a)

  turn_words_few : (s : Direction) (p : Location) (n : ℕ) → turn_words s p n ≤ 7 * n
  turn_words_few s (InRegisters r) n = omega arith
  turn_words_few Left (InMemory o k) n = omega arith
  turn_words_few (Right signed) (InMemory o k) n = omega arith

  pub turn_most : (op : UnOp) (p : Location) (n : ℕ) → code_words (turn_code op p n) ≤ 1 + 10 * n
  turn_most Minus p n = (laws.complements p n).1
  turn_most Invert p n = let a = (laws.complements p n).0 in omega (arith, a)

  pub shift_most : (s : Direction) (a b to : Location) (n : ℕ) → code_words (turned_code s a b to n) ≤ 11 * n + 7
  shift_most s a b to n =
      let x = move_words a to n in let y = move_words b (InRegisters 30) 1 in let z = laws.shifts s to n in
      let w = turn_words_few s to n in
      omega (
        arith,
        joined_words (move_code a to n) (move_code b (InRegisters 30) 1 ++ shift_code s to n),
        joined_words (move_code b (InRegisters 30) 1) (shift_code s to n),
        x,
        y,
        z,
        w,
      )

  -- ---- binary operators

  -- a number of bytes is within the widest of three types
  first_within : (ty aty bty : PlainType) (signed : Bool) (n : ℕ) → ty ≡ integer signed n
      → n ≤ widest (ty ∷ aty ∷ bty ∷ [])
  first_within ty aty bty signed n e = rw e (omega arith)

  second_within : (ty aty bty : PlainType) (signed : Bool) (n : ℕ) → aty ≡ integer signed n
      → n ≤ widest (ty ∷ aty ∷ bty ∷ [])
  second_within ty aty bty signed n e = rw e (omega arith)

  some_within : (ty aty bty : PlainType) → 1 ≤ widest (ty ∷ aty ∷ bty ∷ [])
  some_within ty aty bty = omega arith

  reversed_most : (op : Operator) (a to : Location) (n : ℕ) → code_words (reversed_code op a to n) ≤ 17 * n + 1
  reversed_most Sum a to n = let y = operate_words_most Sum a to n in omega (arith, y)
  reversed_most BitAnd a to n = let y = operate_words_most BitAnd a to n in omega (arith, y)
  reversed_most BitOr a to n = let y = operate_words_most BitOr a to n in omega (arith, y)
  reversed_most BitXor a to n = let y = operate_words_most BitXor a to n in omega (arith, y)
  reversed_most Difference a to n =
      let y = operate_words_most Difference a to n in let z = (laws.complements to n).1 in
      omega (arith, joined_words (operate_code Difference a to n) (negation_code to n), y, z)

  pub combined_most : (op : Operator) (a b to : Location) (n : ℕ) → code_words (combined_code op a b to n) ≤ 17 * n + 1
  combined_most op a b to n = by_place (same_location b to) where
    by_place : (same : Bool)
        → code_words (if same then reversed_code op a to n else move_code a to n ++ operate_code op b to n) ≤ 17 * n + 1
    by_place true = reversed_most op a to n
    by_place false =
        let x = move_words a to n in let y = operate_words_most op b to n in
        omega (arith, joined_words (move_code a to n) (operate_code op b to n), x, y)

  -- so many words are within the row of w bytes
  within : (words w : ℕ) → words ≤ 80 * w + 110 → 1 ≤ w → words ≤ operation_words w
  within words w h some = let m = at_least_one w some in omega (arith, m)

  -- a truth value is made in any register
  pub truth_in_words : (d : ℕ) (r : Relation) (signed : Bool) → code_words (truth_in_code d r signed) ≡ 3
  truth_in_words d Less signed = refl
  truth_in_words d NotLess signed = refl
  truth_in_words d Equal signed = refl
  truth_in_words d NotEqual signed = refl

  pub relation_in_words : (d : ℕ) (r : Relation) (signed : Bool) (p q : Location) (n : ℕ)
      → code_words (relation_in_code d r signed p q n) ≤ 3 + 5 * n
  relation_in_words d r signed p q n =
      let x = laws.relations r signed p q n in
      let y = truth_in_words 30 r signed in
      let z = truth_in_words d r signed in
      omega (
        arith,
        joined_words (compare_code q p n) (truth_code r signed),
        joined_words (compare_code q p n) (truth_in_code d r signed),
        x,
        y,
        z,
      )

  compared_most : (rel : Relation) (signed : Bool) (p q r : Location) (bytes n : ℕ) → n ≤ 8
      → code_words (compared_code rel signed p q r bytes n) ≤ 5 * bytes + 55
  compared_most rel signed p q r bytes n l =
      let own = relation_in_code (truth_register r) rel signed p q bytes in
      let x = relation_in_words (truth_register r) rel signed p q bytes in
      let y = convert_words false (InRegisters (truth_register r)) r 1 n in
      unless_none n (5 * bytes + 55) (own ++ truth_at_code r n) (omega (arith, joined_words own (truth_at_code r n), x, y))

  pub truth_by_words : (d : ℕ) (b : Bound) (p : Location) (n : ℕ) → code_words (truth_by_code d b p n) ≤ 3 + 4 * n
  truth_by_words d b p n =
      let x = bounded_words laws.numbers laws.values false b p n in
      let y = truth_in_words d b.relation b.signed in
      omega (arith, joined_words (bounded_code false b p n) (truth_in_code d b.relation b.signed), x, y)

  fewer_bytes : (up : Bool) (bytes n : ℕ) → n ≤ bytes → shifted_bytes up bytes n ≤ bytes
  fewer_bytes true bytes n l = l
  fewer_bytes false bytes n l = omega arith

  -- the words of an operator that is not bitwise
  within_row : (family : Family) (slots : ℕ) (to a b : Temp) (ty aty bty : PlainType) (left right : Bool)
      (p q r : Location) (n : ℕ) → IsBinary family slots to a b ty aty bty → n ≤ to.bytes
      → code_words (binary_code family left right p q r a.bytes n) ≤ operation_words (widest (ty ∷ aty ∷ bty ∷ []))
  within_row (Combined op) slots to a b ty aty bty left right p q r n h l =
      let x = first_within ty aty bty h.signed to.bytes h.result_type in
      let y = combined_most op p q r n in
      within (code_words (combined_code op p q r n)) (widest (ty ∷ aty ∷ bty ∷ [])) (omega (arith, x, y)) (some_within ty aty bty)
  within_row (Compared rel false) slots to a b ty aty bty left right p q r n h l =
      let x = second_within ty aty bty h.signed a.bytes h.left_type in
      let few = h.result.most in
      let y = compared_most rel left p q r a.bytes n (omega arith) in
      within (code_words (compared_code rel left p q r a.bytes n)) (widest (ty ∷ aty ∷ bty ∷ [])) (omega (arith, x, y))
      (some_within ty aty bty)
  within_row (Compared rel true) slots to a b ty aty bty left right p q r n h l =
      let x = second_within ty aty bty h.signed a.bytes h.left_type in
      let few = h.result.most in
      let y = compared_most rel left q p r a.bytes n (omega arith) in
      within (code_words (compared_code rel left q p r a.bytes n)) (widest (ty ∷ aty ∷ bty ∷ [])) (omega (arith, x, y))
      (some_within ty aty bty)
  within_row Multiplied slots to a b ty aty bty left right p q r n h l =
      let few = h.result_bytes in
      let x = laws.products left right p q r n in
      let y = unless_none n (9 + 2 * n) (product_code left right p q r n) x in
      within (code_words (multiplied_code left right p q r n)) (widest (ty ∷ aty ∷ bty ∷ [])) (omega (arith, y)) (some_within ty aty bty)
  within_row (Shifted up) slots to a b ty aty bty left right p q r n h l =
      let i = h.0 in let same = i.same_bytes in
      let x = first_within ty aty bty i.signed to.bytes i.result_type in
      let m = shifted_bytes up a.bytes n in
      let few = fewer_bytes up a.bytes n (omega arith) in
      let y = shift_most (shift_of up left) p q r m in
      let z = unless_none n (11 * m + 7) (turned_code (shift_of up left) p q r m) y in
      within (code_words (shifted_code up left p q r a.bytes n)) (widest (ty ∷ aty ∷ bty ∷ [])) (omega (arith, x, few, z))
      (some_within ty aty bty)
  within_row (Divided rem) slots to a b ty aty bty left right p q r n h l =
      let i = h.0 in let same = i.left_bytes in let some = i.left.some in
      let x = first_within ty aty bty i.signed to.bytes i.result_type in
      let top = a.bytes - 1 in
      let whole : suc top ≤ a.bytes = omega arith in
      let y = move_words p r (suc top) in
      let z = quotient_words rem left r q top in
      let w : code_words (long_code rem left p q r top) ≤ 35 * suc top + 17 =
      omega (arith, joined_words (move_code p r (suc top)) (quotient_code rem left r q top), y, z) in
      let v = unless_none n (35 * suc top + 17) (long_code rem left p q r top) w in
      within (code_words (divided_code rem left p q r a.bytes n)) (widest (ty ∷ aty ∷ bty ∷ [])) (omega (arith, x, whole, v))
      (some_within ty aty bty)

  -- a bitwise operator whose result comes to the place of its first operand
  bitwise_words : (op : Operator) → is_bitwise_operator op ≡ true → (h : Homes) (to a : Temp) (q : Location) (n : ℕ)
      → to.at ≡ a.at → a.bytes ≡ to.bytes → code_words (combined_code op (home h a) q (home h to) n) ≤ 7 * n
  bitwise_words op k h to a q n same bytes = by_place (same_location q (home h to)) where
    around : (op : Operator) → is_bitwise_operator op ≡ true → code_words (reversed_code op (home h a) (home h to) n) ≤ 7 * n
    around Sum k = absurd (false≢true k)
    around Difference k = absurd (false≢true k)
    around BitAnd k = operate_words_most BitAnd (home h a) (home h to) n
    around BitOr k = operate_words_most BitOr (home h a) (home h to) n
    around BitXor k = operate_words_most BitXor (home h a) (home h to) n

    by_place : (there : Bool)
        → code_words (if there then reversed_code op (home h a) (home h to) n
        else move_code (home h a) (home h to) n ++ operate_code op q (home h to) n) ≤ 7 * n
    by_place true = around op k
    by_place false =
        let e : home h a ≡ home h to = rw (bytes, ← same) refl in
        let x = kept_words (home h a) (home h to) n e in
        let y = operate_words_most op q (home h to) n in
        omega (arith, joined_words (move_code (home h a) (home h to) n) (operate_code op q (home h to) n), x, y)

  bitwise_row : (op : BinOp) (ty aty bty : PlainType) (signed : Bool) (n : ℕ) → is_bitwise op ≡ true → ty ≡ integer signed n
      → 10 * n ≤ binary_words op ty aty bty
  bitwise_row op ty aty bty signed n b e = rw (b, e) (omega arith)

  other_row : (op : BinOp) (ty aty bty : PlainType) → is_bitwise op ≡ false
      → binary_words op ty aty bty ≡ operation_words (widest (ty ∷ aty ∷ bty ∷ []))
  other_row op ty aty bty b = rw b refl

  pub binary_most : (op : BinOp) (slots : ℕ) (h : Homes) (to a b : Temp) (ty aty bty : PlainType) (left right : Bool) (n : ℕ)
      → IsBinary (family_of op) slots to a b ty aty bty → n ≤ to.bytes → (is_bitwise op ≡ true → to.at ≡ a.at)
      → code_words (binary_code (family_of op) left right (home h a) (home h b) (home h to) a.bytes n)
      ≤ binary_words op ty aty bty
  binary_most And slots h to a b ty aty bty left right n i l same =
      let x = bitwise_words BitAnd refl h to a (home h b) n (same refl) i.left_bytes in
      let y = bitwise_row And ty aty bty i.signed to.bytes refl i.result_type in
      omega (arith, x, y)
  binary_most Or slots h to a b ty aty bty left right n i l same =
      let x = bitwise_words BitOr refl h to a (home h b) n (same refl) i.left_bytes in
      let y = bitwise_row Or ty aty bty i.signed to.bytes refl i.result_type in
      omega (arith, x, y)
  binary_most Xor slots h to a b ty aty bty left right n i l same =
      let x = bitwise_words BitXor refl h to a (home h b) n (same refl) i.left_bytes in
      let y = bitwise_row Xor ty aty bty i.signed to.bytes refl i.result_type in
      omega (arith, x, y)
  binary_most Add slots h to a b ty aty bty left right n i l same =
      within_row (family_of Add) slots to a b ty aty bty left right (home h a) (home h b) (home h to) n i l
  binary_most Sub slots h to a b ty aty bty left right n i l same =
      within_row (family_of Sub) slots to a b ty aty bty left right (home h a) (home h b) (home h to) n i l
  binary_most Mul slots h to a b ty aty bty left right n i l same =
      within_row (family_of Mul) slots to a b ty aty bty left right (home h a) (home h b) (home h to) n i l
  binary_most Div slots h to a b ty aty bty left right n i l same =
      within_row (family_of Div) slots to a b ty aty bty left right (home h a) (home h b) (home h to) n i l
  binary_most Rem slots h to a b ty aty bty left right n i l same =
      within_row (family_of Rem) slots to a b ty aty bty left right (home h a) (home h b) (home h to) n i l
  binary_most Lt slots h to a b ty aty bty left right n i l same =
      within_row (family_of Lt) slots to a b ty aty bty left right (home h a) (home h b) (home h to) n i l
  binary_most Gt slots h to a b ty aty bty left right n i l same =
      within_row (family_of Gt) slots to a b ty aty bty left right (home h a) (home h b) (home h to) n i l
  binary_most Le slots h to a b ty aty bty left right n i l same =
      within_row (family_of Le) slots to a b ty aty bty left right (home h a) (home h b) (home h to) n i l
  binary_most Ge slots h to a b ty aty bty left right n i l same =
      within_row (family_of Ge) slots to a b ty aty bty left right (home h a) (home h b) (home h to) n i l
  binary_most Eq slots h to a b ty aty bty left right n i l same =
      within_row (family_of Eq) slots to a b ty aty bty left right (home h a) (home h b) (home h to) n i l
  binary_most Ne slots h to a b ty aty bty left right n i l same =
      within_row (family_of Ne) slots to a b ty aty bty left right (home h a) (home h b) (home h to) n i l
  binary_most Shl slots h to a b ty aty bty left right n i l same =
      within_row (family_of Shl) slots to a b ty aty bty left right (home h a) (home h b) (home h to) n i l
  binary_most Shr slots h to a b ty aty bty left right n i l same =
      within_row (family_of Shr) slots to a b ty aty bty left right (home h a) (home h b) (home h to) n i l

  -- ---- comparisons that are told by a flag

  flag_few : (family : Family) (left right : Bool) (p q r : Location) (bytes : ℕ)
      → code_words (flag_code family p q bytes) ≤ code_words (binary_code family left right p q r bytes 1)
  flag_few (Compared rel false) left right p q r bytes =
      omega (
        arith,
        joined_words (relation_in_code (truth_register r) rel left p q bytes) (truth_at_code r 1),
        joined_words (compare_code q p bytes) (truth_in_code (truth_register r) rel left),
      )
  flag_few (Compared rel true) left right p q r bytes =
      omega (
        arith,
        joined_words (relation_in_code (truth_register r) rel left q p bytes) (truth_at_code r 1),
        joined_words (compare_code p q bytes) (truth_in_code (truth_register r) rel left),
      )
  flag_few family left right p q r bytes = omega arith

  result_some : (family : Family) (slots : ℕ) (to a b : Temp) (ty aty bty : PlainType)
      → IsBinary family slots to a b ty aty bty → 1 ≤ to.bytes
  result_some (Combined op) slots to a b ty aty bty h = h.result.some
  result_some (Compared r e) slots to a b ty aty bty h = h.result.some
  result_some Multiplied slots to a b ty aty bty h = h.result.some
  result_some (Shifted up) slots to a b ty aty bty h = h.0.result.some
  result_some (Divided r) slots to a b ty aty bty h = h.0.result.some

  operator_most : (telling : Option Told) (op : BinOp) (slots : ℕ) (h : Homes) (to a b : Temp) (ty aty bty : PlainType)
      (left right : Bool) (n : ℕ) → IsBinary (family_of op) slots to a b ty aty bty → n ≤ to.bytes
      → (is_bitwise op ≡ true → to.at ≡ a.at)
      → code_words (operator_code telling (family_of op) left right (home h a) (home h b) (home h to) a.bytes n)
      ≤ binary_words op ty aty bty
  operator_most None op slots h to a b ty aty bty left right n i l same =
      binary_most op slots h to a b ty aty bty left right n i l same
  operator_most (Some told) op slots h to a b ty aty bty left right n i l same =
      let x = flag_few (family_of op) left right (home h a) (home h b) (home h to) a.bytes in
      let y = binary_most op slots h to a b ty aty bty left right 1 i (result_some (family_of op) slots to a b ty aty bty i) same in
      omega (arith, x, y)

  -- ---- known numbers

  -- where the result comes to the place of the first operand, nothing has to be brought there
  brought_words : (h : Homes) (to a : Temp) (n : ℕ) → to.at ≡ a.at → a.bytes ≡ to.bytes
      → code_words (move_code (home h a) (home h to) n) ≡ 0
  brought_words h to a n same bytes =
      let e : home h a ≡ home h to = rw (bytes, ← same) refl in kept_words (home h a) (home h to) n e

  counted_words : (sh : Direction) (p q : Location) (m k : ℕ) → code_words (counted_code sh p q m k) ≤ 11 * m + 7
  counted_words sh p q m k =
      omega (arith, joined_words (move_code p q m) (turned_by_code sh q m k), move_words p q m, counted_shifts_have_words sh q m k)

  pub top_bit_words : (q : Location) (m : ℕ) → code_words (top_bit_code q m) ≤ 3
  top_bit_words (InRegisters r) m = omega arith
  top_bit_words (InMemory o j) m = omega arith

  counted_by_most : (up sign : Bool) (p q : Location) (m n k : ℕ)
      → code_words (counted_by_code up sign p q m n k) ≤ 11 * m + 13 * n + 11
  counted_by_most true sign p q m n k = let x = counted_words Left p q n k in omega (arith, x)
  counted_by_most false sign p q m n k = by_bit (leaves_bit sign q m n k)
    where
      by_bit : (x : Bool)
          → code_words (if x then move_code p q m ++ top_bit_code q m else counted_code (Right sign) p q m k ++ extend_code false q m n)
          ≤ 11 * m + 13 * n + 11
      by_bit true =
          let x = move_words p q m in
          let y = top_bit_words q m in
          omega (arith, joined_words (move_code p q m) (top_bit_code q m), x, y)
      by_bit false =
          let x = counted_words (Right sign) p q m k in
          let y = (laws.values q 0 m n).2 false in
          omega (arith, joined_words (counted_code (Right sign) p q m k) (extend_code false q m n), x, y)

  pub taking_most : (known : Option RightNumber) (telling : Option Told) (op : BinOp) (slots : ℕ) (h : Homes) (to a b : Temp)
      (ty aty bty : PlainType) (left right : Bool) (n : ℕ) → IsBinary (family_of op) slots to a b ty aty bty → n ≤ to.bytes
      → (is_bitwise op ≡ true → to.at ≡ a.at)
      → code_words (integer_binary known telling op left right (home h a) (home h b) (home h to) a.bytes n)
      ≤ binary_words op ty aty bty
  taking_most known telling op slots h to a b ty aty bty left right n i l same = by_taken (number_taken known false op) refl
    where
      -- in the row of an operator there is room for five words a byte, and for more where it is not bitwise
      row : (x : Bool) → is_bitwise op ≡ x → (words : ℕ) → words ≤ 9 * to.bytes → (x ≡ true → words ≤ 5 * to.bytes)
          → (s : Bool) → ty ≡ integer s to.bytes → words ≤ binary_words op ty aty bty
      row true q words most few s e = let y = bitwise_row op ty aty bty s to.bytes q e in let f = few refl in omega (arith, y, f)
      row false q words most few s e =
          let y = other_row op ty aty bty q in
          let x = first_within ty aty bty s to.bytes e in
          let z = within words (widest (ty ∷ aty ∷ bty ∷ [])) (omega (arith, x, most)) (some_within ty aty bty) in
          omega (arith, y, z)

      by_sum : (o : Operator) → AreIntegers slots to a b ty aty bty → (number : ℕ)
          → code_words (combined_by_code o (home h a) (home h to) number n) ≤ binary_words op ty aty bty
      by_sum o j number =
          let x = combined_by_words laws.numbers o (home h a) (home h to) number n in
          row (is_bitwise op) refl (code_words (combined_by_code o (home h a) (home h to) number n)) (omega (arith, x, l))
          (λ q.
          let w = combined_by_place laws.numbers o (home h a) (home h to) number n
          (λ m. brought_words h to a m (same q) j.left_bytes) in omega (arith, w, l)) j.signed j.result_type

      by_flag : HasHome slots a → (s : Bool) → aty ≡ integer s a.bytes → is_bitwise op ≡ false → (is_free : Bool) (bound : Bound)
          (compared : ℕ) → compared ≤ a.bytes → code_words (bounded_code is_free bound (home h a) compared) ≤ binary_words op ty aty bty
      by_flag ia s e q is_free bound compared few =
          let y = other_row op ty aty bty q in
          let x = second_within ty aty bty s a.bytes e in
          let z = bounded_words laws.numbers laws.values is_free bound (home h a) compared in
          let w = within (code_words (bounded_code is_free bound (home h a) compared)) (widest (ty ∷ aty ∷ bty ∷ []))
          (omega (arith, x, z, few)) (some_within ty aty bty) in
          omega (arith, y, w)

      by_order : (bound : Bound) → AreCompared slots to a b aty bty → is_bitwise op ≡ false → (compared : ℕ) → compared ≤ a.bytes
          → code_words (if n == 0 then [] else truth_by_code (truth_register (home h to)) bound (home h a) compared
          ++ truth_at_code (home h to) n) ≤ binary_words op ty aty bty
      by_order bound j q compared fewer =
          let own = truth_by_code (truth_register (home h to)) bound (home h a) compared in
          let truth = truth_at_code (home h to) n in
          let y = other_row op ty aty bty q in
          let x = second_within ty aty bty j.signed a.bytes j.left_type in
          let few = j.result.most in
          let c = truth_by_words (truth_register (home h to)) bound (home h a) compared in
          let w = convert_words false (InRegisters (truth_register (home h to))) (home h to) 1 n in
          let both = joined_words own truth in
          let u = unless_none n (5 * a.bytes + 55) (own ++ truth) (omega (arith, c, w, both, fewer, few, l)) in
          let z = within (code_words (if n == 0 then [] else own ++ truth)) (widest (ty ∷ aty ∷ bty ∷ [])) (omega (arith, x, u))
          (some_within ty aty bty) in
          omega (arith, y, z)

      no_bits : TakesOrder op → is_bitwise op ≡ false
      no_bits x = by_op op x.relation x.exchanged x.is
        where
          by_op : (op : BinOp) (r : Relation) (exchanged : Bool) → family_of op ≡ Compared r exchanged → is_bitwise op ≡ false
          by_op And r exchanged q = absurd cc
          by_op Or r exchanged q = absurd cc
          by_op Xor r exchanged q = absurd cc
          by_op op r exchanged q = refl

      by_shift : (up sign : Bool) → IsBinary (Shifted up) slots to a b ty aty bty → is_bitwise op ≡ false → (number shifted : ℕ)
          → shifted ≤ a.bytes
          → code_words (if n == 0 then [] else counted_by_code up sign (home h a) (home h to) shifted n number) ≤ binary_words op ty aty bty
      by_shift up sign i q number shifted few =
          let j = i.0 in
          let same = j.same_bytes in
          let code = counted_by_code up sign (home h a) (home h to) shifted n number in
          let y = other_row op ty aty bty q in
          let x = first_within ty aty bty j.signed to.bytes j.result_type in
          let u = unless_none n (11 * shifted + 13 * n + 11) code (counted_by_most up sign (home h a) (home h to) shifted n number) in
          let z = within (code_words (if n == 0 then [] else code)) (widest (ty ∷ aty ∷ bty ∷ [])) (omega (arith, x, u, few, same, l))
          (some_within ty aty bty) in
          omega (arith, y, z)

      no_shifted_bits : (x : TakesShift op) → is_bitwise op ≡ false
      no_shifted_bits x = by_op op x.up x.is
        where
          by_op : (op : BinOp) (up : Bool) → family_of op ≡ Shifted up → is_bitwise op ≡ false
          by_op Shl up q = refl
          by_op Shr up q = refl
          by_op op up q = absurd cc

      by_number : (x : TakesSum op ⊎ (TakesOrder op ⊎ TakesShift op)) → (told : Option Told) (number : TakenNumber)
          → code_words (taking_code (Some (as_known number)) told (family_of op) left right (home h a) (home h b) (home h to) a.bytes n)
          ≤ binary_words op ty aty bty
      by_number (inl x) None number =
          rw x.is (by_sum x.operator (subst (λ z. IsBinary z slots to a b ty aty bty) x.is i) (low_bytes 16 number.number))
      by_number (inl x) (Some told) number =
          let j = subst (λ z. IsBinary z slots to a b ty aty bty) x.is i in
          let z = masked_words (home h a) (home h to) (low_bytes 16 number.number % 256) in
          let some = j.result.some in
          rw x.is (row (is_bitwise op) refl (code_words (masked_code (home h a) (home h to) (low_bytes 16 number.number % 256)))
          (omega (arith, z, some)) (λ q. omega (arith, z, some)) j.signed j.result_type)
      by_number (inr (inl x)) None number =
          let j = subst (λ z. IsBinary z slots to a b ty aty bty) x.is i in
          let compared = bytes_compared (Some (as_known number)) a.bytes in
          let sign = compared_signed (Some (as_known number)) left in
          rw x.is (by_order (bound_of x.relation x.exchanged sign compared (low_bytes 16 number.number)) j (no_bits x) compared
          (compared_few (as_known number) a.bytes))
      by_number (inr (inl x)) (Some told) number =
          let j = subst (λ z. IsBinary z slots to a b ty aty bty) x.is i in
          let compared = bytes_compared (Some (as_known number)) a.bytes in
          let sign = compared_signed (Some (as_known number)) left in
          rw x.is (by_flag j.left j.signed j.left_type (no_bits x) (same_location (home h a) (home h to))
          (bound_of x.relation x.exchanged sign compared (low_bytes 16 number.number)) compared
          (compared_few (as_known number) a.bytes))
      by_number (inr (inr x)) None number =
          rw x.is (by_shift x.up (compared_signed (Some (as_known number)) left) (subst (λ z. IsBinary z slots to a b ty aty bty) x.is i)
          (no_shifted_bits x) (low_bytes 16 number.number % 256) (bytes_compared (Some (as_known number)) a.bytes)
          (compared_few (as_known number) a.bytes))
      by_number (inr (inr x)) (Some told) number =
          let most = other_row op ty aty bty (no_shifted_bits x) in
          rw x.is (omega (arith, most))

      no_order_bits : (op : BinOp) (r : Relation) (exchanged : Bool) → family_of op ≡ Compared r exchanged → is_bitwise op ≡ false
      no_order_bits And r exchanged q = absurd cc
      no_order_bits Or r exchanged q = absurd cc
      no_order_bits Xor r exchanged q = absurd cc
      no_order_bits op r exchanged q = refl

      low_most : (telling : Option Told) (r : Relation) (x : Bool) (compared : ℕ) → n ≤ 8
          → code_words (bytes_code telling (Compared r x) (home h a) (home h b) (home h to) compared n) ≤ 5 * compared + 55
      low_most None r false compared e = compared_most r false (home h a) (home h b) (home h to) compared n e
      low_most None r true compared e = compared_most r false (home h b) (home h a) (home h to) compared n e
      low_most (Some told) r false compared e =
          let x = flag_few (Compared r false) false false (home h a) (home h b) (home h to) compared in
          let z = compared_most r false (home h a) (home h b) (home h to) compared 1 (omega arith) in
          omega (arith, x, z)
      low_most (Some told) r true compared e =
          let x = flag_few (Compared r true) false false (home h a) (home h b) (home h to) compared in
          let z = compared_most r false (home h b) (home h a) (home h to) compared 1 (omega arith) in
          omega (arith, x, z)

      by_bytes : (order : ComparesSo op) (byte : Bool)
          → code_words (taking_code (Some (no_number byte)) telling (family_of op) left right (home h a) (home h b) (home h to) a.bytes n)
          ≤ binary_words op ty aty bty
      by_bytes order byte =
          let j = subst (λ z. IsBinary z slots to a b ty aty bty) order.is i in
          let compared = bytes_compared (Some (no_number byte)) a.bytes in
          let code = bytes_code telling (Compared order.relation order.exchanged) (home h a) (home h b) (home h to) compared n in
          let fewer = compared_few (no_number byte) a.bytes in
          let few = j.result.most in
          let w = low_most telling order.relation order.exchanged compared (omega (arith, few, l)) in
          let y = other_row op ty aty bty (no_order_bits op order.relation order.exchanged order.is) in
          let x = second_within ty aty bty j.signed a.bytes j.left_type in
          let z = within (code_words code) (widest (ty ∷ aty ∷ bty ∷ [])) (omega (arith, x, w, fewer)) (some_within ty aty bty) in
          subst (λ f. code_words (bytes_code telling f (home h a) (home h b) (home h to) compared n) ≤ binary_words op ty aty bty)
          (sym order.is) (omega (arith, y, z))

      -- one byte of the second operand alone
      by_one : (join : Joins op) → is_bitwise op ≡ true → (byte : Bool)
          → code_words (taking_code (Some (no_number byte)) telling (family_of op) left right (home h a) (home h b) (home h to) a.bytes n)
          ≤ binary_words op ty aty bty
      by_one join bits byte =
          let j = subst (λ z. IsBinary z slots to a b ty aty bty) join.is i in
          let compared = bytes_compared (Some (no_number byte)) a.bytes in
          let moved = move_code (home h a) (home h to) n in
          let one = operate_code join.operator (home h b) (home h to) (min n 1) in
          let both = joined_words moved one in
          let x = operate_words_most join.operator (home h b) (home h to) (min n 1) in
          let z = brought_words h to a n (same bits) j.left_bytes in
          let some = j.result.some in
          let row = bitwise_row op ty aty bty j.signed to.bytes bits j.result_type in
          subst (λ f. code_words (bytes_code telling f (home h a) (home h b) (home h to) compared n) ≤ binary_words op ty aty bty)
          (sym join.is) (omega (arith, both, x, z, l, some, row))

      joined_bits : (op : BinOp) → changes_byte op ≡ true → is_bitwise op ≡ true
      joined_bits Or q = refl
      joined_bits Xor q = refl
      joined_bits op q = absurd cc

      with_none : (byte : Bool) → takes_known None byte op ≡ true
          → code_words (taking_code (Some (no_number byte)) telling (family_of op) left right (home h a) (home h b) (home h to) a.bytes n)
          ≤ binary_words op ty aty bty
      with_none true q = by_bytes (compares op q) true
      with_none false q = by_one (joins op q) (joined_bits op q) false

      by_taken : (x : Option RightNumber) → number_taken known false op ≡ x
          → code_words (taking_code x telling (family_of op) left right (home h a) (home h b) (home h to) a.bytes n)
          ≤ binary_words op ty aty bty
      by_taken None q = operator_most telling op slots h to a b ty aty bty left right n i l same
      by_taken (Some k) q =
          ⊎_elim
          (λ (x : HasNumber k). with_number x.taken (q ∙ ap Some x.is) x.is)
          (λ (x : k ≡ no_number k.in_byte).
          subst (λ z. code_words (taking_code (Some z) telling (family_of op) left right (home h a) (home h b) (home h to) a.bytes n)
          ≤ binary_words op ty aty bty) (sym x)
          (with_none k.in_byte (taken_is op known (no_number k.in_byte) (q ∙ ap Some x)).1))
          (number_or_none k)
        where
          with_number : (number : TakenNumber) → number_taken known false op ≡ Some (as_known number) → k ≡ as_known number
              → code_words (taking_code (Some k) telling (family_of op) left right (home h a) (home h b) (home h to) a.bytes n)
              ≤ binary_words op ty aty bty
          with_number number q is =
              subst (λ z. code_words (taking_code (Some z) telling (family_of op) left right (home h a) (home h b) (home h to) a.bytes n)
              ≤ binary_words op ty aty bty) (sym is) (by_number (takes op (taken_is op known (as_known number) q).1) telling number)

  -- ---- other operations

  pub unary_most : (op : UnOp) (slots : ℕ) (p q : Location) (to a : Temp) (ty : PlainType) (n : ℕ) → IsUnary slots to a ty
      → n ≤ to.bytes → code_words (unary_code op p q n) ≤ unary_words ty
  unary_most op slots p q to a ty n h l =
      let x = move_words p q n in let y = turn_most op q n in
      let z : 60 + 40 * to.bytes ≤ unary_words ty = rw h.result_type (omega arith) in
      omega (arith, joined_words (move_code p q n) (turn_code op q n), x, y, z)

  conversion_row : (ty aty : PlainType) → 10 * scalar_size ty ≤ conversion_words ty aty
  conversion_row ty aty = by_type (same_type ty aty || (is_integer ty && is_integer aty)) where
    by_type : (few : Bool) → 10 * scalar_size ty ≤ (if few then 10 * widest (ty ∷ aty ∷ [])
        else 100 + 40 * widest (ty ∷ aty ∷ []))
    by_type true = omega arith
    by_type false = omega arith

  -- ---- operations on pointers

  far_address_few : (o offset : ℕ) (q : Location) → code_words (far_address_code o offset q) ≤ 9
  far_address_few o offset q = (laws.far_pointers o offset q q 0).0

  address_few : (o offset : ℕ) (q : Location) (bytes : ℕ) (bank : Bank) → IsPointerSize bytes
      → code_words (address_code o offset (tag_in bytes bank) q) ≤ 5 * bytes
  address_few o offset q bytes bank size =
      let x = (laws.pointers o offset (tag_in bytes bank) q q 0).0 in let y = (tagged bytes bank size).bytes_are in
      omega (arith, x, y)

  pub addressed_most : (core : Core) (p : PlainProgram) (o offset : ℕ) (q : Location) (bytes n : ℕ) → IsPointerSize bytes
      → code_words (addressed_code core p o offset q bytes n) ≤ 5 * bytes
  addressed_most core p o offset q bytes n size =
      unless_none n (5 * bytes)
      (if is_whole_address core bytes bank then far_address_code o offset q else address_code o offset (tag_in bytes bank) q)
      (by_address (is_whole_address core bytes bank) refl)
    where
      bank : Bank
      bank = home_of p o

      by_address : (whole : Bool) → is_whole_address core bytes bank ≡ whole
          → code_words (if whole then far_address_code o offset q else address_code o offset (tag_in bytes bank) q) ≤ 5 * bytes
      by_address true e =
          let x = far_address_few o offset q in let three = whole_bytes core bytes bank e in omega (arith, x, three)
      by_address false e = address_few o offset q bytes bank size

  -- a pointer of so many bytes to a member
  member_most : (core : Core) (q : Location) (bytes offset : ℕ) → code_words (member_code core bytes q offset) ≤ 15
  member_most core q bytes offset = by_far (is_far core bytes) where
    by_far : (far : Bool) → code_words (if far then field_far_code q offset else field_code q offset) ≤ 15
    by_far true = (laws.far_pointers 0 offset q q 0).1
    by_far false = let x = (laws.pointers 0 offset None q q 0).1 in omega (arith, x)

  -- code for either core
  either_words : (core : Core) (small large : List AsmItem) (most : ℕ) → code_words small ≤ most → code_words large ≤ most
      → code_words (by_core core small large) ≤ most
  either_words Small small large most x y = x
  either_words Large small large most x y = y

  load_most : (core : Core) (tables : Bool) (space : SpaceId) (p q : Location) (n : ℕ)
      → code_words (load_code core tables space p q n) ≤ 10 + 6 * n
  load_most core tables Flash p q n = let x = (laws.pointers 0 0 None p q n).3 in omega (arith, x)
  load_most core tables Data p q n = let x = (laws.pointers 0 0 None p q n).2 in omega (arith, x)
  load_most core tables FarFlash p q n =
      let x = (laws.pointers 0 0 None p q n).3 in let y = (laws.far_pointers 0 0 p q n).2 in
      either_words core (load_flash_code p q n) (load_far_code p q n) (10 + 6 * n) (omega (arith, x)) (omega (arith, y))
  load_most core false Generic p q n = let x = (laws.pointers 0 0 None p q n).2 in omega (arith, x)
  load_most core true Generic p q n =
      let x = (laws.pointers 0 0 None p q n).4 in let y = (laws.far_pointers 0 0 p q n).4 in
      either_words core (load_any_code p q n) (load_any_far_code p q n) (10 + 6 * n) (omega (arith, x)) (omega (arith, y))

  -- from an object with the home far
  far_object_most : (core : Core) (o offset : ℕ) (q : Location) (n : ℕ) → 1 ≤ n
      → code_words (by_core core (load_table_code o offset q n) (load_far_table_code o offset q n)) ≤ 2 + 5 * n
  far_object_most Small o offset q n some = let x = (laws.tables o offset q n).2 in omega (arith, x, some)
  far_object_most Large o offset q n some = let x = (laws.far_pointers o offset q q n).3 in omega (arith, x, some)

  bank_most : (core : Core) (kept : Home) (objects : List PlainObject) (o offset : ℕ) (q : Location) (n : ℕ) → 1 ≤ n
      → code_words (banked_code core kept objects o offset q n) ≤ 2 + 5 * n
  bank_most core FlashHome objects o offset q n some = let x = (laws.tables o offset q n).2 in omega (arith, x, some)
  bank_most core FarHome objects o offset q n some = far_object_most core o offset q n some
  bank_most core DataHome objects o offset q n some =
      let x = copy_words_most (object_location objects o offset) q n in omega (arith, x)

  -- where a pointer stays in Z
  pub object_most : (telling : Option Told) (core : Core) (kept : Home) (objects : List PlainObject) (o offset : ℕ) (q : Location)
      (n : ℕ) → 1 ≤ n → code_words (object_code telling core kept objects o offset q n) ≤ 2 + 5 * n
  object_most None core kept objects o offset q n some = bank_most core kept objects o offset q n some
  object_most (Some told) core kept objects o offset q n some =
      let x = (fetches_are_short (object_location objects o offset) n).2 in omega (arith, x)

  pub further_most : (told telling : Option Told) (core : Core) (bytes : ℕ) (q : Location) (offset : ℕ)
      → code_words (further_code told telling core bytes q offset) ≤ 15
  further_most (Some told) telling core bytes q offset = omega arith
  further_most None (Some told) core bytes q offset = let x = (point_is_short q).2 in omega (arith, x)
  further_most None None core bytes q offset = member_most core q bytes offset

  from_z_most : (tables : Bool) (space : SpaceId) (offset : ℕ) (q : Location) (n : ℕ)
      → code_words (from_z_code tables space offset q n) ≤ 10 + 6 * n
  from_z_most tables Data offset q n = let x = (members_are_short offset q n).2 in omega (arith, x)
  from_z_most tables Flash offset q n = let x = (further_is_short offset q n).2 in omega (arith, x)
  from_z_most tables FarFlash offset q n = let x = (further_is_short offset q n).2 in omega (arith, x)
  from_z_most true Generic offset q n = let x = tagged_has offset q n in omega (arith, x)
  from_z_most false Generic offset q n = let x = (members_are_short offset q n).2 in omega (arith, x)

  pub loaded_by_most : (from_z : Option ℕ) (core : Core) (tables : Bool) (space : SpaceId) (p q : Location) (n : ℕ)
      → code_words (loaded_code from_z core tables space p q n) ≤ 10 + 6 * n
  loaded_by_most None core tables space p q n = load_most core tables space p q n
  loaded_by_most (Some offset) core tables space p q n = from_z_most tables space offset q n

  pub stored_by_most : (from_z : Option ℕ) (p q : Location) (n : ℕ) → code_words (stored_code from_z p q n) ≤ 4 + 3 * n
  stored_by_most None p q n = (laws.pointers 0 0 None p q n).5
  stored_by_most (Some offset) p q n = let x = (stores_are_short offset p n).2 in omega (arith, x)

  moved_most : (core : Core) (bytes : ℕ) (minus : Bool) (q : Location) → code_words (moved_code core bytes minus q) ≤ 19
  moved_most core bytes minus q = by_far (is_far core bytes) where
    by_far : (far : Bool) → code_words (if far then advance_far_code minus q else advance_code minus q) ≤ 19
    by_far true = (laws.far_steps minus q).words_are
    by_far false = let x = (laws.steps q q true minus 0 0).1.words_are in omega (arith, x)

  pub offset_most : (core : Core) (minus signed : Bool) (a b c : Location) (bytes index_bytes size n : ℕ)
      → code_words (offset_code core minus signed a b c bytes index_bytes size n) ≤ 4 * bytes + 43
  offset_most core minus signed a b c bytes index_bytes size n =
      unless_none n (4 * bytes + 43) (if takes_index core signed b c bytes index_bytes (size % 65536) then indexed else scaled)
      (by_way (takes_index core signed b c bytes index_bytes (size % 65536)) refl)
    where
      indexed : List AsmItem
      indexed = indexed_code minus a b c bytes index_bytes (size % 65536)

      scaled : List AsmItem
      scaled = scaled_code core minus signed a b c bytes index_bytes (size % 65536)

      by_way : (way : Bool) → takes_index core signed b c bytes index_bytes (size % 65536) ≡ way
          → code_words (if way then indexed else scaled) ≤ 4 * bytes + 43
      by_way true e =
          let can = and_second (not (is_far core bytes)) (can_add signed b c index_bytes (size % 65536)) e in
          let x = (laws.indexes minus signed b c index_bytes (size % 65536) can).words_are in
          let y = move_words a c bytes in
          omega (arith, joined_words (move_code a c bytes) (add_index_code minus b c index_bytes (size % 65536)), x, y)
      by_way false e =
          let scale = scale_index_code b signed index_bytes (size % 65536) in
          let moved = moved_code core bytes minus c in
          let x = (laws.steps b c signed minus index_bytes (size % 65536)).0.words_are in
          let y = move_words a c bytes in
          let z = moved_most core bytes minus c in
          omega (
            arith,
            joined_words scale (move_code a c bytes ++ moved),
            joined_words (move_code a c bytes) moved,
            x,
            y,
            z,
          )

  -- where the number of elements may be known
  pub offset_by_most : (known : Option ℤ) (core : Core) (minus signed : Bool) (a b c : Location) (bytes index_bytes size n : ℕ)
      → code_words (offset_by known core minus signed a b c bytes index_bytes size n) ≤ 4 * bytes + 43
  offset_by_most None core minus signed a b c bytes index_bytes size n = offset_most core minus signed a b c bytes index_bytes size n
  offset_by_most (Some number) core minus signed a b c bytes index_bytes size n =
      let offset = known_offset minus (known_bytes signed index_bytes (low_bytes 16 number) size) in
      let member = member_code core bytes c offset in
      let x = move_words a c bytes in
      let y = member_most core c bytes offset in
      unless_none n (4 * bytes + 43) (move_code a c bytes ++ member) (omega (arith, joined_words (move_code a c bytes) member, x, y))

  -- a comparison alone
  compared_alone : (r : Relation) (a b : Location) (bytes : ℕ) → code_words (compare_code b a bytes) ≤ 3 + 5 * bytes
  compared_alone r a b bytes =
      let x = laws.relations r false a b bytes in omega (arith, joined_words (compare_code b a bytes) (truth_code r false), x)

  pub pointers_most : (telling : Option Told) (core : Core) (family : Family) (a b c : Location) (bytes size n : ℕ) → 2 ≤ bytes → n ≤ 8
      → code_words (pointers_code telling core family a b c bytes size n) ≤ 5 * bytes + 64
  pointers_most telling core (Combined op) a b c bytes size n some l =
      let x = (laws.elements a b c size).words_are in
      unless_none n (5 * bytes + 64) (elements_code a b c size) (omega (arith, x))
  pointers_most None core (Compared r false) a b c bytes size n some l =
      let x = compared_most r false a b c (related_bytes core r bytes) n l in
      let y = few_related core r bytes some in omega (arith, x, y)
  pointers_most None core (Compared r true) a b c bytes size n some l =
      let x = compared_most r false b a c (related_bytes core r bytes) n l in
      let y = few_related core r bytes some in omega (arith, x, y)
  pointers_most (Some told) core (Compared r false) a b c bytes size n some l =
      let x = compared_alone r a b (related_bytes core r bytes) in
      let y = few_related core r bytes some in
      unless_none n (5 * bytes + 64) (compare_code b a (related_bytes core r bytes)) (omega (arith, x, y))
  pointers_most (Some told) core (Compared r true) a b c bytes size n some l =
      let x = compared_alone r b a (related_bytes core r bytes) in
      let y = few_related core r bytes some in
      unless_none n (5 * bytes + 64) (compare_code a b (related_bytes core r bytes)) (omega (arith, x, y))
  pointers_most telling core Multiplied a b c bytes size n some l = omega arith
  pointers_most telling core (Shifted up) a b c bytes size n some l = omega arith
  pointers_most telling core (Divided r) a b c bytes size n some l = omega arith

  pub pointer_binary_most : (known : Option RightNumber) (telling : Option Told) (core : Core) (p : PlainProgram) (op : BinOp)
      (slots : ℕ) (h : Homes) (to a b : Temp) (ty aty bty : PlainType)
      (n : ℕ) → IsPointerBinary p slots op to a b ty aty bty → n ≤ to.bytes
      → code_words (pointer_binary known telling core (is_pointer aty) (is_pointer bty) p op aty bty (home h a) (home h b) (home h to)
      a.bytes b.bytes n) ≤ binary_words op ty aty bty
  pointer_binary_most known telling core p op slots h to a b ty aty bty n i l = by_kinds (is_pointer aty) (is_pointer bty) refl refl where
    left_within : a.bytes ≤ widest (ty ∷ aty ∷ bty ∷ [])
    left_within = let e = i.left_bytes in omega (arith, e)

    in_row : (code : List AsmItem) → code_words code ≤ 80 * widest (ty ∷ aty ∷ bty ∷ []) + 110
        → code_words code ≤ binary_words op ty aty bty
    in_row code m =
        let x = within (code_words code) (widest (ty ∷ aty ∷ bty ∷ [])) m (some_within ty aty bty) in
        let y = other_row op ty aty bty (pointers_only op ty aty bty i.pointer i.types).1 in
        omega (arith, x, y)

    by_kinds : (x y : Bool) → is_pointer aty ≡ x → is_pointer bty ≡ y
        → code_words (pointer_binary known telling core x y p op aty bty (home h a) (home h b) (home h to) a.bytes b.bytes n)
        ≤ binary_words op ty aty bty
    by_kinds true true d e =
        let t = (two_pointers op ty aty bty d e i.types).some in let u = i.left_bytes in let few = i.result.most in
        let m = pointers_most telling core (family_of op) (home h a) (home h b) (home h to) a.bytes (element_size p aty) n
        (omega (arith, t, u)) (omega (arith, few, l)) in
        in_row (pointers_code telling core (family_of op) (home h a) (home h b) (home h to) a.bytes (element_size p aty) n)
        (let w = left_within in omega (arith, m, w))
    by_kinds true false d e =
        let few = i.result.most in
        let m = offset_by_most (number_known known) core (is_difference op) (is_signed bty) (home h a) (home h b) (home h to)
        (max 2 n) b.bytes (element_size p aty) n in
        in_row (offset_by (number_known known) core (is_difference op) (is_signed bty) (home h a) (home h b) (home h to) (max 2 n) b.bytes
        (element_size p aty) n)
        (omega (arith, m, few, l))
    by_kinds false true d e =
        let few = i.result.most in
        let m = offset_most core false (is_signed aty) (home h b) (home h a) (home h to) (max 2 n) a.bytes (element_size p bty) n in
        in_row (offset_code core false (is_signed aty) (home h b) (home h a) (home h to) (max 2 n) a.bytes (element_size p bty) n)
        (omega (arith, m, few, l))
    by_kinds false false d e = omega arith

  -- a pointer that is moved by an index which is told
  pub indexed_most : (core : Core) (p : PlainProgram) (op : BinOp) (slots : ℕ) (h : Homes) (to a b : Temp) (ty aty bty : PlainType) (n : ℕ)
      → IsPointerBinary p slots op to a b ty aty bty → n ≤ to.bytes
      → code_words (offset_code core (is_difference op) (is_signed bty) (home h a) z_pair (home h to) (max 2 n) b.bytes
      (element_size p aty) n)
      ≤ binary_words op ty aty bty
  indexed_most core p op slots h to a b ty aty bty n i l =
      let wide = widest (ty ∷ aty ∷ bty ∷ []) in
      let code = offset_code core (is_difference op) (is_signed bty) (home h a) z_pair (home h to) (max 2 n) b.bytes
      (element_size p aty) n in
      let m = offset_most core (is_difference op) (is_signed bty) (home h a) z_pair (home h to) (max 2 n) b.bytes (element_size p aty) n in
      let few = i.result.most in
      let x = within (code_words code) wide (omega (arith, m, few, l)) (some_within ty aty bty) in
      let y = other_row op ty aty bty (pointers_only op ty aty bty i.pointer i.types).1 in
      omega (arith, x, y)

  pub pointer_conversion_most : (slots : ℕ) (h : Homes) (to a : Temp) (ty aty : PlainType) (n : ℕ)
      → IsPointerConversion slots to a ty aty → n ≤ to.bytes
      → code_words (pointer_conversion aty (home h a) (home h to) a.bytes n) ≤ conversion_words ty aty
  pointer_conversion_most slots h to a ty aty n i l =
      let x = move_words (home h a) (home h to) (min n a.bytes) in let y = conversion_row ty aty in let w = i.result_bytes in
      let z = by_bytes (nat_le n a.bytes) refl in
      omega (arith, joined_words (move_code (home h a) (home h to) (min n a.bytes)) (behind (nat_le n a.bytes)), x, y, z, w, l)
    where
      behind : (few : Bool) → List AsmItem
      behind few = if few then [] else embed_code (is_into_data aty) (home h to)

      by_bytes : (few : Bool) → nat_le n a.bytes ≡ few → code_words (behind few) + 4 * min n a.bytes ≤ 10 * n
      by_bytes true e = omega arith
      by_bytes false e =
          let more = leb-false n a.bytes e in
          let x = (laws.conversions (is_into_data aty) (home h to) (home h to)).0.words_are in omega (arith, x, more)

  -- ---- operations with a fixed-point type

  pub fixed_binary_most : (known : Option RightNumber) (telling : Option Told) (op : BinOp) (ty aty bty : PlainType) (mode : Mode)
      (slots : ℕ) (h : Homes)
      (to a b : Temp) (n : ℕ) → IsFixedBinary slots op to a b ty aty bty → n ≤ to.bytes
      → code_words (fixed_binary known telling op ty aty bty mode (home h a) (home h b) (home h to) a.bytes n)
      ≤ binary_words op ty aty bty
  fixed_binary_most known telling op ty aty bty mode slots h to a b n i l = by_code (is_on_integers (family_of op) mode ty aty bty) refl
    where
      code : List AsmItem
      code = fixed_binary_code op ty aty bty mode (home h a) (home h b) answer_location work_location

      stops : Bool
      stops = is_placed op mode ty aty bty && not (same_location (home h b) (home h to))

      stopped : List AsmItem
      stopped = placed_binary known op (is_signed aty) (home h a) (home h b) (home h to) a.bytes n

      by_stop : (x : Bool) → stops ≡ x
          → code_words (if x then stopped else answer_code code (home h to) n) ≤ binary_words op ty aty bty
      by_stop true s =
          let placed = and_first (is_placed op mode ty aty bty) (not (same_location (home h b) (home h to))) s in
          let takes = and_second (has_one_format ty aty) (takes_place op mode (has_one_format aty bty)) placed in
          let words : binary_words op ty aty bty ≡ operation_words (widest (ty ∷ aty ∷ bty ∷ [])) =
          ap (λ x. if x && is_integer ty then 10 * widest (ty ∷ aty ∷ bty ∷ []) else operation_words (widest (ty ∷ aty ∷ bty ∷ [])))
          (placed_not_bitwise op mode (has_one_format aty bty) takes) in
          let wide : scalar_size aty ≤ widest (ty ∷ aty ∷ bty ∷ []) = omega arith in
          let bytes = i.left_bytes in
          let some = i.left.some in
          let top = a.bytes - 1 in
          let few = placed_words known (is_signed aty) (home h a) (home h b) (home h to) top (move_words (home h a) (home h to) (suc top))
          (move_words (home h b) (InRegisters 30) 1) op in
          unless_none n (binary_words op ty aty bty) (placed_whole known op (is_signed aty) (home h a) (home h b) (home h to) top)
          (omega (arith, words, wide, bytes, some, few))
      by_stop false s =
          let bytes = i.result_bytes in
          let few = laws.fixed_binaries op ty aty bty mode (home h a) (home h b) answer_location work_location i.types in
          answer_words code (home h to) n (scalar_size ty) (binary_words op ty aty bty) (omega arith) few

      by_code : (on : Bool) → is_on_integers (family_of op) mode ty aty bty ≡ on
          → code_words (if on then integer_binary known telling op (is_signed aty) (is_signed bty) (home h a) (home h b)
          (home h to) a.bytes n else (if stops then stopped else answer_code code (home h to) n)) ≤ binary_words op ty aty bty
      by_code true on =
          let w = on_wholes slots op mode to a b ty aty bty i on in
          let k = whole_type w.kind in
          let bitwise = w.bitwise in
          let most = taking_most known telling op slots h to a b w.result k k (is_signed aty) (is_signed bty) n w.binary l
          (λ q. absurd (false≢true (sym bitwise ∙ q))) in
          let words : binary_words op ty aty bty ≡ binary_words op w.result k k =
          ap (λ x. binary_words op ty x bty) w.left_is
          ∙ ap (λ x. binary_words op ty (fixed w.kind w.first_saturates) x) w.right_is ∙ w.words in
          omega (arith, most, words)
      by_code false on = by_stop stops refl

  pub fixed_unary_most : (op : UnOp) (ty : PlainType) (mode : Mode) (slots : ℕ) (h : Homes) (to a : Temp) (n : ℕ)
      → IsFixedUnary slots op to a ty → n ≤ to.bytes
      → code_words (fixed_unary op ty mode (home h a) (home h to) n) ≤ unary_words ty
  fixed_unary_most op ty mode slots h to a n i l = by_mode mode.saturate
    where
      code : List AsmItem
      code = fixed_unary_code op ty mode (home h a) answer_location work_location

      stopped : List AsmItem
      stopped = negated_unary (is_signed ty) (home h a) (home h to) (scalar_size ty) n

      by_size : (few : Bool) → code_words (if few then stopped else answer_code code (home h to) n) ≤ unary_words ty
      by_size true =
          let some = i.result.some in let e = i.result_bytes in
          negated_words (is_signed ty) (home h a) (home h to) (scalar_size ty) n (unary_words ty) (omega (arith, some, e))
          (laws.values (home h to) 0 (scalar_size ty) (scalar_size ty)).0 (omega arith)
          (λ (q : Location). move_words (home h a) q 1)
      by_size false =
          let bytes = i.result_bytes in
          let most = laws.fixed_unaries op ty mode (home h a) answer_location work_location i.types in
          answer_words code (home h to) n (scalar_size ty) (unary_words ty) (omega arith) most

      by_mode : (saturates : Bool)
          → code_words (if saturates then (if nat_le (scalar_size ty) 6 then stopped else answer_code code (home h to) n)
          else unary_code op (home h a) (home h to) n) ≤ unary_words ty
      by_mode true = by_size (nat_le (scalar_size ty) 6)
      by_mode false =
          let bytes = i.result_bytes in
          let same : a.bytes ≡ to.bytes = i.operand_bytes ∙ sym i.result_bytes in
          let most = unary_most op slots (home h a) (home h to) to a (integer false to.bytes) n
          (record { signed = false; result_type = refl; result = i.result; operand = i.operand; same_bytes = same }) l in
          omega (arith, most, bytes)

  pub fixed_conversion_most : (ty aty : PlainType) (mode : Mode) (slots : ℕ) (h : Homes) (to a : Temp) (n : ℕ)
      → IsFixedConversion slots to a ty aty → n ≤ to.bytes
      → code_words (fixed_conversion ty aty mode (home h a) (home h to) a.bytes n) ≤ conversion_words ty aty
  fixed_conversion_most ty aty mode slots h to a n i l = by_number (keeps_number ty aty mode) refl
    where
      code : List AsmItem
      code = fixed_conversion_code ty aty mode (home h a) answer_location work_location

      brought : List AsmItem
      brought =
          brought_code (is_signed aty) (home h a) (home h to) (scalar_size aty) (scalar_size ty) (format_in aty).frac (format_in ty).frac n

      by_way : (brings : Bool) → is_brought ty aty mode ≡ brings → keeps_number ty aty mode ≡ false
          → code_words (if brings then brought else answer_code code (home h to) n) ≤ conversion_words ty aty
      by_way true q other =
          carried_words ty aty mode (is_signed aty) (home h a) (home h to) (format_in aty).frac (format_in ty).frac n other i.types
          (and_parts (not (is_fixed ty && mode.saturate)) _ q).1
      by_way false q other =
          let bytes = i.result_bytes in
          let few = laws.fixed_conversions ty aty mode (home h a) answer_location work_location i.types in
          answer_words code (home h to) n (scalar_size ty) (conversion_words ty aty) (omega arith) few

      by_number : (keeps : Bool) → keeps_number ty aty mode ≡ keeps
          → code_words (if keeps then conversion_code (is_signed aty) (home h a) (home h to) a.bytes n
          else (if is_brought ty aty mode then brought else answer_code code (home h to) n)) ≤ conversion_words ty aty
      by_number true q =
          let x = conversion_few (is_signed aty) (home h a) (home h to) a.bytes n to.bytes l in
          let y = conversion_row ty aty in let w = i.result_bytes in
          omega (arith, x, y, w)
      by_number false q = by_way (is_brought ty aty mode) refl q

  -- ---- operations on integers, with a fixed-point type, or on pointers

  pub one_binary : (core : Core) (p : PlainProgram) (known : Option RightNumber) (telling : Option Told) (op : BinOp)
      (ty aty bty : PlainType) (mode : Mode) (slots : ℕ)
      (h : Homes) (to a b : Temp) (n : ℕ)
      → IsBinary (family_of op) slots to a b ty aty bty
      ⊎ (IsFixedBinary slots op to a b ty aty bty ⊎ IsPointerBinary p slots op to a b ty aty bty)
      → n ≤ to.bytes → OfKind (is_fixed aty || is_fixed bty) ⊤ (is_bitwise op ≡ true → to.at ≡ a.at)
      → code_words (by_kind (is_fixed aty || is_fixed bty)
      (fixed_binary known telling op ty aty bty mode (home h a) (home h b) (home h to) a.bytes n)
      (by_kind (is_pointer aty || is_pointer bty)
      (pointer_binary known telling core (is_pointer aty) (is_pointer bty) p op aty bty (home h a) (home h b) (home h to) a.bytes b.bytes n)
      (integer_binary known telling op (is_signed aty) (is_signed bty) (home h a) (home h b) (home h to) a.bytes n)))
      ≤ binary_words op ty aty bty
  one_binary core p known telling op ty aty bty mode slots h to a b n (inl i) l q =
      let own = fixed_binary known telling op ty aty bty mode (home h a) (home h b) (home h to) a.bytes n in
      let pointed = pointer_binary known telling core (is_pointer aty) (is_pointer bty) p op aty bty (home h a) (home h b) (home h to)
      a.bytes b.bytes n in
      let usual = integer_binary known telling op (is_signed aty) (is_signed bty) (home h a) (home h b) (home h to) a.bytes n in
      let most = binary_words op ty aty bty in
      let e = no_fixed (family_of op) slots to a b ty aty bty i in
      let same = subst (λ (k : Bool). OfKind k ⊤ (is_bitwise op ≡ true → to.at ≡ a.at)) e q in
      others_words (is_fixed aty || is_fixed bty) own (by_kind (is_pointer aty || is_pointer bty) pointed usual) most e
      (others_words (is_pointer aty || is_pointer bty) pointed usual most (no_pointer (family_of op) slots to a b ty aty bty i)
      (taking_most known telling op slots h to a b ty aty bty (is_signed aty) (is_signed bty) n i l same))
  one_binary core p known telling op ty aty bty mode slots h to a b n (inr (inl i)) l q =
      let own = fixed_binary known telling op ty aty bty mode (home h a) (home h b) (home h to) a.bytes n in
      let pointed = pointer_binary known telling core (is_pointer aty) (is_pointer bty) p op aty bty (home h a) (home h b) (home h to)
      a.bytes b.bytes n in
      let usual = integer_binary known telling op (is_signed aty) (is_signed bty) (home h a) (home h b) (home h to) a.bytes n in
      let most = binary_words op ty aty bty in
      own_words (is_fixed aty || is_fixed bty) own (by_kind (is_pointer aty || is_pointer bty) pointed usual) most
      (either_fixed aty bty i.types.fixed) (fixed_binary_most known telling op ty aty bty mode slots h to a b n i l)
  one_binary core p known telling op ty aty bty mode slots h to a b n (inr (inr i)) l q =
      let own = fixed_binary known telling op ty aty bty mode (home h a) (home h b) (home h to) a.bytes n in
      let pointed = pointer_binary known telling core (is_pointer aty) (is_pointer bty) p op aty bty (home h a) (home h b) (home h to)
      a.bytes b.bytes n in
      let usual = integer_binary known telling op (is_signed aty) (is_signed bty) (home h a) (home h b) (home h to) a.bytes n in
      let most = binary_words op ty aty bty in
      others_words (is_fixed aty || is_fixed bty) own (by_kind (is_pointer aty || is_pointer bty) pointed usual) most
      (pointers_only op ty aty bty i.pointer i.types).0
      (own_words (is_pointer aty || is_pointer bty) pointed usual most i.pointer
      (pointer_binary_most known telling core p op slots h to a b ty aty bty n i l))

  pub one_unary : (op : UnOp) (ty : PlainType) (mode : Mode) (slots : ℕ) (h : Homes) (to a : Temp) (n : ℕ)
      → IsUnary slots to a ty ⊎ IsFixedUnary slots op to a ty → n ≤ to.bytes
      → code_words (by_kind (is_fixed ty) (fixed_unary op ty mode (home h a) (home h to) n) (unary_code op (home h a) (home h to) n))
      ≤ unary_words ty
  one_unary op ty mode slots h to a n (inl i) l =
      others_words (is_fixed ty) (fixed_unary op ty mode (home h a) (home h to) n) (unary_code op (home h a) (home h to) n)
      (unary_words ty) (no_fixed_operand slots to a ty i) (unary_most op slots (home h a) (home h to) to a ty n i l)
  one_unary op ty mode slots h to a n (inr i) l =
      own_words (is_fixed ty) (fixed_unary op ty mode (home h a) (home h to) n) (unary_code op (home h a) (home h to) n)
      (unary_words ty) (type_fixed ty i.types.fixed) (fixed_unary_most op ty mode slots h to a n i l)

  pub one_conversion : (ty aty : PlainType) (mode : Mode) (slots : ℕ) (h : Homes) (to a : Temp) (n : ℕ)
      → AreConverted slots to a ty aty ⊎ (IsFixedConversion slots to a ty aty ⊎ IsPointerConversion slots to a ty aty)
      → n ≤ to.bytes
      → code_words (by_kind (is_fixed ty || is_fixed aty) (fixed_conversion ty aty mode (home h a) (home h to) a.bytes n)
      (by_kind (is_pointer aty) (pointer_conversion aty (home h a) (home h to) a.bytes n)
      (conversion_code (is_signed aty) (home h a) (home h to) a.bytes n))) ≤ conversion_words ty aty
  one_conversion ty aty mode slots h to a n (inl i) l =
      let own = fixed_conversion ty aty mode (home h a) (home h to) a.bytes n in
      let pointed = pointer_conversion aty (home h a) (home h to) a.bytes n in
      let usual = conversion_code (is_signed aty) (home h a) (home h to) a.bytes n in
      let most = conversion_words ty aty in
      let x = conversion_few (is_signed aty) (home h a) (home h to) a.bytes n to.bytes l in
      let y = conversion_row ty aty in
      let w : scalar_size ty ≡ to.bytes = ap scalar_size i.result_type in
      others_words (is_fixed ty || is_fixed aty) own (by_kind (is_pointer aty) pointed usual) most
      (none_converted slots to a ty aty i)
      (others_words (is_pointer aty) pointed usual most (none_pointed slots to a ty aty i) (omega (arith, x, y, w)))
  one_conversion ty aty mode slots h to a n (inr (inl i)) l =
      let own = fixed_conversion ty aty mode (home h a) (home h to) a.bytes n in
      let pointed = pointer_conversion aty (home h a) (home h to) a.bytes n in
      let usual = conversion_code (is_signed aty) (home h a) (home h to) a.bytes n in
      let most = conversion_words ty aty in
      own_words (is_fixed ty || is_fixed aty) own (by_kind (is_pointer aty) pointed usual) most
      (either_fixed ty aty i.types.fixed) (fixed_conversion_most ty aty mode slots h to a n i l)
  one_conversion ty aty mode slots h to a n (inr (inr i)) l =
      let own = fixed_conversion ty aty mode (home h a) (home h to) a.bytes n in
      let pointed = pointer_conversion aty (home h a) (home h to) a.bytes n in
      let usual = conversion_code (is_signed aty) (home h a) (home h to) a.bytes n in
      let most = conversion_words ty aty in
      others_words (is_fixed ty || is_fixed aty) own (by_kind (is_pointer aty) pointed usual) most
      (pointer_converted ty aty i.pointer i.types).no_fixed
      (own_words (is_pointer aty) pointed usual most i.pointer (pointer_conversion_most slots h to a ty aty n i l))

  branch_most : (is_free : Bool) (p : Location) (bytes l : ℕ) → code_words (branch_code is_free p bytes l) ≤ 6 + 3 * bytes
  branch_most is_free p bytes l =
      let x = number_test_words laws.values is_free p bytes in
      omega (arith, joined_words (number_test is_free p bytes) (BranchTo true 1 l ∷ []), x)

  pub tested_most : (told telling : Option Told) (is_free : Bool) (p : Location) (bytes l : ℕ)
      → code_words (tested_code told telling is_free p bytes l) ≤ 6 + 3 * bytes
  tested_most (Some (Operands r s)) None is_free p bytes l = omega arith
  tested_most (Some (Operands r s)) (Some behind) is_free p bytes l = omega arith
  tested_most told None is_free p bytes l = branch_most is_free p bytes l
  tested_most told (Some behind) is_free p bytes l = let x = number_test_words laws.values is_free p bytes in omega (arith, x)

  pub jump_most : (told : Option Told) (l : ℕ) → code_words (jump_code told l) ≤ 3
  jump_most (Some (Operands r s)) l = omega arith
  jump_most told l = omega arith

  -- ---- calls and returns

  kept_few : (h : Homes) (place n : ℕ) → kept_bytes h place n ≤ h.width
  kept_few h place n = by_depth (nat_le (h.width * (place + 1)) 12) where
    by_depth : (near : Bool) → (if near then min n h.width else 0) ≤ h.width
    by_depth true = omega arith
    by_depth false = omega arith

  -- three places have registers of four bytes
  kept_next : (h : Homes) (place n : ℕ) → h.width ≡ 4
      → 2 * kept_bytes h place n + 8 * min place 3 ≤ 8 * min (suc place) 3
  kept_next h place n e = by_depth (nat_le (h.width * (place + 1)) 12) refl where
    by_depth : (near : Bool) → nat_le (h.width * (place + 1)) 12 ≡ near
        → 2 * (if near then min n h.width else 0) + 8 * min place 3 ≤ 8 * min (suc place) 3
    by_depth true q =
        let d : h.width * (place + 1) ≤ 12 = leb-true (h.width * (place + 1)) 12 q in
        let g : 4 * (place + 1) ≤ 12 = subst (λ (w : ℕ). w * (place + 1) ≤ 12) e d in omega arith
    by_depth false q = omega arith

  -- what is kept of all places takes at most 24 words, where each byte takes two
  module _ (h : Homes) (need : Need) (body : ℕ → List AsmItem)
      (each : (place : ℕ) → code_words (body place) ≤ 2 * kept_bytes h place (need place)) where
    kept_of_four : h.width ≡ 4 → (m : ℕ) → code_words (chain body m) ≤ 8 * min m 3
    kept_of_four e zero = omega arith
    kept_of_four e (suc m) =
        let a = kept_of_four e m in let b = each m in let c = kept_next h m (need m) e in
        omega (arith, joined_words (chain body m) (body m), a, b, c)

    kept_most : (h.width ≡ 2) ⊎ (h.width ≡ 4) → (m : ℕ) → m ≤ 6 → code_words (chain body m) ≤ 24
    kept_most (inl e) m l =
        let a = chained_words body m 4 (λ i. let b = each i in let c = kept_few h i (need i) in omega arith) in omega (arith, a)
    kept_most (inr e) m l = let a = kept_of_four e m in omega (arith, a)

  saved_most : (k : Linkage) (need : Need) → (k.homes.width ≡ 2) ⊎ (k.homes.width ≡ 4)
      → code_words (save_code k need) ≤ 24
  saved_most k need w =
      kept_most k.homes need (λ place. save_place k.homes place (need place))
      (λ place. save_words_most (place_register k.homes place) k.homes.scratch (16 * place + 8) (kept_bytes k.homes place (need place)))
      w (register_places k.slots) (omega arith)

  loaded_most : (k : Linkage) (need : Need) → (k.homes.width ≡ 2) ⊎ (k.homes.width ≡ 4)
      → code_words (restore_code k need) ≤ 24
  loaded_most k need w =
      kept_most k.homes need (λ place. restore_place k.homes place (need place))
      (λ place. load_words_most k.homes.scratch (16 * place + 8) (place_register k.homes place) (kept_bytes k.homes place (need place)))
      w (register_places k.slots) (omega arith)

  taken_most : (home : Temp → Location) (to : Option Temp) (need : Need)
      → code_words (taken_code home to (wanted_result need to)) ≤ 5 * temp_bytes to
  taken_most home None need = omega arith
  taken_most home (Some t) need =
      let a = move_words (result_location t.bytes) (home t) (wanted need t) in omega (arith, a)

  pub call_most : (home : Temp → Location) (k : Linkage) (f : ℕ) (to : Option Temp) (need kept : Need)
      → (k.homes.width ≡ 2) ⊎ (k.homes.width ≡ 4)
      → code_words (call_code home k f to (wanted_result need to) kept) ≤ 60 + 5 * temp_bytes to
  call_most home k f to need kept w =
      let a = saved_most k kept w in let b = taken_most home to need in let c = loaded_most k kept w in
      let taken = taken_code home to (wanted_result need to) in
      omega (
        arith,
        joined_words (save_code k kept) (CallTo (k.entry_of f) ∷ (taken ++ restore_code k kept)),
        joined_words (CallTo (k.entry_of f) ∷ []) (taken ++ restore_code k kept),
        joined_words taken (restore_code k kept),
        a,
        b,
        c,
      )

  brought_most : (home : Temp → Location) (is_main : Bool) (from : Option Temp)
      → code_words (result_code home is_main from) ≤ 6 + 5 * temp_bytes from
  brought_most home true None = let a = (laws.values (InRegisters 24) 0 2 2).0 in omega (arith, a)
  brought_most home false None = omega arith
  brought_most home is_main (Some t) =
      let a = move_words (home t) (result_location t.bytes) t.bytes in omega (arith, a)

  pub return_most : (home : Temp → Location) (is_main : Bool) (from : Option Temp)
      → code_words (return_code home is_main from) ≤ 40 + 5 * temp_bytes from
  return_most home is_main from =
      let a = brought_most home is_main from in
      omega (arith, joined_words (result_code home is_main from) (Plain Ret ∷ []), a)
