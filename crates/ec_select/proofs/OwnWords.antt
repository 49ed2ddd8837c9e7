-- The words of an operation's own code, by the numbers that operations count by shapes.
use Rattle.std.proofs.Common.{◌≡◌, ◌⊎◌, ℕ, ◌+◌, ◌-◌, ◌*◌, ◌%◌, ◌<◌, ◌≤◌, Bool, true, false, List, [], ◌∷◌, ◌++◌}
use Rattle.std.proofs.Common.{refl, sym, ap, ◌∙◌, subst, arith, inl, inr, append-nil, leb-false, ℤ}
use Rattle.std.specs.Prelude.{⊤, min, nat_le, ◌&&◌, ◌||◌, not, if◌then◌else◌, Option, Some, None, max}
use Rattle.std.proofs.lemmas.Bool.{false≢true, le-leb}
use Rattle.ec_asm.specs.declared.items.AsmItem.{AsmItem}
use Rattle.ec_asm.specs.declared.pieces.Location.{Location}
use Rattle.ec_asm.specs.declared.pieces.Location.TheVariants.{InRegisters}
use Rattle.ec_asm.specs.declared.pieces.Operator.{Operator}
use Rattle.ec_asm.specs.declared.pieces.Operator.TheVariants.{Sum, Difference}
use Rattle.ec_asm.specs.Items.{code_words}
use Rattle.ec_asm.specs.Pieces.{operate_code, compare_code}
use Rattle.ec_space.specs.declared.Core.{Core}
use Rattle.ec_core.specs.declared.expressions.BinOp.{BinOp}
use Rattle.ec_core.specs.declared.expressions.BinOp.TheVariants.{Add, Sub, Mul, Div, Rem, And, Or, Xor, Lt, Gt, Le, Ge}
use Rattle.ec_core.specs.declared.expressions.BinOp.TheVariants.{Eq, Ne, Shl, Shr}
use Rattle.ec_core.specs.declared.expressions.UnOp.{UnOp}
use Rattle.ec_core.specs.Accesses.{element_size}
use Rattle.ec_core.specs.Layout.{scalar_size}
use Rattle.ec_core.specs.Operators.{same_type}
use Rattle.ec_core.specs.Plain.{PlainType, integer, PlainProgram}
use Rattle.ec_core.specs.Words.{widest, operation_words}
use Rattle.ec_core_shapes.specs.Shapes.{unary_shape, binary_shape, conversion_shape}
use Rattle.ec_fx.specs.declared.numbers.Mode.{Mode}
use Rattle.ec_ir.specs.declared.operations.Temp.{Temp}
use Rattle.ec_ir.specs.Costs.{is_integer, is_bitwise, binary_words, conversion_words}
use Rattle.ec_ir_known.specs.declared.known.RightNumber.{RightNumber}
use Rattle.ec_ir.specs.Temporaries.{low_bytes}
use Rattle.ec_ir_shapes.specs.Costs.{Code, in_line, callable, integer_code, exact_code, are_exact, any_fixed, any_pointer, any_same}
use Rattle.ec_ir_shapes.specs.Costs.{binary_code as counted_binary, unary_code as counted_unary, shape_code}
use Rattle.ec_ir_shapes.specs.Costs.{conversion_code as counted_conversion}
use Rattle.ec_ir_shapes.specs.Costs.{is_fixed as counts_fixed, is_pointer as counts_pointer, has_one_format as counts_format}
use Rattle.ec_select_bytes.specs.Values.{extend_code, widen_code}
use Rattle.ec_select_fixed.proofs.Suits.{operands_suit}
use Rattle.ec_select_order.specs.declared.relations.Relation.{Relation}
use Rattle.ec_select_order.specs.declared.relations.Relation.TheVariants.{Less, NotLess, Equal, NotEqual}
use Rattle.ec_select_order.specs.Relations.{relation_in_code, truth_code}
use Rattle.ec_select_places.specs.Conversions.{embed_code}
use Rattle.ec_select_products.specs.Products.{product_code}
use Rattle.ec_select_shifts.specs.declared.shifts.Direction.{Direction}
use Rattle.ec_select_shifts.specs.declared.shifts.Direction.TheVariants.{Left, Right}
use Rattle.ec_select_shifts.specs.Shifts.{counted_code as turned_by_code}
use Rattle.ec_select_shifts.proofs.Counted.{counted_shifts_have_words}
use Rattle.ec_select_operations.specs.declared.families.Family.TheVariants.{Combined, Compared, Multiplied, Shifted}
use Rattle.ec_select_operations.specs.declared.families.Told.{Told}
use Rattle.ec_select_operations.specs.declared.homes.Homes.{Homes}
use Rattle.ec_select_operations.specs.Bounds.{bound_of, truth_by_code}
use Rattle.ec_select_operations.specs.Code.{counted_by_code, leaves_bit, top_bit_code}
use Rattle.ec_select_operations.specs.Code.{compared_signed, counted_code, move_code, family_of, is_signed, conversion_code, compared_code}
use Rattle.ec_select_operations.specs.Code.{truth_register, truth_at_code}
use Rattle.ec_select_operations.specs.Code.{shift_of, shifted_bytes, turned_code, turn_code, unary_code, flag_code, operator_code}
use Rattle.ec_select_operations.specs.Code.{taking_code, integer_binary, by_kind, fixed_binary, fixed_unary}
use Rattle.ec_select_operations.specs.Code.{bytes_code, known_code}
use Rattle.ec_select_operations.specs.Code.{is_on_integers, is_placed, placed_binary, same_location, answer_code, answer_location}
use Rattle.ec_select_operations.specs.Code.{work_location}
use Rattle.ec_select_operations.specs.Code.{fixed_conversion, keeps_number, is_brought, brought_code, has_one_fraction, is_difference}
use Rattle.ec_select_places.specs.Steps.{z_pair}
use Rattle.ec_select_operations.specs.Code.{pointer_binary, pointer_conversion, offset_code}
use Rattle.ec_select_operations.specs.Emitted.{OfKind}
use Rattle.ec_select_operations.proofs.OneFormat.{one_size}
use Rattle.ec_select_operations.specs.Homes.{home}
use Rattle.ec_select_operations.specs.Needs.{is_fixed, number_known, number_taken, compared_bytes as bytes_compared}
use Rattle.ec_select_operations.specs.Pointers.{is_pointer, is_into_data}
use Rattle.ec_select_fixed.specs.Codes.{fixed_binary_code, fixed_conversion_code}
use Rattle.ec_select_fixed.specs.Types.{format_in}
use Rattle.ec_select_functions.specs.Covered.{AreIntegers, AreCompared, AreFactors, AreShifted, AreDivided, IsBinary, IsFixedBinary}
use Rattle.ec_select_functions.specs.Covered.{IsPointerBinary, IsUnary, IsFixedUnary, AreConverted, IsFixedConversion, IsPointerConversion}
use Rattle.ec_select_functions.proofs.Taken.{compared_few, compared_one}
use Rattle.ec_select.proofs.ByNumber.{masked_words, bounded_words}
use Rattle.ec_select.proofs.CombinedWords.{combined_by_words}
use Rattle.ec_select.proofs.CountedTypes.{on_integers_too, never_exact, some_fixed, some_pointer, fixed_count, pointer_count}
use Rattle.ec_select.proofs.CountedTypes.{same_fixed, no_format, format_of_same}
use Rattle.ec_select.proofs.FixedItems.{own_words as own_kind, others_words as other_kind}
use Rattle.ec_select.proofs.FixedTypes.{type_fixed, either_fixed, no_fixed, no_fixed_operand, none_converted}
use Rattle.ec_select.proofs.OperationWords.{WordLaws, move_words, unless_none, convert_words, shift_most, turn_most, combined_most}
use Rattle.ec_select.proofs.OperationWords.{taking_most, one_unary, one_conversion, fixed_binary_most, pointer_binary_most}
use Rattle.ec_select.proofs.OperationWords.{pointers_most, offset_most, offset_by_most, truth_by_words}
use Rattle.ec_select.proofs.OperationWords.{relation_in_words, indexed_most, top_bit_words}
use Rattle.ec_select.proofs.PointerTypes.{two_pointers, pointers_only, pointer_converted, no_pointer, none_pointed}
use Rattle.ec_select.proofs.Words.{joined_words, operate_words_most}

-- ---- what a shape may have at each use

abbrev pub most_in : Code → ℕ
most_in (in_line own) = own
most_in (callable own call) = own

few_words : (w : ℕ) → 10 * w ≤ operation_words w
few_words w = omega arith

pub wide_binary : (op : BinOp) (ty aty bty : PlainType)
    → binary_words op ty aty bty ≤ operation_words (widest (ty ∷ aty ∷ bty ∷ []))
wide_binary op ty aty bty = by_kind (is_bitwise op && is_integer ty) (widest (ty ∷ aty ∷ bty ∷ [])) where
  by_kind : (few : Bool) (w : ℕ) → (if few then 10 * w else operation_words w) ≤ operation_words w
  by_kind true w = few_words w
  by_kind false w = omega arith

pub wide_conversion : (ty aty : PlainType) → conversion_words ty aty ≤ 100 + 40 * widest (ty ∷ aty ∷ [])
wide_conversion ty aty = by_type (same_type ty aty || (is_integer ty && is_integer aty)) (widest (ty ∷ aty ∷ [])) where
  by_type : (few : Bool) (w : ℕ) → (if few then 10 * w else 100 + 40 * w) ≤ 100 + 40 * w
  by_type true w = omega arith
  by_type false w = omega arith

-- ---- rows of binary operators, unary ones and conversions, by what is told of their types

other_row : (op : BinOp) (exact on_fixed on_pointers : Bool) (w words : ℕ) → exact ≡ false → words ≤ operation_words w
    → (on_pointers ≡ true → words ≤ 64 + 5 * w) → (on_pointers ≡ false → words ≤ most_in (integer_code op w))
    → words ≤ most_in (counted_binary op exact on_fixed on_pointers w)
other_row op true x q w words e wide pointed own = absurd (false≢true (sym e))
other_row op false true q w words e wide pointed own = wide
other_row op false false true w words e wide pointed own = pointed refl
other_row op false false false w words e wide pointed own = own refl

fixed_row : (op : BinOp) (exact on_fixed on_pointers : Bool) (w words : ℕ) → on_fixed ≡ true
    → (exact ≡ true → words ≤ most_in (exact_code op w)) → words ≤ operation_words w
    → words ≤ most_in (counted_binary op exact on_fixed on_pointers w)
fixed_row op true x q w words e exact wide = exact refl
fixed_row op false true q w words e exact wide = wide
fixed_row op false false q w words e exact wide = absurd (false≢true e)

unary_row : (on_fixed : Bool) (w words : ℕ) → words ≤ 60 + 40 * w → (on_fixed ≡ false → words ≤ 6 + 18 * w)
    → words ≤ most_in (counted_unary on_fixed w)
unary_row true w words wide own = wide
unary_row false w words wide own = own refl

conversion_row : (on_fixed on_pointers same : Bool) (bytes w words : ℕ)
    → (on_fixed ≡ true → same ≡ true → words ≤ 4 * w) → (on_fixed ≡ true → words ≤ 100 + 40 * w)
    → (on_fixed ≡ false → on_pointers ≡ true → words ≤ 10 * w)
    → (on_fixed ≡ false → on_pointers ≡ false → words ≤ 4 + 6 * bytes)
    → words ≤ most_in (counted_conversion on_fixed on_pointers same bytes w)
conversion_row true q true bytes w words copied wide pointed own = copied refl refl
conversion_row true q false bytes w words copied wide pointed own = wide refl
conversion_row false true same bytes w words copied wide pointed own = pointed refl refl
conversion_row false false same bytes w words copied wide pointed own = own refl refl

first_code : (x : Bool) (a b : List AsmItem) (most : ℕ) → x ≡ true → code_words a ≤ most
    → code_words (if x then a else b) ≤ most
first_code x a b most e h = rw e h

fewer_than : (up : Bool) (bytes n w : ℕ) → bytes ≤ w → n ≤ w → shifted_bytes up bytes n ≤ w
fewer_than true bytes n w m l = l
fewer_than false bytes n w m l = m

module _ (laws : WordLaws) where
  -- ---- families, whose second operand may be taken as a number

  summed : (taken : Option RightNumber) (telling : Option Told) (op : Operator) (left right : Bool) (p q to : Location)
      (bytes n w : ℕ) → 1 ≤ w → n ≤ w
      → code_words (taking_code taken telling (Combined op) left right p q to bytes n) ≤ 1 + 17 * w
  summed None None op left right p q to bytes n w m l = let x = combined_most laws op p q to n in omega (arith, x, l)
  summed None (Some told) op left right p q to bytes n w m l = omega arith
  summed (Some k) telling op left right p q to bytes n w m l = known k.number telling
    where
      known : (z : Option ℤ) (telling : Option Told)
          → code_words (known_code z telling (Combined op) (compared_signed (Some k) left) p q to
          (bytes_compared (Some k) bytes) n) ≤ 1 + 17 * w
      known None telling =
          let moved = move_code p to n in
          let one = operate_code op q to (min n 1) in
          let x = move_words p to n in
          let y = operate_words_most op q to (min n 1) in
          omega (arith, joined_words moved one, x, y, l)
      known (Some z) None =
          let x = combined_by_words laws.numbers op p to (low_bytes 16 z) n in
          omega (arith, x, l)
      known (Some z) (Some told) =
          let x = masked_words p to (low_bytes 16 z % 256) in omega (arith, x, m)

  -- a truth value of n bytes
  truth_words : (to : Location) (n : ℕ) → code_words (truth_at_code to n) ≤ 8 + 2 * n
  truth_words to n =
      let from = InRegisters (truth_register to) in
      let x = move_words from to (min n 1) in
      let y = (laws.values to 0 1 n).2 false in
      omega (arith, joined_words (move_code from to (min n 1)) (extend_code false to 1 n), x, y)

  order_words : (r : Relation) (signed : Bool) (p q to : Location) (bytes n : ℕ)
      → code_words (compared_code r signed p q to bytes n) ≤ 11 + 5 * bytes + 2 * n
  order_words r signed p q to bytes n =
      let own = relation_in_code (truth_register to) r signed p q bytes in
      let truth = truth_at_code to n in
      let x = relation_in_words laws (truth_register to) r signed p q bytes in
      let y = truth_words to n in
      unless_none n (11 + 5 * bytes + 2 * n) (own ++ truth) (omega (arith, joined_words own truth, x, y))

  flag_words : (r : Relation) (exchanged : Bool) (p q : Location) (bytes : ℕ)
      → code_words (flag_code (Compared r exchanged) p q bytes) ≤ 3 + 5 * bytes
  flag_words r false p q bytes =
      let x = laws.relations r false p q bytes in
      omega (arith, joined_words (compare_code q p bytes) (truth_code r false), x)
  flag_words r true p q bytes =
      let x = laws.relations r false q p bytes in
      omega (arith, joined_words (compare_code p q bytes) (truth_code r false), x)

  ordered_alone : (telling : Option Told) (r : Relation) (exchanged left right : Bool) (p q to : Location) (bytes n : ℕ)
      → code_words (operator_code telling (Compared r exchanged) left right p q to bytes n) ≤ 11 + 5 * bytes + 2 * n
  ordered_alone None r false left right p q to bytes n = order_words r left p q to bytes n
  ordered_alone None r true left right p q to bytes n = order_words r left q p to bytes n
  ordered_alone (Some told) r exchanged left right p q to bytes n =
      let x = flag_words r exchanged p q bytes in omega (arith, x)

  ordered : (taken : Option RightNumber) (telling : Option Told) (r : Relation) (exchanged left right : Bool)
      (p q to : Location) (bytes n : ℕ)
      → code_words (taking_code taken telling (Compared r exchanged) left right p q to bytes n) ≤ 11 + 5 * bytes + 2 * n
  ordered None telling r exchanged left right p q to bytes n =
      let x = ordered_alone telling r exchanged left right p q to bytes n in omega (arith, x)
  ordered (Some k) telling r exchanged left right p q to bytes n = known k.number telling
    where
      compared : ℕ
      compared = bytes_compared (Some k) bytes

      -- by bytes, as without signs
      low : (telling : Option Told) (x : Bool)
          → code_words (bytes_code telling (Compared r x) p q to compared n) ≤ 11 + 5 * compared + 2 * n
      low None false = order_words r false p q to compared n
      low None true = order_words r false q p to compared n
      low (Some told) false = let x = flag_words r false p q compared in omega (arith, x)
      low (Some told) true = let x = flag_words r true p q compared in omega (arith, x)

      known : (z : Option ℤ) (telling : Option Told)
          → code_words (known_code z telling (Compared r exchanged) (compared_signed (Some k) left) p q to compared n)
          ≤ 11 + 5 * bytes + 2 * n
      known None telling = let x = low telling exchanged in let few = compared_few k bytes in omega (arith, x, few)
      known (Some z) None =
          let bound = bound_of r exchanged (compared_signed (Some k) left) compared (low_bytes 16 z) in
          let own = truth_by_code (truth_register to) bound p compared in
          let truth = truth_at_code to n in
          let few = compared_few k bytes in
          let x = truth_by_words laws (truth_register to) bound p compared in
          let y = truth_words to n in
          unless_none n (11 + 5 * bytes + 2 * n) (own ++ truth) (omega (arith, joined_words own truth, x, y, few))
      known (Some z) (Some told) =
          let bound = bound_of r exchanged (compared_signed (Some k) left) compared (low_bytes 16 z) in
          let x = bounded_words laws.numbers laws.values (same_location p to) bound p compared in
          let few = compared_few k bytes in
          omega (arith, x, few)

  multiplied : (taken : Option RightNumber) (telling : Option Told) (left right : Bool) (p q to : Location) (bytes n : ℕ)
      → code_words (taking_code taken telling Multiplied left right p q to bytes n) ≤ 9 + 2 * n + 4 * bytes
  multiplied None None left right p q to bytes n =
      let x = unless_none n (9 + 2 * n) (product_code left right p q to n) (laws.products left right p q to n) in
      omega (arith, x)
  multiplied None (Some told) left right p q to bytes n = omega arith
  multiplied (Some k) telling left right p q to bytes n = known k.number telling
    where
      known : (z : Option ℤ) (telling : Option Told)
          → code_words (known_code z telling Multiplied (compared_signed (Some k) left) p q to
          (bytes_compared (Some k) bytes) n) ≤ 9 + 2 * n + 4 * bytes
      known None telling = omega arith
      known (Some z) None = omega arith
      known (Some z) (Some told) = omega arith

  counted_words : (s : Direction) (p to : Location) (n k : ℕ) → code_words (counted_code s p to n k) ≤ 7 + 11 * n
  counted_words s p to n k =
      let x = move_words p to n in
      let y = counted_shifts_have_words s to n k in
      omega (arith, joined_words (move_code p to n) (turned_by_code s to n k), x, y)

  -- where fewer bytes are shifted than are needed, it is one
  counted_by_words : (up signed : Bool) (p to : Location) (bytes n w k : ℕ) → bytes ≤ w → n ≤ w → (bytes < n → bytes ≤ 1)
      → code_words (counted_by_code up signed p to bytes n k) ≤ 7 + 11 * w
  counted_by_words true signed p to bytes n w k m l few = let x = counted_words Left p to n k in omega (arith, x, l)
  counted_by_words false signed p to bytes n w k m l few = by_bit (leaves_bit signed to bytes n k)
    where
      first : List AsmItem
      first = counted_code (Right signed) p to bytes k

      by_bytes : (b : Bool) → nat_le n bytes ≡ b
          → code_words (first ++ (if b then [] else widen_code false to bytes (n - bytes))) ≤ 7 + 11 * w
      by_bytes true q =
          let x = counted_words (Right signed) p to bytes k in
          subst (λ (c : List AsmItem). code_words c ≤ 7 + 11 * w) (sym (append-nil first)) (omega (arith, x, m))
      by_bytes false q =
          let more : bytes < n = leb-false n bytes q in
          let one = few more in
          let second = extend_code false to bytes n in
          let x = counted_words (Right signed) p to bytes k in
          let y = (laws.values to 0 bytes n).2 false in
          subst (λ (b : Bool). code_words (first ++ (if b then [] else widen_code false to bytes (n - bytes))) ≤ 7 + 11 * w) q
          (omega (arith, joined_words first second, x, y, more, one, l))

      by_bit : (b : Bool)
          → code_words (if b then move_code p to bytes ++ top_bit_code to bytes
          else counted_code (Right signed) p to bytes k ++ extend_code false to bytes n) ≤ 7 + 11 * w
      by_bit true =
          let x = move_words p to bytes in
          let y = top_bit_words laws to bytes in
          omega (arith, joined_words (move_code p to bytes) (top_bit_code to bytes), x, y, m)
      by_bit false = by_bytes (nat_le n bytes) refl

  shifted : (taken : Option RightNumber) (telling : Option Told) (up left right : Bool) (p q to : Location)
      (bytes n w : ℕ) → bytes ≤ w → n ≤ w → n ≤ bytes
      → code_words (taking_code taken telling (Shifted up) left right p q to bytes n) ≤ 7 + 11 * w
  shifted None None up left right p q to bytes n w m l few =
      let s = shift_of up left in
      let moved = shifted_bytes up bytes n in
      let fewer = fewer_than up bytes n w m l in
      let x = shift_most laws s p q to moved in
      unless_none n (7 + 11 * w) (turned_code s p q to moved) (omega (arith, x, fewer))
  shifted None (Some told) up left right p q to bytes n w m l few = omega arith
  shifted (Some k) telling up left right p q to bytes n w m l few = known k.number telling
    where
      known : (z : Option ℤ) (telling : Option Told)
          → code_words (known_code z telling (Shifted up) (compared_signed (Some k) left) p q to
          (bytes_compared (Some k) bytes) n) ≤ 7 + 11 * w
      known None telling = omega arith
      known (Some z) None =
          let moved = bytes_compared (Some k) bytes in
          let signed = compared_signed (Some k) left in
          let count = low_bytes 16 z % 256 in
          let fewer = compared_few k bytes in
          unless_none n (7 + 11 * w) (counted_by_code up signed p to moved n count)
          (counted_by_words up signed p to moved n w count (omega (arith, fewer, m)) l (compared_one k bytes n few))
      known (Some z) (Some told) = omega arith

  -- ---- operators on integers, whose result has the bytes of its type

  module _ (known : Option RightNumber) (telling : Option Told) (slots : ℕ) (h : Homes) (to a b : Temp) (ty aty bty : PlainType)
      (left right : Bool) (n : ℕ) (size : to.bytes ≡ scalar_size ty) (few : n ≤ to.bytes) where
    abbrev wide : ℕ
    wide = widest (ty ∷ aty ∷ bty ∷ [])

    -- the words of the code of an operator
    abbrev code_of : BinOp → ℕ
    code_of op = code_words (integer_binary known telling op left right (home h a) (home h b) (home h to) a.bytes n)

    sum_own : (op : BinOp) (o : Operator) → family_of op ≡ Combined o → AreIntegers slots to a b ty aty bty
        → code_of op ≤ 1 + 17 * wide
    sum_own op o e i =
        let x = summed (number_taken known false op) telling o left right (home h a) (home h b) (home h to) a.bytes n wide
        (omega arith) (omega (arith, size, few)) in
        subst (λ f. code_words (taking_code (number_taken known false op) telling f left right (home h a) (home h b) (home h to)
        a.bytes n) ≤ 1 + 17 * wide) (sym e) x

    order_own : (op : BinOp) (r : Relation) (exchanged : Bool) → family_of op ≡ Compared r exchanged
        → AreCompared slots to a b aty bty → code_of op ≤ 11 + 5 * a.bytes + 2 * n
    order_own op r exchanged e i =
        subst (λ f. code_words (taking_code (number_taken known false op) telling f left right (home h a) (home h b) (home h to)
        a.bytes n) ≤ 11 + 5 * a.bytes + 2 * n) (sym e)
        (ordered (number_taken known false op) telling r exchanged left right (home h a) (home h b) (home h to) a.bytes n)

    -- in the row of an integer operator, and where the type of the result is that of a pointer, in the row of pointers
    order_most : (op : BinOp) (r : Relation) (exchanged : Bool) → family_of op ≡ Compared r exchanged
        → AreCompared slots to a b aty bty → code_of op ≤ 6 + 18 * wide
    order_most op r exchanged e i =
        let x = order_own op r exchanged e i in
        let w : scalar_size aty ≡ a.bytes = ap scalar_size i.left_type in
        omega (arith, x, w, size, few)

    order_pointed : (op : BinOp) (r : Relation) (exchanged : Bool) → family_of op ≡ Compared r exchanged
        → AreCompared slots to a b aty bty → code_of op ≤ 64 + 5 * wide
    order_pointed op r exchanged e i =
        let x = order_own op r exchanged e i in
        let w : scalar_size aty ≡ a.bytes = ap scalar_size i.left_type in
        let m = i.left.most in
        let k = i.result.most in
        omega (arith, x, w, m, k, few)

    shift_own : (op : BinOp) (up : Bool) → family_of op ≡ Shifted up → AreShifted slots to a b ty aty bty
        → code_of op ≤ 7 + 11 * wide
    shift_own op up e i =
        let same = i.same_bytes in
        let x = shifted (number_taken known false op) telling up left right (home h a) (home h b) (home h to) a.bytes n wide
        (omega (arith, same, size)) (omega (arith, size, few)) (omega (arith, same, few)) in
        subst (λ f. code_words (taking_code (number_taken known false op) telling f left right (home h a) (home h b) (home h to)
        a.bytes n) ≤ 7 + 11 * wide) (sym e) x

    product_own : AreFactors slots to a b ty aty bty → code_of Mul ≤ 6 + 18 * wide
    product_own i =
        let x = multiplied (number_taken known false Mul) telling left right (home h a) (home h b) (home h to) a.bytes n in
        let one = i.left_bytes in
        omega (arith, x, one, size, few)

    in_type : (op : BinOp) → IsBinary (family_of op) slots to a b ty aty bty → (is_bitwise op ≡ true → to.at ≡ a.at)
        → code_of op ≤ binary_words op ty aty bty
    in_type op i same = taking_most laws known telling op slots h to a b ty aty bty left right n i few same

    bitwise_is : (op : BinOp) (signed : Bool) → is_bitwise op ≡ true → ty ≡ integer signed to.bytes
        → binary_words op ty aty bty ≡ 10 * wide
    bitwise_is op signed q e = rw (q, e) refl

    integer_most : (op : BinOp) → IsBinary (family_of op) slots to a b ty aty bty → (is_bitwise op ≡ true → to.at ≡ a.at)
        → code_of op ≤ most_in (integer_code op wide)
    integer_most Add i same = let x = sum_own Add Sum refl i in omega (arith, x)
    integer_most Sub i same = let x = sum_own Sub Difference refl i in omega (arith, x)
    integer_most Mul i same = product_own i
    integer_most Div i same = in_type Div i same
    integer_most Rem i same = in_type Rem i same
    integer_most And i same = let x = in_type And i same in let e = bitwise_is And i.signed refl i.result_type in omega (arith, x, e)
    integer_most Or i same = let x = in_type Or i same in let e = bitwise_is Or i.signed refl i.result_type in omega (arith, x, e)
    integer_most Xor i same = let x = in_type Xor i same in let e = bitwise_is Xor i.signed refl i.result_type in omega (arith, x, e)
    integer_most Lt i same = order_most Lt Less false refl i
    integer_most Gt i same = order_most Gt Less true refl i
    integer_most Le i same = order_most Le NotLess true refl i
    integer_most Ge i same = order_most Ge NotLess false refl i
    integer_most Eq i same = order_most Eq Equal false refl i
    integer_most Ne i same = order_most Ne NotEqual false refl i
    integer_most Shl i same = let x = shift_own Shl true refl i.0 in omega (arith, x)
    integer_most Shr i same = let x = shift_own Shr false refl i.0 in omega (arith, x)

    -- no type is a pointer, but for the result of a comparison, of which nothing is told
    abbrev some_pointed : Bool
    some_pointed = counts_pointer ty || any_pointer (aty ∷ bty ∷ [])

    three_integers : (s u v : Bool) (i j k : ℕ) → ty ≡ integer s i → aty ≡ integer u j → bty ≡ integer v k → some_pointed ≡ true → ⊥
    three_integers s u v i j k e f g q = let none : some_pointed ≡ false = rw (e, f, g) refl in false≢true (sym none ∙ q)

    no_sum : AreIntegers slots to a b ty aty bty → some_pointed ≡ true → ⊥
    no_sum i q =
        three_integers i.signed i.left_signed i.right_signed to.bytes a.bytes b.bytes i.result_type i.left_type i.right_type q

    no_product : AreFactors slots to a b ty aty bty → some_pointed ≡ true → ⊥
    no_product i q = three_integers i.signed i.left_signed i.right_signed 2 1 1 i.result_type i.left_type i.right_type q

    no_shift : AreShifted slots to a b ty aty bty → some_pointed ≡ true → ⊥
    no_shift i q = three_integers i.signed i.signed i.count_signed to.bytes a.bytes b.bytes i.result_type i.left_type i.count_type q

    no_quotient : AreDivided slots to a b ty aty bty → some_pointed ≡ true → ⊥
    no_quotient i q = three_integers i.signed i.signed i.signed to.bytes a.bytes b.bytes i.result_type i.left_type i.right_type q

    integer_pointed : (op : BinOp) → IsBinary (family_of op) slots to a b ty aty bty → some_pointed ≡ true
        → code_of op ≤ 64 + 5 * wide
    integer_pointed Add i q = absurd (no_sum i q)
    integer_pointed Sub i q = absurd (no_sum i q)
    integer_pointed And i q = absurd (no_sum i q)
    integer_pointed Or i q = absurd (no_sum i q)
    integer_pointed Xor i q = absurd (no_sum i q)
    integer_pointed Mul i q = absurd (no_product i q)
    integer_pointed Div i q = absurd (no_quotient i.0 q)
    integer_pointed Rem i q = absurd (no_quotient i.0 q)
    integer_pointed Shl i q = absurd (no_shift i.0 q)
    integer_pointed Shr i q = absurd (no_shift i.0 q)
    integer_pointed Lt i q = order_pointed Lt Less false refl i
    integer_pointed Gt i q = order_pointed Gt Less true refl i
    integer_pointed Le i q = order_pointed Le NotLess true refl i
    integer_pointed Ge i q = order_pointed Ge NotLess false refl i
    integer_pointed Eq i q = order_pointed Eq Equal false refl i
    integer_pointed Ne i q = order_pointed Ne NotEqual false refl i

    integer_row : (op : BinOp) (mode : Mode) → IsBinary (family_of op) slots to a b ty aty bty
        → (is_bitwise op ≡ true → to.at ≡ a.at) → code_of op ≤ most_in (shape_code (binary_shape op ty mode aty bty))
    integer_row op mode i same =
        let x = in_type op i same in let y = wide_binary op ty aty bty in
        other_row op (are_exact op mode ty (aty ∷ bty ∷ [])) (counts_fixed ty || any_fixed (aty ∷ bty ∷ [])) some_pointed wide (code_of op)
        (never_exact op mode ty aty bty (no_fixed (family_of op) slots to a b ty aty bty i)) (omega (arith, x, y))
        (integer_pointed op i) (λ q. integer_most op i same)

  -- ---- operators with a fixed-point operand

  module _ (known : Option RightNumber) (telling : Option Told) (mode : Mode) (slots : ℕ) (h : Homes) (to a b : Temp)
      (ty aty bty : PlainType) (n : ℕ) where
    -- so many words has an operator on integers
    abbrev same_words : BinOp → ℕ
    same_words op =
        code_words (integer_binary known telling op (is_signed aty) (is_signed bty) (home h a) (home h b) (home h to) a.bytes n)

    exact_sum : (op : BinOp) (o : Operator) → family_of op ≡ Combined o → IsFixedBinary slots op to a b ty aty bty → n ≤ to.bytes
        → same_words op ≤ 1 + 17 * widest (ty ∷ aty ∷ bty ∷ [])
    exact_sum op o e i l =
        let v = i.result_bytes in
        let x = summed (number_taken known false op) telling o (is_signed aty) (is_signed bty) (home h a) (home h b) (home h to) a.bytes n
        (widest (ty ∷ aty ∷ bty ∷ [])) (omega arith) (omega (arith, v, l)) in
        subst (λ f. code_words (taking_code (number_taken known false op) telling f (is_signed aty) (is_signed bty) (home h a) (home h b)
        (home h to) a.bytes n) ≤ 1 + 17 * widest (ty ∷ aty ∷ bty ∷ [])) (sym e) x

    exact_order : (op : BinOp) (r : Relation) (exchanged : Bool) → family_of op ≡ Compared r exchanged
        → IsFixedBinary slots op to a b ty aty bty → ty ≡ integer true 2 → n ≤ to.bytes
        → same_words op ≤ 19 + 5 * widest (ty ∷ aty ∷ bty ∷ [])
    exact_order op r exchanged e i int l =
        let u = i.left_bytes in
        let v = i.result_bytes in
        let two : scalar_size ty ≡ 2 = ap scalar_size int in
        let y = ordered (number_taken known false op) telling r exchanged (is_signed aty) (is_signed bty) (home h a) (home h b) (home h to)
        a.bytes n in
        let x = subst (λ f. code_words (taking_code (number_taken known false op) telling f (is_signed aty) (is_signed bty) (home h a)
        (home h b) (home h to) a.bytes n) ≤ 11 + 5 * a.bytes + 2 * n) (sym e) y in
        omega (arith, x, u, v, two, l)

    exact_own : (op : BinOp) → IsFixedBinary slots op to a b ty aty bty → n ≤ to.bytes → are_exact op mode ty (aty ∷ bty ∷ []) ≡ true
        → same_words op ≤ most_in (exact_code op (widest (ty ∷ aty ∷ bty ∷ [])))
    exact_own Add i l q = exact_sum Add Sum refl i l
    exact_own Sub i l q = exact_sum Sub Difference refl i l
    exact_own Lt i l q = exact_order Lt Less false refl i (operands_suit Lt ty aty bty i.types).result l
    exact_own Gt i l q = exact_order Gt Less true refl i (operands_suit Gt ty aty bty i.types).result l
    exact_own Le i l q = exact_order Le NotLess true refl i (operands_suit Le ty aty bty i.types).result l
    exact_own Ge i l q = exact_order Ge NotLess false refl i (operands_suit Ge ty aty bty i.types).result l
    exact_own Eq i l q = exact_order Eq Equal false refl i (operands_suit Eq ty aty bty i.types).result l
    exact_own Ne i l q = exact_order Ne NotEqual false refl i (operands_suit Ne ty aty bty i.types).result l
    exact_own Mul i l q = absurd (no_format (counts_format aty bty) q)
    exact_own Div i l q = absurd (no_format (counts_format aty bty) q)
    exact_own Rem i l q = absurd (no_format (counts_format aty bty) q)
    exact_own And i l q = absurd (no_format (counts_format aty bty) q)
    exact_own Or i l q = absurd (no_format (counts_format aty bty) q)
    exact_own Xor i l q = absurd (no_format (counts_format aty bty) q)
    exact_own Shl i l q = absurd (no_format (counts_format aty bty) q)
    exact_own Shr i l q = absurd (no_format (counts_format aty bty) q)

    fixed_binary_row : (op : BinOp) → IsFixedBinary slots op to a b ty aty bty → n ≤ to.bytes
        → code_words (fixed_binary known telling op ty aty bty mode (home h a) (home h b) (home h to) a.bytes n)
        ≤ most_in (shape_code (binary_shape op ty mode aty bty))
    fixed_binary_row op i l =
        let wide = widest (ty ∷ aty ∷ bty ∷ []) in
        let whole = integer_binary known telling op (is_signed aty) (is_signed bty) (home h a) (home h b) (home h to) a.bytes n in
        let others = if is_placed op mode ty aty bty && not (same_location (home h b) (home h to))
        then placed_binary known op (is_signed aty) (home h a) (home h b) (home h to) a.bytes n
        else answer_code (fixed_binary_code op ty aty bty mode (home h a) (home h b) answer_location work_location) (home h to) n in
        let code = fixed_binary known telling op ty aty bty mode (home h a) (home h b) (home h to) a.bytes n in
        let x = fixed_binary_most laws known telling op ty aty bty mode slots h to a b n i l in
        let y = wide_binary op ty aty bty in
        fixed_row op (are_exact op mode ty (aty ∷ bty ∷ [])) (counts_fixed ty || any_fixed (aty ∷ bty ∷ []))
        (counts_pointer ty || any_pointer (aty ∷ bty ∷ [])) wide (code_words code)
        (some_fixed ty aty bty (either_fixed aty bty i.types.fixed))
        (λ e. first_code (is_on_integers (family_of op) mode ty aty bty) whole others (most_in (exact_code op wide))
        (on_integers_too op mode ty aty bty e) (exact_own op i l e))
        (omega (arith, x, y))

  -- ---- operators with a pointer

  pointer_few : (known : Option RightNumber) (telling : Option Told) (core : Core) (p : PlainProgram) (op : BinOp) (slots : ℕ)
      (h : Homes) (to a b : Temp) (ty aty bty : PlainType)
      (n : ℕ) → IsPointerBinary p slots op to a b ty aty bty → n ≤ to.bytes
      → code_words (pointer_binary known telling core (is_pointer aty) (is_pointer bty) p op aty bty (home h a) (home h b) (home h to)
      a.bytes b.bytes n) ≤ 64 + 5 * widest (ty ∷ aty ∷ bty ∷ [])
  pointer_few known telling core p op slots h to a b ty aty bty n i l = by_kinds (is_pointer aty) (is_pointer bty) refl refl where
    by_kinds : (x y : Bool) → is_pointer aty ≡ x → is_pointer bty ≡ y
        → code_words (pointer_binary known telling core x y p op aty bty (home h a) (home h b) (home h to) a.bytes b.bytes n)
        ≤ 64 + 5 * widest (ty ∷ aty ∷ bty ∷ [])
    by_kinds true true d e =
        let t = (two_pointers op ty aty bty d e i.types).some in let u = i.left_bytes in let few = i.result.most in
        let m = pointers_most laws telling core (family_of op) (home h a) (home h b) (home h to) a.bytes (element_size p aty) n
        (omega (arith, t, u)) (omega (arith, few, l)) in
        omega (arith, m, u)
    by_kinds true false d e =
        let m = offset_by_most laws (number_known known) core (is_difference op) (is_signed bty) (home h a) (home h b) (home h to)
        (max 2 n) b.bytes (element_size p aty) n in
        let w = i.result_bytes in omega (arith, m, w, l)
    by_kinds false true d e =
        let m = offset_most laws core false (is_signed aty) (home h b) (home h a) (home h to) (max 2 n) a.bytes (element_size p bty) n in
        let w = i.result_bytes in omega (arith, m, w, l)
    by_kinds false false d e = omega arith

  pointer_row : (known : Option RightNumber) (telling : Option Told) (core : Core) (p : PlainProgram) (op : BinOp) (mode : Mode)
      (slots : ℕ) (h : Homes) (to a b : Temp) (ty aty bty : PlainType)
      (n : ℕ) → IsPointerBinary p slots op to a b ty aty bty → n ≤ to.bytes
      → code_words (pointer_binary known telling core (is_pointer aty) (is_pointer bty) p op aty bty (home h a) (home h b) (home h to)
      a.bytes b.bytes n) ≤ most_in (shape_code (binary_shape op ty mode aty bty))
  pointer_row known telling core p op mode slots h to a b ty aty bty n i l =
      let wide = widest (ty ∷ aty ∷ bty ∷ []) in
      let code = pointer_binary known telling core (is_pointer aty) (is_pointer bty) p op aty bty (home h a) (home h b)
      (home h to) a.bytes b.bytes n in
      let x = pointer_binary_most laws known telling core p op slots h to a b ty aty bty n i l in
      let y = wide_binary op ty aty bty in
      other_row op (are_exact op mode ty (aty ∷ bty ∷ [])) (counts_fixed ty || any_fixed (aty ∷ bty ∷ []))
      (counts_pointer ty || any_pointer (aty ∷ bty ∷ [])) wide (code_words code)
      (never_exact op mode ty aty bty (pointers_only op ty aty bty i.pointer i.types).0) (omega (arith, x, y))
      (λ q. pointer_few known telling core p op slots h to a b ty aty bty n i l)
      (λ q. absurd (false≢true (sym q ∙ some_pointer ty aty bty i.pointer)))

  -- a pointer that is moved by an index which is told
  pub indexed_row : (core : Core) (p : PlainProgram) (op : BinOp) (mode : Mode) (slots : ℕ) (h : Homes) (to a b : Temp)
      (ty aty bty : PlainType) (n : ℕ) → IsPointerBinary p slots op to a b ty aty bty → n ≤ to.bytes
      → code_words (offset_code core (is_difference op) (is_signed bty) (home h a) z_pair (home h to) (max 2 n) b.bytes
      (element_size p aty) n)
      ≤ most_in (shape_code (binary_shape op ty mode aty bty))
  indexed_row core p op mode slots h to a b ty aty bty n i l =
      let wide = widest (ty ∷ aty ∷ bty ∷ []) in
      let code = offset_code core (is_difference op) (is_signed bty) (home h a) z_pair (home h to) (max 2 n) b.bytes
      (element_size p aty) n in
      let x = indexed_most laws core p op slots h to a b ty aty bty n i l in
      let y = wide_binary op ty aty bty in
      let m = offset_most laws core (is_difference op) (is_signed bty) (home h a) z_pair (home h to) (max 2 n) b.bytes
      (element_size p aty) n in
      let w = i.result_bytes in
      other_row op (are_exact op mode ty (aty ∷ bty ∷ [])) (counts_fixed ty || any_fixed (aty ∷ bty ∷ []))
      (counts_pointer ty || any_pointer (aty ∷ bty ∷ [])) wide (code_words code)
      (never_exact op mode ty aty bty (pointers_only op ty aty bty i.pointer i.types).0) (omega (arith, x, y))
      (λ q. omega (arith, m, w, l))
      (λ q. absurd (false≢true (sym q ∙ some_pointer ty aty bty i.pointer)))

  -- ---- binary operators, unary ones and conversions

  pub binary_own : (core : Core) (p : PlainProgram) (known : Option RightNumber) (telling : Option Told) (op : BinOp)
      (ty aty bty : PlainType)
      (mode : Mode) (slots : ℕ) (h : Homes) (to a b : Temp) (n : ℕ)
      → IsBinary (family_of op) slots to a b ty aty bty
      ⊎ (IsFixedBinary slots op to a b ty aty bty ⊎ IsPointerBinary p slots op to a b ty aty bty)
      → to.bytes ≡ scalar_size ty → n ≤ to.bytes
      → OfKind (is_fixed aty || is_fixed bty) ⊤ (is_bitwise op ≡ true → to.at ≡ a.at)
      → code_words (by_kind (is_fixed aty || is_fixed bty)
      (fixed_binary known telling op ty aty bty mode (home h a) (home h b) (home h to) a.bytes n)
      (by_kind (is_pointer aty || is_pointer bty)
      (pointer_binary known telling core (is_pointer aty) (is_pointer bty) p op aty bty (home h a) (home h b) (home h to) a.bytes b.bytes n)
      (integer_binary known telling op (is_signed aty) (is_signed bty) (home h a) (home h b) (home h to) a.bytes n)))
      ≤ most_in (shape_code (binary_shape op ty mode aty bty))
  binary_own core p known telling op ty aty bty mode slots h to a b n (inl i) size l q =
      let own = fixed_binary known telling op ty aty bty mode (home h a) (home h b) (home h to) a.bytes n in
      let pointed = pointer_binary known telling core (is_pointer aty) (is_pointer bty) p op aty bty (home h a) (home h b) (home h to)
      a.bytes b.bytes n in
      let usual = integer_binary known telling op (is_signed aty) (is_signed bty) (home h a) (home h b) (home h to) a.bytes n in
      let most = most_in (shape_code (binary_shape op ty mode aty bty)) in
      let e = no_fixed (family_of op) slots to a b ty aty bty i in
      let same = subst (λ (k : Bool). OfKind k ⊤ (is_bitwise op ≡ true → to.at ≡ a.at)) e q in
      other_kind (is_fixed aty || is_fixed bty) own (by_kind (is_pointer aty || is_pointer bty) pointed usual) most e
      (other_kind (is_pointer aty || is_pointer bty) pointed usual most (no_pointer (family_of op) slots to a b ty aty bty i)
      (integer_row known telling slots h to a b ty aty bty (is_signed aty) (is_signed bty) n size l op mode i same))
  binary_own core p known telling op ty aty bty mode slots h to a b n (inr (inl i)) size l q =
      let own = fixed_binary known telling op ty aty bty mode (home h a) (home h b) (home h to) a.bytes n in
      let pointed = pointer_binary known telling core (is_pointer aty) (is_pointer bty) p op aty bty (home h a) (home h b) (home h to)
      a.bytes b.bytes n in
      let usual = integer_binary known telling op (is_signed aty) (is_signed bty) (home h a) (home h b) (home h to) a.bytes n in
      let most = most_in (shape_code (binary_shape op ty mode aty bty)) in
      own_kind (is_fixed aty || is_fixed bty) own (by_kind (is_pointer aty || is_pointer bty) pointed usual) most
      (either_fixed aty bty i.types.fixed) (fixed_binary_row known telling mode slots h to a b ty aty bty n op i l)
  binary_own core p known telling op ty aty bty mode slots h to a b n (inr (inr i)) size l q =
      let own = fixed_binary known telling op ty aty bty mode (home h a) (home h b) (home h to) a.bytes n in
      let pointed = pointer_binary known telling core (is_pointer aty) (is_pointer bty) p op aty bty (home h a) (home h b) (home h to)
      a.bytes b.bytes n in
      let usual = integer_binary known telling op (is_signed aty) (is_signed bty) (home h a) (home h b) (home h to) a.bytes n in
      let most = most_in (shape_code (binary_shape op ty mode aty bty)) in
      other_kind (is_fixed aty || is_fixed bty) own (by_kind (is_pointer aty || is_pointer bty) pointed usual) most
      (pointers_only op ty aty bty i.pointer i.types).0
      (own_kind (is_pointer aty || is_pointer bty) pointed usual most i.pointer
      (pointer_row known telling core p op mode slots h to a b ty aty bty n i l))

  pub unary_own : (op : UnOp) (ty : PlainType) (mode : Mode) (slots : ℕ) (h : Homes) (to a : Temp) (n : ℕ)
      → IsUnary slots to a ty ⊎ IsFixedUnary slots op to a ty → n ≤ to.bytes
      → code_words (by_kind (is_fixed ty) (fixed_unary op ty mode (home h a) (home h to) n) (unary_code op (home h a) (home h to) n))
      ≤ most_in (shape_code (unary_shape op ty mode ty))
  unary_own op ty mode slots h to a n i l =
      let own = fixed_unary op ty mode (home h a) (home h to) n in
      let usual = unary_code op (home h a) (home h to) n in
      let x = one_unary laws op ty mode slots h to a n i l in
      unary_row (counts_fixed ty) (widest (ty ∷ ty ∷ [])) (code_words (by_kind (is_fixed ty) own usual)) (omega (arith, x))
      (λ q. of_integers i q)
    where
      of_integers : IsUnary slots to a ty ⊎ IsFixedUnary slots op to a ty → counts_fixed ty ≡ false
          → code_words (by_kind (is_fixed ty) (fixed_unary op ty mode (home h a) (home h to) n) (unary_code op (home h a) (home h to) n))
          ≤ 6 + 18 * widest (ty ∷ ty ∷ [])
      of_integers (inl i) q =
          let own = fixed_unary op ty mode (home h a) (home h to) n in
          let usual = unary_code op (home h a) (home h to) n in
          let x = move_words (home h a) (home h to) n in
          let y = turn_most laws op (home h to) n in
          let w : scalar_size ty ≡ to.bytes = ap scalar_size i.result_type in
          other_kind (is_fixed ty) own usual (6 + 18 * widest (ty ∷ ty ∷ [])) (no_fixed_operand slots to a ty i)
          (omega (arith, joined_words (move_code (home h a) (home h to) n) (turn_code op (home h to) n), x, y, w, l))
      of_integers (inr i) q = absurd (false≢true (sym q ∙ (same_fixed ty ∙ type_fixed ty i.types.fixed)))

  -- bytes that are cut alone are copied
  kept_few : (signed : Bool) (p q : Location) (bytes n : ℕ) → n ≤ bytes
      → code_words (conversion_code signed p q bytes n) ≤ 4 * n
  kept_few signed p q bytes n l =
      let x = move_words p q (min n bytes) in
      let t : nat_le n bytes ≡ true = le-leb n bytes l in
      let none : code_words (extend_code signed q bytes n) ≡ 0 = rw t refl in
      omega (arith, joined_words (move_code p q (min n bytes)) (extend_code signed q bytes n), x, none)

  pointer_conversion_few : (slots : ℕ) (h : Homes) (to a : Temp) (ty aty : PlainType) (n : ℕ)
      → IsPointerConversion slots to a ty aty → n ≤ to.bytes
      → code_words (pointer_conversion aty (home h a) (home h to) a.bytes n) ≤ 10 * widest (ty ∷ aty ∷ [])
  pointer_conversion_few slots h to a ty aty n i l =
      let x = move_words (home h a) (home h to) (min n a.bytes) in let w = i.result_bytes in
      let z = by_bytes (nat_le n a.bytes) refl in
      omega (arith, joined_words (move_code (home h a) (home h to) (min n a.bytes)) (behind (nat_le n a.bytes)), x, z, w, l)
    where
      behind : (few : Bool) → List AsmItem
      behind few = if few then [] else embed_code (is_into_data aty) (home h to)

      by_bytes : (few : Bool) → nat_le n a.bytes ≡ few → code_words (behind few) + 4 * min n a.bytes ≤ 10 * n
      by_bytes true e = omega arith
      by_bytes false e =
          let more = leb-false n a.bytes e in
          let x = (laws.conversions (is_into_data aty) (home h to) (home h to)).0.words_are in omega (arith, x, more)

  module _ (ty aty : PlainType) (mode : Mode) (slots : ℕ) (h : Homes) (to a : Temp) (n : ℕ) where
    abbrev pub Converts : Type 0
    Converts = AreConverted slots to a ty aty ⊎ (IsFixedConversion slots to a ty aty ⊎ IsPointerConversion slots to a ty aty)

    abbrev pub by_fixed : List AsmItem
    by_fixed = fixed_conversion ty aty mode (home h a) (home h to) a.bytes n

    abbrev pub by_pointer : List AsmItem
    by_pointer = pointer_conversion aty (home h a) (home h to) a.bytes n

    abbrev pub by_integer : List AsmItem
    by_integer = conversion_code (is_signed aty) (home h a) (home h to) a.bytes n

    abbrev pub converts : List AsmItem
    converts = by_kind (is_fixed ty || is_fixed aty) by_fixed (by_kind (is_pointer aty) by_pointer by_integer)

    abbrev pub wide_two : ℕ
    wide_two = widest (ty ∷ aty ∷ [])

    abbrev pub counts_fixed_two : Bool
    counts_fixed_two = counts_fixed ty || any_fixed (aty ∷ [])

    abbrev pub counts_pointer_two : Bool
    counts_pointer_two = counts_pointer ty || any_pointer (aty ∷ [])

    no_fixed_two : (is_fixed ty || is_fixed aty) ≡ false → counts_fixed_two ≡ true → ⊥
    no_fixed_two e f = false≢true (sym (fixed_count ty aty ∙ e) ∙ f)

    fixed_two : (is_fixed ty || is_fixed aty) ≡ true → counts_fixed_two ≡ false → ⊥
    fixed_two e f = false≢true (sym f ∙ (fixed_count ty aty ∙ e))

    pointer_none : AreConverted slots to a ty aty → counts_pointer_two ≡ true → ⊥
    pointer_none i q =
        let none : counts_pointer_two ≡ false = rw (i.result_type, i.from_type) refl in false≢true (sym none ∙ q)

    copied_most : Converts → n ≤ to.bytes → counts_fixed_two ≡ true → any_same ty (aty ∷ []) ≡ true
        → code_words converts ≤ 4 * wide_two
    copied_most (inl i) l f s = absurd (no_fixed_two (none_converted slots to a ty aty i) f)
    copied_most (inr (inr i)) l f s = absurd (no_fixed_two (pointer_converted ty aty i.pointer i.types).no_fixed f)
    copied_most (inr (inl i)) l f s =
        let either = either_fixed ty aty i.types.fixed in
        let one = format_of_same ty aty s either in
        let size = one_size ty aty one in
        let keeps : keeps_number ty aty mode ≡ true = ap (λ x. x || (has_one_fraction ty aty && not mode.saturate)) one in
        let u = i.from_bytes in
        let v = i.result_bytes in
        let others = if is_brought ty aty mode
        then brought_code (is_signed aty) (home h a) (home h to) (scalar_size aty) (scalar_size ty) (format_in aty).frac
        (format_in ty).frac n
        else answer_code (fixed_conversion_code ty aty mode (home h a) answer_location work_location) (home h to) n in
        let x = kept_few (is_signed aty) (home h a) (home h to) a.bytes n (omega (arith, size, u, v, l)) in
        own_kind (is_fixed ty || is_fixed aty) by_fixed (by_kind (is_pointer aty) by_pointer by_integer) (4 * wide_two) either
        (first_code (keeps_number ty aty mode) by_integer others (4 * wide_two) keeps (omega (arith, x, v, l)))

    pointed_most : Converts → n ≤ to.bytes → counts_fixed_two ≡ false → counts_pointer_two ≡ true
        → code_words converts ≤ 10 * wide_two
    pointed_most (inl i) l f q = absurd (pointer_none i q)
    pointed_most (inr (inl i)) l f q = absurd (fixed_two (either_fixed ty aty i.types.fixed) f)
    pointed_most (inr (inr i)) l f q =
        other_kind (is_fixed ty || is_fixed aty) by_fixed (by_kind (is_pointer aty) by_pointer by_integer) (10 * wide_two)
        (pointer_converted ty aty i.pointer i.types).no_fixed
        (own_kind (is_pointer aty) by_pointer by_integer (10 * wide_two) i.pointer
        (pointer_conversion_few slots h to a ty aty n i l))

    extended_most : Converts → n ≤ to.bytes → counts_fixed_two ≡ false → counts_pointer_two ≡ false
        → code_words converts ≤ 4 + 6 * scalar_size ty
    extended_most (inr (inl i)) l f q = absurd (fixed_two (either_fixed ty aty i.types.fixed) f)
    extended_most (inr (inr i)) l f q = absurd (false≢true (sym q ∙ pointer_count ty aty i.pointer))
    extended_most (inl i) l f q =
        let most = 4 + 6 * scalar_size ty in
        let x = convert_words laws (is_signed aty) (home h a) (home h to) a.bytes n in
        let w : scalar_size ty ≡ to.bytes = ap scalar_size i.result_type in
        other_kind (is_fixed ty || is_fixed aty) by_fixed (by_kind (is_pointer aty) by_pointer by_integer) most
        (none_converted slots to a ty aty i)
        (other_kind (is_pointer aty) by_pointer by_integer most (none_pointed slots to a ty aty i) (omega (arith, x, w, l)))

    pub conversion_own : Converts → n ≤ to.bytes → code_words converts ≤ most_in (shape_code (conversion_shape ty mode aty))
    conversion_own i l =
        let x = one_conversion laws ty aty mode slots h to a n i l in
        let y = wide_conversion ty aty in
        conversion_row counts_fixed_two counts_pointer_two (any_same ty (aty ∷ [])) (scalar_size ty) wide_two (code_words converts)
        (copied_most i l) (λ f. omega (arith, x, y)) (pointed_most i l) (extended_most i l)
