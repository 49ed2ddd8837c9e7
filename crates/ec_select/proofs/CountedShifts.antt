-- The words of shifts that take a known count: no more than a further use of their shape counts.
use Rattle.std.proofs.Common.{◌≡◌, ◌≢◌, ◌⊎◌, inl, inr, ℕ, suc, ◌+◌, ◌-◌, ◌*◌, ◌≤◌, ◌==◌, Bool, true, false, List, [], ◌∷◌, refl, sym}
use Rattle.std.proofs.Common.{ap, ◌∙◌, subst, arith}
use Rattle.std.specs.Prelude.{◌&&◌, ◌||◌, not, nat_le, if◌then◌else◌, Option, None}
use Rattle.std.proofs.lemmas.Bool.{and_parts, false≢true, leb-true, ne_eqb}
use Rattle.ec_asm.specs.declared.pieces.Location.TheVariants.{InRegisters, InMemory}
use Rattle.ec_asm.specs.declared.items.AsmItem.{AsmItem}
use Rattle.ec_asm.specs.Items.{code_words}
use Rattle.ec_space.specs.declared.Core.{Core}
use Rattle.ec_core.specs.declared.expressions.BinOp.{BinOp}
use Rattle.ec_core.specs.Layout.{scalar_size}
use Rattle.ec_core.specs.Plain.{PlainType, PlainProgram}
use Rattle.ec_core.specs.Words.{widest}
use Rattle.ec_core_shapes.specs.Shapes.{Shape, binary_shape}
use Rattle.ec_fx.specs.declared.numbers.Mode.{Mode}
use Rattle.ec_ir.specs.declared.operations.Temp.{Temp}
use Rattle.ec_ir.specs.Operations.{PlainIr, binary_op, unary_op, conversion}
use Rattle.ec_ir_known.specs.declared.known.RightNumber.{RightNumber}
use Rattle.ec_ir_shapes.specs.Costs.{are_exact, any_fixed, any_pointer, shape_code, op_shapes}
use Rattle.ec_ir_shapes.specs.Costs.{binary_code as counted_binary, is_fixed as counts_fixed, is_pointer as counts_pointer}
use Rattle.ec_select_bytes.specs.Homes.{depth_of_place, home_of_place}
use Rattle.ec_select_fixed.specs.Codes.{fixed_binary_code}
use Rattle.ec_select_routines.specs.Laws.{CallsHave}
use Rattle.ec_select_operations.specs.declared.homes.Homes.{Homes}
use Rattle.ec_select_operations.specs.Code.{family_of, is_signed, is_on_integers, same_location, placed_whole, answer_code}
use Rattle.ec_select_operations.specs.Code.{answer_location, work_location, fixed_binary, placed_binary, by_kind}
use Rattle.ec_select_operations.specs.Code.{pointer_binary, integer_binary, called_code}
use Rattle.ec_select_operations.specs.Homes.{home}
use Rattle.ec_select_operations.specs.Needs.{is_fixed, is_placed, is_counted, takes_count}
use Rattle.ec_select_operations.specs.Pointers.{is_pointer}
use Rattle.ec_select_functions.specs.Covered.{IsCovered, IsFixedBinary}
use Rattle.ec_select_functions.proofs.Counts.{IsCounted, counted_is, never_on_integers, not_counted, count_is_taken}
use Rattle.ec_select.specs.Sharing.{own_items, used_items}
use Rattle.ec_select.proofs.AlikeWords.{not_exact}
use Rattle.ec_select.proofs.CalledWords.{of_shape, result_bytes}
use Rattle.ec_select.proofs.CountedTypes.{some_fixed}
use Rattle.ec_select.proofs.FixedItems.{own_words as own_kind}
use Rattle.ec_select.proofs.FixedTypes.{either_fixed, no_fixed}
use Rattle.ec_select.proofs.InPlace.{placed_words}
use Rattle.ec_select.proofs.LinkedWords.{call_in, shape_call, call_within}
use Rattle.ec_select.proofs.OperationWords.{move_words, unless_none}
use Rattle.ec_select.proofs.PointerTypes.{pointers_only}
use Rattle.ec_select.proofs.UseWords.{HasTypeBytes}

-- ---- temporaries at two places stand in two locations

registers_apart : (w p q : ℕ) → (w ≡ 2) ⊎ (w ≡ 4) → p ≢ q → w * (p + 1) ≤ 12 → w * (q + 1) ≤ 12
    → 26 - w * (p + 1) ≢ 26 - w * (q + 1)
registers_apart w p q (inl e) d =
    subst (λ (z : ℕ). z * (p + 1) ≤ 12 → z * (q + 1) ≤ 12 → 26 - z * (p + 1) ≢ 26 - z * (q + 1)) (sym e)
    (λ a b same. d (omega (arith, a, b, same)))
registers_apart w p q (inr e) d =
    subst (λ (z : ℕ). z * (p + 1) ≤ 12 → z * (q + 1) ≤ 12 → 26 - z * (p + 1) ≢ 26 - z * (q + 1)) (sym e)
    (λ a b same. d (omega (arith, a, b, same)))

places_apart : (w scratch p q m n : ℕ) → (w ≡ 2) ⊎ (w ≡ 4) → p ≢ q
    → same_location (home_of_place w scratch p m) (home_of_place w scratch q n) ≡ false
places_apart w scratch p q m n width_is d =
    by_places (nat_le m w && nat_le (depth_of_place w p) 12) (nat_le n w && nat_le (depth_of_place w q) 12) refl refl
  where
    none : (x y : Bool) → y ≡ false → (x && y) ≡ false
    none true y h = h
    none false y h = refl

    by_places : (x y : Bool) → (nat_le m w && nat_le (depth_of_place w p) 12) ≡ x → (nat_le n w && nat_le (depth_of_place w q) 12) ≡ y
        → same_location (if x then InRegisters (26 - depth_of_place w p) else InMemory scratch (16 * p))
        (if y then InRegisters (26 - depth_of_place w q) else InMemory scratch (16 * q)) ≡ false
    by_places true true a b =
        let first = leb-true (depth_of_place w p) 12 (and_parts (nat_le m w) (nat_le (depth_of_place w p) 12) a).1 in
        let second = leb-true (depth_of_place w q) 12 (and_parts (nat_le n w) (nat_le (depth_of_place w q) 12) b).1 in
        ne_eqb (26 - depth_of_place w p) (26 - depth_of_place w q) (registers_apart w p q width_is d first second)
    by_places true false a b = refl
    by_places false true a b = refl
    by_places false false a b =
        none (scratch == scratch) (16 * p == 16 * q) (ne_eqb (16 * p) (16 * q) (λ same. d (omega (arith, same))))

-- ---- words

-- so much a further use of an operator counts on fixed-point operands that are not combined as integers
fixed_call : (op : BinOp) (exact on_fixed on_pointers : Bool) (w : ℕ) → exact ≡ false → on_fixed ≡ true
    → call_in (counted_binary op exact on_fixed on_pointers w) ≡ 12 + 14 * w
fixed_call op exact on_fixed on_pointers w e f = rw (e, f) refl

module _ (calls : CallsHave) (core : Core) (p : PlainProgram) (results : ℕ → ℕ) (f : ℕ) (called : List ℕ) (slots : ℕ) (h : Homes)
    (width_is : (h.width ≡ 2) ⊎ (h.width ≡ 4)) (known : Option RightNumber) (n : ℕ) where
  fixed_counted : (op : BinOp) (mode : Mode) (to a b : Temp) (ty aty bty : PlainType) → IsFixedBinary slots op to a b ty aty bty
      → IsCounted op mode ty aty bty to b
      → code_words (fixed_binary known None op ty aty bty mode (home h a) (home h b) (home h to) a.bytes n)
      ≤ 12 + 14 * widest (ty ∷ aty ∷ bty ∷ [])
  fixed_counted op mode to a b ty aty bty i c =
      let on = never_on_integers op mode ty aty bty c.shift in
      let placed = c.placed in
      let apart = places_apart h.width h.scratch b.at to.at b.bytes to.bytes width_is c.apart in
      let some = i.left.some in
      let bytes = i.left_bytes in
      let wide : scalar_size aty ≤ widest (ty ∷ aty ∷ bty ∷ []) = omega arith in
      let top = a.bytes - 1 in
      let few = placed_words known (is_signed aty) (home h a) (home h b) (home h to) top (move_words (home h a) (home h to) (suc top))
      (move_words (home h b) (InRegisters 30) 1) op in
      by_tests (is_on_integers (family_of op) mode ty aty bty) (is_placed op mode ty aty bty) (same_location (home h b) (home h to))
      on placed apart
      (unless_none n (12 + 14 * widest (ty ∷ aty ∷ bty ∷ [])) (placed_whole known op (is_signed aty) (home h a) (home h b) (home h to) top)
      (omega (arith, few, some, bytes, wide)))
    where
      stopped : List AsmItem
      stopped = placed_binary known op (is_signed aty) (home h a) (home h b) (home h to) a.bytes n

      by_tests : (x y z : Bool) → x ≡ false → y ≡ true → z ≡ false → code_words stopped ≤ 12 + 14 * widest (ty ∷ aty ∷ bty ∷ [])
          → code_words (if x then integer_binary known None op (is_signed aty) (is_signed bty) (home h a) (home h b) (home h to) a.bytes n
          else (if y && not z then stopped
          else answer_code (fixed_binary_code op ty aty bty mode (home h a) (home h b) answer_location work_location) (home h to) n))
          ≤ 12 + 14 * widest (ty ∷ aty ∷ bty ∷ [])
      by_tests false true false a b c few = few
      by_tests true y z a b c few = absurd (false≢true (sym a))
      by_tests false false z a b c few = absurd (false≢true b)
      by_tests false true true a b c few = absurd (false≢true (sym c))

  -- such an operation has a fixed-point operand
  counted_covered : (op : BinOp) (mode : Mode) (to a b : Temp) (ty aty bty : PlainType)
      → IsCovered p results f called slots (binary_op op ty mode to a aty b bty)
      → is_counted op mode ty aty bty to b ≡ true → IsFixedBinary slots op to a b ty aty bty
  counted_covered op mode to a b ty aty bty (inl i) c =
      absurd (false≢true (sym (not_counted op mode ty aty bty to b (no_fixed (family_of op) slots to a b ty aty bty i)) ∙ c))
  counted_covered op mode to a b ty aty bty (inr (inl i)) c = i
  counted_covered op mode to a b ty aty bty (inr (inr i)) c =
      absurd (false≢true (sym (not_counted op mode ty aty bty to b (pointers_only op ty aty bty i.pointer i.types).0) ∙ c))

  -- what stands at a use beside a routine
  pub used_within : (i : PlainIr) (s : Shape) → IsCovered p results f called slots i → HasTypeBytes i → op_shapes i ≡ s ∷ []
      → n ≤ result_bytes i → code_words (used_items core p h known n i) ≤ shape_call s
  used_within (binary_op op ty mode to a aty b bty) s covered bytes e few = by_count (takes_count known i) refl
    where
      i : PlainIr
      i = binary_op op ty mode to a aty b bty

      wide : ℕ
      wide = widest (ty ∷ aty ∷ bty ∷ [])

      by_count : (x : Bool) → takes_count known i ≡ x
          → code_words (if x then own_items core p h known n i else called_code (home h) 0 n i) ≤ shape_call s
      by_count false q = call_within calls (home h) 0 n i s bytes e few
      by_count true q =
          let counted = (count_is_taken known (is_counted op mode ty aty bty to b) q).counted_so in
          let fixed = counted_covered op mode to a b ty aty bty covered counted in
          let either = either_fixed aty bty fixed.types.fixed in
          let own = own_kind (is_fixed aty || is_fixed bty)
          (fixed_binary known None op ty aty bty mode (home h a) (home h b) (home h to) a.bytes n)
          (by_kind (is_pointer aty || is_pointer bty)
          (pointer_binary known None core (is_pointer aty) (is_pointer bty) p op aty bty (home h a) (home h b) (home h to) a.bytes
          b.bytes n)
          (integer_binary known None op (is_signed aty) (is_signed bty) (home h a) (home h b) (home h to) a.bytes n))
          (12 + 14 * wide) either (fixed_counted op mode to a b ty aty bty fixed (counted_is op mode ty aty bty to b counted)) in
          let exact = are_exact op mode ty (aty ∷ bty ∷ []) in
          let on_fixed = counts_fixed ty || any_fixed (aty ∷ bty ∷ []) in
          let on_pointers = counts_pointer ty || any_pointer (aty ∷ bty ∷ []) in
          let r = binary_shape op ty mode aty bty in
          let same : r ≡ s = of_shape (shape_code r) r s e in
          let call : shape_call s ≡ 12 + 14 * wide =
          sym (ap shape_call same)
          ∙ fixed_call op exact on_fixed on_pointers wide (not_exact op exact on_fixed on_pointers wide r s e)
          (some_fixed ty aty bty either) in
          subst (λ (x : ℕ). code_words (own_items core p h known n i) ≤ x) (sym call) own
  used_within (unary_op op ty mode to a) s covered bytes e few = call_within calls (home h) 0 n (unary_op op ty mode to a) s bytes e few
  used_within (conversion to ty mode a aty) s covered bytes e few =
      call_within calls (home h) 0 n (conversion to ty mode a aty) s bytes e few
  used_within i s covered bytes e few = absurd cc
