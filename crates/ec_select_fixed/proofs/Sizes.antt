-- The words of the code.
use Rattle.std.proofs.Common.{◌≡◌, ◌⊎◌, ⊎_elim, ℕ, ◌+◌, ◌-◌, ◌*◌, ◌/◌, ◌≤◌, max, Bool, true, false, ◌++◌, refl, sym, ap, ◌∙◌, subst, arith}
use Rattle.std.specs.Prelude.{if◌then◌else◌}
use Rattle.std.proofs.lemmas.List.Sums.{sum_by-append}
use Rattle.ec_fx.specs.declared.formats.Format.{Format}
use Rattle.ec_fx.specs.declared.numbers.Mode.{Mode}
use Rattle.ec_fx.specs.Formats.{format_of}
use Rattle.ec_fx.proofs.FormatLemmas.{IsFormat-format_of}
use Rattle.ec_asm.specs.declared.pieces.Location.{Location}
use Rattle.ec_asm.specs.declared.pieces.Location.TheVariants.{InRegisters}
use Rattle.ec_asm.specs.Items.{code_words, item_words}
use Rattle.ec_asm.specs.Pieces.{copy_byte, copy_code}
use Rattle.ec_core.specs.declared.expressions.BinOp.{BinOp}
use Rattle.ec_core.specs.declared.expressions.BinOp.TheVariants.{Add, Sub, Mul, Div, Rem, And, Or, Xor, Lt, Gt, Le, Ge, Eq, Ne, Shl, Shr}
use Rattle.ec_core.specs.declared.expressions.UnOp.TheVariants.{Minus, Invert}
use Rattle.ec_core.specs.Layout.{scalar_size}
use Rattle.ec_core.specs.Operators.{same_type}
use Rattle.ec_core.specs.Plain.{PlainType, void, integer, fixed, pointer, array, struct}
use Rattle.ec_core.specs.Typing.{int}
use Rattle.ec_core.specs.Words.{operation_words}
use Rattle.ec_ir.specs.Costs.{binary_words, conversion_words}
use Rattle.ec_select_bytes.specs.Values.{extend_code}
use Rattle.ec_select_bytes.proofs.Straight.{values_have}
use Rattle.ec_select_order.specs.declared.relations.Relation.{Relation}
use Rattle.ec_select_order.specs.declared.relations.Relation.TheVariants.{Less, NotLess, Equal, NotEqual}
use Rattle.ec_fxcode.proofs.Short.{chained, copy_short}
use Rattle.ec_fxcode_shifts.specs.ShiftLaws.{ShiftsHave, most_words}
use Rattle.ec_fxcode_quotients.specs.QuotientLaws.{IsOperandFormat, QuotientsHave}
use Rattle.ec_fxcode_sums.specs.Orders.{order_code}
use Rattle.ec_fxcode_sums.specs.OrderLaws.{OrdersHave}
use Rattle.ec_fxcode_sums.specs.SumLaws.{SumsHave, NegationsHave, most_sum_words}
use Rattle.ec_fxcode_conversions.specs.ConversionLaws.{ConversionsHave, WholesHave}
use Rattle.ec_fxcode_conversions.specs.ProductLaws.{ProductsHave}
use Rattle.ec_fxcode_shifts.specs.Shifts.{shift_code}
use Rattle.ec_fxcode_sums.specs.Sums.{sum_code}
use Rattle.ec_select_fixed.specs.declared.families.FixedFamily.TheVariants.{Added, Shifted}
use Rattle.ec_select_fixed.specs.Types.{format_in, IsFixedType, FormatsSuit}
use Rattle.ec_select_fixed.specs.Codes.{truth_code, compared_code, converted_code, fixed_binary_code}
use Rattle.ec_select_fixed.specs.FixedLaws.{FixedBinariesHave, FixedUnariesHave, FixedConversionsHave, copied_words}
use Rattle.ec_select_fixed.proofs.Formats.{kind_bits, kind_bytes, operand_format, operand_bits, fixed_bytes}
use Rattle.ec_select_fixed.proofs.Operators.{fixed_bits}
use Rattle.ec_select_fixed.proofs.Suits.{AreSuited, operands_suit}
use Rattle.ec_select_fixed.proofs.Runs.{below_widest, pair_below, turned_below, square_less, sum_room, most_room}
use Rattle.ec_select_fixed.proofs.Conversions.{AreConverted, converted_types, words_where, integer_width, fixed_format}

pub copy_words : (p q : Location) (n : ℕ) → code_words (copy_code p q n) ≤ n * 4
copy_words p q n = (chained (copy_byte p q) n 2 4 (copy_short p q)).words_are

truth_words : (q : Location) → code_words (truth_code q) ≤ 12
truth_words q =
    let a = copy_words (InRegisters 30) q 1 in
    let b = (values_have q 0 1 2).2 false in
    omega (arith, sum_by-append item_words (copy_code (InRegisters 30) q 1) (extend_code false q 1 2), a, b)

order_room : (x w k n : ℕ) → x ≤ w → k ≡ 2 → n ≤ most_sum_words x + 12 → n + 4 * k ≤ operation_words w
order_room x w k n l e h = let q = square_less x w l in omega (arith, q, h, e)

module _ (sums : SumsHave) (products : ProductsHave) (quotients : QuotientsHave) (shifts : ShiftsHave) (orders : OrdersHave) where
  compared_words : (r : Relation) (f g : Format) (p c q w : Location) (a b : ℕ) → IsOperandFormat f → f.bits ≡ 8 * a → IsOperandFormat g
      → g.bits ≡ 8 * b
      → code_words (compared_code r f g p c q w a b) ≤ most_sum_words (max a b) + 12
  compared_words r f g p c q w a b hf fb hg gb =
      let x = orders r f g p c w a b hf fb hg gb in
      let y = truth_words q in
      omega (arith, sum_by-append item_words (order_code r f g p c w a b) (truth_code q), x, y)

  abbrev HaveFor : (op : BinOp) (ty aty bty : PlainType) → Type 0
  HaveFor op ty aty bty =
      (mode : Mode) (p c q w : Location) → AreSuited op ty aty bty
      → code_words (fixed_binary_code op ty aty bty mode p c q w) + copied_words ty
      ≤ operation_words (max (scalar_size ty) (max (scalar_size aty) (max (scalar_size bty) 1)))

  straight : (r : Relation) (ty aty bty : PlainType) (p c q w : Location) (first second : Format) (a b : ℕ) → ty ≡ int
      → IsOperandFormat first → first.bits ≡ 8 * a
      → IsOperandFormat second → second.bits ≡ 8 * b → max a b ≤ max (scalar_size ty) (max (scalar_size aty) (max (scalar_size bty) 1))
      → code_words (compared_code r first second p c q w a b) + copied_words ty
      ≤ operation_words (max (scalar_size ty) (max (scalar_size aty) (max (scalar_size bty) 1)))
  straight r ty aty bty p c q w first second a b two hf fb hg gb l =
      order_room (max a b) (max (scalar_size ty) (max (scalar_size aty) (max (scalar_size bty) 1))) (scalar_size ty) _ l
      (ap scalar_size two) (compared_words r first second p c q w a b hf fb hg gb)

  in_order : (r : Relation) (ty aty bty : PlainType) (p c q w : Location) → ty ≡ int → IsOperandFormat (format_in aty)
      → (format_in aty).bits ≡ 8 * scalar_size aty
      → IsOperandFormat (format_in bty) → (format_in bty).bits ≡ 8 * scalar_size bty
      → (code_words (compared_code r (format_in aty) (format_in bty) p c q w (scalar_size aty) (scalar_size bty)) + copied_words ty
      ≤ operation_words (max (scalar_size ty) (max (scalar_size aty) (max (scalar_size bty) 1))))
      × (code_words (compared_code r (format_in bty) (format_in aty) c p q w (scalar_size bty) (scalar_size aty)) + copied_words ty
      ≤ operation_words (max (scalar_size ty) (max (scalar_size aty) (max (scalar_size bty) 1))))
  in_order r ty aty bty p c q w two hf fb hg gb = (
    straight r ty aty bty p c q w (format_in aty) (format_in bty) (scalar_size aty) (scalar_size bty) two hf fb hg gb
        (pair_below (scalar_size aty) (scalar_size bty) (scalar_size ty)),
    straight r ty aty bty c p q w (format_in bty) (format_in aty) (scalar_size bty) (scalar_size aty) two hg gb hf fb
        (turned_below (scalar_size aty) (scalar_size bty) (scalar_size ty)),
  )

  both_orders : (r : Relation) (op : BinOp) (ty aty bty : PlainType) (p c q w : Location) → AreSuited op ty aty bty → ty ≡ int
      → (code_words (compared_code r (format_in aty) (format_in bty) p c q w (scalar_size aty) (scalar_size bty)) + copied_words ty
      ≤ operation_words (max (scalar_size ty) (max (scalar_size aty) (max (scalar_size bty) 1))))
      × (code_words (compared_code r (format_in bty) (format_in aty) c p q w (scalar_size bty) (scalar_size aty)) + copied_words ty
      ≤ operation_words (max (scalar_size ty) (max (scalar_size aty) (max (scalar_size bty) 1))))
  both_orders r op ty aty bty p c q w u two =
      in_order r ty aty bty p c q w two (operand_format aty u.first) (operand_bits aty u.first) (operand_format bty u.second)
      (operand_bits bty u.second)

  sum_words : (minus : Bool) (op : BinOp) (ty aty bty : PlainType) → AreSuited op ty aty bty → IsFixedType ty
      → FormatsSuit (Added minus) (format_in aty) (format_in bty) (format_in ty)
      → (mode : Mode) (p c q w : Location)
      → code_words (sum_code minus (format_in aty) (format_in bty) (format_in ty) mode p c q w (scalar_size aty) (scalar_size bty)
      (scalar_size ty)) + copied_words ty
      ≤ operation_words (max (scalar_size ty) (max (scalar_size aty) (max (scalar_size bty) 1)))
  sum_words minus op ty aty bty u f h mode p c q w =
      let a = scalar_size aty in
      let b = scalar_size bty in
      let k = scalar_size ty in
      let x = sums minus (format_in aty) (format_in bty) (format_in ty) mode p c q w a b k h.0 (operand_bits aty u.first) h.1
      (operand_bits bty u.second) h.2 (fixed_bits ty f) h.3 in
      let s = sum_room (max a (max b k)) (max k (max a (max b 1))) k (below_widest a b k) (omega arith) in
      omega (arith, x, s)

  shift_words : (left : Bool) (op : BinOp) (ty aty bty : PlainType) → AreSuited op ty aty bty → IsFixedType ty
      → FormatsSuit (Shifted left) (format_in aty) (format_in bty) (format_in ty)
      → (mode : Mode) (p c q w : Location)
      → code_words (shift_code (format_in aty) left mode p c q w (scalar_size aty)) + copied_words ty
      ≤ operation_words (max (scalar_size ty) (max (scalar_size aty) (max (scalar_size bty) 1)))
  shift_words left op ty aty bty u f h mode p c q w =
      let a = scalar_size aty in
      let b = scalar_size bty in
      let k = scalar_size ty in
      let most = (fixed_bytes ty f).1 in
      let x = shifts (format_in aty) (format_in bty) left mode p c q w a b h.0 (operand_bits aty u.first) h.1 (operand_bits bty u.second) in
      let s = most_room (max a b) (max k (max a (max b 1))) k (pair_below a b k) most in
      omega (arith, x, s)

  words_for : (op : BinOp) (ty aty bty : PlainType) → HaveFor op ty aty bty
  words_for Add ty aty bty = λ mode p c q w u. sum_words false Add ty aty bty u u.result u.formats mode p c q w
  words_for Sub ty aty bty = λ mode p c q w u. sum_words true Sub ty aty bty u u.result u.formats mode p c q w
  words_for Mul ty aty bty = λ mode p c q w u.
      (let k = scalar_size ty in
      let most = (fixed_bytes ty u.result).1 in
      let x = products (format_in aty) (format_in bty) (format_in ty) mode p c q w u.formats.0 in
      let s = most_room 1 (max k (max (scalar_size aty) (max (scalar_size bty) 1))) k (omega arith) most in
      omega (arith, x, s))
  words_for Div ty aty bty = λ mode p c q w u.
      (let a = scalar_size aty in
      let b = scalar_size bty in
      let k = scalar_size ty in
      let most = (fixed_bytes ty u.result).1 in
      let x = quotients (format_in aty) (format_in bty) (format_in ty) mode p c q w a b k u.formats.0 (operand_bits aty u.first) u.formats.1
      (operand_bits bty u.second) u.formats.2 (fixed_bits ty u.result) in
      let s = most_room (max a (max b k)) (max k (max a (max b 1))) k (below_widest a b k) most in
      omega (arith, x, s))
  words_for Rem ty aty bty = λ mode p c q w u. absurd u.formats
  words_for Shl ty aty bty = λ mode p c q w u. shift_words true Shl ty aty bty u u.result u.formats mode p c q w
  words_for Shr ty aty bty = λ mode p c q w u. shift_words false Shr ty aty bty u u.result u.formats mode p c q w
  words_for And ty aty bty = λ mode p c q w u. absurd u.formats
  words_for Or ty aty bty = λ mode p c q w u. absurd u.formats
  words_for Xor ty aty bty = λ mode p c q w u. absurd u.formats
  words_for Lt ty aty bty = λ mode p c q w u. (both_orders Less Lt ty aty bty p c q w u u.result).0
  words_for Gt ty aty bty = λ mode p c q w u. (both_orders Less Gt ty aty bty p c q w u u.result).1
  words_for Le ty aty bty = λ mode p c q w u. (both_orders NotLess Le ty aty bty p c q w u u.result).1
  words_for Ge ty aty bty = λ mode p c q w u. (both_orders NotLess Ge ty aty bty p c q w u u.result).0
  words_for Eq ty aty bty = λ mode p c q w u. (both_orders Equal Eq ty aty bty p c q w u u.result).0
  words_for Ne ty aty bty = λ mode p c q w u. (both_orders NotEqual Ne ty aty bty p c q w u u.result).0

  -- the bound of an operator on other operands than integers
  bound_is : (op : BinOp) (ty aty bty : PlainType) → AreSuited op ty aty bty
      → binary_words op ty aty bty ≡ operation_words (max (scalar_size ty) (max (scalar_size aty) (max (scalar_size bty) 1)))
  bound_is And ty aty bty u = absurd u.formats
  bound_is Or ty aty bty u = absurd u.formats
  bound_is Xor ty aty bty u = absurd u.formats
  bound_is op ty aty bty u = refl

  pub binaries_have : FixedBinariesHave
  binaries_have op ty aty bty mode p c q w h =
      let u = operands_suit op ty aty bty h in
      let e = bound_is op ty aty bty u in
      rw e (words_for op ty aty bty mode p c q w u)

module _ (law : NegationsHave) where
  pub unaries_have : FixedUnariesHave
  unaries_have op void mode p q w h = absurd h.fixed
  unaries_have op (integer signed bytes) mode p q w h = absurd h.fixed
  unaries_have Minus (fixed kind saturates) mode p q w h =
      let x = law (format_of kind) mode p q w ((format_of kind).bits / 8) (IsFormat-format_of kind) (kind_bits kind) in
      omega (arith, x)
  unaries_have Invert (fixed kind saturates) mode p q w h = absurd h.types.0
  unaries_have op (pointer space const to) mode p q w h = absurd h.fixed
  unaries_have op (array of len) mode p q w h = absurd h.fixed
  unaries_have op (struct index) mode p q w h = absurd h.fixed

module _ (conversions : ConversionsHave) (wholes : WholesHave) where
  other_words : (ty aty : PlainType) (mode : Mode) (p q w : Location) → AreConverted ty aty → IsFixedType ty ⊎ IsFixedType aty
      → code_words (converted_code ty aty mode p q w) ≤ 100 + 36 * max (scalar_size aty) (scalar_size ty)
  other_words void aty mode p q w h f = absurd h.result
  other_words (integer signed bytes) aty mode p q w h f =
      let operand = ⊎_elim (λ (z : ⊥). absurd z) (λ (z : IsFixedType aty). z) f in
      wholes (format_in aty) p q w (scalar_size aty) bytes (fixed_format aty operand) (operand_bits aty h.operand)
      (integer_width bytes h.result)
  other_words (fixed kind saturates) aty mode p q w h f =
      conversions (format_in aty) (format_of kind) mode p q w (scalar_size aty) ((format_of kind).bits / 8) (operand_format aty h.operand)
      (operand_bits aty h.operand)
      (IsFormat-format_of kind) (kind_bits kind)
  other_words (pointer space const to) aty mode p q w h f = absurd h.result
  other_words (array of len) aty mode p q w h f = absurd h.result
  other_words (struct index) aty mode p q w h f = absurd h.result

  pub conversions_have : FixedConversionsHave
  conversions_have ty aty mode p q w h = by_sameness (same_type ty aty) refl
    where
      by_sameness : (b : Bool) → same_type ty aty ≡ b
          → code_words (if b then copy_code p q (scalar_size ty) else converted_code ty aty mode p q w) + copied_words ty
          ≤ conversion_words ty aty
      by_sameness true e =
          let x = copy_words p q (scalar_size ty) in
          let z : conversion_words ty aty ≡ 10 * max (scalar_size ty) (max (scalar_size aty) 1) =
          words_where true ty aty (converted_types ty aty h) e in
          omega (arith, x, z)
      by_sameness false e =
          let x = other_words ty aty mode p q w (converted_types ty aty h) h.fixed in
          let z : conversion_words ty aty ≡ 100 + 40 * max (scalar_size ty) (max (scalar_size aty) 1) =
          words_where false ty aty (converted_types ty aty h) e in
          omega (arith, x, z)
