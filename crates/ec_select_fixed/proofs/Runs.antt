-- The code of binary operators computes their results.
use Rattle.std.proofs.Common.{◌≡◌, ◌≢◌, ℕ, ◌+◌, ◌-◌, ◌*◌, ◌≤◌, max, Bool, true, false, ℤ, pos, refl, sym, ap, ◌∙◌, subst, arith}
use Rattle.std.specs.Prelude.{Result}
use Rattle.std.specs.declared.cmp.Ordering.{Ordering}
use Rattle.std.specs.Ordering.{ordering_reverse}
use Rattle.std.specs.Int.{from_bool}
use Rattle.std.proofs.lemmas.Nat.{mul-le}
use Rattle.ec_fx.specs.declared.formats.Format.{Format}
use Rattle.ec_fx.specs.declared.numbers.Fixed.{Fixed}
use Rattle.ec_fx.specs.declared.numbers.Fx.{Fx}
use Rattle.ec_fx.specs.declared.numbers.Mode.{Mode}
use Rattle.ec_fx.specs.declared.numbers.Num.{Num}
use Rattle.ec_fx.specs.Arithmetic.{product_of, quotient_of}
use Rattle.ec_fx.specs.Conversions.{order_of}
use Rattle.ec_fx.specs.Formats.{IsFormat}
use Rattle.ec_asm.specs.declared.pieces.Location.{Location}
use Rattle.ec_asm.specs.View.{View}
use Rattle.ec_asm.specs.Change.{Env, Own}
use Rattle.ec_asm.specs.Items.{HasAt}
use Rattle.ec_asm.specs.Pieces.{StandsFrom, Outside, value}
use Rattle.ec_asm.specs.PieceLaws.{HoldsNumbers}
use Rattle.ec_asm.proofs.Hoare.{has_parts, goes_on_to}
use Rattle.ec_core.specs.declared.expressions.BinOp.{BinOp}
use Rattle.ec_core.specs.declared.expressions.BinOp.TheVariants.{Add, Sub, Mul, Div, Rem, And, Or, Xor, Lt, Gt, Le, Ge, Eq, Ne, Shl, Shr}
use Rattle.ec_core.specs.ArithmeticValues.{arithmetic_value}
use Rattle.ec_core.specs.declared.values.Undefined.{Undefined}
use Rattle.ec_core.specs.Integers.{accepts, compared as compared_in}
use Rattle.ec_core.specs.Layout.{scalar_size}
use Rattle.ec_core.specs.Operators.{number_type}
use Rattle.ec_core.specs.Plain.{PlainType}
use Rattle.ec_core.specs.Typing.{int}
use Rattle.ec_core.specs.Words.{operation_words}
use Rattle.ec_ir.specs.Temporaries.{low_bytes}
use Rattle.ec_select_order.specs.declared.relations.Relation.{Relation}
use Rattle.ec_select_order.specs.declared.relations.Relation.TheVariants.{Less, NotLess, Equal, NotEqual}
use Rattle.ec_fxcode.specs.ClampLaws.{HoldsResult, IsClearOfEnds, AreApart}
use Rattle.ec_fxcode_shifts.specs.Shifts.{shift_code}
use Rattle.ec_fxcode_shifts.specs.ShiftLaws.{AreSlots as AreShiftSlots, Shifts, ShiftsAreRight, IsWholeFormat, number_in, fixed_in}
use Rattle.ec_fxcode_shifts.specs.ShiftLaws.{most_words}
use Rattle.ec_fxcode_quotients.specs.QuotientLaws.{IsOperandFormat, operand_in, AreSlots, Divides, QuotientsAreRight}
use Rattle.ec_fxcode_scales.specs.ScaleLaws.{Computes}
use Rattle.ec_fxcode_sums.specs.Orders.{stands_in, order_code}
use Rattle.ec_fxcode_sums.specs.OrderLaws.{AreOrderSlots, Orders, OrdersAreRight}
use Rattle.ec_fxcode_sums.specs.SumLaws.{SumsAreRight, sum_by, most_sum_words, ArithmeticFormats}
use Rattle.ec_fxcode_conversions.specs.Products.{multiply_code}
use Rattle.ec_fxcode_conversions.specs.ProductLaws.{ProductsAreRight, AreFactors}
use Rattle.ec_select_fixed.specs.Types.{IsFixedType, IsNumberType, format_in, AreFixedOperands}
use Rattle.ec_select_fixed.specs.Codes.{truth_code, compared_code, fixed_binary_code}
use Rattle.ec_select_fixed.specs.FixedLaws.{IsBinaryResult, binary_room, FixedBinariesAreRight}
use Rattle.ec_select_fixed.proofs.Formats.{operand_format, operand_bits, fixed_bytes}
use Rattle.ec_select_fixed.proofs.Operators.{fixed_bits, binary_is, ShiftHolds, shifted_is, less_told, not_less_told, equal_told}
use Rattle.ec_select_fixed.proofs.Operators.{unequal_told, greater_told, not_greater_told, order_turned, sum_bytes, difference_bytes}
use Rattle.ec_select_fixed.proofs.Operators.{product_bytes, quotient_bytes, shift_bytes, order_bytes}
use Rattle.ec_select_fixed.proofs.Suits.{AreSuited, operands_suit}
use Rattle.ec_select_fixed.proofs.Truths.{Puts, truth_put}

-- ---- runs

-- with more steps, and what follows from what holds
pub computes_more : (e : Env) (most more pc end b k s : ℕ) (v : View) (P Q : ℕ → Type 0) → most ≤ more → ((z : ℕ) → P z → Q z)
    → Computes e most pc v end b k s P → Computes e more pc v end b k s Q
computes_more e most more pc end b k s v P Q l f c =
    let h = c.at_most in
    record {
      steps = c.steps;
      at_most = omega (arith, h);
      last = c.last;
      goes = c.goes;
      holds = f (value c.last.at b k) c.holds;
      numbers = c.numbers;
      same = c.same;
      inputs = c.inputs;
      safe = c.safe;
      seen = c.seen;
    }

divides_compute : (e : Env) (most pc end o k s : ℕ) (v : View) (answer : Fx) → Divides e most pc v end o k s answer
    → Computes e most pc v end o k s (HoldsResult k answer)
divides_compute e most pc end o k s v answer c = record {
  steps = c.steps;
  at_most = c.at_most;
  last = c.last;
  goes = c.goes;
  holds = c.holds;
  numbers = c.numbers;
  same = c.same;
  inputs = c.inputs;
  safe = c.safe;
  seen = c.seen;
}

shifts_compute : (e : Env) (most pc end b k s : ℕ) (v : View) (x : Fixed) (count : ℤ) (left : Bool) (mode : Mode)
    → Shifts e most pc v end b k s x count left mode → Computes e most pc v end b k s (ShiftHolds left x count mode k)
shifts_compute e most pc end b k s v x count left mode c = record {
  steps = c.steps;
  at_most = c.at_most;
  last = c.last;
  goes = c.goes;
  holds = c.holds;
  numbers = c.numbers;
  same = c.same;
  inputs = c.inputs;
  safe = c.safe;
  seen = c.seen;
}

-- ---- words

pub square_less : (x w : ℕ) → x ≤ w → x * x ≤ w * w
square_less x w l = mul-le x x w w l l

-- an operation within the bound of a sum has room for copies of its result
pub sum_room : (x w k : ℕ) → x ≤ w → k ≤ x → most_sum_words x + 4 * k ≤ operation_words w
sum_room x w k l m = let q = square_less x w l in omega (arith, q)

pub most_room : (x w k : ℕ) → x ≤ w → k ≤ 8 → most_words x + 4 * k ≤ operation_words w
most_room x w k l m = let q = square_less x w l in omega (arith, q)

order_room : (x w k : ℕ) → x ≤ w → k ≡ 2 → 64 * most_sum_words x + 8 ≤ 64 * (operation_words w - 4 * k)
order_room x w k l e = let q = square_less x w l in omega (arith, q)

room_left : (n k w : ℕ) → n + 4 * k ≤ w → 64 * n ≤ 64 * (w - 4 * k)
room_left n k w l = omega arith

-- ---- slots

abbrev shift_slots : (e : Env) (p c q w : Location) (k m i j o s : ℕ) → AreSlots e p c q w k m k i j o s
    → AreShiftSlots e p c q w k m i j o s
shift_slots e p c q w k m i j o s h = record {
  operand = h.number;
  count = h.divisor;
  result = h.result;
  work = h.work;
  clear = h.clear;
  apart = h.apart;
  others = h.others;
}

order_slots : (e : Env) (p c q w : Location) (a b k i j o s : ℕ) → AreSlots e p c q w a b k i j o s
    → AreOrderSlots e p c w a b i j s × AreOrderSlots e c p w b a j i s
order_slots e p c q w a b k i j o s h = (
  record {
    first = h.number;
    second = h.divisor;
    work = h.work;
    clear = (h.clear.0, h.clear.1, h.clear.3);
    apart = (h.apart.2, h.others.1);
  },
  record {
    first = h.divisor;
    second = h.number;
    work = h.work;
    clear = (h.clear.1, h.clear.0, h.clear.3);
    apart = (h.others.1, h.apart.2);
  },
)

-- ---- products

abbrev ProductRuns : (f g to : Format) (mode : Mode) (e : Env) (p c q w : Location) (a b k i j o s pc end : ℕ) (v : View) → Type 0
ProductRuns f g to mode e p c q w a b k i j o s pc end v =
    AreSlots e p c q w a b k i j o s
    → Computes e (64 * 180) pc v end o k s
    (HoldsResult k (product_of (operand_in f a (value v.at i a)) (operand_in g b (value v.at j b)) to mode))

-- the bytes of operands and result are 1 each
product_runs : ProductsAreRight → (f g to : Format) (mode : Mode) (e : Env) (p c q w : Location) (a b k i j o s pc end : ℕ) (v : View)
    → a ≡ 1 → b ≡ 1 → k ≡ 1 → AreFactors f g to → HoldsNumbers v → HasAt e (multiply_code f g to mode p c q w) pc end
    → ProductRuns f g to mode e p c q w a b k i j o s pc end v
product_runs law f g to mode e p c q w a b k i j o s pc end v ea eb ek h numbers at =
    let one : ProductRuns f g to mode e p c q w 1 1 1 i j o s pc end v =
    λ slots. law f g to mode e p c q w i j o s pc end v h slots numbers at in
    subst (λ x. ProductRuns f g to mode e p c q w x b k i j o s pc end v) (sym ea)
    (subst (λ x. ProductRuns f g to mode e p c q w 1 x k i j o s pc end v) (sym eb)
    (subst (λ x. ProductRuns f g to mode e p c q w 1 1 x i j o s pc end v) (sym ek) one))

pub one_of_bits : (n k : ℕ) → n ≡ 8 → n ≡ 8 * k → k ≡ 1
one_of_bits n k e f = omega arith

-- ---- comparisons

order_computes : (e : Env) (q : Location) (most pc mid end o s : ℕ) (truth : Bool) (v : View) → (h : Orders e most pc v mid s truth)
    → Puts e mid h.last end o truth → Computes e (most + 8) pc v end o 2 s (λ z. z ≡ from_bool truth)
order_computes e q most pc mid end o s truth v h n =
    let a = h.at_most in
    let b = n.at_most in
    record {
      steps = h.steps + n.steps;
      at_most = omega (arith, a, b);
      last = n.last;
      goes = goes_on_to e h.steps n.steps pc mid end v h.last n.last h.goes n.goes;
      holds = n.holds;
      numbers = n.numbers;
      same = λ l y1 y2 y3 y4 r t. n.same l y1 y2 r ∙ h.same l y1 y2 y3 y4 t;
      inputs = n.inputs ∙ h.inputs;
      safe = n.safe ∙ h.safe;
      seen = n.seen ∙ h.seen;
    }

module _ (orders : OrdersAreRight) where
  -- an int tells whether the numbers stand in the relation
  order_runs : (r : Relation) (f g : Format) (e : Env) (p c q w : Location) (a b i j o s pc end : ℕ) (v : View) → IsOperandFormat f
      → f.bits ≡ 8 * a → IsOperandFormat g → g.bits ≡ 8 * b → AreOrderSlots e p c w a b i j s → StandsFrom e q 2 o Own → IsClearOfEnds o 2
      → HoldsNumbers v
      → HasAt e (compared_code r f g p c q w a b) pc end
      → Computes e (64 * most_sum_words (max a b) + 8) pc v end o 2 s
      (λ z. z ≡ from_bool (stands_in r (order_of (operand_in f a (value v.at i a)) (operand_in g b (value v.at j b)))))
  order_runs r f g e p c q w a b i j o s pc end v hf fb hg gb slots result clear numbers at =
      let parts = has_parts e (order_code r f g p c w a b) (truth_code q) pc end at in
      let h = orders r f g e p c w a b i j s pc parts.0 v hf fb hg gb slots numbers parts.1 in
      let n = truth_put e q o parts.0 end (stands_in r (order_of (operand_in f a (value v.at i a)) (operand_in g b (value v.at j b))))
      h.last result clear h.numbers h.told parts.2 in
      order_computes e q (64 * most_sum_words (max a b)) pc parts.0 end o s _ v h n

-- ---- operators

pub below_widest : (a b k : ℕ) → max a (max b k) ≤ max k (max a (max b 1))
below_widest a b k = omega arith

pub pair_below : (a b k : ℕ) → max a b ≤ max k (max a (max b 1))
pair_below a b k = omega arith

pub turned_below : (a b k : ℕ) → max b a ≤ max k (max a (max b 1))
turned_below a b k = omega arith

abbrev order_value : BinOp → Ordering → Result ℤ Undefined
order_value op order = compared_in op order

module _ (sums : SumsAreRight) (products : ProductsAreRight) (quotients : QuotientsAreRight) (shifts : ShiftsAreRight)
    (orders : OrdersAreRight) where
  -- what the code of an operator computes, for operands of some types
  abbrev RunsFor : (op : BinOp) (ty aty bty : PlainType) → Type 0
  RunsFor op ty aty bty =
      (mode : Mode) (e : Env) (p c q w : Location) (i j o s pc end : ℕ) (v : View) → AreSuited op ty aty bty
      → AreSlots e p c q w (scalar_size aty) (scalar_size bty) (scalar_size ty) i j o s → HoldsNumbers v
      → HasAt e (fixed_binary_code op ty aty bty mode p c q w) pc end
      → Computes e (64 * binary_room op ty aty bty) pc v end o (scalar_size ty) s
      (IsBinaryResult op ty mode aty bty (value v.at i (scalar_size aty)) (value v.at j (scalar_size bty)))

  added : (ty aty bty : PlainType) → RunsFor Add ty aty bty
  added ty aty bty mode e p c q w i j o s pc end v u slots numbers at =
      let a = scalar_size aty in
      let b = scalar_size bty in
      let k = scalar_size ty in
      let n = max a (max b k) in
      let r = sums false (format_in aty) (format_in bty) (format_in ty) mode e p c q w a b k i j o s pc end v u.formats.0
      (operand_bits aty u.first)
      u.formats.1 (operand_bits bty u.second) u.formats.2 (fixed_bits ty u.result) u.formats.3 slots numbers at in
      computes_more e (64 * most_sum_words n) (64 * binary_room Add ty aty bty) pc end o k s v _ _
      (room_left (most_sum_words n) k (operation_words (max k (max a (max b 1))))
      (sum_room n (max k (max a (max b 1))) k (below_widest a b k) (omega arith)))
      (λ z h. binary_is Add ty aty bty mode (value v.at i a) (value v.at j b) z u.first u.second (sum_bytes ty mode _ _ z u.result h)) r

  taken : (ty aty bty : PlainType) → RunsFor Sub ty aty bty
  taken ty aty bty mode e p c q w i j o s pc end v u slots numbers at =
      let a = scalar_size aty in
      let b = scalar_size bty in
      let k = scalar_size ty in
      let n = max a (max b k) in
      let r = sums true (format_in aty) (format_in bty) (format_in ty) mode e p c q w a b k i j o s pc end v u.formats.0
      (operand_bits aty u.first)
      u.formats.1 (operand_bits bty u.second) u.formats.2 (fixed_bits ty u.result) u.formats.3 slots numbers at in
      computes_more e (64 * most_sum_words n) (64 * binary_room Sub ty aty bty) pc end o k s v _ _
      (room_left (most_sum_words n) k (operation_words (max k (max a (max b 1))))
      (sum_room n (max k (max a (max b 1))) k (below_widest a b k) (omega arith)))
      (λ z h.
      binary_is Sub ty aty bty mode (value v.at i a) (value v.at j b) z u.first u.second (difference_bytes ty mode _ _ z u.result h)) r

  multiplied : (ty aty bty : PlainType) → RunsFor Mul ty aty bty
  multiplied ty aty bty mode e p c q w i j o s pc end v u slots numbers at =
      let a = scalar_size aty in
      let b = scalar_size bty in
      let k = scalar_size ty in
      let fs = u.formats.0 in
      let ea = one_of_bits (format_in aty).bits a fs.left_bits (operand_bits aty u.first) in
      let eb = one_of_bits (format_in bty).bits b fs.right_bits (operand_bits bty u.second) in
      let ek = one_of_bits (format_in ty).bits k u.formats.2 (fixed_bits ty u.result) in
      let r = product_runs products (format_in aty) (format_in bty)
      (format_in ty) mode e p c q w a b k i j o s pc end v ea eb ek fs numbers at slots in
      let few = most_room 1 (max k (max a (max b 1))) k (omega arith) (omega arith) in
      computes_more e (64 * 180) (64 * binary_room Mul ty aty bty) pc end o k s v _ _
      (omega (arith, room_left 180 k (operation_words (max k (max a (max b 1)))) (omega (arith, few))))
      (λ z h. binary_is Mul ty aty bty mode (value v.at i a) (value v.at j b) z u.first u.second (product_bytes ty mode _ _ z u.result h)) r

  divided : (ty aty bty : PlainType) → RunsFor Div ty aty bty
  divided ty aty bty mode e p c q w i j o s pc end v u slots numbers at =
      let a = scalar_size aty in
      let b = scalar_size bty in
      let k = scalar_size ty in
      let n = max a (max b k) in
      let most = (fixed_bytes ty u.result).1 in
      let answer =
      quotient_of (operand_in (format_in aty) a (value v.at i a)) (operand_in (format_in bty) b (value v.at j b)) (format_in ty) mode in
      let r = quotients (format_in aty) (format_in bty) (format_in ty) mode e p c q w a b k i j o s pc end v u.formats.0
      (operand_bits aty u.first)
      u.formats.1 (operand_bits bty u.second) u.formats.2 (fixed_bits ty u.result) slots numbers at in
      computes_more e (64 * most_words n) (64 * binary_room Div ty aty bty) pc end o k s v (HoldsResult k answer) _
      (room_left (most_words n) k (operation_words (max k (max a (max b 1))))
      (most_room n (max k (max a (max b 1))) k (below_widest a b k) most))
      (λ z h. binary_is Div ty aty bty mode (value v.at i a) (value v.at j b) z u.first u.second (quotient_bytes ty mode _ _ z u.result h))
      (divides_compute e (64 * most_words n) pc end o k s v answer r)

  -- a shift, in terms of what holds of its count
  shift_runs : (left : Bool) (op : BinOp) (ty aty bty : PlainType) (mode : Mode) (e : Env) (p c q w : Location)
      (i j o s pc end : ℕ) (v : View)
      → AreSuited op ty aty bty → ty ≡ aty → IsFixedType ty → IsFormat (format_in aty) → IsWholeFormat (format_in bty)
      → AreSlots e p c q w (scalar_size aty) (scalar_size bty) (scalar_size ty) i j o s → HoldsNumbers v
      → HasAt e (shift_code (format_in aty) left mode p c q w (scalar_size aty)) pc end
      → Computes e (64 * (operation_words (max (scalar_size ty) (max (scalar_size aty) (max (scalar_size bty) 1))) - 4 * scalar_size ty)) pc
      v end o (scalar_size ty) s
      (ShiftHolds left (fixed_in (format_in aty) (scalar_size aty) (value v.at i (scalar_size aty)))
      (number_in (format_in bty).signed (scalar_size bty) (value v.at j (scalar_size bty))) mode (scalar_size aty))
  shift_runs left op ty aty bty mode e p c q w i j o s pc end v u same fixed hf hg slots numbers at =
      let a = scalar_size aty in
      let b = scalar_size bty in
      let k = scalar_size ty in
      let n = max a b in
      let most = (fixed_bytes ty fixed).1 in
      let x = fixed_in (format_in aty) a (value v.at i a) in
      let count = number_in (format_in bty).signed b (value v.at j b) in
      let there = subst (λ (t : PlainType). AreSlots e p c q w a b (scalar_size t) i j o s) same slots in
      let r = shifts (format_in aty) (format_in bty) left mode e p c q w a b i j o s pc end v hf (operand_bits aty u.first) hg
      (operand_bits bty u.second)
      (shift_slots e p c q w a b i j o s there) numbers at in
      let run = shifts_compute e (64 * most_words n) pc end o a s v x count left mode r in
      let back =
      subst (λ (m : ℕ). Computes e (64 * most_words n) pc v end o m s (ShiftHolds left x count mode a)) (ap scalar_size (sym same)) run in
      computes_more e (64 * most_words n) (64 * (operation_words (max k (max a (max b 1))) - 4 * k)) pc end o k s v
      (ShiftHolds left x count mode a) (ShiftHolds left x count mode a)
      (room_left (most_words n) k (operation_words (max k (max a (max b 1))))
      (most_room n (max k (max a (max b 1))) k (pair_below a b k) most))
      (λ z h. h) back

  shifted_left : (ty aty bty : PlainType) → RunsFor Shl ty aty bty
  shifted_left ty aty bty mode e p c q w i j o s pc end v u slots numbers at =
      let x = value v.at i (scalar_size aty) in
      let y = value v.at j (scalar_size bty) in
      let r = shift_runs true Shl ty aty bty mode e p c q w i j o s pc end v u u.shift u.result u.formats.0 u.formats.1 slots numbers at in
      computes_more e (64 * binary_room Shl ty aty bty) (64 * binary_room Shl ty aty bty) pc end o (scalar_size ty) s v _ _ (omega arith)
      (λ z h. binary_is Shl ty aty bty mode x y z u.first u.second
      (λ n g. shift_bytes true ty aty bty mode x y z n _ u.result u.shift u.formats.1.whole h (shifted_is ty mode _ _ u.result).0 g)) r

  shifted_right : (ty aty bty : PlainType) → RunsFor Shr ty aty bty
  shifted_right ty aty bty mode e p c q w i j o s pc end v u slots numbers at =
      let x = value v.at i (scalar_size aty) in
      let y = value v.at j (scalar_size bty) in
      let r = shift_runs false Shr ty aty bty mode e p c q w i j o s pc end v u u.shift u.result u.formats.0 u.formats.1 slots numbers at in
      computes_more e (64 * binary_room Shr ty aty bty) (64 * binary_room Shr ty aty bty) pc end o (scalar_size ty) s v _ _ (omega arith)
      (λ z h. binary_is Shr ty aty bty mode x y z u.first u.second
      (λ n g. shift_bytes false ty aty bty mode x y z n _ u.result u.shift u.formats.1.whole h (shifted_is ty mode _ _ u.result).1 g)) r

  -- a comparison, in terms of the order of the exact values
  compared : (r : Relation) (op : BinOp) (ty aty bty : PlainType) (mode : Mode) (e : Env) (p c q w : Location)
      (a b i j o s pc end : ℕ) (v : View)
      (f g : Format) (P : ℕ → Type 0) → binary_room op ty aty bty
      ≡ operation_words (max (scalar_size ty) (max (scalar_size aty) (max (scalar_size bty) 1))) - 4 * scalar_size ty
      → max a b ≤ max (scalar_size ty) (max (scalar_size aty) (max (scalar_size bty) 1)) → ty ≡ int
      → IsOperandFormat f → f.bits ≡ 8 * a → IsOperandFormat g → g.bits ≡ 8 * b → AreOrderSlots e p c w a b i j s
      → StandsFrom e q (scalar_size ty) o Own → IsClearOfEnds o (scalar_size ty) → HoldsNumbers v
      → HasAt e (compared_code r f g p c q w a b) pc end
      → ((z : ℕ) → z ≡ from_bool (stands_in r (order_of (operand_in f a (value v.at i a)) (operand_in g b (value v.at j b)))) → P z)
      → Computes e (64 * binary_room op ty aty bty) pc v end o (scalar_size ty) s P
  compared r op ty aty bty mode e p c q w a b i j o s pc end v f g P room less two hf fb hg gb slots stands clear numbers at then =
      let k = scalar_size ty in
      let wide = max k (max (scalar_size aty) (max (scalar_size bty) 1)) in
      let x = max a b in
      let holds = λ (z : ℕ). z ≡ from_bool (stands_in r (order_of (operand_in f a (value v.at i a)) (operand_in g b (value v.at j b)))) in
      let size : k ≡ 2 = ap scalar_size two in
      let stands2 = subst (λ (n : ℕ). StandsFrom e q n o Own) size stands in
      let clear2 = subst (λ (n : ℕ). IsClearOfEnds o n) size clear in
      let run = order_runs orders r f g e p c q w a b i j o s pc end v hf fb hg gb slots stands2 clear2 numbers at in
      let back = subst (λ (n : ℕ). Computes e (64 * most_sum_words x + 8) pc v end o n s holds) (sym size) run in
      let few : 64 * most_sum_words x + 8 ≤ 64 * binary_room op ty aty bty = (let l = order_room x wide k less size in rw room l) in
      computes_more e (64 * most_sum_words x + 8) (64 * binary_room op ty aty bty) pc end o k s v holds P few then back

  -- by an operator: with operands as they stand, or exchanged
  straight : (r : Relation) (op : BinOp) (ty aty bty : PlainType) (mode : Mode) (e : Env) (p c q w : Location)
      (i j o s pc end : ℕ) (v : View)
      → binary_room op ty aty bty
      ≡ operation_words (max (scalar_size ty) (max (scalar_size aty) (max (scalar_size bty) 1))) - 4 * scalar_size ty
      → ((m n : Num) → arithmetic_value op (number_type ty) mode m n ≡ order_value op (order_of m n))
      → ((x : Ordering) → accepts op x ≡ stands_in r x) → ty ≡ int → IsNumberType aty → IsNumberType bty
      → AreSlots e p c q w (scalar_size aty) (scalar_size bty) (scalar_size ty) i j o s → HoldsNumbers v
      → HasAt e (compared_code r (format_in aty) (format_in bty) p c q w (scalar_size aty) (scalar_size bty)) pc end
      → Computes e (64 * binary_room op ty aty bty) pc v end o (scalar_size ty) s
      (IsBinaryResult op ty mode aty bty (value v.at i (scalar_size aty)) (value v.at j (scalar_size bty)))
  straight r op ty aty bty mode e p c q w i j o s pc end v room is told two ka kb slots numbers at =
      let a = scalar_size aty in
      let b = scalar_size bty in
      let x = operand_in (format_in aty) a (value v.at i a) in
      let y = operand_in (format_in bty) b (value v.at j b) in
      let sides = order_slots e p c q w a b (scalar_size ty) i j o s slots in
      compared r op ty aty bty mode e p c q w a b i j o s pc end v (format_in aty) (format_in bty) _ room
      (pair_below a b (scalar_size ty)) two
      (operand_format aty ka) (operand_bits aty ka) (operand_format bty kb)
      (operand_bits bty kb) sides.0 slots.result slots.clear.2 numbers at
      (λ z h. binary_is op ty aty bty mode (value v.at i a) (value v.at j b) z ka kb
      (λ n g. order_bytes op (order_of x y) (stands_in r (order_of x y)) ty z n two (told (order_of x y)) h (sym (is x y) ∙ g)))

  exchanged : (r : Relation) (op : BinOp) (ty aty bty : PlainType) (mode : Mode) (e : Env) (p c q w : Location)
      (i j o s pc end : ℕ) (v : View)
      → binary_room op ty aty bty
      ≡ operation_words (max (scalar_size ty) (max (scalar_size aty) (max (scalar_size bty) 1))) - 4 * scalar_size ty
      → ((m n : Num) → arithmetic_value op (number_type ty) mode m n ≡ order_value op (order_of m n))
      → ((x : Ordering) → accepts op x ≡ stands_in r (ordering_reverse x)) → ty ≡ int → IsNumberType aty → IsNumberType bty
      → AreSlots e p c q w (scalar_size aty) (scalar_size bty) (scalar_size ty) i j o s → HoldsNumbers v
      → HasAt e (compared_code r (format_in bty) (format_in aty) c p q w (scalar_size bty) (scalar_size aty)) pc end
      → Computes e (64 * binary_room op ty aty bty) pc v end o (scalar_size ty) s
      (IsBinaryResult op ty mode aty bty (value v.at i (scalar_size aty)) (value v.at j (scalar_size bty)))
  exchanged r op ty aty bty mode e p c q w i j o s pc end v room is told two ka kb slots numbers at =
      let a = scalar_size aty in
      let b = scalar_size bty in
      let x = operand_in (format_in aty) a (value v.at i a) in
      let y = operand_in (format_in bty) b (value v.at j b) in
      let sides = order_slots e p c q w a b (scalar_size ty) i j o s slots in
      let turn : accepts op (order_of x y) ≡ stands_in r (order_of y x) = told (order_of x y) ∙ ap (stands_in r) (sym (order_turned x y)) in
      compared r op ty aty bty mode e c p q w b a j i o s pc end v (format_in bty) (format_in aty) _ room
      (turned_below a b (scalar_size ty)) two
      (operand_format bty kb) (operand_bits bty kb) (operand_format aty ka)
      (operand_bits aty ka) sides.1 slots.result slots.clear.2 numbers at
      (λ z h. binary_is op ty aty bty mode (value v.at i a) (value v.at j b) z ka kb
      (λ n g. order_bytes op (order_of x y) (stands_in r (order_of y x)) ty z n two turn h (sym (is x y) ∙ g)))

  -- all operators
  binaries : (op : BinOp) (ty aty bty : PlainType) → RunsFor op ty aty bty
  binaries Add ty aty bty = added ty aty bty
  binaries Sub ty aty bty = taken ty aty bty
  binaries Mul ty aty bty = multiplied ty aty bty
  binaries Div ty aty bty = divided ty aty bty
  binaries Rem ty aty bty = λ mode e p c q w i j o s pc end v u slots numbers at. absurd u.formats
  binaries Shl ty aty bty = shifted_left ty aty bty
  binaries Shr ty aty bty = shifted_right ty aty bty
  binaries And ty aty bty = λ mode e p c q w i j o s pc end v u slots numbers at. absurd u.formats
  binaries Or ty aty bty = λ mode e p c q w i j o s pc end v u slots numbers at. absurd u.formats
  binaries Xor ty aty bty = λ mode e p c q w i j o s pc end v u slots numbers at. absurd u.formats
  binaries Lt ty aty bty = λ mode e p c q w i j o s pc end v u slots numbers at.
      straight Less Lt ty aty bty mode e p c q w i j o s pc end v refl (λ m n. refl) less_told u.result u.first u.second slots numbers at
  binaries Gt ty aty bty = λ mode e p c q w i j o s pc end v u slots numbers at.
      exchanged Less Gt ty aty bty mode e p c q w i j o s pc end v refl
      (λ m n. refl) greater_told u.result u.first u.second slots numbers at
  binaries Le ty aty bty = λ mode e p c q w i j o s pc end v u slots numbers at.
      exchanged NotLess Le ty aty bty mode e p c q w i j o s pc end v refl
      (λ m n. refl) not_greater_told u.result u.first u.second slots numbers at
  binaries Ge ty aty bty = λ mode e p c q w i j o s pc end v u slots numbers at.
      straight NotLess Ge ty aty bty mode e p c q w i j o s pc end v refl
      (λ m n. refl) not_less_told u.result u.first u.second slots numbers at
  binaries Eq ty aty bty = λ mode e p c q w i j o s pc end v u slots numbers at.
      straight Equal Eq ty aty bty mode e p c q w i j o s pc end v refl (λ m n. refl) equal_told u.result u.first u.second slots numbers at
  binaries Ne ty aty bty = λ mode e p c q w i j o s pc end v u slots numbers at.
      straight NotEqual Ne ty aty bty mode e p c q w i j o s pc end v refl
      (λ m n. refl) unequal_told u.result u.first u.second slots numbers at

  pub binaries_are_right : FixedBinariesAreRight
  binaries_are_right op ty aty bty mode e p c q w i j o s pc end v h slots numbers at =
      binaries op ty aty bty mode e p c q w i j o s pc end v (operands_suit op ty aty bty h) slots numbers at
