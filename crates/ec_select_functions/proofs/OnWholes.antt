-- Operators on numbers of one fixed-point format whose code is that on integers.
use Rattle.std.proofs.Common.{◌≡◌, ℕ, zero, suc, ◌*◌, ◌/◌, ◌≤◌, ◌==◌, max, Bool, true, false, not, ◌&&◌, Ok, refl, sym, ap, ◌∙◌, subst}
use Rattle.std.proofs.Common.{arith}
use Rattle.std.specs.Prelude.{if◌then◌else◌}
use Rattle.ec_fx.specs.declared.formats.FxKind.{FxKind}
use Rattle.ec_fx.specs.declared.numbers.Mode.{Mode}
use Rattle.ec_fx.specs.Formats.{format_of}
use Rattle.ec_asm.specs.declared.pieces.Operator.{Operator}
use Rattle.ec_asm.specs.declared.pieces.Operator.TheVariants.{Sum, Difference}
use Rattle.ec_core.specs.declared.expressions.BinOp.{BinOp}
use Rattle.ec_core.specs.declared.expressions.BinOp.TheVariants.{Add, Sub, Mul, Div, Rem, Shl, Shr, And, Or, Xor, Lt}
use Rattle.ec_core.specs.declared.expressions.BinOp.TheVariants.{Gt, Le, Ge, Eq, Ne}
use Rattle.ec_core.specs.declared.values.Value.{Value}
use Rattle.ec_core.specs.declared.values.Value.TheVariants.{Number}
use Rattle.ec_core.specs.Accesses.{operand_of}
use Rattle.ec_core.specs.ArithmeticValues.{is_comparison}
use Rattle.ec_core.specs.Layout.{scalar_size}
use Rattle.ec_core.specs.Operators.{binary_result}
use Rattle.ec_core.specs.Plain.{PlainType, integer, fixed, PlainProgram}
use Rattle.ec_core.specs.State.{State}
use Rattle.ec_core.specs.Words.{operation_words}
use Rattle.ec_ir.specs.declared.operations.Temp.{Temp}
use Rattle.ec_ir.specs.Costs.{binary_words, is_bitwise, is_integer}
use Rattle.ec_select_order.specs.declared.relations.Relation.{Relation}
use Rattle.ec_select_order.specs.declared.relations.Relation.TheVariants.{Less, NotLess, Equal, NotEqual}
use Rattle.ec_select_fixed.proofs.Suits.{operands_suit}
use Rattle.ec_select_operations.specs.declared.families.Family.{Family}
use Rattle.ec_select_operations.specs.declared.families.Family.TheVariants.{Combined, Compared, Multiplied, Shifted, Divided}
use Rattle.ec_select_operations.specs.Code.{family_of, is_on_integers}
use Rattle.ec_select_operations.specs.Needs.{Need, at_least, all_or_none}
use Rattle.ec_select_operations.proofs.OneFormat.{one_format, on_integers}
use Rattle.ec_select_functions.specs.Covered.{IsFixedBinary, IsBinary, AreIntegers, AreCompared}
use Rattle.ec_select_functions.proofs.OnIntegers.{whole_of, whole_type, GivesAs, sum_as, difference_as, order_as}

-- ---- needs

-- where no more bytes of a place are needed, and of no other one
pub more_needed : (x j k : ℕ) (less more : Need) → j ≤ k → ((u : ℕ) → less u ≤ more u) → (u : ℕ) → at_least x j less u ≤ at_least x k more u
more_needed x j k less more l h u = by_place (u == x) (h u)
  where
    by_place : (here : Bool) → less u ≤ more u → (if here then max (less u) j else less u) ≤ (if here then max (more u) k else more u)
    by_place true r = omega (arith, r, l)
    by_place false r = r

pub at_most_all : (bytes n : ℕ) → n ≤ bytes → n ≤ all_or_none bytes n
at_most_all bytes zero l = omega arith
at_most_all bytes (suc n) l = l

-- ---- operators

-- the operator on the integers of the operands' bytes: its types and words, and what it gives
pub record IsOnWholes (slots : ℕ) (op : BinOp) (mode : Mode) (to a b : Temp) (ty aty bty : PlainType) : Type 0 where
  pub kind : FxKind
  pub first_saturates : Bool
  pub second_saturates : Bool
  pub left_is : aty ≡ fixed kind first_saturates
  pub right_is : bty ≡ fixed kind second_saturates
  pub result : PlainType
  pub binary : IsBinary (family_of op) slots to a b result (whole_type kind) (whole_type kind)
  pub bitwise : is_bitwise op ≡ false
  pub words : binary_words op ty (fixed kind first_saturates) (fixed kind second_saturates)
      ≡ binary_words op result (whole_type kind) (whole_type kind)
  pub gives : (p : PlainProgram) (low1 low2 : ℕ) (st : State) (r : Value)
      → binary_result op ty mode (operand_of p (fixed kind first_saturates) (Number (whole_of kind low1)) st)
      (operand_of p (fixed kind second_saturates) (Number (whole_of kind low2)) st) ≡ Ok r
      → GivesAs op result mode p kind low1 low2 to.bytes st r

same_words : (op : BinOp) (ty whole : PlainType) (k : FxKind) (s1 s2 : Bool) → is_bitwise op ≡ false → scalar_size ty ≡ scalar_size whole
    → binary_words op ty (fixed k s1) (fixed k s2) ≡ binary_words op whole (whole_type k) (whole_type k)
same_words op ty whole k s1 s2 bitwise size =
    let n = (format_of k).bits / 8 in
    let words =
    λ (x y : Bool) (j : ℕ). if x && y then 10 * max j (max n (max n 1)) else operation_words (max j (max n (max n 1))) in
    ap (λ x. words x (is_integer ty) (scalar_size ty)) bitwise ∙ ap (words false (is_integer whole)) size
    ∙ ap (λ x. words x (is_integer whole) (scalar_size whole)) (sym bitwise)

module _ (slots : ℕ) (mode : Mode) (to a b : Temp) where
  -- the same of operands of a kind
  abbrev OfKind : BinOp → PlainType → FxKind → (s1 s2 : Bool) → Type 0
  OfKind op ty k s1 s2 =
      IsFixedBinary slots op to a b ty (fixed k s1) (fixed k s2)
      → is_on_integers (family_of op) mode ty (fixed k s1) (fixed k s2) ≡ true
      → IsOnWholes slots op mode to a b ty (fixed k s1) (fixed k s2)

  -- sums and differences have the format of their operands
  combined_kind : (op : BinOp) (o : Operator) → family_of op ≡ Combined o → (ty : PlainType) (k : FxKind) (s1 s2 : Bool)
      → is_on_integers (family_of op) mode ty (fixed k s1) (fixed k s2) ≡ true
      → (s0 : Bool) × (ty ≡ fixed k s0) × (not mode.saturate ≡ true)
  combined_kind op o is ty k s1 s2 e =
      let q = subst (λ (x : Family). is_on_integers x mode ty (fixed k s1) (fixed k s2) ≡ true) is e in
      let known = (on_integers (Combined o) mode ty (fixed k s1) (fixed k s2) q).1 in
      let one = one_format ty (fixed k s1) known.0 in
      let second : fixed k s1 ≡ fixed one.kind one.second_saturates = one.second in
      let same : one.kind ≡ k = cc in
      (one.first_saturates, one.first ∙ ap (λ (j : FxKind). fixed j one.first_saturates) same, known.1)

  combined : (op : BinOp) (o : Operator) → family_of op ≡ Combined o → is_bitwise op ≡ false
      → ((k : FxKind) (s0 s1 s2 : Bool) (p : PlainProgram) (x z : ℕ) (st : State) (r : Value) → not mode.saturate ≡ true
      → binary_result op (fixed k s0) mode (operand_of p (fixed k s1) (Number (whole_of k x)) st)
      (operand_of p (fixed k s2) (Number (whole_of k z)) st) ≡ Ok r
      → GivesAs op (integer (format_of k).signed to.bytes) mode p k x z to.bytes st r)
      → (ty : PlainType) (k : FxKind) (s1 s2 : Bool) → OfKind op ty k s1 s2
  combined op o is bitwise gives ty k s1 s2 h q =
      let c = combined_kind op o is ty k s1 s2 q in
      let whole = integer (format_of k).signed to.bytes in
      let size : to.bytes ≡ (format_of k).bits / 8 = h.result_bytes ∙ ap scalar_size c.1 in
      let la = h.left_bytes in
      let lb = h.right_bytes in
      let integers : AreIntegers slots to a b whole (whole_type k) (whole_type k) = record {
        signed = (format_of k).signed;
        left_signed = (format_of k).signed;
        right_signed = (format_of k).signed;
        result_type = refl;
        left_type = ap (integer (format_of k).signed) (sym la);
        right_type = ap (integer (format_of k).signed) (sym lb);
        result = h.result;
        left = h.left;
        right = h.right;
        left_bytes = la ∙ sym size;
        right_bytes = lb ∙ sym size;
      } in
      record {
        kind = k;
        first_saturates = s1;
        second_saturates = s2;
        left_is = refl;
        right_is = refl;
        result = whole;
        binary = subst (λ (x : Family). IsBinary x slots to a b whole (whole_type k) (whole_type k)) (sym is) integers;
        bitwise = bitwise;
        words = same_words op ty whole k s1 s2 bitwise (sym h.result_bytes);
        gives = λ p x z st r i. gives k c.0 s1 s2 p x z st r c.2
            (subst (λ (j : PlainType). binary_result op j mode (operand_of p (fixed k s1) (Number (whole_of k x)) st)
            (operand_of p (fixed k s2) (Number (whole_of k z)) st) ≡ Ok r) c.1 i);
      }

  compared : (op : BinOp) (r : Relation) (exchanged : Bool) → family_of op ≡ Compared r exchanged → is_bitwise op ≡ false
      → is_comparison op ≡ true → (ty : PlainType) (k : FxKind) (s1 s2 : Bool) → OfKind op ty k s1 s2
  compared op r exchanged is bitwise c ty k s1 s2 h q =
      let la = h.left_bytes in
      let lb = h.right_bytes in
      let ordered : AreCompared slots to a b (whole_type k) (whole_type k) = record {
        signed = (format_of k).signed;
        left_type = ap (integer (format_of k).signed) (sym la);
        right_type = ap (integer (format_of k).signed) (sym lb);
        result = h.result;
        left = h.left;
        right = h.right;
        same_bytes = lb ∙ sym la;
      } in
      record {
        kind = k;
        first_saturates = s1;
        second_saturates = s2;
        left_is = refl;
        right_is = refl;
        result = ty;
        binary = subst (λ (x : Family). IsBinary x slots to a b ty (whole_type k) (whole_type k)) (sym is) ordered;
        bitwise = bitwise;
        words = same_words op ty ty k s1 s2 bitwise refl;
        gives = λ p x z st u i. order_as op c ty k s1 s2 mode p x z to.bytes st u i;
      }

  of_kind : (op : BinOp) (ty : PlainType) (k : FxKind) (s1 s2 : Bool) → OfKind op ty k s1 s2
  of_kind Add ty k s1 s2 h q =
      combined Add Sum refl refl
      (λ k s0 s1 s2 p x z st r c i. sum_as k s0 s1 s2 mode p x z to.bytes st r c i) ty k s1 s2 h q
  of_kind Sub ty k s1 s2 h q =
      combined Sub Difference refl refl
      (λ k s0 s1 s2 p x z st r c i. difference_as k s0 s1 s2 mode p x z to.bytes st r c i) ty k s1 s2 h q
  of_kind Lt ty k s1 s2 h q = compared Lt Less false refl refl refl ty k s1 s2 h q
  of_kind Gt ty k s1 s2 h q = compared Gt Less true refl refl refl ty k s1 s2 h q
  of_kind Le ty k s1 s2 h q = compared Le NotLess true refl refl refl ty k s1 s2 h q
  of_kind Ge ty k s1 s2 h q = compared Ge NotLess false refl refl refl ty k s1 s2 h q
  of_kind Eq ty k s1 s2 h q = compared Eq Equal false refl refl refl ty k s1 s2 h q
  of_kind Ne ty k s1 s2 h q = compared Ne NotEqual false refl refl refl ty k s1 s2 h q
  of_kind Mul ty k s1 s2 h q = absurd (on_integers Multiplied mode ty (fixed k s1) (fixed k s2) q).1
  of_kind Div ty k s1 s2 h q = absurd (on_integers (Divided false) mode ty (fixed k s1) (fixed k s2) q).1
  of_kind Rem ty k s1 s2 h q = absurd (on_integers (Divided true) mode ty (fixed k s1) (fixed k s2) q).1
  of_kind Shl ty k s1 s2 h q = absurd (on_integers (Shifted true) mode ty (fixed k s1) (fixed k s2) q).1
  of_kind Shr ty k s1 s2 h q = absurd (on_integers (Shifted false) mode ty (fixed k s1) (fixed k s2) q).1
  of_kind And ty k s1 s2 h q = absurd (operands_suit And ty (fixed k s1) (fixed k s2) h.types).formats
  of_kind Or ty k s1 s2 h q = absurd (operands_suit Or ty (fixed k s1) (fixed k s2) h.types).formats
  of_kind Xor ty k s1 s2 h q = absurd (operands_suit Xor ty (fixed k s1) (fixed k s2) h.types).formats

pub on_wholes : (slots : ℕ) (op : BinOp) (mode : Mode) (to a b : Temp) (ty aty bty : PlainType) → IsFixedBinary slots op to a b ty aty bty
    → is_on_integers (family_of op) mode ty aty bty ≡ true → IsOnWholes slots op mode to a b ty aty bty
on_wholes slots op mode to a b ty aty bty h e =
    let o = one_format aty bty (on_integers (family_of op) mode ty aty bty e).0 in
    let done =
    λ (x z : PlainType). IsFixedBinary slots op to a b ty x z → is_on_integers (family_of op) mode ty x z ≡ true
    → IsOnWholes slots op mode to a b ty x z in
    (subst (λ x. done x bty) (sym o.first) (subst (λ x. done (fixed o.kind o.first_saturates) x) (sym o.second)
    (of_kind slots mode to a b op ty o.kind o.first_saturates o.second_saturates))) h e
