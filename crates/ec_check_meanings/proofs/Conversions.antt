-- What operands are converted to is what the forms make of them.
use Rattle.std.proofs.Common.{◌≡◌, ◌∙◌, ℕ, Bool, true, false, not, ◌&&◌, ◌||◌, refl, sym, ap, subst, inl, inr, arith}
use Rattle.std.specs.Prelude.{◌⊎◌, ◌≢◌, nat_lt, if◌then◌else◌, Some}
use Rattle.std.specs.Bool.{Decides}
use Rattle.std.proofs.lemmas.Bool.Decides.{Decides-and, Decides-or, Decides-not, nat_tests}
use Rattle.ec_fx.specs.Formats.{format_of}
use Rattle.ec_core.specs.declared.arithmetic_types.Arithmetic.{Arithmetic}
use Rattle.ec_core.specs.declared.arithmetic_types.Arithmetic.TheVariants.{Integer, Fixed}
use Rattle.ec_core.specs.declared.arithmetic_types.FixedType.{FixedType}
use Rattle.ec_core.specs.declared.arithmetic_types.IntegerType.{IntegerType}
use Rattle.ec_core.specs.declared.expressions.BinOp.{BinOp}
use Rattle.ec_core.specs.declared.expressions.BinOp.TheVariants.{Add, Sub, Mul, Div, Rem, Shl, Shr, And, Or, Xor, Lt, Gt, Le, Ge, Eq, Ne}
use Rattle.ec_core.specs.ArithmeticTypes.{type_of, promoted, common_integer, common, signed_kind}
use Rattle.ec_core.specs.Laws.{TypesAreTold}
use Rattle.ec_core.specs.Operators.{OperationTypes, converted_beside, promoted_type, same_type}
use Rattle.ec_core.specs.Plain.{PlainType, PlainExpr, null, convert}
use Rattle.ec_core.specs.TypeLaws.{factor_beside, compared_beside}
use Rattle.ec_core.specs.Typing.{type_of_expr}
use Rattle.ec_check_forms.proofs.Decided.{pointers, leaving, losing, passing_held}
use Rattle.ec_check_forms.specs.Constraints.{IsInteger, IsPointer, SuitsAlone, IsComparison, Passes, LeavesSpace, LosesConst}
use Rattle.ec_check_operands.specs.declared.operands.Modes.{Modes}
use Rattle.ec_check_operands.specs.Operands.{Operand, made, converted, value_type, as_value, is_null}
use Rattle.ec_check_operands.specs.Operators.{count_beside, usual_types, shift_types, comparison_types, binary_types}
use Rattle.ec_check_operands.specs.Passing.{passes, in_type, brought}
use Rattle.ec_check_operands.specs.Sorts.{is_pointer, narrows, drops_const}
use Rattle.ec_check_meanings.specs.Conversions.{IsConverted, as_it_is, changed, IsBrought, null_pointer, ordinary, IsPassed, IsShift}
use Rattle.ec_check_meanings.specs.Conversions.{TakesCommonType, IsFixed, Beside, signed, unsigned, AreBalanced, AreFactors, AreShifted}
use Rattle.ec_check_meanings.specs.Conversions.{AreCompared, Meet, balanced, product, shift, comparison}
use Rattle.ec_check_meanings.specs.Conversions.{two_integers, integer_first, integer_last, two_fixed, integer_factors, other_factors}
use Rattle.ec_check_meanings.specs.Conversions.{shifted_integers, shifted_fixed, compared_integers, other_compared}
use Rattle.ec_check_meanings.proofs.Options.{clash, refuted, given, granted}

-- ---- to one type

types_differ : TypesAreTold → (t u : PlainType) → t ≢ u → same_type t u ≡ false
types_differ told t u n = refuted (same_type t u) (λ e. n (told.same t u e))

types_agree : TypesAreTold → (t u : PlainType) → t ≡ u → same_type t u ≡ true
types_agree told t u e = subst (λ (z : PlainType). same_type t z ≡ true) e (told.itself t)

pub converted_is : TypesAreTold → (m : Modes) (to : PlainType) (e : PlainExpr) → IsConverted m to e (converted m to e)
converted_is told m to e = choose (same_type (type_of_expr e) to) refl
  where
    choose : (b : Bool) → same_type (type_of_expr e) to ≡ b → IsConverted m to e (if b then e else made m to (convert e))
    choose true q = as_it_is (told.same (type_of_expr e) to q)
    choose false q = changed (λ h. clash (types_agree told (type_of_expr e) to h) q)

pub is_converted : TypesAreTold → (m : Modes) (to : PlainType) (e f : PlainExpr) → IsConverted m to e f → converted m to e ≡ f
is_converted told m to e _ (as_it_is h) =
    ap (λ (b : Bool). if b then e else made m to (convert e)) (types_agree told (type_of_expr e) to h)
is_converted told m to e _ (changed n) =
    ap (λ (b : Bool). if b then e else made m to (convert e)) (types_differ told (type_of_expr e) to n)

null_told : (x : Operand) (to : PlainType) → Decides (is_null x && is_pointer to) ((is_null x ≡ true) × IsPointer to)
null_told x to = Decides-and (is_null x) (is_pointer to) (λ e. e, λ e. e) (pointers to)

pub in_type_is : TypesAreTold → (m : Modes) (to : PlainType) (x : Operand) → IsBrought m to x (in_type m to x)
in_type_is told m to x = choose (is_null x && is_pointer to) refl
  where
    choose : (b : Bool) → (is_null x && is_pointer to) ≡ b
        → IsBrought m to x (if b then made m to null else converted m to (as_value m x))
    choose true q = let h = (null_told x to).0 q in null_pointer h.0 h.1
    choose false q = ordinary (λ h. clash ((null_told x to).1 h) q) (converted_is told m to (as_value m x))

pub is_in_type : TypesAreTold → (m : Modes) (to : PlainType) (x : Operand) (e : PlainExpr) → IsBrought m to x e → in_type m to x ≡ e
is_in_type told m to x _ (null_pointer h p) =
    ap (λ (b : Bool). if b then made m to null else converted m to (as_value m x)) ((null_told x to).1 (h, p))
is_in_type told m to x e (ordinary n h) =
    ap (λ (b : Bool). if b then made m to null else converted m to (as_value m x))
    (refuted (is_null x && is_pointer to) (λ q. n ((null_told x to).0 q)))
    ∙ is_converted told m to (as_value m x) e h

module _ (told : TypesAreTold) (m : Modes) (to : PlainType) (x : Operand) where
  passing_told : Decides (passes (value_type x) (is_null x) to && not (narrows (value_type x) to || drops_const (value_type x) to))
      (Passes x to × ¬ (LeavesSpace (value_type x) to ⊎ LosesConst (value_type x) to))
  passing_told =
      Decides-and (passes (value_type x) (is_null x) to) (not (narrows (value_type x) to || drops_const (value_type x) to))
      (passing_held told x to)
      (Decides-not (narrows (value_type x) to || drops_const (value_type x) to)
      (Decides-or (narrows (value_type x) to) (drops_const (value_type x) to) (leaving (value_type x) to) (losing (value_type x) to)))

  pub brought_is : (e : PlainExpr) → brought m to x ≡ Some e → IsPassed m to x e
  brought_is e q =
      let g = given (passes (value_type x) (is_null x) to && not (narrows (value_type x) to || drops_const (value_type x) to))
      (in_type m to x) e q in
      let h = passing_told.0 g.0 in record {
        passes = h.0;
        stays = λ s. h.1 (inl s);
        keeps = λ s. h.1 (inr s);
        brought = subst (λ (z : PlainExpr). IsBrought m to x z) g.1 (in_type_is told m to x);
      }

  neither : {P Q : Type 0} → ¬ P → ¬ Q → ¬ (P ⊎ Q)
  neither p q (inl h) = p h
  neither p q (inr h) = q h

  pub is_brought : (e : PlainExpr) → IsPassed m to x e → brought m to x ≡ Some e
  is_brought e h =
      granted (passes (value_type x) (is_null x) to && not (narrows (value_type x) to || drops_const (value_type x) to))
      (in_type m to x) e (passing_told.1 (h.passes, neither h.stays h.keeps)) (is_in_type told m to x e h.brought)

-- ---- the common type

abbrev integer_of : Bool → ℕ → IntegerType
integer_of s n = record { signed = s; bytes = n }

either_way : (a b : Bool) → (a && b) ≡ (b && a)
either_way true true = refl
either_way true false = refl
either_way false true = refl
either_way false false = refl

in_order : (a b : IntegerType) (p q : Bool) → nat_lt a.bytes b.bytes ≡ p → nat_lt b.bytes a.bytes ≡ q
    → (if p then b else (if q then a else integer_of (a.signed && b.signed) a.bytes))
    ≡ (if q then a else (if p then b else integer_of (b.signed && a.signed) b.bytes))
in_order a b true true e f = absurd (grind (arith, nat_tests, e, f))
in_order a b true false e f = refl
in_order a b false true e f = refl
in_order a b false false e f =
    let n : a.bytes ≡ b.bytes = grind (arith, nat_tests, e, f) in
    ap (λ (s : Bool). integer_of s a.bytes) (either_way a.signed b.signed) ∙ ap (integer_of (b.signed && a.signed)) n

-- the common type is that of both orders
common_same : (s t : IntegerType) → common_integer t s ≡ common_integer s t
common_same s t =
    let a = promoted t in let b = promoted s in in_order a b (nat_lt a.bytes b.bytes) (nat_lt b.bytes a.bytes) refl refl

-- ---- two numbers

beside_is : (x y : FixedType)
    → Beside x y (record { kind = if (format_of y.kind).signed then signed_kind x.kind else x.kind; sat = x.sat })
beside_is x y = choose (format_of y.kind).signed refl
  where
    choose : (b : Bool) → (format_of y.kind).signed ≡ b
        → Beside x y (record { kind = if b then signed_kind x.kind else x.kind; sat = x.sat })
    choose true q = signed q
    choose false q = unsigned (λ h. clash h q)

abbrev fixed_by : FixedType → Bool → FixedType
fixed_by x b = record { kind = if b then signed_kind x.kind else x.kind; sat = x.sat }

is_beside : (x y u : FixedType) → Beside x y u → fixed_by x (format_of y.kind).signed ≡ u
is_beside x y _ (signed h) = ap (fixed_by x) h
is_beside x y _ (unsigned n) = ap (fixed_by x) (refuted (format_of y.kind).signed n)

balanced_is : (x y : Arithmetic) → AreBalanced x y (converted_beside x y) (converted_beside y x)
balanced_is (Integer s) (Integer t) =
    subst (λ (z : IntegerType). AreBalanced (Integer s) (Integer t) (Integer (common_integer s t)) (Integer z)) (sym (common_same s t))
    two_integers
balanced_is (Integer s) (Fixed y) = integer_first
balanced_is (Fixed x) (Integer t) = integer_last
balanced_is (Fixed x) (Fixed y) = two_fixed (beside_is x y) (beside_is y x)

abbrev pub types_of : (left right result : Arithmetic) → OperationTypes
types_of l r u = record { left = l; right = r; result = u }

is_balanced : (x y l r : Arithmetic) → AreBalanced x y l r → (converted_beside x y ≡ l) × (converted_beside y x ≡ r)
is_balanced _ _ _ _ (two_integers {s = s} {t = t}) = (refl, ap Integer (common_same s t))
is_balanced _ _ _ _ integer_first = (refl, refl)
is_balanced _ _ _ _ integer_last = (refl, refl)
is_balanced _ _ _ _ (two_fixed {x = x} {y = y} {u = u} {v = v} g h) = (ap Fixed (is_beside x y u g), ap Fixed (is_beside y x v h))

factors_are : (x y : Arithmetic) → AreFactors x y (factor_beside x y) (factor_beside y x)
factors_are (Integer s) (Integer t) = integer_factors
factors_are (Integer s) (Fixed y) = other_factors (inr tt) integer_first
factors_are (Fixed x) (Integer t) = other_factors (inl tt) integer_last
factors_are (Fixed x) (Fixed y) = other_factors (inl tt) (balanced_is (Fixed x) (Fixed y))

-- beside a fixed-point number factors are brought together as all operands are
fixed_factors : (x y : Arithmetic) → IsFixed x ⊎ IsFixed y
    → (factor_beside x y ≡ converted_beside x y) × (factor_beside y x ≡ converted_beside y x)
fixed_factors (Integer s) (Integer t) (inl h) = absurd h
fixed_factors (Integer s) (Integer t) (inr h) = absurd h
fixed_factors (Integer s) (Fixed y) h = (refl, refl)
fixed_factors (Fixed x) (Integer t) h = (refl, refl)
fixed_factors (Fixed x) (Fixed y) h = (refl, refl)

is_factors : (x y l r : Arithmetic) → AreFactors x y l r → (factor_beside x y ≡ l) × (factor_beside y x ≡ r)
is_factors _ _ _ _ integer_factors = (refl, refl)
is_factors x y l r (other_factors f b) =
    let o = fixed_factors x y f in let g = is_balanced x y l r b in (o.0 ∙ g.0, o.1 ∙ g.1)

compared_are : (x y : Arithmetic) → AreCompared x y (compared_beside x y) (compared_beside y x)
compared_are (Integer s) (Integer t) =
    subst (λ (z : IntegerType). AreCompared (Integer s) (Integer t) (Integer (common_integer s t)) (Integer z)) (sym (common_same s t))
    compared_integers
compared_are (Integer s) (Fixed y) = other_compared (inr tt)
compared_are (Fixed x) (Integer t) = other_compared (inl tt)
compared_are (Fixed x) (Fixed y) = other_compared (inl tt)

fixed_compared : (x y : Arithmetic) → IsFixed x ⊎ IsFixed y → (compared_beside x y ≡ x) × (compared_beside y x ≡ y)
fixed_compared (Integer s) (Integer t) (inl h) = absurd h
fixed_compared (Integer s) (Integer t) (inr h) = absurd h
fixed_compared (Integer s) (Fixed y) h = (refl, refl)
fixed_compared (Fixed x) (Integer t) h = (refl, refl)
fixed_compared (Fixed x) (Fixed y) h = (refl, refl)

is_compared : (x y l r : Arithmetic) → AreCompared x y l r → (compared_beside x y ≡ l) × (compared_beside y x ≡ r)
is_compared _ _ _ _ (compared_integers {s = s} {t = t}) = (refl, ap Integer (common_same s t))
is_compared x y _ _ (other_compared f) = fixed_compared x y f

shifted_are : (x y : Arithmetic) → IsInteger (type_of y) → AreShifted x y (promoted_type x) (count_beside x y)
shifted_are (Integer s) (Integer t) h = shifted_integers
shifted_are (Fixed x) (Integer t) h = shifted_fixed
shifted_are x (Fixed y) h = absurd h

is_shifted : (x y l r : Arithmetic) → AreShifted x y l r → (promoted_type x ≡ l) × (count_beside x y ≡ r)
is_shifted _ _ _ _ shifted_integers = (refl, refl)
is_shifted _ _ _ _ shifted_fixed = (refl, refl)

balanced_meet : (op : BinOp) → TakesCommonType op → (s t : Arithmetic)
    → Meet op s t (usual_types s t).left (usual_types s t).right (usual_types s t).result
balanced_meet op u s t = balanced u (balanced_is s t)

shift_meet : (op : BinOp) → IsShift op → (s t : Arithmetic) → IsInteger (type_of t)
    → Meet op s t (shift_types s t).left (shift_types s t).right (shift_types s t).result
shift_meet op u s t h = shift u (shifted_are s t h)

comparison_meet : (op : BinOp) → IsComparison op → (s t : Arithmetic)
    → Meet op s t (comparison_types s t).left (comparison_types s t).right (comparison_types s t).result
comparison_meet op u s t = comparison u (compared_are s t)

-- two numbers that suit an operator meet as its definition says
pub meets : (op : BinOp) (s t : Arithmetic) → SuitsAlone op false (type_of t)
    → Meet op s t (binary_types op s t).left (binary_types op s t).right (binary_types op s t).result
meets Add s t h = balanced_meet Add tt s t
meets Sub s t h = balanced_meet Sub tt s t
meets Mul s t h = product refl (factors_are s t)
meets Div s t h = balanced_meet Div tt s t
meets Rem s t h = balanced_meet Rem tt s t
meets Shl s t h = shift_meet Shl tt s t h
meets Shr s t h = shift_meet Shr tt s t h
meets And s t h = balanced_meet And tt s t
meets Or s t h = balanced_meet Or tt s t
meets Xor s t h = balanced_meet Xor tt s t
meets Lt s t h = comparison_meet Lt tt s t
meets Gt s t h = comparison_meet Gt tt s t
meets Le s t h = comparison_meet Le tt s t
meets Ge s t h = comparison_meet Ge tt s t
meets Eq s t h = comparison_meet Eq tt s t
meets Ne s t h = comparison_meet Ne tt s t

-- the types of an operation by the family of its operator
balanced_by : (op : BinOp) → TakesCommonType op → (s t : Arithmetic) → binary_types op s t ≡ usual_types s t
balanced_by Add u s t = refl
balanced_by Sub u s t = refl
balanced_by Div u s t = refl
balanced_by Rem u s t = refl
balanced_by And u s t = refl
balanced_by Or u s t = refl
balanced_by Xor u s t = refl
balanced_by op u s t = absurd u

shift_by : (op : BinOp) → IsShift op → (s t : Arithmetic) → binary_types op s t ≡ shift_types s t
shift_by Shl u s t = refl
shift_by Shr u s t = refl
shift_by op u s t = absurd u

comparison_by : (op : BinOp) → IsComparison op → (s t : Arithmetic) → binary_types op s t ≡ comparison_types s t
comparison_by Lt u s t = refl
comparison_by Gt u s t = refl
comparison_by Le u s t = refl
comparison_by Ge u s t = refl
comparison_by Eq u s t = refl
comparison_by Ne u s t = refl
comparison_by op u s t = absurd u

-- the types of an operation, with other names of the first two
renamed : {l r l' r' : Arithmetic} (u : Arithmetic) → (l ≡ l') × (r ≡ r') → types_of l r u ≡ types_of l' r' u
renamed {l = l} {r = r} {l' = l'} {r' = r'} u h = ap (λ (z : Arithmetic). types_of z r u) h.0 ∙ ap (λ (z : Arithmetic). types_of l' z u) h.1

-- an operator takes two numbers as they meet
pub met : (op : BinOp) (s t l r u : Arithmetic) → Meet op s t l r u → binary_types op s t ≡ types_of l r u
met op s t l r _ (balanced h b) = balanced_by op h s t ∙ renamed (common s t) (is_balanced s t l r b)
met op s t l r _ (product h b) =
    ap (λ (o : BinOp). binary_types o s t) h ∙ renamed (common s t) (is_factors s t l r b)
met op s t l r _ (shift h b) =
    let g = is_shifted s t l r b in
    shift_by op h s t ∙ renamed (promoted_type s) g ∙ ap (types_of l r) g.0
met op s t l r _ (comparison h b) =
    comparison_by op h s t ∙ renamed (Integer (integer_of true 2)) (is_compared s t l r b)
