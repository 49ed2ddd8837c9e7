-- Binary operations on two valid operands are valid.
use Rattle.std.proofs.Common.{◌≡◌, ℕ, Bool, true, false, not, ◌&&◌, ◌||◌, refl, sym, subst, inl, inr}
use Rattle.std.specs.Prelude.{if◌then◌else◌, ◌⊎◌, ⊤, Option, Some, None}
use Rattle.std.proofs.lemmas.Bool.{and_cases, or_parts, not-false, both_ways}
use Rattle.ec_fx.specs.declared.numbers.Mode.{Mode}
use Rattle.ec_iohw.specs.declared.table.IoTable.{IoTable}
use Rattle.ec_space.specs.declared.space.SpaceId.{SpaceId}
use Rattle.ec_space.specs.declared.space.SpaceId.TheVariants.{Flash, FarFlash, Data, Generic}
use Rattle.ec_space.specs.Spaces.{join, encloses}
use Rattle.ec_core.specs.declared.arithmetic_types.Arithmetic.{Arithmetic}
use Rattle.ec_core.specs.declared.arithmetic_types.Arithmetic.TheVariants.{Integer, Fixed}
use Rattle.ec_core.specs.declared.expressions.BinOp.{BinOp}
use Rattle.ec_core.specs.declared.expressions.BinOp.TheVariants.{Add, Sub, Mul, Div, Rem, Shl, Shr, And, Or, Xor, Lt, Gt, Le, Ge, Eq, Ne}
use Rattle.ec_core.specs.ArithmeticTypes.{type_of}
use Rattle.ec_core.specs.ArithmeticValues.{IsKnownType, is_comparison}
use Rattle.ec_core.specs.Laws.{TypesAreTold}
use Rattle.ec_core.specs.Plain.{PlainType, void, integer, fixed, pointer, array, struct, PlainExpr, expression, PlainNode, binary}
use Rattle.ec_core.specs.Plain.{PlainProgram}
use Rattle.ec_core.specs.TypeLaws.{UsualConversions}
use Rattle.ec_core.specs.Typing.{int, type_of_expr, HavePointerTypes, HaveBinaryTypes, AreConvertible}
use Rattle.ec_core.specs.Valid.{ValidExpr}
use Rattle.ec_check_operands.specs.declared.operands.Modes.{Modes}
use Rattle.ec_check_forms.specs.Constraints.{IsInteger, IsArithmetic, IsPointer, IsScalar as IsScalarKind, HasOneByte, PointToOneType}
use Rattle.ec_check_forms.specs.Constraints.{IsEquality, IsComparison, ArePointerAndNull}
use Rattle.ec_check_operands.specs.Operands.{Operand, value, made, value_type, as_value, is_null, converted, valued, with_one}
use Rattle.ec_check_operands.specs.Operators.{suits, comparable, unsuited, incomparable, meet_apart, binary_types, number_operation}
use Rattle.ec_check_operands.specs.Operators.{in_space, pointer_operation, null_compared, moved, mixed_operation, meeting, operation_by}
use Rattle.ec_check_operands.specs.Operators.{operated}
use Rattle.ec_check_forms.specs.Validity.{IsUsable, IsOperand, IsOptional, IsOfType}
use Rattle.ec_check_forms.proofs.Decided.{suiting, comparing, comparisons}
use Rattle.ec_check_forms.proofs.ValidNumbers.{Suit, IsNumber, numbers_have_types, valid_operation}
use Rattle.ec_check_forms.proofs.ValidOperands.{if_both, IsGood, IsScalarValue, known_type, value_types_agree, valued_good, good_number}
use Rattle.ec_check_forms.proofs.ValidOperands.{null_integer, converted_valid, scalar_value}

-- two types that can be compared, where the Bools tell the null constant
abbrev pub Compare : BinOp → PlainType → Bool → PlainType → Bool → Type 0
Compare op a p b q =
    (IsArithmetic a × IsArithmetic b) ⊎ (PointToOneType a b ⊎ (IsEquality op × ArePointerAndNull a p b q))

-- what is known of two types that break no rule of an operator
pub record Admits (op : BinOp) (a : PlainType) (p : Bool) (b : PlainType) (q : Bool) : Type 0 where
  pub suit : Suit op a b
  pub compare : IsComparison op → Compare op a p b q
  pub left : p ≡ true → IsInteger a
  pub right : q ≡ true → IsInteger b

-- ---- numbers and pointers alone have operators

byte_arithmetic : (ty : PlainType) → HasOneByte ty → IsArithmetic ty
byte_arithmetic (integer signed bytes) h = tt
byte_arithmetic (fixed kind sat) h = tt
byte_arithmetic void h = h
byte_arithmetic (pointer s k t) h = h
byte_arithmetic (array of len) h = h
byte_arithmetic (struct index) h = h

pub integer_arithmetic : (ty : PlainType) → IsInteger ty → IsArithmetic ty
integer_arithmetic (integer signed bytes) h = tt
integer_arithmetic (fixed kind sat) h = tt
integer_arithmetic void h = h
integer_arithmetic (pointer s k t) h = h
integer_arithmetic (array of len) h = h
integer_arithmetic (struct index) h = h

pub two_pointers : (a b : PlainType) → PointToOneType a b → IsPointer a × IsPointer b
two_pointers (pointer s k t) (pointer r c u) e = (tt, tt)
two_pointers (pointer s k t) void e = absurd e
two_pointers (pointer s k t) (integer signed bytes) e = absurd e
two_pointers (pointer s k t) (fixed kind sat) e = absurd e
two_pointers (pointer s k t) (array of len) e = absurd e
two_pointers (pointer s k t) (struct index) e = absurd e
two_pointers void b e = absurd e
two_pointers (integer signed bytes) b e = absurd e
two_pointers (fixed kind sat) b e = absurd e
two_pointers (array of len) b e = absurd e
two_pointers (struct index) b e = absurd e

pub scalars_compare : (op : BinOp) (a : PlainType) (p : Bool) (b : PlainType) (q : Bool) → (p ≡ true → IsInteger a)
    → (q ≡ true → IsInteger b) → Compare op a p b q → IsScalarKind a × IsScalarKind b
scalars_compare op a p b q l r (inl (h, k)) = (inl h, inl k)
scalars_compare op a p b q l r (inr (inl e)) = let h = two_pointers a b e in (inr h.0, inr h.1)
scalars_compare op a p b q l r (inr (inr (e, inl (h, z)))) = (inr h, inl (integer_arithmetic b (r z)))
scalars_compare op a p b q l r (inr (inr (e, inr (z, h)))) = (inl (integer_arithmetic a (l z)), inr h)

pub both_scalar : (op : BinOp) (a : PlainType) (p : Bool) (b : PlainType) (q : Bool) → Admits op a p b q → IsScalarKind a × IsScalarKind b
both_scalar Add a p b q h = (h.suit.0, h.suit.1)
both_scalar Sub a p b q h = (h.suit.0, h.suit.1)
both_scalar Mul a p b q h = (inl (byte_arithmetic a h.suit.0), inl (byte_arithmetic b h.suit.1))
both_scalar Div a p b q h = (inl h.suit.0, inl h.suit.1)
both_scalar Rem a p b q h = (inl (integer_arithmetic a h.suit.0), inl (integer_arithmetic b h.suit.1))
both_scalar Shl a p b q h = (inl h.suit.0, inl (integer_arithmetic b h.suit.1))
both_scalar Shr a p b q h = (inl h.suit.0, inl (integer_arithmetic b h.suit.1))
both_scalar And a p b q h = (inl (integer_arithmetic a h.suit.0), inl (integer_arithmetic b h.suit.1))
both_scalar Or a p b q h = (inl (integer_arithmetic a h.suit.0), inl (integer_arithmetic b h.suit.1))
both_scalar Xor a p b q h = (inl (integer_arithmetic a h.suit.0), inl (integer_arithmetic b h.suit.1))
both_scalar Lt a p b q h = scalars_compare Lt a p b q h.left h.right (h.compare tt)
both_scalar Gt a p b q h = scalars_compare Gt a p b q h.left h.right (h.compare tt)
both_scalar Le a p b q h = scalars_compare Le a p b q h.left h.right (h.compare tt)
both_scalar Ge a p b q h = scalars_compare Ge a p b q h.left h.right (h.compare tt)
both_scalar Eq a p b q h = scalars_compare Eq a p b q h.left h.right (h.compare tt)
both_scalar Ne a p b q h = scalars_compare Ne a p b q h.left h.right (h.compare tt)

-- ---- two numbers

numbers_valid : TypesAreTold → UsualConversions → (p : PlainProgram) (table : IoTable) (f : ℕ) (m : Modes) (op : BinOp) (s t : Arithmetic)
    (x y : PlainExpr) → IsNumber p table f x s → IsNumber p table f y t → Suit op (type_of s) (type_of t)
    → IsOptional p table f (valued (number_operation m op (binary_types op s t) x y))
numbers_valid told usual p table f m op s t x y j k h =
    let types = binary_types op s t in
    valued_good p table f (number_operation m op types x y)
    (good_number p table f (number_operation m op types x y) types.result
    (valid_operation told p table f m op types s t x y j k (numbers_have_types usual op s t j.known k.known h)))

number : (p : PlainProgram) (table : IoTable) (f : ℕ) (t : Arithmetic) (mode : Mode) (node : PlainNode)
    → IsGood p table f (expression (type_of t) mode node) → IsNumber p table f (expression (type_of t) mode node) t
number p table f t mode node g = record { valid = g.valid; ty = refl; known = known_type p.structs t g.usable }

-- ---- two pointers

-- the operator is one of two pointers to one type
pub record Meet (op : BinOp) (t u : PlainType) : Type 1 where
  pub alike : t ≡ u
  pub types : (T : Type 0) → T → HavePointerTypes op T

compared_pointers : (op : BinOp) (s r : SpaceId) (k c : Bool) (t u : PlainType) (p q : Bool) → (p ≡ true → ⊥) → (q ≡ true → ⊥)
    → Compare op (pointer s k t) p (pointer r c u) q → t ≡ u
compared_pointers op s r k c t u p q l h (inl e) = absurd e.0
compared_pointers op s r k c t u p q l h (inr (inl e)) = e
compared_pointers op s r k c t u p q l h (inr (inr (e, inl z))) = absurd (h z.1)
compared_pointers op s r k c t u p q l h (inr (inr (e, inr z))) = absurd (l z.0)

subtracted_pointers : (s r : SpaceId) (k c : Bool) (t u : PlainType)
    → (⊥ × ⊥) ⊎ ((⊤ × ⊥) ⊎ (t ≡ u)) → t ≡ u
subtracted_pointers s r k c t u (inl h) = absurd h.0
subtracted_pointers s r k c t u (inr (inl h)) = absurd h.1
subtracted_pointers s r k c t u (inr (inr h)) = h

no_sum : (⊥ × ⊥) ⊎ ((⊤ × ⊥) ⊎ (⊥ × ⊤)) → ⊥
no_sum (inl h) = h.0
no_sum (inr (inl h)) = h.1
no_sum (inr (inr h)) = h.0

pub pointers_meet : (op : BinOp) (s r : SpaceId) (k c : Bool) (t u : PlainType) (p q : Bool)
    → Admits op (pointer s k t) p (pointer r c u) q → Meet op t u
pointers_meet Add s r k c t u p q h = absurd (no_sum h.suit.2)
pointers_meet Sub s r k c t u p q h = record { alike = subtracted_pointers s r k c t u h.suit.2; types = λ T z. z }
pointers_meet Mul s r k c t u p q h = absurd h.suit.0
pointers_meet Div s r k c t u p q h = absurd h.suit.0
pointers_meet Rem s r k c t u p q h = absurd h.suit.0
pointers_meet Shl s r k c t u p q h = absurd h.suit.0
pointers_meet Shr s r k c t u p q h = absurd h.suit.0
pointers_meet And s r k c t u p q h = absurd h.suit.0
pointers_meet Or s r k c t u p q h = absurd h.suit.0
pointers_meet Xor s r k c t u p q h = absurd h.suit.0
pointers_meet Lt s r k c t u p q h = record { alike = compared_pointers Lt s r k c t u p q h.left h.right (h.compare tt); types = λ T z. z }
pointers_meet Gt s r k c t u p q h = record { alike = compared_pointers Gt s r k c t u p q h.left h.right (h.compare tt); types = λ T z. z }
pointers_meet Le s r k c t u p q h = record { alike = compared_pointers Le s r k c t u p q h.left h.right (h.compare tt); types = λ T z. z }
pointers_meet Ge s r k c t u p q h = record { alike = compared_pointers Ge s r k c t u p q h.left h.right (h.compare tt); types = λ T z. z }
pointers_meet Eq s r k c t u p q h = record { alike = compared_pointers Eq s r k c t u p q h.left h.right (h.compare tt); types = λ T z. z }
pointers_meet Ne s r k c t u p q h = record { alike = compared_pointers Ne s r k c t u p q h.left h.right (h.compare tt); types = λ T z. z }

-- the join of two spaces encloses both
record Joins (s r j : SpaceId) : Type 0 where
  left : encloses j s ≡ true
  right : encloses j r ≡ true

-- operands that break no rule of an operator
pub admitted : TypesAreTold → (op : BinOp) (x y : Operand) → (is_null x ≡ true → IsInteger (value_type x))
    → (is_null y ≡ true → IsInteger (value_type y)) → unsuited op (Some x) (Some y) ≡ false
    → incomparable op (Some x) (Some y) ≡ false → Admits op (value_type x) (is_null x) (value_type y) (is_null y)
admitted told op x y v w s c = record {
  suit = (suiting told op (value_type x) (value_type y)).0 (not-false (suits op (value_type x) (value_type y)) s);
  compare = compare (and_cases (is_comparison op) (not (comparable op (value_type x) (is_null x) (value_type y) (is_null y))) c);
  left = v;
  right = w;
}
  where
    compare : (is_comparison op ≡ false) ⊎ (not (comparable op (value_type x) (is_null x) (value_type y) (is_null y)) ≡ false)
        → IsComparison op
        → Compare op (value_type x) (is_null x) (value_type y) (is_null y)
    compare (inl n) i = absurd (both_ways (is_comparison op) n ((comparisons op).1 i))
    compare (inr n) i = (comparing told op x y).0 (not-false (comparable op (value_type x) (is_null x) (value_type y) (is_null y)) n)

pub encloses_itself : (s : SpaceId) → encloses s s ≡ true
encloses_itself Flash = refl
encloses_itself FarFlash = refl
encloses_itself Data = refl
encloses_itself Generic = refl

module _ (told : TypesAreTold) (usual : UsualConversions) (p : PlainProgram) (table : IoTable) (f : ℕ) (m : Modes) where
  in_space_valid : (s j : SpaceId) (k : Bool) (t : PlainType) (mode : Mode) (node : PlainNode) → encloses j s ≡ true
      → IsGood p table f (expression (pointer s k t) mode node)
      → IsOfType p table f (pointer j k t) (Some (in_space m j (expression (pointer s k t) mode node)))
  in_space_valid s j k t mode node e g =
      converted_valid told p table f m (pointer j k t) (expression (pointer s k t) mode node) g.valid tt g.usable
      (refl, inl e)

  pointers_valid : (op : BinOp) (s r j : SpaceId) (k c : Bool) (t u : PlainType) (m1 m2 : Mode) (n1 n2 : PlainNode)
      → Joins s r j → Meet op t u → IsGood p table f (expression (pointer s k t) m1 n1)
      → IsGood p table f (expression (pointer r c u) m2 n2)
      → IsOptional p table f (valued (made m int
      (binary op (in_space m j (expression (pointer s k t) m1 n1)) (in_space m j (expression (pointer r c u) m2 n2)))))
  pointers_valid op s r j k c t u m1 m2 n1 n2 w h x y =
      let a = in_space_valid s j k t m1 n1 w.left x in
      let b = in_space_valid r j c u m2 n2 w.right y in
      let e1 = in_space m j (expression (pointer s k t) m1 n1) in
      let e2 = in_space m j (expression (pointer r c u) m2 n2) in
      let typed : HaveBinaryTypes op int (type_of_expr e1) (type_of_expr e2) =
      subst (λ (z : PlainType). HaveBinaryTypes op int z (type_of_expr e2)) (sym a.1)
      (subst (λ (z : PlainType). HaveBinaryTypes op int (pointer j k t) z) (sym b.1)
      (h.types ((j ≡ j) × (t ≡ u) × (int ≡ int)) (refl, h.alike, refl))) in
      valued_good p table f (made m int (binary op e1 e2))
      (record { valid = (inr (inl refl), typed, (a.0, b.0)); usable = inr (inl refl) })

  joined_valid : (op : BinOp) (s r : SpaceId) (k c : Bool) (t u : PlainType) (m1 m2 : Mode) (n1 n2 : PlainNode)
      → Meet op t u → IsGood p table f (expression (pointer s k t) m1 n1)
      → IsGood p table f (expression (pointer r c u) m2 n2)
      → IsOptional p table f (with_one (pointer_operation m op (join s r) (expression (pointer s k t) m1 n1)
      (expression (pointer r c u) m2 n2)) valued)
  joined_valid op s r k c t u m1 m2 n1 n2 h x y =
      let P : Option SpaceId → Type 0 = λ o. IsOptional p table f (with_one (pointer_operation m op o
      (expression (pointer s k t) m1 n1) (expression (pointer r c u) m2 n2)) valued) in
      if_both P (encloses s r) (Some s) (if encloses r s then Some r else None)
      (λ q. pointers_valid op s r s k c t u m1 m2 n1 n2 (record { left = encloses_itself s; right = q }) h x y)
      (λ q. if_both P (encloses r s) (Some r) None
      (λ z. pointers_valid op s r r k c t u m1 m2 n1 n2 (record { left = z; right = encloses_itself r }) h x y) (λ z. tt))

  -- ---- a pointer and no pointer

  null_left : (op : BinOp) (s : SpaceId) (k : Bool) (t : PlainType) (m1 : Mode) (n1 : PlainNode)
      → ((T : Type 0) → T → HavePointerTypes op T) → IsGood p table f (expression (pointer s k t) m1 n1)
      → IsOptional p table f (valued (null_compared m op true (expression (pointer s k t) m1 n1)))
  null_left op s k t m1 n1 h x =
      valued_good p table f (null_compared m op true (expression (pointer s k t) m1 n1))
      (record {
        valid = (
          inr (inl refl),
          h ((s ≡ s) × (t ≡ t) × (int ≡ int)) (refl, refl, refl),
          (x.valid, ((x.usable.0, x.usable.1), tt, tt)),
        );
        usable = inr (inl refl);
      })

  null_right : (op : BinOp) (s : SpaceId) (k : Bool) (t : PlainType) (m2 : Mode) (n2 : PlainNode)
      → ((T : Type 0) → T → HavePointerTypes op T) → IsGood p table f (expression (pointer s k t) m2 n2)
      → IsOptional p table f (valued (null_compared m op false (expression (pointer s k t) m2 n2)))
  null_right op s k t m2 n2 h y =
      valued_good p table f (null_compared m op false (expression (pointer s k t) m2 n2))
      (record {
        valid = (
          inr (inl refl),
          h ((s ≡ s) × (t ≡ t) × (int ≡ int)) (refl, refl, refl),
          (((y.usable.0, y.usable.1), tt, tt), y.valid),
        );
        usable = inr (inl refl);
      })

  moved_left : (op : BinOp) (s : SpaceId) (k : Bool) (t : PlainType) (m1 : Mode) (n1 : PlainNode) (b : PlainType)
      (m2 : Mode) (n2 : PlainNode) → IsInteger b → HaveBinaryTypes op (pointer s k t) (pointer s k t) b
      → IsGood p table f (expression (pointer s k t) m1 n1) → IsGood p table f (expression b m2 n2)
      → IsOptional p table f (valued (moved m op true (expression (pointer s k t) m1 n1) (expression b m2 n2)))
  moved_left op s k t m1 n1 b m2 n2 i h x y =
      valued_good p table f (moved m op true (expression (pointer s k t) m1 n1) (expression b m2 n2))
      (record { valid = ((x.usable.0, x.usable.1), h, (x.valid, y.valid)); usable = x.usable })

  moved_right : (op : BinOp) (a : PlainType) (m1 : Mode) (n1 : PlainNode) (s : SpaceId) (k : Bool) (t : PlainType)
      (m2 : Mode) (n2 : PlainNode) → HaveBinaryTypes op (pointer s k t) a (pointer s k t)
      → IsGood p table f (expression a m1 n1) → IsGood p table f (expression (pointer s k t) m2 n2)
      → IsOptional p table f (valued (moved m op false (expression (pointer s k t) m2 n2) (expression a m1 n1)))
  moved_right op a m1 n1 s k t m2 n2 h x y =
      valued_good p table f (moved m op false (expression (pointer s k t) m2 n2) (expression a m1 n1))
      (record { valid = ((y.usable.0, y.usable.1), h, (x.valid, y.valid)); usable = y.usable })

  added : (s : SpaceId) (k : Bool) (t b : PlainType) → IsInteger b → HaveBinaryTypes Add (pointer s k t) (pointer s k t) b
  added s k t (integer signed bytes) i = (tt, refl)
  added s k t void i = absurd i
  added s k t (fixed kind sat) i = absurd i
  added s k t (pointer r c u) i = absurd i
  added s k t (array of len) i = absurd i
  added s k t (struct index) i = absurd i

  taken : (s : SpaceId) (k : Bool) (t b : PlainType) → IsInteger b → HaveBinaryTypes Sub (pointer s k t) (pointer s k t) b
  taken s k t (integer signed bytes) i = (tt, refl)
  taken s k t void i = absurd i
  taken s k t (fixed kind sat) i = absurd i
  taken s k t (pointer r c u) i = absurd i
  taken s k t (array of len) i = absurd i
  taken s k t (struct index) i = absurd i

  added_behind : (s : SpaceId) (k : Bool) (t a : PlainType) → IsInteger a → HaveBinaryTypes Add (pointer s k t) a (pointer s k t)
  added_behind s k t (integer signed bytes) i = (tt, tt, refl)
  added_behind s k t void i = absurd i
  added_behind s k t (fixed kind sat) i = absurd i
  added_behind s k t (pointer r c u) i = absurd i
  added_behind s k t (array of len) i = absurd i
  added_behind s k t (struct index) i = absurd i

  offset_right : (b : PlainType) → (⊥ × IsArithmetic b) ⊎ ((⊤ × IsInteger b) ⊎ (⊥ × IsPointer b)) → IsInteger b
  offset_right b (inl h) = absurd h.0
  offset_right b (inr (inl h)) = h.1
  offset_right b (inr (inr h)) = absurd h.0

  offset_taken : (s : SpaceId) (k : Bool) (t b : PlainType) → (IsPointer b → ⊥)
      → (⊥ × IsArithmetic b) ⊎ ((⊤ × IsInteger b) ⊎ PointToOneType (pointer s k t) b) → IsInteger b
  offset_taken s k t b bar (inl h) = absurd h.0
  offset_taken s k t b bar (inr (inl h)) = h.1
  offset_taken s k t b bar (inr (inr e)) = absurd (bar (two_pointers (pointer s k t) b e).1)

  offset_left : (a : PlainType) → (IsArithmetic a × ⊥) ⊎ ((IsPointer a × ⊥) ⊎ (IsInteger a × ⊤)) → IsInteger a
  offset_left a (inl h) = absurd h.1
  offset_left a (inr (inl h)) = absurd h.1
  offset_left a (inr (inr h)) = h.0

  none_taken : (a : PlainType) (s : SpaceId) (k : Bool) (t : PlainType) → (IsPointer a → ⊥)
      → (IsArithmetic a × ⊥) ⊎ ((IsPointer a × ⊥) ⊎ PointToOneType a (pointer s k t)) → ⊥
  none_taken a s k t bar (inl h) = h.1
  none_taken a s k t bar (inr (inl h)) = h.1
  none_taken a s k t bar (inr (inr e)) = bar (two_pointers a (pointer s k t) e).0

  -- only `==` and `!=` compare a pointer with the null constant
  unordered_left : (s : SpaceId) (k : Bool) (t b : PlainType) (z q : Bool) → (IsPointer b → ⊥)
      → (⊥ × IsArithmetic b) ⊎ (PointToOneType (pointer s k t) b ⊎ (⊥ × ArePointerAndNull (pointer s k t) z b q)) → ⊥
  unordered_left s k t b z q bar (inl h) = h.0
  unordered_left s k t b z q bar (inr (inl e)) = bar (two_pointers (pointer s k t) b e).1
  unordered_left s k t b z q bar (inr (inr h)) = h.0

  unordered_right : (a : PlainType) (s : SpaceId) (k : Bool) (t : PlainType) (z q : Bool) → (IsPointer a → ⊥)
      → (IsArithmetic a × ⊥) ⊎ (PointToOneType a (pointer s k t) ⊎ (⊥ × ArePointerAndNull a z (pointer s k t) q)) → ⊥
  unordered_right a s k t z q bar (inl h) = h.1
  unordered_right a s k t z q bar (inr (inl e)) = bar (two_pointers a (pointer s k t) e).0
  unordered_right a s k t z q bar (inr (inr h)) = h.0

  mixed_left : (op : BinOp) (s : SpaceId) (k : Bool) (t : PlainType) (m1 : Mode) (n1 : PlainNode) (b : PlainType)
      (m2 : Mode) (n2 : PlainNode) (z q : Bool) → (IsPointer b → ⊥) → Admits op (pointer s k t) z b q
      → IsGood p table f (expression (pointer s k t) m1 n1) → IsGood p table f (expression b m2 n2)
      → IsOptional p table f (valued (mixed_operation m op true (expression (pointer s k t) m1 n1) (expression b m2 n2)))
  mixed_left Add s k t m1 n1 b m2 n2 z q bar h x y =
      let i = offset_right b h.suit.2 in moved_left Add s k t m1 n1 b m2 n2 i (added s k t b i) x y
  mixed_left Sub s k t m1 n1 b m2 n2 z q bar h x y =
      let i = offset_taken s k t b bar h.suit.2 in moved_left Sub s k t m1 n1 b m2 n2 i (taken s k t b i) x y
  mixed_left Mul s k t m1 n1 b m2 n2 z q bar h x y = absurd h.suit.0
  mixed_left Div s k t m1 n1 b m2 n2 z q bar h x y = absurd h.suit.0
  mixed_left Rem s k t m1 n1 b m2 n2 z q bar h x y = absurd h.suit.0
  mixed_left Shl s k t m1 n1 b m2 n2 z q bar h x y = absurd h.suit.0
  mixed_left Shr s k t m1 n1 b m2 n2 z q bar h x y = absurd h.suit.0
  mixed_left And s k t m1 n1 b m2 n2 z q bar h x y = absurd h.suit.0
  mixed_left Or s k t m1 n1 b m2 n2 z q bar h x y = absurd h.suit.0
  mixed_left Xor s k t m1 n1 b m2 n2 z q bar h x y = absurd h.suit.0
  mixed_left Lt s k t m1 n1 b m2 n2 z q bar h x y = absurd (unordered_left s k t b z q bar (h.compare tt))
  mixed_left Gt s k t m1 n1 b m2 n2 z q bar h x y = absurd (unordered_left s k t b z q bar (h.compare tt))
  mixed_left Le s k t m1 n1 b m2 n2 z q bar h x y = absurd (unordered_left s k t b z q bar (h.compare tt))
  mixed_left Ge s k t m1 n1 b m2 n2 z q bar h x y = absurd (unordered_left s k t b z q bar (h.compare tt))
  mixed_left Eq s k t m1 n1 b m2 n2 z q bar h x y = null_left Eq s k t m1 n1 (λ T g. g) x
  mixed_left Ne s k t m1 n1 b m2 n2 z q bar h x y = null_left Ne s k t m1 n1 (λ T g. g) x

  mixed_right : (op : BinOp) (a : PlainType) (m1 : Mode) (n1 : PlainNode) (s : SpaceId) (k : Bool) (t : PlainType)
      (m2 : Mode) (n2 : PlainNode) (z q : Bool) → (IsPointer a → ⊥) → Admits op a z (pointer s k t) q
      → IsGood p table f (expression a m1 n1) → IsGood p table f (expression (pointer s k t) m2 n2)
      → IsOptional p table f (valued (mixed_operation m op false (expression a m1 n1) (expression (pointer s k t) m2 n2)))
  mixed_right Add a m1 n1 s k t m2 n2 z q bar h x y =
      moved_right Add a m1 n1 s k t m2 n2 (added_behind s k t a (offset_left a h.suit.2)) x y
  mixed_right Sub a m1 n1 s k t m2 n2 z q bar h x y = absurd (none_taken a s k t bar h.suit.2)
  mixed_right Mul a m1 n1 s k t m2 n2 z q bar h x y = absurd h.suit.1
  mixed_right Div a m1 n1 s k t m2 n2 z q bar h x y = absurd h.suit.1
  mixed_right Rem a m1 n1 s k t m2 n2 z q bar h x y = absurd h.suit.1
  mixed_right Shl a m1 n1 s k t m2 n2 z q bar h x y = absurd h.suit.1
  mixed_right Shr a m1 n1 s k t m2 n2 z q bar h x y = absurd h.suit.1
  mixed_right And a m1 n1 s k t m2 n2 z q bar h x y = absurd h.suit.1
  mixed_right Or a m1 n1 s k t m2 n2 z q bar h x y = absurd h.suit.1
  mixed_right Xor a m1 n1 s k t m2 n2 z q bar h x y = absurd h.suit.1
  mixed_right Lt a m1 n1 s k t m2 n2 z q bar h x y = absurd (unordered_right a s k t z q bar (h.compare tt))
  mixed_right Gt a m1 n1 s k t m2 n2 z q bar h x y = absurd (unordered_right a s k t z q bar (h.compare tt))
  mixed_right Le a m1 n1 s k t m2 n2 z q bar h x y = absurd (unordered_right a s k t z q bar (h.compare tt))
  mixed_right Ge a m1 n1 s k t m2 n2 z q bar h x y = absurd (unordered_right a s k t z q bar (h.compare tt))
  mixed_right Eq a m1 n1 s k t m2 n2 z q bar h x y = null_right Eq s k t m2 n2 (λ T g. g) y
  mixed_right Ne a m1 n1 s k t m2 n2 z q bar h x y = null_right Ne s k t m2 n2 (λ T g. g) y

  -- ---- any two

  numbers : (op : BinOp) (s t : Arithmetic) (m1 m2 : Mode) (n1 n2 : PlainNode) → Suit op (type_of s) (type_of t)
      → IsGood p table f (expression (type_of s) m1 n1) → IsGood p table f (expression (type_of t) m2 n2)
      → IsOptional p table f
      (valued (number_operation m op (binary_types op s t) (expression (type_of s) m1 n1) (expression (type_of t) m2 n2)))
  numbers op s t m1 m2 n1 n2 h x y =
      numbers_valid told usual p table f m op s t (expression (type_of s) m1 n1) (expression (type_of t) m2 n2)
      (number p table f s m1 n1 x) (number p table f t m2 n2 y) h

  operation_valid : (op : BinOp) (x y : PlainExpr) (z q : Bool) → Admits op (type_of_expr x) z (type_of_expr y) q
      → IsGood p table f x → IsGood p table f y
      → IsOptional p table f (with_one (operation_by m op (meeting (type_of_expr x) (type_of_expr y)) x y) valued)
  operation_valid op (expression (integer s b) m1 n1) (expression (integer t c) m2 n2) z q h x y =
      numbers op (Integer (record { signed = s; bytes = b })) (Integer (record { signed = t; bytes = c })) m1 m2 n1 n2 h.suit x y
  operation_valid op (expression (integer s b) m1 n1) (expression (fixed t c) m2 n2) z q h x y =
      numbers op (Integer (record { signed = s; bytes = b })) (Fixed (record { kind = t; sat = c })) m1 m2 n1 n2 h.suit x y
  operation_valid op (expression (fixed s b) m1 n1) (expression (integer t c) m2 n2) z q h x y =
      numbers op (Fixed (record { kind = s; sat = b })) (Integer (record { signed = t; bytes = c })) m1 m2 n1 n2 h.suit x y
  operation_valid op (expression (fixed s b) m1 n1) (expression (fixed t c) m2 n2) z q h x y =
      numbers op (Fixed (record { kind = s; sat = b })) (Fixed (record { kind = t; sat = c })) m1 m2 n1 n2 h.suit x y
  operation_valid op (expression (pointer s k t) m1 n1) (expression (pointer r c u) m2 n2) z q h x y =
      joined_valid op s r k c t u m1 m2 n1 n2 (pointers_meet op s r k c t u z q h) x y
  operation_valid op (expression (pointer s k t) m1 n1) (expression void m2 n2) z q h x y =
      mixed_left op s k t m1 n1 void m2 n2 z q (λ g. g) h x y
  operation_valid op (expression (pointer s k t) m1 n1) (expression (integer t' c) m2 n2) z q h x y =
      mixed_left op s k t m1 n1 (integer t' c) m2 n2 z q (λ g. g) h x y
  operation_valid op (expression (pointer s k t) m1 n1) (expression (fixed t' c) m2 n2) z q h x y =
      mixed_left op s k t m1 n1 (fixed t' c) m2 n2 z q (λ g. g) h x y
  operation_valid op (expression (pointer s k t) m1 n1) (expression (array of len) m2 n2) z q h x y =
      mixed_left op s k t m1 n1 (array of len) m2 n2 z q (λ g. g) h x y
  operation_valid op (expression (pointer s k t) m1 n1) (expression (struct index) m2 n2) z q h x y =
      mixed_left op s k t m1 n1 (struct index) m2 n2 z q (λ g. g) h x y
  operation_valid op (expression void m1 n1) (expression (pointer s k t) m2 n2) z q h x y =
      mixed_right op void m1 n1 s k t m2 n2 z q (λ g. g) h x y
  operation_valid op (expression (integer t' c) m1 n1) (expression (pointer s k t) m2 n2) z q h x y =
      mixed_right op (integer t' c) m1 n1 s k t m2 n2 z q (λ g. g) h x y
  operation_valid op (expression (fixed t' c) m1 n1) (expression (pointer s k t) m2 n2) z q h x y =
      mixed_right op (fixed t' c) m1 n1 s k t m2 n2 z q (λ g. g) h x y
  operation_valid op (expression (array of len) m1 n1) (expression (pointer s k t) m2 n2) z q h x y =
      mixed_right op (array of len) m1 n1 s k t m2 n2 z q (λ g. g) h x y
  operation_valid op (expression (struct index) m1 n1) (expression (pointer s k t) m2 n2) z q h x y =
      mixed_right op (struct index) m1 n1 s k t m2 n2 z q (λ g. g) h x y
  operation_valid op (expression a m1 n1) (expression b m2 n2) z q h x y = tt

  admits : (op : BinOp) (x y : Operand) → IsOperand p table f x → IsOperand p table f y
      → unsuited op (Some x) (Some y) ≡ false → incomparable op (Some x) (Some y) ≡ false
      → Admits op (value_type x) (is_null x) (value_type y) (is_null y)
  admits op x y v w s c =
      admitted told op x y (λ e. subst IsInteger (value_types_agree m x) (null_integer p table f m x v e))
      (λ e. subst IsInteger (value_types_agree m y) (null_integer p table f m y w e)) s c

  both_valid : (op : BinOp) (x y : Operand) → IsOperand p table f x → IsOperand p table f y
      → Admits op (value_type x) (is_null x) (value_type y) (is_null y)
      → IsOptional p table f (with_one (operation_by m op (meeting (value_type x) (value_type y)) (as_value m x) (as_value m y)) valued)
  both_valid op x y v w h =
      let e1 = as_value m x in let e2 = as_value m y in
      let k = both_scalar op (value_type x) (is_null x) (value_type y) (is_null y) h in
      let P : PlainType → PlainType → Type 0 = λ a b. Admits op a (is_null x) b (is_null y)
      → IsOptional p table f (with_one (operation_by m op (meeting a b) e1 e2) valued) in
      let here : P (type_of_expr e1) (type_of_expr e2) = λ g. operation_valid op e1 e2 (is_null x) (is_null y) g
      (scalar_value p table f m x v k.0).good (scalar_value p table f m y w k.1).good in
      subst (λ (a : PlainType). P a (value_type y)) (value_types_agree m x)
      (subst (λ (b : PlainType). P (type_of_expr e1) b) (value_types_agree m y) here) h

pub operated_valid : TypesAreTold → UsualConversions → (p : PlainProgram) (table : IoTable) (f : ℕ) (m : Modes) (op : BinOp)
    (x y : Option Operand) → IsOptional p table f x → IsOptional p table f y → IsOptional p table f (operated m op x y)
operated_valid told usual p table f m op None None v w = tt
operated_valid told usual p table f m op None (Some y) v w = tt
operated_valid told usual p table f m op (Some x) None v w = tt
operated_valid told usual p table f m op (Some x) (Some y) v w =
    if_both (IsOptional p table f)
    (unsuited op (Some x) (Some y) || incomparable op (Some x) (Some y) || meet_apart op (Some x) (Some y)) None
    (with_one (operation_by m op (meeting (value_type x) (value_type y)) (as_value m x) (as_value m y)) valued) (λ q. tt)
    (λ q. let first = or_parts (unsuited op (Some x) (Some y) || incomparable op (Some x) (Some y)) (meet_apart op (Some x) (Some y)) q in
    let parts = or_parts (unsuited op (Some x) (Some y)) (incomparable op (Some x) (Some y)) first.0 in
    both_valid told usual p table f m op x y v w (admits told usual p table f m op x y v w parts.0 parts.1))
