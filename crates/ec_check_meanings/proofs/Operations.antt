-- What binary operators make of two operands is what the relation says.
use Rattle.std.proofs.Common.{◌≡◌, ◌∙◌, Bool, true, false, not, ◌||◌, refl, sym, ap, subst, inl, inr}
use Rattle.std.specs.Prelude.{◌⊎◌, if◌then◌else◌, Option, Some, None}
use Rattle.std.proofs.lemmas.Bool.{not-false, false≢true}
use Rattle.ec_space.specs.declared.space.SpaceId.{SpaceId}
use Rattle.ec_space.specs.declared.space.SpaceId.TheVariants.{Flash, FarFlash, Data, Generic}
use Rattle.ec_space.specs.Spaces.{Encloses, encloses, join, IsJoin}
use Rattle.ec_space.specs.SpaceLaws.{Encloses-from_test, test_from_Encloses}
use Rattle.ec_core.specs.declared.arithmetic_types.Arithmetic.{Arithmetic}
use Rattle.ec_core.specs.declared.arithmetic_types.Arithmetic.TheVariants.{Integer, Fixed}
use Rattle.ec_core.specs.declared.expressions.BinOp.{BinOp}
use Rattle.ec_core.specs.declared.expressions.BinOp.TheVariants.{Add, Sub, Shl, Shr, Lt, Gt, Le, Ge, Eq, Ne}
use Rattle.ec_core.specs.ArithmeticTypes.{type_of}
use Rattle.ec_core.specs.ArithmeticValues.{is_comparison}
use Rattle.ec_core.specs.Laws.{TypesAreTold}
use Rattle.ec_core.specs.Operators.{OperationTypes}
use Rattle.ec_core.specs.Plain.{PlainType, void, integer, fixed, pointer, array, struct, PlainExpr, expression, null, binary}
use Rattle.ec_core.specs.Typing.{int, type_of_expr}
use Rattle.ec_check_forms.proofs.Decided.{suiting, comparing, comparisons, unsuited_told, incomparable_told, meet_apart_told}
use Rattle.ec_check_forms.proofs.ValidOperands.{value_types_agree}
use Rattle.ec_check_forms.specs.Constraints.{IsInteger, IsArithmetic, IsPointer, IsScalar, PointToOneType, AreApart, HaveNestedSpaces}
use Rattle.ec_check_forms.specs.Constraints.{SuitsAlone, SuitTogether, IsEquality, IsComparison, AreComparable, PointersMeet}
use Rattle.ec_check_forms.specs.Meanings.{HasNullType}
use Rattle.ec_check_operands.specs.declared.meetings.Meeting.{Meeting}
use Rattle.ec_check_operands.specs.declared.meetings.Meeting.TheVariants.{Pointers, Mixed, Numbers}
use Rattle.ec_check_operands.specs.declared.operands.Modes.{Modes}
use Rattle.ec_check_operands.specs.Conversions.{into_space}
use Rattle.ec_check_operands.specs.Operands.{Operand, value, made, converted, value_type, as_value, is_null, valued}
use Rattle.ec_check_operands.specs.Operators.{suits, comparable, unsuited, incomparable, meet_apart, meeting, operation_by, binary_types}
use Rattle.ec_check_operands.specs.Operators.{in_space, number_operation, null_compared, moved, mixed, operated}
use Rattle.ec_check_operands.specs.Options.{with_one}
use Rattle.ec_check_meanings.specs.Conversions.{MovesPointers, IsSum, Meet, IsConverted, IsOperation, of_numbers, pointer_first}
use Rattle.ec_check_meanings.specs.Conversions.{pointer_last}
use Rattle.ec_check_meanings.specs.Conversions.{null_first, null_last, two_pointers}
use Rattle.ec_check_meanings.proofs.Conversions.{converted_is, is_converted, meets, met}
use Rattle.ec_check_meanings.proofs.Options.{clash, refuted, inside, nothing_there, with_given, unless, implied, none_of_three}
use Rattle.ec_check_meanings.proofs.Options.{each_of_three}

-- ---- types

pub arithmetic_type : (s : Arithmetic) → IsArithmetic (type_of s)
arithmetic_type (Integer s) = tt
arithmetic_type (Fixed s) = tt

pub integer_no_pointer : (ty : PlainType) → IsInteger ty → ¬ IsPointer ty
integer_no_pointer (integer signed bytes) h g = g
integer_no_pointer ty h g = absurd h

pub number_no_pointer : (ty : PlainType) → IsArithmetic ty → ¬ IsPointer ty
number_no_pointer (integer signed bytes) h g = g
number_no_pointer (fixed kind sat) h g = g
number_no_pointer ty h g = absurd h

pub one_type_first : (a b : PlainType) → PointToOneType a b → IsPointer a
one_type_first (pointer s k t) (pointer r c u) h = tt
one_type_first a b h = absurd h

pub one_type_last : (a b : PlainType) → PointToOneType a b → IsPointer b
one_type_last (pointer s k t) (pointer r c u) h = tt
one_type_last a b h = absurd h

-- ---- spaces

same_spaces : (s r : SpaceId) → encloses s r ≡ true → encloses r s ≡ true → s ≡ r
same_spaces Flash Flash h g = refl
same_spaces Flash FarFlash h g = absurd (false≢true h)
same_spaces Flash Data h g = absurd (false≢true h)
same_spaces Flash Generic h g = absurd (false≢true h)
same_spaces FarFlash Flash h g = absurd (false≢true g)
same_spaces FarFlash FarFlash h g = refl
same_spaces FarFlash Data h g = absurd (false≢true h)
same_spaces FarFlash Generic h g = absurd (false≢true h)
same_spaces Data Flash h g = absurd (false≢true h)
same_spaces Data FarFlash h g = absurd (false≢true h)
same_spaces Data Data h g = refl
same_spaces Data Generic h g = absurd (false≢true h)
same_spaces Generic Flash h g = absurd (false≢true g)
same_spaces Generic FarFlash h g = absurd (false≢true g)
same_spaces Generic Data h g = absurd (false≢true g)
same_spaces Generic Generic h g = refl

abbrev choose_space : Bool → Bool → SpaceId → SpaceId → Option SpaceId
choose_space a b s r = if a then Some s else (if b then Some r else None)

pub join_is : (s r u : SpaceId) → join s r ≡ Some u → IsJoin s r u
join_is s r u = choose (encloses s r) (encloses r s) refl refl
  where
    choose : (a b : Bool) → encloses s r ≡ a → encloses r s ≡ b → choose_space a b s r ≡ Some u → IsJoin s r u
    choose true b e f q = inl (sym (inside q), Encloses-from_test s r e)
    choose false true e f q = inr (sym (inside q), Encloses-from_test r s f)
    choose false false e f q = absurd (nothing_there u q)

pub is_join : (s r u : SpaceId) → IsJoin s r u → join s r ≡ Some u
is_join s r u (inl (e, h)) =
    ap (λ (a : Bool). choose_space a (encloses r s) s r) (test_from_Encloses s r h) ∙ ap (λ (z : SpaceId). Some z) (sym e)
is_join s r u (inr (e, h)) = choose (encloses s r) refl
  where
    choose : (a : Bool) → encloses s r ≡ a → choose_space a (encloses r s) s r ≡ Some u
    choose true q = ap (λ (z : SpaceId). Some z) (same_spaces s r q (test_from_Encloses r s h) ∙ sym e)
    choose false q = ap (λ (b : Bool). choose_space false b s r) (test_from_Encloses r s h) ∙ ap (λ (z : SpaceId). Some z) (sym e)

pub join_nests : (s r u : SpaceId) → IsJoin s r u → Encloses s r ⊎ Encloses r s
join_nests s r u (inl h) = inl h.1
join_nests s r u (inr h) = inr h.1

-- ---- how types meet

pub numbers_meeting : (s t : Arithmetic) → meeting (type_of s) (type_of t) ≡ Numbers s t
numbers_meeting (Integer s) (Integer t) = refl
numbers_meeting (Integer s) (Fixed t) = refl
numbers_meeting (Fixed s) (Integer t) = refl
numbers_meeting (Fixed s) (Fixed t) = refl

pub pointer_left : (a b : PlainType) → IsPointer a → ¬ IsPointer b → meeting a b ≡ Mixed true
pointer_left (pointer s k t) (pointer r c u) h n = absurd (n tt)
pointer_left (pointer s k t) b h n = refl
pointer_left a b h n = absurd h

pub pointer_right : (a b : PlainType) → ¬ IsPointer a → IsPointer b → meeting a b ≡ Mixed false
pointer_right (pointer s k t) b n h = absurd (n tt)
pointer_right a (pointer r c u) n h = refl
pointer_right a b n h = absurd h

-- ---- operators

moving_scalar : (op : BinOp) (left : Bool) (ty : PlainType) → MovesPointers op → IsScalar ty → SuitsAlone op left ty
moving_scalar Add left ty u h = h
moving_scalar Sub left ty u h = h
moving_scalar op left ty u h = absurd u

moving_together : (op : BinOp) (a b : PlainType) → MovesPointers op → IsPointer a → IsInteger b → SuitTogether op a b
moving_together Add a b u h g = inr (inl (h, g))
moving_together Sub a b u h g = inr (inl (h, g))
moving_together op a b u h g = absurd u

moving_no_comparison : (op : BinOp) → MovesPointers op → ¬ IsComparison op
moving_no_comparison Add u h = h
moving_no_comparison Sub u h = h
moving_no_comparison op u h = absurd u

sum_moves : (op : BinOp) → IsSum op → MovesPointers op
sum_moves Add u = tt
sum_moves op u = absurd u

sum_together : (op : BinOp) (a b : PlainType) → IsSum op → IsInteger a → IsPointer b → SuitTogether op a b
sum_together Add a b u h g = inr (inr (h, g))
sum_together op a b u h g = absurd u

integer_scalar : (ty : PlainType) → IsInteger ty → IsScalar ty
integer_scalar (integer signed bytes) h = inl tt
integer_scalar ty h = absurd h

equality_alone : (op : BinOp) (left : Bool) (ty : PlainType) → IsEquality op → SuitsAlone op left ty
equality_alone Eq left ty u = tt
equality_alone Ne left ty u = tt
equality_alone op left ty u = absurd u

equality_together : (op : BinOp) (a b : PlainType) → IsEquality op → SuitTogether op a b
equality_together Eq a b u = tt
equality_together Ne a b u = tt
equality_together op a b u = absurd u

equality_compares : (op : BinOp) → IsEquality op → IsComparison op
equality_compares Eq u = tt
equality_compares Ne u = tt
equality_compares op u = absurd u

meeting_alone : (op : BinOp) (left : Bool) (ty : PlainType) → PointersMeet op → IsPointer ty → SuitsAlone op left ty
meeting_alone Sub left ty u h = inr h
meeting_alone Lt left ty u h = tt
meeting_alone Gt left ty u h = tt
meeting_alone Le left ty u h = tt
meeting_alone Ge left ty u h = tt
meeting_alone Eq left ty u h = tt
meeting_alone Ne left ty u h = tt
meeting_alone op left ty u h = absurd u

meeting_together : (op : BinOp) (a b : PlainType) → PointersMeet op → PointToOneType a b → SuitTogether op a b
meeting_together Sub a b u h = inr (inr h)
meeting_together Lt a b u h = tt
meeting_together Gt a b u h = tt
meeting_together Le a b u h = tt
meeting_together Ge a b u h = tt
meeting_together Eq a b u h = tt
meeting_together Ne a b u h = tt
meeting_together op a b u h = absurd u

numbers_together : (op : BinOp) (a b : PlainType) → IsArithmetic a → IsArithmetic b → SuitTogether op a b
numbers_together Add a b h g = inl (h, g)
numbers_together Sub a b h g = inl (h, g)
numbers_together op a b h g = tt

-- what takes a pointer moves it, or compares
takes_pointer : (op : BinOp) (left : Bool) (ty : PlainType) → IsPointer ty → SuitsAlone op left ty → MovesPointers op ⊎ IsComparison op
takes_pointer Add left (pointer s k t) h g = inl tt
takes_pointer Sub left (pointer s k t) h g = inl tt
takes_pointer Lt left (pointer s k t) h g = inr tt
takes_pointer Gt left (pointer s k t) h g = inr tt
takes_pointer Le left (pointer s k t) h g = inr tt
takes_pointer Ge left (pointer s k t) h g = inr tt
takes_pointer Eq left (pointer s k t) h g = inr tt
takes_pointer Ne left (pointer s k t) h g = inr tt
takes_pointer Shl true (pointer s k t) h g = absurd g
takes_pointer Shl false (pointer s k t) h g = absurd g
takes_pointer Shr true (pointer s k t) h g = absurd g
takes_pointer Shr false (pointer s k t) h g = absurd g
takes_pointer op left (pointer s k t) h g = absurd g
takes_pointer op left ty h g = absurd h

comparison_meets : (op : BinOp) → IsComparison op → PointersMeet op
comparison_meets Sub h = absurd h
comparison_meets op h = h

-- a pointer that is moved stands beside an integer
moved_by : (op : BinOp) (a b : PlainType) → MovesPointers op → IsPointer a → ¬ IsPointer b → SuitTogether op a b → IsInteger b
moved_by Add a b u h n (inl g) = absurd (number_no_pointer a g.0 h)
moved_by Add a b u h n (inr (inl g)) = g.1
moved_by Add a b u h n (inr (inr g)) = absurd (n g.1)
moved_by Sub a b u h n (inl g) = absurd (number_no_pointer a g.0 h)
moved_by Sub a b u h n (inr (inl g)) = g.1
moved_by Sub a b u h n (inr (inr g)) = absurd (n (one_type_last a b g))
moved_by op a b u h n g = absurd u

-- behind an integer it is added
added_to : (op : BinOp) (a b : PlainType) → MovesPointers op → ¬ IsPointer a → IsPointer b → SuitTogether op a b → IsSum op × IsInteger a
added_to Add a b u n h (inl g) = absurd (number_no_pointer b g.1 h)
added_to Add a b u n h (inr (inl g)) = absurd (n g.0)
added_to Add a b u n h (inr (inr g)) = (tt, g.0)
added_to Sub a b u n h (inl g) = absurd (number_no_pointer b g.1 h)
added_to Sub a b u n h (inr (inl g)) = absurd (n g.0)
added_to Sub a b u n h (inr (inr g)) = absurd (n (one_type_first a b g))
added_to op a b u n h g = absurd u

-- two pointers are subtracted
subtracted : (op : BinOp) (a b : PlainType) → MovesPointers op → IsPointer a → IsPointer b → SuitTogether op a b
    → PointersMeet op × PointToOneType a b
subtracted Add a b u h g (inl i) = absurd (number_no_pointer a i.0 h)
subtracted Add a b u h g (inr (inl i)) = absurd (integer_no_pointer b i.1 g)
subtracted Add a b u h g (inr (inr i)) = absurd (integer_no_pointer a i.0 h)
subtracted Sub a b u h g (inl i) = absurd (number_no_pointer a i.0 h)
subtracted Sub a b u h g (inr (inl i)) = absurd (integer_no_pointer b i.1 g)
subtracted Sub a b u h g (inr (inr i)) = (tt, i)
subtracted op a b u h g i = absurd u

-- ---- operations that break no rule

-- what the rules ask of an operation
record IsSuited (op : BinOp) (a b : Operand) : Type 0 where
  left : SuitsAlone op true (value_type a)
  right : SuitsAlone op false (value_type b)
  both : SuitTogether op (value_type a) (value_type b)
  comparable : IsComparison op → AreComparable op a b
  nested : PointersMeet op → ¬ AreApart (value_type a) (value_type b)

abbrev is_broken : BinOp → Operand → Operand → Bool
is_broken op a b = unsuited op (Some a) (Some b) || incomparable op (Some a) (Some b) || meet_apart op (Some a) (Some b)

module _ (told : TypesAreTold) (op : BinOp) (a b : Operand) where
  is_suited : is_broken op a b ≡ false → IsSuited op a b
  is_suited q =
      let e = each_of_three (unsuited op (Some a) (Some b)) (incomparable op (Some a) (Some b)) (meet_apart op (Some a) (Some b)) q in
      let s = (suiting told op (value_type a) (value_type b)).0 (not-false (suits op (value_type a) (value_type b)) e.0) in record {
        left = s.0;
        right = s.1;
        both = s.2;
        comparable = λ h. (comparing told op a b).0 (implied (is_comparison op)
            (comparable op (value_type a) (is_null a) (value_type b) (is_null b)) e.1 ((comparisons op).1 h));
        nested = λ h n. clash ((meet_apart_told told op (Some a) (Some b)).1 (h, n)) e.2;
      }

  unbroken : IsSuited op a b → is_broken op a b ≡ false
  unbroken s =
      none_of_three (unsuited op (Some a) (Some b)) (incomparable op (Some a) (Some b)) (meet_apart op (Some a) (Some b))
      (refuted (unsuited op (Some a) (Some b)) (λ e. (unsuited_told told op (Some a) (Some b)).0 e (s.left, s.right, s.both)))
      (refuted (incomparable op (Some a) (Some b))
      (λ e. let h = (incomparable_told told op (Some a) (Some b)).0 e in h.1 (s.comparable h.0)))
      (refuted (meet_apart op (Some a) (Some b)) (λ e. let h = (meet_apart_told told op (Some a) (Some b)).0 e in s.nested h.0 h.1))

-- a pointer in another space
in_space_of : (m : Modes) (u : SpaceId) (e : PlainExpr) (s : SpaceId) (k : Bool) (to : PlainType) → type_of_expr e ≡ pointer s k to
    → in_space m u e ≡ converted m (pointer u k to) e
in_space_of m u (expression void mode node) s k to q = cc
in_space_of m u (expression (integer signed bytes) mode node) s k to q = cc
in_space_of m u (expression (fixed kind sat) mode node) s k to q = cc
in_space_of m u (expression (array of len) mode node) s k to q = cc
in_space_of m u (expression (struct index) mode node) s k to q = cc
in_space_of m u (expression (pointer r c t) mode node) s k to q =
    ap (λ (ty : PlainType). converted m (into_space u ty) (expression (pointer r c t) mode node)) q

-- ---- an operation is as the relation says

module _ (told : TypesAreTold) (m : Modes) (op : BinOp) (a b : Operand) where
  -- with another type of the result
  abbrev typed : PlainExpr → PlainExpr → PlainType → PlainExpr
  typed x y ty = made m ty (binary op x y)

  numbers_is : (s t : Arithmetic) → value_type a ≡ type_of s → value_type b ≡ type_of t → IsSuited op a b → (e : PlainExpr)
      → Some (number_operation m op (binary_types op s t) (as_value m a) (as_value m b)) ≡ Some e → IsOperation m op a b e
  numbers_is s t ea eb i e q =
      let same : number_operation m op (binary_types op s t) (as_value m a) (as_value m b) ≡ e = inside q in
      let left : SuitsAlone op true (type_of s) = subst (SuitsAlone op true) ea i.left in
      let right : SuitsAlone op false (type_of t) = subst (SuitsAlone op false) eb i.right in
      subst (IsOperation m op a b) same
      (of_numbers ea eb left right (meets op s t right)
      (converted_is told m (type_of (binary_types op s t).left) (as_value m a))
      (converted_is told m (type_of (binary_types op s t).right) (as_value m b)))

  left_is : IsPointer (value_type a) → ¬ IsPointer (value_type b) → IsSuited op a b → (e : PlainExpr)
      → Some (mixed m op true (as_value m a) (as_value m b)) ≡ Some e → IsOperation m op a b e
  left_is h n i e q = choose (takes_pointer op true (value_type a) h i.left)
    where
      moves : MovesPointers op → IsOperation m op a b e
      moves u =
          let off = refuted (is_comparison op) (λ z. moving_no_comparison op u ((comparisons op).0 z)) in
          let made_so : mixed m op true (as_value m a) (as_value m b) ≡ typed (as_value m a) (as_value m b) (value_type a) =
          ap (λ (z : Bool). if z then null_compared m op true (as_value m a) else moved m op true (as_value m a) (as_value m b)) off
          ∙ ap (typed (as_value m a) (as_value m b)) (value_types_agree m a) in
          let same : typed (as_value m a) (as_value m b) (value_type a) ≡ e = sym made_so ∙ inside q in
          subst (IsOperation m op a b) same
          (pointer_first u h (moved_by op (value_type a) (value_type b) u h n i.both))

      compares : IsComparison op → AreComparable op a b → IsOperation m op a b e
      compares u (inl g) = absurd (number_no_pointer (value_type a) g.0 h)
      compares u (inr (inl g)) = absurd (n (one_type_last (value_type a) (value_type b) g))
      compares u (inr (inr (x, inr g))) = absurd (n g.1)
      compares u (inr (inr (x, inl g))) =
          let on = (comparisons op).1 u in
          let made_so : mixed m op true (as_value m a) (as_value m b) ≡ typed (as_value m a) (made m (value_type a) null) int =
          ap (λ (z : Bool). if z then null_compared m op true (as_value m a) else moved m op true (as_value m a) (as_value m b)) on
          ∙ ap (λ (ty : PlainType). typed (as_value m a) (made m ty null) int) (value_types_agree m a) in
          let same : typed (as_value m a) (made m (value_type a) null) int ≡ e = sym made_so ∙ inside q in
          subst (IsOperation m op a b) same (null_last x h g.1)

      choose : MovesPointers op ⊎ IsComparison op → IsOperation m op a b e
      choose (inl u) = moves u
      choose (inr u) = compares u (i.comparable u)

  right_is : ¬ IsPointer (value_type a) → IsPointer (value_type b) → IsSuited op a b → (e : PlainExpr)
      → Some (mixed m op false (as_value m b) (as_value m a)) ≡ Some e → IsOperation m op a b e
  right_is n h i e q = choose (takes_pointer op false (value_type b) h i.right)
    where
      moves : MovesPointers op → IsOperation m op a b e
      moves u =
          let off = refuted (is_comparison op) (λ z. moving_no_comparison op u ((comparisons op).0 z)) in
          let made_so : mixed m op false (as_value m b) (as_value m a) ≡ typed (as_value m a) (as_value m b) (value_type b) =
          ap (λ (z : Bool). if z then null_compared m op false (as_value m b) else moved m op false (as_value m b) (as_value m a)) off
          ∙ ap (typed (as_value m a) (as_value m b)) (value_types_agree m b) in
          let same : typed (as_value m a) (as_value m b) (value_type b) ≡ e = sym made_so ∙ inside q in
          let g = added_to op (value_type a) (value_type b) u n h i.both in
          subst (IsOperation m op a b) same (pointer_last g.0 g.1 h)

      compares : IsComparison op → AreComparable op a b → IsOperation m op a b e
      compares u (inl g) = absurd (number_no_pointer (value_type b) g.1 h)
      compares u (inr (inl g)) = absurd (n (one_type_first (value_type a) (value_type b) g))
      compares u (inr (inr (x, inl g))) = absurd (n g.0)
      compares u (inr (inr (x, inr g))) =
          let on = (comparisons op).1 u in
          let made_so : mixed m op false (as_value m b) (as_value m a) ≡ typed (made m (value_type b) null) (as_value m b) int =
          ap (λ (z : Bool). if z then null_compared m op false (as_value m b) else moved m op false (as_value m b) (as_value m a)) on
          ∙ ap (λ (ty : PlainType). typed (made m ty null) (as_value m b) int) (value_types_agree m b) in
          let same : typed (made m (value_type b) null) (as_value m b) int ≡ e = sym made_so ∙ inside q in
          subst (IsOperation m op a b) same (null_first x g.0 h)

      choose : MovesPointers op ⊎ IsComparison op → IsOperation m op a b e
      choose (inl u) = moves u
      choose (inr u) = compares u (i.comparable u)

  -- two pointers to one type
  one_type_met : HasNullType a → HasNullType b → IsPointer (value_type a) → IsPointer (value_type b) → IsSuited op a b
      → PointersMeet op × PointToOneType (value_type a) (value_type b)
  one_type_met na nb h g i = choose (takes_pointer op true (value_type a) h i.left)
    where
      compares : IsComparison op → AreComparable op a b → PointersMeet op × PointToOneType (value_type a) (value_type b)
      compares u (inl z) = absurd (number_no_pointer (value_type a) z.0 h)
      compares u (inr (inl z)) = (comparison_meets op u, z)
      compares u (inr (inr (x, inl z))) = absurd (integer_no_pointer (value_type b) (nb z.1) g)
      compares u (inr (inr (x, inr z))) = absurd (integer_no_pointer (value_type a) (na z.0) h)

      choose : MovesPointers op ⊎ IsComparison op → PointersMeet op × PointToOneType (value_type a) (value_type b)
      choose (inl u) = subtracted op (value_type a) (value_type b) u h g i.both
      choose (inr u) = compares u (i.comparable u)

  both_is : (s r : SpaceId) (k l : Bool) (to other : PlainType) → value_type a ≡ pointer s k to → value_type b ≡ pointer r l other
      → PointersMeet op → to ≡ other → (e : PlainExpr)
      → with_one (join s r) (λ u. Some (made m int (binary op (in_space m u (as_value m a)) (in_space m u (as_value m b))))) ≡ Some e
      → IsOperation m op a b e
  both_is s r k l to other ea eb h t e q =
      let g = with_given (join s r) (λ u. Some (made m int (binary op (in_space m u (as_value m a)) (in_space m u (as_value m b))))) e q in
      let u = g.0 in
      let x = in_space_of m u (as_value m a) s k to (value_types_agree m a ∙ ea) in
      let eb' : value_type b ≡ pointer r l to = eb ∙ ap (pointer r l) (sym t) in
      let y = in_space_of m u (as_value m b) r l to (value_types_agree m b ∙ eb') in
      let same : made m int (binary op (converted m (pointer u k to) (as_value m a)) (converted m (pointer u l to) (as_value m b))) ≡ e =
      ap (λ (v : PlainExpr). made m int (binary op v (converted m (pointer u l to) (as_value m b)))) (sym x)
      ∙ ap (λ (v : PlainExpr). made m int (binary op (in_space m u (as_value m a)) v)) (sym y) ∙ inside g.2 in
      subst (IsOperation m op a b) same
      (two_pointers h ea eb' (join_is s r u g.1) (converted_is told m (pointer u k to) (as_value m a))
      (converted_is told m (pointer u l to) (as_value m b)))

  module _ (na : HasNullType a) (nb : HasNullType b) (i : IsSuited op a b) where
    both_pointers : (s r : SpaceId) (k l : Bool) (to other : PlainType) → value_type a ≡ pointer s k to
        → value_type b ≡ pointer r l other → (e : PlainExpr)
        → with_one (join s r) (λ u. Some (made m int (binary op (in_space m u (as_value m a)) (in_space m u (as_value m b))))) ≡ Some e
        → IsOperation m op a b e
    both_pointers s r k l to other ea eb e q =
        let h = one_type_met na nb (subst IsPointer (sym ea) tt) (subst IsPointer (sym eb) tt) i in
        let t : PointToOneType (pointer s k to) (pointer r l other) =
        subst (λ (z : PlainType). PointToOneType (pointer s k to) z) eb
        (subst (λ (z : PlainType). PointToOneType z (value_type b)) ea h.1) in
        both_is s r k l to other ea eb h.0 t e q

    operation_is : (A B : PlainType) → value_type a ≡ A → value_type b ≡ B → (e : PlainExpr)
        → operation_by m op (meeting A B) (as_value m a) (as_value m b) ≡ Some e → IsOperation m op a b e
    operation_is (pointer s k to) (pointer r l other) ea eb e q = both_pointers s r k l to other ea eb e q
    operation_is (pointer s k to) B ea eb e q =
        left_is (subst IsPointer (sym ea) tt) (λ h. let z : IsPointer B = subst IsPointer eb h in z) i e q
    operation_is A (pointer r l other) ea eb e q =
        right_is (λ h. let z : IsPointer A = subst IsPointer ea h in z) (subst IsPointer (sym eb) tt) i e q
    operation_is (integer s n) (integer t o) ea eb e q =
        numbers_is (Integer (record { signed = s; bytes = n })) (Integer (record { signed = t; bytes = o })) ea eb i e q
    operation_is (integer s n) (fixed kind sat) ea eb e q =
        numbers_is (Integer (record { signed = s; bytes = n })) (Fixed (record { kind = kind; sat = sat })) ea eb i e q
    operation_is (fixed kind sat) (integer t o) ea eb e q =
        numbers_is (Fixed (record { kind = kind; sat = sat })) (Integer (record { signed = t; bytes = o })) ea eb i e q
    operation_is (fixed kind sat) (fixed other full) ea eb e q =
        numbers_is (Fixed (record { kind = kind; sat = sat })) (Fixed (record { kind = other; sat = full })) ea eb i e q
    operation_is A B ea eb e q = absurd (nothing_there e q)

  pub operated_is : HasNullType a → HasNullType b → (o : Operand) → operated m op (Some a) (Some b) ≡ Some o
      → (e : PlainExpr) × (value e false ≡ o) × IsOperation m op a b e
  operated_is na nb o q =
      let g = unless (is_broken op a b)
      (with_one (operation_by m op (meeting (value_type a) (value_type b)) (as_value m a) (as_value m b)) valued) o q in
      let h = with_given (operation_by m op (meeting (value_type a) (value_type b)) (as_value m a) (as_value m b)) valued o g.1 in
      let same : value h.0 false ≡ o = inside h.2 in
      (h.0, same, operation_is na nb (is_suited told op a b g.0) (value_type a) (value_type b) refl refl h.0 h.1)

-- ---- the relation is what an operation makes

module _ (told : TypesAreTold) (m : Modes) (op : BinOp) (a b : Operand) where
  abbrev outcome : Meeting → Option Operand
  outcome z = with_one (operation_by m op z (as_value m a) (as_value m b)) valued

  -- an operation that breaks no rule, on operands that meet so
  made_by : (z : Meeting) (e : PlainExpr) → IsSuited op a b → meeting (value_type a) (value_type b) ≡ z → outcome z ≡ Some (value e false)
      → operated m op (Some a) (Some b) ≡ Some (value e false)
  made_by z e i h q =
      ap (λ (broken : Bool). if broken then None else outcome (meeting (value_type a) (value_type b))) (unbroken told op a b i)
      ∙ ap outcome h ∙ q

  some_value : {e f : PlainExpr} → e ≡ f → ◌≡◌ {A = Option Operand} (Some (value e false)) (Some (value f false))
  some_value h = ap (λ (e : PlainExpr). Some (value e false)) h

  numbers_made : (s t l r u : Arithmetic) (e f : PlainExpr) → value_type a ≡ type_of s → value_type b ≡ type_of t
      → SuitsAlone op true (type_of s) → SuitsAlone op false (type_of t) → Meet op s t l r u
      → IsConverted m (type_of l) (as_value m a) e → IsConverted m (type_of r) (as_value m b) f
      → operated m op (Some a) (Some b) ≡ Some (value (made m (type_of u) (binary op e f)) false)
  numbers_made s t l r u e f ea eb h g z ce cf =
      made_by (Numbers s t) (made m (type_of u) (binary op e f)) suited met_so (some_value numbers_so)
    where
      left : IsArithmetic (value_type a)
      left = subst IsArithmetic (sym ea) (arithmetic_type s)

      right : IsArithmetic (value_type b)
      right = subst IsArithmetic (sym eb) (arithmetic_type t)

      suited : IsSuited op a b
      suited = record {
        left = subst (SuitsAlone op true) (sym ea) h;
        right = subst (SuitsAlone op false) (sym eb) g;
        both = numbers_together op (value_type a) (value_type b) left right;
        comparable = λ u. inl (left, right);
        nested = λ u n. number_no_pointer (value_type a) left (one_type_first (value_type a) (value_type b) n.0);
      }

      met_so : meeting (value_type a) (value_type b) ≡ Numbers s t
      met_so = ap (λ (z : PlainType). meeting z (value_type b)) ea ∙ ap (meeting (type_of s)) eb ∙ numbers_meeting s t

      numbers_so : number_operation m op (binary_types op s t) (as_value m a) (as_value m b) ≡ made m (type_of u) (binary op e f)
      numbers_so =
          ap (λ (ty : OperationTypes). number_operation m op ty (as_value m a) (as_value m b)) (met op s t l r u z)
          ∙ ap (λ (x : PlainExpr). made m (type_of u) (binary op x (converted m (type_of r) (as_value m b))))
          (is_converted told m (type_of l) (as_value m a) e ce)
          ∙ ap (λ (y : PlainExpr). made m (type_of u) (binary op e y)) (is_converted told m (type_of r) (as_value m b) f cf)

  no_comparison : ¬ IsComparison op → is_comparison op ≡ false
  no_comparison n = refuted (is_comparison op) (λ z. n ((comparisons op).0 z))

  pointer_first_made : MovesPointers op → IsPointer (value_type a) → IsInteger (value_type b)
      → operated m op (Some a) (Some b) ≡ Some (value (made m (value_type a) (binary op (as_value m a) (as_value m b))) false)
  pointer_first_made u h g =
      let n = integer_no_pointer (value_type b) g in
      made_by (Mixed true) (made m (value_type a) (binary op (as_value m a) (as_value m b)))
      (record {
        left = moving_scalar op true (value_type a) u (inr h);
        right = moving_scalar op false (value_type b) u (integer_scalar (value_type b) g);
        both = moving_together op (value_type a) (value_type b) u h g;
        comparable = λ z. absurd (moving_no_comparison op u z);
        nested = λ z i. n (one_type_last (value_type a) (value_type b) i.0);
      })
      (pointer_left (value_type a) (value_type b) h n)
      (some_value
      (ap (λ (z : Bool). if z then null_compared m op true (as_value m a) else moved m op true (as_value m a) (as_value m b))
      (no_comparison (moving_no_comparison op u))
      ∙ ap (λ (ty : PlainType). made m ty (binary op (as_value m a) (as_value m b))) (value_types_agree m a)))

  pointer_last_made : IsSum op → IsInteger (value_type a) → IsPointer (value_type b)
      → operated m op (Some a) (Some b) ≡ Some (value (made m (value_type b) (binary op (as_value m a) (as_value m b))) false)
  pointer_last_made u h g =
      let n = integer_no_pointer (value_type a) h in
      made_by (Mixed false) (made m (value_type b) (binary op (as_value m a) (as_value m b)))
      (record {
        left = moving_scalar op true (value_type a) (sum_moves op u) (integer_scalar (value_type a) h);
        right = moving_scalar op false (value_type b) (sum_moves op u) (inr g);
        both = sum_together op (value_type a) (value_type b) u h g;
        comparable = λ z. absurd (moving_no_comparison op (sum_moves op u) z);
        nested = λ z i. n (one_type_first (value_type a) (value_type b) i.0);
      })
      (pointer_right (value_type a) (value_type b) n g)
      (some_value
      (ap (λ (z : Bool). if z then null_compared m op false (as_value m b) else moved m op false (as_value m b) (as_value m a))
      (no_comparison (moving_no_comparison op (sum_moves op u)))
      ∙ ap (λ (ty : PlainType). made m ty (binary op (as_value m a) (as_value m b))) (value_types_agree m b)))

  null_first_made : HasNullType a → IsEquality op → is_null a ≡ true → IsPointer (value_type b)
      → operated m op (Some a) (Some b) ≡ Some (value (made m int (binary op (made m (value_type b) null) (as_value m b))) false)
  null_first_made na u h g =
      let n = integer_no_pointer (value_type a) (na h) in
      made_by (Mixed false) (made m int (binary op (made m (value_type b) null) (as_value m b)))
      (record {
        left = equality_alone op true (value_type a) u;
        right = equality_alone op false (value_type b) u;
        both = equality_together op (value_type a) (value_type b) u;
        comparable = λ z. inr (inr (u, inr (h, g)));
        nested = λ z i. n (one_type_first (value_type a) (value_type b) i.0);
      })
      (pointer_right (value_type a) (value_type b) n g)
      (some_value
      (ap (λ (z : Bool). if z then null_compared m op false (as_value m b) else moved m op false (as_value m b) (as_value m a))
      ((comparisons op).1 (equality_compares op u))
      ∙ ap (λ (ty : PlainType). made m int (binary op (made m ty null) (as_value m b))) (value_types_agree m b)))

  null_last_made : HasNullType b → IsEquality op → IsPointer (value_type a) → is_null b ≡ true
      → operated m op (Some a) (Some b) ≡ Some (value (made m int (binary op (as_value m a) (made m (value_type a) null))) false)
  null_last_made nb u g h =
      let n = integer_no_pointer (value_type b) (nb h) in
      made_by (Mixed true) (made m int (binary op (as_value m a) (made m (value_type a) null)))
      (record {
        left = equality_alone op true (value_type a) u;
        right = equality_alone op false (value_type b) u;
        both = equality_together op (value_type a) (value_type b) u;
        comparable = λ z. inr (inr (u, inl (g, h)));
        nested = λ z i. n (one_type_last (value_type a) (value_type b) i.0);
      })
      (pointer_left (value_type a) (value_type b) g n)
      (some_value
      (ap (λ (z : Bool). if z then null_compared m op true (as_value m a) else moved m op true (as_value m a) (as_value m b))
      ((comparisons op).1 (equality_compares op u))
      ∙ ap (λ (ty : PlainType). made m int (binary op (as_value m a) (made m ty null))) (value_types_agree m a)))

  two_pointers_made : (s r u : SpaceId) (k l : Bool) (to : PlainType) (e f : PlainExpr) → PointersMeet op
      → value_type a ≡ pointer s k to → value_type b ≡ pointer r l to → IsJoin s r u
      → IsConverted m (pointer u k to) (as_value m a) e → IsConverted m (pointer u l to) (as_value m b) f
      → operated m op (Some a) (Some b) ≡ Some (value (made m int (binary op e f)) false)
  two_pointers_made s r u k l to e f h ea eb j ce cf =
      made_by (Pointers (join s r)) (made m int (binary op e f))
      (record {
        left = meeting_alone op true (value_type a) h (one_type_first (value_type a) (value_type b) one);
        right = meeting_alone op false (value_type b) h (one_type_last (value_type a) (value_type b) one);
        both = meeting_together op (value_type a) (value_type b) h one;
        comparable = λ z. inr (inl one);
        nested = λ z i. i.1 nest;
      })
      (ap (λ (z : PlainType). meeting z (value_type b)) ea ∙ ap (meeting (pointer s k to)) eb)
      (ap (λ (o : Option SpaceId). outcome (Pointers o)) (is_join s r u j)
      ∙ some_value
      (ap (λ (x : PlainExpr). made m int (binary op x (in_space m u (as_value m b)))) left
      ∙ ap (λ (y : PlainExpr). made m int (binary op e y)) right))
    where
      one : PointToOneType (value_type a) (value_type b)
      one = subst (λ (z : PlainType). PointToOneType (value_type a) z) (sym eb)
          (subst (λ (z : PlainType). PointToOneType z (pointer r l to)) (sym ea) refl)

      nest : HaveNestedSpaces (value_type a) (value_type b)
      nest = subst (λ (z : PlainType). HaveNestedSpaces (value_type a) z) (sym eb)
          (subst (λ (z : PlainType). HaveNestedSpaces z (pointer r l to)) (sym ea) (join_nests s r u j))

      left : in_space m u (as_value m a) ≡ e
      left = in_space_of m u (as_value m a) s k to (value_types_agree m a ∙ ea) ∙ is_converted told m (pointer u k to) (as_value m a) e ce

      right : in_space m u (as_value m b) ≡ f
      right = in_space_of m u (as_value m b) r l to (value_types_agree m b ∙ eb) ∙ is_converted told m (pointer u l to) (as_value m b) f cf

  pub is_operated : HasNullType a → HasNullType b → (e : PlainExpr) → IsOperation m op a b e
      → operated m op (Some a) (Some b) ≡ Some (value e false)
  is_operated na nb _ (of_numbers {s = s} {t = t} {left = l} {right = r} {result = u} {e = e} {f = f} ea eb h g z ce cf) =
      numbers_made s t l r u e f ea eb h g z ce cf
  is_operated na nb _ (pointer_first u h g) = pointer_first_made u h g
  is_operated na nb _ (pointer_last u h g) = pointer_last_made u h g
  is_operated na nb _ (null_first u h g) = null_first_made na u h g
  is_operated na nb _ (null_last u h g) = null_last_made nb u h g
  is_operated na nb _ (two_pointers {s = s} {r = r} {u = u} {k = k} {c = l} {to = to} {e = e} {f = f} h ea eb j ce cf) =
      two_pointers_made s r u k l to e f h ea eb j ce cf
