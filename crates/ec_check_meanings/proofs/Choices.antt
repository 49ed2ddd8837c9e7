-- What `?:` chooses from is what the relation says.
use Rattle.std.proofs.Common.{◌≡◌, ◌∙◌, Bool, true, false, not, ◌||◌, refl, sym, ap, subst, inl, inr}
use Rattle.std.specs.Prelude.{◌⊎◌, if◌then◌else◌, Option, Some, None}
use Rattle.std.proofs.lemmas.Bool.{not-false}
use Rattle.ec_space.specs.declared.space.SpaceId.{SpaceId}
use Rattle.ec_space.specs.Spaces.{join, IsJoin}
use Rattle.ec_core.specs.declared.arithmetic_types.Arithmetic.{Arithmetic}
use Rattle.ec_core.specs.declared.arithmetic_types.Arithmetic.TheVariants.{Integer, Fixed}
use Rattle.ec_core.specs.ArithmeticTypes.{type_of, common}
use Rattle.ec_core.specs.Laws.{TypesAreTold}
use Rattle.ec_core.specs.Plain.{PlainType, void, integer, fixed, pointer}
use Rattle.ec_check_forms.proofs.Decided.{alternating}
use Rattle.ec_check_forms.specs.Choices.{alternatives, choice_type}
use Rattle.ec_check_forms.specs.Constraints.{IsInteger, IsArithmetic, IsPointer, PointToOneType, AreAlternatives}
use Rattle.ec_check_forms.specs.Meanings.{HasNullType}
use Rattle.ec_check_operands.specs.declared.meetings.Meeting.{Meeting}
use Rattle.ec_check_operands.specs.declared.meetings.Meeting.TheVariants.{Pointers, Mixed, Numbers}
use Rattle.ec_check_operands.specs.Meetings.{pointer_between, type_between}
use Rattle.ec_check_operands.specs.Operands.{Operand, value_type, is_null}
use Rattle.ec_check_operands.specs.Operators.{meeting}
use Rattle.ec_check_operands.specs.Options.{with_one}
use Rattle.ec_check_operands.specs.Sorts.{is_void}
use Rattle.ec_check_meanings.specs.Conversions.{IsChoice, of_void, number_branches, null_branch_first, null_branch_last, pointer_branches}
use Rattle.ec_check_meanings.proofs.Operations.{arithmetic_type, integer_no_pointer, number_no_pointer, one_type_first}
use Rattle.ec_check_meanings.proofs.Operations.{one_type_last, join_is, is_join, numbers_meeting, pointer_left, pointer_right}
use Rattle.ec_check_meanings.proofs.Options.{inside, nothing_there, with_given, unless}

abbrev are_alternatives : Operand → Operand → Bool
are_alternatives a b = alternatives (value_type a) (is_null a) (value_type b) (is_null b)

pointer_not_void : (ty : PlainType) → IsPointer ty → is_void ty ≡ false
pointer_not_void (pointer s k t) h = refl
pointer_not_void ty h = absurd h

integer_not_void : (ty : PlainType) → IsInteger ty → is_void ty ≡ false
integer_not_void (integer signed bytes) h = refl
integer_not_void ty h = absurd h

number_not_void : (s : Arithmetic) → is_void (type_of s) ≡ false
number_not_void (Integer s) = refl
number_not_void (Fixed s) = refl

module _ (told : TypesAreTold) (a b : Operand) (na : HasNullType a) (nb : HasNullType b) where
  abbrev type_by : Bool → Option PlainType
  type_by nothing = if nothing then Some void else type_between (meeting (value_type a) (value_type b)) (value_type a) (value_type b)

  -- ---- the type of a choice is as the relation says

  module _ (i : AreAlternatives a b) where
    both_void : value_type a ≡ void → AreAlternatives a b → value_type b ≡ void
    both_void ea (inl h) = h.1
    both_void ea (inr (inl h)) = absurd (let z : IsArithmetic void = subst IsArithmetic ea h.0 in z)
    both_void ea (inr (inr (inl h))) =
        absurd (let z : IsPointer void = subst IsPointer ea (one_type_first (value_type a) (value_type b) h) in z)
    both_void ea (inr (inr (inr (inl h)))) = absurd (let z : IsPointer void = subst IsPointer ea h.0 in z)
    both_void ea (inr (inr (inr (inr h)))) = absurd (let z : IsInteger void = subst IsInteger ea (na h.0) in z)

    to_one_type : IsPointer (value_type a) → IsPointer (value_type b) → AreAlternatives a b → PointToOneType (value_type a) (value_type b)
    to_one_type h g (inl z) = absurd (let p : IsPointer void = subst IsPointer z.0 h in p)
    to_one_type h g (inr (inl z)) = absurd (number_no_pointer (value_type a) z.0 h)
    to_one_type h g (inr (inr (inl z))) = z
    to_one_type h g (inr (inr (inr (inl z)))) = absurd (integer_no_pointer (value_type b) (nb z.1) g)
    to_one_type h g (inr (inr (inr (inr z)))) = absurd (integer_no_pointer (value_type a) (na z.0) h)

    null_behind : IsPointer (value_type a) → ¬ IsPointer (value_type b) → AreAlternatives a b → is_null b ≡ true
    null_behind h n (inl z) = absurd (let p : IsPointer void = subst IsPointer z.0 h in p)
    null_behind h n (inr (inl z)) = absurd (number_no_pointer (value_type a) z.0 h)
    null_behind h n (inr (inr (inl z))) = absurd (n (one_type_last (value_type a) (value_type b) z))
    null_behind h n (inr (inr (inr (inl z)))) = z.1
    null_behind h n (inr (inr (inr (inr z)))) = absurd (n z.1)

    null_before : ¬ IsPointer (value_type a) → IsPointer (value_type b) → AreAlternatives a b → is_null a ≡ true
    null_before n h (inl z) = absurd (let p : IsPointer void = subst IsPointer z.1 h in p)
    null_before n h (inr (inl z)) = absurd (number_no_pointer (value_type b) z.1 h)
    null_before n h (inr (inr (inl z))) = absurd (n (one_type_first (value_type a) (value_type b) z))
    null_before n h (inr (inr (inr (inl z)))) = absurd (n z.0)
    null_before n h (inr (inr (inr (inr z)))) = z.0

    numbers_choice : (s t : Arithmetic) → value_type a ≡ type_of s → value_type b ≡ type_of t → (ty : PlainType)
        → ◌≡◌ {A = Option PlainType} (Some (type_of (common s t))) (Some ty) → IsChoice a b ty
    numbers_choice s t ea eb ty q =
        let same : type_of (common s t) ≡ ty = inside q in subst (IsChoice a b) same (number_branches s t ea eb)

    pointers_choice : (s r : SpaceId) (k l : Bool) (to other : PlainType) → value_type a ≡ pointer s k to → value_type b ≡ pointer r l other
        → to ≡ other → (ty : PlainType)
        → with_one (join s r) (λ u. pointer_between u (pointer s k to) (pointer r l other)) ≡ Some ty → IsChoice a b ty
    pointers_choice s r k l to other ea eb t ty q =
        let g = with_given (join s r) (λ u. pointer_between u (pointer s k to) (pointer r l other)) ty q in
        let same : pointer g.0 (k || l) to ≡ ty = inside g.2 in
        subst (IsChoice a b) same (pointer_branches ea (eb ∙ ap (pointer r l) (sym t)) (join_is s r g.0 g.1))

    choice_by : (A B : PlainType) → value_type a ≡ A → value_type b ≡ B → (ty : PlainType)
        → (if is_void A then Some void else type_between (meeting A B) A B) ≡ Some ty → IsChoice a b ty
    choice_by void B ea eb ty q = let same : void ≡ ty = inside q in subst (IsChoice a b) same (of_void ea (both_void ea i))
    choice_by (pointer s k to) (pointer r l other) ea eb ty q =
        let o = to_one_type (subst IsPointer (sym ea) tt) (subst IsPointer (sym eb) tt) i in
        let t : PointToOneType (pointer s k to) (pointer r l other) =
        subst (λ (z : PlainType). PointToOneType (pointer s k to) z) eb (subst (λ (z : PlainType). PointToOneType z (value_type b)) ea o) in
        pointers_choice s r k l to other ea eb t ty q
    choice_by (pointer s k to) B ea eb ty q =
        let h = subst IsPointer (sym ea) tt in
        let same : value_type a ≡ ty = ea ∙ inside q in
        subst (IsChoice a b) same
        (null_branch_last h (null_behind h (λ z. let p : IsPointer B = subst IsPointer eb z in p) i))
    choice_by A (pointer r l other) ea eb ty q =
        let h = subst IsPointer (sym eb) tt in
        let same : value_type b ≡ ty = eb ∙ inside q in
        subst (IsChoice a b) same
        (null_branch_first (null_before (λ z. let p : IsPointer A = subst IsPointer ea z in p) h i) h)
    choice_by (integer s n) (integer t o) ea eb ty q =
        numbers_choice (Integer (record { signed = s; bytes = n })) (Integer (record { signed = t; bytes = o })) ea eb ty q
    choice_by (integer s n) (fixed kind sat) ea eb ty q =
        numbers_choice (Integer (record { signed = s; bytes = n })) (Fixed (record { kind = kind; sat = sat })) ea eb ty q
    choice_by (fixed kind sat) (integer t o) ea eb ty q =
        numbers_choice (Fixed (record { kind = kind; sat = sat })) (Integer (record { signed = t; bytes = o })) ea eb ty q
    choice_by (fixed kind sat) (fixed other full) ea eb ty q =
        numbers_choice (Fixed (record { kind = kind; sat = sat })) (Fixed (record { kind = other; sat = full })) ea eb ty q
    choice_by A B ea eb ty q = absurd (nothing_there ty q)

  pub choice_is : (ty : PlainType) → choice_type a b ≡ Some ty → IsChoice a b ty
  choice_is ty q =
      let g = unless (not (are_alternatives a b)) (type_by (is_void (value_type a))) ty q in
      choice_by ((alternating told a b).0 (not-false (are_alternatives a b) g.0)) (value_type a) (value_type b) refl refl ty g.1

  -- ---- the relation is what the type of a choice is

  typed_so : (ty : PlainType) → AreAlternatives a b → type_by (is_void (value_type a)) ≡ Some ty → choice_type a b ≡ Some ty
  typed_so ty i q =
      let kept : not (are_alternatives a b) ≡ false = ap not ((alternating told a b).1 i) in
      ap (λ (z : Bool). if z then None else type_by (is_void (value_type a))) kept ∙ q

  meeting_so : (z : Meeting) (ty : PlainType) → AreAlternatives a b → is_void (value_type a) ≡ false
      → meeting (value_type a) (value_type b) ≡ z → type_between z (value_type a) (value_type b) ≡ Some ty → choice_type a b ≡ Some ty
  meeting_so z ty i n e q =
      typed_so ty i (ap type_by n ∙ ap (λ (z : Meeting). type_between z (value_type a) (value_type b)) e ∙ q)

  numbers_so : (s t : Arithmetic) → value_type a ≡ type_of s → value_type b ≡ type_of t → choice_type a b ≡ Some (type_of (common s t))
  numbers_so s t ea eb =
      meeting_so (Numbers s t) (type_of (common s t))
      (inr (inl (subst IsArithmetic (sym ea) (arithmetic_type s), subst IsArithmetic (sym eb) (arithmetic_type t))))
      (ap is_void ea ∙ number_not_void s)
      (ap (λ (z : PlainType). meeting z (value_type b)) ea ∙ ap (meeting (type_of s)) eb ∙ numbers_meeting s t) refl

  pointers_so : (s r u : SpaceId) (k l : Bool) (to : PlainType) → value_type a ≡ pointer s k to → value_type b ≡ pointer r l to
      → IsJoin s r u → choice_type a b ≡ Some (pointer u (k || l) to)
  pointers_so s r u k l to ea eb j =
      meeting_so (Pointers (join s r)) (pointer u (k || l) to)
      (inr (inr (inl (subst (λ (z : PlainType). PointToOneType (value_type a) z) (sym eb)
      (subst (λ (z : PlainType). PointToOneType z (pointer r l to)) (sym ea) refl)))))
      (ap is_void ea) (ap (λ (z : PlainType). meeting z (value_type b)) ea ∙ ap (meeting (pointer s k to)) eb)
      (ap (λ (o : Option SpaceId). with_one o (λ u. pointer_between u (value_type a) (value_type b))) (is_join s r u j)
      ∙ ap (λ (z : PlainType). pointer_between u z (value_type b)) ea ∙ ap (pointer_between u (pointer s k to)) eb)

  pub is_choice : (ty : PlainType) → IsChoice a b ty → choice_type a b ≡ Some ty
  is_choice _ (of_void ea eb) = typed_so void (inl (ea, eb)) (ap (λ (z : PlainType). type_by (is_void z)) ea)
  is_choice _ (number_branches s t ea eb) = numbers_so s t ea eb
  is_choice _ (null_branch_first h g) =
      let n = na h in
      meeting_so (Mixed false) (value_type b) (inr (inr (inr (inr (h, g))))) (integer_not_void (value_type a) n)
      (pointer_right (value_type a) (value_type b) (integer_no_pointer (value_type a) n) g) refl
  is_choice _ (null_branch_last g h) =
      meeting_so (Mixed true) (value_type a) (inr (inr (inr (inl (g, h))))) (pointer_not_void (value_type a) g)
      (pointer_left (value_type a) (value_type b) g (integer_no_pointer (value_type b) (nb h))) refl
  is_choice _ (pointer_branches {s = s} {r = r} {u = u} {k = k} {c = l} {to = to} ea eb j) = pointers_so s r u k l to ea eb j
