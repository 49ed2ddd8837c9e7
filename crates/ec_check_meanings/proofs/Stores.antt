-- What assignments, choices, casts, sizes and operations on groups make is what the relation says.
use Rattle.std.proofs.Common.{◌≡◌, ◌∙◌, ℕ, Bool, true, false, not, ◌&&◌, ◌||◌, ◌+◌, List, [], ◌∷◌, length, refl, sym, ap, subst, inl}
use Rattle.std.proofs.Common.{inr}
use Rattle.std.specs.Prelude.{◌⊎◌, ◌≢◌, ◌==◌, ◌<◌, if◌then◌else◌, Option, Some, None}
use Rattle.std.specs.Bool.{Decides}
use Rattle.std.proofs.lemmas.Bool.{true≢false, false≢true, not-false, lt-ltb}
use Rattle.ec_fx.specs.declared.numbers.Mode.{Mode}
use Rattle.ec_space.specs.declared.space.SpaceId.{SpaceId}
use Rattle.ec_core.specs.declared.arithmetic_types.Arithmetic.{Arithmetic}
use Rattle.ec_core.specs.declared.expressions.BinOp.{BinOp}
use Rattle.ec_core.specs.declared.expressions.BinOp.TheVariants.{Add, Sub, Mul, Div, Rem, Shl, Shr, And, Or, Xor, Lt, Gt, Le, Ge, Eq, Ne}
use Rattle.ec_core.specs.ArithmeticTypes.{arithmetic_of, type_of, common}
use Rattle.ec_core.specs.Laws.{TypesAreTold}
use Rattle.ec_core.specs.Layout.{NamesBelow, IsIntegerSize}
use Rattle.ec_core.specs.Operators.{promoted_type, operation_types}
use Rattle.ec_core.specs.Plain.{PlainType, void, integer, fixed, pointer, array, struct, PlainExpr, PlainPlace, assign, compound}
use Rattle.ec_core.specs.Plain.{conditional}
use Rattle.ec_core.specs.Plain.{logical_and, logical_or, comma, PlainStruct}
use Rattle.ec_core.specs.Typing.{int, type_of_expr}
use Rattle.ec_check_forms.proofs.Decided.{pointers, structs_told, aggregates, suiting, casting}
use Rattle.ec_check_forms.proofs.ValidOperands.{value_types_agree}
use Rattle.ec_check_forms.specs.Calls.{size_value}
use Rattle.ec_check_forms.specs.Choices.{logical, sequence, choice_type, choice_made, chosen, cast, castable}
use Rattle.ec_check_forms.specs.Constraints.{IsInteger, IsPointer, IsScalar, IsStruct, IsAggregate, IsComparison}
use Rattle.ec_check_forms.specs.Constraints.{SuitsAlone}
use Rattle.ec_check_forms.specs.Constraints.{SuitTogether, HasOneByte}
use Rattle.ec_check_forms.specs.Meanings.{HasNullType}
use Rattle.ec_check_forms.specs.Nodes.{used_part, condition, assigned, assigned_at, operation_mode, compounded, compounded_at}
use Rattle.ec_check_operands.specs.declared.operands.Modes.{Modes}
use Rattle.ec_check_operands.specs.Operands.{Operand, place, value, made, mode_of, value_type, as_value, is_null, valued}
use Rattle.ec_check_operands.specs.Operators.{suits}
use Rattle.ec_check_operands.specs.Options.{with_one, with_both}
use Rattle.ec_check_operands.specs.Passing.{brought, in_type}
use Rattle.ec_check_operands.specs.Sorts.{is_pointer, is_struct, is_aggregate}
use Rattle.ec_check_expressions.proofs.Sizes.{named_below, one_of_three}
use Rattle.ec_check_expressions.specs.Known.{Known}
use Rattle.ec_check_expressions.specs.Types.{names_below, is_sized, meant_type}
use Rattle.ec_check_expressions.specs.TypeNames.{size_of_type_name}
use Rattle.ec_check_meanings.specs.Conversions.{IsBrought, IsPassed, IsChoice, Results, of_shift, of_both, IsShift}
use Rattle.ec_check_meanings.specs.Means as r
use Rattle.ec_check_meanings.specs.Means.{Means, Uses, HasSize, IsOperationMode, of_numbers, of_pointer}
use Rattle.ec_check_meanings.specs.Terms as term
use Rattle.ec_check_meanings.proofs.Choices.{choice_is, is_choice}
use Rattle.ec_check_meanings.proofs.Conversions.{in_type_is, is_in_type, brought_is, is_brought}
use Rattle.ec_check_meanings.proofs.Forms.{only, only_so, unless_so, value_in, condition_is, condition_to, scalar_kind, arithmetic_is}
use Rattle.ec_check_meanings.proofs.Forms.{is_arithmetic_type}
use Rattle.ec_check_meanings.proofs.Options.{clash, refuted, inside, nothing_there, with_given, with_granted, unless}

-- ---- sizes

below_named : (n : ℕ) (ty : PlainType) → NamesBelow n ty → names_below n ty ≡ true
below_named n void h = refl
below_named n (integer signed bytes) h = refl
below_named n (fixed kind sat) h = refl
below_named n (pointer space konst to) h = below_named n to h
below_named n (array of len) h = below_named n of h
below_named n (struct index) h = lt-ltb index n h

known_size : (b : ℕ) → IsIntegerSize b → (b == 1 || b == 2 || b == 4) ≡ true
known_size b (inl e) = ap (λ (z : ℕ). z == 1 || z == 2 || z == 4) e
known_size b (inr (inl e)) = ap (λ (z : ℕ). z == 1 || z == 2 || z == 4) e
known_size b (inr (inr e)) = ap (λ (z : ℕ). z == 1 || z == 2 || z == 4) e

pub sizes : (n : ℕ) (ty : PlainType) → Decides (is_sized n ty) (HasSize n ty)
sizes n void = (λ h. false≢true h, λ h. absurd h)
sizes n (integer signed bytes) = (one_of_three bytes (bytes == 1) (bytes == 2) (bytes == 4) refl refl refl, known_size bytes)
sizes n (fixed kind sat) = (λ h. tt, λ h. refl)
sizes n (pointer space konst to) = (named_below n to, below_named n to)
sizes n (array of len) = (λ h. false≢true h, λ h. absurd h)
sizes n (struct index) = (named_below n (struct index), below_named n (struct index))

pub meant_is : (v : Option ℕ) (s : Option PlainType) (ty : PlainType) → meant_type v s ≡ Some ty → (v ≡ None) × (s ≡ Some ty)
meant_is None s ty q = (refl, q)
meant_is (Some at) s ty q = absurd (nothing_there ty q)

pub meant_to : (v : Option ℕ) (s : Option PlainType) (ty : PlainType) → v ≡ None → s ≡ Some ty → meant_type v s ≡ Some ty
meant_to v s ty h q = ap (λ (z : Option ℕ). meant_type z s) h ∙ q

pub size_is : (m : Modes) (structs : List PlainStruct) (z : Option PlainType) (o : Operand) → size_of_type_name m structs z ≡ Some o
    → (ty : PlainType) × (z ≡ Some ty) × HasSize (length structs) ty × (size_value m structs ty ≡ o)
size_is m structs None o q = absurd (nothing_there o q)
size_is m structs (Some ty) o q =
    let g = only (is_sized (length structs) ty) (Some (size_value m structs ty)) o q in
    (ty, refl, (sizes (length structs) ty).0 g.0, inside g.1)

pub size_to : (m : Modes) (structs : List PlainStruct) (z : Option PlainType) (ty : PlainType) → z ≡ Some ty → HasSize (length structs) ty
    → size_of_type_name m structs z ≡ Some (size_value m structs ty)
size_to m structs z ty q h =
    ap (size_of_type_name m structs) q
    ∙ only_so (is_sized (length structs) ty) (Some (size_value m structs ty)) (Some (size_value m structs ty))
    ((sizes (length structs) ty).1 h) refl

-- ---- casts

module _ (told : TypesAreTold) (m : Modes) (ty : PlainType) (a : Operand) where
  pub cast_is : (o : Operand) → cast m ty a ≡ Some o → (e : PlainExpr) × r.IsCast m ty a e × (value e false ≡ o)
  cast_is o q =
      let g = only (castable (value_type a) (is_null a) ty) (valued (in_type m ty a)) o q in
      (in_type m ty a, record { castable = (casting told a ty).0 g.0; brought = in_type_is told m ty a }, value_in (in_type m ty a) o g.1)

  pub cast_to : (e : PlainExpr) → r.IsCast m ty a e → cast m ty a ≡ Some (value e false)
  cast_to e h =
      only_so (castable (value_type a) (is_null a) ty) (valued (in_type m ty a)) (Some (value e false)) ((casting told a ty).1 h.castable)
      (ap (λ (z : PlainExpr). Some (value z false)) (is_in_type told m ty a e h.brought))

-- ---- `&&`, `||` and the comma

module _ (k : Known) where
  abbrev pub logical_by : Bool → Option Operand → Option Operand → Option Operand
  logical_by both u v = logical k.modes both (condition k.modes u) (condition k.modes v)

  pub logical_first : (both : Bool) (v : Option Operand) (o : Operand) → logical_by both None v ≡ Some o → ⊥
  logical_first true v o q = nothing_there o q
  logical_first false v o q = nothing_there o q

  pub logical_second : (both : Bool) (a o : Operand) → logical_by both (Some a) None ≡ Some o → ⊥
  logical_second true a o q =
      let g = with_given (condition k.modes (Some a))
      (λ x. with_one (condition k.modes None) (λ y. valued (made k.modes int (logical_and x y)))) o q in
      nothing_there o g.2
  logical_second false a o q =
      let g = with_given (condition k.modes (Some a))
      (λ x. with_one (condition k.modes None) (λ y. valued (made k.modes int (logical_or x y)))) o q in
      nothing_there o g.2

  pub logical_is : (x y : term.Term) (at : ℕ) (both : Bool) (a b o : Operand) → Uses k x a → Uses k y b
      → logical_by both (Some a) (Some b) ≡ Some o
      → Means k (term.logical x at both y) o
  logical_is x y at true a b o u v q =
      let g = with_given (condition k.modes (Some a))
      (λ x. with_one (condition k.modes (Some b)) (λ y. valued (made k.modes int (logical_and x y)))) o q in
      let h = with_given (condition k.modes (Some b)) (λ y. valued (made k.modes int (logical_and g.0 y))) o g.2 in
      let p = condition_is k.modes a g.0 g.1 in
      let s = condition_is k.modes b h.0 h.1 in
      let same = ap (λ (z : PlainExpr). value (made k.modes int (logical_and z (as_value k.modes b))) false) p.1
      ∙ ap (λ (z : PlainExpr). value (made k.modes int (logical_and g.0 z)) false) s.1
      ∙ value_in (made k.modes int (logical_and g.0 h.0)) o h.2 in
      subst (Means k (term.logical x at true y)) same (r.both_true u v p.0 s.0)
  logical_is x y at false a b o u v q =
      let g = with_given (condition k.modes (Some a))
      (λ x. with_one (condition k.modes (Some b)) (λ y. valued (made k.modes int (logical_or x y)))) o q in
      let h = with_given (condition k.modes (Some b)) (λ y. valued (made k.modes int (logical_or g.0 y))) o g.2 in
      let p = condition_is k.modes a g.0 g.1 in
      let s = condition_is k.modes b h.0 h.1 in
      let same = ap (λ (z : PlainExpr). value (made k.modes int (logical_or z (as_value k.modes b))) false) p.1
      ∙ ap (λ (z : PlainExpr). value (made k.modes int (logical_or g.0 z)) false) s.1
      ∙ value_in (made k.modes int (logical_or g.0 h.0)) o h.2 in
      subst (Means k (term.logical x at false y)) same (r.one_true u v p.0 s.0)

  pub both_to : (a b : Operand) → IsScalar (value_type a) → IsScalar (value_type b)
      → logical_by true (Some a) (Some b) ≡ Some (value (made k.modes int (logical_and (as_value k.modes a) (as_value k.modes b))) false)
  both_to a b h g =
      ap (λ (z : Option PlainExpr). logical k.modes true z (condition k.modes (Some b))) (condition_to k.modes a h)
      ∙ ap (λ (z : Option PlainExpr). logical k.modes true (Some (as_value k.modes a)) z) (condition_to k.modes b g)

  pub either_to : (a b : Operand) → IsScalar (value_type a) → IsScalar (value_type b)
      → logical_by false (Some a) (Some b) ≡ Some (value (made k.modes int (logical_or (as_value k.modes a) (as_value k.modes b))) false)
  either_to a b h g =
      ap (λ (z : Option PlainExpr). logical k.modes false z (condition k.modes (Some b))) (condition_to k.modes a h)
      ∙ ap (λ (z : Option PlainExpr). logical k.modes false (Some (as_value k.modes a)) z) (condition_to k.modes b g)

  abbrev pub comma_by : Option Operand → Option Operand → Option Operand
  comma_by u v = with_both (used_part u) (used_part v) (sequence k.modes)

  pub comma_first : (v : Option Operand) (o : Operand) → comma_by None v ≡ Some o → ⊥
  comma_first v o q = nothing_there o q

  pub comma_second : (a o : Operand) → comma_by (Some a) None ≡ Some o → ⊥
  comma_second a o q =
      let g = with_given (used_part (Some a)) (λ x. with_one (used_part None) (λ y. sequence k.modes x y)) o q in
      nothing_there o g.2

  part_in : (a b : Operand) → used_part (Some a) ≡ Some b → ¬ IsStruct (value_type a) × (a ≡ b)
  part_in a b q =
      let g = unless (is_struct (value_type a)) (Some a) b q in
      (λ h. clash ((structs_told (value_type a)).1 h) g.0, inside g.1)

  part_so : (a : Operand) → ¬ IsStruct (value_type a) → used_part (Some a) ≡ Some a
  part_so a n = unless_so (is_struct (value_type a)) (Some a) (Some a)
      (refuted (is_struct (value_type a)) (λ e. n ((structs_told (value_type a)).0 e))) refl

  abbrev comma_node : PlainType → Operand → Operand → Operand
  comma_node ty a b = value (made k.modes ty (comma (as_value k.modes a) (as_value k.modes b))) false

  pub comma_is : (x y : term.Term) (at : ℕ) (a b o : Operand) → Uses k x a → Uses k y b → comma_by (Some a) (Some b) ≡ Some o
      → Means k (term.comma x at y) o
  comma_is x y at a b o u v q =
      let g = with_given (used_part (Some a)) (λ x. with_one (used_part (Some b)) (λ y. sequence k.modes x y)) o q in
      let h = with_given (used_part (Some b)) (λ y. sequence k.modes g.0 y) o g.2 in
      let p = part_in a g.0 g.1 in
      let s = part_in b h.0 h.1 in
      let same : comma_node (value_type b) a b ≡ o =
      ap (λ (z : PlainType). comma_node z a b) (sym (value_types_agree k.modes b))
      ∙ ap (λ (z : Operand). comma_node (type_of_expr (as_value k.modes b)) z b) p.1
      ∙ ap (λ (z : Operand). comma_node (type_of_expr (as_value k.modes z)) g.0 z) s.1
      ∙ value_in (made k.modes (type_of_expr (as_value k.modes h.0)) (comma (as_value k.modes g.0) (as_value k.modes h.0))) o h.2 in
      subst (Means k (term.comma x at y)) same (r.sequence u p.0 v s.0)

  pub comma_to : (a b : Operand) → ¬ IsStruct (value_type a) → ¬ IsStruct (value_type b)
      → comma_by (Some a) (Some b) ≡ Some (comma_node (value_type b) a b)
  comma_to a b h g =
      ap (λ (z : Option Operand). with_both z (used_part (Some b)) (sequence k.modes)) (part_so a h)
      ∙ ap (λ (z : Option Operand). with_both (Some a) z (sequence k.modes)) (part_so b g)
      ∙ ap (λ (z : PlainType). Some (comma_node z a b)) (value_types_agree k.modes b)

  -- ---- the operator `?:`

  module _ (told : TypesAreTold) where
    abbrev pub choice_by : Option Operand → Operand → Operand → Option Operand
    choice_by w a b = with_one (condition k.modes w) (λ c. chosen k.modes c a b)

    abbrev choice_node : PlainType → PlainExpr → PlainExpr → PlainExpr → PlainExpr
    choice_node ty c e f = made k.modes ty (conditional c e f)

    pub choice_in : (c x y : term.Term) (at : ℕ) (w a b o : Operand) → HasNullType a → HasNullType b → Uses k c w → Means k x a
        → Means k y b
        → choice_by (Some w) a b ≡ Some o → Means k (term.choice c at x y) o
    choice_in c x y at w a b o na nb u v s q =
        let g = with_given (condition k.modes (Some w)) (λ c. chosen k.modes c a b) o q in
        let p = condition_is k.modes w g.0 g.1 in
        let h = with_given (choice_type a b) (λ ty. valued (choice_made k.modes ty g.0 (in_type k.modes ty a) (in_type k.modes ty b))) o
        g.2 in
        let ty = h.0 in
        let same : value (choice_node ty (as_value k.modes w) (in_type k.modes ty a) (in_type k.modes ty b)) false ≡ o =
        ap (λ (z : PlainExpr). value (choice_node ty z (in_type k.modes ty a) (in_type k.modes ty b)) false) p.1
        ∙ value_in (choice_node ty g.0 (in_type k.modes ty a) (in_type k.modes ty b)) o h.2 in
        subst (Means k (term.choice c at x y)) same
        (r.chosen u p.0 v s (choice_is told a b na nb ty h.1) (in_type_is told k.modes ty a) (in_type_is told k.modes ty b))

    pub choice_to : (w a b : Operand) → HasNullType a → HasNullType b → (ty : PlainType) (e f : PlainExpr) → IsScalar (value_type w)
        → IsChoice a b ty → IsBrought k.modes ty a e → IsBrought k.modes ty b f
        → choice_by (Some w) a b ≡ Some (value (choice_node ty (as_value k.modes w) e f) false)
    choice_to w a b na nb ty e f h z p q =
        let c = as_value k.modes w in
        let out = value (choice_node ty c e f) false in
        with_granted (condition k.modes (Some w)) (λ c. chosen k.modes c a b) c out (condition_to k.modes w h)
        (with_granted (choice_type a b) (λ ty. valued (choice_made k.modes ty c (in_type k.modes ty a) (in_type k.modes ty b))) ty out
        (is_choice told a b na nb ty z)
        (ap (λ (x : PlainExpr). Some (value (choice_node ty c x (in_type k.modes ty b)) false)) (is_in_type told k.modes ty a e p)
        ∙ ap (λ (y : PlainExpr). Some (value (choice_node ty c e y) false)) (is_in_type told k.modes ty b f q)))

    -- ---- assignments

    not_either : (a b : Bool) → (a || b) ≡ false → (a ≡ false) × (b ≡ false)
    not_either false false h = (refl, refl)
    not_either false true h = absurd (true≢false h)
    not_either true b h = absurd (true≢false h)

    pub assign_is : (x y : term.Term) (at : ℕ) (a b o : Operand) → Uses k x a → Uses k y b → assigned k.modes a b ≡ Some o
        → Means k (term.assign x at y) o
    assign_is x y at (value e zero) b o u v q = absurd (nothing_there o q)
    assign_is x y at (place ty c s g f) b o u v q =
        let h = unless (c || is_aggregate ty) (assigned_at k.modes ty f b) o q in
        let n = not_either c (is_aggregate ty) h.0 in
        let i = with_given (brought k.modes ty b) (λ e. valued (made k.modes ty (assign f e))) o h.1 in
        subst (Means k (term.assign x at y)) (value_in (made k.modes ty (assign f i.0)) o i.2)
        (r.assigned (subst (λ (z : Bool). Uses k x (place ty z s g f)) n.0 u) (λ z. clash ((aggregates ty).1 z) n.1) v
        (brought_is told k.modes ty b i.0 i.1))

    pub assign_to : (ty : PlainType) (s : SpaceId) (g : Bool) (f : PlainPlace) (b : Operand) (e : PlainExpr) → ¬ IsAggregate ty
        → IsPassed k.modes ty b e → assigned k.modes (place ty false s g f) b ≡ Some (value (made k.modes ty (assign f e)) false)
    assign_to ty s g f b e n h =
        unless_so (false || is_aggregate ty) (assigned_at k.modes ty f b) (Some (value (made k.modes ty (assign f e)) false))
        (refuted (is_aggregate ty) (λ z. n ((aggregates ty).0 z)))
        (with_granted (brought k.modes ty b) (λ e. valued (made k.modes ty (assign f e))) e (value (made k.modes ty (assign f e)) false)
        (is_brought told k.modes ty b e h) refl)

    -- ---- compound assignments

    results_are : (op : BinOp) (s t : Arithmetic) → Results op s t (operation_types op s t).result
    results_are Shl s t = of_shift tt
    results_are Shr s t = of_shift tt
    results_are Add s t = of_both (λ h. h)
    results_are Sub s t = of_both (λ h. h)
    results_are Mul s t = of_both (λ h. h)
    results_are Div s t = of_both (λ h. h)
    results_are Rem s t = of_both (λ h. h)
    results_are And s t = of_both (λ h. h)
    results_are Or s t = of_both (λ h. h)
    results_are Xor s t = of_both (λ h. h)
    results_are Lt s t = of_both (λ h. h)
    results_are Gt s t = of_both (λ h. h)
    results_are Le s t = of_both (λ h. h)
    results_are Ge s t = of_both (λ h. h)
    results_are Eq s t = of_both (λ h. h)
    results_are Ne s t = of_both (λ h. h)

    shift_result : (op : BinOp) → IsShift op → (s t : Arithmetic) → (operation_types op s t).result ≡ promoted_type s
    shift_result Shl u s t = refl
    shift_result Shr u s t = refl
    shift_result op u s t = absurd u

    other_result : (op : BinOp) → ¬ IsShift op → (s t : Arithmetic) → (operation_types op s t).result ≡ common s t
    other_result Shl n s t = absurd (n tt)
    other_result Shr n s t = absurd (n tt)
    other_result op n s t = refl

    results_so : (op : BinOp) (s t u : Arithmetic) → Results op s t u → (operation_types op s t).result ≡ u
    results_so op s t _ (of_shift u) = shift_result op u s t
    results_so op s t _ (of_both n) = other_result op n s t

    -- what suits an operator that is no comparison is scalar
    one_byte_scalar : (ty : PlainType) → HasOneByte ty → IsScalar ty
    one_byte_scalar (integer signed bytes) h = inl tt
    one_byte_scalar (fixed kind sat) h = inl tt
    one_byte_scalar ty h = absurd h

    integer_scalar : (ty : PlainType) → IsInteger ty → IsScalar ty
    integer_scalar (integer signed bytes) h = inl tt
    integer_scalar ty h = absurd h

    suits_scalar : (op : BinOp) → ¬ IsComparison op → (left : Bool) (ty : PlainType) → SuitsAlone op left ty → IsScalar ty
    suits_scalar Add n left ty h = h
    suits_scalar Sub n left ty h = h
    suits_scalar Mul n left ty h = one_byte_scalar ty h
    suits_scalar Div n left ty h = inl h
    suits_scalar Rem n left ty h = integer_scalar ty h
    suits_scalar Shl n true ty h = inl h
    suits_scalar Shl n false ty h = integer_scalar ty h
    suits_scalar Shr n true ty h = inl h
    suits_scalar Shr n false ty h = integer_scalar ty h
    suits_scalar And n left ty h = integer_scalar ty h
    suits_scalar Or n left ty h = integer_scalar ty h
    suits_scalar Xor n left ty h = integer_scalar ty h
    suits_scalar op n left ty h = absurd (n tt)

    pointer_no_number : (ty : PlainType) → IsPointer ty → arithmetic_of ty ≡ None
    pointer_no_number (pointer s c to) h = refl
    pointer_no_number ty h = absurd h

    mode_is : (op : BinOp) (a b : PlainType) → IsScalar a → IsScalar b → ¬ IsPointer b
        → IsOperationMode k.modes op a b (operation_mode k.modes op (arithmetic_of a) (arithmetic_of b))
    mode_is op a b h g n = choose (is_pointer a) refl
      where
        numbers_mode : (s t : Arithmetic) → arithmetic_of a ≡ Some s → arithmetic_of b ≡ Some t
            → IsOperationMode k.modes op a b (operation_mode k.modes op (arithmetic_of a) (arithmetic_of b))
        numbers_mode s t e f =
            subst (λ (z : Option Arithmetic). IsOperationMode k.modes op a b (operation_mode k.modes op z (arithmetic_of b))) (sym e)
            (subst (λ (z : Option Arithmetic). IsOperationMode k.modes op a b (operation_mode k.modes op (Some s) z)) (sym f)
            (of_numbers (arithmetic_is a s e) (arithmetic_is b t f) (results_are op s t)))

        choose : (z : Bool) → is_pointer a ≡ z
            → IsOperationMode k.modes op a b (operation_mode k.modes op (arithmetic_of a) (arithmetic_of b))
        choose true e =
            let p = (pointers a).0 e in
            subst (λ (z : Option Arithmetic). IsOperationMode k.modes op a b (operation_mode k.modes op z (arithmetic_of b)))
            (sym (pointer_no_number a p)) (of_pointer p)
        choose false e =
            let s = scalar_kind a h (arithmetic_of a) refl (λ p. clash ((pointers a).1 p) e) in
            let t = scalar_kind b g (arithmetic_of b) refl n in
            numbers_mode s.0 t.0 s.1 t.1

    is_mode : (op : BinOp) (a b : PlainType) (mode : Mode) → IsOperationMode k.modes op a b mode
        → operation_mode k.modes op (arithmetic_of a) (arithmetic_of b) ≡ mode
    is_mode op a b _ (of_numbers {s = s} {t = t} {result = u} e f h) =
        ap (λ (z : Option Arithmetic). operation_mode k.modes op z (arithmetic_of b)) (ap arithmetic_of e ∙ is_arithmetic_type s)
        ∙ ap (λ (z : Option Arithmetic). operation_mode k.modes op (Some s) z) (ap arithmetic_of f ∙ is_arithmetic_type t)
        ∙ ap (λ (z : Arithmetic). mode_of k.modes (type_of z)) (results_so op s t u h)
    is_mode op a b _ (of_pointer p) = ap (λ (z : Option Arithmetic). operation_mode k.modes op z (arithmetic_of b)) (pointer_no_number a p)

    none_of_four : (a b c d : Bool) → (a || b || c || d) ≡ false → (a ≡ false) × (b ≡ false) × (c ≡ false) × (d ≡ false)
    none_of_four false false false false h = (refl, refl, refl, refl)
    none_of_four false false false true h = absurd (true≢false h)
    none_of_four false false true d h = absurd (true≢false h)
    none_of_four false true c d h = absurd (true≢false h)
    none_of_four true b c d h = absurd (true≢false h)

    four_false : (b c d : Bool) → b ≡ false → c ≡ false → d ≡ false → (false || b || c || d) ≡ false
    four_false false false false p q s = refl
    four_false true c d p q s = absurd (true≢false p)
    four_false false true d p q s = absurd (true≢false q)
    four_false false false true p q s = absurd (true≢false s)

    abbrev compound_node : PlainType → BinOp → Mode → PlainPlace → Operand → PlainExpr
    compound_node ty op mode f b = made k.modes ty (compound op mode f (as_value k.modes b))

    pub compound_is : (x y : term.Term) (at : ℕ) (op : BinOp) → ¬ IsComparison op → (a b o : Operand) → Uses k x a → Uses k y b
        → compounded k.modes op a b ≡ Some o → Means k (term.compound x at op y) o
    compound_is x y at op n (value e zero) b o u v q = absurd (nothing_there o q)
    compound_is x y at op n (place ty c s g f) b o u v q =
        let h = unless (c || is_aggregate ty || is_pointer (value_type b) || not (suits op ty (value_type b)))
        (compounded_at k.modes op ty f b) o q in
        let w = none_of_four c (is_aggregate ty) (is_pointer (value_type b)) (not (suits op ty (value_type b))) h.0 in
        let fits = (suiting told op ty (value_type b)).0 (not-false (suits op ty (value_type b)) w.3) in
        let no : ¬ IsPointer (value_type b) = λ p. clash ((pointers (value_type b)).1 p) w.2 in
        let mode = operation_mode k.modes op (arithmetic_of ty) (arithmetic_of (value_type b)) in
        subst (Means k (term.compound x at op y)) (value_in (compound_node ty op mode f b) o h.1)
        (r.compounded (subst (λ (z : Bool). Uses k x (place ty z s g f)) w.0 u) (λ z. clash ((aggregates ty).1 z) w.1) v no fits.0 fits.1
        fits.2
        (mode_is op ty (value_type b) (suits_scalar op n true ty fits.0) (suits_scalar op n false (value_type b) fits.1) no))

    pub compound_to : (op : BinOp) (ty : PlainType) (s : SpaceId) (g : Bool) (f : PlainPlace) (b : Operand) (mode : Mode) → ¬ IsAggregate ty
        → ¬ IsPointer (value_type b) → SuitsAlone op true ty → SuitsAlone op false (value_type b) → SuitTogether op ty (value_type b)
        → IsOperationMode k.modes op ty (value_type b) mode
        → compounded k.modes op (place ty false s g f) b ≡ Some (value (compound_node ty op mode f b) false)
    compound_to op ty s g f b mode n p h i j z =
        unless_so (false || is_aggregate ty || is_pointer (value_type b) || not (suits op ty (value_type b)))
        (compounded_at k.modes op ty f b)
        (Some (value (compound_node ty op mode f b) false))
        (four_false (is_aggregate ty) (is_pointer (value_type b)) (not (suits op ty (value_type b)))
        (refuted (is_aggregate ty) (λ e. n ((aggregates ty).0 e)))
        (refuted (is_pointer (value_type b)) (λ e. p ((pointers (value_type b)).0 e)))
        (ap not ((suiting told op ty (value_type b)).1 (h, i, j))))
        (ap (λ (z : Mode). Some (value (compound_node ty op z f b) false)) (is_mode op ty (value_type b) mode z))
