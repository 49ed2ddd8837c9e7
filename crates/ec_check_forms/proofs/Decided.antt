-- Each test of operands decides what its constraint says.
use Rattle.std.proofs.Common.{◌≡◌, ℕ, Bool, true, false, List, refl, subst, inl, inr}
use Rattle.std.specs.Prelude.{◌⊎◌, ◌≢◌, ◌==◌, not, ◌&&◌, ◌||◌, if◌then◌else◌, is_some, is_none, Option, Some, None}
use Rattle.std.specs.Bool.{Decides}
use Rattle.std.proofs.lemmas.Bool.{false≢true, not-true, not_from_false}
use Rattle.std.proofs.lemmas.Bool.Decides.{Decides-eqb, Decides-at, Decides-like, Decides-not, Decides-and, Decides-or}
use Rattle.ec_fx.specs.Formats.{format_of}
use Rattle.ec_space.specs.declared.space.SpaceId.{SpaceId}
use Rattle.ec_space.specs.Spaces.{Encloses, encloses, join}
use Rattle.ec_space.specs.SpaceLaws.{Encloses-from_test, test_from_Encloses}
use Rattle.ec_core.specs.declared.expressions.BinOp.{BinOp}
use Rattle.ec_core.specs.declared.expressions.BinOp.TheVariants.{Add, Sub, Mul, Div, Rem, Shl, Shr, And, Or, Xor, Lt, Gt, Le, Ge, Eq, Ne}
use Rattle.ec_core.specs.ArithmeticValues.{is_comparison}
use Rattle.ec_core.specs.Laws.{TypesAreTold}
use Rattle.ec_core.specs.Operators.{same_type}
use Rattle.ec_core.specs.Plain.{PlainType, void, integer, fixed, pointer, array, struct, PlainStruct}
use Rattle.ec_core.specs.PortOperations.{PortOperation}
use Rattle.ec_check_forms.specs.declared.ports.Binding.{Binding}
use Rattle.ec_check_forms.specs.declared.ports.NamedGroup.{NamedGroup}
use Rattle.ec_check_forms.specs.declared.ports.NamedPort.{NamedPort}
use Rattle.ec_check_forms.specs.Calls.{too_wide}
use Rattle.ec_check_forms.specs.Constraints.{IsInteger, IsArithmetic, IsPointer, IsScalar, IsStruct, IsAggregate, HasOneByte}
use Rattle.ec_check_forms.specs.Constraints.{PointToOneType, LeavesSpace, LosesConst, HaveNestedSpaces, ArePointerAndNull, AreApart}
use Rattle.ec_check_forms.specs.Constraints.{SuitsAlone, SuitTogether, DoNotSuit, IsEquality, IsComparison, AreComparable, AreIncomparable}
use Rattle.ec_check_forms.specs.Constraints.{PointersMeet, MeetApart, AreAlternatives, AreNoAlternatives, ChosenApart, IsKnownAnd}
use Rattle.ec_check_forms.specs.Constraints.{IsNoScalar, CannotBeAssigned, IsConst, IsNoPlace, IsInRegister, Passes, CanBeCast, IsNoCast}
use Rattle.ec_check_forms.specs.Constraints.{AddsPointer, HasNoStruct, IsNotAmong, HasNoMember, IsWide}
use Rattle.ec_check_forms.specs.Nodes.{void_used, struct_part, no_scalar, is_value, is_register, unassigned, const_assigned, pointer_added}
use Rattle.ec_check_forms.specs.Accesses.{no_pointer, no_integer, base_of, member_number, no_base, not_among, no_member}
use Rattle.ec_check_forms.specs.Choices.{alternatives, no_alternatives, chosen_apart, castable, no_cast}
use Rattle.ec_check_operands.specs.Operands.{Operand, place, value, value_type, is_null}
use Rattle.ec_check_operands.specs.Operators.{suits_alone, suit_together, suits, is_equality, is_beside_null, comparable, meets, are_apart}
use Rattle.ec_check_operands.specs.Operators.{unsuited, incomparable, meet_apart}
use Rattle.ec_check_operands.specs.Passing.{passes}
use Rattle.ec_check_operands.specs.Sorts.{is_void, is_arithmetic, is_integer, is_one_byte, is_pointer, is_scalar, is_struct, is_aggregate}
use Rattle.ec_check_operands.specs.Sorts.{same_pointee, narrows, drops_const, nest}

-- ---- in general

-- a test that holds, and one that does not
yes : {P : Type 0} → P → Decides true P
yes p = (λ e. p, λ h. refl)

no : {P : Type 0} → ¬ P → Decides false P
no n = (λ e. absurd (false≢true e), λ h. absurd (n h))

is_set : (b : Bool) → Decides b (b ≡ true)
is_set b = (λ e. e, λ e. e)

is_unset : (b : Bool) → Decides (not b) (b ≡ false)
is_unset b = (not-true b, not_from_false b)

one_of_three : {P Q R : Type 0} → (a b c : Bool) → Decides a P → Decides b Q → Decides c R → Decides (a || b || c) (P ⊎ (Q ⊎ R))
one_of_three {P = P} {Q = Q} {R = R} a b c p q r = Decides-like (a || b || c) there back (Decides-or (a || b) c (Decides-or a b p q) r)
  where
    there : (P ⊎ Q) ⊎ R → P ⊎ (Q ⊎ R)
    there (inl (inl h)) = inl h
    there (inl (inr h)) = inr (inl h)
    there (inr h) = inr (inr h)

    back : P ⊎ (Q ⊎ R) → (P ⊎ Q) ⊎ R
    back (inl h) = inl (inl h)
    back (inr (inl h)) = inl (inr h)
    back (inr (inr h)) = inr h

one_of_four : {P Q R S : Type 0} → (a b c d : Bool) → Decides a P → Decides b Q → Decides c R → Decides d S
    → Decides (a || b || c || d) (P ⊎ (Q ⊎ (R ⊎ S)))
one_of_four {P = P} {Q = Q} {R = R} {S = S} a b c d p q r s =
    Decides-like (a || b || c || d) there back (Decides-or (a || b || c) d (one_of_three a b c p q r) s)
  where
    there : (P ⊎ (Q ⊎ R)) ⊎ S → P ⊎ (Q ⊎ (R ⊎ S))
    there (inl (inl h)) = inl h
    there (inl (inr (inl h))) = inr (inl h)
    there (inl (inr (inr h))) = inr (inr (inl h))
    there (inr h) = inr (inr (inr h))

    back : P ⊎ (Q ⊎ (R ⊎ S)) → (P ⊎ (Q ⊎ R)) ⊎ S
    back (inl h) = inl (inl h)
    back (inr (inl h)) = inl (inr (inl h))
    back (inr (inr (inl h))) = inl (inr (inr h))
    back (inr (inr (inr h))) = inr h

all_three : {P Q R : Type 0} → (a b c : Bool) → Decides a P → Decides b Q → Decides c R → Decides (a && b && c) (P × Q × R)
all_three {P = P} {Q = Q} {R = R} a b c p q r = Decides-like (a && b && c) there back (Decides-and (a && b) c (Decides-and a b p q) r)
  where
    there : (P × Q) × R → P × Q × R
    there h = (h.0.0, h.0.1, h.1)

    back : P × Q × R → (P × Q) × R
    back h = ((h.0, h.1), h.2)

is_absent : {A : Type 0} → (o : Option A) → Decides (is_none o) (o ≡ None)
is_absent None = yes refl
is_absent (Some x) = no (λ h. cc)

differs : (m n : ℕ) → Decides (not (m == n)) (m ≢ n)
differs m n = Decides-not (m == n) (Decides-eqb m n)

-- ---- types

pub voids : (ty : PlainType) → Decides (is_void ty) (ty ≡ void)
voids void = yes refl
voids ty = no (λ h. cc)

pub integers : (ty : PlainType) → Decides (is_integer ty) (IsInteger ty)
integers (integer signed bytes) = yes tt
integers ty = no (λ h. h)

pub arithmetics : (ty : PlainType) → Decides (is_arithmetic ty) (IsArithmetic ty)
arithmetics (integer signed bytes) = yes tt
arithmetics (fixed kind sat) = yes tt
arithmetics ty = no (λ h. h)

pub pointers : (ty : PlainType) → Decides (is_pointer ty) (IsPointer ty)
pointers (pointer space const to) = yes tt
pointers ty = no (λ h. h)

pub scalars : (ty : PlainType) → Decides (is_scalar ty) (IsScalar ty)
scalars ty = Decides-or (is_arithmetic ty) (is_pointer ty) (arithmetics ty) (pointers ty)

pub structs_told : (ty : PlainType) → Decides (is_struct ty) (IsStruct ty)
structs_told (struct index) = yes tt
structs_told ty = no (λ h. h)

pub aggregates : (ty : PlainType) → Decides (is_aggregate ty) (IsAggregate ty)
aggregates (array of len) = yes tt
aggregates (struct index) = yes tt
aggregates ty = no (λ h. h)

pub bytes_told : (ty : PlainType) → Decides (is_one_byte ty) (HasOneByte ty)
bytes_told (integer signed bytes) = Decides-eqb bytes 1
bytes_told (fixed kind sat) = Decides-eqb (format_of kind).bits 8
bytes_told ty = no (λ h. h)

types_told : TypesAreTold → (t u : PlainType) → Decides (same_type t u) (t ≡ u)
types_told told t u = (told.same t u, λ e. subst (λ (z : PlainType). same_type t z ≡ true) e (told.itself t))

pub pointees : TypesAreTold → (a b : PlainType) → Decides (same_pointee a b) (PointToOneType a b)
pointees told (pointer s k t) (pointer r c u) = types_told told t u
pointees told a b = no (λ h. h)

pub enclosing : (s r : SpaceId) → Decides (encloses s r) (Encloses s r)
enclosing s r = (Encloses-from_test s r, test_from_Encloses s r)

pub leaving : (a b : PlainType) → Decides (narrows a b) (LeavesSpace a b)
leaving (pointer s k t) (pointer r c u) = Decides-not (encloses r s) (enclosing r s)
leaving a b = no (λ h. h)

pub losing : (a b : PlainType) → Decides (drops_const a b) (LosesConst a b)
losing (pointer s k t) (pointer r c u) = Decides-and k (not c) (is_set k) (is_unset c)
losing a b = no (λ h. h)

joined : (b c : Bool) (s r : SpaceId) → is_some (if b then Some s else (if c then Some r else None)) ≡ (b || c)
joined true c s r = refl
joined false true s r = refl
joined false false s r = refl

pub nested : (a b : PlainType) → Decides (nest a b) (HaveNestedSpaces a b)
nested (pointer s k t) (pointer r c u) =
    Decides-at (is_some (join s r)) (encloses s r || encloses r s) (joined (encloses s r) (encloses r s) s r)
    (Decides-or (encloses s r) (encloses r s) (enclosing s r) (enclosing r s))
nested a b = no (λ h. h)

pub beside_null : (a : PlainType) (p : Bool) (b : PlainType) (q : Bool) → Decides (is_beside_null a p b q) (ArePointerAndNull a p b q)
beside_null a p b q =
    Decides-or (is_pointer a && q) (p && is_pointer b) (Decides-and (is_pointer a) q (pointers a) (is_set q))
    (Decides-and p (is_pointer b) (is_set p) (pointers b))

pub aparts : TypesAreTold → (a b : PlainType) → Decides (are_apart a b) (AreApart a b)
aparts told a b = Decides-and (same_pointee a b) (not (nest a b)) (pointees told a b) (Decides-not (nest a b) (nested a b))

-- ---- what suits an operator

both_arithmetic : (a b : PlainType) → Decides (is_arithmetic a && is_arithmetic b) (IsArithmetic a × IsArithmetic b)
both_arithmetic a b = Decides-and (is_arithmetic a) (is_arithmetic b) (arithmetics a) (arithmetics b)

suiting_alone : (op : BinOp) (left : Bool) (ty : PlainType) → Decides (suits_alone op left ty) (SuitsAlone op left ty)
suiting_alone Add left ty = scalars ty
suiting_alone Sub left ty = scalars ty
suiting_alone Mul left ty = bytes_told ty
suiting_alone Div left ty = arithmetics ty
suiting_alone Rem left ty = integers ty
suiting_alone Shl true ty = arithmetics ty
suiting_alone Shl false ty = integers ty
suiting_alone Shr true ty = arithmetics ty
suiting_alone Shr false ty = integers ty
suiting_alone And left ty = integers ty
suiting_alone Or left ty = integers ty
suiting_alone Xor left ty = integers ty
suiting_alone op left ty = yes tt

suiting_together : TypesAreTold → (op : BinOp) (a b : PlainType) → Decides (suit_together op a b) (SuitTogether op a b)
suiting_together told Add a b =
    one_of_three (is_arithmetic a && is_arithmetic b) (is_pointer a && is_integer b) (is_integer a && is_pointer b)
    (both_arithmetic a b) (Decides-and (is_pointer a) (is_integer b) (pointers a) (integers b))
    (Decides-and (is_integer a) (is_pointer b) (integers a) (pointers b))
suiting_together told Sub a b =
    one_of_three (is_arithmetic a && is_arithmetic b) (is_pointer a && is_integer b) (same_pointee a b)
    (both_arithmetic a b) (Decides-and (is_pointer a) (is_integer b) (pointers a) (integers b)) (pointees told a b)
suiting_together told op a b = yes tt

pub suiting : TypesAreTold → (op : BinOp) (a b : PlainType)
    → Decides (suits op a b) (SuitsAlone op true a × SuitsAlone op false b × SuitTogether op a b)
suiting told op a b =
    all_three (suits_alone op true a) (suits_alone op false b) (suit_together op a b) (suiting_alone op true a)
    (suiting_alone op false b) (suiting_together told op a b)

pub unsuited_told : TypesAreTold → (op : BinOp) (x y : Option Operand) → Decides (unsuited op x y) (DoNotSuit op x y)
unsuited_told told op None None = no (λ h. h)
unsuited_told told op (Some x) None = Decides-not (suits_alone op true (value_type x)) (suiting_alone op true (value_type x))
unsuited_told told op None (Some y) = Decides-not (suits_alone op false (value_type y)) (suiting_alone op false (value_type y))
unsuited_told told op (Some x) (Some y) =
    Decides-not (suits op (value_type x) (value_type y)) (suiting told op (value_type x) (value_type y))

equalities : (op : BinOp) → Decides (is_equality op) (IsEquality op)
equalities Eq = yes tt
equalities Ne = yes tt
equalities op = no (λ h. h)

pub comparisons : (op : BinOp) → Decides (is_comparison op) (IsComparison op)
comparisons Lt = yes tt
comparisons Gt = yes tt
comparisons Le = yes tt
comparisons Ge = yes tt
comparisons Eq = yes tt
comparisons Ne = yes tt
comparisons op = no (λ h. h)

pub comparing : TypesAreTold → (op : BinOp) (x y : Operand)
    → Decides (comparable op (value_type x) (is_null x) (value_type y) (is_null y)) (AreComparable op x y)
comparing told op x y =
    let a = value_type x in let b = value_type y in
    one_of_three (is_arithmetic a && is_arithmetic b) (same_pointee a b) (is_equality op && is_beside_null a (is_null x) b (is_null y))
    (both_arithmetic a b) (pointees told a b)
    (Decides-and (is_equality op) (is_beside_null a (is_null x) b (is_null y)) (equalities op) (beside_null a (is_null x) b (is_null y)))

pub incomparable_told : TypesAreTold → (op : BinOp) (x y : Option Operand) → Decides (incomparable op x y) (AreIncomparable op x y)
incomparable_told told op (Some x) (Some y) =
    let c = comparable op (value_type x) (is_null x) (value_type y) (is_null y) in
    Decides-and (is_comparison op) (not c) (comparisons op) (Decides-not c (comparing told op x y))
incomparable_told told op x y = no (λ h. h)

meeting_told : (op : BinOp) → Decides (meets op) (PointersMeet op)
meeting_told Sub = yes tt
meeting_told op = comparisons op

pub meet_apart_told : TypesAreTold → (op : BinOp) (x y : Option Operand) → Decides (meet_apart op x y) (MeetApart op x y)
meet_apart_told told op (Some x) (Some y) =
    Decides-and (meets op) (are_apart (value_type x) (value_type y)) (meeting_told op) (aparts told (value_type x) (value_type y))
meet_apart_told told op x y = no (λ h. h)

-- ---- what `?:` chooses from

pub alternating : TypesAreTold → (x y : Operand)
    → Decides (alternatives (value_type x) (is_null x) (value_type y) (is_null y)) (AreAlternatives x y)
alternating told x y =
    let a = value_type x in let b = value_type y in
    one_of_four (is_void a && is_void b) (is_arithmetic a && is_arithmetic b) (same_pointee a b)
    (is_beside_null a (is_null x) b (is_null y))
    (Decides-and (is_void a) (is_void b) (voids a) (voids b)) (both_arithmetic a b) (pointees told a b)
    (beside_null a (is_null x) b (is_null y))

pub no_alternatives_told : TypesAreTold → (x y : Option Operand) → Decides (no_alternatives x y) (AreNoAlternatives x y)
no_alternatives_told told (Some x) (Some y) =
    Decides-not (alternatives (value_type x) (is_null x) (value_type y) (is_null y)) (alternating told x y)
no_alternatives_told told x y = no (λ h. h)

pub chosen_apart_told : TypesAreTold → (x y : Option Operand) → Decides (chosen_apart x y) (ChosenApart x y)
chosen_apart_told told (Some x) (Some y) = aparts told (value_type x) (value_type y)
chosen_apart_told told x y = no (λ h. h)

-- ---- one operand

pub no_scalar_told : (x : Option Operand) → Decides (no_scalar x) (IsNoScalar x)
no_scalar_told None = no (λ h. h)
no_scalar_told (Some x) = Decides-not (is_scalar (value_type x)) (scalars (value_type x))

pub no_pointer_told : (x : Option Operand) → Decides (no_pointer x) (IsKnownAnd x (λ ty. ¬ IsPointer ty))
no_pointer_told None = no (λ h. h)
no_pointer_told (Some x) = Decides-not (is_pointer (value_type x)) (pointers (value_type x))

pub no_integer_told : (x : Option Operand) → Decides (no_integer x) (IsKnownAnd x (λ ty. ¬ IsInteger ty))
no_integer_told None = no (λ h. h)
no_integer_told (Some x) = Decides-not (is_integer (value_type x)) (integers (value_type x))

pub no_index_told : (x y : Option Operand)
    → Decides (no_pointer x || no_integer y) (IsKnownAnd x (λ ty. ¬ IsPointer ty) ⊎ IsKnownAnd y (λ ty. ¬ IsInteger ty))
no_index_told x y = Decides-or (no_pointer x) (no_integer y) (no_pointer_told x) (no_integer_told y)

pub void_used_told : (x : Option Operand) → Decides (void_used x) (IsKnownAnd x (λ ty. ty ≡ void))
void_used_told None = no (λ h. h)
void_used_told (Some x) = voids (value_type x)

pub struct_part_told : (x : Option Operand) → Decides (struct_part x) (IsKnownAnd x IsStruct)
struct_part_told None = no (λ h. h)
struct_part_told (Some x) = structs_told (value_type x)

pub not_arithmetic_told : (x : Operand) → Decides (not (is_arithmetic (value_type x))) (¬ IsArithmetic (value_type x))
not_arithmetic_told x = Decides-not (is_arithmetic (value_type x)) (arithmetics (value_type x))

pub not_integer_told : (x : Operand) → Decides (not (is_integer (value_type x))) (¬ IsInteger (value_type x))
not_integer_told x = Decides-not (is_integer (value_type x)) (integers (value_type x))

pub not_pointer_told : (x : Operand) → Decides (not (is_pointer (value_type x))) (¬ IsPointer (value_type x))
not_pointer_told x = Decides-not (is_pointer (value_type x)) (pointers (value_type x))

pub unassigned_told : (x : Option Operand) → Decides (unassigned x) (CannotBeAssigned x)
unassigned_told None = no (λ h. h)
unassigned_told (Some (place ty konst space register q)) = aggregates ty
unassigned_told (Some (value e zero)) = yes tt

pub const_told : (x : Option Operand) → Decides (const_assigned x) (IsConst x)
const_told None = no (λ h. h)
const_told (Some (place ty konst space register q)) = is_set konst
const_told (Some (value e zero)) = no (λ h. h)

pub value_told : (x : Operand) → Decides (is_value x) (IsNoPlace x)
value_told (place ty konst space register q) = no (λ h. h)
value_told (value e zero) = yes tt

pub register_told : (x : Operand) → Decides (is_register x) (IsInRegister x)
register_told (place ty konst space register q) = is_set register
register_told (value e zero) = no (λ h. h)

pub pointer_added_told : (x y : Option Operand) → Decides (pointer_added x y) (AddsPointer x y)
pointer_added_told (Some x) (Some y) = pointers (value_type y)
pointer_added_told x y = no (λ h. h)

-- ---- conversions

null_to_pointer : (x : Operand) (to : PlainType) → Decides (is_null x && is_pointer to) ((is_null x ≡ true) × IsPointer to)
null_to_pointer x to = Decides-and (is_null x) (is_pointer to) (is_set (is_null x)) (pointers to)

pub passing_held : TypesAreTold → (x : Operand) (to : PlainType) → Decides (passes (value_type x) (is_null x) to) (Passes x to)
passing_held told x to =
    one_of_three (is_arithmetic (value_type x) && is_arithmetic to) (is_null x && is_pointer to) (same_pointee (value_type x) to)
    (both_arithmetic (value_type x) to) (null_to_pointer x to) (pointees told (value_type x) to)

pub passing_told : TypesAreTold → (x : Operand) (to : PlainType) → Decides (not (passes (value_type x) (is_null x) to)) (¬ Passes x to)
passing_told told x to = Decides-not (passes (value_type x) (is_null x) to) (passing_held told x to)

pub out_of_space_told : TypesAreTold → (x : Operand) (to : PlainType) → Decides
    (same_pointee (value_type x) to && narrows (value_type x) to) (PointToOneType (value_type x) to × LeavesSpace (value_type x) to)
out_of_space_told told x to =
    Decides-and (same_pointee (value_type x) to) (narrows (value_type x) to) (pointees told (value_type x) to) (leaving (value_type x) to)

pub out_of_const_told : TypesAreTold → (x : Operand) (to : PlainType) → Decides
    (same_pointee (value_type x) to && drops_const (value_type x) to) (PointToOneType (value_type x) to × LosesConst (value_type x) to)
out_of_const_told told x to = Decides-and (same_pointee (value_type x) to) (drops_const (value_type x) to) (pointees told (value_type x) to)
    (losing (value_type x) to)

pub casting : TypesAreTold → (x : Operand) (to : PlainType) → Decides (castable (value_type x) (is_null x) to) (CanBeCast x to)
casting told x to =
    one_of_three (is_arithmetic (value_type x) && is_arithmetic to) (is_null x && is_pointer to)
    (same_pointee (value_type x) to && nest (value_type x) to)
    (both_arithmetic (value_type x) to) (null_to_pointer x to)
    (Decides-and (same_pointee (value_type x) to) (nest (value_type x) to) (pointees told (value_type x) to) (nested (value_type x) to))

pub no_cast_told : TypesAreTold → (to : Option PlainType) (x : Option Operand) → Decides (no_cast to x) (IsNoCast to x)
no_cast_told told (Some to) (Some x) = Decides-not (castable (value_type x) (is_null x) to) (casting told x to)
no_cast_told told to x = no (λ h. h)

-- ---- members, calls and ports

pub no_base_told : (arrow : Bool) (x : Option Operand) → Decides (no_base arrow x) (HasNoStruct arrow x)
no_base_told arrow None = no (λ h. h)
no_base_told arrow (Some x) = is_absent (base_of arrow (value_type x))

among : (structs : List PlainStruct) (name : List ℕ) (base : Option ℕ)
    → Decides (not_among structs name base) (IsNotAmong structs name base)
among structs name None = no (λ h. h)
among structs name (Some index) = is_absent (member_number structs name index)

pub no_member_told : (structs : List PlainStruct) (name : List ℕ) (arrow : Bool) (x : Option Operand)
    → Decides (no_member structs name arrow x) (HasNoMember structs name arrow x)
no_member_told structs name arrow None = no (λ h. h)
no_member_told structs name arrow (Some x) = among structs name (base_of arrow (value_type x))

pub count_told : (m n : ℕ) → Decides (not (m == n)) (m ≢ n)
count_told m n = differs m n

pub no_port_told : (port : Option NamedPort) (count n : ℕ) → Decides (is_none port || not (count == n)) ((port ≡ None) ⊎ (count ≢ n))
no_port_told port count n = Decides-or (is_none port) (not (count == n)) (is_absent port) (differs count n)

pub no_group_told : (g : Option NamedGroup) (count : ℕ) → Decides (is_none g || not (count == 0)) ((g ≡ None) ⊎ (count ≢ 0))
no_group_told g count = Decides-or (is_none g) (not (count == 0)) (is_absent g) (differs count 0)

pub no_binding_told : (b : Option Binding) → Decides (is_none b) (b ≡ None)
no_binding_told b = is_absent b

pub wide_told : (op : PortOperation) (port : Option NamedPort) → Decides (too_wide op port) (IsWide port × (op.long ≡ false))
wide_told op None = no (λ h. h.0)
wide_told op (Some p) = Decides-and (p.width == 4) (not op.long) (Decides-eqb p.width 4) (is_unset op.long)
