-- What the forms of one and of two operands make of them is what the relation says.
use Rattle.std.proofs.Common.{◌≡◌, ◌∙◌, ℕ, Bool, true, false, not, ◌&&◌, ◌||◌, List, [], ◌∷◌, refl, sym, ap, subst, inl, inr}
use Rattle.std.specs.Prelude.{◌↔◌, ◌≢◌, ◌==◌, if◌then◌else◌, Option, Some, None}
use Rattle.std.specs.Bool.{Decides}
use Rattle.std.proofs.lemmas.Bool.{not-true, not_from_false}
use Rattle.std.proofs.lemmas.Bool.Decides.{Decides-and}
use Rattle.ec_space.specs.declared.space.SpaceId.{SpaceId}
use Rattle.ec_core.specs.declared.arithmetic_types.Arithmetic.{Arithmetic}
use Rattle.ec_core.specs.declared.arithmetic_types.Arithmetic.TheVariants.{Integer, Fixed}
use Rattle.ec_core.specs.declared.expressions.BinOp.TheVariants.{Add}
use Rattle.ec_core.specs.declared.expressions.UnOp.TheVariants as unary_operators
use Rattle.ec_core.specs.ArithmeticTypes.{arithmetic_of, type_of}
use Rattle.ec_core.specs.Laws.{TypesAreTold}
use Rattle.ec_core.specs.Operators.{promoted_type}
use Rattle.ec_core.specs.Plain.{PlainType, void, integer, fixed, pointer, array, struct, PlainExpr, expression, PlainPlace}
use Rattle.ec_core.specs.Plain.{deref}
use Rattle.ec_core.specs.Plain.{member, binary, unary, step, logical_not, address_of}
use Rattle.ec_core.specs.Typing.{int, type_of_expr, type_of_member}
use Rattle.ec_check_forms.proofs.Decided.{integers, scalars}
use Rattle.ec_check_forms.proofs.ValidOperands.{value_types_agree}
use Rattle.ec_check_forms.specs.declared.prefixes.PrefixOp.{PrefixOp}
use Rattle.ec_check_forms.specs.declared.prefixes.PrefixOp.TheVariants.{Address, Deref, Plus, Minus, Invert, Not}
use Rattle.ec_check_forms.specs.Accesses.{struct_of, base_of, member_number, reached, part_of, member_of, indexed}
use Rattle.ec_check_forms.specs.Constraints.{IsInteger, IsPointer, IsScalar}
use Rattle.ec_check_forms.specs.Nodes.{condition, pointed, prefixed}
use Rattle.ec_check_forms.specs.Nodes.{stepped}
use Rattle.ec_check_operands.specs.declared.operands.Modes.{Modes}
use Rattle.ec_check_operands.specs.Operands.{Operand, place, value, made, converted, value_type, as_value, valued}
use Rattle.ec_check_operands.specs.Options.{with_one}
use Rattle.ec_check_operands.specs.Sorts.{is_integer, is_scalar}
use Rattle.ec_check_expressions.specs.Known.{Known}
use Rattle.ec_check_meanings.specs.Conversions.{IsConverted}
use Rattle.ec_check_meanings.specs.Means as r
use Rattle.ec_check_meanings.specs.Means.{Means, Uses, IsMember}
use Rattle.ec_check_meanings.specs.Terms as term
use Rattle.ec_check_meanings.proofs.Conversions.{converted_is, is_converted}
use Rattle.ec_check_meanings.proofs.Options.{inside, nothing_there, with_given, with_granted}

-- ---- tests

pub only : {A : Type 0} → (b : Bool) (x : Option A) (o : A) → (if b then x else None) ≡ Some o → (b ≡ true) × (x ≡ Some o)
only true x o q = (refl, q)
only false x o q = absurd (nothing_there o q)

pub only_so : {A : Type 0} → (b : Bool) (x y : Option A) → b ≡ true → x ≡ y → (if b then x else None) ≡ y
only_so b x y h e = ap (λ z. if z then x else None) h ∙ e

pub unless_so : {A : Type 0} → (b : Bool) (x y : Option A) → b ≡ false → x ≡ y → (if b then None else x) ≡ y
unless_so b x y h e = ap (λ z. if z then None else x) h ∙ e

-- the operand of a value that is there
pub value_in : (e : PlainExpr) (o : Operand) → valued e ≡ Some o → value e false ≡ o
value_in e o q = inside q

-- ---- types

pub arithmetic_is : (ty : PlainType) (t : Arithmetic) → arithmetic_of ty ≡ Some t → ty ≡ type_of t
arithmetic_is void t q = cc
arithmetic_is (integer signed bytes) t q =
    let same : Integer (record { signed = signed; bytes = bytes }) ≡ t = inside q in ap type_of same
arithmetic_is (fixed kind sat) t q = let same : Fixed (record { kind = kind; sat = sat }) ≡ t = inside q in ap type_of same
arithmetic_is (pointer s k to) t q = cc
arithmetic_is (array of len) t q = cc
arithmetic_is (struct index) t q = cc

pub is_arithmetic_type : (t : Arithmetic) → arithmetic_of (type_of t) ≡ Some t
is_arithmetic_type (Integer t) = refl
is_arithmetic_type (Fixed t) = refl

pub scalar_kind : (ty : PlainType) → IsScalar ty → (t : Option Arithmetic) → arithmetic_of ty ≡ t → ¬ IsPointer ty
    → (s : Arithmetic) × (t ≡ Some s)
scalar_kind ty h (Some s) e n = (s, refl)
scalar_kind (integer signed bytes) h None e n = cc
scalar_kind (fixed kind sat) h None e n = cc
scalar_kind void (inl h) None e n = absurd h
scalar_kind void (inr h) None e n = absurd h
scalar_kind (pointer s k to) h None e n = absurd (n tt)
scalar_kind (array of len) (inl h) None e n = absurd h
scalar_kind (array of len) (inr h) None e n = absurd h
scalar_kind (struct index) (inl h) None e n = absurd h
scalar_kind (struct index) (inr h) None e n = absurd h

struct_is : (ty : PlainType) (i : ℕ) → struct_of ty ≡ Some i → ty ≡ struct i
struct_is void i q = cc
struct_is (integer signed bytes) i q = cc
struct_is (fixed kind sat) i q = cc
struct_is (pointer s k to) i q = cc
struct_is (array of len) i q = cc
struct_is (struct j) i q = ap struct (inside q)

-- ---- what pointers point to

abbrev place_in : PlainType → PlainExpr → Option Operand
place_in (pointer s c to) e = Some (place to c s false (deref e))
place_in ty e = None

pointed_so : (e : PlainExpr) → pointed e ≡ place_in (type_of_expr e) e
pointed_so (expression void mode node) = refl
pointed_so (expression (integer signed bytes) mode node) = refl
pointed_so (expression (fixed kind sat) mode node) = refl
pointed_so (expression (pointer s k to) mode node) = refl
pointed_so (expression (array of len) mode node) = refl
pointed_so (expression (struct index) mode node) = refl

abbrev IsPointed : PlainType → PlainExpr → Operand → Type 0
IsPointed ty e o = (s : SpaceId) × (c : Bool) × (to : PlainType) × (ty ≡ pointer s c to) × (place to c s false (deref e) ≡ o)

place_is : (ty : PlainType) (e : PlainExpr) (o : Operand) → place_in ty e ≡ Some o → IsPointed ty e o
place_is void e o q = cc
place_is (integer signed bytes) e o q = cc
place_is (fixed kind sat) e o q = cc
place_is (array of len) e o q = cc
place_is (struct index) e o q = cc
place_is (pointer s c to) e o q = (s, c, to, refl, inside q)

pointed_is : (e : PlainExpr) (o : Operand) → pointed e ≡ Some o → IsPointed (type_of_expr e) e o
pointed_is e o q = place_is (type_of_expr e) e o (sym (pointed_so e) ∙ q)

pointed_to : (e : PlainExpr) (s : SpaceId) (c : Bool) (to : PlainType) → type_of_expr e ≡ pointer s c to
    → pointed e ≡ Some (place to c s false (deref e))
pointed_to e s c to q = pointed_so e ∙ ap (λ (ty : PlainType). place_in ty e) q

-- ---- conditions

module _ (m : Modes) (a : Operand) where
  pub condition_is : (e : PlainExpr) → condition m (Some a) ≡ Some e → IsScalar (value_type a) × (as_value m a ≡ e)
  condition_is e q =
      let g = only (is_scalar (value_type a)) (Some (as_value m a)) e q in
      ((scalars (value_type a)).0 g.0, inside g.1)

  pub condition_to : IsScalar (value_type a) → condition m (Some a) ≡ Some (as_value m a)
  condition_to h = only_so (is_scalar (value_type a)) (Some (as_value m a)) (Some (as_value m a)) ((scalars (value_type a)).1 h) refl

module _ (k : Known) (told : TypesAreTold) where
  -- ---- subscripts

  abbrev sum_of : PlainType → Operand → Operand → PlainExpr
  sum_of ty a b = made k.modes ty (binary Add (as_value k.modes a) (as_value k.modes b))

  pub index_is : (x y : term.Term) (at : ℕ) (a b o : Operand) → Uses k x a → Uses k y b → indexed k.modes a b ≡ Some o
      → Means k (term.index x at y) o
  index_is x y at a b o u v q =
      let ty = type_of_expr (as_value k.modes a) in
      let g = only (is_integer (value_type b)) (pointed (sum_of ty a b)) o q in
      let h = pointed_is (sum_of ty a b) o g.1 in
      let same : place h.2 h.1 h.0 false (deref (sum_of (pointer h.0 h.1 h.2) a b)) ≡ o =
      ap (λ (z : PlainType). place h.2 h.1 h.0 false (deref (sum_of z a b))) (sym h.3) ∙ h.4 in
      subst (Means k (term.index x at y)) same
      (r.indexed u v (sym (value_types_agree k.modes a) ∙ h.3) ((integers (value_type b)).0 g.0))

  pub index_to : (a b : Operand) (s : SpaceId) (c : Bool) (to : PlainType) → value_type a ≡ pointer s c to → IsInteger (value_type b)
      → indexed k.modes a b ≡ Some (place to c s false (deref (sum_of (pointer s c to) a b)))
  index_to a b s c to q h =
      let ty = type_of_expr (as_value k.modes a) in
      let e = value_types_agree k.modes a ∙ q in
      only_so (is_integer (value_type b)) (pointed (sum_of ty a b)) (Some (place to c s false (deref (sum_of (pointer s c to) a b))))
      ((integers (value_type b)).1 h)
      (pointed_to (sum_of ty a b) s c to e ∙ ap (λ (z : PlainType). Some (place to c s false (deref (sum_of z a b)))) e)

  -- ---- members

  abbrev member_in : (arrow : Bool) (n : List ℕ) (a : Operand) → ℕ → Option Operand
  member_in arrow n a index =
      with_one (member_number k.structs n index) (λ i.
      with_one (type_of_member k.structs (struct index) i) (λ part. with_one (reached k.modes arrow a) (part_of part i)))

  record IsPart (arrow : Bool) (n : List ℕ) (a o : Operand) : Type 0 where
    index : ℕ
    i : ℕ
    ty : PlainType
    base : Operand
    based : base_of arrow (value_type a) ≡ Some index
    among : IsMember k index n i ty
    reach : reached k.modes arrow a ≡ Some base
    part : part_of ty i base ≡ Some o

  part_is : (arrow : Bool) (n : List ℕ) (a o : Operand) → member_of k.modes k.structs n arrow a ≡ Some o → IsPart arrow n a o
  part_is arrow n a o q =
      let f = with_given (base_of arrow (value_type a)) (member_in arrow n a) o q in
      let g = with_given (member_number k.structs n f.0)
      (λ i. with_one (type_of_member k.structs (struct f.0) i) (λ part. with_one (reached k.modes arrow a) (part_of part i))) o f.2 in
      let h = with_given (type_of_member k.structs (struct f.0) g.0) (λ part. with_one (reached k.modes arrow a) (part_of part g.0)) o g.2
      in
      let i = with_given (reached k.modes arrow a) (part_of h.0 g.0) o h.2 in record {
        index = f.0;
        i = g.0;
        ty = h.0;
        base = i.0;
        based = f.1;
        among = record { found = g.1; type = h.1 };
        reach = i.1;
        part = i.2;
      }

  is_part : (arrow : Bool) (n : List ℕ) (a o : Operand) (index i : ℕ) (ty : PlainType) (base : Operand)
      → base_of arrow (value_type a) ≡ Some index → IsMember k index n i ty → reached k.modes arrow a ≡ Some base
      → part_of ty i base ≡ Some o → member_of k.modes k.structs n arrow a ≡ Some o
  is_part arrow n a o index i ty base e h f q =
      with_granted (base_of arrow (value_type a)) (member_in arrow n a) index o e
      (with_granted (member_number k.structs n index)
      (λ i. with_one (type_of_member k.structs (struct index) i) (λ part. with_one (reached k.modes arrow a) (part_of part i))) i o h.found
      (with_granted (type_of_member k.structs (struct index) i) (λ part. with_one (reached k.modes arrow a) (part_of part i)) ty o h.type
      (with_granted (reached k.modes arrow a) (part_of ty i) base o f q)))

  place_struct : (ty : PlainType) (c : Bool) (s : SpaceId) (g : Bool) (q : PlainPlace) (index : ℕ)
      → struct_of (value_type (place ty c s g q)) ≡ Some index → ty ≡ struct index
  place_struct void c s g q index h = struct_is void index h
  place_struct (integer signed bytes) c s g q index h = struct_is (integer signed bytes) index h
  place_struct (fixed kind sat) c s g q index h = struct_is (fixed kind sat) index h
  place_struct (pointer r k to) c s g q index h = struct_is (pointer r k to) index h
  place_struct (array of len) c s g q index h = cc
  place_struct (struct i) c s g q index h = struct_is (struct i) index h

  pub member_is : (x : term.Term) (at name_at : ℕ) (arrow : Bool) (n : List ℕ) (a o : Operand) → Uses k x a
      → member_of k.modes k.structs n arrow a ≡ Some o → Means k (term.member x at arrow name_at n) o
  member_is x at name_at true n a o u q =
      let p = part_is true n a o q in
      let h = pointed_is (as_value k.modes a) p.base p.reach in
      let e : value_type a ≡ pointer h.0 h.1 h.2 = sym (value_types_agree k.modes a) ∙ h.3 in
      let based : struct_of h.2 ≡ Some p.index = ap (base_of true) (sym e) ∙ p.based in
      let to = struct_is h.2 p.index based in
      let same : place p.ty h.1 h.0 false (member (deref (as_value k.modes a)) p.i) ≡ o =
      inside (ap (part_of p.ty p.i) h.4 ∙ p.part) in
      subst (Means k (term.member x at true name_at n)) same (r.reached u (e ∙ ap (pointer h.0 h.1) to) p.among)
  member_is x at name_at false n (value e zero) o u q =
      let p = part_is false n (value e zero) o q in
      let same : value e zero ≡ p.base = inside p.reach in
      absurd (nothing_there o (ap (part_of p.ty p.i) same ∙ p.part))
  member_is x at name_at false n (place ty c s g f) o u q =
      let p = part_is false n (place ty c s g f) o q in
      let e = place_struct ty c s g f p.index p.based in
      let base : place ty c s g f ≡ p.base = inside p.reach in
      let same : place p.ty c s g (member f p.i) ≡ o =
      inside (ap (part_of p.ty p.i) base ∙ p.part) in
      subst (Means k (term.member x at false name_at n)) same
      (r.part (subst (λ (z : PlainType). Uses k x (place z c s g f)) e u) p.among)

  pub arrow_to : (n : List ℕ) (a : Operand) (s : SpaceId) (c : Bool) (index i : ℕ) (ty : PlainType)
      → value_type a ≡ pointer s c (struct index)
      → IsMember k index n i ty
      → member_of k.modes k.structs n true a ≡ Some (place ty c s false (member (deref (as_value k.modes a)) i))
  arrow_to n a s c index i ty e h =
      is_part true n a (place ty c s false (member (deref (as_value k.modes a)) i)) index i ty
      (place (struct index) c s false (deref (as_value k.modes a))) (ap (base_of true) e) h
      (pointed_to (as_value k.modes a) s c (struct index) (value_types_agree k.modes a ∙ e)) refl

  pub dot_to : (n : List ℕ) (c : Bool) (s : SpaceId) (g : Bool) (f : PlainPlace) (index i : ℕ) (ty : PlainType) → IsMember k index n i ty
      → member_of k.modes k.structs n false (place (struct index) c s g f) ≡ Some (place ty c s g (member f i))
  dot_to n c s g f index i ty h =
      is_part false n (place (struct index) c s g f) (place ty c s g (member f i)) index i ty (place (struct index) c s g f) refl h refl
      refl

  -- ---- steps

  pub record IsStep (x : term.Term) (up prefix : Bool) (o : Operand) : Type 0 where
    pub ty : PlainType
    pub s : SpaceId
    pub g : Bool
    pub f : PlainPlace
    pub uses : Uses k x (place ty false s g f)
    pub scalar : IsScalar ty
    pub same : value (made k.modes ty (step up prefix f)) false ≡ o

  pub step_is : (x : term.Term) (up prefix : Bool) (a o : Operand) → Uses k x a → stepped k.modes up prefix a ≡ Some o
      → IsStep x up prefix o
  step_is x up prefix (value e zero) o u q = absurd (nothing_there o q)
  step_is x up prefix (place ty c s g f) o u q =
      let h = only (is_scalar ty && not c) (valued (made k.modes ty (step up prefix f))) o q in
      let d = (Decides-and (is_scalar ty) (not c) (scalars ty) (not-true c, not_from_false c)).0 h.0 in record {
        ty = ty;
        s = s;
        g = g;
        f = f;
        uses = subst (λ (z : Bool). Uses k x (place ty z s g f)) d.1 u;
        scalar = d.0;
        same = value_in (made k.modes ty (step up prefix f)) o h.1;
      }

  pub step_to : (up prefix : Bool) (ty : PlainType) (s : SpaceId) (g : Bool) (f : PlainPlace) → IsScalar ty
      → stepped k.modes up prefix (place ty false s g f) ≡ Some (value (made k.modes ty (step up prefix f)) false)
  step_to up prefix ty s g f h =
      only_so (is_scalar ty && not false) (valued (made k.modes ty (step up prefix f)))
      (Some (value (made k.modes ty (step up prefix f)) false))
      (ap (λ (z : Bool). z && not false) ((scalars ty).1 h)) refl

  -- ---- prefix operators

  address_is : (x : term.Term) (at : ℕ) (a o : Operand) → Uses k x a → prefixed k.modes Address a ≡ Some o
      → Means k (term.prefixed at Address x) o
  address_is x at (value e zero) o u q = absurd (nothing_there o q)
  address_is x at (place ty c s true f) o u q = absurd (nothing_there o q)
  address_is x at (place ty c s false f) o u q =
      subst (Means k (term.prefixed at Address x)) (value_in (made k.modes (pointer s c ty) (address_of f)) o q) (r.address u)

  deref_is : (x : term.Term) (at : ℕ) (a o : Operand) → Uses k x a → prefixed k.modes Deref a ≡ Some o
      → Means k (term.prefixed at Deref x) o
  deref_is x at a o u q =
      let h = pointed_is (as_value k.modes a) o q in
      subst (Means k (term.prefixed at Deref x)) h.4 (r.pointed u (sym (value_types_agree k.modes a) ∙ h.3))

  number_type : (a : Operand) (t : Arithmetic) → arithmetic_of (type_of_expr (as_value k.modes a)) ≡ Some t → value_type a ≡ type_of t
  number_type a t q = arithmetic_is (value_type a) t (ap arithmetic_of (sym (value_types_agree k.modes a)) ∙ q)

  type_number : (a : Operand) (t : Arithmetic) → value_type a ≡ type_of t → arithmetic_of (type_of_expr (as_value k.modes a)) ≡ Some t
  type_number a t q = ap arithmetic_of (value_types_agree k.modes a ∙ q) ∙ is_arithmetic_type t

  plus_is : (x : term.Term) (at : ℕ) (a o : Operand) → Uses k x a → prefixed k.modes Plus a ≡ Some o
      → Means k (term.prefixed at Plus x) o
  plus_is x at a o u q =
      let g = with_given (arithmetic_of (type_of_expr (as_value k.modes a)))
      (λ t. valued (converted k.modes (type_of (promoted_type t)) (as_value k.modes a))) o q in
      let e = converted k.modes (type_of (promoted_type g.0)) (as_value k.modes a) in
      subst (Means k (term.prefixed at Plus x)) (value_in e o g.2)
      (r.plus g.0 u (number_type a g.0 g.1) (converted_is told k.modes (type_of (promoted_type g.0)) (as_value k.modes a)))

  abbrev unary_node : (a : Operand) → Arithmetic → PlainExpr
  unary_node a t = made k.modes (type_of (promoted_type t))
      (unary unary_operators.Minus (converted k.modes (type_of (promoted_type t)) (as_value k.modes a)))

  abbrev inverse_node : (a : Operand) → Arithmetic → PlainExpr
  inverse_node a t = made k.modes (type_of (promoted_type t))
      (unary unary_operators.Invert (converted k.modes (type_of (promoted_type t)) (as_value k.modes a)))

  minus_is : (x : term.Term) (at : ℕ) (a o : Operand) → Uses k x a → prefixed k.modes Minus a ≡ Some o
      → Means k (term.prefixed at Minus x) o
  minus_is x at a o u q =
      let g = with_given (arithmetic_of (type_of_expr (as_value k.modes a))) (λ t. valued (unary_node a t)) o q in
      subst (Means k (term.prefixed at Minus x)) (value_in (unary_node a g.0) o g.2)
      (r.minus g.0 u (number_type a g.0 g.1) (converted_is told k.modes (type_of (promoted_type g.0)) (as_value k.modes a)))

  invert_by : (x : term.Term) (at : ℕ) (a o : Operand) → Uses k x a → (t : Arithmetic) → value_type a ≡ type_of t
      → (if is_integer (type_of t) then valued (inverse_node a t) else None) ≡ Some o → Means k (term.prefixed at Invert x) o
  invert_by x at a o u (Integer t) e q =
      subst (Means k (term.prefixed at Invert x)) (value_in (inverse_node a (Integer t)) o q)
      (r.inverted t u e (converted_is told k.modes (type_of (promoted_type (Integer t))) (as_value k.modes a)))
  invert_by x at a o u (Fixed t) e q = absurd (nothing_there o q)

  invert_is : (x : term.Term) (at : ℕ) (a o : Operand) → Uses k x a → prefixed k.modes Invert a ≡ Some o
      → Means k (term.prefixed at Invert x) o
  invert_is x at a o u q =
      let g = with_given (arithmetic_of (type_of_expr (as_value k.modes a)))
      (λ t. if is_integer (type_of t) then valued (inverse_node a t) else None) o q in
      invert_by x at a o u g.0 (number_type a g.0 g.1) g.2

  not_is : (x : term.Term) (at : ℕ) (a o : Operand) → Uses k x a → prefixed k.modes Not a ≡ Some o → Means k (term.prefixed at Not x) o
  not_is x at a o u q =
      let g = with_given (condition k.modes (Some a)) (λ e. valued (made k.modes int (logical_not e))) o q in
      let h = condition_is k.modes a g.0 g.1 in
      let same = ap (λ (e : PlainExpr). value (made k.modes int (logical_not e)) false) h.1
      ∙ value_in (made k.modes int (logical_not g.0)) o g.2 in
      subst (Means k (term.prefixed at Not x)) same (r.negated u h.0)

  pub prefix_is : (x : term.Term) (at : ℕ) (op : PrefixOp) (a o : Operand) → Uses k x a → prefixed k.modes op a ≡ Some o
      → Means k (term.prefixed at op x) o
  prefix_is x at Address a o u q = address_is x at a o u q
  prefix_is x at Deref a o u q = deref_is x at a o u q
  prefix_is x at Plus a o u q = plus_is x at a o u q
  prefix_is x at Minus a o u q = minus_is x at a o u q
  prefix_is x at Invert a o u q = invert_is x at a o u q
  prefix_is x at Not a o u q = not_is x at a o u q

  pub deref_to : (a : Operand) (s : SpaceId) (c : Bool) (to : PlainType) → value_type a ≡ pointer s c to
      → prefixed k.modes Deref a ≡ Some (place to c s false (deref (as_value k.modes a)))
  deref_to a s c to q = pointed_to (as_value k.modes a) s c to (value_types_agree k.modes a ∙ q)

  pub plus_to : (a : Operand) (t : Arithmetic) (e : PlainExpr) → value_type a ≡ type_of t
      → IsConverted k.modes (type_of (promoted_type t)) (as_value k.modes a) e → prefixed k.modes Plus a ≡ Some (value e false)
  plus_to a t e q h =
      with_granted (arithmetic_of (type_of_expr (as_value k.modes a)))
      (λ t. valued (converted k.modes (type_of (promoted_type t)) (as_value k.modes a))) t (value e false) (type_number a t q)
      (ap (λ (z : PlainExpr). Some (value z false)) (is_converted told k.modes (type_of (promoted_type t)) (as_value k.modes a) e h))

  pub minus_to : (a : Operand) (t : Arithmetic) (e : PlainExpr) → value_type a ≡ type_of t
      → IsConverted k.modes (type_of (promoted_type t)) (as_value k.modes a) e
      → prefixed k.modes Minus a ≡ Some (value (made k.modes (type_of (promoted_type t)) (unary unary_operators.Minus e)) false)
  minus_to a t e q h =
      with_granted (arithmetic_of (type_of_expr (as_value k.modes a))) (λ t. valued (unary_node a t)) t
      (value (made k.modes (type_of (promoted_type t)) (unary unary_operators.Minus e)) false) (type_number a t q)
      (ap (λ (z : PlainExpr). Some (value (made k.modes (type_of (promoted_type t)) (unary unary_operators.Minus z)) false))
      (is_converted told k.modes (type_of (promoted_type t)) (as_value k.modes a) e h))

  pub invert_to : (a : Operand) (t : Arithmetic) (e : PlainExpr) → value_type a ≡ type_of t → is_integer (type_of t) ≡ true
      → IsConverted k.modes (type_of (promoted_type t)) (as_value k.modes a) e
      → prefixed k.modes Invert a ≡ Some (value (made k.modes (type_of (promoted_type t)) (unary unary_operators.Invert e)) false)
  invert_to a t e q i h =
      let out = value (made k.modes (type_of (promoted_type t)) (unary unary_operators.Invert e)) false in
      with_granted (arithmetic_of (type_of_expr (as_value k.modes a)))
      (λ t. if is_integer (type_of t) then valued (inverse_node a t) else None) t out (type_number a t q)
      (only_so (is_integer (type_of t)) (valued (inverse_node a t)) (Some out) i
      (ap (λ (z : PlainExpr). Some (value (made k.modes (type_of (promoted_type t)) (unary unary_operators.Invert z)) false))
      (is_converted told k.modes (type_of (promoted_type t)) (as_value k.modes a) e h)))

  pub not_to : (a : Operand) → IsScalar (value_type a)
      → prefixed k.modes Not a ≡ Some (value (made k.modes int (logical_not (as_value k.modes a))) false)
  not_to a h =
      with_granted (condition k.modes (Some a)) (λ e. valued (made k.modes int (logical_not e))) (as_value k.modes a)
      (value (made k.modes int (logical_not (as_value k.modes a))) false) (condition_to k.modes a h) refl
