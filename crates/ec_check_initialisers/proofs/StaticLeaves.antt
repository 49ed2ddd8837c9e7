-- The initial values of a static object suit the leaves of its type.
use Rattle.std.proofs.Common.{◌≡◌, ◌∙◌, ℕ, ◌+◌, refl, sym, ap, subst, Bool, true, false, ◌&&◌, ◌||◌, not, if◌then◌else◌, ℤ, pos, Result, Ok}
use Rattle.std.proofs.Common.{Err, Option, Some, None, List, [], ◌∷◌, length, option_map, arith}
use Rattle.std.specs.Prelude.{IsTrue, IsSomeAnd, is_some}
use Rattle.std.specs.List.{AllZip}
use Rattle.std.proofs.lemmas.Int.{ints}
use Rattle.ec_fx.specs.Formats.{format_of}
use Rattle.ec_fx.specs.Ranges.{IsWithin}
use Rattle.ec_grammar.specs.Trees as t
use Rattle.ec_space.specs.declared.space.SpaceId.{SpaceId}
use Rattle.ec_space.specs.Spaces.{encloses}
use Rattle.ec_core.specs.declared.programs.LeafInit.{LeafInit}
use Rattle.ec_core.specs.declared.programs.LeafInit.TheVariants.{Number, Null, Address}
use Rattle.ec_core.specs.declared.values.Undefined.{Undefined}
use Rattle.ec_core.specs.ArithmeticTypes.{arithmetic_of}
use Rattle.ec_core.specs.ArithmeticValues.{HoldsNumber}
use Rattle.ec_core.specs.Laws.{TypesAreTold}
use Rattle.ec_core.specs.Layout.{leaves_of_type, IsScalar, IsObjectType, AreStructs}
use Rattle.ec_core.specs.Operators.{number_type, same_type}
use Rattle.ec_core.specs.Plain.{PlainType, void, integer, fixed, pointer, array, struct, PlainExpr}
use Rattle.ec_core.specs.TypeLaws.{StructsAreLaidOut, LeavesFillTheirTypes}
use Rattle.ec_core.specs.Typing.{type_of_expr}
use Rattle.ec_core.proofs.HeldNumbers.{Held}
use Rattle.ec_check_names.specs.Names.{Named, an_object, Names, newest, or_else}
use Rattle.ec_check_names.specs.Tables.{at_name}
use Rattle.ec_check_operands.specs.Operands.{Operand, value_type, is_null, with_one}
use Rattle.ec_check_operands.specs.Passing.{passes, in_type, brought, passed}
use Rattle.ec_check_operands.specs.Sorts.{is_void, is_pointer, narrows, drops_const}
use Rattle.ec_check_forms.specs.Nodes.{used}
use Rattle.ec_check_constants.specs.Constants.{IsNumeric, constant}
use Rattle.ec_check_initialisers.specs.Forms.{is_constant_assignment}
use Rattle.ec_check_constants.specs.Laws.{TestsTellConstants}
use Rattle.ec_check_constants.specs.Tests.{is_constant}
use Rattle.ec_check_expressions.specs.Expressions.{of_assignment}
use Rattle.ec_check_expressions.specs.Known.{Known}
use Rattle.ec_check_initialisers.specs.declared.places.ItemForm.{ItemForm}
use Rattle.ec_check_initialisers.specs.declared.places.ItemForm.TheVariants as item
use Rattle.ec_check_initialisers.specs.declared.places.StaticAddress.{StaticAddress}
use Rattle.ec_check_initialisers.specs.Items.{leaf_of_result, leaf_of, becomes_null, zero_leaf}
use Rattle.ec_check_initialisers.specs.Laws.{leaf_types, IsStaticAddress, IsInitialLeaf, InitialValuesSuit}
use Rattle.ec_check_initialisers.specs.Parts.{part_of, scalar_of, joined}
use Rattle.ec_check_initialisers.specs.Places.{StaticPlace, named_outside, element_type, Designated, place_at, address_at, in_assignment}
use Rattle.ec_check_initialisers.specs.Places.{address_constant, address_form, form_of}
use Rattle.ec_check_initialisers.specs.Statics.{walked_leaf, item_leaf, static_leaves, with_static_items}
use Rattle.ec_check_initialisers.proofs.Agreement.{IsIn, Means, assignment_agrees}
use Rattle.ec_check_initialisers.proofs.Fitting.{FitsBefore, no_part_fits, item_fits, whole_fits, zeros_fit, scalar_leaves}
use Rattle.ec_check_initialisers.proofs.HeldConstants.{constant_held, expression_numeric}
use Rattle.ec_check_initialisers.proofs.LocalLeaves.{brought_type}

-- ---- zero

zero_within : (signed : Bool) (bits : ℕ) → IsWithin signed bits (pos 0)
zero_within true bits = record { low = omega (arith, ints); high = omega (arith, ints) }
zero_within false bits = record { low = omega (arith, ints); high = omega (arith, ints) }

-- ---- names

found_outside : (n : List ℕ) (s : Names) (what : Named) (w : Option Named) → newest n s.inside ≡ w
    → (if is_some w then None else or_else w (at_name n s.outside)) ≡ Some what → at_name n s.outside ≡ Some what
found_outside n s what None q e = e
found_outside n s what (Some x) q e = cc

named_at : (n : List ℕ) (s : Names) (what : Named) → named_outside n s ≡ Some what → at_name n s.outside ≡ Some what
named_at n s what e = found_outside n s what (newest n s.inside) refl e

-- ---- what an item gives

-- an operand that was brought to a type, and the leaf that it gives by the item's form
record Gives (k : Known) (form : ItemForm) (ty : PlainType) (X : Option Operand) (init : LeafInit) : Type 0 where
  x : Operand
  is : X ≡ Some x
  e : PlainExpr
  passes : brought k.modes ty x ≡ Some e
  leaf : leaf_of form (is_null x && is_pointer ty) e ≡ Some init

gives : (k : Known) (form : ItemForm) (ty : PlainType) (X : Option Operand) (init : LeafInit)
    → with_one (passed k.modes (Some ty) (used X)) (leaf_of form (becomes_null (Some ty) (used X))) ≡ Some init → Gives k form ty X init
gives k form ty None init q = cc
gives k form ty (Some x) init q = by_void (is_void (value_type x)) q
  where
    by_value : (v : Option PlainExpr) → brought k.modes ty x ≡ v → with_one v (leaf_of form (is_null x && is_pointer ty)) ≡ Some init
        → Gives k form ty (Some x) init
    by_value None r s = cc
    by_value (Some e) r s = record { x = x; is = refl; e = e; passes = r; leaf = s }

    by_void : (b : Bool) → with_one (passed k.modes (Some ty) (if b then None else Some x))
        (leaf_of form (becomes_null (Some ty) (if b then None else Some x))) ≡ Some init
        → Gives k form ty (Some x) init
    by_void true r = cc
    by_void false r = by_value (brought k.modes ty x) refl r

-- ---- numbers and null

numeric_holds : (ty : PlainType) (n : ℤ) → IsNumeric ty → HoldsNumber (number_type ty) n
    → IsSomeAnd (arithmetic_of ty) (λ t. HoldsNumber t n)
numeric_holds void n h g = absurd h
numeric_holds (integer signed bytes) n h g = g
numeric_holds (fixed kind saturates) n h g = g
numeric_holds (pointer space const to) n h g = absurd h
numeric_holds (array of len) n h g = absurd h
numeric_holds (struct index) n h g = absurd h

null_suits : (k : Known) (ty : PlainType) → is_pointer ty ≡ true → IsInitialLeaf k ty Null
null_suits k void e = cc
null_suits k (integer signed bytes) e = cc
null_suits k (fixed kind saturates) e = cc
null_suits k (pointer space const to) e = tt
null_suits k (array of len) e = cc
null_suits k (struct index) e = cc

zero_suits : (k : Known) (ty : PlainType) → IsScalar ty → IsInitialLeaf k ty (zero_leaf ty)
zero_suits k void h = absurd h
zero_suits k (integer signed bytes) h = (h, zero_within signed _)
zero_suits k (fixed kind saturates) h = zero_within (format_of kind).signed (format_of kind).bits
zero_suits k (pointer space const to) h = tt
zero_suits k (array of len) h = absurd h
zero_suits k (struct index) h = absurd h

both : (a b : Bool) → (a && b) ≡ true → b ≡ true
both true b e = e
both false b e = cc

module _ (tests : TestsTellConstants) (k : Known) (ty : PlainType) where
  result_suits : (r : Result ℤ Undefined) (init : LeafInit) → IsNumeric ty → Held (number_type ty) r → leaf_of_result r ≡ Some init
      → IsInitialLeaf k ty init
  result_suits (Ok n) init h g e = let same : Number n ≡ init = cc in subst (IsInitialLeaf k ty) same (numeric_holds ty n h g)
  result_suits (Err u) init h g e = cc

  number_suits : (e : PlainExpr) (init : LeafInit) → type_of_expr e ≡ ty → (b : Bool) → is_constant e ≡ b
      → (if b then leaf_of_result (constant e) else None) ≡ Some init → IsInitialLeaf k ty init
  number_suits e init q true c r =
      let valid = tests.sound e c in
      result_suits (constant e) init (subst IsNumeric q (expression_numeric e valid))
      (subst (λ (z : PlainType). Held (number_type z) (constant e)) q (constant_held e valid)) r
  number_suits e init q false c r = cc

  constant_suits : (z : Bool) (e : PlainExpr) (init : LeafInit) → type_of_expr e ≡ ty → (z ≡ true → is_pointer ty ≡ true)
      → leaf_of item.Constant z e ≡ Some init → IsInitialLeaf k ty init
  constant_suits true e init q f r = let same : Null ≡ init = cc in subst (IsInitialLeaf k ty) same (null_suits k ty (f refl))
  constant_suits false e init q f r = number_suits e init q (is_constant e) refl r

-- ---- addresses

-- an operand that is a pointer into the space of the object that a static place is in
record IsPointerTo (k : Known) (s : StaticPlace) (x : Operand) : Type 0 where
  home : SpaceId
  konst : Bool
  to : PlainType
  ty : value_type x ≡ pointer home konst to
  null : is_null x ≡ false
  in_object : IsIn k s home konst

array_pointer : (k : Known) (s r : StaticPlace) (ty : PlainType) → s.ty ≡ ty → (if is_some (element_type ty) then Some s else None) ≡ Some r
    → (x : Operand) → Means k (place_at s) x → IsPointerTo k r x
array_pointer k s r void q e x m = cc
array_pointer k s r (integer signed bytes) q e x m = cc
array_pointer k s r (fixed kind saturates) q e x m = cc
array_pointer k s r (pointer space const to) q e x m = cc
array_pointer k s r (struct index) q e x m = cc
array_pointer k s r (array of len) q e x m =
    let same : s ≡ r = cc in
    let is : x ≡ Rattle.ec_check_operands.specs.Operands.place (array of len) m.konst m.home false m.there =
    m.is ∙ ap (λ ty. Rattle.ec_check_operands.specs.Operands.place ty m.konst m.home false m.there) q in
    subst (λ (z : StaticPlace). IsPointerTo k z x) same
    (record { home = m.home; konst = m.konst; to = of; ty = ap value_type is; null = ap is_null is; in_object = m.in_object })

address_pointer : (k : Known) (D : Option Designated) (r : StaticPlace) → address_constant D ≡ Some r → (x : Operand)
    → ((d : Designated) → D ≡ Some d → Means k d x) → IsPointerTo k r x
address_pointer k None r e x f = cc
address_pointer k (Some (place_at s)) r e x f = array_pointer k s r s.ty refl e x (f (place_at s) refl)
address_pointer k (Some (address_at s)) r e x f =
    let m = f (address_at s) refl in
    let same : s ≡ r = cc in
    subst (λ (z : StaticPlace). IsPointerTo k z x) same
    (record { home = m.home; konst = m.konst; to = s.ty; ty = m.ty; null = m.null; in_object = m.in_object })

enclosed : (b x y : Bool) → (b && not (not x || y)) ≡ true → IsTrue x
enclosed true true y e = refl
enclosed true false y e = cc
enclosed false x y e = cc

module _ (k : Known) (s : StaticPlace) (a : StaticAddress) (q : s.address ≡ Some a) where
  into_space : (space home : SpaceId) (konst : Bool) → IsIn k s home konst → IsTrue (encloses space home)
      → IsStaticAddress k space a.object a.offset
  into_space space home konst h e =
      record {
        name = h.name;
        ty = h.whole;
        konst = konst;
        home = home;
        named = named_at h.name k.names (an_object (Some a.object) (Some h.whole) konst home false)
            (h.named ∙ ap (λ (n : Option ℕ). Some (an_object n (Some h.whole) konst home false)) (h.object a q));
        enclosed = e;
        inside = h.inside a q;
      }

  address_suits : (ty : PlainType) (home : SpaceId) (konst : Bool) (to : PlainType) → IsIn k s home konst
      → (passes (pointer home konst to) false ty && not (narrows (pointer home konst to) ty || drops_const (pointer home konst to) ty))
      ≡ true
      → IsInitialLeaf k ty (Address a.object a.offset)
  address_suits void home konst to h e = cc
  address_suits (integer signed bytes) home konst to h e = cc
  address_suits (fixed kind saturates) home konst to h e = cc
  address_suits (array of len) home konst to h e = cc
  address_suits (struct index) home konst to h e = cc
  address_suits (pointer space const of) home konst to h e =
      into_space space home konst h (enclosed (same_type to of) (encloses space home) (konst && not const) e)

brought_passes : (b : Bool) (v e : PlainExpr) → (if b then Some v else None) ≡ Some e → b ≡ true
brought_passes true v e q = refl
brought_passes false v e q = cc

pointer_suits : (k : Known) (s : StaticPlace) (ty : PlainType) (x : Operand) (e : PlainExpr) (init : LeafInit) → IsPointerTo k s x
    → brought k.modes ty x ≡ Some e
    → (a : Option StaticAddress) → s.address ≡ a → leaf_of (item.Address a) (is_null x && is_pointer ty) e ≡ Some init
    → IsInitialLeaf k ty init
pointer_suits k s ty x e init m b None q r = cc
pointer_suits k s ty x e init m b (Some a) q r =
    let same : Address a.object a.offset ≡ init = cc in
    let T : Bool = passes (value_type x) (is_null x) ty && not (narrows (value_type x) ty || drops_const (value_type x) ty) in
    let P : PlainType × Bool → Type 0 = λ v. (passes v.0 v.1 ty && not (narrows v.0 ty || drops_const v.0 ty)) ≡ true in
    let held : T ≡ true = brought_passes T (in_type k.modes ty x) e b in
    subst (IsInitialLeaf k ty) same
    (address_suits k s a q ty m.home m.konst m.to m.in_object (subst P (λ i. (m.ty i, m.null i)) held))

-- ---- initialisers

module _ (law : StructsAreLaidOut) (leaves : LeavesFillTheirTypes) (told : TypesAreTold) (tests : TestsTellConstants) (k : Known)
    (h : AreStructs k.structs) where
  null_pointer : (x : Operand) (ty : PlainType) → (is_null x && is_pointer ty) ≡ true → is_pointer ty ≡ true
  null_pointer x ty e = both (is_null x) (is_pointer ty) e

  constant_item : (ty : PlainType) (a : t.Assignment) (init : LeafInit) → Gives k item.Constant ty (of_assignment k a) init
      → IsInitialLeaf k ty init
  constant_item ty a init g =
      constant_suits tests k ty (is_null g.x && is_pointer ty) g.e init (brought_type told k.modes ty g.x g.e g.passes)
      (null_pointer g.x ty) g.leaf

  address_item : (ty : PlainType) (a : t.Assignment) (init : LeafInit) (s : StaticPlace) → address_constant (in_assignment k a) ≡ Some s
      → Gives k (item.Address s.address) ty (of_assignment k a) init → IsInitialLeaf k ty init
  address_item ty a init s q g =
      pointer_suits k s ty g.x g.e init
      (address_pointer k (in_assignment k a) s q g.x (λ d e. assignment_agrees k a d e g.x g.is)) g.passes s.address refl g.leaf

  -- an item of a type without parts
  item_suits : (ty : PlainType) (a : t.Assignment) (init : LeafInit) → scalar_of (Some ty) ≡ Some ty
      → item_leaf k (form_of k a) (Some ty) a ≡ Some init
      → IsInitialLeaf k ty init
  item_suits ty a init scalar e = by_constant (is_constant_assignment k a) e
    where
      W : ItemForm → Option PlainType → Option LeafInit
      W form z = with_one (passed k.modes z (used (of_assignment k a))) (leaf_of form (becomes_null z (used (of_assignment k a))))

      walked : (form : ItemForm) → walked_leaf k form (Some ty) a ≡ Some init → Gives k form ty (of_assignment k a) init
      walked form q = gives k form ty (of_assignment k a) init (subst (λ (z : Option PlainType). with_one
          (passed k.modes z (used (of_assignment k a))) (leaf_of form (becomes_null z (used (of_assignment k a)))) ≡ Some init) scalar q)

      by_address : (r : Option StaticPlace) → address_constant (in_assignment k a) ≡ r
          → item_leaf k (address_form r) (Some ty) a ≡ Some init → IsInitialLeaf k ty init
      by_address None q f = cc
      by_address (Some s) q f = address_item ty a init s q (walked (item.Address s.address) f)

      by_constant : (b : Bool) → item_leaf k (if b then item.Constant else address_form (address_constant (in_assignment k a))) (Some ty) a
          ≡ Some init → IsInitialLeaf k ty init
      by_constant true f = constant_item ty a init (walked item.Constant f)
      by_constant false f = by_address (address_constant (in_assignment k a)) refl f

  no_item : (form : ItemForm) (ty : Option PlainType) (a : t.Assignment) → scalar_of ty ≡ None → item_leaf k form ty a ≡ None
  no_item item.Constant ty a e =
      ap (λ z. with_one (passed k.modes z (used (of_assignment k a))) (leaf_of item.Constant (becomes_null z (used (of_assignment k a))))) e
  no_item (item.Address x) ty a e = ap
      (λ z. with_one (passed k.modes z (used (of_assignment k a))) (leaf_of (item.Address x) (becomes_null z (used (of_assignment k a))))) e
  no_item item.Other ty a e = refl

  abbrev Fits : PlainType → List LeafInit → Type 0
  Fits ty inits = AllZip (IsInitialLeaf k) (leaf_types k.structs ty) inits

  one_fits : (ty : PlainType) → leaf_types k.structs ty ≡ ty ∷ [] → scalar_of (Some ty) ≡ Some ty
      → (a : t.Assignment) (inits : List LeafInit)
      → option_map (λ leaf. leaf ∷ []) (item_leaf k (form_of k a) (Some ty) a) ≡ Some inits → Fits ty inits
  one_fits ty single scalar a inits e = of_leaf (item_leaf k (form_of k a) (Some ty) a) refl e
    where
      of_leaf : (v : Option LeafInit) → item_leaf k (form_of k a) (Some ty) a ≡ v
          → option_map (λ leaf. leaf ∷ []) v ≡ Some inits → Fits ty inits
      of_leaf None q f = cc
      of_leaf (Some v) q f =
          let same : v ∷ [] ≡ inits = cc in
          subst (Fits ty) same (subst (λ ts. AllZip (IsInitialLeaf k) ts (v ∷ [])) (sym single) (item_suits ty a v scalar q, tt))

  whole_item : (ty : PlainType) (a : t.Assignment) (inits : List LeafInit) → scalar_of (Some ty) ≡ None
      → option_map (λ leaf. leaf ∷ []) (item_leaf k (form_of k a) (Some ty) a) ≡ Some inits → Fits ty inits
  whole_item ty a inits q e =
      let nothing : option_map (λ (leaf : LeafInit). leaf ∷ []) (item_leaf k (form_of k a) (Some ty) a) ≡ None =
      ap (option_map (λ (leaf : LeafInit). leaf ∷ [])) (no_item (form_of k a) (Some ty) a q) in
      cc

  scalar_fits : (ty : PlainType) → IsObjectType (length k.structs) ty → (a : t.Assignment) (inits : List LeafInit)
      → static_leaves k (t.initial_value a) (Some ty) ≡ Some inits → Fits ty inits
  scalar_fits void o a inits e = absurd o.form
  scalar_fits (integer signed bytes) o a inits e = one_fits (integer signed bytes) refl refl a inits e
  scalar_fits (fixed kind saturates) o a inits e = one_fits (fixed kind saturates) refl refl a inits e
  scalar_fits (pointer space const to) o a inits e = one_fits (pointer space const to) refl refl a inits e
  scalar_fits (array of len) o a inits e = whole_item (array of len) a inits refl e
  scalar_fits (struct index) o a inits e = whole_item (struct index) a inits refl e

  no_value : (i : t.Initialiser) → static_leaves k i None ≡ None
  no_value (t.initial_value a) = ap (option_map (λ (leaf : LeafInit). leaf ∷ [])) (no_item (form_of k a) None a refl)
  no_value (t.braces l first more c r) = refl

  none_items : (ty : Option PlainType) (i : ℕ) (more : t.Initialisers) → with_static_items k ty None i more ≡ None
  none_items ty i t.no_initialisers = refl
  none_items ty i (t.initialisers s x more) = none_items ty (i + 1) more

  given : {B : Type 0} (ty : Option PlainType) (i : ℕ) (more : t.Initialisers) (fs : List LeafInit) (w : Option (List LeafInit))
      → with_static_items k ty w i more ≡ Some fs
      → ((ys : List LeafInit) → w ≡ Some ys → with_static_items k ty (Some ys) i more ≡ Some fs → B) → B
  given ty i more fs None e f = let nothing = none_items ty i more in cc
  given ty i more fs (Some ys) e f = f ys refl e

  abbrev Before : PlainType → ℕ → List LeafInit → Type 0
  Before ty i xs = FitsBefore (IsInitialLeaf k) k.structs ty i xs

  mutual
    value_fits : (i : t.Initialiser) (ty : PlainType) → IsObjectType (length k.structs) ty → (inits : List LeafInit)
        → static_leaves k i (Some ty) ≡ Some inits → Fits ty inits
    value_fits (t.initial_value a) ty o inits e = scalar_fits ty o a inits e
    value_fits (t.braces l first more c r) ty o inits e =
        whole_fits (IsInitialLeaf k) k.structs law h ty o zero_leaf (zero_suits k) (scalar_leaves leaves k.structs ty h o)
        (with_static_items k (Some ty) (joined (Some []) (static_leaves k first (part_of k.structs (Some ty) 0))) 1 more) inits e
        (λ q fs f. given (Some ty) 1 more fs (joined (Some []) (static_leaves k first (part_of k.structs (Some ty) 0))) f
        (λ ys g s. items_fit more ty o 1 ys
        (item_fits (IsInitialLeaf k) k.structs law h ty o (static_leaves k first) (no_value first)
        (λ p o zs r. value_fits first p o zs r) 0 []
        (no_part_fits (IsInitialLeaf k) k.structs law h ty o q) ys g) fs s))

    items_fit : (more : t.Initialisers) (ty : PlainType) → IsObjectType (length k.structs) ty → (i : ℕ) (xs : List LeafInit)
        → Before ty i xs
        → (fs : List LeafInit) → with_static_items k (Some ty) (Some xs) i more ≡ Some fs → (j : ℕ) × Before ty j fs
    items_fit t.no_initialisers ty o i xs b fs e = let same : xs ≡ fs = cc in (i, subst (Before ty i) same b)
    items_fit (t.initialisers s x more) ty o i xs b fs e =
        given (Some ty) (i + 1) more fs (joined (Some xs) (static_leaves k x (part_of k.structs (Some ty) i))) e
        (λ ys g f. items_fit more ty o (i + 1) ys
        (item_fits (IsInitialLeaf k) k.structs law h ty o (static_leaves k x) (no_value x) (λ p o zs r. value_fits x p o zs r) i xs b ys g)
        fs f)

pub initial_values_suit : StructsAreLaidOut → LeavesFillTheirTypes → TypesAreTold → TestsTellConstants → InitialValuesSuit
initial_values_suit law leaves told tests = record {
  given = λ k i ty inits h o e. value_fits law leaves told tests k h i ty o inits e;
  zero = λ k ty h o.
      zeros_fit (IsInitialLeaf k) zero_leaf (zero_suits k) (leaves_of_type k.structs ty) (scalar_leaves leaves k.structs ty h o);
}
