-- The values of a local fit the leaves of its type.
use Rattle.std.proofs.Common.{◌≡◌, ◌∙◌, ℕ, ◌+◌, refl, sym, ap, subst, Bool, true, false, ◌&&◌, ◌||◌, not, if◌then◌else◌, Option, Some, None}
use Rattle.std.proofs.Common.{List, [], ◌∷◌, map, length}
use Rattle.std.specs.List.{AllZip}
use Rattle.ec_grammar.specs.Trees as t
use Rattle.ec_core.specs.Laws.{TypesAreTold}
use Rattle.ec_core.specs.Layout.{IsObjectType, AreStructs}
use Rattle.ec_core.specs.Operators.{same_type}
use Rattle.ec_core.specs.Plain.{PlainType, void, integer, fixed, pointer, array, struct, PlainExpr, null, convert}
use Rattle.ec_core.specs.TypeLaws.{StructsAreLaidOut, LeavesFillTheirTypes}
use Rattle.ec_core.specs.Typing.{type_of_expr}
use Rattle.ec_check_operands.specs.declared.operands.Modes.{Modes}
use Rattle.ec_check_operands.specs.Operands.{Operand, made, converted, as_value, is_null, value_type}
use Rattle.ec_check_operands.specs.Passing.{passes, in_type, brought, passed}
use Rattle.ec_check_operands.specs.Sorts.{is_pointer, narrows, drops_const}
use Rattle.ec_check_forms.specs.Nodes.{used}
use Rattle.ec_check_expressions.specs.Expressions.{of_assignment}
use Rattle.ec_check_expressions.specs.Known.{Known}
use Rattle.ec_check_initialisers.specs.Laws.{leaf_types, ValuesHaveLeafTypes}
use Rattle.ec_check_initialisers.specs.Locals.{leaf_values, with_items}
use Rattle.ec_check_initialisers.specs.Parts.{part_of, one_value, zero_of, scalar_value, joined}
use Rattle.ec_check_initialisers.proofs.Fitting.{FitsBefore, no_part_fits, item_fits, whole_fits, scalar_leaves}

abbrev HasType : PlainType → PlainExpr → Type 0
HasType ty e = type_of_expr e ≡ ty

types_are : (ts : List PlainType) (es : List PlainExpr) → AllZip HasType ts es → map type_of_expr es ≡ ts
types_are [] [] h = refl
types_are [] (e ∷ es) h = absurd h
types_are (t ∷ ts) [] h = absurd h
types_are (t ∷ ts) (e ∷ es) h = let first = h.0 in let rest = types_are ts es h.1 in λ i. first i ∷ rest i

-- ---- one value

module _ (told : TypesAreTold) (m : Modes) (ty : PlainType) where
  converted_type : (e : PlainExpr) (b : Bool) → same_type (type_of_expr e) ty ≡ b
      → type_of_expr (if b then e else made m ty (convert e)) ≡ ty
  converted_type e true q = told.same (type_of_expr e) ty q
  converted_type e false q = refl

  in_type_type : (x : Operand) (b : Bool) → type_of_expr (if b then made m ty null else converted m ty (as_value m x)) ≡ ty
  in_type_type x true = refl
  in_type_type x false = converted_type (as_value m x) (same_type (type_of_expr (as_value m x)) ty) refl

  kept_type : (x : Operand) (b : Bool) (e : PlainExpr) → (if b then Some (in_type m ty x) else None) ≡ Some e → type_of_expr e ≡ ty
  kept_type x true e q =
      let same : in_type m ty x ≡ e = cc in
      ap type_of_expr (sym same) ∙ in_type_type x (is_null x && is_pointer ty)
  kept_type x false e q = cc

  -- what is brought to a type has it
  pub brought_type : (x : Operand) (e : PlainExpr) → brought m ty x ≡ Some e → type_of_expr e ≡ ty
  brought_type x e q =
      kept_type x (passes (value_type x) (is_null x) ty && not (narrows (value_type x) ty || drops_const (value_type x) ty)) e q

-- ---- initialisers

module _ (law : StructsAreLaidOut) (leaves : LeavesFillTheirTypes) (told : TypesAreTold) (k : Known) (h : AreStructs k.structs) where
  abbrev Fits : PlainType → List PlainExpr → Type 0
  Fits ty es = AllZip HasType (leaf_types k.structs ty) es

  one_fits : (ty : PlainType) → leaf_types k.structs ty ≡ ty ∷ [] → (x : Option Operand) (es : List PlainExpr)
      → one_value (passed k.modes (Some ty) x) ≡ Some es → Fits ty es
  one_fits ty single None es e = cc
  one_fits ty single (Some y) es e = of_brought (brought k.modes ty y) refl e
    where
      of_brought : (v : Option PlainExpr) → brought k.modes ty y ≡ v → one_value v ≡ Some es → Fits ty es
      of_brought None q e = cc
      of_brought (Some v) q e =
          let same : v ∷ [] ≡ es = cc in
          subst (Fits ty) same
          (subst (λ ts. AllZip HasType ts (v ∷ [])) (sym single) (brought_type told k.modes ty y v q, tt))

  scalar_fits : (ty : PlainType) → IsObjectType (length k.structs) ty → (x : Option Operand) (es : List PlainExpr)
      → scalar_value k.modes (Some ty) x ≡ Some es → Fits ty es
  scalar_fits void o x es e = absurd o.form
  scalar_fits (integer signed bytes) o x es e = one_fits (integer signed bytes) refl x es e
  scalar_fits (fixed kind saturates) o x es e = one_fits (fixed kind saturates) refl x es e
  scalar_fits (pointer space const to) o x es e = one_fits (pointer space const to) refl x es e
  scalar_fits (array of len) o x es e = cc
  scalar_fits (struct index) o x es e = cc

  no_value : (i : t.Initialiser) → leaf_values k i None ≡ None
  no_value (t.initial_value a) = refl
  no_value (t.braces l first more c r) = refl

  none_items : (ty : Option PlainType) (i : ℕ) (more : t.Initialisers) → with_items k ty None i more ≡ None
  none_items ty i t.no_initialisers = refl
  none_items ty i (t.initialisers s x more) = none_items ty (i + 1) more

  -- where there are values behind some items, there are values before them
  given : {B : Type 0} (ty : Option PlainType) (i : ℕ) (more : t.Initialisers) (fs : List PlainExpr) (w : Option (List PlainExpr))
      → with_items k ty w i more ≡ Some fs → ((ys : List PlainExpr) → w ≡ Some ys → with_items k ty (Some ys) i more ≡ Some fs → B) → B
  given ty i more fs None e f = let nothing = none_items ty i more in cc
  given ty i more fs (Some ys) e f = f ys refl e

  abbrev Before : PlainType → ℕ → List PlainExpr → Type 0
  Before ty i xs = FitsBefore HasType k.structs ty i xs

  mutual
    value_fits : (i : t.Initialiser) (ty : PlainType) → IsObjectType (length k.structs) ty → (es : List PlainExpr)
        → leaf_values k i (Some ty) ≡ Some es → Fits ty es
    value_fits (t.initial_value a) ty o es e = scalar_fits ty o (used (of_assignment k a)) es e
    value_fits (t.braces l first more c r) ty o es e =
        whole_fits HasType k.structs law h ty o (zero_of k.modes) (λ ty scalar. refl)
        (scalar_leaves leaves k.structs ty h o)
        (with_items k (Some ty) (joined (Some []) (leaf_values k first (part_of k.structs (Some ty) 0))) 1 more) es e
        (λ q fs f. given (Some ty) 1 more fs (joined (Some []) (leaf_values k first (part_of k.structs (Some ty) 0))) f
        (λ ys g s. items_fit more ty o 1 ys
        (item_fits HasType k.structs law h ty o (leaf_values k first) (no_value first) (λ p o zs r. value_fits first p o zs r) 0 []
        (no_part_fits HasType k.structs law h ty o q) ys g) fs s))

    items_fit : (more : t.Initialisers) (ty : PlainType) → IsObjectType (length k.structs) ty → (i : ℕ) (xs : List PlainExpr)
        → Before ty i xs
        → (fs : List PlainExpr) → with_items k (Some ty) (Some xs) i more ≡ Some fs → (j : ℕ) × Before ty j fs
    items_fit t.no_initialisers ty o i xs b fs e = let same : xs ≡ fs = cc in (i, subst (Before ty i) same b)
    items_fit (t.initialisers s x more) ty o i xs b fs e =
        given (Some ty) (i + 1) more fs (joined (Some xs) (leaf_values k x (part_of k.structs (Some ty) i))) e
        (λ ys g f. items_fit more ty o (i + 1) ys
        (item_fits HasType k.structs law h ty o (leaf_values k x) (no_value x) (λ p o zs r. value_fits x p o zs r) i xs b ys g) fs f)

pub values_fit : StructsAreLaidOut → LeavesFillTheirTypes → TypesAreTold → ValuesHaveLeafTypes
values_fit law leaves told k i ty es h o e = types_are (leaf_types k.structs ty) es (value_fits law leaves told k h i ty o es e)
