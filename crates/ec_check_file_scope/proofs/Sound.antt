-- States stay sound.
use Rattle.std.proofs.Common.{◌≤◌, ℕ, Bool, true, false, if◌then◌else◌, Option, Some, None, List, [], ◌∷◌, length, length-append, arith}
use Rattle.std.specs.List.{AllByRecursion}
use Rattle.std.specs.Prelude.{IfSome}
use Rattle.std.specs.Str.{bytes_eq}
use Rattle.ec_core.specs.Layout.{NamesBelow, IsObjectType}
use Rattle.ec_core.specs.Plain.{PlainType, void, integer, fixed, pointer, array, struct, PlainStruct}
use Rattle.ec_check_names.specs.Names.{Named, an_object, a_function}
use Rattle.ec_check_names.specs.Structs.{struct_place}
use Rattle.ec_check_names.specs.Tables.{Table, at_name, with_name}
use Rattle.ec_check_initialisers.specs.Places.{IsNamedObject}
use Rattle.ec_check_declarations.specs.Structures.{appended, with_struct}

module _ {Y : Type 0} (P : Y → Type 0) where
  with_one : (b : Bool) (m : List ℕ) (y z : Y) (es rest : Table Y) → P y → AllByRecursion (λ e. P e.1) es → P z
      → AllByRecursion (λ e. P e.1) rest
      → AllByRecursion (λ e. P e.1) (if b then (m, y) ∷ es else (m, z) ∷ rest)
  with_one true m y z es rest p all q more = (p, all)
  with_one false m y z es rest p all q more = (q, more)

  -- a table whose values have a property, with one more that has it
  pub named_with : (n : List ℕ) (y : Y) (es : Table Y) → P y → AllByRecursion (λ e. P e.1) es
      → AllByRecursion (λ e. P e.1) (with_name n y es)
  named_with n y [] p all = (p, tt)
  named_with n y (e ∷ es) p all =
      with_one (bytes_eq n e.0) e.0 y e.1 es (with_name n y es) p all.1 all.0 (named_with n y es p all.1)

  found_by : (b : Bool) (y : Y) (o : Option Y) → P y → IfSome o P → IfSome (if b then Some y else o) P
  found_by true y o p q = p
  found_by false y o p q = q

  -- what a name stands for in such a table has the property
  pub named_at : (es : Table Y) → AllByRecursion (λ e. P e.1) es → (n : List ℕ) → IfSome (at_name n es) P
  named_at [] all n = tt
  named_at (e ∷ es) all n = found_by (bytes_eq n e.0) e.1 (at_name n es) all.0 (named_at es all.1 n)

-- ---- more structs

below : (n m : ℕ) (ty : PlainType) → n ≤ m → NamesBelow n ty → NamesBelow m ty
below n m void h b = tt
below n m (integer signed bytes) h b = tt
below n m (fixed kind sat) h b = tt
below n m (pointer space konst to) h b = below n m to h b
below n m (array of len) h b = below n m of h b
below n m (struct index) h b = omega (arith, h, b)

some_below : (n m : ℕ) (ty : Option PlainType) → n ≤ m → IfSome ty (IsObjectType n) → IfSome ty (IsObjectType m)
some_below n m None h o = tt
some_below n m (Some ty) h o = record { names = below n m ty h o.names; form = o.form }

one_below : (n m : ℕ) (x : Named) → n ≤ m → IsNamedObject n x → IsNamedObject m x
one_below n m (an_object number ty konst space register) h o = some_below n m ty h o
one_below n m (a_function number returns params) h o = tt

pub all_below : (n m : ℕ) (es : Table Named) → n ≤ m → AllByRecursion (λ e. IsNamedObject n e.1) es
    → AllByRecursion (λ e. IsNamedObject m e.1) es
all_below n m [] h all = tt
all_below n m (e ∷ es) h all = (one_below n m e.1 h all.0, all_below n m es h all.1)

pub no_fewer_by : (place : Option ℕ) (s : PlainStruct) (ss : List PlainStruct) → length ss ≤ length (appended place s ss)
no_fewer_by None s ss = omega (arith, length-append ss (s ∷ []))
no_fewer_by (Some i) s ss = omega arith

pub no_fewer : (d : Option PlainStruct) (ss : List PlainStruct) → length ss ≤ length (with_struct d ss)
no_fewer None ss = omega arith
no_fewer (Some s) ss = no_fewer_by (struct_place s ss) s ss
