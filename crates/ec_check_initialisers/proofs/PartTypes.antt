-- The parts of the type of an object are types of objects.
use Rattle.std.proofs.Common.{◌≡◌, ℕ, zero, suc, refl, sym, subst, Bool, true, false, if◌then◌else◌, Option, Some, None, List, [], ◌∷◌}
use Rattle.std.proofs.Common.{length, option_map, option_and_then, slice_get, nat_lt}
use Rattle.std.specs.Prelude.{IfSome}
use Rattle.std.specs.List.{AllByRecursion}
use Rattle.ec_core.specs.Layout.{NamesBelow, IsElement, IsObjectType, AreStructs}
use Rattle.ec_core.specs.Plain.{PlainType, void, integer, fixed, pointer, array, struct, PlainMember, PlainStruct}
use Rattle.ec_core.specs.TypeLaws.{StructsAreLaidOut}
use Rattle.ec_check_initialisers.specs.Parts.{part_type, part_of}

pub each_at : {X : Type 0} (P : X → Type 0) (xs : List X) (k : ℕ) (x : X) → AllByRecursion P xs → slice_get xs k ≡ Some x → P x
each_at P [] k x h e = cc
each_at P (y ∷ xs) zero x h e = let g : y ≡ x = cc in subst P g h.0
each_at P (y ∷ xs) (suc k) x h e = each_at P xs k x h.1 e

pub element_object : (n : ℕ) (of : PlainType) → NamesBelow n of → IsElement of → IsObjectType n of
element_object n void m h = absurd h
element_object n (integer signed bytes) m h = record { names = tt; form = h }
element_object n (fixed kind saturates) m h = record { names = tt; form = tt }
element_object n (pointer space const to) m h = record { names = m; form = tt }
element_object n (array of len) m h = absurd h
element_object n (struct index) m h = record { names = m; form = tt }

chosen : (b : Bool) (of p : PlainType) → (if b then Some of else None) ≡ Some p → of ≡ p
chosen true of p e = cc
chosen false of p e = cc

module _ (law : StructsAreLaidOut) (structs : List PlainStruct) (h : AreStructs structs) where
  in_member : (i : ℕ) (s : PlainStruct) (p : PlainType) → AllByRecursion (λ m. IsObjectType (length structs) m.ty) s.members
      → (m : Option PlainMember)
      → slice_get s.members i ≡ m → option_map (λ m. m.ty) m ≡ Some p → IsObjectType (length structs) p
  in_member i s p all None q e = cc
  in_member i s p all (Some m) q e =
      let g : m.ty ≡ p = cc in
      subst (IsObjectType (length structs)) g (each_at (λ m. IsObjectType (length structs) m.ty) s.members i m all q)

  in_struct : (index i : ℕ) (p : PlainType) (s : Option PlainStruct) → slice_get structs index ≡ s
      → option_and_then (λ s. option_map (λ m. m.ty) (slice_get s.members i)) s ≡ Some p → IsObjectType (length structs) p
  in_struct index i p None q e = cc
  in_struct index i p (Some s) q e =
      in_member i s p (law.each structs index s h q).known (slice_get s.members i) refl e

  pub part_object : (ty : PlainType) (i : ℕ) (p : PlainType) → IsObjectType (length structs) ty → part_type structs ty i ≡ Some p
      → IsObjectType (length structs) p
  part_object void i p o e = cc
  part_object (integer signed bytes) i p o e = cc
  part_object (fixed kind saturates) i p o e = cc
  part_object (pointer space const to) i p o e = cc
  part_object (array of len) i p o e =
      subst (IsObjectType (length structs)) (chosen (nat_lt i len) of p e) (element_object (length structs) of o.names o.form.0)
  part_object (struct index) i p o e = in_struct index i p (slice_get structs index) refl e

  some_known : (x : Option PlainType) → ((p : PlainType) → x ≡ Some p → IsObjectType (length structs) p)
      → IfSome x (IsObjectType (length structs))
  some_known None f = tt
  some_known (Some p) f = f p refl

  pub part_known : (ty : Option PlainType) (i : ℕ) → IfSome ty (IsObjectType (length structs))
      → IfSome (part_of structs ty i) (IsObjectType (length structs))
  part_known None i o = tt
  part_known (Some ty) i o = some_known (part_type structs ty i) (λ p e. part_object ty i p o e)

  -- the same where the number of structs is known otherwise
  pub part_known_at : (n : ℕ) → length structs ≡ n → (ty : Option PlainType) (i : ℕ) → IfSome ty (IsObjectType n)
      → IfSome (part_of structs ty i) (IsObjectType n)
  part_known_at n e ty i o =
      subst (λ (m : ℕ). IfSome (part_of structs ty i) (IsObjectType m)) e
      (part_known ty i (subst (λ (m : ℕ). IfSome ty (IsObjectType m)) (sym e) o))
