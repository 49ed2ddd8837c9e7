-- Address constants, in words (ISO/IEC 9899:1999, 6.6): static objects, their elements and their members, known before a run.
use Rattle.std.specs.Prelude.{ℕ, ◌*◌, ◌≤◌, ◌≡◌, Bool, pos, true, false, Option, Some, None, Ok, List, slice_get}
use Rattle.ec_space.specs.declared.space.SpaceId.{SpaceId}
use Rattle.ec_core.specs.Layout.{size_of_type}
use Rattle.ec_core.specs.Plain.{PlainType, array, struct, PlainMember, PlainStruct, PlainExpr}
use Rattle.ec_core.specs.Typing.{type_of_expr}
use Rattle.ec_check_constants.specs.Constants.{constant}
use Rattle.ec_check_constants.specs.Tests.{is_constant}
use Rattle.ec_check_operands.specs.Operands.{Operand, value}
use Rattle.ec_check_forms.specs.declared.prefixes.PrefixOp.TheVariants as prefixes
use Rattle.ec_check_forms.specs.Constraints.{IsInteger}
use Rattle.ec_check_names.specs.Names.{an_object}
use Rattle.ec_check_names.specs.Tables.{at_name}
use Rattle.ec_check_expressions.specs.Known.{Known}
use Rattle.ec_check_initialisers.specs.Places.{StaticPlace, moved, start_of, number_in, member_offset}
use Rattle.ec_check_initialisers.specs.declared.places.StaticAddress.{StaticAddress}
use Rattle.ec_check_meanings.specs.Means.{Uses}
use Rattle.ec_check_meanings.specs.Terms as term
use Rattle.ec_check_meanings.specs.Terms.{Term}
use Rattle.ec_check_parts.specs.Blocks.{DeclaresName}
use Rattle.ec_check_parts.specs.ConstantForms.{IsConstantTerm}

-- a value is an index: an integer from 0 to 32,767 that is known before a run
pub data IsIndex : Operand → ℕ → Type 0 where
  an_index : {e : PlainExpr} {zero : Bool} {n : ℕ} → IsInteger (type_of_expr e) → is_constant e ≡ true → constant e ≡ Ok (pos n)
      → n ≤ 32_767 → IsIndex (value e zero) n

-- the address of the element at what an expression means, where that is an index: so many bytes further, and in the object or at its end
-- (6.5.6)
pub data ElementAt (k : Known) (s : StaticPlace) (of : PlainType) (x : Term) : Option StaticAddress → Type 0 where
  at_index : {o : Operand} {i : ℕ} → Uses k x o → IsIndex o i
      → ElementAt k s of x (moved s.size s.address (i * size_of_type k.structs of))
  at_none : ((o : Operand) (i : ℕ) → Uses k x o → ¬ IsIndex o i) → ElementAt k s of x None

-- an expression designates a place in a static object: its address where a unit defines the object, the object's size, and the type of
-- what stands there
pub data Designates (k : Known) : Term → StaticPlace → Type 0 where
  -- an object at file scope that no block hides, and that stands in no register
  by_name : {at : ℕ} {n : List ℕ} {number : Option ℕ} {ty : PlainType} {konst : Bool} {space : SpaceId}
      → ¬ DeclaresName 0 n k.names → at_name n k.names.outside ≡ Some (an_object number (Some ty) konst space false)
      → Designates k (term.name at n) (record { address = start_of number; size = size_of_type k.structs ty; ty = ty })
  in_parentheses : {at : ℕ} {x : Term} {s : StaticPlace} → Designates k x s → Designates k (term.parenthesised at x) s
  -- an element at an index that is built as a constant expression
  an_element : {at len : ℕ} {x y : Term} {s : StaticPlace} {of : PlainType} {address : Option StaticAddress} → Designates k x s
      → s.ty ≡ array of len → IsConstantTerm k y → ElementAt k s of y address
      → Designates k (term.index x at y) (record { address = address; size = s.size; ty = of })
  -- a member by `.`
  a_member : {at name_at index i : ℕ} {n : List ℕ} {x : Term} {s : StaticPlace} {d : PlainStruct} {m : PlainMember} → Designates k x s
      → s.ty ≡ struct index → slice_get k.structs index ≡ Some d → number_in n d ≡ Some i → slice_get d.members i ≡ Some m
      → Designates k (term.member x at false name_at n)
      (record { address = moved s.size s.address (member_offset k.structs d i); size = s.size; ty = m.ty })

-- `&` of such a place, in parentheses or not
pub data TakesAddress (k : Known) : Term → StaticPlace → Type 0 where
  of_place : {at : ℕ} {x : Term} {s : StaticPlace} → Designates k x s → TakesAddress k (term.prefixed at prefixes.Address x) s
  address_in_parentheses : {at : ℕ} {x : Term} {s : StaticPlace} → TakesAddress k x s → TakesAddress k (term.parenthesised at x) s

-- an address constant is `&` of a place, or the place of an array, whose value is the address of its first element
pub data IsAddressConstant (k : Known) (x : Term) (s : StaticPlace) : Type 0 where
  taken : TakesAddress k x s → IsAddressConstant k x s
  of_array : {of : PlainType} {len : ℕ} → Designates k x s → s.ty ≡ array of len → IsAddressConstant k x s
