-- The stack of a placed program, and the accesses of objects.
use Rattle.std.proofs.Common.{◌≡◌, ℕ, zero, suc, ◌+◌, ◌/◌, ◌%◌, ◌^◌, ◌<◌, List, [], ◌∷◌, ◌++◌, Option, Some, None}
use Rattle.std.proofs.Common.{refl, arith}
use Rattle.std.specs.Prelude.{slice_get, option_map, option_and_then, unwrap_or}
use Rattle.std.specs.List.{AllByRecursion}
use Rattle.ec_space.specs.declared.space.Bank.TheVariants.{Flash as FlashBank, Data as DataBank}
use Rattle.ec_avr.specs.declared.machine.Access.{Access}
use Rattle.ec_avr.specs.declared.machine.Access.TheVariants.{Silent, In as PortIn, Out as PortOut, Read as ByteRead}
use Rattle.ec_avr.specs.declared.machine.Access.TheVariants.{Write as ByteWrite, Stack}
use Rattle.ec_asm.specs.Change.{Kind, Own, Object, Port, Stacked, Page, Barred}
use Rattle.ec_asm.specs.Shows.{if_object, noted, noted_all}
use Rattle.ec_asm.specs.declared.items.AsmProgram.{AsmProgram}
use Rattle.ec_core.specs.Laws.{EventsAreAtHome}
use Rattle.ec_core.specs.Layout.{PlainLeaf, scalar_size, leaves_of_type}
use Rattle.ec_core.specs.Plain.{PlainObject, PlainProgram}
use Rattle.ec_core.specs.State.{Event, In, Out, Read, Write}
use Rattle.ec_core.specs.declared.programs.LeafInit.{LeafInit}
use Rattle.ec_ir.specs.Temporaries.{low_bytes}
use Rattle.ec_lower_code.specs.Correct.{LoweredIsMadeOf}
use Rattle.ec_map.specs.declared.map.Map.{Map}
use Rattle.ec_locate.specs.declared.placing.Located.{Located}
use Rattle.ec_select_operations.specs.Pointers.{home_of}
use Rattle.ec_select_functions.specs.Relation.{byte_accesses, number_told, leaf_accesses, object_accesses}
use Rattle.ec_select_functions.specs.Relation.{event_accesses}
use Rattle.ec_select.specs.Laws.{SelectionsAreValid}
use Rattle.ec_build_laws.specs.Kinds.{kinds, tables, placed, place_of}
use Rattle.ec_build_laws.specs.Laws.{AreKinds, KindsAreTold, KindsFit}
use Rattle.ec_build_laws.specs.Shortened.{ShortenedIsValid}
use Rattle.ec_build_laws.specs.Spaces.{IsOfObjects, NotedAreOfObjects, IsLeafByte, IsOfEvent, EventsStayInSpaces}
use Rattle.ec_build_laws.specs.Translation.{IsTranslated}
use Rattle.ec_build_laws.proofs.ByAddress.{flash_object}
use Rattle.ec_build_laws.proofs.Shorter.{short_is_valid}

pub record GuardLaws : Type 0 where
  pub told : KindsAreTold
  pub fit : KindsFit
  pub made : LoweredIsMadeOf
  pub selections : SelectionsAreValid
  pub short : ShortenedIsValid

pub are_kinds : GuardLaws → (p : PlainProgram) (m : Map) (asm : AsmProgram) (l : Located) → IsTranslated p m asm l → AreKinds p m asm l
are_kinds laws p m asm l h =
    laws.told p m asm l h.valid h.map
    (short_is_valid laws.short laws.selections p m asm l h (laws.made p m.io h.valid h.groups)) h.located

-- ---- what is noted of the machine

pub both_append : {A : Type 0} (P : A → Type 0) (xs ys : List A) → AllByRecursion P xs → AllByRecursion P ys → AllByRecursion P (xs ++ ys)
both_append P [] ys a b = b
both_append P (x ∷ xs) ys a b = (a.0, both_append P xs ys a.1 b)

if_noted : (P : Access → Type 0) (k : Kind) (a : Access) → (k ≡ Object → P a) → AllByRecursion P (if_object k a)
if_noted P Own a h = tt
if_noted P Object a h = (h refl, tt)
if_noted P Port a h = tt
if_noted P Stacked a h = tt
if_noted P Page a h = tt
if_noted P Barred a h = tt

pub noted_are_of_objects : GuardLaws → NotedAreOfObjects
noted_are_of_objects laws p m asm l trace h = all trace where
  one : (a : Access) → AllByRecursion (IsOfObjects p l) (noted (placed p m asm l) a)
  one Silent = tt
  one (PortIn port byte) = (tt, tt)
  one (PortOut port byte) = (tt, tt)
  one (ByteRead DataBank at byte) =
      if_noted (IsOfObjects p l) (kinds p m asm l at) (ByteRead DataBank at byte) (λ k. (are_kinds laws p m asm l h).object_told at k)
  one (ByteRead FlashBank at byte) =
      if_noted (IsOfObjects p l) (tables p m asm l at) (ByteRead FlashBank at byte) (λ k. flash_object p m asm l at k)
  one (ByteWrite at byte) =
      if_noted (IsOfObjects p l) (kinds p m asm l at) (ByteWrite at byte) (λ k. (are_kinds laws p m asm l h).object_told at k)
  one Stack = tt

  all : (trace : List Access) → AllByRecursion (IsOfObjects p l) (noted_all (placed p m asm l) trace)
  all [] = tt
  all (a ∷ trace) = both_append (IsOfObjects p l) (noted (placed p m asm l) a) (noted_all (placed p m asm l) trace) (one a) (all trace)

-- ---- what is seen of an event

-- the bytes of a number at an address
bytes_of_number : (P : Access → Type 0) (make : ℕ → ℕ → Access) (at number n : ℕ) → ((i byte : ℕ) → i < n → P (make (at + i) byte))
    → AllByRecursion P (byte_accesses make at number n)
bytes_of_number P make at number zero h = tt
bytes_of_number P make at number (suc n) h =
    both_append P (byte_accesses make at number n) (make (at + n) (number / 256 ^ n % 256) ∷ [])
    (bytes_of_number P make at number n (λ i byte less. h i byte (omega (arith, less)))) (h n (number / 256 ^ n % 256) (omega arith), tt)

module _ (p : PlainProgram) (l : Located) (P : Access → Type 0) (make : ℕ → ℕ → Access) (o k : ℕ) (told : LeafInit)
    (each : (at byte : ℕ) → IsLeafByte p l o k at → P (make at byte)) where
  of_leaf : (d : PlainObject) (leaf : PlainLeaf) → slice_get p.objects o ≡ Some d → slice_get (leaves_of_type p.structs d.ty) k ≡ Some leaf
      → AllByRecursion P (leaf_accesses p (place_of l) make (place_of l o) told leaf)
  of_leaf d leaf is has =
      bytes_of_number P make (place_of l o + leaf.at)
      (low_bytes (scalar_size leaf.ty) (number_told p (place_of l) (scalar_size leaf.ty) told)) (scalar_size leaf.ty)
      (λ i byte less. each (place_of l o + leaf.at + i) byte
      (record { object = d; leaf = leaf; is_object = is; is_leaf = has; from_there = omega arith; within = omega (arith, less) }))

  of_found : (d : PlainObject) → slice_get p.objects o ≡ Some d → (z : Option PlainLeaf) → slice_get (leaves_of_type p.structs d.ty) k ≡ z
      → AllByRecursion P (unwrap_or (option_map (leaf_accesses p (place_of l) make (place_of l o) told) z) [])
  of_found d is None has = tt
  of_found d is (Some leaf) has = of_leaf d leaf is has

  of_object : (z : Option PlainObject) → slice_get p.objects o ≡ z
      → AllByRecursion P (unwrap_or (option_map (leaf_accesses p (place_of l) make (place_of l o) told)
      (option_and_then (λ d. slice_get (leaves_of_type p.structs d.ty) k) z)) [])
  of_object None is = tt
  of_object (Some d) is = of_found d is (slice_get (leaves_of_type p.structs d.ty) k) refl

  pub all_of : AllByRecursion P (object_accesses p (place_of l) make o k told)
  all_of = of_object (slice_get p.objects o) refl

event_bytes : (p : PlainProgram) (l : Located) (event : Event) → AllByRecursion (IsOfEvent p l event) (event_accesses p (place_of l) event)
event_bytes p l (In port byte) = (refl, tt)
event_bytes p l (Out port byte) = (refl, tt)
event_bytes p l (Read o k space v) =
    all_of p l (IsOfEvent p l (Read o k space v)) (ByteRead (home_of p o)) o k v (λ at byte b. (at, byte, refl, b))
event_bytes p l (Write o k space v) = all_of p l (IsOfEvent p l (Write o k space v)) ByteWrite o k v (λ at byte b. (at, byte, refl, b))

pub events_stay_in_spaces : EventsAreAtHome → EventsStayInSpaces
events_stay_in_spaces home p l table = record { bytes = event_bytes p l; home = λ inputs n. home p table inputs n }
