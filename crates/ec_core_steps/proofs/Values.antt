-- Operators lead no pointer to a free object.
use Rattle.std.proofs.Common.{ℕ, Bool, true, false, ◌&&◌, ℤ, pos, ◌+ℤ◌, unsigned_abs, Some, None, Result, Ok, Err}
use Rattle.std.specs.Prelude.{⊤, if◌then◌else◌, int_le}
use Rattle.ec_fx.specs.declared.numbers.Mode.{Mode}
use Rattle.ec_space.specs.declared.space.SpaceId.{SpaceId}
use Rattle.ec_space.specs.Spaces.{holds}
use Rattle.ec_core.specs.declared.expressions.BinOp.{BinOp}
use Rattle.ec_core.specs.declared.expressions.BinOp.TheVariants.{Add, Sub}
use Rattle.ec_core.specs.declared.expressions.UnOp.{UnOp}
use Rattle.ec_core.specs.declared.values.Referent.{Referent}
use Rattle.ec_core.specs.declared.values.ObjectPointer.{ObjectPointer}
use Rattle.ec_core.specs.declared.values.Undefined.{Undefined}
use Rattle.ec_core.specs.declared.values.Undefined.TheVariants.{Narrowing, PointerRange}
use Rattle.ec_core.specs.declared.values.Value.{Value}
use Rattle.ec_core.specs.declared.values.Value.TheVariants.{Number, Pointer}
use Rattle.ec_core.specs.Operators.{Operand, as_number, as_pointer, unary_result, offset_result, binary_of, conversion_of, compound_of}
use Rattle.ec_core.specs.Plain.{PlainType, pointer, PlainProgram}
use Rattle.ec_core.specs.Pointers.{Pointer as PointerValue, used, displaced, moved, pointer_in_space}
use Rattle.ec_core_steps.proofs.Relation.{Free, IsPointer, IsValue, OnOk}

module _ (p : PlainProgram) where
  used_ok : {X : Type 0} (P : X → Type 0) (c : Bool) (r : Result X Undefined) → OnOk p P r → OnOk p P (used c r)
  used_ok P true r h = h
  used_ok P false r h = tt

  number_ok : (r : Result ℤ Undefined) → OnOk p (IsValue p) (as_number r)
  number_ok (Ok n) = tt
  number_ok (Err point) = tt

  pointer_ok : (r : Result PointerValue Undefined) → OnOk p (IsPointer p) r → OnOk p (IsValue p) (as_pointer r)
  pointer_ok (Ok q) h = h
  pointer_ok (Err point) h = tt

  -- what is moved stays in its object
  abbrev pub OnObject : (ℕ → Type 0) → PointerValue → Type 0
  OnObject Q None = ⊤
  OnObject Q (Some q) = Q q.object

  displaced_in : (Q : ℕ → Type 0) (q : ObjectPointer) (size : ℕ) (at : ℤ) → Q q.object → OnOk p (OnObject Q) (displaced q size at)
  displaced_in Q q size at h = by_test (int_le (pos 0) at && int_le at (pos size))
    where
      by_test : (c : Bool) → OnOk p (OnObject Q)
          (if c then Ok (Some (record { object = q.object; instance = q.instance; offset = unsigned_abs at })) else Err PointerRange)
      by_test true = h
      by_test false = tt

  pub moved_in : (Q : ℕ → Type 0) (at : PointerValue) (of : Referent) (n : ℤ) → OnObject Q at → OnOk p (OnObject Q) (moved at of n)
  moved_in Q None of n h = tt
  moved_in Q (Some q) of n h = used_ok (OnObject Q) of.live _ (displaced_in Q q of.size (pos q.offset +ℤ n) h)

  as_object : (at : PointerValue) → IsPointer p at → OnObject (λ o. ¬ Free p o) at
  as_object None h = tt
  as_object (Some q) h = h

  of_object : (r : Result PointerValue Undefined) → OnOk p (OnObject (λ o. ¬ Free p o)) r → OnOk p (IsPointer p) r
  of_object (Ok None) h = tt
  of_object (Ok (Some q)) h = h
  of_object (Err point) h = tt

  moved_ok : (at : PointerValue) (of : Referent) (n : ℤ) → IsPointer p at → OnOk p (IsPointer p) (moved at of n)
  moved_ok at of n h = of_object (moved at of n) (moved_in (λ o. ¬ Free p o) at of n (as_object at h))

  offset_ok : (op : BinOp) (a : Operand) (at : PointerValue) (n : ℤ) → IsPointer p at → OnOk p (IsValue p) (offset_result op a at n)
  offset_ok Add a at n h = pointer_ok _ (moved_ok at a.of _ h)
  offset_ok Sub a at n h = pointer_ok _ (moved_ok at a.of _ h)
  offset_ok op a at n h = tt

  pub unary_ok : (op : UnOp) (ty : PlainType) (mode : Mode) (v : Value) → OnOk p (IsValue p) (unary_result op ty mode v)
  unary_ok op ty mode (Number n) = number_ok _
  unary_ok op ty mode (Pointer q) = tt

  pub binary_ok : (op : BinOp) (ty : PlainType) (mode : Mode) (a : Operand) (x : Value) (b : Operand) (y : Value) → IsValue p x
      → IsValue p y
      → OnOk p (IsValue p) (binary_of op ty mode a x b y)
  binary_ok op ty mode a (Number m) b (Number n) h k = number_ok _
  binary_ok op ty mode a (Pointer q) b (Pointer r) h k = number_ok _
  binary_ok op ty mode a (Pointer q) b (Number n) h k = offset_ok op a q n h
  binary_ok op ty mode a (Number m) b (Pointer r) h k = offset_ok op b r m k

  in_space_ok : (space : SpaceId) (q : PointerValue) (of : Referent) → IsPointer p q → OnOk p (IsPointer p) (pointer_in_space space q of)
  in_space_ok space None of h = tt
  in_space_ok space (Some q) of h = used_ok (IsPointer p) of.live _ (by_test (holds space of.home))
    where
      by_test : (c : Bool) → OnOk p (IsPointer p) (if c then Ok (Some q) else Err Narrowing)
      by_test true = h
      by_test false = tt

  pub conversion_ok : (ty : PlainType) (mode : Mode) (a : Operand) (x : Value) → IsValue p x
      → OnOk p (IsValue p) (conversion_of ty mode a x)
  conversion_ok (pointer space const to) mode a (Pointer q) h = pointer_ok _ (in_space_ok space q a.of h)
  conversion_ok ty mode a (Pointer q) h = tt
  conversion_ok ty mode a (Number n) h = number_ok _

  pub compound_ok : (op : BinOp) (operation_mode mode : Mode) (a : Operand) (x : Value) (b : Operand) (y : Value) → IsValue p x
      → OnOk p (IsValue p) (compound_of op operation_mode mode a x b y)
  compound_ok op operation_mode mode a (Number m) b (Number n) h = number_ok _
  compound_ok op operation_mode mode a (Pointer q) b (Number n) h = offset_ok op a q n h
  compound_ok op operation_mode mode a (Number m) b (Pointer r) h = tt
  compound_ok op operation_mode mode a (Pointer q) b (Pointer r) h = tt
