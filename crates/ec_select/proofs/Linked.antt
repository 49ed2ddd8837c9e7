-- What the emitters ask of operations that may call routines.
use Rattle.std.proofs.Common.{◌≡◌, ℕ, zero, suc, ◌+◌, ◌^◌, ◌<◌, ◌≤◌, List, [], ◌∷◌, refl, sym, ◌∙◌, ap, subst, arith, map}
use Rattle.std.specs.Prelude.{Option, Some, None, slice_get, slice_index, get_or, if◌then◌else◌, Bool, true, false, ◌++◌}
use Rattle.std.specs.List.{AllByRecursion}
use Rattle.std.proofs.lemmas.Bool.{false≢true}
use Rattle.ec_space.specs.declared.Core.{Core}
use Rattle.ec_core.specs.TypeLaws.{LeavesFillTheirTypes}
use Rattle.ec_ir.specs.Operations.{PlainIr, constant, copy, address, field, load_at, store_at, load_object}
use Rattle.ec_ir.specs.Operations.{store_object, binary_op, unary_op, conversion, label, jump, branch_zero}
use Rattle.ec_ir.specs.Operations.{call_function, return_from, port_in, port_out, load_cell, store_cell, cell_port}
use Rattle.ec_ir.specs.Operations.{PlainIrFunction, PlainIrProgram, data_of}
use Rattle.ec_ir.specs.Valid.{ValidOperation, called_in}
use Rattle.ec_ir_known.specs.declared.known.RightNumber.{RightNumber}
use Rattle.ec_ir_known.specs.Known.{right_numbers}
use Rattle.ec_select_functions.specs.Covered.{IsCovered, AreCovered}
use Rattle.ec_select_operations.specs.declared.calls.Linking.{Linking}
use Rattle.ec_select_operations.specs.declared.homes.Homes.{Homes}
use Rattle.ec_select_operations.specs.Code.{result_wanted, wanted_behind, wanted_bytes, routine_used}
use Rattle.ec_select_operations.specs.Emitted.{CanBeCalled, CanBeEmitted, CanBeLinked}
use Rattle.ec_select_operations.specs.Needs.{Need, Facts, facts_of, needs}
use Rattle.ec_select_operations.specs.Pointers.{has_tables}
use Rattle.ec_select_operations.specs.Written.{CanBeWritten}
use Rattle.ec_select.specs.Labels.{label_count, homes_of}
use Rattle.ec_select.specs.Seen.{CanBeUses, HasRoutine}
use Rattle.ec_select.specs.Selected.{ValidWithCells, HasCode}
use Rattle.ec_select.specs.Sharing.{Use, alone, is_shaped, use_of, uses_of, uses_in, function_uses, uses_from, program_uses}
use Rattle.ec_select.proofs.Emits.{all_emitted, shaped_emits}
use Rattle.ec_select.proofs.RoutineItems.{IsOfResult, can_be_called, can_be_routine}
use Rattle.ec_select.proofs.Setting.{function_valid}

-- ---- calls

module _ (p : PlainIrProgram) (results : ℕ → ℕ) (f : ℕ) (called : List ℕ) (slots : ℕ) where
  of_result : (labels : ℕ → Need) (need : Need) (i : PlainIr)
      → IsOfResult (wanted_behind labels need i) i
  of_result labels need (binary_op op ty mode to a aty b bty) = omega arith
  of_result labels need (unary_op op ty mode to a) = omega arith
  of_result labels need (conversion to ty mode a aty) = omega arith
  of_result labels need (constant t n) = tt
  of_result labels need (copy to from) = tt
  of_result labels need (address t o offset) = tt
  of_result labels need (field ptr space offset) = tt
  of_result labels need (load_at to ptr space) = tt
  of_result labels need (store_at ptr space from) = tt
  of_result labels need (load_object t o offset) = tt
  of_result labels need (store_object o offset t) = tt
  of_result labels need (label l) = tt
  of_result labels need (jump l) = tt
  of_result labels need (branch_zero t l) = tt
  of_result labels need (call_function g to) = tt
  of_result labels need (return_from from) = tt
  of_result labels need (port_in to port index width) = tt
  of_result labels need (port_out from port index width) = tt
  of_result labels need (load_cell to cell) = tt
  of_result labels need (store_cell cell from) = tt
  of_result labels need (cell_port read t cell offset index width) = tt

  called_there : (at : Facts) (code : List PlainIr) → AreCovered (data_of p) results f called slots code
      → (j : ℕ) (i : PlainIr) → slice_get code j ≡ Some i → CanBeCalled (slice_index (wanted_bytes at code) j) i
  called_there at [] h j i e = absurd cc
  called_there at (x ∷ code) h zero i e =
      let q : x ≡ i = cc in
      let n = wanted_behind at.needed (needs at code) x in
      subst (λ (y : PlainIr). CanBeCalled n y) q
      (can_be_called (data_of p) results f called slots n x h.0 (of_result at.needed (needs at code) x))
  called_there at (x ∷ code) h (suc j) i e = called_there at code h.1 j i e

-- ---- what is linked

module _ (p : PlainIrProgram) (valid : ValidWithCells p) (leaves : LeavesFillTheirTypes) (results : ℕ → ℕ) (f slots : ℕ)
    (all : List PlainIr) where
  module _ (k : Linking) (bound : ℕ) (room : k.first_label + bound < 2 ^ 64) (entries : k.first_entry ≡ 1) where
    pub all_linked : (routines : PlainIr → Option ℕ) (known : List (Option RightNumber)) (at : Facts) (code : List PlainIr)
        → AreCovered (data_of p) results f (called_in all) slots code
        → AllByRecursion (ValidOperation valid.0 p valid.1.results f slots all) code → label_count code ≤ bound
        → CanBeWritten (data_of p) k (wanted_bytes at code) known (map routines code) code
    all_linked routines known at code h v l j i e =
        let n = slice_index (wanted_bytes at code) j in
        let own = all_emitted p valid leaves results f slots k all bound room entries at code h v l j i e in
        let call = called_there p results f (called_in all) slots at code h j i e in
        linked n own call (routine_used (get_or known j None) i (get_or (map routines code) j None))
      where
        linked : (n : ℕ) → CanBeEmitted (data_of p) k n i → CanBeCalled n i → (r : Option ℕ) → CanBeLinked r (data_of p) k n i
        linked n own call None = own
        linked n own call (Some m) = call

  behind_is : (labels : ℕ → Need) (need : Need) (i : PlainIr) → is_shaped i ≡ true → wanted_behind labels need i ≡ result_wanted need i
  behind_is labels need (branch_zero t l) s = absurd (false≢true s)
  behind_is labels need (store_at ptr space from) s = absurd (false≢true s)
  behind_is labels need i s = refl

  -- what is measured can be written
  pub all_used : (core : Core) (h : Homes) (at : Facts) (code : List PlainIr) → AreCovered (data_of p) results f (called_in all) slots code
      → AllByRecursion (ValidOperation valid.0 p valid.1.results f slots all) code → CanBeUses core (data_of p) h (wanted_bytes at code) code
  all_used core h at [] c v j i e s = absurd cc
  all_used core h at (x ∷ code) c v zero i e s =
      let q : x ≡ i = cc in
      let need = needs at code in
      let n = wanted_behind at.needed need x in
      let shaped : is_shaped x ≡ true = ap is_shaped q ∙ s in
      let own = shaped_emits p valid leaves results f slots (alone core h) all 0 (omega arith) refl need x shaped c.0 v.0 in
      let there : CanBeEmitted (data_of p) (alone core h) n x =
      subst (λ (m : ℕ). CanBeEmitted (data_of p) (alone core h) m x) (sym (behind_is at.needed need x shaped)) own in
      subst (λ (y : PlainIr). CanBeEmitted (data_of p) (alone core h) n y × CanBeCalled n y) q
      (there, called_there p results f (called_in all) slots at (x ∷ code) c zero x refl)
  all_used core h at (x ∷ code) c v (suc j) i e s = all_used core h at code c.1 v.1 j i e s

-- ---- what holds of each use of a shape in a program

module _ (core : Core) (p : PlainIrProgram) (valid : ValidWithCells p) (has : HasCode p) (P : PlainIr → Type 0)
    (each : (f : ℕ) (g : PlainIrFunction) (i : PlainIr) → slice_get p.functions f ≡ Some g
    → IsCovered (data_of p) has.results f (called_in g.code) g.slots i → ValidOperation valid.0 p valid.1.results f g.slots g.code i
    → is_shaped i ≡ true → P i) where
  abbrev Held : Use → Type 0
  Held u = P u.operation

  joined_all : (a b : List Use) → AllByRecursion Held a → AllByRecursion Held b → AllByRecursion Held (a ++ b)
  joined_all [] b h k = k
  joined_all (u ∷ a) b h k = (h.0, joined_all a b h.1 k)

  module _ (f : ℕ) (g : PlainIrFunction) (e : slice_get p.functions f ≡ Some g) (h : Homes) where
    of_one : (known : Option RightNumber) (n : ℕ) (i : PlainIr) → IsCovered (data_of p) has.results f (called_in g.code) g.slots i
        → ValidOperation valid.0 p valid.1.results f g.slots g.code i → AllByRecursion Held (uses_of core (data_of p) h known n i)
    of_one known n i c v = by_test (is_shaped i) refl
      where
        by_test : (b : Bool) → is_shaped i ≡ b → AllByRecursion Held (if b then use_of core (data_of p) h known n i ∷ [] else [])
        by_test true s = (each f g i e c v s, tt)
        by_test false s = tt

    of_code : (wanted : List ℕ) (known : List (Option RightNumber)) (code : List PlainIr) → AreCovered (data_of p) has.results f (called_in g.code) g.slots code
        → AllByRecursion (ValidOperation valid.0 p valid.1.results f g.slots g.code) code
        → AllByRecursion Held (uses_in core (data_of p) h wanted known code)
    of_code [] known code c v = tt
    of_code (n ∷ wanted) [] code c v = tt
    of_code (n ∷ wanted) (number ∷ known) [] c v = tt
    of_code (n ∷ wanted) (number ∷ known) (i ∷ code) c v =
        joined_all (uses_of core (data_of p) h number n i) (uses_in core (data_of p) h wanted known code) (of_one number n i c.0 v.0)
        (of_code wanted known code c.1 v.1)

  from_function : (tables : ℕ → ℕ → Need) (f : ℕ) (gs : List PlainIrFunction)
      → ((j : ℕ) (g : PlainIrFunction) → slice_get gs j ≡ Some g → slice_get p.functions (f + j) ≡ Some g)
      → AllByRecursion Held (uses_from core p tables f gs)
  from_function tables f [] there = tt
  from_function tables f (g ∷ gs) there =
      let z : f + 0 ≡ f = omega arith in
      let here : slice_get p.functions f ≡ Some g = subst (λ k. slice_get p.functions k ≡ Some g) z (there 0 g refl) in
      joined_all (function_uses core p (tables f) f g) (uses_from core p tables (f + 1) gs)
      (of_code f g here (homes_of f g.code) (wanted_bytes (facts_of (has_tables (data_of p).objects) (tables f) g.code) g.code)
      (right_numbers g.code) g.code
      (has.functions f g here)
      (function_valid p valid f g here).code)
      (from_function tables (f + 1) gs
      (λ j x e. let q : f + suc j ≡ f + 1 + j = omega arith in subst (λ k. slice_get p.functions k ≡ Some x) q (there (suc j) x e)))

  pub each_use : (tables : ℕ → ℕ → Need) → AllByRecursion Held (program_uses core p tables)
  each_use tables =
      from_function tables 0 p.functions
      (λ j g e. let q : j ≡ 0 + j = omega arith in subst (λ k. slice_get p.functions k ≡ Some g) q e)

-- the emitter may write their routines
pub uses_ready : (core : Core) (p : PlainIrProgram) → ValidWithCells p → HasCode p → (tables : ℕ → ℕ → Need)
    → AllByRecursion (λ u. HasRoutine u.operation) (program_uses core p tables)
uses_ready core p valid has tables =
    each_use core p valid has HasRoutine
    (λ f g i e c v s. (s, can_be_routine (data_of p) has.results f (called_in g.code) g.slots i c)) tables
