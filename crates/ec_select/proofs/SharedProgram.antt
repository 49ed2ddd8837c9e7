-- The code of all functions of a program, and of the routines that they call, has at most the words that the operations count
-- by shapes.
use Rattle.std.proofs.Common.{◌≡◌, ◌⊎◌, ℕ, zero, suc, ◌+◌, ◌≤◌, Bool, true, false, List, [], ◌∷◌, ◌++◌, refl, sym, ap, ◌∙◌, subst}
use Rattle.std.proofs.Common.{arith, inl, inr, map, take, length}
use Rattle.std.specs.Prelude.{nat_le, Option, Some, None, if◌then◌else◌, slice_get}
use Rattle.std.specs.List.{AllByRecursion}
use Rattle.std.proofs.lemmas.List.{take_all}
use Rattle.ec_space.specs.declared.Core.{Core}
use Rattle.ec_asm.specs.declared.items.AsmItem.TheVariants.{Label}
use Rattle.ec_asm.specs.Items.{chain, code_words}
use Rattle.ec_core_shapes.specs.Shapes.{Shape, same_shape}
use Rattle.ec_core_shapes.proofs.Told.{shapes_told}
use Rattle.ec_shapes.specs.Shapes.{total, shapes_of, by_shapes, least_row, all_made}
use Rattle.ec_shapes.proofs.Sums.{total_joined}
use Rattle.ec_ir.specs.Costs.{functions_words, code_words as operations_words}
use Rattle.ec_ir_known.specs.declared.known.RightNumber.{RightNumber}
use Rattle.ec_ir.specs.Operations.{PlainIr, PlainIrFunction, PlainIrProgram, data_of}
use Rattle.ec_ir.specs.Valid.{called_in}
use Rattle.ec_ir_shapes.specs.Costs.{own_words, op_shapes, op_row, all_code, functions_words_by_shapes}
use Rattle.ec_select_routines.specs.Sizes.{decided_words, SizesDecide}
use Rattle.ec_select_operations.specs.declared.families.Told.{Told}
use Rattle.ec_select_operations.specs.Code.{Linkage, own_code, ops_code}
use Rattle.ec_select_operations.specs.Homes.{home}
use Rattle.ec_select_operations.specs.Needs.{Need, facts_of}
use Rattle.ec_select_operations.specs.Pointers.{has_tables}
use Rattle.ec_select_functions.specs.Covered.{IsCovered, AreCovered}
use Rattle.ec_select_functions.specs.Laws.{linkage_of}
use Rattle.ec_select.specs.InPlace.{IsInPlace}
use Rattle.ec_select.specs.Labels.{homes_of, function_label, widest_temps}
use Rattle.ec_select.specs.Program.{made_with, code_of, functions_code}
use Rattle.ec_select.specs.Sharing.{Use, function_uses, uses_from, program_uses, sizes, stands_once, used_shapes, shape_of}
use Rattle.ec_select.specs.Sharing.{routines_begin, routine_of, routines_code}
use Rattle.ec_select.proofs.AlikeWords.{HasOperandTypes}
use Rattle.ec_select.proofs.LinkedWords.{RoutineLaws, shape_call, rows_are, all_callable}
use Rattle.ec_select.proofs.OperationWords.{WordLaws}
use Rattle.ec_select.proofs.SharedSums.{cost, IsFew, unshaped_words, all_joined, mapped, shapes_in, made_joined, uses_few}
use Rattle.ec_select.proofs.SharedSums.{alone_short, alone_op, own_sum, ops_few}
use Rattle.ec_select.proofs.SharedWords.{routines_are, each_once}
use Rattle.ec_select.proofs.UseWords.{HasTypeBytes, shape_most}
use Rattle.ec_select.proofs.Words.{joined_words}

-- what is known of the operations of the function with a number
pub record IsCounted (p : PlainIrProgram) (results : ℕ → ℕ) (f : ℕ) (g : PlainIrFunction) : Type 0 where
  pub covered : AreCovered (data_of p) results f (called_in g.code) g.slots g.code
  pub in_place : AllByRecursion IsInPlace g.code
  pub bytes : AllByRecursion HasTypeBytes g.code
  pub types : AllByRecursion HasOperandTypes g.code

abbrev IsWidth : ℕ → Type 0
IsWidth w = (w ≡ 2) ⊎ (w ≡ 4)

width_of : (f : ℕ) (g : PlainIrFunction) → IsWidth (homes_of f g.code).width
width_of f g = by_width (nat_le (widest_temps g.code) 2) where
  by_width : (narrow : Bool) → IsWidth (if narrow then 2 else 4)
  by_width true = inl refl
  by_width false = inr refl

each_use : (P Q : Use → Type 0) → ((u : Use) → P u → Q u) → (us : List Use) → AllByRecursion P us → AllByRecursion Q us
each_use P Q h [] all = tt
each_use P Q h (u ∷ us) all = (h u all.0, each_use P Q h us all.1)

few_routines : (us : List Use) → AllByRecursion IsFew us
    → AllByRecursion (λ s. sizes.routine s ≤ shape_most s + 1) (map sizes.shape us)
few_routines [] all = tt
few_routines (u ∷ us) all = (all.0.routine, few_routines us all.1)

-- the operations of a function, if there is one, by numbers for each
abbrev sum_at : (PlainIr → ℕ) → Option PlainIrFunction → ℕ
sum_at w None = 0
sum_at w (Some g) = total w g.code

more_own : (w : PlainIr → ℕ) (fs : List PlainIrFunction) (n : ℕ)
    → total w (all_code (take (suc n) fs)) ≡ total w (all_code (take n fs)) + sum_at w (slice_get fs n)
more_own w [] zero = refl
more_own w [] (suc n) = refl
more_own w (g ∷ fs) zero = let a = total_joined w g.code [] in omega (arith, a)
more_own w (g ∷ fs) (suc n) =
    let a = total_joined w g.code (all_code (take (suc n) fs)) in
    let b = total_joined w g.code (all_code (take n fs)) in
    let r = more_own w fs n in
    omega (arith, a, b, r)

module _ (laws : WordLaws) (routine_laws : RoutineLaws) (core : Core) (p : PlainIrProgram) (results : ℕ → ℕ)
    (each : (f : ℕ) (g : PlainIrFunction) → slice_get p.functions f ≡ Some g → IsCounted p results f g)
    (tables : ℕ → ℕ → Need) where
  abbrev linked : ℕ → PlainIrFunction → Linkage
  linked f g = linkage_of core p function_label f g.slots (made_with p (routine_of core p tables) (tables f) f g)

  -- ---- the uses of functions

  few_of : (f : ℕ) (g : PlainIrFunction) → IsCounted p results f g → AllByRecursion IsFew (function_uses core p (tables f) f g)
  few_of f g h =
      uses_few laws routine_laws (data_of p) results f (called_in g.code) (linked f g) (width_of f g) (tables f) g.code g.code
      h.covered h.in_place h.bytes h.types

  few_from : (f : ℕ) (gs : List PlainIrFunction)
      → ((j : ℕ) (g : PlainIrFunction) → slice_get gs j ≡ Some g → slice_get p.functions (f + j) ≡ Some g)
      → AllByRecursion IsFew (uses_from core p tables f gs)
  few_from f [] there = tt
  few_from f (g ∷ gs) there =
      let z : f + 0 ≡ f = omega arith in
      let here : slice_get p.functions f ≡ Some g = subst (λ k. slice_get p.functions k ≡ Some g) z (there 0 g refl) in
      let next : (j : ℕ) (x : PlainIrFunction) → slice_get gs j ≡ Some x → slice_get p.functions (f + 1 + j) ≡ Some x =
      λ j x e. let q : f + suc j ≡ f + 1 + j = omega arith in subst (λ k. slice_get p.functions k ≡ Some x) q (there (suc j) x e) in
      all_joined IsFew (function_uses core p (tables f) f g) (uses_from core p tables (f + 1) gs) (few_of f g (each f g here))
      (few_from (f + 1) gs next)

  few : AllByRecursion IsFew (program_uses core p tables)
  few =
      few_from 0 p.functions
      (λ j g e. let q : j ≡ 0 + j = omega arith in subst (λ k. slice_get p.functions k ≡ Some g) q e)

  shapes_from : (f : ℕ) (gs : List PlainIrFunction)
      → map sizes.shape (uses_from core p tables f gs) ≡ all_made op_shapes (all_code gs)
  shapes_from f [] = refl
  shapes_from f (g ∷ gs) =
      mapped (function_uses core p (tables f) f g) (uses_from core p tables (f + 1) gs)
      ∙ ap (λ ss. ss ++ map sizes.shape (uses_from core p tables (f + 1) gs))
      (shapes_in (data_of p) (linked f g) (tables f) g.code g.code)
      ∙ ap (λ ss. all_made op_shapes g.code ++ ss) (shapes_from (f + 1) gs)
      ∙ sym (made_joined g.code (all_code gs))

  -- ---- the code of functions

  abbrev all_uses : List Use
  all_uses = program_uses core p tables

  abbrev cost_at : ℕ → Option PlainIrFunction → ℕ
  cost_at f None = 0
  cost_at f (Some g) = total (cost all_uses) (function_uses core p (tables f) f g)

  more_cost : (f : ℕ) (gs : List PlainIrFunction) (n : ℕ)
      → total (cost all_uses) (uses_from core p tables f (take (suc n) gs))
      ≡ total (cost all_uses) (uses_from core p tables f (take n gs)) + cost_at (f + n) (slice_get gs n)
  more_cost f [] zero = refl
  more_cost f [] (suc n) = refl
  more_cost f (g ∷ gs) zero =
      let a = total_joined (cost all_uses) (function_uses core p (tables f) f g) [] in
      let z : f + 0 ≡ f = omega arith in
      let b : cost_at (f + 0) (Some g) ≡ cost_at f (Some g) = ap (λ j. cost_at j (Some g)) z in
      omega (arith, a, b)
  more_cost f (g ∷ gs) (suc n) =
      let a = total_joined (cost all_uses) (function_uses core p (tables f) f g) (uses_from core p tables (f + 1) (take (suc n) gs)) in
      let b = total_joined (cost all_uses) (function_uses core p (tables f) f g) (uses_from core p tables (f + 1) (take n gs)) in
      let r = more_cost (f + 1) gs n in
      let z : f + 1 + n ≡ f + suc n = omega arith in
      let c : cost_at (f + 1 + n) (slice_get gs n) ≡ cost_at (f + suc n) (slice_get gs n) =
      ap (λ j. cost_at j (slice_get gs n)) z in
      sums (total (cost all_uses) (function_uses core p (tables f) f g)) (total (cost all_uses) (uses_from core p tables (f + 1) (take (suc n) gs)))
      (total (cost all_uses) (uses_from core p tables (f + 1) (take n gs))) (cost_at (f + 1 + n) (slice_get gs n))
      (cost_at (f + suc n) (slice_get gs n))
      (total (cost all_uses) (uses_from core p tables f (take (suc (suc n)) (g ∷ gs))))
      (total (cost all_uses) (uses_from core p tables f (take (suc n) (g ∷ gs)))) a b r c
    where
      sums : (x y z u v l r : ℕ) → l ≡ x + y → r ≡ x + z → y ≡ z + u → u ≡ v → l ≡ r + v
      sums x y z u v l r a b c d = omega (arith, a, b, c, d)

  -- where an operation without a shape has at most so many words
  module _ (alone_words : PlainIr → ℕ)
      (short : (f : ℕ) (g : PlainIrFunction) → IsCounted p results f g → (before telling : Option Told) (known : Option RightNumber)
      (need : Need) (i : PlainIr) → IsCovered (data_of p) results f (called_in g.code) g.slots i → IsInPlace i → HasTypeBytes i
      → op_shapes i ≡ []
      → code_words (own_code (data_of p) (home (linked f g).homes) (linked f g) before telling known need i) ≤ alone_words i) where
    function_few : (f : ℕ) (o : Option PlainIrFunction) → slice_get p.functions f ≡ o
        → code_words (code_of core p (routine_of core p tables) (tables f) f o) ≤ sum_at alone_words o + cost_at f o
    function_few f None e = omega arith
    function_few f (Some g) e =
        let h = each f g e in
        let k = linked f g in
        let a = ops_few laws routine_laws (data_of p) results f (called_in g.code) k (width_of f g) all_uses (routines_begin p)
        (λ i. refl) alone_words (short f g h) (tables f) g.code None g.code h.covered h.in_place h.bytes h.types in
        omega (
          arith,
          joined_words (Label (function_label f) ∷ []) (ops_code (data_of p) (home k.homes) k
              (facts_of (has_tables (data_of p).objects) (tables f) g.code) None g.code),
          a,
        )

    functions_few : (n : ℕ) → code_words (functions_code core p tables n)
        ≤ total alone_words (all_code (take n p.functions)) + total (cost all_uses) (uses_from core p tables 0 (take n p.functions))
    functions_few zero = omega arith
    functions_few (suc n) =
        let body = λ (f : ℕ). code_of core p (routine_of core p tables) (tables f) f (slice_get p.functions f) in
        let z : 0 + n ≡ n = omega arith in
        let same : cost_at (0 + n) (slice_get p.functions n) ≡ cost_at n (slice_get p.functions n) =
        ap (λ j. cost_at j (slice_get p.functions n)) z in
        sums (code_words (chain body n)) (code_words (body n)) (code_words (chain body (suc n)))
        (total alone_words (all_code (take n p.functions))) (total (cost all_uses) (uses_from core p tables 0 (take n p.functions)))
        (sum_at alone_words (slice_get p.functions n)) (cost_at n (slice_get p.functions n)) (cost_at (0 + n) (slice_get p.functions n))
        (total alone_words (all_code (take (suc n) p.functions)))
        (total (cost all_uses) (uses_from core p tables 0 (take (suc n) p.functions)))
        (functions_few n) (function_few n (slice_get p.functions n) refl) (joined_words (chain body n) (body n))
        (more_own alone_words p.functions n) (more_cost 0 p.functions n) same
      where
        sums : (a b both x y u v w s t : ℕ) → a ≤ x + y → b ≤ u + v → both ≡ a + b → s ≡ x + u → t ≡ y + w → w ≡ v → both ≤ s + t
        sums a b both x y u v w s t h g e q r i = omega (arith, h, g, e, q, r, i)

  -- ---- all of it

  decided : SizesDecide Use Shape → decided_words same_shape sizes all_uses
      ≤ by_shapes same_shape op_row (all_made op_shapes (all_code p.functions))
  decided decide =
      let d = (decide same_shape sizes all_uses shapes_told).fits shape_most shape_call
      (each_use IsFew (λ u. u.own ≤ shape_most (shape_of u.operation)) (λ u h. h.own) all_uses few)
      (each_use IsFew (λ u. u.call ≤ shape_call (shape_of u.operation)) (λ u h. h.call) all_uses few)
      (few_routines all_uses few) in
      let ss = all_made op_shapes (all_code p.functions) in
      let rows = λ (s : Shape) (u : ℕ). least_row (shape_most s) (shape_most s + 1) (shape_call s) u in
      let same : by_shapes same_shape rows (map sizes.shape all_uses) ≡ by_shapes same_shape rows ss =
      ap (by_shapes same_shape rows) (shapes_from 0 p.functions) in
      let told = rows_are ss (all_callable (all_code p.functions)) in
      sums (decided_words same_shape sizes all_uses) (by_shapes same_shape rows (map sizes.shape all_uses))
      (by_shapes same_shape rows ss) (by_shapes same_shape op_row ss) d same told
    where
      sums : (x y z w : ℕ) → x ≤ y → y ≡ z → w ≡ z → x ≤ w
      sums x y z w h e q = omega (arith, h, e, q)

  -- functions and routines, where operations without a shape have at most so many words
  all_few : (alone_words : PlainIr → ℕ)
      → code_words (functions_code core p tables (length p.functions))
      ≤ total alone_words (all_code (take (length p.functions) p.functions))
      + total (cost all_uses) (uses_from core p tables 0 (take (length p.functions) p.functions))
      → code_words (functions_code core p tables (length p.functions) ++ routines_code core p tables)
      ≤ total alone_words (all_code p.functions) + decided_words same_shape sizes all_uses
  all_few alone_words few =
      let n = length p.functions in
      let whole : take n p.functions ≡ p.functions = take_all n p.functions (omega arith) in
      let routine = λ (s : Shape). if stands_once all_uses s then sizes.routine s else 0 in
      let a = subst (λ fs. code_words (functions_code core p tables n)
      ≤ total alone_words (all_code fs) + total (cost all_uses) (uses_from core p tables 0 fs)) whole few in
      let b = routines_are all_uses (routines_begin p) (used_shapes all_uses) in
      let c = each_once routine all_uses in
      sums (code_words (functions_code core p tables n)) (code_words (routines_code core p tables))
      (code_words (functions_code core p tables n ++ routines_code core p tables)) (total alone_words (all_code p.functions))
      (total (cost all_uses) all_uses) (total routine (used_shapes all_uses))
      (total routine (shapes_of same_shape (map sizes.shape all_uses))) a b c
      (joined_words (functions_code core p tables n) (routines_code core p tables))
    where
      sums : (a b both own cost x y : ℕ) → a ≤ own + cost → b ≡ x → x ≡ y → both ≡ a + b → both ≤ own + (cost + y)
      sums a b both own cost x y h e q g = omega (arith, h, e, q, g)

  -- within what the operations count by shapes
  pub shared_few : SizesDecide Use Shape
      → code_words (functions_code core p tables (length p.functions) ++ routines_code core p tables) ≤ functions_words_by_shapes p.functions
  shared_few decide =
      let a = all_few own_words (functions_few own_words
      (λ f g h. alone_short laws routine_laws (data_of p) results f (called_in g.code) (linked f g) (width_of f g)) (length p.functions)) in
      sums (code_words (functions_code core p tables (length p.functions) ++ routines_code core p tables)) (total own_words (all_code p.functions))
      (decided_words same_shape sizes all_uses) (by_shapes same_shape op_row (all_made op_shapes (all_code p.functions))) a
      (decided decide)
    where
      sums : (x own dec rows : ℕ) → x ≤ own + dec → dec ≤ rows → x ≤ own + rows
      sums x own dec rows h g = omega (arith, h, g)

  -- ---- and within what each operation may have alone

  own_from : (f : ℕ) (gs : List PlainIrFunction)
      → ((j : ℕ) (g : PlainIrFunction) → slice_get gs j ≡ Some g → slice_get p.functions (f + j) ≡ Some g)
      → total unshaped_words (all_code gs) + total sizes.own (uses_from core p tables f gs) ≤ functions_words gs
  own_from f [] there = omega arith
  own_from f (g ∷ gs) there =
      let z : f + 0 ≡ f = omega arith in
      let here : slice_get p.functions f ≡ Some g = subst (λ k. slice_get p.functions k ≡ Some g) z (there 0 g refl) in
      let next : (j : ℕ) (x : PlainIrFunction) → slice_get gs j ≡ Some x → slice_get p.functions (f + 1 + j) ≡ Some x =
      λ j x e. let q : f + suc j ≡ f + 1 + j = omega arith in subst (λ k. slice_get p.functions k ≡ Some x) q (there (suc j) x e) in
      let h = each f g here in
      sums (total unshaped_words g.code) (total unshaped_words (all_code gs)) (total unshaped_words (g.code ++ all_code gs))
      (total sizes.own (function_uses core p (tables f) f g)) (total sizes.own (uses_from core p tables (f + 1) gs))
      (total sizes.own (function_uses core p (tables f) f g ++ uses_from core p tables (f + 1) gs)) (operations_words g.code)
      (functions_words gs)
      (own_sum laws routine_laws (data_of p) results f (called_in g.code) (linked f g) (width_of f g) (tables f) g.code g.code
      h.covered h.in_place h.bytes h.types)
      (own_from (f + 1) gs next) (total_joined unshaped_words g.code (all_code gs))
      (total_joined sizes.own (function_uses core p (tables f) f g) (uses_from core p tables (f + 1) gs))
    where
      sums : (a b both x y uses u v : ℕ) → a + x ≤ u → b + y ≤ v → both ≡ a + b → uses ≡ x + y → both + uses ≤ u + v
      sums a b both x y uses u v h g e q = omega (arith, h, g, e, q)

  pub shared_short : SizesDecide Use Shape
      → code_words (functions_code core p tables (length p.functions) ++ routines_code core p tables) ≤ functions_words p.functions
  shared_short decide =
      let a = all_few unshaped_words (functions_few unshaped_words
      (λ f g h. alone_op laws routine_laws (data_of p) results f (called_in g.code) (linked f g) (width_of f g)) (length p.functions)) in
      let b = own_from 0 p.functions
      (λ j g e. let q : j ≡ 0 + j = omega arith in subst (λ k. slice_get p.functions k ≡ Some g) q e) in
      let c = (decide same_shape sizes all_uses shapes_told).short in
      sums (code_words (functions_code core p tables (length p.functions) ++ routines_code core p tables))
      (total unshaped_words (all_code p.functions)) (decided_words same_shape sizes all_uses) (total sizes.own all_uses)
      (functions_words p.functions) a b c
    where
      sums : (x own dec uses all : ℕ) → x ≤ own + dec → own + uses ≤ all → dec ≤ uses → x ≤ all
      sums x own dec uses all h g e = omega (arith, h, g, e)
