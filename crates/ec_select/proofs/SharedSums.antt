-- The words of the code of all functions, and of the routines that they call: at most what their operations count by shapes.
use Rattle.std.proofs.Common.{◌≡◌, ◌⊎◌, ℕ, ◌+◌, ◌≤◌, Bool, true, false, List, [], ◌∷◌, ◌++◌, refl, sym, ap, ◌∙◌, subst}
use Rattle.std.proofs.Common.{arith, map, append_assoc}
use Rattle.std.specs.Prelude.{Option, Some, None, if◌then◌else◌}
use Rattle.std.specs.List.{AllByRecursion}
use Rattle.std.proofs.lemmas.Bool.{false≢true}
use Rattle.ec_asm.specs.declared.items.AsmItem.{AsmItem}
use Rattle.ec_asm.specs.Items.{code_words}
use Rattle.ec_core.specs.Plain.{PlainProgram}
use Rattle.ec_core_shapes.specs.Shapes.{Shape, unary_shape, binary_shape, conversion_shape}
use Rattle.ec_shapes.specs.Shapes.{total, all_made}
use Rattle.ec_shapes.proofs.Sums.{total_joined}
use Rattle.ec_ir.specs.Operations.{PlainIr}
use Rattle.ec_ir.specs.Operations.{binary_op, unary_op, conversion}
use Rattle.ec_ir_known.specs.declared.known.RightNumber.{RightNumber}
use Rattle.ec_ir_known.specs.Known.{numbers_left}
use Rattle.ec_ir.specs.Costs.{op_words, code_words as operations_words}
use Rattle.ec_ir_shapes.specs.Costs.{shape_code, own_words, op_shapes}
use Rattle.ec_select_operations.specs.declared.families.Told.{Told}
use Rattle.ec_select_operations.specs.Code.{Linkage, own_code, called_code, linked_code, routine_used, op_code, ops_code, tells_next}
use Rattle.ec_select_operations.specs.Code.{result_wanted, kept_need, needed_behind, wanted_behind, wanted_bytes}
use Rattle.ec_select_operations.specs.Emitted.{linkage}
use Rattle.ec_select_operations.specs.Homes.{home}
use Rattle.ec_select_operations.specs.Needs.{Need, facts_of, needs, nothing, takes_count}
use Rattle.ec_select_operations.specs.Pointers.{has_tables}
use Rattle.ec_select_operations.specs.Routines.{routine_for}
use Rattle.ec_select_functions.specs.Covered.{IsCovered, AreCovered}
use Rattle.ec_select.specs.InPlace.{IsInPlace}
use Rattle.ec_select.specs.Sharing.{has_some, is_shaped, shape_of, operation_of, Use, use_of, uses_of, uses_in}
use Rattle.ec_select.specs.Sharing.{sizes, stands_once, rows_of, alone, own_items, used_items}
use Rattle.ec_select.specs.Sharing.{label_among}
use Rattle.ec_select.specs.Sharing.{routine_among}
use Rattle.ec_select.proofs.AlikeWords.{HasOperandTypes, alike}
use Rattle.ec_select.proofs.CalledWords.{of_shape as shape_is_of}
use Rattle.ec_select.proofs.CountedShifts.{used_within}
use Rattle.ec_select.proofs.LinkedWords.{RoutineLaws, shape_call, one_at_most, routine_within}
use Rattle.ec_select.proofs.LinkedWords.{own_within, wanted_few}
use Rattle.ec_select.proofs.OperationWords.{WordLaws}
use Rattle.ec_select.proofs.SharedWords.{IsTold, told, call_alike}
use Rattle.ec_select.proofs.UseWords.{HasTypeBytes, shape_most, own_most, op_most}
use Rattle.ec_select.proofs.Words.{joined_words}

-- ---- an operation that has a shape

is_shape : (i : PlainIr) (s : Shape) → op_shapes i ≡ s ∷ [] → shape_of i ≡ s
is_shape (binary_op op ty mode to a aty b bty) s e =
    let r = binary_shape op ty mode aty bty in shape_is_of (shape_code r) r s e
is_shape (unary_op op ty mode to a) s e = let r = unary_shape op ty mode ty in shape_is_of (shape_code r) r s e
is_shape (conversion to ty mode a aty) s e = let r = conversion_shape ty mode aty in shape_is_of (shape_code r) r s e
is_shape i s e = absurd cc

behind_is : (at : ℕ → Need) (need : Need) (i : PlainIr) (s : Shape) → op_shapes i ≡ s ∷ []
    → wanted_behind at need i ≡ result_wanted need i
behind_is at need (binary_op op ty mode to a aty b bty) s e = refl
behind_is at need (unary_op op ty mode to a) s e = refl
behind_is at need (conversion to ty mode a aty) s e = refl
behind_is at need i s e = absurd cc

-- what is needed behind one is what is needed before what stands there
needed_is : (at : ℕ → Need) (need : Need) (i : PlainIr) (s : Shape) → op_shapes i ≡ s ∷ [] → needed_behind at need i ≡ need
needed_is at need (binary_op op ty mode to a aty b bty) s e = refl
needed_is at need (unary_op op ty mode to a) s e = refl
needed_is at need (conversion to ty mode a aty) s e = refl
needed_is at need i s e = absurd cc

same_routine : (l : ℕ) (i : PlainIr) (s : Shape) → op_shapes i ≡ s ∷ [] → routine_for l i ≡ routine_for l (operation_of (shape_of i))
same_routine l (binary_op op ty mode to a aty b bty) s e = refl
same_routine l (unary_op op ty mode to a) s e = refl
same_routine l (conversion to ty mode a aty) s e = refl
same_routine l i s e = absurd cc

no_use : (p : PlainProgram) (k : Linkage) (known : Option RightNumber) (m : ℕ) (i : PlainIr) → op_shapes i ≡ []
    → uses_of k.core p k.homes known m i ≡ []
no_use p k known m i e = by_test (is_shaped i) (ap has_some e) where
  by_test : (x : Bool) → x ≡ false → (if x then use_of k.core p k.homes known m i ∷ [] else []) ≡ []
  by_test true q = absurd (false≢true (sym q))
  by_test false q = refl

one_use : (p : PlainProgram) (k : Linkage) (known : Option RightNumber) (at : ℕ → Need) (need : Need) (i : PlainIr) (s : Shape)
    → op_shapes i ≡ s ∷ []
    → uses_of k.core p k.homes known (wanted_behind at need i) i ≡ use_of k.core p k.homes known (result_wanted need i) i ∷ []
one_use p k known at need i s e =
    by_test (is_shaped i) (ap has_some e) (wanted_behind at need i)
    ∙ ap (λ n. use_of k.core p k.homes known n i ∷ []) (behind_is at need i s e)
  where
    by_test : (x : Bool) → x ≡ true → (m : ℕ)
        → (if x then use_of k.core p k.homes known m i ∷ [] else []) ≡ use_of k.core p k.homes known m i ∷ []
    by_test true q m = refl
    by_test false q m = absurd (false≢true q)

-- what a use costs where some shapes stand once
abbrev pub cost : List Use → Use → ℕ
cost us u = if stands_once us (shape_of u.operation) then u.call else u.own

-- what an operation may have alone, where it has no use
abbrev pub unshaped_words : PlainIr → ℕ
unshaped_words i = if is_shaped i then 0 else op_words i

-- the words of a use by itself and of a call, and those of the routine of its shape, are within what the shape counts
pub record IsFew (u : Use) : Type 0 where
  pub own : u.own ≤ shape_most (shape_of u.operation)
  pub call : u.call ≤ shape_call (shape_of u.operation)
  pub routine : sizes.routine (shape_of u.operation) ≤ shape_most (shape_of u.operation) + 1

pub all_joined : (P : Use → Type 0) (us vs : List Use) → AllByRecursion P us → AllByRecursion P vs → AllByRecursion P (us ++ vs)
all_joined P [] vs h k = k
all_joined P (u ∷ us) vs h k = (h.0, all_joined P us vs h.1 k)

linked_few : (o : Option ℕ) (c : ℕ → List AsmItem) (own : List AsmItem) (call w : ℕ) (once : Bool) → IsTold o once
    → ((l : ℕ) → code_words (c l) ≤ call) → code_words own ≤ w → code_words (linked_code o c own) ≤ (if once then call else w)
linked_few (Some l) c own call w true t h g = h l
linked_few (Some l) c own call w false t h g = absurd t
linked_few None c own call w true t h g = absurd t
linked_few None c own call w false t h g = g

-- beside a routine stands a call of it, or the operation's own code, which takes a known count
beside_few : (counted : Bool) (o : Option ℕ) (c : ℕ → List AsmItem) (own alone call : List AsmItem) (once : Bool) → IsTold o once
    → ((l : ℕ) → code_words (c l) ≤ code_words call) → code_words own ≤ code_words alone
    → code_words (linked_code (if counted then None else o) c own)
    ≤ (if once then code_words (if counted then alone else call) else code_words alone)
beside_few true o c own alone call true t h g = g
beside_few true o c own alone call false t h g = g
beside_few false o c own alone call once t h g = linked_few o c own (code_words call) (code_words alone) once t h g

-- where none stands, its own code
unlinked : (counted : Bool) (c : ℕ → List AsmItem) (own : List AsmItem) (most : ℕ) → code_words own ≤ most
    → code_words (linked_code (if counted then None else None) c own) ≤ most
unlinked true c own most h = h
unlinked false c own most h = h

-- ---- the operations of a function

module _ (laws : WordLaws) (routine_laws : RoutineLaws) (p : PlainProgram) (results : ℕ → ℕ) (f : ℕ) (called : List ℕ)
    (k : Linkage) (width_is : (k.homes.width ≡ 2) ⊎ (k.homes.width ≡ 4)) where
  use_few : (known : Option RightNumber) (need : Need) (i : PlainIr) (s : Shape) → IsCovered p results f called k.slots i
      → IsInPlace i → HasTypeBytes i
      → HasOperandTypes i → op_shapes i ≡ s ∷ [] → IsFew (use_of k.core p k.homes known (result_wanted need i) i)
  use_few known need i s h q b t e =
      let same : s ≡ shape_of i = sym (is_shape i s e) in
      let n = result_wanted need i in
      let x = alike p results f called k.slots (home k.homes) (linkage (alone k.core k.homes)) k None None known n nothing
      (kept_need need i) i s
      refl h t e in
      let y = own_within laws p results f called k width_is None None known need i s h q b e in
      let z = routine_within routine_laws p results f called k.slots 0 i s h b e in
      record {
        own = subst (λ r. code_words (own_items k.core p k.homes known n i) ≤ shape_most r) same
            (chain_of (code_words (own_items k.core p k.homes known n i)) (code_words (own_code p (home k.homes) k None None known need i))
            (shape_most s) x y);
        call = subst (λ r. code_words (used_items k.core p k.homes known n i) ≤ shape_call r) same
            (used_within routine_laws.calls k.core p results f called k.slots k.homes width_is known n i s h b e (wanted_few need i s e));
        routine = subst (λ c. code_words c ≤ shape_most (shape_of i) + 1) (same_routine 0 i s e)
            (subst (λ r. code_words (routine_for 0 i) ≤ shape_most r + 1) same z);
      }
    where
      chain_of : (x y z : ℕ) → x ≤ y → y ≤ z → x ≤ z
      chain_of x y z h g = omega (arith, h, g)

  -- an operation without a shape counts by itself
  pub alone_short : (before telling : Option Told) (known : Option RightNumber) (need : Need) (i : PlainIr)
      → IsCovered p results f called k.slots i → IsInPlace i → HasTypeBytes i → op_shapes i ≡ []
      → code_words (own_code p (home k.homes) k before telling known need i) ≤ own_words i
  alone_short before telling known need i h q b e =
      own_most laws p results f called k width_is before telling known need (kept_need need i) i h q b e

  uses_few_one : (known : Option RightNumber) (at : ℕ → Need) (need : Need) (i : PlainIr) → IsCovered p results f called k.slots i
      → IsInPlace i → HasTypeBytes i
      → HasOperandTypes i → AllByRecursion IsFew (uses_of k.core p k.homes known (wanted_behind at need i) i)
  uses_few_one known at need i h q b t = by_shape (op_shapes i) refl where
    by_shape : (ss : List Shape) → op_shapes i ≡ ss → AllByRecursion IsFew (uses_of k.core p k.homes known (wanted_behind at need i) i)
    by_shape [] e = subst (AllByRecursion IsFew) (sym (no_use p k known (wanted_behind at need i) i e)) tt
    by_shape (s ∷ []) e = subst (AllByRecursion IsFew) (sym (one_use p k known at need i s e)) (use_few known need i s h q b t e, tt)
    by_shape (s ∷ (r ∷ ss)) e = absurd (one_at_most i s r ss e)

  pub uses_few : (labels : ℕ → Need) (all code : List PlainIr) → AreCovered p results f called k.slots code → AllByRecursion IsInPlace code
      → AllByRecursion HasTypeBytes code → AllByRecursion HasOperandTypes code
      → AllByRecursion IsFew (uses_in k.core p k.homes (wanted_bytes (facts_of (has_tables p.objects) labels all) code)
      (numbers_left all code) code)
  uses_few labels all [] h q b t = tt
  uses_few labels all (i ∷ code) h q b t =
      let at = facts_of (has_tables p.objects) labels all in
      let known = at.known (i ∷ code) in
      all_joined IsFew (uses_of k.core p k.homes known (wanted_behind at.needed (needs at code) i) i)
      (uses_in k.core p k.homes (wanted_bytes at code) (numbers_left all code) code)
      (uses_few_one known at.needed (needs at code) i h.0 q.0 b.0 t.0) (uses_few labels all code h.1 q.1 b.1 t.1)

  -- or has at most the words that it may have alone, and one with a shape leaves them to its use
  pub alone_op : (before telling : Option Told) (known : Option RightNumber) (need : Need) (i : PlainIr)
      → IsCovered p results f called k.slots i → IsInPlace i → HasTypeBytes i → op_shapes i ≡ []
      → code_words (own_code p (home k.homes) k before telling known need i) ≤ unshaped_words i
  alone_op before telling known need i h q b e =
      by_test (is_shaped i) (ap has_some e)
      (op_most laws p results f called k width_is before telling known need (kept_need need i) i h q b)
    where
      by_test : (x : Bool) → x ≡ false → code_words (own_code p (home k.homes) k before telling known need i) ≤ op_words i
          → code_words (own_code p (home k.homes) k before telling known need i) ≤ (if x then 0 else op_words i)
      by_test true e x = absurd (false≢true (sym e))
      by_test false e x = x

  own_sum_one : (known : Option RightNumber) (at : ℕ → Need) (need : Need) (i : PlainIr) → IsCovered p results f called k.slots i
      → IsInPlace i → HasTypeBytes i
      → HasOperandTypes i
      → unshaped_words i + total sizes.own (uses_of k.core p k.homes known (wanted_behind at need i) i) ≤ op_words i
  own_sum_one known at need i h q b t = by_shape (op_shapes i) refl where
    not_shaped : (x : Bool) → x ≡ false → (if x then 0 else op_words i) + 0 ≤ op_words i
    not_shaped true e = omega arith
    not_shaped false e = omega arith

    shaped : (x : Bool) (own : ℕ) → x ≡ true → own ≤ op_words i → (if x then 0 else op_words i) + (own + 0) ≤ op_words i
    shaped true own e l = omega (arith, l)
    shaped false own e l = absurd (false≢true e)

    chain_of : (x y z : ℕ) → x ≤ y → y ≤ z → x ≤ z
    chain_of x y z h g = omega (arith, h, g)

    by_shape : (ss : List Shape) → op_shapes i ≡ ss
        → unshaped_words i + total sizes.own (uses_of k.core p k.homes known (wanted_behind at need i) i) ≤ op_words i
    by_shape [] e =
        subst (λ us. unshaped_words i + total sizes.own us ≤ op_words i) (sym (no_use p k known (wanted_behind at need i) i e))
        (not_shaped (is_shaped i) (ap has_some e))
    by_shape (s ∷ []) e =
        let n = result_wanted need i in
        let x = alike p results f called k.slots (home k.homes) (linkage (alone k.core k.homes)) k None None known n nothing
        (kept_need need i) i s
        refl h t e in
        let y = op_most laws p results f called k width_is None None known need (kept_need need i) i h q b in
        subst (λ us. unshaped_words i + total sizes.own us ≤ op_words i) (sym (one_use p k known at need i s e))
        (shaped (is_shaped i) (code_words (own_items k.core p k.homes known n i)) (ap has_some e)
        (chain_of (code_words (own_items k.core p k.homes known n i))
        (code_words (own_code p (home k.homes) k None None known need i)) (op_words i) x y))
    by_shape (s ∷ (r ∷ ss)) e = absurd (one_at_most i s r ss e)

  pub own_sum : (labels : ℕ → Need) (all code : List PlainIr) → AreCovered p results f called k.slots code → AllByRecursion IsInPlace code
      → AllByRecursion HasTypeBytes code → AllByRecursion HasOperandTypes code
      → total unshaped_words code + total sizes.own (uses_in k.core p k.homes
      (wanted_bytes (facts_of (has_tables p.objects) labels all) code) (numbers_left all code) code)
      ≤ operations_words code
  own_sum labels all [] h q b t = omega arith
  own_sum labels all (i ∷ code) h q b t =
      let at = facts_of (has_tables p.objects) labels all in
      let known = at.known (i ∷ code) in
      let others = uses_in k.core p k.homes (wanted_bytes at code) (numbers_left all code) code in
      let m = wanted_behind at.needed (needs at code) i in
      sums (unshaped_words i) (total unshaped_words code) (total sizes.own (uses_of k.core p k.homes known m i))
      (total sizes.own others) (total sizes.own (uses_of k.core p k.homes known m i ++ others)) (op_words i) (operations_words code)
      (own_sum_one known at.needed (needs at code) i h.0 q.0 b.0 t.0) (own_sum labels all code h.1 q.1 b.1 t.1)
      (total_joined sizes.own (uses_of k.core p k.homes known m i) others)
    where
      sums : (a b x y both u v : ℕ) → a + x ≤ u → b + y ≤ v → both ≡ x + y → a + b + both ≤ u + v
      sums a b x y both u v h g e = omega (arith, h, g, e)

  -- the code of an operation, which calls a routine where its shape stands once. One without a shape has at most so many words
  module _ (us : List Use) (first : ℕ) (routes : (i : PlainIr) → k.routine_of i ≡ routine_among first (rows_of us) i)
      (alone_words : PlainIr → ℕ)
      (short : (before telling : Option Told) (known : Option RightNumber) (need : Need) (i : PlainIr)
      → IsCovered p results f called k.slots i → IsInPlace i → HasTypeBytes i → op_shapes i ≡ []
      → code_words (own_code p (home k.homes) k before telling known need i) ≤ alone_words i) where
    one_few : (at : ℕ → Need) (before telling : Option Told) (known : Option RightNumber) (need : Need) (i : PlainIr)
        → IsCovered p results f called k.slots i → IsInPlace i → HasTypeBytes i → HasOperandTypes i
        → code_words (op_code p (home k.homes) k before telling known (needed_behind at need i) i)
        ≤ alone_words i + total (cost us) (uses_of k.core p k.homes known (wanted_behind at need i) i)
    one_few at before telling known need i h q b t = by_shape (op_shapes i) refl where
      n : ℕ
      n = result_wanted need i

      -- a routine for what has a shape alone
      unrouted : is_shaped i ≡ false → k.routine_of i ≡ None
      unrouted e = routes i ∙ by_test (is_shaped i) e where
        by_test : (x : Bool) → x ≡ false → (if x then label_among first (rows_of us) (shape_of i) else None) ≡ None
        by_test true e = absurd (false≢true (sym e))
        by_test false e = refl

      routed : is_shaped i ≡ true → IsTold (k.routine_of i) (stands_once us (shape_of i))
      routed e =
          subst (λ o. IsTold o (stands_once us (shape_of i))) (sym (routes i ∙ by_test (is_shaped i) e)) (told us first (shape_of i))
        where
          by_test : (x : Bool) → x ≡ true
              → (if x then label_among first (rows_of us) (shape_of i) else None) ≡ label_among first (rows_of us) (shape_of i)
          by_test true e = refl
          by_test false e = absurd (false≢true e)

      more : (w own others : ℕ) → w ≤ own → w ≤ own + others
      more w own others x = omega (arith, x)

      last : (w c own : ℕ) → w ≤ c → w ≤ own + (c + 0)
      last w c own x = omega (arith, x)

      at_most : (x y z : ℕ) → x ≡ y → y ≤ z → x ≤ z
      at_most x y z e h = omega (arith, e, h)

      by_shape : (ss : List Shape) → op_shapes i ≡ ss
          → code_words (op_code p (home k.homes) k before telling known (needed_behind at need i) i)
          ≤ alone_words i + total (cost us) (uses_of k.core p k.homes known (wanted_behind at need i) i)
      by_shape [] e =
          let behind = needed_behind at need i in
          let own = own_code p (home k.homes) k before telling known behind i in
          let calls = λ (l : ℕ). called_code (home k.homes) l (result_wanted behind i) i in
          let most = alone_words i + total (cost us) (uses_of k.core p k.homes known (wanted_behind at need i) i) in
          subst (λ o. code_words (linked_code (routine_used known i o) calls own) ≤ most) (sym (unrouted (ap has_some e)))
          (unlinked (takes_count known i) calls own most
          (more (code_words own) (alone_words i) (total (cost us) (uses_of k.core p k.homes known (wanted_behind at need i) i))
          (short before telling known behind i h q b e)))
      by_shape (s ∷ []) e =
          let own = own_code p (home k.homes) k before telling known need i in
          let calls = λ (l : ℕ). called_code (home k.homes) l (result_wanted need i) i in
          let u = use_of k.core p k.homes known (result_wanted need i) i in
          let x = alike p results f called k.slots (home k.homes) k (linkage (alone k.core k.homes)) before telling known
          (result_wanted need i) (kept_need need i) nothing i s refl h t e in
          let call = code_words (called_code (home k.homes) 0 (result_wanted need i) i) in
          let few = beside_few (takes_count known i) (k.routine_of i) calls own
          (own_items k.core p k.homes known (result_wanted need i) i) (called_code (home k.homes) 0 (result_wanted need i) i)
          (stands_once us (shape_of i)) (routed (ap has_some e))
          (λ l. at_most (code_words (calls l)) call call (call_alike (home k.homes) l (result_wanted need i) i) (omega arith)) x in
          subst
          (λ x. code_words (op_code p (home k.homes) k before telling known x i)
          ≤ alone_words i + total (cost us) (uses_of k.core p k.homes known (wanted_behind at need i) i)) (sym (needed_is at need i s e))
          (subst (λ vs. code_words (op_code p (home k.homes) k before telling known need i) ≤ alone_words i + total (cost us) vs)
          (sym (one_use p k known at need i s e))
          (last (code_words (op_code p (home k.homes) k before telling known need i)) (cost us u) (alone_words i) few))
      by_shape (s ∷ (r ∷ ss)) e = absurd (one_at_most i s r ss e)

    pub ops_few : (labels : ℕ → Need) (all : List PlainIr) (before : Option Told) (code : List PlainIr)
        → AreCovered p results f called k.slots code
        → AllByRecursion IsInPlace code → AllByRecursion HasTypeBytes code → AllByRecursion HasOperandTypes code
        → code_words (ops_code p (home k.homes) k (facts_of (has_tables p.objects) labels all) before code)
        ≤ total alone_words code + total (cost us) (uses_in k.core p k.homes
        (wanted_bytes (facts_of (has_tables p.objects) labels all) code) (numbers_left all code) code)
    ops_few labels all before [] h q b t = omega arith
    ops_few labels all before (i ∷ code) h q b t =
        let at = facts_of (has_tables p.objects) labels all in
        let known = at.known (i ∷ code) in
        let behind = uses_in k.core p k.homes (wanted_bytes at code) (numbers_left all code) code in
        let next = tells_next k.core p (home k.homes) at before i code in
        let m = wanted_behind at.needed (needs at code) i in
        let here = op_code p (home k.homes) k before next known (needed_behind at.needed (needs at code) i) i in
        let others = ops_code p (home k.homes) k at next code in
        sums (code_words here) (code_words others) (alone_words i) (total alone_words code)
        (total (cost us) (uses_of k.core p k.homes known m i))
        (total (cost us) behind) (code_words (here ++ others)) (total (cost us) (uses_of k.core p k.homes known m i ++ behind))
        (one_few at.needed before next known (needs at code) i h.0 q.0 b.0 t.0)
        (ops_few labels all next code h.1 q.1 b.1 t.1) (joined_words here others)
        (total_joined (cost us) (uses_of k.core p k.homes known m i) behind)
      where
        sums : (a b x y c d both cost : ℕ) → a ≤ x + c → b ≤ y + d → both ≡ a + b → cost ≡ c + d → both ≤ x + y + cost
        sums a b x y c d both cost h g e q = omega (arith, h, g, e, q)

-- ---- the shapes of uses are those of the operations

pub mapped : (us vs : List Use) → map sizes.shape (us ++ vs) ≡ map sizes.shape us ++ map sizes.shape vs
mapped [] vs = refl
mapped (u ∷ us) vs = ap (λ ss. shape_of u.operation ∷ ss) (mapped us vs)

shapes_one : (p : PlainProgram) (k : Linkage) (known : Option RightNumber) (m : ℕ) (i : PlainIr)
    → map sizes.shape (uses_of k.core p k.homes known m i) ≡ op_shapes i
shapes_one p k known m i = by_shape (op_shapes i) refl where
  by_shape : (ss : List Shape) → op_shapes i ≡ ss → map sizes.shape (uses_of k.core p k.homes known m i) ≡ op_shapes i
  by_shape [] e = ap (map sizes.shape) (no_use p k known m i e) ∙ sym e
  by_shape (s ∷ []) e = by_test (is_shaped i) (ap has_some e) ∙ ap (λ r. r ∷ []) (is_shape i s e) ∙ sym e where
    by_test : (x : Bool) → x ≡ true → map sizes.shape (if x then use_of k.core p k.homes known m i ∷ [] else []) ≡ shape_of i ∷ []
    by_test true q = refl
    by_test false q = absurd (false≢true q)
  by_shape (s ∷ (r ∷ ss)) e = absurd (one_at_most i s r ss e)

pub shapes_in : (p : PlainProgram) (k : Linkage) (labels : ℕ → Need) (all code : List PlainIr)
    → map sizes.shape (uses_in k.core p k.homes (wanted_bytes (facts_of (has_tables p.objects) labels all) code)
    (numbers_left all code) code) ≡ all_made op_shapes code
shapes_in p k labels all [] = refl
shapes_in p k labels all (i ∷ code) =
    let at = facts_of (has_tables p.objects) labels all in
    let known = at.known (i ∷ code) in
    let m = wanted_behind at.needed (needs at code) i in
    let behind = uses_in k.core p k.homes (wanted_bytes at code) (numbers_left all code) code in
    mapped (uses_of k.core p k.homes known m i) behind
    ∙ ap (λ ss. ss ++ map sizes.shape behind) (shapes_one p k known m i)
    ∙ ap (λ ss. op_shapes i ++ ss) (shapes_in p k labels all code)

pub made_joined : (xs ys : List PlainIr) → all_made op_shapes (xs ++ ys) ≡ all_made op_shapes xs ++ all_made op_shapes ys
made_joined [] ys = refl
made_joined (i ∷ xs) ys =
    ap (λ ss. op_shapes i ++ ss) (made_joined xs ys)
    ∙ sym (append_assoc (op_shapes i) (all_made op_shapes xs) (all_made op_shapes ys))
