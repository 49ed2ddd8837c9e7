-- Routines can be placed: their items fit, and the label of each stands once.
use Rattle.std.proofs.Common.{◌≡◌, ℕ, suc, ◌+◌, ◌-◌, ◌<◌, ◌≤◌, ◌==◌, Bool, true, false, List, [], ◌∷◌, ◌++◌, refl, sym, ◌∙◌, ap}
use Rattle.std.proofs.Common.{subst, arith, map}
use Rattle.std.specs.Prelude.{⊤, ◌||◌, cond, count_by, if◌then◌else◌, Option, Some, None}
use Rattle.std.specs.List.{list_all, AllByRecursion}
use Rattle.std.proofs.lemmas.Bool.Decides.{nat_tests}
use Rattle.ec_isa.specs.declared.instructions.Instr.TheVariants.{Ret}
use Rattle.ec_asm.specs.declared.items.AsmItem.{AsmItem}
use Rattle.ec_asm.specs.declared.items.AsmItem.TheVariants.{Plain, Label}
use Rattle.ec_asm.specs.Pieces.{copy_code}
use Rattle.ec_asm.specs.Valid.{Sizes, is_offset, is_label}
use Rattle.ec_core.specs.Layout.{scalar_size}
use Rattle.ec_core_shapes.specs.Shapes.{Shape, same_shape}
use Rattle.ec_ir.specs.Operations.{PlainIr}
use Rattle.ec_ir.specs.Operations.{binary_op, unary_op, conversion}
use Rattle.ec_routines.specs.Routines.{routine_code}
use Rattle.ec_shapes.specs.Shapes.{has}
use Rattle.ec_select_fixed.specs.Types.{AreFixedOperands, IsFixedOperand, AreFixedConverted}
use Rattle.ec_select_quotients.specs.Signs.{quotient_code}
use Rattle.ec_select_routines.specs.Codes.{work_place, answer_place, first_place, second_place, binary_body, unary_body}
use Rattle.ec_select_routines.specs.Codes.{conversion_body, quotient_body}
use Rattle.ec_select_operations.specs.declared.families.Family.{Family}
use Rattle.ec_select_operations.specs.declared.families.Family.TheVariants.{Combined, Compared, Multiplied, Shifted}
use Rattle.ec_select_operations.specs.declared.families.Family.TheVariants.{Divided}
use Rattle.ec_select_operations.specs.Code.{family_of, is_signed}
use Rattle.ec_select_operations.specs.Emitted.{OfKind}
use Rattle.ec_select_operations.specs.Needs.{is_fixed}
use Rattle.ec_select_operations.specs.Routines.{body_by, division_body, routine_body, routine_with, CanBeDivided, CanBeRoutine}
use Rattle.ec_select.specs.Sharing.{Use, Row, is_shaped, shape_of, shape_routine, used_shapes, row_of, row_routine}
use Rattle.ec_select.specs.Sharing.{label_where, label_among, routines_among, stands_once}
use Rattle.ec_select.proofs.Counted.{joined_count}
use Rattle.ec_select.proofs.FixedItems.{FixedItemLaws, plain_fits}
use Rattle.ec_select.proofs.Fitting.{fits, Fit, joined, passing, place_none}
use Rattle.ec_select.proofs.Loops.{quotient_fits}
use Rattle.ec_select.proofs.Pieces.{copy_fits}
use Rattle.ec_select.proofs.Shaped.{same_routine}

-- ---- what holds of the shapes of all uses

pub all_shapes : (P : Shape → Type 0) (us : List Use) → AllByRecursion (λ u. P (shape_of u.operation)) us
    → AllByRecursion P (used_shapes us)
all_shapes P [] h = tt
all_shapes P (u ∷ us) h = by_test (has same_shape (used_shapes us) (shape_of u.operation)) (all_shapes P us h.1)
  where
    more : (ss : List Shape) → AllByRecursion P ss → AllByRecursion P (ss ++ shape_of u.operation ∷ [])
    more [] k = (h.0, tt)
    more (s ∷ ss) k = (k.0, more ss k.1)

    by_test : (b : Bool) → AllByRecursion P (used_shapes us)
        → AllByRecursion P (if b then used_shapes us else used_shapes us ++ shape_of u.operation ∷ [])
    by_test true k = k
    by_test false k = more (used_shapes us) k

-- ---- bodies

module _ (sizes : Sizes) where
  module _ (laws : FixedItemLaws) (work : (k : ℕ) → k ≤ 64 → is_offset sizes 1280 k ≡ true) where
    quotient_body_fits : (r signed : Bool) (top : ℕ) → top < 4 → Fit sizes (quotient_body r signed top)
    quotient_body_fits r signed top few =
        joined (fits sizes) (copy_code first_place answer_place (suc top)) (quotient_code r signed answer_place second_place top)
        (copy_fits sizes first_place answer_place (suc top) (λ i l. work (48 + i) (omega arith)) (λ i l. work (40 + i) (omega arith)))
        (quotient_fits sizes r signed answer_place second_place top few (λ i l. work (40 + i) (omega arith))
        (λ i l. work (56 + i) (omega arith)))

    divided_fits : (x : Family) (signed : Bool) (n : ℕ) (body : List AsmItem) → CanBeDivided x n
        → division_body x signed n ≡ Some body → Fit sizes body
    divided_fits (Divided r) signed n body c e =
        let q : quotient_body r signed (n - 1) ≡ body = cc in
        let some = c.0 in let few = c.1 in
        subst (λ (code : List AsmItem). Fit sizes code) q (quotient_body_fits r signed (n - 1) (omega (arith, some, few)))
    divided_fits (Combined op) signed n body c e = absurd cc
    divided_fits (Compared op exchanged) signed n body c e = absurd cc
    divided_fits Multiplied signed n body c e = absurd cc
    divided_fits (Shifted up) signed n body c e = absurd cc

    by_body : (b : Bool) (F O : Type 0) (x : List AsmItem) (y : Option (List AsmItem)) (body : List AsmItem) → (F → Fit sizes x)
        → (O → y ≡ Some body → Fit sizes body) → OfKind b F O → body_by b (Some x) y ≡ Some body → Fit sizes body
    by_body true F O x y body own others h e =
        let q : x ≡ body = cc in subst (λ (code : List AsmItem). Fit sizes code) q (own h)
    by_body false F O x y body own others h e = others h e

    -- the work bytes from the first one on
    first_work : (i : ℕ) → i < 40 → is_offset sizes 1280 (0 + i) ≡ true
    first_work i l = work (0 + i) (omega (arith, l))

    nothing_fits : (body : List AsmItem) → None ≡ Some body → Fit sizes body
    nothing_fits body e = absurd cc

    pub body_fits : (i : PlainIr) (body : List AsmItem) → CanBeRoutine i → routine_body i ≡ Some body → Fit sizes body
    body_fits (binary_op op ty mode to a aty b bty) body h e =
        by_body (is_fixed aty || is_fixed bty)
        (AreFixedOperands op ty aty bty × (scalar_size ty ≤ 8) × (scalar_size aty ≤ 8) × (scalar_size bty ≤ 8))
        (CanBeDivided (family_of op) (scalar_size aty)) (binary_body op ty aty bty mode)
        (division_body (family_of op) (is_signed aty) (scalar_size aty)) body
        (λ k. let x = k.1 in let y = k.2 in let z = k.3 in
        plain_fits sizes (binary_body op ty aty bty mode)
        (laws.binaries sizes op ty aty bty mode first_place second_place answer_place work_place k.0
        (λ i l. work (48 + i) (omega (arith, l, y))) (λ i l. work (56 + i) (omega (arith, l, z)))
        (λ i l. work (40 + i) (omega (arith, l, x))) (λ i l. first_work i l)))
        (λ k q. divided_fits (family_of op) (is_signed aty) (scalar_size aty) body k q) h e
    body_fits (unary_op op ty mode to a) body h e =
        by_body (is_fixed ty) (IsFixedOperand op ty × (scalar_size ty ≤ 8)) ⊤ (unary_body op ty mode) None body
        (λ k. let x = k.1 in
        plain_fits sizes (unary_body op ty mode)
        (laws.unaries sizes op ty mode first_place answer_place work_place k.0
        (λ i l. work (48 + i) (omega (arith, l, x))) (λ i l. work (40 + i) (omega (arith, l, x))) (λ i l. first_work i l)))
        (λ k q. nothing_fits body q) h e
    body_fits (conversion to ty mode a aty) body h e =
        by_body (is_fixed ty || is_fixed aty) (AreFixedConverted ty aty × (scalar_size ty ≤ 8) × (scalar_size aty ≤ 8)) ⊤
        (conversion_body ty aty mode) None body
        (λ k. let x = k.1 in let y = k.2 in
        plain_fits sizes (conversion_body ty aty mode)
        (laws.conversions sizes ty aty mode first_place answer_place work_place k.0
        (λ i l. work (48 + i) (omega (arith, l, y))) (λ i l. work (40 + i) (omega (arith, l, x))) (λ i l. first_work i l)))
        (λ k q. nothing_fits body q) h e
    body_fits i body h e = nothing_fits body e

  -- ---- routines of shapes

  -- the routine of a shape has a body that fits
  pub record IsSound (s : Shape) : Type 0 where
    pub body : List AsmItem
    pub is : (l : ℕ) → shape_routine l s ≡ routine_code l body
    pub fit : Fit sizes body

  pub operation_sound : (i : PlainIr) (body : List AsmItem) → is_shaped i ≡ true → routine_body i ≡ Some body → Fit sizes body
      → IsSound (shape_of i)
  operation_sound i body s e h = record {
    body = body;
    is = λ l. sym (same_routine l i s) ∙ ap (routine_with l) e;
    fit = h;
  }

  module _ (us : List Use) where
    abbrev rows : List Shape → List Row
    rows shapes = map (row_of us) shapes

    -- what their items pass
    module _ (q : AsmItem → Bool) (passes : (i : AsmItem) → fits sizes i ≡ true → q i ≡ true) (labels : (l : ℕ) → q (Label l) ≡ true) where
      routine_passes : (l : ℕ) (body : List AsmItem) → Fit sizes body → list_all q (routine_code l body) ≡ true
      routine_passes l body h =
          let rest = joined q body (Plain Ret ∷ []) (passing sizes q passes body h) (rw (passes (Plain Ret) refl) refl) in
          rw (labels l, rest) refl

      row_passes : (l : ℕ) (s : Shape) → IsSound s → list_all q (row_routine l (row_of us s)) ≡ true
      row_passes l s h = by_test (stands_once us s)
        where
          by_test : (b : Bool) → list_all q (if b then shape_routine l s else []) ≡ true
          by_test true = ap (list_all q) (h.is l) ∙ routine_passes l h.body h.fit
          by_test false = refl

      pub routines_pass : (first : ℕ) (shapes : List Shape) → AllByRecursion IsSound shapes
          → list_all q (routines_among first (rows shapes)) ≡ true
      routines_pass first [] h = refl
      routines_pass first (s ∷ shapes) h =
          joined q (row_routine first (row_of us s)) (routines_among (first + 1) (rows shapes)) (row_passes first s h.0)
          (routines_pass (first + 1) shapes h.1)

    -- how often a label stands there
    routine_places : (x l : ℕ) (body : List AsmItem) → Fit sizes body → count_by (is_label x) (routine_code l body) ≡ cond (l == x) 1 0
    routine_places x l body h =
        let one = joined_count x (Label l ∷ []) (body ++ Plain Ret ∷ []) in
        let two = joined_count x body (Plain Ret ∷ []) in
        let none = place_none sizes x body h in
        omega (arith, one, two, none)

    row_places : (x l : ℕ) (s : Shape) → IsSound s
        → count_by (is_label x) (row_routine l (row_of us s)) ≡ (if stands_once us s then cond (l == x) 1 0 else 0)
    row_places x l s h = by_test (stands_once us s)
      where
        by_test : (b : Bool) → count_by (is_label x) (if b then shape_routine l s else []) ≡ (if b then cond (l == x) 1 0 else 0)
        by_test true = ap (count_by (is_label x)) (h.is l) ∙ routine_places x l h.body h.fit
        by_test false = refl

    -- none where it is no label of theirs
    row_none : (x l : ℕ) (s : Shape) → IsSound s → (l == x) ≡ false → count_by (is_label x) (row_routine l (row_of us s)) ≡ 0
    row_none x l s h e = row_places x l s h ∙ by_test (stands_once us s)
      where
        by_test : (b : Bool) → ◌≡◌ {A = ℕ} (if b then cond (l == x) 1 0 else 0) 0
        by_test true = rw e refl
        by_test false = refl

    pub none_below : (x first : ℕ) (shapes : List Shape) → AllByRecursion IsSound shapes → x < first
        → count_by (is_label x) (routines_among first (rows shapes)) ≡ 0
    none_below x first [] h l = refl
    none_below x first (s ∷ shapes) h l =
        let q : (first == x) ≡ false = grind (arith, nat_tests) in
        let here = row_none x first s h.0 q in
        let rest = none_below x (first + 1) shapes h.1 (omega arith) in
        joined_count x (row_routine first (row_of us s)) (routines_among (first + 1) (rows shapes)) ∙ rw (here, rest) refl

    pub label_least : (x first : ℕ) (shapes : List Shape) (s : Shape) → label_among first (rows shapes) s ≡ Some x → first ≤ x
    label_least x first [] s e = absurd cc
    label_least x first (r ∷ shapes) s e = by_test (same_shape r s) e (λ q. label_least x (first + 1) shapes s q)
      where
        by_once : (b : Bool) → label_where b first ≡ Some x → first ≤ x
        by_once true q = let z : first ≡ x = cc in omega (arith, z)
        by_once false q = absurd cc

        by_test : (b : Bool) → (if b then label_where (stands_once us r) first else label_among (first + 1) (rows shapes) s) ≡ Some x
            → (label_among (first + 1) (rows shapes) s ≡ Some x → first + 1 ≤ x) → first ≤ x
        by_test true q rest = by_once (stands_once us r) q
        by_test false q rest = let z = rest q in omega (arith, z)

    -- once where it is the label of a shape's routine
    pub label_once : (x first : ℕ) (shapes : List Shape) (s : Shape) → AllByRecursion IsSound shapes
        → label_among first (rows shapes) s ≡ Some x → count_by (is_label x) (routines_among first (rows shapes)) ≡ 1
    label_once x first [] s h e = absurd cc
    label_once x first (r ∷ shapes) s h e = by_test (same_shape r s) e (λ q. label_once x (first + 1) shapes s h.1 q)
      where
        parts : count_by (is_label x) (routines_among first (rows (r ∷ shapes)))
            ≡ count_by (is_label x) (row_routine first (row_of us r)) + count_by (is_label x) (routines_among (first + 1) (rows shapes))
        parts = joined_count x (row_routine first (row_of us r)) (routines_among (first + 1) (rows shapes))

        by_once : (b : Bool) → stands_once us r ≡ b → label_where b first ≡ Some x
            → count_by (is_label x) (routines_among first (rows (r ∷ shapes))) ≡ 1
        by_once true o q =
            let z : first ≡ x = cc in
            let same : (first == x) ≡ true = grind (arith, nat_tests) in
            let here : count_by (is_label x) (row_routine first (row_of us r)) ≡ 1 = row_places x first r h.0 ∙ rw (o, same) refl in
            let rest = none_below x (first + 1) shapes h.1 (omega (arith, z)) in
            parts ∙ rw (here, rest) refl
        by_once false o q = absurd cc

        by_test : (b : Bool) → (if b then label_where (stands_once us r) first else label_among (first + 1) (rows shapes) s) ≡ Some x
            → (label_among (first + 1) (rows shapes) s ≡ Some x
            → count_by (is_label x) (routines_among (first + 1) (rows shapes)) ≡ 1)
            → count_by (is_label x) (routines_among first (rows (r ∷ shapes))) ≡ 1
        by_test true q rest = by_once (stands_once us r) refl q
        by_test false q rest =
            let least = label_least x (first + 1) shapes s q in
            let other : (first == x) ≡ false = grind (arith, nat_tests) in
            let here = row_none x first r h.0 other in
            let one = rest q in
            parts ∙ rw (here, one) refl
