-- The words of the code of all functions and of the routines that they call: within what operations count by shapes.
use Rattle.std.proofs.Common.{◌≡◌, ℕ, ◌+◌, ◌==◌, Bool, true, false, List, [], ◌∷◌, ◌++◌, refl, sym, ap, ◌∙◌, subst}
use Rattle.std.proofs.Common.{arith, map}
use Rattle.std.specs.Prelude.{⊤, ◌||◌, nat_lt, Option, Some, None, if◌then◌else◌}
use Rattle.std.proofs.lemmas.Bool.{false≢true, le-ltb}
use Rattle.ec_asm.specs.declared.items.AsmItem.{AsmItem}
use Rattle.ec_asm.specs.declared.items.AsmItem.TheVariants.{Plain, Label, CallTo}
use Rattle.ec_asm.specs.declared.pieces.Location.{Location}
use Rattle.ec_asm.specs.Items.{code_words}
use Rattle.ec_asm.specs.Pieces.{copy_code}
use Rattle.ec_isa.specs.declared.instructions.Instr.TheVariants.{Ret}
use Rattle.ec_core_shapes.specs.Shapes.{Shape, same_shape}
use Rattle.ec_core_shapes.proofs.Told.{shapes_told}
use Rattle.ec_shapes.specs.Shapes.{total, has, shapes_of}
use Rattle.ec_shapes.proofs.Sums.{total_joined}
use Rattle.ec_ir.specs.declared.operations.Temp.{Temp}
use Rattle.ec_ir.specs.Operations.{PlainIr}
use Rattle.ec_ir.specs.Operations.{binary_op, unary_op, conversion}
use Rattle.ec_select_routines.specs.Codes.{first_place, second_place, call_with_one, call_with_two}
use Rattle.ec_select_routines.specs.Sizes.{of_shape}
use Rattle.ec_select_operations.specs.Code.{called_code}
use Rattle.ec_select_operations.specs.Code.{answer_code, answer_location}
use Rattle.ec_select_operations.specs.Routines.{routine_body, routine_with}
use Rattle.ec_select.specs.Sharing.{shape_of, operation_of, shape_routine, Use}
use Rattle.ec_select.specs.Sharing.{sizes, stands_once, used_shapes, row_of, rows_of, label_where}
use Rattle.ec_select.specs.Sharing.{label_among, row_routine, routines_among}
use Rattle.ec_select.proofs.Words.{joined_words}

-- ---- which shapes have a label

-- a label is told where a shape stands once, and none where it does not
abbrev pub IsTold : Option ℕ → Bool → Type 0
IsTold (Some l) true = ⊤
IsTold None false = ⊤
IsTold (Some l) false = ⊥
IsTold None true = ⊥

where_told : (once : Bool) (l : ℕ) → IsTold (label_where once l) once
where_told true l = tt
where_told false l = tt

or_none : (x y : Bool) → (x || y) ≡ false → (x ≡ false) × (y ≡ false)
or_none true y h = absurd (false≢true (sym h))
or_none false y h = (refl, h)

-- a shape that is not used
none_used : (us : List Use) (g : Use → ℕ) (s : Shape) → has same_shape (map sizes.shape us) s ≡ false
    → of_shape same_shape sizes.shape g us s ≡ 0
none_used [] g s h = refl
none_used (u ∷ us) g s h =
    let parts = or_none (same_shape (shape_of u.operation) s) (has same_shape (map sizes.shape us) s) h in
    let r = none_used us g s parts.1 in
    by_test (same_shape (shape_of u.operation) s) parts.0 (of_shape same_shape sizes.shape g us s) r
  where
    by_test : (x : Bool) → x ≡ false → (n : ℕ) → n ≡ 0 → (if x then g u else 0) + n ≡ 0
    by_test true e n r = absurd (false≢true (sym e))
    by_test false e n r = omega (arith, r)

never_once : (us : List Use) (s : Shape) → has same_shape (map sizes.shape us) s ≡ false → stands_once us s ≡ false
never_once us s h =
    ap (λ n. nat_lt (sizes.routine s + of_shape same_shape sizes.shape sizes.call us s) n) (none_used us sizes.own s h)
    ∙ le-ltb (sizes.routine s + of_shape same_shape sizes.shape sizes.call us s) 0 (omega arith)

-- the shapes that are used, each once
has_last : (ss : List Shape) (k s : Shape) → has same_shape (ss ++ k ∷ []) s ≡ (has same_shape ss s || same_shape k s)
has_last [] k s = by_test (same_shape k s) where
  by_test : (x : Bool) → (x || false) ≡ x
  by_test true = refl
  by_test false = refl
has_last (z ∷ ss) k s =
    by_test (same_shape z s) (has same_shape (ss ++ k ∷ []) s) (has same_shape ss s) (same_shape k s) (has_last ss k s)
  where
    by_test : (x y z w : Bool) → y ≡ (z || w) → (x || y) ≡ ((x || z) || w)
    by_test true y z w e = refl
    by_test false y z w e = e

used_has : (us : List Use) (s : Shape) → has same_shape (used_shapes us) s ≡ has same_shape (map sizes.shape us) s
used_has [] s = refl
used_has (u ∷ us) s =
    by_place (has same_shape (used_shapes us) (shape_of u.operation)) refl (used_has us s)
  where
    turned : (x y : Bool) → (x || y) ≡ (y || x)
    turned true true = refl
    turned true false = refl
    turned false true = refl
    turned false false = refl

    -- a shape that is there is the same as another one
    there : (x : Bool) → same_shape (shape_of u.operation) s ≡ x → has same_shape (used_shapes us) (shape_of u.operation) ≡ true
        → has same_shape (used_shapes us) s ≡ has same_shape (map sizes.shape us) s
        → has same_shape (used_shapes us) s ≡ (x || has same_shape (map sizes.shape us) s)
    there true t h r =
        let e : shape_of u.operation ≡ s = shapes_told.one (shape_of u.operation) s t in
        sym (ap (λ z. has same_shape (used_shapes us) z) e) ∙ h
    there false t h r = r

    by_place : (x : Bool) → has same_shape (used_shapes us) (shape_of u.operation) ≡ x
        → has same_shape (used_shapes us) s ≡ has same_shape (map sizes.shape us) s
        → has same_shape (if x then used_shapes us else used_shapes us ++ shape_of u.operation ∷ []) s
        ≡ (same_shape (shape_of u.operation) s || has same_shape (map sizes.shape us) s)
    by_place true h r = there (same_shape (shape_of u.operation) s) refl h r
    by_place false h r =
        has_last (used_shapes us) (shape_of u.operation) s
        ∙ ap (λ x. x || same_shape (shape_of u.operation) s) r
        ∙ turned (has same_shape (map sizes.shape us) s) (same_shape (shape_of u.operation) s)

told_among : (us : List Use) (first : ℕ) (ss : List Shape) (s : Shape) → has same_shape ss s ≡ true
    → IsTold (label_among first (map (row_of us) ss) s) (stands_once us s)
told_among us first [] s h = absurd (false≢true h)
told_among us first (z ∷ ss) s h =
    by_test (same_shape z s) refl h (λ q. told_among us (first + 1) ss s q)
  where
    by_test : (x : Bool) → same_shape z s ≡ x → (x || has same_shape ss s) ≡ true
        → (has same_shape ss s ≡ true → IsTold (label_among (first + 1) (map (row_of us) ss) s) (stands_once us s))
        → IsTold (if x then label_where (stands_once us z) first else label_among (first + 1) (map (row_of us) ss) s) (stands_once us s)
    by_test true t q r =
        subst (λ w. IsTold (label_where (stands_once us z) first) (stands_once us w)) (shapes_told.one z s t)
        (where_told (stands_once us z) first)
    by_test false t q r = r q

none_among : (us : List Use) (first : ℕ) (ss : List Shape) (s : Shape) → has same_shape ss s ≡ false
    → label_among first (map (row_of us) ss) s ≡ None
none_among us first [] s h = refl
none_among us first (z ∷ ss) s h =
    let parts = or_none (same_shape z s) (has same_shape ss s) h in
    by_test (same_shape z s) parts.0 (none_among us (first + 1) ss s parts.1)
  where
    by_test : (x : Bool) → x ≡ false → label_among (first + 1) (map (row_of us) ss) s ≡ None
        → (if x then label_where (stands_once us z) first else label_among (first + 1) (map (row_of us) ss) s) ≡ None
    by_test true e r = absurd (false≢true (sym e))
    by_test false e r = r

pub told : (us : List Use) (first : ℕ) (s : Shape) → IsTold (label_among first (rows_of us) s) (stands_once us s)
told us first s = by_place (has same_shape (used_shapes us) s) refl where
  by_place : (x : Bool) → has same_shape (used_shapes us) s ≡ x → IsTold (label_among first (rows_of us) s) (stands_once us s)
  by_place true h = told_among us first (used_shapes us) s h
  by_place false h =
      let a = none_among us first (used_shapes us) s h in
      let b = never_once us s (sym (used_has us s) ∙ h) in
      subst (λ x. IsTold x (stands_once us s)) (sym a) (subst (λ x. IsTold None x) (sym b) tt)

-- ---- labels have no words

answered : (c d : List AsmItem) (to : Location) (n : ℕ) → code_words c ≡ code_words d
    → code_words (answer_code c to n) ≡ code_words (answer_code d to n)
answered c d to n e = by_count (n == 0) where
  by_count : (none : Bool) → code_words (if none then [] else c ++ copy_code answer_location to n)
      ≡ code_words (if none then [] else d ++ copy_code answer_location to n)
  by_count true = refl
  by_count false =
      omega (arith, joined_words c (copy_code answer_location to n), joined_words d (copy_code answer_location to n), e)

pub call_alike : (at : Temp → Location) (l n : ℕ) (i : PlainIr)
    → code_words (called_code at l n i) ≡ code_words (called_code at 0 n i)
call_alike at l n (binary_op op ty mode to a aty b bty) =
    answered (call_with_two (at a) (at b) a.bytes b.bytes l) (call_with_two (at a) (at b) a.bytes b.bytes 0) (at to) n
    (omega (
      arith,
      joined_words (copy_code (at a) first_place a.bytes) (copy_code (at b) second_place b.bytes ++ CallTo l ∷ []),
      joined_words (copy_code (at b) second_place b.bytes) (CallTo l ∷ []),
      joined_words (copy_code (at a) first_place a.bytes) (copy_code (at b) second_place b.bytes ++ CallTo 0 ∷ []),
      joined_words (copy_code (at b) second_place b.bytes) (CallTo 0 ∷ []),
    ))
call_alike at l n (unary_op op ty mode to a) =
    answered (call_with_one (at a) a.bytes l) (call_with_one (at a) a.bytes 0) (at to) n
    (omega (
      arith,
      joined_words (copy_code (at a) first_place a.bytes) (CallTo l ∷ []),
      joined_words (copy_code (at a) first_place a.bytes) (CallTo 0 ∷ []),
    ))
call_alike at l n (conversion to ty mode a aty) =
    answered (call_with_one (at a) a.bytes l) (call_with_one (at a) a.bytes 0) (at to) n
    (omega (
      arith,
      joined_words (copy_code (at a) first_place a.bytes) (CallTo l ∷ []),
      joined_words (copy_code (at a) first_place a.bytes) (CallTo 0 ∷ []),
    ))
call_alike at l n i = refl

routine_alike : (l : ℕ) (body : Option (List AsmItem)) → code_words (routine_with l body) ≡ code_words (routine_with 0 body)
routine_alike l None = refl
routine_alike l (Some body) =
    omega (
      arith,
      joined_words (Label l ∷ []) (body ++ Plain Ret ∷ []),
      joined_words (Label 0 ∷ []) (body ++ Plain Ret ∷ []),
    )

-- ---- routines

row_words : (us : List Use) (l : ℕ) (s : Shape)
    → code_words (row_routine l (row_of us s)) ≡ (if stands_once us s then sizes.routine s else 0)
row_words us l s = by_test (stands_once us s) where
  by_test : (once : Bool) → code_words (if once then shape_routine l s else []) ≡ (if once then code_words (shape_routine 0 s) else 0)
  by_test true = routine_alike l (routine_body (operation_of s))
  by_test false = refl

pub routines_are : (us : List Use) (first : ℕ) (ss : List Shape)
    → code_words (routines_among first (map (row_of us) ss)) ≡ total (λ s. if stands_once us s then sizes.routine s else 0) ss
routines_are us first [] = refl
routines_are us first (s ∷ ss) =
    let a = row_words us first s in
    let b = routines_are us (first + 1) ss in
    let c = joined_words (row_routine first (row_of us s)) (routines_among (first + 1) (map (row_of us) ss)) in
    sums (code_words (row_routine first (row_of us s))) (code_words (routines_among (first + 1) (map (row_of us) ss)))
    (if stands_once us s then sizes.routine s else 0) (total (λ s. if stands_once us s then sizes.routine s else 0) ss)
    (code_words (row_routine first (row_of us s) ++ routines_among (first + 1) (map (row_of us) ss))) a b c
  where
    sums : (a b x y both : ℕ) → a ≡ x → b ≡ y → both ≡ a + b → both ≡ x + y
    sums a b x y both e f g = omega (arith, e, f, g)

-- the sum over the shapes does not depend on their order
pub each_once : (g : Shape → ℕ) (us : List Use) → total g (used_shapes us) ≡ total g (shapes_of same_shape (map sizes.shape us))
each_once g [] = refl
each_once g (u ∷ us) =
    by_tests (has same_shape (used_shapes us) (shape_of u.operation)) (has same_shape (map sizes.shape us) (shape_of u.operation))
    (used_has us (shape_of u.operation)) (each_once g us)
  where
    by_tests : (x y : Bool) → x ≡ y → total g (used_shapes us) ≡ total g (shapes_of same_shape (map sizes.shape us))
        → total g (if x then used_shapes us else used_shapes us ++ shape_of u.operation ∷ [])
        ≡ total g (if y then shapes_of same_shape (map sizes.shape us)
        else shape_of u.operation ∷ shapes_of same_shape (map sizes.shape us))
    by_tests true true e r = r
    by_tests false false e r = let a = total_joined g (used_shapes us) (shape_of u.operation ∷ []) in omega (arith, a, r)
    by_tests true false e r = absurd (false≢true (sym e))
    by_tests false true e r = absurd (false≢true e)
