-- Rows of shapes, and what holds of each of a list.
use Rattle.std.proofs.Common.{◌≡◌, ℕ, zero, suc, ◌+◌, ◌-◌, ◌<◌, ◌≤◌, true, false, List, [], ◌∷◌, ◌++◌, refl, sym, ◌∙◌, ap}
use Rattle.std.proofs.Common.{subst, arith, map, length, get_or, append_assoc}
use Rattle.std.specs.Prelude.{Option}
use Rattle.std.specs.List.{AllByRecursion}
use Rattle.ec_space.specs.declared.Core.{Core}
use Rattle.ec_core_shapes.specs.Shapes.{Shape, same_shape}
use Rattle.ec_select_routines.specs.Sizes.{of_shape}
use Rattle.ec_shapes.specs.Shapes.{has}
use Rattle.ec_core.specs.Plain.{PlainProgram}
use Rattle.ec_ir.specs.Operations.{PlainIr, PlainIrFunction, PlainIrProgram}
use Rattle.ec_ir_known.specs.declared.known.RightNumber.{RightNumber}
use Rattle.ec_select_operations.specs.Needs.{Need}
use Rattle.ec_select_operations.specs.declared.homes.Homes.{Homes}
use Rattle.ec_select.specs.declared.sharing.Row as measured_row
use Rattle.ec_select.specs.Seen.{plain_row}
use Rattle.ec_asm.specs.declared.items.AsmItem.{AsmItem}
use Rattle.ec_select.specs.Sharing.{Use, Row, row_of, shape_of, sizes, with_shape, used_shapes, uses_of, uses_in}
use Rattle.ec_select.specs.Sharing.{label_among, row_routine, routines_among, function_uses, uses_from}

-- ---- lists

pub all_read : {A B : Type 0} (f : A → B) (P : B → Type 0) (xs : List A) (k : ℕ) (x : A) → AllByRecursion P (map f xs)
    → k < length xs → x ≡ get_or xs k x → P (f x)
all_read f P [] k x h l e = absurd (omega arith)
all_read f P (y ∷ ys) zero x h l e = subst (λ z. P (f z)) (sym e) h.0
all_read f P (y ∷ ys) (suc k) x h l e = all_read f P ys k x h.1 (omega arith) e

pub all_last : {A B : Type 0} (f : A → B) (P : B → Type 0) (xs : List A) (k : ℕ) (x : A) → AllByRecursion P (map f xs)
    → 0 < k → k ≤ length xs → x ≡ get_or xs (k - 1) x → P (f x)
all_last f P xs k x h z l e = all_read f P xs (k - 1) x h (omega arith) e

pub all_more : {A B : Type 0} (f : A → B) (P : B → Type 0) (xs : List A) (x : A) → AllByRecursion P (map f xs) → P (f x)
    → AllByRecursion P (map f (xs ++ x ∷ []))
all_more f P [] x h k = (k, tt)
all_more f P (y ∷ ys) x h k = (h.0, all_more f P ys x h.1 k)

pub map_more : {A B : Type 0} (f : A → B) (xs : List A) (x : A) → map f (xs ++ x ∷ []) ≡ map f xs ++ f x ∷ []
map_more f [] x = refl
map_more f (y ∷ ys) x = ap (λ z. f y ∷ z) (map_more f ys x)

-- ---- sums over uses of a shape

pub with_use : (f : Use → ℕ) (u : Use) (s : Shape) (all rest : List Use) (n : ℕ) → all ≡ u ∷ rest
    → same_shape (shape_of u.operation) s ≡ true → n ≡ of_shape same_shape sizes.shape f rest s
    → f u + n ≡ of_shape same_shape sizes.shape f all s
with_use f u s all rest n d t e =
    ap (λ (m : ℕ). f u + m) e
    ∙ sym (ap (λ (us : List Use). of_shape same_shape sizes.shape f us s) d ∙ rw t refl)

pub without_use : (f : Use → ℕ) (u : Use) (s : Shape) (all rest : List Use) (n : ℕ) → all ≡ u ∷ rest
    → same_shape (shape_of u.operation) s ≡ false → n ≡ of_shape same_shape sizes.shape f rest s
    → n ≡ of_shape same_shape sizes.shape f all s
without_use f u s all rest n d t e =
    e ∙ sym (ap (λ (us : List Use). of_shape same_shape sizes.shape f us s) d ∙ rw t (omega arith))

-- ---- rows

pub shapes_back : (us : List Use) (shapes : List Shape) → map (λ (r : Row). r.shape) (map (row_of us) shapes) ≡ shapes
shapes_back us [] = refl
shapes_back us (s ∷ ss) = ap (λ z. s ∷ z) (shapes_back us ss)

-- what the rows of some shapes have
pub rows_have : (us : List Use) (rows : List Row) (shapes : List Shape) (s : Shape) → rows ≡ map (row_of us) shapes
    → has same_shape (map (λ (r : Row). r.shape) rows) s ≡ has same_shape shapes s
rows_have us rows shapes s e =
    ap (λ (xs : List Row). has same_shape (map (λ r. r.shape) xs) s) e
    ∙ ap (λ (xs : List Shape). has same_shape xs s) (shapes_back us shapes)

pub row_added : (us : List Use) (shapes : List Shape) (s : Shape) (r : measured_row.Row) (old new : List measured_row.Row)
    → new ≡ old ++ r ∷ [] → plain_row r ≡ row_of us s → has same_shape shapes s ≡ false
    → map plain_row old ≡ map (row_of us) shapes → map plain_row new ≡ map (row_of us) (with_shape shapes s)
row_added us shapes s r old new e q none h =
    let more : with_shape shapes s ≡ shapes ++ s ∷ [] = rw none refl in
    ap (map plain_row) e ∙ map_more plain_row old r ∙ (λ j. h j ++ q j ∷ []) ∙ sym (map_more (row_of us) shapes s)
    ∙ ap (map (row_of us)) (sym more)

pub used_more : (us all rest : List Use) (u : Use) (rows : List Row) → all ≡ u ∷ rest
    → rows ≡ map (row_of us) (with_shape (used_shapes rest) (shape_of u.operation))
    → rows ≡ map (row_of us) (used_shapes all)
used_more us all rest u rows d e = e ∙ ap (λ (xs : List Use). map (row_of us) (used_shapes xs)) (sym d)

-- ---- uses

pub one_use_more : (core : Core) (p : PlainProgram) (h : Homes) (n : ℕ) (number : Option RightNumber) (i : PlainIr)
    (wanted wanted' : List ℕ) (known known' : List (Option RightNumber)) (code code' : List PlainIr)
    (old new all : List Use) → wanted ≡ n ∷ wanted' → known ≡ number ∷ known' → code ≡ i ∷ code'
    → new ≡ old ++ uses_of core p h number n i
    → old ++ uses_in core p h wanted known code ≡ all → new ++ uses_in core p h wanted' known' code' ≡ all
one_use_more core p h n number i wanted wanted' known known' code code' old new all e s q more whole =
    ap (λ (x : List Use). x ++ uses_in core p h wanted' known' code') more
    ∙ append_assoc old (uses_of core p h number n i) (uses_in core p h wanted' known' code')
    ∙ sym (λ j. old ++ uses_in core p h (e j) (s j) (q j)) ∙ whole

-- ---- labels and routines

pub label_further : (first k : ℕ) (r : Row) (s : Shape) (rows rest : List Row) → rows ≡ r ∷ rest
    → same_shape r.shape s ≡ false → label_among (first + k) rows s ≡ label_among (first + (k + 1)) rest s
label_further first k r s rows rest d t =
    let next : first + k + 1 ≡ first + (k + 1) = omega arith in
    ap (λ (xs : List Row). label_among (first + k) xs s) d ∙ rw t refl ∙ ap (λ (n : ℕ). label_among n rest s) next

pub mapped_more : {A B : Type 0} (f : A → B) (all rest : List A) (x : A) (y : B) (old new whole : List B) → all ≡ x ∷ rest
    → y ≡ f x → new ≡ old ++ y ∷ [] → old ++ map f all ≡ whole → new ++ map f rest ≡ whole
mapped_more f all rest x y old new whole d q more h =
    ap (λ z. z ++ map f rest) more ∙ append_assoc old (y ∷ []) (map f rest)
    ∙ (λ j. old ++ q j ∷ map f rest) ∙ ap (λ z. old ++ map f z) (sym d) ∙ h

pub one_routine_more : (first k : ℕ) (r : Row) (rows rest : List Row) (old new whole : List AsmItem) → rows ≡ r ∷ rest
    → new ≡ old ++ row_routine (first + k) r → old ++ routines_among (first + k) rows ≡ whole
    → new ++ routines_among (first + (k + 1)) rest ≡ whole
one_routine_more first k r rows rest old new whole d more h =
    let next : first + (k + 1) ≡ first + k + 1 = omega arith in
    ap (λ (x : List AsmItem). x ++ routines_among (first + (k + 1)) rest) more
    ∙ append_assoc old (row_routine (first + k) r) (routines_among (first + (k + 1)) rest)
    ∙ ap (λ (n : ℕ). old ++ (row_routine (first + k) r ++ routines_among n rest)) next
    ∙ ap (λ (xs : List Row). old ++ routines_among (first + k) xs) (sym d) ∙ h

-- those of one function more
pub one_function_more : (core : Core) (p : PlainIrProgram) (tables : ℕ → ℕ → Need) (f : ℕ) (g : PlainIrFunction) (all rest : List PlainIrFunction)
    (old new whole : List Use) → all ≡ g ∷ rest → new ≡ old ++ function_uses core p (tables f) f g
    → old ++ uses_from core p tables f all ≡ whole → new ++ uses_from core p tables (f + 1) rest ≡ whole
one_function_more core p tables f g all rest old new whole d more h =
    ap (λ (x : List Use). x ++ uses_from core p tables (f + 1) rest) more
    ∙ append_assoc old (function_uses core p (tables f) f g) (uses_from core p tables (f + 1) rest)
    ∙ ap (λ (gs : List PlainIrFunction). old ++ uses_from core p tables f gs) (sym d) ∙ h
