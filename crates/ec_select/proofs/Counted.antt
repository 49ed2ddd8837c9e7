-- How often labels stand in the code of a program.
use Rattle.std.proofs.Common.{◌≡◌, ◌≢◌, ◌⊎◌, ℕ, zero, suc, ◌+◌, ◌-◌, ◌<◌, ◌≤◌, ◌==◌, Bool, true, false, List, [], ◌∷◌}
use Rattle.std.proofs.Common.{◌++◌, refl, sym, ◌∙◌, subst, arith, inl, inr, length}
use Rattle.std.specs.Prelude.{cond, count_by, nat_lt, Option, Some, None, slice_get}
use Rattle.std.specs.List.{list_all, AllByRecursion}
use Rattle.std.proofs.lemmas.Bool.{eqb-true}
use Rattle.std.proofs.lemmas.Bool.Decides.{nat_tests}
use Rattle.std.proofs.lemmas.List.Folds.{sum_by-zero}
use Rattle.std.proofs.lemmas.List.Sums.{sum_by-append}
use Rattle.std.proofs.lemmas.Option.{slice_get_within}
use Rattle.ec_space.specs.declared.Core.{Core}
use Rattle.ec_asm.specs.declared.items.AsmItem.{AsmItem}
use Rattle.ec_asm.specs.declared.items.AsmItem.TheVariants.{Label}
use Rattle.ec_asm.specs.Items.{chain}
use Rattle.ec_asm.specs.Valid.{is_label}
use Rattle.ec_core.specs.TypeLaws.{LeavesFillTheirTypes}
use Rattle.ec_ir.specs.Operations.{PlainIr, constant, copy, address, field, load_at, store_at, load_object}
use Rattle.ec_ir.specs.Operations.{store_object, binary_op, unary_op, conversion, label, jump, branch_zero}
use Rattle.ec_ir.specs.Operations.{call_function, return_from, port_in, port_out, load_cell, store_cell, cell_port}
use Rattle.ec_ir.specs.Operations.{PlainIrFunction, PlainIrProgram}
use Rattle.ec_ir.specs.Operations.{data_of}
use Rattle.ec_ir.specs.Valid.{count, called_in}
use Rattle.ec_select_operations.specs.declared.families.Told.{Told}
use Rattle.ec_ir_known.specs.declared.known.RightNumber.{RightNumber}
use Rattle.ec_select_operations.specs.Code.{Linkage, op_code, needed_behind, tells_next, ops_code}
use Rattle.ec_select_functions.specs.Covered.{IsCovered, AreCovered}
use Rattle.ec_select_operations.specs.Homes.{home}
use Rattle.ec_select_functions.proofs.Cells.{UsesCells, functions_use}
use Rattle.ec_select_functions.specs.Laws.{linkage_of}
use Rattle.ec_select_operations.specs.Needs.{Need, Facts, facts_of, needs}
use Rattle.ec_select_operations.specs.Pointers.{has_tables}
use Rattle.ec_select.specs.Labels.{label_count, function_label, first_label}
use Rattle.ec_select.specs.Program.{made_with, code_of, functions_code}
use Rattle.ec_select.specs.Selected.{ValidWithCells, HasCode}
use Rattle.ec_select.specs.Sharing.{routine_of}
use Rattle.ec_select.proofs.Fitting.{fits, no_label}
use Rattle.ec_select.proofs.OneOperation.{ItemLaws, operation_passes, AcceptsLabels}
use Rattle.ec_select.proofs.Setting.{own_sizes, has_room, objects_fit}

-- ---- labels of operations

-- the labels of the items of an operation that are this one
abbrev pub placed_by : ℕ → (ℕ → ℕ) → PlainIr → ℕ
placed_by x label_of (label l) = cond (label_of l == x) 1 0
placed_by x label_of i = 0

abbrev pub placed_in : ℕ → (ℕ → ℕ) → List PlainIr → ℕ
placed_in x label_of [] = 0
placed_in x label_of (i ∷ code) = placed_by x label_of i + placed_in x label_of code

pub joined_count : (x : ℕ) (a b : List AsmItem) → count_by (is_label x) (a ++ b) ≡ count_by (is_label x) a + count_by (is_label x) b
joined_count x a b = sum_by-append (λ i. cond (is_label x i) 1 0) a b

-- a label above all that stand in some operations
none_above : (m : ℕ) (code : List PlainIr) → label_count code ≤ m → count m code ≡ 0
none_above m [] h = refl
none_above m (label l ∷ code) h =
    let r = none_above m code (omega arith) in let q : (l == m) ≡ false = grind (arith, nat_tests) in rw (q, r) refl
none_above m (constant t n ∷ code) h = none_above m code (omega arith)
none_above m (copy to from ∷ code) h = none_above m code (omega arith)
none_above m (address t o offset ∷ code) h = none_above m code (omega arith)
none_above m (field ptr space offset ∷ code) h = none_above m code (omega arith)
none_above m (load_at to ptr space ∷ code) h = none_above m code (omega arith)
none_above m (store_at ptr space from ∷ code) h = none_above m code (omega arith)
none_above m (load_object t o offset ∷ code) h = none_above m code (omega arith)
none_above m (store_object o offset t ∷ code) h = none_above m code (omega arith)
none_above m (binary_op op ty mode to a aty b bty ∷ code) h = none_above m code (omega arith)
none_above m (unary_op op ty mode to a ∷ code) h = none_above m code (omega arith)
none_above m (conversion to ty mode a aty ∷ code) h = none_above m code (omega arith)
none_above m (jump l ∷ code) h = none_above m code (omega arith)
none_above m (branch_zero t l ∷ code) h = none_above m code (omega arith)
none_above m (call_function f to ∷ code) h = none_above m code (omega arith)
none_above m (return_from from ∷ code) h = none_above m code (omega arith)
none_above m (port_in to port index width ∷ code) h = none_above m code (omega arith)
none_above m (port_out from port index width ∷ code) h = none_above m code (omega arith)
none_above m (load_cell to cell ∷ code) h = none_above m code (omega arith)
none_above m (store_cell cell from ∷ code) h = none_above m code (omega arith)
none_above m (cell_port read t cell offset index width ∷ code) h = none_above m code (omega arith)

-- labels of items for those of a function stand in a row
same_label : (base l m : ℕ) → (base + l == base + m) ≡ (l == m)
same_label base l m = grind (arith, nat_tests)

placed_is : (base m : ℕ) (code : List PlainIr) → placed_in (base + m) (λ l. base + l) code ≡ count m code
placed_is base m [] = refl
placed_is base m (label l ∷ code) = rw (same_label base l m, placed_is base m code) refl
placed_is base m (constant t n ∷ code) = rw (placed_is base m code) (omega arith)
placed_is base m (copy to from ∷ code) = rw (placed_is base m code) (omega arith)
placed_is base m (address t o offset ∷ code) = rw (placed_is base m code) (omega arith)
placed_is base m (field ptr space offset ∷ code) = rw (placed_is base m code) (omega arith)
placed_is base m (load_at to ptr space ∷ code) = rw (placed_is base m code) (omega arith)
placed_is base m (store_at ptr space from ∷ code) = rw (placed_is base m code) (omega arith)
placed_is base m (load_object t o offset ∷ code) = rw (placed_is base m code) (omega arith)
placed_is base m (store_object o offset t ∷ code) = rw (placed_is base m code) (omega arith)
placed_is base m (binary_op op ty mode to a aty b bty ∷ code) = rw (placed_is base m code) (omega arith)
placed_is base m (unary_op op ty mode to a ∷ code) = rw (placed_is base m code) (omega arith)
placed_is base m (conversion to ty mode a aty ∷ code) = rw (placed_is base m code) (omega arith)
placed_is base m (jump l ∷ code) = rw (placed_is base m code) (omega arith)
placed_is base m (branch_zero t l ∷ code) = rw (placed_is base m code) (omega arith)
placed_is base m (call_function f to ∷ code) = rw (placed_is base m code) (omega arith)
placed_is base m (return_from from ∷ code) = rw (placed_is base m code) (omega arith)
placed_is base m (port_in to port index width ∷ code) = rw (placed_is base m code) (omega arith)
placed_is base m (port_out from port index width ∷ code) = rw (placed_is base m code) (omega arith)
placed_is base m (load_cell to cell ∷ code) = rw (placed_is base m code) (omega arith)
placed_is base m (store_cell cell from ∷ code) = rw (placed_is base m code) (omega arith)
placed_is base m (cell_port read t cell offset index width ∷ code) = rw (placed_is base m code) (omega arith)

-- a label below the row is none of them
by_below : (x base : ℕ) (i : PlainIr) → x < base → placed_by x (λ l. base + l) i ≡ 0
by_below x base (label l) h = let q : (base + l == x) ≡ false = grind (arith, nat_tests) in rw q refl
by_below x base (constant t n) h = refl
by_below x base (copy to from) h = refl
by_below x base (address t o offset) h = refl
by_below x base (field ptr space offset) h = refl
by_below x base (load_at to ptr space) h = refl
by_below x base (store_at ptr space from) h = refl
by_below x base (load_object t o offset) h = refl
by_below x base (store_object o offset t) h = refl
by_below x base (binary_op op ty mode to a aty b bty) h = refl
by_below x base (unary_op op ty mode to a) h = refl
by_below x base (conversion to ty mode a aty) h = refl
by_below x base (jump l) h = refl
by_below x base (branch_zero t l) h = refl
by_below x base (call_function f to) h = refl
by_below x base (return_from from) h = refl
by_below x base (port_in to port index width) h = refl
by_below x base (port_out from port index width) h = refl
by_below x base (load_cell to cell) h = refl
by_below x base (store_cell cell from) h = refl
by_below x base (cell_port read t cell offset index width) h = refl

placed_below : (x base : ℕ) (code : List PlainIr) → x < base → placed_in x (λ l. base + l) code ≡ 0
placed_below x base [] h = refl
placed_below x base (i ∷ code) h = rw (by_below x base i h, placed_below x base code h) refl

-- ---- one after another

are_same : (n f : ℕ) → (n ≡ f) ⊎ (n ≢ f)
are_same n f = by_test (n == f) refl where
  by_test : (same : Bool) → (n == f) ≡ same → (n ≡ f) ⊎ (n ≢ f)
  by_test true e = inl (eqb-true n f e)
  by_test false e = inr (λ q. let r : (n == f) ≡ true = grind (arith, nat_tests) in cc)

-- where one piece alone has a label, all of them together have it once
pub none_of : (x : ℕ) (body : ℕ → List AsmItem) (n : ℕ) → ((k : ℕ) → k < n → count_by (is_label x) (body k) ≡ 0)
    → count_by (is_label x) (chain body n) ≡ 0
none_of x body zero h = refl
none_of x body (suc n) h =
    joined_count x (chain body n) (body n) ∙ rw (none_of x body n (λ k l. h k (omega arith)), h n (omega arith)) refl

pub one_of : (x : ℕ) (body : ℕ → List AsmItem) (n f : ℕ) → f < n
    → ((k : ℕ) → k < n → k ≢ f → count_by (is_label x) (body k) ≡ 0) → count_by (is_label x) (body f) ≡ 1
    → count_by (is_label x) (chain body n) ≡ 1
one_of x body zero f l h one = absurd (omega arith)
one_of x body (suc n) f l h one =
    by_place (are_same n f) (λ m. one_of x body n f m (λ k q d. h k (omega arith) d) one) where
      parts : count_by (is_label x) (chain body (suc n)) ≡ count_by (is_label x) (chain body n) + count_by (is_label x) (body n)
      parts = joined_count x (chain body n) (body n)

      by_place : ((n ≡ f) ⊎ (n ≢ f)) → (f < n → count_by (is_label x) (chain body n) ≡ 1)
          → count_by (is_label x) (chain body (suc n)) ≡ 1
      by_place (inl e) before =
          let none = none_of x body n (λ k m. h k (omega arith) (λ q. absurd (omega arith))) in
          let here : count_by (is_label x) (body n) ≡ 1 = subst (λ k. count_by (is_label x) (body k) ≡ 1) (sym e) one in
          parts ∙ rw (none, here) refl
      by_place (inr e) before =
          let some = before (omega arith) in let here = h n (omega arith) e in parts ∙ rw (some, here) refl

-- ---- the labels of functions follow one another

pub first_label_grows : (functions : List PlainIrFunction) (f k : ℕ) (g : PlainIrFunction)
    → slice_get functions f ≡ Some g → f < k → first_label functions f + label_count g.code ≤ first_label functions k
first_label_grows functions f zero g e l = absurd (omega arith)
first_label_grows functions f (suc k) g e l =
    by_place (are_same f k) (λ m. first_label_grows functions f k g e m) where
      by_place : ((f ≡ k) ⊎ (f ≢ k)) → (f < k → first_label functions f + label_count g.code ≤ first_label functions k)
          → first_label functions f + label_count g.code ≤ first_label functions (suc k)
      by_place (inl q) before = rw (← q) (rw e (omega arith))
      by_place (inr m) before = let r = before (omega arith) in omega arith

pub first_label_above : (functions : List PlainIrFunction) (k : ℕ) → 1 + length functions ≤ first_label functions k
first_label_above functions zero = omega arith
first_label_above functions (suc k) = let r = first_label_above functions k in omega arith

-- ---- the functions of a program

module _ (core : Core) (p : PlainIrProgram) (valid : ValidWithCells p) (has : HasCode p) (leaves : LeavesFillTheirTypes)
    (pieces : ItemLaws) (tables : ℕ → ℕ → Need) where
  abbrev pub link : ℕ → PlainIrFunction → Linkage
  link f g = linkage_of core p function_label f g.slots (made_with p (routine_of core p tables) (tables f) f g)

  -- an item that fits is not the place of a label
  is_other : (x : ℕ) → AsmItem → Bool
  is_other x i = cond (is_label x i) 1 0 == 0

  fits_other : (x : ℕ) (i : AsmItem) → fits (own_sizes p valid) i ≡ true → is_other x i ≡ true
  unfolding is_other
  fits_other x i h = rw (no_label (own_sizes p valid) x i h) refl

  none_there : (x : ℕ) (items : List AsmItem) → list_all (is_other x) items ≡ true → count_by (is_label x) items ≡ 0
  unfolding is_other
  none_there x items h =
      eqb-true (count_by (is_label x) items) 0 (sum_by-zero (λ i. cond (is_label x i) 1 0) items ∙ h)

  others_pass : (x f : ℕ) (g : PlainIrFunction) → slice_get p.functions f ≡ Some g → (told telling : Option Told)
      (known : Option RightNumber)
      (need : Need)
      (i : PlainIr)
      → IsCovered (data_of p) has.results f (called_in g.code) g.slots i → UsesCells valid.0 i
      → AcceptsLabels (is_other x) (link f g) i
      → count_by (is_label x) (op_code (data_of p) (home (link f g).homes) (link f g) told telling known need i) ≡ 0
  unfolding is_other
  others_pass x f g e told telling known need i h u a =
      none_there x (op_code (data_of p) (home (link f g).homes) (link f g) told telling known need i)
      (operation_passes (own_sizes p valid) valid.0 (data_of p) (link f g) (has_room p valid f g e) (objects_fit p valid leaves) pieces
      (is_other x) (fits_other x) has.results f (called_in g.code) told telling known need i h u a (λ l q. refl))

  operation_places : (x f : ℕ) (g : PlainIrFunction) → slice_get p.functions f ≡ Some g → (told telling : Option Told)
      (known : Option RightNumber) (need : Need)
      (i : PlainIr)
      → IsCovered (data_of p) has.results f (called_in g.code) g.slots i → UsesCells valid.0 i
      → count_by (is_label x) (op_code (data_of p) (home (link f g).homes) (link f g) told telling known need i)
      ≡ placed_by x (link f g).label_of i
  unfolding is_other
  operation_places x f g e told telling known need (label l) h u = omega arith
  operation_places x f g e told telling known need (constant t n) h u = others_pass x f g e told telling known need (constant t n) h u tt
  operation_places x f g e told telling known need (copy to from) h u = others_pass x f g e told telling known need (copy to from) h u tt
  operation_places x f g e told telling known need (load_object t o offset) h u =
      others_pass x f g e told telling known need (load_object t o offset) h u tt
  operation_places x f g e told telling known need (store_object o offset t) h u =
      others_pass x f g e told telling known need (store_object o offset t) h u tt
  operation_places x f g e told telling known need (binary_op op ty mode to a aty b bty) h u =
      others_pass x f g e told telling known need (binary_op op ty mode to a aty b bty) h u tt
  operation_places x f g e told telling known need (unary_op op ty mode to a) h u =
      others_pass x f g e told telling known need (unary_op op ty mode to a) h u tt
  operation_places x f g e told telling known need (conversion to ty mode a aty) h u =
      others_pass x f g e told telling known need (conversion to ty mode a aty) h u tt
  operation_places x f g e told telling known need (return_from from) h u = others_pass x f g e told telling known need
      (return_from from) h u tt
  operation_places x f g e told telling known need (jump l) h u =
      others_pass x f g e told telling known need (jump l) h u (refl, λ set flag w. refl)
  operation_places x f g e told telling known need (branch_zero t l) h u =
      others_pass x f g e told telling known need (branch_zero t l) h u (λ set flag w. refl)
  operation_places x f g e told telling known need (call_function c to) h u = others_pass x f g e told telling known need
      (call_function c to) h u refl
  operation_places x f g e told telling known need (address t o offset) h u = others_pass x f g e told telling known need
      (address t o offset) h u tt
  operation_places x f g e told telling known need (field ptr space offset) h u =
      others_pass x f g e told telling known need (field ptr space offset) h u tt
  operation_places x f g e told telling known need (load_at to ptr space) h u = others_pass x f g e told telling known need
      (load_at to ptr space) h u tt
  operation_places x f g e told telling known need (store_at ptr space from) h u =
      others_pass x f g e told telling known need (store_at ptr space from) h u tt
  operation_places x f g e told telling known need (port_in to port index width) h u =
      others_pass x f g e told telling known need (port_in to port index width) h u tt
  operation_places x f g e told telling known need (port_out from port index width) h u =
      others_pass x f g e told telling known need (port_out from port index width) h u tt
  operation_places x f g e told telling known need (load_cell to cell) h u =
      others_pass x f g e told telling known need (load_cell to cell) h u tt
  operation_places x f g e told telling known need (store_cell cell from) h u =
      others_pass x f g e told telling known need (store_cell cell from) h u tt
  operation_places x f g e told telling known need (cell_port read t cell offset index width) h u =
      others_pass x f g e told telling known need (cell_port read t cell offset index width) h u tt

  code_places : (x f : ℕ) (g : PlainIrFunction) → slice_get p.functions f ≡ Some g → (at : Facts) (told : Option Told)
      (code : List PlainIr) → AreCovered (data_of p) has.results f (called_in g.code) g.slots code → AllByRecursion (UsesCells valid.0) code
      → count_by (is_label x) (ops_code (data_of p) (home (link f g).homes) (link f g) at told code)
      ≡ placed_in x (link f g).label_of code
  code_places x f g e at told [] h u = refl
  code_places x f g e at told (i ∷ code) h u =
      let next = tells_next core (data_of p) (home (link f g).homes) at told i code in
      let need = needed_behind at.needed (needs at code) i in
      let here = operation_places x f g e told next (at.known (i ∷ code)) need i h.0 u.0 in
      let rest = code_places x f g e at next code h.1 u.1 in
      joined_count x (op_code (data_of p) (home (link f g).homes) (link f g) told next (at.known (i ∷ code)) need i)
      (ops_code (data_of p) (home (link f g).homes) (link f g) at next code) ∙ rw (here, rest) refl

  function_places : (x f : ℕ) (g : PlainIrFunction) → slice_get p.functions f ≡ Some g
      → count_by (is_label x) (code_of core p (routine_of core p tables) (tables f) f (Some g))
      ≡ cond (1 + f == x) 1 0 + placed_in x (link f g).label_of g.code
  function_places x f g e =
      let at = facts_of (has_tables (data_of p).objects) (tables f) g.code in
      let rest = code_places x f g e at None g.code (has.functions f g e) (functions_use valid.0 p valid.1 f g e) in
      let ops = ops_code (data_of p) (home (link f g).homes) (link f g) at None g.code in
      let parts = joined_count x (Label (1 + f) ∷ []) ops in
      omega (arith, parts, rest)

  -- a function has no label that is not its own
  abbrev OwnNone : (x f : ℕ) → Option PlainIrFunction → Type 0
  OwnNone x f o = count_by (is_label x) (code_of core p (routine_of core p tables) (tables f) f o) ≡ 0

  no_start : (x f : ℕ) (g : PlainIrFunction) → slice_get p.functions f ≡ Some g → 1 + f ≢ x
      → placed_in x (link f g).label_of g.code ≡ 0 → OwnNone x f (Some g)
  no_start x f g e d none =
      let q : (1 + f == x) ≡ false = grind (arith, nat_tests) in function_places x f g e ∙ rw (q, none) refl

  -- ---- beginnings of functions, and what stands below all of them

  none_before : (x f : ℕ) → x < 1 + length p.functions → 1 + f ≢ x → (o : Option PlainIrFunction)
      → slice_get p.functions f ≡ o → OwnNone x f o
  none_before x f l d None e = refl
  none_before x f l d (Some g) e =
      let above = first_label_above p.functions f in
      no_start x f g e d (placed_below x (first_label p.functions f) g.code (omega arith))

  pub entry_is_apart : count_by (is_label 0) (functions_code core p tables (length p.functions)) ≡ 0
  entry_is_apart =
      none_of 0 (λ f. code_of core p (routine_of core p tables) (tables f) f (slice_get p.functions f)) (length p.functions)
      (λ k l. none_before 0 k (omega arith) (λ q. absurd (omega arith)) (slice_get p.functions k) refl)

  one_start : (f : ℕ) (g : PlainIrFunction) → slice_get p.functions f ≡ Some g
      → count_by (is_label (function_label f)) (code_of core p (routine_of core p tables) (tables f) f (Some g)) ≡ 1
  one_start f g e =
      let l = slice_get_within p.functions f g e in
      let above = first_label_above p.functions f in
      let q : (1 + f == 1 + f) ≡ true = grind (arith, nat_tests) in
      let none = placed_below (1 + f) (first_label p.functions f) g.code (omega arith) in
      function_places (1 + f) f g e ∙ rw (q, none) refl

  pub function_stands : (f : ℕ) (g : PlainIrFunction) → slice_get p.functions f ≡ Some g
      → count_by (is_label (function_label f)) (functions_code core p tables (length p.functions)) ≡ 1
  function_stands f g e =
      let l = slice_get_within p.functions f g e in
      one_of (1 + f) (λ k. code_of core p (routine_of core p tables) (tables k) k (slice_get p.functions k)) (length p.functions) f l
      (λ k m d. none_before (1 + f) k (omega arith) (λ q. d (omega arith)) (slice_get p.functions k) refl)
      (rw e (one_start f g e))

  -- ---- labels of functions

  none_beside : (f m k : ℕ) (g : PlainIrFunction) → slice_get p.functions f ≡ Some g → m < label_count g.code → k ≢ f
      → k < length p.functions → (o : Option PlainIrFunction) → slice_get p.functions k ≡ o
      → OwnNone (first_label p.functions f + m) k o
  none_beside f m k g e l d within None q = refl
  none_beside f m k g e l d within (Some h) q =
      let above = first_label_above p.functions f in
      no_start (first_label p.functions f + m) k h q (λ r. absurd (omega arith)) (by_order (ordered k f d)) where
        ordered : (a b : ℕ) → a ≢ b → (a < b) ⊎ (b < a)
        ordered a b n = by_test (nat_lt a b) refl where
          by_test : (less : Bool) → nat_lt a b ≡ less → (a < b) ⊎ (b < a)
          by_test true t = inl (grind (arith, nat_tests))
          by_test false t = inr (grind (arith, nat_tests))

        by_order : ((k < f) ⊎ (f < k))
            → placed_in (first_label p.functions f + m) (λ j. first_label p.functions k + j) h.code ≡ 0
        by_order (inl a) =
            let grows = first_label_grows p.functions k f h q a in
            let n = first_label p.functions f + m - first_label p.functions k in
            let w : first_label p.functions f + m ≡ first_label p.functions k + n = omega arith in
            rw w (placed_is (first_label p.functions k) n h.code ∙ none_above n h.code (omega arith))
        by_order (inr a) =
            let grows = first_label_grows p.functions f k g e a in
            placed_below (first_label p.functions f + m) (first_label p.functions k) h.code (omega arith)

  own_label : (f m : ℕ) (g : PlainIrFunction) → slice_get p.functions f ≡ Some g → count m g.code ≡ 1
      → count_by (is_label (first_label p.functions f + m)) (code_of core p (routine_of core p tables) (tables f) f (Some g)) ≡ 1
  own_label f m g e one =
      let l = slice_get_within p.functions f g e in
      let above = first_label_above p.functions f in
      let q : (1 + f == first_label p.functions f + m) ≡ false = grind (arith, nat_tests) in
      let some = placed_is (first_label p.functions f) m g.code ∙ one in
      function_places (first_label p.functions f + m) f g e ∙ rw (q, some) refl

  pub bounded : (m : ℕ) (code : List PlainIr) → count m code ≡ 1 → m < label_count code
  bounded m code one = by_test (nat_lt m (label_count code)) refl where
    by_test : (less : Bool) → nat_lt m (label_count code) ≡ less → m < label_count code
    by_test true t = grind (arith, nat_tests)
    by_test false t =
        let w : label_count code ≤ m = grind (arith, nat_tests) in
        let none = none_above m code w in absurd (omega (arith, none, one))

  pub label_stands : (f m : ℕ) (g : PlainIrFunction) → slice_get p.functions f ≡ Some g → count m g.code ≡ 1
      → count_by (is_label (first_label p.functions f + m)) (functions_code core p tables (length p.functions)) ≡ 1
  label_stands f m g e one =
      let l = slice_get_within p.functions f g e in
      one_of (first_label p.functions f + m) (λ k. code_of core p (routine_of core p tables) (tables k) k (slice_get p.functions k))
      (length p.functions) f l
      (λ k w d. none_beside f m k g e (bounded m g.code one) d w (slice_get p.functions k) refl) (rw e (own_label f m g e one))

  -- ---- labels behind those of all functions

  none_past : (x f : ℕ) → first_label p.functions (length p.functions) ≤ x → (o : Option PlainIrFunction)
      → slice_get p.functions f ≡ o → OwnNone x f o
  none_past x f l None e = refl
  none_past x f l (Some g) e =
      let within = slice_get_within p.functions f g e in
      let above = first_label_above p.functions (length p.functions) in
      let grows = first_label_grows p.functions f (length p.functions) g e within in
      let n = x - first_label p.functions f in
      let w : x ≡ first_label p.functions f + n = omega arith in
      no_start x f g e (λ q. absurd (omega arith))
      (subst (λ (k : ℕ). placed_in k (λ j. first_label p.functions f + j) g.code ≡ 0) (sym w)
      (placed_is (first_label p.functions f) n g.code ∙ none_above n g.code (omega arith)))

  pub routine_is_apart : (x : ℕ) → first_label p.functions (length p.functions) ≤ x
      → count_by (is_label x) (functions_code core p tables (length p.functions)) ≡ 0
  routine_is_apart x l =
      none_of x (λ f. code_of core p (routine_of core p tables) (tables f) f (slice_get p.functions f)) (length p.functions)
      (λ k m. none_past x k l (slice_get p.functions k) refl)

  -- a label of a function stands below them
  pub label_below : (f m : ℕ) (g : PlainIrFunction) → slice_get p.functions f ≡ Some g → count m g.code ≡ 1
      → first_label p.functions f + m < first_label p.functions (length p.functions)
  label_below f m g e one =
      let within = slice_get_within p.functions f g e in
      let grows = first_label_grows p.functions f (length p.functions) g e within in
      let few = bounded m g.code one in
      omega (arith, grows, few)
