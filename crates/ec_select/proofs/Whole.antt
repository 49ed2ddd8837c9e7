-- The code of a program can be placed.
use Rattle.std.proofs.Common.{◌≡◌, ℕ, zero, suc, ◌+◌, ◌<◌, ◌==◌, Bool, true, false, List, [], ◌∷◌, ◌++◌, refl, sym}
use Rattle.std.proofs.Common.{subst, arith, map, length}
use Rattle.std.specs.Prelude.{cond, count_by, if◌then◌else◌, Option, Some, None, slice_get}
use Rattle.std.specs.List.{list_all, AllByRecursion}
use Rattle.std.proofs.lemmas.Bool.Decides.{nat_tests}
use Rattle.std.proofs.lemmas.List.{length-map}
use Rattle.ec_space.specs.declared.Core.{Core}
use Rattle.ec_asm.specs.declared.items.AsmItem.{AsmItem}
use Rattle.ec_asm.specs.declared.items.AsmItem.TheVariants.{Label}
use Rattle.ec_asm.specs.declared.items.AsmProgram.{AsmProgram}
use Rattle.ec_asm.specs.Valid.{sizes_of, is_valid_item, used_label, is_label, stands_once, is_placed, ValidAsm}
use Rattle.ec_core.specs.TypeLaws.{LeavesFillTheirTypes}
use Rattle.ec_ir.specs.Operations.{PlainIr, constant, copy, address, field, load_at, store_at, load_object}
use Rattle.ec_ir.specs.Operations.{store_object, binary_op, unary_op, conversion, label, jump, branch_zero}
use Rattle.ec_ir.specs.Operations.{call_function, return_from, port_in, port_out, load_cell, store_cell, cell_port}
use Rattle.ec_ir.specs.Operations.{PlainIrFunction, PlainIrProgram}
use Rattle.ec_ir.specs.Operations.{data_of}
use Rattle.ec_ir.specs.Valid.{ValidOperation, count, called_in}
use Rattle.ec_select_functions.specs.Covered.{IsCovered}
use Rattle.ec_select_functions.proofs.Cells.{functions_use}
use Rattle.ec_select_operations.specs.Code.{Linkage}
use Rattle.ec_select_operations.specs.Needs.{Need, facts_of}
use Rattle.ec_select_operations.specs.Pointers.{has_tables}
use Rattle.ec_select_startup.specs.Laws.{StartupIsValid, StartupUsesMain, StartupPlacesNoLabel}
use Rattle.ec_select_startup.specs.Startup.{startup_code}
use Rattle.ec_select.specs.Labels.{entry_label, function_label, first_label}
use Rattle.ec_select.specs.Laws.{object_sizes, SelectionsAreValid}
use Rattle.ec_select.specs.Program.{spans_of, code_of, functions_code, program_code}
use Rattle.ec_select.specs.Selected.{ValidWithCells, HasCode}
use Rattle.ec_select.specs.Sharing.{Use, is_shaped, shape_of, program_uses, used_shapes, rows_of, label_among, routine_of}
use Rattle.ec_select.specs.Sharing.{routines_begin, routines_code}
use Rattle.ec_select.proofs.Fitting.{fits, joined, chained, valid_item, placed_item}
use Rattle.ec_select.proofs.OneOperation.{ItemLaws, AcceptsLabels, AllAccepted, operations_pass}
use Rattle.ec_select.proofs.Setting.{function_valid, own_sizes, has_room, objects_fit, spans_valid}
use Rattle.ec_select.proofs.Counted.{joined_count, first_label_above, link, entry_is_apart, function_stands}
use Rattle.ec_select.proofs.Counted.{label_stands, label_below, routine_is_apart}
use Rattle.ec_select.proofs.FixedItems.{FixedItemLaws}
use Rattle.ec_select.proofs.Linked.{each_use}
use Rattle.ec_select.proofs.Placing.{all_shapes, body_fits, IsSound, operation_sound, routines_pass, none_below, label_least}
use Rattle.ec_select.proofs.Placing.{label_once as routine_label_once}
use Rattle.ec_select.proofs.RoutineItems.{HasTypes, HasBody, has_routine, can_be_routine}
use Rattle.ec_select.proofs.Shaped.{one_shape}

-- what code needs of the crates below
pub record CodeLaws : Type 0 where
  pub leaves : LeavesFillTheirTypes
  pub pieces : ItemLaws
  pub items : StartupIsValid
  pub used : StartupUsesMain
  pub placed : StartupPlacesNoLabel

-- the routine of an operation of a program
module _ (p : PlainIrProgram) (valid : ValidWithCells p) (has : HasCode p) where
  pub types_of : (f : ℕ) (g : PlainIrFunction) (i : PlainIr) → ValidOperation valid.0 p valid.1.results f g.slots g.code i
      → HasTypes i
  types_of f g (binary_op op ty mode to a aty b bty) v = v.3
  types_of f g i v = tt

  pub body_of : (f : ℕ) (g : PlainIrFunction) (i : PlainIr)
      → IsCovered (data_of p) has.results f (called_in g.code) g.slots i → ValidOperation valid.0 p valid.1.results f g.slots g.code i
      → is_shaped i ≡ true → HasBody i
  body_of f g i c v s =
      let one = one_shape i s in
      has_routine (data_of p) has.results f (called_in g.code) g.slots i one.0 c (types_of f g i v) one.1

  pub sound : FixedItemLaws → (f : ℕ) (g : PlainIrFunction) (i : PlainIr) → slice_get p.functions f ≡ Some g
      → IsCovered (data_of p) has.results f (called_in g.code) g.slots i → ValidOperation valid.0 p valid.1.results f g.slots g.code i
      → is_shaped i ≡ true → IsSound (own_sizes p valid) (shape_of i)
  sound fixed f g i e c v s =
      let body = body_of f g i c v s in
      operation_sound (own_sizes p valid) i body.0 s body.1
      (body_fits (own_sizes p valid) fixed (has_room p valid f g e).work i body.0
      (can_be_routine (data_of p) has.results f (called_in g.code) g.slots i c) body.1)

module _ (laws : CodeLaws) (core : Core) (p : PlainIrProgram) (valid : ValidWithCells p) (has : HasCode p) (tables : ℕ → ℕ → Need) where
  abbrev code : List AsmItem
  code = program_code core p tables

  abbrev start : List AsmItem
  start = startup_code (spans_of p) (function_label p.main)

  abbrev functions : List AsmItem
  functions = functions_code core p tables (length p.functions)

  abbrev routines : List AsmItem
  routines = routines_code core p tables

  abbrev uses : List Use
  uses = program_uses core p tables

  -- each shape has a routine that fits
  all_sound : AllByRecursion (IsSound (own_sizes p valid)) (used_shapes uses)
  all_sound =
      all_shapes (IsSound (own_sizes p valid)) uses
      (each_use core p valid has (λ i. IsSound (own_sizes p valid) (shape_of i)) (sound p valid has laws.pieces.fixed) tables)

  -- what the items of all functions pass
  by_functions : (q : AsmItem → Bool) → ((i : AsmItem) → fits (own_sizes p valid) i ≡ true → q i ≡ true)
      → ((l : ℕ) → q (Label l) ≡ true)
      →
      ((f : ℕ) (g : PlainIrFunction) → slice_get p.functions f ≡ Some g
      → AllAccepted q (link core p valid has laws.leaves laws.pieces tables f g) g.code)
      → list_all q (functions_code core p tables (length p.functions)) ≡ true
  by_functions q passes labels accepts =
      chained q (λ f. code_of core p (routine_of core p tables) (tables f) f (slice_get p.functions f)) (length p.functions)
      (λ f l. by_function f (slice_get p.functions f) refl) where
        by_function : (f : ℕ) (o : Option PlainIrFunction) → slice_get p.functions f ≡ o
            → list_all q (code_of core p (routine_of core p tables) (tables f) f o) ≡ true
        by_function f None e = refl
        by_function f (Some g) e =
            let k = link core p valid has laws.leaves laws.pieces tables f g in
            let rest =
            operations_pass (own_sizes p valid) valid.0 (data_of p) k (has_room p valid f g e) (objects_fit p valid laws.leaves) laws.pieces
            q passes has.results f (called_in g.code) (facts_of (has_tables (data_of p).objects) (tables f) g.code) None g.code
            (has.functions f g e)
            (functions_use valid.0 p valid.1 f g e) (accepts f g e) in
            rw (labels (function_label f), rest) refl

  -- ---- fields

  is_right : AsmItem → Bool
  is_right i = is_valid_item (own_sizes p valid) i

  right_labels : (k : Linkage) (i : PlainIr) → AcceptsLabels is_right k i
  unfolding is_right
  right_labels k (label l) = refl
  right_labels k (jump l) = (refl, λ set flag w. w)
  right_labels k (branch_zero t l) = λ set flag w. w
  right_labels k (call_function c to) = refl
  right_labels k (constant t n) = tt
  right_labels k (copy to from) = tt
  right_labels k (load_object t o offset) = tt
  right_labels k (store_object o offset t) = tt
  right_labels k (binary_op op ty mode to a aty b bty) = tt
  right_labels k (unary_op op ty mode to a) = tt
  right_labels k (conversion to ty mode a aty) = tt
  right_labels k (return_from from) = tt
  right_labels k (address t o offset) = tt
  right_labels k (field ptr space offset) = tt
  right_labels k (load_at to ptr space) = tt
  right_labels k (store_at ptr space from) = tt
  right_labels k (port_in to port index width) = tt
  right_labels k (port_out from port index width) = tt
  right_labels k (load_cell to cell) = tt
  right_labels k (store_cell cell from) = tt
  right_labels k (cell_port read t cell offset index width) = tt

  all_right : (k : Linkage) (is : List PlainIr) → AllAccepted is_right k is
  unfolding is_right
  all_right k [] = tt
  all_right k (i ∷ is) = (right_labels k i, λ l e. refl, all_right k is)

  items_are_right : list_all (is_valid_item (own_sizes p valid)) code ≡ true
  unfolding is_right
  items_are_right =
      joined is_right start (functions ++ routines)
      (laws.items (own_sizes p valid) (spans_of p) (function_label p.main) (spans_valid p valid))
      (joined is_right functions routines
      (by_functions is_right (valid_item (own_sizes p valid)) (λ l. refl)
      (λ f g e. all_right (link core p valid has laws.leaves laws.pieces tables f g) g.code))
      (routines_pass (own_sizes p valid) uses is_right (valid_item (own_sizes p valid)) (λ l. refl) (routines_begin p) (used_shapes uses)
      all_sound))

  -- ---- labels

  counted : (l : ℕ) → count_by (is_label l) code
      ≡ cond (entry_label == l) 1 0 + (count_by (is_label l) functions + count_by (is_label l) routines)
  counted l =
      let none = laws.placed (spans_of p) (function_label p.main) l in
      let both = joined_count l functions routines in
      let parts = joined_count l start (functions ++ routines) in
      let first = joined_count l (Label entry_label ∷ []) (start ++ (functions ++ routines)) in
      omega (arith, none, both, parts, first)

  none_of_routines : (l : ℕ) → l < routines_begin p → count_by (is_label l) routines ≡ 0
  none_of_routines l below = none_below (own_sizes p valid) uses l (routines_begin p) (used_shapes uses) all_sound below

  entry_once : stands_once code entry_label ≡ true
  entry_once =
      let above = first_label_above p.functions (length p.functions) in
      let none = none_of_routines 0 (omega (arith, above)) in
      rw (counted 0, entry_is_apart core p valid has laws.leaves laws.pieces tables, none) refl

  once : (l : ℕ) → 0 < l → l < routines_begin p → count_by (is_label l) functions ≡ 1 → stands_once code l ≡ true
  once l above below one =
      let q : (0 == l) ≡ false = grind (arith, nat_tests) in
      let none = none_of_routines l below in
      rw (counted l, one, none, q) refl

  -- the label of a routine that an operation calls
  routine_once : (i : PlainIr) (l : ℕ) → routine_of core p tables i ≡ Some l → stands_once code l ≡ true
  routine_once i l e = by_shape (is_shaped i) e
    where
      by_shape : (b : Bool) → (if b then label_among (routines_begin p) (rows_of uses) (shape_of i) else None) ≡ Some l
          → stands_once code l ≡ true
      by_shape true q =
          let above = first_label_above p.functions (length p.functions) in
          let least = label_least (own_sizes p valid) uses l (routines_begin p) (used_shapes uses) (shape_of i) q in
          let one = routine_label_once (own_sizes p valid) uses l (routines_begin p) (used_shapes uses) (shape_of i) all_sound q in
          let none = routine_is_apart core p valid has laws.leaves laws.pieces tables l least in
          let other : (0 == l) ≡ false = grind (arith, nat_tests) in
          rw (counted l, none, one, other) refl
      by_shape false q = absurd cc

  there : (fs : List PlainIrFunction) (c : ℕ) → c < length fs → (g : PlainIrFunction) × (slice_get fs c ≡ Some g)
  there [] c l = absurd (omega arith)
  there (g ∷ fs) zero l = (g, refl)
  there (g ∷ fs) (suc c) l = there fs c (omega arith)

  function_once : (c : ℕ) → c < length p.functions → stands_once code (function_label c) ≡ true
  function_once c l =
      let g = there p.functions c l in
      let above = first_label_above p.functions (length p.functions) in
      once (function_label c) (omega arith) (omega (arith, above, l)) (function_stands core p valid has laws.leaves laws.pieces tables c g.0 g.1)

  label_once : (f m : ℕ) (g : PlainIrFunction) → slice_get p.functions f ≡ Some g → count m g.code ≡ 1
      → stands_once code (first_label p.functions f + m) ≡ true
  label_once f m g e one =
      let above = first_label_above p.functions f in
      once (first_label p.functions f + m) (omega arith) (label_below core p valid has laws.leaves laws.pieces tables f m g e one)
      (label_stands core p valid has laws.leaves laws.pieces tables f m g e one)

  is_put : AsmItem → Bool
  is_put i = is_placed code (used_label i)

  put_labels : (f : ℕ) (g : PlainIrFunction) → slice_get p.functions f ≡ Some g → (i : PlainIr)
      → ValidOperation valid.0 p valid.1.results f g.slots g.code i
      → AcceptsLabels is_put (link core p valid has laws.leaves laws.pieces tables f g) i
  unfolding is_put
  put_labels f g e (label l) h = refl
  put_labels f g e (jump l) h = (label_once f l g e h, λ set flag w. label_once f l g e h)
  put_labels f g e (branch_zero t l) h = λ set flag w. label_once f l g e h.1
  put_labels f g e (call_function c to) h = function_once c h.0
  put_labels f g e (constant t n) h = tt
  put_labels f g e (copy to from) h = tt
  put_labels f g e (load_object t o offset) h = tt
  put_labels f g e (store_object o offset t) h = tt
  put_labels f g e (binary_op op ty mode to a aty b bty) h = tt
  put_labels f g e (unary_op op ty mode to a) h = tt
  put_labels f g e (conversion to ty mode a aty) h = tt
  put_labels f g e (return_from from) h = tt
  put_labels f g e (address t o offset) h = tt
  put_labels f g e (field ptr space offset) h = tt
  put_labels f g e (load_at to ptr space) h = tt
  put_labels f g e (store_at ptr space from) h = tt
  put_labels f g e (port_in to port index width) h = tt
  put_labels f g e (port_out from port index width) h = tt
  put_labels f g e (load_cell to cell) h = tt
  put_labels f g e (store_cell cell from) h = tt
  put_labels f g e (cell_port read t cell offset index width) h = tt

  all_put : (f : ℕ) (g : PlainIrFunction) → slice_get p.functions f ≡ Some g → (is : List PlainIr)
      → AllByRecursion (ValidOperation valid.0 p valid.1.results f g.slots g.code) is
      → AllAccepted is_put (link core p valid has laws.leaves laws.pieces tables f g) is
  unfolding is_put
  all_put f g e [] h = tt
  all_put f g e (i ∷ is) h = (put_labels f g e i h.0, λ l q. routine_once i l q, all_put f g e is h.1)

  items_are_placed : list_all (λ i. is_placed code (used_label i)) code ≡ true
  unfolding is_put
  items_are_placed =
      joined is_put start (functions ++ routines)
      (laws.used code (spans_of p) (function_label p.main) (function_once p.main valid.1.main))
      (joined is_put functions routines
      (by_functions is_put (placed_item (own_sizes p valid) code) (λ l. refl)
      (λ f g e. all_put f g e g.code (function_valid p valid f g e).code))
      (routines_pass (own_sizes p valid) uses is_put (placed_item (own_sizes p valid) code) (λ l. refl) (routines_begin p)
      (used_shapes uses) all_sound))

  -- ---- the program

  pub is_valid : (asm : AsmProgram) → asm.items.items ≡ code → asm.frames.items ≡ map (λ g. g.slots) p.functions
      → asm.entry ≡ entry_label → ValidAsm (object_sizes p) (64 + valid.0) asm
  is_valid asm items frames entry = record {
    items = subst (λ is. list_all (is_valid_item (sizes_of (object_sizes p) asm.frames.items (64 + valid.0))) is ≡ true) (sym items)
        (subst (λ fs. list_all (is_valid_item (sizes_of (object_sizes p) fs (64 + valid.0))) code ≡ true) (sym frames) items_are_right);
    labels = subst (λ is. list_all (λ i. is_placed is (used_label i)) is ≡ true) (sym items) items_are_placed;
    entry = subst (λ is. stands_once is asm.entry ≡ true) (sym items) (rw entry entry_once);
    functions = rw frames (let l = valid.1.function_count in omega (arith, length-map p.functions (λ (g : PlainIrFunction). g.slots)));
  }

pub selections_are_valid : CodeLaws → SelectionsAreValid
selections_are_valid laws core cells p asm valid has h =
    is_valid laws core p (cells, valid) has h.tables asm h.items h.frames h.entry
