-- Tables, functions and routines, one after another.
use Rattle.std.proofs.Common.{◌≡◌, ◌⊎◌, ℕ, zero, suc, ◌+◌, ◌<◌, ◌==◌, Bool, true, false, List, [], ◌∷◌, ◌++◌, refl}
use Rattle.std.proofs.Common.{sym, ◌∙◌, ap, subst, arith, append_assoc, inl, inr, length, map, drop}
use Rattle.std.specs.Prelude.{Option, Some, None, option_map, slice_get, get_or}
use Rattle.std.proofs.lemmas.Option.{slice_get-map, slice_get_read}
use Rattle.std.proofs.lemmas.Bool.{eqb-true}
use Rattle.std.proofs.lemmas.Bool.Decides.{nat_tests}
use Rattle.ec_space.specs.declared.Core.{Core}
use Rattle.ec_asm.specs.declared.items.AsmItem.{AsmItem}
use Rattle.ec_asm.specs.declared.items.AsmItem.TheVariants.{Label}
use Rattle.ec_asm.specs.declared.items.AsmProgram.{AsmProgram}
use Rattle.ec_ir.specs.declared.operations.IrFunc.{IrFunc}
use Rattle.ec_ir.specs.Operations.{PlainIrFunction, PlainIrProgram, plain_ir_function, data_of}
use Rattle.ec_ir.specs.Operations.{PlainIr, constant, copy, address, field, load_at, store_at, load_object}
use Rattle.ec_ir.specs.Operations.{store_object, binary_op, unary_op, conversion, label, jump, branch_zero}
use Rattle.ec_ir.specs.Operations.{call_function, return_from, port_in, port_out, load_cell, store_cell, cell_port}
use Rattle.ec_select_live.specs.Least.{IsLeast}
use Rattle.ec_select_live.specs.Tables.{needs_of}
use Rattle.ec_ir_known.specs.Known.{right_numbers, numbers_left, HasResultPlace, HaveResultPlaces}
use Rattle.ec_select_live.specs.Places.{HasPlaces, HavePlaces}
use Rattle.ec_select_operations.specs.Needs.{Need, facts_of, IsLive}
use Rattle.ec_select_operations.specs.Pointers.{has_tables}
use Rattle.ec_select_operations.specs.declared.calls.Linking.{Linking}
use Rattle.ec_select_operations.specs.Code.{Linkage, wanted_bytes, function_code}
use Rattle.ec_select_operations.specs.Emitted.{linkage}
use Rattle.ec_select_functions.specs.Laws.{linkage_of}
use Rattle.ec_select_operations.specs.Written.{routed, written_function, kept_rows, NeededFunctionsAreWritten}
use Rattle.ec_select_startup.specs.Startup.{startup_code}
use Rattle.ec_select.specs.Labels.{homes_of, label_count, labels_in, entry_label, first_label, function_label}
use Rattle.ec_select.specs.Program.{spans_of, made_with, code_of, functions_code, functions_with}
use Rattle.ec_select.specs.Seen.{tables_in}
use Rattle.ec_select.proofs.Lists.{drop_front}
use Rattle.ec_select.specs.Selected.{AreTables, AreWritten, IsSelection}
use Rattle.ec_select.specs.Sharing.{Use, Row, program_uses, rows_of, routine_among, routines_among, routines_begin, routines_code}

pub by_place : (k f : ℕ) → k < f + 1 → (k ≡ f) ⊎ (k < f)
by_place k f l = by_test (k == f) refl where
  by_test : (same : Bool) → (k == f) ≡ same → (k ≡ f) ⊎ (k < f)
  by_test true q = inl (eqb-true k f q)
  by_test false q = inr (grind (arith, nat_tests))

-- ---- tables

get_before : {A : Type 0} (xs : List A) (x d : A) (k : ℕ) → k < length xs → get_or (xs ++ x ∷ []) k d ≡ get_or xs k d
get_before [] x d k l = absurd (omega arith)
get_before (y ∷ ys) x d zero l = refl
get_before (y ∷ ys) x d (suc k) l = get_before ys x d k (omega arith)

get_last : {A : Type 0} (xs : List A) (x d : A) → get_or (xs ++ x ∷ []) (length xs) d ≡ x
get_last [] x d = refl
get_last (y ∷ ys) x d = get_last ys x d

-- what holds of the tables of the first functions and of that of the next one holds of all of them
module _ (p : PlainIrProgram) (ts : List (List (List ℕ))) (g : PlainIrFunction) (e : slice_get p.functions (length ts) ≡ Some g)
    (t : List (List ℕ)) (P : (ℕ → Need) → PlainIrFunction → Type 0) where
  with_more : P (needs_of t) g
      → ((k : ℕ) (h : PlainIrFunction) → k < length ts → slice_get p.functions k ≡ Some h → P (tables_in ts k) h)
      → (k : ℕ) (h : PlainIrFunction) → k < length ts + 1 → slice_get p.functions k ≡ Some h
      → P (tables_in (ts ++ t ∷ []) k) h
  with_more one each k h l q = at_place (by_place k (length ts) l) where
    at_place : ((k ≡ length ts) ⊎ (k < length ts)) → P (tables_in (ts ++ t ∷ []) k) h
    at_place (inl s) =
        let r : g ≡ h = cc in
        let last : needs_of t ≡ tables_in (ts ++ t ∷ []) k =
        ap needs_of (sym (get_last ts t [])) ∙ ap (λ (j : ℕ). tables_in (ts ++ t ∷ []) j) (sym s) in
        subst (λ (m : ℕ → Need). P m h) last (subst (λ (x : PlainIrFunction). P (needs_of t) x) r one)
    at_place (inr s) =
        subst (λ (m : ℕ → Need). P m h) (ap needs_of (sym (get_before ts t [] k s))) (each k h s q)

pub one_more_table : (p : PlainIrProgram) (f : ℕ) (ts new : List (List (List ℕ))) (t : List (List ℕ)) (g : PlainIrFunction)
    → length ts ≡ f → slice_get p.functions f ≡ Some g → new ≡ ts ++ t ∷ [] → IsLive (has_tables (data_of p).objects) (needs_of t) g.code
    → IsLeast (has_tables (data_of p).objects) g.slots (needs_of t) g.code → AreTables p (tables_in ts) f
    → AreTables p (tables_in new) (f + 1)
one_more_table p f ts new t g len e q live least are =
    subst (λ (n : ℕ). AreTables p (tables_in new) (n + 1)) len
    (subst (λ (xs : List (List (List ℕ))). AreTables p (tables_in xs) (length ts + 1)) (sym q)
    (record {
      live = with_more p ts g here t (λ m h. IsLive (has_tables (data_of p).objects) m h.code) live before.live;
      least = with_more p ts g here t (λ m h. IsLeast (has_tables (data_of p).objects) h.slots m h.code) least before.least;
    }))
  where
    here : slice_get p.functions (length ts) ≡ Some g
    here = subst (λ (n : ℕ). slice_get p.functions n ≡ Some g) (sym len) e

    before : AreTables p (tables_in ts) (length ts)
    before = subst (λ (n : ℕ). AreTables p (tables_in ts) n) (sym len) are

pub no_tables : (p : PlainIrProgram) (ts : List (List (List ℕ))) → AreTables p (tables_in ts) 0
no_tables p ts = record { live = λ f g l. absurd (omega arith); least = λ f g l. absurd (omega arith) }

-- ---- functions

-- a function behind those before it
pub one_more_function : (core : Core) (p : PlainIrProgram) (routines : PlainIr → Option ℕ) (tables : ℕ → ℕ → Need) (f : ℕ) (g : PlainIrFunction)
    (start old new : List AsmItem) → slice_get p.functions f ≡ Some g → old ≡ start ++ functions_with core p routines tables f
    → new ≡ old ++ code_of core p routines (tables f) f (Some g) → new ≡ start ++ functions_with core p routines tables (f + 1)
one_more_function core p routines tables f g start old new e w more =
    let code = code_of core p routines (tables f) f (Some g) in
    let all : functions_with core p routines tables (suc f) ≡ functions_with core p routines tables f ++ code = rw e refl in
    let next : suc f ≡ f + 1 = omega arith in
    more ∙ ap (λ (x : List AsmItem). x ++ code) w ∙ append_assoc start (functions_with core p routines tables f) code
    ∙ ap (λ (x : List AsmItem). start ++ x) (sym all) ∙ ap (λ (n : ℕ). start ++ functions_with core p routines tables n) next

-- the labels of the function behind one
pub next_first : (fs : List PlainIrFunction) (f : ℕ) (g : PlainIrFunction) → slice_get fs f ≡ Some g
    → first_label fs (f + 1) ≡ first_label fs f + label_count g.code
next_first fs f g e =
    let next : f + 1 ≡ suc f = omega arith in
    ap (first_label fs) next ∙ ap (λ (o : Option PlainIrFunction). first_label fs f + labels_in o) e

-- what operations set stands at places
result_placed : (s : ℕ) (i : PlainIr) → HasPlaces s i → HasResultPlace s i
result_placed s (constant t n) h = h.0
result_placed s (copy to from) h = h.0.0
result_placed s (address t o offset) h = h.0
result_placed s (field ptr space offset) h = h.0
result_placed s (load_at to ptr space) h = h.0.0
result_placed s (store_at ptr space from) h = tt
result_placed s (load_object t o offset) h = h.0
result_placed s (store_object o offset t) h = tt
result_placed s (binary_op op ty mode to a aty b bty) h = h.0.0
result_placed s (unary_op op ty mode to a) h = h.0.0
result_placed s (conversion to ty mode a aty) h = h.0.0
result_placed s (label l) h = tt
result_placed s (jump l) h = tt
result_placed s (branch_zero t l) h = tt
result_placed s (call_function f None) h = tt
result_placed s (call_function f (Some t)) h = h.0
result_placed s (return_from from) h = tt
result_placed s (port_in to port index width) h = h.0.0
result_placed s (port_out from port index width) h = tt
result_placed s (load_cell to cell) h = h.0
result_placed s (store_cell cell from) h = tt
result_placed s (cell_port true to cell offset index width) h = h.0.0
result_placed s (cell_port false from cell offset index width) h = tt

pub results_placed : (s : ℕ) (code : List PlainIr) → HavePlaces s code → HaveResultPlaces s code
results_placed s [] h = tt
results_placed s (i ∷ code) h = (result_placed s i h.0, results_placed s code h.1)

pub numbers_length : (all code : List PlainIr) → length (numbers_left all code) ≡ length code
numbers_length all [] = refl
numbers_length all (i ∷ code) = ap suc (numbers_length all code)

-- the code of a function as it was written is its code in the program
pub added : (core : Core) (p : PlainIrProgram) (routines : PlainIr → Option ℕ) (f first : ℕ) (g : PlainIrFunction) (k : Linking) (labels : ℕ → Need)
    → NeededFunctionsAreWritten → first ≡ first_label p.functions f
    → k ≡ record {
      core = core;
      first_label = first;
      first_entry = 1;
      homes = homes_of f g.code;
      slots = g.slots;
      is_main = f == p.main;
    }
    → let at = facts_of (has_tables (data_of p).objects) labels g.code in
    written_function (data_of p) (linkage k) f (wanted_bytes at g.code) (kept_rows g.slots at g.code) (right_numbers g.code)
    (map routines g.code) g.code
    ≡ code_of core p routines labels f (Some g)
added core p routines f first g k labels written e q =
    let at = facts_of (has_tables (data_of p).objects) labels g.code in
    let w = written (data_of p) (linkage k) routines f labels g.code in
    let slots : k.slots ≡ g.slots = ap (λ (x : Linking). x.slots) q in
    let link : routed (linkage k) routines ≡ linkage_of core p function_label f g.slots (made_with p routines labels f g) =
    ap (λ (x : Linking). routed (linkage x) routines) q ∙ rw e refl in
    subst (λ (s : ℕ). written_function (data_of p) (linkage k) f (wanted_bytes at g.code) (kept_rows s at g.code)
    (right_numbers g.code) (map routines g.code) g.code ≡ function_code (data_of p) (routed (linkage k) routines) f labels g.code) slots w
    ∙ ap (λ (l : Linkage). function_code (data_of p) l f labels g.code) link

-- ---- the whole program

-- functions and routines, as they were written
pub written : (core : Core) (p : PlainIrProgram) (ts : List (List (List ℕ))) (us : List Use) (rows : List Row) (first : ℕ)
    (start middle items : List AsmItem) → AreTables p (tables_in ts) (length p.functions)
    → us ≡ program_uses core p (tables_in ts) → rows ≡ rows_of us → first ≡ routines_begin p
    → middle ≡ start ++ functions_with core p (routine_among first rows) (tables_in ts) (length p.functions)
    → items ≡ middle ++ routines_among first rows → AreWritten core p start items
written core p ts us rows first start middle items are_tables uses e begins functions routines = record {
  tables = tables_in ts;
  are_tables = are_tables;
  items_are =
      let here : rows ≡ rows_of (program_uses core p (tables_in ts)) = e ∙ ap rows_of uses in
      let both : first ≡ routines_begin p = begins in
      routines ∙ ap (λ (x : List AsmItem). x ++ routines_among first rows) functions
      ∙ append_assoc start (functions_with core p (routine_among first rows) (tables_in ts) (length p.functions)) (routines_among first rows)
      ∙ (λ j. start ++ (functions_with core p (routine_among (both j) (here j)) (tables_in ts) (length p.functions)
      ++ routines_among (both j) (here j)));
}

pub selected : (core : Core) (p : PlainIrProgram) (asm : AsmProgram) (start items : List AsmItem)
    → start ≡ Label entry_label ∷ startup_code (spans_of p) (function_label p.main)
    → AreWritten core p start items → asm.items.items ≡ items
    → asm.frames.items ≡ map (λ g. g.slots) p.functions → asm.entry ≡ entry_label → IsSelection core p asm
selected core p asm start items begins w own frames entry = record {
  tables = w.tables;
  are_tables = w.are_tables;
  items =
      own ∙ w.items_are
      ∙ ap (λ (x : List AsmItem). x ++ (functions_code core p w.tables (length p.functions) ++ routines_code core p w.tables)) begins;
  frames = frames;
  entry = entry;
}

pub same_slots : (fs : List IrFunc) → map {B = ℕ} (λ g. g.slots) (map plain_ir_function fs) ≡ map (λ (g : IrFunc). g.slots) fs
same_slots [] = refl
same_slots (g ∷ fs) = ap (λ (x : List ℕ). g.slots ∷ x) (same_slots fs)

-- ---- lists of functions

pub function_there : (funcs items : List IrFunc) (f : ℕ) (g : IrFunc) → items ≡ funcs → f < length items → g ≡ get_or items f g
    → slice_get (map plain_ir_function funcs) f ≡ Some (plain_ir_function g)
function_there funcs items f g e l is =
    slice_get-map plain_ir_function funcs f
    ∙ ap (option_map plain_ir_function) (slice_get_read funcs (length funcs) f g refl
    (subst (λ (xs : List IrFunc). f < length xs) e l) (subst (λ (xs : List IrFunc). g ≡ get_or xs f g) e is))

pub table_read : (tables : List (List (List ℕ))) (funcs items : List IrFunc) (f : ℕ) (t : List (List ℕ)) → length tables ≡ length funcs
    → items ≡ funcs → f < length items → t ≡ get_or tables f t → t ≡ get_or tables f []
table_read tables funcs items f t same e l is =
    let within : f < length tables = omega (arith, same, l, ap length e) in
    is ∙ read_same tables f t [] within
  where
    read_same : (xs : List (List (List ℕ))) (k : ℕ) (c d : List (List ℕ)) → k < length xs → get_or xs k c ≡ get_or xs k d
    read_same [] k c d l = absurd (omega arith)
    read_same (x ∷ xs) zero c d l = refl
    read_same (x ∷ xs) (suc k) c d l = read_same xs k c d (omega arith)

pub function_left : (funcs items : List IrFunc) (f : ℕ) (g : IrFunc) → items ≡ funcs → f < length items → g ≡ get_or items f g
    → drop f (map plain_ir_function funcs) ≡ plain_ir_function g ∷ drop (f + 1) (map plain_ir_function funcs)
function_left funcs items f g e l is =
    drop_front plain_ir_function funcs f g (subst (λ (xs : List IrFunc). f < length xs) e l)
    (subst (λ (xs : List IrFunc). g ≡ get_or xs f g) e is)
