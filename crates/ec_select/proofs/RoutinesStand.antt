-- Where the code of a program stands, the routine of each operation that calls one stands.
use Rattle.std.proofs.Common.{◌≡◌, ℕ, ◌+◌, Bool, true, false, List, [], ◌∷◌, refl, sym, ◌∙◌, ap, subst, map, inl, inr}
use Rattle.std.proofs.lemmas.Bool.{false≢true}
use Rattle.std.specs.Prelude.{◌||◌, if◌then◌else◌, Option, Some, None, slice_get, All, Contains, IsSomeAnd}
use Rattle.std.specs.List.{AllByRecursion}
use Rattle.std.proofs.lemmas.List.Elements.{All-nil, All-cons, All-contains}
use Rattle.ec_space.specs.declared.Core.{Core}
use Rattle.ec_asm.specs.declared.items.AsmItem.{AsmItem}
use Rattle.ec_asm.specs.Change.{Env}
use Rattle.ec_asm.specs.Items.{HasAt}
use Rattle.ec_asm.specs.Laws.{PartsStand}
use Rattle.ec_core_shapes.specs.Shapes.{Shape, same_shape}
use Rattle.ec_core_shapes.proofs.Told.{shapes_told}
use Rattle.ec_core.specs.declared.expressions.BinOp.{BinOp}
use Rattle.ec_core.specs.Plain.{PlainType, void, integer, fixed, pointer, array, struct, PlainProgram}
use Rattle.ec_core.specs.Words.{widest}
use Rattle.ec_core_shapes.specs.Shapes.{binary_shape}
use Rattle.ec_fx.specs.declared.numbers.Mode.{Mode}
use Rattle.ec_ir.specs.Operations.{PlainIr}
use Rattle.ec_ir.specs.Operations.{binary_op}
use Rattle.ec_ir.specs.Operations.{PlainIrFunction, PlainIrProgram, data_of}
use Rattle.ec_ir_shapes.specs.Costs.{are_exact, any_fixed, any_pointer, is_fixed as counts_fixed, is_pointer as counts_pointer}
use Rattle.ec_ir.specs.Valid.{ValidOperation, called_in}
use Rattle.ec_routines.specs.Routines.{routine_code}
use Rattle.ec_select_functions.specs.Covered.{IsCovered, AreCovered}
use Rattle.ec_select_functions.specs.Laws.{CanCall}
use Rattle.ec_select_operations.specs.Code.{family_of, has_one_format, is_on_integers}
use Rattle.ec_select_operations.specs.Needs.{Need, is_fixed}
use Rattle.ec_select_operations.specs.Routines.{routine_with, HasRoutineOf}
use Rattle.ec_select_routines.specs.Laws.{HasRoutine}
use Rattle.ec_select.specs.Selected.{ValidWithCells, HasCode}
use Rattle.ec_select.specs.Sharing.{Use, Row, is_shaped, shape_of, shape_routine, row_of, row_routine, stands_once, used_shapes}
use Rattle.ec_select.specs.Sharing.{label_where, label_among, rows_of, routines_among, routines_begin, routines_code, routine_of}
use Rattle.ec_select.specs.Sharing.{program_uses}
use Rattle.ec_select.proofs.AlikeWords.{not_exact, not_on_integers}
use Rattle.ec_select.proofs.FixedTypes.{no_fixed}
use Rattle.ec_select.proofs.PointerTypes.{pointers_only}
use Rattle.ec_select.proofs.RoutineItems.{HasBody}
use Rattle.ec_select.proofs.Setting.{function_valid}
use Rattle.ec_select.proofs.Shaped.{one_shape, same_routine}
use Rattle.ec_select.proofs.Whole.{body_of}

-- ---- operations whose code may stand once are none on integers

none_in_format : (a b : PlainType) → (is_fixed a || is_fixed b) ≡ false → has_one_format a b ≡ false
none_in_format (fixed k s) b e = absurd (false≢true (sym e))
none_in_format void b e = refl
none_in_format (integer s n) b e = refl
none_in_format (pointer s k t) b e = refl
none_in_format (array t n) b e = refl
none_in_format (struct n) b e = refl

not_exact_in : (op : BinOp) (ty aty bty : PlainType) (mode : Mode) → (is_fixed aty || is_fixed bty) ≡ false
    → is_on_integers (family_of op) mode ty aty bty ≡ false
not_exact_in op ty aty bty mode e = rw (none_in_format aty bty e) refl

can_call : (p : PlainProgram) (results : ℕ → ℕ) (f : ℕ) (called : List ℕ) (slots : ℕ) (i : PlainIr)
    → IsCovered p results f called slots i → is_shaped i ≡ true → CanCall i
can_call p results f called slots (binary_op op ty mode to a aty b bty) (inl c) s =
    not_exact_in op ty aty bty mode (no_fixed (family_of op) slots to a b ty aty bty c)
can_call p results f called slots (binary_op op ty mode to a aty b bty) (inr (inl c)) s =
    let one = one_shape (binary_op op ty mode to a aty b bty) s in
    not_on_integers op mode ty aty bty c.types
    (not_exact op (are_exact op mode ty (aty ∷ bty ∷ [])) (counts_fixed ty || any_fixed (aty ∷ bty ∷ []))
    (counts_pointer ty || any_pointer (aty ∷ bty ∷ [])) (widest (ty ∷ aty ∷ bty ∷ [])) (binary_shape op ty mode aty bty) one.0 one.1)
can_call p results f called slots (binary_op op ty mode to a aty b bty) (inr (inr c)) s =
    not_exact_in op ty aty bty mode (pointers_only op ty aty bty c.pointer c.types).0
can_call p results f called slots i c s = tt

-- ---- routines

-- items stand from some word to another
abbrev StandsSomewhere : Env → List AsmItem → Type 0
StandsSomewhere e items = (start : ℕ) × (past : ℕ) × HasAt e items start past

module _ (parts : PartsStand) (e : Env) (us : List Use) where
  abbrev rows : List Shape → List Row
  rows shapes = map (row_of us) shapes

  pub label_found : (x first : ℕ) (shapes : List Shape) (s : Shape) (pc end : ℕ) → label_among first (rows shapes) s ≡ Some x
      → HasAt e (routines_among first (rows shapes)) pc end → StandsSomewhere e (shape_routine x s)
  label_found x first [] s pc end q h = absurd cc
  label_found x first (r ∷ shapes) s pc end q h =
      by_test (same_shape r s) refl q (λ mid z there. label_found x (first + 1) shapes s mid end z there)
    where
      two : (mid : ℕ) × HasAt e (row_routine first (row_of us r)) pc mid × HasAt e (routines_among (first + 1) (rows shapes)) mid end
      two = parts e (row_routine first (row_of us r)) (routines_among (first + 1) (rows shapes)) pc end h

      by_once : r ≡ s → (b : Bool) → stands_once us r ≡ b → label_where b first ≡ Some x → StandsSomewhere e (shape_routine x s)
      by_once same true o z =
          let l : first ≡ x = cc in
          let here : row_routine first (row_of us r) ≡ shape_routine first r = rw o refl in
          let there : shape_routine first r ≡ shape_routine x s = λ j. shape_routine (l j) (same j) in
          (pc, two.0, subst (λ (items : List AsmItem). HasAt e items pc two.0) (here ∙ there) two.1)
      by_once same false o z = absurd cc

      by_test : (b : Bool) → same_shape r s ≡ b
          → (if b then label_where (stands_once us r) first else label_among (first + 1) (rows shapes) s) ≡ Some x
          → ((mid : ℕ) → label_among (first + 1) (rows shapes) s ≡ Some x
          → HasAt e (routines_among (first + 1) (rows shapes)) mid end → StandsSomewhere e (shape_routine x s))
          → StandsSomewhere e (shape_routine x s)
      by_test true t z rest = by_once (shapes_told.one r s t) (stands_once us r) refl z
      by_test false t z rest = rest two.0 z two.2

module _ (parts : PartsStand) (core : Core) (p : PlainIrProgram) (valid : ValidWithCells p) (has : HasCode p) (e : Env) (tables : ℕ → ℕ → Need)
    (f : ℕ) (g : PlainIrFunction) (is : slice_get p.functions f ≡ Some g) where
  abbrev Held : PlainIr → Type 0
  Held i = is_shaped i ≡ true → HasBody i

  all_held : (code : List PlainIr) → AreCovered (data_of p) has.results f (called_in g.code) g.slots code
      → AllByRecursion (ValidOperation valid.0 p valid.1.results f g.slots g.code) code → All Held code
  all_held [] c v = All-nil Held
  all_held (i ∷ code) c v = All-cons Held i code (λ s. body_of p valid has f g i c.0 v.0 s) (all_held code c.1 v.1)

  abbrev Calls : PlainIr → Type 0
  Calls i = is_shaped i ≡ true → CanCall i

  all_call : (code : List PlainIr) → AreCovered (data_of p) has.results f (called_in g.code) g.slots code → All Calls code
  all_call [] c = All-nil Calls
  all_call (i ∷ code) c =
      All-cons Calls i code (λ s. can_call (data_of p) has.results f (called_in g.code) g.slots i c.0 s) (all_call code c.1)

  -- an operation that calls a routine leaves its result as a number
  pub routine_called : (i : PlainIr) (l : ℕ) → Contains g.code i → routine_of core p tables i ≡ Some l → CanCall i
  routine_called i l there q = by_shape (is_shaped i) refl q
    where
      by_shape : (b : Bool) → is_shaped i ≡ b
          → (if b then label_among (routines_begin p) (rows_of (program_uses core p tables)) (shape_of i) else None) ≡ Some l → CanCall i
      by_shape true s z = (All-contains Calls g.code i (all_call g.code (has.functions f g is)) there) s
      by_shape false s z = absurd cc

  -- of its operations
  pub routine_stands : (i : PlainIr) (l pc end : ℕ) → HasAt e (routines_code core p tables) pc end → Contains g.code i
      → routine_of core p tables i ≡ Some l → HasRoutineOf e l i
  routine_stands i l pc end h there q = by_shape (is_shaped i) refl q
    where
      with_body : (s : is_shaped i ≡ true) → StandsSomewhere e (shape_routine l (shape_of i)) → HasRoutineOf e l i
      with_body s stands =
          let held = All-contains Held g.code i
          (all_held g.code (has.functions f g is) (function_valid p valid f g is).code) there in
          let body = held s in
          let items : shape_routine l (shape_of i) ≡ routine_code l body.0 = sym (same_routine l i s) ∙ ap (routine_with l) body.1 in
          let r : HasRoutine e l body.0 = record {
            start = stands.0;
            past = stands.1;
            stands = subst (λ (x : List AsmItem). HasAt e x stands.0 stands.1) items stands.2;
          } in
          subst (λ (b : Option (List AsmItem)). IsSomeAnd b (HasRoutine e l)) (sym body.1) r

      by_shape : (b : Bool) → is_shaped i ≡ b
          → (if b then label_among (routines_begin p) (rows_of (program_uses core p tables)) (shape_of i) else None) ≡ Some l
          → HasRoutineOf e l i
      by_shape true s z =
          let us = program_uses core p tables in
          with_body s (label_found parts e us l (routines_begin p) (used_shapes us) (shape_of i) pc end z h)
      by_shape false s z = absurd cc
