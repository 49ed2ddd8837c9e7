-- The function that runs, and what is set aside for those that wait for it.
use Rattle.std.proofs.Common.{◌≡◌, ◌≢◌, ℕ, ◌+◌, ◌-◌, ◌*◌, ◌<◌, ◌≤◌, ◌⊎◌, inl, inr, ⊎_elim, Bool, true, ◌||◌, List, [], ◌∷◌}
use Rattle.std.proofs.Common.{Option, Some, length, refl, sym, ◌∙◌, subst, arith, eqb-true, Contains}
use Rattle.std.specs.Prelude.{◌==◌, slice_get, slice_index}
use Rattle.std.proofs.lemmas.Bool.{or_cases, or_left, or_right, eq-eqb, cases_lt}
use Rattle.ec_space.specs.declared.space.Bank.TheVariants.{Data as DataBank}
use Rattle.ec_asm.specs.View.{View, pair}
use Rattle.ec_asm.specs.Change.{Env, Kind, Own, Object, Stacked, sp}
use Rattle.ec_asm.specs.Pieces.{Outside}
use Rattle.ec_core.specs.Layout.{size_of_type}
use Rattle.ec_core.specs.Laws.{BytesAreTakenInOrder}
use Rattle.ec_core.specs.Plain.{PlainStorage, static, local, param, register}
use Rattle.ec_core.specs.State.{Inputs, GroupStates}
use Rattle.ec_core.specs.TypeLaws.{LeavesFillTheirTypes}
use Rattle.ec_ir.specs.declared.operations.Temp.{Temp}
use Rattle.ec_ir.specs.Meaning.{is_among}
use Rattle.ec_ir.specs.Operations.{PlainIrFunction, PlainIrProgram, data_of}
use Rattle.ec_ir.specs.Valid.{ValidIr, CallsTo, calls, calls_through, called_in}
use Rattle.ec_select_operations.specs.declared.homes.Homes.{Homes}
use Rattle.ec_select_operations.specs.Homes.{home, HasHome}
use Rattle.ec_select_functions.specs.Laws.{AreSelected, IsSelected, CallsOn}
use Rattle.ec_select_operations.specs.Places.{ObjectLeaf, Chained, CanBeLiveTogether, Apart, Layout}
use Rattle.ec_select_functions.specs.Relation.{AreFrames, standing_byte}
use Rattle.ec_select_functions.specs.Standing.{home_address, ObjectStands}
use Rattle.ec_select_functions.proofs.Cells.{in_row, row_parts, row_from, cell_stands, other_stands}
use Rattle.ec_select_functions.proofs.Moves.{outside_row}
use Rattle.ec_select_functions.proofs.Setting.{Setting, FixedLaws, RoutineLaws, PointerLaws, NumberLaws}
use Rattle.ec_select_functions.proofs.Standing.{InRegister, InScratch, kinds, ends_low, homes_are_laid_out}
use Rattle.ec_select_functions.proofs.Standing.{leaf_where, lies}

-- the code of a valid program, bytes of the stack from one address to another, and the inputs, which are bytes
pub record World (p : PlainIrProgram) (e : Env) (place entry_of : ℕ → ℕ) : Type 0 where
  pub cells : ℕ
  pub selected : AreSelected cells p e place entry_of
  pub valid : ValidIr cells p
  pub fill : LeavesFillTheirTypes
  pub inputs : Inputs
  pub feeds : (port k : ℕ) → slice_index (inputs port) k < 256
  pub taken : BytesAreTakenInOrder
  pub fixed : FixedLaws
  pub routines : RoutineLaws
  pub pointers : PointerLaws
  pub numbers : NumberLaws
  pub low : ℕ
  pub top : ℕ
  pub high : 256 ≤ low
  pub below : top < 65536
  pub stacked : (k : ℕ) → low ≤ k → k ≤ top → e.kind k ≡ Stacked

-- ---- what is set aside

-- what is set aside by a call: the scratch memory of the caller, and the return address
abbrev pub aside_by : (aside : ℕ → Bool) → (scratch size s : ℕ) → ℕ → Bool
aside_by aside scratch size s k = aside k || (in_row scratch size k || in_row (s - 1) 2 k)

pub aside_before : (aside : ℕ → Bool) (scratch size s k : ℕ) → aside k ≡ true → aside_by aside scratch size s k ≡ true
aside_before aside scratch size s k h = or_left (aside k) (in_row scratch size k || in_row (s - 1) 2 k) h

pub aside_scratch : (aside : ℕ → Bool) (scratch size s k : ℕ) → scratch ≤ k → k < scratch + size
    → aside_by aside scratch size s k ≡ true
aside_scratch aside scratch size s k l m =
    or_right (aside k) (in_row scratch size k || in_row (s - 1) 2 k)
    (or_left (in_row scratch size k) (in_row (s - 1) 2 k) (row_from scratch size k l m))

pub aside_stack : (aside : ℕ → Bool) (scratch size s k : ℕ) → s - 1 ≤ k → k < s - 1 + 2
    → aside_by aside scratch size s k ≡ true
aside_stack aside scratch size s k l m =
    or_right (aside k) (in_row scratch size k || in_row (s - 1) 2 k)
    (or_right (in_row scratch size k) (in_row (s - 1) 2 k) (row_from (s - 1) 2 k l m))

-- one of the three
aside_cases : (aside : ℕ → Bool) (scratch size s k : ℕ) (P : Type 0) → aside_by aside scratch size s k ≡ true
    → (aside k ≡ true → P) → (scratch ≤ k → k < scratch + size → P) → (s - 1 ≤ k → k < s - 1 + 2 → P) → P
aside_cases aside scratch size s k P h f g i =
    ⊎_elim f
    (λ q. ⊎_elim
    (λ r. let z = row_parts scratch size k r in g z.0 z.1)
    (λ r. let z = row_parts (s - 1) 2 k r in i z.0 z.1)
    (or_cases (in_row scratch size k) (in_row (s - 1) 2 k) q))
    (or_cases (aside k) (in_row scratch size k || in_row (s - 1) 2 k) h)

-- ---- kinds that differ

pub own_is_not_stacked : (k : Kind) → k ≡ Own → k ≡ Stacked → ⊥
own_is_not_stacked k q r = cc

object_is_not_stacked : (k : Kind) → k ≡ Object → k ≡ Stacked → ⊥
object_is_not_stacked k q r = cc

module _ (p : PlainIrProgram) (e : Env) (place entry_of : ℕ → ℕ) (w : World p e place entry_of) where
  abbrev pub homes_of : ℕ → Homes
  homes_of f = (w.selected.made f).homes

  abbrev pub scratch_of : ℕ → ℕ
  scratch_of f = w.selected.scratch f

  abbrev pub base_of : ℕ → Temp → ℕ
  base_of f t = home_address (homes_of f) (scratch_of f) t

  abbrev pub leaf_at : ObjectLeaf (data_of p) DataBank → ℕ
  leaf_at l = place l.object + l.at

  -- where the bytes of cells begin
  abbrev pub first_cell_at : ℕ
  first_cell_at = w.selected.work + 64

  -- what has to stand where it is set aside
  abbrev pub standing_by : (was : ℕ → ℕ) → GroupStates → ℕ → Option ℕ
  standing_by was = standing_byte first_cell_at w.cells was

  -- no cell has a low address
  pub low_stands : (was : ℕ → ℕ) (groups : GroupStates) (k : ℕ) → k < 256 → standing_by was groups k ≡ Some (was k)
  low_stands was groups k l =
      let above = w.selected.work_stands.high in other_stands first_cell_at w.cells was k groups (λ z. absurd (omega arith))

  -- The function f runs with the stack pointer s. What is set aside stands apart from its own scratch memory and that of
  -- all which it calls, from leaves, and from the bytes that it pushes; and there are bytes enough to push, and 16 more
  pub record Active (f : ℕ) (g : PlainIrFunction) (s : ℕ) (aside : ℕ → Bool) (was : ℕ → ℕ) : Type 0 where
    pub is : slice_get p.functions f ≡ Some g
    -- the functions that are active: f, and others that lead to it, all on one chain of calls
    pub functions : List ℕ
    pub runs : is_among functions f ≡ true
    pub leading : (a : ℕ) → is_among functions a ≡ true → (a ≡ f) ⊎ CallsTo p f a
    pub chained : (a b : ℕ) → is_among functions a ≡ true → is_among functions b ≡ true → Chained p a b
    pub high : (k : ℕ) → aside k ≡ true → 32 ≤ k
    pub leaves : (l : ObjectLeaf (data_of p) DataBank) (k : ℕ) → aside k ≡ true → Outside (leaf_at l) l.bytes k
    pub own : (k : ℕ) → aside k ≡ true → Outside (scratch_of f) (16 * g.slots) k
    pub others : (b : ℕ) (h : PlainIrFunction) → CallsTo p b f → slice_get p.functions b ≡ Some h → (k : ℕ)
        → aside k ≡ true → Outside (scratch_of b) (16 * h.slots) k
    pub free : (k : ℕ) → aside k ≡ true → w.low ≤ k → s < k
    pub work : (k : ℕ) → aside k ≡ true → Outside w.selected.work 64 k
    pub cells : (c : ℕ) → c < w.cells → aside (first_cell_at + c) ≡ true
    pub pointer_low : aside 93 ≡ true
    pub pointer_high : aside 94 ≡ true
    pub pointer : pair was 93 ≡ s
    pub room : (fs : List ℕ) → CallsOn p f fs → w.low + 2 * length fs + 16 ≤ s + 1
    pub below : s + 2 ≤ w.top

  abbrev pub selected_of : (f : ℕ) (g : PlainIrFunction) → slice_get p.functions f ≡ Some g
      → IsSelected p e place entry_of w.selected.results f g (w.selected.made f) (scratch_of f)
  selected_of f g q = w.selected.each f g q

  pub layout_of : (f : ℕ) (g : PlainIrFunction) → slice_get p.functions f ≡ Some g
      → Layout (data_of p) (CanBeLiveTogether p) e g.slots (home (homes_of f)) (base_of f) place
  layout_of f g q =
      let x = selected_of f g q in
      homes_are_laid_out w.fill w.cells p w.valid e g.slots (homes_of f) (scratch_of f) place x.scratch_stands x.objects_stand

  pub leaf_is : (f : ℕ) (g : PlainIrFunction) → slice_get p.functions f ≡ Some g → (l : ObjectLeaf (data_of p) DataBank)
      → (leaf_at l + l.bytes ≤ 8) ⊎ (256 ≤ leaf_at l)
  leaf_is f g q l =
      let x = selected_of f g q in
      leaf_where w.fill w.cells p w.valid e g.slots (homes_of f) (scratch_of f) place x.scratch_stands x.objects_stand l

  -- what is set aside is none of a temporary's
  pub temp_aside : (f : ℕ) (g : PlainIrFunction) (k : ℕ) (t : Temp) → slice_get p.functions f ≡ Some g → 32 ≤ k
      → Outside (scratch_of f) (16 * g.slots) k → HasHome g.slots t → Outside (base_of f t) t.bytes k
  temp_aside f g k t q high own it =
      let x = selected_of f g q in
      let within = it.within in
      let most = it.most in
      ⊎_elim
      (λ (r : InRegister (homes_of f) (scratch_of f) t). let z = ends_low e g.slots (homes_of f) (scratch_of f) x.scratch_stands t r in
      (λ l. omega arith))
      (λ (r : InScratch (homes_of f) (scratch_of f) t). rw (r.address) (λ l. let z = own (omega arith) in omega arith))
      (kinds (homes_of f) (scratch_of f) t)

  -- the work bytes are none of a temporary's, of a leaf's, and of the stack's
  pub temp_work : (f : ℕ) (g : PlainIrFunction) (t : Temp) → slice_get p.functions f ≡ Some g → HasHome g.slots t
      → Apart (base_of f t) t.bytes w.selected.work 64
  temp_work f g t q it =
      let x = selected_of f g q in
      let within = it.within in
      let most = it.most in
      let high = w.selected.work_stands.high in
      let far = w.selected.work_apart f g q in
      ⊎_elim
      (λ (r : InRegister (homes_of f) (scratch_of f) t). let z = ends_low e g.slots (homes_of f)
      (scratch_of f) x.scratch_stands t r in record { left = λ l. omega arith; right = λ l. absurd (omega arith) })
      (λ (r : InScratch (homes_of f) (scratch_of f) t).
      rw (r.address) (record {
        left = λ l. ⊎_elim (λ (z : scratch_of f < w.selected.work). let y = far.left z in omega arith)
            (λ (z : w.selected.work ≤ scratch_of f). let y = far.right z in absurd (omega arith)) (cases_lt (scratch_of f) w.selected.work);
        right = λ l. ⊎_elim (λ (z : scratch_of f < w.selected.work). let y = far.left z in absurd (omega arith))
            (λ (z : w.selected.work ≤ scratch_of f). let y = far.right z in omega arith) (cases_lt (scratch_of f) w.selected.work);
      }))
      (kinds (homes_of f) (scratch_of f) t)

  leaf_apart : (f : ℕ) (g : PlainIrFunction) → slice_get p.functions f ≡ Some g → (l : ObjectLeaf (data_of p) DataBank)
      → (leaf_at l + l.bytes ≤ w.selected.work) ⊎ (w.selected.work + (64 + w.cells) ≤ leaf_at l)
  leaf_apart f g q l =
      let x = selected_of f g q in
      let n = size_of_type p.structs l.declared.ty in
      let inside = (lies w.fill w.cells p w.valid e g.slots (homes_of f) (scratch_of f) place x.scratch_stands x.objects_stand l).inside in
      let r = w.selected.work_stands.objects_apart l.object l.declared l.is_object l.home in
      ⊎_elim
      (λ (z : place l.object < w.selected.work). let y = r.left z in inl (omega arith))
      (λ (z : w.selected.work ≤ place l.object). let y = r.right z in inr (omega arith))
      (cases_lt (place l.object) w.selected.work)

  pub leaf_outside_work : (f : ℕ) (g : PlainIrFunction) → slice_get p.functions f ≡ Some g → (l : ObjectLeaf (data_of p) DataBank)
      (i : ℕ) → i < l.bytes → Outside w.selected.work 64 (leaf_at l + i)
  leaf_outside_work f g q l i m u =
      ⊎_elim (λ (z : leaf_at l + l.bytes ≤ w.selected.work). absurd (omega arith))
      (λ (z : w.selected.work + (64 + w.cells) ≤ leaf_at l). omega arith)
      (leaf_apart f g q l)

  pub leaf_outside_cell : (f : ℕ) (g : PlainIrFunction) → slice_get p.functions f ≡ Some g → (l : ObjectLeaf (data_of p) DataBank)
      (k : ℕ) → first_cell_at ≤ k → k < first_cell_at + w.cells → Outside (leaf_at l) l.bytes k
  leaf_outside_cell f g q l k low high u =
      ⊎_elim (λ (z : leaf_at l + l.bytes ≤ w.selected.work). omega arith)
      (λ (z : w.selected.work + (64 + w.cells) ≤ leaf_at l). absurd (omega arith))
      (leaf_apart f g q l)

  work_kind : (k : ℕ) → w.selected.work ≤ k → k < first_cell_at + w.cells → e.kind k ≡ Own
  work_kind k l m =
      let i : w.selected.work + (k - w.selected.work) ≡ k = omega arith in
      subst (λ j. e.kind j ≡ Own) i (w.selected.work_stands.kind (k - w.selected.work) (omega arith))

  pub stack_work : (k : ℕ) → e.kind k ≡ Stacked → Outside w.selected.work 64 k
  stack_work k stacked l =
      ⊎_elim
      (λ (m : k < w.selected.work + 64). absurd (own_is_not_stacked (e.kind k) (work_kind k l (omega arith)) stacked))
      (λ (m : w.selected.work + 64 ≤ k). m)
      (cases_lt k (w.selected.work + 64))

  pub stack_cell : (k : ℕ) → e.kind k ≡ Stacked → Outside first_cell_at w.cells k
  stack_cell k stacked l =
      ⊎_elim
      (λ (m : k < first_cell_at + w.cells). absurd (own_is_not_stacked (e.kind k) (work_kind k (omega arith) m) stacked))
      (λ (m : first_cell_at + w.cells ≤ k). m)
      (cases_lt k (first_cell_at + w.cells))

  pub scratch_cell : (f : ℕ) (g : PlainIrFunction) → slice_get p.functions f ≡ Some g → (k : ℕ) → scratch_of f ≤ k
      → k < scratch_of f + 16 * g.slots → Outside first_cell_at w.cells k
  scratch_cell f g q k l m u =
      let far = w.selected.work_apart f g q in
      ⊎_elim (λ (z : scratch_of f < w.selected.work). let y = far.left z in absurd (omega arith))
      (λ (z : w.selected.work ≤ scratch_of f). let y = far.right z in omega arith)
      (cases_lt (scratch_of f) w.selected.work)

  -- a chain of calls that is called from has the called function too
  leads_on : (f b : ℕ) (g : PlainIrFunction) (a : ℕ) → slice_get p.functions f ≡ Some g → Contains (called_in g.code) b
      → CallsTo p f a → CallsTo p b a
  leads_on f b g a is there (calls _ h q r) = calls_through a f h q r (calls f g is there)
  leads_on f b g a is there (calls_through _ c h q r on) = calls_through a c h q r (leads_on f b g c is there on)

  -- so active functions lead to what the one calls that runs
  called_from : (f : ℕ) (g : PlainIrFunction) (s : ℕ) (aside : ℕ → Bool) (was : ℕ → ℕ) (a : Active f g s aside was) (b : ℕ)
      → Contains (called_in g.code) b → (c : ℕ) → is_among a.functions c ≡ true → CallsTo p b c
  called_from f g s aside was a b there c q =
      ⊎_elim
      (λ (same : c ≡ f). subst (λ k. CallsTo p b k) (sym same) (calls f g a.is there))
      (λ (on : CallsTo p f c). leads_on f b g c a.is there on)
      (a.leading c q)

  -- and are on one chain with it
  with_called : (b : ℕ) (fs : List ℕ) → ((c : ℕ) → is_among fs c ≡ true → CallsTo p b c)
      → ((c d : ℕ) → is_among fs c ≡ true → is_among fs d ≡ true → Chained p c d)
      → (c d : ℕ) → is_among (b ∷ fs) c ≡ true → is_among (b ∷ fs) d ≡ true → Chained p c d
  with_called b fs from chained c d q r =
      ⊎_elim
      (λ (i : (b == c) ≡ true).
      let x = eqb-true b c i in
      ⊎_elim
      (λ (j : (b == d) ≡ true). let z = eqb-true b d j in inl (sym x ∙ z))
      (λ (j : is_among fs d ≡ true). inr (inr (subst (λ k. CallsTo p k d) x (from d j))))
      (or_cases (b == d) (is_among fs d) r))
      (λ (i : is_among fs c ≡ true).
      ⊎_elim
      (λ (j : (b == d) ≡ true). let z = eqb-true b d j in inr (inl (subst (λ k. CallsTo p k c) z (from c i))))
      (λ (j : is_among fs d ≡ true). chained c d i j)
      (or_cases (b == d) (is_among fs d) r))
      (or_cases (b == c) (is_among fs c) q)

  -- so are all for which frames stand
  pub frames_chained : (f : ℕ) (g : PlainIrFunction) (s : ℕ) (aside : ℕ → Bool) (was : ℕ → ℕ) (a : Active f g s aside was) (fs : List ℕ)
      → AreFrames a.functions (called_in g.code) fs → (c d : ℕ) → is_among fs c ≡ true → is_among fs d ≡ true → Chained p c d
  frames_chained f g s aside was a fs are c d q r =
      ⊎_elim
      (λ (same : fs ≡ a.functions). a.chained c d (subst (λ hs. is_among hs c ≡ true) same q) (subst (λ hs. is_among hs d ≡ true) same r))
      (λ (more : (b : ℕ) × ((is_among a.functions b ≡ true) ⊎ Contains (called_in g.code) b) × (fs ≡ b ∷ a.functions)).
      let q1 = subst (λ hs. is_among hs c ≡ true) more.2 q in
      let r1 = subst (λ hs. is_among hs d ≡ true) more.2 r in
      ⊎_elim
      (λ (again : is_among a.functions more.0 ≡ true). a.chained c d (among_again more.0 c again q1) (among_again more.0 d again r1))
      (λ (there : Contains (called_in g.code) more.0).
      with_called more.0 a.functions (called_from f g s aside was a more.0 there) a.chained c d q1 r1)
      more.1)
      are
    where
      among_again : (b c : ℕ) → is_among a.functions b ≡ true → is_among (b ∷ a.functions) c ≡ true → is_among a.functions c ≡ true
      among_again b c again q =
          ⊎_elim
          (λ (i : (b == c) ≡ true). subst (λ k. is_among a.functions k ≡ true) (eqb-true b c i) again)
          (λ (i : is_among a.functions c ≡ true). i)
          (or_cases (b == c) (is_among a.functions c) q)

  -- ---- bytes of the stack are none of scratch memory and of leaves

  pub scratch_kind : (f : ℕ) (g : PlainIrFunction) → slice_get p.functions f ≡ Some g → (k : ℕ) → scratch_of f ≤ k
      → k < scratch_of f + 16 * g.slots → e.kind k ≡ Own
  scratch_kind f g q k l m =
      let x = selected_of f g q in
      let i : scratch_of f + (k - scratch_of f) ≡ k = omega arith in
      subst (λ j. e.kind j ≡ Own) i (x.scratch_stands.kind (k - scratch_of f) (omega arith))

  pub stack_scratch : (f : ℕ) (g : PlainIrFunction) → slice_get p.functions f ≡ Some g → (k : ℕ) → e.kind k ≡ Stacked
      → Outside (scratch_of f) (16 * g.slots) k
  stack_scratch f g q k stacked l =
      ⊎_elim
      (λ (m : k < scratch_of f + 16 * g.slots). absurd (own_is_not_stacked (e.kind k) (scratch_kind f g q k l m) stacked))
      (λ (m : scratch_of f + 16 * g.slots ≤ k). m)
      (cases_lt k (scratch_of f + 16 * g.slots))

  pub stack_leaf : (f : ℕ) (g : PlainIrFunction) → slice_get p.functions f ≡ Some g → (l : ObjectLeaf (data_of p) DataBank) (k : ℕ)
      → 256 ≤ k → e.kind k ≡ Stacked → Outside (leaf_at l) l.bytes k
  stack_leaf f g q l k high stacked u =
      let x = selected_of f g q in
      let n = size_of_type p.structs l.declared.ty in
      let inside = (lies w.fill w.cells p w.valid e g.slots (homes_of f) (scratch_of f) place x.scratch_stands x.objects_stand l).inside in
      ⊎_elim
      (λ (m : k < leaf_at l + l.bytes). absurd (by_storage l.declared.storage n inside
      (x.objects_stand.each l.object l.declared l.is_object l.home) m))
      (λ (m : leaf_at l + l.bytes ≤ k). m)
      (cases_lt k (leaf_at l + l.bytes))
    where
      in_object : (n : ℕ) → l.at + l.bytes ≤ n → ((i : ℕ) → i < n → e.kind (place l.object + i) ≡ Object)
          → k < leaf_at l + l.bytes → ⊥
      in_object n inside f m =
          let i : place l.object + (k - place l.object) ≡ k = omega arith in
          object_is_not_stacked (e.kind k) (subst (λ j. e.kind j ≡ Object) i (f (k - place l.object) (omega arith))) stacked

      by_storage : (storage : PlainStorage) (n : ℕ) → l.at + l.bytes ≤ n → ObjectStands e l.object n (place l.object) storage
          → k < leaf_at l + l.bytes → ⊥
      by_storage (static inits) n inside x m = in_object n inside x.kind m
      by_storage (local j) n inside x m = in_object n inside x.kind m
      by_storage (param j) n inside x m = in_object n inside x.kind m
      by_storage (register first) n inside x m = let z = x.0 in let y = x.2 in absurd (omega arith)

  -- an operation can push two bytes, which are not set aside
  pub pushes : (f : ℕ) (g : PlainIrFunction) (s : ℕ) (aside : ℕ → Bool) (was : ℕ → ℕ) → Active f g s aside was
      → (257 ≤ s) × (s < 65536) × (w.low + 1 ≤ s)
  pushes f g s aside was a =
      let r : w.low + 2 * 0 + 16 ≤ s + 1 = a.room [] tt in
      let high = w.high in
      let last = a.below in
      let top = w.below in
      (omega arith, omega arith, omega arith)

  pub pushed_kind : (f : ℕ) (g : PlainIrFunction) (s : ℕ) (aside : ℕ → Bool) (was : ℕ → ℕ) → Active f g s aside was
      → (k : ℕ) → s - 1 ≤ k → k ≤ s → e.kind k ≡ Stacked
  pushed_kind f g s aside was a k l m =
      let r = (pushes f g s aside was a).2 in
      let last = a.below in
      w.stacked k (omega arith) (omega arith)

  pub pushed_free : (f : ℕ) (g : PlainIrFunction) (s : ℕ) (aside : ℕ → Bool) (was : ℕ → ℕ) → Active f g s aside was
      → (k : ℕ) → aside k ≡ true → (k ≢ s) × (k ≢ s - 1)
  pushed_free f g s aside was a k q =
      let r = (pushes f g s aside was a).2 in (
        λ i. (let z = a.free k q (omega arith) in omega arith),
        λ i. (let z = a.free k q (omega arith) in omega arith),
      )

  abbrev pub setting_of : (f : ℕ) (g : PlainIrFunction) (s : ℕ) (aside : ℕ → Bool) (was : ℕ → ℕ) → Active f g s aside was
      → Setting (data_of p) e g.slots (home (homes_of f)) (base_of f) place
  setting_of f g s aside was a = record {
    program = p;
    active = a.functions;
    called = called_in g.code;
    chained = λ fs are c d q r. frames_chained f g s aside was a fs are c d q r;
    layout = layout_of f g a.is;
    aside = aside;
    was = was;
    stands = standing_by was;
    inputs = w.inputs;
    feeds = w.feeds;
    taken = w.taken;
    work = w.selected.work;
    cells = w.cells;
    work_stands = w.selected.work_stands;
    temps_work = λ t it. temp_work f g t a.is it;
    leaves_work = λ l j m. leaf_outside_work f g a.is l j m;
    work_aside = a.work;
    cells_aside = a.cells;
    cells_stand = λ c s l. cell_stands first_cell_at w.cells was c s l;
    others_stand = λ k groups o. other_stands first_cell_at w.cells was k groups o;
    fixed = w.fixed;
    routines = w.routines;
    pointers = w.pointers;
    numbers = w.numbers;
    objects_stand = (selected_of f g a.is).objects_stand.each;
    objects_apart = (selected_of f g a.is).objects_stand.apart;
    tables_stand = w.selected.tables;
    page = w.selected.page;
    valid = w.valid.objects;
    structs = w.valid.structs;
    high = a.high;
    temps_aside = λ t k it q. temp_aside f g k t a.is (a.high k q) (a.own k q) it;
    leaves_aside = a.leaves;
    stack = s;
    stack_high = (pushes f g s aside was a).0;
    stack_below = (pushes f g s aside was a).1;
    stacked = λ k l m. pushed_kind f g s aside was a k l m;
    stack_free = λ k q. pushed_free f g s aside was a k q;
    pointer_low = a.pointer_low;
    pointer_high = a.pointer_high;
    pointer = a.pointer;
    temps_stack = λ t k it high stacked. temp_aside f g k t a.is (omega arith) (stack_scratch f g a.is k stacked) it;
    leaves_stack = λ l k high stacked. stack_leaf f g a.is l k high stacked;
  }

  -- no byte of a leaf is the stack's
  pub leaf_not_stacked : (f : ℕ) (g : PlainIrFunction) → slice_get p.functions f ≡ Some g → (l : ObjectLeaf (data_of p) DataBank)
      (i : ℕ) → i < l.bytes → e.kind (leaf_at l + i) ≡ Stacked → 256 ≤ leaf_at l + i → ⊥
  leaf_not_stacked f g q l i m stacked high =
      let z = stack_leaf f g q l (leaf_at l + i) high stacked (omega arith) in
      absurd (omega arith)

  -- nor one of scratch memory
  pub leaf_outside_scratch : (f : ℕ) (g : PlainIrFunction) → slice_get p.functions f ≡ Some g → (l : ObjectLeaf (data_of p) DataBank)
      (i : ℕ) → i < l.bytes → Outside (scratch_of f) (16 * g.slots) (leaf_at l + i)
  leaf_outside_scratch f g q l i m u =
      let x = selected_of f g q in
      let n = size_of_type p.structs l.declared.ty in
      let inside = (lies w.fill w.cells p w.valid e g.slots (homes_of f) (scratch_of f) place x.scratch_stands x.objects_stand l).inside in
      let r = x.objects_stand.scratch_apart l.object l.declared l.is_object l.home in
      ⊎_elim
      (λ (z : place l.object < scratch_of f). let y = r.left z in absurd (omega arith))
      (λ (z : scratch_of f ≤ place l.object). let y = r.right z in omega arith)
      (cases_lt (place l.object) (scratch_of f))

  -- a row that stands apart
  row_outside : (a m b n k : ℕ) → Apart a m b n → b ≤ k → k < b + n → Outside a m k
  row_outside a m b n k x l r =
      let i : b + (k - b) ≡ k = omega arith in
      subst (λ j. Outside a m j) i (outside_row a m b n (k - b) x (omega arith))

  row_outside_back : (a m b n k : ℕ) → Apart b n a m → b ≤ k → k < b + n → Outside a m k
  row_outside_back a m b n k x l r q =
      ⊎_elim
      (λ (z : b < a). let y = x.left z in absurd (omega arith))
      (λ (z : a ≤ b). let y = x.right z in omega arith)
      (cases_lt b a)

  -- ---- a call

  -- there are two bytes to push
  pub has_room : (f : ℕ) (g : PlainIrFunction) (s : ℕ) (aside : ℕ → Bool) (was : ℕ → ℕ) → Active f g s aside was
      → (b : ℕ) → Contains (called_in g.code) b → w.low + 1 ≤ s
  has_room f g s aside was a b there =
      let r : w.low + 2 * length (b ∷ []) + 16 ≤ s + 1 = a.room (b ∷ []) (rw (a.is) there, tt) in
      omega arith

  pub called : (f : ℕ) (g : PlainIrFunction) (s : ℕ) (aside : ℕ → Bool) (was : ℕ → ℕ) → Active f g s aside was
      → (b : ℕ) (h : PlainIrFunction) → Contains (called_in g.code) b → slice_get p.functions b ≡ Some h → (u : View)
      → sp u ≡ s - 2 → Active b h (s - 2) (aside_by aside (scratch_of f) (16 * g.slots) s) u.at
  called f g s aside was a b h there is u pointer =
      let first = has_room f g s aside was a b there in
      let high = w.high in
      let top = w.below in
      let last = a.below in
      let x = selected_of f g a.is in
      let outside = x.scratch_stands.high in
      let to : CallsTo p b f = calls f g a.is there in
      record {
        is = is;
        functions = b ∷ a.functions;
        runs = or_left (b == b) (is_among a.functions b) (eq-eqb b b refl);
        leading = λ c q. ⊎_elim (λ (i : (b == c) ≡ true). inl (sym (eqb-true b c i)))
            (λ (i : is_among a.functions c ≡ true). inr (called_from f g s aside was a b there c i))
            (or_cases (b == c) (is_among a.functions c) q);
        chained = with_called b a.functions (called_from f g s aside was a b there) a.chained;
        high = λ k q. aside_cases aside (scratch_of f) (16 * g.slots) s k (32 ≤ k) q (λ r. a.high k r) (λ l m. omega arith)
            (λ l m. omega arith);
        leaves = λ l k q. aside_cases aside (scratch_of f) (16 * g.slots) s k (Outside (leaf_at l) l.bytes k) q (λ r. a.leaves l k r)
            (λ i m. leaf_scratch l k i m) (λ i m. stack_leaf f g a.is l k (omega arith) (w.stacked k (omega arith) (omega arith)));
        own = λ k q. aside_cases aside (scratch_of f) (16 * g.slots) s k (Outside (scratch_of b) (16 * h.slots) k) q
            (λ r. a.others b h to is k r)
            (λ l m. row_outside_back (scratch_of b) (16 * h.slots) (scratch_of f) (16 * g.slots) k
            (w.selected.apart f b g h to a.is is) l m)
            (λ l m. stack_scratch b h is k (w.stacked k (omega arith) (omega arith)));
        others = λ c i r z k q. (let through : CallsTo p c f = calls_through f b g a.is there r in
            aside_cases aside (scratch_of f) (16 * g.slots) s k (Outside (scratch_of c) (16 * i.slots) k) q
            (λ r. a.others c i through z k r)
            (λ l m. row_outside_back (scratch_of c) (16 * i.slots) (scratch_of f) (16 * g.slots) k
            (w.selected.apart f c g i through a.is z) l m) (λ l m. stack_scratch c i z k (w.stacked k (omega arith) (omega arith))));
        free = λ k q l. aside_cases aside (scratch_of f) (16 * g.slots) s k (s - 2 < k) q (λ r. let z = a.free k r l in omega arith)
            (λ i m. scratch_free k l i m) (λ i m. omega arith);
        work = λ k q. aside_cases aside (scratch_of f) (16 * g.slots) s k (Outside w.selected.work 64 k) q (λ r. a.work k r)
            (λ l m. scratch_work k l m)
            (λ l m. stack_work k (w.stacked k (omega arith) (omega arith)));
        cells = λ c l. aside_before aside (scratch_of f) (16 * g.slots) s (first_cell_at + c) (a.cells c l);
        pointer_low = aside_before aside (scratch_of f) (16 * g.slots) s 93 a.pointer_low;
        pointer_high = aside_before aside (scratch_of f) (16 * g.slots) s 94 a.pointer_high;
        pointer = pointer;
        room = λ fs on. (let r : w.low + 2 * length (b ∷ fs) + 16 ≤ s + 1 = a.room (b ∷ fs) (rw (a.is) there, on) in omega arith);
        below = omega arith;
      }
    where
      leaf_scratch : (l : ObjectLeaf (data_of p) DataBank) (k : ℕ) → scratch_of f ≤ k → k < scratch_of f + 16 * g.slots
          → Outside (leaf_at l) l.bytes k
      leaf_scratch l k i m q =
          let x = selected_of f g a.is in
          let inside = (lies w.fill w.cells p w.valid e g.slots (homes_of f) (scratch_of f) place x.scratch_stands x.objects_stand l).inside in
          let z = row_outside (place l.object) (size_of_type p.structs l.declared.ty) (scratch_of f) (16 * g.slots) k
          (x.objects_stand.scratch_apart l.object l.declared l.is_object l.home) i m in
          let y = z (omega arith) in
          omega arith

      scratch_work : (k : ℕ) → scratch_of f ≤ k → k < scratch_of f + 16 * g.slots → Outside w.selected.work 64 k
      scratch_work k i m q =
          let far = w.selected.work_apart f g a.is in
          ⊎_elim (λ (z : scratch_of f < w.selected.work). let y = far.left z in absurd (omega arith))
          (λ (z : w.selected.work ≤ scratch_of f). let y = far.right z in omega arith)
          (cases_lt (scratch_of f) w.selected.work)

      scratch_free : (k : ℕ) → w.low ≤ k → scratch_of f ≤ k → k < scratch_of f + 16 * g.slots → s - 2 < k
      scratch_free k l i m =
          let last = a.below in
          ⊎_elim
          (λ (z : w.top < k). omega arith)
          (λ (z : k ≤ w.top). absurd (own_is_not_stacked (e.kind k) (scratch_kind f g a.is k i m) (w.stacked k l z)))
          (cases_lt w.top k)

  pub called_functions : (f : ℕ) (g : PlainIrFunction) (s : ℕ) (aside : ℕ → Bool) (was : ℕ → ℕ) (a : Active f g s aside was)
      (b : ℕ) (h : PlainIrFunction) (there : Contains (called_in g.code) b) (is : slice_get p.functions b ≡ Some h) (u : View)
      (pointer : sp u ≡ s - 2) → (called f g s aside was a b h there is u pointer).functions ≡ b ∷ a.functions
  unfolding called
  called_functions f g s aside was a b h there is u pointer = refl
