-- Operations that are left, and what is shown of a run of them.
use Rattle.std.proofs.Common.{◌≡◌, ℕ, ◌+◌, ◌≤◌, true, List, [], ◌∷◌, ◌++◌, None, Some, Option, refl, subst, arith}
use Rattle.std.specs.Prelude.{Contains, ⊤}
use Rattle.std.specs.List.{AllByRecursion}
use Rattle.std.proofs.lemmas.List.Elements.{Contains-append_right}
use Rattle.ec_asm.specs.declared.items.AsmItem.{AsmItem}
use Rattle.ec_asm.specs.declared.pieces.Location.{Location}
use Rattle.ec_asm.specs.View.{View}
use Rattle.ec_asm.specs.Change.{Env}
use Rattle.ec_asm.specs.Items.{HasAt, block, code_steps, all_straight}
use Rattle.ec_asm.proofs.Hoare.{has_parts, block_goes}
use Rattle.ec_core.specs.declared.values.Value.{Value}
use Rattle.ec_core.specs.Plain.{PlainProgram}
use Rattle.ec_core.specs.State.{State, worked, Outcome}
use Rattle.ec_ir.specs.declared.operations.Temp.{Temp}
use Rattle.ec_ir.specs.Costs.{op_steps}
use Rattle.ec_ir.specs.Meaning.{Mach, Frame as Call, is_among, active as active_functions}
use Rattle.ec_ir.specs.Operations.{PlainIr, PlainIrFunction}
use Rattle.ec_ir.specs.Valid.{called_in}
use Rattle.ec_select_operations.specs.declared.families.Told.{Told}
use Rattle.ec_select_operations.specs.Code.{Linkage, own_code, called_code, linked_code, routine_used, result_wanted, tells_next, ops_code}
use Rattle.ec_select_operations.specs.Code.{needed_behind}
use Rattle.ec_select_operations.specs.Routines.{HasRoutineOf}
use Rattle.ec_select_functions.specs.Covered.{IsCovered, AreCovered}
use Rattle.ec_select_functions.specs.Laws.{CanCall}
use Rattle.ec_select_operations.specs.Needs.{Need, Facts, facts_of, needs, takes_count, IsLiveBy}
use Rattle.ec_select_operations.specs.Pointers.{has_tables}
use Rattle.ec_select_functions.specs.Relation.{Matches}
use Rattle.ec_select_functions.proofs.Cells.{UsesCells}
use Rattle.ec_select_functions.proofs.Behind.{GoesBehind, GoBehind}
use Rattle.ec_select_functions.proofs.Counts.{used_is}
use Rattle.ec_select_functions.proofs.Checked.{checked_on, performed}
use Rattle.ec_select_functions.proofs.Follow.{Follows, after}
use Rattle.ec_select_functions.proofs.Setting.{Setting}

-- code at its use, where no routine is called
pub own_is : (routine : Option ℕ) (called : ℕ → List AsmItem) (own : List AsmItem) → ((l : ℕ) → routine ≡ Some l → ⊥)
    → linked_code routine called own ≡ own
own_is None called own none = refl
own_is (Some l) called own none = absurd (none l refl)

-- the routine that an operation calls stands, and can be called
abbrev pub IsLinked : Env → Linkage → PlainIr → Type 0
IsLinked e link i = (l : ℕ) → link.routine_of i ≡ Some l → HasRoutineOf e l i × CanCall i

-- operations of a function, all of which are the list `all`, that are covered, whose routines stand, which use none but so many
-- cells, and whose branches over a jump go behind it
abbrev pub AreReady : (p : PlainProgram) (e : Env) (cells : ℕ) (results : ℕ → ℕ) (f : ℕ) (called : List ℕ) (slots : ℕ) → Linkage
    → (all code : List PlainIr) → Type 0
AreReady p e cells results f called slots link all [] = ⊤
AreReady p e cells results f called slots link all (i ∷ code) =
    (IsCovered p results f called slots i × IsLinked e link i × UsesCells cells i × GoesBehind all i code)
    × AreReady p e cells results f called slots link all code

pub are_ready : (p : PlainProgram) (e : Env) (cells : ℕ) (results : ℕ → ℕ) (f : ℕ) (called : List ℕ) (slots : ℕ) (link : Linkage)
    (all code : List PlainIr) → AreCovered p results f called slots code → AllByRecursion (UsesCells cells) code → GoBehind all code
    → ((i : PlainIr) → Contains code i → IsLinked e link i) → AreReady p e cells results f called slots link all code
are_ready p e cells results f called slots link all [] covered cell go linked = tt
are_ready p e cells results f called slots link all (i ∷ code) covered cell go linked = (
  (covered.0, linked i (0, omega arith, refl), cell.0, go.0),
  are_ready p e cells results f called slots link all code covered.1 cell.1 go.1
      (λ j there. linked j (Contains-append_right (i ∷ []) code j there)),
)

module _ (p : PlainProgram) (functions : List PlainIrFunction) (e : Env) (slots : ℕ) (home : Temp → Location)
    (base : Temp → ℕ) (place : ℕ → ℕ) (y : Setting p e slots home base place) (labels : ℕ → Need) (all : List PlainIr)
    (end : ℕ) (results : ℕ → ℕ) (me : ℕ) (link : Linkage) (stack : List Call) where
  -- what the code of the function is made by
  abbrev at : Facts
  at = facts_of (has_tables p.objects) labels all

  abbrev pub M : Need → Mach → View → Type 0
  M need m v = Matches p e y.inputs slots base place y.aside y.stands y.active y.called need m v

  abbrev pub G : (n w pc : ℕ) → View → Outcome Value → Type 0
  G n w pc v o = Follows p place e n w pc v o

  -- the code of operations, of which the first one has been told so much
  abbrev pub items_told : Option Told → List PlainIr → List AsmItem
  items_told told code = ops_code p home link at told code

  abbrev pub items : List PlainIr → List AsmItem
  items code = items_told None code

  -- that of one at its use, which has been told nothing, tells nothing, and takes no number
  abbrev pub code_of : PlainIr → List PlainIr → List AsmItem
  code_of i rest = own_code p home link None None None (needed_behind labels (needs at rest) i) i

  -- an operation whose code stands at its use and which has been told so much, and those behind it
  abbrev pub own_told : Option Told → PlainIr → List PlainIr → List AsmItem
  own_told told i rest =
      own_code p home link told (tells_next link.core p home at told i rest) (at.known (i ∷ rest))
      (needed_behind labels (needs at rest) i) i
      ++ items_told (tells_next link.core p home at told i rest) rest

  abbrev pub own_items : PlainIr → List PlainIr → List AsmItem
  own_items i rest = own_told None i rest

  -- one that can have no routine is such an operation, also behind other code
  pub at_use_behind : (first : List AsmItem) (told : Option Told) (i : PlainIr) (rest : List PlainIr) (pc : ℕ) → IsLinked e link i
      → ((l : ℕ) → HasRoutineOf e l i → ⊥) → HasAt e (first ++ items_told told (i ∷ rest)) pc end
      → HasAt e (first ++ own_told told i rest) pc end
  at_use_behind first told i rest pc linked none stands =
      subst (λ x. HasAt e (first ++ (x ++ items_told (tells_next link.core p home at told i rest) rest)) pc end)
      (own_is (routine_used (at.known (i ∷ rest)) i (link.routine_of i))
      (λ l. called_code home l (result_wanted (needed_behind labels (needs at rest) i) i) i)
      (own_code p home link told (tells_next link.core p home at told i rest) (at.known (i ∷ rest))
      (needed_behind labels (needs at rest) i) i)
      (λ l q. none l (linked l (used_is (takes_count (at.known (i ∷ rest)) i) (link.routine_of i) l q)).0)) stands

  -- the function runs: it is one of those that are active, which are main and those that were called, and its code is for the
  -- core that runs it
  pub record IsRunning : Type 0 where
    pub active : is_among y.active me ≡ true
    pub stacked : active_functions p.main stack ≡ y.active
    pub core : link.core ≡ e.core

  -- the operations that are left have their code from this word on
  pub record Ready (pc : ℕ) (rest : List PlainIr) : Type 0 where
    pub covered : AreReady p e y.cells results me y.called slots link all rest
    pub live : IsLiveBy at rest
    pub inside : (b : ℕ) → Contains (called_in rest) b → Contains (called_in all) b
    pub here : IsRunning
    pub stands : HasAt e (items rest) pc end

  pub at_use : (i : PlainIr) (rest : List PlainIr) (pc : ℕ) → Ready pc (i ∷ rest) → ((l : ℕ) → HasRoutineOf e l i → ⊥)
      → HasAt e (own_items i rest) pc end
  at_use i rest pc r none = at_use_behind [] None i rest pc r.covered.0.1 none r.stands

  -- the run of operations from here on
  abbrev pub R : ℕ → List PlainIr → Mach → Outcome Value
  R n rest m = checked_on functions p y.inputs n all stack rest m

  -- an operation, and those behind it
  abbrev pub P : ℕ → PlainIr → List PlainIr → Mach → Outcome Value
  P n i rest m = performed functions p y.inputs n all stack i rest m

  -- straight code, and what comes after it
  pub goes_past : (code behind : List AsmItem) (n n1 w w1 pc : ℕ) (v : View) (o : Outcome Value)
      → HasAt e (code ++ behind) pc end → all_straight code ≡ true → n1 ≤ code_steps code + n → w + code_steps code ≤ w1
      → ((mid : ℕ) → HasAt e behind mid end → G n w1 mid (block e code v) o) → G n1 w pc v o
  goes_past code behind n n1 w w1 pc v o stands straight least most f =
      let s = has_parts e code behind pc end stands in
      let goes = block_goes e code pc s.0 v straight s.1 in
      after p place e (code_steps code) n n1 w w1 pc s.0 v (block e code v) o goes least most (f s.0 s.2)

  -- that of an operation
  pub passes : (i : PlainIr) (rest : List PlainIr) (n n1 w w1 pc : ℕ) (v : View) (o : Outcome Value)
      → HasAt e (code_of i rest ++ items rest) pc end → all_straight (code_of i rest) ≡ true
      → n1 ≤ code_steps (code_of i rest) + n → w + code_steps (code_of i rest) ≤ w1
      → ((mid : ℕ) → HasAt e (items rest) mid end → G n w1 mid (block e (code_of i rest) v) o) → G n1 w pc v o
  passes i rest n n1 w w1 pc v o stands straight least most f =
      goes_past (code_of i rest) (items rest) n n1 w w1 pc v o stands straight least most f

  -- what is shown of the rest
  abbrev pub Rest : ℕ → List PlainIr → Type 0
  Rest n rest = (pc : ℕ) (m : Mach) (v : View) → HasAt e (items rest) pc end → M (needs at rest) m v
      → G n m.state.work pc v (R n rest m)

  -- the state once the steps of an operation are counted
  abbrev pub begun : PlainIr → Mach → State
  begun i m = worked (op_steps i) m.state
