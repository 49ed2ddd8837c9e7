-- How the operations have what a program has: their objects have one home each, so a pointer does not tell an instance.
use Rattle.std.proofs.Common.{arith}
use Rattle.std.specs.Prelude.{⊤, ◌≡◌, ℕ, ◌+◌, ◌*◌, ◌≤◌, true, List, [], ◌∷◌, length, Option, Some, None, option_map, option_and_then}
use Rattle.std.specs.Prelude.{unwrap_or, slice_get}
use Rattle.ec_iohw.specs.declared.table.Choice.{Choice}
use Rattle.ec_core.specs.declared.values.ObjectPointer.{ObjectPointer}
use Rattle.ec_core.specs.declared.values.Value.{Value}
use Rattle.ec_core.specs.declared.values.Value.TheVariants.{Number, Pointer}
use Rattle.ec_core.specs.Accesses.{leaf_count, leaf_of}
use Rattle.ec_core.specs.Layout.{scalar_size}
use Rattle.ec_core.specs.Plain.{PlainType, PlainStorage, PlainObject, PlainProgram}
use Rattle.ec_core.specs.PortTable.{PlainTable, choices_of}
use Rattle.ec_core.specs.State.{ObjectState, GroupStates, State}
use Rattle.ec_ir.specs.Meaning.{is_kept, Mach}
use Rattle.ec_ir.specs.Temporaries.{Held, content_of}

abbrev pub erased : ObjectPointer → ObjectPointer
erased p = record { object = p.object; instance = 0; offset = p.offset }

abbrev pub shown : Value → Value
shown (Number n) = Number n
shown (Pointer p) = Pointer (option_map erased p)

-- a value of a type in a temporary
abbrev pub held_of : PlainType → Value → Held
held_of ty v = record { bytes = scalar_size ty; content = content_of (scalar_size ty) (shown v) }

-- The home of an object beside its newest instance. Where that one lives, it is of one of these functions, or of none,
-- whose frames stand, and its home has each value that is set there
pub record IsShown (fs : List ℕ) (leaves : ℕ) (storage : PlainStorage) (x y : ObjectState) : Type 0 where
  pub serial : y.serial ≡ 0
  pub count : length y.leaves ≡ leaves
  pub kept : x.live ≡ true → is_kept fs storage ≡ true
  pub stands : is_kept fs storage ≡ true → y.live ≡ true
  pub values : x.live ≡ true → (k : ℕ) (v : Value) → leaf_of x k ≡ Some v → leaf_of y k ≡ Some (shown v)

abbrev pub AreShown : PlainProgram → List ℕ → List PlainObject → List ObjectState → List ObjectState → Type 0
AreShown program fs [] [] [] = ⊤
AreShown program fs [] [] (y ∷ ys) = ⊥
AreShown program fs [] (x ∷ xs) ys = ⊥
AreShown program fs (o ∷ os) [] ys = ⊥
AreShown program fs (o ∷ os) (x ∷ xs) [] = ⊥
AreShown program fs (o ∷ os) (x ∷ xs) (y ∷ ys) =
    IsShown fs (leaf_count program o.ty) o.storage x y × AreShown program fs os xs ys

-- what a dynamic group is bound to, by its number or by the choice of the table
abbrev pub choice_in : GroupStates → (dynamic : ℕ) → Option ℕ
choice_in x d = unwrap_or (slice_get x.choices d) None

abbrev pub bound_in : PlainTable → GroupStates → (dynamic : ℕ) → Option Choice
bound_in table x d = option_and_then (λ k. slice_get (choices_of table d) k) (choice_in x d)

-- Cells beside the groups of the program: that of a dynamic group holds the base of what the group is bound to
pub record AreBased (table : PlainTable) (x y : GroupStates) : Type 0 where
  pub room : length y.choices ≡ 256
  pub bases : (d : ℕ) (c : Choice) → bound_in table x d ≡ Some c → choice_in y d ≡ Some c.base

-- A machine stands where the program does, where the live parameters and locals are those of some functions, and could
-- take d words' steps more within its work, of which 200 words are not its own
pub record Match (program : PlainProgram) (table : PlainTable) (fs : List ℕ) (d : ℕ) (s : State) (m : Mach) : Type 0 where
  pub objects : AreShown program fs program.objects s.objects m.state.objects
  pub cells : AreBased table s.groups m.state.groups
  pub events : m.state.events ≡ s.events
  pub spent : m.state.work + 64 * d + 12_800 ≤ 64 * s.work

-- It has shown what the program has, within its work
pub record Stopped (s : State) (m : Mach) : Type 0 where
  pub events : m.state.events ≡ s.events
  pub spent : m.state.work + 12_800 ≤ 64 * s.work

pub stopped_at : {program : PlainProgram} {table : PlainTable} {fs : List ℕ} (d : ℕ) (s : State) (m : Mach)
    → Match program table fs d s m → Stopped s m
stopped_at d s m h = record { events = h.events; spent = let e = h.spent in omega (arith, e) }
