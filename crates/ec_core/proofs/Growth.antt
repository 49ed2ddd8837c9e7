-- Whatever is evaluated leads on from its state by steps.
use Rattle.std.proofs.Common.{◌≡◌, ◌≤◌, ℕ, zero, suc, ◌+◌, ◌*◌, ◌/◌, ◌%◌, Bool, true, false, ◌&&◌, List, [], ◌∷◌, Option, Some, None}
use Rattle.std.proofs.Common.{Result, Ok, Err, refl, subst, arith}
use Rattle.std.specs.Prelude.{⊤, if◌then◌else◌, option_and_then, option_map, slice_get, nat_lt}
use Rattle.ec_iohw.specs.declared.operations.IoOp.{IoOp}
use Rattle.ec_iohw.specs.declared.table.Choice.{Choice}
use Rattle.ec_iohw.specs.declared.table.Pair.{Pair}
use Rattle.ec_space.specs.declared.space.SpaceId.{SpaceId}
use Rattle.ec_space.specs.Spaces.{holds}
use Rattle.ec_core.specs.declared.values.ObjectPointer.{ObjectPointer}
use Rattle.ec_core.specs.declared.values.Undefined.{Undefined}
use Rattle.ec_core.specs.declared.values.Undefined.TheVariants.{Unset, ConstWrite}
use Rattle.ec_core.specs.declared.values.Value.{Value}
use Rattle.ec_core.specs.declared.values.Value.TheVariants.{Number, Pointer}
use Rattle.ec_core.specs.Accesses.{is_readable, begun, all_ended, frame_ended, is_live_in, Access, access_of, access, recorded, leaf_of}
use Rattle.ec_core.specs.Accesses.{leaf_at, read_value, read, stored, is_fixed, write, own_access, first_write, initialised, operand_of}
use Rattle.ec_core.specs.Expressions.{Update, pointed_to, object_place, condition, truth_value, updated_place}
use Rattle.ec_core.specs.Laws.{IsMade, Step, takes_work, reads_port, writes_port, changes_group, binds_group, reads_leaf, writes_leaf, begins_object}
use Rattle.ec_core.specs.Laws.{ends_object, ends_frame, Leads, here, onward}
use Rattle.ec_core.specs.Meaning.{state_of}
use Rattle.ec_core.specs.Operators.{truth_result, compound_result}
use Rattle.ec_core.specs.Plain.{PlainType, void, integer, fixed, pointer, array, struct, PlainExpr, PlainPlace, PlainObject, PlainProgram}
use Rattle.ec_core.specs.Pointers.{Pointer as PointerValue}
use Rattle.ec_core.specs.PortAccesses.{byte_read, bytes_read, bytes_written, port_accessed, is_open, within, opened, port_effect}
use Rattle.ec_core.specs.PortAccesses.{standing_port, accessed, pairs_written, pairs_of, group_effect}
use Rattle.ec_core.specs.PortAccesses.{bound, bind_effect, choice_effect, dynamic_effect}
use Rattle.ec_core.specs.PortOperations.{PortAction, reads, writes, updates, port_operation}
use Rattle.ec_core.specs.PortTable.{PlainPort, PlainGroup}
use Rattle.ec_core.specs.State.{Setting, Read, told, ObjectState, State, worked, Outcome, got, more, undefined, next, given, choose}
use Rattle.ec_core.specs.Statements.{Exit, at_end, by_break, by_continue, by_return, in_order, again, tested, turns, unreturned}
use Rattle.ec_core.specs.Statements.{call_result}
use Rattle.ec_core.specs.Typing.{type_of_expr}
use Rattle.ec_core.specs.Words.{loop_words}
use Rattle.ec_core.proofs.Steps.{leads_on, by_step, itself, leads_add}

-- ---- accesses

pub and_true : (a b : Bool) → (a && b) ≡ true → (a ≡ true) × (b ≡ true)
and_true true b e = (refl, e)
and_true false b e = cc

pub some_if : {A : Type 0} (b : Bool) (o : Option A) (x : A) → (if b then o else None) ≡ Some x → (b ≡ true) × (o ≡ Some x)
some_if true o x e = (refl, e)
some_if false o x e = cc

pub some_then : {A B : Type 0} (o : Option A) (f : A → Option B) (y : B) → option_and_then f o ≡ Some y
    → (x : A) × (o ≡ Some x) × (f x ≡ Some y)
some_then None f y e = cc
some_then (Some x) f y e = (x, refl, e)

pub some_map : {A B : Type 0} (o : Option A) (f : A → B) (y : B) → option_map f o ≡ Some y → (x : A) × (o ≡ Some x) × (f x ≡ y)
some_map None f y e = cc
some_map (Some x) f y e = (x, refl, cc)

found_of : (program : PlainProgram) (s : State) (o : ℕ) (d : PlainObject) (x : ObjectState) (k : ℕ) (sp : SpaceId)
    → slice_get program.objects o ≡ Some d → slice_get s.objects o ≡ Some x → x.live ≡ true → holds sp d.home ≡ true
    → IsMade program s (record { object = o; leaf = k; space = sp; declared = d; state = x })
found_of program s o d x k sp e f l h = record { declared = e; state = f; live = l; home = h }

found_access_of : (program : PlainProgram) (ty : PlainType) (s : State) (sp : SpaceId) (p : ObjectPointer) (d : PlainObject)
    (x : ObjectState) (a : Access) → slice_get program.objects p.object ≡ Some d → slice_get s.objects p.object ≡ Some x
    → access_of program ty sp p d x ≡ Some a → IsMade program s a
found_access_of program ty s sp p d x a e f h =
    let c = some_if (is_live_in p x && holds sp d.home) _ a h in
    let b = and_true (is_live_in p x) (holds sp d.home) c.0 in
    let m = some_map (leaf_at program d ty p.offset) _ a c.1 in
    subst (IsMade program s) m.2 (found_of program s p.object d x m.0 sp e f (and_true x.live _ b.0).0 b.1)

pub found_access : (program : PlainProgram) (ty : PlainType) (space : Option SpaceId) (to : PointerValue) (s : State) (a : Access)
    → access program ty space to s ≡ Some a → IsMade program s a
found_access program ty space to s a h =
    let c = some_then space _ a h in
    let p = some_then to _ a c.2 in
    let d = some_then (slice_get program.objects p.0.object) _ a p.2 in
    let x = some_then (slice_get s.objects p.0.object) _ a d.2 in
    found_access_of program ty s c.0 p.0 d.0 x.0 a d.1 x.1 x.2

pub found_own : (program : PlainProgram) (o k : ℕ) (s : State) (a : Access) → own_access program o k s ≡ Some a → IsMade program s a
found_own program o k s a h =
    let d = some_then (slice_get program.objects o) _ a h in
    let x = some_then (slice_get s.objects o) _ a d.2 in
    let c = some_if (x.0.live && holds d.0.space d.0.home) _ a x.2 in
    let b = and_true x.0.live (holds d.0.space d.0.home) c.0 in
    let e : record { object = o; leaf = k; space = d.0.space; declared = d.0; state = x.0 } ≡ a = cc in
    subst (IsMade program s) e (found_of program s o d.0 x.0 k d.0.space d.1 x.1 b.0 b.1)

-- an outcome that is out of turns has done so much work
abbrev pub IsSpent : {A : Type 0} → ℕ → Outcome A → Type 0
IsSpent least (got x s) = ⊤
IsSpent least (more s) = least ≤ s.work
IsSpent least (undefined point s) = ⊤

module _ (w : Setting) (least : ℕ) where
  -- an outcome that a state leads to
  pub record Grows {A : Type 0} (s : State) (o : Outcome A) : Type 0 where
    pub leads : Leads w s (state_of o)
    pub spent : IsSpent least o

  pub still : {A : Type 0} {o : Outcome A} (s : State) → s ≡ state_of o → IsSpent least o → Grows s o
  still {A} {o} s e h = record { leads = here (state_of o) e; spent = h }

  pub grown : {A : Type 0} {o : Outcome A} {s : State} → Leads w s (state_of o) → IsSpent least o → Grows s o
  grown a h = record { leads = a; spent = h }

  pub grows_after : {A : Type 0} {o : Outcome A} {s t : State} → Leads w s t → Grows t o → Grows s o
  grows_after a g = record { leads = leads_on a g.leads; spent = g.spent }

  pub grows_next : {A B : Type 0} (s : State) (o : Outcome A) (go : A → State → Outcome B) → Grows s o
      → ((x : A) (t : State) → Grows t (go x t)) → Grows s (next o go)
  grows_next s (got x t) go g h = grows_after g.leads (h x t)
  grows_next s (more t) go g h = record { leads = g.leads; spent = g.spent }
  grows_next s (undefined point t) go g h = record { leads = g.leads; spent = tt }

  -- what goes on begins in a state that this one leads to
  grows_along : {A B : Type 0} (s : State) (o : Outcome A) (go : A → State → Outcome B) → Grows s o
      → ((x : A) (t : State) → Leads w s t → Grows t (go x t)) → Grows s (next o go)
  grows_along s (got x t) go g h = grows_after g.leads (h x t g.leads)
  grows_along s (more t) go g h = record { leads = g.leads; spent = g.spent }
  grows_along s (undefined point t) go g h = record { leads = g.leads; spent = tt }

  pub grows_given : {A : Type 0} (r : Result A Undefined) (s : State) → Grows s (given r s)
  grows_given (Ok x) s = still s refl tt
  grows_given (Err point) s = still s refl tt

  pub grows_choose : {A : Type 0} (h : Bool) (a b : State → Outcome A) (s : State) → Grows s (a s) → Grows s (b s)
      → Grows s (choose h a b s)
  grows_choose true a b s f g = f
  grows_choose false a b s f g = g

  pub worked_leads : (words : ℕ) (s : State) → Leads w s (worked words s)
  worked_leads words s = by_step (takes_work words refl)

  -- ---- reads and writes

  read_value_grows : (a : Access) (v : Option Value) (s : State) → leaf_of a.state a.leaf ≡ v → IsMade w.program s a
      → Grows s (read_value w.program a v s)
  read_value_grows a None s e f = still s refl tt
  read_value_grows a (Some v) s e f = readable (is_readable w.program v s)
    where
      readable : (b : Bool)
          → Grows s (if b then got v (recorded a.declared.storage (Read a.object a.leaf a.space (told v)) s) else undefined Unset s)
      readable true = grown (by_step (reads_leaf a v f e refl)) tt
      readable false = still s refl tt

  read_of_grows : (o : Option Access) (s : State) → ((a : Access) → o ≡ Some a → IsMade w.program s a) → Grows s (read w.program o s)
  read_of_grows None s f = still s refl tt
  read_of_grows (Some a) s f = read_value_grows a (leaf_of a.state a.leaf) s refl (f a refl)

  pub read_grows : (ty : PlainType) (space : Option SpaceId) (to : PointerValue) (s : State)
      → Grows s (read w.program (access w.program ty space to s) s)
  read_grows ty space to s = read_of_grows _ s (λ a h. found_access w.program ty space to s a h)

  stored_leads : (a : Access) (v : Value) (s : State) → IsMade w.program s a → Leads w s (stored a v s)
  stored_leads a v s f = by_step (writes_leaf a v f refl)

  write_of_grows : (o : Option Access) (v : Value) (s : State) → ((a : Access) → o ≡ Some a → IsMade w.program s a) → Grows s (write o v s)
  write_of_grows None v s f = still s refl tt
  write_of_grows (Some a) v s f = fixed_or (is_fixed a.declared)
    where
      fixed_or : (b : Bool) → Grows s (if b then undefined ConstWrite s else got v (stored a v s))
      fixed_or true = still s refl tt
      fixed_or false = grown (stored_leads a v s (f a refl)) tt

  pub write_grows : (ty : PlainType) (space : Option SpaceId) (to : PointerValue) (v : Value) (s : State)
      → Grows s (write (access w.program ty space to s) v s)
  write_grows ty space to v s = write_of_grows _ v s (λ a h. found_access w.program ty space to s a h)

  first_write_grows : (o : Option Access) (v : Value) (s : State) → ((a : Access) → o ≡ Some a → IsMade w.program s a)
      → Grows s (first_write o v s)
  first_write_grows None v s f = still s refl tt
  first_write_grows (Some a) v s f = grown (stored_leads a v s (f a refl)) tt

  pub initialised_grows : (o k : ℕ) (v : Value) (s : State) → Grows s (initialised w.program o k v s)
  initialised_grows o k v s = first_write_grows _ v s (λ a h. found_own w.program o k s a h)

  -- ---- ports

  pub bytes_read_leads : (n port : ℕ) (s : State) → Leads w s (bytes_read w.inputs n port s)
  bytes_read_leads zero port s = itself s
  bytes_read_leads (suc n) port s = leads_on (by_step (reads_port port refl)) (bytes_read_leads n (port + 1) (byte_read w.inputs port s))

  pub bytes_written_leads : (n port v : ℕ) (s : State) → Leads w s (bytes_written n port v s)
  bytes_written_leads zero port v s = itself s
  bytes_written_leads (suc n) port v s = leads_on (bytes_written_leads n (port + 1) (v / 256) s) (by_step (writes_port port (v % 256) refl))

  pub port_accessed_grows : (action : PortAction) (op : IoOp) (width port v : ℕ) (s : State)
      → Grows s (port_accessed w.inputs action op width port v s)
  port_accessed_grows reads op width port v s = grown (bytes_read_leads width port s) tt
  port_accessed_grows writes op width port v s = grown (bytes_written_leads width port v s) tt
  port_accessed_grows updates op width port v s = grown (leads_on (bytes_read_leads width port s) (bytes_written_leads width port _ _)) tt

  pub within_grows : (b : Bool) (op : IoOp) (port : PlainPort) (i v : ℕ) (s : State) → Grows s (within w.inputs b op port i v s)
  within_grows true op port i v s = port_accessed_grows (port_operation op).action op port.width _ v s
  within_grows false op port i v s = still s refl tt

  pub opened_grows : (b : Bool) (op : IoOp) (port : PlainPort) (i v : ℕ) (s : State) → Grows s (opened w.inputs b op port i v s)
  opened_grows true op port i v s = within_grows (nat_lt i port.count) op port i v s
  opened_grows false op port i v s = still s refl tt

  pub accessed_grows : (op : IoOp) (port : Option PlainPort) (i v : ℕ) (s : State) → Grows s (accessed w.inputs op port i v s)
  accessed_grows op None i v s = still s refl tt
  accessed_grows op (Some port) i v s = opened_grows (is_open port.group s) op port i v s

  pub port_effect_grows : (op : IoOp) (port : Option PlainPort) (i v : Value) (s : State)
      → Grows s (port_effect w.inputs w.table op port i v s)
  port_effect_grows op None i v s = still s refl tt
  port_effect_grows op (Some port) i v s = accessed_grows op (standing_port w.table port port.dynamic s) _ _ s

  pub pairs_written_leads : (pairs : List Pair) (s : State) → Leads w s (pairs_written pairs s)
  pairs_written_leads [] s = itself s
  pairs_written_leads (pair ∷ pairs) s = leads_on (by_step (writes_port pair.port pair.byte refl)) (pairs_written_leads pairs _)

  pub group_effect_grows : (acquire : Bool) (g : ℕ) (x : Option PlainGroup) (s : State) → Grows s (group_effect acquire g x s)
  group_effect_grows acquire g None s = still s refl tt
  group_effect_grows acquire g (Some x) s =
      grown (leads_on (pairs_written_leads (pairs_of acquire x) s) (by_step (changes_group g acquire refl))) tt

  pub bind_effect_grows : (d choice : ℕ) (s : State) → Grows s (bind_effect d choice s)
  bind_effect_grows d choice s = grown (by_step (binds_group d choice refl)) tt

  pub choice_effect_grows : (acquire : Bool) (c : Option Choice) (s : State) → Grows s (choice_effect acquire w.table c s)
  choice_effect_grows acquire None s = still s refl tt
  choice_effect_grows acquire (Some c) s = group_effect_grows acquire c.group (slice_get w.table.groups c.group) s

  pub dynamic_effect_grows : (acquire : Bool) (d : ℕ) (s : State) → Grows s (dynamic_effect acquire w.table d s)
  dynamic_effect_grows acquire d s = choice_effect_grows acquire (bound w.table d s) s

  -- ---- expressions

  pub pointed_to_grows : (v : Value) (s : State) → Grows s (pointed_to v s)
  pointed_to_grows (Number n) s = still s refl tt
  pointed_to_grows (Pointer p) s = still s refl tt

  pub condition_grows : (e : PlainExpr) (s : State) (o : Outcome Value) → Grows s o → Grows s (condition w e o)
  condition_grows e s o g = grows_next s o _ g (λ x t. grows_given (truth_result (operand_of w.program (type_of_expr e) x t)) t)

  pub truth_value_grows : (s : State) (o : Outcome Bool) → Grows s o → Grows s (truth_value o)
  truth_value_grows s o g = grows_next s o _ g (λ h t. still t refl tt)

  pub object_place_grows : (at : PointerValue) (s : State) → Grows s (object_place at s)
  object_place_grows None s = still s refl tt
  object_place_grows (Some p) s = still s refl tt

  pub updated_place_grows : (u : Update) (at : PointerValue) (old : Value) (right : PlainType) (x : Value) (s : State)
      → Grows s (updated_place w u at old right x s)
  updated_place_grows u at old right x s =
      grows_next s _ _ (grows_given
      (compound_result u.op u.operation_mode u.write_mode (operand_of w.program u.ty old s) (operand_of w.program right x s)) s)
      (λ v t. grows_next t _ _ (write_grows u.ty _ at v t) (λ y z. still z refl tt))

  -- ---- statements and functions

  pub in_order_grows : (x : Exit) (s : State) (go : State → Outcome Exit) → Grows s (go s) → Grows s (in_order x s go)
  in_order_grows at_end s go g = g
  in_order_grows by_break s go g = still s refl tt
  in_order_grows by_continue s go g = still s refl tt
  in_order_grows (by_return v) s go g = still s refl tt

  pub again_grows : (x : Exit) (s : State) (go : State → Outcome Exit) → Grows s (go s) → Grows s (again x s go)
  again_grows at_end s go g = g
  again_grows by_break s go g = still s refl tt
  again_grows by_continue s go g = g
  again_grows (by_return v) s go g = still s refl tt

  tested_along : (s : State) (o : Outcome Bool) (go : State → Outcome Exit) → Grows s o → ((t : State) → Leads w s t → Grows t (go t))
      → Grows s (tested o go)
  tested_along s o go g h = grows_along s o _ g (λ b t l. grows_choose b _ _ t (h t l) (grown (worked_leads _ t) tt))

  -- a loop that is out of n turns has done the work of n turns
  pub turns_grow : (n : ℕ) (body : State → Outcome Exit) (test : State → Outcome Bool) → ((s : State) → Grows s (body s))
      → ((s : State) → Grows s (test s)) → (s : State) → least ≤ s.work + loop_words * n → Grows s (turns n body test s)
  turns_grow zero body test g h s le = still s refl (omega (arith, le))
  turns_grow (suc n) body test g h s le =
      grows_after (worked_leads _ s) (grows_along _ _ _ (g _) (λ x t l. again_grows x t _ (tested_along t _ _ (h t) (λ u m.
      (let a = (leads_add w _ _ l).work in
      let b = (leads_add w _ _ m).work in
      turns_grow n body test g h u (omega (arith, le, a, b)))))))

  pub all_ended_leads : (os : List ℕ) (s : State) → Leads w s (all_ended os s)
  all_ended_leads [] s = itself s
  all_ended_leads (o ∷ os) s = leads_on (by_step (ends_object o refl)) (all_ended_leads os _)

  pub begun_leads : (o : ℕ) (s : State) → Leads w s (begun w.program o s)
  begun_leads o s = by_step (begins_object o refl)

  pub unreturned_grows : (ty : PlainType) (main : Bool) (s : State) → Grows s (unreturned ty main s)
  unreturned_grows void main s = still s refl tt
  unreturned_grows (integer signed bytes) true s = still s refl tt
  unreturned_grows (integer signed bytes) false s = still s refl tt
  unreturned_grows (fixed kind saturates) true s = still s refl tt
  unreturned_grows (fixed kind saturates) false s = still s refl tt
  unreturned_grows (pointer space const to) true s = still s refl tt
  unreturned_grows (pointer space const to) false s = still s refl tt
  unreturned_grows (array of len) true s = still s refl tt
  unreturned_grows (array of len) false s = still s refl tt
  unreturned_grows (struct index) true s = still s refl tt
  unreturned_grows (struct index) false s = still s refl tt

  pub result_grows : (ty : PlainType) (main : Bool) (x : Exit) (s : State) → Grows s (call_result ty main x s)
  result_grows ty main at_end s = unreturned_grows ty main s
  result_grows ty main by_break s = unreturned_grows ty main s
  result_grows ty main by_continue s = unreturned_grows ty main s
  result_grows ty main (by_return None) s = unreturned_grows ty main s
  result_grows ty main (by_return (Some v)) s = still s refl tt

  pub frame_ended_leads : (f : ℕ) (s : State) → Leads w s (frame_ended w.program f s)
  frame_ended_leads f s = by_step (ends_frame f refl)
