-- The operations of an expression, each beside what the program does.
use Rattle.std.proofs.Common.{◌≡◌, ℕ, suc, ◌+◌, ◌*◌, ◌<◌, ◌≤◌, Bool, true, false, not, ℤ, List, ◌∷◌, Option, Some, None, Result}
use Rattle.std.proofs.Common.{Ok, Err, refl, sym, ap, ◌∙◌, subst, arith, eq-eqb}
use Rattle.std.specs.Prelude.{⊤, pos, if◌then◌else◌, ◌||◌, slice_get, option_map, unwrap_or}
use Rattle.ec_fx.specs.declared.numbers.Mode.{Mode}
use Rattle.ec_space.specs.declared.space.SpaceId.{SpaceId}
use Rattle.ec_core.specs.declared.expressions.BinOp.{BinOp}
use Rattle.ec_core.specs.declared.expressions.UnOp.{UnOp}
use Rattle.ec_core.specs.declared.values.ObjectPointer.{ObjectPointer}
use Rattle.ec_core.specs.declared.values.Undefined.{Undefined}
use Rattle.ec_core.specs.declared.values.Undefined.TheVariants.{Unset, ConstWrite}
use Rattle.ec_core.specs.declared.values.Value.{Value}
use Rattle.ec_core.specs.declared.values.Value.TheVariants.{Number, Pointer}
use Rattle.ec_core.specs.Accesses.{referent_of, operand_of, Access, access, leaf_of, is_readable, read_value, read, recorded}
use Rattle.ec_core.specs.Accesses.{with_leaf, stored, write, is_read_only}
use Rattle.ec_core.specs.Layout.{scalar_size, IsScalar}
use Rattle.ec_core.specs.Operators.{unary_result, binary_result, conversion_result, truth_result}
use Rattle.ec_core.specs.Plain.{PlainType, PlainStorage, static, local, param, register, PlainObject}
use Rattle.ec_core.specs.Pointers.{Pointer as PointerValue, moved}
use Rattle.ec_core.specs.State.{Event, Read, Write, told, State, worked, with_object, Outcome, got, undefined, next, given, choose}
use Rattle.ec_core.specs.Words.{member_words}
use Rattle.ec_core.specs.ValueTypes.{HasType}
use Rattle.ec_ir.specs.Costs.{op_words, op_steps, branch_zero_words, binary_words, conversion_words, unary_words}
use Rattle.ec_ir.specs.Meaning.{Mach, machine, held_as, pointer_in, held_pointer, object_access, pointer_access, put, before_store, find}
use Rattle.ec_ir.specs.Meaning.{jump_to}
use Rattle.ec_ir.specs.Operations.{PlainIr, constant, copy, address, field, load_at, store_at, store_object, binary_op}
use Rattle.ec_ir.specs.Operations.{unary_op, conversion, label, jump, branch_zero}
use Rattle.ec_ir.specs.declared.operations.Temp.{Temp}
use Rattle.ec_ir.specs.Temporaries.{bits, content_of, is_zero, Held, Temps, with_content, with_temp, read_held}
use Rattle.ec_lower_code.specs.Code.{temp, Site, named, pointed, load_from, store_to, value_place}
use Rattle.ec_lower_code.proofs.Homes.{AreApart, HasLeaf, pointed_found, named_found, pointed_home, read_home, put_home, leaf_within}
use Rattle.ec_lower_code.proofs.Numbers.{none, truth_zero}
use Rattle.ec_lower_code.proofs.Objects.{store_one, AreAmong, among_more, kept_shown}
use Rattle.ec_lower_code.proofs.Shown.{erased, shown, held_of, AreShown, Match}
use Rattle.ec_lower_code.proofs.Steps.{held_at, held_below, held_above, held_is, held_as_is, Target, at, Spot, around, here, goes}
use Rattle.ec_lower_code.proofs.Steps.{execs, Comes, Passes, passes_come, Runs, stays, computes, passes, counts, after, ends}
use Rattle.ec_lower_code.proofs.Steps.{spent_on, record_match}
use Rattle.ec_lower_code.proofs.Values.{unary_shown, binary_shown, conversion_shown, moved_shown}

module _ (w : Spot) where
  -- what follows a part
  abbrev pub to_rest : {A : Type 0} → List PlainIr → A → Target
  to_rest rest a = at (here w rest)

  -- what stands below a place stays as it was
  abbrev pub Below : ℕ → Temps → Mach → Type 0
  Below t b m = (i : ℕ) → i < t → m.temps i ≡ b i

  -- a value of a type at t, where the type is scalar
  pub record HasValue (ty : PlainType) (t d : ℕ) (b : Temps) (v : Value) (s : State) (u : Mach) : Type 0 where
    pub match : Match w.program w.table (around w) d s u
    pub value : IsScalar ty → u.temps t ≡ Some (held_of ty v)
    pub same : Below t b u

  -- bytes at t that are all 0 where a condition does not hold
  pub record HasTest (ty : PlainType) (t d : ℕ) (b : Temps) (h : Bool) (s : State) (u : Mach) : Type 0 where
    pub match : Match w.program w.table (around w) d s u
    pub tested : Value
    pub value : u.temps t ≡ Some (held_of ty tested)
    pub zero : is_zero (content_of (scalar_size ty) (shown tested)) ≡ not h
    pub same : Below t b u

  pub set_value : (i : PlainIr) (ty : PlainType) (t d e : ℕ) (b : Temps) (u : Mach) (s : State) (v : Value) → op_words i + d ≤ e
      → Match w.program w.table (around w) e s u → Below t b u → HasValue ty t d b v s (machine (with_temp (temp t ty) (shown v) u.temps)
      (worked (op_steps i) u.state))
  set_value i ty t d e b u s v le h k = record {
    match = spent_on w.program w.table e d i (with_temp (temp t ty) (shown v) u.temps) s u le h;
    value = λ z. held_at t (held_of ty v) u.temps;
    same = λ j lt. held_below t (held_of ty v) u.temps j lt ∙ k j lt;
  }

  -- a value is put at t by an operation that computes
  computed : (n t d e : ℕ) (b : Temps) (i : PlainIr) (ty : PlainType) (v : Value) (s : State) (u : Mach) (rest : List PlainIr)
      → op_words i + d ≤ e → Match w.program w.table (around w) e s u → Below t b u
      → ((k : ℕ) → goes w (suc k) (i ∷ rest) u ≡ goes w (suc k) rest (machine (with_temp (temp t ty) (shown v) u.temps)
      (worked (op_steps i) u.state))) → Runs w n (i ∷ rest) u (to_rest rest) (HasValue ty t d b) (got v s)
  computed n t d e b i ty v s u rest le h same c =
      ends w (to_rest rest) (HasValue ty t d b) n (here w (i ∷ rest)) (here w rest) u (machine (with_temp (temp t ty) (shown v) u.temps)
      (worked (op_steps i) u.state)) v s refl
      (computes w i rest u (machine (with_temp (temp t ty) (shown v) u.temps) (worked (op_steps i) u.state)) c refl refl (omega arith))
      (set_value i ty t d e b u s v le h same)

  pub constant_runs : (n t d e : ℕ) (b : Temps) (ty : PlainType) (x : ℤ) (s : State) (u : Mach) (rest : List PlainIr)
      → 5 * scalar_size ty + d ≤ e → Match w.program w.table (around w) e s u → Below t b u
      → Runs w n (constant (temp t ty) x ∷ rest) u (to_rest
      rest)
      (HasValue ty t d b) (got (Number x) s)
  constant_runs n t d e b ty x s u rest le h same = computed n t d e b (constant (temp t ty) x) ty (Number x) s u rest le h same (λ k. refl)

  -- the bytes of null are 0
  pub null_runs : (n t d e : ℕ) (b : Temps) (ty : PlainType) (s : State) (u : Mach) (rest : List PlainIr) → 5 * scalar_size ty + d ≤ e
      → Match w.program w.table (around w) e s u → Below t b u → Runs w n (constant (temp t ty) (pos 0) ∷ rest) u (to_rest rest)
      (HasValue ty t d b)
      (got (Pointer None) s)
  null_runs n t d e b ty s u rest le h same =
      computed n t d e b (constant (temp t ty) (pos 0)) ty (Pointer None) s u rest le h same
      (λ k. ap (λ z. goes w (suc k) rest (machine (with_content (temp t ty) (bits z) u.temps)
      (worked (op_steps (constant (temp t ty) (pos 0))) u.state))) (none (scalar_size ty)))

  -- the address of a place in an object
  pub address_runs : (n t d e : ℕ) (b : Temps) (ty : PlainType) (o offset i : ℕ) (s : State) (u : Mach) (rest : List PlainIr)
      → 5 * scalar_size ty + d ≤ e → Match w.program w.table (around w) e s u → Below t b u
      → Runs w n (address (temp t ty) o offset ∷ rest) u
      (to_rest rest)
      (HasValue ty t d b) (got (Pointer (Some (record { object = o; instance = i; offset = offset }))) s)
  address_runs n t d e b ty o offset i s u rest le h same = computed n t d e b (address (temp t ty) o offset) ty
      (Pointer (Some (record { object = o; instance = i; offset = offset }))) s u rest le h same (λ k. refl)

  -- ---- jumps and labels

  pub label_comes : (l : ℕ) (rest : List PlainIr) (m : Mach) → Comes w (here w (label l ∷ rest)) m (at (here w rest)) m
  label_comes l rest m = computes w (label l) rest m m (λ k. ap
      (λ (x : ℕ). goes w (suc k) rest (machine m.temps (record {
        objects = m.state.objects;
        groups = m.state.groups;
        events = m.state.events;
        work = x;
      }))) (let z : m.state.work + 64 * 0 ≡ m.state.work = omega arith in z)) refl refl (omega arith)

  pub past_label : {A : Type 0} (n l : ℕ) (rest : List PlainIr) (m : Mach) (to : A → Target) (R : A → State → Mach → Type 0) (o : Outcome A)
      → Runs w n rest m to R o → Runs w n (label l ∷ rest) m to R o
  past_label n l rest m to R o d = after w to R n (here w (label l ∷ rest)) (here w rest) m m o (label_comes l rest m) d

  pub jumps : (l : ℕ) (rest to : List PlainIr) (m : Mach) → find l w.code ≡ Some to → Comes w (here w (jump l ∷ rest)) m (at (here w to))
      (machine m.temps (worked (op_steps (jump l)) m.state))
  jumps l rest to m f = counts w (jump l ∷ rest) (here w to) m (machine m.temps (worked (op_steps (jump l)) m.state))
      (jump_equals l rest to m f)
    where
      jump_equals : (l : ℕ) (rest to : List PlainIr) (m : Mach) → find l w.code ≡ Some to → (k : ℕ)
          → goes w (suc k) (jump l ∷ rest) m ≡ goes w k to (machine m.temps (worked (op_steps (jump l)) m.state))
      jump_equals l rest to m f k = ap (λ o. jump_to o (λ q u. execs w k q u) w.code w.stack
          (machine m.temps (worked (op_steps (jump l)) m.state))) f

  pub jump_steps : (l : ℕ) (rest to : List PlainIr) (m : Mach) → find l w.code ≡ Some to → (k : ℕ)
      → goes w (suc k) (jump l ∷ rest) m ≡ execs w k (here w to) (machine m.temps (worked (op_steps (jump l)) m.state))
  jump_steps l rest to m f k = ap (λ o. jump_to o (λ q u. execs w k q u) w.code w.stack
      (machine m.temps (worked (op_steps (jump l)) m.state))) f

  branch_end : (k : ℕ) (ty : PlainType) (t l : ℕ) (rest : List PlainIr) (m : Mach) (v : Value) (b : Bool) → m.temps t ≡ Some (held_of ty v)
      → is_zero (content_of (scalar_size ty) (shown v)) ≡ b → goes w (suc k) (branch_zero (temp t ty) l ∷ rest) m ≡ (if b then jump_to
      (find l w.code) (λ q u. execs w k q u) w.code w.stack (machine m.temps (worked (op_steps (branch_zero (temp t ty) l)) m.state))
      else goes w k rest (machine m.temps (worked (op_steps (branch_zero (temp t ty) l)) m.state)))
  branch_end k ty t l rest m v b e z =
      let s1 : State = worked (op_steps (branch_zero (temp t ty) l)) m.state in
      ap (λ q. next q (λ content s2. if is_zero content then jump_to (find l w.code) (λ q u. execs w k q u) w.code w.stack
      (machine m.temps s2) else goes w k rest (machine m.temps s2))) (held_is ty t v m.temps s1 e)
      ∙ ap (λ c. if c then jump_to (find l w.code) (λ q u. execs w k q u) w.code w.stack (machine m.temps s1) else goes w k rest
      (machine m.temps s1)) z

  -- it counts, whether it is taken or not
  pub past_zero : (ty : PlainType) (t l : ℕ) (rest : List PlainIr) (m : Mach) (v : Value) → m.temps t ≡ Some (held_of ty v)
      → is_zero (content_of (scalar_size ty) (shown v)) ≡ false
      → Passes w (here w (branch_zero (temp t ty) l ∷ rest)) m (at (here w rest))
      (machine m.temps (worked (op_steps (branch_zero (temp t ty) l)) m.state))
  past_zero ty t l rest m v e z = passes w (branch_zero (temp t ty) l ∷ rest) (here w rest) m
      (machine m.temps (worked (op_steps (branch_zero (temp t ty) l)) m.state)) (λ k. branch_end k ty t l rest m v false e z)

  pub at_zero : (ty : PlainType) (t l : ℕ) (rest to : List PlainIr) (m : Mach) (v : Value) → find l w.code ≡ Some to
      → m.temps t ≡ Some (held_of ty v) → is_zero (content_of (scalar_size ty) (shown v)) ≡ true
      → Passes w (here w (branch_zero (temp t ty) l ∷ rest)) m (at (here w to))
      (machine m.temps (worked (op_steps (branch_zero (temp t ty) l)) m.state))
  at_zero ty t l rest to m v f e z =
      let u : Mach = machine m.temps (worked (op_steps (branch_zero (temp t ty) l)) m.state) in
      passes w (branch_zero (temp t ty) l ∷ rest) (here w to) m u
      (λ k. branch_end k ty t l rest m v true e z ∙ ap (λ o. jump_to o (λ q u. execs w k q u) w.code w.stack u) f)

  pub branch_on : (ty : PlainType) (t l : ℕ) (rest : List PlainIr) (m : Mach) (v : Value) → m.temps t ≡ Some (held_of ty v)
      → is_zero (content_of (scalar_size ty) (shown v)) ≡ false → Comes w (here w (branch_zero (temp t ty) l ∷ rest)) m (at (here w rest))
      (machine m.temps (worked (op_steps (branch_zero (temp t ty) l)) m.state))
  branch_on ty t l rest m v e z = passes_come w (here w (branch_zero (temp t ty) l ∷ rest)) m (at (here w rest))
      (machine m.temps (worked (op_steps (branch_zero (temp t ty) l)) m.state)) (past_zero ty t l rest m v e z)

  pub branch_off : (ty : PlainType) (t l : ℕ) (rest to : List PlainIr) (m : Mach) (v : Value) → find l w.code ≡ Some to
      → m.temps t ≡ Some (held_of ty v) → is_zero (content_of (scalar_size ty) (shown v)) ≡ true
      → Comes w (here w (branch_zero (temp t ty) l ∷ rest)) m (at (here w to))
      (machine m.temps (worked (op_steps (branch_zero (temp t ty) l)) m.state))
  branch_off ty t l rest to m v f e z = passes_come w (here w (branch_zero (temp t ty) l ∷ rest)) m (at (here w to))
      (machine m.temps (worked (op_steps (branch_zero (temp t ty) l)) m.state)) (at_zero ty t l rest to m v f e z)

  -- ---- values

  pub unary_runs : (n t d e : ℕ) (b : Temps) (op : UnOp) (ty : PlainType) (mode : Mode) (x : Value) (s : State) (u : Mach)
      (rest : List PlainIr) → IsScalar ty → HasType w.program ty x → unary_words ty + d ≤ e → HasValue ty t e b x s u
      → (r : Result Value Undefined) → unary_result op ty mode x ≡ r → Runs w n (unary_op op ty mode (temp t ty) (temp t ty) ∷ rest) u
      (to_rest rest) (HasValue ty t d b) (given r s)
  unary_runs n t d e b op ty mode x s u rest sc vt le h (Err point) f = tt
  unary_runs n t d e b op ty mode x s u rest sc vt le h (Ok v) f =
      let i = unary_op op ty mode (temp t ty) (temp t ty) in
      let s1 : State = worked (op_steps i) u.state in
      computed n t d e b i ty v s u rest le h.match h.same
      (λ k. ap (λ z. next z (λ y s2. next (given (unary_result op ty mode y) s2)
      (λ v s3. goes w (suc k) rest (machine (with_temp (temp t ty) v u.temps) s3)))) (held_as_is w.program ty t x u.temps s1 sc vt
      (h.value sc))
      ∙ ap (λ z. next (given z s1) (λ v s3. goes w (suc k) rest (machine (with_temp (temp t ty) v u.temps) s3)))
      (unary_shown op ty mode x v f))

  -- a conversion, whose operand may stand elsewhere
  conversion_step : (t q : ℕ) (ty : PlainType) (mode : Mode) (aty : PlainType) (x v : Value) (s : State) (u : Mach) (rest : List PlainIr)
      → IsScalar aty → HasType w.program aty x → u.temps q ≡ Some (held_of aty x) → AreShown w.program (around w) w.program.objects
      s.objects
      u.state.objects → conversion_result ty mode (operand_of w.program aty x s) ≡ Ok v
      → (k : ℕ) → goes w (suc k) (conversion (temp t ty) ty mode (temp q aty) aty ∷ rest) u ≡ goes w (suc k) rest
      (machine (with_temp (temp t ty) (shown v) u.temps) (worked (op_steps (conversion (temp t ty) ty mode (temp q aty) aty)) u.state))
  conversion_step t q ty mode aty x v s u rest sc vt e o f k =
      let s1 : State = worked (op_steps (conversion (temp t ty) ty mode (temp q aty) aty)) u.state in
      ap (λ z. next z (λ y s2. next (given (conversion_result ty mode (operand_of w.program aty y s2)) s2)
      (λ v s3. goes w (suc k) rest (machine (with_temp (temp t ty) v u.temps) s3)))) (held_as_is w.program aty q x u.temps s1 sc vt e)
      ∙ ap (λ z. next (given z s1) (λ v s3. goes w (suc k) rest (machine (with_temp (temp t ty) v u.temps) s3)))
      (conversion_shown w.program (around w) s s1 o ty mode aty x v f)

  pub conversion_runs : (n t d e : ℕ) (b : Temps) (ty : PlainType) (mode : Mode) (aty : PlainType) (x : Value) (s : State) (u : Mach)
      (rest : List PlainIr) → IsScalar aty → HasType w.program aty x → conversion_words ty aty + d ≤ e → HasValue aty t e b x s u
      → (r : Result Value Undefined) → conversion_result ty mode (operand_of w.program aty x s) ≡ r
      → Runs w n (conversion (temp t ty) ty mode (temp t aty) aty ∷ rest) u (to_rest rest) (HasValue ty t d b) (given r s)
  conversion_runs n t d e b ty mode aty x s u rest sc vt le h (Err point) f = tt
  conversion_runs n t d e b ty mode aty x s u rest sc vt le h (Ok v) f =
      computed n t d e b (conversion (temp t ty) ty mode (temp t aty) aty) ty v s u rest le h.match h.same
      (conversion_step t t ty mode aty x v s u rest sc vt (h.value sc) h.match.objects f)

  -- the same, where what stands right above is kept too
  pub conversion_beside : (n t d e : ℕ) (b : Temps) (ty : PlainType) (mode : Mode) (aty : PlainType) (x : Value) (y : Held) (v : Value)
      (s : State) (u : Mach) (rest : List PlainIr) → IsScalar aty → HasType w.program aty x → conversion_words ty aty + d ≤ e
      → HasValue aty t e b x s u → u.temps (t + 1) ≡ Some y → conversion_result ty mode (operand_of w.program aty x s) ≡ Ok v
      → Runs w n (conversion (temp t ty) ty mode (temp t aty) aty ∷ rest) u (to_rest rest)
      (λ v s u1. HasValue ty t d b v s u1 × (u1.temps (t + 1) ≡ Some y)) (got v s)
  conversion_beside n t d e b ty mode aty x y v s u rest sc vt le h above f =
      let i = conversion (temp t ty) ty mode (temp t aty) aty in
      let u1 : Mach = machine (with_temp (temp t ty) (shown v) u.temps) (worked (op_steps i) u.state) in
      ends w (to_rest rest) (λ v s u1. HasValue ty t d b v s u1 × (u1.temps (t + 1) ≡ Some y)) n (here w (i ∷ rest))
      (here w rest) u u1 v s refl
      (computes w i rest u u1 (conversion_step t t ty mode aty x v s u rest sc vt (h.value sc) h.match.objects f) refl refl (omega arith))
      (set_value i ty t d e b u s v le h.match h.same, held_above t (held_of ty v) u.temps ∙ above)

  -- an operation on what stands at two places, whose result goes to another
  binary_step : (t p q : ℕ) (op : BinOp) (ty : PlainType) (mode : Mode) (aty bty : PlainType) (x y v : Value) (s : State) (u : Mach)
      (rest : List PlainIr) → IsScalar aty → HasType w.program aty x → IsScalar bty → HasType w.program bty y
      → u.temps t ≡ Some (held_of aty x)
      → u.temps p ≡ Some (held_of bty y) → AreShown w.program (around w) w.program.objects s.objects u.state.objects
      → binary_result op ty mode (operand_of w.program aty x s) (operand_of w.program bty y s) ≡ Ok v
      → (k : ℕ) → goes w (suc k) (binary_op op ty mode (temp q ty) (temp t aty) aty (temp p bty) bty ∷ rest) u ≡ goes w (suc k) rest
      (machine (with_temp (temp q ty) (shown v) u.temps) (worked (op_steps
      (binary_op op ty mode (temp q ty) (temp t aty) aty (temp p bty) bty)) u.state))
  binary_step t p q op ty mode aty bty x y v s u rest sa va sb vb hx hy o f k =
      let s1 : State = worked (op_steps (binary_op op ty mode (temp q ty) (temp t aty) aty (temp p bty) bty)) u.state in
      ap (λ z. next z (λ x s2. next (held_as w.program bty (temp p bty) u.temps s2)
      (λ y s3. next (given (binary_result op ty mode (operand_of w.program aty x s3) (operand_of w.program bty y s3)) s3)
      (λ v s4. goes w (suc k) rest (machine (with_temp (temp q ty) v u.temps) s4))))) (held_as_is w.program aty t x u.temps s1 sa va hx)
      ∙ ap (λ z. next z (λ y s3. next (given (binary_result op ty mode (operand_of w.program aty (shown x) s3)
      (operand_of w.program bty y s3)) s3) (λ v s4. goes w (suc k) rest (machine (with_temp (temp q ty) v u.temps) s4))))
      (held_as_is w.program bty p y u.temps s1 sb vb hy)
      ∙ ap (λ z. next (given z s1) (λ v s4. goes w (suc k) rest (machine (with_temp (temp q ty) v u.temps) s4)))
      (binary_shown w.program (around w) s s1 o op ty mode aty bty x y v f)

  pub binary_runs : (n t d e : ℕ) (b : Temps) (op : BinOp) (ty : PlainType) (mode : Mode) (aty bty : PlainType) (x y : Value) (s : State)
      (u : Mach) (rest : List PlainIr) → IsScalar aty → HasType w.program aty x → IsScalar bty → HasType w.program bty y
      → binary_words op ty aty bty + d ≤ e
      → Match w.program w.table (around w) e s u → u.temps t ≡ Some (held_of aty x) → u.temps (t + 1) ≡ Some (held_of bty y) → Below t b u
      → (r : Result Value Undefined) → binary_result op ty mode (operand_of w.program aty x s) (operand_of w.program bty y s) ≡ r
      → Runs w n (binary_op op ty mode (temp t ty) (temp t aty) aty (temp (t + 1) bty) bty ∷ rest) u (to_rest rest) (HasValue ty t d b)
      (given r s)
  binary_runs n t d e b op ty mode aty bty x y s u rest sa va sb vb le h hx hy same (Err point) f = tt
  binary_runs n t d e b op ty mode aty bty x y s u rest sa va sb vb le h hx hy same (Ok v) f =
      computed n t d e b (binary_op op ty mode (temp t ty) (temp t aty) aty (temp (t + 1) bty) bty) ty v s u rest le h same
      (binary_step t (t + 1) t op ty mode aty bty x y v s u rest sa va sb vb hx hy h.objects f)

  -- the same, where the left operand is kept
  pub binary_above : (n t d e : ℕ) (op : BinOp) (ty : PlainType) (mode : Mode) (aty bty : PlainType) (x y v : Value) (s : State) (u : Mach)
      (rest : List PlainIr) → IsScalar aty → HasType w.program aty x → IsScalar bty → HasType w.program bty y
      → binary_words op ty aty bty + d ≤ e
      → Match w.program w.table (around w) e s u → u.temps t ≡ Some (held_of aty x) → u.temps (t + 1) ≡ Some (held_of bty y)
      → binary_result op ty mode
      (operand_of w.program aty x s) (operand_of w.program bty y s) ≡ Ok v
      → Runs w n (binary_op op ty mode (temp (t + 1) ty) (temp t aty) aty (temp (t + 1) bty) bty ∷ rest) u (to_rest rest)
      (HasValue ty (t + 1) d u.temps) (got v s)
  binary_above n t d e op ty mode aty bty x y v s u rest sa va sb vb le h hx hy f =
      computed n (t + 1) d e u.temps (binary_op op ty mode (temp (t + 1) ty) (temp t aty) aty (temp (t + 1) bty) bty) ty v s u rest le h
      (λ j lt. refl) (binary_step t (t + 1) (t + 1) op ty mode aty bty x y v s u rest sa va sb vb hx hy h.objects f)

  -- the same, where the right operand is kept
  pub binary_over : (n t d e : ℕ) (op : BinOp) (ty : PlainType) (mode : Mode) (aty bty : PlainType) (x y v : Value) (s : State) (u : Mach)
      (rest : List PlainIr) → IsScalar aty → HasType w.program aty x → IsScalar bty → HasType w.program bty y
      → binary_words op ty aty bty + d ≤ e
      → Match w.program w.table (around w) e s u → u.temps (t + 1) ≡ Some (held_of aty x) → u.temps t ≡ Some (held_of bty y)
      → binary_result op ty mode (operand_of w.program aty x s) (operand_of w.program bty y s) ≡ Ok v
      → Runs w n (binary_op op ty mode (temp (t + 1) ty) (temp (t + 1) aty) aty (temp t bty) bty ∷ rest) u (to_rest rest)
      (HasValue ty (t + 1) d u.temps) (got v s)
  binary_over n t d e op ty mode aty bty x y v s u rest sa va sb vb le h hx hy f =
      computed n (t + 1) d e u.temps (binary_op op ty mode (temp (t + 1) ty) (temp (t + 1) aty) aty (temp t bty) bty) ty v s u rest le h
      (λ j lt. refl)
      (binary_step (t + 1) t (t + 1) op ty mode aty bty x y v s u rest sa va sb vb hx hy h.objects f)

  -- a condition, which takes no operation
  pub test_runs : (n t d : ℕ) (b : Temps) (ty : PlainType) (x : Value) (s : State) (u : Mach) (rest : List PlainIr) → IsScalar ty
      → HasType w.program ty x → HasValue ty t d b x s u → (r : Result Bool Undefined) → truth_result (operand_of w.program ty x s) ≡ r
      → Runs w n rest u (to_rest rest) (HasTest ty t d b) (given r s)
  test_runs n t d b ty x s u rest sc vt h (Err point) f = tt
  test_runs n t d b ty x s u rest sc vt h (Ok c) f = (
    u,
    record { match = h.match; tested = x; value = h.value sc; zero = truth_zero w.program ty x s c sc vt f; same = h.same },
    stays w (here w rest) u,
  )

  -- one of two ways to go on, by a branch
  pub branches : {A : Type 0} (n t d e : ℕ) (b : Temps) (ty : PlainType) (l : ℕ) (rest other : List PlainIr) (to : A → Target)
      (R : A → State → Mach → Type 0) (h : Bool) (x y : State → Outcome A) (s : State) (u : Mach) → find l w.code ≡ Some other
      → branch_zero_words (scalar_size ty) + d ≤ e → HasTest ty t e b h s u
      → ((v : Mach) → Match w.program w.table (around w) d s v → Below t b v → Runs w n rest v to R (x s)) → ((v : Mach)
      → Match w.program w.table (around w) d s v → Below t b v
      → Runs w n other v to R (y s)) → Runs w n (branch_zero (temp t ty) l ∷ rest) u to R (choose h x y s)
  branches n t d e b ty l rest other to R true x y s u f le q on off =
      let i = branch_zero (temp t ty) l in
      after w to R n (here w (i ∷ rest)) (here w rest) u _ (x s) (branch_on ty t l rest u q.tested q.value q.zero)
      (on _ (spent_on w.program w.table e d i u.temps s u le q.match) q.same)
  branches n t d e b ty l rest other to R false x y s u f le q on off =
      let i = branch_zero (temp t ty) l in
      after w to R n (here w (i ∷ rest)) (here w other) u _ (y s) (branch_off ty t l rest other u q.tested f q.value q.zero)
      (off _ (spent_on w.program w.table e d i u.temps s u le q.match) q.same)

  -- ---- places

  -- a pointer is to where a site is
  abbrev pub IsSite : Site → Temps → PointerValue → Type 0
  IsSite (named o offset) temps q = (i : ℕ) × (q ≡ Some (record { object = o; instance = i; offset = offset }))
  IsSite (pointed ptr space) temps q = temps ptr.at ≡ Some (record {
    bytes = ptr.bytes;
    content = content_of ptr.bytes
        (shown (Pointer q));
  })

  -- the space of a place there
  abbrev pub IsSpace : Site → Option SpaceId → Type 0
  IsSpace (named o offset) sp = sp ≡ option_map (λ (x : PlainObject). x.space) (slice_get w.program.objects o)
  IsSpace (pointed ptr space) sp = sp ≡ Some space

  -- its pointer stands at t
  abbrev pub StandsAt : ℕ → Site → Type 0
  StandsAt t (named o offset) = ⊤
  StandsAt t (pointed ptr space) = ptr.at ≡ t

  -- what is worked out behind the pointer keeps it
  pub site_kept : (t : ℕ) (site : Site) (q : PointerValue) (temps : Temps) (u : Mach) → StandsAt t site → Below (value_place site t) temps u
      → IsSite site temps q → IsSite site u.temps q
  site_kept t (named o offset) q temps u a k h = h
  site_kept t (pointed ptr space) q temps u a k h = k ptr.at (omega (arith, a)) ∙ h

  pub pointer_held : (ptr : Temp) (q : PointerValue) (temps : Temps) (s : State)
      → temps ptr.at ≡ Some (record { bytes = ptr.bytes; content = content_of ptr.bytes (shown (Pointer q)) })
      → held_pointer ptr temps s ≡ got (option_map erased q) s
  pointer_held ptr q temps s e =
      ap (λ z. next (read_held ptr.bytes z s) pointer_in) e
      ∙ ap (λ b. next (if b then got (content_of ptr.bytes (shown (Pointer q))) s else undefined Unset s) pointer_in)
      (eq-eqb ptr.bytes ptr.bytes refl)
      ∙ by_pointer q
    where
      by_pointer : (q : PointerValue) → pointer_in (content_of ptr.bytes (shown (Pointer q))) s ≡ got (option_map erased q) s
      by_pointer None = refl
      by_pointer (Some p) = refl

  -- a pointer that is moved
  pub field_runs : (n t d e : ℕ) (ptr : Temp) (space : SpaceId) (k : ℕ) (q r : PointerValue) (b : Temps) (s : State) (u : Mach)
      (rest : List PlainIr) → ptr.at ≡ t → member_words + d ≤ e → Match w.program w.table (around w) e s u → Below t b u
      → u.temps ptr.at ≡ Some (record { bytes = ptr.bytes; content = content_of ptr.bytes (shown (Pointer q)) })
      → moved q (referent_of w.program q s) (pos k) ≡ Ok r
      → Runs w n (field ptr space k ∷ rest) u (to_rest rest) (λ v s1 u1. Match w.program w.table (around w) d s1 u1 × (u1.temps ptr.at ≡
      Some
      (record { bytes = ptr.bytes; content = content_of ptr.bytes (shown (Pointer v)) })) × Below t b u1) (got r s)
  field_runs n t d e ptr space k q r b s u rest a le h same held f =
      let i = field ptr space k in
      let s1 : State = worked (op_steps i) u.state in
      let x : Held = record { bytes = ptr.bytes; content = content_of ptr.bytes (shown (Pointer r)) } in
      let u1 : Mach = machine (with_temp ptr (Pointer (option_map erased r)) u.temps) s1 in
      ends w (to_rest rest) (λ v s1 u1. Match w.program w.table (around w) d s1 u1 × (u1.temps ptr.at ≡ Some
      (record { bytes = ptr.bytes; content = content_of ptr.bytes (shown (Pointer v)) })) × Below t b u1) n (here w (i ∷ rest))
      (here w rest) u u1 r s refl
      (computes w i rest u u1 (λ z. ap (λ y. next y (λ p s2. next (given (moved p (referent_of w.program p s2) (pos k)) s2)
      (λ v s3. goes w (suc z) rest (machine (with_temp ptr (Pointer v) u.temps) s3)))) (pointer_held ptr q u.temps s1 held)
      ∙ ap (λ y. next (given y s1) (λ v s3. goes w (suc z) rest (machine (with_temp ptr (Pointer v) u.temps) s3)))
      (moved_shown w.program (around w) s s1 h.objects q (pos k) r f)) refl refl (omega arith)) (
        spent_on w.program w.table e d i u1.temps s u le h,
        held_at ptr.at x u.temps,
        λ j lt. held_below ptr.at x u.temps j (omega (arith, lt, a))
            ∙ same j lt,
      )

  -- a value that stands behind the pointer is brought to its place
  pub copy_runs : (n t d e : ℕ) (ty : PlainType) (b : Temps) (v : Value) (s : State) (u : Mach) (rest : List PlainIr)
      → 5 * scalar_size ty + d ≤ e → IsScalar ty → Match w.program w.table (around w) e s u → u.temps (t + 1) ≡ Some (held_of ty v)
      → Below t b u
      → Runs w n (copy (temp t ty) (temp (t + 1) ty) ∷ rest) u (to_rest rest) (HasValue ty t d b) (got v s)
  copy_runs n t d e ty b v s u rest le sc h held same =
      computed n t d e b (copy (temp t ty) (temp (t + 1) ty)) ty v s u rest le h same
      (λ k. ap (λ z. next z (λ content s1. goes w (suc k) rest (machine (with_content (temp t ty) content u.temps) s1)))
      (held_is ty (t + 1) v u.temps (worked (op_steps (copy (temp t ty) (temp (t + 1) ty))) u.state) held))

  abbrev pub storage_of : ℕ → Option PlainStorage
  storage_of o = option_map (λ (d : PlainObject). d.storage) (slice_get w.program.objects o)

  -- what is kept where an object is going to be stored to
  pub before_match : {fs : List ℕ} (storage : Option PlainStorage) → ((g : ℕ) → storage ≡ Some (param g) → AreAmong fs (g ∷ around w))
      → (d : ℕ) (temps : Temps) (s t : State) → Match w.program w.table fs d s (machine temps t)
      → Match w.program w.table fs d s (machine temps (before_store w.program (around w) storage t))
  before_match None among d temps s t h = h
  before_match (Some (static inits)) among d temps s t h = h
  before_match (Some (local f)) among d temps s t h = h
  before_match {fs = fs} (Some (param g)) among d temps s t h = record {
    objects = kept_shown w.program fs fs (g ∷ around w) (λ f e. e) (among g refl) w.program.objects s.objects t.objects h.objects;
    cells = h.cells;
    events = h.events;
    spent = h.spent;
  }
  before_match (Some (register r)) among d temps s t h = h

  module _ (apart : AreApart w.program) where
    abbrev Leaf : Option SpaceId → ℕ → ℕ → PlainType → State → Access → Type 0
    Leaf via o offset ty s a = HasLeaf w.program apart via o offset ty s a

    -- the leaf of a place, and how the operations reach it
    record IsReached (site : Site) (temps : Temps) (ty : PlainType) (s : State) (a : Access) : Type 0 where
      via : Option SpaceId
      o : ℕ
      offset : ℕ
      leaf : Leaf via o offset ty s a
      loads : (k t : ℕ) (u : Mach) (rest : List PlainIr) → u.temps ≡ temps
          → AreShown w.program (around w) w.program.objects s.objects u.state.objects
          → goes w (suc k) (load_from (temp t ty) site ∷ rest) u ≡ next
          (read w.program (object_access w.program via o offset (worked (op_steps (load_from (temp t ty) site)) u.state))
          (worked (op_steps (load_from (temp t ty) site)) u.state)) (λ x s2. goes w k rest (machine (with_temp (temp t ty) x u.temps) s2))
      storage : Option PlainStorage
      stores : (k t : ℕ) (u : Mach) (rest : List PlainIr) → u.temps ≡ temps
          → AreShown w.program (around w) w.program.objects s.objects u.state.objects
          → let s1 = before_store w.program (around w) storage (worked (op_steps (store_to site (temp t ty))) u.state) in
          goes w (suc k) (store_to site (temp t ty) ∷ rest) u ≡ next
          (put w.program (object_access w.program via o offset s1) (temp t ty) u.temps s1) (λ x s2. goes w k rest (machine u.temps s2))

    reached : (site : Site) (temps : Temps) (ty : PlainType) (sp : Option SpaceId) (q : PointerValue) (s : State) (a : Access)
        → IsSpace site sp → IsSite site temps q → access w.program ty sp q s ≡ Some a → IsReached site temps ty s a
    reached (named o offset) temps ty sp q s a e h f =
        let p : ObjectPointer = record { object = o; instance = h.0; offset = offset } in
        record {
          via = None;
          o = o;
          offset = offset;
          leaf = named_found w.program apart ty sp p s a e (ap (λ z. access w.program ty sp z s) (sym h.1) ∙ f);
          loads = λ k t u rest same objects. refl;
          storage = option_map (λ (d : PlainObject). d.storage) (slice_get w.program.objects o);
          stores = λ k t u rest same objects. refl;
        }
    reached (pointed ptr space) temps ty sp None s a e h f = absurd (no_access sp f)
      where
        no_access : (sp : Option SpaceId) → access w.program ty sp None s ≡ Some a → ⊥
        no_access None g = cc
        no_access (Some c) g = cc
    reached (pointed ptr space) temps ty sp (Some p) s a e h f =
        let l = pointed_found w.program apart ty space p s a (ap (λ z. access w.program ty z (Some p) s) (sym e) ∙ f) in
        record {
          via = Some space;
          o = p.object;
          offset = p.offset;
          leaf = l;
          loads = λ k t u rest same objects.
              let s1 : State = worked (op_steps (load_at (temp t ty) ptr space)) u.state in
              ap (λ z. next z (λ p s1. next (read w.program (pointer_access w.program space (scalar_size ty) p s1) s1)
              (λ x s2. goes w k rest (machine (with_temp (temp t ty) x u.temps) s2))))
              (pointer_held ptr (Some p) u.temps s1 (ap (λ (z : Temps). z ptr.at) same ∙ h))
              ∙ ap (λ z. next (read w.program z s1) (λ x s2. goes w k rest (machine (with_temp (temp t ty) x u.temps) s2)))
              (pointed_home w.program apart (around w) space p ty s s1 a l objects);
          storage = None;
          stores = λ k t u rest same objects.
              let s1 : State = worked (op_steps (store_at ptr space (temp t ty))) u.state in
              ap (λ z. next z (λ p s1. next (put w.program (pointer_access w.program space (scalar_size ty) p s1) (temp t ty)
              u.temps s1)
              (λ x s2. goes w k rest (machine u.temps s2))))
              (pointer_held ptr (Some p) u.temps s1 (ap (λ (z : Temps). z ptr.at) same ∙ h))
              ∙ ap (λ z. next (put w.program z (temp t ty) u.temps s1) (λ x s2. goes w k rest (machine u.temps s2)))
              (pointed_home w.program apart (around w) space p ty s s1 a l objects);
        }

    read_one : (n t d e : ℕ) (b : Temps) (ty : PlainType) (site : Site) (s : State) (a : Access) (u : Mach) (rest : List PlainIr)
        → IsReached site u.temps ty s a → op_words (load_from (temp t ty) site) + d ≤ e → Match w.program w.table (around w) e s u
        → Below t b u
        → (v : Option Value) → leaf_of a.state a.leaf ≡ v → Runs w n (load_from (temp t ty) site ∷ rest) u (to_rest rest)
        (HasValue ty t d b) (read_value w.program a v s)
    read_one n t d e b ty site s a u rest at_leaf le h same None f = tt
    read_one n t d e b ty site s a u rest to le h same (Some v) f = by_reading (is_readable w.program v s) refl
      where
        by_reading : (c : Bool) → is_readable w.program v s ≡ c → Runs w n (load_from (temp t ty) site ∷ rest) u (to_rest rest)
            (HasValue ty t d b) (if c then got v (recorded a.declared.storage (Read a.object a.leaf a.space (told v)) s)
            else undefined Unset s)
        by_reading false g = tt
        by_reading true g =
            let l = to.leaf in
            let i = load_from (temp t ty) site in
            let s1 : State = worked (op_steps i) u.state in
            let at_leaf : leaf_of l.x l.k ≡ Some v = ap (λ (z : Access). leaf_of z.state z.leaf) l.is ∙ f in
            let event : Event = Read to.o l.k (unwrap_or to.via l.d.space) (told v) in
            let t1 : State = recorded l.d.storage event s1 in
            let m = record_match w.program w.table l.d.storage event d s (with_temp (temp t ty) (shown v) u.temps) s1
            (spent_on w.program w.table e d i (with_temp (temp t ty) (shown v) u.temps) s u le h) in
            let u1 : Mach = machine (with_temp (temp t ty) (shown v) u.temps) t1 in
            ends w (to_rest rest) (HasValue ty t d b) n (here w (i ∷ rest)) (here w rest) u u1 v
            (recorded a.declared.storage (Read a.object a.leaf a.space (told v)) s) refl
            (counts w (i ∷ rest) (here w rest) u u1 (λ k. to.loads k t u rest refl h.objects
            ∙ ap (λ z. next z (λ x s2. goes w k rest (machine (with_temp (temp t ty) x u.temps) s2)))
            (read_home w.program apart (around w) to.via to.o to.offset ty s s1 a l v h.objects at_leaf g)))
            (record {
              match = subst (λ (z : Access). Match w.program w.table (around w) d (recorded z.declared.storage (Read z.object z.leaf
                  z.space (told
                  v)) s) u1)
                  l.is m;
              value = λ z. held_at t (held_of ty v) u.temps;
              same = λ j lt. held_below t (held_of ty v) u.temps j lt ∙ same j lt;
            })

    -- a read of a place
    pub read_runs : (n t d e : ℕ) (b : Temps) (ty : PlainType) (site : Site) (sp : Option SpaceId) (q : PointerValue) (s : State) (u : Mach)
        (rest : List PlainIr) → IsSpace site sp → IsSite site u.temps q → op_words (load_from (temp t ty) site) + d ≤ e
        → Match w.program w.table (around w) e s u → Below t b u → (a : Option Access) → access w.program ty sp q s ≡ a
        → Runs w n (load_from (temp t ty) site
        ∷ rest) u (to_rest rest) (HasValue ty t d b) (read w.program a s)
    read_runs n t d e b ty site sp q s u rest i j le h same None f = tt
    read_runs n t d e b ty site sp q s u rest i j le h same (Some a) f = read_one n t d e b ty site s a u rest
        (reached site u.temps ty sp q s a i j f) le h same (leaf_of a.state a.leaf) refl

    -- a leaf is written at home too
    pub store_match : {fs : List ℕ} (via : Option SpaceId) (d : ℕ) (temps : Temps) (o offset : ℕ) (ty : PlainType) (s : State) (a : Access)
        (t : State) (v : Value) (l : Leaf via o offset ty s a) → Match w.program w.table fs d s (machine temps t)
        → Match w.program w.table fs d (stored a v s) (machine temps (recorded l.d.storage (Write o l.k (unwrap_or via l.d.space) (told v))
        (with_object o (with_leaf l.k (shown v)) t)))
    store_match {fs = fs} via d temps o offset ty s a t v l k =
        let event : Event = Write o l.k (unwrap_or via l.d.space) (told v) in
        let objects = store_one w.program fs w.program.objects s.objects t.objects o l.d l.k v l.declared
        (leaf_within w.program apart via o offset ty s a l) k.objects in
        let m : Match w.program w.table fs d (with_object o (with_leaf l.k v) s) (machine temps (with_object o (with_leaf l.k (shown v))
        t)) =
        record { objects = objects; cells = k.cells; events = k.events; spent = k.spent } in
        subst (λ (z : Access). Match w.program w.table fs d (stored z v s)
        (machine temps (recorded l.d.storage event (with_object o (with_leaf l.k (shown v)) t)))) l.is
        (record_match w.program w.table l.d.storage event d (with_object o (with_leaf l.k v) s) temps _ m)

    -- the state in which an object that is named is stored to
    abbrev pub stored_in : (o offset : ℕ) → Temp → Mach → State
    stored_in o offset t u = before_store w.program (around w) (storage_of o) (worked (op_steps (store_object o offset t)) u.state)

    -- a store at a leaf of it
    pub store_comes : {fs : List ℕ} (o offset : ℕ) (ty : PlainType) (t d : ℕ) (s : State) (a : Access) (u : Mach) (v : Value)
        (rest : List PlainIr) (l : Leaf None o offset ty s a) → IsScalar ty → HasType w.program ty v → is_read_only l.d.home ≡ false
        → Match w.program w.table fs d s (machine u.temps (stored_in o offset (temp t ty) u)) → u.temps t ≡ Some (held_of ty v)
        → Comes w (here w (store_object o offset (temp t ty) ∷ rest)) u (at (here w rest))
        (machine u.temps (recorded l.d.storage (Write o l.k l.d.space (told v)) (with_object o (with_leaf l.k (shown v))
        (stored_in o offset (temp t ty) u))))
    store_comes {fs = fs} o offset ty t d s a u v rest l sc vt home k held =
        let i = store_object o offset (temp t ty) in
        let s1 : State = stored_in o offset (temp t ty) u in
        counts w (i ∷ rest) (here w rest) u
        (machine u.temps (recorded l.d.storage (Write o l.k l.d.space (told v)) (with_object o (with_leaf l.k (shown v)) s1)))
        (λ z. ap (λ z1. next z1 (λ y s3. goes w z rest (machine u.temps s3)))
        (put_home w.program apart fs None o offset ty t u.temps s s1 a l v k.objects sc vt held home))

    -- a write of a place
    pub write_runs : (n t d e : ℕ) (b : Temps) (ty : PlainType) (site : Site) (sp : Option SpaceId) (q : PointerValue) (s : State)
        (u : Mach) (v : Value) (rest : List PlainIr) → IsSpace site sp → IsSite site u.temps q → IsScalar ty → HasType w.program ty v
        → op_words (store_to site (temp t ty)) + d ≤ e → HasValue ty t e b v s u → (a : Option Access) → access w.program ty sp q s ≡ a
        → Runs w n (store_to site (temp t ty) ∷ rest) u (to_rest rest) (HasValue ty t d b) (write a v s)
    write_runs n t d e b ty site sp q s u v rest i j sc vt le h None f = tt
    write_runs n t d e b ty site sp q s u v rest i j sc vt le h (Some a) f = by_const a.declared.const (is_read_only a.declared.home) refl
        (reached site u.temps ty sp q s a i j f)
      where
        by_const : (c flash : Bool) → is_read_only a.declared.home ≡ flash → IsReached site u.temps ty s a
            → Runs w n (store_to site (temp t ty) ∷ rest) u (to_rest rest) (HasValue ty t d b) (if c || flash then undefined ConstWrite s
            else got v (stored a v s))
        by_const true flash g to = tt
        by_const false true g to = tt
        by_const false false g to =
            let l = to.leaf in
            let home : is_read_only l.d.home ≡ false = ap (λ (z : Access). is_read_only z.declared.home) l.is ∙ g in
            let s0 : State = worked (op_steps (store_to site (temp t ty))) u.state in
            let s1 : State = before_store w.program (around w) to.storage s0 in
            let among = λ (g : ℕ) (q : to.storage ≡ Some (param g)). among_more g (around w) in
            let k = before_match to.storage among d u.temps s s0 (spent_on w.program w.table e d (store_to site (temp t ty)) u.temps s u le
            h.match) in
            let u1 : Mach = machine u.temps (recorded l.d.storage (Write to.o l.k (unwrap_or to.via l.d.space) (told v))
            (with_object to.o (with_leaf l.k (shown v)) s1)) in
            ends w (to_rest rest) (HasValue ty t d b) n (here w (store_to site (temp t ty) ∷ rest)) (here w rest) u u1 v (stored a v s) refl
            (counts w (store_to site (temp t ty) ∷ rest) (here w rest) u u1 (λ j. to.stores j t u rest refl h.match.objects
            ∙ ap (λ z. next z (λ y s3. goes w j rest (machine u.temps s3))) (put_home w.program apart (around w) to.via to.o to.offset ty
            t u.temps s
            s1 a l v k.objects sc vt (h.value sc) home)))
            (record {
              match = store_match to.via d u.temps to.o to.offset ty s a s1 v l k;
              value = h.value;
              same = h.same;
            })
