-- Runs of programs whose loops are counted.
use Rattle.std.proofs.Common.{◌≡◌, ◌≤◌, ℕ, zero, suc, ◌+◌, Bool, true, false, List, [], ◌∷◌, length, map, Option, Some, None}
use Rattle.std.proofs.Common.{refl, sym, subst, ap, ◌∙◌, arith, pos, eqb-true, inl, inr}
use Rattle.std.specs.Prelude.{◌==◌, ◌⊎◌, slice_get, IsSomeAnd, Contains}
use Rattle.std.specs.List.{AllByRecursion}
use Rattle.ec_iohw.specs.declared.table.IoTable.{IoTable}
use Rattle.ec_core.specs.declared.programs.LeafInit.{LeafInit}
use Rattle.ec_core.specs.declared.programs.LeafInit.TheVariants.{Number as TheNumber, Null as TheNull, Address as TheAddress}
use Rattle.ec_core.specs.declared.values.Value.{Value}
use Rattle.ec_core.specs.declared.values.Value.TheVariants.{Number}
use Rattle.ec_core.specs.Accesses.{begun, belongs_to, frame_ended, leaf_count}
use Rattle.ec_core.specs.Laws.{WorkNeverFalls}
use Rattle.ec_core.specs.Layout.{PlainLeaf, leaves_of_type}
use Rattle.ec_core.specs.Meaning.{initial_value, initial_object, initial_state, run, state_of}
use Rattle.ec_core.specs.Needs.{stmt_calls}
use Rattle.ec_core.specs.Plain.{PlainType, void, pointer, PlainStorage, static, local, param, register}
use Rattle.ec_core.specs.Plain.{PlainObject, PlainFunction, PlainProgram}
use Rattle.ec_core.specs.PortAccesses.{no_value}
use Rattle.ec_core.specs.PortTable.{plain_table}
use Rattle.ec_core.specs.State.{Inputs, Setting, State, worked, Outcome, got, more, undefined}
use Rattle.ec_core.specs.Statements.{Exit, at_end, by_break, by_continue, by_return, effect_of, parameters_written, unreturned, call_result}
use Rattle.ec_core.specs.Statements.{call_of, calls_within}
use Rattle.ec_core.specs.Valid.{EachFrom, IsStatic, IsInitialValue, AreInitialValues, IsStored, IsObject, IsFunction, Reaches, calls}
use Rattle.ec_core.specs.Valid.{calls_through, Valid}
use Rattle.ec_core.specs.Words.{function_words}
use Rattle.ec_core.proofs.TypedValues.{some_and}
use Rattle.ec_check_constants.specs.Laws.{RunsGiveConstants, TestsTellConstants}
use Rattle.ec_core_steps.specs.declared.touches.Touch.{Touch}
use Rattle.ec_core_steps.specs.declared.touches.Touch.TheVariants.{Address, Change}
use Rattle.ec_core_steps.specs.Touches.{stmt_touches}
use Rattle.ec_core_steps.specs.Work.{stmt_most, call_most, function_most}
use Rattle.ec_core_steps.specs.Laws.{IsReached, LoopsAreCounted, CountedProgramsAreBounded}
use Rattle.ec_core_steps.proofs.Relation.{all_replicate, IsFree, IsValue, IsLeaf, IsObjectWell, IsWell, Holds, after, bind, here}
use Rattle.ec_core_steps.proofs.Relation.{stops, began}
use Rattle.ec_core_steps.proofs.Accesses.{IsVal, begun_sound, initialised_holds, frame_sound}
use Rattle.ec_core_steps.proofs.Expressions.{IsAny, w, Outer, Own, May}
use Rattle.ec_core_steps.proofs.Exits.{IsExit}
use Rattle.ec_core_steps.proofs.Statements.{stmt_holds}

-- ---- lists

from_at : {X : Type 0} (n : ℕ) (P : ℕ → X → Type 0) (xs : List X) (k : ℕ) (x : X) → EachFrom n P xs → slice_get xs k ≡ Some x → P (n + k) x
from_at n P [] k x h e = cc
from_at n P (y ∷ xs) zero x h e = let g : y ≡ x = cc in let m : n ≡ n + 0 = omega arith in subst (λ (j : ℕ). P j x) m (subst (P n) g h.0)
from_at n P (y ∷ xs) (suc k) x h e =
    let m : n + 1 + k ≡ n + suc k = omega arith in
    subst (λ (j : ℕ). P j x) m (from_at (n + 1) P xs k x h.1 e)

of_items : {P : ℕ → Type 0} (xs : List ℕ) → ((x : ℕ) → Contains xs x → P x) → AllByRecursion P xs
of_items [] h = tt
of_items {P} (x ∷ xs) h = (h x (0, omega arith, refl), of_items {P = P} xs (λ y c. h y (suc c.0, omega (arith, c.1), c.2)))

all_mapped : {X Y : Type 0} (P : X → Type 0) (Q : Y → Type 0) (f : X → Y) (xs : List X) → ((x : X) → P x → Q (f x)) → AllByRecursion P xs
    → AllByRecursion Q (map f xs)
all_mapped P Q f [] h a = tt
all_mapped P Q f (x ∷ xs) h a = (h x a.0, all_mapped P Q f xs h a.1)

-- ---- calls

-- what f reaches, a function that reaches f reaches too; and what it calls
reached_on : (p : PlainProgram) (g h v : ℕ) (function : PlainFunction) → slice_get p.functions g ≡ Some function
    → Contains (stmt_calls function.body []) h → Reaches p g v → Reaches p h v
reached_on p g h v function e c (calls _ other i j) = calls_through v g other i j (calls g function e c)
reached_on p g h v function e c (calls_through _ m other i j r) = calls_through v m other i j (reached_on p g h m function e c r)

module _ (p : PlainProgram) (table : IoTable) (inputs : Inputs) (valid : Valid p table) (gives : RunsGiveConstants)
    (tells : TestsTellConstants)
    (counted : LoopsAreCounted p) (n : ℕ) (enough : 65_536 ≤ n) where
  abbrev W : Setting
  W = w p table inputs

  function_at : (g : ℕ) (function : PlainFunction) → slice_get p.functions g ≡ Some function → IsFunction p table g function
  function_at g function e =
      let zero_more : 0 + g ≡ g = omega arith in
      subst (λ (j : ℕ). IsFunction p table j function) zero_more (from_at 0 (IsFunction p table) p.functions g function valid.functions e)

  -- a local of a function that reaches this one, that no pointer leads to
  record Before (g o : ℕ) : Type 0 where
    owner : ℕ
    free : IsFree p o owner
    way : Reaches p g owner

  reached_calls : (g h : ℕ) (function : PlainFunction) → slice_get p.functions g ≡ Some function
      → Contains (stmt_calls function.body []) h → IsReached p g → IsReached p h
  reached_calls g h function e c (inl same) = inr (subst (λ z. Reaches p h z) same (calls g function e c))
  reached_calls g h function e c (inr r) = inr (reached_on p g h p.main function e c r)

  same_function : (g : ℕ) (a b : PlainFunction) → slice_get p.functions g ≡ Some a → slice_get p.functions g ≡ Some b → a ≡ b
  same_function g a b e f = let h : Some a ≡ Some b = sym e ∙ f in cc

  one_owner : (o a b : ℕ) → IsFree p o a → IsFree p o b → a ≡ b
  one_owner o a b x y =
      let e : Some x.object ≡ Some y.object = sym x.is_object ∙ y.is_object in
      let f : x.object ≡ y.object = cc in
      let g : local a ≡ local b = sym x.is_local ∙ ap (λ (z : PlainObject). z.storage) f ∙ y.is_local in
      cc

  parameters_hold : {K : ℕ → Type 0} (g : ℕ) (out : (o : ℕ) → K o → Before g o) (os : List ℕ) (xs : List Value) (s : State)
      → AllByRecursion (λ o. IsSomeAnd (slice_get p.objects o) (λ x. x.storage ≡ param g)) os → AllByRecursion (IsValue p) xs → IsWell p s
      → Holds p IsAny 0 K s (parameters_written W os xs s)
  parameters_hold g out [] xs s params h well = here p no_value s tt well
  parameters_hold g out (o ∷ os) [] s params h well = stops p _ s
  parameters_hold {K} g out (o ∷ os) (x ∷ xs) s params h well =
      let begins = begun_sound p {K = K} o s other well in
      after p _ (λ q k. k) begins
      (bind p {m = 0} _ _ (initialised_holds p o 0 x (begun p o s) h.0 other begins.well)
      (λ y t hy a. parameters_hold g out os xs t params.1 h.1 a.well) (omega arith)) (omega arith)
    where
      other : (q : ℕ) → K q → o ≡ q → ⊥
      other q k same =
          let b = out q k in
          let free = b.free in
          let d = some_and (slice_get p.objects o) (λ (z : PlainObject). z.storage ≡ param g) params.0 in
          let one : Some d.0 ≡ Some free.object = sym d.1 ∙ ap (slice_get p.objects) same ∙ free.is_object in
          let two : d.0 ≡ free.object = cc in
          let three : param g ≡ local b.owner = sym d.2 ∙ ap (λ (z : PlainObject). z.storage) two ∙ free.is_local in
          cc

  unreturned_holds : {K : ℕ → Type 0} (ty : PlainType) (main : Bool) (s : State) → IsWell p s
      → Holds p (IsVal p) 0 K s (unreturned ty main s)
  unreturned_holds void main s well = here p no_value s tt well
  unreturned_holds ty true s well = here p (Number (pos 0)) s tt well
  unreturned_holds ty false s well = stops p _ s

  result_holds : {K : ℕ → Type 0} (ty : PlainType) (main : Bool) (x : Exit) (s t : State) → IsExit p x t → IsWell p s
      → Holds p (IsVal p) 0 K s (call_result ty main x s)
  result_holds ty main at_end s t h well = unreturned_holds ty main s well
  result_holds ty main by_break s t h well = unreturned_holds ty main s well
  result_holds ty main by_continue s t h well = unreturned_holds ty main s well
  result_holds ty main (by_return None) s t h well = unreturned_holds ty main s well
  result_holds ty main (by_return (Some v)) s t h well = here p v s h well

  owner_apart : (g h : ℕ) → Reaches p g h → belongs_to g (local h) ≡ false
  owner_apart g h r = by_test (h == g) refl
    where
      by_test : (c : Bool) → (h == g) ≡ c → c ≡ false
      by_test true e = absurd (valid.no_recursion g (subst (Reaches p g) (eqb-true h g e) r))
      by_test false e = refl

  frame_apart : {K : ℕ → Type 0} (g : ℕ) (out : (o : ℕ) → K o → Before g o) (o : ℕ) → K o
      → (d : PlainObject) × (slice_get p.objects o ≡ Some d) × (belongs_to g d.storage ≡ false)
  frame_apart g out o k =
      let b = out o k in
      (b.free.object, b.free.is_object, subst (λ z. belongs_to g z ≡ false) (sym b.free.is_local) (owner_apart g b.owner b.way))

  abbrev Calling : ℕ → Type 1
  Calling depth = (K : ℕ → Type 0) (g : ℕ) → ((o : ℕ) → K o → Before g o) → IsReached p g → (xs : List Value) (s : State)
      → AllByRecursion (IsValue p) xs → IsWell p s
      → Holds p (IsVal p) (function_most p (plain_table table) depth g) K s (calls_within W n depth g xs s)

  body_holds : (depth : ℕ) → Calling depth → (K : ℕ → Type 0) (g : ℕ) (function : PlainFunction) → slice_get p.functions g ≡ Some function
      → ((o : ℕ) → K o → Before g o) → IsReached p g → (s : State) → IsWell p s
      → Holds p (IsExit p) (stmt_most (plain_table table) (function_most p (plain_table table) depth) p g function.body function.body) K s
      (effect_of W (calls_within W n depth) n function.body s)
  body_holds depth ih K g function is out reached s well =
      stmt_holds p table inputs gives tells g function.body (calls_within W n depth) (function_most p
      (plain_table table) depth) inner n enough
      free_counter K outer function.returns false function.body s [] (function_at g function is).body
      spared (of_items {P = May p table inputs g function.body} (stmt_calls function.body []) (λ x c. c))
      (counted g function reached is) well
    where
      outer : (o : ℕ) → K o → Outer p table inputs g function.body o
      outer o k = let b = out o k in record { owner = b.owner; free = b.free; way = inr b.way }

      before : (K2 : ℕ → Type 0) → ((o : ℕ) → K2 o → Outer p table inputs g function.body o) → (h : ℕ)
          → Contains (stmt_calls function.body []) h → (o : ℕ) → K2 o → Before h o
      before K2 out2 h c o k = let x = out2 o k in record { owner = x.owner; free = x.free; way = by_way x.owner x.way }
        where
          by_way : (v : ℕ) → (v ≡ g) ⊎ Reaches p g v → Reaches p h v
          by_way v (inl same) = subst (Reaches p h) (sym same) (calls g function is c)
          by_way v (inr r) = reached_on p g h v function is c r

      inner : (K2 : ℕ → Type 0) → ((o : ℕ) → K2 o → Outer p table inputs g function.body o) → (h : ℕ)
          → May p table inputs g function.body h → (xs : List Value) (t : State) → AllByRecursion (IsValue p) xs → IsWell p t
          → Holds p (IsVal p) (function_most p (plain_table table) depth h) K2 t (calls_within W n depth h xs t)
      inner K2 out2 h c xs t hx w2 = ih K2 h (before K2 out2 h c) (reached_calls g h function is c reached) xs t hx w2

      free_counter : (i : ℕ) (x : PlainObject) → slice_get p.objects i ≡ Some x → x.storage ≡ local g
          → stmt_touches Address i function.body ≡ false → Outer p table inputs g function.body i
      free_counter i x e l u = record {
        owner = g;
        free = record { function = function; is_function = is; object = x; is_object = e; is_local = l; unaddressed = u };
        way = inl refl;
      }

      spared : (t : Touch) (o : ℕ) → Own p table inputs g function.body K t o → stmt_touches t o function.body ≡ false
      spared Address o free =
          subst (λ (z : PlainFunction). stmt_touches Address o z.body ≡ false) (same_function g free.function function free.is_function is)
          free.unaddressed
      spared Change o (k, free) =
          let b = out o k in
          absurd (valid.no_recursion g (subst (Reaches p g) (one_owner o b.owner g b.free free) b.way))

  calls_hold : (depth : ℕ) → Calling depth
  calls_hold zero K g out reached xs s h well = stops p _ s
  calls_hold (suc depth) K g out reached xs s h well = by_function (calls_hold depth) (slice_get p.functions g) refl
    where
      by_function : Calling depth → (o : Option PlainFunction) → slice_get p.functions g ≡ o
          → Holds p (IsVal p) (call_most p (plain_table table) (function_most p (plain_table table) depth) g o) K s
          (call_of W (calls_within W n depth) n g o xs s)
      by_function ih None e = stops p _ s
      by_function ih (Some function) e =
          let is_function = function_at g function e in
          let m = stmt_most (plain_table table) (function_most p (plain_table table) depth) p g function.body function.body in
          began p {m2 = m} function_words s _ well
          (bind p {m2 = m} _ _ (parameters_hold g out function.params xs (worked function_words s) is_function.params h well)
          (λ y t hy a. bind p {m = m} {m2 = 0} _ _ (body_holds depth ih K g function e out reached t a.well)
          (λ x r hx b.
          (let c = frame_sound p {K = K} g r (frame_apart g out) b.well in
          after p _ (λ q k. k) c (result_holds function.returns _ x (frame_ended p g r) r hx c.well) (omega arith)))
          (omega arith)) (omega arith)) (omega arith)

  -- ---- the beginning

  initial_well : (ty : PlainType) (init : LeafInit) → IsInitialValue p ty init → IsValue p (initial_value init)
  initial_well ty (TheNumber m) h = tt
  initial_well ty TheNull h = tt
  initial_well (pointer sp c to) (TheAddress o offset) h = λ free.
      (let d = some_and (slice_get p.objects o) _ h in
      let one : Some d.0 ≡ Some free.1.object = sym d.1 ∙ free.1.is_object in
      let two : d.0.storage ≡ local free.0 = (let same : d.0 ≡ free.1.object = cc in ap (λ
      (z : PlainObject). z.storage) same ∙ free.1.is_local) in
      subst IsStatic two d.2.0)
  initial_well ty (TheAddress o offset) h = absurd h

  initials_well : (leaves : List PlainLeaf) (inits : List LeafInit) → AreInitialValues p leaves inits
      → AllByRecursion (IsLeaf p) (map (λ init. Some (initial_value init)) inits)
  initials_well [] [] h = tt
  initials_well [] (init ∷ inits) h = absurd h
  initials_well (leaf ∷ leaves) [] h = absurd h
  initials_well (leaf ∷ leaves) (init ∷ inits) h = (initial_well leaf.ty init h.0, initials_well leaves inits h.1)

  object_well : (o : PlainObject) (storage : PlainStorage) → IsStored p o storage
      → IsObjectWell p (initial_object (leaf_count p o.ty) storage)
  object_well o (static inits) h = initials_well (leaves_of_type p.structs o.ty) inits h
  object_well o (local f) h = all_replicate (IsLeaf p) (leaf_count p o.ty) None tt
  object_well o (param f) h = all_replicate (IsLeaf p) (leaf_count p o.ty) None tt
  object_well o (register r) h = all_replicate (IsLeaf p) (leaf_count p o.ty) None tt

  initial_state_well : IsWell p (initial_state p (plain_table table))
  initial_state_well =
      all_mapped (IsObject p) (IsObjectWell p) (λ o. initial_object (leaf_count p o.ty) o.storage) p.objects
      (λ o h. object_well o o.storage h.storage) valid.objects

  pub run_holds : Holds p (IsVal p) (function_most p (plain_table table) (length p.functions) p.main) (λ o. ⊥) (initial_state p
      (plain_table table))
      (run p (plain_table table) inputs n)
  run_holds = calls_hold (length p.functions) (λ o. ⊥) p.main (λ o k. absurd k) (inl refl) [] (initial_state p
      (plain_table table)) tt initial_state_well

-- ---- the law

held_work : (p : PlainProgram) (m : ℕ) (s : State) (o : Outcome Value) → Holds p (IsVal p) m (λ q. ⊥) s o → (state_of o).work ≤ s.work + m
held_work p m s (got x t) h = h.is.1.work
held_work p m s (more t) h = absurd h.is
held_work p m s (undefined point t) h = h.is

held_ends : (p : PlainProgram) (m : ℕ) (s t : State) (o : Outcome Value) → Holds p (IsVal p) m (λ q. ⊥) s o → o ≡ more t → ⊥
held_ends p m s t (got x r) h e = cc
held_ends p m s t (more r) h e = absurd h.is
held_ends p m s t (undefined point r) h e = cc

pub bounded : RunsGiveConstants → TestsTellConstants → WorkNeverFalls → CountedProgramsAreBounded
bounded gives tells falls p io inputs valid counted = record {
  work = λ n.
      (let h = run_holds p io inputs valid gives tells counted (n + 65_536) (omega arith) in
      let a = held_work p _ _ (run p (plain_table io) inputs (n + 65_536)) h in
      let b = falls p (plain_table io) inputs n (n + 65_536) (omega arith) in
      omega (arith, a, b));
  ends = λ n s enough e.
      held_ends p _ _ s (run p (plain_table io) inputs n) (run_holds p io inputs valid gives tells counted n enough) e;
}
