-- What the steps of a run add to its events and its work.
use Rattle.std.proofs.Common.{append-nil, append_assoc, ◌≡◌, ◌≤◌, ◌+◌, List, [], ◌∷◌, ◌++◌, Option, Bool, true, false, Some, refl, sym, ap}
use Rattle.std.proofs.Common.{◌∙◌, subst, arith}
use Rattle.std.specs.Prelude.{IsTrue, IsSomeAnd, slice_get}
use Rattle.std.specs.List.{AllByRecursion}
use Rattle.ec_runs.specs.Behaviours.{BeginWith}
use Rattle.ec_space.specs.Spaces.{holds}
use Rattle.ec_core.specs.Accesses.{Access, begun, ended, frame_ended, recorded, with_leaf}
use Rattle.ec_core.specs.Laws.{IsMade, Step, takes_work, reads_port, writes_port, changes_group, binds_group, reads_leaf, writes_leaf, begins_object}
use Rattle.ec_core.specs.Laws.{ends_object, ends_frame, Leads, here, onward, IsAtHome}
use Rattle.ec_core.specs.Plain.{PlainStorage, static, local, param, register, PlainObject, PlainProgram}
use Rattle.ec_core.specs.PortAccesses.{byte_read}
use Rattle.ec_core.specs.State.{Setting, Event, Out, State, with_event, worked, with_object, with_group, with_choice}
use Rattle.ec_core.specs.Valid.{IsAddressable}

-- ---- steps

pub leads_on : {w : Setting} {s t u : State} → Leads w s t → Leads w t u → Leads w s u
leads_on {w} {s} a (here _ e) = subst (Leads w s) e a
leads_on a (onward r u b c) = onward r u (leads_on a b) c

pub by_step : {w : Setting} {s t : State} → Step w s t → Leads w s t
by_step {w} {s} {t} c = onward s t (here s refl) c

pub itself : {w : Setting} (s : State) → Leads w s s
itself s = here s refl

-- ---- what steps do

-- a step adds at most one event, which is at home
pub record Added (w : Setting) (s t : State) : Type 0 where
  pub added : List Event
  pub is : t.events ≡ s.events ++ added
  pub home : AllByRecursion (IsAtHome w.program) added
  pub work : s.work ≤ t.work

none_added : (w : Setting) (s t : State) → t.events ≡ s.events → s.work ≤ t.work → Added w s t
none_added w s t e le = record { added = []; is = e ∙ sym (append-nil s.events); home = tt; work = le }

one_added : (w : Setting) (s t : State) (e : Event) → t.events ≡ s.events ++ e ∷ [] → IsAtHome w.program e → s.work ≤ t.work → Added w s t
one_added w s t e is h le = record { added = e ∷ []; is = is; home = (h, tt); work = le }

-- a named register adds none
record_added : (w : Setting) (s : State) (storage : PlainStorage) (e : Event) (t : State) → t.events ≡ s.events → s.work ≤ t.work
    → (IsAddressable storage → IsAtHome w.program e) → Added w s (recorded storage e t)
record_added w s (static inits) e t same le h = one_added w s _ e (ap (λ es. es ++ e ∷ []) same) (h tt) le
record_added w s (local f) e t same le h = one_added w s _ e (ap (λ es. es ++ e ∷ []) same) (h tt) le
record_added w s (param f) e t same le h = one_added w s _ e (ap (λ es. es ++ e ∷ []) same) (h tt) le
record_added w s (register r) e t same le h = none_added w s t same le

made_home : (program : PlainProgram) (s : State) (a : Access) → IsMade program s a → IsAddressable a.declared.storage
    → IsSomeAnd (slice_get program.objects a.object) (λ x. IsTrue (holds a.space x.home) × IsAddressable x.storage)
made_home program s a m l = subst (λ (o : Option PlainObject). IsSomeAnd o (λ x. IsTrue (holds a.space x.home) × IsAddressable x.storage))
    (sym m.declared) (m.home, l)

step_adds : (w : Setting) (s t : State) → Step w s t → Added w s t
step_adds w s t (takes_work words e) = subst (Added w s) (sym e) (none_added w s (worked words s) refl (omega arith))
step_adds w s t (reads_port port e) = subst (Added w s) (sym e) (one_added w s (byte_read w.inputs port s) _ refl tt (omega arith))
step_adds w s t (writes_port port byte e) = subst (Added w s) (sym e) (one_added w s (with_event (Out port byte) s) _ refl tt (omega arith))
step_adds w s t (changes_group g acquired e) = subst (Added w s) (sym e) (none_added w s (with_group g acquired s) refl (omega arith))
step_adds w s t (binds_group d choice e) = subst (Added w s) (sym e) (none_added w s (with_choice d choice s) refl (omega arith))
step_adds w s t (reads_leaf a v m l e) =
    subst (Added w s) (sym e) (record_added w s a.declared.storage _ s refl (omega arith) (made_home w.program s a m))
step_adds w s t (writes_leaf a v m e) = subst (Added w s) (sym e)
    (record_added w s a.declared.storage _ (with_object a.object (with_leaf a.leaf v) s) refl (omega arith) (made_home w.program s a m))
step_adds w s t (begins_object o e) = subst (Added w s) (sym e) (none_added w s (begun w.program o s) refl (omega arith))
step_adds w s t (ends_object o e) = subst (Added w s) (sym e) (none_added w s (with_object o ended s) refl (omega arith))
step_adds w s t (ends_frame f e) = subst (Added w s) (sym e) (none_added w s (frame_ended w.program f s) refl (omega arith))

all_append : {X : Type 0} (P : X → Type 0) (xs ys : List X) → AllByRecursion P xs → AllByRecursion P ys → AllByRecursion P (xs ++ ys)
all_append P [] ys a b = b
all_append P (x ∷ xs) ys a b = (a.0, all_append P xs ys a.1 b)

pub leads_add : (w : Setting) (s t : State) → Leads w s t → Added w s t
leads_add w s t (here _ e) = subst (Added w s) e (none_added w s s refl (omega arith))
leads_add w s t (onward r _ a b) =
    let f = leads_add w s r a in
    let g = step_adds w r t b in
    record {
      added = f.added ++ g.added;
      is = g.is ∙ ap (λ l. l ++ g.added) f.is ∙ append_assoc s.events f.added g.added;
      home = all_append (IsAtHome w.program) f.added g.added f.home g.home;
      work = omega (arith, f.work, g.work);
    }

pub leads_begin : (w : Setting) (s t : State) → Leads w s t → BeginWith s.events t.events
leads_begin w s t l = let a = leads_add w s t l in record { added = a.added; is = a.is }
