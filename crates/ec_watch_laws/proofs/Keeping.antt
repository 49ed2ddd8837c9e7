-- A run with a watch keeps its source.
use Rattle.std.proofs.Common.{◌≡◌, ℕ, ◌+◌, ◌⊎◌, inl, inr, Bool, true, false, ◌||◌, List, [], ◌∷◌, ◌++◌, length, Some}
use Rattle.std.proofs.Common.{ℤ, refl, sym, ap, ◌∙◌, subst, append_assoc, append-nil}
use Rattle.std.specs.Prelude.{IsTrue}
use Rattle.std.specs.List.{AllByRecursion}
use Rattle.std.proofs.lemmas.Bool.{eqb-true}
use Rattle.ec_space.specs.Memory.{data_size}
use Rattle.ec_space.specs.declared.space.SpaceId.{SpaceId}
use Rattle.ec_runs.specs.Behaviours.{Behaviour, Running as GoesOn, Ended as Ends, Failed, BeginWith}
use Rattle.ec_avr.specs.declared.machine.Access.{Access}
use Rattle.ec_avr.specs.declared.machine.Access.TheVariants.{Silent, In as PortIn, Out as PortOut, Read as ByteRead}
use Rattle.ec_avr.specs.declared.machine.Access.TheVariants.{Write as ByteWrite, Stack}
use Rattle.ec_avr.specs.Machine.{State, Inputs, Running, EndedWith, FaultedAt, machine}
use Rattle.ec_avr.specs.declared.machine.FaultKind.{FaultKind}
use Rattle.ec_avr.proofs.Runs.{runs_lead}
use Rattle.ec_core.specs.declared.programs.LeafInit.{LeafInit}
use Rattle.ec_core.specs.declared.programs.LeafInit.TheVariants.{Number, Null, Address}
use Rattle.ec_core.specs.declared.values.Undefined.{Undefined}
use Rattle.ec_core.specs.declared.values.Value.{Value}
use Rattle.ec_core.specs.Meaning.{run, behaviour_of, source, state_of, Defined}
use Rattle.ec_core.specs.Plain.{PlainProgram}
use Rattle.ec_core.specs.PortTable.{plain_table}
use Rattle.ec_core.specs.State.{Event, In, Out, Read, Write, Outcome, got, more, undefined}
use Rattle.ec_core_numbers.specs.Numbers.{WritesNumber}
use Rattle.ec_emu.specs.Stops.{has_stack}
use Rattle.ec_emu.proofs.Stops.{has_stack-push, IsLast, IsEarlier, split, last_of}
use Rattle.ec_emu_watch.specs.declared.point.WatchPoint.{WatchPoint}
use Rattle.ec_emu_watch.specs.Hits.{HasNoHit, EndsAtHit}
use Rattle.ec_emu_watch.specs.Points.{last_byte, writes_last}
use Rattle.ec_map.specs.declared.map.Map.{Map}
use Rattle.ec_locate.specs.declared.placing.Located.{Located}
use Rattle.ec_select_functions.specs.Relation.{accesses}
use Rattle.ec_build_laws.specs.Kinds.{place_of}
use Rattle.ec_build_laws.specs.Shown.{IsWithinSource, ShowsAll, ShowsFirst}
use Rattle.ec_build_laws.specs.Whole.{unless, kept_of, kept, AreForEvents, StaysAtHome, ShowsWhole}
use Rattle.ec_watch_laws.specs.Watched.{after_startup, plain_trace, events_in, IsWatchedWrite, HasNoWatchedWrite, FirstWatchedWrite}
use Rattle.ec_watch_laws.specs.Watched.{StopsAtWrite, EndsUnwatched, IsWithinEvents, GoesOnUnwatched}
use Rattle.ec_watch_laws.proofs.Alone.{IsAlone, bytes_of, watched, write_is_point, last_in, have_kinds, point_writes, expand_is}
use Rattle.ec_watch_laws.proofs.Points.{IsPoint, ends}
use Rattle.ec_watch_laws.proofs.Runs.{between}
use Rattle.ec_watch_laws.proofs.Values.{MachineLaws, value_there}
use Rattle.ec_watch_laws.proofs.Written.{kept-append, kept_split, accesses-append, accesses-last}

-- ---- where the startup ends

has_stack-append : (xs ys : List Access) → has_stack xs ≡ true → has_stack (xs ++ ys) ≡ true
has_stack-append [] ys e = cc
has_stack-append (Silent ∷ xs) ys e = has_stack-append xs ys e
has_stack-append (PortIn port byte ∷ xs) ys e = has_stack-append xs ys e
has_stack-append (PortOut port byte ∷ xs) ys e = has_stack-append xs ys e
has_stack-append (ByteRead bank at byte ∷ xs) ys e = has_stack-append xs ys e
has_stack-append (ByteWrite at byte ∷ xs) ys e = has_stack-append xs ys e
has_stack-append (Stack ∷ xs) ys e = refl

-- behind a first access of the stack
pub behind_startup : (before after : List Access) → has_stack before ≡ false → after_startup ((before ++ Stack ∷ []) ++ after) ≡ after
behind_startup [] after e = refl
behind_startup (Silent ∷ before) after e = behind_startup before after e
behind_startup (PortIn port byte ∷ before) after e = behind_startup before after e
behind_startup (PortOut port byte ∷ before) after e = behind_startup before after e
behind_startup (ByteRead bank at byte ∷ before) after e = behind_startup before after e
behind_startup (ByteWrite at byte ∷ before) after e = behind_startup before after e
behind_startup (Stack ∷ before) after e = cc

-- nothing stands behind it, where accesses begin those that end with it
nothing_behind : (before trace added : List Access) → has_stack before ≡ false → before ++ Stack ∷ [] ≡ trace ++ added
    → after_startup trace ≡ []
nothing_behind before [] added e q = refl
nothing_behind [] (x ∷ trace) added e q =
    let here : Stack ≡ x = cc in
    let none : [] ≡ trace ++ added = cc in
    subst (λ (z : Access). after_startup (z ∷ trace) ≡ []) here (empty trace added none)
  where
    empty : (xs ys : List Access) → [] ≡ xs ++ ys → xs ≡ []
    empty [] ys e = refl
    empty (y ∷ xs) ys e = cc
nothing_behind (b ∷ before) (x ∷ trace) added e q =
    let here : b ≡ x = cc in
    let rest : before ++ Stack ∷ [] ≡ trace ++ added = cc in
    subst (λ (z : Access). after_startup (z ∷ trace) ≡ []) here (by_access b e (λ f. nothing_behind before trace added f rest))
  where
    by_access : (b : Access) → has_stack (b ∷ before) ≡ false → (has_stack before ≡ false → after_startup trace ≡ [])
        → after_startup (b ∷ trace) ≡ []
    by_access Silent e ih = ih e
    by_access (PortIn port byte) e ih = ih e
    by_access (PortOut port byte) e ih = ih e
    by_access (ByteRead bank at byte) e ih = ih e
    by_access (ByteWrite at byte) e ih = ih e
    by_access Stack e ih = cc

-- ---- events

as_write : (o k : ℕ) (holds : ℤ → Bool) (e : Event) (value : ℤ) → IsWatchedWrite o k holds e value
    → (space : SpaceId) × ((e ≡ Write o k space (Number value)) × IsTrue (holds value))
as_write o k holds (In port byte) value h = absurd h
as_write o k holds (Out port byte) value h = absurd h
as_write o k holds (Read object leaf space told) value h = absurd h
as_write o k holds (Write object leaf space Null) value h = absurd h
as_write o k holds (Write object leaf space (Address q offset)) value h = absurd h
as_write o k holds (Write object leaf space (Number n)) value h = (
  space,
  (
    ap (λ (z : ℕ). Write z leaf space (Number n)) h.0 ∙ ap (λ (z : ℕ). Write o z space (Number n)) h.1
        ∙ ap (λ (z : ℤ). Write o k space (Number z)) h.2,
    h.3,
  ),
)

in_middle : {A : Type 0} (P : A → Type 0) (xs : List A) (y : A) (zs : List A) → AllByRecursion P (xs ++ y ∷ zs) → P y
in_middle P [] y zs h = h.0
in_middle P (x ∷ xs) y zs h = in_middle P xs y zs h.1

first_all : {A : Type 0} (P : A → Type 0) (xs ys : List A) → AllByRecursion P (xs ++ ys) → AllByRecursion P xs
first_all P [] ys a = tt
first_all P (x ∷ xs) ys a = (a.0, first_all P xs ys a.1)

number_injected : (a b : ℤ) → Number a ≡ Number b → a ≡ b
number_injected a b e = cc

some_injected : (a b : ℤ) → Some a ≡ Some b → a ≡ b
some_injected a b e = cc

-- a list is empty, or has a last item
pub record HasLast (xs : List Access) : Type 0 where
  pub front : List Access
  pub last : Access
  pub is : xs ≡ front ++ last ∷ []

ends_or_not : (xs : List Access) → (xs ≡ []) ⊎ HasLast xs
ends_or_not [] = inl refl
ends_or_not (x ∷ xs) = by_rest (ends_or_not xs)
  where
    by_rest : (xs ≡ []) ⊎ HasLast xs → (x ∷ xs ≡ []) ⊎ HasLast (x ∷ xs)
    by_rest (inl e) = inr (record { front = []; last = x; is = ap (λ (z : List Access). x ∷ z) e })
    by_rest (inr r) = inr (record { front = x ∷ r.front; last = r.last; is = ap (λ (z : List Access). x ∷ z) r.is })

-- ---- the machine beside its source

module _ (laws : MachineLaws) (p : PlainProgram) (m : Map) (l : Located) (point : WatchPoint) (h : IsAlone p m l point)
    (holds : ℤ → Bool) (s : State) (inputs : Inputs) (shows : ShowsWhole p m l s inputs) (sized : length s.mem.data ≡ data_size m.core)
    (defined : Defined p (plain_table m.io) inputs) (no_stack : has_stack shows.before ≡ false) where
  abbrev o : ℕ
  o = point.object

  abbrev k : ℕ
  k = point.leaf

  abbrev shown_by : List Event → List Access
  shown_by = accesses p (place_of l)

  -- some events of a source: each is at home, and each write is of a number of its type
  record AreFine (es : List Event) : Type 0 where
    home : AreForEvents p l es
    numbers : AllByRecursion (WritesNumber p) es

  begun : has_stack shows.start ≡ true
  begun = ap has_stack shows.calls ∙ has_stack-push shows.before Stack ∙ ap (λ (z : Bool). z || true) no_stack

  -- ---- a watched write is a hit of the machine

  -- where all accesses of a watched write were kept, and those of all events before it, a step is a hit
  hit_of : (after : List Access) (t : State) → machine (length (shows.start ++ after)) inputs s ≡ Running (shows.start ++ after) t
      → (es : List Event) (e : Event) (value : ℤ) → WritesNumber p e → IsWatchedWrite o k holds e value
      → BeginWith (shown_by (es ++ e ∷ [])) (kept p m l after) → HasNoHit point holds s (shows.start ++ after) → ⊥
  hit_of after t made es e value w is b none =
      let write = as_write o k holds e value is in
      let is_point = subst (IsPoint (bytes_of p m l point h) (watched p m l point h)) (sym write.1.0)
      (write_is_point p m l point h write.0 (Number value)) in
      let kept_is : kept p m l after ≡ (shown_by es ++ is_point.front) ++ is_point.last ∷ b.added =
      b.is ∙ ap (λ (z : List Access). z ++ b.added) (accesses-last p (place_of l) es e
      ∙ ap (λ (z : List Access). shown_by es ++ z) is_point.is ∙ sym (append_assoc (shown_by es) is_point.front (is_point.last ∷ [])))
      ∙ append_assoc (shown_by es ++ is_point.front) (is_point.last ∷ []) b.added in
      let cut = kept_split p m l after (shown_by es ++ is_point.front) is_point.last b.added kept_is in
      let first = cut.before ++ is_point.last ∷ [] in
      let parts : after ≡ first ++ cut.behind = cut.is ∙ sym (append_assoc cut.before (is_point.last ∷ []) cut.behind) in
      let whole : shows.start ++ after ≡ (shows.start ++ first) ++ cut.behind =
      ap (λ (z : List Access). shows.start ++ z) parts ∙ sym (append_assoc shows.start first cut.behind) in
      let there = between inputs s t (shows.start ++ first) cut.behind
      (subst (λ (z : List Access). machine (length z) inputs s ≡ Running z t) whole made) in
      let kept_first : kept p m l first ≡ shown_by (es ++ Write o k write.0 (Number value) ∷ []) =
      kept-append p m l cut.before (is_point.last ∷ [])
      ∙ ap (λ (z : List Access). z ++ (kept_of p m l is_point.last ++ [])) cut.kept_before
      ∙ ap (λ (z : List Access). (shown_by es ++ is_point.front) ++ (z ++ [])) cut.kept_here
      ∙ append_assoc (shown_by es) is_point.front (is_point.last ∷ []) ∙ ap (λ (z : List Access). shown_by es ++ z) (sym is_point.is)
      ∙ sym (accesses-last p (place_of l) es e) ∙ ap (λ (z : Event). shown_by (es ++ z ∷ [])) write.1.0 in
      let held = value_there laws p m l point h s inputs shows sized defined first es write.0 (Number value) there.mid there.first
      kept_first (subst (WritesNumber p) write.1.0 w) in
      let before = shows.start ++ cut.before in
      let joined : shows.start ++ first ≡ before ++ is_point.last ∷ [] = sym (append_assoc shows.start cut.before (is_point.last ∷ [])) in
      none before cut.behind is_point.last there.mid value
      (whole ∙ ap (λ (z : List Access). z ++ cut.behind) joined ∙ append_assoc before (is_point.last ∷ []) cut.behind)
      (record {
        begun = has_stack-append shows.start cut.before begun;
        leads = runs_lead (length (before ++ is_point.last ∷ [])) inputs s there.mid (before ++ is_point.last ∷ [])
            (subst (λ (z : List Access). machine (length z) inputs s ≡ Running z there.mid) joined there.first);
        writes = is_point.told;
        held = held.held ∙ ap Some (sym (number_injected value held.number held.is));
        rule = write.1.1;
      })

  -- so there is none among events of which all accesses were kept
  none_watched : (after : List Access) (t : State) → machine (length (shows.start ++ after)) inputs s ≡ Running (shows.start ++ after) t
      → (es : List Event) → AllByRecursion (WritesNumber p) es → BeginWith (shown_by es) (kept p m l after)
      → HasNoHit point holds s (shows.start ++ after) → HasNoWatchedWrite o k holds es
  none_watched after t made es numbers b none before behind e value are is =
      let w = in_middle (WritesNumber p) before e behind (subst (AllByRecursion (WritesNumber p)) are numbers) in
      hit_of after t made before e value w is (record {
        added = shown_by behind ++ b.added;
        is = b.is ∙ ap (λ (z : List Access). z ++ b.added) (ap shown_by (are ∙ sym (append_assoc before (e ∷ []) behind))
            ∙ accesses-append p (place_of l) (before ++ e ∷ []) behind)
            ∙ append_assoc (shown_by (before ++ e ∷ [])) (shown_by behind) b.added;
      }) none

  -- ---- what is left of a trace

  plain_is : (after : List Access) → plain_trace p m l (shows.start ++ after) ≡ kept p m l after
  plain_is after =
      ap (λ (z : List Access). kept p m l (after_startup (z ++ after))) shows.calls
      ∙ ap (kept p m l) (behind_startup shows.before after no_stack)

  plain_early : (trace : List Access) → BeginWith trace shows.start → plain_trace p m l trace ≡ []
  plain_early trace b = ap (kept p m l) (nothing_behind shows.before trace b.added no_stack (sym shows.calls ∙ b.is))

  -- what is told by the steps that were made: the run has not left the startup, or shows a part of the source
  abbrev Shown : List Event → List Access → Type 0
  Shown es trace = BeginWith trace shows.start ⊎ ShowsFirst p l (kept p m l) shows.start es trace

  plain_shown : (es : List Event) (trace : List Access) → Shown es trace → BeginWith (plain_trace p m l trace) (shown_by es)
  plain_shown es trace (inl b) =
      record { added = shown_by es; is = sym (ap (λ (z : List Access). z ++ shown_by es) (plain_early trace b)) }
  plain_shown es trace (inr f) =
      record {
        added = f.shown.added;
        is = f.shown.is ∙ ap (λ (z : List Access). z ++ f.shown.added)
            (sym (ap (plain_trace p m l) f.is ∙ plain_is f.after));
      }

  -- ---- a run that stopped with a value

  stops : (trace : List Access) (new : State) (value : ℤ) → machine (length trace) inputs s ≡ Running trace new
      → EndsAtHit point holds s trace new value → (es : List Event) → AreFine es → Shown es trace
      → (first : FirstWatchedWrite o k holds es value) × (plain_trace p m l trace ≡ shown_by (first.before ++ first.write ∷ []))
  stops trace new value made ends_at es fine (inl b) = absurd (early (split shows.before Stack ends_at.before ends_at.last b.added whole))
    where
      whole : shows.before ++ Stack ∷ [] ≡ ends_at.before ++ ends_at.last ∷ b.added
      whole = sym shows.calls ∙ b.is ∙ ap (λ (z : List Access). z ++ b.added) ends_at.is
          ∙ append_assoc ends_at.before (ends_at.last ∷ []) b.added

      early : IsLast shows.before Stack ends_at.before ends_at.last ⊎ IsEarlier shows.before Stack ends_at.before ends_at.last b.added → ⊥
      early (inl q) =
          let no : true ≡ false = sym ends_at.hit.begun ∙ ap has_stack q.front ∙ no_stack in cc
      early (inr q) =
          let no : true ≡ false =
          sym (has_stack-append ends_at.before (ends_at.last ∷ q.0) ends_at.hit.begun) ∙ ap has_stack (sym q.1) ∙ no_stack in cc
  stops trace new value made ends_at es fine (inr f) = by_last (ends_or_not f.after)
    where
      last_written : (a : Access) → writes_last point a ≡ true → kept_of p m l a ≡ a ∷ []
      last_written Silent w = cc
      last_written Stack w = cc
      last_written (PortIn port byte) w = cc
      last_written (PortOut port byte) w = cc
      last_written (ByteRead bank at byte) w = cc
      last_written (ByteWrite at byte) w =
          ap (λ (z : Bool). unless z (ByteWrite at byte)) (h.own at (last_in p m l point h at (eqb-true at (last_byte point) w)))

      not_stack : (a : Access) → writes_last point a ≡ true → a ≡ Stack → ⊥
      not_stack a w e = let no : true ≡ false = sym w ∙ ap (writes_last point) e in cc

      found : (front : List Access) (last : Access) → f.after ≡ front ++ last ∷ [] → ends_at.before ≡ shows.start ++ front
          → ends_at.last ≡ last
          → (first : FirstWatchedWrite o k holds es value) × (plain_trace p m l trace ≡ shown_by (first.before ++ first.write ∷ []))
      found front last is before_is last_is =
          let told : writes_last point last ≡ true = subst (λ (z : Access). writes_last point z ≡ true) last_is ends_at.hit.writes in
          let kept_is : kept p m l (front ++ last ∷ []) ≡ kept p m l front ++ last ∷ [] =
          kept-append p m l front (last ∷ []) ∙ ap (λ (z : List Access). kept p m l front ++ (z ++ [])) (last_written last told) in
          let all : kept p m l front ++ last ∷ f.shown.added ≡ shown_by es =
          sym (append_assoc (kept p m l front) (last ∷ []) f.shown.added)
          ∙ ap (λ (z : List Access). z ++ f.shown.added) (sym kept_is ∙ ap (kept p m l) (sym is)) ∙ sym f.shown.is in
          let r = ends (bytes_of p m l point h) (watched p m l point h) es (kept p m l front) last f.shown.added
          (have_kinds p m l point h es fine.home) (all ∙ sym (expand_is p m l point h es)) told in
          let shown : kept p m l front ++ last ∷ [] ≡ shown_by (r.before ++ r.at ∷ []) =
          r.all ∙ expand_is p m l point h (r.before ++ r.at ∷ []) in
          let w = point_writes p m l point h r.at
          (in_middle _ r.before r.at r.behind (subst (AreForEvents p l) r.events fine.home)) r.is_point in
          let number = in_middle (WritesNumber p) r.before r.at r.behind
          (subst (AllByRecursion (WritesNumber p)) r.events fine.numbers) in
          let trace_is : trace ≡ shows.start ++ (front ++ last ∷ []) = f.is ∙ ap (λ (z : List Access). shows.start ++ z) is in
          let held = value_there laws p m l point h s inputs shows sized defined (front ++ last ∷ []) r.before w.space w.told new
          (subst (λ (z : List Access). machine (length z) inputs s ≡ Running z new) trace_is made)
          (kept_is ∙ shown ∙ ap (λ (z : Event). shown_by (r.before ++ z ∷ [])) w.is) (subst (WritesNumber p) w.is number) in
          let value_is : held.number ≡ value = some_injected held.number value (sym held.held ∙ ends_at.hit.held) in
          let write_is : r.at ≡ Write o k w.space (Number value) =
          w.is ∙ ap (λ (z : LeafInit). Write o k w.space z) (held.is ∙ ap Number value_is) in
          let earlier = between inputs s new (shows.start ++ front) (last ∷ [])
          (subst (λ (z : List Access). machine (length z) inputs s ≡ Running z new)
          (trace_is ∙ sym (append_assoc shows.start front (last ∷ []))) made) in
          let front_is = last_of (kept p m l front) last (shown_by r.before ++ r.is_point.front) r.is_point.last
          (shown ∙ accesses-last p (place_of l) r.before r.at ∙ ap (λ (z : List Access). shown_by r.before ++ z) r.is_point.is
          ∙ sym (append_assoc (shown_by r.before) r.is_point.front (r.is_point.last ∷ []))) in (
            record {
              before = r.before;
              write = r.at;
              behind = r.behind;
              are = r.events;
              is = subst (λ (z : Event). IsWatchedWrite o k holds z value) (sym write_is) (refl, refl, refl, ends_at.hit.rule);
              first = none_watched front earlier.mid earlier.first r.before
                  (first_all (WritesNumber p) r.before (r.at ∷ r.behind) (subst (AllByRecursion (WritesNumber p)) r.events fine.numbers))
                  (record { added = r.is_point.front; is = sym front_is.front })
                  (subst (HasNoHit point holds s) before_is ends_at.first);
            },
            ap (plain_trace p m l) trace_is ∙ plain_is (front ++ last ∷ []) ∙ kept_is ∙ shown,
          )

      by_last : (f.after ≡ []) ⊎ HasLast f.after
          → (first : FirstWatchedWrite o k holds es value) × (plain_trace p m l trace ≡ shown_by (first.before ++ first.write ∷ []))
      by_last (inl none) =
          let whole : shows.before ++ Stack ∷ [] ≡ ends_at.before ++ ends_at.last ∷ [] =
          sym shows.calls ∙ sym (append-nil shows.start) ∙ ap (λ (z : List Access). shows.start ++ z) (sym none) ∙ sym f.is ∙ ends_at.is in
          absurd (not_stack ends_at.last ends_at.hit.writes
          (last_of shows.before Stack ends_at.before ends_at.last whole).item)
      by_last (inr q) =
          let joined : (shows.start ++ q.front) ++ q.last ∷ [] ≡ ends_at.before ++ ends_at.last ∷ [] =
          append_assoc shows.start q.front (q.last ∷ []) ∙ ap (λ (z : List Access). shows.start ++ z) (sym q.is) ∙ sym f.is ∙ ends_at.is in
          let z = last_of (shows.start ++ q.front) q.last ends_at.before ends_at.last joined in
          found q.front q.last q.is z.front z.item

  -- ---- a run that was not stopped

  ended : (steps : ℕ) (trace : List Access) (new : State) (result : ℤ) → machine (length trace) inputs s ≡ Running trace new
      → HasNoHit point holds s trace → (es : List Event) → AllByRecursion (WritesNumber p) es
      → source p (plain_table m.io) inputs steps ≡ Ends es result → ShowsAll p l (kept p m l) shows.start es trace
      → EndsUnwatched p m l inputs point holds steps trace result
  ended steps trace new result made none es numbers is f = record {
    es = es;
    source_ends = is;
    none = none_watched f.after new (subst (λ (z : List Access). machine (length z) inputs s ≡ Running z new) f.is made) es numbers
        (record { added = []; is = f.shown ∙ sym (append-nil (shown_by es)) }) (subst (HasNoHit point holds s) f.is none);
    shown = ap (plain_trace p m l) f.is ∙ plain_is f.after ∙ f.shown;
  }

  -- a watched write has an access
  some_access : (es : List Event) (e : Event) (value : ℤ) → IsWatchedWrite o k holds e value → (added : List Access)
      → [] ≡ shown_by (es ++ e ∷ []) ++ added → ⊥
  some_access es e value is added q =
      let write = as_write o k holds e value is in
      let is_point = subst (IsPoint (bytes_of p m l point h) (watched p m l point h)) (sym write.1.0)
      (write_is_point p m l point h write.0 (Number value)) in
      no_item (shown_by es ++ is_point.front) is_point.last added
      (q ∙ ap (λ (z : List Access). z ++ added) (accesses-last p (place_of l) es e ∙ ap (λ (z : List Access). shown_by es ++ z) is_point.is
      ∙ sym (append_assoc (shown_by es) is_point.front (is_point.last ∷ [])))
      ∙ append_assoc (shown_by es ++ is_point.front) (is_point.last ∷ []) added)
    where
      no_item : (xs : List Access) (y : Access) (zs : List Access) → [] ≡ xs ++ y ∷ zs → ⊥
      no_item [] y zs e = cc
      no_item (x ∷ xs) y zs e = cc

  none_complete : (trace : List Access) (new : State) → machine (length trace) inputs s ≡ Running trace new
      → HasNoHit point holds s trace → (es : List Event) → AllByRecursion (WritesNumber p) es → Shown es trace
      → (before behind : List Event) (e : Event) (value : ℤ) → es ≡ before ++ e ∷ behind
      → BeginWith (shown_by (before ++ e ∷ [])) (plain_trace p m l trace) → IsWatchedWrite o k holds e value → ⊥
  none_complete trace new made none es numbers (inl b) before behind e value are complete is =
      some_access before e value is complete.added (sym (plain_early trace b) ∙ complete.is)
  none_complete trace new made none es numbers (inr f) before behind e value are complete is =
      hit_of f.after new (subst (λ (z : List Access). machine (length z) inputs s ≡ Running z new) f.is made) before e value
      (in_middle (WritesNumber p) before e behind (subst (AllByRecursion (WritesNumber p)) are numbers)) is
      (subst (BeginWith (shown_by (before ++ e ∷ []))) (ap (plain_trace p m l) f.is ∙ plain_is f.after) complete)
      (subst (HasNoHit point holds s) f.is none)

  -- ---- by how the source goes on

  abbrev after_turns : ℕ → Behaviour Event ℤ Undefined
  after_turns n = source p (plain_table m.io) inputs n

  fine_by : (outcome : Outcome Value) → AllByRecursion (WritesNumber p) (state_of outcome).events → StaysAtHome p l (behaviour_of outcome)
      → AreFine (events_in (behaviour_of outcome))
  fine_by (got x t) w at_home = record { home = at_home; numbers = w }
  fine_by (more t) w at_home = record { home = at_home; numbers = w }
  fine_by (undefined reason t) w at_home = record { home = tt; numbers = tt }

  module _ (all_numbers : (n : ℕ) → AllByRecursion (WritesNumber p) (state_of (run p (plain_table m.io) inputs n)).events) where
    fine_after : (n : ℕ) → AreFine (events_in (after_turns n))
    fine_after n = fine_by (run p (plain_table m.io) inputs n) (all_numbers n) (shows.spaces n)

    shown_after : (n : ℕ) (trace : List Access) (new : State) → machine n inputs s ≡ Running trace new
        → Shown (events_in (after_turns n)) trace
    shown_after n trace new made =
        by_source (after_turns n) refl (subst (IsWithinSource p l (kept p m l) s inputs shows.start (after_turns n)) made (shows.within n))
      where
        by_source : (b : Behaviour Event ℤ Undefined) → after_turns n ≡ b
            → IsWithinSource p l (kept p m l) s inputs shows.start b (Running trace new) → Shown (events_in b) trace
        by_source (GoesOn es) e w = w
        by_source (Ends es result) e w = w
        by_source (Failed reason) e w = absurd (defined n reason e)

    pub keeps_stopped : (trace : List Access) (new : State) (value : ℤ) → machine (length trace) inputs s ≡ Running trace new
        → EndsAtHit point holds s trace new value → StopsAtWrite p m l inputs point holds trace value
    keeps_stopped trace new value made at =
        let r = stops trace new value made at (events_in (after_turns (length trace))) (fine_after (length trace))
        (shown_after (length trace) trace new made) in
        record { first = r.0; shown = r.1 }

    pub keeps_ended : (steps : ℕ) (trace : List Access) (new : State) (result : ℤ)
        → machine (length trace) inputs s ≡ Running trace new → machine steps inputs s ≡ EndedWith trace result
        → HasNoHit point holds s trace → EndsUnwatched p m l inputs point holds steps trace result
    keeps_ended steps trace new result made at none =
        by_source (after_turns steps) refl
        (subst (IsWithinSource p l (kept p m l) s inputs shows.start (after_turns steps)) at (shows.within steps)) (fine_after steps)
      where
        by_source : (b : Behaviour Event ℤ Undefined) → after_turns steps ≡ b
            → IsWithinSource p l (kept p m l) s inputs shows.start b (EndedWith trace result) → AreFine (events_in b)
            → EndsUnwatched p m l inputs point holds steps trace result
        by_source (GoesOn es) e w f = absurd w
        by_source (Ends es other) e w f =
            ended steps trace new result made none es f.numbers (e ∙ ap (λ (z : ℤ). Ends es z) (sym w.1)) w.0
        by_source (Failed reason) e w f = absurd (defined steps reason e)

    pub never_faults : (steps : ℕ) (trace : List Access) (kind : FaultKind) (pc : ℕ) → machine steps inputs s ≡ FaultedAt trace kind pc → ⊥
    never_faults steps trace kind pc at =
        by_source (after_turns steps) refl
        (subst (IsWithinSource p l (kept p m l) s inputs shows.start (after_turns steps)) at (shows.within steps))
      where
        by_source : (b : Behaviour Event ℤ Undefined) → after_turns steps ≡ b
            → IsWithinSource p l (kept p m l) s inputs shows.start b (FaultedAt trace kind pc) → ⊥
        by_source (GoesOn es) e w = w
        by_source (Ends es other) e w = w
        by_source (Failed reason) e w = defined steps reason e

    pub keeps_within : (n : ℕ) (trace : List Access) (new : State) → machine n inputs s ≡ Running trace new
        → IsWithinEvents p m l inputs point holds n trace
    keeps_within n trace new made = plain_shown (events_in (after_turns n)) trace (shown_after n trace new made)

    pub keeps_on : (steps : ℕ) (trace : List Access) (new : State) → machine (length trace) inputs s ≡ Running trace new
        → length trace ≡ steps → HasNoHit point holds s trace → GoesOnUnwatched p m l inputs point holds steps trace
    keeps_on steps trace new made all none =
        let made_all : machine steps inputs s ≡ Running trace new =
        subst (λ (n : ℕ). machine n inputs s ≡ Running trace new) all made in
        record {
          all = all;
          shown = keeps_within steps trace new made_all;
          none = none_complete trace new made none (events_in (after_turns steps)) (fine_after steps).numbers
              (shown_after steps trace new made_all);
        }
