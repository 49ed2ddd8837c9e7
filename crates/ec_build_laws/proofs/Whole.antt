-- What is left of a machine's whole trace.
use Rattle.std.proofs.Common.{◌≡◌, ℕ, zero, suc, ◌+◌, ◌<◌, ◌≤◌, true, ℤ, List, [], ◌∷◌, Some, refl, sym, ap, ◌∙◌, subst}
use Rattle.std.proofs.Common.{arith}
use Rattle.std.specs.Prelude.{IsSomeAnd, slice_get, option_map, IsTrue}
use Rattle.std.specs.List.{AllByRecursion}
use Rattle.std.proofs.lemmas.Bool.{ne_eqb}
use Rattle.std.proofs.lemmas.Option.{slice_get-map}
use Rattle.ec_runs.specs.Behaviours.{Behaviour, Running as GoesOn, Ended as Ends, Failed, Reached}
use Rattle.ec_space.specs.Memory.{data_size}
use Rattle.ec_space.specs.Spaces.{bank_of, holds}
use Rattle.ec_space.specs.declared.space.Bank.{Bank}
use Rattle.ec_space.specs.declared.space.Bank.TheVariants.{Data as DataBank}
use Rattle.ec_space.specs.declared.space.SpaceId.{SpaceId}
use Rattle.ec_avr.specs.declared.machine.Access.TheVariants.{Read as ByteRead, Write as ByteWrite}
use Rattle.ec_avr.specs.Inputs.{trace_of}
use Rattle.ec_avr.specs.Laws.{MachineIsRun}
use Rattle.ec_avr.specs.Machine.{State, Inputs, machine, IsReset}
use Rattle.ec_avr.specs.State.{byte_at}
use Rattle.ec_asm.specs.View.{bytes_of}
use Rattle.ec_asm.specs.Change.{Env, Port, Stacked}
use Rattle.ec_asm.specs.Laws.{StackStaysInside}
use Rattle.ec_asm.specs.Pieces.{value}
use Rattle.ec_asm.specs.Run.{Running as AtWord, run, is_safe}
use Rattle.ec_asm.specs.Shows.{Fits, noted_all}
use Rattle.ec_asm.specs.declared.items.AsmProgram.{AsmProgram}
use Rattle.ec_core.specs.Accesses.{leaf_of, leaf_count}
use Rattle.ec_core.specs.Laws.{IsAtHome, EventsAreAtHome, MoreTurnsOnlyAdd, PartsOnlyAdd}
use Rattle.ec_core.specs.Meaning.{initial_object, initial_value, behaviour_of, state_of, run as source_run, source}
use Rattle.ec_core.specs.Plain.{PlainObject, PlainProgram}
use Rattle.ec_core.specs.PortTable.{plain_table}
use Rattle.ec_core.specs.State.{Event, In, Out, Read, Write, Outcome, got, more, undefined}
use Rattle.ec_core.specs.Valid.{IsAddressable}
use Rattle.ec_core.specs.ValueTypes.{GiveBytes}
use Rattle.ec_core.specs.declared.programs.LeafInit.{LeafInit}
use Rattle.ec_core.specs.declared.values.Undefined.{Undefined}
use Rattle.ec_core.specs.declared.values.Value.{Value}
use Rattle.ec_core.proofs.Homes.{home_in_data}
use Rattle.ec_asm_accesses.specs.Allowed.{IsAllowed, AccessesAreAllowed}
use Rattle.ec_ir.specs.Meaning.{meaning, run as operations_run, start_state, standing}
use Rattle.ec_ir.specs.Operations.{data_of}
use Rattle.ec_lower_code.specs.Code.{lowered}
use Rattle.ec_lower_code.specs.Correct.{LoweredFollows, is_paid}
use Rattle.ec_map.specs.Regions.{end_of}
use Rattle.ec_map.specs.declared.map.Map.{Map}
use Rattle.ec_locate.specs.declared.placing.Located.{Located}
use Rattle.ec_core_accesses.specs.Objects.{AccessesAreLive}
use Rattle.ec_core_accesses.specs.Ports.{SourcesAccessPorts, PortBytesPass}
use Rattle.ec_select_functions.specs.Laws.{HoldsUnlessFailed}
use Rattle.ec_select_operations.specs.Places.{ObjectLeaf}
use Rattle.ec_select_operations.specs.Pointers.{home_of}
use Rattle.ec_select_functions.specs.Relation.{event_accesses}
use Rattle.ec_select.specs.Laws.{SelectionsRun}
use Rattle.ec_select.specs.Program.{has_initial_bytes, spans_of}
use Rattle.ec_build_laws.specs.Kinds.{place_of}
use Rattle.ec_build_laws.specs.Laws.{AreKinds}
use Rattle.ec_build_laws.specs.Runs.{RunsAsSource}
use Rattle.ec_build_laws.specs.Spaces.{IsLeafByte}
use Rattle.ec_build_laws.specs.Translation.{IsTranslated}
use Rattle.ec_build_laws.specs.Whole.{kept, IsHomeByte, IsForEvent, AreForEvents, StaysAtHome, AreInitial}
use Rattle.ec_build_laws.specs.Whole.{ShowsWhole, ProgramsShowTheirSources}
use Rattle.ec_build_laws.proofs.FromReset.{HasMeaning, meaning_before, quiet, reached, within, start_pushes, pushes}
use Rattle.ec_build_laws.proofs.Guarded.{all_of}
use Rattle.ec_build_laws.proofs.Kept.{frames_are_needs, kept_is_noted}
use Rattle.ec_build_laws.proofs.Laid.{PlacedLaws, are_kinds_of, ends_low, is_copied}
use Rattle.ec_build_laws.proofs.Copied.{are_copies}
use Rattle.ec_build_laws.proofs.Pointers.{initial_is_told}
use Rattle.ec_build_laws.proofs.Ports.{ports_of_map}
use Rattle.ec_build_laws.proofs.Begun.{BeginLaws}
use Rattle.ec_build_laws.proofs.Ran.{runs_as_operations, runs_as_source}
use Rattle.ec_build_laws.proofs.Watched.{watched_kinds, watched_tables, watched, watched_as, watched_has_kinds, watched_was}
use Rattle.ec_build_laws.proofs.Watched.{watched_fits, watched_are_laid_out}
use Rattle.ec_build_laws.proofs.Writes.{IsKeptInData, WritesData, writes_in_data}

-- what this rests on
pub record WholeLaws : Type 0 where
  pub laid : PlacedLaws
  pub selections : SelectionsRun
  pub follows : LoweredFollows
  pub machine_run : MachineIsRun
  pub turns : MoreTurnsOnlyAdd
  pub stack : StackStaysInside
  pub begin : BeginLaws
  pub allowed : AccessesAreAllowed
  pub home : EventsAreAtHome
  pub on_ports : SourcesAccessPorts
  pub port_bytes : PortBytesPass
  pub live : AccessesAreLive
  pub parts : PartsOnlyAdd

-- ---- events

both_to : {A : Type 0} (P Q R : A → Type 0) → ((x : A) → P x → Q x → R x) → (xs : List A) → AllByRecursion P xs → AllByRecursion Q xs
    → AllByRecursion R xs
both_to P Q R f [] a b = tt
both_to P Q R f (x ∷ xs) a b = (f x a.0 b.0, both_to P Q R f xs a.1 b.1)

events_running : (o : Outcome Value) (es : List Event) → behaviour_of o ≡ GoesOn es → (state_of o).events ≡ es
events_running (got x s) es h = absurd cc
events_running (more s) es h = cc
events_running (undefined point s) es h = absurd cc

events_ended : (o : Outcome Value) (es : List Event) (result : ℤ) → behaviour_of o ≡ Ends es result → (state_of o).events ≡ es
events_ended (got x s) es result h = cc
events_ended (more s) es result h = absurd cc
events_ended (undefined point s) es result h = absurd cc

module _ (p : PlainProgram) (l : Located) where
  abbrev IsThere : ℕ → SpaceId → Type 0
  IsThere o space = IsSomeAnd (slice_get p.objects o) (λ x. IsTrue (holds space x.home) × IsAddressable x.storage)

  home_byte : (o k at : ℕ) (space : SpaceId) (bank : Bank) → IsThere o space → (b : IsLeafByte p l o k at) → bank_of b.object.home ≡ bank
      → IsHomeByte p l o k space bank at
  home_byte o k at space bank there b home =
      let here : IsTrue (holds space b.object.home) × IsAddressable b.object.storage =
      subst (λ z. IsSomeAnd z (λ x. IsTrue (holds space x.home) × IsAddressable x.storage)) b.is_object there in
      record {
        object = b.object;
        leaf = b.leaf;
        is_object = b.is_object;
        is_leaf = b.is_leaf;
        home = home;
        in_space = here.0;
        from_there = b.from_there;
        within = b.within;
      }

  -- a byte that is read is in the bank of the object's home, and one that is written in the data bank
  read_byte : (o k at : ℕ) (space : SpaceId) → IsThere o space → IsLeafByte p l o k at → IsHomeByte p l o k space (home_of p o) at
  read_byte o k at space there b = home_byte o k at space (home_of p o) there b (rw b.is_object refl)

  written_byte : (o k at : ℕ) (space : SpaceId) → IsThere o space → IsKeptInData p o → IsLeafByte p l o k at
      → IsHomeByte p l o k space DataBank at
  written_byte o k at space there kept_there b =
      home_byte o k at space DataBank there b (subst (λ z. IsSomeAnd z (λ x. bank_of x.home ≡ DataBank)) b.is_object kept_there)

  -- each access of an event is of a byte of its leaf
  for_event : (event : Event) → IsAtHome p event → WritesData p event
      → AllByRecursion (IsForEvent p l event) (event_accesses p (place_of l) event)
  for_event (In port byte) there kept_there = (refl, tt)
  for_event (Out port byte) there kept_there = (refl, tt)
  for_event (Read o k space v) there kept_there =
      all_of p l (IsForEvent p l (Read o k space v)) (ByteRead (home_of p o)) o k v
      (λ at byte b. (home_of p o, at, byte, refl, read_byte o k at space there b))
  for_event (Write o k space v) there kept_there =
      all_of p l (IsForEvent p l (Write o k space v)) ByteWrite o k v
      (λ at byte b. (at, byte, refl, written_byte o k at space there kept_there b))

same_data : (p : PlainProgram) (m : Map) (event : Event) → WritesData (data_of (lowered p (plain_table m.io))) event → WritesData p event
same_data p m (In port byte) h = tt
same_data p m (Out port byte) h = tt
same_data p m (Read o k space v) h = tt
same_data p m (Write o k space v) h = h

-- ---- memory

-- above the ports the view shows each byte
value_seen : (t : State) (a n : ℕ) → 256 ≤ a → value (bytes_of t.mem.data) a n ≡ value (byte_at t) a n
value_seen t a zero high = refl
value_seen t a (suc n) high =
    let before = value_seen t a n high in
    let page = ne_eqb (a + n) 0x5B (λ q. omega (arith, q, high)) in
    let flags = ne_eqb (a + n) 0x5F (λ q. omega (arith, q, high)) in
    rw (before, page, flags) refl

-- ---- the whole

module _ (laws : WholeLaws) (p : PlainProgram) (m : Map) (asm : AsmProgram) (l : Located) (s : State) (inputs : Inputs)
    (h : IsTranslated p m asm l) (reset : IsReset l.image.core l.image.bytes.items s) (give : GiveBytes inputs) where
  abbrev e : Env
  e = watched p m asm l

  are : AreKinds p m asm l
  are = are_kinds_of laws.laid p m asm l h

  fit : Fits e (data_size m.core)
  fit = watched_fits p m asm l h.located h.bytes

  r : RunsAsSource p m l e s inputs
  r =
      runs_as_source laws.follows laws.machine_run laws.on_ports laws.stack p m asm l e s inputs h give fit
      (λ a is. watched_as p m asm l a Port (are.ports a (ports_of_map laws.port_bytes m h.map a is)) (λ z. cc))
      (runs_as_operations laws.laid.made laws.selections laws.begin p m asm l e s inputs h reset give refl refl fit
      (watched_are_laid_out laws.laid p m asm l h))

  -- ---- accesses

  safe_at : (k : ℕ) → HasMeaning p m inputs k → is_safe (run e k (AtWord r.main.pc r.view)) ≡ true
  safe_at k has = by_shown (source p (plain_table m.io) inputs k) refl (r.safe k) where
    by_shown : (b : Behaviour Event ℤ Undefined) → source p (plain_table m.io) inputs k ≡ b
        → HoldsUnlessFailed b (is_safe (run e k (AtWord r.main.pc r.view))) → is_safe (run e k (AtWord r.main.pc r.view)) ≡ true
    by_shown (Failed point) q t = absurd (has point q)
    by_shown (GoesOn es) q t = t
    by_shown (Ends es result) q t = t

  alike : (k : ℕ) → HasMeaning p m inputs k → noted_all e (trace_of (machine k inputs r.main))
      ≡ kept p m l (trace_of (machine k inputs r.main))
  alike k has =
      kept_is_noted p m asm l are (frames_are_needs p m asm l h) (trace_of (machine k inputs r.main))
      (subst (λ f. AllByRecursion (IsAllowed e) (trace_of (machine k f r.main))) r.given
      (laws.allowed e (data_size m.core) k k r.main r.view fit r.shown (safe_at k has) (omega arith)))

  in_region : (a : ℕ) → e.kind a ≡ Stacked → (m.stack.first ≤ a) × (a < end_of m.stack)
  in_region a q = are.stack_told a (watched_was p m asm l a Stacked q (λ z. cc))

  -- ---- spaces

  of_events : (n k : ℕ) (es : List Event) → (state_of (source_run p (plain_table m.io) inputs n)).events ≡ es
      → (state_of (operations_run (lowered p (plain_table m.io)) inputs k)).events ≡ es → AreForEvents p l es
  of_events n k es q o =
      both_to (IsAtHome p) (WritesData (data_of (lowered p (plain_table m.io))))
      (λ event. AllByRecursion (IsForEvent p l event) (event_accesses p (place_of l) event))
      (λ event there kept_there. for_event p l event there (same_data p m event kept_there)) es
      (subst (AllByRecursion (IsAtHome p)) q (laws.home p (plain_table m.io) inputs n))
      (subst (AllByRecursion (WritesData (data_of (lowered p (plain_table m.io))))) o
      (writes_in_data (lowered p (plain_table m.io)) inputs k))

  spaces : (n : ℕ) → StaysAtHome p l (source p (plain_table m.io) inputs n)
  spaces n = by_shown (source p (plain_table m.io) inputs n) refl ((laws.follows p m.io h.valid h.groups).reaches inputs give n) where
    by_shown : (b : Behaviour Event ℤ Undefined) → source p (plain_table m.io) inputs n ≡ b
        → Reached (is_paid p m.io (lowered p (plain_table m.io)) inputs n) (meaning (lowered p (plain_table m.io)) inputs) n b
        → StaysAtHome p l b
    by_shown (Failed point) q x = tt
    by_shown (GoesOn es) q x =
        of_events n x.0 es (events_running (source_run p (plain_table m.io) inputs n) es q)
        (events_running (operations_run (lowered p (plain_table m.io)) inputs x.0) es x.3)
    by_shown (Ends es result) q x =
        of_events n x.0 es (events_ended (source_run p (plain_table m.io) inputs n) es result q)
        (events_ended (operations_run (lowered p (plain_table m.io)) inputs x.0) es result x.2)

  -- ---- initial values

  initials : AreInitial p l r.main
  initials leaf inits init is_static has =
      let own : ObjectLeaf (data_of (lowered p (plain_table m.io))) DataBank = record {
        object = leaf.object;
        number = leaf.number;
        declared = leaf.declared;
        ty = leaf.ty;
        bytes = leaf.bytes;
        at = leaf.at;
        is_object = leaf.is_object;
        is_leaf = leaf.is_leaf;
        size = leaf.size;
        home = leaf.home;
      } in
      let of = λ (o : PlainObject). standing (initial_object (leaf_count (data_of (lowered p (plain_table m.io))) o.ty) o.storage) in
      let there : slice_get (start_state (data_of (lowered p (plain_table m.io)))).objects leaf.object ≡ Some (of leaf.declared) =
      slice_get-map of p.objects leaf.object ∙ ap (option_map of) leaf.is_object in
      let set : leaf_of (of leaf.declared) leaf.number ≡ Some (initial_value init) =
      rw is_static (rw (slice_get-map (λ (z : LeafInit). Some (initial_value z)) inits leaf.number) (rw has refl)) in
      let is : has_initial_bytes leaf.declared.storage leaf.declared.home ≡ true =
      rw (is_static, home_in_data leaf.declared.home leaf.home) refl in
      let high =
      (is_copied laws.laid p m asm l h (watched_kinds p m asm l) (watched_tables m)
      (watched_has_kinds p m asm l are) leaf.object leaf.declared leaf.is_object is).high in
      sym (value_seen r.main (place_of l leaf.object + leaf.at) leaf.bytes (omega (arith, high)))
      ∙ ap (λ f. value f (place_of l leaf.object + leaf.at) leaf.bytes) (sym r.shown.at)
      ∙ initial_is_told (data_of (lowered p (plain_table m.io))) (place_of l) r.view.at (place_of l leaf.object + leaf.at) leaf.bytes init
      (ends_low laws.laid p m asm l h (watched_kinds p m asm l) (watched_tables m) (watched_has_kinds p m asm l are))
      (r.initials own (of leaf.declared) (initial_value init) there set)

  pub whole : ShowsWhole p m l s inputs
  whole = record {
    steps = r.steps;
    few = r.few;
    before = r.before;
    start = r.trace;
    main = r.main;
    ran = r.ran;
    calls = r.calls;
    copied = r.copies ∙ are_copies laws.laid p m asm l h are;
    quiet = quiet e r.before r.trace (spans_of (lowered p (plain_table m.io))) r.calls r.copies;
    initials = initials;
    reached = λ defined. reached p m l e s inputs r (kept p m l) (HasMeaning p m inputs) alike (λ k point. defined k point);
    within = within p m l e s inputs r (kept p m l) (HasMeaning p m inputs) alike laws.machine_run laws.turns
        (meaning_before laws.turns p m inputs);
    spaces = spaces;
    live = record { accesses = laws.live p; parts = laws.parts p (plain_table m.io) inputs };
    start_stack = start_pushes p m l e s inputs r laws.stack fit in_region;
    stack = pushes p m l e s inputs r laws.stack fit in_region;
  }

pub programs_show_their_sources : WholeLaws → ProgramsShowTheirSources
programs_show_their_sources laws p m asm l s inputs h reset give = whole laws p m asm l s inputs h reset give
