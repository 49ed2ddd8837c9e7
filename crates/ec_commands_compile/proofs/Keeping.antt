-- A run of an image that was built keeps its source.
use Rattle.std.proofs.Common.{◌≡◌, ◌+◌, ◌-◌, ◌≤◌, ◌∙◌, arith, ℕ, ℤ, zero, suc, Bool, true, false, List, [], ◌∷◌, ◌++◌}
use Rattle.std.proofs.Common.{Some, None, refl, sym, ap, subst, inl, inr, ◌⊎◌, length, append-nil}
use Rattle.std.specs.Prelude.{Option, option_map, option_and_then, slice_get, unwrap_or}
use Rattle.ec_space.specs.declared.space.Bank.{Bank}
use Rattle.ec_space.specs.declared.space.Bank.TheVariants.{Flash as FlashBank, Data as DataBank}
use Rattle.ec_runs.specs.Behaviours.{Behaviour, Running as GoesOn, Ended as Ends, Failed, BeginWith}
use Rattle.ec_avr.specs.declared.machine.Access.{Access}
use Rattle.ec_avr.specs.declared.machine.Access.TheVariants.{Silent, In as PortIn, Out as PortOut, Read as ByteRead}
use Rattle.ec_avr.specs.declared.machine.Access.TheVariants.{Write as ByteWrite, Stack}
use Rattle.ec_avr.specs.declared.machine.FaultKind.{FaultKind}
use Rattle.ec_avr.specs.Machine.{State, Inputs, Run, Running, EndedWith, FaultedAt, machine, IsReset}
use Rattle.ec_avr.specs.Runs.{answers, and_then, and_on, left_after}
use Rattle.ec_avr.proofs.Runs.{machine_joins}
use Rattle.ec_core.specs.Layout.{PlainLeaf, scalar_size, leaves_of_type}
use Rattle.ec_core.specs.Meaning.{source}
use Rattle.ec_core.specs.Plain.{PlainProgram, plain_program}
use Rattle.ec_core.specs.PortTable.{plain_table}
use Rattle.ec_core.specs.State.{Event, In, Out, Read, Write}
use Rattle.ec_core.specs.declared.programs.LeafInit.{LeafInit}
use Rattle.ec_core.specs.declared.values.Undefined.{Undefined}
use Rattle.ec_emu.specs.declared.run.EmuReport.{EmuReport}
use Rattle.ec_emu.specs.Emulation.{IsRun as IsRunOf, EndsBy}
use Rattle.ec_ir.specs.Temporaries.{low_bytes}
use Rattle.ec_map.specs.declared.map.Map.{Map}
use Rattle.ec_locate.specs.declared.placing.Located.{Located}
use Rattle.ec_select_operations.specs.Pointers.{home_of}
use Rattle.ec_select_functions.specs.Relation.{number_told, byte_accesses, leaf_accesses, event_accesses, accesses}
use Rattle.ec_build_laws.specs.Kinds.{place_of}
use Rattle.ec_build_laws.specs.Shown.{ports_of, Comes, IsWithinSource, ShowsAll, ShowsFirst}
use Rattle.ec_build_laws.specs.Whole.{kept, unless}
use Rattle.ec_build.specs.Builds.{IsBuilt}
use Rattle.ec_build.specs.declared.building.Built.{Built}
use Rattle.ec_commands.specs.Runs.{Gives}
use Rattle.ec_commands_compile.specs.Kept.{port_events, events_of, EndsWith, KeepsSourceOf}

-- ---- port accesses of traces

pub ports_append : (xs ys : List Access) → ports_of (xs ++ ys) ≡ ports_of xs ++ ports_of ys
ports_append [] ys = refl
ports_append (PortIn port byte ∷ xs) ys = ap (λ (l : List Access). PortIn port byte ∷ l) (ports_append xs ys)
ports_append (PortOut port byte ∷ xs) ys = ap (λ (l : List Access). PortOut port byte ∷ l) (ports_append xs ys)
ports_append (Silent ∷ xs) ys = ports_append xs ys
ports_append (Stack ∷ xs) ys = ports_append xs ys
ports_append (ByteRead bank at byte ∷ xs) ys = ports_append xs ys
ports_append (ByteWrite at byte ∷ xs) ys = ports_append xs ys

no_read : (own : Bool) (at byte : ℕ) (rest : List Access) → ports_of (unless own (ByteRead DataBank at byte) ++ rest) ≡ ports_of rest
no_read true at byte rest = refl
no_read false at byte rest = refl

no_write : (own : Bool) (at byte : ℕ) (rest : List Access) → ports_of (unless own (ByteWrite at byte) ++ rest) ≡ ports_of rest
no_write true at byte rest = refl
no_write false at byte rest = refl

pub ports_kept : (p : PlainProgram) (m : Map) (l : Located) (trace : List Access) → ports_of (kept p m l trace) ≡ ports_of trace
ports_kept p m l [] = refl
ports_kept p m l (PortIn port byte ∷ trace) = ap (λ (xs : List Access). PortIn port byte ∷ xs) (ports_kept p m l trace)
ports_kept p m l (PortOut port byte ∷ trace) = ap (λ (xs : List Access). PortOut port byte ∷ xs) (ports_kept p m l trace)
ports_kept p m l (Silent ∷ trace) = ports_kept p m l trace
ports_kept p m l (Stack ∷ trace) = ports_kept p m l trace
ports_kept p m l (ByteRead FlashBank at byte ∷ trace) = ports_kept p m l trace
ports_kept p m l (ByteRead DataBank at byte ∷ trace) = no_read _ at byte (kept p m l trace) ∙ ports_kept p m l trace
ports_kept p m l (ByteWrite at byte ∷ trace) = no_write _ at byte (kept p m l trace) ∙ ports_kept p m l trace

-- ---- port accesses of events

read_bytes : (bank : Bank) (at number n : ℕ) → ports_of (byte_accesses (ByteRead bank) at number n) ≡ []
read_bytes bank at number zero = refl
read_bytes bank at number (suc n) =
    ports_append (byte_accesses (ByteRead bank) at number n) _ ∙ append-nil _ ∙ read_bytes bank at number n

written_bytes : (at number n : ℕ) → ports_of (byte_accesses ByteWrite at number n) ≡ []
written_bytes at number zero = refl
written_bytes at number (suc n) = ports_append (byte_accesses ByteWrite at number n) _ ∙ append-nil _ ∙ written_bytes at number n

-- the number of a leaf
abbrev number_of : PlainProgram → (ℕ → ℕ) → LeafInit → PlainLeaf → ℕ
number_of p place told leaf = low_bytes (scalar_size leaf.ty) (number_told p place (scalar_size leaf.ty) told)

read_leaf : (p : PlainProgram) (place : ℕ → ℕ) (bank : Bank) (base : ℕ) (told : LeafInit) (o : Option PlainLeaf)
    → ports_of (unwrap_or (option_map (leaf_accesses p place (ByteRead bank) base told) o) []) ≡ []
read_leaf p place bank base told None = refl
read_leaf p place bank base told (Some leaf) = read_bytes bank (base + leaf.at) (number_of p place told leaf) (scalar_size leaf.ty)

written_leaf : (p : PlainProgram) (place : ℕ → ℕ) (base : ℕ) (told : LeafInit) (o : Option PlainLeaf)
    → ports_of (unwrap_or (option_map (leaf_accesses p place ByteWrite base told) o) []) ≡ []
written_leaf p place base told None = refl
written_leaf p place base told (Some leaf) = written_bytes (base + leaf.at) (number_of p place told leaf) (scalar_size leaf.ty)

abbrev leaf_there : PlainProgram → (object leaf : ℕ) → Option PlainLeaf
leaf_there p o k = option_and_then (λ d. slice_get (leaves_of_type p.structs d.ty) k) (slice_get p.objects o)

pub ports_events : (p : PlainProgram) (place : ℕ → ℕ) (es : List Event) → ports_of (accesses p place es) ≡ port_events es
ports_events p place [] = refl
ports_events p place (In port byte ∷ es) = ap (λ (xs : List Access). PortIn port byte ∷ xs) (ports_events p place es)
ports_events p place (Out port byte ∷ es) = ap (λ (xs : List Access). PortOut port byte ∷ xs) (ports_events p place es)
ports_events p place (Read o k space told ∷ es) =
    ports_append (event_accesses p place (Read o k space told)) (accesses p place es)
    ∙ ap (λ (xs : List Access). xs ++ ports_of (accesses p place es))
    (read_leaf p place (home_of p o) (place o) told (leaf_there p o k)) ∙ ports_events p place es
ports_events p place (Write o k space told ∷ es) =
    ports_append (event_accesses p place (Write o k space told)) (accesses p place es)
    ∙ ap (λ (xs : List Access). xs ++ ports_of (accesses p place es)) (written_leaf p place (place o) told (leaf_there p o k))
    ∙ ports_events p place es

-- ---- what is shown

shown_all : (p : PlainProgram) (m : Map) (l : Located) (start trace : List Access) (es : List Event) → ports_of start ≡ []
    → ShowsAll p l (kept p m l) start es trace → ports_of trace ≡ port_events es
shown_all p m l start trace es quiet h =
    ap ports_of h.is ∙ ports_append start h.after ∙ ap (λ (xs : List Access). xs ++ ports_of h.after) quiet
    ∙ sym (ports_kept p m l h.after) ∙ ap ports_of h.shown ∙ ports_events p (place_of l) es

shown_first : (p : PlainProgram) (m : Map) (l : Located) (start trace : List Access) (es : List Event) → ports_of start ≡ []
    → BeginWith trace start ⊎ ShowsFirst p l (kept p m l) start es trace → BeginWith (ports_of trace) (port_events es)
shown_first p m l start trace es quiet (inl h) =
    record {
      added = port_events es;
      is = ap (λ (xs : List Access). xs ++ port_events es)
          (sym (front (ports_of trace) (ports_of h.added) (sym (ports_append trace h.added) ∙ sym (ap ports_of h.is) ∙ quiet)));
    }
  where
    front : (xs ys : List Access) → xs ++ ys ≡ [] → xs ≡ []
    front [] ys e = refl
    front (x ∷ xs) ys e = cc
shown_first p m l start trace es quiet (inr h) =
    let same : ports_of trace ≡ ports_of (kept p m l h.after) =
    ap ports_of h.is ∙ ports_append start h.after ∙ ap (λ (xs : List Access). xs ++ ports_of h.after) quiet
    ∙ sym (ports_kept p m l h.after) in
    record {
      added = ports_of h.shown.added;
      is = sym (ports_events p (place_of l) es) ∙ ap ports_of h.shown.is ∙ ports_append (kept p m l h.after) h.shown.added
          ∙ ap (λ (xs : List Access). xs ++ ports_of h.shown.added) (sym same);
    }

-- ---- by how the source goes on

module _ (p : PlainProgram) (m : Map) (l : Located) (s : State) (inputs : Inputs) (start : List Access) (quiet : ports_of start ≡ []) where
  first_by : (b : Behaviour Event ℤ Undefined) (trace : List Access) (t : State) → ((point : Undefined) → b ≡ Failed point → ⊥)
      → IsWithinSource p l (kept p m l) s inputs start b (Running trace t) → BeginWith (ports_of trace) (port_events (events_of b))
  first_by (GoesOn es) trace t defined h = shown_first p m l start trace es quiet h
  first_by (Ends es result) trace t defined h = shown_first p m l start trace es quiet h
  first_by (Failed point) trace t defined h = absurd (defined point refl)

  never_by : (b : Behaviour Event ℤ Undefined) (trace : List Access) (kind : FaultKind) (pc : ℕ)
      → ((point : Undefined) → b ≡ Failed point → ⊥)
      → IsWithinSource p l (kept p m l) s inputs start b (FaultedAt trace kind pc) → ⊥
  never_by (GoesOn es) trace kind pc defined h = h
  never_by (Ends es result) trace kind pc defined h = h
  never_by (Failed point) trace kind pc defined h = defined point refl

  ended_by : (n : ℕ) (b : Behaviour Event ℤ Undefined) (trace : List Access) (result : ℤ) → source p (plain_table m.io) inputs n
      ≡ b
      → ((point : Undefined) → b ≡ Failed point → ⊥)
      → IsWithinSource p l (kept p m l) s inputs start b (EndedWith trace result) → EndsWith p m inputs n result trace
  ended_by n (GoesOn es) trace result is defined h = absurd h
  ended_by n (Ends es other) trace result is defined h = record {
    es = es;
    source_ends = is ∙ ap (λ (r : ℤ). Ends es r) (sym h.1);
    all = shown_all p m l start trace es quiet h.0;
  }
  ended_by n (Failed point) trace result is defined h = absurd (defined point refl)

-- a run that ended after fewer steps does not go on
not_out : (s : State) (inputs : Inputs) (k steps : ℕ) (trace other : List Access) (result : ℤ) (t : State) → machine k inputs s
    ≡ EndedWith trace result → k ≤ steps
    → machine steps inputs s ≡ Running other t → ⊥
not_out s inputs k steps trace other result t ended fewer goes =
    let more : ℕ = steps - k in
    let sum : steps ≡ k + more = omega arith in
    let later : machine steps inputs s ≡ EndedWith trace result =
    ap (λ (n : ℕ). machine n inputs s) sum ∙ machine_joins k more inputs s
    ∙ ap (λ (r : Run). and_on (λ tr u. machine more (left_after tr inputs) u) r) ended in
    apart (machine steps inputs s) goes later
  where
    apart : (r : Run) → r ≡ Running other t → r ≡ EndedWith trace result → ⊥
    apart r a b = cc

enough_steps : (p : PlainProgram) (m : Map) (l : Located) (s : State) (inputs : Inputs) (start : List Access) (n most steps : ℕ)
    (b : Behaviour Event ℤ Undefined) (es : List Event) (result : ℤ)
    (trace : List Access) (t : State) → b ≡ Ends es result → Comes p l (kept p m l) s inputs start n most b → most ≤ steps
    → machine steps inputs s ≡ Running trace t → ⊥
enough_steps p m l s inputs start n most steps b es result trace t is comes few goes =
    let h = subst (λ x. Comes p l (kept p m l) s inputs start n most x) is comes in
    not_out s inputs h.0 steps h.1 trace result t h.3 (omega (arith, h.2, few)) goes

pub keeps_source : (sources : List (List ℕ)) (text : List ℕ) (b : Built) (gives : Gives) (steps : ℕ) (s after : State) (report : EmuReport)
    (trace : List Access)
    → IsBuilt sources text b → IsReset b.located.image.core b.located.image.bytes.items s → IsRunOf gives steps s after report trace
    → KeepsSourceOf b steps report.end trace
keeps_source sources text b gives steps s after report trace built reset runs more bytes defined =
    let p = plain_program b.program in
    let m = b.map in
    let l = b.located in
    let inputs = and_then (answers trace) more in
    let shows = built.image.shows s inputs reset bytes in
    record {
      never = λ kind pc e.
          never_by p m l s inputs shows.start shows.quiet (source p (plain_table b.map.io) inputs steps) trace kind pc
          (λ point. defined steps point)
          (subst (λ r. IsWithinSource p l (kept p m l) s inputs shows.start (source p (plain_table b.map.io) inputs steps) r)
          (subst (λ end. EndsBy steps s end trace) e runs.ended more) (shows.within steps));
      first =
          first_by p m l s inputs shows.start shows.quiet (source p (plain_table b.map.io) inputs (length trace)) trace after
          (λ point. defined (length trace) point)
          (subst (λ r. IsWithinSource p l (kept p m l) s inputs shows.start (source p (plain_table b.map.io) inputs (length trace)) r)
          (runs.made more) (shows.within (length trace)));
      ended = λ result e.
          ended_by p m l s inputs shows.start shows.quiet steps (source p (plain_table b.map.io) inputs steps) trace result refl
          (λ point. defined steps point)
          (subst (λ r. IsWithinSource p l (kept p m l) s inputs shows.start (source p (plain_table b.map.io) inputs steps) r)
          (subst (λ end. EndsBy steps s end trace) e runs.ended more) (shows.within steps));
      enough = λ n es result is few e.
          let all : length trace ≡ steps = subst (λ end. EndsBy steps s end trace) e runs.ended in
          enough_steps p m l s inputs shows.start n _ steps (source p (plain_table b.map.io) inputs n) es result trace after is
          (shows.reached defined n) few
          (subst (λ k. machine k inputs s ≡ Running trace after) all (runs.made more));
    }
