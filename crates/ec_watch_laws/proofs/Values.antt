-- What the machine holds at a point, after a write of its leaf.
use Rattle.std.proofs.Common.{◌≡◌, ℕ, ◌+◌, ◌/◌, ◌%◌, ◌^◌, ◌<◌, ◌≤◌, ◌⊎◌, ⊎_elim, Bool, ◌&&◌, List, []}
use Rattle.std.proofs.Common.{◌∷◌, ◌++◌, length, Option, Some, None, ℤ, refl, sym, ap, ◌∙◌, subst, arith}
use Rattle.std.specs.Prelude.{⊤, MatchOption, IsSomeAnd, nat_le, slice_get, slice_index, if◌then◌else◌, drop}
use Rattle.std.proofs.lemmas.Bool.{le-leb}
use Rattle.ec_space.specs.Memory.{Memory, data_size, number_at}
use Rattle.ec_space.specs.declared.space.Bank.TheVariants.{Data as DataBank}
use Rattle.ec_space.specs.declared.space.Place.{Place}
use Rattle.ec_space.specs.declared.space.SpaceId.{SpaceId}
use Rattle.ec_runs.specs.Behaviours.{Behaviour, Running as GoesOn, Ended as Ends, Failed}
use Rattle.ec_avr.specs.declared.machine.Access.{Access}
use Rattle.ec_avr.specs.declared.machine.Access.TheVariants.{Silent, In as PortIn, Out as PortOut, Read as ByteRead}
use Rattle.ec_avr.specs.declared.machine.Access.TheVariants.{Write as ByteWrite, Stack}
use Rattle.ec_avr.specs.Inputs.{reads_of}
use Rattle.ec_avr.specs.Laws.{StepKeeps}
use Rattle.ec_avr.specs.Machine.{State, Inputs, Running, machine}
use Rattle.ec_avr.specs.Runs.{left_after}
use Rattle.ec_avr.specs.State.{byte_at}
use Rattle.ec_avr_accesses.specs.Sram.{byte_after, IsOffTheStack, RunsChangeAsTold}
use Rattle.ec_core.specs.declared.arithmetic_types.Arithmetic.{Arithmetic}
use Rattle.ec_core.specs.declared.programs.LeafInit.{LeafInit}
use Rattle.ec_core.specs.declared.programs.LeafInit.TheVariants.{Number, Null, Address}
use Rattle.ec_core.specs.declared.values.Undefined.{Undefined}
use Rattle.ec_core.specs.ArithmeticTypes.{arithmetic_of}
use Rattle.ec_core.specs.ArithmeticValues.{HoldsNumber}
use Rattle.ec_core.specs.Layout.{PlainLeaf, leaves_of_type}
use Rattle.ec_core.specs.Meaning.{source, Defined}
use Rattle.ec_core.specs.Plain.{PlainType, PlainObject, PlainProgram}
use Rattle.ec_core.specs.PortTable.{plain_table}
use Rattle.ec_core.specs.State.{Event, Write}
use Rattle.ec_core_numbers.specs.Numbers.{IsNumberOf, WritesNumber}
use Rattle.ec_emu_watch.specs.declared.point.WatchPoint.{WatchPoint}
use Rattle.ec_emu_watch.specs.Points.{is_data, number_by, value_at}
use Rattle.ec_map.specs.Regions.{end_of}
use Rattle.ec_map.specs.declared.map.Map.{Map}
use Rattle.ec_locate.specs.declared.placing.Located.{Located}
use Rattle.ec_select_functions.specs.Relation.{accesses}
use Rattle.ec_build_laws.specs.Kinds.{place_of}
use Rattle.ec_build_laws.specs.Shown.{ports_of, StaysInStack, PushesInRegion}
use Rattle.ec_build_laws.specs.Whole.{kept, ShowsWhole}
use Rattle.ec_watch_points.specs.Numbers.{is_signed}
use Rattle.ec_watch_laws.proofs.Alone.{IsIn, IsAlone, base, size, number_in, event_is}
use Rattle.ec_watch_laws.proofs.Numbers.{sum_of, number_there, number_back}
use Rattle.ec_watch_laws.proofs.Runs.{counted, keeps_size, between}
use Rattle.ec_watch_laws.proofs.Written.{byte_after-append, byte_after-kept, bytes_written, accesses-last}

-- ---- a number in memory

-- the number at a place of the data bank, of so many bytes
abbrev value_by : Place → ℕ → Bool → Memory → Option ℤ
value_by at bytes signed m =
    if is_data at.bank && nat_le (at.offset + bytes) (length m.data) then Some (number_by signed bytes (number_at m at bytes)) else None

by_fields : (point : WatchPoint) (m : Memory) (at : Place) (bytes : ℕ) (signed : Bool) → point.place ≡ at → point.bytes ≡ bytes
    → point.signed ≡ signed → value_at point m ≡ value_by at bytes signed m
by_fields point m at bytes signed a b s =
    ap (λ z. value_by z point.bytes point.signed m) a ∙ ap (λ z. value_by at z point.signed m) b ∙ ap (λ z. value_by at bytes z m) s

there : (m : Memory) (from bytes : ℕ) (signed : Bool) → from + bytes ≤ length m.data
    → value_by (record { bank = DataBank; offset = from }) bytes signed m
    ≡ Some (number_by signed bytes (sum_of (slice_index m.data) from bytes))
there m from bytes signed inside =
    ap (λ z. if z then Some (number_by signed bytes (number_at m (record { bank = DataBank; offset = from }) bytes)) else None)
    (le-leb (from + bytes) (length m.data) inside)
    ∙ ap (λ z. Some (number_by signed bytes z)) (number_there m.data from bytes)

-- ---- a run from main

no_reads : (port : ℕ) (trace : List Access) → ports_of trace ≡ [] → reads_of port trace ≡ 0
no_reads port [] q = refl
no_reads port (Silent ∷ trace) q = no_reads port trace q
no_reads port (PortIn at byte ∷ trace) q = cc
no_reads port (PortOut at byte ∷ trace) q = cc
no_reads port (ByteRead bank at byte ∷ trace) q = no_reads port trace q
no_reads port (ByteWrite at byte ∷ trace) q = no_reads port trace q
no_reads port (Stack ∷ trace) q = no_reads port trace q

same_inputs : (trace : List Access) (inputs : Inputs) → ports_of trace ≡ [] → left_after trace inputs ≡ inputs
same_inputs trace inputs q i port = ap (λ (n : ℕ). drop n (inputs port)) (no_reads port trace q) i

-- ---- the number that is written

-- of an arithmetic type
only_number : (ty : PlainType) (a : Arithmetic) (told : LeafInit) → arithmetic_of ty ≡ Some a → IsNumberOf ty told
    → (z : ℤ) × ((told ≡ Number z) × HoldsNumber a z)
only_number ty a (Number z) e h = (z, (refl, by_type (arithmetic_of ty) e h))
  where
    by_type : (o : Option Arithmetic) → o ≡ Some a → MatchOption o ⊤ (λ t. HoldsNumber t z) → HoldsNumber a z
    by_type (Some b) e h = let same : b ≡ a = cc in subst (λ x. HoldsNumber x z) same h
    by_type None e h = cc
only_number ty a Null e h = let no : None ≡ Some a = sym h ∙ e in cc
only_number ty a (Address o offset) e h = let no : None ≡ Some a = sym h ∙ e in cc

-- the type of a leaf that is known
of_leaf : (p : PlainProgram) (o k : ℕ) (space : SpaceId) (told : LeafInit) (object : PlainObject) (leaf : PlainLeaf)
    → slice_get p.objects o ≡ Some object → slice_get (leaves_of_type p.structs object.ty) k ≡ Some leaf
    → WritesNumber p (Write o k space told) → IsNumberOf leaf.ty told
of_leaf p o k space told object leaf is has h =
    subst (λ (z : Option PlainLeaf). IsSomeAnd z (λ x. IsNumberOf x.ty told)) has
    (subst (λ (z : Option PlainObject).
    IsSomeAnd z (λ d. IsSomeAnd (slice_get (leaves_of_type p.structs d.ty) k) (λ x. IsNumberOf x.ty told))) is h)

-- ---- the laws, and a machine that shows its source

pub record MachineLaws : Type 0 where
  pub changes : RunsChangeAsTold
  pub keeps : StepKeeps

module _ (laws : MachineLaws) (p : PlainProgram) (m : Map) (l : Located) (point : WatchPoint) (h : IsAlone p m l point) (s : State)
    (inputs : Inputs) (shows : ShowsWhole p m l s inputs) (sized : length s.mem.data ≡ data_size m.core)
    (defined : Defined p (plain_table m.io) inputs) where
  -- the run from main is the rest of the whole one
  pub from_main : (after : List Access) (t : State) → machine (length (shows.start ++ after)) inputs s ≡ Running (shows.start ++ after) t
      → machine (length after) inputs shows.main ≡ Running after t
  from_main after t run =
      let b = between inputs s t shows.start after run in
      let n : length shows.start ≡ shows.steps = counted shows.steps inputs s shows.main shows.start shows.ran in
      let same : Running shows.start b.mid ≡ Running shows.start shows.main =
      sym b.first ∙ ap (λ (k : ℕ). machine k inputs s) n ∙ shows.ran in
      let mid : b.mid ≡ shows.main = cc in
      subst (λ (x : State). machine (length after) inputs x ≡ Running after t) mid
      (subst (λ (x : Inputs). machine (length after) x b.mid ≡ Running after t) (same_inputs shows.start inputs shows.quiet) b.second)

  stays : (k : ℕ) (trace : List Access) (u : State) → machine k inputs shows.main ≡ Running trace u → StaysInStack m u
  stays k trace u run = by_source (source p (plain_table m.io) inputs (k + 1)) refl (shows.stack k trace u run)
    where
      by_source : (b : Behaviour Event ℤ Undefined) → source p (plain_table m.io) inputs (k + 1) ≡ b → PushesInRegion m b u
          → StaysInStack m u
      by_source (GoesOn es) e q = q
      by_source (Ends es result) e q = q
      by_source (Failed reason) e q = absurd (defined (k + 1) reason e)

  off_stack : (n a : ℕ) → IsIn (base p m l point h) (size p m l point h) a → IsOffTheStack a n inputs shows.main
  off_stack n a inside k trace u less run j d under same =
      let r = stays k trace u run j d under in
      let low = r.0 in
      let high = r.1 in
      ⊎_elim (λ (x : a < m.stack.first). absurd (omega (arith, x, low, same)))
      (λ (x : end_of m.stack ≤ a). absurd (omega (arith, x, high, same)))
      (h.off a inside)

  -- each byte of the leaf is the one of the event that wrote it last
  byte_there : (after : List Access) (es : List Event) (space : SpaceId) (told : LeafInit) (t : State)
      → machine (length (shows.start ++ after)) inputs s ≡ Running (shows.start ++ after) t
      → kept p m l after ≡ accesses p (place_of l) (es ++ Write point.object point.leaf space told ∷ []) → (i : ℕ)
      → i < size p m l point h
      → byte_at t (base p m l point h + i) ≡ number_in p m l point h told / 256 ^ i % 256
  byte_there after es space told t run k i less =
      let a = base p m l point h + i in
      let inside : IsIn (base p m l point h) (size p m l point h) a = record { from_there = omega arith; within = omega (arith, less) } in
      let high = h.high in
      let old = byte_at shows.main a in
      let before = accesses p (place_of l) es in
      laws.changes (length after) inputs shows.main t after a (omega (arith, high)) (from_main after t run)
      (off_stack (length after) a inside)
      ∙ sym (byte_after-kept p m l a old after (h.own a inside)) ∙ ap (byte_after a old) k
      ∙ ap (byte_after a old) (accesses-last p (place_of l) es (Write point.object point.leaf space told))
      ∙ byte_after-append a old before _
      ∙ ap (byte_after a (byte_after a old before)) (event_is p m l point h space told)
      ∙ bytes_written (base p m l point h) (number_in p m l point h told) (size p m l point h) i (byte_after a old before) less

  -- the event told a number, and the machine holds it
  pub record HoldsTold (told : LeafInit) (t : State) : Type 0 where
    pub number : ℤ
    pub is : told ≡ Number number
    pub held : value_at point t.mem ≡ Some number

  pub value_there : (after : List Access) (es : List Event) (space : SpaceId) (told : LeafInit) (t : State)
      → machine (length (shows.start ++ after)) inputs s ≡ Running (shows.start ++ after) t
      → kept p m l after ≡ accesses p (place_of l) (es ++ Write point.object point.leaf space told ∷ [])
      → WritesNumber p (Write point.object point.leaf space told) → HoldsTold told t
  value_there after es space told t run k w =
      let n = only_number h.leaf.ty h.ty told h.arithmetic
      (of_leaf p point.object point.leaf space told h.object h.leaf h.is_object h.is_leaf w) in
      let b = base p m l point h in
      let z = size p m l point h in
      let len = keeps_size laws.keeps (length (shows.start ++ after)) inputs s t (shows.start ++ after) run ∙ sized in
      let low = h.low in
      let same : number_in p m l point h told ≡ number_in p m l point h (Number n.0) = ap (number_in p m l point h) n.1.0 in
      let bytes : (i : ℕ) → i < z → byte_at t (b + i) ≡ number_in p m l point h (Number n.0) / 256 ^ i % 256 =
      λ i less. byte_there after es space told t run k i less ∙ ap (λ x. x / 256 ^ i % 256) same in
      record {
        number = n.0;
        is = n.1.0;
        held = by_fields point t.mem (record { bank = DataBank; offset = b }) z (is_signed h.ty) h.place h.bytes h.signed
            ∙ there t.mem b z (is_signed h.ty) (omega (arith, len, low))
            ∙ ap Some (number_back h.leaf.ty h.ty (slice_index t.mem.data) b n.0 h.arithmetic n.1.1 bytes);
      }
