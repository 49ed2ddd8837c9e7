-- What a placed program keeps in the data bank stands apart: the whole.
use Rattle.std.proofs.Common.{◌≡◌, ◌≢◌, ◌⊎◌, inl, inr, ⊎_elim, ◌+◌, ◌-◌, ◌<◌, ◌≤◌, ℕ, Bool, true}
use Rattle.std.proofs.Common.{false, List, length, map, take}
use Rattle.std.proofs.Common.{Option, Some, None, refl, sym, ap, ◌∙◌, subst, arith}
use Rattle.std.specs.Prelude.{slice_get, slice_index}
use Rattle.std.proofs.lemmas.Bool.{lt-ltb, le-ltb}
use Rattle.std.proofs.lemmas.List.{length-map}
use Rattle.std.proofs.lemmas.Option.{slice_get_within, get_or_from_slice_get}
use Rattle.ec_space.specs.Memory.{data_size}
use Rattle.ec_space.specs.declared.space.Bank.TheVariants.{Data}
use Rattle.ec_space.specs.declared.space.Home.TheVariants.{Data as DataHome}
use Rattle.ec_space.specs.declared.space.Place.{Place}
use Rattle.ec_space.specs.Spaces.{bank_of}
use Rattle.ec_asm.specs.declared.items.AsmProgram.{AsmProgram}
use Rattle.ec_check_recursion.specs.Rows.{rows_of_program}
use Rattle.ec_core.specs.Plain.{PlainObject, PlainStorage, static, local, param, register, PlainProgram}
use Rattle.ec_core.specs.Valid.{Valid, IsStored}
use Rattle.ec_core.proofs.Homes.{home_in_data}
use Rattle.ec_map.specs.Maps.{ValidMap}
use Rattle.ec_map.specs.Regions.{end_of}
use Rattle.ec_map.specs.declared.map.Map.{Map}
use Rattle.ec_overlay.specs.Chains.{NothingRecurs}
use Rattle.ec_overlay.specs.Frames.{begin_of, AreOverlaid, FramesAreOverlaid}
use Rattle.ec_overlay.specs.Objects.{ObjectsAreOverlaid, OverlaidObjectsStandApart}
use Rattle.ec_overlay.proofs.Programs.{nothing_recurs}
use Rattle.ec_locate.specs.declared.entries.Kept.{Kept}
use Rattle.ec_locate.specs.declared.entries.Kept.TheVariants.{Packed, Fixed, Register, InFrame}
use Rattle.ec_locate.specs.declared.placing.Located.{Located}
use Rattle.ec_locate.specs.Apart.{AreFree}
use Rattle.ec_locate.specs.Code.{address_of, start_of}
use Rattle.ec_locate.specs.DataBank.{IsOwnedBy, Names, an_object, scratch, work, IsInMemory, StandsIn, DataStands, DataStandsApart}
use Rattle.ec_locate.specs.Entries.{fixed_place, is_static, data_sizes, flash_sizes, far_sizes, frame_size, owned_of}
use Rattle.ec_locate.specs.Entries.{scratch_size, data_need, work_size}
use Rattle.ec_locate.specs.Fixed.{blocks}
use Rattle.ec_locate.specs.Layout.{LayoutView, place_by, local_at}
use Rattle.ec_locate.specs.Placing.{IsLocated, layout_by, last_of, needs, scratch_needs}
use Rattle.ec_locate.proofs.Addresses.{object_start, address_from}
use Rattle.ec_locate.proofs.Ends.{data_low}
use Rattle.ec_locate.proofs.CodeStand.{all_fit}
use Rattle.ec_locate.proofs.InOrders.{places_free}
use Rattle.ec_locate.proofs.Kept.{kept_known}
use Rattle.ec_locate.proofs.Objects.{is_object_at, few_objects}
use Rattle.ec_locate.proofs.Stood.{es, size, entry, entry_there, Stood, stood}
use Rattle.ec_locate.proofs.Where.{place_at, frame_at}
use Rattle.ec_locate.proofs.DataBank.{same_place, scratch_from, packed, of_frame, of_scratch, last, Standing, in_area, fixed}
use Rattle.ec_locate.proofs.DataBank.{named, InVars, in_vars, outside, registers, standing_apart}

same_number : (z : Option ℕ) (a b : ℕ) → z ≡ Some a → z ≡ Some b → a ≡ b
same_number z a b q r = let both : Some a ≡ Some b = sym q ∙ r in cc

-- what this rests on
pub record OverlayLaws : Type 0 where
  pub frames : FramesAreOverlaid
  pub objects : OverlaidObjectsStandApart

module _ (laws : OverlayLaws) (p : PlainProgram) (m : Map) (asm : AsmProgram) (l : Located) (valid : Valid p m.io)
    (map_valid : ValidMap m) (few : length asm.frames.items ≤ 256) (located : IsLocated p m asm l) where
  abbrev y : LayoutView
  y = layout_by p m asm

  abbrev rows : List (List ℕ)
  rows = rows_of_program p

  never : NothingRecurs rows
  never = nothing_recurs p valid.no_recursion

  over : AreOverlaid rows (scratch_size asm.frames.items)
  over = laws.frames rows (scratch_size asm.frames.items) never

  locals : ObjectsAreOverlaid rows (map owned_of (es p m))
  locals = laws.objects rows (map owned_of (es p m)) never (λ i f o is own. kept_known p m valid i f o is own)

  room : data_need (work_size m.io) rows (es p m) asm.frames.items ≤ m.vars.size
  room = (all_fit m (needs p m.io (es p m) asm.frames.items asm.items.items) located.fits).vars

  free : AreFree m (blocks (es p m) p.objects m.places.items)
  free = places_free m 0 (blocks (es p m) p.objects m.places.items) located.free

  -- ---- an object

  abbrev there : Kept → PlainObject → ℕ → Place
  there k o i =
      place_by k o.home (m.tables.first + flash_sizes (take i (es p m))) (m.far.first + far_sizes (take i (es p m)))
      (m.vars.first + data_sizes (take i (es p m)))
      (λ f. local_at m rows (es p m) f i)

  offset_is : (i : ℕ) (o : PlainObject) (q : Place) → slice_get p.objects i ≡ Some o → slice_get l.places.items i ≡ Some q
      → q.offset ≡ (there (entry p m o).kept o i).offset
  offset_is i o q is at =
      let here = place_at (es p m) m.tables.first m.far.first m.vars.first (local_at m rows (es p m)) i (entry p m o)
      (entry_there p m i o is) in
      same_place (slice_get y.places i) q (there (entry p m o).kept o i) (subst (λ ps. slice_get ps i ≡ Some q) located.places at) here

  object_standing : (i : ℕ) (o : PlainObject) (q : Place) → slice_get p.objects i ≡ Some o → bank_of o.home ≡ Data
      → slice_get l.places.items i ≡ Some q → Standing p m asm i q.offset (size p m o)
  object_standing i o q is home at = by_storage o.storage refl
    where
      here : o.home ≡ DataHome
      here = home_in_data o.home home

      is_packed : (entry p m o).kept ≡ Packed → Standing p m asm i q.offset (size p m o)
      is_packed k = in_area i q.offset (size p m o) (packed i q.offset o is (rw (k, here) refl) (offset_is i o q is at ∙ rw (k, here) refl))

      in_frame : (f : ℕ) → (entry p m o).kept ≡ InFrame f → IsOwnedBy f o.storage → f < length p.functions
          → Standing p m asm i q.offset (size p m o)
      in_frame f k own less = in_area i q.offset (size p m o) (of_frame i q.offset f o is own less (offset_is i o q is at ∙ rw k refl))

      stored : (s : PlainStorage) → o.storage ≡ s → IsStored p o s
      stored s e = subst (λ x. IsStored p o x) e (is_object_at p m.io valid i o is).storage

      by_place : (inits : _) → o.storage ≡ static inits → o.external ≡ true → (z : Option ℕ)
          → fixed_place m.places.items o.name ≡ z
          → Standing p m asm i q.offset (size p m o)
      by_place inits s x None z = is_packed (rw (s, x, z) refl)
      by_place inits s x (Some to) z =
          let k : (entry p m o).kept ≡ Fixed to = rw (s, x, z) refl in
          let here : q.offset ≡ to = offset_is i o q is at ∙ rw k refl in
          let st : is_static o.storage ≡ true = rw s refl in
          fixed i q.offset o is (subst (λ n. Stood p m Data o n) (sym here) (stood p m valid free Data i o to is home x st z))

      by_external : (inits : _) → o.storage ≡ static inits → (b : Bool) → o.external ≡ b
          → Standing p m asm i q.offset (size p m o)
      by_external inits s true x = by_place inits s x (fixed_place m.places.items o.name) refl
      by_external inits s false x = is_packed (rw (s, x) refl)

      by_storage : (s : PlainStorage) → o.storage ≡ s → Standing p m asm i q.offset (size p m o)
      by_storage (static inits) s = by_external inits s o.external refl
      by_storage (local f) s = in_frame f (rw s refl) (rw s refl) (stored (local f) s).0
      by_storage (param f) s = in_frame f (rw s refl) (rw s refl) (stored (param f) s).0
      by_storage (register first) s =
          let k : (entry p m o).kept ≡ Register first = rw s refl in
          let here : q.offset ≡ first = offset_is i o q is at ∙ rw k refl in
          named i q.offset o is (s ∙ ap register (sym here))

  functions_there : (f frame : ℕ) → slice_get asm.frames.items f ≡ Some frame → f < length p.functions
  functions_there f frame q =
      let within = slice_get_within asm.frames.items f frame q in
      let same = ap length located.scratch in
      let long : length (scratch_needs p) ≡ length p.functions = length-map p.functions _ in
      omega (arith, within, same, long)

  standing : (n at s : ℕ) → Names p m asm l n at s → Standing p m asm n at s
  standing n _ _ (an_object _ o q is home at) = object_standing n o q is home at
  standing _ at _ (scratch f fr _ q r) =
      let begin = begin_of rows (scratch_size asm.frames.items) in
      let here = frame_at (scratch_from p m asm) begin asm.frames.items f fr q in
      let same = same_number (slice_get y.frames f) at (scratch_from p m asm + begin f)
      (subst (λ fs. slice_get fs f ≡ Some at) located.frames r) here in
      in_area (1024 + f) at (frame_size fr) (of_scratch (1024 + f) at f fr refl q (functions_there f fr q) same)
  standing _ _ _ work = in_area 1280 l.work (work_size m.io) (last 1280 l.work refl located.work)

  -- ---- in memory

  memory_of : (at s : ℕ) → InVars p m asm valid map_valid over locals room free at s → IsInMemory m.core at s
  memory_of at s v =
      let from = v.from_there in
      let ends = v.ends in
      let low = map_valid.regions_valid.vars.from_there in
      let high = map_valid.regions_valid.vars.ends in
      (omega (arith, from, low), omega (arith, ends, high))

  below : (n at s : ℕ) → Standing p m asm n at s → at + s ≤ data_size m.core
  below n at s (in_area _ _ _ a) = (memory_of at s (in_vars p m asm valid map_valid over locals room free n at s a)).1
  below n at s (fixed _ _ o q a) = (outside p m asm valid map_valid over locals room free o at a).ends
  below n at s (named _ _ o q a) =
      let r = (registers p m asm valid map_valid over locals room free n at o q a).ends in
      let low = map_valid.regions_valid.stack.from_there in
      let some = map_valid.regions_valid.stack.some in
      let high = map_valid.regions_valid.stack.ends in
      omega (arith, r, low, some, high)

  clear_of_stack : (at s : ℕ) → InVars p m asm valid map_valid over locals room free at s
      → (at + s ≤ m.stack.first) ⊎ (end_of m.stack ≤ at)
  clear_of_stack at s v =
      let from = v.from_there in
      let ends = v.ends in
      ⊎_elim (λ a. inl (omega (arith, a, ends))) (λ a. inr (omega (arith, a, from))) map_valid.regions_valid.sram_apart

  stack_clear : (n at s : ℕ) → Standing p m asm n at s → (at + s ≤ m.stack.first) ⊎ (end_of m.stack ≤ at)
  stack_clear n at s (in_area _ _ _ a) = clear_of_stack at s (in_vars p m asm valid map_valid over locals room free n at s a)
  stack_clear n at s (fixed _ _ o q a) = (outside p m asm valid map_valid over locals room free o at a).stack
  stack_clear n at s (named _ _ o q a) =
      let r = (registers p m asm valid map_valid over locals room free n at o q a).ends in
      let low = map_valid.regions_valid.stack.from_there in
      inl (omega (arith, r, low))

  -- what is no named register stands in memory
  memory_unless : (n at s : ℕ) → Standing p m asm n at s
      → ((o : PlainObject) (first : ℕ) → slice_get p.objects n ≡ Some o → o.storage ≢ register first) → IsInMemory m.core at s
  memory_unless n at s (in_area _ _ _ a) none = memory_of at s (in_vars p m asm valid map_valid over locals room free n at s a)
  memory_unless n at s (fixed _ _ o q a) none =
      let out = outside p m asm valid map_valid over locals room free o at a in
      (out.from_there, out.ends)
  memory_unless n at s (named _ _ o q a) none = absurd (none o at q a)

  same_object : (i : ℕ) (o x : PlainObject) → slice_get p.objects i ≡ Some o → slice_get p.objects i ≡ Some x → o ≡ x
  same_object i o x q r = let both : Some o ≡ Some x = sym q ∙ r in cc

  objects : (i : ℕ) (o : PlainObject) (q : Place) → slice_get p.objects i ≡ Some o → bank_of o.home ≡ Data
      → slice_get l.places.items i ≡ Some q → StandsIn m.core o.storage q.offset (size p m o)
  objects i o q is home at = by_storage o.storage refl
    where
      unless : (s : PlainStorage) → o.storage ≡ s → ((first : ℕ) → s ≢ register first) → IsInMemory m.core q.offset (size p m o)
      unless s e none =
          memory_unless i q.offset (size p m o) (object_standing i o q is home at)
          (λ x first r t. none first (sym e ∙ ap (λ z. z.storage) (same_object i o x is r) ∙ t))

      by_storage : (s : PlainStorage) → o.storage ≡ s → StandsIn m.core s q.offset (size p m o)
      by_storage (static inits) s = unless (static inits) s (λ first e. cc)
      by_storage (local f) s = unless (local f) s (λ first e. cc)
      by_storage (param f) s = unless (param f) s (λ first e. cc)
      by_storage (register first) s =
          let k : (entry p m o).kept ≡ Register first = rw s refl in
          let here : q.offset ≡ first = offset_is i o q is at ∙ rw k refl in
          let r = registers p m asm valid map_valid over locals room free i first o is s in
          (here, r.from_there, r.ends)

  -- ---- addresses

  start_is : (n at s : ℕ) → Names p m asm l n at s → start_of y (last_of m) n ≡ at
  start_is n _ _ (an_object _ o q is home at) = object_start p m asm l valid located (last_of m) n o q is at
  start_is _ at _ (scratch f fr _ q r) =
      let within = slice_get_within asm.frames.items f fr q in
      let low = le-ltb (1024 + f) 1024 (omega arith) in
      let high = lt-ltb (1024 + f) 1280 (omega (arith, within, few)) in
      let back : 1024 + f - 1024 ≡ f = omega arith in
      let there : slice_index y.frames f ≡ at =
      get_or_from_slice_get y.frames f at 0 (subst (λ fs. slice_get fs f ≡ Some at) located.frames r) in
      rw (low, high, back) there
  start_is _ _ _ work = sym located.work

  address : (n at s i : ℕ) → Names p m asm l n at s → i ≤ s → address_of y (last_of m) n i ≡ at + i
  address n at s i h small =
      let low = below n at s (standing n at s h) in
      let most = data_low m.core in
      address_from y (last_of m) n at i (start_is n at s h) (omega (arith, low, most, small))

  pub holds : DataStands p m asm l
  holds = record {
    apart = λ n k at to s t differ live a b.
        standing_apart p m asm valid map_valid over locals room free n k at to s t differ live (standing n at s a) (standing k to t b);
    stack = λ n at s a. stack_clear n at s (standing n at s a);
    objects = objects;
    frames = λ f fr at q r.
        let s = standing (1024 + f) at (frame_size fr) (scratch f fr at q r) in
        memory_unless (1024 + f) at (frame_size fr) s
        (λ o first is t. let less = few_objects p m.io valid (1024 + f) o is in absurd (omega (arith, less)));
    work =
        memory_unless 1280 l.work (work_size m.io) (standing 1280 l.work (work_size m.io) work)
        (λ o first is t. let less = few_objects p m.io valid 1280 o is in absurd (omega (arith, less)));
    address = address;
  }

pub data-stands-apart : OverlayLaws → DataStandsApart
data-stands-apart laws p m asm l valid map_valid asm_valid located = holds laws p m asm l valid map_valid asm_valid.functions located
