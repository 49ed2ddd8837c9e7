-- What a placed program keeps in the data bank stands apart.
use Rattle.std.proofs.Common.{◌≡◌, ◌≢◌, inl, inr, ⊎_elim, ◌+◌, ◌<◌, ◌≤◌, ℕ, Bool, List, [], length, map, take}
use Rattle.std.proofs.Common.{get_or}
use Rattle.std.proofs.Common.{Option, Some, None, sym, ap, ◌∙◌, subst, arith}
use Rattle.std.specs.Prelude.{slice_get, option_map}
use Rattle.std.proofs.lemmas.List.{length-map}
use Rattle.std.proofs.lemmas.Option.{slice_get-map, slice_get_within, get_or_from_slice_get}
use Rattle.ec_space.specs.Memory.{data_size as size_of_data}
use Rattle.ec_space.specs.declared.space.Bank.TheVariants.{Data}
use Rattle.ec_space.specs.declared.space.Place.{Place}
use Rattle.ec_asm.specs.declared.items.AsmProgram.{AsmProgram}
use Rattle.ec_check_recursion.specs.Rows.{rows_of_program}
use Rattle.ec_core.specs.Needs.{stmt_calls}
use Rattle.ec_core.specs.Plain.{PlainStorage, static, local, param, register, PlainObject, PlainFunction, PlainProgram}
use Rattle.ec_core.specs.Valid.{Valid, IsStored, AreApart, ShareNoRegister}
use Rattle.ec_map.specs.Maps.{ValidMap}
use Rattle.ec_map.specs.Regions.{end_of}
use Rattle.ec_map.specs.declared.map.Map.{Map}
use Rattle.ec_overlay.specs.Frames.{begin_of, AreOverlaid}
use Rattle.ec_overlay.specs.Objects.{Owned, ObjectsAreOverlaid}
use Rattle.ec_overlay.proofs.Objects.{ends_in_need}
use Rattle.ec_locate.specs.declared.stop.RegionName.TheVariants as regions
use Rattle.ec_locate.specs.Apart.{AreFree}
use Rattle.ec_locate.specs.DataBank.{IsOwnedBy, IsLocalOf, CanBeLive}
use Rattle.ec_locate.specs.Entries.{kept_by, data_size, data_sizes, frame_of, frame_size, owned_of, scratch_size, data_need, work_size}
use Rattle.ec_locate.specs.Fixed.{blocks, name_where_met, region_of_bank}
use Rattle.ec_locate.specs.Layout.{local_area, scratch_area, work_area, local_at}
use Rattle.ec_locate.proofs.Objects.{is_object_at}
use Rattle.ec_locate.proofs.Stood.{Clear, turned, by_order, es, size, entry, entry_there, block, Stood, in_data_bank, both_stood}
use Rattle.ec_locate.proofs.Where.{sum_until, sum_within, free_at, neither_met, clear_of}

-- a pointer's offset, where there is a place
pub same_place : (z : Option Place) (q w : Place) → z ≡ Some q → z ≡ Some w → q.offset ≡ w.offset
same_place z q w a b = let both : Some q ≡ Some w = sym a ∙ b in cc

module _ (p : PlainProgram) (m : Map) (asm : AsmProgram) where
  abbrev pub frames : List ℕ
  frames = asm.frames.items

  abbrev pub rows : List (List ℕ)
  rows = rows_of_program p

  abbrev pub work_bytes : ℕ
  work_bytes = work_size m.io

  -- where each area of region `data` begins
  abbrev pub locals_from : ℕ
  locals_from = local_area m (es p m)

  abbrev pub scratch_from : ℕ
  scratch_from = scratch_area m rows (es p m)

  abbrev pub work_from : ℕ
  work_from = work_area m rows (es p m) frames

  -- what a number names stands in one of the areas of region `data`
  pub data Inside : ℕ → ℕ → ℕ → Type 0 where
    packed : (n at : ℕ) (o : PlainObject) → slice_get p.objects n ≡ Some o → data_size (entry p m o) ≡ size p m o
        → at ≡ m.vars.first + data_sizes (take n (es p m)) → Inside n at (size p m o)
    of_frame : (n at f : ℕ) (o : PlainObject) → slice_get p.objects n ≡ Some o → IsOwnedBy f o.storage → f < length p.functions
        → at ≡ local_at m rows (es p m) f n → Inside n at (size p m o)
    of_scratch : (n at f frame : ℕ) → n ≡ 1024 + f → slice_get frames f ≡ Some frame → f < length p.functions
        → at ≡ scratch_from + begin_of rows (scratch_size frames) f → Inside n at (frame_size frame)
    last : (n at : ℕ) → n ≡ 1280 → at ≡ work_from → Inside n at work_bytes

  -- or where the map puts it, or in registers
  pub data Standing : ℕ → ℕ → ℕ → Type 0 where
    in_area : (n at s : ℕ) → Inside n at s → Standing n at s
    fixed : (n at : ℕ) (o : PlainObject) → slice_get p.objects n ≡ Some o → Stood p m Data o at → Standing n at (size p m o)
    named : (n at : ℕ) (o : PlainObject) → slice_get p.objects n ≡ Some o → o.storage ≡ register at → Standing n at (size p m o)

  -- ---- in the areas

  record Within (from to at size : ℕ) : Type 0 where
    low : from ≤ at
    high : at + size ≤ to

  known : (f : ℕ) → f < length p.functions → f < length rows
  known f l = let long = length-map p.functions (λ (x : PlainFunction). stmt_calls x.body []) in omega (arith, l, long)

  frame_is : (f : ℕ) (external : Bool) (name : List ℕ) (s : PlainStorage) → IsOwnedBy f s
      → frame_of (kept_by m.places.items external name s) ≡ Some f
  frame_is f external name (static inits) h = absurd h
  frame_is f external name (local g) h = ap Some h
  frame_is f external name (param g) h = ap Some h
  frame_is f external name (register first) h = absurd h

  abbrev owned : PlainObject → Owned
  owned o = owned_of (entry p m o)

  owned_there : (n : ℕ) (o : PlainObject) → slice_get p.objects n ≡ Some o → slice_get (map owned_of (es p m)) n ≡ Some (owned o)
  owned_there n o q = slice_get-map owned_of (es p m) n ∙ ap (option_map owned_of) (entry_there p m n o q)

  owner_is : (f : ℕ) (o : PlainObject) → IsOwnedBy f o.storage → (owned o).owner ≡ Some f
  owner_is f o h = frame_is f o.external o.name o.storage h

  scratch_there : (f frame : ℕ) → slice_get frames f ≡ Some frame → scratch_size frames f ≡ frame_size frame
  scratch_there f frame q = ap frame_size (get_or_from_slice_get frames f frame 0 q)

  packed_in : (n at : ℕ) (o : PlainObject) → slice_get p.objects n ≡ Some o → data_size (entry p m o) ≡ size p m o
      → at ≡ m.vars.first + data_sizes (take n (es p m)) → Within m.vars.first locals_from at (size p m o)
  packed_in n at o q s e =
      let w = sum_within data_size (es p m) n (entry p m o) (entry_there p m n o q) in
      record { low = omega (arith, e); high = omega (arith, e, w, s) }

  frame_in : (n at f : ℕ) (o : PlainObject) → slice_get p.objects n ≡ Some o → IsOwnedBy f o.storage → f < length p.functions
      → at ≡ local_at m rows (es p m) f n → Within locals_from scratch_from at (size p m o)
  frame_in n at f o q h l e =
      let w = ends_in_need rows (map owned_of (es p m)) n f (owned o) (owned_there n o q) (owner_is f o h) (known f l) in
      record { low = omega (arith, e); high = omega (arith, e, w) }

  module _ (over : AreOverlaid rows (scratch_size frames)) (locals : ObjectsAreOverlaid rows (map owned_of (es p m))) where
    scratch_in : (at f frame : ℕ) → slice_get frames f ≡ Some frame → f < length p.functions
        → at ≡ scratch_from + begin_of rows (scratch_size frames) f → Within scratch_from work_from at (frame_size frame)
    scratch_in at f frame q l e =
        let w = over.within f (known f l) in
        let s = scratch_there f frame q in
        record { low = omega (arith, e); high = omega (arith, e, w, s) }

    last_in : (at : ℕ) → at ≡ work_from → Within work_from (work_from + work_bytes) at work_bytes
    last_in at e = record { low = omega (arith, e); high = omega (arith, e) }

    behind : (a b c d at s to t : ℕ) → b ≤ c → Within a b at s → Within c d to t → Clear at s to t
    behind a b c d at s to t l x y = let high = x.high in let low = y.low in inl (omega (arith, l, high, low))

    both_packed : (n k at to : ℕ) (o x : PlainObject) → n < k → slice_get p.objects n ≡ Some o
        → data_size (entry p m o) ≡ size p m o → at ≡ m.vars.first + data_sizes (take n (es p m))
        → to ≡ m.vars.first + data_sizes (take k (es p m)) → Clear at (size p m o) to (size p m x)
    both_packed n k at to o x l q s e f =
        let w = sum_until data_size (es p m) n k (entry p m o) (entry_there p m n o q) l in
        inl (omega (arith, w, s, e, f))

    both_locals : (n k at to f g : ℕ) (o x : PlainObject) → n ≢ k → CanBeLive p n k → slice_get p.objects n ≡ Some o
        → IsOwnedBy f o.storage → at ≡ local_at m rows (es p m) f n → slice_get p.objects k ≡ Some x → IsOwnedBy g x.storage
        → to ≡ local_at m rows (es p m) g k → Clear at (size p m o) to (size p m x)
    both_locals n k at to f g o x d live q h e r i u =
        let mine : IsLocalOf p f n = rw q h in
        let other : IsLocalOf p g k = rw r i in
        ⊎_elim (λ w. inl (omega (arith, e, u, w))) (λ w. inr (omega (arith, e, u, w)))
        (locals.apart n k f g (owned o) (owned x) (owned_there n o q) (owner_is f o h) (owned_there k x r) (owner_is g x i) d
        (live.locals f g mine other))

    both_scratch : (n k at to f g frame other : ℕ) → n ≢ k → CanBeLive p n k → n ≡ 1024 + f
        → slice_get frames f ≡ Some frame
        → f < length p.functions → at ≡ scratch_from + begin_of rows (scratch_size frames) f
        → k ≡ 1024 + g → slice_get frames g ≡ Some other → g < length p.functions
        → to ≡ scratch_from + begin_of rows (scratch_size frames) g → Clear at (frame_size frame) to (frame_size other)
    both_scratch n k at to f g frame other d live a q l e b r j u =
        let s = scratch_there f frame q in
        let t = scratch_there g other r in
        ⊎_elim (λ same. absurd (d (omega (arith, a, b, same))))
        (λ leads. ⊎_elim
        (λ there. let w = over.apart f g there in inl (omega (arith, e, u, w, s)))
        (λ back. let w = over.apart g f back in inr (omega (arith, e, u, w, t))) leads)
        (live.scratch f g l j a b)

    inside_apart : (n k at to s t : ℕ) → n ≢ k → CanBeLive p n k → Inside n at s → Inside k to t → Clear at s to t
    inside_apart n k at to s t d live (packed _ _ o q a e) (packed _ _ x r b f) =
        by_order n k at (size p m o) to (size p m x) d (λ l. both_packed n k at to o x l q a e f) (λ l. both_packed k n to at x o l r b f e)
    inside_apart n k at to s t d live (packed _ _ o q a e) (of_frame _ _ g x r h l u) =
        behind m.vars.first locals_from locals_from scratch_from at (size p m o) to (size p m x)
        (omega arith) (packed_in n at o q a e) (frame_in k to g x r h l u)
    inside_apart n k at to s t d live (packed _ _ o q a e) (of_scratch _ _ g fr b r l u) =
        behind m.vars.first locals_from scratch_from work_from at (size p m o) to (frame_size fr)
        (omega arith) (packed_in n at o q a e) (scratch_in to g fr r l u)
    inside_apart n k at to s t d live (packed _ _ o q a e) (last _ _ b u) =
        behind m.vars.first locals_from work_from (work_from + work_bytes) at (size p m o) to work_bytes
        (omega arith) (packed_in n at o q a e) (last_in to u)
    inside_apart n k at to s t d live (of_frame _ _ g x r h l u) (packed _ _ o q a e) =
        turned to (size p m o) at (size p m x)
        (behind m.vars.first locals_from locals_from scratch_from to (size p m o) at (size p m x)
        (omega arith) (packed_in k to o q a e) (frame_in n at g x r h l u))
    inside_apart n k at to s t d live (of_frame _ _ f o q h l e) (of_frame _ _ g x r i j u) =
        both_locals n k at to f g o x d live q h e r i u
    inside_apart n k at to s t d live (of_frame _ _ f o q h l e) (of_scratch _ _ g fr b r j u) =
        behind locals_from scratch_from scratch_from work_from at (size p m o) to (frame_size fr)
        (omega arith) (frame_in n at f o q h l e) (scratch_in to g fr r j u)
    inside_apart n k at to s t d live (of_frame _ _ f o q h l e) (last _ _ b u) =
        behind locals_from scratch_from work_from (work_from + work_bytes) at (size p m o) to work_bytes
        (omega arith) (frame_in n at f o q h l e) (last_in to u)
    inside_apart n k at to s t d live (of_scratch _ _ g fr b r l u) (packed _ _ o q a e) =
        turned to (size p m o) at (frame_size fr)
        (behind m.vars.first locals_from scratch_from work_from to (size p m o) at (frame_size fr)
        (omega arith) (packed_in k to o q a e) (scratch_in at g fr r l u))
    inside_apart n k at to s t d live (of_scratch _ _ g fr b r j u) (of_frame _ _ f o q h l e) =
        turned to (size p m o) at (frame_size fr)
        (behind locals_from scratch_from scratch_from work_from to (size p m o) at (frame_size fr)
        (omega arith) (frame_in k to f o q h l e) (scratch_in at g fr r j u))
    inside_apart n k at to s t d live (of_scratch _ _ f fr a q l e) (of_scratch _ _ g hr b r j u) =
        both_scratch n k at to f g fr hr d live a q l e b r j u
    inside_apart n k at to s t d live (of_scratch _ _ g fr b r j u) (last _ _ c e) =
        behind scratch_from work_from work_from (work_from + work_bytes) at (frame_size fr) to work_bytes
        (omega arith) (scratch_in at g fr r j u) (last_in to e)
    inside_apart n k at to s t d live (last _ _ b u) (packed _ _ o q a e) =
        turned to (size p m o) at work_bytes
        (behind m.vars.first locals_from work_from (work_from + work_bytes) to (size p m o) at work_bytes
        (omega arith) (packed_in k to o q a e) (last_in at u))
    inside_apart n k at to s t d live (last _ _ b u) (of_frame _ _ f o q h l e) =
        turned to (size p m o) at work_bytes
        (behind locals_from scratch_from work_from (work_from + work_bytes) to (size p m o) at work_bytes
        (omega arith) (frame_in k to f o q h l e) (last_in at u))
    inside_apart n k at to s t d live (last _ _ c e) (of_scratch _ _ g fr b r j u) =
        turned to (frame_size fr) at work_bytes
        (behind scratch_from work_from work_from (work_from + work_bytes) to (frame_size fr) at work_bytes
        (omega arith) (scratch_in to g fr r j u) (last_in at e))
    inside_apart n k at to s t d live (last _ _ b f) (last _ _ c e) = absurd (d (b ∙ sym c))

  module _ (valid : Valid p m.io) (map_valid : ValidMap m) (over : AreOverlaid rows (scratch_size frames))
      (locals : ObjectsAreOverlaid rows (map owned_of (es p m)))
      (room : data_need work_bytes rows (es p m) frames ≤ m.vars.size) (free : AreFree m (blocks (es p m) p.objects m.places.items)) where
    -- ---- each in its part of the memory

    pub record InVars (at size : ℕ) : Type 0 where
      pub from_there : m.vars.first ≤ at
      pub ends : at + size ≤ end_of m.vars

    vars_of : (a b at s : ℕ) → m.vars.first ≤ a → b ≤ end_of m.vars → Within a b at s → InVars at s
    vars_of a b at s low high w =
        let from = w.low in
        let to = w.high in
        record { from_there = omega (arith, low, from); ends = omega (arith, high, to) }

    pub in_vars : (n at s : ℕ) → Inside n at s → InVars at s
    in_vars n at _ (packed _ _ o q a e) =
        vars_of m.vars.first locals_from at (size p m o)
        (omega arith) (omega (arith, room)) (packed_in n at o q a e)
    in_vars n at _ (of_frame _ _ f o q h l e) =
        vars_of locals_from scratch_from at (size p m o)
        (omega arith) (omega (arith, room)) (frame_in n at f o q h l e)
    in_vars n at _ (of_scratch _ _ f fr b q l e) =
        vars_of scratch_from work_from at (frame_size fr) (omega arith) (omega (arith, room)) (scratch_in over locals at f fr q l e)
    in_vars n at _ (last _ _ b e) = vars_of work_from (work_from + work_bytes) at work_bytes (omega arith) (omega (arith, room)) (last_in over locals at e)

    pub record Outside (at size : ℕ) : Type 0 where
      pub from_there : 256 ≤ at
      pub ends : at + size ≤ size_of_data m.core
      pub vars : Clear at size m.vars.first m.vars.size
      pub stack : Clear at size m.stack.first m.stack.size

    pub outside : (o : PlainObject) (at : ℕ) → Stood p m Data o at → Outside at (size p m o)
    outside o at s =
        let b = block p m o at in
        let (inside, met) = free_at m (blocks (es p m) p.objects m.places.items) s.found.number b free s.is_block in
        let (low, high) = in_data_bank m.core o.home at (at + size p m o) s.in_bank inside in
        let unmet : region_of_bank m b Data ≡ None = subst (λ bank. region_of_bank m b bank ≡ None) s.in_bank met in
        let (vars, stack) = neither_met (name_where_met b m.vars regions.Data) (name_where_met b m.stack regions.Stack) unmet in
        record {
          from_there = low;
          ends = high;
          vars = turned m.vars.first m.vars.size at (size p m o) (clear_of b m.vars regions.Data map_valid.regions_valid.vars.some vars);
          stack = turned m.stack.first m.stack.size at (size p m o)
              (clear_of b m.stack regions.Stack map_valid.regions_valid.stack.some stack);
        }

    -- a named register
    pub record InRegisters (at size : ℕ) : Type 0 where
      pub from_there : 2 ≤ at
      pub ends : at + size ≤ 8

    pub registers : (n at : ℕ) (o : PlainObject) → slice_get p.objects n ≡ Some o → o.storage ≡ register at
        → InRegisters at (size p m o)
    registers n at o q s =
        let stored : IsStored p o (register at) = subst (λ x. IsStored p o x) s (is_object_at p m.io valid n o q).storage in
        record { from_there = stored.low; ends = stored.high }

    -- ---- two of them

    in_memory : (at size to many : ℕ) → InVars to many → InRegisters at size → Clear at size to many
    in_memory at size to many a b =
        let low = map_valid.regions_valid.vars.from_there in
        let from = a.from_there in
        let ends = b.ends in
        inl (omega (arith, low, from, ends))

    in_place : (at size to many : ℕ) → Outside to many → InRegisters at size → Clear at size to many
    in_place at size to many a b =
        let from = a.from_there in
        let ends = b.ends in
        inl (omega (arith, from, ends))

    beside : (at size to many : ℕ) → Outside at size → InVars to many → Clear at size to many
    beside at size to many a b =
        let from = b.from_there in
        let ends = b.ends in
        ⊎_elim (λ l. inl (omega (arith, l, from))) (λ l. inr (omega (arith, l, ends))) a.vars

    both_named : (n k at to : ℕ) (o x : PlainObject) → n < k → slice_get p.objects n ≡ Some o → slice_get p.objects k ≡ Some x
        → o.storage ≡ register at → x.storage ≡ register to → Clear at (size p m o) to (size p m x)
    both_named n k at to o x l q r s t =
        let pair = valid.registers n k o l (slice_get_within p.objects k x r) in
        let o_there = get_or_from_slice_get p.objects n o o q in
        let x_there = get_or_from_slice_get p.objects k x o r in
        let apart : ShareNoRegister p o x =
        subst (λ z. ShareNoRegister p z x) o_there (subst (λ z. ShareNoRegister p (get_or p.objects n o) z) x_there pair) in
        let told : AreApart (register at) x.storage (size p m o) (size p m x) =
        subst (λ z. AreApart z x.storage (size p m o) (size p m x)) s apart in
        let both : AreApart (register at) (register to) (size p m o) (size p m x) =
        subst (λ z. AreApart (register at) z (size p m o) (size p m x)) t told in
        both

    pub standing_apart : (n k at to s t : ℕ) → n ≢ k → CanBeLive p n k → Standing n at s → Standing k to t → Clear at s to t
    standing_apart n k at to s t d live (in_area _ _ _ a) (in_area _ _ _ b) = inside_apart over locals n k at to s t d live a b
    standing_apart n k at to s t d live (in_area _ _ _ a) (fixed _ _ x r b) =
        turned to (size p m x) at s (beside to (size p m x) at s (outside x to b) (in_vars n at s a))
    standing_apart n k at to s t d live (in_area _ _ _ a) (named _ _ x r b) =
        turned to (size p m x) at s (in_memory to (size p m x) at s (in_vars n at s a) (registers k to x r b))
    standing_apart n k at to s t d live (fixed _ _ o q a) (in_area _ _ _ b) =
        beside at (size p m o) to t (outside o at a) (in_vars k to t b)
    standing_apart n k at to s t d live (fixed _ _ o q a) (fixed _ _ x r b) =
        by_order n k at (size p m o) to (size p m x) d (λ l. both_stood p m valid free Data n k o x at to l q r a b)
        (λ l. both_stood p m valid free Data k n x o to at l r q b a)
    standing_apart n k at to s t d live (fixed _ _ o q a) (named _ _ x r b) =
        turned to (size p m x) at (size p m o) (in_place to (size p m x) at (size p m o) (outside o at a) (registers k to x r b))
    standing_apart n k at to s t d live (named _ _ o q a) (in_area _ _ _ b) =
        in_memory at (size p m o) to t (in_vars k to t b) (registers n at o q a)
    standing_apart n k at to s t d live (named _ _ o q a) (fixed _ _ x r b) =
        in_place at (size p m o) to (size p m x) (outside x to b) (registers n at o q a)
    standing_apart n k at to s t d live (named _ _ o q a) (named _ _ x r b) =
        by_order n k at (size p m o) to (size p m x) d (λ l. both_named n k at to o x l q r a b) (λ l. both_named k n to at x o l r q b a)
