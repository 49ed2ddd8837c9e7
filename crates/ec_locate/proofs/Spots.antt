-- The initial values of static objects stand apart in the flash, behind the code.
use Rattle.std.proofs.Common.{◌≡◌, inl, inr, ⊎_elim, ◌+◌, ◌<◌, ◌≤◌, ℕ, Bool, true, false, List, take, Option, Some}
use Rattle.std.proofs.Common.{None, refl, sym, ap}
use Rattle.std.proofs.Common.{◌∙◌, subst, arith}
use Rattle.std.specs.Prelude.{slice_get, option_map, unwrap_or}
use Rattle.std.specs.Option.{option_or}
use Rattle.ec_space.specs.Memory.{flash_size as flash_size_of}
use Rattle.ec_space.specs.declared.space.Bank.TheVariants.{Flash, Data}
use Rattle.ec_space.specs.declared.space.Home.{Home}
use Rattle.ec_space.specs.declared.space.Home.TheVariants.{Flash as FlashHome, Far as FarHome, Data as DataHome}
use Rattle.ec_space.specs.Spaces.{bank_of}
use Rattle.ec_asm.specs.declared.items.AsmProgram.{AsmProgram}
use Rattle.ec_check_recursion.specs.Rows.{rows_of_program}
use Rattle.ec_core.specs.Plain.{PlainObject, PlainProgram}
use Rattle.ec_core.specs.Valid.{Valid}
use Rattle.ec_core.specs.declared.programs.LeafInit.{LeafInit}
use Rattle.ec_map.specs.Cores.{home_end}
use Rattle.ec_map.specs.Maps.{ValidMap}
use Rattle.ec_map.specs.Regions.{end_of}
use Rattle.ec_map.specs.declared.map.Map.{Map}
use Rattle.ec_locate.specs.declared.entries.Kept.{Kept}
use Rattle.ec_locate.specs.declared.entries.Kept.TheVariants.{Packed, Fixed}
use Rattle.ec_locate.specs.declared.stop.RegionName.TheVariants as regions
use Rattle.ec_locate.specs.Apart.{AreFree}
use Rattle.ec_locate.specs.Entries.{fixed_place, is_static, flash_size, far_size, initial_size, flash_sizes, far_sizes, data_sizes}
use Rattle.ec_locate.specs.Entries.{initial_sizes}
use Rattle.ec_locate.specs.Fixed.{blocks, name_where_met, region_of_bank}
use Rattle.ec_locate.specs.Image.{values_at}
use Rattle.ec_locate.specs.Initial.{IsInitialised, values_of}
use Rattle.ec_locate.specs.Layout.{LayoutView, place_by, local_at}
use Rattle.ec_locate.specs.Placing.{layout_by}
use Rattle.ec_locate.proofs.Ends.{home_in_flash}
use Rattle.ec_locate.proofs.Objects.{is_object_at}
use Rattle.ec_locate.proofs.Stood.{Clear, turned, es, size, entry, entry_there, block, Stood, in_flash_bank, stood, both_stood}
use Rattle.ec_locate.proofs.Where.{sum_until, sum_within, place_at, initial_there, free_at, neither_met, clear_of}

-- ---- objects of the flash bank, by their homes

pub values_in_flash : (y : LayoutView) (i : ℕ) (home : Home) → bank_of home ≡ Flash
    → values_at y i home ≡ unwrap_or (option_map (λ q. q.offset) (slice_get y.places i)) 0
values_in_flash y i FlashHome h = refl
values_in_flash y i FarHome h = refl
values_in_flash y i DataHome h = cc

-- ---- where the initial values of an object stand

module _ (p : PlainProgram) (m : Map) where
  -- among the initial bytes of region `tables`, among its objects of home flash, among the objects of region `far`, or where
  -- the map puts the object
  pub data Spot (i : ℕ) (o : PlainObject) : ℕ → Type 0 where
    initial : (at : ℕ) → o.home ≡ DataHome → initial_size (entry p m o) ≡ size p m o
        → at ≡ m.tables.first + flash_sizes (es p m) + initial_sizes (take i (es p m)) → Spot i o at
    packed : (at : ℕ) → o.home ≡ FlashHome → flash_size (entry p m o) ≡ size p m o
        → at ≡ m.tables.first + flash_sizes (take i (es p m)) → Spot i o at
    in_far : (at : ℕ) → o.home ≡ FarHome → far_size (entry p m o) ≡ size p m o
        → at ≡ m.far.first + far_sizes (take i (es p m)) → Spot i o at
    fixed : (at : ℕ) → bank_of o.home ≡ Flash → o.external ≡ true → is_static o.storage ≡ true
        → fixed_place m.places.items o.name ≡ Some at → Spot i o at

  pub spot : (asm : AsmProgram) (i : ℕ) (o : PlainObject) (inits : List LeafInit) → IsInitialised p i o inits
      → Spot i o (values_of p m asm i o)
  spot asm i o inits h = by_home o.home refl
    where
      is_there : slice_get (es p m) i ≡ Some (entry p m o)
      is_there = entry_there p m i o h.is_object

      static_there : is_static o.storage ≡ true
      static_there = rw h.is_static refl

      placed : Kept → ℕ
      placed k =
          (place_by k o.home (m.tables.first + flash_sizes (take i (es p m))) (m.far.first + far_sizes (take i (es p m)))
          (m.vars.first + data_sizes (take i (es p m))) (λ f. local_at m (rows_of_program p) (es p m) f i)).offset

      in_flash : bank_of o.home ≡ Flash → values_of p m asm i o ≡ placed (entry p m o).kept
      in_flash f =
          values_in_flash (layout_by p m asm) i o.home f
          ∙ ap (λ z. unwrap_or (option_map (λ q. q.offset) z) 0)
          (place_at (es p m) m.tables.first m.far.first m.vars.first (local_at m (rows_of_program p) (es p m)) i (entry p m o) is_there)

      is_packed : (home : Home) → o.home ≡ home → bank_of home ≡ Flash → (entry p m o).kept ≡ Packed → Spot i o (values_of p m asm i o)
      is_packed FlashHome f h k =
          packed (values_of p m asm i o) f (rw (k, f) refl) (in_flash (ap bank_of f) ∙ rw (k, f) refl)
      is_packed FarHome f h k =
          in_far (values_of p m asm i o) f (rw (k, f) refl) (in_flash (ap bank_of f) ∙ rw (k, f) refl)
      is_packed DataHome f h k = cc

      by_place : bank_of o.home ≡ Flash → (z : Option ℕ) → fixed_place m.places.items o.name ≡ z → o.external ≡ true
          → Spot i o (values_of p m asm i o)
      by_place f None z x = is_packed o.home refl f (rw (h.is_static, x, z) refl)
      by_place f (Some at) z x =
          let k : (entry p m o).kept ≡ Fixed at = rw (h.is_static, x, z) refl in
          let here : values_of p m asm i o ≡ at = in_flash f ∙ rw k refl in
          subst (λ n. Spot i o n) (sym here) (fixed at f x static_there z)

      by_external : bank_of o.home ≡ Flash → (b : Bool) → o.external ≡ b → Spot i o (values_of p m asm i o)
      by_external f true x = by_place f (fixed_place m.places.items o.name) refl x
      by_external f false x = is_packed o.home refl f (rw (h.is_static, x) refl)

      by_home : (b : Home) → o.home ≡ b → Spot i o (values_of p m asm i o)
      by_home FlashHome f = by_external (ap bank_of f) o.external refl
      by_home FarHome f = by_external (ap bank_of f) o.external refl
      by_home DataHome f =
          initial (values_of p m asm i o) f (rw (static_there, f) refl)
          (ap (λ b. values_at (layout_by p m asm) i b) f
          ∙ initial_there (es p m) m.tables.first (m.tables.first + flash_sizes (es p m)) i (entry p m o) is_there
          ∙ rw (static_there, f) refl)

  -- ---- one behind the other

  -- what stands in region `tables` and nowhere else
  record InTables (at size : ℕ) : Type 0 where
    from_there : m.tables.first ≤ at
    ends : at + size ≤ end_of m.tables

  -- what stands in region `far`, which then has a byte
  record InFar (at size : ℕ) : Type 0 where
    some : 1 ≤ m.far.size
    from_there : m.far.first ≤ at
    ends : at + size ≤ end_of m.far

  -- what the map places stands in the flash, outside of its regions
  record Outside (o : PlainObject) (at : ℕ) : Type 0 where
    within : at + size p m o ≤ home_end o.home m.core
    code : Clear at (size p m o) m.code.first m.code.size
    tables : Clear at (size p m o) m.tables.first m.tables.size
    far : 1 ≤ m.far.size → Clear at (size p m o) m.far.first m.far.size

  module _ (valid : Valid p m.io) (map_valid : ValidMap m) (room : flash_sizes (es p m) + initial_sizes (es p m) ≤ m.tables.size)
      (far_room : far_sizes (es p m) ≤ m.far.size) (free : AreFree m (blocks (es p m) p.objects m.places.items)) where
    initial_in : (i : ℕ) (o : PlainObject) (at : ℕ) → slice_get p.objects i ≡ Some o → initial_size (entry p m o) ≡ size p m o
        → at ≡ m.tables.first + flash_sizes (es p m) + initial_sizes (take i (es p m)) → InTables at (size p m o)
    initial_in i o at q s e =
        let w = sum_within initial_size (es p m) i (entry p m o) (entry_there p m i o q) in
        record { from_there = omega (arith, e); ends = omega (arith, e, w, s, room) }

    packed_in : (i : ℕ) (o : PlainObject) (at : ℕ) → slice_get p.objects i ≡ Some o → flash_size (entry p m o) ≡ size p m o
        → at ≡ m.tables.first + flash_sizes (take i (es p m)) → InTables at (size p m o)
    packed_in i o at q s e =
        let w = sum_within flash_size (es p m) i (entry p m o) (entry_there p m i o q) in
        record { from_there = omega (arith, e); ends = omega (arith, e, w, s, room) }

    far_in : (i : ℕ) (o : PlainObject) (at : ℕ) → slice_get p.objects i ≡ Some o → far_size (entry p m o) ≡ size p m o
        → at ≡ m.far.first + far_sizes (take i (es p m)) → InFar at (size p m o)
    far_in i o at q s e =
        let w = sum_within far_size (es p m) i (entry p m o) (entry_there p m i o q) in
        let some = (is_object_at p m.io valid i o q).some in
        record { some = omega (arith, w, s, some, far_room); from_there = omega (arith, e); ends = omega (arith, e, w, s, far_room) }

    outside : (o : PlainObject) (at : ℕ) → Stood p m Flash o at → Outside o at
    outside o at s =
        let b = block p m o at in
        let (inside, met) = free_at m (blocks (es p m) p.objects m.places.items) s.found.number b free s.is_block in
        let unmet : region_of_bank m b Flash ≡ None = subst (λ bank. region_of_bank m b bank ≡ None) s.in_bank met in
        let in_tables = name_where_met b m.tables regions.Tables in
        let far_met = name_where_met b m.far regions.Far in
        let (code, rest) = neither_met (name_where_met b m.code regions.Code) (option_or in_tables far_met) unmet in
        let (tables, far) = neither_met in_tables far_met rest in
        record {
          within = in_flash_bank m.core o.home at (at + size p m o) s.in_bank inside;
          code = turned m.code.first m.code.size at (size p m o) (clear_of b m.code regions.Code map_valid.regions_valid.code.some code);
          tables = turned m.tables.first m.tables.size at (size p m o)
              (clear_of b m.tables regions.Tables map_valid.regions_valid.tables.some tables);
          far = λ some. turned m.far.first m.far.size at (size p m o) (clear_of b m.far regions.Far some far);
        }

    beside : (o : PlainObject) (at to many : ℕ) → Outside o at → InTables to many → Clear at (size p m o) to many
    beside o at to many a b =
        let from = b.from_there in
        let ends = b.ends in
        ⊎_elim (λ l. inl (omega (arith, l, from))) (λ l. inr (omega (arith, l, ends))) a.tables

    beside_far : (o : PlainObject) (at to many : ℕ) → Outside o at → InFar to many → Clear at (size p m o) to many
    beside_far o at to many a b =
        let from = b.from_there in
        let ends = b.ends in
        ⊎_elim (λ l. inl (omega (arith, l, from))) (λ l. inr (omega (arith, l, ends))) (a.far b.some)

    -- the two regions share no byte
    regions_apart : (at size to many : ℕ) → InTables at size → InFar to many → Clear at size to many
    regions_apart at size to many a b =
        let a_from = a.from_there in
        let a_ends = a.ends in
        let from = b.from_there in
        let ends = b.ends in
        ⊎_elim (λ l. inl (omega (arith, l, a_ends, from))) (λ l. inr (omega (arith, l, a_from, ends)))
        (map_valid.regions_valid.far b.some).tables_apart

    abbrev placed : (i : ℕ) (o : PlainObject) (at : ℕ) → slice_get p.objects i ≡ Some o → bank_of o.home ≡ Flash → o.external ≡ true
        → is_static o.storage ≡ true → fixed_place m.places.items o.name ≡ Some at → Outside o at
    placed i o at q a eo so z = outside o at (stood p m valid free Flash i o at q a eo so z)

    pub spots_apart : (i k : ℕ) (o x : PlainObject) (at to : ℕ) → i < k → slice_get p.objects i ≡ Some o
        → slice_get p.objects k ≡ Some x
        → Spot i o at → Spot k x to → Clear at (size p m o) to (size p m x)
    spots_apart i k o x at to l q r (initial _ h a e) (initial _ g b f) =
        let w = sum_until initial_size (es p m) i k (entry p m o) (entry_there p m i o q) l in
        inl (omega (arith, w, a, e, f))
    spots_apart i k o x at to l q r (packed _ h a e) (packed _ g b f) =
        let w = sum_until flash_size (es p m) i k (entry p m o) (entry_there p m i o q) l in
        inl (omega (arith, w, a, e, f))
    spots_apart i k o x at to l q r (in_far _ h a e) (in_far _ g b f) =
        let w = sum_until far_size (es p m) i k (entry p m o) (entry_there p m i o q) l in
        inl (omega (arith, w, a, e, f))
    spots_apart i k o x at to l q r (initial _ h a e) (packed _ g b f) =
        let w = sum_within flash_size (es p m) k (entry p m x) (entry_there p m k x r) in
        inr (omega (arith, w, b, e, f))
    spots_apart i k o x at to l q r (packed _ h a e) (initial _ g b f) =
        let w = sum_within flash_size (es p m) i (entry p m o) (entry_there p m i o q) in
        inl (omega (arith, w, a, e, f))
    spots_apart i k o x at to l q r (initial _ h a e) (in_far _ g b f) =
        regions_apart at (size p m o) to (size p m x) (initial_in i o at q a e) (far_in k x to r b f)
    spots_apart i k o x at to l q r (packed _ h a e) (in_far _ g b f) =
        regions_apart at (size p m o) to (size p m x) (packed_in i o at q a e) (far_in k x to r b f)
    spots_apart i k o x at to l q r (in_far _ g b f) (initial _ h a e) =
        turned to (size p m x) at (size p m o)
        (regions_apart to (size p m x) at (size p m o) (initial_in k x to r a e) (far_in i o at q b f))
    spots_apart i k o x at to l q r (in_far _ g b f) (packed _ h a e) =
        turned to (size p m x) at (size p m o)
        (regions_apart to (size p m x) at (size p m o) (packed_in k x to r a e) (far_in i o at q b f))
    spots_apart i k o x at to l q r (fixed _ a eo so z) (initial _ h b f) =
        beside o at to (size p m x) (placed i o at q a eo so z) (initial_in k x to r b f)
    spots_apart i k o x at to l q r (fixed _ a eo so z) (packed _ h b f) =
        beside o at to (size p m x) (placed i o at q a eo so z) (packed_in k x to r b f)
    spots_apart i k o x at to l q r (fixed _ a eo so z) (in_far _ h b f) =
        beside_far o at to (size p m x) (placed i o at q a eo so z) (far_in k x to r b f)
    spots_apart i k o x at to l q r (initial _ h b f) (fixed _ a ex sx z) =
        turned to (size p m x) at (size p m o) (beside x to at (size p m o) (placed k x to r a ex sx z) (initial_in i o at q b f))
    spots_apart i k o x at to l q r (packed _ h b f) (fixed _ a ex sx z) =
        turned to (size p m x) at (size p m o) (beside x to at (size p m o) (placed k x to r a ex sx z) (packed_in i o at q b f))
    spots_apart i k o x at to l q r (in_far _ h b f) (fixed _ a ex sx z) =
        turned to (size p m x) at (size p m o) (beside_far x to at (size p m o) (placed k x to r a ex sx z) (far_in i o at q b f))
    spots_apart i k o x at to l q r (fixed _ a eo so z) (fixed _ b ex sx w) =
        both_stood p m valid free Flash i k o x at to l q r (stood p m valid free Flash i o at q a eo so z)
        (stood p m valid free Flash k x to r b ex sx w)

    -- in the flash, behind the code, and so far as objects of its home can stand there
    pub record Room (o : PlainObject) (at : ℕ) : Type 0 where
      pub behind : m.code.size ≤ at
      pub within : at + size p m o ≤ flash_size_of m.core
      pub in_home : bank_of o.home ≡ Flash → at + size p m o ≤ home_end o.home m.core
      pub in_tables : o.home ≡ DataHome → at + size p m o ≤ home_end FlashHome m.core

    pub room_of : (i : ℕ) (o : PlainObject) (at : ℕ) → slice_get p.objects i ≡ Some o → Spot i o at → Room o at
    room_of i o at q s = by_spot s
      where
        some : 1 ≤ size p m o
        some = (is_object_at p m.io valid i o q).some

        start : m.code.first ≡ 0
        start = map_valid.regions_valid.start

        in_tables : (bank_of o.home ≡ Flash → o.home ≡ FlashHome) → InTables at (size p m o) → Room o at
        in_tables home t =
            let from = t.from_there in
            let ends = t.ends in
            let flash = map_valid.regions_valid.tables.ends in
            let low : at + size p m o ≤ home_end FlashHome m.core = omega (arith, ends, flash) in
            let most = home_in_flash FlashHome m.core refl in
            let least = map_valid.regions_valid.tables.some in
            ⊎_elim (λ a. record {
              behind = omega (arith, a, from, start);
              within = omega (arith, low, most);
              in_home = λ f. rw (home f) low;
              in_tables = λ of_data. low;
            })
            (λ a. absurd (omega (arith, a, start, least))) map_valid.regions_valid.flash_apart

        far_region : o.home ≡ FarHome → InFar at (size p m o) → Room o at
        far_region home t =
            let from = t.from_there in
            let ends = t.ends in
            let far = map_valid.regions_valid.far t.some in
            let flash = far.lies.ends in
            let low : at + size p m o ≤ home_end FarHome m.core = omega (arith, ends, flash) in
            let most = home_in_flash FarHome m.core refl in
            let least = t.some in
            ⊎_elim (λ a. record {
              behind = omega (arith, a, from, start);
              within = omega (arith, low, most);
              in_home = λ f. rw home low;
              in_tables = λ of_data. let both : FarHome ≡ DataHome = sym home ∙ of_data in absurd cc;
            })
            (λ a. absurd (omega (arith, a, start, least))) far.code_apart

        out_of_code : bank_of o.home ≡ Flash → Outside o at → Room o at
        out_of_code home t =
            let most = home_in_flash o.home m.core home in
            let within = t.within in
            ⊎_elim (λ a. absurd (omega (arith, a, start, some)))
            (λ a. record {
              behind = omega (arith, a, start);
              within = omega (arith, within, most);
              in_home = λ f. within;
              in_tables = λ of_data. let both : Flash ≡ Data = sym home ∙ ap bank_of of_data in absurd cc;
            })
            t.code

        by_spot : Spot i o at → Room o at
        by_spot (initial _ h b f) = in_tables (λ home. let both : Data ≡ Flash = ap bank_of (sym h) ∙ home in cc) (initial_in i o at q b f)
        by_spot (packed _ h b f) = in_tables (λ home. h) (packed_in i o at q b f)
        by_spot (in_far _ h b f) = far_region h (far_in i o at q b f)
        by_spot (fixed _ a eo so z) = out_of_code a (placed i o at q a eo so z)
