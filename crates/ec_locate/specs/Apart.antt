-- What a placed program keeps stands apart.
use Rattle.std.specs.Prelude.{ℕ, ◌≡◌, ◌+◌, ◌*◌, ◌≤◌, ⊤, Bool, true, false, List, [], ◌∷◌, None}
use Rattle.std.specs.Prelude.{length, position}
use Rattle.ec_space.specs.declared.space.Home.{Home}
use Rattle.ec_space.specs.declared.space.Home.TheVariants.{Flash, Far, Data}
use Rattle.ec_space.specs.declared.space.Place.{Place}
use Rattle.ec_asm.specs.Items.{code_words}
use Rattle.ec_asm.specs.declared.items.AsmProgram.{AsmProgram}
use Rattle.ec_core.specs.Plain.{PlainProgram}
use Rattle.ec_core.specs.Valid.{Valid}
use Rattle.ec_check_recursion.specs.Rows.{rows_of_program}
use Rattle.ec_overlay.specs.Chains.{IsChain}
use Rattle.ec_overlay.specs.Frames.{need_of}
use Rattle.ec_map.specs.Maps.{ValidMap}
use Rattle.ec_map.specs.Regions.{end_of}
use Rattle.ec_map.specs.declared.map.Map.{Map}
use Rattle.ec_locate.specs.Entries.{local_size, scratch_size, work_size}
use Rattle.ec_locate.specs.Fixed.{blocks, is_in_bank, region_met, overlaps}
use Rattle.ec_locate.specs.Layout.{local_area, scratch_area}
use Rattle.ec_locate.specs.Placing.{IsLocated, entries_by, layout_by}
use Rattle.ec_locate.specs.declared.entries.Entry.{Entry}
use Rattle.ec_locate.specs.declared.entries.Kept.{Kept}
use Rattle.ec_locate.specs.declared.entries.Kept.TheVariants.{Packed}
use Rattle.ec_locate.specs.declared.fixed.Block.{Block}
use Rattle.ec_locate.specs.declared.placing.Located.{Located}

-- ---- bytes in a row

pub record Span : Type 0 where
  pub from : ℕ
  pub size : ℕ

-- the spans stand one behind another, from an address on, and end by another
abbrev pub InOrder : (from : ℕ) → List Span → (to : ℕ) → Type 0
InOrder from [] to = from ≤ to
InOrder from (s ∷ ss) to = (from ≤ s.from) × InOrder (s.from + s.size) ss to

abbrev pub add_where : Bool → Span → List Span → List Span
add_where true s ss = s ∷ ss
add_where false s ss = ss

-- ---- what stands in the regions

-- an object that stands in the region of a home
abbrev pub is_packed_in : (region : Home) → Kept → Home → Bool
is_packed_in Flash Packed Flash = true
is_packed_in Far Packed Far = true
is_packed_in Data Packed Data = true
is_packed_in _ _ _ = false

-- the objects that stand in the region of a home, before other spans
abbrev pub objects_in : (region : Home) → List Place → List Entry → List Span → List Span
objects_in region [] es rest = rest
objects_in region (p ∷ ps) [] rest = rest
objects_in region (p ∷ ps) (e ∷ es) rest =
    add_where (is_packed_in region e.kept e.home) (record { from = p.offset; size = e.size }) (objects_in region ps es rest)

abbrev pub has_initial : (is_static : Bool) → Home → Bool
has_initial true Data = true
has_initial _ _ = false

-- the initial bytes of static data objects
abbrev pub initial_spans : List ℕ → List Entry → List Span → List Span
initial_spans [] es rest = rest
initial_spans (at ∷ ats) [] rest = rest
initial_spans (at ∷ ats) (e ∷ es) rest =
    add_where (has_initial e.is_static e.home) (record { from = at; size = e.size }) (initial_spans ats es rest)

-- the parameters and locals of all functions, the scratch memory of all, and the work bytes
abbrev pub area_spans : PlainProgram → Map → AsmProgram → Located → List Span
area_spans p m asm l =
    record { from = local_area m (entries_by m p); size = need_of (rows_of_program p) (local_size (entries_by m p)) }
    ∷ record {
      from = scratch_area m (rows_of_program p) (entries_by m p);
      size = need_of (rows_of_program p) (scratch_size asm.frames.items);
    }
    ∷ record { from = l.work; size = work_size m.io } ∷ []

-- ---- what stands at fixed addresses: in its bank, outside the regions, and clear of later ones
abbrev pub AreFree : Map → List Block → Type 0
AreFree m [] = ⊤
AreFree m (b ∷ bs) =
    (is_in_bank m.core b ≡ true) × (region_met m b ≡ None) × (position (overlaps b) bs ≡ None) × AreFree m bs

-- ---- the whole

-- In region `data` stand the free static data objects, the area of parameters and locals, that of scratch memory and the
-- work bytes, in region `tables` the free objects of home flash and the initial bytes, in region `far` the free objects of
-- home far, and in region `code` the code, each behind the one before.
-- Region `stack` has 16 bytes, and two for each function of a chain of calls from main, where the program is valid
pub record StandsApart (p : PlainProgram) (m : Map) (asm : AsmProgram) (l : Located) : Type 0 where
  pub ram : InOrder m.vars.first
      (objects_in Data l.places.items (entries_by m p)
      (area_spans p m asm l)) (end_of m.vars)
  pub flash : InOrder m.tables.first
      (objects_in Flash l.places.items (entries_by m p)
      (initial_spans (layout_by p m asm).initials (entries_by m p) [])) (end_of m.tables)
  pub far : InOrder m.far.first (objects_in Far l.places.items (entries_by m p) []) (end_of m.far)
  pub code : 2 * code_words asm.items.items ≤ end_of m.code
  pub stack : Valid p m.io → (fs : List ℕ) → IsChain (rows_of_program p) (p.main ∷ fs)
      → 16 + 2 * length (p.main ∷ fs) ≤ m.stack.size
  pub fixed : AreFree m (blocks (entries_by m p) p.objects m.places.items)

abbrev pub PlacedStandApart : Type 0
PlacedStandApart =
    (p : PlainProgram) (m : Map) (asm : AsmProgram) (l : Located) → ValidMap m → IsLocated p m asm l
    → StandsApart p m asm l
