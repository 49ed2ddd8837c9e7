-- Where objects, initial bytes, scratch memory and work bytes stand.
use Rattle.std.specs.Prelude.{ℕ, ◌+◌, Bool, true, List, [], ◌∷◌, map}
use Rattle.ec_space.specs.declared.space.Bank.TheVariants.{Flash, Data}
use Rattle.ec_space.specs.declared.space.Home.{Home}
use Rattle.ec_space.specs.declared.space.Home.TheVariants.{Flash as FlashHome, Far as FarHome, Data as DataHome}
use Rattle.ec_space.specs.declared.space.Place.{Place}
use Rattle.ec_space.specs.Spaces.{bank_of}
use Rattle.ec_map.specs.declared.map.Map.{Map}
use Rattle.ec_overlay.specs.Frames.{begin_of, need_of}
use Rattle.ec_overlay.specs.Objects.{object_at}
use Rattle.ec_locate.specs.declared.entries.Entry.{Entry}
use Rattle.ec_locate.specs.declared.entries.Kept.{Kept}
use Rattle.ec_locate.specs.declared.entries.Kept.TheVariants.{Register, Fixed, Packed, InFrame}
use Rattle.ec_locate.specs.Entries.{flash_size, far_size, data_size, initial_size, flash_sizes, data_sizes, owned_of}
use Rattle.ec_locate.specs.Entries.{local_size, scratch_size}

abbrev pub in_region : Home → (flash far at : ℕ) → Place
in_region FlashHome flash far at = record { bank = Flash; offset = flash }
in_region FarHome flash far at = record { bank = Flash; offset = far }
in_region DataHome flash far at = record { bank = Data; offset = at }

-- the place of an object, where its region goes on at `flash`, at `far` or at `at`, and the frame of each function at `frame`
abbrev pub place_by : Kept → Home → (flash far at : ℕ) → (frame : ℕ → ℕ) → Place
place_by (Register first) home flash far at frame = record { bank = Data; offset = first }
place_by (Fixed there) home flash far at frame = record { bank = bank_of home; offset = there }
place_by Packed home flash far at frame = in_region home flash far at
place_by (InFrame f) home flash far at frame = record { bank = bank_of home; offset = frame f }

-- free static objects stand one after another in their regions, and a parameter or local, the object with number i, where
-- it stands in the frame of its function
abbrev pub places_from : (flash far at : ℕ) → (frame : ℕ → ℕ → ℕ) → (i : ℕ) → List Entry → List Place
places_from flash far at frame i [] = []
places_from flash far at frame i (e ∷ es) =
    place_by e.kept e.home flash far at (λ f. frame f i)
    ∷ places_from (flash + flash_size e) (far + far_size e) (at + data_size e) frame (i + 1) es

abbrev pub initial_at : (is_static : Bool) → Home → (first at : ℕ) → ℕ
initial_at true DataHome first at = at
initial_at _ _ first at = first

-- initial bytes stand one after another. For an object that has none it is the first byte of the region
abbrev pub initials_from : (first at : ℕ) → List Entry → List ℕ
initials_from first at [] = []
initials_from first at (e ∷ es) =
    initial_at e.is_static e.home first at ∷ initials_from first (at + initial_size e) es

-- the scratch memory of each function, the first of which has number i, from where its frame begins in an area
abbrev pub frames_from : (area : ℕ) → (begin : ℕ → ℕ) → (i : ℕ) → List ℕ → List ℕ
frames_from area begin i [] = []
frames_from area begin i (frame ∷ frames) = (area + begin i) ∷ frames_from area begin (i + 1) frames

-- ---- the areas of region `data`: the free static objects, the parameters and locals, the scratch memory and the work bytes

abbrev pub local_area : Map → List Entry → ℕ
local_area m es = m.vars.first + data_sizes es

abbrev pub scratch_area : Map → (rows : List (List ℕ)) → List Entry → ℕ
scratch_area m rows es = local_area m es + need_of rows (local_size es)

abbrev pub work_area : Map → (rows : List (List ℕ)) → List Entry → (frames : List ℕ) → ℕ
work_area m rows es frames = scratch_area m rows es + need_of rows (scratch_size frames)

-- where the object with number i stands, a parameter or local of f
abbrev pub local_at : Map → (rows : List (List ℕ)) → List Entry → (f i : ℕ) → ℕ
local_at m rows es f i = local_area m es + object_at rows (map owned_of es) f i

-- the initial bytes of static objects stand behind the flash objects
abbrev pub initials_by : Map → List Entry → List ℕ
initials_by m es = initials_from m.tables.first (m.tables.first + flash_sizes es) es

-- the layout of a program by the regions of a map
pub record LayoutView : Type 0 where
  pub places : List Place
  pub initials : List ℕ
  pub frames : List ℕ
  pub work : ℕ

abbrev pub layout : Map → (rows : List (List ℕ)) → List Entry → (frames : List ℕ) → LayoutView
layout m rows es frames = record {
  places = places_from m.tables.first m.far.first m.vars.first (local_at m rows es) 0 es;
  initials = initials_by m es;
  frames = frames_from (scratch_area m rows es) (begin_of rows (scratch_size frames)) 0 frames;
  work = work_area m rows es frames;
}
