-- The areas of overlaid frames, as they are made.
use Rattle.std.specs.Prelude.{ℕ, ◌<◌, ⊤, List}
use Rattle.ec_overlay.specs.Frames.{IsArea}
use Rattle.ec_locate.specs.Entries.{local_size, scratch_size}
use Rattle.ec_locate.specs.declared.entries.Entry.{Entry}
use Rattle.ec_locate.specs.declared.entries.Kept.{Kept}
use Rattle.ec_locate.specs.declared.entries.Kept.TheVariants.{Register, Fixed, Packed, InFrame}
use Rattle.ec_locate.specs.declared.frames.Areas.{Areas}

-- an object that is kept in the frame of a function is kept in that of one of so many
abbrev pub IsKeptBelow : (functions : ℕ) → Kept → Type 0
IsKeptBelow n (InFrame f) = f < n
IsKeptBelow n Packed = ⊤
IsKeptBelow n (Fixed at) = ⊤
IsKeptBelow n (Register first) = ⊤

-- where the parameters and locals, and the scratch memory, of each function begin in their areas
pub record AreAreas (rows : List (List ℕ)) (es : List Entry) (frames : List ℕ) (areas : Areas) : Type 0 where
  pub locals : IsArea rows (local_size es) areas.locals.begins.items areas.locals.need
  pub scratch : IsArea rows (scratch_size frames) areas.scratch.begins.items areas.scratch.need
