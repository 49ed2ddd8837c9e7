-- The bytes of code, with its labels and the places of objects put in.
use Rattle.std.specs.Prelude.{ℕ, ◌+◌, ◌-◌, ◌%◌, ◌==◌, nat_le, nat_lt, Bool, true, ◌&&◌, if◌then◌else◌, List, [], ◌∷◌}
use Rattle.std.specs.Prelude.{slice_get, slice_index, slice_set, option_map, unwrap_or}
use Rattle.ec_isa.specs.Table.{in_table}
use Rattle.ec_space.specs.declared.Core.TheVariants.{Small}
use Rattle.ec_asm.specs.Change.{Env, Barred}
use Rattle.ec_asm.specs.declared.items.AsmItem.{AsmItem}
use Rattle.ec_asm.specs.declared.items.AsmItem.TheVariants.{Plain, Label, JumpTo, CallTo, BranchTo, LoadPart, LoadObj}
use Rattle.ec_asm.specs.declared.items.AsmItem.TheVariants.{StoreObj}
pub use Rattle.ec_locate.specs.Labels.{label_word}
use Rattle.ec_locate.specs.Layout.{LayoutView}
use Rattle.ec_locate.specs.declared.layout.Layout.{Layout}

-- a layout without the room of its lists
abbrev pub layout_view : Layout → LayoutView
layout_view y = record { places = y.places.items; initials = y.initials.items; frames = y.frames.items; work = y.work }

-- the address of the first byte of what a number names; `last` is that of the last byte of the stack
abbrev pub start_of : LayoutView → (last : ℕ) → ℕ → ℕ
start_of y last n =
    if nat_lt n 1024 then unwrap_or (option_map (λ p. p.offset) (slice_get y.places n)) 0
    else if nat_lt n 1280 then slice_index y.frames (n - 1024)
    else if n == 1280 then y.work
    else if n == 1281 then last
    else if nat_lt n 2048 then 0
    else slice_index y.initials (n - 2048)

-- the address of a byte
abbrev pub far_of : LayoutView → (last : ℕ) → (object offset : ℕ) → ℕ
far_of y last object offset = start_of y last object + offset

-- the same modulo 65,536
abbrev pub address_of : LayoutView → (last : ℕ) → (object offset : ℕ) → ℕ
address_of y last object offset = far_of y last object offset % 65536

-- what is outside the code, as far as its bytes depend on it, which they do neither on the core nor on what stands where
abbrev pub resolved : List AsmItem → LayoutView → (last : ℕ) → Env
resolved items y last = record {
  core = Small;
  flash = [];
  word_of = label_word items;
  address_of = address_of y last;
  far_of = far_of y last;
  base = 65536;
  kind = λ a. Barred;
  table = λ a. Barred;
}

-- an instruction of the table, and registers, flags and parts in range
abbrev pub has_words : AsmItem → Bool
has_words (Plain i) = in_table i
has_words (Label l) = true
has_words (JumpTo l) = true
has_words (CallTo l) = true
has_words (BranchTo set flag l) = nat_lt flag 8
has_words (LoadPart d o k part) = nat_le 16 d && nat_lt d 32 && nat_le part 2
has_words (LoadObj d o k) = nat_lt d 32
has_words (StoreObj o k r) = nat_lt r 32

-- a list with other items from an index on, as far as it goes
abbrev pub overwritten : {X : Type 0} → List X → ℕ → List X → List X
overwritten xs at [] = xs
overwritten xs at (y ∷ ys) = overwritten (slice_set xs at y) (at + 1) ys
