-- Bytes of objects that are named by slots.
use Rattle.std.specs.Prelude.{◌≡◌, ◌+◌, ◌<◌, ◌≤◌, ◌^◌, ◌⊎◌}
use Rattle.ec_asm.specs.declared.items.Slot.{Slot}
use Rattle.ec_asm.specs.declared.pieces.Location.{Location}
use Rattle.ec_asm.specs.declared.pieces.Location.TheVariants.{InMemory}

-- the offsets of its bytes, and of its end, are numbers of 32 bits
abbrev pub IsSlot : Slot → Type 0
IsSlot s = s.at + s.bytes < 2 ^ 32

-- two slots have no byte in common
abbrev pub ShareNoByte : Slot → Slot → Type 0
ShareNoByte s t = s.object ≡ t.object → (s.at + s.bytes ≤ t.at) ⊎ (t.at + t.bytes ≤ s.at)

abbrev pub place_of : Slot → Location
place_of s = InMemory s.object s.at
