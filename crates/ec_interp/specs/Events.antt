-- The events of a run as those of the meaning, and how many bytes of ports they read.
use Rattle.std.specs.Prelude.{ℕ, ◌≡◌, ◌<◌, List, slice_index}
use Rattle.ec_core.specs.declared.programs.LeafInit.{LeafInit}
use Rattle.ec_core.specs.declared.programs.LeafInit.TheVariants.{Number as TheNumber, Null as TheNull}
use Rattle.ec_core.specs.declared.programs.LeafInit.TheVariants.{Address as TheAddress}
use Rattle.ec_core.specs.State.{Event as EventOf, In as InOf, Out as OutOf, Read as ReadOf, Write as WriteOf, reads_of}
use Rattle.ec_interp.specs.declared.behaviour.Event.{Event}
use Rattle.ec_interp.specs.declared.behaviour.Event.TheVariants.{In, Out, Read, Write}
use Rattle.ec_interp.specs.declared.behaviour.Told.{Told}
use Rattle.ec_interp.specs.declared.behaviour.Told.TheVariants.{Number, Null, Address}

abbrev pub seen_told : Told → LeafInit
seen_told (Number n) = TheNumber n
seen_told Null = TheNull
seen_told (Address object offset) = TheAddress object offset

abbrev pub seen_event : Event → EventOf
seen_event (In port byte) = InOf port byte
seen_event (Out port byte) = OutOf port byte
seen_event (Read object leaf space value) = ReadOf object leaf space (seen_told value)
seen_event (Write object leaf space value) = WriteOf object leaf space (seen_told value)

-- for each port address below 256 how many bytes of it the events read
abbrev pub AreCounted : List ℕ → List EventOf → Type 0
AreCounted reads events = (port : ℕ) → port < 256 → slice_index reads port ≡ reads_of port events
