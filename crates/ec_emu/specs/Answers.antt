-- What the ports of a run are asked, and what they answer.
use Rattle.std.specs.Prelude.{ℕ, ◌<◌, ◌^◌, ◌≡◌, ◌⊎◌, Bool, true, false, List, [], ◌∷◌, ◌++◌, Option, Some, None}
use Rattle.std.specs.Prelude.{slice_index}
use Rattle.ec_emu.specs.declared.ask.Ask.{Ask}
use Rattle.std.specs.Prelude.{◌+◌, ◌==◌, if◌then◌else◌, take, slice_get}
use Rattle.ec_avr.specs.declared.machine.Access.{Access}
use Rattle.ec_avr.specs.declared.machine.Access.TheVariants.{In, Out}
use Rattle.ec_avr.specs.Inputs.{reads_of}

-- an ask that can be made
pub record IsAsk (ask : Ask) : Type 0 where
  pub port : ask.port < 256
  pub index : ask.index < 2 ^ 32
  pub last : ask.last < 256

-- an ask and the byte that was answered at it
pub record Answered : Type 0 where
  pub ask : Ask
  pub byte : ℕ

abbrev pub answered : Ask → ℕ → Answered
answered ask byte = record { ask = ask; byte = byte }

-- Ports that tell what they were asked were asked this besides, and nothing else, or they tell no more. Those that do
-- not tell never do again
abbrev pub WereAsked : Option (List Answered) → Option (List Answered) → List Answered → Type 0
WereAsked None new asks = new ≡ None
WereAsked (Some old) new asks = (new ≡ None) ⊎ (new ≡ Some (old ++ asks))

-- Where there is an ask, ports were asked it once, and the byte may be answered. Where there is none they were not
-- asked, and there is no byte
abbrev pub AnswersAsk : (gives : Ask → ℕ → Type 0) (old new : Option (List Answered)) → Option Ask → Option ℕ → Type 0
AnswersAsk gives old new None None = WereAsked old new []
AnswersAsk gives old new (Some ask) (Some byte) = gives ask byte × WereAsked old new (answered ask byte ∷ [])
AnswersAsk gives old new ask byte = ⊥

-- what a script's line says of the ask at an index: nothing on a hooked port, and else the byte at that place of its
-- list, 0 past its end
abbrev pub IsListed : (hook : Bool) (bytes : List ℕ) (index : ℕ) → Option ℕ → Type 0
IsListed hook bytes index None = hook ≡ true
IsListed hook bytes index (Some byte) = (hook ≡ false) × (byte ≡ slice_index bytes index)

-- the byte that some accesses write to a port last, and another where they write none
abbrev pub last_written : ℕ → ℕ → List Access → ℕ
last_written byte port [] = byte
last_written byte port (Out p new ∷ trace) = last_written (if p == port then new else byte) port trace
last_written byte port (_ ∷ trace) = last_written byte port trace

-- the ask of a read of a port after some accesses
abbrev pub ask_after : List Access → ℕ → Ask
ask_after before port = record { port = port; index = reads_of port before; last = last_written 0 port before }

-- each byte that the accesses read may be answered at its ask
abbrev pub AreGiven : (Ask → ℕ → Type 0) → List Access → Type 0
AreGiven gives trace =
    (n port byte : ℕ) → slice_get trace n ≡ Some (In port byte) → gives (ask_after (take n trace) port) byte

-- the asks of the reads among some accesses, one each and in order, where others came before
abbrev pub asks_after : List Access → List Access → List Answered
asks_after before [] = []
asks_after before (In port byte ∷ trace) =
    answered (ask_after before port) byte ∷ asks_after (before ++ In port byte ∷ []) trace
asks_after before (a ∷ trace) = asks_after (before ++ a ∷ []) trace

abbrev pub asks_of : List Access → List Answered
asks_of trace = asks_after [] trace

-- how many accesses read or write a port
abbrev pub reads_in : List Access → ℕ
reads_in [] = 0
reads_in (In port byte ∷ trace) = 1 + reads_in trace
reads_in (_ ∷ trace) = reads_in trace

abbrev pub writes_in : List Access → ℕ
writes_in [] = 0
writes_in (Out port byte ∷ trace) = 1 + writes_in trace
writes_in (_ ∷ trace) = writes_in trace
