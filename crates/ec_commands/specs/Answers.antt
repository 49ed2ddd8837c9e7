-- What a command answers: a status, and the line of a stop.
use Rattle.std.specs.Prelude.{ℕ, ◌≤◌, ◌≡◌, ◌⊎◌, List, length}
use Rattle.ec_io.specs.Views.{StoreView, SinkCall}
use Rattle.ec_commands.specs.Tells.{Tells}

-- the status is this number, and `err` received this line, the whole of it where no write failed, as over a calm sink
pub record IsTold (number : ℕ) (text : List ℕ) (err : SinkCall) (calm : ℕ → Type 0) (status : ℕ) : Type 0 where
  pub is : status ≡ number
  pub line : Tells err.before err.after err.faults_before err.faults_after text
  pub unfailing : (room : ℕ) → calm room → length text ≤ room → err.faults_after ≡ err.faults_before

-- 0 where the work was done, and else the status of a stop that has its cause and was told by its line
abbrev pub Answers : {Stop : Type 0} → (Stop → ℕ) → (Stop → List ℕ) → SinkCall → (ℕ → Type 0) → Type 0 → (Stop → Type 0)
    → ℕ → Type 0
Answers {Stop} status_of line_of err calm done stops status =
    ((status ≡ 0) × done)
    ⊎ ((stop : Stop) × (IsTold (status_of stop) (line_of stop) err calm status × stops stop))

-- no count of a store's faults rose
abbrev pub NoFault : StoreView → StoreView → Type 0
NoFault old new = (new.read_faults ≡ old.read_faults) × (new.write_faults ≡ old.write_faults)

-- out of memory, or how a run that was made ends: at a fault of the machine, or after its steps
abbrev pub IsLeft : ℕ → Type 0
IsLeft status = (status ≡ 11) ⊎ ((status ≡ 13) ⊎ (status ≡ 14))
