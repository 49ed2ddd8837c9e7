-- What a store and a sink show of themselves.
use Rattle.std.specs.Prelude.{ℕ, List, Option}
use Rattle.ec_io.specs.Disk.{Disk}

-- a store's files and places, where it tells them, its counts, and which file was not read last
pub record StoreView : Type 0 where
  pub disk : Option Disk
  pub read_faults : ℕ
  pub write_faults : ℕ
  pub received : ℕ
  pub missed : Option (List ℕ)

abbrev pub store_view : Option Disk → ℕ → ℕ → ℕ → Option (List ℕ) → StoreView
store_view disk read_faults write_faults received missed =
    record {
      disk = disk;
      read_faults = read_faults;
      write_faults = write_faults;
      received = received;
      missed = missed;
    }

-- what a sink had received before a call and after it, where it tells, and its counts of faults then
pub record SinkCall : Type 0 where
  pub before : Option (List ℕ)
  pub after : Option (List ℕ)
  pub faults_before : ℕ
  pub faults_after : ℕ

abbrev pub sink_call : Option (List ℕ) → Option (List ℕ) → ℕ → ℕ → SinkCall
sink_call before after faults_before faults_after =
    record { before = before; after = after; faults_before = faults_before; faults_after = faults_after }
