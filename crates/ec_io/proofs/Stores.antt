-- Calls on a store in memory.
use Rattle.std.proofs.Common.{◌≡◌, ◌≤◌, ◌-◌, ◌∙◌, ℕ, Bool, true, false, List, ◌||◌, not, min, length, take, drop, Some, refl, sym, arith}
use Rattle.std.specs.Prelude.{IsSome}
use Rattle.std.specs.FinMap.{get}
use Rattle.ec_io.specs.Calls.{ReadsOn}
use Rattle.ec_io.specs.Disk.{Disk, content, read_on}
use Rattle.ec_io.specs.Memory.{Stored, IsCalmStore, IsCounted}
use Rattle.ec_io.proofs.Schedules.{past_on}

-- a call that is not due goes on where it may
pub goes : (due there : Bool) → due ≡ false → there ≡ true → false ≡ (due || not there)
goes due there not_due here = rw (not_due, here) refl

-- a calm store is calm after a call that counts, keeps its files and adds no fault
pub calm_on : (old new : Stored) (names : List (List ℕ)) (made : List ℕ) (room left : ℕ) → IsCalmStore old names made room
    → IsCounted old new
    → ((name : List ℕ) → IsSome (get old.disk.files name) → IsSome (get new.disk.files name)) → new.read_faults ≡ old.read_faults
    → new.write_faults ≡ old.write_faults → left ≤ new.room
    → IsCalmStore new names made left
calm_on old new names made room left calm counted files read written fits = record {
  there = λ name among. files name (calm.there name among);
  own = calm.own ∙ sym counted.made;
  fits = fits;
  counts = rw (read, written) calm.counts;
  past = rw (counted.fail, counted.calls) (past_on old.fail old.calls calm.past);
}

pub reads_on : (disk : Disk) (bytes buf name : List ℕ) (at n : ℕ) → content disk.files name ≡ bytes
    → n ≡ min (length buf) (length bytes - at)
    → take n buf ≡ take n (drop at bytes) → ReadsOn disk (Some (read_on (name, at) n disk)) n buf (name, at)
reads_on disk bytes buf name at n held most front = record {
  bytes = rw held front;
  within = rw held (omega arith);
  ended = λ none some. rw held (omega arith);
  moved = refl;
}
