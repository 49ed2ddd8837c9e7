-- Stores and sinks in memory, whose calls fail by their numbers and by the room that is left.
use Rattle.std.specs.Prelude.{ℕ, ◌≤◌, ◌<◌, ◌≡◌, ◌==◌, Bool, List, Option, None, IsSome, Contains, refl}
use Rattle.std.specs.List.{list_any}
use Rattle.std.specs.Coded.{Coded, code_by, coded×, coded_ℕ, coded_list, coded_option}
use Rattle.std.specs.FinMap.{get, code}
use Rattle.ec_io.specs.Causes.{greatest}
use Rattle.ec_io.specs.Disk.{Files, Disk}
pub use Rattle.ec_io.specs.Counts.{next_call}

-- the list has the number of the next call
abbrev pub is_due : List ℕ → ℕ → Bool
is_due fail calls = list_any (λ k. k == next_call calls) fail

-- the list has no number that can still come
abbrev pub IsPast : List ℕ → ℕ → Type 0
IsPast fail calls = (k : ℕ) → Contains fail k → (k ≤ calls) × (k < greatest)

-- what a sink in memory holds
pub record Kept : Type 0 where
  pub text : List ℕ
  -- the bytes that it still takes
  pub room : ℕ
  -- the numbers of the calls that fail
  pub fail : List ℕ
  pub calls : ℕ
  pub faults : ℕ

abbrev pub kept_code : Coded Kept
kept_code =
    code_by (List ℕ × (ℕ × (List ℕ × (ℕ × ℕ))))
    (coded× (coded_list coded_ℕ) (coded× coded_ℕ (coded× (coded_list coded_ℕ) (coded× coded_ℕ coded_ℕ))))
    (λ s. (s.text, (s.room, (s.fail, (s.calls, s.faults)))))
    (λ p. record { text = p.0; room = p.1.0; fail = p.1.1.0; calls = p.1.1.1.0; faults = p.1.1.1.1 }) (λ _. refl)

-- no later write fails whose bytes fit the room
pub record IsCalmSink (s : Kept) (room : ℕ) : Type 0 where
  pub fits : room ≤ s.room
  pub count : s.faults < greatest
  pub past : IsPast s.fail s.calls

-- what a store in memory holds
pub record Stored : Type 0 where
  pub disk : Disk
  -- the one name that it creates
  pub made : List ℕ
  -- the bytes that its writes still take together
  pub room : ℕ
  -- the numbers of the calls that fail
  pub fail : List ℕ
  pub calls : ℕ
  -- how often opening or reading failed, and creating or writing
  pub read_faults : ℕ
  pub write_faults : ℕ
  pub received : ℕ
  -- the name of the file whose opening or reading failed last
  pub missed : Option (List ℕ)

abbrev pub disk_code : Coded Disk
disk_code =
    code_by (Files × (Option (List ℕ × ℕ) × Option (List ℕ)))
    (coded× (code (coded_list coded_ℕ) (coded_list coded_ℕ))
    (coded× (coded_option (coded× (coded_list coded_ℕ) coded_ℕ)) (coded_option (coded_list coded_ℕ))))
    (λ d. (d.files, (d.input, d.output))) (λ p. record { files = p.0; input = p.1.0; output = p.1.1 }) (λ _. refl)

abbrev pub stored_code : Coded Stored
stored_code =
    code_by (Disk × (List ℕ × (ℕ × (List ℕ × (ℕ × (ℕ × (ℕ × (ℕ × Option (List ℕ)))))))))
    (coded× disk_code (coded× (coded_list coded_ℕ) (coded× coded_ℕ (coded× (coded_list coded_ℕ)
    (coded× coded_ℕ (coded× coded_ℕ (coded× coded_ℕ (coded× coded_ℕ (coded_option (coded_list coded_ℕ))))))))))
    (λ s. (
      s.disk,
      (s.made, (s.room, (s.fail, (s.calls, (s.read_faults, (s.write_faults, (s.received, s.missed))))))),
    ))
    (λ p. record {
      disk = p.0;
      made = p.1.0;
      room = p.1.1.0;
      fail = p.1.1.1.0;
      calls = p.1.1.1.1.0;
      read_faults = p.1.1.1.1.1.0;
      write_faults = p.1.1.1.1.1.1.0;
      received = p.1.1.1.1.1.1.1.0;
      missed = p.1.1.1.1.1.1.1.1;
    })
    (λ _. refl)

-- before the first call
abbrev pub fresh_store : Files → List ℕ → ℕ → List ℕ → Stored
fresh_store files made room fail =
    record {
      disk = record { files = files; input = None; output = None };
      made = made;
      room = room;
      fail = fail;
      calls = 0;
      read_faults = 0;
      write_faults = 0;
      received = 0;
      missed = None;
    }

-- no later call fails that opens one of these names, reads or writes with a file opened for it, or creates this file,
-- as long as the bytes fit the room
pub record IsCalmStore (s : Stored) (names : List (List ℕ)) (made : List ℕ) (room : ℕ) : Type 0 where
  pub there : (name : List ℕ) → Contains names name → IsSome (get s.disk.files name)
  pub own : made ≡ s.made
  pub fits : room ≤ s.room
  pub counts : (s.read_faults < greatest) × (s.write_faults < greatest)
  pub past : IsPast s.fail s.calls

-- what every call of a store in memory does: it counts, and keeps its list and the name that it creates
pub record IsCounted (old new : Stored) : Type 0 where
  pub made : new.made ≡ old.made
  pub fail : new.fail ≡ old.fail
  pub calls : new.calls ≡ next_call old.calls
