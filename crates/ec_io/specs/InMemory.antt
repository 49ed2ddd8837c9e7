-- What the fields of a store in memory stand for, and what they keep.
use Rattle.std.specs.Prelude.{ℕ, ◌≡◌, ◌≤◌, List, [], Bool, true, false, if◌then◌else◌, Option, Some, None, IfSome}
use Rattle.std.specs.Prelude.{option_map, unwrap_or}
use Rattle.std.specs.FinMap.{get}
use Rattle.ec_io.specs.MemFiles.{files_of, told_files, name_of as source_name, Names}
use Rattle.ec_io.specs.KnownNames.{name_of}
use Rattle.ec_io.specs.Memory.{Stored}
use Rattle.ec_io.specs.declared.mem_file.MemFile.{MemFile}
use Rattle.ec_io.specs.declared.mem_store.Place.{Place}
use Rattle.ec_io.specs.declared.mem_store.MemStore.TheInside.{Inside}

-- the name of the file that is read, and how many of its bytes were read
abbrev pub input_of : List MemFile → MemFile → Option Place → Option (List ℕ × ℕ)
input_of files made input = option_map (λ p. (unwrap_or (source_name files made p.source) [], p.at)) input

abbrev pub stored_of : Inside → Stored
stored_of s = record {
  disk = record {
    files = told_files s.files.items s.made s.stands;
    input = input_of s.files.items s.made s.input;
    output = if s.writing then Some s.made.name.items else None;
  };
  made = s.made.name.items;
  room = s.room;
  fail = s.schedule.fail.items;
  calls = s.schedule.calls;
  read_faults = s.read_faults;
  write_faults = s.write_faults;
  received = s.received;
  missed = option_map name_of s.missed;
}

-- the file that is read is one of those that stand
abbrev pub IsPlace : List MemFile → MemFile → Bool → Place → Type 0
IsPlace files made stands place = Names files made stands (unwrap_or (source_name files made place.source) []) place.source

pub record IsKept (s : Inside) : Type 0 where
  -- the created file takes as many bytes as there is room for
  pub room : s.room ≤ s.made.bytes.spare
  -- a file that is written stands
  pub written : s.writing ≡ true → s.stands ≡ true
  -- a file that does not stand is not in the list
  pub absent : s.stands ≡ false → get (files_of s.files.items) s.made.name.items ≡ None
  pub input : IfSome s.input (IsPlace s.files.items s.made s.stands)
