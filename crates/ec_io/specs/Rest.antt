-- What stands beside a sink and stays: a name and other files, counts, and which reference the sink holds.
use Rattle.std.specs.Prelude.{ℕ, List, Option, Some, None, option_map}
use Rattle.std.specs.Borrow.{GName}
use Rattle.std.specs.FinMap.{remove}
use Rattle.ec_io.specs.Disk.{Files, Disk, content}

pub record Rest : Type 0 where
  -- the name of the file that the sink writes
  pub name : Option (List ℕ)
  -- the files beside it
  pub others : Option Files
  -- how often the store beside it failed to read, and how many bytes its reads gave
  pub counts : Option (ℕ × ℕ)
  -- the reference through which the sink writes
  pub held : Option GName

-- nothing stands beside the sink
abbrev pub no_rest : Rest
no_rest = record { name = None; others = None; counts = None; held = None }

-- what the file that is written holds
abbrev pub written_of : Option Disk → Option (List ℕ)
written_of None = None
written_of (Some disk) = option_map (content disk.files) disk.output

-- the name of the file that is written, all other files, and the counts of the reads
abbrev pub rest_of : Option Disk → ℕ × ℕ → GName → Rest
rest_of None counts held = record { name = None; others = None; counts = Some counts; held = Some held }
rest_of (Some disk) counts held =
    record {
      name = disk.output;
      others = option_map (remove disk.files) disk.output;
      counts = Some counts;
      held = Some held;
    }
