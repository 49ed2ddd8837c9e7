use Rattle.std.proofs.Common.{◌≡◌, drop}
use Rattle.std.specs.FinMap.{get}
use Rattle.ec_io.specs.MemFiles.{files_of}
use Rattle.ec_io.proofs.mem_file.find.Given as goal

abbrev pub invariant-loop-i : goal.invariant-loop-i
invariant-loop-i l = get (files_of l.files) l.name ≡ get (files_of (drop l.i l.files)) l.name
