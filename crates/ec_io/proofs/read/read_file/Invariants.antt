use Rattle.std.proofs.Common.{length, ◌-◌, ◌≡◌, ◌≤◌, ◌<◌, ℕ, List, Some}
use Rattle.std.specs.Prelude.{Contains}
use Rattle.ec_io.specs.Causes.{Counted}
use Rattle.ec_io.specs.Disk.{known_name}
use Rattle.ec_io.proofs.Reading.{ReadSoFar}
use Rattle.ec_io.proofs.read.read_file.Given as goal

abbrev pub invariant-more : goal.invariant-more
invariant-more g l = record {
  within : length l.bytes.items < l.most;
  told : ReadSoFar l.name (g.S.Store.disk l.fn.store) (g.S.Store.disk l.store) l.bytes.items;
  received : Counted (g.S.Store.received l.fn.store) (g.S.Store.received l.store) (length l.bytes.items);
  later : g.S.Store.read_faults l.fn.store ≤ g.S.Store.read_faults l.store;
  write_faults : g.S.Store.write_faults l.store ≡ g.S.Store.write_faults l.fn.store;
  writing : g.S.Store.writing l.store ≡ g.S.Store.writing l.fn.store;
  reading : g.S.Store.reading l.store ≡ Some (known_name l.name);
  calm : (names : List (List ℕ)) (made : List ℕ) (room : ℕ) → g.S.Store.calm l.fn.store names made room → Contains names l.name
      → (g.S.Store.read_faults l.store ≡ g.S.Store.read_faults l.fn.store) × g.S.Store.calm l.store names made room;
}

abbrev pub decreases-more : goal.decreases-more
decreases-more g l = l.most - length l.bytes.items
