use Rattle.std.proofs.Common.{◌≡◌, ℕ, ◌+◌, ◌*◌, ◌≤◌, List, length, take}
use Rattle.std.specs.Prelude.{All, Contains}
use Rattle.ec_io.specs.Causes.{Counted}
use Rattle.ec_commands.specs.Shown.{KeepsAll, Told}
use Rattle.ec_commands.specs.Sources.{texts, HoldTexts, AreWithin}
use Rattle.ec_commands.specs.Words.{names_from}
use Rattle.ec_commands.proofs.sources.read_sources.Given as goal

-- the sources so far were read, and are within their limits
abbrev pub invariant-loop-i : goal.invariant-loop-i
invariant-loop-i g l =
    let names = names_from l.words.items l.first in
    let so_far = texts l.sources.items in
    record {
      place : l.i ≡ l.first + length so_far;
      files : KeepsAll (g.S.Store.disk l.fn.store) (g.S.Store.disk l.store);
      told : Told (HoldTexts (take (length so_far) names) so_far) (g.S.Store.disk l.fn.store);
      before : Told (AreWithin l.words.items l.first l.i) (g.S.Store.disk l.fn.store);
      within : All (λ text. length text ≤ 65536) so_far;
      received : (n : ℕ) × ((n ≤ 65536 * length so_far) × Counted (g.S.Store.received l.fn.store) (g.S.Store.received l.store) n);
      later : g.S.Store.read_faults l.fn.store ≤ g.S.Store.read_faults l.store;
      write_faults : g.S.Store.write_faults l.store ≡ g.S.Store.write_faults l.fn.store;
      writing : g.S.Store.writing l.store ≡ g.S.Store.writing l.fn.store;
      calm : (all : List (List ℕ)) (made : List ℕ) (room : ℕ) → g.S.Store.calm l.fn.store all made room
          → ((name : List ℕ) → Contains names name → Contains all name)
          → (g.S.Store.read_faults l.store ≡ g.S.Store.read_faults l.fn.store) × g.S.Store.calm l.store all made room;
    }
