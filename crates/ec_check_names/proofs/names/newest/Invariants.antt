use Rattle.std.proofs.Common.{◌≡◌, drop, map}
use Rattle.std.specs.Prelude.{option_map}
use Rattle.std.specs.Option.{option_copied}
use Rattle.ec_check_names.specs.Names.{plain_named, plain_entry, newest, newest_from}
use Rattle.ec_check_names.proofs.names.newest.Given as goal

abbrev pub invariant-loop-entry : goal.invariant-loop-entry
invariant-loop-entry l = newest_from (option_map plain_named (option_copied l.best)) l.name.items
    (map plain_entry (drop l.entry-index l.entries)) ≡ newest l.name.items (map plain_entry l.entries)
