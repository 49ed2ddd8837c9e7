use Rattle.std.proofs.Common.{◌≡◌, ◌-◌, ◌≤◌, ◌++◌, length, drop}
use Rattle.ec_hex.specs.Text.{contents}
use Rattle.ec_list.specs.Lines.{text_of}
use Rattle.ec_list.specs.Lists.{listing}
use Rattle.ec_list.specs.Walking.{lines_from}
use Rattle.ec_list.proofs.listing.list_bytes.Given as goal

abbrev pub invariant-items : goal.invariant-items
invariant-items l = record {
  within : l.at ≤ length l.bytes;
  listed : l.out.items ++ text_of (lines_from l.at 0 (drop l.at (contents l.bytes l.written))) ≡ listing l.bytes l.written;
}

abbrev pub decreases-items : goal.decreases-items
decreases-items l = length l.bytes - l.at
