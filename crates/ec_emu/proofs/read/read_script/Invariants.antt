use Rattle.std.proofs.Common.{◌≡◌, ◌+◌, ◌≤◌, not, length, take, drop, map}
use Rattle.std.specs.List.{list_all}
use Rattle.ec_emu.specs.Script.{AreKept, entries, entry_of, forms_of, is_passed}
use Rattle.ec_emu.proofs.read.read_script.Given as goal

abbrev pub invariant-lines : goal.invariant-lines
invariant-lines l = record {
  counted : l.line + length l.rest ≤ length l.bytes.items;
  left : drop l.line (forms_of l.bytes.items) ≡ forms_of l.rest;
  kept : AreKept l.fn.core (take l.line (forms_of l.bytes.items));
  listed : map entry_of l.lines.items ≡ entries (take l.line (forms_of l.bytes.items));
  begun : l.begun ≡ not (list_all is_passed (take l.line (forms_of l.bytes.items)));
}

abbrev pub decreases-lines : goal.decreases-lines
decreases-lines l = length l.rest
