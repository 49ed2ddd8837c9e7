use Rattle.std.proofs.Common.{◌≡◌, ◌+◌, ◌≤◌, length, take, drop}
use Rattle.ec_hex.specs.Reading.{HasRead}
use Rattle.ec_hex.specs.Stops.{readings_of}
use Rattle.ec_hex.proofs.read.read_hex.Given as goal

abbrev pub invariant-lines : goal.invariant-lines
invariant-lines l = record {
  core : l.reader.image.core ≡ l.fn.core;
  counted : l.line + length l.rest ≤ length l.bytes.items;
  left : drop l.line (readings_of l.bytes.items) ≡ readings_of l.rest;
  read : HasRead (take l.line (readings_of l.bytes.items)) l.reader;
}

abbrev pub decreases-lines : goal.decreases-lines
decreases-lines l = length l.rest
