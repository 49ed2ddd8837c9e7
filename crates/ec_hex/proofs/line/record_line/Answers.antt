use Rattle.std.proofs.Common.{◌/◌, ◌%◌, ℕ, length, ap, arith, length-append}
use Rattle.ec_hex.specs.Text.{checksum, code_of, fields}
use Rattle.ec_hex.proofs.Bytes.{length-digits_of, line-parts}
use Rattle.ec_hex.proofs.line.record_line.Goals as goal

pub push_bytes-requires-3 : goal.push_bytes-requires-3
push_bytes-requires-3 c =
    omega (
      arith,
      ap length c.push_bytes-2.ensures,
      ap length c.push_bytes.ensures,
      ap length c.push.ensures,
      ap length c.new-line.ensures,
      length-append {A = ℕ},
      length-digits_of,
      c.requires,
    )

pub push-requires-2 : goal.push-requires-2
push-requires-2 c =
    omega (
      arith,
      ap length c.push_bytes-3.ensures,
      ap length c.push_bytes-2.ensures,
      ap length c.push_bytes.ensures,
      ap length c.push.ensures,
      ap length c.new-line.ensures,
      length-append {A = ℕ},
      length-digits_of,
      c.requires,
    )

pub returns : goal.returns
returns c =
    rw (
      c.push-2.ensures,
      c.push_bytes-3.ensures,
      c.push_bytes-2.ensures,
      c.push_bytes.ensures,
      c.push.ensures,
      c.new-line.ensures,
      c.checksum.ensures,
      c.code.ensures,
    )
    (line-parts (length c.args.bytes.now) (c.args.offset / 256) (c.args.offset % 256) (code_of c.args.kind)
    (checksum (fields c.args.kind c.args.offset c.args.bytes.now)) c.args.bytes.now)
