use Rattle.std.proofs.Common.{◌∙◌, sym}
use Rattle.ec_list.proofs.Walk.{byte_written, byte_unwritten}
use Rattle.ec_list.proofs.listing.byte_in.Goals as goal

pub returns-then-is_written : goal.returns-then-is_written
returns-then-is_written c = c.byte_at-byte.ensures ∙ sym (byte_written c.args.bytes.now c.args.written.now c.args.k
    c.is_written.result c.is_written.ensures c.if-is_written.true)

pub returns-else-is_written : goal.returns-else-is_written
returns-else-is_written c = sym (byte_unwritten c.args.bytes.now c.args.written.now c.args.k c.is_written.result
    c.is_written.ensures c.if-is_written.false)
