use Rattle.std.proofs.Common.{refl, inr}
use Rattle.ec_list.specs.Lists.{listing}
use Rattle.ec_commands_list.proofs.Printed.{listed, cut}
use Rattle.ec_commands_list.proofs.listing.list.Goals as goal

pub returns-in-Ok-write_all-clause-listed : goal.returns-in-Ok-write_all-clause-listed
returns-in-Ok-write_all-clause-listed g c =
    listed c.args.words.now.items c.args.core _ _ c.in-Ok.text.items c.in-Ok.ensures.made
    (rw c.as_slice.ensures at c.in-Ok-write_all.ensures.written)

pub returns-clause-stopped : goal.returns-clause-stopped
returns-clause-stopped g c =
    let made = c.in-Ok.ensures.made in
    inr (
      refl,
      (
        c.in-Err-write_all.ensures.cause.failed,
        (
          made.0,
          (
            c.in-Err-write_all.field-0.0,
            cut (g.O.Sink.written c.args.out.now) (g.O.Sink.written c.write_all.new.sink) c.in-Err-write_all.field-0.0
                c.in-Ok.text.items (listing made.0.bytes made.0.written) made.1.0
                (rw c.as_slice.ensures at c.in-Err-write_all.ensures.written.1),
          ),
        ),
      ),
    )
