use Rattle.std.proofs.Common.{◌≡◌, [], ap, refl}
use Rattle.std.specs.Prelude.{unwrap_or, is_some}
use Rattle.std.specs.FinMap.{get}
use Rattle.ec_io.specs.Disk.{Files}
use Rattle.ec_io.specs.Memory.{fresh_store}
use Rattle.ec_io.specs.MemFiles.{files_of}
use Rattle.ec_io.proofs.Named.{told_given}
use Rattle.ec_io.proofs.mem_store.MemStore.new.Goals as goal

pub returns : goal.returns
returns c =
    let found = get (files_of c.args.files.items) c.args.made.items in
    let stands : c.is_given-stands.result ≡ is_some found = rw (c.as_slice.ensures, c.as_slice-2.ensures) at c.is_given-stands.ensures in
    let bytes : c.in_ok-bytes.bytes.items ≡ unwrap_or found [] =
    rw (c.as_slice-3.ensures, c.as_slice-4.ensures) at c.in_ok-bytes.ensures.bytes in
    rw c.new.ensures
    (ap (λ (files : Files). fresh_store files c.args.made.items c.args.room c.args.fail.items)
    (told_given c.args.files.items (record { name = c.args.made; bytes = c.in_ok-bytes.bytes }) _ found refl stands bytes))
