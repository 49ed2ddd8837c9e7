use Rattle.std.proofs.Common.{◌∙◌}
use Rattle.ec_io.specs.MemFiles.{Names}
use Rattle.ec_io.proofs.Named.{bytes_told}
use Rattle.ec_io.proofs.mem_store.MemStore.file.Goals as goal

pub returns-in-Some : goal.returns-in-Some
returns-in-Some c =
    rw (← c.self.view_is)
    (let named : Names c.self.inside.files.items c.self.inside.made c.self.inside.stands c.args.name.now c.in-Some.source =
    rw (c.as_slice.ensures, c.as_bytes.ensures.value) at c.in-Some.ensures in
    c.source_bytes.ensures ∙ rw c.as_slice-in-Some.ensures (bytes_told _ c.self.inside.made _ _ c.in-Some.source named))
