use Rattle.std.proofs.Common.{◌∙◌, List, ap, sym}
use Rattle.std.specs.Prelude.{bytes_eq}
use Rattle.ec_io.proofs.Named.{told_other}
use Rattle.ec_io.proofs.mem_file.source_of.Goals as goal

pub returns : goal.returns
returns c =
    rw c.if-not-stands.false
    (told_other _ c.args.made.now _ c.find-2.result
    (ap (λ (xs : List _). bytes_eq c.args.name.now xs) (sym c.as_slice.ensures) ∙ sym c.eq.ensures ∙ c.if-eq.false) c.find-2.ensures)
