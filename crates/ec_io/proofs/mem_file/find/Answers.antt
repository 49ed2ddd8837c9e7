use Rattle.std.proofs.Common.{◌∙◌, List, ap, sym}
use Rattle.std.specs.Prelude.{bytes_eq}
use Rattle.std.proofs.lemmas.List.{drop_all}
use Rattle.std.specs.FinMap.{get, get-empty}
use Rattle.ec_io.specs.MemFiles.{files_of}
use Rattle.ec_io.specs.declared.mem_file.MemFile.{MemFile}
use Rattle.ec_io.proofs.Named.{found_at, skipped_at}
use Rattle.ec_io.proofs.mem_file.find.Goals as goal

pub returns-then-eq : goal.returns-then-eq
returns-then-eq c =
    found_at _ _ c.index-files-i.result _ c.loop-i-test.true c.index-files-i.is c.loop-i.invariant
    (ap (λ (xs : List _). bytes_eq c.args.name.now xs) (sym c.as_slice.ensures) ∙ sym c.eq.ensures ∙ c.if-eq.true)

pub loop-i-preserved : goal.loop-i-preserved
loop-i-preserved c =
    skipped_at _ _ c.index-files-i.result _ c.loop-i-test.true c.index-files-i.is c.loop-i.invariant
    (ap (λ (xs : List _). bytes_eq c.args.name.now xs) (sym c.as_slice.ensures) ∙ sym c.eq.ensures ∙ c.if-eq.false)

pub returns : goal.returns
returns c =
    c.loop-i.invariant ∙ ap (λ (fs : List MemFile). get (files_of fs) c.args.name.now)
    (drop_all c.loop-i.i c.args.files.now c.loop-i-test.false) ∙ get-empty _ _
