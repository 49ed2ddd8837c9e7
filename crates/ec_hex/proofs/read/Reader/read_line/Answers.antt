use Rattle.std.proofs.Common.{◌≡◌, ◌∙◌, ℕ, List, [], Some, refl, ap, arith}
use Rattle.std.proofs.lemmas.List.{nil_from_length}
use Rattle.ec_hex.specs.Record.{Empty, reading_of}
use Rattle.ec_hex.proofs.Taken.{read_past}
use Rattle.ec_hex.proofs.read.Reader.read_line.Goals as goal

pub returns-in-empty-clause-reads : goal.returns-in-empty-clause-reads
returns-in-empty-clause-reads c = λ readings n place at read.
    let none : c.args.text.now ≡ [] = nil_from_length c.args.text.now (omega arith) in
    read_past readings n Empty _ _ (at ∙ ap (λ (text : List ℕ). Some (reading_of text)) none) refl read refl refl refl
