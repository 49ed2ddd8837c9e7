use Rattle.std.proofs.Common.{◌∙◌, sym, subst}
use Rattle.std.proofs.lemmas.Result.{on_ok_weaker}
use Rattle.ec_check_file_scope.specs.FileNames.{FileName, plain_file_name}
use Rattle.ec_check_file_scope.specs.Groups.{AddsTo}
use Rattle.ec_check_file_scope.proofs.Grouped.{note_told, note_added}
use Rattle.ec_check_file_scope.proofs.file_table.note.Goals as goal

pub returns-then-is_told-clause-ok : goal.returns-then-is_told-clause-ok
returns-then-is_told-clause-ok c =
    note_told c.types_are_told.ensures (plain_file_name c.args.d.now) c.args.groups.now.entries
    (sym c.is_told.ensures ∙ c.if-is_told.true)

pub returns-clause-ok : goal.returns-clause-ok
returns-clause-ok c =
    let es = c.args.groups.now.entries in
    let new = c.add.new.groups.entries in
    on_ok_weaker c.add.result
    (λ adds. note_added (plain_file_name c.args.d.now) es new
    (subst (λ (d : FileName). AddsTo d es new) c.in_ok-copy.ensures.same adds)) c.add.ensures.ok
