-- What `check` answers is a valid program.
use Rattle.std.proofs.Common.{◌≤◌, List, length}
use Rattle.std.specs.Prelude.{Result, Ok, Err, IfOk}
use Rattle.ec_grammar.specs.Trees.{Tree}
use Rattle.ec_iohw.specs.declared.table.IoTable.{IoTable}
use Rattle.ec_iohw.specs.Valid.{ValidIo}
use Rattle.ec_core.specs.declared.programs.Program.{Program}
use Rattle.ec_core.specs.Plain.{plain_program}
use Rattle.ec_core.specs.Valid.{Valid}
use Rattle.ec_check.specs.declared.checking.CheckStop.{CheckStop}
use Rattle.ec_check.specs.Answers.{FollowsWalk}
use Rattle.ec_check.specs.Laws.{AreShort, StructsAreFew}
use Rattle.ec_check.specs.Validity.{HoldNumbers, ProgramsAreValid}

pub valid_answer : ProgramsAreValid → StructsAreFew → (us : List Tree) (io : IoTable) → ValidIo io → length us ≤ 16
    → (r : Result Program CheckStop)
    → FollowsWalk us io r → HoldNumbers us → AreShort us → IfOk r (λ p. Valid (plain_program p) io)
valid_answer law few us io ports most (Ok p) h held short =
    law us io (plain_program p) ports h.0 (few us short most) held short h.1 h.2 h.3
valid_answer law few us io ports most (Err e) h held short = tt
