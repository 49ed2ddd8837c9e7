-- What is answered has its cause; and a program that is answered is valid, since no rule is told and nothing recurs.
use Rattle.std.proofs.Common.{arith}
use Rattle.std.proofs.lemmas.List.{length-map}
use Rattle.ec_grammar.specs.Views.{view_tree}
use Rattle.ec_check.proofs.CheckedAnswers.{checked_answer}
use Rattle.ec_check.proofs.ValidAnswers.{valid_answer}
use Rattle.ec_check.proofs.checking.check.Goals as goal

pub returns : goal.returns
returns c =
    let same = length-map c.args.units.now.items view_tree in
    record {
      answer = checked_answer c.the_least_is_found.ensures c.programs_are_typed.ensures _ c.args.io.now c.checked_program.result c.checked_program.ensures.answer;
      valid = valid_answer c.programs_are_valid.ensures c.structs_are_few.ensures _ c.args.io.now c.requires.io (omega (arith, same))
          c.checked_program.result c.checked_program.ensures.answer;
      structs = c.checked_program.ensures.structs;
    }
