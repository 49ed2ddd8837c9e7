use Rattle.ec_judge_files.proofs.answer.tell_run.Goals as goal

pub returns-in-Hooked-clause-told : goal.returns-in-Hooked-clause-told
returns-in-Hooked-clause-told g c = rw c.in-Hooked.is (rw c.digits_of-digits.ensures at c.write_line.ensures.told)

pub returns-in-TurnsOut-clause-told : goal.returns-in-TurnsOut-clause-told
returns-in-TurnsOut-clause-told g c = rw c.in-TurnsOut.is c.write_line-in-TurnsOut.ensures.told

pub returns-in-Undefined-clause-told : goal.returns-in-Undefined-clause-told
returns-in-Undefined-clause-told g c =
    rw c.in-Undefined.is (rw (c.source_name-name.ensures, c.number_of-number.ensures) at c.tell_undefined.ensures.told)
