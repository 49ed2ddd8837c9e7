use Rattle.ec_commands.proofs.line.tell.Goals as goal

pub returns-in-Usage-clause-told : goal.returns-in-Usage-clause-told
returns-in-Usage-clause-told g c = rw c.in-Usage.is (rw c.in-Usage.is at c.tell_text.ensures.told)

pub returns-in-CannotRead-clause-told : goal.returns-in-CannotRead-clause-told
returns-in-CannotRead-clause-told g c =
    rw c.in-CannotRead.is (rw (c.as_bytes-name.ensures.value, c.word_at.ensures) at c.write_line.ensures.told)

pub returns-in-CannotWrite-clause-told : goal.returns-in-CannotWrite-clause-told
returns-in-CannotWrite-clause-told g c = rw c.in-CannotWrite.is (rw c.in-CannotWrite.is at c.tell_text-in-CannotWrite.ensures.told)

pub returns-in-NoMemory-clause-told : goal.returns-in-NoMemory-clause-told
returns-in-NoMemory-clause-told g c = rw c.in-NoMemory.is (rw c.in-NoMemory.is at c.tell_text-in-NoMemory.ensures.told)

pub returns-in-NoEnd-clause-told : goal.returns-in-NoEnd-clause-told
returns-in-NoEnd-clause-told g c = rw c.in-NoEnd.is (rw c.in-NoEnd.is at c.tell_text-in-NoEnd.ensures.told)

pub returns-in-ScriptLine-clause-told : goal.returns-in-ScriptLine-clause-told
returns-in-ScriptLine-clause-told g c = rw c.in-ScriptLine.is c.write_numbers-in-ScriptLine.ensures.told

pub returns-in-AsmLine-clause-told : goal.returns-in-AsmLine-clause-told
returns-in-AsmLine-clause-told g c = rw c.in-AsmLine.is c.write_numbers-in-AsmLine.ensures.told

pub returns-in-StepsOut-clause-told : goal.returns-in-StepsOut-clause-told
returns-in-StepsOut-clause-told g c = rw c.in-StepsOut.is (rw c.in-StepsOut.is at c.tell_text-in-StepsOut.ensures.told)
