use Rattle.ec_commands_compile.proofs.line.tell_lex.Goals as goal

pub returns-in-BadByte-clause-told : goal.returns-in-BadByte-clause-told
returns-in-BadByte-clause-told g c = rw c.in-BadByte.is c.tell_byte.ensures.told

pub returns-in-Unclosed-clause-told : goal.returns-in-Unclosed-clause-told
returns-in-Unclosed-clause-told g c = rw c.in-Unclosed.is c.tell_byte-in-Unclosed.ensures.told

pub returns-in-BadDirective-clause-told : goal.returns-in-BadDirective-clause-told
returns-in-BadDirective-clause-told g c = rw c.in-BadDirective.is c.tell_byte-in-BadDirective.ensures.told
