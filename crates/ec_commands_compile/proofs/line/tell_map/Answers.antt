use Rattle.ec_commands_compile.proofs.line.tell_map.Goals as goal

pub returns-in-NotToml-clause-told : goal.returns-in-NotToml-clause-told
returns-in-NotToml-clause-told g c = rw c.in-NotToml.is c.write_line.ensures.told
