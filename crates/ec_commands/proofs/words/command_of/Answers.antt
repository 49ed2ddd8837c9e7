use Rattle.std.proofs.Common.{◌∙◌, sym}
use Rattle.ec_commands.specs.declared.words.Command.TheVariants.{Run, Exec, Gen, List as ListImage, Assemble, Watch, NoCommand}
use Rattle.ec_commands.proofs.Rows.{command_is, no_command}
use Rattle.ec_commands.proofs.words.command_of.Goals as goal

pub returns-in-Some-clause-value : goal.returns-in-Some-clause-value
returns-in-Some-clause-value c =
    sym (command_is c.args.words.now.items (Run c.in-Some.steps c.in-Some.fill) c.in-Some.ensures.some)

pub returns-in-Some-exec_steps-clause-value : goal.returns-in-Some-exec_steps-clause-value
returns-in-Some-exec_steps-clause-value c =
    sym (command_is c.args.words.now.items (Exec c.in-Some-exec_steps.steps) c.in-Some-exec_steps.ensures.some)

pub returns-in-Some-gen_number-clause-value : goal.returns-in-Some-gen_number-clause-value
returns-in-Some-gen_number-clause-value c =
    sym (command_is c.args.words.now.items (Gen c.in-Some-gen_number.n) c.in-Some-gen_number.ensures.some)

pub returns-in-Some-list_core-clause-value : goal.returns-in-Some-list_core-clause-value
returns-in-Some-list_core-clause-value c =
    sym (command_is c.args.words.now.items (ListImage c.in-Some-list_core.core) c.in-Some-list_core.ensures.some)

pub returns-in-Some-assemble_core-clause-value : goal.returns-in-Some-assemble_core-clause-value
returns-in-Some-assemble_core-clause-value c =
    sym (command_is c.args.words.now.items (Assemble c.in-Some-assemble_core.core) c.in-Some-assemble_core.ensures.some)

pub returns-in-Some-watched-clause-value : goal.returns-in-Some-watched-clause-value
returns-in-Some-watched-clause-value c =
    sym (command_is c.args.words.now.items (Watch c.in-Some-watched.steps c.in-Some-watched.leaf c.in-Some-watched.rule)
    c.in-Some-watched.ensures.some)

pub returns-clause-value : goal.returns-clause-value
returns-clause-value c =
    sym (command_is c.args.words.now.items NoCommand (no_command c.args.words.now.items (record {
      build = sym c.is_build.ensures ∙ c.if-is_build.false;
      run = c.in_default.ensures.none;
      exec = c.in_default-exec_steps.ensures.none;
      gen = c.in_default-gen_number.ensures.none;
      list = c.in_default-list_core.ensures.none;
      assemble = c.in_default-assemble_core.ensures.none;
      bound = sym c.is_bound.ensures ∙ c.if-is_bound.false;
      watch = c.in_default-watched.ensures.none;
    })))
