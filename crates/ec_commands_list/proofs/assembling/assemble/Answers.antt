use Rattle.std.proofs.Common.{◌∙◌, sym, subst, arith}
use Rattle.ec_commands.specs.Words.{assembled_name}
use Rattle.ec_commands_list.specs.Assemblies.{assemble_inputs}
use Rattle.ec_commands_list.proofs.Assembled.{assembled, left_front, has_image}
use Rattle.ec_commands_list.proofs.assembling.assemble.Goals as goal

pub returns-in-Err-clause-calm : goal.returns-in-Err-clause-calm
returns-in-Err-clause-calm g c = λ room calm fits.
    ((c.in-Err.ensures.calm (assembled_name c.args.words.now.items) room calm).0, c.in-Err.ensures.write_faults)

pub returns-in-Ok-write_file-clause-assembled : goal.returns-in-Ok-write_file-clause-assembled
returns-in-Ok-write_file-clause-assembled g c =
    assembled c.args.words.now.items c.args.core _ _ _ c.in-Ok.image c.in-Ok.ensures.core c.in-Ok.ensures.files c.in-Ok.ensures.made
    (rw c.word_at.ensures at c.in-Ok-write_file.ensures.written) c.in-Ok-write_file.ensures.denotes

pub returns-in-Ok-write_file-clause-calm : goal.returns-in-Ok-write_file-clause-calm
returns-in-Ok-write_file-clause-calm g c = λ room calm fits.
    let read = c.in-Ok.ensures.calm (assembled_name c.args.words.now.items) room calm in
    let written =
    c.write_file.ensures.calm _ room
    (subst (λ made. g.S.Store.calm c.make_image.new.store (assemble_inputs c.args.words.now.items) made room)
    (sym c.word_at.ensures) read.1)
    (fits c.in-Ok.image.bytes.items c.in-Ok.image.written.items c.in-Ok.ensures.made) in
    (c.write_file.ensures.read_faults ∙ read.0, written ∙ c.make_image.ensures.write_faults)

pub returns-clause-stopped : goal.returns-clause-stopped
returns-clause-stopped g c = record {
  cause = (
    omega (arith, c.in-Err-write_file.ensures.cause.failed),
    has_image c.args.words.now.items c.args.core _ c.in-Ok.image.bytes.items c.in-Ok.image.written.items c.in-Ok.ensures.made,
  );
  files = left_front c.args.words.now.items c.args.core _ _ _ c.in-Ok.image _ c.in-Ok.ensures.files c.in-Ok.ensures.made
      (rw c.word_at.ensures at c.in-Err-write_file.ensures.written);
}

pub returns-clause-calm : goal.returns-clause-calm
returns-clause-calm g c = λ room calm fits.
    let read = c.in-Ok.ensures.calm (assembled_name c.args.words.now.items) room calm in
    let written =
    c.write_file.ensures.calm _ room
    (subst (λ made. g.S.Store.calm c.make_image.new.store (assemble_inputs c.args.words.now.items) made room)
    (sym c.word_at.ensures) read.1)
    (fits c.in-Ok.image.bytes.items c.in-Ok.image.written.items c.in-Ok.ensures.made) in
    (c.write_file.ensures.read_faults ∙ read.0, written ∙ c.make_image.ensures.write_faults)
