use Rattle.std.proofs.Common.{◌∙◌, sym, subst, arith}
use Rattle.ec_commands.specs.Words.{out_name}
use Rattle.ec_commands_compile.specs.Inputs.{build_inputs}
use Rattle.ec_io.specs.Views.{store_view}
use Rattle.ec_commands_compile.proofs.Reading.{built_from, build_stopped}
use Rattle.ec_commands_compile.proofs.Texts.{text_fits}
use Rattle.ec_commands_compile.proofs.Written.{built, left_front, has_image}
use Rattle.ec_commands_compile.proofs.building.build_few.Goals as goal

pub returns-in-Err-clause-stopped : goal.returns-in-Err-clause-stopped
returns-in-Err-clause-stopped g c =
    build_stopped c.args.words.now.items
    (store_view (g.S.Store.disk c.args.store.now) (g.S.Store.read_faults c.args.store.now) (g.S.Store.write_faults c.args.store.now)
    (g.S.Store.received c.args.store.now) (g.S.Store.missed c.args.store.now))
    (store_view (g.S.Store.disk c.read_and_build.new.store) (g.S.Store.read_faults c.read_and_build.new.store)
    (g.S.Store.write_faults c.read_and_build.new.store) (g.S.Store.received c.read_and_build.new.store)
    (g.S.Store.missed c.read_and_build.new.store))
    c.in-Err.stop c.requires c.in-Err.ensures.files c.in-Err.ensures.stopped

pub returns-in-Err-clause-calm : goal.returns-in-Err-clause-calm
returns-in-Err-clause-calm g c = λ room calm fits.
    ((c.in-Err.ensures.calm (out_name c.args.words.now.items) room calm).0, c.in-Err.ensures.write_faults)

pub returns-in-Ok-written-clause-built : goal.returns-in-Ok-written-clause-built
returns-in-Ok-written-clause-built g c =
    built c.args.words.now.items _ _ _ c.in-Ok.built c.in-Ok.ensures.files
    (built_from c.args.words.now.items 3 _ c.in-Ok.built c.in-Ok.ensures.found)
    (rw c.word_at.ensures at c.in-Ok-written.ensures.written) c.in-Ok-written.ensures.denotes

pub returns-in-Ok-written-clause-calm : goal.returns-in-Ok-written-clause-calm
returns-in-Ok-written-clause-calm g c = λ room calm fits.
    let read = c.in-Ok.ensures.calm (out_name c.args.words.now.items) room calm in
    let written =
    c.write_file-written.ensures.calm _ room
    (subst (λ made. g.S.Store.calm c.read_and_build.new.store (build_inputs c.args.words.now.items 3) made room)
    (sym c.word_at.ensures) read.1)
    (text_fits c.builds_have_one_text.ensures c.args.words.now.items _ c.in-Ok.built room
    (built_from c.args.words.now.items 3 _ c.in-Ok.built c.in-Ok.ensures.found) fits) in
    (c.write_file-written.ensures.read_faults ∙ read.0, written ∙ c.read_and_build.ensures.write_faults)

pub returns-in-Err-written-clause-stopped : goal.returns-in-Err-written-clause-stopped
returns-in-Err-written-clause-stopped g c = record {
  cause = (
    c.requires,
    omega
        (arith, c.in-Err-written.ensures.cause.failed),
    has_image c.args.words.now.items _ c.in-Ok.built (built_from c.args.words.now.items 3 _ c.in-Ok.built c.in-Ok.ensures.found),
  );
  files = left_front c.args.words.now.items _ _ _ c.in-Ok.built _ c.in-Ok.ensures.files
      (built_from c.args.words.now.items 3 _ c.in-Ok.built c.in-Ok.ensures.found)
      (rw c.word_at.ensures at c.in-Err-written.ensures.written);
}

pub returns-in-Err-written-clause-calm : goal.returns-in-Err-written-clause-calm
returns-in-Err-written-clause-calm g c = λ room calm fits.
    let read = c.in-Ok.ensures.calm (out_name c.args.words.now.items) room calm in
    let written =
    c.write_file-written.ensures.calm _ room
    (subst (λ made. g.S.Store.calm c.read_and_build.new.store (build_inputs c.args.words.now.items 3) made room)
    (sym c.word_at.ensures) read.1)
    (text_fits c.builds_have_one_text.ensures c.args.words.now.items _ c.in-Ok.built room
    (built_from c.args.words.now.items 3 _ c.in-Ok.built c.in-Ok.ensures.found) fits) in
    (c.write_file-written.ensures.read_faults ∙ read.0, written ∙ c.read_and_build.ensures.write_faults)
