use Rattle.std.proofs.Common.{◌∙◌}
use Rattle.ec_commands.proofs.Outs.{wrote_all, wrote_front, same_counts}
use Rattle.ec_commands.proofs.output.write_file.Goals as goal

pub returns-in-Ok-write_text-clause-written : goal.returns-in-Ok-write_text-clause-written
returns-in-Ok-write_text-clause-written g c =
    wrote_all _ _ _ _ _ c.args.store.ghost_name c.in-Ok.ensures.disk c.in-Ok-write_text.ensures.written _ _ c.write_text.ensures.beside

pub returns-in-Err-write_text-clause-written : goal.returns-in-Err-write_text-clause-written
returns-in-Err-write_text-clause-written g c =
    wrote_front _ _ _ _ _ _ _ c.args.store.ghost_name c.in-Ok.ensures.disk c.in-Err-write_text.ensures.written.1 _ _
    c.write_text.ensures.beside

pub returns-in-Ok-write_text-clause-read_faults : goal.returns-in-Ok-write_text-clause-read_faults
returns-in-Ok-write_text-clause-read_faults g c =
    (same_counts (g.S.Store.disk c.write_text.new.store) (g.S.Store.disk c.create.new.self)
    (g.S.Store.read_faults c.write_text.new.store, g.S.Store.received c.write_text.new.store)
    (g.S.Store.read_faults c.create.new.self, g.S.Store.received c.create.new.self) c.args.store.ghost_name c.write_text.ensures.beside).0
    ∙ c.create.ensures.other_faults

pub returns-in-Ok-write_text-clause-received : goal.returns-in-Ok-write_text-clause-received
returns-in-Ok-write_text-clause-received g c =
    (same_counts (g.S.Store.disk c.write_text.new.store) (g.S.Store.disk c.create.new.self)
    (g.S.Store.read_faults c.write_text.new.store, g.S.Store.received c.write_text.new.store)
    (g.S.Store.read_faults c.create.new.self, g.S.Store.received c.create.new.self) c.args.store.ghost_name c.write_text.ensures.beside).1
    ∙ c.create.ensures.received

pub returns-in-Err-write_text-clause-read_faults : goal.returns-in-Err-write_text-clause-read_faults
returns-in-Err-write_text-clause-read_faults g c =
    (same_counts (g.S.Store.disk c.write_text.new.store) (g.S.Store.disk c.create.new.self)
    (g.S.Store.read_faults c.write_text.new.store, g.S.Store.received c.write_text.new.store)
    (g.S.Store.read_faults c.create.new.self, g.S.Store.received c.create.new.self) c.args.store.ghost_name c.write_text.ensures.beside).0
    ∙ c.create.ensures.other_faults

pub returns-in-Err-write_text-clause-received : goal.returns-in-Err-write_text-clause-received
returns-in-Err-write_text-clause-received g c =
    (same_counts (g.S.Store.disk c.write_text.new.store) (g.S.Store.disk c.create.new.self)
    (g.S.Store.read_faults c.write_text.new.store, g.S.Store.received c.write_text.new.store)
    (g.S.Store.read_faults c.create.new.self, g.S.Store.received c.create.new.self) c.args.store.ghost_name c.write_text.ensures.beside).1
    ∙ c.create.ensures.received
