use Rattle.std.proofs.Common.{List, ℕ, subst}
use Rattle.std.specs.Prelude.{map, string_bytes}
use Rattle.ec_io.specs.Written.{WritesAll}
use Rattle.ec_where_lines.specs.Notices.{texts_of}
use Rattle.ec_where.specs.Told.{IsExplanation}
use Rattle.ec_where.proofs.telling.tell_line.Goals as goal

pub returns-in-Ok : goal.returns-in-Ok
returns-in-Ok g c =
    let text = c.in-Ok.text.items in
    let disk = g.S.Store.disk c.args.store.now in (
      text,
      subst (λ (line : List ℕ). IsExplanation disk (map string_bytes c.args.sources.now) (texts_of c.args.names.now) line text)
          c.first_line.ensures c.in-Ok.ensures,
      subst (λ (bytes : List ℕ).
          WritesAll (g.O.Sink.written c.args.out.now) (g.O.Sink.written c.write_all.new.sink) c.write_all.result bytes)
          c.as_slice.ensures.value c.write_all.ensures.written,
    )
