use Rattle.std.proofs.Common.{◌∙◌, Some, take, refl, ap, arith}
use Rattle.ec_hex.specs.Record.{Sound, Base, Start}
use Rattle.ec_hex.specs.Stops.{data_in}
use Rattle.ec_hex.specs.Views.{sound_view}
use Rattle.ec_hex.specs.declared.record.Record.{Record}
use Rattle.ec_hex.proofs.Taken.{read_past, data_line, data_misfit}
use Rattle.ec_hex.proofs.read.Reader.take.Goals as goal

pub returns-in-Ok-clause-reads : goal.returns-in-Ok-clause-reads
returns-in-Ok-clause-reads c = λ readings n place at read.
    data_line readings n c.in-Data.offset _ c.in-Data.bytes.now _ _ (at ∙ ap (λ (w : Record). Some (sound_view w)) c.in-Data.is) read
    (omega (arith, c.from.ensures, c.from-in-Data.ensures)) (c.in-Ok.ensures.puts (data_in (take n readings)) read.image) refl

pub returns-in-Err-clause-reads : goal.returns-in-Err-clause-reads
returns-in-Err-clause-reads c = λ readings n place at read.
    data_misfit readings n c.args.line c.in-Data.offset _ c.in-Data.bytes.now _ c.in-Err.stop place
    (at ∙ ap (λ (w : Record). Some (sound_view w)) c.in-Data.is) read
    (omega (arith, c.from.ensures, c.from-in-Data.ensures)) (c.in-Err.ensures.puts (data_in (take n readings)) read.image)

pub returns-in-Base-clause-reads : goal.returns-in-Base-clause-reads
returns-in-Base-clause-reads c = λ readings n place at read.
    read_past readings n (Sound (Base c.in-Base.base)) _ _
    (at ∙ ap (λ (w : Record). Some (sound_view w)) c.in-Base.is) refl read refl refl refl

pub returns-in-Start-clause-reads : goal.returns-in-Start-clause-reads
returns-in-Start-clause-reads c = λ readings n place at read.
    read_past readings n (Sound Start) _ _ (at ∙ ap (λ (w : Record). Some (sound_view w)) c.in-Start.is) refl read refl refl refl
