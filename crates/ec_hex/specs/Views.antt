-- What contracts see of the code's own types.
use Rattle.ec_hex.specs.Record as spec
use Rattle.ec_hex.specs.declared.record.Record.{Record}
use Rattle.ec_hex.specs.declared.record.Record.TheVariants.{Data, EndOfFile, Base, Start}
use Rattle.ec_hex.specs.declared.record.Reading.{Reading}
use Rattle.ec_hex.specs.declared.record.Reading.TheVariants.{NoRecord, WrongSum, Sound}

abbrev pub record_view : Record → spec.Record
record_view (Data offset bytes) = spec.Data offset bytes.now
record_view EndOfFile = spec.EndOfFile
record_view (Base base) = spec.Base base
record_view Start = spec.Start

abbrev pub reading_view : Reading → spec.Reading
reading_view NoRecord = spec.NoRecord
reading_view WrongSum = spec.WrongSum
reading_view (Sound what) = spec.Sound (record_view what)

abbrev pub sound_view : Record → spec.Reading
sound_view what = spec.Sound (record_view what)
