use Rattle.std.proofs.Common.{◌≡◌, ◌∙◌, Some, refl, arith, inr, length}
use Rattle.std.specs.FinMap.{get}
use Rattle.std.specs.Prelude.{⊤}
use Rattle.ec_io.specs.Views.{store_view}
use Rattle.ec_commands.specs.Words.{word, map_name, names_from}
use Rattle.ec_commands.proofs.Named.{stops_behind}
use Rattle.ec_commands_compile.specs.Inputs.{HasMap}
use Rattle.ec_commands_compile.proofs.Reading.{contains_behind, within_here}
use Rattle.ec_commands_compile.proofs.building.read_inputs.Goals as goal

pub returns-in-Ok-read_sources-clause-calm : goal.returns-in-Ok-read_sources-clause-calm
returns-in-Ok-read_sources-clause-calm g c = λ made room calm.
    let words = c.args.words.now.items in
    let map = c.in-Ok.ensures.calm _ made room calm (0, omega arith, refl) in
    let sources =
    c.in-Ok-read_sources.ensures.calm _ made room map.1
    (λ name has. contains_behind (map_name words) (names_from words c.args.first) name has) in
    (sources.0 ∙ map.0, sources.1)

pub returns-in-Err-read_sources-clause-stopped : goal.returns-in-Err-read_sources-clause-stopped
returns-in-Err-read_sources-clause-stopped g c =
    let words = c.args.words.now.items in
    let map = c.in-Ok.map.items in
    inr (stops_behind words c.args.first (λ files. get files (word words 1) ≡ Some map) (λ _. ⊤) (HasMap words) 16384 0 (length map)
    (store_view (g.S.Store.disk c.args.store.now) (g.S.Store.read_faults c.args.store.now) (g.S.Store.write_faults c.args.store.now)
    (g.S.Store.received c.args.store.now) (g.S.Store.missed c.args.store.now))
    (store_view (g.S.Store.disk c.read.new.store) (g.S.Store.read_faults c.read.new.store) (g.S.Store.write_faults c.read.new.store)
    (g.S.Store.received c.read.new.store) (g.S.Store.missed c.read.new.store))
    (store_view (g.S.Store.disk c.read_sources.new.store) (g.S.Store.read_faults c.read_sources.new.store)
    (g.S.Store.write_faults c.read_sources.new.store) (g.S.Store.received c.read_sources.new.store)
    (g.S.Store.missed c.read_sources.new.store))
    c.in-Err-read_sources.stop c.in-Ok.ensures.files c.in-Ok.ensures.found.told
    (λ files there any. within_here files (word words 1) map 16384 there c.in-Ok.ensures.found.within)
    c.in-Ok.ensures.later c.in-Ok.ensures.found.received c.in-Ok.ensures.found.within c.in-Err-read_sources.ensures.stopped)

pub returns-in-Err-read_sources-clause-calm : goal.returns-in-Err-read_sources-clause-calm
returns-in-Err-read_sources-clause-calm g c = λ made room calm.
    let words = c.args.words.now.items in
    let map = c.in-Ok.ensures.calm _ made room calm (0, omega arith, refl) in
    let sources =
    c.in-Err-read_sources.ensures.calm _ made room map.1
    (λ name has. contains_behind (map_name words) (names_from words c.args.first) name has) in
    (sources.0 ∙ map.0, sources.1)
