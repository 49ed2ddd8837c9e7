use Rattle.std.proofs.Common.{◌+◌, ◌∙◌, List, ◌∷◌, ℕ, refl, arith, inl, inr, length}
use Rattle.std.specs.Prelude.{⊤}
use Rattle.ec_io.specs.Views.{store_view}
use Rattle.ec_io.proofs.Counting.{counted_more}
use Rattle.ec_commands.specs.Words.{map_name, script_name, names_from}
use Rattle.ec_commands.proofs.Files.{kept_on}
use Rattle.ec_commands.proofs.Named.{stops_behind}
use Rattle.ec_commands_compile.specs.Inputs.{HasScript}
use Rattle.ec_commands_compile.proofs.Reading.{contains_behind}
use Rattle.ec_commands_compile.proofs.ReadingExec.{HoldsBoth, both_told, exec_told, has_script, script_behind}
use Rattle.ec_commands_compile.proofs.executing.read_inputs.Goals as goal

pub returns-in-Ok-read_sources-clause-found : goal.returns-in-Ok-read_sources-clause-found
returns-in-Ok-read_sources-clause-found g c =
    let words = c.args.words.now.items in
    exec_told words c.args.first _ _ c.in-Ok.map.items c.in-Ok-read.script.items _
    (kept_on _ _ _ c.in-Ok.ensures.files c.in-Ok-read.ensures.files)
    (both_told words _ _ c.in-Ok.map.items c.in-Ok-read.script.items c.in-Ok.ensures.files c.in-Ok.ensures.found.told
    c.in-Ok-read.ensures.found.told)
    c.in-Ok.ensures.found.within c.in-Ok-read.ensures.found.within c.in-Ok-read_sources.ensures.found.told
    c.in-Ok-read_sources.ensures.found.within

pub returns-in-Ok-read_sources-clause-calm : goal.returns-in-Ok-read_sources-clause-calm
returns-in-Ok-read_sources-clause-calm g c = λ made room calm.
    let words = c.args.words.now.items in
    let map = c.in-Ok.ensures.calm _ made room calm (0, omega arith, refl) in
    let script = c.in-Ok-read.ensures.calm _ made room map.1 (1, omega arith, refl) in
    let sources = c.in-Ok-read_sources.ensures.calm _ made room script.1
    (λ name has. contains_behind (map_name words) (script_name words ∷ names_from words c.args.first) name
    (contains_behind (script_name words) (names_from words c.args.first) name has)) in
    sources.0 ∙ script.0 ∙ map.0

pub returns-in-Err-read_sources-clause-calm : goal.returns-in-Err-read_sources-clause-calm
returns-in-Err-read_sources-clause-calm g c = λ made room calm.
    let words = c.args.words.now.items in
    let map = c.in-Ok.ensures.calm _ made room calm (0, omega arith, refl) in
    let script = c.in-Ok-read.ensures.calm _ made room map.1 (1, omega arith, refl) in
    let sources = c.in-Err-read_sources.ensures.calm _ made room script.1
    (λ name has. contains_behind (map_name words) (script_name words ∷ names_from words c.args.first) name
    (contains_behind (script_name words) (names_from words c.args.first) name has)) in
    sources.0 ∙ script.0 ∙ map.0

pub returns-in-Err-read_sources-clause-stopped : goal.returns-in-Err-read_sources-clause-stopped
returns-in-Err-read_sources-clause-stopped g c =
    let words = c.args.words.now.items in
    let map : List ℕ = c.in-Ok.map.items in
    let lines : List ℕ = c.in-Ok-read.script.items in
    inr (inr (stops_behind words c.args.first (HoldsBoth words map lines) (λ _. ⊤) (HasScript words) 81920 0 (length map + length lines)
    (store_view (g.S.Store.disk c.args.store.now) (g.S.Store.read_faults c.args.store.now) (g.S.Store.write_faults c.args.store.now)
    (g.S.Store.received c.args.store.now) (g.S.Store.missed c.args.store.now))
    (store_view (g.S.Store.disk c.read-2.new.store) (g.S.Store.read_faults c.read-2.new.store) (g.S.Store.write_faults c.read-2.new.store)
    (g.S.Store.received c.read-2.new.store) (g.S.Store.missed c.read-2.new.store))
    (store_view (g.S.Store.disk c.read_sources.new.store) (g.S.Store.read_faults c.read_sources.new.store)
    (g.S.Store.write_faults c.read_sources.new.store) (g.S.Store.received c.read_sources.new.store) (g.S.Store.missed c.read_sources.new.store))
    c.in-Err-read_sources.stop (kept_on _ _ _ c.in-Ok.ensures.files c.in-Ok-read.ensures.files)
    (both_told words _ _ map lines c.in-Ok.ensures.files c.in-Ok.ensures.found.told c.in-Ok-read.ensures.found.told)
    (λ files both any. has_script words map lines files c.in-Ok.ensures.found.within c.in-Ok-read.ensures.found.within both)
    (omega (arith, c.in-Ok.ensures.later, c.in-Ok-read.ensures.later))
    (counted_more _ _ _ (length map) (length lines) _ c.in-Ok.ensures.found.received c.in-Ok-read.ensures.found.received refl)
    (omega (arith, c.in-Ok.ensures.found.within, c.in-Ok-read.ensures.found.within)) c.in-Err-read_sources.ensures.stopped))

pub returns-in-Err-read-clause-stopped : goal.returns-in-Err-read-clause-stopped
returns-in-Err-read-clause-stopped g c =
    let words = c.args.words.now.items in
    inr (inl (script_behind words c.in-Ok.map.items
    (store_view (g.S.Store.disk c.args.store.now) (g.S.Store.read_faults c.args.store.now) (g.S.Store.write_faults c.args.store.now)
    (g.S.Store.received c.args.store.now) (g.S.Store.missed c.args.store.now))
    (store_view (g.S.Store.disk c.read.new.store) (g.S.Store.read_faults c.read.new.store) (g.S.Store.write_faults c.read.new.store)
    (g.S.Store.received c.read.new.store) (g.S.Store.missed c.read.new.store))
    (store_view (g.S.Store.disk c.read-2.new.store) (g.S.Store.read_faults c.read-2.new.store) (g.S.Store.write_faults c.read-2.new.store)
    (g.S.Store.received c.read-2.new.store) (g.S.Store.missed c.read-2.new.store))
    c.in-Err-read.stop c.in-Ok.ensures.files c.in-Ok.ensures.found.told c.in-Ok.ensures.found.within c.in-Ok.ensures.later
    c.in-Ok.ensures.found.received
    c.in-Err-read.ensures.stopped))

pub returns-in-Err-read-clause-calm : goal.returns-in-Err-read-clause-calm
returns-in-Err-read-clause-calm g c = λ made room calm.
    let map = c.in-Ok.ensures.calm _ made room calm (0, omega arith, refl) in
    (c.in-Err-read.ensures.calm _ made room map.1 (1, omega arith, refl)).0 ∙ map.0
