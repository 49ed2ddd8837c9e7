use Rattle.ec_core.specs.Plain.{plain_program}
use Rattle.ec_emu_watch.specs.Sound.{point_of, rule_of}
use Rattle.ec_watch_points.proofs.Points.{has_width, ends_within}
use Rattle.ec_watch.proofs.Given.{whatever_was_given}
use Rattle.ec_watch.proofs.watching.watch.Goals as goal

pub run_watched-requires-clause-width : goal.run_watched-requires-clause-width
run_watched-requires-clause-width g c =
    let point = c.requires.point in
    let valid = c.requires.placed.1.translated.valid in
    has_width (plain_program c.args.built.now.program) (c.args.built.now.map.io, valid) c.leaves_fill_their_types.ensures
    c.args.built.now.located.places.items point.0 point.1 (point_of c.args.stop.now) point.2

pub run_watched-requires-clause-within : goal.run_watched-requires-clause-within
run_watched-requires-clause-within g c =
    let point = c.requires.point in
    let placed = c.requires.placed in
    ends_within (plain_program c.args.built.now.program) (c.args.built.now.map.io, placed.1.translated.valid)
    c.leaves_fill_their_types.ensures c.args.built.now.located.places.items
    (c.placed_have_places.ensures (plain_program c.args.built.now.program) c.args.built.now.map placed.0 c.args.built.now.located
    placed.1.translated) point.0 point.1 (point_of c.args.stop.now) point.2

pub returns-clause-run : goal.returns-clause-run
returns-clause-run g c =
    let r = c.run_watched.ensures.run in
    let point = c.requires.point in
    let placed = c.requires.placed in (
      r.0,
      (
        r.1.0,
        (
          r.1.1.0,
          (
            r.1.1.1.0,
            (
              r.1.1.1.1.0,
              (
                r.1.1.1.1.1,
                λ more bytes defined.
                    c.watched_runs_keep_sources.ensures (plain_program c.args.built.now.program) c.args.built.now.map placed.0
                    c.args.built.now.located point.0 point.1 (point_of c.args.stop.now)
                    (g.R.ValueRule.holds (rule_of c.args.stop.now)) c.args.steps c.args.machine.now c.run_watched.new.machine
                    c.run_watched.result r.0 more placed.1.translated point.2 c.requires.reset
                    (whatever_was_given (point_of c.args.stop.now) (g.R.ValueRule.holds (rule_of c.args.stop.now))
                    (g.P.Ports.gives c.args.ports.now) c.args.steps c.args.machine.now c.run_watched.new.machine c.run_watched.result
                    r.0 r.1.0) bytes defined,
              ),
            ),
          ),
        ),
      ),
    )
