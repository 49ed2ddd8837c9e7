use Rattle.ec_emu.specs.Scripted.{IsScripted}
use Rattle.ec_emu_watch.specs.Hits.{IsWatched}
use Rattle.ec_watch.specs.Watches.{KeepsSource}
use Rattle.ec_commands_watch.specs.Watches.{watched_by}
use Rattle.ec_commands_watch.proofs.Runs.{as_named}
use Rattle.ec_commands_watch.proofs.watching.run.Goals as goal

pub returns-clause-ran : goal.returns-clause-ran
returns-clause-ran g c =
    let r = c.watch.ensures.run in
    let point = c.new-stop.ensures.point in
    let rule = c.new-stop.ensures.rule in (
      r.0,
      (
        as_named (λ p a. IsWatched p (watched_by a) (IsScripted (g.H.Ports.gives c.args.hooks.now) c.args.loaded.now.script.lines.items)
            c.args.steps c.args.loaded.now.machine c.watch.new.machine c.watch.result r.0) _ _ _ _ point rule r.1.0,
        (
          r.1.1.1.0,
          (
            r.1.1.1.1.0,
            record {
              source = as_named (λ p a. KeepsSource c.args.loaded.now.built p (watched_by a) c.args.steps r.0 c.watch.result.end) _ _ _ _
                  point rule r.1.1.1.1.1.1;
            },
          ),
        ),
      ),
    )
