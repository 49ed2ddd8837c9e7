use Rattle.std.proofs.Common.{◌∙◌, ◌-◌, length}
use Rattle.ec_emu.specs.Lines.{port_lines}
use Rattle.ec_commands_watch.specs.Printed.{end_line}
use Rattle.ec_commands_watch.proofs.Printing.{shown_whole, shown_cut, room_for_lines, room_for_end}
use Rattle.ec_commands_watch.proofs.watching.print_watch.Goals as goal

pub returns-in-Ok-clause-shown : goal.returns-in-Ok-clause-shown
returns-in-Ok-clause-shown g c =
    let r = c.run-report.ensures.ran in
    let end = c.run-report.result.end in (
      c.run-report.result,
      (
        r.0,
        (
          r.1.0,
          (
            shown_whole _ _ _ r.0 end c.write_end.result c.in-Ok.field-0 _ r.1.1.0 c.write_end.ensures.written c.in-Ok.is c.answer.ensures,
            (
              λ room calm fits.
                  let lines = r.1.1.1.0 room calm (room_for_lines (port_lines r.0) (end_line end) room fits) in
                  (c.write_end.ensures.calm (room - length (port_lines r.0)) lines.left
                  (room_for_end (port_lines r.0) (end_line end) room fits)).same ∙ lines.same,
              r.1.1.1.1,
            ),
          ),
        ),
      ),
    )

pub returns-in-Err-clause-shown : goal.returns-in-Err-clause-shown
returns-in-Err-clause-shown g c =
    let r = c.run-report.ensures.ran in
    let end = c.run-report.result.end in (
      c.run-report.result,
      (
        r.0,
        (
          r.1.0,
          (
            shown_cut _ _ _ r.0 end c.write_end.result c.in-Err.field-0 r.1.1.0 c.write_end.ensures.written c.in-Err.is,
            (
              λ room calm fits.
                  let lines = r.1.1.1.0 room calm (room_for_lines (port_lines r.0) (end_line end) room fits) in
                  (c.write_end.ensures.calm (room - length (port_lines r.0)) lines.left
                  (room_for_end (port_lines r.0) (end_line end) room fits)).same ∙ lines.same,
              r.1.1.1.1,
            ),
          ),
        ),
      ),
    )
