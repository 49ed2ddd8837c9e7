use Rattle.std.proofs.Common.{◌≡◌, drop}
use Rattle.ec_core.specs.Statements.{parameters_written}
use Rattle.ec_interp.specs.Views.{seen, setting_of}
use Rattle.ec_interp.proofs.run.bind.Given as goal

abbrev pub invariant-loop-i : goal.invariant-loop-i
invariant-loop-i l =
    let w = setting_of l.f.program.now l.f.io.now l.f.inputs.now in
    parameters_written w (drop l.i l.params) (drop l.i l.xs) (seen l.s) ≡ parameters_written w l.params l.xs (seen l.fn.s)
