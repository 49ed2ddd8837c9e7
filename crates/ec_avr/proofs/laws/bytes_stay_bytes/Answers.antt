use Rattle.ec_avr.proofs.Bytes.{reset_holds, step_holds, run_holds, left_are_bytes}
use Rattle.ec_avr.proofs.laws.bytes_stay_bytes.Goals as goal

pub returns : goal.returns
returns c = record { reset = reset_holds; step = step_holds; run = run_holds; left = left_are_bytes }
