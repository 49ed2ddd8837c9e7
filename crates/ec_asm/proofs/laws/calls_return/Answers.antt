use Rattle.ec_asm.proofs.Calls.{call_goes, return_goes, call_takes}
use Rattle.ec_asm.proofs.laws.calls_return.Goals as goal

pub returns : goal.returns
returns c = record { call = call_goes; back = return_goes; whole = call_takes }
