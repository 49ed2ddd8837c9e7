use Rattle.ec_check_forms.proofs.PlainCalls.{plain_call}
use Rattle.ec_check_forms.proofs.calls.call_node.Goals as goal

pub returns : goal.returns
returns c = plain_call c.args.function c.args.args
