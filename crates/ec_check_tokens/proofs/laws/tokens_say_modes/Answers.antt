use Rattle.ec_check_tokens.proofs.Programs.{tokens_say_modes}
use Rattle.ec_check_tokens.proofs.laws.tokens_say_modes.Goals as goal

pub returns : goal.returns
returns c =
    tokens_say_modes (record { meanings = c.walk_gives_meanings.ensures; modes = c.modes_are_said.ensures })
    c.programs_are_typed.ensures
