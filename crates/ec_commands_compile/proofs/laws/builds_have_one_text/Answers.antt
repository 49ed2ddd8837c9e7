use Rattle.ec_commands_compile.proofs.Texts.{builds_have_one_text}
use Rattle.ec_commands_compile.proofs.laws.builds_have_one_text.Goals as goal

pub returns : goal.returns
returns c = builds_have_one_text c.builds_have_one_image.ensures
