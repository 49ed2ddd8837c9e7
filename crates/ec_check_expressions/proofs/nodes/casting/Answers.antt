use Rattle.ec_grammar.specs.Views.{view_type_name}
use Rattle.ec_check_names.specs.Tags.{plain_tags}
use Rattle.ec_check_expressions.proofs.Walks.{cast_walked}
use Rattle.ec_check_expressions.proofs.nodes.casting.Goals as goal

pub returns : goal.returns
returns c =
    cast_walked (plain_tags c.args.known.now.tags.now) (view_type_name c.args.name.now) c.args.at c.args.known.now.modes c.in-Ok.ensures.ty
    c.in-Ok.ensures.void c.in-Ok.ensures.judged c.judge_cast.ensures c.in_ok-z.ensures
