use Rattle.std.proofs.Common.{refl, subst}
use Rattle.std.specs.Prelude.{◌==◌, Result, IfErr}
use Rattle.ec_grammar.specs.declared.Tree.{Tree}
use Rattle.ec_parse.specs.declared.stop.ParseStop.{ParseStop}
use Rattle.ec_parse.specs.declared.stop.ParseStop.TheVariants.{Syntax, TooDeep}
use Rattle.ec_parse.specs.Parse.{IsRefused}
use Rattle.ec_grammar.specs.Tokens.{view_tokens}
use Rattle.ec_grammar.specs.Views.{view_tree}
use Rattle.ec_where_expected.proofs.Fronts.{stands_deep, stands_syntax, stands_whole}
use Rattle.ec_where_expected.proofs.judging.stands.Goals as goal

pub returns-in-Ok : goal.returns-in-Ok
returns-in-Ok c = (
  λ _. stands_whole c.args.k (view_tokens c.args.tokens.now.items) (view_tree c.in-Ok.tree) c.in-Ok.ensures.found.0,
  λ _. refl,
)

pub returns-in-Err-Syntax : goal.returns-in-Err-Syntax
returns-in-Err-Syntax c =
    let list = view_tokens c.args.tokens.now.items in
    let refused : IsRefused list c.in-Err-Syntax.field-0 =
    subst (λ (r : Result Tree ParseStop). IfErr r (IsRefused list)) c.in-Err-Syntax.is c.parse.ensures.refused in
    let bad : IsRefused list (Syntax c.in-Err-Syntax.at) = subst (IsRefused list) c.in-Err-Syntax.field-0-is refused in
    stands_syntax c.args.k c.in-Err-Syntax.at list (c.in-Err-Syntax.at == c.args.k) refl c.requires.good bad.0

pub returns-in-Err-TooDeep : goal.returns-in-Err-TooDeep
returns-in-Err-TooDeep c =
    let list = view_tokens c.args.tokens.now.items in
    let refused : IsRefused list c.in-Err-TooDeep.field-0 =
    subst (λ (r : Result Tree ParseStop). IfErr r (IsRefused list)) c.in-Err-TooDeep.is c.parse.ensures.refused in
    let deep : IsRefused list (TooDeep c.in-Err-TooDeep.field-0-0) = subst (IsRefused list) c.in-Err-TooDeep.field-0-is refused in
    (λ _. stands_deep c.args.k c.in-Err-TooDeep.field-0-0 list c.requires.good deep.0, λ _. refl)
