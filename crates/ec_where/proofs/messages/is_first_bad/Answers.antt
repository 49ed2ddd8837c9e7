use Rattle.std.proofs.Common.{subst}
use Rattle.std.specs.Prelude.{Result, Err, IfErr}
use Rattle.ec_grammar.specs.declared.Tree.{Tree}
use Rattle.ec_grammar.specs.Tokens.{view_tokens}
use Rattle.ec_parse.specs.declared.stop.ParseStop.{ParseStop}
use Rattle.ec_parse.specs.declared.stop.ParseStop.TheVariants.{Syntax}
use Rattle.ec_parse.specs.Parse.{IsRefused}
use Rattle.ec_where.proofs.Bad.{Tells, bad_told, deep_told, none_told}
use Rattle.ec_where.proofs.messages.is_first_bad.Goals as goal

pub returns-in-Ok : goal.returns-in-Ok
returns-in-Ok c =
    let list = view_tokens c.args.tokens.now.items in
    none_told list c.args.index c.in-Ok.tree (subst (λ (r : Result Tree ParseStop). Tells list r) c.in-Ok.is c.parse.ensures.told)

pub returns-in-Err-Syntax : goal.returns-in-Err-Syntax
returns-in-Err-Syntax c =
    let list = view_tokens c.args.tokens.now.items in
    let refused : IsRefused list c.in-Err-Syntax.field-0 =
    subst (λ (r : Result Tree ParseStop). IfErr r (IsRefused list)) c.in-Err-Syntax.is c.parse.ensures.refused in
    let bad : IsRefused list (Syntax c.in-Err-Syntax.at) = subst (IsRefused list) c.in-Err-Syntax.field-0-is refused in
    let told : Tells list (Err c.in-Err-Syntax.field-0) =
    subst (λ (r : Result Tree ParseStop). Tells list r) c.in-Err-Syntax.is c.parse.ensures.told in
    bad_told list c.args.index c.in-Err-Syntax.at
    (subst (λ (stop : ParseStop). Tells list (Err stop)) c.in-Err-Syntax.field-0-is told) bad.0

pub returns-in-Err-TooDeep : goal.returns-in-Err-TooDeep
returns-in-Err-TooDeep c =
    let list = view_tokens c.args.tokens.now.items in
    let told : Tells list (Err c.in-Err-TooDeep.field-0) =
    subst (λ (r : Result Tree ParseStop). Tells list r) c.in-Err-TooDeep.is c.parse.ensures.told in
    deep_told list c.args.index c.in-Err-TooDeep.field-0-0
    (subst (λ (stop : ParseStop). Tells list (Err stop)) c.in-Err-TooDeep.field-0-is told)
