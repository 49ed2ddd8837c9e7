use Rattle.std.proofs.Common.{◌∙◌, ap, sym, drop, map}
use Rattle.std.specs.Prelude.{is_some}
use Rattle.std.proofs.lemmas.List.{drop-map}
use Rattle.ec_check_names.specs.Names.{plain_entry, newest}
use Rattle.ec_check_names.proofs.NameWalks.{tail_is}
use Rattle.ec_check_names.proofs.names.Names.is_declared_since.Goals as goal

pub returns : goal.returns
returns c =
    c.is_declared.ensures
    ∙ (ap (λ xs. is_some (newest c.args.name.now.items (map plain_entry xs))) (tail_is c.args.names c.deref.result.now)
    ∙ (ap (λ es. is_some (newest c.args.name.now.items es)) (sym (drop-map plain_entry c.args.names c.deref.result.now))
    ∙ ap (λ xs. is_some (newest c.args.name.now.items (drop c.args.names (map plain_entry xs)))) c.deref.ensures.value))
