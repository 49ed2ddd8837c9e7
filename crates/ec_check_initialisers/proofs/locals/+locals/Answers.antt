use Rattle.std.proofs.Common.{◌≡◌, ◌∙◌, ap, rules, arith}
use Rattle.ec_grammar.specs.declared.Initialiser.TheViews as views
use Rattle.ec_grammar.specs.declared.Initialiser.TheViews.{the_lemmas}
use Rattle.ec_grammar.proofs.Backwards.{initialisers_row}
use Rattle.ec_check_initialisers.proofs.locals.+locals.Goals as goal

pub local_values-local_items-requires : goal.local_values-local_items-requires
local_values-local_items-requires t c =
    let row = c.in-Braces in
    let deep = ap views.size-Initialiser row.is ∙ views.sized-Braces row.l row.first row.more row.field-3 row.field-4 in
    let same : c.deref-in-Braces-2.result.now ≡ row.more.items = c.deref-in-Braces-2.ensures.value in
    (rw same (omega (arith, deep, c.decreases)), (c.requires.sound, c.requires.object))

pub local_values-returns-in_ok-local_items-in-Braces : goal.local_values-returns-in_ok-local_items-in-Braces
local_values-returns-in_ok-local_items-in-Braces t c = search (rules, the_lemmas, initialisers_row)
