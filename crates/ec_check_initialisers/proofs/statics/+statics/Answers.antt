use Rattle.std.proofs.Common.{◌≡◌, ◌∙◌, ap, rules, arith}
use Rattle.ec_grammar.specs.declared.Initialiser.TheViews as views
use Rattle.ec_grammar.specs.declared.Initialiser.TheViews.{the_lemmas}
use Rattle.ec_grammar.proofs.Backwards.{initialisers_row}
use Rattle.ec_check_initialisers.proofs.statics.+statics.Goals as goal

pub static_leaves-static_items-requires : goal.static_leaves-static_items-requires
static_leaves-static_items-requires t c =
    let row = c.in-Braces in
    let deep = ap views.size-Initialiser row.is ∙ views.sized-Braces row.l row.first row.more row.field-3 row.field-4 in
    let same : c.deref-in-Braces-2.result.now ≡ row.more.items = c.deref-in-Braces-2.ensures.value in
    (rw same (omega (arith, deep, c.decreases)), (c.requires.sound, (c.requires.named, c.requires.object)))

pub static_leaves-returns-in_ok-static_items-in-Braces : goal.static_leaves-returns-in_ok-static_items-in-Braces
static_leaves-returns-in_ok-static_items-in-Braces t c = search (rules, the_lemmas, initialisers_row)
