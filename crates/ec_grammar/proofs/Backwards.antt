-- The lists that trees hold: the view of a row is the view of its items.
use Rattle.std.proofs.Common.{◌≡◌, refl, ap}
use Rattle.ec_grammar.specs.declared.Arguments as arguments
use Rattle.ec_grammar.specs.declared.Arguments.TheBlock as row
use Rattle.ec_grammar.specs.declared.Initialiser as initialiser
use Rattle.ec_grammar.specs.declared.Initialiser.TheBlock as initial_row
use Rattle.ec_grammar.specs.declared.Compound as compound
use Rattle.ec_grammar.specs.declared.Item.TheBlock as item_row
use Rattle.ec_grammar.specs.Trees as t
use Rattle.ec_grammar.specs.Views.{views_further, views_initialisers, views_items, view_further, view_initialisers, view_items}
use Rattle.ec_grammar.specs.Views.{view_assignment, view_initialiser, view_item}

pub further_row : (n : _) (k : arguments.Row_of-Argument n) → view_further k ≡ views_further (row.items-the_row-Argument n k)
further_row n arguments.end_of-Argument = refl
further_row n (arguments.more_of-Argument s a rest) = ap (t.further s (view_assignment a)) (further_row _ rest)

pub initialisers_row : (n : _) (k : initialiser.Row_of-NextInitialiser n)
    → view_initialisers k ≡ views_initialisers (initial_row.items-the_row-NextInitialiser n k)
initialisers_row n initialiser.end_of-NextInitialiser = refl
initialisers_row n (initialiser.more_of-NextInitialiser s i rest) = ap (t.initialisers s (view_initialiser i)) (initialisers_row _ rest)

pub items_row : (n : _) (k : compound.Row_of-Item n) → view_items k ≡ views_items (item_row.items-the_row-Item n k)
items_row n compound.end_of-Item = refl
items_row n (compound.more_of-Item i rest) = ap (t.items (view_item i)) (items_row _ rest)
