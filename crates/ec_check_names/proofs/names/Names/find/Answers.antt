use Rattle.std.proofs.Common.{◌∙◌, ap, sym, map, option_map}
use Rattle.ec_check_names.specs.Names.{plain_named, plain_entry, newest}
use Rattle.ec_check_names.proofs.Tabled.{found_is, none_inside}
use Rattle.ec_check_names.proofs.names.Names.find.Goals as goal

pub returns-in-None : goal.returns-in-None
returns-in-None c =
    none_inside _ _ _ (ap (λ es. newest c.args.name.now.items (map plain_entry es)) (sym c.deref.ensures.value) ∙ sym c.in-None.ensures)
    (ap (option_map plain_named) c.get.ensures.value ∙ found_is plain_named c.args.name.now.items c.args.self.now.outside.entries)
