use Rattle.std.proofs.Common.{◌∷◌, ap}
use Rattle.ec_asm.specs.declared.items.AsmItem.TheVariants.{Label}
use Rattle.ec_select_operations.specs.Homes.{home}
use Rattle.ec_select_operations.proofs.laws.needed_functions_are_written.Goals as goal

pub returns : goal.returns
returns c = λ p k routine_of f at code.
    ap (λ items. Label (k.entry_of f) ∷ items) (c.needed_code_is_written.ensures p (home k.homes) k routine_of at code)
