-- The program of units by two tables that look alike.
use Rattle.std.proofs.Common.{◌≡◌, ℕ, ◌+◌, List, [], ◌∷◌, refl}
use Rattle.ec_grammar.specs.Trees.{Tree}
use Rattle.ec_iohw.specs.declared.table.IoTable.{IoTable}
use Rattle.ec_check_names.specs.Definitions.{Definition, definitions}
use Rattle.ec_check_file_scope.specs.States.{State, nothing_declared}
use Rattle.ec_check.specs.Units.{setting_of, after_units, main_of, program_by}
use Rattle.ec_check_ports.specs.Ports.{LookAlike, ProgramsGoByNames}
use Rattle.ec_check_ports.proofs.Units.{after_unit_same}

after_units_same : (here there : IoTable) → LookAlike here there → (ds : List Definition) (unit : ℕ) (us : List Tree) (s : State)
    → after_units ds here unit us s ≡ after_units ds there unit us s
after_units_same here there same ds unit [] s = refl
after_units_same here there same ds unit (u ∷ us) s =
    λ j. after_units_same here there same ds (unit + 1) us (after_unit_same here there same (setting_of ds here unit) u s j) j

pub programs_go_by_names : ProgramsGoByNames
programs_go_by_names us here there same =
    λ j. program_by (main_of (definitions us)) (after_units_same here there same (definitions us) 0 us nothing_declared j)
