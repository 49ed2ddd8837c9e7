-- Identifiers, and what a name designates in a table: a port or, of the other name space, a group of ports or a dynamic
-- group (ISO/IEC TR 18037:2008, 6; ISO/IEC 9899:1999, 6.4.2).
use Rattle.std.specs.Prelude.{ℕ, ◌==◌, nat_le, Bool, false, ◌&&◌, ◌||◌, if◌then◌else◌, List, [], ◌∷◌, Option}
use Rattle.std.specs.Prelude.{option_map, position}
use Rattle.std.specs.List.{list_all}
use Rattle.std.specs.Option.{option_or}
use Rattle.std.specs.Str.{bytes_eq}
use Rattle.ec_iohw.specs.declared.table.Designator.{Designator}
use Rattle.ec_iohw.specs.declared.table.Designator.TheVariants.{Port, Group, Dynamic}
use Rattle.ec_iohw.specs.declared.table.IoTable.{IoTable}

-- a letter or `_`, then letters, digits and `_`
abbrev pub is_letter : ℕ → Bool
is_letter b = (nat_le 97 b && nat_le b 122) || ((nat_le 65 b && nat_le b 90) || (b == 95))

abbrev pub is_word : ℕ → Bool
is_word b = is_letter b || (nat_le 48 b && nat_le b 57)

abbrev pub is_identifier : List ℕ → Bool
is_identifier [] = false
is_identifier (b ∷ bs) = is_letter b && list_all is_word bs

-- the place of the first port, or of the first group, or else of the first dynamic group, with the name
abbrev pub designated : IoTable → List ℕ → Bool → Option Designator
designated io name group =
    if group then option_or (option_map Group (position (λ g. bytes_eq g.name.items name) io.groups.items))
    (option_map Dynamic (position (λ d. bytes_eq d.name.items name) io.dynamics.items))
    else option_map Port (position (λ p. bytes_eq p.name.items name) io.ports.items)
