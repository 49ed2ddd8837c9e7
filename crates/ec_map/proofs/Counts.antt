-- How many ports, groups and dynamic groups a table has that breaks no rule.
use Rattle.std.proofs.Common.{◌≡◌, ℕ, ◌≤◌, true, false, nat_le, List, [], length, Option, Some, None, codes, arith}
use Rattle.std.proofs.lemmas.Bool.{and_parts, leb-true, false≢true}
use Rattle.std.specs.Prelude.{option_and_then, unwrap_or}
use Rattle.std.specs.Option.{option_map_or}
use Rattle.std.specs.List.{list_all}
use Rattle.toml.specs.Data.{Data, get}
use Rattle.ec_map.specs.declared.keys.Kind.{Kind}
use Rattle.ec_map.specs.declared.keys.Kind.TheVariants.{PortTable, GroupTable, DynamicTable}
use Rattle.ec_map.specs.Values.{array_of}
use Rattle.ec_map.specs.Rules.{kept, broken, is_table_of, are_tables_of, is_array_of, ports_of, groups_of, dynamics_of}
use Rattle.ec_map.proofs.Kept.{rules_kept, kept_at}

few_values : (kind : Kind) (most : ℕ) (o : Option (List Data)) → option_map_or (are_tables_of kind most) o false ≡ true
    → length (unwrap_or o []) ≤ most
few_values kind most None h = absurd (false≢true h)
few_values kind most (Some ds) h =
    leb-true (length ds) most (and_parts (nat_le (length ds) most) (list_all (is_table_of kind) ds) h).0

few : (kind : Kind) (most : ℕ) (o : Option Data) → option_map_or (is_array_of kind most) o true ≡ true
    → length (unwrap_or (option_and_then array_of o) []) ≤ most
few kind most None h = omega arith
few kind most (Some d) h = few_values kind most (array_of d) h

pub few_ports : (d : Data) → broken d ≡ None → length (ports_of d) ≤ 64
few_ports d h = few PortTable 64 (get (codes "port") d) (kept_at (kept d) 7 (rules_kept d h))

pub few_groups : (d : Data) → broken d ≡ None → length (groups_of d) ≤ 16
few_groups d h = few GroupTable 16 (get (codes "group") d) (kept_at (kept d) 11 (rules_kept d h))

pub few_dynamics : (d : Data) → broken d ≡ None → length (dynamics_of d) ≤ 8
few_dynamics d h = few DynamicTable 8 (get (codes "dynamic") d) (kept_at (kept d) 18 (rules_kept d h))
