-- What is known of names at a place, passed on.
use Rattle.std.specs.Prelude.{ℕ, Bool, if◌then◌else◌, is_some, option_map, Option, Some, None}
use Rattle.std.specs.Prelude.{List, [], ◌∷◌, ◌++◌, map, take, drop}
use Rattle.std.specs.Str.{bytes_eq}
use Rattle.ec_space.specs.declared.space.SpaceId.{SpaceId}
use Rattle.ec_core.specs.Plain.{PlainType, plain_type}
use Rattle.ec_check_names.specs.declared.names.Entry as entry
use Rattle.ec_check_names.specs.declared.names.Named as named
use Rattle.ec_check_names.specs.declared.names.Named.TheVariants as kinds
use Rattle.ec_check_names.specs.declared.names.Names as names
use Rattle.ec_check_names.specs.Tables.{Table, table_of, at_name, with_name}

-- what a name stands for: an object, with its number where a unit defines it, its type where its declaration breaks no
-- rule, whether it is const, its space, and whether it stands in a named register; or a function, with its number, its
-- result and its parameters
pub data Named : Type 0 where
  an_object : (number : Option ℕ) → Option PlainType → (konst : Bool) → SpaceId → (register : Bool) → Named
  a_function : (number : Option ℕ) → Option PlainType → Option (List PlainType) → Named

pub record Entry : Type 0 where
  pub name : List ℕ
  pub what : Named

-- the names at file scope, and those of blocks, the newest last
pub record Names : Type 0 where
  pub outside : Table Named
  pub inside : List Entry

abbrev pub plain_named : named.Named → Named
plain_named (kinds.Object number ty konst space register) =
    an_object number (option_map plain_type ty) konst space register
plain_named (kinds.Function number returns params) =
    a_function number (option_map plain_type returns) (option_map (λ ts. map plain_type ts.items) params)

abbrev pub plain_entry : entry.Entry → Entry
plain_entry e = record { name = e.name.items; what = plain_named e.what }

abbrev pub plain_names : names.Names → Names
plain_names s =
    record {
      outside = table_of plain_named s.outside.entries;
      inside = map plain_entry s.inside.items;
    }

abbrev pub no_names : Names
no_names = record { outside = []; inside = [] }

-- the last of the entries with a name, or what was found before
abbrev pub newest_from : Option Named → List ℕ → List Entry → Option Named
newest_from best n [] = best
newest_from best n (e ∷ es) = newest_from (if bytes_eq e.name n then Some e.what else best) n es

-- the newest entry of blocks with a name
abbrev pub newest : List ℕ → List Entry → Option Named
newest n es = newest_from None n es

abbrev pub or_else : {X : Type 0} → Option X → Option X → Option X
or_else None y = y
or_else (Some x) y = Some x

-- what a name stands for: an inner declaration hides an outer one
abbrev pub found : List ℕ → Names → Option Named
found n s = or_else (newest n s.inside) (at_name n s.outside)

-- the names with one more at file scope; a later declaration of the name takes the place of an earlier one
abbrev pub with_outside : List ℕ → Named → Names → Names
with_outside n what s = record { outside = with_name n what s.outside; inside = s.inside }

-- the names with one more in a block
abbrev pub with_inside : List ℕ → Named → Names → Names
with_inside n what s = record { outside = s.outside; inside = s.inside ++ record { name = n; what = what } ∷ [] }

-- the names behind a block that began where blocks had so many names
abbrev pub closed : ℕ → Names → Names
closed names s = record { outside = s.outside; inside = take names s.inside }

-- whether a name was declared in a block that began where blocks had so many names
abbrev pub is_declared_since : ℕ → List ℕ → Names → Bool
is_declared_since names n s = is_some (newest n (drop names s.inside))
