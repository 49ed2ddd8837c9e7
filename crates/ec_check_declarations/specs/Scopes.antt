-- What is known at a place of a unit: what does not change in a function, and what each declaration adds to.
use Rattle.std.specs.Prelude.{ℕ, Bool, false, if◌then◌else◌, nat_lt, Option, Some, None, List, [], ◌∷◌, ◌++◌}
use Rattle.std.specs.Prelude.{length, map, unwrap_or}
use Rattle.ec_iohw.specs.declared.table.IoTable.{IoTable}
use Rattle.ec_iohw.specs.Valid.{ValidIo}
use Rattle.ec_space.specs.declared.space.Home.TheVariants.{Data}
use Rattle.ec_space.specs.declared.space.SpaceId.TheVariants.{Generic}
use Rattle.ec_core.specs.Layout.{AreStructs}
use Rattle.ec_core.specs.Plain.{PlainType, PlainStruct, plain_struct, PlainObject, plain_object, PlainStorage}
use Rattle.ec_check_operands.specs.declared.operands.Modes.{Modes}
use Rattle.ec_check_forms.specs.Accesses.{AreCounted}
use Rattle.ec_check_names.specs.Names.{Names, plain_names, an_object, with_inside}
use Rattle.ec_check_names.specs.Tags.{Tags, plain_tags}
use Rattle.ec_check_expressions.specs.Known.{Known}
use Rattle.ec_check_declarations.specs.declared.scopes.Context as context
use Rattle.ec_check_declarations.specs.declared.scopes.Scope as scope

-- the tags, the structs of the program so far, the ports, and the overflow states
pub record Context : Type 0 where
  pub tags : Tags
  pub structs : List PlainStruct
  pub ports : IoTable
  pub modes : Modes

abbrev pub plain_context : context.Context → Context
plain_context c =
    record {
      tags = plain_tags c.tags.now;
      structs = map plain_struct c.structs.now.items;
      ports = c.ports.now;
      modes = c.modes;
    }

-- the ports are those of a map, and the structs those of a program
pub record IsSoundContext (c : Context) : Type 0 where
  pub ports : ValidIo c.ports
  pub structs : AreStructs c.structs
  pub counted : AreCounted c.structs

-- the names, and the objects of the program so far
pub record Scope : Type 0 where
  pub names : Names
  pub objects : List PlainObject

abbrev pub plain_scope : scope.Scope → Scope
plain_scope s = record { names = plain_names s.names; objects = map plain_object s.objects.items }

-- what expressions know
abbrev pub known_in : Context → Names → Known
known_in c names =
    record {
      names = names;
      tags = c.tags;
      structs = c.structs;
      ports = c.ports;
      modes = c.modes;
    }

-- ---- objects of functions

-- a number of 16 bits is left for one more object
abbrev pub has_room : List PlainObject → Bool
has_room os = nat_lt (length os) 65_536

-- the number of an object that is made, where its type is known
abbrev pub made_number : Option PlainType → List PlainObject → Option ℕ
made_number None os = None
made_number (Some ty) os = if has_room os then Some (length os) else None

-- a parameter, or a local object: it stands in the generic space, and is kept in the data bank
abbrev pub inner_object : (unit : ℕ) → List ℕ → (konst : Bool) → PlainStorage → PlainType → PlainObject
inner_object unit n konst storage ty =
    record {
      name = n;
      unit = unit;
      external = false;
      ty = ty;
      space = Generic;
      home = Data;
      const = konst;
      storage = storage;
    }

-- the objects with one more, if its type is known
abbrev pub with_object : Option PlainType → (PlainType → PlainObject) → List PlainObject → List PlainObject
with_object None object os = os
with_object (Some ty) object os = if has_room os then os ++ object ty ∷ [] else os

-- an object of a function is declared
abbrev pub with_inner : (unit : ℕ) → List ℕ → Option PlainType → (konst : Bool) → PlainStorage → Scope → Scope
with_inner unit n ty konst storage s =
    record {
      names = with_inside n (an_object (Some (unwrap_or (made_number ty s.objects) 0)) ty konst Generic false) s.names;
      objects = with_object ty (inner_object unit n konst storage) s.objects;
    }
