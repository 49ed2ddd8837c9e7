-- Programs whose `main` returns 0: one without objects, one with four variables, and one with a variable of the home far.
use Rattle.std.specs.Prelude.{ℕ, pos, Bool, true, false, List, [], ◌∷◌, Some}
use Rattle.ec_space.specs.declared.space.Home.{Home}
use Rattle.ec_space.specs.declared.space.Home.TheVariants as homes
use Rattle.ec_space.specs.declared.space.SpaceId.{SpaceId}
use Rattle.ec_space.specs.declared.space.SpaceId.TheVariants as space
use Rattle.ec_core.specs.Plain.{expression, number, statement, return_value, static, PlainObject, PlainFunction, PlainProgram}
use Rattle.ec_core.specs.Typing.{int}
use Rattle.ec_core.specs.declared.programs.LeafInit.TheVariants.{Number}

-- an int variable with an initial value, and a name of one byte
abbrev pub variable : (name : ℕ) (external : Bool) → SpaceId → Home → (value : ℕ) → PlainObject
variable name external space home value = record {
  name = name ∷ [];
  unit = 0;
  external = external;
  ty = int;
  space = space;
  home = home;
  const = false;
  storage = static (Number (pos value) ∷ []);
}

-- q, r and t, which is kept in flash, are external, and s is not
abbrev pub variables : Bool → List PlainObject
variables false = []
variables true =
    variable 113 true space.Data homes.Data 7 ∷ variable 114 true space.Data homes.Data 8
    ∷ variable 116 true space.Flash homes.Flash 9 ∷ variable 115 false space.Data homes.Data 5 ∷ []

-- int main(void) { return 0; }
abbrev pub main_function : PlainFunction
main_function = record {
  name = [];
  unit = 0;
  returns = int;
  params = [];
  body = statement 0 0 (return_value (Some (expression int (record { saturate = false }) (number (pos 0)))));
}

abbrev pub program_of : List PlainObject → PlainProgram
program_of objects = record { structs = []; objects = objects; functions = main_function ∷ []; main = 0 }

abbrev pub sample : Bool → PlainProgram
sample some = program_of (variables some)

-- f, which is external
abbrev pub far_sample : PlainProgram
far_sample = program_of (variable 102 true space.FarFlash homes.Far 3 ∷ [])
