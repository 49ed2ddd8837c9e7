-- Types by their layers: what a pointer or an array has around the type that it is made of.
use Rattle.std.specs.Prelude.{List, [], ◌∷◌, Bool, true, ℕ, nat_lt}
use Rattle.ec_space.specs.declared.space.SpaceId.{SpaceId}
use Rattle.ec_core.specs.Plain.{PlainType, void, integer, fixed, pointer, array, struct}
use Rattle.ec_core.specs.declared.layers.Layer.{Layer}
use Rattle.ec_core.specs.declared.layers.Layer.TheVariants.{Pointer, Array}

-- a layer around a type
abbrev pub around : Layer → PlainType → PlainType
around (Pointer space konst) ty = pointer space konst ty
around (Array len) ty = array ty len

-- layers around a type, the outermost first
abbrev pub within : List Layer → PlainType → PlainType
within [] ty = ty
within (l ∷ ls) ty = around l (within ls ty)

-- the type of the value of an object of a type that stands in a space: of an array a pointer to its elements
abbrev pub value_type_of : SpaceId → Bool → PlainType → PlainType
value_type_of space konst (array of len) = pointer space konst of
value_type_of space konst ty = ty

-- whether the struct that a type is made of, where there is one, is among the first n
abbrev pub names_below : ℕ → PlainType → Bool
names_below n void = true
names_below n (integer signed bytes) = true
names_below n (fixed kind sat) = true
names_below n (pointer space konst to) = names_below n to
names_below n (array of len) = names_below n of
names_below n (struct index) = nat_lt index n
