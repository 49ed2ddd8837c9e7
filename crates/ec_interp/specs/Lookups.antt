-- Parts of programs and states that an answer names by their numbers.
use Rattle.std.specs.Prelude.{ℕ, ◌+◌, max, if◌then◌else◌, List, [], ◌∷◌}
use Rattle.ec_core.specs.Accesses.{belongs_to, ended}
use Rattle.ec_core.specs.Layout.{scalar_size}
use Rattle.ec_core.specs.Plain.{PlainObject, PlainPlace, object, deref, member}
use Rattle.ec_core.specs.State.{State, with_object}
use Rattle.ec_core.specs.Typing.{type_of_expr}

-- the greatest number of bytes of the pointers in a place, and at least n
abbrev pub widest_from : PlainPlace → ℕ → ℕ
widest_from (object o) n = n
widest_from (deref e) n = max (scalar_size (type_of_expr e)) n
widest_from (member p i) n = widest_from p n

-- the objects of a function end, one after the other, from number i on
abbrev pub ended_from : ℕ → ℕ → List PlainObject → State → State
ended_from f i [] s = s
ended_from f i (o ∷ os) s = ended_from f (i + 1) os (if belongs_to f o.storage then with_object i ended s else s)
