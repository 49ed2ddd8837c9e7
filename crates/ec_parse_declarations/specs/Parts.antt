-- Parts of parameters and initialisers, as the functions that read them see them.
use Rattle.std.specs.Prelude.{ℕ, suc, max, List, Bool, false}
use Rattle.ec_grammar.specs.declared.token.PunctKind.TheVariants.{RightBrace}
use Rattle.ec_grammar.specs.declared.Spot.{Spot}
use Rattle.ec_grammar.specs.declared.Spec.{Spec}
use Rattle.ec_grammar.specs.declared.Spec.TheVariants as specs
use Rattle.ec_grammar.specs.declared.NextInitialiser.{NextInitialiser}
use Rattle.ec_grammar.specs.Grammar.{is_void}
use Rattle.ec_grammar.specs.Nesting.{height_initialiser, height_initialisers}
use Rattle.ec_grammar.specs.Trees as t
use Rattle.ec_grammar.specs.Trees.{Leaf}
use Rattle.ec_grammar.specs.Views.{view_initialiser}
use Rattle.ec_parse_laws.specs.Reading.{Read, ◌>>=◌, expected, ends, comma_at}

-- the word `void`
abbrev pub is_void_spec : Spec → Bool
is_void_spec (specs.Word s w) = is_void w
is_void_spec (specs.Struct s tag) = false

-- an initialiser behind its comma
abbrev pub view_next_initialiser : NextInitialiser → Spot × t.Initialiser
view_next_initialiser i = (i.comma, view_initialiser i.value)

-- what ends a list of initialisers in braces
abbrev pub braces_after : ℕ → Spot → t.Initialiser → t.Initialisers → List Leaf → Read t.Initialiser
braces_after room l x more ts = comma_at ts >>= λ c. expected RightBrace c.1 >>= λ r.
    ends room (suc (max (height_initialiser x) (height_initialisers more))) (t.braces l x more c.0 r.0) r.1
