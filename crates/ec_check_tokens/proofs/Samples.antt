-- The overflow states in small lists of tokens.
use Rattle.std.proofs.Common.{◌≡◌, refl, true, false, List, [], ◌∷◌}
use Rattle.ec_grammar.specs.declared.token.PragmaKind.TheVariants.{Precision, Fract, Accum}
use Rattle.ec_grammar.specs.declared.token.PragmaState.TheVariants.{Sat, Default}
use Rattle.ec_grammar.specs.declared.token.PunctKind.TheVariants.{LeftBrace, RightBrace}
use Rattle.ec_grammar.specs.Tokens.{Lexeme, name, punct, pragma, Placed}
use Rattle.ec_check_tokens.specs.States.{state_at}

abbrev token : Lexeme → Placed
token x = record { at = 0; lexeme = x }

abbrev some_name : Placed
some_name = token (name (120 ∷ []))

-- a pragma outside, x, `{`, one for _Accum, x, `{`, both the other way round, x, `}`, x, `}`, x, one of precision, x
abbrev nested : List Placed
nested =
    token (pragma Fract Sat) ∷ some_name ∷ token (punct LeftBrace) ∷ token (pragma Accum Sat) ∷ some_name ∷ token (punct LeftBrace)
    ∷ token (pragma Fract Default) ∷ token (pragma Accum Default) ∷ some_name ∷ token (punct RightBrace) ∷ some_name
    ∷ token (punct RightBrace) ∷ some_name ∷ token (pragma Precision Sat) ∷ some_name ∷ []

-- before the first pragma
at_the_beginning : state_at nested 0 ≡ record { fract = false; accum = false }
at_the_beginning = refl

outside : state_at nested 1 ≡ record { fract = true; accum = false }
outside = refl

in_the_block : state_at nested 4 ≡ record { fract = true; accum = true }
in_the_block = refl

in_the_inner_block : state_at nested 8 ≡ record { fract = false; accum = false }
in_the_inner_block = refl

-- the pragmas of a block do not hold behind it
behind_the_inner_block : state_at nested 10 ≡ record { fract = true; accum = true }
behind_the_inner_block = refl

behind_the_block : state_at nested 12 ≡ record { fract = true; accum = false }
behind_the_block = refl

-- a pragma of precision changes nothing
behind_precision : state_at nested 14 ≡ record { fract = true; accum = false }
behind_precision = refl
