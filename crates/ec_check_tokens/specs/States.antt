-- The overflow states at a token of a unit (ISO/IEC TR 18037:2008, 4.1.3 and A.4; ISO/IEC 9899:1999, 6.10.6): a pragma holds
-- from where it stands to the next one, or to the end of the compound statement or of the unit in which it stands; behind the
-- compound statement the states are those before it. Braces and pragmas are tokens, and no tree is asked for.
use Rattle.std.specs.Prelude.{ℕ, Bool, true, false, List, [], ◌∷◌, take}
use Rattle.ec_grammar.specs.declared.token.PragmaKind.{PragmaKind}
use Rattle.ec_grammar.specs.declared.token.PragmaKind.TheVariants.{Precision, Fract, Accum}
use Rattle.ec_grammar.specs.declared.token.PragmaState.{PragmaState}
use Rattle.ec_grammar.specs.declared.token.PragmaState.TheVariants.{Sat}
use Rattle.ec_grammar.specs.declared.token.PunctKind.TheVariants.{LeftBrace, RightBrace}
use Rattle.ec_grammar.specs.Tokens.{Lexeme, punct, pragma, Placed}
use Rattle.ec_check_operands.specs.declared.operands.Modes.{Modes}

-- both states are DEFAULT at the beginning of a unit
abbrev pub at_first : Modes
at_first = record { fract = false; accum = false }

abbrev pub saturates : PragmaState → Bool
saturates Sat = true
saturates other = false

-- a pragma sets the state of its family of types; that of precision sets none
abbrev pub behind_pragma : PragmaKind → PragmaState → Modes → Modes
behind_pragma Fract state m = record { fract = saturates state; accum = m.accum }
behind_pragma Accum state m = record { fract = m.fract; accum = saturates state }
behind_pragma Precision state m = m

-- the states in the unit and in the braces that are open, those of the innermost first
abbrev pub behind_token : Lexeme → List Modes → List Modes
behind_token (pragma which state) (m ∷ outer) = behind_pragma which state m ∷ outer
behind_token (punct LeftBrace) (m ∷ outer) = m ∷ (m ∷ outer)
behind_token (punct RightBrace) (m ∷ outer) = outer
behind_token other states = states

abbrev pub behind_tokens : List Placed → List Modes → List Modes
behind_tokens [] states = states
behind_tokens (x ∷ xs) states = behind_tokens xs (behind_token x.lexeme states)

abbrev pub innermost : List Modes → Modes
innermost [] = at_first
innermost (m ∷ outer) = m

-- the states at the token with an index
abbrev pub state_at : List Placed → ℕ → Modes
state_at tokens n = innermost (behind_tokens (take n tokens) (at_first ∷ []))
