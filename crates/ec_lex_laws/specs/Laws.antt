-- Constants of a text stand for numbers of their types (ISO/IEC 9899:1999, 6.4.4; ISO/IEC TR 18037:2008, 4.1.5).
use Rattle.std.specs.Prelude.{ℕ, ⊤, false, pos, List}
use Rattle.std.specs.List.{AllByRecursion}
use Rattle.ec_grammar.specs.Tokens.{Lexeme, whole, fixed, Placed}
use Rattle.ec_core.specs.declared.arithmetic_types.Arithmetic.TheVariants.{Integer, Fixed}
use Rattle.ec_core.specs.ArithmeticValues.{HoldsNumber}
use Rattle.ec_lex.specs.Text.{Tokens}

-- a token that is a constant stands for a number of its type
abbrev pub IsHeld : Lexeme → Type 0
IsHeld (whole n signed bytes) = HoldsNumber (Integer (record { signed = signed; bytes = bytes })) (pos n)
IsHeld (fixed kind n) = HoldsNumber (Fixed (record { kind = kind; sat = false })) n
IsHeld x = ⊤

-- so does each constant among the tokens of a text
abbrev pub TextsHoldNumbers : Type 0
TextsHoldNumbers =
    (bytes : List ℕ) (list : List Placed) → Tokens bytes list → AllByRecursion (λ token. IsHeld token.lexeme) list
