-- Whether two words or two punctuators are the same, by their numbers.
use Rattle.std.specs.Prelude.{ℕ, ◌==◌, Bool}
use Rattle.ec_grammar.specs.declared.token.WordKind.{WordKind}
use Rattle.ec_grammar.specs.declared.token.WordKind.TheVariants as words
use Rattle.ec_grammar.specs.declared.token.PunctKind.{PunctKind}
use Rattle.ec_grammar.specs.declared.token.PunctKind.TheVariants as puncts

abbrev pub code_of_punct : PunctKind → ℕ
code_of_punct puncts.LeftBrace = 0
code_of_punct puncts.RightBrace = 1
code_of_punct puncts.LeftParenthesis = 2
code_of_punct puncts.RightParenthesis = 3
code_of_punct puncts.LeftBracket = 4
code_of_punct puncts.RightBracket = 5
code_of_punct puncts.Semicolon = 6
code_of_punct puncts.Comma = 7
code_of_punct puncts.Dot = 8
code_of_punct puncts.Arrow = 9
code_of_punct puncts.Increment = 10
code_of_punct puncts.Decrement = 11
code_of_punct puncts.Ampersand = 12
code_of_punct puncts.Star = 13
code_of_punct puncts.Plus = 14
code_of_punct puncts.Minus = 15
code_of_punct puncts.Tilde = 16
code_of_punct puncts.Not = 17
code_of_punct puncts.Slash = 18
code_of_punct puncts.Percent = 19
code_of_punct puncts.ShiftLeft = 20
code_of_punct puncts.ShiftRight = 21
code_of_punct puncts.Less = 22
code_of_punct puncts.Greater = 23
code_of_punct puncts.LessEqual = 24
code_of_punct puncts.GreaterEqual = 25
code_of_punct puncts.Equal = 26
code_of_punct puncts.NotEqual = 27
code_of_punct puncts.Caret = 28
code_of_punct puncts.Bar = 29
code_of_punct puncts.AndAnd = 30
code_of_punct puncts.OrOr = 31
code_of_punct puncts.Question = 32
code_of_punct puncts.Colon = 33
code_of_punct puncts.Assign = 34
code_of_punct puncts.StarAssign = 35
code_of_punct puncts.SlashAssign = 36
code_of_punct puncts.PercentAssign = 37
code_of_punct puncts.PlusAssign = 38
code_of_punct puncts.MinusAssign = 39
code_of_punct puncts.ShiftLeftAssign = 40
code_of_punct puncts.ShiftRightAssign = 41
code_of_punct puncts.AmpersandAssign = 42
code_of_punct puncts.CaretAssign = 43
code_of_punct puncts.BarAssign = 44

abbrev pub code_of_word : WordKind → ℕ
code_of_word words.Break = 0
code_of_word words.Char = 1
code_of_word words.Const = 2
code_of_word words.Continue = 3
code_of_word words.Do = 4
code_of_word words.Else = 5
code_of_word words.Extern = 6
code_of_word words.For = 7
code_of_word words.If = 8
code_of_word words.Int = 9
code_of_word words.Long = 10
code_of_word words.Register = 11
code_of_word words.Return = 12
code_of_word words.Short = 13
code_of_word words.Signed = 14
code_of_word words.Sizeof = 15
code_of_word words.Static = 16
code_of_word words.Struct = 17
code_of_word words.Unsigned = 18
code_of_word words.Void = 19
code_of_word words.While = 20
code_of_word words.Fract = 21
code_of_word words.Accum = 22
code_of_word words.Sat = 23
code_of_word words.Flash = 24
code_of_word words.FarFlash = 25
code_of_word words.Data = 26
code_of_word words.Int8 = 27
code_of_word words.Uint8 = 28
code_of_word words.Int16 = 29
code_of_word words.Uint16 = 30
code_of_word words.Int32 = 31
code_of_word words.Uint32 = 32

abbrev pub same_punct : PunctKind → PunctKind → Bool
same_punct a b = code_of_punct a == code_of_punct b

abbrev pub same_word : WordKind → WordKind → Bool
same_word a b = code_of_word a == code_of_word b
