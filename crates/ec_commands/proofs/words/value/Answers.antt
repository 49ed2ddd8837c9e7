use Rattle.std.proofs.Common.{◌≡◌, ◌^◌, ◌<◌, ◌≤◌, ℕ, ℤ, Bool, true, false, List, length, drop, refl, arith, Err}
use Rattle.std.specs.Str.Parse.{AllDigits, IsNumeral, digits_value, starts_with_minus, ParsesSigned}
use Rattle.std.proofs.lemmas.Bool.{eqb-true}
use Rattle.std.proofs.lemmas.Str.Parse.{IsNumeralModel, digits_value_short, parse_signed_minus, parse_signed_digits}
use mir.Syntax.{w128}
use Rattle.ec_commands.specs.Words.{IsValue}
use Rattle.ec_commands.proofs.words.value.Goals as goal

own : IsNumeralModel (AllDigits 10) (digits_value 10)
own = record { to = λ ds d. d; from = λ ds d. d; same = λ ds d. refl }

fits : (digits : List ℕ) → AllDigits 10 digits → length digits ≤ 20 → digits_value 10 digits < 2 ^ 127
fits digits all short = omega (arith, digits_value_short own digits 20 all short)

abbrev IsUnread : List ℕ → Type 0
IsUnread text = ParsesSigned {E = Unit {0}} w128 10 text (Err (tt {0}))

-- a value is read: by its sign
read : (minus : Bool) (text : List ℕ) (v : ℤ) → starts_with_minus text ≡ minus → IsUnread text → IsValue text v → ⊥
read true text v is against h =
    let numeral : IsNumeral 10 (drop 1 text) = rw is at h.numeral in
    let short : length (drop 1 text) ≤ 20 = rw is at h.short in
    parse_signed_minus own w128 text (Err (tt {0})) against (eqb-true _ 45 is)
    (numeral.1, numeral.0, omega (arith, fits (drop 1 text) numeral.1 short))
read false text v is against h =
    let numeral : IsNumeral 10 text = rw is at h.numeral in
    let short : length text ≤ 20 = rw is at h.short in
    parse_signed_digits own w128 text (Err (tt {0})) against numeral.1 (numeral.0, fits text numeral.1 short)

pub returns-in-Err-clause-none : goal.returns-in-Err-clause-none
returns-in-Err-clause-none c = λ v h.
    read (starts_with_minus c.args.word.now) c.args.word.now v refl c.in-Err.ensures.value.0 h
