-- Expressions with what they mean, by the relation alone, where c is a char, i an int and f a fract.
use Rattle.std.proofs.Common.{◌≡◌, ℕ, true, false, List, [], refl, inl}
use Rattle.std.specs.Prelude.{Some}
use Rattle.ec_fx.specs.declared.formats.FxKind.TheVariants.{Fract}
use Rattle.ec_space.specs.declared.space.SpaceId.TheVariants.{Data}
use Rattle.ec_core.specs.declared.arithmetic_types.Arithmetic.TheVariants.{Integer, Fixed}
use Rattle.ec_core.specs.declared.expressions.BinOp.TheVariants.{Add}
use Rattle.ec_core.specs.Plain.{PlainType, integer, fixed, PlainExpr, load, binary, convert, compound, object}
use Rattle.ec_core.specs.Typing.{int}
use Rattle.ec_check_names.specs.Names.{an_object, found}
use Rattle.ec_check_operands.specs.Operands.{value, made, mode_of}
use Rattle.ec_check_expressions.specs.Known.{Known}
use Rattle.ec_check_meanings.specs.Conversions.{as_it_is, changed, balanced, two_integers, integer_first, of_numbers}
use Rattle.ec_check_meanings.specs.Conversions.{of_both}
use Rattle.ec_check_meanings.specs.Means as r
use Rattle.ec_check_meanings.specs.Means.{Means, not_void}
use Rattle.ec_check_meanings.specs.Terms as term

abbrev char : PlainType
char = integer true 1

abbrev fract : PlainType
fract = fixed Fract false

module _ (k : Known) (c i f : List ℕ) (h : found c k.names ≡ Some (an_object (Some 0) (Some char) false Data false))
    (g : found i k.names ≡ Some (an_object (Some 1) (Some int) false Data false))
    (e : found f k.names ≡ Some (an_object (Some 2) (Some fract) false Data false)) where
  abbrev read : ℕ → PlainType → PlainExpr
  read n ty = made k.modes ty (load (object n))

  -- `c + i`: the char is converted to int at once
  sum : Means k (term.binary (term.name 0 c) 1 Add (term.name 2 i))
      (value (made k.modes int (binary Add (made k.modes int (convert (read 0 char))) (read 1 int))) false)
  sum = r.operated (not_void (r.named h) (λ q. cc)) (not_void (r.named g) (λ q. cc))
      (of_numbers refl refl (inl tt) (inl tt) (balanced tt two_integers) (changed (λ q. cc)) (as_it_is refl))

  -- `i + f` does not convert the int
  mixed : Means k (term.binary (term.name 0 i) 1 Add (term.name 2 f))
      (value (made k.modes fract (binary Add (read 1 int) (read 2 fract))) false)
  mixed = r.operated (not_void (r.named g) (λ q. cc)) (not_void (r.named e) (λ q. cc))
      (of_numbers refl refl (inl tt) (inl tt) (balanced tt integer_first) (as_it_is refl) (as_it_is refl))

  -- `c += f` converts nothing: its operation has the mode of a fract
  added : Means k (term.compound (term.name 0 c) 1 Add (term.name 2 f))
      (value (made k.modes char (compound Add (mode_of k.modes fract) (object 0) (read 2 fract))) false)
  added = r.compounded (not_void (r.named h) (λ q. cc)) (λ q. q) (not_void (r.named e) (λ q. cc)) (λ q. q) (inl tt) (inl tt)
      (inl (tt, tt)) (r.of_numbers {s = Integer (record { signed = true; bytes = 1 })} {t = Fixed (record { kind = Fract; sat = false })}
      refl refl
      (of_both (λ q. q)))
