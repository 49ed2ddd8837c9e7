-- A constant stands for a number of its type.
use Rattle.std.proofs.Common.{◌≡◌, ◌≤◌, ◌-◌, ◌*◌, ◌^◌, ℕ, Bool, true, false, ◌&&◌, List, [], ◌∷◌, refl, subst, ℤ, pos, ◌≤ℤ◌, inl, inr}
use Rattle.std.proofs.Common.{arith}
use Rattle.std.specs.Prelude.{if◌then◌else◌, ◌==◌, nat_le, int_lt, Option, Some, None}
use Rattle.std.specs.List.{AllByRecursion}
use Rattle.std.proofs.lemmas.Bool.Decides.{nat_tests}
use Rattle.std.proofs.lemmas.Int.{ints}
use Rattle.std.proofs.lemmas.Nat.{pow_pos}
use Rattle.ec_fx.specs.declared.formats.Format.{Format}
use Rattle.ec_fx.specs.declared.numbers.Fixed.{Fixed}
use Rattle.ec_fx.specs.declared.numbers.Fx.{Fx}
use Rattle.ec_fx.specs.declared.numbers.Fx.TheVariants.{Got, Overflow}
use Rattle.ec_fx.specs.declared.numbers.Mode.{Mode}
use Rattle.ec_fx.specs.Constants.{exact_constant, value_of_constant}
use Rattle.ec_fx.specs.Formats.{format_of, is_fract}
use Rattle.ec_fx.specs.Ranges.{least, greatest, IsWithin}
use Rattle.ec_fx.specs.Results.{clamped, fit}
use Rattle.ec_fx.specs.Rounding.{rounded}
use Rattle.ec_grammar.specs.Tokens.{Lexeme, whole}
use Rattle.ec_core.specs.Layout.{IsIntegerSize}
use Rattle.ec_lex.specs.Constants.{IntegerType, types_tried, greatest_of, first_holding, IsConstant, integer, fixed_point, value_from}
use Rattle.ec_lex.specs.Pieces.{is_plain, escaped}
use Rattle.ec_lex_laws.specs.Laws.{IsHeld}

pub if_both : {A : Type 0} → (P : A → Type 0) (b : Bool) (x y : A) → (b ≡ true → P x) → (b ≡ false → P y) → P (if b then x else y)
if_both P true x y h k = h refl
if_both P false x y h k = k refl

-- ---- integer constants

-- a type, and a number up to its greatest
abbrev Holds : ℕ → IntegerType → Type 0
Holds n t = IsIntegerSize t.bytes × (nat_le n (greatest_of t) ≡ true)

first_holds : (n : ℕ) (ts : List IntegerType) (t : IntegerType) → AllByRecursion (λ u. IsIntegerSize u.bytes) ts
    → first_holding n ts ≡ Some t → Holds n t
first_holds n [] t h e = absurd (nothing e)
  where
    nothing : ◌≡◌ {A = Option IntegerType} None (Some t) → ⊥
    nothing e = cc
first_holds n (u ∷ ts) t h e =
    if_both (λ o. o ≡ Some t → Holds n t) (nat_le n (greatest_of u)) (Some u) (first_holding n ts)
    (λ q s. let same : u ≡ t = cc in subst (Holds n) same (h.0, q)) (λ q s. first_holds n ts t h.1 s) e

two : IsIntegerSize 2
two = inr (inl refl)

four : IsIntegerSize 4
four = inr (inr refl)

tried_sizes : (decimal unsigned long : Bool) → AllByRecursion (λ u. IsIntegerSize u.bytes) (types_tried decimal unsigned long)
tried_sizes true false false = (two, (four, tt))
tried_sizes false false false = (two, (two, (four, (four, tt))))
tried_sizes true true false = (two, (four, tt))
tried_sizes false true false = (two, (four, tt))
tried_sizes true false true = (four, tt)
tried_sizes false false true = (four, (four, tt))
tried_sizes true true true = (four, tt)
tried_sizes false true true = (four, tt)

up_to : (n m : ℕ) → nat_le n m ≡ true → n ≤ m
up_to n m e = grind (arith, nat_tests, e)

within_signed : (bits n : ℕ) → n ≤ 2 ^ (bits - 1) - 1 → IsWithin true bits (pos n)
within_signed bits n h = record { low = omega (arith, ints); high = omega (arith, ints) }

within_unsigned : (bits n : ℕ) → n ≤ 2 ^ bits - 1 → IsWithin false bits (pos n)
within_unsigned bits n h = record { low = omega (arith, ints); high = omega (arith, ints) }

whole_held : (n : ℕ) (signed : Bool) (bytes : ℕ) → nat_le n (2 ^ (8 * bytes - (if signed then 1 else 0)) - 1) ≡ true
    → IsWithin signed (8 * bytes) (pos n)
whole_held n true bytes e = within_signed (8 * bytes) n (up_to n (2 ^ (8 * bytes - 1) - 1) e)
whole_held n false bytes e =
    let same : 8 * bytes - 0 ≡ 8 * bytes = omega arith in
    within_unsigned (8 * bytes) n (subst (λ (b : ℕ). n ≤ 2 ^ b - 1) same (up_to n (2 ^ (8 * bytes - 0) - 1) e))

-- ---- character constants

plain_small : (v : ℕ) → is_plain v ≡ true → v ≤ 126
plain_small v e = grind (arith, nat_tests, e)

escape_small : (b v : ℕ) → escaped b ≡ Some v → v ≤ 126
escape_small b v e =
    if_both P (b == 110) (Some 10) (if b == 114 then Some 13 else if b == 116 then Some 9 else if b == 48 then Some 0 else if b == 92
    then Some 92 else if b == 39 then Some 39 else None)
    (small 10 (omega arith)) (λ q. if_both P (b == 114) (Some 13)
    (if b == 116 then Some 9 else if b == 48 then Some 0 else if b == 92 then Some 92 else if b == 39 then Some 39 else None)
    (small 13 (omega arith))
    (λ q. if_both P (b == 116) (Some 9) (if b == 48 then Some 0 else if b == 92 then Some 92 else if b == 39 then Some 39 else None)
    (small 9 (omega arith)) (λ q. if_both P (b == 48) (Some 0) (if b == 92 then Some 92 else if b == 39 then Some 39 else None)
    (small 0 (omega arith)) (λ q. if_both P (b == 92) (Some 92) (if b == 39 then Some 39 else None)
    (small 92 (omega arith)) (λ q. if_both P (b == 39) (Some 39) None (small 39 (omega arith)) (λ q. none)))))) e
  where
    P : Option ℕ → Type 0
    P o = o ≡ Some v → v ≤ 126

    none : P None
    none e = absurd (let q : ⊥ = cc in q)

    small : (n : ℕ) → n ≤ 126 → {A : Type 0} → A → P (Some n)
    small n h q e = let same : n ≡ v = cc in subst (λ (m : ℕ). m ≤ 126) same h

pub character_held : (v : ℕ) → v ≤ 126 → IsHeld (whole v true 2)
character_held v h = (two, within_signed 16 v (omega arith))

pub plain_held : (v : ℕ) → is_plain v ≡ true → IsHeld (whole v true 2)
plain_held v e = character_held v (plain_small v e)

pub escape_held : (b v : ℕ) → escaped b ≡ Some v → IsHeld (whole v true 2)
escape_held b v e = character_held v (escape_small b v e)

-- ---- fixed-point constants

greatest_within : (signed : Bool) (bits : ℕ) → IsWithin signed bits (greatest signed bits)
greatest_within true bits = record { low = omega (arith, ints, pow_pos (bits - 1)); high = omega (arith, ints) }
greatest_within false bits = record { low = omega (arith, ints); high = omega (arith, ints) }

not_below : (a b : ℤ) → int_lt a b ≡ false → b ≤ℤ a
not_below a b e = grind (arith, ints, nat_tests, e)

module _ (to : Format) (x : Fixed) where
  abbrev Gives : Fx → Type 0
  Gives r = r ≡ Got x → IsWithin to.signed to.bits x.n

  got : (n : ℤ) → IsWithin to.signed to.bits n → Gives (Got (record { format = to; n = n }))
  got n h e =
      let same : record { format = to; n = n } ≡ x = cc in
      subst (λ (y : Fixed). IsWithin to.signed to.bits y.n) same h

  overflow : Gives Overflow
  overflow e = absurd (let q : ⊥ = cc in q)

  fit_gives : (n : ℤ) → Gives (fit to (record { saturate = false }) n)
  fit_gives n =
      let mode : Mode = record { saturate = false } in
      if_both Gives (int_lt (greatest to.signed to.bits) n) (clamped to mode (greatest to.signed to.bits))
      (if int_lt n (least to.signed to.bits) then clamped to mode (least to.signed to.bits) else Got (record { format = to; n = n }))
      (λ q. overflow)
      (λ q. if_both Gives (int_lt n (least to.signed to.bits)) (clamped to mode (least to.signed to.bits))
      (Got (record { format = to; n = n })) (λ r. overflow)
      (λ r. got n (record { low = not_below n (least to.signed to.bits) r; high = not_below (greatest to.signed to.bits) n q })))

  constant_gives : (digits places : ℕ) → Gives (value_of_constant digits places to)
  constant_gives digits places =
      if_both Gives (is_fract to && digits == 10 ^ places) (Got (record { format = to; n = greatest to.signed to.bits }))
      (fit to (record { saturate = false }) (rounded (exact_constant digits places to)))
      (λ q. got (greatest to.signed to.bits) (greatest_within to.signed to.bits))
      (λ q. fit_gives (rounded (exact_constant digits places to)))

pub constant_held : (t : List ℕ) (k : Lexeme) → IsConstant t k → IsHeld k
constant_held t k (integer prefix digits suffix base s ty i e h) =
    let g =
    first_holds (value_from base 0 digits) (types_tried (base == 10) s.unsigned s.long) ty (tried_sizes (base == 10) s.unsigned s.long) h in
    (g.0, whole_held (value_from base 0 digits) ty.signed ty.bytes g.1)
constant_held t k (fixed_point before after suffix kind x b a some few e h) = constant_gives (format_of kind) x _ _ h
