-- The tests of types by which operations count are those by which they have code.
use Rattle.std.proofs.Common.{◌≡◌, Bool, true, false, [], ◌∷◌, refl, sym, ap, ◌∙◌}
use Rattle.std.specs.Prelude.{◌&&◌, ◌||◌}
use Rattle.std.proofs.lemmas.Bool.{false≢true, and_parts}
use Rattle.ec_fx.specs.declared.formats.FxKind.{FxKind}
use Rattle.ec_fx.specs.declared.numbers.Mode.{Mode}
use Rattle.ec_core.specs.declared.expressions.BinOp.{BinOp}
use Rattle.ec_core.specs.declared.expressions.BinOp.TheVariants.{Add, Sub, Mul, Div, Rem, And, Or, Xor, Lt, Gt, Le, Ge}
use Rattle.ec_core.specs.declared.expressions.BinOp.TheVariants.{Eq, Ne, Shl, Shr}
use Rattle.ec_core.specs.Operators.{same_bool, same_kind, same_type}
use Rattle.ec_core.specs.Plain.{PlainType, void, integer, fixed, pointer, array, struct}
use Rattle.ec_core.proofs.Sameness.{type_true}
use Rattle.ec_ir_shapes.specs.Costs.{are_exact, any_fixed, any_pointer, any_same}
use Rattle.ec_ir_shapes.specs.Costs.{is_fixed as counts_fixed, is_pointer as counts_pointer, has_one_format as counts_format}
use Rattle.ec_select_operations.specs.Code.{family_of, has_one_format, is_on_integers}
use Rattle.ec_select_operations.specs.Needs.{is_fixed}
use Rattle.ec_select_operations.specs.Pointers.{is_pointer}

-- ---- one type

pub same_fixed : (ty : PlainType) → counts_fixed ty ≡ is_fixed ty
same_fixed void = refl
same_fixed (integer s n) = refl
same_fixed (fixed k s) = refl
same_fixed (pointer s c t) = refl
same_fixed (array t n) = refl
same_fixed (struct n) = refl

pub same_pointer : (ty : PlainType) → counts_pointer ty ≡ is_pointer ty
same_pointer void = refl
same_pointer (integer s n) = refl
same_pointer (fixed k s) = refl
same_pointer (pointer s c t) = refl
same_pointer (array t n) = refl
same_pointer (struct n) = refl

-- ---- two types of one format

pub same_format : (a b : PlainType) → counts_format a b ≡ has_one_format a b
same_format (fixed k s) (fixed j t) = refl
same_format (fixed k s) void = refl
same_format (fixed k s) (integer t n) = refl
same_format (fixed k s) (pointer t c u) = refl
same_format (fixed k s) (array t n) = refl
same_format (fixed k s) (struct n) = refl
same_format void b = refl
same_format (integer s n) b = refl
same_format (pointer s c t) b = refl
same_format (array t n) b = refl
same_format (struct n) b = refl

-- an operator that counts as one on integers is one
in_format : (op : BinOp) (mode : Mode) (ty a b : PlainType) → are_exact op mode ty (a ∷ b ∷ []) ≡ true
    → are_exact op mode ty (a ∷ b ∷ []) ≡ is_on_integers (family_of op) mode ty a b
    → is_on_integers (family_of op) mode ty a b ≡ true
in_format op mode ty a b h e = sym e ∙ h

pub no_format : (x : Bool) → (x && false) ≡ true → ⊥
no_format x h = false≢true (and_parts x false h).1

pub on_integers_too : (op : BinOp) (mode : Mode) (ty a b : PlainType) → are_exact op mode ty (a ∷ b ∷ []) ≡ true
    → is_on_integers (family_of op) mode ty a b ≡ true
on_integers_too Add mode ty a b h = in_format Add mode ty a b h (rw (same_format a b, same_format ty a) refl)
on_integers_too Sub mode ty a b h = in_format Sub mode ty a b h (rw (same_format a b, same_format ty a) refl)
on_integers_too Lt mode ty a b h = in_format Lt mode ty a b h (rw (same_format a b) refl)
on_integers_too Gt mode ty a b h = in_format Gt mode ty a b h (rw (same_format a b) refl)
on_integers_too Le mode ty a b h = in_format Le mode ty a b h (rw (same_format a b) refl)
on_integers_too Ge mode ty a b h = in_format Ge mode ty a b h (rw (same_format a b) refl)
on_integers_too Eq mode ty a b h = in_format Eq mode ty a b h (rw (same_format a b) refl)
on_integers_too Ne mode ty a b h = in_format Ne mode ty a b h (rw (same_format a b) refl)
on_integers_too Mul mode ty a b h = absurd (no_format (counts_format a b) h)
on_integers_too Div mode ty a b h = absurd (no_format (counts_format a b) h)
on_integers_too Rem mode ty a b h = absurd (no_format (counts_format a b) h)
on_integers_too And mode ty a b h = absurd (no_format (counts_format a b) h)
on_integers_too Or mode ty a b h = absurd (no_format (counts_format a b) h)
on_integers_too Xor mode ty a b h = absurd (no_format (counts_format a b) h)
on_integers_too Shl mode ty a b h = absurd (no_format (counts_format a b) h)
on_integers_too Shr mode ty a b h = absurd (no_format (counts_format a b) h)

-- other operators count as none
pub never_exact : (op : BinOp) (mode : Mode) (ty a b : PlainType) → (is_fixed a || is_fixed b) ≡ false
    → are_exact op mode ty (a ∷ b ∷ []) ≡ false
never_exact op mode ty (fixed k s) b h = absurd (false≢true (sym h))
never_exact op mode ty void b h = refl
never_exact op mode ty (integer s n) b h = refl
never_exact op mode ty (pointer s c t) b h = refl
never_exact op mode ty (array t n) b h = refl
never_exact op mode ty (struct n) b h = refl

-- ---- types of which one is fixed-point or a pointer

one_more : (x y z : Bool) → (y || z) ≡ true → (x || (y || (z || false))) ≡ true
one_more true y z h = refl
one_more false true z h = refl
one_more false false true h = refl
one_more false false false h = absurd (false≢true h)

pub some_fixed : (ty a b : PlainType) → (is_fixed a || is_fixed b) ≡ true
    → (counts_fixed ty || any_fixed (a ∷ b ∷ [])) ≡ true
some_fixed ty a b h = rw (same_fixed a, same_fixed b) (one_more (counts_fixed ty) (is_fixed a) (is_fixed b) h)

pub some_pointer : (ty a b : PlainType) → (is_pointer a || is_pointer b) ≡ true
    → (counts_pointer ty || any_pointer (a ∷ b ∷ [])) ≡ true
some_pointer ty a b h = rw (same_pointer a, same_pointer b) (one_more (counts_pointer ty) (is_pointer a) (is_pointer b) h)

-- ---- conversions

pub fixed_count : (ty a : PlainType) → (counts_fixed ty || any_fixed (a ∷ [])) ≡ (is_fixed ty || is_fixed a)
fixed_count ty a = rw (same_fixed ty, same_fixed a) (or_false (is_fixed ty) (is_fixed a)) where
  or_false : (x y : Bool) → (x || (y || false)) ≡ (x || y)
  or_false true y = refl
  or_false false true = refl
  or_false false false = refl

pub pointer_count : (ty a : PlainType) → is_pointer a ≡ true → (counts_pointer ty || any_pointer (a ∷ [])) ≡ true
pointer_count ty a h = rw (same_pointer a, h) (last_true (counts_pointer ty)) where
  last_true : (x : Bool) → (x || (true || false)) ≡ true
  last_true true = refl
  last_true false = refl

without_last : (x : Bool) → (x || false) ≡ true → x ≡ true
without_last true e = refl
without_last false e = absurd (false≢true e)

format_of_kind : (ty : PlainType) (j : FxKind) (t : Bool) → any_same ty (fixed j t ∷ []) ≡ true
    → has_one_format ty (fixed j t) ≡ true
format_of_kind (fixed k s) j t h =
    (and_parts (same_kind k j) (same_bool s t) (without_last (same_kind k j && same_bool s t) h)).0
format_of_kind void j t h = absurd (false≢true h)
format_of_kind (integer s n) j t h = absurd (false≢true h)
format_of_kind (pointer s c u) j t h = absurd (false≢true h)
format_of_kind (array u n) j t h = absurd (false≢true h)
format_of_kind (struct n) j t h = absurd (false≢true h)

neither_fixed : (ty a : PlainType) → is_fixed a ≡ false → any_same ty (a ∷ []) ≡ true → (is_fixed ty || is_fixed a) ≡ true → ⊥
neither_fixed ty a none h f =
    let e : ty ≡ a = type_true ty a (without_last (same_type ty a) h) in
    false≢true (sym (ap (λ z. is_fixed z || is_fixed a) e ∙ ap (λ z. z || z) none) ∙ f)

-- one fixed-point type has one format
pub format_of_same : (ty a : PlainType) → any_same ty (a ∷ []) ≡ true → (is_fixed ty || is_fixed a) ≡ true
    → has_one_format ty a ≡ true
format_of_same ty (fixed j t) h f = format_of_kind ty j t h
format_of_same ty void h f = absurd (neither_fixed ty void refl h f)
format_of_same ty (integer s n) h f = absurd (neither_fixed ty (integer s n) refl h f)
format_of_same ty (pointer s c u) h f = absurd (neither_fixed ty (pointer s c u) refl h f)
format_of_same ty (array u n) h f = absurd (neither_fixed ty (array u n) refl h f)
format_of_same ty (struct n) h f = absurd (neither_fixed ty (struct n) refl h f)
