-- Shapes of operations are the same where operators, types and modes are: the number of bytes follows from the types.
use Rattle.std.proofs.Common.{◌≡◌, ◌==◌, Bool, true, false, ◌&&◌, [], ◌∷◌, refl, eq-eqb}
use Rattle.ec_core.specs.declared.expressions.BinOp.{BinOp}
use Rattle.ec_core.specs.Operators.{same_type}
use Rattle.ec_core.specs.Plain.{PlainType}
use Rattle.ec_core.specs.Words.{widest}
use Rattle.ec_core.proofs.Sameness.{type_true}
use Rattle.ec_core_shapes.specs.Shapes.{binary_number, same_mode, same_shape}
use Rattle.ec_core_shapes.specs.Shapes.{binary_shape, conversion_shape}
use Rattle.ec_fx.specs.declared.numbers.Mode.{Mode}

-- tests of which the last one holds where the others do
last_follows : (o x y z m w : Bool) → (x ≡ true → y ≡ true → z ≡ true → w ≡ true)
    → (o && x && (y && (z && true)) && m && w) ≡ (o && (x && y && z) && m)
last_follows false x y z m w h = refl
last_follows true false y z m w h = refl
last_follows true true false z m w h = refl
last_follows true true true false m w h = refl
last_follows true true true true false w h = refl
last_follows true true true true true w h = rw (h refl refl refl) refl

pub binary_same : (op o : BinOp) (ty r a l b q : PlainType) (m n : Mode)
    → same_shape (binary_shape op ty m a b) (binary_shape o r n l q)
    ≡ ((binary_number op == binary_number o) && (same_type ty r && same_type a l && same_type b q) && same_mode m n)
binary_same op o ty r a l b q m n =
    last_follows (binary_number op == binary_number o) (same_type ty r) (same_type a l) (same_type b q) (same_mode m n)
    (widest (ty ∷ a ∷ b ∷ []) == widest (r ∷ l ∷ q ∷ []))
    (λ h i j.
    let x = type_true ty r h in
    let y = type_true a l i in
    let z = type_true b q j in
    eq-eqb (widest (ty ∷ a ∷ b ∷ [])) (widest (r ∷ l ∷ q ∷ [])) cc)

two_follow : (x y m w : Bool) → (x ≡ true → y ≡ true → w ≡ true)
    → (x && (y && true) && m && w) ≡ (x && y && m)
two_follow false y m w h = refl
two_follow true false m w h = refl
two_follow true true false w h = refl
two_follow true true true w h = rw (h refl refl) refl

pub conversion_same : (ty r a l : PlainType) (m n : Mode)
    → same_shape (conversion_shape ty m a) (conversion_shape r n l) ≡ (same_type ty r && same_type a l && same_mode m n)
conversion_same ty r a l m n =
    two_follow (same_type ty r) (same_type a l) (same_mode m n) (widest (ty ∷ a ∷ []) == widest (r ∷ l ∷ []))
    (λ h i.
    let x = type_true ty r h in
    let y = type_true a l i in
    eq-eqb (widest (ty ∷ a ∷ [])) (widest (r ∷ l ∷ [])) cc)
