-- Two names at file scope that meet, and do not conflict, were declared as the same.
use Rattle.std.proofs.Common.{◌≡◌, ◌∙◌, ◌+◌, ℕ, zero, suc, Bool, true, false, not, ◌&&◌, ◌||◌, List, [], ◌∷◌, length, refl, sym, ap, subst}
use Rattle.std.proofs.Common.{inl, inr, arith}
use Rattle.std.specs.Prelude.{◌⊎◌, ◌==◌, ⊤, Option, Some, None, slice_get}
use Rattle.std.specs.Str.{bytes_eq}
use Rattle.std.proofs.lemmas.Bool.{and_parts, not-false, false≢true, true≢false}
use Rattle.std.proofs.lemmas.Bool.Decides.{nat_tests}
use Rattle.std.proofs.lemmas.Slice.Eq.{bytes_eq-Decides}
use Rattle.ec_space.specs.declared.space.SpaceId.{SpaceId}
use Rattle.ec_space.specs.declared.space.SpaceId.TheVariants.{Flash, FarFlash, Data, Generic}
use Rattle.ec_core.specs.Operators.{same_type}
use Rattle.ec_core.specs.Plain.{PlainType}
use Rattle.ec_core.proofs.Sameness.{type_true}
use Rattle.ec_check_names.specs.declared.linkage.Linkage.{Linkage}
use Rattle.ec_check_names.specs.declared.linkage.Linkage.TheVariants.{Internal, External}
use Rattle.ec_check_names.specs.Definitions.{same_linkage, is_internal}
use Rattle.ec_check_file_scope.specs.FileNames.{FileKind, an_object, a_register, a_function, FileName, differ, same_space, same_bool}
use Rattle.ec_check_file_scope.specs.FileNames.{other_register}
use Rattle.ec_check_file_scope.specs.FileNames.{same_at, same_from, same_types, other_types, other_params, other_kind, is_external}
use Rattle.ec_check_file_scope.specs.FileNames.{meet, both_define, conflict}
use Rattle.ec_check.proofs.Firsts.{First}

-- ---- the same kind

-- two are one, where both are known
abbrev pub Agree : {X : Type 0} → Option X → Option X → Type 0
Agree (Some a) (Some b) = a ≡ b
Agree (Some a) None = ⊤
Agree None b = ⊤

abbrev pub AgreeKinds : FileKind → FileKind → Type 0
AgreeKinds (an_object a c s) (an_object b d r) = Agree a b × (c ≡ d) × (s ≡ r)
AgreeKinds (an_object a c s) (a_register q b d) = ⊥
AgreeKinds (an_object a c s) (a_function b count q) = ⊥
AgreeKinds (a_register p a c) (an_object b d r) = ⊥
AgreeKinds (a_register p a c) (a_register q b d) = Agree a b × (c ≡ d) × Agree p q
AgreeKinds (a_register p a c) (a_function b count q) = ⊥
AgreeKinds (a_function a count p) (an_object b d r) = ⊥
AgreeKinds (a_function a count p) (a_register q b d) = ⊥
AgreeKinds (a_function a count p) (a_function b number q) = Agree a b × Agree p q

agree_itself : {X : Type 0} (a : Option X) → Agree a a
agree_itself None = tt
agree_itself (Some a) = refl

agree_back : {X : Type 0} (a b : Option X) → Agree a b → Agree b a
agree_back None None h = tt
agree_back None (Some b) h = tt
agree_back (Some a) None h = tt
agree_back (Some a) (Some b) h = sym h

pub kind_itself : (x : FileKind) → AgreeKinds x x
kind_itself (an_object a c s) = (agree_itself a, refl, refl)
kind_itself (a_register p a c) = (agree_itself a, refl, agree_itself p)
kind_itself (a_function a count p) = (agree_itself a, agree_itself p)

pub kinds_back : (x y : FileKind) → AgreeKinds x y → AgreeKinds y x
kinds_back (an_object a c s) (an_object b d r) h = (agree_back a b h.0, sym h.1, sym h.2)
kinds_back (an_object a c s) (a_register q b d) h = h
kinds_back (an_object a c s) (a_function b count q) h = h
kinds_back (a_register p a c) (an_object b d r) h = h
kinds_back (a_register p a c) (a_register q b d) h = (agree_back a b h.0, sym h.1, agree_back p q h.2)
kinds_back (a_register p a c) (a_function b count q) h = h
kinds_back (a_function a count p) (an_object b d r) h = h
kinds_back (a_function a count p) (a_register q b d) h = h
kinds_back (a_function a count p) (a_function b number q) h = (agree_back a b h.0, agree_back p q h.1)

-- ---- from the tests

types_agree : (a b : Option PlainType) → differ a b ≡ false → Agree a b
types_agree None b e = tt
types_agree (Some a) None e = tt
types_agree (Some a) (Some b) e = type_true a b (not-false (same_type a b) e)

bools_agree : (c d : Bool) → not (same_bool c d) ≡ false → c ≡ d
bools_agree true true e = refl
bools_agree true false e = absurd (true≢false e)
bools_agree false true e = absurd (true≢false e)
bools_agree false false e = refl

spaces_agree : (s r : SpaceId) → not (same_space s r) ≡ false → s ≡ r
spaces_agree Flash Flash e = refl
spaces_agree Flash FarFlash e = absurd (true≢false e)
spaces_agree Flash Data e = absurd (true≢false e)
spaces_agree Flash Generic e = absurd (true≢false e)
spaces_agree FarFlash Flash e = absurd (true≢false e)
spaces_agree FarFlash FarFlash e = refl
spaces_agree FarFlash Data e = absurd (true≢false e)
spaces_agree FarFlash Generic e = absurd (true≢false e)
spaces_agree Data Flash e = absurd (true≢false e)
spaces_agree Data FarFlash e = absurd (true≢false e)
spaces_agree Data Data e = refl
spaces_agree Data Generic e = absurd (true≢false e)
spaces_agree Generic Flash e = absurd (true≢false e)
spaces_agree Generic FarFlash e = absurd (true≢false e)
spaces_agree Generic Data e = absurd (true≢false e)
spaces_agree Generic Generic e = refl

registers_agree : (p q : Option ℕ) → other_register p q ≡ false → Agree p q
registers_agree None q e = tt
registers_agree (Some a) None e = tt
registers_agree (Some a) (Some b) e = let same = not-false (a == b) e in grind (arith, nat_tests, same)

-- lists of types
is_at : (a : PlainType) (o : Option PlainType) → same_at a o ≡ true → o ≡ Some a
is_at a None e = absurd (false≢true e)
is_at a (Some b) e = ap Some (sym (type_true a b e))

from_at : (i : ℕ) (xs bs : List PlainType) → same_from i xs bs ≡ true → (j : ℕ) (x : PlainType) → slice_get xs j ≡ Some x
    → slice_get bs (i + j) ≡ Some x
from_at i [] bs e j x q = cc
from_at i (a ∷ more) bs e zero x q =
    let z : i ≡ i + 0 = omega arith in
    subst (λ n. slice_get bs n ≡ Some x) z
    (is_at a (slice_get bs i) (and_parts (same_at a (slice_get bs i)) (same_from (i + 1) more bs) e).0 ∙ q)
from_at i (a ∷ more) bs e (suc j) x q =
    let z : i + 1 + j ≡ i + suc j = omega arith in
    subst (λ n. slice_get bs n ≡ Some x) z
    (from_at (i + 1) more bs (and_parts (same_at a (slice_get bs i)) (same_from (i + 1) more bs) e).1 j x q)

first_equal : (xs ys : List PlainType) → First xs ys → length xs ≡ length ys → xs ≡ ys
first_equal [] [] h e = refl
first_equal [] (y ∷ ys) h e = absurd (omega (arith, e))
first_equal (x ∷ xs) [] h e = absurd (omega (arith, e))
first_equal (x ∷ xs) (y ∷ ys) h e =
    let head : y ≡ x = (let q = h 0 x refl in cc) in
    let rest : xs ≡ ys = first_equal xs ys (λ i z q. h (suc i) z q) (omega (arith, e)) in cc

lists_agree : (xs ys : List PlainType) → same_types xs ys ≡ true → xs ≡ ys
lists_agree xs ys e =
    let h = and_parts (length xs == length ys) (same_from 0 xs ys) e in
    let count = h.0 in
    first_equal xs ys (λ i x q. let z : 0 + i ≡ i = omega arith in subst (λ n. slice_get ys n ≡ Some x) z (from_at 0 xs ys h.1 i x q))
    (grind (arith, nat_tests, count))

params_agree : (p q : Option (List PlainType)) → other_types p q ≡ false → Agree p q
params_agree None q e = tt
params_agree (Some p) None e = tt
params_agree (Some p) (Some q) e = lists_agree p q (not-false (same_types p q) e)

pub three_false : (x y z : Bool) → (x || y || z) ≡ false → (x ≡ false) × (y ≡ false) × (z ≡ false)
three_false true y z e = absurd (true≢false e)
three_false false true z e = absurd (true≢false e)
three_false false false true e = absurd (true≢false e)
three_false false false false e = (refl, refl, refl)

pub four_true : (a b c d : Bool) → (a && b && c && d) ≡ true → (a ≡ true) × (b ≡ true) × (c ≡ true) × (d ≡ true)
four_true true true true true e = (refl, refl, refl, refl)
four_true true true true false e = absurd (false≢true e)
four_true true true false d e = absurd (false≢true e)
four_true true false c d e = absurd (false≢true e)
four_true false b c d e = absurd (false≢true e)

pub two_false : (x y : Bool) → (x || y) ≡ false → (x ≡ false) × (y ≡ false)
two_false true y e = absurd (true≢false e)
two_false false y e = (refl, e)

kinds_agree : (x y : FileKind) → other_kind x y ≡ false → AgreeKinds x y
kinds_agree (an_object a c s) (an_object b d r) e =
    let h = three_false (differ a b) (not (same_bool c d)) (not (same_space s r)) e in
    (types_agree a b h.0, bools_agree c d h.1, spaces_agree s r h.2)
kinds_agree (an_object a c s) (a_register q b d) e = absurd (true≢false e)
kinds_agree (an_object a c s) (a_function b count q) e = absurd (true≢false e)
kinds_agree (a_register p a c) (an_object b d r) e = absurd (true≢false e)
kinds_agree (a_register p a c) (a_register q b d) e =
    let h = three_false (differ a b) (not (same_bool c d)) (other_register p q) e in
    (types_agree a b h.0, bools_agree c d h.1, registers_agree p q h.2)
kinds_agree (a_register p a c) (a_function b count q) e = absurd (true≢false e)
kinds_agree (a_function a count p) (an_object b d r) e = absurd (true≢false e)
kinds_agree (a_function a count p) (a_register q b d) e = absurd (true≢false e)
kinds_agree (a_function a count p) (a_function b number q) e =
    let h = two_false (differ a b) (other_params count p number q) e in
    (types_agree a b h.0, params_agree p q (two_false (not (count == number)) (other_types p q) h.1).1)

-- ---- names that meet

pub linkages_agree : (a b : Linkage) → same_linkage a b ≡ true → a ≡ b
linkages_agree Internal Internal e = refl
linkages_agree Internal External e = absurd (false≢true e)
linkages_agree External Internal e = absurd (false≢true e)
linkages_agree External External e = refl

pub unit_agrees : (l : Linkage) (u v : ℕ) → (not (is_internal l) || u == v) ≡ true → (l ≡ External) ⊎ (u ≡ v)
unit_agrees External u v e = inl refl
unit_agrees Internal u v e = inr (grind (arith, nat_tests, e))

left_true : (a b : Bool) → a ≡ true → (a || b) ≡ true
left_true true b e = refl
left_true false b e = absurd (false≢true e)

right_true : (a b : Bool) → b ≡ true → (a || b) ≡ true
right_true true b e = refl
right_true false b e = e

pub both_true : (a b : Bool) → a ≡ true → b ≡ true → (a && b) ≡ true
both_true true b e f = f
both_true false b e f = absurd (false≢true e)

same_number : (u v : ℕ) → u ≡ v → (u == v) ≡ true
same_number u v e = grind (arith, nat_tests, e)

pub external_true : (l : Linkage) → l ≡ External → is_external l ≡ true
external_true External e = refl
external_true Internal e = cc

units_meet : (a b : FileName) → a.linkage ≡ b.linkage → (a.linkage ≡ External) ⊎ (a.unit ≡ b.unit)
    → (a.unit == b.unit || is_external a.linkage && is_external b.linkage) ≡ true
units_meet a b e (inl l) =
    right_true (a.unit == b.unit) (is_external a.linkage && is_external b.linkage)
    (both_true (is_external a.linkage) (is_external b.linkage) (external_true a.linkage l) (external_true b.linkage (sym e ∙ l)))
units_meet a b e (inr u) = left_true (a.unit == b.unit) (is_external a.linkage && is_external b.linkage) (same_number a.unit b.unit u)

pub do_meet : (a b : FileName) → a.name ≡ b.name → a.linkage ≡ b.linkage → (a.linkage ≡ External) ⊎ (a.unit ≡ b.unit) → meet a b ≡ true
do_meet a b n e u =
    both_true (bytes_eq a.name b.name) (a.unit == b.unit || is_external a.linkage && is_external b.linkage)
    ((bytes_eq-Decides a.name b.name).1 n)
    (units_meet a b e u)

cleared : (m x y z : Bool) → (m && (x || y || z)) ≡ false → m ≡ true → (x ≡ false) × (y ≡ false) × (z ≡ false)
cleared true x y z e f = three_false x y z e
cleared false x y z e f = absurd (false≢true f)

-- what is not in conflict
pub record AreClear (a b : FileName) : Type 0 where
  pub kinds : AgreeKinds a.kind b.kind
  pub once : both_define a b ≡ false

pub clear_of : (a b : FileName) → conflict a b ≡ false → meet a b ≡ true → AreClear a b
clear_of a b e m =
    let h = cleared (meet a b) (other_kind a.kind b.kind) (a.unit == b.unit && not (same_linkage a.linkage b.linkage))
    (both_define a b) e m in
    record { kinds = kinds_agree a.kind b.kind h.0; once = h.2 }
