-- Each test of two declarations at file scope decides what the rule says.
use Rattle.std.proofs.Common.{◌≡◌, ◌∙◌, ◌+◌, ℕ, zero, suc, Bool, true, false, not, ◌&&◌, ◌||◌, List, [], ◌∷◌, length, drop, refl, ap, subst}
use Rattle.std.proofs.Common.{arith}
use Rattle.std.specs.Prelude.{◌≢◌, ◌==◌, IsTrue, Option, Some, None, slice_get}
use Rattle.std.specs.Bool.{Decides}
use Rattle.std.specs.Str.{bytes_eq}
use Rattle.std.proofs.lemmas.Bool.{false≢true}
use Rattle.std.proofs.lemmas.Bool.Decides.{Decides-eqb, Decides-at, Decides-like, Decides-not, Decides-and, Decides-or, not_from_Decides}
use Rattle.std.proofs.lemmas.Slice.Eq.{bytes_eq-Decides}
use Rattle.ec_space.specs.declared.space.SpaceId.{SpaceId}
use Rattle.ec_space.specs.declared.space.SpaceId.TheVariants.{Flash, FarFlash, Data, Generic}
use Rattle.ec_core.specs.Laws.{TypesAreTold}
use Rattle.ec_core.specs.Operators.{same_type}
use Rattle.ec_core.specs.Plain.{PlainType}
use Rattle.ec_check_names.specs.declared.linkage.Linkage.{Linkage}
use Rattle.ec_check_names.specs.declared.linkage.Linkage.TheVariants.{Internal, External}
use Rattle.ec_check_names.specs.Definitions.{same_linkage}
use Rattle.ec_check_file_scope.specs.FileNames.{FileKind, an_object, a_register, a_function, FileName, differ, same_space, same_bool}
use Rattle.ec_check_file_scope.specs.FileNames.{other_register, same_at, same_from, same_types, other_types, other_params, other_kind}
use Rattle.ec_check_file_scope.specs.FileNames.{is_register, is_external, meet, both_define, conflict, conflicts}
use Rattle.ec_check_file_scope.specs.Groups.{is_whole}
use Rattle.ec_check_file_scope.specs.Laws.{AreTwo, DeclareTwo, AreOfOneName, DefineTwice, Conflict, ConflictsAreTold}

-- ---- in general

yes : {P : Type 0} → P → Decides true P
yes p = (λ e. p, λ h. refl)

no : {P : Type 0} → ¬ P → Decides false P
no n = (λ e. absurd (false≢true e), λ h. absurd (n h))

is_set : (b : Bool) → Decides b (IsTrue b)
is_set b = (λ e. e, λ e. e)

differs : (m n : ℕ) → Decides (not (m == n)) (m ≢ n)
differs m n = Decides-not (m == n) (Decides-eqb m n)

-- one of two is not, and neither is the other
neither : (a b : Bool) → not (a || b) ≡ true → (not a ≡ true) × (not b ≡ true)
neither true b h = absurd (false≢true h)
neither false b h = (refl, h)

yes_if : (b : Bool) → not (not b) ≡ true → b ≡ true
yes_if true h = refl
yes_if false h = absurd (false≢true h)

-- ---- parts of declarations

bools : (c d : Bool) → Decides (same_bool c d) (c ≡ d)
bools true true = yes refl
bools true false = no (λ h. cc)
bools false true = no (λ h. cc)
bools false false = yes refl

spaces : (s r : SpaceId) → Decides (same_space s r) (s ≡ r)
spaces Flash Flash = yes refl
spaces Flash FarFlash = no (λ h. cc)
spaces Flash Data = no (λ h. cc)
spaces Flash Generic = no (λ h. cc)
spaces FarFlash Flash = no (λ h. cc)
spaces FarFlash FarFlash = yes refl
spaces FarFlash Data = no (λ h. cc)
spaces FarFlash Generic = no (λ h. cc)
spaces Data Flash = no (λ h. cc)
spaces Data FarFlash = no (λ h. cc)
spaces Data Data = yes refl
spaces Data Generic = no (λ h. cc)
spaces Generic Flash = no (λ h. cc)
spaces Generic FarFlash = no (λ h. cc)
spaces Generic Data = no (λ h. cc)
spaces Generic Generic = yes refl

pub linkages : (a b : Linkage) → Decides (same_linkage a b) (a ≡ b)
linkages Internal Internal = yes refl
linkages Internal External = no (λ h. cc)
linkages External Internal = no (λ h. cc)
linkages External External = yes refl

registers : (p q : Option ℕ) → Decides (other_register p q) (AreTwo p q)
registers None q = no (λ h. h)
registers (Some a) None = no (λ h. h)
registers (Some a) (Some b) = differs a b

-- what a list has at a place, and behind it
at_place : (bs : List PlainType) (i : ℕ) (c : PlainType) (cs : List PlainType) → drop i bs ≡ c ∷ cs
    → (slice_get bs i ≡ Some c) × (drop (i + 1) bs ≡ cs)
at_place [] zero c cs e = cc
at_place [] (suc i) c cs e = cc
at_place (b ∷ bs) zero c cs e = (let same : b ≡ c = cc in ap (λ z. Some z) same, let same : bs ≡ cs = cc in same)
at_place (b ∷ bs) (suc i) c cs e =
    let p = at_place bs i c cs e in
    let n : suc i + 1 ≡ suc (i + 1) = omega arith in
    (p.0, ap (λ k. drop k (b ∷ bs)) n ∙ p.1)

module _ (told : TypesAreTold) where
  types : (a b : PlainType) → Decides (same_type a b) (a ≡ b)
  types a b = (told.same a b, λ e. subst (λ (z : PlainType). same_type a z ≡ true) e (told.itself a))

  two_types : (a b : Option PlainType) → Decides (differ a b) (AreTwo a b)
  two_types None b = no (λ h. h)
  two_types (Some a) None = no (λ h. h)
  two_types (Some a) (Some b) = Decides-not (same_type a b) (types a b)

  lists_from : (xs bs cs : List PlainType) (i : ℕ) → drop i bs ≡ cs → length xs ≡ length cs → Decides (same_from i xs bs) (xs ≡ cs)
  lists_from [] bs [] i e n = yes refl
  lists_from [] bs (c ∷ cs) i e n = absurd (omega (arith, n))
  lists_from (a ∷ xs) bs [] i e n = absurd (omega (arith, n))
  lists_from (a ∷ xs) bs (c ∷ cs) i e n =
      let p = at_place bs i c cs e in
      Decides-like (same_at a (slice_get bs i) && same_from (i + 1) xs bs) there back
      (Decides-and (same_at a (slice_get bs i)) (same_from (i + 1) xs bs)
      (Decides-at (same_at a (slice_get bs i)) (same_type a c) (ap (same_at a) p.0) (types a c))
      (lists_from xs bs cs (i + 1) p.1 (omega (arith, n))))
    where
      there : (a ≡ c) × (xs ≡ cs) → (a ∷ xs) ≡ (c ∷ cs)
      there (h, k) = cc

      back : (a ∷ xs) ≡ (c ∷ cs) → (a ≡ c) × (xs ≡ cs)
      back h = (cc, cc)

  lists : (xs ys : List PlainType) → Decides (same_types xs ys) (xs ≡ ys)
  lists xs ys = by (length xs == length ys) (Decides-eqb (length xs) (length ys))
    where
      by : (b : Bool) → Decides b (length xs ≡ length ys) → Decides (b && same_from 0 xs ys) (xs ≡ ys)
      by true d = lists_from xs ys ys 0 refl (d.0 refl)
      by false d = no (λ h. not_from_Decides false d refl (ap length h))

  two_lists : (p q : Option (List PlainType)) → Decides (other_types p q) (AreTwo p q)
  two_lists None q = no (λ h. h)
  two_lists (Some p) None = no (λ h. h)
  two_lists (Some p) (Some q) = Decides-not (same_types p q) (lists p q)

  kinds : (x y : FileKind) → Decides (other_kind x y) (DeclareTwo x y)
  kinds (an_object a c s) (an_object b d r) =
      Decides-or (differ a b || not (same_bool c d)) (not (same_space s r))
      (Decides-or (differ a b) (not (same_bool c d)) (two_types a b) (Decides-not (same_bool c d) (bools c d)))
      (Decides-not (same_space s r) (spaces s r))
  kinds (an_object a c s) (a_register q b d) = yes tt
  kinds (an_object a c s) (a_function b n q) = yes tt
  kinds (a_register p a c) (an_object b d r) = yes tt
  kinds (a_register p a c) (a_register q b d) =
      Decides-or (differ a b || not (same_bool c d)) (other_register p q)
      (Decides-or (differ a b) (not (same_bool c d)) (two_types a b) (Decides-not (same_bool c d) (bools c d)))
      (registers p q)
  kinds (a_register p a c) (a_function b n q) = yes tt
  kinds (a_function a m p) (an_object b d r) = yes tt
  kinds (a_function a m p) (a_register q b d) = yes tt
  kinds (a_function a m p) (a_function b n q) =
      Decides-or (differ a b) (other_params m p n q) (two_types a b)
      (Decides-or (not (m == n)) (other_types p q) (differs m n) (two_lists p q))

  -- kinds whose types are known, and that do not differ, are one kind
  pub same_kinds : (x y : FileKind) → is_whole x ≡ true → is_whole y ≡ true → not (other_kind x y) ≡ true → x ≡ y
  same_kinds (an_object None c s) y w v h = absurd (false≢true w)
  same_kinds (an_object (Some a) c s) (an_object None d r) w v h = absurd (false≢true v)
  same_kinds (an_object (Some a) c s) (an_object (Some b) d r) w v h =
      let p = neither (differ (Some a) (Some b) || not (same_bool c d)) (not (same_space s r)) h in
      let q = neither (differ (Some a) (Some b)) (not (same_bool c d)) p.0 in
      let types_are : a ≡ b = told.same a b (yes_if (same_type a b) q.0) in
      let const_is : c ≡ d = (bools c d).0 (yes_if (same_bool c d) q.1) in
      let space_is : s ≡ r = (spaces s r).0 (yes_if (same_space s r) p.1) in
      cc (types_are, const_is, space_is)
  same_kinds (an_object (Some a) c s) (a_register q b d) w v h = absurd (false≢true v)
  same_kinds (an_object (Some a) c s) (a_function b n q) w v h = absurd (false≢true h)
  same_kinds (a_register p a c) y w v h = absurd (false≢true w)
  same_kinds (a_function None m p) y w v h = absurd (false≢true w)
  same_kinds (a_function (Some a) m None) y w v h = absurd (false≢true w)
  same_kinds (a_function (Some a) m (Some p)) (an_object b d r) w v h = absurd (false≢true h)
  same_kinds (a_function (Some a) m (Some p)) (a_register q b d) w v h = absurd (false≢true v)
  same_kinds (a_function (Some a) m (Some p)) (a_function None n q) w v h = absurd (false≢true v)
  same_kinds (a_function (Some a) m (Some p)) (a_function (Some b) n None) w v h = absurd (false≢true v)
  same_kinds (a_function (Some a) m (Some p)) (a_function (Some b) n (Some q)) w v h =
      let e = neither (differ (Some a) (Some b)) (other_params m (Some p) n (Some q)) h in
      let f = neither (not (m == n)) (other_types (Some p) (Some q)) e.1 in
      let results_are : a ≡ b = told.same a b (yes_if (same_type a b) e.0) in
      let counts_are : m ≡ n = (Decides-eqb m n).0 (yes_if (m == n) f.0) in
      let params_are : p ≡ q = (lists p q).0 (yes_if (same_types p q) f.1) in
      cc (results_are, counts_are, params_are)

  -- ---- declarations

  names : (d e : FileName) → Decides (meet d e) (AreOfOneName d e)
  names d e =
      Decides-and (bytes_eq d.name e.name) (d.unit == e.unit || is_external d.linkage && is_external e.linkage)
      (bytes_eq-Decides d.name e.name)
      (Decides-or (d.unit == e.unit) (is_external d.linkage && is_external e.linkage) (Decides-eqb d.unit e.unit)
      (Decides-and (is_external d.linkage) (is_external e.linkage) (linkages d.linkage External) (linkages e.linkage External)))

  definitions : (d e : FileName) → Decides (both_define d e) (DefineTwice d e)
  definitions d e =
      let both = is_register d.kind && is_register e.kind in
      let others = both && not (d.unit == e.unit) in
      Decides-and (d.defines && e.defines) (not others) (Decides-and d.defines e.defines (is_set d.defines) (is_set e.defines))
      (Decides-not others
      (Decides-and both (not (d.unit == e.unit))
      (Decides-and (is_register d.kind) (is_register e.kind) (is_set (is_register d.kind)) (is_set (is_register e.kind)))
      (differs d.unit e.unit)))

  one : (d e : FileName) → Decides (conflict d e) (Conflict d e)
  one d e =
      let linked = d.unit == e.unit && not (same_linkage d.linkage e.linkage) in
      Decides-and (meet d e) (other_kind d.kind e.kind || linked || both_define d e) (names d e)
      (Decides-or (other_kind d.kind e.kind || linked) (both_define d e)
      (Decides-or (other_kind d.kind e.kind) linked (kinds d.kind e.kind)
      (Decides-and (d.unit == e.unit) (not (same_linkage d.linkage e.linkage)) (Decides-eqb d.unit e.unit)
      (Decides-not (same_linkage d.linkage e.linkage) (linkages d.linkage e.linkage))))
      (definitions d e))

  pub conflicts_are_told : ConflictsAreTold
  conflicts_are_told d [] = no (λ h. h)
  conflicts_are_told d (e ∷ es) = Decides-or (conflict d e) (conflicts d es) (one d e) (conflicts_are_told d es)
