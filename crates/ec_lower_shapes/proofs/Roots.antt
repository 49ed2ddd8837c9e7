-- Where a place is, and what its loads and stores take.
use Rattle.std.proofs.Common.{◌≡◌, ℕ, ◌+◌, ◌*◌, ◌≤◌, Bool, true, false, List, [], ◌∷◌, Some, refl, ap, arith}
use Rattle.std.specs.Prelude.{max, nat_le, if◌then◌else◌}
use Rattle.ec_space.specs.declared.space.SpaceId.{SpaceId}
use Rattle.ec_space.specs.Spaces.{width}
use Rattle.ec_core.specs.Layout.{scalar_size, IsScalar}
use Rattle.ec_core.specs.Plain.{PlainType, void, integer, fixed, pointer, array, struct, expression, PlainPlace, object, deref, member}
use Rattle.ec_core.specs.Plain.{PlainProgram}
use Rattle.ec_core.specs.Typing.{place_type}
use Rattle.ec_core.specs.Words.{widest, pointer_types, simple_words}
use Rattle.ec_core.proofs.Growth.{some_then}
use Rattle.ec_ir_shapes.specs.Costs.{own_words}
use Rattle.ec_lower_code.specs.Code.{temp, Site, named, pointed, further, load_from, store_to, offset_of, site}
use Rattle.ec_lower_shapes.proofs.Changes.{IsNear}
use Rattle.ec_lower_shapes.proofs.Made.{place_words, more_place}
use Rattle.ec_lower_shapes.proofs.Sizes.{some_width}

module _ (program : PlainProgram) where
  -- an object, or a pointer
  pub data Root (p : PlainPlace) (t : ℕ) : Type 0 where
    in_object : (o offset : ℕ) → site program p t ≡ named o offset → ((rest : List PlainType) → pointer_types p rest ≡ rest) → Root p t
    at_pointer : (space : SpaceId) (const : Bool) (to : PlainType) → site program p t ≡ pointed (temp t (pointer space const to)) space
        → ((rest : List PlainType) → pointer_types p rest ≡ pointer space const to ∷ rest) → Root p t

  further_root : (k t : ℕ) (q : PlainPlace) (i : ℕ) → k ≡ offset_of program q i → Root q t → Root (member q i) t
  further_root k t q i h (in_object o offset e f) = in_object o (offset + offset_of program q i) (ap (further (offset_of program q i)) e) f
  further_root k t q i h (at_pointer space const to e f) = at_pointer space const to (ap (further (offset_of program q i)) e) f

  pub root : (p : PlainPlace) (t : ℕ) (ty : PlainType) → place_type program p ≡ Some ty → Root p t
  root (object o) t ty h = in_object o 0 refl (λ rest. refl)
  root (deref (expression void mode node)) t ty h = cc
  root (deref (expression (integer s b) mode node)) t ty h = cc
  root (deref (expression (fixed k s) mode node)) t ty h = cc
  root (deref (expression (pointer space const to) mode node)) t ty h = at_pointer space const to refl (λ rest. refl)
  root (deref (expression (array u n) mode node)) t ty h = cc
  root (deref (expression (struct n) mode node)) t ty h = cc
  root (member q i) t ty h = let g = some_then (place_type program q) _ ty h in further_root (offset_of program q i) t q i refl
      (root q t g.0 g.1)

  pub load_fits : (p : PlainPlace) (t v : ℕ) (ty : PlainType) → Root p t
      → own_words (load_from (temp v ty) (site program p t)) ≤ simple_words (widest (ty ∷ pointer_types p []))
  load_fits p t v ty (in_object o offset e f) =
      let x : own_words (load_from (temp v ty) (site program p t)) ≡ 2 + 5 * scalar_size ty = ap (λ z. own_words (load_from (temp v ty) z)) e in
      let y : widest (ty ∷ pointer_types p []) ≡ max (scalar_size ty) 1 = ap (λ z. widest (ty ∷ z)) (f []) in omega (arith, x, y)
  load_fits p t v ty (at_pointer space const to e f) =
      let x : own_words (load_from (temp v ty) (site program p t)) ≡ 10 + 6 * max (scalar_size ty) (width space) =
      ap (λ z. own_words (load_from (temp v ty) z)) e in
      let y : widest (ty ∷ pointer_types p []) ≡ max (scalar_size ty) (max (width space) 1) = ap (λ z. widest (ty ∷ z)) (f []) in
      omega (arith, x, y)

  abbrev pub settle_words : Site → PlainType → ℕ
  settle_words (named o offset) ty = 0
  settle_words (pointed ptr space) ty = 5 * scalar_size ty

  pub store_fits : (p : PlainPlace) (t v : ℕ) (ty right : PlainType) → Root p t
      → own_words (store_to (site program p t) (temp v ty)) + settle_words (site program p t) ty
      ≤ simple_words (widest (ty ∷ pointer_types p (right ∷ [])))
  store_fits p t v ty right (in_object o offset e f) =
      let x : own_words (store_to (site program p t) (temp v ty)) + settle_words (site program p t) ty ≡ 5 * scalar_size ty + 0 =
      ap (λ z. own_words (store_to z (temp v ty)) + settle_words z ty) e in
      let y : widest (ty ∷ pointer_types p (right ∷ [])) ≡ max (scalar_size ty) (max (scalar_size right) 1) =
      ap (λ z. widest (ty ∷ z)) (f (right ∷ [])) in
      omega (arith, x, y)
  store_fits p t v ty right (at_pointer space const to e f) =
      let x : own_words (store_to (site program p t) (temp v ty)) + settle_words (site program p t) ty
      ≡ 5 + 3 * max (scalar_size ty) (width space) + 5 * scalar_size ty =
      ap (λ z. own_words (store_to z (temp v ty)) + settle_words z ty) e in
      let y : widest (ty ∷ pointer_types p (right ∷ [])) ≡ max (scalar_size ty) (max (width space) (max (scalar_size right) 1)) =
      ap (λ z. widest (ty ∷ z)) (f (right ∷ [])) in
      omega (arith, x, y)

  -- a load, a store, and that the value is brought to its place
  abbrev pub place_code_words : Site → (v u : ℕ) → PlainType → ℕ
  place_code_words s v u ty = own_words (load_from (temp v ty) s) + own_words (store_to s (temp u ty)) + settle_words s ty

  -- an update of b bytes at a place
  pub record IsUpdate (p : PlainPlace) (t v u : ℕ) (ty right : PlainType) (b : ℕ) : Type 0 where
    pub some : 1 ≤ b
    pub left : scalar_size ty ≤ b
    pub right_most : scalar_size right ≤ b
    pub near : IsNear b ty right
    pub words : place_code_words (site program p t) v u ty ≤ place_words b

  place_most : (b s : ℕ) → s ≤ b → 2 + 10 * s ≤ place_words b
  place_most b s h = by_test (nat_le b 1)
    where
      by_test : (c : Bool) → 2 + 10 * s ≤ (if c then 10 * b + 2 else 15 + 14 * b)
      by_test true = omega (arith, h)
      by_test false = omega (arith, h)

  pub compound_update : (p : PlainPlace) (t v u : ℕ) (ty right : PlainType) → IsScalar ty → Root p t
      → IsUpdate p t v u ty right (widest (ty ∷ pointer_types p (right ∷ [])))
  compound_update p t v u ty right i (in_object o offset e f) =
      let x : place_code_words (site program p t) v u ty ≡ 2 + 5 * scalar_size ty + 5 * scalar_size ty + 0 =
      ap (λ z. place_code_words z v u ty) e in
      let y : widest (ty ∷ pointer_types p (right ∷ [])) ≡ max (scalar_size ty) (max (scalar_size right) 1) =
      ap (λ z. widest (ty ∷ z)) (f (right ∷ [])) in
      let z = place_most (widest (ty ∷ pointer_types p (right ∷ []))) (scalar_size ty) (omega (arith, y)) in
      record { some = omega (arith, y); left = omega (arith, y); right_most = omega (arith, y); near = omega (arith, y); words = omega (arith, x, z) }
  compound_update p t v u ty right i (at_pointer space const to e f) =
      let x : place_code_words (site program p t) v u ty ≡ (10 + 6 * max (scalar_size ty) (width space)) + (5 + 3 * max (scalar_size ty)
      (width space)) + 5 * scalar_size ty = ap (λ z. place_code_words z v u ty) e in
      let y : widest (ty ∷ pointer_types p (right ∷ [])) ≡ max (scalar_size ty) (max (width space) (max (scalar_size right) 1)) =
      ap (λ z. widest (ty ∷ z)) (f (right ∷ [])) in
      let w = some_width space in let l = w.0 in let h = w.1 in
      let z = more_place (widest (ty ∷ pointer_types p (right ∷ []))) (omega (arith, y, l)) in
      record {
        some = omega (arith, y);
        left = omega (arith, y);
        right_most = omega (arith, y);
        near = omega (arith, y, h);
        words = omega (arith, x, y, z);
      }

  pub step_update : (p : PlainPlace) (t v u : ℕ) (ty : PlainType) → IsScalar ty → Root p t
      → IsUpdate p t v u ty ty (widest (ty ∷ pointer_types p []))
  step_update p t v u ty i (in_object o offset e f) =
      let x : place_code_words (site program p t) v u ty ≡ 2 + 5 * scalar_size ty + 5 * scalar_size ty + 0 =
      ap (λ z. place_code_words z v u ty) e in
      let y : widest (ty ∷ pointer_types p []) ≡ max (scalar_size ty) 1 = ap (λ z. widest (ty ∷ z)) (f []) in
      let z = place_most (widest (ty ∷ pointer_types p [])) (scalar_size ty) (omega (arith, y)) in
      record { some = omega (arith, y); left = omega (arith, y); right_most = omega (arith, y); near = omega (arith, y); words = omega (arith, x, z) }
  step_update p t v u ty i (at_pointer space const to e f) =
      let x : place_code_words (site program p t) v u ty ≡ (10 + 6 * max (scalar_size ty) (width space)) + (5 + 3 * max (scalar_size ty)
      (width space)) + 5 * scalar_size ty = ap (λ z. place_code_words z v u ty) e in
      let y : widest (ty ∷ pointer_types p []) ≡ max (scalar_size ty) (max (width space) 1) = ap (λ z. widest (ty ∷ z)) (f []) in
      let w = some_width space in let l = w.0 in let h = w.1 in
      let z = more_place (widest (ty ∷ pointer_types p [])) (omega (arith, y, l)) in
      record {
        some = omega (arith, y);
        left = omega (arith, y);
        right_most = omega (arith, y);
        near = omega (arith, y, h);
        words = omega (arith, x, y, z);
      }
