-- Where places are, and that the rows pay for the operations on them.
use Rattle.std.proofs.Common.{◌≡◌, ℕ, ◌+◌, ◌*◌, ◌≤◌, Bool, [], ◌∷◌, List, Some, refl, ap, arith}
use Rattle.std.specs.Prelude.{max, slice_get, option_map}
use Rattle.ec_space.specs.declared.space.SpaceId.{SpaceId}
use Rattle.ec_space.specs.declared.space.SpaceId.TheVariants.{Flash, FarFlash, Data, Generic}
use Rattle.ec_space.specs.Spaces.{width}
use Rattle.ec_core.specs.declared.expressions.BinOp.{BinOp}
use Rattle.ec_core.specs.ArithmeticTypes.{type_of}
use Rattle.ec_core.specs.Layout.{scalar_size}
use Rattle.ec_core.specs.Operators.{number_type, step_operator}
use Rattle.ec_core.specs.Plain.{PlainType, void, integer, fixed, pointer, array, struct, expression, PlainPlace, object, deref}
use Rattle.ec_core.specs.Plain.{member, PlainObject, PlainProgram}
use Rattle.ec_core.specs.Typing.{int, place_type, place_space, HaveCompoundArithmetic}
use Rattle.ec_core.specs.Words.{widest, pointer_types, simple_words, update_words}
use Rattle.ec_core.proofs.Growth.{some_then}
use Rattle.ec_ir.specs.Costs.{op_words, binary_words, conversion_words}
use Rattle.ec_lower_code.specs.Code.{temp, Site, named, pointed, further, load_from, store_to, update_types, offset_of, site}
use Rattle.ec_lower_code.proofs.Numeric.{IsNumeric}
use Rattle.ec_lower_code.proofs.Operations.{words_of, update_row, step_row, update_more, step_more, moving_words}

-- ---- widths

pub some_width : (space : SpaceId) → 2 ≤ width space
some_width Flash = omega arith
some_width FarFlash = omega arith
some_width Data = omega arith
some_width Generic = omega arith

-- ---- the root of a place

module _ (program : PlainProgram) where
  -- an object, or a pointer
  pub data Root (p : PlainPlace) (t : ℕ) : Type 0 where
    in_object : (o offset : ℕ) → site program p t ≡ named o offset → ((rest : List PlainType) → pointer_types p rest ≡ rest)
        → place_space program p ≡ option_map (λ (x : PlainObject). x.space) (slice_get program.objects o) → Root p t
    at_pointer : (space : SpaceId) (const : Bool) (to : PlainType) → site program p t ≡ pointed (temp t (pointer space const to)) space
        → ((rest : List PlainType) → pointer_types p rest ≡ pointer space const to ∷ rest) → place_space program p ≡ Some space → Root p t

  further_root : (k t : ℕ) (q : PlainPlace) (i : ℕ) → k ≡ offset_of program q i → Root q t → Root (member q i) t
  further_root k t q i h (in_object o offset e f g) = in_object o (offset + offset_of program q i) (ap (further (offset_of program q i)) e)
      f g
  further_root k t q i h (at_pointer space const to e f g) = at_pointer space const to (ap (further (offset_of program q i)) e) f g

  pub root : (p : PlainPlace) (t : ℕ) (ty : PlainType) → place_type program p ≡ Some ty → Root p t
  root (object o) t ty h = in_object o 0 refl (λ rest. refl) refl
  root (deref (expression void mode node)) t ty h = cc
  root (deref (expression (integer s b) mode node)) t ty h = cc
  root (deref (expression (fixed k s) mode node)) t ty h = cc
  root (deref (expression (pointer space const to) mode node)) t ty h = at_pointer space const to refl (λ rest. refl) refl
  root (deref (expression (array u n) mode node)) t ty h = cc
  root (deref (expression (struct n) mode node)) t ty h = cc
  root (member q i) t ty h = let g = some_then (place_type program q) _ ty h in further_root (offset_of program q i) t q i refl
      (root q t g.0 g.1)

  -- ---- rows

  pub load_paid : (p : PlainPlace) (t v : ℕ) (ty : PlainType) → Root p t
      → op_words (load_from (temp v ty) (site program p t)) ≤ simple_words (widest (ty ∷ pointer_types p []))
  load_paid p t v ty (in_object o offset e f g) =
      let x : op_words (load_from (temp v ty) (site program p t)) ≡ 2 + 5 * scalar_size ty = ap (λ z. op_words (load_from (temp v ty) z)) e in
      let y : widest (ty ∷ pointer_types p []) ≡ max (scalar_size ty) 1 = ap (λ z. widest (ty ∷ z)) (f []) in omega (arith, x, y)
  load_paid p t v ty (at_pointer space const to e f g) =
      let x : op_words (load_from (temp v ty) (site program p t)) ≡ 30 + 10 * max (scalar_size ty) (width space) =
      ap (λ z. op_words (load_from (temp v ty) z)) e in
      let y : widest (ty ∷ pointer_types p []) ≡ max (scalar_size ty) (max (width space) 1) = ap (λ z. widest (ty ∷ z)) (f []) in
      omega (arith, x, y)

  abbrev pub settle_words : Site → PlainType → ℕ
  settle_words (named o offset) ty = 0
  settle_words (pointed ptr space) ty = 5 * scalar_size ty

  -- an assignment: a store, and that its value is brought to its place
  pub store_paid : (p : PlainPlace) (t v : ℕ) (ty right : PlainType) → Root p t
      → op_words (store_to (site program p t) (temp v ty)) + settle_words (site program p t) ty
      ≤ simple_words (widest (ty ∷ pointer_types p (right ∷ [])))
  store_paid p t v ty right (in_object o offset e f g) =
      let x : op_words (store_to (site program p t) (temp v ty)) + settle_words (site program p t) ty ≡ 5 * scalar_size ty + 0 =
      ap (λ z. op_words (store_to z (temp v ty)) + settle_words z ty) e in
      let y : widest (ty ∷ pointer_types p (right ∷ [])) ≡ max (scalar_size ty) (max (scalar_size right) 1) =
      ap (λ z. widest (ty ∷ z)) (f (right ∷ [])) in
      omega (arith, x, y)
  store_paid p t v ty right (at_pointer space const to e f g) =
      let x : op_words (store_to (site program p t) (temp v ty)) + settle_words (site program p t) ty
      ≡ 30 + 5 * max (scalar_size ty) (width space) + 5 * scalar_size ty =
      ap (λ z. op_words (store_to z (temp v ty)) + settle_words z ty) e in
      let y : widest (ty ∷ pointer_types p (right ∷ [])) ≡ max (scalar_size ty) (max (width space) (max (scalar_size right) 1)) =
      ap (λ z. widest (ty ∷ z)) (f (right ∷ [])) in
      omega (arith, x, y)

  -- what an update does with its place: a load, a store, and that its value is brought to its place
  abbrev pub place_words : Site → (v u : ℕ) → PlainType → ℕ
  place_words s v u ty = op_words (load_from (temp v ty) s) + op_words (store_to s (temp u ty)) + settle_words s ty

  in_object_words : (p : PlainPlace) (t v u : ℕ) (ty : PlainType) (o offset : ℕ) → site program p t ≡ named o offset
      → place_words (site program p t) v u ty ≡ 2 + 5 * scalar_size ty + 5 * scalar_size ty + 0
  in_object_words p t v u ty o offset e = ap (λ z. place_words z v u ty) e

  at_pointer_words : (p : PlainPlace) (t v u : ℕ) (ty to : PlainType) (const : Bool) (space : SpaceId) → site program p t ≡ pointed
      (temp t (pointer space const to)) space
      → place_words (site program p t) v u ty ≡ (30 + 10 * max (scalar_size ty) (width space)) + (30 + 5 * max (scalar_size ty)
      (width space)) + 5 * scalar_size ty
  at_pointer_words p t v u ty to const space e = ap (λ z. place_words z v u ty) e

  pub numbers_paid : (p : PlainPlace) (t v u : ℕ) (op : BinOp) (ty right : PlainType) → IsNumeric ty → IsNumeric right
      → HaveCompoundArithmetic op (number_type ty) (number_type right) → Root p t
      → words_of op (update_types op (number_type ty) (number_type right)) ty right + place_words (site program p t) v u ty ≤ update_words
      (widest (ty ∷ pointer_types p (right ∷ [])))
  numbers_paid p t v u op ty right i k h (in_object o offset e f g) =
      let x = in_object_words p t v u ty o offset e in
      let y : update_words (widest (ty ∷ pointer_types p (right ∷ []))) ≡ update_words (max (scalar_size ty) (max (scalar_size right) 1)) =
      ap (λ z. update_words (widest (ty ∷ z))) (f (right ∷ [])) in
      let z = update_row op ty right i k h in omega (arith, x, y, z)
  numbers_paid p t v u op ty right i k h (at_pointer space const to e f g) =
      let x = at_pointer_words p t v u ty to const space e in
      let m = max (scalar_size ty) (max (width space) (max (scalar_size right) 1)) in
      let y : update_words (widest (ty ∷ pointer_types p (right ∷ []))) ≡ update_words m = ap (λ z. update_words (widest (ty ∷ z)))
      (f (right ∷ [])) in
      let s = some_width space in
      let z = update_more op ty right m i k h (omega (arith, s)) (omega arith) (omega arith) in omega (arith, x, y, z)

  pub step_paid : (p : PlainPlace) (t v u : ℕ) (up : Bool) (ty : PlainType) → IsNumeric ty → Root p t
      → words_of (step_operator up) (update_types (step_operator up) (number_type ty) (number_type int)) ty int + conversion_words ty
      (type_of (update_types (step_operator up) (number_type ty) (number_type int)).left) + place_words
      (site program p t) v u ty + 10 ≤ update_words (widest (ty ∷ pointer_types p []))
  step_paid p t v u up ty i (in_object o offset e f g) =
      let x = in_object_words p t v u ty o offset e in
      let y : update_words (widest (ty ∷ pointer_types p [])) ≡ update_words (max (scalar_size ty) 1) =
      ap (λ z. update_words (widest (ty ∷ z))) (f []) in
      let z = step_row up ty i in omega (arith, x, y, z)
  step_paid p t v u up ty i (at_pointer space const to e f g) =
      let x = at_pointer_words p t v u ty to const space e in
      let m = max (scalar_size ty) (max (width space) 1) in
      let y : update_words (widest (ty ∷ pointer_types p [])) ≡ update_words m = ap (λ z. update_words (widest (ty ∷ z))) (f []) in
      let s = some_width space in
      let z = step_more up ty m i (omega (arith, s)) (omega arith) in omega (arith, x, y, z)

  -- a pointer that is moved, by a compound assignment or by a step
  pub moving_paid : (p : PlainPlace) (t v u : ℕ) (op : BinOp) (at : SpaceId) (k : Bool) (ty right : PlainType) → Root p t
      → binary_words op (pointer at k ty) (pointer at k ty) right + place_words (site program p t) v u (pointer at k ty) + 10 ≤ update_words
      (widest (pointer at k ty ∷ pointer_types p (right ∷ [])))
  moving_paid p t v u op at k ty right (in_object o offset e f g) =
      let x = in_object_words p t v u (pointer at k ty) o offset e in
      let m = max (width at) (max (scalar_size right) 1) in
      let y : update_words (widest (pointer at k ty ∷ pointer_types p (right ∷ []))) ≡ update_words m =
      ap (λ z. update_words (widest (pointer at k ty ∷ z))) (f (right ∷ [])) in
      let s = some_width at in
      let z = moving_words op (pointer at k ty) right m (omega (arith, s)) (omega arith) (omega arith) in omega (arith, x, y, z)
  moving_paid p t v u op at k ty right (at_pointer space const to e f g) =
      let x = at_pointer_words p t v u (pointer at k ty) to const space e in
      let m = max (width at) (max (width space) (max (scalar_size right) 1)) in
      let y : update_words (widest (pointer at k ty ∷ pointer_types p (right ∷ []))) ≡ update_words m =
      ap (λ z. update_words (widest (pointer at k ty ∷ z))) (f (right ∷ [])) in
      let s = some_width at in
      let z = moving_words op (pointer at k ty) right m (omega (arith, s)) (omega arith) (omega arith) in omega (arith, x, y, z)

  -- the int of a step is no wider than a pointer
  pub stepping_paid : (p : PlainPlace) (t v u : ℕ) (op : BinOp) (at : SpaceId) (k : Bool) (ty : PlainType) → Root p t
      → binary_words op (pointer at k ty) (pointer at k ty) int + place_words (site program p t) v u (pointer at k ty) + 10 ≤ update_words
      (widest (pointer at k ty ∷ pointer_types p []))
  stepping_paid p t v u op at k ty (in_object o offset e f g) =
      let x = in_object_words p t v u (pointer at k ty) o offset e in
      let m = max (width at) 1 in
      let y : update_words (widest (pointer at k ty ∷ pointer_types p [])) ≡ update_words m =
      ap (λ z. update_words (widest (pointer at k ty ∷ z))) (f []) in
      let s = some_width at in
      let z = moving_words op (pointer at k ty) int m (omega (arith, s)) (omega arith) (omega (arith, s)) in omega (arith, x, y, z)
  stepping_paid p t v u op at k ty (at_pointer space const to e f g) =
      let x = at_pointer_words p t v u (pointer at k ty) to const space e in
      let m = max (width at) (max (width space) 1) in
      let y : update_words (widest (pointer at k ty ∷ pointer_types p [])) ≡ update_words m =
      ap (λ z. update_words (widest (pointer at k ty ∷ z))) (f []) in
      let s = some_width at in
      let z = moving_words op (pointer at k ty) int m (omega (arith, s)) (omega arith) (omega (arith, s)) in omega (arith, x, y, z)
