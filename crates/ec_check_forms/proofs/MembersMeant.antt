-- A member of an operand that breaks no rule has a meaning.
use Rattle.std.proofs.Common.{◌≡◌, ◌<◌, ℕ, Bool, true, false, List, [], length, refl, sym, subst}
use Rattle.std.specs.Prelude.{Option, Some, None, IsSome, is_none, option_map, option_and_then, position, slice_get}
use Rattle.std.specs.Str.{bytes_eq}
use Rattle.std.proofs.lemmas.Bool.{true≢false}
use Rattle.std.proofs.lemmas.List.Quantifiers.{position-Some}
use Rattle.std.proofs.lemmas.Option.{slice_get-get_or}
use Rattle.ec_core.specs.Plain.{PlainType, void, integer, fixed, pointer, array, struct, PlainMember, PlainStruct, PlainExpr, expression}
use Rattle.ec_core.specs.Typing.{type_of_expr, type_of_member}
use Rattle.ec_check_operands.specs.declared.operands.Modes.{Modes}
use Rattle.ec_check_forms.specs.Nodes.{pointed}
use Rattle.ec_check_forms.specs.Accesses.{base_of, member_number, not_among, part_of, member_of, member_rules}
use Rattle.ec_check_operands.specs.Operands.{Operand, place, value, value_type, as_value, with_one}
use Rattle.ec_check_forms.specs.Sites.{a_member}
use Rattle.ec_check_forms.specs.Meanings.{IsNoStructValue, KeptMembersHaveMeanings}
use Rattle.ec_check_forms.proofs.Meanings.{Unbroken, kept}
use Rattle.ec_check_forms.proofs.ValidOperands.{value_types_agree}

some_bind : {A B : Type 0} → (o : Option A) (g : A → Option B) → IsSome o → ((a : A) → IsSome (g a)) → IsSome (with_one o g)
some_bind None g h k = absurd (true≢false (sym h))
some_bind (Some a) g h k = k a

-- ---- the member

-- a member that is found has a type
typed : (name : List ℕ) (o : Option PlainStruct) (k : ℕ) → with_one o (λ s. position (λ m. bytes_eq m.name name) s.members) ≡ Some k
    → IsSome (option_and_then (λ s. option_map (λ m. m.ty) (slice_get s.members k)) o)
typed name None k e = cc
typed name (Some s) k e =
    let none : PlainMember = record { name = []; ty = void } in
    let p = position-Some (λ (m : PlainMember). bytes_eq m.name name) s.members k none e in
    subst (λ (z : Option PlainMember). IsSome (option_map (λ m. m.ty) z)) (sym (slice_get-get_or s.members k none p.0)) refl

module _ (structs : List PlainStruct) (name : List ℕ) (g : ℕ → PlainType → Option Operand)
    (meant : (k : ℕ) (part : PlainType) → IsSome (g k part)) where
  numbered : (index : ℕ) (o : Option ℕ) → member_number structs name index ≡ o → is_none o ≡ false
      → IsSome (with_one o (λ k. with_one (type_of_member structs (struct index) k) (g k)))
  numbered index None e h = absurd (true≢false h)
  numbered index (Some k) e h =
      some_bind (type_of_member structs (struct index) k) (g k) (typed name (slice_get structs index) k e) (λ part. meant k part)

  based : (base : Option ℕ) → is_none base ≡ false → not_among structs name base ≡ false
      → IsSome
      (with_one base (λ index. with_one (member_number structs name index) (λ k. with_one (type_of_member structs (struct index) k) (g k))))
  based None h n = absurd (true≢false h)
  based (Some index) h n = numbered index (member_number structs name index) refl n

-- ---- the place

-- what `->` reaches is a place
pointed_part : (e : PlainExpr) → is_none (base_of true (type_of_expr e)) ≡ false → (k : ℕ) (part : PlainType)
    → IsSome (with_one (pointed e) (part_of part k))
pointed_part (expression (pointer s c t) mode node) h k part = refl
pointed_part (expression void mode node) h k part = absurd (true≢false h)
pointed_part (expression (integer s b) mode node) h k part = absurd (true≢false h)
pointed_part (expression (fixed s b) mode node) h k part = absurd (true≢false h)
pointed_part (expression (array of len) mode node) h k part = absurd (true≢false h)
pointed_part (expression (struct index) mode node) h k part = absurd (true≢false h)

-- and what `.` takes a part of
struct_part : (x : Operand) → IsNoStructValue x → is_none (base_of false (value_type x)) ≡ false → (k : ℕ) (part : PlainType)
    → IsSome (part_of part k x)
struct_part (place ty const space register q) v h k part = refl
struct_part (value (expression (struct index) mode node) zero) v h k part = absurd (v tt)
struct_part (value (expression void mode node) zero) v h k part = absurd (true≢false h)
struct_part (value (expression (integer s b) mode node) zero) v h k part = absurd (true≢false h)
struct_part (value (expression (fixed s b) mode node) zero) v h k part = absurd (true≢false h)
struct_part (value (expression (pointer s c t) mode node) zero) v h k part = absurd (true≢false h)
struct_part (value (expression (array of len) mode node) zero) v h k part = absurd (true≢false h)

member_meant : (m : Modes) (structs : List PlainStruct) (name : List ℕ) (arrow : Bool) (x : Operand) (at name_at : ℕ) → IsNoStructValue x
    → Unbroken (member_rules structs name arrow (Some x) at name_at) → IsSome (member_of m structs name arrow x)
member_meant m structs name true x at name_at v h =
    based structs name (λ k part. with_one (pointed (as_value m x)) (part_of part k))
    (pointed_part (as_value m x) (subst (λ (ty : PlainType). is_none (base_of true ty) ≡ false) (sym (value_types_agree m x)) h.0))
    (base_of true (value_type x)) h.0 h.1.0
member_meant m structs name false x at name_at v h =
    based structs name (λ k part. part_of part k x) (struct_part x v h.0) (base_of false (value_type x)) h.0 h.1.0

pub kept_members_have_meanings : KeptMembersHaveMeanings
kept_members_have_meanings m structs name arrow x at name_at v h =
    member_meant m structs name arrow x at name_at v (kept (a_member structs name arrow (Some x) at name_at) h)
