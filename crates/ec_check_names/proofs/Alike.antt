-- Struct definitions that are the same.
use Rattle.std.proofs.Common.{◌≡◌, ◌∙◌, ◌+◌, ◌==◌, ◌<◌, ◌≤◌, ap, sym, refl, ℕ, suc, Bool, true, false, ◌&&◌, List, [], ◌∷◌, length, drop}
use Rattle.std.proofs.Common.{get_or, Option, Some, None, arith}
use Rattle.std.specs.Prelude.{slice_get, nat_lt}
use Rattle.std.proofs.Math.Numerals.{add-one}
use Rattle.std.proofs.Math.Seq.{drop-cons}
use Rattle.std.specs.Str.{bytes_eq}
use Rattle.std.proofs.lemmas.Bool.Decides.{nat_tests}
use Rattle.std.proofs.lemmas.Option.{slice_get_within, get_or_from_slice_get, slice_get_read}
use Rattle.std.proofs.lemmas.Slice.Eq.{bytes_eq-Decides}
use Rattle.std.proofs.Math.ListN.{drop_of_length-le}
use Rattle.ec_core.specs.Operators.{same_type}
use Rattle.ec_core.specs.Plain.{PlainMember, PlainStruct}
use Rattle.ec_core.proofs.Sameness.{type_true, type_itself}
use Rattle.ec_check_names.specs.Laws.{EqualStructsAreOne}
use Rattle.ec_check_names.specs.Structs.{same_member, same_from, same_members, same_struct}
use Rattle.ec_check_names.proofs.Walks.{here}

first_true : (p q : Bool) → (p && q) ≡ true → p ≡ true
first_true true q e = refl
first_true false q e = cc

second_true : (p q : Bool) → (p && q) ≡ true → q ≡ true
second_true true q e = e
second_true false q e = cc

both_true : (p q : Bool) → p ≡ true → q ≡ true → (p && q) ≡ true
both_true true q e f = f
both_true false q e f = cc

-- ---- the same, so equal

member_equal : (a : PlainMember) (o : Option PlainMember) → same_member a o ≡ true → o ≡ Some a
member_equal a None e = cc
member_equal a (Some b) e =
    let n : a.name ≡ b.name = (bytes_eq-Decides a.name b.name).0 (first_true (bytes_eq a.name b.name) (same_type a.ty b.ty) e) in
    let t : a.ty ≡ b.ty = type_true a.ty b.ty (second_true (bytes_eq a.name b.name) (same_type a.ty b.ty) e) in
    ap Some (sym (ap (λ x. record { name = x; ty = a.ty }) n ∙ ap (λ x. record { name = b.name; ty = x }) t))

here_some : (bs : List PlainMember) (i : ℕ) (a : PlainMember) → slice_get bs i ≡ Some a → drop i bs ≡ a ∷ drop (i + 1) bs
here_some bs i a e = here bs i a (slice_get_within bs i a e) (sym (get_or_from_slice_get bs i a a e))

members_equal : (xs bs : List PlainMember) (i : ℕ) → same_from i xs bs ≡ true → length bs ≡ i + length xs → drop i bs ≡ xs
members_equal [] bs i e h = drop_of_length-le bs (omega (arith, h))
members_equal (a ∷ more) bs i e h =
    let g : slice_get bs i ≡ Some a =
    member_equal a (slice_get bs i) (first_true (same_member a (slice_get bs i)) (same_from (i + 1) more bs) e) in
    here_some bs i a g
    ∙ ap (λ r. a ∷ r)
    (members_equal more bs (i + 1) (second_true (same_member a (slice_get bs i)) (same_from (i + 1) more bs) e) (omega (arith, h)))

length_equal : (m n : ℕ) → (m == n) ≡ true → m ≡ n
length_equal m n e = grind (arith, nat_tests)

struct_equal : (s t : PlainStruct) → same_struct s t ≡ true → s ≡ t
struct_equal s t e =
    let n : s.tag ≡ t.tag = (bytes_eq-Decides s.tag t.tag).0 (first_true (bytes_eq s.tag t.tag) (same_members s.members t.members) e) in
    let m : same_members s.members t.members ≡ true = second_true (bytes_eq s.tag t.tag) (same_members s.members t.members) e in
    let l : length s.members ≡ length t.members =
    length_equal _ _ (first_true (length s.members == length t.members) (same_from 0 s.members t.members) m) in
    let k : t.members ≡ s.members = members_equal s.members t.members 0
    (second_true (length s.members == length t.members) (same_from 0 s.members t.members) m) (omega (arith, l)) in
    ap (λ x. record { tag = x; members = s.members }) n ∙ ap (λ x. record { tag = t.tag; members = x }) (sym k)

-- ---- equal, so the same

member_itself : (a : PlainMember) → same_member a (Some a) ≡ true
member_itself a = both_true (bytes_eq a.name a.name) (same_type a.ty a.ty) ((bytes_eq-Decides a.name a.name).1 refl) (type_itself a.ty)

within : (ys : List PlainMember) (k : ℕ) (x : PlainMember) (zs : List PlainMember) → drop k ys ≡ x ∷ zs → k < length ys
within ys k x zs e = by (nat_lt k (length ys)) refl
  where
    none_left : [] ≡ x ∷ zs → ⊥
    none_left q = cc

    by : (b : Bool) → nat_lt k (length ys) ≡ b → k < length ys
    by true q = grind (arith, nat_tests)
    by false q = let h : length ys ≤ k = grind (arith, nat_tests) in absurd (none_left (sym (drop_of_length-le ys h) ∙ e))

parts : (ys : List PlainMember) (k : ℕ) (x : PlainMember) (zs : List PlainMember) → drop k ys ≡ x ∷ zs
    → (x ≡ get_or ys k x) × (drop (suc k) ys ≡ zs)
parts ys k x zs e = let d : drop k ys ≡ get_or ys k x ∷ drop (suc k) ys = drop-cons ys k x (within ys k x zs e) in (cc, cc)

front : (ys : List PlainMember) (k : ℕ) (x : PlainMember) (zs : List PlainMember) → drop k ys ≡ x ∷ zs → slice_get ys k ≡ Some x
front ys k x zs e = slice_get_read ys (length ys) k x refl (within ys k x zs e) (parts ys k x zs e).0

rest : (ys : List PlainMember) (k : ℕ) (x : PlainMember) (zs : List PlainMember) → drop k ys ≡ x ∷ zs → drop (k + 1) ys ≡ zs
rest ys k x zs e = ap (λ n. drop n ys) (add-one k) ∙ (parts ys k x zs e).1

members_themselves : (xs bs : List PlainMember) (i : ℕ) → drop i bs ≡ xs → same_from i xs bs ≡ true
members_themselves [] bs i h = refl
members_themselves (a ∷ more) bs i h =
    let g : slice_get bs i ≡ Some a = front bs i a more h in
    both_true (same_member a (slice_get bs i)) (same_from (i + 1) more bs) (ap (same_member a) g ∙ member_itself a)
    (members_themselves more bs (i + 1) (rest bs i a more h))

length_itself : (n : ℕ) → (n == n) ≡ true
length_itself n = grind (arith, nat_tests)

struct_itself : (s : PlainStruct) → same_struct s s ≡ true
struct_itself s =
    both_true (bytes_eq s.tag s.tag) (same_members s.members s.members) ((bytes_eq-Decides s.tag s.tag).1 refl)
    (both_true (length s.members == length s.members) (same_from 0 s.members s.members) (length_itself (length s.members))
    (members_themselves s.members s.members 0 refl))

pub equal_structs_are_one : EqualStructsAreOne
equal_structs_are_one s t = (struct_equal s t, λ e. ap (same_struct s) (sym e) ∙ struct_itself s)
