-- Names that stood before, found by a set.
use Rattle.std.proofs.Common.{◌≡◌, ◌∙◌, ◌+◌, ℕ, zero, suc, refl, ap, sym, subst, cond, Bool, true, false, ◌||◌}
use Rattle.std.proofs.Common.{List, [], ◌∷◌, ◌++◌, map, take, drop, Result, Ok, Err, OnOk, OnErr}
use Rattle.std.proofs.Math.Numerals.{add-one}
use Rattle.std.specs.Str.{bytes_eq}
use Rattle.std.proofs.lemmas.List.{map-append}
use Rattle.ec_space.specs.Listed.{Listed}
use Rattle.ec_grammar.specs.Trees as t
use Rattle.ec_grammar.specs.declared.NextParam.{NextParam}
use Rattle.ec_grammar.specs.Views.{view_param, view_next_param}
use Rattle.ec_check_declarations.specs.declared.structures.MemberDeclared as declared
use Rattle.ec_check_declarations.specs.NameSets.{is_among, AddsName, AreMemberNames, AreParamNames}
use Rattle.ec_check_declarations.specs.Params.{has_name, is_name_of}
use Rattle.ec_check_declarations.specs.Structures.{MemberDeclared, plain_member_declared, is_member}

-- ---- changes of a set

-- what a set finds, once a name is noted
abbrev pub Updated : Listed ℕ → List (Listed ℕ) → List (Listed ℕ) → Type 0
Updated name old new = (q : Listed ℕ) → is_among q.items new ≡ cond (bytes_eq name.items q.items) true (is_among q.items old)

either_one : (b c : Bool) → cond b true c ≡ (c || b)
either_one true true = refl
either_one true false = refl
either_one false true = refl
either_one false false = refl

pub added : (name : Listed ℕ) (old new : List (Listed ℕ)) → Updated name old new → AddsName name.items old new
added name old new updated n =
    updated (record { items = n; spare = 0 }) ∙ either_one (bytes_eq name.items n) (is_among n old)

-- ---- members

or_false : (b : Bool) → b ≡ (b || false)
or_false true = refl
or_false false = refl

or_assoc : (a b c : Bool) → ((a || b) || c) ≡ (a || (b || c))
or_assoc true b c = refl
or_assoc false b c = refl

member_more : (n : List ℕ) (ms : List MemberDeclared) (m : MemberDeclared)
    → is_member n (ms ++ m ∷ []) ≡ (is_member n ms || bytes_eq m.name n)
member_more n [] m = sym (or_false (bytes_eq m.name n))
member_more n (x ∷ xs) m =
    ap (λ b. bytes_eq x.name n || b) (member_more n xs m)
    ∙ sym (or_assoc (bytes_eq x.name n) (is_member n xs) (bytes_eq m.name n))

one_more : (names new : List (Listed ℕ)) (ms : List MemberDeclared) (m : MemberDeclared) → AddsName m.name names new
    → AreMemberNames names ms → AreMemberNames new (ms ++ m ∷ [])
one_more names new ms m adds are n =
    adds n ∙ (ap (λ b. b || bytes_eq m.name n) (are n) ∙ sym (member_more n ms m))

-- what a set is in both cases of a push
pub either : {T E : Type 0} (r : Result T E) {P Q C : Type 0} → OnOk r P → OnErr r Q → (P → C) → (Q → C) → C
either (Ok x) p q f g = f p
either (Err x) p q f g = g q

pub pushed : (old mid new : List declared.MemberDeclared) (m : declared.MemberDeclared) (names more : List (Listed ℕ)) → mid ≡ old
    → new ≡ mid ++ m ∷ [] → AddsName m.name.items names more → AreMemberNames names (map plain_member_declared old)
    → AreMemberNames more (map plain_member_declared new)
pushed old mid new m names more same is adds are =
    let view : map plain_member_declared new ≡ map plain_member_declared old ++ plain_member_declared m ∷ [] =
    ap (map plain_member_declared) (is ∙ ap (λ (front : List declared.MemberDeclared). front ++ m ∷ []) same)
    ∙ map-append plain_member_declared old (m ∷ []) in
    subst (λ (ms : List MemberDeclared). AreMemberNames more ms) (sym view)
    (one_more names more (map plain_member_declared old) (plain_member_declared m) adds are)

-- ---- parameters

last_name : (b c : Bool) → b ≡ c → (b || false) ≡ (false || c)
last_name b c e = sym (or_false b) ∙ e

param_through : (n : List ℕ) (all rest : List NextParam) (i : ℕ) (x : NextParam) → drop i all ≡ x ∷ rest
    → is_name_of n (map view_next_param (take (suc i) all))
    ≡ (is_name_of n (map view_next_param (take i all)) || has_name n (view_param x.param))
param_through n [] rest zero x e = cc
param_through n [] rest (suc i) x e = cc
param_through n (y ∷ ys) rest zero x e =
    let same : y ≡ x = cc in
    last_name (has_name n (view_param y.param)) (has_name n (view_param x.param))
    (ap (λ (z : NextParam). has_name n (view_param z.param)) same)
param_through n (y ∷ ys) rest (suc i) x e =
    ap (λ b. has_name n (view_param y.param) || b) (param_through n ys rest i x e)
    ∙ sym (or_assoc (has_name n (view_param y.param)) (is_name_of n (map view_next_param (take i ys))) (has_name n (view_param x.param)))

-- the names of the first parameter alone
pub first_named : (names new : List (Listed ℕ)) (first : t.Param) → names ≡ []
    → ((n : List ℕ) → is_among n new ≡ (is_among n names || has_name n first)) → AreParamNames new first []
first_named names new first none adds n =
    adds n ∙ ap (λ (ks : List (Listed ℕ)). is_among n ks || has_name n first) none ∙ or_false (has_name n first)

-- and with that of one parameter more
pub param_named : (names new : List (Listed ℕ)) (first : t.Param) (all rest : List NextParam) (i : ℕ) (x : NextParam)
    → drop i all ≡ x ∷ rest
    → ((n : List ℕ) → is_among n new ≡ (is_among n names || has_name n (view_param x.param)))
    → AreParamNames names first (map view_next_param (take i all))
    → AreParamNames new first (map view_next_param (take (i + 1) all))
param_named names new first all rest i x e adds are n =
    adds n
    ∙ ap (λ b. b || has_name n (view_param x.param)) (are n)
    ∙ or_assoc (has_name n first) (is_name_of n (map view_next_param (take i all))) (has_name n (view_param x.param))
    ∙ ap (λ b. has_name n first || b)
    (sym (param_through n all rest i x e) ∙ ap (λ k. is_name_of n (map view_next_param (take k all))) (sym (add-one i)))
