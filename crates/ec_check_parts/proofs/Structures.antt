-- What is told of members, structs and named registers breaks a constraint there, and the other way round.
use Rattle.std.proofs.Common.{◌≡◌, ◌∙◌, ◌+◌, ◌<◌, ℕ, Bool, true, false, ◌||◌, not, List, [], ◌∷◌, ◌++◌, length, refl, sym, ap}
use Rattle.std.proofs.Common.{subst, inl, inr}
use Rattle.std.specs.Prelude.{◌⊎◌, ◌↔◌, ◌≢◌, is_none, Option, Some, None}
use Rattle.std.specs.Bool.{Decides}
use Rattle.std.specs.Str.{bytes_eq}
use Rattle.std.proofs.lemmas.Bool.{false≢true}
use Rattle.std.proofs.lemmas.Bool.Decides.{Decides-at, Decides-like, Decides-not, Decides-or, Decides-ltb}
use Rattle.std.proofs.lemmas.Slice.Eq.{bytes_eq-Decides}
use Rattle.ec_grammar.specs.declared.Spot.{Spot}
use Rattle.ec_grammar.specs.Trees as t
use Rattle.ec_core.specs.Layout.{size_of_type}
use Rattle.ec_core.specs.Plain.{PlainType, PlainMember, PlainStruct}
use Rattle.ec_check_operands.specs.declared.faults.Fault.{Fault}
use Rattle.ec_check_operands.specs.Faults.{Judgement, rule}
use Rattle.ec_check_operands.specs.Laws.{IsTold}
use Rattle.ec_check_operands.specs.Sorts.{is_arithmetic}
use Rattle.ec_check_forms.specs.Constraints.{IsArithmetic}
use Rattle.ec_check_forms.proofs.Decided.{arithmetics}
use Rattle.ec_check_names.specs.Counts.{is_function}
use Rattle.ec_check_names.specs.Specifiers.{specified, specs_rules, void_at}
use Rattle.ec_check_names.specs.Spellings.{register_number}
use Rattle.ec_check_names.specs.Stars.{Declared, declared_by, behind, pointer_to}
use Rattle.ec_check_names.specs.Qualifiers.{qualities_of}
use Rattle.ec_check_names.specs.Tables.{at_name}
use Rattle.ec_check_names.specs.Tags.{Tags, tag_state, state_by, is_undefined}
use Rattle.ec_check_expressions.specs.Known.{Known}
use Rattle.ec_check_declarations.specs.Declarators.{head_of, head_rules, misused_in, shape_sites, typed_declarator}
use Rattle.ec_check_declarations.specs.Registers.{is_no_number, passes_last, register_type, breaks_register, register_sites}
use Rattle.ec_check_declarations.specs.Sites.{on}
use Rattle.ec_check_declarations.specs.Structures.{MemberDeclared, is_member, member_rules, member_sites, with_more_members}
use Rattle.ec_check_declarations.specs.Structures.{more_member_sites, with_declared, declared_sites, all_declared_sites}
use Rattle.ec_check_declarations.specs.Structures.{size_together, is_over}
use Rattle.ec_check_declarations.specs.Structures.{is_too_large_together, members_of, member_list_sites, structure_sites}
use Rattle.ec_check_least.specs.Told.{LeastIsTold}
use Rattle.ec_check_meanings.proofs.Options.{inside, nothing_there}
use Rattle.ec_check_parts.specs.Words.{Word, words_among, words_of, own_words}
use Rattle.ec_check_parts.specs.Specifiers.{BreakSpecifiers}
use Rattle.ec_check_parts.specs.Heads.{member, register_object, BreakHead}
use Rattle.ec_check_parts.specs.Sizes.{BreakShape}
use Rattle.ec_check_parts.specs.Structures.{role_of, IsFunction, SayConst, IsAmong, BreakMember, member_sized, member_headed, member_again}
use Rattle.ec_check_parts.specs.Structures.{const_member, function_member, declarators_behind, BreakDeclarators, names_behind, BreakMembers}
use Rattle.ec_check_parts.specs.Structures.{HasMembers, BreakStructure, defined_again, in_members, too_large, BreakRegister, register_specified}
use Rattle.ec_check_parts.specs.Structures.{register_headed, no_register, no_number, passes_last_register}
use Rattle.ec_check_parts.specs.Laws.{TellAt, StructuresAreJudged}
use Rattle.ec_check_parts.specs.Said.{StructsAreDeclared}
use Rattle.ec_check_parts.proofs.Qualifiers.{SaysConst, star_says}
use Rattle.ec_check_parts.proofs.Specifiers.{says, specifiers_alone}
use Rattle.ec_check_parts.proofs.Heads.{heads_are_judged}
use Rattle.ec_check_parts.proofs.Joined.{nowhere, at_one, both, like}
use Rattle.ec_check_parts.proofs.Expressions.{ExpressionLaws}
use Rattle.ec_check_parts.proofs.Declared.{register_named, register_typed}
use Rattle.ec_check_parts.proofs.Members.{has_members, struct_declares}
use Rattle.ec_check_parts.proofs.Sizes.{shape_judged}
use Rattle.ec_check_parts.proofs.Types.{type_said}

-- ---- const

own_const : (d : Declared) (ws : List Word) (stars : List t.Star) → SaysConst d.qualities.konst ws
    → SaysConst (behind d stars).qualities.konst (own_words ws stars)
own_const d ws [] h = h
own_const d ws (t.star spot qs ∷ more) h =
    own_const (record { ty = pointer_to d; qualities = qualities_of qs }) (words_of qs) more (star_says qs)

pub const_said : (tags : Tags) (ss : t.Specs) (stars : List t.Star)
    → Decides (head_of (specified tags ss) stars).qualities.konst (SayConst ss stars)
const_said tags ss stars = own_const (declared_by (specified tags ss)) (words_among ss) stars (says tags ss)

-- ---- shapes

pub function_told : (shape : t.Shape) → Decides (is_function shape) (IsFunction shape)
function_told t.object = (λ e. absurd (false≢true e), λ h. absurd h)
function_told (t.array l size r) = (λ e. absurd (false≢true e), λ h. absurd h)
function_told (t.function_shape l ps r) = (λ e. tt, λ h. refl)

member_head : (tags : Tags) (ss : t.Specs) (stars : List t.Star) (shape : t.Shape) (f : Fault)
    → IsTold (head_rules false (misused_in shape (void_at (specified tags ss).types) stars) (specified tags ss) stars) f
    ↔ BreakHead tags (role_of member shape) ss stars f
member_head tags ss stars t.object f = heads_are_judged tags member ss stars f
member_head tags ss stars (t.array l size r) f = heads_are_judged tags member ss stars f
member_head tags ss stars (t.function_shape l ps r) f = heads_are_judged tags (role_of member (t.function_shape l ps r)) ss stars f

-- ---- names

-- the names of members, as they are found
abbrev AreBefore : List MemberDeclared → List (List ℕ) → Type 0
AreBefore ms before = (n : List ℕ) → Decides (is_member n ms) (IsAmong n before)

member_behind : (n : List ℕ) (ms : List MemberDeclared) (m : MemberDeclared)
    → is_member n (ms ++ m ∷ []) ≡ (is_member n ms || bytes_eq m.name n)
member_behind n [] m = by (bytes_eq m.name n)
  where
    by : (b : Bool) → (b || false) ≡ b
    by true = refl
    by false = refl
member_behind n (x ∷ ms) m = ap (λ b. bytes_eq x.name n || b) (member_behind n ms m) ∙ by (bytes_eq x.name n)
  where
    by : (b : Bool) → (b || (is_member n ms || bytes_eq m.name n)) ≡ ((b || is_member n ms) || bytes_eq m.name n)
    by true = refl
    by false = refl

one_before : (ms : List MemberDeclared) (before : List (List ℕ)) (m : MemberDeclared) → AreBefore ms before
    → AreBefore (ms ++ m ∷ []) (m.name ∷ before)
one_before ms before m h n =
    Decides-at (is_member n (ms ++ m ∷ [])) (is_member n ms || bytes_eq m.name n) (member_behind n ms m)
    (Decides-like (is_member n ms || bytes_eq m.name n) there back
    (Decides-or (is_member n ms) (bytes_eq m.name n) (h n) (bytes_eq-Decides m.name n)))
  where
    there : IsAmong n before ⊎ (m.name ≡ n) → IsAmong n (m.name ∷ before)
    there (inl h) = inr h
    there (inr h) = inl h

    back : IsAmong n (m.name ∷ before) → IsAmong n before ⊎ (m.name ≡ n)
    back (inl h) = inr h
    back (inr h) = inl h

-- ---- one member

module _ (laws : ExpressionLaws) (k : Known) (ss : t.Specs) where
  module _ (before : List (List ℕ)) (ms : List MemberDeclared) (stars : List t.Star) (at : Spot) (n : List ℕ) (shape : t.Shape) where
    abbrev Judged : List Judgement
    Judged = member_rules (is_member n ms) (head_of (specified k.tags ss) stars).qualities.konst (is_function shape) at.index

    abbrev BreakRules : Fault → Type 0
    BreakRules f =
        ((f.rule ≡ 5) × (f.at ≡ at.index) × IsAmong n before)
        ⊎ ((f.rule ≡ 11) × (f.at ≡ at.index) × (SayConst ss stars ⊎ IsFunction shape))

    rules_judged : AreBefore ms before → (f : Fault) → IsTold Judged f ↔ BreakRules f
    rules_judged h f = (there, back)
      where
        wrong : Decides ((head_of (specified k.tags ss) stars).qualities.konst || is_function shape) (SayConst ss stars ⊎ IsFunction shape)
        wrong =
            Decides-or (head_of (specified k.tags ss) stars).qualities.konst (is_function shape) (const_said k.tags ss stars)
            (function_told shape)

        there : IsTold Judged f → BreakRules f
        there (inl (b, a, r)) = inl (r, a, (h n).0 b)
        there (inr (inl (b, a, r))) = inr (r, a, wrong.0 b)
        there (inr (inr q)) = absurd q

        back : BreakRules f → IsTold Judged f
        back (inl (r, a, q)) = inl ((h n).1 q, a, r)
        back (inr (r, a, q)) = inr (inl (wrong.1 q, a, r))

    abbrev Parts : Fault → Type 0
    Parts f = BreakShape k shape None f ⊎ (BreakHead k.tags (role_of member shape) ss stars f ⊎ BreakRules f)

    of_parts : (f : Fault) → Parts f → BreakMember k before ss stars at.index n shape f
    of_parts f (inl b) = member_sized b
    of_parts f (inr (inl b)) = member_headed b
    of_parts f (inr (inr (inl (r, a, h)))) = member_again r a h
    of_parts f (inr (inr (inr (r, a, inl h)))) = const_member r a h
    of_parts f (inr (inr (inr (r, a, inr h)))) = function_member r a h

    to_parts : (f : Fault) → BreakMember k before ss stars at.index n shape f → Parts f
    to_parts f (member_sized b) = inl b
    to_parts f (member_headed b) = inr (inl b)
    to_parts f (member_again r a h) = inr (inr (inl (r, a, h)))
    to_parts f (const_member r a h) = inr (inr (inr (r, a, inl h)))
    to_parts f (function_member r a h) = inr (inr (inr (r, a, inr h)))

    member_judged : AreBefore ms before
        → TellAt (member_sites k (specified k.tags ss) (t.declarator stars (t.identifier at n) shape) ms)
        (BreakMember k before ss stars at.index n shape)
    member_judged h =
        let heads = head_rules false (misused_in shape (void_at (specified k.tags ss).types) stars) (specified k.tags ss) stars in
        like (member_sites k (specified k.tags ss) (t.declarator stars (t.identifier at n) shape) ms) Parts
        (BreakMember k before ss stars at.index n shape) of_parts to_parts
        (both (shape_sites k shape None) (λ rest. on heads ∷ on Judged ∷ rest) (BreakShape k shape None)
        (λ f. BreakHead k.tags (role_of member shape) ss stars f ⊎ BreakRules f) (shape_judged laws k shape None)
        (both (λ rest. on heads ∷ rest) (λ rest. on Judged ∷ rest) (BreakHead k.tags (role_of member shape) ss stars) BreakRules
        (at_one heads (BreakHead k.tags (role_of member shape) ss stars) (λ f. member_head k.tags ss stars shape f))
        (at_one Judged BreakRules (rules_judged h))))

  -- ---- declarators of one declaration

  more_judged : (before : List (List ℕ)) (ms : List MemberDeclared) (ds : List t.NextDeclarator) → AreBefore ms before
      → TellAt (more_member_sites k (specified k.tags ss) ds ms) (BreakDeclarators k before ss (declarators_behind ds))
  more_judged before ms [] h = nowhere
  more_judged before ms (t.next_declarator comma (t.declarator stars (t.identifier at n) shape) ∷ ds) h =
      let d = t.declarator stars (t.identifier at n) shape in
      let s = specified k.tags ss in
      let m : MemberDeclared = record { name = n; ty = (typed_declarator k s d None).ty } in
      both (member_sites k s d ms) (more_member_sites k s ds (ms ++ m ∷ [])) (BreakMember k before ss stars at.index n shape)
      (BreakDeclarators k (n ∷ before) ss (declarators_behind ds)) (member_judged before ms stars at n shape h)
      (more_judged (n ∷ before) (ms ++ m ∷ []) ds (one_before ms before m h))

  more_before : (before : List (List ℕ)) (ms : List MemberDeclared) (ds : List t.NextDeclarator) → AreBefore ms before
      → AreBefore (with_more_members k (specified k.tags ss) ds ms) (names_behind before (declarators_behind ds))
  more_before before ms [] h = h
  more_before before ms (t.next_declarator comma (t.declarator stars (t.identifier at n) shape) ∷ ds) h =
      let d = t.declarator stars (t.identifier at n) shape in
      let m : MemberDeclared = record { name = n; ty = (typed_declarator k (specified k.tags ss) d None).ty } in
      more_before (n ∷ before) (ms ++ m ∷ []) ds (one_before ms before m h)

-- ---- declarations of members

declared_judged : (laws : ExpressionLaws) (k : Known) (before : List (List ℕ)) (ms : List MemberDeclared) (ss : t.Specs)
    (first : t.Declarator) (more : List t.NextDeclarator) (e : Spot) → AreBefore ms before
    → TellAt (declared_sites k (t.members ss first more e) ms)
    (λ f. BreakSpecifiers k.tags false ss f ⊎ BreakDeclarators k before ss (first ∷ declarators_behind more) f)
declared_judged laws k before ms ss (t.declarator stars (t.identifier at n) shape) more e h =
    let d = t.declarator stars (t.identifier at n) shape in
    let s = specified k.tags ss in
    let m : MemberDeclared = record { name = n; ty = (typed_declarator k s d None).ty } in
    both (λ rest. on (specs_rules k.tags false ss []) ∷ rest)
    (λ rest. member_sites k s d ms (more_member_sites k s more (ms ++ m ∷ []) rest))
    (BreakSpecifiers k.tags false ss) (BreakDeclarators k before ss (d ∷ declarators_behind more))
    (at_one (specs_rules k.tags false ss []) (BreakSpecifiers k.tags false ss) (specifiers_alone k.tags false ss))
    (both (member_sites k s d ms) (more_member_sites k s more (ms ++ m ∷ [])) (BreakMember k before ss stars at.index n shape)
    (BreakDeclarators k (n ∷ before) ss (declarators_behind more)) (member_judged laws k ss before ms stars at n shape h)
    (more_judged laws k ss (n ∷ before) (ms ++ m ∷ []) more (one_before ms before m h)))

declared_before : (laws : ExpressionLaws) (k : Known) (before : List (List ℕ)) (ms : List MemberDeclared) (ss : t.Specs)
    (first : t.Declarator) (more : List t.NextDeclarator) (e : Spot) → AreBefore ms before
    → AreBefore (with_declared k (t.members ss first more e) ms) (names_behind before (first ∷ declarators_behind more))
declared_before laws k before ms ss (t.declarator stars (t.identifier at n) shape) more e h =
    let d = t.declarator stars (t.identifier at n) shape in
    let m : MemberDeclared = record { name = n; ty = (typed_declarator k (specified k.tags ss) d None).ty } in
    more_before laws k ss (n ∷ before) (ms ++ m ∷ []) more (one_before ms before m h)

all_judged : (laws : ExpressionLaws) (k : Known) (before : List (List ℕ)) (ms : List MemberDeclared) (ds : List t.Member)
    → AreBefore ms before → TellAt (all_declared_sites k ds ms) (BreakMembers k before ds)
all_judged laws k before ms [] h = nowhere
all_judged laws k before ms (t.members ss first more e ∷ ds) h =
    let here = names_behind before (first ∷ declarators_behind more) in
    let Here = (λ (f : Fault). BreakSpecifiers k.tags false ss f ⊎ BreakDeclarators k before ss (first ∷ declarators_behind more) f) in
    like (all_declared_sites k (t.members ss first more e ∷ ds) ms) (λ f. Here f ⊎ BreakMembers k here ds f)
    (BreakMembers k before (t.members ss first more e ∷ ds)) there back
    (both (declared_sites k (t.members ss first more e) ms) (all_declared_sites k ds (with_declared k (t.members ss first more e) ms)) Here
    (BreakMembers k here ds) (declared_judged laws k before ms ss first more e h)
    (all_judged laws k here (with_declared k (t.members ss first more e) ms) ds (declared_before laws k before ms ss first more e h)))
  where
    there : (f : Fault)
        → (BreakSpecifiers k.tags false ss f ⊎ BreakDeclarators k before ss (first ∷ declarators_behind more) f)
        ⊎ BreakMembers k (names_behind before (first ∷ declarators_behind more)) ds f
        → BreakMembers k before (t.members ss first more e ∷ ds) f
    there f (inl (inl b)) = inl b
    there f (inl (inr b)) = inr (inl b)
    there f (inr b) = inr (inr b)

    back : (f : Fault) → BreakMembers k before (t.members ss first more e ∷ ds) f
        → (BreakSpecifiers k.tags false ss f ⊎ BreakDeclarators k before ss (first ∷ declarators_behind more) f)
        ⊎ BreakMembers k (names_behind before (first ∷ declarators_behind more)) ds f
    back f (inl b) = inl (inl b)
    back f (inr (inl b)) = inl (inr b)
    back f (inr (inr b)) = inr b

nothing_before : AreBefore [] []
nothing_before n = (λ e. absurd (false≢true e), λ h. absurd h)

pub members_judged : (laws : ExpressionLaws) (k : Known) (first : t.Member) (more : List t.Member)
    → TellAt (member_list_sites k first more) (BreakMembers k [] (first ∷ more))
members_judged laws k first more = all_judged laws k [] [] (first ∷ more) nothing_before

-- ---- structs

defined_told : (o : Option (Option ℕ)) → Decides (not (is_undefined (state_by o))) (o ≢ None)
defined_told None = (λ e. absurd (false≢true e), λ n. absurd (n refl))
defined_told (Some None) = (λ e q. cc, λ n. refl)
defined_told (Some (Some i)) = (λ e q. cc, λ n. refl)

-- the members have too many bytes, as the walk finds them, and in words
abbrev IsLargeWalked : List PlainStruct → Option (List PlainMember) → Type 0
IsLargeWalked structs o =
    (ms : List PlainMember) × (bytes : ℕ) × ((o ≡ Some ms) × (size_together structs ms ≡ Some bytes)) × (32_767 < bytes)

abbrev IsLarge : Known → t.Member → List t.Member → Type 0
IsLarge k first more = (ms : List PlainMember) × (bytes : ℕ) × HasMembers k first more ms bytes × (32_767 < bytes)

over_told : (o : Option ℕ) → Decides (is_over o) ((bytes : ℕ) × (o ≡ Some bytes) × (32_767 < bytes))
over_told None = (λ e. absurd (false≢true e), λ h. absurd (nothing_there h.0 h.1))
over_told (Some m) =
    (λ e. (m, refl, (Decides-ltb 32_767 m).0 e), λ h. (Decides-ltb 32_767 m).1 (subst (λ z. 32_767 < z) (sym (inside h.1)) h.2))

large_walked : (structs : List PlainStruct) (o : Option (List PlainMember)) → Decides (is_too_large_together structs o) (IsLargeWalked structs o)
large_walked structs None = (λ e. absurd (false≢true e), λ h. absurd (nothing_there h.0 h.2.0))
large_walked structs (Some ms) = (there, back)
  where
    there : is_over (size_together structs ms) ≡ true → IsLargeWalked structs (Some ms)
    there e = let g = (over_told (size_together structs ms)).0 e in (ms, g.0, (refl, g.1), g.2)

    back : IsLargeWalked structs (Some ms) → is_over (size_together structs ms) ≡ true
    back (ns, bytes, (e, q), b) =
        (over_told (size_together structs ms)).1
        (bytes, subst (λ (z : List PlainMember). size_together structs z ≡ Some bytes) (sym (inside e)) q, b)

-- what is told of one rule
abbrev pub BreakOne : ℕ → ℕ → Type 0 → Fault → Type 0
BreakOne number at P f = (f.rule ≡ number) × (f.at ≡ at) × P

pub one_judged : (number : ℕ) (b : Bool) (at : ℕ) (P : Type 0) → Decides b P → (f : Fault)
    → IsTold (rule number b at ∷ []) f ↔ BreakOne number at P f
one_judged number b at P d f = (there, back)
  where
    there : IsTold (rule number b at ∷ []) f → BreakOne number at P f
    there (inl (e, a, r)) = (r, a, d.0 e)
    there (inr h) = absurd h

    back : BreakOne number at P f → IsTold (rule number b at ∷ []) f
    back (r, a, p) = inl (d.1 p, a, r)

-- what is told of a struct, in the order of its places
abbrev StructureParts : Known → (at : ℕ) → List ℕ → t.Member → List t.Member → Fault → Type 0
StructureParts k at tag first more f =
    BreakOne 10 at (at_name tag k.tags ≢ None) f
    ⊎ (BreakMembers k [] (first ∷ more) f ⊎ BreakOne 9 at (IsLarge k first more) f)

large_told : (laws : ExpressionLaws) (least : LeastIsTold) (k : Known) (first : t.Member) (more : List t.Member)
    → Decides (is_too_large_together k.structs (members_of k first more)) (IsLarge k first more)
large_told laws least k first more =
    let has = has_members laws k least first more (members_judged laws k first more) in
    Decides-like (is_too_large_together k.structs (members_of k first more)) (λ h. (h.0, h.1, (has h.0 h.1).0 h.2, h.3))
    (λ h. (h.0, h.1, (has h.0 h.1).1 h.2, h.3)) (large_walked k.structs (members_of k first more))

structure_judged : (laws : ExpressionLaws) (least : LeastIsTold) (k : Known) (w : Spot) (at : Spot) (tag : List ℕ) (l : Spot) (first : t.Member)
    (more : List t.Member) (r e : Spot)
    → TellAt (structure_sites k (t.structure w (t.identifier at tag) l first more r e)) (BreakStructure k at.index tag first more)
structure_judged laws least k w at tag l first more r e =
    let again = rule 10 (not (is_undefined (tag_state tag k.tags))) at.index ∷ [] in
    let large = rule 9 (is_too_large_together k.structs (members_of k first more)) at.index ∷ [] in
    let Again = BreakOne 10 at.index (at_name tag k.tags ≢ None) in
    let Large = BreakOne 9 at.index (IsLarge k first more) in
    like (structure_sites k (t.structure w (t.identifier at tag) l first more r e))
    (λ f. Again f ⊎ (BreakMembers k [] (first ∷ more) f ⊎ Large f)) (BreakStructure k at.index tag first more) there back
    (both (λ rest. on again ∷ rest) (λ rest. member_list_sites k first more (on large ∷ rest)) Again
    (λ f. BreakMembers k [] (first ∷ more) f ⊎ Large f)
    (at_one again Again (one_judged 10 (not (is_undefined (tag_state tag k.tags))) at.index (at_name tag k.tags ≢ None)
    (defined_told (at_name tag k.tags))))
    (both (member_list_sites k first more) (λ rest. on large ∷ rest) (BreakMembers k [] (first ∷ more)) Large
    (members_judged laws k first more)
    (at_one large Large (one_judged 9 (is_too_large_together k.structs (members_of k first more)) at.index
    (IsLarge k first more) (large_told laws least k first more)))))
  where
    there : (f : Fault) → StructureParts k at.index tag first more f → BreakStructure k at.index tag first more f
    there f (inl (q, a, n)) = defined_again q a n
    there f (inr (inl b)) = in_members b
    there f (inr (inr (q, a, (ms, bytes, h, b)))) = too_large q a ms bytes h b

    back : (f : Fault) → BreakStructure k at.index tag first more f → StructureParts k at.index tag first more f
    back f (defined_again q a n) = inl (q, a, n)
    back f (in_members b) = inr (inl b)
    back f (too_large q a ms bytes h b) = inr (inr (q, a, (ms, bytes, h, b)))

-- ---- named registers

abbrev IsNoNumber : Option PlainType → Type 0
IsNoNumber o = (ty : PlainType) × (o ≡ Some ty) × ¬ IsArithmetic ty

no_number_told : (o : Option PlainType) → Decides (is_no_number o) (IsNoNumber o)
no_number_told None = (λ e. absurd (false≢true e), λ h. absurd (none h.0 h.1))
  where
    none : (ty : PlainType) → ◌≡◌ {A = Option PlainType} None (Some ty) → ⊥
    none ty e = cc
no_number_told (Some u) = (λ e. (u, refl, d.0 e), λ h. d.1 (moved h.0 h.1 h.2))
  where
    d : Decides (not (is_arithmetic u)) (¬ IsArithmetic u)
    d = Decides-not (is_arithmetic u) (arithmetics u)

    moved : (ty : PlainType) → ◌≡◌ {A = Option PlainType} (Some u) (Some ty) → ¬ IsArithmetic ty → ¬ IsArithmetic u
    moved ty e n = let same : ty ≡ u = cc in subst (λ z. ¬ IsArithmetic z) same n

abbrev Passes : List PlainStruct → Option ℕ → Option PlainType → Type 0
Passes structs o ty =
    (first : ℕ) × (o ≡ Some first) × (u : PlainType) × (ty ≡ Some u) × (8 < first + size_of_type structs u)

passes_told : (structs : List PlainStruct) (o : Option ℕ) (ty : Option PlainType) → Decides (passes_last structs o ty) (Passes structs o ty)
passes_told structs None ty = (λ e. absurd (false≢true e), λ h. absurd (none h.0 h.1))
  where
    none : (n : ℕ) → ◌≡◌ {A = Option ℕ} None (Some n) → ⊥
    none n e = cc
passes_told structs (Some m) None = (λ e. absurd (false≢true e), λ h. absurd (none h.2 h.3))
  where
    none : (u : PlainType) → ◌≡◌ {A = Option PlainType} None (Some u) → ⊥
    none u e = cc
passes_told structs (Some m) (Some v) = (
  λ e. (m, refl, v, refl, (Decides-ltb 8 (m + size_of_type structs v)).0 e),
  λ h. (Decides-ltb 8 (m + size_of_type structs v)).1 (moved h.0 h.1 h.2 h.3 h.4),
)
  where
    moved : (n : ℕ) → ◌≡◌ {A = Option ℕ} (Some m) (Some n) → (u : PlainType) → ◌≡◌ {A = Option PlainType} (Some v) (Some u)
        → 8 < n + size_of_type structs u → 8 < m + size_of_type structs v
    moved n e u q b =
        let first : n ≡ m = cc in
        let same : u ≡ v = cc in
        subst (λ z. 8 < z + size_of_type structs v) first (subst (λ z. 8 < n + size_of_type structs z) same b)

none_told : (o : Option ℕ) → Decides (is_none o) (o ≡ None)
none_told None = (λ e. refl, λ e. refl)
none_told (Some x) = (λ e. absurd (false≢true e), λ e. cc)

-- what is told of a named register, in the order of its places
abbrev RegisterParts : Known → (at : ℕ) → List ℕ → t.Specs → Fault → Type 0
RegisterParts k at register ss f =
    BreakSpecifiers k.tags false ss f
    ⊎ (BreakHead k.tags register_object ss [] f
    ⊎ BreakOne 12 at
    (((register_number register ≡ None) ⊎ IsNoNumber (head_of (specified k.tags ss) []).ty)
    ⊎ Passes k.structs (register_number register) (register_type (length k.structs) (specified k.tags ss))) f)

register_judged : (k : Known) (w : Spot) (at : Spot) (register : List ℕ) (ss : t.Specs) (name : t.Identifier) (e : Spot)
    → TellAt (register_sites k (t.register_object w (t.identifier at register) ss name e)) (BreakRegister k at.index register ss)
register_judged k w at register ss name e =
    let s = specified k.tags ss in
    let heads = head_rules false (void_at s.types) s [] in
    let first = register_number register in
    let said = (head_of s []).ty in
    let ty = register_type (length k.structs) s in
    let Wrong = ((first ≡ None) ⊎ IsNoNumber said) ⊎ Passes k.structs first ty in
    let rules = rule 12 (breaks_register k.structs first said ty) at.index ∷ [] in
    like (register_sites k (t.register_object w (t.identifier at register) ss name e))
    (λ f. BreakSpecifiers k.tags false ss f ⊎ (BreakHead k.tags register_object ss [] f ⊎ BreakOne 12 at.index Wrong f))
    (BreakRegister k at.index register ss) there back
    (both (λ rest. on (specs_rules k.tags false ss []) ∷ rest) (λ rest. on heads ∷ on rules ∷ rest) (BreakSpecifiers k.tags false ss)
    (λ f. BreakHead k.tags register_object ss [] f ⊎ BreakOne 12 at.index Wrong f)
    (at_one (specs_rules k.tags false ss []) (BreakSpecifiers k.tags false ss) (specifiers_alone k.tags false ss))
    (both (λ rest. on heads ∷ rest) (λ rest. on rules ∷ rest) (BreakHead k.tags register_object ss []) (BreakOne 12 at.index Wrong)
    (at_one heads (BreakHead k.tags register_object ss []) (λ f. heads_are_judged k.tags register_object ss [] f))
    (at_one rules (BreakOne 12 at.index Wrong) (one_judged 12 (breaks_register k.structs first said ty) at.index Wrong
    (Decides-or (is_none first || is_no_number said) (passes_last k.structs first ty)
    (Decides-or (is_none first) (is_no_number said) (none_told first) (no_number_told said)) (passes_told k.structs first ty))))))
  where
    there : (f : Fault) → RegisterParts k at.index register ss f → BreakRegister k at.index register ss f
    there f (inl b) = register_specified b
    there f (inr (inl b)) = register_headed b
    there f (inr (inr (q, a, inl (inl n)))) = no_register q a (λ first h. nothing_there first (sym n ∙ (register_named register first).1 h))
    there f (inr (inr (q, a, inl (inr (ty, m, n))))) = no_number q a ty ((type_said k.tags ss [] ty).0 m) n
    there f (inr (inr (q, a, inr (first, m, ty, n, b)))) =
        let g = (register_typed k ss ty).0 n in passes_last_register q a first ((register_named register first).0 m) ty g.0 g.1 b

    back : (f : Fault) → BreakRegister k at.index register ss f → RegisterParts k at.index register ss f
    back f (register_specified b) = inl b
    back f (register_headed b) = inr (inl b)
    back f (no_register q a n) = inr (inr (q, a, inl (inl (by (register_number register) refl))))
      where
        by : (o : Option ℕ) → register_number register ≡ o → o ≡ None
        by None e = refl
        by (Some first) e = absurd (n first ((register_named register first).0 e))
    back f (no_number q a ty m n) = inr (inr (q, a, inl (inr (ty, (type_said k.tags ss [] ty).1 m, n))))
    back f (passes_last_register q a first m ty n o b) =
        inr (inr (q, a, inr (first, (register_named register first).1 m, ty, (register_typed k ss ty).1 (n, o), b)))

pub structures_are_judged : ExpressionLaws → LeastIsTold → StructuresAreJudged
structures_are_judged laws least = record { structures = structure_judged laws least; registers = register_judged }

pub structs_are_declared : ExpressionLaws → LeastIsTold → StructsAreDeclared
structs_are_declared laws least k d s = struct_declares laws k least (members_judged laws k) d s
