-- The members that declarations declare are those that the walk finds, and so are structs.
use Rattle.std.proofs.Common.{◌≡◌, ◌∙◌, ◌<◌, ◌≤◌, ℕ, Bool, true, false, ◌&&◌, List, [], ◌∷◌, ◌++◌, length, append_assoc, refl, sym, ap}
use Rattle.std.proofs.Common.{subst, inl, inr, arith}
use Rattle.std.specs.Prelude.{◌⊎◌, ◌↔◌, if◌then◌else◌, is_some, nat_le, nat_lt, Option, Some, None}
use Rattle.std.proofs.lemmas.Bool.{false≢true, true≢false}
use Rattle.std.proofs.lemmas.Bool.Decides.{nat_tests}
use Rattle.std.proofs.lemmas.List.{append-nil}
use Rattle.ec_grammar.specs.declared.Spot.{Spot}
use Rattle.ec_grammar.specs.Trees as t
use Rattle.ec_core.specs.Layout.{members_layout, struct_layouts}
use Rattle.ec_core.specs.Plain.{PlainType, PlainMember, PlainStruct}
use Rattle.ec_check_operands.specs.declared.faults.Fault.{Fault}
use Rattle.ec_check_names.specs.Specifiers.{specified}
use Rattle.ec_check_expressions.specs.Known.{Known}
use Rattle.ec_check_declarations.specs.Declarators.{shape_size, type_declared, typed_declarator}
use Rattle.ec_check_declarations.specs.ObjectTypes.{is_object_type}
use Rattle.ec_check_declarations.specs.Sites.{Site, told, is_told}
use Rattle.ec_check_declarations.specs.Structures.{MemberDeclared, with_more_members, with_declared, with_all_declared, known_from}
use Rattle.ec_check_declarations.specs.Structures.{known_members}
use Rattle.ec_check_declarations.specs.Structures.{are_objects, size_together, is_within, may_follow, member_list_sites, members_of}
use Rattle.ec_check_declarations.specs.Structures.{struct_defined}
use Rattle.ec_check_least.specs.Told.{IsLeastToldAt, LeastIsTold}
use Rattle.ec_check_meanings.proofs.Options.{inside, nothing_there, given, granted, with_given, with_granted}
use Rattle.ec_check_parts.specs.Declared.{IsObject, DeclareType, alone, in_array}
use Rattle.ec_check_parts.specs.Laws.{TellAt}
use Rattle.ec_check_parts.specs.Structures.{declarators_behind, BreakMembers, AreMembers, no_member, more_members, AreAllMembers}
use Rattle.ec_check_parts.specs.Structures.{none_declared, more_declared, HasMembers, DeclareStruct, a_struct}
use Rattle.ec_check_parts.proofs.Declared.{object_told, type_declares}
use Rattle.ec_check_parts.proofs.Expressions.{ExpressionLaws, uses_conditional}

-- ---- what members are declared

-- the types of all are known, and give these members
abbrev AreKnown : List MemberDeclared → List PlainMember → Type 0
AreKnown [] ns = ns ≡ []
AreKnown (m ∷ ms) ns =
    (ty : PlainType) × (m.ty ≡ Some ty) × ((rest : List PlainMember) × AreKnown ms rest × (ns ≡ record { name = m.name; ty = ty } ∷ rest))

known_is : (ks : List PlainMember) (ms : List MemberDeclared) (all : List PlainMember) → known_from ks ms ≡ Some all
    → (ns : List PlainMember) × (all ≡ ks ++ ns) × AreKnown ms ns
known_is ks [] all h = ([], sym (inside h) ∙ sym (append-nil ks), refl)
known_is ks (m ∷ ms) all h =
    let g = with_given m.ty (λ ty. known_from (ks ++ record { name = m.name; ty = ty } ∷ []) ms) all h in
    let x : PlainMember = record { name = m.name; ty = g.0 } in
    let r = known_is (ks ++ x ∷ []) ms all g.2 in
    (x ∷ r.0, r.1 ∙ append_assoc ks (x ∷ []) r.0, (g.0, g.1, (r.0, r.2, refl)))

known_back : (ks : List PlainMember) (ms : List MemberDeclared) (ns : List PlainMember) → AreKnown ms ns
    → known_from ks ms ≡ Some (ks ++ ns)
known_back ks [] ns h = ap Some (sym (append-nil ks) ∙ ap (λ (z : List PlainMember). ks ++ z) (sym h))
known_back ks (m ∷ ms) ns (ty, e, (rest, h, q)) =
    let x : PlainMember = record { name = m.name; ty = ty } in
    with_granted m.ty (λ ty. known_from (ks ++ record { name = m.name; ty = ty } ∷ []) ms) ty (ks ++ ns) e
    (known_back (ks ++ x ∷ []) ms rest h ∙ ap Some (append_assoc ks (x ∷ []) rest ∙ ap (λ (z : List PlainMember). ks ++ z) (sym q)))

known_both : (xs ys : List MemberDeclared) (ms ns : List PlainMember) → AreKnown xs ms → AreKnown ys ns → AreKnown (xs ++ ys) (ms ++ ns)
known_both [] ys ms ns h g = subst (λ (z : List PlainMember). AreKnown ys (z ++ ns)) (sym h) g
known_both (x ∷ xs) ys ms ns (ty, e, (rest, h, q)) g =
    (ty, e, (rest ++ ns, known_both xs ys rest ns h g, ap (λ (z : List PlainMember). z ++ ns) q))

known_parts : (xs ys : List MemberDeclared) (all : List PlainMember) → AreKnown (xs ++ ys) all
    → (ms : List PlainMember) × (ns : List PlainMember) × AreKnown xs ms × AreKnown ys ns × (all ≡ ms ++ ns)
known_parts [] ys all h = ([], all, refl, h, refl)
known_parts (x ∷ xs) ys all (ty, e, (rest, h, q)) =
    let g = known_parts xs ys rest h in
    let m : PlainMember = record { name = x.name; ty = ty } in
    (m ∷ g.0, g.1, (ty, e, (g.0, g.2, refl)), g.3, q ∙ ap (λ (z : List PlainMember). m ∷ z) g.4)

objects_both : (n : ℕ) (ms ns : List PlainMember) → are_objects n ms ≡ true → are_objects n ns ≡ true → are_objects n (ms ++ ns) ≡ true
objects_both n [] ns h g = g
objects_both n (m ∷ ms) ns h g = by (is_object_type n m.ty) (λ q. objects_both n ms ns q g) h
  where
    by : (b : Bool) → (are_objects n ms ≡ true → are_objects n (ms ++ ns) ≡ true) → (b && are_objects n ms) ≡ true
        → (b && are_objects n (ms ++ ns)) ≡ true
    by true go h = go h
    by false go h = absurd (false≢true h)

module _ (laws : ExpressionLaws) (k : Known) where
  -- ---- declarators of members

  abbrev declared : t.Specs → t.Declarator → MemberDeclared
  declared ss (t.declarator stars (t.identifier at n) shape) =
      record { name = n; ty = (typed_declarator k (specified k.tags ss) (t.declarator stars (t.identifier at n) shape) None).ty }

  abbrev declared_in : t.Specs → List t.Declarator → List MemberDeclared
  declared_in ss [] = []
  declared_in ss (d ∷ ds) = declared ss d ∷ declared_in ss ds

  abbrev all_declared : List t.Member → List MemberDeclared
  all_declared [] = []
  all_declared (t.members ss first more e ∷ ds) = declared_in ss (first ∷ declarators_behind more) ++ all_declared ds

  more_are : (ss : t.Specs) (ds : List t.NextDeclarator) (ms : List MemberDeclared)
      → with_more_members k (specified k.tags ss) ds ms ≡ ms ++ declared_in ss (declarators_behind ds)
  more_are ss [] ms = sym (append-nil ms)
  more_are ss (t.next_declarator comma (t.declarator stars (t.identifier at n) shape) ∷ ds) ms =
      let m = declared ss (t.declarator stars (t.identifier at n) shape) in
      more_are ss ds (ms ++ m ∷ []) ∙ append_assoc ms (m ∷ []) (declared_in ss (declarators_behind ds))

  one_are : (ss : t.Specs) (first : t.Declarator) (more : List t.NextDeclarator) (e : Spot) (ms : List MemberDeclared)
      → with_declared k (t.members ss first more e) ms ≡ ms ++ declared_in ss (first ∷ declarators_behind more)
  one_are ss (t.declarator stars (t.identifier at n) shape) more e ms =
      let m = declared ss (t.declarator stars (t.identifier at n) shape) in
      more_are ss more (ms ++ m ∷ []) ∙ append_assoc ms (m ∷ []) (declared_in ss (declarators_behind more))

  all_are : (ds : List t.Member) (ms : List MemberDeclared) → with_all_declared k ds ms ≡ ms ++ all_declared ds
  all_are [] ms = sym (append-nil ms)
  all_are (t.members ss first more e ∷ ds) ms =
      let here = declared_in ss (first ∷ declarators_behind more) in
      ap (with_all_declared k ds) (one_are ss first more e ms) ∙ all_are ds (ms ++ here) ∙ append_assoc ms here (all_declared ds)

  -- ---- members

  typed : (ss : t.Specs) (stars : List t.Star) (shape : t.Shape) (ty : PlainType)
      → type_declared (length k.structs) (specified k.tags ss) stars shape (shape_size k shape None) ≡ Some ty
      ↔ DeclareType k ss stars shape None ty
  typed ss stars shape ty = type_declares laws.meanings (uses_conditional laws) k ss stars shape None ty

  members_to : (ss : t.Specs) (ds : List t.Declarator) (ns : List PlainMember) → AreKnown (declared_in ss ds) ns → AreMembers k ss ds ns
  members_to ss [] ns h = subst (AreMembers k ss []) (sym h) no_member
  members_to ss (t.declarator stars (t.identifier at n) shape ∷ ds) ns (ty, e, (rest, h, q)) =
      subst (AreMembers k ss (t.declarator stars (t.identifier at n) shape ∷ ds)) (sym q)
      (more_members ((typed ss stars shape ty).0 e) (members_to ss ds rest h))

  members_back : (ss : t.Specs) (ds : List t.Declarator) (ns : List PlainMember) → AreMembers k ss ds ns → AreKnown (declared_in ss ds) ns
  members_back ss _ _ no_member = refl
  members_back ss _ _ (more_members {stars = stars} {shape = shape} {ty = ty} {ds = ds} {ms = ms} d h) =
      (ty, (typed ss stars shape ty).1 d, (ms, members_back ss ds ms h, refl))

  all_to : (ds : List t.Member) (ns : List PlainMember) → AreKnown (all_declared ds) ns → AreAllMembers k ds ns
  all_to [] ns h = subst (AreAllMembers k []) (sym h) none_declared
  all_to (t.members ss first more e ∷ ds) ns h =
      let g = known_parts (declared_in ss (first ∷ declarators_behind more)) (all_declared ds) ns h in
      subst (AreAllMembers k (t.members ss first more e ∷ ds)) (sym g.4)
      (more_declared (members_to ss (first ∷ declarators_behind more) g.0 g.2) (all_to ds g.1 g.3))

  all_back : (ds : List t.Member) (ns : List PlainMember) → AreAllMembers k ds ns → AreKnown (all_declared ds) ns
  all_back _ _ none_declared = refl
  all_back _ _ (more_declared {ss = ss} {first = first} {more = more} {ds = ds} {ms = ms} {ns = ns} h m) =
      known_both (declared_in ss (first ∷ declarators_behind more)) (all_declared ds) ms ns
      (members_back ss (first ∷ declarators_behind more) ms h) (all_back ds ns m)

  -- ---- their bytes

  object_of : (ss : t.Specs) (stars : List t.Star) (shape : t.Shape) (ty : PlainType) → DeclareType k ss stars shape None ty
      → IsObject (length k.structs) ty
  object_of ss stars _ _ (alone m o) = o
  object_of ss stars _ _ (in_array m e o) = o

  objects_in : (ss : t.Specs) (ds : List t.Declarator) (ms : List PlainMember) → AreMembers k ss ds ms
      → are_objects (length k.structs) ms ≡ true
  objects_in ss _ _ no_member = refl
  objects_in ss _ _ (more_members {stars = stars} {shape = shape} {ty = ty} {ds = ds} {ms = ms} d h) =
      ap (λ (b : Bool). b && are_objects (length k.structs) ms) ((object_told (length k.structs) ty).1 (object_of ss stars shape ty d))
      ∙ objects_in ss ds ms h

  all_objects : (ds : List t.Member) (ms : List PlainMember) → AreAllMembers k ds ms → are_objects (length k.structs) ms ≡ true
  all_objects _ _ none_declared = refl
  all_objects _ _ (more_declared {ss = ss} {first = first} {more = more} {ds = ds} {ms = ms} {ns = ns} h m) =
      objects_both (length k.structs) ms ns (objects_in ss (first ∷ declarators_behind more) ms h) (all_objects ds ns m)

  abbrev size_of : List PlainMember → ℕ
  size_of ms = (members_layout (struct_layouts k.structs) ms).size

  together : (ds : List t.Member) (ms : List PlainMember) → AreAllMembers k ds ms → size_together k.structs ms ≡ Some (size_of ms)
  together ds ms h = ap (λ (b : Bool). if b then Some (size_of ms) else None) (all_objects ds ms h)

  -- ---- members that break no constraint

  module _ (least : LeastIsTold) (first : t.Member) (more : List t.Member)
      (judged : TellAt (member_list_sites k first more) (BreakMembers k [] (first ∷ more))) where
    abbrev sites : List Site
    sites = member_list_sites k first more []

    abbrev Unbroken : Type 0
    Unbroken = (f : Fault) → ¬ BreakMembers k [] (first ∷ more) f

    unbroken_by : (o : Option Fault) → IsLeastToldAt sites o → is_some o ≡ false → Unbroken
    unbroken_by None h e = λ f b. h f ((judged.exactly [] f).1 (inl b))
    unbroken_by (Some f) h e = absurd (true≢false e)

    untold_by : (o : Option Fault) → IsLeastToldAt sites o → Unbroken → is_some o ≡ false
    untold_by None h n = refl
    untold_by (Some f) h n = absurd (by ((judged.exactly [] f).0 h.0))
      where
        by : BreakMembers k [] (first ∷ more) f ⊎ ⊥ → ⊥
        by (inl b) = n f b
        by (inr b) = b

    walked_is : (ms : List PlainMember) → known_members (with_all_declared k more (with_declared k first [])) ≡ Some ms
        → AreAllMembers k (first ∷ more) ms
    walked_is ms h =
        let g = known_is [] (all_declared (first ∷ more)) ms
        (ap (known_from []) (sym (all_are (first ∷ more) [])) ∙ h) in
        subst (AreAllMembers k (first ∷ more)) (sym g.1) (all_to (first ∷ more) g.0 g.2)

    walked_back : (ms : List PlainMember) → AreAllMembers k (first ∷ more) ms
        → known_members (with_all_declared k more (with_declared k first [])) ≡ Some ms
    walked_back ms h =
        ap (known_from []) (all_are (first ∷ more) [])
        ∙ known_back [] (all_declared (first ∷ more)) ms (all_back (first ∷ more) ms h)

    members_there : (ms : List PlainMember) → members_of k first more ≡ Some ms → Unbroken × AreAllMembers k (first ∷ more) ms
    members_there ms h = by (is_told sites) refl h
      where
        by : (b : Bool) → is_told sites ≡ b
            → (if b then None else known_members (with_all_declared k more (with_declared k first []))) ≡ Some ms
            → Unbroken × AreAllMembers k (first ∷ more) ms
        by true e h = absurd (nothing_there ms h)
        by false e h = (unbroken_by (told None sites) (least sites) e, walked_is ms h)

    members_found : (ms : List PlainMember) → Unbroken → AreAllMembers k (first ∷ more) ms → members_of k first more ≡ Some ms
    members_found ms n h =
        ap (λ (b : Bool). if b then None else known_members (with_all_declared k more (with_declared k first [])))
        (untold_by (told None sites) (least sites) n) ∙ walked_back ms h

    pub has_members : (ms : List PlainMember) (bytes : ℕ)
        → ((members_of k first more ≡ Some ms) × (size_together k.structs ms ≡ Some bytes)) ↔ HasMembers k first more ms bytes
    has_members ms bytes = (there, λ h. (members_found ms h.unbroken h.members, together (first ∷ more) ms h.members ∙ ap Some (sym h.sized)))
      where
        there : (members_of k first more ≡ Some ms) × (size_together k.structs ms ≡ Some bytes) → HasMembers k first more ms bytes
        there (e, q) =
            let g = members_there ms e in record {
              unbroken = g.0;
              members = g.1;
              sized = inside (sym q ∙ together (first ∷ more) ms g.1);
            }

    -- ---- structs

    module _ (w at : Spot) (tag : List ℕ) (l r semicolon : Spot) where
      abbrev d : t.Structure
      d = t.structure w (t.identifier at tag) l first more r semicolon

      abbrev Fits : List PlainMember → ℕ → Type 0
      Fits ms bytes = (bytes ≤ 32_767) × (length ms ≤ 65_536) × (length k.structs < 4_294_967_296)

      may_be : (ms : List PlainMember) (o : Option ℕ) → size_together k.structs ms ≡ o
          → (is_within o && nat_le (length ms) 65_536 && nat_lt (length k.structs) 4_294_967_296) ≡ true
          → (bytes : ℕ) × (o ≡ Some bytes) × Fits ms bytes
      may_be ms None e h = absurd (false≢true h)
      may_be ms (Some bytes) e h =
          (bytes, refl, (grind (arith, nat_tests, h), grind (arith, nat_tests, h), grind (arith, nat_tests, h)))

      may_follow_so : (ms : List PlainMember) (bytes : ℕ) → size_together k.structs ms ≡ Some bytes → Fits ms bytes
          → may_follow k.structs ms ≡ true
      may_follow_so ms bytes e (small, few, numbered) =
          ap (λ (o : Option ℕ). is_within o && nat_le (length ms) 65_536 && nat_lt (length k.structs) 4_294_967_296) e
          ∙ grind (arith, nat_tests, small, few, numbered)

      struct_there : (s : PlainStruct) → struct_defined k d ≡ Some s → DeclareStruct k d s
      struct_there s h =
          let g = with_given (members_of k first more) (λ ms. if may_follow k.structs ms then Some (record { tag = tag; members = ms }) else None)
          s h in
          let m = given (may_follow k.structs g.0) (record { tag = tag; members = g.0 }) s g.2 in
          let f = may_be g.0 (size_together k.structs g.0) refl m.0 in
          subst (DeclareStruct k d) m.1 (a_struct ((has_members g.0 f.0).0 (g.1, f.1)) f.2.0 f.2.1 f.2.2)

  struct_back : (least : LeastIsTold) (judged : (first : t.Member) (more : List t.Member)
      → TellAt (member_list_sites k first more) (BreakMembers k [] (first ∷ more))) (d : t.Structure) (s : PlainStruct)
      → DeclareStruct k d s → struct_defined k d ≡ Some s
  struct_back least judged _ _ (a_struct {w = w} {l = l} {r = r} {semicolon = semicolon} {at = at} {tag = tag} {first = first} {more = more}
      {ms = ms} {bytes = bytes} h small few numbered) =
      let s : PlainStruct = record { tag = tag; members = ms } in
      let g = (has_members least first more (judged first more) ms bytes).1 h in
      with_granted (members_of k first more) (λ ms. if may_follow k.structs ms then Some (record { tag = tag; members = ms }) else None) ms s g.0
      (granted (may_follow k.structs ms) s s
      (may_follow_so least first more (judged first more) w at tag l r semicolon ms bytes g.1 (small, few, numbered)) refl)

  pub struct_declares : (least : LeastIsTold) (judged : (first : t.Member) (more : List t.Member)
      → TellAt (member_list_sites k first more) (BreakMembers k [] (first ∷ more))) (d : t.Structure) (s : PlainStruct)
      → struct_defined k d ≡ Some s ↔ DeclareStruct k d s
  struct_declares least judged (t.structure w (t.identifier at tag) l first more r semicolon) s = (
    struct_there least first more (judged first more) w at tag l r semicolon s,
    struct_back least judged (t.structure w (t.identifier at tag) l first more r semicolon) s,
  )
