-- Definitions of structs agree with what is numbered: there is a struct where no rule is broken.
use Rattle.std.proofs.Common.{◌≡◌, ◌<◌, ◌≤◌, ◌+◌, ◌++◌, ℕ, Bool, true, false, ◌&&◌, List, [], ◌∷◌, length, refl, sym, ap, subst, inl, inr}
use Rattle.std.proofs.Common.{arith}
use Rattle.std.specs.Prelude.{◌⊎◌, if◌then◌else◌, nat_lt, nat_le, is_some, Option, Some, None, IsSome, IsSomeAnd, IfSome}
use Rattle.std.specs.List.{AllByRecursion}
use Rattle.std.proofs.lemmas.Bool.{both_ways, cases_eq, and_from, or_parts, false≢true, true≢false}
use Rattle.std.proofs.lemmas.Bool.Decides.{nat_tests}
use Rattle.ec_grammar.specs.Trees as t
use Rattle.ec_core.specs.Layout.{Layout, members_layout, struct_layouts, size_of_type}
use Rattle.ec_core.specs.Plain.{PlainType, array, PlainMember, PlainStruct}
use Rattle.ec_core.specs.TypeLaws.{IsAppended, StructsAreLaidOut}
use Rattle.ec_check_names.specs.declared.specifiers.Specified.{Specified}
use Rattle.ec_check_names.specs.Counts.{is_function}
use Rattle.ec_check_names.specs.Definitions.{Numbering}
use Rattle.ec_check_names.specs.Specifiers.{specified, specs_rules, void_at}
use Rattle.ec_check_names.specs.Structs.{struct_place}
use Rattle.ec_check_names.specs.Tables.{with_name as with_tag}
use Rattle.ec_check_operands.specs.Operands.{with_one, with_both}
use Rattle.ec_check_expressions.specs.Known.{Known, is_sized}
use Rattle.ec_check_expressions.specs.TypeNames.{meant_type}
use Rattle.ec_check_expression_laws.specs.Laws.{AreUnbroken, DefinitionsKeepSuiting, KeptTypesAreSaid}
use Rattle.ec_check_expression_laws.specs.Suits.{HasTypes}
use Rattle.ec_check_initialisers.specs.Laws.{SizesAreValues}
use Rattle.ec_check_initialisers.specs.Sites as i
use Rattle.ec_check_declarations.specs.Declarators.{head_of, declared_size, declared_size_sites, typed_declarator, typed_sites}
use Rattle.ec_check_declarations.specs.ObjectTypes.{is_object_type}
use Rattle.ec_check_declarations.specs.Sites.{Site, on, told, is_told}
use Rattle.ec_check_declarations.specs.Structures.{MemberDeclared, member_rules, is_member, with_member, member_sites, with_more_members}
use Rattle.ec_check_declarations.specs.Structures.{more_member_sites, with_declared, declared_sites, with_all_declared, all_declared_sites}
use Rattle.ec_check_declarations.specs.Structures.{known_from, known_members, are_objects, size_together, is_over, is_within}
use Rattle.ec_check_declarations.specs.Structures.{is_too_large_together, may_follow, struct_of, struct_defined, structure_sites, place_of}
use Rattle.ec_check_declarations.specs.Structures.{struct_number, appended, with_struct, member_list_sites, members_of}
use Rattle.ec_check_declarations.proofs.Structs.{follows, place_below}
use Rattle.ec_check_statements.specs.Laws.{KeptMembersHaveTypes}
use Rattle.ec_check_statements.proofs.Choices.{if_both}
use Rattle.ec_check_statements.proofs.Unbroken.{AreKept, kept_of, told_of, kept_initialiser, initialiser_kept}
use Rattle.ec_check_file_scope.specs.FileScope.{after_structure}
use Rattle.ec_check_file_scope.specs.States.{Setting, State, known_of}
use Rattle.ec_check_file_scope.proofs.Sound.{all_below, no_fewer_by}
use Rattle.ec_check.specs.Agreement.{IsDefined, AreFilled, Agrees}
use Rattle.ec_check.proofs.Grown.{Grows, defined_kept}
use Rattle.ec_check.proofs.Lists.{if_true, one_longer, all_push, all_through}
use Rattle.ec_check.proofs.Sizes.{IsPositive, unmisused, tested_positive, plain_some, array_some, size_some}
use Rattle.ec_check.proofs.Sound.{more_sound}

-- ---- members

behind_size : (k : Known) (c : Option t.Conditional) (at : ℕ) (rest : List Site)
    → AreKept (declared_size_sites k c None at rest) → AreKept rest
behind_size k None at rest u = u.1
behind_size k (Some c) at rest u = (kept_initialiser (i.size_sites k c at []) rest u).1

both_of : {X : Type 0} → (P : X → Type 0) (o : Option X) → IsSome o → IfSome o P → IsSomeAnd o P
both_of P None h k = absurd (false≢true h)
both_of P (Some x) h k = k

module _ (types : KeptMembersHaveTypes) (said : KeptTypesAreSaid) (sizes : SizesAreValues) (k : Known) (h : HasTypes k)
    (filled : AreFilled k.structs) where
  abbrev IsMember : MemberDeclared → Type 0
  IsMember m = IsSomeAnd m.ty (IsPositive k.structs filled)

  -- so many members, each with a type
  abbrev AreMembers : List MemberDeclared → Type 0
  AreMembers ms = AllByRecursion IsMember ms

  module _ (ss : t.Specs) (unbroken : AreUnbroken (specs_rules k.tags false ss [])) where
    sized : (stars : List t.Star) → void_at (specified k.tags ss).types ≡ None
        → IsSomeAnd (meant_type (void_at (specified k.tags ss).types) (head_of (specified k.tags ss) stars).ty)
        (λ ty. is_sized (length k.structs) ty ≡ true)
    sized stars none =
        subst (λ (v : Option ℕ).
        IsSomeAnd (meant_type v (head_of (specified k.tags ss) stars).ty) (λ ty. is_sized (length k.structs) ty ≡ true)) (sym none)
        (said (length k.structs) k.tags h.tags false ss stars [] unbroken none)

    typed : (stars : List t.Star) (n : t.Identifier) (shape : t.Shape) (rest : List Site) → is_function shape ≡ false
        → AreKept (typed_sites k false (specified k.tags ss) (t.declarator stars n shape) None rest)
        → IfSome (typed_declarator k (specified k.tags ss) (t.declarator stars n shape) None).ty (IsPositive k.structs filled)
        → IsSomeAnd (typed_declarator k (specified k.tags ss) (t.declarator stars n shape) None).ty (IsPositive k.structs filled)
    typed stars n shape rest object u p =
        both_of (IsPositive k.structs filled) (typed_declarator k (specified k.tags ss) (t.declarator stars n shape) None).ty
        (types k ss [] stars n shape rest h unbroken object
        (told_of (typed_sites k false (specified k.tags ss) (t.declarator stars n shape) None rest) u)).0 p

    member_there : (d : t.Declarator) (ms : List MemberDeclared) (rest : List Site) → AreMembers ms
        → AreKept (member_sites k (specified k.tags ss) d ms rest)
        → AreMembers (with_member k (specified k.tags ss) d ms) × (1 ≤ length (with_member k (specified k.tags ss) d ms)) × AreKept rest
    member_there (t.declarator stars (t.identifier at name) t.object) ms rest all u =
        let d = t.declarator stars (t.identifier at name) t.object in
        let s = specified k.tags ss in
        let o = typed_declarator k s d None in
        let base = meant_type (void_at s.types) (head_of s stars).ty in
        let none = unmisused s (void_at s.types) stars u.0 in
        let p = tested_positive k.structs filled base (plain_some k.structs filled base (sized stars none)) in
        let m : MemberDeclared = record { name = name; ty = o.ty } in
        let long = one_longer ms m in
        let tail = on (member_rules (is_member name ms) o.konst false at.index) ∷ rest in
        (all_push IsMember ms m all (typed stars (t.identifier at name) t.object tail refl u p), omega (arith, long), u.1.1)
    member_there (t.declarator stars (t.identifier at name) (t.array l size e)) ms rest all u =
        let d = t.declarator stars (t.identifier at name) (t.array l size e) in
        let s = specified k.tags ss in
        let o = typed_declarator k s d None in
        let base = meant_type (void_at s.types) (head_of s stars).ty in
        let v = behind_size k size l.index _ u in
        let none = unmisused s (void_at s.types) stars v.0 in
        let ty = with_both base (declared_size k size None) (λ ty n. Some (array ty n)) in
        let p = tested_positive k.structs filled ty
        (array_some k.structs filled base (declared_size k size None) (sized stars none) (size_some sizes k size)) in
        let m : MemberDeclared = record { name = name; ty = o.ty } in
        let long = one_longer ms m in
        let tail = on (member_rules (is_member name ms) o.konst false at.index) ∷ rest in
        (all_push IsMember ms m all (typed stars (t.identifier at name) (t.array l size e) tail refl u p), omega (arith, long), v.1.1)
    member_there (t.declarator stars (t.identifier at name) (t.function_shape l ps e)) ms rest all u =
        absurd (true≢false (or_parts (typed_declarator k (specified k.tags ss)
        (t.declarator stars (t.identifier at name) (t.function_shape l ps e)) None).konst true u.1.0.1.0).1)

    more_there : (ds : List t.NextDeclarator) (ms : List MemberDeclared) (rest : List Site) → AreMembers ms → 1 ≤ length ms
        → AreKept (more_member_sites k (specified k.tags ss) ds ms rest)
        → AreMembers (with_more_members k (specified k.tags ss) ds ms)
        × (1 ≤ length (with_more_members k (specified k.tags ss) ds ms)) × AreKept rest
    more_there [] ms rest all long u = (all, long, u)
    more_there (t.next_declarator comma d ∷ ds) ms rest all long u =
        let a = member_there d ms _ all u in
        more_there ds (with_member k (specified k.tags ss) d ms) rest a.0 a.1 a.2

  declared_there : (x : t.Member) (ms : List MemberDeclared) (rest : List Site) → AreMembers ms → AreKept (declared_sites k x ms rest)
      → AreMembers (with_declared k x ms) × (1 ≤ length (with_declared k x ms)) × AreKept rest
  declared_there (t.members ss first more semicolon) ms rest all u =
      let a = member_there ss u.0 first ms _ all u.1 in
      more_there ss u.0 more (with_member k (specified k.tags ss) first ms) rest a.0 a.1 a.2

  all_there : (xs : List t.Member) (ms : List MemberDeclared) (rest : List Site) → AreMembers ms → 1 ≤ length ms
      → AreKept (all_declared_sites k xs ms rest)
      → AreMembers (with_all_declared k xs ms) × (1 ≤ length (with_all_declared k xs ms)) × AreKept rest
  all_there [] ms rest all long u = (all, long, u)
  all_there (x ∷ xs) ms rest all long u =
      let a = declared_there x ms _ all u in
      all_there xs (with_declared k x ms) rest a.0 a.1 a.2

  -- ---- the sites of members alone

  -- nothing is told at some sites with others behind them: so with any that are kept
  abbrev Stand : (List Site → List Site) → Type 0
  Stand sites = (others : List Site) → AreKept others → AreKept (sites others)

  size_stands : (c : Option t.Conditional) (at : ℕ) (rest : List Site) → AreKept (declared_size_sites k c None at rest)
      → Stand (declared_size_sites k c None at) × AreKept rest
  size_stands None at rest u = (λ others v. (u.0, v), u.1)
  size_stands (Some c) at rest u =
      let a = kept_initialiser (i.size_sites k c at []) rest u in
      (λ others v. initialiser_kept (i.size_sites k c at []) others a.0 v, a.1)

  member_stands : (s : Specified) (d : t.Declarator) (ms : List MemberDeclared) (rest : List Site)
      → AreKept (member_sites k s d ms rest) → Stand (member_sites k s d ms) × AreKept rest
  member_stands s (t.declarator stars (t.identifier at n) t.object) ms rest u = (λ others v. (u.0, (u.1.0, v)), u.1.1)
  member_stands s (t.declarator stars (t.identifier at n) (t.array l size e)) ms rest u =
      let a = size_stands size l.index _ u in (λ others v. a.0 _ (a.1.0, (a.1.1.0, v)), a.1.1.1)
  member_stands s (t.declarator stars (t.identifier at n) (t.function_shape l ps e)) ms rest u =
      (λ others v. (u.0, (u.1.0, v)), u.1.1)

  more_stand : (s : Specified) (ds : List t.NextDeclarator) (ms : List MemberDeclared) (rest : List Site)
      → AreKept (more_member_sites k s ds ms rest) → Stand (more_member_sites k s ds ms) × AreKept rest
  more_stand s [] ms rest u = (λ others v. v, u)
  more_stand s (t.next_declarator comma d ∷ ds) ms rest u =
      let a = member_stands s d ms _ u in
      let b = more_stand s ds (with_member k s d ms) rest a.1 in
      (λ others v. a.0 _ (b.0 others v), b.1)

  declared_stands : (x : t.Member) (ms : List MemberDeclared) (rest : List Site) → AreKept (declared_sites k x ms rest)
      → Stand (declared_sites k x ms) × AreKept rest
  declared_stands (t.members ss first more semicolon) ms rest u =
      let s = specified k.tags ss in
      let a = member_stands s first ms _ u.1 in
      let b = more_stand s more (with_member k s first ms) rest a.1 in
      (λ others v. (u.0, a.0 _ (b.0 others v)), b.1)

  all_stand : (xs : List t.Member) (ms : List MemberDeclared) (rest : List Site) → AreKept (all_declared_sites k xs ms rest)
      → Stand (all_declared_sites k xs ms)
  all_stand [] ms rest u = λ others v. v
  all_stand (x ∷ xs) ms rest u =
      let a = declared_stands x ms _ u in
      let b = all_stand xs (with_declared k x ms) rest a.1 in
      λ others v. a.0 _ (b others v)

  -- where nothing is told at the sites of a struct, nothing is told at those of its members
  untold : (first : t.Member) (more : List t.Member) (rest : List Site) → AreKept (member_list_sites k first more rest)
      → is_told (member_list_sites k first more []) ≡ false
  untold first more rest u =
      let a = declared_stands first [] _ u in
      let b = all_stand more (with_declared k first []) rest a.1 in
      ap is_some (told_of (member_list_sites k first more []) (a.0 _ (b [] tt)))

  -- ---- known members

  abbrev IsKnownMember : PlainMember → Type 0
  IsKnownMember m = IsPositive k.structs filled m.ty

  -- so many members are known
  abbrev AreKnown : ℕ → List PlainMember → Type 0
  AreKnown n ms = AllByRecursion IsKnownMember ms × (length ms ≡ n)

  with_some : (o : Option PlainType) (f : PlainType → Option (List PlainMember)) (Q : List PlainMember → Type 0)
      → IsSomeAnd o (IsPositive k.structs filled)
      → ((ty : PlainType) → IsPositive k.structs filled ty → IsSomeAnd (f ty) Q) → IsSomeAnd (with_one o f) Q
  with_some None f Q p g = absurd p
  with_some (Some ty) f Q p g = g ty p

  known_there : (ms : List MemberDeclared) (ks : List PlainMember) → AreMembers ms → AllByRecursion IsKnownMember ks
      → IsSomeAnd (known_from ks ms) (AreKnown (length ks + length ms))
  known_there [] ks all known = (known, omega arith)
  known_there (m ∷ ms) ks all known =
      with_some m.ty (λ ty. known_from (ks ++ record { name = m.name; ty = ty } ∷ []) ms) (AreKnown (length ks + length (m ∷ ms))) all.0
      (λ ty p.
      let x : PlainMember = record { name = m.name; ty = ty } in
      let long = one_longer ks x in
      subst (λ (n : ℕ). IsSomeAnd (known_from (ks ++ x ∷ []) ms) (AreKnown n)) (omega (arith, long))
      (known_there ms (ks ++ x ∷ []) all.1 (all_push IsKnownMember ks x known p)))

  -- ---- the struct

  objects_told : (ms : List PlainMember) → AllByRecursion IsKnownMember ms → are_objects (length k.structs) ms ≡ true
  objects_told [] all = refl
  objects_told (m ∷ ms) all =
      and_from (is_object_type (length k.structs) m.ty) (are_objects (length k.structs) ms) all.0.0 (objects_told ms all.1)

  abbrev size_of : List PlainMember → ℕ
  size_of ms = (members_layout (struct_layouts k.structs) ms).size

  size_least : (ms : List PlainMember) → AllByRecursion IsKnownMember ms → length ms ≤ size_of ms
  size_least [] all = omega arith
  size_least (m ∷ ms) all =
      let more = size_least ms all.1 in
      let one : 1 ≤ size_of_type k.structs m.ty = all.0.1 in
      omega (arith, more, one)

  size_told : (b : Bool) (size : ℕ) → b ≡ true → is_over (if b then Some size else None) ≡ false
      → (is_within (if b then Some size else None) ≡ true) × (size ≤ 32_767)
  size_told true size e q = let le : size ≤ 32_767 = grind (arith, nat_tests, q) in (grind (arith, nat_tests, le), le)
  size_told false size e q = absurd (false≢true e)

  -- a struct that may stand behind the others, and has a byte
  abbrev IsNext : PlainStruct → Type 0
  IsNext s = (may_follow k.structs s.members ≡ true) × (1 ≤ size_of s.members)

  few_told : (n : ℕ) → n ≤ 65_536 → nat_le n 65_536 ≡ true
  few_told n q = grind (arith, nat_tests, q)

  room_told : (n : ℕ) → n < 4_294_967_296 → nat_lt n 4_294_967_296 ≡ true
  room_told n q = grind (arith, nat_tests, q)

  struct_there : (tag : List ℕ) (n : ℕ) (o : Option (List PlainMember)) → 1 ≤ n → IsSomeAnd o (AreKnown n)
      → is_too_large_together k.structs o ≡ false
      → length k.structs < 4_294_967_296 → IsSomeAnd (struct_of k.structs tag o) IsNext
  struct_there tag n None long known q room = absurd known
  struct_there tag n (Some ms) long known q room =
      let within = size_told (are_objects (length k.structs) ms) (size_of ms) (objects_told ms known.0) q in
      let least = size_least ms known.0 in
      let count = known.1 in
      let size = within.1 in
      let follows : may_follow k.structs ms ≡ true =
      and_from (is_within (size_together k.structs ms) && nat_le (length ms) 65_536) (nat_lt (length k.structs) 4_294_967_296)
      (and_from (is_within (size_together k.structs ms)) (nat_le (length ms) 65_536) within.0
      (few_told (length ms) (omega (arith, least, size))))
      (room_told (length k.structs) room) in
      if_true (λ o. IsSomeAnd o IsNext) (may_follow k.structs ms) (Some (record { tag = tag; members = ms })) None follows
      (follows, omega (arith, least, count, long))

  pub defined_there : (x : t.Structure) (rest : List Site) → length k.structs < 4_294_967_296 → AreKept (structure_sites k x rest)
      → IsSomeAnd (struct_defined k x) IsNext × AreKept rest
  defined_there (t.structure w (t.identifier at tag) l first more e semicolon) rest room u =
      let a = declared_there first [] _ tt u.1 in
      let b = all_there more (with_declared k first []) _ a.0 a.1 a.2 in
      let ms = with_all_declared k more (with_declared k first []) in
      let quiet = untold first more _ u.1 in
      let known =
      if_both (λ o. IsSomeAnd o (AreKnown (0 + length ms))) (is_told (member_list_sites k first more [])) None (known_members ms)
      (λ q. absurd (both_ways (is_told (member_list_sites k first more [])) quiet q)) (λ q. known_there ms [] b.0 tt) in
      (struct_there tag (0 + length ms) (members_of k first more) (omega (arith, b.1)) known b.2.0.0 room, b.2.1)

-- ---- the state

module _ (law : StructsAreLaidOut) (ends : DefinitionsKeepSuiting) (r : Setting) (n : Numbering) (s : State) (h : Agrees r.ports r.unit n s)
    (tag : List ℕ) where
  abbrev IsNextStruct : PlainStruct → Type 0
  IsNextStruct x = (may_follow s.structs x.members ≡ true) × (1 ≤ (members_layout (struct_layouts s.structs) x.members).size)

  abbrev after_struct : Option PlainStruct → State
  after_struct d = record s { tags = with_tag tag (struct_number d s.structs) s.tags; structs = with_struct d s.structs }

  number_below : (x : PlainStruct) (place : Option ℕ) → struct_place x s.structs ≡ place
      → place_of place (length s.structs) < length (appended place x s.structs)
  number_below x None e = let long = one_longer s.structs x in omega (arith, long)
  number_below x (Some i) e = let low = place_below 0 x s.structs i e in omega (arith, low)

  filled_more : (x : PlainStruct) → IsNextStruct x → (place : Option ℕ) → AreFilled (appended place x s.structs)
  filled_more x next (Some i) j below = h.filled j below
  filled_more x next None j below =
      let f = follows s.structs x next.0 in
      let all = law.more s.structs x h.sound.structs f.objects f.small in
      let long = one_longer s.structs x in
      by all (cases_eq j (length s.structs)) (omega (arith, long, below))
    where
      by : IsAppended s.structs x → (j ≡ length s.structs) ⊎ (j ≡ length s.structs → ⊥) → j ≤ length s.structs
          → 1 ≤ (struct_layouts (s.structs ++ x ∷ []) j).size
      by all (inl e) le =
          subst (λ (i : ℕ). 1 ≤ (struct_layouts (s.structs ++ x ∷ []) i).size) (sym e)
          (subst (λ (a : Layout). 1 ≤ a.size) (sym all.added) next.1)
      by all (inr ne) le =
          let low : j < length s.structs = omega (arith, le, ne) in
          subst (λ (a : Layout). 1 ≤ a.size) (sym (all.kept j low)) (h.filled j low)

  more_by : (x : PlainStruct) (place : Option ℕ) → length (appended place x s.structs) ≤ length s.structs + 1
  more_by x None = let long = one_longer s.structs x in omega (arith, long)
  more_by x (Some i) = omega arith

  same_grows : (d : Option PlainStruct) → Grows s (after_struct d)
  same_grows d = record { declared = λ e c. c; objects = λ i x e. e; functions = λ i g e. e }

  pub struct_agrees : (d : Option PlainStruct) → IsSomeAnd d IsNextStruct
      → Agrees r.ports r.unit n (after_struct d) × (length (with_struct d s.structs) ≤ length s.structs + 1)
  struct_agrees None next = absurd next
  struct_agrees (Some x) next =
      let v = after_struct (Some x) in
      let place = struct_place x s.structs in
      let sound = more_sound law place s.structs x (h.sound.structs, h.sound.counted) next.0 in
      let more = no_fewer_by place x s.structs in (
        record {
          whole = h.whole;
          objects = h.objects;
          functions = h.functions;
          links = h.links;
          registered = h.registered;
          made = all_through (IsDefined s) (IsDefined v) n.definitions (λ d. defined_kept s v (same_grows (Some x)) d) h.made;
          clear = h.clear;
          units = h.units;
          types = (ends (known_of r.ports s) tag (Some (place_of place (length s.structs))) (appended place x s.structs)).types h.types more
              (number_below x place refl);
          closed = h.closed;
          sound = record {
            structs = sound.0;
            counted = sound.1;
            named = all_below (length s.structs) (length (appended place x s.structs)) s.scope.names.outside more h.sound.named;
          };
          filled = filled_more x next place;
        },
        more_by x place,
      )

-- what a definition of a struct leaves: what agrees, one struct more at most, and nothing told behind it
pub record StructGoesOn (r : Setting) (n : Numbering) (before after : State) (rest : List Site) : Type 0 where
  pub agrees : Agrees r.ports r.unit n after
  pub structs : length after.structs ≤ length before.structs + 1
  pub kept : AreKept rest

pub structure_goes_on : KeptMembersHaveTypes → KeptTypesAreSaid → SizesAreValues → StructsAreLaidOut → DefinitionsKeepSuiting
    → (r : Setting) (x : t.Structure) (n : Numbering) (s : State) (rest : List Site) → Agrees r.ports r.unit n s
    → length s.structs < 4_294_967_296
    → told None (structure_sites (known_of r.ports s) x rest) ≡ None → StructGoesOn r n s (after_structure r x s) rest
structure_goes_on types said sizes law ends r (t.structure w (t.identifier at tag) l first more e semicolon) n s rest h room q =
    let k = known_of r.ports s in
    let x = t.structure w (t.identifier at tag) l first more e semicolon in
    let a = defined_there types said sizes k h.types h.filled x rest room (kept_of (structure_sites k x rest) q) in
    let b = struct_agrees law ends r n s h tag (struct_defined k x) a.0 in
    record { agrees = b.0; structs = b.1; kept = a.1 }
