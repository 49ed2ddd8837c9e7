-- What each step declares is of types that fit the structs of the whole program.
use Rattle.std.proofs.Common.{◌≡◌, ◌+◌, ◌-◌, ◌≤◌, ◌++◌, ℕ, suc, Bool, true, false, ◌&&◌, List, [], ◌∷◌, length, length-append, map, refl}
use Rattle.std.proofs.Common.{sym, ap, subst, arith}
use Rattle.std.specs.Prelude.{◌==◌, nat_le, nat_lt, Option, Some, None, IfSome, slice_get}
use Rattle.std.specs.List.{AllByRecursion}
use Rattle.std.proofs.lemmas.Bool.{not-false, false≢true, true≢false}
use Rattle.std.proofs.lemmas.Bool.Decides.{nat_tests}
use Rattle.std.proofs.lemmas.List.Elements.{Contains-append_left, Contains-push}
use Rattle.std.proofs.lemmas.Option.{slice_get_within}
use Rattle.ec_iohw.specs.declared.table.IoTable.{IoTable}
use Rattle.ec_grammar.specs.Trees as t
use Rattle.ec_core.specs.Layout.{IsScalar, AreStructs, size_of_type, members_layout, struct_layouts}
use Rattle.ec_core.specs.Operators.{same_type}
use Rattle.ec_core.specs.Plain.{PlainType, void, integer, fixed, pointer, array, struct, PlainMember, PlainStruct}
use Rattle.ec_core.specs.Typing.{int}
use Rattle.ec_core.specs.TypeLaws.{StructsAreLaidOut}
use Rattle.ec_core.proofs.Sameness.{type_true}
use Rattle.ec_check_names.specs.declared.specifiers.Specified.{Specified}
use Rattle.ec_check_names.specs.declared.specifiers.StorageWord.{StorageWord}
use Rattle.ec_check_names.specs.declared.tags.TagState.{TagState}
use Rattle.ec_check_names.specs.declared.tags.TagState.TheVariants.{Undefined, Broken, Struct}
use Rattle.ec_check_names.specs.Definitions.{Definition}
use Rattle.ec_check_names.specs.Laws.{EqualStructsAreOne}
use Rattle.ec_check_names.specs.Names.{Named}
use Rattle.ec_check_names.specs.Specifiers.{specified, void_at}
use Rattle.ec_check_names.specs.Spellings.{register_number}
use Rattle.ec_check_names.specs.Structs.{same_struct, place_from, struct_place}
use Rattle.ec_check_names.specs.Tables.{at_name}
use Rattle.ec_check_names.specs.Tags.{Tags, state_by, tag_state}
use Rattle.ec_check_operands.specs.Operands.{with_one}
use Rattle.ec_check_operands.specs.Sorts.{is_arithmetic}
use Rattle.ec_check_forms.specs.Constraints.{IsArithmetic}
use Rattle.ec_check_forms.specs.Validity.{IsPlaceType}
use Rattle.ec_check_expressions.specs.TypeNames.{said_type, void_said, meant_type}
use Rattle.ec_check_expression_laws.specs.Suits.{IsPassed}
use Rattle.ec_check_declarations.specs.Declarators.{head_of, object_declared}
use Rattle.ec_check_declarations.specs.Functions.{FunctionDeclared, function_declared, types_from, param_types}
use Rattle.ec_check_declarations.specs.ObjectTypes.{is_object_type, object_type}
use Rattle.ec_check_declarations.specs.Params.{ParamDeclared, next_declared, params_declared}
use Rattle.ec_check_declarations.specs.Registers.{passes_last, register_type, number_type, type_in, register_declared}
use Rattle.ec_check_declarations.specs.Structures.{MemberDeclared, with_member, with_more_members, with_declared, with_all_declared}
use Rattle.ec_check_declarations.specs.Structures.{known_from, may_follow, struct_of, members_of, struct_defined, place_of, struct_number}
use Rattle.ec_check_declarations.specs.Sites.{is_told}
use Rattle.ec_check_declarations.specs.Structures.{appended, with_struct, known_members, member_list_sites}
use Rattle.ec_check_statements.specs.Objects.{IsDeclaredType}
use Rattle.ec_check_statements.proofs.Choices.{if_both}
use Rattle.ec_check_statements.proofs.DeclaredTypes.{object_placed, member_placed}
use Rattle.ec_check_file_scope.specs.FileFunctions.{is_other_result, has_params, is_static, is_other_main}
use Rattle.ec_check_file_scope.specs.FileNames.{FileName}
use Rattle.ec_check_file_scope.specs.FileScope.{after_structure}
use Rattle.ec_check_file_scope.specs.States.{State, known_of, with_name}
use Rattle.ec_check_file_scope.proofs.Sound.{named_with, named_at}
use Rattle.ec_check.specs.Units.{setting_of}
use Rattle.ec_check.proofs.Below.{Laws}
use Rattle.ec_check.proofs.Firsts.{First, all_and, all_weaker, at_end}
use Rattle.ec_check.proofs.Meanings.{meaning, IsMeant, IsFileType, IsRegisterType, IsResult, IsPlacedName, ArePlaced}
use Rattle.ec_check.proofs.SameKinds.{three_false, four_true}
use Rattle.ec_check.proofs.Steps.{IsClear}

some_weaker : {X : Type 0} (P Q : X → Type 0) → ((x : X) → P x → Q x) → (o : Option X) → IfSome o P → IfSome o Q
some_weaker P Q f None h = tt
some_weaker P Q f (Some x) h = f x h

-- ---- registers

low : (c : ℕ) → nat_le 50 c ≡ true → 2 ≤ c - 48
low c e = let h : 50 ≤ c = grind (arith, nat_tests, e) in omega arith

register_low : (name : List ℕ) → IfSome (register_number name) (λ n. 2 ≤ n)
register_low [] = tt
register_low (a ∷ []) = tt
register_low (a ∷ b ∷ []) = tt
register_low (a ∷ b ∷ c ∷ []) =
    if_both (λ o. IfSome o (λ n. 2 ≤ n)) (a == 95 && b == 82 && nat_le 50 c && nat_le c 55) (Some (c - 48)) None
    (λ e. low c (four_true (a == 95) (b == 82) (nat_le 50 c) (nat_le c 55) e).2) (λ e. tt)
register_low (a ∷ b ∷ c ∷ d ∷ more) = tt

is_number : (ty : PlainType) → is_arithmetic ty ≡ true → IsArithmetic ty
is_number void e = absurd (false≢true e)
is_number (integer signed bytes) e = tt
is_number (fixed kind sat) e = tt
is_number (pointer s k to) e = absurd (false≢true e)
is_number (array of len) e = absurd (false≢true e)
is_number (struct i) e = absurd (false≢true e)

number_sizes : (some all : List PlainStruct) (ty : PlainType) → IsArithmetic ty → size_of_type some ty ≡ size_of_type all ty
number_sizes some all void h = absurd h
number_sizes some all (integer signed bytes) h = refl
number_sizes some all (fixed kind sat) h = refl
number_sizes some all (pointer s k to) h = absurd h
number_sizes some all (array of len) h = absurd h
number_sizes some all (struct i) h = absurd h

not_past : (n m k : ℕ) → nat_lt 8 (n + m) ≡ false → m ≡ k → n + k ≤ 8
not_past n m k e q = let h : n + m ≤ 8 = grind (arith, nat_tests, e) in omega arith

within_by : (some all : List PlainStruct) (ty : PlainType) (first : Option ℕ) → IfSome first (λ n. 2 ≤ n)
    → passes_last some first (Some ty) ≡ false
    → size_of_type some ty ≡ size_of_type all ty → IfSome first (λ n. (2 ≤ n) × (n + size_of_type all ty ≤ 8))
within_by some all ty None h e q = tt
within_by some all ty (Some n) h e q = (h, not_past n (size_of_type some ty) (size_of_type all ty) e q)

in_registers : (some all : List PlainStruct) (first : Option ℕ) (o : Option PlainType) → IfSome first (λ n. 2 ≤ n)
    → IfSome o (IsPlaceType all)
    → IfSome (type_in some first o) (IsRegisterType all first)
in_registers some all first None h k =
    if_both (λ o. IfSome o (IsRegisterType all first)) (passes_last some first None) None (number_type None) (λ e. tt) (λ e. tt)
in_registers some all first (Some ty) h k =
    if_both (λ o. IfSome o (IsRegisterType all first)) (passes_last some first (Some ty)) None (number_type (Some ty)) (λ e. tt)
    (λ e. if_both (λ o. IfSome o (IsRegisterType all first)) (is_arithmetic ty) (Some ty) None
    (λ q. record {
      placed = k;
      arithmetic = is_number ty q;
      within = within_by some all ty first h e (number_sizes some all ty (is_number ty q));
    }) (λ q. tt))

typed_object : (all : List PlainStruct) (n : ℕ) (o : Option PlainType) → IfSome o (IsPlaceType all)
    → IfSome (object_type n o) (IsPlaceType all)
typed_object all n None h = tt
typed_object all n (Some ty) h = if_both (λ o. IfSome o (IsPlaceType all)) (is_object_type n ty) (Some ty) None (λ e. h) (λ e. tt)

-- ---- `main`

int_of : (o : Option PlainType) → is_other_result o ≡ false → IfSome o (λ ty. ty ≡ int)
int_of None e = tt
int_of (Some ty) e = type_true ty int (not-false (same_type ty int) e)

none_of : (ps : List ParamDeclared) → has_params ps ≡ false → IfSome (param_types ps) (λ tys. tys ≡ [])
none_of [] e = refl
none_of (p ∷ ps) e = absurd (true≢false e)

pub main_kind : (m : Bool) (word : Option StorageWord) (f : FunctionDeclared) → (m && is_other_main word f) ≡ false → m ≡ true
    → IfSome f.returns (λ ty. ty ≡ int) × IfSome (param_types f.params) (λ tys. tys ≡ [])
main_kind false word f e q = absurd (false≢true q)
main_kind true word f e q =
    let h = three_false (is_other_result f.returns) (has_params f.params) (is_static word) e in
    (int_of f.returns h.0, none_of f.params h.1)

-- ---- parameters

module _ (all : List PlainStruct) where
  abbrev pub IsParamType : PlainType → Type 0
  IsParamType ty = IsPlaceType all ty × IsScalar ty

  abbrev pub AreParams : List ParamDeclared → Type 0
  AreParams ps = AllByRecursion (λ p. IfSome p.ty IsParamType) ps

  with_type : (ts : List PlainType) (o : Option PlainType) (ps : List ParamDeclared)
      → ((ty : PlainType) → IsParamType ty → IfSome (types_from (ts ++ ty ∷ []) ps) (AllByRecursion (IsPassed all))) → IfSome o IsParamType
      → IfSome (with_one o (λ ty. types_from (ts ++ ty ∷ []) ps)) (AllByRecursion (IsPassed all))
  with_type ts None ps f h = tt
  with_type ts (Some ty) ps f h = f ty h

  types_pass : (ts : List PlainType) (ps : List ParamDeclared) → AllByRecursion (IsPassed all) ts → AreParams ps
      → IfSome (types_from ts ps) (AllByRecursion (IsPassed all))
  types_pass ts [] h k = h
  types_pass ts (p ∷ ps) h k =
      with_type ts p.ty ps (λ ty q. types_pass (ts ++ ty ∷ []) ps (all_and (IsPassed all) ts ty h (q.1, q.0.usable)) k.1) k.0

  pub params_pass : (ps : List ParamDeclared) → AreParams ps → IfSome (param_types ps) (AllByRecursion (IsPassed all))
  params_pass ps h = types_pass [] ps tt h

-- ---- structs

module _ (law : StructsAreLaidOut) (all : List PlainStruct) (whole : AreStructs all) where
  abbrev AllPlaced : List PlainMember → Type 0
  AllPlaced ms = AllByRecursion (λ m. IsPlaceType all m.ty) ms

  -- the members of a struct: at least one
  abbrev pub ArePlacedMembers : PlainStruct → Type 0
  ArePlacedMembers x = AllPlaced x.members × (1 ≤ length x.members)

  members_some : (ms : List PlainMember) → AllPlaced ms → 1 ≤ length ms → 1 ≤ (members_layout (struct_layouts all) ms).size
  members_some [] h n = absurd (omega (arith, n))
  members_some (m ∷ ms) h n = let q : 1 ≤ size_of_type all m.ty = h.0.some in omega (arith, q)

  struct_placed : (i : ℕ) (x : PlainStruct) → slice_get all i ≡ Some x → ArePlacedMembers x → IsPlaceType all (struct i)
  struct_placed i x e h = record {
    object = record { names = slice_get_within all i x e; form = tt };
    some = subst (λ l. 1 ≤ l.size) (sym (law.each all i x whole e).layout) (members_some x.members h.0 h.1);
    usable = tt;
  }

  module _ (one : EqualStructsAreOne) where
    place_by : (i : ℕ) (x y : PlainStruct) (ys : List PlainStruct) (j : ℕ)
        → ((j : ℕ) → place_from (i + 1) x ys ≡ Some j → (k : ℕ) × ((j ≡ i + 1 + k) × (slice_get ys k ≡ Some x)))
        → place_from i x (y ∷ ys) ≡ Some j → (k : ℕ) × ((j ≡ i + k) × (slice_get (y ∷ ys) k ≡ Some x))
    place_by i x y ys j later e =
        if_both (λ o. o ≡ Some j → (k : ℕ) × ((j ≡ i + k) × (slice_get (y ∷ ys) k ≡ Some x))) (same_struct x y) (Some i)
        (place_from (i + 1) x ys)
        (λ q z. let same : i ≡ j = cc in (0, (omega (arith, same), ap Some (sym ((one x y).0 q)))))
        (λ q z. let h = later j z in (suc h.0, (omega (arith, h.1.0), h.1.1))) e

    place_found : (i : ℕ) (x : PlainStruct) (ys : List PlainStruct) (j : ℕ) → place_from i x ys ≡ Some j
        → (k : ℕ) × ((j ≡ i + k) × (slice_get ys k ≡ Some x))
    place_found i x [] j e = cc
    place_found i x (y ∷ ys) j e = place_by i x y ys j (λ j q. place_found (i + 1) x ys j q) e

    stands : (x : PlainStruct) (structs : List PlainStruct) (i : ℕ) → struct_place x structs ≡ Some i → slice_get structs i ≡ Some x
    stands x structs i e =
        let h = place_found 0 x structs i e in
        let same : h.0 ≡ i = omega (arith, h.1.0) in subst (λ n. slice_get structs n ≡ Some x) same h.1.1

    number_by : (x : PlainStruct) (structs : List PlainStruct) → ArePlacedMembers x → (o : Option ℕ) → struct_place x structs ≡ o
        → First (appended o x structs) all
        → IsPlaceType all (struct (place_of o (length structs)))
    number_by x structs h None e first = struct_placed (length structs) x (first (length structs) x (at_end structs x)) h
    number_by x structs h (Some i) e first = struct_placed i x (first i x (stands x structs i e)) h

    pub number_placed : (d : Option PlainStruct) (structs : List PlainStruct) → IfSome d ArePlacedMembers
        → First (with_struct d structs) all
        → IfSome (struct_number d structs) (λ i. IsPlaceType all (struct i))
    number_placed None structs h first = tt
    number_placed (Some x) structs h first = number_by x structs h (struct_place x structs) refl first

    members_by : (o : Option ℕ) (x : PlainStruct) (structs : List PlainStruct) → AllPlaced x.members
        → AllByRecursion (λ x. AllPlaced x.members) structs
        → AllByRecursion (λ x. AllPlaced x.members) (appended o x structs)
    members_by None x structs h k = all_and (λ x. AllPlaced x.members) structs x k h
    members_by (Some i) x structs h k = k

    pub members_placed : (d : Option PlainStruct) (structs : List PlainStruct) → IfSome d ArePlacedMembers
        → AllByRecursion (λ x. AllPlaced x.members) structs
        → AllByRecursion (λ x. AllPlaced x.members) (with_struct d structs)
    members_placed None structs h k = k
    members_placed (Some x) structs h k = members_by (struct_place x structs) x structs h.0 k

-- ---- tags

tag_by : (all : List PlainStruct) (o : Option (Option ℕ)) (i : ℕ) → IfSome o (λ o. IfSome o (λ i. IsPlaceType all (struct i)))
    → state_by o ≡ Struct i → IsPlaceType all (struct i)
tag_by all None i h e = absurd (let q : ◌≡◌ {A = TagState} Undefined (Struct i) = e in cc)
tag_by all (Some None) i h e = absurd (let q : ◌≡◌ {A = TagState} Broken (Struct i) = e in cc)
tag_by all (Some (Some j)) i h e = let same : j ≡ i = cc in subst (λ n. IsPlaceType all (struct n)) same h

pub tag_placed : (all : List PlainStruct) (tags : Tags) → AllByRecursion (λ e. IfSome e.1 (λ i. IsPlaceType all (struct i))) tags
    → (n : List ℕ) (i : ℕ) → tag_state n tags ≡ Struct i → IsPlaceType all (struct i)
tag_placed all tags h n i e = tag_by all (at_name n tags) i (named_at (λ o. IfSome o (λ i. IsPlaceType all (struct i))) tags h n) e

-- ---- names

meant_later : (ds : List Definition) (declared : List FileName) (d : FileName) (what : Named) → IsMeant ds declared what
    → IsMeant ds (declared ++ d ∷ []) what
meant_later ds declared d what h = (h.0, (Contains-append_left declared (d ∷ []) h.0 h.1.0, h.1.1))

pub name_placed : (all : List PlainStruct) (ds : List Definition) (n : List ℕ) (what : Named) (d : FileName) (s : State)
    → meaning ds d ≡ what → IsPlacedName all d
    → ArePlaced all ds s → ArePlaced all ds (with_name n what d s)
name_placed all ds n what d s e k h = record {
  tags = h.tags;
  members = h.members;
  declared = all_and (IsPlacedName all) s.declared d h.declared k;
  names = named_with (IsMeant ds (s.declared ++ d ∷ [])) n what s.scope.names.outside (d, (Contains-push s.declared d, e))
      (all_weaker (λ x. IsMeant ds s.declared x.1) (λ x. IsMeant ds (s.declared ++ d ∷ []) x.1)
      (λ x q. meant_later ds s.declared d x.1 q) s.scope.names.outside h.names);
}

-- ---- what a state declares

module _ (laws : Laws) (all : List PlainStruct) (whole : AreStructs all) (ds : List Definition) (io : IoTable) (s : State)
    (clear : IsClear io s) (same : First s.structs all)
    (h : ArePlaced all ds s) where
  pub object_fits : (ss : t.Specs) (d : t.Declarator) (start : Option t.Start)
      → IfSome (object_declared (known_of io s) (specified s.tags ss) d start).ty (IsDeclaredType s.structs all)
  object_fits ss d start = object_placed laws.layouts s.structs all clear.sound.structs whole same laws.said laws.sizes s.tags
      (tag_placed all s.tags h.tags) (known_of io s) refl ss d start

  declared_file : (x : PlainType) → IsDeclaredType s.structs all x → IsFileType all x
  declared_file x q = record { placed = q.placed; small = q.small }

  pub object_file : (ss : t.Specs) (z : Specified) → z ≡ specified s.tags ss → (d : t.Declarator) (start : Option t.Start)
      → IfSome (object_declared (known_of io s) z d start).ty (IsFileType all)
  object_file ss z e d start =
      subst (λ (z : Specified). IfSome (object_declared (known_of io s) z d start).ty (IsFileType all)) (sym e)
      (some_weaker (IsDeclaredType s.structs all) (IsFileType all) declared_file
      (object_declared (known_of io s) (specified s.tags ss) d start).ty (object_fits ss d start))

  -- members
  abbrev AreMembers : List MemberDeclared → Type 0
  AreMembers ms = AllByRecursion (λ m. IfSome m.ty (IsPlaceType all)) ms

  one_member : (ss : t.Specs) (d : t.Declarator) (ms : List MemberDeclared) → AreMembers ms
      → AreMembers (with_member (known_of io s) (specified s.tags ss) d ms)
  one_member ss (t.declarator stars (t.identifier at n) shape) ms k =
      all_and (λ m. IfSome m.ty (IsPlaceType all)) ms _ k
      (member_placed laws.layouts s.structs all clear.sound.structs whole same laws.said laws.sizes s.tags
      (tag_placed all s.tags h.tags) (known_of io s) refl ss (t.declarator stars (t.identifier at n) shape))

  more_members : (ss : t.Specs) (ds : List t.NextDeclarator) (ms : List MemberDeclared) → AreMembers ms
      → AreMembers (with_more_members (known_of io s) (specified s.tags ss) ds ms)
  more_members ss [] ms k = k
  more_members ss (t.next_declarator comma d ∷ ds) ms k =
      more_members ss ds (with_member (known_of io s) (specified s.tags ss) d ms) (one_member ss d ms k)

  declared_members : (d : t.Member) (ms : List MemberDeclared) → AreMembers ms → AreMembers (with_declared (known_of io s) d ms)
  declared_members (t.members ss first more semicolon) ms k = more_members ss more _ (one_member ss first ms k)

  all_members : (xs : List t.Member) (ms : List MemberDeclared) → AreMembers ms → AreMembers (with_all_declared (known_of io s) xs ms)
  all_members [] ms k = k
  all_members (d ∷ xs) ms k = all_members xs (with_declared (known_of io s) d ms) (declared_members d ms k)

  -- there is one at least
  longer : (ms : List MemberDeclared) (m : MemberDeclared) → 1 ≤ length (ms ++ m ∷ [])
  longer [] m = omega arith
  longer (x ∷ ms) m = omega arith

  some_more : (said : Specified) (ds : List t.NextDeclarator) (ms : List MemberDeclared) → 1 ≤ length ms
      → 1 ≤ length (with_more_members (known_of io s) said ds ms)
  some_more said [] ms k = k
  some_more said (t.next_declarator comma (t.declarator stars (t.identifier at n) shape) ∷ ds) ms k =
      some_more said ds _ (longer ms _)

  some_declared : (d : t.Member) (ms : List MemberDeclared) → 1 ≤ length (with_declared (known_of io s) d ms)
  some_declared (t.members ss (t.declarator stars (t.identifier at n) shape) more semicolon) ms =
      some_more (specified s.tags ss) more _ (longer ms _)

  some_all : (xs : List t.Member) (ms : List MemberDeclared) → 1 ≤ length ms → 1 ≤ length (with_all_declared (known_of io s) xs ms)
  some_all [] ms k = k
  some_all (d ∷ xs) ms k = some_all xs (with_declared (known_of io s) d ms) (some_declared d ms)

  abbrev AreKnown : List PlainMember → Type 0
  AreKnown ms = AllByRecursion (λ m. IsPlaceType all m.ty) ms × (1 ≤ length ms)

  with_member_type : (o : Option PlainType) (f : PlainType → Option (List PlainMember))
      → ((ty : PlainType) → IsPlaceType all ty → IfSome (f ty) AreKnown)
      → IfSome o (IsPlaceType all) → IfSome (with_one o f) AreKnown
  with_member_type None f g k = tt
  with_member_type (Some ty) f g k = g ty k

  known_placed : (ks : List PlainMember) (ms : List MemberDeclared) → 1 ≤ length ks + length ms
      → AllByRecursion (λ m. IsPlaceType all m.ty) ks → AreMembers ms
      → IfSome (known_from ks ms) AreKnown
  known_placed ks [] n k q = (k, omega (arith, n))
  known_placed ks (m ∷ ms) n k q =
      with_member_type m.ty (λ ty. known_from (ks ++ record { name = m.name; ty = ty } ∷ []) ms)
      (λ ty placed. known_placed (ks ++ record { name = m.name; ty = ty } ∷ []) ms
      (let l = length-append ks (record { name = m.name; ty = ty } ∷ []) in omega (arith, l))
      (all_and (λ (m : PlainMember). IsPlaceType all m.ty) ks (record { name = m.name; ty = ty }) k placed) q.1) q.0

  struct_by : (tag : List ℕ) (ms : Option (List PlainMember)) → IfSome ms AreKnown
      → IfSome (struct_of s.structs tag ms) (ArePlacedMembers laws.layouts all whole)
  struct_by tag None k = tt
  struct_by tag (Some ms) k =
      if_both (λ o. IfSome o (ArePlacedMembers laws.layouts all whole)) (may_follow s.structs ms)
      (Some (record { tag = tag; members = ms })) None (λ e. k) (λ e. tt)

  struct_fits : (d : t.Structure) → IfSome (struct_defined (known_of io s) d) (ArePlacedMembers laws.layouts all whole)
  struct_fits (t.structure w (t.identifier at tag) l first more e semicolon) =
      let ms = with_all_declared (known_of io s) more (with_declared (known_of io s) first []) in
      struct_by tag (members_of (known_of io s) first more)
      (if_both (λ o. IfSome o AreKnown) (is_told (member_list_sites (known_of io s) first more [])) None (known_members ms) (λ e. tt)
      (λ e. known_placed [] ms
      (let q = some_all more (with_declared (known_of io s) first []) (some_declared first []) in omega (arith, q)) tt
      (all_members more (with_declared (known_of io s) first []) (declared_members first [] tt))))

  pub structure_placed : (unit : ℕ) (d : t.Structure) → First (after_structure (setting_of ds io unit) d s).structs all
      → ArePlaced all ds (after_structure (setting_of ds io unit) d s)
  structure_placed unit (t.structure w (t.identifier at tag) l first more end semicolon) later =
      let x = struct_defined (known_of io s) (t.structure w (t.identifier at tag) l first more end semicolon) in
      let fits = struct_fits (t.structure w (t.identifier at tag) l first more end semicolon) in
      record {
        tags = named_with (λ o. IfSome o (λ i. IsPlaceType all (struct i))) tag (struct_number x s.structs) s.tags
            (number_placed laws.layouts all whole laws.one x s.structs fits later) h.tags;
        members = members_placed laws.layouts all whole laws.one x s.structs fits h.members;
        declared = h.declared;
        names = h.names;
      }

  -- functions
  more_params : (n : ℕ) (ps : List t.NextParam) → AreParams all (map (next_declared s.tags n) ps)
  more_params n [] = tt
  more_params n (t.next_param comma p ∷ ps) = ((laws.usable all s.tags (tag_placed all s.tags h.tags) n).params p, more_params n ps)

  pub params_fit : (n : ℕ) (ps : t.Params) → AreParams all (params_declared s.tags n ps)
  params_fit n (t.void_params w) = tt
  params_fit n (t.params first more) = ((laws.usable all s.tags (tag_placed all s.tags h.tags) n).params first, more_params n more)

  pub result_fits : (ss : t.Specs) (z : Specified) → z ≡ specified s.tags ss → (stars : List t.Star) (ps : t.Params)
      → IfSome (function_declared s.tags (length s.structs) z stars ps).returns (IsResult all)
  result_fits ss z e stars ps =
      subst (λ (z : Specified). IfSome (function_declared s.tags (length s.structs) z stars ps).returns (IsResult all)) (sym e)
      ((laws.usable all s.tags (tag_placed all s.tags h.tags) (length s.structs)).results ss stars)

  -- registers
  said_placed : (ss : t.Specs)
      → IfSome (meant_type (void_at (specified s.tags ss).types) (head_of (specified s.tags ss) []).ty) (IsPlaceType all)
  unfolding said_type void_said
  said_placed ss = laws.said all s.tags (tag_placed all s.tags h.tags) (t.type_name ss [])

  pub register_fits : (d : t.RegisterObject)
      → IfSome (register_declared (known_of io s) d).ty (IsRegisterType all (register_declared (known_of io s) d).first)
  register_fits (t.register_object w (t.identifier at register) ss name semicolon) =
      in_registers s.structs all (register_number register) (register_type (length s.structs) (specified s.tags ss)) (register_low register)
      (typed_object all (length s.structs) (meant_type (void_at (specified s.tags ss).types) (head_of (specified s.tags ss) []).ty)
      (said_placed ss))
