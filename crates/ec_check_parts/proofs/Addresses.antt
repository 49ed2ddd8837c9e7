-- The places and address constants that the walk finds are those that expressions designate.
use Rattle.std.proofs.Common.{◌≡◌, ◌∙◌, ℕ, Bool, true, false, List, refl, sym, ap, subst}
use Rattle.std.specs.Prelude.{◌↔◌, ⊤, if◌then◌else◌, is_some, option_map, Option, Some, None, slice_get}
use Rattle.std.specs.Bool.{Decides}
use Rattle.std.proofs.lemmas.Bool.{false≢true, true≢false}
use Rattle.ec_space.specs.declared.space.SpaceId.{SpaceId}
use Rattle.ec_grammar.specs.declared.token.PunctKind.{PunctKind}
use Rattle.ec_grammar.specs.declared.token.PunctKind.TheVariants as p
use Rattle.ec_grammar.specs.Trees as t
use Rattle.ec_core.specs.declared.expressions.BinOp.{BinOp}
use Rattle.ec_core.specs.Layout.{size_of_type}
use Rattle.ec_core.specs.Plain.{PlainType, void, integer, fixed, pointer, array, struct, PlainMember, PlainStruct}
use Rattle.ec_check_operands.specs.Operands.{Operand}
use Rattle.ec_check_operands.specs.Options.{with_one}
use Rattle.ec_check_forms.specs.declared.prefixes.PrefixOp.{PrefixOp}
use Rattle.ec_check_forms.specs.declared.prefixes.PrefixOp.TheVariants as prefixes
use Rattle.ec_check_forms.specs.Accesses.{struct_of}
use Rattle.ec_check_forms.specs.Nodes.{used}
use Rattle.ec_check_names.specs.Names.{Named, an_object, a_function, found, newest, is_declared_since, or_else}
use Rattle.ec_check_names.specs.Tables.{at_name}
use Rattle.ec_check_expressions.specs.Expressions.{of_expression}
use Rattle.ec_check_expressions.specs.Known.{Known}
use Rattle.ec_check_expressions.specs.Tokens.{operator_of, compound_operator, prefix_operator, is_arrow}
use Rattle.ec_check_initialisers.specs.declared.places.StaticAddress.{StaticAddress}
use Rattle.ec_check_initialisers.specs.Forms.{is_constant_expression}
use Rattle.ec_check_initialisers.specs.Places as places
use Rattle.ec_check_initialisers.specs.Places.{StaticPlace, moved, start_of, named_outside, object_named, index_of_operand}
use Rattle.ec_check_initialisers.specs.Places.{element_type, element_address, element_of, number_in, member_offset, member_at, member_in}
use Rattle.ec_check_initialisers.specs.Places.{member_of, Designated, place_at, address_at, place_in, address_designated}
use Rattle.ec_check_initialisers.specs.Places.{part_designated, element_designated, index_value, is_array, address_constant}
use Rattle.ec_check_meanings.specs.Means.{Uses}
use Rattle.ec_check_meanings.specs.Terms as term
use Rattle.ec_check_meanings.specs.Terms.{Term, joined_term, stored_term}
use Rattle.ec_check_meanings.proofs.Options.{inside, nothing_there, clash, refuted, given, with_given, with_granted}
use Rattle.ec_check_parts.specs.Addresses.{ElementAt, at_index, at_none, Designates, by_name, in_parentheses, an_element, a_member}
use Rattle.ec_check_parts.specs.Addresses.{TakesAddress, of_place, address_in_parentheses, IsAddressConstant, taken, of_array}
use Rattle.ec_check_parts.specs.Blocks.{DeclaresName}
use Rattle.ec_check_parts.specs.ConstantForms.{IsConstantTerm}
use Rattle.ec_check_parts.proofs.Blocks.{again_told}
use Rattle.ec_check_parts.proofs.ConstantForms.{constants_are_told}
use Rattle.ec_check_parts.proofs.Expressions.{ExpressionLaws, uses_is, means_expression}
use Rattle.ec_check_parts.proofs.Numbers.{index_is}

mapped : {A B : Type 0} → (f : A → B) (o : Option A) (v : B) → option_map f o ≡ Some v → (a : A) × (o ≡ Some a) × (f a ≡ v)
mapped f None v e = absurd (nothing_there v e)
mapped f (Some a) v e = (a, refl, inside e)

module _ (laws : ExpressionLaws) (k : Known) where
  -- ---- what the relations are made of, by the form of an expression

  record IsNamed (n : List ℕ) (s : StaticPlace) : Type 0 where
    pub number : Option ℕ
    pub ty : PlainType
    pub konst : Bool
    pub space : SpaceId
    pub bare : ¬ DeclaresName 0 n k.names
    pub found : at_name n k.names.outside ≡ Some (an_object number (Some ty) konst space false)
    pub is : s ≡ record { address = start_of number; size = size_of_type k.structs ty; ty = ty }

  record IsElement (x y : Term) (s : StaticPlace) : Type 0 where
    pub whole : StaticPlace
    pub of : PlainType
    pub len : ℕ
    pub address : Option StaticAddress
    pub designated : Designates k x whole
    pub typed : whole.ty ≡ array of len
    pub form : IsConstantTerm k y
    pub at : ElementAt k whole of y address
    pub is : s ≡ record { address = address; size = whole.size; ty = of }

  record IsMember (x : Term) (arrow : Bool) (n : List ℕ) (s : StaticPlace) : Type 0 where
    pub whole : StaticPlace
    pub index : ℕ
    pub i : ℕ
    pub d : PlainStruct
    pub m : PlainMember
    pub dot : arrow ≡ false
    pub designated : Designates k x whole
    pub typed : whole.ty ≡ struct index
    pub defined : slice_get k.structs index ≡ Some d
    pub numbered : number_in n d ≡ Some i
    pub member : slice_get d.members i ≡ Some m
    pub is : s ≡ record { address = moved whole.size whole.address (member_offset k.structs d i); size = whole.size; ty = m.ty }

  abbrev PlaceOf : Term → StaticPlace → Type 0
  PlaceOf (term.name at n) s = IsNamed n s
  PlaceOf (term.parenthesised at x) s = Designates k x s
  PlaceOf (term.index x at y) s = IsElement x y s
  PlaceOf (term.member x at arrow name_at n) s = IsMember x arrow n s
  PlaceOf x s = ⊥

  place_of : (x : Term) (s : StaticPlace) → Designates k x s → PlaceOf x s
  place_of _ _ (by_name {number = number} {ty = ty} {konst = konst} {space = space} b f) = record {
    number = number;
    ty = ty;
    konst = konst;
    space = space;
    bare = b;
    found = f;
    is = refl;
  }
  place_of _ _ (in_parentheses h) = h
  place_of _ _ (an_element {len = len} {s = s} {of = of} {address = address} h e f a) = record {
    whole = s;
    of = of;
    len = len;
    address = address;
    designated = h;
    typed = e;
    form = f;
    at = a;
    is = refl;
  }
  place_of _ _ (a_member {index = index} {i = i} {s = s} {d = d} {m = m} h e f g q) = record {
    whole = s;
    index = index;
    i = i;
    d = d;
    m = m;
    dot = refl;
    designated = h;
    typed = e;
    defined = f;
    numbered = g;
    member = q;
    is = refl;
  }

  abbrev AddressOf : Term → StaticPlace → Type 0
  AddressOf (term.prefixed at op x) s = (op ≡ prefixes.Address) × Designates k x s
  AddressOf (term.parenthesised at x) s = TakesAddress k x s
  AddressOf x s = ⊥

  address_of : (x : Term) (s : StaticPlace) → TakesAddress k x s → AddressOf x s
  address_of _ _ (of_place h) = (refl, h)
  address_of _ _ (address_in_parentheses h) = h

  -- ---- what the walk finds

  record Agree (d : Option Designated) (x : Term) : Type 0 where
    pub places : (s : StaticPlace) → d ≡ Some (place_at s) ↔ Designates k x s
    pub addresses : (s : StaticPlace) → d ≡ Some (address_at s) ↔ TakesAddress k x s

  none_agree : (x : Term) → ((s : StaticPlace) → ¬ PlaceOf x s) → ((s : StaticPlace) → ¬ AddressOf x s) → Agree None x
  none_agree x n m = record {
    places = λ s. (λ e. absurd (nothing_there (place_at s) e), λ h. absurd (n s (place_of x s h)));
    addresses = λ s. (λ e. absurd (nothing_there (address_at s) e), λ h. absurd (m s (address_of x s h)));
  }

  joined_none : (o : Option BinOp) (op : PunctKind) (x : Term) (at : ℕ) (y : Term) → Agree None (joined_term o op x at y)
  joined_none (Some o) op x at y = none_agree (term.binary x at o y) (λ s h. h) (λ s h. h)
  joined_none None op x at y = none_agree (joined_term None op x at y) (λ s h. h) (λ s h. h)

  stored_none : (o : Option BinOp) (x : Term) (at : ℕ) (y : Term) → Agree None (stored_term o x at y)
  stored_none (Some o) x at y = none_agree (term.compound x at o y) (λ s h. h) (λ s h. h)
  stored_none None x at y = none_agree (term.assign x at y) (λ s h. h) (λ s h. h)

  -- ---- names

  no_entry : (o : Option Named) → is_some o ≡ false → o ≡ None
  no_entry None e = refl
  no_entry (Some x) e = absurd (true≢false e)

  outside_is : (n : List ℕ) → is_declared_since 0 n k.names ≡ false → found n k.names ≡ at_name n k.names.outside
  outside_is n e = ap (λ (o : Option Named). or_else o (at_name n k.names.outside)) (no_entry (newest n k.names.inside) e)

  object_is : (o : Option Named) (s : StaticPlace) → object_named k.structs o ≡ Some s
      → (number : Option ℕ) × (ty : PlainType) × (konst : Bool) × (space : SpaceId) × (o ≡ Some (an_object number (Some ty) konst space false))
      × (s ≡ record { address = start_of number; size = size_of_type k.structs ty; ty = ty })
  object_is None s e = absurd (nothing_there s e)
  object_is (Some (a_function number returns params)) s e = absurd (nothing_there s e)
  object_is (Some (an_object number None konst space register)) s e = absurd (nothing_there s e)
  object_is (Some (an_object number (Some ty) konst space true)) s e = absurd (nothing_there s e)
  object_is (Some (an_object number (Some ty) konst space false)) s e = (number, ty, konst, space, refl, sym (inside e))

  name_there : (n : List ℕ) (s : StaticPlace) → object_named k.structs (named_outside n k.names) ≡ Some s → IsNamed n s
  name_there n s h = by (is_declared_since 0 n k.names) refl h
    where
      by : (b : Bool) → is_declared_since 0 n k.names ≡ b → object_named k.structs (if b then None else found n k.names) ≡ Some s → IsNamed n s
      by true e h = absurd (nothing_there s h)
      by false e h =
          let g = object_is (found n k.names) s h in record {
            number = g.0;
            ty = g.1;
            konst = g.2;
            space = g.3;
            bare = λ d. clash ((again_told 0 n k.names).1 d) e;
            found = sym (outside_is n e) ∙ g.4;
            is = g.5;
          }

  name_back : (n : List ℕ) (s : StaticPlace) → IsNamed n s → object_named k.structs (named_outside n k.names) ≡ Some s
  name_back n s h =
      let e = refuted (is_declared_since 0 n k.names) (λ q. h.bare ((again_told 0 n k.names).0 q)) in
      ap (λ (b : Bool). object_named k.structs (if b then None else found n k.names)) e
      ∙ ap (object_named k.structs) (outside_is n e ∙ h.found)
      ∙ ap Some (sym h.is)

  named_place : (at : ℕ) (n : List ℕ) (s : StaticPlace) → IsNamed n s → Designates k (term.name at n) s
  named_place at n s h = subst (Designates k (term.name at n)) (sym h.is) (by_name h.bare h.found)

  -- a place among what is designated
  place_there : (o : Option StaticPlace) (s : StaticPlace) → option_map place_at o ≡ Some (place_at s) → o ≡ Some s
  place_there None s e = absurd (nothing_there (place_at s) e)
  place_there (Some z) s e = let same : place_at z ≡ place_at s = inside e in ap Some (same_place z s same)
    where
      same_place : (z s : StaticPlace) → place_at z ≡ place_at s → z ≡ s
      same_place z s e = cc

  no_address : (o : Option StaticPlace) (s : StaticPlace) → option_map place_at o ≡ Some (address_at s) → ⊥
  no_address None s e = nothing_there (address_at s) e
  no_address (Some z) s e = apart z s (inside e)
    where
      apart : (z s : StaticPlace) → place_at z ≡ address_at s → ⊥
      apart z s e = cc

  -- what is a place alone agrees where the place does
  only_place : (o : Option StaticPlace) (x : Term) → ((s : StaticPlace) → o ≡ Some s → Designates k x s)
      → ((s : StaticPlace) → Designates k x s → o ≡ Some s) → ((s : StaticPlace) → ¬ AddressOf x s) → Agree (option_map place_at o) x
  only_place o x there back none = record {
    places = λ s. (λ e. there s (place_there o s e), λ h. ap (option_map place_at) (back s h));
    addresses = λ s. (λ e. absurd (no_address o s e), λ h. absurd (none s (address_of x s h)));
  }

  place_is : (d : Option Designated) (s : StaticPlace) → place_in d ≡ Some s ↔ d ≡ Some (place_at s)
  place_is None s = (λ e. absurd (nothing_there s e), λ e. absurd (nothing_there (place_at s) e))
  place_is (Some (place_at z)) s = (λ e. ap (λ (y : StaticPlace). Some (place_at y)) (inside e), λ e. place_there (Some z) s e)
  place_is (Some (address_at z)) s = (λ e. absurd (nothing_there s e), λ e. absurd (apart (inside e)))
    where
      apart : address_at z ≡ place_at s → ⊥
      apart e = cc

  -- ---- elements

  array_is : (ty of : PlainType) → element_type ty ≡ Some of → (len : ℕ) × (ty ≡ array of len)
  array_is void of e = absurd (nothing_there of e)
  array_is (integer signed bytes) of e = absurd (nothing_there of e)
  array_is (fixed kind sat) of e = absurd (nothing_there of e)
  array_is (pointer space const to) of e = absurd (nothing_there of e)
  array_is (array u len) of e = (len, ap (λ (z : PlainType). array z len) (inside e))
  array_is (struct index) of e = absurd (nothing_there of e)

  module _ (e : t.Expression) (whole : StaticPlace) (of : PlainType) where
    abbrev y : Term
    y = term.term_of_expression e

    uses : (o : Operand) → Uses k y o ↔ used (of_expression k e) ≡ Some o
    uses o = uses_is k y (of_expression k e) (means_expression laws k e) o

    address_by : Option ℕ → Option StaticAddress
    address_by i = element_address whole i (size_of_type k.structs of)

    element_there : ElementAt k whole of y (element_address whole (index_value k e) (size_of_type k.structs of))
    element_there = by (index_value k e) refl
      where
        by : (i : Option ℕ) → index_value k e ≡ i → ElementAt k whole of y (element_address whole i (size_of_type k.structs of))
        by None q = at_none (λ o i u h. nothing_there i (sym q ∙ with_granted (used (of_expression k e)) index_of_operand o i ((uses o).0 u)
            ((index_is o i).1 h)))
        by (Some i) q =
            let g = with_given (used (of_expression k e)) index_of_operand i q in at_index ((uses g.0).1 g.1) ((index_is g.0 i).0 g.2)

    element_back : (a : Option StaticAddress) → ElementAt k whole of y a
        → element_address whole (index_value k e) (size_of_type k.structs of) ≡ a
    element_back _ (at_index {o = o} {i = i} u h) =
        ap (λ (z : Option ℕ). element_address whole z (size_of_type k.structs of))
        (with_granted (used (of_expression k e)) index_of_operand o i ((uses o).0 u) ((index_is o i).1 h))
    element_back _ (at_none n) = by (index_value k e) refl
      where
        by : (i : Option ℕ) → index_value k e ≡ i → element_address whole i (size_of_type k.structs of) ≡ None
        by None q = refl
        by (Some i) q =
            let g = with_given (used (of_expression k e)) index_of_operand i q in
            absurd (n g.0 i ((uses g.0).1 g.1) ((index_is g.0 i).0 g.2))

  module _ (d : Option Designated) (x : Term) (at : ℕ) (e : t.Expression) (a : Agree d x) where
    abbrev indexed : Term
    indexed = term.index x at (term.term_of_expression e)

    abbrev element_walked : Option StaticPlace
    element_walked = with_one (place_in d) (element_of k.structs (index_value k e))

    abbrev element_at : StaticPlace → PlainType → StaticPlace
    element_at s of = record { address = element_address s (index_value k e) (size_of_type k.structs of); size = s.size; ty = of }

    index_there : IsConstantTerm k (term.term_of_expression e) → (s : StaticPlace) → element_walked ≡ Some s → Designates k indexed s
    index_there form s h =
        let g = with_given (place_in d) (element_of k.structs (index_value k e)) s h in
        let m = mapped (element_at g.0) (element_type g.0.ty) s g.2 in
        let t = array_is g.0.ty m.0 m.1 in
        subst (Designates k indexed) m.2
        (an_element ((a.places g.0).0 ((place_is d g.0).0 g.1)) t.1 form (element_there e g.0 m.0))

    index_back : (s : StaticPlace) → Designates k indexed s → element_walked ≡ Some s
    index_back s h =
        let g = place_of indexed s h in
        with_granted (place_in d) (element_of k.structs (index_value k e)) g.whole s
        ((place_is d g.whole).1 ((a.places g.whole).1 g.designated))
        (ap (λ (u : Option PlainType). option_map (element_at g.whole) u) (ap element_type g.typed)
        ∙ ap (λ (q : Option StaticAddress). Some (record { address = q; size = g.whole.size; ty = g.of }))
        (element_back e g.whole g.of g.address g.at)
        ∙ ap Some (sym g.is))

    index_by : (b : Bool) → Decides b (IsConstantTerm k (term.term_of_expression e))
        → Agree (if b then element_designated k.structs (index_value k e) d else None) indexed
    index_by true q = only_place element_walked indexed (index_there (q.0 refl)) index_back (λ s h. h)
    index_by false q = none_agree indexed (λ s h. false≢true (q.1 h.form)) (λ s h. h)

    index_agrees : Agree (if is_constant_expression k e then element_designated k.structs (index_value k e) d else None) indexed
    index_agrees = index_by (is_constant_expression k e) ((constants_are_told laws.meanings k).expressions e)

  -- ---- members

  struct_is : (ty : PlainType) (index : ℕ) → struct_of ty ≡ Some index → ty ≡ struct index
  struct_is void index e = absurd (nothing_there index e)
  struct_is (integer signed bytes) index e = absurd (nothing_there index e)
  struct_is (fixed kind sat) index e = absurd (nothing_there index e)
  struct_is (pointer space const to) index e = absurd (nothing_there index e)
  struct_is (array of len) index e = absurd (nothing_there index e)
  struct_is (struct i) index e = ap struct (inside e)

  module _ (d : Option Designated) (x : Term) (at name_at : ℕ) (n : List ℕ) (a : Agree d x) where
    abbrev dotted : Term
    dotted = term.member x at false name_at n

    abbrev member_walked : Option StaticPlace
    member_walked = with_one (place_in d) (member_of k.structs n)

    abbrev part : StaticPlace → PlainStruct → ℕ → PlainMember → StaticPlace
    part w q i m = record { address = moved w.size w.address (member_offset k.structs q i); size = w.size; ty = m.ty }

    abbrev struct_in : StaticPlace → ℕ → Option StaticPlace
    struct_in w index = with_one (slice_get k.structs index) (member_in k.structs w n)

    member_there : (s : StaticPlace) → member_walked ≡ Some s → Designates k dotted s
    member_there s h =
        let g = with_given (place_in d) (member_of k.structs n) s h in
        let w = g.0 in
        let i = with_given (struct_of w.ty) (struct_in w) s g.2 in
        let q = with_given (slice_get k.structs i.0) (member_in k.structs w n) s i.2 in
        let j = with_given (number_in n q.0) (member_at k.structs w q.0) s q.2 in
        let m = mapped (part w q.0 j.0) (slice_get q.0.members j.0) s j.2 in
        subst (Designates k dotted) m.2
        (a_member ((a.places w).0 ((place_is d w).0 g.1)) (struct_is w.ty i.0 i.1) q.1 j.1 m.1)

    member_back : (s : StaticPlace) → Designates k dotted s → member_walked ≡ Some s
    member_back s h =
        let g = place_of dotted s h in
        let w = g.whole in
        with_granted (place_in d) (member_of k.structs n) w s ((place_is d w).1 ((a.places w).1 g.designated))
        (with_granted (struct_of w.ty) (struct_in w) g.index s (ap struct_of g.typed)
        (with_granted (slice_get k.structs g.index) (member_in k.structs w n) g.d s g.defined
        (with_granted (number_in n g.d) (member_at k.structs w g.d) g.i s g.numbered
        (ap (option_map (part w g.d g.i)) g.member ∙ ap Some (sym g.is)))))

    member_agrees : (arrow : Bool) → Agree (part_designated k.structs arrow n d) (term.member x at arrow name_at n)
    member_agrees true = none_agree (term.member x at true name_at n) (λ s h. true≢false h.dot) (λ s h. h)
    member_agrees false = only_place member_walked dotted member_there member_back (λ s h. h)

  -- ---- `&`

  -- an operator that is not `&`
  abbrev IsOther : PrefixOp → Type 0
  IsOther prefixes.Address = ⊥
  IsOther o = ⊤

  other_than : (o : PrefixOp) → IsOther o → ¬ (o ≡ prefixes.Address)
  other_than o h e = subst IsOther e h

  other_operator : (o : PrefixOp) (at : ℕ) (x : Term) → IsOther o → Agree None (term.prefixed at o x)
  other_operator o at x n = none_agree (term.prefixed at o x) (λ s h. h) (λ s h. other_than o n h.0)

  address_agrees : (op : PunctKind) (at : ℕ) (d : Option Designated) (x : Term) → Agree d x
      → Agree (address_designated op d) (term.prefixed at (prefix_operator op) x)
  address_agrees p.Ampersand at d x a = record {
    places = λ s. (λ e. absurd (no_place s e), λ h. absurd (place_of (term.prefixed at prefixes.Address x) s h));
    addresses = λ s. (there s, back s);
  }
    where
      apart : (z s : StaticPlace) → address_at z ≡ place_at s → ⊥
      apart z s e = cc

      same : (z s : StaticPlace) → address_at z ≡ address_at s → z ≡ s
      same z s e = cc

      no_place : (s : StaticPlace) → option_map address_at (place_in d) ≡ Some (place_at s) → ⊥
      no_place s e = let m = mapped address_at (place_in d) (place_at s) e in apart m.0 s m.2

      there : (s : StaticPlace) → option_map address_at (place_in d) ≡ Some (address_at s)
          → TakesAddress k (term.prefixed at prefixes.Address x) s
      there s e =
          let m = mapped address_at (place_in d) (address_at s) e in
          subst (TakesAddress k (term.prefixed at prefixes.Address x)) (same m.0 s m.2) (of_place ((a.places m.0).0 ((place_is d m.0).0 m.1)))

      back : (s : StaticPlace) → TakesAddress k (term.prefixed at prefixes.Address x) s
          → option_map address_at (place_in d) ≡ Some (address_at s)
      back s h =
          let g = address_of (term.prefixed at prefixes.Address x) s h in
          ap (option_map address_at) ((place_is d s).1 ((a.places s).1 g.1))
  address_agrees op at d x a = other_operator (prefix_operator op) at x tt

  -- ---- expressions

  within : (d : Option Designated) (at : ℕ) (x : Term) → Agree d x → Agree d (term.parenthesised at x)
  within d at x a = record {
    places = λ s. (λ e. in_parentheses ((a.places s).0 e), λ h. (a.places s).1 (place_of (term.parenthesised at x) s h));
    addresses = λ s. (λ e. address_in_parentheses ((a.addresses s).0 e), λ h. (a.addresses s).1 (address_of (term.parenthesised at x) s h));
  }

  name_agrees : (at : ℕ) (n : List ℕ) → Agree (option_map place_at (object_named k.structs (named_outside n k.names))) (term.name at n)
  name_agrees at n =
      only_place (object_named k.structs (named_outside n k.names)) (term.name at n) (λ s e. named_place at n s (name_there n s e))
      (λ s h. name_back n s (place_of (term.name at n) s h)) (λ s h. h)

  mutual
    expression_agrees : (x : t.Expression) → Agree (places.in_expression k x) (term.term_of_expression x)
    expression_agrees (t.single a) = assignment_agrees a
    expression_agrees (t.comma e s a) =
        none_agree (term.comma (term.term_of_expression e) s.index (term.term_of_assignment a)) (λ s h. h) (λ s h. h)

    assignment_agrees : (x : t.Assignment) → Agree (places.in_assignment k x) (term.term_of_assignment x)
    assignment_agrees (t.value c) = conditional_agrees c
    assignment_agrees (t.assign u s op a) =
        stored_none (compound_operator op) (term.term_of_unary u) s.index (term.term_of_assignment a)

    conditional_agrees : (x : t.Conditional) → Agree (places.in_conditional k x) (term.term_of_conditional x)
    conditional_agrees (t.plain b) = binary_agrees b
    conditional_agrees (t.choose b q e s c) =
        none_agree (term.choice (term.term_of_binary b) q.index (term.term_of_expression e) (term.term_of_conditional c)) (λ s h. h) (λ s h. h)

    binary_agrees : (x : t.Binary) → Agree (places.in_binary k x) (term.term_of_binary x)
    binary_agrees (t.operand c) = cast_agrees c
    binary_agrees (t.join a s op b) = joined_none (operator_of op) op (term.term_of_binary a) s.index (term.term_of_binary b)

    cast_agrees : (x : t.Cast) → Agree (places.in_cast k x) (term.term_of_cast x)
    cast_agrees (t.uncast u) = unary_agrees u
    cast_agrees (t.convert l n r c) = none_agree (term.cast l.index n (term.term_of_cast c)) (λ s h. h) (λ s h. h)

    unary_agrees : (x : t.Unary) → Agree (places.in_unary k x) (term.term_of_unary x)
    unary_agrees (t.postfix q) = postfix_agrees q
    unary_agrees (t.step s op u) = none_agree (term.term_of_unary (t.step s op u)) (λ s h. h) (λ s h. h)
    unary_agrees (t.prefix s op c) = address_agrees op s.index (places.in_cast k c) (term.term_of_cast c) (cast_agrees c)
    unary_agrees (t.size s l n r) = none_agree (term.size s.index n) (λ s h. h) (λ s h. h)

    postfix_agrees : (x : t.Postfix) → Agree (places.in_postfix k x) (term.term_of_postfix x)
    postfix_agrees (t.primary q) = primary_agrees q
    postfix_agrees (t.index q l e r) = index_agrees (places.in_postfix k q) (term.term_of_postfix q) l.index e (postfix_agrees q)
    postfix_agrees (t.call q l a r) = none_agree (term.term_of_postfix (t.call q l a r)) (λ s h. h) (λ s h. h)
    postfix_agrees (t.member q s op (t.identifier at n)) =
        member_agrees (places.in_postfix k q) (term.term_of_postfix q) s.index at.index n (postfix_agrees q) (is_arrow op)
    postfix_agrees (t.stepped q s op) = none_agree (term.term_of_postfix (t.stepped q s op)) (λ s h. h) (λ s h. h)

    primary_agrees : (x : t.Primary) → Agree (places.in_primary k x) (term.term_of_primary x)
    primary_agrees (t.name (t.identifier at n)) = name_agrees at.index n
    primary_agrees (t.constant s c) = none_agree (term.constant s.index c) (λ s h. h) (λ s h. h)
    primary_agrees (t.parenthesised l e r) =
        within (places.in_expression k e) l.index (term.term_of_expression e) (expression_agrees e)
    primary_agrees (t.operation s op l (t.identifier at n) more r) =
        none_agree (term.term_of_primary (t.operation s op l (t.identifier at n) more r)) (λ s h. h) (λ s h. h)

  -- ---- address constants

  some_element : (ty : PlainType) → is_array ty ≡ true → (of : PlainType) × (len : ℕ) × (ty ≡ array of len)
  some_element ty e = by (element_type ty) refl e
    where
      by : (o : Option PlainType) → element_type ty ≡ o → is_some o ≡ true → (of : PlainType) × (len : ℕ) × (ty ≡ array of len)
      by None q e = absurd (false≢true e)
      by (Some of) q e = let g = array_is ty of q in (of, g.0, g.1)

  constant_by : (d : Option Designated) (x : Term) → Agree d x → (s : StaticPlace) → address_constant d ≡ Some s ↔ IsAddressConstant k x s
  constant_by d x a s = (there d a, back d a)
    where
      there : (d : Option Designated) → Agree d x → address_constant d ≡ Some s → IsAddressConstant k x s
      there None a e = absurd (nothing_there s e)
      there (Some (place_at z)) a e =
          let g = given (is_array z.ty) z s e in
          let m = some_element z.ty g.0 in
          subst (IsAddressConstant k x) g.1 (of_array ((a.places z).0 refl) m.2)
      there (Some (address_at z)) a e = subst (IsAddressConstant k x) (inside e) (taken ((a.addresses z).0 refl))

      back : (d : Option Designated) → Agree d x → IsAddressConstant k x s → address_constant d ≡ Some s
      back d a (taken h) = ap address_constant ((a.addresses s).1 h)
      back d a (of_array h e) =
          ap address_constant ((a.places s).1 h)
          ∙ ap (λ (b : Bool). if b then Some s else None) (ap (λ (o : PlainType). is_some (element_type o)) e)

  pub address_told : (a : t.Assignment) (s : StaticPlace) → address_constant (places.in_assignment k a) ≡ Some s
      ↔ IsAddressConstant k (term.term_of_assignment a) s
  address_told a s = constant_by (places.in_assignment k a) (term.term_of_assignment a) (assignment_agrees a) s
