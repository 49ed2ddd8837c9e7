-- What an expression names before a run is what it means: a static place has the type and the space of its operand.
use Rattle.std.proofs.Common.{◌≡◌, ◌∙◌, ℕ, ◌+◌, ◌*◌, ◌≤◌, refl, sym, ap, subst, Bool, true, false, if◌then◌else◌, Option, Some, None, List}
use Rattle.std.proofs.Common.{option_map, nat_lt, slice_get, arith}
use Rattle.std.proofs.lemmas.Bool.Decides.{nat_tests}
use Rattle.ec_grammar.specs.declared.token.PunctKind.{PunctKind}
use Rattle.ec_grammar.specs.declared.token.PunctKind.TheVariants as p
use Rattle.ec_grammar.specs.Trees as t
use Rattle.ec_space.specs.declared.space.SpaceId.{SpaceId}
use Rattle.ec_core.specs.Layout.{size_of_type}
use Rattle.ec_core.specs.Plain.{PlainType, void, integer, fixed, pointer, array, struct, PlainMember, PlainStruct, binary, address_of}
use Rattle.ec_core.specs.Plain.{PlainPlace, object, deref, member}
use Rattle.ec_core.specs.declared.expressions.BinOp.TheVariants.{Add}
use Rattle.ec_check_names.specs.Names.{Named, an_object, a_function, found, is_declared_since}
use Rattle.ec_check_operands.specs.Operands.{Operand, place, value, value_type, as_value, is_null, made, with_one, with_both}
use Rattle.ec_check_operands.specs.Sorts.{is_void, is_integer}
use Rattle.ec_check_forms.specs.Nodes.{used, prefixed, pointed}
use Rattle.ec_check_forms.specs.Accesses.{struct_of, indexed as indexed_operand, member_of as member_operand}
use Rattle.ec_check_initialisers.specs.Forms.{is_constant_expression}
use Rattle.ec_check_expressions.specs.Expressions.{of_expression, of_assignment, of_conditional, of_binary, of_cast, of_unary, of_postfix}
use Rattle.ec_check_expressions.specs.Expressions.{of_primary}
use Rattle.ec_check_expressions.specs.Known.{Known}
use Rattle.ec_check_expressions.specs.Names.{named}
use Rattle.ec_check_expressions.specs.Tokens.{prefix_operator, is_arrow}
use Rattle.ec_check_initialisers.specs.declared.places.StaticAddress.{StaticAddress}
use Rattle.ec_check_initialisers.specs.Places.{StaticPlace, moved, named_outside, start_of, object_named, element_type, element_address}
use Rattle.ec_check_initialisers.specs.Places.{element_of, number_in, member_offset, member_at, member_in, member_of, Designated, place_at}
use Rattle.ec_check_initialisers.specs.Places.{address_at, place_in, address_designated, part_designated, element_designated, index_value}
use Rattle.ec_check_initialisers.specs.Places.{indexed, in_expression, in_assignment, in_conditional, in_binary, in_cast, in_unary}
use Rattle.ec_check_initialisers.specs.Places.{in_postfix, in_primary}

-- ---- addresses

-- an address that stays in an object of a size, and one before it
record IsMoved (size : ℕ) (x : Option StaticAddress) (a : StaticAddress) : Type 0 where
  pub from : StaticAddress
  pub was : x ≡ Some from
  pub object : from.object ≡ a.object
  pub inside : a.offset ≤ size

moved_is : (size : ℕ) (x : Option StaticAddress) (bytes : ℕ) (a : StaticAddress) → moved size x bytes ≡ Some a → IsMoved size x a
moved_is size None bytes a e = cc
moved_is size (Some f) bytes a e = by_end (nat_lt size (f.offset + bytes)) refl e
  where
    by_end : (b : Bool) → nat_lt size (f.offset + bytes) ≡ b
        → (if b then None else Some (record { object = f.object; offset = f.offset + bytes })) ≡ Some a
        → IsMoved size (Some f) a
    by_end true q e = cc
    by_end false q e =
        let same : record { object = f.object; offset = f.offset + bytes } ≡ a = cc in
        let offset : f.offset + bytes ≡ a.offset = ap (λ (z : StaticAddress). z.offset) same in
        record {
          from = f;
          was = refl;
          object = ap (λ (z : StaticAddress). z.object) same;
          inside = grind (arith, nat_tests, q, offset);
        }

module _ (k : Known) where
  -- a place in an object that a name at file scope stands for
  pub record IsIn (s : StaticPlace) (home : SpaceId) (konst : Bool) : Type 0 where
    pub name : List ℕ
    pub number : Option ℕ
    pub whole : PlainType
    pub named : named_outside name k.names ≡ Some (an_object number (Some whole) konst home false)
    pub object : (a : StaticAddress) → s.address ≡ Some a → number ≡ Some a.object
    pub inside : (a : StaticAddress) → s.address ≡ Some a → a.offset ≤ size_of_type k.structs whole
    pub size : s.size ≡ size_of_type k.structs whole

  moved_in : (s : StaticPlace) (home : SpaceId) (konst : Bool) (bytes : ℕ) (ty : PlainType) → IsIn s home konst
      → IsIn (record { address = moved s.size s.address bytes; size = s.size; ty = ty }) home konst
  moved_in s home konst bytes ty h = record {
    name = h.name;
    number = h.number;
    whole = h.whole;
    named = h.named;
    object = λ a e. let m = moved_is s.size s.address bytes a e in h.object m.from m.was ∙ ap Some m.object;
    inside = λ a e. let m = moved_is s.size s.address bytes a e in subst (λ (n : ℕ). a.offset ≤ n) h.size m.inside;
    size = h.size;
  }

  lost_in : (s : StaticPlace) (home : SpaceId) (konst : Bool) (ty : PlainType) → IsIn s home konst
      → IsIn (record { address = None; size = s.size; ty = ty }) home konst
  lost_in s home konst ty h = record {
    name = h.name;
    number = h.number;
    whole = h.whole;
    named = h.named;
    object = λ a e. cc;
    inside = λ a e. cc;
    size = h.size;
  }

  element_in : (s : StaticPlace) (home : SpaceId) (konst : Bool) (i : Option ℕ) (bytes : ℕ) (ty : PlainType) → IsIn s home konst
      → IsIn (record { address = element_address s i bytes; size = s.size; ty = ty }) home konst
  element_in s home konst None bytes ty h = lost_in s home konst ty h
  element_in s home konst (Some i) bytes ty h = moved_in s home konst (i * bytes) ty h

  -- ---- what it means

  pub record IsPlace (s : StaticPlace) (x : Operand) : Type 0 where
    pub home : SpaceId
    pub konst : Bool
    pub there : PlainPlace
    pub is : x ≡ place s.ty konst home false there
    pub in_object : IsIn s home konst

  pub record IsAddress (s : StaticPlace) (x : Operand) : Type 0 where
    pub home : SpaceId
    pub konst : Bool
    pub ty : value_type x ≡ pointer home konst s.ty
    pub null : is_null x ≡ false
    pub in_object : IsIn s home konst

  abbrev pub Means : Designated → Operand → Type 0
  Means (place_at s) x = IsPlace s x
  Means (address_at s) x = IsAddress s x

  abbrev Agree : Option Designated → Option Operand → Type 0
  Agree D X = (d : Designated) → D ≡ Some d → (x : Operand) → X ≡ Some x → Means d x

  -- what a used operand gives
  used_gives : {B : Type 0} (y : Operand) (f : Operand → Option B) (z : B) → with_one (used (Some y)) f ≡ Some z → f y ≡ Some z
  used_gives y f z e = by_void (is_void (value_type y)) e
    where
      by_void : (b : Bool) → with_one (if b then None else Some y) f ≡ Some z → f y ≡ Some z
      by_void true e = cc
      by_void false e = e

  -- ---- `&`

  record IsTaken (op : PunctKind) (D : Option Designated) (d : Designated) : Type 0 where
    what : StaticPlace
    ampersand : op ≡ p.Ampersand
    of : D ≡ Some (place_at what)
    is : d ≡ address_at what

  taken : (D : Option Designated) (d : Designated) → option_map address_at (place_in D) ≡ Some d → IsTaken p.Ampersand D d
  taken None d e = cc
  taken (Some (place_at s)) d e = let same : address_at s ≡ d = cc in record { what = s; ampersand = refl; of = refl; is = sym same }
  taken (Some (address_at s)) d e = cc

  is_taken : (op : PunctKind) (D : Option Designated) (d : Designated) → address_designated op D ≡ Some d → IsTaken op D d
  is_taken p.Ampersand D d e = taken D d e
  is_taken _ D d e = cc

  address_of_place : (s : StaticPlace) (home : SpaceId) (konst : Bool) (there : PlainPlace) → IsIn s home konst → (x : Operand)
      → prefixed k.modes (prefix_operator p.Ampersand) (place s.ty konst home false there) ≡ Some x → IsAddress s x
  address_of_place s home konst there i x h =
      let same : value (made k.modes (pointer home konst s.ty) (address_of there)) false ≡ x = cc in
      record { home = home; konst = konst; ty = ap value_type (sym same); null = ap is_null (sym same); in_object = i }

  address_agrees : (op : PunctKind) (D : Option Designated) (X : Option Operand) → Agree D X
      → Agree (address_designated op D) (with_one (used X) (prefixed k.modes (prefix_operator op)))
  address_agrees op D None f d e x g = cc
  address_agrees op D (Some y) f d e x g =
      let w = is_taken op D d e in
      let m = f (place_at w.what) w.of y refl in
      let h : prefixed k.modes (prefix_operator op) y ≡ Some x = used_gives y (prefixed k.modes (prefix_operator op)) x g in
      let there : prefixed k.modes (prefix_operator op) (place w.what.ty m.konst m.home false m.there) ≡ Some x =
      ap (prefixed k.modes (prefix_operator op)) (sym m.is) ∙ h in
      let here : prefixed k.modes (prefix_operator p.Ampersand) (place w.what.ty m.konst m.home false m.there) ≡ Some x =
      ap (λ q. prefixed k.modes (prefix_operator q) (place w.what.ty m.konst m.home false m.there)) (sym w.ampersand) ∙ there in
      subst (λ (z : Designated). Means z x) (sym w.is) (address_of_place w.what m.home m.konst m.there m.in_object x here)

  -- ---- elements

  element_of_array : (s : StaticPlace) (i : Option ℕ) (home : SpaceId) (konst : Bool) (there : PlainPlace) → IsIn s home konst
      → (ty : PlainType)
      → s.ty ≡ ty → (d : StaticPlace)
      → option_map (λ of. record { address = element_address s i (size_of_type k.structs of); size = s.size; ty = of }) (element_type ty)
      ≡ Some d
      → (j : Operand) (x : Operand) → indexed_operand k.modes (place ty konst home false there) j ≡ Some x → IsPlace d x
  element_of_array s i home konst there h void q d e j x g = cc
  element_of_array s i home konst there h (integer signed bytes) q d e j x g = cc
  element_of_array s i home konst there h (fixed kind saturates) q d e j x g = cc
  element_of_array s i home konst there h (pointer space const to) q d e j x g = cc
  element_of_array s i home konst there h (struct index) q d e j x g = cc
  element_of_array s i home konst there h (array of len) q d e j x g = by_integer (is_integer (value_type j)) g
    where
      by_integer : (b : Bool) → (if b then pointed (made k.modes (pointer home konst of)
          (binary Add (made k.modes (pointer home konst of) (address_of there)) (as_value k.modes j))) else None) ≡ Some x → IsPlace d x
      by_integer true f =
          let same : place of konst home false (deref (made k.modes (pointer home konst of)
          (binary Add (made k.modes (pointer home konst of) (address_of there)) (as_value k.modes j)))) ≡ x = cc in
          let made : record { address = element_address s i (size_of_type k.structs of); size = s.size; ty = of } ≡ d = cc in
          subst (λ (z : StaticPlace). IsPlace z x) made
          (record {
            home = home;
            konst = konst;
            there = _;
            is = sym same;
            in_object = element_in s home konst i (size_of_type k.structs of) of h;
          })
      by_integer false f = cc

  index_agrees : (D : Option Designated) (X : Option Operand) (e : t.Expression) → Agree D X
      → Agree (indexed k D e) (with_both (used X) (used (of_expression k e)) (indexed_operand k.modes))
  index_agrees D None e f d q x g = cc
  index_agrees D (Some y) e f d q x g = by_form (is_constant_expression k e) q
    where
      by_index : (j : Option Operand) → with_one j (indexed_operand k.modes y) ≡ Some x → (s : StaticPlace) → D ≡ Some (place_at s)
          → (r : Option StaticPlace)
          → element_of k.structs (index_value k e) s ≡ r → option_map place_at r ≡ Some d → Means d x
      by_index None h s o r u v = cc
      by_index (Some j) h s o None u v = cc
      by_index (Some j) h s o (Some z) u v =
          let m = f (place_at s) o y refl in
          let there : indexed_operand k.modes (place s.ty m.konst m.home false m.there) j ≡ Some x =
          ap (λ w. indexed_operand k.modes w j) (sym m.is) ∙ h in
          let same : place_at z ≡ d = cc in
          subst (λ (w : Designated). Means w x) same
          (element_of_array s (index_value k e) m.home m.konst m.there m.in_object s.ty refl z u j x there)

      by_designated : (E : Option Designated) → D ≡ E
          → option_map place_at (with_one (place_in E) (element_of k.structs (index_value k e))) ≡ Some d → Means d x
      by_designated None o h = cc
      by_designated (Some (place_at s)) o h =
          by_index (used (of_expression k e)) (used_gives y (λ a. with_one (used (of_expression k e)) (indexed_operand k.modes a)) x g) s o
          (element_of k.structs (index_value k e) s) refl h
      by_designated (Some (address_at s)) o h = cc

      by_form : (b : Bool) → (if b then element_designated k.structs (index_value k e) D else None) ≡ Some d → Means d x
      by_form true h = by_designated D refl h
      by_form false h = cc

  -- ---- members

  record IsMember (s : StaticPlace) (name : List ℕ) (d : StaticPlace) : Type 0 where
    index : ℕ
    def : PlainStruct
    i : ℕ
    part : PlainMember
    is : s.ty ≡ struct index
    stands : slice_get k.structs index ≡ Some def
    number : number_in name def ≡ Some i
    found : slice_get def.members i ≡ Some part
    made : record { address = moved s.size s.address (member_offset k.structs def i); size = s.size; ty = part.ty } ≡ d

  member_found : (s : StaticPlace) (name : List ℕ) (d : StaticPlace) (index : ℕ) → s.ty ≡ struct index → (def : PlainStruct)
      → slice_get k.structs index ≡ Some def
      → (i : ℕ) → number_in name def ≡ Some i → (m : Option PlainMember) → slice_get def.members i ≡ m
      → option_map (λ m. record { address = moved s.size s.address (member_offset k.structs def i); size = s.size; ty = m.ty }) m ≡ Some d
      → IsMember s name d
  member_found s name d index q def u i v None w e = cc
  member_found s name d index q def u i v (Some m) w e =
      record { index = index; def = def; i = i; part = m; is = q; stands = u; number = v; found = w; made = cc }

  member_numbered : (s : StaticPlace) (name : List ℕ) (d : StaticPlace) (index : ℕ) → s.ty ≡ struct index → (def : PlainStruct)
      → slice_get k.structs index ≡ Some def
      → (i : Option ℕ) → number_in name def ≡ i → with_one i (member_at k.structs s def) ≡ Some d → IsMember s name d
  member_numbered s name d index q def u None v e = cc
  member_numbered s name d index q def u (Some i) v e = member_found s name d index q def u i v (slice_get def.members i) refl e

  member_standing : (s : StaticPlace) (name : List ℕ) (d : StaticPlace) (index : ℕ) → s.ty ≡ struct index → (def : Option PlainStruct)
      → slice_get k.structs index ≡ def → with_one def (member_in k.structs s name) ≡ Some d → IsMember s name d
  member_standing s name d index q None u e = cc
  member_standing s name d index q (Some def) u e = member_numbered s name d index q def u (number_in name def) refl e

  is_member : (s : StaticPlace) (name : List ℕ) (d : StaticPlace) (ty : PlainType) → s.ty ≡ ty
      → with_one (struct_of ty) (λ index. with_one (slice_get k.structs index) (member_in k.structs s name)) ≡ Some d → IsMember s name d
  is_member s name d void q e = cc
  is_member s name d (integer signed bytes) q e = cc
  is_member s name d (fixed kind saturates) q e = cc
  is_member s name d (pointer space const to) q e = cc
  is_member s name d (array of len) q e = cc
  is_member s name d (struct index) q e = member_standing s name d index q (slice_get k.structs index) refl e

  member_is_part : (s : StaticPlace) (name : List ℕ) (d : StaticPlace) (w : IsMember s name d) (home : SpaceId) (konst : Bool)
      (there : PlainPlace)
      → IsIn s home konst → (x : Operand)
      → member_operand k.modes k.structs name false (place (struct w.index) konst home false there) ≡ Some x → IsPlace d x
  member_is_part s name d w home konst there h x e =
      let f : Some (place w.part.ty konst home false (member there w.i)) ≡ Some x = rw (w.stands, w.number, w.found) at e in
      let same : place w.part.ty konst home false (member there w.i) ≡ x = cc in
      subst (λ (z : StaticPlace). IsPlace z x) w.made
      (record {
        home = home;
        konst = konst;
        there = _;
        is = sym same;
        in_object = moved_in s home konst (member_offset k.structs w.def w.i) w.part.ty h;
      })

  member_agrees : (D : Option Designated) (X : Option Operand) (op : PunctKind) (name : List ℕ) → Agree D X
      → Agree (part_designated k.structs (is_arrow op) name D) (with_one (used X) (member_operand k.modes k.structs name (is_arrow op)))
  member_agrees D None op name f d q x g = cc
  member_agrees D (Some y) op name f d q x g =
      by_arrow (is_arrow op) q (used_gives y (member_operand k.modes k.structs name (is_arrow op)) x g)
    where
      by_place : (s : StaticPlace) → D ≡ Some (place_at s) → (r : Option StaticPlace) → member_of k.structs name s ≡ r
          → option_map place_at r ≡ Some d
          → member_operand k.modes k.structs name false y ≡ Some x → Means d x
      by_place s o None u v h = cc
      by_place s o (Some z) u v h =
          let m = f (place_at s) o y refl in
          let w = is_member s name z s.ty refl u in
          let there : member_operand k.modes k.structs name false (place (struct w.index) m.konst m.home false m.there) ≡ Some x =
          ap (λ ty. member_operand k.modes k.structs name false (place ty m.konst m.home false m.there)) (sym w.is)
          ∙ ap (member_operand k.modes k.structs name false) (sym m.is) ∙ h in
          let same : place_at z ≡ d = cc in
          subst (λ (w : Designated). Means w x) same (member_is_part s name z w m.home m.konst m.there m.in_object x there)

      by_designated : (E : Option Designated) → D ≡ E → option_map place_at (with_one (place_in E) (member_of k.structs name)) ≡ Some d
          → member_operand k.modes k.structs name false y ≡ Some x → Means d x
      by_designated None o u h = cc
      by_designated (Some (place_at s)) o u h = by_place s o (member_of k.structs name s) refl u h
      by_designated (Some (address_at s)) o u h = cc

      by_arrow : (b : Bool) → part_designated k.structs b name D ≡ Some d → member_operand k.modes k.structs name b y ≡ Some x → Means d x
      by_arrow true u h = cc
      by_arrow false u h = by_designated D refl u h

  -- ---- names

  name_agrees : (n : List ℕ) → Agree (option_map place_at (object_named k.structs (named_outside n k.names))) (named (found n k.names))
  name_agrees n d e x g = by_hidden (is_declared_since 0 n k.names) refl
    where
      by_number : (number : Option ℕ) (ty : PlainType) (konst : Bool) (space : SpaceId)
          → named_outside n k.names ≡ Some (an_object number (Some ty) konst space false)
          → place_at (record { address = start_of number; size = size_of_type k.structs ty; ty = ty }) ≡ d
          → named (Some (an_object number (Some ty) konst space false)) ≡ Some x → Means d x
      by_number None ty konst space o same h = cc
      by_number (Some i) ty konst space o same h =
          let is : place ty konst space false (object i) ≡ x = cc in
          subst (λ (w : Designated). Means w x) same
          (record {
            home = space;
            konst = konst;
            there = object i;
            is = sym is;
            in_object = record {
              name = n;
              number = Some i;
              whole = ty;
              named = o;
              object = λ a q. let s : record { object = i; offset = 0 } ≡ a = cc in ap (λ (z : StaticAddress). Some z.object) s;
              inside = λ a q. let s : record { object = i; offset = 0 } ≡ a = cc in
                  let o : 0 ≡ a.offset = ap (λ (z : StaticAddress). z.offset) s in omega (arith, o);
              size = refl;
            };
          })

      by_entry : (what : Option Named) → named_outside n k.names ≡ what → option_map place_at (object_named k.structs what) ≡ Some d
          → named what ≡ Some x → Means d x
      by_entry None o u h = cc
      by_entry (Some (a_function number returns params)) o u h = cc
      by_entry (Some (an_object number None konst space register)) o u h = cc
      by_entry (Some (an_object number (Some ty) konst space true)) o u h = cc
      by_entry (Some (an_object number (Some ty) konst space false)) o u h =
          let same : place_at (record { address = start_of number; size = size_of_type k.structs ty; ty = ty }) ≡ d = cc in
          by_number number ty konst space o same h

      by_hidden : (b : Bool) → is_declared_since 0 n k.names ≡ b → Means d x
      by_hidden true q =
          let hidden : named_outside n k.names ≡ None = rw q refl in
          let nothing : option_map place_at (object_named k.structs (named_outside n k.names)) ≡ None =
          ap (λ w. option_map place_at (object_named k.structs w)) hidden in
          cc
      by_hidden false q =
          let seen : named_outside n k.names ≡ found n k.names = rw q refl in
          by_entry (named_outside n k.names) refl e (ap named seen ∙ g)

  -- ---- trees

  mutual
    expression_agrees : (e : t.Expression) → Agree (in_expression k e) (of_expression k e)
    expression_agrees (t.single a) = assignment_agrees a
    expression_agrees (t.comma e s a) = λ d q x g. cc

    pub assignment_agrees : (e : t.Assignment) → Agree (in_assignment k e) (of_assignment k e)
    assignment_agrees (t.value c) = conditional_agrees c
    assignment_agrees (t.assign u s op a) = λ d q x g. cc

    conditional_agrees : (e : t.Conditional) → Agree (in_conditional k e) (of_conditional k e)
    conditional_agrees (t.plain b) = binary_agrees b
    conditional_agrees (t.choose b q e s c) = λ d q x g. cc

    binary_agrees : (e : t.Binary) → Agree (in_binary k e) (of_binary k e)
    binary_agrees (t.operand c) = cast_agrees c
    binary_agrees (t.join a s op b) = λ d q x g. cc

    cast_agrees : (e : t.Cast) → Agree (in_cast k e) (of_cast k e)
    cast_agrees (t.uncast u) = unary_agrees u
    cast_agrees (t.convert l ty r c) = λ d q x g. cc

    unary_agrees : (e : t.Unary) → Agree (in_unary k e) (of_unary k e)
    unary_agrees (t.postfix p) = postfix_agrees p
    unary_agrees (t.step s op u) = λ d q x g. cc
    unary_agrees (t.prefix s op c) = address_agrees op (in_cast k c) (of_cast k c) (cast_agrees c)
    unary_agrees (t.size s l ty r) = λ d q x g. cc

    postfix_agrees : (e : t.Postfix) → Agree (in_postfix k e) (of_postfix k e)
    postfix_agrees (t.primary p) = primary_agrees p
    postfix_agrees (t.index p l e r) = index_agrees (in_postfix k p) (of_postfix k p) e (postfix_agrees p)
    postfix_agrees (t.call p l a r) = λ d q x g. cc
    postfix_agrees (t.member p s op (t.identifier at n)) = member_agrees (in_postfix k p) (of_postfix k p) op n (postfix_agrees p)
    postfix_agrees (t.stepped p s op) = λ d q x g. cc

    primary_agrees : (e : t.Primary) → Agree (in_primary k e) (of_primary k e)
    primary_agrees (t.name (t.identifier s n)) = name_agrees n
    primary_agrees (t.constant s c) = λ d q x g. cc
    primary_agrees (t.parenthesised l e r) = expression_agrees e
    primary_agrees (t.operation s op l n more r) = λ d q x g. cc
