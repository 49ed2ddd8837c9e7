use Rattle.std.proofs.Common.{◌≡◌, ◌∙◌, ◌≤◌, ◌<◌, ℕ, List, Some, None, refl, sym, ap, subst, arith}
use Rattle.std.specs.Prelude.{slice_get, map, length, option_map, slice_index_or, position}
use Rattle.std.proofs.lemmas.List.{length-map}
use Rattle.std.proofs.lemmas.Option.{slice_get-get_or, slice_get-map, slice_get_past}
use Rattle.ec_space.specs.declared.space.Bank.TheVariants.{Flash}
use Rattle.ec_space.specs.declared.space.Place.{Place}
use Rattle.ec_core.specs.declared.arithmetic_types.Arithmetic.{Arithmetic}
use Rattle.ec_core.specs.declared.layout.Leaf.{Leaf}
use Rattle.ec_core.specs.declared.programs.Obj.{Obj}
use Rattle.ec_core.specs.declared.programs.Program.{Program}
use Rattle.ec_core.specs.ArithmeticTypes.{arithmetic_of}
use Rattle.ec_core.specs.Layout.{IsObjectType, PlainLeaf, plain_leaf, leaves_of_type}
use Rattle.ec_core.specs.Plain.{plain_struct, plain_type, plain_object, plain_program}
use Rattle.ec_core.specs.TypeLaws.{LeavesFillTheirTypes}
use Rattle.ec_emu_watch.specs.Points.{IsWidth}
use Rattle.ec_watch_points.specs.Numbers.{IsValid, is_named, HavePlaces}
use Rattle.ec_watch_points.proofs.Named.{none_named, IsFound, found_at, same_leaves, object_type, place_there, IsThere, is_there}
use Rattle.ec_watch_points.proofs.numbers.point_at.Goals as goal

-- the object at the place where the name was found, of the list as it is read
found : (p : Program) (objects : List Obj) (name : List ℕ) (i : ℕ) (d : Obj) → objects ≡ p.objs.items
    → Some i ≡ position (λ x. is_named name (plain_object x)) objects
    → IsFound (plain_program p) name i (plain_object (slice_index_or objects i d))
found p objects name i d same e = found_at (plain_program p) objects name i d (ap (map plain_object) (sym same)) (sym e)

-- a leaf of a list, as it is read
leaf_at : (found items : List Leaf) (all : List PlainLeaf) (k : ℕ) (leaf : Leaf) → found ≡ items → map plain_leaf items ≡ all
    → k < length found → leaf ≡ slice_index_or found k leaf → slice_get all k ≡ Some (plain_leaf leaf)
leaf_at found items all k leaf same is under e =
    ap (λ z. slice_get z k) (sym is ∙ ap (map plain_leaf) (sym same)) ∙ slice_get-map plain_leaf found k
    ∙ ap (option_map plain_leaf) (slice_get-get_or found k leaf under ∙ ap Some (sym e))

no_leaf : (found items : List Leaf) (all : List PlainLeaf) (k : ℕ) (leaf : PlainLeaf) → found ≡ items → map plain_leaf items ≡ all
    → length found ≤ k → slice_get all k ≡ Some leaf → ⊥
no_leaf found items all k leaf same is past e =
    let none : slice_get all k ≡ None = ap (λ z. slice_get z k) (sym is ∙ ap (map plain_leaf) (sym same)) ∙ slice_get-map plain_leaf found k
    ∙ ap (option_map plain_leaf) (slice_get_past found k past) in
    let no : None ≡ Some leaf = sym none ∙ e in cc

-- no other type stands for the same leaf
other_type : (all : List PlainLeaf) (k : ℕ) (leaf : Leaf) (other : PlainLeaf) (ty : Arithmetic) → slice_get all k ≡ Some (plain_leaf leaf)
    → slice_get all k ≡ Some other → None ≡ arithmetic_of (plain_type leaf.ty) → arithmetic_of other.ty ≡ Some ty → ⊥
other_type all k leaf other ty e f none some =
    let same : plain_leaf leaf ≡ other = injected (sym e ∙ f) in
    let no : None ≡ Some ty = none ∙ ap (λ (z : PlainLeaf). arithmetic_of z.ty) same ∙ some in cc
  where
    injected : {a b : PlainLeaf} → Some a ≡ Some b → a ≡ b
    injected e = cc

pub returns-in_default-clause-point : goal.returns-in_default-clause-point
returns-in_default-clause-point c = λ o leaf ty h.
    none_named c.args.program.now.objs.items c.args.name.now.items
    (subst (λ (z : List Obj). position (λ x. is_named c.args.name.now.items (plain_object x)) z ≡ None) c.as_slice-objects.ensures
    (sym c.in_default.ensures)) o h.object h.is_object h.named

pub leaves-requires-clause-object : goal.leaves-requires-clause-object
leaves-requires-clause-object c =
    let f = found c.args.program.now c.as_slice-objects.result.now c.args.name.now.items c.in-Some.number c.index-objects-number.result
    c.as_slice-objects.ensures c.in-Some.ensures in
    subst (λ (n : ℕ). IsObjectType n (plain_object (slice_index_or c.as_slice-objects.result.now c.in-Some.number
    c.index-objects-number.result)).ty) (length-map c.args.program.now.structs.items plain_struct)
    (object_type (plain_program c.args.program.now) c.requires.valid c.in-Some.number _ f.is)

pub returns-in_default-get-clause-point : goal.returns-in_default-get-clause-point
returns-in_default-get-clause-point c = λ o leaf ty h.
    let f = found c.args.program.now c.as_slice-objects.result.now c.args.name.now.items c.in-Some.number c.index-objects-number.result
    c.as_slice-objects.ensures c.in-Some.ensures in
    no_leaf c.as_slice.result.now c.in_ok-found.found.items _ c.args.leaf leaf c.as_slice.ensures c.in_ok-found.ensures
    c.in_default-get.ensures.lookup.3
    (same_leaves (plain_program c.args.program.now) c.args.name.now.items c.in-Some.number c.args.leaf o _ leaf ty
    c.requires.valid.1.externals f h)

pub returns-in_default-arithmetic-clause-point : goal.returns-in_default-arithmetic-clause-point
returns-in_default-arithmetic-clause-point c = λ o leaf ty h.
    let f = found c.args.program.now c.as_slice-objects.result.now c.args.name.now.items c.in-Some.number c.index-objects-number.result
    c.as_slice-objects.ensures c.in-Some.ensures in
    let there = leaf_at c.as_slice.result.now c.in_ok-found.found.items _ c.args.leaf c.in-Some-get.found.now c.as_slice.ensures
    c.in_ok-found.ensures c.in-Some-get.ensures.lookup.3.0 c.in-Some-get.ensures.lookup.1 in
    let other = same_leaves (plain_program c.args.program.now) c.args.name.now.items c.in-Some.number c.args.leaf o _ leaf ty
    c.requires.valid.1.externals f h in
    other_type _ c.args.leaf c.in-Some-get.found.now leaf ty there other c.in_default-arithmetic.ensures h.arithmetic

-- the number is there, in its place
whole : (p : Program) (valid : IsValid (plain_program p)) (fill : LeavesFillTheirTypes) (objects : List Obj) (name : List ℕ) (i : ℕ)
    (d : Obj) (leaves items : List Leaf) (k : ℕ) (leaf : Leaf) (ty : Arithmetic) (places seen : List Place) (nowhere : Place)
    → objects ≡ p.objs.items → Some i ≡ position (λ x. is_named name (plain_object x)) objects → leaves ≡ items
    → map plain_leaf items ≡ leaves_of_type (plain_program p).structs (plain_object (slice_index_or objects i d)).ty
    → k < length leaves → leaf ≡ slice_index_or leaves k leaf → Some ty ≡ arithmetic_of (plain_type leaf.ty) → seen ≡ places
    → HavePlaces (plain_program p) places
    → IsThere (plain_program p) valid places name k i (plain_object (slice_index_or objects i d)) (plain_leaf leaf) ty
    (slice_index_or seen i nowhere)
whole p valid fill objects name i d leaves items k leaf ty places seen nowhere same e listed is under l a at h =
    let f = found p objects name i d same e in
    let there = leaf_at leaves items _ k leaf listed is under l in
    let stands = place_there (plain_program p) valid places i _ nowhere h f.is in
    let stood : slice_get places i ≡ Some (slice_index_or seen i nowhere) =
    subst (λ (z : List Place). slice_get places i ≡ Some (slice_index_or z i nowhere)) (sym at) stands in
    is_there (plain_program p) valid fill places name k i _ _ ty _ h f there (sym a) stood

pub overflow_add-result : goal.overflow_add-result
overflow_add-result c =
    let w = whole c.args.program.now c.requires.valid c.leaves_fill_their_types.ensures c.as_slice-objects.result.now
    c.args.name.now.items c.in-Some.number c.index-objects-number.result c.as_slice.result.now c.in_ok-found.found.items c.args.leaf
    c.in-Some-get.found.now c.in-Some-arithmetic.ty c.args.places.now.items c.as_slice-2.result.now
    (record { bank = Flash; offset = 0 }) c.as_slice-objects.ensures
    c.in-Some.ensures c.as_slice.ensures c.in_ok-found.ensures c.in-Some-get.ensures.lookup.3.0 c.in-Some-get.ensures.lookup.1
    c.in-Some-arithmetic.ensures c.as_slice-2.ensures c.requires.places in
    let low = w.low in omega (arith, low)

pub returns-clause-width : goal.returns-clause-width
returns-clause-width c =
    let w = whole c.args.program.now c.requires.valid c.leaves_fill_their_types.ensures c.as_slice-objects.result.now
    c.args.name.now.items c.in-Some.number c.index-objects-number.result c.as_slice.result.now c.in_ok-found.found.items c.args.leaf
    c.in-Some-get.found.now c.in-Some-arithmetic.ty c.args.places.now.items c.as_slice-2.result.now
    (record { bank = Flash; offset = 0 }) c.as_slice-objects.ensures
    c.in-Some.ensures c.as_slice.ensures c.in_ok-found.ensures c.in-Some-get.ensures.lookup.3.0 c.in-Some-get.ensures.lookup.1
    c.in-Some-arithmetic.ensures c.as_slice-2.ensures c.requires.places in
    subst IsWidth (sym (c.bytes_of.ensures _ (sym c.in-Some-arithmetic.ensures))) w.width

pub returns-clause-within : goal.returns-clause-within
returns-clause-within c =
    let w = whole c.args.program.now c.requires.valid c.leaves_fill_their_types.ensures c.as_slice-objects.result.now
    c.args.name.now.items c.in-Some.number c.index-objects-number.result c.as_slice.result.now c.in_ok-found.found.items c.args.leaf
    c.in-Some-get.found.now c.in-Some-arithmetic.ty c.args.places.now.items c.as_slice-2.result.now
    (record { bank = Flash; offset = 0 }) c.as_slice-objects.ensures
    c.in-Some.ensures c.as_slice.ensures c.in_ok-found.ensures c.in-Some-get.ensures.lookup.3.0 c.in-Some-get.ensures.lookup.1
    c.in-Some-arithmetic.ensures c.as_slice-2.ensures c.requires.places in
    let low = w.low in let bytes = c.bytes_of.ensures _ (sym c.in-Some-arithmetic.ensures) in omega (arith, low, bytes)

pub returns-clause-point : goal.returns-clause-point
returns-clause-point c =
    let w = whole c.args.program.now c.requires.valid c.leaves_fill_their_types.ensures c.as_slice-objects.result.now
    c.args.name.now.items c.in-Some.number c.index-objects-number.result c.as_slice.result.now c.in_ok-found.found.items c.args.leaf
    c.in-Some-get.found.now c.in-Some-arithmetic.ty c.args.places.now.items c.as_slice-2.result.now
    (record { bank = Flash; offset = 0 }) c.as_slice-objects.ensures
    c.in-Some.ensures c.as_slice.ensures c.in_ok-found.ensures c.in-Some-get.ensures.lookup.3.0 c.in-Some-get.ensures.lookup.1
    c.in-Some-arithmetic.ensures c.as_slice-2.ensures c.requires.places in
    record {
      leaf = plain_leaf c.in-Some-get.found.now;
      ty = c.in-Some-arithmetic.ty;
      is_number = w.number;
      same_leaf = refl;
      object_place = _;
      stands = w.stands;
      place = refl;
      signed = c.is_signed.ensures;
      bytes = c.bytes_of.ensures _ (sym c.in-Some-arithmetic.ensures);
    }
