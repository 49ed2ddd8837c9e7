-- The type of an object or a member that a declarator declares is that of a place, and an object's is not too large.
use Rattle.std.proofs.Common.{◌≡◌, ◌≤◌, ◌+◌, ℕ, zero, suc, true, false, ◌&&◌, List, length, refl, sym, subst, arith}
use Rattle.std.specs.Prelude.{nat_lt, pos, Option, Some, None, IfSome, slice_get, int_le, unsigned_abs}
use Rattle.std.proofs.lemmas.Bool.Decides.{nat_tests}
use Rattle.ec_grammar.specs.Trees as t
use Rattle.ec_core.specs.Layout.{Layout, repeated, type_layout, struct_layouts, size_of_type, AreStructs}
use Rattle.ec_core.specs.Plain.{PlainType, array, struct, PlainStruct}
use Rattle.ec_core.specs.TypeLaws.{StructsAreLaidOut}
use Rattle.ec_check_names.specs.declared.tags.TagState.TheVariants.{Struct}
use Rattle.ec_check_names.specs.Specifiers.{specified, void_at}
use Rattle.ec_check_names.specs.Tags.{Tags, tag_state}
use Rattle.ec_check_forms.specs.Validity.{IsPlaceType}
use Rattle.ec_check_expressions.specs.Known.{Known}
use Rattle.ec_check_expressions.specs.TypeNames.{said_type, void_said, meant_type}
use Rattle.ec_check_expression_laws.specs.Laws.{SaidTypesArePlaced}
use Rattle.ec_check_initialisers.specs.Laws.{SizesAreValues}
use Rattle.ec_check_initialisers.specs.Locals.{items_count}
use Rattle.ec_check_initialisers.specs.Sizes.{array_size, size_of_number}
use Rattle.ec_check_declarations.specs.Declarators.{head_of, given_size, declared_size, shape_size, shaped, object_declared}
use Rattle.ec_check_declarations.specs.Declarators.{typed_declarator}
use Rattle.ec_check_declarations.specs.ObjectTypes.{is_object_type, object_type, small_type}
use Rattle.ec_check_declarations.proofs.Types.{object_type_is}
use Rattle.ec_check_statements.specs.Laws.{DeclaredTypesArePlaced}
use Rattle.ec_check_statements.specs.Objects.{IsDeclaredType}
use Rattle.ec_check_statements.proofs.Choices.{if_both}
use Rattle.ec_check_statements.proofs.Layouts.{sizes_agree}

-- ---- arrays

some_repeated : (n : ℕ) (a : Layout) → 1 ≤ n → 1 ≤ a.size → 1 ≤ (repeated n a).size
some_repeated zero a h k = absurd (omega (arith, h))
some_repeated (suc n) a h k = omega (arith, k)

number_size : (n : ℕ) → 1 ≤ n → IfSome (size_of_number (pos n)) (λ m. 1 ≤ m)
number_size n h =
    if_both (λ o. IfSome o (λ m. 1 ≤ m)) (int_le (pos 1) (pos n) && int_le (pos n) (pos 32_767)) (Some (unsigned_abs (pos n))) None
    (λ e. h) (λ e. tt)

given_some : (start : Option t.Start) → IfSome (given_size start) (λ m. 1 ≤ m)
given_some None = tt
given_some (Some (t.start equals (t.initial_value a))) = tt
given_some (Some (t.start equals (t.braces l first more c r))) = number_size (items_count more + 1) (omega arith)

module _ (sizes : SizesAreValues) (k : Known) where
  said_some : (c : t.Conditional) (o : Option ℕ) → array_size k c ≡ o → IfSome o (λ m. 1 ≤ m)
  said_some c None e = tt
  said_some c (Some m) e = (sizes k c m e).some

  size_some : (c : Option t.Conditional) (start : Option t.Start) → IfSome (declared_size k c start) (λ m. 1 ≤ m)
  size_some None start = given_some start
  size_some (Some c) start = said_some c (array_size k c) refl

  pub shape_some : (shape : t.Shape) (start : Option t.Start) → IfSome (shape_size k shape start) (λ m. 1 ≤ m)
  shape_some t.object start = tt
  shape_some (t.array l size r) start = size_some size start
  shape_some (t.function_shape l ps r) start = tt

-- ---- objects

module _ (law : StructsAreLaidOut) (some all : List PlainStruct) (small : AreStructs some) (structs : AreStructs all)
    (same : (i : ℕ) (s : PlainStruct) → slice_get some i ≡ Some s → slice_get all i ≡ Some s) where
  abbrev IsPlacedObject : PlainType → Type 0
  IsPlacedObject ty = is_object_type (length some) ty ≡ true → IsPlaceType all ty

  array_placed : (of : PlainType) (n : ℕ) → IsPlaceType all of → 1 ≤ n → IsPlacedObject (array of n)
  array_placed of n h k e =
      let o = object_type_is (length some) (array of n) e in
      record {
        object = record { names = h.object.names; form = o.form };
        some = some_repeated n (type_layout (struct_layouts all) of) k h.some;
        usable = h.usable;
      }

  shaped_placed : (base : Option PlainType) (shape : t.Shape) (size : Option ℕ) → IfSome base (IsPlaceType all) → IfSome size (λ m. 1 ≤ m)
      → IfSome (shaped base shape size) IsPlacedObject
  shaped_placed None t.object size h k = tt
  shaped_placed (Some ty) t.object size h k = λ e. h
  shaped_placed None (t.array l c r) size h k = tt
  shaped_placed (Some of) (t.array l c r) None h k = tt
  shaped_placed (Some of) (t.array l c r) (Some n) h k = array_placed of n h k
  shaped_placed base (t.function_shape l ps r) size h k = tt

  not_more : (n m : ℕ) → n ≡ m → nat_lt 32_767 n ≡ false → m ≤ 32_767
  not_more n m e f = grind (arith, nat_tests, e, f)

  is_declared : (ty : PlainType) → IsPlacedObject ty → is_object_type (length some) ty ≡ true → nat_lt 32_767 (size_of_type some ty) ≡ false
      → IsDeclaredType some all ty
  is_declared ty h e f =
      let o = object_type_is (length some) ty e in
      record {
        known = o;
        placed = h e;
        small = not_more (size_of_type some ty) (size_of_type all ty) (sizes_agree law some all small structs same ty o.names) f;
      }

  typed : (o : Option PlainType) → IfSome o IsPlacedObject → IfSome (object_type (length some) o) (IsPlaceType all)
  typed None h = tt
  typed (Some ty) h = if_both (λ o. IfSome o (IsPlaceType all)) (is_object_type (length some) ty) (Some ty) None h (λ e. tt)

  tested : (o : Option PlainType) → IfSome o IsPlacedObject
      → IfSome (small_type some (object_type (length some) o)) (IsDeclaredType some all)
  tested None h = tt
  tested (Some ty) h =
      if_both (λ o. IfSome (small_type some o) (IsDeclaredType some all)) (is_object_type (length some) ty) (Some ty) None
      (λ e. if_both (λ o. IfSome o (IsDeclaredType some all)) (nat_lt 32_767 (size_of_type some ty)) None (Some ty) (λ f. tt)
      (λ f. is_declared ty h e f))
      (λ e. tt)

  module _ (said : SaidTypesArePlaced) (sizes : SizesAreValues) (tags : Tags)
      (defined : (n : List ℕ) (i : ℕ) → tag_state n tags ≡ Struct i → IsPlaceType all (struct i)) where
    base_placed : (ss : t.Specs) (stars : List t.Star)
        → IfSome (meant_type (void_at (specified tags ss).types) (head_of (specified tags ss) stars).ty) (IsPlaceType all)
    unfolding said_type void_said
    base_placed ss stars = said all tags defined (t.type_name ss stars)

    -- before a test of its bytes
    shape_placed : (k : Known) (ss : t.Specs) (stars : List t.Star) (shape : t.Shape) (start : Option t.Start)
        → IfSome
        (shaped (meant_type (void_at (specified tags ss).types) (head_of (specified tags ss) stars).ty) shape (shape_size k shape start))
        IsPlacedObject
    shape_placed k ss stars shape start =
        shaped_placed (meant_type (void_at (specified tags ss).types) (head_of (specified tags ss) stars).ty) shape
        (shape_size k shape start) (base_placed ss stars) (shape_some sizes k shape start)

    -- the type of a member
    pub member_placed : (k : Known) → k.structs ≡ some → (ss : t.Specs) (d : t.Declarator)
        → IfSome (typed_declarator k (specified tags ss) d None).ty (IsPlaceType all)
    member_placed k e ss (t.declarator stars name shape) =
        subst (λ (structs : List PlainStruct). IfSome (object_type (length structs)
        (shaped (meant_type (void_at (specified tags ss).types) (head_of (specified tags ss) stars).ty) shape (shape_size k shape None)))
        (IsPlaceType all))
        (sym e)
        (typed
        (shaped (meant_type (void_at (specified tags ss).types) (head_of (specified tags ss) stars).ty) shape (shape_size k shape None))
        (shape_placed k ss stars shape None))

    pub object_placed : (k : Known) → k.structs ≡ some → (ss : t.Specs) (d : t.Declarator) (start : Option t.Start)
        → IfSome (object_declared k (specified tags ss) d start).ty (IsDeclaredType some all)
    object_placed k e ss (t.declarator stars name shape) start =
        subst (λ (structs : List PlainStruct). IfSome (small_type structs (object_type (length structs)
        (shaped (meant_type (void_at (specified tags ss).types) (head_of (specified tags ss) stars).ty) shape (shape_size k shape start))))
        (IsDeclaredType some all))
        (sym e)
        (tested
        (shaped (meant_type (void_at (specified tags ss).types) (head_of (specified tags ss) stars).ty) shape (shape_size k shape start))
        (shape_placed k ss stars shape start))

pub declared_types_are_placed : StructsAreLaidOut → SaidTypesArePlaced → SizesAreValues → DeclaredTypesArePlaced
declared_types_are_placed law said sizes p io f k ss d start all h =
    object_placed law k.structs p.structs h.small all h.structs said sizes k.tags h.tags k refl ss d start
