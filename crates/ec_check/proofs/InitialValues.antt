-- The initial values of static objects are as a valid program asks.
use Rattle.std.proofs.Common.{◌≡◌, ◌≤◌, ℕ, List, [], ◌∷◌, length, map, refl, sym, subst}
use Rattle.std.specs.Prelude.{Option, Some, None, IfSome, IsTrue, IsSomeAnd, slice_get}
use Rattle.std.specs.List.{AllByRecursion, AllZip}
use Rattle.std.proofs.lemmas.Bool.{false≢true}
use Rattle.ec_grammar.specs.Trees as t
use Rattle.ec_space.specs.declared.space.SpaceId.{SpaceId}
use Rattle.ec_space.specs.declared.space.SpaceId.TheVariants.{Flash, FarFlash, Data, Generic}
use Rattle.ec_space.specs.Spaces.{holds, encloses}
use Rattle.ec_core.specs.declared.programs.LeafInit.{LeafInit}
use Rattle.ec_core.specs.declared.programs.LeafInit.TheVariants.{Number, Null, Address}
use Rattle.ec_core.specs.Layout.{PlainLeaf, size_of_type, leaves_of_type, IsObjectType, AreStructs}
use Rattle.ec_core.specs.Plain.{PlainType, void, integer, fixed, pointer, array, struct, PlainObject, PlainProgram}
use Rattle.ec_core.specs.TypeLaws.{StructsAreLaidOut}
use Rattle.ec_core.specs.Valid.{IsStatic, IsInitialValue, AreInitialValues}
use Rattle.ec_check_names.specs.Names.{Named}
use Rattle.ec_check_expressions.specs.Known.{Known}
use Rattle.ec_check_initialisers.specs.Items.{zero_leaves}
use Rattle.ec_check_initialisers.specs.Laws.{IsStaticAddress, IsInitialLeaf, AreInitialLeaves, InitialValuesSuit}
use Rattle.ec_check_initialisers.specs.Places.{IsNamedObject}
use Rattle.ec_check_statements.proofs.Layouts.{sizes_agree, leaves_agree}
use Rattle.ec_check_file_scope.specs.FileObjects.{home_of, initial_leaves}
use Rattle.ec_check_file_scope.proofs.Sound.{named_at}
use Rattle.ec_check.proofs.Firsts.{First}
use Rattle.ec_check.proofs.Meanings.{IsStaticObject, IsStaticName}

-- ---- spaces

pub home_held : (outer space : SpaceId) → IsTrue (encloses outer space) → IsTrue (holds outer (home_of space))
home_held Flash Flash e = refl
home_held Flash FarFlash e = absurd (false≢true e)
home_held Flash Data e = absurd (false≢true e)
home_held Flash Generic e = absurd (false≢true e)
home_held FarFlash Flash e = refl
home_held FarFlash FarFlash e = refl
home_held FarFlash Data e = absurd (false≢true e)
home_held FarFlash Generic e = absurd (false≢true e)
home_held Data Flash e = absurd (false≢true e)
home_held Data FarFlash e = absurd (false≢true e)
home_held Data Data e = refl
home_held Data Generic e = absurd (false≢true e)
home_held Generic Flash e = refl
home_held Generic FarFlash e = refl
home_held Generic Data e = refl
home_held Generic Generic e = refl

pub own_home : (space : SpaceId) → IsTrue (holds space (home_of space))
own_home Flash = refl
own_home FarFlash = refl
own_home Data = refl
own_home Generic = refl

-- ---- leaves

module _ (law : StructsAreLaidOut) (p : PlainProgram) (k : Known) (whole : AreStructs p.structs) (small : AreStructs k.structs)
    (first : First k.structs p.structs)
    (static : AllByRecursion (λ e. IsStaticName p e.1) k.names.outside)
    (typed : AllByRecursion (λ e. IsNamedObject (length k.structs) e.1) k.names.outside) where
  of_object : (space home : SpaceId) (ty : PlainType) (offset : ℕ) → IsTrue (encloses space home) → offset ≤ size_of_type p.structs ty
      → (o : Option PlainObject)
      → IsSomeAnd o (IsStaticObject ty home)
      → IsSomeAnd o (λ x. IsStatic x.storage × IsTrue (holds space x.home) × (offset ≤ size_of_type p.structs x.ty))
  of_object space home ty offset e n None h = absurd h
  of_object space home ty offset e n (Some x) h = (
    h.storage,
    subst (λ b. IsTrue (holds space b)) (sym h.home) (home_held space home e),
    subst (λ z. offset ≤ size_of_type p.structs z) (sym h.typed) n,
  )

  inside : (ty : PlainType) (offset : ℕ) → IsObjectType (length k.structs) ty → offset ≤ size_of_type k.structs ty
      → offset ≤ size_of_type p.structs ty
  inside ty offset o n = subst (λ m. offset ≤ m) (sizes_agree law k.structs p.structs small whole first ty o.names) n

  address_is : (space : SpaceId) (object offset : ℕ) → IsStaticAddress k space object offset
      → IsSomeAnd (slice_get p.objects object)
      (λ x. IsStatic x.storage × IsTrue (holds space x.home) × (offset ≤ size_of_type p.structs x.ty))
  address_is space object offset h =
      let known =
      subst (λ (o : Option Named). IfSome o (IsStaticName p)) h.named (named_at (IsStaticName p) k.names.outside static h.name) in
      let type = subst (λ (o : Option Named). IfSome o (IsNamedObject (length k.structs))) h.named
      (named_at (IsNamedObject (length k.structs)) k.names.outside typed h.name) in
      of_object space h.home h.ty offset h.enclosed (inside h.ty offset type h.inside) (slice_get p.objects object) known

  leaf_is : (ty : PlainType) (init : LeafInit) → IsInitialLeaf k ty init → IsInitialValue p ty init
  leaf_is ty (Number n) h = h
  leaf_is (pointer s c to) Null h = h
  leaf_is (pointer s c to) (Address o offset) h = address_is s o offset h
  leaf_is void Null h = absurd h
  leaf_is void (Address o offset) h = absurd h
  leaf_is (integer signed bytes) Null h = absurd h
  leaf_is (integer signed bytes) (Address o offset) h = absurd h
  leaf_is (fixed kind sat) Null h = absurd h
  leaf_is (fixed kind sat) (Address o offset) h = absurd h
  leaf_is (array of len) Null h = absurd h
  leaf_is (array of len) (Address o offset) h = absurd h
  leaf_is (struct i) Null h = absurd h
  leaf_is (struct i) (Address o offset) h = absurd h

  leaves_are : (leaves : List PlainLeaf) (inits : List LeafInit) → AllZip (IsInitialLeaf k) (map (λ leaf. leaf.ty) leaves) inits
      → AreInitialValues p leaves inits
  leaves_are [] [] h = tt
  leaves_are [] (init ∷ inits) h = h
  leaves_are (leaf ∷ leaves) [] h = h
  leaves_are (leaf ∷ leaves) (init ∷ inits) h = (leaf_is leaf.ty init h.0, leaves_are leaves inits h.1)

  suited : (ty : PlainType) (inits : List LeafInit) → IsObjectType (length k.structs) ty → AreInitialLeaves k ty inits
      → AreInitialValues p (leaves_of_type p.structs ty) inits
  suited ty inits o h =
      subst (λ leaves. AreInitialValues p leaves inits) (leaves_agree law k.structs p.structs small whole first ty o.names)
      (leaves_are (leaves_of_type k.structs ty) inits h)

  by_start : InitialValuesSuit → (start : Option t.Start) (ty : PlainType) (inits : List LeafInit) → IsObjectType (length k.structs) ty
      → initial_leaves k start (Some ty) ≡ Some inits → AreInitialLeaves k ty inits
  by_start suit None ty inits o e =
      let same : zero_leaves k.structs ty ≡ inits = cc in
      subst (AreInitialLeaves k ty) same (suit.zero k ty small o)
  by_start suit (Some (t.start equals i)) ty inits o e = suit.given k i ty inits small o e

  pub initial_values : InitialValuesSuit → (start : Option t.Start) (ty : PlainType) (inits : List LeafInit)
      → IsObjectType (length k.structs) ty
      → initial_leaves k start (Some ty) ≡ Some inits → AreInitialValues p (leaves_of_type p.structs ty) inits
  initial_values suit start ty inits o e = suited ty inits o (by_start suit start ty inits o e)
