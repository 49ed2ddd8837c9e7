-- A layout, the bytes that are set aside for functions that wait, and the inputs, which are bytes.
use Rattle.std.proofs.Common.{◌≡◌, ◌≢◌, ℕ, ◌+◌, ◌-◌, ◌<◌, ◌≤◌, Bool, true, List, ◌∷◌, Some, slice_index, sym, subst}
use Rattle.std.proofs.Common.{◌⊎◌, ⊎_elim, Contains, Option}
use Rattle.std.specs.Prelude.{◌==◌, slice_get}
use Rattle.std.proofs.lemmas.Bool.{or_right}
use Rattle.std.specs.List.{AllByRecursion}
use Rattle.ec_space.specs.declared.space.Bank.TheVariants.{Data as DataBank}
use Rattle.ec_space.specs.Spaces.{bank_of}
use Rattle.ec_asm.specs.declared.pieces.Location.{Location}
use Rattle.ec_asm.specs.View.{pair}
use Rattle.ec_asm.specs.Change.{Env, Stacked}
use Rattle.ec_asm.specs.Pieces.{Outside}
use Rattle.ec_core.specs.Laws.{BytesAreTakenInOrder}
use Rattle.ec_core.specs.Layout.{AreStructs, size_of_type}
use Rattle.ec_core.specs.Plain.{PlainStorage, static, local, param, register, PlainObject, PlainProgram}
use Rattle.ec_core.specs.Valid.{IsObject}
use Rattle.ec_core.specs.State.{Inputs, GroupStates, State, chosen}
use Rattle.ec_ir.specs.declared.operations.Temp.{Temp}
use Rattle.ec_ir.specs.Meaning.{is_among, is_kept}
use Rattle.ec_ir.specs.Operations.{PlainIrProgram}
use Rattle.ec_select_numbers.specs.Laws.{NumbersAreSubtracted, NumbersAreAdded, NumbersChangeBits, NumbersAreCompared}
use Rattle.ec_select_numbers.specs.Laws.{NumbersAreStraight, NumbersArePut, PutsAreStraight}
use Rattle.ec_select_operations.specs.Homes.{HasHome}
use Rattle.ec_select_fixed.specs.FixedLaws.{FixedBinariesAreRight, FixedUnariesAreRight, FixedConversionsAreRight}
use Rattle.ec_select_places.specs.ConversionLaws.{PointersAreEmbedded}
use Rattle.ec_select_places.specs.DistanceLaws.{ElementsAreRight}
use Rattle.ec_select_places.specs.IndexLaws.{IndexesAreAdded, IndexesAreShort}
use Rattle.ec_select_places.specs.StepLaws.{IndexesAreScaled, PointersAreAdvanced, PointersAreCompared}
use Rattle.ec_select_places.specs.Numbers.{PlacesAreNumbers, OffsetsAreLow}
use Rattle.ec_select_places.specs.Form.{StepsAreShort, ConversionsAreShort, ElementsAreShort}
use Rattle.ec_select_places.specs.FarLaws.{FarPointersAreAdvanced, FarElementsAreRight, FarPointersAreCompared}
use Rattle.ec_select_places.specs.FarLaws.{FarPlacesAreNumbers, FarPlacesAreInOrder}
use Rattle.ec_select_places.specs.FarForm.{FarStepsAreShort}
use Rattle.ec_select_pointers.specs.FetchedLaws.{DataIsLoadedFromZ, FlashIsLoadedFromZ}
use Rattle.ec_select_pointers.specs.AccessLaws.{DataIsLoaded, FlashIsLoaded, DataIsLoadedByTag, FlashIsLoadedByTag}
use Rattle.ec_select_pointers.specs.AccessLaws.{TableIsLoaded, DataIsStored}
use Rattle.ec_select_pointers.specs.AddressLaws.{AddressesAreRight, FieldsAreRight}
use Rattle.ec_select_pointers.specs.Form.{PointersAreStraight, PointersTake, TablesAreShort}
use Rattle.ec_select_pointers.specs.FarLaws.{FarFlashIsLoaded, FarTableIsLoaded, DataIsLoadedByTop, FarFlashIsLoadedByTop}
use Rattle.ec_select_pointers.specs.FarLaws.{FarAddressesAreRight, FarFieldsAreRight}
use Rattle.ec_select_pointers.specs.FarForm.{FarPointersAreStraight, FarPointersTake}
use Rattle.ec_select_operations.specs.Places.{ObjectLeaf, owner_of, Chained, CanBeLiveTogether, Apart, Layout}
use Rattle.ec_select_routines.specs.Laws.{BinaryRoutinesAreRight, UnaryRoutinesAreRight, ConversionRoutinesAreRight}
use Rattle.ec_select_routines.specs.Laws.{QuotientRoutinesAreRight}
use Rattle.ec_select_functions.specs.Relation.{AreFrames}
use Rattle.ec_select_functions.specs.Standing.{ObjectStands, TablesStand, PageStands, WorkStands}

-- what the code of operations with a fixed-point type does
pub record FixedLaws : Type 0 where
  pub binaries : FixedBinariesAreRight
  pub unaries : FixedUnariesAreRight
  pub conversions : FixedConversionsAreRight

-- what calls of routines do
pub record RoutineLaws : Type 0 where
  pub binaries : BinaryRoutinesAreRight
  pub unaries : UnaryRoutinesAreRight
  pub conversions : ConversionRoutinesAreRight
  pub quotients : QuotientRoutinesAreRight

-- what the code for a core with RAMPZ does
pub record FarLaws : Type 0 where
  pub addresses : FarAddressesAreRight
  pub fields : FarFieldsAreRight
  pub from_flash : FarFlashIsLoaded
  pub from_tables : FarTableIsLoaded
  pub from_data_by_top : DataIsLoadedByTop
  pub from_flash_by_top : FarFlashIsLoadedByTop
  pub straight : FarPointersAreStraight
  pub take : FarPointersTake
  pub advanced : FarPointersAreAdvanced
  pub steps_short : FarStepsAreShort
  pub elements : FarElementsAreRight
  pub compared : FarPointersAreCompared
  pub same : FarPlacesAreNumbers
  pub ordered : FarPlacesAreInOrder

-- what the code of operations with pointers does
pub record PointerLaws : Type 0 where
  pub addresses : AddressesAreRight
  pub fields : FieldsAreRight
  pub from_data : DataIsLoaded
  pub from_flash : FlashIsLoaded
  pub from_data_by_tag : DataIsLoadedByTag
  pub from_flash_by_tag : FlashIsLoadedByTag
  pub data_from_z : DataIsLoadedFromZ
  pub flash_from_z : FlashIsLoadedFromZ
  pub from_tables : TableIsLoaded
  pub stored : DataIsStored
  pub straight : PointersAreStraight
  pub take : PointersTake
  pub tables_short : TablesAreShort
  pub scaled : IndexesAreScaled
  pub added : IndexesAreAdded
  pub added_short : IndexesAreShort
  pub advanced : PointersAreAdvanced
  pub steps_short : StepsAreShort
  pub elements : ElementsAreRight
  pub elements_short : ElementsAreShort
  pub compared : PointersAreCompared
  pub same : PlacesAreNumbers
  pub low : OffsetsAreLow
  pub embedded : PointersAreEmbedded
  pub embeddings_short : ConversionsAreShort
  pub far : FarLaws

-- what the code of operators with a known number does
pub record NumberLaws : Type 0 where
  pub subtracted : NumbersAreSubtracted
  pub added : NumbersAreAdded
  pub bits : NumbersChangeBits
  pub compared : NumbersAreCompared
  pub straight : NumbersAreStraight
  pub put : NumbersArePut
  pub put_straight : PutsAreStraight

-- the bytes that are set aside are no registers, and none of a temporary's or a leaf's, and neither are those of the stack
pub record Setting (p : PlainProgram) (e : Env) (slots : ℕ) (home : Temp → Location) (base : Temp → ℕ) (place : ℕ → ℕ) : Type 0 where
  -- the functions that are active, and those that the one calls which runs. All for which frames can stand are on one chain of calls
  pub program : PlainIrProgram
  pub active : List ℕ
  pub called : List ℕ
  pub chained : (fs : List ℕ) → AreFrames active called fs → (f g : ℕ) → is_among fs f ≡ true → is_among fs g ≡ true → Chained program f g
  pub layout : Layout p (CanBeLiveTogether program) e slots home base place
  pub aside : ℕ → Bool
  -- what stood at the bytes that are set aside, and what has to stand there
  pub was : ℕ → ℕ
  pub stands : GroupStates → ℕ → Option ℕ
  pub high : (k : ℕ) → aside k ≡ true → 32 ≤ k
  pub temps_aside : (t : Temp) (k : ℕ) → HasHome slots t → aside k ≡ true → Outside (base t) t.bytes k
  pub inputs : Inputs
  pub feeds : (port k : ℕ) → slice_index (inputs port) k < 256
  pub taken : BytesAreTakenInOrder
  -- the work bytes of operations with a fixed-point type, and what the code of these does
  pub work : ℕ
  pub cells : ℕ
  pub work_stands : WorkStands cells p e place work
  pub temps_work : (t : Temp) → HasHome slots t → Apart (base t) t.bytes work 64
  pub leaves_work : (l : ObjectLeaf p DataBank) (j : ℕ) → j < l.bytes → Outside work 64 (place l.object + l.at + j)
  pub work_aside : (k : ℕ) → aside k ≡ true → Outside work 64 k
  -- behind them are the bytes of cells, which are set aside. What has to stand there is what the state has for the cells, and
  -- anywhere else what stood there
  pub cells_aside : (c : ℕ) → c < cells → aside (work + 64 + c) ≡ true
  pub cells_stand : (c : ℕ) (s : State) → c < cells → stands s.groups (work + 64 + c) ≡ chosen c s
  pub others_stand : (k : ℕ) (groups : GroupStates) → Outside (work + 64) cells k → stands groups k ≡ Some (was k)
  pub fixed : FixedLaws
  pub routines : RoutineLaws
  pub pointers : PointerLaws
  pub numbers : NumberLaws
  -- the objects, which have at least one byte, and stand apart where they can be live together
  pub objects_stand : (o : ℕ) (d : PlainObject) → slice_get p.objects o ≡ Some d → bank_of d.home ≡ DataBank
      → ObjectStands e o (size_of_type p.structs d.ty) (place o) d.storage
  pub objects_apart : (o k : ℕ) (d f : PlainObject) → slice_get p.objects o ≡ Some d → bank_of d.home ≡ DataBank
      → slice_get p.objects k ≡ Some f → bank_of f.home ≡ DataBank → o ≢ k → CanBeLiveTogether program d.storage f.storage
      → Apart (place o) (size_of_type p.structs d.ty) (place k) (size_of_type p.structs f.ty)
  pub tables_stand : TablesStand p e place
  pub page : PageStands e
  pub valid : AllByRecursion (IsObject p) p.objects
  pub structs : AreStructs p.structs
  pub leaves_aside : (l : ObjectLeaf p DataBank) (k : ℕ) → aside k ≡ true → Outside (place l.object + l.at) l.bytes k
  -- the stack pointer, which is set aside, and two bytes to push, which are not
  pub stack : ℕ
  pub stack_high : 257 ≤ stack
  pub stack_below : stack < 65536
  pub stacked : (k : ℕ) → stack - 1 ≤ k → k ≤ stack → e.kind k ≡ Stacked
  pub stack_free : (k : ℕ) → aside k ≡ true → (k ≢ stack) × (k ≢ stack - 1)
  pub pointer_low : aside 93 ≡ true
  pub pointer_high : aside 94 ≡ true
  pub pointer : pair was 93 ≡ stack
  pub temps_stack : (t : Temp) (k : ℕ) → HasHome slots t → 256 ≤ k → e.kind k ≡ Stacked → Outside (base t) t.bytes k
  pub leaves_stack : (l : ObjectLeaf p DataBank) (k : ℕ) → 256 ≤ k → e.kind k ≡ Stacked
      → Outside (place l.object + l.at) l.bytes k

-- frames stand for all active functions
pub frames_active : (active called fs : List ℕ) (g : ℕ) → AreFrames active called fs → is_among active g ≡ true → is_among fs g ≡ true
frames_active active called fs g are q =
    ⊎_elim
    (λ (r : fs ≡ active). subst (λ hs. is_among hs g ≡ true) (sym r) q)
    (λ (r : (h : ℕ) × ((is_among active h ≡ true) ⊎ Contains called h) × (fs ≡ h ∷ active)).
    subst (λ hs. is_among hs g ≡ true) (sym r.2) (or_right (r.0 == g) (is_among active g) q))
    are

-- what is kept for some functions is of one of them, if it is of any
owner_kept : (fs : List ℕ) (s : PlainStorage) (f : ℕ) → is_kept fs s ≡ true → owner_of s ≡ Some f → is_among fs f ≡ true
owner_kept fs (static inits) f k q = absurd cc
owner_kept fs (local g) f k q = let i : g ≡ f = cc in subst (λ h. is_among fs h ≡ true) i k
owner_kept fs (param g) f k q = let i : g ≡ f = cc in subst (λ h. is_among fs h ≡ true) i k
owner_kept fs (register first) f k q = absurd cc

-- so two objects that are kept can be live together
pub together : (p : PlainProgram) (e : Env) (slots : ℕ) (home : Temp → Location) (base : Temp → ℕ) (place : ℕ → ℕ)
    (y : Setting p e slots home base place) (fs : List ℕ) (s t : PlainStorage) → AreFrames y.active y.called fs
    → is_kept fs s ≡ true → is_kept fs t ≡ true → CanBeLiveTogether y.program s t
together p e slots home base place y fs s t are k l f g q r = y.chained fs are f g (owner_kept fs s f k q) (owner_kept fs t g l r)
