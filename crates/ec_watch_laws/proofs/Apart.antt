-- The bytes of a watched number stand apart from all else in the data bank.
use Rattle.std.proofs.Common.{◌≡◌, ◌≢◌, ℕ, suc, ◌+◌, ◌<◌, ◌≤◌, ◌⊎◌, inl, inr, ⊎_elim, Bool, true, false, ◌||◌, List, [], ◌∷◌}
use Rattle.std.proofs.Common.{length, Some, refl, sym, ap, ◌∙◌, subst, arith}
use Rattle.std.specs.Prelude.{Option, IsSomeAnd, slice_get, slice_index_or, nat_le, nat_lt, ◌==◌}
use Rattle.std.proofs.lemmas.Bool.{cases_Bool, and_parts, leb-true, ltb-true, eqb-true, eq-eqb}
use Rattle.std.proofs.lemmas.List.{length-map}
use Rattle.std.proofs.lemmas.Option.{slice_get_within, slice_get-get_or}
use Rattle.ec_space.specs.Memory.{data_size as size_of_data}
use Rattle.ec_space.specs.declared.Core.{Core}
use Rattle.ec_space.specs.declared.Core.TheVariants.{Small, Large}
use Rattle.ec_space.specs.declared.space.Bank.{Bank}
use Rattle.ec_space.specs.declared.space.Bank.TheVariants.{Flash as FlashBank, Data as DataBank}
use Rattle.ec_space.specs.declared.space.Place.{Place}
use Rattle.ec_space.specs.declared.space.SpaceId.{SpaceId}
use Rattle.ec_space.specs.Spaces.{bank_of}
use Rattle.ec_asm.specs.declared.items.AsmProgram.{AsmProgram}
use Rattle.ec_core.specs.declared.programs.LeafInit.{LeafInit}
use Rattle.ec_core.specs.Layout.{PlainLeaf, scalar_size, size_of_type, leaves_of_type}
use Rattle.ec_core.specs.Plain.{PlainStorage, static, local, param, register, PlainObject, PlainProgram}
use Rattle.ec_core.specs.PortTable.{plain_table}
use Rattle.ec_core.specs.TypeLaws.{LeavesFillTheirTypes, IsLeafAt}
use Rattle.ec_emu_watch.specs.declared.point.WatchPoint.{WatchPoint}
use Rattle.ec_emu_watch.specs.Points.{is_data}
use Rattle.ec_lower_code.specs.Code.{lowered}
use Rattle.ec_lower_code.specs.Correct.{LoweredIsMadeOf}
use Rattle.ec_map.specs.Regions.{end_of}
use Rattle.ec_map.specs.declared.map.Map.{Map}
use Rattle.ec_locate.specs.DataBank.{IsOwnedBy, IsLocalOf, Names, an_object, scratch, work, CanBeLive, StandsIn}
use Rattle.ec_locate.specs.DataBank.{IsInMemory, DataStands, DataStandsApart}
use Rattle.ec_locate.specs.Entries.{flash_size, far_size, data_size, frame_size, work_size}
use Rattle.ec_locate.specs.Layout.{places_from}
use Rattle.ec_locate.specs.Placing.{object_sizes, scratch_needs, entries_by}
use Rattle.ec_locate.specs.declared.entries.Entry.{Entry}
use Rattle.ec_locate.specs.declared.placing.Located.{Located}
use Rattle.ec_select.specs.Laws.{SelectionsAreValid}
use Rattle.ec_build_laws.specs.Kinds.{is_byte_of, is_of_scratch, place_of}
use Rattle.ec_build_laws.specs.Shortened.{ShortenedIsValid}
use Rattle.ec_build_laws.specs.Translation.{IsTranslated}
use Rattle.ec_build_laws.specs.Whole.{is_own_byte, IsHomeByte}
use Rattle.ec_watch_points.specs.Numbers.{is_static, IsPointOf, HavePlaces}
use Rattle.ec_watch_points.proofs.Named.{HasName, has_name}
use Rattle.ec_watch_laws.proofs.Alone.{IsIn, IsAlone}

pub record ApartLaws : Type 0 where
  pub apart : DataStandsApart
  pub made : LoweredIsMadeOf
  pub selections : SelectionsAreValid
  pub short : ShortenedIsValid

pub stands : ApartLaws → (p : PlainProgram) (m : Map) (asm : AsmProgram) (l : Located) → IsTranslated p m asm l → DataStands p m asm l
stands laws p m asm l h =
    laws.apart p m asm l h.valid h.map
    (laws.short (object_sizes p) (work_size m.io) _ h.selected asm h.shortened
    (laws.selections m.core (length m.io.dynamics.items) (lowered p (plain_table m.io)) h.selected
    (laws.made p m.io h.valid h.groups).valid h.code h.selection)).0 h.located

-- ---- places

counted_places : (es : List Entry) (flash far at : ℕ) (frame : ℕ → ℕ → ℕ) (i : ℕ)
    → length (places_from flash far at frame i es) ≡ length es
counted_places [] flash far at frame i = refl
counted_places (e ∷ es) flash far at frame i =
    ap suc (counted_places es (flash + flash_size e) (far + far_size e) (at + data_size e) frame (i + 1))

each_place : (p : PlainProgram) (m : Map) (asm : AsmProgram) (l : Located) → IsTranslated p m asm l
    → length l.places.items ≡ length p.objects
each_place p m asm l h =
    ap length h.located.places ∙ counted_places (entries_by m p) _ _ _ _ 0 ∙ length-map p.objects _

static_of : (s : PlainStorage) → is_static s ≡ true → (inits : List LeafInit) × (s ≡ static inits)
static_of (static inits) e = (inits, refl)
static_of (local f) e = cc
static_of (param f) e = cc
static_of (register r) e = cc

data_home : (bank : Bank) → is_data bank ≡ true → bank ≡ DataBank
data_home FlashBank e = cc
data_home DataBank e = refl

-- a static object of the data bank stands in memory
in_memory : (p : PlainProgram) (m : Map) (asm : AsmProgram) (l : Located) → DataStands p m asm l → (o : ℕ) (object : PlainObject)
    (place : Place) → slice_get p.objects o ≡ Some object → is_static object.storage ≡ true → is_data (bank_of object.home) ≡ true
    → slice_get l.places.items o ≡ Some place → IsInMemory m.core place.offset (size_of_type p.structs object.ty)
in_memory p m asm l d o object place is s home there =
    let storage = static_of object.storage s in
    subst (λ (z : PlainStorage). StandsIn m.core z place.offset (size_of_type p.structs object.ty)) storage.1
    (d.objects o object place is (data_home (bank_of object.home) home) there)

-- the data bank of either core ends below 65,536
data_low : (core : Core) → size_of_data core ≤ 65536
data_low Small = omega arith
data_low Large = omega arith

pub have_places : ApartLaws → (p : PlainProgram) (m : Map) (asm : AsmProgram) (l : Located) → IsTranslated p m asm l
    → HavePlaces p l.places.items
have_places laws p m asm l h = record {
  each = each_place p m asm l h;
  low = λ o object place is s home there.
      let r = in_memory p m asm l (stands laws p m asm l h) o object place is s home there in
      let low = r.1 in
      let most = data_low m.core in
      omega (arith, low, most);
}

-- ---- whose byte it is

not_in : (at size a : ℕ) → (a < at) ⊎ (at + size ≤ a) → is_byte_of at size a ≡ false
not_in at size a apart =
    ⊎_elim (λ (t : is_byte_of at size a ≡ true). absurd (clash (and_parts (nat_le at a) (nat_lt a (at + size)) t))) (λ f. f)
    (cases_Bool (is_byte_of at size a))
  where
    clash : (nat_le at a ≡ true) × (nat_lt a (at + size) ≡ true) → ⊥
    clash q =
        let low = leb-true at a q.0 in
        let high = ltb-true a (at + size) q.1 in
        ⊎_elim (λ (x : a < at). omega (arith, x, low)) (λ (x : at + size ≤ a). omega (arith, x, high)) apart

no_scratch : (frames ats : List ℕ) (a : ℕ)
    → ((f frame at : ℕ) → slice_get frames f ≡ Some frame → slice_get ats f ≡ Some at → is_byte_of at (frame_size frame) a ≡ false)
    → is_of_scratch frames ats a ≡ false
no_scratch [] ats a h = refl
no_scratch (frame ∷ frames) [] a h = refl
no_scratch (frame ∷ frames) (at ∷ ats) a h =
    ap (λ (z : Bool). z || is_of_scratch frames ats a) (h 0 frame at refl refl)
    ∙ no_scratch frames ats a (λ f other there. h (suc f) other there)

module _ (p : PlainProgram) (m : Map) (asm : AsmProgram) (l : Located) (h : IsTranslated p m asm l) (d : DataStands p m asm l)
    (fill : LeavesFillTheirTypes) (name : List ℕ) (k : ℕ) (point : WatchPoint) (q : IsPointOf p l.places.items name k point) where
  abbrev object : PlainObject
  object = q.is_number.object

  abbrev base : ℕ
  base = place_of l point.object + q.leaf.at

  abbrev size : ℕ
  size = scalar_size q.leaf.ty

  named : HasName name object
  named = has_name name object q.is_number.named

  place_is : (o : ℕ) (place : Place) → slice_get l.places.items o ≡ Some place → place_of l o ≡ place.offset
  place_is o place there = rw there refl

  leaf_at : (o j : ℕ) (other : PlainObject) (leaf : PlainLeaf) → slice_get p.objects o ≡ Some other
      → slice_get (leaves_of_type p.structs other.ty) j ≡ Some leaf → IsLeafAt p.structs other.ty j leaf
  leaf_at o j other leaf is has = (fill.objects p m.io o other h.valid is).each j leaf has

  own_leaf : IsLeafAt p.structs object.ty k q.leaf
  own_leaf = leaf_at point.object k object q.leaf q.is_number.is_object q.is_number.is_leaf

  memory : IsInMemory m.core q.object_place.offset (size_of_type p.structs object.ty)
  memory = in_memory p m asm l d point.object object q.object_place q.is_number.is_object named.static named.home q.stands

  own_place : place_of l point.object ≡ q.object_place.offset
  own_place = place_is point.object q.object_place q.stands

  names : Names p m asm l point.object q.object_place.offset (size_of_type p.structs object.ty)
  names = an_object point.object object q.object_place q.is_number.is_object (data_home (bank_of object.home) named.home) q.stands

  few : point.object < 1024
  few =
      let inside = slice_get_within p.objects point.object object q.is_number.is_object in
      let most = h.valid.object_count in omega (arith, inside, most)

  -- no static object is a parameter or a local
  no_local : (f : ℕ) → IsLocalOf p f point.object → ⊥
  no_local f owned =
      let storage = static_of object.storage named.static in
      subst (IsOwnedBy f) storage.1
      (subst (λ (z : Option PlainObject). IsSomeAnd z (λ x. IsOwnedBy f x.storage)) q.is_number.is_object owned)

  can_be_live : (n : ℕ) → CanBeLive p point.object n
  can_be_live n = record {
    locals = λ f g owned other. absurd (no_local f owned);
    scratch = λ f g under over is other. absurd (let b = few in omega (arith, b, is));
  }

  -- an address of the leaf is one of its object
  in_object : (a : ℕ) → IsIn base size a → (q.object_place.offset ≤ a) × (a < q.object_place.offset + size_of_type p.structs object.ty)
  in_object a i =
      let inside = own_leaf.inside in
      let low = i.from_there in
      let high = i.within in
      let at = own_place in
      (omega (arith, low, at), omega (arith, high, inside, at))

  -- what else has a number does not have it
  elsewhere : (n at many a : ℕ) → point.object ≢ n → Names p m asm l n at many → IsIn base size a → (a < at) ⊎ (at + many ≤ a)
  elsewhere n at many a other has i =
      let r = in_object a i in
      let low = r.0 in
      let high = r.1 in
      ⊎_elim (λ (x : q.object_place.offset + size_of_type p.structs object.ty ≤ at). inl (omega (arith, high, x)))
      (λ (x : at + many ≤ q.object_place.offset). inr (omega (arith, low, x)))
      (d.apart point.object n q.object_place.offset at (size_of_type p.structs object.ty) many other (can_be_live n) names has)

  no_own : (a : ℕ) → IsIn base size a → is_own_byte p m l a ≡ false
  no_own a i =
      ap (λ (z : Bool). z || is_byte_of l.work (work_size m.io) a)
      (no_scratch (scratch_needs p) l.frames.items a (λ f frame at is there.
      not_in at (frame_size frame) a
      (elsewhere (1024 + f) at (frame_size frame) a (λ e. let b = few in absurd (omega (arith, b, e)))
      (scratch f frame at (ap (λ (z : List ℕ). slice_get z f) h.located.scratch ∙ is) there) i)))
      ∙ not_in l.work (work_size m.io) a
      (elsewhere 1280 l.work (work_size m.io) a (λ e. let b = few in absurd (omega (arith, b, e))) work i)

  -- two leaves of one object share no byte
  one_leaf : (j a : ℕ) (leaf : PlainLeaf) → slice_get (leaves_of_type p.structs object.ty) j ≡ Some leaf → IsIn base size a
      → place_of l point.object + leaf.at ≤ a → a < place_of l point.object + leaf.at + scalar_size leaf.ty → j ≡ k
  one_leaf j a leaf has i from_there within =
      let low = i.from_there in
      let high = i.within in
      ⊎_elim (λ (x : j < k).
      let z = (leaf_at point.object j object leaf q.is_number.is_object has).apart k q.leaf x q.is_number.is_leaf in
      absurd (omega (arith, low, within, z)))
      (⊎_elim (λ e. e) (λ (x : k < j). let z = own_leaf.apart j leaf x has in absurd (omega (arith, high, from_there, z)))) (three j k)
    where
      three : (i j : ℕ) → (i < j) ⊎ ((i ≡ j) ⊎ (j < i))
      three i j = grind arith

  there_is : (o : ℕ) (other : PlainObject) → slice_get p.objects o ≡ Some other
      → (place : Place) × (slice_get l.places.items o ≡ Some place)
  there_is o other is =
      let inside = slice_get_within p.objects o other is in
      let n = each_place p m asm l h in
      (slice_index_or l.places.items o q.object_place, slice_get-get_or l.places.items o q.object_place (omega (arith, inside, n)))

  is_alone : (o j a : ℕ) (space : SpaceId) → IsHomeByte p l o j space DataBank a → IsIn base size a → (o ≡ point.object) × (j ≡ k)
  is_alone o j a space b i = by_object (same_or_not o point.object)
    where
      same_or_not : (x y : ℕ) → (x ≡ y) ⊎ (y ≢ x)
      same_or_not x y = ⊎_elim (λ e. inl (eqb-true x y e)) (λ f. inr (λ e. let no : true ≡ false = sym (eq-eqb x y (sym e)) ∙ f in cc))
          (cases_Bool (x == y))

      by_object : (o ≡ point.object) ⊎ (point.object ≢ o) → (o ≡ point.object) × (j ≡ k)
      by_object (inl e) =
          let is : slice_get p.objects point.object ≡ Some b.object = subst (λ z. slice_get p.objects z ≡ Some b.object) e b.is_object in
          let same : b.object ≡ object = injected (sym is ∙ q.is_number.is_object) in (
            e,
            one_leaf j a b.leaf (subst (λ z. slice_get (leaves_of_type p.structs z.ty) j ≡ Some b.leaf) same b.is_leaf) i
                (subst (λ z. place_of l z + b.leaf.at ≤ a) e b.from_there)
                (subst (λ z. a < place_of l z + b.leaf.at + scalar_size b.leaf.ty) e b.within),
          )
        where
          injected : {x y : PlainObject} → Some x ≡ Some y → x ≡ y
          injected e = cc
      by_object (inr other) =
          let place = there_is o b.object b.is_object in
          let at = place_is o place.0 place.1 in
          let inside = (leaf_at o j b.object b.leaf b.is_object b.is_leaf).inside in
          let low = b.from_there in
          let high = b.within in
          ⊎_elim (λ (x : a < place.0.offset). absurd (omega (arith, x, low, at)))
          (λ (x : place.0.offset + size_of_type p.structs b.object.ty ≤ a). absurd (omega (arith, x, high, inside, at)))
          (elsewhere o place.0.offset (size_of_type p.structs b.object.ty) a other
          (an_object o b.object place.0 b.is_object b.home place.1) i)

  off_stack : (a : ℕ) → IsIn base size a → (a < m.stack.first) ⊎ (end_of m.stack ≤ a)
  off_stack a i =
      let r = in_object a i in
      let low = r.0 in
      let high = r.1 in
      ⊎_elim (λ (x : q.object_place.offset + size_of_type p.structs object.ty ≤ m.stack.first). inl (omega (arith, high, x)))
      (λ (x : end_of m.stack ≤ q.object_place.offset). inr (omega (arith, low, x)))
      (d.stack point.object q.object_place.offset (size_of_type p.structs object.ty) names)

  pub alone : IsAlone p m l point
  alone = record {
    object = object;
    leaf = q.leaf;
    ty = q.ty;
    is_object = q.is_number.is_object;
    is_leaf = subst (λ (z : ℕ). slice_get (leaves_of_type p.structs object.ty) z ≡ Some q.leaf) (sym q.same_leaf) q.is_number.is_leaf;
    arithmetic = q.is_number.arithmetic;
    place = q.place ∙ ap (λ (z : ℕ). record { bank = DataBank; offset = z + q.leaf.at }) (sym own_place);
    signed = q.signed;
    bytes = q.bytes;
    some = own_leaf.scalar.some;
    high = let low = memory.0 in let at = own_place in omega (arith, low, at);
    low = let high = memory.1 in let inside = own_leaf.inside in let at = own_place in omega (arith, high, inside, at);
    own = no_own;
    alone = λ o j a space b i. let r = is_alone o j a space b i in (r.0, r.1 ∙ sym q.same_leaf);
    off = off_stack;
  }
