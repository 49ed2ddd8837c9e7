-- The homes are a layout.
use Rattle.std.proofs.Common.{◌≡◌, ◌≢◌, ℕ, zero, suc, ◌+◌, ◌-◌, ◌*◌, ◌<◌, ◌≤◌, ◌⊎◌, ⊎_elim, inl, inr, Bool, true}
use Rattle.std.proofs.Common.{false, ◌&&◌, List, [], ◌∷◌, Some, refl, sym, ap, ◌∙◌, subst, arith, leb-true}
use Rattle.std.specs.Prelude.{nat_le, if◌then◌else◌, slice_get}
use Rattle.std.specs.List.{AllByRecursion}
use Rattle.std.proofs.lemmas.Bool.{cases_Bool, cases_eq, cases_lt, and_parts}
use Rattle.std.proofs.lemmas.Nat.{mul-le}
use Rattle.ec_space.specs.declared.space.Bank.TheVariants.{Data as DataBank}
use Rattle.ec_asm.specs.declared.pieces.Location.TheVariants.{InRegisters, InMemory}
use Rattle.ec_asm.specs.Change.{Env, Own, Object}
use Rattle.ec_asm.specs.Pieces.{StandsFrom}
use Rattle.ec_asm.specs.PieceLaws.{IsReadFirst}
use Rattle.ec_core.specs.Layout.{PlainLeaf, size_of_type, leaves_of_type}
use Rattle.ec_core.specs.Plain.{PlainStorage, static, local, param, register, PlainObject}
use Rattle.ec_core.specs.TypeLaws.{LeavesFillTheirTypes}
use Rattle.ec_core.specs.Valid.{IsObject}
use Rattle.ec_ir.specs.declared.operations.Temp.{Temp}
use Rattle.ec_ir.specs.Operations.{PlainIrProgram, data_of}
use Rattle.ec_ir.specs.Valid.{ValidIr}
use Rattle.ec_select_operations.specs.declared.homes.Homes.{Homes}
use Rattle.ec_select_operations.specs.Homes.{depth, home, HasHome, result_register}
use Rattle.ec_select_operations.specs.Places.{location_in, kind_in, ObjectLeaf, CanBeLiveTogether, Apart, IsClear}
use Rattle.ec_select_operations.specs.Places.{AreDifferent, Layout}
use Rattle.ec_select_functions.specs.Standing.{home_address, ScratchStands, StandsInMemory, ObjectStands, ObjectsStand}

-- ---- a home is in registers or in scratch memory

pub record InRegister (h : Homes) (scratch : ℕ) (t : Temp) : Type 0 where
  pub location : home h t ≡ InRegisters (26 - depth h t)
  pub address : home_address h scratch t ≡ 26 - depth h t
  pub narrow : t.bytes ≤ h.width
  pub shallow : depth h t ≤ 12

pub record InScratch (h : Homes) (scratch : ℕ) (t : Temp) : Type 0 where
  pub location : home h t ≡ InMemory h.scratch (16 * t.at)
  pub address : home_address h scratch t ≡ scratch + 16 * t.at

pub kinds : (h : Homes) (scratch : ℕ) (t : Temp) → InRegister h scratch t ⊎ InScratch h scratch t
kinds h scratch t =
    ⊎_elim
    (λ q.
    let r = and_parts (nat_le t.bytes h.width) (nat_le (depth h t) 12) q in
    inl
    (record { location = rw q refl; address = rw q refl; narrow = leb-true t.bytes h.width r.0; shallow = leb-true (depth h t) 12 r.1 }))
    (λ q. inr (record { location = rw q refl; address = rw q refl }))
    (cases_Bool (nat_le t.bytes h.width && nat_le (depth h t) 12))

-- the depth of a place takes at least its own bytes
depth_some : (h : Homes) (t : Temp) → h.width ≤ depth h t
depth_some h t =
    let m : h.width * 1 ≤ h.width * (t.at + 1) = mul-le h.width 1 h.width (t.at + 1) (omega arith) (omega arith) in omega (arith, m)

depth_more : (h : Homes) (t u : Temp) → t.at < u.at → depth h t + h.width ≤ depth h u
depth_more h t u l =
    let m : h.width * (t.at + 1 + 1) ≤ h.width * (u.at + 1) =
    mul-le h.width (t.at + 1 + 1) h.width (u.at + 1) (omega arith) (omega arith) in
    omega (arith, m)

row_in : (t u : Temp) → t.at < u.at → 16 * t.at + 16 ≤ 16 * u.at
row_in t u l = omega arith

-- ---- ranges

below_apart : (a m b n : ℕ) → 1 ≤ m → a + m ≤ b → Apart a m b n
below_apart a m b n some l = record { left = λ q. l; right = λ q. absurd (omega arith) }

above_apart : (a m b n : ℕ) → 1 ≤ n → b + n ≤ a → Apart a m b n
above_apart a m b n some l = record { left = λ q. absurd (omega arith); right = λ q. l }

turned : (a m b n : ℕ) → 1 ≤ m → 1 ≤ n → Apart a m b n → Apart b n a m
turned a m b n sm sn x =
    ⊎_elim
    (λ (q : a < b). above_apart b n a m sm (x.left q))
    (λ (q : b ≤ a). below_apart b n a m sn (x.right q))
    (cases_lt a b)

-- parts of ranges that are apart
inner_apart : (a m b n i k j l : ℕ) → 1 ≤ k → 1 ≤ l → i + k ≤ m → j + l ≤ n → Apart a m b n
    → Apart (a + i) k (b + j) l
inner_apart a m b n i k j l sk sl p q x =
    ⊎_elim
    (λ (z : a < b). let w = x.left z in below_apart (a + i) k (b + j) l sk (omega arith))
    (λ (z : b ≤ a). let w = x.right z in above_apart (a + i) k (b + j) l sl (omega arith))
    (cases_lt a b)

-- ---- results

pub result_bounds : (n : ℕ) → (18 ≤ result_register n) × (result_register n ≤ 24)
result_bounds n = by_tests (nat_le n 2) (nat_le n 4)
  where
    by_tests : (a b : Bool) → (18 ≤ (if a then 24 else if b then 22 else 18)) × ((if a then 24 else if b then 22 else 18) ≤ 24)
    by_tests true b = (omega arith, omega arith)
    by_tests false true = (omega arith, omega arith)
    by_tests false false = (omega arith, omega arith)

pub result_ends : (n : ℕ) → n ≤ 8 → result_register n + n ≤ 26
result_ends n l = by_tests (nat_le n 2) (nat_le n 4) refl refl
  where
    by_tests : (a b : Bool) → nat_le n 2 ≡ a → nat_le n 4 ≡ b → (if a then 24 else if b then 22 else 18) + n ≤ 26
    by_tests true b q r = let z = leb-true n 2 q in omega arith
    by_tests false true q r = let z = leb-true n 4 r in omega arith
    by_tests false false q r = omega arith

-- the registers of a place and those of a result
in_order : (w a n : ℕ) → (w ≡ 2) ⊎ (w ≡ 4) → 1 ≤ n → n ≤ w → w * (a + 1) ≤ 12
    → IsReadFirst (26 - w * (a + 1)) (result_register n) n × IsReadFirst (result_register n) (26 - w * (a + 1)) n
in_order w a zero q some narrow shallow = absurd (omega arith)
in_order w a (suc zero) (inl q) some narrow shallow = (rw q (λ l. omega arith), rw q (λ l. absurd (omega arith)))
in_order w a (suc zero) (inr q) some narrow shallow = (rw q (λ l. omega arith), rw q (λ l. absurd (omega arith)))
in_order w a (suc (suc zero)) (inl q) some narrow shallow = (rw q (λ l. omega arith), rw q (λ l. absurd (omega arith)))
in_order w a (suc (suc zero)) (inr q) some narrow shallow = (rw q (λ l. omega arith), rw q (λ l. absurd (omega arith)))
in_order w a (suc (suc (suc zero))) (inl q) some narrow shallow = absurd (omega arith)
in_order w a (suc (suc (suc zero))) (inr q) some narrow shallow = (rw q (λ l. omega arith), rw q (λ l. absurd (omega arith)))
in_order w a (suc (suc (suc (suc zero)))) (inl q) some narrow shallow = absurd (omega arith)
in_order w a (suc (suc (suc (suc zero)))) (inr q) some narrow shallow = (rw q (λ l. omega arith), rw q (λ l. absurd (omega arith)))
in_order w a (suc (suc (suc (suc (suc n))))) (inl q) some narrow shallow = absurd (omega arith)
in_order w a (suc (suc (suc (suc (suc n))))) (inr q) some narrow shallow = absurd (omega arith)

-- ---- homes

module _ (e : Env) (slots : ℕ) (h : Homes) (scratch : ℕ) (s : ScratchStands e slots h scratch) where
  at_home : (t : Temp) → HasHome slots t → StandsFrom e (home h t) t.bytes (home_address h scratch t) Own
  at_home t it =
      let high = s.high in
      let within = it.within in
      let most = it.most in
      ⊎_elim
      (λ (r : InRegister h scratch t).
      let shallow = r.shallow in
      rw (r.location, r.address) (record { at = λ i l. refl; kind = λ i l. refl; clear = omega arith }))
      (λ (r : InScratch h scratch t).
      rw (r.location, r.address) (record {
        at = λ i l. s.at (16 * t.at + i) (omega arith) ∙ sym (joined i);
        kind = λ i l. subst (λ a. e.kind a ≡ Own) (sym (joined i)) (s.kind (16 * t.at + i) (omega arith));
        clear = omega arith;
      }))
      (kinds h scratch t)
    where
      joined : (i : ℕ) → scratch + 16 * t.at + i ≡ scratch + (16 * t.at + i)
      joined i = omega arith

  -- a home in registers ends below R26, and one in scratch memory is high
  pub ends_low : (t : Temp) → InRegister h scratch t → home_address h scratch t + t.bytes ≤ 26
  ends_low t r =
      let shallow = r.shallow in
      let narrow = r.narrow in
      let d = depth_some h t in
      rw (r.address) (omega (arith, d, narrow, shallow))

  pub starts_high : (t : Temp) → InScratch h scratch t → 256 ≤ home_address h scratch t
  starts_high t r = let high = s.high in rw (r.address) (omega arith)

  work_home : (t : Temp) → HasHome slots t → IsClear (home_address h scratch t) t.bytes
  work_home t it =
      ⊎_elim
      (λ (r : InRegister h scratch t).
      let z = ends_low t r in
      let shallow = r.shallow in
      let starts : 14 ≤ home_address h scratch t = rw (r.address) (omega arith) in
      record {
        low = above_apart (home_address h scratch t) t.bytes 8 6 (omega arith) starts;
        high = below_apart
            (home_address h scratch t) t.bytes 26 6 it.some z;
      })
      (λ (r : InScratch h scratch t).
      let z = starts_high t r in
      record {
        low = above_apart (home_address h scratch t) t.bytes 8 6 (omega arith) (omega arith);
        high = above_apart
            (home_address h scratch t) t.bytes 26 6 (omega arith) (omega arith);
      })
      (kinds h scratch t)

  -- registers and scratch memory are apart
  mixed : (t u : Temp) → HasHome slots t → InRegister h scratch t → InScratch h scratch u
      → Apart (home_address h scratch t) t.bytes (home_address h scratch u) u.bytes
  mixed t u it r q =
      let x = ends_low t r in
      let z = starts_high u q in
      below_apart (home_address h scratch t) t.bytes (home_address h scratch u) u.bytes it.some (omega arith)

  mixed_back : (t u : Temp) → HasHome slots u → InScratch h scratch t → InRegister h scratch u
      → Apart (home_address h scratch t) t.bytes (home_address h scratch u) u.bytes
  mixed_back t u iu q r =
      let x = ends_low u r in
      let z = starts_high t q in
      above_apart (home_address h scratch t) t.bytes (home_address h scratch u) u.bytes iu.some (omega arith)

  -- two places, the first of which is less deep
  ordered : (t u : Temp) → HasHome slots t → HasHome slots u → t.at < u.at
      → Apart (home_address h scratch t) t.bytes (home_address h scratch u) u.bytes
  ordered t u it iu l =
      ⊎_elim
      (λ (r : InRegister h scratch t).
      ⊎_elim
      (λ (q : InRegister h scratch u).
      let d = depth_more h t u l in
      let narrow = q.narrow in
      let shallow = q.shallow in
      let x : 26 - depth h u + u.bytes ≤ 26 - depth h t = omega (arith, d, narrow, shallow) in
      rw (r.address, q.address) (above_apart (26 - depth h t) t.bytes (26 - depth h u) u.bytes iu.some x))
      (λ (q : InScratch h scratch u). mixed t u it r q)
      (kinds h scratch u))
      (λ (r : InScratch h scratch t).
      ⊎_elim
      (λ (q : InRegister h scratch u). mixed_back t u iu r q)
      (λ (q : InScratch h scratch u).
      let most = it.most in
      rw (r.address, q.address) (below_apart (scratch + 16 * t.at) t.bytes (scratch + 16 * u.at) u.bytes it.some (omega arith)))
      (kinds h scratch u))
      (kinds h scratch t)

  apart_homes : (t u : Temp) → HasHome slots t → HasHome slots u → t.at ≢ u.at
      → Apart (home_address h scratch t) t.bytes (home_address h scratch u) u.bytes
  apart_homes t u it iu other =
      ⊎_elim
      (λ (l : t.at < u.at). ordered t u it iu l)
      (λ (l : u.at ≤ t.at). turned (home_address h scratch u) u.bytes (home_address h scratch t) t.bytes iu.some it.some
      (ordered u t iu it (omega arith)))
      (cases_lt t.at u.at)

  again_homes : (t u : Temp) → HasHome slots t → HasHome slots u → t.at ≡ u.at
      → (home_address h scratch t ≡ home_address h scratch u) ⊎ Apart (home_address h scratch t) t.bytes (home_address h scratch u) u.bytes
  again_homes t u it iu same =
      ⊎_elim
      (λ (r : InRegister h scratch t).
      ⊎_elim
      (λ (q : InRegister h scratch u). inl (r.address ∙ ap (λ a. 26 - h.width * (a + 1)) same ∙ sym q.address))
      (λ (q : InScratch h scratch u). inr (mixed t u it r q))
      (kinds h scratch u))
      (λ (r : InScratch h scratch t).
      ⊎_elim
      (λ (q : InRegister h scratch u). inr (mixed_back t u iu r q))
      (λ (q : InScratch h scratch u). inl (r.address ∙ ap (λ a. scratch + 16 * a) same ∙ sym q.address))
      (kinds h scratch u))
      (kinds h scratch t)

  -- where a home is read first, as a result is handed on, and where it is written last
  result_home : (t : Temp) → HasHome slots t → IsReadFirst (home_address h scratch t) (result_register t.bytes) t.bytes
  result_home t it =
      ⊎_elim
      (λ (r : InRegister h scratch t). rw (r.address) (in_order h.width t.at t.bytes s.width it.some r.narrow r.shallow).0)
      (λ (r : InScratch h scratch t). (λ l. let z = starts_high t r in let most = (result_bounds t.bytes).1 in absurd (omega arith)))
      (kinds h scratch t)

  taken_home : (t : Temp) → HasHome slots t → IsReadFirst (result_register t.bytes) (home_address h scratch t) t.bytes
  taken_home t it =
      ⊎_elim
      (λ (r : InRegister h scratch t). rw (r.address) (in_order h.width t.at t.bytes s.width it.some r.narrow r.shallow).1)
      (λ (r : InScratch h scratch t).
      (λ l. let z = starts_high t r in let most = (result_bounds t.bytes).1 in let few = it.most in omega arith))
      (kinds h scratch t)

-- ---- objects

item_of : {A : Type 0} (P : A → Type 0) (xs : List A) (k : ℕ) (x : A) → AllByRecursion P xs → slice_get xs k ≡ Some x → P x
item_of P [] zero x all q = absurd (cc)
item_of P [] (suc k) x all q = absurd (cc)
item_of P (z ∷ xs) zero x all q = (let g : Some z ≡ Some x = q in let i : z ≡ x = cc in subst P i all.0)
item_of P (z ∷ xs) (suc k) x all q = item_of P xs k x all.1 q

module _ (fill : LeavesFillTheirTypes) (cells : ℕ) (p : PlainIrProgram) (valid : ValidIr cells p) (e : Env) (slots : ℕ) (h : Homes)
    (scratch : ℕ) (place : ℕ → ℕ) (s : ScratchStands e slots h scratch) (o : ObjectsStand p e slots scratch place) where
  -- a leaf lies in its object
  pub record Lies (l : ObjectLeaf (data_of p) DataBank) : Type 0 where
    pub some : 1 ≤ l.bytes
    pub inside : l.at + l.bytes ≤ size_of_type p.structs l.declared.ty
    pub next : (j : ℕ) (after : PlainLeaf) → l.number < j → slice_get (leaves_of_type p.structs l.declared.ty) j ≡ Some after
        → l.at + l.bytes ≤ after.at

  pub lies : (l : ObjectLeaf (data_of p) DataBank) → Lies l
  lies l =
      let d : IsObject (data_of p) l.declared = item_of (IsObject (data_of p)) p.objects l.object l.declared valid.objects l.is_object in
      let f = fill.types p.structs l.declared.ty valid.structs d.ty in
      let k = f.each l.number (record { ty = l.ty; at = l.at }) l.is_leaf in
      record {
        some = subst (λ (n : ℕ). 1 ≤ n) l.size k.scalar.some;
        inside = subst (λ (n : ℕ). l.at + n ≤ size_of_type p.structs l.declared.ty) l.size k.inside;
        next = λ j after x y. subst (λ (n : ℕ). l.at + n ≤ after.at) l.size (k.apart j after x y);
      }

  in_memory : (object n at bytes a : ℕ) → at + bytes ≤ n → StandsInMemory e object n a
      → StandsFrom e (InMemory object at) bytes (a + at) Object
  in_memory object n at bytes a l x =
      let high = x.high in
      record {
        at = λ i q. x.at (at + i) (omega arith) ∙ sym (joined i);
        kind = λ i q. subst (λ b. e.kind b ≡ Object) (sym (joined i)) (x.kind (at + i) (omega arith));
        clear = omega arith;
      }
    where
      joined : (i : ℕ) → a + at + i ≡ a + (at + i)
      joined i = omega arith

  stands : (storage : PlainStorage) (object n at bytes a : ℕ) → at + bytes ≤ n → ObjectStands e object n a storage
      → StandsFrom e (location_in storage object at) bytes (a + at) (kind_in storage)
  stands (static inits) object n at bytes a l x = in_memory object n at bytes a l x
  stands (local g) object n at bytes a l x = in_memory object n at bytes a l x
  stands (param g) object n at bytes a l x = in_memory object n at bytes a l x
  stands (register first) object n at bytes a l x =
      let q : a ≡ first = x.0 in
      let low = x.1 in
      record { at = λ i z. ap (λ b. b + at + i) (sym q); kind = λ i z. refl; clear = omega arith }

  -- an object in registers ends below R8, and any other is high
  in_place : (storage : PlainStorage) (object n a : ℕ) → ObjectStands e object n a storage → (a + n ≤ 8) ⊎ (256 ≤ a)
  in_place (static inits) object n a x = inr x.high
  in_place (local g) object n a x = inr x.high
  in_place (param g) object n a x = inr x.high
  in_place (register first) object n a x = let q = x.0 in let l = x.2 in inl (omega arith)

  abbrev pub leaf_address : ObjectLeaf (data_of p) DataBank → ℕ
  leaf_address l = place l.object + l.at

  object_of : (l : ObjectLeaf (data_of p) DataBank) → ObjectStands e l.object (size_of_type p.structs l.declared.ty) (place l.object)
      l.declared.storage
  object_of l = o.each l.object l.declared l.is_object l.home

  work_leaf : (l : ObjectLeaf (data_of p) DataBank) → IsClear (leaf_address l) l.bytes
  work_leaf l =
      let inside = (lies l).inside in
      let some = (lies l).some in
      ⊎_elim
      (λ
      (x : place l.object + size_of_type p.structs l.declared.ty ≤ 8). record {
        low = below_apart (leaf_address l) l.bytes 8 6 some
            (omega arith);
        high = below_apart (leaf_address l) l.bytes 26 6 some (omega arith);
      })
      (λ
      (x : 256 ≤ place l.object). record {
        low = above_apart (leaf_address l) l.bytes 8 6 (omega arith) (omega arith);
        high = above_apart
            (leaf_address l) l.bytes 26 6 (omega arith) (omega arith);
      })
      (in_place l.declared.storage l.object _ (place l.object) (object_of l))

  -- a leaf stands in the registers of named objects, or outside registers and ports
  pub leaf_where : (l : ObjectLeaf (data_of p) DataBank) → (leaf_address l + l.bytes ≤ 8) ⊎ (256 ≤ leaf_address l)
  leaf_where l =
      let inside = (lies l).inside in
      ⊎_elim
      (λ (x : place l.object + size_of_type p.structs l.declared.ty ≤ 8). inl (omega arith))
      (λ (x : 256 ≤ place l.object). inr (omega arith))
      (in_place l.declared.storage l.object _ (place l.object) (object_of l))

  leaf_home : (l : ObjectLeaf (data_of p) DataBank) (t : Temp) → HasHome slots t
      → Apart (leaf_address l) l.bytes (home_address h scratch t) t.bytes
  leaf_home l t it =
      let inside = (lies l).inside in
      let some = (lies l).some in
      let size = size_of_type p.structs l.declared.ty in
      ⊎_elim
      (λ (r : InRegister h scratch t).
      let z = ends_low e slots h scratch s t r in
      let shallow = r.shallow in
      ⊎_elim
      (λ (x : place l.object + size ≤ 8). rw (r.address) (below_apart (leaf_address l) l.bytes (26 - depth h t) t.bytes some (omega arith)))
      (λ (x : 256 ≤ place l.object). above_apart (leaf_address l) l.bytes (home_address h scratch t) t.bytes it.some (omega arith))
      (in_place l.declared.storage l.object size (place l.object) (object_of l)))
      (λ (r : InScratch h scratch t).
      let within = it.within in
      let most = it.most in
      rw (r.address) (inner_apart (place l.object) size scratch (16 * slots) l.at l.bytes (16 * t.at) t.bytes some it.some inside
      (omega arith) (o.scratch_apart l.object l.declared l.is_object l.home)))
      (kinds h scratch t)

  leaves_apart : (l k : ObjectLeaf (data_of p) DataBank) → AreDifferent (data_of p) l k
      → CanBeLiveTogether p l.declared.storage k.declared.storage
      → Apart (leaf_address l) l.bytes (leaf_address k) k.bytes
  leaves_apart l k different both =
      ⊎_elim
      (λ (same : l.object ≡ k.object). ⊎_elim (λ q. absurd (q same)) (λ q. in_one same q) different)
      (λ (other : l.object ≢ k.object). inner_apart (place l.object) (size_of_type p.structs l.declared.ty) (place k.object)
      (size_of_type p.structs k.declared.ty) l.at l.bytes k.at k.bytes (lies l).some (lies k).some (lies l).inside (lies k).inside
      (o.apart l.object k.object l.declared k.declared l.is_object l.home k.is_object k.home other both))
      (cases_eq l.object k.object)
    where
      in_one : l.object ≡ k.object → l.number ≢ k.number → Apart (leaf_address l) l.bytes (leaf_address k) k.bytes
      in_one same q =
          let a : slice_get p.objects k.object ≡ Some l.declared = subst (λ i. slice_get p.objects i ≡ Some l.declared) same l.is_object in
          let b : Some l.declared ≡ Some k.declared = sym a ∙ k.is_object in
          let d : l.declared ≡ k.declared = cc in
          let first : PlainLeaf = record { ty = l.ty; at = l.at } in
          let second : PlainLeaf = record { ty = k.ty; at = k.at } in
          let places : place l.object ≡ place k.object = ap place same in
          ⊎_elim
          (λ (z : l.number < k.number).
          let there : slice_get (leaves_of_type p.structs l.declared.ty) k.number ≡ Some second =
          subst (λ (i : PlainObject). slice_get (leaves_of_type p.structs i.ty) k.number ≡ Some second) (sym d) k.is_leaf in
          let x : l.at + l.bytes ≤ k.at = (lies l).next k.number second z there in
          below_apart (leaf_address l) l.bytes (leaf_address k) k.bytes (lies l).some (omega arith))
          (λ (z : k.number ≤ l.number).
          let there : slice_get (leaves_of_type p.structs k.declared.ty) l.number ≡ Some first =
          subst (λ (i : PlainObject). slice_get (leaves_of_type p.structs i.ty) l.number ≡ Some first) d l.is_leaf in
          let x : k.at + k.bytes ≤ l.at = (lies k).next l.number first (omega arith) there in
          above_apart (leaf_address l) l.bytes (leaf_address k) k.bytes (lies k).some (omega arith))
          (cases_lt l.number k.number)

  pub homes_are_laid_out : Layout (data_of p) (CanBeLiveTogether p) e slots (home h) (home_address h scratch) place
  homes_are_laid_out = record {
    temps_at = at_home e slots h scratch s;
    temps_work = work_home e slots h scratch s;
    temps_apart = apart_homes e slots h scratch s;
    temps_again = again_homes e slots h scratch s;
    temps_result = result_home e slots h scratch s;
    temps_taken = taken_home e slots h scratch s;
    leaves_at = λ l. stands l.declared.storage l.object (size_of_type p.structs l.declared.ty) l.at l.bytes (place l.object)
        (lies l).inside (object_of l);
    leaves_work = work_leaf;
    leaves_apart = leaves_apart;
    temp_leaf = λ t l it. turned (leaf_address l) l.bytes (home_address h scratch t) t.bytes (lies l).some it.some (leaf_home l t it);
    leaf_temp = leaf_home;
  }
