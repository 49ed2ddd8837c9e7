-- Accesses through pointers: what the code brings, and what comes of the operation.
use Rattle.std.proofs.Common.{◌≡◌, ℕ, zero, suc, ◌+◌, ◌*◌, ◌%◌, ◌<◌, ◌≤◌, Bool, true, false, Ok, Err}
use Rattle.std.proofs.Common.{⊎_elim, refl, sym, ap, ◌∙◌, subst, arith, Some, None, Option, List}
use Rattle.std.specs.Prelude.{Result, ◌==◌, ◌&&◌, ◌||◌, if◌then◌else◌, [], ◌∷◌, slice_get, option_map, option_and_then}
use Rattle.std.proofs.lemmas.Bool.{cases_lt, eqb-true, and_parts}
use Rattle.ec_space.specs.declared.Core.{Core}
use Rattle.ec_space.specs.declared.Core.TheVariants.{Small, Large}
use Rattle.ec_space.specs.declared.space.Bank.{Bank}
use Rattle.ec_space.specs.declared.space.Bank.TheVariants.{Flash as FlashBank, Data as DataBank}
use Rattle.ec_space.specs.declared.space.Home.{Home}
use Rattle.ec_space.specs.declared.space.Home.TheVariants.{Flash as FlashHome, Far as FarHome, Data as DataHome}
use Rattle.ec_space.specs.declared.space.SpaceId.{SpaceId}
use Rattle.ec_space.specs.declared.space.SpaceId.TheVariants.{Flash, FarFlash, Data, Generic}
use Rattle.ec_space.specs.Spaces.{bank_of, holds, reaches}
use Rattle.ec_avr.specs.declared.machine.Access.TheVariants.{Read as ByteRead, Write as ByteWrite}
use Rattle.ec_asm.specs.declared.items.AsmItem.{AsmItem}
use Rattle.ec_asm.specs.declared.pieces.Location.{Location}
use Rattle.ec_asm.specs.View.{View}
use Rattle.ec_asm.specs.Change.{Env, Own, Object}
use Rattle.ec_asm.specs.Items.{HasAt, block, code_steps}
use Rattle.ec_asm.specs.Pieces.{StandsFrom, value}
use Rattle.ec_asm.specs.PieceLaws.{IsReadFirst}
use Rattle.ec_asm.proofs.Hoare.{block_goes}
use Rattle.ec_core.specs.declared.values.ObjectPointer.{ObjectPointer}
use Rattle.ec_core.specs.declared.values.Undefined.{Undefined}
use Rattle.ec_core.specs.declared.values.Undefined.TheVariants.{ConstWrite, Unset}
use Rattle.ec_core.specs.declared.values.Value.{Value}
use Rattle.ec_core.specs.Accesses.{Access, read, read_value, is_readable, is_read_only, leaf_of}
use Rattle.ec_core.specs.Layout.{scalar_size, size_of_type, leaves_of_type}
use Rattle.ec_core.specs.Plain.{void, PlainObject, PlainProgram}
use Rattle.ec_core.specs.Pointers.{Pointer as PointerValue}
use Rattle.ec_core.specs.State.{State, ObjectState, Outcome, got, undefined, next, given}
use Rattle.ec_core.specs.Valid.{IsAddressable}
use Rattle.ec_core.proofs.Homes.{home_reached, home_in_data}
use Rattle.ec_ir.specs.declared.operations.Temp.{Temp}
use Rattle.ec_ir.specs.Meaning.{held_as, pointer_in, held_pointer, pointer_access, access_at}
use Rattle.ec_ir.specs.Meaning.{accessed_type, is_access_of, leaf_from, put, put_leaf}
use Rattle.ec_ir.specs.Temporaries.{Content, bits, points, value_of_type, Held, Temps, held}
use Rattle.ec_select_pointers.specs.Accesses.{load_data_code, load_flash_code, load_any_code, store_data_code}
use Rattle.ec_select_pointers.specs.Accesses.{load_table_code}
use Rattle.ec_select_pointers.specs.AccessLaws.{each, Brings, RunBrings, LeavesZ, AreData, AreFlash, HasPointer}
use Rattle.ec_select_pointers.specs.Far.{load_far_code, load_far_table_code, load_any_far_code}
use Rattle.ec_select_pointers.specs.FarLaws.{HasPage, AreFarFlash}
use Rattle.ec_select_operations.specs.Code.{load_either_code, load_code, banked_code}
use Rattle.ec_select_functions.specs.Covered.{IsInto}
use Rattle.ec_select_operations.specs.Homes.{HasHome}
use Rattle.ec_select_operations.specs.Needs.{loaded_bytes}
use Rattle.ec_select_operations.specs.Places.{ObjectLeaf, IsClear}
use Rattle.ec_select_operations.specs.Pointers.{is_table, has_tables, IsPointed}
use Rattle.ec_select_functions.specs.Standing.{address_end}
use Rattle.ec_select_functions.proofs.Accesses.{leaf_found, bytes_of, leaf_inside}
use Rattle.ec_select_functions.proofs.Accesses.{after_read, after_write}
use Rattle.ec_select_functions.proofs.Follow.{Follows, from_held, from_nothing, next_next, held_is}
use Rattle.ec_select_functions.proofs.Moves.{stands_less}
use Rattle.ec_select_functions.proofs.Pointed.{IsAddressedBy, stands_in_memory, room_of}
use Rattle.ec_select_functions.proofs.PointerNumbers.{small_end, near_end, greatest_end}
use Rattle.ec_select_functions.proofs.Wrapped.{kept_below}
use Rattle.ec_select_functions.proofs.Setting.{Setting}

-- bytes of a temporary leave R30 and R31 alone
pub leaves_z : (a n m : ℕ) → m ≤ n → IsClear a n → LeavesZ a m
leaves_z a n m l clear = record {
  low = λ q. outside 30 (omega arith) (omega arith) q;
  high = λ q. outside 31 (omega arith) (omega arith) q;
}
  where
    outside : (k : ℕ) → 26 ≤ k → k < 32 → a ≤ k → a + m ≤ k
    outside k high low q =
        ⊎_elim (λ (r : a < 26). let z = clear.high.left r in omega arith)
        (λ (r : 26 ≤ a). let z = clear.high.right r in absurd (omega arith)) (cases_lt a 26)

-- an object in the flash bank is a table of the program
table_home : (home : Home) → bank_of home ≡ FlashBank → is_table home ≡ true
table_home FlashHome h = refl
table_home FarHome h = refl
table_home DataHome h = cc

pub table_among : (objects : List PlainObject) (o : ℕ) (d : PlainObject) (bank : Bank) → slice_get objects o ≡ Some d
    → bank_of d.home ≡ bank → bank ≡ FlashBank → has_tables objects ≡ true
table_among [] o d bank is kept flash = absurd (cc)
table_among (x ∷ xs) zero d bank is kept flash =
    let same : x ≡ d = cc in
    let table : is_table x.home ≡ true = table_home x.home (ap (λ y. bank_of y.home) same ∙ kept ∙ flash) in
    rw table refl
table_among (x ∷ xs) (suc o) d bank is kept flash = one_of (is_table x.home) (table_among xs o d bank is kept flash) where
  one_of : (b : Bool) → has_tables xs ≡ true → (b || has_tables xs) ≡ true
  one_of true more = refl
  one_of false more = more

-- what stands in the flash bank is not written
in_flash : (home : Home) → bank_of home ≡ FlashBank → is_read_only home ≡ true
in_flash FlashHome h = refl
in_flash FarHome h = refl
in_flash DataHome h = cc

module _ (p : PlainProgram) (e : Env) (slots : ℕ) (home : Temp → Location) (base : Temp → ℕ) (place : ℕ → ℕ)
    (y : Setting p e slots home base place) where
  -- ---- where the bytes of a leaf are

  reached : (a b i : ℕ) → a + b + i ≡ a + (b + i)
  reached a b i = omega arith

  data_there : (l : ObjectLeaf p DataBank) → IsAddressable l.declared.storage → AreData e (place l.object + l.at) l.bytes
  data_there l k =
      let n = size_of_type p.structs l.declared.ty in
      let s =
      stands_in_memory e l.object n (place l.object) l.declared.storage k
      (y.objects_stand l.object l.declared l.is_object l.home) in
      let inside = leaf_inside p e slots home base place y DataBank l in
      let high = s.high in
      let end = s.end in
      record {
        above = omega (arith, high);
        room = omega (arith, end, inside);
        kind = λ i q. subst (λ b. e.kind b ≡ Object) (sym (reached (place l.object) l.at i)) (s.kind (l.at + i) (omega (arith, inside, q)));
      }

  -- n bytes of an object with a home, in the flash bank
  pub record AreInFlash (kept : Home) (from n : ℕ) : Type 0 where
    pub end : from + n < address_end e.core kept
    pub kind : (i : ℕ) → i < n → e.table (from + i) ≡ Object

  table_there : (l : ObjectLeaf p FlashBank) → AreInFlash l.declared.home (place l.object + l.at) l.bytes
  table_there l =
      let s = y.tables_stand.each l.object l.declared l.is_object l.home in
      let inside = leaf_inside p e slots home base place y FlashBank l in
      let end = s.end in
      record {
        end = omega (arith, end, inside);
        kind = λ i q. subst (λ b. e.table b ≡ Object) (sym (reached (place l.object) l.at i))
            (s.kind (l.at + i) (omega (arith, inside, q)));
      }

  -- which two bytes tell, or three
  pub near_flash : (kept : Home) (from n : ℕ) → address_end e.core kept ≡ 65536 → AreInFlash kept from n → AreFlash e from n
  near_flash kept from n low there =
      let end = there.end in
      record { room = omega (arith, low, end); kind = there.kind }

  far_flash : (kept : Home) (from n : ℕ) → AreInFlash kept from n → AreFarFlash e from n
  far_flash kept from n there =
      let end = there.end in
      let most = greatest_end e.core kept in
      record { room = omega (arith, most, end); kind = there.kind }

  -- code may write RAMPZ
  has_page : e.core ≡ Large → HasPage e
  has_page large = record { core = large; kind = y.page large }

  -- ---- loads through a pointer

  -- what a load from a place brings to a temporary
  abbrev pub Loads : (bank : Bank) → (from pc mid : ℕ) → View → Temp → Type 0
  Loads bank from pc mid v to =
      RunBrings e 1 (6 + 2 * to.bytes) pc v mid (base to) to.bytes (λ i. bytes_of p e slots home base place y bank v (from + i))
      (each (ByteRead bank) from (λ i. bytes_of p e slots home base place y bank v (from + i)) to.bytes)

  has_pointer : (ptr t : Temp) (m : ℕ) → HasHome slots ptr → HasHome slots t → m ≤ ptr.bytes
      → HasPointer e (home ptr) m (base ptr) (home t) t.bytes (base t)
  has_pointer ptr t m ip it l = record {
    pointer = stands_less e (home ptr) ptr.bytes m (base ptr) Own l (y.layout.temps_at ptr ip);
    number = y.layout.temps_at t it;
    pointer_leaves = leaves_z (base ptr) ptr.bytes m l (y.layout.temps_work ptr ip);
    number_leaves = leaves_z (base t) t.bytes t.bytes (omega arith) (y.layout.temps_work t it);
  }

  -- from an address in a pointer
  loads_data : (ptr to : Temp) (from pc mid : ℕ) (v : View) → HasHome slots ptr → HasHome slots to → 2 ≤ ptr.bytes
      → value v.at (base ptr) 2 ≡ from → AreData e from to.bytes → IsReadFirst from (base to) to.bytes
      → HasAt e (load_data_code (home ptr) (home to) to.bytes) pc mid → Loads DataBank from pc mid v to
  loads_data ptr to from pc mid v ip it two low there far stands =
      let n = to.bytes in
      let code = load_data_code (home ptr) (home to) n in
      let done =
      λ (z : ℕ). AreData e z n → IsReadFirst z (base to) n
      → Brings v (base to) n (λ i. v.at (z + i)) (each (ByteRead DataBank) z (λ i. v.at (z + i)) n) (block e code v) in
      let brings =
      subst done low
      (y.pointers.from_data e (home ptr) (home to) n (base ptr) (base to) v (has_pointer ptr to 2 ip it two)) there far in
      let straight = (y.pointers.straight 0 0 None (home ptr) (home to) n).2 in
      let take = (y.pointers.take 0 0 None (home ptr) (home to) n).2 in
      record {
        steps = code_steps code;
        at_least = omega (arith, take.0);
        at_most = omega (arith, take.1);
        last = block e code v;
        goes = block_goes e code pc mid v straight stands;
        brings = brings;
      }

  loads_flash : (ptr to : Temp) (from pc mid : ℕ) (v : View) → HasHome slots ptr → HasHome slots to → 2 ≤ ptr.bytes
      → value v.at (base ptr) 2 ≡ from → AreFlash e from to.bytes
      → HasAt e (load_flash_code (home ptr) (home to) to.bytes) pc mid → Loads FlashBank from pc mid v to
  loads_flash ptr to from pc mid v ip it two low there stands =
      let n = to.bytes in
      let code = load_flash_code (home ptr) (home to) n in
      let byte = λ (z i : ℕ). bytes_of p e slots home base place y FlashBank v (z + i) in
      let done = λ (z : ℕ). AreFlash e z n → Brings v (base to) n (byte z) (each (ByteRead FlashBank) z (byte z) n) (block e code v) in
      let brings =
      subst done low (y.pointers.from_flash e (home ptr) (home to) n (base ptr) (base to) v (has_pointer ptr to 2 ip it two)) there in
      let straight = (y.pointers.straight 0 0 None (home ptr) (home to) n).3 in
      let take = (y.pointers.take 0 0 None (home ptr) (home to) n).3 in
      record {
        steps = code_steps code;
        at_least = omega (arith, take.0);
        at_most = omega (arith, take.1);
        last = block e code v;
        goes = block_goes e code pc mid v straight stands;
        brings = brings;
      }

  loads_far : (ptr to : Temp) (from pc mid : ℕ) (v : View) → e.core ≡ Large → HasHome slots ptr → HasHome slots to → 3 ≤ ptr.bytes
      → value v.at (base ptr) 3 ≡ from → AreFarFlash e from to.bytes
      → HasAt e (load_far_code (home ptr) (home to) to.bytes) pc mid → Loads FlashBank from pc mid v to
  loads_far ptr to from pc mid v large ip it three whole there stands =
      let n = to.bytes in
      let code = load_far_code (home ptr) (home to) n in
      let byte = λ (z i : ℕ). bytes_of p e slots home base place y FlashBank v (z + i) in
      let done = λ (z : ℕ). AreFarFlash e z n → Brings v (base to) n (byte z) (each (ByteRead FlashBank) z (byte z) n) (block e code v) in
      let brings =
      subst done whole
      (y.pointers.far.from_flash e (home ptr) (home to) n (base ptr) (base to) v (has_page large) (has_pointer ptr to 3 ip it three))
      there in
      let straight = (y.pointers.far.straight 0 0 (home ptr) (home to) n).2 in
      let take = (y.pointers.far.take 0 0 (home ptr) (home to) n).2 in
      record {
        steps = code_steps code;
        at_least = omega (arith, take.0);
        at_most = omega (arith, take.1);
        last = block e code v;
        goes = block_goes e code pc mid v straight stands;
        brings = brings;
      }

  -- the bytes of an object with a home, from which a temporary's may be brought
  abbrev pub IsThere : Bank → Home → (from b n : ℕ) → Type 0
  IsThere FlashBank kept from b n = AreInFlash kept from n
  IsThere DataBank kept from b n = AreData e from n × IsReadFirst from b n

  pub leaf_there : (bank : Bank) (l : ObjectLeaf p bank) (to : Temp) → IsAddressable l.declared.storage → HasHome slots to
      → l.bytes ≡ to.bytes → IsThere bank l.declared.home (place l.object + l.at) (base to) to.bytes
  leaf_there FlashBank l to k it size =
      subst (λ (n : ℕ). AreInFlash l.declared.home (place l.object + l.at) n) size (table_there l)
  leaf_there DataBank l to k it size =
      let far : IsReadFirst (place l.object + l.at) (base to) l.bytes = λ r. (y.layout.leaf_temp l to it).left r in
      subst (λ (n : ℕ). AreData e (place l.object + l.at) n × IsReadFirst (place l.object + l.at) (base to) n) size (data_there l k, far)

  -- the low two bytes of an address that has no more
  low_is : (x from n : ℕ) → x ≡ from % 65536 → from + n ≤ 65536 → 1 ≤ n → x ≡ from
  low_is x from n q l some = q ∙ kept_below from 65536 (omega (arith, l, some))

  -- from the bank that the tag tells
  loads_by_tag : (bank : Bank) (kept : Home) (ptr to : Temp) (from pc mid : ℕ) (v : View) → e.core ≡ Small → HasHome slots ptr
      → HasHome slots to → ptr.bytes ≡ 3 → IsAddressedBy v.at (base ptr) ptr.bytes from bank → IsThere bank kept from (base to) to.bytes
      → HasAt e (load_any_code (home ptr) (home to) to.bytes) pc mid → Loads bank from pc mid v to
  loads_by_tag FlashBank kept ptr to from pc mid v small ip it three a there stands =
      let n = to.bytes in
      let near = near_flash kept from n (small_end e.core kept small) there in
      let room = near.room in
      let some = it.some in
      let low = low_is (value v.at (base ptr) 2) from n a.low room some in
      let whole = a.whole three in
      let tag : v.at (base ptr + 2) ≡ 0 = omega (arith, whole, low) in
      let byte = λ (z i : ℕ). bytes_of p e slots home base place y FlashBank v (z + i) in
      let done =
      λ (z : ℕ). AreFlash e z n
      → RunBrings e (3 + n) (5 + 2 * n) pc v mid (base to) n (byte z) (each (ByteRead FlashBank) z (byte z) n) in
      let r =
      subst done low
      (y.pointers.from_flash_by_tag e (home ptr) (home to) n (base ptr) (base to) pc mid v
      (has_pointer ptr to 3 ip it (omega (arith, three))) stands tag) near in
      record {
        steps = r.steps;
        at_least = (let few = r.at_least in omega arith);
        at_most = (let most = r.at_most in omega (arith, most));
        last = r.last;
        goes = r.goes;
        brings = r.brings;
      }
  loads_by_tag DataBank kept ptr to from pc mid v small ip it three a there stands =
      let n = to.bytes in
      let room = there.0.room in
      let some = it.some in
      let low = low_is (value v.at (base ptr) 2) from n a.low room some in
      let whole = a.whole three in
      let tag : v.at (base ptr + 2) ≡ 0x80 = omega (arith, whole, low) in
      let byte = λ (z i : ℕ). v.at (z + i) in
      let done =
      λ (z : ℕ). AreData e z n → IsReadFirst z (base to) n
      → RunBrings e (3 + n) (5 + 2 * n) pc v mid (base to) n (byte z) (each (ByteRead DataBank) z (byte z) n) in
      let r =
      subst done low
      (y.pointers.from_data_by_tag e (home ptr) (home to) n (base ptr) (base to) pc mid v
      (has_pointer ptr to 3 ip it (omega (arith, three))) stands tag) there.0 there.1 in
      record {
        steps = r.steps;
        at_least = (let few = r.at_least in omega arith);
        at_most = (let most = r.at_most in omega (arith, most));
        last = r.last;
        goes = r.goes;
        brings = r.brings;
      }

  -- from the bank that the top bit tells
  loads_by_top : (bank : Bank) (kept : Home) (ptr to : Temp) (from pc mid : ℕ) (v : View) → e.core ≡ Large → HasHome slots ptr
      → HasHome slots to → ptr.bytes ≡ 3 → IsAddressedBy v.at (base ptr) ptr.bytes from bank
      → IsThere bank kept from (base to) to.bytes
      → HasAt e (load_any_far_code (home ptr) (home to) to.bytes) pc mid → Loads bank from pc mid v to
  loads_by_top FlashBank kept ptr to from pc mid v large ip it three a there stands =
      let n = to.bytes in
      let end = there.end in
      let most = greatest_end e.core kept in
      let whole = a.whole three in
      let is : value v.at (base ptr) 3 ≡ from = omega (arith, whole) in
      let top : v.at (base ptr + 2) < 0x80 = omega (arith, is, end, most) in
      let byte = λ (z i : ℕ). bytes_of p e slots home base place y FlashBank v (z + i) in
      let done =
      λ (z : ℕ). AreFarFlash e z n
      → RunBrings e (4 + n) (6 + 2 * n) pc v mid (base to) n (byte z) (each (ByteRead FlashBank) z (byte z) n) in
      let r =
      subst done is
      (y.pointers.far.from_flash_by_top e (home ptr) (home to) n (base ptr) (base to) pc mid v (has_page large)
      (has_pointer ptr to 3 ip it (omega (arith, three))) stands top) (far_flash kept from n there) in
      record {
        steps = r.steps;
        at_least = (let few = r.at_least in omega arith);
        at_most = r.at_most;
        last = r.last;
        goes = r.goes;
        brings = r.brings;
      }
  loads_by_top DataBank kept ptr to from pc mid v large ip it three a there stands =
      let n = to.bytes in
      let room = there.0.room in
      let some = it.some in
      let low = low_is (value v.at (base ptr) 2) from n a.low room some in
      let whole = a.whole three in
      let tag : v.at (base ptr + 2) ≡ 0x80 = omega (arith, whole, low) in
      let byte = λ (z i : ℕ). v.at (z + i) in
      let done =
      λ (z : ℕ). AreData e z n → IsReadFirst z (base to) n
      → RunBrings e (4 + n) (6 + 2 * n) pc v mid (base to) n (byte z) (each (ByteRead DataBank) z (byte z) n) in
      let r =
      subst done low
      (y.pointers.far.from_data_by_top e (home ptr) (home to) n (base ptr) (base to) pc mid v (has_page large)
      (has_pointer ptr to 3 ip it (omega (arith, three))) stands tag) there.0 there.1 in
      record {
        steps = r.steps;
        at_least = (let few = r.at_least in omega arith);
        at_most = r.at_most;
        last = r.last;
        goes = r.goes;
        brings = r.brings;
      }

  -- by two bytes, where an address of the home has no more
  loads_near : (kept : Home) (ptr to : Temp) (from pc mid : ℕ) (v : View) → address_end e.core kept ≡ 65536 → HasHome slots ptr
      → HasHome slots to → 2 ≤ ptr.bytes → IsAddressedBy v.at (base ptr) ptr.bytes from FlashBank → AreInFlash kept from to.bytes
      → HasAt e (load_flash_code (home ptr) (home to) to.bytes) pc mid → Loads FlashBank from pc mid v to
  loads_near kept ptr to from pc mid v end ip it two a there stands =
      let near = near_flash kept from to.bytes end there in
      loads_flash ptr to from pc mid v ip it two (low_is (value v.at (base ptr) 2) from to.bytes a.low near.room it.some) near stands

  -- from the data bank by the low two bytes
  loads_by_low : (ptr to : Temp) (from pc mid : ℕ) (v : View) → HasHome slots ptr → HasHome slots to → 2 ≤ ptr.bytes
      → value v.at (base ptr) 2 ≡ from % 65536 → AreData e from to.bytes → IsReadFirst from (base to) to.bytes
      → HasAt e (load_data_code (home ptr) (home to) to.bytes) pc mid → Loads DataBank from pc mid v to
  loads_by_low ptr to from pc mid v ip it two low there far stands =
      loads_data ptr to from pc mid v ip it two (low_is (value v.at (base ptr) 2) from to.bytes low there.room it.some) there far stands

  -- from the bank that a pointer of three bytes tells, where some object stands in flash; else it is the data bank
  loads_either : (core : Core) (tables : Bool) (bank : Bank) (kept : Home) (ptr to : Temp) (from pc mid : ℕ) (v : View)
      → e.core ≡ core → (bank ≡ FlashBank → tables ≡ true) → HasHome slots ptr → HasHome slots to → ptr.bytes ≡ 3
      → IsAddressedBy v.at (base ptr) (loaded_bytes Generic tables ptr.bytes) from bank → IsThere bank kept from (base to) to.bytes
      → HasAt e (load_either_code core tables (home ptr) (home to) to.bytes) pc mid → Loads bank from pc mid v to
  loads_either Small true bank kept ptr to from pc mid v same t ip it three a there stands =
      loads_by_tag bank kept ptr to from pc mid v same ip it three a there stands
  loads_either Large true bank kept ptr to from pc mid v same t ip it three a there stands =
      loads_by_top bank kept ptr to from pc mid v same ip it three a there stands
  loads_either core false FlashBank kept ptr to from pc mid v same t ip it three a there stands =
      let no : false ≡ true = t refl in absurd (cc)
  loads_either core false DataBank kept ptr to from pc mid v same t ip it three a there stands =
      loads_by_low ptr to from pc mid v ip it (omega (arith, three)) a.low there.0 there.1 stands

  -- through a pointer into a space, which holds the home. One into flash is there only with a table
  pub loads : (core : Core) (tables : Bool) (space : SpaceId) (bank : Bank) (kept : Home) (ptr to : Temp) (from pc mid : ℕ) (v : View)
      → e.core ≡ core → (bank ≡ FlashBank → tables ≡ true) → reaches space bank ≡ true → holds space kept ≡ true
      → IsInto slots space ptr → HasHome slots to → IsAddressedBy v.at (base ptr) (loaded_bytes space tables ptr.bytes) from bank
      → IsThere bank kept from (base to) to.bytes → HasAt e (load_code core tables space (home ptr) (home to) to.bytes) pc mid
      → Loads bank from pc mid v to
  loads core tables Flash FlashBank kept ptr to from pc mid v same t h held into it a there stands =
      let q = into.1 in
      loads_near kept ptr to from pc mid v (near_end e.core Flash kept refl held) into.0 it (omega (arith, q)) a there stands
  loads core tables Flash DataBank kept ptr to from pc mid v same t h held into it a there stands = absurd (cc)
  loads Small tables FarFlash FlashBank kept ptr to from pc mid v same t h held into it a there stands =
      let q = into.1 in
      loads_near kept ptr to from pc mid v (small_end e.core kept same) into.0 it (omega (arith, q)) a there stands
  loads Large tables FarFlash FlashBank kept ptr to from pc mid v same t h held into it a there stands =
      let q = into.1 in
      let whole = a.whole q in
      loads_far ptr to from pc mid v same into.0 it (omega (arith, q)) (omega (arith, whole)) (far_flash kept from to.bytes there) stands
  loads core tables FarFlash DataBank kept ptr to from pc mid v same t h held into it a there stands = absurd (cc)
  loads core tables Data FlashBank kept ptr to from pc mid v same t h held into it a there stands = absurd (cc)
  loads core tables Data DataBank kept ptr to from pc mid v same t h held into it a there stands =
      let q = into.1 in
      loads_by_low ptr to from pc mid v into.0 it (omega (arith, q)) a.low there.0 there.1 stands
  loads core tables Generic bank kept ptr to from pc mid v same t h held into it a there stands =
      loads_either core tables bank kept ptr to from pc mid v same t into.0 it into.1 a there stands

  -- what a load from an object of the flash bank brings to n bytes from an address on
  abbrev pub BringsTableTo : (l : ObjectLeaf p FlashBank) (b n : ℕ) (v : View) → List AsmItem → Type 0
  BringsTableTo l b n v code =
      let from = place l.object + l.at in
      Brings v b n (λ i. bytes_of p e slots home base place y FlashBank v (from + i))
      (each (ByteRead FlashBank) from (λ i. bytes_of p e slots home base place y FlashBank v (from + i)) n) (block e code v)

  -- and to a temporary
  abbrev pub BringsTable : (l : ObjectLeaf p FlashBank) (to : Temp) (v : View) → List AsmItem → Type 0
  BringsTable l to v code = BringsTableTo l (base to) to.bytes v code

  loads_near_table : (l : ObjectLeaf p FlashBank) (q : Location) (b n : ℕ) (v : View) → address_end e.core l.declared.home ≡ 65536
      → IsAddressable l.declared.storage → StandsFrom e q n b Own → LeavesZ b n → 1 ≤ n → l.bytes ≡ n
      → BringsTableTo l b n v (load_table_code l.object l.at q n)
  loads_near_table l q b n v end k sq zq some size =
      let from = place l.object + l.at in
      let inside = leaf_inside p e slots home base place y FlashBank l in
      let near = near_flash l.declared.home from n end (subst (λ (i : ℕ). AreInFlash l.declared.home from i) size (table_there l)) in
      let low : e.address_of l.object l.at ≡ from =
      low_is (e.address_of l.object l.at) from n
      ((room_of p e slots home base place y l.object l.declared l.is_object k).at l.at (omega (arith, inside))) near.room some in
      let byte = λ (z i : ℕ). bytes_of p e slots home base place y FlashBank v (z + i) in
      let done =
      λ (z : ℕ). AreFlash e z n
      → Brings v b n (byte z) (each (ByteRead FlashBank) z (byte z) n)
      (block e (load_table_code l.object l.at q n) v) in
      subst done low (y.pointers.from_tables e q l.object l.at n b v sq zq) near

  loads_far_table : (l : ObjectLeaf p FlashBank) (q : Location) (b n : ℕ) (v : View) → e.core ≡ Large → IsAddressable l.declared.storage
      → StandsFrom e q n b Own → LeavesZ b n → l.bytes ≡ n → BringsTableTo l b n v (load_far_table_code l.object l.at q n)
  loads_far_table l q b n v large k sq zq size =
      let from = place l.object + l.at in
      let inside = leaf_inside p e slots home base place y FlashBank l in
      let far = far_flash l.declared.home from n (subst (λ (i : ℕ). AreInFlash l.declared.home from i) size (table_there l)) in
      let room = room_of p e slots home base place y l.object l.declared l.is_object k in
      let whole : e.far_of l.object l.at ≡ from = room.far large l.home l.at (omega (arith, inside)) in
      let low : e.address_of l.object l.at ≡ e.far_of l.object l.at % 65536 =
      room.at l.at (omega (arith, inside)) ∙ ap (λ i. i % 65536) (sym whole) in
      let byte = λ (z i : ℕ). bytes_of p e slots home base place y FlashBank v (z + i) in
      let done =
      λ (z : ℕ). AreFarFlash e z n
      → Brings v b n (byte z) (each (ByteRead FlashBank) z (byte z) n)
      (block e (load_far_table_code l.object l.at q n) v) in
      subst done whole (y.pointers.far.from_tables e q l.object l.at n b v (has_page large) sq zq low) far

  -- from an object of the flash bank, by its home
  pub loads_table_to : (core : Core) (kept : Home) (l : ObjectLeaf p FlashBank) (q : Location) (b n : ℕ) (v : View) → e.core ≡ core
      → l.declared.home ≡ kept → IsAddressable l.declared.storage → StandsFrom e q n b Own → LeavesZ b n → 1 ≤ n → l.bytes ≡ n
      → BringsTableTo l b n v (banked_code core kept p.objects l.object l.at q n)
  loads_table_to core FlashHome l q b n v same is k sq zq some size =
      loads_near_table l q b n v (near_end e.core Flash l.declared.home refl (ap (holds Flash) is)) k sq zq some size
  loads_table_to Small FarHome l q b n v same is k sq zq some size =
      loads_near_table l q b n v (small_end e.core l.declared.home same) k sq zq some size
  loads_table_to Large FarHome l q b n v same is k sq zq some size = loads_far_table l q b n v same k sq zq size
  loads_table_to core DataHome l q b n v same is k sq zq some size =
      let no : DataBank ≡ FlashBank = ap bank_of (sym is) ∙ l.home in
      absurd (cc)

  pub loads_table : (core : Core) (kept : Home) (l : ObjectLeaf p FlashBank) (to : Temp) (v : View) → e.core ≡ core
      → l.declared.home ≡ kept
      → IsAddressable l.declared.storage → HasHome slots to → l.bytes ≡ to.bytes
      → BringsTable l to v (banked_code core kept p.objects l.object l.at (home to) to.bytes)
  loads_table core kept l to v same is k it size =
      loads_table_to core kept l (home to) (base to) to.bytes v same is k (y.layout.temps_at to it)
      (leaves_z (base to) to.bytes to.bytes (omega arith) (y.layout.temps_work to it)) it.some size

  -- ---- stores through a pointer

  pub stores : (ptr from : Temp) (l : ObjectLeaf p DataBank) (v : View) → HasHome slots ptr → HasHome slots from → 2 ≤ ptr.bytes
      → IsAddressable l.declared.storage → l.bytes ≡ from.bytes → let to = place l.object + l.at in
      value v.at (base ptr) 2 ≡ to % 65536
      → Brings v to from.bytes (λ i. v.at (base from + i)) (each ByteWrite to (λ i. v.at (base from + i)) from.bytes)
      (block e (store_data_code (home from) (home ptr) from.bytes) v)
  stores ptr from l v ip it two k size low =
      let n = from.bytes in
      let to = place l.object + l.at in
      let there : AreData e to n = subst (λ (i : ℕ). AreData e to i) size (data_there l k) in
      let far : IsReadFirst (base from) to n = λ r. (y.layout.temp_leaf from l it).left r in
      let byte = λ (i : ℕ). v.at (base from + i) in
      let done =
      λ (z : ℕ). AreData e z n → IsReadFirst (base from) z n
      → Brings v z n byte (each ByteWrite z byte n) (block e (store_data_code (home from) (home ptr) n) v) in
      subst done (low_is (value v.at (base ptr) 2) to n low there.room it.some)
      (y.pointers.stored e (home from) (home ptr) n (base from) (base ptr) v (has_pointer ptr from 2 ip it two)) there far

  -- ---- accesses of what a pointer points to

  abbrev F : (n w pc : ℕ) → View → Outcome Value → Type 0
  F n w pc v o = Follows p place e n w pc v o

  abbrev pub access_to : (bank : Bank) → ObjectLeaf p bank → SpaceId → ObjectState → Access
  access_to bank l space x = record { object = l.object; leaf = l.number; space = space; declared = l.declared; state = x }

  -- a leaf that a pointer into a space gives access to
  pub record Reaches (space : SpaceId) (bytes : ℕ) (q : ObjectPointer) (s : State) : Type 0 where
    pub bank : Bank
    pub leaf : ObjectLeaf p bank
    pub state : ObjectState
    pub object : leaf.object ≡ q.object
    pub begins : leaf.at ≡ q.offset
    pub size : leaf.bytes ≡ bytes
    pub addressable : IsAddressable leaf.declared.storage
    pub is_state : slice_get s.objects leaf.object ≡ Some state
    pub within : reaches space bank ≡ true
    pub held : holds space leaf.declared.home ≡ true
    pub live : state.live ≡ true

  -- an access, where the space allows one of so many bytes
  abbrev allowed : SpaceId → (bytes : ℕ) → Access → Option Access
  allowed space bytes a = if is_access_of p space bytes a then Some a else None

  -- none is given, or that of a leaf which the pointer reaches
  pub from_access : (space : SpaceId) (bytes : ℕ) (q : ObjectPointer) (s : State) (go : Option Access
      → Outcome Value) (n w pc : ℕ)
      (v : View)
      → IsPointed p q → F n w pc v (go None)
      → ((r : Reaches space bytes q s) → F n w pc v (go (Some (access_to r.bank r.leaf space r.state))))
      → F n w pc v (go (pointer_access p space bytes (Some q) s))
  from_access space bytes q s go n w pc v k none some =
      subst (λ z. F n w pc v (go z)) (sym is_declared) (at_object (slice_get s.objects q.object) refl)
    where
      d : PlainObject
      d = k.declared

      is_declared : pointer_access p space bytes (Some q) s
          ≡ option_and_then (allowed space bytes)
          (option_and_then (λ x. option_map (access_at (Some space) q.object d x) (leaf_from p d q.offset)) (slice_get s.objects q.object))
      is_declared = rw (k.is_object) refl

      at_leaf : (x : ObjectState) → slice_get s.objects q.object ≡ Some x → (z : Option ℕ) → leaf_from p d q.offset ≡ z
          → F n w pc v (go (option_and_then (allowed space bytes) (option_map (access_at (Some space) q.object d x) z)))
      at_leaf x i None j = none
      at_leaf x i (Some number) j = by_test (is_access_of p space bytes (access_at (Some space) q.object d x number)) refl
        where
          a : Access
          a = access_at (Some space) q.object d x number

          by_test : (b : Bool) → is_access_of p space bytes a ≡ b → F n w pc v (go (if b then Some a else None))
          by_test true t =
              let f = leaf_found (leaves_of_type p.structs d.ty) q.offset number j in
              let both =
              and_parts x.live (holds space d.home && scalar_size (accessed_type p (Some a)) == bytes) t in
              let parts = and_parts (holds space d.home) (scalar_size (accessed_type p (Some a)) == bytes) both.1 in
              let ty : accessed_type p (Some a) ≡ f.leaf.ty = rw (f.is) refl in
              let size : scalar_size f.leaf.ty ≡ bytes =
              ap scalar_size (sym ty) ∙ eqb-true (scalar_size (accessed_type p (Some a))) bytes parts.1 in
              some (record {
                bank = bank_of d.home;
                leaf = record {
                  object = q.object;
                  number = number;
                  declared = d;
                  ty = f.leaf.ty;
                  bytes = bytes;
                  at = f.leaf.at;
                  is_object = k.is_object;
                  is_leaf = f.is;
                  size = size;
                  home = refl;
                };
                state = x;
                object = refl;
                begins = f.begins;
                size = refl;
                addressable = k.addressable;
                is_state = i;
                within = home_reached space d.home parts.0;
                held = parts.0;
                live = both.0;
              })
          by_test false t = none

      at_object : (z : Option ObjectState) → slice_get s.objects q.object ≡ z
          → F n w pc v
          (go
          (option_and_then (allowed space bytes)
          (option_and_then (λ x. option_map (access_at (Some space) q.object d x) (leaf_from p d q.offset)) z)))
      at_object None i = none
      at_object (Some x) i = at_leaf x i (leaf_from p d q.offset) refl

  -- ---- outcomes of accesses

  -- a temporary that holds a pointer
  pub from_pointer : (t : Temp) (temps : Temps) (s : State) (go : PointerValue → State → Outcome Value) (n w pc : ℕ) (v : View)
      → F n w pc v (go None s)
      → ((q : ObjectPointer) → temps t.at ≡ Some (record { bytes = t.bytes; content = points q }) → F n w pc v (go (Some q) s))
      → F n w pc v (next (held_pointer t temps s) go)
  from_pointer t temps s go n w pc v null some =
      subst (λ o. F n w pc v o) (sym (next_next (held t temps s) pointer_in go))
      (from_held p place e t temps s (λ content s1. next (pointer_in content s1) go) n w pc v (λ h q r. by_content h q r h.content refl))
    where
      by_content : (h : Held) → temps t.at ≡ Some h → h.bytes ≡ t.bytes → (c : Content) → h.content ≡ c
          → F n w pc v (next (pointer_in c s) go)
      by_content h q r (bits zero) i = null
      by_content h q r (bits (suc low)) i = tt
      by_content h q r (points x) i = some x (q ∙ ap Some (held_is p place e h t.bytes (points x) r i))

  -- a leaf that is read
  pub from_read : (bank : Bank) (l : ObjectLeaf p bank) (space : SpaceId) (x : ObjectState) (s : State)
      (go : Value → State → Outcome Value) (n w pc : ℕ) (v : View)
      → ((u : Value) → leaf_of x l.number ≡ Some u → F n w pc v (go u (after_read p e slots home base place y bank l space u s)))
      → F n w pc v (next (read p (Some (access_to bank l space x)) s) go)
  from_read bank l space x s go n w pc v f = at_value (leaf_of x l.number) refl
    where
      by_test : (u : Value) → leaf_of x l.number ≡ Some u → (b : Bool)
          → F n w pc v (next (if b then got u (after_read p e slots home base place y bank l space u s) else undefined Unset s) go)
      by_test u i true = f u i
      by_test u i false = tt

      at_value : (z : Option Value) → leaf_of x l.number ≡ z → F n w pc v (next (read_value p (access_to bank l space x) z s) go)
      at_value None i = tt
      at_value (Some u) i = by_test u i (is_readable p u s)

  -- a leaf that gets the value of a temporary
  from_value : (bank : Bank) (l : ObjectLeaf p bank) (space : SpaceId) (x : ObjectState) (t : Temp) (temps : Temps) (s : State)
      (go : Value → State → Outcome Value) (n w pc : ℕ) (v : View)
      → ((c : Content) (u : Value) → temps t.at ≡ Some (record { bytes = t.bytes; content = c }) → value_of_type p l.ty c ≡ Ok u
      → F n w pc v (next (put_leaf (Some (access_to bank l space x)) u s) go))
      → F n w pc v (next (put p (Some (access_to bank l space x)) t temps s) go)
  from_value bank l space x t temps s go n w pc v f =
      subst (λ z. F n w pc v (next (next (held_as p z t temps s) put_it) go)) (sym ty)
      (subst (λ z. F n w pc v z) (sym (next_next (held_as p l.ty t temps s) put_it go))
      (subst (λ z. F n w pc v z) (sym (next_next (held t temps s) _ _))
      (from_held p place e t temps s (λ content s1. next (given (value_of_type p l.ty content) s1) (λ u s2. next (put_it u s2) go)) n w pc v
      (λ h q r. by_value h.content (q ∙ ap Some (held_is p place e h t.bytes h.content r refl)) (value_of_type p l.ty h.content) refl))))
    where
      a : Access
      a = access_to bank l space x

      put_it : Value → State → Outcome Value
      put_it u s1 = put_leaf (Some a) u s1

      ty : accessed_type p (Some a) ≡ l.ty
      ty = rw (l.is_leaf) refl

      by_value : (c : Content) → temps t.at ≡ Some (record { bytes = t.bytes; content = c }) → (r : Result Value Undefined)
          → value_of_type p l.ty c ≡ r → F n w pc v (next (given r s) (λ u s2. next (put_it u s2) go))
      by_value c q (Ok u) i = f c u q i
      by_value c q (Err point) i = tt

  -- none of the flash bank does
  pub from_put : (bank : Bank) (l : ObjectLeaf p bank) (space : SpaceId) (x : ObjectState) (t : Temp) (temps : Temps) (s : State)
      (go : Value → State → Outcome Value) (n w pc : ℕ) (v : View)
      → ((k : ObjectLeaf p DataBank) (c : Content) (u : Value) → k.object ≡ l.object → k.at ≡ l.at → k.bytes ≡ l.bytes
      → k.declared ≡ l.declared → temps t.at ≡ Some (record { bytes = t.bytes; content = c }) → value_of_type p k.ty c ≡ Ok u
      → F n w pc v (go u (after_write p e slots home base place y k space u s)))
      → F n w pc v (next (put p (Some (access_to bank l space x)) t temps s) go)
  from_put FlashBank l space x t temps s go n w pc v f =
      from_value FlashBank l space x t temps s go n w pc v (λ c u q i.
      let no : put_leaf (Some (access_to FlashBank l space x)) u s ≡ undefined ConstWrite s = rw (in_flash l.declared.home l.home) refl in
      subst (λ z. F n w pc v (next z go)) (sym no) tt)
  from_put DataBank l space x t temps s go n w pc v f =
      from_value DataBank l space x t temps s go n w pc v (λ c u q i.
      let yes : put_leaf (Some (access_to DataBank l space x)) u s ≡ got u (after_write p e slots home base place y l space u s) =
      rw (home_in_data l.declared.home l.home) refl in
      subst (λ z. F n w pc v (next z go)) (sym yes) (f l c u refl refl refl refl q i))

  -- an access of nothing
  pub from_no_access : (t : Temp) (temps : Temps) (s : State) (go : Value → State → Outcome Value) (n w pc : ℕ) (v : View)
      → F n w pc v (next (put p None t temps s) go)
  from_no_access t temps s go n w pc v =
      subst (λ z. F n w pc v z) (sym (next_next (held_as p void t temps s) (λ u s1. put_leaf None u s1) go))
      (from_nothing p place e t temps s (λ u s1. next (put_leaf None u s1) go) n w pc v)
