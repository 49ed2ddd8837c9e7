-- A pointer that stays in Z.
use Rattle.std.proofs.Common.{◌≡◌, ◌≢◌, ℕ, zero, suc, ◌+◌, ◌*◌, ◌/◌, ◌%◌, ◌<◌, ◌≤◌, ◌==◌, ⊎_elim, Bool, true, false}
use Rattle.std.proofs.Common.{List, [], ◌∷◌, ◌++◌}
use Rattle.std.proofs.Common.{refl, sym, ap, ◌∙◌, subst, arith, append-nil, append_assoc}
use Rattle.std.specs.Prelude.{nat_lt, if◌then◌else◌}
use Rattle.std.specs.List.{list_all}
use Rattle.std.proofs.lemmas.Bool.{cases_eq, lt-ltb, eqb-true}
use Rattle.std.proofs.lemmas.Bool.Decides.{nat_tests}
use Rattle.std.proofs.lemmas.List.Sums.{sum_by-append}
use Rattle.ec_space.specs.declared.space.Bank.TheVariants.{Flash as FlashBank, Data as DataBank}
use Rattle.ec_isa.specs.declared.instructions.Instr.TheVariants.{Adiw, Sbrs}
use Rattle.ec_avr.specs.declared.machine.Access.{Access}
use Rattle.ec_avr.specs.declared.machine.Access.TheVariants.{Read, Write}
use Rattle.ec_asm.specs.declared.items.AsmItem.{AsmItem}
use Rattle.ec_asm.specs.declared.items.AsmItem.TheVariants.{Plain}
use Rattle.ec_asm.specs.declared.pieces.Location.{Location}
use Rattle.ec_asm.specs.declared.pieces.Location.TheVariants.{InRegisters, InMemory}
use Rattle.ec_asm.specs.View.{View, pair, put}
use Rattle.ec_asm.specs.Change.{Env, Kind, Own, Object, Port, Stacked, Page, Barred, load_by, change}
use Rattle.ec_asm.specs.Items.{block, code_words, item_words}
use Rattle.ec_asm.specs.Pieces.{StandsFrom, KindIs, address, Copies, copy_log, read_of, is_held}
use Rattle.ec_asm.specs.PieceLaws.{HoldsNumbers, IsReadFirst}
use Rattle.ec_asm.specs.Valid.{Sizes, is_valid_item}
use Rattle.ec_asm.proofs.Bytes.{put_here, put_other}
use Rattle.ec_asm.proofs.Compared.{copy_holds}
use Rattle.ec_asm.proofs.Hoare.{chain_holds, block-append}
use Rattle.ec_asm.proofs.Sum.{not_yet}
use Rattle.ec_select_pointers.specs.Accesses.{point_code, flash_byte, flash_bytes, bytes_words, over}
use Rattle.ec_select_pointers.specs.AccessLaws.{each, Brings, LeavesZ, AreData, data_at, flash_at, address_in}
use Rattle.ec_select_pointers.specs.Fetched.{z_register, fetch_byte, fetch_code, member_byte, load_member_code}
use Rattle.ec_select_pointers.specs.Fetched.{go_on_code, go_on_words, load_further_code, either_further}
use Rattle.ec_select_pointers.specs.Fetched.{load_tagged_code, store_member_byte, store_member_code}
use Rattle.ec_select_pointers.specs.FetchedLaws.{PointersAreFetched, ZIsSet, MembersAreLoaded, FetchesAreShort}
use Rattle.ec_select_pointers.specs.FetchedLaws.{MembersAreShort, PointIsShort, FetchesAreValid, MembersAreValid}
use Rattle.ec_select_pointers.specs.FetchedLaws.{FetchesHaveNoLabel, IsInRange, PointIsValid, flagged, FurtherIsLoaded}
use Rattle.ec_select_pointers.specs.FetchedLaws.{FurtherIsShort, TaggedHas, FurtherIsValid, MembersKeepZ}
use Rattle.ec_select_pointers.specs.FetchedLaws.{MembersAreStored, StoresAreShort, StoresAreValid}
use Rattle.ec_select_pointers.specs.Form.{HasPlaces}
use Rattle.ec_select_pointers.proofs.Accessed.{part_outside, not_low, not_high, pointed, flash_follows}
use Rattle.ec_select_pointers.proofs.Brought.{BringsByte, BringsTo, one_brought, member_is_brought, member_is_stored}
use Rattle.ec_select_pointers.proofs.Short.{IsShort, chained, joined, by_test as short_either, point_short}
use Rattle.ec_select_pointers.proofs.Short.{all_flash_short, takes}
use Rattle.ec_select_pointers.proofs.Valid.{both, all_pass, by_test as all_either, point_valid, point_plain}
use Rattle.ec_select_pointers.proofs.Valid.{flash_valid, flash_plain, few_words, over_valid, is_plain, has_no_label}

-- ---- a pointer is read

-- a byte was put to register r
loaded_by : (k : Kind) (r a : ℕ) (v : View) → is_held k ≡ true → Copies v (load_by k r a v) a r k Own
loaded_by Own r a v h = record {
  here = put_here v.at r (v.at a) r refl;
  same = λ k z n. put_other v.at r (v.at a) k n;
  flags = refl;
  inputs = refl;
  safe = refl;
  seen = sym (append-nil v.seen);
}
loaded_by Object r a v h = record {
  here = put_here v.at r (v.at a) r refl;
  same = λ k z n. put_other v.at r (v.at a) k n;
  flags = refl;
  inputs = refl;
  safe = refl;
  seen = refl;
}
loaded_by Port r a v h = cc
loaded_by Stacked r a v h = cc
loaded_by Page r a v h = cc
loaded_by Barred r a v h = cc

byte_fetched : (e : Env) (p : Location) (i a : ℕ) (k : Kind) (v : View) → address e p i ≡ a → KindIs e p a k → is_held k ≡ true
    → Copies v (block e (fetch_byte p i) v) a (z_register i) k Own
byte_fetched e (InRegisters r) i a k v at kind held = rw (at, kind) (loaded_by Own (z_register i) a v refl)
byte_fetched e (InMemory o j) i a k v at kind held = rw (at, kind) (loaded_by k (z_register i) a v held)

-- i bytes were read
record FetchesTo (v0 : View) (a : ℕ) (kind : Kind) (i : ℕ) (v : View) : Type 0 where
  low : 1 ≤ i → v.at 30 ≡ v0.at (a + 0)
  high : 2 ≤ i → v.at 31 ≡ v0.at (a + 1)
  third : i ≡ 3 → v.at 0 ≡ v0.at (a + 2)
  numbers : HoldsNumbers v0 → HoldsNumbers v
  same : (k : ℕ) → k ≢ 0 → k ≢ 30 → k ≢ 31 → v.at k ≡ v0.at k
  flags : v.flags ≡ v0.flags
  inputs : v.inputs ≡ v0.inputs
  safe : v.safe ≡ v0.safe
  seen : v.seen ≡ v0.seen ++ copy_log kind Own a 30 v0.at i

past_z : (i : ℕ) → z_register (suc (suc i)) ≡ 0
past_z i = grind (arith, nat_tests)

-- one byte more
fetched_more : (i r : ℕ) → z_register i ≡ r → (kind : Kind) (a : ℕ) (v0 v w : View) → 2 ≤ a → a + i ≢ 30 → a + i ≢ 31
    → ((k : ℕ) → k ≢ 0 → k ≢ 30 → k ≢ 31 → w.at k ≡ v.at k)
    → (1 ≤ suc i → w.at 30 ≡ v0.at (a + 0)) → (2 ≤ suc i → w.at 31 ≡ v0.at (a + 1)) → (suc i ≡ 3 → w.at 0 ≡ v0.at (a + 2))
    → FetchesTo v0 a kind i v → Copies v w (a + i) r kind Own → FetchesTo v0 a kind (suc i) w
fetched_more i r is kind a v0 v w two n30 n31 same low high third h o =
    let was : v.at (a + i) ≡ v0.at (a + i) = h.same (a + i) (omega arith) n30 n31 in
    record {
      low = low;
      high = high;
      third = third;
      numbers = λ n k u.
          ⊎_elim
          (λ (q : k ≡ r). rw (q, o.here, was) (n (a + i) (omega arith)))
          (λ (q : k ≢ r). rw (o.same k (omega arith) q) (h.numbers n k u))
          (cases_eq k r);
      same = λ k x y z. same k x y z ∙ h.same k x y z;
      flags = o.flags ∙ h.flags;
      inputs = o.inputs ∙ h.inputs;
      safe = o.safe ∙ h.safe;
      seen = o.seen ∙ rw (h.seen, was) (append_assoc v0.seen (copy_log kind Own a 30 v0.at i)
          (read_of kind (a + i) (v0.at (a + i)) ++ []));
    }

fetch_step : (i : ℕ) (kind : Kind) (a n : ℕ) (v0 v w : View) → 2 ≤ a → LeavesZ a n → i < n → FetchesTo v0 a kind i v
    → Copies v w (a + i) (z_register i) kind Own → FetchesTo v0 a kind (suc i) w
fetch_step zero kind a n v0 v w two leaves l h o =
    let n30 = not_low a n 0 leaves l in
    let n31 = not_high a n 0 leaves l in
    let was : v.at (a + 0) ≡ v0.at (a + 0) = h.same (a + 0) (omega arith) n30 n31 in
    fetched_more 0 30 refl kind a v0 v w two n30 n31 (λ k x y z. o.same k x y) (λ m. o.here ∙ was) (λ m. absurd (omega arith))
    (λ m. absurd (omega (arith, m))) h o
fetch_step (suc zero) kind a n v0 v w two leaves l h o =
    let n30 = not_low a n 1 leaves l in
    let n31 = not_high a n 1 leaves l in
    let was : v.at (a + 1) ≡ v0.at (a + 1) = h.same (a + 1) (omega arith) n30 n31 in
    fetched_more 1 31 refl kind a v0 v w two n30 n31 (λ k x y z. o.same k x z)
    (λ m. o.same 30 (omega arith) (omega arith) ∙ h.low (omega arith)) (λ m. o.here ∙ was) (λ m. absurd (omega (arith, m))) h o
fetch_step (suc (suc i)) kind a n v0 v w two leaves l h o =
    let c : Copies v w (a + suc (suc i)) 0 kind Own = subst (λ r. Copies v w (a + suc (suc i)) r kind Own) (past_z i) o in
    let n30 = not_low a n (suc (suc i)) leaves l in
    let n31 = not_high a n (suc (suc i)) leaves l in
    let was : v.at (a + suc (suc i)) ≡ v0.at (a + suc (suc i)) = h.same (a + suc (suc i)) (omega arith) n30 n31 in
    fetched_more (suc (suc i)) 0 (past_z i) kind a v0 v w two n30 n31
    (λ k x y z. c.same k x x) (λ m. c.same 30 (omega arith) (omega arith) ∙ h.low (omega arith))
    (λ m. c.same 31 (omega arith) (omega arith) ∙ h.high (omega arith))
    (λ m. let e : a + suc (suc i) ≡ a + 2 = omega (arith, m) in c.here ∙ was ∙ ap v0.at e) h c

pub pointers_are_fetched : PointersAreFetched
pointers_are_fetched e p n a kind v two stands held leaves =
    let w = block e (fetch_code p n) v in
    let all =
    chain_holds e (fetch_byte p) (FetchesTo v a kind) n
    (λ i l u h. fetch_step i kind a n v u _ stands.clear leaves l h
    (byte_fetched e p i (a + i) kind u (stands.at i l) (stands.kind i l) held))
    v
    (record {
      low = λ m. absurd (omega arith);
      high = λ m. absurd (omega arith);
      third = λ m. absurd (omega (arith, m));
      numbers = λ m. m;
      same = λ k x y z. refl;
      flags = refl;
      inputs = refl;
      safe = refl;
      seen = sym (append-nil v.seen);
    }) in
    let low = all.low (omega arith) in
    let high = all.high two in
    let is : pair w.at 30 ≡ address_in v a = rw (low, high) (omega arith) in
    record {
      pointer = is;
      third = all.third;
      numbers = all.numbers;
      same = all.same;
      flags = all.flags;
      inputs = all.inputs;
      safe = all.safe;
      seen = all.seen;
    }

pub z_is_set : ZIsSet
z_is_set e p n a v two stands leaves =
    let at = pointed copy_holds e p n a a v.at v two stands leaves in
    record {
      pointer = at.pointer;
      third = λ q. absurd (omega (arith, q));
      numbers = λ h. at.brings.numbers h (λ j l. absurd (omega arith));
      same = λ k x y z. at.brings.same k x y z (λ l. omega arith);
      flags = at.brings.flags;
      inputs = at.brings.inputs;
      safe = at.brings.safe;
      seen = at.brings.seen;
    }

-- ---- bytes at a displacement

members_brought : (e : Env) (q : Location) (d n b z k : ℕ) (v0 v1 : View) → StandsFrom e q n b Own → LeavesZ b n
    → (k + d) % 65536 ≡ z → AreData e z n → IsReadFirst z b n → BringsTo v0 b (data_at v0 z) (Read DataBank) z (λ i. k) 0 v1
    → BringsTo v0 b (data_at v0 z) (Read DataBank) z (λ i. k) n (block e (load_member_code d q n) v1)
members_brought e q d n b z k v0 v1 s leaves far held first start =
    chain_holds e (member_byte d q) (BringsTo v0 b (data_at v0 z) (Read DataBank) z (λ i. k)) n step v1 start
  where
    step : (i : ℕ) → i < n → (v : View) → BringsTo v0 b (data_at v0 z) (Read DataBank) z (λ i. k) i v
        → BringsTo v0 b (data_at v0 z) (Read DataBank) z (λ i. k) (suc i) (block e (member_byte d q i) v)
    step i l v h =
        let w = block e (member_byte d q i) v in
        let room = held.room in
        let above = held.above in
        let at : (pair v.at 30 + (d + i)) % 65536 ≡ z + i = ap (λ x. (x + (d + i)) % 65536) h.pointer ∙ omega (arith, far, room, l) in
        let o = member_is_brought e d q i (b + i) (z + i) v (s.at i l) (s.kind i l) at (held.kind i l)
        (not_low b n i leaves l) (not_high b n i leaves l) in
        let was : v.at (z + i) ≡ v0.at (z + i) =
        h.brings.same (z + i) (omega arith) (omega arith) (omega arith) (not_yet z b n i first l) in
        one_brought b i (v.at (z + i)) (data_at v0 z) (Read DataBank) z (λ i. k) v0 v w s.clear
        (part_outside b (suc i) n 30 l leaves.low) (part_outside b (suc i) n 31 l leaves.high) was h
        (subst (λ x. BringsByte v w (b + i) (v.at (z + i)) (Read DataBank (z + i) (v.at (z + i))) x) h.pointer o)

-- all of them, where Z has stayed
members_in : (e : Env) (q : Location) (d n b z : ℕ) (v : View) → StandsFrom e q n b Own → LeavesZ b n
    → (pair v.at 30 + d) % 65536 ≡ z → AreData e z n → IsReadFirst z b n
    → BringsTo v b (data_at v z) (Read DataBank) z (λ i. pair v.at 30) n (block e (load_member_code d q n) v)
members_in e q d n b z v s leaves far held first =
    let none : Brings v b 0 (data_at v z) [] v = record {
      there = λ j l. absurd (omega arith);
      numbers = λ h l. h;
      same = λ k n0 n30 n31 o. refl;
      flags = refl;
      inputs = refl;
      safe = refl;
      seen = sym (append-nil v.seen);
    } in
    members_brought e q d n b z (pair v.at 30) v v s leaves far held first (record { pointer = refl; brings = none })

pub members_are_loaded : MembersAreLoaded
members_are_loaded e q d n b z v s leaves far held first = (members_in e q d n b z v s leaves far held first).brings

pub members_keep_z : MembersKeepZ
members_keep_z e q d n b z v s leaves far held first = (members_in e q d n b z v s leaves far held first).pointer

-- and bytes that are stored there
members_put : (e : Env) (q : Location) (d n a z k : ℕ) (v0 v1 : View) → StandsFrom e q n a Own → LeavesZ a n
    → (k + d) % 65536 ≡ z → AreData e z n → IsReadFirst a z n → BringsTo v0 z (data_at v0 a) Write z (λ i. k) 0 v1
    → BringsTo v0 z (data_at v0 a) Write z (λ i. k) n (block e (store_member_code d q n) v1)
members_put e q d n a z k v0 v1 s leaves far held first start =
    chain_holds e (store_member_byte d q) (BringsTo v0 z (data_at v0 a) Write z (λ i. k)) n step v1 start
  where
    step : (i : ℕ) → i < n → (v : View) → BringsTo v0 z (data_at v0 a) Write z (λ i. k) i v
        → BringsTo v0 z (data_at v0 a) Write z (λ i. k) (suc i) (block e (store_member_byte d q i) v)
    step i l v h =
        let w = block e (store_member_byte d q i) v in
        let room = held.room in
        let above = held.above in
        let ua = s.clear in
        let at : (pair v.at 30 + (d + i)) % 65536 ≡ z + i = ap (λ x. (x + (d + i)) % 65536) h.pointer ∙ omega (arith, far, room, l) in
        let o = member_is_stored e d q i (a + i) (z + i) v (s.at i l) (s.kind i l) at (held.kind i l) (omega arith) (omega arith) in
        let was : v.at (a + i) ≡ v0.at (a + i) =
        h.brings.same (a + i) (omega arith) (not_low a n i leaves l) (not_high a n i leaves l) (not_yet a z n i first l) in
        one_brought z i (v.at (a + i)) (data_at v0 a) Write z (λ i. k) v0 v w (omega arith)
        (λ q. absurd (omega arith)) (λ q. absurd (omega arith)) was h
        (subst (λ x. BringsByte v w (z + i) (v.at (a + i)) (Write (z + i) (v.at (a + i))) x) h.pointer o)

pub members_are_stored : MembersAreStored
members_are_stored e q d n a z v s leaves far held first =
    let none : Brings v z 0 (data_at v a) [] v = record {
      there = λ j l. absurd (omega arith);
      numbers = λ h l. h;
      same = λ k n0 n30 n31 o. refl;
      flags = refl;
      inputs = refl;
      safe = refl;
      seen = sym (append-nil v.seen);
    } in
    (members_put e q d n a z (pair v.at 30) v v s leaves far held first (record { pointer = refl; brings = none })).brings

-- ---- bytes of the flash bank at an offset

-- what is brought with flags that are kept, with any flags
pub freely : (v w : View) (b n : ℕ) (byte : ℕ → ℕ) (log : List Access) → Brings v b n byte log w
    → Brings (flagged v w.flags) b n byte log w
freely v w b n byte log h = record {
  there = h.there;
  numbers = h.numbers;
  same = h.same;
  flags = refl;
  inputs = h.inputs;
  safe = h.safe;
  seen = h.seen;
}

-- Z is so much further on
record IsFurther (v : View) (offset : ℕ) (w : View) : Type 0 where
  pointer : pair w.at 30 ≡ (pair v.at 30 + offset) % 65536
  numbers : HoldsNumbers w
  same : (k : ℕ) → k ≢ 30 → k ≢ 31 → w.at k ≡ v.at k
  inputs : w.inputs ≡ v.inputs
  safe : w.safe ≡ v.safe
  seen : w.seen ≡ v.seen

-- by ADIW
at_once : (e : Env) (d : ℕ) (v : View) → HoldsNumbers v → IsFurther v d (change e (Adiw 30 d) v)
at_once e d v numbers =
    let x = (pair v.at 30 + d) % 65536 in
    let g = put v.at 30 (x % 256) in
    let w = change e (Adiw 30 d) v in
    let other : (k : ℕ) → k ≢ 30 → k ≢ 31 → w.at k ≡ v.at k =
    λ k n30 n31. put_other g 31 (x / 256) k n31 ∙ put_other v.at 30 (x % 256) k n30 in
    record {
      pointer = omega arith;
      numbers = λ k u.
          ⊎_elim
          (λ (q : k ≡ 30). rw q (omega arith))
          (λ (q : k ≢ 30).
          ⊎_elim
          (λ (r : k ≡ 31). rw r (omega arith))
          (λ (r : k ≢ 31). rw (other k q r) (numbers k u))
          (cases_eq k 31))
          (cases_eq k 30);
      same = other;
      inputs = refl;
      safe = refl;
      seen = refl;
    }

goes_further : (e : Env) (d : ℕ) (none : Bool) (v : View) → (d == 0) ≡ none → HoldsNumbers v
    → IsFurther v d (block e (if none then [] else Plain (Adiw 30 d) ∷ []) v)
goes_further e d true v q numbers =
    let zero : d ≡ 0 = eqb-true d 0 q in
    let low = numbers 30 (omega arith) in
    let high = numbers 31 (omega arith) in
    record {
      pointer = omega (arith, zero, low, high);
      numbers = numbers;
      same = λ k n30 n31. refl;
      inputs = refl;
      safe = refl;
      seen = refl;
    }
goes_further e d false v q numbers = at_once e d v numbers

pub further_is_loaded : FurtherIsLoaded
further_is_loaded e q d n b z v s leaves numbers far flash =
    let v1 = block e (go_on_code d) v in
    let v0 = flagged v v1.flags in
    let o : IsFurther v d v1 = goes_further e d (d == 0) v refl numbers in
    let start : Brings v0 b 0 (flash_at e z) [] v1 = record {
      there = λ j l. absurd (omega arith);
      numbers = λ h l. o.numbers;
      same = λ k n0 n30 n31 out. o.same k n30 n31;
      flags = refl;
      inputs = o.inputs;
      safe = o.safe;
      seen = o.seen ∙ sym (append-nil v.seen);
    } in
    let r = flash_follows e q n b z v0 v1 s leaves flash (o.pointer ∙ far) start in
    rw (block-append e (go_on_code d) (flash_bytes q n) v)
    (freely v0 (block e (flash_bytes q n) v1) b n (flash_at e z) (each (Read FlashBank) z (flash_at e z) n) r)

-- ---- the form of the code

fetch_short : (p : Location) (i : ℕ) → IsShort (fetch_byte p i) 1 2 2
fetch_short (InRegisters r) i = record { straight = refl; at_least = omega arith; steps_are = omega arith; words_are = omega arith }
fetch_short (InMemory o k) i = record { straight = refl; at_least = omega arith; steps_are = omega arith; words_are = omega arith }

member_short : (d : ℕ) (q : Location) (i : ℕ) → IsShort (member_byte d q i) 1 2 3
member_short d (InRegisters r) i = record { straight = refl; at_least = omega arith; steps_are = omega arith; words_are = omega arith }
member_short d (InMemory o k) i = record { straight = refl; at_least = omega arith; steps_are = omega arith; words_are = omega arith }

pub fetches_are_short : FetchesAreShort
fetches_are_short p n =
    let s = chained (fetch_byte p) n 2 2 (fetch_short p) in
    (s.straight, takes (fetch_code p n) _ _ _ s, s.words_are)

pub members_are_short : MembersAreShort
members_are_short d q n =
    let s = chained (member_byte d q) n 2 3 (member_short d q) in
    (s.straight, takes (load_member_code d q n) _ _ _ s, s.words_are)

store_short : (d : ℕ) (q : Location) (i : ℕ) → IsShort (store_member_byte d q i) 1 2 3
store_short d (InRegisters r) i = record { straight = refl; at_least = omega arith; steps_are = omega arith; words_are = omega arith }
store_short d (InMemory o k) i = record { straight = refl; at_least = omega arith; steps_are = omega arith; words_are = omega arith }

pub stores_are_short : StoresAreShort
stores_are_short d q n =
    let s = chained (store_member_byte d q) n 2 3 (store_short d q) in
    (s.straight, takes (store_member_code d q n) _ _ _ s, s.words_are)

pub point_is_short : PointIsShort
point_is_short p = let s = point_short p in (s.straight, takes (point_code p) _ _ _ s, s.words_are)

go_on_short : (d : ℕ) → IsShort (go_on_code d) 0 1 1
go_on_short d =
    short_either (d == 0) [] (Plain (Adiw 30 d) ∷ []) 0 1 1
    (record { straight = refl; at_least = omega arith; steps_are = omega arith; words_are = omega arith })
    (record { straight = refl; at_least = omega arith; steps_are = omega arith; words_are = omega arith })

pub further_short : (d : ℕ) (q : Location) (n : ℕ) → IsShort (load_further_code d q n) (0 + n) (1 + 2 * n) (1 + 3 * n)
further_short d q n = joined (go_on_code d) (flash_bytes q n) 0 n 1 (2 * n) 1 (3 * n) (go_on_short d) (all_flash_short q n)

pub further_is_short : FurtherIsShort
further_is_short d q n =
    let s = further_short d q n in
    let x = s.at_least in
    (s.straight, (omega (arith, x), s.steps_are), s.words_are)

pub all_members_short : (d : ℕ) (q : Location) (n : ℕ) → IsShort (load_member_code d q n) n (2 * n) (3 * n)
all_members_short d q n = chained (member_byte d q) n 2 3 (member_short d q)

pub tagged_has : TaggedHas
tagged_has d q n =
    let w = bytes_words q n in
    let u = go_on_words d + w in
    let last = over u ++ load_further_code d q n in
    let a = (all_members_short d q n).words_are in
    let c = (further_short d q n).words_are in
    let s0 : code_words (load_tagged_code d q n) ≡ code_words (Plain (Sbrs 0 7) ∷ []) + code_words (either_further d q n) =
    sum_by-append item_words (Plain (Sbrs 0 7) ∷ []) (either_further d q n) in
    let s1 : code_words (either_further d q n) ≡ code_words (over (w + 1)) + code_words (load_member_code d q n ++ last) =
    sum_by-append item_words (over (w + 1)) (load_member_code d q n ++ last) in
    let s2 = sum_by-append item_words (load_member_code d q n) last in
    let s3 = sum_by-append item_words (over u) (load_further_code d q n) in
    let o0 : code_words (Plain (Sbrs 0 7) ∷ []) ≡ 1 = refl in
    let o1 : code_words (over (w + 1)) ≡ 1 = refl in
    let o2 : code_words (over u) ≡ 1 = refl in
    omega (arith, s0, s1, s2, s3, o0, o1, o2, a, c)

register_below : (i : ℕ) → nat_lt (z_register i) 32 ≡ true
register_below zero = refl
register_below (suc zero) = refl
register_below (suc (suc i)) = rw (past_z i) refl

fetch_valid : (sizes : Sizes) (p : Location) (i : ℕ) → IsInRange sizes p i → list_all (is_valid_item sizes) (fetch_byte p i) ≡ true
fetch_valid sizes (InRegisters r) i h = rw (register_below i, lt-ltb (r + i) 32 h) refl
fetch_valid sizes (InMemory o k) i h = rw (register_below i, h) refl

pub fetches_are_valid : FetchesAreValid
fetches_are_valid sizes p n h = all_pass (is_valid_item sizes) (fetch_byte p) n (λ i l. fetch_valid sizes p i (h i l))

pub point_is_valid : PointIsValid
point_is_valid sizes p h = point_valid sizes p h

member_valid : (sizes : Sizes) (d : ℕ) (q : Location) (n i : ℕ) → d + n ≤ 64 → HasPlaces sizes q n → i < n
    → list_all (is_valid_item sizes) (member_byte d q i) ≡ true
member_valid sizes d (InRegisters r) n i m h l = rw (lt-ltb (r + i) 32 (omega arith), lt-ltb (d + i) 64 (omega arith)) refl
member_valid sizes d (InMemory o k) n i m h l = rw (lt-ltb (d + i) 64 (omega arith), h i l) refl

pub members_are_valid : MembersAreValid
members_are_valid sizes d q n m h = all_pass (is_valid_item sizes) (member_byte d q) n (λ i l. member_valid sizes d q n i m h l)

-- an offset is below 64 where a byte is reached at it
go_on_valid : (sizes : Sizes) (d : ℕ) → d < 64 → list_all (is_valid_item sizes) (go_on_code d) ≡ true
go_on_valid sizes d l = all_either (is_valid_item sizes) (d == 0) [] (Plain (Adiw 30 d) ∷ []) (λ e. refl) (rw (lt-ltb d 64 l) refl)

further_valid : (sizes : Sizes) (d : ℕ) (q : Location) (n : ℕ) → d < 64 → HasPlaces sizes q n
    → list_all (is_valid_item sizes) (load_further_code d q n) ≡ true
further_valid sizes d q n l h =
    both (is_valid_item sizes) (go_on_code d) (flash_bytes q n) (go_on_valid sizes d l)
    (all_pass (is_valid_item sizes) (flash_byte q) n (λ i r. flash_valid sizes q n i h r))

go_on_few : (d : ℕ) → go_on_words d ≤ 1
go_on_few d = grind (arith, nat_tests)

tagged_passes : (t : AsmItem → Bool) (d : ℕ) (q : Location) (n : ℕ) → t (Plain (Sbrs 0 7)) ≡ true
    → list_all t (over (bytes_words q n + 1)) ≡ true → list_all t (load_member_code d q n) ≡ true
    → list_all t (over (go_on_words d + bytes_words q n)) ≡ true → list_all t (load_further_code d q n) ≡ true
    → list_all t (load_tagged_code d q n) ≡ true
tagged_passes t d q n test far members near further =
    let last = both t (over (go_on_words d + bytes_words q n)) (load_further_code d q n) near further in
    let middle = both t (load_member_code d q n) (over (go_on_words d + bytes_words q n) ++ load_further_code d q n) members last in
    let either = both t (over (bytes_words q n + 1)) _ far middle in
    both t (Plain (Sbrs 0 7) ∷ []) (either_further d q n) (rw test refl) either

pub further_is_valid : FurtherIsValid
further_is_valid sizes d q n some m h =
    let few = few_words sizes q n (omega (arith, m)) in
    let one = go_on_few d in
    let further = further_valid sizes d q n (omega (arith, some, m)) h in (
      further,
      tagged_passes (is_valid_item sizes) d q n refl (over_valid sizes (bytes_words q n + 1) (omega (arith, few)))
          (members_are_valid sizes d q n m h)
          (over_valid sizes (go_on_words d + bytes_words q n) (omega (arith, few, one))) further,
    )

store_valid : (sizes : Sizes) (d : ℕ) (q : Location) (n i : ℕ) → d + n ≤ 64 → HasPlaces sizes q n → i < n
    → list_all (is_valid_item sizes) (store_member_byte d q i) ≡ true
store_valid sizes d (InRegisters r) n i m h l = rw (lt-ltb (r + i) 32 (omega arith), lt-ltb (d + i) 64 (omega arith)) refl
store_valid sizes d (InMemory o k) n i m h l = rw (lt-ltb (d + i) 64 (omega arith), h i l) refl

pub stores_are_valid : StoresAreValid
stores_are_valid sizes d q n m h = all_pass (is_valid_item sizes) (store_member_byte d q) n (λ i l. store_valid sizes d q n i m h l)

fetch_plain : (p : Location) (i : ℕ) → list_all is_plain (fetch_byte p i) ≡ true
fetch_plain (InRegisters r) i = refl
fetch_plain (InMemory o k) i = refl

member_plain : (d : ℕ) (q : Location) (i : ℕ) → list_all is_plain (member_byte d q i) ≡ true
member_plain d (InRegisters r) i = refl
member_plain d (InMemory o k) i = refl

further_plain : (d : ℕ) (q : Location) (n : ℕ) → list_all is_plain (load_further_code d q n) ≡ true
further_plain d q n =
    both is_plain (go_on_code d) (flash_bytes q n)
    (all_either is_plain (d == 0) [] (Plain (Adiw 30 d) ∷ []) (λ e. refl) refl)
    (all_pass is_plain (flash_byte q) n (λ i l. flash_plain q i))

store_plain : (d : ℕ) (q : Location) (i : ℕ) → list_all is_plain (store_member_byte d q i) ≡ true
store_plain d (InRegisters r) i = refl
store_plain d (InMemory o k) i = refl

pub fetches_have_no_label : FetchesHaveNoLabel
fetches_have_no_label d p q n = (
  has_no_label (fetch_code p n) (all_pass is_plain (fetch_byte p) n (λ i l. fetch_plain p i)),
  has_no_label (point_code p) (point_plain p),
  has_no_label (load_member_code d q n) (all_pass is_plain (member_byte d q) n (λ i l. member_plain d q i)),
  has_no_label (load_further_code d q n) (further_plain d q n),
  has_no_label (load_tagged_code d q n)
      (tagged_passes is_plain d q n refl refl (all_pass is_plain (member_byte d q) n (λ i l. member_plain d q i)) refl
      (further_plain d q n)),
  has_no_label (store_member_code d q n) (all_pass is_plain (store_member_byte d q) n (λ i l. store_plain d q i)),
)
