-- Loads from the data and the flash bank, and stores.
use Rattle.std.proofs.Common.{◌≡◌, ◌≢◌, ℕ, zero, suc, ◌+◌, ◌/◌, ◌%◌, ◌<◌, ◌≤◌, ◌==◌, ⊎_elim, Bool, true, false}
use Rattle.std.proofs.Common.{[], ◌∷◌, refl, sym, ap, ◌∙◌, subst, arith, append-nil}
use Rattle.std.specs.Prelude.{slice_index, if◌then◌else◌}
use Rattle.std.proofs.lemmas.Bool.{cases_eq}
use Rattle.ec_space.specs.declared.space.Bank.TheVariants.{Flash as FlashBank, Data as DataBank}
use Rattle.ec_isa.specs.declared.instructions.Instr.TheVariants.{Movw}
use Rattle.ec_avr.specs.declared.machine.Access.TheVariants.{Read, Write}
use Rattle.ec_avr.specs.State.{raised}
use Rattle.ec_asm.specs.declared.items.AsmItem.TheVariants.{Plain, LoadPart}
use Rattle.ec_asm.specs.declared.pieces.Location.{Location}
use Rattle.ec_asm.specs.declared.pieces.Location.TheVariants.{InRegisters, InMemory}
use Rattle.ec_asm.specs.View.{View, put, pair}
use Rattle.ec_asm.specs.Change.{Env, Own, change}
use Rattle.ec_asm.specs.Items.{block, part_of}
use Rattle.ec_asm.specs.Pieces.{StandsFrom, Outside, copy_code}
use Rattle.ec_asm.specs.PieceLaws.{IsReadFirst, CopiesAreRight}
use Rattle.ec_asm.proofs.Bytes.{put_other}
use Rattle.ec_asm.proofs.Hoare.{block-append, chain_holds}
use Rattle.ec_asm.proofs.Sum.{not_yet}
use Rattle.ec_select_pointers.specs.Accesses.{point_code, data_byte, data_bytes, flash_byte, flash_bytes, store_byte}
use Rattle.ec_select_pointers.specs.Accesses.{store_bytes}
use Rattle.ec_select_pointers.specs.AccessLaws.{each, Brings, LeavesZ, AreData, AreFlash, data_at}
use Rattle.ec_select_pointers.specs.AccessLaws.{flash_at, address_in, DataIsLoaded, FlashIsLoaded, TableIsLoaded}
use Rattle.ec_select_pointers.specs.AccessLaws.{DataIsStored}
use Rattle.ec_select_pointers.proofs.Blocks.{outside_ne}
use Rattle.ec_select_pointers.proofs.Brought.{BringsByte, BringsTo, one_brought, data_is_brought, flash_is_brought}
use Rattle.ec_select_pointers.proofs.Brought.{byte_is_stored}

pub part_outside : (a m n k : ℕ) → m ≤ n → Outside a n k → Outside a m k
part_outside a m n k l o h = let b = o h in omega arith

-- one of n bytes that leave Z alone
pub not_low : (a n i : ℕ) → LeavesZ a n → i < n → a + i ≢ 30
not_low a n i h l q = outside_ne a n 30 i h.low l (sym q)

pub not_high : (a n i : ℕ) → LeavesZ a n → i < n → a + i ≢ 31
not_high a n i h l q = outside_ne a n 31 i h.high l (sym q)

-- ---- Z is set

-- Z has the address, and nothing else has changed that is to be kept
pub record Points (v : View) (a t : ℕ) (byte : ℕ → ℕ) (w : View) : Type 0 where
  pub pointer : pair w.at 30 ≡ address_in v a
  pub brings : Brings v t 0 byte [] w

copied : (copies : CopiesAreRight) (e : Env) (p : Location) (m a t : ℕ) (byte : ℕ → ℕ) (v : View) → 2 ≤ m
    → StandsFrom e p m a Own → LeavesZ a m → Points v a t byte (block e (copy_code p (InRegisters 30) 2) v)
copied copies e p m a t byte v two s z =
    let w = block e (copy_code p (InRegisters 30) 2) v in
    let from : StandsFrom e p 2 a Own = record {
      at = λ i l. s.at i (omega arith);
      kind = λ i l. s.kind i (omega arith);
      clear = s.clear;
    } in
    let to : StandsFrom e (InRegisters 30) 2 30 Own = record { at = λ i l. refl; kind = λ i l. refl; clear = omega arith } in
    let c = copies e p (InRegisters 30) 2 a 30 Own Own v from to refl refl (λ l. let b = z.low (omega arith) in omega arith) in
    let low : w.at 30 ≡ v.at (a + 0) = c.there 0 (omega arith) in
    let high : w.at 31 ≡ v.at (a + 1) = c.there 1 (omega arith) in
    let ua = s.clear in
    record {
      pointer = rw (low, high) (omega arith);
      brings = record {
        there = λ j l. absurd (omega arith);
        numbers = λ n l k u.
            ⊎_elim
            (λ (q : k ≡ 30). rw (q, low) (n (a + 0) (omega arith)))
            (λ (q : k ≢ 30).
            ⊎_elim
            (λ (r : k ≡ 31). rw (r, high) (n (a + 1) (omega arith)))
            (λ (r : k ≢ 31). rw (c.same k (omega arith) (λ o. omega (arith, q, r))) (n k u))
            (cases_eq k 31))
            (cases_eq k 30);
        same = λ k n0 n30 n31 o. c.same k n0 (λ h. omega (arith, n30, n31));
        flags = c.flags;
        inputs = c.inputs;
        safe = c.safe;
        seen = c.seen;
      };
    }

-- by one MOVW
at_once : (e : Env) (a t : ℕ) (byte : ℕ → ℕ) (v : View) → 2 ≤ a → Points v a t byte (change e (Movw 30 a) v)
at_once e a t byte v two =
    let n = pair v.at a in
    let g = put v.at 30 (n % 256) in
    let w = change e (Movw 30 a) v in
    let other : (k : ℕ) → k ≢ 30 → k ≢ 31 → w.at k ≡ v.at k =
    λ k n30 n31. put_other g 31 (n / 256) k n31 ∙ put_other v.at 30 (n % 256) k n30 in
    let same : a + 0 ≡ a = omega arith in
    record {
      pointer = rw same (omega arith);
      brings = record {
        there = λ j l. absurd (omega arith);
        numbers = λ h l k u.
            let low = h a (omega arith) in
            let high = h (a + 1) (omega arith) in
            ⊎_elim
            (λ (q : k ≡ 30). rw q (omega arith))
            (λ (q : k ≢ 30).
            ⊎_elim
            (λ (r : k ≡ 31). rw r (omega (arith, low, high)))
            (λ (r : k ≢ 31). rw (other k q r) (h k u))
            (cases_eq k 31))
            (cases_eq k 30);
        same = λ k n0 n30 n31 o. other k n30 n31;
        flags = refl;
        inputs = refl;
        safe = refl;
        seen = sym (append-nil v.seen);
      };
    }

by_evenness : (copies : CopiesAreRight) (e : Env) (r m a t : ℕ) (byte : ℕ → ℕ) (v : View) (b : Bool) → 2 ≤ m
    → StandsFrom e (InRegisters r) m a Own → LeavesZ a m
    → Points v a t byte (block e (if b then Plain (Movw 30 r) ∷ [] else copy_code (InRegisters r) (InRegisters 30) 2) v)
by_evenness copies e r m a t byte v true two s z =
    let first : r + 0 ≡ a + 0 = s.at 0 (omega arith) in
    let is : r ≡ a = omega (arith, first) in
    rw is (at_once e a t byte v s.clear)
by_evenness copies e r m a t byte v false two s z = copied copies e (InRegisters r) m a t byte v two s z

pub pointed : (copies : CopiesAreRight) (e : Env) (p : Location) (m a t : ℕ) (byte : ℕ → ℕ) (v : View) → 2 ≤ m
    → StandsFrom e p m a Own → LeavesZ a m → Points v a t byte (block e (point_code p) v)
pointed copies e (InRegisters r) m a t byte v two s z = by_evenness copies e r m a t byte v (r % 2 == 0) two s z
pointed copies e (InMemory o k) m a t byte v two s z = copied copies e (InMemory o k) m a t byte v two s z

-- ---- the bytes

pub data_brought : (e : Env) (q : Location) (n b z : ℕ) (v0 v1 : View) → StandsFrom e q n b Own → LeavesZ b n
    → AreData e z n → IsReadFirst z b n → BringsTo v0 b (data_at v0 z) (Read DataBank) z (λ i. z) 0 v1
    → BringsTo v0 b (data_at v0 z) (Read DataBank) z (λ i. z) n (block e (data_bytes q n) v1)
data_brought e q n b z v0 v1 s leaves held first start =
    chain_holds e (data_byte q) (BringsTo v0 b (data_at v0 z) (Read DataBank) z (λ i. z)) n step v1 start
  where
    step : (i : ℕ) → i < n → (v : View) → BringsTo v0 b (data_at v0 z) (Read DataBank) z (λ i. z) i v
        → BringsTo v0 b (data_at v0 z) (Read DataBank) z (λ i. z) (suc i) (block e (data_byte q i) v)
    step i l v h =
        let w = block e (data_byte q i) v in
        let room = held.room in
        let above = held.above in
        let at : (pair v.at 30 + i) % 65536 ≡ z + i = ap (λ k. (k + i) % 65536) h.pointer ∙ omega arith in
        let o = data_is_brought e q i (b + i) (z + i) v (s.at i l) (s.kind i l) at (held.kind i l)
        (not_low b n i leaves l) (not_high b n i leaves l) in
        let was : v.at (z + i) ≡ v0.at (z + i) =
        h.brings.same (z + i) (omega arith) (omega arith) (omega arith) (not_yet z b n i first l) in
        one_brought b i (v.at (z + i)) (data_at v0 z) (Read DataBank) z (λ i. z) v0 v w s.clear
        (part_outside b (suc i) n 30 l leaves.low) (part_outside b (suc i) n 31 l leaves.high) was h
        (subst (λ k. BringsByte v w (b + i) (v.at (z + i)) (Read DataBank (z + i) (v.at (z + i))) k) h.pointer o)

pub flash_brought : (e : Env) (q : Location) (n b z : ℕ) (v0 v1 : View) → StandsFrom e q n b Own → LeavesZ b n
    → AreFlash e z n → BringsTo v0 b (flash_at e z) (Read FlashBank) z (λ i. (z + i) % 65536) 0 v1
    → BringsTo v0 b (flash_at e z) (Read FlashBank) z (λ i. (z + i) % 65536) n (block e (flash_bytes q n) v1)
flash_brought e q n b z v0 v1 s leaves flash start =
    chain_holds e (flash_byte q) (BringsTo v0 b (flash_at e z) (Read FlashBank) z (λ i. (z + i) % 65536)) n step v1 start
  where
    step : (i : ℕ) → i < n → (v : View) → BringsTo v0 b (flash_at e z) (Read FlashBank) z (λ i. (z + i) % 65536) i v
        → BringsTo v0 b (flash_at e z) (Read FlashBank) z (λ i. (z + i) % 65536) (suc i) (block e (flash_byte q i) v)
    step i l v h =
        let w = block e (flash_byte q i) v in
        let room = flash.room in
        let at : pair v.at 30 ≡ z + i = h.pointer ∙ omega arith in
        let o = flash_is_brought e q i (b + i) (z + i) v (s.at i l) (s.kind i l) at (flash.kind i l)
        (not_low b n i leaves l) (not_high b n i leaves l) in
        let next : raised (z + i) ≡ (z + suc i) % 65536 = omega arith in
        let x = slice_index e.flash (z + i) in
        one_brought b i x (flash_at e z) (Read FlashBank) z (λ i. (z + i) % 65536) v0 v w s.clear
        (part_outside b (suc i) n 30 l leaves.low) (part_outside b (suc i) n 31 l leaves.high) refl h
        (subst (λ k. BringsByte v w (b + i) x (Read FlashBank (z + i) x) k) next o)

data_stored : (e : Env) (p : Location) (n a z : ℕ) (v0 v1 : View) → StandsFrom e p n a Own → LeavesZ a n
    → AreData e z n → IsReadFirst a z n → BringsTo v0 z (data_at v0 a) Write z (λ i. z) 0 v1
    → BringsTo v0 z (data_at v0 a) Write z (λ i. z) n (block e (store_bytes p n) v1)
data_stored e p n a z v0 v1 s leaves held first start =
    chain_holds e (store_byte p) (BringsTo v0 z (data_at v0 a) Write z (λ i. z)) n step v1 start
  where
    step : (i : ℕ) → i < n → (v : View) → BringsTo v0 z (data_at v0 a) Write z (λ i. z) i v
        → BringsTo v0 z (data_at v0 a) Write z (λ i. z) (suc i) (block e (store_byte p i) v)
    step i l v h =
        let w = block e (store_byte p i) v in
        let room = held.room in
        let above = held.above in
        let ua = s.clear in
        let at : (pair v.at 30 + i) % 65536 ≡ z + i = ap (λ k. (k + i) % 65536) h.pointer ∙ omega arith in
        let o = byte_is_stored e p i (a + i) (z + i) v (s.at i l) (s.kind i l) at (held.kind i l) (omega arith) (omega arith) in
        let was : v.at (a + i) ≡ v0.at (a + i) =
        h.brings.same (a + i) (omega arith) (not_low a n i leaves l) (not_high a n i leaves l) (not_yet a z n i first l) in
        one_brought z i (v.at (a + i)) (data_at v0 a) Write z (λ i. z) v0 v w (omega arith)
        (λ q. absurd (omega arith)) (λ q. absurd (omega arith)) was h
        (subst (λ k. BringsByte v w (z + i) (v.at (a + i)) (Write (z + i) (v.at (a + i))) k) h.pointer o)

-- ---- laws

pub data_is_loaded : CopiesAreRight → DataIsLoaded
data_is_loaded copies e p q n a b v has held first =
    let z = address_in v a in
    let at = pointed copies e p 2 a b (data_at v z) v (omega arith) has.pointer has.pointer_leaves in
    let v1 = block e (point_code p) v in
    let r = data_brought e q n b z v v1 has.number has.number_leaves held first (record { pointer = at.pointer; brings = at.brings }) in
    rw (block-append e (point_code p) (data_bytes q n) v) r.brings

-- with no bytes at all Z is not looked at
pub flash_follows : (e : Env) (q : Location) (n b z : ℕ) (v v1 : View) → StandsFrom e q n b Own → LeavesZ b n
    → AreFlash e z n → pair v1.at 30 ≡ z → Brings v b 0 (flash_at e z) [] v1
    → Brings v b n (flash_at e z) (each (Read FlashBank) z (flash_at e z) n) (block e (flash_bytes q n) v1)
flash_follows e q zero b z v v1 s leaves flash at h = h
flash_follows e q (suc n) b z v v1 s leaves flash at h =
    let room = flash.room in
    let start : z ≡ (z + 0) % 65536 = omega arith in
    (flash_brought e q (suc n) b z v v1 s leaves flash (record { pointer = at ∙ start; brings = h })).brings

pub flash_is_loaded : CopiesAreRight → FlashIsLoaded
flash_is_loaded copies e p q n a b v has flash =
    let z = address_in v a in
    let at = pointed copies e p 2 a b (flash_at e z) v (omega arith) has.pointer has.pointer_leaves in
    let v1 = block e (point_code p) v in
    let r = flash_follows e q n b z v v1 has.number has.number_leaves flash at.pointer at.brings in
    rw (block-append e (point_code p) (flash_bytes q n) v) r

pub data_is_stored : CopiesAreRight → DataIsStored
data_is_stored copies e p q n a b v has held first =
    let z = address_in v b in
    let at = pointed copies e q 2 b z (data_at v a) v (omega arith) has.pointer has.pointer_leaves in
    let v1 = block e (point_code q) v in
    let r = data_stored e p n a z v v1 has.number has.number_leaves held first (record { pointer = at.pointer; brings = at.brings }) in
    rw (block-append e (point_code q) (store_bytes p n) v) r.brings

-- ---- from a place in the flash bank

-- Z is set to an address, byte by byte
pub parts_set : (e : Env) (o k b : ℕ) (byte : ℕ → ℕ) (v : View)
    → Brings v b 0 byte [] (block e (LoadPart 30 o k 0 ∷ LoadPart 31 o k 1 ∷ []) v)
parts_set e o k b byte v =
    let a = e.address_of o k in
    let g = put v.at 30 (part_of a 0) in
    let other : (i : ℕ) → i ≢ 30 → i ≢ 31 → put g 31 (part_of a 1) i ≡ v.at i =
    λ i n30 n31. put_other g 31 (part_of a 1) i n31 ∙ put_other v.at 30 (part_of a 0) i n30 in
    record {
      there = λ j l. absurd (omega arith);
      numbers = λ h l i u.
          ⊎_elim
          (λ (q : i ≡ 30). rw q (omega arith))
          (λ (q : i ≢ 30).
          ⊎_elim
          (λ (r : i ≡ 31). rw r (omega arith))
          (λ (r : i ≢ 31). rw (other i q r) (h i u))
          (cases_eq i 31))
          (cases_eq i 30);
      same = λ i n0 n30 n31 o. other i n30 n31;
      flags = refl;
      inputs = refl;
      safe = refl;
      seen = sym (append-nil v.seen);
    }

pub table_is_loaded : TableIsLoaded
table_is_loaded e q o k zero b v s leaves flash = parts_set e o k b (flash_at e (e.address_of o k)) v
table_is_loaded e q o k (suc n) b v s leaves flash =
    let z = e.address_of o k in
    let v1 = block e (LoadPart 30 o k 0 ∷ LoadPart 31 o k 1 ∷ []) v in
    let room = flash.room in
    let at : pair v1.at 30 ≡ z = omega (arith, room) in
    flash_follows e q (suc n) b z v v1 s leaves flash at (parts_set e o k b (flash_at e z) v)
