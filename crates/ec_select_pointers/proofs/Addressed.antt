-- The address of a place put to a pointer, and an offset added to one.
use Rattle.std.proofs.Common.{◌≡◌, ◌≢◌, ℕ, zero, suc, ◌+◌, ◌-◌, ◌*◌, ◌/◌, ◌%◌, ◌<◌, ◌≤◌, ◌==◌, ⊎_elim, Bool, true}
use Rattle.std.proofs.Common.{false, [], ◌∷◌, ◌++◌, Option, Some, None, refl, sym, ap, ◌∙◌, subst, arith}
use Rattle.std.specs.Prelude.{nat_le, nat_lt, if◌then◌else◌}
use Rattle.std.specs.Int.{from_bool}
use Rattle.std.proofs.lemmas.Bool.{cases_eq, cases_lt, and_parts, eqb-true, eqb-false}
use Rattle.std.proofs.lemmas.Bool.Decides.{nat_tests}
use Rattle.ec_isa.specs.declared.instructions.Instr.TheVariants.{Ldi, Mov, Movw, Subi, Sbci}
use Rattle.ec_avr.specs.Flags.{byte_difference}
use Rattle.ec_asm.specs.declared.items.AsmItem.{AsmItem}
use Rattle.ec_asm.specs.declared.items.AsmItem.TheVariants.{Plain, LoadPart}
use Rattle.ec_asm.specs.declared.pieces.Location.{Location}
use Rattle.ec_asm.specs.declared.pieces.Location.TheVariants.{InRegisters, InMemory}
use Rattle.ec_asm.specs.View.{Flags, View, pair, put, put_pair}
use Rattle.ec_asm.specs.Change.{Env, Own, set, set_both, change, difference_flags}
use Rattle.ec_asm.specs.Items.{block, item_change, part_of}
use Rattle.ec_asm.specs.Pieces.{address, KindIs, StandsFrom, Outside, value, carry_at, zero_at}
use Rattle.ec_asm.specs.PieceLaws.{HoldsNumbers}
use Rattle.ec_asm.proofs.Bytes.{put_here, put_other}
use Rattle.ec_asm.proofs.Hoare.{block-append}
use Rattle.ec_select_pointers.specs.Addresses.{is_low_pair, set_byte, part_byte, parts_code, parts_pair, both_parts, tag_code}
use Rattle.ec_select_pointers.specs.Addresses.{address_code, rest_of, subtracts, subtract_byte, subtract_each, subtract_pair}
use Rattle.ec_select_pointers.specs.Addresses.{subtract_both}
use Rattle.ec_select_pointers.specs.AddressLaws.{HasPut, AddressesAreRight, FieldsAreRight}
use Rattle.ec_select_pointers.specs.Far.{far_address_code, far_rest_of}
use Rattle.ec_select_pointers.specs.FarLaws.{FarAddressesAreRight, FarFieldsAreRight}
use Rattle.ec_select_pointers.proofs.Blocks.{outside_ne, fewer}

-- ---- one byte

-- a byte was put to address a, maybe through R30
record PutsByte (v w : View) (a x : ℕ) (f : Flags) : Type 0 where
  here : w.at a ≡ x
  same : (k : ℕ) → k ≢ 30 → k ≢ a → w.at k ≡ v.at k
  work : x < 256 → v.at 30 < 256 → w.at 30 < 256
  flags : w.flags ≡ f
  inputs : w.inputs ≡ v.inputs
  safe : w.safe ≡ v.safe
  seen : w.seen ≡ v.seen

-- R30 has either the byte or what it had
work_is : (g : ℕ → ℕ) (a x old : ℕ) → g 30 < 256 → x < 256 → (if 30 == a then x else g 30) < 256
work_is g a x old l m = ⊎_elim (λ (q : 30 ≡ a). rw (put_here g a x 30 q) m) (λ (q : 30 ≢ a). rw (put_other g a x 30 q) l) (cases_eq 30 a)

direct : (a x : ℕ) (f : Flags) (v : View) → PutsByte v (set_both a x f v) a x f
direct a x f v = record {
  here = put_here v.at a x a refl;
  same = λ k z n. put_other v.at a x k n;
  work = λ m l. work_is v.at a x 0 l m;
  flags = refl;
  inputs = refl;
  safe = refl;
  seen = refl;
}

-- a view in which R30 alone has changed, and then the byte is put
through : (a x : ℕ) (v u : View) → u.at 30 ≡ x → ((k : ℕ) → k ≢ 30 → u.at k ≡ v.at k) → u.inputs ≡ v.inputs
    → u.safe ≡ v.safe → u.seen ≡ v.seen → PutsByte v (set a (u.at 30) u) a x u.flags
through a x v u h same i s n = record {
  here = put_here u.at a (u.at 30) a refl ∙ h;
  same = λ k z m. put_other u.at a (u.at 30) k m ∙ same k z;
  work = λ m l. let b : u.at 30 < 256 = rw h m in work_is u.at a (u.at 30) 0 b b;
  flags = refl;
  inputs = i;
  safe = s;
  seen = n;
}

-- ---- an item that sets a register to a byte

abbrev IsSetter : Env → (ℕ → AsmItem) → ℕ → Type 0
IsSetter e make x = (d : ℕ) (v : View) → item_change e (make d) v ≡ set d x v

set_by_reach : (e : Env) (make : ℕ → AsmItem) (x a : ℕ) (v : View) (b : Bool) → IsSetter e make x
    → PutsByte v (block e (if b then make a ∷ [] else make 30 ∷ Plain (Mov a 30) ∷ []) v) a x v.flags
set_by_reach e make x a v true h = rw (h a v) (direct a x v.flags v)
set_by_reach e make x a v false h =
    rw (h 30 v) (through a x v (set 30 x v) refl (λ k z. put_other v.at 30 x k z) refl refl refl)

byte_is_set : (e : Env) (make : ℕ → AsmItem) (x : ℕ) (q : Location) (i a : ℕ) (v : View) → IsSetter e make x
    → address e q i ≡ a → KindIs e q a Own → PutsByte v (block e (set_byte make q i) v) a x v.flags
byte_is_set e make x (InRegisters r) i a v h p k = rw p (set_by_reach e make x a v (nat_le 16 a) h)
byte_is_set e make x (InMemory o j) i a v h p k =
    rw (p, h 30 v, k) (through a x v (set 30 x v) refl (λ k z. put_other v.at 30 x k z) refl refl refl)

-- ---- several bytes

-- the first i bytes are those that are given
record PutTo (v0 : View) (a : ℕ) (byte : ℕ → ℕ) (i : ℕ) (v : View) : Type 0 where
  there : (j : ℕ) → j < i → v.at (a + j) ≡ byte j
  numbers : HoldsNumbers v0 → HoldsNumbers v
  same : (k : ℕ) → k ≢ 30 → Outside a i k → v.at k ≡ v0.at k
  inputs : v.inputs ≡ v0.inputs
  safe : v.safe ≡ v0.safe
  seen : v.seen ≡ v0.seen

none_put : (a : ℕ) (byte : ℕ → ℕ) (v : View) → PutTo v a byte 0 v
none_put a byte v = record {
  there = λ j l. absurd (omega arith);
  numbers = λ h. h;
  same = λ k z o. refl;
  inputs = refl;
  safe = refl;
  seen = refl;
}

one_put : (a i x : ℕ) (byte : ℕ → ℕ) (f : Flags) (v0 v w : View) → Outside a (suc i) 30 → byte i ≡ x → x < 256
    → PutTo v0 a byte i v → PutsByte v w (a + i) x f → PutTo v0 a byte (suc i) w
one_put a i x byte f v0 v w far is small h o = record {
  there = λ j m.
      ⊎_elim
      (λ (q : j ≡ i). rw q (o.here ∙ sym is))
      (λ (q : j ≢ i). o.same (a + j) (λ t. outside_ne a (suc i) 30 j far m (sym t)) (λ t. q (omega arith)) ∙ h.there j (omega (arith, q)))
      (cases_eq j i);
  numbers = λ n k u.
      ⊎_elim
      (λ (q : k ≡ a + i). rw (q, o.here) small)
      (λ (q : k ≢ a + i).
      ⊎_elim
      (λ (t : k ≡ 30). rw t (o.work small (h.numbers n 30 (omega arith))))
      (λ (t : k ≢ 30). rw (o.same k t q) (h.numbers n k u))
      (cases_eq k 30))
      (cases_eq k (a + i));
  same = λ k z m. o.same k z (outside_ne a (suc i) k i m (omega arith)) ∙ h.same k z (fewer a i k m);
  inputs = o.inputs ∙ h.inputs;
  safe = o.safe ∙ h.safe;
  seen = o.seen ∙ h.seen;
}

has_put : (a n number : ℕ) (byte : ℕ → ℕ) (v w : View) → PutTo v a byte n w → value w.at a n ≡ number
    → HasPut v a n number w
has_put a n number byte v w h q = record {
  number_is = q;
  numbers = h.numbers;
  same = λ k z y. h.same k z;
  inputs = h.inputs;
  safe = h.safe;
  seen = h.seen;
}

-- ---- two bytes at once, by R30 and R31

-- two bytes at y are those at x, and all others are kept
record PairIs (f g : ℕ → ℕ) (x y : ℕ) : Type 0 where
  low : g y ≡ f x
  high : g (y + 1) ≡ f (x + 1)
  other : (k : ℕ) → k ≢ y → k ≢ y + 1 → g k ≡ f k

pair_is : (f : ℕ → ℕ) (x y : ℕ) → f x < 256 → PairIs f (put_pair f y (pair f x)) x y
pair_is f x y small =
    let n = pair f x in
    let g = put f y (n % 256) in
    let first : n % 256 ≡ f x = omega (arith, small) in
    let second : n / 256 ≡ f (x + 1) = omega (arith, small) in
    record {
      low = put_other g (y + 1) (n / 256) y (omega arith) ∙ put_here f y (n % 256) y refl ∙ first;
      high = put_here g (y + 1) (n / 256) (y + 1) refl ∙ second;
      other = λ k p q. put_other g (y + 1) (n / 256) k q ∙ put_other f y (n % 256) k p;
    }

-- two registers below R16
low_pair : (r : ℕ) → is_low_pair r ≡ true → r < 16
low_pair r q = let x = (and_parts (nat_lt r 16) (r % 2 == 0) q).0 in grind (arith, nat_tests, x)

-- bytes were put as if R31 had had before what it has behind them
record PutBeside (v : View) (a : ℕ) (byte : ℕ → ℕ) (i : ℕ) (w : View) : Type 0 where
  from : View
  work : (k : ℕ) → k ≢ 31 → from.at k ≡ v.at k
  numbers : HoldsNumbers v → HoldsNumbers from
  inputs : from.inputs ≡ v.inputs
  safe : from.safe ≡ v.safe
  seen : from.seen ≡ v.seen
  put : PutTo from a byte i w

put_alone : (a i : ℕ) (byte : ℕ → ℕ) (v w : View) → PutTo v a byte i w → PutBeside v a byte i w
put_alone a i byte v w h = record {
  from = v;
  work = λ k z. refl;
  numbers = λ n. n;
  inputs = refl;
  safe = refl;
  seen = refl;
  put = h;
}

has_put_beside : (a n number : ℕ) (byte : ℕ → ℕ) (v w : View) → PutBeside v a byte n w → value w.at a n ≡ number
    → HasPut v a n number w
has_put_beside a n number byte v w h q = record {
  number_is = q;
  numbers = λ m. h.put.numbers (h.numbers m);
  same = λ k z y o. h.put.same k z o ∙ h.work k y;
  inputs = h.put.inputs ∙ h.inputs;
  safe = h.put.safe ∙ h.safe;
  seen = h.put.seen ∙ h.seen;
}

-- two bytes that are in R30 and R31 are put to a
module _ (e : Env) (a x0 x1 : ℕ) (byte : ℕ → ℕ) (v v2 : View) (low : a + 2 ≤ 30) (some : 2 ≤ a) (s0 : x0 < 256) (s1 : x1 < 256)
    (b0 : byte 0 ≡ x0) (b1 : byte 1 ≡ x1) (r30 : v2.at 30 ≡ x0) (r31 : v2.at 31 ≡ x1)
    (others : (k : ℕ) → k ≢ 30 → k ≢ 31 → v2.at k ≡ v.at k) (inputs_are : v2.inputs ≡ v.inputs) (safe_is : v2.safe ≡ v.safe)
    (seen_is : v2.seen ≡ v.seen) where
  abbrev u : View
  u = set 31 x1 v

  abbrev w : View
  w = change e (Movw a 30) v2

  moved : PairIs v2.at w.at 30 a
  moved = pair_is v2.at 30 a (subst (λ t. t < 256) (sym r30) s0)

  work : w.at 30 ≡ x0
  work = moved.other 30 (omega (arith, low)) (omega (arith, low)) ∙ r30

  high_work : w.at 31 ≡ x1
  high_work = moved.other 31 (omega (arith, low)) (omega (arith, low)) ∙ r31

  first : w.at a ≡ x0
  first = moved.low ∙ r30

  second : w.at (a + 1) ≡ x1
  second = moved.high ∙ r31

  there : (j : ℕ) → j < 2 → w.at (a + j) ≡ byte j
  there j l =
      ⊎_elim
      (λ (q : j ≡ 0). let i : a + j ≡ a = omega (arith, q) in ap w.at i ∙ first ∙ sym b0 ∙ ap byte (sym q))
      (λ (q : j ≢ 0). let t : j ≡ 1 = omega (arith, l, q) in ap (λ i. w.at (a + i)) t ∙ second ∙ sym b1 ∙ ap byte (sym t))
      (cases_eq j 0)

  same : (k : ℕ) → k ≢ 30 → k ≢ a → k ≢ a + 1 → w.at k ≡ u.at k
  same k n30 na nb =
      ⊎_elim
      (λ (q : k ≡ 31). ap w.at q ∙ high_work ∙ sym (put_here v.at 31 x1 31 refl) ∙ ap u.at (sym q))
      (λ (q : k ≢ 31). moved.other k na nb ∙ others k n30 q ∙ sym (put_other v.at 31 x1 k q))
      (cases_eq k 31)

  numbers_are : HoldsNumbers u → HoldsNumbers w
  numbers_are h k l =
      ⊎_elim (λ (q : k ≡ 30). rw (q, work) s0)
      (λ (n30 : k ≢ 30).
      ⊎_elim (λ (q : k ≡ a). rw (q, first) s0)
      (λ (na : k ≢ a).
      ⊎_elim (λ (q : k ≡ a + 1). rw (q, second) s1) (λ (nb : k ≢ a + 1). rw (same k n30 na nb) (h k l)) (cases_eq k (a + 1)))
      (cases_eq k a))
      (cases_eq k 30)

  number_beside : HoldsNumbers v → HoldsNumbers u
  number_beside h k l =
      ⊎_elim (λ (q : k ≡ 31). rw (q, put_here v.at 31 x1 31 refl) s1) (λ (q : k ≢ 31). rw (put_other v.at 31 x1 k q) (h k l))
      (cases_eq k 31)

  both_put : PutBeside v a byte 2 w
  both_put = record {
    from = u;
    work = λ k z. put_other v.at 31 x1 k z;
    numbers = number_beside;
    inputs = refl;
    safe = refl;
    seen = refl;
    put = record {
      there = there;
      numbers = numbers_are;
      same = λ k z o.
          same k z (λ q. let m = o (omega (arith, q)) in omega (arith, m, q)) (λ q. let m = o (omega (arith, q)) in omega (arith, m, q));
      inputs = inputs_are;
      safe = safe_is;
      seen = seen_is;
    };
  }

-- ---- addresses

-- the bytes of a pointer
abbrev pointer_byte : (address : ℕ) → Option ℕ → ℕ → ℕ
pointer_byte n tag zero = part_of n 0
pointer_byte n tag (suc zero) = part_of n 1
pointer_byte n None (suc (suc i)) = 0
pointer_byte n (Some tag) (suc (suc i)) = tag

address_put : (e : Env) (q : Location) (object offset a : ℕ) (tag : Option ℕ) (m : ℕ) (v : View) → 2 ≤ m
    → StandsFrom e q m a Own → Outside a m 30 → let n = e.address_of object offset in
    let w = block e (part_byte object offset q 1) (block e (part_byte object offset q 0) v) in
    PutTo v a (pointer_byte n tag) 2 w × (w.flags ≡ v.flags)
address_put e q object offset a tag m v two s far =
    let n = e.address_of object offset in
    let v1 = block e (part_byte object offset q 0) v in
    let o0 = byte_is_set e (λ d. LoadPart d object offset 0) (part_of n 0) q 0 (a + 0) v (λ d u. refl)
    (s.at 0 (omega arith)) (s.kind 0 (omega arith)) in
    let o1 = byte_is_set e (λ d. LoadPart d object offset 1) (part_of n 1) q 1 (a + 1) v1 (λ d u. refl)
    (s.at 1 (omega arith)) (s.kind 1 (omega arith)) in
    let p1 = one_put a 0 (part_of n 0) (pointer_byte n tag) v.flags v v v1 (λ l. let f = far l in omega arith) refl (omega arith)
    (none_put a (pointer_byte n tag) v) o0 in
    let p2 = one_put a 1 (part_of n 1) (pointer_byte n tag) v1.flags v v1 _ (λ l. let f = far l in omega arith) refl (omega arith) p1 o1 in
    (p2, o1.flags ∙ o0.flags)

-- both bytes of an address are put, one after another or at once
both_parts_put : (e : Env) (q : Location) (object offset a : ℕ) (tag : Option ℕ) (m : ℕ) (v : View) → 2 ≤ m
    → StandsFrom e q m a Own → Outside a m 30 → let n = e.address_of object offset in
    let w = block e (both_parts object offset q) v in
    PutBeside v a (pointer_byte n tag) 2 w × (w.flags ≡ v.flags)
both_parts_put e q object offset a tag m v two s far = by_place q s
  where
    n : ℕ
    n = e.address_of object offset

    Puts : View → Type 0
    Puts w = PutBeside v a (pointer_byte n tag) 2 w × (w.flags ≡ v.flags)

    each : (q : Location) → StandsFrom e q m a Own → Puts (block e (parts_code object offset q) v)
    each q st =
        let v1 = block e (part_byte object offset q 0) v in
        let w = block e (part_byte object offset q 1) v1 in
        let h = address_put e q object offset a tag m v two st far in
        subst Puts (sym (block-append e (part_byte object offset q 0) (part_byte object offset q 1) v))
        (put_alone a 2 (pointer_byte n tag) v w h.0, h.1)

    at_once : a + 2 ≤ 30 → 2 ≤ a → Puts (block e (parts_pair object offset a) v)
    at_once low some =
        let x0 = part_of n 0 in
        let x1 = part_of n 1 in
        let v1 = set 30 x0 v in
        let v2 = set 31 x1 v1 in (
          both_put e a x0 x1 (pointer_byte n tag) v v2 low some (omega arith) (omega arith) refl refl
              (put_other v1.at 31 x1 30 (omega arith) ∙ put_here v.at 30 x0 30 refl) (put_here v1.at 31 x1 31 refl)
              (λ k z y. put_other v1.at 31 x1 k y ∙ put_other v.at 30 x0 k z) refl refl refl,
          refl,
        )

    by_test : (r : ℕ) (b : Bool) → is_low_pair r ≡ b → StandsFrom e (InRegisters r) m a Own
        → Puts (block e (if b then parts_pair object offset r else parts_code object offset (InRegisters r)) v)
    by_test r false t st = each (InRegisters r) st
    by_test r true t st =
        let below = low_pair r t in
        let h = st.at 0 (omega (arith, two)) in
        let is : r ≡ a = omega (arith, h) in
        subst (λ x. Puts (block e (parts_pair object offset x) v)) (sym is) (at_once (omega (arith, is, below)) st.clear)

    by_place : (q : Location) → StandsFrom e q m a Own → Puts (block e (both_parts object offset q) v)
    by_place (InRegisters r) st = by_test r (is_low_pair r) refl st
    by_place (InMemory o k) st = each (InMemory o k) st

pub addresses_are_right : AddressesAreRight
addresses_are_right e q object offset a None v t s far =
    let n = e.address_of object offset in
    let p = both_parts_put e q object offset a None 2 v (omega arith) s far in
    let w = block e (both_parts object offset q) v in
    let b0 = p.0.put.there 0 (omega arith) in
    let b1 = p.0.put.there 1 (omega arith) in
    let same : block e (address_code object offset None q) v ≡ w = block-append e (both_parts object offset q) [] v in
    let number : value w.at a 2 ≡ n % 65536 = rw (b0, b1) (omega arith) in
    rw same (has_put_beside a 2 (n % 65536) (pointer_byte n None) v w p.0 number, p.1)
addresses_are_right e q object offset a (Some tag) v t s far =
    let n = e.address_of object offset in
    let byte = pointer_byte n (Some tag) in
    let p = both_parts_put e q object offset a (Some tag) 3 v (omega arith) s far in
    let v2 = block e (both_parts object offset q) v in
    let w = block e (tag_code (Some tag) q) v2 in
    let o = byte_is_set e (λ d. Plain (Ldi d tag)) tag q 2 (a + 2) v2 (λ d u. refl) (s.at 2 (omega arith)) (s.kind 2 (omega arith)) in
    let p3 = one_put a 2 tag byte v2.flags p.0.from v2 w far refl t p.0.put o in
    let b0 = p3.there 0 (omega arith) in
    let b1 = p3.there 1 (omega arith) in
    let b2 = p3.there 2 (omega arith) in
    let same : block e (address_code object offset (Some tag) q) v ≡ w =
    block-append e (both_parts object offset q) (tag_code (Some tag) q) v in
    let number : value w.at a 3 ≡ n % 65536 + tag * 65536 = rw (b0, b1, b2) (omega arith) in
    let all : PutBeside v a byte 3 w = record {
      from = p.0.from;
      work = p.0.work;
      numbers = p.0.numbers;
      inputs = p.0.inputs;
      safe = p.0.safe;
      seen = p.0.seen;
      put = p3;
    } in
    rw same (has_put_beside a 3 (n % 65536 + tag * 65536) byte v w all number, o.flags ∙ p.1)

-- ---- a constant subtracted

subtracts_change : (e : Env) (i d k : ℕ) (v : View) → change e (subtracts i d k) v
    ≡ set_both d (byte_difference (v.at d) k (carry_at i v.flags))
    (difference_flags v.flags (v.at d) k (carry_at i v.flags) (zero_at i v.flags)) v
subtracts_change e zero d k v = refl
subtracts_change e (suc i) d k v = refl

-- what a byte leaves in its place and in the flags
abbrev left : (i x k : ℕ) → Flags → ℕ
left i x k f = byte_difference x k (carry_at i f)

abbrev flags_left : (i x k : ℕ) → Flags → Flags
flags_left i x k f = difference_flags f x k (carry_at i f) (zero_at i f)

subtracted_through : (e : Env) (i k a : ℕ) (v : View)
    → let v1 = set 30 (v.at a) v in let v2 = change e (subtracts i 30 k) v1 in
    PutsByte v (set a (v2.at 30) v2) a (left i (v.at a) k v.flags) (flags_left i (v.at a) k v.flags)
subtracted_through e i k a v =
    let x = v.at a in
    let v1 = set 30 x v in
    let u = set_both 30 (left i x k v.flags) (flags_left i x k v.flags) v1 in
    rw (subtracts_change e i 30 k v1)
    (through a (left i x k v.flags) v u refl (λ j z. put_other v1.at 30 _ j z ∙ put_other v.at 30 x j z) refl refl refl)

subtracted_by_reach : (e : Env) (i k a : ℕ) (v : View) (b : Bool)
    → let code =
    if b then Plain (subtracts i a k) ∷ []
    else Plain (Mov 30 a) ∷ Plain (subtracts i 30 k) ∷ Plain (Mov a 30) ∷ [] in
    PutsByte v (block e code v) a (left i (v.at a) k v.flags) (flags_left i (v.at a) k v.flags)
subtracted_by_reach e i k a v true =
    rw (subtracts_change e i a k v) (direct a (left i (v.at a) k v.flags) (flags_left i (v.at a) k v.flags) v)
subtracted_by_reach e i k a v false = subtracted_through e i k a v

byte_is_subtracted : (e : Env) (k : ℕ) (q : Location) (i a : ℕ) (v : View) → address e q i ≡ a → KindIs e q a Own
    → PutsByte v (block e (subtract_byte k q i) v) a (left i (v.at a) k v.flags) (flags_left i (v.at a) k v.flags)
byte_is_subtracted e k (InRegisters r) i a v p h = rw p (subtracted_by_reach e i k a v (nat_le 16 a))
byte_is_subtracted e k (InMemory o j) i a v p h = rw (p, h) (subtracted_through e i k a v)

-- ---- an offset added

-- two bytes less two bytes, with a borrow between them
abbrev low_left : (x k : ℕ) → ℕ
low_left x k = byte_difference x (k % 256) 0

abbrev high_left : (x y k : ℕ) → ℕ
high_left x y k = byte_difference y (k / 256) (from_bool (nat_lt x (k % 256 + 0)))

difference_is : (x y k : ℕ) → x < 256 → y < 256 → 0 < k → k ≤ 65536
    → low_left x k + high_left x y k * 256 ≡ (x + y * 256 + (65536 - k)) % 65536
difference_is x y k l m s n =
    ⊎_elim
    (λ (g : x < k % 256 + 0). let t : nat_lt x (k % 256 + 0) ≡ true = is_less x (k % 256 + 0) g in rw t (omega arith))
    (λ (g : k % 256 + 0 ≤ x). let t : nat_lt x (k % 256 + 0) ≡ false = is_not_less x (k % 256 + 0) g in rw t (omega arith))
    (cases_lt x (k % 256 + 0))
  where
    is_less : (a b : ℕ) → a < b → nat_lt a b ≡ true
    is_less a b h = grind (arith, nat_tests)

    is_not_less : (a b : ℕ) → b ≤ a → nat_lt a b ≡ false
    is_not_less a b h = grind (arith, nat_tests)

-- less what is missing from the offset to a multiple of 65,536
moved_is : (x offset : ℕ) → (x + (65536 - rest_of offset)) % 65536 ≡ (x + offset) % 65536
moved_is x offset = omega arith

-- the two bytes that are left
abbrev byte_left : (x y k : ℕ) → ℕ → ℕ
byte_left x y k zero = low_left x k
byte_left x y k (suc i) = high_left x y k

-- one byte after another
each_moves : (e : Env) (q : Location) (offset a : ℕ) (v : View) → (offset % 65536 == 0) ≡ false
    → StandsFrom e q 2 a Own → Outside a 2 30 → HoldsNumbers v
    → HasPut v a 2 ((value v.at a 2 + offset) % 65536) (block e (subtract_each (rest_of offset) q) v)
each_moves e q offset a v t s far h =
    let k = rest_of offset in
    let z : offset % 65536 ≢ 0 = eqb-false (offset % 65536) 0 t in
    let ua = s.clear in
    let x = v.at (a + 0) in
    let y = v.at (a + 1) in
    let xs : x < 256 = h (a + 0) (omega arith) in
    let ys : y < 256 = h (a + 1) (omega arith) in
    let code0 = subtract_byte (k % 256) q 0 in
    let code1 = subtract_byte (k / 256) q 1 in
    let v1 = block e code0 v in
    let w = block e code1 v1 in
    let o0 = byte_is_subtracted e (k % 256) q 0 (a + 0) v (s.at 0 (omega arith)) (s.kind 0 (omega arith)) in
    let o1 = byte_is_subtracted e (k / 256) q 1 (a + 1) v1 (s.at 1 (omega arith)) (s.kind 1 (omega arith)) in
    let same1 : v1.at (a + 1) ≡ y = o0.same (a + 1) (λ u. outside_ne a 2 30 1 far (omega arith) (sym u)) (omega arith) in
    let borrow : v1.flags.c ≡ from_bool (nat_lt x (k % 256 + 0)) = ap (λ f. f.c) o0.flags in
    let byte = byte_left x y k in
    let l1 : byte 1 ≡ left 1 (v1.at (a + 1)) (k / 256) v1.flags = rw (same1, borrow) refl in
    let p1 = one_put a 0 (low_left x k) byte (flags_left 0 x (k % 256) v.flags) v v v1 (λ l. let f = far l in omega arith) refl
    (omega arith) (none_put a byte v) o0 in
    let p2 = one_put a 1 (left 1 (v1.at (a + 1)) (k / 256) v1.flags) byte
    (flags_left 1 (v1.at (a + 1)) (k / 256) v1.flags) v v1 w far l1 (omega arith) p1 o1 in
    let b0 = p2.there 0 (omega arith) in
    let b1 = p2.there 1 (omega arith) in
    let difference = difference_is x y k xs ys (omega arith) (omega arith) in
    let number : value w.at a 2 ≡ (value v.at a 2 + offset) % 65536 =
    rw (b0, b1) (omega (arith, difference, moved_is (x + y * 256) offset)) in
    rw (block-append e code0 code1 v) (has_put a 2 ((value v.at a 2 + offset) % 65536) byte v w p2 number)

-- both at once
pair_moves : (e : Env) (offset a : ℕ) (v : View) → (offset % 65536 == 0) ≡ false → a + 2 ≤ 30 → 2 ≤ a → HoldsNumbers v
    → HasPut v a 2 ((value v.at a 2 + offset) % 65536) (block e (subtract_pair (rest_of offset) a) v)
pair_moves e offset a v t low some h =
    let k = rest_of offset in
    let z : offset % 65536 ≢ 0 = eqb-false (offset % 65536) 0 t in
    let x = v.at a in
    let y = v.at (a + 1) in
    let xs : x < 256 = h a (omega (arith, some)) in
    let ys : y < 256 = h (a + 1) (omega (arith, some)) in
    let va = change e (Movw 30 a) v in
    let vb = change e (Subi 30 (k % 256)) va in
    let vc = change e (Sbci 31 (k / 256)) vb in
    let w = change e (Movw a 30) vc in
    let m = pair_is v.at a 30 xs in
    let y0 = byte_difference (va.at 30) (k % 256) 0 in
    let y1 = byte_difference (vb.at 31) (k / 256) vb.flags.c in
    let low_b : vb.at 30 ≡ low_left x k = put_here va.at 30 y0 30 refl ∙ ap (λ t. byte_difference t (k % 256) 0) m.low in
    let high_b : vb.at 31 ≡ y = put_other va.at 30 y0 31 (omega arith) ∙ m.high in
    let borrow : vb.flags.c ≡ from_bool (nat_lt x (k % 256 + 0)) = ap (λ t. from_bool (nat_lt t (k % 256 + 0))) m.low in
    let low_c : vc.at 30 ≡ low_left x k = put_other vb.at 31 y1 30 (omega arith) ∙ low_b in
    let high_c : vc.at 31 ≡ high_left x y k =
    put_here vb.at 31 y1 31 refl ∙ ap (λ t. byte_difference t (k / 256) vb.flags.c) high_b
    ∙ ap (λ c. byte_difference y (k / 256) c) borrow in
    let byte = byte_left x y k in
    let p = both_put e a (low_left x k) (high_left x y k) byte v vc low some (omega arith) (omega arith) refl refl low_c high_c
    (λ j z30 z31. put_other vb.at 31 y1 j z31 ∙ put_other va.at 30 y0 j z30 ∙ m.other j z30 z31) refl refl refl in
    let b0 = p.put.there 0 (omega arith) in
    let b1 = p.put.there 1 (omega arith) in
    let difference = difference_is x y k xs ys (omega arith) (omega arith) in
    let a0 : a + 0 ≡ a = omega arith in
    let old : value v.at a 2 ≡ x + y * 256 = rw a0 (omega arith) in
    let number : value w.at a 2 ≡ (value v.at a 2 + offset) % 65536 =
    rw (old, b0, b1) (omega (arith, difference, moved_is (x + y * 256) offset)) in
    has_put_beside a 2 ((value v.at a 2 + offset) % 65536) byte v w p number

both_move : (e : Env) (q : Location) (offset a : ℕ) (v : View) → (offset % 65536 == 0) ≡ false
    → StandsFrom e q 2 a Own → Outside a 2 30 → HoldsNumbers v
    → HasPut v a 2 ((value v.at a 2 + offset) % 65536) (block e (subtract_both (rest_of offset) q) v)
both_move e (InMemory o j) offset a v t s far h = each_moves e (InMemory o j) offset a v t s far h
both_move e (InRegisters r) offset a v t s far h = by_test (is_low_pair r) refl
  where
    k : ℕ
    k = rest_of offset

    by_test : (b : Bool) → is_low_pair r ≡ b
        → HasPut v a 2 ((value v.at a 2 + offset) % 65536) (block e (if b then subtract_pair k r else subtract_each k (InRegisters r)) v)
    by_test false q = each_moves e (InRegisters r) offset a v t s far h
    by_test true q =
        let below = low_pair r q in
        let first = s.at 0 (omega arith) in
        let is : r ≡ a = omega (arith, first) in
        subst (λ x. HasPut v a 2 ((value v.at a 2 + offset) % 65536) (block e (subtract_pair k x) v)) (sym is)
        (pair_moves e offset a v t (omega (arith, is, below)) s.clear h)

field_moves : (e : Env) (q : Location) (offset a : ℕ) (v : View) (b : Bool) → (offset % 65536 == 0) ≡ b
    → StandsFrom e q 2 a Own → Outside a 2 30 → HoldsNumbers v
    → HasPut v a 2 ((value v.at a 2 + offset) % 65536) (block e (if b then [] else subtract_both (rest_of offset) q) v)
field_moves e q offset a v true t s far h =
    let z : offset % 65536 ≡ 0 = eqb-true (offset % 65536) 0 t in
    let ua = s.clear in
    let x : v.at (a + 0) < 256 = h (a + 0) (omega arith) in
    let y : v.at (a + 1) < 256 = h (a + 1) (omega arith) in
    let same : value v.at a 2 ≡ (value v.at a 2 + offset) % 65536 = omega arith in
    record { number_is = same; numbers = λ g. g; same = λ k n x o. refl; inputs = refl; safe = refl; seen = refl }
field_moves e q offset a v false t s far h = both_move e q offset a v t s far h

pub fields_are_right : FieldsAreRight
fields_are_right e q offset a v s far h = field_moves e q offset a v (offset % 65536 == 0) refl s far h

-- ---- the whole address

-- the third byte of a whole address
abbrev third_of : ℕ → ℕ
third_of far = part_of far 2

pub far_addresses_are_right : FarAddressesAreRight
far_addresses_are_right e q object offset a v whole below s far =
    let n = e.address_of object offset in
    let x = third_of (e.far_of object offset) in
    let byte = pointer_byte n (Some x) in
    let p = address_put e q object offset a (Some x) 3 v (omega arith) s far in
    let v1 = block e (part_byte object offset q 0) v in
    let v2 = block e (part_byte object offset q 1) v1 in
    let w = block e (part_byte object offset q 2) v2 in
    let o = byte_is_set e (λ d. LoadPart d object offset 2) x q 2 (a + 2) v2 (λ d u. refl) (s.at 2 (omega arith))
    (s.kind 2 (omega arith)) in
    let p3 = one_put a 2 x byte v2.flags v v2 w far refl (omega arith) p.0 o in
    let b0 = p3.there 0 (omega arith) in
    let b1 = p3.there 1 (omega arith) in
    let b2 = p3.there 2 (omega arith) in
    let same : block e (far_address_code object offset q) v ≡ w =
    block-append e (part_byte object offset q 0) (part_byte object offset q 1 ++ part_byte object offset q 2) v
    ∙ block-append e (part_byte object offset q 1) (part_byte object offset q 2) v1 in
    let number : value w.at a 3 ≡ e.far_of object offset = rw (b0, b1, b2, whole) (omega (arith, below)) in
    rw same (has_put a 3 (e.far_of object offset) byte v w p3 number, o.flags ∙ p.1)

-- ---- an offset added to three bytes

-- three bytes less three bytes, with borrows between them
abbrev borrow_of : (x k c : ℕ) → ℕ
borrow_of x k c = from_bool (nat_lt x (k + c))

below_is : (a b : ℕ) → a < b → nat_lt a b ≡ true
below_is a b h = grind (arith, nat_tests)

above_is : (a b : ℕ) → b ≤ a → nat_lt a b ≡ false
above_is a b h = grind (arith, nat_tests)

three_less : (x y z i j k : ℕ) → x < 256 → y < 256 → z < 256 → i < 256 → j < 256 → k < 256
    → byte_difference x i 0 + byte_difference y j (borrow_of x i 0) * 256
    + byte_difference z k (borrow_of y j (borrow_of x i 0)) * 65536
    ≡ (x + y * 256 + z * 65536 + (16777216 - (i + j * 256 + k * 65536))) % 16777216
three_less x y z i j k lx ly lz li lj lk =
    ⊎_elim
    (λ (g : x < i + 0).
    ⊎_elim
    (λ (f : y < j + 1). rw (below_is x (i + 0) g, below_is y (j + 1) f) (omega (arith, g, f)))
    (λ (f : j + 1 ≤ y). rw (below_is x (i + 0) g, above_is y (j + 1) f) (omega (arith, g, f)))
    (cases_lt y (j + 1)))
    (λ (g : i + 0 ≤ x).
    ⊎_elim
    (λ (f : y < j + 0). rw (above_is x (i + 0) g, below_is y (j + 0) f) (omega (arith, g, f)))
    (λ (f : j + 0 ≤ y). rw (above_is x (i + 0) g, above_is y (j + 0) f) (omega (arith, g, f)))
    (cases_lt y (j + 0)))
    (cases_lt x (i + 0))

-- less what is missing from the offset to a multiple of 2 to the power of 24
far_moved_is : (x offset : ℕ) → (x + (16777216 - far_rest_of offset)) % 16777216 ≡ (x + offset) % 16777216
far_moved_is x offset = omega arith

-- the bytes of what is missing
bytes_are : (k : ℕ) → k < 16777216 → k % 256 + k / 256 % 256 * 256 + k / 65536 * 65536 ≡ k
bytes_are k l = omega (arith, l)

-- the three bytes that are left
abbrev far_left : (x y z k : ℕ) → ℕ → ℕ
far_left x y z k zero = byte_difference x (k % 256) 0
far_left x y z k (suc zero) = byte_difference y (k / 256 % 256) (borrow_of x (k % 256) 0)
far_left x y z k (suc (suc i)) = byte_difference z (k / 65536) (borrow_of y (k / 256 % 256) (borrow_of x (k % 256) 0))

far_field_moves : (e : Env) (q : Location) (offset a : ℕ) (v : View) (b : Bool) → (offset % 16777216 == 0) ≡ b
    → StandsFrom e q 3 a Own → Outside a 3 30 → HoldsNumbers v
    → HasPut v a 3 ((value v.at a 3 + offset) % 16777216)
    (block e (if b then []
    else subtract_byte (far_rest_of offset % 256) q 0
    ++ (subtract_byte (far_rest_of offset / 256 % 256) q 1 ++ subtract_byte (far_rest_of offset / 65536) q 2)) v)
far_field_moves e q offset a v true t s far h =
    let z : offset % 16777216 ≡ 0 = eqb-true (offset % 16777216) 0 t in
    let ua = s.clear in
    let x0 : v.at (a + 0) < 256 = h (a + 0) (omega arith) in
    let x1 : v.at (a + 1) < 256 = h (a + 1) (omega arith) in
    let x2 : v.at (a + 2) < 256 = h (a + 2) (omega arith) in
    let same : value v.at a 3 ≡ (value v.at a 3 + offset) % 16777216 = omega (arith, z, x0, x1, x2) in
    record { number_is = same; numbers = λ g. g; same = λ k n x o. refl; inputs = refl; safe = refl; seen = refl }
far_field_moves e q offset a v false t s far h =
    let k = far_rest_of offset in
    let z : offset % 16777216 ≢ 0 = eqb-false (offset % 16777216) 0 t in
    let kb : k < 16777216 = omega (arith, z) in
    let ua = s.clear in
    let x = v.at (a + 0) in
    let y = v.at (a + 1) in
    let u = v.at (a + 2) in
    let xs : x < 256 = h (a + 0) (omega arith) in
    let ys : y < 256 = h (a + 1) (omega arith) in
    let us : u < 256 = h (a + 2) (omega arith) in
    let k0 = k % 256 in
    let k1 = k / 256 % 256 in
    let k2 = k / 65536 in
    let code0 = subtract_byte k0 q 0 in
    let code1 = subtract_byte k1 q 1 in
    let code2 = subtract_byte k2 q 2 in
    let v1 = block e code0 v in
    let v2 = block e code1 v1 in
    let w = block e code2 v2 in
    let o0 = byte_is_subtracted e k0 q 0 (a + 0) v (s.at 0 (omega arith)) (s.kind 0 (omega arith)) in
    let o1 = byte_is_subtracted e k1 q 1 (a + 1) v1 (s.at 1 (omega arith)) (s.kind 1 (omega arith)) in
    let o2 = byte_is_subtracted e k2 q 2 (a + 2) v2 (s.at 2 (omega arith)) (s.kind 2 (omega arith)) in
    let n1 : a + 1 ≢ 30 = λ i. outside_ne a 3 30 1 far (omega arith) (sym i) in
    let n2 : a + 2 ≢ 30 = λ i. outside_ne a 3 30 2 far (omega arith) (sym i) in
    let same1 : v1.at (a + 1) ≡ y = o0.same (a + 1) n1 (omega arith) in
    let same2 : v2.at (a + 2) ≡ u = o1.same (a + 2) n2 (omega arith) ∙ o0.same (a + 2) n2 (omega arith) in
    let borrow1 : v1.flags.c ≡ borrow_of x k0 0 = ap (λ f. f.c) o0.flags in
    let made2 : v2.flags.c ≡ borrow_of (v1.at (a + 1)) k1 v1.flags.c = ap (λ f. f.c) o1.flags in
    let borrow2 : v2.flags.c ≡ borrow_of y k1 (borrow_of x k0 0) =
    made2 ∙ ap (λ i. borrow_of i k1 v1.flags.c) same1 ∙ ap (λ i. borrow_of y k1 i) borrow1 in
    let byte = far_left x y u k in
    let l1 : byte 1 ≡ left 1 (v1.at (a + 1)) k1 v1.flags = rw (same1, borrow1) refl in
    let l2 : byte 2 ≡ left 2 (v2.at (a + 2)) k2 v2.flags = rw (same2, borrow2) refl in
    let p1 = one_put a 0 (byte 0) byte (flags_left 0 x k0 v.flags) v v v1 (λ l. let f = far l in omega arith) refl
    (omega arith) (none_put a byte v) o0 in
    let p2 = one_put a 1 (left 1 (v1.at (a + 1)) k1 v1.flags) byte (flags_left 1 (v1.at (a + 1)) k1 v1.flags) v v1 v2
    (λ l. let f = far l in omega arith) l1 (omega arith) p1 o1 in
    let p3 = one_put a 2 (left 2 (v2.at (a + 2)) k2 v2.flags) byte (flags_left 2 (v2.at (a + 2)) k2 v2.flags) v v2 w far l2
    (omega arith) p2 o2 in
    let b0 = p3.there 0 (omega arith) in
    let b1 = p3.there 1 (omega arith) in
    let b2 = p3.there 2 (omega arith) in
    let m0 : k0 < 256 = omega arith in
    let m1 : k1 < 256 = omega arith in
    let m2 : k2 < 256 = omega (arith, kb) in
    let difference = three_less x y u k0 k1 k2 xs ys us m0 m1 m2 in
    let whole = bytes_are k kb in
    let sum = x + y * 256 + u * 65536 in
    let bytes : value w.at a 3 ≡ byte 0 + byte 1 * 256 + byte 2 * 65536 = rw (b0, b1, b2) (omega arith) in
    let old : sum ≡ value v.at a 3 = omega arith in
    let number : value w.at a 3 ≡ (value v.at a 3 + offset) % 16777216 =
    bytes ∙ (difference ∙ (ap (λ i. (sum + (16777216 - i)) % 16777216) whole
    ∙ (far_moved_is sum offset ∙ ap (λ i. (i + offset) % 16777216) old))) in
    let joined : block e (code0 ++ (code1 ++ code2)) v ≡ w = block-append e code0 (code1 ++ code2) v ∙ block-append e code1 code2 v1 in
    rw joined (has_put a 3 ((value v.at a 3 + offset) % 16777216) byte v w p3 number)

pub far_fields_are_right : FarFieldsAreRight
far_fields_are_right e q offset a v s far h = far_field_moves e q offset a v (offset % 16777216 == 0) refl s far h
