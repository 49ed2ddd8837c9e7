-- Pointers of two bytes become pointers of three bytes, and back.
use Rattle.std.proofs.Common.{◌≡◌, ◌≢◌, ℕ, zero, suc, ◌+◌, ◌*◌, ◌<◌, ◌≤◌, ◌==◌, ⊎_elim, Bool, true, false, [], ◌∷◌}
use Rattle.std.proofs.Common.{◌++◌, refl, subst, sym, ap, ◌∙◌}
use Rattle.std.proofs.Common.{arith, append-nil}
use Rattle.std.specs.Prelude.{nat_lt, if◌then◌else◌}
use Rattle.std.specs.Int.{from_bool}
use Rattle.std.specs.Int.Bits.{xor_self}
use Rattle.std.proofs.lemmas.Bool.{cases_eq, cases_lt, eq-eqb, ne_eqb, lt-ltb}
use Rattle.ec_isa.specs.declared.instructions.Instr.TheVariants.{Eor, Cp, Cpc, Ror}
use Rattle.ec_avr.specs.Flags.{shifted}
use Rattle.ec_asm.specs.declared.items.AsmItem.TheVariants.{StoreObj}
use Rattle.ec_asm.specs.declared.pieces.Location.TheVariants.{InRegisters, InMemory}
use Rattle.ec_asm.specs.View.{View}
use Rattle.ec_asm.specs.Change.{Env, Own, change, set}
use Rattle.ec_asm.specs.Items.{block}
use Rattle.ec_asm.specs.Pieces.{value, copy_code, StandsFrom, Outside}
use Rattle.ec_asm.specs.PieceLaws.{HoldsNumbers, CopiesAreRight}
use Rattle.ec_asm.proofs.Bytes.{put_here, put_other}
use Rattle.ec_asm.proofs.Hoare.{block-append}
use Rattle.ec_select_places.specs.Steps.{z_pair}
use Rattle.ec_select_places.specs.Conversions.{embedded, tag_of, data_tag_code, embed_code, narrow_code}
use Rattle.ec_select_places.specs.ConversionLaws.{HasPut, PointersAreEmbedded, PointersAreNarrowed}
use Rattle.ec_select_places.specs.StepLaws.{LeavesZ}
use Rattle.ec_select_places.proofs.Blocks.{first_bytes, copied_numbers}
use Rattle.ec_select_places.proofs.Scaled.{to_z, two_loaded}

-- ---- tags

-- the tag of a pointer with these bytes
abbrev tag_for : Bool → (low high : ℕ) → ℕ
tag_for to_data low high = if low + high * 256 == 0 then 0 else tag_of to_data

-- a register has the tag, and all else is kept but the flags
record Tags (v w : View) (t tag : ℕ) : Type 0 where
  here : w.at t ≡ tag
  same : (k : ℕ) → k ≢ t → w.at k ≡ v.at k
  inputs : w.inputs ≡ v.inputs
  safe : w.safe ≡ v.safe
  seen : w.seen ≡ v.seen

-- 0 less the pointer leaves a borrow where it is not 0
abbrev borrow : (z low high : ℕ) → ℕ
borrow z low high = from_bool (nat_lt z (high + from_bool (nat_lt z (low + 0))))

borrow_is : (l h : ℕ) → 128 * borrow 0 l h ≡ tag_for true l h
borrow_is zero zero = refl
borrow_is zero (suc h) =
    rw (lt-ltb 0 (suc h + from_bool (nat_lt 0 (0 + 0))) (omega arith), ne_eqb (0 + suc h * 256) 0 (omega arith)) refl
borrow_is (suc l) h =
    rw (lt-ltb 0 (suc l + 0) (omega arith), lt-ltb 0 (h + 1) (omega arith), ne_eqb (suc l + h * 256) 0 (omega arith)) refl

data_tagged : (e : Env) (v : View) (t low high : ℕ) → low ≢ t → high ≢ t
    → Tags v (block e (data_tag_code t low high) v) t (tag_for true (v.at low) (v.at high))
data_tagged e v t low high nl nh =
    let v1 = change e (Eor t t) v in
    let v2 = change e (Cp t low) v1 in
    let v3 = change e (Cpc t high) v2 in
    let w = change e (Ror t) v3 in
    let zero_is : v1.at t ≡ 0 = put_here v.at t _ t refl ∙ xor_self (v.at t) in
    let low_is : v1.at low ≡ v.at low = put_other v.at t _ low nl in
    let high_is : v1.at high ≡ v.at high = put_other v.at t _ high nh in
    let carry : v3.flags.c ≡ borrow 0 (v.at low) (v.at high) =
    ap (λ z. borrow z (v1.at low) (v1.at high)) zero_is
    ∙ (ap (λ l. borrow 0 l (v1.at high)) low_is ∙ ap (λ h. borrow 0 (v.at low) h) high_is) in
    let top : shifted (v3.at t) v3.flags.c ≡ 128 * v3.flags.c = rw zero_is (omega arith) in
    record {
      here = put_here v3.at t _ t refl ∙ (top ∙ (ap (λ c. 128 * c) carry ∙ borrow_is (v.at low) (v.at high)));
      same = λ k n. put_other v3.at t _ k n ∙ put_other v.at t _ k n;
      inputs = refl;
      safe = refl;
      seen = refl;
    }

-- that of flash is 0
no_tag : (l h : ℕ) → tag_for false l h ≡ 0
no_tag l h = by_test (l + h * 256 == 0)
  where
    by_test : (b : Bool) → (if b then 0 else tag_of false) ≡ 0
    by_test true = refl
    by_test false = refl

flash_tagged : (e : Env) (v : View) (t low high : ℕ)
    → Tags v (change e (Eor t t) v) t (tag_for false (v.at low) (v.at high))
flash_tagged e v t low high =
    record {
      here = put_here v.at t _ t refl ∙ (xor_self (v.at t) ∙ sym (no_tag (v.at low) (v.at high)));
      same = λ k n. put_other v.at t _ k n;
      inputs = refl;
      safe = refl;
      seen = refl;
    }

tag_is_below : (to_data : Bool) (l h : ℕ) → tag_for to_data l h < 256
tag_is_below to_data l h = by to_data (l + h * 256 == 0)
  where
    by : (d b : Bool) → (if b then 0 else tag_of d) < 256
    by d true = omega arith
    by true false = omega arith
    by false false = omega arith

-- ---- embedded

number_is : (to_data : Bool) (l h : ℕ) → l + h * 256 + tag_for to_data l h * 65536 ≡ embedded to_data (l + h * 256)
number_is to_data l h =
    ⊎_elim
    (λ (q : l + h * 256 ≡ 0). rw (eq-eqb (l + h * 256) 0 q) (omega (arith, q)))
    (λ (q : l + h * 256 ≢ 0). rw (ne_eqb (l + h * 256) 0 q) refl)
    (cases_eq (l + h * 256) 0)

-- the tag stands behind a pointer, and all else is kept but R0, R1, R30, R31 and the flags
record HasTag (v w : View) (b tag : ℕ) : Type 0 where
  here : w.at (b + 2) ≡ tag
  same : (k : ℕ) → k ≢ 0 → k ≢ 1 → Outside 30 2 k → k ≢ b + 2 → w.at k ≡ v.at k
  numbers : HoldsNumbers w
  inputs : w.inputs ≡ v.inputs
  safe : w.safe ≡ v.safe
  seen : w.seen ≡ v.seen

has_put : (to_data : Bool) (v w : View) (b : ℕ) → 2 ≤ b → LeavesZ b 3 → HasTag v w b (tag_for to_data (v.at (b + 0)) (v.at (b + 1)))
    → HasPut v b 3 (embedded to_data (value v.at b 2)) w
has_put to_data v w b some z t =
    let off : (i : ℕ) → i < 3 → Outside 30 2 (b + i) = λ i l u.
    ⊎_elim
    (λ (x : b < 31). let f = z.low (omega arith) in absurd (omega (arith, l, u, f)))
    (λ (x : 31 ≤ b). ⊎_elim
    (λ (y : b < 32). let g = z.high (omega arith) in absurd (omega (arith, g, x)))
    (λ (y : 32 ≤ b). omega (arith, y))
    (cases_lt b 32))
    (cases_lt b 31) in
    let b0 : w.at (b + 0) ≡ v.at (b + 0) = t.same (b + 0) (omega arith) (omega arith) (off 0 (omega arith)) (omega arith) in
    let b1 : w.at (b + 1) ≡ v.at (b + 1) = t.same (b + 1) (omega arith) (omega arith) (off 1 (omega arith)) (omega arith) in
    let b2 = t.here in
    let total : value w.at b 3 ≡ v.at (b + 0) + v.at (b + 1) * 256 + tag_for to_data (v.at (b + 0)) (v.at (b + 1)) * 65536 =
    rw (b0, b1, b2) (omega arith) in
    let loaded : v.at (b + 0) + v.at (b + 1) * 256 ≡ value v.at b 2 = omega arith in
    record {
      number_is = total ∙ (number_is to_data (v.at (b + 0)) (v.at (b + 1)) ∙ ap (λ s. embedded to_data s) loaded);
      numbers = t.numbers;
      same = λ k n0 n1 o m. t.same k n0 n1 o (λ f. let g = m (omega arith) in omega arith);
      inputs = t.inputs;
      safe = t.safe;
      seen = t.seen;
    }

-- in registers
tag_behind : (to_data : Bool) (v w : View) (b : ℕ) → HoldsNumbers v
    → Tags v w (b + 2) (tag_for to_data (v.at (b + 0)) (v.at (b + 1)))
    → HasTag v w b (tag_for to_data (v.at (b + 0)) (v.at (b + 1)))
tag_behind to_data v w b h t =
    record {
      here = t.here;
      same = λ k n0 n1 z n. t.same k n;
      numbers = λ k u.
          ⊎_elim
          (λ (q : k ≡ b + 2). rw (q, t.here) (tag_is_below to_data (v.at (b + 0)) (v.at (b + 1))))
          (λ (q : k ≢ b + 2). rw (t.same k q) (h k u))
          (cases_eq k (b + 2));
      inputs = t.inputs;
      safe = t.safe;
      seen = t.seen;
    }

embeds_in_registers : (to_data : Bool) (e : Env) (b : ℕ) (v : View) → HoldsNumbers v
    → HasTag v (block e (embed_code to_data (InRegisters b)) v) b (tag_for to_data (v.at (b + 0)) (v.at (b + 1)))
embeds_in_registers true e b v h =
    let t = data_tagged e v (b + 2) b (b + 1) (omega arith) (omega arith) in
    tag_behind true v _ b h (subst (λ d. Tags v (block e (embed_code true (InRegisters b)) v) (b + 2)
    (tag_for true (v.at d) (v.at (b + 1))))
    (omega arith) t)
embeds_in_registers false e b v h = tag_behind false v _ b h (flash_tagged e v (b + 2) (b + 0) (b + 1))

-- in memory the tag is stored from R1
stored : (e : Env) (o k a : ℕ) (v : View) → e.address_of o k ≡ a → e.kind a ≡ Own
    → block e (StoreObj o k 1 ∷ []) v ≡ set a (v.at 1) v
stored e o k a v q r = rw (q, r) refl

tag_stored : (to_data : Bool) (v v1 v2 : View) (b : ℕ) → 2 ≤ b → HoldsNumbers v1
    → ((k : ℕ) → k ≢ 0 → k ≢ 1 → Outside 30 2 k → v1.at k ≡ v.at k) → v1.inputs ≡ v.inputs → v1.safe ≡ v.safe → v1.seen ≡ v.seen
    → Tags v1 v2 1 (tag_for to_data (v.at (b + 0)) (v.at (b + 1)))
    → HasTag v (set (b + 2) (v2.at 1) v2) b (tag_for to_data (v.at (b + 0)) (v.at (b + 1)))
tag_stored to_data v v1 v2 b some h same inputs safe seen t =
    let w = set (b + 2) (v2.at 1) v2 in
    let here : w.at (b + 2) ≡ tag_for to_data (v.at (b + 0)) (v.at (b + 1)) = put_here v2.at (b + 2) (v2.at 1) (b + 2) refl ∙ t.here in
    record {
      here = here;
      same = λ k n0 n1 z n. put_other v2.at (b + 2) (v2.at 1) k n ∙ (t.same k n1 ∙ same k n0 n1 z);
      numbers = λ k u.
          ⊎_elim
          (λ (q : k ≡ b + 2). rw (q, here) (tag_is_below to_data (v.at (b + 0)) (v.at (b + 1))))
          (λ (q : k ≢ b + 2). rw (put_other v2.at (b + 2) (v2.at 1) k q, t.same k (omega arith)) (h k u))
          (cases_eq k (b + 2));
      inputs = t.inputs ∙ inputs;
      safe = t.safe ∙ safe;
      seen = t.seen ∙ seen;
    }

embeds_in_memory : (copies : CopiesAreRight) (to_data : Bool) (e : Env) (o k b : ℕ) (v : View)
    → StandsFrom e (InMemory o k) 3 b Own → LeavesZ b 3 → HoldsNumbers v
    → HasTag v (block e (embed_code to_data (InMemory o k)) v) b (tag_for to_data (v.at (b + 0)) (v.at (b + 1)))
embeds_in_memory copies true e o k b v s z h =
    let q = InMemory o k in
    let v1 = block e (copy_code q z_pair 2) v in
    let v2 = block e (data_tag_code 1 30 31) v1 in
    let c = to_z copies e q 2 3 b v (omega arith) s z in
    let l = two_loaded copies e q 3 b v (omega arith) s z h in
    let low : v1.at 30 ≡ v.at (b + 0) = c.there 0 (omega arith) in
    let high : v1.at 31 ≡ v.at (b + 1) = c.there 1 (omega arith) in
    let tags : Tags v1 v2 1 (tag_for true (v1.at 30) (v1.at 31)) = data_tagged e v1 1 30 31 (omega arith) (omega arith) in
    let is : tag_for true (v1.at 30) (v1.at 31) ≡ tag_for true (v.at (b + 0)) (v.at (b + 1)) =
    ap (λ x. tag_for true x (v1.at 31)) low ∙ ap (λ x. tag_for true (v.at (b + 0)) x) high in
    let there = tag_stored true v v1 v2 b s.clear l.numbers l.same l.inputs l.safe l.seen
    (subst (λ tag. Tags v1 v2 1 tag) is tags) in
    let whole : block e (embed_code true q) v ≡ block e (StoreObj o (k + 2) 1 ∷ []) v2 =
    block-append e (copy_code q z_pair 2) (data_tag_code 1 30 31 ++ StoreObj o (k + 2) 1 ∷ []) v
    ∙ block-append e (data_tag_code 1 30 31) (StoreObj o (k + 2) 1 ∷ []) v1 in
    subst (λ w. HasTag v w b (tag_for true (v.at (b + 0)) (v.at (b + 1))))
    (sym (whole ∙ stored e o (k + 2) (b + 2) v2 (s.at 2 (omega arith)) (s.kind 2 (omega arith)))) there
embeds_in_memory copies false e o k b v s z h =
    let v2 = change e (Eor 1 1) v in
    let there = tag_stored false v v v2 b s.clear h (λ i n0 n1 u. refl) refl refl refl (flash_tagged e v 1 (b + 0) (b + 1)) in
    subst (λ w. HasTag v w b (tag_for false (v.at (b + 0)) (v.at (b + 1))))
    (sym (stored e o (k + 2) (b + 2) v2 (s.at 2 (omega arith)) (s.kind 2 (omega arith)))) there

pub pointers_are_embedded : CopiesAreRight → PointersAreEmbedded
pointers_are_embedded copies to_data e (InRegisters r) b v s z h =
    let is : b ≡ r = (let i = s.at 0 (omega arith) in omega (arith, i)) in
    has_put to_data v _ b s.clear z
    (subst (λ d. HasTag v (block e (embed_code to_data (InRegisters d)) v) b (tag_for to_data (v.at (b + 0)) (v.at (b + 1)))) is
    (embeds_in_registers to_data e b v h))
pointers_are_embedded copies to_data e (InMemory o k) b v s z h =
    has_put to_data v _ b s.clear z (embeds_in_memory copies to_data e o k b v s z h)

-- ---- narrowed

pub pointers_are_narrowed : CopiesAreRight → PointersAreNarrowed
pointers_are_narrowed copies e p q a b v sp sq first h =
    let w = block e (narrow_code p q) v in
    let ua = sp.clear in
    let c = copies e p q 2 a b Own Own v (first_bytes e p 2 3 a (omega arith) sp) sq refl refl first in
    let b0 : w.at (b + 0) ≡ v.at (a + 0) = c.there 0 (omega arith) in
    let b1 : w.at (b + 1) ≡ v.at (a + 1) = c.there 1 (omega arith) in
    let s0 : v.at (a + 0) < 256 = h (a + 0) (omega arith) in
    let s1 : v.at (a + 1) < 256 = h (a + 1) (omega arith) in
    record {
      number_is = rw (b0, b1) (omega (arith, s0, s1));
      numbers = copied_numbers v w a b 2 ua h c.there c.same;
      same = λ k n0 n1 z o. c.same k n0 o;
      inputs = c.inputs;
      safe = c.safe;
      seen = c.seen ∙ append-nil v.seen;
    }
