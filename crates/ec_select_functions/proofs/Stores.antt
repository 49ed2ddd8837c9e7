-- A known number that is stored by R30, byte by byte.
use Rattle.std.proofs.Common.{◌≡◌, ◌≢◌, ℕ, zero, suc, ◌+◌, ◌-◌, ◌*◌, ◌/◌, ◌^◌, ◌<◌, ◌≤◌, ⊎_elim, Bool, true, false, List, [], ◌∷◌}
use Rattle.std.proofs.Common.{◌++◌, refl, sym, ap, ◌∙◌, subst, arith, append-nil, append_assoc, ℤ, Option, Some, None, eqb-true}
use Rattle.std.specs.Prelude.{if◌then◌else◌, nat_lt, ◌==◌}
use Rattle.std.proofs.lemmas.Bool.{and_parts, cases_eq}
use Rattle.std.proofs.lemmas.Bool.Decides.{nat_tests}
use Rattle.std.proofs.lemmas.Nat.{mod_below}
use Rattle.ec_isa.specs.declared.instructions.Instr.TheVariants.{Ldi}
use Rattle.ec_avr.specs.declared.machine.Access.{Access}
use Rattle.ec_asm.specs.declared.items.AsmItem.{AsmItem}
use Rattle.ec_asm.specs.declared.items.AsmItem.TheVariants.{Plain}
use Rattle.ec_asm.specs.declared.pieces.Location.{Location}
use Rattle.ec_asm.specs.declared.pieces.Location.TheVariants.{InRegisters, InMemory}
use Rattle.ec_asm.specs.View.{View}
use Rattle.ec_asm.specs.Change.{Env, Kind, Own, Object, Port, Stacked, Page, Barred, set, store_by}
use Rattle.ec_asm.specs.Items.{block, chain, all_straight, code_steps}
use Rattle.ec_asm.specs.Pieces.{address, KindIs, StandsFrom, Outside, is_held, write_of}
use Rattle.ec_asm.proofs.Bytes.{put_here, put_other}
use Rattle.ec_asm.proofs.Hoare.{chain_holds, chain_straight, steps-append}
use Rattle.ec_asm.proofs.Sum.{not_here, fewer}
use Rattle.ec_ir_known.specs.declared.known.RightNumber.{RightNumber}
use Rattle.ec_select_bytes.specs.Values.{byte_of}
use Rattle.ec_select_operations.specs.Needs.{Need, number_known, numbered, right_needed, is_number}
use Rattle.ec_select_operations.specs.Stores.{is_repeated, work_stored, number_byte_code, store_number_code}
use Rattle.ec_select_functions.proofs.Match.{least_other}

pub byte_below : (number i : ℕ) → byte_of number i < 256
byte_below number i = mod_below (number / 256 ^ i) 256 (omega arith)

-- ---- one byte

-- R30 went to address a
record WorkIsStored (v w : View) (a : ℕ) (kind : Kind) : Type 0 where
  here : w.at a ≡ v.at 30
  same : (k : ℕ) → k ≢ a → w.at k ≡ v.at k
  inputs : w.inputs ≡ v.inputs
  safe : w.safe ≡ v.safe
  seen : w.seen ≡ v.seen ++ write_of kind a (v.at 30)

by_kind : (kind : Kind) (a : ℕ) (v : View) → is_held kind ≡ true → WorkIsStored v (store_by kind a (v.at 30) v) a kind
by_kind Own a v h = record {
  here = put_here v.at a (v.at 30) a refl;
  same = λ k n. put_other v.at a (v.at 30) k n;
  inputs = refl;
  safe = refl;
  seen = sym (append-nil v.seen);
}
by_kind Object a v h = record {
  here = put_here v.at a (v.at 30) a refl;
  same = λ k n. put_other v.at a (v.at 30) k n;
  inputs = refl;
  safe = refl;
  seen = refl;
}
by_kind Port a v h = cc
by_kind Stacked a v h = cc
by_kind Page a v h = cc
by_kind Barred a v h = cc

work_is_stored : (e : Env) (p : Location) (i a : ℕ) (kind : Kind) (v : View) → address e p i ≡ a → KindIs e p a kind
    → is_held kind ≡ true → WorkIsStored v (block e (work_stored p i ∷ []) v) a kind
work_is_stored e (InRegisters r) i a kind v q k h = rw (q, k) (by_kind Own a v refl)
work_is_stored e (InMemory o j) i a kind v q k h = rw (q, k) (by_kind kind a v h)

-- a byte went to address a, and stands in R30
record ByteIsStored (v w : View) (a byte : ℕ) (kind : Kind) : Type 0 where
  here : w.at a ≡ byte
  same : (k : ℕ) → k ≢ 30 → k ≢ a → w.at k ≡ v.at k
  work : a ≢ 30 → w.at 30 ≡ byte
  inputs : w.inputs ≡ v.inputs
  safe : w.safe ≡ v.safe
  seen : w.seen ≡ v.seen ++ write_of kind a byte

module _ (e : Env) (p : Location) (i a byte : ℕ) (kind : Kind) (there : address e p i ≡ a) (is : KindIs e p a kind)
    (held : is_held kind ≡ true) where
  from_work : (v0 v : View) → ((k : ℕ) → k ≢ 30 → v.at k ≡ v0.at k) → v.at 30 ≡ byte → v.inputs ≡ v0.inputs → v.safe ≡ v0.safe
      → v.seen ≡ v0.seen → ByteIsStored v0 (block e (work_stored p i ∷ []) v) a byte kind
  from_work v0 v same q inputs safe seen =
      let o = work_is_stored e p i a kind v there is held in
      record {
        here = o.here ∙ q;
        same = λ k z n. o.same k n ∙ same k z;
        work = λ n. o.same 30 (λ x. n (sym x)) ∙ q;
        inputs = o.inputs ∙ inputs;
        safe = o.safe ∙ safe;
        seen = o.seen ∙ ap (λ x. v.seen ++ write_of kind a x) q ∙ ap (λ x. x ++ write_of kind a byte) seen;
      }

  byte_is_stored : (v : View) (b : Bool) → (b ≡ true → v.at 30 ≡ byte)
      → ByteIsStored v (block e (if b then work_stored p i ∷ [] else Plain (Ldi 30 byte) ∷ work_stored p i ∷ []) v) a byte kind
  byte_is_stored v true f = from_work v v (λ k z. refl) (f refl) refl refl refl
  byte_is_stored v false f =
      from_work v (set 30 byte v) (λ k z. put_other v.at 30 byte k z) (put_here v.at 30 byte 30 refl) refl refl refl

-- ---- so many bytes

abbrev pub number_log : Kind → (a number n : ℕ) → List Access
number_log kind a number zero = []
number_log kind a number (suc n) = number_log kind a number n ++ write_of kind (a + n) (byte_of number n)

-- the first i bytes of the number are there, the last of them in R30 too
pub record NumberIsStored (v0 : View) (a number : ℕ) (kind : Kind) (i : ℕ) (v : View) : Type 0 where
  pub there : (j : ℕ) → j < i → v.at (a + j) ≡ byte_of number j
  pub same : (k : ℕ) → k ≢ 30 → Outside a i k → v.at k ≡ v0.at k
  pub work : (j : ℕ) → i ≡ suc j → v.at 30 ≡ byte_of number j
  pub inputs : v.inputs ≡ v0.inputs
  pub safe : v.safe ≡ v0.safe
  pub seen : v.seen ≡ v0.seen ++ number_log kind a number i

not_work : (a n j : ℕ) → Outside a n 30 → j < n → a + j ≢ 30
not_work a n j h l q = grind arith

repeated_there : (number i x : ℕ) → ((j : ℕ) → i ≡ suc j → x ≡ byte_of number j) → is_repeated number i ≡ true → x ≡ byte_of number i
repeated_there number i x work r =
    let parts = and_parts (nat_lt 0 i) (byte_of number (i - 1) == byte_of number i) r in
    let first = parts.0 in
    let more : 0 < i = grind (arith, nat_tests, first) in
    work (i - 1) (omega (arith, more)) ∙ eqb-true (byte_of number (i - 1)) (byte_of number i) parts.1

step : (e : Env) (p : Location) (n a number : ℕ) (kind : Kind) (v0 : View) → StandsFrom e p n a kind → Outside a n 30
    → is_held kind ≡ true → (i : ℕ) → i < n → (v : View) → NumberIsStored v0 a number kind i v
    → NumberIsStored v0 a number kind (suc i) (block e (number_byte_code p number i) v)
step e p n a number kind v0 s far held i l v h =
    let o = byte_is_stored e p i (a + i) (byte_of number i) kind (s.at i l) (s.kind i l) held v (is_repeated number i)
    (repeated_there number i (v.at 30) h.work) in
    record {
      there = λ j m. ⊎_elim (λ t. rw t (o.here))
          (λ t. o.same (a + j) (not_work a n j far (omega arith)) (λ x. t (omega arith)) ∙ h.there j (omega arith)) (cases_eq j i);
      same = λ k z m. o.same k z (not_here k a i m) ∙ h.same k z (fewer k a i m);
      work = λ j q. o.work (not_work a n i far l) ∙ ap (byte_of number) (omega (arith, q));
      inputs = o.inputs ∙ h.inputs;
      safe = o.safe ∙ h.safe;
      seen = o.seen ∙ ap (λ x. x ++ write_of kind (a + i) (byte_of number i)) h.seen
          ∙ append_assoc v0.seen (number_log kind a number i) (write_of kind (a + i) (byte_of number i));
    }

pub number_is_stored : (e : Env) (p : Location) (n a number : ℕ) (kind : Kind) (v : View) → StandsFrom e p n a kind
    → Outside a n 30 → is_held kind ≡ true → NumberIsStored v a number kind n (block e (store_number_code p number n) v)
number_is_stored e p n a number kind v s far held =
    chain_holds e (λ i. number_byte_code p number i) (NumberIsStored v a number kind) n (step e p n a number kind v s far held) v
    (record {
      there = λ j m. absurd (omega arith);
      same = λ k z m. refl;
      work = λ j q. absurd (omega (arith, q));
      inputs = refl;
      safe = refl;
      seen = sym (append-nil v.seen);
    })

-- ---- the form of the code

byte_straight : (p : Location) (number i : ℕ) → all_straight (number_byte_code p number i) ≡ true
byte_straight p number i = by_repeat p (is_repeated number i)
  where
    by_repeat : (p : Location) (b : Bool)
        → all_straight (if b then work_stored p i ∷ [] else Plain (Ldi 30 (byte_of number i)) ∷ work_stored p i ∷ []) ≡ true
    by_repeat (InRegisters r) true = refl
    by_repeat (InRegisters r) false = refl
    by_repeat (InMemory o k) true = refl
    by_repeat (InMemory o k) false = refl

pub store_straight : (p : Location) (number n : ℕ) → all_straight (store_number_code p number n) ≡ true
store_straight p number n = chain_straight (λ i. number_byte_code p number i) n (byte_straight p number)

byte_steps : (p : Location) (number i : ℕ)
    → (1 ≤ code_steps (number_byte_code p number i)) × (code_steps (number_byte_code p number i) ≤ 2)
byte_steps p number i = by_repeat p (is_repeated number i)
  where
    by_repeat : (p : Location) (b : Bool)
        → let c = if b then work_stored p i ∷ [] else Plain (Ldi 30 (byte_of number i)) ∷ work_stored p i ∷ [] in
        (1 ≤ code_steps c) × (code_steps c ≤ 2)
    by_repeat (InRegisters r) true = (omega arith, omega arith)
    by_repeat (InRegisters r) false = (omega arith, omega arith)
    by_repeat (InMemory o k) true = (omega arith, omega arith)
    by_repeat (InMemory o k) false = (omega arith, omega arith)

pub store_steps : (p : Location) (number n : ℕ)
    → (n ≤ code_steps (store_number_code p number n)) × (code_steps (store_number_code p number n) ≤ 2 * n)
store_steps p number zero = (omega arith, omega arith)
store_steps p number (suc n) =
    let r = store_steps p number n in
    let b = byte_steps p number n in
    let sum = steps-append (store_number_code p number n) (number_byte_code p number n) in
    (omega (arith, sum, r.0, b.0), omega (arith, sum, r.1, b.1))

-- ---- what is needed of what is stored

pub all_needed : (known : Option RightNumber) → number_known known ≡ None → numbered known ≡ None
all_needed None q = refl
all_needed (Some k) q = ap (λ (x : Option ℤ). if is_number x then Some k else None) q

pub stored_more : (x : Option RightNumber) (place n : ℕ) (need : Need) (u : ℕ) → need u ≤ right_needed x place n need u
stored_more None place n need u = least_other place n u need
stored_more (Some k) place n need u = omega arith
