-- The test whether a number is 0.
use Rattle.std.proofs.Common.{◌≡◌, ◌≢◌, ℕ, zero, suc, ◌+◌, ◌-◌, ◌*◌, ◌^◌, ◌<◌, ◌≤◌, ◌++◌, ⊎_elim}
use Rattle.std.proofs.Common.{refl, sym, ap, ◌∙◌, arith}
use Rattle.std.specs.Prelude.{◌==◌, bit_or}
use Rattle.std.specs.Int.{from_bool}
use Rattle.std.specs.Int.Bits.{and_self, or_zero_r}
use Rattle.std.proofs.lemmas.Bool.{cases_eq, ne_eqb}
use Rattle.std.proofs.lemmas.Nat.{le_or_r, mul-le}
use Rattle.ec_isa.specs.declared.instructions.Instr.TheVariants.{And, Or}
use Rattle.ec_asm.specs.declared.pieces.Location.{Location}
use Rattle.ec_asm.specs.declared.pieces.Location.TheVariants.{InRegisters, InMemory}
use Rattle.ec_asm.specs.View.{View}
use Rattle.ec_asm.specs.Change.{Env, Own, set, change}
use Rattle.ec_asm.specs.Items.{block, chain}
use Rattle.ec_asm.specs.Pieces.{address, KindIs, StandsFrom, value, KeepsAll}
use Rattle.ec_asm.specs.PieceLaws.{HoldsNumbers}
use Rattle.ec_asm.proofs.Hoare.{chain_holds, block-append}
use Rattle.ec_asm.proofs.Bytes.{put_here, put_other}
use Rattle.ec_asm.proofs.Numbers.{pow_pos}
use Rattle.ec_select_bytes.specs.Values.{byte_test, first_byte, join_byte, join_code, test_code}
use Rattle.ec_select_bytes.specs.Laws.{TestsTellZero, TestsKeep}

pub several : (p : Location) (n : ℕ) → test_code p (suc (suc n)) ≡ first_byte p ++ join_code p (suc n)
several p n =
    let less : suc (suc n) - 1 ≡ suc n = omega arith in
    rw (ne_eqb (suc (suc n)) 0 (omega arith), ne_eqb (suc (suc n)) 1 (omega arith), less) refl

-- ---- one byte

record TestsByte (v w : View) (a : ℕ) : Type 0 where
  zero_is : w.flags.z ≡ from_bool (v.at a == 0)
  keeps : KeepsAll v w

byte_is_tested : (e : Env) (p : Location) (a : ℕ) (v : View) → address e p 0 ≡ a → KindIs e p a Own
    → TestsByte v (block e (byte_test p) v) a
byte_is_tested e (InRegisters r) a v p k =
    let x = v.at (r + 0) in
    let w = change e (And (r + 0) (r + 0)) v in
    let here : w.at (r + 0) ≡ x = put_here v.at (r + 0) _ (r + 0) refl ∙ and_self x in
    record {
      zero_is = ap (λ n. from_bool (n == 0)) (and_self x) ∙ ap (λ j. from_bool (v.at j == 0)) p;
      keeps = record {
        same = λ j y z. ⊎_elim (λ (q : j ≡ r + 0). ap w.at q ∙ here ∙ ap v.at (sym q))
            (λ (q : j ≢ r + 0). put_other v.at (r + 0) _ j q) (cases_eq j (r + 0));
        inputs = refl;
        safe = refl;
        seen = refl;
      };
    }
byte_is_tested e (InMemory o j) a v p k =
    let v1 = set 0 (v.at a) v in
    rw (p, k) (record {
      zero_is = ap (λ n. from_bool (n == 0)) (and_self (v.at a));
      keeps = record {
        same = λ i y z. put_other v1.at 0 _ i y ∙ put_other v.at 0 (v.at a) i y;
        inputs = refl;
        safe = refl;
        seen = refl;
      };
    })

-- ---- several bytes

record BringsFirst (v w : View) (a : ℕ) : Type 0 where
  here : w.at 0 ≡ v.at a
  keeps : KeepsAll v w

first_is_brought : (e : Env) (p : Location) (a : ℕ) (v : View) → address e p 0 ≡ a → KindIs e p a Own
    → BringsFirst v (block e (first_byte p) v) a
first_is_brought e (InRegisters r) a v p k =
    record {
      here = ap v.at p;
      keeps = record { same = λ j y z. put_other v.at 0 _ j y; inputs = refl; safe = refl; seen = refl };
    }
first_is_brought e (InMemory o j) a v p k =
    rw (p, k) (record {
      here = refl;
      keeps = record { same = λ i y z. put_other v.at 0 (v.at a) i y; inputs = refl; safe = refl; seen = refl };
    })

record JoinsByte (v w : View) (a : ℕ) : Type 0 where
  here : w.at 0 ≡ bit_or (v.at 0) (v.at a)
  zero_is : w.flags.z ≡ from_bool (w.at 0 == 0)
  keeps : KeepsAll v w

byte_is_joined : (e : Env) (p : Location) (i a : ℕ) (v : View) → 2 ≤ a → address e p (1 + i) ≡ a → KindIs e p a Own
    → JoinsByte v (block e (join_byte p i) v) a
byte_is_joined e (InRegisters r) i a v two p k =
    record {
      here = ap (λ j. bit_or (v.at 0) (v.at j)) p;
      zero_is = refl;
      keeps = record { same = λ j y z. put_other v.at 0 _ j y; inputs = refl; safe = refl; seen = refl };
    }
byte_is_joined e (InMemory o j) i a v two p k =
    let v1 = set 1 (v.at a) v in
    rw (p, k) (record {
      here = refl;
      zero_is = refl;
      keeps = record {
        same = λ l y z. put_other v1.at 0 _ l y ∙ put_other v.at 1 (v.at a) l z;
        inputs = refl;
        safe = refl;
        seen = refl;
      };
    })

-- the first i bytes and one more were joined
record JoinsTo (v0 : View) (a i : ℕ) (v : View) : Type 0 where
  joined : (v.at 0 == 0) ≡ (value v0.at a (suc i) == 0)
  zero_is : 1 ≤ i → v.flags.z ≡ from_bool (v.at 0 == 0)
  keeps : KeepsAll v0 v

-- a number is 0 where all its bytes are
joined_step : (r y x p : ℕ) → 0 < p → (r == 0) ≡ (y == 0) → (bit_or r x == 0) ≡ (y + x * p == 0)
joined_step r y zero p some h =
    let none : y + 0 * p ≡ y = omega arith in
    ap (λ n. n == 0) (or_zero_r r) ∙ h ∙ ap (λ n. n == 0) (sym none)
joined_step r y (suc x) p some h =
    let up : suc x ≤ bit_or r (suc x) = le_or_r r (suc x) in
    let m : 1 * p ≤ suc x * p = mul-le 1 p (suc x) p (omega arith) (omega arith) in
    ne_eqb (bit_or r (suc x)) 0 (omega (arith, up)) ∙ sym (ne_eqb (y + suc x * p) 0 (omega (arith, m, some)))

step : (e : Env) (p : Location) (n a : ℕ) (v0 : View) → StandsFrom e p (suc n) a Own → (i : ℕ) → i < n → (v : View)
    → JoinsTo v0 a i v → JoinsTo v0 a (suc i) (block e (join_byte p i) v)
step e p n a v0 s i l v h =
    let two = s.clear in
    let next : 1 + i < suc n = omega (arith, l) in
    let w = block e (join_byte p i) v in
    let o = byte_is_joined e p i (a + (1 + i)) v (omega (arith, two)) (s.at (1 + i) next) (s.kind (1 + i) next) in
    let x = v0.at (a + suc i) in
    let at : a + (1 + i) ≡ a + suc i = omega arith in
    let ex : v.at (a + (1 + i)) ≡ x = ap v.at at ∙ h.keeps.same (a + suc i) (omega (arith, two)) (omega (arith, two)) in
    record {
      joined = ap (λ b. b == 0) (o.here ∙ ap (λ b. bit_or (v.at 0) b) ex)
          ∙ joined_step (v.at 0) (value v0.at a (suc i)) x (256 ^ suc i) (pow_pos (suc i)) h.joined;
      zero_is = λ z. o.zero_is;
      keeps = record {
        same = λ k y z. o.keeps.same k y z ∙ h.keeps.same k y z;
        inputs = o.keeps.inputs ∙ h.keeps.inputs;
        safe = o.keeps.safe ∙ h.keeps.safe;
        seen = o.keeps.seen ∙ h.keeps.seen;
      };
    }

one_value : (f : ℕ → ℕ) (a : ℕ) → f (a + 0) ≡ value f a 1
one_value f a = omega arith

joins : (e : Env) (p : Location) (n a : ℕ) (v : View) → StandsFrom e p (suc n) a Own
    → JoinsTo v a n (block e (first_byte p ++ join_code p n) v)
joins e p n a v s =
    let first : address e p 0 ≡ a + 0 = s.at 0 (omega arith) in
    let f = first_is_brought e p (a + 0) v first (s.kind 0 (omega arith)) in
    rw (block-append e (first_byte p) (join_code p n) v)
    (chain_holds e (join_byte p) (JoinsTo v a) n (step e p n a v s) (block e (first_byte p) v) (record {
      joined = ap (λ b. b == 0) (f.here ∙ one_value v.at a);
      zero_is = λ z. absurd (omega arith);
      keeps = f.keeps;
    }))

pub tests_tell_zero : TestsTellZero
tests_tell_zero e p zero a v s bytes =
    (byte_is_tested e p (a + 0) v (s.at 0 (omega arith)) (s.kind 0 (omega arith))).zero_is
    ∙ ap (λ b. from_bool (b == 0)) (one_value v.at a)
tests_tell_zero e p (suc n) a v s bytes =
    let j = joins e p (suc n) a v s in
    rw (several p n) (j.zero_is (omega arith) ∙ ap from_bool j.joined)

pub tests_keep : TestsKeep
tests_keep e p zero a v s bytes = record { same = λ j y z. refl; inputs = refl; safe = refl; seen = refl }
tests_keep e p (suc zero) a v s bytes = (byte_is_tested e p (a + 0) v (s.at 0 (omega arith)) (s.kind 0 (omega arith))).keeps
tests_keep e p (suc (suc n)) a v s bytes = rw (several p n) ((joins e p (suc n) a v s).keeps)
