-- A number compared with a known one.
use Rattle.std.proofs.Common.{◌≡◌, ◌≢◌, ⊎_elim, ℕ, zero, suc, ◌+◌, ◌*◌, ◌%◌, ◌^◌, ◌<◌, refl, sym, ap, ◌∙◌, subst, arith}
use Rattle.std.specs.Prelude.{◌==◌, nat_lt}
use Rattle.std.specs.Int.{from_bool}
use Rattle.std.proofs.lemmas.Bool.{cases_eq}
use Rattle.ec_avr.specs.Flags.{byte_difference}
use Rattle.ec_asm.specs.declared.pieces.Location.{Location}
use Rattle.ec_asm.specs.declared.pieces.Location.TheVariants.{InRegisters}
use Rattle.ec_asm.specs.View.{Flags, View}
use Rattle.ec_asm.specs.Change.{Env, Own, difference_flags}
use Rattle.ec_asm.specs.Items.{block, chain}
use Rattle.ec_asm.specs.Pieces.{StandsFrom, Outside, value, carry_at, zero_at, compare_byte, ComparesByte}
use Rattle.ec_asm.specs.PieceLaws.{HoldsNumbers, moved_up}
use Rattle.ec_asm.proofs.Compared.{compare_operates}
use Rattle.ec_asm.proofs.Hoare.{chain_holds, block-append}
use Rattle.ec_asm.proofs.Results.{comparisons_tell_less, comparisons_tell_equal}
use Rattle.ec_asm.proofs.Signed.{comparisons_tell_signed}
use Rattle.ec_select_bytes.specs.Values.{byte_of}
use Rattle.ec_select_numbers.specs.ByNumber.{compared_byte, compared_code}
use Rattle.ec_select_numbers.specs.Laws.{KeepsOthers, NumbersAreCompared}
use Rattle.ec_select_numbers.proofs.Beside.{byte_below, beside, beside_there, beside_below, beside_bytes, beside_stands}
use Rattle.ec_select_numbers.proofs.Beside.{number_beside, place_beside, past, below_past, bytes_below_past}
use Rattle.ec_select_numbers.proofs.Beside.{past_clear, past_stands, past_other, place_other, place_clear, off_work}
use Rattle.ec_select_numbers.proofs.Bytes.{byte_compares}

carry_same : (i : ℕ) (f g : Flags) → f.c ≡ g.c → carry_at i f ≡ carry_at i g
carry_same zero f g h = refl
carry_same (suc i) f g h = h

zero_same : (i : ℕ) (f g : Flags) → f.z ≡ g.z → zero_at i f ≡ zero_at i g
zero_same zero f g h = refl
zero_same (suc i) f g h = h

module _ (e : Env) (p : Location) (number n a : ℕ) (v0 : View) (s : StandsFrom e p n a Own) (free : Outside a n 30)
    (bytes : HoldsNumbers v0) where
  -- where the number stands
  abbrev A : ℕ
  A = past a n

  abbrev w0 : View
  w0 = beside A number v0

  abbrev two : ℕ → View
  two i = block e (chain (compare_byte (InRegisters A) p) i) w0

  -- i bytes are compared, here and there
  record Alike (i : ℕ) (v : View) : Type 0 where
    keeps : KeepsOthers v0 v a 0
    here : (j : ℕ) → j < n → v.at (a + j) ≡ (two i).at (a + j)
    there : (j : ℕ) → (two i).at (A + j) ≡ byte_of number j
    carry : v.flags.c ≡ (two i).flags.c
    equal : v.flags.z ≡ (two i).flags.z
    sign : v.flags.s ≡ (two i).flags.s

  other : (i : ℕ) → i < n
      → ComparesByte (two i) (two (suc i)) (A + i) (a + i) (carry_at i (two i).flags) (zero_at i (two i).flags)
  other i l =
      let body = compare_byte (InRegisters A) p in
      let next : two (suc i) ≡ block e (body i) (two i) = block-append e (chain body i) (body i) w0 in
      subst (λ (w : View). ComparesByte (two i) w (A + i) (a + i) (carry_at i (two i).flags) (zero_at i (two i).flags)) (sym next)
      (compare_operates e (InRegisters A) p i (A + i) (a + i) (two i) refl (s.at i l) refl (s.kind i l) (past_clear a n i)
      (place_clear a i s.clear))

  step : (i : ℕ) → i < n → (v : View) → Alike i v → Alike (suc i) (block e (compared_byte p (byte_of number i) i) v)
  step i l v h =
      let k = byte_of number i in
      let w = block e (compared_byte p k i) v in
      let o = byte_compares e p i (a + i) k v (s.at i l) (s.kind i l) (off_work a n i free l) in
      let t = other i l in
      let f = (two i).flags in
      let m = v.at (a + i) in
      let x : (two i).at (a + i) ≡ m = sym (h.here i l) in
      let y : (two i).at (A + i) ≡ k = h.there i in
      let c : carry_at i f ≡ carry_at i v.flags = sym (carry_same i v.flags f h.carry) in
      let z : zero_at i f ≡ zero_at i v.flags = sym (zero_same i v.flags f h.equal) in
      let cf = carry_at i f in
      let zf = zero_at i f in
      let Ak = (two i).at (A + i) in
      let other_carry : (two (suc i)).flags.c ≡ from_bool (nat_lt m (k + carry_at i v.flags)) =
      t.borrow ∙ ap (λ (q : ℕ). from_bool (nat_lt q (Ak + cf))) x ∙ ap (λ (q : ℕ). from_bool (nat_lt m (q + cf))) y
      ∙ ap (λ (q : ℕ). from_bool (nat_lt m (k + q))) c in
      let other_equal : (two (suc i)).flags.z ≡ from_bool (byte_difference m k (carry_at i v.flags) == 0) * zero_at i v.flags =
      t.equal ∙ ap (λ (q : ℕ). from_bool (byte_difference q Ak cf == 0) * zf) x
      ∙ ap (λ (q : ℕ). from_bool (byte_difference m q cf == 0) * zf) y
      ∙ ap (λ (q : ℕ). from_bool (byte_difference m k q == 0) * zf) c
      ∙ ap (λ (q : ℕ). from_bool (byte_difference m k (carry_at i v.flags) == 0) * q) z in
      let other_sign : (two (suc i)).flags.s ≡ (difference_flags v.flags m k (carry_at i v.flags) (zero_at i v.flags)).s =
      t.sign ∙ ap (λ (q : ℕ). (difference_flags f q Ak cf zf).s) x ∙ ap (λ (q : ℕ). (difference_flags f m q cf zf).s) y
      ∙ ap (λ (q : ℕ). (difference_flags f m k q zf).s) c in
      let work : w.at 30 < 256 =
      ⊎_elim (λ (q : w.at 30 ≡ v.at 30). subst (λ r. r < 256) (sym q) (h.keeps.bytes 30 (omega arith)))
      (λ (q : w.at 30 ≡ k). subst (λ r. r < 256) (sym q) (byte_below number i)) o.work in
      record {
        keeps = record {
          same = λ j q r u b. o.same j q u ∙ h.keeps.same j q r u b;
          bytes = λ j u.
              ⊎_elim
              (λ (q : j ≡ 30). rw q work)
              (λ (q : j ≢ 30). rw (o.same j (omega arith) q) (h.keeps.bytes j u))
              (cases_eq j 30);
          inputs = o.inputs ∙ h.keeps.inputs;
          safe = o.safe ∙ h.keeps.safe;
          seen = o.seen ∙ h.keeps.seen;
        };
        here = λ j b.
            o.same (a + j) (place_other a n j 0 s.clear (omega arith)) (off_work a n j free b) ∙ h.here j b
            ∙ sym (t.same (a + j) (place_other a n j 0 s.clear (omega arith)) (place_other a n j 1 s.clear (omega arith)));
        there = λ j. t.same (A + j) (past_other a n j 0 (omega arith)) (past_other a n j 1 (omega arith)) ∙ h.there j;
        carry = ap (λ (g : Flags). g.c) o.flags ∙ sym other_carry;
        equal = ap (λ (g : Flags). g.z) o.flags ∙ sym other_equal;
        sign = ap (λ (g : Flags). g.s) o.flags ∙ sym other_sign;
      }

  alike : Alike n (block e (compared_code p number n) v0)
  alike =
      chain_holds e (λ i. compared_byte p (byte_of number i) i) Alike n step v0
      (record {
        keeps = record { same = λ k z o t m. refl; bytes = bytes; inputs = refl; safe = refl; seen = refl };
        here = λ j l. sym (beside_below A number v0 (a + j) (below_past a n j l));
        there = beside_there A number v0;
        carry = refl;
        equal = refl;
        sign = refl;
      })

pub numbers_are_compared : NumbersAreCompared
numbers_are_compared e p number n a v s free bytes =
    let A = past a (suc n) in
    let h = alike e p number (suc n) a v s free bytes in
    let u = beside A number v in
    let there = beside_stands e A (suc n) (past_stands a (suc n)) in
    let x : value u.at a (suc n) ≡ value v.at a (suc n) = place_beside A number a (suc n) v (bytes_below_past a (suc n)) in
    let y : value u.at A (suc n) ≡ number % 256 ^ suc n = number_beside A number (suc n) v in
    let ub = beside_bytes A number v bytes in
    record {
      less = h.carry ∙ comparisons_tell_less e (InRegisters A) p n A a u there s ub
          ∙ ap (λ m. from_bool (nat_lt m (value u.at A (suc n)))) x
          ∙ ap (λ m. from_bool (nat_lt (value v.at a (suc n)) m)) y;
      less_signed = h.sign ∙ comparisons_tell_signed e (InRegisters A) p n A a u there s ub
          ∙ ap (λ m. from_bool (nat_lt (moved_up (suc n) m) (moved_up (suc n) (value u.at A (suc n))))) x
          ∙ ap (λ m. from_bool (nat_lt (moved_up (suc n) (value v.at a (suc n))) (moved_up (suc n) m))) y;
      equal = h.equal ∙ comparisons_tell_equal e (InRegisters A) p n A a u there s ub
          ∙ ap (λ m. from_bool (m == value u.at A (suc n))) x
          ∙ ap (λ m. from_bool (value v.at a (suc n) == m)) y;
      keeps = h.keeps;
    }
