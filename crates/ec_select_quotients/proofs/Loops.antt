-- The loop of a division.
use Rattle.std.proofs.Common.{◌≡◌, ◌≢◌, ℕ, zero, suc, ◌+◌, ◌-◌, ◌*◌, ◌/◌, ◌%◌, ◌^◌, ◌<◌, ◌≤◌, ⊎_elim, Bool, true, false, pos, negsuc, ◌==◌}
use Rattle.std.proofs.Common.{refl, sym, ap, ◌∙◌, subst, arith, Some, ltb-true, lit<, ◌++◌}
use Rattle.std.specs.Prelude.{nat_lt}
use Rattle.std.specs.Int.{from_bool}
use Rattle.std.proofs.lemmas.Bool.{cases_Bool, cases_eq, ne_eqb}
use Rattle.std.proofs.lemmas.Bool.Decides.{nat_tests}
use native.Mathlib.Nat.{pow-suc}
use Rattle.std.proofs.Math.Nat.{pow-le-pow_right}
use Rattle.ec_isa.specs.declared.instructions.Instr.TheVariants.{Dec, Brbs, Brbc}
use Rattle.ec_asm.specs.declared.pieces.Location.{Location}
use Rattle.ec_asm.specs.View.{View}
use Rattle.ec_asm.specs.Change.{Env, Own, change}
use Rattle.ec_asm.specs.Run.{Running, act}
use Rattle.ec_asm.specs.Items.{At, HasAt, block, code_steps}
use Rattle.ec_asm.specs.Pieces.{StandsFrom, Outside, value}
use Rattle.ec_asm.specs.PieceLaws.{HoldsNumbers}
use Rattle.ec_asm.specs.Takes.{Goes}
use Rattle.ec_asm.proofs.Bytes.{put_here, put_other}
use Rattle.ec_asm.proofs.Hoare.{has_parts, block_goes, goes_on_to, one_goes}
use Rattle.ec_asm.proofs.ItemWords.{straight_ends}
use Rattle.ec_asm.proofs.Numbers.{value_below}
use Rattle.ec_asm.proofs.Sum.{value-same}
use Rattle.ec_select_quotients.specs.Quotients.{divisor_register, number_of, bring_code, bring_words, skip_code, take_code, take_words}
use Rattle.ec_select_quotients.specs.Quotients.{back_words, count_code}
use Rattle.ec_select_quotients.specs.Laws.{divisor_bytes, DivisionIsRight}
use Rattle.ec_select_quotients.proofs.Long.{Long, begins, goes_without, goes_with, quotient_is, remainder_is, rest_is_small, powers}
use Rattle.ec_select_quotients.proofs.Rows.{divisor_same, register_below}
use Rattle.ec_select_quotients.proofs.Turns.{IsFar, high_outside, divisor_outside, divisor_above, divisor_some, brings}
use Rattle.ec_select_quotients.proofs.Turns.{noted, unnoted, takes}
use Rattle.ec_select_quotients.proofs.Words.{bring_straight, bring_far, bring_steps, bring_has_words, take_straight, take_far, take_steps, take_has_words}

pow2-le : (i j : ℕ) → i ≤ j → 2 ^ i ≤ 2 ^ j
pow2-le i j h = pow-le-pow_right (lit< tt) h

left_out : (r : Bool) (x y z : ℕ) → y ≡ z → x + unnoted r y ≡ x + unnoted r z
left_out r x y z h = ap (λ t. x + unnoted r t) h

module _ (r : Bool) (e : Env) (p : Location) (n c x d : ℕ) (st : StandsFrom e p (suc n) c Own) (far : IsFar c (suc n))
    (most : suc n ≤ 4) (some : 1 ≤ d) (inside : x < 256 ^ suc n) (start skip take count back end : ℕ)
    (bring : HasAt e (bring_code p (suc n)) start skip) (over : At e (Brbs 0 (pos (take_words r p (suc n)))) skip take)
    (taking : HasAt e (take_code r p (suc n)) take count) (dec : At e (Dec 30) count back)
    (branch : At e (Brbc 1 (negsuc (back_words r p (suc n)))) back end) where
  -- what holds after i bits, where the view was v0 before. Where bits of the quotient are not noted, they are added
  record After (v0 : View) (i : ℕ) (v : View) : Type 0 where
    rest : ℕ
    number : ℕ
    long : Long x d (256 ^ suc n) rest number i
    rest_is : value v.at 8 (suc n) ≡ rest
    number_is : value v.at c (suc n) + unnoted r long.quotient ≡ number
    divisor : number_of (divisor_bytes v) (suc n) ≡ d
    numbers : HoldsNumbers v
    same : (k : ℕ) → k ≢ 0 → k ≢ 1 → k ≢ 30 → Outside 8 (suc n) k → Outside c (suc n) k → v.at k ≡ v0.at k
    inputs : v.inputs ≡ v0.inputs
    safe : v.safe ≡ v0.safe
    seen : v.seen ≡ v0.seen

  skip_ends : skip ≡ start + bring_words p (suc n)
  skip_ends = straight_ends e (bring_code p (suc n)) start skip (bring_straight p (suc n)) (bring_far e p (suc n) c st) bring
      ∙ ap (λ k. start + k) (bring_has_words p (suc n))

  take_ends : count ≡ take + take_words r p (suc n)
  take_ends = straight_ends e (take_code r p (suc n)) take count (take_straight r p (suc n)) (take_far r e p n c st) taking
      ∙ ap (λ k. take + k) (take_has_words r p (suc n))

  skips : (v : View) → v.flags.c ≡ 1 → Goes e 1 skip v count v
  skips v q =
      let a = over.ends in
      let b = dec.ends in
      let room = dec.room in
      let w = take_ends in
      let r2 = branch.room in
      let r3 = branch.ends in
      let to : (skip + 1 + take_words r p (suc n)) % 65536 ≡ count = omega arith in
      let f : act e (Some (Brbs 0 (pos (take_words r p (suc n))))) skip v ≡ Running ((skip + 1 + take_words r p (suc n)) % 65536) v =
      rw q refl in
      record { by = ap (λ o. act e o skip v) over.is ∙ f ∙ ap (λ k. Running k v) to }

  stays : (v : View) → v.flags.c ≡ 0 → Goes e 1 skip v take v
  stays v q =
      let a = over.ends in
      let room = over.room in
      let to : (skip + 1) % 65536 ≡ take = omega arith in
      let f : act e (Some (Brbs 0 (pos (take_words r p (suc n))))) skip v ≡ Running ((skip + 1) % 65536) v = rw q refl in
      record { by = ap (λ o. act e o skip v) over.is ∙ f ∙ ap (λ k. Running k v) to }

  passed : (v : View) → v.flags.z ≡ 1 → Goes e 1 back v end v
  passed v q =
      let m = branch.ends in
      let room = branch.room in
      let to : (back + 1) % 65536 ≡ end = omega arith in
      let b : act e (Some (Brbc 1 (negsuc (back_words r p (suc n))))) back v ≡ Running ((back + 1) % 65536) v = rw q refl in
      record { by = ap (λ o. act e o back v) branch.is ∙ b ∙ ap (λ k. Running k v) to }

  again : (v : View) → v.flags.z ≡ 0 → Goes e 1 back v start v
  again v q =
      let a = over.ends in
      let m = dec.ends in
      let room = dec.room in
      let w = skip_ends in
      let u = take_ends in
      let to : (back + 65536 - back_words r p (suc n)) % 65536 ≡ start = omega arith in
      let b : act e (Some (Brbc 1 (negsuc (back_words r p (suc n))))) back v
      ≡ Running ((back + 65536 - back_words r p (suc n)) % 65536) v = rw q refl in
      record { by = ap (λ o. act e o back v) branch.is ∙ b ∙ ap (λ k. Running k v) to }

  -- a bit
  record Turned (v0 : View) (i : ℕ) (v : View) : Type 0 where
    steps : ℕ
    at_most : steps ≤ 7 * suc n + 4
    last : View
    goes : Goes e steps start v count last
    after : After v0 (suc i) last
    left : last.at 30 ≡ v.at 30

  doubled : (quotient : ℕ) → unnoted r (2 * quotient) ≡ unnoted r quotient + unnoted r quotient
  doubled q = by_kind r
    where
      by_kind : (r : Bool) → unnoted r (2 * q) ≡ unnoted r q + unnoted r q
      by_kind true = omega arith
      by_kind false = refl

  one_more : (quotient : ℕ) → noted r + unnoted r (2 * quotient + 1) ≡ unnoted r (2 * quotient) + 1
  one_more q = by_kind r
    where
      by_kind : (r : Bool) → noted r + unnoted r (2 * q + 1) ≡ unnoted r (2 * q) + 1
      by_kind true = omega arith
      by_kind false = refl

  turn : (v0 : View) (i : ℕ) (v : View) → suc i ≤ 8 * suc n → After v0 i v → Turned v0 i v
  turn v0 i v bits h =
      let m = suc n in
      let less = h.long.less in
      let even_power : 256 ^ suc n ≡ 2 * (128 * 256 ^ n) = omega (arith, pow-suc 256 n) in
      let small : h.rest < 2 ^ i = rest_is_small x d (256 ^ m) h.rest h.number i some inside h.long in
      let power : 2 ^ suc i ≤ 256 ^ m = subst (λ z. 2 ^ suc i ≤ z) (powers m) (pow2-le (suc i) (8 * m) bits) in
      let rest0 = h.rest_is in
      let room : 2 * value v.at 8 m + 1 < 256 ^ m = omega (arith, pow-suc 2 i, small, power, rest0) in
      let v1 = block e (bring_code p m) v in
      let b = brings e p n c v st far most h.numbers room in
      let go1 = block_goes e (bring_code p m) start skip v (bring_straight p m) bring in
      let take1 = bring_steps p m in
      let divisor1 : number_of (divisor_bytes v1) m ≡ d = divisor_same v v1 m most (λ j l.
      let u = divisor_some j (omega arith) in
      b.same (divisor_register j) (omega arith) (omega arith) (divisor_above m j most (omega arith))
      (divisor_outside c m j far (omega arith))) ∙ h.divisor in
      let flag : v1.flags.c ≡ from_bool (nat_lt (value v1.at 8 m) d) =
      b.less ∙ ap (λ z. from_bool (nat_lt (value v1.at 8 m) z)) h.divisor in
      let left1 : v1.at 30 ≡ v.at 30 =
      b.same 30 (omega arith) (omega arith) (λ q. omega arith) (high_outside c m 30 far (omega arith) (omega arith)) in
      let q = h.long.quotient in
      let rest1 : value v1.at 8 m ≡ 2 * h.rest + b.bit = b.rest ∙ ap (λ z. 2 * z + b.bit) h.rest_is in
      let number1 = value v1.at c m + unnoted r (2 * q) in
      let before = h.number_is in
      let double = doubled q in
      let twice = b.twice in
      let twice1 : number1 + b.bit * 256 ^ m ≡ h.number + h.number =
      twice_with (value v1.at c m) (b.bit * 256 ^ m) (value v.at c m) (unnoted r (2 * q)) (unnoted r q) h.number twice double before in
      ⊎_elim
      (λ t.
      let is_less : value v1.at 8 m < d = ltb-true (value v1.at 8 m) d t in
      let carry : v1.flags.c ≡ 1 = flag ∙ ap from_bool t in
      let go2 = skips v1 carry in
      let next =
      goes_without x d (256 ^ m) h.rest h.number i b.bit (value v1.at 8 m) number1 h.long twice1 rest1 is_less in
      record {
        steps = code_steps (bring_code p m) + 1;
        at_most = omega (arith, take1);
        last = v1;
        goes = goes_on_to e (code_steps (bring_code p m)) 1 start skip count v v1 v1 go1 go2;
        after = record {
          rest = value v1.at 8 m;
          number = number1;
          long = next.0;
          rest_is = refl;
          number_is = left_out r (value v1.at c m) next.0.quotient (2 * q) next.1;
          divisor = divisor1;
          numbers = b.numbers;
          same = λ k y z w o q. b.same k y z o q ∙ h.same k y z w o q;
          inputs = b.inputs ∙ h.inputs;
          safe = b.safe ∙ h.safe;
          seen = b.seen ∙ h.seen;
        };
        left = left1;
      })
      (λ t.
      let not_less : d ≤ value v1.at 8 m = not_below (value v1.at 8 m) d t in
      let carry : v1.flags.c ≡ 0 = flag ∙ ap from_bool t in
      let v2 = block e (take_code r p m) v1 in
      let even : value v1.at c m % 2 ≡ 0 = is_even (value v1.at c m) b.bit (128 * 256 ^ n) (value v.at c m)
      (subst (λ z. value v1.at c m + b.bit * z ≡ value v.at c m + value v.at c m) even_power b.twice) in
      let k = takes r e p n c v1 st far most b.numbers (subst (λ z. z ≤ value v1.at 8 m) (sym divisor1) not_less) even in
      let go2 = stays v1 carry in
      let go3 = block_goes e (take_code r p m) take count v1 (take_straight r p m) taking in
      let take2 = take_steps r p m in
      let rest3 : value v2.at 8 m + d ≡ value v1.at 8 m = ap (λ z. value v2.at 8 m + z) (sym divisor1) ∙ k.rest in
      let number2 = value v2.at c m + unnoted r (2 * q + 1) in
      let more = one_more q in
      let noted2 = k.number in
      let marked : number2 ≡ number1 + 1 = omega (arith, more, noted2) in
      let next = goes_with x d (256 ^ m) h.rest h.number i b.bit (value v1.at 8 m) number1 (value v2.at 8 m) number2 h.long twice1 rest1
      b.small rest3 marked in
      record {
        steps = code_steps (bring_code p m) + 1 + code_steps (take_code r p m);
        at_most = omega (arith, take1, take2);
        last = v2;
        goes = goes_on_to e (code_steps (bring_code p m) + 1) (code_steps (take_code r p m)) start take count v v1 v2
            (goes_on_to e (code_steps (bring_code p m)) 1 start skip take v v1 v1 go1 go2) go3;
        after = record {
          rest = value v2.at 8 m;
          number = number2;
          long = next.0;
          rest_is = refl;
          number_is = left_out r (value v2.at c m) next.0.quotient (2 * q + 1) next.1;
          divisor = divisor_same v1 v2 m most (λ j l.
              let u = divisor_some j (omega arith) in
              k.same (divisor_register j) (omega arith) (omega arith) (divisor_above m j most (omega arith))
              (divisor_outside c m j far (omega arith))) ∙ divisor1;
          numbers = k.numbers;
          same = λ j y z w o q. k.same j y z o q ∙ b.same j y z o q ∙ h.same j y z w o q;
          inputs = k.inputs ∙ b.inputs ∙ h.inputs;
          safe = k.safe ∙ b.safe ∙ h.safe;
          seen = k.seen ∙ b.seen ∙ h.seen;
        };
        left = k.same 30 (omega arith) (omega arith) (λ q. omega arith) (high_outside c m 30 far (omega arith) (omega arith)) ∙ left1;
      })
      (cases_Bool (nat_lt (value v1.at 8 m) d))
    where
      not_below : (a b : ℕ) → nat_lt a b ≡ false → b ≤ a
      not_below a b h = grind (arith, nat_tests)

      twice_with : (y b z u w number : ℕ) → y + b ≡ z + z → u ≡ w + w → z + w ≡ number → y + u + b ≡ number + number
      twice_with y b z u w number h k l = omega (arith, h, k, l)

      is_even : (r b q y : ℕ) → r + b * (2 * q) ≡ y + y → r % 2 ≡ 0
      is_even r b q y h =
          let z : b * (2 * q) ≡ 2 * (b * q) = omega arith in
          omega (arith, h, z)

  -- R30 is counted down
  downs : (v0 : View) (i : ℕ) (v : View) → After v0 i v → After v0 i (change e (Dec 30) v)
  downs v0 i v h =
      let m = suc n in
      let w = change e (Dec 30) v in
      let uc = st.clear in
      let other : (k : ℕ) → k ≢ 30 → w.at k ≡ v.at k = λ k q. put_other v.at 30 _ k q in
      let rest : value w.at 8 m ≡ value v.at 8 m = value-same w.at v.at 8 m (λ j l. other (8 + j) (omega arith)) in
      let number : value w.at c m ≡ value v.at c m = value-same w.at v.at c m (λ j l. other (c + j) (apart (c + j) j l)) in
      record {
        rest = h.rest;
        number = h.number;
        long = h.long;
        rest_is = rest ∙ h.rest_is;
        number_is = ap (λ z. z + unnoted r h.long.quotient) number ∙ h.number_is;
        divisor = divisor_same v w m most (λ j l.
            let u = register_below j (omega arith) in other (divisor_register j) (omega arith)) ∙ h.divisor;
        numbers = λ k u. ⊎_elim (λ (q : k ≡ 30). rw (put_here v.at 30 ((v.at 30 + 255) % 256) k q) (omega arith))
            (λ (q : k ≢ 30). rw (other k q) (h.numbers k u)) (cases_eq k 30);
        same = λ k y z q o t. other k q ∙ h.same k y z q o t;
        inputs = h.inputs;
        safe = h.safe;
        seen = h.seen;
      }
    where
      apart : (k j : ℕ) → j < suc n → c + j ≢ 30
      apart k j l q =
          let o = high_outside c (suc n) 30 far (omega arith) (omega arith) in
          let z = o (omega arith) in
          omega arith

  record Ends (v0 : View) (i k : ℕ) (v : View) : Type 0 where
    steps : ℕ
    at_most : steps ≤ suc k * (7 * suc n + 6)
    last : View
    goes : Goes e steps start v end last
    after : After v0 (i + suc k) last

  -- k + 1 bits
  loop : (k : ℕ) (v0 : View) (i : ℕ) (v : View) → i + suc k ≡ 8 * suc n → After v0 i v → v.at 30 ≡ suc k → Ends v0 i k v
  loop zero v0 i v bits h left =
      let t = turn v0 i v (omega arith) h in
      let v1 = t.last in
      let v2 = change e (Dec 30) v1 in
      let a = downs v0 (suc i) v1 t.after in
      let now : v1.at 30 ≡ 1 = t.left ∙ left in
      let set : v2.flags.z ≡ 1 = ap (λ z. from_bool ((z + 255) % 256 == 0)) now in
      let go1 = one_goes e (Dec 30) count back v1 refl dec in
      let go2 = goes_on_to e t.steps 1 start count back v v1 v2 t.goes go1 in
      let take = t.at_most in
      let q : suc i ≡ i + suc zero = omega arith in
      record {
        steps = t.steps + 1 + 1;
        at_most = omega (arith, take);
        last = v2;
        goes = goes_on_to e (t.steps + 1) 1 start back end v v2 v2 go2 (passed v2 set);
        after = subst (λ z. After v0 z v2) q a;
      }
  loop (suc k) v0 i v bits h left =
      let t = turn v0 i v (omega arith) h in
      let v1 = t.last in
      let v2 = change e (Dec 30) v1 in
      let a = downs v0 (suc i) v1 t.after in
      let now : v1.at 30 ≡ suc (suc k) = t.left ∙ left in
      let less : (suc (suc k) + 255) % 256 ≡ suc k = omega arith in
      let next : v2.at 30 ≡ suc k = ap (λ z. (z + 255) % 256) now ∙ less in
      let clear : v2.flags.z ≡ 0 =
      ap (λ z. from_bool ((z + 255) % 256 == 0)) now ∙ ap (λ z. from_bool (z == 0)) less ∙ ap from_bool (ne_eqb (suc k) 0 (omega arith)) in
      let go1 = one_goes e (Dec 30) count back v1 refl dec in
      let go2 = goes_on_to e t.steps 1 start count back v v1 v2 t.goes go1 in
      let go3 = goes_on_to e (t.steps + 1) 1 start back start v v2 v2 go2 (again v2 clear) in
      let s = loop k v0 (suc i) v2 (omega arith) a next in
      let take = t.at_most in
      let more = s.at_most in
      let q : suc i + suc k ≡ i + suc (suc k) = omega arith in
      record {
        steps = t.steps + 1 + 1 + s.steps;
        at_most = bound k t.steps s.steps (7 * suc n) (omega (arith, take)) more;
        last = s.last;
        goes = goes_on_to e (t.steps + 1 + 1) s.steps start start end v v2 s.last go3 s.goes;
        after = subst (λ z. After v0 z s.last) q s.after;
      }
    where
      bound : (k t r m : ℕ) → t ≤ m + 4 → r ≤ suc k * (m + 6) → t + 1 + 1 + r ≤ suc (suc k) * (m + 6)
      bound k t r m a b = omega (arith, a, b)

  -- the whole quotient
  quotient_there : (v0 v : View) (i : ℕ) → 2 ^ i ≡ 256 ^ suc n → r ≡ false → After v0 i v → value v.at c (suc n) ≡ x / d
  quotient_there v0 v i power false_is h =
      let below : value v.at c (suc n) < 256 ^ suc n = value_below v.at c (suc n) (λ j l.
      let uc = st.clear in h.numbers (c + j) (omega arith)) in
      let none : unnoted r h.long.quotient ≡ 0 = ap (λ b. unnoted b h.long.quotient) false_is in
      let is = h.number_is in
      let all : h.number ≡ value v.at c (suc n) = omega (arith, none, is) in
      sym all ∙ (quotient_is x d (256 ^ suc n) h.rest h.number i power (omega (arith, all, below)) h.long).0

  rest_there : (v0 v : View) (i : ℕ) → 2 ^ i ≡ 256 ^ suc n → After v0 i v → value v.at 8 (suc n) ≡ x % d
  rest_there v0 v i power h =
      let below : value v.at c (suc n) < 256 ^ suc n = value_below v.at c (suc n) (λ j l.
      let uc = st.clear in h.numbers (c + j) (omega arith)) in
      h.rest_is ∙ by_kind v.at below h.rest h.number h.long r h.number_is
    where
      by_kind : (f : ℕ → ℕ) → value f c (suc n) < 256 ^ suc n → (rest number : ℕ) (g : Long x d (256 ^ suc n) rest number i)
          → (r : Bool) → value f c (suc n) + unnoted r g.quotient ≡ number → rest ≡ x % d
      by_kind f below rest number g true q = remainder_is x d (256 ^ suc n) rest number (value f c (suc n)) i power below g q
      by_kind f below rest number g false q =
          (quotient_is x d (256 ^ suc n) rest number i power (omega (arith, q, below)) g).1

pub division_is_right : DivisionIsRight
division_is_right r e p n c d pc end v st most f1 f2 f3 f4 ready stands =
    let far : IsFar c (suc n) = record { low = f1; above_low = f2; high = f3; above_high = f4 } in
    let m = suc n in
    let uc = st.clear in
    let s1 = has_parts e (bring_code p m) (skip_code r p m ++ (take_code r p m ++ count_code r p m)) pc end stands in
    let over = s1.2 in
    let s2 = has_parts e (take_code r p m) (count_code r p m) over.0 end over.2 in
    let dec = s2.2 in
    let br = dec.2 in
    let branch : At e (Brbc 1 (negsuc (back_words r p m))) dec.0 end =
    subst (λ i. At e (Brbc 1 (negsuc (back_words r p m))) dec.0 i) (sym br.2) br.1 in
    let x = value v.at c m in
    let inside : x < 256 ^ m = value_below v.at c m (λ j l. ready.numbers (c + j) (omega arith)) in
    let k = 8 * m - 1 in
    let bits : suc k ≡ 8 * m = omega arith in
    let long0 = begins x d (256 ^ m) 0 ready.some refl in
    let first : After r e p n c x d st far most ready.some inside pc s1.0 over.0 s2.0 dec.0 end s1.1 over.1 s2.1 dec.1 branch v 0 v = record {
      rest = 0;
      number = x;
      long = long0.0;
      rest_is = ready.remainder_is;
      number_is = left_out r x long0.0.quotient 0 long0.1 ∙ none x r;
      divisor = ready.divisor_is;
      numbers = ready.numbers;
      same = λ i a b f o q. refl;
      inputs = refl;
      safe = refl;
      seen = refl;
    } in
    let s = loop r e p n c x d st far most ready.some inside pc s1.0 over.0 s2.0 dec.0 end s1.1 over.1 s2.1 dec.1 branch k v 0 v (omega arith)
    first (ready.count ∙ sym bits) in
    let last = s.last in
    let after = s.after in
    let power : 2 ^ (0 + suc k) ≡ 256 ^ m = ap (λ z. 2 ^ z) (zero_plus (suc k) ∙ bits) ∙ powers m in
    let take = s.at_most in
    record {
      steps = s.steps;
      at_most = subst (λ z. s.steps ≤ z * (7 * m + 6)) bits take;
      last = last;
      goes = s.goes;
      quotient = λ q. quotient_there r e p n c x d st far most ready.some inside pc s1.0 over.0 s2.0 dec.0 end s1.1 over.1 s2.1 dec.1 branch
          v last (0 + suc k) power q after;
      remainder = rest_there r e p n c x d st far most ready.some inside pc s1.0 over.0 s2.0 dec.0 end s1.1 over.1 s2.1 dec.1 branch
          v last (0 + suc k) power after;
      numbers = after.numbers;
      same = after.same;
      inputs = after.inputs;
      safe = after.safe;
      seen = after.seen;
    }
  where
    none : (x : ℕ) (r : Bool) → x + unnoted r 0 ≡ x
    none x true = omega arith
    none x false = omega arith

    zero_plus : (k : ℕ) → 0 + k ≡ k
    zero_plus k = omega arith
