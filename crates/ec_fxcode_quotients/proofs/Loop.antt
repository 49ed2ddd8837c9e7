-- The loop of a division.
use Rattle.std.proofs.Common.{◌≡◌, ◌≢◌, ℕ, zero, suc, ◌+◌, ◌-◌, ◌*◌, ◌/◌, ◌%◌, ◌^◌, ◌<◌, ◌≤◌, ⊎_elim, false, pos, negsuc, refl, sym, ap}
use Rattle.std.proofs.Common.{◌∙◌, subst, arith, Some, ltb-true, ◌∷◌, [], ◌++◌}
use Rattle.std.specs.Prelude.{nat_lt}
use Rattle.std.specs.Int.{from_bool}
use Rattle.std.proofs.lemmas.Bool.{cases_Bool, cases_eq}
use Rattle.std.proofs.lemmas.Bool.Decides.{nat_tests}
use native.Mathlib.Nat.{pow-suc}
use Rattle.ec_isa.specs.declared.instructions.Instr.TheVariants.{Dec, Brbs, Brbc, Rjmp}
use Rattle.ec_asm.specs.declared.items.AsmItem.TheVariants.{Plain}
use Rattle.ec_asm.specs.declared.pieces.Location.{Location}
use Rattle.ec_asm.specs.View.{View}
use Rattle.ec_asm.specs.Change.{Env, Own, change}
use Rattle.ec_asm.specs.Run.{Running, act}
use Rattle.ec_asm.specs.Items.{At, HasAt, block, code_steps}
use Rattle.ec_asm.specs.Pieces.{StandsFrom, Outside, value}
use Rattle.ec_asm.specs.PieceLaws.{HoldsNumbers}
use Rattle.ec_asm.specs.Takes.{Goes}
use Rattle.ec_asm.proofs.Bytes.{put_here, put_other}
use Rattle.ec_asm.proofs.Hoare.{has_parts, block_goes, goes_on_to, one_goes}
use Rattle.ec_asm.proofs.ItemWords.{straight_ends}
use Rattle.ec_asm.proofs.Sum.{value-same}
use Rattle.ec_select_quotients.proofs.Long.{Long, begun, not_taken, taken}
use Rattle.ec_fxcode_quotients.specs.Quotients.{remainder_at, number_at, bring_code, bring_words, take_code, take_words, skip_code}
use Rattle.ec_fxcode_quotients.specs.Quotients.{turn_code, turn_words, turns_code}
use Rattle.ec_fxcode_quotients.proofs.Rows.{AreRows, brings, takes}
use Rattle.ec_fxcode_quotients.proofs.Words.{bring_straight, bring_far, bring_steps, bring_has_words, take_straight, take_far, take_steps, take_has_words}

no_carry : (r c p x : ℕ) → r + c * p ≡ x → x < p → r ≡ x
no_carry r zero p x h l = omega (arith, h)
no_carry r (suc c) p x h l = absurd (omega (arith, h, l))

not_below : (a b : ℕ) → nat_lt a b ≡ false → b ≤ a
not_below a b h = grind (arith, nat_tests)

is_even : (r b q y : ℕ) → r + b * (2 * q) ≡ y + y → r % 2 ≡ 0
is_even r b q y h =
    let z : b * (2 * q) ≡ 2 * (b * q) = omega arith in
    omega (arith, h, z)

-- what holds after i bits of the number X, where the view was v0 before. Of a division by 0 nothing is told of the
-- numbers
pub record After (X D b n jd jr jx : ℕ) (v0 : View) (i : ℕ) (v : View) : Type 0 where
  pub long : 1 ≤ D → Long X D (256 ^ suc n) (value v.at jr (suc b)) (value v.at jx (suc n)) i
  pub divisor : value v.at jd (suc b) ≡ D
  pub numbers : HoldsNumbers v
  pub same : (k : ℕ) → k ≢ 0 → k ≢ 1 → k ≢ 30 → Outside jr (suc b) k → Outside jx (suc n) k → v.at k ≡ v0.at k
  pub inputs : v.inputs ≡ v0.inputs
  pub safe : v.safe ≡ v0.safe
  pub seen : v.seen ≡ v0.seen

module _ (e : Env) (w : Location) (b n X D jd jr jx : ℕ) (sd : StandsFrom e w (suc b) jd Own)
    (sr : StandsFrom e (remainder_at w b) (suc b) jr Own) (sx : StandsFrom e (number_at w b) (suc n) jx Own)
    (rows : AreRows jd jr jx b) (under : D < 256 ^ b) (start skip jump take count test back end : ℕ)
    (bring : HasAt e (bring_code w (remainder_at w b) (number_at w b) (suc b) (suc n)) start skip)
    (branch : At e (Brbc 0 (pos 1)) skip jump) (over : At e (Rjmp (pos (take_words w (suc b)))) jump take)
    (taking : HasAt e (take_code w (remainder_at w b) (number_at w b) (suc b)) take count) (dec : At e (Dec 30) count test)
    (ends : At e (Brbs 2 (pos 1)) test back) (again : At e (Rjmp (negsuc (turn_words w b (suc n) + 2))) back end) where
  abbrev Holds : View → ℕ → View → Type 0
  Holds v0 i v = After X D b n jd jr jx v0 i v

  abbrev bringing : View → View
  bringing v = block e (bring_code w (remainder_at w b) (number_at w b) (suc b) (suc n)) v

  abbrev most : ℕ
  most = 4 * suc n + 10 * suc b + 5

  skip_ends : skip ≡ start + bring_words w (suc b) (suc n)
  skip_ends = straight_ends e (bring_code w (remainder_at w b) (number_at w b) (suc b) (suc n)) start skip
      (bring_straight w (remainder_at w b) (number_at w b) (suc b) (suc n))
      (bring_far e w (remainder_at w b) (number_at w b) (suc b) (suc n) jd jr jx sd sr sx) bring ∙ ap (λ k. start + k) (bring_has_words w b (suc n))

  take_ends : count ≡ take + take_words w (suc b)
  take_ends = straight_ends e (take_code w (remainder_at w b) (number_at w b) (suc b)) take count
      (take_straight w (remainder_at w b) (number_at w b) (suc b))
      (take_far e w (remainder_at w b) (number_at w b) (suc b) n jd jr jx sd sr sx) taking ∙ ap (λ k. take + k) (take_has_words w b)

  -- the taking is passed over where the remainder is less
  skips : (v : View) → v.flags.c ≡ 1 → Goes e 2 skip v count v
  skips v q =
      let a = branch.ends in
      let r = branch.room in
      let o = over.ends in
      let d = dec.ends in
      let dr = dec.room in
      let z = take_ends in
      let next : (skip + 1) % 65536 ≡ jump = omega arith in
      let f : act e (Some (Brbc 0 (pos 1))) skip v ≡ Running ((skip + 1) % 65536) v = rw q refl in
      let first : Goes e 1 skip v jump v = record { by = ap (λ i. act e i skip v) branch.is ∙ f ∙ ap (λ k. Running k v) next } in
      let to : (jump + 1 + take_words w (suc b)) % 65536 ≡ count = omega arith in
      let second : Goes e 1 jump v count v = record { by = ap (λ i. act e i jump v) over.is ∙ ap (λ k. Running k v) to } in
      goes_on_to e 1 1 skip jump count v v v first second

  stays : (v : View) → v.flags.c ≡ 0 → Goes e 1 skip v take v
  stays v q =
      let a = branch.ends in
      let o = over.ends in
      let r = over.room in
      let to : (skip + 1 + 1) % 65536 ≡ take = omega arith in
      let f : act e (Some (Brbc 0 (pos 1))) skip v ≡ Running ((skip + 1 + 1) % 65536) v = rw q refl in
      record { by = ap (λ i. act e i skip v) branch.is ∙ f ∙ ap (λ k. Running k v) to }

  -- R30 is counted down
  counted : (v : View) → Goes e 1 count v test (change e (Dec 30) v)
  counted v = one_goes e (Dec 30) count test v refl dec

  passed : (v : View) → v.flags.n ≡ 1 → Goes e 1 test v end v
  passed v q =
      let m = ends.ends in
      let r = again.ends in
      let u = again.room in
      let to : (test + 1 + 1) % 65536 ≡ end = omega arith in
      let f : act e (Some (Brbs 2 (pos 1))) test v ≡ Running ((test + 1 + 1) % 65536) v = rw q refl in
      record { by = ap (λ i. act e i test v) ends.is ∙ f ∙ ap (λ k. Running k v) to }

  returns : (v : View) → v.flags.n ≡ 0 → Goes e 2 test v start v
  returns v q =
      let m = ends.ends in
      let x = ends.room in
      let d = dec.ends in
      let a = branch.ends in
      let o = over.ends in
      let y = skip_ends in
      let z = take_ends in
      let next : (test + 1) % 65536 ≡ back = omega arith in
      let f : act e (Some (Brbs 2 (pos 1))) test v ≡ Running ((test + 1) % 65536) v = rw q refl in
      let first : Goes e 1 test v back v = record { by = ap (λ i. act e i test v) ends.is ∙ f ∙ ap (λ k. Running k v) next } in
      let to : (back + 65536 - (turn_words w b (suc n) + 2)) % 65536 ≡ start = omega arith in
      let second : Goes e 1 back v start v = record { by = ap (λ i. act e i back v) again.is ∙ ap (λ k. Running k v) to } in
      goes_on_to e 1 1 test back start v v v first second

  -- ---- a bit

  record Turned (v0 : View) (i : ℕ) (v : View) : Type 0 where
    steps : ℕ
    at_most : steps ≤ most
    last : View
    goes : Goes e steps start v count last
    after : Holds v0 (suc i) last
    left : last.at 30 ≡ v.at 30

  -- where the divisor is not 0 no bit of the remainder is lost
  whole_rest : (rest bit lost rest2 : ℕ) → bit ≤ 1 → rest < D → rest2 + lost * 256 ^ suc b ≡ 2 * rest + bit
      → rest2 ≡ 2 * rest + bit
  whole_rest rest bit lost rest2 small less sum =
      let p = pow-suc 256 b in
      no_carry rest2 lost (256 ^ suc b) (2 * rest + bit) sum (omega (arith, p, less, under, small))

  turn : (v0 : View) (i : ℕ) (v : View) → Holds v0 i v → Turned v0 i v
  turn v0 i v h =
      let m = suc b in
      let r = remainder_at w b in
      let x = number_at w b in
      let low = rows.low in
      let first = rows.first in
      let second = rows.second in
      let even_power : 256 ^ suc n ≡ 2 * (128 * 256 ^ n) = omega (arith, pow-suc 256 n) in
      let v1 = bringing v in
      let o = brings e w r x b n jd jr jx v sd sr sx rows h.numbers in
      let go1 = block_goes e (bring_code w r x m (suc n)) start skip v (bring_straight w r x m (suc n)) bring in
      let take1 = bring_steps w r x m (suc n) in
      let divisor1 : value v1.at jd m ≡ D = value-same v1.at v.at jd m
      (λ j l. o.same (jd + j) (omega arith) (omega arith) (λ z. absurd (omega arith)) (λ z. absurd (omega arith))) ∙ h.divisor in
      let flag : v1.flags.c ≡ from_bool (nat_lt (value v1.at jr m) D) =
      o.carry ∙ ap (λ z. from_bool (nat_lt (value v1.at jr m) z)) h.divisor in
      let left1 : v1.at 30 ≡ v.at 30 = o.same 30 (omega arith) (omega arith) (λ z. absurd (omega arith)) (λ z. absurd (omega arith)) in
      let rest1 = λ (some : 1 ≤ D). whole_rest (value v.at jr m) o.bit o.over (value v1.at jr m) o.small (h.long some).less o.rest in
      ⊎_elim
      (λ t.
      let is_less : value v1.at jr m < D = ltb-true (value v1.at jr m) D t in
      let carry : v1.flags.c ≡ 1 = flag ∙ ap from_bool t in
      record {
        steps = code_steps (bring_code w r x m (suc n)) + 2;
        at_most = omega (arith, take1);
        last = v1;
        goes = goes_on_to e (code_steps (bring_code w r x m (suc n))) 2 start skip count v v1 v1 go1 (skips v1 carry);
        after = record {
          long = λ some. not_taken X D (256 ^ suc n) (value v.at jr m) (value v.at jx (suc n)) i o.bit (value v1.at jr m)
              (value v1.at jx (suc n)) (h.long some) o.twice (rest1 some) is_less;
          divisor = divisor1;
          numbers = o.numbers;
          same = λ k y z s f g. o.same k y z f g ∙ h.same k y z s f g;
          inputs = o.inputs ∙ h.inputs;
          safe = o.safe ∙ h.safe;
          seen = o.seen ∙ h.seen;
        };
        left = left1;
      })
      (λ t.
      let not_less : D ≤ value v1.at jr m = not_below (value v1.at jr m) D t in
      let carry : v1.flags.c ≡ 0 = flag ∙ ap from_bool t in
      let v2 = block e (take_code w r x m) v1 in
      let even : value v1.at jx (suc n) % 2 ≡ 0 = is_even (value v1.at jx (suc n)) o.bit (128 * 256 ^ n) (value v.at jx (suc n))
      (subst (λ z. value v1.at jx (suc n) + o.bit * z ≡ value v.at jx (suc n) + value v.at jx (suc n)) even_power o.twice) in
      let k = takes e w r x b n jd jr jx v1 sd sr sx rows o.numbers (subst (λ z. z ≤ value v1.at jr m) (sym divisor1) not_less) even in
      let go3 = block_goes e (take_code w r x m) take count v1 (take_straight w r x m) taking in
      let take2 = take_steps w r x m in
      let rest3 : value v2.at jr m + D ≡ value v1.at jr m = ap (λ z. value v2.at jr m + z) (sym divisor1) ∙ k.rest in
      record {
        steps = code_steps (bring_code w r x m (suc n)) + 1 + code_steps (take_code w r x m);
        at_most = omega (arith, take1, take2);
        last = v2;
        goes = goes_on_to e (code_steps (bring_code w r x m (suc n)) + 1) (code_steps (take_code w r x m)) start take count v v1 v2
            (goes_on_to e (code_steps (bring_code w r x m (suc n))) 1 start skip take v v1 v1 go1 (stays v1 carry)) go3;
        after = record {
          long = λ some. taken X D (256 ^ suc n) (value v.at jr m) (value v.at jx (suc n)) i o.bit (value v1.at jr m) (value v1.at jx
              (suc n)) (value v2.at jr m) (value v2.at jx (suc n)) (h.long some) o.twice (rest1 some) o.small rest3 k.number;
          divisor = value-same v2.at v1.at jd m
              (λ j l. k.same (jd + j) (omega arith) (omega arith) (λ z. absurd (omega arith)) (λ z. absurd (omega arith))) ∙ divisor1;
          numbers = k.numbers;
          same = λ j y z s f g. k.same j y z f g ∙ o.same j y z f g ∙ h.same j y z s f g;
          inputs = k.inputs ∙ o.inputs ∙ h.inputs;
          safe = k.safe ∙ o.safe ∙ h.safe;
          seen = k.seen ∙ o.seen ∙ h.seen;
        };
        left = k.same 30 (omega arith) (omega arith) (λ z. absurd (omega arith)) (λ z. absurd (omega arith)) ∙ left1;
      })
      (cases_Bool (nat_lt (value v1.at jr m) D))

  -- R30 is counted down
  downs : (v0 : View) (i : ℕ) (v : View) → Holds v0 i v → Holds v0 i (change e (Dec 30) v)
  downs v0 i v h =
      let m = suc b in
      let low = rows.low in
      let first = rows.first in
      let second = rows.second in
      let u = change e (Dec 30) v in
      let other : (k : ℕ) → k ≢ 30 → u.at k ≡ v.at k = λ k q. put_other v.at 30 _ k q in
      let rest : value u.at jr m ≡ value v.at jr m = value-same u.at v.at jr m (λ j l. other (jr + j) (omega arith)) in
      let number : value u.at jx (suc n) ≡ value v.at jx (suc n) = value-same u.at v.at jx (suc n) (λ j l. other (jx + j) (omega arith)) in
      record {
        long = λ some. subst (λ z. Long X D (256 ^ suc n) z (value u.at jx (suc n)) i) (sym rest)
            (subst (λ z. Long X D (256 ^ suc n) (value v.at jr m) z i) (sym number) (h.long some));
        divisor = value-same u.at v.at jd m (λ j l. other (jd + j) (omega arith)) ∙ h.divisor;
        numbers = λ k l. ⊎_elim (λ (q : k ≡ 30). rw (put_here v.at 30 ((v.at 30 + 255) % 256) k q) (omega arith))
            (λ (q : k ≢ 30). rw (other k q) (h.numbers k l)) (cases_eq k 30);
        same = λ k y z q f g. other k q ∙ h.same k y z q f g;
        inputs = h.inputs;
        safe = h.safe;
        seen = h.seen;
      }

  pub record Ends (v0 : View) (i k : ℕ) (v : View) : Type 0 where
    pub steps : ℕ
    pub at_most : steps ≤ 2 + k * (most + 3)
    pub last : View
    pub goes : Goes e steps count v end last
    pub after : Holds v0 (i + k) last

  -- from where R30 is counted down, with k bits left
  loop : (k : ℕ) (v0 : View) (i : ℕ) (v : View) → Holds v0 i v → v.at 30 ≡ k → k < 128 → Ends v0 i k v
  loop zero v0 i v h left small =
      let u = change e (Dec 30) v in
      let top : u.flags.n ≡ 1 = ap (λ z. (z + 255) % 256 / 128) left in
      let q : i ≡ i + 0 = omega arith in
      record {
        steps = 1 + 1;
        at_most = omega arith;
        last = u;
        goes = goes_on_to e 1 1 count test end v u u (counted v) (passed u top);
        after = subst (λ z. Holds v0 z u) q (downs v0 i v h);
      }
  loop (suc k) v0 i v h left small =
      let u = change e (Dec 30) v in
      let less : (suc k + 255) % 256 ≡ k = omega arith in
      let now : u.at 30 ≡ k = ap (λ z. (z + 255) % 256) left ∙ less in
      let top : u.flags.n ≡ 0 = ap (λ z. (z + 255) % 256 / 128) left ∙ ap (λ z. z / 128) less ∙ omega arith in
      let t = turn v0 i u (downs v0 i v h) in
      let r = loop k v0 (suc i) t.last t.after (t.left ∙ now) (omega arith) in
      let goes1 = goes_on_to e 1 2 count test start v u u (counted v) (returns u top) in
      let goes2 = goes_on_to e (1 + 2) t.steps count start count v u t.last goes1 t.goes in
      let take = t.at_most in
      let more = r.at_most in
      let q : suc i + k ≡ i + suc k = omega arith in
      record {
        steps = 1 + 2 + t.steps + r.steps;
        at_most = bound k t.steps r.steps most take more;
        last = r.last;
        goes = goes_on_to e (1 + 2 + t.steps) r.steps count count end v t.last r.last goes2 r.goes;
        after = subst (λ z. Holds v0 z r.last) q r.after;
      }
    where
      bound : (k t r m : ℕ) → t ≤ m → r ≤ 2 + k * (m + 3) → 1 + 2 + t + r ≤ 2 + suc k * (m + 3)
      bound k t r m a c = omega (arith, a, c)

-- ---- the whole loop

-- a run that leaves T bits of the quotient
pub record Runs (e : Env) (b n X D jd jr jx T pc : ℕ) (v : View) (end : ℕ) : Type 0 where
  pub steps : ℕ
  pub at_most : steps ≤ 3 + T * (4 * suc n + 10 * suc b + 8)
  pub last : View
  pub goes : Goes e steps pc v end last
  pub after : After X D b n jd jr jx v T last

pub runs : (e : Env) (w : Location) (b n X D jd jr jx T pc end : ℕ) (v : View) → StandsFrom e w (suc b) jd Own
    → StandsFrom e (remainder_at w b) (suc b) jr Own → StandsFrom e (number_at w b) (suc n) jx Own → AreRows jd jr jx b
    → D < 256 ^ b → value v.at jd (suc b) ≡ D → value v.at jr (suc b) ≡ 0 → value v.at jx (suc n) ≡ X → v.at 30 ≡ T
    → T < 128 → HoldsNumbers v → HasAt e (turns_code w b (suc n)) pc end → Runs e b n X D jd jr jx T pc v end
runs e w b n X D jd jr jx T pc end v sd sr sx rows under divisor rest number left small h stands =
    let r = remainder_at w b in
    let x = number_at w b in
    let m = suc b in
    let tail = Plain (Dec 30) ∷ Plain (Brbs 2 (pos 1)) ∷ Plain (Rjmp (negsuc (turn_words w b (suc n) + 2))) ∷ [] in
    let start = stands.0 in
    let parts = has_parts e (turn_code w b (suc n)) tail start end stands.2 in
    let count = parts.0 in
    let inner = has_parts e (bring_code w r x m (suc n)) (skip_code w m ++ take_code w r x m) start count parts.1 in
    let skip = inner.0 in
    let branch = inner.2 in
    let over = branch.2 in
    let dec = parts.2 in
    let test = dec.2 in
    let back = test.2 in
    let last : back.0 ≡ end = sym back.2 in
    let again : At e (Rjmp (negsuc (turn_words w b (suc n) + 2))) test.0 end =
    subst (λ i. At e (Rjmp (negsuc (turn_words w b (suc n) + 2))) test.0 i) last back.1 in
    let begin : After X D b n jd jr jx v 0 v = record {
      long = λ some.
          subst (λ z. Long X D (256 ^ suc n) (value v.at jr m) z 0) (sym number) (begun X D (256 ^ suc n) (value v.at jr m) some rest);
      divisor = divisor;
      numbers = h;
      same = λ k y z s f g. refl;
      inputs = refl;
      safe = refl;
      seen = refl;
    } in
    let l = loop e w b n X D jd jr jx sd sr sx rows under start skip branch.0 over.0 count dec.0 test.0 end inner.1 branch.1 over.1 over.2
    dec.1 test.1 again T v 0 v begin left small in
    let a1 = stands.1.ends in
    let b1 = dec.1.ends in
    let b2 = dec.1.room in
    let c1 = branch.1.ends in
    let c2 = over.1.ends in
    let d1 = skip_ends e w b n X D jd jr jx sd sr sx rows under start skip branch.0 over.0 count dec.0 test.0 end inner.1 branch.1 over.1
    over.2 dec.1 test.1 again in
    let d2 = take_ends e w b n X D jd jr jx sd sr sx rows under start skip branch.0 over.0 count dec.0 test.0 end inner.1 branch.1 over.1
    over.2 dec.1 test.1 again in
    let to : (pc + 1 + turn_words w b (suc n)) % 65536 ≡ count = omega (arith, a1, b1, b2, c1, c2, d1, d2) in
    let goes : Goes e 1 pc v count v = record { by = ap (λ i. act e i pc v) stands.1.is ∙ ap (λ k. Running k v) to } in
    let most = l.at_most in
    let none : 0 + T ≡ T = omega arith in
    record {
      steps = 1 + l.steps;
      at_most = omega (arith, most);
      last = l.last;
      goes = goes_on_to e 1 l.steps pc count end v v l.last goes l.goes;
      after = subst (λ z. After X D b n jd jr jx v z l.last) none l.after;
    }
