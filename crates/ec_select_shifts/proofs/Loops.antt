-- The loop of a shift.
use Rattle.std.proofs.Common.{◌≡◌, ◌≢◌, ℕ, zero, suc, ◌+◌, ◌-◌, ◌*◌, ◌/◌, ◌%◌, ◌^◌, ◌<◌, ◌≤◌, true, negsuc, refl}
use Rattle.std.proofs.Common.{sym, ap, ◌∙◌, subst, arith, Some, ⊎_elim}
use Rattle.std.proofs.lemmas.Bool.{cases_eq}
use Rattle.ec_isa.specs.declared.instructions.Instr.TheVariants.{Dec, Brbc}
use Rattle.ec_asm.specs.declared.pieces.Location.{Location}
use Rattle.ec_asm.specs.declared.pieces.Operator.TheVariants.{Sum}
use Rattle.ec_asm.specs.View.{View}
use Rattle.ec_asm.specs.Change.{Env, Own, change}
use Rattle.ec_asm.specs.Run.{Running, act}
use Rattle.ec_asm.specs.Items.{At, HasAt, all_straight, block, code_steps}
use Rattle.ec_asm.specs.Pieces.{StandsFrom, Outside, value}
use Rattle.ec_asm.specs.PieceLaws.{HoldsNumbers}
use Rattle.ec_asm.specs.Takes.{Goes}
use Rattle.ec_asm.proofs.Bytes.{put_here, put_other}
use Rattle.ec_asm.proofs.Hoare.{has_parts, block_goes, goes_on_to, one_goes}
use Rattle.ec_asm.proofs.Far.{operate_far, halve_far}
use Rattle.ec_asm.proofs.ItemWords.{all_far, straight_ends}
use Rattle.ec_asm.proofs.Numbers.{value_below}
use Rattle.ec_asm.proofs.Results.{pieces_are_straight, pieces_take}
use Rattle.ec_asm.proofs.Sum.{value-same}
use Rattle.ec_select_shifts.specs.declared.shifts.Direction.{Direction}
use Rattle.ec_select_shifts.specs.declared.shifts.Direction.TheVariants.{Left, Right}
use Rattle.ec_select_shifts.specs.Shifts.{shifted_by, turn_code, turn_words, end_code}
use Rattle.ec_select_shifts.specs.Laws.{Leads, ShiftsAreRight}
use Rattle.ec_select_shifts.proofs.Once.{once, none, first_turn, turned}
use Rattle.ec_select_shifts.proofs.Words.{turn_has_words}

pub turn_straight : (s : Direction) (p : Location) (n : ℕ) → all_straight (turn_code s p n) ≡ true
turn_straight Left p n = (pieces_are_straight Sum p p n).1
turn_straight (Right signed) p n = (pieces_are_straight Sum p p n).3 signed

pub turn_takes : (s : Direction) (p : Location) (n : ℕ) → code_steps (turn_code s p n) ≤ n * 4
turn_takes Left p n = (pieces_take Sum p p n).1.1
turn_takes (Right signed) p n = let x = ((pieces_take Sum p p n).3 signed).1 in omega arith

pub turn_far : (e : Env) (s : Direction) (p : Location) (n a : ℕ) → StandsFrom e p n a Own → all_far e (turn_code s p n) ≡ true
turn_far e Left p n a st = operate_far e Sum p p n a a st st
turn_far e (Right signed) p n a st = halve_far e signed p n a st

module _ (s : Direction) (e : Env) (p : Location) (n a : ℕ) (st : StandsFrom e p (suc n) a Own) (far : Outside a (suc n) 30)
    (start count back end : ℕ) (turn : HasAt e (turn_code s p (suc n)) start count) (dec : At e (Dec 30) count back)
    (branch : At e (Brbc 2 (negsuc (turn_words s p (suc n) + 1))) back end) where
  abbrev code_size : ℕ
  code_size = turn_words s p (suc n)

  -- where the turn ends
  ends : count ≡ start + code_size
  ends = straight_ends e (turn_code s p (suc n)) start count (turn_straight s p (suc n)) (turn_far e s p (suc n) a st) turn
      ∙ ap (λ k. start + k) (turn_has_words s p (suc n))

  -- R30 is counted down
  counted : (v : View) → Goes e 1 count v back (change e (Dec 30) v)
  counted v = one_goes e (Dec 30) count back v refl dec

  passed : (v : View) → v.flags.n ≡ 1 → Goes e 1 back v end v
  passed v q =
      let m = branch.ends in
      let r = branch.room in
      let to : (back + 1) % 65536 ≡ end = omega arith in
      let b : act e (Some (Brbc 2 (negsuc (code_size + 1)))) back v ≡ Running ((back + 1) % 65536) v = rw q refl in
      record { by = ap (λ o. act e o back v) branch.is ∙ b ∙ ap (λ k. Running k v) to }

  taken : (v : View) → v.flags.n ≡ 0 → Goes e 1 back v start v
  taken v q =
      let m = dec.ends in
      let r = dec.room in
      let w = ends in
      let to : (back + 65536 - (code_size + 1)) % 65536 ≡ start = omega arith in
      let b : act e (Some (Brbc 2 (negsuc (code_size + 1)))) back v ≡ Running ((back + 65536 - (code_size + 1)) % 65536) v = rw q refl in
      record { by = ap (λ o. act e o back v) branch.is ∙ b ∙ ap (λ k. Running k v) to }

  -- all is kept but R30 and the flags
  down_numbers : (v : View) → HoldsNumbers v → HoldsNumbers (change e (Dec 30) v)
  down_numbers v h k u =
      ⊎_elim
      (λ (q : k ≡ 30). rw (put_here v.at 30 ((v.at 30 + 255) % 256) k q) (omega arith))
      (λ (q : k ≢ 30). rw (put_other v.at 30 ((v.at 30 + 255) % 256) k q) (h k u))
      (cases_eq k 30)

  -- from where R30 is counted down, with so many turns left
  loop : (k : ℕ) (v : View) → k < 128 → v.at 30 ≡ k → HoldsNumbers v
      → Leads e (2 + k * (2 + 4 * suc n)) count v end a (suc n) (shifted_by s (suc n) (value v.at a (suc n)) k)
  loop zero v l q h =
      let ua = st.clear in
      let v1 = change e (Dec 30) v in
      let top : v1.flags.n ≡ 1 = ap (λ i. (i + 255) % 256 / 128) q in
      let same : value v1.at a (suc n) ≡ value v.at a (suc n) =
      value-same v1.at v.at a (suc n) (λ j m. put_other v.at 30 _ (a + j) (not_work a (suc n) j far m)) in
      let below : value v.at a (suc n) < 256 ^ suc n = value_below v.at a (suc n) (λ j m. h (a + j) (omega arith)) in
      record {
        steps = 1 + 1;
        at_most = omega arith;
        last = v1;
        goes = goes_on_to e 1 1 count back end v v1 v1 (counted v) (passed v1 top);
        number_is = same ∙ sym (none s (suc n) (value v.at a (suc n)) below);
        numbers = down_numbers v h;
        same = λ i x z m o. put_other v.at 30 _ i m;
        inputs = refl;
        safe = refl;
        seen = refl;
      }
    where
      not_work : (a n j : ℕ) → Outside a n 30 → j < n → a + j ≢ 30
      not_work a n j h l q = grind arith
  loop (suc k) v l q h =
      let ua = st.clear in
      let v1 = change e (Dec 30) v in
      let x = value v.at a (suc n) in
      let less : (suc k + 255) % 256 ≡ k = omega arith in
      let left : v1.at 30 ≡ k = ap (λ i. (i + 255) % 256) q ∙ less in
      let top : v1.flags.n ≡ 0 = ap (λ i. (i + 255) % 256 / 128) q ∙ ap (λ i. i / 128) less ∙ omega arith in
      let h1 = down_numbers v h in
      let same : value v1.at a (suc n) ≡ x =
      value-same v1.at v.at a (suc n) (λ j m. put_other v.at 30 _ (a + j) (not_work a (suc n) j far m)) in
      let below : x < 256 ^ suc n = value_below v.at a (suc n) (λ j m. h (a + j) (omega arith)) in
      let code = turn_code s p (suc n) in
      let v2 = block e code v1 in
      let t = turned s e p n a v1 st h1 in
      let count2 : v2.at 30 ≡ k = t.keeps.same 30 (omega arith) (omega arith) far ∙ left in
      let r = loop k v2 (omega arith) count2 t.numbers in
      let take = turn_takes s p (suc n) in
      let goes1 = goes_on_to e 1 1 count back start v v1 v1 (counted v) (taken v1 top) in
      let goes2 = goes_on_to e (1 + 1) (code_steps code) count start count v v1 v2 goes1
      (block_goes e code start count v1 (turn_straight s p (suc n)) turn) in
      let most = r.at_most in
      let value2 : value v2.at a (suc n) ≡ once s (suc n) x = t.number_is ∙ ap (once s (suc n)) same in
      record {
        steps = 1 + 1 + code_steps code + r.steps;
        at_most = bound k (code_steps code) r.steps (4 * suc n) (omega (arith, take)) most;
        last = r.last;
        goes = goes_on_to e (1 + 1 + code_steps code) r.steps count count end v v2 r.last goes2 r.goes;
        number_is = r.number_is ∙ ap (λ i. shifted_by s (suc n) i k) value2 ∙ first_turn s (suc n) x k (omega arith) below;
        numbers = r.numbers;
        same = λ i b c d o. r.same i b c d o ∙ t.keeps.same i b c o ∙ put_other v.at 30 _ i d;
        inputs = r.inputs ∙ t.keeps.inputs;
        safe = r.safe ∙ t.keeps.safe;
        seen = r.seen ∙ t.keeps.seen;
      }
    where
      not_work : (a n j : ℕ) → Outside a n 30 → j < n → a + j ≢ 30
      not_work a n j h l q = grind arith

      bound : (k c r m : ℕ) → c ≤ m → r ≤ 2 + k * (2 + m) → 1 + 1 + c + r ≤ 2 + suc k * (2 + m)
      bound k c r m a b = omega (arith, a, b)

pub shifts_are_right : ShiftsAreRight
shifts_are_right s e p n a pc end v st far h l stands =
    let turn = turn_code s p (suc n) in
    let w = turn_words s p (suc n) in
    let jump = stands in
    let parts = has_parts e turn (end_code s p (suc n)) jump.0 end jump.2 in
    let dec = parts.2 in
    let br = dec.2 in
    let last : br.0 ≡ end = sym br.2 in
    let branch : At e (Brbc 2 (negsuc (w + 1))) dec.0 end = subst (λ i. At e (Brbc 2 (negsuc (w + 1))) dec.0 i) last br.1 in
    let r = loop s e p n a st far jump.0 parts.0 dec.0 end parts.1 dec.1 branch (v.at 30) v l refl h in
    let first = jump.1 in
    let a1 = first.ends in
    let b1 = dec.1.ends in
    let b2 = dec.1.room in
    let c1 = straight_ends e turn jump.0 parts.0 (turn_straight s p (suc n)) (turn_far e s p (suc n) a st) parts.1 in
    let c2 = turn_has_words s p (suc n) in
    let to : (pc + 1 + w) % 65536 ≡ parts.0 = omega (arith, a1, b1, b2, c1, c2) in
    let goes : Goes e 1 pc v parts.0 v = record { by = ap (λ o. act e o pc v) first.is ∙ ap (λ k. Running k v) to } in
    let most = r.at_most in
    record {
      steps = 1 + r.steps;
      at_most = omega (arith, most);
      last = r.last;
      goes = goes_on_to e 1 r.steps pc parts.0 end v v r.last goes r.goes;
      number_is = r.number_is;
      numbers = r.numbers;
      same = r.same;
      inputs = r.inputs;
      safe = r.safe;
      seen = r.seen;
    }
