-- The loop of a shift.
use Rattle.std.proofs.Common.{◌≡◌, ◌≢◌, ℕ, zero, suc, ◌+◌, ◌-◌, ◌*◌, ◌/◌, ◌%◌, ◌^◌, ◌<◌, ◌≤◌, pos, negsuc, refl, sym, ap, ◌∙◌, subst, arith}
use Rattle.std.proofs.Common.{Some, ⊎_elim}
use Rattle.std.proofs.lemmas.Bool.{cases_eq}
use Rattle.ec_isa.specs.declared.instructions.Instr.TheVariants.{Rjmp, Dec, Brbs}
use Rattle.ec_asm.specs.declared.pieces.Location.{Location}
use Rattle.ec_asm.specs.View.{View}
use Rattle.ec_asm.specs.Change.{Env, Own, change}
use Rattle.ec_asm.specs.Run.{Running, act}
use Rattle.ec_asm.specs.Items.{At, HasAt, block, code_steps}
use Rattle.ec_asm.specs.Pieces.{StandsFrom, Outside, value}
use Rattle.ec_asm.specs.PieceLaws.{HoldsNumbers}
use Rattle.ec_asm.specs.Takes.{Goes}
use Rattle.ec_asm.proofs.Bytes.{put_here, put_other}
use Rattle.ec_asm.proofs.Hoare.{has_parts, block_goes, goes_on_to, one_goes}
use Rattle.ec_asm.proofs.ItemWords.{straight_ends}
use Rattle.ec_asm.proofs.Numbers.{value_below}
use Rattle.ec_asm.proofs.Sum.{value-same}
use Rattle.ec_select_shifts.specs.declared.shifts.Direction.{Direction}
use Rattle.ec_select_shifts.specs.Shifts.{shifted_by, turn_code, turn_words}
use Rattle.ec_select_shifts.specs.Laws.{Leads}
use Rattle.ec_select_shifts.proofs.Loops.{turn_straight, turn_far, turn_takes}
use Rattle.ec_select_shifts.proofs.Once.{once, none, first_turn, turned}
use Rattle.ec_select_shifts.proofs.Words.{turn_has_words}
use Rattle.ec_fxcode_shifts.specs.Shifts.{again_code, turns_code}

not_work : (a n j : ℕ) → Outside a n 30 → j < n → a + j ≢ 30
not_work a n j h l q = grind arith

module _ (s : Direction) (e : Env) (p : Location) (n a : ℕ) (st : StandsFrom e p (suc n) a Own) (far : Outside a (suc n) 30)
    (start count test back end : ℕ) (turn : HasAt e (turn_code s p (suc n)) start count) (dec : At e (Dec 30) count test)
    (branch : At e (Brbs 2 (pos 1)) test back) (jump : At e (Rjmp (negsuc (turn_words s p (suc n) + 2))) back end) where
  abbrev code_size : ℕ
  code_size = turn_words s p (suc n)

  -- where the turn ends
  ends : count ≡ start + code_size
  ends = straight_ends e (turn_code s p (suc n)) start count (turn_straight s p (suc n)) (turn_far e s p (suc n) a st) turn
      ∙ ap (λ k. start + k) (turn_has_words s p (suc n))

  -- R30 is counted down
  counted : (v : View) → Goes e 1 count v test (change e (Dec 30) v)
  counted v = one_goes e (Dec 30) count test v refl dec

  passed : (v : View) → v.flags.n ≡ 1 → Goes e 1 test v end v
  passed v q =
      let m = branch.ends in
      let r = jump.ends in
      let u = jump.room in
      let to : (test + 1 + 1) % 65536 ≡ end = omega arith in
      let b : act e (Some (Brbs 2 (pos 1))) test v ≡ Running ((test + 1 + 1) % 65536) v = rw q refl in
      record { by = ap (λ o. act e o test v) branch.is ∙ b ∙ ap (λ k. Running k v) to }

  taken : (v : View) → v.flags.n ≡ 0 → Goes e 2 test v start v
  taken v q =
      let m = branch.ends in
      let x = branch.room in
      let d = dec.ends in
      let r = jump.ends in
      let w = ends in
      let next : (test + 1) % 65536 ≡ back = omega arith in
      let b : act e (Some (Brbs 2 (pos 1))) test v ≡ Running ((test + 1) % 65536) v = rw q refl in
      let first : Goes e 1 test v back v = record { by = ap (λ o. act e o test v) branch.is ∙ b ∙ ap (λ k. Running k v) next } in
      let to : (back + 65536 - (code_size + 2)) % 65536 ≡ start = omega arith in
      let second : Goes e 1 back v start v = record { by = ap (λ o. act e o back v) jump.is ∙ ap (λ k. Running k v) to } in
      goes_on_to e 1 1 test back start v v v first second

  -- all is kept but R30 and the flags
  down_numbers : (v : View) → HoldsNumbers v → HoldsNumbers (change e (Dec 30) v)
  down_numbers v h k u =
      ⊎_elim
      (λ (q : k ≡ 30). rw (put_here v.at 30 ((v.at 30 + 255) % 256) k q) (omega arith))
      (λ (q : k ≢ 30). rw (put_other v.at 30 ((v.at 30 + 255) % 256) k q) (h k u))
      (cases_eq k 30)

  -- from where R30 is counted down, with so many turns left
  loop : (k : ℕ) (v : View) → k < 128 → v.at 30 ≡ k → HoldsNumbers v
      → Leads e (2 + k * (3 + 4 * suc n)) count v end a (suc n) (shifted_by s (suc n) (value v.at a (suc n)) k)
  loop zero v l q h =
      let ua = st.clear in
      let v1 = change e (Dec 30) v in
      let top : v1.flags.n ≡ 1 = ap (λ i. (i + 255) % 256 / 128) q in
      let same : value v1.at a (suc n) ≡ value v.at a (suc n) =
      value-same v1.at v.at a (suc n) (λ j m. put_other v.at 30 _ (a + j) (not_work a (suc n) j far m)) in
      let below : value v.at a (suc n) < 256 ^ suc n = value_below v.at a (suc n) (λ j m. h (a + j) (omega arith)) in
      record {
        steps = 1 + 1;
        at_most = omega arith;
        last = v1;
        goes = goes_on_to e 1 1 count test end v v1 v1 (counted v) (passed v1 top);
        number_is = same ∙ sym (none s (suc n) (value v.at a (suc n)) below);
        numbers = down_numbers v h;
        same = λ i x z m o. put_other v.at 30 _ i m;
        inputs = refl;
        safe = refl;
        seen = refl;
      }
  loop (suc k) v l q h =
      let ua = st.clear in
      let v1 = change e (Dec 30) v in
      let x = value v.at a (suc n) in
      let less : (suc k + 255) % 256 ≡ k = omega arith in
      let left : v1.at 30 ≡ k = ap (λ i. (i + 255) % 256) q ∙ less in
      let top : v1.flags.n ≡ 0 = ap (λ i. (i + 255) % 256 / 128) q ∙ ap (λ i. i / 128) less ∙ omega arith in
      let h1 = down_numbers v h in
      let same : value v1.at a (suc n) ≡ x =
      value-same v1.at v.at a (suc n) (λ j m. put_other v.at 30 _ (a + j) (not_work a (suc n) j far m)) in
      let below : x < 256 ^ suc n = value_below v.at a (suc n) (λ j m. h (a + j) (omega arith)) in
      let code = turn_code s p (suc n) in
      let v2 = block e code v1 in
      let t = turned s e p n a v1 st h1 in
      let count2 : v2.at 30 ≡ k = t.keeps.same 30 (omega arith) (omega arith) far ∙ left in
      let r = loop k v2 (omega arith) count2 t.numbers in
      let take = turn_takes s p (suc n) in
      let goes1 = goes_on_to e 1 2 count test start v v1 v1 (counted v) (taken v1 top) in
      let goes2 = goes_on_to e (1 + 2) (code_steps code) count start count v v1 v2 goes1
      (block_goes e code start count v1 (turn_straight s p (suc n)) turn) in
      let most = r.at_most in
      let value2 : value v2.at a (suc n) ≡ once s (suc n) x = t.number_is ∙ ap (once s (suc n)) same in
      record {
        steps = 1 + 2 + code_steps code + r.steps;
        at_most = bound k (code_steps code) r.steps (4 * suc n) (omega (arith, take)) most;
        last = r.last;
        goes = goes_on_to e (1 + 2 + code_steps code) r.steps count count end v v2 r.last goes2 r.goes;
        number_is = r.number_is ∙ ap (λ i. shifted_by s (suc n) i k) value2 ∙ first_turn s (suc n) x k (omega arith) below;
        numbers = r.numbers;
        same = λ i b c d o. r.same i b c d o ∙ t.keeps.same i b c o ∙ put_other v.at 30 _ i d;
        inputs = r.inputs ∙ t.keeps.inputs;
        safe = r.safe ∙ t.keeps.safe;
        seen = r.seen ∙ t.keeps.seen;
      }
    where
      bound : (k c r m : ℕ) → c ≤ m → r ≤ 2 + k * (3 + m) → 1 + 2 + c + r ≤ 2 + suc k * (3 + m)
      bound k c r m a b = omega (arith, a, b)

-- the number is shifted by the count in R30
pub shifts : (s : Direction) (e : Env) (p : Location) (n a pc end : ℕ) (v : View) → StandsFrom e p (suc n) a Own
    → Outside a (suc n) 30 → HoldsNumbers v → v.at 30 < 128 → HasAt e (turns_code s p (suc n)) pc end
    → Leads e (3 + v.at 30 * (3 + 4 * suc n)) pc v end a (suc n)
    (shifted_by s (suc n) (value v.at a (suc n)) (v.at 30))
shifts s e p n a pc end v st far h l stands =
    let turn = turn_code s p (suc n) in
    let w = turn_words s p (suc n) in
    let parts = has_parts e turn (again_code s p (suc n)) stands.0 end stands.2 in
    let dec = parts.2 in
    let br = dec.2 in
    let back = br.2 in
    let last : back.0 ≡ end = sym back.2 in
    let jump : At e (Rjmp (negsuc (w + 2))) br.0 end = subst (λ i. At e (Rjmp (negsuc (w + 2))) br.0 i) last back.1 in
    let r = loop s e p n a st far stands.0 parts.0 dec.0 br.0 end parts.1 dec.1 br.1 jump (v.at 30) v l refl h in
    let first = stands.1 in
    let a1 = first.ends in
    let b1 = dec.1.ends in
    let b2 = dec.1.room in
    let c1 = straight_ends e turn stands.0 parts.0 (turn_straight s p (suc n)) (turn_far e s p (suc n) a st) parts.1 in
    let c2 = turn_has_words s p (suc n) in
    let to : (pc + 1 + w) % 65536 ≡ parts.0 = omega (arith, a1, b1, b2, c1, c2) in
    let goes : Goes e 1 pc v parts.0 v = record { by = ap (λ o. act e o pc v) first.is ∙ ap (λ k. Running k v) to } in
    let most = r.at_most in
    record {
      steps = 1 + r.steps;
      at_most = omega (arith, most);
      last = r.last;
      goes = goes_on_to e 1 r.steps pc parts.0 end v v r.last goes r.goes;
      number_is = r.number_is;
      numbers = r.numbers;
      same = r.same;
      inputs = r.inputs;
      safe = r.safe;
      seen = r.seen;
    }
