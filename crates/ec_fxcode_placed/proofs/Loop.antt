-- As many halves as R30 tells.
use Rattle.std.proofs.Common.{◌≡◌, ◌≢◌, ℕ, zero, suc, ◌+◌, ◌-◌, ◌*◌, ◌/◌, ◌%◌, ◌^◌, ◌<◌, ◌≤◌, pos, negsuc, refl, sym, ap, ◌∙◌, subst, arith}
use Rattle.std.proofs.Common.{Some, ⊎_elim}
use Rattle.std.proofs.lemmas.Bool.{cases_eq}
use Rattle.ec_isa.specs.declared.instructions.Instr.TheVariants.{Rjmp, Dec, Brbs}
use Rattle.ec_asm.specs.declared.pieces.Location.{Location}
use Rattle.ec_asm.specs.View.{View}
use Rattle.ec_asm.specs.Change.{Env, Own, change}
use Rattle.ec_asm.specs.Run.{Running, act}
use Rattle.ec_asm.specs.Items.{At, HasAt, block, code_steps}
use Rattle.ec_asm.specs.Pieces.{StandsFrom, Outside, value}
use Rattle.ec_asm.specs.PieceLaws.{HoldsNumbers}
use Rattle.ec_asm.specs.Takes.{Goes}
use Rattle.ec_asm.proofs.Bytes.{put_here, put_other}
use Rattle.ec_asm.proofs.Hoare.{has_parts, block_goes, goes_on_to, one_goes}
use Rattle.ec_asm.proofs.ItemWords.{straight_ends}
use Rattle.ec_asm.proofs.Numbers.{value_below}
use Rattle.ec_asm.proofs.Sum.{value-same}
use Rattle.ec_fxcode.specs.ClampLaws.{IsClearOfEnds}
use Rattle.ec_fxcode.proofs.Moves.{clear_byte}
use Rattle.ec_fxcode_scales.specs.ScaleLaws.{Brings}
use Rattle.ec_fxcode_placed.specs.Shifts.{half_code, half_words, again_code, rounded_code}
use Rattle.ec_fxcode_placed.proofs.Toward.{IsToward, not_turned, turned_again, halves}
use Rattle.ec_fxcode_placed.proofs.Words.{half_straight, half_far, half_takes, half_has_words}

pub beside_30 : (a n : ℕ) → IsClearOfEnds a n → Outside a n 30
beside_30 a n c l = let below = c.below in let above = c.above in grind arith

module _ (e : Env) (p : Location) (n a : ℕ) (st : StandsFrom e p (suc n) a Own) (clear : IsClearOfEnds a (suc n))
    (start count test back end : ℕ) (turn : HasAt e (half_code p (suc n)) start count) (dec : At e (Dec 30) count test)
    (branch : At e (Brbs 2 (pos 1)) test back) (jump : At e (Rjmp (negsuc (half_words p (suc n) + 2))) back end) where
  abbrev code_size : ℕ
  code_size = half_words p (suc n)

  -- where one bit ends
  ends : count ≡ start + code_size
  ends = straight_ends e (half_code p (suc n)) start count (half_straight p (suc n)) (half_far e p n a st) turn
      ∙ ap (λ k. start + k) (half_has_words p (suc n))

  counted : (v : View) → Goes e 1 count v test (change e (Dec 30) v)
  counted v = one_goes e (Dec 30) count test v refl dec

  passed : (v : View) → v.flags.n ≡ 1 → Goes e 1 test v end v
  passed v q =
      let m = branch.ends in
      let r = jump.ends in
      let u = jump.room in
      let to : (test + 1 + 1) % 65536 ≡ end = omega arith in
      let b : act e (Some (Brbs 2 (pos 1))) test v ≡ Running ((test + 1 + 1) % 65536) v = rw q refl in
      record { by = ap (λ o. act e o test v) branch.is ∙ b ∙ ap (λ k. Running k v) to }

  taken : (v : View) → v.flags.n ≡ 0 → Goes e 2 test v start v
  taken v q =
      let m = branch.ends in
      let x = branch.room in
      let d = dec.ends in
      let r = jump.ends in
      let w = ends in
      let next : (test + 1) % 65536 ≡ back = omega arith in
      let b : act e (Some (Brbs 2 (pos 1))) test v ≡ Running ((test + 1) % 65536) v = rw q refl in
      let first : Goes e 1 test v back v = record { by = ap (λ o. act e o test v) branch.is ∙ b ∙ ap (λ k. Running k v) next } in
      let to : (back + 65536 - (code_size + 2)) % 65536 ≡ start = omega arith in
      let second : Goes e 1 back v start v = record { by = ap (λ o. act e o back v) jump.is ∙ ap (λ k. Running k v) to } in
      goes_on_to e 1 1 test back start v v v first second

  -- all is kept but R30 and the flags
  down_numbers : (v : View) → HoldsNumbers v → HoldsNumbers (change e (Dec 30) v)
  down_numbers v h k u =
      ⊎_elim
      (λ (q : k ≡ 30). rw (put_here v.at 30 ((v.at 30 + 255) % 256) k q) (omega arith))
      (λ (q : k ≢ 30). rw (put_other v.at 30 ((v.at 30 + 255) % 256) k q) (h k u))
      (cases_eq k 30)

  row : (v : View) → value (change e (Dec 30) v).at a (suc n) ≡ value v.at a (suc n)
  row v =
      let two = st.clear in
      value-same (change e (Dec 30) v).at v.at a (suc n)
      (λ j m. put_other v.at 30 _ (a + j) (clear_byte a (suc n) j clear two m).2)

  -- from where R30 is counted down, with so many bits left
  loop : (k : ℕ) (v : View) → k < 128 → v.at 30 ≡ k → HoldsNumbers v
      → Brings e (2 + k * (6 + 6 * suc n)) count v end a (suc n) (IsToward (256 ^ suc n) (value v.at a (suc n)) (2 ^ k))
  loop zero v l q h =
      let two = st.clear in
      let v1 = change e (Dec 30) v in
      let top : v1.flags.n ≡ 1 = ap (λ i. (i + 255) % 256 / 128) q in
      let x = value v.at a (suc n) in
      let below : x < 256 ^ suc n = value_below v.at a (suc n) (λ j m. h (a + j) (omega arith)) in
      record {
        steps = 1 + 1;
        at_most = omega arith;
        last = v1;
        goes = goes_on_to e 1 1 count test end v v1 v1 (counted v) (passed v1 top);
        holds = subst (λ (y : ℕ). IsToward (256 ^ suc n) x (2 ^ 0) y) (sym (row v)) (not_turned (256 ^ suc n) x below);
        numbers = down_numbers v h;
        same = λ i x z m w o. put_other v.at 30 _ i m;
        inputs = refl;
        safe = refl;
        seen = refl;
      }
  loop (suc k) v l q h =
      let two = st.clear in
      let v1 = change e (Dec 30) v in
      let x = value v.at a (suc n) in
      let N = 256 ^ suc n in
      let less : (suc k + 255) % 256 ≡ k = omega arith in
      let left : v1.at 30 ≡ k = ap (λ i. (i + 255) % 256) q ∙ less in
      let top : v1.flags.n ≡ 0 = ap (λ i. (i + 255) % 256 / 128) q ∙ ap (λ i. i / 128) less ∙ omega arith in
      let h1 = down_numbers v h in
      let below : x < N = value_below v.at a (suc n) (λ j m. h (a + j) (omega arith)) in
      let code = half_code p (suc n) in
      let v2 = block e code v1 in
      let t = halves e p n a v1 st clear h1 in
      let count2 : v2.at 30 ≡ k = t.same 30 (omega arith) (omega arith) (omega arith) (beside_30 a (suc n) clear) ∙ left in
      let r = loop k v2 (omega arith) count2 t.numbers in
      let take = half_takes p (suc n) in
      let goes1 = goes_on_to e 1 2 count test start v v1 v1 (counted v) (taken v1 top) in
      let goes2 = goes_on_to e (1 + 2) (code_steps code) count start count v v1 v2 goes1
      (block_goes e code start count v1 (half_straight p (suc n)) turn) in
      let most = r.at_most in
      let first : IsToward N x 2 (value v2.at a (suc n)) =
      subst (λ (i : ℕ). IsToward N i 2 (value v2.at a (suc n))) (row v) t.toward in
      record {
        steps = 1 + 2 + code_steps code + r.steps;
        at_most = bound k (code_steps code) r.steps (6 * suc n) take most;
        last = r.last;
        goes = goes_on_to e (1 + 2 + code_steps code) r.steps count count end v v2 r.last goes2 r.goes;
        holds = turned_again N x (value v2.at a (suc n)) (value r.last.at a (suc n)) k below first r.holds;
        numbers = r.numbers;
        same = λ i b c d w o. r.same i b c d w o ∙ t.same i b c w o ∙ put_other v.at 30 _ i d;
        inputs = r.inputs ∙ t.inputs;
        safe = r.safe ∙ t.safe;
        seen = r.seen ∙ t.seen;
      }
    where
      bound : (k c r m : ℕ) → c ≤ 3 + m → r ≤ 2 + k * (6 + m) → 1 + 2 + c + r ≤ 2 + suc k * (6 + m)
      bound k c r m a b = omega (arith, a, b)

pub rounds : (e : Env) (p : Location) (n a pc end : ℕ) (v : View) → StandsFrom e p (suc n) a Own → IsClearOfEnds a (suc n)
    → HoldsNumbers v → v.at 30 < 128 → HasAt e (rounded_code p (suc n)) pc end
    → Brings e (3 + v.at 30 * (6 + 6 * suc n)) pc v end a (suc n) (IsToward (256 ^ suc n) (value v.at a (suc n)) (2 ^ v.at 30))
rounds e p n a pc end v st clear h l stands =
    let turn = half_code p (suc n) in
    let w = half_words p (suc n) in
    let parts = has_parts e turn (again_code p (suc n)) stands.0 end stands.2 in
    let dec = parts.2 in
    let br = dec.2 in
    let back = br.2 in
    let last : back.0 ≡ end = sym back.2 in
    let jump : At e (Rjmp (negsuc (w + 2))) br.0 end = subst (λ i. At e (Rjmp (negsuc (w + 2))) br.0 i) last back.1 in
    let r = loop e p n a st clear stands.0 parts.0 dec.0 br.0 end parts.1 dec.1 br.1 jump (v.at 30) v l refl h in
    let first = stands.1 in
    let a1 = first.ends in
    let b1 = dec.1.ends in
    let b2 = dec.1.room in
    let c1 = straight_ends e turn stands.0 parts.0 (half_straight p (suc n)) (half_far e p n a st) parts.1 in
    let c2 = half_has_words p (suc n) in
    let to : (pc + 1 + w) % 65536 ≡ parts.0 = omega (arith, a1, b1, b2, c1, c2) in
    let goes : Goes e 1 pc v parts.0 v = record { by = ap (λ o. act e o pc v) first.is ∙ ap (λ k. Running k v) to } in
    let most = r.at_most in
    record {
      steps = 1 + r.steps;
      at_most = omega (arith, most);
      last = r.last;
      goes = goes_on_to e 1 r.steps pc parts.0 end v v r.last goes r.goes;
      holds = r.holds;
      numbers = r.numbers;
      same = r.same;
      inputs = r.inputs;
      safe = r.safe;
      seen = r.seen;
    }
