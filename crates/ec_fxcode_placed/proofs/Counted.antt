-- A fixed-point number that was shifted where it stands by a known count.
use Rattle.std.proofs.Common.{◌≡◌, ◌≢◌, ℕ, zero, suc, ◌+◌, ◌-◌, ◌*◌, ◌%◌, ◌^◌, ◌<◌, ◌≤◌, ⊎_elim, Bool, true, false, refl, sym, ap, ◌∙◌}
use Rattle.std.proofs.Common.{subst, arith, pos, ◌*ℤ◌, ◌++◌, [], ◌∷◌, leb-true}
use Rattle.std.specs.Prelude.{nat_le, nat_lt, if◌then◌else◌}
use Rattle.std.proofs.lemmas.Bool.{cases_eq, and_parts}
use Rattle.std.proofs.lemmas.Bool.Decides.{nat_tests}
use Rattle.std.proofs.lemmas.List.Sums.{sum_by-append}
use Rattle.std.proofs.lemmas.Nat.{mul-le, pow_pos}
use Rattle.ec_fx.specs.declared.formats.Format.{Format}
use Rattle.ec_fx.specs.declared.numbers.Mode.{Mode}
use Rattle.ec_fx.specs.Arithmetic.{exact_shift}
use Rattle.ec_fx.specs.Results.{fit, result_of}
use Rattle.ec_isa.specs.declared.instructions.Instr.TheVariants.{Ldi, Andi, Eor}
use Rattle.ec_asm.specs.declared.items.AsmItem.TheVariants.{Plain}
use Rattle.ec_asm.specs.declared.pieces.Location.{Location}
use Rattle.ec_asm.specs.declared.pieces.Location.TheVariants.{InRegisters, InMemory}
use Rattle.ec_asm.specs.View.{View}
use Rattle.ec_asm.specs.Change.{Env, Own, change}
use Rattle.ec_asm.specs.Items.{HasAt, all_straight, block, chain, code_steps, code_words, item_words}
use Rattle.ec_asm.specs.Pieces.{StandsFrom, Outside, value}
use Rattle.ec_asm.specs.PieceLaws.{HoldsNumbers}
use Rattle.ec_asm.proofs.Bytes.{put_here, put_other}
use Rattle.ec_asm.proofs.Hoare.{has_parts, block_goes, goes_on_to, one_goes, straight-append, chain_straight, steps-append, steps-chain}
use Rattle.ec_asm.proofs.ItemWords.{chain_words}
use Rattle.ec_asm.proofs.Numbers.{value_below}
use Rattle.ec_asm.proofs.Sum.{value-same}
use Rattle.ec_select_shifts.specs.declared.shifts.Direction.{Direction}
use Rattle.ec_select_shifts.specs.declared.shifts.Direction.TheVariants.{Left, Right}
use Rattle.ec_select_shifts.specs.Shifts.{shifted_by, counted_code}
use Rattle.ec_select_shifts.proofs.Counted.{counted_shifts_are_right, counted_shifts_have_words}
use Rattle.ec_fxcode.specs.Clamps.{sign_code}
use Rattle.ec_fxcode.specs.ClampLaws.{signed_number, HoldsResult, IsClearOfEnds}
use Rattle.ec_fxcode.proofs.Moves.{clear_byte}
use Rattle.ec_fxcode.proofs.Short.{sign_short}
use Rattle.ec_fxcode_shifts.specs.ShiftLaws.{number_in}
use Rattle.ec_fxcode_shifts.proofs.Entered.{format_width}
use Rattle.ec_fxcode_shifts.proofs.Shifted.{div_one}
use Rattle.ec_fxcode_scales.specs.ScaleLaws.{Brings}
use Rattle.ec_fxcode_placed.specs.Shifts.{rounded_code}
use Rattle.ec_fxcode_placed.specs.Counts.{biased_byte, bias_code, known_bias_code, takes_known_bias, rounded_by_code, placed_by_code}
use Rattle.ec_fxcode_placed.specs.ShiftLaws.{PlacedCountsAreRight, PlacedCountsHave}
use Rattle.ec_fxcode_placed.proofs.Biased.{biases}
use Rattle.ec_fxcode_placed.proofs.Known.{RunsBiased, known_biases, known_bias_words}
use Rattle.ec_fxcode_placed.proofs.Toward.{IsToward}
use Rattle.ec_fxcode_placed.proofs.Loop.{beside_30, rounds}
use Rattle.ec_fxcode_placed.proofs.Shifted.{toward_holds, plain_holds, left_holds, plain_left_holds}
use Rattle.ec_fxcode_placed.proofs.Words.{placed_shifts_have}

-- ---- the code of the bias

bias_straight : (r n k : ℕ) → all_straight (bias_code r n k) ≡ true
bias_straight r n k =
    let both = Plain (Andi 31 (2 ^ k - 1)) ∷ Plain (Eor 0 0) ∷ [] in
    straight-append (sign_code (InRegisters r) n) (both ++ chain (biased_byte r) n) (sign_short (InRegisters r) n).straight
    (chain_straight (biased_byte r) n one)
  where
    one : (i : ℕ) → all_straight (biased_byte r i) ≡ true
    one zero = refl
    one (suc i) = refl

bias_steps : (r n k : ℕ) → code_steps (bias_code r n k) ≤ 5 + n
bias_steps r n k =
    let both = Plain (Andi 31 (2 ^ k - 1)) ∷ Plain (Eor 0 0) ∷ [] in
    let a = (sign_short (InRegisters r) n).steps_are in
    let b = steps-chain (biased_byte r) n 1 one in
    omega (arith, steps-append (sign_code (InRegisters r) n) (both ++ chain (biased_byte r) n), steps-append both (chain (biased_byte r) n), a, b)
  where
    one : (i : ℕ) → code_steps (biased_byte r i) ≡ 1
    one zero = refl
    one (suc i) = refl

bias_words : (r n k : ℕ) → code_words (bias_code r n k) ≡ 5 + n
bias_words r n k =
    let both = Plain (Andi 31 (2 ^ k - 1)) ∷ Plain (Eor 0 0) ∷ [] in
    let a : code_words (sign_code (InRegisters r) n) ≡ 3 = refl in
    let b = chain_words (biased_byte r) n 1 one in
    omega (
      arith,
      sum_by-append item_words (sign_code (InRegisters r) n) (both ++ chain (biased_byte r) n),
      sum_by-append item_words both (chain (biased_byte r) n),
      a,
      b,
    )
  where
    one : (i : ℕ) → code_words (biased_byte r i) ≡ 1
    one zero = refl
    one (suc i) = refl

-- ---- the runs

module _ (f : Format) (mode : Mode) (e : Env) (p : Location) (n a k pc end : ℕ) (v : View) (bits : f.bits ≡ 8 * suc n)
    (st : StandsFrom e p (suc n) a Own) (clear : IsClearOfEnds a (suc n)) (numbers : HoldsNumbers v) (few : k < 128)
    (within : k < 8 * suc n) where
  below : value v.at a (suc n) < 256 ^ suc n
  below = let two = st.clear in value_below v.at a (suc n) (λ j l. numbers (a + j) (omega (arith, two)))

  abbrev most : ℕ
  most = 9 + suc n + k * (6 + 6 * suc n)

  wider : k * (2 + 4 * suc n) ≤ k * (6 + 6 * suc n)
  wider = mul-le k (2 + 4 * suc n) k (6 + 6 * suc n) (omega arith) (omega arith)

  -- those of integers
  as_integer : (s : Direction) (Holds : ℕ → Type 0) → HasAt e (counted_code s p (suc n) k) pc end
      → Holds (shifted_by s (suc n) (value v.at a (suc n)) k) → Brings e most pc v end a (suc n) Holds
  as_integer s Holds stands holds =
      let r = counted_shifts_are_right s e p n a k pc end v st (beside_30 a (suc n) clear) numbers few stands in
      let take = r.at_most in
      let w = wider in
      record {
        steps = r.steps;
        at_most = omega (arith, take, w);
        last = r.last;
        goes = r.goes;
        holds = subst Holds (sym r.number_is) holds;
        numbers = r.numbers;
        same = λ j x y z w o. r.same j x y z o;
        inputs = r.inputs;
        safe = r.safe;
        seen = r.seen;
      }

  -- bit by bit
  by_bits : HasAt e (Plain (Ldi 30 k) ∷ rounded_code p (suc n)) pc end
      → Brings e most pc v end a (suc n) (IsToward (256 ^ suc n) (value v.at a (suc n)) (2 ^ k))
  by_bits stands =
      let v1 = change e (Ldi 30 k) v in
      let here : v1.at 30 ≡ k = put_here v.at 30 k 30 refl in
      let two = st.clear in
      let numbers1 : HoldsNumbers v1 =
      λ i u. ⊎_elim (λ (q : i ≡ 30). rw (put_here v.at 30 k i q) (omega (arith, few))) (λ (q : i ≢ 30). rw (put_other v.at 30 k i q) (numbers i u))
      (cases_eq i 30) in
      let g0 = rounds e p n a stands.0 end v1 st clear numbers1 (rw here few) stands.2 in
      let g = subst (λ i. Brings e (3 + i * (6 + 6 * suc n)) stands.0 v1 end a (suc n)
      (IsToward (256 ^ suc n) (value v1.at a (suc n)) (2 ^ i))) here g0 in
      let same : value v1.at a (suc n) ≡ value v.at a (suc n) =
      value-same v1.at v.at a (suc n) (λ j m. put_other v.at 30 k (a + j) (clear_byte a (suc n) j clear two m).2) in
      let take = g.at_most in
      record {
        steps = 1 + g.steps;
        at_most = omega (arith, take);
        last = g.last;
        goes = goes_on_to e 1 g.steps pc stands.0 end v v1 g.last (one_goes e (Ldi 30 k) pc stands.0 v refl stands.1) g.goes;
        holds = subst (λ i. IsToward (256 ^ suc n) i (2 ^ k) (value g.last.at a (suc n))) same g.holds;
        numbers = g.numbers;
        same = λ i b c d w o. g.same i b c d w o ∙ put_other v.at 30 k i d;
        inputs = g.inputs;
        safe = g.safe;
        seen = g.seen;
      }

  -- where a number in registers stands
  place_of : (r : ℕ) → p ≡ InRegisters r → r ≡ a
  place_of r is =
      let x = subst (λ q. StandsFrom e q (suc n) a Own) is st in
      let y = x.at 0 (omega arith) in
      omega (arith, y)

  two_of : (r : ℕ) → p ≡ InRegisters r → 2 ≤ r
  two_of r is = let c = st.clear in let x = place_of r is in omega (arith, c, x)

  clear_of : (r : ℕ) → p ≡ InRegisters r → IsClearOfEnds r (suc n)
  clear_of r is = subst (λ i. IsClearOfEnds i (suc n)) (sym (place_of r is)) clear

  -- with a bias
  biased : (r : ℕ) → p ≡ InRegisters r → (mid : ℕ) → RunsBiased e (5 + suc n) pc v mid r (suc n) k
      → HasAt e (counted_code (Right true) p (suc n) k) mid end
      → Brings e most pc v end a (suc n) (IsToward (256 ^ suc n) (value v.at a (suc n)) (2 ^ k))
  biased r is mid b stands =
      let place = place_of r is in
      let b0 = b.biased in
      let g = counted_shifts_are_right (Right true) e p n a k mid end b.last st (beside_30 a (suc n) clear) b0.numbers few stands in
      let holds0 = b0.toward (value g.last.at a (suc n))
      (g.number_is ∙ ap (λ i. shifted_by (Right true) (suc n) (value b.last.at i (suc n)) k) (sym place)) in
      let take1 = b.at_most in
      let take2 = g.at_most in
      let w = wider in
      record {
        steps = b.steps + g.steps;
        at_most = omega (arith, take1, take2, w);
        last = g.last;
        goes = goes_on_to e b.steps g.steps pc mid end v b.last g.last b.goes g.goes;
        holds = subst (λ i. IsToward (256 ^ suc n) (value v.at i (suc n)) (2 ^ k) (value g.last.at a (suc n))) place holds0;
        numbers = g.numbers;
        same = λ i b c d z o. g.same i b c d o ∙ b0.same i b c d z (subst (λ q. Outside q (suc n) i) (sym place) o);
        inputs = g.inputs ∙ b0.inputs;
        safe = g.safe ∙ b0.safe;
        seen = g.seen ∙ b0.seen;
      }

  -- that of R31
  at_once : (r : ℕ) → p ≡ InRegisters r → k < 8 → HasAt e (bias_code r (suc n) k ++ counted_code (Right true) p (suc n) k) pc end
      → Brings e most pc v end a (suc n) (IsToward (256 ^ suc n) (value v.at a (suc n)) (2 ^ k))
  at_once r is small stands =
      let code = bias_code r (suc n) k in
      let parts = has_parts e code (counted_code (Right true) p (suc n) k) pc end stands in
      let v1 = block e code v in
      biased r is parts.0 (record {
        steps = code_steps code;
        at_most = bias_steps r (suc n) k;
        last = v1;
        goes = block_goes e code pc parts.0 v (bias_straight r (suc n) k) parts.1;
        biased = biases e r n k v (two_of r is) (clear_of r is) small numbers;
      }) parts.2

  -- or that of known bytes
  by_known : (r : ℕ) → p ≡ InRegisters r → 1 ≤ k → HasAt e (known_bias_code r (suc n) k ++ counted_code (Right true) p (suc n) k) pc end
      → Brings e most pc v end a (suc n) (IsToward (256 ^ suc n) (value v.at a (suc n)) (2 ^ k))
  by_known r is some stands =
      let parts = has_parts e (known_bias_code r (suc n) k) (counted_code (Right true) p (suc n) k) pc end stands in
      let b = known_biases e r n k pc parts.0 v (two_of r is) (clear_of r is) some within numbers parts.1 in
      let take = b.at_most in
      biased r is parts.0
      (record { steps = b.steps; at_most = omega (arith, take); last = b.last; goes = b.goes; biased = b.biased }) parts.2

  abbrev Done : (left signed : Bool) → Type 0
  Done left signed =
      f.signed ≡ signed → HasAt e (placed_by_code left signed p (suc n) k) pc end
      → Brings e most pc v end a (suc n)
      (HoldsResult (suc n) (result_of (exact_shift (number_in signed (suc n) (value v.at a (suc n))) k left) f mode))

  to_the_left : (signed : Bool) → mode.saturate ≡ false → Done true signed
  to_the_left true sat s stands =
      as_integer Left _ stands
      (subst (λ z. HoldsResult (suc n) (fit f mode z) (value v.at a (suc n) * 2 ^ k % 256 ^ suc n))
      (sym (div_one (signed_number (suc n) (value v.at a (suc n)) *ℤ pos (2 ^ k))))
      (left_holds f mode n (value v.at a (suc n)) (2 ^ k) s bits sat below (pow_pos k)))
  to_the_left false sat s stands =
      as_integer Left _ stands
      (subst (λ z. HoldsResult (suc n) (fit f mode z) (value v.at a (suc n) * 2 ^ k % 256 ^ suc n))
      (sym (div_one (pos (value v.at a (suc n)) *ℤ pos (2 ^ k))))
      (plain_left_holds f mode n (value v.at a (suc n)) (2 ^ k) s bits sat))

  rounded : HasAt e (rounded_by_code p (suc n) k) pc end
      → Brings e most pc v end a (suc n) (IsToward (256 ^ suc n) (value v.at a (suc n)) (2 ^ k))
  rounded stands = by_place p refl stands
    where
      ltb_true : (a b : ℕ) → nat_lt a b ≡ true → a < b
      ltb_true a b h = grind (arith, nat_tests)

      by_place : (q : Location) → p ≡ q → HasAt e (rounded_by_code q (suc n) k) pc end
          → Brings e most pc v end a (suc n) (IsToward (256 ^ suc n) (value v.at a (suc n)) (2 ^ k))
      by_place (InMemory o j) is there = by_bits (subst (λ q. HasAt e (Plain (Ldi 30 k) ∷ rounded_code q (suc n)) pc end) (sym is) there)
      by_place (InRegisters r) is there = by_bytes (takes_known_bias r k) refl there
        where
          by_count : (b : Bool) → nat_lt k 8 ≡ b
              → HasAt e (if b then bias_code r (suc n) k ++ counted_code (Right true) (InRegisters r) (suc n) k
              else Plain (Ldi 30 k) ∷ rounded_code (InRegisters r) (suc n)) pc end
              → Brings e most pc v end a (suc n) (IsToward (256 ^ suc n) (value v.at a (suc n)) (2 ^ k))
          by_count true t u =
              at_once r is (ltb_true k 8 t)
              (subst (λ q. HasAt e (bias_code r (suc n) k ++ counted_code (Right true) q (suc n) k) pc end) (sym is) u)
          by_count false t u = by_bits (subst (λ q. HasAt e (Plain (Ldi 30 k) ∷ rounded_code q (suc n)) pc end) (sym is) u)

          by_bytes : (b : Bool) → takes_known_bias r k ≡ b
              → HasAt e (if b then known_bias_code r (suc n) k ++ counted_code (Right true) (InRegisters r) (suc n) k
              else if nat_lt k 8 then bias_code r (suc n) k ++ counted_code (Right true) (InRegisters r) (suc n) k
              else Plain (Ldi 30 k) ∷ rounded_code (InRegisters r) (suc n)) pc end
              → Brings e most pc v end a (suc n) (IsToward (256 ^ suc n) (value v.at a (suc n)) (2 ^ k))
          by_bytes true t u =
              by_known r is (leb-true 1 k (and_parts (nat_le 16 r) (nat_le 1 k) t).1)
              (subst (λ q. HasAt e (known_bias_code r (suc n) k ++ counted_code (Right true) q (suc n) k) pc end) (sym is) u)
          by_bytes false t u = by_count (nat_lt k 8) refl u

  to_the_right : (signed : Bool) → Done false signed
  to_the_right true s stands =
      let r = rounded stands in
      record {
        steps = r.steps;
        at_most = r.at_most;
        last = r.last;
        goes = r.goes;
        holds = toward_holds f mode n (value v.at a (suc n)) (2 ^ k) (value r.last.at a (suc n)) s bits below (pow_pos k) r.holds;
        numbers = r.numbers;
        same = r.same;
        inputs = r.inputs;
        safe = r.safe;
        seen = r.seen;
      }
  to_the_right false s stands =
      as_integer (Right false) _ stands (plain_holds f mode n (value v.at a (suc n)) (2 ^ k) s bits below (pow_pos k))

  done : (left : Bool) → (left ≡ true → mode.saturate ≡ false) → Done left f.signed
  done true sat = to_the_left f.signed (sat refl)
  done false sat = to_the_right f.signed

pub placed_counts_are_right : PlacedCountsAreRight
placed_counts_are_right left f mode e p n a k pc end v is bits sat st clear numbers few stands =
    let wide = format_width f (suc n) is bits in
    let most = wide.most in
    done f mode e p n a k pc end v bits st clear numbers (omega (arith, few, bits, most)) (omega (arith, few, bits)) left sat refl stands

-- ---- words

rounded_has : (p : Location) (n k : ℕ) → code_words (Plain (Ldi 30 k) ∷ rounded_code p n) ≤ 9 + 10 * n
rounded_has p n k =
    let a = placed_shifts_have false true p n in
    omega (arith, sum_by-append item_words (Plain (Ldi 30 k) ∷ []) (rounded_code p n), a)

integers_have : (s : Direction) (p : Location) (n k : ℕ) → code_words (counted_code s p n k) ≤ 12 + 10 * n
integers_have s p n k = let a = counted_shifts_have_words s p n k in omega (arith, a)

pub placed_counts_have : PlacedCountsHave
placed_counts_have true signed p n k = integers_have Left p n k
placed_counts_have false false p n k = integers_have (Right false) p n k
placed_counts_have false true (InMemory o j) n k = let a = rounded_has (InMemory o j) n k in omega (arith, a)
placed_counts_have false true (InRegisters r) n k = by_bytes (takes_known_bias r k)
  where
    by_count : (b : Bool) → code_words (if b then bias_code r n k ++ counted_code (Right true) (InRegisters r) n k
        else Plain (Ldi 30 k) ∷ rounded_code (InRegisters r) n) ≤ 12 + 10 * n
    by_count true =
        let a = bias_words r n k in
        let b = counted_shifts_have_words (Right true) (InRegisters r) n k in
        omega (arith, sum_by-append item_words (bias_code r n k) (counted_code (Right true) (InRegisters r) n k), a, b)
    by_count false = let a = rounded_has (InRegisters r) n k in omega (arith, a)

    by_bytes : (b : Bool) → code_words (if b then known_bias_code r n k ++ counted_code (Right true) (InRegisters r) n k
        else if nat_lt k 8 then bias_code r n k ++ counted_code (Right true) (InRegisters r) n k
        else Plain (Ldi 30 k) ∷ rounded_code (InRegisters r) n) ≤ 12 + 10 * n
    by_bytes true =
        let a = known_bias_words r n k in
        let b = counted_shifts_have_words (Right true) (InRegisters r) n k in
        omega (arith, sum_by-append item_words (known_bias_code r n k) (counted_code (Right true) (InRegisters r) n k), a, b)
    by_bytes false = by_count (nat_lt k 8)
