-- Shifts by a known count.
use Rattle.std.proofs.Common.{◌≡◌, ◌≢◌, ℕ, zero, suc, ◌+◌, ◌-◌, ◌*◌, ◌/◌, ◌%◌, ◌^◌, ◌<◌, ◌≤◌, Bool, true, false, refl, sym, ap, ◌∙◌}
use Rattle.std.proofs.Common.{List, [], ◌∷◌, ◌++◌, append_assoc, append-nil, leb-true, leb-false, ⊎_elim, subst, arith}
use Rattle.std.specs.Prelude.{if◌then◌else◌, nat_le, nat_lt, ◌==◌}
use Rattle.std.proofs.lemmas.Bool.{cases_eq, cases_lt, and_parts, eqb-true, le-leb}
use Rattle.std.proofs.lemmas.Bool.Decides.{nat_tests}
use Rattle.std.proofs.lemmas.List.Sums.{sum_by-append}
use Rattle.std.proofs.lemmas.Nat.{mul-le, pow-add, mod_below, div-add-mod', mod-mul-add, div-mul-add, shr_le}
use native.Mathlib.Nat.{pow-suc, div-div-eq-div-mul}
use Rattle.ec_isa.specs.declared.instructions.Instr.TheVariants.{Ldi, Mov, Eor, Sbc}
use Rattle.ec_asm.specs.declared.items.AsmItem.{AsmItem}
use Rattle.ec_asm.specs.declared.items.AsmItem.TheVariants.{Plain}
use Rattle.ec_asm.specs.declared.pieces.Location.{Location}
use Rattle.ec_asm.specs.declared.pieces.Location.TheVariants.{InRegisters, InMemory}
use Rattle.ec_asm.specs.View.{View}
use Rattle.ec_asm.specs.Change.{Env, Own, change}
use Rattle.ec_asm.specs.Items.{HasAt, all_straight, block, chain, code_steps, code_words, item_words}
use Rattle.ec_asm.specs.Pieces.{StandsFrom, Outside, value}
use Rattle.ec_asm.specs.PieceLaws.{HoldsNumbers}
use Rattle.ec_asm.specs.Takes.{Goes}
use Rattle.ec_asm.proofs.Bytes.{put_here, put_other}
use Rattle.ec_asm.proofs.Hoare.{has_parts, block-append, block_goes, goes_on_to, one_goes, straight-append, chain_straight, steps-append, steps-chain}
use Rattle.ec_asm.proofs.ItemWords.{chain_words}
use Rattle.ec_asm.proofs.Numbers.{value_below, pow_pos as bytes_pos}
use Rattle.ec_asm.proofs.Sum.{value-same}
use Rattle.ec_select_shifts.specs.declared.shifts.Direction.{Direction}
use Rattle.ec_select_shifts.specs.declared.shifts.Direction.TheVariants.{Left, Right}
use Rattle.ec_select_shifts.specs.Shifts.{shifted_by, turn_code, turn_words, turns_code, most_turn_words, bits_code, shift_code}
use Rattle.ec_select_shifts.specs.Shifts.{sign_code, filled_byte, moved_byte, moved_code, first_moved, bytes_code, moves_bytes}
use Rattle.ec_select_shifts.specs.Shifts.{against_code, carried_byte, carry_code, carried_code, takes_carry}
use Rattle.ec_select_shifts.specs.Laws.{Leads, CountedShiftsAreRight, CountedShiftsHaveWords}
use Rattle.ec_select_shifts.proofs.Carried.{value_moved, seven}
use Rattle.ec_select_shifts.proofs.Loops.{shifts_are_right, turn_straight, turn_takes}
use Rattle.ec_select_shifts.proofs.Moved.{Moves, bytes_move, fill_of, moved_from, first_filled}
use Rattle.ec_select_shifts.proofs.Once.{none, first_turn, turned}
use Rattle.ec_select_shifts.proofs.Words.{turn_has_words, shifts_have_words}

-- the first turn, and the others
front : (s : Direction) (p : Location) (n k : ℕ) → turns_code s p n (suc k) ≡ turn_code s p n ++ turns_code s p n k
front s p n zero = sym (append-nil (turn_code s p n))
front s p n (suc k) =
    ap (λ l. l ++ turn_code s p n) (front s p n k) ∙ append_assoc (turn_code s p n) (turns_code s p n k) (turn_code s p n)

module _ (s : Direction) (e : Env) (p : Location) (n a : ℕ) (st : StandsFrom e p (suc n) a Own) (end : ℕ) where
  turns_lead : (k pc : ℕ) (v : View) → HoldsNumbers v → HasAt e (turns_code s p (suc n) k) pc end
      → Leads e (k * (4 * suc n)) pc v end a (suc n) (shifted_by s (suc n) (value v.at a (suc n)) k)
  turns_lead zero pc v h stands =
      let ua = st.clear in
      let below : value v.at a (suc n) < 256 ^ suc n = value_below v.at a (suc n) (λ j m. h (a + j) (omega arith)) in
      record {
        steps = 0;
        at_most = omega arith;
        last = v;
        goes = block_goes e [] pc end v refl stands;
        number_is = sym (none s (suc n) (value v.at a (suc n)) below);
        numbers = h;
        same = λ i x z m o. refl;
        inputs = refl;
        safe = refl;
        seen = refl;
      }
  turns_lead (suc k) pc v h stands =
      let ua = st.clear in
      let x = value v.at a (suc n) in
      let code = turn_code s p (suc n) in
      let parts = has_parts e code (turns_code s p (suc n) k) pc end
      (subst (λ l. HasAt e l pc end) (front s p (suc n) k) stands) in
      let v1 = block e code v in
      let t = turned s e p n a v st h in
      let below : x < 256 ^ suc n = value_below v.at a (suc n) (λ j m. h (a + j) (omega arith)) in
      let r = turns_lead k parts.0 v1 t.numbers parts.2 in
      let take = turn_takes s p (suc n) in
      let most = r.at_most in
      record {
        steps = code_steps code + r.steps;
        at_most = bound k (code_steps code) r.steps (4 * suc n) (omega (arith, take)) most;
        last = r.last;
        goes = goes_on_to e (code_steps code) r.steps pc parts.0 end v v1 r.last
            (block_goes e code pc parts.0 v (turn_straight s p (suc n)) parts.1) r.goes;
        number_is = r.number_is ∙ ap (λ i. shifted_by s (suc n) i k) t.number_is ∙ first_turn s (suc n) x k (omega arith) below;
        numbers = r.numbers;
        same = λ i b c d o. r.same i b c d o ∙ t.keeps.same i b c o;
        inputs = r.inputs ∙ t.keeps.inputs;
        safe = r.safe ∙ t.keeps.safe;
        seen = r.seen ∙ t.keeps.seen;
      }
    where
      bound : (k c r m : ℕ) → c ≤ m → r ≤ k * m → c + r ≤ suc k * m
      bound k c r m a b = omega (arith, a, b)

-- the count is put to R30
loop_leads : (s : Direction) (e : Env) (p : Location) (n a k pc end : ℕ) (v : View) → StandsFrom e p (suc n) a Own
    → Outside a (suc n) 30 → HoldsNumbers v → k < 128 → HasAt e (Plain (Ldi 30 k) ∷ shift_code s p (suc n)) pc end
    → Leads e (4 + k * (2 + 4 * suc n)) pc v end a (suc n) (shifted_by s (suc n) (value v.at a (suc n)) k)
loop_leads s e p n a k pc end v st far h l stands =
    let v1 = change e (Ldi 30 k) v in
    let here : v1.at 30 ≡ k = put_here v.at 30 k 30 refl in
    let numbers : HoldsNumbers v1 =
    λ i u. ⊎_elim (λ (q : i ≡ 30). rw (put_here v.at 30 k i q) (omega (arith, l))) (λ (q : i ≢ 30). rw (put_other v.at 30 k i q) (h i u))
    (cases_eq i 30) in
    let g0 = shifts_are_right s e p n a stands.0 end v1 st far numbers (rw here l) stands.2 in
    let g = subst (λ i. Leads e (3 + i * (2 + 4 * suc n)) stands.0 v1 end a (suc n)
    (shifted_by s (suc n) (value v1.at a (suc n)) i)) here g0 in
    let same : value v1.at a (suc n) ≡ value v.at a (suc n) =
    value-same v1.at v.at a (suc n) (λ j m. put_other v.at 30 k (a + j) (not_work a (suc n) j far m)) in
    let most = g.at_most in
    record {
      steps = 1 + g.steps;
      at_most = omega (arith, most);
      last = g.last;
      goes = goes_on_to e 1 g.steps pc stands.0 end v v1 g.last (one_goes e (Ldi 30 k) pc stands.0 v refl stands.1) g.goes;
      number_is = g.number_is ∙ ap (λ i. shifted_by s (suc n) i k) same;
      numbers = g.numbers;
      same = λ i b c d o. g.same i b c d o ∙ put_other v.at 30 k i d;
      inputs = g.inputs;
      safe = g.safe;
      seen = g.seen;
    }
  where
    not_work : (a n j : ℕ) → Outside a n 30 → j < n → a + j ≢ 30
    not_work a n j h l q = grind arith

bits_lead : (s : Direction) (e : Env) (p : Location) (n a k pc end : ℕ) (v : View) → StandsFrom e p (suc n) a Own
    → Outside a (suc n) 30 → HoldsNumbers v → k < 128 → HasAt e (bits_code s p (suc n) k) pc end
    → Leads e (4 + k * (2 + 4 * suc n)) pc v end a (suc n) (shifted_by s (suc n) (value v.at a (suc n)) k)
bits_lead s e p n a k pc end v st far h l stands =
    by_words (nat_le (k * turn_words s p (suc n)) (most_turn_words s p (suc n))) stands
  where
    by_words : (x : Bool) → HasAt e (if x then turns_code s p (suc n) k else Plain (Ldi 30 k) ∷ shift_code s p (suc n)) pc end
        → Leads e (4 + k * (2 + 4 * suc n)) pc v end a (suc n) (shifted_by s (suc n) (value v.at a (suc n)) k)
    by_words true stands =
        let g = turns_lead s e p n a st end k pc v h stands in
        let most = g.at_most in
        record {
          steps = g.steps;
          at_most = wider k g.steps (4 * suc n) most;
          last = g.last;
          goes = g.goes;
          number_is = g.number_is;
          numbers = g.numbers;
          same = g.same;
          inputs = g.inputs;
          safe = g.safe;
          seen = g.seen;
        }
      where
        wider : (k c m : ℕ) → c ≤ k * m → c ≤ 4 + k * (2 + m)
        wider k c m h = omega (arith, h)
    by_words false stands = loop_leads s e p n a k pc end v st far h l stands

-- ---- by whole bytes

value_parts : (f : ℕ → ℕ) (a k m : ℕ) → value f a (k + m) ≡ value f a k + 256 ^ k * value f (a + k) m
value_parts f a k zero = let e : k + 0 ≡ k = omega arith in rw e (omega arith)
value_parts f a k (suc m) =
    let e : k + suc m ≡ suc (k + m) = omega arith in
    let h = value_parts f a k m in
    let q : a + (k + m) ≡ a + k + m = omega arith in
    let p : 256 ^ (k + m) ≡ 256 ^ k * 256 ^ m = pow-add 256 k m in
    rw (e, h, q, p) (omega arith)

zeros : (f : ℕ → ℕ) (a m : ℕ) → ((j : ℕ) → j < m → f (a + j) ≡ 0) → value f a m ≡ 0
zeros f a zero h = refl
zeros f a (suc m) h =
    let v = zeros f a m (λ j l. h j (omega arith)) in
    let x = h m (omega arith) in
    rw (v, x) (omega arith)

ones : (f : ℕ → ℕ) (a m : ℕ) → ((j : ℕ) → j < m → f (a + j) ≡ 255) → value f a m + 1 ≡ 256 ^ m
ones f a zero h = refl
ones f a (suc m) h =
    let v = ones f a m (λ j l. h j (omega arith)) in
    let x = h m (omega arith) in
    rw (x, pow-suc) (omega arith)

byte_bits : (q : ℕ) → 2 ^ (8 * q) ≡ 256 ^ q
byte_bits zero = refl
byte_bits (suc q) =
    let e : 8 * suc q ≡ 8 * q + 8 = omega arith in
    ap (λ t. 2 ^ t) e ∙ pow-add 2 (8 * q) 8 ∙ ap (λ t. t * 256) (byte_bits q) ∙ sym (pow-suc 256 q)

both_bits : (q k : ℕ) → 2 ^ (8 * q + k) ≡ 256 ^ q * 2 ^ k
both_bits q k = pow-add 2 (8 * q) k ∙ ap (λ t. t * 2 ^ k) (byte_bits q)

-- to the left: x = y + P z
left_whole : (m q k x y z : ℕ) → x ≡ y + 256 ^ m * z
    → 256 ^ q * (y * 2 ^ k % 256 ^ m) ≡ x * 2 ^ (8 * q + k) % 256 ^ (q + m)
left_whole m q k x y z e =
    let P = 256 ^ m in
    let Q = 256 ^ q in
    let K = 2 ^ k in
    let r = y * K % P in
    let t = y * K / P in
    let d : t * P + r ≡ y * K = div-add-mod' (y * K) P in
    let small : r < P = mod_below (y * K) P (bytes_pos m) in
    let up : r * Q < P * Q = times_less r P Q small (bytes_pos q) in
    let one : x * (Q * K) ≡ (t + z * K) * (P * Q) + r * Q = spread x y z P Q K t r e d in
    let power : 256 ^ (q + m) ≡ P * Q = (let u : q + m ≡ m + q = omega arith in ap (λ i. 256 ^ i) u ∙ pow-add 256 m q) in
    let both : x * 2 ^ (8 * q + k) ≡ (t + z * K) * (P * Q) + r * Q = ap (λ i. x * i) (both_bits q k) ∙ one in
    let turn : Q * r ≡ r * Q = omega arith in
    rw (both, power) (turn ∙ sym (mod-mul-add (t + z * K) (P * Q) (r * Q) up))
  where
    times_less : (a b c : ℕ) → a < b → 0 < c → a * c < b * c
    times_less a b c l o = let w = mul-le (suc a) c b c l (omega arith) in omega (arith, w, o)

    spread : (x y z P Q K t r : ℕ) → x ≡ y + P * z → t * P + r ≡ y * K → x * (Q * K) ≡ (t + z * K) * (P * Q) + r * Q
    spread x y z P Q K t r e d =
        let a : x * (Q * K) ≡ (y + P * z) * (Q * K) = ap (λ i. i * (Q * K)) e in
        let b : (t * P + r) * Q ≡ y * K * Q = ap (λ i. i * Q) d in
        omega (arith, a, b)

-- to the right without a sign: x = y Q + z
right_whole : (q k x : ℕ) → x / 256 ^ q / 2 ^ k ≡ x / 2 ^ (8 * q + k)
right_whole q k x = div-div-eq-div-mul x (256 ^ q) (2 ^ k) ∙ ap (λ i. x / i) (sym (both_bits q k))

-- and with one, of a negative number
negative_whole : (m q k x y z : ℕ) → x ≡ z + 256 ^ q * y → z < 256 ^ q → y < 256 ^ m
    → 256 ^ m - 1 - (256 ^ m - 1 - y) / 2 ^ k + 256 ^ m * (256 ^ q - 1) ≡ 256 ^ (m + q) - 1 - (256 ^ (m + q) - 1 - x) / 2 ^ (8 * q + k)
negative_whole m q k x y z e low high =
    let P = 256 ^ m in
    let Q = 256 ^ q in
    let w = P - 1 - y in
    let power : 256 ^ (m + q) ≡ P * Q = pow-add 256 m q in
    let rest : P * Q - 1 - x ≡ w * Q + (Q - 1 - z) = left_over P Q x y z w e low high (omega (arith, high)) in
    let less : (P * Q - 1 - x) / Q ≡ w = ap (λ i. i / Q) rest ∙ div-mul-add w Q (Q - 1 - z) (omega (arith, low)) in
    let again : (P * Q - 1 - x) / 2 ^ (8 * q + k) ≡ w / 2 ^ k = sym (right_whole q k (P * Q - 1 - x)) ∙ ap (λ i. i / 2 ^ k) less in
    let small : w / 2 ^ k ≤ w = shr_le w k in
    let some = bytes_pos q in
    let whole : P * (Q - 1) + P ≡ P * Q = (let u : (Q - 1 + 1) * P ≡ Q * P = ap (λ i. i * P) (omega (arith, some)) in omega (arith, u)) in
    rw (power, again) (omega (arith, small, whole, high))
  where
    left_over : (P Q x y z w : ℕ) → x ≡ z + Q * y → z < Q → y < P → w + 1 + y ≡ P → P * Q - 1 - x ≡ w * Q + (Q - 1 - z)
    left_over P Q x y z w e l h s =
        let a : (w + 1 + y) * Q ≡ P * Q = ap (λ i. i * Q) s in
        omega (arith, a, e, l)

-- where a number is negative, and where its upper bytes are
half_of : (low top p : ℕ) → low < p → top < 256 → nat_le (p * 256) (2 * (low + top * p)) ≡ nat_le 128 top
half_of low top p l k =
    ⊎_elim
    (λ (g : top < 128).
    let m : top * p ≤ 127 * p = mul-le top p 127 p (omega arith) (omega arith) in
    no (p * 256) (2 * (low + top * p)) (omega (arith, m, l)) ∙ sym (no 128 top g))
    (λ (g : 128 ≤ top).
    let m : 128 * p ≤ top * p = mul-le 128 p top p (omega arith) (omega arith) in
    le-leb (p * 256) (2 * (low + top * p)) (omega (arith, m)) ∙ sym (le-leb 128 top g))
    (cases_lt top 128)
  where
    no : (a b : ℕ) → b < a → nat_le a b ≡ false
    no a b h = grind (arith, nat_tests)

-- all bytes, of which the low ones or the upper ones were moved by whole bytes, and then by k bits
abbrev joined_of : Direction → (m q moved filled : ℕ) → ℕ
joined_of Left m q moved filled = filled + 256 ^ q * moved
joined_of (Right signed) m q moved filled = moved + 256 ^ m * filled

together : (s : Direction) (r m q : ℕ) (u : ℕ → ℕ)
    → value u r (m + q) ≡ joined_of s m q (value u (first_moved s r q) m) (value u (first_filled s r m) q)
together Left r m q u = let n : m + q ≡ q + m = omega arith in ap (value u r) n ∙ value_parts u r q m
together (Right signed) r m q u = value_parts u r m q

module _ (e : Env) (r w q : ℕ) (two : 2 ≤ r) (v : View) (numbers : HoldsNumbers v) where
  abbrev m : ℕ
  m = suc w

  abbrev x : ℕ
  x = value v.at r (m + q)

  abbrev top : ℕ
  top = v.at (r + (m + q - 1))

  held : (a n : ℕ) → r ≤ a → value v.at a n < 256 ^ n
  held a n l = value_below v.at a n (λ j k. numbers (a + j) (omega (arith, two, l)))

  top_small : top < 256
  top_small = numbers (r + (m + q - 1)) (omega (arith, two))

  -- its sign is that of the bytes that move down
  sign_below : nat_le (256 ^ (m + q)) (2 * x) ≡ nat_le 128 top
  sign_below =
      let n : m + q ≡ suc (w + q) = omega arith in
      let t : r + (w + q) ≡ r + (m + q - 1) = omega arith in
      let low = held r (w + q) (omega arith) in
      let half : nat_le (256 ^ (m + q)) (2 * x) ≡ nat_le 128 (v.at (r + (w + q))) =
      rw (n, pow-suc 256 (w + q)) (half_of (value v.at r (w + q)) (v.at (r + (w + q))) (256 ^ (w + q)) low
      (numbers (r + (w + q)) (omega (arith, two)))) in
      half ∙ ap (λ i. nat_le 128 (v.at i)) t

  sign_above : nat_le (256 ^ m) (2 * value v.at (r + q) m) ≡ nat_le 128 top
  sign_above =
      let t : r + q + w ≡ r + (m + q - 1) = omega arith in
      let half : nat_le (256 ^ m) (2 * value v.at (r + q) m) ≡ nat_le 128 (v.at (r + q + w)) =
      rw pow-suc (half_of (value v.at (r + q) w) (v.at (r + q + w)) (256 ^ w) (held (r + q) w (omega arith))
      (numbers (r + q + w) (omega (arith, two)))) in
      half ∙ ap (λ i. nat_le 128 (v.at i)) t

  -- what all bytes become
  shifted_whole : (s : Direction) (k moved filled : ℕ)
      → moved ≡ shifted_by s m (value v.at (moved_from s r q) m) k
      → (fill_of s top ≡ 0 → filled ≡ 0) → (fill_of s top ≡ 255 → filled + 1 ≡ 256 ^ q)
      → joined_of s m q moved filled ≡ shifted_by s (m + q) x (8 * q + k)
  shifted_whole Left k moved filled is zero_is ones_are =
      let none = zero_is refl in
      let parts = value_parts v.at r m q in
      let n : m + q ≡ q + m = omega arith in
      let z : 0 + 256 ^ q * (value v.at r m * 2 ^ k % 256 ^ m) ≡ 256 ^ q * (value v.at r m * 2 ^ k % 256 ^ m) = omega arith in
      rw (none, is) (z ∙ left_whole m q k x (value v.at r m) (value v.at (r + m) q) parts
      ∙ ap (λ i. x * 2 ^ (8 * q + k) % 256 ^ i) (sym n))
  shifted_whole (Right false) k moved filled is zero_is ones_are =
      let none = zero_is refl in
      rw (none, is) (let z : value v.at (r + q) m / 2 ^ k + 256 ^ m * 0 ≡ value v.at (r + q) m / 2 ^ k = omega arith in
      z ∙ ap (λ i. i / 2 ^ k) (sym upper) ∙ right_whole q k x)
    where
      upper : x / 256 ^ q ≡ value v.at (r + q) m
      upper =
          let n : m + q ≡ q + m = omega arith in
          let parts : x ≡ value v.at r q + 256 ^ q * value v.at (r + q) m = ap (value v.at r) n ∙ value_parts v.at r q m in
          let turn : x ≡ value v.at (r + q) m * 256 ^ q + value v.at r q = omega (arith, parts) in
          ap (λ i. i / 256 ^ q) turn ∙ div-mul-add (value v.at (r + q) m) (256 ^ q) (value v.at r q) (held r q (omega arith))
  shifted_whole (Right true) k moved filled is zero_is ones_are = by_sign (nat_le 128 top) refl
    where
      y : ℕ
      y = value v.at (r + q) m

      parts : x ≡ value v.at r q + 256 ^ q * y
      parts = let n : m + q ≡ q + m = omega arith in ap (value v.at r) n ∙ value_parts v.at r q m

      upper : x / 256 ^ q ≡ y
      upper =
          let turn : x ≡ y * 256 ^ q + value v.at r q = omega (arith, parts) in
          ap (λ i. i / 256 ^ q) turn ∙ div-mul-add y (256 ^ q) (value v.at r q) (held r q (omega arith))

      by_sign : (b : Bool) → nat_le 128 top ≡ b → moved + 256 ^ m * filled ≡ shifted_by (Right true) (m + q) x (8 * q + k)
      by_sign true t =
          let high : 128 ≤ top = leb-true 128 top t in
          let l = top_small in
          let full = ones_are (omega (arith, high, l)) in
          let f : filled ≡ 256 ^ q - 1 = omega (arith, full) in
          let a = sign_below ∙ t in
          let b = sign_above ∙ t in
          rw (is, f, a, b) (negative_whole m q k x y (value v.at r q) parts (held r q (omega arith)) (held (r + q) m (omega arith)))
      by_sign false t =
          let low : top < 128 = leb-false 128 top t in
          let none = zero_is (omega (arith, low)) in
          let a = sign_below ∙ t in
          let b = sign_above ∙ t in
          rw (is, none, a, b) (let z : y / 2 ^ k + 256 ^ m * 0 ≡ y / 2 ^ k = omega arith in
          z ∙ ap (λ i. i / 2 ^ k) (sym upper) ∙ right_whole q k x)

-- ---- the code of both

moved_steps : (s : Direction) (r n q : ℕ) → code_steps (moved_code s r n q) ≤ 3 + n
moved_steps s r n q =
    let a = signs_take s in
    let b = steps-chain (moved_byte s r n q) n 1 (one s) in
    omega (arith, steps-append (sign_code s r n) (chain (moved_byte s r n q) n), a, b)
  where
    signs_take : (s : Direction) → code_steps (sign_code s r n) ≤ 3
    signs_take Left = omega arith
    signs_take (Right true) = omega arith
    signs_take (Right false) = omega arith

    filled : (s : Direction) (d : ℕ) → code_steps (filled_byte s d) ≡ 1
    filled Left d = refl
    filled (Right true) d = refl
    filled (Right false) d = refl

    by : (b : Bool) (s : Direction) (d t : ℕ) → code_steps (if b then Plain (Mov d t) ∷ [] else filled_byte s d) ≡ 1
    by true s d t = refl
    by false s d t = filled s d

    one : (s : Direction) (i : ℕ) → code_steps (moved_byte s r n q i) ≡ 1
    one Left i = by (nat_le q (n - 1 - i)) Left (r + (n - 1 - i)) (r + (n - 1 - i - q))
    one (Right signed) i = by (nat_lt (q + i) n) (Right signed) (r + i) (r + (q + i))

moved_straight : (s : Direction) (r n q : ℕ) → all_straight (moved_code s r n q) ≡ true
moved_straight s r n q =
    straight-append (sign_code s r n) (chain (moved_byte s r n q) n) (signs_go s) (chain_straight (moved_byte s r n q) n (one s))
  where
    signs_go : (s : Direction) → all_straight (sign_code s r n) ≡ true
    signs_go Left = refl
    signs_go (Right true) = refl
    signs_go (Right false) = refl

    filled : (s : Direction) (d : ℕ) → all_straight (filled_byte s d) ≡ true
    filled Left d = refl
    filled (Right true) d = refl
    filled (Right false) d = refl

    by : (b : Bool) (s : Direction) (d t : ℕ) → all_straight (if b then Plain (Mov d t) ∷ [] else filled_byte s d) ≡ true
    by true s d t = refl
    by false s d t = filled s d

    one : (s : Direction) (i : ℕ) → all_straight (moved_byte s r n q i) ≡ true
    one Left i = by (nat_le q (n - 1 - i)) Left (r + (n - 1 - i)) (r + (n - 1 - i - q))
    one (Right signed) i = by (nat_lt (q + i) n) (Right signed) (r + i) (r + (q + i))

-- all bytes are bytes still
moved_numbers : (s : Direction) (r m q : ℕ) (v u : View) → 2 ≤ r → 1 ≤ m → HoldsNumbers v → Moves s r m q v u → HoldsNumbers u
moved_numbers s r m q v u two some h g j l =
    let outside = λ (o : Outside r (m + q) j). (let z : u.at j < 256 = rw (g.same j (omega arith) o) (h j l) in z) in
    ⊎_elim (λ (below : j < r). outside (λ t. absurd (omega arith)))
    (λ (above : r ≤ j). ⊎_elim (λ (inside : j < r + (m + q)). by_place s g (j - r) (omega arith) (omega arith))
    (λ (past : r + (m + q) ≤ j). outside (λ t. past)) (cases_lt j (r + (m + q)))) (cases_lt j r)
  where
    fill_small : (s : Direction) (x : ℕ) → x < 256 → fill_of s x < 256
    fill_small Left x l = omega arith
    fill_small (Right true) x l = omega arith
    fill_small (Right false) x l = omega arith

    top : fill_of s (v.at (r + (m + q - 1))) < 256
    top = fill_small s (v.at (r + (m + q - 1))) (h (r + (m + q - 1)) (omega (arith, two)))

    by_place : (s : Direction) → Moves s r m q v u → (i : ℕ) → i < m + q → r + i ≡ j → u.at j < 256
    by_place Left g i l at =
        ⊎_elim
        (λ (low : i < q). let f = g.filled i low in rw (sym at, f) (omega arith))
        (λ (up : q ≤ i).
        let e : r + q + (i - q) ≡ j = omega (arith, at, up) in
        let f = g.moved (i - q) (omega arith) in
        subst (λ k. u.at k < 256) e (rw f (h (r + (i - q)) (omega (arith, two))))) (cases_lt i q)
    by_place (Right signed) g i l at =
        ⊎_elim
        (λ (low : i < m). let f = g.moved i low in rw (sym at, f) (h (r + q + i) (omega (arith, two))))
        (λ (up : m ≤ i).
        let e : r + m + (i - m) ≡ j = omega (arith, at, up) in
        let f = g.filled (i - m) (omega arith) in
        subst (λ k. u.at k < 256) e (rw f (fill_small (Right signed) (v.at (r + (m + q - 1))) (h (r + (m + q - 1)) (omega (arith, two))))))
        (cases_lt i m)

bytes_lead : (s : Direction) (e : Env) (r w q k pc end : ℕ) (v : View) → 2 ≤ r → Outside r (suc w + q) 30 → 1 ≤ q → k < 8
    → HoldsNumbers v → HasAt e (moved_code s r (suc w + q) q ++ bits_code s (InRegisters (first_moved s r q)) (suc w) k) pc end
    → Leads e (4 + (8 * q + k) * (2 + 4 * (suc w + q))) pc v end r (suc w + q)
    (shifted_by s (suc w + q) (value v.at r (suc w + q)) (8 * q + k))
bytes_lead s e r w q k pc end v two far some small h stands =
    let m = suc w in
    let n = m + q in
    let code = moved_code s r n q in
    let first = first_moved s r q in
    let parts = has_parts e code (bits_code s (InRegisters first) m k) pc end stands in
    let v1 = block e code v in
    let top : v.at (r + (n - 1)) < 256 = h (r + (n - 1)) (omega (arith, two)) in
    let g = bytes_move s e r m q v two top in
    let h1 = moved_numbers s r m q v v1 two (omega arith) h g in
    let a = first_within s in
    let two1 : 2 ≤ first = omega (arith, two, a.0) in
    let there : StandsFrom e (InRegisters first) m first Own = record { at = λ i l. refl; kind = λ i l. refl; clear = two1 } in
    let beside : Outside first m 30 = λ l. (let z = far (omega (arith, l, a.0)) in omega (arith, z, a.1)) in
    let t = bits_lead s e (InRegisters first) w first k parts.0 end v1 there beside h1 (omega (arith, small)) parts.2 in
    let moved : value v1.at first m ≡ value v.at (moved_from s r q) m = value_moved v1.at v.at first (moved_from s r q) m g.moved in
    let z = value t.last.at first m in
    let z_is : z ≡ shifted_by s m (value v.at (moved_from s r q) m) k = t.number_is ∙ ap (λ i. shifted_by s m i k) moved in
    let f = value t.last.at (first_filled s r m) q in
    let kept : (j : ℕ) → j < q → t.last.at (first_filled s r m + j) ≡ fill_of s (v.at (r + (n - 1))) =
    λ j l. t.same (first_filled s r m + j) (beyond s j).0 (beyond s j).1 (not_work s j l) (apart s j l) ∙ g.filled j l in
    let whole = shifted_whole e r w q two v h s k z f z_is
    (λ o. zeros t.last.at (first_filled s r m) q (λ j l. kept j l ∙ o))
    (λ o. ones t.last.at (first_filled s r m) q (λ j l. kept j l ∙ o)) in
    let take = moved_steps s r n q in
    let most = t.at_most in
    record {
      steps = code_steps code + t.steps;
      at_most = bound q k m (code_steps code) t.steps (omega (arith, take)) most some;
      last = t.last;
      goes = goes_on_to e (code_steps code) t.steps pc parts.0 end v v1 t.last
          (block_goes e code pc parts.0 v (moved_straight s r n q) parts.1) t.goes;
      number_is = together s r m q t.last.at ∙ whole;
      numbers = t.numbers;
      same = λ i b c d o. t.same i b c d (λ l. (let z = o (omega (arith, l, a.0)) in omega (arith, z, a.1))) ∙ g.same i b o;
      inputs = t.inputs ∙ g.inputs;
      safe = t.safe ∙ g.safe;
      seen = t.seen ∙ g.seen;
    }
  where
    first_within : (s : Direction) → (r ≤ first_moved s r q) × (first_moved s r q + suc w ≤ r + (suc w + q))
    first_within Left = (omega arith, omega arith)
    first_within (Right signed) = (omega arith, omega arith)

    beyond : (s : Direction) (j : ℕ) → (first_filled s r (suc w) + j ≢ 0) × (first_filled s r (suc w) + j ≢ 1)
    beyond Left j = (λ x. absurd (omega (arith, x, two)), λ x. absurd (omega (arith, x, two)))
    beyond (Right signed) j = (λ x. absurd (omega (arith, x, two)), λ x. absurd (omega (arith, x, two)))

    not_work : (s : Direction) (j : ℕ) → j < q → first_filled s r (suc w) + j ≢ 30
    not_work Left j l x = let z = far (omega (arith, x)) in absurd (omega (arith, x, l, z))
    not_work (Right signed) j l x = let z = far (omega (arith, x)) in absurd (omega (arith, x, l, z))

    apart : (s : Direction) (j : ℕ) → j < q → Outside (first_moved s r q) (suc w) (first_filled s r (suc w) + j)
    apart Left j l z = absurd (omega (arith, l, z))
    apart (Right signed) j l z = omega arith

    bound : (q k m c t : ℕ) → c ≤ 3 + (m + q) → t ≤ 4 + k * (2 + 4 * m) → 1 ≤ q → c + t ≤ 4 + (8 * q + k) * (2 + 4 * (m + q))
    bound q k m c t x y some =
        let u : k * (2 + 4 * m) ≤ k * (2 + 4 * (m + q)) = mul-le k (2 + 4 * m) k (2 + 4 * (m + q)) (omega arith) (omega arith) in
        let z : 8 * (2 + 4 * (m + q)) ≤ 8 * q * (2 + 4 * (m + q)) =
        mul-le 8 (2 + 4 * (m + q)) (8 * q) (2 + 4 * (m + q)) (omega (arith, some)) (omega arith) in
        omega (arith, x, y, u, z)

-- ---- by whole bytes and seven bits

against_straight : (s : Direction) (r q m : ℕ) → all_straight (against_code s r q m) ≡ true
against_straight Left r q m = turn_straight (Right false) (InRegisters r) m
against_straight (Right signed) r q m = turn_straight Left (InRegisters (r + q)) m

against_steps : (s : Direction) (r q m : ℕ) → code_steps (against_code s r q m) ≤ 4 * m
against_steps Left r q m = let t = turn_takes (Right false) (InRegisters r) m in omega (arith, t)
against_steps (Right signed) r q m = let t = turn_takes Left (InRegisters (r + q)) m in omega (arith, t)

against_words : (s : Direction) (r q m : ℕ) → code_words (against_code s r q m) ≡ 1 * m
against_words Left r q m = turn_has_words (Right false) (InRegisters r) m
against_words (Right signed) r q m = turn_has_words Left (InRegisters (r + q)) m

-- a byte that moves, or is filled, has one word
record IsOne (code : List AsmItem) : Type 0 where
  straight : all_straight code ≡ true
  steps : code_steps code ≡ 1
  words : code_words code ≡ 1

one_of : (b : Bool) (d t : ℕ) → IsOne (if b then Plain (Mov d t) ∷ [] else Plain (Eor d d) ∷ [])
one_of true d t = record { straight = refl; steps = refl; words = refl }
one_of false d t = record { straight = refl; steps = refl; words = refl }

carried_one : (s : Direction) (r n q i : ℕ) → IsOne (carried_byte s r n q i)
carried_one Left r n q i = one_of (nat_le q (n - 1 - i)) (r + (n - 1 - i)) (r + (n - 1 - i - q))
carried_one (Right false) r n q i = one_of (nat_lt (q + i) n) (r + i) (r + (q + i))
carried_one (Right true) r n q i = by (nat_lt (q + i) n)
  where
    by : (b : Bool) → IsOne (if b then Plain (Mov (r + i) (r + (q + i))) ∷ [] else Plain (Sbc (r + i) (r + i)) ∷ [])
    by true = record { straight = refl; steps = refl; words = refl }
    by false = record { straight = refl; steps = refl; words = refl }

record IsFew (code : List AsmItem) : Type 0 where
  straight : all_straight code ≡ true
  steps : code_steps code ≤ 1
  words : code_words code ≤ 1

carry_few : (s : Direction) (r q m : ℕ) → IsFew (carry_code s r q m)
carry_few Left r q m = record { straight = refl; steps = omega arith; words = omega arith }
carry_few (Right true) r q m = record { straight = refl; steps = omega arith; words = omega arith }
carry_few (Right false) r q m = record { straight = refl; steps = omega arith; words = omega arith }

carried_lead : (s : Direction) (e : Env) (r w q pc end : ℕ) (v : View) → 2 ≤ r → HoldsNumbers v
    → HasAt e (against_code s r q (suc w) ++ (chain (carried_byte s r (suc w + q) (suc q)) (suc w + q) ++ carry_code s r q (suc w))) pc end
    → Leads e (4 + (8 * q + 7) * (2 + 4 * (suc w + q))) pc v end r (suc w + q)
    (shifted_by s (suc w + q) (value v.at r (suc w + q)) (8 * q + 7))
carried_lead s e r w q pc end v two h stands =
    let m = suc w in
    let n = m + q in
    let first = against_code s r q m in
    let bytes = chain (carried_byte s r n (suc q)) n in
    let last = carry_code s r q m in
    let code = first ++ (bytes ++ last) in
    let straight = straight-append first (bytes ++ last) (against_straight s r q m)
    (straight-append bytes last (chain_straight (carried_byte s r n (suc q)) n (λ i. (carried_one s r n (suc q) i).straight))
    (carry_few s r q m).straight) in
    let u = block e last (block e bytes (block e first v)) in
    let is : block e code v ≡ u = block-append e first (bytes ++ last) v ∙ block-append e bytes last (block e first v) in
    let g = seven s e r w q v two h in
    let f = value u.at (first_filled s r m) q in
    let whole = shifted_whole e r w q two v h s 7 (value u.at (first_moved s r q) m) f g.number_is
    (λ o. zeros u.at (first_filled s r m) q (λ j l. g.filled j l ∙ o))
    (λ o. ones u.at (first_filled s r m) q (λ j l. g.filled j l ∙ o)) in
    let take1 = against_steps s r q m in
    let take2 = steps-chain (carried_byte s r n (suc q)) n 1 (λ i. (carried_one s r n (suc q) i).steps) in
    let take3 = (carry_few s r q m).steps in
    let take : code_steps code ≤ 4 * m + n + 1 = omega (
      arith,
      steps-append first (bytes ++ last),
      steps-append bytes last,
      take1,
      take2,
      take3,
    ) in
    record {
      steps = code_steps code;
      at_most = bound q m (code_steps code) take;
      last = u;
      goes = subst (λ i. Goes e (code_steps code) pc v end i) is (block_goes e code pc end v straight stands);
      number_is = together s r m q u.at ∙ whole;
      numbers = g.numbers;
      same = λ i b c d o. g.same i b c o;
      inputs = g.inputs;
      safe = g.safe;
      seen = g.seen;
    }
  where
    bound : (q m c : ℕ) → c ≤ 4 * m + (m + q) + 1 → c ≤ 4 + (8 * q + 7) * (2 + 4 * (m + q))
    bound q m c x =
        let z : 7 * (2 + 4 * (m + q)) ≤ (8 * q + 7) * (2 + 4 * (m + q)) =
        mul-le 7 (2 + 4 * (m + q)) (8 * q + 7) (2 + 4 * (m + q)) (omega arith) (omega arith) in
        omega (arith, x, z)

pub counted_shifts_are_right : CountedShiftsAreRight
counted_shifts_are_right s e (InMemory o j) n a k pc end v st far h l stands = bits_lead s e (InMemory o j) n a k pc end v st far h l stands
counted_shifts_are_right s e (InRegisters r) n a k pc end v st far h l stands = by_carry (takes_carry (suc n) k) refl stands
  where
    same : r ≡ a
    same = let x = st.at 0 (omega arith) in omega (arith, x)

    two : 2 ≤ r
    two = let c = st.clear in let x = same in omega (arith, c, x)

    ltb_true : (a b : ℕ) → nat_lt a b ≡ true → a < b
    ltb_true a b h = grind (arith, nat_tests)

    by_bytes : (b : Bool) → moves_bytes (suc n) k ≡ b
        → HasAt e (if b then bytes_code s r (suc n) (k / 8) (k % 8) else bits_code s (InRegisters r) (suc n) k) pc end
        → Leads e (4 + k * (2 + 4 * suc n)) pc v end a (suc n) (shifted_by s (suc n) (value v.at a (suc n)) k)
    by_bytes false t stands = bits_lead s e (InRegisters r) n a k pc end v st far h l stands
    by_bytes true t stands =
        let parts = and_parts (nat_le 8 k) (nat_lt (k / 8) (suc n)) t in
        let eight : 8 ≤ k = leb-true 8 k parts.0 in
        let few : k / 8 < suc n = ltb_true (k / 8) (suc n) parts.1 in
        let w = n - k / 8 in
        let m : suc n - k / 8 ≡ suc w = omega (arith, few) in
        let all : suc n ≡ suc w + k / 8 = omega (arith, few) in
        let bits : k ≡ 8 * (k / 8) + k % 8 = omega arith in
        let stand : HasAt e (moved_code s r (suc w + k / 8) (k / 8) ++ bits_code s (InRegisters (first_moved s r (k / 8))) (suc w) (k % 8)) pc end =
        subst (λ i. HasAt e (moved_code s r i (k / 8) ++ bits_code s (InRegisters (first_moved s r (k / 8))) (suc w) (k % 8)) pc end) all
        (subst (λ i. HasAt e (moved_code s r (suc n) (k / 8) ++ bits_code s (InRegisters (first_moved s r (k / 8))) i (k % 8)) pc end) m stands) in
        let beside : Outside r (suc w + k / 8) 30 = subst (λ i. Outside r i 30) all (subst (λ i. Outside i (suc n) 30) (sym same) far) in
        let g = bytes_lead s e r w (k / 8) (k % 8) pc end v two beside (omega (arith, eight)) (omega arith) h stand in
        subst (λ i. Leads e (4 + k * (2 + 4 * suc n)) pc v end i (suc n) (shifted_by s (suc n) (value v.at i (suc n)) k)) same
        (subst (λ i. Leads e (4 + i * (2 + 4 * suc n)) pc v end r (suc n) (shifted_by s (suc n) (value v.at r (suc n)) i)) (sym bits)
        (subst (λ i. Leads e (4 + (8 * (k / 8) + k % 8) * (2 + 4 * i)) pc v end r i (shifted_by s i (value v.at r i) (8 * (k / 8) + k % 8)))
        (sym all) g))

    by_carry : (b : Bool) → takes_carry (suc n) k ≡ b
        → HasAt e (if b then carried_code s r (suc n) (k / 8)
        else if moves_bytes (suc n) k then bytes_code s r (suc n) (k / 8) (k % 8)
        else bits_code s (InRegisters r) (suc n) k) pc end
        → Leads e (4 + k * (2 + 4 * suc n)) pc v end a (suc n) (shifted_by s (suc n) (value v.at a (suc n)) k)
    by_carry false t stands = by_bytes (moves_bytes (suc n) k) refl stands
    by_carry true t stands =
        let q = k / 8 in
        let parts = and_parts (nat_lt q (suc n)) (k % 8 == 7) t in
        let few : q < suc n = ltb_true q (suc n) parts.0 in
        let seven_left : k % 8 ≡ 7 = eqb-true (k % 8) 7 parts.1 in
        let w = n - q in
        let m : suc n - q ≡ suc w = omega (arith, few) in
        let all : suc n ≡ suc w + q = omega (arith, few) in
        let bits : 8 * q + 7 ≡ k = omega (arith, seven_left) in
        let stand : HasAt e (against_code s r q (suc w) ++ (chain (carried_byte s r (suc n) (suc q)) (suc n) ++ carry_code s r q (suc w))) pc end =
        subst (λ i. HasAt e (against_code s r q i ++ (chain (carried_byte s r (suc n) (suc q)) (suc n) ++ carry_code s r q i)) pc end) m stands in
        let g = carried_lead s e r w q pc end v two h
        (subst (λ i. HasAt e (against_code s r q (suc w) ++ (chain (carried_byte s r i (suc q)) i ++ carry_code s r q (suc w))) pc end) all stand) in
        subst (λ i. Leads e (4 + k * (2 + 4 * suc n)) pc v end i (suc n) (shifted_by s (suc n) (value v.at i (suc n)) k)) same
        (subst (λ i. Leads e (4 + i * (2 + 4 * suc n)) pc v end r (suc n) (shifted_by s (suc n) (value v.at r (suc n)) i)) bits
        (subst (λ i. Leads e (4 + (8 * q + 7) * (2 + 4 * i)) pc v end r i (shifted_by s i (value v.at r i) (8 * q + 7))) (sym all) g))

-- ---- words

turns_have : (s : Direction) (p : Location) (n k : ℕ) → code_words (turns_code s p n k) ≡ k * turn_words s p n
turns_have s p n zero = omega arith
turns_have s p n (suc k) =
    let x = turns_have s p n k in
    let z = turn_has_words s p n in
    omega (arith, sum_by-append item_words (turns_code s p n k) (turn_code s p n), x, z)

bits_have : (s : Direction) (p : Location) (n k : ℕ) → code_words (bits_code s p n k) ≤ most_turn_words s p n
bits_have s p n k = by_words (nat_le (k * turn_words s p n) (most_turn_words s p n)) refl
  where
    loop_within : (s : Direction) (p : Location) → turn_words s p n + 4 ≤ most_turn_words s p n
    loop_within s (InRegisters r) = omega arith
    loop_within s (InMemory o j) = omega arith

    by_words : (x : Bool) → nat_le (k * turn_words s p n) (most_turn_words s p n) ≡ x
        → code_words (if x then turns_code s p n k else Plain (Ldi 30 k) ∷ shift_code s p n) ≤ most_turn_words s p n
    by_words true q =
        let l : k * turn_words s p n ≤ most_turn_words s p n = leb-true (k * turn_words s p n) (most_turn_words s p n) q in
        let w = turns_have s p n k in
        omega (arith, w, l)
    by_words false q =
        let w = shifts_have_words s p n in
        let both = sum_by-append item_words (Plain (Ldi 30 k) ∷ []) (shift_code s p n) in
        let l = loop_within s p in
        omega (arith, w, both, l)

-- of no bytes there are no turns
few_bits_have : (s : Direction) (p : Location) (n k : ℕ) → code_words (bits_code s p n k) ≤ 7 * n + 4
few_bits_have Left (InMemory o j) n k = let b = bits_have Left (InMemory o j) n k in omega (arith, b)
few_bits_have (Right signed) (InMemory o j) n k = let b = bits_have (Right signed) (InMemory o j) n k in omega (arith, b)
few_bits_have s (InRegisters r) (suc n) k = let b = bits_have s (InRegisters r) (suc n) k in omega (arith, b)
few_bits_have s (InRegisters r) zero k =
    let none : nat_le (k * 0) 8 ≡ true = le-leb (k * 0) 8 (omega arith) in
    let w = turns_have s (InRegisters r) zero k in
    rw none (omega (arith, w))

moved_have : (s : Direction) (r n q : ℕ) → code_words (moved_code s r n q) ≤ 3 + n
moved_have s r n q =
    let a = signs_have s in
    let b = chain_words (moved_byte s r n q) n 1 (one s) in
    omega (arith, sum_by-append item_words (sign_code s r n) (chain (moved_byte s r n q) n), a, b)
  where
    signs_have : (s : Direction) → code_words (sign_code s r n) ≤ 3
    signs_have Left = omega arith
    signs_have (Right true) = omega arith
    signs_have (Right false) = omega arith

    filled : (s : Direction) (d : ℕ) → code_words (filled_byte s d) ≡ 1
    filled Left d = refl
    filled (Right true) d = refl
    filled (Right false) d = refl

    by : (b : Bool) (s : Direction) (d t : ℕ) → code_words (if b then Plain (Mov d t) ∷ [] else filled_byte s d) ≡ 1
    by true s d t = refl
    by false s d t = filled s d

    one : (s : Direction) (i : ℕ) → code_words (moved_byte s r n q i) ≡ 1
    one Left i = by (nat_le q (n - 1 - i)) Left (r + (n - 1 - i)) (r + (n - 1 - i - q))
    one (Right signed) i = by (nat_lt (q + i) n) (Right signed) (r + i) (r + (q + i))

carried_have : (s : Direction) (r n q : ℕ) → code_words (carried_code s r n q) ≤ 2 * n + 1
carried_have s r n q =
    let first = against_code s r q (n - q) in
    let bytes = chain (carried_byte s r n (suc q)) n in
    let last = carry_code s r q (n - q) in
    let a = against_words s r q (n - q) in
    let b = chain_words (carried_byte s r n (suc q)) n 1 (λ i. (carried_one s r n (suc q) i).words) in
    let c = (carry_few s r q (n - q)).words in
    omega (arith, sum_by-append item_words first (bytes ++ last), sum_by-append item_words bytes last, a, b, c)

pub counted_shifts_have_words : CountedShiftsHaveWords
counted_shifts_have_words s (InMemory o j) n k = let b = few_bits_have s (InMemory o j) n k in omega (arith, b)
counted_shifts_have_words s (InRegisters r) n k = by_carry (takes_carry n k)
  where
    by_bytes : (b : Bool)
        → code_words (if b then bytes_code s r n (k / 8) (k % 8) else bits_code s (InRegisters r) n k) ≤ 7 * n + 7
    by_bytes false = let b = few_bits_have s (InRegisters r) n k in omega (arith, b)
    by_bytes true =
        let first = first_moved s r (k / 8) in
        let a = moved_have s r n (k / 8) in
        let b = bits_have s (InRegisters first) (n - k / 8) (k % 8) in
        let c = few_bits_have s (InRegisters first) (n - k / 8) (k % 8) in
        omega (arith, sum_by-append item_words (moved_code s r n (k / 8)) (bits_code s (InRegisters first) (n - k / 8) (k % 8)), a, b, c)

    by_carry : (b : Bool) → code_words (if b then carried_code s r n (k / 8)
        else if moves_bytes n k then bytes_code s r n (k / 8) (k % 8)
        else bits_code s (InRegisters r) n k) ≤ 7 * n + 7
    by_carry true = let a = carried_have s r n (k / 8) in omega (arith, a)
    by_carry false = by_bytes (moves_bytes n k)
