-- Shifts by whole bytes and seven bits: one bit the other way, and a byte more.
use Rattle.std.proofs.Common.{◌≡◌, ◌≢◌, ℕ, zero, suc, ◌+◌, ◌-◌, ◌*◌, ◌/◌, ◌%◌, ◌^◌, ◌<◌, ◌≤◌, ⊎_elim, Bool, true, false, refl, sym, ap}
use Rattle.std.proofs.Common.{◌∙◌, subst, arith, [], ◌∷◌}
use Rattle.std.specs.Prelude.{nat_le, nat_lt, if◌then◌else◌}
use Rattle.std.specs.Int.{from_bool}
use Rattle.std.proofs.lemmas.Bool.{cases_eq, cases_lt, le-leb}
use Rattle.std.proofs.lemmas.Bool.Decides.{nat_tests}
use Rattle.std.proofs.lemmas.Nat.{mul-le, mod-mul-add}
use native.Mathlib.Nat.{pow-suc}
use Rattle.ec_isa.specs.declared.instructions.Instr.TheVariants.{Mov, Eor, Adc, Sbc}
use Rattle.ec_avr.specs.Flags.{byte_sum, byte_difference, shifted}
use Rattle.ec_asm.specs.declared.items.AsmItem.TheVariants.{Plain}
use Rattle.ec_asm.specs.declared.pieces.Location.TheVariants.{InRegisters}
use Rattle.ec_asm.specs.View.{View}
use Rattle.ec_asm.specs.Change.{Env, Own}
use Rattle.ec_asm.specs.Items.{block, chain}
use Rattle.ec_asm.specs.Pieces.{StandsFrom, Outside, Keeps, value}
use Rattle.ec_asm.specs.PieceLaws.{HoldsNumbers}
use Rattle.ec_asm.proofs.Bytes.{put_here, put_other}
use Rattle.ec_asm.proofs.Halved.{halves_are_right}
use Rattle.ec_asm.proofs.Hoare.{chain_holds}
use Rattle.ec_asm.proofs.Numbers.{value_below}
use Rattle.ec_asm.proofs.Results.{sums_are_right}
use Rattle.ec_select_shifts.specs.declared.shifts.Direction.{Direction}
use Rattle.ec_select_shifts.specs.declared.shifts.Direction.TheVariants.{Left, Right}
use Rattle.ec_select_shifts.specs.Shifts.{shifted_by, first_moved, against_code, carried_byte, carry_code}
use Rattle.ec_select_shifts.proofs.Halves.{halves_are_bytes}
use Rattle.ec_select_shifts.proofs.Moved.{Puts, MovesTo, moves, next, start, bytes_move, fill_of, moved_from, first_filled}

-- ---- numbers

-- the lowest byte, and those above
lowest : (f : ℕ → ℕ) (a n : ℕ) → value f a (suc n) ≡ f a + 256 * value f (suc a) n
lowest f a zero = let e : a + 0 ≡ a = omega arith in rw e (omega arith)
lowest f a (suc n) =
    let h = lowest f a n in
    let e : a + suc n ≡ suc a + n = omega arith in
    let p = pow-suc 256 n in
    rw (h, e, p) (omega arith)

pub value_moved : (f g : ℕ → ℕ) (a b n : ℕ) → ((j : ℕ) → j < n → f (a + j) ≡ g (b + j)) → value f a n ≡ value g b n
value_moved f g a b zero h = refl
value_moved f g a b (suc n) h =
    let x = value_moved f g a b n (λ j l. h j (omega arith)) in
    let y = h n (omega arith) in
    rw (x, y) refl

-- what is carried out of twice a number
carry_small : (c P V X : ℕ) → V + c * P ≡ X + X → X < P → c ≤ 1
carry_small c P V X h l =
    ⊎_elim (λ (few : c < 2). omega (arith, few))
    (λ (more : 2 ≤ c). let m : 2 * P ≤ c * P = mul-le 2 P c P more (omega arith) in absurd (omega (arith, m, h, l)))
    (cases_lt c 2)

-- to the left: half of it, and the bit that was lost
halved_up : (X h t c p : ℕ) → X / 2 ≡ h + t * p → c ≡ X % 2 → h < p → 128 * c + 256 * h ≡ X * 128 % (p * 256)
halved_up X h t c p half bit low =
    let whole : X * 128 ≡ t * (p * 256) + (128 * c + 256 * h) = omega (arith, half, bit) in
    sym (ap (λ i. i % (p * 256)) whole ∙ mod-mul-add t (p * 256) (128 * c + 256 * h) (omega (arith, low, bit)))

-- to the right: its double without the lowest byte, and what was carried
doubled_down : (X b E c p : ℕ) → b + 256 * E + c * (p * 256) ≡ X + X → b < 256 → E + c * p ≡ X / 128
doubled_down X b E c p h l = omega (arith, h, l)

doubled_negative : (X b E p : ℕ) → b + 256 * E + 1 * (p * 256) ≡ X + X → b < 256 → E < p → X < p * 256
    → E + 255 * p ≡ p * 256 - 1 - (p * 256 - 1 - X) / 128
doubled_negative X b E p h l m k = omega (arith, h, l, m, k)

-- ---- the bit that leaves the number

record Against (s : Direction) (a w : ℕ) (v u : View) : Type 0 where
  bit : u.flags.c ≤ 1
  numbers : HoldsNumbers u
  keeps : Keeps v u a (suc w)

record Halved (a w : ℕ) (v u : View) : Type 0 where
  number_is : value u.at a (suc w) ≡ value v.at a (suc w) / 2
  carry : u.flags.c ≡ value v.at a (suc w) % 2
  kept : Against Left a w v u

record Doubled (signed : Bool) (a w : ℕ) (v u : View) : Type 0 where
  sum : value u.at a (suc w) + u.flags.c * 256 ^ suc w ≡ value v.at a (suc w) + value v.at a (suc w)
  kept : Against (Right signed) a w v u

in_registers : (e : Env) (a n : ℕ) → 2 ≤ a → StandsFrom e (InRegisters a) n a Own
in_registers e a n two = record { at = λ i l. refl; kind = λ i l. refl; clear = two }

halved : (e : Env) (a w : ℕ) (v : View) → 2 ≤ a → HoldsNumbers v → (q : ℕ) → Halved a w v (block e (against_code Left a q (suc w)) v)
halved e a w v two h q =
    let st = in_registers e a (suc w) two in
    let r = halves_are_right false e (InRegisters a) w a v st h in
    let c = r.1 in
    record {
      number_is = r.0 ∙ (let z : value v.at a (suc w) + 0 * 256 ^ suc w ≡ value v.at a (suc w) = omega arith in ap (λ i. i / 2) z);
      carry = c;
      kept = record {
        bit = omega (arith, c);
        numbers = halves_are_bytes false e (InRegisters a) (suc w) a v st h;
        keeps = r.2;
      };
    }

doubled : (signed : Bool) (e : Env) (r w q : ℕ) (v : View) → 2 ≤ r → HoldsNumbers v
    → Doubled signed (r + q) w v (block e (against_code (Right signed) r q (suc w)) v)
doubled signed e r w q v two h =
    let a = r + q in
    let st = in_registers e a (suc w) (omega (arith, two)) in
    let s = (sums_are_right e (InRegisters a) (InRegisters a) (suc w) a a v st st (λ l. absurd (omega (arith, l))) h).0 in
    let u = block e (against_code (Right signed) r q (suc w)) v in
    let below : value v.at a (suc w) < 256 ^ suc w = value_below v.at a (suc w) (λ j l. h (a + j) (omega (arith, two))) in
    record {
      sum = s.sum;
      kept = record {
        bit = carry_small u.flags.c (256 ^ suc w) (value u.at a (suc w)) (value v.at a (suc w)) s.sum below;
        numbers = s.bytes;
        keeps = s.keeps;
      };
    }

-- ---- bytes that move while the carry stays

-- what a byte has into which none moves
abbrev spread_of : Direction → (c : ℕ) → ℕ
spread_of (Right true) c = 255 * c
spread_of (Right false) c = 0
spread_of Left c = 0

record Carries (s : Direction) (r m q : ℕ) (v w : View) : Type 0 where
  moved : (j : ℕ) → j < m → w.at (first_moved s r q + j) ≡ v.at (moved_from s r q + j)
  filled : (j : ℕ) → j < q → w.at (first_filled s r m + j) ≡ spread_of s v.flags.c
  carry : w.flags.c ≡ v.flags.c
  same : (k : ℕ) → k ≢ 0 → Outside r (m + q) k → w.at k ≡ v.at k
  inputs : w.inputs ≡ v.inputs
  safe : w.safe ≡ v.safe
  seen : w.seen ≡ v.seen

-- MOV and EOR keep the carry
kept_carry : (e : Env) (b : Bool) (d t : ℕ) (v : View)
    → (block e (if b then Plain (Mov d t) ∷ [] else Plain (Eor d d) ∷ []) v).flags.c ≡ v.flags.c
kept_carry e true d t v = refl
kept_carry e false d t v = refl

-- SBC of a register with itself
spread_byte : (x c : ℕ) → c ≤ 1 → byte_difference x x c ≡ 255 * c
spread_byte x zero l = omega arith
spread_byte x (suc zero) l = omega arith
spread_byte x (suc (suc c)) l = absurd (omega (arith, l))

spread_carry : (x c : ℕ) → c ≤ 1 → from_bool (nat_lt x (x + c)) ≡ c
spread_carry x zero l = grind (arith, nat_tests)
spread_carry x (suc zero) l = grind (arith, nat_tests)
spread_carry x (suc (suc c)) l = absurd (omega (arith, l))

record CarriesTo (v0 : View) (r i : ℕ) (byte : ℕ → ℕ) (v : View) : Type 0 where
  moves : MovesTo v0 r 0 i byte v
  carry : v.flags.c ≡ v0.flags.c

abbrev carried : View → (r n q j : ℕ) → ℕ
carried v r n q j = if nat_lt (q + j) n then v.at (r + (q + j)) else 255 * v.flags.c

carry_step : (e : Env) (r n q : ℕ) (v0 : View) → 2 ≤ r → v0.flags.c ≤ 1 → (i : ℕ) → i < n → (v : View)
    → CarriesTo v0 r i (carried v0 r n q) v
    → CarriesTo v0 r (suc i) (carried v0 r n q) (block e (carried_byte (Right true) r n q i) v)
carry_step e r n q v0 two bit i l v h = by_place (nat_lt (q + i) n) refl
  where
    put : (u : View) → Puts v u (r + i) (carried v0 r n q i) → MovesTo v0 r 0 (suc i) (carried v0 r n q) u
    put u p =
        next v0 v u r 0 0 i (carried v0 r n q) i two (omega arith) (omega arith)
        (λ k x y z. (omega arith, omega (arith, y, z))) (omega arith) (omega arith) h.moves p

    by_place : (b : Bool) → nat_lt (q + i) n ≡ b
        → CarriesTo v0 r (suc i) (carried v0 r n q)
        (block e (if b then Plain (Mov (r + i) (r + (q + i))) ∷ [] else Plain (Sbc (r + i) (r + i)) ∷ []) v)
    by_place true t =
        let u = block e (Plain (Mov (r + i) (r + (q + i))) ∷ []) v in
        let old : v.at (r + (q + i)) ≡ carried v0 r n q i =
        h.moves.rest (r + (q + i)) (omega (arith, two)) (λ x. omega arith) ∙ rw t refl in
        record {
          moves = put u (subst (λ x. Puts v u (r + i) x) old (moves e (r + i) (r + (q + i)) v));
          carry = h.carry;
        }
    by_place false t =
        let u = block e (Plain (Sbc (r + i) (r + i)) ∷ []) v in
        let few : v.flags.c ≤ 1 = (let c = h.carry in omega (arith, c, bit)) in
        let x = v.at (r + i) in
        let is : byte_difference x x v.flags.c ≡ carried v0 r n q i =
        spread_byte x v.flags.c few ∙ ap (λ c. 255 * c) h.carry ∙ rw t refl in
        record {
          moves = put u (record {
            here = put_here v.at (r + i) (byte_difference x x v.flags.c) (r + i) refl ∙ is;
            same = λ k z. put_other v.at (r + i) (byte_difference x x v.flags.c) k z;
            inputs = refl;
            safe = refl;
            seen = refl;
          });
          carry = spread_carry x v.flags.c few ∙ h.carry;
        }

carries : (s : Direction) (e : Env) (r m q : ℕ) (v : View) → 2 ≤ r → v.at (r + (m + q - 1)) < 256 → v.flags.c ≤ 1
    → Carries s r m q v (block e (chain (carried_byte s r (m + q) q) (m + q)) v)
carries Left e r m q v two top bit =
    let n = m + q in
    let g = bytes_move Left e r m q v two top in
    record {
      moved = g.moved;
      filled = g.filled;
      carry = chain_holds e (carried_byte Left r n q) (λ i u. u.flags.c ≡ v.flags.c) n
          (λ i l u h. kept_carry e (nat_le q (n - 1 - i)) (r + (n - 1 - i)) (r + (n - 1 - i - q)) u ∙ h) v refl;
      same = g.same;
      inputs = g.inputs;
      safe = g.safe;
      seen = g.seen;
    }
carries (Right false) e r m q v two top bit =
    let n = m + q in
    let g = bytes_move (Right false) e r m q v two top in
    record {
      moved = g.moved;
      filled = g.filled;
      carry = chain_holds e (carried_byte (Right false) r n q) (λ i u. u.flags.c ≡ v.flags.c) n
          (λ i l u h. kept_carry e (nat_lt (q + i) n) (r + i) (r + (q + i)) u ∙ h) v refl;
      same = g.same;
      inputs = g.inputs;
      safe = g.safe;
      seen = g.seen;
    }
carries (Right true) e r m q v two top bit =
    let n = m + q in
    let h = chain_holds e (carried_byte (Right true) r n q) (λ i u. CarriesTo v r i (carried v r n q) u) n
    (λ i l u g. carry_step e r n q v two bit i l u g) v (record { moves = start v r 0 (carried v r n q); carry = refl }) in
    let g = h.moves in
    record {
      moved = λ j k.
          let down : nat_lt (q + j) n ≡ true = yes (q + j) (omega (arith, k)) in
          let at : r + (q + j) ≡ r + q + j = omega arith in
          g.there j (omega arith) (omega (arith, k)) ∙ rw down (ap (λ i. v.at i) at);
      filled = λ j k.
          let past : nat_lt (q + (m + j)) n ≡ false = no (q + (m + j)) (omega arith) in
          let at : r + m + j ≡ r + (m + j) = omega arith in
          rw at (g.there (m + j) (omega arith) (omega (arith, k)) ∙ rw past refl);
      carry = h.carry;
      same = λ k z o. g.rest k z (λ x. let y = o (omega (arith, x)) in omega (arith, y));
      inputs = g.inputs;
      safe = g.safe;
      seen = g.seen;
    }
  where
    yes : (j : ℕ) → j < m + q → nat_lt j (m + q) ≡ true
    yes j x = grind (arith, nat_tests)

    no : (j : ℕ) → m + q ≤ j → nat_lt j (m + q) ≡ false
    no j x = grind (arith, nat_tests)

-- ---- the byte beside those that have moved

abbrev beside_of : Direction → (r w q : ℕ) → ℕ
beside_of Left r w q = r + q
beside_of (Right signed) r w q = r + w

abbrev beside_byte : Direction → (c : ℕ) → ℕ
beside_byte Left c = 128 * c
beside_byte (Right false) c = c
beside_byte (Right true) c = 255 * c

carry_comes : (s : Direction) (e : Env) (r w q c : ℕ) (v : View) → v.at (beside_of s r w q) ≡ spread_of s c → v.flags.c ≡ c → c ≤ 1
    → Puts v (block e (carry_code s r q (suc w)) v) (beside_of s r w q) (beside_byte s c)
carry_comes Left e r w q c v there carry bit =
    let x = shifted (v.at (r + q)) v.flags.c in
    record {
      here = put_here v.at (r + q) x (r + q) refl ∙ rw (there, carry) (omega arith);
      same = λ k z. put_other v.at (r + q) x k z;
      inputs = refl;
      safe = refl;
      seen = refl;
    }
carry_comes (Right false) e r w q c v there carry bit =
    let x = byte_sum (v.at (r + w)) (v.at (r + w)) v.flags.c in
    let top : w ≡ suc w - 1 = omega arith in
    let put : Puts v (block e (Plain (Adc (r + w) (r + w)) ∷ []) v) (r + w) c = record {
      here = put_here v.at (r + w) x (r + w) refl ∙ rw (there, carry) (omega (arith, bit));
      same = λ k z. put_other v.at (r + w) x k z;
      inputs = refl;
      safe = refl;
      seen = refl;
    } in
    subst (λ i. Puts v (block e (Plain (Adc (r + i) (r + i)) ∷ []) v) (r + w) c) top put
carry_comes (Right true) e r w q c v there carry bit =
    record { here = there; same = λ k z. refl; inputs = refl; safe = refl; seen = refl }

record Ends (s : Direction) (r w q : ℕ) (v u : View) : Type 0 where
  moved : (j : ℕ) → j < w → u.at (first_moved s r (suc q) + j) ≡ v.at (moved_from s r (suc q) + j)
  beside : u.at (beside_of s r w q) ≡ beside_byte s v.flags.c
  filled : (j : ℕ) → j < q → u.at (first_filled s r (suc w) + j) ≡ spread_of s v.flags.c
  same : (k : ℕ) → k ≢ 0 → Outside r (suc w + q) k → u.at k ≡ v.at k
  inputs : u.inputs ≡ v.inputs
  safe : u.safe ≡ v.safe
  seen : u.seen ≡ v.seen

ends : (s : Direction) (e : Env) (r w q : ℕ) (v : View) → 2 ≤ r → HoldsNumbers v → v.flags.c ≤ 1
    → Ends s r w q v (block e (carry_code s r q (suc w)) (block e (chain (carried_byte s r (suc w + q) (suc q)) (suc w + q)) v))
ends s e r w q v two numbers bit =
    let n = suc w + q in
    let v2 = block e (chain (carried_byte s r n (suc q)) n) v in
    let same_n : w + suc q ≡ n = omega arith in
    let g0 = carries s e r w (suc q) v two (numbers (r + (w + suc q - 1)) (omega (arith, two))) bit in
    let g = subst (λ i. Carries s r w (suc q) v (block e (chain (carried_byte s r i (suc q)) i) v)) same_n g0 in
    let p = carry_comes s e r w q v.flags.c v2 (first_there s v2 g) g.carry bit in
    record {
      moved = λ j l. p.same (first_moved s r (suc q) + j) (not_beside s j l) ∙ g.moved j l;
      beside = p.here;
      filled = λ j l. p.same (first_filled s r (suc w) + j) (beside_not s j l) ∙ also_filled s v2 g j l;
      same = λ k z o. p.same k (outside s k o) ∙ g.same k z (λ l. let y = o l in omega (arith, y));
      inputs = p.inputs ∙ g.inputs;
      safe = p.safe ∙ g.safe;
      seen = p.seen ∙ g.seen;
    }
  where
    first_there : (s : Direction) (u : View) → Carries s r w (suc q) v u → u.at (beside_of s r w q) ≡ spread_of s v.flags.c
    first_there Left u g = g.filled q (omega arith)
    first_there (Right signed) u g = let at : r + w + 0 ≡ r + w = omega arith in ap (λ i. u.at i) (sym at) ∙ g.filled 0 (omega arith)

    also_filled : (s : Direction) (u : View) → Carries s r w (suc q) v u → (j : ℕ) → j < q
        → u.at (first_filled s r (suc w) + j) ≡ spread_of s v.flags.c
    also_filled Left u g j l = g.filled j (omega (arith, l))
    also_filled (Right signed) u g j l =
        let at : r + suc w + j ≡ r + w + suc j = omega arith in ap (λ i. u.at i) at ∙ g.filled (suc j) (omega (arith, l))

    not_beside : (s : Direction) (j : ℕ) → j < w → first_moved s r (suc q) + j ≢ beside_of s r w q
    not_beside Left j l x = absurd (omega (arith, x))
    not_beside (Right signed) j l x = absurd (omega (arith, x, l))

    beside_not : (s : Direction) (j : ℕ) → j < q → first_filled s r (suc w) + j ≢ beside_of s r w q
    beside_not Left j l x = absurd (omega (arith, x, l))
    beside_not (Right signed) j l x = absurd (omega (arith, x))

    outside : (s : Direction) (k : ℕ) → Outside r (suc w + q) k → k ≢ beside_of s r w q
    outside Left k o x = let y = o (omega (arith, x)) in absurd (omega (arith, x, y))
    outside (Right signed) k o x = let y = o (omega (arith, x)) in absurd (omega (arith, x, y))

-- all bytes are bytes still
row_numbers : (v u : View) (r n : ℕ) → 2 ≤ r → HoldsNumbers v → ((k : ℕ) → k ≢ 0 → Outside r n k → u.at k ≡ v.at k)
    → ((j : ℕ) → j < n → u.at (r + j) < 256) → HoldsNumbers u
row_numbers v u r n two h same held k l =
    let outside = λ (o : Outside r n k). (let z : u.at k < 256 = rw (same k (omega (arith, l)) o) (h k l) in z) in
    ⊎_elim (λ (below : k < r). outside (λ t. absurd (omega (arith, t, below))))
    (λ (above : r ≤ k).
    ⊎_elim (λ (inside : k < r + n). let at : r + (k - r) ≡ k = omega (arith, above) in
    subst (λ i. u.at i < 256) at (held (k - r) (omega (arith, above, inside)))) (λ (past : r + n ≤ k). outside (λ t. past)) (cases_lt k (r + n)))
    (cases_lt k r)

ends_numbers : (s : Direction) (r w q : ℕ) (v u : View) → 2 ≤ r → HoldsNumbers v → v.flags.c ≤ 1 → Ends s r w q v u → HoldsNumbers u
ends_numbers s r w q v u two h bit g = row_numbers v u r (suc w + q) two h g.same (by_place s g)
  where
    beside_small : (s : Direction) → beside_byte s v.flags.c < 256
    beside_small Left = omega (arith, bit)
    beside_small (Right true) = omega (arith, bit)
    beside_small (Right false) = omega (arith, bit)

    spread_small : (s : Direction) → spread_of s v.flags.c < 256
    spread_small Left = omega arith
    spread_small (Right true) = omega (arith, bit)
    spread_small (Right false) = omega arith

    by_place : (s : Direction) → Ends s r w q v u → (i : ℕ) → i < suc w + q → u.at (r + i) < 256
    by_place Left g i l =
        ⊎_elim (λ (low : i < q). rw (g.filled i low) (spread_small Left))
        (λ (up : q ≤ i).
        ⊎_elim (λ (same : i ≡ q). let b = g.beside in subst (λ k. u.at (r + k) < 256) (sym same) (rw b (beside_small Left)))
        (λ (other : i ≢ q).
        let at : r + suc q + (i - suc q) ≡ r + i = omega (arith, up, other) in
        let m = g.moved (i - suc q) (omega (arith, up, other, l)) in
        subst (λ k. u.at k < 256) at (rw m (h (r + (i - suc q)) (omega (arith, two))))) (cases_eq i q))
        (cases_lt i q)
    by_place (Right signed) g i l =
        ⊎_elim (λ (low : i < w). rw (g.moved i low) (h (r + suc q + i) (omega (arith, two))))
        (λ (up : w ≤ i).
        ⊎_elim (λ (same : i ≡ w). let b = g.beside in subst (λ k. u.at (r + k) < 256) (sym same) (rw b (beside_small (Right signed))))
        (λ (other : i ≢ w).
        let at : r + suc w + (i - suc w) ≡ r + i = omega (arith, up, other) in
        let f = g.filled (i - suc w) (omega (arith, up, other, l)) in
        subst (λ k. u.at k < 256) at (rw f (spread_small (Right signed)))) (cases_eq i w))
        (cases_lt i w)

-- ---- the number

-- with a sign, where c was carried
signed_number : (c b E p X : ℕ) → c ≤ 1 → b + 256 * E + c * (p * 256) ≡ X + X → b < 256 → E < p → X < p * 256
    → E + 255 * c * p ≡ (if nat_le (p * 256) (2 * X) then p * 256 - 1 - (p * 256 - 1 - X) / 128 else X / 128)
signed_number zero b E p X bit h l m k =
    let less : nat_le (p * 256) (2 * X) ≡ false = no (p * 256) (2 * X) (omega (arith, h, l, m)) in
    rw less (omega (arith, h, l))
  where
    no : (a b : ℕ) → b < a → nat_le a b ≡ false
    no a b h = grind (arith, nat_tests)
signed_number (suc zero) b E p X bit h l m k =
    let more : nat_le (p * 256) (2 * X) ≡ true = le-leb (p * 256) (2 * X) (omega (arith, h)) in
    rw more (doubled_negative X b E p h l m k)
signed_number (suc (suc c)) b E p X bit h l m k = absurd (omega (arith, bit))

-- the carry is the sign
top_carry : (c D p low top : ℕ) → c ≤ 1 → D < p * 256 → low < p → top < 256
    → D + c * (p * 256) ≡ low + top * p + (low + top * p) → 255 * c ≡ 255 * (top / 128)
top_carry c D p low top bit below l small h =
    ⊎_elim
    (λ (less : top < 128).
    let m : top * p ≤ 127 * p = mul-le top p 127 p (omega (arith, less)) (omega arith) in
    by_less c bit h m less)
    (λ (more : 128 ≤ top).
    let m : 128 * p ≤ top * p = mul-le 128 p top p more (omega arith) in
    by_more c bit h m more)
    (cases_lt top 128)
  where
    by_less : (c : ℕ) → c ≤ 1 → D + c * (p * 256) ≡ low + top * p + (low + top * p) → top * p ≤ 127 * p → top < 128
        → 255 * c ≡ 255 * (top / 128)
    by_less zero b h m less = omega (arith, less)
    by_less (suc zero) b h m less = absurd (omega (arith, h, m, l))
    by_less (suc (suc c)) b h m less = absurd (omega (arith, b))

    by_more : (c : ℕ) → c ≤ 1 → D + c * (p * 256) ≡ low + top * p + (low + top * p) → 128 * p ≤ top * p → 128 ≤ top
        → 255 * c ≡ 255 * (top / 128)
    by_more zero b h m more = absurd (omega (arith, h, m, below))
    by_more (suc zero) b h m more = omega (arith, more, small)
    by_more (suc (suc c)) b h m more = absurd (omega (arith, b))

-- those of q bytes that moved, and those beside them
pub record Seven (s : Direction) (r w q : ℕ) (v u : View) : Type 0 where
  pub number_is : value u.at (first_moved s r q) (suc w) ≡ shifted_by s (suc w) (value v.at (moved_from s r q) (suc w)) 7
  pub filled : (j : ℕ) → j < q → u.at (first_filled s r (suc w) + j) ≡ fill_of s (v.at (r + (suc w + q - 1)))
  pub numbers : HoldsNumbers u
  pub same : (k : ℕ) → k ≢ 0 → k ≢ 1 → Outside r (suc w + q) k → u.at k ≡ v.at k
  pub inputs : u.inputs ≡ v.inputs
  pub safe : u.safe ≡ v.safe
  pub seen : u.seen ≡ v.seen

-- the bytes of a number that is shifted to the right
module _ (r w q : ℕ) (v : View) (two : 2 ≤ r) (h : HoldsNumbers v) where
  abbrev X : ℕ
  X = value v.at (r + q) (suc w)

  below : X < 256 ^ w * 256
  below = (let z = value_below v.at (r + q) (suc w) (λ j l. h (r + q + j) (omega (arith, two))) in let p = pow-suc 256 w in omega (arith, z, p))

  abbrev upper : View → ℕ
  upper v1 = value v1.at (suc (r + q)) w

  parts : (signed : Bool) (v1 : View) → Doubled signed (r + q) w v v1
      → v1.at (r + q) + 256 * upper v1 + v1.flags.c * (256 ^ w * 256) ≡ X + X
  parts signed v1 a = let l = lowest v1.at (r + q) w in let p = pow-suc 256 w in rw (← l, ← p) a.sum

  low_byte : (signed : Bool) (v1 : View) → Against (Right signed) (r + q) w v v1 → v1.at (r + q) < 256
  low_byte signed v1 k0 = k0.numbers (r + q) (omega (arith, two))

  upper_small : (signed : Bool) (v1 : View) → Against (Right signed) (r + q) w v v1 → upper v1 < 256 ^ w
  upper_small signed v1 k0 = value_below v1.at (suc (r + q)) w (λ j l. k0.numbers (suc (r + q) + j) (omega (arith, two)))

  moved : (signed : Bool) (v1 u : View) → Ends (Right signed) r w q v1 u → value u.at r w ≡ upper v1
  moved signed v1 u g =
      value_moved u.at v1.at r (suc (r + q)) w
      (λ j l. let at : r + suc q + j ≡ suc (r + q) + j = omega arith in g.moved j l ∙ ap (λ i. v1.at i) at)

  by_sign : (signed : Bool) (v1 u : View) → Doubled signed (r + q) w v v1 → Against (Right signed) (r + q) w v v1
      → Ends (Right signed) r w q v1 u → value u.at r (suc w) ≡ shifted_by (Right signed) (suc w) X 7
  by_sign false v1 u a k0 g =
      let m = moved false v1 u g in
      let b = g.beside in
      rw (m, b) (doubled_down X (v1.at (r + q)) (upper v1) v1.flags.c (256 ^ w) (parts false v1 a) (low_byte false v1 k0))
  by_sign true v1 u a k0 g =
      let m = moved true v1 u g in
      let b = g.beside in
      let p = pow-suc 256 w in
      rw (m, b, p) (signed_number v1.flags.c (v1.at (r + q)) (upper v1) (256 ^ w) X k0.bit (parts true v1 a) (low_byte true v1 k0)
      (upper_small true v1 k0) below)

  as_sign : (signed : Bool) (v1 : View) → Doubled signed (r + q) w v v1 → Against (Right signed) (r + q) w v v1
      → spread_of (Right signed) v1.flags.c ≡ fill_of (Right signed) (v.at (r + (suc w + q - 1)))
  as_sign false v1 a k0 = refl
  as_sign true v1 a k0 =
      let at : r + q + w ≡ r + (suc w + q - 1) = omega arith in
      let low : value v.at (r + q) w < 256 ^ w = value_below v.at (r + q) w (λ j l. h (r + q + j) (omega (arith, two))) in
      let top : v.at (r + q + w) < 256 = h (r + q + w) (omega (arith, two)) in
      let lb = low_byte true v1 k0 in
      let us = upper_small true v1 k0 in
      top_carry v1.flags.c (v1.at (r + q) + 256 * upper v1) (256 ^ w) (value v.at (r + q) w) (v.at (r + q + w)) k0.bit
      (omega (arith, lb, us)) low top (parts true v1 a) ∙ ap (λ i. 255 * (v.at i / 128)) at

pub seven : (s : Direction) (e : Env) (r w q : ℕ) (v : View) → 2 ≤ r → HoldsNumbers v → Seven s r w q v (block e (carry_code s r q (suc w))
    (block e (chain (carried_byte s r (suc w + q) (suc q)) (suc w + q)) (block e (against_code s r q (suc w)) v)))
seven Left e r w q v two h =
    let v1 = block e (against_code Left r q (suc w)) v in
    let a = halved e r w v two h q in
    let k0 = a.kept in
    let g = ends Left e r w q v1 two k0.numbers k0.bit in
    let u = block e (carry_code Left r q (suc w)) (block e (chain (carried_byte Left r (suc w + q) (suc q)) (suc w + q)) v1) in
    let X = value v.at r (suc w) in
    let low : value v1.at r w < 256 ^ w = value_below v1.at r w (λ j l. k0.numbers (r + j) (omega (arith, two))) in
    let up : value u.at (suc (r + q)) w ≡ value v1.at r w =
    value_moved u.at v1.at (suc (r + q)) r w (λ j l. let at : suc (r + q) + j ≡ r + suc q + j = omega arith in ap (λ i. u.at i) at ∙ g.moved j l) in
    let b = g.beside in
    let whole = halved_up X (value v1.at r w) (v1.at (r + w)) v1.flags.c (256 ^ w) (sym a.number_is) a.carry low in
    let p = pow-suc 256 w in
    record {
      number_is = lowest u.at (r + q) w ∙ rw (b, up, p) whole;
      filled = g.filled;
      numbers = ends_numbers Left r w q v1 u two k0.numbers k0.bit g;
      same = λ k y z o. g.same k y o ∙ k0.keeps.same k y z (λ l. let t = o l in omega (arith, t));
      inputs = g.inputs ∙ k0.keeps.inputs;
      safe = g.safe ∙ k0.keeps.safe;
      seen = g.seen ∙ k0.keeps.seen;
    }
seven (Right signed) e r w q v two h =
    let v1 = block e (against_code (Right signed) r q (suc w)) v in
    let a = doubled signed e r w q v two h in
    let k0 = a.kept in
    let g = ends (Right signed) e r w q v1 two k0.numbers k0.bit in
    let u = block e (carry_code (Right signed) r q (suc w))
    (block e (chain (carried_byte (Right signed) r (suc w + q) (suc q)) (suc w + q)) v1) in
    record {
      number_is = by_sign r w q v two h signed v1 u a k0 g;
      filled = λ j l. g.filled j l ∙ as_sign r w q v two h signed v1 a k0;
      numbers = ends_numbers (Right signed) r w q v1 u two k0.numbers k0.bit g;
      same = λ k y z o. g.same k y o ∙ k0.keeps.same k y z (λ l. let t = o (omega (arith, l)) in omega (arith, t));
      inputs = g.inputs ∙ k0.keeps.inputs;
      safe = g.safe ∙ k0.keeps.safe;
      seen = g.seen ∙ k0.keeps.seen;
    }
