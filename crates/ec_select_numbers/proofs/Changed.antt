-- A number changed by a known one, one byte after another.
use Rattle.std.proofs.Common.{◌≡◌, ◌≢◌, ⊎_elim, ℕ, zero, suc, ◌+◌, ◌-◌, ◌*◌, ◌%◌, ◌^◌, ◌<◌, Bool, true, false}
use Rattle.std.proofs.Common.{[], refl, sym, ap, ◌∙◌, subst, arith, bit_and, bit_or}
use Rattle.std.specs.Prelude.{if◌then◌else◌}
use Rattle.std.proofs.lemmas.Bool.{cases_eq, eqb-true}
use Rattle.std.proofs.lemmas.Nat.{mod_below, and_mask, or_shifted, and_le_l, or_lt}
use Rattle.ec_avr.specs.Flags.{byte_difference}
use Rattle.ec_asm.specs.declared.pieces.Location.{Location}
use Rattle.ec_asm.specs.declared.pieces.Location.TheVariants.{InRegisters}
use Rattle.ec_asm.specs.View.{Flags, View}
use Rattle.ec_asm.specs.Change.{Env, Own, difference_flags, result_flags}
use Rattle.ec_asm.specs.Items.{block, chain}
use Rattle.ec_asm.specs.Pieces.{StandsFrom, IsBinary, Outside, value, instruction, operate_byte, operate_code, carry_at}
use Rattle.ec_asm.specs.Pieces.{zero_at, bitwise, is_bitwise}
use Rattle.ec_asm.specs.PieceLaws.{HoldsNumbers}
use Rattle.ec_asm.proofs.Bytes.{binary_operates}
use Rattle.ec_asm.proofs.Hoare.{chain_holds, block-append}
use Rattle.ec_asm.proofs.Operators.{bitwise_holds}
use Rattle.ec_asm.proofs.Results.{differences_are_right}
use Rattle.ec_asm.proofs.Sum.{not_here, fewer}
use Rattle.ec_select_bytes.specs.Values.{byte_of}
use Rattle.ec_select_numbers.specs.declared.operators.ByNumber.{ByNumber}
use Rattle.ec_select_numbers.specs.declared.operators.ByNumber.TheVariants.{Subtract, Mask, Set}
use Rattle.ec_select_numbers.specs.ByNumber.{as_operator, immediate, is_neutral, immediate_byte, changed_byte, each_changed}
use Rattle.ec_select_numbers.specs.Laws.{KeepsOthers}
use Rattle.ec_select_numbers.proofs.Beside.{byte_below, beside, beside_there, beside_below, beside_bytes, beside_stands}
use Rattle.ec_select_numbers.proofs.Beside.{value_moved, number_beside, place_beside, past, below_past, bytes_below_past}
use Rattle.ec_select_numbers.proofs.Beside.{past_clear, past_stands, past_other, past_place, place_other, other_place}
use Rattle.ec_select_numbers.proofs.Beside.{place_clear, off_work, not_before}
use Rattle.ec_select_numbers.proofs.Bytes.{IsImmediate, byte_changes}

-- what an operator makes of byte i, and the flags
abbrev pub made : ByNumber → ℕ → ℕ → ℕ → Flags → ℕ
made Subtract i x y f = byte_difference x y (carry_at i f)
made Mask i x y f = bit_and x y
made Set i x y f = bit_or x y

abbrev pub left : ByNumber → ℕ → ℕ → ℕ → Flags → Flags
left Subtract i x y f = difference_flags f x y (carry_at i f) (zero_at i f)
left Mask i x y f = result_flags f (bit_and x y) 0
left Set i x y f = result_flags f (bit_or x y) 0

pub is_immediate : (op : ByNumber) (i : ℕ) → IsImmediate (immediate op i) (made op i) (left op i)
is_immediate Subtract zero = record { is = λ e d k v. refl }
is_immediate Subtract (suc i) = record { is = λ e d k v. refl }
is_immediate Mask i = record { is = λ e d k v. refl }
is_immediate Set i = record { is = λ e d k v. refl }

is_binary : (op : ByNumber) (i : ℕ) → IsBinary (instruction (as_operator op) i) (made op i) (left op i)
is_binary Subtract zero = record { is = λ e d r v. refl; straight = λ d r. refl }
is_binary Subtract (suc i) = record { is = λ e d r v. refl; straight = λ d r. refl }
is_binary Mask i = record { is = λ e d r v. refl; straight = λ d r. refl }
is_binary Set i = record { is = λ e d r v. refl; straight = λ d r. refl }

made_same : (op : ByNumber) (i x y : ℕ) (f g : Flags) → (op ≡ Subtract → f ≡ g) → made op i x y f ≡ made op i x y g
made_same Subtract i x y f g h = ap (λ z. byte_difference x y (carry_at i z)) (h refl)
made_same Mask i x y f g h = refl
made_same Set i x y f g h = refl

pub made_below : (op : ByNumber) (i x y : ℕ) (f : Flags) → x < 256 → y < 256 → made op i x y f < 256
made_below Subtract i x y f p q = mod_below (x + 256 - (y + carry_at i f)) 256 (omega arith)
made_below Mask i x y f p q = let l = and_le_l x y in omega arith
made_below Set i x y f p q = or_lt 8 x y p q

neutral_is : (op : ByNumber) (i x y : ℕ) (f : Flags) → is_neutral op y ≡ true → x < 256 → made op i x y f ≡ x
neutral_is Subtract i x y f h l = let no : false ≡ true = h in absurd cc
neutral_is Mask i x y f h l =
    let e : y ≡ 255 = eqb-true y 255 h in
    let m : bit_and x 255 ≡ x % 256 = and_mask x 8 in
    let s : x % 256 ≡ x = omega (arith, l) in
    rw e (m ∙ s)
neutral_is Set i x y f h l =
    let e : y ≡ 0 = eqb-true y 0 h in
    let z : x * 2 ^ 0 ≡ x = omega arith in
    let o : bit_or (x * 2 ^ 0) 0 ≡ x * 2 ^ 0 + 0 = or_shifted x 0 0 (omega arith) in
    let s : x * 2 ^ 0 + 0 ≡ x = omega arith in
    rw e (ap (λ t. bit_or t 0) (sym z) ∙ o ∙ s)

not_subtract : (op : ByNumber) (y : ℕ) → is_neutral op y ≡ true → op ≡ Subtract → ⊥
not_subtract Subtract y h q = let no : false ≡ true = h in absurd cc
not_subtract Mask y h q = absurd cc
not_subtract Set y h q = absurd cc

-- ---- beside the code of two numbers

module _ (op : ByNumber) (e : Env) (p : Location) (number n a : ℕ) (v0 : View) (s : StandsFrom e p n a Own) (free : Outside a n 30)
    (bytes : HoldsNumbers v0) where
  -- where the number stands
  abbrev pub A : ℕ
  A = past a n

  abbrev w0 : View
  w0 = beside A number v0

  abbrev two : ℕ → View
  two i = block e (chain (operate_byte (as_operator op) (InRegisters A) p) i) w0

  -- i bytes are changed, here and there
  pub record Alike (i : ℕ) (v : View) : Type 0 where
    pub keeps : KeepsOthers v0 v a i
    pub here : (j : ℕ) → j < n → v.at (a + j) ≡ (two i).at (a + j)
    pub there : (j : ℕ) → (two i).at (A + j) ≡ byte_of number j
    pub flags : op ≡ Subtract → v.flags ≡ (two i).flags

  -- all but byte i is kept
  pub keeps_more : (i : ℕ) (v w : View) → i < n → KeepsOthers v0 v a i → ((j : ℕ) → j ≢ 30 → j ≢ a + i → w.at j ≡ v.at j)
      → w.at (a + i) < 256 → w.at 30 < 256 → w.inputs ≡ v.inputs → w.safe ≡ v.safe → w.seen ≡ v.seen
      → KeepsOthers v0 w a (suc i)
  keeps_more i v w l h same small work inputs safe seen = record {
    same = λ k z o t m. same k t (not_here k a i m) ∙ h.same k z o t (fewer k a i m);
    bytes = λ k u.
        ⊎_elim (λ (q : k ≡ a + i). rw q small)
        (λ (q : k ≢ a + i). ⊎_elim (λ (r : k ≡ 30). rw r work) (λ (r : k ≢ 30). rw (same k r q) (h.bytes k u)) (cases_eq k 30))
        (cases_eq k (a + i));
    inputs = inputs ∙ h.inputs;
    safe = safe ∙ h.safe;
    seen = seen ∙ h.seen;
  }

  -- the other code's byte
  record Other (i : ℕ) : Type 0 where
    here : (two (suc i)).at (a + i) ≡ made op i ((two i).at (a + i)) ((two i).at (A + i)) (two i).flags
    flags : (two (suc i)).flags ≡ left op i ((two i).at (a + i)) ((two i).at (A + i)) (two i).flags
    same : (k : ℕ) → k ≢ 0 → k ≢ 1 → k ≢ a + i → (two (suc i)).at k ≡ (two i).at k

  other : (i : ℕ) → i < n → Other i
  other i l =
      let body = operate_byte (as_operator op) (InRegisters A) p in
      let o =
      binary_operates (instruction (as_operator op) i) (made op i) (left op i) (is_binary op i) e (InRegisters A) p i (A + i)
      (a + i) (two i) refl (s.at i l) refl (s.kind i l) (past_clear a n i) (place_clear a i s.clear) in
      let next : two (suc i) ≡ block e (body i) (two i) = block-append e (chain body i) (body i) w0 in
      record {
        here = ap (λ (w : View). w.at (a + i)) next ∙ o.here;
        flags = ap (λ (w : View). w.flags) next ∙ o.flags;
        same = λ k z u q. ap (λ (w : View). w.at k) next ∙ o.same k z u q;
      }

  -- one byte of this code, which leaves the same there
  pub alike_more : (i : ℕ) (v w : View) → i < n → Alike i v → KeepsOthers v0 w a (suc i)
      → ((j : ℕ) → j ≢ 30 → j ≢ a + i → w.at j ≡ v.at j)
      → w.at (a + i) ≡ made op i (v.at (a + i)) (byte_of number i) v.flags
      → (op ≡ Subtract → w.flags ≡ left op i (v.at (a + i)) (byte_of number i) v.flags) → Alike (suc i) w
  alike_more i v w l h keeps same here flags =
      let o = other i l in
      let k = byte_of number i in
      let f = (two i).flags in
      let x : (two i).at (a + i) ≡ v.at (a + i) = sym (h.here i l) in
      let y : (two i).at (A + i) ≡ k = h.there i in
      let there : (two (suc i)).at (a + i) ≡ made op i (v.at (a + i)) k v.flags =
      o.here ∙ ap (λ m. made op i m ((two i).at (A + i)) f) x ∙ ap (λ m. made op i (v.at (a + i)) m f) y
      ∙ made_same op i (v.at (a + i)) k f v.flags (λ q. sym (h.flags q)) in
      let other_flags : (two (suc i)).flags ≡ left op i (v.at (a + i)) k f =
      o.flags ∙ ap (λ m. left op i m ((two i).at (A + i)) f) x ∙ ap (λ m. left op i (v.at (a + i)) m f) y in
      record {
        keeps = keeps;
        here = λ j m.
            ⊎_elim
            (λ (q : j ≡ i). let e1 : a + j ≡ a + i = ap (λ t. a + t) q in ap w.at e1 ∙ here ∙ sym there ∙ ap (two (suc i)).at (sym e1))
            (λ (q : j ≢ i). same (a + j) (off_work a n j free m) (other_place a i j q) ∙ h.here j m
            ∙ sym (o.same (a + j) (place_other a n j 0 s.clear (omega arith)) (place_other a n j 1 s.clear (omega arith))
            (other_place a i j q)))
            (cases_eq j i);
        there = λ j.
            o.same (A + j) (past_other a n j 0 (omega arith)) (past_other a n j 1 (omega arith)) (past_place a n i j l) ∙ h.there j;
        flags = λ q. flags q ∙ ap (λ (g : Flags). left op i (v.at (a + i)) k g) (h.flags q) ∙ sym other_flags;
      }

  pub step : (i : ℕ) → i < n → (v : View) → Alike i v → Alike (suc i) (block e (changed_byte op p (byte_of number i) i) v)
  step i l v h = by_byte (is_neutral op (byte_of number i)) refl
    where
      x_below : v.at (a + i) < 256
      x_below = h.keeps.bytes (a + i) (place_clear a i s.clear)

      below : made op i (v.at (a + i)) (byte_of number i) v.flags < 256
      below = made_below op i (v.at (a + i)) (byte_of number i) v.flags x_below (byte_below number i)

      by_byte : (b : Bool) → is_neutral op (byte_of number i) ≡ b
          → Alike (suc i) (block e (if b then [] else immediate_byte (immediate op i) p (byte_of number i) i) v)
      by_byte true q =
          let k = byte_of number i in
          let is = neutral_is op i (v.at (a + i)) k v.flags q x_below in
          alike_more i v v l h
          (keeps_more i v v l h.keeps (λ j z m. refl) x_below (h.keeps.bytes 30 (omega arith)) refl refl refl)
          (λ j z m. refl) (sym is) (λ z. absurd (not_subtract op k q z))
      by_byte false q =
          let k = byte_of number i in
          let w = block e (immediate_byte (immediate op i) p k i) v in
          let o =
          byte_changes (immediate op i) (made op i) (left op i) (is_immediate op i) e p i (a + i) k v (s.at i l) (s.kind i l)
          (off_work a n i free l) in
          let small : w.at (a + i) < 256 = subst (λ t. t < 256) (sym o.here) below in
          let work : w.at 30 < 256 =
          ⊎_elim (λ (z : w.at 30 ≡ v.at 30). subst (λ t. t < 256) (sym z) (h.keeps.bytes 30 (omega arith)))
          (λ (z : w.at 30 ≡ made op i (v.at (a + i)) k v.flags). subst (λ t. t < 256) (sym z) below) o.work in
          alike_more i v w l h (keeps_more i v w l h.keeps o.same small work o.inputs o.safe o.seen) o.same o.here (λ z. o.flags)

  -- before all of them
  pub none_alike : Alike 0 v0
  none_alike = record {
    keeps = record { same = λ k z o t m. refl; bytes = bytes; inputs = refl; safe = refl; seen = refl };
    here = λ j l. sym (beside_below A number v0 (a + j) (below_past a n j l));
    there = beside_there A number v0;
    flags = λ q. refl;
  }

  pub alike : Alike n (block e (each_changed op p number n) v0)
  alike = chain_holds e (λ i. changed_byte op p (byte_of number i) i) Alike n step v0 none_alike

-- what stands there when all bytes are changed
pub alike_subtracts : (e : Env) (p : Location) (number n a : ℕ) (v w : View) (s : StandsFrom e p n a Own) (free : Outside a n 30)
    (bytes : HoldsNumbers v) → Alike Subtract e p number n a v s free bytes n w
    → value w.at a n ≡ (value v.at a n + 256 ^ n - number % 256 ^ n) % 256 ^ n
alike_subtracts e p number n a v w s free bytes h =
    let A = past a n in
    let u = beside A number v in
    let t = block e (operate_code (as_operator Subtract) (InRegisters A) p n) u in
    let d : value t.at a n ≡ (value u.at a n + 256 ^ n - value u.at A n) % 256 ^ n =
    (differences_are_right e (InRegisters A) p n A a u (beside_stands e A n (past_stands a n)) s (λ q. absurd (not_before a n q))
    (beside_bytes A number v bytes)).1 in
    let same : value w.at a n ≡ value t.at a n = value_moved w.at t.at a a n h.here in
    let x = place_beside A number a n v (bytes_below_past a n) in
    let y = number_beside A number n v in
    same ∙ d ∙ ap (λ m. (m + 256 ^ n - value u.at A n) % 256 ^ n) x
    ∙ ap (λ m. (value v.at a n + 256 ^ n - m) % 256 ^ n) y

pub bitwise_operator : (op : ByNumber) → op ≢ Subtract → is_bitwise (as_operator op) ≡ true
bitwise_operator Subtract h = absurd (h refl)
bitwise_operator Mask h = refl
bitwise_operator Set h = refl

pub alike_changes_bits : (op : ByNumber) (e : Env) (p : Location) (number n a : ℕ) (v w : View) → op ≢ Subtract
    → (s : StandsFrom e p n a Own) (free : Outside a n 30) (bytes : HoldsNumbers v) → Alike op e p number n a v s free bytes n w
    → (j : ℕ) → j < n → w.at (a + j) ≡ bitwise (as_operator op) (v.at (a + j)) (byte_of number j)
alike_changes_bits op e p number n a v w differs s free bytes h j l =
    let A = past a n in
    let u = beside A number v in
    let d = bitwise_holds (as_operator op) (bitwise_operator op differs) e (InRegisters A) p n A a u
    (beside_stands e A n (past_stands a n)) s (λ q. absurd (not_before a n q)) in
    h.here j l ∙ d.there j l
    ∙ ap (λ m. bitwise (as_operator op) m (u.at (A + j))) (beside_below A number v (a + j) (below_past a n j l))
    ∙ ap (λ m. bitwise (as_operator op) (v.at (a + j)) m) (beside_there A number v j)
