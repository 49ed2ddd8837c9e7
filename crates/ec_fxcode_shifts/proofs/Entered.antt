-- The count, the sign, and the number in the work bytes.
use Rattle.std.proofs.Common.{◌≡◌, ◌≢◌, ℕ, suc, ◌+◌, ◌-◌, ◌*◌, ◌%◌, ◌^◌, ◌<◌, ◌≤◌, ◌⊎◌, inl, inr, ⊎_elim, Bool, true, false, [], ◌∷◌, ◌++◌}
use Rattle.std.proofs.Common.{append-nil, bit_and, refl, ap, ◌∙◌, subst, arith}
use Rattle.std.specs.Int.Bits.{xor_self}
use Rattle.std.proofs.lemmas.Bool.{cases_eq, cases_lt}
use Rattle.std.proofs.lemmas.Nat.{and_mask}
use Rattle.ec_isa.specs.declared.instructions.Instr.TheVariants.{Andi}
use Rattle.ec_fx.specs.declared.formats.Format.{Format}
use Rattle.ec_fx.specs.Formats.{IsFormat, step_of}
use Rattle.ec_asm.specs.declared.items.AsmItem.TheVariants.{Plain}
use Rattle.ec_asm.specs.declared.pieces.Location.{Location}
use Rattle.ec_asm.specs.View.{View}
use Rattle.ec_asm.specs.Change.{Env, Own, change}
use Rattle.ec_asm.specs.Items.{block}
use Rattle.ec_asm.specs.Pieces.{address, KindIs, StandsFrom, Outside, copy_code}
use Rattle.ec_asm.specs.PieceLaws.{HoldsNumbers}
use Rattle.ec_asm.proofs.Bytes.{put_other}
use Rattle.ec_asm.proofs.Compared.{copy_holds}
use Rattle.ec_asm.proofs.Hoare.{block-append}
use Rattle.ec_fxcode.specs.Clamps.{fills_code}
use Rattle.ec_fxcode.specs.ClampLaws.{IsClearOfEnds, AreApart}
use Rattle.ec_fxcode.proofs.Alike.{fill}
use Rattle.ec_fxcode.proofs.Moves.{Signs, signs, Extends, fills, joined, part_stands, no_log, beyond}
use Rattle.ec_fxcode_shifts.specs.Shifts.{count_row, count_code, mark_code, widened_code}

-- ---- widths

-- 1, 2, 4 or 8 bytes, whose bits are a power of two
pub record IsWidth (k : ℕ) : Type 0 where
  pub some : 1 ≤ k
  pub most : k ≤ 8
  pub power : (j : ℕ) × (8 * k - 1 ≡ 2 ^ j - 1) × (8 * k ≡ 2 ^ j)

width_of : (k j : ℕ) → 8 * k ≡ 2 ^ j → 1 ≤ k → k ≤ 8 → IsWidth k
width_of k j e some most = record { some = some; most = most; power = (j, ap (λ t. t - 1) e, e) }

width_by : (k step bits : ℕ) → bits ≡ 8 * k → (step ≡ 8) ⊎ ((step ≡ 16) ⊎ (step ≡ 32)) → (bits ≡ step) ⊎ (bits ≡ 2 * step)
    → IsWidth k
width_by k step bits e (inl s) (inl w) = width_of k 3 (omega (arith, e, s, w)) (omega (arith, e, s, w)) (omega (arith, e, s, w))
width_by k step bits e (inl s) (inr w) = width_of k 4 (omega (arith, e, s, w)) (omega (arith, e, s, w)) (omega (arith, e, s, w))
width_by k step bits e (inr (inl s)) (inl w) = width_of k 4 (omega (arith, e, s, w)) (omega (arith, e, s, w)) (omega (arith, e, s, w))
width_by k step bits e (inr (inl s)) (inr w) = width_of k 5 (omega (arith, e, s, w)) (omega (arith, e, s, w)) (omega (arith, e, s, w))
width_by k step bits e (inr (inr s)) (inl w) = width_of k 5 (omega (arith, e, s, w)) (omega (arith, e, s, w)) (omega (arith, e, s, w))
width_by k step bits e (inr (inr s)) (inr w) = width_of k 6 (omega (arith, e, s, w)) (omega (arith, e, s, w)) (omega (arith, e, s, w))

pub format_width : (f : Format) (k : ℕ) → IsFormat f → f.bits ≡ 8 * k → IsWidth k
format_width f k is e = width_by k (step_of f) f.bits e is.step is.width

-- ---- the count

pub record Counts (v w : View) (d bits : ℕ) : Type 0 where
  pub count : w.at 30 ≡ v.at d % bits
  pub same : (k : ℕ) → k ≢ 0 → k ≢ 30 → w.at k ≡ v.at k
  pub inputs : w.inputs ≡ v.inputs
  pub safe : w.safe ≡ v.safe
  pub seen : w.seen ≡ v.seen

row_stands : (e : Env) → StandsFrom e count_row 1 30 Own
row_stands e = record { at = λ i l. refl; kind = λ i l. refl; clear = omega arith }

masked : (x k : ℕ) → IsWidth k → bit_and x (8 * k - 1) ≡ x % (8 * k)
masked x k w = rw (w.power.1, w.power.2) (and_mask x w.power.0)

pub counts : (e : Env) (c : Location) (m k d : ℕ) (v : View) → 1 ≤ m → StandsFrom e c m d Own → IsClearOfEnds d m
    → IsWidth k → Counts v (block e (count_code c (8 * k)) v) d (8 * k)
counts e c m k d v some s clear w =
    let below = clear.below in
    let v1 = block e (copy_code c count_row 1) v in
    let o = copy_holds e c count_row 1 d 30 Own Own v (part_stands e c m 1 d some s) (row_stands e) refl refl
    (λ x. let y = below x in omega arith) in
    let here : v1.at 30 ≡ v.at d =
    (let z : 30 + 0 ≡ 30 = refl in let y : d + 0 ≡ d = omega arith in subst (λ t. v1.at 30 ≡ v.at t) y (o.there 0 (omega arith))) in
    let u = change e (Andi 30 (8 * k - 1)) v1 in
    rw (block-append e (copy_code c count_row 1) (Plain (Andi 30 (8 * k - 1)) ∷ []) v) (record {
      count = ap (λ x. bit_and x (8 * k - 1)) here ∙ masked (v.at d) k w;
      same = λ j z n. put_other v1.at 30 _ j n ∙ o.same j z (λ x. omega arith);
      inputs = o.inputs;
      safe = o.safe;
      seen = o.seen ∙ ap (λ l. v.seen ++ l) (no_log d 30 v.at 1) ∙ append-nil v.seen;
    })

-- ---- the sign

-- the byte of the sign of a number whose highest byte is x
abbrev pub mark_of : (signed : Bool) → ℕ → ℕ
mark_of true x = fill x
mark_of false x = 0

pub marks : (e : Env) (signed : Bool) (p : Location) (n a : ℕ) (v : View) → address e p n ≡ a → KindIs e p a Own
    → v.at a < 256 → Signs v (block e (mark_code signed p (suc n)) v) (mark_of signed (v.at a))
marks e true p n a v at kind l = signs e p n a v at kind l
marks e false p n a v at kind l = record {
  sign = xor_self (v.at 31);
  same = λ k z n. put_other v.at 31 _ k n;
  inputs = refl;
  safe = refl;
  seen = refl;
}

-- ---- with bytes of the sign above it

pub widens : (e : Env) (p w : Location) (n a s byte : ℕ) (v v1 : View) → StandsFrom e p (suc n) a Own
    → StandsFrom e w (2 * suc n) s Own → AreApart a (suc n) s (2 * suc n) → IsClearOfEnds a (suc n)
    → IsClearOfEnds s (2 * suc n) → Signs v v1 byte
    → Extends v a s (2 * suc n) (suc n) byte (block e (widened_code p w (suc n)) v1)
widens e p w n a s byte v v1 sa ss apart ca cs sign =
    let k = suc n in
    let first = apart.first in
    let v2 = block e (copy_code p w k) v1 in
    let c =
    copy_holds e p w k a s Own Own v1 sa (part_stands e w (2 * k) k s (omega arith) ss) refl refl (λ x. let y = first x in omega arith) in
    let v31 : v2.at 31 ≡ byte = c.same 31 (λ x. omega arith) (λ x. beyond s (2 * k) k (omega arith) cs x) ∙ sign.sign in
    let f = fills e w (2 * k) s k byte v2 ss cs v31 in
    rw (block-append e (copy_code p w k) (fills_code w k (2 * k)) v1)
    (joined v v1 v2 (block e (fills_code w k (2 * k)) v2) a s k (2 * k) k byte (omega arith) (omega arith) sa.clear ss.clear ca cs sign c f)

-- ---- all bytes are bytes

pub numbers_after : (v w : View) (b k : ℕ) → HoldsNumbers v
    → ((j : ℕ) → j ≢ 0 → j ≢ 1 → j ≢ 30 → j ≢ 31 → Outside b k j → w.at j ≡ v.at j) → w.at 30 < 256 → w.at 31 < 256
    → ((j : ℕ) → j < k → w.at (b + j) < 256) → HoldsNumbers w
numbers_after v w b k h same first second held j l =
    ⊎_elim (λ (x : j ≡ 30). rw x first) (λ (x : j ≢ 30).
    ⊎_elim (λ (y : j ≡ 31). rw y second) (λ (y : j ≢ 31).
    let outside = λ (o : Outside b k j). (let z : w.at j < 256 = rw (same j (λ t. omega arith) (λ t. omega arith) x y o) (h j l) in z) in
    ⊎_elim (λ (below : j < b). outside (λ t. absurd (omega arith))) (λ (above : b ≤ j).
    ⊎_elim (λ (inside : j < b + k). let at : b + (j - b) ≡ j = omega arith in subst (λ i. w.at i < 256) at (held (j - b) (omega arith)))
    (λ (past : b + k ≤ j). outside (λ t. past)) (cases_lt j (b + k)))
    (cases_lt j b)) (cases_eq j 31)) (cases_eq j 30)
