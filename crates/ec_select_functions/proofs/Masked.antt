-- An AND with a known number, of which a flag tells whether it is 0.
use Rattle.std.proofs.Common.{◌≡◌, ◌≢◌, ℕ, ◌+◌, ◌%◌, ◌<◌, ◌≤◌, Bool, true, false, ⊎_elim, ℤ, pos, negsuc, refl, sym, ap, ◌∙◌, subst, arith}
use Rattle.std.proofs.Common.{bit_and, int_lt, nat_lt, ◌&&◌, not, Some}
use Rattle.std.specs.Prelude.{◌==◌, nat_le}
use Rattle.std.specs.Int.{from_bool}
use Rattle.std.proofs.lemmas.Bool.{and_parts, cases_eq, eqb-true}
use Rattle.std.proofs.lemmas.Bool.Decides.{nat_tests}
use Rattle.std.proofs.lemmas.Nat.{and_mod, and_le_r}
use Rattle.ec_asm.specs.declared.pieces.Location.{Location}
use Rattle.ec_asm.specs.declared.pieces.Location.TheVariants.{InRegisters, InMemory}
use Rattle.ec_asm.specs.View.{View, put}
use Rattle.ec_asm.specs.Change.{Env, Own, set, set_both, result_flags}
use Rattle.ec_asm.specs.Items.{block, all_straight, code_steps}
use Rattle.ec_asm.specs.Pieces.{address, KindIs}
use Rattle.ec_asm.specs.PieceLaws.{HoldsNumbers}
use Rattle.ec_asm.proofs.Bytes.{put_here, put_other}
use Rattle.ec_core.specs.declared.expressions.BinOp.{BinOp}
use Rattle.ec_core.specs.declared.expressions.BinOp.TheVariants.{And}
use Rattle.ec_ir_known.specs.Known.{is_byte}
use Rattle.ec_ir_known.specs.declared.known.RightNumber.{RightNumber}
use Rattle.ec_select_order.specs.declared.relations.Relation.{Relation}
use Rattle.ec_select_operations.specs.declared.families.Family.TheVariants.{Compared, Shifted}
use Rattle.ec_select_operations.specs.Code.{family_of, same_location, is_mask, is_masked, masked_at, masked_code}
use Rattle.ec_select_functions.proofs.Wrapped.{kept_below}

-- ---- operators

-- a mask is a byte
pub mask_byte : (k : ℤ) → is_mask (Some k) ≡ true → is_byte k ≡ true
mask_byte (pos x) q =
    let parts = and_parts (not (int_lt (pos x) (pos 0))) (int_lt (pos x) (pos 255)) q in
    let less : nat_lt x 255 ≡ true = parts.1 in
    let byte : nat_lt x 256 ≡ true = grind (arith, nat_tests, less) in
    ap (λ (z : Bool). z && int_lt (pos x) (pos 256)) parts.0 ∙ byte
mask_byte (negsuc x) q = absurd cc

-- only AND is masked
pub masked_is : (op : BinOp) (k : RightNumber) → is_masked (Some k) op ≡ true → (op ≡ And) × (is_mask k.number ≡ true)
masked_is And k q = (refl, q)
masked_is op k q = absurd cc

pub order_unmasked : (op : BinOp) (r : Relation) (exchanged : Bool) (k : RightNumber) → family_of op ≡ Compared r exchanged
    → is_masked (Some k) op ≡ false
order_unmasked And r exchanged k q = absurd cc
order_unmasked op r exchanged k q = refl

pub shift_unmasked : (op : BinOp) (up : Bool) (k : RightNumber) → family_of op ≡ Shifted up → is_masked (Some k) op ≡ false
shift_unmasked And up k q = absurd cc
shift_unmasked op up k q = refl

-- ---- code

-- of the number whose byte is masked, the low byte alone counts
pub mask_low : (x k : ℕ) → k < 256 → bit_and x k ≡ bit_and (x % 256) k
mask_low x k l =
    let e : bit_and x k % 256 ≡ bit_and (x % 256) (k % 256) = and_mod x k 8 in
    let below = and_le_r x k in
    sym (kept_below (bit_and x k) 256 (omega (arith, below, l))) ∙ e ∙ ap (bit_and (x % 256)) (kept_below k 256 l)

-- Z tells whether the bits of the byte at a are 0, and all is kept but R30 and the byte at b
pub record Masks (v w : View) (a b k : ℕ) : Type 0 where
  pub zero_is : w.flags.z ≡ from_bool (bit_and (v.at a) k == 0)
  pub same : (j : ℕ) → j ≢ 30 → j ≢ b → w.at j ≡ v.at j
  pub numbers : HoldsNumbers w
  pub inputs : w.inputs ≡ v.inputs
  pub safe : w.safe ≡ v.safe
  pub seen : w.seen ≡ v.seen

-- a register at a location is the one at which it begins
same_register : (e : Env) (r b : ℕ) (q : Location) → same_location (InRegisters r) q ≡ true → address e q 0 ≡ b → r ≡ b
same_register e r b (InRegisters d) s p = let same = eqb-true r d s in omega (arith, same, p)
same_register e r b (InMemory o j) s p = absurd cc

module _ (e : Env) (a b k : ℕ) (v : View) (few : k < 256) (h : HoldsNumbers v) where
  bits_below : (x : ℕ) → bit_and x k < 256
  bits_below x = let l = and_le_r x k in omega (arith, l, few)

  -- a byte is put somewhere
  put_numbers : (f : ℕ → ℕ) (d x : ℕ) → x < 256 → ((j : ℕ) → 2 ≤ j → f j < 256) → (j : ℕ) → 2 ≤ j → put f d x j < 256
  put_numbers f d x l g j two =
      ⊎_elim
      (λ (q : j ≡ d). subst (λ z. z < 256) (sym (put_here f d x j q)) l)
      (λ (q : j ≢ d). subst (λ z. z < 256) (sym (put_other f d x j q)) (g j two))
      (cases_eq j d)

  in_place : (r : ℕ) → r ≡ a → r ≡ b → Masks v (block e (masked_at true r k) v) a b k
  in_place r here there =
      let x = bit_and (v.at r) k in
      record {
        zero_is = ap (λ (j : ℕ). from_bool (bit_and (v.at j) k == 0)) here;
        same = λ j z n. put_other v.at r x j (λ q. n (q ∙ there));
        numbers = put_numbers v.at r x (bits_below (v.at r)) h;
        inputs = refl;
        safe = refl;
        seen = refl;
      }

  -- in R30, where a byte is brought
  in_work : (x : ℕ) → x ≡ v.at a → x < 256 → (w : View) → w ≡ set_both 30 (bit_and x k) (result_flags v.flags (bit_and x k) 0) (set 30 x v)
      → Masks v w a b k
  in_work x is below w q =
      let v1 = set 30 x v in
      let z = bit_and x k in
      subst (λ (u : View). Masks v u a b k) (sym q)
      (record {
        zero_is = ap (λ (j : ℕ). from_bool (bit_and j k == 0)) is;
        same = λ j y n. put_other v1.at 30 z j y ∙ put_other v.at 30 x j y;
        numbers = put_numbers v1.at 30 z (bits_below x) (put_numbers v.at 30 x below h);
        inputs = refl;
        safe = refl;
        seen = refl;
      })

  pub masks : (p q : Location) → address e p 0 ≡ a → KindIs e p a Own → 2 ≤ a → address e q 0 ≡ b
      → Masks v (block e (masked_code p q k) v) a b k
  masks (InRegisters r) q at own two there = by_place (nat_le 16 r && same_location (InRegisters r) q) refl
    where
      here : r ≡ a
      here = omega (arith, at)

      by_place : (x : Bool) → (nat_le 16 r && same_location (InRegisters r) q) ≡ x → Masks v (block e (masked_at x r k) v) a b k
      by_place true s = in_place r here (same_register e r b q (and_parts (nat_le 16 r) (same_location (InRegisters r) q) s).1 there)
      by_place false s =
          in_work (v.at r) (ap v.at here) (subst (λ (j : ℕ). v.at j < 256) (sym here) (h a two))
          (block e (masked_at false r k) v) refl
  masks (InMemory o j) q at own two there =
      let begin : j ≡ j + 0 = omega arith in
      let here : e.address_of o j ≡ a = ap (e.address_of o) begin ∙ at in
      rw (here, own) (in_work (v.at a) refl (h a two) _ refl)

-- the code is straight, and has one step to three
pub masked_form : (p q : Location) (k : ℕ)
    → (all_straight (masked_code p q k) ≡ true) × (1 ≤ code_steps (masked_code p q k)) × (code_steps (masked_code p q k) ≤ 4)
masked_form (InRegisters r) q k = by_place (nat_le 16 r && same_location (InRegisters r) q)
  where
    by_place : (x : Bool) → (all_straight (masked_at x r k) ≡ true) × (1 ≤ code_steps (masked_at x r k)) ×
        (code_steps (masked_at x r k) ≤ 4)
    by_place true = (refl, omega arith, omega arith)
    by_place false = (refl, omega arith, omega arith)
masked_form (InMemory o j) q k = (refl, omega arith, omega arith)
