-- Bytes that are cleared and moved, a number that is moved by one bit, and what they leave as it was.
use Rattle.std.proofs.Common.{◌≡◌, ◌≢◌, ℕ, zero, suc, ◌+◌, ◌-◌, ◌<◌, ◌≤◌, ⊎_elim, Bool, true, false, refl, sym, ap, ◌∙◌, subst, arith}
use Rattle.std.specs.Int.Bits.{xor_self}
use Rattle.std.proofs.lemmas.Bool.{cases_eq, cases_lt}
use Rattle.ec_isa.specs.declared.instructions.Instr.TheVariants.{Eor}
use Rattle.ec_asm.specs.declared.pieces.Location.{Location}
use Rattle.ec_asm.specs.View.{View}
use Rattle.ec_asm.specs.Change.{Env, Own, set, change}
use Rattle.ec_asm.specs.Items.{block}
use Rattle.ec_asm.specs.Pieces.{address, KindIs, StandsFrom, Outside, Keeps, value}
use Rattle.ec_asm.specs.PieceLaws.{HoldsNumbers, IsReadFirst}
use Rattle.ec_asm.proofs.Bytes.{put_here, put_other}
use Rattle.ec_asm.proofs.Hoare.{chain_holds, block-append}
use Rattle.ec_asm.proofs.Sum.{not_yet, keeps_more}
use Rattle.ec_select_shifts.specs.declared.shifts.Direction.{Direction}
use Rattle.ec_select_shifts.proofs.Once.{turned}
use Rattle.ec_fxcode.specs.Clamps.{take_byte, put_byte}
use Rattle.ec_fxcode.proofs.Moves.{byte_is_taken, byte_is_put}
use Rattle.ec_fxcode_scales.specs.Scales.{clears_code, moved_byte, moved_code, bit_code}
use Rattle.ec_fxcode_scales.proofs.Numbers.{after_bit}

-- ---- what is kept

-- so many bytes were changed, and all are bytes still
pub record Changes (v w : View) (b n : ℕ) : Type 0 where
  pub keeps : Keeps v w b n
  pub numbers : HoldsNumbers w

pub changes_by : (v w : View) (b n : ℕ) → HoldsNumbers v → Keeps v w b n → ((j : ℕ) → j < n → w.at (b + j) < 256)
    → 2 ≤ b → Changes v w b n
changes_by v w b n h k held two = record {
  keeps = k;
  numbers = λ j l.
      let outside = λ (o : Outside b n j). (let z : w.at j < 256 = rw (k.same j (λ t. omega arith) (λ t. omega arith) o) (h j l) in z) in
      ⊎_elim (λ (below : j < b). outside (λ t. absurd (omega arith))) (λ (above : b ≤ j).
      ⊎_elim (λ (inside : j < b + n). let at : b + (j - b) ≡ j = omega arith in
      subst (λ i. w.at i < 256) at (held (j - b) (omega arith)))
      (λ (past : b + n ≤ j). outside (λ t. past)) (cases_lt j (b + n)))
      (cases_lt j b);
}

pub keeps_in : (v w : View) (b n s m : ℕ) → s ≤ b → b + n ≤ s + m → Keeps v w b n → Keeps v w s m
keeps_in v w b n s m l h k = record {
  same = λ j x y o. k.same j x y (λ t. let far = o (omega arith) in omega arith);
  inputs = k.inputs;
  safe = k.safe;
  seen = k.seen;
}

pub keeps_then : (u v w : View) (s m : ℕ) → Keeps u v s m → Keeps v w s m → Keeps u w s m
keeps_then u v w s m k l = record {
  same = λ j x y o. l.same j x y o ∙ k.same j x y o;
  inputs = l.inputs ∙ k.inputs;
  safe = l.safe ∙ k.safe;
  seen = l.seen ∙ k.seen;
}

-- ---- bytes of 0

record ClearsTo (u : View) (a i : ℕ) (v : View) : Type 0 where
  there : (j : ℕ) → j < i → v.at (a + j) ≡ 0
  zero_is : v.at 1 ≡ 0
  keeps : Keeps u v a i

clear_step : (e : Env) (w : Location) (n s j : ℕ) (u : View) → StandsFrom e w n s Own → (i : ℕ) → j + i < n → (v : View)
    → ClearsTo u (s + j) i v → ClearsTo u (s + j) (suc i) (block e (put_byte 1 w (j + i)) v)
clear_step e w n s j u st i l v h =
    let two = st.clear in
    let here : s + (j + i) ≡ s + j + i = omega arith in
    let put = byte_is_put e 1 w (j + i) (s + (j + i)) v (st.at (j + i) l) (st.kind (j + i) l) in
    let is = put ∙ ap (λ a. set a (v.at 1) v) here in
    let one = put_other v.at (s + j + i) (v.at 1) in
    rw is (record {
      there = λ k z. ⊎_elim (λ t. put_here v.at (s + j + i) (v.at 1) (s + j + k) (omega arith) ∙ h.zero_is)
          (λ t. one (s + j + k) (λ x. t (omega arith)) ∙ h.there k (omega arith)) (cases_eq k i);
      zero_is = one 1 (λ x. omega arith) ∙ h.zero_is;
      keeps = keeps_more u v (set (s + j + i) (v.at 1) v) (s + j) i h.keeps (λ k x y z. one k z) refl refl refl;
    })

pub record Clears (v w : View) (b n : ℕ) : Type 0 where
  pub there : (j : ℕ) → j < n → w.at (b + j) ≡ 0
  pub changes : Changes v w b n

pub clears : (e : Env) (w : Location) (n s j : ℕ) (v : View) → StandsFrom e w n s Own → HoldsNumbers v
    → Clears v (block e (clears_code w j n) v) (s + j) (n - j)
clears e w n s j v st h =
    let two = st.clear in
    let u = change e (Eor 1 1) v in
    let r = chain_holds e (λ i. put_byte 1 w (j + i)) (ClearsTo v (s + j)) (n - j)
    (λ i l x f. clear_step e w n s j v st i (omega arith) x f) u
    (record {
      there = λ k l. absurd (omega arith);
      zero_is = xor_self (v.at 1);
      keeps = record { same = λ k x y o. put_other v.at 1 _ k y; inputs = refl; safe = refl; seen = refl };
    }) in
    record {
      there = r.there;
      changes = changes_by v (block e (clears_code w j n) v) (s + j) (n - j) h r.keeps
          (λ k l. (let z : (block e (clears_code w j n) v).at (s + j + k) < 256 = rw (r.there k l) (omega arith) in z)) (omega arith);
    }

-- ---- bytes that are moved

record MovesTo (u : View) (a b i : ℕ) (v : View) : Type 0 where
  there : (j : ℕ) → j < i → v.at (b + j) ≡ u.at (a + j)
  keeps : Keeps u v b i

move_step : (e : Env) (p w : Location) (n m k s x y r : ℕ) (u : View) → StandsFrom e p n k Own → StandsFrom e w m s Own
    → IsReadFirst (k + x) (s + y) r → x + r ≤ n → y + r ≤ m → (i : ℕ) → i < r → (v : View) → MovesTo u (k + x) (s + y) i v
    → MovesTo u (k + x) (s + y) (suc i) (block e (moved_byte p w x y i) v)
move_step e p w n m k s x y r u sp sw far lx ly i l v h =
    let up = sp.clear in
    let uw = sw.clear in
    let a = k + x + i in
    let b = s + y + i in
    let ea : k + (x + i) ≡ a = omega arith in
    let eb : s + (y + i) ≡ b = omega arith in
    let from : address e p (x + i) ≡ a = sp.at (x + i) (omega arith) ∙ ea in
    let to : address e w (y + i) ≡ b = sw.at (y + i) (omega arith) ∙ eb in
    let kind_from = subst (λ t. KindIs e p t Own) ea (sp.kind (x + i) (omega arith)) in
    let kind_to = subst (λ t. KindIs e w t Own) eb (sw.kind (y + i) (omega arith)) in
    let v1 = set 0 (v.at a) v in
    let w2 = set b (v.at a) v1 in
    let all : block e (moved_byte p w x y i) v ≡ w2 =
    block-append e (take_byte p (x + i)) (put_byte 0 w (y + i)) v
    ∙ ap (λ t. block e (put_byte 0 w (y + i)) t) (byte_is_taken e p (x + i) a v from kind_from)
    ∙ byte_is_put e 0 w (y + i) b v1 to kind_to in
    let same : v.at a ≡ u.at a = h.keeps.same a (omega arith) (omega arith) (not_yet (k + x) (s + y) r i far l) in
    let other = λ (j : ℕ) (z : j ≢ 0) (o : j ≢ b).
    (let q : w2.at j ≡ v.at j = put_other v1.at b (v.at a) j o ∙ put_other v.at 0 (v.at a) j z in q) in
    subst (MovesTo u (k + x) (s + y) (suc i)) (sym all) (record {
      there = λ j z. ⊎_elim
          (λ (t : j ≡ i). put_here v1.at b (v.at a) (s + y + j) (omega arith) ∙ same ∙ ap (λ q. u.at (k + x + q)) (sym t))
          (λ (t : j ≢ i). other (s + y + j) (omega arith) (λ q. t (omega arith)) ∙ h.there j (omega arith)) (cases_eq j i);
      keeps = keeps_more u v w2 (s + y) i h.keeps (λ j z o t. other j z t) refl refl refl;
    })

pub record Moves (v w : View) (a b n : ℕ) : Type 0 where
  pub there : (j : ℕ) → j < n → w.at (b + j) ≡ v.at (a + j)
  pub changes : Changes v w b n

pub moves : (e : Env) (p w : Location) (n m k s x y r : ℕ) (v : View) → StandsFrom e p n k Own → StandsFrom e w m s Own
    → IsReadFirst (k + x) (s + y) r → x + r ≤ n → y + r ≤ m → HoldsNumbers v
    → Moves v (block e (moved_code p w x y r) v) (k + x) (s + y) r
moves e p w n m k s x y r v sp sw far lx ly h =
    let up = sp.clear in
    let uw = sw.clear in
    let u = block e (moved_code p w x y r) v in
    let f = chain_holds e (moved_byte p w x y) (MovesTo v (k + x) (s + y)) r (move_step e p w n m k s x y r v sp sw far lx ly) v
    (record { there = λ j l. absurd (omega arith); keeps = record { same = λ j z o t. refl; inputs = refl; safe = refl; seen = refl } }) in
    record {
      there = f.there;
      changes = changes_by v u (s + y) r h f.keeps
          (λ j l. (let z : u.at (s + y + j) < 256 = rw (f.there j l) (h (k + x + j) (omega arith)) in z)) (omega arith);
    }

-- ---- one bit

pub record Bits (v w : View) (s n number : ℕ) : Type 0 where
  pub number_is : value w.at s n ≡ number
  pub changes : Changes v w s n

pub bits : (b : Bool) (way : Direction) (e : Env) (w : Location) (n s : ℕ) (v : View) → (b ≡ true → 1 ≤ n)
    → StandsFrom e w n s Own → HoldsNumbers v → Bits v (block e (bit_code b way w n) v) s n (after_bit b way n (value v.at s n))
bits false way e w n s v some st h =
    let kept : Keeps v v s n = record { same = λ j x y o. refl; inputs = refl; safe = refl; seen = refl } in
    record { number_is = refl; changes = record { keeps = kept; numbers = h } }
bits true way e w (suc n) s v some st h =
    let t = turned way e w n s v st h in
    record { number_is = t.number_is; changes = record { keeps = t.keeps; numbers = t.numbers } }
bits true way e w zero s v some st h = absurd (let x = some refl in omega (arith, x))
