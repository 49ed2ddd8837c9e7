-- A number whose lowest bytes are left out, and half of it.
use Rattle.std.proofs.Common.{◌≡◌, ℕ, ◌+◌, ◌-◌, ◌*◌, ◌/◌, ◌^◌, ◌<◌, ◌≤◌, Bool, true, false, ◌++◌, sym, ap, ◌∙◌, subst, arith}
use Rattle.std.proofs.lemmas.Nat.{div-mul-add}
use Rattle.ec_asm.specs.declared.pieces.Location.{Location}
use Rattle.ec_asm.specs.View.{View}
use Rattle.ec_asm.specs.Change.{Env, Own}
use Rattle.ec_asm.specs.Items.{block}
use Rattle.ec_asm.specs.Pieces.{StandsFrom, value}
use Rattle.ec_asm.specs.PieceLaws.{HoldsNumbers}
use Rattle.ec_asm.proofs.Hoare.{block-append}
use Rattle.ec_asm.proofs.Numbers.{value_below}
use Rattle.ec_asm.proofs.Sum.{value-same}
use Rattle.ec_select_shifts.specs.declared.shifts.Direction.TheVariants.{Right}
use Rattle.ec_fxcode.proofs.Alike.{value_parts, zeros}
use Rattle.ec_fxcode.proofs.Moves.{part_stands}
use Rattle.ec_fxcode.proofs.Parts.{value_moved}
use Rattle.ec_fxcode_scales.specs.Scales.{clears_code, moved_code, bit_code, lowered_code}
use Rattle.ec_fxcode_scales.proofs.Moves.{Changes, keeps_in, keeps_then, Clears, clears, Moves, moves, Bits, bits}
use Rattle.ec_fxcode_scales.proofs.Numbers.{after_bit}

-- ---- numbers

-- the bytes above the lowest z
above_is : (f g : ℕ → ℕ) (s z m : ℕ) → z ≤ m → ((j : ℕ) → j < z → g (s + j) < 256)
    → ((j : ℕ) → j < m - z → f (s + j) ≡ g (s + z + j)) → value f s (m - z) ≡ value g s m / 256 ^ z
above_is f g s z m l held h =
    let r = m - z in
    let e : m ≡ z + r = omega arith in
    let low = value_below g s z held in
    let parts : value g s m ≡ value g (s + z) r * 256 ^ z + value g s z = ap (value g s) e ∙ value_parts g s z r ∙ omega arith in
    value_moved f g s (s + z) r h ∙ sym (ap (λ t. t / 256 ^ z) parts ∙ div-mul-add (value g (s + z) r) (256 ^ z) (value g s z) low)

-- bytes of 0 above the lowest k add nothing
below_is : (f : ℕ → ℕ) (s k m : ℕ) → k ≤ m → ((j : ℕ) → j < m - k → f (s + k + j) ≡ 0) → value f s m ≡ value f s k
below_is f s k m l h =
    let r = m - k in
    let e : m ≡ k + r = omega arith in
    let z = zeros f (s + k) r h in
    ap (value f s) e ∙ value_parts f s k r ∙ ap (λ t. value f s k + 256 ^ k * t) z ∙ omega arith

-- ---- a number with its lowest bytes left out

pub record Lowers (v w : View) (s m number : ℕ) : Type 0 where
  pub number_is : value w.at s m ≡ number
  pub changes : Changes v w s m

module _ (b : Bool) (e : Env) (w : Location) (m z s : ℕ) (v : View) (st : StandsFrom e w m s Own) (numbers : HoldsNumbers v)
    (below : z ≤ m) (some : b ≡ true → 1 ≤ m - z) where
  abbrev k : ℕ
  k = m - z

  abbrev down : View
  down = block e (moved_code w w z 0 k) v

  abbrev halved : View
  halved = block e (bit_code b (Right false) w k) down

  abbrev cleared : View
  cleared = block e (clears_code w k m) halved

  lowered_as : block e (lowered_code b w m z) v ≡ cleared
  lowered_as =
      block-append e (moved_code w w z 0 k) (bit_code b (Right false) w k ++ clears_code w k m) v
      ∙ block-append e (bit_code b (Right false) w k) (clears_code w k m) down

  one : Moves v down (s + z) (s + 0) k
  one = moves e w w m m s s z 0 k v st st (λ x. absurd (omega arith)) (omega arith) (omega arith) numbers

  two : Bits down halved s k (after_bit b (Right false) k (value down.at s k))
  two = bits b (Right false) e w k s down some (part_stands e w m k s (omega arith) st) one.changes.numbers

  three : Clears halved cleared (s + k) (m - k)
  three = clears e w m s k halved st two.changes.numbers

  down_is : value down.at s k ≡ value v.at s m / 256 ^ z
  down_is =
      let ua = st.clear in
      above_is down.at v.at s z m below (λ j l. numbers (s + j) (omega arith))
      (λ j l. let at : s + 0 + j ≡ s + j = omega arith in subst (λ i. down.at i ≡ v.at (s + z + j)) at (one.there j l))

  cleared_is : value cleared.at s m ≡ value halved.at s k
  cleared_is =
      let ua = st.clear in
      below_is cleared.at s k m (omega arith) three.there
      ∙ value-same cleared.at halved.at s k (λ j l. three.changes.keeps.same (s + j) (omega arith) (omega arith)
      (λ x. absurd (omega arith)))

  lowered_there : Lowers v cleared s m (after_bit b (Right false) k (value v.at s m / 256 ^ z))
  lowered_there = record {
    number_is = cleared_is ∙ two.number_is ∙ ap (after_bit b (Right false) k) down_is;
    changes = record {
      keeps = keeps_then v down cleared s m (keeps_in v down (s + 0) k s m (omega arith) (omega arith) one.changes.keeps)
          (keeps_then down halved cleared s m (keeps_in down halved s k s m (omega arith) (omega arith) two.changes.keeps)
          (keeps_in halved cleared (s + k) (m - k) s m (omega arith) (omega arith) three.changes.keeps));
      numbers = three.changes.numbers;
    };
  }

  pub lowers : Lowers v (block e (lowered_code b w m z) v) s m (after_bit b (Right false) k (value v.at s m / 256 ^ z))
  lowers = subst (λ u. Lowers v u s m (after_bit b (Right false) k (value v.at s m / 256 ^ z))) (sym lowered_as) lowered_there
