-- The number with bytes of 0 below it and bytes of its sign above it.
use Rattle.std.proofs.Common.{◌≡◌, ◌≢◌, ℕ, suc, ◌+◌, ◌-◌, ◌*◌, ◌^◌, ◌<◌, ◌≤◌, ⊎_elim, Bool, sym, ap, ◌∙◌, subst, arith, pow-add, ◌++◌}
use Rattle.std.proofs.lemmas.Bool.{cases_eq, cases_lt}
use Rattle.ec_asm.specs.declared.pieces.Location.{Location}
use Rattle.ec_asm.specs.View.{View}
use Rattle.ec_asm.specs.Change.{Env, Own}
use Rattle.ec_asm.specs.Items.{block}
use Rattle.ec_asm.specs.Pieces.{StandsFrom, Outside, Keeps, value}
use Rattle.ec_asm.specs.PieceLaws.{HoldsNumbers, IsReadFirst}
use Rattle.ec_asm.proofs.Hoare.{block-append}
use Rattle.ec_fxcode.specs.Clamps.{fills_code}
use Rattle.ec_fxcode.specs.ClampLaws.{IsClearOfEnds, AreApart}
use Rattle.ec_fxcode.proofs.Alike.{value_parts, zeros, ones}
use Rattle.ec_fxcode.proofs.Moves.{Signs, clear_byte, part_stands, FillsTo, fills}
use Rattle.ec_fxcode.proofs.Parts.{value_moved}
use Rattle.ec_fxcode_shifts.specs.Shifts.{mark_code}
use Rattle.ec_fxcode_shifts.proofs.Before.{mark_is_byte}
use Rattle.ec_fxcode_shifts.proofs.Entered.{mark_of, marks}
use Rattle.ec_fxcode_shifts.proofs.Right.{beside_31}
use Rattle.ec_fxcode_scales.specs.Scales.{clears_code, moved_code, placed_code}
use Rattle.ec_fxcode_scales.proofs.Moves.{changes_by, keeps_in, keeps_then, Clears, clears, Moves, moves}
use Rattle.ec_fxcode_scales.proofs.Numbers.{IsPlaced}

-- ---- the number

-- what the bytes are, of which the lowest z are 0 and those above z + n are alike
whole_is : (f g : ℕ → ℕ) (s a z n m : ℕ) → z + n ≤ m → ((j : ℕ) → j < z → f (s + j) ≡ 0)
    → ((j : ℕ) → j < n → f (s + z + j) ≡ g (a + j))
    → value f s m ≡ 256 ^ z * (value g a n + 256 ^ n * value f (s + z + n) (m - (z + n)))
whole_is f g s a z n m l low middle =
    let r = m - (z + n) in
    let e : m ≡ z + (n + r) = omega arith in
    let x = zeros f s z low in
    let y = value_moved f g (s + z) a n middle in
    let first : value f s m ≡ value f s z + 256 ^ z * value f (s + z) (n + r) = ap (value f s) e ∙ value_parts f s z (n + r) in
    let second : value f (s + z) (n + r) ≡ value g a n + 256 ^ n * value f (s + z + n) r =
    value_parts f (s + z) n r ∙ ap (λ t. t + 256 ^ n * value f (s + z + n) r) y in
    first ∙ ap (λ t. t + 256 ^ z * value f (s + z) (n + r)) x ∙ ap (λ t. 0 + 256 ^ z * t) second ∙ omega arith

whole_power : (z n m : ℕ) → z + n ≤ m → 256 ^ z * (256 ^ n * 256 ^ (m - (z + n))) ≡ 256 ^ m
whole_power z n m l =
    let r = m - (z + n) in
    let e : z + (n + r) ≡ m = omega arith in
    sym (pow-add 256 z (n + r) ∙ ap (λ t. 256 ^ z * t) (pow-add 256 n r)) ∙ ap (λ t. 256 ^ t) e

filled : (Z B A V R N X : ℕ) → X ≡ Z * (A + B * V) → V + 1 ≡ R → Z * (B * R) ≡ N → A ≤ B → X + Z * (B - A) ≡ N
filled Z B A V R N X e f g l =
    let t : B * (V + 1) ≡ B * R = ap (λ t. B * t) f in
    let sum : A + B * V + (B - A) ≡ B * R = omega (arith, t, l) in
    let u : Z * (A + B * V + (B - A)) ≡ Z * (B * R) = ap (λ t. Z * t) sum in
    omega (arith, e, g, u)

pub placed_value : (f g : ℕ → ℕ) (s a z n m byte : ℕ) → z + n ≤ m → ((j : ℕ) → j < z → f (s + j) ≡ 0)
    → ((j : ℕ) → j < n → f (s + z + j) ≡ g (a + j)) → ((j : ℕ) → j < m - (z + n) → f (s + z + n + j) ≡ byte)
    → value g a n ≤ 256 ^ n → IsPlaced n m z (value g a n) byte (value f s m)
placed_value f g s a z n m byte l low middle high below =
    let r = m - (z + n) in
    let w = whole_is f g s a z n m l low middle in
    let up = s + z + n in
    record {
      plus_is = λ e. (let v = zeros f up r (λ j x. high j x ∙ e) in w ∙ ap (λ t. 256 ^ z * (value g a n + 256 ^ n * t)) v ∙ omega arith);
      minus_is = λ e. filled (256 ^ z) (256 ^ n) (value g a n) (value f up r) (256 ^ r) (256 ^ m) (value f s m) w
          (ones f up r (λ j x. high j x ∙ e)) (whole_power z n m l) below;
    }

-- ---- the run

-- R31 has the byte of the sign, and m bytes from s the number
pub record Places (v u : View) (a s n m z byte : ℕ) : Type 0 where
  pub number_is : value v.at a n ≤ 256 ^ n → IsPlaced n m z (value v.at a n) byte (value u.at s m)
  pub same : (j : ℕ) → j ≢ 0 → j ≢ 1 → j ≢ 31 → Outside s m j → u.at j ≡ v.at j
  pub inputs : u.inputs ≡ v.inputs
  pub safe : u.safe ≡ v.safe
  pub seen : u.seen ≡ v.seen
  pub numbers : HoldsNumbers u

pub signs_numbers : (v w : View) (byte : ℕ) → Signs v w byte → byte < 256 → HoldsNumbers v → HoldsNumbers w
signs_numbers v w byte s l h j k =
    let here = s.sign in
    ⊎_elim (λ (x : j ≡ 31). rw (x, here) l) (λ (x : j ≢ 31). rw (s.same j (λ t. omega arith) x) (h j k)) (cases_eq j 31)

-- bytes among m that are clear of R31
pub clear_of_31 : (s m b k : ℕ) → IsClearOfEnds s m → s ≤ b → b + k ≤ s + m → Outside b k 31
clear_of_31 s m b k c l h x = let y = beside_31 s m c (omega arith) in omega arith

-- a number apart from m bytes is outside all of them
pub outside_by : (a n s m b k j : ℕ) → AreApart a n s m → s ≤ b → b + k ≤ s + m → j < n → Outside b k (a + j)
outside_by a n s m b k j h l x y o =
    ⊎_elim (λ (t : a < s). let f = h.first t in absurd (omega arith)) (λ (t : s ≤ a). let f = h.second t in omega arith) (cases_lt a s)

read_first : (a n s m z : ℕ) → AreApart a n s m → z ≤ m → IsReadFirst (a + 0) (s + z) n
read_first a n s m z h l o =
    ⊎_elim (λ (t : a < s). let f = h.first t in omega arith) (λ (t : s ≤ a). let f = h.second t in absurd (omega arith)) (cases_lt a s)

module _ (e : Env) (signed : Bool) (p w : Location) (l m z a s : ℕ) (v : View) (sp : StandsFrom e p (suc l) a Own)
    (sw : StandsFrom e w m s Own) (apart : AreApart a (suc l) s m) (ca : IsClearOfEnds a (suc l)) (cs : IsClearOfEnds s m)
    (numbers : HoldsNumbers v) (fit : z + suc l ≤ m) where
  abbrev n : ℕ
  n = suc l

  abbrev pub byte : ℕ
  byte = mark_of signed (v.at (a + l))

  abbrev v1 : View
  v1 = block e (mark_code signed p n) v

  abbrev v2 : View
  v2 = block e (clears_code w 0 z) v1

  abbrev v3 : View
  v3 = block e (moved_code p w 0 z n) v2

  abbrev v4 : View
  v4 = block e (fills_code w (z + n) m) v3

  is : block e (mark_code signed p n ++ placed_code p w n m z) v ≡ v4
  is =
      block-append e (mark_code signed p n) (placed_code p w n m z) v
      ∙ block-append e (clears_code w 0 z) (moved_code p w 0 z n ++ fills_code w (z + n) m) v1
      ∙ block-append e (moved_code p w 0 z n) (fills_code w (z + n) m) v2

  small : byte < 256
  small = let two = sp.clear in mark_is_byte signed (v.at (a + l)) (numbers (a + l) (omega arith))

  one : Signs v v1 byte
  one = let two = sp.clear in marks e signed p l (a + l) v (sp.at l (omega arith)) (sp.kind l (omega arith)) (numbers (a + l) (omega arith))

  two : Clears v1 v2 (s + 0) (z - 0)
  two = clears e w z s 0 v1 (part_stands e w m z s (omega arith) sw) (signs_numbers v v1 byte one small numbers)

  three : Moves v2 v3 (a + 0) (s + z) n
  three = moves e p w n m a s 0 z n v2 sp sw (read_first a n s m z apart (omega arith)) (omega arith) (omega arith) two.changes.numbers

  low_there : (j : ℕ) → j < z → v2.at (s + j) ≡ 0
  low_there j x = let at : s + 0 + j ≡ s + j = omega arith in subst (λ i. v2.at i ≡ 0) at (two.there j (omega arith))

  from_there : (j : ℕ) → j < n → v2.at (a + 0 + j) ≡ v.at (a + j)
  from_there j x =
      let f = clear_byte a n j ca sp.clear x in
      let at : a + 0 + j ≡ a + j = omega arith in
      ap v2.at at ∙ two.changes.keeps.same (a + j) f.0 f.1 (outside_by a n s m (s + 0) (z - 0) j apart (omega arith) (omega arith) x)
      ∙ one.same (a + j) f.0 f.3

  sign_there : v3.at 31 ≡ byte
  sign_there =
      three.changes.keeps.same 31 (omega arith) (omega arith) (clear_of_31 s m (s + z) n cs (omega arith) (omega arith))
      ∙ two.changes.keeps.same 31 (omega arith) (omega arith) (clear_of_31 s m (s + 0) (z - 0) cs (omega arith) (omega arith)) ∙ one.sign

  four : FillsTo v3 (s + (z + n)) byte (m - (z + n)) v4
  four = fills e w m s (z + n) byte v3 sw cs sign_there

  -- the bytes at last
  low : (j : ℕ) → j < z → v4.at (s + j) ≡ 0
  low j x =
      let t = sw.clear in
      four.keeps.same (s + j) (omega arith) (omega arith) (λ y. absurd (omega arith))
      ∙ three.changes.keeps.same (s + j) (omega arith) (omega arith) (λ y. absurd (omega arith)) ∙ low_there j x

  middle : (j : ℕ) → j < n → v4.at (s + z + j) ≡ v.at (a + j)
  middle j x =
      let t = sw.clear in
      four.keeps.same (s + z + j) (omega arith) (omega arith) (λ y. absurd (omega arith)) ∙ three.there j x ∙ from_there j x

  high : (j : ℕ) → j < m - (z + n) → v4.at (s + z + n + j) ≡ byte
  high j x = let at : s + (z + n) + j ≡ s + z + n + j = omega arith in subst (λ i. v4.at i ≡ byte) at (four.there j x)

  -- what is kept
  kept : Keeps v1 v4 s m
  kept =
      keeps_then v1 v2 v4 s m (keeps_in v1 v2 (s + 0) (z - 0) s m (omega arith) (omega arith) two.changes.keeps)
      (keeps_then v2 v3 v4 s m (keeps_in v2 v3 (s + z) n s m (omega arith) (omega arith) three.changes.keeps)
      (keeps_in v3 v4 (s + (z + n)) (m - (z + n)) s m (omega arith) (omega arith) four.keeps))

  held : (j : ℕ) → j < m - (z + n) → v4.at (s + (z + n) + j) < 256
  held j x = let q = four.there j x in rw q small

  placed_there : Places v v4 a s n m z byte
  placed_there =
      let t = sw.clear in
      let last = changes_by v3 v4 (s + (z + n)) (m - (z + n)) three.changes.numbers four.keeps held (omega arith) in
      record {
        number_is = placed_value v4.at v.at s a z n m byte fit low middle high;
        same = λ j x y o f. kept.same j x y f ∙ one.same j x o;
        inputs = kept.inputs ∙ one.inputs;
        safe = kept.safe ∙ one.safe;
        seen = kept.seen ∙ one.seen;
        numbers = last.numbers;
      }

  pub places : Places v (block e (mark_code signed p n ++ placed_code p w n m z) v) a s n m z byte
  places = subst (λ u. Places v u a s n m z byte) (sym is) placed_there
