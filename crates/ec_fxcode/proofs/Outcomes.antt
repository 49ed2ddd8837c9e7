-- What the code after the low bytes leaves: the low bytes where the number fits, and else an end of the range.
use Rattle.std.proofs.Common.{◌≡◌, ◌≢◌, ℕ, suc, ◌+◌, ◌-◌, ◌*◌, ◌/◌, ◌^◌, ◌<◌, ◌≤◌, ◌⊎◌, inl, inr, ⊎_elim, true, false, List, ◌++◌, refl}
use Rattle.std.proofs.Common.{sym, ap, ◌∙◌, arith}
use Rattle.std.proofs.lemmas.Bool.{cases_eq, cases_lt}
use Rattle.ec_asm.specs.declared.items.AsmItem.{AsmItem}
use Rattle.ec_asm.specs.declared.pieces.Location.{Location}
use Rattle.ec_asm.specs.View.{View}
use Rattle.ec_asm.specs.Change.{Env, Own}
use Rattle.ec_asm.specs.Items.{block}
use Rattle.ec_asm.specs.Pieces.{StandsFrom, value}
use Rattle.ec_asm.specs.PieceLaws.{AreHeld}
use Rattle.ec_asm.proofs.Hoare.{block-append}
use Rattle.ec_asm.proofs.Sum.{value-same}
use Rattle.ec_fxcode.specs.Clamps.{wanted_code, gather_code, masks_code, ends_code, saturate_code}
use Rattle.ec_fxcode.specs.ClampLaws.{IsClearOfEnds}
use Rattle.ec_fxcode.proofs.Alike.{zeros, ones, fill}
use Rattle.ec_fxcode.proofs.Ends.{ended, topped, Ends, ends_signed, ends_unsigned, ended_kept, topped_kept, ended_out, topped_above}
use Rattle.ec_fxcode.proofs.Ends.{topped_below}
use Rattle.ec_fxcode.proofs.Gathered.{Wants, wants_sign, wants_none, Gathers, gathers, Masks, masked}
use Rattle.ec_fxcode.proofs.Moves.{KeepsBut, clear_byte}

-- the bytes that are looked at are what they have to be, and the low ones are kept
pub record Fits (v w : View) (b k a r t c : ℕ) (top : ℕ → ℕ → ℕ → ℕ) : Type 0 where
  pub starts : c ≡ 0
  pub all : (j : ℕ) → j < r → v.at (a + j) ≡ t
  pub low : (j : ℕ) → j < k → w.at (b + j) ≡ ended (v.at (b + j)) 255 0
  pub top_is : w.at (b + k) ≡ top (v.at (b + k)) 255 0

-- they are not, and the end of the range was put there
pub record Passes (v w : View) (b k a r t c byte : ℕ) (top : ℕ → ℕ → ℕ → ℕ) : Type 0 where
  pub passes : c ≡ 0 → ((j : ℕ) → j < r → v.at (a + j) ≡ t) → ⊥
  pub low : (j : ℕ) → j < k → w.at (b + j) ≡ ended (v.at (b + j)) 0 (255 - byte)
  pub top_is : w.at (b + k) ≡ top (v.at (b + k)) 0 (255 - byte)

pub record Saturates (v w : View) (b k a r t c byte : ℕ) (top : ℕ → ℕ → ℕ → ℕ) : Type 0 where
  pub keeps : KeepsBut v w b (suc k)
  pub first : w.at 30 < 256
  pub second : w.at 31 < 256
  pub outcome : Fits v w b k a r t c top ⊎ Passes v w b k a r t c byte top

-- ---- the way to it

-- what a wanted sign, what was gathered and the masks keep
record Same (v w : View) : Type 0 where
  same : (j : ℕ) → j ≢ 0 → j ≢ 1 → j ≢ 30 → j ≢ 31 → w.at j ≡ v.at j
  inputs : w.inputs ≡ v.inputs
  safe : w.safe ≡ v.safe
  seen : w.seen ≡ v.seen

same_all : (v v2 v3 v4 : View) (a t c c2 r : ℕ) → Wants v v2 t c → Gathers v2 a t c r v3 → Masks v3 v4 → Same v v4
same_all v v2 v3 v4 a t c c2 r p g m = record {
  same = λ j x y z w. m.same j z w ∙ g.same j x z ∙ p.same j x y z;
  inputs = m.inputs ∙ g.inputs ∙ p.inputs;
  safe = m.safe ∙ g.safe ∙ p.safe;
  seen = m.seen ∙ g.seen ∙ p.seen;
}

keeps_all : (v v4 w : View) (b k : ℕ) → Same v v4 → KeepsBut v4 w b k → KeepsBut v w b k
keeps_all v v4 w b k s h = record {
  same = λ j x y z t o. h.same j x y z t o ∙ s.same j x y z t;
  inputs = h.inputs ∙ s.inputs;
  safe = h.safe ∙ s.safe;
  seen = h.seen ∙ s.seen;
}

old_bytes : (v v4 w : View) (b k m s : ℕ) (top : ℕ → ℕ → ℕ → ℕ) → 2 ≤ b → IsClearOfEnds b (suc k) → Same v v4
    → Ends v4 b k m s top w
    → ((j : ℕ) → j < k → w.at (b + j) ≡ ended (v.at (b + j)) m s) × (w.at (b + k) ≡ top (v.at (b + k)) m s)
old_bytes v v4 w b k m s top two clear same h = (
  λ j l. (let f = clear_byte b (suc k) j clear two (omega arith) in h.low j l ∙ ap (λ x. ended x m s) (same.same (b + j) f.0 f.1 f.2 f.3)),
  let f = clear_byte b (suc k) k clear two (omega arith) in
      h.top_is ∙ ap (λ x. top x m s) (same.same (b + k) f.0 f.1 f.2 f.3),
)

saturated : (v v2 v3 v4 w : View) (b k a r t c byte : ℕ) (top : ℕ → ℕ → ℕ → ℕ) → 2 ≤ b → IsClearOfEnds b (suc k)
    → ((j : ℕ) → j < r → v2.at (a + j) ≡ v.at (a + j)) → v.at 31 ≡ byte → byte < 256
    → Wants v v2 t c → Gathers v2 a t c r v3 → Masks v3 v4
    → ((m s : ℕ) → m < 256 → s < 256 → v4.at 30 ≡ m → v4.at 31 ≡ s → Ends v4 b k m s top w)
    → Saturates v w b k a r t c byte top
saturated v v2 v3 v4 w b k a r t c byte top two clear looked is l p g m ends =
    let same = same_all v v2 v3 v4 a t c c r p g m in
    ⊎_elim
    (λ zero_is.
    let f = m.fits zero_is in
    let h = ends 255 0 (omega arith) (omega arith) f.0 f.1 in
    let old = old_bytes v v4 w b k 255 0 top two clear same h in
    record {
      keeps = keeps_all v v4 w b (suc k) same h.keeps;
      first = h.first;
      second = h.second;
      outcome = inl (record { starts = g.starts zero_is; all = λ j x. sym (looked j x) ∙ g.only zero_is j x; low = old.0; top_is = old.1 });
    })
    (λ not_zero.
    let f = m.passes not_zero in
    let sign : v3.at 31 ≡ byte =
    g.same 31 (λ x. omega arith) (λ x. omega arith) ∙ p.same 31 (λ x. omega arith) (λ x. omega arith) (λ x. omega arith) ∙ is in
    let h = ends 0 (255 - byte) (omega arith) (omega arith) f.0 (f.1 ∙ ap (λ x. 255 - x) sign) in
    let old = old_bytes v v4 w b k 0 (255 - byte) top two clear same h in
    record {
      keeps = keeps_all v v4 w b (suc k) same h.keeps;
      first = h.first;
      second = h.second;
      outcome = inr (record { passes = λ z all. not_zero (g.stays z (λ j x. looked j x ∙ all j x)); low = old.0; top_is = old.1 });
    })
    (cases_eq (v3.at 30) 0)

-- ---- the numbers

pub fits_signed : (v w : View) (b k a r t c : ℕ) → AreHeld v.at b (suc k) → Fits v w b k a r t c topped
    → value w.at b (suc k) ≡ value v.at b (suc k)
fits_signed v w b k a r t c h f =
    let low = value-same w.at v.at b k (λ j l. f.low j l ∙ ended_kept (v.at (b + j)) (h j (omega arith))) in
    let top = f.top_is ∙ topped_kept (v.at (b + k)) (h k (omega arith)) in
    rw (low, top) refl

pub fits_unsigned : (v w : View) (b k a r t c : ℕ) → AreHeld v.at b (suc k) → Fits v w b k a r t c ended
    → value w.at b (suc k) ≡ value v.at b (suc k)
fits_unsigned v w b k a r t c h f =
    let low = value-same w.at v.at b k (λ j l. f.low j l ∙ ended_kept (v.at (b + j)) (h j (omega arith))) in
    let top = f.top_is ∙ ended_kept (v.at (b + k)) (h k (omega arith)) in
    rw (low, top) refl

-- the greatest number, and the least one
pub passes_above : (v w : View) (b k a r t c byte : ℕ) → byte ≡ 0 → Passes v w b k a r t c byte topped
    → value w.at b (suc k) + 1 ≡ 128 * 256 ^ k
passes_above v w b k a r t c byte z f =
    let low = ones w.at b k (λ j l. f.low j l ∙ rw z (ended_out (v.at (b + j)) 255 (omega arith))) in
    let top : w.at (b + k) ≡ 127 = f.top_is ∙ rw z (topped_above (v.at (b + k))) in
    rw top (omega arith)

pub passes_below : (v w : View) (b k a r t c byte : ℕ) → byte ≡ 255 → Passes v w b k a r t c byte topped
    → value w.at b (suc k) ≡ 128 * 256 ^ k
passes_below v w b k a r t c byte z f =
    let low = zeros w.at b k (λ j l. f.low j l ∙ rw z (ended_out (v.at (b + j)) 0 (omega arith))) in
    let top : w.at (b + k) ≡ 128 = f.top_is ∙ rw z (topped_below (v.at (b + k))) in
    rw (low, top) (omega arith)

all_ends : (v w : View) (b k a r t c byte : ℕ) → byte < 256 → Passes v w b k a r t c byte ended → (j : ℕ) → j < suc k
    → w.at (b + j) ≡ 255 - byte
all_ends v w b k a r t c byte l f j m =
    ⊎_elim (λ s. rw s (f.top_is ∙ ended_out (v.at (b + k)) (255 - byte) (omega arith)))
    (λ s. f.low j (omega arith) ∙ ended_out (v.at (b + j)) (255 - byte) (omega arith)) (cases_eq j k)

pub passes_over : (v w : View) (b k a r t c byte : ℕ) → byte ≡ 0 → Passes v w b k a r t c byte ended
    → value w.at b (suc k) + 1 ≡ 256 ^ suc k
passes_over v w b k a r t c byte z f =
    ones w.at b (suc k) (λ j l. all_ends v w b k a r t c byte (omega arith) f j l ∙ ap (λ x. 255 - x) z)

pub passes_under : (v w : View) (b k a r t c byte : ℕ) → byte ≡ 255 → Passes v w b k a r t c byte ended
    → value w.at b (suc k) ≡ 0
passes_under v w b k a r t c byte z f =
    zeros w.at b (suc k) (λ j l. all_ends v w b k a r t c byte (omega arith) f j l ∙ ap (λ x. 255 - x) z)

-- ---- the code

looked_same : (v v2 : View) (a n i t c : ℕ) → 2 ≤ a → IsClearOfEnds a n → Wants v v2 t c → (j : ℕ) → j < n - i
    → v2.at (a + i + j) ≡ v.at (a + i + j)
looked_same v v2 a n i t c two clear p j m =
    let f = clear_byte a n (i + j) clear two (omega arith) in
    p.same (a + i + j) (λ x. f.0 (omega arith)) (λ x. f.1 (omega arith)) (λ x. f.2 (omega arith))

all_same : (v v2 : View) (a n t c : ℕ) → 2 ≤ a → IsClearOfEnds a n → Wants v v2 t c → AreHeld v.at a n
    → AreHeld v2.at a n
all_same v v2 a n t c two clear p h j l =
    let f = clear_byte a n j clear two l in
    let e = p.same (a + j) f.0 f.1 f.2 in
    rw e (h j l)

fill_below : (x : ℕ) → x < 256 → fill x < 256
fill_below x l =
    ⊎_elim (λ (m : x < 128). omega arith) (λ (m : 128 ≤ x). let q : x / 128 ≡ 1 = omega arith in rw q (omega arith)) (cases_lt x 128)

parts : (e : Env) (a b c d : List AsmItem) (v : View)
    → block e (a ++ (b ++ (c ++ d))) v ≡ block e d (block e c (block e b (block e a v)))
parts e a b c d v =
    block-append e a (b ++ (c ++ d)) v ∙ block-append e b (c ++ d) (block e a v) ∙ block-append e c d (block e b (block e a v))

pub saturates_signed : (e : Env) (p q : Location) (n k a b byte : ℕ) (v : View) → StandsFrom e p n a Own
    → StandsFrom e q (suc k) b Own → IsClearOfEnds a n → IsClearOfEnds b (suc k) → AreHeld v.at a n → suc k ≤ n
    → v.at 31 ≡ byte → byte < 256
    → Saturates v (block e (saturate_code true p q n (suc k)) v) b k (a + suc k) (n - suc k) (fill (v.at (a + k))) 0 byte topped
saturates_signed e p q n k a b byte v sa sb ca cb h l is m =
    let wc = wanted_code true p (suc k) in
    let gc = gather_code p (suc k) n in
    let ec = ends_code true q (suc k) in
    let t = fill (v.at (a + k)) in
    let v2 = block e wc v in
    let v3 = block e gc v2 in
    let v4 = block e masks_code v3 in
    let w2 = wants_sign e p k (a + k) v (sa.at k (omega arith)) (sa.kind k (omega arith)) (h k (omega arith)) in
    let g = gathers e p n a (suc k) t 0 v2 sa ca (all_same v v2 a n t 0 sa.clear ca w2 h) (fill_below (v.at (a + k)) (h k (omega arith)))
    (omega arith) w2.wanted w2.start_is in
    rw (parts e wc gc masks_code ec v)
    (saturated v v2 v3 v4 (block e ec v4) b k (a + suc k) (n - suc k) t 0 byte topped sb.clear cb
    (looked_same v v2 a n (suc k) t 0 sa.clear ca w2) is m w2 g (masked e v3) (λ x s xl sl y z. ends_signed e q k b x s v4 sb cb xl sl y z))

pub saturates_unsigned : (e : Env) (p q : Location) (n k a b byte : ℕ) (v : View) → StandsFrom e p n a Own
    → StandsFrom e q (suc k) b Own → IsClearOfEnds a n → IsClearOfEnds b (suc k) → AreHeld v.at a n → v.at 31 ≡ byte
    → byte < 256
    → Saturates v (block e (saturate_code false p q n (suc k)) v) b k (a + suc k) (n - suc k) 0 byte byte ended
saturates_unsigned e p q n k a b byte v sa sb ca cb h is m =
    let wc = wanted_code false p (suc k) in
    let gc = gather_code p (suc k) n in
    let ec = ends_code false q (suc k) in
    let v2 = block e wc v in
    let v3 = block e gc v2 in
    let v4 = block e masks_code v3 in
    let w2 : Wants v v2 0 byte = rw (← is) (wants_none e p (suc k) v) in
    let g = gathers e p n a (suc k) 0 byte v2 sa ca (all_same v v2 a n 0 byte sa.clear ca w2 h) (omega arith) m w2.wanted w2.start_is in
    rw (parts e wc gc masks_code ec v)
    (saturated v v2 v3 v4 (block e ec v4) b k (a + suc k) (n - suc k) 0 byte byte ended sb.clear cb
    (looked_same v v2 a n (suc k) 0 byte sa.clear ca w2) is m w2 g (masked e v3)
    (λ x s xl sl y z. ends_unsigned e q k b x s v4 sb cb xl sl y z))
