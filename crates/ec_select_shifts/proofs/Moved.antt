-- Bytes of a number that move by whole bytes.
use Rattle.std.proofs.Common.{◌≡◌, ◌≢◌, ℕ, suc, ◌+◌, ◌-◌, ◌*◌, ◌/◌, ◌<◌, ◌≤◌, ⊎_elim, Bool, true, false, refl, ap, ◌∙◌, subst, arith}
use Rattle.std.proofs.Common.{[], ◌∷◌, bit_xor, leb-true}
use Rattle.std.specs.Prelude.{nat_le, nat_lt, if◌then◌else◌}
use Rattle.std.specs.Int.Bits.{xor_self}
use Rattle.std.proofs.lemmas.Bool.{cases_eq, cases_lt}
use Rattle.std.proofs.lemmas.Bool.Decides.{nat_tests}
use Rattle.ec_isa.specs.declared.instructions.Instr.TheVariants.{Mov, Eor, Add}
use Rattle.ec_avr.specs.Flags.{byte_sum, byte_difference}
use Rattle.ec_asm.specs.declared.items.AsmItem.TheVariants.{Plain}
use Rattle.ec_asm.specs.View.{View}
use Rattle.ec_asm.specs.Change.{Env, set, change}
use Rattle.ec_asm.specs.Items.{block, chain}
use Rattle.ec_asm.specs.Pieces.{Outside}
use Rattle.ec_asm.proofs.Bytes.{put_here, put_other}
use Rattle.ec_asm.proofs.Hoare.{block-append, chain_holds}
use Rattle.ec_select_shifts.specs.declared.shifts.Direction.{Direction}
use Rattle.ec_select_shifts.specs.declared.shifts.Direction.TheVariants.{Left, Right}
use Rattle.ec_select_shifts.specs.Shifts.{sign_code, filled_byte, raised_byte, lowered_byte, moved_byte, moved_code, first_moved}

-- ---- one register

pub record Puts (v w : View) (d x : ℕ) : Type 0 where
  pub here : w.at d ≡ x
  pub same : (k : ℕ) → k ≢ d → w.at k ≡ v.at k
  pub inputs : w.inputs ≡ v.inputs
  pub safe : w.safe ≡ v.safe
  pub seen : w.seen ≡ v.seen

pub moves : (e : Env) (d r : ℕ) (v : View) → Puts v (block e (Plain (Mov d r) ∷ []) v) d (v.at r)
moves e d r v = record {
  here = put_here v.at d (v.at r) d refl;
  same = λ k q. put_other v.at d (v.at r) k q;
  inputs = refl;
  safe = refl;
  seen = refl;
}

clears : (e : Env) (d : ℕ) (v : View) → Puts v (block e (Plain (Eor d d) ∷ []) v) d 0
clears e d v =
    let x = bit_xor (v.at d) (v.at d) in
    record {
      here = put_here v.at d x d refl ∙ xor_self (v.at d);
      same = λ k q. put_other v.at d x k q;
      inputs = refl;
      safe = refl;
      seen = refl;
    }

-- ---- the sign

-- the byte above a number whose highest byte is this
abbrev pub fill_of : Direction → (top : ℕ) → ℕ
fill_of (Right true) top = 255 * (top / 128)
fill_of s top = 0

-- what R0 then has of it
abbrev work_of : Direction → (work : ℕ) → ℕ
work_of (Right true) work = work
work_of s work = 0

record Signs (s : Direction) (top : ℕ) (v w : View) : Type 0 where
  work : work_of s (w.at 0) ≡ fill_of s top
  same : (k : ℕ) → k ≢ 0 → w.at k ≡ v.at k
  inputs : w.inputs ≡ v.inputs
  safe : w.safe ≡ v.safe
  seen : w.seen ≡ v.seen

all_bits : (x : ℕ) → x < 256 → byte_difference (byte_sum x x 0) (byte_sum x x 0) ((x + x + 0) / 256) ≡ 255 * (x / 128)
all_bits x l =
    ⊎_elim
    (λ (g : x < 128).
    let a : (x + x + 0) / 256 ≡ 0 = omega arith in
    let b : x / 128 ≡ 0 = omega arith in
    rw (a, b) (omega arith))
    (λ (g : 128 ≤ x).
    let a : (x + x + 0) / 256 ≡ 1 = omega arith in
    let b : x / 128 ≡ 1 = omega arith in
    rw (a, b) (omega arith))
    (cases_lt x 128)

signs : (s : Direction) (e : Env) (r n : ℕ) (v : View) → v.at (r + (n - 1)) < 256
    → Signs s (v.at (r + (n - 1))) v (block e (sign_code s r n) v)
signs Left e r n v l = record { work = refl; same = λ k z. refl; inputs = refl; safe = refl; seen = refl }
signs (Right false) e r n v l = record { work = refl; same = λ k z. refl; inputs = refl; safe = refl; seen = refl }
signs (Right true) e r n v l =
    let v1 = set 0 (v.at (r + (n - 1))) v in
    let v2 = change e (Add 0 0) v1 in
    record {
      work = all_bits (v.at (r + (n - 1))) l;
      same = λ k z. put_other v2.at 0 _ k z ∙ put_other v1.at 0 _ k z ∙ put_other v.at 0 (v.at (r + (n - 1))) k z;
      inputs = refl;
      safe = refl;
      seen = refl;
    }

-- ---- byte by byte

-- i bytes of the number in registers from r on, from its byte f on, have become these
pub record MovesTo (v0 : View) (r f i : ℕ) (byte : ℕ → ℕ) (v : View) : Type 0 where
  pub there : (j : ℕ) → f ≤ j → j < f + i → v.at (r + j) ≡ byte j
  pub work : v.at 0 ≡ v0.at 0
  pub rest : (k : ℕ) → k ≢ 0 → Outside (r + f) i k → v.at k ≡ v0.at k
  pub inputs : v.inputs ≡ v0.inputs
  pub safe : v.safe ≡ v0.safe
  pub seen : v.seen ≡ v0.seen

-- the next byte, above them or below them
pub next : (v0 v w : View) (r f g i : ℕ) (byte : ℕ → ℕ) (j : ℕ) → 2 ≤ r → f ≤ g → g + i ≤ f + 1 + i
    → ((k : ℕ) → f ≤ k → k < f + suc i → k ≢ j → (g ≤ k) × (k < g + i)) → f ≤ j → j < f + suc i
    → MovesTo v0 r g i byte v → Puts v w (r + j) (byte j) → MovesTo v0 r f (suc i) byte w
next v0 v w r f g i byte j two below above others from to h p = record {
  there = λ k x y. ⊎_elim
      (λ (q : k ≡ j). subst (λ z. w.at (r + z) ≡ byte z) (omega arith) p.here)
      (λ (q : k ≢ j). let o = others k x y q in p.same (r + k) (λ z. q (omega arith)) ∙ h.there k o.0 o.1) (cases_eq k j);
  work = p.same 0 (omega arith) ∙ h.work;
  rest = λ k z o. p.same k (λ q. not_here k q o) ∙ h.rest k z (λ l. outside k l o);
  inputs = p.inputs ∙ h.inputs;
  safe = p.safe ∙ h.safe;
  seen = p.seen ∙ h.seen;
}
  where
    not_here : (k : ℕ) → k ≡ r + j → (r + f ≤ k → r + f + suc i ≤ k) → ⊥
    not_here k q o = let z = o (omega arith) in absurd (omega arith)

    outside : (k : ℕ) → r + g ≤ k → (r + f ≤ k → r + f + suc i ≤ k) → r + g + i ≤ k
    outside k l o = let z = o (omega arith) in omega arith

-- what they become
abbrev raised : View → (r q j : ℕ) → ℕ
raised v r q j = if nat_le q j then v.at (r + (j - q)) else 0

abbrev lowered : (signed : Bool) → View → (r n q j : ℕ) → ℕ
lowered signed v r n q j = if nat_lt (q + j) n then v.at (r + (q + j)) else work_of (Right signed) (v.at 0)

fills_right : (signed : Bool) (e : Env) (d : ℕ) (v : View)
    → Puts v (block e (filled_byte (Right signed) d) v) d (work_of (Right signed) (v.at 0))
fills_right true e d v = moves e d 0 v
fills_right false e d v = clears e d v

raise_step : (e : Env) (r n q : ℕ) (v0 : View) → 2 ≤ r → (i : ℕ) → i < n → (v : View)
    → MovesTo v0 r (n - i) i (raised v0 r q) v
    → MovesTo v0 r (n - suc i) (suc i) (raised v0 r q) (block e (moved_byte Left r n q i) v)
raise_step e r n q v0 two i l v h =
    next v0 v (block e (raised_byte r q (n - 1 - i)) v) r (n - suc i) (n - i) i (raised v0 r q) (n - 1 - i) two (omega arith) (omega arith)
    (λ k x y z. (omega arith, omega arith)) (omega arith) (omega arith) h (by_place (nat_le q (n - 1 - i)) refl)
  where
    by_place : (b : Bool) → nat_le q (n - 1 - i) ≡ b
        → Puts v (block e (if b then Plain (Mov (r + (n - 1 - i)) (r + (n - 1 - i - q))) ∷ [] else filled_byte Left (r + (n - 1 - i))) v)
        (r + (n - 1 - i)) (if b then v0.at (r + (n - 1 - i - q)) else 0)
    by_place true t =
        let m : q ≤ n - 1 - i = leb-true q (n - 1 - i) t in
        let old = h.rest (r + (n - 1 - i - q)) (omega arith) (λ x. absurd (omega arith)) in
        subst (λ x. Puts v (block e (Plain (Mov (r + (n - 1 - i)) (r + (n - 1 - i - q))) ∷ []) v) (r + (n - 1 - i)) x) old
        (moves e (r + (n - 1 - i)) (r + (n - 1 - i - q)) v)
    by_place false t = clears e (r + (n - 1 - i)) v

lower_step : (signed : Bool) (e : Env) (r n q : ℕ) (v0 : View) → 2 ≤ r → (i : ℕ) → i < n → (v : View)
    → MovesTo v0 r 0 i (lowered signed v0 r n q) v
    → MovesTo v0 r 0 (suc i) (lowered signed v0 r n q) (block e (moved_byte (Right signed) r n q i) v)
lower_step signed e r n q v0 two i l v h =
    next v0 v (block e (lowered_byte signed r n q i) v) r 0 0 i (lowered signed v0 r n q) i two (omega arith) (omega arith)
    (λ k x y z. (omega arith, omega arith)) (omega arith) (omega arith) h (by_place (nat_lt (q + i) n) refl)
  where
    by_place : (b : Bool) → nat_lt (q + i) n ≡ b
        → Puts v (block e (if b then Plain (Mov (r + i) (r + (q + i))) ∷ [] else filled_byte (Right signed) (r + i)) v) (r + i)
        (if b then v0.at (r + (q + i)) else work_of (Right signed) (v0.at 0))
    by_place true t =
        let old = h.rest (r + (q + i)) (omega arith) (λ x. omega arith) in
        subst (λ x. Puts v (block e (Plain (Mov (r + i) (r + (q + i))) ∷ []) v) (r + i) x) old (moves e (r + i) (r + (q + i)) v)
    by_place false t =
        subst (λ x. Puts v (block e (filled_byte (Right signed) (r + i)) v) (r + i) (work_of (Right signed) x)) h.work
        (fills_right signed e (r + i) v)

-- ---- all of them

-- where the bytes stood that move, and where those begin into which none moves
abbrev pub moved_from : Direction → (r q : ℕ) → ℕ
moved_from Left r q = r
moved_from (Right signed) r q = r + q

abbrev pub first_filled : Direction → (r m : ℕ) → ℕ
first_filled Left r m = r
first_filled (Right signed) r m = r + m

-- of m + q bytes m have moved by q, and q are filled
pub record Moves (s : Direction) (r m q : ℕ) (v w : View) : Type 0 where
  pub moved : (j : ℕ) → j < m → w.at (first_moved s r q + j) ≡ v.at (moved_from s r q + j)
  pub filled : (j : ℕ) → j < q → w.at (first_filled s r m + j) ≡ fill_of s (v.at (r + (m + q - 1)))
  pub same : (k : ℕ) → k ≢ 0 → Outside r (m + q) k → w.at k ≡ v.at k
  pub inputs : w.inputs ≡ v.inputs
  pub safe : w.safe ≡ v.safe
  pub seen : w.seen ≡ v.seen

pub start : (v : View) (r f : ℕ) (byte : ℕ → ℕ) → MovesTo v r f 0 byte v
start v r f byte = record {
  there = λ j x y. absurd (omega arith);
  work = refl;
  rest = λ k z o. refl;
  inputs = refl;
  safe = refl;
  seen = refl;
}

pub bytes_move : (s : Direction) (e : Env) (r m q : ℕ) (v : View) → 2 ≤ r → v.at (r + (m + q - 1)) < 256
    → Moves s r m q v (block e (moved_code s r (m + q) q) v)
bytes_move Left e r m q v two l =
    let n = m + q in
    let all : n - n ≡ 0 = omega arith in
    let h0 = chain_holds e (moved_byte Left r n q) (λ i u. MovesTo v r (n - i) i (raised v r q) u) n
    (λ i k u x. raise_step e r n q v two i k u x) v (start v r (n - 0) (raised v r q)) in
    let h = subst (λ f. MovesTo v r f n (raised v r q) (block e (moved_code Left r n q) v)) all h0 in
    record {
      moved = λ j k.
          let up : nat_le q (q + j) ≡ true = yes (q + j) (omega arith) in
          let at : r + q + j ≡ r + (q + j) = omega arith in
          let less : q + j - q ≡ j = omega arith in
          ap (λ i. (block e (moved_code Left r n q) v).at i) at ∙ h.there (q + j) (omega arith) (omega arith)
          ∙ rw (up, less) refl;
      filled = λ j k.
          let down : nat_le q j ≡ false = no j k in
          h.there j (omega arith) (omega arith) ∙ rw down refl;
      same = λ k z o. h.rest k z (λ x. let y = o (omega arith) in omega arith);
      inputs = h.inputs;
      safe = h.safe;
      seen = h.seen;
    }
  where
    yes : (j : ℕ) → q ≤ j → nat_le q j ≡ true
    yes j x = grind (arith, nat_tests)

    no : (j : ℕ) → j < q → nat_le q j ≡ false
    no j x = grind (arith, nat_tests)
bytes_move (Right signed) e r m q v two l =
    let n = m + q in
    let v1 = block e (sign_code (Right signed) r n) v in
    let g = signs (Right signed) e r n v l in
    let h = chain_holds e (moved_byte (Right signed) r n q) (λ i u. MovesTo v1 r 0 i (lowered signed v1 r n q) u) n
    (λ i k u x. lower_step signed e r n q v1 two i k u x) v1 (start v1 r 0 (lowered signed v1 r n q)) in
    rw (block-append e (sign_code (Right signed) r n) (chain (moved_byte (Right signed) r n q) n) v) (record {
      moved = λ j k.
          let down : nat_lt (q + j) n ≡ true = yes (q + j) (omega arith) in
          let at : r + (q + j) ≡ r + q + j = omega arith in
          h.there j (omega arith) (omega arith) ∙ rw down (g.same (r + (q + j)) (omega arith)) ∙ ap (λ i. v.at i) at;
      filled = λ j k.
          let past : nat_lt (q + (m + j)) n ≡ false = no (q + (m + j)) (omega arith) in
          let at : r + m + j ≡ r + (m + j) = omega arith in
          rw at (h.there (m + j) (omega arith) (omega arith) ∙ rw past g.work);
      same = λ k z o. h.rest k z (λ x. let y = o (omega arith) in omega arith) ∙ g.same k z;
      inputs = h.inputs ∙ g.inputs;
      safe = h.safe ∙ g.safe;
      seen = h.seen ∙ g.seen;
    })
  where
    yes : (j : ℕ) → j < m + q → nat_lt j (m + q) ≡ true
    yes j x = grind (arith, nat_tests)

    no : (j : ℕ) → m + q ≤ j → nat_lt j (m + q) ≡ false
    no j x = grind (arith, nat_tests)
