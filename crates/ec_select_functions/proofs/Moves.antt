-- Copies between homes, and what is kept.
use Rattle.std.proofs.Common.{◌≡◌, ◌≢◌, ℕ, zero, suc, ◌+◌, ◌-◌, ◌*◌, ◌%◌, ◌<◌, ◌≤◌, ⊎_elim, Bool, true, false, [], refl}
use Rattle.std.proofs.Common.{sym, ap, ◌∙◌, subst, arith, append-nil}
use Rattle.std.specs.Prelude.{◌==◌, ◌&&◌, if◌then◌else◌}
use Rattle.std.proofs.lemmas.Bool.{cases_eq, cases_lt, eqb-true, and_parts}
use Rattle.ec_asm.specs.declared.pieces.Location.{Location}
use Rattle.ec_asm.specs.declared.pieces.Location.TheVariants.{InRegisters, InMemory}
use Rattle.ec_asm.specs.View.{View}
use Rattle.ec_asm.specs.Change.{Env, Kind, Own}
use Rattle.ec_asm.specs.Items.{block, all_straight, code_steps}
use Rattle.ec_asm.specs.Pieces.{StandsFrom, Outside, value, address, copy_code, copy_log}
use Rattle.ec_asm.specs.PieceLaws.{HoldsNumbers, IsReadFirst}
use Rattle.ec_asm.specs.declared.pieces.Operator.TheVariants.{Sum}
use Rattle.ec_asm.proofs.Compared.{copy_holds}
use Rattle.ec_asm.proofs.Results.{pieces_are_straight, pieces_take}
use Rattle.ec_select_places.specs.Steps.{z_pair}
use Rattle.ec_select_operations.specs.Code.{same_location, pairs_code, transfer_code, move_code}
use Rattle.ec_select_operations.specs.Places.{Apart, IsClear}
use Rattle.ec_select_functions.proofs.Transfers.{Brought, pairs_bring, pairs_straight, pairs_steps}

-- all is kept but n bytes from b, R0, R1 and R30
abbrev pub Frame : View → View → ℕ → ℕ → Type 0
Frame v v1 b n = (k : ℕ) → k ≢ 0 → k ≢ 1 → k ≢ 30 → Outside b n k → v1.at k ≡ v.at k

-- all is kept but n bytes from b, R0, R1, R8 to R13 and R26 to R31
abbrev pub Wide : View → View → ℕ → ℕ → Type 0
Wide v v1 b n = (k : ℕ) → k ≢ 0 → k ≢ 1 → Outside 8 6 k → Outside 26 6 k → Outside b n k → v1.at k ≡ v.at k

pub widened : (v v1 : View) (b n : ℕ) → Frame v v1 b n → Wide v v1 b n
widened v v1 b n f k x y w z o = f k x y (not_work k z) o
  where
    not_work : (k : ℕ) → Outside 26 6 k → k ≢ 30
    not_work k z q = let l = z (omega arith) in omega arith

-- such an address is not R30, and not R31
pub off_low_work : (k : ℕ) → Outside 26 6 k → k ≢ 30
off_low_work k z q = let l = z (omega arith) in omega arith

pub off_high_work : (k : ℕ) → Outside 26 6 k → k ≢ 31
off_high_work k z q = let l = z (omega arith) in omega arith

-- of the work registers R0, R1, R30 and R31 alone have changed
pub beside_work : (v v1 : View) (b n : ℕ)
    → ((k : ℕ) → k ≢ 0 → k ≢ 1 → k ≢ 30 → k ≢ 31 → Outside b n k → v1.at k ≡ v.at k) → Wide v v1 b n
beside_work v v1 b n f k x y w z o = f k x y (off_low_work k z) (off_high_work k z) o

pub work_outside : (a n : ℕ) → IsClear a n → Outside a n 30
work_outside a n x l =
    ⊎_elim (λ (q : a < 26). let z = x.high.left q in omega arith) (λ (q : 26 ≤ a). let z = x.high.right q in absurd (omega arith))
    (cases_lt a 26)

-- nothing was seen
pub record Quiet (v v1 : View) : Type 0 where
  pub inputs : v1.inputs ≡ v.inputs
  pub safe : v1.safe ≡ v.safe
  pub seen : v1.seen ≡ v.seen

pub quiet_then : (v v1 v2 : View) → Quiet v v1 → Quiet v1 v2 → Quiet v v2
quiet_then v v1 v2 p q = record { inputs = q.inputs ∙ p.inputs; safe = q.safe ∙ p.safe; seen = q.seen ∙ p.seen }

pub narrower : (b n m k : ℕ) → m ≤ n → Outside b n k → Outside b m k
narrower b n m k l h x = let q = h x in omega arith

pub wider_frame : (v v1 : View) (b n m : ℕ) → m ≤ n → Frame v v1 b m → Frame v v1 b n
wider_frame v v1 b n m l f k x y z o = f k x y z (narrower b n m k l o)

pub wider_wide : (v v1 : View) (b n m : ℕ) → m ≤ n → Wide v v1 b m → Wide v v1 b n
wider_wide v v1 b n m l f k x y w z o = f k x y w z (narrower b n m k l o)

pub outside_row : (b n a m j : ℕ) → Apart b n a m → j < m → Outside b n (a + j)
outside_row b n a m j x l le =
    ⊎_elim (λ (q : b < a). let z = x.left q in omega arith) (λ (q : a ≤ b). let z = x.right q in absurd (omega arith)) (cases_lt b a)

-- a byte that stands apart is kept
pub row_kept : (v v1 : View) (b n a m : ℕ) → 2 ≤ a → Outside a m 30 → Apart b n a m → Frame v v1 b n → (j : ℕ)
    → j < m → v1.at (a + j) ≡ v.at (a + j)
row_kept v v1 b n a m some work x f j l =
    f (a + j) (omega arith) (omega arith) (not_work a m j work l) (outside_row b n a m j x l)
  where
    not_work : (a n j : ℕ) → Outside a n 30 → j < n → a + j ≢ 30
    not_work a n j h l q = grind arith

pub row_kept_wide : (v v1 : View) (b n a m : ℕ) → 2 ≤ a → IsClear a m → Apart b n a m → Wide v v1 b n → (j : ℕ)
    → j < m → v1.at (a + j) ≡ v.at (a + j)
row_kept_wide v v1 b n a m some work x f j l =
    f (a + j) (omega arith) (omega arith) (outside_low a m j work l) (outside_work a m j work l) (outside_row b n a m j x l)
  where
    outside_low : (a m j : ℕ) → IsClear a m → j < m → Outside 8 6 (a + j)
    outside_low a m j w l le =
        ⊎_elim (λ (q : a < 8). let z = w.low.left q in absurd (omega arith)) (λ (q : 8 ≤ a). let z = w.low.right q in omega arith)
        (cases_lt a 8)

    outside_work : (a m j : ℕ) → IsClear a m → j < m → Outside 26 6 (a + j)
    outside_work a m j w l le =
        ⊎_elim (λ (q : a < 26). let z = w.high.left q in absurd (omega arith)) (λ (q : 26 ≤ a). let z = w.high.right q in omega arith)
        (cases_lt a 26)

-- n bytes from b and R30 are numbers, and all else is kept
pub numbers_kept : (v v1 : View) (b n : ℕ) → HoldsNumbers v → Frame v v1 b n → ((j : ℕ) → j < n → v1.at (b + j) < 256)
    → v1.at 30 < 256 → HoldsNumbers v1
numbers_kept v v1 b n h f there work k u =
    ⊎_elim
    (λ (q : k ≡ 30). rw q work)
    (λ (q : k ≢ 30).
    ⊎_elim
    (λ (l : k < b). rw (f k (omega arith) (omega arith) q (λ x. absurd (omega arith))) (h k u))
    (λ (l : b ≤ k).
    ⊎_elim
    (λ (m : k < b + n). let e : b + (k - b) ≡ k = omega arith in subst (λ i. v1.at i < 256) e (there (k - b) (omega arith)))
    (λ (m : b + n ≤ k). rw (f k (omega arith) (omega arith) q (λ x. m)) (h k u))
    (cases_lt k (b + n)))
    (cases_lt k b))
    (cases_eq k 30)

pub row_value : (f g : ℕ → ℕ) (a b n : ℕ) → ((j : ℕ) → j < n → f (b + j) ≡ g (a + j)) → value f b n ≡ value g a n
row_value f g a b zero h = refl
row_value f g a b (suc n) h =
    let x = row_value f g a b n (λ j l. h j (omega arith)) in
    let z = h n (omega arith) in
    rw (x, z) refl

pub stands_less : (e : Env) (p : Location) (n m a : ℕ) (k : Kind) → m ≤ n → StandsFrom e p n a k → StandsFrom e p m a k
stands_less e p n m a k l s =
    record { at = λ i q. s.at i (omega arith); kind = λ i q. s.kind i (omega arith); clear = s.clear }

-- R30 and R31
pub z_stands : (e : Env) (n : ℕ) → StandsFrom e z_pair n 30 Own
z_stands e n = record { at = λ i l. refl; kind = λ i l. refl; clear = omega arith }

-- ---- copies

-- n bytes were brought from a to b
pub record Moves (v v1 : View) (a b n : ℕ) : Type 0 where
  pub there : (j : ℕ) → j < n → v1.at (b + j) ≡ v.at (a + j)
  pub frame : Frame v v1 b n
  pub work : v1.at 30 < 256
  pub quiet : Quiet v v1

pub no_log : (a b : ℕ) (f : ℕ → ℕ) (n : ℕ) → copy_log Own Own a b f n ≡ []
no_log a b f zero = refl
no_log a b f (suc n) = rw (no_log a b f n) refl

-- the byte of R30 after a copy
pub work_kept : (v v1 : View) (a b n : ℕ) → 2 ≤ a → HoldsNumbers v
    → ((j : ℕ) → j < n → v1.at (b + j) ≡ v.at (a + j)) → ((k : ℕ) → k ≢ 0 → Outside b n k → v1.at k ≡ v.at k)
    → v1.at 30 < 256
work_kept v v1 a b n some h there same =
    ⊎_elim
    (λ (l : 30 < b). rw (same 30 (omega arith) (λ x. absurd (omega arith))) (h 30 (omega arith)))
    (λ (l : b ≤ 30).
    ⊎_elim
    (λ (m : 30 < b + n).
    let e : b + (30 - b) ≡ 30 = omega arith in
    let g = there (30 - b) (omega arith) in
    let z = h (a + (30 - b)) (omega arith) in
    subst (λ i. v1.at i < 256) e (rw g z))
    (λ (m : b + n ≤ 30). rw (same 30 (omega arith) (λ x. m)) (h 30 (omega arith)))
    (cases_lt 30 (b + n)))
    (cases_lt 30 b)

same_is : (p q : Location) → same_location p q ≡ true → p ≡ q
same_is (InRegisters a) (InRegisters b) h = ap InRegisters (eqb-true a b h)
same_is (InRegisters a) (InMemory o k) h = cc
same_is (InMemory o k) (InRegisters b) h = cc
same_is (InMemory o k) (InMemory p j) h =
    let r = and_parts (o == p) (k == j) h in
    ap (λ x. InMemory x k) (eqb-true o p r.0) ∙ ap (InMemory p) (eqb-true k j r.1)

stays : (e : Env) (p q : Location) (n a b : ℕ) (v : View) → StandsFrom e p n a Own → StandsFrom e q n b Own → p ≡ q
    → Brought v a b n v
stays e p q n a b v sa sb same = record {
  there = λ j l. let x = sa.at j l in let y = sb.at j l in let z = ap (λ r. address e r j) same in ap v.at (sym y ∙ sym z ∙ x);
  same = λ k z o. refl;
  inputs = refl;
  safe = refl;
  seen = refl;
}

copy_brings : (e : Env) (p q : Location) (n a b : ℕ) (v : View) → StandsFrom e p n a Own → StandsFrom e q n b Own
    → IsReadFirst a b n → Brought v a b n (block e (copy_code p q n) v)
copy_brings e p q n a b v sa sb far =
    let c = copy_holds e p q n a b Own Own v sa sb refl refl far in
    record {
      there = c.there;
      same = c.same;
      inputs = c.inputs;
      safe = c.safe;
      seen = c.seen ∙ rw (no_log a b v.at n) (append-nil v.seen);
    }

moves_by : (v v1 : View) (a b n : ℕ) → 2 ≤ a → HoldsNumbers v → Brought v a b n v1 → Moves v v1 a b n
moves_by v v1 a b n some h c = record {
  there = c.there;
  frame = λ k x y z o. c.same k x o;
  work = work_kept v v1 a b n some h c.there c.same;
  quiet = record { inputs = c.inputs; safe = c.safe; seen = c.seen };
}

pub copied : (e : Env) (p q : Location) (n a b : ℕ) (v : View) → StandsFrom e p n a Own → StandsFrom e q n b Own
    → IsReadFirst a b n → HoldsNumbers v → Moves v (block e (copy_code p q n) v) a b n
copied e p q n a b v sa sb far h =
    moves_by v (block e (copy_code p q n) v) a b n sa.clear h (copy_brings e p q n a b v sa sb far)

transfer_brings : (e : Env) (p q : Location) (n a b : ℕ) (v : View) → StandsFrom e p n a Own → StandsFrom e q n b Own
    → IsReadFirst a b n → HoldsNumbers v → Brought v a b n (block e (transfer_code p q n) v)
transfer_brings e (InRegisters r) (InRegisters t) n a b v sa sb far h = by_evenness (r % 2 == 0 && t % 2 == 0)
  where
    by_evenness : (even : Bool)
        → Brought v a b n (block e (if even then pairs_code r t n else copy_code (InRegisters r) (InRegisters t) n) v)
    by_evenness true = pairs_bring e r t n a b v sa sb far h
    by_evenness false = copy_brings e (InRegisters r) (InRegisters t) n a b v sa sb far
transfer_brings e (InRegisters r) (InMemory o k) n a b v sa sb far h =
    copy_brings e (InRegisters r) (InMemory o k) n a b v sa sb far
transfer_brings e (InMemory o k) (InRegisters t) n a b v sa sb far h =
    copy_brings e (InMemory o k) (InRegisters t) n a b v sa sb far
transfer_brings e (InMemory o k) (InMemory o' k') n a b v sa sb far h =
    copy_brings e (InMemory o k) (InMemory o' k') n a b v sa sb far

-- what is brought to another place, of which nothing but R0 is touched on the way
pub move_brings : (e : Env) (p q : Location) (n a b : ℕ) (v : View) → StandsFrom e p n a Own → StandsFrom e q n b Own
    → IsReadFirst a b n → HoldsNumbers v → Brought v a b n (block e (move_code p q n) v)
move_brings e p q n a b v sa sb far h = by_same (same_location p q) refl
  where
    by_same : (x : Bool) → same_location p q ≡ x → Brought v a b n (block e (if x then [] else transfer_code p q n) v)
    by_same true s = stays e p q n a b v sa sb (same_is p q s)
    by_same false s = transfer_brings e p q n a b v sa sb far h

pub move_holds : (e : Env) (p q : Location) (n a b : ℕ) (v : View) → StandsFrom e p n a Own → StandsFrom e q n b Own
    → IsReadFirst a b n → HoldsNumbers v → Moves v (block e (move_code p q n) v) a b n
move_holds e p q n a b v sa sb far h =
    moves_by v (block e (move_code p q n) v) a b n sa.clear h (move_brings e p q n a b v sa sb far h)

-- ---- the form of copies

pub copy_straight : (p q : Location) (n : ℕ) → all_straight (copy_code p q n) ≡ true
copy_straight p q n = (pieces_are_straight Sum p q n).0

pub copy_steps : (p q : Location) (n : ℕ) → (n ≤ code_steps (copy_code p q n)) × (code_steps (copy_code p q n) ≤ n * 2)
copy_steps p q n = (pieces_take Sum p q n).0

transfer_straight : (p q : Location) (n : ℕ) → all_straight (transfer_code p q n) ≡ true
transfer_straight (InRegisters r) (InRegisters t) n = by_evenness (r % 2 == 0 && t % 2 == 0)
  where
    by_evenness : (even : Bool)
        → all_straight (if even then pairs_code r t n else copy_code (InRegisters r) (InRegisters t) n) ≡ true
    by_evenness true = pairs_straight r t n
    by_evenness false = copy_straight (InRegisters r) (InRegisters t) n
transfer_straight (InRegisters r) (InMemory o k) n = copy_straight (InRegisters r) (InMemory o k) n
transfer_straight (InMemory o k) (InRegisters t) n = copy_straight (InMemory o k) (InRegisters t) n
transfer_straight (InMemory o k) (InMemory o' k') n = copy_straight (InMemory o k) (InMemory o' k') n

transfer_steps : (p q : Location) (n : ℕ) → code_steps (transfer_code p q n) ≤ n * 2
transfer_steps (InRegisters r) (InRegisters t) n = by_evenness (r % 2 == 0 && t % 2 == 0)
  where
    by_evenness : (even : Bool)
        → code_steps (if even then pairs_code r t n else copy_code (InRegisters r) (InRegisters t) n) ≤ n * 2
    by_evenness true = pairs_steps r t n
    by_evenness false = (copy_steps (InRegisters r) (InRegisters t) n).1
transfer_steps (InRegisters r) (InMemory o k) n = (copy_steps (InRegisters r) (InMemory o k) n).1
transfer_steps (InMemory o k) (InRegisters t) n = (copy_steps (InMemory o k) (InRegisters t) n).1
transfer_steps (InMemory o k) (InMemory o' k') n = (copy_steps (InMemory o k) (InMemory o' k') n).1

pub move_straight : (p q : Location) (n : ℕ) → all_straight (move_code p q n) ≡ true
move_straight p q n = by_same (same_location p q)
  where
    by_same : (x : Bool) → all_straight (if x then [] else transfer_code p q n) ≡ true
    by_same true = refl
    by_same false = transfer_straight p q n

pub move_steps : (p q : Location) (n : ℕ) → code_steps (move_code p q n) ≤ n * 2
move_steps p q n = by_same (same_location p q)
  where
    by_same : (x : Bool) → code_steps (if x then [] else transfer_code p q n) ≤ n * 2
    by_same true = omega arith
    by_same false = transfer_steps p q n
