-- The items of the code are valid, and have no labels.
use Rattle.std.proofs.Common.{◌≡◌, ℕ, zero, suc, ◌+◌, ◌-◌, ◌<◌, ◌≤◌, ◌==◌, Bool, true, false, List, [], ◌∷◌, ◌++◌, refl, ◌∙◌, arith}
use Rattle.std.specs.Prelude.{nat_lt, count_by, cond}
use Rattle.std.specs.List.{list_all}
use Rattle.std.proofs.lemmas.Bool.{lt-ltb, eqb-true}
use Rattle.std.proofs.lemmas.List.Folds.{sum_by-zero}
use Rattle.ec_isa.specs.declared.instructions.Instr.TheVariants.{Add, Sbc, Eor, Mov}
use Rattle.ec_asm.specs.declared.items.AsmItem.{AsmItem}
use Rattle.ec_asm.specs.declared.items.AsmItem.TheVariants.{Plain}
use Rattle.ec_asm.specs.declared.pieces.Location.{Location}
use Rattle.ec_asm.specs.declared.pieces.Location.TheVariants.{InRegisters, InMemory}
use Rattle.ec_asm.specs.declared.pieces.Operator.TheVariants.{Sum, Difference}
use Rattle.ec_asm.specs.Items.{chain}
use Rattle.ec_asm.specs.Pieces.{instruction, operate_byte, halves, halve_byte}
use Rattle.ec_asm.specs.Valid.{Sizes, is_valid_item, used_label, is_label, is_placed}
use Rattle.ec_select_shifts.specs.declared.shifts.Direction.{Direction}
use Rattle.ec_select_shifts.specs.declared.shifts.Direction.TheVariants.{Left, Right}
use Rattle.ec_select_shifts.specs.Shifts.{turn_code}
use Rattle.ec_fxcode.specs.Clamps.{take_byte, put_byte, sign_code, fills_code}
use Rattle.ec_fxcode.specs.ClampLaws.{HasPlaces}
use Rattle.ec_fxcode.proofs.ValidItems.{both, chain_passes, take_valid, put_valid}
use Rattle.ec_fxcode_shifts.specs.Shifts.{mark_code, turned_byte, turned_code}
use Rattle.ec_fxcode_shifts.proofs.ValidItems.{PassesPlain}
use Rattle.ec_fxcode_scales.specs.Scales.{nearest, clears_code, moved_byte, moved_code, bit_code, is_one_more, is_one_less, placed_code}
use Rattle.ec_fxcode_scales.specs.Scales.{scale_code, lowered_code, cut_code}
use Rattle.ec_fxcode_scales.specs.ScaleLaws.{ScalesAreValid, ScalesUseNoLabel, ScalesPlaceNoLabel, CutsAreValid, CutsUseNoLabel}
use Rattle.ec_fxcode_scales.specs.ScaleLaws.{CutsPlaceNoLabel}

-- a test that the items of no place pass
record PassesCommon (t : AsmItem → Bool) : Type 0 where
  sign : list_all t (Plain (Add 0 0) ∷ Plain (Sbc 31 31) ∷ []) ≡ true
  none : list_all t (Plain (Eor 31 31) ∷ []) ≡ true
  clear : list_all t (Plain (Eor 1 1) ∷ []) ≡ true
  less : (i : ℕ) → list_all t (Plain (Eor 0 31) ∷ Plain (instruction Difference i 0 31) ∷ []) ≡ true

-- and those of m bytes at w: the registers that are put there are R0, R1 and R31
record PassesPlace (t : AsmItem → Bool) (w : Location) (m : ℕ) : Type 0 where
  take : (i : ℕ) → i < m → list_all t (take_byte w i) ≡ true
  put : (s i : ℕ) → nat_lt s 32 ≡ true → i < m → list_all t (put_byte s w i) ≡ true
  double : (i : ℕ) → i < m → list_all t (operate_byte Sum w w i) ≡ true
  halve : (signed : Bool) (k i : ℕ) → i < k → k ≤ m → list_all t (halve_byte signed w k i) ≡ true

module _ (t : AsmItem → Bool) (c : PassesCommon t) (w : Location) (b : ℕ) (h : PassesPlace t w b) where
  clears_pass : (j k : ℕ) → k ≤ b → list_all t (clears_code w j k) ≡ true
  clears_pass j k l =
      both t (Plain (Eor 1 1) ∷ []) (chain (λ i. put_byte 1 w (j + i)) (k - j)) c.clear
      (chain_passes t (λ i. put_byte 1 w (j + i)) (k - j) (λ i x. h.put 1 (j + i) refl (omega arith)))

  moved_passes : (p : Location) (j k n : ℕ) → ((i : ℕ) → i < n → list_all t (take_byte p (j + i)) ≡ true) → k + n ≤ b
      → list_all t (moved_code p w j k n) ≡ true
  moved_passes p j k n from l =
      chain_passes t (moved_byte p w j k) n
      (λ i x. both t (take_byte p (j + i)) (put_byte 0 w (k + i)) (from i x) (h.put 0 (k + i) refl (omega arith)))

  turn_passes : (way : Direction) (n : ℕ) → n ≤ b → list_all t (turn_code way w n) ≡ true
  turn_passes Left n l = chain_passes t (operate_byte Sum w w) n (λ i x. h.double i (omega arith))
  turn_passes (Right signed) n l = chain_passes t (halve_byte signed w n) n (λ i x. h.halve signed n i x l)

  bit_passes : (moves : Bool) (way : Direction) (n : ℕ) → n ≤ b → list_all t (bit_code moves way w n) ≡ true
  bit_passes true way n l = turn_passes way n l
  bit_passes false way n l = refl

  turned_passes : (m : ℕ) → m ≤ b → list_all t (turned_code w w m) ≡ true
  turned_passes m l =
      chain_passes t (turned_byte w w) m
      (λ i x. both t (take_byte w i) (Plain (Eor 0 31) ∷ Plain (instruction Difference i 0 31) ∷ put_byte 0 w i) (h.take i (omega arith))
      (both t (Plain (Eor 0 31) ∷ Plain (instruction Difference i 0 31) ∷ []) (put_byte 0 w i) (c.less i) (h.put 0 i refl (omega arith))))

  sign_passes : (p : Location) (n : ℕ) → list_all t (take_byte p (n - 1)) ≡ true → list_all t (sign_code p n) ≡ true
  sign_passes p n x = both t (take_byte p (n - 1)) (Plain (Add 0 0) ∷ Plain (Sbc 31 31) ∷ []) x c.sign

  mark_passes : (signed : Bool) (p : Location) (n : ℕ) → list_all t (take_byte p (n - 1)) ≡ true
      → list_all t (mark_code signed p n) ≡ true
  mark_passes true p n x = sign_passes p n x
  mark_passes false p n x = c.none

  placed_passes : (p : Location) (n m z : ℕ) → ((i : ℕ) → i < n → list_all t (take_byte p (0 + i)) ≡ true) → z + n ≤ b → m ≤ b
      → list_all t (placed_code p w n m z) ≡ true
  placed_passes p n m z from l k =
      both t (clears_code w 0 z) (moved_code p w 0 z n ++ fills_code w (z + n) m) (clears_pass 0 z (omega arith))
      (both t (moved_code p w 0 z n) (fills_code w (z + n) m) (moved_passes p 0 z n from l)
      (chain_passes t (λ i. put_byte 31 w (z + n + i)) (m - (z + n)) (λ i x. h.put 31 (z + n + i) refl (omega arith))))

  scale_passes : (signed : Bool) (p : Location) (n m d : ℕ) → ((i : ℕ) → i < n → list_all t (take_byte p (0 + i)) ≡ true)
      → list_all t (take_byte p (n - 1)) ≡ true → nearest d + n ≤ b → m ≤ b → list_all t (scale_code signed p w n m d) ≡ true
  scale_passes signed p n m d from top l k =
      let place = placed_code p w n m (nearest d) in
      let up = bit_code (is_one_more d) Left w m in
      let down = bit_code (is_one_less d) (Right true) w m in
      both t (mark_code signed p n) (place ++ (up ++ down)) (mark_passes signed p n top)
      (both t place (up ++ down) (placed_passes p n m (nearest d) from l k)
      (both t up down (bit_passes (is_one_more d) Left m (omega arith)) (bit_passes (is_one_less d) (Right true) m (omega arith))))

  lowered_passes : (halves : Bool) (m z : ℕ) → m ≤ b → list_all t (lowered_code halves w m z) ≡ true
  lowered_passes halves m z l =
      let r = m - z in
      both t (moved_code w w z 0 r) (bit_code halves (Right false) w r ++ clears_code w r m)
      (moved_passes w z 0 r (λ i x. h.take (z + i) (omega arith)) (omega arith))
      (both t (bit_code halves (Right false) w r) (clears_code w r m) (bit_passes halves (Right false) r (omega arith))
      (clears_pass r m (omega arith)))

  cut_passes : (m d : ℕ) → m ≤ b → list_all t (take_byte w (m - 1)) ≡ true → list_all t (cut_code w m d) ≡ true
  cut_passes m d l top =
      let turn = turned_code w w m in
      let up = bit_code (is_one_less d) Left w m in
      let low = lowered_code (is_one_more d) w m (nearest d) in
      both t (sign_code w m) (turn ++ (up ++ (low ++ turn))) (sign_passes w m top)
      (both t turn (up ++ (low ++ turn)) (turned_passes m l)
      (both t up (low ++ turn) (bit_passes (is_one_less d) Left m (omega arith))
      (both t low turn (lowered_passes (is_one_more d) m (nearest d) l) (turned_passes m l))))

-- ---- fields

less_valid : (sizes : Sizes) (i : ℕ)
    → list_all (is_valid_item sizes) (Plain (Eor 0 31) ∷ Plain (instruction Difference i 0 31) ∷ []) ≡ true
less_valid sizes zero = refl
less_valid sizes (suc i) = refl

common_valid : (sizes : Sizes) → PassesCommon (is_valid_item sizes)
common_valid sizes = record { sign = refl; none = refl; clear = refl; less = less_valid sizes }

double_valid : (sizes : Sizes) (w : Location) (m i : ℕ) → HasPlaces sizes w m → i < m
    → list_all (is_valid_item sizes) (operate_byte Sum w w i) ≡ true
double_valid sizes (InRegisters r) m zero h l = let x : r + zero < 32 = omega (arith, h) in rw (lt-ltb (r + zero) 32 x) refl
double_valid sizes (InRegisters r) m (suc i) h l = let x : r + suc i < 32 = omega (arith, h) in rw (lt-ltb (r + suc i) 32 x) refl
double_valid sizes (InMemory o k) m zero h l = rw (h zero l) refl
double_valid sizes (InMemory o k) m (suc i) h l = rw (h (suc i) l) refl

halve_valid : (sizes : Sizes) (w : Location) (m : ℕ) → HasPlaces sizes w m → (signed : Bool) (k i : ℕ) → i < k → k ≤ m
    → list_all (is_valid_item sizes) (halve_byte signed w k i) ≡ true
halve_valid sizes (InRegisters r) m h true k zero l x = let y : r + (k - 1 - zero) < 32 = omega (arith, h) in rw
    (lt-ltb (r + (k - 1 - zero)) 32 y) refl
halve_valid sizes (InRegisters r) m h false k zero l x = let y : r + (k - 1 - zero) < 32 = omega (arith, h) in rw
    (lt-ltb (r + (k - 1 - zero)) 32 y) refl
halve_valid sizes (InRegisters r) m h signed k (suc i) l x =
    let y : r + (k - 1 - suc i) < 32 = omega (arith, h) in rw (lt-ltb (r + (k - 1 - suc i)) 32 y) refl
halve_valid sizes (InMemory o j) m h true k zero l x = rw (h (k - 1 - zero) (omega arith)) refl
halve_valid sizes (InMemory o j) m h false k zero l x = rw (h (k - 1 - zero) (omega arith)) refl
halve_valid sizes (InMemory o j) m h signed k (suc i) l x = rw (h (k - 1 - suc i) (omega arith)) refl

place_valid : (sizes : Sizes) (w : Location) (m : ℕ) → HasPlaces sizes w m → PassesPlace (is_valid_item sizes) w m
place_valid sizes w m h = record {
  take = λ i l. take_valid sizes w m i h l;
  put = λ s i e l. put_valid sizes s w m i e h l;
  double = λ i l. double_valid sizes w m i h l;
  halve = halve_valid sizes w m h;
}

pub scales_are_valid : ScalesAreValid
scales_are_valid sizes signed p w n m d is some l hp hw =
    scale_passes (is_valid_item sizes) (common_valid sizes) w m (place_valid sizes w m hw) signed p n m d
    (λ i x. take_valid sizes p n (0 + i) hp (omega arith)) (take_valid sizes p n (n - 1) hp (omega arith)) (omega arith) (omega arith)

pub cuts_are_valid : CutsAreValid
cuts_are_valid sizes w m d some hw =
    cut_passes (is_valid_item sizes) (common_valid sizes) w m (place_valid sizes w m hw) m d (omega arith)
    (take_valid sizes w m (m - 1) hw (omega arith))

-- ---- labels

common_plain : (t : AsmItem → Bool) → PassesPlain t → PassesCommon t
common_plain t h = record {
  sign = rw (h.plain (Add 0 0), h.plain (Sbc 31 31)) refl;
  none = rw (h.plain (Eor 31 31)) refl;
  clear = rw (h.plain (Eor 1 1)) refl;
  less = λ i. rw (h.plain (Eor 0 31), h.plain (instruction Difference i 0 31)) refl;
}

take_plain : (t : AsmItem → Bool) → PassesPlain t → (p : Location) (i : ℕ) → list_all t (take_byte p i) ≡ true
take_plain t h (InRegisters r) i = rw (h.plain (Mov 0 (r + i))) refl
take_plain t h (InMemory o k) i = rw (h.load 0 o (k + i)) refl

place_plain : (t : AsmItem → Bool) (w : Location) (m : ℕ) → PassesPlain t → PassesPlace t w m
place_plain t w m h = record {
  take = λ i l. take_plain t h w i;
  put = λ s i e l. puts s w i;
  double = λ i l. doubles w i;
  halve = λ signed k i l x. halved signed w k i;
}
  where
    puts : (s : ℕ) (p : Location) (i : ℕ) → list_all t (put_byte s p i) ≡ true
    puts s (InRegisters r) i = rw (h.plain (Mov (r + i) s)) refl
    puts s (InMemory o j) i = rw (h.store o (j + i) s) refl

    doubles : (w : Location) (i : ℕ) → list_all t (operate_byte Sum w w i) ≡ true
    doubles (InRegisters r) i = rw (h.plain (instruction Sum i (r + i) (r + i))) refl
    doubles (InMemory o j) i = rw (h.load 1 o (j + i), h.load 0 o (j + i), h.plain (instruction Sum i 0 1), h.store o (j + i) 0) refl

    halved : (signed : Bool) (w : Location) (k i : ℕ) → list_all t (halve_byte signed w k i) ≡ true
    halved signed (InRegisters r) k i = rw (h.plain (halves signed i (r + (k - 1 - i)))) refl
    halved signed (InMemory o j) k i = rw (h.load 0 o (j + (k - 1 - i)), h.plain (halves signed i 0), h.store o (j + (k - 1 - i)) 0) refl

scale_plain : (t : AsmItem → Bool) → PassesPlain t → (signed : Bool) (p w : Location) (n m d : ℕ)
    → list_all t (scale_code signed p w n m d) ≡ true
scale_plain t h signed p w n m d =
    let b = m + (nearest d + n) in
    scale_passes t (common_plain t h) w b (place_plain t w b h) signed p n m d (λ i x. take_plain t h p (0 + i))
    (take_plain t h p (n - 1)) (omega arith) (omega arith)

cut_plain : (t : AsmItem → Bool) → PassesPlain t → (w : Location) (m d : ℕ) → list_all t (cut_code w m d) ≡ true
cut_plain t h w m d = cut_passes t (common_plain t h) w m (place_plain t w m h) m d (omega arith) (take_plain t h w (m - 1))

-- no item is the place of a label, where each item counts for none
none_by : (l : ℕ) (code : List AsmItem)
    → ((t : AsmItem → Bool) → PassesPlain t → list_all t code ≡ true) → count_by (is_label l) code ≡ 0
none_by l code h =
    let number = λ (item : AsmItem). cond (is_label l item) 1 0 in
    let t = λ (item : AsmItem). number item == 0 in
    let none = h t (record { plain = λ i. refl; load = λ d o j. refl; store = λ o j r. refl }) in
    eqb-true (count_by (is_label l) code) 0 (sum_by-zero number code ∙ none)

pub scales_use_no_label : ScalesUseNoLabel
scales_use_no_label items signed p w n m d =
    scale_plain (λ (item : AsmItem). is_placed items (used_label item))
    (record { plain = λ i. refl; load = λ d o j. refl; store = λ o j r. refl }) signed p w n m d

pub scales_place_no_label : ScalesPlaceNoLabel
scales_place_no_label signed p w n m d l = none_by l (scale_code signed p w n m d) (λ t h. scale_plain t h signed p w n m d)

pub cuts_use_no_label : CutsUseNoLabel
cuts_use_no_label items w m d =
    cut_plain (λ (item : AsmItem). is_placed items (used_label item))
    (record { plain = λ i. refl; load = λ d o j. refl; store = λ o j r. refl }) w m d

pub cuts_place_no_label : CutsPlaceNoLabel
cuts_place_no_label w m d l = none_by l (cut_code w m d) (λ t h. cut_plain t h w m d)
