-- The items of the code are valid, and have no labels.
use Rattle.std.proofs.Common.{◌≡◌, ℕ, zero, suc, ◌+◌, ◌-◌, ◌*◌, ◌<◌, ◌≤◌, ◌==◌, Bool, true, false, [], ◌∷◌, ◌++◌, refl, sym, ap, ◌∙◌, arith}
use Rattle.std.proofs.Common.{pos, negsuc}
use Rattle.std.specs.Prelude.{count_by, cond}
use Rattle.std.specs.List.{list_all}
use Rattle.std.proofs.lemmas.Bool.{lt-ltb, eqb-true}
use Rattle.std.proofs.lemmas.List.Folds.{sum_by-zero}
use Rattle.ec_isa.specs.declared.instructions.Instr.{Instr}
use Rattle.ec_isa.specs.declared.instructions.Instr.TheVariants.{Add, Sbc, Eor, Mov, Andi, Dec, Brbs, Rjmp}
use Rattle.ec_fx.specs.declared.formats.Format.{Format}
use Rattle.ec_fx.specs.declared.numbers.Mode.{Mode}
use Rattle.ec_asm.specs.declared.items.AsmItem.{AsmItem}
use Rattle.ec_asm.specs.declared.items.AsmItem.TheVariants.{Plain, LoadObj, StoreObj}
use Rattle.ec_asm.specs.declared.pieces.Location.{Location}
use Rattle.ec_asm.specs.declared.pieces.Location.TheVariants.{InRegisters, InMemory}
use Rattle.ec_asm.specs.declared.pieces.Operator.TheVariants.{Sum, Difference}
use Rattle.ec_asm.specs.Pieces.{instruction, copy_byte, copy_code, operate_byte, halves, halve_byte}
use Rattle.ec_asm.specs.Valid.{Sizes, is_valid_item, used_label, is_label, is_placed}
use Rattle.ec_select_shifts.specs.Shifts.{turn_code, turn_words, jump_code}
use Rattle.ec_fxcode.specs.Clamps.{take_byte, put_byte, fills_code, clamp_code}
use Rattle.ec_fxcode.specs.ClampLaws.{HasPlaces}
use Rattle.ec_fxcode.proofs.ValidItems.{both, chain_passes, take_valid, put_valid, copy_valid, clamps_are_valid, clamps_use_no_label}
use Rattle.ec_fxcode.proofs.ValidItems.{clamps_place_no_label}
use Rattle.ec_fxcode_shifts.specs.Shifts.{count_row, count_code, mark_code, turned_byte, enter_code, leave_code, direction, width}
use Rattle.ec_fxcode_shifts.specs.Shifts.{again_code, turns_code, before_code, after_code, shift_code}
use Rattle.ec_fxcode_shifts.specs.ShiftLaws.{ShiftsAreValid, ShiftsUseNoLabel, ShiftsPlaceNoLabel}
use Rattle.ec_fxcode_shifts.proofs.Entered.{format_width}
use Rattle.ec_fxcode_shifts.proofs.Steps.{turn_most}

-- a test that each piece of the code passes
record Passes (t : AsmItem → Bool) (f : Format) (mode : Mode) (p c q w : Location) (k : ℕ) : Type 0 where
  from : (i : ℕ) → i < k → list_all t (take_byte p i) ≡ true
  count : list_all t (copy_byte c count_row 0) ≡ true
  mask : list_all t (Plain (Andi 30 (8 * k - 1)) ∷ []) ≡ true
  sign : list_all t (Plain (Add 0 0) ∷ Plain (Sbc 31 31) ∷ []) ≡ true
  none : list_all t (Plain (Eor 31 31) ∷ []) ≡ true
  less : (i : ℕ) → list_all t (Plain (Eor 0 31) ∷ Plain (instruction Difference i 0 31) ∷ []) ≡ true
  copy : (i : ℕ) → i < k → list_all t (copy_byte p w i) ≡ true
  fill : (i : ℕ) → i < 2 * k → list_all t (put_byte 31 w i) ≡ true
  into : (i : ℕ) → i < k → list_all t (put_byte 0 w i) ≡ true
  out : (i : ℕ) → i < k → list_all t (take_byte w i) ≡ true
  back : (i : ℕ) → i < k → list_all t (put_byte 0 q i) ≡ true
  double : (i : ℕ) → i < 2 * k → list_all t (operate_byte Sum w w i) ≡ true
  halve : (i : ℕ) → i < k → list_all t (halve_byte false w k i) ≡ true
  jump : (left : Bool) → list_all t (jump_code (direction left) w (width left k)) ≡ true
  again : (left : Bool) → list_all t (again_code (direction left) w (width left k)) ≡ true
  clamp : list_all t (clamp_code f mode w q (2 * k) k) ≡ true

module _ (t : AsmItem → Bool) (f : Format) (mode : Mode) (p c q w : Location) (k : ℕ) (some : 1 ≤ k) (h : Passes t f mode p c q w k) where
  turned_in : (i : ℕ) → i < k → list_all t (turned_byte p w i) ≡ true
  turned_in i l =
      both t (take_byte p i) (Plain (Eor 0 31) ∷ Plain (instruction Difference i 0 31) ∷ put_byte 0 w i) (h.from i l)
      (both t (Plain (Eor 0 31) ∷ Plain (instruction Difference i 0 31) ∷ []) (put_byte 0 w i) (h.less i) (h.into i l))

  turned_out : (i : ℕ) → i < k → list_all t (turned_byte w q i) ≡ true
  turned_out i l =
      both t (take_byte w i) (Plain (Eor 0 31) ∷ Plain (instruction Difference i 0 31) ∷ put_byte 0 q i) (h.out i l)
      (both t (Plain (Eor 0 31) ∷ Plain (instruction Difference i 0 31) ∷ []) (put_byte 0 q i) (h.less i) (h.back i l))

  mark_passes : (signed : Bool) → list_all t (mark_code signed p k) ≡ true
  mark_passes true = both t (take_byte p (k - 1)) (Plain (Add 0 0) ∷ Plain (Sbc 31 31) ∷ []) (h.from (k - 1) (omega arith)) h.sign
  mark_passes false = h.none

  enter_passes : (left : Bool) → list_all t (enter_code left p w k) ≡ true
  enter_passes true =
      both t (copy_code p w k) (fills_code w k (2 * k)) (chain_passes t (copy_byte p w) k h.copy)
      (chain_passes t (λ i. put_byte 31 w (k + i)) (2 * k - k) (λ i l. h.fill (k + i) (omega arith)))
  enter_passes false = chain_passes t (turned_byte p w) k turned_in

  before_passes : (signed left : Bool) → list_all t (before_code signed left p c w k) ≡ true
  before_passes signed left =
      both t (count_code c (8 * k)) (mark_code signed p k ++ enter_code left p w k)
      (both t (copy_code c count_row 1) (Plain (Andi 30 (8 * k - 1)) ∷ []) (both t [] (copy_byte c count_row 0) refl h.count) h.mask)
      (both t (mark_code signed p k) (enter_code left p w k) (mark_passes signed) (enter_passes left))

  turn_passes : (left : Bool) → list_all t (turn_code (direction left) w (width left k)) ≡ true
  turn_passes true = chain_passes t (operate_byte Sum w w) (2 * k) h.double
  turn_passes false = chain_passes t (halve_byte false w k) k h.halve

  leave_passes : (left : Bool) → list_all t (leave_code left f mode w q k) ≡ true
  leave_passes true = h.clamp
  leave_passes false = chain_passes t (turned_byte w q) k turned_out

  shift_passes : (left : Bool) → list_all t (shift_code f left mode p c q w k) ≡ true
  shift_passes left =
      let s = direction left in
      let n = width left k in
      both t (before_code f.signed left p c w k) (after_code left f mode w q k) (before_passes f.signed left)
      (both t (turns_code s w n) (leave_code left f mode w q k)
      (both t (jump_code s w n) (turn_code s w n ++ again_code s w n) (h.jump left)
      (both t (turn_code s w n) (again_code s w n) (turn_passes left) (h.again left)))
      (leave_passes left))

-- ---- fields

pub less_valid : (sizes : Sizes) (i : ℕ)
    → list_all (is_valid_item sizes) (Plain (Eor 0 31) ∷ Plain (instruction Difference i 0 31) ∷ []) ≡ true
less_valid sizes zero = refl
less_valid sizes (suc i) = refl

double_valid : (sizes : Sizes) (w : Location) (i : ℕ) → HasPlaces sizes w 40 → i < 40
    → list_all (is_valid_item sizes) (operate_byte Sum w w i) ≡ true
double_valid sizes (InRegisters r) i h l = absurd (omega (arith, h))
double_valid sizes (InMemory o k) zero h l = rw (h zero l) refl
double_valid sizes (InMemory o k) (suc i) h l = rw (h (suc i) l) refl

halve_valid : (sizes : Sizes) (w : Location) (k i : ℕ) → HasPlaces sizes w 40 → i < k → k ≤ 40
    → list_all (is_valid_item sizes) (halve_byte false w k i) ≡ true
halve_valid sizes (InRegisters r) k i h l m = absurd (omega (arith, h))
halve_valid sizes (InMemory o j) k zero h l m = rw (h (k - 1 - zero) (omega arith)) refl
halve_valid sizes (InMemory o j) k (suc i) h l m = rw (h (k - 1 - suc i) (omega arith)) refl

jump_valid : (sizes : Sizes) (left : Bool) (w : Location) (n : ℕ) → n ≤ 40
    → list_all (is_valid_item sizes) (jump_code (direction left) w n) ≡ true
jump_valid sizes left w n l =
    let m = turn_most left w n in
    rw (lt-ltb (turn_words (direction left) w n) 2048 (omega (arith, m, l))) refl

again_valid : (sizes : Sizes) (left : Bool) (w : Location) (n : ℕ) → n ≤ 40
    → list_all (is_valid_item sizes) (again_code (direction left) w n) ≡ true
again_valid sizes left w n l =
    let m = turn_most left w n in
    rw (lt-ltb (turn_words (direction left) w n + 2) 2048 (omega (arith, m, l))) refl

few : (left : Bool) (k : ℕ) → k ≤ 8 → width left k ≤ 40
few true k l = omega arith
few false k l = omega arith

row_valid : (sizes : Sizes) (c : Location) (m : ℕ) → 1 ≤ m → HasPlaces sizes c m
    → list_all (is_valid_item sizes) (copy_byte c count_row 0) ≡ true
row_valid sizes c m some h = let r : HasPlaces sizes count_row 1 = omega arith in copy_valid sizes c count_row m 1 0 h r some (omega arith)

pub part_places : (sizes : Sizes) (w : Location) (n m : ℕ) → n ≤ m → HasPlaces sizes w m → HasPlaces sizes w n
part_places sizes (InRegisters r) n m l h = omega (arith, h)
part_places sizes (InMemory o k) n m l h = λ i x. h i (omega arith)

pub shifts_are_valid : ShiftsAreValid
shifts_are_valid sizes f left mode p c q w k m is bits some hp hc hq hw =
    let wide = format_width f k is bits in
    let one = wide.some in
    let most = wide.most in
    let byte : 8 * k - 1 < 256 = omega arith in
    shift_passes (is_valid_item sizes) f mode p c q w k one
    (record {
      from = λ i l. take_valid sizes p k i hp l;
      count = row_valid sizes c m some hc;
      mask = rw (lt-ltb (8 * k - 1) 256 byte) refl;
      sign = refl;
      none = refl;
      less = less_valid sizes;
      copy = λ i l. copy_valid sizes p w k 40 i hp hw l (omega arith);
      fill = λ i l. put_valid sizes 31 w 40 i refl hw (omega arith);
      into = λ i l. put_valid sizes 0 w 40 i refl hw (omega arith);
      out = λ i l. take_valid sizes w 40 i hw (omega arith);
      back = λ i l. put_valid sizes 0 q k i refl hq l;
      double = λ i l. double_valid sizes w i hw (omega arith);
      halve = λ i l. halve_valid sizes w k i hw l (omega arith);
      jump = λ b. jump_valid sizes b w (width b k) (few b k most);
      again = λ b. again_valid sizes b w (width b k) (few b k most);
      clamp = clamps_are_valid sizes f mode w q (2 * k) k (omega arith) one (part_places sizes w (2 * k) 40 (omega arith) hw) hq;
    })
    left

-- ---- labels

-- a test that every item passes that is no label and refers to none
pub record PassesPlain (t : AsmItem → Bool) : Type 0 where
  pub plain : (i : Instr) → t (Plain i) ≡ true
  pub load : (d o k : ℕ) → t (LoadObj d o k) ≡ true
  pub store : (o k r : ℕ) → t (StoreObj o k r) ≡ true

passes_plain : (t : AsmItem → Bool) (f : Format) (mode : Mode) (p c q w : Location) (k : ℕ) → PassesPlain t
    → list_all t (clamp_code f mode w q (2 * k) k) ≡ true → Passes t f mode p c q w k
passes_plain t f mode p c q w k h clamp = record {
  from = λ i l. takes p i;
  count = copies c count_row 0;
  mask = rw (h.plain (Andi 30 (8 * k - 1))) refl;
  sign = rw (h.plain (Add 0 0), h.plain (Sbc 31 31)) refl;
  none = rw (h.plain (Eor 31 31)) refl;
  less = λ i. rw (h.plain (Eor 0 31), h.plain (instruction Difference i 0 31)) refl;
  copy = λ i l. copies p w i;
  fill = λ i l. puts 31 w i;
  into = λ i l. puts 0 w i;
  out = λ i l. takes w i;
  back = λ i l. puts 0 q i;
  double = λ i l. doubles w i;
  halve = λ i l. halved w i;
  jump = λ b. rw (h.plain (Rjmp (pos (turn_words (direction b) w (width b k))))) refl;
  again = λ b. rw (h.plain (Dec 30), h.plain (Brbs 2 (pos 1)), h.plain (Rjmp (negsuc (turn_words (direction b) w (width b k) + 2)))) refl;
  clamp = clamp;
}
  where
    takes : (p : Location) (i : ℕ) → list_all t (take_byte p i) ≡ true
    takes (InRegisters r) i = rw (h.plain (Mov 0 (r + i))) refl
    takes (InMemory o j) i = rw (h.load 0 o (j + i)) refl

    puts : (s : ℕ) (p : Location) (i : ℕ) → list_all t (put_byte s p i) ≡ true
    puts s (InRegisters r) i = rw (h.plain (Mov (r + i) s)) refl
    puts s (InMemory o j) i = rw (h.store o (j + i) s) refl

    copies : (p q : Location) (i : ℕ) → list_all t (copy_byte p q i) ≡ true
    copies (InRegisters r) (InRegisters s) i = rw (h.plain (Mov (s + i) (r + i))) refl
    copies (InRegisters r) (InMemory o j) i = rw (h.store o (j + i) (r + i)) refl
    copies (InMemory o j) (InRegisters s) i = rw (h.load (s + i) o (j + i)) refl
    copies (InMemory o j) (InMemory o' j') i = rw (h.load 0 o (j + i), h.store o' (j' + i) 0) refl

    doubles : (w : Location) (i : ℕ) → list_all t (operate_byte Sum w w i) ≡ true
    doubles (InRegisters r) i = rw (h.plain (instruction Sum i (r + i) (r + i))) refl
    doubles (InMemory o j) i = rw (h.load 1 o (j + i), h.load 0 o (j + i), h.plain (instruction Sum i 0 1), h.store o (j + i) 0) refl

    halved : (w : Location) (i : ℕ) → list_all t (halve_byte false w k i) ≡ true
    halved (InRegisters r) i = rw (h.plain (halves false i (r + (k - 1 - i)))) refl
    halved (InMemory o j) i = rw (h.load 0 o (j + (k - 1 - i)), h.plain (halves false i 0), h.store o (j + (k - 1 - i)) 0) refl

pub shifts_use_no_label : ShiftsUseNoLabel
shifts_use_no_label items f left mode p c q w k is bits =
    let wide = format_width f k is bits in
    let some = wide.some in
    let t = λ (item : AsmItem). is_placed items (used_label item) in
    shift_passes t f mode p c q w k some
    (passes_plain t f mode p c q w k (record { plain = λ i. refl; load = λ d o j. refl; store = λ o j r. refl })
    (clamps_use_no_label items f mode w q (2 * k) k (omega arith) some)) left

pub shifts_place_no_label : ShiftsPlaceNoLabel
shifts_place_no_label f left mode p c q w k l is bits =
    let wide = format_width f k is bits in
    let some = wide.some in
    let number : AsmItem → ℕ = λ item. cond (is_label l item) 1 0 in
    let t : AsmItem → Bool = λ item. number item == 0 in
    let none_there : count_by (is_label l) (clamp_code f mode w q (2 * k) k) ≡ 0 =
    clamps_place_no_label f mode w q (2 * k) k l (omega arith) some in
    let clamp : list_all t (clamp_code f mode w q (2 * k) k) ≡ true =
    sym (sum_by-zero number (clamp_code f mode w q (2 * k) k)) ∙ ap (λ (n : ℕ). n == 0) none_there in
    let none = shift_passes t f mode p c q w k some
    (passes_plain t f mode p c q w k (record { plain = λ i. refl; load = λ d o j. refl; store = λ o j r. refl }) clamp) left in
    eqb-true (count_by (is_label l) (shift_code f left mode p c q w k)) 0 (sum_by-zero number (shift_code f left mode p c q w k) ∙ none)
