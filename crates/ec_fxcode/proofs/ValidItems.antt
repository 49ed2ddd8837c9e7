-- The items of the code are valid, and have no labels.
use Rattle.std.proofs.Common.{◌≡◌, ℕ, zero, suc, ◌+◌, ◌-◌, ◌<◌, ◌≤◌, ◌==◌, min, Bool, true, false, List, [], ◌∷◌, ◌++◌, refl, ◌∙◌, arith}
use Rattle.std.specs.Prelude.{nat_lt, ◌&&◌, count_by, cond}
use Rattle.std.specs.List.{list_all}
use Rattle.std.proofs.lemmas.Bool.{lt-ltb, ltb-true, eqb-true, and_parts}
use Rattle.std.proofs.lemmas.List.Folds.{list_all-append, sum_by-zero}
use Rattle.ec_isa.specs.declared.instructions.Instr.{Instr}
use Rattle.ec_isa.specs.declared.instructions.Instr.TheVariants.{Add, Sub, Sbc, And, Or, Eor, Mov, Neg, Com, Andi}
use Rattle.ec_fx.specs.declared.formats.Format.{Format}
use Rattle.ec_fx.specs.declared.numbers.Mode.{Mode}
use Rattle.ec_asm.specs.declared.items.AsmItem.{AsmItem}
use Rattle.ec_asm.specs.declared.items.AsmItem.TheVariants.{Plain, LoadObj, StoreObj}
use Rattle.ec_asm.specs.declared.pieces.Location.{Location}
use Rattle.ec_asm.specs.declared.pieces.Location.TheVariants.{InRegisters, InMemory}
use Rattle.ec_asm.specs.Items.{chain}
use Rattle.ec_asm.specs.Pieces.{copy_byte, copy_code}
use Rattle.ec_asm.specs.Valid.{Sizes, is_valid_item, used_label, is_label, is_placed}
use Rattle.ec_fxcode.specs.Clamps.{take_byte, put_byte, sign_code, fills_code, extended_code, wanted_code, gather_byte, gather_code}
use Rattle.ec_fxcode.specs.Clamps.{masks_code, end_byte, top_byte, ends_code, saturate_code, may_pass, saturate_if, clamp_code}
use Rattle.ec_fxcode.specs.ClampLaws.{HasPlaces, ClampsAreValid, ClampsUseNoLabel, ClampsPlaceNoLabel}

pub both : (t : AsmItem → Bool) (a b : List AsmItem) → list_all t a ≡ true → list_all t b ≡ true → list_all t (a ++ b) ≡ true
both t a b h k = list_all-append t a b ∙ rw (h, k) refl

pub chain_passes : (t : AsmItem → Bool) (body : ℕ → List AsmItem) (n : ℕ) → ((i : ℕ) → i < n → list_all t (body i) ≡ true)
    → list_all t (chain body n) ≡ true
chain_passes t body zero h = refl
chain_passes t body (suc n) h =
    both t (chain body n) (body n) (chain_passes t body n (λ i l. h i (omega arith))) (h n (omega arith))

-- a test that each piece of the code passes
record Passes (t : AsmItem → Bool) (p q : Location) (n k : ℕ) : Type 0 where
  from : (i : ℕ) → i < n → list_all t (take_byte p i) ≡ true
  into : (i : ℕ) → i < k → list_all t (take_byte q i) ≡ true
  low : (i : ℕ) → i < k → list_all t (put_byte 0 q i) ≡ true
  high : (i : ℕ) → i < k → list_all t (put_byte 31 q i) ≡ true
  copy : (i : ℕ) → i < n → i < k → list_all t (copy_byte p q i) ≡ true
  sign : list_all t (Plain (Add 0 0) ∷ Plain (Sbc 31 31) ∷ []) ≡ true
  wanted : list_all t (Plain (Add 0 0) ∷ Plain (Sbc 1 1) ∷ Plain (Eor 30 30) ∷ []) ≡ true
  none : list_all t (Plain (Eor 1 1) ∷ Plain (Mov 30 31) ∷ []) ≡ true
  gather : list_all t (Plain (Sub 0 1) ∷ Plain (Or 30 0) ∷ []) ≡ true
  masks : list_all t masks_code ≡ true
  end : list_all t (Plain (And 0 30) ∷ Plain (Add 0 31) ∷ []) ≡ true
  top : list_all t (Plain (And 0 30) ∷ Plain (Com 30) ∷ Plain (Andi 30 128) ∷ Plain (Add 31 30) ∷ Plain (Add 0 31) ∷ []) ≡ true

module _ (t : AsmItem → Bool) (p q : Location) (n k : ℕ) (h : Passes t p q n k) where
  extended_passes : 1 ≤ n → list_all t (extended_code p q n k) ≡ true
  extended_passes l =
      let m = min n k in
      let sign = both t (take_byte p (n - 1)) (Plain (Add 0 0) ∷ Plain (Sbc 31 31) ∷ []) (h.from (n - 1) (omega arith)) h.sign in
      let copies = chain_passes t (copy_byte p q) m (λ i x. h.copy i (omega arith) (omega arith)) in
      let fills = chain_passes t (λ i. put_byte 31 q (m + i)) (k - m) (λ i x. h.high (m + i) (omega arith)) in
      both t (sign_code p n) (copy_code p q m ++ fills_code q m k) sign (both t (copy_code p q m) (fills_code q m k) copies fills)

  end_passes : (i : ℕ) → i < k → list_all t (end_byte q i) ≡ true
  end_passes i l =
      both t (take_byte q i) (Plain (And 0 30) ∷ Plain (Add 0 31) ∷ put_byte 0 q i) (h.into i l)
      (both t (Plain (And 0 30) ∷ Plain (Add 0 31) ∷ []) (put_byte 0 q i) h.end (h.low i l))

  top_passes : (i : ℕ) → i < k → list_all t (top_byte q i) ≡ true
  top_passes i l =
      both t (take_byte q i)
      (Plain (And 0 30) ∷ Plain (Com 30) ∷ Plain (Andi 30 128) ∷ Plain (Add 31 30) ∷ Plain (Add 0 31) ∷ put_byte 0 q i) (h.into i l)
      (both t (Plain (And 0 30) ∷ Plain (Com 30) ∷ Plain (Andi 30 128) ∷ Plain (Add 31 30) ∷ Plain (Add 0 31) ∷ [])
      (put_byte 0 q i) h.top (h.low i l))

  ends_pass : (signed : Bool) → 1 ≤ k → list_all t (ends_code signed q k) ≡ true
  ends_pass true l =
      both t (chain (end_byte q) (k - 1)) (top_byte q (k - 1)) (chain_passes t (end_byte q) (k - 1) (λ i x. end_passes i (omega arith)))
      (top_passes (k - 1) (omega arith))
  ends_pass false l = chain_passes t (end_byte q) k end_passes

  wanted_passes : (signed : Bool) → 1 ≤ k → may_pass signed n k ≡ true → list_all t (wanted_code signed p k) ≡ true
  wanted_passes true l may =
      let less = ltb-true k n may in
      both t (take_byte p (k - 1)) (Plain (Add 0 0) ∷ Plain (Sbc 1 1) ∷ Plain (Eor 30 30) ∷ []) (h.from (k - 1) (omega arith)) h.wanted
  wanted_passes false l may = h.none

  gather_passes : list_all t (gather_code p k n) ≡ true
  gather_passes =
      chain_passes t (λ i. gather_byte p (k + i)) (n - k)
      (λ i x. both t (take_byte p (k + i)) (Plain (Sub 0 1) ∷ Plain (Or 30 0) ∷ []) (h.from (k + i) (omega arith)) h.gather)

  saturate_passes : (signed : Bool) → 1 ≤ k → may_pass signed n k ≡ true → list_all t (saturate_code signed p q n k) ≡ true
  saturate_passes signed l may =
      both t (wanted_code signed p k) (gather_code p k n ++ (masks_code ++ ends_code signed q k)) (wanted_passes signed l may)
      (both t (gather_code p k n) (masks_code ++ ends_code signed q k) gather_passes
      (both t masks_code (ends_code signed q k) h.masks (ends_pass signed l)))

  if_passes : (saturates signed test : Bool) → (saturates && may_pass signed n k) ≡ test → 1 ≤ k
      → list_all t (saturate_if test signed p q n k) ≡ true
  if_passes saturates signed true e l = saturate_passes signed l ((and_parts saturates (may_pass signed n k) e).1)
  if_passes saturates signed false e l = refl

  clamp_passes : (to : Format) (mode : Mode) → 1 ≤ n → 1 ≤ k → list_all t (clamp_code to mode p q n k) ≡ true
  clamp_passes to mode l m =
      let test = mode.saturate && may_pass to.signed n k in
      both t (extended_code p q n k) (saturate_if test to.signed p q n k) (extended_passes l)
      (if_passes mode.saturate to.signed test refl m)

-- ---- fields

pub take_valid : (sizes : Sizes) (p : Location) (n i : ℕ) → HasPlaces sizes p n → i < n
    → list_all (is_valid_item sizes) (take_byte p i) ≡ true
take_valid sizes (InRegisters r) n i h l = let m : r + i < 32 = omega arith in rw (lt-ltb (r + i) 32 m) refl
take_valid sizes (InMemory o k) n i h l = rw (h i l) refl

pub put_valid : (sizes : Sizes) (s : ℕ) (p : Location) (n i : ℕ) → nat_lt s 32 ≡ true → HasPlaces sizes p n → i < n
    → list_all (is_valid_item sizes) (put_byte s p i) ≡ true
put_valid sizes s (InRegisters r) n i e h l = let m : r + i < 32 = omega arith in rw (lt-ltb (r + i) 32 m, e) refl
put_valid sizes s (InMemory o k) n i e h l = rw (e, h i l) refl

pub copy_valid : (sizes : Sizes) (p q : Location) (n k i : ℕ) → HasPlaces sizes p n → HasPlaces sizes q k → i < n → i < k
    → list_all (is_valid_item sizes) (copy_byte p q i) ≡ true
copy_valid sizes (InRegisters r) (InRegisters s) n k i h g l m =
    let x : r + i < 32 = omega arith in
    let y : s + i < 32 = omega arith in
    rw (lt-ltb (r + i) 32 x, lt-ltb (s + i) 32 y) refl
copy_valid sizes (InRegisters r) (InMemory o j) n k i h g l m =
    let x : r + i < 32 = omega arith in
    rw (lt-ltb (r + i) 32 x, g i m) refl
copy_valid sizes (InMemory o j) (InRegisters s) n k i h g l m =
    let y : s + i < 32 = omega arith in
    rw (lt-ltb (s + i) 32 y, h i l) refl
copy_valid sizes (InMemory o j) (InMemory o' j') n k i h g l m = rw (h i l, g i m) refl

pub clamps_are_valid : ClampsAreValid
clamps_are_valid sizes to mode p q n k some many h g =
    clamp_passes (is_valid_item sizes) p q n k
    (record {
      from = λ i l. take_valid sizes p n i h l;
      into = λ i l. take_valid sizes q k i g l;
      low = λ i l. put_valid sizes 0 q k i refl g l;
      high = λ i l. put_valid sizes 31 q k i refl g l;
      copy = λ i l m. copy_valid sizes p q n k i h g l m;
      sign = refl;
      wanted = refl;
      none = refl;
      gather = refl;
      masks = refl;
      end = refl;
      top = refl;
    })
    to mode some many

-- ---- labels

-- a test that every item passes that is no label and refers to none
record PassesPlain (t : AsmItem → Bool) : Type 0 where
  plain : (i : Instr) → t (Plain i) ≡ true
  load : (d o k : ℕ) → t (LoadObj d o k) ≡ true
  store : (o k r : ℕ) → t (StoreObj o k r) ≡ true

passes_plain : (t : AsmItem → Bool) (p q : Location) (n k : ℕ) → PassesPlain t → Passes t p q n k
passes_plain t p q n k h = record {
  from = λ i l. takes p i;
  into = λ i l. takes q i;
  low = λ i l. puts 0 q i;
  high = λ i l. puts 31 q i;
  copy = λ i l m. copies p q i;
  sign = rw (h.plain (Add 0 0), h.plain (Sbc 31 31)) refl;
  wanted = rw (h.plain (Add 0 0), h.plain (Sbc 1 1), h.plain (Eor 30 30)) refl;
  none = rw (h.plain (Eor 1 1), h.plain (Mov 30 31)) refl;
  gather = rw (h.plain (Sub 0 1), h.plain (Or 30 0)) refl;
  masks = rw (h.plain (Neg 30), h.plain (Sbc 30 30), h.plain (Com 31), h.plain (And 31 30), h.plain (Com 30)) refl;
  end = rw (h.plain (And 0 30), h.plain (Add 0 31)) refl;
  top = rw (h.plain (And 0 30), h.plain (Com 30), h.plain (Andi 30 128), h.plain (Add 31 30), h.plain (Add 0 31)) refl;
}
  where
    takes : (p : Location) (i : ℕ) → list_all t (take_byte p i) ≡ true
    takes (InRegisters r) i = rw (h.plain (Mov 0 (r + i))) refl
    takes (InMemory o k) i = rw (h.load 0 o (k + i)) refl

    puts : (s : ℕ) (p : Location) (i : ℕ) → list_all t (put_byte s p i) ≡ true
    puts s (InRegisters r) i = rw (h.plain (Mov (r + i) s)) refl
    puts s (InMemory o k) i = rw (h.store o (k + i) s) refl

    copies : (p q : Location) (i : ℕ) → list_all t (copy_byte p q i) ≡ true
    copies (InRegisters r) (InRegisters s) i = rw (h.plain (Mov (s + i) (r + i))) refl
    copies (InRegisters r) (InMemory o k) i = rw (h.store o (k + i) (r + i)) refl
    copies (InMemory o k) (InRegisters s) i = rw (h.load (s + i) o (k + i)) refl
    copies (InMemory o k) (InMemory o' k') i = rw (h.load 0 o (k + i), h.store o' (k' + i) 0) refl

pub clamps_use_no_label : ClampsUseNoLabel
clamps_use_no_label items to mode p q n k some many =
    let t = λ (item : AsmItem). is_placed items (used_label item) in
    clamp_passes t p q n k
    (passes_plain t p q n k (record { plain = λ i. refl; load = λ d o j. refl; store = λ o j r. refl })) to mode some many

pub clamps_place_no_label : ClampsPlaceNoLabel
clamps_place_no_label to mode p q n k l some many =
    let number = λ (item : AsmItem). cond (is_label l item) 1 0 in
    let t = λ (item : AsmItem). number item == 0 in
    let none = clamp_passes t p q n k
    (passes_plain t p q n k (record { plain = λ i. refl; load = λ d o j. refl; store = λ o j r. refl })) to mode some many in
    eqb-true (count_by (is_label l) (clamp_code to mode p q n k)) 0 (sum_by-zero number (clamp_code to mode p q n k) ∙ none)
