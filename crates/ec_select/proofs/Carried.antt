-- The code of numbers that are brought by registers to another number of bits behind the point: its items fit, and its
-- words.
use Rattle.std.proofs.Common.{◌≡◌, ◌⊎◌, ℕ, suc, ◌+◌, ◌-◌, ◌*◌, ◌/◌, ◌%◌, ◌≤◌, ◌==◌, min, max, Bool, true, false, ◌++◌, refl, sym, arith}
use Rattle.std.proofs.Common.{◌∷◌, [], ⊎_elim, ◌∙◌}
use Rattle.std.specs.Prelude.{nat_lt, if◌then◌else◌}
use Rattle.std.proofs.lemmas.Bool.{false≢true}
use Rattle.ec_isa.specs.declared.instructions.Instr.TheVariants.{Add, Sbc, Eor}
use Rattle.ec_asm.specs.declared.items.AsmItem.TheVariants.{Plain}
use Rattle.ec_asm.specs.declared.pieces.Location.{Location}
use Rattle.ec_asm.specs.declared.pieces.Location.TheVariants.{InRegisters, InMemory}
use Rattle.ec_asm.specs.declared.pieces.Operator.TheVariants.{Sum, Difference}
use Rattle.ec_asm.specs.Items.{code_words}
use Rattle.ec_asm.specs.Pieces.{instruction, copy_code, operate_code, halve_code}
use Rattle.ec_asm.specs.Valid.{Sizes}
use Rattle.ec_core.specs.Layout.{scalar_size}
use Rattle.ec_core.specs.Operators.{same_kind, same_type}
use Rattle.ec_core.specs.Plain.{PlainType, void, integer, fixed, pointer, array, struct}
use Rattle.ec_fx.specs.declared.numbers.Mode.{Mode}
use Rattle.ec_fxcode.specs.Clamps.{take_byte, put_byte, fills_code}
use Rattle.ec_fxcode_shifts.specs.Shifts.{mark_code, turned_byte, turned_code}
use Rattle.ec_fxcode_formats.specs.Cuts.{row_from, bytes_below, clear_byte, clear_code, double_code, less_code, cut_code}
use Rattle.ec_fxcode_formats.specs.Raises.{spare, signed_code, entered_code, half_code, puts_code, zero_byte, zeros_code}
use Rattle.ec_fxcode_formats.specs.Raises.{more_code, raise_code}
use Rattle.ec_fxcode_formats.specs.Brought.{can_cut, can_raise, can_bring, bring_code}
use Rattle.ec_fxcode_formats.proofs.Carried.{cut_told, raise_told, brought_have}
use Rattle.ec_ir.specs.Costs.{conversion_words}
use Rattle.ec_select_fixed.specs.Types.{IsFixedType, AreFixedConverted}
use Rattle.ec_select_fixed.proofs.Conversions.{converted_types, words_where}
use Rattle.ec_select_shifts.specs.declared.shifts.Direction.TheVariants.{Right}
use Rattle.ec_select_operations.specs.Code.{keeps_number, brought_code}
use Rattle.ec_select.proofs.Fitting.{fits, Fit, joined, chained, ByteFits, BytesFit, registers_fit, fewer_fit, two_fit, reg}
use Rattle.ec_select.proofs.InPlace.{less_fits, take_fits}
use Rattle.ec_select.proofs.Limits.{put_byte_fits}
use Rattle.ec_select.proofs.Loops.{turn_fits}
use Rattle.ec_select.proofs.Pieces.{copy_fits, operate_fits}

-- ---- items

module _ (sizes : Sizes) where
  row_fits : (i k : ℕ) → i + k ≤ 6 → BytesFit sizes (row_from i) k
  row_fits i k l = registers_fit sizes (8 + i) k (omega (arith, l))

  mark_fits : (signed : Bool) (p : Location) (m : ℕ) → 1 ≤ m → BytesFit sizes p m → Fit sizes (mark_code signed p m)
  mark_fits false p m some x = refl
  mark_fits true p m some x =
      joined (fits sizes) (take_byte p (m - 1)) (Plain (Add 0 0) ∷ Plain (Sbc 31 31) ∷ [])
      (take_fits sizes p (m - 1) (x (m - 1) (omega (arith, some)))) refl

  turned_byte_fits : (p q : Location) (i : ℕ) → ByteFits sizes p i → ByteFits sizes q i → Fit sizes (turned_byte p q i)
  turned_byte_fits p q i x z =
      let less = less_fits sizes i 0 (omega arith) in
      let put = put_byte_fits sizes 0 (omega arith) q i z in
      joined (fits sizes) (take_byte p i) (Plain (Eor 0 31) ∷ Plain (instruction Difference i 0 31) ∷ put_byte 0 q i)
      (take_fits sizes p i x) (rw (less, put) refl)

  turned_fits : (p q : Location) (k : ℕ) → BytesFit sizes p k → BytesFit sizes q k → Fit sizes (turned_code p q k)
  turned_fits p q k x z = chained (fits sizes) (turned_byte p q) k (λ i l. turned_byte_fits p q i (x i l) (z i l))

  clear_fits : (m top : ℕ) → top ≤ 6 → Fit sizes (clear_code m top)
  clear_fits m top few =
      chained (fits sizes) (λ i. clear_byte (m + i)) (top - m)
      (λ i l. let both = two_fit (8 + (m + i)) (8 + (m + i)) (omega (arith, l, few)) (omega (arith, l, few)) in rw both refl)

  double_fits : (n d : ℕ) → bytes_below d + n ≤ 6 → Fit sizes (double_code n d)
  double_fits n d room = by_rest (d % 8 == 0) refl
    where
      by_rest : (b : Bool) → (d % 8 == 0) ≡ b
          → Fit sizes (if b then [] else operate_code Sum (row_from (d / 8)) (row_from (d / 8)) (suc n))
      by_rest true q = refl
      by_rest false q =
          let row = registers_fit sizes (8 + d / 8) (suc n) (omega (arith, room)) in
          operate_fits sizes Sum (row_from (d / 8)) (row_from (d / 8)) (suc n) row row

  cut_fits : (signed : Bool) (p q : Location) (m n d : ℕ) → can_cut m n d ≡ true → 1 ≤ m → BytesFit sizes p m → BytesFit sizes q n
      → Fit sizes (cut_code signed p q m n d)
  cut_fits signed p q m n d can some x z =
      let c = cut_told m n d can in
      let few = c.few in
      let room = c.room in
      let top = bytes_below d + n in
      let last = turned_code (row_from (bytes_below d)) q n in
      joined (fits sizes) (mark_code signed p m) (less_code p q m n d) (mark_fits signed p m some x)
      (joined (fits sizes) (turned_code p (row_from 0) m) (clear_code m top ++ (double_code n d ++ last))
      (turned_fits p (row_from 0) m x (row_fits 0 m (omega (arith, few))))
      (joined (fits sizes) (clear_code m top) (double_code n d ++ last) (clear_fits m top room)
      (joined (fits sizes) (double_code n d) last (double_fits n d room)
      (turned_fits (row_from (bytes_below d)) q n (row_fits (bytes_below d) n room) z))))

  signed_fits : (signed : Bool) (p : Location) (m k : ℕ) → 1 ≤ m → BytesFit sizes p m → Fit sizes (signed_code signed p m k)
  signed_fits signed p m k some x = by_test (nat_lt m k)
    where
      by_test : (b : Bool) → Fit sizes (if b then mark_code signed p m else [])
      by_test true = mark_fits signed p m some x
      by_test false = refl

  entered_fits : (p : Location) (m s k : ℕ) → s + k ≤ 6 → BytesFit sizes p m → Fit sizes (entered_code p m s k)
  entered_fits p m s k room x =
      let few = min m k in
      let row = row_fits s k room in
      joined (fits sizes) (clear_code 0 s) (copy_code p (row_from s) few ++ fills_code (row_from s) few k) (clear_fits 0 s (omega
      (arith, room)))
      (joined (fits sizes) (copy_code p (row_from s) few) (fills_code (row_from s) few k)
      (copy_fits sizes p (row_from s) few (fewer_fit sizes p few m (omega arith) x) (fewer_fit sizes (row_from s) few k (omega arith) row))
      (chained (fits sizes) (λ i. put_byte 31 (row_from s) (few + i)) (k - few)
      (λ i l. put_byte_fits sizes 31 (omega arith) (row_from s) (few + i) (row (few + i) (omega (arith, l))))))

  half_fits : (k u : ℕ) → suc k ≤ 24 → Fit sizes (half_code k u)
  half_fits k u few = by_rest (u % 8 == 0)
    where
      by_rest : (b : Bool) → Fit sizes (if b then [] else halve_code false (row_from 0) (suc k))
      by_rest true = refl
      by_rest false = turn_fits sizes (Right false) (row_from 0) (suc k) (registers_fit sizes 8 (suc k) (omega (arith, few)))

  zero_fits : (q : Location) (i : ℕ) → ByteFits sizes q i → Fit sizes (zero_byte q i)
  zero_fits (InRegisters r) i x = rw (reg (r + i) x) refl
  zero_fits (InMemory o k) i x = rw x refl

  out_fits : (q : Location) (i k : ℕ) → k ≤ 6 → BytesFit sizes q (i + k) → Fit sizes (puts_code q i k ++ zeros_code q i)
  out_fits q i k few z =
      joined (fits sizes) (puts_code q i k) (zeros_code q i)
      (chained (fits sizes) (λ j. put_byte (8 + j) q (i + j)) k
      (λ j l. put_byte_fits sizes (8 + j) (omega (arith, l, few)) q (i + j) (z (i + j) (omega (arith, l)))))
      (chained (fits sizes) (zero_byte q) i (λ j l. zero_fits q j (z j (omega (arith, l)))))

  raise_fits : (signed : Bool) (p q : Location) (m n u : ℕ) → can_raise n u ≡ true → 1 ≤ m → BytesFit sizes p m → BytesFit sizes q n
      → Fit sizes (raise_code signed p q m n u)
  raise_fits signed p q m n u can some x z =
      let c = raise_told n u can in
      let low = c.some in
      let room = c.room in
      let i = u / 8 in
      let k = n - i in
      let out = puts_code q i k ++ zeros_code q i in
      joined (fits sizes) (signed_code signed p m k) (more_code p q m u i k) (signed_fits signed p m k some x)
      (joined (fits sizes) (entered_code p m (spare u) k) (half_code k u ++ out) (entered_fits p m (spare u) k room x)
      (joined (fits sizes) (half_code k u) out (half_fits k u (omega (arith, room)))
      (out_fits q i k (omega (arith, room)) (fewer_fit sizes q (i + k) n (omega (arith, low)) z))))

  bring_fits : (signed : Bool) (p q : Location) (m n f r : ℕ) → can_bring m n f r ≡ true → 1 ≤ m → BytesFit sizes p m
      → BytesFit sizes q n → Fit sizes (bring_code signed p q m n f r)
  bring_fits signed p q m n f r can some x z = by_order (nat_lt f r) can
    where
      by_order : (t : Bool) → (if t then can_raise n (r - f) else can_cut m n (f - r)) ≡ true
          → Fit sizes (if t then raise_code signed p q m n (r - f) else cut_code signed p q m n (f - r))
      by_order true g = raise_fits signed p q m n (r - f) g some x z
      by_order false g = cut_fits signed p q m n (f - r) g some x z

  -- where so many bytes are needed
  pub carried_fits : (signed : Bool) (p q : Location) (m n f r needed : ℕ) → can_bring m n f r ≡ true → 1 ≤ m → BytesFit sizes p m
      → BytesFit sizes q n → Fit sizes (brought_code signed p q m n f r needed)
  carried_fits signed p q m n f r needed can some x z = by_count (needed == 0)
    where
      by_count : (b : Bool) → Fit sizes (if b then [] else bring_code signed p q m n f r)
      by_count true = refl
      by_count false = bring_fits signed p q m n f r can some x z

-- ---- words

neither : ⊥ ⊎ ⊥ → ⊥
neither h = ⊎_elim (λ (z : ⊥). z) (λ (z : ⊥). z) h

-- a conversion that does not keep its number is one to another type
other_type : (ty aty : PlainType) (mode : Mode) → keeps_number ty aty mode ≡ false → IsFixedType ty ⊎ IsFixedType aty
    → same_type ty aty ≡ false
other_type (fixed k s) (fixed j t) mode q f = by_kind (same_kind k j) refl
  where
    by_kind : (b : Bool) → same_kind k j ≡ b → same_type (fixed k s) (fixed j t) ≡ false
    by_kind true e = let keeps : keeps_number (fixed k s) (fixed j t) mode ≡ true = rw e refl in absurd (false≢true (sym q ∙ keeps))
    by_kind false e = rw e refl
other_type (fixed k s) void mode q f = refl
other_type (fixed k s) (integer u n) mode q f = refl
other_type (fixed k s) (pointer p c z) mode q f = refl
other_type (fixed k s) (array z n) mode q f = refl
other_type (fixed k s) (struct n) mode q f = refl
other_type void (fixed j t) mode q f = refl
other_type (integer u n) (fixed j t) mode q f = refl
other_type (pointer p c z) (fixed j t) mode q f = refl
other_type (array z n) (fixed j t) mode q f = refl
other_type (struct n) (fixed j t) mode q f = refl
other_type void void mode q f = absurd (neither f)
other_type void (integer u n) mode q f = refl
other_type void (pointer p c z) mode q f = refl
other_type void (array z n) mode q f = refl
other_type void (struct n) mode q f = refl
other_type (integer u n) void mode q f = refl
other_type (integer u n) (integer v m) mode q f = absurd (neither f)
other_type (integer u n) (pointer p c z) mode q f = refl
other_type (integer u n) (array z m) mode q f = refl
other_type (integer u n) (struct m) mode q f = refl
other_type (pointer p c z) void mode q f = refl
other_type (pointer p c z) (integer u n) mode q f = refl
other_type (pointer p c z) (pointer o d y) mode q f = absurd (neither f)
other_type (pointer p c z) (array y n) mode q f = refl
other_type (pointer p c z) (struct n) mode q f = refl
other_type (array z n) void mode q f = refl
other_type (array z n) (integer u m) mode q f = refl
other_type (array z n) (pointer p c y) mode q f = refl
other_type (array z n) (array y m) mode q f = absurd (neither f)
other_type (array z n) (struct m) mode q f = refl
other_type (struct n) void mode q f = refl
other_type (struct n) (integer u m) mode q f = refl
other_type (struct n) (pointer p c y) mode q f = refl
other_type (struct n) (array y m) mode q f = refl
other_type (struct n) (struct m) mode q f = absurd (neither f)

pub carried_words : (ty aty : PlainType) (mode : Mode) (signed : Bool) (p q : Location) (f r n : ℕ) → keeps_number ty aty mode ≡ false
    → AreFixedConverted ty aty → can_bring (scalar_size aty) (scalar_size ty) f r ≡ true
    → code_words (brought_code signed p q (scalar_size aty) (scalar_size ty) f r n) ≤ conversion_words ty aty
carried_words ty aty mode signed p q f r n other types can = by_count (n == 0)
  where
    by_count : (b : Bool) → code_words (if b then [] else bring_code signed p q (scalar_size aty)
        (scalar_size ty) f r) ≤ conversion_words ty aty
    by_count true = omega arith
    by_count false =
        let w : conversion_words ty aty ≡ 100 + 40 * max (scalar_size ty) (max (scalar_size aty) 1) =
        words_where false ty aty (converted_types ty aty types) (other_type ty aty mode other types.fixed) in
        let b = brought_have signed p q (scalar_size aty) (scalar_size ty) f r can in
        omega (arith, w, b)
