-- A value of a type is read back from its bytes in a temporary.
use Rattle.std.proofs.Common.{◌≡◌, ℕ, zero, suc, ◌-◌, ◌*◌, ◌/◌, ◌^◌, ◌<◌, ◌≤◌, Bool, true, false, not, ◌&&◌, ℤ, pos, negsuc}
use Rattle.std.proofs.Common.{◌-ℤ◌, unsigned_abs, Some, None, Result, Ok, refl, sym, ap, ◌∙◌, subst, inl, inr, arith, eqb-true}
use Rattle.std.specs.Prelude.{if◌then◌else◌, ◌==◌, nat_le, slice_get, option_map, unwrap_or}
use Rattle.std.specs.Int.{int_rem_euclid}
use Rattle.std.specs.Ordering.{int_eq}
use Rattle.std.proofs.lemmas.Int.{ints}
use Rattle.std.proofs.Math.Nat.{mod-eq_of_lt, pow-suc}
use Rattle.std.proofs.lemmas.Nat.{pow_pos}
use Rattle.std.proofs.lemmas.Bool.{le-leb, lt-leb}
use Rattle.std.proofs.lemmas.Bool.Decides.{Decides-int_eq}
use Rattle.ec_fx.specs.declared.formats.FxKind.{FxKind}
use Rattle.ec_fx.specs.declared.formats.FxKind.TheVariants.{ShortFract, Fract, LongFract, ShortAccum, Accum, LongAccum}
use Rattle.ec_fx.specs.declared.formats.FxKind.TheVariants.{UnsignedShortFract, UnsignedFract, UnsignedLongFract}
use Rattle.ec_fx.specs.declared.formats.FxKind.TheVariants.{UnsignedShortAccum, UnsignedAccum, UnsignedLongAccum}
use Rattle.ec_fx.specs.Formats.{format_of}
use Rattle.ec_fx.specs.Ranges.{IsWithin}
use Rattle.ec_space.specs.declared.space.SpaceId.{SpaceId}
use Rattle.ec_space.specs.declared.space.SpaceId.TheVariants.{Flash, FarFlash, Data, Generic}
use Rattle.ec_space.specs.Spaces.{width, holds}
use Rattle.ec_core.specs.declared.arithmetic_types.IntegerType.{IntegerType}
use Rattle.ec_core.specs.declared.values.ObjectPointer.{ObjectPointer}
use Rattle.ec_core.specs.declared.values.Undefined.{Undefined}
use Rattle.ec_core.specs.declared.values.Value.{Value}
use Rattle.ec_core.specs.declared.values.Value.TheVariants.{Number, Pointer}
use Rattle.ec_core.specs.Accesses.{operand_of, referent_of}
use Rattle.ec_core.specs.Integers.{wrapped, width_of, IsInteger, HoldsInteger}
use Rattle.ec_core.specs.Layout.{scalar_size, IsScalar, IsIntegerSize}
use Rattle.ec_core.specs.Operators.{truth_result, unsuited}
use Rattle.ec_core.specs.Pointers.{used}
use Rattle.ec_core.specs.Plain.{PlainType, void, integer, fixed, pointer, array, struct, PlainObject, PlainProgram}
use Rattle.ec_core.specs.State.{State}
use Rattle.ec_core.specs.ValueTypes.{IsPointerInto, HasType}
use Rattle.ec_core.proofs.TypedValues.{some_and}
use Rattle.ec_ir.specs.Temporaries.{low_bytes, number_of_bytes, content_of, value_of_type, is_in_space, is_zero}
use Rattle.ec_lower_code.proofs.Shown.{erased, shown}

-- so many bits as a number, where the modulus is m
abbrev number_of_bits : Bool → (m low : ℕ) → ℤ
number_of_bits signed m low = if signed && nat_le m (2 * low) then pos low -ℤ pos m else pos low

module _ (m h : ℕ) (e : m ≡ 2 * h) (some : 1 ≤ h) where
  unsigned_back : (a : ℕ) → a < m → unsigned_abs (int_rem_euclid (pos a) (pos m)) ≡ a
  unsigned_back a lt = mod-eq_of_lt lt

  negative_back : (a : ℕ) → a < h → unsigned_abs (int_rem_euclid (negsuc a) (pos m)) ≡ m - 1 - a
  negative_back a lt = ap (λ r. m - 1 - r) (mod-eq_of_lt (let z : a < m = omega (arith, e) in z))

  low_back : (a : ℕ) → a < h → number_of_bits true m (unsigned_abs (int_rem_euclid (pos a) (pos m))) ≡ pos a
  low_back a lt =
      ap (number_of_bits true m) (unsigned_back a (omega (arith, e)))
      ∙ ap (λ b. if b then pos a -ℤ pos m else pos a) (lt-leb m (2 * a) (omega (arith, e)))

  high_back : (a : ℕ) → a < h → number_of_bits true m (unsigned_abs (int_rem_euclid (negsuc a) (pos m))) ≡ negsuc a
  high_back a lt =
      ap (number_of_bits true m) (negative_back a lt)
      ∙ ap (λ b. if b then pos (m - 1 - a) -ℤ pos m else pos (m - 1 - a)) (le-leb m (2 * (m - 1 - a)) (omega (arith, e)))
      ∙ omega (arith, ints, e)

half : (w : ℕ) → 1 ≤ w → 2 ^ w ≡ 2 * 2 ^ (w - 1)
half zero h = absurd (omega arith)
half (suc w) h = pow-suc 2 w ∙ omega (arith, ap (λ i. 2 ^ i) (let z : suc w - 1 ≡ w = omega arith in z))

bits_back : (s : Bool) (w : ℕ) (n : ℤ) → 1 ≤ w → IsWithin s w n → number_of_bits s (2 ^ w)
    (unsigned_abs (int_rem_euclid n (pos (2 ^ w)))) ≡ n
bits_back true w (pos a) h i = let high = i.high in low_back (2 ^ w) (2 ^ (w - 1)) (half w h) (pow_pos (w - 1)) a
    (omega (arith, ints, high, pow_pos (w - 1)))
bits_back true w (negsuc a) h i = let low = i.low in high_back (2 ^ w) (2 ^ (w - 1)) (half w h) (pow_pos (w - 1)) a
    (omega (arith, ints, low, pow_pos (w - 1)))
bits_back false w (pos a) h i = let high = i.high in ap pos (mod-eq_of_lt (let z : a < 2 ^ w = omega (arith, ints, high, pow_pos w) in z))
bits_back false w (negsuc a) h i = let low = i.low in absurd (omega (arith, ints, low))

some_bits : (t : IntegerType) → IsInteger t → 1 ≤ width_of t
some_bits t (inl e) = omega (arith, e)
some_bits t (inr (inl e)) = omega (arith, e)
some_bits t (inr (inr e)) = omega (arith, e)

pub wrapped_back : (t : IntegerType) (n : ℤ) → IsInteger t → HoldsInteger t n → wrapped t n ≡ n
wrapped_back t n i h = bits_back t.signed (width_of t) n (some_bits t i) h

-- ---- the same in bytes

bytes_are_bits : (b : ℕ) → IsIntegerSize b → 256 ^ b ≡ 2 ^ (8 * b)
bytes_are_bits b (inl e) = subst (λ (z : ℕ). 256 ^ z ≡ 2 ^ (8 * z)) (sym e) refl
bytes_are_bits b (inr (inl e)) = subst (λ (z : ℕ). 256 ^ z ≡ 2 ^ (8 * z)) (sym e) refl
bytes_are_bits b (inr (inr e)) = subst (λ (z : ℕ). 256 ^ z ≡ 2 ^ (8 * z)) (sym e) refl

abbrev HasBytes : FxKind → Type 0
HasBytes kind = (256 ^ ((format_of kind).bits / 8) ≡ 2 ^ (format_of kind).bits) × (1 ≤ (format_of kind).bits)
    × (1 ≤ (format_of kind).bits / 8) × ((format_of kind).bits / 8 ≤ 8)

pub kind_bytes : (kind : FxKind) → HasBytes kind
kind_bytes ShortFract = (refl, omega arith, omega arith, omega arith)
kind_bytes Fract = (refl, omega arith, omega arith, omega arith)
kind_bytes LongFract = (refl, omega arith, omega arith, omega arith)
kind_bytes ShortAccum = (refl, omega arith, omega arith, omega arith)
kind_bytes Accum = (refl, omega arith, omega arith, omega arith)
kind_bytes LongAccum = (refl, omega arith, omega arith, omega arith)
kind_bytes UnsignedShortFract = (refl, omega arith, omega arith, omega arith)
kind_bytes UnsignedFract = (refl, omega arith, omega arith, omega arith)
kind_bytes UnsignedLongFract = (refl, omega arith, omega arith, omega arith)
kind_bytes UnsignedShortAccum = (refl, omega arith, omega arith, omega arith)
kind_bytes UnsignedAccum = (refl, omega arith, omega arith, omega arith)
kind_bytes UnsignedLongAccum = (refl, omega arith, omega arith, omega arith)

-- m is the modulus of so many bytes, and of as many bits
number_back : (s : Bool) (b w : ℕ) (n : ℤ) → 256 ^ b ≡ 2 ^ w → 1 ≤ w → IsWithin s w n → number_of_bytes s b (low_bytes b n) ≡ n
number_back s b w n e h i = subst (λ (m : ℕ). number_of_bits s m (unsigned_abs (int_rem_euclid n (pos m))) ≡ n) (sym e)
    (bits_back s w n h i)

some_width : (b : ℕ) → IsIntegerSize b → 1 ≤ 8 * b
some_width b (inl e) = omega (arith, e)
some_width b (inr (inl e)) = omega (arith, e)
some_width b (inr (inr e)) = omega (arith, e)

-- ---- values

-- the object of a pointer has its home in the space of the pointer's type
pub into_space : (program : PlainProgram) (space : SpaceId) (p : ObjectPointer) → IsPointerInto program space (Some p)
    → is_in_space program space (erased p) ≡ true
into_space program space p h =
    let d = some_and (slice_get program.objects p.object) _ h in
    ap (λ z. unwrap_or (option_map (λ (o : PlainObject). holds space o.home) z) false) d.1 ∙ d.2.0

pub typed_back : (program : PlainProgram) (ty : PlainType) (v : Value) → IsScalar ty → HasType program ty v
    → value_of_type program ty (content_of (scalar_size ty) (shown v)) ≡ Ok (shown v)
typed_back program void v i h = absurd i
typed_back program (integer s b) (Number n) i h =
    ap (λ (z : ℤ). Ok (Number z)) (number_back s b (8 * b) n (bytes_are_bits b h.0) (some_width b h.0) h.1)
typed_back program (integer s b) (Pointer p) i h = absurd h
typed_back program (fixed k s) (Number n) i h =
    let z = kind_bytes k in
    ap (λ (z : ℤ). Ok (Number z))
    (number_back (format_of k).signed ((format_of k).bits / 8) (format_of k).bits n z.0 z.1 h)
typed_back program (fixed k s) (Pointer p) i h = absurd h
typed_back program (pointer s c t) (Number n) i h = absurd h
typed_back program (pointer s c t) (Pointer None) i h = refl
typed_back program (pointer s c t) (Pointer (Some p)) i h =
    ap (λ b. if b then Ok (Pointer (Some (erased p))) else unsuited) (into_space program s p h)
typed_back program (array t n) v i h = absurd i
typed_back program (struct k) v i h = absurd i

-- the bytes of a scalar type
pub scalar_bytes : (ty : PlainType) → IsScalar ty → (1 ≤ scalar_size ty) × (scalar_size ty ≤ 8)
scalar_bytes void i = absurd i
scalar_bytes (integer s b) (inl e) = (omega (arith, e), omega (arith, e))
scalar_bytes (integer s b) (inr (inl e)) = (omega (arith, e), omega (arith, e))
scalar_bytes (integer s b) (inr (inr e)) = (omega (arith, e), omega (arith, e))
scalar_bytes (fixed k s) i = let z = kind_bytes k in (z.2, z.3)
scalar_bytes (pointer s c t) i = pointer_bytes s
  where
    pointer_bytes : (s : SpaceId) → (1 ≤ width s) × (width s ≤ 8)
    pointer_bytes Flash = (omega arith, omega arith)
    pointer_bytes FarFlash = (omega arith, omega arith)
    pointer_bytes Data = (omega arith, omega arith)
    pointer_bytes Generic = (omega arith, omega arith)
scalar_bytes (array t n) i = absurd i
scalar_bytes (struct k) i = absurd i

-- ---- conditions

pow_some : (b : ℕ) → 0 < 256 ^ b
pow_some zero = omega arith
pow_some (suc b) = let e = pow-suc 256 b in let h = pow_some b in omega (arith, e, h)

pub none : (b : ℕ) → low_bytes b (pos 0) ≡ 0
none b = mod-eq_of_lt (pow_some b)

no_bytes : (s : Bool) (b : ℕ) → number_of_bytes s b 0 ≡ pos 0
no_bytes true b = ap (λ c. if c then pos 0 -ℤ pos (256 ^ b) else pos 0) (lt-leb (256 ^ b) 0 (pow_some b))
no_bytes false b = refl

-- the bytes of a number are 0 where it is 0
zero_bytes : (s : Bool) (b : ℕ) (n : ℤ) → number_of_bytes s b (low_bytes b n) ≡ n → (low_bytes b n == 0) ≡ int_eq n (pos 0)
zero_bytes s b n e = by_test (low_bytes b n == 0) refl
  where
    is_zero_number : low_bytes b n ≡ 0 → n ≡ pos 0
    is_zero_number z = sym e ∙ ap (number_of_bytes s b) z ∙ no_bytes s b

    not_equal : (c : Bool) → int_eq n (pos 0) ≡ c → (low_bytes b n == 0) ≡ false → false ≡ c
    not_equal false f z = refl
    not_equal true f z =
        let g : n ≡ pos 0 = (Decides-int_eq n (pos 0)).0 f in
        absurd (false_true (sym z ∙ ap (λ (q : ℤ). low_bytes b q == 0) g ∙ ap (λ (k : ℕ). k == 0) (none b)))
      where
        false_true : false ≡ true → ⊥
        false_true e = cc

    by_test : (c : Bool) → (low_bytes b n == 0) ≡ c → c ≡ int_eq n (pos 0)
    by_test true z = sym (ap (λ (q : ℤ). int_eq q (pos 0)) (is_zero_number (eqb-true (low_bytes b n) 0 z)))
    by_test false z = not_equal (int_eq n (pos 0)) refl z

abbrev given_bool : Bool → Result Bool Undefined
given_bool h = Ok h

-- a condition holds where some byte of its value is not 0
pub truth_zero : (program : PlainProgram) (ty : PlainType) (v : Value) (s : State) (h : Bool) → IsScalar ty → HasType program ty v
    → truth_result (operand_of program ty v s) ≡ Ok h → is_zero (content_of (scalar_size ty) (shown v)) ≡ not h
truth_zero program void v s h i t e = absurd i
truth_zero program (integer g b) (Number n) s h i t e = zero_bytes g b n (number_back g b (8 * b) n (bytes_are_bits b t.0)
    (some_width b t.0) t.1) ∙ decided n h e
  where
    decided : (n : ℤ) (h : Bool) → given_bool (not (int_eq n (pos 0))) ≡ Ok h → int_eq n (pos 0) ≡ not h
    decided n h e = number (int_eq n (pos 0)) e
      where
        number : (b : Bool) → given_bool (not b) ≡ Ok h → b ≡ not h
        number true f = let g : false ≡ h = cc in ap not g
        number false f = let g : true ≡ h = cc in ap not g
truth_zero program (integer g b) (Pointer p) s h i t e = absurd t
truth_zero program (fixed k g) (Number n) s h i t e = let z = kind_bytes k in zero_bytes (format_of k).signed ((format_of k).bits / 8) n
    (number_back (format_of k).signed ((format_of k).bits / 8) (format_of k).bits n z.0 z.1 t) ∙ number (int_eq n (pos 0)) e
  where
    number : (b : Bool) → given_bool (not b) ≡ Ok h → b ≡ not h
    number true f = let g : false ≡ h = cc in ap not g
    number false f = let g : true ≡ h = cc in ap not g
truth_zero program (fixed k g) (Pointer p) s h i t e = absurd t
truth_zero program (pointer c k g) (Number n) s h i t e = absurd t
truth_zero program (pointer c k g) (Pointer None) s h i t e = let f : false ≡ h = cc in ap not f
truth_zero program (pointer c k g) (Pointer (Some p)) s h i t e = usable (referent_of program (Some p) s).live e
  where
    usable : (b : Bool) → used b (given_bool true) ≡ Ok h → false ≡ not h
    usable true f = let g : true ≡ h = cc in ap not g
    usable false f = cc
truth_zero program (array g n) v s h i t e = absurd i
truth_zero program (struct k) v s h i t e = absurd i
