-- Types of operations on pointers.
use Rattle.std.proofs.Common.{◌≡◌, ℕ, ◌≤◌, ◌==◌, Bool, true, false, refl, sym, ap, ◌∙◌, arith, inl, inr, ◌<◌, ⊎_elim}
use Rattle.std.specs.Prelude.{◌&&◌, ◌||◌, max}
use Rattle.std.proofs.lemmas.Bool.{false≢true, cases_lt}
use Rattle.ec_core.specs.declared.expressions.BinOp.{BinOp}
use Rattle.ec_core.specs.declared.expressions.BinOp.TheVariants.{Add, Sub, Mul, Div, Rem, And, Or, Xor, Lt, Gt, Le, Ge}
use Rattle.ec_core.specs.declared.expressions.BinOp.TheVariants.{Eq, Ne, Shl, Shr}
use Rattle.ec_core.specs.Layout.{scalar_size}
use Rattle.ec_core.specs.Plain.{PlainType, void, integer, fixed, pointer, array, struct}
use Rattle.ec_core.specs.Typing.{IsIntegerType, HavePointerTypes, HaveOffsetTypes, IsAdd, HaveBinaryTypes}
use Rattle.ec_core.specs.Typing.{AreConvertible}
use Rattle.ec_ir.specs.Costs.{is_bitwise}
use Rattle.ec_ir.specs.declared.operations.Temp.{Temp}
use Rattle.ec_space.specs.declared.space.SpaceId.{SpaceId}
use Rattle.ec_space.specs.declared.space.SpaceId.TheVariants.{Flash, FarFlash, Data, Generic}
use Rattle.ec_space.specs.Spaces.{width}
use Rattle.ec_select_operations.specs.declared.families.Family.{Family}
use Rattle.ec_select_operations.specs.declared.families.Family.TheVariants.{Combined, Compared, Multiplied, Shifted}
use Rattle.ec_select_operations.specs.declared.families.Family.TheVariants.{Divided}
use Rattle.ec_select_functions.specs.Covered.{IsBinary, AreConverted}
use Rattle.ec_select_operations.specs.Needs.{is_fixed}
use Rattle.ec_select_operations.specs.Pointers.{is_pointer, IsPointerSize}

-- ---- sizes

pub some_width : (s : SpaceId) → 2 ≤ width s
some_width Flash = omega arith
some_width Data = omega arith
some_width FarFlash = omega arith
some_width Generic = omega arith

pub few_width : (s : SpaceId) → width s ≤ 3
few_width Flash = omega arith
few_width Data = omega arith
few_width FarFlash = omega arith
few_width Generic = omega arith

pub width_is : (s : SpaceId) (bytes : ℕ) → bytes ≡ width s → IsPointerSize bytes
width_is Flash bytes e = inl e
width_is Data bytes e = inl e
width_is FarFlash bytes e = inr e
width_is Generic bytes e = inr e

-- so many bytes are made of a pointer of which so many are needed
pub made_bytes : (n bytes : ℕ) → IsPointerSize bytes → n ≤ bytes → IsPointerSize (max 2 n) × (max 2 n ≤ bytes)
made_bytes n bytes (inl two) l = (inl (omega (arith, two, l)), omega (arith, two, l))
made_bytes n bytes (inr three) l =
    ⊎_elim (λ (f : n < 3). (inl (omega (arith, f)), omega (arith, f, three)))
    (λ (f : 3 ≤ n). (inr (omega (arith, f, three, l)), omega (arith, f, three, l)))
    (cases_lt n 3)

-- ---- operators

-- the result of an operator on two pointers, the operands of one on a pointer and a number, and that no such operator
-- is bitwise
pub of_pointers : (op : BinOp) (same : Type 0) → HavePointerTypes op same → same × (is_bitwise op ≡ false)
of_pointers Add same h = absurd h
of_pointers Sub same h = (h, refl)
of_pointers Mul same h = absurd h
of_pointers Div same h = absurd h
of_pointers Rem same h = absurd h
of_pointers And same h = absurd h
of_pointers Or same h = absurd h
of_pointers Xor same h = absurd h
of_pointers Lt same h = (h, refl)
of_pointers Gt same h = (h, refl)
of_pointers Le same h = (h, refl)
of_pointers Ge same h = (h, refl)
of_pointers Eq same h = (h, refl)
of_pointers Ne same h = (h, refl)
of_pointers Shl same h = absurd h
of_pointers Shr same h = absurd h

pub of_offset : (op : BinOp) (count : PlainType) → HaveOffsetTypes op count → IsIntegerType count × (is_bitwise op ≡ false)
of_offset Add count h = (h, refl)
of_offset Sub count h = (h, refl)
of_offset Mul count h = absurd h
of_offset Div count h = absurd h
of_offset Rem count h = absurd h
of_offset And count h = absurd h
of_offset Or count h = absurd h
of_offset Xor count h = absurd h
of_offset Lt count h = absurd h
of_offset Gt count h = absurd h
of_offset Le count h = absurd h
of_offset Ge count h = absurd h
of_offset Eq count h = absurd h
of_offset Ne count h = absurd h
of_offset Shl count h = absurd h
of_offset Shr count h = absurd h

of_sum : (op : BinOp) → IsAdd op → is_bitwise op ≡ false
of_sum Add h = refl
of_sum Sub h = absurd h
of_sum Mul h = absurd h
of_sum Div h = absurd h
of_sum Rem h = absurd h
of_sum And h = absurd h
of_sum Or h = absurd h
of_sum Xor h = absurd h
of_sum Lt h = absurd h
of_sum Gt h = absurd h
of_sum Le h = absurd h
of_sum Ge h = absurd h
of_sum Eq h = absurd h
of_sum Ne h = absurd h
of_sum Shl h = absurd h
of_sum Shr h = absurd h

number_is_not_fixed : (ty : PlainType) → IsIntegerType ty → is_fixed ty ≡ false
number_is_not_fixed (integer s n) h = refl
number_is_not_fixed (fixed k s) h = absurd h
number_is_not_fixed void h = absurd h
number_is_not_fixed (pointer s k t) h = absurd h
number_is_not_fixed (array of n) h = absurd h
number_is_not_fixed (struct n) h = absurd h

-- two pointers
pub record TwoPointers (op : BinOp) (ty aty bty : PlainType) : Type 0 where
  pub bitwise : is_bitwise op ≡ false
  pub no_fixed : (is_fixed aty || is_fixed bty) ≡ false
  pub some : 2 ≤ scalar_size aty
  pub same : scalar_size bty ≡ scalar_size aty
  pub result : scalar_size ty ≡ 2

-- a pointer, and the bytes of the result
pub record OnePointer (op : BinOp) (ty own aty bty : PlainType) : Type 0 where
  pub bitwise : is_bitwise op ≡ false
  pub no_fixed : (is_fixed aty || is_fixed bty) ≡ false
  pub some : 2 ≤ scalar_size own
  pub result : scalar_size ty ≡ scalar_size own

pub two_pointers : (op : BinOp) (ty aty bty : PlainType) → is_pointer aty ≡ true → is_pointer bty ≡ true
    → HaveBinaryTypes op ty aty bty → TwoPointers op ty aty bty
two_pointers op ty (pointer s k t) (pointer r c u) x y h =
    let q = of_pointers op ((s ≡ r) × (t ≡ u) × (ty ≡ integer true 2)) h in
    let e : s ≡ r = q.0.0 in let i : ty ≡ integer true 2 = q.0.2 in
    record { bitwise = q.1; no_fixed = refl; some = some_width s; same = rw e refl; result = rw i refl }
two_pointers op ty void bty x y h = absurd (false≢true x)
two_pointers op ty (integer s n) bty x y h = absurd (false≢true x)
two_pointers op ty (fixed k s) bty x y h = absurd (false≢true x)
two_pointers op ty (array of n) bty x y h = absurd (false≢true x)
two_pointers op ty (struct n) bty x y h = absurd (false≢true x)
two_pointers op ty aty void x y h = absurd (false≢true y)
two_pointers op ty aty (integer s n) x y h = absurd (false≢true y)
two_pointers op ty aty (fixed k s) x y h = absurd (false≢true y)
two_pointers op ty aty (array of n) x y h = absurd (false≢true y)
two_pointers op ty aty (struct n) x y h = absurd (false≢true y)

first_pointer_is : (op : BinOp) (ty bty to : PlainType) (s : SpaceId) (k : Bool) → HaveOffsetTypes op bty
    → ty ≡ pointer s k to → OnePointer op ty (pointer s k to) (pointer s k to) bty
first_pointer_is op ty bty to s k h e =
    let q = of_offset op bty h in
    record { bitwise = q.1; no_fixed = number_is_not_fixed bty q.0; some = some_width s; result = rw e refl }

pub first_pointer : (op : BinOp) (ty aty bty : PlainType) → is_pointer aty ≡ true → is_pointer bty ≡ false
    → HaveBinaryTypes op ty aty bty → OnePointer op ty aty aty bty
first_pointer op ty (pointer s k t) void x y h = first_pointer_is op ty void t s k h.0 h.1
first_pointer op ty (pointer s k t) (integer g n) x y h = first_pointer_is op ty (integer g n) t s k h.0 h.1
first_pointer op ty (pointer s k t) (fixed g n) x y h = first_pointer_is op ty (fixed g n) t s k h.0 h.1
first_pointer op ty (pointer s k t) (array of n) x y h = first_pointer_is op ty (array of n) t s k h.0 h.1
first_pointer op ty (pointer s k t) (struct n) x y h = first_pointer_is op ty (struct n) t s k h.0 h.1
first_pointer op ty aty (pointer s k t) x y h = absurd (cc)
first_pointer op ty void bty x y h = absurd (false≢true x)
first_pointer op ty (integer s n) bty x y h = absurd (false≢true x)
first_pointer op ty (fixed k s) bty x y h = absurd (false≢true x)
first_pointer op ty (array of n) bty x y h = absurd (false≢true x)
first_pointer op ty (struct n) bty x y h = absurd (false≢true x)

second_pointer_is : (op : BinOp) (ty aty to : PlainType) (s : SpaceId) (k : Bool) → IsAdd op → IsIntegerType aty
    → ty ≡ pointer s k to → OnePointer op ty (pointer s k to) aty (pointer s k to)
second_pointer_is op ty aty to s k a h e =
    record {
      bitwise = of_sum op a;
      no_fixed = ap (λ b. b || false) (number_is_not_fixed aty h);
      some = some_width s;
      result = rw e refl;
    }

pub second_pointer : (op : BinOp) (ty aty bty : PlainType) → is_pointer aty ≡ false → is_pointer bty ≡ true
    → HaveBinaryTypes op ty aty bty → OnePointer op ty bty aty bty
second_pointer op ty void (pointer s k t) x y h = second_pointer_is op ty void t s k h.0 h.1 h.2
second_pointer op ty (integer g n) (pointer s k t) x y h = second_pointer_is op ty (integer g n) t s k h.0 h.1 h.2
second_pointer op ty (fixed g n) (pointer s k t) x y h = second_pointer_is op ty (fixed g n) t s k h.0 h.1 h.2
second_pointer op ty (array of n) (pointer s k t) x y h = second_pointer_is op ty (array of n) t s k h.0 h.1 h.2
second_pointer op ty (struct n) (pointer s k t) x y h = second_pointer_is op ty (struct n) t s k h.0 h.1 h.2
second_pointer op ty (pointer g c u) bty x y h = absurd (cc)
second_pointer op ty aty void x y h = absurd (false≢true y)
second_pointer op ty aty (integer s n) x y h = absurd (false≢true y)
second_pointer op ty aty (fixed k s) x y h = absurd (false≢true y)
second_pointer op ty aty (array of n) x y h = absurd (false≢true y)
second_pointer op ty aty (struct n) x y h = absurd (false≢true y)

-- an operator with a pointer has no fixed-point operand, and is not bitwise
pub pointers_only : (op : BinOp) (ty aty bty : PlainType) → (is_pointer aty || is_pointer bty) ≡ true
    → HaveBinaryTypes op ty aty bty → ((is_fixed aty || is_fixed bty) ≡ false) × (is_bitwise op ≡ false)
pointers_only op ty aty bty k h = by_kinds (is_pointer aty) (is_pointer bty) refl refl k where
  by_kinds : (x y : Bool) → is_pointer aty ≡ x → is_pointer bty ≡ y → (x || y) ≡ true
      → ((is_fixed aty || is_fixed bty) ≡ false) × (is_bitwise op ≡ false)
  by_kinds true true d e k = let t = two_pointers op ty aty bty d e h in (t.no_fixed, t.bitwise)
  by_kinds true false d e k = let t = first_pointer op ty aty bty d e h in (t.no_fixed, t.bitwise)
  by_kinds false true d e k = let t = second_pointer op ty aty bty d e h in (t.no_fixed, t.bitwise)
  by_kinds false false d e k = absurd (false≢true k)

-- ---- conversions

-- a pointer becomes a pointer
pub record PointerConverted (ty aty : PlainType) : Type 0 where
  pub no_fixed : (is_fixed ty || is_fixed aty) ≡ false
  pub size : IsPointerSize (scalar_size ty)
  pub size_from : IsPointerSize (scalar_size aty)

pub pointer_converted : (ty aty : PlainType) → is_pointer aty ≡ true → AreConvertible ty aty → PointerConverted ty aty
pointer_converted (pointer s k t) (pointer r c u) x h =
    record { no_fixed = refl; size = width_is s (width s) refl; size_from = width_is r (width r) refl }
pointer_converted void (pointer r c u) x h = absurd h
pointer_converted (integer s n) (pointer r c u) x h = absurd h
pointer_converted (fixed k s) (pointer r c u) x h = absurd h
pointer_converted (array of n) (pointer r c u) x h = absurd h
pointer_converted (struct n) (pointer r c u) x h = absurd h
pointer_converted ty void x h = absurd (false≢true x)
pointer_converted ty (integer s n) x h = absurd (false≢true x)
pointer_converted ty (fixed k s) x h = absurd (false≢true x)
pointer_converted ty (array of n) x h = absurd (false≢true x)
pointer_converted ty (struct n) x h = absurd (false≢true x)

-- one that does not get a third byte has no more bytes than before
pub stays_within : (m k : ℕ) → IsPointerSize m → IsPointerSize k → (m == 2 && k == 3) ≡ false → k ≤ m
stays_within m k (inl e) (inl d) t = omega arith
stays_within m k (inl e) (inr d) t =
    let q : (m == 2 && k == 3) ≡ true = rw (e, d) refl in absurd (false≢true (sym t ∙ q))
stays_within m k (inr e) (inl d) t = omega arith
stays_within m k (inr e) (inr d) t = omega arith

pub at_least_two : (m : ℕ) → IsPointerSize m → 2 ≤ m
at_least_two m (inl e) = omega arith
at_least_two m (inr e) = omega arith

-- ---- integers are no pointers

pub no_pointer : (x : Family) (slots : ℕ) (t a b : Temp) (ty aty bty : PlainType) → IsBinary x slots t a b ty aty bty
    → (is_pointer aty || is_pointer bty) ≡ false
no_pointer (Combined o) slots t a b ty aty bty k =
    ap (λ z. is_pointer z || is_pointer bty) k.left_type ∙ ap is_pointer k.right_type
no_pointer (Compared r exchanged) slots t a b ty aty bty k =
    ap (λ z. is_pointer z || is_pointer bty) k.left_type ∙ ap is_pointer k.right_type
no_pointer Multiplied slots t a b ty aty bty k =
    ap (λ z. is_pointer z || is_pointer bty) k.left_type ∙ ap is_pointer k.right_type
no_pointer (Shifted up) slots t a b ty aty bty k =
    ap (λ z. is_pointer z || is_pointer bty) k.0.left_type ∙ ap is_pointer k.0.count_type
no_pointer (Divided r) slots t a b ty aty bty k =
    ap (λ z. is_pointer z || is_pointer bty) k.0.left_type ∙ ap is_pointer k.0.right_type

pub none_pointed : (slots : ℕ) (t a : Temp) (ty aty : PlainType) → AreConverted slots t a ty aty → is_pointer aty ≡ false
none_pointed slots t a ty aty k = ap is_pointer k.from_type
