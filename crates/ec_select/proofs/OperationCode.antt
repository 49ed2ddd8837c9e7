-- Valid operations are covered.
use Rattle.std.proofs.Common.{◌≡◌, ◌≢◌, ◌⊎◌, ⊎_elim, ℕ, ◌+◌, ◌<◌, ◌≤◌, ◌==◌, Bool, true, false, List, [], ◌∷◌, refl}
use Rattle.std.proofs.Common.{sym, ◌∙◌, ap, subst, arith, inl, inr}
use Rattle.std.specs.Prelude.{⊤, ◌&&◌, ◌||◌, nat_lt, Option, Some, None, slice_get, IsSomeAnd}
use Rattle.std.specs.List.{AllByRecursion, position_from}
use Rattle.std.proofs.lemmas.Bool.{false≢true}
use Rattle.std.proofs.lemmas.Bool.Decides.{nat_tests}
use Rattle.ec_core.specs.declared.arithmetic_types.Arithmetic.{Arithmetic}
use Rattle.ec_core.specs.declared.arithmetic_types.Arithmetic.TheVariants.{Integer, Fixed}
use Rattle.ec_core.specs.declared.arithmetic_types.FixedType.{FixedType}
use Rattle.ec_core.specs.declared.arithmetic_types.IntegerType.{IntegerType}
use Rattle.ec_core.specs.declared.expressions.BinOp.{BinOp}
use Rattle.ec_core.specs.declared.expressions.BinOp.TheVariants.{Add, Sub, Mul, Div, Rem, And, Or, Xor, Lt, Gt, Le, Ge}
use Rattle.ec_core.specs.declared.expressions.BinOp.TheVariants.{Eq, Ne, Shl, Shr}
use Rattle.ec_core.specs.ArithmeticTypes.{arithmetic_of, promoted, common_integer, wider_or_unsigned}
use Rattle.ec_core.specs.Layout.{IsScalar, PlainLeaf, leaves_of_type, scalar_size, size_of_type}
use Rattle.ec_core.specs.Plain.{PlainType, void, integer, fixed, pointer, array, struct, PlainObject}
use Rattle.ec_core.specs.TypeLaws.{LeavesFillTheirTypes}
use Rattle.ec_core.specs.Typing.{HaveUsualTypes, HaveProductTypes, HaveComparedTypes, HaveArithmeticTypes}
use Rattle.ec_core.specs.Typing.{HaveBinaryTypes}
use Rattle.ec_core.specs.Typing.{AreConvertible}
use Rattle.ec_core.specs.Valid.{EachFrom, IsObject, IsNamedIn, IsAddressable}
use Rattle.ec_space.specs.declared.space.SpaceId.{SpaceId}
use Rattle.ec_ir.specs.declared.operations.Temp.{Temp}
use Rattle.ec_ir.specs.Costs.{is_bitwise}
use Rattle.ec_ir.specs.Operations.{PlainIr, constant, copy, address, field, load_at, store_at, load_object}
use Rattle.ec_ir.specs.Operations.{store_object, binary_op, unary_op, conversion, label, jump, branch_zero}
use Rattle.ec_ir.specs.Operations.{call_function, return_from, port_in, port_out, load_cell, store_cell, cell_port}
use Rattle.ec_ir.specs.Operations.{PlainIrFunction, PlainIrProgram}
use Rattle.ec_ir.specs.Operations.{data_of}
use Rattle.ec_ir.specs.Valid.{ValidIrFunction, ValidOperation, IsTemp, IsTempOf, IsPointerTemp, HasLeafOf}
use Rattle.ec_ir.specs.Valid.{HasPointersOf, HaveOperationTypes, HaveCountTypes, HaveBitTypes}
use Rattle.ec_ir.specs.Valid.{IsResult as IsValidResult, IsIndex, IsPortWidth, IsParameterOf, called_in}
use Rattle.ec_select_fixed.specs.Types.{IsFixedType}
use Rattle.ec_select_operations.specs.Code.{family_of}
use Rattle.ec_select_operations.specs.Emitted.{OfKind}
use Rattle.ec_select_operations.specs.Needs.{is_fixed}
use Rattle.ec_select_operations.specs.Pointers.{is_pointer}
use Rattle.ec_select_functions.specs.Covered.{HasScalarAt, AreIntegers, AreCompared, AreFactors, AreShifted}
use Rattle.ec_select_functions.specs.Covered.{AreDivided, IsBinary, HasIndex, IsPort}
use Rattle.ec_select_functions.specs.Covered.{IsFixedBinary, IsUnary, IsFixedUnary, AreConverted, IsFixedConversion}
use Rattle.ec_select_functions.specs.Covered.{IsAddress, IsInto, IsPointerBinary, IsPointerConversion, IsResult}
use Rattle.ec_select_functions.specs.Covered.{IsStoredIn, IsCovered, AreCovered}
use Rattle.ec_select_operations.specs.Homes.{HasHome}
use Rattle.ec_select.specs.InPlace.{IsInPlace}
use Rattle.ec_select.specs.Laws.{OperationsHaveCode}
use Rattle.ec_select.specs.Suited.{IsAdditive, ArePlacesSuited, IsSuited, IsOnPorts}
use Rattle.ec_select.specs.Selected.{ValidWithCells}
use Rattle.ec_select.proofs.FixedTypes.{at_most_four, at_most_eight, fixed_type, fixed_either}
use Rattle.ec_select.proofs.PointerTypes.{few_width, width_is, pointers_only}
use Rattle.ec_select.proofs.Setting.{all_at, function_valid}

-- ---- types

abbrev pub IsIntegerType : PlainType → Type 0
IsIntegerType (integer signed bytes) = ⊤
IsIntegerType ty = ⊥

pub as_integer : (ty : PlainType) → IsIntegerType ty → (s : Bool) × (n : ℕ) × (ty ≡ integer s n)
as_integer (integer s n) h = (s, n, refl)
as_integer void h = absurd h
as_integer (fixed kind sat) h = absurd h
as_integer (pointer space const to) h = absurd h
as_integer (array of len) h = absurd h
as_integer (struct index) h = absurd h

-- a scalar type is one of integers, or fixed-point, or that of a pointer
left_integer : (ty : PlainType) → IsScalar ty → is_fixed ty ≡ false → is_pointer ty ≡ false → IsIntegerType ty
left_integer (integer s n) h f g = tt
left_integer void h f g = absurd h
left_integer (fixed k s) h f g = absurd (false≢true (sym f))
left_integer (pointer s k t) h f g = absurd (false≢true (sym g))
left_integer (array of n) h f g = absurd h
left_integer (struct n) h f g = absurd h

arithmetic_integer : (ty : PlainType) (P : Arithmetic → Type 0) → IsSomeAnd (arithmetic_of ty) P → is_fixed ty ≡ false
    → IsIntegerType ty
arithmetic_integer (integer s n) P h f = tt
arithmetic_integer void P h f = absurd h
arithmetic_integer (fixed k s) P h f = absurd (false≢true (sym f))
arithmetic_integer (pointer s k t) P h f = absurd h
arithmetic_integer (array of n) P h f = absurd h
arithmetic_integer (struct n) P h f = absurd h

arithmetic_no_pointer : (ty : PlainType) (P : Arithmetic → Type 0) → IsSomeAnd (arithmetic_of ty) P → is_pointer ty ≡ false
arithmetic_no_pointer (integer s n) P h = refl
arithmetic_no_pointer (fixed k s) P h = refl
arithmetic_no_pointer void P h = absurd h
arithmetic_no_pointer (pointer s k t) P h = absurd h
arithmetic_no_pointer (array of n) P h = absurd h
arithmetic_no_pointer (struct n) P h = absurd h

pub both_false : (a b : Bool) → (a || b) ≡ false → (a ≡ false) × (b ≡ false)
both_false false b h = (refl, h)
both_false true b h = absurd (false≢true (sym h))

-- an operator on two integers has no fixed-point result
no_fixed_result : (op : BinOp) (t : FixedType) (x y : IntegerType) → HaveArithmeticTypes op (Fixed t) (Integer x) (Integer y)
    → ⊥
no_fixed_result Add t x y h = let v = h.value in absurd (cc)
no_fixed_result Sub t x y h = let v = h.value in absurd (cc)
no_fixed_result Mul t x y h = let v = h.value in absurd (cc)
no_fixed_result Div t x y h = let v = h.value in absurd (cc)
no_fixed_result Rem t x y h = let v = h.usual.value in absurd (cc)
no_fixed_result And t x y h = let v = h.usual.value in absurd (cc)
no_fixed_result Or t x y h = let v = h.usual.value in absurd (cc)
no_fixed_result Xor t x y h = let v = h.usual.value in absurd (cc)
no_fixed_result Lt t x y h = let v = h.value in absurd (cc)
no_fixed_result Gt t x y h = let v = h.value in absurd (cc)
no_fixed_result Le t x y h = let v = h.value in absurd (cc)
no_fixed_result Ge t x y h = let v = h.value in absurd (cc)
no_fixed_result Eq t x y h = let v = h.value in absurd (cc)
no_fixed_result Ne t x y h = let v = h.value in absurd (cc)
no_fixed_result Shl t x y h = let v = h.value in absurd (cc)
no_fixed_result Shr t x y h = let v = h.value in absurd (cc)

integer_result : (op : BinOp) (ty : PlainType) (s t : Bool) (n m : ℕ) → HaveBinaryTypes op ty (integer s n) (integer t m)
    → IsIntegerType ty
integer_result op (integer u k) s t n m h = tt
integer_result op (fixed k z) s t n m h =
    absurd (no_fixed_result op (record { kind = k; sat = z }) (record { signed = s; bytes = n }) (record { signed = t; bytes = m }) h)
integer_result op void s t n m h = absurd h
integer_result op (pointer u k z) s t n m h = absurd h
integer_result op (array of k) s t n m h = absurd h
integer_result op (struct k) s t n m h = absurd h

-- so the result of an operator on integers is one
pub result_integer : (op : BinOp) (ty aty bty : PlainType) → IsIntegerType aty → IsIntegerType bty
    → HaveOperationTypes op ty aty bty → IsIntegerType ty
result_integer op ty aty bty i j (inr (inl h)) = subst (λ (x : PlainType). IsIntegerType x) (sym h.value) i
result_integer op ty aty bty i j (inr (inr h)) = subst (λ (x : PlainType). IsIntegerType x) (sym h.left) i
result_integer op ty aty bty i j (inl h) =
    let q = as_integer aty i in let r = as_integer bty j in
    integer_result op ty q.0 r.0 q.1 r.1
    (subst (λ (x : PlainType). HaveBinaryTypes op ty (integer q.0 q.1) x) r.2
    (subst (λ (x : PlainType). HaveBinaryTypes op ty x bty) q.2 h))

-- the types of an operator with a pointer are not those of a shift, and not those of bits
pointer_types : (op : BinOp) (ty aty bty : PlainType) → (is_pointer aty || is_pointer bty) ≡ true
    → HaveOperationTypes op ty aty bty → HaveBinaryTypes op ty aty bty
pointer_types op ty aty bty k (inl h) = h
pointer_types op ty aty bty k (inr (inr h)) =
    let none = arithmetic_no_pointer ty _ h.integer in
    let x : is_pointer aty ≡ false = subst (λ (z : PlainType). is_pointer z ≡ false) h.left none in
    let y : is_pointer bty ≡ false = subst (λ (z : PlainType). is_pointer z ≡ false) h.right none in
    let z : (is_pointer aty || is_pointer bty) ≡ false = rw (x, y) refl in
    absurd (false≢true (sym z ∙ k))
pointer_types op ty aty bty k (inr (inl h)) =
    let x = arithmetic_no_pointer aty _ h.left in let y = arithmetic_no_pointer bty _ h.count in
    let z : (is_pointer aty || is_pointer bty) ≡ false = rw (x, y) refl in
    absurd (false≢true (sym z ∙ k))

-- integers become integers
converted_integers : (ty aty : PlainType) → is_pointer aty ≡ false → (is_fixed ty || is_fixed aty) ≡ false
    → AreConvertible ty aty → IsIntegerType ty × IsIntegerType aty
converted_integers (integer s n) aty x e h = (tt, arithmetic_integer aty _ h e)
converted_integers (fixed k s) aty x e h = absurd (false≢true (sym e))
converted_integers void aty x e h = absurd h
converted_integers (array of n) aty x e h = absurd h
converted_integers (struct n) aty x e h = absurd h
converted_integers (pointer s k t) (pointer r c u) x e h = absurd (false≢true (sym x))
converted_integers (pointer s k t) (integer r n) x e h = absurd h
converted_integers (pointer s k t) (fixed c r) x e h = absurd h
converted_integers (pointer s k t) void x e h = absurd h
converted_integers (pointer s k t) (array of n) x e h = absurd h
converted_integers (pointer s k t) (struct n) x e h = absurd h

abbrev kind : Bool → ℕ → IntegerType
kind s n = record { signed = s; bytes = n }

same_twice : (s : Bool) → (s && s) ≡ s
same_twice true = refl
same_twice false = refl

wider_same : (s : Bool) (n : ℕ) → wider_or_unsigned (kind s n) (kind s n) ≡ kind s n
wider_same s n = let q : nat_lt n n ≡ false = grind (arith, nat_tests) in rw (q, same_twice s) refl

-- two operands that have their common type
record AreUsual (s t u : Bool) (n m k : ℕ) : Type 0 where
  operands : kind t m ≡ kind u k
  result : kind s n ≡ kind t m

usual : (s t u : Bool) (n m k : ℕ) → HaveUsualTypes (Integer (kind s n)) (Integer (kind t m)) (Integer (kind u k))
    → AreUsual s t u n m k
usual s t u n m k h =
    let same : kind t m ≡ kind u k = h.integers.0 in
    let stays : promoted (kind t m) ≡ kind t m = h.integers.1 in
    let value : kind s n ≡ common_integer (kind t m) (kind u k) = let v = h.value in cc in
    let common : common_integer (kind t m) (kind u k) ≡ kind t m =
    subst (λ (y : IntegerType). common_integer (kind t m) y ≡ kind t m) same (rw stays (wider_same t m)) in
    record { operands = same; result = value ∙ common }

bytes_of : (x y : IntegerType) → x ≡ y → x.bytes ≡ y.bytes
bytes_of x y e = ap (λ (z : IntegerType). z.bytes) e

signed_of : (x y : IntegerType) → x ≡ y → x.signed ≡ y.signed
signed_of x y e = ap (λ (z : IntegerType). z.signed) e

home_of : (slots : ℕ) (t : Temp) → IsTemp slots t → t.bytes ≤ 8 → HasHome slots t
home_of slots t h few = record { within = h.within; some = h.some; most = few }

-- ---- binary operators of a function with so many places

module _ (slots : ℕ) (to a b : Temp) (s t u : Bool) (n m k : ℕ) (homes : HasHome slots to × HasHome slots a × HasHome slots b)
    (bytes : (to.bytes ≡ n) × (a.bytes ≡ m) × (b.bytes ≡ k)) (four : n ≤ 4) where
  in_temp : (s : Bool) (j : ℕ) (x : Temp) → x.bytes ≡ j → integer s j ≡ integer s x.bytes
  in_temp s j x e = rw e refl

  integers : HaveUsualTypes (Integer (kind s n)) (Integer (kind t m)) (Integer (kind u k))
      → AreIntegers slots to a b (integer s n) (integer t m) (integer u k)
  integers h =
      let w = usual s t u n m k h in
      let x = bytes_of (kind t m) (kind u k) w.operands in let y = bytes_of (kind s n) (kind t m) w.result in
      let p = bytes.0 in let q = bytes.1 in let r = bytes.2 in
      record {
        signed = s;
        left_signed = t;
        right_signed = u;
        result_type = in_temp s n to bytes.0;
        left_type = in_temp t m a bytes.1;
        right_type = in_temp u k b bytes.2;
        result = homes.0;
        left = homes.1;
        right = homes.2;
        left_bytes = omega arith;
        right_bytes = omega arith;
      }

  divided : HaveUsualTypes (Integer (kind s n)) (Integer (kind t m)) (Integer (kind u k))
      → AreDivided slots to a b (integer s n) (integer t m) (integer u k)
  divided h =
      let w = usual s t u n m k h in
      let x = bytes_of (kind t m) (kind u k) w.operands in let y = bytes_of (kind s n) (kind t m) w.result in
      let v = signed_of (kind t m) (kind u k) w.operands in let z = signed_of (kind s n) (kind t m) w.result in
      let p = bytes.0 in let q = bytes.1 in let r = bytes.2 in
      record {
        signed = s;
        result_type = in_temp s n to bytes.0;
        left_type = subst (λ (c : Bool). integer t m ≡ integer c a.bytes) (sym z) (in_temp t m a bytes.1);
        right_type = subst (λ (c : Bool). integer u k ≡ integer c b.bytes) (sym (z ∙ v)) (in_temp u k b bytes.2);
        result = homes.0;
        left = homes.1;
        right = homes.2;
        left_bytes = omega arith;
        right_bytes = omega arith;
        most = omega arith;
      }

  compared : HaveComparedTypes (Integer (kind s n)) (Integer (kind t m)) (Integer (kind u k))
      → AreCompared slots to a b (integer t m) (integer u k)
  compared h =
      let same : kind t m ≡ kind u k = h.integers.0 in
      let x = bytes_of (kind t m) (kind u k) same in let v = signed_of (kind t m) (kind u k) same in
      let q = bytes.1 in let r = bytes.2 in
      record {
        signed = t;
        left_type = in_temp t m a bytes.1;
        right_type = subst (λ (c : Bool). integer u k ≡ integer c b.bytes) (sym v) (in_temp u k b bytes.2);
        result = homes.0;
        left = homes.1;
        right = homes.2;
        same_bytes = omega arith;
      }

  factors : HaveProductTypes (Integer (kind s n)) (Integer (kind t m)) (Integer (kind u k))
      → AreFactors slots to a b (integer s n) (integer t m) (integer u k)
  factors h =
      let x : m ≡ 1 = h.left in let y : k ≡ 1 = h.right in
      let value : kind s n ≡ common_integer (kind t m) (kind u k) = let v = h.value in cc in
      let two : common_integer (kind t m) (kind u k) ≡ kind true 2 = rw (x, y) refl in
      let z : n ≡ 2 = bytes_of (kind s n) (kind true 2) (value ∙ two) in
      let p = bytes.0 in let q = bytes.1 in let r = bytes.2 in
      record {
        signed = s;
        left_signed = t;
        right_signed = u;
        result_type = rw z refl;
        left_type = rw x refl;
        right_type = rw y refl;
        result = homes.0;
        left = homes.1;
        right = homes.2;
        result_bytes = omega arith;
        left_bytes = omega arith;
        right_bytes = omega arith;
      }

  shifted : kind s n ≡ kind t m → AreShifted slots to a b (integer s n) (integer t m) (integer u k)
  shifted same =
      let x = bytes_of (kind s n) (kind t m) same in let v = signed_of (kind s n) (kind t m) same in
      let p = bytes.0 in let q = bytes.1 in
      record {
        signed = s;
        count_signed = u;
        result_type = in_temp s n to bytes.0;
        left_type = subst (λ (c : Bool). integer t m ≡ integer c a.bytes) (sym v) (in_temp t m a bytes.1);
        count_type = in_temp u k b bytes.2;
        result = homes.0;
        left = homes.1;
        count = homes.2;
        same_bytes = omega arith;
      }

  -- a shift may have a count of any integer type
  counted : (op : BinOp) → to.at ≢ b.at → HaveCountTypes op (integer s n) (integer t m) (integer u k)
      → IsBinary (family_of op) slots to a b (integer s n) (integer t m) (integer u k)
  counted Shl apart h = (shifted (let v = h.value in cc), apart)
  counted Shr apart h = (shifted (let v = h.value in cc), apart)
  counted Add apart h = absurd h.shift
  counted Sub apart h = absurd h.shift
  counted Mul apart h = absurd h.shift
  counted Div apart h = absurd h.shift
  counted Rem apart h = absurd h.shift
  counted And apart h = absurd h.shift
  counted Or apart h = absurd h.shift
  counted Xor apart h = absurd h.shift
  counted Lt apart h = absurd h.shift
  counted Gt apart h = absurd h.shift
  counted Le apart h = absurd h.shift
  counted Ge apart h = absurd h.shift
  counted Eq apart h = absurd h.shift
  counted Ne apart h = absurd h.shift

  -- bits are of one type
  one_type : integer s n ≡ integer t m → integer s n ≡ integer u k
      → AreIntegers slots to a b (integer s n) (integer t m) (integer u k)
  one_type left right =
      let x : n ≡ m = cc in let y : n ≡ k = cc in
      let p = bytes.0 in let q = bytes.1 in let r = bytes.2 in
      record {
        signed = s;
        left_signed = t;
        right_signed = u;
        result_type = in_temp s n to bytes.0;
        left_type = in_temp t m a bytes.1;
        right_type = in_temp u k b bytes.2;
        result = homes.0;
        left = homes.1;
        right = homes.2;
        left_bytes = omega arith;
        right_bytes = omega arith;
      }

  bits : (op : BinOp) → HaveBitTypes op (integer s n) (integer t m) (integer u k)
      → IsBinary (family_of op) slots to a b (integer s n) (integer t m) (integer u k)
  bits And h = one_type h.left h.right
  bits Or h = one_type h.left h.right
  bits Xor h = one_type h.left h.right
  bits Add h = absurd (false≢true h.bitwise)
  bits Sub h = absurd (false≢true h.bitwise)
  bits Mul h = absurd (false≢true h.bitwise)
  bits Div h = absurd (false≢true h.bitwise)
  bits Rem h = absurd (false≢true h.bitwise)
  bits Lt h = absurd (false≢true h.bitwise)
  bits Gt h = absurd (false≢true h.bitwise)
  bits Le h = absurd (false≢true h.bitwise)
  bits Ge h = absurd (false≢true h.bitwise)
  bits Eq h = absurd (false≢true h.bitwise)
  bits Ne h = absurd (false≢true h.bitwise)
  bits Shl h = absurd (false≢true h.bitwise)
  bits Shr h = absurd (false≢true h.bitwise)

  -- an operator whose second operand has another place than the result
  binary : (op : BinOp) → to.at ≢ b.at → HaveOperationTypes op (integer s n) (integer t m) (integer u k)
      → IsBinary (family_of op) slots to a b (integer s n) (integer t m) (integer u k)
  binary op apart (inr (inl h)) = counted op apart h
  binary op apart (inr (inr h)) = bits op h
  binary Add apart (inl h) = integers h
  binary Sub apart (inl h) = integers h
  binary And apart (inl h) = integers h.usual
  binary Or apart (inl h) = integers h.usual
  binary Xor apart (inl h) = integers h.usual
  binary Lt apart (inl h) = compared h
  binary Gt apart (inl h) = compared h
  binary Le apart (inl h) = compared h
  binary Ge apart (inl h) = compared h
  binary Eq apart (inl h) = compared h
  binary Ne apart (inl h) = compared h
  binary Mul apart (inl h) = factors h
  binary Div apart (inl h) = (divided h, apart)
  binary Rem apart (inl h) = (divided h.usual, apart)
  binary Shl apart (inl h) = (shifted (let v = h.value in cc), apart)
  binary Shr apart (inl h) = (shifted (let v = h.value in cc), apart)

  -- a sum or difference, wherever its result is put
  additive : (op : BinOp) → IsAdditive op → HaveOperationTypes op (integer s n) (integer t m) (integer u k)
      → IsBinary (family_of op) slots to a b (integer s n) (integer t m) (integer u k)
  additive Add i (inl h) = integers h
  additive Sub i (inl h) = integers h
  additive Add i (inr (inl h)) = absurd h.shift
  additive Sub i (inr (inl h)) = absurd h.shift
  additive Add i (inr (inr h)) = absurd (false≢true h.bitwise)
  additive Sub i (inr (inr h)) = absurd (false≢true h.bitwise)
  additive Mul i h = absurd i
  additive Div i h = absurd i
  additive Rem i h = absurd i
  additive And i h = absurd i
  additive Or i h = absurd i
  additive Xor i h = absurd i
  additive Lt i h = absurd i
  additive Gt i h = absurd i
  additive Le i h = absurd i
  additive Ge i h = absurd i
  additive Eq i h = absurd i
  additive Ne i h = absurd i
  additive Shl i h = absurd i
  additive Shr i h = absurd i

  placed : (op : BinOp) → ((to.at ≡ a.at) × (b.at ≢ a.at)) ⊎ IsAdditive op
      → HaveOperationTypes op (integer s n) (integer t m) (integer u k)
      → IsBinary (family_of op) slots to a b (integer s n) (integer t m) (integer u k)
  placed op (inl q) h = binary op (λ g. q.1 (sym g ∙ q.0)) h
  placed op (inr i) h = additive op i h

-- ---- operations of a function

module _ (leaves : LeavesFillTheirTypes) (p : PlainIrProgram) (valid : ValidWithCells p) (f slots : ℕ) (all : List PlainIr) where
  typed_home : (ty : PlainType) (s : Bool) (n : ℕ) (t : Temp) → ty ≡ integer s n → IsTempOf (data_of p) slots ty t
      → HasHome slots t × (t.bytes ≡ n) × (n ≤ 4)
  typed_home ty s n t e h =
      let k : IsTempOf (data_of p) slots (integer s n) t = subst (λ (x : PlainType). IsTempOf (data_of p) slots x t) e h in
      let few = at_most_four n k.known in
      let b : t.bytes ≡ n = k.bytes in
      (home_of slots t k.temp (omega arith), b, few)

  scalar_home : (ty : PlainType) (t : Temp) → IsTempOf (data_of p) slots ty t → HasHome slots t × (t.bytes ≡ scalar_size ty)
  scalar_home ty t h =
      let few = at_most_eight ty h.scalar in let b : t.bytes ≡ scalar_size ty = h.bytes in
      (home_of slots t h.temp (omega arith), b)

  fixed_binary_covered : (op : BinOp) (ty aty bty : PlainType) (to a b : Temp) → IsFixedType aty ⊎ IsFixedType bty
      → a.at ≢ b.at → IsTempOf (data_of p) slots ty to → IsTempOf (data_of p) slots aty a
      → IsTempOf (data_of p) slots bty b → HaveOperationTypes op ty aty bty → IsFixedBinary slots op to a b ty aty bty
  fixed_binary_covered op ty aty bty to a b k apart x y z h =
      let c = scalar_home ty to x in let d = scalar_home aty a y in let e = scalar_home bty b z in
      record {
        types = record { types = h; left = y.scalar; right = z.scalar; fixed = k };
        result = c.0;
        left = d.0;
        right = e.0;
        result_bytes = c.1;
        left_bytes = d.1;
        right_bytes = e.1;
        different = apart;
      }

  pointer_binary_covered : (op : BinOp) (ty aty bty : PlainType) (to a b : Temp) → (is_pointer aty || is_pointer bty) ≡ true
      → IsTempOf (data_of p) slots ty to → IsTempOf (data_of p) slots aty a → IsTempOf (data_of p) slots bty b
      → HaveOperationTypes op ty aty bty → IsPointerBinary (data_of p) slots op to a b ty aty bty
  pointer_binary_covered op ty aty bty to a b k x y z h =
      let c = scalar_home ty to x in let d = scalar_home aty a y in let e = scalar_home bty b z in
      record {
        pointer = k;
        types = pointer_types op ty aty bty k h;
        structs = valid.1.structs;
        left_known = y.known;
        right_known = z.known;
        result = c.0;
        left = d.0;
        right = e.0;
        result_bytes = c.1;
        left_bytes = d.1;
        right_bytes = e.1;
      }

  binary_covered : (op : BinOp) (ty aty bty : PlainType) (to a b : Temp) → IsIntegerType ty → IsIntegerType aty
      → IsIntegerType bty → ((to.at ≡ a.at) × (b.at ≢ a.at)) ⊎ IsAdditive op → IsTempOf (data_of p) slots ty to
      → IsTempOf (data_of p) slots aty a → IsTempOf (data_of p) slots bty b → HaveOperationTypes op ty aty bty
      → IsBinary (family_of op) slots to a b ty aty bty
  binary_covered op ty aty bty to a b i j l place x y z h =
      let q = as_integer ty i in let r = as_integer aty j in let w = as_integer bty l in
      let c = typed_home ty q.0 q.1 to q.2 x in let d = typed_home aty r.0 r.1 a r.2 y in let e = typed_home bty w.0 w.1 b w.2 z in
      let types : HaveOperationTypes op (integer q.0 q.1) (integer r.0 r.1) (integer w.0 w.1) =
      subst (λ (v : PlainType). HaveOperationTypes op (integer q.0 q.1) (integer r.0 r.1) v) w.2
      (subst (λ (v : PlainType). HaveOperationTypes op (integer q.0 q.1) v bty) r.2
      (subst (λ (v : PlainType). HaveOperationTypes op v aty bty) q.2 h)) in
      let there = placed slots to a b q.0 r.0 w.0 q.1 r.1 w.1 (c.0, d.0, e.0) (c.1, d.1, e.1) c.2 op place types in
      subst (λ (v : PlainType). IsBinary (family_of op) slots to a b ty aty v) (sym w.2)
      (subst (λ (v : PlainType). IsBinary (family_of op) slots to a b ty v (integer w.0 w.1)) (sym r.2)
      (subst (λ (v : PlainType). IsBinary (family_of op) slots to a b v (integer r.0 r.1) (integer w.0 w.1)) (sym q.2) there))

  some_at : {X : Type 0} (P : X → Type 0) (o : Option X) → IsSomeAnd o P → (x : X) × (o ≡ Some x) × P x
  some_at P None h = absurd h
  some_at P (Some x) h = (x, refl, h)

  -- the leaf at an offset
  scalar_at : (o offset : ℕ) (t : Temp) (d : PlainObject) → slice_get p.objects o ≡ Some d → IsTemp slots t
      → HasLeafOf (data_of p) d offset t.bytes → HasHome slots t × HasScalarAt (data_of p) o offset t.bytes
  scalar_at o offset t d q temp l = by_leaf l.leaf l.is l.at l.size where
    by_leaf : (leaf : PlainLeaf) → slice_get (leaves_of_type p.structs d.ty) l.k ≡ Some leaf → leaf.at ≡ offset
        → scalar_size leaf.ty ≡ t.bytes → HasHome slots t × HasScalarAt (data_of p) o offset t.bytes
    by_leaf leaf is at size =
        let object = all_at (IsObject (data_of p)) p.objects o d valid.1.objects q in
        let place = (leaves.types p.structs d.ty valid.1.structs object.ty).each l.k leaf is in
        let few : scalar_size leaf.ty ≤ 8 = place.scalar.most in
        let whole : leaf ≡ record { ty = leaf.ty; at = offset } = rw (← at) refl in (
          home_of slots t temp (omega arith),
          record {
            number = l.k;
            declared = d;
            ty = leaf.ty;
            is_object = q;
            is_leaf = is ∙ ap (λ (x : PlainLeaf). Some x) whole;
            size = size;
            found = subst (λ (at : ℕ). position_from (λ x. x.at == at) 0 (leaves_of_type p.structs d.ty) ≡ Some l.k) at place.found;
          },
        )

  -- pointers
  address_covered : (t : Temp) (o offset : ℕ) → IsTemp slots t
      → IsSomeAnd (slice_get p.objects o) (λ x. IsNamedIn f x.storage × IsAddressable x.storage
      × (offset ≤ size_of_type p.structs x.ty) × HasPointersOf x t.bytes)
      → IsAddress (data_of p) slots t o offset
  address_covered t o offset temp h =
      let d = some_at (λ (x : PlainObject). IsNamedIn f x.storage × IsAddressable x.storage
      × (offset ≤ size_of_type p.structs x.ty) × HasPointersOf x t.bytes) (slice_get p.objects o) h in
      let of = d.2.3 in
      let bytes = of.bytes in let few = few_width of.space in
      record {
        result = home_of slots t temp (omega (arith, bytes, few));
        size = width_is of.space t.bytes bytes;
        declared = d.0;
        is_object = d.1;
        addressable = d.2.1;
        within = d.2.2;
        of = of;
      }

  pointer_into : (space : SpaceId) (t : Temp) → IsPointerTemp slots space t → IsInto slots space t
  pointer_into space t h =
      let bytes = h.bytes in let few = few_width space in (home_of slots t h.temp (omega (arith, bytes, few)), bytes)

  result_covered : (g : ℕ) (t : Option Temp) → IsValidResult valid.0 p valid.1.results f slots all g t → IsSuited (return_from t)
      → IsResult valid.1.results g slots t
  result_covered g None h few = tt
  result_covered g (Some t) h few = (home_of slots t h.0 few, h.1)

  index_covered : (index : Option Temp) → IsIndex slots index → HasIndex slots index
  index_covered None v = tt
  index_covered (Some t) v = let two = v.1 in (home_of slots t v.0 (omega (arith, two)), two)

  port_below : (port width : ℕ) → (width ≡ 1) ⊎ ((width ≡ 2) ⊎ (width ≡ 4)) → port + width ≤ 0x100 → port < 256
  port_below port width cases h =
      ⊎_elim (λ (q : width ≡ 1). omega (arith, h))
      (λ (r : (width ≡ 2) ⊎ (width ≡ 4)). ⊎_elim (λ (q : width ≡ 2). omega (arith, h)) (λ (q : width ≡ 4). omega (arith, h)) r) cases

  port_covered : (t : Temp) (port : ℕ) (index : Option Temp) (width : ℕ) → IsPortWidth slots t width → IsIndex slots index
      → port < 256 → t.bytes ≤ 8 → IsPort slots t port index width
  port_covered t port index width v i h s = record {
    number = home_of slots t v.temp s;
    index_has = index_covered index i;
    one_two_four = v.width;
    within = v.within;
    address = h;
  }

  covered : (i : PlainIr) → ValidOperation valid.0 p valid.1.results f slots all i → IsOnPorts i → IsSuited i
      → IsCovered (data_of p) valid.1.results f (called_in all) slots i
  covered (constant t n) v h s = home_of slots t v.0 s
  covered (copy to from) v h s =
      let e = v.2 in (home_of slots to v.0 s, home_of slots from v.1 (omega arith), e)
  covered (address t o offset) v h s = address_covered t o offset v.0 v.1
  covered (field ptr space offset) v h s = pointer_into space ptr v
  covered (load_at to ptr space) v h s = (home_of slots to v.0 s, pointer_into space ptr v.1)
  covered (store_at ptr space from) v h s = (home_of slots from v.1 s, pointer_into space ptr v.0)
  covered (load_object t o offset) v h s =
      let d = some_at (λ (x : PlainObject). IsNamedIn f x.storage × HasLeafOf (data_of p) x offset t.bytes) (slice_get p.objects o) v.1 in
      scalar_at o offset t d.0 d.1 v.0 d.2.1
  covered (store_object o offset t) v h s =
      let d = some_at (λ (x : PlainObject). (IsNamedIn f x.storage ⊎ IsParameterOf (called_in all) x.storage)
      × HasLeafOf (data_of p) x offset t.bytes) (slice_get p.objects o) v.1 in
      let there = scalar_at o offset t d.0 d.1 v.0 d.2.1 in (
        there.0,
        there.1,
        subst (λ (x : Option PlainObject). IsSomeAnd x (λ y. IsStoredIn f (called_in all) y.storage)) (sym d.1) d.2.0,
      )
  covered (binary_op op ty mode to a aty b bty) v h s =
      by_kind (is_fixed aty || is_fixed bty) (is_pointer aty || is_pointer bty) refl refl s where
        by_kind : (k g : Bool) → (is_fixed aty || is_fixed bty) ≡ k → (is_pointer aty || is_pointer bty) ≡ g
            → ArePlacesSuited op to.at a.at b.at k g
            → IsBinary (family_of op) slots to a b ty aty bty
            ⊎ (IsFixedBinary slots op to a b ty aty bty ⊎ IsPointerBinary (data_of p) slots op to a b ty aty bty)
        by_kind true g e d s =
            inr (inl (fixed_binary_covered op ty aty bty to a b (fixed_either aty bty e) s v.0 v.1 v.2 v.3))
        by_kind false true e d s = inr (inr (pointer_binary_covered op ty aty bty to a b d v.0 v.1 v.2 v.3))
        by_kind false false e d s =
            let x = both_false (is_fixed aty) (is_fixed bty) e in let y = both_false (is_pointer aty) (is_pointer bty) d in
            let i = left_integer aty v.1.scalar x.0 y.0 in let j = left_integer bty v.2.scalar x.1 y.1 in
            inl (binary_covered op ty aty bty to a b (result_integer op ty aty bty i j v.3) i j s v.0 v.1 v.2 v.3)
  covered (unary_op op ty mode to a) v h s = by_kind (is_fixed ty) refl where
    by_kind : (k : Bool) → is_fixed ty ≡ k → IsUnary slots to a ty ⊎ IsFixedUnary slots op to a ty
    by_kind true e =
        let c = scalar_home ty to v.0 in let d = scalar_home ty a v.1 in
        inr (record {
          types = record { types = v.2; fixed = fixed_type ty e };
          result = c.0;
          operand = d.0;
          result_bytes = c.1;
          operand_bytes = d.1;
        })
    by_kind false e =
        let q = as_integer ty (arithmetic_integer ty _ v.2 e) in
        let c = typed_home ty q.0 q.1 to q.2 v.0 in let d = typed_home ty q.0 q.1 a q.2 v.1 in
        let x = c.1 in let y = d.1 in
        inl (record { signed = q.0; result_type = rw x q.2; result = c.0; operand = d.0; same_bytes = omega arith })
  covered (conversion to ty mode a aty) v h s =
      by_kind (is_fixed ty || is_fixed aty) (is_pointer aty) refl refl where
        by_kind : (k g : Bool) → (is_fixed ty || is_fixed aty) ≡ k → is_pointer aty ≡ g
            → AreConverted slots to a ty aty ⊎ (IsFixedConversion slots to a ty aty ⊎ IsPointerConversion slots to a ty aty)
        by_kind true g e d =
            let c = scalar_home ty to v.0 in let z = scalar_home aty a v.1 in
            inr (inl (record {
              types = record { types = v.2; result = v.0.scalar; operand = v.1.scalar; fixed = fixed_either ty aty e };
              result = c.0;
              from = z.0;
              result_bytes = c.1;
              from_bytes = z.1;
            }))
        by_kind false true e d =
            let c = scalar_home ty to v.0 in let z = scalar_home aty a v.1 in
            inr (inr (record {
              pointer = d;
              types = v.2;
              result = c.0;
              from = z.0;
              result_bytes = c.1;
              from_bytes = z.1;
            }))
        by_kind false false e d =
            let i = converted_integers ty aty d e v.2 in
            let q = as_integer ty i.0 in let r = as_integer aty i.1 in
            let c = typed_home ty q.0 q.1 to q.2 v.0 in let z = typed_home aty r.0 r.1 a r.2 v.1 in
            let x = c.1 in let y = z.1 in
            inl (record {
              signed = q.0;
              from_signed = r.0;
              result_type = rw x q.2;
              from_type = rw y r.2;
              result = c.0;
              from = z.0;
            })
  covered (label l) v h s = tt
  covered (jump l) v h s = tt
  covered (branch_zero t l) v h s = home_of slots t v.0 s
  covered (call_function g to) v h s = result_covered g to v.1 s
  covered (return_from from) v h s = result_covered f from v s
  covered (port_in to port index width) v h s = port_covered to port index width v.0 v.1 (port_below port width v.0.width h) s
  covered (port_out from port index width) v h s = port_covered from port index width v.0 v.1 (port_below port width v.0.width h) s
  covered (load_cell to cell) v h s = let one = v.byte in (home_of slots to v.temp (omega (arith, one)), one)
  covered (store_cell cell from) v h s = let one = v.byte in (home_of slots from v.temp (omega (arith, one)), one)
  covered (cell_port read t cell offset index width) v h s = port_covered t offset index width v.1 v.2 h s

  all_covered : (code : List PlainIr) → AllByRecursion (ValidOperation valid.0 p valid.1.results f slots all) code
      → AllByRecursion IsOnPorts code → AllByRecursion IsSuited code
      → AreCovered (data_of p) valid.1.results f (called_in all) slots code
  all_covered [] v h s = tt
  all_covered (i ∷ code) v h s = (covered i v.0 h.0 s.0, all_covered code v.1 h.1 s.1)

-- ---- results in place

not_bitwise : (op : BinOp) → IsAdditive op → is_bitwise op ≡ true → ⊥
not_bitwise Add i k = false≢true k
not_bitwise Sub i k = false≢true k
not_bitwise Mul i k = i
not_bitwise Div i k = i
not_bitwise Rem i k = i
not_bitwise And i k = i
not_bitwise Or i k = i
not_bitwise Xor i k = i
not_bitwise Lt i k = i
not_bitwise Gt i k = i
not_bitwise Le i k = i
not_bitwise Ge i k = i
not_bitwise Eq i k = i
not_bitwise Ne i k = i
not_bitwise Shl i k = i
not_bitwise Shr i k = i

module _ (cells : ℕ) (p : PlainIrProgram) (results : ℕ → ℕ) (f slots : ℕ) (all : List PlainIr) where
  in_place : (i : PlainIr) → ValidOperation cells p results f slots all i → IsSuited i → IsInPlace i
  in_place (binary_op op ty mode to a aty b bty) v s =
      by_kind (is_fixed aty || is_fixed bty) (is_pointer aty || is_pointer bty) refl s where
        by_kind : (k g : Bool) → (is_pointer aty || is_pointer bty) ≡ g → ArePlacesSuited op to.at a.at b.at k g
            → OfKind k ⊤ (is_bitwise op ≡ true → to.at ≡ a.at)
        by_kind true g d s = tt
        by_kind false true d s =
            λ b. absurd (false≢true (sym (pointers_only op ty aty bty d (pointer_types op ty aty bty d v.3)).1 ∙ b))
        by_kind false false d (inl s) = λ b. s.0
        by_kind false false d (inr i) = λ b. absurd (not_bitwise op i b)
  in_place (constant t n) v s = tt
  in_place (copy to from) v s = tt
  in_place (load_object t o offset) v s = tt
  in_place (store_object o offset t) v s = tt
  in_place (unary_op op ty mode to a) v s = tt
  in_place (conversion to ty mode a aty) v s = tt
  in_place (label l) v s = tt
  in_place (jump l) v s = tt
  in_place (branch_zero t l) v s = tt
  in_place (call_function g to) v s = tt
  in_place (return_from from) v s = tt
  in_place (address t o offset) v s = tt
  in_place (field ptr space offset) v s = tt
  in_place (load_at to ptr space) v s = tt
  in_place (store_at ptr space from) v s = tt
  in_place (port_in to port index width) v s = tt
  in_place (port_out from port index width) v s = tt
  in_place (load_cell to cell) v s = tt
  in_place (store_cell cell from) v s = tt
  in_place (cell_port read t cell offset index width) v s = tt

  all_in_place : (code : List PlainIr) → AllByRecursion (ValidOperation cells p results f slots all) code
      → AllByRecursion IsSuited code → AllByRecursion IsInPlace code
  all_in_place [] v s = tt
  all_in_place (i ∷ code) v s = (in_place i v.0 s.0, all_in_place code v.1 s.1)

functions_in_place : (cells : ℕ) (p : PlainIrProgram) (results : ℕ → ℕ) (n : ℕ) (fs : List PlainIrFunction)
    → EachFrom n (ValidIrFunction cells p results) fs → AllByRecursion (λ g. AllByRecursion IsSuited g.code) fs
    → AllByRecursion (λ g. AllByRecursion IsInPlace g.code) fs
functions_in_place cells p results n [] v s = tt
functions_in_place cells p results n (g ∷ fs) v s =
    (all_in_place cells p results n g.slots g.code g.code v.0.code s.0, functions_in_place cells p results (n + 1) fs v.1 s.1)

pub operations_have_code : LeavesFillTheirTypes → OperationsHaveCode
operations_have_code leaves cells p valid are suited = (
  record {
    results = valid.results;
    main_result = valid.main_result;
    functions = λ f g e. all_covered leaves p (cells, valid) f g.slots g.code g.code (function_valid p (cells, valid) f g e).code
        (all_at (λ h. AllByRecursion IsOnPorts h.code) p.functions f g are e)
        (all_at (λ h. AllByRecursion IsSuited h.code) p.functions f g suited e);
  },
  functions_in_place cells p valid.results 0 p.functions valid.functions suited,
)
