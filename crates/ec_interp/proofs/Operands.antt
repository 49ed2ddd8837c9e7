-- Operands of a valid program suit their operators.
use Rattle.std.proofs.Common.{◌≡◌, ◌*◌, List, ◌≤◌, ℕ, Bool, true, false, ℤ, length, Option, Some, None, refl, sym, subst, inl, inr, arith}
use Rattle.std.specs.Prelude.{IsSomeAnd, slice_get}
use Rattle.std.specs.List.{AllByRecursion}
use Rattle.std.proofs.lemmas.Int.{ints}
use Rattle.ec_fx.specs.Ranges.{IsWithin}
use Rattle.ec_fx.specs.declared.formats.FxKind.{FxKind}
use Rattle.ec_core.specs.declared.arithmetic_types.Arithmetic.{Arithmetic}
use Rattle.ec_core.specs.declared.arithmetic_types.Arithmetic.TheVariants.{Integer, Fixed}
use Rattle.ec_core.specs.declared.expressions.BinOp.{BinOp}
use Rattle.ec_core.specs.declared.expressions.BinOp.TheVariants.{Add, Sub, Mul, Div, Rem, Shl, Shr, And, Or, Xor, Lt, Gt, Le, Ge, Eq, Ne}
use Rattle.ec_core.specs.declared.values.Value.{Value}
use Rattle.ec_core.specs.declared.values.Value.TheVariants.{Number, Pointer}
use Rattle.ec_core.specs.Accesses.{element_size}
use Rattle.ec_core.specs.ArithmeticTypes.{arithmetic_of}
use Rattle.ec_core.specs.ArithmeticValues.{HoldsNumber, operand, Suits, IsKnownType}
use Rattle.ec_core.specs.Layout.{members_layout, struct_layouts, AreStructs, IsObjectType, IsIntegerSize, IsScalar}
use Rattle.ec_core.specs.Operators.{number_type, operation_types}
use Rattle.ec_core.specs.Plain.{PlainType, void, integer, fixed, pointer, array, struct, PlainStruct, PlainProgram, plain_program}
use Rattle.ec_core.specs.Pointers.{Pointer as PointerValue}
use Rattle.ec_core.specs.Suited.{AreOperationTypes}
use Rattle.ec_core.specs.Typing.{IsIntegerType, HaveOffsetTypes, HaveArithmeticTypes, HaveCompoundArithmetic, HaveBinaryTypes}
use Rattle.ec_core.specs.Typing.{HaveCompoundTypes, AreConvertible}
use Rattle.ec_core.specs.Valid.{IsExprType}
use Rattle.ec_core.specs.ValueTypes.{HasType}
use Rattle.ec_core.proofs.StructLists.{structs_are_laid_out}
use Rattle.ec_core.proofs.Suiting.{operands_suit}
use Rattle.ec_interp.specs.declared.state.Context.{Context}
use Rattle.ec_interp.specs.Suits.{IsOperand, IsNear, IsNumberOf}

pub some_and : {A : Type 0} (o : Option A) (P : A → Type 0) → IsSomeAnd o P → (x : A) × (o ≡ Some x) × P x
some_and None P h = absurd h
some_and (Some x) P h = (x, refl, h)

number_type_is : (ty : PlainType) (t : Arithmetic) → arithmetic_of ty ≡ Some t → number_type ty ≡ t
number_type_is void t e = cc
number_type_is (integer s b) t e = cc
number_type_is (fixed k z) t e = cc
number_type_is (pointer s k u) t e = cc
number_type_is (array u m) t e = cc
number_type_is (struct i) t e = cc

-- ---- structs

pub record IsSmallStruct (structs : List PlainStruct) (s : PlainStruct) : Type 0 where
  pub small : (members_layout (struct_layouts structs) s.members).size ≤ 32_767
  pub members : AllByRecursion (λ m. IsObjectType (length structs) m.ty) s.members

pub small_struct : (structs : List PlainStruct) (i : ℕ) (s : PlainStruct) → AreStructs structs → slice_get structs i ≡ Some s
    → IsSmallStruct structs s
small_struct structs i s h e =
    let laid = structs_are_laid_out.each structs i s h e in
    record { small = laid.small; members = laid.known }

-- ---- numbers

-- two numbers and the result's type suit an operator
pub record AreNumbers (op : BinOp) (ty a b : PlainType) (m n : ℤ) : Type 0 where
  pub left : HoldsNumber (number_type a) m
  pub right : HoldsNumber (number_type b) n
  pub suited : Suits op (number_type ty) (operand (number_type a) m) (operand (number_type b) n)

numbers : (op : BinOp) (ty : PlainType) (x y : Arithmetic) (a b : PlainType) (m n : ℤ) → number_type a ≡ x → number_type b ≡ y
    → HoldsNumber x m → HoldsNumber y n → IsSomeAnd (arithmetic_of ty) (λ t. HaveArithmeticTypes op t x y) → AreNumbers op ty a b m n
numbers op ty x y a b m n e f h k c =
    let t = some_and (arithmetic_of ty) (λ t. HaveArithmeticTypes op t x y) c in
    let g : number_type ty ≡ t.0 = number_type_is ty t.0 t.1 in
    let s : Suits op t.0 (operand x m) (operand y n) = operands_suit.binary op t.0 x y m n t.2 h k in
    record {
      left = subst (λ (z : Arithmetic). HoldsNumber z m) (sym e) h;
      right = subst (λ (z : Arithmetic). HoldsNumber z n) (sym f) k;
      suited = subst (λ (z : Arithmetic). Suits op z (operand (number_type a) m) (operand (number_type b) n)) (sym g)
          (subst (λ (z : Arithmetic). Suits op t.0 (operand z m) (operand (number_type b) n)) (sym e)
          (subst (λ (z : Arithmetic). Suits op t.0 (operand x m) (operand z n)) (sym f) s));
    }

-- no type of a result fits operands of which one has no arithmetic type
none : (o : Option Arithmetic) → IsSomeAnd o (λ t. ⊥) → ⊥
none None c = c
none (Some t) c = c

abbrev int_kind : Bool → ℕ → Arithmetic
int_kind s b = Integer (record { signed = s; bytes = b })

abbrev fixed_kind : FxKind → Bool → Arithmetic
fixed_kind k z = Fixed (record { kind = k; sat = z })

-- two numbers of a compound assignment
pub record AreUpdated (op : BinOp) (a b : PlainType) (m n : ℤ) : Type 0 where
  pub left : HoldsNumber (number_type a) m
  pub right : HoldsNumber (number_type b) n
  pub suited : HaveCompoundArithmetic op (number_type a) (number_type b)

-- a number of an arithmetic type, and the type that it is converted to
pub record IsBrought (to from : PlainType) (n : ℤ) : Type 0 where
  pub held : HoldsNumber (number_type from) n
  pub known : IsKnownType (number_type to)

known_of : (t : Arithmetic) (n : ℤ) → HoldsNumber t n → IsKnownType t
known_of (Integer t) n h = h.0
known_of (Fixed t) n h = tt

-- the types of a compound assignment on two numbers
pub updated_types : (op : BinOp) (x y : Arithmetic) (m n : ℤ) → HaveCompoundArithmetic op x y → HoldsNumber x m → HoldsNumber y n
    → AreOperationTypes op (operation_types op x y)
updated_types op x y m n h i j = operands_suit.compound op x y h (known_of x m i) (known_of y n j)

pub number_of : (program : PlainProgram) (ty : PlainType) (P : Arithmetic → Type 0) (x : Value) → HasType program ty x
    → IsSomeAnd (arithmetic_of ty) P → IsNumberOf ty x
number_of program void P x h c = absurd c
number_of program (integer s b) P (Number n) h c = h
number_of program (integer s b) P (Pointer p) h c = tt
number_of program (fixed k z) P (Number n) h c = h
number_of program (fixed k z) P (Pointer p) h c = tt
number_of program (pointer s k t) P x h c = absurd c
number_of program (array t m) P x h c = absurd c
number_of program (struct i) P x h c = absurd c

module _ (f : Context) where
  abbrev program : PlainProgram
  program = plain_program f.program.now

  pub binary_numbers : (op : BinOp) (ty a b : PlainType) (m n : ℤ) → IsOperand f a (Number m) → IsOperand f b (Number n)
      → HaveBinaryTypes op ty a b → AreNumbers op ty a b m n
  binary_numbers op ty a b m n h k c = by_types a b h.typed k.typed c
    where
      by_types : (a b : PlainType) → HasType program a (Number m) → HasType program b (Number n) → HaveBinaryTypes op ty a b
          → AreNumbers op ty a b m n
      by_types void void h k c = absurd (none (arithmetic_of ty) c)
      by_types void (integer s z) h k c = absurd (none (arithmetic_of ty) c)
      by_types void (fixed s z) h k c = absurd (none (arithmetic_of ty) c)
      by_types (integer r y) void h k c = absurd (none (arithmetic_of ty) c)
      by_types (integer r y) (integer s z) h k c = numbers op ty (int_kind r y) (int_kind s z) _ _ m n refl refl h k c
      by_types (integer r y) (fixed s z) h k c = numbers op ty (int_kind r y) (fixed_kind s z) _ _ m n refl refl h k c
      by_types (fixed r y) void h k c = absurd (none (arithmetic_of ty) c)
      by_types (fixed r y) (integer s z) h k c = numbers op ty (fixed_kind r y) (int_kind s z) _ _ m n refl refl h k c
      by_types (fixed r y) (fixed s z) h k c = numbers op ty (fixed_kind r y) (fixed_kind s z) _ _ m n refl refl h k c
      by_types a (pointer s z u) h k c = absurd k
      by_types a (array u z) h k c = absurd k
      by_types a (struct i) h k c = absurd k
      by_types (pointer r y t) b h k c = absurd h
      by_types (array t y) b h k c = absurd h
      by_types (struct j) b h k c = absurd h

  pub compound_numbers : (op : BinOp) (a b : PlainType) (m n : ℤ) → IsOperand f a (Number m) → IsOperand f b (Number n)
      → HaveCompoundTypes op a b → AreUpdated op a b m n
  compound_numbers op a b m n h k c = by_types a b h.typed k.typed c
    where
      by_types : (a b : PlainType) → HasType program a (Number m) → HasType program b (Number n) → HaveCompoundTypes op a b
          → AreUpdated op a b m n
      by_types void b h k c = absurd c
      by_types (integer r y) void h k c = absurd c
      by_types (integer r y) (integer s z) h k c = record { left = h; right = k; suited = c }
      by_types (integer r y) (fixed s z) h k c = record { left = h; right = k; suited = c }
      by_types (integer r y) (pointer s z u) h k c = absurd k
      by_types (integer r y) (array u z) h k c = absurd k
      by_types (integer r y) (struct i) h k c = absurd k
      by_types (fixed r y) void h k c = absurd c
      by_types (fixed r y) (integer s z) h k c = record { left = h; right = k; suited = c }
      by_types (fixed r y) (fixed s z) h k c = record { left = h; right = k; suited = c }
      by_types (fixed r y) (pointer s z u) h k c = absurd k
      by_types (fixed r y) (array u z) h k c = absurd k
      by_types (fixed r y) (struct i) h k c = absurd k
      by_types (pointer r y t) b h k c = absurd h
      by_types (array t y) b h k c = absurd h
      by_types (struct j) b h k c = absurd h

  pub converted_number : (ty a : PlainType) (n : ℤ) → IsOperand f a (Number n) → IsScalar ty → AreConvertible ty a → IsBrought ty a n
  converted_number ty a n h i c = by_types ty a i h.typed c
    where
      by_types : (ty a : PlainType) → IsScalar ty → HasType program a (Number n) → AreConvertible ty a → IsBrought ty a n
      by_types void a i h c = absurd i
      by_types (integer r y) void i h c = absurd c
      by_types (integer r y) (integer s z) i h c = record { held = h; known = i }
      by_types (integer r y) (fixed s z) i h c = record { held = h; known = i }
      by_types (integer r y) (pointer s z u) i h c = absurd h
      by_types (integer r y) (array u z) i h c = absurd h
      by_types (integer r y) (struct j) i h c = absurd h
      by_types (fixed r y) void i h c = absurd c
      by_types (fixed r y) (integer s z) i h c = record { held = h; known = tt }
      by_types (fixed r y) (fixed s z) i h c = record { held = h; known = tt }
      by_types (fixed r y) (pointer s z u) i h c = absurd h
      by_types (fixed r y) (array u z) i h c = absurd h
      by_types (fixed r y) (struct j) i h c = absurd h
      by_types (pointer r y t) void i h c = absurd c
      by_types (pointer r y t) (integer s z) i h c = absurd c
      by_types (pointer r y t) (fixed s z) i h c = absurd c
      by_types (pointer r y t) (pointer s z u) i h c = absurd h
      by_types (pointer r y t) (array u z) i h c = absurd h
      by_types (pointer r y t) (struct j) i h c = absurd h
      by_types (array t y) a i h c = absurd i
      by_types (struct j) a i h c = absurd i

  -- ---- pointers

  near : (s : Bool) (b : ℕ) (n : ℤ) → HoldsNumber (int_kind s b) n → IsNear n
  near s b n h = by_size s h.0
    where
      within_8 : (s : Bool) → IsWithin s 8 n → IsNear n
      within_8 true k = record { low = omega (arith, ints, k.low); high = omega (arith, ints, k.high) }
      within_8 false k = record { low = omega (arith, ints, k.low); high = omega (arith, ints, k.high) }

      within_16 : (s : Bool) → IsWithin s 16 n → IsNear n
      within_16 true k = record { low = omega (arith, ints, k.low); high = omega (arith, ints, k.high) }
      within_16 false k = record { low = omega (arith, ints, k.low); high = omega (arith, ints, k.high) }

      within_32 : (s : Bool) → IsWithin s 32 n → IsNear n
      within_32 true k = record { low = omega (arith, ints, k.low); high = omega (arith, ints, k.high) }
      within_32 false k = record { low = omega (arith, ints, k.low); high = omega (arith, ints, k.high) }

      by_size : (s2 : Bool) → IsIntegerSize b → IsNear n
      by_size s2 (inl e) = within_8 s (subst (λ (z : ℕ). IsWithin s (8 * z) n) e h.1)
      by_size s2 (inr (inl e)) = within_16 s (subst (λ (z : ℕ). IsWithin s (8 * z) n) e h.1)
      by_size s2 (inr (inr e)) = within_32 s (subst (λ (z : ℕ). IsWithin s (8 * z) n) e h.1)

  -- what is added to a pointer is an integer
  near_count : (ty : PlainType) (n : ℤ) → IsIntegerType ty → HasType program ty (Number n) → IsNear n
  near_count void n i h = absurd i
  near_count (integer s b) n i h = near s b n h
  near_count (fixed k z) n i h = absurd i
  near_count (pointer s k t) n i h = absurd h
  near_count (array t m) n i h = absurd h
  near_count (struct j) n i h = absurd h

  offset_count : (op : BinOp) (ty : PlainType) (n : ℤ) → HaveOffsetTypes op ty → HasType program ty (Number n) → IsNear n
  offset_count Add ty n i h = near_count ty n i h
  offset_count Sub ty n i h = near_count ty n i h
  offset_count Mul ty n i h = absurd i
  offset_count Div ty n i h = absurd i
  offset_count Rem ty n i h = absurd i
  offset_count Shl ty n i h = absurd i
  offset_count Shr ty n i h = absurd i
  offset_count And ty n i h = absurd i
  offset_count Or ty n i h = absurd i
  offset_count Xor ty n i h = absurd i
  offset_count Lt ty n i h = absurd i
  offset_count Gt ty n i h = absurd i
  offset_count Le ty n i h = absurd i
  offset_count Ge ty n i h = absurd i
  offset_count Eq ty n i h = absurd i
  offset_count Ne ty n i h = absurd i

  pub left_count : (op : BinOp) (ty a b : PlainType) (p : PointerValue) (n : ℤ) → IsOperand f a (Pointer p) → IsOperand f b (Number n)
      → HaveBinaryTypes op ty a b → IsNear n
  left_count op ty a b p n h k c = by_types a b h.typed k.typed c
    where
      by_types : (a b : PlainType) → HasType program a (Pointer p) → HasType program b (Number n) → HaveBinaryTypes op ty a b → IsNear n
      by_types void void h k c = absurd (none (arithmetic_of ty) c)
      by_types void (integer s z) h k c = absurd (none (arithmetic_of ty) c)
      by_types void (fixed s z) h k c = absurd (none (arithmetic_of ty) c)
      by_types (pointer r y t) void h k c = offset_count op void n c.0 k
      by_types (pointer r y t) (integer s z) h k c = offset_count op (integer s z) n c.0 k
      by_types (pointer r y t) (fixed s z) h k c = offset_count op (fixed s z) n c.0 k
      by_types a (pointer s z u) h k c = absurd k
      by_types a (array u z) h k c = absurd k
      by_types a (struct i) h k c = absurd k
      by_types (integer r y) b h k c = absurd h
      by_types (fixed r y) b h k c = absurd h
      by_types (array t y) b h k c = absurd h
      by_types (struct j) b h k c = absurd h

  pub right_count : (op : BinOp) (ty a b : PlainType) (m : ℤ) (q : PointerValue) → IsOperand f a (Number m) → IsOperand f b (Pointer q)
      → HaveBinaryTypes op ty a b → IsNear m
  right_count op ty a b m q h k c = by_types a b h.typed k.typed c
    where
      by_types : (a b : PlainType) → HasType program a (Number m) → HasType program b (Pointer q) → HaveBinaryTypes op ty a b → IsNear m
      by_types void void h k c = absurd (none (arithmetic_of ty) c)
      by_types void (pointer s z u) h k c = near_count void m c.1 h
      by_types (integer r y) void h k c = absurd (none (arithmetic_of ty) c)
      by_types (integer r y) (pointer s z u) h k c = near_count (integer r y) m c.1 h
      by_types (fixed r y) void h k c = absurd (none (arithmetic_of ty) c)
      by_types (fixed r y) (pointer s z u) h k c = near_count (fixed r y) m c.1 h
      by_types (pointer r y t) b h k c = absurd h
      by_types (array t y) b h k c = absurd h
      by_types (struct j) b h k c = absurd h
      by_types a (integer s z) h k c = absurd k
      by_types a (fixed s z) h k c = absurd k
      by_types a (array u z) h k c = absurd k
      by_types a (struct i) h k c = absurd k

  pub some_element : (op : BinOp) (ty a b : PlainType) (p q : PointerValue) → IsOperand f a (Pointer p) → IsOperand f b (Pointer q)
      → HaveBinaryTypes op ty a b → 1 ≤ element_size program a
  some_element op ty a b p q h k c = by_types a b h.known h.typed k.typed c
    where
      by_types : (a b : PlainType) → IsExprType program a → HasType program a (Pointer p) → HasType program b (Pointer q)
          → HaveBinaryTypes op ty a b → 1 ≤ element_size program a
      by_types void void x h k c = absurd (none (arithmetic_of ty) c)
      by_types void (pointer s z u) x h k c = absurd c.1
      by_types (pointer r y t) b x h k c = x.1
      by_types void (integer s z) x h k c = absurd k
      by_types void (fixed s z) x h k c = absurd k
      by_types void (array u z) x h k c = absurd k
      by_types void (struct i) x h k c = absurd k
      by_types (integer r y) b x h k c = absurd h
      by_types (fixed r y) b x h k c = absurd h
      by_types (array t y) b x h k c = absurd h
      by_types (struct j) b x h k c = absurd h

  pub compound_count : (op : BinOp) (a b : PlainType) (p : PointerValue) (n : ℤ) → IsOperand f a (Pointer p) → IsOperand f b (Number n)
      → HaveCompoundTypes op a b → IsNear n
  compound_count op a b p n h k c = by_type a h.typed c
    where
      by_type : (a : PlainType) → HasType program a (Pointer p) → HaveCompoundTypes op a b → IsNear n
      by_type void h c = absurd c
      by_type (pointer r y t) h c = offset_count op b n c k.typed
      by_type (integer r y) h c = absurd h
      by_type (fixed r y) h c = absurd h
      by_type (array t y) h c = absurd h
      by_type (struct j) h c = absurd h
