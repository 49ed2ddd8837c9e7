-- The operators that take a known number in place of their second operand.
use Rattle.std.proofs.Common.{◌≡◌, ◌⊎◌, inl, inr, ℕ, ◌<◌, ◌≤◌, Bool, true, false, ◌&&◌, ◌||◌, Option, Some, None, refl, ap, subst, arith}
use Rattle.std.proofs.Common.{ℤ}
use Rattle.std.specs.Prelude.{if◌then◌else◌, min, not}
use Rattle.ec_asm.specs.declared.pieces.Operator.{Operator}
use Rattle.ec_asm.specs.declared.pieces.Operator.TheVariants.{Sum, Difference, BitAnd, BitOr, BitXor}
use Rattle.ec_core.specs.declared.expressions.BinOp.{BinOp}
use Rattle.ec_core.specs.declared.expressions.BinOp.TheVariants.{Add, Sub, Mul, Div, Rem, And, Or, Xor, Lt, Gt, Le, Ge}
use Rattle.ec_core.specs.declared.expressions.BinOp.TheVariants.{Eq, Ne, Shl, Shr}
use Rattle.ec_core.specs.ArithmeticValues.{is_comparison}
use Rattle.ec_core.specs.Plain.{PlainType, void, integer, fixed, pointer, array, struct}
use Rattle.ec_ir_known.specs.declared.known.RightNumber.{RightNumber}
use Rattle.ec_ir_known.specs.Known.{changes_byte}
use Rattle.ec_select_fixed.specs.Types.{IsFixedType}
use Rattle.ec_select_order.specs.declared.relations.Relation.{Relation}
use Rattle.ec_select_order.specs.declared.relations.Relation.TheVariants.{Less, NotLess, Equal, NotEqual}
use Rattle.ec_select_operations.specs.declared.families.Family.TheVariants.{Combined, Compared, Shifted}
use Rattle.ec_select_operations.specs.Code.{family_of}
use Rattle.ec_select_operations.specs.Needs.{is_whole, takes_number, number_taken, is_sum_or_difference, moves_pointer}
use Rattle.ec_select_operations.specs.Needs.{compared_bytes, takes_known}
use Rattle.ec_select_operations.specs.Pointers.{is_pointer}

-- the operators of bytes that have code for a number
abbrev pub is_changed : Operator → Bool
is_changed BitXor = false
is_changed op = true

pub record TakesSum (op : BinOp) : Type 0 where
  pub operator : Operator
  pub is : family_of op ≡ Combined operator
  pub changed : is_changed operator ≡ true

-- the relations of operands that may be exchanged
abbrev pub is_order : Relation → Bool
is_order Less = true
is_order NotLess = true
is_order Equal = false
is_order NotEqual = false

pub record TakesOrder (op : BinOp) : Type 0 where
  pub relation : Relation
  pub exchanged : Bool
  pub is : family_of op ≡ Compared relation exchanged
  pub order : exchanged ≡ true → is_order relation ≡ true

pub record TakesShift (op : BinOp) : Type 0 where
  pub up : Bool
  pub is : family_of op ≡ Shifted up

pub takes : (op : BinOp) → takes_number op ≡ true → TakesSum op ⊎ (TakesOrder op ⊎ TakesShift op)
takes Add q = inl (record { operator = Sum; is = refl; changed = refl })
takes Sub q = inl (record { operator = Difference; is = refl; changed = refl })
takes And q = inl (record { operator = BitAnd; is = refl; changed = refl })
takes Or q = inl (record { operator = BitOr; is = refl; changed = refl })
takes Lt q = inr (inl (record { relation = Less; exchanged = false; is = refl; order = λ z. refl }))
takes Gt q = inr (inl (record { relation = Less; exchanged = true; is = refl; order = λ z. refl }))
takes Le q = inr (inl (record { relation = NotLess; exchanged = true; is = refl; order = λ z. refl }))
takes Ge q = inr (inl (record { relation = NotLess; exchanged = false; is = refl; order = λ z. refl }))
takes Eq q = inr (inl (record { relation = Equal; exchanged = false; is = refl; order = λ z. absurd cc }))
takes Ne q = inr (inl (record { relation = NotEqual; exchanged = false; is = refl; order = λ z. absurd cc }))
takes Xor q = absurd cc
takes Mul q = absurd cc
takes Div q = absurd cc
takes Rem q = absurd cc
takes Shl q = inr (inr (record { up = true; is = refl }))
takes Shr q = inr (inr (record { up = false; is = refl }))

-- a comparison, with its operands exchanged or not
pub record ComparesSo (op : BinOp) : Type 0 where
  pub relation : Relation
  pub exchanged : Bool
  pub is : family_of op ≡ Compared relation exchanged

pub compares : (op : BinOp) → is_comparison op ≡ true → ComparesSo op
compares Lt q = record { relation = Less; exchanged = false; is = refl }
compares Gt q = record { relation = Less; exchanged = true; is = refl }
compares Le q = record { relation = NotLess; exchanged = true; is = refl }
compares Ge q = record { relation = NotLess; exchanged = false; is = refl }
compares Eq q = record { relation = Equal; exchanged = false; is = refl }
compares Ne q = record { relation = NotEqual; exchanged = false; is = refl }
compares op q = absurd cc

-- the operators of bytes that change no byte where that of the second operand is 0
abbrev pub is_joined : Operator → Bool
is_joined BitOr = true
is_joined BitXor = true
is_joined op = false

pub record Joins (op : BinOp) : Type 0 where
  pub operator : Operator
  pub is : family_of op ≡ Combined operator
  pub joined : is_joined operator ≡ true

pub joins : (op : BinOp) → changes_byte op ≡ true → Joins op
joins Or q = record { operator = BitOr; is = refl; joined = refl }
joins Xor q = record { operator = BitXor; is = refl; joined = refl }
joins op q = absurd cc

-- ---- what is known of a second operand: a number, or none

pub record TakenNumber : Type 0 where
  pub number : ℤ
  pub in_byte : Bool

abbrev pub as_known : TakenNumber → RightNumber
as_known k = record { number = Some k.number; in_byte = k.in_byte }

abbrev pub no_number : (in_byte : Bool) → RightNumber
no_number in_byte = record { number = None; in_byte = in_byte }

pub record HasNumber (k : RightNumber) : Type 0 where
  pub taken : TakenNumber
  pub is : k ≡ as_known taken

pub number_or_none : (k : RightNumber) → HasNumber k ⊎ (k ≡ no_number k.in_byte)
number_or_none k = by_number k.number refl
  where
    with_number : Option ℤ → RightNumber
    with_number x = record { number = x; in_byte = k.in_byte }

    by_number : (x : Option ℤ) → k.number ≡ x → HasNumber k ⊎ (k ≡ no_number k.in_byte)
    by_number None q = inr (ap with_number q)
    by_number (Some n) q = inl (record { taken = record { number = n; in_byte = k.in_byte }; is = ap with_number q })

-- what is taken is known
pub taken_is : (op : BinOp) (known : Option RightNumber) (k : RightNumber) → number_taken known false op ≡ Some k
    → (known ≡ Some k) × (takes_known k.number k.in_byte op ≡ true)
taken_is op None k q = absurd cc
taken_is op (Some x) k q = by_test (takes_known x.number x.in_byte op) refl q
  where
    by_test : (taken : Bool) → takes_known x.number x.in_byte op ≡ taken → (if taken then Some x else None) ≡ Some k
        → (Some x ≡ Some k) × (takes_known k.number k.in_byte op ≡ true)
    by_test true t r =
        let same : x ≡ k = cc in (r, subst (λ (z : RightNumber). takes_known z.number z.in_byte op ≡ true) same t)
    by_test false t r = absurd cc

-- no more bytes are compared than there are
pub compared_few : (k : RightNumber) (bytes : ℕ) → compared_bytes (Some k) bytes ≤ bytes
compared_few k bytes = by_test k.in_byte
  where
    by_test : (x : Bool) → (if x then min 1 bytes else bytes) ≤ bytes
    by_test true = omega arith
    by_test false = omega arith

-- and of a number that may be taken
pub compared_within : (known : Option RightNumber) (bytes : ℕ) → compared_bytes known bytes ≤ bytes
compared_within None bytes = omega arith
compared_within (Some k) bytes = compared_few k bytes

-- where that are less than a part of them, it is one
pub compared_one : (k : RightNumber) (bytes n : ℕ) → n ≤ bytes → compared_bytes (Some k) bytes < n → compared_bytes (Some k) bytes ≤ 1
compared_one k bytes n few = by_test k.in_byte
  where
    by_test : (x : Bool) → (if x then min 1 bytes else bytes) < n → (if x then min 1 bytes else bytes) ≤ 1
    by_test true l = omega arith
    by_test false l = absurd (omega (arith, few, l))

-- some bytes are compared where there are some
pub compared_some : (known : Option RightNumber) (bytes : ℕ) → 1 ≤ bytes → 1 ≤ compared_bytes known bytes
compared_some None bytes l = l
compared_some (Some k) bytes l = by_test k.in_byte
  where
    by_test : (x : Bool) → 1 ≤ (if x then min 1 bytes else bytes)
    by_test true = omega (arith, l)
    by_test false = l

-- ---- operators that move no pointer

unmoved : (op : BinOp) (aty bty : PlainType) → (is_pointer aty ≡ false) ⊎ (is_whole bty ≡ true) → moves_pointer op aty bty ≡ false
unmoved op aty bty (inl q) = ap (λ x. x && (not (is_whole bty) && is_sum_or_difference op)) q
unmoved op aty bty (inr q) = by_first (is_pointer aty)
  where
    by_first : (x : Bool) → (x && (not (is_whole bty) && is_sum_or_difference op)) ≡ false
    by_first true = ap (λ x. not x && is_sum_or_difference op) q
    by_first false = refl

-- those on integers
pub whole_unmoved : (op : BinOp) (aty bty : PlainType) → (is_whole aty || is_whole bty) ≡ false → moves_pointer op aty bty ≡ false
whole_unmoved op (pointer space const to) bty q = absurd cc
whole_unmoved op (fixed kind saturates) bty q = refl
whole_unmoved op void bty q = refl
whole_unmoved op (integer signed bytes) bty q = refl
whole_unmoved op (array of len) bty q = refl
whole_unmoved op (struct index) bty q = refl

-- and those with a fixed-point operand
pub no_pointer : (x : PlainType) → IsFixedType x → is_pointer x ≡ false
no_pointer (fixed kind saturates) h = refl
no_pointer (pointer space const to) h = absurd h
no_pointer void h = refl
no_pointer (integer signed bytes) h = refl
no_pointer (array of len) h = refl
no_pointer (struct index) h = refl

whole_type : (x : PlainType) → IsFixedType x → is_whole x ≡ true
whole_type (fixed kind saturates) h = refl
whole_type (pointer space const to) h = refl
whole_type void h = absurd h
whole_type (integer signed bytes) h = absurd h
whole_type (array of len) h = absurd h
whole_type (struct index) h = absurd h

pub fixed_unmoved : (op : BinOp) (aty bty : PlainType) → IsFixedType aty ⊎ IsFixedType bty → moves_pointer op aty bty ≡ false
fixed_unmoved op aty bty (inl h) = unmoved op aty bty (inl (no_pointer aty h))
fixed_unmoved op aty bty (inr h) = unmoved op aty bty (inr (whole_type bty h))

-- also as the second operand
pub turned_unmoved : (op : BinOp) (aty bty : PlainType) → IsFixedType aty ⊎ IsFixedType bty → moves_pointer op bty aty ≡ false
turned_unmoved op aty bty (inl h) = fixed_unmoved op bty aty (inr h)
turned_unmoved op aty bty (inr h) = fixed_unmoved op bty aty (inl h)

pub or_turned : (x y : Bool) → (x || y) ≡ false → (y || x) ≡ false
or_turned true y q = absurd cc
or_turned false true q = absurd cc
or_turned false false q = refl
