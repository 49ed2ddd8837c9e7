-- A valid expression with the form of a constant is a constant expression.
use Rattle.std.proofs.Common.{◌≡◌, ℕ, refl, sym, subst, inl, inr}
use Rattle.std.specs.Prelude.{IsSomeAnd}
use Rattle.ec_iohw.specs.declared.table.IoTable.{IoTable}
use Rattle.ec_core.specs.declared.arithmetic_types.Arithmetic.{Arithmetic}
use Rattle.ec_core.specs.declared.expressions.BinOp.{BinOp}
use Rattle.ec_core.specs.ArithmeticTypes.{arithmetic_of}
use Rattle.ec_core.specs.ArithmeticValues.{HoldsNumber}
use Rattle.ec_core.specs.Operators.{number_type}
use Rattle.ec_core.specs.Plain.{PlainType, void, integer, fixed, pointer, array, struct, PlainExpr, expression, PlainNode, number, null}
use Rattle.ec_core.specs.Plain.{load, address_of, unary, binary, convert, assign, compound, step, logical_not, logical_and, logical_or}
use Rattle.ec_core.specs.Plain.{conditional, comma, call, io, group, bind, dynamic_group, PlainProgram}
use Rattle.ec_core.specs.Typing.{int, type_of_expr, IsTyped, HaveUnaryTypes, HaveArithmeticTypes, HaveBinaryTypes, AreConvertible}
use Rattle.ec_core.specs.Valid.{IsExprType, ValidExpr, ValidParts}
use Rattle.ec_check_constants.specs.Constants.{HasConstantForm, IsConstantForm, IsNumeric, IsConstant, IsConstantNode}

-- ---- types

module _ (p : PlainProgram) where
  -- what holds of the arithmetic type that a type is
  arithmetic_and : (ty : PlainType) (P : Arithmetic → Type 0) → IsExprType p ty → IsSomeAnd (arithmetic_of ty) P
      → IsNumeric ty × P (number_type ty)
  arithmetic_and void P k h = absurd h
  arithmetic_and (integer signed bytes) P k h = (k, h)
  arithmetic_and (fixed kind saturates) P k h = (tt, h)
  arithmetic_and (pointer space const to) P k h = absurd h
  arithmetic_and (array of len) P k h = absurd h
  arithmetic_and (struct index) P k h = absurd h

  binary_types : (op : BinOp) (ty a b : PlainType) → IsExprType p ty → IsNumeric a → IsNumeric b → HaveBinaryTypes op ty a b
      → IsNumeric ty × HaveArithmeticTypes op (number_type ty) (number_type a) (number_type b)
  binary_types op ty void b k m n h = absurd m
  binary_types op ty (pointer space const to) b k m n h = absurd m
  binary_types op ty (array of len) b k m n h = absurd m
  binary_types op ty (struct index) b k m n h = absurd m
  binary_types op ty (integer signed bytes) void k m n h = absurd n
  binary_types op ty (integer signed bytes) (pointer space const to) k m n h = absurd n
  binary_types op ty (integer signed bytes) (array of len) k m n h = absurd n
  binary_types op ty (integer signed bytes) (struct index) k m n h = absurd n
  binary_types op ty (integer signed bytes) (integer s b) k m n h = arithmetic_and ty _ k h
  binary_types op ty (integer signed bytes) (fixed kind saturates) k m n h = arithmetic_and ty _ k h
  binary_types op ty (fixed kind saturates) void k m n h = absurd n
  binary_types op ty (fixed kind saturates) (pointer space const to) k m n h = absurd n
  binary_types op ty (fixed kind saturates) (array of len) k m n h = absurd n
  binary_types op ty (fixed kind saturates) (struct index) k m n h = absurd n
  binary_types op ty (fixed kind saturates) (integer s b) k m n h = arithmetic_and ty _ k h
  binary_types op ty (fixed kind saturates) (fixed other s) k m n h = arithmetic_and ty _ k h

  converted_type : (ty a : PlainType) → IsExprType p ty → IsNumeric a → AreConvertible ty a → IsNumeric ty
  converted_type void a k m h = absurd h
  converted_type (integer signed bytes) a k m h = k
  converted_type (fixed kind saturates) a k m h = tt
  converted_type (pointer space const to) void k m h = absurd m
  converted_type (pointer space const to) (integer signed bytes) k m h = absurd h
  converted_type (pointer space const to) (fixed kind saturates) k m h = absurd h
  converted_type (pointer space const to) (pointer s c t) k m h = absurd m
  converted_type (pointer space const to) (array of len) k m h = absurd m
  converted_type (pointer space const to) (struct index) k m h = absurd m
  converted_type (array of len) a k m h = absurd k
  converted_type (struct index) a k m h = absurd k

int_numeric : (ty : PlainType) → ty ≡ int → IsNumeric ty
int_numeric ty e = subst (λ (z : PlainType). IsNumeric z) (sym e) (inr (inl refl))

numeric_of : (e : PlainExpr) → IsConstant e → IsNumeric (type_of_expr e)
numeric_of (expression ty mode node) h = h.0

-- ---- expressions

module _ (p : PlainProgram) (table : IoTable) (f : ℕ) where
  mutual
    pub constant_of : (e : PlainExpr) → ValidExpr p table f e → HasConstantForm e → IsConstant e
    constant_of (expression ty mode node) v h = node_constant_of ty node v.0 v.1 v.2 h

    node_constant_of : (ty : PlainType) (node : PlainNode) → IsExprType p ty → IsTyped p table ty node → ValidParts p table f node
        → IsConstantForm node → IsNumeric ty × IsConstantNode ty node
    node_constant_of ty (number n) k t v h = arithmetic_and p ty (λ a. HoldsNumber a n) k t
    node_constant_of ty null k t v h = absurd h
    node_constant_of ty (load q) k t v h = absurd h
    node_constant_of ty (address_of q) k t v h = absurd h
    node_constant_of ty (unary op a) k t v h =
        let u = arithmetic_and p ty (HaveUnaryTypes op) k t.1 in (u.0, (constant_of a v h, t.0, u.1))
    node_constant_of ty (binary op a b) k t v h =
        let x = constant_of a v.0 h.0 in
        let y = constant_of b v.1 h.1 in
        let u = binary_types p op ty (type_of_expr a) (type_of_expr b) k (numeric_of a x) (numeric_of b y) t in
        (u.0, (x, y, u.1))
    node_constant_of ty (convert a) k t v h =
        let x = constant_of a v h in (converted_type p ty (type_of_expr a) k (numeric_of a x) t.1, x)
    node_constant_of ty (assign q a) k t v h = absurd h
    node_constant_of ty (compound op mode q a) k t v h = absurd h
    node_constant_of ty (step up prefix q) k t v h = absurd h
    node_constant_of ty (logical_not a) k t v h = (int_numeric ty t.1, (constant_of a v h, t.1))
    node_constant_of ty (logical_and a b) k t v h =
        (int_numeric ty t.2, (constant_of a v.0 h.0, constant_of b v.1 h.1, t.2))
    node_constant_of ty (logical_or a b) k t v h =
        (int_numeric ty t.2, (constant_of a v.0 h.0, constant_of b v.1 h.1, t.2))
    node_constant_of ty (conditional c a b) k t v h =
        let x = constant_of a v.1 h.1 in
        (subst (λ (z : PlainType). IsNumeric z) t.2 (numeric_of a x), (constant_of c v.0 h.0, x, constant_of b v.2 h.2, t.2, t.3))
    node_constant_of ty (comma a b) k t v h = absurd h
    node_constant_of ty (call g args) k t v h = absurd h
    node_constant_of ty (io op port index value) k t v h = absurd h
    node_constant_of ty (group acquire g) k t v h = absurd h
    node_constant_of ty (bind d choice) k t v h = absurd h
    node_constant_of ty (dynamic_group acquire d) k t v h = absurd h
