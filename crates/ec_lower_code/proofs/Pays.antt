-- The rows of the parts pay for their operations.
use Rattle.std.proofs.Common.{◌≡◌, ℕ, ◌+◌, ◌*◌, ◌≤◌, Bool, true, false, [], ◌∷◌, Option, Some, None, ap, ◌∙◌, arith}
use Rattle.std.specs.Prelude.{◌&&◌, ◌||◌, if◌then◌else◌, max}
use Rattle.ec_core.specs.declared.expressions.BinOp.{BinOp}
use Rattle.ec_core.specs.Operators.{same_type}
use Rattle.ec_core.specs.Layout.{scalar_size}
use Rattle.ec_core.specs.Plain.{PlainType, integer, OptionPlainExpr, no_expr, an_expr}
use Rattle.ec_core.specs.Typing.{unsigned_int, unsigned_long}
use Rattle.ec_core.specs.Words.{widest, operation_words, choice_words, return_words}
use Rattle.ec_ir.specs.declared.operations.Temp.{Temp}
use Rattle.ec_ir.specs.Costs.{op_words, branch_zero_words, is_bitwise, is_integer, conversion_words, binary_words, index_words}
use Rattle.ec_iohw.specs.declared.operations.IoOp.{IoOp}
use Rattle.ec_lower_code.specs.Code.{operand_temp, port_operator, read_from, write_to, Branch, where_zero, where_not}
use Rattle.ec_lower_code.proofs.PortOperators.{operator_bitwise}

pub simple_pays : (a b : ℕ) → 5 * a ≤ 30 + 10 * max a b
simple_pays a b = omega arith

pub unary_pays : (a b : ℕ) → 60 + 40 * a ≤ operation_words (max a b)
unary_pays a b = omega arith

pub within : (c : Bool) (x y z : ℕ) → x ≤ z → y ≤ z → (if c then x else y) ≤ z
within true x y z h k = h
within false x y z h k = k

operation_more : (b : ℕ) → 10 * b ≤ operation_words b
operation_more b = omega arith

conversion_more : (b : ℕ) → 100 + 40 * b ≤ operation_words b
conversion_more b = omega arith

same_more : (b : ℕ) → operation_words b ≤ operation_words b
same_more b = omega arith

pub binary_pays : (op : BinOp) (ty aty bty : PlainType) → binary_words op ty aty bty ≤ operation_words (widest (ty ∷ aty ∷ bty ∷ []))
binary_pays op ty aty bty =
    within (is_bitwise op && is_integer ty) _ _ _ (operation_more (widest (ty ∷ aty ∷ bty ∷ []))) (same_more (widest (ty ∷ aty ∷ bty ∷ [])))

pub conversion_pays : (ty from : PlainType) → conversion_words ty from ≤ operation_words (widest (ty ∷ from ∷ []))
conversion_pays ty from =
    within (same_type ty from || (is_integer ty && is_integer from)) _ _ _ (operation_more (widest (ty ∷ from ∷ [])))
    (conversion_more (widest (ty ∷ from ∷ [])))

-- the words of a branch on so many bytes
abbrev pub branch_cost : Branch → ℕ → ℕ
branch_cost (where_zero to) b = branch_zero_words b
branch_cost (where_not to past) b = branch_zero_words b + 5

pub branch_most : (to : Branch) (b : ℕ) → branch_cost to b ≤ branch_zero_words b + 5
branch_most (where_zero to) b = omega arith
branch_most (where_not to past) b = omega arith

-- the row of `!`, and that of `&&` or `||`, beside the branches of their operands
pub not_leads : (t a : ℕ) → branch_zero_words a + 5 ≤ choice_words (max t (max a 1))
not_leads t a = omega arith

pub both_lead : (t a b : ℕ) → branch_zero_words a + (branch_zero_words b + 10) ≤ choice_words (max t (max a (max b 1)))
both_lead t a b = omega arith

pub not_pays : (t a : ℕ) → t ≡ 2 → branch_zero_words a + (5 * t + 5) ≤ choice_words (max t (max a 1))
not_pays t a e = omega (arith, e)

pub and_pays : (t a b : ℕ) → t ≡ 2 → branch_zero_words a + (branch_zero_words b + (5 * t + 10)) ≤ choice_words (max t (max a (max b 1)))
and_pays t a b e = omega (arith, e)

pub choice_pays : (t c a b : ℕ) → branch_zero_words c + 5 ≤ choice_words (max t (max c (max a (max b 1))))
choice_pays t c a b = omega arith

-- ---- ports

-- the operation of an update, on unsigned values
pub update_words_are : (op : IoOp) (b : ℕ)
    → binary_words (port_operator op) (integer false b) (integer false b) (integer false b) ≡ 10 * max b 1
update_words_are op b =
    ap (λ c. if c && true then 10 * widest (integer false b ∷ integer false b ∷ integer false b ∷ []) else operation_words
    (widest (integer false b ∷ integer false b ∷ integer false b ∷ []))) (operator_bitwise op)
    ∙ omega arith

pub index_pays : (index : OptionPlainExpr) (t : ℕ) → index_words (operand_temp index t) ≤ 40
index_pays no_expr t = omega arith
index_pays (an_expr e) t = omega arith

-- an access of a port, whose address counts from a cell or does not
pub read_pays : (dynamic : Option ℕ) (to : Temp) (address : ℕ) (index : OptionPlainExpr) (t width : ℕ)
    → op_words (read_from dynamic to address (operand_temp index t) width) ≤ 40 + 10 * width + 5 * to.bytes
read_pays None to address index t width = let i = index_pays index t in omega (arith, i)
read_pays (Some d) to address index t width = omega arith

pub write_pays : (dynamic : Option ℕ) (from : Temp) (address : ℕ) (index : OptionPlainExpr) (t width : ℕ)
    → op_words (write_to dynamic from address (operand_temp index t) width) ≤ 40 + 10 * width + 5 * from.bytes
write_pays None from address index t width = let i = index_pays index t in omega (arith, i)
write_pays (Some d) from address index t width = omega arith

-- the bytes of the values of a port operation
pub port_bytes : (long : Bool) → scalar_size (if long then unsigned_long else unsigned_int) ≤ 4
port_bytes true = omega arith
port_bytes false = omega arith

pub return_pays : (a : ℕ) → 40 + 5 * a ≤ return_words (max a 1)
return_pays a = omega arith
