-- Operations whose code stands once: where a routine finds its operands and leaves its result, and the code that calls it.
use Rattle.std.specs.Prelude.{ℕ, suc, Bool, List, [], ◌∷◌, ◌++◌}
use Rattle.ec_fx.specs.declared.numbers.Mode.{Mode}
use Rattle.ec_asm.specs.declared.items.AsmItem.{AsmItem}
use Rattle.ec_asm.specs.declared.items.AsmItem.TheVariants.{CallTo}
use Rattle.ec_asm.specs.declared.pieces.Location.{Location}
use Rattle.ec_asm.specs.declared.pieces.Location.TheVariants.{InMemory}
use Rattle.ec_asm.specs.Pieces.{copy_code}
use Rattle.ec_core.specs.declared.expressions.BinOp.{BinOp}
use Rattle.ec_core.specs.declared.expressions.UnOp.{UnOp}
use Rattle.ec_core.specs.Plain.{PlainType}
use Rattle.ec_select_fixed.specs.Codes.{fixed_binary_code, fixed_unary_code, fixed_conversion_code}
use Rattle.ec_select_quotients.specs.Signs.{quotient_code}

-- ---- the work bytes: 40 that a routine works in, and behind them 8 each for its result and its operands

abbrev pub work_place : Location
work_place = InMemory 1280 0

abbrev pub answer_place : Location
answer_place = InMemory 1280 40

abbrev pub first_place : Location
first_place = InMemory 1280 48

abbrev pub second_place : Location
second_place = InMemory 1280 56

-- ---- bodies

abbrev pub binary_body : BinOp → (ty aty bty : PlainType) → Mode → List AsmItem
binary_body op ty aty bty mode = fixed_binary_code op ty aty bty mode first_place second_place answer_place work_place

abbrev pub unary_body : UnOp → PlainType → Mode → List AsmItem
unary_body op ty mode = fixed_unary_code op ty mode first_place answer_place work_place

abbrev pub conversion_body : (ty aty : PlainType) → Mode → List AsmItem
conversion_body ty aty mode = fixed_conversion_code ty aty mode first_place answer_place work_place

-- the number is brought to the result's place, and divided there with all its bytes, which are top + 1
abbrev pub quotient_body : (remainder signed : Bool) → (top : ℕ) → List AsmItem
quotient_body r signed top =
    copy_code first_place answer_place (suc top) ++ quotient_code r signed answer_place second_place top

-- ---- calls of the routine with label l

-- with an operand of n bytes
abbrev pub call_with_one : (p : Location) → (n l : ℕ) → List AsmItem
call_with_one p n l = copy_code p first_place n ++ CallTo l ∷ []

-- with two operands, of n and m bytes
abbrev pub call_with_two : (p q : Location) → (n m l : ℕ) → List AsmItem
call_with_two p q n m l = copy_code p first_place n ++ (copy_code q second_place m ++ CallTo l ∷ [])
