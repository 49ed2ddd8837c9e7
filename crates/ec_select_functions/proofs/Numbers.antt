-- What operators on integers and results of main are, in bytes.
use Rattle.std.proofs.Common.{◌≡◌, ℕ, ◌*◌, ◌^◌, ◌<◌, ◌≤◌, ⊎_elim, Bool, true, ℤ, Ok, refl, sym, subst, arith, bit_and}
use Rattle.std.proofs.Common.{bit_or, bit_xor, leb-true, leb-false}
use Rattle.std.specs.Prelude.{nat_le}
use Rattle.std.specs.Int.{cast_signed, w16}
use Rattle.std.proofs.lemmas.Int.{ints}
use Rattle.std.proofs.lemmas.Bool.{cases_Bool}
use Rattle.ec_fx.specs.declared.numbers.Mode.{Mode}
use Rattle.ec_asm.specs.declared.pieces.Operator.{Operator}
use Rattle.ec_asm.specs.declared.pieces.Operator.TheVariants.{Sum, Difference, BitAnd, BitOr, BitXor}
use Rattle.ec_core.specs.declared.expressions.BinOp.{BinOp}
use Rattle.ec_core.specs.declared.expressions.BinOp.TheVariants.{Add, Sub, Mul, Div, Rem, Shl, Shr, And, Or, Xor, Lt}
use Rattle.ec_core.specs.declared.expressions.BinOp.TheVariants.{Gt, Le, Ge, Eq, Ne}
use Rattle.ec_core.specs.declared.values.Value.TheVariants.{Number}
use Rattle.ec_core.specs.Accesses.{operand_of}
use Rattle.ec_core.specs.Operators.{binary_result}
use Rattle.ec_core.specs.Plain.{integer, PlainProgram}
use Rattle.ec_core.specs.State.{State}
use Rattle.ec_ir.specs.Temporaries.{low_bytes, number_of_bytes}
use Rattle.ec_select_operations.specs.declared.families.Family.TheVariants.{Combined}
use Rattle.ec_select_operations.specs.Code.{family_of}
use Rattle.ec_select_functions.proofs.Computed.{result_of}
use Rattle.ec_select_functions.proofs.Wrapped.{low_of_sum, low_of_difference, low_of_bits}

-- the number that an operator gives for two numbers of b bytes
pub record Gives (op : BinOp) (f : Operator) (p : PlainProgram) (mode : Mode) (s s1 s2 : Bool) (b x z : ℕ) (st st1 : State) : Type 0 where
  pub number : ℤ
  pub is : binary_result op (integer s b) mode (operand_of p (integer s1 b) (Number (number_of_bytes s1 b x)) st)
      (operand_of p (integer s2 b) (Number (number_of_bytes s2 b z)) st1) ≡ Ok (Number number)
  pub low : low_bytes b number ≡ result_of f b x z

pub gives : (op : BinOp) (f : Operator) → family_of op ≡ Combined f → (p : PlainProgram) (mode : Mode) (s s1 s2 : Bool)
    (b x z : ℕ) (st st1 : State) → x < 256 ^ b → z < 256 ^ b → Gives op f p mode s s1 s2 b x z st st1
gives Add Sum h p mode s s1 s2 b x z st st1 l k = record { number = _; is = refl; low = low_of_sum s1 s2 s b x z }
gives Sub Difference h p mode s s1 s2 b x z st st1 l k =
    record { number = _; is = refl; low = low_of_difference s1 s2 s b x z (omega arith) }
gives And BitAnd h p mode s s1 s2 b x z st st1 l k =
    record { number = _; is = refl; low = low_of_bits bit_and s1 s2 s b x z l k }
gives Or BitOr h p mode s s1 s2 b x z st st1 l k =
    record { number = _; is = refl; low = low_of_bits bit_or s1 s2 s b x z l k }
gives Xor BitXor h p mode s s1 s2 b x z st st1 l k =
    record { number = _; is = refl; low = low_of_bits bit_xor s1 s2 s b x z l k }
gives Add Difference h p mode s s1 s2 b x z st st1 l k = absurd cc
gives Add BitAnd h p mode s s1 s2 b x z st st1 l k = absurd cc
gives Add BitOr h p mode s s1 s2 b x z st st1 l k = absurd cc
gives Add BitXor h p mode s s1 s2 b x z st st1 l k = absurd cc
gives Sub Sum h p mode s s1 s2 b x z st st1 l k = absurd cc
gives Sub BitAnd h p mode s s1 s2 b x z st st1 l k = absurd cc
gives Sub BitOr h p mode s s1 s2 b x z st st1 l k = absurd cc
gives Sub BitXor h p mode s s1 s2 b x z st st1 l k = absurd cc
gives And Sum h p mode s s1 s2 b x z st st1 l k = absurd cc
gives And Difference h p mode s s1 s2 b x z st st1 l k = absurd cc
gives And BitOr h p mode s s1 s2 b x z st st1 l k = absurd cc
gives And BitXor h p mode s s1 s2 b x z st st1 l k = absurd cc
gives Or Sum h p mode s s1 s2 b x z st st1 l k = absurd cc
gives Or Difference h p mode s s1 s2 b x z st st1 l k = absurd cc
gives Or BitAnd h p mode s s1 s2 b x z st st1 l k = absurd cc
gives Or BitXor h p mode s s1 s2 b x z st st1 l k = absurd cc
gives Xor Sum h p mode s s1 s2 b x z st st1 l k = absurd cc
gives Xor Difference h p mode s s1 s2 b x z st st1 l k = absurd cc
gives Xor BitAnd h p mode s s1 s2 b x z st st1 l k = absurd cc
gives Xor BitOr h p mode s s1 s2 b x z st st1 l k = absurd cc
gives Mul f h p mode s s1 s2 b x z st st1 l k = absurd cc
gives Div f h p mode s s1 s2 b x z st st1 l k = absurd cc
gives Rem f h p mode s s1 s2 b x z st st1 l k = absurd cc
gives Shl f h p mode s s1 s2 b x z st st1 l k = absurd cc
gives Shr f h p mode s s1 s2 b x z st st1 l k = absurd cc
gives Lt f h p mode s s1 s2 b x z st st1 l k = absurd cc
gives Gt f h p mode s s1 s2 b x z st st1 l k = absurd cc
gives Le f h p mode s s1 s2 b x z st st1 l k = absurd cc
gives Ge f h p mode s s1 s2 b x z st st1 l k = absurd cc
gives Eq f h p mode s s1 s2 b x z st st1 l k = absurd cc
gives Ne f h p mode s s1 s2 b x z st st1 l k = absurd cc

-- the same where the operands' bytes are as many
pub record GivesOf (op : BinOp) (f : Operator) (p : PlainProgram) (mode : Mode) (s s1 s2 : Bool) (b b1 b2 x z : ℕ)
    (st st1 : State) : Type 0 where
  pub number : ℤ
  pub is : binary_result op (integer s b) mode (operand_of p (integer s1 b1) (Number (number_of_bytes s1 b1 x)) st)
      (operand_of p (integer s2 b2) (Number (number_of_bytes s2 b2 z)) st1) ≡ Ok (Number number)
  pub low : low_bytes b number ≡ result_of f b x z

pub gives_of : (op : BinOp) (f : Operator) → family_of op ≡ Combined f → (p : PlainProgram) (mode : Mode)
    (s s1 s2 : Bool) (b b1 b2 x z : ℕ) (st st1 : State) → b1 ≡ b → b2 ≡ b → x < 256 ^ b → z < 256 ^ b
    → GivesOf op f p mode s s1 s2 b b1 b2 x z st st1
gives_of op f h p mode s s1 s2 b b1 b2 x z st st1 q r l k =
    let g = gives op f h p mode s s1 s2 b x z st st1 l k in
    subst (λ i. GivesOf op f p mode s s1 s2 b i b2 x z st st1) (sym q)
    (subst (λ i. GivesOf op f p mode s s1 s2 b b i x z st st1) (sym r) (record { number = g.number; is = g.is; low = g.low }))

-- main's result
pub signed_word : (low : ℕ) → low < 65536 → cast_signed w16 low ≡ number_of_bytes true 2 low
signed_word low l =
    ⊎_elim
    (λ t. let g : 65536 ≤ 2 * low = leb-true 65536 (2 * low) t in rw t (grind (arith, ints)))
    (λ t. let g : 2 * low < 65536 = leb-false 65536 (2 * low) t in rw t (omega (arith, ints)))
    (cases_Bool (nat_le 65536 (2 * low)))
