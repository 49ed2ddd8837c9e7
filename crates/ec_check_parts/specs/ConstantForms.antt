-- Constant expressions, in words (ISO/IEC 9899:1999, 6.6): constants, `sizeof`, casts, unary `+ - ~ !`, binary operators, `&&`, `||` and
-- `?:`, in parentheses or not; and none of their casts gives a pointer.
use Rattle.std.specs.Prelude.{⊤}
use Rattle.ec_check_operands.specs.Operands.{Operand, value_type}
use Rattle.ec_check_forms.specs.declared.prefixes.PrefixOp.{PrefixOp}
use Rattle.ec_check_forms.specs.declared.prefixes.PrefixOp.TheVariants.{Plus, Minus, Invert, Not}
use Rattle.ec_check_forms.specs.Constraints.{IsPointer}
use Rattle.ec_check_expressions.specs.Known.{Known}
use Rattle.ec_check_meanings.specs.Means.{Means}
use Rattle.ec_check_meanings.specs.Terms.{Term, constant, size, parenthesised, prefixed, cast, binary, logical, choice}

-- the operators on values, which `&` and `*` are not
abbrev pub IsValueOperator : PrefixOp → Type 0
IsValueOperator Plus = ⊤
IsValueOperator Minus = ⊤
IsValueOperator Invert = ⊤
IsValueOperator Not = ⊤
IsValueOperator op = ⊥

abbrev pub MeansPointer : Known → Term → Type 0
MeansPointer k x = (o : Operand) × Means k x o × IsPointer (value_type o)

abbrev pub IsConstantTerm : Known → Term → Type 0
IsConstantTerm k (constant at c) = ⊤
IsConstantTerm k (size at n) = ⊤
IsConstantTerm k (parenthesised at x) = IsConstantTerm k x
IsConstantTerm k (prefixed at op x) = IsValueOperator op × IsConstantTerm k x
IsConstantTerm k (cast at n x) = IsConstantTerm k x × (¬ MeansPointer k (cast at n x))
IsConstantTerm k (binary x at op y) = IsConstantTerm k x × IsConstantTerm k y
IsConstantTerm k (logical x at both y) = IsConstantTerm k x × IsConstantTerm k y
IsConstantTerm k (choice c at x y) = IsConstantTerm k c × IsConstantTerm k x × IsConstantTerm k y
IsConstantTerm k other = ⊥
