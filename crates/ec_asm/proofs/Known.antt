-- An instruction that is read from the flash is one of the table.
use Rattle.std.proofs.Common.{◌≡◌, ℕ, Bool, true, false, Some, None, Option, refl, subst}
use Rattle.std.specs.Prelude.{IsTrue}
use Rattle.std.proofs.lemmas.Option.{cond_some}
use Rattle.ec_isa.specs.declared.instructions.Instr.{Instr}
use Rattle.ec_isa.specs.Formats.{words_of}
use Rattle.ec_isa.specs.Table.{row, in_table}
use Rattle.ec_isa.specs.Reading.{candidate, confirmed, are_words, instruction_at}

in_range_of : (b : Bool) (first : ℕ) (second : Option ℕ) (w0 w1 : ℕ)
    → IsTrue (are_words (words_of (record { in_range = b; first = first; second = second })) w0 w1) → IsTrue b
in_range_of true first second w0 w1 h = refl
in_range_of false first second w0 w1 h = cc

confirmed_known : (o : Option Instr) (i : Instr) (w0 w1 : ℕ) → confirmed o w0 w1 ≡ Some i → IsTrue (in_table i)
confirmed_known None i w0 w1 h = cc
confirmed_known (Some j) i w0 w1 h =
    let c = cond_some (are_words (words_of (row j)) w0 w1) j i h in
    subst (λ x. IsTrue (in_table x)) c.1 (in_range_of (row j).in_range (row j).first (row j).second w0 w1 c.0)

pub known : (w0 w1 : ℕ) (i : Instr) → instruction_at w0 w1 ≡ Some i → IsTrue (in_table i)
unfolding instruction_at
known w0 w1 i h = confirmed_known (candidate w0 w1) i w0 w1 h
