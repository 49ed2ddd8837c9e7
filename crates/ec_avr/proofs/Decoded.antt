-- What stands in the flash, decoded ahead.
use Rattle.std.proofs.Common.{◌≡◌, ◌∙◌, ℕ, zero, suc, List, [], ◌∷◌, ◌++◌, length, Option, Some, None, Result, Ok, Err, IsTrue, IfSome}
use Rattle.std.proofs.Common.{OnOk, OnErr, sym}
use Rattle.std.specs.List.{slice_get}
use Rattle.ec_avr.specs.Decoded.{decoded_at, AreDecoded}
use Rattle.ec_isa.specs.declared.instructions.Instr.{Instr}
use Rattle.ec_isa.specs.Table.{in_table}
use Rattle.ec_isa.specs.Reading.{instruction_at}
use Rattle.ec_isa.proofs.InstructionAt.{instruction_is}

-- what two words decode to is in the table
pub decoded_in_table : (found : Option Instr) (w0 w1 : ℕ) → found ≡ instruction_at w0 w1 → IfSome found (λ i. IsTrue (in_table i))
decoded_in_table None w0 w1 same = tt
decoded_in_table (Some i) w0 w1 same = ((instruction_is i w0 w1).0 (sym same)).in_range

appended : {X : Type 0} → (f : ℕ → X) (xs : List X) (y : X) → ((at : ℕ) (x : X) → slice_get xs at ≡ Some x → x ≡ f at) → y ≡ f (length xs)
    → (at : ℕ) (x : X) → slice_get (xs ++ y ∷ []) at ≡ Some x → x ≡ f at
appended f [] y known next zero x e = let same : y ≡ x = cc in sym same ∙ next
appended f [] y known next (suc at) x e = cc
appended f (z ∷ zs) y known next zero x e = known zero x e
appended f (z ∷ zs) y known next (suc at) x e = appended (λ n. f (suc n)) zs y (λ n. known (suc n)) next at x e

-- one word more is decoded, or none
pub decoded_on : {E : Type 0} → (flash : List ℕ) (entries later : List (Option Instr)) (found : Option Instr) (result : Result (Unit {0}) E)
    → AreDecoded flash entries
    → found ≡ decoded_at flash (length entries) → OnOk result (later ≡ entries ++ found ∷ []) → OnErr result (later ≡ entries)
    → AreDecoded flash later
decoded_on flash entries later found (Ok u) known next ok err = rw ok (appended (decoded_at flash) entries found known next)
decoded_on flash entries later found (Err e) known next ok err = rw err known
