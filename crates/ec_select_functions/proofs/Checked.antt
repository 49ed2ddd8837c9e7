-- Runs that have no meaning as soon as an operand of a binary operator, or what a branch tests or a store takes, does not
-- hold what is known of it.
use Rattle.std.proofs.Common.{◌≡◌, ℕ, suc, Bool, true, false, List, [], ◌∷◌, refl}
use Rattle.std.specs.Prelude.{if◌then◌else◌}
use Rattle.ec_asm.specs.Change.{Env}
use Rattle.ec_asm.specs.View.{View}
use Rattle.ec_core.specs.declared.values.Undefined.TheVariants.{Access as NoAccess}
use Rattle.ec_core.specs.declared.values.Value.{Value}
use Rattle.ec_core.specs.Plain.{PlainProgram}
use Rattle.ec_core.specs.State.{Inputs, worked, Outcome, undefined}
use Rattle.ec_ir.specs.Costs.{op_steps}
use Rattle.ec_ir.specs.Meaning.{Mach, Frame, perform}
use Rattle.ec_ir.specs.Operations.{PlainIr, binary_op, branch_zero, store_object, PlainIrFunction}
use Rattle.ec_ir_known.specs.Known.{known_at}
use Rattle.ec_ir_known.specs.Laws.{are_held, checked_from}
use Rattle.ec_select_functions.proofs.Follow.{Follows}

-- the places that are looked at before an operation
abbrev pub operand_places : List PlainIr → List ℕ
operand_places (binary_op op ty mode to a aty b bty ∷ rest) = b.at ∷ a.at ∷ []
operand_places (branch_zero t l ∷ rest) = t.at ∷ []
operand_places (store_object o offset t ∷ rest) = t.at ∷ []
operand_places code = []

-- whether they hold what is known of them
abbrev pub is_known : (code rest : List PlainIr) → Mach → Bool
is_known code rest m = are_held (known_at code rest) m.temps (operand_places rest)

module _ (functions : List PlainIrFunction) (p : PlainProgram) (inputs : Inputs) where
  -- at most n operations that count, from some operations of a function on
  abbrev pub checked_on : ℕ → List PlainIr → List Frame → List PlainIr → Mach → Outcome Value
  checked_on n code stack rest m = checked_from operand_places functions p inputs n code stack rest m

  -- an operation, and those behind it
  abbrev pub performed : ℕ → List PlainIr → List Frame → PlainIr → List PlainIr → Mach → Outcome Value
  performed n code stack i rest m =
      perform functions p inputs i (λ u. checked_on (suc n) code stack rest u)
      (λ q u. checked_on n q.code q.stack q.rest u) code stack rest m.temps (worked (op_steps i) m.state)

  -- what is shown of an operation where its operands hold what is known of them
  pub checked : (place : ℕ → ℕ) (e : Env) (n k w pc : ℕ) (v : View) (code : List PlainIr) (stack : List Frame) (i : PlainIr)
      (rest : List PlainIr) (m : Mach)
      → (is_known code (i ∷ rest) m ≡ true → Follows p place e k w pc v (performed n code stack i rest m))
      → Follows p place e k w pc v (checked_on (suc n) code stack (i ∷ rest) m)
  checked place e n k w pc v code stack i rest m f = by_test (is_known code (i ∷ rest) m) refl
    where
      by_test : (b : Bool) → is_known code (i ∷ rest) m ≡ b
          → Follows p place e k w pc v (if b then performed n code stack i rest m else undefined NoAccess m.state)
      by_test true q = f q
      by_test false q = tt
