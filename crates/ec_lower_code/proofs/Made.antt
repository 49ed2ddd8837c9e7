-- The operations of a program are made of its functions.
use Rattle.std.proofs.Common.{◌≡◌, ℕ, Some, refl, sym, ap, ◌∙◌, subst}
use Rattle.std.specs.Prelude.{slice_get, option_map}
use Rattle.std.proofs.lemmas.Option.{slice_get-map}
use Rattle.ec_core.specs.Plain.{PlainFunction, PlainProgram}
use Rattle.ec_core.specs.PortTable.{PlainTable, plain_table}
use Rattle.ec_ir.specs.Operations.{PlainIrFunction}
use Rattle.ec_lower_code.specs.Code.{lowered_function, lowered}
use Rattle.ec_lower_code.specs.Correct.{IsLoweredFunction, LoweredIsMadeOf}
use Rattle.ec_lower_code.proofs.Fits.{words_fit}
use Rattle.ec_lower_code.proofs.Labels.{function_counts}
use Rattle.ec_lower_code.proofs.Reached.{function_called}
use Rattle.ec_lower_code.proofs.Rules.{lowered_is_valid}
use Rattle.ec_lower_code.proofs.Tables.{HaveFewChoices, few_choices}

module _ (program : PlainProgram) (table : PlainTable) (few : HaveFewChoices table) where
  of_function : (f : PlainFunction) → IsLoweredFunction f (lowered_function program table f)
  of_function f = record { labels = function_counts program table few f; places = refl; calls = function_called program table f }

  of_number : (n : ℕ) (f : PlainFunction) (g : PlainIrFunction) → slice_get program.functions n ≡ Some f
      → slice_get (lowered program table).functions n ≡ Some g → IsLoweredFunction f g
  of_number n f g e h =
      let same : Some (lowered_function program table f) ≡ Some g = sym (ap (option_map (lowered_function program table)) e)
      ∙ (sym (slice_get-map (lowered_function program table) program.functions n) ∙ h) in
      let is : lowered_function program table f ≡ g = cc in
      subst (IsLoweredFunction f) is (of_function f)

pub made : LoweredIsMadeOf
made program io valid pairs =
    record {
      valid = lowered_is_valid program io valid pairs;
      functions = of_number program (plain_table io) (few_choices io valid.ports pairs);
      words = words_fit program io valid;
    }
